-- Demands that the code tests one by one, each as `if !test { refuse }`. Assumes nothing.
use Rattle.std.specs.Prelude.{◌≡◌, refl, Bool, true, false, not, ◌&&◌, List, [], ◌∷◌, ℕ, zero, suc, min, ltb}
use Rattle.std.proofs.Common.{sym, ◌∙◌, inl, inr, arith, lt-ltb, ltb-true, ltb-false}
use Rattle.std.proofs.lemmas.Bool.{not-true, not-false}
use Rattle.lists.specs.Tests.{tests, tell, and_is, and_in, no_way}
use Rattle.rules.specs.Load.{Sofar}
use Rattle.rules.specs.Model.{move_ok}
use Rattle.rules.specs.Moves.{pack, source}
use Rattle.rules.specs.Records.{Turn, no, demand}
use Rattle.words.specs.WordLaws.{parts-pack}
use Rattle.model_judge.specs.Progress.{Kept}

-- The demands before number k were met, and k was not.
abbrev pub Fails : ℕ → List (ℕ × Bool) → Type 0
Fails k [] = ⊥
Fails zero (d ∷ ds) = not d.1 ≡ true
Fails (suc k) (d ∷ ds) = (not d.1 ≡ false) × Fails k ds

-- All demands were met.
abbrev pub Meets : List (ℕ × Bool) → Type 0
Meets [] = Unit {0}
Meets (d ∷ ds) = (not d.1 ≡ false) × Meets ds

-- The number of the refusal that belongs to demand k.
abbrev pub raised : ℕ → List (ℕ × Bool) → ℕ
raised k [] = 0
raised zero (d ∷ ds) = d.0
raised (suc k) (d ∷ ds) = raised k ds

-- The first demand that fails refuses.
pub fails : {S : Type 0} (k : ℕ) (ds : List (ℕ × Bool)) (t : Turn S) → Fails k ds → no (raised k ds) ≡ demand ds t
fails k [] t e = absurd e
fails zero (d ∷ ds) t e = rw (not-true d.1 e) refl
fails (suc k) (d ∷ ds) t e = rw (not-false d.1 e.0) (fails k ds t e.1)

-- Demands that are met let the record pass.
pub meets : {S : Type 0} (ds : List (ℕ × Bool)) (t : Turn S) → Meets ds → t ≡ demand ds t
meets [] t e = refl
meets (d ∷ ds) t e = rw (not-false d.1 e.0) (meets ds t e.1)

-- Below two numbers is below the smaller.
pub below_both : (a b c : ℕ) → (ltb a b && ltb a c) ≡ ltb a (min b c)
below_both a b c =
    elim (tell true (ltb a (min b c))) [
      | inl t ↦ let h = ltb-true a (min b c) t in and_in (lt-ltb a b (omega arith)) (lt-ltb a c (omega arith)) ∙ sym t
      | inr t ↦
          let h = ltb-false a (min b c) t in
          no_way _ (λ e. let k = (and_is (ltb a b) (ltb a c)).0 e in let p = ltb-true a b k.0 in let q = ltb-true a c k.1 in omega arith) ∙ sym t
    ]

-- The source of a move in range is told by its number.
pub source-back : (x : Sofar) (s a t : ℕ) → Kept x → move_ok x.sizes s a t ≡ true → source (pack s a t) ≡ s
unfolding move_ok
source-back x s a t k h = let f = simp tests at h in (parts-pack s a t (omega arith) (omega arith)).0
