-- Hard pairs: those that need their block's own value at all operands. While settling, a hard pair that leans on one that has
-- turned must turn, if it has its block's own value, and need not be evaluated.
-- Assumes nothing.
use Rattle.std.specs.Prelude.{◌≡◌, refl, Bool, true, false, not, ◌&&◌, List, [], ◌∷◌, ℕ}
use Rattle.std.proofs.Common.{sym, ap, ◌∙◌, subst, inl, inr}
use mathlib.Core.List.Memᴰ
use Rattle.lists.specs.Lists.{is}
use Rattle.lists.specs.Tests.{◌∈◌}
use Rattle.systems.specs.solution.System.{Frame, Leans, Values, op, ev, eval}
use Rattle.systems.specs.machine.Machine.{own, asks}

-- One operand that is not k decides.
decides : (k : Bool) (v : Values) (l : List ℕ) (q : ℕ) → q ∈ l → v q ≡ not k → ev k v l ≡ not k
unfolding ev
decides k v [] q m e = absurd (Memᴰ.not-nil m)
decides k v (r ∷ l) q m e =
    elim (Memᴰ.cases_cons m) [
      | inl z ↦ one k (v r) (ev k v l) (subst (λ (y : ℕ). v y ≡ not k) z e)
      | inr z ↦ two k (v r) (ev k v l) (decides k v l q z e)
    ]
  where
    one : (k a c : Bool) → a ≡ not k → op k a c ≡ not k
    one true a c h = rw h refl
    one false a c h = rw h refl

    two : (k a c : Bool) → c ≡ not k → op k a c ≡ not k
    two true true c h = h
    two true false c h = refl
    two false true c h = refl
    two false false c h = h

-- A hard pair that leans on a pair without its block's own value must turn while settling, if it has that value.
pub hard-asks : (F : Frame) (M : Leans) (v : Values) (r q : ℕ) → F.kind r ≡ own F r → q ∈ M r → v q ≡ not (own F r) → asks F M true v r ≡ is (own F r) (v r)
unfolding asks
hard-asks F M v r q h m e =
    let d : eval F M v r ≡ not (own F r) = decides (F.kind r) v (M r) q m (e ∙ ap not (sym h)) ∙ ap not h in
    ap (λ (b : Bool). is (own F r) (v r) && is (not (own F r)) b) d ∙ self (is (own F r) (v r)) (not (own F r))
  where
    self : (a b : Bool) → (a && is b b) ≡ a
    self true true = refl
    self true false = refl
    self false b = refl
