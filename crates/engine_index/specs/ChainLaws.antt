-- What the chains hold: from the head of a number's chain the words that have it are found, the last first. Assumes nothing.
use Rattle.std.specs.Prelude.{◌≡◌, ◌⊎◌, length}
use Rattle.std.proofs.Math.Path.{refl, sym, ap, subst}
use Rattle.std.proofs.Common.{◌∙◌, inl, inr, not-suc-le-zero, le_of_suc-le-suc, eq-or-lt_of_le, arith, get_or-set_same}
use mathlib.Core.List.{List}
use Prim.Native.Nat.{ℕ, zero, suc, ◌+◌, ◌≤◌, ◌<◌}
use Rattle.std.proofs.Math.Numerals.{add-one}
use Rattle.std.proofs.Math.Decide.{ℕ_discrete}
use Rattle.std.proofs.Math.ListN.{get_or, set, length-set}
use Rattle.std.proofs.Math.Seq.{get_or-set_other}
use Rattle.lists.specs.Tests.{eqb-in, eqb_no}
use Rattle.engine_index.specs.Chains.{link, linked, last_to}

-- The heads and the links that chains of the first n words have, where their room is r. There are heads up to the links.
pub record Chained (key : ℕ → ℕ) (heads links : ℕ) (ws : List ℕ) (n : ℕ) (r : List ℕ) : Type 0 where
  pub ends : (t : ℕ) → heads + t < links → get_or r (heads + t) 0 ≡ last_to key ws t n
  pub steps : (j : ℕ) → j < n → get_or r (links + j) 0 ≡ last_to key ws (key (get_or ws j 0)) j

module _ (key : ℕ → ℕ) (heads links : ℕ) (ws : List ℕ) where
  -- The head that is found becomes the link of the word at j, and the number one more than j the head.
  pub link-made : (j : ℕ) (r q p : List ℕ) (k head last : ℕ) → k ≡ key (get_or ws j 0) → head ≡ heads + k → last ≡ get_or r head 0
      → q ≡ set r (links + j) last → p ≡ set q head (j + 1) → p ≡ link key heads links ws j r
  unfolding link
  link-made j r q p k head last ek eh el eq ep =
      let at : head ≡ heads + key (get_or ws j 0) = eh ∙ ap (λ (x : ℕ). heads + x) ek in
      rw (sym at) (ep ∙ ap (λ (x : List ℕ). set x head (j + 1)) (eq ∙ ap (set r (links + j)) el))

  -- One word more.
  pub linked-more : (j : ℕ) (r q p : List ℕ) → q ≡ linked key heads links ws j r → p ≡ link key heads links ws j q → p ≡ linked key heads links ws (j + 1) r
  unfolding linked
  linked-more j r q p e f = rw add-one (f ∙ ap (link key heads links ws j) e)

  -- The room keeps its length.
  pub linked_long : (j : ℕ) (r : List ℕ) → length (linked key heads links ws j r) ≡ length r
  unfolding linked link
  linked_long zero r = refl
  linked_long (suc j) r = simp length-set (linked_long j r)

  last-hit : (t j : ℕ) → key (get_or ws j 0) ≡ t → last_to key ws t (suc j) ≡ suc j
  unfolding last_to
  last-hit t j e = rw (eqb-in _ t e) refl

  last-miss : (t j : ℕ) → (key (get_or ws j 0) ≡ t → ⊥) → last_to key ws t (suc j) ≡ last_to key ws t j
  unfolding last_to
  last-miss t j e = rw ((eqb_no _ t).1 e) refl

  -- What lies before the heads or after the links is kept.
  pub linked-keeps : (n : ℕ) (r : List ℕ) (i : ℕ) → heads ≤ links → ((j : ℕ) → j < n → heads + key (get_or ws j 0) < links) → (i < heads) ⊎ (links + n ≤ i)
      → get_or (linked key heads links ws n r) i 0 ≡ get_or r i 0
  unfolding linked link
  linked-keeps zero r i o f h = refl
  linked-keeps (suc n) r i o f h =
      let q = linked key heads links ws n r in
      let k = heads + key (get_or ws n 0) in
      let v = get_or q k 0 in
      let l = f n (omega arith) in
      get_or-set_other (set q (links + n) v) k i (n + 1) 0 (apart h l) ∙ get_or-set_other q (links + n) i v 0 (past h l)
      ∙ linked-keeps n r i o (λ j g. f j (omega arith)) (still h)
    where
      apart : (i < heads) ⊎ (links + suc n ≤ i) → heads + key (get_or ws n 0) < links → i ≡ heads + key (get_or ws n 0) → ⊥
      apart (inl a) l e = absurd (omega arith)
      apart (inr a) l e = absurd (omega arith)

      past : (i < heads) ⊎ (links + suc n ≤ i) → heads + key (get_or ws n 0) < links → i ≡ links + n → ⊥
      past (inl a) l e = absurd (omega arith)
      past (inr a) l e = absurd (omega arith)

      still : (i < heads) ⊎ (links + suc n ≤ i) → (i < heads) ⊎ (links + n ≤ i)
      still (inl a) = inl a
      still (inr a) = inr (omega arith)

  -- One word more keeps the chains.
  chained_more : (n : ℕ) (r : List ℕ) → links + suc n ≤ length r → heads + key (get_or ws n 0) < links
      → Chained key heads links ws n r → Chained key heads links ws (suc n) (link key heads links ws n r)
  unfolding link
  chained_more n r l f c = record {
    ends = λ t k. elim (ℕ_discrete (key (get_or ws n 0)) t) [
      | yes e ↦
          subst (λ (x : ℕ). get_or (set (set r (links + n) old) place (n + 1)) (heads + x) 0 ≡ last_to key ws x (suc n)) e
          (get_or-set_same (set r (links + n) old) place (n + 1) 0 (omega (arith, long)) ∙ rw add-one (sym (last-hit (key (get_or ws n 0)) n refl)))
      | no e ↦
          get_or-set_other (set r (links + n) old) place (heads + t) (n + 1) 0 (λ z. e (omega arith))
          ∙ get_or-set_other r (links + n) (heads + t) old 0 (λ z. absurd (omega arith)) ∙ c.ends t k ∙ sym (last-miss t n e)
    ];
    steps = λ j k. get_or-set_other (set r (links + n) old) place (links + j) (n + 1) 0 (λ z. absurd (omega arith))
        ∙ elim (ℕ_discrete j n) [
          | yes e ↦
              subst (λ (x : ℕ). get_or (set r (links + n) old) (links + x) 0 ≡ last_to key ws (key (get_or ws x 0)) x) (sym e)
              (get_or-set_same r (links + n) old 0 (omega arith) ∙ c.ends (key (get_or ws n 0)) f)
          | no e ↦ get_or-set_other r (links + n) (links + j) old 0 (λ z. e (omega arith)) ∙ c.steps j (below e (le_of_suc-le-suc k))
        ];
  }
    where
      place : ℕ
      place = heads + key (get_or ws n 0)

      old : ℕ
      old = get_or r place 0

      long : length (set r (links + n) old) ≡ length r
      long = length-set r (links + n) old

      below : {j : ℕ} → (j ≡ n → ⊥) → j ≤ n → j < n
      below e k = elim (eq-or-lt_of_le k) [ inl a ↦ absurd (e a) | inr a ↦ a ]

  -- From empty heads, one word after the other.
  pub chained : (r : List ℕ) → ((t : ℕ) → heads + t < links → get_or r (heads + t) 0 ≡ 0) → (n : ℕ) → links + n ≤ length r
      → ((j : ℕ) → j < n → heads + key (get_or ws j 0) < links) → Chained key heads links ws n (linked key heads links ws n r)
  unfolding linked last_to
  chained r none zero l f = record { ends = none; steps = λ j k. absurd (not-suc-le-zero k) }
  chained r none (suc n) l f =
      let a = linked_long n r in
      chained_more n (linked key heads links ws n r) (omega arith) (f n (omega arith)) (chained r none n (omega arith) (λ j k. f j (omega arith)))
