-- Whether an ascending list holds a number is told by the one entry at its place. Assumes nothing.
use Rattle.std.specs.Prelude.{◌≡◌, ℕ, suc, ◌<◌, Bool, true, false, ◌&&◌, ◌||◌, List, [], ◌∷◌, length, ◌==◌, nat_lt, slice_index, refl}
use Rattle.std.proofs.Common.{sym, ap, ◌∙◌, inl, inr, arith}
use Rattle.std.proofs.Math.Decide.{ℕ_discrete}
use Rattle.lists.specs.Lists.{elem}
use Rattle.lists.specs.Tests.{tell, and_is, leb-is, ltb-is, ltb-in, ltb_no, eqb-in, eqb_no}
use Rattle.moves.specs.Ascending.{ascends, below, leading, leading-below}

-- Nothing below where the list starts is in it.
none_before : (q n : ℕ) (l : List ℕ) → ascends n l ≡ true → q < n → elem q l ≡ false
none_before q n [] h k = refl
none_before q n (x ∷ l) h k =
    let f = simp and_is at h in
    let g = (leb-is n x).0 f.0 in
    rw ((eqb_no q x).1 (λ e. absurd (omega arith)), none_before q (suc x) l f.1 (omega arith)) refl

at_front : (q x : ℕ) (l : List ℕ) → ascends (suc x) l ≡ true → (q < suc x) → (x == q) ≡ (q == x || elem q l)
at_front q x l h k =
    elim (ℕ_discrete q x) [
      | yes e ↦ rw (eqb-in q x e, eqb-in x q (sym e)) refl
      | no e ↦ rw ((eqb_no q x).1 e, (eqb_no x q).1 (λ y. e (sym y)), none_before q (suc x) l h k) refl
    ]

next-below : (a b : ℕ) → nat_lt (suc a) (suc b) ≡ nat_lt a b
next-below a b =
    elim (tell true (nat_lt a b)) [
      | inl t ↦ let u = (ltb-is a b).0 t in ltb-in (suc a) (suc b) (omega arith) ∙ sym t
      | inr t ↦ let u = (ltb_no a b).0 t in (ltb_no (suc a) (suc b)).1 (omega arith) ∙ sym t
    ]

-- What the entry at its place tells.
told : (q n : ℕ) (l : List ℕ) → ascends n l ≡ true → (nat_lt (leading q l) (length l) && slice_index l (leading q l) == q) ≡ elem q l
told q n [] h = refl
told q n (x ∷ l) h =
    let f = simp and_is at h in
    elim (tell true (nat_lt x q)) [
      | inl t ↦
          let u = (ltb-is x q).0 t in
          let e = (eqb_no q x).1 (λ y. absurd (omega arith)) in
          rw (t, e)
          (ap (λ (b : Bool). b && slice_index l (leading q l) == q) (next-below (leading q l) (length l)) ∙ told q (suc x) l f.1)
      | inr t ↦
          let u = (ltb_no x q).0 t in
          rw t (ap (λ (b : Bool). b && x == q) (ltb-in 0 (suc (length l)) (omega arith)) ∙ at_front q x l f.1 (omega arith))
    ]

-- The same as code asks it, which has the place from a search.
pub held_at : (q at : ℕ) (l : List ℕ) → ascends 0 l ≡ true → at ≡ below q l → (nat_lt at (length l) && slice_index l at == q) ≡ elem q l
held_at q at l h e =
    let k : at ≡ leading q l = e ∙ sym (leading-below q 0 l h) in
    ap (λ (x : ℕ). nat_lt x (length l) && slice_index l x == q) k ∙ told q 0 l h
