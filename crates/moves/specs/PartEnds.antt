-- Two searches find the two ends of a part. Assumes nothing.
use Rattle.std.specs.Prelude.{◌≡◌, ℕ, suc, ◌+◌, ◌≤◌, true, ltb, List, [], ◌∷◌, length, drop, nat_lt, refl}
use Rattle.std.proofs.Common.{ap, ◌∙◌, inl, inr, zero-add, one-add, arith}
use Rattle.lists.specs.Counts.{count-le}
use Rattle.lists.specs.Tests.{tell, and_is, and_in, leb-is, ltb-is, ltb_no}
use Rattle.rules.specs.Moves.{pack}
use Rattle.moves.specs.Ascending.{ascends, below, leading, none_below, leading-below}
use Rattle.moves.specs.OwnMoves.{part_of}
use Rattle.moves.specs.declared.Part.{Part}

-- In an ascending list, behind the entries below a smaller key, those that lead are the others below the greater one.
leads-on : (a b n : ℕ) (l : List ℕ) → a ≤ b → ascends n l ≡ true → below a l + leading b (drop (below a l) l) ≡ below b l
leads-on a b n [] h o = refl
leads-on a b n (q ∷ l) h o =
    let f = simp and_is at o in
    elim (tell true (nat_lt q a)) [
      | inl t ↦
          let k = (ltb-is q a).0 t in
          let u = (ltb-is q b).1 (omega arith) in
          let ih = leads-on a b (suc q) l h f.1 in
          rw (t, u) (simp one-add (omega arith))
      | inr t ↦
          let y = (ltb_no q a).0 t in
          rw (none_below a q (q ∷ l) (and_in ((leb-is q q).1 (omega arith)) f.1) y) (omega (arith, leading-below b n (q ∷ l) o))
    ]

-- Two searches, the second from where the first ends, find what lies below two keys.
module _ (a b from end : ℕ) (l : List ℕ) (h : ascends 0 l ≡ true) (f : from ≡ 0 + leading a l) where
  pub first-end : from ≡ below a l
  first-end = f ∙ zero-add (leading a l) ∙ leading-below a 0 l h

  -- What the first finds is a place of the list, or its end.
  pub first-inside : from ≤ length l
  first-inside = let c = count-le (λ q. ltb q a) l in omega (arith, first-end)

  pub second-end : a ≤ b → end ≡ from + leading b (drop from l) → end ≡ below b l
  second-end k e = e ∙ ap (λ (x : ℕ). x + leading b (drop x l)) first-end ∙ leads-on a b 0 l k h

-- So they find the part of a state and an action, by the least number that a move of it can have and one past the greatest.
pub two_ends : (s a first last from end : ℕ) (l : List ℕ) → ascends 0 l ≡ true → first ≡ pack s a 0 → last ≡ pack s (a + 1) 0 → from ≡ 0 + leading first l
    → end ≡ from + leading last (drop from l) → ◌≡◌ {A = Part} (record { from = from; end = end }) (part_of s a l)
two_ends s a first last from end l h j k f e =
    let u = first-end first last from end l h f ∙ ap (λ (x : ℕ). below x l) j in
    let v = second-end first last from end l h f (omega arith) e ∙ ap (λ (x : ℕ). below x l) k in λ i. record { from = u i; end = v i }
