-- The moves of a state lie between two numbers. Assumes nothing.
use Rattle.std.specs.Prelude.{◌≡◌, ℕ, ◌+◌, ◌-◌, ◌≤◌, true, List, [], ◌∷◌, length, drop, ◌==◌, nat_eq, nat_lt, refl}
use Rattle.std.proofs.Common.{ap, ◌∙◌, inl, inr, arith}
use Rattle.lists.specs.Lists.{bit}
use Rattle.lists.specs.Counts.{count-le}
use Rattle.lists.specs.Tests.{tell, eqb_is, eqb_no, ltb-is, ltb_no}
use Rattle.rules.specs.Moves.{pack, source}
use Rattle.laws.specs.moves.Emptied.{moves_of}
use Rattle.moves.specs.Ascending.{ascends, below, leading}
use Rattle.moves.specs.PartEnds.{first-end, second-end}

-- A move lies below the next state's, if it lies below the state's own or is one of them.
one_more : (s q : ℕ) → bit (nat_lt q (pack (s + 1) 0 0)) ≡ bit (nat_lt q (pack s 0 0)) + bit (source q == s)
one_more s q =
    elim (tell true (nat_lt q (pack s 0 0))) [
      | inl t ↦
          let h = (ltb-is q (pack s 0 0)).0 t in
          rw (t, (ltb-is q (pack (s + 1) 0 0)).1 (omega arith), (eqb_no (source q) s).1 (λ e. omega arith)) refl
      | inr t ↦ let h = (ltb_no q (pack s 0 0)).0 t in elim (tell true (nat_lt q (pack (s + 1) 0 0))) [
        | inl u ↦
            let k = (ltb-is q (pack (s + 1) 0 0)).0 u in
            rw (t, u, (eqb_is (source q) s).1 (omega arith)) refl
        | inr u ↦
            let k = (ltb_no q (pack (s + 1) 0 0)).0 u in
            rw (t, u, (eqb_no (source q) s).1 (λ e. omega arith)) refl
      ]
    ]

between : (s : ℕ) (l : List ℕ) → below (pack (s + 1) 0 0) l ≡ below (pack s 0 0) l + moves_of s l
between s [] = refl
between s (q ∷ l) = let a = one_more s q in let b = between s l in omega arith

-- What two searches find, the one for the state's first number and the other from there for the next state's.
pub found_between : (s first last from end : ℕ) (l : List ℕ) → ascends 0 l ≡ true → first ≡ pack s 0 0 → last ≡ pack (s + 1) 0 0 → from ≡ 0 + leading first l
    → end ≡ from + leading last (drop from l) → (from ≤ end) × (end - from ≡ moves_of s l)
found_between s first last from end l h j k f e =
    let a : from ≡ below (pack s 0 0) l = first-end first last from end l h f ∙ ap (λ (x : ℕ). below x l) j in
    let b : end ≡ below (pack (s + 1) 0 0) l = second-end first last from end l h f (omega arith) e ∙ ap (λ (x : ℕ). below x l) k in
    let c = between s l in (omega arith, omega arith)

-- There are no more of them than moves.
pub few-of : (s : ℕ) (l : List ℕ) → moves_of s l ≤ length l
few-of s l = count-le (λ q. nat_eq (source q) s) l
