-- How many pairs are true while pairs turn: each turn from false makes one more, each turn from true one less. Assumes nothing.
use Rattle.std.specs.Prelude.{◌≡◌, refl, Bool, true, false, cond, List, ℕ, zero, suc, ◌+◌, ◌-◌, ◌≤◌, ◌<◌, length, get_or, set, eqb}
use Rattle.std.proofs.Common.{sym, ap, ◌∙◌, inl, inr, eq-or-lt_of_le, le_of_suc-le-suc, arith, get_or-set_same, get_or-set_other}
use Rattle.lists.specs.Lists.{bit}
use Rattle.lists.specs.Sums.{bit_le, sum-le, sum-ext, sum_ones}
use Rattle.systems.specs.lists.ListMachine.{turned}
use Rattle.rules.specs.Rooms.{pairs_of}
use Rattle.rules.specs.Update.{trues}
use Rattle.rules.specs.Calls.{value_at}
use Rattle.rules.specs.declared.Sizes.{Sizes}

-- How many pairs are true.
abbrev pub trues_in : Sizes → List ℕ → ℕ
trues_in z values = trues (pairs_of z) (value_at values)

-- From a to b, n were added where each comes from false, and taken away where each comes from true.
abbrev pub Counted : ℕ → ℕ → ℕ → ℕ → Type 0
Counted from n a b = b + cond (eqb from 1) n 0 ≡ a + cond (eqb from 1) 0 n

-- A level stands for a number of true pairs: it is no less, and no more than as many more as there are pairs.
abbrev pub Level : Sizes → ℕ → List ℕ → Type 0
Level z level values = (trues_in z values ≤ level) × (level ≤ trues_in z values + pairs_of z)

-- The level r stands to these values as the level stood to those before.
abbrev pub Levelled : Sizes → ℕ → List ℕ → ℕ → List ℕ → Type 0
Levelled z level before r values = r + trues_in z before ≡ level + trues_in z values

-- No more pairs are true than there are.
pub trues-le : (n : ℕ) (values : List ℕ) → trues n (value_at values) ≤ n
trues-le n values =
    let h = sum-le n (λ p. bit (value_at values p)) (λ p. 1) (λ p. bit_le (value_at values p)) in
    let e = sum_ones n in
    omega arith

-- The number of true pairs where one value is set.
trues-set : (n : ℕ) (l : List ℕ) (p v : ℕ) → p < n → p < length l → trues n (value_at (set l p v)) + bit (value_at l p) ≡ trues n (value_at l) + bit (eqb v 1)
trues-set zero l p v h k = absurd (omega arith)
trues-set (suc n) l p v h k =
    elim (eq-or-lt_of_le (le_of_suc-le-suc h)) [
      | inl e ↦
          let same = sum-ext n (λ q. bit (value_at (set l p v) q)) (λ q. bit (value_at l q)) (λ q m. ap (λ (x : ℕ). bit (eqb x 1)) (get_or-set_other l p q v 0 (λ y. omega arith))) in
          let here = ap (λ (q : ℕ). bit (value_at (set l p v) q)) (sym e) ∙ ap (λ (x : ℕ). bit (eqb x 1)) (get_or-set_same l p v 0 k) in
          let there = ap (λ (q : ℕ). bit (value_at l q)) e in
          omega arith
      | inr m ↦
          let rest = trues-set n l p v m k in
          let other = ap (λ (x : ℕ). bit (eqb x 1)) (get_or-set_other l p n v 0 (λ y. omega arith)) in
          omega arith
    ]

-- At first nothing has turned.
pub counted_none : (from a : ℕ) → Counted from 0 a a
counted_none from a = go (eqb from 1)
  where
    go : (b : Bool) → a + cond b 0 0 ≡ a + cond b 0 0
    go b = refl

-- One pair turns.
pub counted-turn : (z : Sizes) (values : List ℕ) (from p : ℕ) → from ≡ get_or values p 0 → p < pairs_of z → p < length values
    → Counted from 1 (trues_in z values) (trues_in z (set values p (turned (get_or values p 0))))
counted-turn z values from p is h k =
    let s = trues-set (pairs_of z) values p (turned (get_or values p 0)) h k in
    let e = ap (λ (x : ℕ). eqb x 1) is in
    go (eqb from 1) (eqb (get_or values p 0) 1) e s
  where
    go : (b d : Bool) → b ≡ d → trues_in z (set values p (turned (get_or values p 0))) + bit d ≡ trues_in z values + bit (eqb (cond d 0 1) 1)
        → trues_in z (set values p (turned (get_or values p 0))) + cond b 1 0 ≡ trues_in z values + cond b 0 1
    go true true e s = omega arith
    go false false e s = omega arith
    go true false e s = let k = ap bit e in absurd (omega arith)
    go false true e s = let k = ap bit e in absurd (omega arith)

-- The pairs that turn from front to m, and those from m to end, are those from front to end.
pub counted-on : (from front m end a b c : ℕ) → front ≤ m → m ≤ end → Counted from (m - front) a b → Counted from (end - m) b c → Counted from (end - front) a c
counted-on from front m end a b c h k e f = go (eqb from 1) e f
  where
    go : (t : Bool) → b + cond t (m - front) 0 ≡ a + cond t 0 (m - front) → c + cond t (end - m) 0 ≡ b + cond t 0 (end - m)
        → c + cond t (end - front) 0 ≡ a + cond t 0 (end - front)
    go true e f = omega arith
    go false e f = omega arith

-- A level to which the same is done stands to the values after as it stood to those before.
pub levelled-by : (z : Sizes) (from n level r : ℕ) (before values : List ℕ) → Counted from n (trues_in z before) (trues_in z values) → Counted from n level r → Levelled z level before r values
levelled-by z from n level r before values c d = go (eqb from 1) c d
  where
    go : (b : Bool) → trues_in z values + cond b n 0 ≡ trues_in z before + cond b 0 n → r + cond b n 0 ≡ level + cond b 0 n → Levelled z level before r values
    go true c d = omega arith
    go false c d = omega arith

-- It can be: what is taken away is there, and what is added stays a small number.
pub level-room : (z : Sizes) (from n level : ℕ) (before values : List ℕ) → Level z level before → Counted from n (trues_in z before) (trues_in z values)
    → (eqb from 1 ≡ true → n ≤ level) × (eqb from 1 ≡ false → level + n ≤ pairs_of z + pairs_of z)
level-room z from n level before values l c =
    (λ t. taken (eqb from 1) t c, λ t. given (eqb from 1) t c)
  where
    taken : (b : Bool) → b ≡ true → trues_in z values + cond b n 0 ≡ trues_in z before + cond b 0 n → n ≤ level
    taken true t c = let h = l.0 in omega arith
    taken false t c = let k = ap bit t in absurd (omega arith)

    given : (b : Bool) → b ≡ false → trues_in z values + cond b n 0 ≡ trues_in z before + cond b 0 n → level + n ≤ pairs_of z + pairs_of z
    given true t c = let k = ap bit t in absurd (omega arith)
    given false t c = let h = l.1 in let m = trues-le (pairs_of z) values in omega arith

-- What is so from step to step is so in all; and a level as high as there are pairs stands to the values at first.
pub levelled-on : (z : Sizes) (level r s : ℕ) (a b c : List ℕ) → Levelled z level a r b → Levelled z r b s c → Levelled z level a s c
levelled-on z level r s a b c e f = omega arith

pub level-of : (z : Sizes) (r : ℕ) (before values : List ℕ) → Levelled z (pairs_of z) before r values → Level z r values
level-of z r before values e = let h = trues-le (pairs_of z) before in let k = trues-le (pairs_of z) values in (omega arith, omega arith)
