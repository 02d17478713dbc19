-- How many tests it takes to find a place by halving, and how few that is. Assumes nothing.
use Rattle.std.specs.Prelude.{◌≡◌, ℕ, zero, suc, ◌*◌, ◌/◌, ◌^◌, ◌<◌, ◌≤◌, true, cond, List, length, drop, nat_lt, refl}
use Rattle.std.proofs.Common.{ap, inl, inr, arith, length-drop}
use Rattle.lists.specs.Tests.{tell, ltb-is, ltb-in, ltb_no}
use Rattle.rules.specs.Limits.{most_moves}

-- The tests made of n places where each leaves half of them, counted up to k.
abbrev halvings : ℕ → ℕ → ℕ
halvings zero n = 0
halvings (suc k) n = cond (nat_lt 0 n) (suc (halvings k (n / 2))) 0

-- The tests made of n places until none is left, where each test leaves half of them.
unfoldable pub tests_for : ℕ → ℕ
tests_for n = halvings n n

-- Counting further than there are places changes nothing.
enough : (k j n : ℕ) → n ≤ k → n ≤ j → halvings k n ≡ halvings j n
enough zero zero n a b = refl
enough zero (suc j) n a b = rw ((ltb_no 0 n).1 (omega arith)) refl
enough (suc k) zero n a b = rw ((ltb_no 0 n).1 (omega arith)) refl
enough (suc k) (suc j) n a b = ap (λ (x : ℕ). cond (nat_lt 0 n) (suc x) 0) (enough k j (n / 2) (omega arith) (omega arith))

-- No places take no test.
pub none-to-test : tests_for 0 ≡ 0
unfolding tests_for
none-to-test = refl

-- One test, and then those of half the places.
pub test-more : (n : ℕ) → 0 < n → tests_for n ≡ suc (tests_for (n / 2))
unfolding tests_for
test-more zero h = absurd (omega arith)
test-more (suc n) h = rw (ltb-in 0 (suc n) h) (ap suc (enough n (suc n / 2) (suc n / 2) (omega arith) (omega arith)))

-- There are no more tests than are counted.
no_more : (k n : ℕ) → halvings k n ≤ k
no_more zero n = omega arith
no_more (suc k) n =
    let ih = no_more k (n / 2) in
    elim (tell true (nat_lt 0 n)) [
      | inl t ↦ rw t (omega arith)
      | inr t ↦ rw t (omega arith)
    ]

-- There are no more tests than places.
pub tests-places : (n : ℕ) → tests_for n ≤ n
unfolding tests_for
tests-places n = no_more n n

-- Fewer than 2 to the k-th places take at most k tests.
pub few-tests : (k n : ℕ) → n < 2 ^ k → tests_for n ≤ k
few-tests zero n h = let e : n ≡ 0 = omega arith in rw (e, none-to-test) (omega arith)
few-tests (suc k) n h =
    elim (tell true (nat_lt 0 n)) [
      | inl t ↦
          let m = test-more n ((ltb-is 0 n).0 t) in
          let f = few-tests k (n / 2) (omega arith) in omega arith
      | inr t ↦ let e : n ≡ 0 = omega (arith, (ltb_no 0 n).0 t) in rw (e, none-to-test) (omega arith)
    ]

-- So it is of a list, from some place on: what a search is made of.
pub search-tests : (k from : ℕ) (l : List ℕ) → length l < 2 ^ k → tests_for (length (drop from l)) ≤ k
search-tests k from l h = let e = length-drop from l in few-tests k (length (drop from l)) (omega arith)

-- A search among as many moves as a model may have takes at most 11 tests.
pub eleven-tests : (from : ℕ) (l : List ℕ) → length l ≤ most_moves → tests_for (length (drop from l)) ≤ 11
eleven-tests from l h = search-tests 11 from l (omega arith)

-- Among four times as many it takes at most 13.
pub thirteen-tests : (from : ℕ) (l : List ℕ) → length l ≤ 4 * most_moves → tests_for (length (drop from l)) ≤ 13
thirteen-tests from l h = search-tests 13 from l (omega arith)
