-- Halving the places among which the first entry that is not below the key stands. Assumes nothing.
use Rattle.std.specs.Prelude.{◌≡◌, ℕ, zero, suc, ◌+◌, ◌-◌, ◌/◌, ◌<◌, ◌≤◌, true, cond, ltb, List, [], ◌∷◌, length, drop, nat_lt, slice_index, slice_index_or}
use Rattle.std.proofs.Common.{ap, ◌∙◌, inl, inr, zero-add, arith, length-drop, get_or-drop}
use Rattle.lists.specs.Counts.{count-le}
use Rattle.lists.specs.Tests.{tell, and_is, leb-is, ltb-is, ltb_no}
use Rattle.moves.specs.Ascending.{ascends, leading, leading-below}
use Rattle.moves.specs.Halving.{tests_for, none-to-test, test-more, tests-places}

-- What is left of an ascending list ascends.
rest-ascends : (i m : ℕ) (l : List ℕ) → ascends m l ≡ true → (k : ℕ) × (ascends k (drop i l) ≡ true)
rest-ascends zero m l h = (m, h)
rest-ascends (suc i) m [] h = (m, h)
rest-ascends (suc i) m (q ∷ l) h = let f = simp and_is at h in rest-ascends i (suc q) l f.1

-- Every entry of an ascending list lies at or past where it starts.
from_start : (m i : ℕ) (l : List ℕ) → ascends m l ≡ true → i < length l → m ≤ slice_index l i
from_start m i [] h k = absurd (omega arith)
from_start m zero (q ∷ l) h k = let f = simp and_is at h in (leb-is m q).0 f.0
from_start m (suc i) (q ∷ l) h k =
    let f = simp and_is at h in
    let a = (leb-is m q).0 f.0 in
    let b = from_start (suc q) i l f.1 (omega arith) in omega arith

-- An entry of an ascending list that lies below the key is a leading one.
pub leads : (key m i : ℕ) (l : List ℕ) → ascends m l ≡ true → i < length l → slice_index l i < key → i < leading key l
leads key m i [] h k y = absurd (omega arith)
leads key m zero (q ∷ l) h k y = rw ((ltb-is q key).1 y) (omega arith)
leads key m (suc i) (q ∷ l) h k y =
    let f = simp and_is at h in
    let a = from_start (suc q) i l f.1 (omega arith) in
    let b = leads key (suc q) i l f.1 (omega arith) y in
    rw ((ltb-is q key).1 (omega arith)) (omega arith)

-- One that does not is none, in any list.
pub follows : (key i : ℕ) (l : List ℕ) → i < length l → key ≤ slice_index l i → leading key l ≤ i
follows key i [] k y = absurd (omega arith)
follows key zero (q ∷ l) k y = rw ((ltb_no q key).1 y) (omega arith)
follows key (suc i) (q ∷ l) k y =
    let b = follows key i l (omega arith) y in
    elim (tell true (nat_lt q key)) [
      | inl t ↦ rw t (omega arith)
      | inr t ↦ rw t (omega arith)
    ]

-- The search in l, from place `from` on.
module _ (key : ℕ) (l : List ℕ) (from : ℕ) where
  -- The places to search.
  abbrev places : ℕ
  places = length (drop from l)

  -- The place of the first entry that is not below the key.
  abbrev first : ℕ
  first = from + leading key (drop from l)

  -- It is `at` or one of the `left` places after it, and the tests made and those still to make are all that there are.
  abbrev pub Narrowed : ℕ → ℕ → ℕ → Type 0
  Narrowed at left made = (((from ≤ at) × (at + left ≤ from + places)) × ((at ≤ first) × (first ≤ at + left))) × (made + tests_for left ≡ tests_for places)

  -- Where the entry at a place lies below the key, the place searched for lies past it; elsewhere it does not.
  entry-tells : ascends 0 l ≡ true → (p : ℕ) → from ≤ p → p < from + places → (slice_index l p < key → p < first) × (key ≤ slice_index l p → first ≤ p)
  entry-tells h p a b =
      let k = rest-ascends from 0 l h in
      let u : from + (p - from) ≡ p = omega arith in
      let e : slice_index_or (drop from l) (p - from) 0 ≡ slice_index_or l p 0 = get_or-drop from l (p - from) 0 ∙ ap (λ (x : ℕ). slice_index l x) u in (
        λ y. let r = leads key k.0 (p - from) (drop from l) k.1 (omega arith) (rw e y) in omega arith,
        λ y. let r = follows key (p - from) (drop from l) (omega arith) (rw e y) in omega arith,
      )

  -- At the start it may be any of the places.
  pub wide : (left : ℕ) → ascends 0 l ≡ true → left ≡ length l - from → Narrowed from left 0
  wide left h e =
      let w = length-drop from l in
      let k = rest-ascends from 0 l h in
      let b = leading-below key k.0 (drop from l) k.1 in
      let c = count-le (λ q. ltb q key) (drop from l) in
      let f : left ≡ places = omega arith in (omega arith, rw f (zero-add (tests_for places)))

  -- The places left are places of the list, and there are fewer tests made than places.
  pub inside : (at left made : ℕ) → Narrowed at left made → 0 < left → (at + left ≤ length l) × (made < length l)
  inside at left made w k =
      let d = length-drop from l in
      let c = test-more left k in
      let p = tests-places places in (omega arith, omega arith)

  -- One test leaves half of the places: those past the one tested, or as many from `at` on.
  pub narrower : (at left made middle rest next more : ℕ) → ascends 0 l ≡ true → Narrowed at left made → 0 < left
      → (next ≡ cond (nat_lt (slice_index l middle) key) (middle + 1) at) × (more ≡ made + 1) → middle + 1 + rest ≡ at + left → rest ≡ left / 2 → Narrowed next rest more
  narrower at left made middle rest next more h w k e m d =
      let t = entry-tells h middle (omega arith) (omega arith) in
      let c = test-more left k in
      let g : more + tests_for rest ≡ tests_for places = rw d (omega arith) in
      elim (tell true (nat_lt (slice_index l middle) key)) [
        | inl y ↦
            let x = t.0 ((ltb-is _ _).0 y) in
            let z : next ≡ middle + 1 = rw y at e.0 in (omega arith, g)
        | inr y ↦
            let x = t.1 ((ltb_no _ _).0 y) in
            let z : next ≡ at = rw y at e.0 in (omega arith, g)
      ]

  -- Where no place is left, the place is found, and all tests are made.
  pub found : (at made : ℕ) → Narrowed at 0 made → (at ≡ first) × (made ≡ tests_for places)
  found at made w = let e = none-to-test in (omega arith, omega arith)
