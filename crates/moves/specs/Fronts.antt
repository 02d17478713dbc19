-- A list from place i on: what a walk over it has still to do. Assumes nothing.
use Rattle.std.specs.Prelude.{◌≡◌, ℕ, ◌+◌, ◌-◌, ◌<◌, ◌≤◌, List, ◌∷◌, length, drop, slice_index}
use Rattle.std.proofs.Common.{ap, ◌∙◌, add-one, arith, drop-cons}

-- What is left of a whole list: the next entry, and the rest.
pub left-more : (l : List ℕ) (i : ℕ) → i < length l → drop i l ≡ slice_index l i ∷ drop (i + 1) l
left-more l i h = rw add-one (drop-cons l i 0 h)

-- And the entry before, in front of the rest.
pub left_less : (l : List ℕ) (i : ℕ) → 0 < i → i ≤ length l → drop (i - 1) l ≡ slice_index l (i - 1) ∷ drop i l
left_less l i p h =
    let e : i - 1 + 1 ≡ i = omega arith in
    left-more l (i - 1) (omega arith) ∙ ap (λ (k : ℕ). slice_index l (i - 1) ∷ drop k l) e
