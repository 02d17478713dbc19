-- A shift entry by entry. Assumes nothing.
use Rattle.std.specs.Prelude.{◌≡◌, refl, List, [], ◌∷◌, ℕ, zero, suc, ◌+◌, ◌-◌, ◌≤◌, ◌<◌, length, take, drop, set, ◌++◌}
use Rattle.std.proofs.Common.{sym, ap, add-one, arith}
use Rattle.std.proofs.lemmas.List.{drop-drop}
use Rattle.std.specs.List.{copy_within}
use Rattle.batch_apply.specs.Kept.{pulled, pushed, pulled_in, pushed_in}

-- The first m entries shifted by one place to the front, as one copy of those behind the first.
pulled-tail : (m q : ℕ) (l : List ℕ) → m ≤ length l → pulled m (q ∷ l) ≡ take m l ++ drop m (q ∷ l)
pulled-tail zero q l h = refl
pulled-tail (suc m) q [] h = absurd (omega arith)
pulled-tail (suc m) q (r ∷ l) h = ap (λ (t : List ℕ). r ∷ t) (pulled-tail m r l (omega arith))

pull-copied : (at m : ℕ) (l : List ℕ) → at + m < length l → take at l ++ take m (drop (suc at) l) ++ drop m (drop at l) ≡ take at l ++ pulled m (drop at l)
pull-copied at m [] h = absurd (omega arith)
pull-copied zero m (q ∷ l) h = sym (pulled-tail m q l (omega arith))
pull-copied (suc at) m (q ∷ l) h = ap (λ (t : List ℕ). q ∷ t) (pull-copied at m l (omega arith))

-- A copy of the entries behind place `at` to that place is the shift.
pub pulled-copy : (l : List ℕ) (at n : ℕ) → at < n → n ≤ length l → copy_within l (at + 1) n at ≡ pulled_in at (n - 1) l
unfolding pulled_in
pulled-copy l at n h k =
    let m = n - (at + 1) in
    let e : n - 1 - at ≡ m = omega arith in
    rw (e, ← drop-drop m at l, add-one at) (pull-copied at (n - suc at) l (omega arith))

-- The first m entries shifted by one place to the end, behind a new one.
pushed-tail : (m x : ℕ) (l : List ℕ) → m < length l → pushed (suc m) x l ≡ x ∷ (take m l ++ drop (suc m) l)
pushed-tail m x [] h = absurd (omega arith)
pushed-tail zero x (q ∷ l) h = refl
pushed-tail (suc m) x (q ∷ l) h = ap (λ (t : List ℕ). x ∷ t) (pushed-tail m q l (omega arith))

push-copied : (at m x : ℕ) (l : List ℕ) → at + m < length l
    → set (take (suc at) l ++ take m (drop at l) ++ drop m (drop (suc at) l)) at x ≡ take at l ++ pushed (suc m) x (drop at l)
push-copied at m x [] h = absurd (omega arith)
push-copied zero m x (q ∷ l) h = sym (pushed-tail m x (q ∷ l) (omega arith))
push-copied (suc at) m x (q ∷ l) h = ap (λ (t : List ℕ). q ∷ t) (push-copied at m x l (omega arith))

-- A copy of the entries from place `at` on to the next place, and the new one stored there, is the shift.
pub pushed-copy : (l : List ℕ) (at n x : ℕ) → at ≤ n → n < length l → set (copy_within l at n (at + 1)) at x ≡ pushed_in at (n + 1) x l
unfolding pushed_in
pushed-copy l at n x h k =
    let e : n + 1 - at ≡ suc (n - at) = omega arith in
    rw (e, ← drop-drop (n - at) (at + 1) l, add-one at) (push-copied at (n - at) x l (omega arith))
