-- A walk along a part of a list, from its front: what is said of the part from i on is told from the entry at i and the
-- part from i + 1 on. Assumes nothing.
use Rattle.std.specs.Prelude.{◌≡◌, Bool, true, false, ◌||◌, List, ℕ, ◌+◌, ◌≤◌, ◌<◌, length, get_or, take}
use Rattle.std.proofs.Common.{sym, ap, ◌∙◌, add-one, arith, length-take, drop_of_length-le}
use Rattle.std.proofs.Math.Seq.{slice, slice-cons}
use Rattle.lists.specs.Lists.{any}

module _ (f : ℕ → Bool) (l : List ℕ) (i e : ℕ) where
  any-more : i < e → e ≤ length l → any f (slice i e l) ≡ (f (get_or l i 0) || any f (slice (i + 1) e l))
  any-more h k = ap (any f) (slice-cons i e l 0 h k) ∙ ap (λ (j : ℕ). f (get_or l i 0) || any f (slice j e l)) (sym (add-one i))

  -- The entry passes the test: some entry does.
  pub any-hit : i < e → e ≤ length l → f (get_or l i 0) ≡ true → any f (slice i e l) ≡ true
  any-hit h k t = any-more h k ∙ ap (λ (x : Bool). x || any f (slice (i + 1) e l)) t

  -- It does not: go on.
  pub any-pass : i < e → e ≤ length l → f (get_or l i 0) ≡ false → any f (slice i e l) ≡ any f (slice (i + 1) e l)
  any-pass h k t = any-more h k ∙ ap (λ (x : Bool). x || any f (slice (i + 1) e l)) t

  -- Nothing is left.
  pub any-end : e ≤ i → any f (slice i e l) ≡ false
  any-end h = let t = length-take e l in ap (any f) (drop_of_length-le (take e l) {i = i} (omega arith))
