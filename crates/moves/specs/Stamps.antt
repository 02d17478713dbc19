-- The stamp of a list: with one move more, by the sums of its parts, and wrapping differences. Assumes nothing.
use Rattle.std.specs.Prelude.{◌≡◌, ℕ, ◌+◌, ◌-◌, ◌*◌, ◌/◌, ◌%◌, ◌^◌, ◌<◌, ◌≤◌, List, length, drop, slice_index}
use Rattle.std.proofs.Common.{sym, ap, ◌∙◌, arith, drop_of_length-le}
use Rattle.std.proofs.Math.Nat.{mul-add-mod_self_right}
use Rattle.lists.specs.Lists.{sum_of}
use Rattle.rules.specs.Moves.{source, action, target, weight, wrap, stamp_of}
use Rattle.moves.specs.Fronts.{left-more}

-- The weight of n moves, by the sums of their sources, actions and targets.
abbrev pub weight_of : ℕ → ℕ → ℕ → ℕ → ℕ
weight_of s a t n = 65537 * s + 4099 * a + 257 * t + n

-- Numbers that differ by a multiple of 2 to the 32nd wrap alike.
wrap-same : (a b k : ℕ) → a ≡ k * 4294967296 + b → wrap b ≡ wrap a
wrap-same a b k e = sym (ap wrap e ∙ mul-add-mod_self_right k 4294967296 b)

-- Wrapping in the sums changes nothing: what a move adds to them it takes from the rest.
sums-turn : (s a t i x y w rest : ℕ)
    → wrap (weight_of (wrap (s + x)) (wrap (a + y)) (wrap (t + w)) (i + 1 + rest)) ≡ wrap (weight_of s a t (i + (weight_of x y w 1 + rest)))
sums-turn s a t i x y w rest =
    let k = 65537 * ((s + x) / 4294967296) + 4099 * ((a + y) / 4294967296) + 257 * ((t + w) / 4294967296) in
    wrap-same (weight_of s a t (i + (weight_of x y w 1 + rest))) (weight_of (wrap (s + x)) (wrap (a + y)) (wrap (t + w)) (i + 1 + rest)) k (omega arith)

-- The stamp of a list, from the sums of its first i moves and the weights of the others.
abbrev pub stamp_from : List ℕ → ℕ → ℕ → ℕ → ℕ → ℕ
stamp_from l s a t i = wrap (weight_of s a t (i + sum_of weight (drop i l)))

-- Before the first move it is the stamp.
pub stamp-start : (l : List ℕ) → stamp_from l 0 0 0 0 ≡ stamp_of l
unfolding stamp_of
stamp-start l = let w = sum_of weight l in omega arith

module _ (l : List ℕ) (i : ℕ) where
  -- With one move more in the sums it is the same.
  pub stamp-turn : (s a t q : ℕ) → i < length l → q ≡ slice_index l i
      → stamp_from l (wrap (s + source q)) (wrap (a + action q)) (wrap (t + target q)) (i + 1) ≡ stamp_from l s a t i
  stamp-turn s a t q h e = sums-turn s a t i (source q) (action q) (target q) (sum_of weight (drop (i + 1) l)) ∙ rw (left-more l i h, e)

  -- At the end no other is left.
  pub stamp-over : (s a t : ℕ) → length l ≤ i → stamp_from l s a t i ≡ wrap (weight_of s a t (wrap i))
  stamp-over s a t h = rw (drop_of_length-le l h) (omega arith)

-- What makes a when b is added to it, wrapping, is a and what b leaves of 2 to the 32nd.
pub wrap-less : (r a b : ℕ) → r < 4294967296 → b < 4294967296 → (r + b) % 2 ^ 32 ≡ a → r ≡ wrap (a + (4294967296 - b))
wrap-less r a b h k e = omega arith
