-- Values set at the pairs of a set, and the mark that tells how a pair turned: words that the rules and the mathematics share. Definitions
-- only.
use Rattle.std.specs.Prelude.{Bool, true, false, cond, ℕ}

-- The values v, but c at the pairs of the set s.
abbrev pub put : Bool → (ℕ → Bool) → (ℕ → Bool) → ℕ → Bool
put c v s p = cond (s p) c (v p)

-- The mark of a pair that did or did not shift, and did or did not settle: 0 never turned, 1 shifted and stayed, 2 shifted and came
-- back, 3 turned by settling only.
abbrev pub mark_of : Bool → Bool → ℕ
mark_of false false = 0
mark_of true false = 1
mark_of true true = 2
mark_of false true = 3
