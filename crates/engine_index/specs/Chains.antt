-- Chains of words by one of their numbers: for each number the last word that has it, and for each word the one before it with
-- the same number, both as one more than a place, 0 for none. Definitions only.
use Rattle.std.specs.Prelude.{cond, List, ℕ, zero, suc, ◌+◌, get_or, set, eqb}

-- The word at j put at the head of its chain: the head it finds becomes its link, and it becomes the head.
unfoldable pub link : (ℕ → ℕ) → ℕ → ℕ → List ℕ → ℕ → List ℕ → List ℕ
link key heads links ws j r =
    let h = heads + key (get_or ws j 0) in
    set (set r (links + j) (get_or r h 0)) h (j + 1)

-- The first n words chained.
unfoldable pub linked : (ℕ → ℕ) → ℕ → ℕ → List ℕ → ℕ → List ℕ → List ℕ
unfolding link
linked key heads links ws zero r = r
linked key heads links ws (suc j) r = link key heads links ws j (linked key heads links ws j r)

-- One more than the place of the last of the first k words whose number is t, or 0.
unfoldable pub last_to : (ℕ → ℕ) → List ℕ → ℕ → ℕ → ℕ
last_to key ws t zero = 0
last_to key ws t (suc j) = cond (eqb (key (get_or ws j 0)) t) (suc j) (last_to key ws t j)
