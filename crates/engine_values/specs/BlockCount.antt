-- The blocks of the first equations, counted one equation after the other. Assumes nothing.
use Rattle.std.specs.Prelude.{◌≡◌, List, [], ◌∷◌, map, ℕ, zero, suc, ◌+◌, ◌<◌, max, length, get_or, take}
use Rattle.std.proofs.Common.{◌∙◌, not-suc-le-zero, le_of_suc-le-suc, add-one, arith}
use Rattle.rules.specs.Model.{blocks_in}
use Rattle.rules.specs.Session.{unword}

-- The number of blocks of the first k equations, as their words say.
abbrev pub blocks_to : List ℕ → ℕ → ℕ
blocks_to ws k = blocks_in (map unword (take k ws))

-- One equation more.
blocks-suc : (k : ℕ) (ws : List ℕ) → k < length ws → max (suc (unword (get_or ws k 0)).block) (blocks_to ws k) ≡ blocks_to ws (suc k)
blocks-suc k [] h = absurd (not-suc-le-zero h)
blocks-suc zero (w ∷ ws) h = omega arith
blocks-suc (suc k) (w ∷ ws) h = let e = blocks-suc k ws (le_of_suc-le-suc h) in omega arith

-- The same, as it stands after a turn of a loop.
pub blocks_more : (k : ℕ) (ws : List ℕ) (r x : ℕ) → k < length ws → r ≡ blocks_to ws k → x ≡ max (suc (unword (get_or ws k 0)).block) r → x ≡ blocks_to ws (k + 1)
blocks_more k ws r x h e f = f ∙ rw (e, add-one) (blocks-suc k ws h)
