-- What a move of the values reports: which pairs shifted and which settled, the marks that tell, and the visits.
-- Definitions only.
use Rattle.std.specs.Prelude.{Bool, true, false, ◌&&◌, ℕ, eqb, length}
use Rattle.lists.specs.Marks.{mark_of}
use Rattle.lists.specs.Lists.{count, sum}
use Rattle.systems.specs.solution.System.{Frame, Leans, Values, settled, shifted, move_to, lifted}

-- p shifts, in its own block, when the leanings L become M.
unfoldable pub shift_of : Frame → Leans → Leans → Values → ℕ → Bool
unfolding move_to
shift_of F L M old p = let i = F.block p in shifted F L M i old (move_to F L M old i) p

-- p settles, in its own block, after the block's shift.
unfoldable pub settle_of : Frame → Leans → Leans → Values → ℕ → Bool
unfolding move_to
settle_of F L M old p = let i = F.block p in settled F M i (lifted F L M old i) p

-- The mark of p.
unfoldable pub mark : Frame → Leans → Leans → Values → ℕ → ℕ
unfolding shift_of settle_of
mark F L M old p = mark_of (shift_of F L M old p) (settle_of F L M old p)

-- How many leanings, inside one block, are on the pairs of s: for the shifted pairs the shift visits, for the settled
-- pairs the settle visits.
unfoldable pub visits : Frame → Leans → (ℕ → Bool) → ℕ
visits F M s = sum F.pairs (λ p. count (λ q. eqb (F.block q) (F.block p) && s q) (M p))

-- How many leanings there are.
unfoldable pub leanings : Frame → Leans → ℕ
leanings F M = sum F.pairs (λ p. length (M p))
