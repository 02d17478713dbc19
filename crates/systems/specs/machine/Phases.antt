-- The phases of an update. In each block pairs first shift and then settle: here stand the values that a phase starts
-- from, the rule by which pairs turn in it, the marks that it finds, and what holds in the midst of it. Definitions only.
use Rattle.std.specs.Prelude.{◌≡◌, Bool, not, List, ℕ, ◌<◌, ltb}
use Rattle.std.proofs.Math.Bool.{true, false, cond}
use Rattle.lists.specs.Marks.{put}
use Rattle.lists.specs.Smallest.{at, Rule, smallest}
use Rattle.lists.specs.Tests.{◌∈◌}
use Rattle.systems.specs.solution.System.{Frame, Leans, Values, Fits, drops, shifts, move_to, lifted}
use Rattle.systems.specs.moving.Marks.{mark}
use Rattle.systems.specs.machine.Worklist.{Waiting, Plan, Work}
use Rattle.systems.specs.machine.Machine.{free, next_mark}

-- An update: the leanings L of a system have become M, and the values before were old.
pub record Update : Type 0 where
  pub F : Frame
  pub L : Leans
  pub M : Leans
  pub old : Values
  pub fits : Fits F L
  pub fits' : Fits F M

module _ (u : Update) where
  open u use {F, L, M, old}

  -- The values from which block i shifts (false) or settles (true).
  unfoldable pub base : Bool → ℕ → Values
  unfolding move_to
  base false i = move_to F L M old i
  base true i = lifted F L M old i

  -- The value that pairs turn to.
  abbrev pub target : Bool → ℕ → Bool
  target false i = F.great i
  target true i = not (F.great i)

  -- The rule by which they turn.
  unfoldable pub rule : Bool → ℕ → Rule
  unfolding shifts drops base
  rule false i = shifts F L M i old (move_to F L M old i)
  rule true i = drops F M i (base true i)

  -- The pairs that turn.
  unfoldable pub turning : Bool → ℕ → ℕ → Bool
  unfolding rule smallest
  turning ph i p = at (smallest F.pairs (rule ph i)) p

  -- The marks once the blocks before i have been moved.
  unfoldable pub marks_to : ℕ → ℕ → ℕ
  unfolding mark
  marks_to i p = cond (ltb (F.block p) i) (mark F L M old p) 0

  -- The marks with which block i shifts or settles.
  unfoldable pub marks_of : Bool → ℕ → ℕ → ℕ
  unfolding marks_to turning
  marks_of false i p = marks_to i p
  marks_of true i p = cond (turning false i p) 1 (marks_to i p)

  -- What the worklist of the phase goes by.
  abbrev pub plan : Bool → ℕ → Plan
  plan ph i = record { bound = F.pairs; rule = rule ph i; free = free ph; next = next_mark ph; before = marks_of ph i }

  -- In the midst of a phase of block i: the pairs of x have been marked, of these t have turned, and the pairs of rest
  -- are still to be looked at.
  pub record Doing (ph : Bool) (i : ℕ) (x t : ℕ → Bool) (rest : List ℕ) (v : Values) (w : Waiting) : Type 0 where
    pub lt : i < F.blocks
    pub here : (p : ℕ) → p ∈ rest → F.block p ≡ i
    pub work : Work (plan ph i) x t w rest
    pub vals : (p : ℕ) → v p ≡ put (target ph i) (base ph i) t p
