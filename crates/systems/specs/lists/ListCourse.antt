-- The course of an update on lists: they are well formed and stand at their next look or turn, for a state of the machine
-- after some units.
-- Assumes nothing.
use Rattle.std.specs.Prelude.{◌≡◌, false, not, cond, List, [], ℕ, ◌-◌, ◌≤◌, ◌<◌, length, get_or}
use Rattle.std.proofs.Common.{sym, ap, subst, arith}
use Rattle.lists.specs.Tests.{◌∈◌}
use Rattle.systems.specs.solution.System.{Frame}
use Rattle.systems.specs.machine.Machine.{own, State}
use Rattle.systems.specs.machine.Phases.{Update}
use Rattle.systems.specs.machine.Course.{At}
use Rattle.systems.specs.lists.ListMachine.{val_of, pile_of, Job, todo_at, job_of}

-- The lists of an update are well formed: their lengths are right, values are at most 1 and marks at most 3, the place is in
-- range, and the queue does not end before it begins.
pub record Formed (F : Frame) (c : Job) : Type 0 where
  pub range : c.block ≤ F.blocks
  pub ended : c.block ≡ F.blocks → c.settling ≡ false
  pub low : c.place ≤ F.pairs
  pub vals : length c.vals ≡ F.pairs
  pub bits : (p : ℕ) → get_or c.vals p 0 ≤ 1
  pub marks : length c.pile.marks ≡ F.pairs
  pub small : (p : ℕ) → get_or c.pile.marks p 0 ≤ 3
  pub queue : F.pairs ≤ length c.pile.queue
  pub order : c.pile.from ≤ c.pile.tail

-- What waits has been looked at.
abbrev pub Behind : Frame → Job → Type 0
Behind F c = c.place < F.pairs → (q : ℕ) → q ∈ (pile_of c.pile).queue → q < c.place

-- They stand at the next look or turn: the place is that of a pair of the block, or past all pairs; a queue in which nothing
-- waits starts anew; and what waits has been looked at.
pub record Sits (F : Frame) (c : Job) : Type 0 where
  pub here : c.block < F.blocks → c.place < F.pairs → F.block c.place ≡ c.block
  pub level : c.pile.tail ≤ c.pile.from → (c.pile.from ≡ 0) × (c.pile.tail ≡ 0)
  pub behind : Behind F c

-- The lists c are well formed, stand at the next look or turn, and stand for the state s of the machine.
pub record Stands (F : Frame) (c : Job) (s : State) : Type 0 where
  pub state : job_of F c ≡ s
  pub formed : Formed F c
  pub sits : Sits F c

-- The lists c stand for a state of the machine after n units of an update.
pub record Underway (u : Update) (on : ℕ → List ℕ) (n : ℕ) (c : Job) : Type 0 where
  pub formed : Formed u.F c
  pub sits : Sits u.F c
  pub at : At u on n (job_of u.F c)

-- Lists that stand for a state on the course are on it.
pub stand-way : {u : Update} {on : ℕ → List ℕ} {n : ℕ} {c : Job} {s : State} → Stands u.F c s → At u on n s → Underway u on n c
stand-way {u} {on} {n} r a = record { formed = r.formed; sits = r.sits; at = subst (At u on n) (sym r.state) a }

-- What is known where a turn is due: some pair waits, and the one in front is a pair of the block, with the value that
-- pairs turn from.
pub record Turning (F : Frame) (c : Job) : Type 0 where
  pub waits : c.pile.from < c.pile.tail
  pub here : F.block (get_or c.pile.queue c.pile.from 0) ≡ c.block
  pub inside : get_or c.pile.queue c.pile.from 0 < F.pairs
  pub value : let q = get_or c.pile.queue c.pile.from 0 in val_of c.vals q ≡ cond c.settling (own F q) (not (own F q))

-- Past the last block nothing is left to do.
pub none_left : (F : Frame) (c : Job) → F.blocks ≤ c.block → (job_of F c).todo ≡ []
unfolding job_of todo_at
none_left F c b = ap (λ (n : ℕ). todo_at F c.block n c.settling c.place) (let z : F.blocks - c.block ≡ 0 = omega arith in z)
