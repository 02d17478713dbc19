-- A batch, in the words of the code: what each way out leaves. Assumes nothing.
use Rattle.std.specs.Prelude.{◌≡◌, Bool, List, ℕ, length}
use Rattle.std.proofs.Math.Path.{sym}
use Rattle.std.proofs.Common.{ap, ◌∙◌}
use Rattle.rules.specs.Records.{refused}
use Rattle.rules.specs.Rooms.{Rooms, Lengths, rooms_of, lengths_of, rooms_ok, work_ok, lent_ok}
use Rattle.rules.specs.Batch.{read_batch, judge}
use Rattle.rules.specs.Session.{held, counts_ok, rest_ok}
use Rattle.rules.specs.Calls.{and_then, judged, batch_by, batch, leaves}
use Rattle.rules.specs.Answers.{number_of}
use Rattle.rules.specs.declared.Refusal.{Refusal}
use Rattle.rules.specs.declared.Session.{Session}
use Rattle.session_judge.specs.Checks.{check_of, checked_says, checked-stops, checked-goes}
use Rattle.std.specs.Prelude.{Result, Ok, Err}

-- A session that was checked in the rooms that it lies in, where `work` says whether those to work in are long enough: the check
-- looks at these no further, so that is what is asked of all rooms. n is how long the others are.
pub measured : (s : Session) (l : Rooms) (k : Result (Unit {0}) Refusal) (n : Lengths) (work : Bool) → n ≡ lengths_of (rooms_of l.labels l.equations l.values l.marks l.moves)
    → work ≡ work_ok (record n { index = length l.index; queue = length l.queue }) s.sizes
    → checked_says k ≡ check_of work s (rooms_of l.labels l.equations l.values l.marks l.moves)
    → checked_says k ≡ check_of (work_ok (lengths_of l) s.sizes) s l
unfolding counts_ok rooms_ok rest_ok
measured s l k n work m e h = h ∙ ap (λ (w : Bool). check_of w s l) (e ∙ ap (λ (x : Lengths). work_ok (record x { index = length l.index; queue = length l.queue }) s.sizes) m)

-- A session that was checked: k is what the check found.
module _ (s : Session) (l : Rooms) (bytes : List ℕ) (k : Result (Unit {0}) Refusal) (h : checked_says k ≡ check_of (work_ok (lengths_of l) s.sizes) s l) where
  -- A refusal of the check is the answer, and the rooms stay.
  pub batch-stops : (why : Refusal) → k ≡ Err why → leaves (refused (number_of why) 0) l ≡ batch s l bytes
  unfolding batch judged lent_ok
  batch-stops why g = sym (ap (batch_by s l) (checked-stops _ s l k h _ why g))

  module _ (g : k ≡ Ok tt) where
    -- After a good check the batch is what its reading and its judgement come to.
    pub batch-goes : batch_by s l (and_then (read_batch s.sizes bytes) (judge s (length l.moves) (held s l).moves)) ≡ batch s l bytes
    unfolding batch judged lent_ok
    batch-goes = sym (ap (batch_by s l) (checked-goes _ s l k h _ g))
