-- Acceptance is owed for batches too: a batch inside the limits, with the table's stamp, that names no move twice, inserts
-- absent moves, deletes present ones and fits the room, is accepted in every session that passes its check, where the rooms to work in
-- are long enough. Assumes nothing.
use Rattle.std.specs.Prelude.{◌≡◌, true, ◌&&◌, ◌≤◌, min, length, leb}
use Rattle.std.proofs.Common.{ap, ◌∙◌}
use Rattle.lists.specs.Tests.{and_in, and_left, and_is}
use Rattle.rules.specs.Limits.{most_moves, sizes_ok}
use Rattle.rules.specs.Moves.{stamp_of}
use Rattle.rules.specs.Records.{accepted}
use Rattle.rules.specs.Model.{live_ok}
use Rattle.rules.specs.Rooms.{Rooms, lengths_of, rooms_ok, work_ok, lent_ok}
use Rattle.rules.specs.Batch.{Batch, batch_ok, encode_batch, read_batch, edited, judge}
use Rattle.rules.specs.Session.{held, session_demands, counts_ok, rest_ok}
use Rattle.rules.specs.Calls.{and_then, judged, batch_by, batch}
use Rattle.rules.specs.declared.Session.{Session}
use Rattle.laws.specs.bytes.BatchReads.{read-batch-accepts}
use Rattle.laws.specs.moves.Edits.{Judged, judge-in}
use Rattle.laws.specs.session.SessionHolds.{session_ok}
use Rattle.laws.specs.session.Accepted.{asked_in}

pub batch-accepts : (s : Session) (l : Rooms) (b : Batch) → session_ok s l ≡ true → work_ok (lengths_of l) s.sizes ≡ true → batch_ok s.sizes b ≡ true → b.stamp ≡ stamp_of (held s l).moves
    → Judged (held s l).moves b.changes → length (edited b.changes (held s l).moves) ≤ min most_moves (length l.moves)
    → live_ok s.live s.sizes.states (edited b.changes (held s l).moves) ≡ true → batch s l (encode_batch b) ≡ batch_by s l (accepted b)
unfolding batch judged counts_ok lent_ok
batch-accepts s l b ok work k e j n v =
    let y = (and_is (counts_ok s l && rooms_ok (lengths_of l) s.sizes) (rest_ok s l)).0 ok in
    let x = (and_is (counts_ok s l) (rooms_ok (lengths_of l) s.sizes)).0 y.0 in
    let z = and_left (sizes_ok s.sizes) (leb s.live 1 && leb s.moves (min most_moves (length l.moves))) x.0 in
    let look = and_then (read_batch s.sizes (encode_batch b)) (judge s (length l.moves) (held s l).moves) in
    ap (batch_by s l)
    (asked_in (session_demands lent_ok s l) look (x.0, (and_in x.1 work, (y.1, tt)))
    ∙ ap (λ (o : _). and_then o (judge s (length l.moves) (held s l).moves)) (read-batch-accepts s.sizes z b k)
    ∙ judge-in s (length l.moves) (held s l).moves b e j n v)
