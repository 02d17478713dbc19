-- Demand 3, of the table: what a session holds after an accepted batch is the model that it held before, with the changes
-- that the bytes spell made to its moves. A batch that left the table as it was would not do. Assumes nothing.
use Rattle.std.specs.Prelude.{◌≡◌, true, false, not, ◌&&◌, ◌||◌, List, ℕ}
use Rattle.std.proofs.Common.{sym, ap, ◌∙◌, subst}
use Rattle.lists.specs.Lists.{elem}
use Rattle.lists.specs.Tests.{and_is}
use Rattle.rules.specs.Model.{Model, well_formed}
use Rattle.rules.specs.Records.{accepted}
use Rattle.rules.specs.Rooms.{Rooms}
use Rattle.rules.specs.Batch.{Batch, encode_batch, inserts, deletes}
use Rattle.rules.specs.Update.{changed}
use Rattle.rules.specs.Session.{held, session_of}
use Rattle.rules.specs.Calls.{Left, batch_by, batch}
use Rattle.rules.specs.declared.Session.{Session}
use Rattle.rules.specs.declared.Report.{Report}
use Rattle.laws.specs.bytes.RecordLaws.{AreBytes}
use Rattle.laws.specs.bytes.BatchReads.{read-batch-spelling}
use Rattle.laws.specs.moves.Edits.{AllAre, edited-members}
use Rattle.laws.specs.session.SessionHolds.{Holds, session-holds, holds-session}
use Rattle.laws.specs.session.Accepted.{WasBatch, batch-out}
use Rattle.laws.specs.session.BatchSolved.{batch-holds}

-- Two reports that make the same answer tell the same session.
pub told-session : {a b : Report} → accepted a ≡ accepted b → a.session ≡ b.session
told-session {a} {b} e = let f : a ≡ b = cc in ap (λ (x : Report). x.session) f

-- What the batch b has made of the session: the bytes spell b, its stamp was the table's, it inserts absent moves and deletes
-- present ones, and the model held is the one before with these changes made: the same sizes, labels and equations, and of
-- the moves exactly those that were inserted, or were there and were not deleted. The small part is that model's.
pub record EditedBy (s : Session) (l : Rooms) (bytes : List ℕ) (r : Report) (b : Batch) : Type 0 where
  pub spelled : encode_batch b ≡ bytes
  pub stamp : b.stamp ≡ s.stamp
  pub absent : AllAre false (inserts b.changes) (held s l).moves
  pub present : AllAre true (deletes b.changes) (held s l).moves
  pub model : held r.session (batch s l bytes).rooms ≡ changed b.changes (held s l)
  pub moves : (q : ℕ) → elem q (held r.session (batch s l bytes).rooms).moves
      ≡ (elem q (inserts b.changes) || (elem q (held s l).moves && not (elem q (deletes b.changes))))
  pub small : r.session ≡ session_of (changed b.changes (held s l))

-- After every accepted batch, in any session, what is held is the edited model.
pub batch-edits : (s : Session) (l : Rooms) (bytes : List ℕ) (r : Report) → AreBytes bytes → (batch s l bytes).answer ≡ accepted r
    → (b : Batch) × EditedBy s l bytes r b
unfolding well_formed
batch-edits s l bytes r y e =
    let k = batch-out s l bytes r y e in
    let b = k.0 in
    let w = k.1 in
    let n = changed b.changes (held s l) in
    let h = session-holds s l w.session in
    let f = simp and_is at h.0 in
    let g = read-batch-spelling s.sizes f.0.0.0.0.0 bytes b y w.read in
    let small : r.session ≡ session_of n = told-session (sym e ∙ ap (λ (c : Left Report Rooms). c.answer) w.is) in
    let rooms : (batch s l bytes).rooms ≡ (batch_by s l (accepted b)).rooms = ap (λ (c : Left Report Rooms). c.rooms) w.is in
    let t : Holds r.session (batch s l bytes).rooms n =
    subst (λ (x : Session). Holds x (batch s l bytes).rooms n) (sym small)
    (subst (λ (x : Rooms). Holds (session_of n) x n) (sym rooms) (batch-holds s l bytes b h.1 w)) in
    let q = (holds-session r.session (batch s l bytes).rooms n w.model t).0 in (
      b,
      record {
        spelled = g.1;
        stamp = w.stamp ∙ sym h.1.stamp;
        absent = w.good.2;
        present = w.good.3;
        model = q;
        moves = λ x. ap (λ (m : Model). elem x m.moves) q ∙ edited-members x (held s l).moves b.changes;
        small = small;
      },
    )
