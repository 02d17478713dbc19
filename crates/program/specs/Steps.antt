-- One part of the run, and the parts that are left. Assumes nothing.
use Rattle.std.specs.Prelude.{◌≡◌, true, List, [], ◌∷◌, ◌++◌, ℕ, zero, suc, ◌+◌, ◌*◌, ◌≤◌, ◌<◌, ltb, length, take, drop, Result}
use Rattle.std.proofs.Common.{sym, ap, ◌∙◌, inl, inr, arith, length-take-le}
use Rattle.lists.specs.Tests.{tell, ltb-is, ltb_no}
use Rattle.rules.specs.Answers.{says}
use Rattle.rules.specs.Calls.{Left, batch, leaves}
use Rattle.rules.specs.Rooms.{Rooms, rooms_with}
use Rattle.rules.specs.declared.Report.{Report}
use Rattle.rules.specs.declared.Session.{Session}
use Rattle.rules.specs.declared.Refused.{Refused}
use Rattle.laws.specs.bytes.RecordLaws.{AreBytes}
use Rattle.program_lines.specs.declared.Pen.{Pen}
use Rattle.program_lines.specs.Penned.{Penned}
use Rattle.program_cut.specs.Cut.{cut, all_pieces}
use Rattle.program_cut.specs.CutLaws.{cut_most, pieces_more, pieces_none}
use Rattle.program_answers.specs.AnswerLines.{batch_prints}
use Rattle.program.specs.Program.{session_after, batches_print}
use Rattle.program.specs.ShortLines.{short-batch-line}
use Rattle.program.specs.declared.SessionRooms.{SessionRooms}

-- The rooms as the rules see them.
abbrev pub rooms_in : SessionRooms → Rooms
rooms_in r = rooms_with r.labels r.equations r.values r.marks r.moves r.index r.queue

-- What the batches of the bytes that are left print.
unfoldable pub batches_from : Session → Rooms → List ℕ → List ℕ
batches_from s l w = batches_print (all_pieces w) s l

-- What one part leaves: its line, the rooms and the session.
pub record Stepped (s : Session) (l : Rooms) (part : List ℕ) (before : Pen) (r : Session) (after : Rooms) (pen : Pen) : Type 0 where
  pub rooms : after ≡ (batch s l part).rooms
  pub line : Penned before (batch_prints (batch s l part).answer (batch s l part).rooms.values) pen
  pub session : r ≡ session_after s (batch s l part).answer
  pub short : 0 < length part → pen.at ≤ before.at + 16 * length part

-- The parts of what was left: this one's line, then those of what is left after it.
pub batches-more : (s : Session) (l : Rooms) (w : List ℕ) → 0 < length w
    → batches_from s l w ≡ batch_prints (batch s l (take (cut w) w)).answer (batch s l (take (cut w) w)).rooms.values
    ++ batches_from (session_after s (batch s l (take (cut w) w)).answer) (batch s l (take (cut w) w)).rooms (drop (cut w) w)
unfolding batches_from batches_print
batches-more s l w h = ap (λ (ps : List (List ℕ)). batches_print ps s l) (pieces_more w h)

-- No bytes left, nothing to print.
pub batches-none : (s : Session) (l : Rooms) (w : List ℕ) → length w ≡ 0 → batches_from s l w ≡ []
unfolding batches_from batches_print
batches-none s l w h = ap (λ (ps : List (List ℕ)). batches_print ps s l) (pieces_none w h)

-- The first part lies within the bytes.
pub part-within : (w : List ℕ) (k : ℕ) → k ≡ cut w → k ≡ length (take k w)
part-within w k e = let h = cut_most w in sym (length-take-le k w (omega arith))

-- The first bytes of bytes are bytes.
pub bytes_take : (n : ℕ) (w : List ℕ) → AreBytes w → AreBytes (take n w)
bytes_take zero w h = tt
bytes_take (suc n) [] h = tt
bytes_take (suc n) (b ∷ w) h = (h.0, bytes_take n w h.1)

-- The calls of one part are that part.
pub stepped : (s : Session) (l : Rooms) (part : List ℕ) → AreBytes part → (before pen : Pen) (r : Session) (after : Rooms) (said : Result Report Refused)
    → leaves (says said) after ≡ batch s l part → Penned before (batch_prints (says said) after.values) pen → pen.at ≤ before.at + 96
    → r ≡ session_after s (says said) → Stepped s l part before r after pen
stepped s l part y before pen r after said e written most sess =
    let b = batch s l part in
    let a : says said ≡ b.answer = ap (λ (x : Left Report Rooms). x.answer) e in
    let q : after ≡ b.rooms = ap (λ (x : Left Report Rooms). x.rooms) e in
    let line : Penned before (batch_prints b.answer b.rooms.values) pen = rw (a, q) at written in
    record {
      rooms = q;
      line = line;
      session = sess ∙ ap (session_after s) a;
      short = λ h. elim (tell true (ltb (length part) 6)) [
        | inl t ↦ let k = short-batch-line s l part y ((ltb-is (length part) 6).0 t) in omega (arith, line.wrote.1)
        | inr t ↦ let k = (ltb_no (length part) 6).0 t in omega arith
      ];
    }
