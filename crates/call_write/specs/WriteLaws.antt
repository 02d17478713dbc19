-- The writing of a session, in the words of the code: what each way out leaves. Assumes nothing.
use Rattle.std.specs.Prelude.{◌≡◌, Result, Ok, Err, List, ℕ, ◌≤◌, ◌<◌}
use Rattle.std.specs.Result.{IsErrAnd}
use Rattle.std.proofs.Math.Path.{sym}
use Rattle.std.proofs.Common.{ap, ◌∙◌, arith}
use Rattle.std.proofs.Math.Bool.{true}
use Rattle.std.proofs.Math.ListN.{length}
use Rattle.lists.specs.Lists.{fill}
use Rattle.lists.specs.Tests.{leb-is, leb_no, cond_yes, cond_no}
use Rattle.rules.specs.Records.{refused, accepted}
use Rattle.rules.specs.Rooms.{Rooms}
use Rattle.rules.specs.Spelling.{encode}
use Rattle.rules.specs.Session.{held}
use Rattle.rules.specs.Calls.{write_by, writable, write, leaves}
use Rattle.rules.specs.Answers.{number_of, says}
use Rattle.rules.specs.declared.Refusal.{Refusal}
use Rattle.rules.specs.declared.Refused.{Refused}
use Rattle.rules.specs.declared.Session.{Session}
use Rattle.laws.specs.bytes.SpellingLength.{encode-length}
use Rattle.session_judge.specs.Checks.{check_of, work-unasked, checked_says, checked-stops, checked-goes}
use Rattle.session_judge.specs.Passed.{passed-holds}
use Rattle.model_write.specs.Spelled.{length_by}

-- A refusal that is handed on is given for place 0.
pub says_refused : (x : Result ℕ Refused) (why : Refusal) → IsErrAnd x (λ r. r ≡ record { why = why; place = 0 }) → says x ≡ refused (number_of why) 0
says_refused (Ok n) why h = absurd h
says_refused (Err r) why h = ap (λ (q : Refused). refused (number_of q.why) q.place) h

-- A session that was checked: k is what the check found.
module _ (s : Session) (l : Rooms) (out : List ℕ) (k : Result (Unit {0}) Refusal) (h : checked_says k ≡ check_of true s l) where
  -- A refusal of the check is the answer, and the output stays.
  pub write-stops : (why : Refusal) → k ≡ Err why → leaves (refused (number_of why) 0) out ≡ write s l out
  unfolding write writable
  write-stops why g = sym (ap (write_by (held s l) out) (work-unasked s l _ ∙ checked-stops true s l k h _ why g))

  module _ (g : k ≡ Ok tt) where
    -- The length of the spelling, by the counts.
    pub good_length : length (encode (held s l)) ≡ length_by s (held s l).labels
    good_length =
        let w = passed-holds true s l k h g in
        let e = encode-length (held s l) w.0 in
        let n = w.1.count in omega arith

    module _ (n : ℕ) (e : n ≡ length (encode (held s l))) where
      -- 13 where the output is too short, and it stays.
      pub write-short : length out < n → leaves (refused 13 0) out ≡ write s l out
      unfolding write writable
      write-short f =
          let m = length (encode (held s l)) in
          let w : writable s l out ≡ refused 13 0 = work-unasked s l _ ∙ checked-goes true s l k h _ g ∙ cond_no (accepted m) (refused 13 0) (leb_no m (length out) (omega arith)) in
          sym (ap (write_by (held s l) out) w)

      -- Where it has room, the answer is the length, and the output begins with the spelling.
      pub write-good : n ≤ length out → (after : List ℕ) → after ≡ fill (encode (held s l)) out → leaves (accepted n) after ≡ write s l out
      unfolding write writable
      write-good f after d =
          let m = length (encode (held s l)) in
          let w : writable s l out ≡ accepted m = work-unasked s l _ ∙ checked-goes true s l k h _ g ∙ cond_yes (accepted m) (refused 13 0) ((leb-is m (length out)).1 (omega arith)) in
          rw (e, d) (sym (ap (write_by (held s l) out) w))
