-- The whole run: the line of the load, and then the batches. Assumes nothing.
use Rattle.std.specs.Prelude.{◌≡◌, true, List, ℕ, ◌+◌, ◌*◌, ◌≤◌, ltb, length, take, drop, Result, Ok, Err}
use Rattle.std.proofs.Common.{sym, ap, ◌∙◌, inl, inr, append-nil, arith, length-take-le}
use Rattle.std.proofs.Math.Seq.{length-sets}
use Rattle.io.specs.Counts.{IsPrefixLen}
use Rattle.lists.specs.Lists.{fill}
use Rattle.lists.specs.Tests.{tell, ltb-is, ltb_no}
use Rattle.rules.specs.Answers.{number_of, says}
use Rattle.rules.specs.Calls.{Left, load, leaves}
use Rattle.rules.specs.Records.{refused, accepted}
use Rattle.rules.specs.Rooms.{Rooms}
use Rattle.rules.specs.declared.Refused.{Refused}
use Rattle.rules.specs.declared.Session.{Session}
use Rattle.laws.specs.bytes.RecordLaws.{AreBytes}
use Rattle.model_write.specs.SpelledLaws.{wrote-fills}
use Rattle.program_lines.specs.declared.Pen.{Pen}
use Rattle.program_lines.specs.Penned.{Penned, penned-more}
use Rattle.program_cut.specs.Cut.{cut}
use Rattle.program_cut.specs.CutLaws.{cut_most}
use Rattle.program_answers.specs.AnswerLines.{load_prints}
use Rattle.program.specs.Program.{fresh_rooms, after_load, printed_in, printed}
use Rattle.program.specs.ShortLines.{short-load-line}
use Rattle.program.specs.Steps.{batches_from, bytes_take}

-- The model's part handed over, and its line written.
module _ (l : Rooms) (w : List ℕ) (y : AreBytes w) (k : ℕ) (cuts : k ≡ cut w) (part : List ℕ) (front : part ≡ take k w) (said : Result Session Refused)
    (after : Rooms) (e : leaves (says said) after ≡ load l part) (before pen : Pen) (start : before.at ≡ 0)
    (line : Penned before (load_prints (says said) after.values) pen) (most : pen.at ≤ before.at + 96) where
  -- The part handed over is the cut.
  loads : leaves (says said) after ≡ load l (take (cut w) w)
  loads = rw (front, cuts) at e

  -- Its line is no longer than 16 bytes more than 16 for each byte of the part.
  pub short-load : pen.at ≤ 16 + 16 * k
  short-load =
      let a : says said ≡ (load l (take (cut w) w)).answer = ap (λ (x : Left Session Rooms). x.answer) loads in
      let q : after ≡ (load l (take (cut w) w)).rooms = ap (λ (x : Left Session Rooms). x.rooms) loads in
      let n = length-take-le (cut w) w (cut_most w) in
      let f : Penned before (load_prints (load l (take (cut w) w)).answer (load l (take (cut w) w)).rooms.values) pen = rw (a, q) at line in
      elim (tell true (ltb (cut w) 6)) [
        | inl t ↦ let m = short-load-line l (take (cut w) w) (bytes_take (cut w) w y) (rw n ((ltb-is (cut w) 6).0 t)) in omega (arith, f.wrote.1)
        | inr t ↦ let m = (ltb_no (cut w) 6).0 t in omega arith
      ]

  -- A refused model is all that is printed.
  pub refused-run : (r : Refused) → said ≡ Err r → Penned before (printed_in l w) pen
  unfolding printed_in
  refused-run r g =
      let h : leaves (refused (number_of r.why) r.place) after ≡ load l (take (cut w) w) = rw g at loads in
      let v : Penned before (load_prints (refused (number_of r.why) r.place) after.values) pen = rw g at line in
      rw (← h, append-nil) v

  -- After an accepted one the batches are printed.
  pub accepted-run : (s : Session) → said ≡ Ok s → (last : Pen) → Penned pen (batches_from s after (drop k w)) last → Penned before (printed_in l w) last
  unfolding printed_in batches_from
  accepted-run s g last b =
      let h : leaves (accepted s) after ≡ load l (take (cut w) w) = rw g at loads in
      let v : Penned before (load_prints (accepted s) after.values) pen = rw g at line in
      let c : Penned pen (after_load (accepted s) after (drop (cut w) w)) last = rw cuts at b in
      rw (← h) (penned-more v c)

-- What is printed from fresh rooms fits the output, and fills its front.
pub fresh-run : (w : List ℕ) (before pen : Pen) → before.at ≡ 0 → Penned before (printed_in fresh_rooms w) pen → pen.at ≤ 16 + 16 * length w
    → 16 + 16 * length w ≤ length before.out.now
    → (pen.out.now ≡ fill (printed w) before.out.now) × (pen.at ≡ length (printed w)) × IsPrefixLen pen.at pen.out.now
unfolding printed
fresh-run w before pen z h m n =
    let p = printed_in fresh_rooms w in
    let v = rw z at h.wrote in
    let e = v.1 in
    let f = wrote-fills p before.out.now pen.out.now pen.at v (omega arith) in
    let l : length pen.out.now ≡ length before.out.now = ap (λ (x : List ℕ). length x) v.0 ∙ length-sets before.out.now 0 p in
    (f.0, f.1, (omega arith, sym (length-take-le pen.at pen.out.now (omega arith))))
