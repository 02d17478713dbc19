-- The writing of a session that was found good, in the words of the writer's functions. Assumes nothing.
use Rattle.std.specs.Prelude.{◌≡◌, Result, Ok, true, List, ◌++◌, ℕ, ◌≤◌, ◌<◌, length, take, drop}
use Rattle.std.proofs.Common.{sym, ap, ◌∙◌, append-nil, arith, length-take-le}
use Rattle.std.proofs.Math.Seq.{drop-length}
use Rattle.lists.specs.Lists.{fill}
use Rattle.rules.specs.Limits.{most_states, most_variables}
use Rattle.rules.specs.Records.{refused, accepted}
use Rattle.rules.specs.Rooms.{Rooms}
use Rattle.rules.specs.Spelling.{encode}
use Rattle.rules.specs.Session.{held}
use Rattle.rules.specs.Calls.{write, leaves}
use Rattle.rules.specs.declared.Refusal.{Refusal}
use Rattle.rules.specs.declared.Session.{Session}
use Rattle.session_check.specs.Fitting.{Fits}
use Rattle.session_judge.specs.Checks.{check_of, checked_says}
use Rattle.session_judge.specs.Passed.{passed-fits}
use Rattle.call_write.specs.WriteLaws.{good_length, write-short, write-good}
use Rattle.model_write.specs.Spelled.{HasRoom, Wrote, length_by}
use Rattle.model_write.specs.SpelledLaws.{wrote-fills}

-- A session that was checked, and nothing wrong was found.
module _ (s : Session) (l : Rooms) (out : List ℕ) (found : Result (Unit {0}) Refusal) (h : checked_says found ≡ check_of true s l) (g : found ≡ Ok tt) where
  -- The rooms can be cut to their lengths.
  pub good-fits : Fits s l
  good-fits = passed-fits true s l found h g

  -- Cut so, they are inside the limits.
  pub good-labels : length (take s.sizes.states l.labels) ≤ most_states
  good-labels =
      let most = good-fits.states in
      let long = length-take-le s.sizes.states l.labels good-fits.labels_room in
      omega arith

  pub good-equations : length (take s.sizes.variables l.equations) ≤ most_variables
  good-equations =
      let most = good-fits.variables in
      let long = length-take-le s.sizes.variables l.equations good-fits.equations_room in
      omega arith

  -- A number n that was counted as the length.
  module _ (n : ℕ) (e : n ≡ length_by s (held s l).labels) where
    -- It is the spelling's length.
    counted_is : n ≡ length (encode (held s l))
    counted_is = e ∙ sym (good_length s l out found h g)

    -- 13 where the output is shorter, and it stays.
    pub leaves-short : length out < n → leaves (refused 13 0) out ≡ write s l out
    leaves-short f = write-short s l out found h g n counted_is f

    -- Where it has room, as many of its places hold the spelling.
    pub good-room : n ≤ length out → HasRoom (take n out) 0 (encode (held s l))
    good-room f =
        let c = counted_is in
        let long = length-take-le n out f in
        omega arith

    -- Where it has room, the writer is handed as many places of the output as the spelling needs. What it leaves there, with the
    -- places past them, is what the call leaves.
    pub leaves-written : n ≤ length out → (part : List ℕ) (next : ℕ) → Wrote (take n out) 0 (encode (held s l)) part next
        → leaves (accepted n) (part ++ drop n out) ≡ write s l out
    leaves-written f part next w =
        let bs = encode (held s l) in
        let c = counted_is in
        let long : length (take n out) ≡ length bs = length-take-le n out f ∙ c in
        let d : part ≡ fill bs (take n out) = (wrote-fills bs (take n out) part next w (omega arith)).0 in
        let whole : fill bs (take n out) ≡ bs =
        ap (λ (i : ℕ). bs ++ drop i (take n out)) (sym long) ∙ ap (λ (x : List ℕ). bs ++ x) (drop-length (take n out)) ∙ append-nil bs in
        let e : part ++ drop n out ≡ fill bs out =
        ap (λ (x : List ℕ). x ++ drop n out) (d ∙ whole) ∙ ap (λ (i : ℕ). bs ++ drop i out) c in
        write-good s l out found h g n c f (part ++ drop n out) e
