-- The update that changes start, from values in a list: the machine's words for it, what its test says, and its end.
-- Assumes nothing.
use Rattle.std.specs.Prelude.{◌≡◌, List, ℕ, ◌*◌, ◌≤◌, length, get_or}
use Rattle.std.proofs.Common.{sym, ap}
use Rattle.std.proofs.Math.Path.{subst}
use native.Mathlib.Omega.{arith}
use Rattle.lists.specs.Sets.{size-le}
use Rattle.systems.specs.solution.System.{Fits}
use Rattle.systems.specs.moving.Marks.{shift_of, settle_of}
use Rattle.systems.specs.machine.Machine.{Finds}
use Rattle.systems.specs.machine.Phases.{Update}
use Rattle.systems.specs.machine.MachineMoves.{unit-count}
use Rattle.systems.specs.lists.ListMachine.{val_of, Job, Agrees}
use Rattle.systems.specs.lists.ListCourse.{Underway}
use Rattle.systems.specs.lists.ListsMove.{MovesL, way-most, way-moves}
use Rattle.rules.specs.Model.{Model, blocks_of}
use Rattle.rules.specs.Rooms.{pairs_of}
use Rattle.rules.specs.Batch.{Change, edited}
use Rattle.rules.specs.Values.{leanings}
use Rattle.rules.specs.Update.{changed, turn_all}
use Rattle.rules.specs.Calls.{value_at}
use Rattle.laws.specs.moves.Edits.{Judged}
use Rattle.laws.specs.model.ModelSystem.{frame, Sound, pairs-full, model-fits}
use Rattle.laws.specs.model.ModelLeaners.{leaners_of, model-finds}
use Rattle.laws.specs.model.UpdateMoves.{fits-old}
use Rattle.laws.specs.model.LookTest.{look_test, look-agrees}
use Rattle.laws.specs.model.MachineRules.{Answers, moves-answer}

-- The model with other moves.
abbrev pub with_moves : List ℕ → Model → Model
with_moves l m = record { sizes = m.sizes; live = m.live; labels = m.labels; equations = m.equations; moves = l }

-- The changes cs made the moves of m, and the list vs has a value for each pair.
pub record Started (m : Model) (cs : List Change) (vs : List ℕ) : Type 0 where
  pub old : List ℕ
  pub made : edited cs old ≡ m.moves
  pub judged : Judged old cs
  pub was_sound : Sound (with_moves old m)
  pub is_sound : Sound m
  pub long : length vs ≡ pairs_of m.sizes
  pub small : (p : ℕ) → get_or vs p 0 ≤ 1

module _ (m : Model) (cs : List Change) (vs : List ℕ) (s : Started m cs vs) where
  -- The model before the changes.
  abbrev was : Model
  was = with_moves s.old m

  -- The changes make the model of it.
  pub same-model : changed cs was ≡ m
  same-model = ap (λ (l : List ℕ). with_moves l m) s.made

  pub now-sound : Sound (changed cs was)
  now-sound = subst Sound (sym same-model) s.is_sound

  -- The update, as the machine has it.
  unfoldable pub way_of : Update
  way_of = record {
    F = frame m;
    L = leanings was;
    M = leanings m;
    old = val_of vs;
    fits = subst (λ (x : Model). Fits (frame x) (leanings was)) same-model (fits-old was cs s.judged s.was_sound now-sound (value_at vs));
    fits' = model-fits m s.is_sound;
  }

  -- Who leans on a pair is found.
  pub way_finds : Finds (frame m) (leanings m) (leaners_of m)
  way_finds = model-finds m s.is_sound

  -- The test of a look says what the machine's does.
  pub way-agrees : Agrees (frame m) (leanings was) (leanings m) (val_of vs) (look_test m cs)
  way-agrees = subst (λ (x : Model). Agrees (frame x) (leanings was) (leanings x) (val_of vs) (look_test x cs)) same-model
      (look-agrees was cs s.judged s.was_sound now-sound (val_of vs))

  -- Four units for each pair are enough.
  pub way-few : {n : ℕ} {c : Job} → Underway way_of (leaners_of m) n c → n ≤ 4 * pairs_of m.sizes
  unfolding way_of
  way-few w =
      let u = way_of in
      let k = way-most {u = way_of} way_finds w in
      let e = unit-count (frame m) (leanings was) (leanings m) (val_of vs) (leaners_of m) u.fits u.fits' way_finds (pairs-full m s.is_sound) in
      let a = size-le (pairs_of m.sizes) (shift_of (frame m) (leanings was) (leanings m) (val_of vs)) in
      let b = size-le (pairs_of m.sizes) (settle_of (frame m) (leanings was) (leanings m) (val_of vs)) in
      omega arith

  -- Past the last block the lists are the rule's answer.
  pub way-answers : {n : ℕ} {c : Job} → Underway way_of (leaners_of m) n c → blocks_of m ≤ c.block → Answers m (turn_all m cs (value_at vs)) c
  unfolding way_of
  way-answers {c = c} w b =
      subst (λ (x : Model). MovesL (frame x) (leanings was) (leanings x) (val_of vs) c → Answers x (turn_all x cs (value_at vs)) c) same-model
      (moves-answer was cs s.judged s.was_sound now-sound vs s.long c) (way-moves {u = way_of} way_finds (pairs-full m s.is_sound) w b)
