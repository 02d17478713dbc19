-- An accepted batch leaves rooms that hold the model with the new moves. In a session as a load leaves it, the session that
-- it ends in is as a load leaves it too: its values are those of that model. Assumes nothing.
use Rattle.std.specs.Prelude.{◌≡◌, refl, Bool, true, false, List, ℕ, ◌<◌, length, get_or, take, drop, eqb}
use Rattle.std.proofs.Common.{sym, ap, ◌∙◌, subst, arith, take_at, get_or-take}
use Rattle.std.proofs.Math.Path.{fun_ext}
use Rattle.std.proofs.Math.Decide.{dec_lt}
use Rattle.lists.specs.Marks.{mark_of}
use Rattle.lists.specs.Lists.{bit}
use Rattle.lists.specs.Smallest.{at, table}
use Rattle.lists.specs.TableLaws.{bit-back, table_at, table-past, listed-is, listed-length, listed_same}
use Rattle.systems.specs.solution.System as S
use Rattle.systems.specs.moving.MoveSolution.{move-solve}
use Rattle.rules.specs.Model.{Model}
use Rattle.rules.specs.Rooms.{Rooms, pairs_of}
use Rattle.rules.specs.Records.{accepted}
use Rattle.rules.specs.Batch.{Change, Batch}
use Rattle.rules.specs.Values.{Values, leanings, solve}
use Rattle.rules.specs.Update.{changed, turn_all}
use Rattle.rules.specs.Session.{held, session_of}
use Rattle.rules.specs.Calls.{value_at, bits, marks_of, batch_by}
use Rattle.rules.specs.declared.Session.{Session}
use Rattle.laws.specs.moves.Edits.{Judged}
use Rattle.laws.specs.session.SessionHolds.{Holds, moved_holds}
use Rattle.laws.specs.model.ModelSystem.{frame, Sound, sound, pairs-full}
use Rattle.laws.specs.demands.ValuesSolve.{solve-none, solve-same, solve-solves, solution-out}
use Rattle.laws.specs.model.UpdateMoves.{fits-old, fits-new, frame_same, update-values}
use Rattle.laws.specs.session.Accepted.{Solved, WasBatch, bits_small, marks-small}

-- A room that begins with the bits of some values holds these.
pub held-values : (n : ℕ) (v : Values) (room : List ℕ) → take n room ≡ bits n v → (p : ℕ) → p < n → value_at room p ≡ v p
held-values n v room e p h =
    ap (λ (x : ℕ). eqb x 1) (sym (get_or-take n room p 0 h) ∙ ap (λ (l : List ℕ). get_or l p 0) e ∙ listed-is n (λ p. bit (v p)) p h) ∙ bit-back (v p)

-- Values that are a model's solve its system before the batch.
pub old-solution : (m : Model) (cs : List Change) (old : Values) → Sound m → ((p : ℕ) → p < pairs_of m.sizes → old p ≡ at (solve m) p)
    → S.Solution (frame (changed cs m)) (leanings m) (at (table (pairs_of m.sizes) old))
old-solution m cs old ok e =
    subst (λ (f : S.Frame). S.Solution f (leanings m) (at (table n old))) (sym (frame_same m cs))
    (subst (S.Solution (frame m) (leanings m)) (sym same) (solution-out m _ (solve-solves m ok)))
  where
    n : ℕ
    n = pairs_of m.sizes

    same : ◌≡◌ {A = Values} (at (table n old)) (at (solve m))
    same = fun_ext (λ q. elim (dec_lt q n) [
      | yes k ↦ table_at n old q k ∙ e q k
      | no k ↦ table-past n old q (omega arith) ∙ sym (solve-none m q (omega arith))
    ])

-- From the values of a model, an update finds the values of the model with the new moves.
pub update-solves : (m : Model) (cs : List Change) → Judged m.moves cs → Sound m → Sound (changed cs m) → (old : Values)
    → ((p : ℕ) → p < pairs_of m.sizes → old p ≡ at (solve m) p)
    → (p : ℕ) → p < pairs_of m.sizes → at (turn_all (changed cs m) cs old).values p ≡ at (solve (changed cs m)) p
update-solves m cs j ok ok' old e p h =
    ap (λ (f : Values). f p) (update-values m cs j ok ok' old)
    ∙ move-solve (frame (changed cs m)) (leanings m) (leanings (changed cs m)) (fits-old m cs j ok ok' old) (fits-new m cs j ok ok' old) _
    (old-solution m cs old ok e) p (pairs-full (changed cs m) ok' p h)
    ∙ sym (ap (λ (f : Values). f p) (solve-same (changed cs m)))

-- The rooms after an accepted batch hold the model with the new moves, whatever the values were.
pub batch-holds : (s : Session) (l : Rooms) (bytes : List ℕ) (b : Batch) → Holds s l (held s l) → WasBatch s l bytes b
    → Holds (session_of (changed b.changes (held s l))) (batch_by s l (accepted b)).rooms (changed b.changes (held s l))
batch-holds s l bytes b h w =
    let m = held s l in
    let cs = b.changes in
    let n = pairs_of s.sizes in
    let t = turn_all (changed cs m) cs (value_at l.values) in
    let vs = bits n (at t.values) in
    let vn : length vs ≡ n = listed-length 0 n (λ p. bit (at t.values p)) in
    let kn : length (marks_of n t) ≡ n = listed-length 0 n (λ p. mark_of (at t.shifted p) (at t.settled p)) in
    moved_holds s l m (changed cs m) vs (marks_of n t) h refl refl refl refl vn (bits_small n (at t.values)) kn (marks-small n t) w.room

-- Where the values were the model's, those after an accepted batch are the values of the model with the new moves.
pub batch-solved : (s : Session) (l : Rooms) (bytes : List ℕ) (b : Batch) → Solved s l (held s l) → WasBatch s l bytes b
    → Solved (session_of (changed b.changes (held s l))) (batch_by s l (accepted b)).rooms (changed b.changes (held s l))
batch-solved s l bytes b h w =
    let m = held s l in
    let cs = b.changes in
    let n = pairs_of s.sizes in
    let t = turn_all (changed cs m) cs (value_at l.values) in
    let vs = bits n (at t.values) in
    let vn : length vs ≡ n = listed-length 0 n (λ p. bit (at t.values p)) in
    let e = update-solves m cs w.good (sound m h.model) (sound (changed cs m) w.model) (value_at l.values)
    (held-values n (at (solve m)) l.values h.values) in
    record {
      model = w.model;
      holds = batch-holds s l bytes b h.holds w;
      small = refl;
      values =
          take_at vs (drop (length vs) l.values) n vn
          ∙ listed_same 0 n (λ p. bit (at t.values p)) (λ p. bit (at (solve (changed cs m)) p)) (λ p k. ap bit (e p (omega arith)));
    }
