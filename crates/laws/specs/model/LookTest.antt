-- The test of a look in the rule's words, from the changes of a batch; that it says what the machine's does, that pushes do not
-- change it, and that it asks only for pairs with the value that pairs turn from.
-- Assumes nothing.
use Rattle.std.specs.Prelude.{◌≡◌, not, ◌&&◌, ◌||◌, List, ℕ, length, eqb}
use Rattle.std.proofs.Math.Path.{refl, ap, fun_ext}
use Rattle.std.proofs.Common.{sym, ap₂, ◌∙◌, arith}
use Rattle.std.proofs.Math.Bool.{true, false}
use Rattle.std.proofs.Math.Decide.{dec_lt}
use Rattle.std.proofs.Math.ListN.{get_or-eq_default}
use Rattle.lists.specs.Lists.{is, any}
use Rattle.lists.specs.Tests.{is-out, and_left, and_right}
use Rattle.lists.specs.Smallest.{Rule, at, table}
use Rattle.lists.specs.Sets.{none}
use Rattle.lists.specs.TableLaws.{table_at, table-past}
use Rattle.systems.specs.solution.System as S
use Rattle.systems.specs.machine.Machine.{own, past_of, past, asks, looks}
use Rattle.systems.specs.lists.Steady.{Steady, past-steady}
use Rattle.systems.specs.slices.FairRuns.{Apt, asks-apt, past-free}
use Rattle.systems.specs.lists.ListMachine.{val_of, marks_in, Test, Agrees}
use Rattle.rules.specs.Model.{Model}
use Rattle.rules.specs.Rooms.{pairs_of}
use Rattle.rules.specs.Batch.{Change, inserts, deletes}
use Rattle.rules.specs.Values.{Values, state_of, term_at, block_of, greatest, leanings}
use Rattle.rules.specs.Update.{changed, gains, loses, went, shifts}
use Rattle.laws.specs.moves.Edits.{Judged}
use Rattle.laws.specs.model.ModelSystem.{frame, Sound, pairs-full}
use Rattle.laws.specs.model.UpdateMoves.{shifts-same}

-- Must the pair turn when it is looked at? While shifting: is it a seed of the shift that the changes cs start, where v has the
-- values of the blocks that are done and the old values are told from values and marks. While settling: does its equation
-- give the other value?
unfoldable pub look_test : Model → List Change → Test
look_test m cs false v marks p = shifts m cs (block_of m p) (past (frame m) v marks) v none p
look_test m cs true v marks p = asks (frame m) (leanings m) true v p

module _ (m : Model) (cs : List Change) (j : Judged m.moves cs) (ok : Sound m) (ok' : Sound (changed cs m)) where
  -- Values told from lists are none past their ends.
  was-table : (vs ks : List ℕ) → length vs ≡ pairs_of m.sizes → length ks ≡ pairs_of m.sizes
      → let was = past (frame (changed cs m)) (val_of vs) (marks_in ks) in ◌≡◌ {A = Values} (at (table (pairs_of m.sizes) was)) was
  was-table vs ks lv lk =
      let F = frame (changed cs m) in
      let was = past F (val_of vs) (marks_in ks) in
      fun_ext (λ p. elim (dec_lt p (pairs_of m.sizes)) [
        | yes h ↦ table_at (pairs_of m.sizes) was p h
        | no h ↦
            table-past (pairs_of m.sizes) was p (omega arith)
            ∙ sym (ap₂ (λ (x : ℕ) (k : ℕ). past_of (own F p) (eqb x 1) k) (get_or-eq_default vs 0 (omega arith)) (get_or-eq_default ks 0 (omega arith)))
      ])

  -- The test says what the machine's does.
  pub look-agrees : (old : Values) → Agrees (frame (changed cs m)) (leanings m) (leanings (changed cs m)) old (look_test (changed cs m) cs)
  unfolding look_test looks
  look-agrees old true vs ks p lv lk h was still = refl
  look-agrees old false vs ks p lv lk h was still =
      let F = frame (changed cs m) in
      let told = past F (val_of vs) (marks_in ks) in
      let i = block_of (changed cs m) p in
      ap (λ (r : Rule). r none p) (shifts-same m cs j ok ok' told i (pairs-full (changed cs m) ok' p h) (val_of vs))
      ∙ ap (λ (w : Values). S.shifts F (leanings m) (leanings (changed cs m)) i w (val_of vs) none p) (was-table vs ks lv lk)

-- Pushes do not change it, for any values and marks.
pub look-steady : (m : Model) (cs : List Change) → Steady (look_test m cs)
unfolding look_test shifts
look-steady m cs true v k r f e p = refl
look-steady m cs false v k r f e p =
    let F = frame m in
    let i = block_of m r in
    let b = greatest m i in
    let here = state_of m.sizes r in
    let x = eqb (block_of m r) i in
    let y = is (not b) (past F v k r) in
    let z = (gains b (inserts cs) here (term_at m r) || loses b m (deletes cs) (past F v k) here (term_at m r)) || any (λ q. none q || went m i b (past F v k) v q) (leanings m r) in
    ap (λ (w : Values). shifts m cs (block_of m p) w v none p) (past-steady F v k r f (is-out (not b) (past F v k r) (and_left y z (and_right x (y && z) e))))

-- It asks only for pairs with the value that pairs turn from.
pub look-apt : (m : Model) (cs : List Change) → Apt (frame m) (look_test m cs)
unfolding look_test shifts
look-apt m cs true v k p f e = asks-apt (frame m) (leanings m) true v p e
look-apt m cs false v k p f e =
    let F = frame m in
    let i = block_of m p in
    let b = greatest m i in
    let here = state_of m.sizes p in
    let x = eqb (block_of m p) i in
    let y = is (not b) (past F v k p) in
    let z = (gains b (inserts cs) here (term_at m p) || loses b m (deletes cs) (past F v k) here (term_at m p)) || any (λ q. none q || went m i b (past F v k) v q) (leanings m p) in
    sym (past-free F v k p f) ∙ is-out (not b) (past F v k p) (and_left y z (and_right x (y && z) e))
