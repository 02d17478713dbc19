-- The step machine on lists, run on a model, answers what the rule says: for any old values after exactly 2 N + L + S units,
-- N pairs, L of them shifted and S settled, and it is seen at once that they are over; the old values can be told at every
-- point on the way; and a load is the same machine from each block's own value. Code is held to this machine.
-- Assumes nothing.
use Rattle.std.specs.Prelude.{◌≡◌, refl, List, ℕ, ◌+◌, ◌≤◌, ◌<◌, min, length, get_or, eqb}
use Rattle.std.proofs.Math.Path.{sym, ap, ap₂, subst, fun_ext}
use Rattle.std.proofs.Common.{◌∙◌}
use Rattle.std.proofs.Math.Decide.{dec_lt}
use native.Mathlib.Omega.{arith}
use Rattle.std.proofs.Math.ListN.{get_or-eq_default}
use Rattle.std.proofs.Math.Seq.{ext_get_or}
use Rattle.lists.specs.Marks.{mark_of}
use Rattle.lists.specs.Lists.{bit}
use Rattle.lists.specs.Smallest.{at, table}
use Rattle.lists.specs.Sums.{sum-ext}
use Rattle.lists.specs.TableLaws.{table_at, table-past, listed-is, listed-length}
use Rattle.systems.specs.solution.System.{Frame}
use Rattle.systems.specs.solution.System as S
use Rattle.systems.specs.moving.Marks.{shift_of, settle_of, mark}
use Rattle.systems.specs.moving.Marks as K
use Rattle.systems.specs.machine.Machine.{own, past, Finds}
use Rattle.systems.specs.machine.Phases.{Update}
use Rattle.systems.specs.machine.MachineMoves.{unit_count, unit-count}
use Rattle.systems.specs.lists.ListMachine.{val_of, marks_in, Job, Test, Agrees, run_l, start_l}
use Rattle.systems.specs.lists.ListCourse.{Underway}
use Rattle.systems.specs.lists.ListKeeps.{way-old}
use Rattle.systems.specs.lists.ListsMove.{MovesL, way-start, way-run, way-before, way_end, way-moves}
use Rattle.systems.specs.machine.LoadSolves.{lists-solve}
use Rattle.rules.specs.Model.{Model, blocks_of}
use Rattle.rules.specs.Rooms.{pairs_of}
use Rattle.rules.specs.Batch.{Change}
use Rattle.rules.specs.Values.{Values, leanings, solve}
use Rattle.rules.specs.Update.{changed, Turned, turn_all, visits_on, trues}
use Rattle.rules.specs.Calls.{value_at, bits, marks_of}
use Rattle.laws.specs.moves.Edits.{Judged}
use Rattle.laws.specs.model.ModelSystem.{frame, Sound, pairs-full, model-fits}
use Rattle.laws.specs.demands.ValuesSolve.{solve-same}
use Rattle.laws.specs.model.UpdateMoves.{fits-old, fits-new, update-values, update-shifted, update-settled, visits-agree}

-- The update's machine, n units on: the model m with its new moves, a test of looks, lists of who leans on whom, the values vs,
-- and room for a queue.
abbrev pub updated : Model → Test → (ℕ → List ℕ) → List ℕ → List ℕ → ℕ → Job
updated m test on vs queue n = run_l (frame m) (leanings m) test on n (start_l (frame m) vs queue)

-- The lists after the last unit: values, marks and visits as the rule says.
pub record Answers (m : Model) (t : Turned) (c : Job) : Type 0 where
  pub values : c.vals ≡ bits (pairs_of m.sizes) (at t.values)
  pub marks : c.pile.marks ≡ marks_of (pairs_of m.sizes) t
  pub shift : c.shift_visits ≡ visits_on m (at t.shifted)
  pub settle : c.settle_visits ≡ visits_on m (at t.settled)

-- 2 N + L + S.
unfoldable pub units_of : Model → Turned → ℕ
units_of m t = pairs_of m.sizes + pairs_of m.sizes + trues (pairs_of m.sizes) (at t.shifted) + trues (pairs_of m.sizes) (at t.settled)

module _ (m : Model) (cs : List Change) (j : Judged m.moves cs) (ok : Sound m) (ok' : Sound (changed cs m)) (vs : List ℕ) (long : length vs ≡ pairs_of m.sizes) where
  abbrev F : Frame
  F = frame (changed cs m)

  abbrev t : Turned
  t = turn_all (changed cs m) cs (value_at vs)

  -- The update of the model by the changes, from the values in the list.
  unfoldable pub update_of : Update
  update_of = record {
    F = F;
    L = leanings m;
    M = leanings (changed cs m);
    old = val_of vs;
    fits = fits-old m cs j ok ok' (value_at vs);
    fits' = fits-new m cs j ok ok' (value_at vs);
  }

  -- The values in the list are those that the rule starts from.
  was-same : ◌≡◌ {A = Values} (at (table (pairs_of m.sizes) (value_at vs))) (val_of vs)
  was-same = fun_ext (λ p. elim (dec_lt p (pairs_of m.sizes)) [
    | yes h ↦ table_at (pairs_of m.sizes) (value_at vs) p h
    | no h ↦ table-past (pairs_of m.sizes) (value_at vs) p (omega arith) ∙ sym (ap (λ (x : ℕ). eqb x 1) (get_or-eq_default vs 0 (omega arith)))
  ])

  shifted-same : (p : ℕ) → p < pairs_of m.sizes → shift_of F (leanings m) (leanings (changed cs m)) (val_of vs) p ≡ at t.shifted p
  shifted-same p h =
      ap (λ (v : Values). shift_of F (leanings m) (leanings (changed cs m)) v p) (sym was-same) ∙ sym (update-shifted m cs j ok ok' (value_at vs) p h)

  settled_same : (p : ℕ) → p < pairs_of m.sizes → settle_of F (leanings m) (leanings (changed cs m)) (val_of vs) p ≡ at t.settled p
  settled_same p h =
      ap (λ (v : Values). settle_of F (leanings m) (leanings (changed cs m)) v p) (sym was-same) ∙ sym (update-settled m cs j ok ok' (value_at vs) p h)

  -- The lists have all that the rule says.
  pub moves-answer : (c : Job) → MovesL F (leanings m) (leanings (changed cs m)) (val_of vs) c → Answers (changed cs m) t c
  unfolding visits_on K.visits mark
  moves-answer c w =
      let N = pairs_of m.sizes in
      let L = leanings m in
      let M = leanings (changed cs m) in
      let lv = listed-length 0 N (λ p. bit (at t.values p)) in
      let lm = listed-length 0 N (λ p. mark_of (at t.shifted p) (at t.settled p)) in
      record {
        values = ext_get_or 0 _ (bits N (at t.values)) (w.long ∙ sym lv) (λ p k.
            let l : p < N = omega (arith, w.long) in
            w.values p l
            ∙ ap bit (ap (λ (v : Values). S.move F L M v p) (sym was-same) ∙ sym (ap (λ (f : Values). f p) (update-values m cs j ok ok' (value_at vs))))
            ∙ sym (listed-is N (λ p. bit (at t.values p)) p l));
        marks = ext_get_or 0 _ (marks_of N t) (w.long_marks ∙ sym lm) (λ p k.
            let l : p < N = omega (arith, w.long_marks) in
            w.marks p l ∙ ap₂ mark_of (shifted-same p l) (settled_same p l)
            ∙ sym (listed-is N (λ p. mark_of (at t.shifted p) (at t.settled p)) p l));
        shift = w.shift_visits ∙ visits-agree (changed cs m) ok' (shift_of F L M (val_of vs)) (at t.shifted) shifted-same;
        settle = w.settle_visits ∙ visits-agree (changed cs m) ok' (settle_of F L M (val_of vs)) (at t.settled) settled_same;
      }

  module _ (on : ℕ → List ℕ) (finds : Finds F (leanings (changed cs m)) on) where
    -- The machine takes 2 N + L + S units.
    pub units-are : unit_count F (leanings m) (leanings (changed cs m)) (val_of vs) ≡ units_of (changed cs m) t
    unfolding units_of
    units-are =
        let a = unit-count F (leanings m) (leanings (changed cs m)) (val_of vs) on (fits-old m cs j ok ok' (value_at vs)) (fits-new m cs j ok ok' (value_at vs))
        finds (pairs-full (changed cs m) ok') in
        let b = sum-ext (pairs_of m.sizes) (λ p. bit (shift_of F (leanings m) (leanings (changed cs m)) (val_of vs) p)) (λ p. bit (at t.shifted p)) (λ p h. ap bit (shifted-same p h)) in
        let c = sum-ext (pairs_of m.sizes) (λ p. bit (settle_of F (leanings m) (leanings (changed cs m)) (val_of vs) p)) (λ p. bit (at t.settled p)) (λ p h. ap bit (settled_same p h)) in
        omega arith

    -- Lists on the course whose block is past the last have had all units, and are the rule's answer.
    pub course-answers : {n : ℕ} {c : Job} → Underway update_of on n c → blocks_of m ≤ c.block → (n ≡ units_of (changed cs m) t) × Answers (changed cs m) t c
    unfolding update_of
    course-answers {c = c} w b =
        (way_end {u = update_of} finds w b ∙ units-are, moves-answer c (way-moves {u = update_of} finds (pairs-full (changed cs m) ok') w b))

    -- Lists on the course whose block is not past the last have units to come.
    pub course-before : {n : ℕ} {c : Job} → Underway update_of on n c → c.block < blocks_of m → n < units_of (changed cs m) t
    unfolding update_of
    course-before w b = let h = way-before {u = update_of} finds w b in let e = units-are in omega arith

    -- At every point of the course the old values can be told from the values and the marks.
    pub course-old : {n : ℕ} {c : Job} → Underway update_of on n c → (p : ℕ) → past F (val_of c.vals) (marks_in c.pile.marks) p ≡ value_at vs p
    unfolding update_of
    course-old w p = way-old {u = update_of} w p

    module _ (test : Test) (agrees : Agrees F (leanings m) (leanings (changed cs m)) (val_of vs) test) where
      -- k units more go on with the course, until the last.
      pub course-run : (k : ℕ) {n : ℕ} {c : Job} → Underway update_of on n c
          → Underway update_of on (min (n + k) (units_of (changed cs m) t)) (run_l F (leanings (changed cs m)) test on k c)
      unfolding update_of
      course-run k {n} {c} w =
          subst (λ (i : ℕ). Underway update_of on (min (n + k) i) (run_l F (leanings (changed cs m)) test on k c)) units-are (way-run {u = update_of} finds test agrees k w)

    -- The machine from the start.
    module _ (queue : List ℕ) (small : (p : ℕ) → get_or vs p 0 ≤ 1) (room : pairs_of m.sizes ≤ length queue)
        (test : Test) (agrees : Agrees F (leanings m) (leanings (changed cs m)) (val_of vs) test) where
      -- The lists before the first unit are on the course.
      pub machine-starts : Underway update_of on 0 (start_l F vs queue)
      unfolding update_of
      machine-starts = way-start update_of on vs queue long small room (λ p. refl)

      -- The machine stays on it.
      pub machine-runs : (n : ℕ) → Underway update_of on (min n (units_of (changed cs m) t)) (updated (changed cs m) test on vs queue n)
      machine-runs n =
          subst (λ (k : ℕ). Underway update_of on k (updated (changed cs m) test on vs queue n)) (omega arith) (course-run test agrees n machine-starts)

      -- Before the last unit the block is not past the last.
      pub machine-before : (n : ℕ) → n < units_of (changed cs m) t → (updated (changed cs m) test on vs queue n).block < blocks_of m
      machine-before n h =
          let c = updated (changed cs m) test on vs queue n in
          elim (dec_lt c.block (blocks_of m)) [
            | yes b ↦ b
            | no b ↦ let e = (course-answers (machine-runs n) (omega arith)).0 in absurd (omega arith)
          ]

      -- From the last unit on it is.
      pub machine-done : (n : ℕ) → units_of (changed cs m) t ≤ n → blocks_of m ≤ (updated (changed cs m) test on vs queue n).block
      machine-done n h =
          let c = updated (changed cs m) test on vs queue n in
          elim (dec_lt c.block (blocks_of m)) [
            | yes b ↦ let e = course-before (machine-runs n) b in absurd (omega arith)
            | no b ↦ omega arith
          ]

      -- From the last unit on the lists are the rule's answer, whatever the values were.
      pub machine-answers : (n : ℕ) → units_of (changed cs m) t ≤ n → Answers (changed cs m) t (updated (changed cs m) test on vs queue n)
      machine-answers n h = (course-answers (machine-runs n) (machine-done n h)).1

      -- After any number of units the old values can be told from the values and the marks.
      pub machine-old : (n p : ℕ) → let c = updated (changed cs m) test on vs queue n in past F (val_of c.vals) (marks_in c.pile.marks) p ≡ value_at vs p
      machine-old n p = course-old (machine-runs n) p

-- A load: from each block's own value, with no move changed, the machine ends in the values of the model.
pub machine-loads : (m : Model) → Sound m → (on : ℕ → List ℕ) → Finds (frame m) (leanings m) on → (vs queue : List ℕ) → length vs ≡ pairs_of m.sizes
    → ((p : ℕ) → get_or vs p 0 ≤ 1) → pairs_of m.sizes ≤ length queue → (test : Test) → Agrees (frame m) (leanings m) (leanings m) (val_of vs) test
    → ((p : ℕ) → value_at vs p ≡ own (frame m) p) → (n : ℕ) → unit_count (frame m) (leanings m) (leanings m) (own (frame m)) ≤ n
    → (p : ℕ) → p < pairs_of m.sizes → get_or (updated m test on vs queue n).vals p 0 ≡ bit (at (solve m) p)
machine-loads m ok on finds vs queue long small room test agrees start n h p l =
    lists-solve (frame m) (leanings m) (model-fits m ok) on finds (pairs-full m ok) vs queue long small room test agrees start n h p l
    ∙ ap bit (sym (ap (λ (f : Values). f p) (solve-same m)))
