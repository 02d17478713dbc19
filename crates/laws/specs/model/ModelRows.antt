-- The rows of a model: the pairs of one variable, a place for each state. On the course of an update, a loop over the variables
-- looks at the rows of its block and passes by the others.
-- Assumes nothing.
use Rattle.std.specs.Prelude.{◌≡◌, Bool, List, length}
use Rattle.std.proofs.Common.{sym, ap, ◌∙◌, mul-le-mul_right}
use Rattle.std.proofs.Math.Path.{subst}
use Prim.Native.Nat.{ℕ, suc, ◌+◌, ◌-◌, ◌*◌, ◌≤◌, ◌<◌}
use native.Mathlib.Omega.{arith}
use Rattle.systems.specs.machine.Machine.{Finds}
use Rattle.systems.specs.lists.ListMachine.{val_of, marks_in, Job, Test, Agrees, seek_l}
use Rattle.systems.specs.lists.ListCourse.{Underway}
use Rattle.systems.specs.lists.Places.{onward}
use Rattle.systems.specs.lists.Rows.{look_row}
use Rattle.systems.specs.lists.Loops.{loop-skip, loop-row}
use Rattle.rules.specs.Model.{Model, blocks_of}
use Rattle.rules.specs.Rooms.{pairs_of}
use Rattle.rules.specs.Batch.{Change}
use Rattle.rules.specs.Values.{state, variable, equation_at, block_of, leanings}
use Rattle.rules.specs.Update.{changed}
use Rattle.laws.specs.moves.Edits.{Judged}
use Rattle.laws.specs.model.ModelSystem.{frame, Sound, pair-block}
use Rattle.laws.specs.model.MachineRules.{update_of}

-- The row of a variable is among the pairs.
pub row_fits : (m : Model) (y : ℕ) → y < m.sizes.variables → y * m.sizes.states + m.sizes.states ≤ pairs_of m.sizes
row_fits m y h = let k = mul-le-mul_right m.sizes.states h in omega arith

module _ (m : Model) (cs : List Change) (j : Judged m.moves cs) (ok : Sound m) (ok' : Sound (changed cs m)) (vs : List ℕ) (long : length vs ≡ pairs_of m.sizes)
    (on : ℕ → List ℕ) (finds : Finds (frame (changed cs m)) (leanings (changed cs m)) on) (y : ℕ) (lt : y < m.sizes.variables)
    {n : ℕ} (d : Job) (w : Underway (update_of m cs j ok ok' vs long) on n (seek_l (frame (changed cs m)) d)) (low : d.block < blocks_of m)
    (place : d.place ≡ y * m.sizes.states) where
  -- The block of the row's pairs is the variable's.
  row_block : (s : ℕ) → s < m.sizes.states → block_of (changed cs m) (d.place + s) ≡ (equation_at m (variable y)).block
  row_block s h = ap (λ (p : ℕ). block_of (changed cs m) (p + s)) place ∙ pair-block (changed cs m) ok' (state s) (variable y) h lt

  -- The row of a variable of another block is passed by.
  pub pass-row : ((equation_at m (variable y)).block ≡ d.block → ⊥) → Underway (update_of m cs j ok ok' vs long) on n (seek_l (frame (changed cs m)) (onward m.sizes.states d))
  unfolding update_of
  pass-row other =
      loop-skip {u = update_of m cs j ok ok' vs long} d w m.sizes.states low (let k = row_fits m y lt in omega arith) (λ s h e. other (sym (row_block s h) ∙ e))

  -- The row of a variable of the block is looked at, where none has turned in the phase: f says which of its pairs must turn.
  pub see-row : (test : Test) → Agrees (frame (changed cs m)) (leanings m) (leanings (changed cs m)) (val_of vs) test → (f : ℕ → Bool)
      → (equation_at m (variable y)).block ≡ d.block → d.pile.from ≡ 0
      → ((s : ℕ) → s < m.sizes.states → test d.settling (val_of d.vals) (marks_in d.pile.marks) (d.place + s) ≡ f (d.place + s))
      → Underway (update_of m cs j ok ok' vs long) on (n + m.sizes.states) (seek_l (frame (changed cs m)) (look_row f m.sizes.states d))
  unfolding update_of
  see-row test agrees f own from says =
      let some = ok.some in
      let e : suc (m.sizes.states - 1) ≡ m.sizes.states = omega arith in
      subst (λ (k : ℕ). Underway (update_of m cs j ok ok' vs long) on (n + k) (seek_l (frame (changed cs m)) (look_row f k d))) e
      (loop-row {u = update_of m cs j ok ok' vs long} finds test agrees d w f (m.sizes.states - 1) low from (let k = row_fits m y lt in omega arith)
      (λ s h. row_block s (omega arith) ∙ own) (λ s h. says s (omega arith)))
