-- A look at the row of a variable, put together from what its steps tell and leave. Assumes nothing.
use Rattle.std.specs.Prelude.{◌≡◌, refl, Bool, true, false, not, List, ℕ, zero, suc, ◌+◌, ◌-◌, ◌*◌, ◌≤◌, ◌<◌, length, get_or}
use Rattle.std.proofs.Math.Path.{sym, ap₂, subst}
use Rattle.std.proofs.Common.{ap, ◌∙◌}
use Rattle.std.proofs.Math.Bool.{◌&&◌}
use native.Mathlib.Omega.{arith}
use Rattle.std.proofs.Math.Dec.{eqb}
use Rattle.lists.specs.Tests.{is-bit}
use Rattle.lists.specs.Lists.{bit}
use Rattle.systems.specs.machine.Machine.{asks}
use Rattle.systems.specs.lists.ListMachine.{val_of, marks_in, Job}
use Rattle.systems.specs.lists.Rows.{hits}
use Rattle.rules.specs.Model.{blocks_of}
use Rattle.rules.specs.Rooms.{pairs_of}
use Rattle.rules.specs.Batch.{Change}
use Rattle.rules.specs.Values.{leanings}
use Rattle.rules.specs.Calls.{value_at}
use Rattle.laws.specs.model.ModelSystem.{frame}
use Rattle.laws.specs.model.LookTest.{look_test}
use Rattle.engine_table.specs.Table.{Table, model_of, Drawn, word_at, own_in, pair_in}
use Rattle.engine_rows.specs.Rooms.{Bits, Packed, Tells, Told}
use Rattle.engine_phase.specs.Course.{on-vals, on-bits, on-marks, on-small, on-told, on-hits}
use Rattle.engine_phase.specs.Phase.{Somewhere, Leads, job_in, RowLeft, row-none, leads-row}
use Rattle.engine_phase.specs.PutRow.{turns_from, turns_in, hits-same, row_same}

-- The byte of the other value of a kind.
pub other_byte : (kind : ℕ) → kind ≤ 1 → 1 - kind ≡ bit (not (eqb kind 1))
other_byte zero h = refl
other_byte (suc zero) h = refl
other_byte (suc (suc k)) h = absurd (omega arith)

-- What is told of a row, as the test of a look has it.
module _ (t : Table) (cs : List Change) (values marks bad : List ℕ) (y n : ℕ) (r : Bool) where
  -- The row tells what the test says, in this phase.
  abbrev pub TellsLook : Bool → Type 0
  TellsLook ph = Tells n (turns_from ph (own_in t y)) values (y * t.sizes.states) (λ s. look_test (model_of t) cs ph (value_at values) (marks_in marks) (pair_in t.sizes y s)) bad r

  pub tells-settle : (ph : Bool) → ph ≡ true
      → Tells n (own_in t y) values (y * t.sizes.states) (λ s. asks (frame (model_of t)) (leanings (model_of t)) true (value_at values) (pair_in t.sizes y s)) bad r → TellsLook ph
  unfolding look_test
  tells-settle ph e h = subst TellsLook (sym e) h

  pub tells-shift : (ph : Bool) → ph ≡ false
      → Tells n (not (own_in t y)) values (y * t.sizes.states) (λ s. look_test (model_of t) cs false (value_at values) (marks_in marks) (pair_in t.sizes y s)) bad r → TellsLook ph
  tells-shift ph e h = subst TellsLook (sym e) h

module _ {t : Table} (dr : Drawn t) (cs : List Change) (i : ℕ) (ph : Bool) (low : i < blocks_of (model_of t)) (y : ℕ) (lt : y < t.sizes.variables) (own : (word_at t y).block ≡ i)
    (values marks queue : List ℕ) (tail : ℕ) (room : pairs_of t.sizes < length queue)
    (sw : Somewhere {I = ℕ × ℕ} t cs (λ v. job_in t.sizes i ph (y * t.sizes.states) values marks queue 0 tail v.0 v.1)) where
  -- The lists where the row is next, and the test of a look at them.
  abbrev d : Job
  d = job_in t.sizes i ph (y * t.sizes.states) values marks queue 0 tail sw.index.0 sw.index.1

  abbrev test : ℕ → Bool
  test = look_test (model_of t) cs ph (val_of values) (marks_in marks)

  -- What the steps of the look may count on.
  pub look-vals : length values ≡ pairs_of t.sizes
  look-vals = on-vals dr d sw.on

  pub look-bits : Bits values
  look-bits = on-bits dr d sw.on

  pub look-marks : length marks ≡ pairs_of t.sizes
  look-marks = on-marks dr d sw.on

  pub look-small : (p : ℕ) → get_or marks p 0 ≤ 3
  look-small = on-small dr d sw.on

  pub look-told : ph ≡ false → Told t values marks y
  look-told = on-told dr d sw.on y lt low refl refl own

  look-hits : tail + length (hits test (y * t.sizes.states) t.sizes.states) ≤ pairs_of t.sizes
  look-hits = on-hits dr d sw.on y lt low refl refl own test (λ s h. refl)

  module _ (bad : List ℕ) (r : Bool) (tells : TellsLook t cs values marks bad y t.sizes.states r ph) where
    -- Where the answer is no, none must turn.
    pub look_none : r ≡ false → Packed t.sizes queue tail
        → Packed t.sizes queue tail × Leads {I = ℕ × ℕ} t cs (λ v. job_in t.sizes i ph (y * t.sizes.states) values marks queue 0 tail v.0 v.1)
        (λ v. job_in t.sizes i ph ((y + 1) * t.sizes.states) values marks queue 0 tail v.0 v.1)
    look_none e packed = (
      packed,
      leads-row dr cs i ph low y lt values marks queue tail own marks queue tail refl (omega arith)
          (row-none t.sizes test ph (y * t.sizes.states) t.sizes.states marks queue tail (λ s h. tells.no e s h) packed),
    )

    module _ (from : ℕ) (is-from : from ≡ bit (turns_from ph (own_in t y))) (e : r ≡ true) where
      -- Else those must that have the value and whose places are bad.
      look-tests : (s : ℕ) → s < t.sizes.states → turns_in values from bad (y * t.sizes.states) (y * t.sizes.states + s) ≡ test (y * t.sizes.states + s)
      unfolding turns_in
      look-tests s h =
          ap₂ ◌&&◌ (ap (eqb (get_or values (y * t.sizes.states + s) 0)) is-from ∙ sym (is-bit (turns_from ph (own_in t y)) (get_or values (y * t.sizes.states + s) 0) (look-bits (y * t.sizes.states + s))))
          (ap (λ (k : ℕ). eqb (get_or bad k 0) 1) (let k : y * t.sizes.states + s - y * t.sizes.states ≡ s = omega arith in k))
          ∙ sym (tells.yes e s h)

      pub look-room : tail + length (hits (turns_in values from bad (y * t.sizes.states)) (y * t.sizes.states) t.sizes.states) < length queue
      look-room =
          let k = ap length (hits-same (turns_in values from bad (y * t.sizes.states)) test (y * t.sizes.states) t.sizes.states look-tests) in
          let h = look-hits in
          omega arith

      pub look-left : (marks' queue' : List ℕ) (tail' : ℕ) → length queue' ≡ length queue
          → RowLeft t.sizes (turns_in values from bad (y * t.sizes.states)) ph (y * t.sizes.states) t.sizes.states marks queue tail marks' queue' tail'
          → Packed t.sizes queue' tail' × Leads {I = ℕ × ℕ} t cs (λ v. job_in t.sizes i ph (y * t.sizes.states) values marks queue 0 tail v.0 v.1)
          (λ v. job_in t.sizes i ph ((y + 1) * t.sizes.states) values marks' queue' 0 tail' v.0 v.1)
      look-left marks' queue' tail' long left = (
        left.packed,
        leads-row dr cs i ph low y lt values marks queue tail own marks' queue' tail' long (omega arith)
            (row_same (turns_in values from bad (y * t.sizes.states)) test (y * t.sizes.states) t.sizes ph t.sizes.states marks queue tail marks' queue' tail' look-tests left),
      )
