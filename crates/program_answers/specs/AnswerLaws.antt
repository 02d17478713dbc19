-- Each answer's line fits into 96 bytes. Assumes nothing.
use Rattle.std.specs.Prelude.{◌≡◌, List, ℕ, ◌+◌, ◌*◌, ◌^◌, ◌≤◌, ◌<◌, ℤ}
use Rattle.std.proofs.Common.{mul-le-mul, arith}
use Rattle.std.specs.Int.Signed.{mag}
use Rattle.rules.specs.Answers.{number_of}
use Rattle.rules.specs.Records.{accepted}
use Rattle.rules.specs.Rooms.{pairs_of}
use Rattle.rules.specs.declared.Visits.{Visits}
use Rattle.rules.specs.declared.Refusal.{Refusal}
use Rattle.rules.specs.declared.Session.{Session}
use Rattle.rules.specs.declared.Sizes.{Sizes}
use Rattle.laws.specs.refusals.Numbered.{number-few}
use Rattle.program_lines.specs.declared.Pen.{Pen}
use Rattle.program_lines.specs.declared.Totals.{Totals}
use Rattle.program_lines.specs.Penned.{Penned}
use Rattle.program_lines.specs.Lines.{loaded_line, batch_line, refused_line}
use Rattle.program_lines.specs.Lengths.{loaded-few, batch-few, refused-few}
use Rattle.program_answers.specs.AnswerLines.{TotalsOf, load_prints, batch_prints}

-- Sizes as their bytes hold them: pairs are few enough to be counted in eight digits.
pub pairs-few : (z : Sizes) → z.variables < 256 → z.states < 65536 → pairs_of z < 10 ^ 8
pairs-few z f g =
    let v = z.variables in
    let s = z.states in
    let h : v * s ≤ 255 * 65535 = mul-le-mul {n₂ = 255} {m₂ = 65535} (omega arith) (omega arith) in
    omega arith

-- A line that was written with the numbers that the code has, and how far it goes.
module _ (before after : Pen) where
  -- A refusal's line.
  pub refusal-wrote : (why : Refusal) (k place : ℕ) → k ≡ number_of why → place < 18446744073709551616 → Penned before (refused_line k place) after
      → Penned before (refused_line (number_of why) place) after × (after.at ≤ before.at + 96)
  refusal-wrote why k place e p w =
      let h = number-few why in
      let l = refused-few k place 20 (omega arith) (omega arith) (omega arith) in
      (rw e at w, omega (arith, w.wrote.1))

  -- The end of a line about a session.
  module _ (s : Session) (values : List ℕ) (end : Totals) (of : TotalsOf s values end) (few : pairs_of s.sizes < 10 ^ 8) (old : s.stamp < 4294967296) where
    -- An accepted load's line.
    pub session-wrote : Penned before (loaded_line end.trues end.pairs end.stamp) after
        → Penned before (load_prints (accepted s) values) after × (after.at ≤ before.at + 96)
    session-wrote w =
        let f = of.few in
        let p = of.pairs in
        let q = of.stamp in
        let l = loaded-few end.trues end.pairs end.stamp (omega arith) (omega arith) (omega arith) in
        (rw (of.trues, of.pairs, of.stamp) at w, omega (arith, w.wrote.1))

    -- An accepted batch's line.
    pub report-wrote : (d : ℤ) (v : Visits) → mag d < 2147483648 → v.shift < 4294967296 → v.settle < 4294967296
        → Penned before (batch_line d v.shift v.settle end.trues end.pairs end.stamp) after
        → Penned before (batch_prints (accepted (record { session = s; visits = v; net = d })) values) after × (after.at ≤ before.at + 96)
    report-wrote d v m x y w =
        let f = of.few in
        let p = of.pairs in
        let q = of.stamp in
        let l = batch-few d v.shift v.settle end.trues end.pairs end.stamp m (omega arith) (omega arith) (omega arith) (omega arith) (omega arith) in
        (rw (of.trues, of.pairs, of.stamp) at w, omega (arith, w.wrote.1))
