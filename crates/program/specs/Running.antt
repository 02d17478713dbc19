-- The loop over the batches: what it keeps, that it begins, goes on and ends. Assumes nothing.
use Rattle.std.specs.Prelude.{◌≡◌, List, ℕ, ◌+◌, ◌-◌, ◌*◌, ◌≤◌, ◌<◌, length, take, drop}
use Rattle.std.proofs.Common.{arith, length-drop, length-take-le, take_all}
use Rattle.rules.specs.Rooms.{Rooms}
use Rattle.rules.specs.declared.Session.{Session}
use Rattle.program_lines.specs.declared.Pen.{Pen}
use Rattle.program_lines.specs.Penned.{Penned, penned-more, penned_none}
use Rattle.program_cut.specs.Cut.{cut}
use Rattle.program_cut.specs.CutLaws.{cut_most, cut-more}
use Rattle.program.specs.Steps.{batches_from, Stepped, batches-more, batches-none}

-- The bytes from a place on, cut to their own length.
pub tail-part : (from : ℕ) (input : List ℕ) → take (length input - from) (drop from input) ≡ drop from input
tail-part from input = let n = length-drop from input in take_all (length input - from) (drop from input) (omega arith)

module _ (bytes : List ℕ) (s₀ : Session) (l₀ : Rooms) (before : Pen) where
  -- The loop stands at the bytes that are left and at a place of the output, and what the batches left will print there completes what
  -- all of them print.
  pub record Running (s : Session) (l : Rooms) (rest : List ℕ) (pen : Pen) : Type 0 where
    pub bound : pen.at + 16 * length rest ≤ before.at + 16 * length bytes
    pub goes : (p : Pen) → Penned pen (batches_from s l rest) p → Penned before (batches_from s₀ l₀ bytes) p

  -- It stands so at the start.
  pub begins : Running s₀ l₀ bytes before
  begins = record { bound = omega arith; goes = λ p w. w }

  module _ (s : Session) (l : Rooms) (rest : List ℕ) (pen : Pen) (now : Running s l rest pen) where
    -- The first part of what is left was handed over: it has a byte, and the loop stands so after it.
    pub goes_on_lem : (k : ℕ) (part left : List ℕ) (r : Session) (after : Rooms) (p : Pen) → 0 < length rest → k ≡ cut rest → part ≡ take k rest
        → left ≡ drop k rest → Stepped s l part pen r after p → (length left < length rest) × Running r after left p
    goes_on_lem k part left r after p h e f g st =
        let m = cut_most rest in
        let o = cut-more rest h in
        let n = length-drop (cut rest) rest in
        let q = length-take-le (cut rest) rest m in
        let d : left ≡ drop (cut rest) rest = rw e at g in
        let w : Stepped s l (take (cut rest) rest) pen r after p = rw (f, e) at st in
        let i = w.short (omega arith) in
        let b = now.bound in
        let z : length left ≡ length rest - cut rest = rw d n in (
          omega arith,
          record {
            bound = omega arith;
            goes = λ o u. now.goes o (rw (batches-more s l rest h) (penned-more w.line (rw (w.session, w.rooms, d) at u)));
          },
        )

    -- No bytes are left: all is printed.
    pub all-printed : length rest ≤ 0 → Penned before (batches_from s₀ l₀ bytes) pen × (pen.at ≤ before.at + 16 * length bytes)
    all-printed h =
        let b = now.bound in
        (now.goes pen (rw (batches-none s l rest (omega arith)) (penned_none pen)), omega arith)
