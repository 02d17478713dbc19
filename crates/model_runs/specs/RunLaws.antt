-- A loop that reads as long as good ones stand next: one more of them keeps what is known, nearer to the end. Assumes nothing.
use Rattle.std.specs.Prelude.{◌≡◌, List, ℕ, ◌-◌, ◌≤◌, ◌<◌, length}
use Rattle.std.proofs.Common.{arith}
use Rattle.rules.specs.declared.Sizes.{Sizes}
use Rattle.model_runs.specs.Runs.{Steps, more, GoodLabel, with_label, Labelled, GoodEquation, with_equation, Equated, GoodMove, with_move, Moved}
use Rattle.model_runs.specs.declared.LabelRun.{LabelRun}
use Rattle.model_runs.specs.declared.EquationRun.{EquationRun}
use Rattle.model_runs.specs.declared.MoveRun.{MoveRun}

-- The loop's invariant, of anything that has a place: it lies in n bytes, and good ones lead to it from the start.
abbrev pub Sofar : {A : Type 0} → (A → ℕ) → ℕ → (A → Type 0) → (A → A) → A → A → Type 0
Sofar at n Good past x y = (at y ≤ n) × Steps Good past x y

module _ {A : Type 0} (at : A → ℕ) (n : ℕ) (Good : A → Type 0) (past : A → A) where
  -- Past a good one the place is further on in the bytes.
  abbrev pub Leads : Type 0
  Leads = (y : A) → Good y → (at y < at (past y)) × (at (past y) ≤ n)

  -- One more: the invariant holds, and less is left.
  pub one_more : Leads → (x y w : A) → Sofar at n Good past x y → Good y → w ≡ past y → Sofar at n Good past x w × (n - at w < n - at y)
  one_more f x y w h g e = let l = f y g in rw e ((l.1, more y h.1 g), omega arith)

-- Of labels, of the equations of a block, and of moves.
pub label-more : (s : List ℕ) (z : Sizes) (x y w : LabelRun) → (y.at ≤ length s) × Labelled s z x y → GoodLabel s z y → w ≡ with_label s y
    → ((w.at ≤ length s) × Labelled s z x w) × (length s - w.at < length s - y.at)
label-more s z x y w = one_more (λ v. v.at) (length s) (GoodLabel s z) (with_label s) (λ v g. let h = g.inside_bytes in (omega arith, h)) x y w

pub equation-more : (s : List ℕ) (z : Sizes) (end : ℕ) (x y w : EquationRun) → (y.at ≤ length s) × Equated s z end x y → GoodEquation s z end y → w ≡ with_equation y
    → ((w.at ≤ length s) × Equated s z end x w) × (length s - w.at < length s - y.at)
equation-more s z end x y w = one_more (λ v. v.at) (length s) (GoodEquation s z end) with_equation (λ v g. let h = g.inside_bytes in (omega arith, h)) x y w

pub move-more : (s : List ℕ) (z : Sizes) (room : ℕ) (x y w : MoveRun) → (y.at ≤ length s) × Moved s z room x y → (y.moves.count < room) × GoodMove s z y → w ≡ with_move s y
    → ((w.at ≤ length s) × Moved s z room x w) × (length s - w.at < length s - y.at)
move-more s z room x y w = one_more (λ v. v.at) (length s) (λ v. (v.moves.count < room) × GoodMove s z v) (with_move s) (λ v g. let h = g.1.inside_bytes in (omega arith, h)) x y w
