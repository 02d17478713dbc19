-- What a pen has written, and one writing after another. Assumes nothing.
use Rattle.std.specs.Prelude.{◌≡◌, refl, List, [], ◌++◌, ℕ}
use Rattle.std.proofs.Common.{◌∙◌}
use Rattle.model_write.specs.Spelled.{Wrote}
use Rattle.model_write.specs.SpelledLaws.{wrote-more, wrote_none}
use Rattle.program_lines.specs.declared.Pen.{Pen}

-- A pen that wrote these bytes: its room is the same, which holds them from its place on, and its place is the one after them.
pub record Penned (before : Pen) (bs : List ℕ) (after : Pen) : Type 0 where
  pub same : after.out.ghost_name ≡ before.out.ghost_name
  pub wrote : Wrote before.out.now before.at bs after.out.now after.at

-- Two runs of bytes, one after the other.
pub penned-more : {bs cs : List ℕ} {before mid after : Pen} → Penned before bs mid → Penned mid cs after → Penned before (bs ++ cs) after
penned-more {bs} {cs} {before} {mid} {after} f g =
    record {
      same = g.same ∙ f.same;
      wrote = wrote-more bs cs before.out.now mid.out.now after.out.now before.at mid.at after.at f.wrote g.wrote;
    }

-- A pen that wrote nothing.
pub penned_none : (pen : Pen) → Penned pen [] pen
penned_none pen = record { same = refl; wrote = wrote_none pen.out.now pen.at }
