-- What the code holds of a model half read, in numbers, and that they are inside the limits. Definitions only.
use Rattle.std.proofs.Props.{props}
use Rattle.std.specs.Prelude.{[], ℕ, ◌+◌, ◌-◌, ◌*◌, ◌≤◌}
use Rattle.rules.specs.Limits.{most_states, most_actions, most_variables, most_blocks, most_moves}
use Rattle.rules.specs.Load.{Sofar}
use Rattle.rules.specs.declared.Sizes.{Sizes}
use Rattle.model_runs.specs.declared.MovesRead.{MovesRead}
use Rattle.model_judge.specs.declared.progress.BlocksRead.{BlocksRead}

-- What holds of every state on the way: no number grows past its limit. In a model with blocks equations are due, and have
-- been read, only once a block has begun, and those of the last block are all that remain. The first block or equation passes
-- all states.
pub record Kept (x : Sofar) : Type 0 where
  pub states : x.sizes.states ≤ most_states
  pub some_state : 1 ≤ x.sizes.states
  pub actions : x.sizes.actions ≤ most_actions
  pub variables : x.sizes.variables ≤ most_variables
  pub some : 1 ≤ x.sizes.variables
  pub few_blocks : x.sizes.blocks ≤ most_blocks
  pub labels : x.labels ≤ x.sizes.states
  pub passed : x.sizes.states ≤ x.labels + most_states * (1 - (x.blocks.count + x.blocks.equations))
  pub count : x.blocks.count ≤ x.sizes.blocks
  pub kind : x.blocks.kind ≤ 1
  pub equations : x.blocks.equations + x.blocks.due ≤ x.sizes.variables
  pub begun : x.blocks.due ≤ most_variables * x.blocks.count
  pub read : x.blocks.equations ≤ most_variables * x.blocks.count + most_variables * (1 - x.sizes.blocks)
  pub remain : x.sizes.variables ≤ x.blocks.equations + x.blocks.due + most_variables * (x.sizes.blocks - x.blocks.count) + most_variables * (1 - x.sizes.blocks)
  pub moves : x.moves.count ≤ most_moves

-- What has been read so far. The equations with signs are not held: they stand in the bytes.
abbrev pub sofar_by : Sizes → ℕ → ℕ → BlocksRead → MovesRead → Sofar
sofar_by z live labels b m =
    record {
      sizes = z;
      live = live;
      labels = labels;
      blocks = record { count = b.count; kind = b.kind; due = b.due; equations = b.equations };
      signs = [];
      moves = record { count = m.count; least = m.least; moving = m.moving };
    }

-- That is inside the limits.
abbrev pub Keeps : Sizes → ℕ → ℕ → BlocksRead → MovesRead → Type 0
Keeps z live labels b m = Kept (sofar_by z live labels b m)

-- There is at most one proof of it.
pub kept-prop : (x : Sofar) → IsProp (Kept x)
kept-prop x = Prim.hlevel props
