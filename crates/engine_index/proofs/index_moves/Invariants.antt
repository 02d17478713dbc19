-- One move after the other. The loop keeps that the index is as linking the first j moves makes it. Assumes nothing.
use Rattle.std.specs.Prelude.{◌≡◌}
use Rattle.engine_index.specs.Chains.{linked}
use Rattle.engine_index.specs.Indexed.{key_of, heads_of}
use Rattle.engine_index.proofs.index_moves.Given as goal

abbrev pub invariant-loop-j : goal.invariant-loop-j
invariant-loop-j l = l.index ≡ linked (key_of l.sizes) 0 (heads_of l.sizes) l.moves l.j l.initial.index
