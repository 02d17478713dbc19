use Rattle.std.proofs.Common.{sym, subst, ℕ, ◌-◌, length, take, drop}
use Rattle.engine_index.specs.Walks.{Linked, linked}
use Rattle.engine_index.proofs.chains.chains_in.Goals as goal

pub invariant_of-result : goal.invariant_of-result
invariant_of-result c = let known = c.args.known.now in
    let heads = c.heads_of-heads.result in
    let index = known.index.now in
    record {
      linked = subst (λ (n : ℕ). Linked n known.moves.now (take heads index) (take (length index - heads) (drop heads index))) (sym c.from.ensures)
          (linked known.drawn heads index c.heads_of-heads.ensures.0 known.indexed);
    }
