-- Each room is cleared as far as its need says. Assumes nothing.
use mathlib.Core.Path.{ap, ◌∙◌}
use Prim.Native.Nat.{ℕ}
use lib.ListN.{replicate}
use Rattle.lists.specs.Lists.{fill}
use Rattle.engine.proofs.clear_work.Goals as goal

pub returns : goal.returns
returns c = let a = c.args in (
  c.set_first.ensures ∙ ap (λ (n : ℕ). fill (replicate n 0) a.index.now) c.index_needs-links.ensures.0,
  c.set_first-2.ensures ∙ ap (λ (n : ℕ). fill (replicate n 0) a.queue.now) c.queue_needs-waiting.ensures.0,
)
