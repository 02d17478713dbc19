-- The model that code has at hand, with labels that lie beside it. Definitions only.
use Rattle.std.specs.Prelude.{List, ℕ}
use Rattle.engine_table.specs.Table.{Table, table_in}
use Rattle.engine_index.specs.declared.Known.{Known}

-- The table that it is with these labels.
abbrev pub at_labels : Known → List ℕ → Table
at_labels k labels = table_in k.sizes labels k.equations.now k.moves.now
