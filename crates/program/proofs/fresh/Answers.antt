-- The rooms are all 0. Assumes nothing.
use Rattle.std.proofs.Common.{refl}
use Rattle.program.specs.Program.{fresh_rooms}
use Rattle.program.proofs.fresh.Goals as goal

pub returns : goal.returns
unfolding fresh_rooms
returns c = refl
