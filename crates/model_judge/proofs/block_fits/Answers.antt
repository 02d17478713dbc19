-- `model_judge::block_fits` meets its contract. Assumes nothing.
use mathlib.Core.Path.{refl}
use native.Mathlib.Numerals.{add-one}
use Rattle.rules.specs.Load.{block_fits}
use Rattle.model_judge.proofs.block_fits.Goals as goal

pub returns : goal.returns
unfolding block_fits
returns c = rw add-one refl
