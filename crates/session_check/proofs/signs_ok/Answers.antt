-- The equations one by one, and their chains. Assumes nothing.
use lib.ListN.{length-map}
use Rattle.rules.specs.Session.{unword}
use Rattle.session_check.specs.SignedWords.{signs-by}
use Rattle.session_check.proofs.signs_ok.Goals as goal

pub returns : goal.returns
returns c = signs-by _ _ _ _ _ (length-map c.args.equations.now unword) c.requires.0 c.each_sign_ok.ensures c.chains_ok.ensures
