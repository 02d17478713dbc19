-- Each word is asked for its sign and numbers. Assumes nothing.
use Rattle.std.proofs.Common.{rules, ℕ, Bool, refl, sym, ap, ◌∙◌, map, length}
use borrow.Author.Tests.{tests}
use Rattle.std.proofs.lemmas.Iterator.{YieldsList-from_slice}
use Rattle.std.proofs.lemmas.Iterator.Search.{all_from_yields_List}
use Rattle.rules.specs.Model.{sign_ok, equation_in}
use Rattle.rules.specs.Session.{unword}
use Rattle.rules.specs.declared.Equation.{Equation}
use Rattle.model_chains.specs.Ranged.{all-entries}
use Rattle.model_chains.specs.Stored.{told_at}
use Rattle.session_check.specs.SignedWords.{each_sign}
use Rattle.session_check.proofs.each_sign_ok.Goals as goal

pub returns : goal.returns
unfolding each_sign
returns c = let z = c.args.sizes in
    let ws = c.args.equations.now in
    let p : ℕ → Bool = λ w. sign_ok z (unword w) in
    all_from_yields_List p _ _ _ c.all.ensures.ran (YieldsList-from_slice ws cc) (λ x b q k. search (rules, tests))
    ∙ all-entries p (λ x. sign_ok z (equation_in (map unword ws) x)) 0 ws (length ws) refl (λ k h. ap (λ (e : Equation). sign_ok z e) (sym (told_at ws k)))
