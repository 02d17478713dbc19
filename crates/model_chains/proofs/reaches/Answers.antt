use Rattle.std.proofs.Common.{◌≡◌, ◌∙◌, sym, map, arith, length}
use Rattle.std.proofs.lemmas.List.{length-map}
use Rattle.std.specs.Prelude.{suc}
use Rattle.std.specs.Cmp.Lexicographic.{same_text}
use Rattle.rules.specs.Session.{unword}
use Rattle.model_chains.specs.Reaching.{rounded-none, rounded-more, rounded-reaches, rounded-same}
use Rattle.model_chains.proofs.reaches.Goals as goal

pub loop-k-init : goal.loop-k-init
loop-k-init c = rw c.requires.1 (rounded-none _)

pub returns-then-eq : goal.returns-then-eq
returns-then-eq c = rounded-same _ _ _ _ _ (sym (length-map c.args.equations.now unword)) (omega arith) c.loop-k.invariant c.round.ensures (same_text _ _ (sym c.if-eq.true ∙ c.eq.ensures))

pub loop-k-preserved : goal.loop-k-preserved
loop-k-preserved c = rounded-more _ _ _ _ _ (sym (length-map c.args.equations.now unword)) c.loop-k.invariant c.round.ensures

pub returns : goal.returns
returns c = let ws = c.args.equations.now in
    let long = length-map ws unword in
    let e : c.loop-k._k ≡ suc (length (map unword ws)) = omega arith in
    rounded-reaches _ _ _ c.loop-k.invariant e
