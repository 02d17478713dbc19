-- An equation more is written in its block. Assumes nothing.
use Rattle.std.proofs.Common.{◌≡◌, false, map, ◌+◌, ◌-◌, length, take, drop, length-drop, List, ℕ, arith}
use Rattle.std.proofs.Math.ListN.{length-map}
use Rattle.std.proofs.lemmas.List.{take_all}
use Rattle.rules.specs.Session.{unword}
use Rattle.model_write.specs.Spelled.{in_block, equation_bytes}
use Rattle.model_write.specs.SpelledLaws.{writing-starts, writing-fits, writing_more, writing-ends, block-step, equation-end}
use Rattle.model_write.proofs.write_blocks.Goals as goal

-- What stands after a place, cut out as code cuts it.
rest-is : (l : List ℕ) (k : ℕ) → take (length l - k) (drop k l) ≡ drop k l
rest-is l k = let n = length-drop k l in take_all (length l - k) (drop k l) (omega arith)

pub loop-i-init : goal.loop-i-init
loop-i-init c = writing-starts _ _ _ c.requires.0

pub put_in_block-at-requires : goal.put_in_block-at-requires
put_in_block-at-requires c = let ws = c.args.equations.now in
    let s = c.loop-i in
    let e = c.equation_in-e.result in
    let n = length-drop (s.i + 1) ws in
    rw (rest-is ws (s.i + 1))
    (writing-fits s.invariant (in_block s.b e (map unword (drop (s.i + 1) ws))) (equation_bytes false (e.block + 1) (map unword ws) (s.i + 1)) (block-step ws s.i e (omega arith) c.equation_in-e.ensures s.b), omega arith)

pub loop-i-preserved : goal.loop-i-preserved
loop-i-preserved c = let ws = c.args.equations.now in
    let s = c.loop-i in
    let e = c.equation_in-e.result in
    let wrote = rw (rest-is ws (s.i + 1)) at c.put_in_block-at.ensures in
    rw c.from-b.ensures (writing_more s.invariant (in_block s.b e (map unword (drop (s.i + 1) ws))) (equation_bytes false (e.block + 1) (map unword ws) (s.i + 1)) _ _ (block-step ws s.i e (omega arith) c.equation_in-e.ensures s.b) wrote)

pub returns : goal.returns
returns c = let ws = c.args.equations.now in
    let long = length-map ws unword in
    writing-ends c.loop-i.invariant (equation-end false c.loop-i.b (map unword ws) c.loop-i.i (omega arith))
