-- The loop's invariant: what was found of the bytes so far, and what is asked of the others, is what is asked of all. Assumes nothing.
use Rattle.std.proofs.Common.{◌≡◌, ◌&&◌, drop}
use Rattle.std.specs.Prelude.{leb}
use Rattle.lists.specs.Lists.{all}
use Rattle.session_check.proofs.bytes_ok.Given as goal

abbrev pub invariant-loop-v : goal.invariant-loop-v
invariant-loop-v l = (l.ok && all (λ v. leb v l.most) (drop l.v-index l.room)) ≡ all (λ v. leb v l.most) l.room
