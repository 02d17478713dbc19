-- The head that is found becomes the link, and the move becomes the head. Assumes nothing.
use mathlib.Core.Path.{◌≡◌, refl, ap}
use Prim.Native.Nat.{ℕ, ◌+◌}
use native.Mathlib.Omega.{arith}
use lib.ListN.{get_or, set}
use Rattle.engine_index.specs.ChainLaws.{link-made}
use Rattle.engine_index.specs.Indexed.{key_of, heads_of}
use Rattle.engine_index.proofs.put_link.Goals as goal

pub returns : goal.returns
returns c = let a = c.args in
    let e : c.key_of-head.result ≡ 0 + c.key_of-head.result = omega arith in
    let h : c.heads_of.result + a.j ≡ heads_of a.sizes + a.j = ap (λ (x : ℕ). x + a.j) c.heads_of.ensures.0 in
    link-made (key_of a.sizes) 0 (heads_of a.sizes) a.moves.now a.j a.index.now (set a.index.now (c.heads_of.result + a.j) (get_or a.index.now c.key_of-head.result 0)) _ c.key_of-head.result c.key_of-head.result (get_or a.index.now c.key_of-head.result 0) c.key_of-head.ensures e refl
    (ap (λ (x : ℕ). set a.index.now x (get_or a.index.now c.key_of-head.result 0)) h) refl
