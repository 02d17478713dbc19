use mathlib.Core.List.{List}
use mathlib.Core.Path.{◌≡◌, refl, sym, ap, ◌∙◌}
use Prim.Native.Nat.{ℕ, ◌+◌, ◌-◌, ◌*◌, ◌/◌}
use native.Mathlib.Omega.{arith}
use lib.ListN.{length, set, length-set}
use lib.Seq.{sets}
use Rattle.rules.specs.Moves.{wrap}
use Rattle.rules.specs.declared.Move.{Move}
use Rattle.words.specs.Words.{pack_of}
use Rattle.bytes_read.specs.Places.{move_at}
use Rattle.model_store.specs.RunLaws.{moves-step, moves-end}
use Rattle.model_store.specs.Stored.{moves_from}
use Rattle.model_store.proofs.put_moves.Goals as goal

pub loop-i-init : goal.loop-i-init
loop-i-init c = let a = c.args in
    let f : a.from + 0 ≡ a.from = omega arith in
    let p : a.at + 6 * 0 ≡ a.at = omega arith in
    let n : (length a.bytes.now - a.at) / 6 - 0 ≡ (length a.bytes.now - a.at) / 6 = omega arith in
    (omega arith, refl, rw (f, p, n) refl)

pub loop-i-preserved : goal.loop-i-preserved
loop-i-preserved c = let a = c.args in
    let inv = c.loop-i.invariant in
    let i = c.loop-i.i in
    let n = (length a.bytes.now - a.at) / 6 in
    let e = c.put.ensures in
    let w : c.packed.result ≡ wrap (pack_of (move_at a.bytes.now (a.at + 6 * i + 1))) = c.packed.ensures ∙ ap (λ (m : Move). wrap (pack_of m)) c.move_at-m.ensures in (
      inv.0,
      ap length e ∙ simp length-set inv.1,
      inv.2 ∙ moves-step a.bytes.now c.loop-i.moves a.at a.from i n (omega arith)
          ∙ sym (ap (λ (v : List ℕ). sets v (a.from + (i + 1)) (moves_from a.bytes.now (a.at + 6 * (i + 1)) (n - (i + 1)))) (e ∙ ap (set c.loop-i.moves (a.from + i)) w)),
    )

pub returns : goal.returns
returns c = let a = c.args in
    sym (c.loop-i.invariant.2 ∙ moves-end _ c.loop-i.moves a.at a.from c.loop-i.i _ (omega arith))
