use mathlib.Core.Path.{◌≡◌, sym, ap, ◌∙◌, subst}
use mathlib.Core.Bool.{true}
use mathlib.Core.List.{[], ◌∷◌}
use Prim.Native.Nat.{ℕ, suc, ◌+◌, ◌-◌, ◌<◌}
use native.Mathlib.Omega.{arith}
use lib.ListN.{length, get_or}
use Rattle.engine_table.specs.Limits.{limits}
use Rattle.words.specs.Words.{waiting_of}
use Rattle.engine_index.specs.Indexed.{key_of}
use Rattle.engine_index.specs.Operands.{owner_in}
use Rattle.engine_turn.specs.Scene.{scene_in, line_of, visit_all, source_of, Along, Room}
use Rattle.engine_turn.specs.Inside.{standing-in, source-inside, along-chain}
use Rattle.engine_turn.specs.ChainVisits.{falls, chain-begins, chain-at, chain-room, chain_fits, chain-goes, chain-ends, head_at, link_at}
use Rattle.engine_turn.proofs.visit_sources.Goals as goal

pub offset_bounds-index-head : goal.offset_bounds-index-head
offset_bounds-index-head c = let i = c.args.view.now.known.now.indexed.long in
    let h = c.requires.head_bound.0 in
    omega arith

pub bounds-index-head : goal.bounds-index-head
bounds-index-head c = let i = c.args.view.now.known.now.indexed.long in
    let h = c.requires.head_bound.0 in
    omega arith

pub loop-k-init : goal.loop-k-init
loop-k-init c = let a = c.args in
    let scene = scene_in a.view.now in
    let v = line_of a.marks.now a.queue.now a.at.tail a.at.visits in
    chain-begins (key_of a.view.now.known.now.sizes) a.view.now.known.now.moves.now a.head (source_of a.view.now.known.now.moves.now (owner_in a.o)) scene a.view.now.settling (length a.view.now.known.now.moves.now) v c.from-k.result (c.from-k.ensures ∙ head_at c.args.view.now.known.now.indexed a.head c.requires.head_bound.0)

pub offset_bounds-moves-j : goal.offset_bounds-moves-j
offset_bounds-moves-j c = let b = c.loop-k.invariant.below in
    let z = limits (standing-in c.args.view.now).drawn in
    omega (arith, c.loop-k-test.true)

pub bounds-moves-j : goal.bounds-moves-j
bounds-moves-j c = let b = c.loop-k.invariant.below in
    let z = limits (standing-in c.args.view.now).drawn in
    omega (arith, c.loop-k-test.true)

pub visit-s-requires : goal.visit-s-requires
visit-s-requires c = let a = c.args in
    let scene = scene_in a.view.now in
    let v = line_of a.marks.now a.queue.now a.at.tail a.at.visits in
    let l = c.loop-k in
    let up : l.k ≡ suc (l.k - 1) = omega (arith, c.loop-k-test.true) in
    let s = c.requires.leans.0 in
    let e = c.source_of-here.ensures in
    let h = source-inside (standing-in c.args.view.now) (l.k - 1) (omega (arith, l.invariant.below, c.loop-k-test.true)) in
    let i : c.source_of-here.result.0 < a.view.now.known.now.sizes.states = omega arith in
    let b = chain-room (key_of a.view.now.known.now.sizes) a.view.now.known.now.moves.now a.head (source_of a.view.now.known.now.moves.now (owner_in a.o)) scene a.view.now.settling (length a.view.now.known.now.moves.now) v l.k (l.k - 1) (line_of l.marks l.queue l.s.tail l.s.visits) l.invariant up c.requires.head_bound.1.1 in
    let at = chain-at (key_of a.view.now.known.now.sizes) a.view.now.known.now.moves.now a.head (source_of a.view.now.known.now.moves.now (owner_in a.o)) scene a.view.now.settling (length a.view.now.known.now.moves.now) v l.k (l.k - 1) (line_of l.marks l.queue l.s.tail l.s.visits) l.invariant up in
    let along = subst (λ (n : ℕ). Along scene true (owner_in a.o) n (l.k - 1)) (sym e) (along-chain (standing-in c.args.view.now) (owner_in a.o) a.head (l.k - 1) c.requires.leans.1 (omega (arith, l.invariant.below, c.loop-k-test.true)) at) in
    let fits = chain_fits (key_of a.view.now.known.now.sizes) a.view.now.known.now.moves.now a.head (source_of a.view.now.known.now.moves.now (owner_in a.o)) scene a.view.now.settling (length a.view.now.known.now.moves.now) v l.k (l.k - 1) (line_of l.marks l.queue l.s.tail l.s.visits) l.invariant up c.requires.room in
    let room = subst (λ (n : ℕ). Room scene a.view.now.settling (waiting_of (owner_in a.o) n ∷ []) (line_of l.marks l.queue l.s.tail l.s.visits)) (sym e) fits in
    record {
      leans = (s, i);
      marks_len = (l.invariant.long_marks ∙ c.requires.head_bound.1.0, (omega (arith, b.0), omega (arith, b.1)));
      along = along;
      room = room;
    }

pub overflow_add-links : goal.overflow_add-links
overflow_add-links c = let b = c.loop-k.invariant.below in
    let z = limits (standing-in c.args.view.now).drawn in
    let e = c.heads_of-links.ensures in
    omega (arith, c.loop-k-test.true)

pub offset_bounds-index-links : goal.offset_bounds-index-links
offset_bounds-index-links c = let b = c.loop-k.invariant.below in
    let z = limits (standing-in c.args.view.now).drawn in
    let e = c.heads_of-links.ensures in
    omega (arith, c.loop-k-test.true)

pub bounds-index-links : goal.bounds-index-links
bounds-index-links c = let b = c.loop-k.invariant.below in
    let i = c.args.view.now.known.now.indexed.long in
    let e = c.heads_of-links.ensures in
    omega (arith, c.loop-k-test.true)

pub loop-k-smaller : goal.loop-k-smaller
loop-k-smaller c = let a = c.args in
    let l = c.loop-k in
    let up : l.k ≡ suc (l.k - 1) = omega (arith, c.loop-k-test.true) in
    let next = c.from-k-in-loop-k.ensures ∙ ap (λ (n : ℕ). get_or a.view.now.known.now.index.now (n + (l.k - 1)) 0) c.heads_of-links.ensures.0 ∙ link_at c.args.view.now.known.now.indexed (l.k - 1) (omega (arith, c.loop-k-test.true, l.invariant.below)) in
    falls (key_of a.view.now.known.now.sizes) a.view.now.known.now.moves.now a.head (source_of a.view.now.known.now.moves.now (owner_in a.o)) l.k (l.k - 1) c.from-k-in-loop-k.result _ up next

pub loop-k-preserved : goal.loop-k-preserved
loop-k-preserved c = let a = c.args in
    let scene = scene_in a.view.now in
    let v = line_of a.marks.now a.queue.now a.at.tail a.at.visits in
    let l = c.loop-k in
    let up : l.k ≡ suc (l.k - 1) = omega (arith, c.loop-k-test.true) in
    let next = c.from-k-in-loop-k.ensures ∙ ap (λ (n : ℕ). get_or a.view.now.known.now.index.now (n + (l.k - 1)) 0) c.heads_of-links.ensures.0 ∙ link_at c.args.view.now.known.now.indexed (l.k - 1) (omega (arith, c.loop-k-test.true, l.invariant.below)) in
    let e = c.visit-s.ensures ∙ ap (λ (n : ℕ). visit_all scene a.view.now.settling (waiting_of (owner_in a.o) n ∷ []) (line_of l.marks l.queue l.s.tail l.s.visits)) c.source_of-here.ensures in
    chain-goes (key_of a.view.now.known.now.sizes) a.view.now.known.now.moves.now a.head (source_of a.view.now.known.now.moves.now (owner_in a.o)) scene a.view.now.settling (length a.view.now.known.now.moves.now) v l.k (l.k - 1) (line_of l.marks l.queue l.s.tail l.s.visits) _ c.from-k-in-loop-k.result l.invariant up e next

pub returns : goal.returns
returns c = let a = c.args in
    let scene = scene_in a.view.now in
    let v = line_of a.marks.now a.queue.now a.at.tail a.at.visits in
    let l = c.loop-k in
    chain-ends (key_of a.view.now.known.now.sizes) a.view.now.known.now.moves.now a.head (source_of a.view.now.known.now.moves.now (owner_in a.o)) scene a.view.now.settling (length a.view.now.known.now.moves.now) v l.k (line_of l.marks l.queue l.s.tail l.s.visits) l.invariant (omega (arith, c.loop-k-test.false))
