use mathlib.Core.Path.{◌≡◌, sym, ap, ◌∙◌, subst}
use Prim.Native.Nat.{ℕ}
use native.Mathlib.Omega.{arith}
use lib.ListN.{get_or}
use mir.Val.{bool_byte}
use Rattle.std.specs.Option.{is_some}
use Rattle.words.specs.Words.{own_of}
use Rattle.engine_own.specs.Looks.{reaches, says_at, says_before}
use Rattle.engine_own.specs.Outwards.{is-yes, is-not, both-over, Further, found-above, found_below, none_found, goes_on_lem}
use Rattle.engine_own.proofs.leads_from.Goals.{After-look_down-below, After-look_up-above, After-from-low}
use Rattle.engine_own.proofs.leads_from.Goals as goal

-- What is looked at is the part of the move at j.
told-up : (c : After-look_up-above) →
    let a = c.args in
    c.look_up-above.result ≡ says_at (reaches a.sizes a.values.now a.from a.x.0) a.moves.now (own_of (get_or a.moves.now a.j 0)) c.loop-look.high
told-up c =
    let a = c.args in
    c.look_up-above.ensures ∙ ap (λ (p : ℕ). says_at (reaches a.sizes a.values.now a.from a.x.0) a.moves.now p c.loop-look.high) c.own_of.ensures

told-down : (c : After-look_down-below) →
    let a = c.args in
    c.look_down-below.result ≡ says_before (reaches a.sizes a.values.now a.from a.x.0) a.moves.now (own_of (get_or a.moves.now a.j 0)) c.loop-look.low
told-down c =
    let a = c.args in
    c.look_down-below.ensures ∙ ap (λ (p : ℕ). says_before (reaches a.sizes a.values.now a.from a.x.0) a.moves.now p c.loop-look.low) c.own_of.ensures

-- What two answers tell where the look goes on.
abbrev Goes : After-from-low → ℕ → ℕ → Type 0
Goes c above below =
    let a = c.args in
    Further (reaches a.sizes a.values.now a.from a.x.0) a.moves.now a.j c.loop-look.low c.loop-look.high above below

-- Where it goes on, more moves have been passed, as many as there are answers.
further : (c : After-from-low) → Goes c c.from-high.result c.from-low.result
further c =
    let up = c.from-high.ensures ∙ ap bool_byte c.is_some.ensures in
    let down = c.from-low.ensures ∙ ap bool_byte c.is_some-in-loop-look.ensures in
    let two = goes_on_lem c.requires.moves_value c.loop-look.invariant (told-up (goal.at.overflow_sub-low c).After-look_up-above) (told-down (goal.at.overflow_sub-low c).After-look_down-below)
    (is-not _ (sym c.eq.ensures ∙ c.if-eq.false)) (is-not _ (sym c.eq-in-loop-look.ensures ∙ c.if-eq-2.false))
    ((both-over _ _ _ _ c.is_none.ensures c.is_none-in-loop-look.ensures).1 c.if-is_none.false) in
    subst (Goes c c.from-high.result) (sym down) (subst (λ (n : ℕ). Goes c n (bool_byte (is_some c.look_down-below.result))) (sym up) two)

pub returns-then-eq : goal.returns-then-eq
returns-then-eq c = sym (found-above c.requires.moves_value c.loop-look.invariant (told-up (goal.at.returns-then-eq c).After-look_up-above) (is-yes _ (sym c.eq.ensures ∙ c.if-eq.true)))

pub returns-then-eq-2 : goal.returns-then-eq-2
returns-then-eq-2 c = sym (found_below c.requires.moves_value c.loop-look.invariant (told-down (goal.at.returns-then-eq-2 c).After-look_down-below) (is-yes _ (sym c.eq-in-loop-look.ensures ∙ c.if-eq-2.true)))

pub returns-then-is_none : goal.returns-then-is_none
returns-then-is_none c = sym (none_found c.requires.moves_value c.loop-look.invariant (told-up (goal.at.returns-then-is_none c).After-look_up-above) (told-down (goal.at.returns-then-is_none c).After-look_down-below)
    (is-not _ (sym c.eq.ensures ∙ c.if-eq.false)) (is-not _ (sym c.eq-in-loop-look.ensures ∙ c.if-eq-2.false))
    ((both-over _ _ _ _ c.is_none.ensures c.is_none-in-loop-look.ensures).0 c.if-is_none.true))

pub overflow_sub-low : goal.overflow_sub-low
overflow_sub-low c = (further c).room

pub loop-look-smaller : goal.loop-look-smaller
loop-look-smaller c = let f = further c in omega arith

pub loop-look-preserved : goal.loop-look-preserved
loop-look-preserved c = (further c).passed
