-- From turn to turn the whole batch keeps its answer and its changes, and each turn comes nearer to the end. Assumes nothing.
use Rattle.std.specs.Prelude.{◌≡◌, refl, List, ℕ, ◌<◌, length}
use Rattle.std.proofs.Common.{sym, ap, ◌∙◌, arith}
use Rattle.std.proofs.lemmas.List.Edits.{sets}
use Rattle.rules.specs.declared.Sizes.{Sizes}
use Rattle.bytes_read.specs.Places.{Read, record_at}
use Rattle.batch_read.specs.declared.HalfRead.{HalfRead}
use Rattle.std.specs.declared.ops.ControlFlow.TheVariants.{Continue, Break}
use Rattle.batch_read.specs.Going.{put_change, Began, Follows, Onward, Going, left}
use Rattle.batch_read.specs.Reading.{ChangeTurn, go, Turned}
use Rattle.batch_read.specs.ChangeTurns.{put-code}

-- The first turn, which puts nothing down.
pub going-first : (z : Sizes) (s t : List ℕ) (u : ChangeTurn) → Began z s u → Going z s t u t
going-first z s t (Break a) b = record { says = b.0; holds = ap (sets t 0) b.1 }
going-first z s t (Continue h) b =
    let e = b.none in
    rw e (record { begun = b.begun; inside = b.inside; same = b.same; holds = ap (sets t 0) b.codes })

module _ (z : Sizes) (s t : List ℕ) (p n c k : ℕ) (room : List ℕ) where
  -- A turn that follows one that goes on.
  pub follows_on : (u : ChangeTurn) → Onward z s t p n k room → Turned z s p n k u → Going z s t u (put_change (go p n c k) u room)
  follows_on (Break a) g w = record { says = w.0 ∙ g.same; holds = ap (sets room n) (sym w.1) ∙ g.holds }
  follows_on (Continue y) g w =
      let e = w.stamped in
      let f = w.counted in
      let h = w.on in
      rw (e, f) (record { begun = omega arith; inside = w.inside; same = sym w.same ∙ g.same; holds = put-code z s p n k y.stamp y.count y.change y.at room _ w refl ∙ g.holds })

  -- It is nearer to the end.
  nearer-on : (u : ChangeTurn) → Turned z s p n k u → left s u < left s (go p n c k)
  nearer-on (Break a) w = omega arith
  nearer-on (Continue y) w = let h = w.on in let i = w.inside in omega arith

-- A turn follows one that goes on.
pub going_next : (z : Sizes) (s t : List ℕ) (x u : ChangeTurn) (room : List ℕ) (read : Read) (h : HalfRead) → Going z s t x room → x ≡ Continue h → read ≡ record_at s h.at
    → Follows z read x (length s) u → Going z s t u (put_change x u room) × (left s u < left s x)
going_next z s t (Break a) u room read h g f e w = cc
going_next z s t (Continue x) u room read h g f e w =
    let same : x ≡ h = cc in
    let y = w s (rw same e) refl in
    (follows_on z s t x.stamp x.count x.change x.at room u g y, nearer-on z s t x.stamp x.count x.change x.at room u y)
