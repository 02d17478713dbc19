-- The rule of settling, as facts: which pairs settle, and that pairs which settle one by one, in any order until none is
-- left, are the settled set.
-- Assumes nothing.
use Rattle.std.specs.Prelude.{◌≡◌, Bool, true, false, not, ◌&&◌, ℕ, ◌<◌}
use Rattle.std.proofs.Common.{arith}
use Rattle.std.proofs.Math.Dec.{eqb}
use Rattle.lists.specs.Marks.{put}
use Rattle.lists.specs.Lists.{is}
use Rattle.lists.specs.Tests.{no_way, is-out, is-in, and_in, and_left, and_right, eqb-out, eqb-in}
use Rattle.lists.specs.Sets.{Sub}
use Rattle.lists.specs.SmallestLaws.{Monotone, Made, smallest-closed, smallest-rule, smallest-least, made-same}
use Rattle.systems.specs.solution.System.{Frame, Leans, Values, Fits, eval, drops, settled}
use Rattle.systems.specs.solution.Operands.{ev-mono}
use Rattle.systems.specs.solution.Put.{put-off, put_mono}

-- p settles: it is a pair of block i that had the block's own value, though its equation gives the other where s has
-- turned.
pub record Drops (F : Frame) (L : Leans) (i : ℕ) (v : Values) (s : ℕ → Bool) (p : ℕ) : Type 0 where
  pub here : F.block p ≡ i
  pub own : v p ≡ F.great i
  pub gives : eval F L (put (not (F.great i)) v s) p ≡ not (F.great i)

module _ (F : Frame) (L : Leans) (i : ℕ) (v : Values) where
  -- What the rule asks for settles.
  pub drops-out : (s : ℕ → Bool) (p : ℕ) → drops F L i v s p ≡ true → Drops F L i v s p
  unfolding drops
  drops-out s p e =
      let x = eqb (F.block p) i in
      let y = is (F.great i) (v p) in
      let z = is (not (F.great i)) (eval F L (put (not (F.great i)) v s) p) in
      record {
        here = eqb-out (F.block p) i (and_left x (y && z) e);
        own = is-out (F.great i) (v p) (and_left y z (and_right x (y && z) e));
        gives = is-out (not (F.great i)) (eval F L (put (not (F.great i)) v s) p) (and_right y z (and_right x (y && z) e));
      }

  -- The rule asks for what settles.
  pub drops-in : (s : ℕ → Bool) (p : ℕ) → Drops F L i v s p → drops F L i v s p ≡ true
  unfolding drops
  drops-in s p d =
      and_in (eqb-in (F.block p) i d.here)
      (and_in (is-in (F.great i) (v p) d.own) (is-in (not (F.great i)) (eval F L (put (not (F.great i)) v s) p) d.gives))

module _ {F : Frame} {L : Leans} (fits : Fits F L) {i : ℕ} (lt : i < F.blocks) (v : Values) where
  -- The more have settled, the more settle.
  pub drops-monotone : Monotone F.pairs (drops F L i v)
  drops-monotone = record {
    more = λ s t f p e.
        let d = drops-out F L i v s p e in
        let c = not (F.great i) in
        drops-in F L i v t p (record {
          here = d.here;
          own = d.own;
          gives = ev-mono (F.kind p) c (put c v s) (put c v t) (L p) (λ q m h. put_mono c v s t f q h) d.gives;
        });
    inside = λ s p e. let h = (drops-out F L i v s p e).here in fits.inside p (omega arith);
  }

  -- No pair is left that settles.
  pub settled-closed : Sub (drops F L i v (settled F L i v)) (settled F L i v)
  unfolding settled
  settled-closed = smallest-closed drops-monotone

  -- The settled set is a part of each set from which no more settle.
  pub settled-least : (s : ℕ → Bool) → Sub (drops F L i v s) s → Sub (settled F L i v) s
  unfolding settled
  settled-least = smallest-least drops-monotone

  -- Each pair of the settled set settles.
  pub settled-out : (p : ℕ) → settled F L i v p ≡ true → Drops F L i v (settled F L i v) p
  unfolding settled
  settled-out p e = drops-out F L i v (settled F L i v) p (smallest-rule drops-monotone p e)

  -- No pair of another block settles.
  pub settled-off : (p : ℕ) → (F.block p ≡ i → ⊥) → settled F L i v p ≡ false
  settled-off p n = no_way (settled F L i v p) (λ e. n (settled-out p e).here)

  -- The values of other blocks stay.
  pub settled-keep : (p : ℕ) → (F.block p ≡ i → ⊥) → put (not (F.great i)) v (settled F L i v) p ≡ v p
  settled-keep p n = put-off (not (F.great i)) v (settled F L i v) p (settled-off p n)
