-- Good changes that stand one after another are put down, each as by a turn of its own. Assumes nothing.
use Rattle.std.specs.Prelude.{◌≡◌, ◌⊎◌, Bool, ◌||◌, List, ℕ, ◌+◌, ◌≤◌, eqb, length, get_or, Some}
use Rattle.std.proofs.Math.Path.{refl}
use Rattle.std.proofs.Common.{◌∙◌, arith}
use Rattle.std.proofs.Math.Logic.{inl, inr}
use Rattle.std.proofs.Math.Bool.{true, false}
use Rattle.lists.specs.Tests.{or-out, eqb_is, ltb-is}
use Rattle.rules.specs.Limits.{most_changes}
use Rattle.rules.specs.declared.Sizes.{Sizes}
use Rattle.bytes_read.specs.PartsAt.{stands_at}
use Rattle.rules.specs.Records.{widths}
use Rattle.bytes_read.specs.Places.{move_at, body_len, record_of, record_at}
use Rattle.batch_read.specs.Going.{Onward, Going}
use Rattle.batch_read.specs.GoingLaws.{follows_on}
use Rattle.batch_read.specs.Passing.{GoodChange, next_code, ChangesPut, none, more, Within, Forwarded}
use Rattle.batch_read.specs.Reading.{ChangeTurn, go, change_turn, Turned}
use Rattle.batch_read.specs.ChangeTurns.{turned-insert, turned-delete}
use Rattle.batch_read.specs.declared.ChangeRun.{ChangeRun}
use Rattle.std.specs.declared.ops.ControlFlow.TheVariants.{Continue, Break}

-- What the two kinds of a change say.
pub kind-is : (k : ℕ) → (eqb k 8 || eqb k 9) ≡ true → (k ≡ 8) ⊎ (k ≡ 9)
kind-is k e =
    elim (or-out (eqb k 8) (eqb k 9) e) [
      | inl h ↦ inl ((eqb_is k 8).0 h)
      | inr h ↦ inr ((eqb_is k 9).0 h)
    ]

-- The record of a change, by its kind.
change-stands : (s : List ℕ) (k i : ℕ) → k + 6 ≤ length s → get_or s k 0 ≡ i → body_len i ≡ 5 → record_at s k ≡ Some (record_of i s (k + 1), k + 6)
change-stands s k i h e f = let a : k + 1 + 5 ≡ k + 6 = omega arith in stands_at s k i 5 e f (omega arith) (omega arith) ∙ rw a refl

module _ (z : Sizes) (s : List ℕ) (p : ℕ) where
  -- The turn at a good change.
  abbrev turn_at : ChangeRun → ChangeTurn
  turn_at x = go p (x.count + 1) (next_code s x) (x.at + 6)

  -- An insert, or a delete, that is good goes on.
  good-goes : (x : ChangeRun) (i : Bool) → GoodChange s z x → eqb (get_or s x.at 0) 8 ≡ i → change_turn z p x.count (move_at s (x.at + 1)) i x.at (x.at + 6) ≡ turn_at x
  unfolding change_turn
  good-goes x i g e = rw ((ltb-is x.count most_changes).1 g.few, g.fits, e) refl

  -- A good change is one turn of the reading.
  change-turned : (x : ChangeRun) → GoodChange s z x → Turned z s p x.count x.at (turn_at x)
  unfolding body_len widths record_of
  change-turned x g =
      let m = move_at s (x.at + 1) in
      elim g.kind [
        | inl e ↦ rw (good-goes x true g (rw e refl)) at (turned-insert z s p x.count x.at (x.at + 6) (record_of 8 s (x.at + 1)) m (change-stands s x.at 8 g.inside_bytes e refl) refl)
        | inr e ↦ rw (good-goes x false g (rw e refl)) at (turned-delete z s p x.count x.at (x.at + 6) (record_of 9 s (x.at + 1)) m (change-stands s x.at 9 g.inside_bytes e refl) refl)
      ]

  -- All of them.
  changes-onward : (t : List ℕ) (x : ChangeRun) (had : List ℕ) (y : ChangeRun) (room : List ℕ) → Onward z s t p x.count x.at had → ChangesPut s z x had y room → Onward z s t p y.count y.at room
  changes-onward t x had y room g none = g
  changes-onward t x had y room g (more w mid h c) = follows_on z s t p w.count 0 w.at mid (turn_at w) (changes-onward t x had w mid g h) (change-turned w c)

-- A turn that goes on stands inside the bytes.
pub going-within : (z : Sizes) (s t : List ℕ) (x : ChangeTurn) (room : List ℕ) → Going z s t x room → Within s x
going-within z s t (Break a) room g = tt
going-within z s t (Continue h) room g = g.inside

-- A turn moved on keeps the whole batch's answer and its changes.
pub going-forward : (z : Sizes) (s t : List ℕ) (x u : ChangeTurn) (had room : List ℕ) → Going z s t x had → Forwarded z s x had u room → Going z s t u room
going-forward z s t (Break a) u had room g f = rw (f.0, f.1) g
going-forward z s t (Continue h) u had room g f = rw f.1 (changes-onward z s h.stamp t (record { count = h.count; at = h.at }) had f.0 room g f.2)
