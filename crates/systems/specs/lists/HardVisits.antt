-- A turn as code makes it: what the pair in front becomes, and that a hard pair that leans on it need not be evaluated.
-- Assumes nothing.
use Rattle.std.specs.Prelude.{◌≡◌, refl, Bool, true, false, not, cond, List, ℕ, ◌<◌, eqb, length, get_or, set}
use Rattle.std.proofs.Common.{sym, ap, ◌∙◌, arith, get_or-set_same}
use Rattle.lists.specs.TableLaws.{bit-back}
use Rattle.lists.specs.Lists.{is, bit}
use Rattle.lists.specs.Tests.{◌∈◌, not-not}
use Rattle.systems.specs.solution.System.{Frame, Leans}
use Rattle.systems.specs.machine.Machine.{own, asks, Finds}
use Rattle.systems.specs.machine.Leaners.{found-out}
use Rattle.systems.specs.machine.HardPairs.{hard-asks}
use Rattle.systems.specs.lists.ListMachine.{val_of, turned, Job}
use Rattle.systems.specs.lists.ListCourse.{Turning}

turned_bit : (x : ℕ) → turned x ≡ bit (not (eqb x 1))
turned_bit x = go (eqb x 1)
  where
    go : (b : Bool) → cond b 0 1 ≡ bit (not b)
    go true = refl
    go false = refl

module _ {F : Frame} {c : Job} (t : Turning F c) where
  -- The pair in front.
  abbrev q : ℕ
  q = get_or c.pile.queue c.pile.from 0

  -- While shifting it becomes the own value of its block, while settling the other one.
  pub turn-becomes : turned (get_or c.vals q 0) ≡ bit (cond c.settling (not (own F q)) (own F q))
  turn-becomes = turned_bit (get_or c.vals q 0) ∙ ap (λ (b : Bool). bit (not b)) t.value ∙ ap bit (other c.settling (own F q))
    where
      other : (ph b : Bool) → not (cond ph b (not b)) ≡ cond ph (not b) b
      other true b = refl
      other false b = not-not b

  -- That is its value then.
  turn-value : q < length c.vals → val_of (set c.vals q (turned (get_or c.vals q 0))) q ≡ cond c.settling (not (own F q)) (own F q)
  turn-value l =
      ap (λ (x : ℕ). eqb x 1) (get_or-set_same c.vals q (turned (get_or c.vals q 0)) 0 l ∙ turn-becomes) ∙ bit-back (cond c.settling (not (own F q)) (own F q))
