-- Seeking sees the ends of phases, as the machine does after a look or a turn.
-- Assumes nothing.
use Rattle.std.specs.Prelude.{◌≡◌, true, ltb}
use Rattle.std.proofs.Math.Path.{refl, sym, ap, subst}
use Rattle.std.proofs.Common.{◌∙◌, inl, inr}
use mathlib.Core.List.Memᴰ
use mathlib.Core.List.{List, []}
use Prim.Native.Nat.{ℕ, suc, ◌-◌, ◌≤◌, ◌<◌}
use native.Mathlib.Omega.{arith}
use Rattle.lists.specs.Tests.{tell, ltb-in, ltb-out, ltb_no, cond_yes, cond_no}
use Rattle.systems.specs.solution.System.{Frame}
use Rattle.systems.specs.machine.Machine.{Step, State, tidy_by, tidy, skip}
use Rattle.systems.specs.lists.ListMachine.{val_of, marks_in, between, pile_of, Job, todo_at, job_of, Place, pair_from, seek, phases, moved, emptied, seek_l}
use Rattle.systems.specs.lists.Seeks.{next-same, next_here, next_up, sought}
use Rattle.systems.specs.lists.ListCourse.{Formed, Behind, Stands}

module _ {F : Frame} {d : Job} (f : Formed F d) where
  -- Where nothing waits.
  pub seek-empty : d.pile.tail ≤ d.pile.from → Stands F (seek_l F d) (tidy (job_of F d))
  unfolding job_of seek_l
  seek-empty l =
      let a = f.range in
      let s = sought F (phases (F.blocks - d.block) d.settling) d.block (F.blocks - d.block) d.settling d.place (omega arith)
      (λ z. f.ended (omega arith)) f.low refl in
      let g : Place = seek F (phases (F.blocks - d.block) d.settling) d.block d.settling d.place in
      let z : d.pile.tail - d.pile.from ≡ 0 = omega arith in
      let queue : List ℕ → State = λ l. record {
        todo = skip (job_of F d).todo;
        val = val_of d.vals;
        held = record { marks = marks_in d.pile.marks; queue = l };
        gone = 0;
        shift_visits = d.shift_visits;
        settle_visits = d.settle_visits;
      } in
      let same : tidy (job_of F d) ≡ queue [] =
      ap (λ (n : ℕ). tidy_by (between d.pile.queue d.pile.from n) (job_of F d)) z ∙ ap (λ (n : ℕ). queue (between d.pile.queue d.pile.from n)) z in
      subst (λ (c : Job). Stands F c (tidy (job_of F d))) (sym (cond_no (moved _ d.pile d) (moved g (emptied d.pile) d) ((ltb_no d.pile.from d.pile.tail).1 l)))
      (record {
        state =
            ap {B = State} (λ (l : List Step). record {
              todo = l;
              val = val_of d.vals;
              held = record { marks = marks_in d.pile.marks; queue = [] };
              gone = 0;
              shift_visits = d.shift_visits;
              settle_visits = d.settle_visits;
            }) (sym s.same)
            ∙ sym same;
        formed = record {
          range = s.range;
          ended = s.ended;
          low = s.low;
          vals = f.vals;
          bits = f.bits;
          marks = f.marks;
          small = f.small;
          queue = f.queue;
          order = omega arith;
        };
        sits = record { here = λ l m. (s.here l).1; level = λ l. (refl, refl); behind = λ l q m. absurd (Memᴰ.not-nil m) };
      })

  -- Where pairs wait.
  pub seek-waits : Behind F d → d.block < F.blocks → d.pile.from < d.pile.tail → Stands F (seek_l F d) (tidy (job_of F d))
  unfolding job_of seek_l
  seek-waits o b l =
      let p = pair_from F d.block d.place in
      let g : Place = record { block = d.block; settling = d.settling; place = p } in
      let low = f.low in
      let h = next_here F d.block (F.pairs - d.place) d.place (omega arith) in
      let k : F.blocks - d.block ≡ suc (F.blocks - suc d.block) = omega arith in
      let z : d.pile.tail - d.pile.from ≡ suc (d.pile.tail - suc d.pile.from) = omega arith in
      let same : tidy (job_of F d) ≡ job_of F d = ap (λ (n : ℕ). tidy_by (between d.pile.queue d.pile.from n) (job_of F d)) z in
      let todo : todo_at F d.block (F.blocks - d.block) d.settling d.place ≡ todo_at F d.block (F.blocks - d.block) d.settling p =
      ap (λ (n : ℕ). todo_at F d.block n d.settling d.place) k
      ∙ next-same F d.block (F.blocks - suc d.block) d.settling (F.pairs - d.place) d.place (omega arith)
      ∙ ap (λ (n : ℕ). todo_at F d.block n d.settling p) (sym k) in
      subst (λ (c : Job). Stands F c (tidy (job_of F d))) (sym (cond_yes (moved g d.pile d) (moved _ (emptied d.pile) d) (ltb-in d.pile.from d.pile.tail l)))
      (record {
        state =
            ap {B = State} (λ (l : List Step). record {
              todo = l;
              val = val_of d.vals;
              held = pile_of d.pile;
              gone = d.pile.from;
              shift_visits = d.shift_visits;
              settle_visits = d.settle_visits;
            }) (sym todo)
            ∙ sym same;
        formed = record {
          range = f.range;
          ended = f.ended;
          low = h.0;
          vals = f.vals;
          bits = f.bits;
          marks = f.marks;
          small = f.small;
          queue = f.queue;
          order = f.order;
        };
        sits = record {
          here = λ b m. h.1 m;
          level = λ m. absurd (omega arith);
          behind = λ m q i. let y = next_up F d.block (F.pairs - d.place) d.place in let z = o (omega arith) q i in omega arith;
        };
      })

  -- Before the last block is done.
  pub seek-stands : Behind F d → d.block < F.blocks → Stands F (seek_l F d) (tidy (job_of F d))
  seek-stands o b =
      elim (tell true (ltb d.pile.from d.pile.tail)) [
        | inl e ↦ seek-waits o b (ltb-out d.pile.from d.pile.tail e)
        | inr e ↦ seek-empty ((ltb_no d.pile.from d.pile.tail).0 e)
      ]
