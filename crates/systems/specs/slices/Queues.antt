-- What lies in the queue's list outside of what waits changes nothing: two updates that differ only there, for any lists, go the same way.
-- Assumes nothing.
use Rattle.std.specs.Prelude.{◌≡◌, refl, Bool, ◌&&◌, List, [], ◌∷◌, ltb, length}
use Rattle.std.proofs.Common.{sym, ◌∙◌, arith, length-set, get_or-set_same, get_or-set_other}
use Rattle.std.proofs.Math.Path.{ap, subst}
use Rattle.std.proofs.Math.Logic.{inl, inr}
use Rattle.std.proofs.Math.Bool.{true, cond}
use Prim.Native.Nat.{ℕ, zero, suc, ◌+◌, ◌-◌, ◌≤◌, ◌<◌}
use Rattle.std.proofs.Math.Decide.{ℕ_discrete, dec_lt}
use Rattle.std.proofs.Math.ListN.{get_or, set, get_or-eq_default}
use Rattle.lists.specs.Tests.{tell, ltb-out, ltb_no, cond_yes, cond_no}
use Rattle.systems.specs.solution.System.{Frame, Leans}
use Rattle.systems.specs.machine.Machine.{free, next_mark, asks}
use Rattle.systems.specs.lists.ListMachine.{val_of, marks_in, turned, Pile, wait_l, push_l, spread_l, Job, Test, turn_l, look_l, Place, pair_from, seek, phases, moved, emptied, seek_l, step_l, unit_l, run_l}
use Rattle.systems.specs.lists.Seeks.{next_here, sought}

-- The same marks and places in another list.
abbrev pub other : List ℕ → Pile → Pile
other l h = record { marks = h.marks; queue = l; from = h.from; tail = h.tail }

-- The list l is as long as the queue's, and the same pairs wait in it.
pub record Same (h : Pile) (l : List ℕ) : Type 0 where
  pub long : length l ≡ length h.queue
  pub inside : (i : ℕ) → h.from ≤ i → i < h.tail → get_or l i 0 ≡ get_or h.queue i 0

-- So it is after a store in both.
set_same : (l k : List ℕ) (t r i : ℕ) → length l ≡ length k → (i < t → get_or l i 0 ≡ get_or k i 0) → i < suc t → get_or (set l t r) i 0 ≡ get_or (set k t r) i 0
set_same l k t r i e f h =
    elim (ℕ_discrete i t) [
      | no z ↦ get_or-set_other l t i r 0 z ∙ f (omega arith) ∙ sym (get_or-set_other k t i r 0 z)
      | yes z ↦ elim (dec_lt t (length l)) [
        | yes a ↦ ap (λ (y : ℕ). get_or (set l t r) y 0) z ∙ get_or-set_same l t r 0 a ∙ sym (get_or-set_same k t r 0 (omega arith)) ∙ ap (λ (y : ℕ). get_or (set k t r) y 0) (sym z)
        | no a ↦
            let x = length-set l t r in
            let y = length-set k t r in
            get_or-eq_default (set l t r) 0 (omega arith) ∙ sym (get_or-eq_default (set k t r) 0 (omega arith))
      ]
    ]

module _ (free : ℕ → Bool) (next : ℕ → ℕ) (ask : ℕ → Bool) where
  -- A test of one pair goes the same way with both.
  push-same : (r : ℕ) (h : Pile) (l : List ℕ) → Same h l → (k : List ℕ) × Same (push_l free next ask r h) k × (push_l free next ask r (other l h) ≡ other k (push_l free next ask r h))
  push-same r h l s =
      elim (tell true (free (get_or h.marks r 0) && ask r)) [
        | inr e ↦ (
          l,
          subst (λ (g : Pile). Same g l) (sym (cond_no (wait_l next r h) h e)) s,
          cond_no (wait_l next r (other l h)) (other l h) e ∙ ap (other l) (sym (cond_no (wait_l next r h) h e)),
        )
        | inl e ↦ (
          set l h.tail r,
          subst (λ (g : Pile). Same g (set l h.tail r)) (sym (cond_yes (wait_l next r h) h e)) (record {
            long = length-set l h.tail r ∙ s.long ∙ sym (length-set h.queue h.tail r);
            inside = λ i a b. set_same l h.queue h.tail r i s.long (λ c. s.inside i a c) b;
          }),
          cond_yes (wait_l next r (other l h)) (other l h) e ∙ ap (other (set l h.tail r)) (sym (cond_yes (wait_l next r h) h e)),
        )
      ]

  -- Tests of the pairs of a list do.
  spread_same : (on : List ℕ) (h : Pile) (l : List ℕ) → Same h l
      → (k : List ℕ) × Same (spread_l free next ask on h) k × (spread_l free next ask on (other l h) ≡ other k (spread_l free next ask on h))
  spread_same [] h l s = (l, s, refl)
  spread_same (r ∷ on) h l s =
      let a = push-same r h l s in
      let b = spread_same on (push_l free next ask r h) a.0 a.1 in
      (b.0, b.1, ap (spread_l free next ask on) a.2 ∙ b.2)

-- The update with another list for its queue.
abbrev pub swapped : List ℕ → Job → Job
swapped l c = moved (record { block = c.block; settling = c.settling; place = c.place }) (other l c.pile) c

module _ (F : Frame) (M : Leans) (test : Test) (on : ℕ → List ℕ) where
  look-same : (c : Job) (l : List ℕ) → Same c.pile l → (k : List ℕ) × Same (look_l test c).pile k × (look_l test (swapped l c) ≡ swapped k (look_l test c))
  unfolding look_l
  look-same c l s =
      let ph = c.settling in
      let a = push-same (free ph) (next_mark ph) (test ph (val_of c.vals) (marks_in c.pile.marks)) c.place c.pile l s in
      (a.0, a.1, ap (λ (g : Pile). moved (record { block = c.block; settling = ph; place = suc c.place }) g c) a.2)

  turn-same : (c : Job) (l : List ℕ) → Same c.pile l → c.pile.from < c.pile.tail
      → (k : List ℕ) × Same (turn_l F M on c).pile k × (turn_l F M on (swapped l c) ≡ swapped k (turn_l F M on c))
  unfolding turn_l
  turn-same c l s o =
      let h = c.pile in
      let ph = c.settling in
      let front : get_or l h.from 0 ≡ get_or h.queue h.from 0 = s.inside h.from (omega arith) o in
      let q = get_or h.queue h.from 0 in
      let vs = set c.vals q (turned (get_or c.vals q 0)) in
      let g : Pile = record { marks = h.marks; queue = h.queue; from = suc h.from; tail = h.tail } in
      let a = spread_same (free ph) (next_mark ph) (asks F M ph (val_of vs)) (on q) g l (record { long = s.long; inside = λ i x y. s.inside i (omega arith) y }) in
      let made : ℕ → Pile → Job = λ q g. record {
        block = c.block;
        settling = ph;
        place = c.place;
        vals = set c.vals q (turned (get_or c.vals q 0));
        pile = g;
        shift_visits = c.shift_visits + cond ph 0 (length (on q));
        settle_visits = c.settle_visits + cond ph (length (on q)) 0;
      } in (
        a.0,
        a.1,
        ap (λ (q : ℕ). made q (spread_l (free ph) (next_mark ph) (asks F M ph (val_of (set c.vals q (turned (get_or c.vals q 0))))) (on q) (other l g))) front
            ∙ ap (made q) a.2,
      )

  seek-same : (c : Job) (l : List ℕ) → Same c.pile l → Same (seek_l F c).pile l × (seek_l F (swapped l c) ≡ swapped l (seek_l F c))
  unfolding seek_l
  seek-same c l s =
      let h = c.pile in
      let p : Place = record { block = c.block; settling = c.settling; place = pair_from F c.block c.place } in
      let g : Place = seek F (phases (F.blocks - c.block) c.settling) c.block c.settling c.place in
      elim (tell true (ltb h.from h.tail)) [
        | inl e ↦ (
          subst (λ (d : Job). Same d.pile l) (sym (cond_yes (moved p h c) (moved g (emptied h) c) e)) s,
          cond_yes (moved p (other l h) c) (moved g (emptied (other l h)) c) e ∙ ap (swapped l) (sym (cond_yes (moved p h c) (moved g (emptied h) c) e)),
        )
        | inr e ↦ (
          subst (λ (d : Job). Same d.pile l) (sym (cond_no (moved p h c) (moved g (emptied h) c) e)) (record { long = s.long; inside = λ i x y. absurd (omega arith) }),
          cond_no (moved p (other l h) c) (moved g (emptied (other l h)) c) e ∙ ap (swapped l) (sym (cond_no (moved p h c) (moved g (emptied h) c) e)),
        )
      ]

-- The place is in range, and where only turns are left, some pair waits. So it is wherever the next look or turn has been sought.
pub record Due (F : Frame) (c : Job) : Type 0 where
  pub low : c.place ≤ F.pairs
  pub waits : c.block < F.blocks → F.pairs ≤ c.place → c.pile.from < c.pile.tail

-- It is so after seeking.
pub seek-due : (F : Frame) (d : Job) → d.block < F.blocks → d.place ≤ F.pairs → Due F (seek_l F d)
unfolding seek_l
seek-due F d b l =
    let h = d.pile in
    let p : Place = record { block = d.block; settling = d.settling; place = pair_from F d.block d.place } in
    let g : Place = seek F (phases (F.blocks - d.block) d.settling) d.block d.settling d.place in
    elim (tell true (ltb h.from h.tail)) [
      | inl e ↦ subst (Due F) (sym (cond_yes (moved p h d) (moved g (emptied h) d) e))
          (record { low = (next_here F d.block (F.pairs - d.place) d.place (omega arith)).0; waits = λ x y. ltb-out h.from h.tail e })
      | inr e ↦
          let s = sought F (phases (F.blocks - d.block) d.settling) d.block (F.blocks - d.block) d.settling d.place (omega arith) (λ z. absurd (omega arith)) l refl in
          subst (Due F) (sym (cond_no (moved p h d) (moved g (emptied h) d) e)) (record { low = s.low; waits = λ x y. let z = (s.here x).0 in absurd (omega arith) })
    ]

module _ (F : Frame) (M : Leans) (test : Test) (on : ℕ → List ℕ) where
  -- A unit keeps it.
  pub unit-due : (c : Job) → Due F c → Due F (unit_l F M test on c)
  unfolding look_l turn_l
  unit-due c d =
      let low = d.low in
      elim (tell true (ltb c.block F.blocks)) [
        | inr e ↦ subst (Due F) (sym (cond_no (seek_l F (step_l F M test on c)) c e)) d
        | inl e ↦
            let b = ltb-out c.block F.blocks e in
            subst (Due F) (sym (cond_yes (seek_l F (step_l F M test on c)) c e)) (elim (tell true (ltb c.place F.pairs)) [
              | inl y ↦
                  subst (λ (k : Job). Due F (seek_l F k)) (sym (cond_yes (look_l test c) (turn_l F M on c) y)) (seek-due F (look_l test c) b (ltb-out c.place F.pairs y))
              | inr y ↦ subst (λ (k : Job). Due F (seek_l F k)) (sym (cond_no (look_l test c) (turn_l F M on c) y)) (seek-due F (turn_l F M on c) b low)
            ])
      ]

  -- Units go the same way with both lists.
  unit-same : (c : Job) → Due F c → (l : List ℕ) → Same c.pile l
      → (k : List ℕ) × Same (unit_l F M test on c).pile k × (unit_l F M test on (swapped l c) ≡ swapped k (unit_l F M test on c))
  unit-same c d l s =
      elim (tell true (ltb c.block F.blocks)) [
        | inr e ↦ (
          l,
          subst (λ (y : Job). Same y.pile l) (sym (cond_no (seek_l F (step_l F M test on c)) c e)) s,
          cond_no (seek_l F (step_l F M test on (swapped l c))) (swapped l c) e ∙ ap (swapped l) (sym (cond_no (seek_l F (step_l F M test on c)) c e)),
        )
        | inl e ↦
            let a = stepped (ltb-out c.block F.blocks e) in
            let b = seek-same F M test on (step_l F M test on c) a.0 a.1 in (
              a.0,
              subst (λ (y : Job). Same y.pile a.0) (sym (cond_yes (seek_l F (step_l F M test on c)) c e)) b.0,
              cond_yes (seek_l F (step_l F M test on (swapped l c))) (swapped l c) e ∙ ap (seek_l F) a.2 ∙ b.1
                  ∙ ap (swapped a.0) (sym (cond_yes (seek_l F (step_l F M test on c)) c e)),
            )
      ]
    where
      stepped : c.block < F.blocks → (k : List ℕ) × Same (step_l F M test on c).pile k × (step_l F M test on (swapped l c) ≡ swapped k (step_l F M test on c))
      stepped b =
          elim (tell true (ltb c.place F.pairs)) [
            | inl y ↦
                let a = look-same F M test on c l s in (
                  a.0,
                  subst (λ (k : Job). Same k.pile a.0) (sym (cond_yes (look_l test c) (turn_l F M on c) y)) a.1,
                  cond_yes (look_l test (swapped l c)) (turn_l F M on (swapped l c)) y ∙ a.2 ∙ ap (swapped a.0) (sym (cond_yes (look_l test c) (turn_l F M on c) y)),
                )
            | inr y ↦
                let a = turn-same F M test on c l s (d.waits b ((ltb_no c.place F.pairs).0 y)) in (
                  a.0,
                  subst (λ (k : Job). Same k.pile a.0) (sym (cond_no (look_l test c) (turn_l F M on c) y)) a.1,
                  cond_no (look_l test (swapped l c)) (turn_l F M on (swapped l c)) y ∙ a.2 ∙ ap (swapped a.0) (sym (cond_no (look_l test c) (turn_l F M on c) y)),
                )
          ]

  -- Runs go the same way with both lists: all but the list is the same after them.
  pub run-same : (n : ℕ) (c : Job) → Due F c → (l : List ℕ) → Same c.pile l
      → (k : List ℕ) × Same (run_l F M test on n c).pile k × (run_l F M test on n (swapped l c) ≡ swapped k (run_l F M test on n c))
  run-same zero c d l s = (l, s, refl)
  run-same (suc n) c d l s =
      let a = unit-same c d l s in
      let b = run-same n (unit_l F M test on c) (unit-due c d) a.0 a.1 in
      (b.0, b.1, ap (run_l F M test on n) a.2 ∙ b.2)
