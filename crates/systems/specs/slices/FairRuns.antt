-- Lists with a fair queue keep one through any run, whatever their values and marks: so any run stays in its rooms, and a turn is of a pair of
-- the block that has the value that pairs turn from.
-- Assumes nothing.
use Rattle.std.specs.Prelude.{◌≡◌, refl, Bool, false, not, cond, ltb, length}
use Rattle.std.proofs.Common.{sym, ◌∙◌, length-set, get_or-set_other}
use Rattle.std.proofs.Math.Path.{ap, subst}
use Rattle.std.proofs.Math.Logic.{inl, inr}
use Rattle.std.proofs.Math.Bool.{true}
use mathlib.Core.List.Memᴰ
use mathlib.Core.List.{List, ◌∷◌, ◌++◌}
use Prim.Native.Nat.{ℕ, zero, suc, ◌+◌, ◌-◌, ◌≤◌, ◌<◌}
use native.Mathlib.Omega.{arith}
use Rattle.std.proofs.Math.Dec.{eqb}
use Rattle.std.proofs.Math.ListN.{get_or, set}
use Rattle.lists.specs.Lists.{is, bit}
use Rattle.lists.specs.Sets.{none}
use Rattle.lists.specs.Tests.{◌∈◌, tell, is-out, and_left, eqb-out, eqb_same, ltb-out, ltb_no, cond_yes, cond_no}
use Rattle.lists.specs.Counts.{times, times-in, times-out, times-append}
use Rattle.systems.specs.solution.System.{Frame, Leans, Values, Fits, eval}
use Rattle.systems.specs.moving.ShiftRule.{shifts-out}
use Rattle.systems.specs.machine.Machine.{own, past_of, past, free, asks, looks, Finds}
use Rattle.systems.specs.machine.Leaners.{found-out}
use Rattle.systems.specs.lists.ListMachine.{val_of, marks_in, turned, between, Job, Test, turn_l, look_l, Place, pair_from, seek, phases, moved, emptied, seek_l, step_l, unit_l, run_l}
use Rattle.systems.specs.lists.Seeks.{next_here, sought}
use Rattle.systems.specs.lists.ListCourse.{Turning}
use Rattle.systems.specs.slices.Fair.{Fair, between_split, fair-push, fair-spread}

-- The test asks only for pairs with the value that pairs turn from.
abbrev pub Apt : Frame → Test → Type 0
Apt F test = (ph : Bool) (v : Values) (m : ℕ → ℕ) (p : ℕ) → free ph (m p) ≡ true → test ph v m p ≡ true → v p ≡ cond ph (own F p) (not (own F p))

-- So does a visit.
pub asks-apt : (F : Frame) (M : Leans) (ph : Bool) (v : Values) (r : ℕ) → asks F M ph v r ≡ true → v r ≡ cond ph (own F r) (not (own F r))
unfolding asks
asks-apt F M false v r e = is-out (not (own F r)) (v r) e
asks-apt F M true v r e = is-out (own F r) (v r) (and_left (is (own F r) (v r)) (is (not (own F r)) (eval F M v r)) e)

-- A pair without a mark has the old value that is told.
pub past-free : (F : Frame) (v : Values) (m : ℕ → ℕ) (p : ℕ) → free false (m p) ≡ true → past F v m p ≡ v p
past-free F v m p e = ap (past_of (own F p) (v p)) (eqb-out (m p) 0 e)

-- The machine's test asks for no others.
pub looks-apt : (F : Frame) (L M : Leans) → Apt F (looks F L M)
unfolding looks
looks-apt F L M false v m p f e = sym (past-free F v m p f) ∙ (shifts-out F L M (F.block p) (past F v m) v none p e).was
looks-apt F L M true v m p f e = asks-apt F M true v p e

-- Lists at their next look or turn, with a fair queue.
pub record FairJob (F : Frame) (c : Job) : Type 0 where
  pub vals : length c.vals ≡ F.pairs
  pub low : c.place ≤ F.pairs
  pub waits : c.block < F.blocks → F.pairs ≤ c.place → c.pile.from < c.pile.tail
  pub here : c.block < F.blocks → c.place < F.pairs → F.block c.place ≡ c.block
  pub fair : c.block < F.blocks → Fair F c.settling c.block (val_of c.vals) c.pile

-- Seeking leads to such.
pub seek-fair : (F : Frame) (d : Job) → d.block < F.blocks → d.place ≤ F.pairs → length d.vals ≡ F.pairs → Fair F d.settling d.block (val_of d.vals) d.pile
    → FairJob F (seek_l F d)
unfolding seek_l
seek-fair F d b l k f =
    let h = d.pile in
    let p : Place = record { block = d.block; settling = d.settling; place = pair_from F d.block d.place } in
    let g : Place = seek F (phases (F.blocks - d.block) d.settling) d.block d.settling d.place in
    elim (tell true (ltb h.from h.tail)) [
      | inl e ↦
          let n = next_here F d.block (F.pairs - d.place) d.place (omega arith) in
          subst (FairJob F) (sym (cond_yes (moved p h d) (moved g (emptied h) d) e))
          (record { vals = k; low = n.0; waits = λ x y. ltb-out h.from h.tail e; here = λ x y. n.1 y; fair = λ x. f })
      | inr e ↦
          let s = sought F (phases (F.blocks - d.block) d.settling) d.block (F.blocks - d.block) d.settling d.place (omega arith) (λ z. absurd (omega arith)) l refl in
          subst (FairJob F) (sym (cond_no (moved p h d) (moved g (emptied h) d) e)) (record {
            vals = k;
            low = s.low;
            waits = λ x y. let z = (s.here x).0 in absurd (omega arith);
            here = λ x y. (s.here x).1;
            fair = λ x. record {
              long = f.long;
              room = f.room;
              order = omega arith;
              once = λ p. omega arith;
              here = λ q m. absurd (Memᴰ.not-nil m);
              shut = λ q m. absurd (Memᴰ.not-nil m);
              value = λ q m. absurd (Memᴰ.not-nil m);
            };
          })
    ]

-- What is known of the pair in front, and that it stands nowhere behind.
record Front (F : Frame) (c : Job) : Type 0 where
  pub turning : Turning F c
  pub behind : (q : ℕ) → q ∈ between c.pile.queue (suc c.pile.from) (c.pile.tail - suc c.pile.from) → q ≡ get_or c.pile.queue c.pile.from 0 → ⊥

module _ {F : Frame} {M : Leans} (fits : Fits F M) where
  front : (c : Job) → c.block < F.blocks → Fair F c.settling c.block (val_of c.vals) c.pile → c.pile.from < c.pile.tail → Front F c
  front c b f l =
      let h = c.pile in
      let q = get_or h.queue h.from 0 in
      let rest = between h.queue (suc h.from) (h.tail - suc h.from) in
      let slice : between h.queue h.from (h.tail - h.from) ≡ q ∷ rest =
      ap (between h.queue h.from) (let z : h.tail - h.from ≡ suc (h.tail - suc h.from) = omega arith in z) in
      let whole : between h.queue 0 h.tail ≡ between h.queue 0 h.from ++ between h.queue h.from (h.tail - h.from) =
      ap (between h.queue 0) (let z : h.tail ≡ h.from + (h.tail - h.from) = omega arith in z) ∙ between_split h.queue h.from (h.tail - h.from) 0
      ∙ ap (λ (k : ℕ). between h.queue 0 h.from ++ between h.queue k (h.tail - h.from)) (let z : 0 + h.from ≡ h.from = omega arith in z) in
      let count : times q (between h.queue 0 h.tail) ≡ times q (between h.queue 0 h.from) + (bit (eqb q q) + times q rest) =
      ap (times q) whole ∙ times-append q (between h.queue 0 h.from) (between h.queue h.from (h.tail - h.from))
      ∙ ap (λ (l : List ℕ). times q (between h.queue 0 h.from) + times q l) slice in
      let one : bit (eqb q q) ≡ 1 = ap bit (eqb_same q) in
      let here : F.block q ≡ c.block = f.here q (times-out q (between h.queue 0 h.tail) (omega arith)) in
      record {
        turning = record {
          waits = l;
          here = here;
          inside = fits.inside q (omega arith);
          value = f.value q (subst (λ (y : List ℕ). q ∈ y) (sym slice) (Memᴰ.head refl));
        };
        behind = λ r m e.
            let a = times-in q (subst (λ (y : ℕ). y ∈ rest) e m) in
            let o = f.once q in
            omega arith;
      }

  -- Where a turn is due, the pair in front is a pair of the block with the value that pairs turn from.
  pub fair-turning : (c : Job) → FairJob F c → c.block < F.blocks → F.pairs ≤ c.place → Turning F c
  fair-turning c f b l = (front c b (f.fair b) (f.waits b l)).turning

  module _ {on : ℕ → List ℕ} (finds : Finds F M on) where
    turn-fair : (c : Job) → c.block < F.blocks → length c.vals ≡ F.pairs → Fair F c.settling c.block (val_of c.vals) c.pile → c.pile.from < c.pile.tail
        → Fair F c.settling c.block (val_of (turn_l F M on c).vals) (turn_l F M on c).pile
    unfolding turn_l
    turn-fair c b k f l =
        let h = c.pile in
        let ph = c.settling in
        let q = get_or h.queue h.from 0 in
        let vs = set c.vals q (turned (get_or c.vals q 0)) in
        let t = front c b f l in
        let e = t.turning.here in
        let lt : F.block q < F.blocks = omega arith in
        fair-spread fits b (asks F M ph (val_of vs)) (on q) {h = record { marks = h.marks; queue = h.queue; from = suc h.from; tail = h.tail }}
        (record {
          long = f.long;
          room = f.room;
          order = l;
          once = f.once;
          here = f.here;
          shut = f.shut;
          value = λ r m.
              ap (λ (x : ℕ). eqb x 1) (get_or-set_other c.vals q r (turned (get_or c.vals q 0)) 0 (t.behind r m))
              ∙ f.value r (subst (λ (y : List ℕ). r ∈ y)
              (sym (ap (between h.queue h.from) (let z : h.tail - h.from ≡ suc (h.tail - suc h.from) = omega arith in z))) (Memᴰ.tail m));
        })
        (λ r m. (found-out finds q r lt m).0 ∙ e) (λ r m a. asks-apt F M ph (val_of vs) r a)

    module _ (test : Test) (apt : Apt F test) where
      look-fair : (c : Job) → c.block < F.blocks → F.block c.place ≡ c.block → Fair F c.settling c.block (val_of c.vals) c.pile
          → Fair F c.settling c.block (val_of c.vals) (look_l test c).pile
      unfolding look_l
      look-fair c b e f =
          let ph = c.settling in
          fair-push fits b (test ph (val_of c.vals) (marks_in c.pile.marks)) c.place f e (λ x y. apt ph (val_of c.vals) (marks_in c.pile.marks) c.place x y)

      -- A unit keeps lists with a fair queue so.
      pub unit-fair : (c : Job) → FairJob F c → FairJob F (unit_l F M test on c)
      unfolding look_l turn_l
      unit-fair c f =
          elim (tell true (ltb c.block F.blocks)) [
            | inr e ↦ subst (FairJob F) (sym (cond_no (seek_l F (step_l F M test on c)) c e)) f
            | inl e ↦
                let b = ltb-out c.block F.blocks e in
                subst (FairJob F) (sym (cond_yes (seek_l F (step_l F M test on c)) c e)) (elim (tell true (ltb c.place F.pairs)) [
                  | inl y ↦
                      let l = ltb-out c.place F.pairs y in
                      subst (λ (k : Job). FairJob F (seek_l F k)) (sym (cond_yes (look_l test c) (turn_l F M on c) y))
                      (seek-fair F (look_l test c) b l f.vals (look-fair c b (f.here b l) (f.fair b)))
                  | inr y ↦
                      let l = (ltb_no c.place F.pairs).0 y in
                      let q = get_or c.pile.queue c.pile.from 0 in
                      subst (λ (k : Job). FairJob F (seek_l F k)) (sym (cond_no (look_l test c) (turn_l F M on c) y))
                      (seek-fair F (turn_l F M on c) b f.low (length-set c.vals q (turned (get_or c.vals q 0)) ∙ f.vals) (turn-fair c b f.vals (f.fair b) (f.waits b l)))
                ])
          ]

      -- So does a run.
      pub run-fair : (n : ℕ) (c : Job) → FairJob F c → FairJob F (run_l F M test on n c)
      run-fair zero c f = f
      run-fair (suc n) c f = run-fair n (unit_l F M test on c) (unit-fair c f)
