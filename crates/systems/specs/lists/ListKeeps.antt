-- What is known of lists on the course of an update; and a unit on them, by a test that agrees, is a unit of the machine.
-- Assumes nothing.
use Rattle.std.specs.Prelude.{◌≡◌, Bool, false, not, ◌&&◌, cond, eqb, ltb, length}
use Rattle.std.proofs.Math.Path.{sym, ap, subst}
use Rattle.std.proofs.Common.{◌∙◌}
use Rattle.std.proofs.Math.Logic.{inl, inr}
use Rattle.std.proofs.Math.Bool.{true}
use mathlib.Core.List.{List, [], ◌∷◌}
use Prim.Native.Nat.{ℕ, suc, ◌-◌, ◌≤◌, ◌<◌}
use native.Mathlib.Omega.{arith}
use Rattle.std.proofs.Math.ListN.{get_or, set, length-set}
use Rattle.lists.specs.Tests.{◌∈◌, tell, ltb-out, ltb_no, cond_yes, cond_no}
use Rattle.lists.specs.Entries.{set-le}
use Rattle.systems.specs.solution.System.{Frame, Leans, Fits}
use Rattle.systems.specs.machine.Machine.{own, past, free, next_mark, asks, looks, State, Finds, look, tidy, unit}
use Rattle.systems.specs.machine.WorklistEnds.{push-in}
use Rattle.systems.specs.machine.Leaners.{found-out}
use Rattle.systems.specs.machine.Phases.{Update}
use Rattle.systems.specs.machine.RunKeeps.{queue_room, next-room, past-at, rest-unit, at_done}
use Rattle.systems.specs.machine.Dues.{Front, turn-due, look-due, look-gone, look-free}
use Rattle.systems.specs.lists.ListMachine.{val_of, marks_in, turned, between, Pile, pile_of, wait_l, push_l, spread_l, Job, todo_at, job_of, Test, Agrees, turn_l, look_l, seek_l, step_l, unit_l}
use Rattle.systems.specs.lists.Seeks.{seek-here, seek-turns}
use Rattle.systems.specs.lists.ListUnits.{between-length, push_kept, spread-kept, step, turn-job, look-step, look-job}
use Rattle.systems.specs.lists.ListCourse.{Formed, Behind, Stands, Underway, Turning, none_left}
use Rattle.systems.specs.lists.SeekStands.{seek-stands}

-- Marks stay at most 3.
next_small : (ph : Bool) (m : ℕ) → next_mark ph m ≤ 3
next_small false m = omega arith
next_small true m = go (eqb m 0)
  where
    go : (b : Bool) → cond b 3 2 ≤ 3
    go true = omega arith
    go false = omega arith

module _ (ph : Bool) (ask : ℕ → Bool) where
  push-small : (r : ℕ) (h : Pile) → ((p : ℕ) → get_or h.marks p 0 ≤ 3) → (p : ℕ) → get_or (push_l (free ph) (next_mark ph) ask r h).marks p 0 ≤ 3
  push-small r h f =
      elim (tell true (free ph (get_or h.marks r 0) && ask r)) [
        | inl e ↦ subst (λ (b : Bool). (p : ℕ) → get_or (cond b (wait_l (next_mark ph) r h) h).marks p 0 ≤ 3) (sym e)
            (set-le 3 h.marks r (next_mark ph (get_or h.marks r 0)) (next_small ph (get_or h.marks r 0)) f)
        | inr e ↦ subst (λ (b : Bool). (p : ℕ) → get_or (cond b (wait_l (next_mark ph) r h) h).marks p 0 ≤ 3) (sym e) f
      ]

  -- Tests of the pairs of a list keep the marks at most 3.
  pub spread-small : (l : List ℕ) (h : Pile) → ((p : ℕ) → get_or h.marks p 0 ≤ 3) → (p : ℕ) → get_or (spread_l (free ph) (next_mark ph) ask l h).marks p 0 ≤ 3
  spread-small [] h f = f
  spread-small (r ∷ l) h f = spread-small l (push_l (free ph) (next_mark ph) ask r h) (push-small r h f)

-- Values stay at most 1.
turned-small : (x : ℕ) → turned x ≤ 1
turned-small x = go (eqb x 1)
  where
    go : (b : Bool) → cond b 0 1 ≤ 1
    go true = omega arith
    go false = omega arith

front-turning : {F : Frame} {M : Leans} → Fits F M → {c : Job} → Formed F c → c.block < F.blocks → Front F c.settling c.block (job_of F c) → Turning F c
unfolding job_of
front-turning {F} fits {c} f b d =
    let a = ap length d.queue in
    let m = between-length c.pile.queue c.pile.from (c.pile.tail - c.pile.from) in
    let o = f.order in
    let lt : c.pile.from < c.pile.tail = omega arith in
    let z : c.pile.tail - c.pile.from ≡ suc (c.pile.tail - suc c.pile.from) = omega arith in
    let e : get_or c.pile.queue c.pile.from 0 ≡ d.pair =
    ap front (sym (ap (between c.pile.queue c.pile.from) z) ∙ d.queue) in
    let h : F.block (get_or c.pile.queue c.pile.from 0) ≡ c.block = ap F.block e ∙ d.here in
    record {
      waits = lt;
      here = h;
      inside = fits.inside (get_or c.pile.queue c.pile.from 0) (omega arith);
      value = ap (val_of c.vals) e ∙ d.value ∙ ap (λ (q : ℕ). cond c.settling (own F q) (not (own F q))) (sym e);
    }
  where
    front : List ℕ → ℕ
    front (q ∷ l) = q
    front [] = 0

module _ {u : Update} {on : ℕ → List ℕ} where
  open u use {F, L, M, old, fits'}

  -- Past all pairs of the block a turn is due.
  pub way-turn : {n : ℕ} {c : Job} → Underway u on n c → c.block < F.blocks → F.pairs ≤ c.place → Turning F c
  unfolding job_of
  way-turn {n} {c} w b l =
      let k : F.blocks - c.block ≡ suc (F.blocks - suc c.block) = omega arith in
      front-turning fits' w.formed b (turn-due w.at (ap (λ (n : ℕ). todo_at F c.block n c.settling c.place) k
      ∙ seek-turns F c.block (F.blocks - suc c.block) c.settling c.place l))

  -- At every point the values before the update can be told.
  pub way-old : {n : ℕ} {c : Job} → Underway u on n c → (p : ℕ) → past F (val_of c.vals) (marks_in c.pile.marks) p ≡ old p
  unfolding job_of
  way-old w = past-at w.at

  -- The queue never needs more room than there are pairs.
  pub way-room : {n : ℕ} {c : Job} → Underway u on n c → c.pile.tail ≤ F.pairs
  unfolding job_of
  way-room {c = c} w =
      let a = queue_room w.at in
      let m = between-length c.pile.queue c.pile.from (c.pile.tail - c.pile.from) in
      let o = w.formed.order in
      omega arith

  -- Where a look of a shift is due, the pairs of its block and of later ones have their old values.
  pub way-still : {n : ℕ} {c : Job} → Underway u on n c → c.block < F.blocks → c.place < F.pairs
      → c.settling ≡ false → (q : ℕ) → F.block c.place ≤ F.block q → val_of c.vals q ≡ old q
  unfolding job_of
  way-still {c = c} w b l =
      let k : F.blocks - c.block ≡ suc (F.blocks - suc c.block) = omega arith in
      (look-due w.at (ap (λ (n : ℕ). todo_at F c.block n c.settling c.place) k
      ∙ seek-here F c.block (F.blocks - suc c.block) c.settling c.place l (w.sits.here b l))).1

  -- Where a look is due, the pairs of the block that are still to be looked at are free.
  pub way-free : {n : ℕ} {c : Job} → Underway u on n c → c.block < F.blocks → c.place < F.pairs
      → (r : ℕ) → c.place ≤ r → F.block r ≡ c.block → free c.settling (marks_in c.pile.marks r) ≡ true
  unfolding job_of
  way-free {c = c} w b l r o e =
      let k : F.blocks - c.block ≡ suc (F.blocks - suc c.block) = omega arith in
      look-free w.at (ap (λ (n : ℕ). todo_at F c.block n c.settling c.place) k
      ∙ seek-here F c.block (F.blocks - suc c.block) c.settling c.place l (w.sits.here b l))
      r (e ∙ sym (w.sits.here b l)) (λ m. let h = w.sits.behind l r m in omega arith)

module _ {u : Update} {on : ℕ → List ℕ} (finds : Finds u.F u.M on) where
  open u use {F, L, M, old, fits'}

  -- A turn on lists.
  turn-formed : {n : ℕ} {c : Job} → Underway u on n c → c.block < F.blocks → F.pairs ≤ c.place
      → (job_of F (turn_l F M on c) ≡ step F L M on (job_of F c)) × Formed F (turn_l F M on c)
  unfolding turn_l
  turn-formed {n} {c} w b l =
      let f = w.formed in
      let t = way-turn w b l in
      let waits = t.waits in
      let q = get_or c.pile.queue c.pile.from 0 in
      let vs = set c.vals q (turned (get_or c.vals q 0)) in
      let ph = c.settling in
      let h : Pile = record { marks = c.pile.marks; queue = c.pile.queue; from = suc c.pile.from; tail = c.pile.tail } in
      let kept = spread-kept (free ph) (next_mark ph) (asks F M ph (val_of vs)) (on q) h in
      let room = next-room finds w.at in
      let i : F.block q < F.blocks = let z = t.here in omega arith in (
        turn-job F L M on c (F.blocks - suc c.block) (omega arith) l waits (omega (arith, f.vals, t.inside))
            (λ r k. let o = found-out finds q r i k in let z = fits'.inside r (omega (arith, o.0)) in omega (arith, f.marks))
            (omega (arith, f.queue)),
        record {
          range = f.range;
          ended = f.ended;
          low = f.low;
          vals = length-set c.vals q (turned (get_or c.vals q 0)) ∙ f.vals;
          bits = set-le 1 c.vals q (turned (get_or c.vals q 0)) (turned-small (get_or c.vals q 0)) f.bits;
          marks = kept.marks ∙ f.marks;
          small = spread-small ph (asks F M ph (val_of vs)) (on q) h f.small;
          queue = let y = kept.queue in let z = f.queue in omega arith;
          order = let y = kept.from in let z = kept.tail in omega arith;
        },
      )

  module _ (test : Test) (agrees : Agrees F L M old test) where
    -- A look on lists.
    look-formed : {n : ℕ} {c : Job} → Underway u on n c → c.block < F.blocks → c.place < F.pairs
        → (job_of F (look_l test c) ≡ step F L M on (job_of F c)) × Formed F (look_l test c)
    unfolding look_l
    look-formed {n} {c} w b l =
        let f = w.formed in
        let ph = c.settling in
        let p = c.place in
        let ask = test ph (val_of c.vals) (marks_in c.pile.marks) in
        let kept = push_kept (free ph) (next_mark ph) ask p c.pile in
        let room = next-room finds w.at in (
          look-job F L M on test c b l (w.sits.here b l)
              (agrees ph c.vals c.pile.marks p f.vals f.marks l (way-old w) (way-still w b l)) (omega (arith, f.marks)) f.order (omega (arith, f.queue)),
          record {
            range = f.range;
            ended = f.ended;
            low = l;
            vals = f.vals;
            bits = f.bits;
            marks = kept.marks ∙ f.marks;
            small = push-small ph ask p c.pile f.small;
            queue = let y = kept.queue in let z = f.queue in omega arith;
            order = let y = kept.from in let z = kept.tail in let o = f.order in omega arith;
          },
        )

    -- What waits after a look has been looked at.
    look-behind : {n : ℕ} {c : Job} → Underway u on n c → c.block < F.blocks → c.place < F.pairs → Behind F (look_l test c)
    unfolding look_l job_of look
    look-behind {c = c} w b l = λ z q m.
        let ph = c.settling in
        let same = ap (λ (s : State). s.held.queue) ((look-formed w b l).0 ∙ look-step F L M on c b l (w.sits.here b l)) in
        elim (push-in (free ph) (next_mark ph) (looks F L M ph (val_of c.vals) (marks_in c.pile.marks)) c.place (pile_of c.pile) q (subst (λ (y : List ℕ). q ∈ y) same m)) [
          | inl k ↦ let h = w.sits.behind l q k in omega arith
          | inr k ↦ omega arith
        ]

    -- A unit on lists is a unit of the machine.
    pub unit-stands : {n : ℕ} {c : Job} → Underway u on n c → Stands F (unit_l F M test on c) (unit F L M on (job_of F c))
    unfolding look_l turn_l
    unit-stands {n} {c} w =
        elim (tell true (ltb c.block F.blocks)) [
          | inl e ↦ subst (λ (d : Job). Stands F d (unit F L M on (job_of F c))) (sym (cond_yes (seek_l F (step_l F M test on c)) c e)) (active (ltb-out c.block F.blocks e))
          | inr e ↦ subst (λ (d : Job). Stands F d (unit F L M on (job_of F c))) (sym (cond_no (seek_l F (step_l F M test on c)) c e)) (idle ((ltb_no c.block F.blocks).0 e))
        ]
      where
        then : (d : Job) → (job_of F d ≡ step F L M on (job_of F c)) × Formed F d → Behind F d → d.block < F.blocks → Stands F (seek_l F d) (unit F L M on (job_of F c))
        then d r o b = let s = seek-stands r.1 o b in record { state = s.state ∙ ap tidy r.0; formed = s.formed; sits = s.sits }

        active : c.block < F.blocks → Stands F (seek_l F (step_l F M test on c)) (unit F L M on (job_of F c))
        active b =
            elim (tell true (ltb c.place F.pairs)) [
              | inl e ↦ subst (λ (d : Job). Stands F (seek_l F d) (unit F L M on (job_of F c))) (sym (cond_yes (look_l test c) (turn_l F M on c) e))
                  (let l = ltb-out c.place F.pairs e in then (look_l test c) (look-formed w b l) (look-behind w b l) b)
              | inr e ↦ subst (λ (d : Job). Stands F (seek_l F d) (unit F L M on (job_of F c))) (sym (cond_no (look_l test c) (turn_l F M on c) e))
                  (let l = (ltb_no c.place F.pairs).0 e in then (turn_l F M on c) (turn-formed w b l) (λ z. absurd (omega arith)) b)
            ]

        idle : F.blocks ≤ c.block → Stands F c (unit F L M on (job_of F c))
        idle b = record { state = sym (rest-unit (at_done w.at (none_left F c b))); formed = w.formed; sits = w.sits }
