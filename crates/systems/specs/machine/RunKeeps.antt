-- What the machine keeps over a whole run: it is in the midst of a phase of some block, before a look or before a turn, or
-- it is done; what it has counted is what has turned; and each unit is a look or a turn, until nothing is left.
-- Assumes nothing.
use Rattle.std.specs.Prelude.{◌≡◌, ◌⊎◌, Bool, ◌&&◌, ◌||◌, ℕ, zero, suc, ◌+◌, ◌≤◌, ◌<◌}
use Rattle.std.proofs.Math.Path.{refl, sym, ap, subst}
use Rattle.std.proofs.Common.{◌∙◌, inl, inr, add-zero, le_refl}
use Rattle.std.proofs.Math.Bool.{true, false, not, cond}
use mathlib.Core.List.{List, [], ◌∷◌, ◌++◌}
use native.Mathlib.Omega.{arith}
use Rattle.std.proofs.Math.ListN.{length}
use Rattle.lists.specs.Lists.{bit}
use Rattle.lists.specs.Tests.{◌∈◌, tell, or_right, or-false}
use Rattle.lists.specs.Sums.{sum-le, sum_ones, sum-add}
use Rattle.lists.specs.Sets.{none, add, add_same, add-other, weight, weight-ext, weight-add}
use Rattle.lists.specs.Counts.{times, times-in, times-all}
use Rattle.systems.specs.solution.System.{settled, shifted, move_to}
use Rattle.systems.specs.moving.Marks.{shift_of, settle_of}
use Rattle.systems.specs.moving.UpTo.{up_to, up-off, shift_suc, settle-suc}
use Rattle.systems.specs.machine.Machine.{own, past_of, past, Step, turns, State, Finds, turn, look, next, skip, left, tidy_by, tidy, unit, pairs_of, looks_at, todo_from, after, sights}
use Rattle.systems.specs.machine.Phases.{Update, base, rule, turning, marks_to, Doing}
use Rattle.systems.specs.machine.PhaseKeeps.{past-between, marked-here, past-doing}
use Rattle.systems.specs.machine.UnitKeeps.{look-doing, in_front, front-waits, front-here, turn-doing}
use Rattle.systems.specs.machine.BlockEnds.{to-shifting, phase-ends, to-settling, block-values, block-marks}
use Rattle.systems.specs.machine.Course.{shift_to, settle_to, have_shifted, have_settled, Counted, Rest, Going, At, to-look, to-turn, done}

module _ (u : Update) where
  open u use {F, L, M, old}

  -- What the turn of a pair q of block i adds to the counts, where t have turned and q has not.
  module _ (i q : ℕ) (t : ℕ → Bool) (here : F.block q ≡ i) (lt : q < F.pairs) (waits : t q ≡ false) (g : ℕ → ℕ) where
    or-add : (d : ℕ → Bool) → weight F.pairs g (λ p. up_to F d i p || add q t p) ≡ weight F.pairs g (λ p. up_to F d i p || t p) + g q
    or-add d =
        weight-add F.pairs g (λ p. up_to F d i p || t p) (λ p. up_to F d i p || add q t p) q lt
        (ap (λ (b : Bool). b || t q) (up-off F d i q (omega arith)) ∙ waits) (or_right (up_to F d i q) (add_same q t))
        (λ p n. ap (λ (b : Bool). up_to F d i p || b) (add-other q t p n))

    turn-shifts : (ph : Bool) → weight F.pairs g (have_shifted u ph i (add q t)) ≡ weight F.pairs g (have_shifted u ph i t) + cond ph 0 (g q)
    unfolding have_shifted
    turn-shifts false = or-add (shift_of F L M old)
    turn-shifts true = sym (add-zero (weight F.pairs g (shift_to u (suc i))))

    turn-settles : (ph : Bool) → weight F.pairs g (have_settled u ph i (add q t)) ≡ weight F.pairs g (have_settled u ph i t) + cond ph (g q) 0
    unfolding have_settled
    turn-settles false = sym (add-zero (weight F.pairs g (settle_to u i)))
    turn-settles true = or-add (settle_of F L M old)

module _ {u : Update} {on : ℕ → List ℕ} where
  open u use {F, L, M, old, fits, fits'}

  counted-as : {n : ℕ} {s : State} {a b : ℕ → Bool} (l : List Step) (c d : ℕ → Bool) → sights l ≡ sights s.todo → ((p : ℕ) → a p ≡ c p) → ((p : ℕ) → b p ≡ d p)
      → Counted u on n s a b → Counted u on n (left l s) c d
  counted-as {a = a} {b} l c d h e f k = record {
    shift_visits = k.shift_visits ∙ weight-ext F.pairs (λ q. length (on q)) a c (λ p l. e p);
    settle_visits = k.settle_visits ∙ weight-ext F.pairs (λ q. length (on q)) b d (λ p l. f p);
    spent =
        let g = k.spent in
        let x = weight-ext F.pairs (λ p. 1) a c (λ p l. e p) in
        let y = weight-ext F.pairs (λ p. 1) b d (λ p l. f p) in
        omega arith;
  }

  -- A block is entered.
  enter : {n i k : ℕ} {s : State} → Rest u on n i (suc k) s → Going u on n false i k none none (pairs_of F i) (left s.todo s)
  unfolding after have_shifted have_settled
  enter {i = i} {s = s} r = record {
    place = let h = r.place in omega arith;
    doing = to-shifting u (let h = r.place in omega arith) r.vals r.marks r.empty;
    gone = omega arith;
    todo = r.todo;
    counted = counted-as s.todo (have_shifted u false i none) (have_settled u false i none) refl (λ p. sym (or-false (shift_to u i p))) (λ p. refl) r.counted;
  }

  -- A block has shifted.
  middle : {n i k : ℕ} {x t : ℕ → Bool} {s : State} → Going u on n false i k x t [] s → s.held.queue ≡ []
      → Going u on n true i k none none (pairs_of F i) (left (after F false i k) s)
  unfolding after have_shifted have_settled turning rule shifted
  middle {i = i} {k} {s = s} g e = record {
    place = g.place;
    doing = to-settling g.doing e;
    gone = omega arith;
    todo = refl;
    counted = counted-as (after F false i k) (have_shifted u true i none) (have_settled u true i none) (sym (ap sights g.todo))
        (λ p. ap (λ (b : Bool). shift_to u i p || b) (phase-ends false g.doing e p).1
        ∙ shift_suc F L M old fits g.doing.lt p)
        (λ p. sym (or-false (settle_to u i p))) g.counted;
  }

  -- A block has settled, and is left.
  leave : {n i k : ℕ} {x t : ℕ → Bool} {s : State} → Going u on n true i k x t [] s → s.held.queue ≡ [] → Rest u on n (suc i) k (left (todo_from F (suc i) k) s)
  unfolding after have_shifted have_settled turning rule base settled
  leave {i = i} {k} g e = record {
    place = let h = g.place in omega arith;
    vals = block-values g.doing e;
    marks = block-marks g.doing e;
    empty = e;
    gone = refl;
    todo = refl;
    counted = counted-as (todo_from F (suc i) k) (shift_to u (suc i)) (settle_to u (suc i)) (sym (ap sights g.todo))
        (λ p. refl)
        (λ p. ap (λ (b : Bool). settle_to u i p || b) (phase-ends true g.doing e p).1
        ∙ settle-suc F L M old fits' g.doing.lt p)
        g.counted;
  }

  -- With a pair to look at, and none turned, the machine is before a look.
  see : {n : ℕ} {ph : Bool} {i k : ℕ} {x : ℕ → Bool} {p : ℕ} {rest : List ℕ} (s : State) → Going u on n ph i k x none (p ∷ rest) (left s.todo s)
      → At u on n (left (skip s.todo) s)
  see {n} {ph} {i} {k} {x} {p} {rest} s g =
      subst (λ (l : List Step). At u on n (left l s)) (g.todo ∙ sym (ap skip g.todo)) (to-look ph i k x p rest g)

  -- From between two blocks the machine goes on to the next pair to look at, or is done.
  pub ready : (k : ℕ) {n i : ℕ} {s : State} → Rest u on n i k s → At u on n (left (skip s.todo) s)
  ready zero {n} {i} {s} r =
      subst (λ (l : List Step). At u on n (left l s)) (sym (ap skip r.todo))
      (done (record {
        place = omega arith;
        vals = let e : i ≡ F.blocks = let h = r.place in omega arith in subst (λ (j : ℕ). (p : ℕ) → s.val p ≡ move_to F L M old j p) e r.vals;
        marks = let e : i ≡ F.blocks = let h = r.place in omega arith in subst (λ (j : ℕ). (p : ℕ) → s.held.marks p ≡ marks_to u j p) e r.marks;
        empty = r.empty;
        gone = refl;
        todo = refl;
        counted =
            let e : i ≡ F.blocks = let h = r.place in omega arith in
            subst (λ (j : ℕ). Counted u on n (left [] s) (shift_to u j) (settle_to u j)) e
            (counted-as [] (shift_to u i) (settle_to u i) (sym (ap sights r.todo)) (λ p. refl) (λ p. refl) r.counted);
      }))
  ready (suc k) {n} {i} {s} r = go (pairs_of F i) refl (ready k)
    where
      go : (l : List ℕ) → pairs_of F i ≡ l → (Rest u on n (suc i) k (left (todo_from F (suc i) k) s) → At u on n (left (skip (todo_from F (suc i) k)) s))
          → At u on n (left (skip s.todo) s)
      go (p ∷ l) e ih = see s (subst (λ (y : List ℕ). Going u on n false i k none none y (left s.todo s)) e (enter r))
      go [] e ih =
          let a = subst (λ (y : List ℕ). Going u on n false i k none none y (left s.todo s)) e (enter r) in
          let b = subst (λ (y : List ℕ). Going u on n true i k none none y (left (after F false i k) s)) e (middle a r.empty) in
          subst (λ (l : List Step). At u on n (left l s))
          (sym (ap skip r.todo ∙ ap (λ (y : List ℕ). skip (looks_at false y ++ (turns false i ∷ (looks_at true y ++ (turns true i ∷ todo_from F (suc i) k))))) e))
          (ih (leave b r.empty))

  -- From the end of a phase the machine goes on to the next pair to look at, or is done.
  over : {n : ℕ} (ph : Bool) {i k : ℕ} {x t : ℕ → Bool} {s : State} → Going u on n ph i k x t [] s → s.held.queue ≡ [] → At u on n (left (skip s.todo) s)
  unfolding after
  over {n} false {i} {k} {s = s} g e = go (pairs_of F i) refl
    where
      go : (l : List ℕ) → pairs_of F i ≡ l → At u on n (left (skip s.todo) s)
      go (p ∷ l) f =
          subst (λ (l : List Step). At u on n (left l s)) (sym (ap skip g.todo))
          (see (left (after F false i k) s) (subst (λ (y : List ℕ). Going u on n true i k none none y (left (after F false i k) s)) f (middle g e)))
      go [] f =
          let b = subst (λ (y : List ℕ). Going u on n true i k none none y (left (after F false i k) s)) f (middle g e) in
          subst (λ (l : List Step). At u on n (left l s)) (sym (ap skip g.todo ∙ ap (λ (y : List ℕ). skip (looks_at true y ++ (turns true i ∷ todo_from F (suc i) k))) f))
          (ready k (leave b e))
  over {n} true {i} {k} {s = s} g e = subst (λ (l : List Step). At u on n (left l s)) (sym (ap skip g.todo)) (ready k (leave g e))

  -- In the midst of the looks of a phase.
  pub look-on : {n : ℕ} {ph : Bool} {i k : ℕ} {x : ℕ → Bool} (rest : List ℕ) {s : State} → Going u on n ph i k x none rest s → At u on n (tidy s)
  look-on {n} {ph} {i} {k} {x} rest {s} g = go rest g s.held.queue refl
    where
      go : (rest : List ℕ) → Going u on n ph i k x none rest s → (l : List ℕ) → s.held.queue ≡ l → At u on n (tidy_by s.held.queue s)
      go (p ∷ rest) g [] e =
          subst (λ (l : List ℕ). At u on n (tidy_by l s)) (sym e)
          (see s (record {
            place = g.place;
            doing = g.doing;
            gone = omega arith;
            todo = g.todo;
            counted = record { shift_visits = g.counted.shift_visits; settle_visits = g.counted.settle_visits; spent = g.counted.spent };
          }))
      go (p ∷ rest) g (q ∷ queue) e = subst (λ (l : List ℕ). At u on n (tidy_by l s)) (sym e) (to-look ph i k x p rest g)
      go [] g [] e = subst (λ (l : List ℕ). At u on n (tidy_by l s)) (sym e) (over ph g e)
      go [] g (q ∷ queue) e = subst (λ (l : List ℕ). At u on n (tidy_by l s)) (sym e) (to-turn ph i k x none q queue g e)

  -- In the midst of the turns of a phase.
  pub turn_on : {n : ℕ} {ph : Bool} {i k : ℕ} {x t : ℕ → Bool} {s : State} → Going u on n ph i k x t [] s → At u on n (tidy s)
  turn_on {n} {ph} {i} {k} {x} {t} {s} g = go s.held.queue refl
    where
      go : (l : List ℕ) → s.held.queue ≡ l → At u on n (tidy_by s.held.queue s)
      go [] e = subst (λ (l : List ℕ). At u on n (tidy_by l s)) (sym e) (over ph g e)
      go (q ∷ queue) e = subst (λ (l : List ℕ). At u on n (tidy_by l s)) (sym e) (to-turn ph i k x t q queue g e)

  -- At every point the value before the update can be told.
  pub past-at : {n : ℕ} {s : State} → At u on n s → (p : ℕ) → past F s.val s.held.marks p ≡ old p
  past-at (to-look ph i k x p rest g) r = past-doing ph g.doing r
  past-at (to-turn ph i k x t q queue g e) r = past-doing ph g.doing r
  past-at {s = s} (done r) p =
      ap (past_of (own F p) (s.val p)) (r.marks p) ∙ ap (λ (b : Bool). past_of (own F p) b (marks_to u F.blocks p)) (r.vals p)
      ∙ past-between u F.blocks (le_refl F.blocks) p

  -- In the midst of a phase, what waits is a pair of the block.
  going-block : {n : ℕ} {ph : Bool} {i k : ℕ} {x t : ℕ → Bool} {rest : List ℕ} {s : State} → Going u on n ph i k x t rest s
      → (q : ℕ) → q ∈ s.held.queue → F.block q < F.blocks
  going-block {x = x} {t} g q m =
      elim (tell true (x q)) [
        | inl e ↦ let h = marked-here g.doing q e in let l = g.doing.lt in omega arith
        | inr e ↦
            let a = g.doing.work.stage.queued q in
            let b : bit (x q && not (t q)) ≡ 0 = ap (λ (y : Bool). bit (y && not (t q))) e in
            let c = times-in q m in
            absurd (omega arith)
      ]

  -- In the midst of a phase, no more have turned and wait than there are pairs.
  going-room : {n : ℕ} {ph : Bool} {i k : ℕ} {x t : ℕ → Bool} {rest : List ℕ} {s : State} → Going u on n ph i k x t rest s
      → s.gone + length s.held.queue ≤ F.pairs
  unfolding weight
  going-room {x = x} {t} {s = s} g =
      let a = g.gone in
      let h = times-all F.pairs s.held.queue (λ r m. fits.inside r (going-block g r m)) in
      let c = sum-add F.pairs (λ p. cond (t p) 1 0) (λ p. times p s.held.queue) in
      let k = sum-le F.pairs (λ p. cond (t p) 1 0 + times p s.held.queue) (λ p. 1)
      (λ p. let b = g.doing.work.stage.queued p in let d = one (x p) (t p) in omega arith) in
      let l = sum_ones F.pairs in
      omega arith
    where
      one : (a b : Bool) → cond b 1 0 + bit (a && not b) ≤ 1
      one true true = omega arith
      one true false = omega arith
      one false true = omega arith
      one false false = omega arith

  -- No more have turned in the phase and wait than there are pairs.
  pub queue_room : {n : ℕ} {s : State} → At u on n s → s.gone + length s.held.queue ≤ F.pairs
  queue_room (to-look ph i k x p rest g) = going-room g
  queue_room (to-turn ph i k x t q queue g e) = going-room g
  queue_room (done r) = let a = r.gone in let b = ap length r.empty in omega arith

module _ {u : Update} {on : ℕ → List ℕ} (finds : Finds u.F u.M on) where
  open u use {F, L, M, old, fits, fits'}

  -- A look keeps the course.
  look-going : {n : ℕ} {ph : Bool} {i k : ℕ} {x : ℕ → Bool} {p : ℕ} {rest : List ℕ} {s : State} → Going u on n ph i k x none (p ∷ rest) s
      → (now : ℕ → Bool) × Going u on (suc n) ph i k now none rest (next F L M on s.todo s.held.queue s)
  unfolding look
  look-going {n} {ph} {i} {k} {x} {p} {rest} {s} g =
      let todo = looks_at ph rest ++ (turns ph i ∷ after F ph i k) in
      let m = look-doing g.doing in
      let same : next F L M on s.todo s.held.queue s ≡ look F L M ph p todo s = ap (λ (l : List Step). next F L M on l s.held.queue s) g.todo in (
        m.0,
        subst (Going u on (suc n) ph i k m.0 none rest) (sym same) (record {
          place = g.place;
          doing = m.1;
          gone = g.gone;
          todo = refl;
          counted = record {
            shift_visits = g.counted.shift_visits;
            settle_visits = g.counted.settle_visits;
            spent = let h = g.counted.spent in let l = ap sights g.todo in omega arith;
          };
        }),
      )

  -- A turn keeps the course.
  turn-going : {n : ℕ} {ph : Bool} {i k : ℕ} {x t : ℕ → Bool} {s : State} (q : ℕ) (queue : List ℕ) → Going u on n ph i k x t [] s
      → s.held.queue ≡ q ∷ queue → (now : ℕ → Bool) × Going u on (suc n) ph i k now (add q t) [] (next F L M on s.todo s.held.queue s)
  unfolding turn
  turn-going {n} {ph} {i} {k} {x} {t} {s} q queue g e =
      let ms = s.held.marks in
      let d : Doing u ph i x t [] s.val (in_front ms q queue) =
      subst (λ (l : List ℕ). Doing u ph i x t [] s.val (record { marks = ms; queue = l })) e g.doing in
      let m = turn-doing finds ph d in
      let w = (front-waits ph d).1 in
      let h = front-here ph d in
      let l : q < F.pairs = let o = d.lt in fits.inside q (omega arith) in
      let same : next F L M on s.todo s.held.queue s ≡ turn F M on ph q queue s =
      ap (λ (l : List ℕ). next F L M on s.todo l s) e ∙ ap (λ (l : List Step). next F L M on l (q ∷ queue) s) g.todo in (
        m.0,
        subst (Going u on (suc n) ph i k m.0 (add q t) []) (sym same) (record {
          place = g.place;
          doing = m.1;
          gone =
              let a = g.gone in
              let b = weight-add F.pairs (λ p. 1) t (add q t) q l w (add_same q t) (λ p z. add-other q t p z) in
              omega arith;
          todo = g.todo;
          counted = record {
            shift_visits = ap (λ (y : ℕ). y + cond ph 0 (length (on q))) g.counted.shift_visits ∙ sym (turn-shifts u i q t h l w (λ r. length (on r)) ph);
            settle_visits = ap (λ (y : ℕ). y + cond ph (length (on q)) 0) g.counted.settle_visits ∙ sym (turn-settles u i q t h l w (λ r. length (on r)) ph);
            spent =
                let a = g.counted.spent in
                let b = turn-shifts u i q t h l w (λ r. 1) ph in
                let c = turn-settles u i q t h l w (λ r. 1) ph in
                let o = one ph in
                omega arith;
          };
        }),
      )
    where
      one : (ph : Bool) → cond ph 0 1 + cond ph 1 0 ≡ 1
      one true = refl
      one false = refl

  -- Each unit is a look or a turn, until nothing is left.
  pub unit-at : {n : ℕ} {s : State} → At u on n s → At u on (suc n) (unit F L M on s) ⊎ Rest u on n F.blocks 0 s
  unit-at (done r) = inr r
  unit-at (to-look ph i k x p rest g) = inl (look-on rest (look-going g).1)
  unit-at (to-turn ph i k x t q queue g e) = inl (turn_on (turn-going q queue g e).1)

  -- After a look or a turn no more have turned in the phase and wait than there are pairs.
  pub next-room : {n : ℕ} {s : State} → At u on n s → let y = next F L M on s.todo s.held.queue s in y.gone + length y.held.queue ≤ F.pairs
  next-room (to-look ph i k x p rest g) = going-room (look-going g).1
  next-room (to-turn ph i k x t q queue g e) = going-room (turn-going q queue g e).1
  next-room {s = s} (done r) =
      let a = r.gone in
      let b = ap length r.empty in
      let c = ap (λ (l : List Step). let y = next F L M on l s.held.queue s in y.gone + length y.held.queue) r.todo in
      omega arith

module _ {u : Update} {on : ℕ → List ℕ} where
  open u use {F, L, M}

  -- Once nothing is left, a unit does nothing.
  pub rest-unit : {n : ℕ} {s : State} → Rest u on n F.blocks 0 s → unit F L M on s ≡ s
  rest-unit {s = s} r =
      ap (λ (l : List Step). tidy (next F L M on l s.held.queue s)) r.todo ∙ ap (λ (l : List ℕ). tidy_by l s) r.empty
      ∙ ap (λ (l : List Step). left (skip l) s) r.todo
      ∙ ap {B = State} (λ (l : List Step). record { todo = l; val = s.val; held = s.held; gone = 0; shift_visits = s.shift_visits; settle_visits = s.settle_visits }) (sym r.todo)
      ∙ ap {B = State} (λ (n : ℕ). record { todo = s.todo; val = s.val; held = s.held; gone = n; shift_visits = s.shift_visits; settle_visits = s.settle_visits }) (sym r.gone)

  -- Nothing is left to do only once the machine is done.
  pub at_done : {n : ℕ} {s : State} → At u on n s → s.todo ≡ [] → Rest u on n F.blocks 0 s
  at_done (done r) f = r
  at_done (to-look ph i k x p rest g) f = let e = ap length (sym g.todo ∙ f) in absurd (omega arith)
  at_done (to-turn ph i k x t q queue g e) f = let e = ap length (sym g.todo ∙ f) in absurd (omega arith)
