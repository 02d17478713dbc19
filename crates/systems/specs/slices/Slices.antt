-- An update may stop after any unit and go on later with another queue: the pairs that wait are told by their blocks, values and
-- marks, and may wait in any order.
-- Assumes nothing.
use Rattle.std.specs.Prelude.{◌≡◌, cond, ◌&&◌, List, [], ◌∷◌, ℕ, ◌-◌, ◌≤◌, ◌<◌, eqb, ltb, length}
use Rattle.std.proofs.Math.Path.{refl, sym, ap}
use Rattle.std.proofs.Common.{ap₂, ◌∙◌, inl, inr, arith}
use Rattle.std.proofs.Math.Bool.{Bool, true, false, not}
use Rattle.std.proofs.Math.Decide.{ℕ_discrete}
use Rattle.lists.specs.Lists.{is, bit}
use Rattle.lists.specs.Tests.{tell, no_way, eqb-out, eqb-in, eqb_same, eqb_no, is-in, and_no}
use Rattle.lists.specs.Counts.{times, times-in, times-out}
use Rattle.systems.specs.solution.System.{Frame, Values}
use Rattle.systems.specs.machine.Worklist.{Waiting}
use Rattle.systems.specs.machine.Machine.{own, free, next_mark, State}
use Rattle.systems.specs.machine.Phases.{Update, base, marks_of, Doing}
use Rattle.systems.specs.machine.PhaseKeeps.{turning-shifts, turning-drops, old-here, marked-turns, marked-here, turned-val, still-val, marked-mark, unmarked-mark}
use Rattle.systems.specs.machine.UnitKeeps.{free-before}
use Rattle.systems.specs.machine.Course.{Going, At, to-look, to-turn, done}
use Rattle.systems.specs.lists.ListMachine.{val_of, marks_in, between, pile_of, Job, job_of, moved}
use Rattle.systems.specs.lists.ListCourse.{Underway}
use Rattle.systems.specs.lists.Midst.{way-midst}

-- The mark by which a pair has been put in the queue, while shifting or settling.
abbrev pub marked_by : Bool → ℕ → Bool
marked_by false m = eqb m 1
marked_by true m = not (ltb m 2)

-- The value that pairs turn from, in a block whose own value is b.
abbrev pub turns_from : Bool → Bool → Bool
turns_from false b = not b
turns_from true b = b

-- The pair p waits, in a phase of block i: it is of the block, has been put in the queue and has not turned.
unfoldable pub waits : Frame → Bool → ℕ → Values → (ℕ → ℕ) → ℕ → Bool
waits F ph i v m p = eqb (F.block p) i && (marked_by ph (m p) && is (turns_from ph (own F p)) (v p))

-- A pair is so marked when it is put in the queue.
next-marked : (ph : Bool) (m : ℕ) → marked_by ph (next_mark ph m) ≡ true
next-marked false m = refl
next-marked true m =
    elim (tell true (eqb m 0)) [
      | inl e ↦ ap (λ (b : Bool). not (ltb (cond b 3 2) 2)) e
      | inr e ↦ ap (λ (b : Bool). not (ltb (cond b 3 2) 2)) e
    ]

-- A pair that is free is not.
free-unmarked : (ph : Bool) (m : ℕ) → free ph m ≡ true → marked_by ph m ≡ false
free-unmarked false m e = ap (λ (y : ℕ). eqb y 1) (eqb-out m 0 e)
free-unmarked true m e = ap not e

module _ {u : Update} {i : ℕ} {x t : ℕ → Bool} {rest : List ℕ} {v : Values} {w : Waiting} where
  open u use {F}

  -- A pair that has been marked and has not turned has the value that pairs turn from.
  value-from : (ph : Bool) → Doing u ph i x t rest v w → (p : ℕ) → x p ≡ true → t p ≡ false → v p ≡ turns_from ph (F.great i)
  unfolding base
  value-from false d p e f = still-val d p f ∙ old-here u d.lt p (marked-here d p e) ∙ (turning-shifts u d.lt p (marked-turns d p e)).was
  value-from true d p e f = still-val d p f ∙ (turning-drops u d.lt p (marked-turns d p e)).own

  -- One that has turned has the other.
  value-to : (ph : Bool) → Doing u ph i x t rest v w → (p : ℕ) → t p ≡ true → is (turns_from ph (F.great i)) (v p) ≡ false
  value-to false d p f = ap (is (not (F.great i))) (turned-val d p f) ∙ other (F.great i)
    where
      other : (b : Bool) → is (not b) b ≡ false
      other true = refl
      other false = refl
  value-to true d p f = ap (is (F.great i)) (turned-val d p f) ∙ other (F.great i)
    where
      other : (b : Bool) → is b (not b) ≡ false
      other true = refl
      other false = refl

  -- In the midst of a phase, what waits is told by blocks, values and marks.
  doing-waits : (ph : Bool) → Doing u ph i x t rest v w → (p : ℕ) → (x p && not (t p)) ≡ waits F ph i v w.marks p
  unfolding waits
  doing-waits ph d p =
      elim (ℕ_discrete (F.block p) i) [
        | no n ↦
            ap (λ (b : Bool). b && not (t p)) (no_way (x p) (λ e. n (marked-here d p e)))
            ∙ sym (ap (λ (b : Bool). b && (marked_by ph (w.marks p) && is (turns_from ph (own F p)) (v p))) ((eqb_no (F.block p) i).1 n))
        | yes e ↦ inside e (x p) (t p) refl refl ∙ sym (told e)
      ]
    where
      -- What the pair is told by, if it is of the block.
      seen : Bool
      seen = marked_by ph (w.marks p) && is (turns_from ph (F.great i)) (v p)

      told : F.block p ≡ i → (eqb (F.block p) i && (marked_by ph (w.marks p) && is (turns_from ph (own F p)) (v p))) ≡ seen
      told e =
          ap (λ (b : Bool). b && (marked_by ph (w.marks p) && is (turns_from ph (own F p)) (v p))) (eqb-in (F.block p) i e)
          ∙ ap (λ (j : ℕ). marked_by ph (w.marks p) && is (turns_from ph (F.great j)) (v p)) e

      inside : F.block p ≡ i → (a b : Bool) → x p ≡ a → t p ≡ b → (x p && not (t p)) ≡ seen
      inside e false b f g =
          ap (λ (y : Bool). y && not (t p)) f
          ∙ sym (ap (λ (y : Bool). y && is (turns_from ph (F.great i)) (v p))
          (ap (marked_by ph) (unmarked-mark d p f) ∙ free-unmarked ph (marks_of u ph i p) (free-before u ph i p e)))
      inside e true true f g =
          and_no (x p) (ap not g) ∙ sym (and_no (marked_by ph (w.marks p)) (value-to ph d p g))
      inside e true false f g =
          ap₂ (λ (y : Bool) (z : Bool). y && not z) f g
          ∙ sym (ap₂ (λ (y : Bool) (z : Bool). y && z) (ap (marked_by ph) (marked-mark d p f) ∙ next-marked ph (marks_of u ph i p))
          (is-in (turns_from ph (F.great i)) (v p) (value-from ph d p f g)))

-- Lists in which every number stands as often are both empty or neither.
none-waits : (l k : List ℕ) → ((p : ℕ) → times p l ≡ times p k) → k ≡ [] → l ≡ []
none-waits [] k e z = refl
none-waits (q ∷ l) k e z = let a = e q in let b : bit (eqb q q) ≡ 1 = ap bit (eqb_same q) in let c = ap (times q) z in absurd (omega arith)

-- The state with other pairs in its queue, and no more turned in the phase.
abbrev requeued : List ℕ → ℕ → State → State
requeued l g s = record {
  todo = s.todo;
  val = s.val;
  held = record { marks = s.held.marks; queue = l };
  gone = g;
  shift_visits = s.shift_visits;
  settle_visits = s.settle_visits;
}

module _ {u : Update} {on : ℕ → List ℕ} where
  open u use {F, L, M, old}

  going-requeued : {n : ℕ} {ph : Bool} {i k : ℕ} {x t : ℕ → Bool} {rest : List ℕ} (s : State) (l : List ℕ) (g : ℕ) → ((p : ℕ) → times p l ≡ times p s.held.queue) → g ≤ s.gone
      → Going u on n ph i k x t rest s → Going u on n ph i k x t rest (requeued l g s)
  going-requeued s l g e h a = record {
    place = a.place;
    doing = record {
      lt = a.doing.lt;
      here = a.doing.here;
      work = record {
        stage = record {
          within = a.doing.work.stage.within;
          asked = a.doing.work.stage.asked;
          marked = a.doing.work.stage.marked;
          queued = λ p. e p ∙ a.doing.work.stage.queued p;
        };
        first = a.doing.work.first;
        later = a.doing.work.later;
      };
      vals = a.doing.vals;
    };
    gone = let b = a.gone in omega arith;
    todo = a.todo;
    counted = record { shift_visits = a.counted.shift_visits; settle_visits = a.counted.settle_visits; spent = a.counted.spent };
  }

  -- The pairs that wait may wait in any order.
  at-requeued : {n : ℕ} (s : State) (l : List ℕ) (g : ℕ) → ((p : ℕ) → times p l ≡ times p s.held.queue) → g ≤ s.gone → At u on n s → At u on n (requeued l g s)
  at-requeued s l g e h (to-look ph i k x p rest a) = to-look ph i k x p rest (going-requeued s l g e h a)
  at-requeued {n} s l g e h (to-turn ph i k x t q queue a z) = go l refl
    where
      go : (y : List ℕ) → l ≡ y → At u on n (requeued l g s)
      go (r ∷ y) f = to-turn ph i k x t r y (going-requeued s l g e h a) f
      go [] f = let b = ap length (none-waits s.held.queue l (λ p. sym (e p)) f) in let c = ap length z in absurd (omega arith)
  at-requeued s l g e h (done r) = done (record {
    place = r.place;
    vals = r.vals;
    marks = r.marks;
    empty = none-waits l s.held.queue e r.empty;
    gone = let b = r.gone in omega arith;
    todo = r.todo;
    counted = record { shift_visits = r.counted.shift_visits; settle_visits = r.counted.settle_visits; spent = r.counted.spent };
  })

-- The update with another queue.
abbrev pub refilled : List ℕ → ℕ → ℕ → Job → Job
refilled queue from tail c =
    moved (record { block = c.block; settling = c.settling; place = c.place }) (record { marks = c.pile.marks; queue = queue; from = from; tail = tail }) c

module _ {u : Update} {on : ℕ → List ℕ} where
  open u use {F, L, M, old}

  -- Until all is done, what waits is told by blocks, values and marks: each such pair waits once, and no other.
  pub way-waits : {n : ℕ} {c : Job} → Underway u on n c → c.block < F.blocks → (p : ℕ)
      → times p (pile_of c.pile).queue ≡ bit (waits F c.settling c.block (val_of c.vals) (marks_in c.pile.marks) p)
  way-waits {c = c} w b p = let d = (way-midst w b).doing in d.work.stage.queued p ∙ ap bit (doing-waits c.settling d p)

  -- An update may go on with another queue in which the same pairs wait, in any order, and no further from its first place.
  pub way-refill : {n : ℕ} {c : Job} → Underway u on n c → (queue : List ℕ) (from tail : ℕ) → F.pairs ≤ length queue → from ≤ tail → from ≤ c.pile.from
      → (tail ≤ from → (from ≡ 0) × (tail ≡ 0)) → ((p : ℕ) → times p (between queue from (tail - from)) ≡ times p (pile_of c.pile).queue)
      → Underway u on n (refilled queue from tail c)
  unfolding job_of
  way-refill {c = c} w queue from tail room order low level e = record {
    formed = record {
      range = w.formed.range;
      ended = w.formed.ended;
      low = w.formed.low;
      vals = w.formed.vals;
      bits = w.formed.bits;
      marks = w.formed.marks;
      small = w.formed.small;
      queue = room;
      order = order;
    };
    sits = record {
      here = w.sits.here;
      level = level;
      behind = λ l q m. w.sits.behind l q (let a = times-in q m in let b = e q in times-out q (pile_of c.pile).queue (omega arith));
    };
    at = at-requeued (job_of F c) (between queue from (tail - from)) from e low w.at;
  }

  -- So a queue that holds once each pair that is told to wait, and no other, will do.
  pub way-resume : {n : ℕ} {c : Job} → Underway u on n c → c.block < F.blocks → (queue : List ℕ) (tail : ℕ) → F.pairs ≤ length queue
      → ((p : ℕ) → times p (between queue 0 tail) ≡ bit (waits F c.settling c.block (val_of c.vals) (marks_in c.pile.marks) p))
      → Underway u on n (refilled queue 0 tail c)
  way-resume w b queue tail room e =
      way-refill w queue 0 tail room (omega arith) (omega arith) (λ l. (refl, omega arith))
      (λ p. ap (λ (n : ℕ). times p (between queue 0 n)) (let z : tail - 0 ≡ tail = omega arith in z) ∙ e p ∙ sym (way-waits w b p))
