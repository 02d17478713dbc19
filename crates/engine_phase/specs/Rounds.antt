-- The pairs that wait in a phase turn in rounds: what stands where a round begins, what it leaves, and that rounds add up. Assumes nothing.
use Rattle.std.specs.Prelude.{◌≡◌, Bool, List, ℕ, suc, ◌+◌, ◌-◌, ◌≤◌, ◌<◌, length, get_or}
use Rattle.std.proofs.Common.{sym, ◌∙◌, subst}
use Rattle.std.proofs.Math.Path.{ap}
use native.Mathlib.Omega.{arith}
use Rattle.std.proofs.lemmas.List.{length-map}
use Rattle.systems.specs.machine.Machine.{free, next_mark}
use Rattle.systems.specs.lists.ListMachine.{Job}
use Rattle.systems.specs.lists.ListUnits.{spread-kept}
use Rattle.rules.specs.Model.{blocks_of}
use Rattle.rules.specs.Rooms.{pairs_of}
use Rattle.rules.specs.Batch.{Change}
use Rattle.rules.specs.declared.Sizes.{Sizes}
use Rattle.words.specs.Words.{variable_in, state_in}
use Rattle.laws.specs.model.ModelLeaners.{leaners_of}
use Rattle.engine_table.specs.Table.{table_in, model_of, Drawn, waiter}
use Rattle.engine_own.specs.Pairs.{pair-low}
use Rattle.engine_rows.specs.Rooms.{Bits, Packed, pile_in}
use Rattle.engine_turn.specs.Scene.{Bounded}
use Rattle.engine_table.specs.Sketch.{sketch}
use Rattle.engine_turn.specs.Turns.{Visit, ask_of, visited, FromValue, Round, RoomFor, Turned}
use Rattle.engine_table.specs.Sketch.{Sketched}
use Rattle.engine_phase.specs.Course.{on-vals, on-marks, on-bits, on-queue, on_room}
use Rattle.engine_phase.specs.Phase.{Somewhere, Leads, leads-on, leads-turned, front-value, front-bounded, front-from, front-room, job_in}
use Rattle.engine_phase.specs.Levels.{trues_in, Counted, counted_none, counted-turn, counted-on}

-- The lists of a phase in which all rows have been looked at and the queue is read from `front` on.
abbrev pub job_of : Sizes → ℕ → Bool → ℕ → Round → ℕ → Job
job_of z block settling front a other = job_in z block settling (pairs_of z) a.values a.marks a.queue front a.tail a.visits other

-- If a pair waits in front, it has the value `from`.
abbrev pub FrontFrom : Sizes → ℕ → ℕ → Round → Type 0
FrontFrom z from front a = front < a.tail → from ≡ get_or a.values (waiter z (get_or a.queue front 0)) 0

-- Whatever the labels, the changes and the block: each update that has the lists of a, read from `front` on, on its course has those
-- of b, read from `end` on, on it.
abbrev pub LeadsOn : Sizes → List ℕ → List ℕ → Bool → ℕ → ℕ → Round → Round → Type 0
LeadsOn z equations moves settling front end a b =
    (labels : List ℕ) (changes : List Change) (block : ℕ) → Drawn (table_in z labels equations moves) → block < blocks_of (model_of (table_in z labels equations moves))
    → Leads (table_in z labels equations moves) changes (job_of z block settling front a) (job_of z block settling end b)

-- Pairs wait from `front` on: with some labels the table is drawn, the lists are on the course of an update by some changes in
-- some block, and the pair in front has the value from which all turn.
pub record Waiting (z : Sizes) (equations moves : List ℕ) (settling : Bool) (from front : ℕ) (a : Round) : Type 0 where
  pub labels : List ℕ
  pub changes : List Change
  pub block : ℕ
  pub drawn : Drawn (table_in z labels equations moves)
  pub low : block < blocks_of (model_of (table_in z labels equations moves))
  pub on : Somewhere (table_in z labels equations moves) changes (job_of z block settling front a)
  pub before : front ≤ a.tail
  pub packed : Packed z a.queue a.tail
  pub value : FrontFrom z from front a

-- From a to b the pairs turned that waited from `front` to `end`, each from the value `from`: lists on a course stay on it, and what
-- waits behind them stands for pairs and turns from the same value.
pub record Rounded (z : Sizes) (equations moves : List ℕ) (settling : Bool) (from front end : ℕ) (a b : Round) : Type 0 where
  pub onward : front ≤ end
  pub before : end ≤ b.tail
  pub grown : a.tail ≤ b.tail
  pub packed : Packed z b.queue b.tail
  pub value : FrontFrom z from end b
  pub counted : Counted from (end - front) (trues_in z a.values) (trues_in z b.values)
  pub leads : LeadsOn z equations moves settling front end a b

module _ {z : Sizes} {equations moves : List ℕ} {settling : Bool} {from front : ℕ} {a : Round} (w : Waiting z equations moves settling from front a) where
  -- At first nothing has turned.
  pub round-none : Rounded z equations moves settling from front front a a
  round-none = record {
    onward = omega arith;
    before = w.before;
    grown = omega arith;
    packed = w.packed;
    value = w.value;
    counted = subst (λ (n : ℕ). Counted from n (trues_in z a.values) (trues_in z a.values)) (let e : 0 ≡ front - front = omega arith in e) (counted_none from (trues_in z a.values));
    leads = λ labels changes block dr low vs other o. o;
  }

  -- The pairs behind a round wait.
  pub waiting-on : (end : ℕ) (b : Round) → Rounded z equations moves settling from front end a b → Waiting z equations moves settling from end b
  waiting-on end b r = record {
    labels = w.labels;
    changes = w.changes;
    block = w.block;
    drawn = w.drawn;
    low = w.low;
    on = leads-on (r.leads w.labels w.changes w.block w.drawn w.low) w.on;
    before = r.before;
    packed = r.packed;
    value = r.value;
  }

  -- The lists that are on the course.
  abbrev here : Job
  here = job_of z w.block settling front a w.on.index

  -- What a turn asks for: the equations and the moves are those of a model, values and marks are as long as there are pairs, and the
  -- values are bits.
  pub waiting-sketched : Sketched z equations moves
  waiting-sketched = record { labels = w.labels; drawn = w.drawn }

  pub waiting-values : length a.values ≡ pairs_of z
  waiting-values = on-vals w.drawn here w.on.on

  pub waiting-marks : length a.marks ≡ pairs_of z
  waiting-marks = on-marks w.drawn here w.on.on

  pub waiting-bits : Bits a.values
  waiting-bits = on-bits w.drawn here w.on.on

  -- And where a pair waits in front: it has the value that pairs turn from, the counts stay small, and the queue has places for all
  -- that come to wait.
  module _ (waits : front < a.tail) where
    pub waiting-from : FromValue (sketch z equations moves) settling a.values (get_or a.queue front 0)
    waiting-from =
        front-value w.drawn w.changes w.block settling w.low (pairs_of z) (omega arith) a.values a.marks a.queue front a.tail a.visits waits w.packed w.on

    pub waiting-bounded : Bounded a.tail a.visits (leaners_of (model_of (sketch z equations moves)) (waiter z (get_or a.queue front 0)))
    waiting-bounded =
        front-bounded w.drawn w.changes w.block settling w.low (pairs_of z) (omega arith) a.values a.marks a.queue front a.tail a.visits waits w.on

    pub waiting-room : RoomFor z equations moves settling front (get_or a.queue front 0) a
    waiting-room =
        let e = on-queue w.drawn here w.on.on in
        let k = length-map a.queue (waiter z) in
        front-room w.drawn w.changes w.block settling w.low (pairs_of z) (omega arith) a.values a.marks a.queue front a.tail a.visits waits (omega arith) w.on

    -- No more wait than there are pairs.
    pub waiting_few : a.tail ≤ pairs_of z
    waiting_few = on_room w.drawn here w.on.on waits

    -- The pair in front turns.
    module _ (b : Round) (made : Turned z equations moves settling front (get_or a.queue front 0) a b) where
      -- The queue ends no earlier.
      turn-tail : a.tail ≤ b.tail
      unfolding visited
      turn-tail =
          let m = model_of (table_in z w.labels equations moves) in
          let e = ap (λ (v : Visit). v.pile.tail) (made.visits w.labels w.drawn) in
          let k = (spread-kept (free settling) (next_mark settling) (ask_of m settling b.values) (leaners_of m (waiter z (get_or a.queue front 0))) (pile_in z a.marks a.queue (suc front) a.tail)).tail in
          omega arith

      -- What it leaves is on the course.
      turn-leads : LeadsOn z equations moves settling front (front + 1) a b
      turn-leads labels changes block dr low =
          leads-turned dr changes block settling low (pairs_of z) (omega arith) a.values a.marks a.queue front a.tail a.visits waits b.values b.marks b.queue b.tail b.visits made

      -- The next turns from the same value.
      turn-value : FrontFrom z from (front + 1) b
      turn-value waits' =
          let on = leads-on (turn-leads w.labels w.changes w.block w.drawn w.low) w.on in
          let bits = on-bits w.drawn (job_of z w.block settling (front + 1) b on.index) on.on in
          w.value waits
          ∙ front-from w.drawn w.changes w.block settling w.low (pairs_of z) (omega arith) a.values a.marks a.queue front a.tail a.visits waits waiting-bits w.on
          ∙ sym (front-from w.drawn w.changes w.block settling w.low (pairs_of z) (omega arith) b.values b.marks b.queue (front + 1) b.tail b.visits waits' bits on)

      -- One pair has turned.
      turn-counted : Counted from (front + 1 - front) (trues_in z a.values) (trues_in z b.values)
      turn-counted =
          let v = get_or a.queue front 0 in
          let pair = w.packed front waits in
          let inside = pair-low z (variable_in v) (state_in v) pair.0 pair.1 in
          let long = waiting-values in
          subst (λ (n : ℕ). Counted from n (trues_in z a.values) (trues_in z b.values)) (let e : 1 ≡ front + 1 - front = omega arith in e)
          (subst (λ (vs : List ℕ). Counted from 1 (trues_in z a.values) (trues_in z vs)) (sym made.values)
          (counted-turn z a.values from (waiter z v) (w.value waits) inside (omega arith)))

      -- That is a round of one pair.
      pub round-one : Rounded z equations moves settling from front (front + 1) a b
      round-one = record {
        onward = omega arith;
        before = let h = turn-tail in omega arith;
        grown = turn-tail;
        packed = made.packed;
        value = turn-value;
        counted = turn-counted;
        leads = turn-leads;
      }

-- A round and one that begins where it ends are a round.
pub rounds-on : {z : Sizes} {equations moves : List ℕ} {settling : Bool} {from front m end : ℕ} {a b c : Round}
    → Rounded z equations moves settling from front m a b → Rounded z equations moves settling from m end b c → Rounded z equations moves settling from front end a c
rounds-on {z} {equations} {moves} {settling} {from} {front} {m} {end} {a} {b} {c} r s = record {
  onward = let h = r.onward in let k = s.onward in omega arith;
  before = s.before;
  grown = let h = r.grown in let k = s.grown in omega arith;
  packed = s.packed;
  value = s.value;
  counted = counted-on from front m end (trues_in z a.values) (trues_in z b.values) (trues_in z c.values) r.onward s.onward r.counted s.counted;
  leads = λ labels changes block dr low vs other o. s.leads labels changes block dr low vs other (r.leads labels changes block dr low vs other o);
}

-- From the first place on, as many turn as the place where the round ends.
pub round-counted : {z : Sizes} {equations moves : List ℕ} {settling : Bool} {from end : ℕ} {a b : Round}
    → Rounded z equations moves settling from 0 end a b → Counted from end (trues_in z a.values) (trues_in z b.values)
round-counted {z} {from = from} {end = end} {a = a} {b = b} r =
    subst (λ (n : ℕ). Counted from n (trues_in z a.values) (trues_in z b.values)) (let e : end - 0 ≡ end = omega arith in e) r.counted
