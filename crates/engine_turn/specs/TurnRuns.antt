-- A turn as code makes it is a turn of the machine, whatever the labels. Assumes nothing.
use Rattle.std.specs.Prelude.{◌≡◌, refl, Bool, true, false, not, cond, List, [], ◌++◌, ℕ, zero, suc, ◌-◌, ◌/◌, ◌%◌, ◌≤◌, ◌<◌, length, get_or, set, eqb}
use Rattle.std.proofs.Common.{sym, ap, ap₂, ◌∙◌, subst, arith, get_or-set_same, get_or-set_other}
use Rattle.std.proofs.Math.Decide.{ℕ_discrete}
use Rattle.std.proofs.lemmas.List.{length-map}
use Rattle.lists.specs.Lists.{bit}
use Rattle.lists.specs.Tests.{◌∈◌}
use Rattle.systems.specs.machine.Leaners.{found-out}
use Rattle.systems.specs.machine.Machine.{free, next_mark}
use Rattle.systems.specs.lists.ListMachine.{turned}
use Rattle.systems.specs.lists.ListUnits.{spread-kept}
use Rattle.rules.specs.Rooms.{pairs_of}
use Rattle.rules.specs.Calls.{value_at}
use Rattle.rules.specs.Values.{leanings, Term, constant, proposition, join, step, state, variable, term_of, equation_at}
use Rattle.rules.specs.Model.{Model}
use Rattle.rules.specs.declared.Sizes.{Sizes}
use Rattle.words.specs.Words.{variable_in, state_in}
use Rattle.laws.specs.model.ModelSystem.{frame, pairs-full}
use Rattle.laws.specs.model.ModelLeaners.{leaners_via, leaners_to, leaners_of, model-finds}
use Rattle.engine_table.specs.Table.{Table, table_in, model_of, Drawn, word_at, own_in, pair_in, waiter}
use Rattle.engine_table.specs.EquationWords.{drawn-sound, own-word, pair_inside}
use Rattle.engine_rows.specs.Rooms.{Bits, Packed, pile_in}
use Rattle.engine_turn.specs.Scene.{Scene, scene_of, asks_for, Line, line_of, visit_all, leaners_in, Bounded, Room}
use Rattle.engine_table.specs.Sketch.{sketch}
use Rattle.engine_own.specs.Pairs.{pair-low}
use Rattle.engine_turn.specs.Turns.{Visit, ask_of, visited, FromValue, Round, round_of, visit_in, RoomFor, Turned}
use Rattle.engine_table.specs.Sketch.{Sketched}
use Rattle.engine_turn.specs.PileVisits.{run-visited, all-packed}
use Rattle.engine_turn.specs.LeanersFound.{leaners-found}
use Rattle.engine_turn.specs.LeanersInside.{in_map, leaners-stand}
use Rattle.engine_turn.specs.LeanersAsk.{ask-shift, ask-settle}

-- A bit turned round.
pub turned_bit : (v : ℕ) → v ≤ 1 → 1 - v ≡ turned v
turned_bit zero h = refl
turned_bit (suc zero) h = refl
turned_bit (suc (suc v)) h = absurd (omega arith)

turned-low : (v : ℕ) → turned v ≤ 1
turned-low v = go (eqb v 1)
  where
    go : (b : Bool) → cond b 0 1 ≤ 1
    go true = omega arith
    go false = omega arith

turned-is : (v : ℕ) → eqb (turned v) 1 ≡ not (eqb v 1)
turned-is v = go (eqb v 1)
  where
    go : (b : Bool) → eqb (cond b 0 1) 1 ≡ not b
    go true = refl
    go false = refl

pub bit-of : (v : ℕ) → v ≤ 1 → v ≡ bit (eqb v 1)
bit-of zero h = refl
bit-of (suc zero) h = refl
bit-of (suc (suc v)) h = absurd (omega arith)

-- Bits stay bits where one is set.
bits-set : (l : List ℕ) (i v : ℕ) → i < length l → v ≤ 1 → Bits l → Bits (set l i v)
bits-set l i v h k b j =
    elim (ℕ_discrete j i) [
      | yes e ↦ let f = get_or-set_same l i v 0 h in rw (e, f) k
      | no e ↦ let f = get_or-set_other l i j v 0 e in rw f (b j)
    ]

-- Who leans on a pair does not hang on the labels.
module _ (z : Sizes) (k l equations moves : List ℕ) where
  abbrev one : Model
  one = model_of (table_in z k equations moves)

  abbrev two : Model
  two = model_of (table_in z l equations moves)

  via-same : (y x s : ℕ) (e : Term) → leaners_via one (variable y) (variable x) (state s) e ≡ leaners_via two (variable y) (variable x) (state s) e
  via-same y x s (constant c) = refl
  via-same y x s (proposition c q) = refl
  via-same y x s (join c u w) = refl
  via-same y x s (step c a u) = refl

  to_same : (x s n : ℕ) → leaners_to one (variable x) (state s) n ≡ leaners_to two (variable x) (state s) n
  to_same x s zero = refl
  to_same x s (suc n) =
      ap₂ {C = List ℕ} (λ (a b : List ℕ). cond (eqb (equation_at one (variable n)).block (equation_at one (variable x)).block) a [] ++ b)
      (via-same n x s (term_of (equation_at one (variable n)))) (to_same x s n)

  pub leaners-same : (p : ℕ) → leaners_of one p ≡ leaners_of two p
  unfolding leaners_of
  leaners-same p = to_same (p / z.states) (p % z.states) z.variables

-- The pair of x and s turns: it has the value that pairs turn from in the phase.
module _ {t : Table} (d : Drawn t) (ph : Bool) (values : List ℕ) (bits : Bits values) (long : length values ≡ pairs_of t.sizes) (x s : ℕ)
    (hx : x < t.sizes.variables) (l : s < t.sizes.states) (value : value_at values (pair_in t.sizes x s) ≡ cond ph (own_in t x) (not (own_in t x))) where
  abbrev p : ℕ
  p = pair_in t.sizes x s

  abbrev from : ℕ
  from = get_or values p 0

  abbrev after : List ℕ
  after = set values p (turned from)

  abbrev scene : Scene
  scene = scene_of t.sizes t.equations t.moves after from

  abbrev leaners : List ℕ
  leaners = leaners_in t.sizes t.equations t.moves x s

  inside : p < length values
  inside = let k = pair_inside d x s hx l in omega arith

  after-bits : Bits after
  after-bits = bits-set values p (turned from) inside (turned-low from) bits

  -- What it turns from, and to.
  from_is : from ≡ bit (cond ph (own_in t x) (not (own_in t x)))
  from_is = bit-of from (bits p) ∙ ap bit value

  after_is : value_at after p ≡ not (cond ph (own_in t x) (not (own_in t x)))
  after_is = ap (λ (v : ℕ). eqb v 1) (get_or-set_same values p (turned from) 0 inside) ∙ turned-is from ∙ ap not value

  module _ (y q : ℕ) (hy : y < t.sizes.variables) (k : q < t.sizes.states) (m : pair_in t.sizes y q ∈ leaners_of (model_of t) p) where
    found : ((frame (model_of t)).block (pair_in t.sizes y q) ≡ (frame (model_of t)).block p) × (p ∈ leanings (model_of t) (pair_in t.sizes y q))
    found = found-out (model-finds (model_of t) (drawn-sound d)) p (pair_in t.sizes y q) (pairs-full (model_of t) (drawn-sound d) p (pair_inside d x s hx l)) m

    same-own : own_in t x ≡ own_in t y
    same-own = sym (own-word d x s hx l) ∙ ap (frame (model_of t)).great (sym found.0) ∙ own-word d y q hy k

    -- It must turn for code where it must for the machine.
    asks-same : 4 ≤ (word_at t y).operator → asks_for scene ph y q ≡ ask_of (model_of t) ph after (pair_in t.sizes y q)
    asks-same u = go ph from_is after_is
      where
        go : (b : Bool) → from ≡ bit (cond b (own_in t x) (not (own_in t x))) → value_at after p ≡ not (cond b (own_in t x) (not (own_in t x)))
            → asks_for scene b y q ≡ ask_of (model_of t) b after (pair_in t.sizes y q)
        go false f v =
            ap (λ (n : ℕ). asks_for (scene_of t.sizes t.equations t.moves after n) false y q) (f ∙ ap (λ (b : Bool). bit (not b)) same-own)
            ∙ ask-shift d after after-bits y q hy k u
        go true f v =
            ap (λ (n : ℕ). asks_for (scene_of t.sizes t.equations t.moves after n) true y q) (f ∙ ap bit same-own)
            ∙ ask-settle d after after-bits y q hy k u p found.1 (v ∙ ap not same-own)

  turn-asks : (w : ℕ) → w ∈ leaners → asks_for scene ph (variable_in w) (state_in w) ≡ ask_of (model_of t) ph after (waiter t.sizes w)
  turn-asks w m =
      let h = leaners-stand d x s w hx l m in
      asks-same (variable_in w) (state_in w) h.variable h.state (subst (λ (n : List ℕ). waiter t.sizes w ∈ n) (leaners-found d x s hx l) (in_map (waiter t.sizes) w m)) h.uses

  -- The run of visits is the machine's, and what waits stays packed.
  pub turn-visits : (front : ℕ) (v w : Line) → w ≡ visit_all scene ph leaners v
      → record { pile = pile_in t.sizes w.marks w.queue front w.tail; visits = w.visits }
      ≡ visited (model_of t) ph after (leaners_of (model_of t) p) (record { pile = pile_in t.sizes v.marks v.queue front v.tail; visits = v.visits })
  turn-visits front v w e =
      run-visited scene ph (model_of t) after front leaners v w e turn-asks
      ∙ ap (λ (n : List ℕ). visited (model_of t) ph after n (record { pile = pile_in t.sizes v.marks v.queue front v.tail; visits = v.visits })) (leaners-found d x s hx l)

  pub turn-packed : (v w : Line) → w ≡ visit_all scene ph leaners v → Packed t.sizes v.queue v.tail → Packed t.sizes w.queue w.tail
  turn-packed v w e h =
      subst (λ (u : Line). Packed t.sizes u.queue u.tail) (sym e)
      (all-packed scene ph leaners v (λ q m. let k = leaners-stand d x s q hx l m in (k.variable, k.state)) h)

-- As many numbers are met as pairs lean on the pair.
pub leaners-bounded : (z : Sizes) (labels equations moves : List ℕ) → Drawn (table_in z labels equations moves) → (x s tail visits : ℕ) → x < z.variables → s < z.states
    → Bounded tail visits (leaners_of (model_of (sketch z equations moves)) (pair_in z x s)) → Bounded tail visits (leaners_in z equations moves x s)
leaners-bounded z labels equations moves d x s tail visits hx l b =
    let e = sym (length-map (leaners_in z equations moves x s) (waiter z)) ∙ ap length (leaners-found d x s hx l ∙ leaners-same z labels [] equations moves (pair_in z x s)) in
    (omega (arith, b.0), omega (arith, b.1))

-- What waits stands in the queue.
pub front-held : (z : Sizes) (equations moves : List ℕ) (ph : Bool) (front w : ℕ) (a : Round) → RoomFor z equations moves ph front w a → a.tail ≤ length a.queue
unfolding visited
front-held z equations moves ph front w a r =
    let m = model_of (table_in z r.labels equations moves) in
    let values = set a.values (waiter z w) (turned (get_or a.values (waiter z w) 0)) in
    let k = (spread-kept (free ph) (next_mark ph) (ask_of m ph values) (leaners_of m (waiter z w)) (visit_in z (suc front) a).pile).tail in
    let h = r.room in
    omega arith

-- The pair in front of the queue as code has read it: its variable x, its state q and its place p.
pub record InFront (z : Sizes) (equations moves values queue : List ℕ) (tail front x q p : ℕ) : Type 0 where
  pub sketched : Sketched z equations moves
  pub bits : Bits values
  pub long : length values ≡ pairs_of z
  pub packed : Packed z queue tail
  pub waits : front < tail
  pub is_x : x ≡ variable_in (get_or queue front 0)
  pub is_q : q ≡ state_in (get_or queue front 0)
  pub is_p : p ≡ pair_in z x q

-- Its turn, as code makes it.
module _ {z : Sizes} {equations moves values queue : List ℕ} {tail front x q p : ℕ} (f : InFront z equations moves values queue tail front x q p) where
  abbrev top : ℕ
  top = get_or queue front 0

  p-top : p ≡ waiter z top
  p-top = f.is_p ∙ ap₂ {C = ℕ} (λ (m n : ℕ). pair_in z m n) f.is_x f.is_q

  -- It is a pair.
  pub x-inside : x < z.variables
  x-inside = let k = (f.packed front f.waits).0 in let e = f.is_x in omega arith

  pub q-inside : q < z.states
  q-inside = let k = (f.packed front f.waits).1 in let e = f.is_q in omega arith

  pub p-inside : p < length values
  p-inside = let k = pair-low z x q x-inside q-inside in let l = f.long in omega arith

  -- What code needs for the visits.
  pub turn-bounded : (visits : ℕ) → Bounded tail visits (leaners_of (model_of (sketch z equations moves)) (waiter z top)) → Bounded tail visits (leaners_in z equations moves x q)
  turn-bounded visits b =
      leaners-bounded z f.sketched.labels equations moves f.sketched.drawn x q tail visits x-inside q-inside
      (subst (λ (n : ℕ). Bounded tail visits (leaners_of (model_of (sketch z equations moves)) n)) (sym p-top ∙ f.is_p) b)

  -- What it turns from, and what the values become.
  module _ (ph : Bool) (value : FromValue (sketch z equations moves) ph values top) (from : ℕ) (is-from : from ≡ get_or values (waiter z top) 0) (marks : List ℕ) (visits : ℕ) where
    abbrev line : Line
    line = line_of marks queue tail visits

    become : set values p (1 - from) ≡ set values (waiter z top) (turned (get_or values (waiter z top) 0))
    become =
        ap (λ (n : ℕ). set values n (1 - from)) p-top ∙ ap (λ (n : ℕ). set values (waiter z top) (1 - n)) is-from
        ∙ ap (set values (waiter z top)) (turned_bit (get_or values (waiter z top) 0) (f.bits (waiter z top)))

    -- The visits are those of the pair in front.
    run : visit_all (scene_of z equations moves (set values p (1 - from)) from) ph (leaners_in z equations moves x q) line
        ≡ visit_all (scene_of z equations moves (set values (waiter z top) (turned (get_or values (waiter z top) 0))) (get_or values (waiter z top) 0)) ph
        (leaners_in z equations moves (variable_in top) (state_in top)) line
    run =
        ap₂ {C = Line} (λ (n : List ℕ) (k : ℕ). visit_all (scene_of z equations moves n k) ph (leaners_in z equations moves x q) line) become is-from
        ∙ ap₂ {C = Line} (λ (m n : ℕ). visit_all (scene_of z equations moves (set values (waiter z top) (turned (get_or values (waiter z top) 0))) (get_or values (waiter z top) 0)) ph
        (leaners_in z equations moves m n) line) f.is_x f.is_q

    -- The queue has places for all that come to wait.
    pub turn-room : RoomFor z equations moves ph front top (round_of values marks queue tail visits)
        → Room (scene_of z equations moves (set values p (1 - from)) from) ph (leaners_in z equations moves x q) line
    turn-room r =
        let e = ap (λ (v : Line). v.tail) run in
        let t = ap (λ (v : Visit). v.pile.tail) (turn-visits r.drawn ph values f.bits f.long (variable_in top) (state_in top) (f.packed front f.waits).0 (f.packed front f.waits).1 value (suc front) line _ refl) in
        let m = r.room in
        omega arith

    -- What it has done.
    pub turn-done : (marks' queue' : List ℕ) (tail' visits' : ℕ)
        → line_of marks' queue' tail' visits' ≡ visit_all (scene_of z equations moves (set values p (1 - from)) from) ph (leaners_in z equations moves x q) line
        → Turned z equations moves ph front top (round_of values marks queue tail visits) (round_of (set values p (1 - from)) marks' queue' tail' visits')
    turn-done marks' queue' tail' visits' e = record {
      values = become;
      packed = turn-packed f.sketched.drawn ph values f.bits f.long (variable_in top) (state_in top) (f.packed front f.waits).0 (f.packed front f.waits).1 value line
          (line_of marks' queue' tail' visits') (e ∙ run) f.packed;
      visits = λ labels d. turn-visits d ph values f.bits f.long (variable_in top) (state_in top) (f.packed front f.waits).0 (f.packed front f.waits).1 value (suc front) line
          (line_of marks' queue' tail' visits') (e ∙ run)
          ∙ ap (λ (n : List ℕ). visited (model_of (table_in z labels equations moves)) ph n (leaners_of (model_of (table_in z labels equations moves)) (waiter z top)) (visit_in z (suc front) (round_of values marks queue tail visits))) (sym become);
    }
