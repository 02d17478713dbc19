-- What the steps of a phase leave, as code has it: the lists that rooms and numbers stand for, and what leads from lists on a
-- course to lists on it. Assumes nothing.
use Rattle.std.specs.Prelude.{◌≡◌, refl, Bool, true, false, not, cond, List, [], ◌++◌, map, get_or, set, ltb}
use Rattle.std.proofs.Common.{sym, ap, ◌∙◌, inl, inr, append-nil, arith}
use Rattle.std.proofs.Math.Path.{subst}
use Prim.Native.Nat.{ℕ, zero, suc, ◌+◌, ◌*◌, ◌≤◌, ◌<◌}
use Rattle.std.proofs.Math.ListN.{length, get_or-map}
use Rattle.std.proofs.lemmas.List.{length-map, set-get_or}
use Rattle.lists.specs.Lists.{bit}
use Rattle.lists.specs.Tests.{tell, ltb-out, ltb_no}
use Rattle.systems.specs.machine.Machine.{own, free, next_mark, asks}
use Rattle.systems.specs.lists.ListMachine.{val_of, turned, marks_in, between, Pile, spread_l, Job}
use Rattle.systems.specs.lists.ListUnits.{spread-kept}
use Rattle.systems.specs.lists.Places.{next_phase}
use Rattle.systems.specs.lists.Rows.{hits, row_marks}
use Rattle.rules.specs.Model.{blocks_of}
use Rattle.rules.specs.Rooms.{pairs_of}
use Rattle.rules.specs.Batch.{Change}
use Rattle.rules.specs.declared.Sizes.{Sizes}
use Rattle.rules.specs.Calls.{value_at}
use Rattle.rules.specs.Values.{leanings}
use Rattle.words.specs.Words.{variable_in, state_in}
use Rattle.laws.specs.model.ModelSystem.{frame}
use Rattle.laws.specs.model.ModelLeaners.{leaners_of}
use Rattle.laws.specs.model.LookTest.{look_test}
use Rattle.engine_table.specs.Table.{Table, model_of, Drawn, word_at, own_in, waiter}
use Rattle.engine_table.specs.EquationWords.{own-word}
use Rattle.engine_table.specs.Limits.{limits, pairs-few}
use Rattle.engine_rows.specs.Rooms.{Bits, Packed, pile_in}
use Rattle.engine_rows.specs.Queued.{hits-none}
use Rattle.engine_turn.specs.Scene.{Bounded}
use Rattle.engine_table.specs.Sketch.{sketch}
use Rattle.engine_turn.specs.Turns.{Visit, visited, RoomFor, Turned, round_of}
use Rattle.engine_turn.specs.TurnRuns.{bit-of, leaners-same}
use Rattle.engine_phase.specs.LeanersFew.{most_leaners, leaners-few}
use Rattle.engine_phase.specs.Course.{On, on_room, on_row, on-pass, on-over, on-turning, on-turn, on-few}

-- The lists in a phase of a block: the place of the next look, the rooms, the queue's ends, and the visits of this phase's kind and
-- of the other kind.
abbrev pub job_in : Sizes → ℕ → Bool → ℕ → List ℕ → List ℕ → List ℕ → ℕ → ℕ → ℕ → ℕ → Job
job_in z block settling place values marks queue from tail visits other = record {
  block = block;
  settling = settling;
  place = place;
  vals = values;
  pile = pile_in z marks queue from tail;
  shift_visits = cond settling other visits;
  settle_visits = cond settling visits other;
}

-- Some update has these lists on its course, for some of the numbers that they leave open.
pub record Somewhere {I : Type 0} (t : Table) (cs : List Change) (a : I → Job) : Type 0 where
  pub start : List ℕ
  pub index : I
  pub on : On t cs start (a index)

-- Each update that has the lists a on its course has the lists b on it.
abbrev pub Leads : {I : Type 0} → Table → List Change → (I → Job) → (I → Job) → Type 0
Leads {I} t cs a b = (vs : List ℕ) (i : I) → On t cs vs (a i) → On t cs vs (b i)

pub leads-on : {I : Type 0} {t : Table} {cs : List Change} {a b : I → Job} → Leads t cs a b → Somewhere t cs a → Somewhere t cs b
leads-on f s = record { start = s.start; index = s.index; on = f s.start s.index s.on }

-- What a look at a row of n pairs, from the pair p on, leaves of marks and queue, where f says which pairs must turn.
pub record RowLeft (z : Sizes) (f : ℕ → Bool) (settling : Bool) (p n : ℕ) (marks₀ queue₀ : List ℕ) (tail₀ : ℕ) (marks queue : List ℕ) (tail : ℕ) : Type 0 where
  pub marks_are : marks ≡ row_marks f (next_mark settling) p n marks₀
  pub tail_is : tail ≡ tail₀ + length (hits f p n)
  pub waits : between (map (waiter z) queue) 0 tail ≡ between (map (waiter z) queue₀) 0 tail₀ ++ hits f p n
  pub packed : Packed z queue tail

module _ (f : ℕ → Bool) (next : ℕ → ℕ) (p : ℕ) where
  marks-none : (n : ℕ) (ms : List ℕ) → ((s : ℕ) → s < n → f (p + s) ≡ false) → row_marks f next p n ms ≡ ms
  marks-none zero ms h = refl
  marks-none (suc n) ms h =
      let l = row_marks f next p n ms in
      ap (λ (b : Bool). set l (p + n) (cond b (next (get_or l (p + n) 0)) (get_or l (p + n) 0))) (h n (omega arith))
      ∙ set-get_or l (p + n) 0 ∙ marks-none n ms (λ s k. h s (omega arith))

-- Where none must turn, a row leaves all as it was.
pub row-none : (z : Sizes) (f : ℕ → Bool) (settling : Bool) (p n : ℕ) (marks queue : List ℕ) (tail : ℕ) → ((s : ℕ) → s < n → f (p + s) ≡ false) → Packed z queue tail
    → RowLeft z f settling p n marks queue tail marks queue tail
row-none z f settling p n marks queue tail h packed = record {
  marks_are = sym (marks-none f (next_mark settling) p n marks h);
  tail_is = let e = ap length (hits-none f p n h) in omega arith;
  waits = sym (ap (λ (l : List ℕ). between (map (waiter z) queue) 0 tail ++ l) (hits-none f p n h) ∙ append-nil (between (map (waiter z) queue) 0 tail));
  packed = packed;
}

module _ {t : Table} (dr : Drawn t) (cs : List Change) (i : ℕ) (ph : Bool) (low : i < blocks_of (model_of t)) (y : ℕ) (lt : y < t.sizes.variables)
    (values marks queue : List ℕ) (tail : ℕ) where
  -- The lists where the row of y is next, and where it has been looked at.
  abbrev at : ℕ × ℕ → Job
  at v = job_in t.sizes i ph (y * t.sizes.states) values marks queue 0 tail v.0 v.1

  abbrev behind : List ℕ → List ℕ → ℕ → ℕ × ℕ → Job
  behind marks queue tail v = job_in t.sizes i ph ((y + 1) * t.sizes.states) values marks queue 0 tail v.0 v.1

  -- The row of a variable of another block is passed by.
  pub leads-pass : ((word_at t y).block ≡ i → ⊥) → Leads t cs at (behind marks queue tail)
  leads-pass other vs v o =
      subst (λ (k : ℕ). On t cs vs (job_in t.sizes i ph k values marks queue 0 tail v.0 v.1)) (let e : y * t.sizes.states + t.sizes.states ≡ (y + 1) * t.sizes.states = omega arith in e)
      (on-pass dr (at v) o y lt low refl refl other)

  -- The row of a variable of the block is looked at.
  pub leads-row : (word_at t y).block ≡ i → (marks' queue' : List ℕ) (tail' : ℕ) → length queue' ≡ length queue → pairs_of t.sizes ≤ length queue
      → RowLeft t.sizes (look_test (model_of t) cs ph (val_of values) (marks_in marks)) ph (y * t.sizes.states) t.sizes.states marks queue tail marks' queue' tail'
      → Leads t cs at (behind marks' queue' tail')
  leads-row own marks' queue' tail' long room left vs v o =
      subst (λ (k : ℕ). On t cs vs (job_in t.sizes i ph k values marks' queue' 0 tail' v.0 v.1)) (let e : y * t.sizes.states + t.sizes.states ≡ (y + 1) * t.sizes.states = omega arith in e)
      (on_row dr (at v) o y lt low refl refl own (look_test (model_of t) cs ph (val_of values) (marks_in marks)) (λ s h. refl) marks' (map (waiter t.sizes) queue') tail'
      left.marks_are left.tail_is (let e = length-map queue' (waiter t.sizes) in omega arith) left.waits)

-- The block of the next phase: after settling, the next.
abbrev pub block_after : Bool → ℕ → ℕ
block_after false i = i
block_after true i = i + 1

-- A phase in which nothing waits any more leads to the next.
pub leads-over : {t : Table} (dr : Drawn t) (cs : List Change) (i : ℕ) (ph : Bool) → i < blocks_of (model_of t) → (place : ℕ) → pairs_of t.sizes ≤ place
    → (values marks queue : List ℕ) (from tail visits : ℕ) → tail ≤ from
    → Leads t cs (λ other. job_in t.sizes i ph place values marks queue from tail visits other)
    (λ other. job_in t.sizes (block_after ph i) (not ph) 0 values marks queue 0 0 other visits)
leads-over {t} dr cs i ph low place past values marks queue from tail visits h vs other o =
    subst (On t cs vs) (same ph) (on-over dr (job_in t.sizes i ph place values marks queue from tail visits other) o low past h)
  where
    same : (b : Bool) → next_phase (job_in t.sizes i b place values marks queue from tail visits other) ≡ job_in t.sizes (block_after b i) (not b) 0 values marks queue 0 0 other visits
    same true = ap (λ (k : ℕ). job_in t.sizes k false 0 values marks queue 0 0 other visits) (let e : suc i ≡ i + 1 = omega arith in e)
    same false = refl

-- All rows have been looked at, and the pair at `front` turns.
module _ {t : Table} (dr : Drawn t) (cs : List Change) (i : ℕ) (ph : Bool) (low : i < blocks_of (model_of t)) (place : ℕ) (past : pairs_of t.sizes ≤ place)
    (values marks queue : List ℕ) (front tail visits : ℕ) (waits : front < tail) where
  -- The lists, and the pair in front.
  abbrev turning : ℕ → Job
  turning other = job_in t.sizes i ph place values marks queue front tail visits other

  abbrev word : ℕ
  word = get_or queue front 0

  abbrev pair_of : ℕ
  pair_of = waiter t.sizes word

  -- The machine has the same pair in front.
  front-is : get_or (map (waiter t.sizes) queue) front 0 ≡ pair_of
  front-is =
      let z : waiter t.sizes 0 ≡ 0 = omega arith in
      ap (λ (x : ℕ). get_or (map (waiter t.sizes) queue) front x) (sym z) ∙ get_or-map (waiter t.sizes) queue front 0

  -- It has the value that pairs turn from.
  pub front-value : Packed t.sizes queue tail → Somewhere t cs turning → value_at values pair_of ≡ cond ph (own_in t (variable_in word)) (not (own_in t (variable_in word)))
  front-value packed s =
      let p = packed front waits in
      let e = front-is in
      let v = (on-turning dr (turning s.index) s.on low past waits).value in
      ap (value_at values) (sym e) ∙ v
      ∙ ap (λ (b : Bool). cond ph b (not b)) (ap (own (frame (model_of t))) e ∙ own-word dr (variable_in word) (state_in word) p.0 p.1)

  -- It turns, and who leans on it is visited.
  pub leads-turn : (values' marks' queue' : List ℕ) (tail' visits' : ℕ) → values' ≡ set values pair_of (turned (get_or values pair_of 0))
      → pile_in t.sizes marks' queue' (suc front) tail'
      ≡ spread_l (free ph) (next_mark ph) (asks (frame (model_of t)) (leanings (model_of t)) ph (val_of values')) (leaners_of (model_of t) pair_of) (pile_in t.sizes marks queue (suc front) tail)
      → visits' ≡ visits + length (leaners_of (model_of t) pair_of)
      → Leads t cs turning (λ other. job_in t.sizes i ph place values' marks' queue' (front + 1) tail' visits' other)
  leads-turn values' marks' queue' tail' visits' is-values is-pile is-visits vs other o =
      let e = front-is in
      let n : length (leaners_of (model_of t) (get_or (map (waiter t.sizes) queue) front 0)) ≡ length (leaners_of (model_of t) pair_of) = ap (λ (p : ℕ). length (leaners_of (model_of t) p)) e in
      subst (λ (k : ℕ). On t cs vs (job_in t.sizes i ph place values' marks' queue' k tail' visits' other)) (let e : suc front ≡ front + 1 = omega arith in e)
      (on-turn dr (turning other) o low past waits values' (pile_in t.sizes marks' queue' (suc front) tail') (cond ph other visits') (cond ph visits' other)
      (is-values ∙ ap (λ (p : ℕ). set values p (turned (get_or values p 0))) (sym e))
      (is-pile ∙ ap (λ (p : ℕ). spread_l (free ph) (next_mark ph) (asks (frame (model_of t)) (leanings (model_of t)) ph (val_of values')) (leaners_of (model_of t) p) (pile_in t.sizes marks queue (suc front) tail)) (sym e))
      (counts (length (leaners_of (model_of t) (get_or (map (waiter t.sizes) queue) front 0))) ph (is-visits ∙ ap (λ (k : ℕ). visits + k) (sym n))).0 (counts (length (leaners_of (model_of t) (get_or (map (waiter t.sizes) queue) front 0))) ph (is-visits ∙ ap (λ (k : ℕ). visits + k) (sym n))).1)
    where
      counts : (k : ℕ) (b : Bool) → visits' ≡ visits + k → (cond b other visits' ≡ cond b other visits + cond b 0 k) × (cond b visits' other ≡ cond b visits other + cond b k 0)
      counts k true h = (omega arith, h)
      counts k false h = (h, omega arith)

  -- The numbers that a turn counts stay far below what they can hold.
  pub front-few : Somewhere t cs turning
      → (tail + length (leaners_of (model_of t) pair_of) < 4294967296) × (visits + length (leaners_of (model_of t) pair_of) < 4294967296)
  front-few s =
      let l = limits dr in
      let k = leaners-few (model_of t) pair_of (omega arith) (omega arith) in
      let p = pairs-few dr in
      let r = on_room dr (turning s.index) s.on waits in
      let f = few s.index ph (on-few dr (turning s.index) s.on) in
      (omega arith, omega arith)
    where
      few : (other : ℕ) (b : Bool) → (cond b other visits + most_leaners < 4294967296) × (cond b visits other + most_leaners < 4294967296) → visits + most_leaners < 4294967296
      few other true h = h.1
      few other false h = h.0

  -- The same, as a turn asks for it: whatever the labels.
  pub front-bounded : Somewhere t cs turning → Bounded tail visits (leaners_of (model_of (sketch t.sizes t.equations t.moves)) pair_of)
  front-bounded s = subst (Bounded tail visits) (leaners-same t.sizes t.labels [] t.equations t.moves pair_of) (front-few s)

  -- All pairs of the block turn from the same value.
  pub front-from : Bits values → Somewhere t cs turning → get_or values pair_of 0 ≡ bit (cond ph ((frame (model_of t)).great i) (not ((frame (model_of t)).great i)))
  front-from bits s =
      let f = on-turning dr (turning s.index) s.on low past waits in
      bit-of (get_or values pair_of 0) (bits pair_of)
      ∙ ap bit (ap (value_at values) (sym front-is) ∙ f.value ∙ ap (λ (b : ℕ). cond ph ((frame (model_of t)).great b) (not ((frame (model_of t)).great b))) f.here)

  -- The queue has places for all that come to wait.
  pub front-room : pairs_of t.sizes ≤ length queue → Somewhere t cs turning → RoomFor t.sizes t.equations t.moves ph front word (round_of values marks queue tail visits)
  unfolding visited
  front-room room s = record { labels = t.labels; drawn = dr; room = subst (λ (p : ℕ). (after p).tail ≤ length queue) front-is few }
    where
      after : ℕ → Pile
      after p = spread_l (free ph) (next_mark ph) (asks (frame (model_of t)) (leanings (model_of t)) ph (val_of (set values p (turned (get_or values p 0))))) (leaners_of (model_of t) p)
          (pile_in t.sizes marks queue (suc front) tail)

      few : (after (get_or (map (waiter t.sizes) queue) front 0)).tail ≤ length queue
      few =
          let p = get_or (map (waiter t.sizes) queue) front 0 in
          let o = on-turn dr (turning s.index) s.on low past waits _ (after p) _ _ refl refl refl refl in
          let r = on_room dr (turning s.index) s.on waits in
          let f = (spread-kept (free ph) (next_mark ph) (asks (frame (model_of t)) (leanings (model_of t)) ph (val_of (set values p (turned (get_or values p 0))))) (leaners_of (model_of t) p)
          (pile_in t.sizes marks queue (suc front) tail)).from in
          elim (tell true (ltb (after p).from (after p).tail)) [
            | inl e ↦ let h = on_room dr _ o (ltb-out (after p).from (after p).tail e) in omega arith
            | inr e ↦ let h = (ltb_no (after p).from (after p).tail).0 e in omega arith
          ]

  -- What a turn leaves is on the course.
  pub leads-turned : (values' marks' queue' : List ℕ) (tail' visits' : ℕ)
      → Turned t.sizes t.equations t.moves ph front word (round_of values marks queue tail visits) (round_of values' marks' queue' tail' visits')
      → Leads t cs turning (λ other. job_in t.sizes i ph place values' marks' queue' (front + 1) tail' visits' other)
  unfolding visited
  leads-turned values' marks' queue' tail' visits' made =
      let e = made.visits t.labels dr in
      leads-turn values' marks' queue' tail' visits' made.values (ap (λ (v : Visit). v.pile) e) (ap (λ (v : Visit). v.visits) e)
