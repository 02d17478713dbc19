-- The step machine on lists, as code has it: values and marks by pair, a queue of the pairs that wait, and the place of the
-- next look. The test of a look is a parameter. Definitions only.
use Rattle.std.specs.Prelude.{◌≡◌, Bool, true, false, not, cond, ◌&&◌, List, [], ◌∷◌, ◌++◌, ℕ, zero, suc, ◌+◌, ◌-◌, ◌≤◌, ◌<◌, eqb, ltb, length, get_or, set, replicate}
use Rattle.systems.specs.solution.System.{Frame, Leans, Values}
use Rattle.systems.specs.machine.Worklist.{Waiting}
use Rattle.systems.specs.machine.Machine.{past, free, next_mark, asks, looks, Step, turns, State, pairs_from, looks_at, after}

-- The values that a list holds: 1 is true.
abbrev pub val_of : List ℕ → Values
val_of vs q = eqb (get_or vs q 0) 1

-- 0 for 1, and 1 for anything else.
abbrev pub turned : ℕ → ℕ
turned x = cond (eqb x 1) 0 1

-- The marks that a list holds.
abbrev pub marks_in : List ℕ → ℕ → ℕ
marks_in ks p = get_or ks p 0

-- The n entries of a list from the place a on.
abbrev pub between : List ℕ → ℕ → ℕ → List ℕ
between l a zero = []
between l a (suc n) = get_or l a 0 ∷ between l (suc a) n

-- The marks, and a queue: the pairs from the place `from` on, before `tail`, wait.
pub record Pile : Type 0 where
  pub marks : List ℕ
  pub queue : List ℕ
  pub from : ℕ
  pub tail : ℕ

-- The marks and the waiting pairs that these lists stand for.
abbrev pub pile_of : Pile → Waiting
pile_of h = record { marks = marks_in h.marks; queue = between h.queue h.from (h.tail - h.from) }

-- The pair r gets its next mark, and waits behind the others.
abbrev pub wait_l : (ℕ → ℕ) → ℕ → Pile → Pile
wait_l next r h = record { marks = set h.marks r (next (get_or h.marks r 0)); queue = set h.queue h.tail r; from = h.from; tail = suc h.tail }

-- The pair r waits, if its mark leaves it free and the test asks for it.
abbrev pub push_l : (ℕ → Bool) → (ℕ → ℕ) → (ℕ → Bool) → ℕ → Pile → Pile
push_l free next ask r h = cond (free (get_or h.marks r 0) && ask r) (wait_l next r h) h

-- Each pair of a list, in turn, waits if its mark leaves it free and the test asks for it.
abbrev pub spread_l : (ℕ → Bool) → (ℕ → ℕ) → (ℕ → Bool) → List ℕ → Pile → Pile
spread_l free next ask [] h = h
spread_l free next ask (r ∷ l) h = spread_l free next ask l (push_l free next ask r h)

-- An update on lists: the block, the phase and the pair of the next look, the values, the marks and the queue, and the
-- visits so far.
pub record Job : Type 0 where
  pub block : ℕ
  pub settling : Bool
  pub place : ℕ
  pub vals : List ℕ
  pub pile : Pile
  pub shift_visits : ℕ
  pub settle_visits : ℕ

-- What is left to do from the pair p of a phase of block i on, where k blocks are left, i the first of them.
unfoldable pub todo_at : Frame → ℕ → ℕ → Bool → ℕ → List Step
unfolding after
todo_at F i zero ph p = []
todo_at F i (suc k) ph p = looks_at ph (pairs_from F i p (F.pairs - p)) ++ (turns ph i ∷ after F ph i k)

-- The state of the machine that these lists stand for.
unfoldable pub job_of : Frame → Job → State
unfolding todo_at
job_of F c = record {
  todo = todo_at F c.block (F.blocks - c.block) c.settling c.place;
  val = val_of c.vals;
  held = pile_of c.pile;
  gone = c.pile.from;
  shift_visits = c.shift_visits;
  settle_visits = c.settle_visits;
}

-- A test that says of a pair whether it must turn when it is looked at, by the phase, the values and the marks.
abbrev pub Test : Type 0
Test = Bool → Values → (ℕ → ℕ) → ℕ → Bool

-- The test says what the machine's does, wherever a look can be in an update from `old`: there the old values can be told,
-- and while shifting, the pairs of the block and of later ones have them still.
abbrev pub Agrees : Frame → Leans → Leans → Values → Test → Type 0
Agrees F L M old test = (ph : Bool) (vs ks : List ℕ) (p : ℕ) → length vs ≡ F.pairs → length ks ≡ F.pairs → p < F.pairs
    → ((q : ℕ) → past F (val_of vs) (marks_in ks) q ≡ old q)
    → (ph ≡ false → (q : ℕ) → F.block p ≤ F.block q → val_of vs q ≡ old q)
    → test ph (val_of vs) (marks_in ks) p ≡ looks F L M ph (val_of vs) (marks_in ks) p

-- The first pair in the queue turns; the pairs that lean on it are visited, and those that must turn too wait.
unfoldable pub turn_l : Frame → Leans → (ℕ → List ℕ) → Job → Job
unfolding asks
turn_l F M on c =
    let h = c.pile in
    let q = get_or h.queue h.from 0 in
    let vs = set c.vals q (turned (get_or c.vals q 0)) in
    let ph = c.settling in
    record {
      block = c.block;
      settling = ph;
      place = c.place;
      vals = vs;
      pile = spread_l (free ph) (next_mark ph) (asks F M ph (val_of vs)) (on q) (record { marks = h.marks; queue = h.queue; from = suc h.from; tail = h.tail });
      shift_visits = c.shift_visits + cond ph 0 (length (on q));
      settle_visits = c.settle_visits + cond ph (length (on q)) 0;
    }

-- The pair at the place is looked at, and waits if it must turn.
unfoldable pub look_l : Test → Job → Job
look_l test c =
    let ph = c.settling in
    record {
      block = c.block;
      settling = ph;
      place = suc c.place;
      vals = c.vals;
      pile = push_l (free ph) (next_mark ph) (test ph (val_of c.vals) (marks_in c.pile.marks)) c.place c.pile;
      shift_visits = c.shift_visits;
      settle_visits = c.settle_visits;
    }

-- A place where a look can be: a block, a phase and a pair.
pub record Place : Type 0 where
  pub block : ℕ
  pub settling : Bool
  pub place : ℕ

-- The first pair of block i among p, p + 1, .., n of them; p + n where there is none.
abbrev pub next_pair : Frame → ℕ → ℕ → ℕ → ℕ
next_pair F i p zero = p
next_pair F i p (suc n) = let r = next_pair F i (suc p) n in cond (eqb (F.block p) i) p r

-- The first pair of block i from p on; the number of pairs where there is none.
abbrev pub pair_from : Frame → ℕ → ℕ → ℕ
pair_from F i p = next_pair F i p (F.pairs - p)

-- The block of the next phase.
abbrev pub next_block : Bool → ℕ → ℕ
next_block false i = i
next_block true i = suc i

-- The place of the next look from the pair p of a phase of block i on, where m phases are left and no pair waits.
abbrev pub seek : Frame → ℕ → ℕ → Bool → ℕ → Place
seek F zero i ph p = record { block = i; settling = ph; place = p }
seek F (suc m) i ph p =
    let r = pair_from F i p in
    let s = seek F m (next_block ph i) (not ph) 0 in
    cond (ltb r F.pairs) (record { block = i; settling = ph; place = r }) s

-- How many phases are left where k blocks are, in the first or the second phase of the first of them.
abbrev pub phases : ℕ → Bool → ℕ
phases k false = k + k
phases k true = k + k - 1

-- The update at another place, with other marks and another queue.
abbrev pub moved : Place → Pile → Job → Job
moved s h c = record {
  block = s.block;
  settling = s.settling;
  place = s.place;
  vals = c.vals;
  pile = h;
  shift_visits = c.shift_visits;
  settle_visits = c.settle_visits;
}

-- The queue from its first place on, and nothing waits.
abbrev pub emptied : Pile → Pile
emptied h = record { marks = h.marks; queue = h.queue; from = 0; tail = 0 }

-- The update at its next look or turn. Where pairs wait, that is the next look of the phase; the place past all pairs says
-- that only turns are left. Where none waits, it is the next look of this or a later phase, and the queue starts anew.
unfoldable pub seek_l : Frame → Job → Job
seek_l F c =
    cond (ltb c.pile.from c.pile.tail)
    (moved (record { block = c.block; settling = c.settling; place = pair_from F c.block c.place }) c.pile c)
    (moved (seek F (phases (F.blocks - c.block) c.settling) c.block c.settling c.place) (emptied c.pile) c)

-- A look, where the place is that of a pair, or else a turn.
abbrev pub step_l : Frame → Leans → Test → (ℕ → List ℕ) → Job → Job
step_l F M test on c = cond (ltb c.place F.pairs) (look_l test c) (turn_l F M on c)

-- One unit. The update is done where its block is past the last; then nothing happens.
abbrev pub unit_l : Frame → Leans → Test → (ℕ → List ℕ) → Job → Job
unit_l F M test on c = cond (ltb c.block F.blocks) (seek_l F (step_l F M test on c)) c

-- n units.
abbrev pub run_l : Frame → Leans → Test → (ℕ → List ℕ) → ℕ → Job → Job
run_l F M test on zero c = c
run_l F M test on (suc n) c = run_l F M test on n (unit_l F M test on c)

-- The lists at the first pair, with room for a queue.
abbrev pub first_l : Frame → List ℕ → List ℕ → Job
first_l F vs queue = record {
  block = 0;
  settling = false;
  place = 0;
  vals = vs;
  pile = record { marks = replicate F.pairs 0; queue = queue; from = 0; tail = 0 };
  shift_visits = 0;
  settle_visits = 0;
}

-- The lists before the first unit.
abbrev pub start_l : Frame → List ℕ → List ℕ → Job
start_l F vs queue = seek_l F (first_l F vs queue)
