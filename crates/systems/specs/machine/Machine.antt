-- The step machine that moves the values. Block after block it shifts and then settles; in each of these two phases it
-- first looks at every pair of the block, and then turns the pairs that wait, first come first served. A unit is one look
-- or one turn. Definitions only.
use Rattle.std.specs.Prelude.{◌≡◌, Bool, true, false, not, cond, ◌&&◌, List, [], ◌∷◌, ◌++◌, map, ℕ, zero, suc, ◌+◌, ◌<◌, eqb, ltb, length}
use Rattle.lists.specs.Lists.{is, count}
use Rattle.lists.specs.Sets.{none}
use Rattle.lists.specs.Counts.{times}
use Rattle.systems.specs.solution.System.{Frame, Leans, Values, ev, eval, shifts}
use Rattle.systems.specs.machine.Worklist.{Waiting, upd, push, spread}

-- The own value of the block that p is in.
abbrev pub own : Frame → ℕ → Bool
own F p = F.great (F.block p)

-- The value before the update, told from the own value of the block, the value and the mark: a pair that has no mark has
-- its value still, one with mark 1 or 2 had the other value, and one with mark 3 had the block's own.
abbrev pub past_of : Bool → Bool → ℕ → Bool
past_of b x zero = x
past_of b x (suc zero) = not b
past_of b x (suc (suc zero)) = not b
past_of b x (suc (suc (suc m))) = b

-- The values before the update, told from the values and the marks.
abbrev pub past : Frame → Values → (ℕ → ℕ) → Values
past F v m p = past_of (own F p) (v p) (m p)

-- The marks that leave a pair free to wait, while shifting (false) and while settling (true).
abbrev pub free : Bool → ℕ → Bool
free false m = eqb m 0
free true m = ltb m 2

-- The mark by which a pair waits: 1 to shift; 2 to settle where it has shifted, else 3.
abbrev pub next_mark : Bool → ℕ → ℕ
next_mark false m = 1
next_mark true m = cond (eqb m 0) 3 2

-- A pair r that leans on one that has just turned must turn too: while shifting, if it has the other value; while
-- settling, if it has the block's own value and its equation gives the other.
unfoldable pub asks : Frame → Leans → Bool → Values → ℕ → Bool
unfolding ev
asks F M false v r = is (not (own F r)) (v r)
asks F M true v r = is (own F r) (v r) && is (not (own F r)) (eval F M v r)

-- A pair p must turn when it is looked at: while shifting, if the rule asks for it before any pair of the block has
-- shifted; while settling, if its equation gives the other value.
unfoldable pub looks : Frame → Leans → Leans → Bool → Values → (ℕ → ℕ) → ℕ → Bool
unfolding asks shifts
looks F L M false v m p = shifts F L M (F.block p) (past F v m) v none p
looks F L M true v m p = asks F M true v p

-- What is left to do: a look at a pair, while shifting (false) or settling (true); or the turns of such a phase of a block,
-- once all its pairs have been looked at.
pub data Step : Type 0 where
  sight : Bool → ℕ → Step
  turns : Bool → ℕ → Step

-- The state of an update: what is left to do, the values, the marks and the pairs that wait, how many have turned in this
-- phase, and the visits so far.
pub record State : Type 0 where
  pub todo : List Step
  pub val : Values
  pub held : Waiting
  pub gone : ℕ
  pub shift_visits : ℕ
  pub settle_visits : ℕ

-- `on q` lists the pairs of q's block that lean on q, once for each leaning, in any order.
pub record Finds (F : Frame) (M : Leans) (on : ℕ → List ℕ) : Type 0 where
  pub counted : (q p : ℕ) → F.block q < F.blocks → times p (on q) ≡ count (λ r. eqb r q && eqb (F.block r) (F.block p)) (M p)

-- The pair q turns; the pairs that lean on it are visited, and those that must turn too wait.
unfoldable pub turn : Frame → Leans → (ℕ → List ℕ) → Bool → ℕ → List ℕ → State → State
unfolding asks
turn F M on ph q queue s =
    let v : Values = upd s.val q (not (s.val q)) in
    record {
      todo = s.todo;
      val = v;
      held = spread (free ph) (next_mark ph) (asks F M ph v) (on q) (record { marks = s.held.marks; queue = queue });
      gone = suc s.gone;
      shift_visits = s.shift_visits + cond ph 0 (length (on q));
      settle_visits = s.settle_visits + cond ph (length (on q)) 0;
    }

-- The pair p is looked at, and waits if it must turn.
unfoldable pub look : Frame → Leans → Leans → Bool → ℕ → List Step → State → State
unfolding looks
look F L M ph p todo s = record {
  todo = todo;
  val = s.val;
  held = push (free ph) (next_mark ph) (looks F L M ph s.val s.held.marks) p s.held;
  gone = s.gone;
  shift_visits = s.shift_visits;
  settle_visits = s.settle_visits;
}

-- A look or a turn, by what is left to do and the pairs that wait: all looks of a phase come before its turns, and of the
-- pairs that wait the first one turns.
abbrev pub next : Frame → Leans → Leans → (ℕ → List ℕ) → List Step → List ℕ → State → State
next F L M on (sight ph p ∷ todo) queue s = look F L M ph p todo s
next F L M on (turns ph i ∷ todo) (q ∷ queue) s = turn F M on ph q queue s
next F L M on (turns ph i ∷ todo) [] s = s
next F L M on [] queue s = s

-- Where nothing waits, turns are over at once: what is left from the next look on.
abbrev pub skip : List Step → List Step
skip (turns ph i ∷ todo) = skip todo
skip (sight ph p ∷ todo) = sight ph p ∷ todo
skip [] = []

-- The state in which that much is left to do, and none has turned in this phase.
abbrev pub left : List Step → State → State
left todo s = record { todo = todo; val = s.val; held = s.held; gone = 0; shift_visits = s.shift_visits; settle_visits = s.settle_visits }

-- Where nothing waits, the state goes on to the next look, by the pairs that wait.
abbrev pub tidy_by : List ℕ → State → State
tidy_by [] s = left (skip s.todo) s
tidy_by (q ∷ queue) s = s

-- The end of a phase is seen as soon as its last pair has turned.
abbrev pub tidy : State → State
tidy s = tidy_by s.held.queue s

-- One unit: a look or a turn, and the ends of phases that follow.
abbrev pub unit : Frame → Leans → Leans → (ℕ → List ℕ) → State → State
unit F L M on s = tidy (next F L M on s.todo s.held.queue s)

-- n units.
abbrev pub run : Frame → Leans → Leans → (ℕ → List ℕ) → ℕ → State → State
run F L M on zero s = s
run F L M on (suc n) s = run F L M on n (unit F L M on s)

-- The pairs of block i among p, p + 1, .., n of them.
abbrev pub pairs_from : Frame → ℕ → ℕ → ℕ → List ℕ
pairs_from F i p zero = []
pairs_from F i p (suc n) = let l = pairs_from F i (suc p) n in cond (eqb (F.block p) i) (p ∷ l) l

-- The pairs of block i.
unfoldable pub pairs_of : Frame → ℕ → List ℕ
pairs_of F i = pairs_from F i 0 F.pairs

-- A look at each of the pairs.
abbrev pub looks_at : Bool → List ℕ → List Step
looks_at ph l = map (sight ph) l

-- What there is to do in the blocks i, i + 1, .., n of them: in each of two phases a look at each pair, and then the turns.
abbrev pub todo_from : Frame → ℕ → ℕ → List Step
todo_from F i zero = []
todo_from F i (suc n) = looks_at false (pairs_of F i) ++ (turns false i ∷ (looks_at true (pairs_of F i) ++ (turns true i ∷ todo_from F (suc i) n)))

-- What comes after the turns of a phase of block i, where k blocks follow it.
unfoldable pub after : Frame → Bool → ℕ → ℕ → List Step
unfolding pairs_of
after F false i k = looks_at true (pairs_of F i) ++ (turns true i ∷ todo_from F (suc i) k)
after F true i k = todo_from F (suc i) k

-- How many looks are left.
abbrev pub sights : List Step → ℕ
sights [] = 0
sights (sight ph p ∷ todo) = suc (sights todo)
sights (turns ph i ∷ todo) = sights todo

-- The state before the first unit.
unfoldable pub start : Frame → Values → State
unfolding pairs_of
start F old = record {
  todo = skip (todo_from F 0 F.blocks);
  val = old;
  held = record { marks = λ p. 0; queue = [] };
  gone = 0;
  shift_visits = 0;
  settle_visits = 0;
}
