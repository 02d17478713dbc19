-- A row of pairs, p, p + 1, .. and so on, looked at at once: the marks and the queue after it, by which of its pairs must turn.
-- Definitions only.
use Rattle.std.specs.Prelude.{Bool, cond, List, [], ◌∷◌, ◌++◌, ℕ, zero, suc, ◌+◌, get_or, set}
use Rattle.systems.specs.machine.Machine.{next_mark}
use Rattle.systems.specs.lists.ListMachine.{Pile, wait_l, Job}

-- The pairs among p, p + 1, .., n of them, that must turn, in order.
abbrev pub hits : (ℕ → Bool) → ℕ → ℕ → List ℕ
hits f p zero = []
hits f p (suc n) = hits f p n ++ cond (f (p + n)) ((p + n) ∷ []) []

-- The marks, with the next mark at each of these pairs.
abbrev pub row_marks : (ℕ → Bool) → (ℕ → ℕ) → ℕ → ℕ → List ℕ → List ℕ
row_marks f next p zero ms = ms
row_marks f next p (suc n) ms = let l = row_marks f next p n ms in let m = get_or l (p + n) 0 in set l (p + n) (cond (f (p + n)) (next m) m)

-- The marks and the queue once each of these pairs, in order, has got its next mark and waits.
abbrev pub row_pile : (ℕ → Bool) → (ℕ → ℕ) → ℕ → ℕ → Pile → Pile
row_pile f next p zero h = h
row_pile f next p (suc n) h = let g = row_pile f next p n h in cond (f (p + n)) (wait_l next (p + n) g) g

-- The update n looks further in its row.
unfoldable pub look_row : (ℕ → Bool) → ℕ → Job → Job
look_row f n c = record {
  block = c.block;
  settling = c.settling;
  place = c.place + n;
  vals = c.vals;
  pile = row_pile f (next_mark c.settling) c.place n c.pile;
  shift_visits = c.shift_visits;
  settle_visits = c.settle_visits;
}
