-- The room of the moves and how many of its places are moves; what the code does to them, step by step, and when. Definitions only.
use Rattle.std.specs.Prelude.{◌≡◌, Bool, true, false, cond, List, [], ◌∷◌, ◌++◌, ℕ, zero, suc, ◌+◌, ◌-◌, ◌≤◌, length, get_or, take, drop, set, ltb}
use Rattle.lists.specs.Lists.{all}
use Rattle.rules.specs.Limits.{most_moves, most_changes}
use Rattle.rules.specs.Batch.{Change, edited}
use Rattle.laws.specs.moves.Edits.{Judged}
use Rattle.moves.specs.Ascending.{ascends, leading}

-- A room, and how many of its first places are moves.
pub record Kept : Type 0 where
  pub moves : List ℕ
  pub count : ℕ

abbrev pub kept : List ℕ → ℕ → Kept
kept room n = record { moves = room; count = n }

-- The moves that it holds.
abbrev pub moves_in : Kept → List ℕ
moves_in k = take k.count k.moves

-- The first m entries each take the value of the next one.
abbrev pub pulled : ℕ → List ℕ → List ℕ
pulled zero l = l
pulled (suc m) [] = []
pulled (suc m) (q ∷ l) = get_or l 0 0 ∷ pulled m l

-- x is put in front, and the first m entries move on by one place; the last of them is lost.
abbrev pub pushed : ℕ → ℕ → List ℕ → List ℕ
pushed zero x l = l
pushed (suc m) x [] = []
pushed (suc m) x (q ∷ l) = x ∷ pushed m q l

-- From place `from` to place `end`.
unfoldable pub pulled_in : ℕ → ℕ → List ℕ → List ℕ
pulled_in from end l = take from l ++ pulled (end - from) (drop from l)

unfoldable pub pushed_in : ℕ → ℕ → ℕ → List ℕ → List ℕ
pushed_in from end x l = take from l ++ pushed (end - from) x (drop from l)

-- A move taken out at its place; the place that is freed at the end becomes 0.
unfoldable pub removed_from : ℕ → Kept → Kept
removed_from p k =
    let at = leading p (moves_in k) in
    cond (ltb at k.count) (kept (set (pulled_in at (k.count - 1) k.moves) (k.count - 1) 0) (k.count - 1)) k

-- A move put in at its place, if there is room.
unfoldable pub inserted_into : ℕ → Kept → Kept
inserted_into p k =
    let at = leading p (moves_in k) in
    cond (ltb k.count (length k.moves)) (kept (pushed_in at (k.count + 1) p k.moves) (k.count + 1)) k

-- One change, where it is a delete, and where it is an insert.
abbrev pub deleted_by : Change → Kept → Kept
deleted_by c k = cond c.insert k (removed_from c.move k)

abbrev pub inserted_by : Change → Kept → Kept
inserted_by c k = cond c.insert (inserted_into c.move k) k

-- One change, where it is of the kind asked for: an insert or a delete.
abbrev pub changed_by : Bool → Change → Kept → Kept
changed_by true c k = inserted_by c k
changed_by false c k = deleted_by c k

-- All changes of a kind, from the last to the first.
abbrev pub changed_all : Bool → List Change → Kept → Kept
changed_all b [] k = k
changed_all b (c ∷ cs) k = changed_by b c (changed_all b cs k)

-- All changes: first the deletes, then the inserts.
abbrev pub applied_to : List Change → Kept → Kept
applied_to cs k = changed_all true cs (changed_all false cs k)

-- A word that no move is: it stands where a move was struck.
abbrev pub mark : ℕ
mark = 4294967295

-- The room holds the moves, and they ascend.
pub record Orderly (k : Kept) : Type 0 where
  pub fits : k.count ≤ length k.moves
  pub ascend : ascends 0 (moves_in k) ≡ true

-- So it is before the changes of a kind, and after each of them.
abbrev pub AllOrderly : Bool → List Change → Kept → Type 0
AllOrderly b [] k = Orderly k
AllOrderly b (c ∷ cs) k = Orderly (changed_all b (c ∷ cs) k) × AllOrderly b cs k

-- The changes are no more than a batch may have, and were judged; the room holds what they come to, and the moves are no more and no
-- greater than a model's.
pub record Ready (cs : List Change) (k : Kept) : Type 0 where
  pub start : Orderly k
  pub short : length cs ≤ most_changes
  pub judged : Judged (moves_in k) cs
  pub few : length (edited cs (moves_in k)) ≤ length k.moves
  pub most : k.count ≤ most_moves
  pub small : all (λ q. ltb q mark) (moves_in k) ≡ true
