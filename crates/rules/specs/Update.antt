-- How a batch moves the values: shift, settle, marks, visits and the net change. Definitions only.
use Rattle.std.specs.Prelude.{Bool, true, false, not, ◌&&◌, ◌||◌, List, [], ℕ, zero, suc, ℤ, pos, ◌-ℤ◌, length, eqb, ltb}
use Rattle.lists.specs.Marks.{put}
use Rattle.lists.specs.Lists.{is, any, bit, count, sum}
use Rattle.lists.specs.Smallest.{table, at, smallest}
use Rattle.rules.specs.Moves.{target}
use Rattle.rules.specs.Model.{Model, blocks_of}
use Rattle.rules.specs.Rooms.{pairs_of}
use Rattle.rules.specs.Batch.{Change, inserts, deletes, edited}
use Rattle.rules.specs.Values.{Values, Term, constant, proposition, join, step, state, pair, state_of, term_at, block_of, greatest, own, leanings, settled_set}
use Rattle.rules.specs.declared.State.{State}

-- The model with the moves that a batch makes of its own.
abbrev pub changed : List Change → Model → Model
changed cs m =
    record { sizes = m.sizes; live = m.live; labels = m.labels; equations = m.equations; moves = edited cs m.moves }

-- b is the value that a block shifts towards: true for a greatest block, false for a least one. A pair gains an own move
-- where the batch inserts one: for a greatest block this counts for a diamond, for a least block for a box.
abbrev pub gains : Bool → List ℕ → State → Term → Bool
gains b ins s (constant c) = false
gains b ins s (proposition c q) = false
gains b ins s (join k x y) = false
gains b ins s (step k a x) = is (not b) k && any (own s a) ins

-- A pair loses an own move whose target pair was old-false (for a least block: old-true) where the batch deletes one: for
-- a greatest block this counts for a box, for a least block for a diamond.
abbrev pub loses : Bool → Model → List ℕ → Values → State → Term → Bool
loses b m dels old s (constant c) = false
loses b m dels old s (proposition c q) = false
loses b m dels old s (join k x y) = false
loses b m dels old s (step k a x) =
    is b k && any (λ q. own s a q && is (not b) (old (pair m.sizes (state (target q)) x))) dels

-- A batch touches a diamond or box pair's own moves by inserting or deleting one.
abbrev pub touches : List Change → State → Term → Bool
touches cs s (constant c) = false
touches cs s (proposition c q) = false
touches cs s (join k x y) = false
touches cs s (step k a x) = any (own s a) (inserts cs) || any (own s a) (deletes cs)

-- A pair of an earlier block that went from not b to b.
abbrev pub went : Model → ℕ → Bool → Values → Values → ℕ → Bool
went m i b old v q = ltb (block_of m q) i && (is (not b) (old q) && is b (v q))

-- Which pairs of block i shift, where those of s do: pairs that were not b, and gain or lose so, or lean on a pair of an
-- earlier block that went to b, or on a shifted pair. The model is the new one, and v has the new values of earlier blocks.
unfoldable pub shifts : Model → List Change → ℕ → Values → Values → (ℕ → Bool) → ℕ → Bool
shifts m cs i old v s p =
    let b = greatest m i in
    let here = state_of m.sizes p in
    eqb (block_of m p) i && (is (not b) (old p)
    && ((gains b (inserts cs) here (term_at m p) || loses b m (deletes cs) old here (term_at m p))
    || any (λ q. s q || went m i b old v q) (leanings m p)))

-- The shifted set of block i: the smallest set that the rule asks for.
abbrev pub shifted_set : Model → List Change → ℕ → Values → Values → List Bool
shifted_set m cs i old v = smallest (pairs_of m.sizes) (shifts m cs i old v)

-- The values once the pairs of a set have turned to b, kept as a table.
abbrev pub turned_to : Model → Bool → Values → List Bool → Values
turned_to m b v s = at (table (pairs_of m.sizes) (put b v (at s)))

-- The values after some blocks, and the pairs that shifted and that settled in these.
pub record Turned : Type 0 where
  pub values : List Bool
  pub shifted : List Bool
  pub settled : List Bool

-- One block: shifted pairs become b; from there any pair that is b while its equation gives not b becomes not b, until none
-- is left.
unfoldable pub turn_block : Model → List Change → Values → ℕ → Turned → Turned
turn_block m cs old i t =
    let n = pairs_of m.sizes in
    let b = greatest m i in
    let up = shifted_set m cs i old (at t.values) in
    let w = turned_to m b (at t.values) up in
    let down = settled_set m i w in
    record {
      values = table n (put (not b) w (at down));
      shifted = table n (λ p. at t.shifted p || at up p);
      settled = table n (λ p. at t.settled p || at down p);
    }

-- The first i blocks.
unfoldable pub turn_to : Model → List Change → Values → ℕ → Turned
turn_to m cs old zero = record { values = table (pairs_of m.sizes) old; shifted = []; settled = [] }
turn_to m cs old (suc i) = turn_block m cs old i (turn_to m cs old i)

-- The whole update: m is the model with its new moves, cs the changes that made them, old the values before.
unfoldable pub turn_all : Model → List Change → Values → Turned
turn_all m cs old = turn_to m cs old (blocks_of m)

-- The leanings, inside one block, on the pairs of a set, whoever leans.
unfoldable pub visits_on : Model → (ℕ → Bool) → ℕ
visits_on m s = sum (pairs_of m.sizes) (λ p. count (λ q. eqb (block_of m q) (block_of m p) && s q) (leanings m p))

-- The leanings of the whole table.
unfoldable pub leanings_in : Model → ℕ
leanings_in m = sum (pairs_of m.sizes) (λ p. length (leanings m p))

-- How many of the first n pairs are true.
abbrev pub trues : ℕ → Values → ℕ
trues n v = sum n (λ p. bit (v p))

-- The change in the number of true pairs, below zero where more fell than rose.
abbrev pub net_of : ℕ → Values → Values → ℤ
net_of n old new = pos (trues n new) -ℤ pos (trues n old)
