-- What a turn visits, as the machine says it: pairs that are visited wait if they must turn too. Definitions only.
use Rattle.std.specs.Prelude.{◌≡◌, Bool, not, cond, List, ℕ, suc, ◌+◌, ◌≤◌, length, get_or, set}
use Rattle.systems.specs.machine.Machine.{free, next_mark, asks}
use Rattle.systems.specs.lists.ListMachine.{Pile, spread_l, turned}
use Rattle.rules.specs.Model.{Model}
use Rattle.rules.specs.Values.{leanings}
use Rattle.rules.specs.Calls.{value_at}
use Rattle.rules.specs.declared.Sizes.{Sizes}
use Rattle.words.specs.Words.{variable_in}
use Rattle.laws.specs.model.ModelSystem.{frame}
use Rattle.laws.specs.model.ModelLeaners.{leaners_of}
use Rattle.engine_table.specs.Table.{Table, table_in, model_of, Drawn, own_in, waiter}
use Rattle.engine_rows.specs.Rooms.{Packed, pile_in}
use Rattle.engine_turn.specs.declared.Spread.{Spread}

-- The marks and the queue, and how many visits there were.
pub record Visit : Type 0 where
  pub pile : Pile
  pub visits : ℕ

-- Must a pair turn, where one that it leans on has? Here with the values that a room holds.
abbrev pub ask_of : Model → Bool → List ℕ → ℕ → Bool
ask_of m ph vs r = asks (frame m) (leanings m) ph (value_at vs) r

-- The pairs of a list visited, one after the other.
unfoldable pub visited : Model → Bool → List ℕ → List ℕ → Visit → Visit
visited m ph vs l v = record { pile = spread_l (free ph) (next_mark ph) (ask_of m ph vs) l v.pile; visits = v.visits + length l }

-- The pair that the number w stands for has the value that pairs turn from: the own value of its block while settling, else the other.
abbrev pub FromValue : Table → Bool → List ℕ → ℕ → Type 0
FromValue t ph values w = value_at values (waiter t.sizes w) ≡ cond ph (own_in t (variable_in w)) (not (own_in t (variable_in w)))

-- Values, marks, the queue and its end, and how many visits there were.
pub record Round : Type 0 where
  pub values : List ℕ
  pub marks : List ℕ
  pub queue : List ℕ
  pub tail : ℕ
  pub visits : ℕ

abbrev pub round_of : List ℕ → List ℕ → List ℕ → ℕ → ℕ → Round
round_of values marks queue tail visits = record { values = values; marks = marks; queue = queue; tail = tail; visits = visits }

abbrev pub round_at : List ℕ → List ℕ → List ℕ → Spread → Round
round_at values marks queue at = round_of values marks queue at.tail at.visits

-- The visit that a round stands for, where the queue is read from a place on.
abbrev pub visit_in : Sizes → ℕ → Round → Visit
visit_in z from a = record { pile = pile_in z a.marks a.queue from a.tail; visits = a.visits }

-- The queue has places for all that come to wait where the pair turns that the number w stands for, which is in front.
pub record RoomFor (z : Sizes) (equations moves : List ℕ) (ph : Bool) (front w : ℕ) (a : Round) : Type 0 where
  pub labels : List ℕ
  pub drawn : Drawn (table_in z labels equations moves)
  pub room : (visited (model_of (table_in z labels equations moves)) ph (set a.values (waiter z w) (turned (get_or a.values (waiter z w) 0)))
      (leaners_of (model_of (table_in z labels equations moves)) (waiter z w)) (visit_in z (suc front) a)).pile.tail ≤ length a.queue

-- From a to b the pair turned that the number w stands for, which was in front: its value is the other one, those that lean on it
-- were visited, whatever the labels, and what waits stands for pairs.
pub record Turned (z : Sizes) (equations moves : List ℕ) (ph : Bool) (front w : ℕ) (a b : Round) : Type 0 where
  pub values : b.values ≡ set a.values (waiter z w) (turned (get_or a.values (waiter z w) 0))
  pub packed : Packed z b.queue b.tail
  pub visits : (labels : List ℕ) → Drawn (table_in z labels equations moves)
      → visit_in z (suc front) b
      ≡ visited (model_of (table_in z labels equations moves)) ph b.values (leaners_of (model_of (table_in z labels equations moves)) (waiter z w)) (visit_in z (suc front) a)
