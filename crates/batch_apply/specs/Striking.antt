-- Moves taken out in one pass: their places are noted, they are struck there, the others close up, and the places that are
-- free then are cleared. Definitions only.
use Rattle.std.specs.Prelude.{not, cond, List, [], ◌∷◌, ◌++◌, map, ℕ, zero, suc, ◌+◌, ◌-◌, get_or, take, drop, replicate, set, eqb}
use Rattle.lists.specs.Lists.{bit}
use Rattle.rules.specs.Batch.{Change}
use Rattle.moves.specs.Ascending.{below}
use Rattle.batch_apply.specs.Kept.{Kept, kept, mark}

-- A room of places, of which those from `top` on are noted.
pub record Noted : Type 0 where
  pub places : List ℕ
  pub top : ℕ

abbrev pub noted : List ℕ → ℕ → Noted
noted places top = record { places = places; top = top }

-- The place of the move that a change deletes, noted in front.
abbrev pub noted_by : List ℕ → Change → Noted → Noted
noted_by ms c k =
    cond c.insert k (noted (set k.places (k.top - 1) (below c.move ms)) (k.top - 1))

-- All of them, from the last change to the first.
abbrev pub noted_all : List ℕ → List Change → Noted → Noted
noted_all ms [] k = k
noted_all ms (c ∷ cs) k = noted_by ms c (noted_all ms cs k)

-- The places of moves in an ascending list.
abbrev pub places_in : List ℕ → List ℕ → List ℕ
places_in ms ds = map (λ q. below q ms) ds

-- The mark written at each place of a list, the last place first.
abbrev pub struck_at : List ℕ → List ℕ → List ℕ
struck_at [] l = l
struck_at (at ∷ ps) l = set (struck_at ps l) at mark

-- The m words from place i on, each copied behind those that stay, of which there are `to` so far; one that was struck does
-- not stay.
unfoldable pub closing : ℕ → ℕ → ℕ → List ℕ → Kept
closing zero to i l = kept l to
closing (suc m) to i l = closing m (to + bit (not (eqb (get_or l i 0) mark))) (i + 1) (set l to (get_or l i 0))

-- The words from place `from` to place `end` become 0.
unfoldable pub cleared_in : ℕ → ℕ → List ℕ → List ℕ
cleared_in from end l = take from l ++ (replicate (end - from) 0 ++ drop end l)
