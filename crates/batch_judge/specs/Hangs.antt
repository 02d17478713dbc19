-- Whether a batch leaves a state without a move, change by change. Assumes nothing.
use Rattle.std.specs.Prelude.{◌≡◌, refl, Bool, true, false, not, cond, ◌&&◌, List, [], ◌∷◌, ℕ, eqb}
use Rattle.std.proofs.Common.{sym, ap, ◌∙◌}
use Rattle.std.specs.List.{list_all}
use Rattle.words.specs.Words.{change_of, changes_of}
use Rattle.lists.specs.Lists.{is}
use Rattle.rules.specs.Moves.{source}
use Rattle.rules.specs.Batch.{Change, inserts, deletes}
use Rattle.laws.specs.moves.Emptied.{emptied, stays_in}

-- The moves that the changes insert, or those that they delete.
abbrev pub named_by : Bool → List Change → List ℕ
named_by inserting cs = cond inserting (inserts cs) (deletes cs)

-- A change of the kind asked for, and of a move of the state.
abbrev pub names : Bool → ℕ → Change → Bool
names inserting s c = is inserting c.insert && eqb (source c.move) s

-- A change that deletes a move of a state that all changes, cs, leave without one.
abbrev pub hangs_by : List ℕ → List Change → Change → Bool
hangs_by ms cs c = not c.insert && emptied ms cs (source c.move)

-- With one change more that may.
pub stays-more : (ms : List ℕ) (cs : List Change) (c : Change) (ds : List Change) → stays_in ms cs (deletes (c ∷ ds)) ≡ (not (hangs_by ms cs c) && stays_in ms cs (deletes ds))
unfolding stays_in
stays-more ms cs c ds = by_kind c.insert refl
  where
    by_kind : (k : Bool) → c.insert ≡ k → stays_in ms cs (deletes (c ∷ ds)) ≡ (not (hangs_by ms cs c) && stays_in ms cs (deletes ds))
    by_kind true e = rw e refl
    by_kind false e = rw e refl

-- None of the changes that numbers hold does.
pub stays-all : (ms : List ℕ) (cs : List Change) (l : List ℕ) → list_all (λ w. not (hangs_by ms cs (change_of w))) l ≡ stays_in ms cs (deletes (changes_of l))
unfolding stays_in
stays-all ms cs [] = refl
stays-all ms cs (w ∷ l) = ap (λ (b : Bool). not (hangs_by ms cs (change_of w)) && b) (stays-all ms cs l) ∙ sym (stays-more ms cs (change_of w) (changes_of l))
