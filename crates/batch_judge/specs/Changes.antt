-- The changes of a batch, and how a walk meets them. Assumes nothing.
use Rattle.std.specs.Prelude.{◌≡◌, refl, true, List, [], ◌∷◌, ℕ, ◌+◌, ◌≤◌, ◌<◌, length, get_or, drop, filter, fold}
use Rattle.std.proofs.Common.{ap, ◌∙◌, inl, inr, arith, drop_of_length-le}
use Rattle.std.proofs.lemmas.List.{length-map}
use Rattle.lists.specs.Tests.{tell}
use Rattle.rules.specs.Batch.{Change, inserts, deletes}
use Rattle.laws.specs.moves.Edits.{carry}
use Rattle.words.specs.Words.{change_of, changes_of}
use Rattle.moves.specs.Fronts.{left-more}

-- The changes that numbers hold, from place i on.
abbrev pub changes_from : List ℕ → ℕ → List Change
changes_from l i = changes_of (drop i l)

module _ (l : List ℕ) (i : ℕ) where
  -- The next change, and the rest.
  pub changes-more : i < length l → changes_from l i ≡ change_of (get_or l i 0) ∷ changes_from l (i + 1)
  changes-more h = ap changes_of (left-more l i h)

  -- At the end nothing is left.
  pub changes-over : length l ≤ i → changes_from l i ≡ []
  changes-over h = ap changes_of (drop_of_length-le l h)

-- Each change is an insert or a delete.
inserts-deletes : (cs : List Change) → length (inserts cs) + length (deletes cs) ≡ length cs
inserts-deletes [] = refl
inserts-deletes (c ∷ cs) =
    let h = inserts-deletes cs in
    elim (tell true c.insert) [ inl t ↦ rw t (omega arith) | inr t ↦ rw t (omega arith) ]

-- And there are as many as numbers.
pub changes-count : (l : List ℕ) → length (inserts (changes_of l)) + length (deletes (changes_of l)) ≡ length l
changes-count l = inserts-deletes (changes_of l) ∙ length-map l change_of

-- As many numbers hold an insert as there are inserts.
pub inserts-held : (l : List ℕ) → length (filter (λ w. (change_of w).insert) l) ≡ length (inserts (changes_of l))
inserts-held [] = refl
inserts-held (w ∷ l) =
    let h = inserts-held l in
    elim (tell true (change_of w).insert) [ inl t ↦ rw t (omega arith) | inr t ↦ rw t h ]

-- The stamp carried over one change after the other is the stamp carried over all.
pub carried-on : (x : ℕ) (l : List ℕ) → fold (λ y w. carry y (change_of w ∷ [])) x l ≡ carry x (changes_of l)
carried-on x [] = refl
carried-on x (w ∷ l) = carried-on (carry x (change_of w ∷ [])) l
