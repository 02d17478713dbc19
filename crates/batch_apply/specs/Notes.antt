-- The places of the deleted moves as they are noted, from the last change to the first. Assumes nothing.
use Rattle.std.specs.Prelude.{◌≡◌, refl, true, List, [], ◌∷◌, ◌++◌, ℕ, suc, ◌+◌, ◌-◌, ◌≤◌, ◌<◌, length, drop, set}
use Rattle.std.proofs.Common.{sym, ap, ◌∙◌, subst, inl, inr, append-nil, arith, length-set, drop-cons, drop-set-lt, get_or-set_same}
use Rattle.std.proofs.Math.Seq.{drop-length}
use Rattle.lists.specs.Tests.{tell}
use Rattle.rules.specs.Batch.{Change, deletes}
use Rattle.moves.specs.Ascending.{below}
use Rattle.batch_apply.specs.Striking.{Noted, noted, noted_all, places_in}

-- What the notes of some changes are, in front of those that were there.
record Notes (ms : List ℕ) (cs : List Change) (k l : Noted) : Type 0 where
  notes_are : drop l.top l.places ≡ places_in ms (deletes cs) ++ drop k.top k.places
  room : k.top ≤ l.top + length cs
  inside : l.top ≤ length l.places

-- One note more.
note-on : (at top : ℕ) (ps : List ℕ) → 0 < top → top ≤ length ps → drop (top - 1) (set ps (top - 1) at) ≡ at ∷ drop top ps
note-on at top ps h k =
    let s = length-set ps (top - 1) at in
    let e : suc (top - 1) ≡ top = omega arith in
    drop-cons (set ps (top - 1) at) (top - 1) 0 (omega arith)
    ∙ rw (e, get_or-set_same ps (top - 1) at 0 (omega arith), drop-set-lt top ps (top - 1) at (omega arith)) refl

-- All notes.
notes : (ms : List ℕ) (cs : List Change) (k : Noted) → length cs ≤ k.top → k.top ≤ length k.places → Notes ms cs k (noted_all ms cs k)
notes ms [] k h i = record { notes_are = refl; room = omega arith; inside = i }
notes ms (c ∷ cs) k h i =
    let ih = notes ms cs k (omega arith) i in
    let l = noted_all ms cs k in
    let r = ih.room in
    let j = ih.inside in
    elim (tell true c.insert) [
      | inl t ↦ rw t (record { notes_are = ih.notes_are; room = omega arith; inside = j })
      | inr t ↦
          let s = length-set l.places (l.top - 1) (below c.move ms) in
          rw t (record {
            notes_are = note-on (below c.move ms) l.top l.places (omega arith) j ∙ ap (λ (x : List ℕ). below c.move ms ∷ x) ih.notes_are;
            room = omega arith;
            inside = omega arith;
          })
    ]

-- In a room that is long enough, the notes at its end are the places of the deleted moves.
module _ (ms : List ℕ) (cs : List Change) (ps : List ℕ) (l : Noted) (h : length cs ≤ length ps)
    (e : l ≡ noted_all ms cs (noted ps (length ps))) where
  pub all_noted : drop l.top l.places ≡ places_in ms (deletes cs)
  all_noted =
      let n = notes ms cs (noted ps (length ps)) h (omega arith) in
      ap (λ (k : Noted). drop k.top k.places) e ∙ n.notes_are ∙ ap (λ (x : List ℕ). places_in ms (deletes cs) ++ x) (drop-length ps) ∙ append-nil (places_in ms (deletes cs))

  pub noted-inside : l.top ≤ length l.places
  noted-inside =
      let n = notes ms cs (noted ps (length ps)) h (omega arith) in
      subst (λ (k : Noted). k.top ≤ length k.places) (sym e) n.inside
