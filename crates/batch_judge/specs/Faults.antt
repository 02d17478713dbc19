-- The first change of a batch that has a fault, and what the rules say of it. Assumes nothing.
use Rattle.std.specs.Prelude.{◌≡◌, refl, true, false, cond, Bool, List, ℕ, zero, suc, ◌+◌, ◌*◌, ◌≤◌, ◌<◌, length, slice_index, Option, Some, None, Result, Ok, Err}
use Rattle.std.proofs.Math.Option.{some, none}
use Rattle.std.proofs.Math.Option as Old
use Rattle.std.proofs.Common.{sym, ap, ap₂, ◌∙◌, add-one, arith}
use Rattle.lists.specs.Lists.{elem}
use Rattle.rules.specs.Answers.{number_of}
use Rattle.rules.specs.Batch.{repeated, misplaced}
use Rattle.rules.specs.declared.Refusal.{Refusal}
use Rattle.rules.specs.declared.Refusal.TheVariants as Why
use Rattle.rules.specs.declared.Refused.{Refused}
use Rattle.words.specs.Words.{change_of}
use Rattle.batch_judge.specs.Changes.{changes_from}
use Rattle.batch_judge.specs.Judging.{fault_of, seen_at, repeated-here, repeated-on, repeated-over, wrong, misplaced-here, misplaced-on, misplaced-over}

-- No change has a fault, or the first that has one is refused for it at its record. The stamp's record has five bytes and each change six.
abbrev pub FaultAt : (ℕ → ℕ → Option Refusal → Type 0) → List ℕ → Result (Unit {0}) Refused → Type 0
FaultAt post l (Ok u) = (i : ℕ) → i < length l → post i (slice_index l i) None
FaultAt post l (Err r) =
    (i : ℕ) × (i < length l) × (r.place ≡ 5 + 6 * i) × post i (slice_index l i) (Some r.why) × ((k : ℕ) → k < i → post k (slice_index l k) None)

-- What a test of each change comes to, where `post` says what it may answer of a place and a change.
pub record FirstFault (post : ℕ → ℕ → Option Refusal → Type 0) (l : List ℕ) (r : Result (Unit {0}) Refused) : Type 0 where
  pub found : FaultAt post l r

-- 9 where the move of a change was named before.
abbrev pub named_again : List ℕ → ℕ → ℕ → Option Refusal
named_again l i w = cond (elem (change_of w).move (seen_at l i)) (Some Why.NamedTwice) None

-- 7 where a change inserts a move that is present, 8 where it deletes one that is absent.
abbrev pub wrong_in : List ℕ → ℕ → Option Refusal
wrong_in ms w = cond (wrong ms (change_of w)) (Some (cond (change_of w).insert Why.Present Why.Absent)) None

-- A test that found nothing failed, and one that found something was passed.
nothing-found : (b : Bool) (x : Refusal) → cond b (Some x) None ≡ None → b ≡ false
nothing-found true x e = cc
nothing-found false x e = refl

something-found : (b : Bool) (x y : Refusal) → cond b (Some x) None ≡ Some y → (b ≡ true) × (x ≡ y)
something-found true x y e = (refl, cc)
something-found false x y e = cc

-- A walk over the changes: F is what the rules say from a place on, and f what the test answers there.
module _ (l : List ℕ) (f : ℕ → ℕ → Option Refusal) (F : ℕ → Old.Option (ℕ × ℕ))
    (on : (i : ℕ) → i < length l → f i (slice_index l i) ≡ None → F i ≡ F (suc i))
    (here : (i : ℕ) (why : Refusal) → i < length l → f i (slice_index l i) ≡ Some why → F i ≡ some (number_of why, 5 + 6 * i))
    (over : F (length l) ≡ none) where
  -- Past changes without a fault the rules say what they said.
  passed : (i : ℕ) → i ≤ length l → ((k : ℕ) → k < i → f k (slice_index l k) ≡ None) → F 0 ≡ F i
  passed zero h w = refl
  passed (suc i) h w = passed i (omega arith) (λ k e. w k (omega arith)) ∙ on i (omega arith) (w i (omega arith))

  -- What the test comes to is what they say.
  first-fault : (post : ℕ → ℕ → Option Refusal → Type 0) → ((i w : ℕ) (o : Option Refusal) → post i w o → o ≡ f i w) → (r : Result (Unit {0}) Refused)
      → FaultAt post l r → fault_of r ≡ F 0
  first-fault post says (Ok u) h = sym (passed (length l) (omega arith) (λ k e. sym (says k _ _ (h k e))) ∙ over)
  first-fault post says (Err r) h =
      let i = h.0 in
      ap (λ (p : ℕ). some (number_of r.why, p)) h.2
      ∙ sym (passed i (omega (arith, h.1)) (λ k e. sym (says k _ _ (h.4 k e))) ∙ here i r.why h.1 (sym (says i _ _ h.3)))

-- The first change that names a move again.
pub first-repeats : (l : List ℕ) (post : ℕ → ℕ → Option Refusal → Type 0) (r : Result (Unit {0}) Refused) → FirstFault post l r
    → ((i w : ℕ) (o : Option Refusal) → post i w o → o ≡ named_again l i w) → fault_of r ≡ repeated (seen_at l 0) 5 (changes_from l 0)
first-repeats l post r h says =
    first-fault l (named_again l) (λ i. repeated (seen_at l i) (5 + 6 * i) (changes_from l i)) on here (repeated-over l (length l) _ (omega arith)) post says r h.found
  where
    on : (i : ℕ) → i < length l → named_again l i (slice_index l i) ≡ None → repeated (seen_at l i) (5 + 6 * i) (changes_from l i) ≡ repeated (seen_at l (suc i)) (5 + 6 * suc i) (changes_from l (suc i))
    on i k e =
        let a : 5 + 6 * suc i ≡ 5 + 6 * i + 6 = omega arith in
        repeated-on l i (5 + 6 * i) k (nothing-found _ _ e) ∙ ap₂ (λ (j at : ℕ). repeated (seen_at l j) at (changes_from l j)) (add-one i) (sym a)

    here : (i : ℕ) (why : Refusal) → i < length l → named_again l i (slice_index l i) ≡ Some why → repeated (seen_at l i) (5 + 6 * i) (changes_from l i) ≡ some (number_of why, 5 + 6 * i)
    here i why k e =
        let f = something-found _ _ _ e in
        repeated-here l i (5 + 6 * i) k f.0 ∙ ap (λ (x : Refusal). some (number_of x, 5 + 6 * i)) f.1

-- The first change that is wrong.
pub first-misplaces : (ms l : List ℕ) (post : ℕ → ℕ → Option Refusal → Type 0) (r : Result (Unit {0}) Refused) → FirstFault post l r
    → ((i w : ℕ) (o : Option Refusal) → post i w o → o ≡ wrong_in ms w) → fault_of r ≡ misplaced ms 5 (changes_from l 0)
first-misplaces ms l post r h says =
    first-fault l (λ i w. wrong_in ms w) (λ i. misplaced ms (5 + 6 * i) (changes_from l i)) on here (misplaced-over ms l (length l) _ (omega arith)) post says r h.found
  where
    on : (i : ℕ) → i < length l → wrong_in ms (slice_index l i) ≡ None → misplaced ms (5 + 6 * i) (changes_from l i) ≡ misplaced ms (5 + 6 * suc i) (changes_from l (suc i))
    on i k e =
        let a : 5 + 6 * suc i ≡ 5 + 6 * i + 6 = omega arith in
        misplaced-on ms l i (5 + 6 * i) k (nothing-found _ _ e) ∙ ap₂ (λ (j at : ℕ). misplaced ms at (changes_from l j)) (add-one i) (sym a)

    number : (b : Bool) → number_of (cond b Why.Present Why.Absent) ≡ cond b 7 8
    number true = refl
    number false = refl

    here : (i : ℕ) (why : Refusal) → i < length l → wrong_in ms (slice_index l i) ≡ Some why → misplaced ms (5 + 6 * i) (changes_from l i) ≡ some (number_of why, 5 + 6 * i)
    here i why k e =
        let f = something-found _ _ _ e in
        misplaced-here ms l i (5 + 6 * i) k f.0
        ∙ ap (λ (n : ℕ). some (n, 5 + 6 * i)) (sym (number (change_of (slice_index l i)).insert)) ∙ ap (λ (x : Refusal). some (number_of x, 5 + 6 * i)) f.1
