-- One turn of the reading of a batch, by the record at the place. Assumes nothing.
use Rattle.std.specs.Prelude.{◌≡◌, Bool, false, cond, List, [], ◌∷◌, ltb, length, set, Some, None}
use Rattle.std.proofs.Math.Path.{refl}
use Rattle.std.proofs.Common.{sym, ◌∙◌, zero-add, lt-ltb}
use Rattle.std.proofs.Math.Logic.{inl, inr}
use Rattle.std.proofs.Math.Bool.{true}
use Prim.Native.Nat.{ℕ, suc, ◌+◌}
use native.Mathlib.Omega.{arith}
use Rattle.std.proofs.lemmas.List.Edits.{sets}
use Rattle.lists.specs.Tests.{tell, or_no}
use Rattle.rules.specs.Batch.{Batch, first, after, step_batch, put_batch, empty_batch, read_batch}
use Rattle.rules.specs.Limits.{most_changes}
use Rattle.rules.specs.Model.{move_ok}
use Rattle.rules.specs.Records.{Rec, ends, broken, no, next, Outcome, refused, accepted, onto, at_end, run, numbers_of}
use Rattle.rules.specs.declared.Move.{Move}
use Rattle.rules.specs.declared.Record.{Record}
use Rattle.rules.specs.declared.Record.TheVariants as R
use Rattle.rules.specs.Answers.{number_of}
use Rattle.rules.specs.declared.Refusal.{Refusal}
use Rattle.rules.specs.declared.Refusal.TheVariants as Why
use Rattle.rules.specs.declared.Sizes.{Sizes}
use Rattle.words.specs.Words.{pack_of, code_of}
use Rattle.laws.specs.bytes.Kinds.{Other, other-kind, other-kinds}
use Rattle.bytes_read.specs.PartsAt.{parts_at, PartsBy, parts-at}
use Rattle.bytes_read.specs.Places.{Read, record_at}
use Rattle.batch_read.specs.Going.{Stamped, Began}
use Rattle.batch_read.specs.Reading.{stop, change_turn, end_turn, summary_after, summary, read_on, from, codes_by, codes_from, codes_of, Goes, Turned}

-- Nothing to read at the place.
pub turned-broken : (z : Sizes) (s : List ℕ) (stamp n at : ℕ) → record_at s at ≡ None → Turned z s stamp n at (stop Why.Broken at)
unfolding read_on run codes_from
turned-broken z s stamp n at e =
    let h : parts_at s at ≡ cond (ltb at (length s)) (broken at) (ends at) = rw e at (parts-at s at) in
    elim (tell true (ltb at (length s))) [
      | inl t ↦ let k : parts_at s at ≡ broken at = h ∙ rw t refl in (rw k refl, rw k refl)
      | inr t ↦ let k : parts_at s at ≡ ends at = h ∙ rw t refl in (rw k refl, rw k refl)
    ]

-- The summary of one change more.
one_more : (stamp n : ℕ) (r : Rec) (o : Outcome Batch) → summary_after stamp n (onto (put_batch (after n) r) o) ≡ summary_after stamp (suc n) o
unfolding put_batch
one_more stamp n r (refused k p) = refl
one_more stamp n r (accepted b) = let e : n + suc (length b.changes) ≡ suc n + length b.changes = omega arith in rw e refl

-- What stands after the end record.
after-end : (z : Sizes) (s : List ℕ) (n k : ℕ) (rd : Read) → PartsBy s k rd
    → at_end (step_batch z) put_batch empty_batch (after n) (parts_at s k) ≡ cond (ltb k (length s)) (refused 2 k) (accepted (empty_batch (after n)))
after-end z s n k (Some (r, j)) h = rw (h.2, lt-ltb k (length s) (omega arith)) refl
after-end z s n k None h =
    elim (tell true (ltb k (length s))) [
      | inl t ↦ rw (h, t) refl
      | inr t ↦ rw (h, t) refl
    ]

module _ (z : Sizes) (s : List ℕ) (stamp n at k : ℕ) (r : Record) (got : record_at s at ≡ Some (r, k)) where
  there : PartsBy s at (Some (r, k))
  there = rw got at (parts-at s at)

  -- A record that is refused.
  turned-no : (e : Refusal) → step_batch z (after n) (numbers_of r) ≡ no (number_of e) → Turned z s stamp n at (stop e at)
  unfolding read_on run codes_from
  turned-no e h = (rw (there.2, h) refl, rw (there.2, h) refl)

  -- A change that is taken.
  goes : (code : ℕ) → step_batch z (after n) (numbers_of r) ≡ next (after (suc n))
      → ((l : List ℕ) → codes_by l (numbers_of r) (next (after (suc n))) ≡ code ∷ l) → Goes z s stamp n at stamp (n + 1) code k
  unfolding read_on run codes_from
  goes code h c =
      let e : n + 1 ≡ suc n = omega arith in
      let a : from z s stamp n at ≡ from z s stamp (suc n) k = rw (there.2, h) (one_more stamp n (numbers_of r) (run (step_batch z) put_batch empty_batch (after (suc n)) (parts_at s k))) in
      let b : codes_from z n (parts_at s at) ≡ code ∷ codes_from z (suc n) (parts_at s k) = rw (there.2, h) (c (codes_from z (suc n) (parts_at s k))) in
      record { stamped = refl; counted = refl; on = there.0; inside = there.1; same = rw e a; codes = rw e b }

  -- A change, by its demands in order.
  turned-change : (m : Move) (insert : Bool)
      → step_batch z (after n) (numbers_of r) ≡ cond (ltb n most_changes) (cond (move_ok z m.source.0 m.action.0 m.target.0) (next (after (suc n))) (no 4)) (no 3)
      → ((l : List ℕ) → codes_by l (numbers_of r) (next (after (suc n))) ≡ code_of (pack_of m) insert ∷ l)
      → Turned z s stamp n at (change_turn z stamp n m insert at k)
  unfolding change_turn
  turned-change m insert h c =
      elim (tell true (ltb n most_changes)) [
        | inr t ↦ rw t (turned-no Why.BadSize (h ∙ rw t refl))
        | inl t ↦ elim (tell true (move_ok z m.source.0 m.action.0 m.target.0)) [
          | inr u ↦ rw (t, u) (turned-no Why.BadNumber (h ∙ rw (t, u) refl))
          | inl u ↦ rw (t, u) (goes (code_of (pack_of m) insert) (h ∙ rw (t, u) refl) c)
        ]
      ]

-- A record of any other kind than the end and the changes is not due after the stamp.
not-due : (z : Sizes) (n : ℕ) (r : Record) → Other (6 ∷ 8 ∷ 9 ∷ []) r → step_batch z (after n) (numbers_of r) ≡ no 2
unfolding step_batch
not-due z n r m = let k = simp or_no at (other-kinds (6 ∷ 8 ∷ 9 ∷ []) r m) in rw (k.0, k.1.0, k.1.1.0) refl

-- An insert, a delete, the end, and any other record.
pub turned-insert : (z : Sizes) (s : List ℕ) (stamp n at k : ℕ) (r : Record) (m : Move) → record_at s at ≡ Some (r, k) → r ≡ R.Insert m → Turned z s stamp n at (change_turn z stamp n m true at k)
unfolding step_batch
turned-insert z s stamp n at k r m got e = turned-change z s stamp n at k (R.Insert m) (rw (← e) got) m true refl (λ l. refl)

pub turned-delete : (z : Sizes) (s : List ℕ) (stamp n at k : ℕ) (r : Record) (m : Move) → record_at s at ≡ Some (r, k) → r ≡ R.Delete m → Turned z s stamp n at (change_turn z stamp n m false at k)
unfolding step_batch
turned-delete z s stamp n at k r m got e = turned-change z s stamp n at k (R.Delete m) (rw (← e) got) m false refl (λ l. refl)

pub turned-end : (z : Sizes) (s : List ℕ) (stamp n at k : ℕ) (r : Record) → record_at s at ≡ Some (r, k) → r ≡ R.End → Turned z s stamp n at (end_turn stamp n k (length s))
unfolding step_batch read_on run codes_from end_turn
turned-end z s stamp n at k r got q =
    let w = there z s stamp n at k R.End (rw (← q) got) in
    let e = after-end z s n k (record_at s k) (parts-at s k) in
    elim (tell true (ltb k (length s))) [
      | inl t ↦ rw t (rw (w.2, e, t) refl, rw w.2 refl)
      | inr t ↦ rw t (rw (w.2, e, t) (let x : n ≡ n + 0 = omega arith in rw (← x) refl), rw w.2 refl)
    ]

pub turned-other : (z : Sizes) (s : List ℕ) (stamp n at k : ℕ) (r : Record) → record_at s at ≡ Some (r, k) → Other (6 ∷ 8 ∷ 9 ∷ []) r
    → Turned z s stamp n at (stop Why.NotDue at)
turned-other z s stamp n at k r got m = turned-no z s stamp n at k r got Why.NotDue (not-due z n r m)

-- One change put down.
pub put-code : (z : Sizes) (s : List ℕ) (stamp n at p j code k : ℕ) (u v : List ℕ) → Goes z s stamp n at p j code k → v ≡ set u n code
    → sets v (n + 1) (codes_from z (n + 1) (parts_at s k)) ≡ sets u n (codes_from z n (parts_at s at))
put-code z s stamp n at p j code k u v g e = let f : n + 1 ≡ suc n = omega arith in rw (g.codes, e, f) refl

-- The first record.
stamped : (p : ℕ) (o : Outcome Batch) → summary_after p 0 o ≡ summary (onto (put_batch first (numbers_of (R.Stamp p))) o)
unfolding put_batch
stamped p (refused k q) = refl
stamped p (accepted b) = rw zero-add refl

pub first-stamp : (z : Sizes) (s : List ℕ) (p k : ℕ) (r : Record) → record_at s 0 ≡ Some (r, k) → r ≡ R.Stamp p → Stamped z s p 0 k
unfolding read_batch read_on run step_batch codes_of
first-stamp z s p k r got q =
    let w = there z s p 0 0 k (R.Stamp p) (rw (← q) got) in
    record {
      none = refl;
      begun = w.0;
      inside = w.1;
      same = stamped p (run (step_batch z) put_batch empty_batch (after 0) (parts_at s k)) ∙ sym (rw w.2 refl);
      codes = sym (rw w.2 refl);
    }

pub first-broken : (z : Sizes) (s : List ℕ) → record_at s 0 ≡ None → Began z s (stop Why.Broken 0)
unfolding read_batch run codes_of
first-broken z s e =
    let h : parts_at s 0 ≡ cond (ltb 0 (length s)) (broken 0) (ends 0) = rw e at (parts-at s 0) in
    elim (tell true (ltb 0 (length s))) [
      | inl b ↦ let k : parts_at s 0 ≡ broken 0 = h ∙ rw b refl in (rw k refl, rw k refl)
      | inr b ↦ let k : parts_at s 0 ≡ ends 0 = h ∙ rw b refl in (rw k refl, rw k refl)
    ]

pub first-other : (z : Sizes) (s : List ℕ) (k : ℕ) (r : Record) → record_at s 0 ≡ Some (r, k) → Other (7 ∷ []) r
    → Began z s (stop Why.NotDue 0)
unfolding read_batch run step_batch codes_of
first-other z s k r got m =
    let w = there z s 0 0 0 k r got in
    let e = other-kind 7 r m in
    (sym (rw (w.2, e) refl), sym (rw (w.2, e) refl))
