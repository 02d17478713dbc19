-- One turn of the reading without chains, by what the record at the place is and how it was judged. Assumes nothing.
use Rattle.std.proofs.Math.Path.{◌≡◌, refl}
use Rattle.std.proofs.Common.{sym, ◌∙◌, inl, inr, arith, lt-ltb}
use Rattle.std.specs.Prelude.{Bool, true, cond, List, [], ◌∷◌, ℕ, suc, ◌+◌, ◌≤◌, ◌<◌, min, eqb, ltb, length, Some, None}
use Rattle.rules.specs.declared.Sizes.{Sizes}
use Rattle.lists.specs.Tests.{tests, tell, and_is, or-out, eqb_is, ltb-is, leb-is}
use Rattle.rules.specs.Answers.{number_of}
use Rattle.rules.specs.Limits.{most_moves, sizes_ok}
use Rattle.rules.specs.Load.{Sofar, State, before, inside, started, put, last, label_demands, block_demands, equation_demands, signed_demands, move_demands, end_demands, live_demands, after_live, sizes_demands, sizes_of, signed_of, after_label, after_block, after_equation, after_signed, after_move, block_fits}
use Rattle.rules.specs.Model.{Model}
use Rattle.rules.specs.Records.{Rec, Parts, ends, broken, part, Turn, no, next, over, demand, Outcome, refused, accepted, onto, at_end, run, numbers_of}
use Rattle.rules.specs.Rooms.{Lengths}
use Rattle.rules.specs.declared.State as Of
use Rattle.rules.specs.declared.Move.{Move}
use Rattle.rules.specs.declared.Record.{Record}
use Rattle.rules.specs.declared.Record.TheVariants as R
use Rattle.rules.specs.declared.Refusal.{Refusal}
use Rattle.rules.specs.declared.Refusal.TheVariants as Why
use Rattle.words.specs.Words.{pack_of}
use Rattle.laws.specs.bytes.Kinds.{Other, other-kind}
use Rattle.laws.specs.bytes.RecordLaws.{Met, judged}
use Rattle.laws.specs.bytes.Walks.{small}
use Rattle.bytes_read.specs.PartsAt.{parts_at, PartsBy, parts-at}
use Rattle.bytes_read.specs.Places.{record_at, Read}
use Rattle.model_judge.specs.Demands.{Fails, Meets, raised, fails, meets}
use Rattle.model_judge.specs.Plain.{plain, unasked, without}
use Rattle.model_judge.specs.Progress.{sofar_of, Kept, KeptIn}
use Rattle.model_judge.specs.Turning.{summary_after, read_on, end_turn, Goes, Stops, Turned, stop}
use Rattle.model_judge.specs.declared.progress.Progress.{Progress}

-- How a record after the sizes was judged.
pub data Stepped (l : Lengths) (x : Sofar) : Record → Turn State → Type 0 where
  label : (s : Of.State) (v : ℕ) → Met (label_demands x s.0 v) → Stepped l x (R.Label s v) (next (inside (after_label x s.0)))
  block : (k n : ℕ) → Met (block_demands x k n) → Stepped l x (R.Block k n) (next (inside (after_block x k n)))
  equation : (o a b : ℕ) → Met (equation_demands x o a b) → Stepped l x (R.Equation o a b) (next (inside (after_equation x)))
  move : (m : Move) → Met (move_demands l x m.source.0 m.action.0 m.target.0)
      → Stepped l x (R.Move m) (next (inside (after_move x (pack_of m))))
  end : Met (end_demands x) → Stepped l x R.End over
  lives : Met (live_demands x) → Stepped l x R.Live (next (inside (after_live x)))
  sign : (k o a b : ℕ) → Met (signed_demands x (signed_of k o a b)) → Stepped l x (R.Signed k o a b) (next (inside (without (after_signed x (signed_of k o a b)))))
  refusal : {r : Record} {n : ℕ} → Stepped l x r (no n)

by : (l : Lengths) (x : Sofar) (r : Record) (ds : List (ℕ × Bool)) (t : Turn State) → (Met ds → Stepped l x r t) → Stepped l x r (demand ds t)
by l x r ds t f =
    elim (judged ds t) [
      | inl m ↦ rw m.1 (f m.0)
      | inr m ↦ rw m.1 refusal
    ]

pub stepped : (l : Lengths) (x : Sofar) (r : Record) → Stepped l x r (plain l (inside x) (numbers_of r))
unfolding plain
stepped l x (R.Sizes z) = refusal
stepped l x (R.Label s v) = by l x (R.Label s v) (label_demands x s.0 v) (next (inside (after_label x s.0))) (label s v)
stepped l x (R.Block k n) = by l x (R.Block k n) (block_demands x k n) (next (inside (after_block x k n))) (block k n)
stepped l x (R.Equation o a b) = by l x (R.Equation o a b) (equation_demands x o a b) (next (inside (after_equation x))) (equation o a b)
stepped l x (R.Move m) =
    by l x (R.Move m) (move_demands l x m.source.0 m.action.0 m.target.0) (next (inside (after_move x (pack_of m)))) (move m)
stepped l x R.End = by l x R.End (end_demands x) over end
stepped l x (R.Stamp n) = refusal
stepped l x (R.Insert m) = refusal
stepped l x (R.Delete m) = refusal
stepped l x R.Live = by l x R.Live (live_demands x) (next (inside (after_live x))) lives
stepped l x (R.Signed k o a b) = by l x (R.Signed k o a b) (signed_demands x (signed_of k o a b)) (unasked (after_signed x (signed_of k o a b))) (sign k o a b)

-- A block that fits keeps the numbers inside their limits, and so does every step.
pub block-kept : (x : Sofar) (a n : ℕ) → Kept x → (x.blocks.due ≡ 0) × (x.blocks.count < x.sizes.blocks) → block_fits x n ≡ true → a ≤ 1 → Kept (after_block x a n)
unfolding block_fits
block-kept x a n k q m j =
    let f = simp and_is at m in
    let h = (leb-is (x.blocks.equations + n) x.sizes.variables).0 f.0.1 in
    elim (or-out (ltb (suc x.blocks.count) x.sizes.blocks) (eqb (x.blocks.equations + n) x.sizes.variables) f.1) [
      | inl e ↦ let g = (ltb-is (suc x.blocks.count) x.sizes.blocks).0 e in omega arith
      | inr e ↦ let g = (eqb_is (x.blocks.equations + n) x.sizes.variables).0 e in omega arith
    ]

kept_by : (l : Lengths) (x y : Sofar) (r : Record) → Kept x → Stepped l x r (next (inside y)) → Kept y
unfolding block_fits
kept_by l x y r k (label s v m) =
    let q = simp tests at m.0 in
    let h = (ltb-is s.0 x.sizes.states).0 (simp and_is at m.1.0).0.0 in omega arith
kept_by l x y r k (block a n m) = let q = simp tests at m.0 in block-kept x a n k (q.0, q.1) m.1.0 ((leb-is a 1).0 m.1.1.0)
kept_by l x y r k (equation o a b m) = let h = (ltb-is 0 x.blocks.due).0 m.0 in omega arith
kept_by l x y r k (lives m) = omega arith
kept_by l x y r k (sign c o a b m) = let q = simp tests at m.0 in omega arith
kept_by l x y r k (move v m) = let h = (ltb-is x.moves.count (min most_moves l.moves)).0 m.1.1.1.0 in omega arith

pub step_kept : (l : Lengths) (x y : Sofar) (r : Record) → Kept x → plain l (inside x) (numbers_of r) ≡ next (inside y) → Kept y
step_kept l x y r k e = kept_by l x y r k (rw e at (stepped l x r))

-- What is still to come, counted before and after a step.
pub counted-by : (l : Lengths) (x y : Sofar) (r : Record) (o : Outcome Model) → Stepped l x r (next (inside y))
    → summary_after x.moves.count (onto (put (inside x) (numbers_of r)) o) ≡ summary_after y.moves.count o
unfolding put
counted-by l x y r (refused n p) t = refl
counted-by l x y r (accepted b) (label s v m) = refl
counted-by l x y r (accepted b) (block a n m) = refl
counted-by l x y r (accepted b) (equation o a c m) = refl
counted-by l x y r (accepted b) (lives m) = refl
counted-by l x y r (accepted b) (sign k o a c m) = refl
counted-by l x y r (accepted b) (move v m) = let e : x.moves.count + suc (length b.moves) ≡ suc x.moves.count + length b.moves = omega arith in rw e refl

-- Two records at one place are one, and it has one step.
stop-by : (l : Lengths) (st : State) (t u : Parts) (p : ℕ) (r : Rec) → t ≡ part p r u → ((st' : State) → plain l st r ≡ next st' → ⊥) → Stops l st t
stop-by l st t u p r e f q r' v st' h k = let w : r ≡ r' = cc in f st' (rw w k)

-- Nothing to read at the place.
pub turned-broken : (l : Lengths) (s : List ℕ) (st : State) (at : ℕ) → record_at s at ≡ None → Turned l s st at (stop Why.Broken at)
unfolding read_on run
turned-broken l s st at e =
    let h : parts_at s at ≡ cond (ltb at (length s)) (broken at) (ends at) = rw e at (parts-at s at) in
    elim (tell true (ltb at (length s))) [
      | inl t ↦ let k : parts_at s at ≡ broken at = h ∙ rw t refl in (rw k refl, λ p r u st' w z. let b : ◌≡◌ {A = ℕ} 0 1 = cc in absurd (omega arith))
      | inr t ↦ let k : parts_at s at ≡ ends at = h ∙ rw t refl in (rw k refl, λ p r u st' w z. let b : ◌≡◌ {A = ℕ} 0 1 = cc in absurd (omega arith))
    ]

module _ (l : Lengths) (s : List ℕ) (st : State) (at n : ℕ) (r : Record) (got : record_at s at ≡ Some (r, n)) where
  there : PartsBy s at (Some (r, n))
  there = rw got at (parts-at s at)

  -- A record that is refused.
  pub turned-no : (e : Refusal) → plain l st (numbers_of r) ≡ no (number_of e) → Turned l s st at (stop e at)
  unfolding read_on run
  turned-no e h = (
    rw (there.2, h) refl,
    stop-by l st (parts_at s at) (parts_at s n) at (numbers_of r) there.2 (λ st' k. let b : ◌≡◌ {A = ℕ} 0 1 = cc in omega arith),
  )

  -- A record that goes on.
  pub turned-next : (y : Progress) → plain l st (numbers_of r) ≡ next (inside (sofar_of y)) → KeptIn y → Goes l s st at r y n
  turned-next y h k = record { on = there.0; inside_bytes = there.1; stands = there.2; got = got; steps = h; kept = k }

-- What stands after the end record.
after-end : (l : Lengths) (s : List ℕ) (st : State) (n : ℕ) (rd : Read) → PartsBy s n rd
    → at_end (plain l) put last st (parts_at s n) ≡ cond (ltb n (length s)) (refused 2 n) (accepted (last st))
after-end l s st n (Some (r, k)) h = rw (h.2, lt-ltb n (length s) (omega arith)) refl
after-end l s st n None h =
    elim (tell true (ltb n (length s))) [
      | inl t ↦ rw (h, t) refl
      | inr t ↦ rw (h, t) refl
    ]

-- The end record.
pub turned-over : (l : Lengths) (s : List ℕ) (x : Progress) (at n : ℕ) (r : Record) → record_at s at ≡ Some (r, n) → plain l (inside (sofar_of x)) (numbers_of r) ≡ over
    → Turned l s (inside (sofar_of x)) at (end_turn x n (length s))
unfolding read_on run end_turn last
turned-over l s x at n r got h =
    let w = there l s (inside (sofar_of x)) at n r got in
    let e = after-end l s (inside (sofar_of x)) n (record_at s n) (parts-at s n) in
    let q : Stops l (inside (sofar_of x)) (parts_at s at) =
    stop-by l (inside (sofar_of x)) (parts_at s at) (parts_at s n) at (numbers_of r) w.2 (λ st' k. let b : ◌≡◌ {A = ℕ} 0 1 = cc in omega arith) in
    elim (tell true (ltb n (length s))) [
      | inl t ↦ rw t (rw (w.2, h, e, t) refl, q)
      | inr t ↦ rw t (rw (w.2, h, e, t) (let z : x.moves.count ≡ x.moves.count + 0 = omega arith in rw (← z) refl), q)
    ]

-- A sizes record that fails a demand, and one that passes.
pub sizes-no : (l : Lengths) (z : Sizes) (k : ℕ) → Fails k (sizes_demands l (numbers_of (R.Sizes z)))
    → plain l before (numbers_of (R.Sizes z)) ≡ no (raised k (sizes_demands l (numbers_of (R.Sizes z))))
unfolding plain
sizes-no l z k f = sym (fails k (sizes_demands l (numbers_of (R.Sizes z))) (next (inside (started z))) f)

pub sizes-next : (l : Lengths) (z : Sizes) → Meets (sizes_demands l (numbers_of (R.Sizes z))) → plain l before (numbers_of (R.Sizes z)) ≡ next (inside (started z))
unfolding plain
sizes-next l z f = sym (meets (sizes_demands l (numbers_of (R.Sizes z))) (next (inside (started z))) f)

-- Any other record is not due there.
pub sizes-due : (l : Lengths) (r : Record) → Other (1 ∷ []) r → plain l before (numbers_of r) ≡ no 2
unfolding plain
sizes-due l r m = rw (other-kind 1 r m) refl

-- What has been read after the sizes is inside the limits.
pub started-kept : (z : Sizes) → sizes_ok z ≡ true → Kept (started z)
started-kept z h = let k = small z h in omega arith

-- After the first record nothing but the sizes has been read.
pub first-is : (l : Lengths) (r : Rec) (y : Sofar) → plain l before r ≡ next (inside y) → y ≡ started (sizes_of r)
unfolding plain
first-is l r y e =
    elim (judged (sizes_demands l r) (next (inside (started (sizes_of r))))) [
      | inl m ↦ cc
      | inr m ↦ let z : ◌≡◌ {A = ℕ} 0 1 = cc in absurd (omega arith)
    ]
