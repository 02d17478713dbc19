-- A part prints at most 16 bytes for each of its own, and the model's part at most 16 more. Assumes nothing.
use Rattle.std.specs.Prelude.{◌≡◌, Bool, true, ◌&&◌, List, [], ◌∷◌, ℕ, zero, suc, ◌+◌, ◌≤◌, ◌<◌, leb, length}
use Rattle.std.proofs.Math.Path.{refl}
use Rattle.std.proofs.Common.{ap, inl, inr, arith}
use Rattle.lists.specs.Tests.{tell, and_left}
use Rattle.rules.specs.Limits.{sizes_ok}
use Rattle.rules.specs.Model.{Model}
use Rattle.rules.specs.Records.{Rec, widths, known, body_of, bytes_of, Parts, ends, broken, part, parts_from, parts, Outcome, refused, accepted, Turn, no, back, next, over, onto, at_end, on_turn, run}
use Rattle.rules.specs.Spelling.{records, encode}
use Rattle.rules.specs.Rooms.{Rooms, Lengths, lengths_of, lent_ok}
use Rattle.rules.specs.Load.{read_model, step, put, last, before, settle_style}
use Rattle.rules.specs.Batch.{Change, Batch, change_recs, encode_batch, step_batch, put_batch, empty_batch, first, read_batch, judge}
use Rattle.rules.specs.Session.{held, counts_ok, session_demands}
use Rattle.rules.specs.Calls.{asked, and_then, load_by, load, judged, batch_by, batch}
use Rattle.rules.specs.declared.Session.{Session}
use Rattle.rules.specs.declared.Sizes.{Sizes}
use Rattle.laws.specs.bytes.RecordLaws.{AreBytes}
use Rattle.laws.specs.refusals.Numbered.{paper-few}
use Rattle.laws.specs.demands.Refusals.{Told, load_told, batch-told}
use Rattle.laws.specs.bytes.BatchReads.{read-batch-spelling}
use Rattle.laws.specs.bytes.ReadSpells.{read-spelling}
use Rattle.program_lines.specs.Lengths.{refused-few}
use Rattle.program_answers.specs.AnswerLines.{load_prints, batch_prints}

-- No place of the records lies past n.
abbrev Within : ℕ → Parts → Type 0
Within n (ends p) = p ≤ n
Within n (broken p) = p ≤ n
Within n (part p r t) = (p ≤ n) × Within n t

-- The records of bytes stand within them.
parts_within : (n skip p : ℕ) (s : List ℕ) → p + length s ≤ n → Within n (parts_from skip p s)
unfolding parts_from
parts_within n zero p [] h = omega arith
parts_within n (suc k) p [] h = omega arith
parts_within n (suc k) p (b ∷ s) h = parts_within n k (suc p) s (omega arith)
parts_within n zero p (k ∷ s) h =
    let i = parts_within n (body_of (widths k)) (suc p) s (omega arith) in
    elim (tell true (known k && leb (body_of (widths k)) (length s))) [ inl t ↦ rw t (omega arith, i) | inr t ↦ rw t (omega arith) ]

-- No refusal stands past n.
abbrev Placed : {B : Type 0} → ℕ → Outcome B → Type 0
Placed n (refused k p) = p ≤ n
Placed n (accepted b) = Unit {0}

-- A run of records is refused at one of their places.
module _ {S B : Type 0} (n : ℕ) (step : S → Rec → Turn S) (put : S → Rec → B → B) (last : S → B) where
  onto-placed : (f : B → B) (o : Outcome B) → Placed n o → Placed n (onto f o)
  onto-placed f (refused k p) h = h
  onto-placed f (accepted b) h = tt

  end-placed : (st : S) (t : Parts) → Within n t → Placed n (at_end step put last st t)
  end-placed st (ends p) h = tt
  end-placed st (broken p) h = h
  end-placed st (part p r t) h = h.0

  turn-placed : (k : S → Outcome B) → ((st : S) → Placed n (k st)) → (st : S) (p : ℕ) (r : Rec) (t : Parts) → p ≤ n → Within n t → (u : Turn S)
      → Placed n (on_turn step put last k st p r t u)
  turn-placed k f st p r t h w (no m) = h
  turn-placed k f st p r t h w (back m d) = omega arith
  turn-placed k f st p r t h w (next st') = onto-placed (put st r) (k st') (f st')
  turn-placed k f st p r t h w over = end-placed st t w

  run-placed : (t : Parts) (st : S) → Within n t → Placed n (run step put last st t)
  unfolding run
  run-placed (ends p) st h = h
  run-placed (broken p) st h = h
  run-placed (part p r t) st h = turn-placed (λ st'. run step put last st' t) (λ st'. run-placed t st' h.1) st p r t h.0 h.1 (step st r)

-- A refusal whose place has one digit.
abbrev Short : {B : Type 0} → Outcome B → Type 0
Short (refused k p) = p < 10
Short (accepted b) = ⊥

-- A batch has at least six bytes, and a model at least seven.
changes-more : (cs : List Change) → 1 ≤ length (bytes_of (change_recs cs))
changes-more [] = omega arith
changes-more (c ∷ cs) = omega arith

-- The stamp's record and the end record.
batch-more : (b : Batch) → 6 ≤ length (encode_batch b)
unfolding widths
batch-more b = let h = changes-more b.changes in omega arith

-- The sizes record.
model-more : (m : Model) → 7 ≤ length (encode m)
unfolding widths records
model-more m = omega arith

-- Questions asked before keep a refusal short.
asked-short : {B : Type 0} (ds : List (ℕ × Bool)) (o : Outcome B) → Short o → Short (asked ds o)
asked-short [] o h = h
asked-short (d ∷ ds) o h = elim (tell true d.1) [ inl t ↦ rw t (asked-short ds o h) | inr t ↦ rw t (omega arith) ]

-- What comes after a refusal is the refusal.
then-short : {A B : Type 0} (o : Outcome A) (f : A → Outcome B) → Short o → Short (and_then o f)
then-short (refused n p) f h = h
then-short (accepted a) f h = absurd h

-- Where a reading is refused.
read-placed : (z : Sizes) (w : List ℕ) (n : ℕ) → length w ≤ n → Placed n (read_batch z w)
unfolding read_batch
read-placed z w n h = run-placed n (step_batch z) put_batch empty_batch (parts w) first (parts_within n 0 0 w (omega arith))

-- And so for a model.
model-placed : (l : Lengths) (w : List ℕ) (n : ℕ) → length w ≤ n → Placed n (read_model l w)
unfolding read_model
model-placed l w n h =
    onto-placed n (step l) put last settle_style (run (step l) put last before (parts w)) (run-placed n (step l) put last (parts w) before (parts_within n 0 0 w (omega arith)))

-- Fewer bytes than six are never a batch.
short-batch : (z : Sizes) (w : List ℕ) → sizes_ok z ≡ true → AreBytes w → length w < 6 → Short (read_batch z w)
short-batch z w ok y l = go (read_batch z w) refl placed
  where
    placed : Placed 5 (read_batch z w)
    placed = read-placed z w 5 (omega arith)

    go : (o : Outcome Batch) → read_batch z w ≡ o → Placed 5 o → Short o
    go (refused n p) e h = omega arith
    go (accepted b) e h =
        let f = (read-batch-spelling z ok w b y e).1 in
        let g = batch-more b in
        let k = ap (λ (s : List ℕ). length s) f in
        absurd (omega arith)

-- The answer to a batch of fewer bytes than six is a short refusal.
short-judged : (s : Session) (l : Rooms) (w : List ℕ) → AreBytes w → length w < 6 → Short (judged s l w)
unfolding judged counts_ok
short-judged s l w y h =
    elim (tell true (counts_ok s l)) [
      | inr t ↦ rw t (omega arith)
      | inl t ↦
          let ok = and_left (sizes_ok s.sizes) _ t in
          asked-short (session_demands lent_ok s l) _ (then-short (read_batch s.sizes w) (judge s (length l.moves) (held s l).moves) (short-batch s.sizes w ok y h))
    ]

-- A short refusal is printed in 16 bytes: of a batch, and of a load.
module _ (s : Session) (l : Rooms) where
  by-batch : (o : Outcome Batch) → Short o → Told (batch_by s l o).answer → length (batch_prints (batch_by s l o).answer (batch_by s l o).rooms.values) ≤ 16
  by-batch (refused n p) h t = let k = paper-few n t in refused-few n p 1 (omega arith) (omega arith) (omega arith)
  by-batch (accepted b) h t = absurd h

  -- A batch of fewer than six bytes prints at most 16.
  pub short-batch-line : (w : List ℕ) → AreBytes w → length w < 6 → length (batch_prints (batch s l w).answer (batch s l w).rooms.values) ≤ 16
  unfolding batch
  short-batch-line w y h = by-batch (judged s l w) (short-judged s l w y h) (batch-told s l w)

module _ (l : Rooms) where
  by-load : (o : Outcome Model) → Short o → Told (load_by l o).answer → length (load_prints (load_by l o).answer (load_by l o).rooms.values) ≤ 16
  by-load (refused n p) h t = let k = paper-few n t in refused-few n p 1 (omega arith) (omega arith) (omega arith)
  by-load (accepted m) h t = absurd h

  -- Fewer bytes than six are never a model.
  short-model : (w : List ℕ) → AreBytes w → length w < 6 → (o : Outcome Model) → read_model (lengths_of l) w ≡ o → Placed 5 o → Short o
  short-model w y h (refused n p) e q = omega arith
  short-model w y h (accepted m) e q =
      let f = (read-spelling (lengths_of l) w m y e).1 in
      let g = model-more m in
      let k = ap (λ (s : List ℕ). length s) f in
      absurd (omega arith)

  -- A model of fewer than six bytes prints at most 16.
  pub short-load-line : (w : List ℕ) → AreBytes w → length w < 6 → length (load_prints (load l w).answer (load l w).rooms.values) ≤ 16
  unfolding load
  short-load-line w y h =
      by-load (read_model (lengths_of l) w) (short-model w y h (read_model (lengths_of l) w) refl (model-placed (lengths_of l) w 5 (omega arith))) (load_told l w)
