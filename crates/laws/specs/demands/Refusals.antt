-- Demand 1: a refusal changes nothing in any room lent, and every refusal has one of the paper's numbers.
-- Assumes nothing.
use Rattle.std.specs.Prelude.{◌≡◌, Bool, true, false, cond, ◌&&◌, List, [], ◌∷◌, ℕ, ◌+◌, min, length, eqb, leb}
use Rattle.std.proofs.Math.Path.{refl}
use Rattle.std.proofs.Common.{sym}
use Rattle.std.proofs.Math.Option.{Option, none, some}
use Rattle.lists.specs.Lists.{is, elem, some_below}
use Rattle.lists.specs.Tests.{and_left, and_right}
use Rattle.laws.specs.bytes.RecordLaws.{never}
use Rattle.laws.specs.refusals.Numbered.{paper}
use Rattle.rules.specs.Limits.{most_moves}
use Rattle.rules.specs.Moves.{stamp_of}
use Rattle.rules.specs.Records.{Rec, field, Parts, ends, broken, part, parts, Outcome, refused, accepted, Turn, no, back, next, over, demand, onto, at_end, on_turn, run}
use Rattle.rules.specs.Model.{Model, guilty, live_ok}
use Rattle.rules.specs.Rooms.{Rooms, Lengths, lengths_of, rooms_ok, lent_ok}
use Rattle.rules.specs.Load.{Sofar, State, before, inside, signed_of, signed_demands, after_signed, ask_chains, settle_style, sizes_demands, label_demands, block_demands, equation_demands, move_demands, end_demands, live_demands, step, put, last, read_model}
use Rattle.rules.specs.Batch.{Change, Batch, Place, first, after, change_demands, step_batch, put_batch, empty_batch, read_batch, repeated, misplaced, unless, first_of, edited, judge}
use Rattle.rules.specs.Spelling.{encode}
use Rattle.rules.specs.Values.{pair}
use Rattle.rules.specs.Session.{held, session_demands}
use Rattle.rules.specs.Calls.{asked, and_then, load_by, load, judged, batch_by, batch, write_by, writable, write, value_at, ask_demands, ask}
use Rattle.rules.specs.declared.State as Code
use Rattle.rules.specs.declared.Variable.{Variable}
use Rattle.rules.specs.declared.Sizes.{Sizes}
use Rattle.rules.specs.declared.Session.{Session}

-- A refusal changes nothing lent.
pub record Keeps : Type 0 where
  pub load : (l : Rooms) (bytes : List ℕ) (n p : ℕ) → (load l bytes).answer ≡ refused n p → (load l bytes).rooms ≡ l
  pub batch : (s : Session) (l : Rooms) (bytes : List ℕ) (n p : ℕ) → (batch s l bytes).answer ≡ refused n p → (batch s l bytes).rooms ≡ l
  pub write : (s : Session) (l : Rooms) (out : List ℕ) (n p : ℕ) → (write s l out).answer ≡ refused n p → (write s l out).rooms ≡ out

pub refusal-keeps : Keeps
unfolding load batch write
refusal-keeps = record {
  load = λ l bytes n p e. by-load l n p (read_model (lengths_of l) bytes) e;
  batch = λ s l bytes n p e. by-batch s l n p (judged s l bytes) e;
  write = λ s l out n p e. by-write (held s l) out n p (writable s l out) e;
}
  where
    by-load : (l : Rooms) (n p : ℕ) (o : Outcome Model) → (load_by l o).answer ≡ refused n p → (load_by l o).rooms ≡ l
    by-load l n p (refused k q) e = refl
    by-load l n p (accepted m) e = absurd (never (sym e))

    by-batch : (s : Session) (l : Rooms) (n p : ℕ) (o : Outcome Batch) → (batch_by s l o).answer ≡ refused n p → (batch_by s l o).rooms ≡ l
    by-batch s l n p (refused k q) e = refl
    by-batch s l n p (accepted b) e = absurd (never (sym e))

    by-write : (m : Model) (out : List ℕ) (n p : ℕ) (o : Outcome ℕ) → (write_by m out o).answer ≡ refused n p → (write_by m out o).rooms ≡ out
    by-write m out n p (refused k q) e = refl
    by-write m out n p (accepted k) e = absurd (never (sym e))

-- Each of a list of demands raises a refusal with one of the paper's numbers.
abbrev papers : List (ℕ × Bool) → Bool
papers [] = true
papers (d ∷ ds) = paper d.0 && papers ds

-- An outcome whose refusal, if it is one, has one of these; and so for one record, and for one judgement.
abbrev pub Told : {B : Type 0} → Outcome B → Type 0
Told (refused n p) = paper n ≡ true
Told (accepted b) = Unit {0}

abbrev ToldTurn : {S : Type 0} → Turn S → Type 0
ToldTurn (no n) = paper n ≡ true
ToldTurn (back n d) = paper n ≡ true
ToldTurn (next s) = Unit {0}
ToldTurn over = Unit {0}

abbrev ToldMaybe : Option (ℕ × ℕ) → Type 0
ToldMaybe none = Unit {0}
ToldMaybe (some r) = paper r.0 ≡ true

demand-told : {S : Type 0} (ds : List (ℕ × Bool)) (t : Turn S) → papers ds ≡ true → ToldTurn t → ToldTurn (demand ds t)
demand-told [] t h k = k
demand-told (d ∷ ds) t h k = go d.1 (demand-told ds t (and_right (paper d.0) (papers ds) h) k)
  where
    go : (x : Bool) → ToldTurn (demand ds t) → ToldTurn (cond x (demand ds t) (no d.0))
    go true r = r
    go false r = and_left (paper d.0) (papers ds) h

asked-told : {B : Type 0} (ds : List (ℕ × Bool)) (o : Outcome B) → papers ds ≡ true → Told o → Told (asked ds o)
asked-told [] o h k = k
asked-told (d ∷ ds) o h k = go d.1 (asked-told ds o (and_right (paper d.0) (papers ds) h) k)
  where
    go : (x : Bool) → Told (asked ds o) → Told (cond x (asked ds o) (refused d.0 0))
    go true r = r
    go false r = and_left (paper d.0) (papers ds) h

-- A run of records.
module _ {S B : Type 0} (step : S → Rec → Turn S) (put : S → Rec → B → B) (last : S → B) (told : (st : S) (r : Rec) → ToldTurn (step st r)) where
  onto-told : (f : B → B) (o : Outcome B) → Told o → Told (onto f o)
  onto-told f (refused n p) h = h
  onto-told f (accepted b) h = tt

  end-told : (st : S) (t : Parts) → Told (at_end step put last st t)
  end-told st (ends p) = tt
  end-told st (broken p) = refl
  end-told st (part p r t) = refl

  turn-told : (k : S → Outcome B) → ((st : S) → Told (k st)) → (st : S) (p : ℕ) (r : Rec) (t : Parts) (u : Turn S) → ToldTurn u
      → Told (on_turn step put last k st p r t u)
  turn-told k f st p r t (no n) h = h
  turn-told k f st p r t (back n d) h = h
  turn-told k f st p r t (next st') h = onto-told (put st r) (k st') (f st')
  turn-told k f st p r t over h = end-told st t

  run-told : (t : Parts) (st : S) → Told (run step put last st t)
  unfolding run
  run-told (ends p) st = refl
  run-told (broken p) st = refl
  run-told (part p r t) st = turn-told (λ st'. run step put last st' t) (λ st'. run-told t st') st p r t (step st r) (told st r)

either : {S : Type 0} (b : Bool) (t u : Turn S) → ToldTurn t → ToldTurn u → ToldTurn (cond b t u)
either true t u h k = h
either false t u h k = k

-- The question about chains, and one record.
chains-told : (x : Sofar) → ToldTurn (ask_chains x)
chains-told x = either (eqb x.blocks.equations x.sizes.variables && some_below (length x.signs) (guilty x.signs)) _ (next (inside x)) refl tt

step-told : (l : Lengths) (st : State) (r : Rec) → ToldTurn (step l st r)
unfolding step
step-told l before r = demand-told (sizes_demands l r) _ refl tt
step-told l (inside x) r =
    let a = field r 0 in
    let b = field r 1 in
    let c = field r 2 in
    let e = signed_of a b c (field r 3) in
    either (eqb r.kind 2) _ _ (demand-told (label_demands x a b) _ refl tt)
    (either (eqb r.kind 3) _ _ (demand-told (block_demands x a b) _ refl tt)
    (either (eqb r.kind 4) _ _ (demand-told (equation_demands x a b c) _ refl tt)
    (either (eqb r.kind 5) _ _ (demand-told (move_demands l x a b c) _ refl tt)
    (either (eqb r.kind 6) _ _ (demand-told (end_demands x) over refl tt)
    (either (eqb r.kind 10) _ _ (demand-told (live_demands x) _ refl tt)
    (either (eqb r.kind 11) _ _ (demand-told (signed_demands x e) _ refl (chains-told (after_signed x e))) refl))))))

change-told : (z : Sizes) (p : Place) (r : Rec) → ToldTurn (step_batch z p r)
unfolding step_batch
change-told z first r = demand-told ((2, eqb r.kind 7) ∷ []) (next (after 0)) refl tt
change-told z (after n) r = either (eqb r.kind 6) _ _ tt (demand-told (change_demands z n r) _ refl tt)

-- The judgement of a batch.
maybe : (b : Bool) (r : ℕ × ℕ) (o : Option (ℕ × ℕ)) → paper r.0 ≡ true → ToldMaybe o → ToldMaybe (cond b (some r) o)
maybe true r o h k = h
maybe false r o h k = k

repeated-told : (seen : List ℕ) (at : ℕ) (cs : List Change) → ToldMaybe (repeated seen at cs)
repeated-told seen at [] = tt
repeated-told seen at (c ∷ cs) = maybe (elem c.move seen) (9, at) _ refl (repeated-told (c.move ∷ seen) (at + 6) cs)

misplaced-told : (ms : List ℕ) (at : ℕ) (cs : List Change) → ToldMaybe (misplaced ms at cs)
misplaced-told ms at [] = tt
misplaced-told ms at (c ∷ cs) = maybe (is c.insert (elem c.move ms)) (cond c.insert 7 8, at) _ (which c.insert) (misplaced-told ms (at + 6) cs)
  where
    which : (b : Bool) → paper (cond b 7 8) ≡ true
    which true = refl
    which false = refl

unless-told : (n : ℕ) (x : Bool) → paper n ≡ true → ToldMaybe (unless n x)
unless-told n true h = tt
unless-told n false h = h

first-told : {B : Type 0} (o : Option (ℕ × ℕ)) (l : List (Option (ℕ × ℕ))) (b : B) → ToldMaybe o → Told (first_of l b) → Told (first_of (o ∷ l) b)
first-told none l b h k = k
first-told (some r) l b h k = h

judge-told : (s : Session) (room : ℕ) (ms : List ℕ) (b : Batch) → Told (judge s room ms b)
unfolding judge
judge-told s room ms b =
    let right = unless 11 (eqb b.stamp (stamp_of ms)) in
    let once = repeated [] 5 b.changes in
    let placed = misplaced ms 5 b.changes in
    let fits = unless 10 (leb (length (edited b.changes ms)) (min most_moves room)) in
    let lives = unless 16 (live_ok s.live s.sizes.states (edited b.changes ms)) in
    first-told right (once ∷ placed ∷ fits ∷ lives ∷ []) b (unless-told 11 (eqb b.stamp (stamp_of ms)) refl)
    (first-told once (placed ∷ fits ∷ lives ∷ []) b (repeated-told [] 5 b.changes)
    (first-told placed (fits ∷ lives ∷ []) b (misplaced-told ms 5 b.changes)
    (first-told fits (lives ∷ []) b (unless-told 10 (leb (length (edited b.changes ms)) (min most_moves room)) refl)
    (first-told lives [] b (unless-told 16 (live_ok s.live s.sizes.states (edited b.changes ms)) refl) tt))))

-- Every refusal of the four calls has one of the paper's numbers.
pub load_told : (l : Rooms) (bytes : List ℕ) → Told (load l bytes).answer
unfolding load read_model
load_told l bytes =
    go (read_model (lengths_of l) bytes) (style-told (run (step (lengths_of l)) put last before (parts bytes))
    (run-told (step (lengths_of l)) put last (step-told (lengths_of l)) (parts bytes) before))
  where
    style-told : (o : Outcome Model) → Told o → Told (onto settle_style o)
    style-told (refused n p) h = h
    style-told (accepted m) h = tt

    go : (o : Outcome Model) → Told o → Told (load_by l o).answer
    go (refused n p) h = h
    go (accepted m) h = tt

then-told : {A B : Type 0} (o : Outcome A) (f : A → Outcome B) → Told o → ((a : A) → Told (f a)) → Told (and_then o f)
then-told (refused n p) f h k = h
then-told (accepted a) f h k = k a

pub batch-told : (s : Session) (l : Rooms) (bytes : List ℕ) → Told (batch s l bytes).answer
unfolding batch judged read_batch
batch-told s l bytes =
    go (judged s l bytes) (asked-told (session_demands lent_ok s l) _ refl
    (then-told (read_batch s.sizes bytes) _ (run-told (step_batch s.sizes) put_batch empty_batch (change-told s.sizes) (parts bytes) first)
    (judge-told s (length l.moves) (held s l).moves)))
  where
    go : (o : Outcome Batch) → Told o → Told (batch_by s l o).answer
    go (refused n p) h = h
    go (accepted b) h = tt

pub write-told : (s : Session) (l : Rooms) (out : List ℕ) → Told (write s l out).answer
unfolding write writable
write-told s l out =
    let n = length (encode (held s l)) in
    let room : List (ℕ × Bool) = (13, leb n (length out)) ∷ [] in
    go (writable s l out) (asked-told (session_demands rooms_ok s l) (asked room (accepted n)) refl (asked-told room (accepted n) refl tt))
  where
    go : (o : Outcome ℕ) → Told o → Told (write_by (held s l) out o).answer
    go (refused n p) h = h
    go (accepted k) h = tt

pub ask-told : (s : Session) (values : List ℕ) (here : Code.State) (x : Variable) → Told (ask s values here x)
unfolding ask
ask-told s values here x = asked-told (ask_demands s values here x) (accepted (value_at values (pair s.sizes here x))) refl tt
