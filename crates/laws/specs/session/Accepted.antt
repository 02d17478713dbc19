-- What it says that a load or a batch was accepted, and what then lies in the rooms. Assumes nothing.
use Rattle.std.specs.Prelude.{◌≡◌, refl, Bool, true, false, List, [], ◌∷◌, ℕ, ◌≤◌, ◌<◌, length, get_or, take, drop, eqb, leb}
use Rattle.std.proofs.Common.{sym, ap, ◌∙◌, subst, inl, inr, arith, take_at}
use Rattle.std.proofs.Math.ListN.{get_or-append}
use Rattle.lists.specs.Marks.{mark_of}
use Rattle.lists.specs.Lists.{all, bit, fill}
use Rattle.lists.specs.Smallest.{at}
use Rattle.lists.specs.Tests.{tell, and_in, and_left, and_is}
use Rattle.lists.specs.TableLaws.{bit-back, listed-is, listed-length, listed-most}
use Rattle.rules.specs.Moves.{stamp_of}
use Rattle.rules.specs.Model.{Model, WellFormed}
use Rattle.rules.specs.Records.{Outcome, refused, accepted}
use Rattle.rules.specs.Rooms.{Rooms, lengths_of, pairs_of, rooms_ok, work_ok, lent_ok}
use Rattle.rules.specs.Load.{read_model}
use Rattle.rules.specs.Spelling.{encode}
use Rattle.rules.specs.Batch.{Batch, read_batch, judge, edited}
use Rattle.rules.specs.Values.{Values, solve}
use Rattle.rules.specs.Update.{changed, Turned}
use Rattle.rules.specs.Session.{held, session_of, session_demands}
use Rattle.rules.specs.Calls.{asked, and_then, value_at, bits, load_by, load, judged, marks_of, batch_by, batch}
use Rattle.rules.specs.declared.Session.{Session}
use Rattle.rules.specs.declared.Report.{Report}
use Rattle.laws.specs.bytes.RecordLaws.{AreBytes, never, Met}
use Rattle.laws.specs.bytes.ReadSpells.{read-spelling}
use Rattle.laws.specs.moves.Edits.{Judged, judge-out, batch-keeps}
use Rattle.laws.specs.session.SessionHolds.{session_ok, Holds, session-holds, laid-holds}

-- Questions that were all answered yes are demands that were met.
pub asked-out : {B : Type 0} (ds : List (ℕ × Bool)) (o : Outcome B) (b : B) → asked ds o ≡ accepted b → Met ds × (o ≡ accepted b)
asked-out [] o b e = (tt, e)
asked-out (d ∷ ds) o b e =
    elim (tell true d.1) [
      | inl t ↦ let k = asked-out ds o b (rw t at e) in ((t, k.0), k.1)
      | inr t ↦ absurd (never (rw t at e))
    ]

pub asked_in : {B : Type 0} (ds : List (ℕ × Bool)) (o : Outcome B) → Met ds → asked ds o ≡ o
asked_in [] o y = refl
asked_in (d ∷ ds) o y = rw y.0 (asked_in ds o y.1)

pub then-out : {A B : Type 0} (o : Outcome A) (f : A → Outcome B) (b : B) → and_then o f ≡ accepted b → (a : A) × (o ≡ accepted a) × (f a ≡ accepted b)
then-out (refused n p) f b e = absurd (never e)
then-out (accepted a) f b e = (a, refl, e)

-- What lies in a filled room.
pub filled_at : (new room : List ℕ) (p : ℕ) → p < length new → get_or (fill new room) p 0 ≡ get_or new p 0
filled_at new room p h = get_or-append new (drop (length new) room) 0 p h

-- Values written into a room are the values that it holds.
pub values-held : (n : ℕ) (v : Values) (room : List ℕ) (p : ℕ) → p < n → value_at (fill (bits n v) room) p ≡ v p
values-held n v room p h =
    let l = listed-length 0 n (λ p. bit (v p)) in
    ap (λ (x : ℕ). eqb x 1) (filled_at (bits n v) room p (omega arith) ∙ listed-is n (λ p. bit (v p)) p h) ∙ bit-back (v p)

-- A truth value as a number is at most 1.
pub bit-small : (b : Bool) → bit b ≤ 1
bit-small true = omega arith
bit-small false = omega arith

pub bits_small : (n : ℕ) (v : Values) → all (λ x. leb x 1) (bits n v) ≡ true
bits_small n v = listed-most 0 n (λ p. bit (v p)) 1 (λ p. bit-small (v p))

pub marks-small : (n : ℕ) (t : Turned) → all (λ x. leb x 3) (marks_of n t) ≡ true
marks-small n t = listed-most 0 n (λ p. mark_of (at t.shifted p) (at t.settled p)) 3 (λ p. three (at t.shifted p) (at t.settled p))
  where
    three : (a b : Bool) → mark_of a b ≤ 3
    three true true = omega arith
    three true false = omega arith
    three false true = omega arith
    three false false = omega arith

-- A session as a load leaves it, its marks aside: the rooms hold a model inside the limits, the small part is the model's,
-- and the values are the ones found for it.
pub record Solved (s : Session) (l : Rooms) (m : Model) : Type 0 where
  pub model : WellFormed m
  pub holds : Holds s l m
  pub small : s ≡ session_of m
  pub values : take (pairs_of m.sizes) l.values ≡ bits (pairs_of m.sizes) (at (solve m))

-- An accepted load: the bytes spell a model inside the limits that fits the rooms.
pub record WasLoaded (l : Rooms) (bytes : List ℕ) (m : Model) : Type 0 where
  pub model : WellFormed m
  pub spelled : encode m ≡ bytes
  pub rooms : lent_ok (lengths_of l) m.sizes ≡ true
  pub room : length m.moves ≤ length l.moves
  pub is : load l bytes ≡ load_by l (accepted m)

pub load-out : (l : Rooms) (bytes : List ℕ) (s : Session) → AreBytes bytes → (load l bytes).answer ≡ accepted s → (m : Model) × WasLoaded l bytes m × (s ≡ session_of m)
unfolding load
load-out l bytes s y e = go (read_model (lengths_of l) bytes) refl e
  where
    go : (o : Outcome Model) → read_model (lengths_of l) bytes ≡ o → (load_by l o).answer ≡ accepted s → (m : Model) × WasLoaded l bytes m × (s ≡ session_of m)
    go (refused n p) q h = absurd (never h)
    go (accepted m) q h =
        let k = read-spelling (lengths_of l) bytes m y q in
        (m, record { model = k.0; spelled = k.1; rooms = k.2; room = k.3; is = ap (load_by l) q }, cc)

-- The rooms after an accepted load.
pub load-solved : (l : Rooms) (m : Model) → WellFormed m → lent_ok (lengths_of l) m.sizes ≡ true → length m.moves ≤ length l.moves
    → Solved (session_of m) (load_by l (accepted m)).rooms m
unfolding lent_ok
load-solved l m w r c =
    let n = pairs_of m.sizes in
    let vs = bits n (at (solve m)) in
    let len : length vs ≡ n = listed-length 0 n (λ p. bit (at (solve m) p)) in
    record {
      model = w;
      holds = laid-holds m vs l w len (bits_small n (at (solve m))) (and_left (rooms_ok (lengths_of l) m.sizes) _ r) c;
      small = refl;
      values = take_at vs (drop (length vs) l.values) n len;
    }

-- An accepted batch: the session was good, the rooms to work in long enough, and the bytes spell a batch with which nothing is wrong.
pub record WasBatch (s : Session) (l : Rooms) (bytes : List ℕ) (b : Batch) : Type 0 where
  pub session : session_ok s l ≡ true
  pub work : work_ok (lengths_of l) s.sizes ≡ true
  pub read : read_batch s.sizes bytes ≡ accepted b
  pub stamp : b.stamp ≡ stamp_of (held s l).moves
  pub good : Judged (held s l).moves b.changes
  pub model : WellFormed (changed b.changes (held s l))
  pub room : length (edited b.changes (held s l).moves) ≤ length l.moves
  pub is : batch s l bytes ≡ batch_by s l (accepted b)

pub judged-out : (s : Session) (l : Rooms) (bytes : List ℕ) (b : Batch) → AreBytes bytes → judged s l bytes ≡ accepted b → WasBatch s l bytes b
unfolding judged batch lent_ok
judged-out s l bytes b y e =
    let a = asked-out (session_demands lent_ok s l) _ b e in
    let long = (and_is (rooms_ok (lengths_of l) s.sizes) (work_ok (lengths_of l) s.sizes)).0 a.0.1.0 in
    let ok : session_ok s l ≡ true = and_in (and_in a.0.0 long.0) a.0.1.1.0 in
    let t = then-out (read_batch s.sizes bytes) (judge s (length l.moves) (held s l).moves) b a.1 in
    let j = judge-out s (length l.moves) (held s l).moves t.0 b t.2 in
    let h = session-holds s l ok in
    let k = batch-keeps s (held s l) refl refl (length l.moves) bytes t.0 b h.0 y t.1 t.2 in
    let q = j.3 in
    record {
      session = ok;
      work = long.1;
      read = t.1 ∙ ap accepted (sym q);
      stamp = ap (λ (x : Batch). x.stamp) q ∙ j.0;
      good = subst (λ (x : Batch). Judged (held s l).moves x.changes) (sym q) j.1;
      model = subst (λ (x : Batch). WellFormed (changed x.changes (held s l))) (sym q) k.0;
      room = subst (λ (x : Batch). length (edited x.changes (held s l).moves) ≤ length l.moves) (sym q) k.1;
      is = ap (batch_by s l) e;
    }

pub batch-out : (s : Session) (l : Rooms) (bytes : List ℕ) (r : Report) → AreBytes bytes → (batch s l bytes).answer ≡ accepted r → (b : Batch) × WasBatch s l bytes b
unfolding batch
batch-out s l bytes r y e = go (judged s l bytes) refl e
  where
    go : (o : Outcome Batch) → judged s l bytes ≡ o → (batch_by s l o).answer ≡ accepted r → (b : Batch) × WasBatch s l bytes b
    go (refused n p) q h = absurd (never h)
    go (accepted b) q h = (b, judged-out s l bytes b y q)
