-- Demand 3: after any sequence of accepted and refused batches, moves, stamp and values equal a fresh load's. And demand 2,
-- of writing: the bytes come back, and loading what was written gives the session back with its marks cleared.
-- Assumes nothing.
use Rattle.std.specs.Prelude.{◌≡◌, refl, Bool, true, List, [], ◌∷◌, map, ℕ, ◌≤◌, min, length, take, drop, replicate, leb}
use Rattle.std.proofs.Common.{sym, ap, ◌∙◌, subst, arith, length-take, take_at}
use Rattle.std.proofs.lemmas.List.{length-replicate}
use Rattle.lists.specs.Lists.{fill}
use Rattle.lists.specs.Smallest.{at}
use Rattle.lists.specs.Tests.{tests, and_is, leb-is}
use Rattle.rules.specs.Records.{Outcome, refused, accepted}
use Rattle.rules.specs.Rooms.{Rooms, lengths_of, pairs_of, rooms_ok, lent_ok}
use Rattle.rules.specs.Spelling.{encode}
use Rattle.rules.specs.Batch.{Batch}
use Rattle.rules.specs.Update.{changed}
use Rattle.rules.specs.Session.{unword, held, session_of, session_demands}
use Rattle.rules.specs.Calls.{Left, asked, load_by, load, judged, batch_by, batch, write_by, writable, write}
use Rattle.rules.specs.declared.Session.{Session}
use Rattle.rules.specs.declared.Report.{Report}
use Rattle.laws.specs.bytes.RecordLaws.{AreBytes}
use Rattle.laws.specs.session.SessionHolds.{session_ok, holds-session}
use Rattle.laws.specs.session.Accepted.{asked_in, asked-out, Solved, load-solved, batch-out}
use Rattle.laws.specs.session.BatchSolved.{batch-solved}
use Rattle.laws.specs.demands.BatchEdits.{told-session}
use Rattle.laws.specs.demands.Refusals.{refusal-keeps}
use Rattle.laws.specs.demands.LoadSolves.{Solves, solved-solves, loaded-solved, load-accepts}

-- Other rooms in which the same session lies: as far as it uses them, they hold the same labels, equations, values, marks and
-- moves. How long they are, and what lies past that, may differ.
pub record SameHeld (s : Session) (l other : Rooms) : Type 0 where
  pub labels : take s.sizes.states other.labels ≡ take s.sizes.states l.labels
  pub equations : take s.sizes.variables other.equations ≡ take s.sizes.variables l.equations
  pub values : take (pairs_of s.sizes) other.values ≡ take (pairs_of s.sizes) l.values
  pub marks : take (pairs_of s.sizes) other.marks ≡ take (pairs_of s.sizes) l.marks
  pub moves : take s.moves other.moves ≡ take s.moves l.moves

-- The sessions that a load and then any sequence of batches, accepted and refused, lead to. Between two calls the caller may
-- lend other rooms with the same contents.
pub data Reached : Session → Rooms → Type 0 where
  loaded : (l : Rooms) (bytes : List ℕ) (s : Session) → AreBytes bytes → (load l bytes).answer ≡ accepted s → Reached s (load l bytes).rooms
  moved : (s : Session) (l : Rooms) (bytes : List ℕ) (r : Report) → Reached s l → AreBytes bytes → (batch s l bytes).answer ≡ accepted r
      → Reached r.session (batch s l bytes).rooms
  passed : (s : Session) (l : Rooms) (bytes : List ℕ) (n p : ℕ) → Reached s l → AreBytes bytes → (batch s l bytes).answer ≡ refused n p
      → Reached s (batch s l bytes).rooms
  lent : (s : Session) (l other : Rooms) → Reached s l → SameHeld s l other → Reached s other

-- A room that begins with the same n places as one of at least n places has at least n.
long-enough : (n : ℕ) (other room : List ℕ) → take n other ≡ take n room → n ≤ length room → n ≤ length other
long-enough n other room e h =
    let a : length (take n other) ≡ length (take n room) = ap (λ (x : List ℕ). length x) e in
    let b : min n (length other) ≡ min n (length room) = sym (length-take n other) ∙ a ∙ length-take n room in omega arith

-- Rooms lent anew with the same contents hold the same session.
lent-solved : (s : Session) (l other : Rooms) → Solved s l (held s l) → SameHeld s l other → Solved s other (held s other)
unfolding rooms_ok
lent-solved s l other h e =
    let m = held s l in
    let r = simp tests at h.holds.rooms in
    let q : held s other ≡ m =
    λ i. record { sizes = s.sizes; live = s.live; labels = e.labels i; equations = map unword (e.equations i); moves = e.moves i } in
    let count = h.holds.count in
    let room = h.holds.room in
    let c1 = long-enough s.sizes.states other.labels l.labels e.labels (omega arith) in
    let c2 = long-enough s.sizes.variables other.equations l.equations e.equations (omega arith) in
    let c3 = long-enough (pairs_of s.sizes) other.values l.values e.values (omega arith) in
    let c4 = long-enough (pairs_of s.sizes) other.marks l.marks e.marks (omega arith) in
    let c5 = long-enough s.moves other.moves l.moves e.moves (omega arith) in
    subst (Solved s other) (sym q) (record {
      model = h.model;
      holds = record {
        sizes = refl;
        live = refl;
        labels = e.labels;
        equations = e.equations ∙ h.holds.equations;
        moves = e.moves;
        count = count;
        stamp = h.holds.stamp;
        values = rw e.values h.holds.values;
        marks = rw e.marks h.holds.marks;
        rooms = simp tests (((c1, c2), c3), c4);
        room = omega arith;
      };
      small = h.small;
      values = e.values ∙ h.values;
    })

batch-moved : (s : Session) (l : Rooms) (bytes : List ℕ) (r : Report) → AreBytes bytes → (batch s l bytes).answer ≡ accepted r → Solved s l (held s l)
    → Solved r.session (batch s l bytes).rooms (held r.session (batch s l bytes).rooms)
batch-moved s l bytes r y e h =
    let k = batch-out s l bytes r y e in
    let b = k.0 in
    let w = k.1 in
    let n = changed b.changes (held s l) in
    let t = batch-solved s l bytes b h w in
    let q : r.session ≡ session_of n = told-session (sym e ∙ ap (λ (c : Left Report Rooms). c.answer) w.is) in
    let rooms : (batch s l bytes).rooms ≡ (batch_by s l (accepted b)).rooms = ap (λ (c : Left Report Rooms). c.rooms) w.is in
    let u : Solved r.session (batch s l bytes).rooms n =
    subst (λ (x : Session). Solved x (batch s l bytes).rooms n) (sym q) (subst (λ (x : Rooms). Solved (session_of n) x n) (sym rooms) t) in
    subst (Solved r.session (batch s l bytes).rooms) (sym (holds-session r.session (batch s l bytes).rooms n u.model u.holds).0) u

-- Every session so reached is as a load leaves it, its marks aside.
pub reached-solved : {s : Session} {l : Rooms} → Reached s l → Solved s l (held s l)
reached-solved (loaded l bytes s y e) = (loaded-solved l bytes s y e).0
reached-solved (moved s l bytes r h y e) = batch-moved s l bytes r y e (reached-solved h)
reached-solved (passed s l bytes n p h y e) =
    subst (λ (x : Rooms). Solved s x (held s x)) (sym (refusal-keeps.batch s l bytes n p e)) (reached-solved h)
reached-solved (lent s l other h e) = lent-solved s l other (reached-solved h) e

-- The values of every session so reached are its model's.
pub reached-solves : {s : Session} {l : Rooms} → Reached s l → Solves s l
reached-solves {s} {l} h = solved-solves s l (reached-solved h)

-- A fresh load of the bytes of a session's model, into rooms that suffice, gives that session: the same small part (sizes,
-- move count, stamp), the same model (labels, equations, moves) and the same values. All marks are 0.
pub record Reloads (s : Session) (l fresh : Rooms) (left : Left Session Rooms) : Type 0 where
  pub answer : left.answer ≡ accepted s
  pub model : held s left.rooms ≡ held s l
  pub values : take (pairs_of s.sizes) left.rooms.values ≡ take (pairs_of s.sizes) l.values
  pub marks : take (pairs_of s.sizes) left.rooms.marks ≡ replicate (pairs_of s.sizes) 0

solved-reloads : (s : Session) (l fresh : Rooms) → Solved s l (held s l) → lent_ok (lengths_of fresh) s.sizes ≡ true → s.moves ≤ length fresh.moves
    → Reloads s l fresh (load fresh (encode (held s l)))
solved-reloads s l fresh h r c =
    let m = held s l in
    let n = h.holds.count in
    let room : length m.moves ≤ length fresh.moves = omega arith in
    let e = load-accepts fresh m h.model r room in
    let t = load-solved fresh m h.model r room in
    let q = (holds-session (session_of m) (load_by fresh (accepted m)).rooms m t.model t.holds).0 in
    subst (Reloads s l fresh) (sym e) (record {
      answer = ap accepted (sym h.small);
      model = ap (λ (x : Session). held x (load_by fresh (accepted m)).rooms) h.small ∙ q;
      values = t.values ∙ sym h.values;
      marks = take_at (replicate (pairs_of s.sizes) 0) (drop (length (replicate (pairs_of s.sizes) 0)) fresh.marks) (pairs_of s.sizes) (length-replicate (pairs_of s.sizes) 0);
    })

-- After any sequence of accepted and refused batches from a load, a fresh load gives the same session.
pub batch-as-reload : (s : Session) (l fresh : Rooms) → Reached s l → lent_ok (lengths_of fresh) s.sizes ≡ true → s.moves ≤ length fresh.moves
    → Reloads s l fresh (load fresh (encode (held s l)))
batch-as-reload s l fresh h = solved-reloads s l fresh (reached-solved h)

-- Writing a session that passes its check gives the bytes of its model, where the output has room for them.
pub write-is : (s : Session) (l : Rooms) (out : List ℕ) → session_ok s l ≡ true → length (encode (held s l)) ≤ length out
    → write s l out ≡ record { answer = accepted (length (encode (held s l))); rooms = fill (encode (held s l)) out }
unfolding write writable
write-is s l out ok c =
    let k = simp and_is at ok in
    let o = asked_in ((13, leb (length (encode (held s l))) (length out)) ∷ []) (accepted (length (encode (held s l)))) ((leb-is _ _).1 c, tt) in
    let a = asked_in (session_demands rooms_ok s l) (asked ((13, leb (length (encode (held s l))) (length out)) ∷ []) (accepted (length (encode (held s l))))) (k.0.0, (k.0.1, (k.1, tt))) in
    ap (write_by (held s l) out) (a ∙ o)

-- An accepted writing answers the length of those bytes, and there was room for them.
write-out : (s : Session) (l : Rooms) (out : List ℕ) (n : ℕ) → (write s l out).answer ≡ accepted n
    → (n ≡ length (encode (held s l))) × (length (encode (held s l)) ≤ length out)
unfolding write writable
write-out s l out n e =
    let d : List (ℕ × Bool) = (13, leb (length (encode (held s l))) (length out)) ∷ [] in
    let o = go (writable s l out) e in
    let a = asked-out (session_demands rooms_ok s l) (asked d (accepted (length (encode (held s l))))) n o in
    let b = asked-out d (accepted (length (encode (held s l)))) n a.1 in
    (same b.1, (leb-is _ _).0 b.0.0)
  where
    go : (o : Outcome ℕ) → (write_by (held s l) out o).answer ≡ accepted n → o ≡ accepted n
    go (refused k p) h = h
    go (accepted k) h = h

    same : {k : ℕ} → accepted k ≡ accepted n → n ≡ k
    same e = cc

-- After a load, writing gives the bytes back.
pub write-load : (l : Rooms) (bytes : List ℕ) (s : Session) (out : List ℕ) → AreBytes bytes → (load l bytes).answer ≡ accepted s → length bytes ≤ length out
    → write s (load l bytes).rooms out ≡ record { answer = accepted (length bytes); rooms = fill bytes out }
write-load l bytes s out y e c =
    let h = loaded-solved l bytes s y e in
    let ok = (holds-session s (load l bytes).rooms (held s (load l bytes).rooms) h.0.model h.0.holds).1 in
    subst (λ (x : List ℕ). write s (load l bytes).rooms out ≡ record { answer = accepted (length x); rooms = fill x out }) h.1
    (write-is s (load l bytes).rooms out ok (subst (λ (x : List ℕ). length x ≤ length out) (sym h.1) c))

-- Loading what was written of a session reached from a load gives that session back, with its marks cleared.
pub load-write : (s : Session) (l fresh : Rooms) (out : List ℕ) (n : ℕ) → Reached s l → (write s l out).answer ≡ accepted n
    → lent_ok (lengths_of fresh) s.sizes ≡ true → s.moves ≤ length fresh.moves → Reloads s l fresh (load fresh (take n (write s l out).rooms))
load-write s l fresh out n h e r c =
    let t = reached-solved h in
    let ok = (holds-session s l (held s l) t.model t.holds).1 in
    let k = write-out s l out n e in
    let w = write-is s l out ok k.1 in
    let q : take n (write s l out).rooms ≡ encode (held s l) =
    ap (λ (x : Left ℕ (List ℕ)). take n x.rooms) w ∙ take_at (encode (held s l)) (drop (length (encode (held s l))) out) n (sym k.0) in
    subst (λ (x : List ℕ). Reloads s l fresh (load fresh x)) (sym q) (solved-reloads s l fresh t r c)
