-- A load, in the words of the code: what each way out leaves. Assumes nothing.
use Rattle.std.specs.Prelude.{◌≡◌, refl, Bool, true, ℕ, ◌+◌, ◌≤◌, take, replicate, Result, Ok, Err}
use Rattle.std.proofs.Math.Path.{sym, ap, subst}
use Rattle.std.proofs.Common.{◌∙◌, zero-add}
use mathlib.Core.List.{List}
use Rattle.std.proofs.Math.ListN.{length}
use Rattle.lists.specs.Lists.{fill}
use Rattle.lists.specs.Smallest.{at}
use Rattle.lists.specs.Tests.{tests}
use Rattle.rules.specs.Records.{Outcome, refused, accepted}
use Rattle.rules.specs.Rooms.{Rooms, rooms_with, lengths_of, pairs_of, rooms_ok, index_needs, queue_needs, work_ok, lent_ok, index_after, queue_after}
use Rattle.rules.specs.Model.{Model, WellFormed}
use Rattle.rules.specs.Moves.{stamp_of}
use Rattle.rules.specs.Load.{read_model}
use Rattle.rules.specs.Values.{solve}
use Rattle.rules.specs.Session.{session_of}
use Rattle.rules.specs.Calls.{bits, load_by, load, leaves}
use Rattle.rules.specs.Answers.{number_of}
use Rattle.rules.specs.declared.Refused.{Refused}
use Rattle.rules.specs.declared.Sizes.{Sizes}
use Rattle.laws.specs.bytes.RecordLaws.{AreBytes, never}
use Rattle.laws.specs.bytes.ReadSpells.{read-spelling}
use Rattle.laws.specs.session.SessionHolds.{holds-session, fill-length}
use Rattle.laws.specs.session.Accepted.{load-solved}
use Rattle.laws.specs.model.LiveApart.{still, still-good, solve-still}
use Rattle.model_judge.specs.Turning.{summary}
use Rattle.model_judge.specs.declared.Summary.{Summary}
use Rattle.model_store.specs.Stored.{Stored, three, stored_by, ReadInto}
use Rattle.engine_table.specs.Lent.{table_of, Drawn}

-- The three rooms that a reading fills.
abbrev pub read_rooms : Rooms → Stored
read_rooms l = three l.labels l.equations l.moves

-- All rooms after a reading.
abbrev pub with_read : Stored → List ℕ → List ℕ → List ℕ → List ℕ → Rooms
with_read u values marks index queue = rooms_with u.labels u.equations values marks u.moves index queue

-- A reading that refused leaves what a refused load leaves.
refused-leaves : (o : Outcome Model) (n p : ℕ) (l : Rooms) (u : Stored) → refused n p ≡ summary o → u ≡ stored_by o (read_rooms l)
    → leaves (refused n p) (with_read u l.values l.marks l.index l.queue) ≡ load_by l o
refused-leaves (refused k q) n p l u h e =
    let a : n ≡ k = cc in
    let b : p ≡ q = cc in
    λ i. record {
      answer = refused (a i) (b i);
      rooms = with_read (e i) l.values l.marks l.index l.queue;
    }
refused-leaves (accepted m) n p l u h e = absurd (never h)

-- A reading that found a model says its sizes, whether it is live, and its number of moves.
good-model : (o : Outcome Model) (z : Sizes) (live n : ℕ) → accepted (record { sizes = z; live = live; moves = n }) ≡ summary o
    → (m : Model) × (o ≡ accepted m) × (z ≡ m.sizes) × (live ≡ m.live) × (n ≡ length m.moves)
good-model (refused k q) z live n h = absurd (never (sym h))
good-model (accepted m) z live n h =
    let s : Summary = record { sizes = z; live = live; moves = n } in
    let t : Summary = record { sizes = m.sizes; live = m.live; moves = 0 + length m.moves } in
    let e : s ≡ t = cc in
    (m, refl, ap (λ (x : Summary). x.sizes) e, ap (λ (x : Summary). x.live) e, ap (λ (x : Summary). x.moves) e ∙ zero-add (length m.moves))

-- A model inside the limits that fits the rooms l.
module _ (l : Rooms) (m : Model) (w : WellFormed m) (r : lent_ok (lengths_of l) m.sizes ≡ true) (c : length m.moves ≤ length l.moves) where
  -- The three rooms with the model in front.
  abbrev laid : Stored
  laid = stored_by (accepted m) (read_rooms l)

  -- Laid into them, it is what is cut out of them again, but for the flag.
  pub laid_table : table_of m.sizes laid.labels laid.equations laid.moves (length m.moves) ≡ still m
  laid_table = ap still (holds-session (session_of m) (load_by l (accepted m)).rooms m w (load-solved l m w r c).holds).0

  -- So the rooms are long enough, and a model inside the limits lies in them.
  pub laid-drawn : Drawn m.sizes laid.labels laid.equations laid.moves (length m.moves)
  unfolding rooms_ok
  laid-drawn =
      let h = (load-solved l m w r c).holds in
      let k = simp tests at h.rooms in
      record { long_labels = k.0.0.0; long_equations = k.0.0.1; long_moves = h.room; model = subst WellFormed (sym laid_table) (still-good m w) }

-- The rooms l, and a reading of the bytes s into them that answered r and left u.
module _ (l : Rooms) (s : List ℕ) (y : AreBytes s) (r : Result Summary Refused) (u : Stored) (h : ReadInto s (lengths_of l) (read_rooms l) r u) where
  -- A refusal of the reading is the answer, and the rooms stay.
  pub load-refused : (e : Refused) → r ≡ Err e → leaves (refused (number_of e.why) e.place) (with_read u l.values l.marks l.index l.queue) ≡ load l s
  unfolding load
  load-refused e g = refused-leaves (read_model (lengths_of l) s) (number_of e.why) e.place l u (rw g at h.says) h.stores

  module _ (told : Summary) (g : r ≡ Ok told) where
    -- The model that was read, and that it lies in the rooms.
    pub record Found : Type 0 where
      pub model : Model
      pub read : read_model (lengths_of l) s ≡ accepted model
      pub flag : told.live ≡ model.live
      pub count : told.moves ≡ length model.moves
      pub stored : u ≡ stored_by (accepted model) (read_rooms l)
      pub table : table_of told.sizes u.labels u.equations u.moves told.moves ≡ still model
      pub drawn : Drawn told.sizes u.labels u.equations u.moves told.moves
      pub values_room : pairs_of told.sizes ≤ length l.values
      pub marks_room : pairs_of told.sizes ≤ length l.marks
      pub moves_room : length u.moves ≡ length l.moves
      pub index_room : index_needs told.sizes (length u.moves) ≤ length l.index
      pub queue_room : queue_needs told.sizes ≤ length l.queue

    -- It is found from what the rules' reading comes to.
    found-by : (m : Model) → read_model (lengths_of l) s ≡ accepted m → told.sizes ≡ m.sizes → told.live ≡ m.live → told.moves ≡ length m.moves → Found
    unfolding rooms_ok work_ok lent_ok
    found-by m e a d b =
        let w = read-spelling (lengths_of l) s m y e in
        let t : u ≡ stored_by (accepted m) (read_rooms l) = h.stores ∙ ap (λ (o : Outcome Model). stored_by o (read_rooms l)) e in
        let k = simp tests at w.2 in
        let long : length u.moves ≡ length l.moves = ap (λ (x : Stored). length x.moves) t ∙ fill-length m.moves l.moves w.3 in
        record {
          model = m;
          read = e;
          flag = d;
          count = b;
          stored = t;
          table = rw (a, b, t) (laid_table l m w.0 w.2 w.3);
          drawn = rw (a, b, t) (laid-drawn l m w.0 w.2 w.3);
          values_room = rw a k.0.0.1;
          marks_room = rw a k.0.1;
          moves_room = long;
          index_room = rw (a, long) k.1.0;
          queue_room = rw a k.1.1;
        }

    -- And from what the code's reading answered.
    pub found : Found
    found = let q = good-model (read_model (lengths_of l) s) told.sizes told.live told.moves (rw g at h.says) in found-by q.0 q.1 q.2 q.3 q.4

    -- A model that was read is the session, and the values found for what lies in the rooms are its own.
    pub load-good : (values marks index queue : List ℕ) (stamp : ℕ)
        → values ≡ fill (bits (pairs_of told.sizes) (at (solve (table_of told.sizes u.labels u.equations u.moves told.moves)))) l.values
        → marks ≡ fill (replicate (pairs_of told.sizes) 0) l.marks → index ≡ index_after told.sizes (length u.moves) l.index → queue ≡ queue_after told.sizes l.queue → stamp ≡ stamp_of (take told.moves u.moves)
        → leaves (accepted (record { sizes = told.sizes; live = told.live; moves = told.moves; stamp = stamp })) (with_read u values marks index queue) ≡ load l s
    unfolding load
    load-good values marks index queue stamp a b j q d =
        let f = found in
        let t = f.table in
        let zs : told.sizes ≡ f.model.sizes = ap (λ (x : Model). x.sizes) t in
        let vs : values ≡ fill (bits (pairs_of f.model.sizes) (at (solve f.model))) l.values =
        a ∙ ap (λ (x : Model). fill (bits (pairs_of x.sizes) (at (solve x))) l.values) t
        ∙ ap (λ (v : List Bool). fill (bits (pairs_of f.model.sizes) (at v)) l.values) (solve-still f.model) in
        let ks : marks ≡ fill (replicate (pairs_of f.model.sizes) 0) l.marks =
        b ∙ ap (λ (x : Sizes). fill (replicate (pairs_of x) 0) l.marks) zs in
        let js : index ≡ index_after f.model.sizes (length l.moves) l.index =
        j ∙ ap (λ (x : Sizes). index_after x (length u.moves) l.index) zs ∙ ap (λ (i : ℕ). index_after f.model.sizes i l.index) f.moves_room in
        let qs : queue ≡ queue_after f.model.sizes l.queue = q ∙ ap (λ (x : Sizes). queue_after x l.queue) zs in
        let ss : stamp ≡ stamp_of f.model.moves = d ∙ ap (λ (x : Model). stamp_of x.moves) t in
        let is : leaves (accepted (record { sizes = told.sizes; live = told.live; moves = told.moves; stamp = stamp })) (with_read u values marks index queue) ≡ load_by l (accepted f.model) =
        λ i. record {
          answer = accepted (record { sizes = zs i; live = f.flag i; moves = f.count i; stamp = ss i });
          rooms = with_read (f.stored i) (vs i) (ks i) (js i) (qs i);
        } in
        is ∙ sym (ap (load_by l) f.read)
