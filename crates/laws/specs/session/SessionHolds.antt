-- When the rooms hold a model: exactly where the session's check passes, and always after an accepted load or batch.
-- Assumes nothing.
use Rattle.std.specs.Prelude.{◌≡◌, refl, Bool, true, ◌&&◌, take, drop, leb}
use Rattle.std.proofs.Common.{sym, ap₂, ◌∙◌, subst, arith, length-take, length-append, length-drop}
use Rattle.std.proofs.Math.Path.{ap}
use mathlib.Core.List.{List, [], ◌∷◌, ◌++◌, map, append_assoc}
use Prim.Native.Nat.{ℕ, zero, suc, ◌+◌, ◌-◌, ◌*◌, ◌/◌, ◌%◌, ◌≤◌, ◌<◌, min}
use Rattle.std.proofs.Math.ListN.{length, replicate, length-map, length-replicate}
use Rattle.std.proofs.Math.Seq.{take_at}
use Rattle.lists.specs.Lists.{all, fill}
use Rattle.lists.specs.Tests.{tests, and_in, and_is, leb-is, eqb_is}
use Rattle.rules.specs.Limits.{most_moves, sizes_ok}
use Rattle.rules.specs.Moves.{stamp_of}
use Rattle.rules.specs.Model.{Model, well_formed, WellFormed, sign_ok, equation_in}
use Rattle.rules.specs.declared.Equation.{Equation}
use Rattle.rules.specs.Rooms.{Rooms, lengths_of, pairs_of, rooms_ok, index_after, queue_after}
use Rattle.rules.specs.Session.{word, unword, held, session_of, counts_ok, rest_ok}
use Rattle.rules.specs.declared.Sizes.{Sizes}
use Rattle.rules.specs.declared.Session.{Session}
use Rattle.words.specs.WordLaws.{words-unwords, unword-word}
use Rattle.laws.specs.chains.Named.{names-well, style-sign}
use Rattle.laws.specs.bytes.ReadAccepts.{operands-small}

-- All that a writing asks of a session; a batch asks the rooms to work in besides.
abbrev pub session_ok : Session → Rooms → Bool
session_ok s l = counts_ok s l && rooms_ok (lengths_of l) s.sizes && rest_ok s l

-- The rooms hold the model m.
pub record Holds (s : Session) (l : Rooms) (m : Model) : Type 0 where
  pub sizes : m.sizes ≡ s.sizes
  pub live : m.live ≡ s.live
  pub labels : take s.sizes.states l.labels ≡ m.labels
  pub equations : take s.sizes.variables l.equations ≡ map word m.equations
  pub moves : take s.moves l.moves ≡ m.moves
  pub count : s.moves ≡ length m.moves
  pub stamp : s.stamp ≡ stamp_of m.moves
  pub values : all (λ v. leb v 1) (take (pairs_of s.sizes) l.values) ≡ true
  pub marks : all (λ v. leb v 3) (take (pairs_of s.sizes) l.marks) ≡ true
  pub rooms : rooms_ok (lengths_of l) s.sizes ≡ true
  pub room : length m.moves ≤ length l.moves

-- Equations in range are what their words hold.
pub signs-unwords : (z : Sizes) → sizes_ok z ≡ true → (es : List Equation)
    → ((j : ℕ) → j < length es → sign_ok z (equation_in es j) ≡ true) → map unword (map word es) ≡ es
signs-unwords z ok [] h = refl
signs-unwords z ok (e ∷ es) h =
    let f = simp and_is at (h 0 (omega arith)) in
    let o = operands-small z ok e.operator e.first e.second f.1 in
    ap₂ (λ (x : Equation) (t : List Equation). x ∷ t) (unword-word e o.0 o.1 o.2 ((leb-is e.kind 1).0 f.0))
    (signs-unwords z ok es (λ j l. h (suc j) (omega arith)))

-- Where the check passes, the rooms hold the model that is cut out of them, and it is inside the limits.
pub session-holds : (s : Session) (l : Rooms) → session_ok s l ≡ true → WellFormed (held s l) × Holds s l (held s l)
unfolding counts_ok rest_ok
session-holds s l h =
    let k = simp and_is at h in
    let c = (leb-is s.moves (min most_moves (length l.moves))).0 k.0.0.1.1 in
    let n : s.moves ≡ length (take s.moves l.moves) = rw length-take (omega arith) in (
      k.1.0.0.0,
      record {
        sizes = refl;
        live = refl;
        labels = refl;
        equations = sym (words-unwords _);
        moves = refl;
        count = n;
        stamp = (eqb_is _ _).0 k.1.1;
        values = k.1.0.0.1;
        marks = k.1.0.1;
        rooms = k.0.1;
        room = omega arith;
      },
    )

-- Where the rooms hold a model inside the limits, the check passes, and that model is cut out of them.
pub holds-session : (s : Session) (l : Rooms) (m : Model) → WellFormed m → Holds s l m → (held s l ≡ m) × (session_ok s l ≡ true)
unfolding counts_ok rest_ok well_formed
holds-session s l m w h = (e, ok)
  where
    e : held s l ≡ m
    e =
        let k = simp and_is at w in
        let u : map unword (take s.sizes.variables l.equations) ≡ m.equations =
        ap (map unword) h.equations ∙ signs-unwords m.sizes k.0.0.0.0.0 m.equations (style-sign m.sizes m.equations k.0.0.1) in
        λ i. record { sizes = sym h.sizes i; live = sym h.live i; labels = h.labels i; equations = u i; moves = h.moves i }

    ok : session_ok s l ≡ true
    ok =
        let k = simp and_is at w in
        let c = (leb-is (length m.moves) most_moves).0 k.1.0 in
        let b = rw h.live at k.1.1.0 in
        let n : s.moves ≤ min most_moves (length l.moves) = omega (arith, h.count, h.room) in
        let z = rw h.sizes at k.0.0.0.0.0 in
        let f : well_formed (held s l) ≡ true = subst (λ (x : Model). well_formed x ≡ true) (sym e) w in
        let t : s.stamp ≡ stamp_of (take s.moves l.moves) = rw h.moves h.stamp in
        and_in (and_in (and_in z (and_in b ((leb-is _ _).1 n))) h.rooms) (and_in (and_in (and_in f h.values) h.marks) ((eqb_is _ _).1 t))

-- A room keeps its length when its first places are filled.
pub fill-length : (new room : List ℕ) → length new ≤ length room → length (fill new room) ≡ length room
fill-length new room h = simp (length-append, length-drop) (omega arith)

-- The rooms that a load lays a model into, with these values; and they hold it.
module _ (m : Model) (values : List ℕ) (l : Rooms) where
  abbrev pub laid : Rooms
  laid = record {
    labels = fill m.labels l.labels;
    equations = fill (map word m.equations) l.equations;
    values = fill values l.values;
    marks = fill (replicate (pairs_of m.sizes) 0) l.marks;
    moves = fill m.moves l.moves;
    index = index_after m.sizes (length l.moves) l.index;
    queue = queue_after m.sizes l.queue;
  }

  marks-zero : (n : ℕ) → all (λ v. leb v 3) (replicate n 0) ≡ true
  marks-zero zero = refl
  marks-zero (suc n) = marks-zero n

  pub laid-holds : WellFormed m → length values ≡ pairs_of m.sizes → all (λ v. leb v 1) values ≡ true
      → rooms_ok (lengths_of l) m.sizes ≡ true → length m.moves ≤ length l.moves → Holds (session_of m) laid m
  unfolding well_formed rooms_ok
  laid-holds w n v r c =
      let k = simp and_is at w in
      let q = simp tests at r in
      let ls = (eqb_is (length m.labels) m.sizes.states).0 k.0.0.0.0.1 in
      let es = (names-well m.sizes m.equations k.0.0.1).count in
      let en : length (map word m.equations) ≡ m.sizes.variables = rw length-map (omega arith) in
      let zs : List ℕ = replicate (pairs_of m.sizes) 0 in
      let rn : length zs ≡ pairs_of m.sizes = length-replicate (pairs_of m.sizes) 0 in
      let e1 = fill-length m.labels l.labels (omega arith) in
      let e2 = fill-length (map word m.equations) l.equations (omega arith) in
      let e3 = fill-length values l.values (omega arith) in
      let e4 = fill-length zs l.marks (omega arith) in
      record {
        sizes = refl;
        live = refl;
        labels = take_at m.labels _ m.sizes.states ls;
        equations = take_at (map word m.equations) _ m.sizes.variables en;
        moves = take_at m.moves _ (length m.moves) refl;
        count = refl;
        stamp = refl;
        values = rw (take_at values (drop (length values) l.values) (pairs_of m.sizes) n) v;
        marks = rw (take_at zs (drop (length zs) l.marks) (pairs_of m.sizes) rn) (marks-zero (pairs_of m.sizes));
        rooms = rw (e1, e2, e3, e4) r;
        room = rw (fill-length m.moves l.moves c) c;
      }

-- The rooms after a batch, where n is the model with its new moves; and they hold that.
module _ (s : Session) (l : Rooms) (m n : Model) (values marks : List ℕ) where
  abbrev pub moved_to : Rooms
  moved_to = record {
    labels = l.labels;
    equations = l.equations;
    values = fill values l.values;
    marks = fill marks l.marks;
    moves = fill (n.moves ++ replicate (s.moves - length n.moves) 0) l.moves;
    index = index_after n.sizes (length l.moves) l.index;
    queue = queue_after n.sizes l.queue;
  }

  pub moved_holds : Holds s l m → n.sizes ≡ m.sizes → n.live ≡ m.live → n.labels ≡ m.labels → n.equations ≡ m.equations
      → length values ≡ pairs_of m.sizes → all (λ v. leb v 1) values ≡ true → length marks ≡ pairs_of m.sizes → all (λ v. leb v 3) marks ≡ true
      → length n.moves ≤ length l.moves → Holds (session_of n) moved_to n
  unfolding rooms_ok
  moved_holds h ez eb el ee vn vb kn kb c =
      let r = simp tests at h.rooms in
      let z : n.sizes ≡ s.sizes = ez ∙ h.sizes in
      let pv : length values ≡ pairs_of s.sizes = vn ∙ ap pairs_of h.sizes in
      let pk : length marks ≡ pairs_of s.sizes = kn ∙ ap pairs_of h.sizes in
      let e3 = fill-length values l.values (omega arith) in
      let e4 = fill-length marks l.marks (omega arith) in
      let cnt = h.count in
      let rm = h.room in
      let e5 = fill-length (n.moves ++ replicate (s.moves - length n.moves) 0) l.moves (simp (length-append, length-replicate) (omega arith)) in
      record {
        sizes = refl;
        live = refl;
        labels = rw (z, el) h.labels;
        equations = rw (z, ee) h.equations;
        moves = rw append_assoc (take_at n.moves _ (length n.moves) refl);
        count = refl;
        stamp = refl;
        values = rw (z, take_at values (drop (length values) l.values) (pairs_of s.sizes) pv) vb;
        marks = rw (z, take_at marks (drop (length marks) l.marks) (pairs_of s.sizes) pk) kb;
        rooms = rw (z, e3, e4) h.rooms;
        room = rw e5 c;
      }
