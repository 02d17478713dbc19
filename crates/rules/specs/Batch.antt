-- What a batch is, how it is read and judged, and what it makes of the moves. Definitions only.
use Rattle.std.specs.Prelude.{Bool, true, false, cond, ◌&&◌, ◌||◌, List, [], ◌∷◌, ℕ, suc, ◌+◌, min, length, eqb, ltb, leb}
use Rattle.std.proofs.Math.Option.{Option, none, some}
use Rattle.lists.specs.Lists.{is, elem}
use Rattle.rules.specs.Limits.{most_moves, most_changes}
use Rattle.rules.specs.Moves.{pack, source, action, target, stamp_of}
use Rattle.rules.specs.Model.{move_ok, live_ok}
use Rattle.rules.specs.Records.{Rec, field, bytes_of, Turn, next, over, demand, Outcome, refused, accepted, run, parts}
use Rattle.rules.specs.Spelling.{end_rec}
use Rattle.rules.specs.declared.Sizes.{Sizes}
use Rattle.rules.specs.declared.Session.{Session}

-- An insert or a delete of a move.
pub record Change : Type 0 where
  pub insert : Bool
  pub move : ℕ

pub record Batch : Type 0 where
  pub stamp : ℕ
  pub changes : List Change

-- A batch inside the limits: a stamp of four bytes, at most 64 changes, each in range.
abbrev pub changes_ok : Sizes → List Change → Bool
changes_ok z [] = true
changes_ok z (c ∷ cs) = move_ok z (source c.move) (action c.move) (target c.move) && changes_ok z cs

abbrev pub batch_ok : Sizes → Batch → Bool
batch_ok z b = ltb b.stamp 4294967296 && leb (length b.changes) most_changes && changes_ok z b.changes

-- The spelling of a batch: its stamp, the changes, the end.
abbrev pub change_rec : Change → Rec
change_rec c =
    record { kind = cond c.insert 8 9; body = source c.move ∷ action c.move ∷ target c.move ∷ [] }

abbrev pub change_recs : List Change → List Rec
change_recs [] = end_rec ∷ []
change_recs (c ∷ cs) = change_rec c ∷ change_recs cs

abbrev pub encode_batch : Batch → List ℕ
encode_batch b = bytes_of (record { kind = 7; body = b.stamp ∷ [] } ∷ change_recs b.changes)

-- Reading, record by record: kind 7 first, then changes, of which `after` counts those that have been read.
pub data Place : Type 0 where
  first : Place
  after : ℕ → Place

-- A change: kind 8 or 9; not the 65th; in range.
abbrev pub change_demands : Sizes → ℕ → Rec → List (ℕ × Bool)
change_demands z n r =
    (2, eqb r.kind 8 || eqb r.kind 9)
    ∷ (3, ltb n most_changes)
    ∷ (4, move_ok z (field r 0) (field r 1) (field r 2))
    ∷ []

unfoldable pub step_batch : Sizes → Place → Rec → Turn Place
step_batch z first r = demand ((2, eqb r.kind 7) ∷ []) (next (after 0))
step_batch z (after n) r = cond (eqb r.kind 6) over (demand (change_demands z n r) (next (after (suc n))))

unfoldable pub put_batch : Place → Rec → Batch → Batch
put_batch first r b = record { stamp = field r 0; changes = b.changes }
put_batch (after n) r b =
    record { stamp = 0; changes = record { insert = eqb r.kind 8; move = pack (field r 0) (field r 1) (field r 2) } ∷ b.changes }

abbrev pub empty_batch : Place → Batch
empty_batch p = record { stamp = 0; changes = [] }

-- The batch that the bytes spell, or the refusal: 1 to 4.
unfoldable pub read_batch : Sizes → List ℕ → Outcome Batch
read_batch z s = run (step_batch z) put_batch empty_batch first (parts s)

-- The moves that a batch inserts, and those that it deletes.
abbrev pub inserts : List Change → List ℕ
inserts [] = []
inserts (c ∷ cs) = cond c.insert (c.move ∷ inserts cs) (inserts cs)

abbrev pub deletes : List Change → List ℕ
deletes [] = []
deletes (c ∷ cs) = cond c.insert (deletes cs) (c.move ∷ deletes cs)

-- A move taken out of a list, and put into an ascending one.
abbrev pub remove : ℕ → List ℕ → List ℕ
remove p [] = []
remove p (q ∷ l) = cond (eqb p q) (remove p l) (q ∷ remove p l)

abbrev pub insert : ℕ → List ℕ → List ℕ
insert p [] = p ∷ []
insert p (q ∷ l) = cond (ltb p q) (p ∷ q ∷ l) (q ∷ insert p l)

abbrev pub remove_all : List ℕ → List ℕ → List ℕ
remove_all [] l = l
remove_all (p ∷ ps) l = remove p (remove_all ps l)

abbrev pub insert_all : List ℕ → List ℕ → List ℕ
insert_all [] l = l
insert_all (p ∷ ps) l = insert p (insert_all ps l)

-- Moves become old less deletes plus inserts.
unfoldable pub edited : List Change → List ℕ → List ℕ
edited cs ms = insert_all (inserts cs) (remove_all (deletes cs) ms)

-- 9 at the first record that names a move again. The stamp's record has five bytes and each change six, so the first
-- change stands at 5.
abbrev pub repeated : List ℕ → ℕ → List Change → Option (ℕ × ℕ)
repeated seen at [] = none
repeated seen at (c ∷ cs) =
    let later = repeated (c.move ∷ seen) (at + 6) cs in cond (elem c.move seen) (some (9, at)) later

-- 7 at an insert of a move that is present, 8 at a delete of one that is absent, whichever comes first.
abbrev pub misplaced : List ℕ → ℕ → List Change → Option (ℕ × ℕ)
misplaced ms at [] = none
misplaced ms at (c ∷ cs) =
    let later = misplaced ms (at + 6) cs in
    cond (is c.insert (elem c.move ms)) (some (cond c.insert 7 8, at)) later

-- The refusal n at place 0, unless the test holds.
abbrev pub unless : ℕ → Bool → Option (ℕ × ℕ)
unless n true = none
unless n false = some (n, 0)

-- The first refusal of a list, or the answer where there is none.
abbrev pub first_of : {B : Type 0} → List (Option (ℕ × ℕ)) → B → Outcome B
first_of [] b = accepted b
first_of (none ∷ l) b = first_of l b
first_of (some r ∷ l) b = refused r.0 r.1

-- A batch that was read, against a session, its moves and the length of their room: 11, then 9, then 7 and 8, then 10, then 16
-- of the moves as they will be.
abbrev pub judgements : Session → ℕ → List ℕ → Batch → List (Option (ℕ × ℕ))
judgements s room ms b =
    unless 11 (eqb b.stamp (stamp_of ms))
    ∷ repeated [] 5 b.changes
    ∷ misplaced ms 5 b.changes
    ∷ unless 10 (leb (length (edited b.changes ms)) (min most_moves room))
    ∷ unless 16 (live_ok s.live s.sizes.states (edited b.changes ms))
    ∷ []

unfoldable pub judge : Session → ℕ → List ℕ → Batch → Outcome Batch
judge s room ms b = first_of (judgements s room ms b) b
