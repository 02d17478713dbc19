-- Records on the wire: how one is read and written, and how a run of them is judged. Definitions only.
use Rattle.std.specs.Prelude.{Bool, cond, ◌&&◌, List, [], ◌∷◌, ◌++◌, ℕ, zero, suc, ◌+◌, ◌-◌, ◌*◌, ◌/◌, ◌%◌, length, get_or, drop, eqb, leb}
use Rattle.lists.specs.Lists.{elem, sum_of}
use Rattle.rules.specs.declared.Move.{Move}
use Rattle.rules.specs.declared.Record.{Record}
use Rattle.rules.specs.declared.Record.TheVariants as R

-- The kinds of record: of each its number, and the numbers of its body, each by its width in bytes. Which kinds are known, and how
-- long their bodies are, follows from this table.
abbrev pub bodies : List (ℕ × List ℕ)
bodies =
    (1, 2 ∷ 1 ∷ 1 ∷ 1 ∷ 1 ∷ [])  -- sizes: states, actions, propositions, variables, blocks
    ∷ (2, 2 ∷ 4 ∷ [])  -- label: state, set of propositions
    ∷ (3, 1 ∷ 1 ∷ [])  -- block: kind of block, number of variables
    ∷ (4, 1 ∷ 1 ∷ 1 ∷ [])  -- equation: operator, first, second
    ∷ (5, 2 ∷ 1 ∷ 2 ∷ [])  -- move: source, action, target
    ∷ (6, [])  -- end
    ∷ (7, 4 ∷ [])  -- stamp: of the moves that a batch is for
    ∷ (8, 2 ∷ 1 ∷ 2 ∷ [])  -- insert: source, action, target
    ∷ (9, 2 ∷ 1 ∷ 2 ∷ [])  -- delete: source, action, target
    ∷ (10, [])  -- the model is live
    ∷ (11, 1 ∷ 1 ∷ 1 ∷ 1 ∷ [])  -- equation with a sign: sign, operator, first, second
    ∷ []

-- The numbers of the kinds in a table, and the body of a kind: the first that has its number, none where none has.
abbrev kinds_in : List (ℕ × List ℕ) → List ℕ
kinds_in [] = []
kinds_in (b ∷ bs) = b.0 ∷ kinds_in bs

abbrev body_in : List (ℕ × List ℕ) → ℕ → List ℕ
body_in [] k = []
body_in (b ∷ bs) k = cond (eqb k b.0) b.1 (body_in bs k)

abbrev pub kinds : List ℕ
kinds = kinds_in bodies

unfoldable pub widths : ℕ → List ℕ
widths k = body_in bodies k

abbrev pub known : ℕ → Bool
known k = elem k kinds

-- The length of a body.
abbrev pub body_of : List ℕ → ℕ
body_of ws = sum_of (λ w. w) ws

-- A number's bytes, the low byte first; and the number that stands at the head of the bytes.
abbrev pub digits : ℕ → ℕ → List ℕ
digits zero n = []
digits (suc w) n = n % 256 ∷ digits w (n / 256)

abbrev pub number : ℕ → List ℕ → ℕ
number zero s = 0
number (suc w) [] = 0
number (suc w) (b ∷ s) = b + 256 * number w s

-- The numbers of a body written, and read.
abbrev pub writes : List ℕ → List ℕ → List ℕ
writes [] fs = []
writes (w ∷ ws) [] = []
writes (w ∷ ws) (f ∷ fs) = digits w f ++ writes ws fs

abbrev pub reads : List ℕ → List ℕ → List ℕ
reads [] s = []
reads (w ∷ ws) s = number w s ∷ reads ws (drop w s)

-- A record: its kind and the numbers of its body.
pub record Rec : Type 0 where
  pub kind : ℕ
  pub body : List ℕ

abbrev pub field : Rec → ℕ → ℕ
field r i = get_or r.body i 0

-- Kind and numbers of each case of the code's enum.
abbrev move_numbers : Move → List ℕ
move_numbers m = m.source.0 ∷ m.action.0 ∷ m.target.0 ∷ []

abbrev pub numbers_of : Record → Rec
numbers_of (R.Sizes z) = record { kind = 1; body = z.states ∷ z.actions ∷ z.propositions ∷ z.variables ∷ z.blocks ∷ [] }
numbers_of (R.Label s v) = record { kind = 2; body = s.0 ∷ v ∷ [] }
numbers_of (R.Block k n) = record { kind = 3; body = k ∷ n ∷ [] }
numbers_of (R.Equation o a b) = record { kind = 4; body = o ∷ a ∷ b ∷ [] }
numbers_of (R.Move m) = record { kind = 5; body = move_numbers m }
numbers_of R.End = record { kind = 6; body = [] }
numbers_of (R.Stamp n) = record { kind = 7; body = n ∷ [] }
numbers_of (R.Insert m) = record { kind = 8; body = move_numbers m }
numbers_of (R.Delete m) = record { kind = 9; body = move_numbers m }
numbers_of R.Live = record { kind = 10; body = [] }
numbers_of (R.Signed k o a b) = record { kind = 11; body = k ∷ o ∷ a ∷ b ∷ [] }

-- The bytes of a record, and of several.
abbrev pub bytes : Rec → List ℕ
bytes r = r.kind ∷ writes (widths r.kind) r.body

abbrev pub bytes_of : List Rec → List ℕ
bytes_of [] = []
bytes_of (r ∷ rs) = bytes r ++ bytes_of rs

-- What bytes hold: records, each with its place; then the place where the bytes end, or the place of an unknown kind or
-- of a record that is cut off.
pub data Parts : Type 0 where
  ends : ℕ → Parts
  broken : ℕ → Parts
  part : ℕ → Rec → Parts → Parts

-- `skip` bytes of the record before are passed over; p is the place of the next byte.
unfoldable pub parts_from : ℕ → ℕ → List ℕ → Parts
parts_from skip p [] = ends p
parts_from zero p (k ∷ s) =
    cond (known k && leb (body_of (widths k)) (length s))
    (part p (record { kind = k; body = reads (widths k) s }) (parts_from (body_of (widths k)) (suc p) s))
    (broken p)
parts_from (suc n) p (b ∷ s) = parts_from n (suc p) s

abbrev pub parts : List ℕ → Parts
parts s = parts_from 0 0 s

-- What a call comes to: a refusal with its number and its place, or what is answered.
pub data Outcome (B : Type 0) : Type 0 where
  refused : ℕ → ℕ → Outcome B
  accepted : B → Outcome B

-- What one record does to what has been read so far: a refusal; a refusal at a record so many bytes before; the state
-- after it; or the end of the run.
pub data Turn (S : Type 0) : Type 0 where
  no : ℕ → Turn S
  back : ℕ → ℕ → Turn S
  next : S → Turn S
  over : Turn S

-- The demands on one record, each with the refusal that it raises: the first that fails decides.
abbrev pub demand : {S : Type 0} → List (ℕ × Bool) → Turn S → Turn S
demand [] t = t
demand (d ∷ ds) t = cond d.1 (demand ds t) (no d.0)

abbrev pub onto : {B : Type 0} → (B → B) → Outcome B → Outcome B
onto f (refused n p) = refused n p
onto f (accepted b) = accepted (f b)

-- Reading record by record. `step` judges one record, `put` puts what it says in front of what the later ones say, and
-- `last` is what is left to say at the end. Up to the end record a broken or missing record is 1; after it any byte is 2.
module _ {S B : Type 0} (step : S → Rec → Turn S) (put : S → Rec → B → B) (last : S → B) where
  abbrev pub at_end : S → Parts → Outcome B
  at_end st (ends p) = accepted (last st)
  at_end st (broken p) = refused 2 p
  at_end st (part p r t) = refused 2 p

  abbrev pub on_turn : (S → Outcome B) → S → ℕ → Rec → Parts → Turn S → Outcome B
  on_turn k st p r t (no n) = refused n p
  on_turn k st p r t (back n d) = refused n (p - d)
  on_turn k st p r t (next st') = onto (put st r) (k st')
  on_turn k st p r t over = at_end st t

  unfoldable pub run : S → Parts → Outcome B
  run st (ends p) = refused 1 p
  run st (broken p) = refused 1 p
  run st (part p r t) = on_turn (λ st'. run st' t) st p r t (step st r)
