-- The bytes of a model as they are written from its rooms, place by place. Definitions only.
use Rattle.std.specs.Prelude.{◌≡◌, Bool, cond, List, [], ◌∷◌, map, ℕ, suc, ◌+◌, ◌*◌, ◌≤◌, eqb, length, drop}
use Rattle.std.proofs.lemmas.List.Edits.{sets}
use Rattle.rules.specs.Model.{Model, run_of}
use Rattle.rules.specs.declared.Equation.{Equation}
use Rattle.rules.specs.declared.Session.{Session}
use Rattle.rules.specs.Records.{bytes_of}
use Rattle.rules.specs.Session.{unword}
use Rattle.rules.specs.Spelling.{live_recs, label_recs, block_rec, equation_rec, equation_recs, signed_recs, move_recs}
use Rattle.laws.specs.bytes.SpellingLength.{labelled, equation_size}

-- A room that holds these bytes from a place on.
abbrev pub HasRoom : List ℕ → ℕ → List ℕ → Type 0
HasRoom out at bs = at + length bs ≤ length out

-- Bytes written into a room from a place on: the room after, and the place after.
abbrev pub Wrote : List ℕ → ℕ → List ℕ → List ℕ → ℕ → Type 0
Wrote out at bs after next = (after ≡ sets out at bs) × (next ≡ at + length bs)

-- A writing of `whole` that began at a place of a room and has come to another with these bytes left: the room holds them, and once they
-- are written, so is the whole.
pub record Writing (out₀ : List ℕ) (start : ℕ) (whole out : List ℕ) (at : ℕ) (left : List ℕ) : Type 0 where
  pub size : length out ≡ length out₀
  pub room : HasRoom out at left
  pub leads : (after : List ℕ) (next : ℕ) → Wrote out at left after next → Wrote out₀ start whole after next

-- The bytes that say whether the model is live: one byte where it is, else none.
unfoldable pub live_bytes : ℕ → List ℕ
live_bytes n = bytes_of (live_recs n)

-- One label's bytes, and those of the labels from state i on.
abbrev pub one_label : ℕ → ℕ → List ℕ
one_label s v = bytes_of (label_recs s (v ∷ []))

unfoldable pub label_bytes : List ℕ → ℕ → List ℕ
label_bytes labels i = bytes_of (label_recs i (drop i labels))

-- One equation's bytes, with its block's record where b blocks stand before and it is in another.
unfoldable pub in_block : ℕ → Equation → List Equation → List ℕ
in_block b e l =
    bytes_of (cond (eqb (suc e.block) b) (equation_rec e ∷ []) (block_rec e.kind (suc (run_of (suc e.block) l)) ∷ equation_rec e ∷ []))

-- The bytes of the equations from variable i on, each with its sign or, after b blocks, in its block.
unfoldable pub equation_bytes : Bool → ℕ → List Equation → ℕ → List ℕ
equation_bytes signs b es i = bytes_of (cond signs (signed_recs (drop i es)) (equation_recs b (drop i es)))

-- The bytes of the moves from number i on, and of the end.
unfoldable pub move_bytes : List ℕ → ℕ → List ℕ
move_bytes moves i = bytes_of (move_recs (drop i moves))

-- The model of a session in rooms that are as long as their use.
abbrev pub held_in : Session → List ℕ → List ℕ → List ℕ → Model
held_in s labels equations moves = record { sizes = s.sizes; live = s.live; labels = labels; equations = map unword equations; moves = moves }

-- The length of its spelling, by its labels and the counts that the session keeps.
abbrev pub length_by : Session → List ℕ → ℕ
length_by s labels = 8 + s.live + 7 * labelled labels + 3 * s.sizes.blocks + equation_size s.sizes * s.sizes.variables + 6 * s.moves
