-- The record that stands at a place of the bytes, as the code's enum. Definitions only.
use Rattle.std.specs.Prelude.{◌≡◌, true, false, MatchOption, Option, Some, None, cond, List, ℕ, ◌+◌, ◌-◌, ◌*◌, length, get_or, eqb, ltb, leb}
use Rattle.rules.specs.Records.{known, widths, body_of}
use Rattle.rules.specs.declared.Move.{Move}
use Rattle.rules.specs.declared.Sizes.{Sizes}
use Rattle.rules.specs.declared.Record.{Record}
use Rattle.rules.specs.declared.Record.TheVariants as R
use Rattle.bytes_read.specs.declared.Kind.{Kind}
use Rattle.bytes_read.specs.declared.Kind.TheVariants as K

-- Two and four bytes at a place, the low byte first.
abbrev pub le16 : List ℕ → ℕ → ℕ
le16 s at = get_or s at 0 + 256 * get_or s (at + 1) 0

abbrev pub le32 : List ℕ → ℕ → ℕ
le32 s at = le16 s at + 65536 * le16 s (at + 2)

-- The bodies of a move and of a sizes record.
abbrev pub move_at : List ℕ → ℕ → Move
move_at s b =
    record { source = record { 0 = le16 s b }; action = record { 0 = get_or s (b + 2) 0 }; target = record { 0 = le16 s (b + 3) } }

abbrev pub sizes_at : List ℕ → ℕ → Sizes
sizes_at s b =
    record { states = le16 s b; actions = get_or s (b + 2) 0; propositions = get_or s (b + 3) 0; variables = get_or s (b + 4) 0; blocks = get_or s (b + 5) 0 }

-- The length of a body by its kind; 255 for a kind that is not known.
unfoldable pub body_len : ℕ → ℕ
body_len k = cond (known k) (body_of (widths k)) 255

-- The byte that stands for a kind.
abbrev pub code_of : Kind → ℕ
code_of K.Sizes = 1
code_of K.Label = 2
code_of K.Block = 3
code_of K.Equation = 4
code_of K.Move = 5
code_of K.End = 6
code_of K.Stamp = 7
code_of K.Insert = 8
code_of K.Delete = 9
code_of K.Live = 10
code_of K.Signed = 11

-- The kind for which a byte stands, or none for a byte that stands for no kind.
abbrev pub Named : ℕ → Option Kind → Type 0
Named b r = MatchOption r (known b ≡ false) (λ k. (known b ≡ true) × (code_of k ≡ b))

-- The record of a kind whose body stands at b.
unfoldable pub record_of : ℕ → List ℕ → ℕ → Record
record_of k s b =
    cond (eqb k 1) (R.Sizes (sizes_at s b))
    (cond (eqb k 2) (R.Label (record { 0 = le16 s b }) (le32 s (b + 2)))
    (cond (eqb k 3) (R.Block (get_or s b 0) (get_or s (b + 1) 0))
    (cond (eqb k 4) (R.Equation (get_or s b 0) (get_or s (b + 1) 0) (get_or s (b + 2) 0))
    (cond (eqb k 5) (R.Move (move_at s b))
    (cond (eqb k 7) (R.Stamp (le32 s b))
    (cond (eqb k 8) (R.Insert (move_at s b))
    (cond (eqb k 9) (R.Delete (move_at s b))
    (cond (eqb k 10) R.Live
    (cond (eqb k 11) (R.Signed (get_or s b 0) (get_or s (b + 1) 0) (get_or s (b + 2) 0) (get_or s (b + 3) 0))
    R.End)))))))))

-- What stands at a place: a record and the place after it, or nothing.
abbrev pub Read : Type 0
Read = Option (Record × ℕ)

-- The record at a place and the place after it. Past the end, at an unknown kind and at a record that is cut off, nothing.
unfoldable pub record_at : List ℕ → ℕ → Read
record_at s at =
    cond (ltb at (length s))
    (cond (known (get_or s at 0))
    (cond (leb (body_len (get_or s at 0)) (length s - (at + 1)))
    (Some (record_of (get_or s at 0) s (at + 1), at + 1 + body_len (get_or s at 0)))
    None)
    None)
    None
