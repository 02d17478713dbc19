-- What is put into a number comes out of it again. Assumes nothing.
use Rattle.std.specs.Prelude.{◌≡◌, refl, Bool, true, false, List, [], ◌∷◌, map, ℕ, ◌+◌, ◌*◌, ◌/◌, ◌%◌, ◌≤◌, ◌<◌}
use Rattle.std.proofs.Common.{ap₂, arith}
use mir.Val.{bool_byte}
use Rattle.lists.specs.Lists.{bit}
use Rattle.rules.specs.Moves.{pack, source, action, target}
use Rattle.rules.specs.Session.{word, unword}
use Rattle.rules.specs.Batch.{Change}
use Rattle.rules.specs.declared.Equation.{Equation}
use Rattle.words.specs.Words.{change_of, code_of, waiting_of, variable_in, state_in}

-- A move is the number of its parts.
pub pack-parts : (q : ℕ) → pack (source q) (action q) (target q) ≡ q
pack-parts q = omega arith

-- Source, action and target of a move with fewer than 64 actions and 1,024 states.
pub parts-pack : (s a t : ℕ) → a < 64 → t < 1024 → (source (pack s a t) ≡ s) × (action (pack s a t) ≡ a) × (target (pack s a t) ≡ t)
parts-pack s a t h k =
    let f : source (pack s a t) ≡ s = omega arith in
    let g : action (pack s a t) ≡ a = omega arith in
    (f, g, omega arith)

-- A word is that of the equation that it holds.
pub word-unword : (w : ℕ) → word (unword w) ≡ w
word-unword w = omega arith

pub words-unwords : (l : List ℕ) → map word (map unword l) ≡ l
words-unwords [] = refl
words-unwords (w ∷ l) = ap₂ (λ (x : ℕ) (t : List ℕ). x ∷ t) (word-unword w) (words-unwords l)

-- The kind in a word is 0 or 1.
pub kind-small : (w : ℕ) → (unword w).kind ≤ 1
kind-small w = omega arith

-- An equation of bytes is the one that its word holds.
pub unword-word : (e : Equation) → e.operator < 256 → e.first < 256 → e.second < 256 → e.kind ≤ 1 → unword (word e) ≡ e
unword-word e a b c d =
    let q1 : word e / 256 ≡ e.first + 256 * e.second + 65536 * (2 * e.block + e.kind) = omega arith in
    let q2 : (e.first + 256 * e.second + 65536 * (2 * e.block + e.kind)) / 256 ≡ e.second + 256 * (2 * e.block + e.kind) = omega arith in
    let q3 : (e.second + 256 * (2 * e.block + e.kind)) / 256 ≡ 2 * e.block + e.kind = omega arith in
    let e1 : word e % 256 ≡ e.operator = omega arith in
    let e2 : word e / 256 % 256 ≡ e.first = rw q1 (omega arith) in
    let e3 : word e / 256 / 256 % 256 ≡ e.second = rw (q1, q2) (omega arith) in
    let e4 : word e / 256 / 256 / 256 / 2 ≡ e.block = rw (q1, q2, q3) (omega arith) in
    let e5 : word e / 256 / 256 / 256 % 2 ≡ e.kind = rw (q1, q2, q3) (omega arith) in
    λ i. record { operator = e1 i; first = e2 i; second = e3 i; block = e4 i; kind = e5 i }

-- A truth value as a byte is its bit, and at most 1.
pub byte-bit : (b : Bool) → bool_byte b ≡ bit b
byte-bit true = refl
byte-bit false = refl

pub byte_small : (b : Bool) → bool_byte b ≤ 1
byte_small true = omega arith
byte_small false = omega arith

-- A change whose number fits 32 bits is the one that its number holds.
pub change-code : (q : ℕ) (insert : Bool) → q < 2147483648 → change_of (code_of q insert) ≡ record { insert = insert; move = q }
change-code q true h =
    let e : code_of q true ≡ 1 + 2 * q = omega arith in
    let f : (1 + 2 * q) % 2 ≡ 1 = omega arith in
    let g : (1 + 2 * q) / 2 ≡ q = omega arith in
    rw (e, f, g) refl
change-code q false h =
    let e : code_of q false ≡ 2 * q = omega arith in
    let f : 2 * q % 2 ≡ 0 = omega arith in
    let g : 2 * q / 2 ≡ q = omega arith in
    rw (e, f, g) refl

-- Variable and state of a pair that waits, where there are at most 1,024 states.
pub variable-waiting : (x s : ℕ) → s < 1024 → variable_in (waiting_of x s) ≡ x
variable-waiting x s h = omega arith

pub state-waiting : (x s : ℕ) → s < 1024 → state_in (waiting_of x s) ≡ s
state-waiting x s h = omega arith
