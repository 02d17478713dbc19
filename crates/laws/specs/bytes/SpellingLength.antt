-- Loading and spelling are inverse, in one statement; and the length of a spelling. Assumes nothing.
use Rattle.std.specs.Prelude.{◌≡◌, refl, ◌↔◌, true, cond, List, [], ◌∷◌, ◌++◌, ℕ, zero, suc, ◌+◌, ◌*◌, ◌/◌, ◌≤◌, ◌<◌, length, eqb, ltb}
use Rattle.std.proofs.Common.{sym, ap, ◌∙◌, inl, inr, arith, length-append}
use Rattle.lists.specs.Tests.{tests, tell, and_is, all-at, eqb_is, ltb-is, leb-is}
use Rattle.rules.specs.Model.{Model, equations_ok, well_formed, WellFormed, signed, style_ok}
use Rattle.rules.specs.declared.Equation.{Equation}
use Rattle.rules.specs.Records.{Rec, kinds, known, widths, digits, writes, bytes_of, accepted}
use Rattle.rules.specs.Rooms.{Lengths, lent_ok}
use Rattle.rules.specs.Load.{read_model}
use Rattle.rules.specs.Spelling.{live_recs, label_recs, equation_recs, signed_recs, style_recs, move_recs, records, encode}
use Rattle.rules.specs.declared.Sizes.{Sizes}
use Rattle.laws.specs.bytes.RecordLaws.{AreBytes, AllWritable, len-writes, size}
use Rattle.laws.specs.bytes.ReadAccepts.{read-accepts, records-w}
use Rattle.laws.specs.bytes.ReadSpells.{read-spelling}
use Rattle.laws.specs.chains.Placed.{signs-out}

-- A load is accepted exactly where the bytes spell a model inside the limits that fits the rooms.
pub read-exact : (l : Lengths) (s : List ℕ) (m : Model) → AreBytes s
    → (read_model l s ≡ accepted m) ↔ (WellFormed m × (encode m ≡ s) × (lent_ok l m.sizes ≡ true) × (length m.moves ≤ l.moves))
read-exact l s m b = (read-spelling l s m b, λ h. ap (read_model l) (sym h.1) ∙ read-accepts l m h.0 h.2 h.3)

-- How many bytes records take.
abbrev pub size_all : List Rec → ℕ
size_all [] = 0
size_all (r ∷ rs) = size r + size_all rs

-- The bytes of records are so many; and records after one another take as many as both.
pub all-length : (rs : List Rec) → AllWritable rs → length (bytes_of rs) ≡ size_all rs
unfolding size
all-length [] h = refl
all-length (r ∷ rs) h =
    let a = len-writes (widths r.kind) r.body h.0.1 in
    let b = all-length rs h.1 in
    let c = length-append (writes (widths r.kind) r.body) (bytes_of rs) in omega arith

pub size-append : (rs ts : List Rec) → size_all (rs ++ ts) ≡ size_all rs + size_all ts
size-append [] ts = omega arith
size-append (r ∷ rs) ts = let h = size-append rs ts in omega arith

-- How many states have a label.
abbrev pub labelled : List ℕ → ℕ
labelled [] = 0
labelled (zero ∷ l) = labelled l
labelled (suc v ∷ l) = suc (labelled l)

size-labels : (s : ℕ) (l : List ℕ) → size_all (label_recs s l) ≡ 7 * labelled l
unfolding widths size
size-labels s [] = refl
size-labels s (zero ∷ l) = size-labels (suc s) l
size-labels s (suc v ∷ l) = let h = size-labels (suc s) l in omega arith

size-moves : (l : List ℕ) → size_all (move_recs l) ≡ 6 * length l + 1
unfolding widths size
size-moves [] = refl
size-moves (p ∷ l) = let h = size-moves l in omega arith

size-equations : (z : Sizes) (i b k : ℕ) (es : List Equation) → equations_ok z i b k es ≡ true
    → size_all (equation_recs b es) + 4 * i + 3 * b ≡ 4 * z.variables + 3 * z.blocks
unfolding widths size
size-equations z i b k [] h = let f = simp tests at h in omega arith
size-equations z i b k (e ∷ es) h =
    let f = simp and_is at h in
    let n = size-equations z (suc i) (suc e.block) e.kind es f.1 in
    elim (tell true (eqb (suc e.block) b)) [
      | inl t ↦ let c = (eqb_is (suc e.block) b).0 t in let m = rw c at n in rw t (omega arith)
      | inr t ↦
          let g = simp and_is at (rw t at f.0.0.0) in
          let c = (eqb_is e.block b).0 g.0.0 in rw t (omega arith)
    ]

-- Equations with signs take 5 bytes each.
pub size-signs : (es : List Equation) → size_all (signed_recs es) ≡ 5 * length es
unfolding widths size
size-signs [] = refl
size-signs (e ∷ es) = let h = size-signs es in omega arith

-- An equation takes 4 bytes, and one with a sign 5.
abbrev pub equation_size : Sizes → ℕ
equation_size z = cond (signed z) 5 4

size-style : (z : Sizes) (es : List Equation) → style_ok z es ≡ true → size_all (style_recs z es) ≡ 3 * z.blocks + equation_size z * z.variables
unfolding style_ok
size-style z es h =
    elim (tell true (signed z)) [
      | inl t ↦
          let s = (signs-out z es (rw t at h)).count in
          let b = (eqb_is z.blocks 0).0 t in
          let n = size-signs es in
          rw t (omega arith)
      | inr t ↦ let n = size-equations z 0 0 0 es (rw t at h) in rw t (omega arith)
    ]

-- The record of a live model takes one byte.
pub size-live : (n : ℕ) → n ≤ 1 → size_all (live_recs n) ≡ n
unfolding widths size
size-live zero h = refl
size-live (suc zero) h = refl
size-live (suc (suc n)) h = absurd (omega arith)

-- The length of a model's spelling.
pub encode-length : (m : Model) → WellFormed m
    → length (encode m) ≡ 8 + m.live + 7 * labelled m.labels + 3 * m.sizes.blocks + equation_size m.sizes * m.sizes.variables + 6 * length m.moves
unfolding well_formed records widths size
encode-length m h =
    let k = simp and_is at h in
    let a = all-length (records m) (records-w m h) in
    let n = size-live m.live ((leb-is m.live 1).0 k.1.1.0) in
    let g = size-append (live_recs m.live) (label_recs 0 m.labels ++ (style_recs m.sizes m.equations ++ move_recs m.moves)) in
    let b = size-append (label_recs 0 m.labels) (style_recs m.sizes m.equations ++ move_recs m.moves) in
    let c = size-append (style_recs m.sizes m.equations) (move_recs m.moves) in
    let d = size-labels 0 m.labels in
    let e = size-style m.sizes m.equations k.0.0.1 in
    let f = size-moves m.moves in omega arith
