-- Every model inside the limits is accepted, from its spelling. Assumes nothing.
use Rattle.std.specs.Prelude.{◌≡◌, refl, cond, ℕ, zero, suc, ◌+◌, ◌^◌, ◌≤◌, ◌<◌, length, eqb, ltb}
use Rattle.std.proofs.Common.{ap, ◌∙◌}
use Rattle.std.proofs.Math.Logic.{inl, inr}
use Rattle.std.proofs.Math.Bool.{true}
use mathlib.Core.List.{List, [], ◌∷◌, ◌++◌}
use Rattle.std.proofs.Math.Nat.{pow-le-pow_right}
use native.Mathlib.Omega.{arith}
use Rattle.lists.specs.Lists.{all}
use Rattle.lists.specs.Tests.{tests, tell, and_is, ltb-is, leb-is, eqb_is}
use Rattle.rules.specs.Limits.{sizes_ok}
use Rattle.rules.specs.Model.{Model, label_ok, move_ok, operands_ok, equations_ok, moves_ok, well_formed, WellFormed, signed, sign_ok, equation_in, style_ok, placed}
use Rattle.rules.specs.declared.Equation.{Equation}
use Rattle.rules.specs.Records.{Rec, widths, accepted, onto}
use Rattle.rules.specs.Rooms.{Lengths, lent_ok}
use Rattle.rules.specs.Load.{step, put, last, settle_style, read_model}
use Rattle.rules.specs.Spelling.{live_recs, label_recs, equation_recs, signed_recs, style_recs, move_recs, records, encode}
use Rattle.rules.specs.declared.Sizes.{Sizes}
use Rattle.laws.specs.bytes.RecordLaws.{AllWritable, run-written}
use Rattle.laws.specs.bytes.Walks.{small, eq-count, run-le, unplaced, walks-records}
use Rattle.laws.specs.chains.Placed.{signs-out, placed-own}

-- Records that fit their widths, one list after the other.
pub append : (rs ts : List Rec) → AllWritable rs → AllWritable ts → AllWritable (rs ++ ts)
append [] ts h k = k
append (r ∷ rs) ts h k = (h.0, append rs ts h.1 k)

module _ (z : Sizes) (ok : sizes_ok z ≡ true) where
  -- The records of labels, moves and equations in range fit their widths.
  pub labels-w : (s : ℕ) (ls : List ℕ) → s + length ls ≤ z.states → all (label_ok z) ls ≡ true → AllWritable (label_recs s ls)
  unfolding widths label_ok
  labels-w s [] h a = tt
  labels-w s (zero ∷ ls) h a = let p = simp and_is at a in labels-w (suc s) ls (omega arith) p.1
  labels-w s (suc v ∷ ls) h a =
      let p = simp tests at a in
      let k = small z ok in
      let b : 2 ^ z.propositions ≤ 2 ^ 32 = pow-le-pow_right (omega arith) {i = z.propositions} {j = 32} (omega arith) in
      ((refl, omega arith), labels-w (suc s) ls (omega arith) (simp and_is at a).1)

  -- Operators and operands in range are bytes.
  pub operands-small : (o a b : ℕ) → operands_ok z o a b ≡ true → (o < 256) × (a < 256) × (b < 256)
  unfolding operands_ok
  operands-small o a b h =
      let s = small z ok in
      elim (tell true (ltb o 2)) [
        | inl t ↦ let u = (ltb-is o 2).0 t in let k = simp tests at (rw t at h) in omega arith
        | inr t ↦ elim (tell true (ltb o 4)) [
          | inl v ↦ let u = (ltb-is o 4).0 v in let k = simp tests at (rw (t, v) at h) in omega arith
          | inr v ↦ elim (tell true (ltb o 6)) [
            | inl w ↦ let u = (ltb-is o 6).0 w in let k = simp tests at (rw (t, v, w) at h) in omega arith
            | inr w ↦ let k = simp tests at (rw (t, v, w) at h) in omega arith
          ]
        ]
      ]

  moves-w : (least : ℕ) (ms : List ℕ) → moves_ok z least ms ≡ true → AllWritable (move_recs ms)
  unfolding widths move_ok
  moves-w least [] h = ((refl, tt), tt)
  moves-w least (p ∷ ms) h =
      let q = simp tests at h in
      let k = small z ok in
      ((refl, omega arith), moves-w (suc p) ms (simp and_is at h).1)

  equations-w : (i b k : ℕ) (es : List Equation) → equations_ok z i b k es ≡ true → AllWritable (equation_recs b es)
  unfolding widths
  equations-w i b k [] h = tt
  equations-w i b k (e ∷ es) h =
      let f = simp and_is at h in
      let o = operands-small e.operator e.first e.second f.0.0.1 in
      let ih = equations-w (suc i) (suc e.block) e.kind es f.1 in
      elim (tell true (eqb (suc e.block) b)) [
        | inl t ↦ rw t ((refl, omega arith), rw ((eqb_is (suc e.block) b).0 t) at ih)
        | inr t ↦
            let g = simp tests at (rw t at f.0.0.0) in
            let n = eq-count z i b k (e ∷ es) h in
            let r = run-le (suc e.block) es in
            let s = small z ok in
            rw t ((refl, omega arith), ((refl, omega arith), ih))
      ]

  pub signs-w : (es : List Equation) → ((j : ℕ) → j < length es → sign_ok z (equation_in es j) ≡ true) → AllWritable (signed_recs es)
  unfolding widths
  signs-w [] h = tt
  signs-w (e ∷ es) h =
      let f = simp and_is at (h 0 (omega arith)) in
      let k = (leb-is e.kind 1).0 f.0 in
      let o = operands-small e.operator e.first e.second f.1 in
      ((refl, omega arith), signs-w es (λ j l. h (suc j) (omega arith)))

  style-w : (es : List Equation) → style_ok z es ≡ true → AllWritable (style_recs z es)
  unfolding style_ok
  style-w es h =
      elim (tell true (signed z)) [
        | inl t ↦ rw t (signs-w es (signs-out z es (rw t at h)).good)
        | inr t ↦ rw t (equations-w 0 0 0 es (rw t at h))
      ]

-- So does the record of a live model.
pub live-w : (n : ℕ) → AllWritable (live_recs n)
unfolding widths
live-w n =
    elim (tell true (eqb n 1)) [
      | inl t ↦ rw t ((refl, tt), tt)
      | inr t ↦ rw t tt
    ]

-- The records of a model inside the limits fit their widths.
pub records-w : (m : Model) → WellFormed m → AllWritable (records m)
unfolding records well_formed widths
records-w m h =
    let k = simp and_is at h in
    let z = k.0.0.0.0.0 in
    let s = small m.sizes z in
    let e = (eqb_is (length m.labels) m.sizes.states).0 k.0.0.0.0.1 in (
      (refl, omega arith),
      append (live_recs m.live) _ (live-w m.live) (append (label_recs 0 m.labels) _ (labels-w m.sizes z 0 m.labels (omega arith) k.0.0.0.1)
          (append (style_recs m.sizes m.equations) _ (style-w m.sizes z m.equations k.0.0.1) (moves-w m.sizes z 0 m.moves k.0.1))),
    )

-- What is read of a model inside the limits, with its components, is the model.
unplaced-back : (l : Lengths) (m : Model) → WellFormed m → settle_style (unplaced l m) ≡ m
unfolding well_formed style_ok
unplaced-back l m h =
    let k = simp and_is at h in
    let e : cond (signed m.sizes) (placed (unplaced l m).equations) (unplaced l m).equations ≡ m.equations =
    elim (tell true (signed m.sizes)) [
      | inl t ↦ rw t (placed-own m.sizes m.equations (λ i. 0) (signs-out m.sizes m.equations (rw t at k.0.0.1)))
      | inr t ↦ rw t refl
    ] in
    λ i. record { sizes = m.sizes; live = m.live; labels = m.labels; equations = e i; moves = m.moves }

-- Every model inside the limits is accepted where the rooms suffice.
pub read-accepts : (l : Lengths) (m : Model) → WellFormed m → lent_ok l m.sizes ≡ true → length m.moves ≤ l.moves
    → read_model l (encode m) ≡ accepted m
unfolding read_model
read-accepts l m h r n =
    ap (onto settle_style) (run-written (step l) put last 0 (walks-records l m h r n) (records-w m h)) ∙ ap accepted (unplaced-back l m h)
