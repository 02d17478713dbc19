-- What the tests on equations say of the variables that they name: of either style, these are variables, and of no later block
-- or component. And what the test on moves says of each. Assumes nothing.
use Rattle.std.specs.Prelude.{◌≡◌, ◌⊎◌, true, false, List, [], ◌∷◌, ℕ, zero, suc, ◌+◌, ◌-◌, ◌≤◌, ◌<◌, length, drop, eqb, ltb}
use Rattle.std.proofs.Common.{sym, ap, subst, inl, inr, not-suc-le-zero, le_of_suc-le-suc, arith, length-drop, get_or-drop}
use mathlib.Core.List.Memᴰ
use Rattle.std.proofs.Math.Decide.{dec_le}
use Rattle.lists.specs.Tests.{◌∈◌, tests, tell, ltb-is, eqb_is, and_is, ltb_no, and_in, leb-is}
use Rattle.rules.specs.Moves.{source, action, target}
use Rattle.rules.specs.Model.{names_ok, operands_ok, run_of, equations_ok, moves_ok, move_ok, nothing, equation_in, names_of, names_in, sign_ok, component_in, blocks_in, signed, style_ok}
use Rattle.rules.specs.declared.Equation.{Equation}
use Rattle.rules.specs.declared.Sizes.{Sizes}
use Rattle.laws.specs.bytes.Walks.{eq-count, run-le}
use Rattle.laws.specs.chains.ChainLaws.{Inside}
use Rattle.laws.specs.chains.Components.{component-names}
use Rattle.laws.specs.chains.Placed.{signs-out}

-- The block or component of variable i.
abbrev pub block_at : List Equation → ℕ → ℕ
block_at es i = (equation_in es i).block

-- The equation names the variable.
abbrev pub Names : Equation → ℕ → Type 0
Names e x = ((4 ≤ e.operator) × (x ≡ e.second)) ⊎ ((4 ≤ e.operator) × (e.operator < 6) × (x ≡ e.first))

-- The equations of a run are of its block.
run-block : (b : ℕ) (es : List Equation) (j : ℕ) → j < run_of b es → suc (block_at es j) ≡ b
run-block b [] j h = absurd (not-suc-le-zero h)
run-block b (e ∷ es) zero h =
    elim (tell true (eqb (suc e.block) b)) [
      | inr t ↦ absurd (not-suc-le-zero (rw t at h))
      | inl t ↦ (eqb_is (suc e.block) b).0 t
    ]
run-block b (e ∷ es) (suc j) h =
    elim (tell true (eqb (suc e.block) b)) [
      | inr t ↦ absurd (not-suc-le-zero (rw t at h))
      | inl t ↦ run-block b es j (le_of_suc-le-suc (rw t at h))
    ]

-- Block numbers never fall.
pub head-block : (z : Sizes) (i b k : ℕ) (e : Equation) (es : List Equation) → equations_ok z i b k (e ∷ es) ≡ true → b ≤ suc e.block
head-block z i b k e es h =
    let f = simp and_is at h in
    elim (tell true (eqb (suc e.block) b)) [
      | inl t ↦ let c = (eqb_is (suc e.block) b).0 t in omega arith
      | inr t ↦ let g = simp and_is at (rw t at f.0.0.0) in let c = (eqb_is e.block b).0 g.0.0 in omega arith
    ]

-- So each equation's block is no earlier than the last one before it.
pub least-block : (z : Sizes) (i b k : ℕ) (es : List Equation) (j : ℕ) → equations_ok z i b k es ≡ true → j < length es → b ≤ suc (block_at es j)
least-block z i b k [] j h l = absurd (not-suc-le-zero l)
least-block z i b k (e ∷ es) zero h l = head-block z i b k e es h
least-block z i b k (e ∷ es) (suc j) h l =
    let n = least-block z (suc i) (suc e.block) e.kind es j (simp and_is at h).1 (le_of_suc-le-suc l) in
    let c = head-block z i b k e es h in omega arith

blocks-rise : (z : Sizes) (i b k : ℕ) (es : List Equation) (j n : ℕ) → equations_ok z i b k es ≡ true → j ≤ n → n < length es → block_at es j ≤ block_at es n
blocks-rise z i b k [] j n h o l = absurd (not-suc-le-zero l)
blocks-rise z i b k (e ∷ es) zero zero h o l = omega arith
blocks-rise z i b k (e ∷ es) zero (suc n) h o l =
    let c = least-block z (suc i) (suc e.block) e.kind es n (simp and_is at h).1 (le_of_suc-le-suc l) in omega arith
blocks-rise z i b k (e ∷ es) (suc j) zero h o l = absurd (not-suc-le-zero o)
blocks-rise z i b k (e ∷ es) (suc j) (suc n) h o l =
    blocks-rise z (suc i) (suc e.block) e.kind es j n (simp and_is at h).1 (le_of_suc-le-suc o) (le_of_suc-le-suc l)

-- What an equation names lies before its block's end.
named-below : (end : ℕ) (e : Equation) (x : ℕ) → names_ok end e.operator e.first e.second ≡ true → Names e x → x < end
unfolding names_ok
named-below end e x h n =
    elim (tell true (ltb e.operator 4)) [
      | inl t ↦ let u = (ltb-is e.operator 4).0 t in absurd (elim n [ inl a ↦ omega arith | inr a ↦ omega arith ])
      | inr t ↦ elim (tell true (ltb e.operator 6)) [
        | inl v ↦ let k = simp tests at (rw (t, v) at h) in elim n [ inl a ↦ omega arith | inr a ↦ omega arith ]
        | inr v ↦ let u = (ltb_no e.operator 6).0 v in let k = (ltb-is e.second end).0 (rw (t, v) at h) in elim n [ inl a ↦ omega arith | inr a ↦ omega arith ]
      ]
    ]

named_end : (z : Sizes) (i b k : ℕ) (es : List Equation) (j x : ℕ) → equations_ok z i b k es ≡ true → j < length es → Names (equation_in es j) x
    → x < i + j + suc (run_of (suc (block_at es j)) (drop (suc j) es))
named_end z i b k [] j x h l n = absurd (not-suc-le-zero l)
named_end z i b k (e ∷ es) zero x h l n = let f = simp and_is at h in let u = named-below _ e x f.0.1 n in omega arith
named_end z i b k (e ∷ es) (suc j) x h l n =
    let u = named_end z (suc i) (suc e.block) e.kind es j x (simp and_is at h).1 (le_of_suc-le-suc l) n in omega arith

-- With blocks, what an equation names lies in its block or an earlier one, and is a variable.
names-earlier : (z : Sizes) (es : List Equation) (j x : ℕ) → equations_ok z 0 0 0 es ≡ true → j < length es → Names (equation_in es j) x → block_at es x ≤ block_at es j
names-earlier z es j x h l n =
    let u = named_end z 0 0 0 es j x h l n in
    elim (dec_le x j) [
      | yes o ↦ blocks-rise z 0 0 0 es x j h o l
      | no o ↦
          let d : x ≡ suc j + (x - suc j) = omega arith in
          let r = run-block (suc (block_at es j)) (drop (suc j) es) (x - suc j) (omega arith) in
          let g = ap (λ (e : Equation). e.block) (get_or-drop (suc j) es (x - suc j) nothing) in
          let q : block_at es x ≡ block_at es (suc j + (x - suc j)) = ap (block_at es) d in omega arith
    ]

names-variable : (z : Sizes) (es : List Equation) (j x : ℕ) → equations_ok z 0 0 0 es ≡ true → j < length es → Names (equation_in es j) x → x < z.variables
names-variable z es j x h l n =
    let u = named_end z 0 0 0 es j x h l n in
    let r = run-le (suc (block_at es j)) (drop (suc j) es) in
    let d = length-drop (suc j) es in
    let c = eq-count z 0 0 0 es h in
    omega arith

-- A variable's block is below the count of blocks.
pub variable-block : (es : List Equation) (j : ℕ) → j < length es → block_at es j < blocks_in es
variable-block [] j l = absurd (not-suc-le-zero l)
variable-block (e ∷ es) zero l = omega arith
variable-block (e ∷ es) (suc j) l = let h = variable-block es j (le_of_suc-le-suc l) in omega arith

-- An equation names exactly the members of its list of names.
names-member : (e : Equation) (x : ℕ) → Names e x → x ∈ names_of e
names-member e x n =
    elim (tell true (ltb e.operator 4)) [
      | inl t ↦ let u = (ltb-is e.operator 4).0 t in absurd (elim n [ inl a ↦ omega arith | inr a ↦ omega arith ])
      | inr t ↦ elim (tell true (ltb e.operator 6)) [
        | inl v ↦ rw (t, v) (elim n [ inl a ↦ Memᴰ.tail (Memᴰ.head a.1) | inr a ↦ Memᴰ.head a.2 ])
        | inr v ↦ let u = (ltb_no e.operator 6).0 v in rw (t, v) (elim n [ inl a ↦ Memᴰ.head a.1 | inr a ↦ absurd (omega arith) ])
      ]
    ]

pub member-names : (e : Equation) (x : ℕ) → x ∈ names_of e → Names e x
member-names e x m =
    elim (tell true (ltb e.operator 4)) [
      | inl t ↦ let k : x ∈ [] = rw t at m in absurd (Memᴰ.not-nil k)
      | inr t ↦
          let u = (ltb_no e.operator 4).0 t in
          elim (tell true (ltb e.operator 6)) [
            | inl v ↦
                let o = (ltb-is e.operator 6).0 v in
                let k : x ∈ (e.first ∷ e.second ∷ []) = rw (t, v) at m in
                elim (Memᴰ.cases_cons k) [
                  | inl q ↦ inr (u, o, q)
                  | inr j ↦ elim (Memᴰ.cases_cons j) [ inl q ↦ inl (u, q) | inr n ↦ absurd (Memᴰ.not-nil n) ]
                ]
            | inr v ↦
                let k : x ∈ (e.second ∷ []) = rw (t, v) at m in
                elim (Memᴰ.cases_cons k) [ inl q ↦ inl (u, q) | inr n ↦ absurd (Memᴰ.not-nil n) ]
          ]
    ]

-- Where an equation's numbers are in range, what it names is a variable.
pub member-variable : (z : Sizes) (e : Equation) (x : ℕ) → operands_ok z e.operator e.first e.second ≡ true → x ∈ names_of e → x < z.variables
unfolding operands_ok
member-variable z e x h m =
    elim (tell true (ltb e.operator 4)) [
      | inl t ↦ let k : x ∈ [] = rw t at m in absurd (Memᴰ.not-nil k)
      | inr t ↦
          let u = (ltb_no e.operator 4).0 t in
          let t2 : ltb e.operator 2 ≡ false = (ltb_no e.operator 2).1 (omega arith) in
          elim (tell true (ltb e.operator 6)) [
            | inl v ↦
                let o = simp tests at (rw (t2, t, v) at h) in
                let k : x ∈ (e.first ∷ e.second ∷ []) = rw (t, v) at m in
                elim (Memᴰ.cases_cons k) [
                  | inl q ↦ omega arith
                  | inr j ↦ elim (Memᴰ.cases_cons j) [ inl q ↦ omega arith | inr n ↦ absurd (Memᴰ.not-nil n) ]
                ]
            | inr v ↦
                let o = simp tests at (rw (t2, t, v) at h) in
                let k : x ∈ (e.second ∷ []) = rw (t, v) at m in
                elim (Memᴰ.cases_cons k) [ inl q ↦ omega arith | inr n ↦ absurd (Memᴰ.not-nil n) ]
          ]
    ]

-- With blocks, each equation has kind 0 or 1 and its numbers in range.
blocks-sign : (z : Sizes) (i b k : ℕ) (es : List Equation) → k ≤ 1 → equations_ok z i b k es ≡ true → (x : ℕ) → x < length es → sign_ok z (equation_in es x) ≡ true
blocks-sign z i b k [] s h x l = absurd (not-suc-le-zero l)
blocks-sign z i b k (e ∷ es) s h x l =
    let f = simp and_is at h in
    let n : e.kind ≤ 1 =
    elim (tell true (eqb (suc e.block) b)) [
      | inl t ↦ let g = (eqb_is e.kind k).0 (rw t at f.0.0.0) in omega arith
      | inr t ↦ let g = simp and_is at (rw t at f.0.0.0) in (leb-is _ _).0 g.1
    ] in
    pick (and_in ((leb-is _ _).1 n) f.0.0.1) (blocks-sign z (suc i) (suc e.block) e.kind es n f.1) x l
  where
    pick : sign_ok z e ≡ true → ((x : ℕ) → x < length es → sign_ok z (equation_in es x) ≡ true)
        → (x : ℕ) → x < suc (length es) → sign_ok z (equation_in (e ∷ es) x) ≡ true
    pick a b zero l = a
    pick a b (suc x) l = b x (le_of_suc-le-suc l)

-- And so has each equation of either style.
pub style-sign : (z : Sizes) (es : List Equation) → style_ok z es ≡ true → (x : ℕ) → x < length es → sign_ok z (equation_in es x) ≡ true
unfolding style_ok
style-sign z es h =
    elim (tell true (signed z)) [
      | inl t ↦ (signs-out z es (rw t at h)).good
      | inr t ↦ blocks-sign z 0 0 0 es (omega arith) (rw t at h)
    ]

-- What equations of either style name: a variable, of the same block or component or of an earlier one.
pub record NamesWell (z : Sizes) (es : List Equation) : Type 0 where
  pub count : length es ≡ z.variables
  pub operands : (j : ℕ) → j < length es → operands_ok z (equation_in es j).operator (equation_in es j).first (equation_in es j).second ≡ true
  pub variable : (j x : ℕ) → j < length es → Names (equation_in es j) x → x < z.variables
  pub earlier : (j x : ℕ) → j < length es → Names (equation_in es j) x → block_at es x ≤ block_at es j

-- Where each equation's numbers are in range, names lead to variables only.
pub signs-inside : (z : Sizes) (es : List Equation) → length es ≡ z.variables
    → ((x : ℕ) → x < length es → sign_ok z (equation_in es x) ≡ true) → Inside (length es) (names_in es)
signs-inside z es n g x y h m =
    let k = simp and_is at (g x h) in
    let l = member-variable z (equation_in es x) y k.1 m in
    omega arith

-- Equations that pass the test of their style do.
pub names-well : (z : Sizes) (es : List Equation) → style_ok z es ≡ true → NamesWell z es
unfolding style_ok component_in
names-well z es h =
    elim (tell true (signed z)) [
      | inr t ↦
          let q = rw t at h in
          record {
            count = let c = eq-count z 0 0 0 es q in omega arith;
            operands = operands;
            variable = λ j x l n. names-variable z es j x q l n;
            earlier = λ j x l n. names-earlier z es j x q l n;
          }
      | inl t ↦
          let s = signs-out z es (rw t at h) in
          let inside = signs-inside z es s.count s.good in
          record {
            count = s.count;
            operands = operands;
            variable = λ j x l n. let k = inside j x l (names-member (equation_in es j) x n) in let c = s.count in omega arith;
            earlier = λ j x l n.
                let m = names-member (equation_in es j) x n in
                let k = inside j x l m in
                let a = s.block j l in
                let b = s.block x k in
                let c = component-names (length es) (names_in es) inside j x l m in
                omega arith;
          }
    ]
  where
    operands : (j : ℕ) → j < length es → operands_ok z (equation_in es j).operator (equation_in es j).first (equation_in es j).second ≡ true
    operands j l = let f = simp and_is at (style-sign z es h j l) in f.1

-- Each move is in range.
pub move-range : (z : Sizes) (n : ℕ) {q : ℕ} {l : List ℕ} → moves_ok z n l ≡ true → q ∈ l → move_ok z (source q) (action q) (target q) ≡ true
move-range z n {q} {l} h m = go n m h
  where
    go : (n : ℕ) {l : List ℕ} → q ∈ l → moves_ok z n l ≡ true → move_ok z (source q) (action q) (target q) ≡ true
    go n (Memᴰ.head {x = x} e) h = let f = simp and_is at h in subst (λ (r : ℕ). move_ok z (source r) (action r) (target r) ≡ true) (sym e) f.0.1
    go n (Memᴰ.tail {x = x} m) h = go (suc x) m (simp and_is at h).1
