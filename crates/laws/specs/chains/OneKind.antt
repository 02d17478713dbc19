-- The equations of a block or of a component have one kind, and that is the kind of the block. Assumes nothing.
use Rattle.std.specs.Prelude.{◌≡◌, refl, true, ◌&&◌, List, [], ◌∷◌, ℕ, zero, suc, ◌<◌, length, eqb}
use Rattle.std.proofs.Common.{sym, ap, ◌∙◌, inl, inr, le_of_suc-le-suc, not-suc-le-zero, arith}
use Rattle.std.proofs.lemmas.Bool.{false≢true}
use Rattle.lists.specs.Tests.{tell, and_in, and_is, or_left, or_right, or-out, eqb_is, eqb-in, eqb-out}
use Rattle.lists.specs.Ranges.{same_truth, some-no}
use Rattle.rules.specs.Model.{equations_ok, signed, equation_in, names_in, guilty, component_in, style_ok}
use Rattle.rules.specs.declared.Equation.{Equation}
use Rattle.rules.specs.Values.{greatest_in}
use Rattle.rules.specs.declared.Sizes.{Sizes}
use Rattle.laws.specs.chains.Components.{component-own, together-sign}
use Rattle.laws.specs.chains.Placed.{Signs, signs-out}
use Rattle.laws.specs.chains.Named.{block_at, head-block, least-block, signs-inside}

-- The kind of the block of variable x, or the sign of its equation.
abbrev pub kind_at : List Equation → ℕ → ℕ
kind_at es x = (equation_in es x).kind

-- Equations of one block or component have one kind.
abbrev pub OneKind : List Equation → Type 0
OneKind es = (x y : ℕ) → x < length es → y < length es → block_at es x ≡ block_at es y → kind_at es x ≡ kind_at es y

-- Blocks: each equation goes on with the block before, or begins the next.
last-kind : (z : Sizes) (i b k : ℕ) (es : List Equation) (j : ℕ) → equations_ok z i b k es ≡ true → j < length es → suc (block_at es j) ≡ b → kind_at es j ≡ k
last-kind z i b k [] j h l e = absurd (not-suc-le-zero l)
last-kind z i b k (a ∷ es) zero h l e = let f = simp and_is at h in (eqb_is a.kind k).0 (rw (eqb-in _ _ e) at f.0.0.0)
last-kind z i b k (a ∷ es) (suc j) h l e =
    let f = simp and_is at h in
    let u = head-block z i b k a es h in
    let w = least-block z (suc i) (suc a.block) a.kind es j f.1 (le_of_suc-le-suc l) in
    let c : suc a.block ≡ b = omega arith in
    let g = (eqb_is a.kind k).0 (rw (eqb-in _ _ c) at f.0.0.0) in
    last-kind z (suc i) (suc a.block) a.kind es j f.1 (le_of_suc-le-suc l) (omega arith) ∙ g

blocks-one-kind : (z : Sizes) (i b k : ℕ) (es : List Equation) → equations_ok z i b k es ≡ true → OneKind es
blocks-one-kind z i b k [] h x y l m e = absurd (not-suc-le-zero l)
blocks-one-kind z i b k (a ∷ es) h zero zero l m e = refl
blocks-one-kind z i b k (a ∷ es) h zero (suc y) l m e =
    sym (last-kind z (suc i) (suc a.block) a.kind es y (simp and_is at h).1 (le_of_suc-le-suc m) (ap suc (sym e)))
blocks-one-kind z i b k (a ∷ es) h (suc x) zero l m e =
    last-kind z (suc i) (suc a.block) a.kind es x (simp and_is at h).1 (le_of_suc-le-suc l) (ap suc e)
blocks-one-kind z i b k (a ∷ es) h (suc x) (suc y) l m e =
    blocks-one-kind z (suc i) (suc a.block) a.kind es (simp and_is at h).1 x y (le_of_suc-le-suc l) (le_of_suc-le-suc m) e

-- Components: no closed chain holds both signs.
signs-one-kind : (z : Sizes) (es : List Equation) → Signs z es → OneKind es
unfolding guilty component_in
signs-one-kind z es s x y l m e =
    let inside = signs-inside z es s.count s.good in
    together-sign (length es) (names_in es) inside (kind_at es) (some-no (length es) (guilty es) s.pure) x y
    (component-own (length es) (names_in es) inside x y l m (sym (s.block x l) ∙ e ∙ s.block y m))

-- So it is in either style.
pub one-kind : (z : Sizes) (es : List Equation) → style_ok z es ≡ true → OneKind es
unfolding style_ok
one-kind z es h =
    elim (tell true (signed z)) [
      | inl t ↦ signs-one-kind z es (signs-out z es (rw t at h))
      | inr t ↦ blocks-one-kind z 0 0 0 es (rw t at h)
    ]

-- A block with an equation of kind 1 is greatest.
greatest-in : (i : ℕ) (es : List Equation) (x : ℕ) → x < length es → block_at es x ≡ i → kind_at es x ≡ 1 → greatest_in i es ≡ true
greatest-in i [] x l b k = absurd (not-suc-le-zero l)
greatest-in i (e ∷ es) zero l b k = or_left (greatest_in i es) (and_in (eqb-in _ _ b) (eqb-in _ _ k))
greatest-in i (e ∷ es) (suc x) l b k = or_right (eqb e.block i && eqb e.kind 1) (greatest-in i es x (le_of_suc-le-suc l) b k)

-- A greatest block has an equation of kind 1.
pub greatest-out : (i : ℕ) (es : List Equation) → greatest_in i es ≡ true → (x : ℕ) × (x < length es) × (block_at es x ≡ i) × (kind_at es x ≡ 1)
greatest-out i [] h = absurd (false≢true h)
greatest-out i (e ∷ es) h =
    elim (or-out (eqb e.block i && eqb e.kind 1) (greatest_in i es) h) [
      | inl k ↦ let f = simp and_is at k in (0, omega arith, eqb-out _ _ f.0, eqb-out _ _ f.1)
      | inr k ↦ let r = greatest-out i es k in (suc r.0, omega (arith, r.1), r.2, r.3)
    ]

-- A block is greatest exactly where its equations are.
pub greatest-is : (es : List Equation) → OneKind es → (x : ℕ) → x < length es → greatest_in (block_at es x) es ≡ eqb (kind_at es x) 1
greatest-is es one x l =
    same_truth
    (λ h. let r = greatest-out (block_at es x) es h in eqb-in _ _ (one x r.0 l r.1 (sym r.2) ∙ r.3))
    (λ h. greatest-in (block_at es x) es x l refl (eqb-out _ _ h))
