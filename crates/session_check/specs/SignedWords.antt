-- Equations with signs, tested one by one, and the style of the equations. Assumes nothing.
use Rattle.std.specs.Prelude.{◌≡◌, refl, Bool, true, not, ◌&&◌, List, ℕ, length, eqb}
use Rattle.std.proofs.Common.{sym, ap, ap₂, ◌∙◌}
use Rattle.std.proofs.Math.Bool.{and_assoc}
use Rattle.lists.specs.Lists.{some_below, each_below}
use Rattle.lists.specs.Tests.{eqb-in, eqb_no, cond_yes, cond_no}
use Rattle.rules.specs.Model.{equation_in, sign_ok, guilty, component_in, signs_ok, equations_ok, style_ok}
use Rattle.rules.specs.declared.Equation.{Equation}
use Rattle.rules.specs.declared.Sizes.{Sizes}
use Rattle.model_chains.specs.Stored.{chains_ok}

-- The first k equations have their signs and their numbers in range.
unfoldable pub each_sign : Sizes → List Equation → ℕ → Bool
each_sign z es k = each_below k (λ x. sign_ok z (equation_in es x))

-- Where there is an equation for each variable, that and the test of the chains are what is asked of equations with signs.
pub signs-by : (z : Sizes) (es : List Equation) (n : ℕ) (a b : Bool) → length es ≡ n → n ≡ z.variables → a ≡ each_sign z es n → b ≡ chains_ok es → (a && b) ≡ signs_ok z es
unfolding signs_ok chains_ok each_sign
signs-by z es n a b l e f g =
    let q : eqb (length es) z.variables ≡ true = eqb-in (length es) z.variables (l ∙ e) in
    ap₂ (λ (x y : Bool). x && y) (f ∙ ap (λ (k : ℕ). each_below k (λ x. sign_ok z (equation_in es x))) (sym l)) g
    ∙ sym (and_assoc (each_below (length es) (λ x. sign_ok z (equation_in es x))) (not (some_below (length es) (guilty es))) (each_below (length es) (λ x. eqb (equation_in es x).block (component_in es x))))
    ∙ sym (rw q refl)

-- The style that the sizes tell: signs, or blocks.
pub style-signs : (z : Sizes) (es : List Equation) (b : Bool) → z.blocks ≡ 0 → b ≡ signs_ok z es → b ≡ style_ok z es
unfolding style_ok
style-signs z es b e f = f ∙ sym (cond_yes (signs_ok z es) (equations_ok z 0 0 0 es) (eqb-in z.blocks 0 e))

pub style-blocks : (z : Sizes) (es : List Equation) (b : Bool) → (z.blocks ≡ 0 → ⊥) → b ≡ equations_ok z 0 0 0 es → b ≡ style_ok z es
unfolding style_ok
style-blocks z es b e f = f ∙ sym (cond_no (signs_ok z es) (equations_ok z 0 0 0 es) ((eqb_no z.blocks 0).1 e))
