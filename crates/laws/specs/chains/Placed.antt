-- Equations with other block numbers name the same variables and have the same signs, so that chains and components are the
-- same. A model with signs that is inside the limits has the block numbers that placing gives. Assumes nothing.
use Rattle.std.specs.Prelude.{◌≡◌, refl, Bool, true, false, not, List, [], ◌∷◌, ℕ, zero, suc, ◌+◌, ◌<◌, length, eqb}
use Rattle.std.proofs.Common.{sym, ap, ap₂, ◌∙◌, subst, add-zero, suc-add, add-suc, zero-add, le_of_suc-le-suc, not-suc-le-zero, arith}
use Rattle.std.proofs.Math.Path.{fun_ext}
use Rattle.lists.specs.Lists.{some_below}
use Rattle.lists.specs.Tests.{and_in, and_is, not-out, eqb-out, eqb-in}
use Rattle.lists.specs.Ranges.{each_in, each-out}
use Rattle.rules.specs.Chains.{Names, mixed, component}
use Rattle.rules.specs.Model.{equation_in, names_in, guilty, component_in, numbered, placed, sign_ok, signs_ok}
use Rattle.rules.specs.declared.Equation.{Equation}
use Rattle.rules.specs.Records.{Rec}
use Rattle.rules.specs.Spelling.{signed_rec, signed_recs}
use Rattle.rules.specs.declared.Sizes.{Sizes}

-- The equation with another number for its block.
abbrev pub with_block : ℕ → Equation → Equation
with_block b e = record { operator = e.operator; first = e.first; second = e.second; block = b; kind = e.kind }

-- Numbering changes no length, and each equation in its block alone.
pub numbered-length : (at : ℕ → ℕ) (i : ℕ) (es : List Equation) → length (numbered at i es) ≡ length es
numbered-length at i [] = refl
numbered-length at i (e ∷ es) = ap suc (numbered-length at (suc i) es)

numbered-at : (at : ℕ → ℕ) (i : ℕ) (es : List Equation) (x : ℕ) → x < length es
    → equation_in (numbered at i es) x ≡ with_block (at (i + x)) (equation_in es x)
numbered-at at i [] x h = absurd (not-suc-le-zero h)
numbered-at at i (e ∷ es) zero h = ap (λ (k : ℕ). with_block (at k) e) (sym (add-zero i))
numbered-at at i (e ∷ es) (suc x) h =
    numbered-at at (suc i) es x (le_of_suc-le-suc h) ∙ ap (λ (k : ℕ). with_block (at k) (equation_in es x)) (suc-add i x ∙ sym (add-suc i x))

pub numbered_is : (at : ℕ → ℕ) (es : List Equation) (x : ℕ) → x < length es → equation_in (numbered at 0 es) x ≡ with_block (at x) (equation_in es x)
numbered_is at es x h = numbered-at at 0 es x h ∙ ap (λ (k : ℕ). with_block (at k) (equation_in es x)) (zero-add x)

-- Names and signs are the same, past the last equation too.
same_names : (at : ℕ → ℕ) (i : ℕ) (es : List Equation) (x : ℕ) → names_in (numbered at i es) x ≡ names_in es x
same_names at i [] x = refl
same_names at i (e ∷ es) zero = refl
same_names at i (e ∷ es) (suc x) = same_names at (suc i) es x

same-kinds : (at : ℕ → ℕ) (i : ℕ) (es : List Equation) (x : ℕ) → (equation_in (numbered at i es) x).kind ≡ (equation_in es x).kind
same-kinds at i [] x = refl
same-kinds at i (e ∷ es) zero = refl
same-kinds at i (e ∷ es) (suc x) = same-kinds at (suc i) es x

names_same : (at : ℕ → ℕ) (es : List Equation) → ◌≡◌ {A = Names} (names_in (numbered at 0 es)) (names_in es)
names_same at es = fun_ext (λ x. same_names at 0 es x)

-- So the same equations are guilty, and components are the same.
pub guilty-same : (at : ℕ → ℕ) (es : List Equation) → ◌≡◌ {A = ℕ → Bool} (guilty (numbered at 0 es)) (guilty es)
unfolding guilty
guilty-same at es =
    let k : ◌≡◌ {A = ℕ → ℕ} (λ y. (equation_in (numbered at 0 es) y).kind) (λ y. (equation_in es y).kind) = fun_ext (λ x. same-kinds at 0 es x) in
    fun_ext (λ x.
    ap (λ (n : ℕ). mixed n (names_in (numbered at 0 es)) (λ y. (equation_in (numbered at 0 es) y).kind) x) (numbered-length at 0 es)
    ∙ ap (λ (f : Names). mixed (length es) f (λ y. (equation_in (numbered at 0 es) y).kind) x) (names_same at es)
    ∙ ap (λ (s : ℕ → ℕ). mixed (length es) (names_in es) s x) k)

component-placed : (at : ℕ → ℕ) (es : List Equation) → ◌≡◌ {A = ℕ → ℕ} (component_in (numbered at 0 es)) (component_in es)
unfolding component_in
component-placed at es =
    fun_ext (λ x.
    ap (λ (n : ℕ). component n (names_in (numbered at 0 es)) x) (numbered-length at 0 es)
    ∙ ap (λ (f : Names). component (length es) f x) (names_same at es))

-- The last numbers given count; and where they are those that were there, nothing changes.
numbered-twice : (at an : ℕ → ℕ) (i : ℕ) (es : List Equation) → numbered at i (numbered an i es) ≡ numbered at i es
numbered-twice at an i [] = refl
numbered-twice at an i (e ∷ es) = ap (λ (l : List Equation). with_block (at i) e ∷ l) (numbered-twice at an (suc i) es)

numbered-own : (at : ℕ → ℕ) (i : ℕ) (es : List Equation) → ((x : ℕ) → x < length es → (equation_in es x).block ≡ at (i + x)) → numbered at i es ≡ es
numbered-own at i [] h = refl
numbered-own at i (e ∷ es) h =
    ap₂ (λ (b : ℕ) (l : List Equation). with_block b e ∷ l) (ap at (sym (add-zero i)) ∙ sym (h 0 (omega arith)))
    (numbered-own at (suc i) es (λ x k. h (suc x) (omega arith) ∙ ap at (add-suc i x ∙ sym (suc-add i x))))

-- Records with signs do not tell the numbers.
pub signed-recs : (at : ℕ → ℕ) (i : ℕ) (es : List Equation) → signed_recs (numbered at i es) ≡ signed_recs es
signed-recs at i [] = refl
signed-recs at i (e ∷ es) = ap (λ (l : List Rec). signed_rec e ∷ l) (signed-recs at (suc i) es)

-- What the test on equations with signs says: it is passed exactly where this holds.
pub record Signs (z : Sizes) (es : List Equation) : Type 0 where
  pub count : length es ≡ z.variables
  pub good : (x : ℕ) → x < length es → sign_ok z (equation_in es x) ≡ true
  pub pure : some_below (length es) (guilty es) ≡ false
  pub block : (x : ℕ) → x < length es → (equation_in es x).block ≡ component_in es x

pub signs-out : (z : Sizes) (es : List Equation) → signs_ok z es ≡ true → Signs z es
unfolding signs_ok
signs-out z es h =
    let k = simp and_is at h in
    record {
      count = eqb-out _ _ k.0.0.0;
      good = each-out (length es) (λ x. sign_ok z (equation_in es x)) k.0.0.1;
      pure = not-out (some_below (length es) (guilty es)) k.0.1;
      block = λ x l. eqb-out _ _ (each-out (length es) (λ y. eqb (equation_in es y).block (component_in es y)) k.1 x l);
    }

pub signs-in : (z : Sizes) (es : List Equation) → Signs z es → signs_ok z es ≡ true
unfolding signs_ok
signs-in z es s =
    and_in (and_in (and_in (eqb-in _ _ s.count) (each_in (length es) (λ x. sign_ok z (equation_in es x)) s.good)) (ap not s.pure))
    (each_in (length es) (λ y. eqb (equation_in es y).block (component_in es y)) (λ x l. eqb-in _ _ (s.block x l)))

-- Equations whose numbers are the components' are as placing leaves them, whatever the numbers were before.
pub placed-own : (z : Sizes) (es : List Equation) (an : ℕ → ℕ) → Signs z es → placed (numbered an 0 es) ≡ es
unfolding placed
placed-own z es an s =
    numbered-twice (component_in (numbered an 0 es)) an 0 es
    ∙ ap (λ (at : ℕ → ℕ). numbered at 0 es) (component-placed an es)
    ∙ numbered-own (component_in es) 0 es (λ x h. s.block x h ∙ ap (component_in es) (sym (zero-add x)))

-- And placing gives such equations.
pub placed-signs : (z : Sizes) (es : List Equation) → length es ≡ z.variables
    → ((x : ℕ) → x < length es → sign_ok z (equation_in es x) ≡ true)
    → some_below (length es) (guilty es) ≡ false → Signs z (placed es)
unfolding placed
placed-signs z es n g p =
    let at : ℕ → ℕ = component_in es in
    let l = numbered-length at 0 es in
    record {
      count = l ∙ n;
      good = λ x h. let k : x < length es = subst (λ (j : ℕ). x < j) l h in ap (sign_ok z) (numbered_is at es x k) ∙ g x k;
      pure = ap₂ some_below l (guilty-same at es) ∙ p;
      block = λ x h. let k : x < length es = subst (λ (j : ℕ). x < j) l h in
          ap (λ (e : Equation). e.block) (numbered_is at es x k) ∙ ap (λ (f : ℕ → ℕ). f x) (sym (component-placed at es));
    }
