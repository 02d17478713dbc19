-- Components, their numbers and guilty equations, read from sets of bits. Where these are what each variable leads to, it is
-- what the rules say. Assumes nothing.
use Rattle.std.specs.Prelude.{◌≡◌, Bool, cond, ◌&&◌, ◌||◌, List, ℕ, ◌+◌, ◌/◌, ◌%◌, ◌^◌, ◌<◌, length, get_or}
use Rattle.std.proofs.Common.{sym, ◌∙◌, add-one, arith}
use Rattle.std.proofs.Math.Path.{ap, ap₂}
use Rattle.std.proofs.Math.Bool.{not}
use Rattle.std.proofs.Math.Dec.{eqb, ltb}
use Rattle.lists.specs.Lists.{bit, sum, mask, some_below, each_below, lowest}
use Rattle.lists.specs.Sums.{sum-ext}
use Rattle.lists.specs.Ranges.{same_truth, some_same}
use Rattle.lists.specs.Tests.{eqb-in, eqb-out}
use Rattle.lists.specs.Masks.{mask-bit}
use Rattle.rules.specs.Chains.{together, mixed, reach, stands, component}
use Rattle.rules.specs.Model.{equation_in, names_in, guilty, component_in}
use Rattle.rules.specs.declared.Equation.{Equation}
use Rattle.laws.specs.chains.Components.{reach-same, reach-own}
use Rattle.model_chains.specs.Reaching.{Reaches}

-- Two variables with the same set: they lead to one another.
unfoldable pub tied_by : List ℕ → ℕ → ℕ → Bool
tied_by l x y = eqb (get_or l x 0) (get_or l y 0)

-- No variable before x has its set: x stands for its component.
unfoldable pub stands_by : List ℕ → ℕ → Bool
stands_by l x = not (some_below x (tied_by l x))

-- 1 where y stands for a component with a smaller set than x's; and how many do, the number of x's component.
unfoldable pub before_by : List ℕ → ℕ → ℕ → ℕ
before_by l x y = bit (stands_by l y && ltb (get_or l y 0) (get_or l x 0))

unfoldable pub component_by : List ℕ → ℕ → ℕ
component_by l x = sum (length l) (before_by l x)

-- The sign of the equation of variable x.
abbrev pub kind_in : List Equation → ℕ → ℕ
kind_in es x = (equation_in es x).kind

-- x is tied to y, which has the other sign; x is tied to such a variable; and the lowest that is.
unfoldable pub against_by : List Equation → List ℕ → ℕ → ℕ → Bool
against_by es l x y = tied_by l x y && not (eqb (kind_in es x) (kind_in es y))

unfoldable pub guilty_by : List Equation → List ℕ → ℕ → Bool
guilty_by es l x = some_below (length l) (against_by es l x)

unfoldable pub lowest_by : List Equation → List ℕ → ℕ
lowest_by es l = lowest (length l) (guilty_by es l)

-- The equation of x holds the number of its component, and so do those below k.
unfoldable pub number_by : List Equation → List ℕ → ℕ → Bool
number_by es l x = eqb (equation_in es x).block (component_by l x)

unfoldable pub numbers_by : List Equation → List ℕ → ℕ → Bool
numbers_by es l k = each_below k (number_by es l)

-- One variable more in the set of those that stand, from what code has in hand.
pub standing-more : (l : List ℕ) (x set : ℕ) (is : Bool) → set ≡ mask x (stands_by l) → is ≡ stands_by l x → set + cond is (2 ^ x) 0 ≡ mask (x + 1) (stands_by l)
standing-more l x set is e f = ap₂ (λ (m : ℕ) (b : Bool). m + cond b (2 ^ x) 0) e f ∙ ap (λ (k : ℕ). mask k (stands_by l)) (sym (add-one x))

-- What code asks of y in place of whether it stands for a component before that of x: `set` has those that stand, and `own` is x's.
pub before_is : (l : List ℕ) (x y own set : ℕ) → y < length l → set ≡ mask (length l) (stands_by l) → own ≡ get_or l x 0
    → (eqb (set / 2 ^ y % 2) 1 && ltb (get_or l y 0) own) ≡ (stands_by l y && ltb (get_or l y 0) (get_or l x 0))
before_is l x y own set h e f =
    let a : eqb (set / 2 ^ y % 2) 1 ≡ stands_by l y = ap (λ (m : ℕ). eqb (m / 2 ^ y % 2) 1) e ∙ mask-bit (length l) (stands_by l) y h in
    ap₂ (λ (p : Bool) (j : ℕ). p && ltb (get_or l y 0) j) a f

-- One more of those before x counted, and one more looked at for the other sign.
pub before_more : (l : List ℕ) (x y count own set : ℕ) → y < length l → set ≡ mask (length l) (stands_by l) → own ≡ get_or l x 0 → count ≡ sum y (before_by l x)
    → (k : ℕ) → k ≡ bit (eqb (set / 2 ^ y % 2) 1 && ltb (get_or l y 0) own) → count + k ≡ sum (y + 1) (before_by l x)
unfolding before_by
before_more l x y count own set h e f g k q =
    let b : k ≡ before_by l x y = q ∙ ap bit (before_is l x y own set h e f) in
    ap₂ (λ (i j : ℕ). i + j) g b ∙ ap (λ (j : ℕ). sum j (before_by l x)) (sym (add-one y))

pub against-more : (es : List Equation) (l : List ℕ) (x y : ℕ) (d e : Equation) (found : Bool) → d ≡ equation_in es x → e ≡ equation_in es y → found ≡ some_below y (against_by es l x)
    → (found || (tied_by l x y && not (eqb d.kind e.kind))) ≡ some_below (y + 1) (against_by es l x)
unfolding against_by
against-more es l x y d e found p q h =
    ap₂ (λ (i j : Bool). i || j) h (ap₂ (λ (a b : Equation). tied_by l x y && not (eqb a.kind b.kind)) p q)
    ∙ ap (λ (k : ℕ). some_below k (against_by es l x)) (sym (add-one y))

-- Where the sets are what each variable leads to, one for each equation, all this is what the rules say: variables with the same set
-- lead to one another, since each leads to itself.
module _ (es : List Equation) (l : List ℕ) (r : Reaches es l) (long : length l ≡ length es) where
  tied_is : (x y : ℕ) → x < length es → y < length es → tied_by l x y ≡ together (length es) (names_in es) x y
  unfolding tied_by
  tied_is x y h k =
      let a = reach (length es) (names_in es) x in
      let b = reach (length es) (names_in es) y in
      ap₂ eqb (r.sets x) (r.sets y)
      ∙ same_truth (λ e. reach-own (length es) (names_in es) x y h k (eqb-out a b e)) (λ e. eqb-in a b (reach-same (length es) (names_in es) x y e))

  stands-is : (x : ℕ) → x < length es → stands_by l x ≡ stands (length es) (names_in es) x
  unfolding stands stands_by
  stands-is x h = ap not (some_same x (tied_by l x) (together (length es) (names_in es) x) (λ y k. tied_is x y h (omega arith)))

  -- The number of a component, and whether a variable is guilty, are the rules'.
  pub component-is : (x : ℕ) → component_by l x ≡ component_in es x
  unfolding component_in component component_by before_by
  component-is x =
      ap (λ (k : ℕ). sum k (before_by l x)) long
      ∙ sum-ext (length es) (before_by l x) (λ y. bit (stands (length es) (names_in es) y && ltb (reach (length es) (names_in es) y) (reach (length es) (names_in es) x)))
      (λ y k. ap₂ (λ (p q : Bool). bit (p && q)) (stands-is y k) (ap₂ ltb (r.sets y) (r.sets x)))

  pub guilty-is : (x : ℕ) → x < length es → guilty_by es l x ≡ guilty es x
  unfolding guilty mixed guilty_by against_by
  guilty-is x h =
      ap (λ (k : ℕ). some_below k (against_by es l x)) long
      ∙ some_same (length es) (against_by es l x) (λ y. together (length es) (names_in es) x y && not (eqb (kind_in es x) (kind_in es y)))
      (λ y k. ap (λ (p : Bool). p && not (eqb (kind_in es x) (kind_in es y))) (tied_is x y h k))
