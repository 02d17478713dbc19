-- The strongly connected components of the variables: each has one number, each its own, and it comes after those that it
-- names. Assumes nothing.
use Rattle.std.specs.Prelude.{◌≡◌, Bool, false, ◌&&◌, ℕ, ◌≤◌, ◌<◌, eqb, ltb}
use Rattle.std.proofs.Math.Path.{refl, ap}
use Rattle.std.proofs.Common.{sym, ◌∙◌, true≢false, eq-or-lt_of_le}
use Rattle.std.proofs.Math.Logic.{inl, inr}
use Rattle.std.proofs.Math.Bool.{true, not}
use Rattle.std.proofs.Math.Decide.{dec_le}
use native.Mathlib.Omega.{arith}
use Rattle.lists.specs.Lists.{some_below, lowest}
use Rattle.lists.specs.Tests.{◌∈◌, tell, no_way, and_in, and_left, and_right, eqb-out, ltb-in, ltb-out}
use Rattle.lists.specs.Sets.{size, size-more}
use Rattle.lists.specs.Ranges.{some_in, some_out, Lowest, lowest-some}
use Rattle.lists.specs.Masks.{mask-mono, mask-own}
use Rattle.rules.specs.Chains.{Names, leads, together, mixed, reach, stands, component}
use Rattle.laws.specs.chains.ChainLaws.{stop, go, follow, Inside, leads-from, leads-own, leads-on, leads-in, together-in, together-out}

-- Reaches, whatever is named: what a variable leads to has no larger one, and those that lead to one another have the same.
module _ (n : ℕ) (names : Names) where
  reach-le : (x y : ℕ) → leads n names x y ≡ true → reach n names y ≤ reach n names x
  unfolding reach
  reach-le x y e = mask-mono n (leads n names y) (leads n names x) (λ z f. leads-on n names x y z e f)

  -- Variables of one component have one reach, and those with one reach are of one component.
  pub reach-same : (x y : ℕ) → together n names x y ≡ true → reach n names x ≡ reach n names y
  unfolding together
  reach-same x y e =
      let a = reach-le x y (and_left (leads n names x y) (leads n names y x) e) in
      let b = reach-le y x (and_right (leads n names x y) (leads n names y x) e) in
      omega arith

  pub reach-own : (x y : ℕ) → x < n → y < n → reach n names x ≡ reach n names y → together n names x y ≡ true
  unfolding reach together
  reach-own x y h k e =
      let f = mask-own n (leads n names x) (leads n names y) e in
      and_in (f y k ∙ leads-own n names y k) (sym (f x h) ∙ leads-own n names x h)

  -- How many stand for a component with a smaller reach than x: that is the number of x's component.
  unfoldable pub before : ℕ → ℕ → Bool
  before x r = stands n names r && ltb (reach n names r) (reach n names x)

  before-in : (x r : ℕ) → stands n names r ≡ true → reach n names r < reach n names x → before x r ≡ true
  unfolding before
  before-in x r e h = and_in e (ltb-in (reach n names r) (reach n names x) h)

  before-out : (x r : ℕ) → before x r ≡ true → (stands n names r ≡ true) × (reach n names r < reach n names x)
  unfolding before
  before-out x r e = (
    and_left (stands n names r) (ltb (reach n names r) (reach n names x)) e,
    ltb-out (reach n names r) (reach n names x) (and_right (stands n names r) (ltb (reach n names r) (reach n names x)) e),
  )

  component-size : (x : ℕ) → component n names x ≡ size n (before x)
  unfolding component before
  component-size x = refl

module _ (n : ℕ) (names : Names) (inside : Inside n names) where
  -- Being of one component: of the first n each with itself, and both ways, and from one to the next.
  together-same : {x : ℕ} → x < n → together n names x x ≡ true
  together-same h = together-in n names inside h stop stop

  pub together-from : (x y : ℕ) → together n names x y ≡ true → x < n
  unfolding together
  together-from x y e = leads-from n names x y (and_left (leads n names x y) (leads n names y x) e)

  pub together-back : (x y : ℕ) → together n names x y ≡ true → together n names y x ≡ true
  unfolding together
  together-back x y e = and_in (and_right (leads n names x y) (leads n names y x) e) (and_left (leads n names x y) (leads n names y x) e)

  together-on : (x y z : ℕ) → together n names x y ≡ true → together n names y z ≡ true → together n names x z ≡ true
  together-on x y z e f =
      let a = together-out n names inside x y e in
      let b = together-out n names inside y z f in
      together-in n names inside (together-from x y e) (follow a.0 b.0) (follow b.1 a.1)

  -- The lowest variable of a component stands for it.
  stand : ℕ → ℕ
  stand x = lowest n (together n names x)

  stand-fact : {x : ℕ} → x < n → Lowest n (together n names x) (stand x)
  unfolding stand
  stand-fact {x} h = lowest-some n (together n names x) (some_in n (together n names x) x h (together-same h))

  stand-stands : {x : ℕ} → x < n → stands n names (stand x) ≡ true
  unfolding stands
  stand-stands {x} h =
      ap not (no_way (some_below (stand x) (together n names (stand x)))
      (λ e. let t = some_out (stand x) (together n names (stand x)) e in
      let k = t.1 in
      let f = (stand-fact h).first t.0 (together-on x (stand x) t.0 (stand-fact h).passes t.2) in
      omega arith))

  stand-reach : {x : ℕ} → x < n → reach n names (stand x) ≡ reach n names x
  stand-reach {x} h = sym (reach-same n names x (stand x) (stand-fact h).passes)

  component-le : (x y : ℕ) → reach n names y ≤ reach n names x → component n names y ≤ component n names x
  component-le x y h =
      let a = component-size n names x in
      let b = component-size n names y in
      let m = (size-more n (before n names y) (before n names x) (λ r e. let t = before-out n names y r e in before-in n names x r t.0 (let k = t.1 in omega arith))).0 in
      omega arith

  component-lt : (x y : ℕ) → y < n → reach n names y < reach n names x → component n names y < component n names x
  component-lt x y l h =
      let a = component-size n names x in
      let b = component-size n names y in
      elim (size-more n (before n names y) (before n names x) (λ r e. let t = before-out n names y r e in before-in n names x r t.0 (let k = t.1 in omega arith))).1 [
        | inl k ↦ omega arith
        | inr f ↦
            let q = stand-reach l in
            let e = f (stand y) (stand-fact l).below (before-in n names x (stand y) (stand-stands l) (omega arith)) in
            let k = (before-out n names y (stand y) e).1 in
            absurd (omega arith)
      ]

  -- A variable that x names has no larger number; of another component, it has a smaller one: each component comes after
  -- those that it names.
  pub component-names : (x y : ℕ) → x < n → y ∈ names x → component n names y ≤ component n names x
  component-names x y h m = component-le x y (reach-le n names x y (leads-in n names inside (go m stop) h))

  -- All variables of a component have one number, and no two components have the same.
  pub component-same : (x y : ℕ) → together n names x y ≡ true → component n names x ≡ component n names y
  component-same x y e =
      let r = reach-same n names x y e in
      let a = component-le x y (omega arith) in
      let b = component-le y x (omega arith) in
      omega arith

  pub component-own : (x y : ℕ) → x < n → y < n → component n names x ≡ component n names y → together n names x y ≡ true
  component-own x y h k e =
      elim (dec_le (reach n names x) (reach n names y)) [
        | no l ↦ let q = component-lt x y k (omega arith) in absurd (omega arith)
        | yes l ↦ elim (eq-or-lt_of_le l) [
          | inl f ↦ reach-own n names x y h k f
          | inr f ↦ let q = component-lt y x h f in absurd (omega arith)
        ]
      ]

  pub component-after : (x y : ℕ) → x < n → y ∈ names x → together n names x y ≡ false → component n names y < component n names x
  component-after x y h m e =
      let k = inside x y h m in
      elim (eq-or-lt_of_le (component-names x y h m)) [
        | inl q ↦ absurd (true≢false (sym (component-own x y h k (sym q)) ∙ e))
        | inr q ↦ q
      ]

  -- Each number is below the count of components.
  pub component-below : (x : ℕ) → x < n → component n names x < size n (stands n names)
  component-below x h =
      let a = component-size n names x in
      elim (size-more n (before n names x) (stands n names) (λ r e. (before-out n names x r e).0)).1 [
        | inl k ↦ omega arith
        | inr f ↦
            let q = stand-reach h in
            let k = (before-out n names x (stand x) (f (stand x) (stand-fact h).below (stand-stands h))).1 in
            absurd (omega arith)
      ]

  -- Where no closed chain holds both signs, a component has one sign.
  module _ (sign : ℕ → ℕ) (pure : (x : ℕ) → x < n → mixed n names sign x ≡ false) where
    pub together-sign : (x y : ℕ) → together n names x y ≡ true → sign x ≡ sign y
    unfolding mixed
    together-sign x y e =
        elim (tell true (eqb (sign x) (sign y))) [
          | inl h ↦ eqb-out (sign x) (sign y) h
          | inr h ↦ absurd (true≢false
              (sym (some_in n (λ z. together n names x z && not (eqb (sign x) (sign z))) y (together-from y x (together-back x y e)) (and_in e (ap not h)))
              ∙ pure x (together-from x y e)))
        ]
