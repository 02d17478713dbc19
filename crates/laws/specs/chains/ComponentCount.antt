-- One more than the highest number of a component is the count of components: no number is left out, since each component has
-- its own. Assumes nothing.
use Rattle.std.specs.Prelude.{◌≡◌, refl, ◌⊎◌, ◌&&◌, List, [], ◌∷◌, length}
use Rattle.std.proofs.Common.{sym, ap, ◌∙◌, true≢false, le_refl, eq-or-lt_of_le, le_of_suc-le-suc, not-suc-le-zero}
use Rattle.std.proofs.Math.Logic.{inl, inr}
use Rattle.std.proofs.Math.Bool.{true, false}
use Prim.Native.Nat.{ℕ, zero, suc, ◌≤◌, ◌<◌}
use Rattle.std.proofs.Math.Decide.{dec_le, ℕ_discrete}
use native.Mathlib.Omega.{arith}
use Rattle.std.proofs.Math.Dec.{ltb}
use Rattle.lists.specs.Lists.{bit}
use Rattle.lists.specs.Tests.{tell, not-out, ltb_no}
use Rattle.lists.specs.Sets.{size}
use Rattle.lists.specs.Ranges.{some-no}
use Rattle.rules.specs.Chains.{Names, together, reach, stands, component}
use Rattle.rules.specs.Model.{equation_in, names_in, component_in, placed, blocks_in}
use Rattle.rules.specs.declared.Equation.{Equation}
use Rattle.laws.specs.chains.ChainLaws.{Inside}
use Rattle.laws.specs.chains.Components.{before, reach-own, reach-same, together-back, component-below}
use Rattle.laws.specs.chains.Placed.{numbered-length, numbered_is}
use Rattle.laws.specs.chains.Named.{variable-block}

-- Of n numbers, n not 0, one where f is largest.
largest : (n : ℕ) (f : ℕ → ℕ) → 0 < n → (x : ℕ) × (x < n) × ((y : ℕ) → y < n → f y ≤ f x)
largest zero f h = absurd (not-suc-le-zero h)
largest (suc zero) f h = (0, h, λ y k. let e : y ≡ 0 = omega arith in let g = ap f e in omega arith)
largest (suc (suc n)) f h =
    let t = largest (suc n) f (omega arith) in
    let a = t.1 in
    elim (dec_le (f (suc n)) (f t.0)) [
      | yes l ↦ (
        t.0,
        omega arith,
        λ y k. elim (eq-or-lt_of_le (le_of_suc-le-suc k)) [
          | inl e ↦ let g = ap f e in omega arith
          | inr e ↦ t.2 y e
        ],
      )
      | no l ↦ (
        suc n,
        le_refl (suc (suc n)),
        λ y k. elim (eq-or-lt_of_le (le_of_suc-le-suc k)) [
          | inl e ↦ let g = ap f e in omega arith
          | inr e ↦ let g = t.2 y e in omega arith
        ],
      )
    ]

module _ (n : ℕ) (names : Names) (inside : Inside n names) where
  -- Two variables of one component that stand for it are the same.
  one-stands : (x y : ℕ) → x < n → y < n → stands n names x ≡ true → stands n names y ≡ true → together n names x y ≡ true → x ≡ y
  unfolding stands
  one-stands x y h k a b t =
      elim (ℕ_discrete x y) [
        | yes e ↦ e
        | no e ↦ elim (dec_le x y) [
          | yes l ↦ absurd (true≢false (sym (together-back n names inside x y t) ∙ some-no y (together n names y) (not-out _ b) x (strict l e)))
          | no l ↦ absurd (true≢false (sym t ∙ some-no x (together n names x) (not-out _ a) y (omega arith)))
        ]
      ]
    where
      strict : x ≤ y → (x ≡ y → ⊥) → x < y
      strict l e = elim (eq-or-lt_of_le l) [ inl q ↦ absurd (e q) | inr q ↦ q ]

  -- Of the first k, those that stand are the ones before x, and at most one more, which is of x's component.
  Counted : ℕ → ℕ → Type 0
  Counted k x =
      (size k (stands n names) ≤ size k (before n names x))
      ⊎ ((size k (stands n names) ≤ suc (size k (before n names x))) × ((r : ℕ) × (r < k) × (stands n names r ≡ true) × (together n names r x ≡ true)))

  -- So it is where x has the largest reach.
  count-le : (k : ℕ) (x : ℕ) → k ≤ n → ((y : ℕ) → y < n → reach n names y ≤ reach n names x) → x < n
      → Counted k x
  unfolding before Counted
  count-le zero x l m h = inl (omega arith)
  count-le (suc k) x l m h = next (count-le k x (omega arith) m h) (tell true (stands n names k)) (tell true (ltb (reach n names k) (reach n names x)))
    where
      tied : ltb (reach n names k) (reach n names x) ≡ false → together n names k x ≡ true
      tied e = let a = m k (omega arith) in let b = (ltb_no (reach n names k) (reach n names x)).0 e in reach-own n names k x (omega arith) h (omega arith)

      next : Counted k x → (stands n names k ≡ true) ⊎ (stands n names k ≡ false)
          → (ltb (reach n names k) (reach n names x) ≡ true) ⊎ (ltb (reach n names k) (reach n names x) ≡ false) → Counted (suc k) x
      next (inl a) (inr s) b = let e = ap bit s in inl (omega arith)
      next (inr a) (inr s) b =
          let e = ap bit s in
          let q = a.0 in
          let p = a.1.1 in
          inr (omega arith, (a.1.0, omega arith, a.1.2, a.1.3))
      next (inl a) (inl s) (inl b) =
          let e = ap bit s in
          let f : bit (stands n names k && ltb (reach n names k) (reach n names x)) ≡ 1 = rw (s, b) refl in
          inl (omega arith)
      next (inr a) (inl s) (inl b) =
          let e = ap bit s in
          let f : bit (stands n names k && ltb (reach n names k) (reach n names x)) ≡ 1 = rw (s, b) refl in
          let q = a.0 in
          let p = a.1.1 in
          inr (omega arith, (a.1.0, omega arith, a.1.2, a.1.3))
      next (inl a) (inl s) (inr b) = let e = ap bit s in inr (omega arith, (k, le_refl (suc k), s, tied b))
      next (inr a) (inl s) (inr b) =
          let r = a.1.0 in
          let p = a.1.1 in
          let t = tied b in
          let u = reach-own n names r k (omega arith) (omega arith) (reach-same n names r x a.1.3 ∙ sym (reach-same n names k x t)) in
          let e = one-stands r k (omega arith) (omega arith) a.1.2 s u in
          absurd (omega arith)

  -- Some component has the last number.
  component-last : 0 < n → (x : ℕ) × (x < n) × (suc (component n names x) ≡ size n (stands n names))
  unfolding component before Counted
  component-last h =
      let t = largest n (reach n names) h in
      let x = t.0 in
      let a = component-below n names inside x t.1 in
      (x, t.1, elim (count-le n x (le_refl n) t.2 t.1) [ inl c ↦ omega arith | inr c ↦ let q = c.0 in omega arith ])

-- Where each equation's block is below k, there are at most k blocks.
pub blocks-le : (es : List Equation) (k : ℕ) → ((x : ℕ) → x < length es → (equation_in es x).block < k) → blocks_in es ≤ k
blocks-le [] k h = omega arith
blocks-le (e ∷ es) k h = let a = h 0 (omega arith) in let b = blocks-le es k (λ x l. h (suc x) (omega arith)) in omega arith

-- Equations with their components for blocks have as many blocks as there are components.
pub blocks-components : (es : List Equation) → 0 < length es → Inside (length es) (names_in es)
    → blocks_in (placed es) ≡ size (length es) (stands (length es) (names_in es))
unfolding placed component_in
blocks-components es h inside =
    let n = length es in
    let at = component_in es in
    let l = numbered-length at 0 es in
    let t = component-last n (names_in es) inside h in
    let c = t.2 in
    let lx : t.0 < length (placed es) = let q = t.1 in omega arith in
    let g = variable-block (placed es) t.0 lx in
    let e = ap (λ (e : Equation). e.block) (numbered_is at es t.0 t.1) in
    let u = blocks-le (placed es) (size n (stands n (names_in es))) (λ x k.
    let k' : x < length es = omega arith in
    let f = ap (λ (e : Equation). e.block) (numbered_is at es x k') in
    let b = component-below n (names_in es) inside x k' in
    omega arith) in
    omega arith
