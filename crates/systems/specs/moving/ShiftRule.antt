-- The rule of shifting, as facts: which pairs shift and why, that the shifted set is the smallest that the rule asks for,
-- and that it can be made one by one in any order.
-- Assumes nothing.
use Rattle.std.specs.Prelude.{◌≡◌, ◌⊎◌, true, false, ◌&&◌, ◌||◌, eqb, ltb}
use Rattle.std.proofs.Common.{ap, inl, inr, arith}
use Rattle.std.proofs.Math.Bool.{Bool, not}
use Prim.Native.Nat.{ℕ, ◌<◌}
use Rattle.lists.specs.Marks.{put}
use Rattle.lists.specs.Lists.{is, any, elem}
use Rattle.lists.specs.Tests.{◌∈◌, tell, not-out, no_way, is-out, is-in, is-not, and_in, and_left, and_right, or_left, or_right, or-out, eqb-out, eqb-in, ltb-out, ltb-in, any_out, any-in}
use Rattle.lists.specs.Sets.{Sub}
use Rattle.lists.specs.SmallestLaws.{Monotone, Made, smallest-closed, smallest-rule, smallest-least, made-same}
use Rattle.systems.specs.solution.System.{Frame, Leans, Values, Fits, seeds, rose, shifts, shifted}
use Rattle.systems.specs.solution.Put.{put-off}

module _ (L M : Leans) (old : Values) where
  -- A pair with operator k shifts of itself, in a block whose own value is b: it needs b at one operand and gains one, or
  -- it needs b at all and loses one that had the other value.
  pub data Seeds (b k : Bool) (p : ℕ) : Type 0 where
    gains : (q : ℕ) → k ≡ not b → q ∈ M p → elem q (L p) ≡ false → Seeds b k p
    loses : (q : ℕ) → k ≡ b → q ∈ L p → elem q (M p) ≡ false → old q ≡ not b → Seeds b k p

  -- A seed passes the test.
  pub seeds-in : (b k : Bool) (p : ℕ) → Seeds b k p → seeds L M old b (is b k) p ≡ true
  unfolding seeds
  seeds-in b k p (gains q e m n) =
      rw (is-not b k e) (any-in (λ r. not (elem r (L p))) m (ap not n))
  seeds-in b k p (loses q e m n o) =
      rw (is-in b k e) (any-in (λ r. is (not b) (old r) && not (elem r (M p))) m (and_in (is-in (not b) (old q) o) (ap not n)))

  -- What passes the test is a seed.
  pub seeds-out : (b k : Bool) (p : ℕ) → seeds L M old b (is b k) p ≡ true → Seeds b k p
  unfolding seeds
  seeds-out b k p e = go (tell b k)
    where
      go : (k ≡ b) ⊎ (k ≡ not b) → Seeds b k p
      go (inl h) =
          let t = any_out (λ r. is (not b) (old r) && not (elem r (M p))) (L p) (rw (is-in b k h) at e) in
          let q = t.0 in
          loses q h t.1 (not-out (elem q (M p)) (and_right (is (not b) (old q)) (not (elem q (M p))) t.2))
          (is-out (not b) (old q) (and_left (is (not b) (old q)) (not (elem q (M p))) t.2))
      go (inr h) =
          let t = any_out (λ r. not (elem r (L p))) (M p) (rw (is-not b k h) at e) in
          gains t.0 h t.1 (not-out (elem t.0 (L p)) t.2)

module _ (F : Frame) (L M : Leans) (i : ℕ) (old v : Values) where
  -- q lies in an earlier block, and has turned to the own value of block i.
  pub record Rose (q : ℕ) : Type 0 where
    pub before : F.block q < i
    pub was : old q ≡ not (F.great i)
    pub now : v q ≡ F.great i

  -- Why p shifts, where s has shifted: it is a seed, leans on a shifted pair, or leans on a pair that rose.
  pub data Why (s : ℕ → Bool) (p : ℕ) : Type 0 where
    seed : Seeds L M old (F.great i) (F.kind p) p → Why s p
    lean : (q : ℕ) → q ∈ M p → s q ≡ true → Why s p
    risen : (q : ℕ) → q ∈ M p → Rose q → Why s p

  -- p shifts: it is a pair of block i that had the other value, and has a reason.
  pub record Shifts (s : ℕ → Bool) (p : ℕ) : Type 0 where
    pub here : F.block p ≡ i
    pub was : old p ≡ not (F.great i)
    pub why : Why s p

  rose-in : (q : ℕ) → Rose q → rose F i old v q ≡ true
  rose-in q r =
      and_in (ltb-in (F.block q) i r.before) (and_in (is-in (not (F.great i)) (old q) r.was) (is-in (F.great i) (v q) r.now))

  rose-out : (q : ℕ) → rose F i old v q ≡ true → Rose q
  rose-out q e =
      let x = ltb (F.block q) i in
      let y = is (not (F.great i)) (old q) in
      let z = is (F.great i) (v q) in
      record {
        before = ltb-out (F.block q) i (and_left x (y && z) e);
        was = is-out (not (F.great i)) (old q) (and_left y z (and_right x (y && z) e));
        now = is-out (F.great i) (v q) (and_right y z (and_right x (y && z) e));
      }

  -- The rule asks for what shifts.
  pub shifts-in : (s : ℕ → Bool) (p : ℕ) → Shifts s p → shifts F L M i old v s p ≡ true
  unfolding shifts
  shifts-in s p d = and_in (eqb-in (F.block p) i d.here) (and_in (is-in (not (F.great i)) (old p) d.was) (go d.why))
    where
      on : ℕ → Bool
      on q = s q || rose F i old v q

      sd : Bool
      sd = seeds L M old (F.great i) (is (F.great i) (F.kind p)) p

      go : Why s p → (sd || any on (M p)) ≡ true
      go (seed x) = or_left (any on (M p)) (seeds-in L M old (F.great i) (F.kind p) p x)
      go (lean q m h) = or_right sd (any-in on m (or_left (rose F i old v q) h))
      go (risen q m h) = or_right sd (any-in on m (or_right (s q) (rose-in q h)))

  -- What the rule asks for shifts.
  pub shifts-out : (s : ℕ → Bool) (p : ℕ) → shifts F L M i old v s p ≡ true → Shifts s p
  unfolding shifts
  shifts-out s p e = record {
    here = eqb-out (F.block p) i (and_left x (y && z) e);
    was = is-out (not (F.great i)) (old p) (and_left y z (and_right x (y && z) e));
    why = go (or-out sd (any on (M p)) (and_right y z (and_right x (y && z) e)));
  }
    where
      on : ℕ → Bool
      on q = s q || rose F i old v q

      sd : Bool
      sd = seeds L M old (F.great i) (is (F.great i) (F.kind p)) p

      x : Bool
      x = eqb (F.block p) i

      y : Bool
      y = is (not (F.great i)) (old p)

      z : Bool
      z = sd || any on (M p)

      go : (sd ≡ true) ⊎ (any on (M p) ≡ true) → Why s p
      go (inl h) = seed (seeds-out L M old (F.great i) (F.kind p) p h)
      go (inr h) =
          let t = any_out on (M p) h in
          elim (or-out (s t.0) (rose F i old v t.0) t.2) [
            | inl k ↦ lean t.0 t.1 k
            | inr k ↦ risen t.0 t.1 (rose-out t.0 k)
          ]

  why-more : (s t : ℕ → Bool) → Sub s t → (p : ℕ) → Why s p → Why t p
  why-more s t f p (seed x) = seed x
  why-more s t f p (lean q m h) = lean q m (f q h)
  why-more s t f p (risen q m h) = risen q m h

module _ {F : Frame} {L : Leans} (fits : Fits F L) (M : Leans) {i : ℕ} (lt : i < F.blocks) (old v : Values) where
  -- The more have shifted, the more shift.
  pub shifts-monotone : Monotone F.pairs (shifts F L M i old v)
  shifts-monotone = record {
    more = λ s t f p e.
        let d = shifts-out F L M i old v s p e in
        shifts-in F L M i old v t p (record { here = d.here; was = d.was; why = why-more F L M i old v s t f p d.why });
    inside = λ s p e. let h = (shifts-out F L M i old v s p e).here in fits.inside p (omega arith);
  }

  -- What shifts is in the shifted set.
  pub shifted_in_lem : (p : ℕ) → Shifts F L M i old v (shifted F L M i old v) p → shifted F L M i old v p ≡ true
  unfolding shifted
  shifted_in_lem p d = smallest-closed shifts-monotone p (shifts-in F L M i old v (shifted F L M i old v) p d)

  -- Each pair of the shifted set shifts.
  pub shifted-out : (p : ℕ) → shifted F L M i old v p ≡ true → Shifts F L M i old v (shifted F L M i old v) p
  unfolding shifted
  shifted-out p e = shifts-out F L M i old v (shifted F L M i old v) p (smallest-rule shifts-monotone p e)

  -- No pair of another block shifts.
  pub shifted-off : (p : ℕ) → (F.block p ≡ i → ⊥) → shifted F L M i old v p ≡ false
  shifted-off p n = no_way (shifted F L M i old v p) (λ e. n (shifted-out p e).here)

  -- The values of other blocks stay.
  pub shifted-keep : (p : ℕ) → (F.block p ≡ i → ⊥) → put (F.great i) v (shifted F L M i old v) p ≡ v p
  shifted-keep p n = put-off (F.great i) v (shifted F L M i old v) p (shifted-off p n)

module _ (F : Frame) (L M : Leans) (fits : Fits F L) (i : ℕ) (lt : i < F.blocks) (old v : Values) (s : ℕ → Bool) where
  -- The shifted set is the smallest that holds what shifts.
  pub shifted-smallest : ((p : ℕ) → Shifts F L M i old v s p → s p ≡ true) → Sub (shifted F L M i old v) s
  unfolding shifted
  shifted-smallest f = smallest-least (shifts-monotone fits M lt old v) s (λ p e. f p (shifts-out F L M i old v s p e))
