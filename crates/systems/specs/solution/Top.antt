-- The largest assignment of a block that supports itself: it solves the block's equations, and rests on the block and
-- those before it alone. Largest is by the block's own value, so that one proof serves least and greatest blocks.
-- Assumes nothing.
use Rattle.std.specs.Prelude.{◌≡◌, ◌⊎◌, cond, ℕ, suc, ◌≤◌, ◌<◌, eqb}
use Rattle.std.proofs.Common.{sym, ◌∙◌, subst, inl, inr, eq-or-lt_of_le, arith}
use Rattle.lists.specs.Tests.{◌∈◌, tell, clash, eqb-in, eqb-off, cond_yes, cond_no}
use Rattle.systems.specs.solution.System.{Frame, Leans, Values, Fits, eval, Solves, Agree}
use Rattle.systems.specs.solution.Operands.{ev-mono}

-- Where u has the own value of block i, the equation gives it.
abbrev pub Supported : Frame → Leans → ℕ → Values → Type 0
Supported F L i u = (p : ℕ) → F.block p ≡ i → u p ≡ F.great i → eval F L u p ≡ F.great i

-- In block i, v has the block's own value wherever u has it.
abbrev pub Above : Frame → ℕ → Values → Values → Type 0
Above F i u v = (p : ℕ) → F.block p ≡ i → u p ≡ F.great i → v p ≡ F.great i

-- In block i, v has the largest assignment that supports itself.
pub record Top (F : Frame) (L : Leans) (i : ℕ) (v : Values) : Type 0 where
  pub supported : Supported F L i v
  pub largest : (u : Values) → Agree F i u v → Supported F L i u → Above F i u v

module _ {F : Frame} {L : Leans} (fits : Fits F L) where
  -- The operands of a pair of block i lie in block i or before.
  pub operand-block : {i p q : ℕ} → F.block p ≡ i → q ∈ L p → (F.block q ≡ i) ⊎ (F.block q < i)
  operand-block {p = p} {q} e m = eq-or-lt_of_le (subst (λ (j : ℕ). F.block q ≤ j) e (fits.earlier p q m))

  -- What is largest solves the equations.
  pub top-solves : {i : ℕ} {v : Values} → Top F L i v → Solves F L i v
  top-solves {i} {v} t p e =
      elim (tell (F.great i) (v p)) [
        | inl h ↦ h ∙ sym (t.supported p e h)
        | inr h ↦ elim (tell (F.great i) (eval F L v p)) [
          | inr k ↦ h ∙ sym k
          | inl k ↦ absurd (clash (F.great i) (v p) (t.largest u agree self p e (given p e ∙ k)) h)
        ]
      ]
    where
      u : Values
      u q = cond (eqb (F.block q) i) (eval F L v q) (v q)

      given : (q : ℕ) → F.block q ≡ i → u q ≡ eval F L v q
      given q e = cond_yes (eval F L v q) (v q) (eqb-in (F.block q) i e)

      agree : Agree F i u v
      agree q h = cond_no (eval F L v q) (v q) (eqb-off (F.block q) i h)

      self : Supported F L i u
      self q e h =
          ev-mono (F.kind q) (F.great i) v u (L q)
          (λ r m k. elim (operand-block e m) [ inl c ↦ given r c ∙ t.supported r c k | inr c ↦ agree r c ∙ k ])
          (sym (given q e) ∙ h)

  -- Values that agree on block i and those before are largest there together.
  pub top-agree : {i : ℕ} {v : Values} (w : Values) → Agree F (suc i) w v → Top F L i v → Top F L i w
  top-agree {i} {v} w a t = record {
    supported = λ p e h.
        ev-mono (F.kind p) (F.great i) v w (L p)
        (λ q m k. a q (elim (operand-block e m) [ inl c ↦ omega arith | inr c ↦ omega arith ]) ∙ k)
        (t.supported p e (sym (a p (omega arith)) ∙ h));
    largest = λ u b s p e h. a p (omega arith) ∙ t.largest u (λ q c. b q c ∙ a q (omega arith)) s p e h;
  }
