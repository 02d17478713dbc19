-- The smallest set that a monotone rule asks for: it is closed under the rule, each member is there by the rule, and
-- single steps that the rule allows, in any order until none is left, end in it.
-- Assumes nothing.
use Rattle.std.specs.Prelude.{◌≡◌, ◌⊎◌, Bool, eqb}
use Rattle.std.proofs.Math.Path.{sym}
use Rattle.std.proofs.Common.{◌∙◌, subst, arith}
use Rattle.std.proofs.Math.Logic.{inl, inr}
use Rattle.std.proofs.Math.Bool.{true}
use Rattle.std.proofs.lemmas.Bool.{false≢true}
use Prim.Native.Nat.{ℕ, zero, suc, ◌≤◌, ◌<◌}
use Rattle.std.proofs.Math.Decide.{dec_lt}
use Rattle.lists.specs.Smallest.{at, Rule, rounds, smallest}
use Rattle.lists.specs.Tests.{tell, or-out, eqb-out}
use Rattle.lists.specs.TableLaws.{table_at, table-past}
use Rattle.lists.specs.Sets.{Sub, sub-no, none, add, size, size-le, size-more}

-- A rule that asks for no less where the set is larger, and only for numbers below n.
pub record Monotone (n : ℕ) (rule : Rule) : Type 0 where
  pub more : (s t : ℕ → Bool) → Sub s t → Sub (rule s) (rule t)
  pub inside : (s : ℕ → Bool) (p : ℕ) → rule s p ≡ true → p < n

-- A set that is made by single steps, each of which the rule allows.
pub data Made (rule : Rule) : (ℕ → Bool) → Type 0 where
  nothing : Made rule none
  one : {s : ℕ → Bool} (p : ℕ) → Made rule s → rule s p ≡ true → Made rule (add p s)

module _ {n : ℕ} {rule : Rule} (m : Monotone n rule) where
  -- The set after k rounds.
  set : ℕ → ℕ → Bool
  set k = at (rounds n rule k)

  step-out : (k p : ℕ) → set (suc k) p ≡ true → rule (set k) p ≡ true
  unfolding set
  step-out k p e =
      let r = rule (at (rounds n rule k)) in
      elim (dec_lt p n) [
        | yes h ↦ sym (table_at n r p h) ∙ e
        | no h ↦ absurd (false≢true (sym (table-past n r p (omega arith)) ∙ e))
      ]

  step_in_lem : (k p : ℕ) → rule (set k) p ≡ true → set (suc k) p ≡ true
  unfolding set
  step_in_lem k p e = table_at n (rule (at (rounds n rule k))) p (m.inside (at (rounds n rule k)) p e) ∙ e

  up : (k : ℕ) → Sub (set k) (set (suc k))
  unfolding set
  up zero p e = absurd (false≢true e)
  up (suc k) p e = step_in_lem (suc k) p (m.more (set k) (set (suc k)) (up k) p (step-out k p e))

  closed-suc : (k : ℕ) → Sub (set (suc k)) (set k) → Sub (rule (set (suc k))) (set (suc k))
  closed-suc k f p e = step_in_lem k p (m.more (set (suc k)) (set k) f p e)

  -- Each round adds a number, unless the set is closed.
  enough : (k : ℕ) → (k ≤ size n (set k)) ⊎ Sub (rule (set k)) (set k)
  enough zero = inl (omega arith)
  enough (suc k) =
      elim (enough k) [
        | inr c ↦ inr (closed-suc k (λ p e. c p (step-out k p e)))
        | inl h ↦ elim (size-more n (set k) (set (suc k)) (up k)).1 [
          | inl l ↦ inl (omega arith)
          | inr f ↦ inr (closed-suc k (λ p e. f p (m.inside (set k) p (step-out k p e)) e))
        ]
      ]

  -- What the rule asks for, the smallest set has.
  pub smallest-closed : Sub (rule (at (smallest n rule))) (at (smallest n rule))
  unfolding smallest set
  smallest-closed =
      elim (enough (suc n)) [
        | inl h ↦ let l = size-le n (set (suc n)) in absurd (omega arith)
        | inr c ↦ c
      ]

  -- The rule asks for each member of the smallest set.
  pub smallest-rule : Sub (at (smallest n rule)) (rule (at (smallest n rule)))
  unfolding smallest set
  smallest-rule p e = step-out (suc n) p (up (suc n) p e)

  -- What the rule hands on from a set to those it asks for, all members of the smallest set have.
  pub smallest-ind : (Q : ℕ → Type 0) → ((s : ℕ → Bool) → ((q : ℕ) → s q ≡ true → Q q) → (p : ℕ) → rule s p ≡ true → Q p)
      → (p : ℕ) → at (smallest n rule) p ≡ true → Q p
  unfolding smallest set
  smallest-ind Q f p e = go (suc n) p e
    where
      go : (k : ℕ) (p : ℕ) → set k p ≡ true → Q p
      go zero p e = absurd (false≢true e)
      go (suc k) p e = f (set k) (go k) p (step-out k p e)

  -- The smallest set is a part of each set of which the rule asks no more.
  pub smallest-least : (s : ℕ → Bool) → Sub (rule s) s → Sub (at (smallest n rule)) s
  smallest-least s c = smallest-ind (λ p. s p ≡ true) (λ t f p e. c p (m.more t s f p e))

  -- What the rule asks for from a part of the smallest set is in it.
  pub smallest-add : (s : ℕ → Bool) → Sub s (at (smallest n rule)) → Sub (rule s) (at (smallest n rule))
  smallest-add s f p e = smallest-closed p (m.more s (at (smallest n rule)) f p e)

  -- A part of the smallest set of which the rule asks no more is the whole.
  pub smallest-same : (s : ℕ → Bool) → Sub s (at (smallest n rule)) → Sub (rule s) s → (p : ℕ) → s p ≡ at (smallest n rule) p
  smallest-same s f c p =
      elim (tell true (s p)) [
        | inl h ↦ h ∙ sym (f p h)
        | inr h ↦ h ∙ sym (sub-no (smallest-least s c) p h)
      ]

  made-sub : (s : ℕ → Bool) → Made rule s → Sub s (at (smallest n rule))
  made-sub s nothing q e = absurd (false≢true e)
  made-sub s (one {s = t} p d h) q e =
      elim (or-out (eqb q p) (t q) e) [
        | inl k ↦ subst (λ (x : ℕ). at (smallest n rule) x ≡ true) (sym (eqb-out q p k)) (smallest-add t (λ r x. made-sub t d r x) p h)
        | inr k ↦ made-sub t d q k
      ]

  -- Single steps, in any order until none is left, end in the smallest set.
  pub made-same : (s : ℕ → Bool) → Made rule s → Sub (rule s) s → (p : ℕ) → s p ≡ at (smallest n rule) p
  made-same s d = smallest-same s (made-sub s d)
