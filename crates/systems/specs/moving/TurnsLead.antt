-- A pair that turns is touched, or leads to one that is by a chain of new leanings. So where no leaning changes, no pair
-- of a solution is marked.
-- Assumes nothing.
use Rattle.std.specs.Prelude.{◌≡◌, ◌⊎◌, Bool}
use Rattle.std.proofs.Math.Path.{sym, subst}
use Rattle.std.proofs.Common.{◌∙◌, eq-or-lt_of_le, le_of_suc-le-suc, not-suc-le-zero, arith}
use Rattle.std.proofs.Math.Logic.{inl, inr}
use Rattle.std.proofs.Math.Bool.{true, not}
use mathlib.Core.List.{List, List-discrete}
use Prim.Native.Nat.{ℕ, zero, suc, ◌≤◌, ◌<◌}
use Rattle.std.proofs.Math.Decide.{ℕ_discrete}
use Rattle.lists.specs.Marks.{put}
use Rattle.lists.specs.Lists.{elem}
use Rattle.lists.specs.Tests.{◌∈◌, tell, clash, not-not, elem_in}
use Rattle.lists.specs.SmallestLaws.{smallest-ind}
use Rattle.systems.specs.solution.System.{Frame, Leans, Values, Fits, ev, Solution, settled, shifted, move_to, lifted}
use Rattle.systems.specs.moving.Marks.{shift_of, settle_of}
use Rattle.systems.specs.solution.Operands.{ev-differ}
use Rattle.systems.specs.solution.Put.{put-off}
use Rattle.systems.specs.solution.Top.{operand-block}
use Rattle.systems.specs.moving.SettleRule.{Drops, drops-out, drops-monotone}
use Rattle.systems.specs.moving.ShiftRule.{Seeds, gains, loses, Why, seed, lean, risen, shifts-out, shifts-monotone}
use Rattle.systems.specs.solution.SolveSolution.{solution-tops}
use Rattle.systems.specs.moving.MoveSolution.{move_to-later}

-- p is touched, its leanings having changed; or it leans, by M, on a pair that leads to a touched one.
pub data Leads (L M : Leans) : ℕ → Type 0 where
  touched : {p : ℕ} → (L p ≡ M p → ⊥) → Leads L M p
  leads : {p q : ℕ} → q ∈ M p → Leads L M q → Leads L M p

module _ (F : Frame) (L M : Leans) (fits : Fits F L) (fits' : Fits F M) (old : Values) (sol : Solution F L old) where
  -- A pair before block i whose value differs from the old one leads to a touched pair.
  Reached : ℕ → Type 0
  Reached i = (q : ℕ) → F.block q < i → (c : Bool) → old q ≡ c → move_to F L M old i q ≡ not c → Leads L M q

  module _ (i : ℕ) (lt : i < F.blocks) (ih : Reached i) where
    -- The values before block i is moved.
    v : Values
    v = move_to F L M old i

    -- The values from which it settles.
    w : Values
    w = lifted F L M old i

    seeds-lead : (p : ℕ) → Seeds L M old (F.great i) (F.kind p) p → Leads L M p
    seeds-lead p (gains q e m n) = touched (λ h. clash true (elem q (L p)) (elem_in (subst (λ (l : List ℕ). q ∈ l) (sym h) m)) n)
    seeds-lead p (loses q e m n o) = touched (λ h. clash true (elem q (M p)) (elem_in (subst (λ (l : List ℕ). q ∈ l) h m)) n)

    shifted-leads : (p : ℕ) → shifted F L M i old v p ≡ true → Leads L M p
    unfolding shifted v Reached
    shifted-leads = smallest-ind (shifts-monotone fits M lt old v) (Leads L M) (λ s f p e. go s f p (shifts-out F L M i old v s p e).why)
      where
        go : (s : ℕ → Bool) → ((q : ℕ) → s q ≡ true → Leads L M q) → (p : ℕ) → Why F L M i old v s p → Leads L M p
        go s f p (seed x) = seeds-lead p x
        go s f p (lean q m h) = leads m (f q h)
        go s f p (risen q m r) = leads m (ih q r.before (not (F.great i)) r.was (r.now ∙ sym (not-not (F.great i))))

    -- A pair that settles where the pairs of s have settled, all of which lead to touched ones.
    drops-lead : (s : ℕ → Bool) → ((q : ℕ) → s q ≡ true → Leads L M q) → (p : ℕ) → Drops F M i w s p → Leads L M p
    unfolding v w Reached
    drops-lead s f p d =
        elim (tell true (shifted F L M i old v p)) [
          | inl h ↦ shifted-leads p h
          | inr h ↦ elim (List-discrete ℕ_discrete (L p) (M p)) [
            | no n ↦ touched n
            | yes e ↦
                let o : old p ≡ F.great i =
                sym (move_to-later fits fits' old i (omega arith) p (omega (arith, d.here)))
                ∙ sym (put-off (F.great i) v (shifted F L M i old v) p h) ∙ d.own in
                let g : ev (F.kind p) old (M p) ≡ F.great i =
                subst (λ (l : List ℕ). ev (F.kind p) old l ≡ F.great i) e ((solution-tops F L fits old sol i lt).supported p d.here o) in
                let t = ev-differ (F.kind p) (F.great i) old (put (not (F.great i)) w s) (M p) g d.gives in
                leads t.1 (operand t.0 (operand-block fits' d.here t.1) t.2 t.3)
          ]
        ]
      where
        -- An operand that had the block's own value and has it no more.
        operand : (q : ℕ) → (F.block q ≡ i) ⊎ (F.block q < i) → old q ≡ F.great i → put (not (F.great i)) w s q ≡ not (F.great i) → Leads L M q
        operand q c o k =
            elim (tell true (s q)) [
              | inl h ↦ f q h
              | inr h ↦ elim (tell true (shifted F L M i old v q)) [
                | inl x ↦ shifted-leads q x
                | inr x ↦
                    let n : v q ≡ not (F.great i) =
                    sym (put-off (F.great i) v (shifted F L M i old v) q x) ∙ sym (put-off (not (F.great i)) w s q h) ∙ k in
                    elim c [
                      | inr l ↦ ih q l (F.great i) o n
                      | inl e ↦ absurd (clash (F.great i) (old q) o (sym (move_to-later fits fits' old i (omega arith) q (omega arith)) ∙ n))
                    ]
              ]
            ]

    settled-leads : (p : ℕ) → settled F M i w p ≡ true → Leads L M p
    unfolding settled
    settled-leads = smallest-ind (drops-monotone fits' lt w) (Leads L M) (λ s f p e. drops-lead s f p (drops-out F M i w s p e))

    reached-suc : Reached (suc i)
    unfolding Reached move_to v w
    reached-suc q l c o k =
        elim (tell true (settled F M i w q)) [
          | inl h ↦ settled-leads q h
          | inr h ↦ elim (tell true (shifted F L M i old v q)) [
            | inl x ↦ shifted-leads q x
            | inr x ↦
                let n : v q ≡ not c = sym (put-off (F.great i) v (shifted F L M i old v) q x) ∙ sym (put-off (not (F.great i)) w (settled F M i w) q h) ∙ k in
                elim (eq-or-lt_of_le (le_of_suc-le-suc l)) [
                  | inr y ↦ ih q y c o n
                  | inl y ↦ absurd (clash c (old q) o (sym (move_to-later fits fits' old i (omega arith) q (omega arith)) ∙ n))
                ]
          ]
        ]

  reached : (i : ℕ) → i ≤ F.blocks → Reached i
  unfolding Reached
  reached zero h = λ q l. absurd (not-suc-le-zero l)
  reached (suc i) h = reached-suc i h (reached i (omega arith))

  -- A pair that shifts is touched or leads to a touched one.
  pub shift-leads : (p : ℕ) → F.block p < F.blocks → shift_of F L M old p ≡ true → Leads L M p
  unfolding shift_of v
  shift-leads p lt = shifted-leads (F.block p) lt (reached (F.block p) (omega arith)) p

  -- A pair that settles is touched or leads to a touched one.
  pub settle-leads : (p : ℕ) → F.block p < F.blocks → settle_of F L M old p ≡ true → Leads L M p
  unfolding settle_of v w
  settle-leads p lt = settled-leads (F.block p) lt (reached (F.block p) (omega arith)) p
