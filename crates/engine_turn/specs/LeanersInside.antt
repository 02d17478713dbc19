-- Each number that a walk along the chains meets stands for a pair of a variable that leans on others. Assumes nothing.
use Rattle.std.specs.Prelude.{◌≡◌, refl, ◌⊎◌, Bool, true, false, cond, List, [], ◌∷◌, ◌++◌, map, ℕ, zero, suc, ◌+◌, ◌*◌, ◌/◌, ◌≤◌, ◌<◌, get_or, eqb}
use Rattle.std.proofs.Math.Path.{sym}
use Rattle.std.proofs.Common.{ap, ◌∙◌, subst, arith}
use Rattle.std.proofs.Math.Logic.{inl, inr}
use mathlib.Core.List.Memᴰ
use Rattle.std.proofs.Math.ListN.{length}
use Rattle.lists.specs.Tests.{◌∈◌, eqb-out}
use Rattle.rules.specs.Moves.{source}
use Rattle.rules.specs.declared.Sizes.{Sizes}
use Rattle.words.specs.Words.{waiting_of, variable_in, state_in}
use Rattle.engine_table.specs.Table.{Table, Drawn, word_at}
use Rattle.engine_table.specs.Limits.{limits, move-inside}
use Rattle.engine_index.specs.Indexed.{key_of}
use Rattle.engine_index.specs.Operands.{names_of, is_step}
use Rattle.engine_index.specs.OperandLaws.{name-at, slot-uses, drawn-names}
use Rattle.engine_turn.specs.Scene.{along, source_of, sources_in, pairs_by, leaners_in}

in_either : (w : ℕ) (a b : List ℕ) → w ∈ (a ++ b) → (w ∈ a) ⊎ (w ∈ b)
in_either w [] b m = inr m
in_either w (q ∷ a) b m =
    elim (Memᴰ.cases_cons m) [
      | inl e ↦ inl (Memᴰ.head e)
      | inr k ↦ elim (in_either w a b k) [ inl h ↦ inl (Memᴰ.tail h) | inr h ↦ inr h ]
    ]

-- What stands in a list stands, changed, in the list of the changed.
pub in_map : (f : ℕ → ℕ) (w : ℕ) {l : List ℕ} → w ∈ l → f w ∈ map f l
in_map f w (Memᴰ.head e) = Memᴰ.head (ap f e)
in_map f w (Memᴰ.tail m) = Memᴰ.tail (in_map f w m)

-- What a walk meets, it meets at a word with the number.
along-out : (key : ℕ → ℕ) (ws : List ℕ) (t : ℕ) (here : ℕ → List ℕ) (w k : ℕ) → w ∈ along key ws t here k
    → (j : ℕ) × (j < k) × (key (get_or ws j 0) ≡ t) × (w ∈ here j)
unfolding along
along-out key ws t here w zero m = absurd (Memᴰ.not-nil m)
along-out key ws t here w (suc k) m =
    elim (in_either w (cond (eqb (key (get_or ws k 0)) t) (here k) []) (along key ws t here k) m) [
      | inl h ↦ now (eqb (key (get_or ws k 0)) t) refl h
      | inr h ↦ let r = along-out key ws t here w k h in (r.0, omega (arith, r.1), r.2, r.3)
    ]
  where
    now : (b : Bool) → eqb (key (get_or ws k 0)) t ≡ b → w ∈ cond b (here k) [] → (j : ℕ) × (j < suc k) × (key (get_or ws j 0) ≡ t) × (w ∈ here j)
    now true e h = (k, omega arith, eqb-out (key (get_or ws k 0)) t e, h)
    now false e h = absurd (Memᴰ.not-nil h)

-- The number stands for a variable that leans on others, and a state.
pub record Stands (t : Table) (w : ℕ) : Type 0 where
  pub variable : variable_in w < t.sizes.variables
  pub state : state_in w < t.sizes.states
  pub uses : 4 ≤ (word_at t (variable_in w)).operator

module _ {t : Table} (d : Drawn t) where
  abbrev z : Sizes
  z = t.sizes

  one-stands : (w y s : ℕ) → y < z.variables → s < z.states → 4 ≤ (word_at t y).operator → w ≡ waiting_of y s → Stands t w
  one-stands w y s hy l u e =
      let b = limits d in
      let k : variable_in w ≡ y = omega arith in
      let m : state_in w ≡ s = omega arith in
      record { variable = omega arith; state = omega arith; uses = subst (λ (n : ℕ). 4 ≤ (word_at t n).operator) (sym k) u }

  by-stands : (w y s : ℕ) → y < z.variables → s < z.states → 4 ≤ (word_at t y).operator → w ∈ pairs_by z t.equations t.moves s y → Stands t w
  unfolding pairs_by
  by-stands w y s hy l u m = go (is_step (word_at t y)) m
    where
      only : (q : ℕ) → w ∈ (q ∷ []) → w ≡ q
      only q k = elim (Memᴰ.cases_cons k) [ inl e ↦ e | inr h ↦ absurd (Memᴰ.not-nil h) ]

      go : (b : Bool) → w ∈ cond b (sources_in z t.moves y ((word_at t y).first * z.states + s)) (waiting_of y s ∷ []) → Stands t w
      go true k =
          let r = along-out (key_of z) t.moves ((word_at t y).first * z.states + s) (source_of t.moves y) w (length t.moves) k in
          one-stands w y (source (get_or t.moves r.0 0)) hy (move-inside d r.0 r.1).0 u (only (waiting_of y (source (get_or t.moves r.0 0))) r.3)
      go false k = one-stands w y s hy l u (only (waiting_of y s) k)

  -- So does each number of those who lean on a pair.
  pub leaners-stand : (x s w : ℕ) → x < z.variables → s < z.states → w ∈ leaners_in z t.equations t.moves x s → Stands t w
  unfolding leaners_in
  leaners-stand x s w hx l m =
      let n = d.long_equations in
      let r = along-out (λ q. q) (names_of t.equations) x (λ j. pairs_by z t.equations t.moves s (j / 2)) w (2 * length t.equations) m in
      let j = r.0 in
      let e = sym (name-at t.equations j r.1) ∙ r.2 in
      let h = r.1 in
      by-stands w (j / 2) s (omega arith) l (slot-uses t.sizes t.equations (drawn-names d) j x e (omega arith)) r.3
