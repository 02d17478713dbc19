-- The moves of a state with an action, as they stand side by side in an ascending list. Assumes nothing.
use Rattle.std.specs.Prelude.{◌≡◌, refl, Bool, true, false, List, [], ◌∷◌, map, ℕ, zero, suc, ◌+◌, ◌-◌, ◌≤◌, ◌<◌, length, take, drop, ltb}
use Rattle.std.proofs.Common.{sym, ap, ◌∙◌, arith, length-take, take-take}
use Rattle.std.proofs.Math.Nat.{sub-zero}
use Rattle.std.proofs.Math.Seq.{slice}
use Rattle.lists.specs.Lists.{bit}
use Rattle.rules.specs.Moves.{pack, target}
use Rattle.rules.specs.Model.{moves_ok}
use Rattle.rules.specs.Values.{state, targets}
use Rattle.rules.specs.declared.Sizes.{Sizes}
use Rattle.moves.specs.Ascending.{below}
use Rattle.moves.specs.OwnMoves.{part_of, model-targets}
use Rattle.moves.specs.declared.Part.{Part}

-- The moves of the state with the action.
abbrev pub own_moves : ℕ → ℕ → List ℕ → List ℕ
own_moves s a ms = slice (part_of s a ms).from (part_of s a ms).end ms

-- A part that is cut off at its end first, or at its beginning first.
either_first : (f e : ℕ) (l : List ℕ) → take (e - f) (drop f l) ≡ slice f e l
either_first zero e l = ap (λ (x : ℕ). take x l) (sub-zero e)
either_first (suc f) zero l = let d : 0 - suc f ≡ 0 = omega arith in ap (λ (x : ℕ). take x (drop (suc f) l)) d
either_first (suc f) (suc e) [] = none (suc e - suc f)
  where
    none : (k : ℕ) → take k (drop {A = ℕ} (suc f) []) ≡ []
    none zero = refl
    none (suc k) = refl
either_first (suc f) (suc e) (q ∷ l) =
    let d : suc e - suc f ≡ e - f = omega arith in
    ap (λ (x : ℕ). take x (drop f l)) d ∙ either_first f e l

-- The targets of a state's moves are those of its part.
pub part-targets : (z : Sizes) (s a : ℕ) → a < 64 → (ms : List ℕ) → moves_ok z 0 ms ≡ true
    → targets (state s) (record { 0 = a }) ms ≡ map target (own_moves s a ms)
part-targets z s a low ms h =
    model-targets z (state s) (record { 0 = a }) ms low h ∙ ap (map target) (either_first (part_of s a ms).from (part_of s a ms).end ms)

below-le : (k : ℕ) (l : List ℕ) → below k l ≤ length l
below-le k [] = omega arith
below-le k (q ∷ l) = go (ltb q k) (below-le k l)
  where
    go : (b : Bool) → below k l ≤ length l → bit b + below k l ≤ suc (length l)
    go true h = omega arith
    go false h = omega arith

module _ (s a n : ℕ) (l : List ℕ) (p : Part) (e : p ≡ part_of s a (take n l)) where
  -- A part of the first n moves ends with them.
  pub part-ends : p.end ≤ n
  part-ends =
      let h = below-le (pack s (a + 1) 0) (take n l) in
      let t = length-take n l in
      let f = ap (λ (q : Part). q.end) e in
      omega arith

  -- The part of the first n moves is a part of all of them.
  pub part_in : slice p.from p.end l ≡ own_moves s a (take n l)
  part_in =
      ap (λ (x : List ℕ). drop p.from x) (sym (take-take p.end n l part-ends))
      ∙ ap (λ (q : Part). slice q.from q.end (take n l)) e
