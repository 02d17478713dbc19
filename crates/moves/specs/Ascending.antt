-- Lists of moves in ascending order, and how many of them lie below a number. Definitions, and what they have to do with
-- each other. Assumes nothing.
use Rattle.std.specs.Prelude.{◌≡◌, ℕ, suc, ◌<◌, ◌≤◌, Bool, true, cond, ◌&&◌, ltb, List, [], ◌∷◌, nat_le, nat_lt, refl}
use Rattle.std.proofs.Common.{inl, inr, arith}
use Rattle.lists.specs.Lists.{count, sum_of}
use Rattle.lists.specs.Tests.{tell, and_is, and_in, leb-is, ltb-is, ltb_no}
use Rattle.rules.specs.Moves.{source, action, target}
use Rattle.rules.specs.Model.{move_ok, moves_ok}
use Rattle.rules.specs.declared.Sizes.{Sizes}

-- The list strictly ascends, the first entry from `least` on.
abbrev pub ascends : ℕ → List ℕ → Bool
ascends least [] = true
ascends least (q ∷ l) = nat_le least q && ascends (suc q) l

-- How many entries lie below the key.
abbrev pub below : ℕ → List ℕ → ℕ
below key l = count (λ q. ltb q key) l

-- How many entries, from the first on, lie below the key.
abbrev pub leading : ℕ → List ℕ → ℕ
leading key [] = 0
leading key (q ∷ l) = cond (nat_lt q key) (suc (leading key l)) 0

-- The moves of a model ascend.
pub moves-ascend : (z : Sizes) (n : ℕ) (l : List ℕ) → moves_ok z n l ≡ true → ascends n l ≡ true
moves-ascend z n [] h = refl
moves-ascend z n (q ∷ l) h =
    let f = simp and_is at h in
    simp and_is (f.0.0, moves-ascend z (suc q) l f.1)

-- Nothing lies below a key that the list starts from.
pub none_below : (key n : ℕ) (l : List ℕ) → ascends n l ≡ true → key ≤ n → below key l ≡ 0
none_below key n [] h k = refl
none_below key n (q ∷ l) h k =
    let f = simp and_is at h in
    let g = (leb-is n q).0 f.0 in
    let e = (ltb_no q key).1 (omega arith) in
    rw (e, none_below key (suc q) l f.1 (omega arith)) refl

-- In an ascending list the entries below a key stand in front.
pub leading-below : (key n : ℕ) (l : List ℕ) → ascends n l ≡ true → leading key l ≡ below key l
leading-below key n [] h = refl
leading-below key n (q ∷ l) h =
    let f = simp and_is at h in
    elim (tell true (nat_lt q key)) [
      | inl t ↦ let ih = leading-below key (suc q) l f.1 in rw t (omega arith)
      | inr t ↦ let k = (ltb_no q key).0 t in let z = none_below key (suc q) l f.1 (omega arith) in rw t (omega arith)
    ]

-- Sizes that every number up to N is inside of.
abbrev wide : ℕ → Sizes
wide N = record { states = suc N; actions = suc N; propositions = 0; variables = 0; blocks = 0 }

-- Every move is in range of wide sizes.
in_range : (N n : ℕ) (l : List ℕ) → sum_of (λ q. q) l ≤ N → ascends n l ≡ true → moves_ok (wide N) n l ≡ true
unfolding move_ok
in_range N n [] k h = refl
in_range N n (q ∷ l) k h =
    let f = simp and_is at h in
    let a : source q < suc N = omega arith in
    let b : action q < suc N = omega arith in
    let c : target q < suc N = omega arith in
    and_in (and_in f.0 (and_in (and_in ((ltb-is _ _).1 a) ((ltb-is _ _).1 b)) ((ltb-is _ _).1 c))) (in_range N (suc q) l (omega arith) f.1)

-- An ascending list is the list of moves of some sizes.
pub some-sizes : (n : ℕ) (l : List ℕ) → ascends n l ≡ true → (z : Sizes) × (moves_ok z n l ≡ true)
some-sizes n l h = (wide (sum_of (λ q. q) l), in_range (sum_of (λ q. q) l) n l (omega arith) h)
