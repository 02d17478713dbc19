-- What is asked of the moves, as two questions: each is in range, and each is over the one before it. Assumes nothing.
use Rattle.std.specs.Prelude.{◌≡◌, refl, Bool, true, false, ◌&&◌, List, [], ◌∷◌, ℕ, suc, ◌+◌, ◌-◌, ◌≤◌, ◌<◌, length, get_or, drop, ltb, leb}
use Rattle.std.proofs.Common.{sym, ap, ◌∙◌, arith, drop_of_length-le}
use Rattle.std.proofs.Math.Bool.{and_assoc}
use Rattle.std.proofs.Math.Dec.{leb-zero}
use Rattle.lists.specs.Lists.{all}
use Rattle.lists.specs.Tests.{and-true, and_no}
use Rattle.rules.specs.Moves.{source, action, target}
use Rattle.rules.specs.Model.{move_ok, moves_ok}
use Rattle.rules.specs.declared.Sizes.{Sizes}
use Rattle.moves.specs.Ascending.{ascends}
use Rattle.session_check.specs.FrontWalk.{left-more}

-- Source, action and target of the move lie below these counts of states and actions, and below those of a model.
abbrev pub inside : ℕ → ℕ → ℕ → Bool
inside states actions q = ltb (source q) states && ltb (action q) actions && ltb (target q) states

abbrev pub in_range : Sizes → ℕ → Bool
in_range z q = move_ok z (source q) (action q) (target q)

-- Two questions about the first and two about the others.
crossed : (a m x y : Bool) → (a && m && (x && y)) ≡ ((m && x) && (a && y))
crossed true true x y = refl
crossed true false x y = refl
crossed false m x y = sym (and_no (m && x) refl)

-- The moves are in range, and they ascend.
pub moves-split : (z : Sizes) (least : ℕ) (l : List ℕ) → moves_ok z least l ≡ (all (in_range z) l && ascends least l)
moves-split z least [] = refl
moves-split z least (q ∷ l) =
    ap (λ (x : Bool). leb least q && in_range z q && x) (moves-split z (suc q) l)
    ∙ crossed (leb least q) (in_range z q) (all (in_range z) l) (ascends (suc q) l)

-- The moves from i on ascend from the one before them on.
abbrev pub ascend_from : List ℕ → ℕ → Bool
ascend_from l i = ascends (suc (get_or l (i - 1) 0)) (drop i l)

-- Before the first there is none to be over.
pub ascend-start : (l : List ℕ) → ascend_from l 1 ≡ ascends 0 l
ascend-start [] = refl
ascend-start (q ∷ l) = sym (ap (λ (x : Bool). x && ascends (suc q) l) (leb-zero q))

-- With what was found before: each is over the one before it.
pub ascend-turn : (l : List ℕ) (i : ℕ) (ok whole : Bool) → i < length l → (ok && ascend_from l i) ≡ whole
    → (ok && ltb (get_or l (i - 1) 0) (get_or l i 0) && ascend_from l (i + 1)) ≡ whole
ascend-turn l i ok whole h w =
    let e : i + 1 - 1 ≡ i = omega arith in
    ap (λ (k : ℕ). ok && ltb (get_or l (i - 1) 0) (get_or l i 0) && ascends (suc (get_or l k 0)) (drop (i + 1) l)) e
    ∙ and_assoc ok (ltb (get_or l (i - 1) 0) (get_or l i 0)) (ascends (suc (get_or l i 0)) (drop (i + 1) l))
    ∙ ap (λ (x : List ℕ). ok && ascends (suc (get_or l (i - 1) 0)) x) (sym (left-more l i 0 h)) ∙ w

-- At the end none is left.
pub ascend-over : (l : List ℕ) (i : ℕ) (ok : Bool) → length l ≤ i → (ok && ascend_from l i) ≡ ok
ascend-over l i ok h = rw (drop_of_length-le l h) (and-true ok)
