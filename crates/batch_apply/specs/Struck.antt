-- Moves struck in an ascending list, and the list without them. Assumes nothing.
use Rattle.std.specs.Prelude.{◌≡◌, refl, true, cond, List, [], ◌∷◌, ◌++◌, map, ℕ, suc, ◌+◌, ◌<◌, length, get_or, drop, set, eqb, ltb, zero}
use Rattle.std.proofs.Common.{sym, ap, ◌∙◌, inl, inr, arith}
use Rattle.std.proofs.lemmas.Bool.{false≢true}
use Rattle.lists.specs.Lists.{elem, all}
use Rattle.lists.specs.Tests.{tests, tell, and_in, and_is, leb-is, eqb_is, eqb_no, ltb-is, ltb_no, or_right, or-other}
use Rattle.rules.specs.Limits.{sizes_ok}
use Rattle.rules.specs.Model.{move_ok, moves_ok}
use Rattle.rules.specs.declared.Sizes.{Sizes}
use Rattle.rules.specs.Batch.{remove, remove_all}
use Rattle.laws.specs.moves.Edits.{AllAre}
use Rattle.moves.specs.Ascending.{ascends, below, none_below}
use Rattle.moves.specs.Fronts.{left-more}
use Rattle.batch_apply.specs.Kept.{mark}
use Rattle.batch_apply.specs.Striking.{places_in, struck_at}
use Rattle.batch_apply.specs.OneMove.{above}

-- No move of a model inside the limits is the mark.
pub below-mark : (z : Sizes) (n : ℕ) (ms : List ℕ) → sizes_ok z ≡ true → moves_ok z n ms ≡ true → all (λ q. ltb q mark) ms ≡ true
unfolding sizes_ok move_ok
below-mark z n [] s h = refl
below-mark z n (q ∷ l) s h =
    let k = simp tests at s in
    let f = simp tests at h in
    let states = k.0.0.0.0.1 in
    let from = f.0.1.0.0 in
    and_in ((ltb-is q mark).1 (omega arith)) (below-mark z (suc q) l s f.1)

-- Each move that stands in ds replaced by the mark.
abbrev pub struck : List ℕ → List ℕ → List ℕ
struck ds ms = map (λ q. cond (elem q ds) mark q) ms

-- The mark written at two places, in either order.
mark-turns : (i j : ℕ) (l : List ℕ) → set (set l i mark) j mark ≡ set (set l j mark) i mark
mark-turns i j [] = refl
mark-turns zero zero (q ∷ l) = refl
mark-turns zero (suc j) (q ∷ l) = refl
mark-turns (suc i) zero (q ∷ l) = refl
mark-turns (suc i) (suc j) (q ∷ l) = ap (λ (x : List ℕ). q ∷ x) (mark-turns i j l)

mark-first : (at : ℕ) (ps l : List ℕ) → struck_at ps (set l at mark) ≡ set (struck_at ps l) at mark
mark-first at [] l = refl
mark-first at (p ∷ ps) l = ap (λ (x : List ℕ). set x p mark) (mark-first at ps l) ∙ mark-turns at p (struck_at ps l)

-- One place is struck, and the striking goes on with those after it.
pub strike-on : (ps l : List ℕ) (i : ℕ) → i < length ps → struck_at (drop (i + 1) ps) (set l (get_or ps i 0) mark) ≡ struck_at (drop i ps) l
strike-on ps l i h = mark-first (get_or ps i 0) (drop (i + 1) ps) l ∙ sym (ap (λ (x : List ℕ). struck_at x l) (left-more ps i h))

-- Where none is struck, the list stays.
none-struck : (ms : List ℕ) → struck [] ms ≡ ms
none-struck [] = refl
none-struck (q ∷ l) = ap (λ (x : List ℕ). q ∷ x) (none-struck l)

-- A move below all others strikes none of them.
struck-absent : (q n : ℕ) (ds ms : List ℕ) → ascends n ms ≡ true → q < n → struck (q ∷ ds) ms ≡ struck ds ms
struck-absent q n ds [] h k = refl
struck-absent q n ds (p ∷ l) h k =
    let f = simp and_is at h in
    let g = (leb-is n p).0 f.0 in
    let e = (eqb_no p q).1 (λ y. omega arith) in
    rw (e, struck-absent q (suc p) ds l f.1 (omega arith)) refl

-- The mark written at the place of one more move.
struck-one : (q n : ℕ) (ds ms rest : List ℕ) → ascends n ms ≡ true → elem q ms ≡ true
    → set (struck ds ms ++ rest) (below q ms) mark ≡ struck (q ∷ ds) ms ++ rest
struck-one q n ds [] rest h e = absurd (false≢true e)
struck-one q n ds (p ∷ l) rest h e =
    let f = simp and_is at h in
    elim (tell true (eqb q p)) [
      | inl t ↦
          let y = (eqb_is q p).0 t in
          let u = (ltb_no p q).1 (omega arith) in
          let v = (eqb_is p q).1 (sym y) in
          rw (u, none_below q (suc p) l f.1 (omega arith), v, struck-absent q (suc p) ds l f.1 (omega arith)) refl
      | inr t ↦
          let o = or-other (eqb q p) (elem q l) e t in
          let y = above q (suc p) l f.1 o in
          let u = (ltb-is p q).1 (omega arith) in
          let v = (eqb_no p q).1 (λ z. omega arith) in
          let s : 1 + below q l ≡ suc (below q l) = omega arith in
          rw (u, v, s) (ap (λ (x : List ℕ). cond (elem p ds) mark p ∷ x) (struck-one q (suc p) ds l rest f.1 o))
    ]

-- The mark written at the places of all of them.
pub struck-all : (ds ms rest : List ℕ) → ascends 0 ms ≡ true → AllAre true ds ms → struck_at (places_in ms ds) (ms ++ rest) ≡ struck ds ms ++ rest
struck-all [] ms rest h a = ap (λ (x : List ℕ). x ++ rest) (sym (none-struck ms))
struck-all (q ∷ ds) ms rest h a =
    ap (λ (x : List ℕ). set x (below q ms) mark) (struck-all ds ms rest h a.1) ∙ struck-one q 0 ds ms rest h a.0

-- Removing several moves, move by move.
remove_all-none : (ds : List ℕ) → remove_all ds [] ≡ []
remove_all-none [] = refl
remove_all-none (p ∷ ds) = ap (remove p) (remove_all-none ds)

remove_all-first : (ds : List ℕ) (q : ℕ) (l : List ℕ) → remove_all ds (q ∷ l) ≡ cond (elem q ds) (remove_all ds l) (q ∷ remove_all ds l)
remove_all-first [] q l = refl
remove_all-first (p ∷ ds) q l =
    let ih = remove_all-first ds q l in
    elim (tell true (elem q ds)) [
      | inl t ↦ rw (or_right (eqb q p) t, ih, t) refl
      | inr t ↦
          elim (tell true (eqb q p)) [
            | inl u ↦ rw (ih, t, u, (eqb_is p q).1 (sym ((eqb_is q p).0 u))) refl
            | inr u ↦ rw (ih, t, u, (eqb_no p q).1 (λ y. (eqb_no q p).0 u (sym y))) refl
          ]
    ]

-- Where no move is the mark, the words that are not struck are the moves that stay.
pub struck-out : (ds ms : List ℕ) → all (λ q. ltb q mark) ms ≡ true → remove mark (struck ds ms) ≡ remove_all ds ms
struck-out ds [] h = sym (remove_all-none ds)
struck-out ds (q ∷ l) h =
    let f = simp and_is at h in
    let k = (ltb-is q mark).0 f.0 in
    let ih = struck-out ds l f.1 in
    elim (tell true (elem q ds)) [
      | inl t ↦ rw (t, remove_all-first ds q l, t) ih
      | inr t ↦ rw (t, remove_all-first ds q l, t, (eqb_no mark q).1 (λ y. omega arith)) (ap (λ (x : List ℕ). q ∷ x) ih)
    ]
