-- Any lists whose queue holds pairs of the block once each, marked and with the value that pairs turn from, stay so, unit by unit: also lists
-- that no update led to. So the queue never needs more room than there are pairs, and what is known of the pair in front holds.
-- Assumes nothing.
use Rattle.std.specs.Prelude.{◌≡◌, refl, ◌⊎◌, Bool, true, false, not, cond, ◌&&◌, List, [], ◌∷◌, ◌++◌, ℕ, zero, suc, ◌+◌, ◌-◌, ◌≤◌, ◌<◌, eqb, ltb, length, get_or, set}
use Rattle.std.proofs.Common.{sym, ap, ap₂, ◌∙◌, subst, inl, inr, arith, length-set, length-append, get_or-set_same, get_or-set_other}
use mathlib.Core.List.Memᴰ
use Rattle.std.proofs.Math.Decide.{ℕ_discrete}
use Rattle.lists.specs.Lists.{bit}
use Rattle.lists.specs.Tests.{◌∈◌, tell, clash, and_left, and_right, eqb-out, eqb_no, cond_yes, cond_no}
use Rattle.lists.specs.Sums.{sum-le, sum_ones}
use Rattle.lists.specs.Counts.{times, times-in, times-out, times-append, times-all}
use Rattle.systems.specs.solution.System.{Frame, Leans, Values, Fits}
use Rattle.systems.specs.machine.Machine.{own, free, next_mark}
use Rattle.systems.specs.lists.ListMachine.{marks_in, between, Pile, wait_l, push_l, spread_l}
use Rattle.systems.specs.lists.ListUnits.{between-length, between-end}

-- What stands in a list with one more at its end stood there before, or is that.
in_end : (q r : ℕ) (l : List ℕ) → q ∈ (l ++ (r ∷ [])) → (q ∈ l) ⊎ (q ≡ r)
in_end q r l m =
    let a = times-in q m in
    let c = times-append q l (r ∷ []) in
    elim (tell true (eqb r q)) [
      | inl h ↦ inr (sym (eqb-out r q h))
      | inr h ↦ let b : bit (eqb r q) ≡ 0 = ap bit h in inl (times-out q l (omega arith))
    ]

-- A list in which numbers below n stand once at most is no longer than n.
once-room : (n : ℕ) (l : List ℕ) → ((p : ℕ) → times p l ≤ 1) → ((q : ℕ) → q ∈ l → q < n) → length l ≤ n
once-room n l once inside =
    let a = times-all n l inside in
    let b = sum-le n (λ p. times p l) (λ p. 1) once in
    let c = sum_ones n in
    omega arith

-- Entries in two parts.
pub between_split : (l : List ℕ) (n m a : ℕ) → between l a (n + m) ≡ between l a n ++ between l (a + n) m
between_split l zero m a = ap₂ (between l) (let e : a ≡ a + 0 = omega arith in e) (let e : 0 + m ≡ m = omega arith in e)
between_split l (suc n) m a =
    ap (between l a) (let e : suc n + m ≡ suc (n + m) = omega arith in e) ∙ ap (λ (y : List ℕ). get_or l a 0 ∷ y) (between_split l n m (suc a)
    ∙ ap (λ (k : ℕ). between l (suc a) n ++ between l k m) (let e : suc a + n ≡ a + suc n = omega arith in e))

-- A pair gets a mark that is not free.
pub next-shut : (ph : Bool) (m : ℕ) → free ph (next_mark ph m) ≡ false
next-shut false m = refl
next-shut true m =
    elim (tell true (eqb m 0)) [
      | inl e ↦ ap (λ (b : Bool). ltb (cond b 3 2) 2) e
      | inr e ↦ ap (λ (b : Bool). ltb (cond b 3 2) 2) e
    ]

-- The queue of a phase of block i is fair: all pairs that came into it are of the block, once each, and are marked; and those that wait have
-- the value that pairs turn from.
pub record Fair (F : Frame) (ph : Bool) (i : ℕ) (v : Values) (h : Pile) : Type 0 where
  pub long : length h.marks ≡ F.pairs
  pub room : F.pairs ≤ length h.queue
  pub order : h.from ≤ h.tail
  pub once : (p : ℕ) → times p (between h.queue 0 h.tail) ≤ 1
  pub here : (q : ℕ) → q ∈ between h.queue 0 h.tail → F.block q ≡ i
  pub shut : (q : ℕ) → q ∈ between h.queue 0 h.tail → free ph (marks_in h.marks q) ≡ false
  pub value : (q : ℕ) → q ∈ between h.queue h.from (h.tail - h.from) → v q ≡ cond ph (own F q) (not (own F q))

module _ {F : Frame} {M : Leans} (fits : Fits F M) {ph : Bool} {i : ℕ} (lt : i < F.blocks) {v : Values} where
  -- It needs no more room than there are pairs.
  pub fair-room : {h : Pile} → Fair F ph i v h → h.tail ≤ F.pairs
  fair-room {h} f =
      let a = once-room F.pairs (between h.queue 0 h.tail) f.once (λ q m. fits.inside q (let e = f.here q m in omega arith)) in
      let b = between-length h.queue 0 h.tail in
      omega arith

  module _ (ask : ℕ → Bool) where
    -- A test of a pair of the block that asks for pairs with that value only keeps it so.
    pub fair-push : {h : Pile} (r : ℕ) → Fair F ph i v h → F.block r ≡ i → (free ph (marks_in h.marks r) ≡ true → ask r ≡ true → v r ≡ cond ph (own F r) (not (own F r)))
        → Fair F ph i v (push_l (free ph) (next_mark ph) ask r h)
    fair-push {h} r f e g =
        elim (tell true (free ph (get_or h.marks r 0) && ask r)) [
          | inr y ↦ subst (Fair F ph i v) (sym (cond_no (wait_l (next_mark ph) r h) h y)) f
          | inl y ↦ subst (Fair F ph i v) (sym (cond_yes (wait_l (next_mark ph) r h) h y))
              (waited (and_left (free ph (get_or h.marks r 0)) (ask r) y) (and_right (free ph (get_or h.marks r 0)) (ask r) y))
        ]
      where
        all : List ℕ
        all = between h.queue 0 h.tail

        waited : free ph (get_or h.marks r 0) ≡ true → ask r ≡ true → Fair F ph i v (wait_l (next_mark ph) r h)
        waited y z =
            let new : r ∈ all → ⊥ = λ m. clash true (free ph (marks_in h.marks r)) y (f.shut r m) in
            let order = f.order in
            let bound = fits.inside r (omega arith) in
            let once : (p : ℕ) → times p (all ++ (r ∷ [])) ≤ 1 = λ p.
            let a = times-append p all (r ∷ []) in
            let b = f.once p in
            elim (ℕ_discrete p r) [
              | yes k ↦
                  let c : times p all ≡ 0 = none p (λ m. new (subst (λ (x : ℕ). x ∈ all) k m)) in
                  let d = bit-most (eqb r p) in
                  omega arith
              | no k ↦ let c : bit (eqb r p) ≡ 0 = ap bit ((eqb_no r p).1 (λ x. k (sym x))) in omega arith
            ] in
            let inside : (q : ℕ) → q ∈ (all ++ (r ∷ [])) → F.block q ≡ i = λ q m. elim (in_end q r all m) [
              | inl k ↦ f.here q k
              | inr k ↦ ap F.block k ∙ e
            ] in
            let fill : suc h.tail ≤ F.pairs =
            let a = once-room F.pairs (all ++ (r ∷ [])) once (λ q m. fits.inside q (let x = inside q m in omega arith)) in
            let b = between-length h.queue 0 h.tail in
            let c = length-append all (r ∷ []) in
            omega arith in
            let room = f.room in
            let long = f.long in
            let whole : between (set h.queue h.tail r) 0 (suc h.tail) ≡ all ++ (r ∷ []) = between-end h.queue h.tail 0 h.tail r (omega arith) (omega arith) in
            let rest : between (set h.queue h.tail r) h.from (suc h.tail - h.from) ≡ between h.queue h.from (h.tail - h.from) ++ (r ∷ []) =
            ap (between (set h.queue h.tail r) h.from) (let x : suc h.tail - h.from ≡ suc (h.tail - h.from) = omega arith in x)
            ∙ between-end h.queue (h.tail - h.from) h.from h.tail r (omega arith) (omega arith) in
            record {
              long = length-set h.marks r (next_mark ph (get_or h.marks r 0)) ∙ f.long;
              room = let x = length-set h.queue h.tail r in omega arith;
              order = omega arith;
              once = λ p. let x = ap (times p) whole in let o = once p in omega arith;
              here = λ q m. inside q (subst (λ (l : List ℕ). q ∈ l) whole m);
              shut = λ q m. elim (ℕ_discrete q r) [
                | yes k ↦
                    ap (λ (x : ℕ). free ph (get_or (set h.marks r (next_mark ph (get_or h.marks r 0))) x 0)) k
                    ∙ ap (free ph) (get_or-set_same h.marks r (next_mark ph (get_or h.marks r 0)) 0 (omega arith)) ∙ next-shut ph (get_or h.marks r 0)
                | no k ↦
                    ap (free ph) (get_or-set_other h.marks r q (next_mark ph (get_or h.marks r 0)) 0 k) ∙ elim (in_end q r all (subst (λ (l : List ℕ). q ∈ l) whole m)) [
                      | inl x ↦ f.shut q x
                      | inr x ↦ absurd (k x)
                    ]
              ];
              value = λ q m. elim (in_end q r (between h.queue h.from (h.tail - h.from)) (subst (λ (l : List ℕ). q ∈ l) rest m)) [
                | inl x ↦ f.value q x
                | inr x ↦ subst (λ (y : ℕ). v y ≡ cond ph (own F y) (not (own F y))) (sym x) (g y z)
              ];
            }
          where
            none : (p : ℕ) → (p ∈ all → ⊥) → times p all ≡ 0
            none p n = go (times p all) refl
              where
                go : (k : ℕ) → times p all ≡ k → times p all ≡ 0
                go zero x = x
                go (suc k) x = absurd (n (times-out p all (omega arith)))

            bit-most : (b : Bool) → bit b ≤ 1
            bit-most true = omega arith
            bit-most false = omega arith

    -- Tests of the pairs of a list do too.
    pub fair-spread : (on : List ℕ) {h : Pile} → Fair F ph i v h → ((r : ℕ) → r ∈ on → F.block r ≡ i)
        → ((r : ℕ) → r ∈ on → ask r ≡ true → v r ≡ cond ph (own F r) (not (own F r))) → Fair F ph i v (spread_l (free ph) (next_mark ph) ask on h)
    fair-spread [] f e g = f
    fair-spread (r ∷ on) f e g =
        fair-spread on (fair-push r f (e r (Memᴰ.head refl)) (λ x y. g r (Memᴰ.head refl) y)) (λ q m. e q (Memᴰ.tail m)) (λ q m. g q (Memᴰ.tail m))
