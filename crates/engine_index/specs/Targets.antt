-- All targets one after the other: the places of the states that have a move with the action to a target that passes a test.
-- Assumes nothing.
use Rattle.std.specs.Prelude.{◌≡◌, refl, Bool, true, false, cond, ◌&&◌, ◌||◌, List, [], ◌∷◌, ℕ, suc, ◌+◌, ◌*◌, ◌/◌, ◌%◌, ◌<◌, length, get_or, eqb, ltb}
use Rattle.std.proofs.Common.{sym, ap, ◌∙◌, inl, inr, add-one, arith}
use Rattle.std.proofs.Math.Decide.{ℕ_discrete}
use Rattle.std.proofs.Math.Arith.{digits_div, digits_mod}
use Rattle.lists.specs.Ranges.{some-no}
use Rattle.lists.specs.Lists.{any, some_below}
use Rattle.lists.specs.Tests.{tell, no_way, and_left, and_right, and_no, or_no, eqb_no, eqb-out, eqb-in, ltb-is, ltb_no, ltb-in}
use Rattle.rules.specs.Moves.{source, action, target}
use Rattle.rules.specs.Values.{state, own}
use Rattle.engine_index.specs.Walks.{key_by, comes, one_comes, SetWhere}

-- A move of the state s with the action leads to a state that passes the test; and to one below t that does.
abbrev pub leads_where : List ℕ → ℕ → (ℕ → Bool) → ℕ → Bool
leads_where moves a test s = any (λ q. own (state s) (record { 0 = a }) q && test (target q)) moves

abbrev pub leads_below : List ℕ → ℕ → (ℕ → Bool) → ℕ → ℕ → Bool
leads_below moves a test t s = any (λ q. own (state s) (record { 0 = a }) q && (ltb (target q) t && test (target q))) moves

-- Two tests that agree on the entries of a list.
pub any_same : (f g : ℕ → Bool) (l : List ℕ) → ((j : ℕ) → j < length l → f (get_or l j 0) ≡ g (get_or l j 0)) → any f l ≡ any g l
any_same f g [] h = refl
any_same f g (q ∷ l) h =
    ap (λ (b : Bool). b || any f l) (h 0 (omega arith)) ∙ ap (λ (b : Bool). g q || b) (any_same f g l (λ j k. h (suc j) (omega arith)))

-- One of two tests, or a test under a condition, asked of a list.
any-or : (f g : ℕ → Bool) (l : List ℕ) → any (λ q. f q || g q) l ≡ (any f l || any g l)
any-or f g [] = refl
any-or f g (q ∷ l) = ap (λ (b : Bool). (f q || g q) || b) (any-or f g l) ∙ mix (f q) (g q) (any f l) (any g l)
  where
    mix : (a b c d : Bool) → ((a || b) || (c || d)) ≡ ((a || c) || (b || d))
    mix true b c d = refl
    mix false true true d = refl
    mix false true false d = refl
    mix false false c d = refl

any-with : (a : Bool) (f : ℕ → Bool) (l : List ℕ) → any (λ q. a && f q) l ≡ (a && any f l)
any-with true f l = refl
any-with false f [] = refl
any-with false f (q ∷ l) = any-with false f l

-- A test that each entry of a list fails.
any_none : (f : ℕ → Bool) (l : List ℕ) → ((j : ℕ) → j < length l → f (get_or l j 0) ≡ false) → any f l ≡ false
any_none f [] h = refl
any_none f (q ∷ l) h = (or_no (f q) (any f l)).1 (h 0 (omega arith), any_none f l (λ j k. h (suc j) (omega arith)))

-- No move leads to a state that passes, where no state does.
pub none-leads : (moves : List ℕ) (a n : ℕ) (test : ℕ → Bool) → ((j : ℕ) → j < length moves → target (get_or moves j 0) < n)
    → some_below n test ≡ false → (s : ℕ) → leads_where moves a test s ≡ false
none-leads moves a n test inside none s =
    any_none (λ q. own (state s) (record { 0 = a }) q && test (target q)) moves (λ j k.
    let q = get_or moves j 0 in
    and_no (own (state s) (record { 0 = a }) q) (some-no n test none (target q) (inside j k)))

-- Two numbers of an action and a target are the same where both are.
key-is : (n a t b u : ℕ) → u < n → t < n → eqb (b * n + u) (a * n + t) ≡ (eqb b a && eqb u t)
key-is n a t b u hu ht =
    elim (tell true (eqb (b * n + u) (a * n + t))) [
      | inl y ↦
          let e = eqb-out _ _ y in
          let p = sym (digits_div b hu) ∙ ap (λ (k : ℕ). k / n) e ∙ digits_div a ht in
          let q = sym (digits_mod b hu) ∙ ap (λ (k : ℕ). k % n) e ∙ digits_mod a ht in
          y ∙ sym (ap (λ (k : Bool). k && eqb u t) (eqb-in b a p) ∙ eqb-in u t q)
      | inr y ↦
          y ∙ sym (no_way (eqb b a && eqb u t) (λ z.
          let p = eqb-out b a (and_left (eqb b a) (eqb u t) z) in
          let q = eqb-out u t (and_right (eqb b a) (eqb u t) z) in
          (eqb_no _ _).0 y (ap (λ (k : ℕ). k * n + u) p ∙ ap (λ (k : ℕ). a * n + k) q)))
    ]

-- One target more, for one move.
next-target : (test : ℕ → Bool) (t u : ℕ) (p q : Bool)
    → ((p && q) && (ltb u (suc t) && test u)) ≡ (((p && q) && (ltb u t && test u)) || (test t && ((q && eqb u t) && p)))
next-target test t u p q =
    elim (ℕ_discrete u t) [
      | yes e ↦
          let l : ltb u (suc t) ≡ true = ltb-in u (suc t) (omega arith) in
          let m : ltb u t ≡ false = (ltb_no u t).1 (omega arith) in
          rw (l, m, eqb-in u t e, e) (here p q (test t))
      | no e ↦
          let l : ltb u (suc t) ≡ ltb u t = same e in
          rw (l, (eqb_no u t).1 e) (past p q (ltb u t && test u) (test t))
    ]
  where
    same : (u ≡ t → ⊥) → ltb u (suc t) ≡ ltb u t
    same e = elim (tell true (ltb u t)) [
      | inl y ↦ let l = (ltb-is u t).0 y in ltb-in u (suc t) (omega arith) ∙ sym y
      | inr y ↦ let l = (ltb_no u t).0 y in (ltb_no u (suc t)).1 (omega (arith, e)) ∙ sym y
    ]

    here : (p q h : Bool) → ((p && q) && (true && h)) ≡ (((p && q) && (false && h)) || (h && ((q && true) && p)))
    here true true true = refl
    here true true false = refl
    here true false true = refl
    here true false false = refl
    here false true true = refl
    here false true false = refl
    here false false true = refl
    here false false false = refl

    past : (p q r h : Bool) → ((p && q) && r) ≡ (((p && q) && r) || (h && ((q && false) && p)))
    past true true true h = refl
    past true true false true = refl
    past true true false false = refl
    past true false r true = refl
    past true false r false = refl
    past false true r true = refl
    past false true r false = refl
    past false false r true = refl
    past false false r false = refl

-- The places once the targets below t have been gone through.
pub record Reached (moves : List ℕ) (a : ℕ) (test : ℕ → Bool) (v : ℕ) (before : List ℕ) (t : ℕ) (bad : List ℕ) : Type 0 where
  pub long : length bad ≡ length before
  pub tells : SetWhere (leads_below moves a test t) v before bad

module _ (n : ℕ) (moves : List ℕ) (inside : (j : ℕ) → j < length moves → target (get_or moves j 0) < n) (a : ℕ) (test : ℕ → Bool) (v : ℕ) (before : List ℕ) where
  -- No target lies below 0.
  none_yet : (s : ℕ) (l : List ℕ) → leads_below l a test 0 s ≡ false
  none_yet s [] = refl
  none_yet s (q ∷ l) =
      ap (λ (b : Bool). (own (state s) (record { 0 = a }) q && (b && test (target q))) || leads_below l a test 0 s) ((ltb_no (target q) 0).1 (omega arith))
      ∙ ap (λ (b : Bool). b || leads_below l a test 0 s) (and_no (own (state s) (record { 0 = a }) q) refl) ∙ none_yet s l

  -- At the start.
  pub reached-none : Reached moves a test v before 0 before
  reached-none = record { long = refl; tells = λ s h. sym (ap (λ (b : Bool). cond b v (get_or before s 0)) (none_yet s moves)) }

  -- One target more, for all moves.
  below_more : (t s : ℕ) → t < n
      → leads_below moves a test (suc t) s ≡ (leads_below moves a test t s || (test t && one_comes (key_by n) (a * n + t) moves s))
  below_more t s h =
      any_same (λ q. own (state s) (record { 0 = a }) q && (ltb (target q) (suc t) && test (target q)))
      (λ q. (own (state s) (record { 0 = a }) q && (ltb (target q) t && test (target q))) || (test t && comes (key_by n) (a * n + t) s q))
      moves (λ j k.
      let q = get_or moves j 0 in
      next-target test t (target q) (eqb (source q) s) (eqb (action q) a)
      ∙ ap (λ (b : Bool). (own (state s) (record { 0 = a }) q && (ltb (target q) t && test (target q))) || (test t && (b && eqb (source q) s)))
      (sym (key-is (n) a t (action q) (target q) (inside j k) h)))
      ∙ any-or (λ q. own (state s) (record { 0 = a }) q && (ltb (target q) t && test (target q))) (λ q. test t && comes (key_by n) (a * n + t) s q) moves
      ∙ ap (λ (b : Bool). leads_below moves a test t s || b) (any-with (test t) (comes (key_by n) (a * n + t) s) moves)

  -- Once the chain of the target t has been gone through, if t passes.
  pub reached-more : (t m : ℕ) (bad after : List ℕ) → t < n → m ≡ n → Reached moves a test v before t bad → length after ≡ length bad
      → SetWhere (λ s. test t && one_comes (key_by m) (a * n + t) moves s) v bad after → Reached moves a test v before (t + 1) after
  reached-more t m bad after h o r e f =
      let l = r.long in
      record {
        long = e ∙ r.long;
        tells = λ s k. rw add-one (f s (omega arith)
            ∙ ap (λ (i : ℕ). cond (test t && one_comes (key_by i) (a * n + t) moves s) v (get_or bad s 0)) o
            ∙ ap (λ (x : ℕ). cond (test t && one_comes (key_by n) (a * n + t) moves s) v x) (r.tells s k)
            ∙ twice (leads_below moves a test t s) (test t && one_comes (key_by n) (a * n + t) moves s) (get_or before s 0)
            ∙ ap (λ (b : Bool). cond b v (get_or before s 0)) (sym (below_more t s h)));
      }
    where
      twice : (a b : Bool) (x : ℕ) → cond b v (cond a v x) ≡ cond (a || b) v x
      twice true true x = refl
      twice true false x = refl
      twice false b x = refl

  -- The same where t passes, and where it does not.
  pub reached-hit : (t m : ℕ) (bad after : List ℕ) → t < n → m ≡ n → test t ≡ true → Reached moves a test v before t bad → length after ≡ length bad
      → SetWhere (one_comes (key_by m) (a * n + t) moves) v bad after → Reached moves a test v before (t + 1) after
  reached-hit t m bad after h o k r e f =
      reached-more t m bad after h o r e
      (λ s l. f s l ∙ ap (λ (b : Bool). cond (b && one_comes (key_by m) (a * n + t) moves s) v (get_or bad s 0)) (sym k))

  pub reached-miss : (t : ℕ) (bad : List ℕ) → t < n → test t ≡ false → Reached moves a test v before t bad → Reached moves a test v before (t + 1) bad
  reached-miss t bad h k r =
      reached-more t n bad bad h refl r refl
      (λ s l. ap (λ (b : Bool). cond (b && one_comes (key_by n) (a * n + t) moves s) v (get_or bad s 0)) (sym k))

  -- All targets: every move has been asked.
  pub reached-all : (bad : List ℕ) → Reached moves a test v before (n) bad → SetWhere (leads_where moves a test) v before bad
  reached-all bad r s h =
      r.tells s h
      ∙ ap (λ (b : Bool). cond b v (get_or before s 0))
      (any_same (λ q. own (state s) (record { 0 = a }) q && (ltb (target q) (n) && test (target q)))
      (λ q. own (state s) (record { 0 = a }) q && test (target q)) moves (λ j k.
      ap (λ (b : Bool). own (state s) (record { 0 = a }) (get_or moves j 0) && (b && test (target (get_or moves j 0)))) (ltb-in _ (n) (inside j k))))
