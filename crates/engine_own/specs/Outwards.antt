-- A look outwards from one move of a part, at both sides in turn: what has been passed, and what is told when it is over. Assumes nothing.
use Rattle.std.specs.Prelude.{◌≡◌, Bool, true, false, not, ◌&&◌, List, Option, Some, None, ℕ, ◌+◌, ◌-◌, ◌≤◌, ◌<◌, length, get_or, eqb}
use mathlib.Core.Bool.{beq}
use Rattle.std.specs.Option.{is_some, option_eq}
use mir.Val.{bool_byte}
use Rattle.std.proofs.Math.Path.{refl, ap}
use Rattle.std.proofs.Math.Logic.{inl, inr}
use Rattle.std.proofs.Math.Decide.{dec_lt}
use native.Mathlib.Omega.{arith}
use Rattle.lists.specs.Tests.{tell, ltb-in, ltb_no, eqb_is, eqb-in, eqb_no}
use Rattle.moves.specs.Ascending.{ascends}
use Rattle.engine_own.specs.Looks.{some_own, says, says_at, says_before}
use Rattle.engine_own.specs.Places.{begins, ends, ends-inside, stands-in, stands-out, any_at, any_none}
use Rattle.words.specs.Words.{own_of}
use Rattle.words.specs.WordLaws.{byte_small}

-- The test whether an answer is that it does.
pub is-yes : (r : Option Bool) → option_eq beq r (Some true) ≡ true → r ≡ Some true
is-yes None e = cc
is-yes (Some true) e = refl
is-yes (Some false) e = cc

pub is-not : (r : Option Bool) → option_eq beq r (Some true) ≡ false → r ≡ Some true → ⊥
is-not None e h = cc
is-not (Some true) e h = cc
is-not (Some false) e h = cc

-- Where neither of two answers is there, they pass none; else they pass one at least.
pub both-over : (r s a b : Bool) → r ≡ not a → s ≡ not b → (a && b ≡ true → bool_byte r + bool_byte s ≡ 0) × (a && b ≡ false → bool_byte r + bool_byte s ≡ 0 → ⊥)
both-over r s true true e f = (λ h. rw (e, f) refl, λ h. cc)
both-over r s true false e f = (λ h. cc, λ h k. let u = ap bool_byte f in omega arith)
both-over r s false true e f = (λ h. cc, λ h k. let u = ap bool_byte e in omega arith)
both-over r s false false e f = (λ h. cc, λ h k. let u = ap bool_byte e in omega arith)

-- What an answer tells: that a side is over, that one more is passed, or that one is found.
data Told (over passed found : Type 0) (r : Option Bool) : Type 0 where
  stops : r ≡ None → over → Told over passed found r
  goes : r ≡ Some false → passed → Told over passed found r
  hits : r ≡ Some true → found → Told over passed found r

-- Where the answer is that it does, one is found.
told-found : {o p q : Type 0} {r : Option Bool} → Told o p q r → r ≡ Some true → q
told-found (stops e x) h = cc
told-found (goes e x) h = cc
told-found (hits e x) h = x

-- Where it is another, one more is passed if there is an answer.
told-passed : {o p q : Type 0} {r : Option Bool} → Told o p q r → (r ≡ Some true → ⊥) → 0 < bool_byte (is_some r) → p
told-passed (stops e x) h k = let f = ap (λ (a : Option Bool). bool_byte (is_some a)) e in absurd (omega arith)
told-passed (goes e x) h k = x
told-passed (hits e x) h k = absurd (h e)

-- Where there is none, the side is over.
told_over : {o p q : Type 0} {r : Option Bool} → Told o p q r → bool_byte (is_some r) ≡ 0 → o
told_over (stops e x) h = x
told_over (goes e x) h = let f = ap (λ (a : Option Bool). bool_byte (is_some a)) e in absurd (omega arith)
told_over (hits e x) h = let f = ap (λ (a : Option Bool). bool_byte (is_some a)) e in absurd (omega arith)

-- What a move says.
says-told : (f : ℕ → Bool) (part q : ℕ)
    → Told (own_of q ≡ part → ⊥) ((own_of q ≡ part) × (f q ≡ false)) ((own_of q ≡ part) × (f q ≡ true)) (says f part q)
unfolding says
says-told f part q =
    elim (tell true (eqb (own_of q) part)) [
      | inl t ↦ elim (tell true (f q)) [
        | inl u ↦ hits (rw (t, u) refl) ((eqb_is _ _).0 t, u)
        | inr u ↦ goes (rw (t, u) refl) ((eqb_is _ _).0 t, u)
      ]
      | inr t ↦ stops (rw t refl) ((eqb_no _ _).0 t)
    ]

-- The answer from above to a look that starts from the move at j.
abbrev FromAbove : (ℕ → Bool) → List ℕ → ℕ → ℕ → Option Bool → Type 0
FromAbove f l j high r = Told (ends (get_or l j 0) l ≤ high) ((high < length l) × (f (get_or l high 0) ≡ false)) (some_own f l j ≡ true) r

-- The answer from below.
abbrev FromBelow : (ℕ → Bool) → List ℕ → ℕ → ℕ → Option Bool → Type 0
FromBelow f l j low r = Told (low ≤ begins (get_or l j 0) l) ((0 < low) × (f (get_or l (low - 1) 0) ≡ false)) (some_own f l j ≡ true) r

module _ (f : ℕ → Bool) (l : List ℕ) (up : ascends 0 l ≡ true) (j : ℕ) (here : j < length l) where
  -- A move of the part that passes the test is found.
  found_at : (i : ℕ) → i < length l → own_of (get_or l i 0) ≡ own_of (get_or l j 0) → f (get_or l i 0) ≡ true → some_own f l j ≡ true
  found_at i h e t =
      let s = stands-in l up (get_or l j 0) i h e in
      any_at f l (ends (get_or l j 0) l) (ends-inside (get_or l j 0) l) (begins (get_or l j 0) l) i s.0 s.1 t

  -- Where the move at high is not of the part, the part ends there or before, since the move at j is of it.
  from-above : (high : ℕ) → j ≤ high → FromAbove f l j high (says_at f l (own_of (get_or l j 0)) high)
  unfolding says_at
  from-above high a =
      elim (dec_lt high (length l)) [
        | no h ↦ let e = ends-inside (get_or l j 0) l in stops (rw ((ltb_no high (length l)).1 (omega arith)) refl) (omega arith)
        | yes h ↦ rw (ltb-in high (length l) h) (elim (says-told f (own_of (get_or l j 0)) (get_or l high 0)) [
          | stops e n ↦ stops e (elim (stands-out l up (get_or l j 0) high h n) [
            | inl k ↦ let s = stands-in l up (get_or l j 0) j here refl in absurd (omega arith)
            | inr k ↦ k
          ])
          | goes e p ↦ goes e (h, p.1)
          | hits e p ↦ hits e (found_at high h p.0 p.1)
        ])
      ]

  -- Where the move before low is not of the part, the part begins at low or after it.
  from-below : (low : ℕ) → low ≤ j → FromBelow f l j low (says_before f l (own_of (get_or l j 0)) low)
  unfolding says_before
  from-below low a =
      elim (dec_lt 0 low) [
        | no h ↦ stops (rw (eqb-in low 0 (omega arith)) refl) (omega arith)
        | yes h ↦ rw ((eqb_no low 0).1 (λ e. omega arith)) (elim (says-told f (own_of (get_or l j 0)) (get_or l (low - 1) 0)) [
          | stops e n ↦ stops e (elim (stands-out l up (get_or l j 0) (low - 1) (omega arith) n) [
            | inl k ↦ omega arith
            | inr k ↦ let s = stands-in l up (get_or l j 0) j here refl in absurd (omega arith)
          ])
          | goes e p ↦ goes e (h, p.1)
          | hits e p ↦ hits e (found_at (low - 1) (omega arith) p.0 p.1)
        ])
      ]

-- One more fits where there is a place for it.
one-fits : (a : Option Bool) (m n : ℕ) → m ≤ n → (0 < bool_byte (is_some a) → m < n) → m + bool_byte (is_some a) ≤ n
one-fits None m n k f = omega arith
one-fits (Some t) m n k f = let y = f (omega arith) in omega arith

-- The moves at low and after it, before high, do not pass the test; the place j is among theirs or next to them.
pub record Passed (f : ℕ → Bool) (l : List ℕ) (j low high : ℕ) : Type 0 where
  pub here : j < length l
  pub under : low ≤ j
  pub over : j ≤ high
  pub inside : high ≤ length l
  pub none : (i : ℕ) → low ≤ i → i < high → f (get_or l i 0) ≡ false

-- By two answers more of them have been passed, one by each that there is.
pub record Further (f : ℕ → Bool) (l : List ℕ) (j low high above below : ℕ) : Type 0 where
  pub more : 0 < above + below
  pub room : below ≤ low
  pub passed : Passed f l j (low - below) (high + above)

-- At first none has been.
pub passed_none : (f : ℕ → Bool) (l : List ℕ) (j : ℕ) → j < length l → Passed f l j j j
passed_none f l j h =
    record { here = h; under = omega arith; over = omega arith; inside = omega arith; none = λ i a b. absurd (omega arith) }

module _ {f : ℕ → Bool} {l : List ℕ} {j low high : ℕ} (up : ascends 0 l ≡ true) (p : Passed f l j low high) where
  -- What the answer from above tells.
  told-above : {above : Option Bool} → above ≡ says_at f l (own_of (get_or l j 0)) high → FromAbove f l j high above
  told-above a = rw a (from-above f l up j p.here high p.over)

  -- What the answer from below tells.
  told_below : {below : Option Bool} → below ≡ says_before f l (own_of (get_or l j 0)) low → FromBelow f l j low below
  told_below b = rw b (from-below f l up j p.here low p.under)

  -- Where the answer from above is that it does, one passes the test.
  pub found-above : {above : Option Bool} → above ≡ says_at f l (own_of (get_or l j 0)) high → above ≡ Some true → some_own f l j ≡ true
  found-above a = told-found (told-above a)

  -- The same of the answer from below.
  pub found_below : {below : Option Bool} → below ≡ says_before f l (own_of (get_or l j 0)) low → below ≡ Some true → some_own f l j ≡ true
  found_below b = told-found (told_below b)

module _ {f : ℕ → Bool} {l : List ℕ} {j low high : ℕ} {above below : Option Bool} (up : ascends 0 l ≡ true) (p : Passed f l j low high)
    (a : above ≡ says_at f l (own_of (get_or l j 0)) high) (b : below ≡ says_before f l (own_of (get_or l j 0)) low)
    (h : above ≡ Some true → ⊥) (k : below ≡ Some true → ⊥) where
  -- Where a side is not over, the look goes on, with more that have been passed.
  pub goes_on_lem : (bool_byte (is_some above) + bool_byte (is_some below) ≡ 0 → ⊥) → Further f l j low high (bool_byte (is_some above)) (bool_byte (is_some below))
  goes_on_lem n =
      let u = p.under in
      let o = p.over in
      let x = told-passed (told-above up p a) h in
      let y = told-passed (told_below up p b) k in
      let v = one-fits above high (length l) p.inside (λ t. (x t).0) in
      let w = one-fits below 0 low (omega arith) (λ t. (y t).0) in
      let i0 = byte_small (is_some above) in
      let i1 = byte_small (is_some below) in record {
        more = omega arith;
        room = omega arith;
        passed = record {
          here = p.here;
          under = omega arith;
          over = omega arith;
          inside = v;
          none = λ i g q. elim (dec_lt i low) [
            | yes s ↦ let e : i ≡ low - 1 = omega arith in rw e (y (omega arith)).1
            | no s ↦ elim (dec_lt i high) [
              | yes t ↦ p.none i (omega arith) t
              | no t ↦ let e : i ≡ high = omega arith in rw e (x (omega arith)).1
            ]
          ];
        };
      }

  -- Where both sides are over, none passes the test.
  pub none_found : bool_byte (is_some above) + bool_byte (is_some below) ≡ 0 → some_own f l j ≡ false
  none_found n =
      let x = told_over (told-above up p a) (omega arith) in
      let y = told_over (told_below up p b) (omega arith) in
      any_none f l (ends (get_or l j 0) l) (ends-inside (get_or l j 0) l) (begins (get_or l j 0) l) (λ i m q. p.none i (omega arith) (omega arith))
