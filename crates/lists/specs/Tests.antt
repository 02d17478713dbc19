-- Tests as facts: what it means that a test on numbers, on truth values or on a list came out true or false.
-- Assumes nothing.
use Rattle.std.specs.Prelude.{◌≡◌, refl, ◌⊎◌, ◌↔◌, ◌≢◌, Bool, true, false, not, cond, ◌&&◌, ◌||◌, ℕ, zero, suc, ◌≤◌, ◌<◌, T, eqb, ltb, leb}
use Rattle.std.proofs.Common.{sym, ap, ap₂, ◌∙◌, subst, inl, inr, true≢false, arith, eqb→eq, ltb→lt, lt→ltb, leb→le, le→leb, nltb→le}
use Rattle.std.proofs.lemmas.Bool.{false≢true}
use mathlib.Core.List.{List, [], ◌∷◌, ◌++◌, Memᴰ}
use Rattle.std.proofs.Math.Dec.{eqb_refl}
use Rattle.lists.specs.Lists.{is, any, all, elem, bit}

infix 20 ◌∈◌
abbrev pub ◌∈◌ : ℕ → List ℕ → Type 0
q ∈ l = Memᴰ q l

of_T : (b : Bool) → T b → b ≡ true
of_T true t = refl
of_T false t = absurd t

to-T : (b : Bool) → b ≡ true → T b
to-T true e = tt
to-T false e = absurd (false≢true e)

-- A truth value is b or the other one, and never both.
pub tell : (b x : Bool) → (x ≡ b) ⊎ (x ≡ not b)
tell true true = inl refl
tell true false = inr refl
tell false true = inr refl
tell false false = inl refl

pub clash : (b x : Bool) → x ≡ b → x ≡ not b → ⊥
clash true x e f = true≢false (sym e ∙ f)
clash false x e f = false≢true (sym e ∙ f)

pub never : (b : Bool) → not b ≡ b → ⊥
never true e = false≢true e
never false e = true≢false e

pub not-not : (b : Bool) → not (not b) ≡ b
not-not true = refl
not-not false = refl

pub not-out : (x : Bool) → not x ≡ true → x ≡ false
not-out true e = sym e
not-out false e = refl

-- What has no way to be true is false.
pub no_way : (x : Bool) → (x ≡ true → ⊥) → x ≡ false
no_way true n = absurd (n refl)
no_way false n = refl

pub is-out : (b x : Bool) → is b x ≡ true → x ≡ b
is-out true x e = e
is-out false true e = sym e
is-out false false e = refl

pub is-in : (b x : Bool) → x ≡ b → is b x ≡ true
is-in true x e = e
is-in false x e = ap not e

pub is-not : (b x : Bool) → x ≡ not b → is b x ≡ false
is-not true x e = e
is-not false x e = ap not e

-- And, or.
pub and_in : {x y : Bool} → x ≡ true → y ≡ true → (x && y) ≡ true
and_in {x} {y} e f = subst (λ (z : Bool). (z && y) ≡ true) (sym e) f

pub and_left : (x y : Bool) → (x && y) ≡ true → x ≡ true
and_left true y e = refl
and_left false y e = e

pub and_right : (x y : Bool) → (x && y) ≡ true → y ≡ true
and_right true y e = e
and_right false y e = absurd (false≢true e)

pub and_is : (x y : Bool) → ((x && y) ≡ true) ↔ ((x ≡ true) × (y ≡ true))
and_is true y = (λ e. (refl, e), λ e. e.1)
and_is false y = (λ e. absurd (false≢true e), λ e. e.0)

pub or_left : {x : Bool} (y : Bool) → x ≡ true → (x || y) ≡ true
or_left {x} y e = subst (λ (z : Bool). (z || y) ≡ true) (sym e) refl

pub or_right : (x : Bool) {y : Bool} → y ≡ true → (x || y) ≡ true
or_right true e = refl
or_right false e = e

pub or-out : (x y : Bool) → (x || y) ≡ true → (x ≡ true) ⊎ (y ≡ true)
or-out true y e = inl refl
or-out false y e = inr e

pub or-in : (x y : Bool) → (x ≡ false → y ≡ true) → (x || y) ≡ true
or-in true y f = refl
or-in false y f = f refl

pub or-other : (x y : Bool) → (x || y) ≡ true → x ≡ false → y ≡ true
or-other true y h e = absurd (true≢false e)
or-other false y h e = h

pub or-false : (x : Bool) → (x || false) ≡ x
or-false true = refl
or-false false = refl

pub and-true : (x : Bool) → (x && true) ≡ x
and-true true = refl
and-true false = refl

pub and_no : (x : Bool) {y : Bool} → y ≡ false → (x && y) ≡ false
and_no true e = e
and_no false e = refl

pub or_no : (x y : Bool) → ((x || y) ≡ false) ↔ ((x ≡ false) × (y ≡ false))
or_no true y = (λ e. absurd (true≢false e), λ e. e.0)
or_no false y = (λ e. (refl, e), λ e. e.1)

-- Numbers.
pub eqb_is : (m n : ℕ) → (eqb m n ≡ true) ↔ (m ≡ n)
eqb_is m n = (λ e. eqb→eq m n (to-T (eqb m n) e), λ h. of_T (eqb m n) (subst (λ (k : ℕ). T (eqb m k)) h (eqb_refl m)))

pub ltb-is : (m n : ℕ) → (ltb m n ≡ true) ↔ (m < n)
ltb-is m n = (λ e. ltb→lt m n (to-T (ltb m n) e), λ h. of_T (ltb m n) (lt→ltb m n h))

pub leb-is : (m n : ℕ) → (leb m n ≡ true) ↔ (m ≤ n)
leb-is m n = (λ e. leb→le m n (to-T (leb m n) e), λ h. of_T (leb m n) (le→leb m n h))

pub eqb-out : (m n : ℕ) → eqb m n ≡ true → m ≡ n
eqb-out m n = (eqb_is m n).0

pub eqb-in : (m n : ℕ) → m ≡ n → eqb m n ≡ true
eqb-in m n = (eqb_is m n).1

pub eqb_same : (m : ℕ) → eqb m m ≡ true
eqb_same m = eqb-in m m refl

pub ltb-out : (m n : ℕ) → ltb m n ≡ true → m < n
ltb-out m n = (ltb-is m n).0

pub ltb-in : (m n : ℕ) → m < n → ltb m n ≡ true
ltb-in m n = (ltb-is m n).1

pub ltb_no : (m n : ℕ) → (ltb m n ≡ false) ↔ (n ≤ m)
ltb_no m n = (
  λ e. nltb→le m n (of-false (ltb m n) e),
  λ h. no_way (ltb m n) (λ e. let k = (ltb-is m n).0 e in omega arith),
)
  where
    of-false : (b : Bool) → b ≡ false → T (not b)
    of-false true e = absurd (true≢false e)
    of-false false e = tt

pub eqb_no : (m n : ℕ) → (eqb m n ≡ false) ↔ (m ≢ n)
eqb_no m n = (
  λ e k. true≢false (sym ((eqb_is m n).1 k) ∙ e),
  λ h. no_way (eqb m n) (λ e. h ((eqb_is m n).0 e)),
)

pub eqb-off : (m n : ℕ) → m < n → eqb m n ≡ false
eqb-off m n h = (eqb_no m n).1 (λ e. omega arith)

-- For `simp`: a test that is true, and one that is false, in words of numbers.
pub ruleset tests = (ltb-is, leb-is, eqb_is, and_is)

pub ruleset denials = (ltb_no, eqb_no, or_no)

-- What a test decides.
pub cond_yes : {A : Type 0} {x : Bool} (a b : A) → x ≡ true → cond x a b ≡ a
cond_yes a b e = rw e refl

pub cond_no : {A : Type 0} {x : Bool} (a b : A) → x ≡ false → cond x a b ≡ b
cond_no a b e = rw e refl

-- Lists.
pub any_out : (f : ℕ → Bool) (l : List ℕ) → any f l ≡ true → (q : ℕ) × q ∈ l × (f q ≡ true)
any_out f [] e = absurd (false≢true e)
any_out f (q ∷ l) e =
    elim (or-out (f q) (any f l) e) [
      | inl h ↦ (q, Memᴰ.head refl, h)
      | inr h ↦ let t = any_out f l h in (t.0, Memᴰ.tail t.1, t.2)
    ]

pub any-in : (f : ℕ → Bool) {q : ℕ} {l : List ℕ} → q ∈ l → f q ≡ true → any f l ≡ true
any-in f (Memᴰ.head {xs = xs} e) h = or_left (any f xs) (ap f (sym e) ∙ h)
any-in f (Memᴰ.tail {x = x} m) h = or_right (f x) (any-in f m h)

pub elem_out : (q : ℕ) (l : List ℕ) → elem q l ≡ true → q ∈ l
elem_out q [] e = absurd (false≢true e)
elem_out q (r ∷ l) e =
    elim (or-out (eqb q r) (elem q l) e) [
      | inl h ↦ Memᴰ.head (eqb-out q r h)
      | inr h ↦ Memᴰ.tail (elem_out q l h)
    ]

pub elem_in : {q : ℕ} {l : List ℕ} → q ∈ l → elem q l ≡ true
elem_in {q} m = any-in (eqb q) m (eqb-in q q refl)

pub all_from : (f : ℕ → Bool) (l : List ℕ) → ((q : ℕ) → q ∈ l → f q ≡ true) → all f l ≡ true
all_from f [] h = refl
all_from f (q ∷ l) h = and_in (h q (Memᴰ.head refl)) (all_from f l (λ r m. h r (Memᴰ.tail m)))

-- What each entry passes, an entry passes.
pub all-at : (f : ℕ → Bool) (l : List ℕ) (q : ℕ) → all f l ≡ true → elem q l ≡ true → f q ≡ true
all-at f [] q h e = absurd (false≢true e)
all-at f (r ∷ l) q h e =
    let k = (and_is (f r) (all f l)).0 h in
    elim (tell true (eqb q r)) [
      | inl t ↦ rw ((eqb_is q r).0 t) k.0
      | inr t ↦ all-at f l q k.1 (or-other (eqb q r) (elem q l) e t)
    ]

-- Where the denial held, the test failed.
pub failed : {r x : Bool} → r ≡ x → not r ≡ true → x ≡ false
failed {r} e t = sym e ∙ sym (not-not r) ∙ ap not t

-- Where the denial did not, the test was passed.
pub passed : {r x : Bool} → r ≡ x → not r ≡ false → x ≡ true
passed {r} e t = sym e ∙ sym (not-not r) ∙ ap not t

-- A number over the most is not at most that.
pub leb_no : (m n : ℕ) → n < m → leb m n ≡ false
leb_no m n h = no_way (leb m n) (λ e. let k = (leb-is m n).0 e in omega arith)

-- Tests that say the same of each number say the same of a list.
pub any_same : (f g : ℕ → Bool) (l : List ℕ) → ((q : ℕ) → f q ≡ g q) → any f l ≡ any g l
any_same f g [] h = refl
any_same f g (q ∷ l) h = ap₂ ◌||◌ (h q) (any_same f g l h)

-- Tests that follow from each other are one.
pub same_test : (x y : Bool) → (x ≡ true → y ≡ true) → (y ≡ true → x ≡ true) → x ≡ y
same_test true y f g = sym (f refl)
same_test false true f g = absurd (true≢false (sym (g refl)))
same_test false false f g = refl

-- A byte that is 0 or 1 says a truth value where it is its bit.
pub is-bit : (b : Bool) (v : ℕ) → v ≤ 1 → is b (eqb v 1) ≡ eqb v (bit b)
is-bit true v h = refl
is-bit false zero h = refl
is-bit false (suc zero) h = refl
is-bit false (suc (suc v)) h = absurd (omega arith)

-- Some entry of a list passes a test, by its last entry first.
pub any_snoc : (f : ℕ → Bool) (w : ℕ) (l : List ℕ) → any f (l ++ (w ∷ [])) ≡ (f w || any f l)
any_snoc f w [] = refl
any_snoc f w (x ∷ l) = ap (λ (b : Bool). f x || b) (any_snoc f w l) ∙ swap (f x) (f w) (any f l)
  where
    swap : (a b c : Bool) → (a || (b || c)) ≡ (b || (a || c))
    swap true true c = refl
    swap true false c = refl
    swap false true c = refl
    swap false false c = refl
