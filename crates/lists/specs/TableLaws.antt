-- Tables hold what they were made of, up to their end, and nothing past it; and so do lists of numbers.
-- Assumes nothing.
use Rattle.std.specs.Prelude.{◌≡◌, refl, Bool, true, false, List, ◌∷◌, ℕ, zero, suc, ◌+◌, ◌≤◌, ◌<◌, length, get_or, eqb, leb}
use Rattle.std.proofs.Common.{sym, ap, ◌∙◌, add-zero, add-suc, suc-add, zero-add, le_of_suc-le-suc, not-suc-le-zero, arith}
use Rattle.std.proofs.Math.Decide.{dec_lt}
use Rattle.lists.specs.Lists.{all, bit, listed}
use Rattle.lists.specs.Smallest.{tab, table, at}
use Rattle.lists.specs.Tests.{and_in, leb-is}

tab-at : (i n : ℕ) (f : ℕ → Bool) (k : ℕ) → k < n → at (tab i n f) k ≡ f (i + k)
tab-at i zero f k h = absurd (not-suc-le-zero h)
tab-at i (suc n) f zero h = ap f (sym (add-zero i))
tab-at i (suc n) f (suc k) h = tab-at (suc i) n f k (le_of_suc-le-suc h) ∙ ap f (suc-add i k ∙ sym (add-suc i k))

tab-past : (i n : ℕ) (f : ℕ → Bool) (k : ℕ) → n ≤ k → at (tab i n f) k ≡ false
tab-past i zero f k h = refl
tab-past i (suc n) f zero h = absurd (not-suc-le-zero h)
tab-past i (suc n) f (suc k) h = tab-past (suc i) n f k (le_of_suc-le-suc h)

pub table_at : (n : ℕ) (f : ℕ → Bool) (p : ℕ) → p < n → at (table n f) p ≡ f p
table_at n f p h = tab-at 0 n f p h ∙ ap f (zero-add p)

pub table-past : (n : ℕ) (f : ℕ → Bool) (p : ℕ) → n ≤ p → at (table n f) p ≡ false
table-past n f p h = tab-past 0 n f p h

-- A set with nothing past the end is the table of it.
pub table_is : (n : ℕ) (f : ℕ → Bool) → ((p : ℕ) → n ≤ p → f p ≡ false) → (p : ℕ) → at (table n f) p ≡ f p
table_is n f none p =
    elim (dec_lt p n) [
      | yes h ↦ table_at n f p h
      | no h ↦ table-past n f p (omega arith) ∙ sym (none p (omega arith))
    ]

-- Lists of numbers.
listed_at : (i n : ℕ) (f : ℕ → ℕ) (k : ℕ) → k < n → get_or (listed i n f) k 0 ≡ f (i + k)
listed_at i zero f k h = absurd (not-suc-le-zero h)
listed_at i (suc n) f zero h = ap f (sym (add-zero i))
listed_at i (suc n) f (suc k) h = listed_at (suc i) n f k (le_of_suc-le-suc h) ∙ ap f (suc-add i k ∙ sym (add-suc i k))

pub listed-is : (n : ℕ) (f : ℕ → ℕ) (p : ℕ) → p < n → get_or (listed 0 n f) p 0 ≡ f p
listed-is n f p h = listed_at 0 n f p h ∙ ap f (zero-add p)

pub listed-length : (i n : ℕ) (f : ℕ → ℕ) → length (listed i n f) ≡ n
listed-length i zero f = refl
listed-length i (suc n) f = ap suc (listed-length (suc i) n f)

pub listed-most : (i n : ℕ) (f : ℕ → ℕ) (b : ℕ) → ((p : ℕ) → f p ≤ b) → all (λ v. leb v b) (listed i n f) ≡ true
listed-most i zero f b h = refl
listed-most i (suc n) f b h = and_in ((leb-is (f i) b).1 (h i)) (listed-most (suc i) n f b h)

-- Lists made of functions that agree are the same.
pub listed_same : (i n : ℕ) (f g : ℕ → ℕ) → ((p : ℕ) → p < i + n → f p ≡ g p) → listed i n f ≡ listed i n g
listed_same i zero f g h = refl
listed_same i (suc n) f g h =
    let e = h i (omega arith) in
    let r = listed_same (suc i) n f g (λ p k. h p (omega arith)) in
    ap (λ (x : ℕ). x ∷ listed (suc i) n f) e ∙ ap (λ (l : List ℕ). g i ∷ l) r

-- A truth value comes back from its bit.
pub bit-back : (b : Bool) → eqb (bit b) 1 ≡ b
bit-back true = refl
bit-back false = refl
