-- Equations with signs, read back from the bytes: one record more is one equation more. Assumes nothing.
use Rattle.std.specs.Prelude.{◌≡◌, refl, true, List, [], ◌∷◌, ◌++◌, ℕ, zero, suc, ◌+◌, ◌-◌, ◌*◌, ◌≤◌, ◌<◌, length, get_or, set, replicate, Some}
use Rattle.std.proofs.Common.{sym, ap, ap₂, ◌∙◌, subst, inl, inr, le_of_suc-le-suc, eq-or-lt_of_le, not-suc-le-zero, arith, length-set, get_or-set_same, get_or-set_other}
use Rattle.std.proofs.Math.Decide.{ℕ_discrete}
use Rattle.lists.specs.Tests.{eqb_is}
use Rattle.rules.specs.Limits.{most_variables}
use Rattle.rules.specs.Load.{sign_of}
use Rattle.rules.specs.declared.Equation.{Equation}
use Rattle.rules.specs.Records.{numbers_of, widths}
use Rattle.rules.specs.Session.{word, unword}
use Rattle.model_chains.specs.Stored.{held}
use Rattle.words.specs.WordLaws.{unword-word}
use Rattle.rules.specs.declared.Record.{Record}
use Rattle.rules.specs.declared.Record.TheVariants as R
use Rattle.bytes_read.specs.PartsAt.{read_there}
use Rattle.bytes_read.specs.Places.{body_len, record_of, record_at}
use Rattle.model_judge.specs.Asking.{sign_at, signs_from, signs_to, Spelled, is_signed}

-- The record of an equation with a sign has 5 bytes, and says what they say.
pub signed-there : (s : List ℕ) (n k : ℕ) (r : Record) → record_at s n ≡ Some (r, k) → is_signed r ≡ true → (k ≡ n + 5) × (sign_of (numbers_of r) ≡ sign_at s n)
unfolding record_of body_len widths
signed-there s n k r got is =
    let t = read_there s n k r got in
    let q = (eqb_is (numbers_of r).kind 11).0 is in
    let c : r ≡ R.Signed (get_or s (n + 1) 0) (get_or s (n + 1 + 1) 0) (get_or s (n + 1 + 2) 0) (get_or s (n + 1 + 3) 0) = t.is ∙ ap (λ (i : ℕ). record_of i s (n + 1)) q in
    let d : k ≡ n + 1 + 4 = t.next ∙ ap (λ (i : ℕ). n + 1 + body_len i) q in
    let e2 : n + 1 + 1 ≡ n + 2 = omega arith in
    let e3 : n + 1 + 2 ≡ n + 3 = omega arith in
    let e4 : n + 1 + 3 ≡ n + 4 = omega arith in
    (omega arith, rw (c, e2, e3, e4) refl)

-- How many there are, and one more at the end.
pub signs-length : (s : List ℕ) (p k : ℕ) → length (signs_from s p k) ≡ k
signs-length s p zero = refl
signs-length s p (suc k) = ap suc (signs-length s (p + 5) k)

signs-more : (s : List ℕ) (p k : ℕ) → signs_from s p k ++ (sign_at s (p + 5 * k) ∷ []) ≡ signs_from s p (suc k)
signs-more s p zero = let e : p + 5 * 0 ≡ p = omega arith in rw e refl
signs-more s p (suc k) =
    let e : p + 5 * suc k ≡ p + 5 + 5 * k = omega arith in
    rw e (ap (λ (t : List Equation). sign_at s p ∷ t) (signs-more s (p + 5) k))

-- The same of the records that end at a place.
pub one_more : (s : List ℕ) (n k : ℕ) → 5 * k ≤ n → signs_to s n k ++ (sign_at s n ∷ []) ≡ signs_to s (n + 5) (suc k)
one_more s n k h =
    let e : n - 5 * k + 5 * k ≡ n = omega arith in
    let f : n + 5 - 5 * suc k ≡ n - 5 * k = omega arith in
    ap (λ (i : ℕ). signs_to s n k ++ (sign_at s i ∷ [])) (sym e) ∙ signs-more s (n - 5 * k) k ∙ ap (λ (i : ℕ). signs_from s i (suc k)) (sym f)

pub spelled_none : (s : List ℕ) (n : ℕ) → Spelled s n 0
spelled_none s n = record { room = omega arith; signs = λ i h. absurd (omega arith) }

pub spelled-more : (s : List ℕ) (n k : ℕ) → Spelled s n k → get_or s (n + 1) 0 ≤ 1 → Spelled s (n + 5) (suc k)
spelled-more s n k d h =
    let r = d.room in
    record {
      room = omega arith;
      signs = λ i l. elim (eq-or-lt_of_le (le_of_suc-le-suc l)) [
        | inl e ↦ let q : n + 5 - 5 * suc k + 5 * i + 1 ≡ n + 1 = omega arith in subst (λ (j : ℕ). get_or s j 0 ≤ 1) (sym q) h
        | inr e ↦ let q : n + 5 - 5 * suc k + 5 * i + 1 ≡ n - 5 * k + 5 * i + 1 = omega arith in subst (λ (j : ℕ). get_or s j 0 ≤ 1) (sym q) (d.signs i e)
      ];
    }

-- The word of an equation with a sign holds what its bytes say.
pub sign_word : (s : List ℕ) (p w : ℕ) → ((i : ℕ) → get_or s i 0 < 256) → get_or s (p + 1) 0 ≤ 1 → w ≡ word (sign_at s p) → unword w ≡ sign_at s p
sign_word s p w h k e = ap unword e ∙ unword-word (sign_at s p) (h (p + 2)) (h (p + 3)) (h (p + 4)) k

-- Words that hold the first i of the k equations that end at a place.
pub record Words (s : List ℕ) (n k i : ℕ) (ws : List ℕ) : Type 0 where
  pub size : length ws ≡ most_variables
  pub holds : (x : ℕ) → x < i → unword (get_or ws x 0) ≡ sign_at s (n - 5 * k + 5 * x)

pub words-none : (s : List ℕ) (n k : ℕ) → Words s n k 0 (replicate most_variables 0)
words-none s n k = record { size = refl; holds = λ x h. absurd (omega arith) }

pub words-next : (s : List ℕ) (n k i w : ℕ) (ws vs : List ℕ) → Words s n k i ws → i < most_variables → unword w ≡ sign_at s (n - 5 * k + 5 * i) → vs ≡ set ws i w → Words s n k (i + 1) vs
words-next s n k i w ws vs d h e f =
    let z = d.size in
    record {
      size = ap length f ∙ length-set ws i w ∙ z;
      holds = λ x l. ap (λ (v : List ℕ). unword (get_or v x 0)) f ∙ elim (ℕ_discrete x i) [
        | yes q ↦ ap (λ (j : ℕ). unword (get_or (set ws i w) j 0)) q ∙ ap unword (get_or-set_same ws i w 0 (omega arith)) ∙ e ∙ ap (λ (j : ℕ). sign_at s (n - 5 * k + 5 * j)) (sym q)
        | no q ↦ ap unword (get_or-set_other ws i x w 0 q) ∙ d.holds x (omega arith)
      ];
    }

pub words-end : (s : List ℕ) (n k i : ℕ) (ws : List ℕ) → Words s n k i ws → i ≡ k → Words s n k k ws
words-end s n k i ws d e = subst (λ (j : ℕ). Words s n k j ws) e d

-- Words that hold all of them hold what is read back.
held-from : (s : List ℕ) (p k : ℕ) (ws : List ℕ) → k ≤ length ws → ((x : ℕ) → x < k → unword (get_or ws x 0) ≡ sign_at s (p + 5 * x)) → held k ws ≡ signs_from s p k
held-from s p zero ws h f = refl
held-from s p (suc k) [] h f = absurd (not-suc-le-zero h)
held-from s p (suc k) (w ∷ ws) h f =
    let e : p + 5 * 0 ≡ p = omega arith in
    ap₂ (λ (x : Equation) (t : List Equation). x ∷ t) (f 0 (omega arith) ∙ ap (sign_at s) e)
    (held-from s (p + 5) k ws (le_of_suc-le-suc h) (λ x l. f (suc x) (omega arith) ∙ ap (sign_at s) (omega arith)))

pub words-held : (s : List ℕ) (n k : ℕ) (ws : List ℕ) → k ≤ most_variables → Words s n k k ws → held k ws ≡ signs_to s n k
words-held s n k ws h d = let z = d.size in held-from s (n - 5 * k) k ws (omega arith) d.holds
