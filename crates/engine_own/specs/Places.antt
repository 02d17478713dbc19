-- The places of a part in an ascending list of moves, and what is said of the entries of a part place by place. Assumes nothing.
use Rattle.std.specs.Prelude.{◌≡◌, ◌⊎◌, Bool, true, false, List, ℕ, zero, suc, ◌+◌, ◌*◌, ◌-◌, ◌≤◌, ◌<◌, length, get_or, ltb}
use Rattle.std.proofs.Common.{sym, ap, ◌∙◌, inl, inr, arith}
use Rattle.std.proofs.Math.Decide.{dec_lt}
use Rattle.std.proofs.Math.Seq.{slice}
use Rattle.lists.specs.Lists.{any}
use Rattle.lists.specs.Counts.{count-le}
use Rattle.lists.specs.Tests.{tell}
use Rattle.rules.specs.Moves.{pack, source, action}
use Rattle.words.specs.Words.{own_of}
use Rattle.moves.specs.Ascending.{ascends, below, leading-below}
use Rattle.moves.specs.Searching.{leads, follows}
use Rattle.engine_table.specs.SliceWalks.{any-hit, any-pass, any-end}

-- The first number of the part of the move q.
first_of : (q : ℕ) → pack (source q) (action q) 0 ≡ 1024 * (own_of q)
first_of q = omega arith

-- The first number past it.
past_of : (q : ℕ) → pack (source q) (action q + 1) 0 ≡ 1024 * (own_of q) + 1024
past_of q = omega arith

-- In an ascending list an entry tells on which side of a number's place it stands.
place-tells : (key i : ℕ) (l : List ℕ) → ascends 0 l ≡ true → i < length l
    → (get_or l i 0 < key → i < below key l) × (key ≤ get_or l i 0 → below key l ≤ i)
place-tells key i l up h =
    let e = leading-below key 0 l up in (
      λ y. let r = leads key 0 i l up h y in omega arith,
      λ y. let r = follows key i l h y in omega arith,
    )

-- The place where the part of the move q begins.
abbrev pub begins : ℕ → List ℕ → ℕ
begins q l = below (pack (source q) (action q) 0) l

-- The place where it ends.
abbrev pub ends : ℕ → List ℕ → ℕ
ends q l = below (pack (source q) (action q + 1) 0) l

-- It ends with the list at the latest.
pub ends-inside : (q : ℕ) (l : List ℕ) → ends q l ≤ length l
ends-inside q l = count-le (λ r. ltb r (pack (source q) (action q + 1) 0)) l

module _ (l : List ℕ) (up : ascends 0 l ≡ true) where
  -- A move of the part stands in it.
  pub stands-in : (q i : ℕ) → i < length l → own_of (get_or l i 0) ≡ own_of q → (begins q l ≤ i) × (i < ends q l)
  stands-in q i h e =
      let f = first_of q in
      let g = past_of q in
      let a = (place-tells (pack (source q) (action q) 0) i l up h).1 (omega arith) in
      let b = (place-tells (pack (source q) (action q + 1) 0) i l up h).0 (omega arith) in (a, b)

  -- One that is not of it stands before it or after it.
  pub stands-out : (q i : ℕ) → i < length l → (own_of (get_or l i 0) ≡ own_of q → ⊥) → (i < begins q l) ⊎ (ends q l ≤ i)
  stands-out q i h n =
      let f = first_of q in
      let g = past_of q in
      elim (dec_lt (get_or l i 0) (1024 * (own_of q))) [
        | yes y ↦ inl ((place-tells (pack (source q) (action q) 0) i l up h).0 (omega arith))
        | no y ↦ elim (dec_lt (get_or l i 0) (1024 * (own_of q) + 1024)) [
          | yes v ↦ absurd (n (omega arith))
          | no v ↦ inr ((place-tells (pack (source q) (action q + 1) 0) i l up h).1 (omega arith))
        ]
      ]

module _ (f : ℕ → Bool) (l : List ℕ) (e : ℕ) (inside : e ≤ length l) where
  -- Where the entry d places further passes the test, some entry from i on does.
  any-near : (d i k : ℕ) → k ≡ i + d → k < e → f (get_or l k 0) ≡ true → any f (slice i e l) ≡ true
  any-near zero i k n h t = let u : k ≡ i = omega arith in any-hit f l i e (omega arith) inside (ap (λ (x : ℕ). f (get_or l x 0)) (sym u) ∙ t)
  any-near (suc d) i k n h t =
      let r = any-near d (i + 1) k (omega arith) h t in
      elim (tell true (f (get_or l i 0))) [
        | inl y ↦ any-hit f l i e (omega arith) inside y
        | inr y ↦ any-pass f l i e (omega arith) inside y ∙ r
      ]

  -- The same of an entry at any place of the part.
  pub any_at : (i k : ℕ) → i ≤ k → k < e → f (get_or l k 0) ≡ true → any f (slice i e l) ≡ true
  any_at i k h u t = any-near (k - i) i k (omega arith) u t

  -- Where none of the entries from i on passes it, of which there are at most d, none does.
  none-near : (d i : ℕ) → e ≤ i + d → ((k : ℕ) → i ≤ k → k < e → f (get_or l k 0) ≡ false) → any f (slice i e l) ≡ false
  none-near zero i h n = any-end f l i e (omega arith)
  none-near (suc d) i h n =
      elim (dec_lt i e) [
        | yes u ↦ any-pass f l i e u inside (n i (omega arith) u) ∙ none-near d (i + 1) (omega arith) (λ k a b. n k (omega arith) b)
        | no u ↦ any-end f l i e (omega arith)
      ]

  -- The same of however many.
  pub any_none : (i : ℕ) → ((k : ℕ) → i ≤ k → k < e → f (get_or l k 0) ≡ false) → any f (slice i e l) ≡ false
  any_none i n = none-near (e - i) i (omega arith) n
