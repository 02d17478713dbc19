-- What is asked of each entry of a list, or counted over them, in the words that the rules have for the numbers below n: entry k passes
-- the one test where k passes the other. Assumes nothing.
use Rattle.std.specs.Prelude.{◌≡◌, refl, Bool, true, cond, ◌&&◌, ◌||◌, List, ℕ, zero, suc, ◌+◌, ◌≤◌, ◌<◌, length, get_or, take, filter, ltb, Option, Some, None}
use Rattle.std.specs.Option.{unwrap_or}
use Rattle.std.specs.List.{range_with_len, list_any, list_all, count_by, position_or_len}
use Rattle.std.proofs.Common.{sym, ap, ap₂, ◌∙◌, add-zero, add-one, zero-add, arith, inl, inr}
use Rattle.std.proofs.lemmas.List.{take_all}
use Rattle.std.proofs.lemmas.List.Folds.{list_any_more, list_all_more}
use Rattle.std.proofs.lemmas.List.Sums.{count_by_more_yes, count_by_more_no, count_by-le-length, length-filter, position_or_len_is}
use Rattle.std.proofs.lemmas.List.FromFn.{length-range_with_len, get_or-range_with_len}
use Rattle.lists.specs.Lists.{bit, sum, some_below, each_below, lowest}
use Rattle.lists.specs.Ranges.{some-no, lowest-some, lowest-none, lowest-found}
use Rattle.lists.specs.Tests.{tell, no_way, cond_yes, cond_no}

module _ {X : Type 0} (p : X → Bool) (f : ℕ → Bool) (d : X) (xs : List X) where
  -- Over the first i entries.
  pub any_front : (i : ℕ) → i ≤ length xs → ((k : ℕ) → k < i → p (get_or xs k d) ≡ f k) → list_any p (take i xs) ≡ some_below i f
  any_front zero h e = refl
  any_front (suc i) h e =
      ap (λ (k : ℕ). list_any p (take k xs)) (sym (add-one i)) ∙ list_any_more p xs i d (omega arith)
      ∙ ap₂ (λ (x y : Bool). x || y) (any_front i (omega arith) (λ k l. e k (omega arith))) (e i (omega arith))

  all_front : (i : ℕ) → i ≤ length xs → ((k : ℕ) → k < i → p (get_or xs k d) ≡ f k) → list_all p (take i xs) ≡ each_below i f
  all_front zero h e = refl
  all_front (suc i) h e =
      ap (λ (k : ℕ). list_all p (take k xs)) (sym (add-one i)) ∙ list_all_more p xs i d (omega arith)
      ∙ ap₂ (λ (x y : Bool). x && y) (all_front i (omega arith) (λ k l. e k (omega arith))) (e i (omega arith))

  count_front : (i : ℕ) → i ≤ length xs → ((k : ℕ) → k < i → p (get_or xs k d) ≡ f k) → count_by p (take i xs) ≡ sum i (λ k. bit (f k))
  count_front zero h e = refl
  count_front (suc i) h e =
      let before : count_by p (take i xs) ≡ sum i (λ k. bit (f k)) = count_front i (omega arith) (λ k l. e k (omega arith)) in
      let here : p (get_or xs i d) ≡ f i = e i (omega arith) in
      let one : count_by p (take (i + 1) xs) ≡ count_by p (take i xs) + bit (f i) =
      elim (tell true (f i)) [
        | inl t ↦ rw t (count_by_more_yes p xs i d (omega arith) (here ∙ t))
        | inr t ↦ rw (t, add-zero) (count_by_more_no p xs i d (omega arith) (here ∙ t))
      ] in
      ap (λ (k : ℕ). count_by p (take k xs)) (sym (add-one i)) ∙ one ∙ ap (λ (k : ℕ). k + bit (f i)) before

  -- Over all of them.
  pub any-entries : (n : ℕ) → length xs ≡ n → ((k : ℕ) → k < n → p (get_or xs k d) ≡ f k) → list_any p xs ≡ some_below n f
  any-entries n long e = ap (list_any p) (sym (take_all n xs (omega arith))) ∙ any_front n (omega arith) e

  pub all-entries : (n : ℕ) → length xs ≡ n → ((k : ℕ) → k < n → p (get_or xs k d) ≡ f k) → list_all p xs ≡ each_below n f
  all-entries n long e = ap (list_all p) (sym (take_all n xs (omega arith))) ∙ all_front n (omega arith) e

  pub count-entries : (n : ℕ) → length xs ≡ n → ((k : ℕ) → k < n → p (get_or xs k d) ≡ f k) → count_by p xs ≡ sum n (λ k. bit (f k))
  count-entries n long e = ap (count_by p) (sym (take_all n xs (omega arith))) ∙ count_front n (omega arith) e

-- The same of the numbers below n themselves.
module _ (p f : ℕ → Bool) (n : ℕ) (same : (k : ℕ) → k < n → p k ≡ f k) where
  numbered : (k : ℕ) → k < n → p (get_or (range_with_len 0 n) k 0) ≡ f k
  numbered k h = ap p (get_or-range_with_len 0 n k 0 h ∙ zero-add k) ∙ same k h

  pub any-below : list_any p (range_with_len 0 n) ≡ some_below n f
  any-below = any-entries p f 0 (range_with_len 0 n) n (length-range_with_len 0 n) numbered

  pub all-below : list_all p (range_with_len 0 n) ≡ each_below n f
  all-below = all-entries p f 0 (range_with_len 0 n) n (length-range_with_len 0 n) numbered

  pub count-below : length (filter p (range_with_len 0 n)) ≡ sum n (λ k. bit (f k))
  count-below = length-filter p (range_with_len 0 n) ∙ count-entries p f 0 (range_with_len 0 n) n (length-range_with_len 0 n) numbered

  -- The first that passes.
  first-below : position_or_len p (range_with_len 0 n) ≡ lowest n f
  first-below =
      let long = length-range_with_len 0 n in
      elim (tell true (some_below n f)) [
        | inl t ↦
            let low = lowest-some n f t in
            let below : lowest n f < n = low.below in
            position_or_len_is p (range_with_len 0 n) (lowest n f) 0 (omega arith)
            (λ k h. numbered k (omega arith) ∙ no_way (f k) (λ u. let l : lowest n f ≤ k = low.first k u in omega arith))
            (λ h. numbered (lowest n f) below ∙ low.passes)
        | inr t ↦
            let e : lowest n f ≡ n = lowest-none n f t in
            position_or_len_is p (range_with_len 0 n) (lowest n f) 0 (omega arith)
            (λ k h. numbered k (omega arith) ∙ some-no n f t k (omega arith))
            (λ h. absurd (omega arith))
      ]

  -- And n where none does.
  pub first-or : (o : Option ℕ) → o ≡ cond (ltb (position_or_len p (range_with_len 0 n)) (length (range_with_len 0 n))) (Some (position_or_len p (range_with_len 0 n))) None
      → unwrap_or o n ≡ lowest n f
  first-or o e =
      let found : o ≡ cond (some_below n f) (Some (lowest n f)) None =
      e ∙ ap₂ (λ (i j : ℕ). cond (ltb i j) (Some i) None) first-below (length-range_with_len 0 n)
      ∙ ap (λ (b : Bool). cond b (Some (lowest n f)) None) (lowest-found n f) in
      elim (tell true (some_below n f)) [
        | inl t ↦ ap (λ (q : Option ℕ). unwrap_or q n) (found ∙ cond_yes (Some (lowest n f)) None t)
        | inr t ↦ ap (λ (q : Option ℕ). unwrap_or q n) (found ∙ cond_no (Some (lowest n f)) None t) ∙ sym (lowest-none n f t)
      ]

-- No more pass than there are.
pub count-most : (p : ℕ → Bool) (n : ℕ) → length (filter p (range_with_len 0 n)) ≤ n
count-most p n =
    let a = length-filter p (range_with_len 0 n) in
    let b = count_by-le-length p (range_with_len 0 n) in
    let c = length-range_with_len 0 n in
    omega arith
