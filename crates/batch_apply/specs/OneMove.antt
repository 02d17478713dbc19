-- One move taken out of the room, and one put in, whatever stands behind the moves. Assumes nothing.
use Rattle.std.specs.Prelude.{◌≡◌, refl, true, false, List, [], ◌∷◌, ◌++◌, ℕ, suc, ◌+◌, ◌-◌, ◌≤◌, ◌<◌, length, take, drop, set, eqb, ltb}
use Rattle.std.proofs.Common.{sym, ap, ◌∙◌, subst, inl, inr, append_assoc, arith, length-append, take_at, drop_at}
use Rattle.std.proofs.lemmas.Bool.{false≢true}
use Rattle.std.proofs.lemmas.List.{set_at}
use Rattle.lists.specs.Lists.{elem}
use Rattle.lists.specs.Tests.{tell, and_is, leb-is, eqb_is, eqb_no, ltb-is, ltb_no, or-other, or_no}
use Rattle.rules.specs.Batch.{remove, insert}
use Rattle.moves.specs.Ascending.{ascends, leading}
use Rattle.batch_apply.specs.Kept.{kept, pulled, pushed, pulled_in, pushed_in, removed_from, inserted_into}

-- Where a move stands in a list, and the list without it.
pub record Found (p : ℕ) (l : List ℕ) : Type 0 where
  pub front : List ℕ
  pub back : List ℕ
  pub whole : l ≡ front ++ p ∷ back
  pub place : leading p l ≡ length front
  pub without : remove p l ≡ front ++ back

-- Where a move belongs in a list, and the list with it.
pub record Due (p : ℕ) (l : List ℕ) : Type 0 where
  pub front : List ℕ
  pub back : List ℕ
  pub whole : l ≡ front ++ back
  pub place : leading p l ≡ length front
  pub with_it : insert p l ≡ front ++ p ∷ back

-- A move below all others is not there.
absent : (p n : ℕ) (l : List ℕ) → ascends n l ≡ true → p < n → remove p l ≡ l
absent p n [] h k = refl
absent p n (q ∷ l) h k =
    let f = simp and_is at h in
    let g = (leb-is n q).0 f.0 in
    let e = (eqb_no p q).1 (λ y. omega arith) in
    rw e (ap (λ (x : List ℕ). q ∷ x) (absent p (suc q) l f.1 (omega arith)))

-- A move that is there is not below the first.
pub above : (p n : ℕ) (l : List ℕ) → ascends n l ≡ true → elem p l ≡ true → n ≤ p
above p n [] h e = absurd (false≢true e)
above p n (q ∷ l) h e =
    let f = simp and_is at h in
    let g = (leb-is n q).0 f.0 in
    elim (tell true (eqb p q)) [
      | inl t ↦ let y = (eqb_is p q).0 t in omega arith
      | inr t ↦ let y = above p (suc q) l f.1 (or-other (eqb p q) (elem p l) e t) in omega arith
    ]

-- Found behind a smaller move.
found-behind : (p q : ℕ) (l : List ℕ) → eqb p q ≡ false → q < p → Found p l → Found p (q ∷ l)
found-behind p q l t y r =
    let u = (ltb-is q p).1 y in
    record {
      front = q ∷ r.front;
      back = r.back;
      whole = ap (λ (x : List ℕ). q ∷ x) r.whole;
      place = rw u (ap suc r.place);
      without = rw t (ap (λ (x : List ℕ). q ∷ x) r.without);
    }

-- A move of an ascending list is found at its place.
pub found : (p n : ℕ) (l : List ℕ) → ascends n l ≡ true → elem p l ≡ true → Found p l
found p n [] h e = absurd (false≢true e)
found p n (q ∷ l) h e =
    let f = simp and_is at h in
    elim (tell true (eqb p q)) [
      | inl t ↦
          let y = (eqb_is p q).0 t in
          let u = (ltb_no q p).1 (omega arith) in
          record {
            front = [];
            back = l;
            whole = ap (λ (x : ℕ). x ∷ l) (sym y);
            place = rw u refl;
            without = rw t (absent p (suc q) l f.1 (omega arith));
          }
      | inr t ↦
          let o = or-other (eqb p q) (elem p l) e t in
          found-behind p q l t (above p (suc q) l f.1 o) (found p (suc q) l f.1 o)
    ]

-- Due behind a smaller move.
due-behind : (p q : ℕ) (l : List ℕ) → ltb p q ≡ false → q < p → Due p l → Due p (q ∷ l)
due-behind p q l t y r =
    let u = (ltb-is q p).1 y in
    record {
      front = q ∷ r.front;
      back = r.back;
      whole = ap (λ (x : List ℕ). q ∷ x) r.whole;
      place = rw u (ap suc r.place);
      with_it = rw t (ap (λ (x : List ℕ). q ∷ x) r.with_it);
    }

-- A move that is not in the list belongs at one place of it.
pub due : (p : ℕ) (l : List ℕ) → elem p l ≡ false → Due p l
due p [] e = record { front = []; back = []; whole = refl; place = refl; with_it = refl }
due p (q ∷ l) e =
    let d = (or_no (eqb p q) (elem p l)).0 e in
    let ne = (eqb_no p q).0 d.0 in
    elim (tell true (ltb p q)) [
      | inl t ↦
          let y = (ltb-is p q).0 t in
          let u = (ltb_no q p).1 (omega arith) in
          record { front = []; back = q ∷ l; whole = refl; place = rw u refl; with_it = rw t refl }
      | inr t ↦ let y = (ltb_no p q).0 t in due-behind p q l t (omega arith) (due p l d.1)
    ]

-- Shifts over a whole part of a list.
last_of : ℕ → List ℕ → ℕ
last_of q [] = q
last_of q (r ∷ y) = last_of r y

-- The entries behind the first take its place.
pulled-all : (q : ℕ) (y rest : List ℕ) → pulled (length y) (q ∷ y ++ rest) ≡ y ++ last_of q y ∷ rest
unfolding last_of
pulled-all q [] rest = refl
pulled-all q (r ∷ y) rest = ap (λ (x : List ℕ). r ∷ x) (pulled-all r y rest)

-- The entries make room for one more.
pushed-all : (p r : ℕ) (y rest : List ℕ) → pushed (suc (length y)) p (y ++ r ∷ rest) ≡ p ∷ y ++ rest
pushed-all p r [] rest = refl
pushed-all p r (q ∷ y) rest = ap (λ (x : List ℕ). p ∷ x) (pushed-all q r y rest)

-- A move taken out between the two parts of a list, whatever stands behind.
out-between : (p : ℕ) (x y rest : List ℕ) → leading p (x ++ p ∷ y) ≡ length x
    → removed_from p (kept ((x ++ p ∷ y) ++ rest) (length (x ++ p ∷ y))) ≡ kept ((x ++ y) ++ 0 ∷ rest) (length (x ++ y))
unfolding removed_from pulled_in
out-between p x y rest h =
    let n = length (x ++ p ∷ y) in
    let s = length-append x (p ∷ y) in
    let s' = length-append x y in
    let lt : length x < n = omega arith in
    let d : n - 1 - length x ≡ length y = omega arith in
    let last : n - 1 ≡ length (x ++ y) = omega arith in
    let m : set (take (length x) ((x ++ p ∷ y) ++ rest) ++ pulled (n - 1 - length x) (drop (length x) ((x ++ p ∷ y) ++ rest))) (n - 1) 0 ≡ (x ++ y) ++ 0 ∷ rest =
    rw (append_assoc x (p ∷ y) rest, take_at x (p ∷ y ++ rest) (length x) refl, drop_at x (p ∷ y ++ rest) (length x) refl, d, pulled-all p y rest, ← append_assoc x y (last_of p y ∷ rest))
    (set_at (x ++ y) (last_of p y) rest 0 (n - 1) (sym last)) in
    rw (take_at (x ++ p ∷ y) rest n refl, h, (ltb-is (length x) n).1 lt) (λ i. record { moves = m i; count = last i })

-- A move put in between them.
in_between : (p r : ℕ) (x y rest : List ℕ) → leading p (x ++ y) ≡ length x
    → inserted_into p (kept ((x ++ y) ++ r ∷ rest) (length (x ++ y))) ≡ kept ((x ++ p ∷ y) ++ rest) (length (x ++ p ∷ y))
unfolding inserted_into pushed_in
in_between p r x y rest h =
    let n = length (x ++ y) in
    let s = length-append x y in
    let s' = length-append x (p ∷ y) in
    let t = length-append (x ++ y) (r ∷ rest) in
    let lt : n < length ((x ++ y) ++ r ∷ rest) = omega arith in
    let d : n + 1 - length x ≡ suc (length y) = omega arith in
    let more : n + 1 ≡ length (x ++ p ∷ y) = omega arith in
    let m : take (length x) ((x ++ y) ++ r ∷ rest) ++ pushed (n + 1 - length x) p (drop (length x) ((x ++ y) ++ r ∷ rest)) ≡ (x ++ p ∷ y) ++ rest =
    rw (append_assoc x y (r ∷ rest), take_at x (y ++ r ∷ rest) (length x) refl, drop_at x (y ++ r ∷ rest) (length x) refl, d, pushed-all p r y rest) (sym (append_assoc x (p ∷ y) rest)) in
    rw (take_at (x ++ y) (r ∷ rest) n refl, h, (ltb-is n (length ((x ++ y) ++ r ∷ rest))).1 lt) (λ i. record { moves = m i; count = more i })

-- A move taken out of a list in front of anything else.
pub taken_out : (p : ℕ) (l rest : List ℕ) → Found p l
    → removed_from p (kept (l ++ rest) (length l)) ≡ kept (remove p l ++ 0 ∷ rest) (length (remove p l))
taken_out p l rest f =
    rw f.without (subst (λ (k : List ℕ). leading p k ≡ length f.front → removed_from p (kept (k ++ rest) (length k))
    ≡ kept ((f.front ++ f.back) ++ 0 ∷ rest) (length (f.front ++ f.back))) (sym f.whole) (out-between p f.front f.back rest) f.place)

-- A move put into a list in front of anything else.
pub put_in : (p r : ℕ) (l rest : List ℕ) → Due p l
    → inserted_into p (kept (l ++ r ∷ rest) (length l)) ≡ kept (insert p l ++ rest) (length (insert p l))
put_in p r l rest f =
    rw f.with_it (subst (λ (k : List ℕ). leading p k ≡ length f.front → inserted_into p (kept (k ++ r ∷ rest) (length k))
    ≡ kept ((f.front ++ p ∷ f.back) ++ rest) (length (f.front ++ p ∷ f.back))) (sym f.whole) (in_between p r f.front f.back rest) f.place)

-- The list is one shorter, and one longer.
pub out-length : (p : ℕ) (l : List ℕ) → Found p l → suc (length (remove p l)) ≡ length l
out-length p l f =
    let a = ap length f.whole ∙ length-append f.front (p ∷ f.back) in
    let b = ap length f.without ∙ length-append f.front f.back in omega arith

pub in-length : (p : ℕ) (l : List ℕ) → Due p l → length (insert p l) ≡ suc (length l)
in-length p l f =
    let a = ap length f.whole ∙ length-append f.front f.back in
    let b = ap length f.with_it ∙ length-append f.front (p ∷ f.back) in omega arith
