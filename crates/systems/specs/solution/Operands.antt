-- What an equation gives, by a value b: an operator that is b (and for true, or for false) gives b where all of its
-- operands have b; the other operator gives b where one of them has.
-- Assumes nothing.
use Rattle.std.specs.Prelude.{◌≡◌, refl, ◌⊎◌, Bool, true, false, not, List, [], ◌∷◌, ℕ}
use Rattle.std.proofs.Common.{sym, ap, ◌∙◌, inl, inr, true≢false}
use Rattle.std.proofs.lemmas.Bool.{false≢true}
use mathlib.Core.List.Memᴰ
use Rattle.lists.specs.Tests.{◌∈◌, tell, clash, never, not-not}
use Rattle.systems.specs.solution.System.{Values, op, ev}

-- Two operands.
both_left : (b x y : Bool) → op b x y ≡ b → x ≡ b
both_left true true y e = refl
both_left true false y e = e
both_left false true y e = e
both_left false false y e = refl

both_right : (b x y : Bool) → op b x y ≡ b → y ≡ b
both_right true true y e = e
both_right true false y e = absurd (false≢true e)
both_right false true y e = absurd (true≢false e)
both_right false false y e = e

both : (b x y : Bool) → x ≡ b → y ≡ b → op b x y ≡ b
both true true y e f = f
both true false y e f = e
both false true y e f = e
both false false y e f = f

either_left : (b x y : Bool) → x ≡ b → op (not b) x y ≡ b
either_left true true y e = refl
either_left true false y e = absurd (false≢true e)
either_left false true y e = absurd (true≢false e)
either_left false false y e = refl

either-right : (b x y : Bool) → y ≡ b → op (not b) x y ≡ b
either-right true true y e = refl
either-right true false y e = e
either-right false true y e = e
either-right false false y e = refl

either : (b x y : Bool) → op (not b) x y ≡ b → (x ≡ b) ⊎ (y ≡ b)
either true true y e = inl refl
either true false y e = inr e
either false true y e = inr e
either false false y e = inl refl

-- Where the operator b gives b, each operand has b.
pub all-out : (b : Bool) (v : Values) {q : ℕ} {l : List ℕ} → q ∈ l → ev b v l ≡ b → v q ≡ b
unfolding ev
all-out b v (Memᴰ.head {x = x} {xs = l} e) h = ap v e ∙ both_left b (v x) (ev b v l) h
all-out b v (Memᴰ.tail {x = x} {xs = l} m) h = all-out b v m (both_right b (v x) (ev b v l) h)

-- Where each operand has b, the operator b gives b.
pub all_in : (b : Bool) (v : Values) (l : List ℕ) → ((q : ℕ) → q ∈ l → v q ≡ b) → ev b v l ≡ b
unfolding ev
all_in b v [] f = refl
all_in b v (q ∷ l) f = both b (v q) (ev b v l) (f q (Memᴰ.head refl)) (all_in b v l (λ r m. f r (Memᴰ.tail m)))

-- Where one operand has b, the other operator gives b.
pub one_in : (b : Bool) (v : Values) {q : ℕ} {l : List ℕ} → q ∈ l → v q ≡ b → ev (not b) v l ≡ b
unfolding ev
one_in b v (Memᴰ.head {x = x} {xs = l} e) h = either_left b (v x) (ev (not b) v l) (ap v (sym e) ∙ h)
one_in b v (Memᴰ.tail {x = x} {xs = l} m) h = either-right b (v x) (ev (not b) v l) (one_in b v m h)

-- Where the other operator gives b, one operand has b.
pub one_out : (b : Bool) (v : Values) (l : List ℕ) → ev (not b) v l ≡ b → (q : ℕ) × q ∈ l × (v q ≡ b)
unfolding ev
one_out b v [] e = absurd (never b e)
one_out b v (q ∷ l) e =
    elim (either b (v q) (ev (not b) v l) e) [
      | inl h ↦ (q, Memᴰ.head refl, h)
      | inr h ↦ let t = one_out b v l h in (t.0, Memᴰ.tail t.1, t.2)
    ]

-- Where an operator gives b by v and not by u, an operand has b in v and not in u.
pub ev-differ : (k b : Bool) (v u : Values) (l : List ℕ) → ev k v l ≡ b → ev k u l ≡ not b → (q : ℕ) × q ∈ l × (v q ≡ b) × (u q ≡ not b)
ev-differ k b v u l e f = go (tell b k)
  where
    go : (k ≡ b) ⊎ (k ≡ not b) → (q : ℕ) × q ∈ l × (v q ≡ b) × (u q ≡ not b)
    go (inl h) =
        let t = one_out (not b) u l (rw not-not (rw h at f)) in
        (t.0, t.1, all-out b v t.1 (rw h at e), t.2)
    go (inr h) =
        let t = one_out b v l (rw h at e) in
        (t.0, t.1, t.2, all-out (not b) u t.1 (rw h at f))

-- With b at more operands an operator that gave b still gives it.
pub ev-mono : (k b : Bool) (v u : Values) (l : List ℕ) → ((q : ℕ) → q ∈ l → v q ≡ b → u q ≡ b) → ev k v l ≡ b → ev k u l ≡ b
ev-mono k b v u l f e =
    elim (tell b (ev k u l)) [
      | inl h ↦ h
      | inr h ↦ let t = ev-differ k b v u l e h in absurd (clash b (u t.0) (f t.0 t.1 t.2) t.3)
    ]
