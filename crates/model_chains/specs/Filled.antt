-- A room that is filled up to a place: the entries below it are given, and the others are as they were. Assumes nothing.
use Rattle.std.specs.Prelude.{◌≡◌, refl, cond, List, [], ◌∷◌, ℕ, suc, ◌+◌, ◌≤◌, ◌<◌, length, get_or, set, ltb}
use Rattle.std.proofs.Common.{sym, ap, ap₂, ◌∙◌, subst, inl, inr, eq-or-lt_of_le, arith, length-set, get_or-set_same, get_or-set_other}
use Rattle.std.proofs.Math.Decide.{dec_lt}
use Rattle.std.proofs.Math.ListN.{get_or-eq_default}
use Rattle.lists.specs.Tests.{ltb-in, ltb_no, cond_yes, cond_no}

-- The first k entries of a room are f's, and the others are as they were in room₀.
pub record Filled (f : ℕ → ℕ) (room₀ : List ℕ) (k : ℕ) (room : List ℕ) : Type 0 where
  pub size : length room ≡ length room₀
  pub words : (x : ℕ) → get_or room x 0 ≡ cond (ltb x k) (f x) (get_or room₀ x 0)

module _ (f : ℕ → ℕ) (room₀ : List ℕ) where
  -- An entry below the place, and any other; and the two together.
  pub filled-below : {k : ℕ} {room : List ℕ} → Filled f room₀ k room → (x : ℕ) → x < k → get_or room x 0 ≡ f x
  filled-below {k} d x h = d.words x ∙ cond_yes (f x) (get_or room₀ x 0) (ltb-in x k h)

  pub filled-past : {k : ℕ} {room : List ℕ} → Filled f room₀ k room → (x : ℕ) → k ≤ x → get_or room x 0 ≡ get_or room₀ x 0
  filled-past {k} d x h = d.words x ∙ cond_no (f x) (get_or room₀ x 0) ((ltb_no x k).1 h)

  filled-by : {k : ℕ} {room : List ℕ} → length room ≡ length room₀ → ((x : ℕ) → x < k → get_or room x 0 ≡ f x)
      → ((x : ℕ) → k ≤ x → get_or room x 0 ≡ get_or room₀ x 0) → Filled f room₀ k room
  filled-by {k} e below past = record {
    size = e;
    words = λ x. elim (dec_lt x k) [
      | yes h ↦ below x h ∙ sym (cond_yes (f x) (get_or room₀ x 0) (ltb-in x k h))
      | no h ↦ let l : k ≤ x = omega arith in past x l ∙ sym (cond_no (f x) (get_or room₀ x 0) ((ltb_no x k).1 l))
    ];
  }

  -- A loop that fills a room: it begins, goes on, and ends.
  pub filled_none : Filled f room₀ 0 room₀
  filled_none = filled-by refl (λ x h. absurd (omega arith)) (λ x h. refl)

  pub filled_next : (k : ℕ) (room last : List ℕ) (v : ℕ) → Filled f room₀ k room → k < length room₀ → v ≡ f k → last ≡ set room k v → Filled f room₀ (k + 1) last
  filled_next k room last v d l e s =
      subst (Filled f room₀ (k + 1)) (sym s) (filled-by (length-set room k v ∙ d.size)
      (λ x h. elim (let q : x ≤ k = omega arith in eq-or-lt_of_le q) [
        | inl q ↦ ap (λ (y : ℕ). get_or (set room k v) y 0) q ∙ get_or-set_same room k v 0 (let z = d.size in omega arith) ∙ e ∙ ap f (sym q)
        | inr q ↦ get_or-set_other room k x v 0 (λ z. omega arith) ∙ filled-below d x q
      ])
      (λ x h. get_or-set_other room k x v 0 (λ z. omega arith) ∙ filled-past d x (omega arith)))

  pub filled-end : (k n : ℕ) (room : List ℕ) → Filled f room₀ k room → k ≡ n → Filled f room₀ n room
  filled-end k n room d e = subst (λ (j : ℕ). Filled f room₀ j room) e d

-- Rooms of one length with the same entries are the same.
pub same_entries : (u v : List ℕ) → length u ≡ length v → ((x : ℕ) → get_or u x 0 ≡ get_or v x 0) → u ≡ v
same_entries [] [] h f = refl
same_entries [] (y ∷ v) h f = absurd (omega arith)
same_entries (x ∷ u) [] h f = absurd (omega arith)
same_entries (x ∷ u) (y ∷ v) h f = ap₂ (λ (a : ℕ) (t : List ℕ). a ∷ t) (f 0) (same_entries u v (omega arith) (λ i. f (suc i)))

-- A room that is filled to its end is the list of its new entries.
pub filled-whole : (f : ℕ → ℕ) (room₀ new room : List ℕ) → length new ≡ length room₀ → Filled f room₀ (length room₀) room → ((x : ℕ) → x < length room₀ → f x ≡ get_or new x 0) → room ≡ new
filled-whole f room₀ new room h d e =
    same_entries room new (d.size ∙ sym h) (λ x. elim (dec_lt x (length room₀)) [
      | yes l ↦ filled-below f room₀ d x l ∙ e x l
      | no l ↦ get_or-eq_default room 0 (let s = d.size in omega arith) ∙ sym (get_or-eq_default new 0 (omega arith))
    ])
