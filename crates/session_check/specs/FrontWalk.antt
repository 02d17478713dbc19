-- What is asked of each entry of a room, one after the other. Assumes nothing.
use Rattle.std.specs.Prelude.{◌≡◌, Bool, true, ◌&&◌, List, ◌∷◌, ℕ, ◌+◌, ◌^◌, ◌≤◌, ◌<◌, length, get_or, drop, ltb}
use Rattle.std.proofs.Common.{sym, ap, ◌∙◌, inl, inr, add-one, arith, pow_pos, drop_of_length-le, drop-cons}
use Rattle.std.proofs.Math.Bool.{and_assoc}
use Rattle.std.specs.Int.Bits.{bit_or, or_add_and}
use Rattle.std.proofs.lemmas.Nat.{or_lt, and_le_l, and_le_r}
use Rattle.lists.specs.Lists.{all}
use Rattle.lists.specs.Tests.{tell, and-true, ltb-is, ltb_no}
use Rattle.rules.specs.Model.{label_ok}
use Rattle.rules.specs.declared.Sizes.{Sizes}

-- What is left from place i on is the entry there, and what is left after it.
pub left-more : {A : Type 0} (l : List A) (i : ℕ) (d : A) → i < length l → drop i l ≡ get_or l i d ∷ drop (i + 1) l
left-more l i d h = rw add-one (drop-cons l i d h)

module _ (f : ℕ → Bool) (l : List ℕ) (i : ℕ) where
  -- What was found before and what is asked from i on: the entry at i goes over to what was found.
  pub all-turn : (ok here whole : Bool) → here ≡ f (get_or l i 0) → i < length l → (ok && all f (drop i l)) ≡ whole → (ok && here && all f (drop (i + 1) l)) ≡ whole
  all-turn ok here whole r h w =
      and_assoc ok here (all f (drop (i + 1) l))
      ∙ ap (λ (x : Bool). ok && (x && all f (drop (i + 1) l))) r
      ∙ ap (λ (x : List ℕ). ok && all f x) (sym (left-more l i 0 h)) ∙ w

  -- At the end nothing is asked.
  pub all-over : (ok : Bool) → length l ≤ i → (ok && all f (drop i l)) ≡ ok
  all-over ok h = rw (drop_of_length-le l h) (and-true ok)

-- No set, and two sets together: the highest proposition of both lies below the count just where that of each does.
pub label-none : (z : Sizes) → label_ok z 0 ≡ true
unfolding label_ok
label-none z = (ltb-is 0 (2 ^ z.propositions)).1 (pow_pos z.propositions)

pub label-both : (z : Sizes) (a b : ℕ) → label_ok z (bit_or a b) ≡ (label_ok z a && label_ok z b)
unfolding label_ok
label-both z a b =
    let m = 2 ^ z.propositions in
    let s = or_add_and a b in
    let x = and_le_l a b in
    let y = and_le_r a b in
    elim (tell true (ltb a m)) [
      | inl t ↦
          elim (tell true (ltb b m)) [
            | inl u ↦ rw (t, u) ((ltb-is (bit_or a b) m).1 (or_lt z.propositions a b ((ltb-is a m).0 t) ((ltb-is b m).0 u)))
            | inr u ↦ let k = (ltb_no b m).0 u in rw (t, u) ((ltb_no (bit_or a b) m).1 (omega arith))
          ]
      | inr t ↦ let k = (ltb_no a m).0 t in rw t ((ltb_no (bit_or a b) m).1 (omega arith))
    ]
