-- Rounds on sets of bits: what each variable leads to. After one round more than there are variables it is what the rules say, and
-- so it is after a round that changes nothing. Assumes nothing.
use Rattle.std.specs.Prelude.{◌≡◌, cond, ◌&&◌, ◌||◌, List, get_or, take, set, replicate, ltb}
use Rattle.std.proofs.Math.Path.{refl, sym, ap₂}
use Rattle.std.proofs.Common.{ap, ◌∙◌, subst, add-one, arith}
use Rattle.std.proofs.Math.Logic.{inl, inr}
use Rattle.std.proofs.Math.Bool.{Bool, true, false}
use Prim.Native.Nat.{ℕ, zero, suc, ◌+◌, ◌-◌, ◌^◌, ◌≤◌, ◌<◌}
use Rattle.std.proofs.Math.Decide.{dec_lt}
use Rattle.std.specs.Int.Bits.{bit_or}
use Rattle.std.proofs.Math.ListN.{length, get_or-eq_default}
use Rattle.std.proofs.Math.Seq.{get_or-take, length-take-le}
use Rattle.std.proofs.Math.Dec.{eqb}
use Rattle.lists.specs.Lists.{any, mask}
use Rattle.lists.specs.Smallest.{at, rounds, smallest}
use Rattle.lists.specs.Tests.{tell, or-false, ltb-in, ltb_no}
use Rattle.lists.specs.Entries.{zeros-at}
use Rattle.lists.specs.TableLaws.{table_at, table-past}
use Rattle.lists.specs.Masks.{mask-or, mask_one, mask-none, mask-same}
use Rattle.rules.specs.Limits.{most_variables}
use Rattle.rules.specs.Chains.{lead_rule, leads, reach}
use Rattle.rules.specs.Model.{equation_in, names_in}
use Rattle.rules.specs.declared.Equation.{Equation}
use Rattle.model_chains.specs.Filled.{Filled, filled-below, filled-past, filled_next}

-- One set of the next round: x itself, and all that is in the sets of those that its equation names.
unfoldable pub row_of : List ℕ → Equation → ℕ → ℕ
row_of old e x =
    cond (ltb e.operator 4) (2 ^ x)
    (cond (ltb e.operator 6) (bit_or (bit_or (2 ^ x) (get_or old e.first 0)) (get_or old e.second 0))
    (bit_or (2 ^ x) (get_or old e.second 0)))

-- An equation that names none, two, or one, from what code has in hand.
pub row-none : (old : List ℕ) (e : Equation) (x own : ℕ) → e.operator < 4 → own ≡ 2 ^ x → own ≡ row_of old e x
unfolding row_of
row-none old e x own h o = let t = ltb-in e.operator 4 h in rw t o

pub row-two : (old : List ℕ) (e : Equation) (x own first second : ℕ) → 4 ≤ e.operator → e.operator < 6 → own ≡ 2 ^ x → first ≡ get_or old e.first 0
    → second ≡ get_or old e.second 0 → bit_or (bit_or own first) second ≡ row_of old e x
unfolding row_of
row-two old e x own first second h k o f g =
    let t = (ltb_no e.operator 4).1 h in
    let u = ltb-in e.operator 6 k in
    rw (t, u) (ap₂ bit_or (ap₂ bit_or o f) g)

pub row_one : (old : List ℕ) (e : Equation) (x own second : ℕ) → 6 ≤ e.operator → own ≡ 2 ^ x → second ≡ get_or old e.second 0 → bit_or own second ≡ row_of old e x
unfolding row_of
row_one old e x own second h o g =
    let t = (ltb_no e.operator 4).1 (omega arith) in
    let u = (ltb_no e.operator 6).1 h in
    rw (t, u) (ap₂ bit_or o g)

-- The sets below k are those of the next round; the others are as they were.
abbrev pub Round : List Equation → List ℕ → List ℕ → ℕ → List ℕ → Type 0
Round es old new₀ k new = Filled (λ x. row_of old (equation_in es x) x) new₀ k new

-- Each variable has the set of those that it leads to, and what lies past them has none.
pub record Reaches (es : List Equation) (l : List ℕ) : Type 0 where
  pub sets : (x : ℕ) → get_or l x 0 ≡ reach (length es) (names_in es) x

-- One set more, from what code has in hand.
pub round-next : (es : List Equation) (old new₀ new last : List ℕ) (x : ℕ) (e : Equation) (v : ℕ) → Round es old new₀ x new → x < length new₀ → e ≡ equation_in es x
    → v ≡ row_of old e x → last ≡ set new x v → Round es old new₀ (x + 1) last
round-next es old new₀ new last x e v r l q f g =
    filled_next (λ y. row_of old (equation_in es y) y) new₀ x new last v r l (f ∙ ap (λ (d : Equation). row_of old d x) q) g

-- What is asked of x by the rule that tells what leads to y, and x leads to y as far as k rounds tell.
abbrev toward : List Equation → ℕ → (ℕ → Bool) → ℕ → Bool
toward es y = lead_rule (length es) (names_in es) y

abbrev pub after : List Equation → ℕ → ℕ → ℕ → Bool
after es k x y = at (rounds (length es) (toward es y) k) x

-- The sets after k rounds.
pub record Rounded (es : List Equation) (k : ℕ) (l : List ℕ) : Type 0 where
  pub size : length l ≡ most_variables
  pub sets : (x : ℕ) → get_or l x 0 ≡ mask (length es) (λ y. after es k x y)

-- No sets at all.
abbrev none : List ℕ
none = replicate most_variables 0

module _ (es : List Equation) where
  -- Past the last variable there is nothing; below it a round more follows each name.
  after-past : (k x y : ℕ) → length es ≤ x → after es k x y ≡ false
  after-past zero x y h = refl
  after-past (suc k) x y h = table-past (length es) (toward es y (at (rounds (length es) (toward es y) k))) x h

  after-suc : (k x y : ℕ) → x < length es → after es (suc k) x y ≡ (eqb x y || any (λ z. after es k z y) (names_in es x))
  after-suc k x y h =
      table_at (length es) (toward es y (at (rounds (length es) (toward es y) k))) x h
      ∙ ap (λ (c : Bool). c && (eqb x y || any (λ z. after es k z y) (names_in es x))) (ltb-in x (length es) h)

  -- One set of the next round has what its variable names leads to, and itself.
  row_is : (k : ℕ) (l : List ℕ) → Rounded es k l → (x : ℕ) → x < length es → row_of l (equation_in es x) x ≡ mask (length es) (λ y. after es (suc k) x y)
  unfolding row_of
  row_is k l d x h =
      let n = length es in
      let e = equation_in es x in
      let first : ℕ → Bool = λ y. after es k e.first y in
      let second : ℕ → Bool = λ y. after es k e.second y in
      let next : ℕ → Bool = λ y. after es (suc k) x y in
      let own = sym (mask_one n x h) in
      let r = d.sets in
      elim (tell true (ltb e.operator 4)) [
        | inl t ↦ rw t (own ∙ mask-same n (eqb x) next (λ y q. sym (after-suc k x y h ∙ rw t (or-false (eqb x y)))))
        | inr t ↦ elim (tell true (ltb e.operator 6)) [
          | inl u ↦ rw (t, u) (
              ap₂ bit_or (ap₂ bit_or own (r e.first) ∙ mask-or n (eqb x) first) (r e.second)
              ∙ mask-or n (λ y. eqb x y || first y) second
              ∙ mask-same n (λ y. (eqb x y || first y) || second y) next
              (λ y q. sym (after-suc k x y h ∙ rw (t, u) (or-two (eqb x y) (first y) (second y)))))
          | inr u ↦ rw (t, u) (
              ap₂ bit_or own (r e.second) ∙ mask-or n (eqb x) second
              ∙ mask-same n (λ y. eqb x y || second y) next (λ y q. sym (after-suc k x y h ∙ rw (t, u) (or-one (eqb x y) (second y)))))
        ]
      ]
    where
      or-one : (a b : Bool) → (a || (b || false)) ≡ (a || b)
      or-one true b = refl
      or-one false b = or-false b

      or-two : (a b c : Bool) → (a || (b || (c || false))) ≡ ((a || b) || c)
      or-two true b c = refl
      or-two false true c = refl
      or-two false false c = or-false c

  -- The sets at the start, and after one round more.
  pub rounded-none : Rounded es 0 none
  rounded-none = record { size = refl; sets = λ x. zeros-at most_variables x ∙ sym (mask-none (length es) (λ y. false) (λ p q. refl)) }

  rounded-next : (k : ℕ) (old new : List ℕ) → Rounded es k old → Round es old none (length es) new → Rounded es (k + 1) new
  rounded-next k old new r d = subst (λ (j : ℕ). Rounded es j new) (sym (add-one k)) (record {
    size = d.size;
    sets = λ x. elim (dec_lt x (length es)) [
      | yes h ↦ filled-below (λ y. row_of old (equation_in es y) y) none d x h ∙ row_is k old r x h
      | no h ↦ filled-past (λ y. row_of old (equation_in es y) y) none d x (omega arith) ∙ zeros-at most_variables x
          ∙ sym (mask-none (length es) (λ y. after es (suc k) x y) (λ y q. after-past (suc k) x y (omega arith)))
    ];
  })

  -- Sets that a round leaves as they are stand for any number of rounds more.
  rounded-stays : (j k : ℕ) (l : List ℕ) → Round es l none (length es) l → Rounded es k l → Rounded es (j + k) l
  rounded-stays zero k l d r = subst (λ (i : ℕ). Rounded es i l) (omega arith) r
  rounded-stays (suc j) k l d r = subst (λ (i : ℕ). Rounded es i l) (omega arith) (rounded-next (j + k) l l (rounded-stays j k l d r) d)

  -- A round more, from what code has in hand: n is the number of equations.
  pub rounded-more : (n k : ℕ) (old new : List ℕ) → n ≡ length es → Rounded es k old → Round es old none n new → Rounded es (k + 1) new
  rounded-more n k old new c r d = rounded-next k old new r (subst (λ (m : ℕ). Round es old none m new) c d)

  -- After the last round it is what each variable leads to.
  pub rounded-reaches : (k : ℕ) (l : List ℕ) → Rounded es k l → k ≡ suc (length es) → Reaches es l
  unfolding reach leads smallest
  rounded-reaches k l r e = record { sets = (subst (λ (j : ℕ). Rounded es j l) e r).sets }

  -- And where a round has changed none, no more are needed.
  pub rounded-same : (n k : ℕ) (old new : List ℕ) → n ≡ length es → k ≤ n → Rounded es k old → Round es old none n new → new ≡ old → Reaches es old
  rounded-same n k old new c h r d e =
      let still : Round es old none (length es) old = subst (λ (l : List ℕ). Round es old none (length es) l) e (subst (λ (m : ℕ). Round es old none m new) c d) in
      rounded-reaches (suc (length es) - k + k) old (rounded-stays (suc (length es) - k) k old still r) (omega arith)

  -- So it is in the first n sets, where n is the number of equations.
  pub reaches-cut : (n : ℕ) (l : List ℕ) → n ≡ length es → n ≤ length l → Reaches es l → Reaches es (take n l)
  unfolding reach leads smallest
  reaches-cut n l e long r = record {
    sets = λ x. elim (dec_lt x n) [
      | yes h ↦ get_or-take n l x 0 h ∙ r.sets x
      | no h ↦ get_or-eq_default (take n l) 0 (let c = length-take-le n l long in omega arith)
          ∙ sym (mask-none (length es) (λ y. after es (suc (length es)) x y) (λ y q. after-past (suc (length es)) x y (omega arith)))
    ];
  }
