-- What the word of an operand holds. Assumes nothing.
use Rattle.std.specs.Prelude.{◌≡◌, Bool, not, cond, ◌&&◌, List, [], ◌∷◌, ℕ, zero, suc, ◌+◌, ◌*◌, ◌/◌, ◌≤◌, ◌<◌, length, get_or, eqb, ltb}
use Rattle.std.proofs.Math.Path.{refl, ap, subst}
use Rattle.std.proofs.Common.{sym, ◌∙◌, arith}
use Rattle.std.proofs.Math.Bool.{true, false}
use Rattle.std.proofs.Math.Decide.{ℕ_discrete}
use Rattle.lists.specs.Lists.{bit}
use Rattle.lists.specs.Tests.{not-not, ltb_no, eqb-out, eqb_no}
use Rattle.rules.specs.Limits.{most_variables}
use Rattle.rules.specs.declared.Equation.{Equation}
use Rattle.words.specs.Words.{waiting_of}
use Rattle.engine_table.specs.Table.{ReadsAs}
use Rattle.engine_table.specs.Limits.{limits}
use Rattle.engine_index.specs.Indexed.{heads_of}
use Rattle.engine_index.specs.MovesIndexed.{key-inside}
use Rattle.engine_index.specs.ChainWalks.{last-le}
use Rattle.engine_index.specs.Operands.{of_slot, name_at, names_of, last_named, is_step, easy_bit, slot_word, link_in, step_in, easy_in, owner_in, heads_in, link_of, word_before, Named}
use Rattle.engine_index.specs.OperandLaws.{slot-uses, drawn-names}
use Rattle.engine_index.specs.WordParts.{Parts, slot-parts}
use Rattle.engine_turn.specs.Scene.{Scene, Standing, equation_of, sources_in, pairs_by, Leaner, Along, Leans, HeadOf, OperandOf}
use Rattle.engine_table.specs.Sketch.{sketch}
use Rattle.engine_turn.specs.Inside.{step-inside}

module _ {c : Scene} {o : ℕ} (g : Standing c) (p : OperandOf c o) where
  abbrev y : ℕ
  y = owner_in o

  abbrev e : Equation
  e = equation_of c y

  of_word : Parts o (link_in o) (is_step e) (easy_bit e) y (y * c.sizes.states) (cond (is_step e) (e.first * c.sizes.states) 0)
  of_word =
      subst (λ (n : ℕ). Parts n (link_in o) (is_step e) (easy_bit e) y (y * c.sizes.states) (cond (is_step e) (e.first * c.sizes.states) 0)) (sym p.word)
      (slot-parts c.sizes e y (link_in o) (limits g.drawn).0.1 (omega arith) (omega arith))

  -- The operand's variable leans on others, and the word says what a visit needs.
  pub operand-leans : (ph : Bool) → Leans c ph (ph && easy_in o) o
  operand-leans ph = record {
    variable = p.variable;
    uses = p.uses;
    told = ap (λ (b : Bool). ph && b) of_word.is_easy;
    row = of_word.is_row;
    waits = of_word.is_waits;
  }

  is-so : (b : Bool) → step_in o ≡ b → is_step e ≡ b
  is-so b h = sym of_word.is_step ∙ h

  -- A join visits one pair, a step the pairs at the sources of a chain.
  pub pairs-join : (s : ℕ) → step_in o ≡ false → pairs_by c.sizes c.equations c.moves s y ≡ waiting_of y s ∷ []
  unfolding pairs_by
  pairs-join s h = rw (is-so false h) refl

  heads-are : step_in o ≡ true → heads_in o ≡ e.first * c.sizes.states
  heads-are h = of_word.is_heads ∙ ap (λ (b : Bool). cond b (e.first * c.sizes.states) 0) (is-so true h)

  pub pairs-step : (s head : ℕ) → step_in o ≡ true → head ≡ heads_in o + s
      → pairs_by c.sizes c.equations c.moves s y ≡ sources_in c.sizes c.moves y head
  unfolding pairs_by
  pairs-step s head h is = rw (is-so true h, is, heads-are h) refl

  -- A join has no moves, and the head of a step is that of its action.
  pub join-along : (s j : ℕ) → step_in o ≡ false → Along c false y s j
  join-along s j h = record { told = sym (is-so false h); own = λ t. let k = ap bit t in absurd (omega arith) }

  pub step-head : (s : ℕ) → s < c.sizes.states → step_in o ≡ true → (head : ℕ) → head ≡ heads_in o + s → HeadOf c y head
  step-head s l h head is = record { step = is-so true h; into = s; low = l; is = is ∙ ap (λ (n : ℕ). n + s) (heads-are h) }

  -- Its head is inside.
  pub head-inside : (s : ℕ) → s < c.sizes.states → step_in o ≡ true → (head : ℕ) → head ≡ heads_in o + s → head < heads_of c.sizes
  head-inside s l h head is =
      let six = (ltb_no e.operator 6).0 (sym (not-not (ltb e.operator 6)) ∙ ap not (is-so true h)) in
      let leaner : Leaner c y s = record { variable = p.variable; state = l; uses = p.uses } in
      let read : ReadsAs e e.operator e.first e.second e.block e.kind = record { is_operator = refl; is_first = refl; is_second = refl; is_block = refl; is_kind = refl } in
      let k = step-inside g leaner e.operator e.first e.second e.block e.kind read six in
      subst (λ (n : ℕ). n < heads_of c.sizes) (sym (is ∙ ap (λ (n : ℕ). n + s) (heads-are h))) (key-inside c.sizes e.first s k.0 l)

-- The words of a chain: that of the slot before k, where the last of the first k slots that names x is the one before k.
module _ {c : Scene} (g : Standing c) where
  few : length c.equations ≤ most_variables
  few = (drawn-names g.drawn).few

  link-low : (j : ℕ) → j < 2 * length c.equations → link_of c.equations j < 256
  link-low j h = go (eqb (last_named c.equations (name_at c.equations j) j) 0)
    where
      go : (b : Bool) → cond b 0 (most_variables + j) < 256
      go true = omega arith
      go false = let f = few in omega arith

  word_read : (j : ℕ) → j < 2 * length c.equations
      → Parts (word_before c.sizes c.equations (suc j)) (link_of c.equations j) (is_step (of_slot c.equations j)) (easy_bit (of_slot c.equations j))
      (j / 2) (j / 2 * c.sizes.states) (cond (is_step (of_slot c.equations j)) ((of_slot c.equations j).first * c.sizes.states) 0)
  unfolding word_before
  word_read j h = let f = few in slot-parts c.sizes (of_slot c.equations j) (j / 2) (link_of c.equations j) (limits g.drawn).0.1 (omega arith) (link-low j h)

  word_none : word_before c.sizes c.equations 0 ≡ 0
  unfolding word_before
  word_none = refl

  -- The link of the word of a slot before j is lower than the place of the slot j.
  word-falls : (k j : ℕ) → k ≤ j → j < 2 * length c.equations → link_in (word_before c.sizes c.equations k) < most_variables + j
  word-falls zero j h l = let n = ap (λ (w : ℕ). link_in w) word_none in omega arith
  word-falls (suc i) j h l = let d = (word_read i (omega arith)).is_link in let n = low (eqb (last_named c.equations (name_at c.equations i) i) 0) in omega arith
    where
      low : (b : Bool) → cond b 0 (most_variables + i) ≤ most_variables + i
      low true = omega arith
      low false = omega arith

  module _ {operand : List ℕ} (d : Named (sketch c.sizes c.equations c.moves) operand)
      (x j o : ℕ) (h : j < 2 * length c.equations) (is : name_at c.equations j ≡ x) (l : x < length c.equations) (w : o ≡ word_before c.sizes c.equations (suc j)) where
    read : Parts o (link_of c.equations j) (is_step (of_slot c.equations j)) (easy_bit (of_slot c.equations j))
        (j / 2) (j / 2 * c.sizes.states) (cond (is_step (of_slot c.equations j)) ((of_slot c.equations j).first * c.sizes.states) 0)
    read =
        subst (λ (n : ℕ). Parts n (link_of c.equations j) (is_step (of_slot c.equations j)) (easy_bit (of_slot c.equations j))
        (j / 2) (j / 2 * c.sizes.states) (cond (is_step (of_slot c.equations j)) ((of_slot c.equations j).first * c.sizes.states) 0)) (sym w) (word_read j h)

    -- The word is that of an operand of the slot's variable.
    pub slot-owner : owner_in o ≡ j / 2
    slot-owner = read.is_owner

    pub slot-operand : OperandOf c o
    unfolding word_before
    slot-operand = record {
      variable = let e = slot-owner in let k = g.drawn.long_equations in omega arith;
      uses = subst (λ (v : ℕ). 4 ≤ (equation_of c v).operator) (sym slot-owner) (slot-uses c.sizes c.equations (drawn-names g.drawn) j x is l);
      word = w ∙ ap (λ (v : ℕ). slot_word c.sizes (equation_of c v) v (link_of c.equations j)) (sym slot-owner)
          ∙ ap (slot_word c.sizes (equation_of c (owner_in o)) (owner_in o)) (sym read.is_link);
    }

    -- Where the link is 0, no slot before it names x; else it is the slot's own place.
    last-is : last_named c.equations (name_at c.equations j) j ≡ last_named c.equations x j
    last-is = ap (λ (v : ℕ). last_named c.equations v j) is

    pub slot-last : link_in o ≡ 0 → last_named c.equations x j ≡ 0
    slot-last e = go (eqb (last_named c.equations (name_at c.equations j) j) 0) refl (sym read.is_link ∙ e)
      where
        go : (b : Bool) → eqb (last_named c.equations (name_at c.equations j) j) 0 ≡ b → cond b 0 (most_variables + j) ≡ 0 → last_named c.equations x j ≡ 0
        go true f k = sym last-is ∙ eqb-out _ 0 f
        go false f k = absurd (omega arith)

    module _ (some : link_in o ≡ 0 → ⊥) where
      place_is : (link_in o ≡ most_variables + j) × (last_named c.equations (name_at c.equations j) j ≡ 0 → ⊥)
      place_is = go (eqb (last_named c.equations (name_at c.equations j) j) 0) refl read.is_link
        where
          go : (b : Bool) → eqb (last_named c.equations (name_at c.equations j) j) 0 ≡ b → link_in o ≡ cond b 0 (most_variables + j)
              → (link_in o ≡ most_variables + j) × (last_named c.equations (name_at c.equations j) j ≡ 0 → ⊥)
          go true f k = absurd (some k)
          go false f k = (k, (eqb_no (last_named c.equations (name_at c.equations j) j) 0).0 f)

      -- There the word of the last slot before it that names x stands, and its link is lower.
      pub slot-inside : link_in o < length operand
      slot-inside = let e = place_is.0 in let m = d.long in omega arith

      pub slot-before : 0 < last_named c.equations x j
      slot-before = elim (ℕ_discrete (last_named c.equations x j) 0) [ yes e ↦ absurd (place_is.1 (last-is ∙ e)) | no e ↦ omega arith ]

      pub slot_next : get_or operand (link_in o) 0 ≡ word_before c.sizes c.equations (last_named c.equations x j)
      slot_next =
          ap (λ (i : ℕ). get_or operand i 0) place_is.0 ∙ d.slots j h (let k = is in omega arith) place_is.1
          ∙ ap (word_before c.sizes c.equations) last-is

      pub slot-falls : link_in (get_or operand (link_in o) 0) < link_in o
      slot-falls =
          let low = last-le (λ w. w) (names_of c.equations) x j in
          let less = word-falls (last_named c.equations x j) j (omega arith) h in
          let e = ap (λ (w : ℕ). link_in w) slot_next in
          let f = place_is.0 in
          omega arith
