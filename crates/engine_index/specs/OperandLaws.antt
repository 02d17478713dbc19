-- Chaining the operands, slot after slot. Assumes nothing.
use Rattle.std.specs.Prelude.{◌≡◌, Bool, not, ◌&&◌, List, length, get_or, set, eqb, ltb, leb}
use Rattle.std.proofs.Math.Path.{refl, sym}
use Rattle.std.proofs.Common.{ap, ◌∙◌, subst, inl, inr, not-suc-le-zero, le_of_suc-le-suc, eq-or-lt_of_le, length-set, get_or-set_same, get_or-set_other}
use Rattle.std.proofs.Math.Bool.{true, false, cond}
use Prim.Native.Nat.{ℕ, zero, suc, ◌+◌, ◌*◌, ◌/◌, ◌%◌, ◌≤◌, ◌<◌}
use Rattle.std.proofs.Math.Nat.{mul-le-mul}
use Rattle.std.proofs.Math.Decide.{ℕ_discrete}
use native.Mathlib.Omega.{arith}
use Rattle.lists.specs.Sums.{bit_le}
use Rattle.lists.specs.TableLaws.{listed-is}
use Rattle.lists.specs.Tests.{tell, not-not, and_is, and_left, eqb-in, eqb-out, eqb_no, ltb-is, ltb_no, leb-is}
use Rattle.rules.specs.declared.Equation.{Equation}
use Rattle.rules.specs.Session.{unword}
use Rattle.rules.specs.Limits.{most_states, most_actions, most_variables}
use Rattle.rules.specs.declared.Sizes.{Sizes}
use Rattle.engine_table.specs.Table.{Table, Drawn, ReadsAs}
use Rattle.engine_table.specs.Limits.{limits}
use Rattle.engine_table.specs.GivesWords.{join_names, step-names}
use Rattle.engine_index.specs.Chains.{last_to}
use Rattle.engine_index.specs.Operands.{operand_at, of_slot, is_slot, name_at, names_of, last_named, is_step, slot_word, link_of, word_before, put_first, Blank, NamedUpTo, Naming, Slot}

module _ (equations : List ℕ) where
  -- The name of a slot, in the list of all.
  pub name-at : (j : ℕ) → j < 2 * length equations → get_or (names_of equations) j 0 ≡ name_at equations j
  name-at j h = listed-is (2 * length equations) (name_at equations) j h

  last-hit : (x j : ℕ) → j < 2 * length equations → name_at equations j ≡ x → last_named equations x (suc j) ≡ suc j
  unfolding last_to
  last-hit x j h e = rw (eqb-in _ x (name-at j h ∙ e)) refl

  last-miss : (x j : ℕ) → j < 2 * length equations → (name_at equations j ≡ x → ⊥) → last_named equations x (suc j) ≡ last_named equations x j
  unfolding last_to
  last-miss x j h e = rw ((eqb_no _ x).1 (λ k. e (sym (name-at j h) ∙ k))) refl

  -- What a slot names: none where the equation does not have it, or its variable is of another block.
  module _ {slot x y : ℕ} {has : Bool} (s : Slot equations slot x y has) where
    names-by : (b : Bool) → has ≡ true → eqb (unword (get_or equations x 0)).block (unword (get_or equations y 0)).block ≡ b → name_at equations slot ≡ cond b x 256
    unfolding name_at
    names-by b h e =
        let f = sym h ∙ s.told in
        rw (sym f, sym s.names, sym s.owner, e) refl

    pub names-it : has ≡ true → (unword (get_or equations x 0)).block ≡ (unword (get_or equations y 0)).block → name_at equations slot ≡ x
    names-it h e = names-by true h (eqb-in _ _ e)

    pub names-other : has ≡ true → ((unword (get_or equations x 0)).block ≡ (unword (get_or equations y 0)).block → ⊥) → name_at equations slot ≡ 256
    names-other h e = names-by false h ((eqb_no _ _).1 e)

    pub names-none : has ≡ false → name_at equations slot ≡ 256
    unfolding name_at
    names-none h = let f = sym h ∙ s.told in rw (sym f) refl

  -- The slot of the first operand of a variable, by the numbers that were read out of its word.
  module _ (y o a b i k : ℕ) (r : ReadsAs (unword (get_or equations y 0)) o a b i k) (h : y < length equations) where
    pub first_slot : Slot equations (2 * y + 1) a y (leb 4 o && ltb o 6)
    first_slot =
        let f : (2 * y + 1) / 2 ≡ y = omega arith in
        let d : (2 * y + 1) % 2 ≡ 1 = omega arith in
        record {
          inside = omega arith;
          owner = omega arith;
          told = rw (d, f, sym r.is_operator) refl;
          names = rw (d, f) r.is_first;
        }

module _ (z : Sizes) (equations : List ℕ) where
  -- A slot that names a variable is of an equation that leans on others.
  pub slot-uses : Naming z equations → (j x : ℕ) → name_at equations j ≡ x → x < length equations → 4 ≤ (of_slot equations j).operator
  unfolding name_at
  slot-uses n j x e h = go (is_slot equations j) refl e
    where
      go : (b : Bool) → is_slot equations j ≡ b → cond b (operand_at (of_slot equations j) (j % 2)) 256 ≡ x → 4 ≤ (of_slot equations j).operator
      go true f k = (leb-is 4 (of_slot equations j).operator).0 (and_left _ _ (and_left _ _ f))
      go false f k = let b = n.few in absurd (omega arith)

  -- The word of a slot is not 0.
  pub word_some : (k : ℕ) → word_before z equations k ≡ 0 → k ≡ 0
  unfolding word_before slot_word
  word_some zero e = refl
  word_some (suc j) e = absurd (omega arith)

  -- Before all slots it is.
  word_none : word_before z equations 0 ≡ 0
  unfolding word_before
  word_none = refl

  -- So where the word of the slot before k is not 0, there is one.
  pub word-before : (k o : ℕ) → o ≡ word_before z equations k → 0 < o → 0 < k
  word-before zero o e h = absurd (omega (arith, word_none))
  word-before (suc k) o e h = omega arith

  -- Before the first slot nothing is named.
  pub named_none : (operand : List ℕ) → most_variables + 2 * length equations ≤ length operand → Blank (length equations) operand → NamedUpTo z equations 0 operand
  unfolding last_to word_before
  named_none operand room none = record { long = room; heads = none; slots = λ j h. absurd (not-suc-le-zero h) }

  -- The same count of slots, said otherwise.
  pub named-same : {k l : ℕ} {operand : List ℕ} → k ≡ l → NamedUpTo z equations k operand → NamedUpTo z equations l operand
  named-same {k} {l} {operand} e c = subst (λ (n : ℕ). NamedUpTo z equations n operand) e c

  -- A slot that names no variable changes nothing.
  pub named-skip : (k : ℕ) (operand : List ℕ) → k < 2 * length equations → length equations ≤ name_at equations k
      → NamedUpTo z equations k operand → NamedUpTo z equations (suc k) operand
  named-skip k operand h past c = record {
    long = c.long;
    heads = λ x l. c.heads x l ∙ ap (word_before z equations) (sym (last-miss equations x k h (λ e. absurd (omega arith))));
    slots = λ j l i. elim (eq-or-lt_of_le (le_of_suc-le-suc l)) [
      | inl e ↦ absurd (let f = ap (name_at equations) e in omega arith)
      | inr e ↦ c.slots j e i
    ];
  }

  -- A slot that names the variable x comes first in its chain, and the word that was first goes to the slot's place if there was one.
  named_put : Naming z equations → (k x : ℕ) (operand after : List ℕ) → k < 2 * length equations → name_at equations k ≡ x → x < length equations
      → length after ≡ length operand → get_or after x 0 ≡ word_before z equations (suc k)
      → ((last_named equations x k ≡ 0 → ⊥) → get_or after (most_variables + k) 0 ≡ get_or operand x 0)
      → ((i : ℕ) → (i ≡ x → ⊥) → (i ≡ most_variables + k → ⊥) → get_or after i 0 ≡ get_or operand i 0)
      → NamedUpTo z equations k operand → NamedUpTo z equations (suc k) after
  named_put n k x operand after h e i long first old others c = record {
    long = let m = c.long in omega arith;
    heads = λ y l. elim (ℕ_discrete x y) [
      | yes f ↦ subst (λ (v : ℕ). get_or after v 0 ≡ word_before z equations (last_named equations v (suc k))) f (first ∙ ap (word_before z equations) (sym (last-hit equations x k h e)))
      | no f ↦
          let few = n.few in
          others y (λ g. f (sym g)) (λ g. absurd (omega arith)) ∙ c.heads y l ∙ ap (word_before z equations) (sym (last-miss equations y k h (λ g. f (sym e ∙ g))))
    ];
    slots = λ j l m some. elim (eq-or-lt_of_le (le_of_suc-le-suc l)) [
      | inl f ↦
          let g : name_at equations j ≡ x = ap (name_at equations) f ∙ e in
          let last : last_named equations (name_at equations j) j ≡ last_named equations x k = ap (λ (v : ℕ). last_named equations v j) g ∙ ap (last_named equations x) f in
          ap (λ (v : ℕ). get_or after (most_variables + v) 0) f ∙ old (λ none. some (last ∙ none)) ∙ c.heads x i ∙ ap (word_before z equations) (sym last)
      | inr f ↦ let few = n.few in others (most_variables + j) (λ g. absurd (omega arith)) (λ g. absurd (omega arith)) ∙ c.slots j f m some
    ];
  }

  -- The link of a slot, by whether a slot before it names the same variable.
  link-none : (k x : ℕ) → name_at equations k ≡ x → last_named equations x k ≡ 0 → link_of equations k ≡ 0
  link-none k x e f = rw (e, f) refl

  link-some : (k x : ℕ) → name_at equations k ≡ x → (last_named equations x k ≡ 0 → ⊥) → link_of equations k ≡ most_variables + k
  link-some k x e f = rw (e, (eqb_no (last_named equations x k) 0).1 f) refl

  -- The word of a slot with its link.
  word-linked : (k link w : ℕ) → w ≡ slot_word z (of_slot equations k) (k / 2) 0 → link_of equations k ≡ link → w + link ≡ word_before z equations (suc k)
  unfolding word_before slot_word
  word-linked k link w e f = omega arith

  -- Putting the word first does so.
  pub slot-first : Naming z equations → (k x w : ℕ) (operand : List ℕ) → k < 2 * length equations → name_at equations k ≡ x → x < length equations
      → w ≡ slot_word z (of_slot equations k) (k / 2) 0 → NamedUpTo z equations k operand → NamedUpTo z equations (suc k) (put_first x k w operand)
  unfolding put_first
  slot-first n k x w operand h e i is c = go (eqb (get_or operand x 0) 0) refl
    where
      place : ℕ
      place = most_variables + k

      apart : x ≡ place → ⊥
      apart g = let few = n.few in absurd (omega arith)

      go : (b : Bool) → eqb (get_or operand x 0) 0 ≡ b
          → NamedUpTo z equations (suc k) (cond b (set operand x w) (set (set operand place (get_or operand x 0)) x (w + place)))
      go true f =
          let none : last_named equations x k ≡ 0 = word_some (last_named equations x k) (sym (c.heads x i) ∙ eqb-out _ _ f) in
          let l = c.long in
          let few = n.few in
          named_put n k x operand (set operand x w) h e i (length-set operand x w)
          (get_or-set_same operand x w 0 (omega arith) ∙ let v = word-linked k 0 w is (link-none k x e none) in let p : w ≡ w + 0 = omega arith in p ∙ v)
          (λ some. absurd (some none))
          (λ j a b. get_or-set_other operand x j w 0 a)
          c
      go false f =
          let some : last_named equations x k ≡ 0 → ⊥ = λ g. (eqb_no (get_or operand x 0) 0).0 f (c.heads x i ∙ ap (word_before z equations) g ∙ word_none) in
          let l = c.long in
          let few = n.few in
          let r = set operand place (get_or operand x 0) in
          let m = length-set operand place (get_or operand x 0) in
          named_put n k x operand (set r x (w + place)) h e i (length-set r x (w + place) ∙ m)
          (get_or-set_same r x (w + place) 0 (omega arith) ∙ word-linked k place w is (link-some k x e some))
          (λ s. get_or-set_other r x place (w + place) 0 (λ g. apart (sym g)) ∙ get_or-set_same operand place (get_or operand x 0) 0 (omega arith))
          (λ j a b. get_or-set_other r x j (w + place) 0 a ∙ get_or-set_other operand place j (get_or operand x 0) 0 b)
          c

  -- A slot, by what is known of it.
  module _ {slot x y : ℕ} {has : Bool} (s : Slot equations slot x y has) (n : Naming z equations) where
    -- The slot's variable is one where the equation has it.
    pub slot-inside : has ≡ true → x < length equations
    slot-inside h =
        let k = n.inside slot s.inside (sym s.told ∙ h) in
        let e = s.names in
        omega arith

    -- The word leaves room for the link.
    pub word_low : (w : ℕ) → w ≡ slot_word z (unword (get_or equations y 0)) y 0 → w + 511 < 18446744073709551616
    unfolding slot_word
    word_low w e =
        let i = s.inside in
        let o = s.owner in
        let f = n.few in
        let row : y * z.states ≤ most_variables * most_states = mul-le-mul {n₂ = most_variables} {m₂ = most_states} (omega arith) n.states in
        let heads = heads-low (is_step (unword (get_or equations y 0))) refl in
        let b = bit_le (is_step (unword (get_or equations y 0))) in
        omega arith
      where
        heads-low : (b : Bool) → is_step (unword (get_or equations y 0)) ≡ b → cond b ((unword (get_or equations y 0)).first * z.states) 0 ≤ most_actions * most_states
        heads-low true t =
            let i = s.inside in
            let o = s.owner in
            let a = n.actions y (omega arith) t in
            mul-le-mul {n₂ = most_actions} {m₂ = most_states} (omega arith) n.states
        heads-low false t = omega arith

    -- The slot is put in, or left out.
    pub slot-put : (w : ℕ) (operand : List ℕ) → has ≡ true → (unword (get_or equations x 0)).block ≡ (unword (get_or equations y 0)).block
        → w ≡ slot_word z (unword (get_or equations y 0)) y 0 → NamedUpTo z equations slot operand → NamedUpTo z equations (suc slot) (put_first x slot w operand)
    slot-put w operand h e is c =
        slot-first n slot x w operand s.inside (names-it equations s h e) (slot-inside h)
        (is ∙ ap (λ (v : ℕ). slot_word z (unword (get_or equations v 0)) v 0) s.owner) c

    pub slot-left : (operand : List ℕ) → name_at equations slot ≡ 256 → NamedUpTo z equations slot operand → NamedUpTo z equations (suc slot) operand
    slot-left operand e c = let f = n.few in named-skip slot operand s.inside (omega arith) c

-- The equations of a model inside the limits use variables.
pub drawn-names : {t : Table} → Drawn t → Naming t.sizes t.equations
drawn-names {t} d = record {
  few = let b = limits d in let l = d.long_equations in omega arith;
  states = (limits d).0.1;
  actions = λ y h step.
      let l = d.long_equations in
      let k = limits d in
      let a = steps y (omega arith) step in
      omega arith;
  inside = λ j h has. let l = d.long_equations in let y : j / 2 < t.sizes.variables = omega arith in let k = below j y (eqb (j % 2) 1) has in omega arith;
}
  where
    read_as : (e : Equation) → ReadsAs e e.operator e.first e.second e.block e.kind
    read_as e = record { is_operator = refl; is_first = refl; is_second = refl; is_block = refl; is_kind = refl }

    steps : (y : ℕ) → y < t.sizes.variables → is_step (unword (get_or t.equations y 0)) ≡ true → (unword (get_or t.equations y 0)).first < t.sizes.actions
    steps y h step =
        let e = unword (get_or t.equations y 0) in
        let k = limits d in
        let six = (ltb_no e.operator 6).0 (sym (not-not (ltb e.operator 6)) ∙ ap not step) in
        (step-names d y 0 h (omega arith) e.operator e.first e.second e.block e.kind (read_as e) six).0

    below : (j : ℕ) → j / 2 < t.sizes.variables → (b : Bool) → (leb 4 (of_slot t.equations j).operator && cond b (ltb (of_slot t.equations j).operator 6) true) ≡ true
        → cond b (of_slot t.equations j).first (of_slot t.equations j).second < t.sizes.variables
    below j y b h = go b (simp and_is at h)
      where
        e : Equation
        e = of_slot t.equations j

        go : (b : Bool) → (leb 4 e.operator ≡ true) × (cond b (ltb e.operator 6) true ≡ true) → cond b e.first e.second < t.sizes.variables
        go true f =
            let k = limits d in
            (join_names d (j / 2) 0 y (omega arith) e.operator e.first e.second e.block e.kind (read_as e) ((leb-is 4 e.operator).0 f.0) ((ltb-is e.operator 6).0 f.1)).0
        go false f =
            let k = limits d in
            let low = (leb-is 4 e.operator).0 f.0 in
            elim (tell true (ltb e.operator 6)) [
              | inl g ↦ (join_names d (j / 2) 0 y (omega arith) e.operator e.first e.second e.block e.kind (read_as e) low ((ltb-is e.operator 6).0 g)).1
              | inr g ↦ (step-names d (j / 2) 0 y (omega arith) e.operator e.first e.second e.block e.kind (read_as e) ((ltb_no e.operator 6).0 g)).1.1
            ]
