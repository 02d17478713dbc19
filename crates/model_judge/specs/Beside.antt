-- A reading that asks its chains, beside one that does not: record by record both do the same, but after an equation with a
-- sign. Assumes nothing.
use Rattle.std.specs.Prelude.{◌≡◌, refl, Bool, true, false, cond, ◌&&◌, List, [], ◌∷◌, ◌++◌, ℕ, suc, ◌-◌, ◌*◌, eqb, length}
use Rattle.std.proofs.Common.{sym, ap, ◌∙◌, inl, inr, arith}
use Rattle.lists.specs.Lists.{some_below, lowest}
use Rattle.lists.specs.Tests.{tell, eqb_is}
use Rattle.rules.specs.Load.{Sofar, State, before, inside, started, sizes_of, sizes_demands, sign_of, ask_chains, label_demands, block_demands, equation_demands, signed_demands, move_demands, end_demands, live_demands, after_live, after_label, after_block, after_equation, after_signed, after_move, block_fits, settle_style, read_model, step, put, last}
use Rattle.rules.specs.Model.{Model, guilty}
use Rattle.rules.specs.declared.Equation.{Equation}
use Rattle.rules.specs.Moves.{pack}
use Rattle.rules.specs.Records.{Rec, field, Parts, ends, broken, part, Turn, no, back, next, over, demand, accepted, onto, at_end, on_turn, run, parts}
use Rattle.rules.specs.Rooms.{Lengths}
use Rattle.laws.specs.bytes.RecordLaws.{judged, un-onto, never}
use Rattle.model_judge.specs.Plain.{plain, with_signs, read_plain}
use Rattle.model_judge.specs.Turning.{Stops}

-- What a record does without chains, and with them, after the equations es.
pub data Beside (es : List Equation) (r : Rec) : Turn State → Turn State → Type 0 where
  refuses : {n : ℕ} → Beside es r (no n) (no n)
  closes : Beside es r over over
  goes : {y : Sofar} → (r.kind ≡ 11 → ⊥) → Beside es r (next (inside y)) (next (inside (with_signs es y)))
  asks : {y : Sofar} → r.kind ≡ 11 → Beside es r (next (inside y)) (ask_chains (with_signs (es ++ (sign_of r ∷ [])) y))

module _ (es : List Equation) (r : Rec) where
  by-demands : (ds : List (ℕ × Bool)) {t u : Turn State} → Beside es r t u → Beside es r (demand ds t) (demand ds u)
  by-demands [] b = b
  by-demands (d ∷ ds) b =
      elim (tell true d.1) [
        | inl e ↦ rw e (by-demands ds b)
        | inr e ↦ rw e refuses
      ]

  by_kind : (k : ℕ) {t t' u u' : Turn State} → (r.kind ≡ k → Beside es r t t') → Beside es r u u' → Beside es r (cond (eqb r.kind k) t u) (cond (eqb r.kind k) t' u')
  by_kind k f b =
      elim (tell true (eqb r.kind k)) [
        | inl e ↦ rw e (f ((eqb_is r.kind k).0 e))
        | inr e ↦ rw e b
      ]

-- One record.
pub beside : (l : Lengths) (es : List Equation) (x : Sofar) (r : Rec) → Beside es r (plain l (inside x) r) (step l (inside (with_signs es x)) r)
unfolding plain step block_fits
beside l es x r =
    by_kind es r 2 (λ e. by-demands es r (label_demands x (field r 0) (field r 1)) (goes {y = after_label x (field r 0)} (λ k. omega arith)))
    (by_kind es r 3 (λ e. by-demands es r (block_demands x (field r 0) (field r 1)) (goes {y = after_block x (field r 0) (field r 1)} (λ k. omega arith)))
    (by_kind es r 4 (λ e. by-demands es r (equation_demands x (field r 0) (field r 1) (field r 2)) (goes {y = after_equation x} (λ k. omega arith)))
    (by_kind es r 5 (λ e. by-demands es r (move_demands l x (field r 0) (field r 1) (field r 2)) (goes {y = after_move x (pack (field r 0) (field r 1) (field r 2))} (λ k. omega arith)))
    (by_kind es r 6 (λ e. by-demands es r (end_demands x) closes)
    (by_kind es r 10 (λ e. by-demands es r (live_demands x) (goes {y = after_live x} (λ k. omega arith)))
    (by_kind es r 11 (λ e. by-demands es r (signed_demands x (sign_of r)) (asks {y = with_signs [] (after_signed x (sign_of r))} e))
    refuses))))))

-- At the end record both come to the same.
end_same : (l : Lengths) (es : List Equation) (x : Sofar) (q : Parts) → at_end (plain l) put last (inside x) q ≡ at_end (step l) put last (inside (with_signs es x)) q
unfolding last
end_same l es x (ends k) = refl
end_same l es x (broken k) = refl
end_same l es x (part k r q) = refl

-- Where no record goes on, both come to the same.
pub stops_same : (l : Lengths) (es : List Equation) (x : Sofar) (q : Parts) → Stops l (inside x) q → run (plain l) put last (inside x) q ≡ run (step l) put last (inside (with_signs es x)) q
unfolding run
stops_same l es x (ends p) f = refl
stops_same l es x (broken p) f = refl
stops_same l es x (part p r q) f = by_turn (plain l (inside x) r) (step l (inside (with_signs es x)) r) refl (beside l es x r)
  where
    by_turn : (t u : Turn State) → plain l (inside x) r ≡ t → Beside es r t u
        → on_turn (plain l) put last (λ st'. run (plain l) put last st' q) (inside x) p r q t ≡ on_turn (step l) put last (λ st'. run (step l) put last st' q) (inside (with_signs es x)) p r q u
    by_turn t u e refuses = refl
    by_turn t u e closes = end_same l es x q
    by_turn t u e (goes {y = y} k) = absurd (f p r q (inside y) refl e)
    by_turn t u e (asks {y = y} k) = absurd (f p r q (inside y) refl e)

-- The same before the first record.
pub stops-before : (l : Lengths) (q : Parts) → Stops l before q → run (plain l) put last before q ≡ run (step l) put last before q
unfolding run plain step last
stops-before l (ends p) f = refl
stops-before l (broken p) f = refl
stops-before l (part p r q) f = by_turn (plain l before r) refl
  where
    at-end : (q : Parts) → at_end (plain l) put last before q ≡ at_end (step l) put last before q
    at-end (ends k) = refl
    at-end (broken k) = refl
    at-end (part k r q) = refl

    by_turn : (t : Turn State) → plain l before r ≡ t
        → on_turn (plain l) put last (λ st'. run (plain l) put last st' q) before p r q t ≡ on_turn (step l) put last (λ st'. run (step l) put last st' q) before p r q t
    by_turn (no n) e = refl
    by_turn (back n d) e = refl
    by_turn (next st') e = absurd (f p r q st' refl e)
    by_turn over e = at-end q

-- What the reading with chains accepts, the reading without accepts too, and says the same of it.
runs-plain : (l : Lengths) (es : List Equation) (x : Sofar) (q : Parts) (m : Model) → run (step l) put last (inside (with_signs es x)) q ≡ accepted m → run (plain l) put last (inside x) q ≡ accepted m
unfolding run put
runs-plain l es x (ends p) m e = absurd (never e)
runs-plain l es x (broken p) m e = absurd (never e)
runs-plain l es x (part p r q) m e = by_turn (λ fs y n. runs-plain l fs y q n) (plain l (inside x) r) (step l (inside (with_signs es x)) r) (beside l es x r) e
  where
    Rest : Type 0
    Rest = (fs : List Equation) (y : Sofar) (n : Model) → run (step l) put last (inside (with_signs fs y)) q ≡ accepted n → run (plain l) put last (inside y) q ≡ accepted n

    on : Rest → (fs : List Equation) (y : Sofar) → onto (put (inside x) r) (run (step l) put last (inside (with_signs fs y)) q) ≡ accepted m → onto (put (inside x) r) (run (plain l) put last (inside y) q) ≡ accepted m
    on rest fs y e =
        let d = un-onto (step l) put last (put (inside x) r) _ m e in
        ap (onto (put (inside x) r)) (rest fs y d.0 d.1) ∙ ap accepted (sym d.2)

    by_chain : Rest → (fs : List Equation) (y : Sofar) (b : Bool) (n d : ℕ)
        → on_turn (step l) put last (λ st'. run (step l) put last st' q) (inside (with_signs es x)) p r q (cond b (back n d) (next (inside (with_signs fs y)))) ≡ accepted m
        → onto (put (inside x) r) (run (plain l) put last (inside y) q) ≡ accepted m
    by_chain rest fs y true n d e = absurd (never e)
    by_chain rest fs y false n d e = on rest fs y e

    by_turn : Rest → (t u : Turn State) → Beside es r t u → on_turn (step l) put last (λ st'. run (step l) put last st' q) (inside (with_signs es x)) p r q u ≡ accepted m
        → on_turn (plain l) put last (λ st'. run (plain l) put last st' q) (inside x) p r q t ≡ accepted m
    by_turn rest t u refuses e = absurd (never e)
    by_turn rest t u closes e = end_same l es x q ∙ e
    by_turn rest t u (goes {y = y} k) e = on rest es y e
    by_turn rest t u (asks {y = y} k) e =
        let fs = es ++ (sign_of r ∷ []) in
        by_chain rest fs y (eqb y.blocks.equations y.sizes.variables && some_below (length fs) (guilty fs)) 5 (5 * (length fs - suc (lowest (length fs) (guilty fs)))) e

-- From the first record on.
first_plain : (l : Lengths) (q : Parts) (m : Model) → run (step l) put last before q ≡ accepted m → run (plain l) put last before q ≡ accepted m
unfolding run put plain step
first_plain l (ends p) m e = absurd (never e)
first_plain l (broken p) m e = absurd (never e)
first_plain l (part p r q) m e =
    elim (judged (sizes_demands l r) (next (inside (started (sizes_of r))))) [
      | inr k ↦ absurd (never (rw k.1 at e))
      | inl k ↦
          let d = un-onto (step l) put last (λ (n : Model). n) _ m (rw k.1 at e) in
          rw k.1 (ap (onto (λ (n : Model). n)) (runs-plain l [] (started (sizes_of r)) q d.0 d.1) ∙ ap accepted (sym d.2))
    ]

-- What is accepted is what is read without chains, with components put in where equations have signs.
pub plain-accepts : (l : Lengths) (s : List ℕ) (m : Model) → read_model l s ≡ accepted m → (n : Model) × (read_plain l s ≡ accepted n) × (m ≡ settle_style n)
unfolding read_model read_plain
plain-accepts l s m e =
    let d = un-onto (step l) put last settle_style _ m e in
    (d.0, first_plain l (parts s) d.0 d.1, d.2)
