-- What seeds a pair, by the operator in its variable's word. Assumes nothing.
use Rattle.std.specs.Prelude.{◌≡◌, refl, Bool, cond, ◌&&◌, ◌||◌}
use Rattle.std.proofs.Common.{sym, ◌∙◌, inl, inr, arith}
use Rattle.std.proofs.Math.Path.{ap, fun_ext}
use Rattle.std.proofs.Math.Bool.{true, false, not}
use mathlib.Core.List.{List}
use Prim.Native.Nat.{ℕ, ◌+◌, ◌*◌, ◌/◌, ◌%◌, ◌≤◌, ◌<◌}
use Rattle.std.proofs.Math.ListN.{get_or}
use Rattle.std.proofs.Math.Dec.{eqb, ltb}
use Rattle.lists.specs.Lists.{is, any}
use Rattle.lists.specs.Sets.{none}
use Rattle.lists.specs.Tests.{tests, tell, and_no, or-false, eqb_same, ltb-is, ltb_no}
use Rattle.systems.specs.machine.Machine as machine
use Rattle.systems.specs.lists.ListMachine.{marks_in}
use Rattle.rules.specs.Moves.{source, action, target}
use Rattle.rules.specs.Model.{Model}
use Rattle.rules.specs.Batch.{Change, changes_ok, inserts, deletes}
use Rattle.rules.specs.Calls.{value_at}
use Rattle.rules.specs.Values.{Values, Term, constant, step, state, state_of, variable, terms, term_at, block_of, own, leanings_by, leanings}
use Rattle.rules.specs.Update.{gains, loses, went, shifts}
use Rattle.rules.specs.declared.State.{State}
use Rattle.rules.specs.declared.Action.{Action}
use Rattle.laws.specs.model.ModelSystem.{frame, leanings-at}
use Rattle.laws.specs.model.LookTest.{look_test}
use Rattle.words.specs.Words.{changes_of}
use Rattle.engine_table.specs.Table.{Table, model_of, Drawn, ReadsAs, word_at, own_in, pair_in}
use Rattle.engine_table.specs.EquationWords.{drawn-sound, block-word, own-word, pair_inside, state-of}
use Rattle.engine_table.specs.GivesWords.{two, term-read, operator-below, join_names, step-names}
use Rattle.engine_rows.specs.Rooms.{Bits, Told}
use Rattle.engine_shift.specs.Anys.{any-alike, any-once, targets-in, changes-in, targets-any, inserts-any, deletes-any}
use Rattle.engine_shift.specs.Seeds.{gone_to, was_not, touches, touches_at, earlier_in, leads_gone, join_seeds, step_seeds}
use Rattle.engine_shift.specs.Olds.{old_in, went-is, was-is}

-- What makes a pair turn, where its old value is x and where it leans on a pair that went (y).
abbrev seed_of : Model → List Change → Values → State → Bool → Bool → Term → Bool → Bool
seed_of m cs old s b x t y = is (not b) x && ((gains b (inserts cs) s t || loses b m (deletes cs) old s t) || y)

-- What turns a diamond or a box, by its kind: what it gains, or what it loses.
either : (b k g l : Bool) → ((is (not b) k && g) || (is b k && l)) ≡ cond (is (not b) k) g l
either true true g l = refl
either true false g l = or-false g
either false true g l = or-false g
either false false g l = refl

-- The same by operator; the words of the changes are l.
module _ (m : Model) (l : List ℕ) (old : Values) (s : State) (b x : Bool) (f : ℕ → Bool) (c e o : ℕ) where
  abbrev seeded : Term → Bool
  seeded t = seed_of m (changes_of l) old s b x t (any f (leanings_by m s t))

  seed-low : o < 4 → seeded (get_or (terms c e) o (constant false)) ≡ false
  seed-low h =
      elim (tell true (ltb o 2)) [
        | inl t ↦ two P 0 o (omega arith) (let u = simp tests at t in omega arith) (and_no (is (not b) x) refl) (and_no (is (not b) x) refl)
        | inr t ↦ let u = (ltb_no o 2).0 t in two P 2 o u h (and_no (is (not b) x) refl) (and_no (is (not b) x) refl)
      ]
    where
      P : ℕ → Type 0
      P o = seeded (get_or (terms c e) o (constant false)) ≡ false

  seed-join : 4 ≤ o → o < 6
      → seeded (get_or (terms c e) o (constant false)) ≡ (is (not b) x && (f (c * m.sizes.states + s.0) || f (e * m.sizes.states + s.0)))
  seed-join h k =
      let g = ap (λ (y : Bool). is (not b) x && (f (c * m.sizes.states + s.0) || y)) (or-false (f (e * m.sizes.states + s.0))) in
      two (λ o. seeded (get_or (terms c e) o (constant false)) ≡ (is (not b) x && (f (c * m.sizes.states + s.0) || f (e * m.sizes.states + s.0)))) 4 o h k g g

  -- What a diamond or a box gains by an insert, loses by a delete, and leans on.
  abbrev gained : Bool
  gained = any (λ w. eqb (w % 2) 1 && own s (record { 0 = c }) (w / 2)) l

  abbrev lost : Bool
  lost = any (λ w. not (eqb (w % 2) 1) && (own s (record { 0 = c }) (w / 2) && is (not b) (old (e * m.sizes.states + target (w / 2))))) l

  abbrev led : Bool
  led = any (λ q. own s (record { 0 = c }) q && f (e * m.sizes.states + target q)) m.moves

  seed-kind : (k : Bool) → seeded (step k (record { 0 = c }) (variable e)) ≡ (is (not b) x && (cond (is (not b) k) gained lost || led))
  seed-kind k =
      let a : Action = record { 0 = c } in
      let M = any f (leanings_by m s (step k a (variable e))) in
      let D = any (λ q. own s a q && is (not b) (old (e * m.sizes.states + target q))) (deletes (changes_of l)) in
      ap (λ (y : Bool). is (not b) x && (((is (not b) k && y) || (is b k && D)) || M)) (inserts-any (own s a) l)
      ∙ ap (λ (y : Bool). is (not b) x && (((is (not b) k && gained) || (is b k && y)) || M)) (deletes-any (λ q. own s a q && is (not b) (old (e * m.sizes.states + target q))) l)
      ∙ ap (λ (y : Bool). is (not b) x && (y || M)) (either b k gained lost)
      ∙ ap (λ (y : Bool). is (not b) x && (cond (is (not b) k) gained lost || y)) (targets-any s a f (λ r. e * m.sizes.states + r) m.moves)

  seed-step : 6 ≤ o → o < 8 → seeded (get_or (terms c e) o (constant false)) ≡ (is (not b) x && (cond (is (not b) (eqb o 7)) gained lost || led))
  seed-step h k =
      two (λ o. seeded (get_or (terms c e) o (constant false)) ≡ (is (not b) x && (cond (is (not b) (eqb o 7)) gained lost || led))) 6 o h k (seed-kind false) (seed-kind true)

-- What is asked of an insert and of a delete, in two orders.
by-insert : (x u v : Bool) → (x && (u && v)) ≡ (((v && x) && true) && u)
by-insert true true true = refl
by-insert true true false = refl
by-insert true false true = refl
by-insert true false false = refl
by-insert false u true = refl
by-insert false u false = refl

by-delete : (x u v w : Bool) → (x && ((u && v) && w)) ≡ (((v && x) && w) && u)
by-delete true true true true = refl
by-delete true true true false = refl
by-delete true true false w = refl
by-delete true false true true = refl
by-delete true false true false = refl
by-delete true false false w = refl
by-delete false u true w = refl
by-delete false u false w = refl

-- The pair of the variable y and the state s, the numbers that were read out of the variable's word, the values, the marks, and the words of
-- the changes.
module _ {t : Table} (d : Drawn t) (y s : ℕ) (h : y < t.sizes.variables) (l : s < t.sizes.states)
    (o a b i k : ℕ) (r : ReadsAs (word_at t y) o a b i k) (values marks changes : List ℕ) (bits : Bits values) (told : Told t values marks y) where
  abbrev test : Bool
  test = look_test (model_of t) (changes_of changes) false (value_at values) (marks_in marks) (pair_in t.sizes y s)

  -- Did the pair q, of an earlier block, go to the own value of this one?
  abbrev gone : ℕ → Bool
  gone q = ltb (block_of (model_of t) q) i && gone_to values marks k q

  low : k ≤ 1
  low = let e = r.is_kind in omega arith

  own_read : machine.own (frame (model_of t)) (pair_in t.sizes y s) ≡ eqb k 1
  own_read = own-word d y s h l ∙ ap (λ (n : ℕ). eqb n 1) (sym r.is_kind)

  block_read : block_of (model_of t) (pair_in t.sizes y s) ≡ (word_at t y).block
  block_read = block-word d y s h l

  looked : test ≡ seeded (model_of t) changes (old_in t values marks) (state s) (eqb k 1) (value_at values (pair_in t.sizes y s)) gone a b o (get_or (terms a b) o (constant false))
  unfolding look_test shifts
  looked =
      let m = model_of t in
      let p = pair_in t.sizes y s in
      let old = old_in t values marks in
      let v = value_at values in
      let cs = changes_of changes in
      let w = eqb k 1 in
      let T = get_or (terms a b) o (constant false) in
      let here = state_of t.sizes p in
      ap (λ (c : Bool). c && seed_of m cs old here (machine.own (frame m) p) (old p) (term_at m p) (any (λ q. none q || went m (block_of m p) (machine.own (frame m) p) old v q) (leanings m p))) (eqb_same (block_of m p))
      ∙ ap (λ (c : Bool). seed_of m cs old here c (old p) (term_at m p) (any (λ q. none q || went m (block_of m p) c old v q) (leanings m p))) own_read
      ∙ ap (λ (n : ℕ). seed_of m cs old here w (old p) (term_at m p) (any (λ q. none q || went m n w old v q) (leanings m p))) block_read
      ∙ ap (λ (c : Bool). seed_of m cs old here w c (term_at m p) (any (λ q. none q || went m (word_at t y).block w old v q) (leanings m p))) (told.still p (let e = block_read in omega arith))
      ∙ ap (λ (g : ℕ → Bool). seed_of m cs old here w (v p) (term_at m p) (any g (leanings m p)))
      (fun_ext (λ q. went-is values marks y k told bits low q ∙ ap (λ (n : ℕ). ltb (block_of m q) n && gone_to values marks k q) (sym r.is_block)))
      ∙ ap (λ (x : List ℕ). seed_of m cs old here w (v p) (term_at m p) (any gone x)) (leanings-at m p (pair_inside d y s h l))
      ∙ ap (λ (x : Term). seed_of m cs old here w (v p) x (any gone (leanings_by m here x))) (term-read d y s h l o a b i k r)
      ∙ ap (λ (n : ℕ). seed_of m cs old (state n) w (v p) T (any gone (leanings_by m (state n) T))) (state-of d y s l)

  -- A constant or a proposition leans on nothing.
  pub look-low : o < 4 → test ≡ false
  look-low e = looked ∙ seed-low (model_of t) changes (old_in t values marks) (state s) (eqb k 1) (value_at values (pair_in t.sizes y s)) gone a b o e

  -- The block of a pair of the variable x is before this one where the variable's is.
  gone-read : (x u : ℕ) → x < t.sizes.variables → u < t.sizes.states → gone (x * t.sizes.states + u) ≡ (earlier_in t.equations x i && gone_to values marks k (x * t.sizes.states + u))
  gone-read x u e f = ap (λ (n : ℕ). ltb n i && gone_to values marks k (x * t.sizes.states + u)) (block-word d x u e f)

  turns-from : is (not (eqb k 1)) (value_at values (pair_in t.sizes y s)) ≡ is (not (own_in t y)) (value_at values (pair_in t.sizes y s))
  turns-from = ap (λ (n : ℕ). is (not (eqb n 1)) (value_at values (pair_in t.sizes y s))) r.is_kind

  -- An "or" or an "and": where one of its two pairs went.
  pub look-join : 4 ≤ o → o < 6 → test ≡ (is (not (own_in t y)) (value_at values (pair_in t.sizes y s)) && join_seeds t.sizes t.equations values marks a b i k s)
  unfolding join_seeds
  look-join e f =
      let z = t.sizes in
      let x = is (not (eqb k 1)) (value_at values (pair_in z y s)) in
      let n = join_names d y s h l o a b i k r e f in
      looked ∙ seed-join (model_of t) changes (old_in t values marks) (state s) (eqb k 1) (value_at values (pair_in z y s)) gone a b o e f
      ∙ ap (λ (c : Bool). x && (c || gone (b * z.states + s))) (gone-read a s n.0 l)
      ∙ ap (λ (c : Bool). x && ((earlier_in t.equations a i && gone_to values marks k (a * z.states + s)) || c)) (gone-read b s n.1 l)
      ∙ ap (λ (c : Bool). c && ((earlier_in t.equations a i && gone_to values marks k (a * z.states + s)) || (earlier_in t.equations b i && gone_to values marks k (b * z.states + s)))) turns-from

  -- The moves of a diamond or a box that lead to a pair that went.
  led-read : 6 ≤ o → led (model_of t) changes (old_in t values marks) (state s) (eqb k 1) (value_at values (pair_in t.sizes y s)) gone a b o
      ≡ (earlier_in t.equations b i && leads_gone t.moves values marks k a (b * t.sizes.states) s)
  unfolding leads_gone
  led-read e =
      let z = t.sizes in
      let c : Action = record { 0 = a } in
      let n = step-names d y s h l o a b i k r e in
      any-alike (λ q. ltb (target q) z.states) (λ q. own (state s) c q && gone (b * z.states + target q))
      (λ q. own (state s) c q && (earlier_in t.equations b i && gone_to values marks k (b * z.states + target q))) t.moves
      (targets-in z 0 t.moves (drawn-sound d).moves)
      (λ q f. ap (λ (x : Bool). own (state s) c q && x) (gone-read b (target q) n.1.1 ((ltb-is (target q) z.states).0 f)))
      ∙ any-once (earlier_in t.equations b i) (own (state s) c) (λ q. gone_to values marks k (b * z.states + target q)) t.moves

  -- The old value of a pair of the variable that it names.
  was_read : (q u : ℕ) → b < t.sizes.variables → u < t.sizes.states → q ≡ b * t.sizes.states + u
      → is (not (eqb k 1)) (old_in t values marks q) ≡ was_not values marks (earlier_in t.equations b i) k q
  was_read q u e f at =
      was-is values marks y k told bits low q
      ∙ ap (λ (n : ℕ). was_not values marks (ltb n (word_at t y).block) k q) (ap (block_of (model_of t)) at ∙ block-word d b u e f)
      ∙ ap (λ (n : ℕ). was_not values marks (ltb (word_at t b).block n) k q) (sym r.is_block)

  -- The changes that touch its moves.
  touched-read : 6 ≤ o → changes_ok t.sizes (changes_of changes) ≡ true → (g : Bool)
      → cond g (gained (model_of t) changes (old_in t values marks) (state s) (eqb k 1) (value_at values (pair_in t.sizes y s)) gone a b o)
      (lost (model_of t) changes (old_in t values marks) (state s) (eqb k 1) (value_at values (pair_in t.sizes y s)) gone a b o)
      ≡ touches_at changes values marks (earlier_in t.equations b i) g k a (b * t.sizes.states) s
  unfolding touches_at touches
  touched-read e ok true =
      any-alike (λ w. ltb (target (w / 2)) t.sizes.states) (λ w. eqb (w % 2) 1 && own (state s) (record { 0 = a }) (w / 2))
      (λ w. ((eqb (action (w / 2)) a && eqb (w % 2) 1) && true) && eqb (source (w / 2)) s) changes (changes-in t.sizes changes ok)
      (λ w f. by-insert (eqb (w % 2) 1) (eqb (source (w / 2)) s) (eqb (action (w / 2)) a))
  touched-read e ok false =
      let z = t.sizes in
      let n = step-names d y s h l o a b i k r e in
      let E = earlier_in t.equations b i in
      any-alike (λ w. ltb (target (w / 2)) z.states)
      (λ w. not (eqb (w % 2) 1) && (own (state s) (record { 0 = a }) (w / 2) && is (not (eqb k 1)) (old_in t values marks (b * z.states + target (w / 2)))))
      (λ w. ((eqb (action (w / 2)) a && not (eqb (w % 2) 1)) && was_not values marks E k (b * z.states + target (w / 2))) && eqb (source (w / 2)) s) changes (changes-in z changes ok)
      (λ w f. let q = b * z.states + target (w / 2) in
      ap (λ (c : Bool). not (eqb (w % 2) 1) && (own (state s) (record { 0 = a }) (w / 2) && c)) (was_read q (target (w / 2)) n.1.1 ((ltb-is (target (w / 2)) z.states).0 f) refl)
      ∙ by-delete (not (eqb (w % 2) 1)) (eqb (source (w / 2)) s) (eqb (action (w / 2)) a) (was_not values marks E k q))

  -- A diamond or a box: where it gains or loses so, or one of its moves leads to a pair that went.
  pub look-step : 6 ≤ o → changes_ok t.sizes (changes_of changes) ≡ true
      → test ≡ (is (not (own_in t y)) (value_at values (pair_in t.sizes y s))
      && step_seeds t.sizes t.equations t.moves changes values marks (is (not (eqb k 1)) (eqb o 7)) a b i k s)
  unfolding step_seeds
  look-step e ok =
      let z = t.sizes in
      let m = model_of t in
      let old = old_in t values marks in
      let v = value_at values (pair_in z y s) in
      let x = is (not (eqb k 1)) v in
      let g = is (not (eqb k 1)) (eqb o 7) in
      looked ∙ seed-step m changes old (state s) (eqb k 1) v gone a b o e (operator-below d y s h l o a b i k r)
      ∙ ap (λ (c : Bool). x && (c || led m changes old (state s) (eqb k 1) v gone a b o)) (touched-read e ok g)
      ∙ ap (λ (c : Bool). x && (touches_at changes values marks (earlier_in t.equations b i) g k a (b * z.states) s || c)) (led-read e)
      ∙ ap (λ (c : Bool). c && (touches_at changes values marks (earlier_in t.equations b i) g k a (b * z.states) s || (earlier_in t.equations b i && leads_gone t.moves values marks k a (b * z.states) s))) turns-from
