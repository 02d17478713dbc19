-- The row says which pairs must turn while settling. Assumes nothing.
use Rattle.std.specs.Prelude.{◌≡◌, Bool, true, false, cond, ◌&&◌, ◌||◌, ℕ, zero, suc, ◌+◌, ◌-◌, ◌*◌, ◌%◌, ◌≤◌, ◌<◌, length, take, drop, replicate}
use Rattle.std.proofs.Math.Path.{refl, sym, ap}
use Rattle.std.proofs.Common.{◌∙◌, true≢false, ext_get_or}
use Rattle.std.proofs.Math.Bool.{not}
use Rattle.std.proofs.lemmas.Bool.{false≢true}
use mathlib.Core.List.{List, [], ◌∷◌, map}
use Rattle.std.proofs.Math.Decide.{dec_lt}
use native.Mathlib.Omega.{arith}
use Rattle.std.proofs.Math.ListN.{get_or, get_or-eq_default}
use Rattle.std.proofs.lemmas.List.{length-replicate, get_or-replicate}
use Rattle.std.proofs.Math.Dec.{eqb}
use mir.Val.{bool_byte}
use Rattle.lists.specs.Ranges.{some-no}
use Rattle.lists.specs.Lists.{is, any, bit, listed, some_below}
use Rattle.lists.specs.TableLaws.{listed-is, listed-length}
use Rattle.lists.specs.Tests.{tests, and_is, and_no, ltb-is, ltb_no}
use Rattle.rules.specs.Limits.{most_propositions}
use Rattle.rules.specs.Moves.{target}
use Rattle.rules.specs.Model.{operands_ok, well_formed}
use Rattle.rules.specs.Calls.{value_at}
use Rattle.rules.specs.Values.{state, holds, own, targets, gives}
use Rattle.laws.specs.bytes.Walks.{small}
use Rattle.engine_table.specs.Table.{Table, model_of, Drawn, ReadsAs, word_at, own_in, pair_in, leads_to}
use Rattle.engine_table.specs.Part.{own_moves}
use Rattle.engine_table.specs.Limits.{move-inside}
use Rattle.engine_table.specs.GivesWords.{two, operands-read, operator-below, targets-read, gives-constant, gives-proposition, gives-join, gives-step}
use Rattle.engine_table.specs.AsksWords.{asks-settle}
use Rattle.engine_rows.specs.Rooms.{Bits, Tells}
use Rattle.engine_rows.specs.Queued.{part_at}
use Rattle.engine_index.specs.Walks.{SetWhere}
use Rattle.engine_index.specs.Targets.{any_same}
use Rattle.engine_settle.specs.Told.{told, one_has, leads_one, Fails, settle_test}

-- A byte that is 0 or 1 against another.
pub value-is : (w c : ℕ) → w ≤ 1 → c ≤ 1 → eqb w c ≡ is (eqb c 1) (eqb w 1)
value-is zero zero h k = refl
value-is zero (suc zero) h k = refl
value-is (suc zero) zero h k = refl
value-is (suc zero) (suc zero) h k = refl
value-is (suc (suc w)) c h k = absurd (omega arith)
value-is zero (suc (suc c)) h k = absurd (omega arith)
value-is (suc zero) (suc (suc c)) h k = absurd (omega arith)

-- Whether a truth value is a, asked of whether it is b.
is-is : (a b x : Bool) → is a (is b x) ≡ is (is a b) x
is-is true b x = refl
is-is false true x = refl
is-is false false true = refl
is-is false false false = refl

-- What a place must become where what decides the equation makes it give c, and the own value is that of the kind k.
pub gives_other : (c k : ℕ) → c ≤ 1 → k ≤ 1 → bool_byte (not (eqb c k)) ≡ bit (is (not (eqb k 1)) (eqb c 1))
gives_other zero zero h l = refl
gives_other zero (suc zero) h l = refl
gives_other (suc zero) zero h l = refl
gives_other (suc zero) (suc zero) h l = refl
gives_other (suc (suc c)) k h l = absurd (omega arith)
gives_other zero (suc (suc k)) h l = absurd (omega arith)
gives_other (suc zero) (suc (suc k)) h l = absurd (omega arith)

-- What a place says that was told, and that it is 0 or 1.
told_is : (b x : Bool) → eqb (told (bit b) x) 1 ≡ is b x
told_is true true = refl
told_is true false = refl
told_is false true = refl
told_is false false = refl

told-small : (b x : Bool) → told (bit b) x ≤ 1
told-small true true = omega arith
told-small true false = omega arith
told-small false true = omega arith
told-small false false = omega arith

-- The list of what places were told, from what was set in a row of the other number.
pub step-told : (g : ℕ → Bool) (v n : ℕ) (before bad : List ℕ) → length bad ≡ n → before ≡ replicate n (1 - v) → SetWhere g v before bad
    → bad ≡ listed 0 n (λ s. told v (g s))
step-told g v n before bad l e w =
    let k = listed-length 0 n (λ s. told v (g s)) in
    let m = ap length e ∙ length-replicate n (1 - v) in
    ext_get_or 0 bad (listed 0 n (λ s. told v (g s))) (omega arith) (λ s h. w s (omega arith)
    ∙ ap (λ (x : ℕ). cond (g s) v x) (ap (λ (q : List ℕ). get_or q s 0) e ∙ get_or-replicate n s (1 - v) 0 (omega arith))
    ∙ sym (listed-is n (λ s. told v (g s)) s (omega arith)))

-- The same where nothing is decided, and nothing was set.
pub step-untold : (g : ℕ → Bool) (v n : ℕ) (bad : List ℕ) → ((s : ℕ) → g s ≡ false) → bad ≡ replicate n (1 - v) → bad ≡ listed 0 n (λ s. told v (g s))
step-untold g v n bad none e =
    step-told g v n bad bad (ap length e ∙ length-replicate n (1 - v)) e (λ s h. sym (ap (λ (b : Bool). cond b v (get_or bad s 0)) (none s)))

-- What is asked of the targets of a state's moves, asked of the moves.
any-own : (s a : ℕ) (g : ℕ → Bool) (l : List ℕ) → any (λ q. own (state s) (record { 0 = a }) q && g (target q)) l ≡ any g (targets (state s) (record { 0 = a }) l)
any-own s a g [] = refl
any-own s a g (q ∷ l) = one (own (state s) (record { 0 = a }) q) (any-own s a g l)
  where
    one : (b : Bool) → any (λ q. own (state s) (record { 0 = a }) q && g (target q)) l ≡ any g (targets (state s) (record { 0 = a }) l)
        → ((b && g (target q)) || any (λ q. own (state s) (record { 0 = a }) q && g (target q)) l)
        ≡ any g (cond b (target q ∷ targets (state s) (record { 0 = a }) l) (targets (state s) (record { 0 = a }) l))
    one true e = ap (λ (x : Bool). g (target q) || x) e
    one false e = e

-- What is asked of targets, asked of the moves that have them.
any-map : (g : ℕ → Bool) (l : List ℕ) → any g (map target l) ≡ any (λ q. g (target q)) l
any-map g [] = refl
any-map g (q ∷ l) = ap (λ (x : Bool). g (target q) || x) (any-map g l)

module _ {t : Table} (y : ℕ) (values : List ℕ) where
  -- A row says what its equation gives where it says what decides it, and that makes it give c.
  pub fails_by : (g : ℕ → Bool) (c k v n : ℕ) (bad : List ℕ) → c ≤ 1 → k ≤ 1 → k ≡ (word_at t y).kind → v ≡ bool_byte (not (eqb c k)) → n ≡ t.sizes.states
      → ((s : ℕ) → s < t.sizes.states → gives (model_of t) (value_at values) (pair_in t.sizes y s) ≡ is (eqb c 1) (g s))
      → bad ≡ listed 0 n (λ s. told v (g s)) → Fails t values y bad
  fails_by g c k v n bad hc hk ek ev en e l =
      let b = is (not (eqb k 1)) (eqb c 1) in
      let w : v ≡ bit b = ev ∙ gives_other c k hc hk in
      let i = listed-length 0 n (λ s. told v (g s)) in
      record {
        long = ap length l ∙ i ∙ en;
        bits = λ s. elim (dec_lt s n) [
          | yes h ↦
              let x = ap (λ (q : List ℕ). get_or q s 0) l ∙ listed-is n (λ s. told v (g s)) s h ∙ ap (λ (z : ℕ). told z (g s)) w in
              let z = told-small b (g s) in
              omega arith
          | no h ↦ let m = ap length l in let x = get_or-eq_default bad 0 {n = s} (omega arith) in omega arith
        ];
        tells = λ s h.
            ap (λ (q : List ℕ). eqb (get_or q s 0) 1) l ∙ ap (λ (x : ℕ). eqb x 1) (listed-is n (λ s. told v (g s)) s (omega arith))
            ∙ ap (λ (z : ℕ). eqb (told z (g s)) 1) w ∙ told_is b (g s) ∙ sym (is-is (not (eqb k 1)) (eqb c 1) (g s))
            ∙ ap (λ (x : Bool). is (not (eqb k 1)) x) (sym (e s h)) ∙ ap (λ (x : ℕ). is (not (eqb x 1)) (gives (model_of t) (value_at values) (pair_in t.sizes y s))) ek;
      }

  module _ (d : Drawn t) (h : y < t.sizes.variables) where
    -- A row that says what its equation gives says which pairs must turn.
    pub tells-fails : (bad : List ℕ) → Fails t values y bad
        → Tells t.sizes.states (own_in t y) values (y * t.sizes.states) (settle_test t values y) bad true
    tells-fails bad f = record {
      long = f.long;
      bits = λ _. f.bits;
      yes = λ _ s l. asks-settle d y s h l values ∙ ap (λ (b : Bool). is (own_in t y) (value_at values (pair_in t.sizes y s)) && b) (sym (f.tells s l));
      no = λ e. absurd (true≢false e);
    }

    -- A row in which no pair has the own value has none that must turn.
    pub tells_none : (k : ℕ) (bad row : List ℕ) → k ≤ 1 → k ≡ (word_at t y).kind → Bits values → length bad ≡ t.sizes.states
        → row ≡ take t.sizes.states (drop (y * t.sizes.states) values) → some_below t.sizes.states (λ s. eqb (get_or row s 0) k) ≡ false
        → Tells t.sizes.states (own_in t y) values (y * t.sizes.states) (settle_test t values y) bad false
    tells_none k bad row hk ek small l er none = record {
      long = l;
      bits = λ e. absurd (false≢true e);
      yes = λ e. absurd (false≢true e);
      no = λ _ s i.
          let p = pair_in t.sizes y s in
          let off = ap (λ (x : ℕ). is (eqb x 1) (value_at values p)) (sym ek) ∙ sym (value-is (get_or values p 0) k (small p) hk)
          ∙ ap (λ (x : ℕ). eqb x k) (sym (ap (λ (q : List ℕ). get_or q s 0) er ∙ part_at (y * t.sizes.states) t.sizes.states values s i))
          ∙ some-no t.sizes.states (λ s. eqb (get_or row s 0) k) none s i in
          asks-settle d y s h i values ∙ ap (λ (b : Bool). b && is (not (own_in t y)) (gives (model_of t) (value_at values) p)) off;
    }

    module _ (o a b i k : ℕ) (r : ReadsAs (word_at t y) o a b i k) where
      -- A constant that is the own value turns none.
      pub tells-constant : (bad : List ℕ) → o < 2 → o ≡ k → length bad ≡ t.sizes.states
          → Tells t.sizes.states (own_in t y) values (y * t.sizes.states) (settle_test t values y) bad false
      tells-constant bad l e n = record {
        long = n;
        bits = λ f. absurd (false≢true f);
        yes = λ f. absurd (false≢true f);
        no = λ _ s j.
            asks-settle d y s h j values
            ∙ and_no (is (own_in t y) (value_at values (pair_in t.sizes y s)))
            (ap (λ (x : ℕ). is (not (eqb x 1)) (gives (model_of t) (value_at values) (pair_in t.sizes y s))) (sym (e ∙ r.is_kind))
            ∙ ap (λ (x : Bool). is (not (eqb o 1)) x) (gives-constant d y s h j o a b i k r (value_at values) l) ∙ same (eqb o 1));
      }
        where
          same : (x : Bool) → is (not x) x ≡ false
          same true = refl
          same false = refl

      -- The other constant gives what the own value is not, everywhere.
      pub fails-constant : (n : ℕ) (bad : List ℕ) → o < 2 → k ≤ 1 → (o ≡ k → ⊥) → n ≡ t.sizes.states → bad ≡ replicate n 1 → Fails t values y bad
      fails-constant n bad l hk off en e = record {
        long = ap length e ∙ length-replicate n 1 ∙ en;
        bits = λ s. elim (dec_lt s n) [
          | yes u ↦ let x = ap (λ (q : List ℕ). get_or q s 0) e ∙ get_or-replicate n s 1 0 u in omega arith
          | no u ↦ let m = ap length e ∙ length-replicate n 1 in let x = get_or-eq_default bad 0 {n = s} (omega arith) in omega arith
        ];
        tells = λ s j.
            ap (λ (x : ℕ). eqb x 1) (ap (λ (q : List ℕ). get_or q s 0) e ∙ get_or-replicate n s 1 0 (omega arith))
            ∙ sym (ap (λ (x : ℕ). is (not (eqb x 1)) (gives (model_of t) (value_at values) (pair_in t.sizes y s))) (sym r.is_kind)
            ∙ ap (λ (x : Bool). is (not (eqb k 1)) x) (gives-constant d y s h j o a b i k r (value_at values) l) ∙ differ o k (omega arith) hk off);
      }
        where
          differ : (o k : ℕ) → o ≤ 1 → k ≤ 1 → (o ≡ k → ⊥) → is (not (eqb k 1)) (eqb o 1) ≡ true
          differ zero zero h l off = absurd (off refl)
          differ zero (suc zero) h l off = refl
          differ (suc zero) zero h l off = refl
          differ (suc zero) (suc zero) h l off = absurd (off refl)
          differ (suc (suc o)) k h l off = absurd (omega arith)
          differ zero (suc (suc k)) h l off = absurd (omega arith)
          differ (suc zero) (suc (suc k)) h l off = absurd (omega arith)

      -- A proposition names one of the propositions.
      pub label-names : 2 ≤ o → o < 4 → a < most_propositions
      unfolding operands_ok well_formed
      label-names f g =
          let z = small t.sizes (simp and_is at d.model).0.0.0.0.0 in
          let e = operands-read d y 0 h z.0 o a b i k r in
          let m = simp tests at (rw ((ltb_no o 2).1 f, (ltb-is o 4).1 g) at e) in
          omega arith

      -- The row of a proposition.
      pub fails-label : (v n : ℕ) (labels bad : List ℕ) → 2 ≤ o → o < 4 → k ≤ 1 → v ≡ bool_byte (not (eqb (1 - o % 2) k)) → n ≡ t.sizes.states → labels ≡ t.labels
          → bad ≡ listed 0 n (λ s. told v (holds labels (state s) a)) → Fails t values y bad
      fails-label v n labels bad f g hk ev en el e =
          fails_by (λ s. holds labels (state s) a) (1 - o % 2) k v n bad (omega arith) hk r.is_kind ev en
          (λ s l. gives-proposition d y s h l o a b i k r (value_at values) f g
          ∙ ap (λ (q : List ℕ). is (not (eqb o 3)) (holds q (state s) a)) (sym el)
          ∙ ap (λ (x : Bool). is x (holds labels (state s) a)) (two (λ o. not (eqb o 3) ≡ eqb (1 - o % 2) 1) 2 o f g refl refl)) e

      -- The row of an "or" or an "and".
      pub fails-join : (v n : ℕ) (p q bad : List ℕ) → 4 ≤ o → o < 6 → k ≤ 1 → v ≡ bool_byte (not (eqb (1 - o % 2) k)) → n ≡ t.sizes.states → Bits values
          → p ≡ take n (drop (a * t.sizes.states) values) → q ≡ take n (drop (b * t.sizes.states) values)
          → bad ≡ listed 0 n (λ s. told v (one_has p q (1 - o % 2) s)) → Fails t values y bad
      fails-join v n p q bad f g hk ev en small ep eq e =
          let c = 1 - o % 2 in
          let kind : not (eqb o 5) ≡ eqb (1 - o % 2) 1 = two (λ o. not (eqb o 5) ≡ eqb (1 - o % 2) 1) 4 o f g refl refl in
          fails_by (one_has p q c) c k v n bad (omega arith) hk r.is_kind ev en
          (λ s l.
          gives-join d y s h l o a b i k r (value_at values) f g
          ∙ morgan (eqb o 5) (value_at values (pair_in t.sizes a s)) (value_at values (pair_in t.sizes b s))
          ∙ ap (λ (x : Bool). is x (is x (value_at values (pair_in t.sizes a s)) || is x (value_at values (pair_in t.sizes b s)))) kind
          ∙ ap (λ (x : Bool). is (eqb c 1) (x || is (eqb c 1) (value_at values (pair_in t.sizes b s)))) (has a p s (omega arith) ep)
          ∙ ap (λ (x : Bool). is (eqb c 1) (eqb (get_or p s 0) c || x)) (has b q s (omega arith) eq)) e
        where
          morgan : (w x y : Bool) → cond w (x && y) (x || y) ≡ is (not w) (is (not w) x || is (not w) y)
          morgan true true true = refl
          morgan true true false = refl
          morgan true false y = refl
          morgan false x y = refl

          has : (x : ℕ) (row : List ℕ) (s : ℕ) → s < n → row ≡ take n (drop (x * t.sizes.states) values)
              → is (eqb (1 - o % 2) 1) (value_at values (pair_in t.sizes x s)) ≡ eqb (get_or row s 0) (1 - o % 2)
          has x row s l e =
              let p = pair_in t.sizes x s in
              sym (value-is (get_or values p 0) (1 - o % 2) (small p) (omega arith))
              ∙ ap (λ (w : ℕ). eqb w (1 - o % 2)) (sym (ap (λ (m : List ℕ). get_or m s 0) e ∙ part_at (x * t.sizes.states) n values s l))

      -- The row of a diamond or a box.
      pub fails_step : (v n : ℕ) (row bad : List ℕ) → 6 ≤ o → k ≤ 1 → v ≡ bool_byte (not (eqb (1 - o % 2) k)) → n ≡ t.sizes.states → Bits values
          → row ≡ take n (drop (b * t.sizes.states) values) → bad ≡ listed 0 n (λ s. told v (leads_one t.moves a row (1 - o % 2) s)) → Fails t values y bad
      unfolding leads_to
      fails_step v n row bad f hk ev en small er e =
          fails_by (leads_one t.moves a row (1 - o % 2)) (1 - o % 2) k v n bad (omega arith) hk r.is_kind ev en
          (λ s l.
          let g = operator-below d y s h l o a b i k r in
          let kind : not (eqb o 7) ≡ eqb (1 - o % 2) 1 = two (λ o. not (eqb o 7) ≡ eqb (1 - o % 2) 1) 6 o f g refl refl in
          gives-step d y s h l o a b i k r values f
          ∙ ap (λ (x : Bool). is x (any (λ q. is x (value_at values (b * t.sizes.states + target q))) (own_moves s a t.moves))) kind
          ∙ ap (is (eqb (1 - o % 2) 1)) (sym (any-map (λ u. is (eqb (1 - o % 2) 1) (value_at values (b * t.sizes.states + u))) (own_moves s a t.moves))
          ∙ ap (any (λ u. is (eqb (1 - o % 2) 1) (value_at values (b * t.sizes.states + u)))) (sym (targets-read d y s h l o a b i k r f))
          ∙ sym (any-own s a (λ u. is (eqb (1 - o % 2) 1) (value_at values (b * t.sizes.states + u))) t.moves)
          ∙ any_same (λ q. own (state s) (record { 0 = a }) q && is (eqb (1 - o % 2) 1) (value_at values (b * t.sizes.states + target q)))
          (λ q. own (state s) (record { 0 = a }) q && eqb (get_or row (target q) 0) (1 - o % 2)) t.moves (λ j m.
          let q = get_or t.moves j 0 in
          let u = (move-inside d j m).1.1 in
          ap (λ (x : Bool). own (state s) (record { 0 = a }) q && x)
          (sym (value-is (get_or values (b * t.sizes.states + target q) 0) (1 - o % 2) (small (b * t.sizes.states + target q)) (omega arith))
          ∙ ap (λ (w : ℕ). eqb w (1 - o % 2)) (sym (ap (λ (x : List ℕ). get_or x (target q) 0) er ∙ part_at (b * t.sizes.states) n values (target q) (omega arith))))))) e
