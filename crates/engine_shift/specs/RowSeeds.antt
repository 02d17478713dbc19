-- What a whole row shows: which of its places seed, or that none does. Assumes nothing.
use Rattle.std.specs.Prelude.{◌≡◌, Bool, ◌&&◌, ◌||◌, ℕ, ◌+◌, ◌*◌, ◌/◌, ◌<◌, length, get_or, replicate}
use Rattle.std.proofs.Math.Path.{refl, ap}
use Rattle.std.proofs.Common.{sym, ◌∙◌, subst, true≢false, arith}
use Rattle.std.proofs.Math.Bool.{true, false}
use mathlib.Core.List.{List, [], ◌∷◌}
use Rattle.std.proofs.lemmas.List.{length-replicate}
use Rattle.std.proofs.Math.Dec.{eqb, ltb}
use Rattle.lists.specs.Ranges.{some-no}
use Rattle.lists.specs.Lists.{is, any, all, some_below}
use Rattle.lists.specs.Tests.{or_no, and_no, and_is, ltb-is}
use Rattle.lists.specs.Entries.{zeros-at}
use Rattle.rules.specs.Moves.{source, action, target}
use Rattle.rules.specs.Model.{moves_ok}
use Rattle.rules.specs.Calls.{value_at}
use Rattle.rules.specs.declared.Sizes.{Sizes}
use Rattle.engine_rows.specs.Rooms.{Bits, Tells}
use Rattle.engine_shift.specs.Anys.{targets-in}
use Rattle.engine_shift.specs.Adds.{Adds, zeros-bits}
use Rattle.engine_shift.specs.Seeds.{odd_at, gone_to, was_not, of_kind, touches, touches_at, earlier_in, leads_gone, join_seeds, step_seeds, Shows}

-- What is asked of the whole row need not be asked, where it follows from what is asked of a place.
asked-once : (e some g : Bool) → (some ≡ false → g ≡ false) → ((e && some) && g) ≡ (e && g)
asked-once true true g f = refl
asked-once true false g f = sym (f refl)
asked-once false some g f = refl

-- A row that has been cleared, and to which places were added twice.
pub shows-yes : (n : ℕ) (f g h : ℕ → Bool) (old clear mid bad : List ℕ) → length old ≡ n → clear ≡ replicate (length old) 0 → Adds g clear mid → Adds h mid bad
    → ((s : ℕ) → s < n → f s ≡ (g s || h s)) → Shows n f bad true
shows-yes n f g h old clear mid bad l e p q same =
    let c : length clear ≡ length old = ap length e ∙ length-replicate {A = ℕ} (length old) 0 in
    let a = p.long in
    let b = q.long in
    record {
      long = omega arith;
      bits = λ t. q.bits (p.bits (subst (λ (x : List ℕ). Bits x) (sym e) (zeros-bits (length old))));
      yes = λ t s k. same s k
          ∙ sym (q.says s (omega arith) ∙ ap (λ (x : Bool). x || h s) (p.says s (omega arith)
          ∙ ap (λ (x : ℕ). eqb x 1 || g s) (ap (λ (x : List ℕ). get_or x s 0) e ∙ zeros-at (length old) s)));
      no = λ t. absurd (true≢false t);
    }

-- A row that is passed over.
pub shows-no : (n : ℕ) (f : ℕ → Bool) (bad : List ℕ) → length bad ≡ n → ((s : ℕ) → s < n → f s ≡ false) → Shows n f bad false
shows-no n f bad l none = record {
  long = l;
  bits = λ t. absurd (true≢false (sym t));
  yes = λ t. absurd (true≢false (sym t));
  no = λ t. none;
}

-- What it tells of pairs that must have the value `from` besides.
pub tells-shown : (n : ℕ) (from : Bool) (values : List ℕ) (base : ℕ) (f g : ℕ → Bool) (bad : List ℕ) (r : Bool)
    → ((s : ℕ) → s < n → f s ≡ (is from (value_at values (base + s)) && g s)) → Shows n g bad r → Tells n from values base f bad r
tells-shown n from values base f g bad r same w = record {
  long = w.long;
  bits = w.bits;
  yes = λ t s h. same s h ∙ ap (λ (x : Bool). is from (value_at values (base + s)) && x) (w.yes t s h);
  no = λ t s h. same s h ∙ and_no (is from (value_at values (base + s))) (w.no t s h);
}

-- None must turn.
pub tells_none : (n : ℕ) (from : Bool) (values : List ℕ) (base : ℕ) (f : ℕ → Bool) (bad : List ℕ) → length bad ≡ n
    → ((s : ℕ) → s < n → f s ≡ false) → Tells n from values base f bad false
tells_none n from values base f bad l none = record {
  long = l;
  bits = λ t. absurd (true≢false (sym t));
  yes = λ t. absurd (true≢false (sym t));
  no = λ t. none;
}

-- May the row of the variable x have gone, as its block and its marks say?
abbrev pub may_in : Sizes → List ℕ → List ℕ → ℕ → ℕ → Bool
may_in z equations marks x i = earlier_in equations x i && some_below z.states (λ s. odd_at marks (x * z.states + s))

module _ (z : Sizes) (equations values marks : List ℕ) (i k : ℕ) where
  -- A place went only where its row may have.
  may-once : (x s : ℕ) → s < z.states
      → (may_in z equations marks x i && gone_to values marks k (x * z.states + s)) ≡ (earlier_in equations x i && gone_to values marks k (x * z.states + s))
  may-once x s h =
      let odds : ℕ → Bool = λ s. odd_at marks (x * z.states + s) in
      asked-once (earlier_in equations x i) (some_below z.states odds) (gone_to values marks k (x * z.states + s))
      (λ e. ap (λ (c : Bool). c && eqb (get_or values (x * z.states + s) 0) k) (some-no z.states odds e s h))

  -- An "or" or an "and" of the variables x and y.
  pub join-shown : (x y s : ℕ) (one two : Bool) → one ≡ may_in z equations marks x i → two ≡ may_in z equations marks y i → s < z.states
      → join_seeds z equations values marks x y i k s ≡ ((one && gone_to values marks k (x * z.states + s)) || (two && gone_to values marks k (y * z.states + s)))
  unfolding join_seeds
  join-shown x y s one two e f h =
      let g = gone_to values marks k (x * z.states + s) in
      let u = gone_to values marks k (y * z.states + s) in
      ap (λ (c : Bool). c || (earlier_in equations y i && u)) (sym (may-once x s h) ∙ ap (λ (c : Bool). c && g) (sym e))
      ∙ ap (λ (c : Bool). (one && g) || c) (sym (may-once y s h) ∙ ap (λ (c : Bool). c && u) (sym f))

  -- It seeds nothing where neither row may have gone.
  pub join-none : (x y s : ℕ) (one two : Bool) → one ≡ may_in z equations marks x i → two ≡ may_in z equations marks y i → (one || two) ≡ false → s < z.states
      → join_seeds z equations values marks x y i k s ≡ false
  join-none x y s one two e f none h =
      let o = (or_no one two).0 none in
      let g = gone_to values marks k (x * z.states + s) in
      let u = gone_to values marks k (y * z.states + s) in
      join-shown x y s one two e f h ∙ ap (λ (c : Bool). (c && g) || (two && u)) o.0 ∙ ap (λ (c : Bool). c && u) o.1

  module _ (moves changes : List ℕ) (ok : moves_ok z 0 moves ≡ true) (gaining : Bool) (a x : ℕ) where
    -- No move leads to a pair that went where no mark of the row is odd.
    leads-none : (s : ℕ) → some_below z.states (λ u. odd_at marks (x * z.states + u)) ≡ false → leads_gone moves values marks k a (x * z.states) s ≡ false
    unfolding leads_gone
    leads-none s e = every moves (targets-in z 0 moves ok)
      where
        every : (l : List ℕ) → all (λ q. ltb (target q) z.states) l ≡ true
            → any (λ q. (eqb (source q) s && eqb (action q) a) && gone_to values marks k (x * z.states + target q)) l ≡ false
        every [] f = refl
        every (q ∷ l) f =
            let g = simp and_is at f in
            ap (λ (c : Bool). ((eqb (source q) s && eqb (action q) a) && (c && eqb (get_or values (x * z.states + target q) 0) k)) || any (λ q. (eqb (source q) s && eqb (action q) a) && gone_to values marks k (x * z.states + target q)) l)
            (some-no z.states (λ u. odd_at marks (x * z.states + u)) e (target q) ((ltb-is (target q) z.states).0 g.0))
            ∙ ap (λ (c : Bool). c || any (λ q. (eqb (source q) s && eqb (action q) a) && gone_to values marks k (x * z.states + target q)) l) (and_no (eqb (source q) s && eqb (action q) a) refl)
            ∙ every l g.1

    -- No change touches where none is of the kind.
    touches_none : (earlier : Bool) (from s : ℕ) → any (of_kind gaining a) changes ≡ false → touches_at changes values marks earlier gaining k a from s ≡ false
    unfolding touches_at touches
    touches_none earlier from s = every changes
      where
        every : (l : List ℕ) → any (of_kind gaining a) l ≡ false
            → any (λ w. (of_kind gaining a w && (gaining || was_not values marks earlier k (from + target (w / 2)))) && eqb (source (w / 2)) s) l ≡ false
        every [] f = refl
        every (w ∷ l) f =
            let g = (or_no (of_kind gaining a w) (any (of_kind gaining a) l)).0 f in
            ap (λ (c : Bool). ((c && (gaining || was_not values marks earlier k (from + target (w / 2)))) && eqb (source (w / 2)) s)
            || any (λ w. (of_kind gaining a w && (gaining || was_not values marks earlier k (from + target (w / 2)))) && eqb (source (w / 2)) s) l) g.0 ∙ every l g.1

    -- A diamond or a box of the action a and the variable x.
    pub step-shown : (s : ℕ) (earlier may : Bool) (from : ℕ) → earlier ≡ earlier_in equations x i → may ≡ may_in z equations marks x i → from ≡ x * z.states
        → step_seeds z equations moves changes values marks gaining a x i k s
        ≡ (touches_at changes values marks earlier gaining k a from s || (may && leads_gone moves values marks k a from s))
    unfolding step_seeds
    step-shown s earlier may from e f at =
        let E = earlier_in equations x i in
        let L = leads_gone moves values marks k a (x * z.states) s in
        let T = touches_at changes values marks E gaining k a (x * z.states) s in
        ap (λ (c : Bool). T || c) (sym (asked-once E (some_below z.states (λ u. odd_at marks (x * z.states + u))) L (leads-none s)) ∙ ap (λ (c : Bool). c && L) (sym f))
        ∙ ap (λ (c : Bool). touches_at changes values marks c gaining k a (x * z.states) s || (may && L)) (sym e)
        ∙ ap (λ (n : ℕ). touches_at changes values marks earlier gaining k a n s || (may && leads_gone moves values marks k a n s)) (sym at)

    -- It seeds nothing where no change is of the kind, and no pair of the row went.
    pub step-none : (s : ℕ) (found may : Bool) → found ≡ any (of_kind gaining a) changes → may ≡ may_in z equations marks x i → (found || may) ≡ false
        → step_seeds z equations moves changes values marks gaining a x i k s ≡ false
    step-none s found may e f none =
        let o = (or_no found may).0 none in
        step-shown s (earlier_in equations x i) may (x * z.states) refl f refl
        ∙ ap (λ (c : Bool). c || (may && leads_gone moves values marks k a (x * z.states) s)) (touches_none (earlier_in equations x i) (x * z.states) s (sym e ∙ o.0))
        ∙ ap (λ (c : Bool). c && leads_gone moves values marks k a (x * z.states) s) o.1
