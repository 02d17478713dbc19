-- A visit as code makes it, and visits one list after the other. Assumes nothing.
use Rattle.std.specs.Prelude.{◌≡◌, Bool, not, cond, ◌&&◌, ℕ, suc, ◌+◌, ◌≤◌, ◌<◌, length, get_or, set}
use Rattle.std.proofs.Math.Path.{refl, sym}
use Rattle.std.proofs.Common.{ap, ◌∙◌, add-one}
use Rattle.std.proofs.Math.Bool.{true, false}
use mathlib.Core.List.{List, [], ◌∷◌, ◌++◌}
use native.Mathlib.Omega.{arith}
use Rattle.std.proofs.Math.ListN.{length-set}
use Rattle.lists.specs.Lists.{any}
use Rattle.lists.specs.Tests.{and_in, and_no, ltb-in, ltb_no}
use Rattle.systems.specs.machine.Machine.{free, next_mark}
use Rattle.rules.specs.Moves.{target}
use Rattle.words.specs.Words.{waiting_of, variable_in, state_in}
use Rattle.engine_table.specs.Table.{ReadsAs, pair_in}
use Rattle.engine_table.specs.Part.{own_moves}
use Rattle.engine_index.specs.Operands.{waits_in, owner_in, row_in}
use Rattle.engine_turn.specs.Scene.{Scene, equation_of, has_from, fails, asks_for, Line, line_of, waited, passed, visit_one, visit_all, Leaner, Leans, Room}

module _ (c : Scene) where
  -- What an easy join and an easy step ask, by the numbers read out of the variable's word.
  module _ (y s o a b i k : ℕ) (r : ReadsAs (equation_of c y) o a b i k) where
    pub fails-join : o < 6 → (not (has_from c a s) && not (has_from c b s)) ≡ fails c y s
    unfolding fails
    fails-join h = rw (sym r.is_operator, sym r.is_first, sym r.is_second, ltb-in o 6 h) refl

    pub fails_step : 6 ≤ o → not (any (λ q. has_from c b (target q)) (own_moves s a c.moves)) ≡ fails c y s
    unfolding fails
    fails_step h = rw (sym r.is_operator, sym r.is_first, sym r.is_second, (ltb_no o 6).1 h) refl

  -- A pair without the value must not turn; one with it must, unless its operands are to be asked and one has the value.
  pub asks-not : (ph : Bool) (y s : ℕ) → has_from c y s ≡ false → false ≡ asks_for c ph y s
  unfolding asks_for
  asks-not ph y s e = rw e refl

  pub asks-by : (ph asks : Bool) (o s : ℕ) → Leans c ph asks o → has_from c (owner_in o) s ≡ true → cond asks (fails c (owner_in o) s) true ≡ asks_for c ph (owner_in o) s
  unfolding asks_for
  asks-by ph asks o s l e = rw (l.told, e) refl

  -- The pair of the operand's variable at s, its place and how it waits, as the word says them.
  module _ {ph asks : Bool} {o : ℕ} (l : Leans c ph asks o) (s : ℕ) where
    pub leaner-of : s < c.sizes.states → Leaner c (owner_in o) s
    leaner-of h = record { variable = l.variable; state = h; uses = l.uses }

    pub pair_is : (p : ℕ) → p ≡ row_in o + s → p ≡ pair_in c.sizes (owner_in o) s
    pair_is p e = let r = l.row in omega arith

    pub waits-is : (w : ℕ) → w ≡ waits_in o + s → w ≡ waiting_of (owner_in o) s
    waits-is w e = let r = l.waits in omega arith

  -- The visit of the pair of y and s, by what code finds: the place p of the pair, its mark, whether that leaves it free, and whether
  -- the pair must turn.
  module _ (ph : Bool) (y s : ℕ) (low : s < 1024) (marks queue : List ℕ) (tail visits : ℕ) where
    abbrev place : ℕ
    place = pair_in c.sizes y s

    one-by : (b : Bool) → (free ph (get_or marks place 0) && asks_for c ph y s) ≡ b
        → visit_all c ph (waiting_of y s ∷ []) (line_of marks queue tail visits)
        ≡ cond b (line_of (set marks place (next_mark ph (get_or marks place 0))) (set queue tail (waiting_of y s)) (suc tail) (suc visits)) (line_of marks queue tail (suc visits))
    unfolding visit_all visit_one
    one-by b e =
        let d : variable_in (waiting_of y s) ≡ y = omega arith in
        let m : state_in (waiting_of y s) ≡ s = omega arith in
        rw (d, m, e) refl

    -- A pair that need not turn stays, whatever its mark.
    pub visit-stays : (asked : Bool) → asked ≡ asks_for c ph y s → asked ≡ false
        → line_of marks queue tail (visits + 1) ≡ visit_all c ph (waiting_of y s ∷ []) (line_of marks queue tail visits)
    visit-stays asked f e =
        ap (λ (n : ℕ). line_of marks queue tail n) (add-one visits)
        ∙ sym (one-by false (and_no (free ph (get_or marks place 0)) (sym f ∙ e)))

    module _ (p mark : ℕ) (ready : Bool) (is_p : p ≡ place) (is-mark : mark ≡ get_or marks p 0) (is-ready : ready ≡ free ph mark) where
      ready_at : ready ≡ free ph (get_or marks place 0)
      ready_at = is-ready ∙ ap (free ph) (is-mark ∙ ap (λ (n : ℕ). get_or marks n 0) is_p)

      pub visit-shut : ready ≡ false → line_of marks queue tail (visits + 1) ≡ visit_all c ph (waiting_of y s ∷ []) (line_of marks queue tail visits)
      visit-shut e =
          ap (λ (n : ℕ). line_of marks queue tail n) (add-one visits)
          ∙ sym (one-by false (ap (λ (b : Bool). b && asks_for c ph y s) (sym ready_at ∙ e)))

      pub visit-waits : ready ≡ true → (asked : Bool) → asked ≡ asks_for c ph y s → asked ≡ true
          → (k w : ℕ) (q : List ℕ) → k ≡ next_mark ph mark → w ≡ waiting_of y s → q ≡ set queue tail w
          → line_of (set marks p k) q (tail + 1) (visits + 1) ≡ visit_all c ph (waiting_of y s ∷ []) (line_of marks queue tail visits)
      visit-waits e asked f g k w q is-k is-w is_q =
          ap (λ (n : ℕ). line_of (set marks p k) q (tail + 1) n) (add-one visits)
          ∙ ap (λ (n : ℕ). line_of (set marks p k) q n (suc visits)) (add-one tail)
          ∙ ap (λ (l : List ℕ). line_of l q (suc tail) (suc visits))
          (ap (set marks p) (is-k ∙ ap (next_mark ph) is-mark) ∙ ap (λ (n : ℕ). set marks n (next_mark ph (get_or marks n 0))) is_p)
          ∙ ap (λ (l : List ℕ). line_of (set marks place (next_mark ph (get_or marks place 0))) l (suc tail) (suc visits)) (is_q ∙ ap (set queue tail) is-w)
          ∙ sym (one-by true (and_in (sym ready_at ∙ e) (sym f ∙ g)))

      -- Where the pair comes to wait, the queue has a place for it.
      pub visit-room : ready ≡ true → (asked : Bool) → asked ≡ asks_for c ph y s → asked ≡ true → Room c ph (waiting_of y s ∷ []) (line_of marks queue tail visits) → tail < length queue
      visit-room e asked f g r = let t = ap (λ (x : Line). x.tail) (one-by true (and_in (sym ready_at ∙ e) (sym f ∙ g))) in omega arith

  -- Visits, one list after the other.
  module _ (ph : Bool) where
    pub visit-append : (a b : List ℕ) (v : Line) → visit_all c ph (a ++ b) v ≡ visit_all c ph b (visit_all c ph a v)
    unfolding visit_all
    visit-append [] b v = refl
    visit-append (w ∷ a) b v = visit-append a b (visit_one c ph w v)

    pub visit-none : (v : Line) → visit_all c ph [] v ≡ v
    unfolding visit_all
    visit-none v = refl

    -- What one visit does to the numbers and the lengths.
    pub record Grows (v w : Line) (n : ℕ) : Type 0 where
      pub many : w.visits ≡ v.visits + n
      pub high : w.tail ≤ v.tail + n
      pub low : v.tail ≤ w.tail
      pub long_marks : length w.marks ≡ length v.marks
      pub long_queue : length w.queue ≡ length v.queue

    one_grows : (w : ℕ) (v : Line) → Grows v (visit_one c ph w v) 1
    unfolding visit_one
    one_grows w v = go (free ph (get_or v.marks (pair_in c.sizes (variable_in w) (state_in w)) 0) && asks_for c ph (variable_in w) (state_in w))
      where
        go : (b : Bool) → Grows v (cond b (waited c.sizes ph w v) (passed v)) 1
        go true = record {
          many = omega arith;
          high = omega arith;
          low = omega arith;
          long_marks = length-set v.marks (pair_in c.sizes (variable_in w) (state_in w)) (next_mark ph (get_or v.marks (pair_in c.sizes (variable_in w) (state_in w)) 0));
          long_queue = length-set v.queue v.tail w;
        }
        go false = record { many = omega arith; high = omega arith; low = omega arith; long_marks = refl; long_queue = refl }

    pub visit-grows : (l : List ℕ) (v : Line) → Grows v (visit_all c ph l v) (length l)
    unfolding visit_all
    visit-grows [] v = record { many = omega arith; high = omega arith; low = omega arith; long_marks = refl; long_queue = refl }
    visit-grows (w ∷ l) v =
        let a = one_grows w v in
        let b = visit-grows l (visit_one c ph w v) in
        record {
          many = let e = a.many in let f = b.many in omega arith;
          high = let e = a.high in let f = b.high in omega arith;
          low = let e = a.low in let f = b.low in omega arith;
          long_marks = b.long_marks ∙ a.long_marks;
          long_queue = b.long_queue ∙ a.long_queue;
        }
