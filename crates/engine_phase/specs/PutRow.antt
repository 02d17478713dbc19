-- Which pairs of a row turn, by their values and by `bad`; and what rows leave where two tests agree. Assumes nothing.
use Rattle.std.specs.Prelude.{◌≡◌, refl, Bool, true, false, not, cond, ◌&&◌, ℕ, zero, suc, ◌+◌, ◌-◌, ◌*◌, ◌≤◌, ◌<◌, length, get_or, set, take, drop}
use Rattle.std.proofs.Common.{sym, ap₂, ◌∙◌, subst, zero-add}
use Rattle.std.proofs.Math.Path.{ap}
use mathlib.Core.List.{List, [], ◌∷◌, ◌++◌, map}
use native.Mathlib.Omega.{arith}
use Rattle.std.proofs.lemmas.List.{length-map}
use Rattle.std.proofs.Math.Dec.{eqb}
use Rattle.lists.specs.Lists.{bit, listed}
use Rattle.lists.specs.TableLaws.{listed-is, listed-length, bit-back}
use Rattle.systems.specs.machine.Machine.{next_mark}
use Rattle.systems.specs.lists.ListMachine.{between}
use Rattle.systems.specs.lists.Rows.{hits, row_marks}
use Rattle.rules.specs.declared.Sizes.{Sizes}
use Rattle.laws.specs.model.ModelLeaners.{map-append}
use Rattle.words.specs.Words.{waiting_of}
use Rattle.engine_table.specs.Table.{waiter}
use Rattle.engine_rows.specs.Rooms.{Bits, Packed, hits_in}
use Rattle.engine_rows.specs.Filled.{listed-bits}
use Rattle.engine_rows.specs.RowLoops.{turn_at, mark_at}
use Rattle.engine_rows.specs.Queued.{part_at, waiting-hits, packed_more, marked-back}
use Rattle.engine_phase.specs.Phase.{RowLeft, row-none}

-- The value that pairs turn from: while settling their block's own value, while shifting the other.
abbrev pub turns_from : Bool → Bool → Bool
turns_from true own = own
turns_from false own = not own

-- The pair q of the row from p on must turn: it has the value `from`, and its place is bad.
unfoldable pub turns_in : List ℕ → ℕ → List ℕ → ℕ → ℕ → Bool
turns_in values from bad p q = eqb (get_or values q 0) from && eqb (get_or bad (q - p) 0) 1

-- Tests that agree on a row leave the same.
module _ (f g : ℕ → Bool) (p : ℕ) where
  pub hits-same : (n : ℕ) → ((s : ℕ) → s < n → f (p + s) ≡ g (p + s)) → hits f p n ≡ hits g p n
  hits-same zero e = refl
  hits-same (suc n) e = ap₂ (λ (l : List ℕ) (b : Bool). l ++ cond b ((p + n) ∷ []) []) (hits-same n (λ s h. e s (omega arith))) (e n (omega arith))

  marks-same : (next : ℕ → ℕ) (n : ℕ) (ms : List ℕ) → ((s : ℕ) → s < n → f (p + s) ≡ g (p + s)) → row_marks f next p n ms ≡ row_marks g next p n ms
  marks-same next zero ms e = refl
  marks-same next (suc n) ms e =
      ap₂ (λ (l : List ℕ) (b : Bool). set l (p + n) (cond b (next (get_or l (p + n) 0)) (get_or l (p + n) 0))) (marks-same next n ms (λ s h. e s (omega arith))) (e n (omega arith))

  pub row_same : (z : Sizes) (ph : Bool) (n : ℕ) (marks₀ queue₀ : List ℕ) (tail₀ : ℕ) (marks queue : List ℕ) (tail : ℕ) → ((s : ℕ) → s < n → f (p + s) ≡ g (p + s))
      → RowLeft z f ph p n marks₀ queue₀ tail₀ marks queue tail → RowLeft z g ph p n marks₀ queue₀ tail₀ marks queue tail
  row_same z ph n marks₀ queue₀ tail₀ marks queue tail e l = record {
    marks_are = l.marks_are ∙ marks-same (next_mark ph) n marks₀ e;
    tail_is = l.tail_is ∙ ap (λ (x : List ℕ). tail₀ + length x) (hits-same n e);
    waits = l.waits ∙ ap (λ (x : List ℕ). between (map (waiter z) queue₀) 0 tail₀ ++ x) (hits-same n e);
    packed = l.packed;
  }

-- The places of a queue that is no longer than its room, as the machine has them.
between-take : (g : ℕ → ℕ) (l : List ℕ) (n : ℕ) → n ≤ length l → between (map g l) 0 n ≡ map g (take n l)
between-take g l n h = go n l 0 h (λ i k. ap (λ (j : ℕ). get_or (map g l) j 0) (zero-add i))
  where
    go : (n : ℕ) (k : List ℕ) (a : ℕ) → n ≤ length k → ((i : ℕ) → i < n → get_or (map g l) (a + i) 0 ≡ get_or (map g k) i 0) → between (map g l) a n ≡ map g (take n k)
    go zero k a h e = refl
    go (suc n) [] a h e = absurd (omega arith)
    go (suc n) (x ∷ k) a h e = ap₂ ◌∷◌ (ap (λ (j : ℕ). get_or (map g l) j 0) (let j : a ≡ a + 0 = omega arith in j) ∙ e 0 (omega arith))
        (go n k (suc a) (omega arith) (λ i q. ap (λ (j : ℕ). get_or (map g l) j 0) (let j : suc a + i ≡ a + suc i = omega arith in j) ∙ e (suc i) (omega arith)))

-- A row of n pairs from p on, as the loops leave it: `turns` is what became of `bad`.
module _ (z : Sizes) (y : ℕ) (values bad turns : List ℕ) (from p n : ℕ) (is_p : p ≡ y * z.states) (long : length bad ≡ n) (few : n ≤ 1024)
    (k : ℕ) (is-k : k ≡ n) (told : turns ≡ listed 0 (length bad) (λ s. bit (turn_at (take k (drop p values)) from bad s))) where
  is-turns : turns ≡ listed 0 (length bad) (λ s. bit (turn_at (take n (drop p values)) from bad s))
  is-turns = told ∙ ap (λ (j : ℕ). listed 0 (length bad) (λ s. bit (turn_at (take j (drop p values)) from bad s))) is-k

  turns-long : length turns ≡ n
  turns-long = ap length is-turns ∙ listed-length 0 (length bad) (λ s. bit (turn_at (take n (drop p values)) from bad s)) ∙ long

  -- It holds bits.
  pub put-bits : Bits turns
  put-bits = subst Bits (sym is-turns) (listed-bits (length bad) (turn_at (take n (drop p values)) from bad))

  -- It says which pairs must turn.
  pub put-tests : (s : ℕ) → s < n → eqb (get_or turns s 0) 1 ≡ turns_in values from bad p (p + s)
  unfolding turns_in
  put-tests s h =
      ap (λ (l : List ℕ). eqb (get_or l s 0) 1) is-turns
      ∙ ap (λ (k : ℕ). eqb k 1) (listed-is (length bad) (λ s. bit (turn_at (take n (drop p values)) from bad s)) s (omega arith))
      ∙ bit-back (turn_at (take n (drop p values)) from bad s)
      ∙ ap (λ (k : ℕ). eqb k from && eqb (get_or bad s 0) 1) (part_at p n values s h)
      ∙ ap (λ (k : ℕ). eqb (get_or values (p + s) 0) from && eqb (get_or bad k 0) 1) (let e : s ≡ p + s - p = omega arith in e)

  hits-are : map (waiter z) (map (waiting_of y) (hits_in turns)) ≡ hits (turns_in values from bad p) p n
  hits-are =
      ap (λ (k : ℕ). map (waiter z) (map (waiting_of y) (hits (λ s. eqb (get_or turns s 0) 1) 0 k))) turns-long
      ∙ waiting-hits z y (turns_in values from bad p) (λ s. eqb (get_or turns s 0) 1) n few (λ s h. put-tests s h ∙ ap (λ (k : ℕ). turns_in values from bad p (k + s)) is_p)
      ∙ ap (λ (k : ℕ). hits (turns_in values from bad p) k n) (sym is_p)

  -- As many must turn.
  pub put-hits : length (hits_in turns) ≡ length (hits (turns_in values from bad p) p n)
  put-hits =
      sym (length-map (map (waiting_of y) (hits_in turns)) (waiter z) ∙ length-map (hits_in turns) (waiting_of y)) ∙ ap length hits-are

  module _ (marks queue : List ℕ) (tail : ℕ) (packed : Packed z queue tail) (ph : Bool) where
    -- Where none must, all stays.
    pub put-none : ((s : ℕ) → get_or turns s 0 ≡ 0) → RowLeft z (turns_in values from bad p) ph p n marks queue tail marks queue tail
    put-none h = row-none z (turns_in values from bad p) ph p n marks queue tail (λ s l. sym (put-tests s l) ∙ ap (λ (k : ℕ). eqb k 1) (h s)) packed

    -- Where some must, they get their marks and wait.
    pub put-left : y < z.variables → n ≤ z.states → p + n ≤ length marks → (row marks' queue' : List ℕ) (tail' : ℕ)
        → row ≡ listed 0 (length (take k (drop p marks))) (mark_at turns ph (take k (drop p marks))) → marks' ≡ take p marks ++ (row ++ drop k (drop p marks))
        → tail + length (hits_in turns) < length queue → length queue' ≡ length queue → tail' ≡ tail + length (hits_in turns)
        → take tail' queue' ≡ take tail queue ++ map (waiting_of y) (hits_in turns)
        → RowLeft z (turns_in values from bad p) ph p n marks queue tail marks' queue' tail'
    put-left lt within room row marks' queue' tail' is_row is-marks fits same is-tail front = record {
      marks_are = is-marks ∙ ap (λ (j : ℕ). take p marks ++ (row ++ drop j (drop p marks))) is-k
          ∙ marked-back (turns_in values from bad p) ph p n turns marks row room (λ s h. put-tests s h)
          (is_row ∙ ap (λ (j : ℕ). listed 0 (length (take j (drop p marks))) (mark_at turns ph (take j (drop p marks)))) is-k);
      tail_is = is-tail ∙ ap (λ (k : ℕ). tail + k) put-hits;
      waits =
          between-take (waiter z) queue' tail' (omega arith) ∙ ap (map (waiter z)) front ∙ map-append (waiter z) (take tail queue) (map (waiting_of y) (hits_in turns))
          ∙ ap₂ ◌++◌ (sym (between-take (waiter z) queue tail (omega arith))) hits-are;
      packed = packed_more z y (λ s. eqb (get_or turns s 0) 1) queue queue' tail n tail' lt within few (omega arith) (is-tail ∙ ap (λ (k : ℕ). tail + length (hits (λ s. eqb (get_or turns s 0) 1) 0 k)) turns-long)
          (front ∙ ap (λ (k : ℕ). take tail queue ++ map (waiting_of y) (hits (λ s. eqb (get_or turns s 0) 1) 0 k)) turns-long) packed;
    }
