-- The row of a variable that an equation names, cut out of all values and marks: what is asked of it is what is asked of its pairs.
-- Assumes nothing.
use Rattle.std.specs.Prelude.{◌≡◌, Bool, true, not, cond, ◌&&◌, ◌||◌, List, ℕ, ◌+◌, ◌*◌, ◌/◌, ◌%◌, ◌<◌, length, get_or, take, drop, eqb, ltb}
use Rattle.std.proofs.Common.{refl, sym, ap, ◌∙◌, zero-add}
use Rattle.lists.specs.Ranges.{some_same}
use Rattle.lists.specs.Lists.{some_below}
use Rattle.lists.specs.Tests.{ltb-is}
use Rattle.rules.specs.Moves.{source, action, target}
use Rattle.rules.specs.Model.{moves_ok}
use Rattle.rules.specs.Batch.{changes_ok}
use Rattle.rules.specs.declared.Sizes.{Sizes}
use Rattle.words.specs.Words.{changes_of}
use Rattle.engine_index.specs.Targets.{leads_where}
use Rattle.engine_rows.specs.Queued.{part_at}
use Rattle.engine_shift.specs.declared.row.Row.{Row}
use Rattle.engine_shift.specs.Anys.{any-alike, targets-in, changes-in}
use Rattle.engine_shift.specs.RowSeeds.{may_in, join-shown, step-shown}
use Rattle.engine_shift.specs.Seeds.{odd_at, gone_to, was_not, of_kind, touches, touches_at, earlier_in, leads_gone, join_seeds, step_seeds}

-- The row is that of the variable x, as a row of the block i sees it.
pub record RowOf (z : Sizes) (equations values marks : List ℕ) (i x : ℕ) (r : Row) : Type 0 where
  pub values_are : r.values.now ≡ take z.states (drop (x * z.states) values)
  pub marks_are : r.marks.now ≡ take z.states (drop (x * z.states) marks)
  pub seen : r.earlier ≡ earlier_in equations x i
  pub long : length r.values.now ≡ z.states

module _ {z : Sizes} {equations values marks : List ℕ} {i x : ℕ} {r : Row} (o : RowOf z equations values marks i x r) where
  value-part : (s : ℕ) → s < z.states → get_or r.values.now s 0 ≡ get_or values (x * z.states + s) 0
  value-part s h = ap (λ (l : List ℕ). get_or l s 0) o.values_are ∙ part_at (x * z.states) z.states values s h

  odd-part : (s : ℕ) → s < z.states → odd_at r.marks.now s ≡ odd_at marks (x * z.states + s)
  odd-part s h = ap (λ (n : ℕ). eqb (n % 2) 1) (ap (λ (l : List ℕ). get_or l s 0) o.marks_are ∙ part_at (x * z.states) z.states marks s h)

  -- Whether a pair of it went, and what its old value was not.
  gone-part : (k s : ℕ) → s < z.states → gone_to r.values.now r.marks.now k s ≡ gone_to values marks k (x * z.states + s)
  gone-part k s h =
      ap (λ (b : Bool). b && eqb (get_or r.values.now s 0) k) (odd-part s h) ∙ ap (λ (n : ℕ). odd_at marks (x * z.states + s) && eqb n k) (value-part s h)

  was-part : (k s : ℕ) → s < z.states → was_not r.values.now r.marks.now r.earlier k s ≡ was_not values marks r.earlier k (x * z.states + s)
  unfolding was_not
  was-part k s h =
      ap (λ (b : Bool). cond (r.earlier && b) (eqb (get_or r.values.now s 0) k) (not (eqb (get_or r.values.now s 0) k))) (odd-part s h)
      ∙ ap (λ (n : ℕ). cond (r.earlier && odd_at marks (x * z.states + s)) (eqb n k) (not (eqb n k))) (value-part s h)

  -- Whether one of it may have gone.
  pub may-part : (r.earlier && some_below (length r.marks.now) (λ s. odd_at r.marks.now s)) ≡ may_in z equations marks x i
  may-part =
      ap (λ (b : Bool). b && some_below (length r.marks.now) (λ s. odd_at r.marks.now s)) o.seen
      ∙ ap (λ (n : ℕ). earlier_in equations x i && some_below n (λ s. odd_at r.marks.now s)) (r.even ∙ o.long)
      ∙ ap (λ (b : Bool). earlier_in equations x i && b) (some_same z.states (λ s. odd_at r.marks.now s) (λ s. odd_at marks (x * z.states + s)) odd-part)

  -- Which states have a move to a pair of it that went.
  leads-part : (moves : List ℕ) → moves_ok z 0 moves ≡ true → (k a s : ℕ)
      → leads_where moves a (λ t. gone_to r.values.now r.marks.now k t) s ≡ leads_gone moves values marks k a (x * z.states) s
  unfolding leads_gone
  leads-part moves ok k a s =
      any-alike (λ q. ltb (target q) z.states) (λ q. (eqb (source q) s && eqb (action q) a) && gone_to r.values.now r.marks.now k (target q))
      (λ q. (eqb (source q) s && eqb (action q) a) && gone_to values marks k (x * z.states + target q)) moves (targets-in z 0 moves ok)
      (λ q f. ap (λ (b : Bool). (eqb (source q) s && eqb (action q) a) && b) (gone-part k (target q) ((ltb-is (target q) z.states).0 f)))

  -- Which states have moves that a change touches.
  touches-part : (changes : List ℕ) → changes_ok z (changes_of changes) ≡ true → (g : Bool) (k a s : ℕ)
      → touches_at changes r.values.now r.marks.now r.earlier g k a 0 s ≡ touches_at changes values marks r.earlier g k a (x * z.states) s
  unfolding touches_at touches
  touches-part changes ok g k a s =
      any-alike (λ w. ltb (target (w / 2)) z.states)
      (λ w. (of_kind g a w && (g || was_not r.values.now r.marks.now r.earlier k (0 + target (w / 2)))) && eqb (source (w / 2)) s)
      (λ w. (of_kind g a w && (g || was_not values marks r.earlier k (x * z.states + target (w / 2)))) && eqb (source (w / 2)) s) changes (changes-in z changes ok)
      (λ w f. ap (λ (b : Bool). (of_kind g a w && (g || b)) && eqb (source (w / 2)) s)
      (ap (λ (n : ℕ). was_not r.values.now r.marks.now r.earlier k n) (zero-add (target (w / 2))) ∙ was-part k (target (w / 2)) ((ltb-is (target (w / 2)) z.states).0 f)))

  -- What a diamond or a box of the variable seeds, told from its row.
  pub step-told : (moves changes : List ℕ) → moves_ok z 0 moves ≡ true → changes_ok z (changes_of changes) ≡ true → (g may : Bool) (k a : ℕ)
      → may ≡ (r.earlier && some_below (length r.marks.now) (λ s. odd_at r.marks.now s)) → (s : ℕ)
      → step_seeds z equations moves changes values marks g a x i k s
      ≡ (touches_at changes r.values.now r.marks.now r.earlier g k a 0 s || (may && leads_where moves a (λ t. gone_to r.values.now r.marks.now k t) s))
  step-told moves changes ok right g may k a e s =
      step-shown z equations values marks i k moves changes ok g a x s r.earlier may (x * z.states) o.seen (e ∙ may-part) refl
      ∙ ap (λ (b : Bool). b || (may && leads_gone moves values marks k a (x * z.states) s)) (sym (touches-part changes right g k a s))
      ∙ ap (λ (b : Bool). touches_at changes r.values.now r.marks.now r.earlier g k a 0 s || (may && b)) (sym (leads-part moves ok k a s))

  -- What an "or" or an "and" of it and of a second variable seeds.
  pub join-told : {y : ℕ} {q : Row} → RowOf z equations values marks i y q → (k : ℕ) (one two : Bool)
      → one ≡ (r.earlier && some_below (length r.marks.now) (λ s. odd_at r.marks.now s)) → two ≡ may_in z equations marks y i → (s : ℕ) → s < z.states
      → join_seeds z equations values marks x y i k s
      ≡ ((one && gone_to r.values.now r.marks.now k s) || (two && gone_to values marks k (y * z.states + s)))
  join-told {y} {q} p k one two e f s h =
      join-shown z equations values marks i k x y s one two (e ∙ may-part) f h
      ∙ ap (λ (b : Bool). (one && b) || (two && gone_to values marks k (y * z.states + s))) (sym (gone-part k s h))

-- The same, told from both rows.
pub join-rows-told : {z : Sizes} {equations values marks : List ℕ} {i x y : ℕ} {r q : Row} → RowOf z equations values marks i x r → RowOf z equations values marks i y q
    → (k : ℕ) (one two : Bool) → one ≡ (r.earlier && some_below (length r.marks.now) (λ s. odd_at r.marks.now s))
    → two ≡ (q.earlier && some_below (length q.marks.now) (λ s. odd_at q.marks.now s)) → (s : ℕ) → s < z.states
    → join_seeds z equations values marks x y i k s ≡ ((one && gone_to r.values.now r.marks.now k s) || (two && gone_to q.values.now q.marks.now k s))
join-rows-told {z} {equations} {values} {marks} {i} {x} {y} {r} {q} o p k one two e f s h =
    join-told o p k one two e (f ∙ may-part p) s h
    ∙ ap (λ (b : Bool). (one && gone_to r.values.now r.marks.now k s) || (two && b)) (sym (gone-part p k s h))
