-- Visits as code makes them are visits as the machine makes them, where both ask the same; and what waits stays packed. Assumes nothing.
use Rattle.std.specs.Prelude.{◌≡◌, Bool, ◌&&◌, length, get_or, set}
use Rattle.std.proofs.Math.Path.{refl, ap, ap₂}
use Rattle.std.proofs.Common.{sym, ◌∙◌, inl, inr, le_of_suc-le-suc, eq-or-lt_of_le, get_or-set_other}
use Rattle.std.proofs.Math.Bool.{true, false, cond}
use mathlib.Core.List.Memᴰ
use mathlib.Core.List.{List, [], ◌∷◌, map}
use Prim.Native.Nat.{ℕ, zero, suc, ◌+◌, ◌<◌}
use Rattle.std.proofs.Math.Decide.{dec_lt}
use native.Mathlib.Omega.{arith}
use Rattle.std.proofs.Math.ListN.{length-set, get_or-eq_default}
use Rattle.std.proofs.lemmas.List.{length-map}
use Rattle.std.proofs.Math.Seq.{get_or-set_same}
use Rattle.lists.specs.Tests.{◌∈◌}
use Rattle.systems.specs.machine.Machine.{free, next_mark}
use Rattle.systems.specs.lists.ListMachine.{Pile, wait_l, push_l, spread_l}
use Rattle.rules.specs.Model.{Model}
use Rattle.words.specs.Words.{variable_in, state_in}
use Rattle.engine_table.specs.Table.{waiter}
use Rattle.engine_rows.specs.Rooms.{Packed, pile_in}
use Rattle.engine_turn.specs.Scene.{Scene, asks_for, Line, waited, passed, visit_one, visit_all}
use Rattle.engine_turn.specs.VisitLaws.{visit-grows}
use Rattle.engine_turn.specs.Turns.{Visit, ask_of, visited}

-- An entry set, and then each entry changed.
map-set : (f : ℕ → ℕ) (l : List ℕ) (i v : ℕ) → map f (set l i v) ≡ set (map f l) i (f v)
map-set f [] i v = refl
map-set f (x ∷ l) zero v = refl
map-set f (x ∷ l) (suc i) v = ap (λ (t : List ℕ). f x ∷ t) (map-set f l i v)

module _ (c : Scene) (ph : Bool) where
  -- The marks and the queue of a line, as the machine has them.
  abbrev pub pile_by : ℕ → Line → Pile
  pile_by from v = pile_in c.sizes v.marks v.queue from v.tail

  one-pile : (ask : ℕ → Bool) (from w : ℕ) (v : Line) → asks_for c ph (variable_in w) (state_in w) ≡ ask (waiter c.sizes w)
      → pile_by from (visit_one c ph w v) ≡ push_l (free ph) (next_mark ph) ask (waiter c.sizes w) (pile_by from v)
  unfolding visit_one
  one-pile ask from w v e =
      go (free ph (get_or v.marks (waiter c.sizes w) 0) && asks_for c ph (variable_in w) (state_in w))
      ∙ ap (λ (b : Bool). cond (free ph (get_or v.marks (waiter c.sizes w) 0) && b) (wait_l (next_mark ph) (waiter c.sizes w) (pile_by from v)) (pile_by from v)) e
    where
      go : (b : Bool) → pile_by from (cond b (waited c.sizes ph w v) (passed v)) ≡ cond b (wait_l (next_mark ph) (waiter c.sizes w) (pile_by from v)) (pile_by from v)
      go true =
          ap (λ (q : List ℕ). record { marks = (waited c.sizes ph w v).marks; queue = q; from = from; tail = suc v.tail }) (map-set (waiter c.sizes) v.queue v.tail w)
      go false = refl

  all-piles : (ask : ℕ → Bool) (from : ℕ) (l : List ℕ) (v : Line) → ((w : ℕ) → w ∈ l → asks_for c ph (variable_in w) (state_in w) ≡ ask (waiter c.sizes w))
      → pile_by from (visit_all c ph l v) ≡ spread_l (free ph) (next_mark ph) ask (map (waiter c.sizes) l) (pile_by from v)
  unfolding visit_all
  all-piles ask from [] v e = refl
  all-piles ask from (w ∷ l) v e =
      all-piles ask from l (visit_one c ph w v) (λ q m. e q (Memᴰ.tail m))
      ∙ ap (spread_l (free ph) (next_mark ph) ask (map (waiter c.sizes) l)) (one-pile ask from w v (e w (Memᴰ.head refl)))

  -- The whole run.
  pub run-visited : (m : Model) (vs : List ℕ) (from : ℕ) (l : List ℕ) (v w : Line) → w ≡ visit_all c ph l v
      → ((q : ℕ) → q ∈ l → asks_for c ph (variable_in q) (state_in q) ≡ ask_of m ph vs (waiter c.sizes q))
      → record { pile = pile_by from w; visits = w.visits } ≡ visited m ph vs (map (waiter c.sizes) l) (record { pile = pile_by from v; visits = v.visits })
  unfolding visited
  run-visited m vs from l v w e asks =
      ap (λ (x : Line). record { pile = pile_by from x; visits = x.visits }) e
      ∙ ap₂ {C = Visit} (λ (p : Pile) (n : ℕ). record { pile = p; visits = n }) (all-piles (ask_of m ph vs) from l v asks)
      ((visit-grows c ph l v).many ∙ ap (λ (n : ℕ). v.visits + n) (sym (length-map l (waiter c.sizes))))

  -- What waits stays packed.
  one-packed : (w : ℕ) (v : Line) → (variable_in w < c.sizes.variables) × (state_in w < c.sizes.states) → Packed c.sizes v.queue v.tail
      → Packed c.sizes (visit_one c ph w v).queue (visit_one c ph w v).tail
  unfolding visit_one
  one-packed w v h p = go (free ph (get_or v.marks (waiter c.sizes w) 0) && asks_for c ph (variable_in w) (state_in w))
    where
      at-end : (variable_in (get_or (set v.queue v.tail w) v.tail 0) < c.sizes.variables) × (state_in (get_or (set v.queue v.tail w) v.tail 0) < c.sizes.states)
      at-end = elim (dec_lt v.tail (length v.queue)) [
        | yes l ↦ let e = get_or-set_same v.queue v.tail w 0 l in rw e h
        | no l ↦
            let q = length-set v.queue v.tail w in
            let e = get_or-eq_default (set v.queue v.tail w) 0 {n = v.tail} (omega arith) in
            let a = h.0 in
            let b = h.1 in
            rw e (omega arith, omega arith)
      ]

      go : (b : Bool) → Packed c.sizes (cond b (waited c.sizes ph w v) (passed v)).queue (cond b (waited c.sizes ph w v) (passed v)).tail
      go true i l = elim (eq-or-lt_of_le (le_of_suc-le-suc l)) [
        | inl e ↦ rw e at-end
        | inr e ↦ let f = get_or-set_other v.queue v.tail i w 0 (λ k. absurd (omega arith)) in rw f (p i e)
      ]
      go false i l = p i l

  pub all-packed : (l : List ℕ) (v : Line) → ((w : ℕ) → w ∈ l → (variable_in w < c.sizes.variables) × (state_in w < c.sizes.states)) → Packed c.sizes v.queue v.tail
      → Packed c.sizes (visit_all c ph l v).queue (visit_all c ph l v).tail
  unfolding visit_all
  all-packed [] v h p = p
  all-packed (w ∷ l) v h p = all-packed l (visit_one c ph w v) (λ q m. h q (Memᴰ.tail m)) (one-packed w v (h w (Memᴰ.head refl)) p)
