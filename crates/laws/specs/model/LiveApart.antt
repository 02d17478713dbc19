-- Whether a model is live plays no part in its values, in what a batch turns and in the visits. Assumes nothing.
use Rattle.std.specs.Prelude.{◌≡◌, Bool, true, false, not, ◌&&◌, ◌||◌, ltb}
use Rattle.std.proofs.Math.Path.{refl, ap, ap₂, fun_ext}
use Rattle.std.proofs.Math.Bool.{cond}
use mathlib.Core.List.{List, []}
use Prim.Native.Nat.{ℕ, zero, suc}
use Rattle.std.proofs.Math.Dec.{eqb}
use Rattle.lists.specs.Marks.{put}
use Rattle.lists.specs.Lists.{is, any, count, sum}
use Rattle.lists.specs.Smallest.{Rule, table, at, smallest}
use Rattle.rules.specs.Batch.{Change, inserts, deletes}
use Rattle.rules.specs.Model.{Model, WellFormed, well_formed, live_ok, blocks_of}
use Rattle.rules.specs.Rooms.{pairs_of}
use Rattle.rules.specs.Update.{gains, loses, went, shifts, turned_to, Turned, turn_block, turn_to, turn_all, visits_on}
use Rattle.rules.specs.Values.{Values, Term, constant, proposition, join, step, state_of, term_at, block_of, greatest, leanings_by, leanings, gives_by, gives, settles, fresh, solve_to, solve}
use Rattle.rules.specs.declared.State.{State}
use Rattle.lists.specs.Tests.{and_is}

-- The model, not said to be live.
abbrev pub still : Model → Model
still m = record { sizes = m.sizes; live = 0; labels = m.labels; equations = m.equations; moves = m.moves }

-- It is inside the limits where the model is.
pub still-good : (m : Model) → WellFormed m → WellFormed (still m)
unfolding well_formed live_ok
still-good m w = let k = simp and_is at w in simp and_is (k.0, (k.1.0, (refl, refl)))

module _ (m : Model) where
  leans-by : (s : State) (t : Term) → leanings_by (still m) s t ≡ leanings_by m s t
  leans-by s (constant c) = refl
  leans-by s (proposition c q) = refl
  leans-by s (join k x y) = refl
  leans-by s (step k a x) = refl

  leans : (p : ℕ) → leanings (still m) p ≡ leanings m p
  unfolding leanings term_at
  leans p = ap (λ (l : List ℕ). cond (ltb p (pairs_of m.sizes)) l []) (leans-by (state_of m.sizes p) (term_at m p))

  gives-by : (v : Values) (s : State) (t : Term) → gives_by (still m) v s t ≡ gives_by m v s t
  gives-by v s (constant c) = refl
  gives-by v s (proposition c q) = refl
  gives-by v s (join true x y) = refl
  gives-by v s (join false x y) = refl
  gives-by v s (step true a x) = refl
  gives-by v s (step false a x) = refl

  gives_same : (v : Values) (p : ℕ) → gives (still m) v p ≡ gives m v p
  unfolding gives term_at
  gives_same v p = gives-by v (state_of m.sizes p) (term_at m p)

  loses-by : (b : Bool) (dels : List ℕ) (old : Values) (s : State) (t : Term) → loses b (still m) dels old s t ≡ loses b m dels old s t
  loses-by b dels old s (constant c) = refl
  loses-by b dels old s (proposition c q) = refl
  loses-by b dels old s (join k x y) = refl
  loses-by b dels old s (step k a x) = refl

  -- The two rules of a block.
  settles-same : (i : ℕ) (v : Values) → ◌≡◌ {A = Rule} (settles (still m) i v) (settles m i v)
  unfolding settles block_of greatest
  settles-same i v = fun_ext (λ s. fun_ext (λ p.
      let b = greatest m i in ap (λ (x : Bool). eqb (block_of m p) i && (is b (v p) && is (not b) x)) (gives_same (put (not b) v s) p)))

  shifts-same : (cs : List Change) (i : ℕ) (old v : Values) → ◌≡◌ {A = Rule} (shifts (still m) cs i old v) (shifts m cs i old v)
  unfolding shifts block_of greatest term_at
  shifts-same cs i old v = fun_ext (λ s. fun_ext (λ p.
      let b = greatest m i in
      let here = state_of m.sizes p in
      ap₂ (λ (x : Bool) (l : List ℕ). eqb (block_of m p) i && (is (not b) (old p)
      && ((gains b (inserts cs) here (term_at m p) || x) || any (λ q. s q || went m i b old v q) l))) (loses-by b (deletes cs) old here (term_at m p)) (leans p)))

  -- The values.
  solve-to : (i : ℕ) → solve_to (still m) i ≡ solve_to m i
  unfolding solve_to block_of greatest
  solve-to zero = refl
  solve-to (suc i) =
      let n = pairs_of m.sizes in
      ap₂ (λ (l : List Bool) (f : Values → Rule).
      let v = table n (fresh m i (at l)) in table n (put (not (greatest m i)) (at v) (at (smallest n (f (at v)))))) (solve-to i) (fun_ext (λ v. settles-same i v))

  pub solve-still : solve (still m) ≡ solve m
  unfolding solve
  solve-still = solve-to (blocks_of m)

  -- What a batch turns.
  turn-to : (cs : List Change) (old : Values) (i : ℕ) → turn_to (still m) cs old i ≡ turn_to m cs old i
  unfolding turn_to turn_block greatest
  turn-to cs old zero = refl
  turn-to cs old (suc i) =
      let n = pairs_of m.sizes in
      let b = greatest m i in
      let after : Turned → (Values → Rule) → (Values → Rule) → Turned =
      λ t up down. (let u = smallest n (up (at t.values)) in
      let w = turned_to m b (at t.values) u in
      let d = smallest n (down w) in
      record {
        values = table n (put (not b) w (at d));
        shifted = table n (λ p. at t.shifted p || at u p);
        settled = table n (λ p. at t.settled p || at d p);
      }) in
      λ j. after (turn-to cs old i j) (λ v. shifts-same cs i old v j) (λ v. settles-same i v j)

  pub turn-still : (cs : List Change) (old : Values) → turn_all (still m) cs old ≡ turn_all m cs old
  unfolding turn_all
  turn-still cs old = turn-to cs old (blocks_of m)

  -- The visits.
  pub visits-still : (s : ℕ → Bool) → visits_on (still m) s ≡ visits_on m s
  unfolding visits_on block_of
  visits-still s = ap (λ (f : ℕ → List ℕ). sum (pairs_of m.sizes) (λ p. count (λ q. eqb (block_of m q) (block_of m p) && s q) (f p))) (fun_ext leans)
