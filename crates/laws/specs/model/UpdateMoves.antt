-- An update moves the values of the model's system: the same pairs shift, the same settle, and the values, marks and visits
-- are the system's, whatever the values before it were. Assumes nothing.
use Rattle.std.specs.Prelude.{◌≡◌, false, ◌&&◌, List, [], ◌∷◌, ltb}
use Rattle.std.proofs.Math.Path.{refl, sym, ap, ap₂, fun_ext}
use Rattle.std.proofs.Common.{◌∙◌, subst, le_refl, arith}
use Rattle.std.proofs.Math.Logic.{inl, inr}
use Rattle.std.proofs.Math.Bool.{Bool, true, not, ◌||◌}
use mathlib.Core.List.Memᴰ
use Prim.Native.Nat.{◌+◌, ℕ, zero, suc, ◌≤◌, ◌<◌}
use Rattle.std.proofs.Math.Dec.{eqb}
use Rattle.lists.specs.Marks.{mark_of, put}
use Rattle.lists.specs.Lists.{is, any, bit, count}
use Rattle.lists.specs.Smallest.{Rule, table, at, smallest}
use Rattle.lists.specs.Sums.{sum-ext}
use Rattle.lists.specs.Tests.{◌∈◌, tests, tell, eqb-out, ltb-out, any_same}
use Rattle.lists.specs.TableLaws.{table_is, table_at, table-past}
use Rattle.systems.specs.solution.System.{Frame, Leans, Fits, settled, shifted, move_to, lifted, move}
use Rattle.systems.specs.solution.System as S
use Rattle.systems.specs.moving.Marks.{shift_of, settle_of, visits}
use Rattle.systems.specs.moving.UpTo.{up_to, up_in, up-off, shift-at, settle-at, shift_suc, settle-suc}
use Rattle.rules.specs.Moves.{target}
use Rattle.rules.specs.Model.{Model, move_ok, blocks_of}
use Rattle.rules.specs.Rooms.{pairs_of}
use Rattle.rules.specs.Batch.{Change, inserts, deletes}
use Rattle.rules.specs.Values.{Values, state, pair, state_of, term_at, block_of, greatest, leanings, settles, settled_set}
use Rattle.rules.specs.Update.{changed, gains, loses, went, shifts, shifted_set, turned_to, turn_block, turn_to, turn_all, visits_on}
use Rattle.rules.specs.declared.Variable.{Variable}
use Rattle.laws.specs.moves.Edits.{Judged}
use Rattle.laws.specs.chains.Named.{move-range}
use Rattle.laws.specs.model.ModelSystem.{frame, block_inside, Sound, pair-below, pairs-full, model-fits}
use Rattle.laws.specs.demands.ValuesSolve.{smallest-past, settles-drops}
use Rattle.laws.specs.model.Seeds.{delete-old, seeds-same}

-- In the model m with its new moves: the values that block i begins with, its shifted set, the values once these pairs have
-- turned, and its settled set.
abbrev pub begun : Model → List Change → Values → ℕ → Values
begun m cs old i = at (turn_to m cs old i).values

abbrev pub shifted_in : Model → List Change → Values → ℕ → List Bool
shifted_in m cs old i = shifted_set m cs i old (begun m cs old i)

abbrev pub raised : Model → List Change → Values → ℕ → Values
raised m cs old i = turned_to m (greatest m i) (begun m cs old i) (shifted_in m cs old i)

abbrev pub settled_in : Model → List Change → Values → ℕ → List Bool
settled_in m cs old i = settled_set m i (raised m cs old i)

-- Moves do not change what the equations are, nor where they stand.
pub frame_same : (m : Model) (cs : List Change) → frame (changed cs m) ≡ frame m
unfolding term_at block_of greatest
frame_same m cs = refl

module _ (m : Model) (cs : List Change) (j : Judged m.moves cs) (ok : Sound m) (ok' : Sound (changed cs m)) (old : Values) where
  -- The values before, kept as a table.
  abbrev pub was : Values
  was = at (table (pairs_of m.sizes) old)

  abbrev F : Frame
  F = frame (changed cs m)

  abbrev L : Leans
  L = leanings m

  abbrev M : Leans
  M = leanings (changed cs m)

  pub fits-old : Fits F L
  fits-old = subst (λ (f : Frame). Fits f L) (sym (frame_same m cs)) (model-fits m ok)

  pub fits-new : Fits F M
  fits-new = model-fits (changed cs m) ok'

  was-at : (p : ℕ) → p < pairs_of m.sizes → was p ≡ old p
  was-at p h = table_at (pairs_of m.sizes) old p h

  -- A pair that went from one value to the other did so in the system.
  went-rose : (i : ℕ) → i < blocks_of m → (v : Values) (q : ℕ) → went (changed cs m) i (greatest (changed cs m) i) old v q ≡ S.rose F i was v q
  went-rose i lt v q =
      elim (tell true (ltb (block_of (changed cs m) q) i)) [
        | inl e ↦
            let h = block_inside (changed cs m) q (let k = ltb-out (block_of (changed cs m) q) i e in omega arith) in
            ap (λ (x : Bool). ltb (block_of (changed cs m) q) i && (is (not (greatest (changed cs m) i)) x && is (greatest (changed cs m) i) (v q))) (sym (was-at q h))
        | inr e ↦ rw e refl
      ]

  -- The target pair of a deleted move is below the count.
  near : (q : ℕ) (x : Variable) → q ∈ deletes cs → x.0 < m.sizes.variables → was (pair m.sizes (state (target q)) x) ≡ old (pair m.sizes (state (target q)) x)
  unfolding move_ok
  near q x d h =
      let r = simp tests at (move-range m.sizes 0 ok.moves (delete-old m.moves cs j d)) in
      was-at (pair m.sizes (state (target q)) x) (pair-below m (state (target q)) x r.1 h)

  seeds-at : (b : Bool) (p : ℕ) → p < pairs_of m.sizes
      → (gains b (inserts cs) (state_of m.sizes p) (term_at (changed cs m) p) || loses b (changed cs m) (deletes cs) old (state_of m.sizes p) (term_at (changed cs m) p))
      ≡ S.seeds L M was b (is b (F.kind p)) p
  unfolding term_at
  seeds-at b p h = seeds-same m ok cs j old was b p h near

  -- Shifting asks for the same pairs.
  shifts-at : (i : ℕ) → i < blocks_of m → (v : Values) (s : ℕ → Bool) (p : ℕ) → p < pairs_of m.sizes
      → shifts (changed cs m) cs i old v s p ≡ S.shifts F L M i was v s p
  unfolding shifts S.shifts
  shifts-at i lt v s p h =
      let b = greatest (changed cs m) i in
      let here = eqb (block_of (changed cs m) p) i in
      let f : ℕ → Bool = λ q. s q || went (changed cs m) i b old v q in
      let g : ℕ → Bool = λ q. s q || S.rose F i was v q in
      ap (λ (x : Bool). here && (is (not b) x && ((gains b (inserts cs) (state_of m.sizes p) (term_at (changed cs m) p)
      || loses b (changed cs m) (deletes cs) old (state_of m.sizes p) (term_at (changed cs m) p)) || any f (M p)))) (sym (was-at p h))
      ∙ ap (λ (x : Bool). here && (is (not b) (was p) && (x || any f (M p)))) (seeds-at b p h)
      ∙ ap (λ (x : Bool). here && (is (not b) (was p) && (S.seeds L M was b (is b (F.kind p)) p || x)))
      (any_same f g (M p) (λ q. ap (λ (x : Bool). s q || x) (went-rose i lt v q)))

  pub shifts-same : (i : ℕ) → i < blocks_of m → (v : Values) → ◌≡◌ {A = Rule} (shifts (changed cs m) cs i old v) (S.shifts F L M i was v)
  unfolding shifts S.shifts
  shifts-same i lt v = fun_ext (λ s. fun_ext (λ p. elim (tell true (eqb (block_of (changed cs m) p) i)) [
    | inl e ↦ shifts-at i lt v s p (let k = eqb-out (block_of (changed cs m) p) i e in block_inside (changed cs m) p (omega arith))
    | inr e ↦ rw e refl
  ]))

  -- The values after the first i blocks, and the pairs that shifted and settled in them, are the system's.
  pub record Same (i : ℕ) : Type 0 where
    pub values : ◌≡◌ {A = Values} (at (turn_to (changed cs m) cs old i).values) (move_to F L M was i)
    pub past : (p : ℕ) → pairs_of m.sizes ≤ p → at (turn_to (changed cs m) cs old i).values p ≡ false
    pub shifted : (p : ℕ) → p < pairs_of m.sizes → at (turn_to (changed cs m) cs old i).shifted p ≡ up_to F (shift_of F L M was) i p
    pub settled : (p : ℕ) → p < pairs_of m.sizes → at (turn_to (changed cs m) cs old i).settled p ≡ up_to F (settle_of F L M was) i p

  module _ (i : ℕ) (lt : i < blocks_of m) (h : Same i) where
    shifted-is : ◌≡◌ {A = Values} (at (shifted_in (changed cs m) cs old i)) (shifted F L M i was (move_to F L M was i))
    unfolding S.shifted
    shifted-is =
        ap (λ (r : Rule). at (smallest (pairs_of m.sizes) r)) (shifts-same i lt (begun (changed cs m) cs old i) ∙ ap (λ (y : Values). S.shifts F L M i was y) h.values)

    raised-past : (p : ℕ) → pairs_of m.sizes ≤ p → put (greatest (changed cs m) i) (begun (changed cs m) cs old i) (at (shifted_in (changed cs m) cs old i)) p ≡ false
    raised-past p k = rw (smallest-past (pairs_of m.sizes) (shifts (changed cs m) cs i old (begun (changed cs m) cs old i)) p k) (h.past p k)

    raised_is : ◌≡◌ {A = Values} (raised (changed cs m) cs old i) (lifted F L M was i)
    raised_is =
        let b = greatest (changed cs m) i in
        fun_ext (table_is (pairs_of m.sizes) (put b (begun (changed cs m) cs old i) (at (shifted_in (changed cs m) cs old i))) raised-past)
        ∙ ap (λ (y : Values). put b y (at (shifted_in (changed cs m) cs old i))) h.values ∙ ap (λ (y : Values). put b (move_to F L M was i) y) shifted-is

    settled_is : ◌≡◌ {A = Values} (at (settled_in (changed cs m) cs old i)) (settled F M i (lifted F L M was i))
    unfolding S.settled
    settled_is =
        ap (λ (r : Rule). at (smallest (pairs_of m.sizes) r)) (settles-drops (changed cs m) i lt (raised (changed cs m) cs old i) ∙ ap (λ (y : Values). S.drops F M i y) raised_is)

    after-past : (p : ℕ) → pairs_of m.sizes ≤ p → put (not (greatest (changed cs m) i)) (raised (changed cs m) cs old i) (at (settled_in (changed cs m) cs old i)) p ≡ false
    after-past p k =
        rw (smallest-past (pairs_of m.sizes) (settles (changed cs m) i (raised (changed cs m) cs old i)) p k)
        (table-past (pairs_of m.sizes) (put (greatest (changed cs m) i) (begun (changed cs m) cs old i) (at (shifted_in (changed cs m) cs old i))) p k)

    same-suc : Same (suc i)
    unfolding turn_to turn_block move_to
    same-suc =
        let n = pairs_of m.sizes in
        let c = not (greatest (changed cs m) i) in
        record {
          values =
              fun_ext (table_is n (put c (raised (changed cs m) cs old i) (at (settled_in (changed cs m) cs old i))) after-past) ∙ ap (λ (y : Values). put c y (at (settled_in (changed cs m) cs old i))) raised_is
              ∙ ap (λ (y : Values). put c (lifted F L M was i) y) settled_is;
          past = λ p k. table-past n (put c (raised (changed cs m) cs old i) (at (settled_in (changed cs m) cs old i))) p k;
          shifted = λ p k.
              table_at n (λ p. at (turn_to (changed cs m) cs old i).shifted p || at (shifted_in (changed cs m) cs old i) p) p k
              ∙ ap₂ ◌||◌ (h.shifted p k) (ap (λ (y : Values). y p) shifted-is)
              ∙ shift_suc F L M was fits-old lt p;
          settled = λ p k.
              table_at n (λ p. at (turn_to (changed cs m) cs old i).settled p || at (settled_in (changed cs m) cs old i) p) p k
              ∙ ap₂ ◌||◌ (h.settled p k) (ap (λ (y : Values). y p) settled_is)
              ∙ settle-suc F L M was fits-new lt p;
        }

  same-to : (i : ℕ) → i ≤ blocks_of m → Same i
  unfolding turn_to move_to
  same-to zero h = record {
    values = refl;
    past = λ p k. table-past (pairs_of m.sizes) old p k;
    shifted = λ p k. sym (up-off F (shift_of F L M was) 0 p (omega arith));
    settled = λ p k. sym (up-off F (settle_of F L M was) 0 p (omega arith));
  }
  same-to (suc i) h = same-suc i h (same-to i (omega arith))

  -- The whole update.
  pub update-values : ◌≡◌ {A = Values} (at (turn_all (changed cs m) cs old).values) (move F L M was)
  unfolding turn_all move
  update-values = (same-to (blocks_of m) (le_refl (blocks_of m))).values

  up-all : (d : ℕ → Bool) (p : ℕ) → p < pairs_of m.sizes → up_to F d (blocks_of m) p ≡ d p
  up-all d p h = up_in F d (blocks_of m) p (pairs-full (changed cs m) ok' p h)

  pub update-shifted : (p : ℕ) → p < pairs_of m.sizes → at (turn_all (changed cs m) cs old).shifted p ≡ shift_of F L M was p
  unfolding turn_all
  update-shifted p h = (same-to (blocks_of m) (le_refl (blocks_of m))).shifted p h ∙ up-all (shift_of F L M was) p h

  pub update-settled : (p : ℕ) → p < pairs_of m.sizes → at (turn_all (changed cs m) cs old).settled p ≡ settle_of F L M was p
  unfolding turn_all
  update-settled p h = (same-to (blocks_of m) (le_refl (blocks_of m))).settled p h ∙ up-all (settle_of F L M was) p h

  -- Each pair that shifted, or settled, did so in its own block.
  pub shifted-own : (p : ℕ) → p < pairs_of m.sizes → at (turn_all (changed cs m) cs old).shifted p ≡ at (shifted_in (changed cs m) cs old (block_of (changed cs m) p)) p
  shifted-own p h =
      let i = block_of (changed cs m) p in
      let lt = pairs-full (changed cs m) ok' p h in
      update-shifted p h ∙ shift-at F L M was i p refl ∙ sym (ap (λ (y : Values). y p) (shifted-is i lt (same-to i (omega arith))))

  pub settled-own : (p : ℕ) → p < pairs_of m.sizes → at (turn_all (changed cs m) cs old).settled p ≡ at (settled_in (changed cs m) cs old (block_of (changed cs m) p)) p
  settled-own p h =
      let i = block_of (changed cs m) p in
      let lt = pairs-full (changed cs m) ok' p h in
      update-settled p h ∙ settle-at F L M was i p refl ∙ sym (ap (λ (y : Values). y p) (settled_is i lt (same-to i (omega arith))))

-- Visits on two sets that agree on the pairs are the same.
pub visits-agree : (m : Model) → Sound m → (f g : ℕ → Bool) → ((p : ℕ) → p < pairs_of m.sizes → f p ≡ g p) → visits_on m f ≡ visits_on m g
unfolding visits_on
visits-agree m ok f g e = sum-ext (pairs_of m.sizes) _ _ (λ p h. counts p (leanings m p) (λ q k. inside p q h k))
  where
    inside : (p q : ℕ) → p < pairs_of m.sizes → q ∈ leanings m p → q < pairs_of m.sizes
    inside p q h k = block_inside m q (let a = (model-fits m ok).earlier p q k in let b = pairs-full m ok p h in omega arith)

    counts : (p : ℕ) (l : List ℕ) → ((q : ℕ) → q ∈ l → q < pairs_of m.sizes)
        → count (λ q. eqb (block_of m q) (block_of m p) && f q) l ≡ count (λ q. eqb (block_of m q) (block_of m p) && g q) l
    counts p [] h = refl
    counts p (q ∷ l) h =
        ap₂ ◌+◌ (ap (λ (x : Bool). bit (eqb (block_of m q) (block_of m p) && x)) (e q (h q (Memᴰ.head refl)))) (counts p l (λ r k. h r (Memᴰ.tail k)))
