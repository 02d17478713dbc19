-- Which states a batch would leave without a move, told by counts alone, before any move is made. Assumes nothing.
use Rattle.std.specs.Prelude.{◌≡◌, Bool, false, cond, List, [], ◌∷◌, ℕ, ◌+◌, ◌≤◌, ◌<◌, leb}
use Rattle.std.proofs.Math.Path.{refl}
use Rattle.std.proofs.Common.{sym, ap, ◌∙◌}
use Rattle.std.proofs.Math.Logic.{inl, inr}
use Rattle.std.proofs.Math.Bool.{true, not, true≢false}
use Rattle.std.proofs.lemmas.Bool.{false≢true}
use Rattle.std.proofs.Math.Decide.{dec_le}
use native.Mathlib.Omega.{arith}
use Rattle.std.proofs.Math.Dec.{eqb}
use Rattle.lists.specs.Lists.{any, all, bit, count, sum_of, elem}
use Rattle.lists.specs.Counts.{count-in, count-out}
use Rattle.lists.specs.Ranges.{same_truth, each_in, each-out}
use Rattle.lists.specs.Tests.{tests, tell, not-out, no_way, or-other, eqb_is, leb-is, any-in, any_out, elem_in, elem_out, all_from, all-at}
use Rattle.rules.specs.Moves.{source}
use Rattle.rules.specs.Model.{move_ok, moves_ok, has_move, none_hangs, live_ok}
use Rattle.rules.specs.Batch.{Change, inserts, deletes, edited}
use Rattle.rules.specs.declared.Sizes.{Sizes}
use Rattle.laws.specs.moves.Edits.{Judged, AllAre, edited-sum}
use Rattle.laws.specs.chains.Named.{move-range}

-- How many moves of a list are of the state.
abbrev pub moves_of : ℕ → List ℕ → ℕ
moves_of s l = count (λ q. eqb (source q) s) l

-- The changes delete as many moves of the state as it has and gains: it is left without one.
abbrev pub emptied : List ℕ → List Change → ℕ → Bool
emptied ms cs s = leb (moves_of s ms + moves_of s (inserts cs)) (moves_of s (deletes cs))

-- None of the moves ps is one of a state that is left without a move.
unfoldable pub stays_in : List ℕ → List Change → List ℕ → Bool
stays_in ms cs ps = all (λ q. not (emptied ms cs (source q))) ps

-- In a live model, none of the moves that are deleted is.
unfoldable pub lives_by : ℕ → List ℕ → List Change → Bool
lives_by live ms cs = cond (eqb live 1) (stays_in ms cs (deletes cs)) true

-- A state has a move exactly where it has at least one.
some-move : (s : ℕ) (l : List ℕ) → has_move l s ≡ true → 1 ≤ moves_of s l
some-move s l h = let t = any_out (λ q. eqb (source q) s) l h in count-in (λ q. eqb (source q) s) t.1 t.2

move_some : (s : ℕ) (l : List ℕ) → 1 ≤ moves_of s l → has_move l s ≡ true
move_some s l h = let t = count-out (λ q. eqb (source q) s) l h in any-in (λ q. eqb (source q) s) t.1 t.2

-- What is not at most another number is above it.
leb_no : (m n : ℕ) → leb m n ≡ false → n < m
leb_no m n h = elim (dec_le m n) [
  | yes y ↦ absurd (true≢false (sym ((leb-is m n).1 y) ∙ h))
  | no y ↦ omega arith
]

-- A count is a sum of ones.
count-sum : (f : ℕ → Bool) (l : List ℕ) → count f l ≡ sum_of (λ q. bit (f q)) l
count-sum f [] = refl
count-sum f (q ∷ l) = ap (λ (n : ℕ). bit (f q) + n) (count-sum f l)

-- What all of a list are, each is.
each-is : (b : Bool) (ps l : List ℕ) (q : ℕ) → AllAre b ps l → elem q ps ≡ true → elem q l ≡ b
each-is b [] l q a e = absurd (false≢true e)
each-is b (p ∷ ps) l q a e =
    elim (tell true (eqb q p)) [
      | inl t ↦ rw ((eqb_is q p).0 t) a.0
      | inr t ↦ each-is b ps l q a.1 (or-other (eqb q p) (elem q ps) e t)
    ]

module _ (z : Sizes) (ms : List ℕ) (cs : List Change) (j : Judged ms cs) (o : moves_ok z 0 ms ≡ true) where
  -- Deletes go and inserts come, state by state.
  moves-after : (s : ℕ) → moves_of s (edited cs ms) + moves_of s (deletes cs) ≡ moves_of s ms + moves_of s (inserts cs)
  moves-after s =
      let f : ℕ → Bool = λ q. eqb (source q) s in
      rw (count-sum f (edited cs ms), count-sum f (deletes cs), count-sum f ms, count-sum f (inserts cs)) (edited-sum (λ q. bit (f q)) z ms cs j o)

  -- A state is left without a move exactly where it is emptied.
  kept_move : (s : ℕ) → not (emptied ms cs s) ≡ true → has_move (edited cs ms) s ≡ true
  kept_move s h =
      let e = moves-after s in
      let n : moves_of s (deletes cs) < moves_of s ms + moves_of s (inserts cs) = leb_no _ _ (not-out _ h) in
      move_some s (edited cs ms) (omega arith)

  move-kept : (s : ℕ) → has_move (edited cs ms) s ≡ true → not (emptied ms cs s) ≡ true
  move-kept s h =
      let e = moves-after s in
      let n = some-move s (edited cs ms) h in
      ap not (no_way _ (λ k. let l = (leb-is (moves_of s ms + moves_of s (inserts cs)) (moves_of s (deletes cs))).0 k in omega arith))

  -- Where each state had a move, each still has one exactly where no state that loses a move is emptied.
  none-emptied : none_hangs z.states ms ≡ true → none_hangs z.states (edited cs ms) ≡ stays_in ms cs (deletes cs)
  unfolding none_hangs move_ok stays_in
  none-emptied b = same_truth
      (λ e. all_from (λ q. not (emptied ms cs (source q))) (deletes cs) (λ q m.
      let p = elem_out q ms (each-is true (deletes cs) ms q j.3 (elem_in m)) in
      let r = simp tests at (move-range z 0 o p) in
      move-kept (source q) (each-out z.states (has_move (edited cs ms)) e (source q) r.0.0)))
      (λ e. each_in z.states (has_move (edited cs ms)) (λ s l.
      elim (tell true (has_move (deletes cs) s)) [
        | inl t ↦
            let q = any_out (λ q. eqb (source q) s) (deletes cs) t in
            let k = all-at (λ q. not (emptied ms cs (source q))) (deletes cs) q.0 e (elem_in q.1) in
            kept_move s (rw ((eqb_is (source q.0) s).0 q.2) at k)
        | inr t ↦
            let d : moves_of s (deletes cs) ≡ 0 = none_of (moves_of s (deletes cs)) (λ h. true≢false (sym (move_some s (deletes cs) h) ∙ t)) in
            let n = some-move s ms (each-out z.states (has_move ms) b s l) in
            let f = moves-after s in
            move_some s (edited cs ms) (omega arith)
      ]))
    where
      none_of : (n : ℕ) → (1 ≤ n → ⊥) → n ≡ 0
      none_of n h = elim (tell true (leb 1 n)) [ inl t ↦ absurd (h ((leb-is 1 n).0 t)) | inr t ↦ let k = leb_no 1 n t in omega arith ]

  -- So whether a live model stays one is told without making the changes.
  pub lives-edited : (live : ℕ) → live_ok live z.states ms ≡ true → live_ok live z.states (edited cs ms) ≡ lives_by live ms cs
  unfolding live_ok lives_by
  lives-edited live b =
      elim (tell true (eqb live 1)) [
        | inl t ↦ rw t (none-emptied (rw t at b))
        | inr t ↦ rw t refl
      ]
