-- `solve` is the solution, and there is one only. From values above all that support themselves, settling finds the
-- largest; block after block, that is the solution.
-- Assumes nothing.
use Rattle.std.specs.Prelude.{◌≡◌, ◌&&◌, eqb}
use Rattle.std.proofs.Math.Path.{sym, subst}
use Rattle.std.proofs.Common.{◌∙◌, le_refl, eq-or-lt_of_le, le_of_suc-le-suc, not-suc-le-zero, arith}
use Rattle.std.proofs.Math.Logic.{inl, inr}
use Rattle.std.proofs.Math.Bool.{Bool, true, false, not}
use Prim.Native.Nat.{ℕ, zero, suc, ◌≤◌, ◌<◌}
use Rattle.lists.specs.Marks.{put}
use Rattle.lists.specs.Lists.{is}
use Rattle.lists.specs.Tests.{◌∈◌, tell, clash, no_way, is-out, is-in, and_in, and_right, eqb-in, eqb-off, cond_yes, cond_no}
use Rattle.lists.specs.Sets.{Sub}
use Rattle.systems.specs.solution.System.{Frame, Leans, Values, Fits, eval, Solves, Agree, Solution, drops, settled, fresh, solve_to, solve}
use Rattle.systems.specs.solution.Operands.{ev-mono}
use Rattle.systems.specs.solution.Put.{put_in, put-off}
use Rattle.systems.specs.solution.Top.{Supported, Above, Top, operand-block, top-solves, top-agree}
use Rattle.systems.specs.moving.SettleRule.{drops-out, drops-in, settled-closed, settled-least, settled-keep}

module _ {F : Frame} {L : Leans} (fits : Fits F L) {i : ℕ} (lt : i < F.blocks) (v : Values)
    (above : (u : Values) → Agree F i u v → Supported F L i u → Above F i u v) where
  -- The values after settling.
  after : Values
  after = put (not (F.great i)) v (settled F L i v)

  -- A pair that has the block's own value afterwards had it before, and has not settled.
  kept : (p : ℕ) → after p ≡ F.great i → (settled F L i v p ≡ false) × (v p ≡ F.great i)
  unfolding after
  kept p e =
      let h : settled F L i v p ≡ false =
      no_way (settled F L i v p) (λ k. clash (F.great i) (after p) e (put_in (not (F.great i)) v (settled F L i v) p k)) in
      (h, sym (put-off (not (F.great i)) v (settled F L i v) p h) ∙ e)

  after-supported : Supported F L i after
  unfolding after
  after-supported p e h =
      elim (tell (F.great i) (eval F L after p)) [
        | inl k ↦ k
        | inr k ↦
            let t = kept p h in
            let d = drops-in F L i v (settled F L i v) p (record { here = e; own = t.1; gives = k }) in
            absurd (clash true (settled F L i v p) (settled-closed fits lt v p d) t.0)
      ]

  after-largest : (u : Values) → Agree F i u after → Supported F L i u → Above F i u after
  unfolding after
  after-largest u a s p e h =
      elim (tell false (settled F L i v p)) [
        | inl k ↦ put-off c v (settled F L i v) p k ∙ above u agree s p e h
        | inr k ↦ absurd (clash (F.great i) (u p) h (out-c p (settled-least fits lt v out closed p k)))
      ]
    where
      c : Bool
      c = not (F.great i)

      agree : Agree F i u v
      agree q l = a q l ∙ settled-keep fits lt v q (λ k. omega arith)

      -- The pairs of the block that have the other value in u.
      out : ℕ → Bool
      out q = eqb (F.block q) i && is c (u q)

      out-c : (q : ℕ) → out q ≡ true → u q ≡ c
      out-c q k = is-out c (u q) (and_right (eqb (F.block q) i) (is c (u q)) k)

      -- An operand that has the block's own value in u has it in v less those.
      stays : (r q : ℕ) → F.block r ≡ i → q ∈ L r → u q ≡ F.great i → put c v out q ≡ F.great i
      stays r q e m h =
          elim (tell false (out q)) [
            | inl k ↦ put-off c v out q k ∙ elim (operand-block fits e m) [ inl x ↦ above u agree s q x h | inr x ↦ sym (agree q x) ∙ h ]
            | inr k ↦ absurd (clash (F.great i) (u q) h (out-c q k))
          ]

      closed : Sub (drops F L i v out) out
      closed q k =
          let d = drops-out F L i v out q k in
          elim (tell (F.great i) (u q)) [
            | inr x ↦ and_in (eqb-in (F.block q) i d.here) (is-in c (u q) x)
            | inl x ↦ absurd (clash (F.great i) (eval F L (put c v out) q)
                (ev-mono (F.kind q) (F.great i) u (put c v out) (L q) (λ r m y. stays q r d.here m y) (s q d.here x)) d.gives)
          ]

  -- Settling, from values above all that support themselves, finds the largest of these.
  pub settle-top : Top F L i (put (not (F.great i)) v (settled F L i v))
  unfolding after
  settle-top = record { supported = after-supported; largest = after-largest }

module _ (F : Frame) (L : Leans) (fits : Fits F L) where
  -- Values that are largest in each block are the solution.
  pub tops-solution : (v : Values) → ((i : ℕ) → i < F.blocks → Top F L i v) → Solution F L v
  tops-solution v t = record {
    solves = λ i h. top-solves fits (t i h);
    extreme = λ i h u a s. (t i h).largest u a (λ p e k. sym (s p e) ∙ k);
  }

  fresh_at : (i : ℕ) (v : Values) (p : ℕ) → F.block p ≡ i → fresh F i v p ≡ F.great i
  fresh_at i v p e = cond_yes (F.great i) (v p) (eqb-in (F.block p) i e)

  fresh-off : (i : ℕ) (v : Values) (p : ℕ) → F.block p < i → fresh F i v p ≡ v p
  fresh-off i v p h = cond_no (F.great i) (v p) (eqb-off (F.block p) i h)

  solve_to-top : (i : ℕ) → i ≤ F.blocks → (j : ℕ) → j < i → Top F L j (solve_to F L i)
  unfolding solve_to
  solve_to-top zero h j l = absurd (not-suc-le-zero l)
  solve_to-top (suc i) h j l =
      let v = fresh F i (solve_to F L i) in
      elim (eq-or-lt_of_le (le_of_suc-le-suc l)) [
        | inl e ↦ subst (λ (k : ℕ). Top F L k (solve_to F L (suc i))) (sym e) (settle-top fits h v (λ u a s p e k. fresh_at i (solve_to F L i) p e))
        | inr e ↦ top-agree fits (solve_to F L (suc i))
            (λ p k. settled-keep fits h v p (λ x. omega arith) ∙ fresh-off i (solve_to F L i) p (omega arith))
            (solve_to-top i (omega arith) j e)
      ]

  -- `solve` is the solution.
  pub solve-solution : Solution F L (solve F L)
  unfolding solve
  solve-solution = tops-solution (solve_to F L F.blocks) (solve_to-top F.blocks (le_refl F.blocks))

  -- Any two solutions agree on all blocks.
  pub unique : (v w : Values) → Solution F L v → Solution F L w → (i : ℕ) → i ≤ F.blocks → Agree F i v w
  unique v w s t zero h p l = absurd (not-suc-le-zero l)
  unique v w s t (suc i) h p l =
      let a : Agree F i v w = unique v w s t i (omega arith) in
      elim (eq-or-lt_of_le (le_of_suc-le-suc l)) [
        | inr k ↦ a p k
        | inl k ↦ elim (tell (F.great i) (v p)) [
          | inl x ↦ x ∙ sym (t.extreme i h v a (s.solves i h) p k x)
          | inr x ↦ elim (tell (F.great i) (w p)) [
            | inr y ↦ x ∙ sym y
            | inl y ↦ absurd (clash (F.great i) (v p) (s.extreme i h w (λ q m. sym (a q m)) (t.solves i h) p k y) x)
          ]
        ]
      ]

  -- The solution is largest in each block among the values that support themselves.
  pub solution-tops : (v : Values) → Solution F L v → (i : ℕ) → i < F.blocks → Top F L i v
  unfolding solve
  solution-tops v s i h =
      top-agree fits v (λ p l. unique v (solve F L) s solve-solution F.blocks (le_refl F.blocks) p (omega arith))
      (solve_to-top F.blocks (le_refl F.blocks) i h)

module _ (F : Frame) (L : Leans) (v : Values) (sol : Solution F L v) (i : ℕ) (lt : i < F.blocks) (u : Values) (a : Agree F i u v) (s : Solves F L i u)
    (p : ℕ) (here : F.block p ≡ i) where
  -- A greatest block has the largest assignment that solves it.
  pub solution-largest : F.great i ≡ true → u p ≡ true → v p ≡ true
  solution-largest g e = sol.extreme i lt u a s p here (e ∙ sym g) ∙ g

  -- A least block has the smallest assignment that solves it.
  pub solution-smallest : F.great i ≡ false → v p ≡ true → u p ≡ true
  solution-smallest g e =
      elim (tell true (u p)) [
        | inl h ↦ h
        | inr h ↦ absurd (clash true (v p) e (sol.extreme i lt u a s p here (h ∙ sym g) ∙ g))
      ]
