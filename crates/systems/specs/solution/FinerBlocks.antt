-- Blocks cut into finer ones have the same solution: a set that rests on itself and on the solution lies in it. Assumes
-- nothing.
use Rattle.std.specs.Prelude.{◌≡◌, refl, Bool, true, false, ◌&&◌, ℕ, ◌<◌, eqb}
use Rattle.std.proofs.Math.Path.{sym, ap}
use Rattle.std.proofs.Common.{◌∙◌, le_refl, arith}
use Rattle.std.proofs.Math.Logic.{inl, inr}
use Rattle.lists.specs.Marks.{put}
use Rattle.lists.specs.Lists.{is}
use Rattle.lists.specs.Tests.{is-in, is-out, tell, and_in, and_left, and_right, eqb-in, eqb-out}
use Rattle.systems.specs.solution.System.{Frame, Leans, Values, Fits, ev, eval, Solves, Agree, Solution, solve}
use Rattle.systems.specs.solution.Operands.{ev-mono}
use Rattle.systems.specs.solution.Put.{put_in, put-off, put-keep}
use Rattle.systems.specs.solution.Top.{Supported, Top, operand-block}
use Rattle.systems.specs.solution.SolveSolution.{solve-solution, solution-tops, unique}

-- p lies in block i, and its equation gives the block's own value where the pairs of s have it too.
record Rests (F : Frame) (L : Leans) (v : Values) (i : ℕ) (s : ℕ → Bool) (p : ℕ) : Type 0 where
  pub here : F.block p ≡ i
  pub gives : eval F L (put (F.great i) v s) p ≡ F.great i

-- A set that rests on itself and on the solution has the block's own value in the solution.
coinduction : (F : Frame) (L : Leans) → Fits F L → (v : Values) → Solution F L v → (i : ℕ) → i < F.blocks → (s : ℕ → Bool)
    → ((p : ℕ) → s p ≡ true → Rests F L v i s p) → (p : ℕ) → s p ≡ true → v p ≡ F.great i
coinduction F L fits v sol i lt s self p h = top.largest u agree supported p (self p h).here (put_in b v s p h)
  where
    b : Bool
    b = F.great i

    u : Values
    u = put b v s

    top : Top F L i v
    top = solution-tops F L fits v sol i lt

    agree : Agree F i u v
    agree q l =
        elim (tell false (s q)) [
          | inl k ↦ put-off b v s q k
          | inr k ↦ let e = (self q k).here in absurd (omega arith)
        ]

    supported : Supported F L i u
    supported q e k =
        elim (tell true (s q)) [
          | inl x ↦ (self q x).gives
          | inr x ↦ ev-mono (F.kind q) b v u (L q) (λ r m y. put-keep b v s r y) (top.supported q e (sym (put-off b v s q x) ∙ k))
        ]

-- The operators of G are those of F, and each block of G lies inside one block of F, which has its kind.
pub record Finer (F G : Frame) : Type 0 where
  pub kind : (p : ℕ) → G.kind p ≡ F.kind p
  pub inside : (p : ℕ) → G.block p < G.blocks → F.block p < F.blocks
  pub within : (p q : ℕ) → G.block p < G.blocks → G.block p ≡ G.block q → F.block p ≡ F.block q
  pub great : (p : ℕ) → G.block p < G.blocks → G.great (G.block p) ≡ F.great (F.block p)

module _ (F G : Frame) (L : Leans) (fits : Fits F L) (fits' : Fits G L) (finer : Finer F G) where
  same-eval : (v : Values) (p : ℕ) → eval F L v p ≡ eval G L v p
  same-eval v p = ap (λ (k : Bool). ev k v (L p)) (sym (finer.kind p))

  module _ (v : Values) (sol : Solution F L v) (i : ℕ) (lt : i < G.blocks) (u : Values) (a : Agree G i u v) (s : Solves G L i u)
      (p : ℕ) (here : G.block p ≡ i) where
    j : ℕ
    j = F.block p

    b : Bool
    b = F.great j

    new : ℕ → Bool
    new q = eqb (G.block q) i && is b (u q)

    at : (q : ℕ) → new q ≡ true → (G.block q ≡ i) × (u q ≡ b)
    unfolding new
    at q h = (
      eqb-out (G.block q) i (and_left (eqb (G.block q) i) (is b (u q)) h),
      is-out b (u q) (and_right (eqb (G.block q) i) (is b (u q)) h),
    )

    to : (q : ℕ) → G.block q ≡ i → u q ≡ b → new q ≡ true
    unfolding new
    to q e h = and_in (eqb-in (G.block q) i e) (is-in b (u q) h)

    rests : (q : ℕ) → new q ≡ true → Rests F L v j new q
    unfolding b j
    rests q h =
        let t = at q h in
        record {
          here = sym (finer.within p q (omega arith) (here ∙ sym t.0));
          gives = ev-mono (F.kind q) b u (put b v new) (L q)
              (λ r m k. elim (operand-block fits' t.0 m) [
                | inl e ↦ put_in b v new r (to r e k)
                | inr l ↦ put-keep b v new r (sym (a r l) ∙ k)
              ])
              (same-eval u q ∙ sym (s q t.0) ∙ t.1);
        }

    -- What another solution of a finer block has of its own value, the coarser one's solution has too.
    finer-extreme : u p ≡ G.great i → v p ≡ G.great i
    unfolding b j
    finer-extreme h =
        let e : G.great i ≡ b = ap G.great (sym here) ∙ finer.great p (omega arith) in
        coinduction F L fits v sol j (finer.inside p (omega arith)) new rests p (to p here (h ∙ e)) ∙ sym e

  -- The solution by the coarser blocks is the solution by the finer ones.
  pub finer-solution : (v : Values) → Solution F L v → Solution G L v
  finer-solution v sol = record {
    solves = λ i h p e. sol.solves (F.block p) (finer.inside p (omega arith)) p refl ∙ same-eval v p;
    extreme = λ i h u a s p e k. finer-extreme v sol i h u a s p e k;
  }

  -- So the values found by either are the same.
  pub finer-solve : (p : ℕ) → G.block p < G.blocks → solve F L p ≡ solve G L p
  finer-solve p h =
      unique G L fits' (solve F L) (solve G L) (finer-solution (solve F L) (solve-solution F L fits)) (solve-solution G L fits')
      G.blocks (le_refl G.blocks) p h
