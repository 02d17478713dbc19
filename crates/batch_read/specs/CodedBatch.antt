-- Where a batch is accepted, the numbers put down are its changes. Assumes nothing.
use Rattle.std.proofs.Math.Path.{◌≡◌, refl}
use Rattle.std.proofs.Common.{sym, ap, ◌∙◌, arith}
use Rattle.std.proofs.Math.Logic.{inl, inr}
use Rattle.std.proofs.Math.Bool.{true}
use mathlib.Core.List.{List, []}
use Rattle.std.specs.Prelude.{ℕ, suc, eqb}
use Rattle.lists.specs.Tests.{tests, tell}
use Rattle.rules.specs.Batch.{Batch, Change, Place, first, after, step_batch, put_batch, empty_batch, change_demands, read_batch}
use Rattle.rules.specs.Limits.{sizes_ok}
use Rattle.rules.specs.Model.{move_ok}
use Rattle.rules.specs.Moves.{source, action, target}
use Rattle.rules.specs.Records.{Rec, Parts, ends, broken, part, parts, Turn, no, back, next, over, demand, accepted, at_end, on_turn, run}
use Rattle.rules.specs.declared.Sizes.{Sizes}
use Rattle.words.specs.Words.{change_of, code_of}
use Rattle.words.specs.WordLaws.{change-code}
use Rattle.laws.specs.bytes.RecordLaws.{judged, un-onto, never}
use Rattle.laws.specs.bytes.Walks.{small}
use Rattle.batch_read.specs.Reading.{codes, codes_by, codes_from, codes_of}

module _ (z : Sizes) where
  -- A record that is taken counts one change.
  counts : (n : ℕ) (r : Rec) (st : Place) → step_batch z (after n) r ≡ next st → st ≡ after (suc n)
  unfolding step_batch
  counts n r st e =
      elim (tell true (eqb r.kind 6)) [
        | inl t ↦ let f : over ≡ next st = rw t at e in let b : ◌≡◌ {A = ℕ} 0 1 = cc in absurd (omega arith)
        | inr t ↦
            let f : demand (change_demands z n r) (next (after (suc n))) ≡ next st = rw t at e in
            elim (judged (change_demands z n r) (next (after (suc n)))) [
              | inl m ↦ cc
              | inr m ↦ let b : ◌≡◌ {A = ℕ} 0 1 = cc in absurd (omega arith)
            ]
      ]

  -- After the stamp.
  codes-after : (t : Parts) (n : ℕ) (b : Batch) → run (step_batch z) put_batch empty_batch (after n) t ≡ accepted b → codes_from z n t ≡ codes b.changes
  unfolding run codes_from put_batch
  codes-after (ends p) n b e = absurd (never e)
  codes-after (broken p) n b e = absurd (never e)
  codes-after (part p r t) n b e = go (step_batch z (after n) r) refl e (codes-after t (suc n))
    where
      at : (q : Parts) → at_end (step_batch z) put_batch empty_batch (after n) q ≡ accepted b → [] ≡ codes b.changes
      at (ends k) e = let w : empty_batch (after n) ≡ b = cc in rw (← w) refl
      at (broken k) e = absurd (never e)
      at (part k r q) e = absurd (never e)

      go : (u : Turn Place) → step_batch z (after n) r ≡ u → on_turn (step_batch z) put_batch empty_batch (λ st. run (step_batch z) put_batch empty_batch st t) (after n) p r t u ≡ accepted b
          → ((c : Batch) → run (step_batch z) put_batch empty_batch (after (suc n)) t ≡ accepted c → codes_from z (suc n) t ≡ codes c.changes)
          → codes_by (codes_from z (suc n) t) r u ≡ codes b.changes
      go (no k) w e ih = absurd (never e)
      go (back k d) w e ih = absurd (never e)
      go over w e ih = at t e
      go (next st) w e ih =
          let d = un-onto (step_batch z) put_batch empty_batch (put_batch (after n) r) (run (step_batch z) put_batch empty_batch st t) b e in
          let f = ih d.0 (ap (λ (q : Place). run (step_batch z) put_batch empty_batch q t) (sym (counts n r st w)) ∙ d.1) in
          ap (λ (l : List ℕ). codes_by l r (next st)) f ∙ sym (ap (λ (x : Batch). codes x.changes) d.2)

  codes-first : (t : Parts) (b : Batch) → run (step_batch z) put_batch empty_batch first t ≡ accepted b → codes_of z t ≡ codes b.changes
  unfolding run codes_of step_batch put_batch
  codes-first (ends p) b e = absurd (never e)
  codes-first (broken p) b e = absurd (never e)
  codes-first (part p r t) b e =
      elim (tell true (eqb r.kind 7)) [
        | inr w ↦ absurd (never (rw w at e))
        | inl w ↦
            let d = un-onto (step_batch z) put_batch empty_batch (put_batch first r) (run (step_batch z) put_batch empty_batch (after 0) t) b (rw w at e) in
            rw (w, d.2) (codes-after t 0 d.0 d.1)
      ]

  -- The whole batch.
  pub codes-accepted : (s : List ℕ) (b : Batch) → read_batch z s ≡ accepted b → codes_of z (parts s) ≡ codes b.changes
  unfolding read_batch
  codes-accepted s b e = codes-first (parts s) b e

  -- A change in range of sizes inside the limits is the one that its number holds.
  pub code-back : (c : Change) → sizes_ok z ≡ true → move_ok z (source c.move) (action c.move) (target c.move) ≡ true → change_of (code_of c.move c.insert) ≡ c
  unfolding move_ok
  code-back c k h =
      let a = simp tests at h in
      let b = small z k in
      change-code c.move c.insert (omega arith)
