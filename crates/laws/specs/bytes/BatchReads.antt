-- A batch's bytes and what is accepted of them are each other's spelling. Assumes nothing.
use Rattle.std.proofs.Math.Path.{◌≡◌, refl, sym, ap, ap₂}
use Rattle.std.proofs.Common.{◌∙◌, subst}
use Rattle.std.proofs.Math.Logic.{inl, inr}
use Rattle.std.specs.Prelude.{Bool, false, cond, ◌||◌, ℕ, suc, ◌+◌, ◌^◌, ◌≤◌, ◌<◌}
use Rattle.std.proofs.Math.Bool.{true}
use mathlib.Core.List.{List, [], ◌∷◌}
use native.Mathlib.Omega.{arith}
use Rattle.std.proofs.Math.ListN.{length}
use Rattle.std.proofs.Math.Dec.{eqb}
use Rattle.lists.specs.Tests.{tests, tell, and_in, ltb-is, leb-is, eqb_is, and_is, or-other}
use Rattle.rules.specs.Limits.{sizes_ok, most_changes}
use Rattle.rules.specs.Moves.{pack, source, action, target}
use Rattle.rules.specs.Model.{move_ok}
use Rattle.rules.specs.Records.{Rec, field, widths, Turn, no, next, accepted, bytes_of, over}
use Rattle.rules.specs.Batch.{Change, Batch, Place, first, after, change_demands, step_batch, put_batch, empty_batch, read_batch, change_rec, change_recs, encode_batch, changes_ok, batch_ok}
use Rattle.words.specs.WordLaws.{pack-parts}
use Rattle.rules.specs.declared.Sizes.{Sizes}
use Rattle.laws.specs.bytes.RecordLaws.{Walks, done, more, Met, met, judged, Writable, AllWritable, AreBytes, run-written, run-read}
use Rattle.laws.specs.bytes.Walks.{small}
use Rattle.laws.specs.bytes.ReadSpells.{rec-is, unpacked}

kind-is : (b : Bool) → (eqb (cond b 8 9) 6 ≡ false) × ((eqb (cond b 8 9) 8 || eqb (cond b 8 9) 9) ≡ true) × (eqb (cond b 8 9) 8 ≡ b)
kind-is true = (refl, refl, refl)
kind-is false = (refl, refl, refl)

module _ (z : Sizes) (ok : sizes_ok z ≡ true) where
  abbrev W : Place → List Rec → Batch → Type 0
  W = Walks (step_batch z) put_batch empty_batch

  changes-in : (n : ℕ) (cs : List Change) → n + length cs ≤ most_changes → changes_ok z cs ≡ true → W (after n) (change_recs cs) (record { stamp = 0; changes = cs })
  unfolding step_batch put_batch
  changes-in n [] h o = done refl refl
  changes-in n (c ∷ cs) h o =
      let k = simp and_is at o in
      let p = pack-parts c.move in
      let l : n < most_changes = omega arith in
      let t = kind-is c.insert in
      let e : step_batch z (after n) (change_rec c) ≡ next (after (suc n)) =
      rw t.0 (met (change_demands z n (change_rec c)) _ (t.1, ((ltb-is _ _).1 l, (k.0, tt)))) in
      let q : record { stamp = 0; changes = c ∷ cs } ≡ put_batch (after n) (change_rec c) (record { stamp = 0; changes = cs }) = rw (p, t.2) refl in
      more {st = after n} {st' = after (suc n)} (change_rec c) e (changes-in (suc n) cs (omega arith) k.1) q

  changes-w : (cs : List Change) → changes_ok z cs ≡ true → AllWritable (change_recs cs)
  unfolding widths move_ok
  changes-w [] o = ((refl, tt), tt)
  changes-w (c ∷ cs) o =
      let k = simp tests at o in
      let b = small z ok in
      let ih = changes-w cs (simp and_is at o).1 in
      elim (tell true c.insert) [
        | inl t ↦ rw t ((refl, omega arith), ih)
        | inr t ↦ rw t ((refl, omega arith), ih)
      ]

  pub read-batch-accepts : (b : Batch) → batch_ok z b ≡ true → read_batch z (encode_batch b) ≡ accepted b
  unfolding read_batch step_batch put_batch widths
  read-batch-accepts b h =
      let k = simp and_is at h in
      let n = (leb-is (length b.changes) most_changes).0 k.0.1 in
      let s = (ltb-is b.stamp 4294967296).0 k.0.0 in
      run-written (step_batch z) put_batch empty_batch 0
      (more {st = first} {st' = after 0} (record { kind = 7; body = b.stamp ∷ [] }) refl (changes-in 0 b.changes (omega arith) k.1) refl)
      ((refl, omega arith), changes-w b.changes k.1)

  -- back
  data Stepped (n : ℕ) (r : Rec) : Turn Place → Type 0 where
    change : Met (change_demands z n r) → Stepped n r (next (after (suc n)))
    end : r.kind ≡ 6 → Stepped n r over
    refusal : {k : ℕ} → Stepped n r (no k)

  stepped : (n : ℕ) (r : Rec) → Stepped n r (step_batch z (after n) r)
  unfolding step_batch
  stepped n r =
      elim (tell true (eqb r.kind 6)) [
        | inl t ↦ rw t (end ((eqb_is r.kind 6).0 t))
        | inr t ↦ rw t (elim (judged (change_demands z n r) (next (after (suc n)))) [
          | inl m ↦ rw m.1 (change m.0)
          | inr m ↦ rw m.1 refusal
        ])
      ]

  record Rest (n : ℕ) (rs : List Rec) (b : Batch) : Type 0 where
    stamp : b.stamp ≡ 0
    count : n + length b.changes ≤ most_changes
    range : changes_ok z b.changes ≡ true
    spelled : rs ≡ change_recs b.changes

  change-is : (r : Rec) → Writable r → (eqb r.kind 8 || eqb r.kind 9) ≡ true → move_ok z (field r 0) (field r 1) (field r 2) ≡ true
      → r ≡ change_rec (record { insert = eqb r.kind 8; move = pack (field r 0) (field r 1) (field r 2) })
  unfolding widths
  change-is r w k o =
      let u = unpacked z (field r 0) (field r 1) (field r 2) ok o in
      elim (tell true (eqb r.kind 8)) [
        | inl t ↦ rec-is r 8 ((eqb_is r.kind 8).0 t) w ∙ sym (rw (t, u.0, u.1, u.2) refl)
        | inr t ↦ rec-is r 9 ((eqb_is r.kind 9).0 (or-other _ _ k t)) w ∙ sym (rw (t, u.0, u.1, u.2) refl)
      ]

  turn-back : (n : ℕ) (r : Rec) (rs : List Rec) (b : Batch) (st : Place) → Writable r → Stepped n r (next st)
      → ((k : ℕ) → st ≡ after k → k ≤ most_changes → Rest k rs b) → Rest n (r ∷ rs) (put_batch (after n) r b)
  unfolding put_batch
  turn-back n r rs b st w (change d) ih =
      let l = (ltb-is n most_changes).0 d.1.0 in
      let a = ih (suc n) refl l in
      let u = unpacked z (field r 0) (field r 1) (field r 2) ok d.1.1.0 in
      let p = pack (field r 0) (field r 1) (field r 2) in
      let v : move_ok z (source p) (action p) (target p) ≡ true = rw (u.0, u.1, u.2) d.1.1.0 in
      record {
        stamp = refl;
        count = omega (arith, a.count);
        range = and_in v a.range;
        spelled = ap₂ (λ (x : Rec) (t : List Rec). x ∷ t) (change-is r w d.0 d.1.1.0) a.spelled;
      }

  over-back : (n : ℕ) (r : Rec) → Writable r → n ≤ most_changes → Stepped n r over → Rest n (r ∷ []) (empty_batch first)
  unfolding widths
  over-back n r w h (end e) = record { stamp = refl; count = omega arith; range = refl; spelled = ap (λ (x : Rec). x ∷ []) (rec-is r 6 e w) }

  back : {st : Place} {rs : List Rec} {b : Batch} → W st rs b → AllWritable rs → (n : ℕ) → st ≡ after n → n ≤ most_changes → Rest n rs b
  back (done {r = r} e q) w n s h = rw q (over-back n r w.0 h (rw (← s, e) at (stepped n r)))
  back (more {st' = st'} r {rs = rs} {b' = b} e t q) w n s h =
      rw q (rw s (turn-back n r rs b st' w.0 (rw (← s, e) at (stepped n r)) (back t w.1)))

  whole : {rs : List Rec} {b : Batch} → W first rs b → AllWritable rs → (batch_ok z b ≡ true) × (rs ≡ record { kind = 7; body = b.stamp ∷ [] } ∷ change_recs b.changes)
  unfolding step_batch put_batch widths
  whole (done {r = r} e q) w =
      elim (judged ((2, eqb r.kind 7) ∷ []) (next (after 0))) [
        | inl d ↦ let z : ◌≡◌ {A = ℕ} 0 1 = cc in absurd (omega arith)
        | inr d ↦ let z : ◌≡◌ {A = ℕ} 0 1 = cc in absurd (omega arith)
      ]
  whole (more {st' = st'} r {rs = rs} {b' = b} e t q) w =
      elim (judged ((2, eqb r.kind 7) ∷ []) (next (after 0))) [
        | inl d ↦
            let a = back t w.1 0 (cc) (omega arith) in
            let y = rec-is r 7 ((eqb_is r.kind 7).0 d.0.0) w.0 in
            let v : field r 0 < 256 ^ 4 = (subst Writable y w.0).1.0 in
            let u : field r 0 < 4294967296 = omega arith in
            let n : length b.changes ≤ most_changes = omega (arith, a.count) in
            rw q (and_in (and_in ((ltb-is _ _).1 u) ((leb-is _ _).1 n)) a.range, ap₂ (λ (x : Rec) (t : List Rec). x ∷ t) y a.spelled)
        | inr d ↦ let z : ◌≡◌ {A = ℕ} 0 1 = cc in absurd (omega arith)
      ]

  pub read-batch-spelling : (s : List ℕ) (b : Batch) → AreBytes s → read_batch z s ≡ accepted b → (batch_ok z b ≡ true) × (encode_batch b ≡ s)
  unfolding read_batch
  read-batch-spelling s b y e =
      let w = run-read (step_batch z) put_batch empty_batch (length s) 0 s first b (omega arith) y e in
      let g = whole w.3 w.2 in
      (g.0, ap bytes_of (sym g.1) ∙ w.1)
