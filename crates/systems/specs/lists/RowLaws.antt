-- The marks and the queue after a row: exactly those of its pairs that must turn have their next mark and wait, in order.
-- Assumes nothing.
use Rattle.std.specs.Prelude.{◌≡◌, refl, Bool, true, false, cond, List, [], ◌∷◌, ◌++◌, ℕ, zero, suc, ◌+◌, ◌-◌, ◌≤◌, ◌<◌, length, get_or, set}
use Rattle.std.proofs.Common.{sym, ap, ◌∙◌, subst, inl, inr, append-nil, append_assoc, add-zero, arith, length-set, length-append, get_or-set_same, get_or-set_other}
use Rattle.std.proofs.Math.Decide.{ℕ_discrete}
use Rattle.std.proofs.lemmas.List.{set-get_or}
use Rattle.lists.specs.Tests.{tell, cond_yes, cond_no}
use Rattle.systems.specs.lists.ListMachine.{marks_in, between, Pile, wait_l}
use Rattle.systems.specs.lists.ListUnits.{Kept, between-end}
use Rattle.systems.specs.lists.Rows.{hits, row_marks, row_pile}

module _ (f : ℕ → Bool) (next : ℕ → ℕ) (p : ℕ) where
  -- The marks of a row are set by the row alone.
  pub row-marks : (n : ℕ) (h : Pile) → (row_pile f next p n h).marks ≡ row_marks f next p n h.marks
  row-marks zero h = refl
  row-marks (suc n) h =
      let g = row_pile f next p n h in
      let e = row-marks n h in
      elim (tell true (f (p + n))) [
        | inl y ↦
            ap (λ (b : Bool). (cond b (wait_l next (p + n) g) g).marks) y ∙ ap (λ (l : List ℕ). set l (p + n) (next (get_or l (p + n) 0))) e
            ∙ sym (ap (λ (b : Bool). set (row_marks f next p n h.marks) (p + n) (cond b (next (get_or (row_marks f next p n h.marks) (p + n) 0)) (get_or (row_marks f next p n h.marks) (p + n) 0))) y)
        | inr y ↦
            ap (λ (b : Bool). (cond b (wait_l next (p + n) g) g).marks) y ∙ e ∙ sym (set-get_or (row_marks f next p n h.marks) (p + n) 0)
            ∙ sym (ap (λ (b : Bool). set (row_marks f next p n h.marks) (p + n) (cond b (next (get_or (row_marks f next p n h.marks) (p + n) 0)) (get_or (row_marks f next p n h.marks) (p + n) 0))) y)
      ]

  -- A row keeps the lengths of the lists and the front of the queue, and its end only grows.
  pub row_kept : (n : ℕ) (h : Pile) → Kept h (row_pile f next p n h)
  row_kept zero h = record { marks = refl; queue = refl; from = refl; tail = omega arith }
  row_kept (suc n) h =
      let g = row_pile f next p n h in
      let k = row_kept n h in
      elim (tell true (f (p + n))) [
        | inl y ↦ subst (Kept h) (sym (cond_yes (wait_l next (p + n) g) g y)) (record {
          marks = length-set g.marks (p + n) (next (get_or g.marks (p + n) 0)) ∙ k.marks;
          queue = length-set g.queue g.tail (p + n) ∙ k.queue;
          from = k.from;
          tail = let t = k.tail in omega arith;
        })
        | inr y ↦ subst (Kept h) (sym (cond_no (wait_l next (p + n) g) g y)) k
      ]

  -- The queue grows by as many as must turn.
  pub row-tail : (n : ℕ) (h : Pile) → (row_pile f next p n h).tail ≡ h.tail + length (hits f p n)
  row-tail zero h = sym (add-zero h.tail)
  row-tail (suc n) h =
      let g = row_pile f next p n h in
      let k = row-tail n h in
      let a = length-append (hits f p n) (cond (f (p + n)) ((p + n) ∷ []) []) in
      elim (tell true (f (p + n))) [
        | inl y ↦
            let b = ap (λ (b : Bool). (cond b (wait_l next (p + n) g) g).tail) y in
            let c = ap (λ (b : Bool). length (cond b ((p + n) ∷ []) [])) y in
            omega arith
        | inr y ↦
            let b = ap (λ (b : Bool). (cond b (wait_l next (p + n) g) g).tail) y in
            let c = ap (λ (b : Bool). length (cond b ((p + n) ∷ []) [])) y in
            omega arith
      ]

  -- What waits grows by exactly those, in order, where the queue has room.
  pub row-queue : (n : ℕ) (h : Pile) → h.from ≤ h.tail → h.tail + length (hits f p n) ≤ length h.queue
      → let g = row_pile f next p n h in between g.queue g.from (g.tail - g.from) ≡ between h.queue h.from (h.tail - h.from) ++ hits f p n
  row-queue zero h o r = sym (append-nil (between h.queue h.from (h.tail - h.from)))
  row-queue (suc n) h o r = go (f (p + n)) refl (row-queue n h o)
    where
      g : Pile
      g = row_pile f next p n h

      old : List ℕ
      old = between h.queue h.from (h.tail - h.from)

      -- The claim, by whether the last pair must turn.
      Claim : Bool → Type 0
      Claim b = let y = cond b (wait_l next (p + n) g) g in between y.queue y.from (y.tail - y.from) ≡ old ++ (hits f p n ++ cond b ((p + n) ∷ []) [])

      go : (b : Bool) → f (p + n) ≡ b
          → (h.tail + length (hits f p n) ≤ length h.queue → between g.queue g.from (g.tail - g.from) ≡ old ++ hits f p n) → Claim (f (p + n))
      go false y ih =
          let a = length-append (hits f p n) (cond (f (p + n)) ((p + n) ∷ []) []) in
          subst Claim (sym y) (ih (omega arith) ∙ ap (λ (l : List ℕ). old ++ l) (sym (append-nil (hits f p n))))
      go true y ih =
          let k = row_kept n h in
          let kf = k.from in
          let kt = k.tail in
          let kq = k.queue in
          let t = row-tail n h in
          let a = length-append (hits f p n) (cond (f (p + n)) ((p + n) ∷ []) []) in
          let c = ap (λ (b : Bool). length (cond b ((p + n) ∷ []) [])) y in
          let z : suc g.tail - g.from ≡ suc (g.tail - g.from) = omega arith in
          subst Claim (sym y)
          (ap (between (set g.queue g.tail (p + n)) g.from) z
          ∙ between-end g.queue (g.tail - g.from) g.from g.tail (p + n) (omega arith) (omega arith)
          ∙ ap (λ (l : List ℕ). l ++ ((p + n) ∷ [])) (ih (omega arith)) ∙ append_assoc old (hits f p n) ((p + n) ∷ []))

  -- The marks keep their number.
  pub row-marks-long : (n : ℕ) (ms : List ℕ) → length (row_marks f next p n ms) ≡ length ms
  row-marks-long zero ms = refl
  row-marks-long (suc n) ms =
      let l = row_marks f next p n ms in
      length-set l (p + n) (cond (f (p + n)) (next (get_or l (p + n) 0)) (get_or l (p + n) 0)) ∙ row-marks-long n ms

  -- Pairs past the row keep their marks.
  pub row-marks-past : (n : ℕ) (ms : List ℕ) (r : ℕ) → p + n ≤ r → marks_in (row_marks f next p n ms) r ≡ marks_in ms r
  row-marks-past zero ms r h = refl
  row-marks-past (suc n) ms r h =
      let l = row_marks f next p n ms in
      get_or-set_other l (p + n) r (cond (f (p + n)) (next (get_or l (p + n) 0)) (get_or l (p + n) 0)) 0 (λ e. omega arith) ∙ row-marks-past n ms r (omega arith)

  -- Pairs before the row do too.
  pub row-marks-before : (n : ℕ) (ms : List ℕ) (r : ℕ) → r < p → marks_in (row_marks f next p n ms) r ≡ marks_in ms r
  row-marks-before zero ms r h = refl
  row-marks-before (suc n) ms r h =
      let l = row_marks f next p n ms in
      get_or-set_other l (p + n) r (cond (f (p + n)) (next (get_or l (p + n) 0)) (get_or l (p + n) 0)) 0 (λ e. omega arith) ∙ row-marks-before n ms r h

  -- A pair of the row has its next mark if it must turn, and else the mark it had.
  pub row-marks-at : (n : ℕ) (ms : List ℕ) (r : ℕ) → p ≤ r → r < p + n → r < length ms → marks_in (row_marks f next p n ms) r ≡ cond (f r) (next (marks_in ms r)) (marks_in ms r)
  row-marks-at zero ms r a b h = absurd (omega arith)
  row-marks-at (suc n) ms r a b h =
      let l = row_marks f next p n ms in
      elim (ℕ_discrete r (p + n)) [
        | no e ↦
            get_or-set_other l (p + n) r (cond (f (p + n)) (next (get_or l (p + n) 0)) (get_or l (p + n) 0)) 0 e
            ∙ row-marks-at n ms r a (omega arith) h
        | yes e ↦
            let k = row-marks-long n ms in
            ap (marks_in (row_marks f next p (suc n) ms)) e
            ∙ get_or-set_same l (p + n) (cond (f (p + n)) (next (get_or l (p + n) 0)) (get_or l (p + n) 0)) 0 (omega arith)
            ∙ ap (λ (m : ℕ). cond (f (p + n)) (next m) m) (row-marks-past n ms (p + n) (omega arith))
            ∙ ap (λ (y : ℕ). cond (f y) (next (marks_in ms y)) (marks_in ms y)) (sym e)
      ]
