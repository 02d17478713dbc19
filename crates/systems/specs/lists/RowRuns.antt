-- Looks at the pairs of a row, one after the other, are one look at the row: those marks are set and those pairs queued, in
-- order, for which the test holds before the first of them.
-- Assumes nothing.
use Rattle.std.specs.Prelude.{◌≡◌, refl, Bool, true, false, cond, ◌&&◌, length, get_or, set}
use Rattle.std.proofs.Math.Path.{sym, ap, subst, fun_ext}
use Rattle.std.proofs.Common.{◌∙◌, add-zero}
use mathlib.Core.List.{List}
use Prim.Native.Nat.{ℕ, zero, suc, ◌+◌, ◌≤◌, ◌<◌}
use Rattle.std.proofs.Math.Nat.{add-suc}
use Rattle.std.proofs.Math.Decide.{ℕ_discrete}
use native.Mathlib.Omega.{arith}
use Rattle.std.proofs.lemmas.List.{set-get_or}
use Rattle.lists.specs.Sets.{none}
use Rattle.lists.specs.Tests.{and_left, and_right, ltb-in, cond_yes}
use Rattle.systems.specs.solution.System.{Frame, Leans, Values, shifts}
use Rattle.systems.specs.machine.Machine.{past, free, next_mark, looks, Finds}
use Rattle.systems.specs.machine.Phases.{Update}
use Rattle.systems.specs.lists.ListMachine.{val_of, marks_in, wait_l, push_l, Job, Test, Agrees, look_l, turn_l, moved, seek_l, step_l, unit_l, run_l}
use Rattle.systems.specs.lists.Steady.{Steady}
use Rattle.systems.specs.lists.ListUnits.{set-upd}
use Rattle.systems.specs.lists.ListCourse.{Underway}
use Rattle.systems.specs.lists.ListKeeps.{way-old, way-still, way-free}
use Rattle.systems.specs.lists.ListsMove.{run-add, way-unit}
use Rattle.systems.specs.lists.Places.{seek-stays}
use Rattle.systems.specs.lists.Rows.{row_marks, row_pile, look_row}
use Rattle.systems.specs.lists.RowLaws.{row-marks, row_kept, row-marks-long, row-marks-past}

-- A run is its last unit after the others.
run-last : (F : Frame) (M : Leans) (test : Test) (on : ℕ → List ℕ) (n : ℕ) (c : Job) → run_l F M test on (suc n) c ≡ unit_l F M test on (run_l F M test on n c)
run-last F M test on n c = ap (λ (k : ℕ). run_l F M test on k c) (let e : suc n ≡ n + 1 = omega arith in e) ∙ run-add F M test on n 1 c

module _ (F : Frame) (M : Leans) (test : Test) (on : ℕ → List ℕ) (f : ℕ → Bool) (c : Job) where
  row-none : look_row f 0 c ≡ c
  unfolding look_row
  row-none = ap (λ (y : ℕ). moved (record { block = c.block; settling = c.settling; place = y }) c.pile c) (add-zero c.place)

  -- A unit in a row, where the test says what f does.
  row-unit : (n : ℕ) → c.block < F.blocks → c.place + n < F.pairs
      → let ms = marks_in (row_pile f (next_mark c.settling) c.place n c.pile).marks in
      (free c.settling (ms (c.place + n)) && test c.settling (val_of c.vals) ms (c.place + n)) ≡ f (c.place + n)
      → unit_l F M test on (look_row f n c) ≡ seek_l F (look_row f (suc n) c)
  unfolding look_row look_l
  row-unit n b l e =
      let d = look_row f n c in
      let g = row_pile f (next_mark c.settling) c.place n c.pile in
      cond_yes (seek_l F (step_l F M test on d)) d (ltb-in c.block F.blocks b)
      ∙ ap (seek_l F) (cond_yes (look_l test d) (turn_l F M on d) (ltb-in (c.place + n) F.pairs l)
      ∙ ap (λ (y : ℕ). moved (record { block = c.block; settling = c.settling; place = y }) (push_l (free c.settling) (next_mark c.settling)
      (test c.settling (val_of c.vals) (marks_in g.marks)) (c.place + n) g) c) (sym (add-suc c.place n))
      ∙ ap (λ (y : Bool). moved (record { block = c.block; settling = c.settling; place = c.place + suc n }) (cond y (wait_l (next_mark c.settling) (c.place + n) g) g) c) e)

  row_stays : (n : ℕ) → c.block < F.blocks → c.place + n < F.pairs → F.block (c.place + n) ≡ c.block
      → (c.pile.tail ≤ c.pile.from → (c.pile.from ≡ 0) × (c.pile.tail ≡ 0)) → seek_l F (look_row f n c) ≡ look_row f n c
  unfolding look_row
  row_stays n b l h z =
      let k = row_kept f (next_mark c.settling) c.place n c.pile in
      let kf = k.from in
      let kt = k.tail in
      seek-stays F (look_row f n c) b l h (λ o. let y = z (omega arith) in let y0 = y.0 in let y1 = y.1 in (omega arith, omega arith))

-- The next n pairs are of the block, the marks and pushes of the looks before do not change what the test says of each, and
-- f holds for those that must turn.
pub record Row (F : Frame) (test : Test) (f : ℕ → Bool) (n : ℕ) (c : Job) : Type 0 where
  pub low : c.block < F.blocks
  pub room : c.place + n ≤ F.pairs
  pub here : (k : ℕ) → k < n → F.block (c.place + k) ≡ c.block
  pub steady : (k : ℕ) → k < n → test c.settling (val_of c.vals) (marks_in (row_marks f (next_mark c.settling) c.place k c.pile.marks)) (c.place + k)
      ≡ test c.settling (val_of c.vals) (marks_in c.pile.marks) (c.place + k)
  pub says : (k : ℕ) → k < n
      → (free c.settling (marks_in c.pile.marks (c.place + k)) && test c.settling (val_of c.vals) (marks_in c.pile.marks) (c.place + k)) ≡ f (c.place + k)

-- The row but its last pair.
row-less : {F : Frame} {test : Test} {f : ℕ → Bool} (n : ℕ) {c : Job} → Row F test f (suc n) c → Row F test f n c
row-less n {c} r = record {
  low = r.low;
  room = let h = r.room in let e = add-suc c.place n in omega arith;
  here = λ k h. r.here k (omega arith);
  steady = λ k h. r.steady k (omega arith);
  says = λ k h. r.says k (omega arith);
}

module _ (F : Frame) (M : Leans) (test : Test) (on : ℕ → List ℕ) (f : ℕ → Bool) (c : Job) where
  -- The unit at the last pair of a row.
  row_next : (n : ℕ) → Row F test f (suc n) c → unit_l F M test on (look_row f n c) ≡ seek_l F (look_row f (suc n) c)
  row_next n r =
      let ph = c.settling in
      let p = c.place + n in
      let next = next_mark ph in
      let e = row-marks f next c.place n c.pile in
      row-unit F M test on f c n r.low (let h = r.room in let z = add-suc c.place n in omega arith)
      (ap (λ (l : List ℕ). free ph (marks_in l p) && test ph (val_of c.vals) (marks_in l) p) e
      ∙ ap (λ (b : Bool). free ph (marks_in (row_marks f next c.place n c.pile.marks) p) && b) (r.steady n (omega arith))
      ∙ ap (λ (m : ℕ). free ph m && test ph (val_of c.vals) (marks_in c.pile.marks) p) (row-marks-past f next c.place n c.pile.marks p (omega arith))
      ∙ r.says n (omega arith))

  module _ (level : c.pile.tail ≤ c.pile.from → (c.pile.from ≡ 0) × (c.pile.tail ≡ 0)) where
    -- In a row, n looks are those of the row so far.
    pub row-part : (n : ℕ) → Row F test f n c → c.place + n < F.pairs → F.block (c.place + n) ≡ c.block → run_l F M test on n c ≡ look_row f n c
    row-part zero r l h = sym (row-none F M test on f c)
    row-part (suc n) r l h =
        run-last F M test on n c
        ∙ ap (unit_l F M test on) (row-part n (row-less n r) (let e = add-suc c.place n in omega arith) (r.here n (omega arith)))
        ∙ row_next n r ∙ row_stays F M test on f c (suc n) r.low l h level

    -- As many looks as a row has pairs are one look at the row, after which the next look or turn is sought.
    pub row-run : (n : ℕ) → Row F test f (suc n) c → run_l F M test on (suc n) c ≡ seek_l F (look_row f (suc n) c)
    row-run n r =
        run-last F M test on n c
        ∙ ap (unit_l F M test on) (row-part n (row-less n r) (let h = r.room in let e = add-suc c.place n in omega arith) (r.here n (omega arith))) ∙ row_next n r

-- A row of a test that pushes do not change: for any lists, its marks and its queue are set by what the test says before the first look.
module _ {test : Test} (steady : Steady test) (f : ℕ → Bool) (c : Job) where
  row-steady : (n : ℕ) → c.place + n ≤ length c.pile.marks
      → ((k : ℕ) → k < n → (free c.settling (marks_in c.pile.marks (c.place + k)) && test c.settling (val_of c.vals) (marks_in c.pile.marks) (c.place + k)) ≡ f (c.place + k))
      → (p : ℕ) → test c.settling (val_of c.vals) (marks_in (row_marks f (next_mark c.settling) c.place n c.pile.marks)) p
      ≡ test c.settling (val_of c.vals) (marks_in c.pile.marks) p
  row-steady zero l e p = refl
  row-steady (suc n) l e p =
      let z = add-suc c.place n in
      go (f (c.place + n)) refl (row-steady n (omega arith) (λ k h. e k (omega arith)))
    where
      ph : Bool
      ph = c.settling

      ms : List ℕ
      ms = row_marks f (next_mark c.settling) c.place n c.pile.marks

      r : ℕ
      r = c.place + n

      go : (b : Bool) → f r ≡ b → ((q : ℕ) → test ph (val_of c.vals) (marks_in ms) q ≡ test ph (val_of c.vals) (marks_in c.pile.marks) q)
          → test ph (val_of c.vals) (marks_in (set ms r (cond (f r) (next_mark ph (get_or ms r 0)) (get_or ms r 0)))) p ≡ test ph (val_of c.vals) (marks_in c.pile.marks) p
      go false y ih =
          ap (λ (b : Bool). test ph (val_of c.vals) (marks_in (set ms r (cond b (next_mark ph (get_or ms r 0)) (get_or ms r 0)))) p) y
          ∙ ap (λ (k : List ℕ). test ph (val_of c.vals) (marks_in k) p) (set-get_or ms r 0) ∙ ih p
      go true y ih =
          let z = add-suc c.place n in
          let a = e n (omega arith) ∙ y in
          let k = row-marks-long f (next_mark ph) c.place n c.pile.marks in
          let vacant : free ph (marks_in ms r) ≡ true =
          ap (free ph) (row-marks-past f (next_mark ph) c.place n c.pile.marks r (omega arith))
          ∙ and_left (free ph (marks_in c.pile.marks r)) (test ph (val_of c.vals) (marks_in c.pile.marks) r) a in
          let asked : test ph (val_of c.vals) (marks_in ms) r ≡ true =
          ih r ∙ and_right (free ph (marks_in c.pile.marks r)) (test ph (val_of c.vals) (marks_in c.pile.marks) r) a in
          ap (λ (b : Bool). test ph (val_of c.vals) (marks_in (set ms r (cond b (next_mark ph (get_or ms r 0)) (get_or ms r 0)))) p) y
          ∙ ap (λ (m : ℕ → ℕ). test ph (val_of c.vals) m p) (fun_ext (set-upd ms r (next_mark ph (get_or ms r 0)) (omega arith)))
          ∙ steady ph (val_of c.vals) (marks_in ms) r vacant asked p ∙ ih p

  -- For any lists, the next pairs of the block make a row.
  pub steady-row : (F : Frame) (n : ℕ) → c.block < F.blocks → c.place + n ≤ F.pairs → c.place + n ≤ length c.pile.marks
      → ((k : ℕ) → k < n → F.block (c.place + k) ≡ c.block)
      → ((k : ℕ) → k < n → (free c.settling (marks_in c.pile.marks (c.place + k)) && test c.settling (val_of c.vals) (marks_in c.pile.marks) (c.place + k)) ≡ f (c.place + k))
      → Row F test f n c
  steady-row F n b l o h e = record {
    low = b;
    room = l;
    here = h;
    steady = λ k y. row-steady k (omega arith) (λ i z. e i (omega arith)) (c.place + k);
    says = e;
  }

-- The machine's test goes by the old values that are told, and by no other mark.
looks-told : (F : Frame) (L M : Leans) (ph : Bool) (v : Values) (k m : ℕ → ℕ) (p : ℕ) → ((q : ℕ) → past F v k q ≡ past F v m q) → looks F L M ph v k p ≡ looks F L M ph v m p
unfolding looks
looks-told F L M false v k m p e = ap (λ (w : Values). shifts F L M (F.block p) w v none p) (fun_ext e)
looks-told F L M true v k m p e = refl

module _ {u : Update} {on : ℕ → List ℕ} (finds : Finds u.F u.M on) (test : Test) (agrees : Agrees u.F u.L u.M u.old test) (f : ℕ → Bool) where
  open u use {F, L, M, old}

  -- On the course, in a row.
  way_in : (n : ℕ) {m : ℕ} {c : Job} → Underway u on m c → Row F test f n c → c.place + n < F.pairs → F.block (c.place + n) ≡ c.block
      → Underway u on (m + n) (look_row f n c)
  unfolding look_row
  way_in zero {m} {c} w r l h = subst (λ (d : Job). Underway u on (m + 0) d) (sym (row-none F M test on f c)) (subst (λ (k : ℕ). Underway u on k c) (sym (add-zero m)) w)
  way_in (suc n) {m} {c} w r l h =
      let a = way_in n w (row-less n r) (let e = add-suc c.place n in omega arith) (r.here n (omega arith)) in
      subst (λ (k : ℕ). Underway u on k (look_row f (suc n) c)) (sym (add-suc m n))
      (subst (Underway u on (suc (m + n))) (row_next F M test on f c n r ∙ row_stays F M test on f c (suc n) r.low l h w.sits.level)
      (way-unit finds test agrees a r.low))

  -- Looks before do not change what the test says of the next pair.
  way-steady : (n : ℕ) {m : ℕ} {c : Job} → Underway u on m c → Row F test f n c → c.place + n < F.pairs → F.block (c.place + n) ≡ c.block
      → test c.settling (val_of c.vals) (marks_in (row_marks f (next_mark c.settling) c.place n c.pile.marks)) (c.place + n)
      ≡ test c.settling (val_of c.vals) (marks_in c.pile.marks) (c.place + n)
  unfolding look_row
  way-steady n {m} {c} w r l h =
      let ph = c.settling in
      let p = c.place + n in
      let g = row_pile f (next_mark ph) c.place n c.pile in
      let a = way_in n w r l h in
      let first : F.block c.place ≡ c.block = w.sits.here r.low (omega arith) in
      ap (λ (k : List ℕ). test ph (val_of c.vals) (marks_in k) p) (sym (row-marks f (next_mark ph) c.place n c.pile))
      ∙ agrees ph c.vals g.marks p a.formed.vals a.formed.marks l (way-old a) (way-still a r.low l)
      ∙ looks-told F L M ph (val_of c.vals) (marks_in g.marks) (marks_in c.pile.marks) p (λ q. way-old a q ∙ sym (way-old w q))
      ∙ sym (agrees ph c.vals c.pile.marks p w.formed.vals w.formed.marks l (way-old w)
      (λ z q o. way-still w r.low (omega arith) z q (omega arith)))

  -- On the course the next pairs of the block make a row, by the test as it stands before the first of them.
  pub way-is-row : (n : ℕ) {m : ℕ} {c : Job} → Underway u on m c → c.block < F.blocks → c.place + n ≤ F.pairs
      → ((k : ℕ) → k < n → F.block (c.place + k) ≡ c.block)
      → ((k : ℕ) → k < n → test c.settling (val_of c.vals) (marks_in c.pile.marks) (c.place + k) ≡ f (c.place + k))
      → Row F test f n c
  way-is-row zero w b l h e = record {
    low = b;
    room = l;
    here = λ k z. absurd (omega arith);
    steady = λ k z. absurd (omega arith);
    says = λ k z. absurd (omega arith);
  }
  way-is-row (suc n) {c = c} w b l h e =
      let z = add-suc c.place n in
      let r = way-is-row n w b (omega arith) (λ k o. h k (omega arith)) (λ k o. e k (omega arith)) in
      let s = way-steady n w r (omega arith) (h n (omega arith)) in
      record {
        low = b;
        room = l;
        here = h;
        steady = λ k o. elim (ℕ_discrete k n) [
          | yes y ↦ subst (λ (k : ℕ). test c.settling (val_of c.vals) (marks_in (row_marks f (next_mark c.settling) c.place k c.pile.marks)) (c.place + k)
              ≡ test c.settling (val_of c.vals) (marks_in c.pile.marks) (c.place + k)) (sym y) s
          | no y ↦ r.steady k (omega arith)
        ];
        says = λ k o.
            ap (λ (y : Bool). y && test c.settling (val_of c.vals) (marks_in c.pile.marks) (c.place + k))
            (way-free w b (omega arith) (c.place + k) (omega arith) (h k o))
            ∙ e k o;
      }

  -- On the course as many looks as a row has pairs are one look at the row.
  pub way-row : (n : ℕ) {m : ℕ} {c : Job} → Underway u on m c → c.block < F.blocks → c.place + suc n ≤ F.pairs
      → ((k : ℕ) → k < suc n → F.block (c.place + k) ≡ c.block)
      → ((k : ℕ) → k < suc n → test c.settling (val_of c.vals) (marks_in c.pile.marks) (c.place + k) ≡ f (c.place + k))
      → (run_l F M test on (suc n) c ≡ seek_l F (look_row f (suc n) c)) × Underway u on (m + suc n) (seek_l F (look_row f (suc n) c))
  unfolding look_row
  way-row n {m} {c} w b l h e =
      let z = add-suc c.place n in
      let r = way-is-row (suc n) w b l h e in
      let a = way_in n w (row-less n r) (omega arith) (h n (omega arith)) in (
        row-run F M test on f c w.sits.level n r,
        subst (λ (k : ℕ). Underway u on k (seek_l F (look_row f (suc n) c))) (sym (add-suc m n))
            (subst (Underway u on (suc (m + n))) (row_next F M test on f c n r) (way-unit finds test agrees a b)),
      )

  -- A run may stop inside a row.
  pub way-part : (n : ℕ) {m : ℕ} {c : Job} → Underway u on m c → c.block < F.blocks → c.place + n < F.pairs
      → ((k : ℕ) → k < suc n → F.block (c.place + k) ≡ c.block)
      → ((k : ℕ) → k < n → test c.settling (val_of c.vals) (marks_in c.pile.marks) (c.place + k) ≡ f (c.place + k))
      → (run_l F M test on n c ≡ look_row f n c) × Underway u on (m + n) (look_row f n c)
  way-part n {c = c} w b l h e =
      let r = way-is-row n w b (omega arith) (λ k o. h k (omega arith)) e in
      (row-part F M test on f c w.sits.level n r l (h n (omega arith)), way_in n w r l (h n (omega arith)))
