-- A run on lists is a run of the machine: it takes exactly the units that the machine does, stops where its block is past the
-- last, and then has the values, the marks and the visits of the rule. A run may be cut anywhere.
-- Assumes nothing.
use Rattle.std.specs.Prelude.{◌≡◌, refl, Bool, false, List, [], ℕ, zero, suc, ◌+◌, ◌-◌, ◌≤◌, ◌<◌, min, eqb, ltb, length, get_or}
use Rattle.std.proofs.Common.{sym, ap, ◌∙◌, true≢false, arith}
use Rattle.std.proofs.Math.Path.{subst, fun_ext}
use Rattle.std.proofs.Math.Logic.{inl, inr}
use Rattle.std.proofs.Math.Bool.{true}
use Rattle.std.proofs.lemmas.Bool.{false≢true}
use Rattle.std.proofs.lemmas.List.{length-replicate}
use Rattle.lists.specs.Lists.{bit}
use Rattle.lists.specs.Tests.{tell, ltb-out, ltb_no, cond_no}
use Rattle.lists.specs.Entries.{zeros-at}
use Rattle.systems.specs.solution.System.{Frame, Leans, Values, Fits, Full, move}
use Rattle.systems.specs.moving.Marks.{shift_of, settle_of, mark, visits}
use Rattle.systems.specs.machine.Machine.{past, Step, State, Finds, skip, tidy, todo_from, start}
use Rattle.systems.specs.machine.Phases.{Update}
use Rattle.systems.specs.machine.RunKeeps.{unit-at, at_done}
use Rattle.systems.specs.machine.MachineMoves.{unit_count, begin, at_before, at-end, at_most, rest-moves}
use Rattle.systems.specs.lists.ListMachine.{val_of, marks_in, pile_of, Job, todo_at, job_of, Test, Agrees, seek_l, step_l, unit_l, run_l, first_l, start_l}
use Rattle.systems.specs.lists.Seeks.{seek-start, seek-here, seek-turns}
use Rattle.systems.specs.lists.ListCourse.{Sits, Stands, Underway, stand-way, none_left}
use Rattle.systems.specs.lists.SeekStands.{seek-empty}
use Rattle.systems.specs.lists.ListKeeps.{way-old, unit-stands}

-- A run may be cut: k units and then j are k + j units.
pub run-add : (F : Frame) (M : Leans) (test : Test) (on : ℕ → List ℕ) (k j : ℕ) (c : Job) → run_l F M test on (k + j) c ≡ run_l F M test on j (run_l F M test on k c)
run-add F M test on zero j c = ap (λ (n : ℕ). run_l F M test on n c) (let e : 0 + j ≡ j = omega arith in e)
run-add F M test on (suc k) j c =
    ap (λ (n : ℕ). run_l F M test on n c) (let e : suc k + j ≡ suc (k + j) = omega arith in e) ∙ run-add F M test on k j (unit_l F M test on c)

-- What is promised of the lists: they have all that the rule says.
pub record MovesL (F : Frame) (L M : Leans) (old : Values) (c : Job) : Type 0 where
  pub long : length c.vals ≡ F.pairs
  pub long_marks : length c.pile.marks ≡ F.pairs
  pub values : (p : ℕ) → p < F.pairs → get_or c.vals p 0 ≡ bit (move F L M old p)
  pub marks : (p : ℕ) → p < F.pairs → get_or c.pile.marks p 0 ≡ mark F L M old p
  pub shift_visits : c.shift_visits ≡ visits F M (shift_of F L M old)
  pub settle_visits : c.settle_visits ≡ visits F M (settle_of F L M old)

of-bit : (x : ℕ) (b : Bool) → x ≤ 1 → eqb x 1 ≡ b → x ≡ bit b
of-bit zero true h e = absurd (false≢true e)
of-bit zero false h e = refl
of-bit (suc zero) true h e = refl
of-bit (suc zero) false h e = absurd (true≢false e)
of-bit (suc (suc x)) b h e = absurd (omega arith)

-- The lists at the start, as long as there are pairs, are at the start of the course.
pub way-start : (u : Update) (on : ℕ → List ℕ) (vs queue : List ℕ) → length vs ≡ u.F.pairs → ((p : ℕ) → get_or vs p 0 ≤ 1) → u.F.pairs ≤ length queue
    → ((p : ℕ) → val_of vs p ≡ u.old p) → Underway u on 0 (start_l u.F vs queue)
unfolding job_of start
way-start u on vs queue long bits room is = stand-way (record { state = s.state ∙ same; formed = s.formed; sits = s.sits }) (begin u on)
  where
    F : Frame
    F = u.F

    d : Job
    d = first_l F vs queue

    s : Stands F (start_l F vs queue) (tidy (job_of F d))
    s = seek-empty {d = d} (record {
      range = omega arith;
      ended = λ e. refl;
      low = omega arith;
      vals = long;
      bits = bits;
      marks = length-replicate F.pairs 0;
      small = λ p. let z = zeros-at F.pairs p in omega arith;
      queue = room;
      order = omega arith;
    }) (omega arith)

    same : tidy (job_of F d) ≡ start F u.old
    same =
        ap {B = State} (λ (l : List Step). record {
          todo = skip l;
          val = val_of vs;
          held = pile_of d.pile;
          gone = 0;
          shift_visits = 0;
          settle_visits = 0;
        }) (ap (λ (k : ℕ). todo_at F 0 k false 0) (let z : F.blocks - 0 ≡ F.blocks = omega arith in z) ∙ sym (seek-start F 0 F.blocks))
        ∙ ap {B = State} (λ (f : ℕ → ℕ). record {
          todo = skip (todo_from F 0 F.blocks);
          val = val_of vs;
          held = record { marks = f; queue = [] };
          gone = 0;
          shift_visits = 0;
          settle_visits = 0;
        }) (fun_ext (zeros-at F.pairs))
        ∙ ap {B = State} (λ (v : Values). record {
          todo = skip (todo_from F 0 F.blocks);
          val = v;
          held = record { marks = λ p. 0; queue = [] };
          gone = 0;
          shift_visits = 0;
          settle_visits = 0;
        }) (fun_ext is)

-- While the block is not past the last, something is left to do.
pub some_left : {F : Frame} {c : Job} → Sits F c → c.block < F.blocks → (job_of F c).todo ≡ [] → ⊥
unfolding job_of
some_left {F} {c} z b e =
    let k : F.blocks - c.block ≡ suc (F.blocks - suc c.block) = omega arith in
    let t = ap (λ (n : ℕ). todo_at F c.block n c.settling c.place) k in
    elim (tell true (ltb c.place F.pairs)) [
      | inl h ↦
          let l = ltb-out c.place F.pairs h in
          let a = ap length (sym (t ∙ seek-here F c.block (F.blocks - suc c.block) c.settling c.place l (z.here b l)) ∙ e) in
          omega arith
      | inr h ↦
          let a = ap length (sym (t ∙ seek-turns F c.block (F.blocks - suc c.block) c.settling c.place ((ltb_no c.place F.pairs).0 h)) ∙ e) in
          omega arith
    ]

-- Past the last block a unit does nothing.
pub unit-idle : (F : Frame) (M : Leans) (test : Test) (on : ℕ → List ℕ) (c : Job) → F.blocks ≤ c.block → unit_l F M test on c ≡ c
unit-idle F M test on c b = cond_no (seek_l F (step_l F M test on c)) c ((ltb_no c.block F.blocks).1 b)

module _ {u : Update} {on : ℕ → List ℕ} (finds : Finds u.F u.M on) where
  open u use {F, L, M, old}

  -- While the block is not past the last, the last unit is still to come.
  pub way-before : {n : ℕ} {c : Job} → Underway u on n c → c.block < F.blocks → n < unit_count F L M old
  way-before w b = at_before finds w.at (some_left w.sits b)

  -- No more units than that are spent.
  pub way-most : {n : ℕ} {c : Job} → Underway u on n c → n ≤ unit_count F L M old
  way-most w = let h = at_most u on w.at in omega arith

  -- Where the block is past the last, the last unit has been.
  pub way_end : {n : ℕ} {c : Job} → Underway u on n c → F.blocks ≤ c.block → n ≡ unit_count F L M old
  way_end {c = c} w b = at-end finds w.at (none_left F c b)

  -- After the last unit the block is past the last.
  pub way-last : {c : Job} → Underway u on (unit_count F L M old) c → F.blocks ≤ c.block
  way-last {c} w =
      elim (tell true (ltb c.block F.blocks)) [
        | inl e ↦ let h = way-before w (ltb-out c.block F.blocks e) in absurd (omega arith)
        | inr e ↦ (ltb_no c.block F.blocks).0 e
      ]

  -- Where the block is past the last, the lists have all that the rule says.
  pub way-moves : Full F → {n : ℕ} {c : Job} → Underway u on n c → F.blocks ≤ c.block → MovesL F L M old c
  unfolding job_of
  way-moves full {c = c} w b =
      let m = rest-moves finds full (at_done w.at (none_left F c b)) in
      record {
        long = w.formed.vals;
        long_marks = w.formed.marks;
        values = λ p h. of-bit (get_or c.vals p 0) (move F L M old p) (w.formed.bits p) (m.values p);
        marks = λ p h. m.marks p (full p h);
        shift_visits = m.shift_visits;
        settle_visits = m.settle_visits;
      }

  module _ (test : Test) (agrees : Agrees F L M old test) where
    -- A unit goes on with the course.
    pub way-unit : {n : ℕ} {c : Job} → Underway u on n c → c.block < F.blocks → Underway u on (suc n) (unit_l F M test on c)
    way-unit {n} {c} w b =
        elim (unit-at finds w.at) [
          | inl a ↦ stand-way (unit-stands finds test agrees w) a
          | inr r ↦ absurd (some_left w.sits b r.todo)
        ]

    -- m units go on with the course, until the last.
    pub way-run : (m : ℕ) {n : ℕ} {c : Job} → Underway u on n c → Underway u on (min (n + m) (unit_count F L M old)) (run_l F M test on m c)
    way-run zero {n} {c} w = subst (λ (k : ℕ). Underway u on k c) (let h = way-most w in omega arith) w
    way-run (suc m) {n} {c} w =
        elim (tell true (ltb c.block F.blocks)) [
          | inl e ↦ subst (λ (k : ℕ). Underway u on k (run_l F M test on m (unit_l F M test on c))) (omega arith)
              (way-run m (way-unit w (ltb-out c.block F.blocks e)))
          | inr e ↦
              let b = (ltb_no c.block F.blocks).0 e in
              subst (λ (k : ℕ). Underway u on k (run_l F M test on m (unit_l F M test on c))) (let h = way_end w b in omega arith)
              (way-run m (subst (Underway u on n) (sym (unit-idle F M test on c b)) w))
        ]

module _ (F : Frame) (L M : Leans) (on : ℕ → List ℕ) (fits : Fits F L) (fits' : Fits F M) (finds : Finds F M on) (full : Full F)
    (vs queue : List ℕ) (long : length vs ≡ F.pairs) (bits : (p : ℕ) → get_or vs p 0 ≤ 1) (room : F.pairs ≤ length queue)
    (test : Test) (agrees : Agrees F L M (val_of vs) test) where
  -- The update from the values in the list.
  unfoldable pub update_of : Update
  update_of = record { F = F; L = L; M = M; old = val_of vs; fits = fits; fits' = fits' }

  -- A run on lists, from the start, is on the course.
  pub lists-run : (n : ℕ) → Underway update_of on (min n (unit_count F L M (val_of vs))) (run_l F M test on n (start_l F vs queue))
  unfolding update_of
  lists-run n =
      subst (λ (k : ℕ). Underway update_of on k (run_l F M test on n (start_l F vs queue))) (omega arith)
      (way-run {u = update_of} finds test agrees n (way-start update_of on vs queue long bits room (λ p. refl)))

  -- Before the last unit the block is not past the last.
  pub lists-before : (n : ℕ) → n < unit_count F L M (val_of vs) → (run_l F M test on n (start_l F vs queue)).block < F.blocks
  unfolding update_of
  lists-before n l =
      elim (tell true (ltb (run_l F M test on n (start_l F vs queue)).block F.blocks)) [
        | inl e ↦ ltb-out (run_l F M test on n (start_l F vs queue)).block F.blocks e
        | inr e ↦
            let h = way_end {u = update_of} finds (lists-run n) ((ltb_no (run_l F M test on n (start_l F vs queue)).block F.blocks).0 e) in
            absurd (omega arith)
      ]

  -- From the last unit on it is.
  pub lists-done : (n : ℕ) → unit_count F L M (val_of vs) ≤ n → F.blocks ≤ (run_l F M test on n (start_l F vs queue)).block
  unfolding update_of
  lists-done n l =
      way-last {u = update_of} finds (subst (λ (k : ℕ). Underway update_of on k (run_l F M test on n (start_l F vs queue))) (omega arith) (lists-run n))

  -- From the last unit on the lists have all that the rule says.
  pub lists-move : (n : ℕ) → unit_count F L M (val_of vs) ≤ n → MovesL F L M (val_of vs) (run_l F M test on n (start_l F vs queue))
  unfolding update_of
  lists-move n l = way-moves {u = update_of} finds full (lists-run n) (lists-done n l)

  -- After any number of units the old values can be told from the values and the marks.
  pub lists-old : (n p : ℕ) → let c = run_l F M test on n (start_l F vs queue) in past F (val_of c.vals) (marks_in c.pile.marks) p ≡ val_of vs p
  unfolding update_of
  lists-old n p = way-old {u = update_of} (lists-run n) p
