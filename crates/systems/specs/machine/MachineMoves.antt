-- The machine and the rule. After exactly as many units as there are looks and turns, which is two for each pair, one for
-- each that shifts and one for each that settles, nothing is left to do, and the values, the marks and the visits are the
-- rule's; before, something is. At any point the old values can be told from the values and the marks.
-- Assumes nothing.
use Rattle.std.specs.Prelude.{◌≡◌, refl, Bool, List, []}
use Rattle.std.proofs.Math.Path.{sym, ap}
use Rattle.std.proofs.Common.{◌∙◌, subst}
use Rattle.std.proofs.Math.Logic.{inl, inr}
use Rattle.std.proofs.Math.Bool.{true, false}
use Prim.Native.Nat.{ℕ, zero, suc, ◌+◌, ◌≤◌, ◌<◌, min}
use native.Mathlib.Omega.{arith}
use Rattle.std.proofs.Math.ListN.{length}
use Rattle.lists.specs.Lists.{bit}
use Rattle.lists.specs.Tests.{and_in, or-out, ltb-in}
use Rattle.lists.specs.Sums.{sum-ext}
use Rattle.lists.specs.Sets.{Sub, size, weight-size, weight-ext, weight-none, weight-le}
use Rattle.systems.specs.solution.System.{Frame, Leans, Values, Fits, Full, settled, shifted, move_to, move}
use Rattle.systems.specs.moving.Marks.{shift_of, settle_of, mark, visits}
use Rattle.systems.specs.moving.UpTo.{up_to, up_in, up-off, up-mono, shift-at, settle-at}
use Rattle.systems.specs.machine.Worklist.{Waiting}
use Rattle.systems.specs.machine.Machine.{past, State, Finds, unit, run, pairs_of, todo_from, sights, start}
use Rattle.systems.specs.moving.Visits.{visits-weight}
use Rattle.systems.specs.machine.Looks.{looks-total}
use Rattle.systems.specs.machine.Phases.{Update, base, rule, turning, Doing}
use Rattle.systems.specs.machine.PhaseKeeps.{marks-before, marks-later, marked-turns, marked-here}
use Rattle.systems.specs.machine.Course.{shift_to, settle_to, have_shifted, have_settled, Rest, Going, At, to-look, to-turn, done}
use Rattle.systems.specs.machine.RunKeeps.{ready, past-at, unit-at, rest-unit, at_done}

-- How many units an update takes: one for each look, one for each pair that shifts, and one for each that settles.
unfoldable pub unit_count : Frame → Leans → Leans → Values → ℕ
unfolding pairs_of shift_of settle_of
unit_count F L M old =
    sights (todo_from F 0 F.blocks) + size F.pairs (up_to F (shift_of F L M old) F.blocks) + size F.pairs (up_to F (settle_of F L M old) F.blocks)

-- A state has all that the rule says, and nothing is left to do.
pub record Moves (F : Frame) (L M : Leans) (old : Values) (s : State) : Type 0 where
  pub values : (p : ℕ) → s.val p ≡ move F L M old p
  pub marks : (p : ℕ) → F.block p < F.blocks → s.held.marks p ≡ mark F L M old p
  pub shift_visits : s.shift_visits ≡ visits F M (shift_of F L M old)
  pub settle_visits : s.settle_visits ≡ visits F M (settle_of F L M old)
  pub empty : s.held.queue ≡ []
  pub nothing : s.todo ≡ []

module _ (u : Update) (on : ℕ → List ℕ) where
  open u use {F, L, M, old}

  -- Before the first block.
  first : Rest u on 0 0 F.blocks
      (record { todo = todo_from F 0 F.blocks; val = old; held = record { marks = λ p. 0; queue = [] }; gone = 0; shift_visits = 0; settle_visits = 0 })
  unfolding move_to
  first = record {
    place = omega arith;
    vals = λ p. refl;
    marks = λ p. sym (marks-later u 0 p (omega arith));
    empty = refl;
    gone = refl;
    todo = refl;
    counted = record {
      shift_visits = sym (weight-none F.pairs (λ q. length (on q)) (shift_to u 0) (λ p. up-off F (shift_of F L M old) 0 p (omega arith)));
      settle_visits = sym (weight-none F.pairs (λ q. length (on q)) (settle_to u 0) (λ p. up-off F (settle_of F L M old) 0 p (omega arith)));
      spent =
          let a = weight-none F.pairs (λ q. 1) (shift_to u 0) (λ p. up-off F (shift_of F L M old) 0 p (omega arith)) in
          let b = weight-none F.pairs (λ q. 1) (settle_to u 0) (λ p. up-off F (settle_of F L M old) 0 p (omega arith)) in
          omega arith;
    };
  }

  -- The machine starts before the first look, or is done.
  pub begin : At u on 0 (start F old)
  unfolding start
  begin = ready F.blocks first

  module _ {i : ℕ} {x t : ℕ → Bool} {rest : List ℕ} {v : Values} {w : Waiting} where
    -- What has shifted so far is a part of all that shifts.
    in-shifts : (ph : Bool) → Doing u ph i x t rest v w → Sub (have_shifted u ph i t) (shift_to u F.blocks)
    unfolding have_shifted turning rule shifted
    in-shifts false d p e =
        elim (or-out (shift_to u i p) (t p) e) [
          | inl h ↦ up-mono F (shift_of F L M old) (let l = d.lt in omega arith) p h
          | inr h ↦
              let k = d.work.stage.within p h in
              let b = marked-here d p k in
              and_in (ltb-in (F.block p) F.blocks (let l = d.lt in omega arith)) (shift-at F L M old i p b ∙ marked-turns d p k)
        ]
    in-shifts true d p e = up-mono F (shift_of F L M old) d.lt p e

    -- What has settled so far is a part of all that settles.
    in-settles : (ph : Bool) → Doing u ph i x t rest v w → Sub (have_settled u ph i t) (settle_to u F.blocks)
    unfolding have_settled turning rule base settled
    in-settles false d p e = up-mono F (settle_of F L M old) (let l = d.lt in omega arith) p e
    in-settles true d p e =
        elim (or-out (settle_to u i p) (t p) e) [
          | inl h ↦ up-mono F (settle_of F L M old) (let l = d.lt in omega arith) p h
          | inr h ↦
              let k = d.work.stage.within p h in
              let b = marked-here d p k in
              and_in (ltb-in (F.block p) F.blocks (let l = d.lt in omega arith)) (settle-at F L M old i p b ∙ marked-turns d p k)
        ]

  -- When nothing is left, all units have been spent.
  rest-units : {n : ℕ} {s : State} → Rest u on n F.blocks 0 s → n ≡ unit_count F L M old
  unfolding unit_count
  rest-units r =
      let a = r.counted.spent in
      let b = ap sights r.todo in
      let c = weight-size F.pairs (shift_to u F.blocks) in
      let d = weight-size F.pairs (settle_to u F.blocks) in
      omega arith

  -- No more are spent than that.
  going-most : {n : ℕ} {ph : Bool} {i k : ℕ} {x t : ℕ → Bool} {rest : List ℕ} {s : State} → Going u on n ph i k x t rest s → n + sights s.todo ≤ unit_count F L M old
  unfolding unit_count
  going-most {ph = ph} {i} {t = t} g =
      let a = g.counted.spent in
      let b = weight-le F.pairs (λ p. 1) (have_shifted u ph i t) (shift_to u F.blocks) (in-shifts ph g.doing) in
      let c = weight-le F.pairs (λ p. 1) (have_settled u ph i t) (settle_to u F.blocks) (in-settles ph g.doing) in
      let d = weight-size F.pairs (shift_to u F.blocks) in
      let e = weight-size F.pairs (settle_to u F.blocks) in
      omega arith

  pub at_most : {n : ℕ} {s : State} → At u on n s → n + sights s.todo ≤ unit_count F L M old
  at_most (to-look ph i k x p rest g) = going-most g
  at_most (to-turn ph i k x t q queue g e) = going-most g
  at_most (done r) = let b = rest-units r in let c = ap sights r.todo in omega arith

module _ {u : Update} {on : ℕ → List ℕ} (finds : Finds u.F u.M on) where
  open u use {F, L, M, old}

  -- While something is left to do, not all have been spent.
  pub at_before : {n : ℕ} {s : State} → At u on n s → (s.todo ≡ [] → ⊥) → n < unit_count F L M old
  at_before {n} {s} a f =
      elim (unit-at finds a) [
        | inl b ↦ let h = at_most u on b in omega arith
        | inr r ↦ absurd (f r.todo)
      ]

  -- Once nothing is left to do, all have been.
  pub at-end : {n : ℕ} {s : State} → At u on n s → s.todo ≡ [] → n ≡ unit_count F L M old
  at-end a f = rest-units u on (at_done a f)

  -- Once all are spent, nothing is left.
  pub at_last : {s : State} → At u on (unit_count F L M old) s → Rest u on (unit_count F L M old) F.blocks 0 s
  at_last a =
      elim (unit-at finds a) [
        | inl b ↦ let h = at_most u on b in absurd (omega arith)
        | inr r ↦ r
      ]

  -- m units more.
  pub steps : (m : ℕ) {n : ℕ} {s : State} → At u on n s → At u on (min (n + m) (unit_count F L M old)) (run F L M on m s)
  steps zero {n} {s} a = subst (λ (k : ℕ). At u on k s) (let h = at_most u on a in omega arith) a
  steps (suc m) {n} {s} a =
      let t = run F L M on m (unit F L M on s) in
      elim (unit-at finds a) [
        | inl b ↦ subst (λ (k : ℕ). At u on k t) (omega arith) (steps m b)
        | inr r ↦ subst (λ (k : ℕ). At u on k t) (let h = rest-units u on r in omega arith) (steps m (subst (At u on n) (sym (rest-unit r)) a))
      ]

  -- Where the machine is after n units.
  pub run_at : (n : ℕ) → At u on (min n (unit_count F L M old)) (run F L M on n (start F old))
  run_at n = subst (λ (k : ℕ). At u on k (run F L M on n (start F old))) (omega arith) (steps n (begin u on))

  -- When nothing is left, the state has all that the rule says.
  pub rest-moves : Full F → {n : ℕ} {s : State} → Rest u on n F.blocks 0 s → Moves F L M old s
  unfolding move
  rest-moves full r = record {
    values = r.vals;
    marks = λ p l. r.marks p ∙ marks-before u F.blocks p l;
    shift_visits =
        r.counted.shift_visits
        ∙ weight-ext F.pairs (λ q. length (on q)) (shift_to u F.blocks) (shift_of F L M old) (λ p l. up_in F (shift_of F L M old) F.blocks p (full p l))
        ∙ sym (visits-weight u.fits' full finds (shift_of F L M old));
    settle_visits =
        r.counted.settle_visits
        ∙ weight-ext F.pairs (λ q. length (on q)) (settle_to u F.blocks) (settle_of F L M old) (λ p l. up_in F (settle_of F L M old) F.blocks p (full p l))
        ∙ sym (visits-weight u.fits' full finds (settle_of F L M old));
    empty = r.empty;
    nothing = r.todo;
  }

module _ (F : Frame) (L M : Leans) (old : Values) (on : ℕ → List ℕ) (fits : Fits F L) (fits' : Fits F M) (finds : Finds F M on) where
  -- The update.
  u : Update
  u = record { F = F; L = L; M = M; old = old; fits = fits; fits' = fits' }

  -- After any number of units the values before the update can be told from the values and the marks.
  pub old_value : (n p : ℕ) → let s = run F L M on n (start F old) in past F s.val s.held.marks p ≡ old p
  unfolding u
  old_value n p = past-at (run_at {u = u} finds n) p

  -- Before the last unit something is left to do.
  pub machine-before : (n : ℕ) → (run F L M on n (start F old)).todo ≡ [] → unit_count F L M old ≤ n
  unfolding u
  machine-before n f = let h = at-end {u = u} finds (run_at {u = u} finds n) f in omega arith

  module _ (full : Full F) where
    -- The units are two for each pair, one for each that shifts and one for each that settles.
    pub unit-count : unit_count F L M old ≡ F.pairs + F.pairs + size F.pairs (shift_of F L M old) + size F.pairs (settle_of F L M old)
    unfolding unit_count
    unit-count =
        let a = looks-total F full in
        let b = same (shift_of F L M old) in
        let c = same (settle_of F L M old) in
        omega arith
      where
        same : (d : ℕ → Bool) → size F.pairs (up_to F d F.blocks) ≡ size F.pairs d
        same d = sum-ext F.pairs (λ p. bit (up_to F d F.blocks p)) (λ p. bit (d p)) (λ p l. ap bit (up_in F d F.blocks p (full p l)))

    -- From the last unit on, the state has all that the rule says.
    pub machine-moves : (n : ℕ) → unit_count F L M old ≤ n → Moves F L M old (run F L M on n (start F old))
    unfolding u
    machine-moves n l =
        rest-moves {u = u} finds full
        (at_last {u = u} finds (subst (λ (k : ℕ). At u on k (run F L M on n (start F old))) (omega arith) (run_at {u = u} finds n)))
