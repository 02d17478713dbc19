-- A unit of the machine, a look or a turn, keeps what holds in the midst of its phase.
-- Assumes nothing.
use Rattle.std.specs.Prelude.{◌≡◌, Bool, cond, List, ◌∷◌, ℕ, ◌<◌}
use Rattle.std.proofs.Math.Path.{refl, sym, ap, fun_ext}
use Rattle.std.proofs.Common.{◌∙◌, subst, arith}
use Rattle.std.proofs.Math.Logic.{inl, inr}
use Rattle.std.proofs.Math.Bool.{true, false, not}
use Rattle.std.proofs.lemmas.Bool.{false≢true}
use mathlib.Core.List.Memᴰ
use Rattle.std.proofs.Math.Decide.{ℕ_discrete}
use Rattle.std.proofs.Math.Dec.{eqb, ltb}
use Rattle.lists.specs.Marks.{put}
use Rattle.lists.specs.Lists.{is}
use Rattle.lists.specs.Tests.{◌∈◌, tell, clash, not-not, is-out, is-in, and_in, and_left, and_right, or-out, eqb-out, cond_yes, cond_no}
use Rattle.lists.specs.Sets.{none, add, add_same, add-other}
use Rattle.systems.specs.solution.System.{Values, eval, drops, shifts, move_to}
use Rattle.systems.specs.solution.Operands.{ev-differ}
use Rattle.systems.specs.solution.Put.{put_in, put-off}
use Rattle.systems.specs.moving.SettleRule.{drops-out, drops-in}
use Rattle.systems.specs.moving.ShiftRule.{Why, seed, lean, risen, Shifts, shifts-in, shifts-out}
use Rattle.systems.specs.machine.Worklist.{Waiting, upd, push, spread, Good}
use Rattle.systems.specs.machine.WorklistEnds.{upd_same, upd_other, front, work-look, work-turn}
use Rattle.systems.specs.machine.Machine.{own, past, free, next_mark, asks, looks, Finds}
use Rattle.systems.specs.machine.Leaners.{found_in, found-out}
use Rattle.systems.specs.machine.Phases.{Update, base, target, rule, turning, marks_to, marks_of, plan, Doing}
use Rattle.systems.specs.machine.PhaseKeeps.{rule-monotone, turning-shifts, turning-drops, old-here, marks-later, marked-turns, marked-here, unmarked-still, still-val, past-doing}

module _ (u : Update) where
  open u use {F, L, M, old}

  -- A pair of the block is free before it is marked.
  pub free-before : (ph : Bool) (i r : ℕ) → F.block r ≡ i → free ph (marks_of u ph i r) ≡ true
  unfolding marks_of
  free-before false i r e = ap (λ (m : ℕ). eqb m 0) (marks-later u i r (omega arith))
  free-before true i r e =
      elim (tell true (turning u false i r)) [
        | inl s ↦ ap (λ (m : ℕ). ltb m 2) (cond_yes 1 (marks_to u i r) s)
        | inr s ↦ ap (λ (m : ℕ). ltb m 2) (cond_no 1 (marks_to u i r) s ∙ marks-later u i r (omega arith))
      ]

  -- It is not after.
  free-after : (ph : Bool) (i r : ℕ) → F.block r ≡ i → free ph (next_mark ph (marks_of u ph i r)) ≡ false
  unfolding marks_of
  free-after false i r e = refl
  free-after true i r e =
      elim (tell true (turning u false i r)) [
        | inl s ↦ ap (λ (m : ℕ). ltb (next_mark true m) 2) (cond_yes 1 (marks_to u i r) s)
        | inr s ↦ ap (λ (m : ℕ). ltb (next_mark true m) 2) (cond_no 1 (marks_to u i r) s ∙ marks-later u i r (omega arith))
      ]

  -- While settling, the test is the rule.
  module _ (i : ℕ) (t : ℕ → Bool) (v : Values) (vals : (p : ℕ) → v p ≡ put (not (F.great i)) (base u true i) t p) where
    settle-sound : (r : ℕ) → F.block r ≡ i → t r ≡ false → asks F M true v r ≡ true → rule u true i t r ≡ true
    unfolding rule asks
    settle-sound r e f h =
        let x = is (own F r) (v r) in
        let y = is (not (own F r)) (eval F M v r) in
        drops-in F M i (base u true i) t r (record {
          here = e;
          own = sym (vals r ∙ put-off (not (F.great i)) (base u true i) t r f) ∙ is-out (own F r) (v r) (and_left x y h) ∙ ap F.great e;
          gives =
              ap (λ (c : Values). eval F M c r) (sym (fun_ext vals)) ∙ is-out (not (own F r)) (eval F M v r) (and_right x y h)
              ∙ ap (λ (j : ℕ). not (F.great j)) e;
        })

    settle-whole : (r : ℕ) → F.block r ≡ i → t r ≡ false → rule u true i t r ≡ true → asks F M true v r ≡ true
    unfolding rule asks
    settle-whole r e f h =
        let d = drops-out F M i (base u true i) t r h in
        and_in
        (is-in (own F r) (v r) (vals r ∙ put-off (not (F.great i)) (base u true i) t r f ∙ d.own ∙ ap F.great (sym e)))
        (is-in (not (own F r)) (eval F M v r) (ap (λ (c : Values). eval F M c r) (fun_ext vals) ∙ d.gives ∙ ap (λ (j : ℕ). not (F.great j)) (sym e)))

    settle-good : (g : ℕ → Bool) (r : ℕ) → F.block r ≡ i → (g r ≡ true → rule u true i t r ≡ true) → Good (plan u true i) t (asks F M true v) g r
    settle-good g r e f = record {
      open-before = free-before true i r e;
      shut-after = free-after true i r e;
      sound = settle-sound r e;
      whole = λ k h. settle-whole r e k (f h);
    }

  -- While shifting, a pair that leans on a shifted one.
  lean-good : (i : ℕ) → i < F.blocks → (t : ℕ → Bool) (v : Values) → ((p : ℕ) → v p ≡ put (F.great i) (base u false i) t p)
      → (q r : ℕ) → F.block r ≡ i → q ∈ M r → t q ≡ true → Good (plan u false i) t (asks F M false v) (rule u false i t) r
  unfolding rule asks base
  lean-good i lt t v vals q r e m h = record {
    open-before = free-before false i r e;
    shut-after = free-after false i r e;
    sound = λ f k. shifts-in F L M i old (move_to F L M old i) t r (record {
      here = e;
      was = sym (was f) ∙ is-out (not (own F r)) (v r) k ∙ ap (λ (j : ℕ). not (F.great j)) e;
      why = lean q m h;
    });
    whole = λ f k.
        is-in (not (own F r)) (v r)
        (was f ∙ (shifts-out F L M i old (move_to F L M old i) t r k).was ∙ ap (λ (j : ℕ). not (F.great j)) (sym e));
  }
    where
      was : t r ≡ false → v r ≡ old r
      was f = vals r ∙ put-off (F.great i) (move_to F L M old i) t r f ∙ old-here u lt r e

  -- While shifting, a pair that is looked at.
  seed-good : {i : ℕ} {x t : ℕ → Bool} {rest : List ℕ} {v : Values} {w : Waiting} → Doing u false i x t rest v w → (p : ℕ) → F.block p ≡ i
      → Good (plan u false i) t (looks F L M false v w.marks) (rule u false i none) p
  unfolding rule looks base
  seed-good {i} {x} {t} {v = v} {w} d p e = record {
    open-before = free-before false i p e;
    shut-after = free-after false i p e;
    sound = λ f k.
        let s = shifts-out F L M i old v none p (sym same ∙ k) in
        shifts-in F L M i old (move_to F L M old i) t p (record { here = s.here; was = s.was; why = to s.why });
    whole = λ f k.
        let s = shifts-out F L M i old (move_to F L M old i) none p k in
        same ∙ shifts-in F L M i old v none p (record { here = s.here; was = s.was; why = from s.why });
  }
    where
      same : shifts F L M (F.block p) (past F v w.marks) v none p ≡ shifts F L M i old v none p
      same =
          ap (λ (j : ℕ). shifts F L M j (past F v w.marks) v none p) e
          ∙ ap (λ (o : Values). shifts F L M i o v none p) (fun_ext (past-doing false d))

      earlier : (q : ℕ) → F.block q < i → v q ≡ move_to F L M old i q
      earlier q l =
          elim (tell false (x q)) [
            | inl h ↦ still-val d q (unmarked-still d q h)
            | inr h ↦ let k = marked-here d q h in absurd (omega arith)
          ]

      to : Why F L M i old v none p → Why F L M i old (move_to F L M old i) t p
      to (seed y) = seed y
      to (lean q m h) = absurd (false≢true h)
      to (risen q m r) = risen q m (record { before = r.before; was = r.was; now = sym (earlier q r.before) ∙ r.now })

      from : Why F L M i old (move_to F L M old i) none p → Why F L M i old v none p
      from (seed y) = seed y
      from (lean q m h) = absurd (false≢true h)
      from (risen q m r) = risen q m (record { before = r.before; was = r.was; now = earlier q r.before ∙ r.now })

-- A look keeps what holds, for some set of marked pairs.
pub look-doing : {u : Update} {ph : Bool} {i : ℕ} {x t : ℕ → Bool} {p : ℕ} {rest : List ℕ} {v : Values} {w : Waiting} → Doing u ph i x t (p ∷ rest) v w
    → (now : ℕ → Bool) × Doing u ph i now t rest v (push (free ph) (next_mark ph) (looks u.F u.L u.M ph v w.marks) p w)
unfolding looks
look-doing {u} {ph} {i} {x} {t} {p} {rest} {v} {w} d =
    let a = work-look (rule-monotone u ph d.lt) (looks u.F u.L u.M ph v w.marks) d.work (good ph d) in
    (a.0, record { lt = d.lt; here = λ q m. d.here q (Memᴰ.tail m); work = a.1; vals = d.vals })
  where
    good : (ph : Bool) → Doing u ph i x t (p ∷ rest) v w → Good (plan u ph i) t (looks u.F u.L u.M ph v w.marks) (rule u ph i none) p
    good false d = seed-good u d p (d.here p (Memᴰ.head refl))
    good true d =
        settle-good u i t v d.vals (rule u true i none) p (d.here p (Memᴰ.head refl))
        ((rule-monotone u true d.lt).more none t (λ q k. absurd (false≢true k)) p)

-- The marks m, with q in front of the pairs that wait.
abbrev pub in_front : (ℕ → ℕ) → ℕ → List ℕ → Waiting
in_front m q queue = record { marks = m; queue = q ∷ queue }

module _ {u : Update} {i : ℕ} {x t : ℕ → Bool} {q : ℕ} {queue rest : List ℕ} {v : Values} {m : ℕ → ℕ} where
  open u use {F, L, M, old}

  -- The pair in front is marked and has not turned.
  pub front-waits : (ph : Bool) → Doing u ph i x t rest v (in_front m q queue) → (x q ≡ true) × (t q ≡ false)
  front-waits ph d = front (plan u ph i) d.work.stage

  -- The pair in front is a pair of the block.
  pub front-here : (ph : Bool) → Doing u ph i x t rest v (in_front m q queue) → F.block q ≡ i
  front-here ph d = marked-here d q (front-waits ph d).0

  -- The pair in front has the value that pairs turn from.
  pub front-value : (ph : Bool) → Doing u ph i x t rest v (in_front m q queue) → not (base u ph i q) ≡ target u ph i
  unfolding base
  front-value false d =
      ap not (old-here u d.lt q (front-here false d) ∙ (turning-shifts u d.lt q (marked-turns d q (front-waits false d).0)).was)
      ∙ not-not (F.great i)
  front-value true d = ap not (turning-drops u d.lt q (marked-turns d q (front-waits true d).0)).own

  turn-vals : (ph : Bool) → Doing u ph i x t rest v (in_front m q queue) → (p : ℕ) → upd v q (not (v q)) p ≡ put (target u ph i) (base u ph i) (add q t) p
  turn-vals ph d p =
      elim (ℕ_discrete p q) [
        | yes e ↦ rw e
            (upd_same v q (not (v q)) ∙ ap not (still-val d q (front-waits ph d).1) ∙ front-value ph d
            ∙ sym (put_in (target u ph i) (base u ph i) (add q t) q (add_same q t)))
        | no n ↦
            upd_other v q (not (v q)) p n ∙ d.vals p
            ∙ ap (λ (b : Bool). cond b (target u ph i) (base u ph i p)) (sym (add-other q t p n))
      ]

  module _ {on : ℕ → List ℕ} (finds : Finds u.F u.M on) where
    -- What the rule asks for because q has turned leans on q.
    depends : (ph : Bool) → Doing u ph i x t rest v (in_front m q queue) → (p : ℕ) → rule u ph i (add q t) p ≡ true → rule u ph i t p ≡ false → p ∈ on q
    unfolding rule
    depends false d p e f = let s = shifts-out F L M i old b (add q t) p e in go s s.why
      where
        b : Values
        b = move_to F L M old i

        before : Shifts F L M i old b (add q t) p → Why F L M i old b t p → p ∈ on q
        before s y =
            absurd (clash true (shifts F L M i old b t p) (shifts-in F L M i old b t p (record { here = s.here; was = s.was; why = y })) f)

        go : Shifts F L M i old b (add q t) p → Why F L M i old b (add q t) p → p ∈ on q
        go s (seed y) = before s (seed y)
        go s (risen r k y) = before s (risen r k y)
        go s (lean r k y) =
            elim (or-out (eqb r q) (t r) y) [
              | inr z ↦ before s (lean r k z)
              | inl z ↦ found_in finds q p (let h = front-here false d in let l = d.lt in omega arith)
                  (subst (λ (y : ℕ). y ∈ M p) (eqb-out r q z) k) (s.here ∙ sym (front-here false d))
            ]
    depends true d p e f =
        let c = not (F.great i) in
        let b = base u true i in
        let s = drops-out F M i b (add q t) p e in
        elim (tell (F.great i) (eval F M (put c b t) p)) [
          | inr k ↦ absurd (clash true (drops F M i b t p) (drops-in F M i b t p (record { here = s.here; own = s.own; gives = k })) f)
          | inl k ↦
              let r = ev-differ (F.kind p) (F.great i) (put c b t) (put c b (add q t)) (M p) k s.gives in
              elim (ℕ_discrete r.0 q) [
                | yes z ↦ found_in finds q p (let h = front-here true d in let l = d.lt in omega arith)
                    (subst (λ (y : ℕ). y ∈ M p) z r.1) (s.here ∙ sym (front-here true d))
                | no z ↦ absurd (clash (F.great i) (put c b t r.0) r.2
                    (ap (λ (y : Bool). cond y c (b r.0)) (sym (add-other q t r.0 z)) ∙ r.3))
              ]
        ]

    -- A turn keeps what holds, for some set of marked pairs.
    pub turn-doing : (ph : Bool) → Doing u ph i x t rest v (in_front m q queue)
        → (now : ℕ → Bool) × Doing u ph i now (add q t) rest (upd v q (not (v q)))
        (spread (free ph) (next_mark ph) (asks u.F u.M ph (upd v q (not (v q)))) (on q) (record { marks = m; queue = queue }))
    turn-doing ph d =
        let a = work-turn (rule-monotone u ph d.lt) (asks F M ph (upd v q (not (v q)))) (on q) d.work (depends ph d) (good ph d) in
        (a.0, record { lt = d.lt; here = d.here; work = a.1; vals = turn-vals ph d })
      where
        good : (ph : Bool) → Doing u ph i x t rest v (in_front m q queue) → (r : ℕ) → r ∈ on q
            → Good (plan u ph i) (add q t) (asks F M ph (upd v q (not (v q)))) (rule u ph i (add q t)) r
        good false d r k =
            let h = front-here false d in
            let o = found-out finds q r (let l = d.lt in omega arith) k in
            lean-good u i d.lt (add q t) (upd v q (not (v q))) (turn-vals false d) q r (o.0 ∙ h) o.1 (add_same q t)
        good true d r k =
            let h = front-here true d in
            let o = found-out finds q r (let l = d.lt in omega arith) k in
            settle-good u i (add q t) (upd v q (not (v q))) (turn-vals true d) (rule u true i (add q t)) r (o.0 ∙ h) (λ y. y)
