-- Each look and each turn on lists is one of the machine, where its places are in the lists and the queue has room.
-- Assumes nothing.
use Rattle.std.proofs.Math.Path.{◌≡◌, sym, ap, fun_ext}
use Rattle.std.specs.Prelude.{refl, Bool, true, false, not, ◌&&◌, eqb}
use Rattle.std.proofs.Common.{◌∙◌, subst, inl, inr, le_refl, length-set, length-append, get_or-set_same, get_or-set_other}
use Rattle.std.proofs.Math.Bool.{cond}
use mathlib.Core.List.Memᴰ
use mathlib.Core.List.{List, [], ◌∷◌, ◌++◌}
use Prim.Native.Nat.{ℕ, zero, suc, ◌+◌, ◌-◌, ◌≤◌, ◌<◌}
use Rattle.std.proofs.Math.Decide.{ℕ_discrete}
use native.Mathlib.Omega.{arith}
use Rattle.std.proofs.Math.ListN.{length, get_or, set}
use Rattle.lists.specs.Tests.{◌∈◌, tell, cond_yes, cond_no}
use Rattle.systems.specs.solution.System.{Frame, Leans, Values}
use Rattle.systems.specs.machine.Worklist.{Waiting, upd, wait, push, spread}
use Rattle.systems.specs.machine.WorklistEnds.{upd_same, upd_other}
use Rattle.systems.specs.machine.Machine.{free, next_mark, asks, looks, Step, sight, State, turn, look, next}
use Rattle.systems.specs.lists.ListMachine.{val_of, marks_in, turned, between, Pile, pile_of, wait_l, push_l, spread_l, Job, todo_at, job_of, Test, turn_l, look_l}
use Rattle.systems.specs.lists.Seeks.{seek-here, seek-turns}

-- As many entries as are asked for.
pub between-length : (l : List ℕ) (a n : ℕ) → length (between l a n) ≡ n
between-length l a zero = refl
between-length l a (suc n) = ap suc (between-length l (suc a) n)

-- A store right behind them makes one more.
pub between-end : (l : List ℕ) (n a t r : ℕ) → a + n ≡ t → t < length l → between (set l t r) a (suc n) ≡ between l a n ++ (r ∷ [])
between-end l zero a t r e h =
    let z : a ≡ t = omega arith in
    ap (λ (x : ℕ). x ∷ []) (ap (λ (y : ℕ). get_or (set l t r) y 0) z ∙ get_or-set_same l t r 0 h)
between-end l (suc n) a t r e h =
    ap (λ (x : ℕ). x ∷ between (set l t r) (suc a) (suc n)) (get_or-set_other l t a r 0 (λ z. omega arith))
    ∙ ap (λ (y : List ℕ). get_or l a 0 ∷ y) (between-end l n (suc a) t r (omega arith) h)

-- The marks in a list after a store.
pub set-upd : (l : List ℕ) (r x : ℕ) → r < length l → (p : ℕ) → get_or (set l r x) p 0 ≡ upd (λ p. get_or l p 0) r x p
set-upd l r x h p =
    elim (ℕ_discrete p r) [
      | yes e ↦ rw e (get_or-set_same l r x 0 h ∙ sym (upd_same (λ p. get_or l p 0) r x))
      | no e ↦ get_or-set_other l r p x 0 e ∙ sym (upd_other (λ p. get_or l p 0) r x p e)
    ]

turned-val : (vs : List ℕ) (q : ℕ) → q < length vs → (p : ℕ) → val_of (set vs q (turned (get_or vs q 0))) p ≡ upd (val_of vs) q (not (val_of vs q)) p
turned-val vs q l p =
    elim (ℕ_discrete p q) [
      | yes e ↦ rw e (ap (λ (x : ℕ). eqb x 1) (get_or-set_same vs q (turned (get_or vs q 0)) 0 l) ∙ flips (eqb (get_or vs q 0) 1) ∙ sym (upd_same (val_of vs) q (not (val_of vs q))))
      | no e ↦ ap (λ (x : ℕ). eqb x 1) (get_or-set_other vs q p (turned (get_or vs q 0)) 0 e) ∙ sym (upd_other (val_of vs) q (not (val_of vs q)) p e)
    ]
  where
    flips : (b : Bool) → eqb (cond b 0 1) 1 ≡ not b
    flips true = refl
    flips false = refl

-- Tests keep the lengths of the lists and the front of the queue, and its end only grows.
pub record Kept (h g : Pile) : Type 0 where
  pub marks : length g.marks ≡ length h.marks
  pub queue : length g.queue ≡ length h.queue
  pub from : g.from ≡ h.from
  pub tail : h.tail ≤ g.tail

module _ (free : ℕ → Bool) (next : ℕ → ℕ) (ask : ℕ → Bool) where
  wait-pile : (r : ℕ) (h : Pile) → r < length h.marks → h.from ≤ h.tail → h.tail < length h.queue → pile_of (wait_l next r h) ≡ wait next r (pile_of h)
  wait-pile r h l o m =
      let n = h.tail - h.from in
      let e : suc h.tail - h.from ≡ suc n = omega arith in
      ap (λ (f : ℕ → ℕ). record { marks = f; queue = between (set h.queue h.tail r) h.from (suc h.tail - h.from) })
      (fun_ext (set-upd h.marks r (next (get_or h.marks r 0)) l))
      ∙ ap (λ (q : List ℕ). record { marks = upd (marks_in h.marks) r (next (get_or h.marks r 0)); queue = q })
      (ap (between (set h.queue h.tail r) h.from) e ∙ between-end h.queue n h.from h.tail r (omega arith) m)

  -- A test of one pair on lists is one of the machine.
  pub push-pile : (r : ℕ) (h : Pile) → r < length h.marks → h.from ≤ h.tail → h.from + length (push free next ask r (pile_of h)).queue ≤ length h.queue
      → pile_of (push_l free next ask r h) ≡ push free next ask r (pile_of h)
  push-pile r h l o m =
      elim (tell true (free (get_or h.marks r 0) && ask r)) [
        | inl e ↦
            let b = cond_yes (wait next r (pile_of h)) (pile_of h) e in
            let a = ap (λ (w : Waiting). length w.queue) b in
            let s = between-length h.queue h.from (h.tail - h.from) in
            let t = length-append (between h.queue h.from (h.tail - h.from)) (r ∷ []) in
            ap pile_of (cond_yes (wait_l next r h) h e) ∙ wait-pile r h l o (omega arith) ∙ sym b
        | inr e ↦ ap pile_of (cond_no (wait_l next r h) h e) ∙ sym (cond_no (wait next r (pile_of h)) (pile_of h) e)
      ]

  push-more : (r : ℕ) (w : Waiting) → length w.queue ≤ length (push free next ask r w).queue
  push-more r w =
      elim (tell true (free (w.marks r) && ask r)) [
        | inl e ↦
            let a = ap (λ (b : Bool). length (cond b (wait next r w) w).queue) e in
            let t = length-append w.queue (r ∷ []) in
            omega arith
        | inr e ↦ let a = ap (λ (b : Bool). length (cond b (wait next r w) w).queue) e in omega arith
      ]

  spread-more : (l : List ℕ) (w : Waiting) → length w.queue ≤ length (spread free next ask l w).queue
  spread-more [] w = le_refl (length w.queue)
  spread-more (r ∷ l) w = let a = push-more r w in let b = spread-more l (push free next ask r w) in omega arith

  -- A test of one pair does.
  pub push_kept : (r : ℕ) (h : Pile) → Kept h (push_l free next ask r h)
  push_kept r h =
      elim (tell true (free (get_or h.marks r 0) && ask r)) [
        | inl e ↦ subst (Kept h) (sym (cond_yes (wait_l next r h) h e)) (record {
          marks = length-set h.marks r (next (get_or h.marks r 0));
          queue = length-set h.queue h.tail r;
          from = refl;
          tail = omega arith;
        })
        | inr e ↦ subst (Kept h) (sym (cond_no (wait_l next r h) h e)) (record { marks = refl; queue = refl; from = refl; tail = omega arith })
      ]

  -- Tests of the pairs of a list do.
  pub spread-kept : (l : List ℕ) (h : Pile) → Kept h (spread_l free next ask l h)
  spread-kept [] h = record { marks = refl; queue = refl; from = refl; tail = omega arith }
  spread-kept (r ∷ l) h =
      let a = spread-kept l (push_l free next ask r h) in
      let b = push_kept r h in
      record { marks = a.marks ∙ b.marks; queue = a.queue ∙ b.queue; from = a.from ∙ b.from; tail = let c = a.tail in let d = b.tail in omega arith }

  -- Tests of the pairs of a list, on lists, are those of the machine.
  pub spread-pile : (l : List ℕ) (h : Pile) → ((r : ℕ) → r ∈ l → r < length h.marks) → h.from ≤ h.tail
      → h.from + length (spread free next ask l (pile_of h)).queue ≤ length h.queue
      → pile_of (spread_l free next ask l h) ≡ spread free next ask l (pile_of h)
  spread-pile [] h f o m = refl
  spread-pile (r ∷ l) h f o m =
      let a = spread-more l (push free next ask r (pile_of h)) in
      let e = push-pile r h (f r (Memᴰ.head refl)) o (omega arith) in
      let n = push_kept r h in
      let b = ap (λ (w : Waiting). length (spread free next ask l w).queue) e in
      spread-pile l (push_l free next ask r h) (λ y k. let z = f y (Memᴰ.tail k) in omega (arith, n.marks)) (omega (arith, n.from, n.tail))
      (omega (arith, n.queue, n.from))
      ∙ ap (λ (w : Waiting). spread free next ask l w) e

-- Tests that agree at a pair do the same with it.
pub push-ask : (free : ℕ → Bool) (next : ℕ → ℕ) (f g : ℕ → Bool) (r : ℕ) (h : Pile) → f r ≡ g r → push_l free next f r h ≡ push_l free next g r h
push-ask free next f g r h e = ap (λ (b : Bool). cond (free (get_or h.marks r 0) && b) (wait_l next r h) h) e

-- Tests that agree at the pairs of a list do the same with them.
pub spread-ask : (free : ℕ → Bool) (next : ℕ → ℕ) (f g : ℕ → Bool) (l : List ℕ) (h : Pile) → ((r : ℕ) → r ∈ l → f r ≡ g r)
    → spread_l free next f l h ≡ spread_l free next g l h
spread-ask free next f g [] h e = refl
spread-ask free next f g (r ∷ l) h e =
    ap (spread_l free next f l) (push-ask free next f g r h (e r (Memᴰ.head refl)))
    ∙ spread-ask free next f g l (push_l free next g r h) (λ q m. e q (Memᴰ.tail m))

module _ (F : Frame) (L M : Leans) (on : ℕ → List ℕ) where
  -- What a look or a turn makes of a state.
  abbrev pub step : State → State
  step s = next F L M on s.todo s.held.queue s

  -- A turn on lists is one of the machine.
  pub turn-job : (c : Job) (k : ℕ) → F.blocks - c.block ≡ suc k → F.pairs ≤ c.place → c.pile.from < c.pile.tail
      → get_or c.pile.queue c.pile.from 0 < length c.vals
      → ((r : ℕ) → r ∈ on (get_or c.pile.queue c.pile.from 0) → r < length c.pile.marks)
      → (step (job_of F c)).gone + length (step (job_of F c)).held.queue ≤ length c.pile.queue
      → job_of F (turn_l F M on c) ≡ step (job_of F c)
  unfolding turn_l turn job_of
  turn-job c k b p o l f m =
      let a = c.pile.from in
      let q = get_or c.pile.queue a 0 in
      let ms = c.pile.marks in
      let ph = c.settling in
      let vs = set c.vals q (turned (get_or c.vals q 0)) in
      let h : Pile = record { marks = ms; queue = c.pile.queue; from = suc a; tail = c.pile.tail } in
      let z : c.pile.tail - a ≡ suc (c.pile.tail - suc a) = omega arith in
      let same : step (job_of F c) ≡ turn F M on ph q (between c.pile.queue (suc a) (c.pile.tail - suc a)) (job_of F c) =
      ap (λ (n : ℕ). next F L M on (job_of F c).todo (between c.pile.queue a n) (job_of F c)) z
      ∙ ap (λ (y : List Step). next F L M on y (q ∷ between c.pile.queue (suc a) (c.pile.tail - suc a)) (job_of F c))
      (ap (λ (y : ℕ). todo_at F c.block y ph c.place) b ∙ seek-turns F c.block k ph c.place p) in
      let vv : ◌≡◌ {A = Values} (val_of vs) (upd (val_of c.vals) q (not (val_of c.vals q))) = fun_ext (turned-val c.vals q l) in
      let len : suc a + length (spread (free ph) (next_mark ph) (asks F M ph (val_of vs)) (on q) (pile_of h)).queue
      ≡ (step (job_of F c)).gone + length (step (job_of F c)).held.queue =
      ap (λ (v : Values). suc a + length (spread (free ph) (next_mark ph) (asks F M ph v) (on q) (pile_of h)).queue) vv
      ∙ sym (ap (λ (s : State). s.gone + length s.held.queue) same) in
      let fk = spread-kept (free ph) (next_mark ph) (asks F M ph (val_of vs)) (on q) h in
      ap {B = State} (λ (n : ℕ). record {
        todo = (job_of F c).todo;
        val = val_of vs;
        held = pile_of (spread_l (free ph) (next_mark ph) (asks F M ph (val_of vs)) (on q) h);
        gone = n;
        shift_visits = c.shift_visits + cond ph 0 (length (on q));
        settle_visits = c.settle_visits + cond ph (length (on q)) 0;
      }) fk.from
      ∙ ap {B = State} (λ (w : Waiting). record {
        todo = (job_of F c).todo;
        val = val_of vs;
        held = w;
        gone = suc a;
        shift_visits = c.shift_visits + cond ph 0 (length (on q));
        settle_visits = c.settle_visits + cond ph (length (on q)) 0;
      }) (spread-pile (free ph) (next_mark ph) (asks F M ph (val_of vs)) (on q) h f o (omega arith))
      ∙ ap {B = State} (λ (v : Values). record {
        todo = (job_of F c).todo;
        val = v;
        held = spread (free ph) (next_mark ph) (asks F M ph v) (on q) (pile_of h);
        gone = suc a;
        shift_visits = c.shift_visits + cond ph 0 (length (on q));
        settle_visits = c.settle_visits + cond ph (length (on q)) 0;
      }) vv
      ∙ sym same

  -- At a pair of the block, the machine looks at it.
  pub look-step : (c : Job) → c.block < F.blocks → c.place < F.pairs → F.block c.place ≡ c.block
      → step (job_of F c) ≡ look F L M c.settling c.place (todo_at F c.block (F.blocks - c.block) c.settling (suc c.place)) (job_of F c)
  unfolding job_of
  look-step c lt l h =
      let ph = c.settling in
      let k = F.blocks - suc c.block in
      let b : F.blocks - c.block ≡ suc k = omega arith in
      ap (λ (y : List Step). next F L M on y (job_of F c).held.queue (job_of F c))
      (ap (λ (y : ℕ). todo_at F c.block y ph c.place) b ∙ seek-here F c.block k ph c.place l h
      ∙ ap (λ (y : ℕ). sight ph c.place ∷ todo_at F c.block y ph (suc c.place)) (sym b))

  -- A look on lists, by a test that agrees, is one of the machine.
  pub look-job : (test : Test) (c : Job) → c.block < F.blocks → c.place < F.pairs → F.block c.place ≡ c.block
      → test c.settling (val_of c.vals) (marks_in c.pile.marks) c.place ≡ looks F L M c.settling (val_of c.vals) (marks_in c.pile.marks) c.place
      → c.place < length c.pile.marks → c.pile.from ≤ c.pile.tail
      → (step (job_of F c)).gone + length (step (job_of F c)).held.queue ≤ length c.pile.queue
      → job_of F (look_l test c) ≡ step (job_of F c)
  unfolding look_l look job_of
  look-job test c lt l k t n o m =
      let ph = c.settling in
      let h = c.pile in
      let rest = todo_at F c.block (F.blocks - c.block) ph (suc c.place) in
      let mine = test ph (val_of c.vals) (marks_in h.marks) in
      let ask = looks F L M ph (val_of c.vals) (marks_in h.marks) in
      let same : step (job_of F c) ≡ look F L M ph c.place rest (job_of F c) = look-step c lt l k in
      let len : h.from + length (push (free ph) (next_mark ph) ask c.place (pile_of h)).queue ≡ (step (job_of F c)).gone + length (step (job_of F c)).held.queue =
      sym (ap (λ (s : State). s.gone + length s.held.queue) same) in
      ap {B = State} (λ (w : Pile). record {
        todo = rest;
        val = val_of c.vals;
        held = pile_of w;
        gone = w.from;
        shift_visits = c.shift_visits;
        settle_visits = c.settle_visits;
      }) (push-ask (free ph) (next_mark ph) mine ask c.place h t)
      ∙ ap {B = State} (λ (y : ℕ). record {
        todo = rest;
        val = val_of c.vals;
        held = pile_of (push_l (free ph) (next_mark ph) ask c.place h);
        gone = y;
        shift_visits = c.shift_visits;
        settle_visits = c.settle_visits;
      }) (push_kept (free ph) (next_mark ph) ask c.place h).from
      ∙ ap {B = State} (λ (w : Waiting). record {
        todo = rest;
        val = val_of c.vals;
        held = w;
        gone = h.from;
        shift_visits = c.shift_visits;
        settle_visits = c.settle_visits;
      }) (push-pile (free ph) (next_mark ph) ask c.place h n o (omega arith))
      ∙ sym same
