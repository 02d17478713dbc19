-- A worklist, for any monotone rule: what is kept while pairs are looked at, marked and turned, and that at the end
-- exactly those have turned which the rule asks for. The order of the pairs that wait does not matter: they are known by
-- how often they stand.
-- Assumes nothing.
use Rattle.std.specs.Prelude.{◌≡◌, refl, ◌⊎◌, Bool, true, false, not, ◌&&◌, cond, List, [], ◌∷◌, ◌++◌, ℕ, ◌≤◌, eqb}
use Rattle.std.proofs.Common.{sym, ap, ◌∙◌, subst, inl, inr, arith}
use Rattle.std.proofs.lemmas.Bool.{false≢true}
use mathlib.Core.List.Memᴰ
use Rattle.std.proofs.Math.Decide.{ℕ_discrete}
use Rattle.lists.specs.Lists.{bit}
use Rattle.lists.specs.Smallest.{at, smallest}
use Rattle.lists.specs.Tests.{◌∈◌, tell, clash, and_in, or-out, and_no, eqb-out, eqb_same, eqb_no, cond_yes, cond_no}
use Rattle.lists.specs.Sets.{Sub, sub-no, none, add, add_same, add-other, add-sub}
use Rattle.lists.specs.Counts.{times, times-in, times-out, times-append}
use Rattle.lists.specs.SmallestLaws.{Monotone, smallest-add, smallest-same}
use Rattle.systems.specs.machine.Worklist.{Waiting, upd, wait, push, spread, Plan, Stage, Work, Good}

-- A function that has been changed at p has the new value there.
pub upd_same {ℓ} : {A : Type ℓ} (f : ℕ → A) (p : ℕ) (x : A) → upd f p x p ≡ x
upd_same f p x = ap (λ (b : Bool). cond b x (f p)) (eqb_same p)

-- A function that has been changed at p has its old value anywhere else.
pub upd_other {ℓ} : {A : Type ℓ} (f : ℕ → A) (p : ℕ) (x : A) (q : ℕ) → (q ≡ p → ⊥) → upd f p x q ≡ f q
upd_other f p x q n = ap (λ (b : Bool). cond b x (f q)) ((eqb_no q p).1 n)

-- What waits after a test of r waited before, or is r.
pub push-in : (free : ℕ → Bool) (next : ℕ → ℕ) (ask : ℕ → Bool) (r : ℕ) (w : Waiting) (q : ℕ) → q ∈ (push free next ask r w).queue → (q ∈ w.queue) ⊎ (q ≡ r)
push-in free next ask r w q m =
    elim (tell true (free (w.marks r) && ask r)) [
      | inr e ↦ inl (subst (λ (b : Bool). q ∈ (cond b (wait next r w) w).queue) e m)
      | inl e ↦
          let a = times-in q (subst (λ (b : Bool). q ∈ (cond b (wait next r w) w).queue) e m) in
          let c = times-append q w.queue (r ∷ []) in
          elim (tell true (eqb r q)) [
            | inl h ↦ inr (sym (eqb-out r q h))
            | inr h ↦ let b : bit (eqb r q) ≡ 0 = ap bit h in inl (times-out q w.queue (omega arith))
          ]
    ]

module _ (k : Plan) where
  open k use {bound, rule, free, next, before}

  -- After the pairs of l have been tested, more are marked, and among them all that g asks for.
  record Pushed (x t g : ℕ → Bool) (l : List ℕ) (w : Waiting) : Type 0 where
    pub now : ℕ → Bool
    pub stage : Stage k now t w
    pub more : Sub x now
    pub seen : (r : ℕ) → r ∈ l → g r ≡ true → now r ≡ true

  -- At the start nothing is marked, and what the rule asks for of itself is to be looked at.
  pub work_start : (w : Waiting) (rest : List ℕ) → ((p : ℕ) → w.marks p ≡ before p) → w.queue ≡ [] → ((p : ℕ) → rule none p ≡ true → p ∈ rest)
      → Work k none none w rest
  work_start w rest h e f = record {
    stage = record {
      within = λ p a. a;
      asked = λ p a. absurd (false≢true a);
      marked = h;
      queued = λ p. ap (times p) e;
    };
    first = λ p a. inr (f p a);
    later = λ p a b. absurd (clash true (rule none p) a b);
  }

  -- The pair that waits in front is marked and has not turned.
  pub front : {x t : ℕ → Bool} {m : ℕ → ℕ} {q : ℕ} {queue : List ℕ} → Stage k x t (record { marks = m; queue = q ∷ queue })
      → (x q ≡ true) × (t q ≡ false)
  front {x} {t} {q = q} s = both (x q) (t q) (let a = s.queued q in let b : bit (eqb q q) ≡ 1 = ap bit (eqb_same q) in omega arith)
    where
      both : (a b : Bool) → 1 ≤ bit (a && not b) → (a ≡ true) × (b ≡ false)
      both true true h = absurd (omega arith)
      both true false h = (refl, refl)
      both false b h = absurd (omega arith)

module _ {k : Plan} (m : Monotone k.bound k.rule) where
  open k use {bound, rule, free, next, before}

  -- A pair that the rule asks for is marked.
  wait-stage : {x t : ℕ → Bool} {w : Waiting} (r : ℕ) → Stage k x t w → x r ≡ false → rule t r ≡ true → Stage k (add r x) t (wait next r w)
  wait-stage {x} {t} {w} r s e g = record {
    within = λ p a. add-sub r x p (s.within p a);
    asked = λ p a. elim (or-out (eqb p r) (x p) a) [
      | inl z ↦ rw (eqb-out p r z) (smallest-add m t (λ q y. s.asked q (s.within q y)) r g)
      | inr z ↦ s.asked p z
    ];
    marked = λ p. elim (ℕ_discrete p r) [
      | yes z ↦ rw z marked-r
      | no z ↦ upd_other w.marks r (next (w.marks r)) p z ∙ s.marked p ∙ ap (λ (b : Bool). cond b (next (before p)) (before p)) (sym (add-other r x p z))
    ];
    queued = λ p. elim (ℕ_discrete p r) [
      | yes z ↦ rw z queued-r
      | no z ↦
          let b : bit (eqb r p) ≡ 0 = ap bit ((eqb_no r p).1 (λ y. z (sym y))) in
          let c : bit (add r x p && not (t p)) ≡ bit (x p && not (t p)) = ap (λ (y : Bool). bit (y && not (t p))) (add-other r x p z) in
          let d = s.queued p in
          let e = times-append p w.queue (r ∷ []) in
          omega arith
    ];
  }
    where
      marked-r : upd w.marks r (next (w.marks r)) r ≡ cond (add r x r) (next (before r)) (before r)
      marked-r =
          upd_same w.marks r (next (w.marks r)) ∙ ap next (s.marked r ∙ cond_no (next (before r)) (before r) e)
          ∙ sym (cond_yes (next (before r)) (before r) (add_same r x))

      queued-r : times r (w.queue ++ (r ∷ [])) ≡ bit (add r x r && not (t r))
      queued-r =
          let b : bit (eqb r r) ≡ 1 = ap bit (eqb_same r) in
          let c : bit (add r x r && not (t r)) ≡ 1 = ap bit (and_in (add_same r x) (ap not (sub-no s.within r e))) in
          let d : bit (x r && not (t r)) ≡ 0 = ap (λ (y : Bool). bit (y && not (t r))) e in
          let f = s.queued r in
          let h = times-append r w.queue (r ∷ []) in
          omega arith

  -- One pair is tested.
  push-stage : {x t : ℕ → Bool} {w : Waiting} (ask g : ℕ → Bool) (r : ℕ) → Stage k x t w → Good k t ask g r → Pushed k x t g (r ∷ []) (push free next ask r w)
  push-stage {x} {t} {w} ask g r s ok = go (x r) refl (ask r) refl
    where
      only : (now : ℕ → Bool) → (g r ≡ true → now r ≡ true) → (y : ℕ) → y ∈ (r ∷ []) → g y ≡ true → now y ≡ true
      only now f y (Memᴰ.head e) a = subst (λ (z : ℕ). now z ≡ true) (sym e) (f (subst (λ (z : ℕ). g z ≡ true) e a))
      only now f y (Memᴰ.tail n) a = absurd (Memᴰ.not-nil n)

      same : (now : ℕ → Bool) (w₁ w₂ : Waiting) → w₁ ≡ w₂ → Stage k now t w₂ → Stage k now t w₁
      same now w₁ w₂ e a = subst (λ (y : Waiting). Stage k now t y) (sym e) a

      at_mark : (b : Bool) → x r ≡ b → free (w.marks r) ≡ free (cond b (next (before r)) (before r))
      at_mark b e = ap free (s.marked r ∙ ap (λ (y : Bool). cond y (next (before r)) (before r)) e)

      go : (b : Bool) → x r ≡ b → (a : Bool) → ask r ≡ a → Pushed k x t g (r ∷ []) (push free next ask r w)
      go true e a f = record {
        now = x;
        stage = same x (push free next ask r w) w (cond_no (wait next r w) w (ap (λ (y : Bool). y && ask r) (at_mark true e ∙ ok.shut-after))) s;
        more = λ p a. a;
        seen = only x (λ a. e);
      }
      go false e true f = record {
        now = add r x;
        stage =
            same (add r x) (push free next ask r w) (wait next r w) (cond_yes (wait next r w) w (and_in (at_mark false e ∙ ok.open-before) f))
            (wait-stage r s e (ok.sound (sub-no s.within r e) f));
        more = add-sub r x;
        seen = only (add r x) (λ a. add_same r x);
      }
      go false e false f = record {
        now = x;
        stage = same x (push free next ask r w) w (cond_no (wait next r w) w (and_no (free (w.marks r)) f)) s;
        more = λ p a. a;
        seen = only x (λ a. absurd (clash true (ask r) (ok.whole (sub-no s.within r e) a) f));
      }

  -- The pairs of a list are tested in turn.
  spread-stage : (t ask g : ℕ → Bool) (l : List ℕ) (x : ℕ → Bool) (w : Waiting) → Stage k x t w → ((r : ℕ) → r ∈ l → Good k t ask g r)
      → Pushed k x t g l (spread free next ask l w)
  spread-stage t ask g [] x w s ok = record { now = x; stage = s; more = λ p a. a; seen = λ r n a. absurd (Memᴰ.not-nil n) }
  spread-stage t ask g (r ∷ l) x w s ok =
      let a = push-stage ask g r s (ok r (Memᴰ.head refl)) in
      let b = spread-stage t ask g l a.now (push free next ask r w) a.stage (λ y n. ok y (Memᴰ.tail n)) in
      record {
        now = b.now;
        stage = b.stage;
        more = λ p c. b.more p (a.more p c);
        seen = λ y n c. pick a.now b.now b.more a.seen b.seen y n c;
      }
    where
      pick : (y₁ y₂ : ℕ → Bool) → Sub y₁ y₂ → ((z : ℕ) → z ∈ (r ∷ []) → g z ≡ true → y₁ z ≡ true) → ((z : ℕ) → z ∈ l → g z ≡ true → y₂ z ≡ true)
          → (z : ℕ) → z ∈ (r ∷ l) → g z ≡ true → y₂ z ≡ true
      pick y₁ y₂ f h₁ h₂ z (Memᴰ.head e) a = f z (h₁ z (Memᴰ.head e) a)
      pick y₁ y₂ f h₁ h₂ z (Memᴰ.tail n) a = h₂ z n a

  -- Looking at a pair keeps the work, for some set of marked pairs.
  pub work-look : {x t : ℕ → Bool} {w : Waiting} {p : ℕ} {rest : List ℕ} (ask : ℕ → Bool) → Work k x t w (p ∷ rest) → Good k t ask (rule none) p
      → (now : ℕ → Bool) × Work k now t (push free next ask p w) rest
  work-look {x} {t} {w} {p} {rest} ask d ok =
      let a = push-stage ask (rule none) p d.stage ok in (
        a.now,
        record {
          stage = a.stage;
          first = λ q e. elim (d.first q e) [
            | inl h ↦ inl (a.more q h)
            | inr n ↦ which a.now a.seen q e n
          ];
          later = λ q e f. a.more q (d.later q e f);
        },
      )
    where
      which : (now : ℕ → Bool) → ((r : ℕ) → r ∈ (p ∷ []) → rule none r ≡ true → now r ≡ true) → (q : ℕ) → rule none q ≡ true → q ∈ (p ∷ rest)
          → (now q ≡ true) ⊎ q ∈ rest
      which now f q e (Memᴰ.head z) = inl (f q (Memᴰ.head z) e)
      which now f q e (Memᴰ.tail n) = inr n

  -- Turning the pair in front keeps the work too, where `on` lists all that the rule asks for because of it.
  pub work-turn : {x t : ℕ → Bool} {marks : ℕ → ℕ} {q : ℕ} {queue rest : List ℕ} (ask : ℕ → Bool) (on : List ℕ)
      → Work k x t (record { marks = marks; queue = q ∷ queue }) rest
      → ((p : ℕ) → rule (add q t) p ≡ true → rule t p ≡ false → p ∈ on)
      → ((r : ℕ) → r ∈ on → Good k (add q t) ask (rule (add q t)) r)
      → (now : ℕ → Bool) × Work k now (add q t) (spread free next ask on (record { marks = marks; queue = queue })) rest
  work-turn {x} {t} {marks} {q} {queue} {rest} ask on d dep ok =
      let a = spread-stage (add q t) ask (rule (add q t)) on x (record { marks = marks; queue = queue }) popped ok in (
        a.now,
        record {
          stage = a.stage;
          first = λ p e. elim (d.first p e) [
            | inl h ↦ inl (a.more p h)
            | inr h ↦ inr h
          ];
          later = λ p e f. elim (tell true (rule t p)) [
            | inl h ↦ a.more p (d.later p h f)
            | inr h ↦ a.seen p (dep p e h) e
          ];
        },
      )
    where
      f : (x q ≡ true) × (t q ≡ false)
      f = front k d.stage

      popped : Stage k x (add q t) (record { marks = marks; queue = queue })
      popped = record {
        within = λ p e. elim (or-out (eqb p q) (t p) e) [
          | inl z ↦ rw (eqb-out p q z) f.0
          | inr z ↦ d.stage.within p z
        ];
        asked = d.stage.asked;
        marked = d.stage.marked;
        queued = λ p. elim (ℕ_discrete p q) [
          | yes z ↦ rw z queued-q
          | no z ↦
              let a = d.stage.queued p in
              let b : bit (eqb q p) ≡ 0 = ap bit ((eqb_no q p).1 (λ y. z (sym y))) in
              let c : bit (x p && not (add q t p)) ≡ bit (x p && not (t p)) = ap (λ (y : Bool). bit (x p && not y)) (add-other q t p z) in
              omega arith
        ];
      }
        where
          queued-q : times q queue ≡ bit (x q && not (add q t q))
          queued-q =
              let a = d.stage.queued q in
              let b : bit (eqb q q) ≡ 1 = ap bit (eqb_same q) in
              let c : bit (x q && not (t q)) ≡ 1 = ap bit (and_in f.0 (ap not f.1)) in
              let e : bit (x q && not (add q t q)) ≡ 0 = ap bit (and_no (x q) (ap not (add_same q t))) in
              omega arith

  -- Once nothing is left to look at and nothing waits, exactly those have been marked and turned which the rule asks for.
  pub work-end : {x t : ℕ → Bool} {w : Waiting} → Work k x t w [] → w.queue ≡ [] → (p : ℕ) → (x p ≡ t p) × (t p ≡ at (smallest bound rule) p)
  work-end {x} {t} {w} d e p = (same p, sym (same p) ∙ all p)
    where
      same : (p : ℕ) → x p ≡ t p
      same p = go (x p) refl (t p) refl
        where
          none-waits : bit (x p && not (t p)) ≡ 0
          none-waits = sym (d.stage.queued p) ∙ ap (times p) e

          go : (a : Bool) → x p ≡ a → (b : Bool) → t p ≡ b → x p ≡ t p
          go true f true g = f ∙ sym g
          go true f false g = absurd (let h : bit (x p && not (t p)) ≡ 1 = ap bit (and_in f (ap not g)) in let z = none-waits in omega arith)
          go false f b g = f ∙ sym (sub-no d.stage.within p f)

      closed : Sub (rule x) x
      closed p f =
          elim (tell true (rule none p)) [
            | inl h ↦ elim (d.first p h) [
              | inl y ↦ y
              | inr n ↦ absurd (Memᴰ.not-nil n)
            ]
            | inr h ↦ d.later p (m.more x t (λ q y. sym (same q) ∙ y) p f) h
          ]

      all : (p : ℕ) → x p ≡ at (smallest bound rule) p
      all = smallest-same m x d.stage.asked closed
