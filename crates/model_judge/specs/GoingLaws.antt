-- From turn to turn the whole keeps its answer, and each turn comes nearer to the end. Assumes nothing.
use Rattle.std.specs.Prelude.{◌≡◌, refl, true, false, cond, List, [], ◌∷◌, ◌++◌, ℕ, suc, ◌+◌, ◌-◌, ◌*◌, ◌≤◌, ◌<◌, eqb, ltb, length, get_or, Result}
use Rattle.std.proofs.Common.{sym, ap, ap₂, ◌∙◌, subst, inl, inr, arith}
use Rattle.lists.specs.Lists.{some_below, lowest}
use Rattle.lists.specs.Tests.{tests, tell, and_is, eqb_is, eqb_no, eqb-off, ltb-is, leb-is, ltb-out, eqb-in}
use Rattle.lists.specs.Ranges.{lowest-found}
use Rattle.rules.specs.Load.{Sofar, State, before, inside, sign_of, ask_chains, settle_style, read_model, step, put, last}
use Rattle.rules.specs.Model.{Model, signed, guilty}
use Rattle.rules.specs.declared.Equation.{Equation}
use Rattle.rules.specs.Records.{Rec, Turn, back, next, Outcome, refused, accepted, onto, run, numbers_of}
use Rattle.rules.specs.Rooms.{Lengths}
use Rattle.rules.specs.declared.Record.{Record}
use Rattle.bytes_read.specs.PartsAt.{parts_at}
use Rattle.bytes_read.specs.Places.{record_at, Read}
use Rattle.model_judge.specs.Asking.{whole_on, whole, sign_at, signs_to, Spelled, is_signed, asks_after, lowest_to, asked_turn, Askable, SpelledSofar, Ready, Asked}
use Rattle.model_judge.specs.Beside.{Beside, goes, asks, beside, stops_same, stops-before}
use Rattle.model_judge.specs.Due.{no_blocks}
use Rattle.model_judge.specs.Going.{place_of, Inside, InsideTurn, Onward, Going, left}
use Rattle.model_judge.specs.Passing.{Passed, here, on, Forwarded}
use Rattle.model_judge.specs.Plain.{plain, with_signs}
use Rattle.model_judge.specs.Progress.{sofar_of, Kept, KeptIn}
use Rattle.model_judge.specs.SignsRead.{signed-there, signs-length, one_more, spelled_none, spelled-more}
use Rattle.model_judge.specs.RecordTurns.{Stepped, label, block, equation, move, lives, sign, stepped, counted-by, first-is}
use Rattle.model_judge.specs.Turning.{read_says, summary, summary_after, read_on, Goes, Turned, OneTurn, go}
use Rattle.model_judge.specs.declared.progress.Progress.{Progress}
use Rattle.rules.specs.declared.Refused.{Refused}
use Rattle.model_judge.specs.declared.Summary.{Summary}
use Rattle.model_judge.specs.declared.HalfRead.{HalfRead}
use Rattle.std.specs.declared.ops.ControlFlow.TheVariants.{Continue, Break}

pub inside-go : (s : List ℕ) (t : OneTurn) (h : HalfRead) → t ≡ Continue h → InsideTurn s t → Inside s h.so_far h.at
inside-go s t h e i = rw e at i

-- A turn that goes on stands in the bytes past the place before, and is nearer to the end.
pub turned-inside : (l : Lengths) (s : List ℕ) (st : State) (n : ℕ) (u : OneTurn) → Turned l s st n u → InsideTurn s u
turned-inside l s st n (Break a) t = tt
turned-inside l s st n (Continue h) t = record { kept = t.kept; begun = let o = t.on in omega arith; inside_bytes = t.inside_bytes }

pub nearer-on : (l : Lengths) (s : List ℕ) (r : Record) (x : Progress) (n : ℕ) (u : OneTurn) → Turned l s (inside (sofar_of x)) n u → left s u < left s (go r x n)
nearer-on l s r x n (Break a) t = omega arith
nearer-on l s r x n (Continue h) t = let o = t.on in let j = t.inside_bytes in omega arith

-- Asking brings it no further from the end.
asked-nearer : (s : List ℕ) (u : OneTurn) (m : ℕ) → left s u < m → left s (asked_turn s u) < m
asked-nearer s (Break a) m h = h
asked-nearer s (Continue g) m h =
    let y = g.so_far in
    elim (tell true (asks_after g.last y)) [
      | inr e ↦ rw e h
      | inl e ↦ rw e (elim (tell true (ltb (lowest_to s g.at y.sizes.variables) y.sizes.variables)) [
        | inr f ↦ rw f h
        | inl f ↦ rw f (omega arith)
      ])
    ]

-- One record of the whole reading that goes on.
whole-on : (l : Lengths) (s : List ℕ) (es fs : List Equation) (x y : Progress) (n k : ℕ) (r : Record) → Goes l s (inside (sofar_of x)) n r y k
    → step l (inside (with_signs es (sofar_of x))) (numbers_of r) ≡ next (inside (with_signs fs (sofar_of y)))
    → whole l s (inside (with_signs es (sofar_of x))) n ≡ whole l s (inside (with_signs fs (sofar_of y))) k
unfolding whole_on run put
whole-on l s es fs x y n k r g e =
    rw (g.stands, e) (counted-by l (sofar_of x) (sofar_of y) r (run (step l) put last (inside (with_signs fs (sofar_of y))) (parts_at s k)) (rw g.steps at (stepped l (sofar_of x) r)))

-- One that is refused further back.
whole_back : (l : Lengths) (s : List ℕ) (es : List Equation) (x y : Progress) (n k c d : ℕ) (r : Record) → Goes l s (inside (sofar_of x)) n r y k
    → step l (inside (with_signs es (sofar_of x))) (numbers_of r) ≡ back c d → whole l s (inside (with_signs es (sofar_of x))) n ≡ refused c (n - d)
unfolding whole_on run
whole_back l s es x y n k c d r g e = rw (g.stands, e) refl

-- What the question says of the equations read.
chains-say : (x : Sofar) (v : ℕ) → length x.signs ≡ v → x.blocks.equations ≡ x.sizes.variables
    → ask_chains x ≡ cond (some_below v (guilty x.signs)) (back 5 (5 * (v - suc (lowest v (guilty x.signs))))) (next (inside x))
chains-say x v e f = rw (e, (eqb_is x.blocks.equations x.sizes.variables).1 f) refl

not_yet : (x : Sofar) → x.blocks.equations < x.sizes.variables → ask_chains x ≡ next (inside x)
not_yet x h = rw (eqb-off x.blocks.equations x.sizes.variables h) refl

-- In a model with signs, before the last equation, a record that is none leaves no equation read.
none_read : (l : Lengths) (x y : Sofar) (r : Record) → Kept x → Stepped l x r (next (inside y)) → ((numbers_of r).kind ≡ 11 → ⊥) → signed y.sizes ≡ true → y.blocks.equations < y.sizes.variables
    → (signed x.sizes ≡ true) × (x.blocks.equations ≡ 0) × (y.blocks.equations ≡ 0) × (0 < x.sizes.variables)
none_read l x y r k (label s v m) f b h = let q = simp tests at m.0 in (b, omega arith, omega arith, omega arith)
none_read l x y r k (block a n m) f b h = let none = no_blocks x.sizes b in let q = simp tests at m.0 in absurd (omega arith)
none_read l x y r k (equation o a c m) f b h = let none = no_blocks x.sizes b in let q = (ltb-is 0 x.blocks.due).0 m.0 in absurd (omega arith)
none_read l x y r k (move v m) f b h = let none = no_blocks x.sizes b in let q = simp tests at m.0 in absurd (omega arith)
none_read l x y r k (lives m) f b h = let q = simp tests at m.0 in let none = no_blocks x.sizes b in (b, omega arith, omega arith, omega arith)
none_read l x y r k (sign c o a d m) f b h = absurd (f refl)

-- An equation with a sign: where it was due, and what is read with it.
pub record SignedOn (x y : Sofar) (r : Rec) : Type 0 where
  pub style : signed x.sizes ≡ true
  pub more : x.blocks.equations < x.sizes.variables
  pub counts : y.blocks.equations ≡ suc x.blocks.equations
  pub variables : y.sizes.variables ≡ x.sizes.variables
  pub small : (sign_of r).kind ≤ 1

pub signed-on : (l : Lengths) (x y : Sofar) (r : Record) → Stepped l x r (next (inside y)) → (numbers_of r).kind ≡ 11 → SignedOn x y (numbers_of r)
signed-on l x y r (label s v m) e = absurd (omega arith)
signed-on l x y r (block a n m) e = absurd (omega arith)
signed-on l x y r (equation o a c m) e = absurd (omega arith)
signed-on l x y r (move v m) e = absurd (omega arith)
signed-on l x y r (lives m) e = absurd (omega arith)
signed-on l x y r (sign c o a d m) e =
    let q = simp and_is at m.0 in
    let k = simp and_is at m.1.0 in
    record {
      style = q.0;
      more = (ltb-is x.blocks.equations x.sizes.variables).0 q.1;
      counts = refl;
      variables = refl;
      small = (leb-is c 1).0 k.0;
    }

module _ (l : Lengths) (s : List ℕ) (x : Progress) (n : ℕ) (q : Record) (y : Progress) (k : ℕ) (t : Goes l s (inside (sofar_of x)) n q y k) where
  how : Stepped l (sofar_of x) q (next (inside (sofar_of y)))
  how = rw t.steps at (stepped l (sofar_of x) q)

  here-next : Inside s y k
  here-next = turned-inside l s (inside (sofar_of x)) n (go q y k) t

  -- After an equation with a sign its record stands with those before it.
  signed-next : SpelledSofar s x n → (numbers_of q).kind ≡ 11 → (k ≡ n + 5) × (sign_of (numbers_of q) ≡ sign_at s n) × Spelled s k y.blocks.equations × (5 * x.blocks.equations ≤ n)
  signed-next sp e =
      let a = signed-on l (sofar_of x) (sofar_of y) q how e in
      let b = signed-there s n k q t.got (eqb-in (numbers_of q).kind 11 e) in
      let d = sp a.style a.more in
      let h : get_or s (n + 1) 0 ≤ 1 = subst (λ (z : Equation). z.kind ≤ 1) b.1 a.small in
      (b.0, b.1, rw (a.counts, b.0) (spelled-more s n x.blocks.equations d h), d.room)

  -- So do those before any other record.
  spelled-next : KeptIn x → SpelledSofar s x n → SpelledSofar s y k
  spelled-next kept sp b h =
      elim (tell true (eqb (numbers_of q).kind 11)) [
        | inl e ↦ (signed-next sp ((eqb_is (numbers_of q).kind 11).0 e)).2
        | inr e ↦
            let w = none_read l (sofar_of x) (sofar_of y) q kept how ((eqb_no (numbers_of q).kind 11).0 e) b h in
            subst (Spelled s k) (sym w.2) (spelled_none s k)
      ]

  -- After a record that is no equation with a sign, nothing is asked.
  other-asks : ((numbers_of q).kind ≡ 11 → ⊥) → asked_turn s (go q y k) ≡ go q y k
  other-asks f = rw ((eqb_no (numbers_of q).kind 11).1 f) refl

  module _ (g : Onward l s x n) where
    other-on : ((numbers_of q).kind ≡ 11 → ⊥) → step l (inside (with_signs g.signs (sofar_of x))) (numbers_of q) ≡ next (inside (with_signs g.signs (sofar_of y))) → Onward l s y k
    other-on f e = record {
      here = here-next;
      spelled = spelled-next g.here.kept g.spelled;
      signs = g.signs;
      held = λ b h.
          let w = none_read l (sofar_of x) (sofar_of y) q g.here.kept how f b h in
          g.held w.0 (omega arith) ∙ ap (signs_to s n) w.1 ∙ ap (signs_to s k) (sym w.2);
      same = g.same ∙ whole-on l s g.signs g.signs x y n k q t e;
    }

    -- After one that is, the equations read are those that stand in the bytes.
    abbrev more : List Equation
    more = g.signs ++ (sign_of (numbers_of q) ∷ [])

    more-is : (numbers_of q).kind ≡ 11 → more ≡ signs_to s k y.blocks.equations
    more-is e =
        let a = signed-on l (sofar_of x) (sofar_of y) q how e in
        let b = signed-next g.spelled e in
        ap₂ (λ (u : List Equation) (v : Equation). u ++ (v ∷ [])) (g.held a.style a.more) b.1 ∙ one_more s n x.blocks.equations b.3
        ∙ ap₂ (signs_to s) (sym b.0) (sym a.counts)

    signed-goes : (numbers_of q).kind ≡ 11 → step l (inside (with_signs g.signs (sofar_of x))) (numbers_of q) ≡ next (inside (with_signs more (sofar_of y))) → Onward l s y k
    signed-goes e f = record {
      here = here-next;
      spelled = spelled-next g.here.kept g.spelled;
      signs = more;
      held = λ b h. more-is e;
      same = g.same ∙ whole-on l s g.signs more x y n k q t f;
    }

    -- The question, asked of the last.
    asked-last : (numbers_of q).kind ≡ 11 → y.blocks.equations ≡ y.sizes.variables → step l (inside (with_signs g.signs (sofar_of x))) (numbers_of q) ≡ ask_chains (with_signs more (sofar_of y))
        → Going l s (asked_turn s (go q y k))
    asked-last e z f =
        let v = y.sizes.variables in
        let a = signed-next g.spelled e in
        let m : more ≡ signs_to s k v = more-is e ∙ ap (signs_to s k) z in
        let c = f ∙ chains-say (with_signs more (sofar_of y)) v (ap length m ∙ signs-length s (k - 5 * v) v) z in
        let low = lowest v (guilty (signs_to s k v)) in
        rw (eqb-in (numbers_of q).kind 11 e, (eqb_is y.blocks.equations v).1 z) (elim (tell true (some_below v (guilty (signs_to s k v)))) [
          | inr h ↦
              let d : some_below v (guilty more) ≡ false = ap (λ (es : List Equation). some_below v (guilty es)) m ∙ h in
              rw (lowest-found v (guilty (signs_to s k v)), h) (signed-goes e (c ∙ rw d refl))
          | inl h ↦
              let d : some_below v (guilty more) ≡ true = ap (λ (es : List Equation). some_below v (guilty es)) m ∙ h in
              let i : lowest v (guilty more) ≡ low = ap (λ (es : List Equation). lowest v (guilty es)) m in
              let j : low < v = ltb-out low v (lowest-found v (guilty (signs_to s k v)) ∙ h) in
              let p = whole_back l s g.signs x y n k 5 (5 * (v - suc low)) q t (c ∙ rw (d, i) refl) in
              let r : k - 5 * (v - low) ≡ n - 5 * (v - suc low) = let o = a.0 in omega arith in
              rw (lowest-found v (guilty (signs_to s k v)), h) (ap (refused 5) r ∙ sym p ∙ sym g.same)
        ])

    asked-on : (u : Turn State) → step l (inside (with_signs g.signs (sofar_of x))) (numbers_of q) ≡ u → Beside g.signs (numbers_of q) (next (inside (sofar_of y))) u → Going l s (asked_turn s (go q y k))
    asked-on u f (goes h) = rw (other-asks h) (other-on h f)
    asked-on u f (asks e) =
        elim (tell true (eqb y.blocks.equations y.sizes.variables)) [
          | inl z ↦ asked-last e ((eqb_is y.blocks.equations y.sizes.variables).0 z) f
          | inr z ↦
              let a = signed-on l (sofar_of x) (sofar_of y) q how e in
              let b = (eqb_no y.blocks.equations y.sizes.variables).0 z in
              let lt : y.blocks.equations < y.sizes.variables = let p = a.counts in let o = a.more in let w = a.variables in omega arith in
              rw (eqb-in (numbers_of q).kind 11 e, z) (signed-goes e (f ∙ not_yet (with_signs more (sofar_of y)) lt))
        ]

    pub asked-going : Going l s (asked_turn s (go q y k))
    asked-going = asked-on (step l (inside (with_signs g.signs (sofar_of x))) (numbers_of q)) refl (rw t.steps at (beside l g.signs (sofar_of x) (numbers_of q)))

    -- After any other record.
    pub other-going : ((numbers_of q).kind ≡ 11 → ⊥) → Onward l s y k
    other-going f = rw (other-asks f) at asked-going

-- Records passed in one go keep the answer, and bring it no further from the end.
passed-going : (l : Lengths) (s : List ℕ) (x : Progress) (n : ℕ) (y : Progress) (k : ℕ) → Onward l s x n → Passed l s x n y k → Onward l s y k
passed-going l s x n y k g here = g
passed-going l s x n y k g (on z w i j r p f t) = other-going l s z i r w j t (passed-going l s x n z i g p) f

passed-nearer : (l : Lengths) (s : List ℕ) (x : Progress) (n : ℕ) (y : Progress) (k : ℕ) → n ≤ length s → Passed l s x n y k → (n ≤ k) × (k ≤ length s)
passed-nearer l s x n y k h here = (omega arith, h)
passed-nearer l s x n y k h (on z w i j r p f t) = let b = passed-nearer l s x n z i h p in let o = t.on in (omega arith, t.inside_bytes)

forwarded-going : (l : Lengths) (s : List ℕ) (t u : OneTurn) (m : ℕ) → Going l s t → left s t < m → Forwarded l s t u → Going l s u × (left s u < m)
forwarded-going l s (Break a) u m g h f = rw f (g, h)
forwarded-going l s (Continue t) u m g h f =
    let x = t.so_far in
    let n = t.at in
    let p = f.3 in
    let b = passed-nearer l s x n f.0 f.1 g.here.inside_bytes p in
    rw f.2 (passed-going l s x n f.0 f.1 g p, omega arith)

-- A turn that follows one that goes on.
follows_on : (l : Lengths) (s : List ℕ) (x : Progress) (n : ℕ) (u : OneTurn) → Onward l s x n → Turned l s (inside (sofar_of x)) n u → Going l s (asked_turn s u)
unfolding read_on whole_on
follows_on l s x n (Break a) g t = t.0 ∙ ap (summary_after x.moves.count) (stops_same l g.signs (sofar_of x) (parts_at s n) t.1) ∙ sym g.same
follows_on l s x n (Continue h) g t = asked-going l s x n h.last h.so_far h.at t g

-- What the question is handed after a turn.
pub askable-next : (l : Lengths) (s : List ℕ) (x : Progress) (n : ℕ) (u : OneTurn) → SpelledSofar s x n → Turned l s (inside (sofar_of x)) n u → Askable s u
askable-next l s x n (Break a) sp t = tt
askable-next l s x n (Continue u) sp t =
    let q = u.last in
    let y = u.so_far in
    let k = u.at in
    let h = t.kept in (
      h.variables,
      t.inside_bytes,
      λ e.
          let a = (and_is (is_signed q) (eqb y.blocks.equations y.sizes.variables)).0 e in
          let f = (eqb_is (numbers_of q).kind 11).0 a.0 in
          subst (Spelled s k) ((eqb_is y.blocks.equations y.sizes.variables).0 a.1) (signed-next l s x n q y k t sp f).2,
    )

-- The first turn. Nothing is asked after the sizes.
first_on : (l : Lengths) (s : List ℕ) (y : Progress) (n : ℕ) (r : Record) → Goes l s before 0 r y n → whole l s before 0 ≡ whole l s (inside (sofar_of y)) n
unfolding whole_on run put plain step
first_on l s y n r g = rw (g.stands, g.steps) (by-outcome (run (step l) put last (inside (sofar_of y)) (parts_at s n)))
  where
    by-outcome : (o : Outcome Model) → summary_after 0 (onto (λ m. m) o) ≡ summary_after y.moves.count o
    by-outcome (refused k p) = refl
    by-outcome (accepted m) = let e : y.moves.count ≡ 0 = ap (λ (x : Sofar). x.moves.count) (first-is l (numbers_of r) (sofar_of y) g.steps) in rw e refl

pub going-first : (l : Lengths) (s : List ℕ) (u : OneTurn) → Turned l s before 0 u → Going l s u
unfolding read_on whole_on
going-first l s (Break a) t = t.0 ∙ ap (summary_after 0) (stops-before l (parts_at s 0) t.1)
going-first l s (Continue h) t =
    let r = h.last in
    let y = h.so_far in
    let n = h.at in
    let e : y.blocks.equations ≡ 0 = ap (λ (x : Sofar). x.blocks.equations) (first-is l (numbers_of r) (sofar_of y) t.steps) in
    record {
      here = turned-inside l s before 0 (Continue h) t;
      spelled = λ b h. subst (Spelled s n) (sym e) (spelled_none s n);
      signs = [];
      held = λ b h. ap (signs_to s n) (sym e);
      same = first_on l s y n r t;
    }

-- What a turn is handed.
pub going-ready : (l : Lengths) (s : List ℕ) (t : OneTurn) (read : Read) → Going l s t → read ≡ record_at s (place_of t) → Ready s read t
going-ready l s (Break a) read g e = tt
going-ready l s (Continue h) read g e = record { kept = g.here.kept; read_there = e; spelled = g.spelled }

-- After a turn that goes on another follows, nearer to the end.
pub going_next : (l : Lengths) (s : List ℕ) (t u : OneTurn) (h : HalfRead) → t ≡ Continue h → Going l s t → Asked l s (Continue h) u → Going l s u × (left s u < left s t)
going_next l s t u h is g w =
    let here : Onward l s h.so_far h.at = rw is at g in
    rw is (forwarded-going l s (asked_turn s w.0) u (left s (Continue h)) (follows_on l s h.so_far h.at w.0 here w.1) (asked-nearer s w.0 (left s (Continue h)) (nearer-on l s h.last h.so_far h.at w.0 w.1)) w.2)

-- Where it is over, it has the answer.
settled-summary : (o : Outcome Model) → summary (onto settle_style o) ≡ summary o
settled-summary (refused n p) = refl
settled-summary (accepted m) = refl

pub going-over : (l : Lengths) (s : List ℕ) (t : OneTurn) (a : Result Summary Refused) → t ≡ Break a → Going l s t → read_says a ≡ summary (read_model l s)
unfolding read_model whole_on
going-over l s t a is g = let h : read_says a ≡ whole l s before 0 = rw is at g in h ∙ sym (settled-summary (run (step l) put last before (parts_at s 0)))
