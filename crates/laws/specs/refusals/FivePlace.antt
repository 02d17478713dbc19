-- Refusal 5 of a model with signs, exactly: when it is given, and at which byte. What has been read when it is given is spelled
-- back, from the last equation to the sizes; bytes of that spelling are refused at one place only. Assumes nothing.
use Rattle.std.proofs.Math.Path.{◌≡◌, ap, subst}
use Rattle.std.specs.Prelude.{refl, ◌↔◌, true, ℕ, zero, suc, ◌+◌, ◌-◌, ◌≤◌, ◌<◌, replicate}
use Rattle.std.proofs.Common.{sym, ◌∙◌, not-suc-le-zero, length-append}
use Rattle.std.proofs.Math.Logic.{inl, inr}
use mathlib.Core.List.{List, [], ◌∷◌, ◌++◌, append_assoc, append-nil}
use native.Mathlib.Omega.{arith}
use Rattle.std.proofs.Math.ListN.{length}
use Rattle.std.proofs.lemmas.List.{length-replicate}
use Rattle.lists.specs.Lists.{all}
use Rattle.lists.specs.Tests.{tests, and_in, and_is, eqb_is, ltb-is, leb-is}
use Rattle.rules.specs.Model.{label_ok, sign_ok, equation_in, names_in}
use Rattle.rules.specs.declared.Equation.{Equation}
use Rattle.rules.specs.Records.{Rec, field, widths, bytes, bytes_of, Parts, part, parts_from, parts, Turn, no, back, next, over, demand, refused, on_turn, run}
use Rattle.rules.specs.Rooms.{Lengths}
use Rattle.rules.specs.Load.{Sofar, State, before, inside, started, label_demands, live_demands, after_live, sizes_demands, signed_demands, after_label, after_signed, ask_chains, sizes_of, signed_of, sign_of, step, put, last, settle_style, read_model}
use Rattle.rules.specs.Spelling.{sizes_rec, live_rec, live_recs, label_recs, signed_rec, signed_recs}
use Rattle.rules.specs.declared.Sizes.{Sizes}
use Rattle.laws.specs.bytes.RecordLaws.{AreBytes, Writable, Met, judged, size, part-written, Head, headed, told-number, un-told, demanded, by-records}
use Rattle.laws.specs.chains.ChainLaws.{Guilty}
use Rattle.laws.specs.bytes.Walks.{nil-of, small}
use Rattle.laws.specs.chains.OneKind.{kind_at}
use Rattle.laws.specs.bytes.ReadSpells.{rec-is, skip-zeros, zeros-ok, zero_ok, Stepped, label, block, equation, move, lives, sign, stepped}
use Rattle.laws.specs.refusals.SignsRefused.{Text, up_to_labels, up_to, mixed-refused, Signing, Does, goes, stops, refuses, closes, does, end-not-five, signing-started}

-- The bytes s begin with the sizes, the labels and the equations with signs of a model that is live or not, whatever comes
-- after; the equations have a closed chain with both signs; and q is the place of the first byte of the lowest equation on one.
pub record MixedAt (l : Lengths) (s : List ℕ) (q : ℕ) : Type 0 where
  pub sizes : Sizes
  pub live : ℕ
  pub labels : List ℕ
  pub equations : List Equation
  pub rest : List ℕ
  pub text : Text l sizes live labels equations
  pub spelled : s ≡ bytes_of (up_to_labels sizes live labels ++ signed_recs equations) ++ rest
  pub lowest : ℕ
  pub guilty : Guilty (length equations) (names_in equations) (kind_at equations) lowest
  pub place : q ≡ length (bytes_of (up_to sizes live labels equations lowest))

-- What the bytes s hold that are still to be read in the state x: the record of a live model, where `flag` is 1, then labels,
-- then equations with signs, with which some closed chain holds both signs.
record Ahead (x : Sofar) (s : List ℕ) : Type 0 where
  flag : ℕ
  few : flag ≤ 1
  once : 0 < x.labels + x.live → flag ≡ 0
  labels : List ℕ
  equations : List Equation
  rest : List ℕ
  spelled : s ≡ bytes_of (live_recs flag ++ (label_recs x.labels labels ++ signed_recs equations)) ++ rest
  states : x.labels + length labels ≡ x.sizes.states
  sets : all (label_ok x.sizes) labels ≡ true
  count : x.blocks.equations + length equations ≡ x.sizes.variables
  good : (j : ℕ) → j < length equations → sign_ok x.sizes (equation_in equations j) ≡ true
  lowest : ℕ
  mixed : Guilty x.sizes.variables (names_in (x.signs ++ equations)) (kind_at (x.signs ++ equations)) lowest

-- There are states, and labels are inside them.
abbrev Within : Sofar → Type 0
Within x = (x.labels ≤ x.sizes.states) × (1 ≤ x.sizes.states)

-- One record more in front.
in-front : (r : Rec) (rs : List Rec) (s rest : List ℕ) → s ≡ bytes_of rs ++ rest → bytes r ++ s ≡ bytes_of (r ∷ rs) ++ rest
in-front r rs s rest e = ap (λ (t : List ℕ). bytes r ++ t) e ∙ sym (append_assoc (bytes r) (bytes_of rs) rest)

-- Where no record of a live model is ahead, labels come first.
unflagged : {x : Sofar} {s : List ℕ} (a : Ahead x s) → 0 < x.labels + x.live → s ≡ bytes_of (label_recs x.labels a.labels ++ signed_recs a.equations) ++ a.rest
unflagged a h = rw (a.once h) at a.spelled

-- The record of a live model in front of what is ahead.
flag-ahead : (x : Sofar) (t : List ℕ) → Met (live_demands x) → Ahead (after_live x) t → Ahead x (bytes live_rec ++ t)
flag-ahead x t d a =
    let k = simp tests at d.0 in
    record {
      flag = 1;
      few = omega arith;
      once = λ h. absurd (omega arith);
      labels = a.labels;
      equations = a.equations;
      rest = a.rest;
      spelled = in-front live_rec (label_recs x.labels a.labels ++ signed_recs a.equations) t a.rest (unflagged a (omega arith));
      states = a.states;
      sets = a.sets;
      count = a.count;
      good = a.good;
      lowest = a.lowest;
      mixed = a.mixed;
    }

-- A label in front of what is ahead.
label-ahead : (x : Sofar) (s v : ℕ) (t : List ℕ) → Met (label_demands x s v) → Ahead (after_label x s) t → Ahead x (bytes (record { kind = 2; body = s ∷ v ∷ [] }) ++ t)
label-ahead x s zero t d a = let k = simp tests at d.1.0 in absurd (omega arith)
label-ahead x s (suc v) t d a =
    let k = simp and_is at d.1.0 in
    let h = (leb-is x.labels s).0 d.1.1.0 in
    let e : x.labels + (s - x.labels) ≡ s = omega arith in
    let r : Rec = record { kind = 2; body = s ∷ suc v ∷ [] } in
    let front : label_recs x.labels (replicate (s - x.labels) 0 ++ (suc v ∷ a.labels)) ≡ r ∷ label_recs (suc s) a.labels =
    skip-zeros x.labels (s - x.labels) (suc v ∷ a.labels) ∙ rw e refl in
    record {
      flag = 0;
      few = omega arith;
      once = λ h. refl;
      labels = replicate (s - x.labels) 0 ++ (suc v ∷ a.labels);
      equations = a.equations;
      rest = a.rest;
      spelled = in-front r (label_recs (suc s) a.labels ++ signed_recs a.equations) t a.rest (unflagged a (omega arith))
          ∙ ap (λ (rs : List Rec). bytes_of (rs ++ signed_recs a.equations) ++ a.rest) (sym front);
      states = simp (length-append, length-replicate) (omega (arith, a.states));
      sets = zeros-ok x.sizes (s - x.labels) _ (zero_ok x.sizes) (and_in k.1 a.sets);
      count = a.count;
      good = a.good;
      lowest = a.lowest;
      mixed = a.mixed;
    }

-- One equation in range in front of others.
cons-good : (z : Sizes) (e : Equation) (es : List Equation) → sign_ok z e ≡ true → ((j : ℕ) → j < length es → sign_ok z (equation_in es j) ≡ true)
    → (j : ℕ) → j < suc (length es) → sign_ok z (equation_in (e ∷ es) j) ≡ true
cons-good z e es h g zero n = h
cons-good z e es h g (suc j) n = g j (omega arith)

-- An equation with a sign in front of what is ahead: the labels are over with it.
sign-ahead : (x : Sofar) (k o a b : ℕ) (t : List ℕ) → Within x → sign_ok x.sizes (signed_of k o a b) ≡ true → Ahead (after_signed x (signed_of k o a b)) t
    → Ahead x (bytes (signed_rec (signed_of k o a b)) ++ t)
sign-ahead x k o a b t h g d =
    let e = signed_of k o a b in
    let n = d.count in
    let none = nil-of d.labels (omega (arith, d.states)) in
    let here : label_recs x.sizes.states d.labels ≡ [] = rw none refl in
    let front : label_recs x.labels (replicate (x.sizes.states - x.labels) 0 ++ d.labels) ≡ [] =
    skip-zeros x.labels (x.sizes.states - x.labels) d.labels ∙ rw none refl in
    record {
      flag = 0;
      few = omega arith;
      once = λ h. refl;
      labels = replicate (x.sizes.states - x.labels) 0 ++ d.labels;
      equations = e ∷ d.equations;
      rest = d.rest;
      spelled = in-front (signed_rec e) (signed_recs d.equations) t d.rest
          (unflagged d (omega arith) ∙ ap (λ (rs : List Rec). bytes_of (rs ++ signed_recs d.equations) ++ d.rest) here)
          ∙ ap (λ (rs : List Rec). bytes_of (rs ++ signed_recs (e ∷ d.equations)) ++ d.rest) (sym front);
      states = simp (length-append, length-replicate) (omega (arith, d.states));
      sets = zeros-ok x.sizes (x.sizes.states - x.labels) _ (zero_ok x.sizes) d.sets;
      count = omega arith;
      good = cons-good x.sizes e d.equations g d.good;
      lowest = d.lowest;
      mixed = subst (λ (es : List Equation). Guilty x.sizes.variables (names_in es) (kind_at es) d.lowest) (append_assoc x.signs (e ∷ []) d.equations) d.mixed;
    }

-- Some equation is still to come, and the bytes hold what is ahead.
abbrev Finds : List ℕ → Sofar → Type 0
Finds s x = (x.blocks.equations < x.sizes.variables) × Ahead x s

-- The same of the state that a record leads to.
abbrev Then : List ℕ → State → Type 0
Then s before = Unit {0}
Then s (inside y) = Within y → Finds s y

module _ (l : Lengths) (q : ℕ) where
  -- A record that is passed: what is ahead before it, from what is ahead after it.
  passed : (x : Sofar) (r : Rec) (s : List ℕ) (st : State) → Signing x → Within x → Writable r → Stepped l x r (next st) → Then s st → Finds (bytes r ++ s) x
  unfolding widths
  passed x r s st g h w (label e d) f =
      let k = simp and_is at d.1.0 in
      let lt = (ltb-is (field r 0) x.sizes.states).0 k.0.0 in
      let a = f (omega arith) in
      (a.0, subst (λ (r : Rec). Ahead x (bytes r ++ s)) (sym (rec-is r 2 e w)) (label-ahead x (field r 0) (field r 1) s d a.1))
  passed x r s st g h w (block e d) f = let k = simp tests at d.0 in let b = g.signs in absurd (omega arith)
  passed x r s st g h w (equation e d) f = let k = (ltb-is 0 x.blocks.due).0 d.0 in let b = g.due in absurd (omega arith)
  passed x r s st g h w (move e d) f = let k = simp tests at d.0 in let a = (f h).0 in absurd (omega arith)
  passed x r s st g h w (lives e d) f =
      let a = f h in
      (a.0, subst (λ (r : Rec). Ahead x (bytes r ++ s)) (sym (rec-is r 10 e w)) (flag-ahead x s d a.1))
  passed x r s st g h w (sign e d p) f =
      let k = simp tests at d.0 in
      let a = f (omega arith) in
      (k.1, subst (λ (r : Rec). Ahead x (bytes r ++ s)) (sym (rec-is r 11 e w)) (sign-ahead x (field r 0) (field r 1) (field r 2) (field r 3) s h d.1.0 a.1))

  -- The record of kind 11 that is refused further back has met the demands on it.
  back-met : (x : Sofar) (r : Rec) (n d : ℕ) → r.kind ≡ 11 → step l (inside x) r ≡ back n d → Met (signed_demands x (sign_of r))
  unfolding step
  back-met x r n d k e =
      let u : demand (signed_demands x (sign_of r)) (ask_chains (after_signed x (sign_of r))) ≡ back n d = rw k at e in
      elim (judged (signed_demands x (sign_of r)) (ask_chains (after_signed x (sign_of r)))) [
        | inl m ↦ m.0
        | inr m ↦ let z : ◌≡◌ {A = ℕ} 0 1 = cc in absurd (omega arith)
      ]

  -- One record, by what it does: the one that is refused further back is the last equation, and has nothing ahead.
  turn : (x : Sofar) (r : Rec) (p : ℕ) (s : List ℕ) (t : Parts) → Signing x → Within x → Writable r
      → ((y : Sofar) → Signing y → Within y → run (step l) put last (inside y) t ≡ refused 5 q → Finds s y)
      → (u : Turn State) → step l (inside x) r ≡ u → Does l x r u → Stepped l x r u
      → on_turn (step l) put last (λ st. run (step l) put last st t) (inside x) p r t u ≡ refused 5 q → Finds (bytes r ++ s) x
  unfolding widths
  turn x r p s t g h w ih (no n) k (refuses f) d e = absurd (f (told-number n p 5 q e).0)
  turn x r p s t g h w ih over k stops d e = absurd (end-not-five l (inside x) t q e)
  turn x r p s t g h w ih (next st) k (goes {y = y} z c) d e =
      passed x r s (inside y) g h w d (λ v. ih y c v (un-told (put (inside x) r) (run (step l) put last (inside y) t) 5 q e))
  turn x r p s t g h w ih (back n m) k (closes v c f) d e =
      let met = back-met x r 5 m c.kind k in
      let end = c.last in
      let a : Ahead (after_signed x (sign_of r)) s = record {
        flag = 0;
        few = omega arith;
        once = λ h. refl;
        labels = [];
        equations = [];
        rest = s;
        spelled = refl;
        states = omega arith;
        sets = refl;
        count = omega arith;
        good = λ j i. absurd (not-suc-le-zero i);
        lowest = v;
        mixed = subst (λ (es : List Equation). Guilty x.sizes.variables (names_in es) (kind_at es) v) (sym (append-nil (x.signs ++ (sign_of r ∷ [])))) c.guilty;
      } in
      (omega arith, subst (λ (r : Rec). Ahead x (bytes r ++ s)) (sym (rec-is r 11 c.kind w)) (sign-ahead x (field r 0) (field r 1) (field r 2) (field r 3) s h met.1.0 a))

  -- Reading bytes is refused with 5 only where they hold what is ahead.
  ahead : (s : List ℕ) → AreBytes s → (p : ℕ) (x : Sofar) → Signing x → Within x → run (step l) put last (inside x) (parts_from 0 p s) ≡ refused 5 q → Finds s x
  ahead s b p x g h e = by-records (step l) put last 5 q (λ i. omega arith) (λ st p s. (x : Sofar) → st ≡ inside x → Signing x → Within x → Finds s x)
      (λ st p r s w b ih e x i g h. turn x r p s (parts_from 0 (p + size r) s) g h w (λ y c v f. ih (inside y) f y refl c v) (step l (inside x) r) refl (does l x r g) (stepped l x r) (rw i at e))
      s b (inside x) p e x refl g h

  -- The sizes in front of what is ahead; the place is the one that such bytes are refused at.
  at_place : (s : List ℕ) (k : Head s) → field k.rec 4 ≡ 0 → read_model l s ≡ refused 5 q → Met (sizes_demands l k.rec)
      → Ahead (started (sizes_of k.rec)) k.after → MixedAt l s q
  unfolding widths
  at_place s k b e m a =
      let z = sizes_of k.rec in
      let n : length a.equations ≡ z.variables = let c = a.count in omega arith in
      let text : Text l z a.flag a.labels a.equations = record {
        sizes = m.1.0;
        flag = a.few;
        rooms = m.1.1.0;
        signs = b;
        labels = let c = a.states in omega arith;
        sets = a.sets;
        count = n;
        good = a.good;
      } in
      let whole : sizes_rec z ∷ (live_recs a.flag ++ (label_recs 0 a.labels ++ signed_recs a.equations)) ≡ up_to_labels z a.flag a.labels ++ signed_recs a.equations =
      ap (λ (rs : List Rec). sizes_rec z ∷ rs) (sym (append_assoc (live_recs a.flag) (label_recs 0 a.labels) (signed_recs a.equations))) in
      let spelled : s ≡ bytes_of (up_to_labels z a.flag a.labels ++ signed_recs a.equations) ++ a.rest =
      k.spelled ∙ ap (λ (r : Rec). bytes r ++ k.after) (rec-is k.rec 1 ((eqb_is k.rec.kind 1).0 m.0) k.fits)
      ∙ in-front (sizes_rec z) (live_recs a.flag ++ (label_recs 0 a.labels ++ signed_recs a.equations)) k.after a.rest a.spelled
      ∙ ap (λ (rs : List Rec). bytes_of rs ++ a.rest) whole in
      let below = a.mixed.below in
      let t = mixed-refused l z a.flag a.labels a.equations text a.rest a.lowest (omega arith) a.mixed.on in
      record {
        sizes = z;
        live = a.flag;
        labels = a.labels;
        equations = a.equations;
        rest = a.rest;
        text = text;
        spelled = spelled;
        lowest = t.0;
        guilty = t.1;
        place = (told-number 5 q 5 (length (bytes_of (up_to z a.flag a.labels a.equations t.0))) (sym e ∙ ap (read_model l) spelled ∙ t.2)).1;
      }

  -- The whole: sizes that meet their demands come first.
  first : (s : List ℕ) (k : Head s) → field k.rec 4 ≡ 0 → read_model l s ≡ refused 5 q → MixedAt l s q
  unfolding read_model run step widths
  first s k b e =
      let r = k.rec in
      let z = sizes_of r in
      let t = parts_from 0 (0 + size r) k.after in
      let o : on_turn (step l) put last (λ st. run (step l) put last st t) before 0 r t (step l before r) ≡ refused 5 q =
      subst (λ (t : Parts). run (step l) put last before t ≡ refused 5 q) (ap (parts_from 0 0) k.spelled ∙ part-written r 0 k.after k.fits)
      (un-told settle_style (run (step l) put last before (parts s)) 5 q e) in
      elim (demanded 5 (sizes_demands l r) (next (inside (started z))) refl) [
        | inr d ↦ absurd (d.1 (told-number d.0 0 5 q (rw d.2 at o)).0)
        | inl d ↦ elim (judged (sizes_demands l r) (next (inside (started z)))) [
          | inr m ↦ let c : ◌≡◌ {A = ℕ} 0 1 = cc in absurd (omega arith)
          | inl m ↦ at_place s k b e m.0 (ahead k.after k.bytes_after (0 + size r) (started z) (signing-started z b) (let c = small z m.0.1.0 in omega arith)
              (un-told (put before r) (run (step l) put last (inside (started z)) t) 5 q (rw d at o))).1
        ]
      ]

-- The first record of the bytes, where there is one, gives blocks as 0.
abbrev pub WithSigns : List ℕ → Type 0
WithSigns s = (p : ℕ) (r : Rec) (t : Parts) → parts s ≡ part p r t → field r 4 ≡ 0

-- Bytes that are refused with 5 at q are such bytes.
five-out : (l : Lengths) (s : List ℕ) (q : ℕ) → AreBytes s → WithSigns s → read_model l s ≡ refused 5 q → MixedAt l s q
unfolding read_model run
five-out l s q b h e =
    elim (headed 0 s b) [
      | inl k ↦ first l q s k (h 0 k.rec (parts_from 0 (0 + size k.rec) k.after) (ap (parts_from 0 0) k.spelled ∙ part-written k.rec 0 k.after k.fits)) e
      | inr k ↦ elim k [
        | inl i ↦ absurd (let c = (told-number 1 0 5 q (rw i at e)).0 in omega arith)
        | inr i ↦ absurd (let c = (told-number 1 0 5 q (rw i at e)).0 in omega arith)
      ]
    ]

-- There is only one lowest equation.
one-lowest : {n : ℕ} {names : ℕ → List ℕ} {sign : ℕ → ℕ} {x y : ℕ} → Guilty n names sign x → Guilty n names sign y → x ≡ y
one-lowest {x = x} {y} g h =
    let a = g.first y h.below h.on in
    let b = h.first x g.below g.on in omega arith

-- Such bytes are refused with 5 at q.
five-in : (l : Lengths) (s : List ℕ) (q : ℕ) → MixedAt l s q → read_model l s ≡ refused 5 q
five-in l s q m =
    let t = mixed-refused l m.sizes m.live m.labels m.equations m.text m.rest m.lowest m.guilty.below m.guilty.on in
    ap (read_model l) m.spelled ∙ t.2 ∙ ap (λ (w : ℕ). refused 5 (length (bytes_of (up_to m.sizes m.live m.labels m.equations w)))) (one-lowest t.1 m.guilty) ∙ ap (refused 5) (sym m.place)

-- A load of a model with signs is refused with 5 at the place q exactly where some closed chain of the equations that the
-- bytes spell holds both signs, and q is the place of the lowest equation on such a chain.
pub five-exact : (l : Lengths) (s : List ℕ) (q : ℕ) → AreBytes s → WithSigns s → (read_model l s ≡ refused 5 q) ↔ MixedAt l s q
five-exact l s q b h = (five-out l s q b h, five-in l s q)
