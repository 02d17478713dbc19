-- Refusal 5 of a model with signs: it is given where some closed chain of variables holds both signs, once the last equation
-- is read, and at the record of the lowest equation on such a chain. No other record raises it. Assumes nothing.
use Rattle.std.specs.Prelude.{◌≡◌, ◌⊎◌, Bool, not, ◌&&◌, take, ltb}
use Rattle.std.proofs.Math.Path.{refl, ap, ap₂, subst}
use Rattle.std.proofs.Common.{sym, ◌∙◌, add-zero, add-suc, le_of_suc-le-suc, not-suc-le-zero, length-append, length-take}
use Rattle.std.proofs.Math.Logic.{inl, inr}
use Rattle.std.proofs.Math.Bool.{true, false}
use mathlib.Core.List.{List, [], ◌∷◌, ◌++◌, append_assoc}
use Prim.Native.Nat.{ℕ, zero, suc, ◌+◌, ◌-◌, ◌*◌, ◌≤◌, ◌<◌}
use native.Mathlib.Omega.{arith}
use Rattle.std.proofs.Math.ListN.{length}
use Rattle.std.proofs.Math.Dec.{eqb}
use Rattle.lists.specs.Lists.{all, some_below, lowest}
use Rattle.lists.specs.Tests.{tests, tell, not-out, and_in, and_is, ltb-is, leb-is, eqb_is, eqb_no}
use Rattle.lists.specs.Ranges.{some_in, lowest-some}
use Rattle.rules.specs.Limits.{sizes_ok}
use Rattle.rules.specs.Model.{label_ok, sign_ok, equation_in, names_in, guilty, numbered}
use Rattle.rules.specs.declared.Equation.{Equation}
use Rattle.rules.specs.Records.{Rec, widths, bytes, bytes_of, Parts, ends, broken, part, parts_from, Turn, no, back, next, over, demand, refused, onto, at_end, run, parts, field}
use Rattle.rules.specs.Rooms.{Lengths, lent_ok}
use Rattle.rules.specs.Load.{Sofar, State, before, inside, started, label_demands, block_demands, equation_demands, move_demands, end_demands, live_demands, sizes_demands, after_label, after_equation, sign_of, signed_demands, after_signed, ask_chains, step, put, last, settle_style, read_model}
use Rattle.rules.specs.Spelling.{sizes_rec, live_rec, live_recs, label_recs, signed_rec, signed_recs}
use Rattle.rules.specs.declared.Sizes.{Sizes}
use Rattle.laws.specs.bytes.RecordLaws.{others, told-number, AllWritable, Writable, Met, met, size, part-written, never}
use Rattle.laws.specs.chains.ChainLaws.{Mixed, mixed-in, Guilty, guilty-lowest}
use Rattle.laws.specs.chains.Placed.{with_block, numbered-length, guilty-same}
use Rattle.laws.specs.moves.Hanging.{opened}
use Rattle.laws.specs.bytes.Walks.{small}
use Rattle.laws.specs.bytes.ReadAccepts.{append, live-w, labels-w, signs-w}
use Rattle.laws.specs.bytes.SpellingLength.{size_all, all-length, size-append, size-signs}
use Rattle.laws.specs.chains.OneKind.{kind_at}
use Rattle.laws.specs.chains.Named.{signs-inside}

-- Bytes of records after one another, and more.
bytes-append : (rs ts : List Rec) (s : List ℕ) → bytes_of (rs ++ ts) ++ s ≡ bytes_of rs ++ (bytes_of ts ++ s)
bytes-append [] ts s = refl
bytes-append (r ∷ rs) ts s =
    append_assoc (bytes r) (bytes_of (rs ++ ts)) s ∙ ap (λ (t : List ℕ). bytes r ++ t) (bytes-append rs ts s) ∙ sym (append_assoc (bytes r) (bytes_of rs) (bytes_of ts ++ s))

-- Records that are passed lead from one state to another, and a refusal after them is the refusal of the whole.
module _ {S B : Type 0} (turn : S → Rec → Turn S) (say : S → Rec → B → B) (final : S → B) where
  data Steps : S → List Rec → S → Type 0 where
    here : {st : S} → Steps st [] st
    step-on : {st st' end : S} (r : Rec) {rs : List Rec} → turn st r ≡ next st' → Steps st' rs end → Steps st (r ∷ rs) end

  steps-refused : {st end : S} {rs : List Rec} → Steps st rs end → AllWritable rs → (p n q : ℕ) (s : List ℕ)
      → run turn say final end (parts_from 0 (p + size_all rs) s) ≡ refused n q → run turn say final st (parts_from 0 p (bytes_of rs ++ s)) ≡ refused n q
  unfolding run
  steps-refused here w p n q s e = rw (sym (add-zero p)) e
  steps-refused (step-on r {rs = rs} t d) w p n q s e =
      let k : p + size r + size_all rs ≡ p + (size r + size_all rs) = omega arith in
      let ih = steps-refused d w.1 (p + size r) n q s (rw k e) in
      rw (append_assoc, part-written r p (bytes_of rs ++ s) w.0) (rw (t, ih) refl)

-- Labels are passed: the state after them differs in the labels alone.
at_label : Sofar → ℕ → Sofar
at_label x n = record { sizes = x.sizes; live = x.live; labels = n; blocks = x.blocks; signs = x.signs; moves = x.moves }

-- The equations as they are read, before their components are known.
raws : ℕ → List Equation → List Equation
raws i es = numbered (λ j. 0) i es

sizes-writable : (z : Sizes) → sizes_ok z ≡ true → Writable (sizes_rec z)
unfolding widths
sizes-writable z ok = let s = small z ok in (refl, omega arith)

-- The first equations are in range where all are.
take-good : (z : Sizes) (es : List Equation) (w : ℕ) → ((j : ℕ) → j < length es → sign_ok z (equation_in es j) ≡ true)
    → (j : ℕ) → j < length (take w es) → sign_ok z (equation_in (take w es) j) ≡ true
take-good z [] zero g j h = absurd (not-suc-le-zero h)
take-good z [] (suc w) g j h = absurd (not-suc-le-zero h)
take-good z (e ∷ es) zero g j h = absurd (not-suc-le-zero h)
take-good z (e ∷ es) (suc w) g zero h = g 0 (omega arith)
take-good z (e ∷ es) (suc w) g (suc j) h = take-good z es w (λ k l. g (suc k) (omega arith)) j (le_of_suc-le-suc h)

sign-size : (e : Equation) → size (signed_rec e) ≡ 5
unfolding size widths
sign-size e = refl

module _ (l : Lengths) where
  labels-steps : (ls : List ℕ) (k : ℕ) (x : Sofar) → x.labels + k + length ls ≡ x.sizes.states → all (label_ok x.sizes) ls ≡ true
      → x.blocks.count ≡ 0 → x.blocks.equations ≡ 0 → (n : ℕ) × Steps (step l) put last (inside x) (label_recs (x.labels + k) ls) (inside (at_label x n))
  unfolding step at_label
  labels-steps [] k x h a b d = (x.labels, here)
  labels-steps (zero ∷ ls) k x h a b d =
      let p = simp and_is at a in
      rw (sym (add-suc x.labels k)) (labels-steps ls (suc k) x (omega arith) p.1 b d)
  labels-steps (suc v ∷ ls) k x h a b d =
      let p = simp and_is at a in
      let lt : x.labels + k < x.sizes.states = omega arith in
      let ge : x.labels ≤ x.labels + k = omega arith in
      let y = after_label x (x.labels + k) in
      let t = rw (add-zero (suc (x.labels + k))) at (labels-steps ls 0 y (omega arith) p.1 b d) in
      let e : step l (inside x) (record { kind = 2; body = (x.labels + k) ∷ suc v ∷ [] }) ≡ next (inside y) =
      met (label_demands x (x.labels + k) (suc v)) _
      (and_in ((eqb_is _ _).1 b) ((eqb_is _ _).1 d), (and_in (and_in ((ltb-is _ _).1 lt) ((ltb-is 0 (suc v)).1 (omega arith))) p.0, ((leb-is _ _).1 ge, tt))) in
      (t.0, step-on (record { kind = 2; body = (x.labels + k) ∷ suc v ∷ [] }) e t.1)

  -- What one equation with a sign does: the last one has chains asked.
  sign-step : (x : Sofar) (e : Equation) → x.sizes.blocks ≡ 0 → x.blocks.equations < x.sizes.variables → sign_ok x.sizes e ≡ true
      → step l (inside x) (signed_rec e) ≡ ask_chains (after_signed x (with_block 0 e))
  unfolding step
  sign-step x e b h g = met (signed_demands x (with_block 0 e)) (ask_chains (after_signed x (with_block 0 e))) (and_in ((eqb_is _ _).1 b) ((ltb-is _ _).1 h), (g, tt))

  -- The place that is told: the last record's, less 5 for each equation after the guilty one.
  abbrev place : ℕ → ℕ → List Equation → ℕ
  place p len es = p + 5 * (len - 1) - 5 * (length es - suc (lowest (length es) (guilty es)))

  signs-back : (es : List Equation) (i p : ℕ) (x : Sofar) (rest : List ℕ) → 0 < length es → x.blocks.equations + length es ≡ x.sizes.variables
      → x.sizes.blocks ≡ 0 → ((j : ℕ) → j < length es → sign_ok x.sizes (equation_in es j) ≡ true) → AllWritable (signed_recs es)
      → some_below (length (x.signs ++ raws i es)) (guilty (x.signs ++ raws i es)) ≡ true
      → run (step l) put last (inside x) (parts_from 0 p (bytes_of (signed_recs es) ++ rest)) ≡ refused 5 (place p (length es) (x.signs ++ raws i es))
  unfolding run raws
  signs-back [] i p x rest h n b g w m = absurd (not-suc-le-zero h)
  signs-back (e ∷ []) i p x rest h n b g w m =
      let y = after_signed x (with_block 0 e) in
      let t = sign-step x e b (omega arith) (g 0 (omega arith)) in
      let n1 : suc x.blocks.equations ≡ x.sizes.variables = omega arith in
      let q : eqb y.blocks.equations y.sizes.variables ≡ true = (eqb_is _ _).1 n1 in
      let u : ask_chains y ≡ back 5 (5 * (length y.signs - suc (lowest (length y.signs) (guilty y.signs)))) = rw (q, m) refl in
      let z : p + 5 * (1 - 1) ≡ p = omega arith in
      rw (append_assoc, part-written (signed_rec e) p rest w.0) (rw (t, u, z) refl)
  signs-back (e ∷ (f ∷ es)) i p x rest h n b g w m =
      let y = after_signed x (with_block 0 e) in
      let t = sign-step x e b (omega arith) (g 0 (omega arith)) in
      let q : eqb (suc x.blocks.equations) x.sizes.variables ≡ false = (eqb_no (suc x.blocks.equations) x.sizes.variables).1 (λ k. omega arith) in
      let u : ask_chains y ≡ next (inside y) = rw q refl in
      let a : y.signs ++ raws (suc i) (f ∷ es) ≡ x.signs ++ raws i (e ∷ (f ∷ es)) = append_assoc x.signs (with_block 0 e ∷ []) (raws (suc i) (f ∷ es)) in
      let m' : some_below (length (y.signs ++ raws (suc i) (f ∷ es))) (guilty (y.signs ++ raws (suc i) (f ∷ es))) ≡ true =
      subst (λ (k : List Equation). some_below (length k) (guilty k) ≡ true) (sym a) m in
      let c : p + size (signed_rec e) + 5 * (suc (length es) - 1) ≡ p + 5 * (suc (suc (length es)) - 1) = let s = sign-size e in omega arith in
      let ih = signs-back (f ∷ es) (suc i) (p + size (signed_rec e)) y rest (omega arith) (omega arith) b (λ j k. g (suc j) (omega arith)) w.1 m' in
      let ih' : run (step l) put last (inside y) (parts_from 0 (p + size (signed_rec e)) (bytes_of (signed_recs (f ∷ es)) ++ rest))
      ≡ refused 5 (place p (suc (suc (length es))) (x.signs ++ raws i (e ∷ (f ∷ es)))) =
      ih ∙ ap₂ (λ (k : List Equation) (a : ℕ). refused 5 (a - 5 * (length k - suc (lowest (length k) (guilty k))))) a c in
      rw (append_assoc, part-written (signed_rec e) p (bytes_of (signed_recs (f ∷ es)) ++ rest) w.0) (rw (t, u, ih') refl)

-- The text of a model with signs, as far as its last equation, whatever comes after: sizes, labels and equations in range, and
-- live is 1 where the model is said to be live.
pub record Text (l : Lengths) (z : Sizes) (live : ℕ) (ls : List ℕ) (es : List Equation) : Type 0 where
  pub sizes : sizes_ok z ≡ true
  pub flag : live ≤ 1
  pub rooms : lent_ok l z ≡ true
  pub signs : z.blocks ≡ 0
  pub labels : length ls ≡ z.states
  pub sets : all (label_ok z) ls ≡ true
  pub count : length es ≡ z.variables
  pub good : (j : ℕ) → j < length es → sign_ok z (equation_in es j) ≡ true

-- The records before the first equation, and those before equation w.
abbrev pub up_to_labels : Sizes → ℕ → List ℕ → List Rec
up_to_labels z live ls = sizes_rec z ∷ (live_recs live ++ label_recs 0 ls)

abbrev pub up_to : Sizes → ℕ → List ℕ → List Equation → ℕ → List Rec
up_to z live ls es w = up_to_labels z live ls ++ signed_recs (take w es)

-- Signs are 0 or 1, past the last equation too.
small-kinds : (z : Sizes) (es : List Equation) → ((j : ℕ) → j < length es → sign_ok z (equation_in es j) ≡ true) → (y : ℕ) → kind_at es y ≤ 1
small-kinds z [] g y = omega arith
small-kinds z (e ∷ es) g zero = let k = simp and_is at (g 0 (omega arith)) in (leb-is e.kind 1).0 k.0
small-kinds z (e ∷ es) g (suc y) = small-kinds z es (λ j h. g (suc j) (omega arith)) y

-- Where the test finds some guilty equation, the lowest is on a closed chain with both signs, and no lower one is.
found : (z : Sizes) (es : List Equation) → length es ≡ z.variables → ((j : ℕ) → j < length es → sign_ok z (equation_in es j) ≡ true)
    → some_below (length es) (guilty es) ≡ true → Guilty (length es) (names_in es) (kind_at es) (lowest (length es) (guilty es))
unfolding guilty
found z es n g h = guilty-lowest (length es) (names_in es) (signs-inside z es n g) (kind_at es) (small-kinds z es g) h

module _ (l : Lengths) (z : Sizes) (live : ℕ) (ls : List ℕ) (es : List Equation) (text : Text l z live ls es) where
  -- The test is asked of the equations as they were read.
  asked : (raw : List Equation) → raw ≡ raws 0 es → (length raw ≡ length es) × (◌≡◌ {A = ℕ → Bool} (guilty raw) (guilty es))
  unfolding raws
  asked raw e = (ap length e ∙ numbered-length (λ j. 0) 0 es, ap guilty e ∙ guilty-same (λ j. 0) es)

  -- The record of a live model, where it is one, is passed.
  flag-steps : {rs : List Rec} {end : State} → Steps (step l) put last (inside (opened z live)) rs end → Steps (step l) put last (inside (started z)) (live_recs live ++ rs) end
  unfolding step
  flag-steps w =
      elim (tell true (eqb live 1)) [
        | inl t ↦ rw t (step-on {st = inside (started z)} {st' = inside (opened z live)} live_rec (rw ((eqb_is live 1).0 t) refl) w)
        | inr t ↦
            let d = (eqb_no live 1).0 t in
            let f = text.flag in
            let e : live ≡ 0 = omega arith in
            rw t (rw e at w)
      ]

  -- The records before the first equation fit their widths.
  labels-writable : AllWritable (up_to_labels z live ls)
  labels-writable = (
    sizes-writable z text.sizes,
    append (live_recs live) (label_recs 0 ls) (live-w live) (labels-w z text.sizes 0 ls (let k = text.labels in omega arith) text.sets),
  )

  refused-at : (rest : List ℕ) → some_below (length es) (guilty es) ≡ true
      → read_model l (bytes_of (up_to_labels z live ls ++ signed_recs es) ++ rest) ≡ refused 5 (size_all (up_to_labels z live ls) + 5 * lowest (length es) (guilty es))
  unfolding read_model step raws at_label
  refused-at rest m =
      let s = small z text.sizes in
      let c = text.count in
      let t = labels-steps l ls 0 (opened z live) (let k = text.labels in omega arith) text.sets refl refl in
      let x = at_label (opened z live) t.0 in
      let first : step l before (sizes_rec z) ≡ next (inside (started z)) = met (sizes_demands l (sizes_rec z)) _ (refl, (text.sizes, (text.rooms, tt))) in
      let walk : Steps (step l) put last before (up_to_labels z live ls) (inside x) = step-on (sizes_rec z) first (flag-steps t.1) in
      let ws = signs-w z text.sizes es text.good in
      let q = asked (raws 0 es) refl in
      let m' : some_below (length (raws 0 es)) (guilty (raws 0 es)) ≡ true = ap₂ some_below q.0 q.1 ∙ m in
      let p = 0 + size_all (up_to_labels z live ls) in
      let low : lowest (length (raws 0 es)) (guilty (raws 0 es)) ≡ lowest (length es) (guilty es) = ap₂ lowest q.0 q.1 in
      let b = (lowest-some (length es) (guilty es) m).below in
      let at : place l p (length es) (raws 0 es) ≡ size_all (up_to_labels z live ls) + 5 * lowest (length es) (guilty es) = let n = q.0 in omega arith in
      let e = signs-back l es 0 p x rest (omega arith) (omega arith) text.signs text.good ws m' in
      let r = steps-refused (step l) put last walk labels-writable 0 5 (place l p (length es) (raws 0 es)) (bytes_of (signed_recs es) ++ rest) e in
      ap (onto settle_style) (ap (λ (s : List ℕ). run (step l) put last before (parts s)) (bytes-append (up_to_labels z live ls) (signed_recs es) rest) ∙ r) ∙ ap (refused 5) at

  place_at : (w : ℕ) → w < length es → length (bytes_of (up_to z live ls es w)) ≡ size_all (up_to_labels z live ls) + 5 * w
  place_at w h =
      let ws = signs-w z text.sizes (take w es) (take-good z es w text.good) in
      let a = all-length (up_to z live ls es w) (append (up_to_labels z live ls) (signed_recs (take w es)) labels-writable ws) in
      let b = size-append (up_to_labels z live ls) (signed_recs (take w es)) in
      let c = size-signs (take w es) in
      let d = length-take w es in
      omega arith

  -- Where some closed chain holds both signs, the load is refused with 5, at the record of the lowest equation on such a chain.
  pub mixed-refused : (rest : List ℕ) (x : ℕ) → x < length es → Mixed (names_in es) (kind_at es) x
      → (w : ℕ) × Guilty (length es) (names_in es) (kind_at es) w
      × (read_model l (bytes_of (up_to_labels z live ls ++ signed_recs es) ++ rest) ≡ refused 5 (length (bytes_of (up_to z live ls es w))))
  unfolding guilty
  mixed-refused rest x h c =
      let names = signs-inside z es text.count text.good in
      let m = some_in (length es) (guilty es) x h (mixed-in (length es) (names_in es) names (kind_at es) x h c) in
      let g = found z es text.count text.good m in
      (lowest (length es) (guilty es), g, refused-at rest m ∙ ap (refused 5) (sym (place_at (lowest (length es) (guilty es)) g.below)))

-- It is given in no other case. What holds of every state on the way through a model with signs.
pub record Signing (x : Sofar) : Type 0 where
  pub signs : x.sizes.blocks ≡ 0
  pub due : x.blocks.due ≡ 0
  pub count : length x.signs ≡ x.blocks.equations
  pub good : (j : ℕ) → j < length x.signs → sign_ok x.sizes (equation_in x.signs j) ≡ true

-- The record r, read in the state x, is the last equation, and with it some closed chain of the equations read holds both
-- signs; w is the lowest equation on one.
pub record Closes (x : Sofar) (r : Rec) (w : ℕ) : Type 0 where
  pub kind : r.kind ≡ 11
  pub last : suc x.blocks.equations ≡ x.sizes.variables
  pub guilty : Guilty x.sizes.variables (names_in (x.signs ++ (sign_of r ∷ []))) (kind_at (x.signs ++ (sign_of r ∷ []))) w

snoc-good : (z : Sizes) (es : List Equation) (e : Equation) → ((j : ℕ) → j < length es → sign_ok z (equation_in es j) ≡ true) → sign_ok z e ≡ true
    → (j : ℕ) → j < length (es ++ (e ∷ [])) → sign_ok z (equation_in (es ++ (e ∷ [])) j) ≡ true
snoc-good z [] e g h zero k = h
snoc-good z [] e g h (suc j) k = absurd (omega arith)
snoc-good z (f ∷ es) e g h zero k = g 0 (omega arith)
snoc-good z (f ∷ es) e g h (suc j) k = snoc-good z es e (λ i l. g (suc i) (omega arith)) h j (le_of_suc-le-suc k)

-- What a record may do in such a state.
pub data Does (l : Lengths) (x : Sofar) (r : Rec) : Turn State → Type 0 where
  goes : {y : Sofar} → y.sizes ≡ x.sizes → Signing y → Does l x r (next (inside y))
  stops : Does l x r over
  refuses : {n : ℕ} → (n ≡ 5 → ⊥) → Does l x r (no n)
  closes : {d : ℕ} (w : ℕ) → Closes x r w → d ≡ 5 * (x.sizes.variables - suc w) → Does l x r (back 5 d)

by : (l : Lengths) (x : Sofar) (r : Rec) (ds : List (ℕ × Bool)) (t : Turn State) → others 5 ds ≡ true → (Met ds → Does l x r t) → Does l x r (demand ds t)
by l x r [] t h f = f tt
by l x r (d ∷ ds) t h f =
    let k = (and_is (not (eqb d.0 5)) (others 5 ds)).0 h in
    elim (tell true d.1) [
      | inl e ↦ rw e (by l x r ds t k.1 (λ m. f (e, m)))
      | inr e ↦ rw e (refuses ((eqb_no d.0 5).0 (not-out _ k.0)))
    ]

asks : (l : Lengths) (x : Sofar) (r : Rec) → Signing x → r.kind ≡ 11 → Met (signed_demands x (sign_of r)) → Does l x r (ask_chains (after_signed x (sign_of r)))
asks l x r s k m =
    let es = x.signs ++ (sign_of r ∷ []) in
    let g = snoc-good x.sizes x.signs (sign_of r) s.good m.1.0 in
    let n0 = s.count in
    let c : length es ≡ suc x.blocks.equations = length-append x.signs (sign_of r ∷ []) ∙ (omega arith) in
    elim (tell true (eqb (suc x.blocks.equations) x.sizes.variables && some_below (length es) (guilty es))) [
      | inr t ↦ rw t (goes refl (record { signs = s.signs; due = s.due; count = c; good = g }))
      | inl t ↦
          let f = (and_is (eqb (suc x.blocks.equations) x.sizes.variables) (some_below (length es) (guilty es))).0 t in
          let last = (eqb_is (suc x.blocks.equations) x.sizes.variables).0 f.0 in
          let n : length es ≡ x.sizes.variables = c ∙ last in
          let w = lowest (length es) (guilty es) in
          let q = subst (λ (j : ℕ). Guilty j (names_in es) (kind_at es) w) n (found x.sizes es n g f.1) in
          rw t (closes w (record { kind = k; last = last; guilty = q }) (ap (λ (j : ℕ). 5 * (j - suc w)) n))
    ]

pub does : (l : Lengths) (x : Sofar) (r : Rec) → Signing x → Does l x r (step l (inside x) r)
unfolding step
does l x r s =
    elim (tell true (eqb r.kind 2)) [
      | inl t ↦ rw t (by l x r (label_demands x (field r 0) (field r 1)) _ refl (λ m. goes refl (record { signs = s.signs; due = s.due; count = s.count; good = s.good })))
      | inr t ↦ rw t (elim (tell true (eqb r.kind 3)) [
        | inl t ↦ rw t (by l x r (block_demands x (field r 0) (field r 1)) _ refl (λ m. let q = simp tests at m.0 in let b = s.signs in absurd (omega arith)))
        | inr t ↦ rw t (elim (tell true (eqb r.kind 4)) [
          | inl t ↦ rw t (equation (tell true (ltb 0 x.blocks.due)))
          | inr t ↦ rw t (elim (tell true (eqb r.kind 5)) [
            | inl t ↦ rw t (by l x r (move_demands l x (field r 0) (field r 1) (field r 2)) _ refl (λ m. goes refl (record { signs = s.signs; due = s.due; count = s.count; good = s.good })))
            | inr t ↦ rw t (elim (tell true (eqb r.kind 6)) [
              | inl t ↦ rw t (by l x r (end_demands x) _ refl (λ m. stops))
              | inr t ↦ rw t (elim (tell true (eqb r.kind 10)) [
                | inl t ↦ rw t (by l x r (live_demands x) _ refl (λ m. goes refl (record { signs = s.signs; due = s.due; count = s.count; good = s.good })))
                | inr t ↦ rw t (elim (tell true (eqb r.kind 11)) [
                  | inl t ↦ rw t (by l x r (signed_demands x (sign_of r)) _ refl (λ m. asks l x r s ((eqb_is _ _).0 t) m))
                  | inr t ↦ rw t (refuses {n = 2} (λ e. absurd (omega arith)))
                ])
              ])
            ])
          ])
        ])
      ])
    ]
  where
    equation : (ltb 0 x.blocks.due ≡ true) ⊎ (ltb 0 x.blocks.due ≡ false)
        → Does l x r (demand (equation_demands x (field r 0) (field r 1) (field r 2)) (next (inside (after_equation x))))
    equation (inl e) = let q = (ltb-is 0 x.blocks.due).0 e in let d = s.due in absurd (omega arith)
    equation (inr e) = rw e (refuses {n = 2} (λ q. absurd (omega arith)))

pub end-not-five : (l : Lengths) (st : State) (t : Parts) (q : ℕ) → at_end (step l) put last st t ≡ refused 5 q → ⊥
end-not-five l st (ends p) q e = never (sym e)
end-not-five l st (broken p) q e = let k = (told-number 2 p 5 q e).0 in omega arith
end-not-five l st (part p r t) q e = let k = (told-number 2 p 5 q e).0 in omega arith

pub signing-started : (z : Sizes) → z.blocks ≡ 0 → Signing (started z)
signing-started z b = record { signs = b; due = refl; count = refl; good = λ j h. absurd (not-suc-le-zero h) }
