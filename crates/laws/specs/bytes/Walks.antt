-- The records of a model inside the limits are passed one by one, and say the model, but for components. Assumes nothing.
use Rattle.std.specs.Prelude.{◌≡◌, ◌⊎◌, Bool, cond, length, replicate, eqb}
use Rattle.std.proofs.Math.Path.{refl, sym, ap₂, subst}
use Rattle.std.proofs.Common.{ap, ◌∙◌}
use Rattle.std.proofs.Math.Logic.{inl, inr}
use Rattle.std.proofs.Math.Bool.{true, false}
use mathlib.Core.List.{List, [], ◌∷◌, ◌++◌, append_assoc, append-nil}
use Prim.Native.Nat.{ℕ, zero, suc, ◌+◌, ◌-◌, ◌≤◌, ◌<◌, min}
use Rattle.std.proofs.Math.Nat.{add-zero, add-suc}
use native.Mathlib.Omega.{arith}
use Rattle.std.proofs.Math.Dec.{eqb-suc-zero}
use Rattle.lists.specs.Lists.{all, some_below}
use Rattle.lists.specs.Tests.{tests, tell, and_in, ltb-is, leb-is, eqb_is, eqb_no, and_is, ltb_no, or-in}
use Rattle.rules.specs.Limits.{most_moves, sizes_ok}
use Rattle.rules.specs.Moves.{pack, source, action, target}
use Rattle.rules.specs.Model.{Model, label_ok, move_ok, operands_ok, names_ok, run_of, equations_ok, moves_ok, well_formed, signed, sign_ok, equation_in, guilty, numbered, style_ok}
use Rattle.words.specs.WordLaws.{pack-parts}
use Rattle.rules.specs.declared.Equation.{Equation}
use Rattle.rules.specs.Records.{Rec, next, over}
use Rattle.rules.specs.Rooms.{Lengths, lent_ok}
use Rattle.rules.specs.Load.{Moves, Sofar, State, before, inside, started, moves_due, block_fits, label_demands, block_demands, equation_demands, move_demands, end_demands, sizes_demands, after_label, after_block, after_equation, after_move, signed_demands, after_signed, ask_chains, step, put, last}
use Rattle.rules.specs.Spelling.{label_recs, equation_rec, block_rec, equation_recs, move_rec, move_recs, records, sizes_rec, signed_rec, signed_recs, style_recs, live_rec, live_recs}
use Rattle.rules.specs.declared.Sizes.{Sizes}
use Rattle.laws.specs.bytes.RecordLaws.{Walks, done, more, met}
use Rattle.laws.specs.moves.Hanging.{moving_over, all-moving, opened}
use Rattle.laws.specs.chains.Placed.{with_block, numbered-length, guilty-same, signs-out}

-- A list without length is empty, and a number that is not 0 is above it.
pub nil-of : {A : Type 0} (l : List A) → length l ≡ 0 → l ≡ []
nil-of [] h = refl
nil-of (v ∷ l) h = absurd (omega arith)

pub eqb-pos : (b : ℕ) → eqb b 0 ≡ false → 0 < b
eqb-pos zero e = absurd ((eqb_no 0 0).0 e refl)
eqb-pos (suc b) e = omega arith

-- What the sizes are at most, and at least.
pub small : (z : Sizes) → sizes_ok z ≡ true
    → (1 ≤ z.states) × (z.states ≤ 256) × (1 ≤ z.actions) × (z.actions ≤ 16) × (z.propositions ≤ 32) × (1 ≤ z.variables) × (z.variables ≤ 32) × (z.blocks ≤ 8)
unfolding sizes_ok
small z h = let k = simp tests at h in omega arith

-- The equations from i on are all that are left; a run is no longer than they are; and after the last block record it is all
-- of them.
pub eq-count : (z : Sizes) (i b k : ℕ) (es : List Equation) → equations_ok z i b k es ≡ true → i + length es ≡ z.variables
eq-count z i b k [] h = let t = simp tests at h in omega arith
eq-count z i b k (e ∷ es) h =
    let k = simp and_is at h in
    let t = eq-count z (suc i) (suc e.block) e.kind es k.1 in omega arith

pub run-le : (b : ℕ) (es : List Equation) → run_of b es ≤ length es
run-le b [] = omega arith
run-le b (e ∷ es) = go (eqb (suc e.block) b) (run-le b es)
  where
    go : (x : Bool) → run_of b es ≤ length es → cond x (suc (run_of b es)) 0 ≤ suc (length es)
    go true h = omega arith
    go false h = omega arith

pub run-last : (z : Sizes) (i b k : ℕ) (es : List Equation) → equations_ok z i b k es ≡ true → b ≡ z.blocks → run_of b es ≡ length es
run-last z i b k [] h q = refl
run-last z i b k (e ∷ es) h q =
    let f = simp and_is at h in
    elim (tell true (eqb (suc e.block) b)) [
      | inl t ↦
          let c = (eqb_is (suc e.block) b).0 t in
          let ih = run-last z (suc i) (suc e.block) e.kind es f.1 (c ∙ q) in
          rw t (ap suc (rw c at ih))
      | inr t ↦ let g = rw t at f.0.0.0 in let k = simp tests at g in absurd (omega arith)
    ]

zeros : (k : ℕ) (ls : List ℕ) → 0 ∷ (replicate k 0 ++ ls) ≡ replicate k 0 ++ 0 ∷ ls
zeros zero ls = refl
zeros (suc k) ls = ap (λ (t : List ℕ). 0 ∷ t) (zeros k ls)

run_none : (es : List Equation) → run_of 0 es ≡ 0
run_none [] = refl
run_none (e ∷ es) = rw (eqb-suc-zero e.block) refl

module _ (l : Lengths) where
  -- The records, read from a state on, say the model.
  abbrev W : State → List Rec → Model → Type 0
  W = Walks (step l) put last

  go_on : (x y : Sofar) (r : Rec) {rs : List Rec} {b b' : Model} → step l (inside x) r ≡ next (inside y) → W (inside y) rs b' → b ≡ put (inside x) r b' → W (inside x) (r ∷ rs) b
  go_on x y r e w q = more r e w q

  -- The moves ms are still to come, after those of w: in range and in order, there is room for them, and in a live model each
  -- state has a move with them.
  record MovesLeft (z : Sizes) (live : ℕ) (w : Moves) (ms : List ℕ) : Type 0 where
    order : moves_ok z w.least ms ≡ true
    room : w.count + length ms ≤ min most_moves l.moves
    lively : cond (eqb live 1) (eqb (moving_over w.moving ms) z.states) true ≡ true

  moves-in : (x : Sofar) (ms : List ℕ) → sizes_ok x.sizes ≡ true → moves_due x ≡ true → MovesLeft x.sizes x.live x.moves ms
      → W (inside x) (move_recs ms) (record { sizes = x.sizes; live = x.live; labels = []; equations = []; moves = ms })
  unfolding step put last
  moves-in x [] z d o = done (met (end_demands x) over (d, (o.lively, tt))) refl
  moves-in x (p ∷ ms) z d o =
      let n = o.room in
      let k = simp and_is at o.order in
      let q = pack-parts p in
      let f : x.moves.count < min most_moves l.moves = omega arith in
      let e : step l (inside x) (move_rec p) ≡ next (inside (after_move x p)) =
      met (move_demands l x (source p) (action p) (target p)) _ (d, (k.0.1, (rw q k.0.0, ((ltb-is _ _).1 f, tt)))) ∙ rw q refl in
      go_on x (after_move x p) (move_rec p) e (moves-in (after_move x p) ms z d (record { order = k.1; room = omega arith; lively = o.lively })) (rw q refl)

  labelled : Sofar → ℕ → Sofar
  labelled x n = record { sizes = x.sizes; live = x.live; labels = n; blocks = x.blocks; signs = x.signs; moves = x.moves }

  -- What is left to say.
  rest : Sofar → List ℕ → List Equation → List ℕ → Model
  rest x ls es ms = record { sizes = x.sizes; live = x.live; labels = ls; equations = es; moves = ms }

  block-fits : (x : Sofar) (n : ℕ) → 0 < n → x.blocks.equations + n ≤ x.sizes.variables
      → (x.sizes.blocks ≤ suc x.blocks.count → x.blocks.equations + n ≡ x.sizes.variables) → block_fits x n ≡ true
  unfolding block_fits
  block-fits x n h k f =
      and_in (and_in ((ltb-is _ _).1 h) ((leb-is _ _).1 k)) (or-in _ _ (λ q. (eqb_is _ _).1 (f ((ltb_no _ _).0 q))))

  none_left : (x : Sofar) → 0 < x.blocks.count → (x.blocks.count ≡ 0) ⊎ (x.labels ≡ x.sizes.states) → x.sizes.states - x.labels ≡ 0
  none_left x h (inl e) = absurd (omega arith)
  none_left x h (inr e) = omega arith

  equation-in : (x : Sofar) (ls : List ℕ) (e : Equation) (es : List Equation) (ms : List ℕ) (rs : List Rec) → 0 < x.blocks.due
      → operands_ok x.sizes e.operator e.first e.second ≡ true
      → names_ok (x.blocks.equations + x.blocks.due) e.operator e.first e.second ≡ true
      → e.block ≡ x.blocks.count - 1 → e.kind ≡ x.blocks.kind
      → W (inside (after_equation x)) rs (rest x ls es ms) → W (inside x) (equation_rec e ∷ rs) (rest x ls (e ∷ es) ms)
  unfolding step put last rest
  equation-in x ls e es ms rs d o n b k w =
      go_on x (after_equation x) (equation_rec e) (met (equation_demands x e.operator e.first e.second) _ ((ltb-is _ _).1 d, (o, (n, tt)))) w (rw (← b, ← k) refl)

  equations-in : (ms : List ℕ) (x : Sofar) (es : List Equation) → sizes_ok x.sizes ≡ true → 0 < x.sizes.blocks
      → equations_ok x.sizes x.blocks.equations x.blocks.count x.blocks.kind es ≡ true → x.blocks.due ≡ run_of x.blocks.count es
      → (x.blocks.count ≡ 0) ⊎ (x.labels ≡ x.sizes.states) → MovesLeft x.sizes x.live x.moves ms
      → W (inside x) (equation_recs x.blocks.count es ++ move_recs ms) (rest x (replicate (x.sizes.states - x.labels) 0) es ms)
  unfolding step put last rest
  equations-in ms x [] z bl h d i o =
      let k = simp tests at h in
      let b = small x.sizes z in
      rw (none_left x (omega arith) i) (moves-in x ms z (and_in (and_in ((eqb_is _ _).1 d) ((eqb_is _ _).1 k.1)) ((eqb_is _ _).1 k.0)) o)
  equations-in ms x (e ∷ es) z bl h d i o =
      let f = simp and_is at h in
      elim (tell true (eqb (suc e.block) x.blocks.count)) [
        | inl t ↦
            let c = (eqb_is (suc e.block) x.blocks.count).0 t in
            let g = rw t at f.0.0.0 in
            let k = (eqb_is e.kind x.blocks.kind).0 g in
            let u : x.blocks.due ≡ suc (run_of x.blocks.count es) = rw t at d in
            rw t (equation-in x _ e es ms (equation_recs x.blocks.count es ++ move_recs ms) (omega arith) f.0.0.1 (rw (u, ← c) f.0.1) (omega arith) k
            (equations-in ms (after_equation x) es z bl (rw (← c, ← k) f.1) (omega arith) i o))
        | inr t ↦
            let g = simp and_is at (rw t at f.0.0.0) in
            let c = (eqb_is e.block x.blocks.count).0 g.0.0 in
            let r = run_of (suc e.block) es in
            let y = after_block x e.kind (suc r) in
            let p = eq-count x.sizes x.blocks.equations x.blocks.count x.blocks.kind (e ∷ es) h in
            let q = run-le (suc e.block) es in
            let lt = (ltb-is x.blocks.count x.sizes.blocks).0 g.0.1 in
            let full : x.sizes.blocks ≤ suc x.blocks.count → x.blocks.equations + suc r ≡ x.sizes.variables =
            λ v. let u = run-last x.sizes (suc x.blocks.equations) (suc e.block) e.kind es f.1 (omega arith) in omega arith in
            let s0 : x.sizes.states - x.sizes.states ≡ 0 = omega arith in
            let b : e.block ≡ suc x.blocks.count - 1 = omega arith in
            let w : W (inside (after_equation y)) (equation_recs (suc e.block) es ++ move_recs ms) (rest x [] es ms) =
            subst (λ (k : ℕ). W (inside (after_equation y)) (equation_recs (suc k) es ++ move_recs ms) (rest x [] es ms)) (sym c)
            (rw s0 at (equations-in ms (after_equation y) es z bl (rw c at f.1) (rw c (omega arith)) (inr refl) o)) in
            rw t (go_on x y (block_rec e.kind (suc r))
            (met (block_demands x e.kind (suc r)) _ (and_in ((eqb_is _ _).1 (rw t at d)) g.0.1, (block-fits x (suc r) (omega arith) (omega arith) full, (g.1, tt))))
            (equation-in y [] e es ms _ (omega arith) f.0.0.1 f.0.1 b refl w) (rw append-nil refl))
      ]

  -- Equations with signs: what is said of them has no component yet.
  raw : ℕ → ℕ
  raw i = 0

  chains-asked : (x : Sofar) → (x.blocks.equations ≡ x.sizes.variables → some_below (length x.signs) (guilty x.signs) ≡ false) → ask_chains x ≡ next (inside x)
  chains-asked x f =
      elim (tell true (eqb x.blocks.equations x.sizes.variables)) [
        | inl t ↦ let e = f ((eqb_is x.blocks.equations x.sizes.variables).0 t) in rw (t, e) refl
        | inr t ↦ rw t refl
      ]

  signs-in : (ms : List ℕ) (x : Sofar) (i : ℕ) (es : List Equation) → sizes_ok x.sizes ≡ true → x.sizes.blocks ≡ 0 → x.blocks.count ≡ 0 → x.blocks.due ≡ 0
      → x.blocks.equations + length es ≡ x.sizes.variables → (0 < length es) ⊎ (x.labels ≡ x.sizes.states)
      → ((j : ℕ) → j < length es → sign_ok x.sizes (equation_in es j) ≡ true)
      → some_below (length (x.signs ++ numbered raw i es)) (guilty (x.signs ++ numbered raw i es)) ≡ false → MovesLeft x.sizes x.live x.moves ms
      → W (inside x) (signed_recs es ++ move_recs ms) (rest x (replicate (x.sizes.states - x.labels) 0) (numbered raw i es) ms)
  unfolding step put last rest raw
  signs-in ms x i [] z bl c d n lb g f o =
      let lb' : x.labels ≡ x.sizes.states = elim lb [ inl h ↦ absurd (omega arith) | inr h ↦ h ] in
      let s0 : x.sizes.states - x.labels ≡ 0 = omega arith in
      let n0 : x.blocks.equations ≡ x.sizes.variables = omega arith in
      rw s0 (moves-in x ms z (and_in (and_in ((eqb_is _ _).1 d) ((eqb_is _ _).1 (c ∙ sym bl))) ((eqb_is _ _).1 n0)) o)
  signs-in ms x i (e ∷ es) z bl c d n lb g f o =
      let y = after_signed x (with_block 0 e) in
      let app : x.signs ++ numbered raw i (e ∷ es) ≡ y.signs ++ numbered raw (suc i) es = sym (append_assoc x.signs (with_block 0 e ∷ []) (numbered raw (suc i) es)) in
      let f' : some_below (length (y.signs ++ numbered raw (suc i) es)) (guilty (y.signs ++ numbered raw (suc i) es)) ≡ false =
      subst (λ (q : List Equation). some_below (length q) (guilty q) ≡ false) app f in
      let asked : ask_chains y ≡ next (inside y) = chains-asked y (λ q.
      let nil = nil-of es (omega arith) in
      let h : y.signs ++ numbered raw (suc i) es ≡ y.signs = rw nil (append-nil y.signs) in
      subst (λ (q : List Equation). some_below (length q) (guilty q) ≡ false) h f') in
      let lt : x.blocks.equations < x.sizes.variables = omega arith in
      let w = signs-in ms y (suc i) es z bl c d (omega arith) (inr refl) (λ j h. g (suc j) (omega arith)) f' o in
      let s0 : x.sizes.states - x.sizes.states ≡ 0 = omega arith in
      go_on x y (signed_rec e)
      (met (signed_demands x (with_block 0 e)) (ask_chains y) (and_in ((eqb_is _ _).1 bl) ((ltb-is _ _).1 lt), (g 0 (omega arith), tt)) ∙ asked)
      (rw s0 at w) (rw append-nil refl)

  -- k states without a label stand before. Whatever may follow the labels is rs; what it says of the equations is es.
  labels_in : (ls : List ℕ) (k : ℕ) (x : Sofar) (es : List Equation) (ms : List ℕ) (rs : List Rec)
      → x.labels + k + length ls ≡ x.sizes.states → all (label_ok x.sizes) ls ≡ true → x.blocks.count ≡ 0 → x.blocks.equations ≡ 0
      → ((n : ℕ) → n ≤ x.sizes.states → W (inside (labelled x n)) rs (rest x (replicate (x.sizes.states - n) 0) es ms))
      → W (inside x) (label_recs (x.labels + k) ls ++ rs) (rest x (replicate k 0 ++ ls) es ms)
  unfolding step put last rest labelled
  labels_in [] k x es ms rs h a b d w =
      let s0 : k ≡ x.sizes.states - x.labels = omega arith in
      rw (append-nil, s0) (w x.labels (omega arith))
  labels_in (zero ∷ ls) k x es ms rs h a b d w =
      let p = simp and_is at a in
      rw (← add-suc x.labels k, ← zeros k ls) (labels_in ls (suc k) x es ms rs (omega arith) p.1 b d w)
  labels_in (suc v ∷ ls) k x es ms rs h a b d w =
      let p = simp and_is at a in
      let s0 : x.labels + k - x.labels ≡ k = omega arith in
      let lt : x.labels + k < x.sizes.states = omega arith in
      let ge : x.labels ≤ x.labels + k = omega arith in
      let t = labels_in ls 0 (after_label x (x.labels + k)) es ms rs (omega arith) p.1 b d w in
      go_on x (after_label x (x.labels + k)) (record { kind = 2; body = (x.labels + k) ∷ suc v ∷ [] })
      (met (label_demands x (x.labels + k) (suc v)) _
      (and_in ((eqb_is _ _).1 b) ((eqb_is _ _).1 d), (and_in (and_in ((ltb-is _ _).1 lt) ((ltb-is 0 (suc v)).1 (omega arith))) p.0, ((leb-is _ _).1 ge, tt))))
      (rw add-zero at t) (rw (s0, append_assoc) refl)

  -- What is read of a model: with signs, the components come after.
  abbrev pub unplaced : Model → Model
  unplaced m = record {
    sizes = m.sizes;
    live = m.live;
    labels = m.labels;
    equations = cond (signed m.sizes) (numbered (λ i. 0) 0 m.equations) m.equations;
    moves = m.moves;
  }

  style-in : (m : Model) → well_formed m ≡ true → length m.moves ≤ l.moves → (n : ℕ) → n ≤ m.sizes.states
      → W (inside (labelled (opened m.sizes m.live) n)) (style_recs m.sizes m.equations ++ move_recs m.moves)
      (record { sizes = m.sizes; live = m.live; labels = replicate (m.sizes.states - n) 0; equations = (unplaced m).equations; moves = m.moves })
  unfolding well_formed style_ok rest labelled raw
  style-in m h q n le =
      let k = simp and_is at h in
      let c = (leb-is (length m.moves) most_moves).0 k.1.0 in
      let z = small m.sizes k.0.0.0.0.0 in
      let o : MovesLeft m.sizes m.live (started m.sizes).moves m.moves =
      record { order = k.0.1; room = omega arith; lively = all-moving m.sizes m.live m.moves k.0.1 ∙ k.1.1.1 } in
      elim (tell true (signed m.sizes)) [
        | inl t ↦
            let s = signs-out m.sizes m.equations (rw t at k.0.0.1) in
            let e = s.count in
            let p : some_below (length (numbered raw 0 m.equations)) (guilty (numbered raw 0 m.equations)) ≡ false =
            ap₂ some_below (numbered-length raw 0 m.equations) (guilty-same raw m.equations) ∙ s.pure in
            rw t (signs-in m.moves (labelled (opened m.sizes m.live) n) 0 m.equations k.0.0.0.0.0 ((eqb_is _ _).0 t) refl refl (omega arith)
            (inl (omega arith)) s.good p o)
        | inr t ↦
            let b = eqb-pos m.sizes.blocks t in
            rw t (equations-in m.moves (labelled (opened m.sizes m.live) n) m.equations k.0.0.0.0.0 b (rw t at k.0.0.1) (sym (run_none m.equations))
            (inl refl) o)
      ]

  -- The record of a live model, where it is one, in front of the others.
  flag-in : (m : Model) (rs : List Rec) (b : Model) → m.live ≤ 1 → W (inside (opened m.sizes m.live)) rs b → W (inside (started m.sizes)) (live_recs m.live ++ rs) b
  unfolding step put
  flag-in m rs b h w =
      elim (tell true (eqb m.live 1)) [
        | inl t ↦ rw t (go_on (started m.sizes) (opened m.sizes m.live) live_rec (rw ((eqb_is m.live 1).0 t) refl) w refl)
        | inr t ↦
            let d = (eqb_no m.live 1).0 t in
            let e : m.live ≡ 0 = omega arith in
            rw t (rw e at w)
      ]

  -- What comes after the sizes and the record of a live model is passed, and says the model.
  pub walks-labels : (m : Model) → well_formed m ≡ true → length m.moves ≤ l.moves
      → W (inside (opened m.sizes m.live)) (label_recs 0 m.labels ++ (style_recs m.sizes m.equations ++ move_recs m.moves)) (unplaced m)
  unfolding well_formed rest labelled
  walks-labels m h n =
      let k = simp and_is at h in
      let e = (eqb_is (length m.labels) m.sizes.states).0 k.0.0.0.0.1 in
      labels_in m.labels 0 (opened m.sizes m.live) (unplaced m).equations m.moves
      (style_recs m.sizes m.equations ++ move_recs m.moves) (omega arith) k.0.0.0.1 refl refl (style-in m h n)

  -- The records of a model inside the limits are passed, and say it.
  pub walks-records : (m : Model) → well_formed m ≡ true → lent_ok l m.sizes ≡ true → length m.moves ≤ l.moves → W before (records m) (unplaced m)
  unfolding well_formed step put records
  walks-records m h r n =
      let k = simp and_is at h in
      more {st = before} {st' = inside (started m.sizes)} (sizes_rec m.sizes) (met (sizes_demands l (sizes_rec m.sizes)) _ (refl, (k.0.0.0.0.0, (r, tt))))
      (flag-in m (label_recs 0 m.labels ++ (style_recs m.sizes m.equations ++ move_recs m.moves)) (unplaced m) ((leb-is m.live 1).0 k.1.1.0) (walks-labels m h n)) refl
