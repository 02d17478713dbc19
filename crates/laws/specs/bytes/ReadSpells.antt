-- What loads is inside the limits, and its bytes are its spelling. Assumes nothing.
use Rattle.std.proofs.Math.Path.{◌≡◌, refl, sym, ap, subst}
use Rattle.std.proofs.Common.{◌∙◌, append_assoc, append-nil, add-zero, pow-suc, length-append}
use Rattle.std.proofs.Math.Logic.{inl, inr}
use Rattle.std.specs.Prelude.{Bool, false, cond, ◌&&◌, List, [], ◌∷◌, ◌++◌, ℕ, zero, suc, ◌+◌, ◌-◌, ◌*◌, ◌^◌, ◌≤◌, ◌<◌, min, replicate, eqb}
use Rattle.std.proofs.Math.Bool.{true}
use native.Mathlib.Omega.{arith}
use Rattle.std.proofs.Math.ListN.{length}
use Rattle.std.proofs.lemmas.List.{length-replicate}
use Rattle.lists.specs.Lists.{all, some_below}
use Rattle.lists.specs.Tests.{tests, tell, and_in, ltb-is, leb-is, eqb_is, eqb_no, and_is}
use Rattle.rules.specs.Limits.{most_moves, sizes_ok}
use Rattle.rules.specs.Moves.{pack, source, action, target}
use Rattle.rules.specs.Model.{Model, label_ok, move_ok, run_of, equations_ok, moves_ok, well_formed, WellFormed, signed, sign_ok, equation_in, guilty, component_in, placed, style_ok}
use Rattle.words.specs.WordLaws.{parts-pack}
use Rattle.rules.specs.declared.Equation.{Equation}
use Rattle.rules.specs.Records.{Rec, field, widths, Turn, no, back, next, demand, accepted, bytes_of, over, run, parts}
use Rattle.rules.specs.Rooms.{Lengths, lent_ok}
use Rattle.rules.specs.Load.{sizes_of, Sofar, State, before, inside, started, block_fits, label_demands, block_demands, equation_demands, move_demands, moves_due, end_demands, live_demands, after_live, sizes_demands, after_label, after_block, after_equation, after_move, signed_of, sign_of, signed_demands, after_signed, ask_chains, step, put, last, last_of, settle_style, read_model, put_move, say_in}
use Rattle.rules.specs.Spelling.{sizes_rec, live_rec, live_recs, label_recs, block_rec, equation_recs, signed_recs, end_rec, move_recs, records, encode}
use Rattle.rules.specs.declared.Sizes.{Sizes}
use Rattle.laws.specs.bytes.RecordLaws.{Walks, done, more, Met, judged, Writable, AllWritable, AreBytes, tab, shape, un-onto, run-read}
use Rattle.laws.specs.moves.Hanging.{moving_over, all-moving, opened}
use Rattle.laws.specs.bytes.Walks.{small, run-last, nil-of, eqb-pos}
use Rattle.laws.specs.chains.Placed.{signed-recs, signs-in, placed-signs}

-- What a record after the sizes says, in front of what the later ones say.
abbrev put_in : Sofar → Rec → Model → Model
put_in x r m = say_in x r.kind (field r 0) (field r 1) (field r 2) (field r 3) m

-- A record of a kind that fits is made of its fields.
pub rec-is : (r : Rec) (k : ℕ) → r.kind ≡ k → Writable r → r ≡ record { kind = k; body = tab (widths k) (field r) }
rec-is r k e w = λ i. record { kind = e i; body = p i }
  where
    p : r.body ≡ tab (widths k) (field r)
    p = rw e at (shape (widths r.kind) r.body (field r) w.1 (λ i. refl))

and-other : (x y : Bool) → (x && y) ≡ false → x ≡ true → y ≡ false
and-other x y h e = rw e at h

-- States without a label.
pub skip-zeros : (n k : ℕ) (ls : List ℕ) → label_recs n (replicate k 0 ++ ls) ≡ label_recs (n + k) ls
skip-zeros n zero ls = rw add-zero refl
skip-zeros n (suc k) ls = let e : suc n + k ≡ n + suc k = omega arith in skip-zeros (suc n) k ls ∙ rw e refl

pub zeros-ok : (z : Sizes) (k : ℕ) (ls : List ℕ) → label_ok z 0 ≡ true → all (label_ok z) ls ≡ true → all (label_ok z) (replicate k 0 ++ ls) ≡ true
zeros-ok z zero ls o h = h
zeros-ok z (suc k) ls o h = and_in o (zeros-ok z k ls o h)

pub zero_ok : (z : Sizes) → label_ok z 0 ≡ true
unfolding label_ok
zero_ok z = (ltb-is _ _).1 (pow_pos z.propositions)
  where
    pow_pos : (n : ℕ) → 0 < 2 ^ n
    pow_pos zero = omega arith
    pow_pos (suc n) = let h = pow_pos n in rw pow-suc (omega arith)

-- The parts of a move in range can be told from its number.
pub unpacked : (z : Sizes) (s a t : ℕ) → sizes_ok z ≡ true → move_ok z s a t ≡ true
    → (source (pack s a t) ≡ s) × (action (pack s a t) ≡ a) × (target (pack s a t) ≡ t)
unfolding move_ok
unpacked z s a t ok h = let k = simp tests at h in let b = small z ok in parts-pack s a t (omega arith) (omega arith)

-- After the last equation with a sign, no closed chain holds both signs.
abbrev pub Pure : Sofar → Type 0
Pure x = x.sizes.blocks ≡ 0 → x.blocks.equations ≡ x.sizes.variables → some_below (length x.signs) (guilty x.signs) ≡ false

-- How a record was judged.
pub data Stepped (l : Lengths) (x : Sofar) (r : Rec) : Turn State → Type 0 where
  label : r.kind ≡ 2 → Met (label_demands x (field r 0) (field r 1)) → Stepped l x r (next (inside (after_label x (field r 0))))
  block : r.kind ≡ 3 → Met (block_demands x (field r 0) (field r 1)) → Stepped l x r (next (inside (after_block x (field r 0) (field r 1))))
  equation : r.kind ≡ 4 → Met (equation_demands x (field r 0) (field r 1) (field r 2)) → Stepped l x r (next (inside (after_equation x)))
  move : r.kind ≡ 5 → Met (move_demands l x (field r 0) (field r 1) (field r 2)) → Stepped l x r (next (inside (after_move x (pack (field r 0) (field r 1) (field r 2)))))
  end : r.kind ≡ 6 → Met (end_demands x) → Stepped l x r over
  lives : r.kind ≡ 10 → Met (live_demands x) → Stepped l x r (next (inside (after_live x)))
  sign : r.kind ≡ 11 → Met (signed_demands x (sign_of r)) → Pure (after_signed x (sign_of r)) → Stepped l x r (next (inside (after_signed x (sign_of r))))
  refusal : {n : ℕ} → Stepped l x r (no n)
  earlier : {n d : ℕ} → Stepped l x r (back n d)

pub stepped : (l : Lengths) (x : Sofar) (r : Rec) → Stepped l x r (step l (inside x) r)
unfolding step
stepped l x r =
    elim (tell true (eqb r.kind 2)) [
      | inl t ↦ rw t (by (label_demands x (field r 0) (field r 1)) _ (label (is 2 t)))
      | inr t ↦ rw t (elim (tell true (eqb r.kind 3)) [
        | inl t ↦ rw t (by (block_demands x (field r 0) (field r 1)) _ (block (is 3 t)))
        | inr t ↦ rw t (elim (tell true (eqb r.kind 4)) [
          | inl t ↦ rw t (by (equation_demands x (field r 0) (field r 1) (field r 2)) _ (equation (is 4 t)))
          | inr t ↦ rw t (elim (tell true (eqb r.kind 5)) [
            | inl t ↦ rw t (by (move_demands l x (field r 0) (field r 1) (field r 2)) _ (move (is 5 t)))
            | inr t ↦ rw t (elim (tell true (eqb r.kind 6)) [
              | inl t ↦ rw t (by (end_demands x) _ (end (is 6 t)))
              | inr t ↦ rw t (elim (tell true (eqb r.kind 10)) [
                | inl t ↦ rw t (by (live_demands x) _ (lives (is 10 t)))
                | inr t ↦ rw t (elim (tell true (eqb r.kind 11)) [
                  | inl t ↦ rw t (by (signed_demands x (sign_of r)) _ (λ m. asked (is 11 t) m))
                  | inr t ↦ rw t refusal
                ])
              ])
            ])
          ])
        ])
      ])
    ]
  where
    is : (k : ℕ) → eqb r.kind k ≡ true → r.kind ≡ k
    is k t = (eqb_is r.kind k).0 t

    asked : r.kind ≡ 11 → Met (signed_demands x (sign_of r)) → Stepped l x r (ask_chains (after_signed x (sign_of r)))
    asked k m =
        let y = after_signed x (sign_of r) in
        elim (tell true (eqb y.blocks.equations y.sizes.variables && some_below (length y.signs) (guilty y.signs))) [
          | inl t ↦ rw t earlier
          | inr t ↦ rw t (sign k m (λ b e. and-other _ _ t ((eqb_is _ _).1 e)))
        ]

    by : (ds : List (ℕ × Bool)) (t : Turn State) → (Met ds → Stepped l x r t) → Stepped l x r (demand ds t)
    by ds t f =
        elim (judged ds t) [
          | inl m ↦ rw m.1 (f m.0)
          | inr m ↦ rw m.1 refusal
        ]

-- Bounds that hold of every state on the way.
record Inv (l : Lengths) (x : Sofar) : Type 0 where
  a : x.labels ≤ x.sizes.states
  b : x.blocks.due ≤ 32 * x.blocks.count
  c : x.sizes.states ≤ x.labels + 256 * (1 - (x.blocks.count + x.blocks.equations))
  d : x.moves.count ≤ min most_moves l.moves
  e : x.blocks.equations + x.blocks.due ≤ x.sizes.variables
  g : x.blocks.count ≤ x.sizes.blocks

-- Equations with signs that are still to come.
record SignsLeft (x : Sofar) (es : List Equation) : Type 0 where
  count : x.blocks.equations + length es ≡ x.sizes.variables
  good : (j : ℕ) → j < length es → sign_ok x.sizes (equation_in es j) ≡ true
  pure : some_below (length (x.signs ++ es)) (guilty (x.signs ++ es)) ≡ false

abbrev recs_from : Sofar → List Equation → List Rec
recs_from x es = cond (signed x.sizes) (signed_recs es) (equation_recs x.blocks.count es)

has-blocks : (z : Sizes) → 0 < z.blocks → signed z ≡ false
has-blocks z h = (eqb_no z.blocks 0).1 (λ e. omega arith)

-- The records that are still to come say the rest of a model that is inside the limits.
record Rest (l : Lengths) (x : Sofar) (rs : List Rec) (m : Model) : Type 0 where
  same : m.sizes ≡ x.sizes
  count : x.labels + length m.labels ≡ x.sizes.states
  sets : all (label_ok x.sizes) m.labels ≡ true
  due : 0 < x.sizes.blocks → x.blocks.due ≡ run_of x.blocks.count m.equations
  equations : 0 < x.sizes.blocks → equations_ok x.sizes x.blocks.equations x.blocks.count x.blocks.kind m.equations ≡ true
  signs : x.sizes.blocks ≡ 0 → SignsLeft x m.equations
  moves : moves_ok x.sizes x.moves.least m.moves ≡ true
  room : x.moves.count + length m.moves ≤ min most_moves l.moves
  live : m.live ≡ x.live
  lively : cond (eqb x.live 1) (eqb (moving_over x.moves.moving m.moves) x.sizes.states) true ≡ true
  spelled : rs ≡ label_recs x.labels m.labels ++ (recs_from x m.equations ++ move_recs m.moves)

module _ (l : Lengths) (x : Sofar) (z : sizes_ok x.sizes ≡ true) (v : Inv l x) where
  -- One record more in front of what is still to come, kind by kind.
  end_back : Pure x → Met (end_demands x) → Rest l x (end_rec ∷ []) (last_of x.sizes x.live)
  end_back pu m =
      let k = simp tests at m.0 in
      let e = k.1 in
      let b = small x.sizes z in
      let c : x.labels + 0 ≡ x.sizes.states = omega arith in
      record {
        same = refl;
        count = c;
        sets = refl;
        due = λ h. k.0.0;
        equations = λ h. and_in ((eqb_is _ _).1 e) ((eqb_is _ _).1 k.0.1);
        signs = λ h. record {
          count = omega arith;
          good = λ j q. absurd (omega arith);
          pure = subst (λ (es : List Equation). some_below (length es) (guilty es) ≡ false) (sym (append-nil x.signs)) (pu h e);
        };
        moves = refl;
        room = omega arith;
        live = refl;
        lively = m.1.0;
        spelled = none (signed x.sizes);
      }
    where
      none : (s : Bool) → end_rec ∷ [] ≡ cond s (signed_recs []) (equation_recs x.blocks.count []) ++ end_rec ∷ []
      none true = refl
      none false = refl

  no-equations : {rs : List Rec} {m : Model} → moves_due x ≡ true → Rest l x rs m → m.equations ≡ []
  no-equations {m = m} d r =
      let k = simp tests at d in
      elim (tell true (signed x.sizes)) [
        | inl t ↦ let s = (r.signs ((eqb_is _ _).0 t)).count in nil-of m.equations (omega arith)
        | inr t ↦
            let b = eqb-pos x.sizes.blocks t in
            let g = run-last x.sizes x.blocks.equations x.blocks.count x.blocks.kind m.equations (r.equations b) k.0.1 in
            let du = r.due b in
            nil-of m.equations (omega arith)
      ]

  move-back : (s a t : ℕ) {rs : List Rec} {m : Model} → Met (move_demands l x s a t) → Rest l (after_move x (pack s a t)) rs m
      → Rest l x (record { kind = 5; body = s ∷ a ∷ t ∷ [] } ∷ rs) (put_move (pack s a t) m)
  move-back s a t {rs} {m} d r =
      let k = simp tests at d.0 in
      let b = small x.sizes z in
      let u = unpacked x.sizes s a t z d.1.0 in
      let ls = nil-of m.labels (omega (arith, r.count)) in
      let back : Rest l x (label_recs x.labels m.labels ++ (recs_from x m.equations ++ move_recs (pack s a t ∷ m.moves)))
      (put_move (pack s a t) m) = record {
        same = r.same;
        count = r.count;
        sets = r.sets;
        due = r.due;
        equations = r.equations;
        signs = λ h. let q = r.signs h in record { count = q.count; good = q.good; pure = q.pure };
        moves = and_in (and_in d.1.1.0 (rw (u.0, u.1, u.2) d.1.0)) r.moves;
        room = omega (arith, r.room);
        live = r.live;
        lively = r.lively;
        spelled = refl;
      } in
      let es = no-equations d.0 back in
      let sp : record { kind = 5; body = s ∷ a ∷ t ∷ [] } ∷ rs ≡ label_recs x.labels m.labels ++ (recs_from x m.equations ++ move_recs (pack s a t ∷ m.moves)) =
      ap (λ (q : List Rec). record { kind = 5; body = s ∷ a ∷ t ∷ [] } ∷ q) r.spelled
      ∙ rw (ls, es, u.0, u.1, u.2) (two (signed x.sizes) (move_recs m.moves) (record { kind = 5; body = s ∷ a ∷ t ∷ [] })) in
      rw sp back
    where
      two : (b : Bool) (q : List Rec) (e : Rec) → e ∷ (cond b (signed_recs []) (equation_recs x.blocks.count []) ++ q) ≡ cond b (signed_recs []) (equation_recs x.blocks.count []) ++ e ∷ q
      two true q e = refl
      two false q e = refl

  equation-back : (o a b : ℕ) {rs : List Rec} {m : Model} → Met (equation_demands x o a b) → Rest l (after_equation x) rs m
      → Rest l x (record { kind = 4; body = o ∷ a ∷ b ∷ [] } ∷ rs) (put_in x (record { kind = 4; body = o ∷ a ∷ b ∷ [] }) m)
  equation-back o a b {rs} {m} d r =
      let p = (ltb-is 0 x.blocks.due).0 d.0 in
      let q : suc (x.blocks.count - 1) ≡ x.blocks.count = omega arith in
      let ls = nil-of m.labels (omega arith) in
      let t : eqb (suc (x.blocks.count - 1)) x.blocks.count ≡ true = (eqb_is _ _).1 q in
      let bl : 0 < x.sizes.blocks = omega arith in
      let hb = has-blocks x.sizes bl in
      let u : x.blocks.due ≡ suc (run_of x.blocks.count m.equations) = omega (arith, r.due bl) in
      record {
        same = r.same;
        count = r.count;
        sets = r.sets;
        due = λ h. rw t u;
        equations = λ h. rw (t, q) (simp and_is ((((eqb_is x.blocks.kind x.blocks.kind).1 refl, d.1.0), rw (← u) d.1.1.0), r.equations bl));
        signs = λ h. absurd (omega arith);
        moves = r.moves;
        room = r.room;
        live = r.live;
        lively = r.lively;
        spelled = rw (hb, t, r.spelled, hb, ls) refl;
      }

  label-back : (s w : ℕ) {rs : List Rec} {m : Model} → Met (label_demands x s w) → Rest l (after_label x s) rs m
      → Rest l x (record { kind = 2; body = s ∷ w ∷ [] } ∷ rs) (put_in x (record { kind = 2; body = s ∷ w ∷ [] }) m)
  label-back s zero {rs} {m} d r = let k = simp tests at d.1.0 in absurd (omega arith)
  label-back s (suc w) {rs} {m} d r =
      let k = simp and_is at d.1.0 in
      let h = (leb-is x.labels s).0 d.1.1.0 in
      let b = simp tests at d.0 in
      let e : x.labels + (s - x.labels) ≡ s = omega arith in
      record {
        same = r.same;
        count = simp (length-append, length-replicate) (omega (arith, r.count));
        sets = rw append_assoc (zeros-ok x.sizes (s - x.labels) _ (zero_ok x.sizes) (and_in k.1 r.sets));
        due = r.due;
        equations = r.equations;
        signs = λ h. let q = r.signs h in record { count = q.count; good = q.good; pure = q.pure };
        moves = r.moves;
        room = r.room;
        live = r.live;
        lively = r.lively;
        spelled = rw (append_assoc, skip-zeros x.labels (s - x.labels) (suc w ∷ m.labels), e, r.spelled) refl;
      }

-- The first equation of a new block.
block-eqs : (z : Sizes) (i b k j n : ℕ) (es : List Equation) → 0 < n → n ≡ run_of (suc b) es → b < z.blocks → k ≤ 1 → equations_ok z i (suc b) k es ≡ true
    → (0 ≡ run_of b es) × (equations_ok z i b j es ≡ true) × (equation_recs b es ≡ block_rec k n ∷ equation_recs (suc b) es)
block-eqs z i b k j n [] p e h o q = absurd (omega arith)
block-eqs z i b k j n (a ∷ es) p e h o q =
    elim (tell true (eqb (suc a.block) (suc b))) [
      | inr t ↦ let u : n ≡ 0 = rw t at e in absurd (omega arith)
      | inl t ↦
          let c : a.block ≡ b = omega (arith, (eqb_is (suc a.block) (suc b)).0 t) in
          let u : n ≡ suc (run_of (suc b) es) = rw t at e in
          let f = simp and_is at q in
          let g = (eqb_is a.kind k).0 (rw t at f.0.0.0) in
          elim (tell true (eqb (suc a.block) b)) [
            | inl s ↦ let y = (eqb_is (suc a.block) b).0 s in absurd (omega arith)
            | inr s ↦ (rw s refl, rw s (simp and_is ((((((eqb_is _ _).1 c, (ltb-is _ _).1 h), rw g ((leb-is _ _).1 o)), f.0.0.1), f.0.1), f.1)), rw (s, t, u, g, c) refl)
          ]
    ]

module _ (l : Lengths) (x : Sofar) (z : sizes_ok x.sizes ≡ true) (v : Inv l x) where
  block_back : (k n : ℕ) {rs : List Rec} {m : Model} → Met (block_demands x k n) → Rest l (after_block x k n) rs m
      → Rest l x (block_rec k n ∷ rs) (put_in x (block_rec k n) m)
  unfolding block_fits
  block_back k n {rs} {m} d r =
      let q = simp tests at d.0 in
      let f = simp and_is at d.1.0 in
      let p = (ltb-is 0 n).0 f.0.0 in
      let ls = nil-of m.labels (omega (arith, r.count)) in
      let bl : 0 < x.sizes.blocks = omega arith in
      let hb = has-blocks x.sizes bl in
      let e = block-eqs x.sizes x.blocks.equations x.blocks.count k x.blocks.kind n m.equations p (r.due bl) q.1 ((leb-is k 1).0 d.1.1.0) (r.equations bl) in
      record {
        same = r.same;
        count = simp (length-append, length-replicate) (omega (arith, r.count));
        sets = zeros-ok x.sizes (x.sizes.states - x.labels) _ (zero_ok x.sizes) r.sets;
        due = λ h. q.0 ∙ e.0;
        equations = λ h. e.1;
        signs = λ h. absurd (omega arith);
        moves = r.moves;
        room = r.room;
        live = r.live;
        lively = r.lively;
        spelled = rw (skip-zeros x.labels (x.sizes.states - x.labels) m.labels, r.spelled, ls, hb, e.2) refl;
      }

  sign-back : (k o a b : ℕ) {rs : List Rec} {m : Model} → Met (signed_demands x (signed_of k o a b)) → Rest l (after_signed x (signed_of k o a b)) rs m
      → Rest l x (record { kind = 11; body = k ∷ o ∷ a ∷ b ∷ [] } ∷ rs) (put_in x (record { kind = 11; body = k ∷ o ∷ a ∷ b ∷ [] }) m)
  sign-back k o a b {rs} {m} d r =
      let q = simp and_is at d.0 in
      let ls = nil-of m.labels (omega (arith, r.count)) in
      let bl : x.sizes.blocks ≡ 0 = (eqb_is _ _).0 q.0 in
      let s = r.signs bl in
      let c = s.count in
      let hb = q.0 in
      record {
        same = r.same;
        count = simp (length-append, length-replicate) (omega (arith, r.count));
        sets = zeros-ok x.sizes (x.sizes.states - x.labels) _ (zero_ok x.sizes) r.sets;
        due = λ h. absurd (omega arith);
        equations = λ h. absurd (omega arith);
        signs = λ h. record {
          count = omega arith;
          good = each (signed_of k o a b) m.equations d.1.0 s.good;
          pure = subst (λ (es : List Equation). some_below (length es) (guilty es) ≡ false) (append_assoc x.signs (signed_of k o a b ∷ []) m.equations) s.pure;
        };
        moves = r.moves;
        room = r.room;
        live = r.live;
        lively = r.lively;
        spelled = rw (skip-zeros x.labels (x.sizes.states - x.labels) m.labels, r.spelled, ls, hb) refl;
      }
    where
      each : (e : Equation) (es : List Equation) → sign_ok x.sizes e ≡ true → ((j : ℕ) → j < length es → sign_ok x.sizes (equation_in es j) ≡ true)
          → (j : ℕ) → j < suc (length es) → sign_ok x.sizes (equation_in (e ∷ es) j) ≡ true
      each e es h g zero n = h
      each e es h g (suc j) n = g j (omega arith)

  inv-sign : (e : Equation) → Met (signed_demands x e) → Inv l (after_signed x e)
  inv-sign e d =
      let q = simp tests at d.0 in
      omega arith

  inv-label : (s w : ℕ) → Met (label_demands x s w) → Inv l (after_label x s)
  inv-label s w d =
      let k = simp and_is at d.1.0 in
      let h = (ltb-is s x.sizes.states).0 k.0.0 in
      let b = simp tests at d.0 in
      let g = small x.sizes z in
      omega arith

  inv-block : (k n : ℕ) → Met (block_demands x k n) → Inv l (after_block x k n)
  unfolding block_fits
  inv-block k n d =
      let q = simp tests at d.0 in
      let f = simp and_is at d.1.0 in
      let h = (leb-is (x.blocks.equations + n) x.sizes.variables).0 f.0.1 in
      let g = small x.sizes z in
      omega arith

  inv-equation : 0 < x.blocks.due → Inv l (after_equation x)
  inv-equation h = omega arith

  inv-move : (p : ℕ) → x.moves.count < min most_moves l.moves → Inv l (after_move x p)
  inv-move p h = omega arith

  inv-flag : Inv l (after_live x)
  inv-flag = omega arith

-- What is still to come: the rest of a model, or the record that says that it is live, and then the rest.
data Coming (l : Lengths) (x : Sofar) (m : Model) : List Rec → Type 0 where
  said : {rs : List Rec} → Rest l x rs m → Coming l x m rs
  unsaid : {rs : List Rec} → x.live ≡ 0 → x.labels ≡ 0 → Rest l (after_live x) rs m → Coming l x m (live_rec ∷ rs)

-- Once a state is passed, it is the rest of a model.
no_flag : {l : Lengths} {x : Sofar} {m : Model} {rs : List Rec} → 1 ≤ x.labels → Coming l x m rs → Rest l x rs m
no_flag h (said r) = r
no_flag h (unsaid a b r) = absurd (omega arith)

module _ (l : Lengths) where
  Back : State → List Rec → Model → Type 0
  Back st rs m = (x : Sofar) → st ≡ inside x → sizes_ok x.sizes ≡ true → Inv l x → Pure x → Coming l x m rs

  -- The record of a live model in front.
  flag-back : (x : Sofar) (m : Model) (rs : List Rec) → Met (live_demands x) → Coming l (after_live x) m rs → Coming l x m (live_rec ∷ rs)
  flag-back x m rs d (said r) = let k = simp tests at d.0 in unsaid k.1 k.0 r
  flag-back x m rs d (unsaid a b r) = absurd (omega arith)

  turn-back : (x : Sofar) (r : Rec) (rs : List Rec) (m : Model) (st : State) → sizes_ok x.sizes ≡ true → Inv l x → Pure x → Writable r
      → Stepped l x r (next st) → Back st rs m → Coming l x (put_in x r m) (r ∷ rs)
  unfolding Back widths
  turn-back x r rs m st z v pu w (label e d) ih =
      said (subst (λ (r : Rec). Rest l x (r ∷ rs) (put_in x r m)) (sym (rec-is r 2 e w))
      (label-back l x z v (field r 0) (field r 1) d (no_flag (omega arith) (ih _ refl z (inv-label l x z v (field r 0) (field r 1) d) pu))))
  turn-back x r rs m st z v pu w (block e d) ih =
      let g = small x.sizes z in
      said (subst (λ (r : Rec). Rest l x (r ∷ rs) (put_in x r m)) (sym (rec-is r 3 e w))
      (block_back l x z v (field r 0) (field r 1) d (no_flag (omega arith) (ih _ refl z (inv-block l x z v (field r 0) (field r 1) d)
      (λ b e. let q = simp tests at d.0 in absurd (omega arith))))))
  turn-back x r rs m st z v pu w (equation e d) ih =
      let g = small x.sizes z in
      let q = (ltb-is 0 x.blocks.due).0 d.0 in
      said (subst (λ (r : Rec). Rest l x (r ∷ rs) (put_in x r m)) (sym (rec-is r 4 e w))
      (equation-back l x z v (field r 0) (field r 1) (field r 2) d (no_flag (omega arith) (ih _ refl z (inv-equation l x z v q) (λ b e. absurd (omega arith))))))
  turn-back x r rs m st z v pu w (move e d) ih =
      let g = small x.sizes z in
      let q = simp tests at d.0 in
      said (subst (λ (r : Rec). Rest l x (r ∷ rs) (put_in x r m)) (sym (rec-is r 5 e w))
      (move-back l x z v (field r 0) (field r 1) (field r 2) d (no_flag (omega arith) (ih _ refl z (inv-move l x z v _ ((ltb-is _ _).0 d.1.1.1.0)) pu))))
  turn-back x r rs m st z v pu w (lives e d) ih =
      subst (λ (r : Rec). Coming l x (put_in x r m) (r ∷ rs)) (sym (rec-is r 10 e w)) (flag-back x m rs d (ih _ refl z (inv-flag l x z v) pu))
  turn-back x r rs m st z v pu w (sign e d f) ih =
      let g = small x.sizes z in
      said (subst (λ (r : Rec). Rest l x (r ∷ rs) (put_in x r m)) (sym (rec-is r 11 e w))
      (sign-back l x z v (field r 0) (field r 1) (field r 2) (field r 3) d (no_flag (omega arith) (ih _ refl z (inv-sign l x z v (sign_of r) d) f))))

  over-back : (x : Sofar) (r : Rec) → sizes_ok x.sizes ≡ true → Inv l x → Pure x → Writable r → Stepped l x r over → Rest l x (r ∷ []) (last_of x.sizes x.live)
  unfolding widths
  over-back x r z v pu w (end e d) = subst (λ (r : Rec). Rest l x (r ∷ []) (last_of x.sizes x.live)) (sym (rec-is r 6 e w)) (end_back l x z v pu d)

  backward : {st : State} {rs : List Rec} {m : Model} → Walks (step l) put last st rs m → AllWritable rs → Back st rs m
  unfolding Back put last
  backward (done {r = r} e q) w x s z v pu = rw q (rw s (said (over-back x r z v pu w.0 (rw (← s, e) at (stepped l x r)))))
  backward (more {st' = st'} r {rs = rs} {b' = m} e t q) w x s z v pu =
      rw q (rw s (turn-back x r rs m st' z v pu w.0 (rw (← s, e) at (stepped l x r)) (backward t w.1)))

  -- The records spell the model, which is inside the limits and fits the rooms.
  Good : List Rec → Model → Type 0
  Good rs m = (rs ≡ records m) × WellFormed m × (lent_ok l m.sizes ≡ true) × (length m.moves ≤ l.moves)

  -- Components change no record.
  same-records : (m : Model) → records (settle_style m) ≡ records m
  unfolding records placed
  same-records m =
      elim (tell true (signed m.sizes)) [
        | inl t ↦ rw (t, signed-recs (component_in m.equations) 0 m.equations) refl
        | inr t ↦ rw t refl
      ]

  style-good : (z : Sizes) (n : ℕ) (es : List Equation) → sizes_ok z ≡ true → (0 < z.blocks → equations_ok z 0 0 0 es ≡ true) → (z.blocks ≡ 0 → SignsLeft (opened z n) es)
      → style_ok z (cond (signed z) (placed es) es) ≡ true
  unfolding style_ok
  style-good z n es ok f g =
      elim (tell true (signed z)) [
        | inl t ↦ let s = g ((eqb_is _ _).0 t) in rw t (signs-in z (placed es) (placed-signs z es (let c = s.count in omega arith) s.good s.pure))
        | inr t ↦ rw t (f (eqb-pos z.blocks t))
      ]

  whole : (r : Rec) (rs : List Rec) (m : Model) (b : ℕ) → b ≤ 1 → Writable r → Met (sizes_demands l r) → Rest l (opened (sizes_of r) b) rs m → Good (r ∷ (live_recs b ++ rs)) (settle_style m)
  unfolding well_formed widths Good records
  whole r rs m b few w d a =
      let same = a.same in
      let n : length m.labels ≡ (sizes_of r).states = omega (arith, a.count) in
      let c : length m.moves ≤ most_moves = omega (arith, a.room) in
      let y = rec-is r 1 ((eqb_is r.kind 1).0 d.0) w in
      let p : records m ≡ sizes_rec m.sizes ∷ (live_recs b ++ rs) = rw (a.spelled, same, a.live) refl in
      let lively = sym (all-moving (sizes_of r) b m.moves a.moves) ∙ a.lively in (
        ap (λ (r : Rec). r ∷ (live_recs b ++ rs)) y ∙ sym (same-records m ∙ p ∙ rw same refl),
        rw (same, a.live)
            (simp and_is (((((d.1.0, (eqb_is _ _).1 n), a.sets), style-good (sizes_of r) b m.equations d.1.0 a.equations a.signs), a.moves), ((leb-is _ _).1 c, ((leb-is b 1).1 few, lively)))),
        rw same d.1.1.0,
        omega (arith, a.room),
      )

  -- Live or not.
  either_way : (r : Rec) (rs : List Rec) (m : Model) → Writable r → Met (sizes_demands l r) → Coming l (started (sizes_of r)) m rs → Good (r ∷ rs) (settle_style m)
  either_way r rs m w d (said a) = whole r rs m 0 (omega arith) w d a
  either_way r rs m w d (unsaid {rs = t} e f a) = whole r t m 1 (omega arith) w d a

  first : {rs : List Rec} {m : Model} → Walks (step l) put last before rs m → AllWritable rs → Good rs (settle_style m)
  unfolding step put Good Back
  first (done {r = r} e q) w =
      elim (judged (sizes_demands l r) (next (inside (started (sizes_of r))))) [
        | inl d ↦ let z : ◌≡◌ {A = ℕ} 0 1 = cc in absurd (omega arith)
        | inr d ↦ let z : ◌≡◌ {A = ℕ} 0 1 = cc in absurd (omega arith)
      ]
  first (more {st' = st'} r {rs = rs} {b' = m} e t q) w =
      elim (judged (sizes_demands l r) (next (inside (started (sizes_of r))))) [
        | inl d ↦ let s : st' ≡ inside (started (sizes_of r)) = cc in
            let g = small (sizes_of r) d.0.1.0 in
            let b = rw s at (backward t w.1) in
            rw q (either_way r rs m w.0 d.0 (b (started (sizes_of r)) refl d.0.1.0 (omega arith) (λ b e. absurd (omega arith))))
        | inr d ↦ let z : ◌≡◌ {A = ℕ} 0 1 = cc in absurd (omega arith)
      ]

  -- Records that are passed spell a model that is inside the limits and fits the rooms.
  pub passed-spells : {rs : List Rec} {m : Model} → Walks (step l) put last before rs m → AllWritable rs
      → (rs ≡ records (settle_style m)) × WellFormed (settle_style m) × (lent_ok l m.sizes ≡ true) × (length m.moves ≤ l.moves)
  unfolding Good
  passed-spells w f = first w f

  -- What loads is inside the limits, fits the rooms, and its spelling is the bytes.
  pub read-spelling : (s : List ℕ) (m : Model) → AreBytes s → read_model l s ≡ accepted m
      → WellFormed m × (encode m ≡ s) × (lent_ok l m.sizes ≡ true) × (length m.moves ≤ l.moves)
  unfolding read_model Good
  read-spelling s m b e =
      let u = un-onto (step l) put last settle_style (run (step l) put last before (parts s)) m e in
      let w = run-read (step l) put last (length s) 0 s before u.0 (omega arith) b u.1 in
      let g = subst (Good w.0) (sym u.2) (first w.3 w.2) in
      (g.1, ap bytes_of (sym g.0) ∙ w.1, g.2, g.3)

-- Bytes that are read as the same model are the same bytes.
pub one-spelling : (l k : Lengths) (s t : List ℕ) (m : Model) → AreBytes s → AreBytes t
    → read_model l s ≡ accepted m → read_model k t ≡ accepted m → s ≡ t
one-spelling l k s t m b c e f = sym (read-spelling l s m b e).1 ∙ (read-spelling k t m c f).1
