-- Refusal 16 of a load, exactly: when it is given, and at which byte. A live model is read as one that is not said to be live,
-- record by record, but at the end. Assumes nothing.
use Rattle.std.specs.Prelude.{◌≡◌, ◌↔◌, Bool, not, cond, ◌&&◌, length}
use Rattle.std.proofs.Math.Path.{refl, sym, ap, subst}
use Rattle.std.proofs.Common.{ap₂, ◌∙◌, true≢false}
use Rattle.std.proofs.Math.Logic.{inl, inr}
use Rattle.std.proofs.Math.Bool.{true, false}
use mathlib.Core.List.{List, [], ◌∷◌, ◌++◌, append_assoc}
use Prim.Native.Nat.{ℕ, zero, suc, ◌+◌, ◌-◌, ◌≤◌}
use native.Mathlib.Omega.{arith}
use Rattle.std.proofs.Math.Dec.{eqb}
use Rattle.lists.specs.Lists.{some_below}
use Rattle.lists.specs.Tests.{tests, tell, not-out, and_is, and_no, eqb_is, eqb_no, ltb-is}
use Rattle.rules.specs.Moves.{pack}
use Rattle.rules.specs.Model.{Model, signed, well_formed, WellFormed, guilty, none_hangs}
use Rattle.rules.specs.declared.Equation.{Equation}
use Rattle.rules.specs.Records.{Rec, field, widths, bytes, bytes_of, Parts, ends, broken, part, parts_from, parts, Turn, no, back, next, over, demand, refused, onto, at_end, on_turn, run}
use Rattle.rules.specs.Rooms.{Lengths, lent_ok}
use Rattle.rules.specs.Load.{Sofar, State, before, inside, started, moves_due, sizes_of, sign_of, sizes_demands, live_demands, label_demands, block_demands, equation_demands, signed_demands, move_demands, end_demands, after_live, after_label, after_block, after_equation, after_signed, after_move, ask_chains, block_fits, step, put, last, settle_style, read_model}
use Rattle.rules.specs.Spelling.{sizes_rec, live_rec, live_recs, label_recs, equation_recs, signed_recs, style_recs, move_recs, records, encode}
use Rattle.rules.specs.declared.Sizes.{Sizes}
use Rattle.laws.specs.bytes.RecordLaws.{Walks, done, more, AreBytes, Writable, AllWritable, Met, met, judged, size, part-written, never, Head, headed, told-number, un-told, others, demanded, by-records}
use Rattle.laws.specs.bytes.SpellingLength.{size_all, all-length}
use Rattle.laws.specs.moves.Hanging.{moving_over, moving-is, opened}
use Rattle.laws.specs.model.LiveApart.{still}
use Rattle.laws.specs.bytes.Walks.{small, walks-labels}
use Rattle.laws.specs.bytes.ReadAccepts.{records-w}
use Rattle.laws.specs.bytes.ReadSpells.{rec-is, passed-spells, Stepped, label, block, equation, move, end, lives, sign, refusal, earlier, stepped}

-- The bytes s begin with the spelling of a live model, whatever comes after it. It is inside the limits, but that some state has
-- no move, and fits the rooms; and q is the place of its end record, the last byte of that spelling.
pub record HangsAt (l : Lengths) (s : List ℕ) (q : ℕ) : Type 0 where
  pub model : Model
  pub rest : List ℕ
  pub spelled : s ≡ encode model ++ rest
  pub live : model.live ≡ 1
  pub formed : WellFormed (still model)
  pub hanging : none_hangs model.sizes.states model.moves ≡ false
  pub rooms : lent_ok l model.sizes ≡ true
  pub room : length model.moves ≤ l.moves
  pub place : suc q ≡ length (encode model)

-- What has been read, of a model not said to be live.
abbrev calm : Sofar → Sofar
calm x = record { sizes = x.sizes; live = 0; labels = x.labels; blocks = x.blocks; signs = x.signs; moves = x.moves }

-- What a record does in the state x of a live model, beside what it does where the model is not said to be live.
data Beside (x : Sofar) (r : Rec) : Turn State → Turn State → Type 0 where
  refuses : {n : ℕ} → (n ≡ 16 → ⊥) → Beside x r (no n) (no n)
  points : {n d : ℕ} → (n ≡ 16 → ⊥) → Beside x r (back n d) (back n d)
  goes : {y : Sofar} → y.live ≡ 1 → y.sizes ≡ x.sizes
      → ((m : Model) → moving_over y.moves.moving m.moves ≡ moving_over x.moves.moving (put (inside (calm x)) r m).moves)
      → ((m : Model) → (put (inside (calm x)) r m).live ≡ m.live)
      → Beside x r (next (inside y)) (next (inside (calm y)))
  hangs : r.kind ≡ 6 → eqb x.moves.moving x.sizes.states ≡ false → Beside x r (no 16) over
  closes : eqb x.moves.moving x.sizes.states ≡ true → Beside x r over over
  flagged : {t : Turn State} → r.kind ≡ 10 → Beside x r (no 2) t

module _ (x : Sofar) (r : Rec) where
  by-demands : (ds : List (ℕ × Bool)) {t u : Turn State} → others 16 ds ≡ true → Beside x r t u → Beside x r (demand ds t) (demand ds u)
  by-demands [] h b = b
  by-demands (d ∷ ds) h b =
      let k = (and_is (not (eqb d.0 16)) (others 16 ds)).0 h in
      elim (tell true d.1) [
        | inl e ↦ rw e (by-demands ds k.1 b)
        | inr e ↦ rw e (refuses ((eqb_no d.0 16).0 (not-out _ k.0)))
      ]

  by_kind : (k : ℕ) {t t' u u' : Turn State} → (r.kind ≡ k → Beside x r t t') → Beside x r u u' → Beside x r (cond (eqb r.kind k) t u) (cond (eqb r.kind k) t' u')
  by_kind k f b =
      elim (tell true (eqb r.kind k)) [
        | inl e ↦ rw e (f ((eqb_is r.kind k).0 e))
        | inr e ↦ rw e b
      ]

  -- The end record, and the record of a live model, which is said already.
  at-end : x.live ≡ 1 → r.kind ≡ 6 → Beside x r (demand (end_demands x) over) (demand (end_demands (calm x)) over)
  at-end h k =
      elim (tell true (moves_due x)) [
        | inr e ↦ rw e (refuses {n = 2} (λ f. omega arith))
        | inl e ↦ elim (tell true (eqb x.moves.moving x.sizes.states)) [
          | inl f ↦ rw (e, h, f) (closes f)
          | inr f ↦ rw (e, h, f) (hangs k f)
        ]
      ]

  said-again : (t : Turn State) → x.live ≡ 1 → r.kind ≡ 10 → Beside x r (demand (live_demands x) (next (inside (after_live x)))) t
  said-again t h k = rw (h, and_no (eqb x.labels 0) {y = false} refl) (flagged k)

  -- After the last equation with a sign.
  by-chains : (y : Sofar) → Beside x r (next (inside y)) (next (inside (calm y))) → Beside x r (ask_chains y) (ask_chains (calm y))
  by-chains y b =
      elim (tell true (eqb y.blocks.equations y.sizes.variables && some_below (length y.signs) (guilty y.signs))) [
        | inl t ↦ rw t (points {n = 5} (λ e. omega arith))
        | inr t ↦ rw t b
      ]

-- One record.
beside : (l : Lengths) (x : Sofar) (r : Rec) → x.live ≡ 1 → Beside x r (step l (inside x) r) (step l (inside (calm x)) r)
unfolding step block_fits put
beside l x r h =
    by_kind x r 2 (λ e. by-demands x r (label_demands x (field r 0) (field r 1)) refl (goes {y = after_label x (field r 0)} h refl (λ m. rw e refl) (λ m. rw e refl)))
    (by_kind x r 3 (λ e. by-demands x r (block_demands x (field r 0) (field r 1)) refl (goes {y = after_block x (field r 0) (field r 1)} h refl (λ m. rw e refl) (λ m. rw e refl)))
    (by_kind x r 4 (λ e. by-demands x r (equation_demands x (field r 0) (field r 1) (field r 2)) refl (goes {y = after_equation x} h refl (λ m. rw e refl) (λ m. rw e refl)))
    (by_kind x r 5 (λ e. by-demands x r (move_demands l x (field r 0) (field r 1) (field r 2)) refl (goes {y = after_move x (pack (field r 0) (field r 1) (field r 2))} h refl (λ m. rw e refl) (λ m. rw e refl)))
    (by_kind x r 6 (λ e. at-end x r h e)
    (by_kind x r 10 (λ e. said-again x r _ h e)
    (by_kind x r 11 (λ e. by-demands x r (signed_demands x (sign_of r)) refl (by-chains x r (after_signed x (sign_of r)) (goes {y = after_signed x (sign_of r)} h refl (λ m. rw e refl) (λ m. rw e refl))))
    (refuses {n = 2} (λ e. omega arith))))))))

-- After the end record 16 is not given.
end-not : (l : Lengths) (st : State) (t : Parts) (q : ℕ) → at_end (step l) put last st t ≡ refused 16 q → ⊥
end-not l st (ends p) q e = never (sym e)
end-not l st (broken p) q e = let k = (told-number 2 p 16 q e).0 in omega arith
end-not l st (part p r t) q e = let k = (told-number 2 p 16 q e).0 in omega arith

end-size : (r : Rec) (k : ℕ) → r.kind ≡ k → widths k ≡ [] → size r ≡ 1
unfolding size
end-size r k e f = rw (e, f) refl

-- What the bytes s hold, from the place p on, in the state x of a live model: records that are passed where the model is not said
-- to be live, the end among them; with them some state has no move; and q is the place of the last.
record Passed (l : Lengths) (x : Sofar) (p : ℕ) (s : List ℕ) (q : ℕ) : Type 0 where
  records : List Rec
  model : Model
  rest : List ℕ
  walks : Walks (step l) put last (inside (calm x)) records model
  fits : AllWritable records
  spelled : s ≡ bytes_of records ++ rest
  unsaid : model.live ≡ 0
  hanging : eqb (moving_over x.moves.moving model.moves) x.sizes.states ≡ false
  place : suc q ≡ p + size_all records

module _ (l : Lengths) (q : ℕ) where
  -- One record of a live model, from what the bytes after it hold.
  turn : (x : Sofar) (r : Rec) (p : ℕ) (s : List ℕ) (t : Parts) → Writable r
      → ((y : Sofar) → y.live ≡ 1 → run (step l) put last (inside y) t ≡ refused 16 q → Passed l y (p + size r) s q)
      → (u v : Turn State) → step l (inside (calm x)) r ≡ v → Beside x r u v
      → on_turn (step l) put last (λ st. run (step l) put last st t) (inside x) p r t u ≡ refused 16 q → Passed l x p (bytes r ++ s) q
  unfolding last widths
  turn x r p s t w ih u v k (refuses {n = n} f) e = absurd (f (told-number n p 16 q e).0)
  turn x r p s t w ih u v k (points {n = n} {d = d} f) e = absurd (f (told-number n (p - d) 16 q e).0)
  turn x r p s t w ih u v k (goes {y = y} a b c d) e =
      let i = ih y a (un-told (put (inside x) r) (run (step l) put last (inside y) t) 16 q e) in
      record {
        records = r ∷ i.records;
        model = put (inside (calm x)) r i.model;
        rest = i.rest;
        walks = more r k i.walks refl;
        fits = (w, i.fits);
        spelled = ap (λ (t : List ℕ). bytes r ++ t) i.spelled ∙ sym (append_assoc (bytes r) (bytes_of i.records) i.rest);
        unsaid = d i.model ∙ i.unsaid;
        hanging = sym (ap₂ (λ (k : ℕ) (z : Sizes). eqb k z.states) (c i.model) b) ∙ i.hanging;
        place = let o = i.place in omega arith;
      }
  turn x r p s t w ih u v k (hangs a f) e =
      let o = (told-number 16 p 16 q e).1 in
      let n = end-size r 6 a refl in
      record {
        records = r ∷ [];
        model = last (inside (calm x));
        rest = s;
        walks = done k refl;
        fits = (w, tt);
        spelled = sym (append_assoc (bytes r) [] s);
        unsaid = refl;
        hanging = f;
        place = omega arith;
      }
  turn x r p s t w ih u v k (closes f) e = absurd (end-not l (inside x) t q e)
  turn x r p s t w ih u v k (flagged a) e = absurd (let n = (told-number 2 p 16 q e).0 in omega arith)

  -- Reading bytes in the state of a live model is refused with 16 only where they hold that.
  live-bytes : (s : List ℕ) → AreBytes s → (p : ℕ) (x : Sofar) → x.live ≡ 1 → run (step l) put last (inside x) (parts_from 0 p s) ≡ refused 16 q → Passed l x p s q
  live-bytes s b p x h e = by-records (step l) put last 16 q (λ i. omega arith) (λ st p s. (x : Sofar) → st ≡ inside x → x.live ≡ 1 → Passed l x p s q)
      (λ st p r s w b ih e x i h. turn x r p s (parts_from 0 (p + size r) s) w (λ y a f. ih (inside y) f y refl a)
      (step l (inside x) r) (step l (inside (calm x)) r) refl (beside l x r h) (rw i at e))
      s b (inside x) p e x refl h

  -- Where the model is not said to be live, no record is refused with 16.
  Unhanging : Turn State → Type 0
  Unhanging (no n) = n ≡ 16 → ⊥
  Unhanging (back n d) = n ≡ 16 → ⊥
  Unhanging (next st) = Unit {0}
  Unhanging over = Unit {0}

  by-others : (ds : List (ℕ × Bool)) (t : Turn State) → others 16 ds ≡ true → Unhanging t → Unhanging (demand ds t)
  unfolding Unhanging
  by-others [] t h b = b
  by-others (d ∷ ds) t h b =
      let k = (and_is (not (eqb d.0 16)) (others 16 ds)).0 h in
      elim (tell true d.1) [
        | inl e ↦ rw e (by-others ds t k.1 b)
        | inr e ↦ rw e ((eqb_no d.0 16).0 (not-out _ k.0))
      ]

  either : (b : Bool) (t u : Turn State) → Unhanging t → Unhanging u → Unhanging (cond b t u)
  either true t u h k = h
  either false t u h k = k

  quiet : (x : Sofar) (r : Rec) → x.live ≡ 0 → Unhanging (step l (inside x) r)
  unfolding step Unhanging
  quiet x r h =
      let a = field r 0 in
      let b = field r 1 in
      let c = field r 2 in
      let y = after_signed x (sign_of r) in
      either (eqb r.kind 2) _ _ (by-others (label_demands x a b) _ refl tt)
      (either (eqb r.kind 3) _ _ (by-others (block_demands x a b) _ refl tt)
      (either (eqb r.kind 4) _ _ (by-others (equation_demands x a b c) _ refl tt)
      (either (eqb r.kind 5) _ _ (by-others (move_demands l x a b c) _ refl tt)
      (either (eqb r.kind 6) _ _ (rw h (either (moves_due x) over (no 2) tt (λ e. omega arith)))
      (either (eqb r.kind 10) _ _ (by-others (live_demands x) _ refl tt)
      (either (eqb r.kind 11) _ _ (by-others (signed_demands x (sign_of r)) _ refl
      (either (eqb y.blocks.equations y.sizes.variables && some_below (length y.signs) (guilty y.signs)) _ _ (λ e. omega arith) tt))
      (λ e. omega arith)))))))

-- What holds of every state on the way: until the first label, block or equation nothing but the sizes is read.
record Begun (x : Sofar) : Type 0 where
  states : 1 ≤ x.sizes.states
  variables : 1 ≤ x.sizes.variables
  none : x.labels ≡ 0 → (x.blocks.due ≡ 0) × (x.blocks.equations ≡ 0)

-- The bytes begin with the record of a live model, which is due, and then hold what was told above.
record Said (l : Lengths) (x : Sofar) (p : ℕ) (s : List ℕ) (q : ℕ) : Type 0 where
  unlabelled : x.labels ≡ 0
  after : List ℕ
  spelled : s ≡ bytes live_rec ++ after
  passed : Passed l (after_live x) (suc p) after q

module _ (l : Lengths) (q : ℕ) where
  -- One record of a model that is not said to be live.
  first-turn : (x : Sofar) (r : Rec) (p : ℕ) (s : List ℕ) (t : Parts) → x.live ≡ 0 → Begun x → Writable r
      → ((y : Sofar) → y.live ≡ 1 → run (step l) put last (inside y) t ≡ refused 16 q → Passed l y (p + size r) s q)
      → ((y : Sofar) → y.live ≡ 0 → Begun y → run (step l) put last (inside y) t ≡ refused 16 q → Said l y (p + size r) s q)
      → (u : Turn State) → Unhanging l q u → Stepped l x r u
      → on_turn (step l) put last (λ st. run (step l) put last st t) (inside x) p r t u ≡ refused 16 q → Said l x p (bytes r ++ s) q
  unfolding widths Unhanging
  first-turn x r p s t h g w live ih u f (label k d) e =
      let y = after_label x (field r 0) in
      let i = ih y h (record { states = g.states; variables = g.variables; none = λ z. absurd (omega arith) }) (un-told (put (inside x) r) _ 16 q e) in
      absurd (let z = i.unlabelled in omega arith)
  first-turn x r p s t h g w live ih u f (block k d) e =
      let y = after_block x (field r 0) (field r 1) in
      let i = ih y h (record { states = g.states; variables = g.variables; none = λ z. absurd (let o = g.states in omega arith) }) (un-told (put (inside x) r) _ 16 q e) in
      absurd (let z = i.unlabelled in let o = g.states in omega arith)
  first-turn x r p s t h g w live ih u f (equation k d) e =
      let y = after_equation x in
      let due = (ltb-is 0 x.blocks.due).0 d.0 in
      let some : x.labels ≡ 0 → ⊥ = λ z. let o = (g.none z).0 in omega arith in
      let i = ih y h (record { states = g.states; variables = g.variables; none = λ z. absurd (some z) }) (un-told (put (inside x) r) _ 16 q e) in
      absurd (some i.unlabelled)
  first-turn x r p s t h g w live ih u f (move k d) e =
      let y = after_move x (pack (field r 0) (field r 1) (field r 2)) in
      let m = simp tests at d.0 in
      let some : x.labels ≡ 0 → ⊥ = λ z. let o = (g.none z).1 in let v = g.variables in omega arith in
      let i = ih y h (record { states = g.states; variables = g.variables; none = λ z. absurd (some z) }) (un-told (put (inside x) r) _ 16 q e) in
      absurd (some i.unlabelled)
  first-turn x r p s t h g w live ih u f (end k d) e = absurd (end-not l (inside x) t q e)
  first-turn x r p s t h g w live ih u f (lives k d) e =
      let m = simp tests at d.0 in
      let n = end-size r 10 k refl in
      let i = live (after_live x) refl (un-told (put (inside x) r) _ 16 q e) in
      let o : p + size r ≡ suc p = omega arith in
      record {
        unlabelled = m.0;
        after = s;
        spelled = ap (λ (r : Rec). bytes r ++ s) (rec-is r 10 k w);
        passed = subst (λ (k : ℕ). Passed l (after_live x) k s q) o i;
      }
  first-turn x r p s t h g w live ih u f (sign k d z) e =
      let y = after_signed x (sign_of r) in
      let i = ih y h (record { states = g.states; variables = g.variables; none = λ z. absurd (let o = g.states in omega arith) }) (un-told (put (inside x) r) _ 16 q e) in
      absurd (let z = i.unlabelled in let o = g.states in omega arith)
  first-turn x r p s t h g w live ih u f (refusal {n = n}) e = absurd (f (told-number n p 16 q e).0)
  first-turn x r p s t h g w live ih u f (earlier {n = n} {d = d}) e = absurd (f (told-number n (p - d) 16 q e).0)

  -- Reading bytes where the model is not said to be live is refused with 16 only where they say it first.
  calm-bytes : (s : List ℕ) → AreBytes s → (p : ℕ) (x : Sofar) → x.live ≡ 0 → Begun x → run (step l) put last (inside x) (parts_from 0 p s) ≡ refused 16 q → Said l x p s q
  calm-bytes s b p x h g e = by-records (step l) put last 16 q (λ i. omega arith) (λ st p s. (x : Sofar) → st ≡ inside x → x.live ≡ 0 → Begun x → Said l x p s q)
      (λ st p r s w b ih e x i h g. first-turn x r p s (parts_from 0 (p + size r) s) h g w (λ y a f. live-bytes l q s b (p + size r) y a f)
      (λ y a j f. ih (inside y) f y refl a j) (step l (inside x) r) (quiet l q x r h) (stepped l x r) (rw i at e))
      s b (inside x) p e x refl h g

-- The records of a model after its sizes and the record of a live model.
abbrev body : Model → List Rec
body m = label_recs 0 m.labels ++ (style_recs m.sizes m.equations ++ move_recs m.moves)

-- The model, said to be live.
abbrev lively : Model → Model
lively m = record { sizes = m.sizes; live = 1; labels = m.labels; equations = m.equations; moves = m.moves }

-- Moves that do not count all states leave one without a move.
not-all : (m : Model) → WellFormed (still m) → eqb (moving_over 0 m.moves) m.sizes.states ≡ none_hangs m.sizes.states m.moves
unfolding well_formed
not-all m w = let k = simp and_is at w in moving-is m.sizes m.moves k.0.1

-- Sizes that meet their demands, and what was told above of the bytes after them.
told-hangs : (l : Lengths) (s : List ℕ) (q : ℕ) (k : Head s) → Met (sizes_demands l k.rec) → Said l (started (sizes_of k.rec)) (0 + size k.rec) k.after q → HangsAt l s q
unfolding records widths step put
told-hangs l s q k d c =
    let z = sizes_of k.rec in
    let i = c.passed in
    let is = rec-is k.rec 1 ((eqb_is k.rec.kind 1).0 d.0) k.fits in
    let first : step l before (sizes_rec z) ≡ next (inside (started z)) = met (sizes_demands l (sizes_rec z)) _ (refl, (d.1.0, (d.1.1.0, tt))) in
    let fits : Writable (sizes_rec z) = subst Writable is k.fits in
    let g = passed-spells l (more {st = before} {st' = inside (started z)} (sizes_rec z) first i.walks refl) (fits, i.fits) in
    let n = settle_style i.model in
    let m = lively n in
    let same : still m ≡ n = λ j. record { sizes = n.sizes; live = sym i.unsaid j; labels = n.labels; equations = n.equations; moves = n.moves } in
    let formed = subst WellFormed (sym same) g.1 in
    let all : sizes_rec z ∷ i.records ≡ sizes_rec n.sizes ∷ body n = g.0 ∙ ap (λ (b : ℕ). sizes_rec n.sizes ∷ (live_recs b ++ body n)) i.unsaid in
    let a : sizes_rec z ≡ sizes_rec n.sizes = cc in
    let b : i.records ≡ body n = cc in
    let states : z.states ≡ n.sizes.states = ap (λ (r : Rec). field r 0) a in
    let S = bytes (sizes_rec n.sizes) in
    let long = all-length (sizes_rec n.sizes ∷ (live_rec ∷ body n)) (subst Writable a fits, ((refl, tt), subst AllWritable b i.fits)) in
    let sized : size k.rec ≡ size (sizes_rec n.sizes) = ap size (is ∙ a) in
    let one = end-size live_rec 10 refl refl in
    let counted : size_all i.records ≡ size_all (body n) = ap size_all b in
    record {
      model = m;
      rest = i.rest;
      spelled =
          k.spelled ∙ ap (λ (r : Rec). bytes r ++ k.after) (is ∙ a)
          ∙ ap (λ (t : List ℕ). S ++ t) (c.spelled ∙ ap (λ (t : List ℕ). bytes live_rec ++ t) (i.spelled ∙ ap (λ (rs : List Rec). bytes_of rs ++ i.rest) b))
          ∙ ap (λ (t : List ℕ). S ++ t) (sym (append_assoc (bytes live_rec) (bytes_of (body n)) i.rest))
          ∙ sym (append_assoc S (bytes live_rec ++ bytes_of (body n)) i.rest);
      live = refl;
      formed = formed;
      hanging = sym (not-all m formed) ∙ ap (λ (v : ℕ). eqb (moving_over 0 n.moves) v) (sym states) ∙ i.hanging;
      rooms = g.2;
      room = g.3;
      place = let o = i.place in omega arith;
    }

-- Bytes that are refused with 16 at q are such bytes.
sixteen-out : (l : Lengths) (s : List ℕ) (q : ℕ) → AreBytes s → read_model l s ≡ refused 16 q → HangsAt l s q
unfolding read_model run step
sixteen-out l s q b e =
    let u = un-told settle_style (run (step l) put last before (parts s)) 16 q e in
    elim (headed 0 s b) [
      | inl k ↦
          let r = k.rec in
          let z = sizes_of r in
          let t = parts_from 0 (0 + size r) k.after in
          let o : on_turn (step l) put last (λ st. run (step l) put last st t) before 0 r t (step l before r) ≡ refused 16 q =
          subst (λ (t : Parts). run (step l) put last before t ≡ refused 16 q) (ap (parts_from 0 0) k.spelled ∙ part-written r 0 k.after k.fits) u in
          elim (demanded 16 (sizes_demands l r) (next (inside (started z))) refl) [
            | inr d ↦ absurd (d.1 (told-number d.0 0 16 q (rw d.2 at o)).0)
            | inl d ↦ elim (judged (sizes_demands l r) (next (inside (started z)))) [
              | inr m ↦ let c : ◌≡◌ {A = ℕ} 0 1 = cc in absurd (omega arith)
              | inl m ↦
                  let g = small z m.0.1.0 in
                  told-hangs l s q k m.0 (calm-bytes l q k.after k.bytes_after (0 + size r) (started z) refl
                  (record { states = omega arith; variables = omega arith; none = λ v. (refl, refl) })
                  (un-told (put before r) (run (step l) put last (inside (started z)) t) 16 q (rw d at o)))
            ]
          ]
      | inr k ↦ elim k [
        | inl i ↦ absurd (let c = (told-number 1 0 16 q (rw i at u)).0 in omega arith)
        | inr i ↦ absurd (let c = (told-number 1 0 16 q (rw i at u)).0 in omega arith)
      ]
    ]

-- None of the records says that the model is live.
abbrev Unflagged : List Rec → Type 0
Unflagged [] = Unit {0}
Unflagged (r ∷ rs) = (r.kind ≡ 10 → ⊥) × Unflagged rs

both : (rs ts : List Rec) → Unflagged rs → Unflagged ts → Unflagged (rs ++ ts)
both [] ts h k = k
both (r ∷ rs) ts h k = (h.0, both rs ts h.1 k)

-- It is so of labels, equations and moves.
labels-free : (s : ℕ) (ls : List ℕ) → Unflagged (label_recs s ls)
labels-free s [] = tt
labels-free s (zero ∷ ls) = labels-free (suc s) ls
labels-free s (suc v ∷ ls) = (λ e. omega arith, labels-free (suc s) ls)

equations-free : (b : ℕ) (es : List Equation) → Unflagged (equation_recs b es)
equations-free b [] = tt
equations-free b (e ∷ es) =
    elim (tell true (eqb (suc e.block) b)) [
      | inl t ↦ rw t (λ k. omega arith, equations-free b es)
      | inr t ↦ rw t (λ k. omega arith, (λ k. omega arith, equations-free (suc e.block) es))
    ]

signs-free : (es : List Equation) → Unflagged (signed_recs es)
signs-free [] = tt
signs-free (e ∷ es) = (λ k. omega arith, signs-free es)

style-free : (z : Sizes) (es : List Equation) → Unflagged (style_recs z es)
style-free z es =
    elim (tell true (signed z)) [
      | inl t ↦ rw t (signs-free es)
      | inr t ↦ rw t (equations-free 0 es)
    ]

moves-free : (ms : List ℕ) → Unflagged (move_recs ms)
moves-free [] = (λ e. omega arith, tt)
moves-free (q ∷ ms) = (λ e. omega arith, moves-free ms)

body-free : (m : Model) → Unflagged (body m)
body-free m =
    both (label_recs 0 m.labels) _ (labels-free 0 m.labels)
    (both (style_recs m.sizes m.equations) (move_recs m.moves) (style-free m.sizes m.equations) (moves-free m.moves))

module _ (l : Lengths) where
  -- The end record of a live model in which some state has no move.
  end-run : (x : Sofar) (r : Rec) (p : ℕ) (t : Parts) (u v : Turn State) → v ≡ over → Beside x r u v → (r.kind ≡ 10 → ⊥)
      → eqb x.moves.moving x.sizes.states ≡ false → on_turn (step l) put last (λ st. run (step l) put last st t) (inside x) p r t u ≡ refused 16 p
  end-run x r p t u v k (refuses f) g h = let z : ◌≡◌ {A = ℕ} 0 1 = cc in absurd (omega arith)
  end-run x r p t u v k (points f) g h = let z : ◌≡◌ {A = ℕ} 0 1 = cc in absurd (omega arith)
  end-run x r p t u v k (goes a b c d) g h = let z : ◌≡◌ {A = ℕ} 0 1 = cc in absurd (omega arith)
  end-run x r p t u v k (hangs a f) g h = refl
  end-run x r p t u v k (closes f) g h = absurd (true≢false (sym f ∙ h))
  end-run x r p t u v k (flagged a) g h = absurd (g a)

  -- A record before it.
  on-run : (x : Sofar) (r : Rec) (p q : ℕ) (b : Model) (t : Parts) (st : State) (u v : Turn State) → v ≡ next st → Beside x r u v → (r.kind ≡ 10 → ⊥)
      → ((y : Sofar) → st ≡ inside (calm y) → y.live ≡ 1 → eqb (moving_over y.moves.moving b.moves) y.sizes.states ≡ false → run (step l) put last (inside y) t ≡ refused 16 q)
      → eqb (moving_over x.moves.moving (put (inside (calm x)) r b).moves) x.sizes.states ≡ false
      → on_turn (step l) put last (λ st. run (step l) put last st t) (inside x) p r t u ≡ refused 16 q
  on-run x r p q b t st u v k (refuses f) g ih h = let z : ◌≡◌ {A = ℕ} 0 1 = cc in absurd (omega arith)
  on-run x r p q b t st u v k (points f) g ih h = let z : ◌≡◌ {A = ℕ} 0 1 = cc in absurd (omega arith)
  on-run x r p q b t st u v k (goes {y = y} a e c d) g ih h =
      let s : st ≡ inside (calm y) = cc in
      ap (onto (put (inside x) r)) (ih y s a (ap₂ (λ (k : ℕ) (z : Sizes). eqb k z.states) (c b) e ∙ h))
  on-run x r p q b t st u v k (hangs a f) g ih h = let z : ◌≡◌ {A = ℕ} 0 1 = cc in absurd (omega arith)
  on-run x r p q b t st u v k (closes f) g ih h = let z : ◌≡◌ {A = ℕ} 0 1 = cc in absurd (omega arith)
  on-run x r p q b t st u v k (flagged a) g ih h = absurd (g a)

  -- Only the end record ends a reading.
  end-kind : (x : Sofar) (r : Rec) → Stepped l x r over → r.kind ≡ 6
  end-kind x r (end k d) = k

  -- Records that are passed where the model is not said to be live are refused with 16 at the last where it is.
  live-run : {st : State} {rs : List Rec} {b : Model} → Walks (step l) put last st rs b → (x : Sofar) → st ≡ inside (calm x) → x.live ≡ 1 → AllWritable rs → Unflagged rs
      → eqb (moving_over x.moves.moving b.moves) x.sizes.states ≡ false → (p : ℕ) (rest : List ℕ)
      → run (step l) put last (inside x) (parts_from 0 p (bytes_of rs ++ rest)) ≡ refused 16 (p + size_all rs - 1)
  unfolding run last widths
  live-run (done {r = r} e b) x s h w f g p rest =
      let k : step l (inside (calm x)) r ≡ over = rw s at e in
      let n : eqb x.moves.moving x.sizes.states ≡ false = rw (b, s) at g in
      let o = end-size r 6 (end-kind (calm x) r (rw k at (stepped l (calm x) r))) refl in
      let z : p + (size r + 0) - 1 ≡ p = omega arith in
      rw (append_assoc (bytes r) [] rest, part-written r p rest w.0, z) (end-run x r p (parts_from 0 (p + size r) rest) (step l (inside x) r) _ k (beside l x r h) f.0 n)
  live-run (more {st' = st'} r {rs = rs} {b' = b'} e t b) x s h w f g p rest =
      let k : step l (inside (calm x)) r ≡ next st' = rw s at e in
      let n : eqb (moving_over x.moves.moving (put (inside (calm x)) r b').moves) x.sizes.states ≡ false = rw (b, s) at g in
      let z : p + (size r + size_all rs) - 1 ≡ p + size r + size_all rs - 1 = omega arith in
      rw (append_assoc (bytes r) (bytes_of rs) rest, part-written r p (bytes_of rs ++ rest) w.0, z)
      (on-run x r p _ b' (parts_from 0 (p + size r) (bytes_of rs ++ rest)) st' (step l (inside x) r) _ k (beside l x r h) f.0
      (λ y i a c. live-run t y i a w.1 f.1 c (p + size r) rest) n)

-- Such bytes are refused with 16 at q.
sixteen-in : (l : Lengths) (s : List ℕ) (q : ℕ) → HangsAt l s q → read_model l s ≡ refused 16 q
unfolding read_model run records well_formed step put widths
sixteen-in l s q h =
    let m = h.model in
    let z = m.sizes in
    let k = simp and_is at h.formed in
    let fits = records-w (still m) h.formed in
    let first : step l before (sizes_rec z) ≡ next (inside (started z)) = met (sizes_demands l (sizes_rec z)) _ (refl, (k.0.0.0.0.0, (h.rooms, tt))) in
    let S = bytes (sizes_rec z) in
    let spelled : s ≡ S ++ (bytes live_rec ++ (bytes_of (body m) ++ h.rest)) =
    h.spelled ∙ ap (λ (b : ℕ). bytes_of (sizes_rec z ∷ (live_recs b ++ body m)) ++ h.rest) h.live
    ∙ append_assoc S (bytes live_rec ++ bytes_of (body m)) h.rest ∙ ap (λ (t : List ℕ). S ++ t) (append_assoc (bytes live_rec) (bytes_of (body m)) h.rest) in
    let long = all-length (sizes_rec z ∷ (live_rec ∷ body m)) (fits.0, ((refl, tt), fits.1)) in
    let whole : length (encode m) ≡ length (bytes_of (sizes_rec z ∷ (live_rec ∷ body m))) = ap (λ (b : ℕ). length (bytes_of (sizes_rec z ∷ (live_recs b ++ body m)))) h.live in
    let one = end-size live_rec 10 refl refl in
    let p = 0 + size (sizes_rec z) + size live_rec in
    let at : p + size_all (body m) - 1 ≡ q = let o = h.place in omega arith in
    let r = live-run l (walks-labels l (still m) h.formed h.room) (opened z 1) refl refl fits.1 (body-free m) (not-all m h.formed ∙ h.hanging) p h.rest in
    ap (read_model l) spelled
    ∙ rw (part-written (sizes_rec z) 0 (bytes live_rec ++ (bytes_of (body m) ++ h.rest)) fits.0, first, part-written live_rec (0 + size (sizes_rec z)) (bytes_of (body m) ++ h.rest) (refl, tt), r, at) refl

-- A load is refused with 16 at the place q exactly where the bytes begin with the spelling of a live model that is inside the
-- limits, but that some state has no move, and q is the place of its end record. What follows is not looked at.
pub sixteen-exact : (l : Lengths) (s : List ℕ) (q : ℕ) → AreBytes s → (read_model l s ≡ refused 16 q) ↔ HangsAt l s q
sixteen-exact l s q b = (sixteen-out l s q b, sixteen-in l s q)
