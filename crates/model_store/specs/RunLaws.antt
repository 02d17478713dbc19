-- Labels, equations and moves stored in one go: each label and each equation of a block as by a turn of its own, and all moves
-- up to the end. Assumes nothing.
use Rattle.std.specs.Prelude.{◌≡◌, List, [], ◌∷◌, ltb, length, set, Some, None, Result}
use Rattle.std.proofs.Math.Path.{refl, sym, ap}
use Rattle.std.proofs.Common.{◌∙◌, length-set}
use Rattle.std.proofs.Math.Logic.{inl, inr}
use Rattle.std.proofs.Math.Bool.{true}
use Prim.Native.Nat.{ℕ, zero, suc, ◌+◌, ◌-◌, ◌*◌, ◌/◌, ◌≤◌, ◌<◌}
use native.Mathlib.Omega.{arith}
use Rattle.std.proofs.lemmas.List.Edits.{sets}
use Rattle.std.proofs.Math.Seq.{length-sets}
use Rattle.lists.specs.Tests.{tests, tell, ltb-is, ltb_no}
use Rattle.rules.specs.Load.{Sofar, State, inside, moves_due, put, last, after_move}
use Rattle.rules.specs.Model.{Model, move_ok}
use Rattle.rules.specs.Moves.{wrap}
use Rattle.words.specs.Words.{pack_of}
use Rattle.rules.specs.Records.{Turn, accepted, on_turn, at_end, run, numbers_of, widths}
use Rattle.rules.specs.Rooms.{Lengths}
use Rattle.rules.specs.declared.Record.{Record}
use Rattle.rules.specs.declared.Record.TheVariants as R
use Rattle.rules.specs.declared.Sizes.{Sizes}
use Rattle.laws.specs.bytes.RecordLaws.{un-onto, never}
use Rattle.bytes_read.specs.PartsAt.{parts_at, PartsBy, parts-at, read_there}
use Rattle.bytes_read.specs.Places.{le16, le32, move_at, body_len, record_of, record_at, Read}
use Rattle.model_runs.specs.Runs.{GoodLabel, with_label, GoodEquation, with_equation, Equated}
use Rattle.model_runs.specs.Runs as Run
use Rattle.model_runs.specs.declared.LabelRun.{LabelRun}
use Rattle.model_runs.specs.declared.EquationRun.{EquationRun}
use Rattle.model_judge.specs.Due.{all_read}
use Rattle.model_judge.specs.Going.{Inside, InsideTurn, Follows}
use Rattle.model_judge.specs.GoingLaws.{turned-inside}
use Rattle.model_judge.specs.Passing.{LabelsKept, EquationsKept, label_run, with_labels, block_end, equation_at, equation_run, with_equations}
use Rattle.model_judge.specs.PassingLaws.{label-goes, equated-on, equations-kept, equations-inside, equation-goes}
use Rattle.model_judge.specs.Plain.{plain}
use Rattle.model_judge.specs.Progress.{sofar_of, Kept, LabelsDue, MovesDue}
use Rattle.model_judge.specs.RecordTurns.{Stepped, label, block, equation, move, end, lives, sign, refusal, stepped, step_kept}
use Rattle.model_judge.specs.Turning.{read_on, OneTurn, go}
use Rattle.model_judge.specs.declared.progress.Progress.{Progress}
use Rattle.model_judge.specs.declared.Summary.{Summary}
use Rattle.std.specs.declared.ops.ControlFlow.TheVariants.{Continue, Break}
use Rattle.rules.specs.declared.Refused.{Refused}
use Rattle.model_store.specs.StoreLaws.{here-goes, storing-next, storable-next}
use Rattle.model_store.specs.Stored.{Stored, three, put_rooms, put_turn, laid, Here, StoresAt, Stores, StorableTurn, RunStored, RunOver, label_put, LabelsPut, EquationsPut, moves_from, equation_put}
use Rattle.model_store.specs.Stored as Put

-- One more move of a list of them, and none.
pub moves-step : (s room : List ℕ) (p from i n : ℕ) → i < n
    → sets room (from + i) (moves_from s (p + 6 * i) (n - i)) ≡ sets (set room (from + i) (wrap (pack_of (move_at s (p + 6 * i + 1))))) (from + (i + 1)) (moves_from s (p + 6 * (i + 1)) (n - (i + 1)))
moves-step s room p from i n h =
    let e : n - i ≡ suc (n - (i + 1)) = omega arith in
    let f : from + (i + 1) ≡ suc (from + i) = omega arith in
    let g : p + 6 * (i + 1) ≡ p + 6 * i + 6 = omega arith in
    rw (e, f, g) refl

pub moves-end : (s room : List ℕ) (p from i n : ℕ) → n ≤ i → sets room (from + i) (moves_from s (p + 6 * i) (n - i)) ≡ room
moves-end s room p from i n h = let e : n - i ≡ 0 = omega arith in rw e refl

-- While labels are put: the place lies in the bytes, the room is as long as it was, and good labels lead to here.
abbrev pub LabelsSofar : List ℕ → Sizes → LabelRun → List ℕ → LabelRun → List ℕ → Type 0
LabelsSofar s z x ls y ms = (y.at ≤ length s) × (length ms ≡ length ls) × LabelsPut s z x ls y ms

-- One more good label, put.
pub labels-more : (s : List ℕ) (z : Sizes) (x y w : LabelRun) (ls ms ks : List ℕ) → LabelsSofar s z x ls y ms → GoodLabel s z y → (w ≡ with_label s y) × (ks ≡ label_put s y ms)
    → LabelsSofar s z x ls w ks × (length s - w.at < length s - y.at)
labels-more s z x y w ls ms ks h g e =
    let k = g.inside_bytes in
    rw (e.0, e.1) ((k, simp (length-set, length-sets) h.1, Put.more y ms h.2 g), omega arith)

-- The same of the equations of a block.
abbrev pub EquationsSofar : List ℕ → Progress → ℕ → List ℕ → EquationRun → List ℕ → Type 0
EquationsSofar s x n es y fs = (y.at ≤ length s) × (y.due ≤ x.blocks.due) × (length fs ≡ length es) × EquationsPut s x n es y fs

pub equations-more : (s : List ℕ) (x : Progress) (n : ℕ) (y w : EquationRun) (es fs ks : List ℕ) → EquationsSofar s x n es y fs → GoodEquation s x.sizes (block_end x) y → (w ≡ with_equation y) × (ks ≡ equation_put s x y fs)
    → EquationsSofar s x n es w ks × (length s - w.at < length s - y.at)
equations-more s x n y w es fs ks h g e =
    let k = g.inside_bytes in
    let d = h.1 in
    rw (e.0, e.1) ((k, omega arith, simp length-set h.2, Put.more y fs h.3 g), omega arith)

-- A good label more.
label-here : (l : Lengths) (s : List ℕ) (t₀ : Stored) (x : Progress) (y : LabelRun) (ls es ms : List ℕ) (p : LabelsKept x y) → LabelsDue x → GoodLabel s x.sizes y
    → Here l s t₀ (sofar_of (with_labels x y p)) y.at (three ls es ms)
    → (q : LabelsKept x (with_label s y)) × Here l s t₀ (sofar_of (with_labels x (with_label s y) q)) (y.at + 7) (three (label_put s y ls) es ms)
unfolding put_rooms
label-here l s t₀ x y ls es ms p due g h =
    let w = label-goes l s (with_labels x y p) y.at due g in
    (w.0, here-goes l s t₀ (with_labels x y p) (with_labels x (with_label s y) w.0) y.at (y.at + 7) (R.Label (record { 0 = le16 s (y.at + 1) }) (le32 s (y.at + 3))) (three ls es ms) h p w.1)

-- All good labels.
labels-here : (l : Lengths) (s : List ℕ) (t₀ : Stored) (x : Progress) (n : ℕ) (ls es ms : List ℕ) (y : LabelRun) (ks : List ℕ) → Inside s x n → LabelsDue x
    → LabelsPut s x.sizes (label_run x n) ls y ks → Here l s t₀ (sofar_of x) n (three ls es ms)
    → (p : LabelsKept x y) × Inside s (with_labels x y p) y.at × (n ≤ y.at) × Here l s t₀ (sofar_of (with_labels x y p)) y.at (three ks es ms)
labels-here l s t₀ x n ls es ms y ks i due Put.none h = (x.kept, i, omega arith, h)
labels-here l s t₀ x n ls es ms y ks i due (Put.more z js p g) h =
    let a = labels-here l s t₀ x n ls es ms z js i due p h in
    let b = label-here l s t₀ x z js es ms a.0 due g a.3 in
    let o = a.2 in
    let w = a.1.begun in
    (b.0, record { kept = b.0; begun = omega arith; inside_bytes = g.inside_bytes }, omega arith, b.1)

pub labels-stored : (s : List ℕ) (r : Record) (x : Progress) (n : ℕ) (ls es ms : List ℕ) (y : LabelRun) (q : LabelsKept x y) (ks : List ℕ) → Inside s x n → LabelsDue x
    → LabelsPut s x.sizes (label_run x n) ls y ks → RunStored s (go r x n) (three ls es ms) (go r (with_labels x y q) y.at) (three ks es ms)
labels-stored s r x n ls es ms y q ks i due p l t₀ g =
    let a = labels-here l s t₀ x n ls es ms y ks i due p g.holds in
    let o = a.2 in
    let b = a.1.begun in
    let j = a.1.inside_bytes in
    (record { inside = record { kept = q; begun = b; inside_bytes = j }; holds = a.3 }, omega arith)

-- Labels that are put leave the numbers inside their limits.
pub put-labels-kept : (s : List ℕ) (x : Progress) (n : ℕ) (ls : List ℕ) (y : LabelRun) (ks : List ℕ) → LabelsDue x → LabelsPut s x.sizes (label_run x n) ls y ks → LabelsKept x y
put-labels-kept s x n ls y ks due Put.none = x.kept
put-labels-kept s x n ls y ks due (Put.more z js p g) =
    let k = put-labels-kept s x n ls z js due p in
    let h = g.state in omega arith

-- Equations that are put are good.
put-equated : (s : List ℕ) (x : Progress) (n : ℕ) (es : List ℕ) (y : EquationRun) (fs : List ℕ) → EquationsPut s x n es y fs → Equated s x.sizes (block_end x) (equation_run x n) y
put-equated s x n es y fs Put.none = Run.none
put-equated s x n es y fs (Put.more z gs p g) = Run.more z (put-equated s x n es z gs p) g

-- After them the reading stands between two turns.
pub put-inside : (s : List ℕ) (x : Progress) (n : ℕ) (es : List ℕ) (y : EquationRun) (q : EquationsKept x y) (fs : List ℕ) → Inside s x n → EquationsPut s x n es y fs → (y.due ≤ x.blocks.due) × (n ≤ y.at) × Inside s (with_equations x y q) y.at
put-inside s x n es y q fs i p = equations-inside s x n y q i (put-equated s x n es y fs p)

-- No more equations are due than before.
pub put-fewer : (s : List ℕ) (x : Progress) (n : ℕ) (es : List ℕ) (y : EquationRun) (fs : List ℕ) → Inside s x n → EquationsPut s x n es y fs → y.due ≤ x.blocks.due
put-fewer s x n es y fs i p = (equated-on s x n y (put-equated s x n es y fs p) i.inside_bytes).0

-- All good equations of a block.
equations-here : (l : Lengths) (s : List ℕ) (t₀ : Stored) (x : Progress) (n : ℕ) (ls es ms : List ℕ) (y : EquationRun) (q : EquationsKept x y) (fs : List ℕ) → Inside s x n → EquationsPut s x n es y fs
    → Here l s t₀ (sofar_of x) n (three ls es ms) → Here l s t₀ (sofar_of (with_equations x y q)) y.at (three ls fs ms)
unfolding put_rooms
equations-here l s t₀ x n ls es ms y q fs i Put.none h = let e : block_end x - x.blocks.due ≡ x.blocks.equations = omega arith in rw e h
equations-here l s t₀ x n ls es ms y q fs i (Put.more z gs p g) h =
    let a = put-fewer s x n es z gs i p in
    let w = equations-kept x z a in
    here-goes l s t₀ (with_equations x z w) (with_equations x (with_equation z) q) z.at (z.at + 4) (equation_at s z.at) (three ls gs ms)
    (equations-here l s t₀ x n ls es ms z w gs i p h) w (equation-goes l s x z w q a g)

-- Stored in one go, they move the turn on.
pub equations-stored : (s : List ℕ) (r : Record) (x : Progress) (n : ℕ) (ls es ms : List ℕ) (y : EquationRun) (q : EquationsKept x y) (fs : List ℕ) → Inside s x n → EquationsPut s x n es y fs
    → RunStored s (go r x n) (three ls es ms) (go r (with_equations x y q) y.at) (three ls fs ms)
equations-stored s r x n ls es ms y q fs i p l t₀ g =
    let a = put-inside s x n es y q fs i p in
    let o = a.1 in
    (record { inside = a.2; holds = equations-here l s t₀ x n ls es ms y q fs i p g.holds }, omega arith)

-- A model of moves and nothing else.
abbrev moves_only : Sofar → List ℕ → Model
moves_only x ms = record { sizes = x.sizes; live = x.live; labels = []; equations = []; moves = ms }

module _ (l : Lengths) (s : List ℕ) where
  -- Where moves are due less than f bytes before the end, an accepted rest is the moves that stand there, and nothing else.
  abbrev Rest : ℕ → Type 0
  Rest f = (x : Sofar) (p : ℕ) (n : Model) → Kept x → moves_due x ≡ true → length s < p + f → read_on l s (inside x) p ≡ accepted n → n ≡ moves_only x (moves_from s p ((length s - p) / 6))

  -- Nothing stands after the end record.
  at-end : (x : Sofar) (k : ℕ) (n : Model) (rd : Read) → PartsBy s k rd → at_end (plain l) put last (inside x) (parts_at s k) ≡ accepted n → (length s ≤ k) × (n ≡ moves_only x [])
  unfolding last
  at-end x k n (Some (r, j)) h e = absurd (never (rw h.2 at e))
  at-end x k n None h e =
      elim (tell true (ltb k (length s))) [
        | inl t ↦ absurd (never (rw (h, t) at e))
        | inr t ↦ let w : accepted (moves_only x []) ≡ accepted n = rw (h, t) at e in ((ltb_no k (length s)).0 t, cc)
      ]

  -- One record of such a rest: a move, or the end.
  rest-turn : (f : ℕ) → Rest f → (x : Sofar) (p k : ℕ) (n : Model) (r : Record) (t : Turn State) → Kept x → moves_due x ≡ true → length s < p + suc f → record_at s p ≡ Some (r, k) → p < k → k ≤ length s
      → plain l (inside x) (numbers_of r) ≡ t → Stepped l x r t
      → on_turn (plain l) put last (λ st. run (plain l) put last st (parts_at s k)) (inside x) p (numbers_of r) (parts_at s k) t ≡ accepted n → n ≡ moves_only x (moves_from s p ((length s - p) / 6))
  unfolding read_on put move_ok body_len widths record_of
  rest-turn f ih x p k n r t kept due h got a b q (label c v m) e = let w = simp tests at m.0 in let d = all_read x due in absurd (omega arith)
  rest-turn f ih x p k n r t kept due h got a b q (block c v m) e = let w = simp tests at m.0 in let d = all_read x due in absurd (omega arith)
  rest-turn f ih x p k n r t kept due h got a b q (equation o c v m) e = let w = (ltb-is 0 x.blocks.due).0 m.0 in let d = all_read x due in absurd (omega arith)
  rest-turn f ih x p k n r t kept due h got a b q (lives m) e = let w = simp tests at m.0 in let d = all_read x due in absurd (omega arith)
  rest-turn f ih x p k n r t kept due h got a b q (sign o c v w m) e = let w = simp tests at m.0 in let d = all_read x due in absurd (omega arith)
  rest-turn f ih x p k n r t kept due h got a b q refusal e = absurd (never e)
  rest-turn f ih x p k n r t kept due h got a b q (end m) e =
      let w = (read_there s p k R.End got).next in
      let z = at-end x k n (record_at s k) (parts-at s k) e in
      let g : (length s - p) / 6 ≡ 0 = let y = z.0 in omega arith in
      z.1 ∙ sym (ap (λ (i : ℕ). moves_only x (moves_from s p i)) g)
  rest-turn f ih x p k n r t kept due h got a b q (move v m) e =
      let w = read_there s p k (R.Move v) got in
      let at : k ≡ p + 6 = let y = w.next in omega arith in
      let is : v ≡ move_at s (p + 1) = let y : R.Move v ≡ R.Move (move_at s (p + 1)) = w.is in cc in
      let u = un-onto (plain l) put last (put (inside x) (numbers_of (R.Move v))) _ n e in
      let z = ih (after_move x (pack_of v)) k u.0 (step_kept l x (after_move x (pack_of v)) (R.Move v) kept q) due (omega arith) u.1 in
      let fits = simp tests at m.1.0 in
      let small : wrap (pack_of v) ≡ pack_of v = omega arith in
      let g : (length s - p) / 6 ≡ suc ((length s - (p + 6)) / 6) = omega arith in
      let c : n ≡ moves_only x (pack_of v ∷ moves_from s k ((length s - k) / 6)) = u.2 ∙ ap (λ (o : Model). put (inside x) (numbers_of (R.Move v)) o) z in
      let d : n ≡ moves_only x (wrap (pack_of v) ∷ moves_from s (p + 6) ((length s - (p + 6)) / 6)) = c ∙ rw (small, at) refl in
      d ∙ rw (is, g) refl

  rest_read : (f : ℕ) → Rest f → (x : Sofar) (p : ℕ) (n : Model) (rd : Read) → Kept x → moves_due x ≡ true → length s < p + suc f → record_at s p ≡ rd → PartsBy s p rd → read_on l s (inside x) p ≡ accepted n
      → n ≡ moves_only x (moves_from s p ((length s - p) / 6))
  unfolding read_on run
  rest_read f ih x p n (Some (r, k)) kept due h got w e =
      rest-turn f ih x p k n r (plain l (inside x) (numbers_of r)) kept due h got w.0 w.1 refl (stepped l x r) (rw w.2 at e)
  rest_read f ih x p n None kept due h got w e =
      elim (tell true (ltb p (length s))) [
        | inl t ↦ absurd (never (rw (w, t) at e))
        | inr t ↦ absurd (never (rw (w, t) at e))
      ]

  rest-past : (x : Sofar) (p : ℕ) (n : Model) (rd : Read) → length s < p + 0 → PartsBy s p rd → read_on l s (inside x) p ≡ accepted n → ⊥
  unfolding read_on run
  rest-past x p n (Some (r, k)) h w e = let a = w.0 in let b = w.1 in omega arith
  rest-past x p n None h w e =
      elim (tell true (ltb p (length s))) [
        | inl t ↦ never (rw (w, t) at e)
        | inr t ↦ never (rw (w, t) at e)
      ]

  rest-is : (f : ℕ) → Rest f
  rest-is zero x p n kept due h e = absurd (rest-past x p n (record_at s p) h (parts-at s p) e)
  rest-is (suc f) x p n kept due h e = rest_read f (rest-is f) x p n (record_at s p) kept due h refl (parts-at s p) e

-- All moves, stored in one go: the reading is over.
pub moves-stored : (s : List ℕ) (r : Record) (x : Progress) (n : ℕ) (ls es ms : List ℕ) (a : Result Summary Refused) → Inside s x n → MovesDue x
    → RunStored s (go r x n) (three ls es ms) (Break a) (three ls es (sets ms x.moves.count (moves_from s n ((length s - n) / 6))))
unfolding laid
moves-stored s r x n ls es ms a i due l t₀ g = (
  record {
    inside = tt;
    holds = λ m w.
        let b = g.holds m w in
        let e = rest-is l s (suc (length s)) (sofar_of x) n b.0 i.kept due (omega arith) b.1 in
        sym (ap (λ (v : Model). laid (sofar_of x) v (three ls es ms)) e) ∙ b.2;
  },
  omega arith,
)

-- Nothing, stored.
pub none-stored : (s : List ℕ) (u : OneTurn) (h : Stored) → RunStored s u h u h
none-stored s u h l t₀ g = (g, omega arith)

-- One run after another.
pub stored_more : (s : List ℕ) (u v w : OneTurn) (h k m : Stored) → RunStored s u h v k → RunStored s v k w m → RunStored s u h w m
stored_more s u v w h k m f e l t₀ g =
    let a = f l t₀ g in
    let b = e l t₀ a.0 in
    let p = a.1 in
    let q = b.1 in
    (b.0, omega arith)

-- A turn, and what is stored after it.
pub follows-inside : (l : Lengths) (s : List ℕ) (read : Read) (t u : OneTurn) → StoresAt s read t → Follows l read t (length s) u → InsideTurn s u
follows-inside l s read (Break a) u d f = rw f tt
follows-inside l s read (Continue h) u d f = turned-inside l s (inside (sofar_of h.so_far)) h.at u (f s d.1 refl)

pub follows-storable : (l : Lengths) (s : List ℕ) (read : Read) (t u : OneTurn) → StoresAt s read t → Follows l read t (length s) u → StorableTurn u
follows-storable l s read (Break a) u d f = rw f tt
follows-storable l s read (Continue h) u d f = storable-next l s h.so_far h.at u d.0.1 (f s d.1 refl)

pub stores-turn : (l : Lengths) (s : List ℕ) (read : Read) (t u v : OneTurn) (h k m : Stored) → StoresAt s read t → Follows l read t (length s) u → k ≡ put_turn t u h
    → RunOver s u k v m → Stores l s t h v m
stores-turn l s read t u v h k m d f e r t₀ g nz =
    let a = storing-next l s t₀ t u h read g nz d.1 f in
    let b = r.0 l t₀ (rw (← e) at a.0) in
    let p = a.1 in
    let q = b.1 in
    (record { going = (b.0.inside, r.1); holds = b.0.holds }, omega arith)
