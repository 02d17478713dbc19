-- A model with blocks, rewritten with signs: it is inside the limits, and it has the same values. Its components lie within
-- its blocks. Assumes nothing.
use Rattle.std.specs.Prelude.{◌≡◌, refl, Bool, true, false, ◌&&◌, ℕ, zero, suc, ◌/◌, ◌≤◌, ◌<◌, length, ltb, leb}
use Rattle.std.proofs.Math.Path.{sym, ap, fun_ext}
use Rattle.std.proofs.Common.{◌∙◌, subst, le_refl, div-lt_iff_lt-mul, arith}
use Rattle.std.proofs.Math.Bool.{not, cond, true≢false}
use mathlib.Core.List.{List, [], ◌∷◌}
use Rattle.std.proofs.Math.Dec.{eqb}
use Rattle.lists.specs.Lists.{bit, fill, some_below}
use Rattle.lists.specs.TableLaws.{listed_same}
use Rattle.lists.specs.Smallest.{at}
use Rattle.lists.specs.Tests.{not-out, no_way, and_in, and_is, eqb-in}
use Rattle.lists.specs.Ranges.{some_out}
use Rattle.systems.specs.solution.System.{Leans, Fits}
use Rattle.systems.specs.solution.System as S
use Rattle.systems.specs.solution.FinerBlocks.{Finer, finer-solve}
use Rattle.rules.specs.Limits.{sizes_ok}
use Rattle.rules.specs.Chains.{together, mixed}
use Rattle.rules.specs.Moves.{source, action, target}
use Rattle.rules.specs.Model.{Model, label_ok, move_ok, moves_ok, operands_ok, sign_ok, equation_in, names_in, guilty, component_in, numbered, placed, style_ok, blocks_of, well_formed, WellFormed}
use Rattle.rules.specs.declared.Equation.{Equation}
use Rattle.rules.specs.Rooms.{Rooms, lengths_of, pairs_of, rooms_ok, work_ok, lent_ok}
use Rattle.rules.specs.Spelling.{encode}
use Rattle.rules.specs.Calls.{Left, bits, load}
use Rattle.rules.specs.declared.Session.{Session}
use Rattle.rules.specs.Values.{Term, constant, proposition, join, step, term_of, term_at, state_of, block_of, greatest, leanings_by, leanings, solve}
use Rattle.rules.specs.Batch.{Change}
use Rattle.rules.specs.Update.{changed}
use Rattle.rules.specs.declared.State.{State}
use Rattle.rules.specs.declared.Sizes.{Sizes}
use Rattle.laws.specs.chains.ChainLaws.{Leadsto, stop, go, Inside, together-out}
use Rattle.laws.specs.chains.Components.{component-own, together-from, together-back}
use Rattle.laws.specs.chains.Placed.{numbered-length, numbered_is, Signs, signs-in, placed-signs}
use Rattle.laws.specs.chains.Named.{block_at, member-names, NamesWell, names-well, style-sign, signs-inside}
use Rattle.laws.specs.chains.OneKind.{kind_at, OneKind, one-kind, greatest-is}
use Rattle.laws.specs.model.ModelSystem.{kind_by, frame, block-at, block_inside, Sound, sound, pairs-full, model-fits}
use Rattle.laws.specs.demands.ValuesSolve.{solve-same}
use Rattle.laws.specs.demands.LoadSolves.{load-accepts}

-- The sizes without blocks.
abbrev pub unblocked : Sizes → Sizes
unblocked z = record { states = z.states; actions = z.actions; propositions = z.propositions; variables = z.variables; blocks = 0 }

-- The model with a sign on each equation, which is the kind of its block.
abbrev pub rewritten : Model → Model
rewritten m = record { sizes = unblocked m.sizes; live = m.live; labels = m.labels; equations = placed m.equations; moves = m.moves }

-- Neither the test on sizes nor the one on moves asks for blocks.
sizes-same : (z : Sizes) → sizes_ok z ≡ true → sizes_ok (unblocked z) ≡ true
unfolding sizes_ok
sizes-same z h = let k = simp and_is at h in simp and_is (k.0, refl)

moves-same : (z : Sizes) (least : ℕ) (l : List ℕ) → moves_ok (unblocked z) least l ≡ moves_ok z least l
unfolding move_ok
moves-same z least [] = refl
moves-same z least (q ∷ l) = ap (λ (b : Bool). leb least q && move_ok z (source q) (action q) (target q) && b) (moves-same z (suc q) l)

-- Another number for its block changes nothing that an equation says.
term-same : (at : ℕ → ℕ) (i : ℕ) (es : List Equation) (x : ℕ) → term_of (equation_in (numbered at i es) x) ≡ term_of (equation_in es x)
term-same at i [] x = refl
term-same at i (e ∷ es) zero = refl
term-same at i (e ∷ es) (suc x) = term-same at (suc i) es x

-- A batch's changes and the rewriting may come in either order.
pub rewritten-changed : (cs : List Change) (m : Model) → rewritten (changed cs m) ≡ changed cs (rewritten m)
rewritten-changed cs m = refl

module _ (m : Model) (w : WellFormed m) where
  style : style_ok m.sizes m.equations ≡ true
  unfolding well_formed
  style = let k = simp and_is at w in k.0.0.1

  well : NamesWell m.sizes m.equations
  well = names-well m.sizes m.equations style

  good : (x : ℕ) → x < length m.equations → sign_ok (unblocked m.sizes) (equation_in m.equations x) ≡ true
  unfolding operands_ok
  good = style-sign m.sizes m.equations style

  inside : Inside (length m.equations) (names_in m.equations)
  inside = signs-inside (unblocked m.sizes) m.equations well.count good

  -- Chains go down the blocks, so that a component lies within one block.
  down : {x y : ℕ} → Leadsto (names_in m.equations) x y → x < length m.equations → block_at m.equations y ≤ block_at m.equations x
  down {x} stop h = le_refl (block_at m.equations x)
  down {x} (go {y = y} k r) h =
      let a = well.earlier x y h (member-names (equation_in m.equations x) y k) in
      let b = down r (inside x y h k) in
      omega arith

  one_block : (x y : ℕ) → together (length m.equations) (names_in m.equations) x y ≡ true → block_at m.equations x ≡ block_at m.equations y
  one_block x y e =
      let t = together-out (length m.equations) (names_in m.equations) inside x y e in
      let a = down t.0 (together-from (length m.equations) (names_in m.equations) inside x y e) in
      let b = down t.1 (together-from (length m.equations) (names_in m.equations) inside y x (together-back (length m.equations) (names_in m.equations) inside x y e)) in
      omega arith

  kinds : OneKind m.equations
  kinds = one-kind m.sizes m.equations style

  -- No closed chain holds both signs.
  pure : some_below (length m.equations) (guilty m.equations) ≡ false
  unfolding guilty mixed
  pure =
      no_way (some_below (length m.equations) (guilty m.equations)) (λ e.
      let t = some_out (length m.equations) (guilty m.equations) e in
      let x = t.0 in
      let u = some_out (length m.equations) (λ y. together (length m.equations) (names_in m.equations) x y && not (eqb (kind_at m.equations x) (kind_at m.equations y))) t.2 in
      let y = u.0 in
      let f = simp and_is at u.2 in
      let k = kinds x y t.1 u.1 (one_block x y f.0) in
      true≢false (sym (eqb-in _ _ k) ∙ not-out _ f.1))

  signs : Signs (unblocked m.sizes) (placed m.equations)
  signs = placed-signs (unblocked m.sizes) m.equations well.count good pure

  -- The rewritten model is inside the limits.
  pub rewritten-good : WellFormed (rewritten m)
  unfolding well_formed style_ok label_ok
  rewritten-good =
      let k = simp and_is at w in
      and_in (and_in (and_in (and_in (and_in (sizes-same m.sizes k.0.0.0.0.0) k.0.0.0.0.1) k.0.0.0.1) (signs-in (unblocked m.sizes) (placed m.equations) signs))
      (moves-same m.sizes 0 m.moves ∙ k.0.1)) (simp and_is k.1)

  -- Each pair has the equation and the leanings that it had.
  same-term : (p : ℕ) → term_at (rewritten m) p ≡ term_at m p
  unfolding term_at placed
  same-term p = term-same (component_in m.equations) 0 m.equations (p / m.sizes.states)

  leans-same : (s : State) (t : Term) → leanings_by (rewritten m) s t ≡ leanings_by m s t
  leans-same s (constant c) = refl
  leans-same s (proposition c q) = refl
  leans-same s (join k x y) = refl
  leans-same s (step k a x) = refl

  same-leanings : ◌≡◌ {A = Leans} (leanings (rewritten m)) (leanings m)
  unfolding leanings
  same-leanings =
      fun_ext (λ p. ap (λ (l : List ℕ). cond (ltb p (pairs_of m.sizes)) l [])
      (leans-same (state_of m.sizes p) (term_at (rewritten m) p) ∙ ap (leanings_by m (state_of m.sizes p)) (same-term p)))

  ok : Sound m
  ok = sound m w

  ok' : Sound (rewritten m)
  ok' = sound (rewritten m) rewritten-good

  var : (p : ℕ) → p < pairs_of m.sizes → p / m.sizes.states < length m.equations
  var p h = let v = (div-lt_iff_lt-mul ok.some).1 h in let c = well.count in omega arith

  -- The block of a pair of the rewritten model is its variable's component.
  new-block : (p : ℕ) → p < pairs_of m.sizes → block_of (rewritten m) p ≡ component_in m.equations (p / m.sizes.states)
  unfolding placed
  new-block p h =
      block-at (rewritten m) p h
      ∙ ap (λ (e : Equation). e.block) (numbered_is (component_in m.equations) m.equations (p / m.sizes.states) (var p h))

  new-kind : (x : ℕ) → x < length m.equations → kind_at (placed m.equations) x ≡ kind_at m.equations x
  unfolding placed
  new-kind x h = ap (λ (e : Equation). e.kind) (numbered_is (component_in m.equations) m.equations x h)

  new-length : length (placed m.equations) ≡ length m.equations
  unfolding placed
  new-length = numbered-length (component_in m.equations) 0 m.equations

  kinds' : OneKind (placed m.equations)
  unfolding well_formed
  kinds' = let k = simp and_is at rewritten-good in one-kind (unblocked m.sizes) (placed m.equations) k.0.0.1

  greatest-old : (p : ℕ) → p < pairs_of m.sizes → greatest m (block_of m p) ≡ eqb (kind_at m.equations (p / m.sizes.states)) 1
  unfolding greatest
  greatest-old p h = ap (greatest m) (block-at m p h) ∙ greatest-is m.equations kinds (p / m.sizes.states) (var p h)

  greatest-new : (p : ℕ) → p < pairs_of m.sizes → greatest (rewritten m) (block_of (rewritten m) p) ≡ eqb (kind_at m.equations (p / m.sizes.states)) 1
  unfolding greatest
  greatest-new p h =
      let x = p / m.sizes.states in
      ap (greatest (rewritten m)) (block-at (rewritten m) p h)
      ∙ greatest-is (placed m.equations) kinds' x (let v = var p h in let l = new-length in omega arith)
      ∙ ap (λ (k : ℕ). eqb k 1) (new-kind x (var p h))

  -- The components lie within the blocks, and have their kinds.
  finer : Finer (frame m) (frame (rewritten m))
  unfolding component_in
  finer = record {
    kind = λ p. ap (kind_by m.labels (state_of m.sizes p)) (same-term p);
    inside = λ p h. pairs-full m ok p (block_inside (rewritten m) p h);
    within = λ p q h e.
        let hp = block_inside (rewritten m) p h in
        let hq = block_inside (rewritten m) q (subst (λ (b : ℕ). b < blocks_of (rewritten m)) e h) in
        let t = component-own (length m.equations) (names_in m.equations) inside (p / m.sizes.states) (q / m.sizes.states) (var p hp) (var q hq)
        (sym (new-block p hp) ∙ e ∙ new-block q hq) in
        block-at m p hp ∙ one_block (p / m.sizes.states) (q / m.sizes.states) t ∙ sym (block-at m q hq);
    great = λ p h. let hp = block_inside (rewritten m) p h in greatest-new p hp ∙ sym (greatest-old p hp);
  }

  -- Every model inside the limits, rewritten with signs, has the same values at each pair.
  pub rewritten-values : (p : ℕ) → p < pairs_of m.sizes → at (solve (rewritten m)) p ≡ at (solve m) p
  rewritten-values p h =
      let fits : Fits (frame (rewritten m)) (leanings m) = subst (λ (l : Leans). Fits (frame (rewritten m)) l) same-leanings (model-fits (rewritten m) ok') in
      ap (λ (v : ℕ → Bool). v p) (solve-same (rewritten m))
      ∙ ap (λ (l : Leans). S.solve (frame (rewritten m)) l p) same-leanings
      ∙ sym (finer-solve (frame m) (frame (rewritten m)) (leanings m) (model-fits m ok) fits finer p (pairs-full (rewritten m) ok' p h))
      ∙ sym (ap (λ (v : ℕ → Bool). v p) (solve-same m))

  -- So a load of it leaves the same values, and the same labels and moves.
  pub rewritten-loads : (l : Rooms) → lent_ok (lengths_of l) m.sizes ≡ true → length m.moves ≤ length l.moves
      → ((load l (encode (rewritten m))).rooms.values ≡ (load l (encode m)).rooms.values)
      × ((load l (encode (rewritten m))).rooms.labels ≡ (load l (encode m)).rooms.labels)
      × ((load l (encode (rewritten m))).rooms.moves ≡ (load l (encode m)).rooms.moves)
  unfolding rooms_ok work_ok lent_ok
  rewritten-loads l r c =
      let a = load-accepts l (rewritten m) rewritten-good r c in
      let b = load-accepts l m w r c in
      let k = pairs_of m.sizes in
      let e : bits k (at (solve (rewritten m))) ≡ bits k (at (solve m)) =
      listed_same 0 k (λ p. bit (at (solve (rewritten m)) p)) (λ p. bit (at (solve m) p)) (λ p h. ap bit (rewritten-values p (omega arith))) in (
        ap (λ (x : Left Session Rooms). x.rooms.values) a ∙ ap (λ (v : List ℕ). fill v l.values) e ∙ sym (ap (λ (x : Left Session Rooms). x.rooms.values) b),
        ap (λ (x : Left Session Rooms). x.rooms.labels) a ∙ sym (ap (λ (x : Left Session Rooms). x.rooms.labels) b),
        ap (λ (x : Left Session Rooms). x.rooms.moves) a ∙ sym (ap (λ (x : Left Session Rooms). x.rooms.moves) b),
      )
