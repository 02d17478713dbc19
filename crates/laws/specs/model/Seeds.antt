-- The pairs from which a batch's shift starts, in the rule's words (a diamond gains an own move, a box loses one) and in
-- the system's (a pair leans on more, or on less, than before), are the same. Assumes nothing.
use Rattle.std.specs.Prelude.{◌≡◌, not, ◌&&◌, ◌||◌}
use Rattle.std.proofs.Math.Path.{refl, ap}
use Rattle.std.proofs.Common.{sym, ◌∙◌, subst, inl, inr, true≢false, arith}
use Rattle.std.proofs.Math.Bool.{Bool, true, false}
use mathlib.Core.List.Memᴰ
use mathlib.Core.List.{List}
use Prim.Native.Nat.{ℕ, ◌<◌}
use Rattle.lists.specs.Lists.{is, elem}
use Rattle.lists.specs.Tests.{◌∈◌, tests, tell, clash, no_way, is-in, is-out, and_in, and_left, and_right, or_left, or_right, or-out, any-in, any_out, elem_in, elem_out, same_test}
use Rattle.systems.specs.solution.System.{seeds}
use Rattle.systems.specs.moving.ShiftRule.{Seeds, seeds-in, seeds-out}
use Rattle.systems.specs.moving.ShiftRule as Sys
use Rattle.rules.specs.Moves.{action, target}
use Rattle.rules.specs.Model.{Model}
use Rattle.rules.specs.Rooms.{pairs_of}
use Rattle.rules.specs.Batch.{Change, inserts, deletes, edited}
use Rattle.rules.specs.Values.{Values, Term, constant, proposition, join, step, pair, state, state_of, term_at, own, targets, leanings_by, leanings}
use Rattle.rules.specs.Update.{changed, gains, loses}
use Rattle.rules.specs.declared.State.{State}
use Rattle.rules.specs.declared.Action.{Action}
use Rattle.rules.specs.declared.Variable.{Variable}
use Rattle.laws.specs.moves.Edits.{AllAre, Judged, edited-members}
use Rattle.laws.specs.model.ModelSystem.{kind_by, frame, leanings-at, targets-in, targets-out, Sound, NamedBy, named-below}

-- Two moves of one state with one action and one target are one move.
same_move : (s : State) (a : Action) (q r : ℕ) → own s a q ≡ true → own s a r ≡ true → target q ≡ target r → q ≡ r
same_move s a q r e f h = let k = simp tests at e in let l = simp tests at f in omega arith

all_are : (b : Bool) {q : ℕ} {ps : List ℕ} (ms : List ℕ) → AllAre b ps ms → q ∈ ps → elem q ms ≡ b
all_are b {q} ms a m = go m a
  where
    go : {ps : List ℕ} → q ∈ ps → AllAre b ps ms → elem q ms ≡ b
    go (Memᴰ.head e) a = ap (λ (x : ℕ). elem x ms) e ∙ a.0
    go (Memᴰ.tail m) a = go m a.1

-- What a judged batch does to a single move.
module _ (ms : List ℕ) (cs : List Change) (j : Judged ms cs) where
  pub insert-old : {q : ℕ} → q ∈ inserts cs → elem q ms ≡ false
  insert-old m = all_are false ms j.2 m

  pub insert-new : {q : ℕ} → q ∈ inserts cs → q ∈ edited cs ms
  insert-new {q} m = elem_out q (edited cs ms) (edited-members q ms cs ∙ or_left _ (elem_in m))

  pub delete-old : {q : ℕ} → q ∈ deletes cs → q ∈ ms
  delete-old {q} m = elem_out q ms (all_are true ms j.3 m)

  pub delete-new : {q : ℕ} → q ∈ deletes cs → elem q (edited cs ms) ≡ false
  delete-new {q} m = no_way (elem q (edited cs ms)) (λ e. elim (or-out (elem q (inserts cs)) _ (sym (edited-members q ms cs) ∙ e)) [
    | inl h ↦ clash true (elem q ms) (all_are true ms j.3 m) (insert-old (elem_out q (inserts cs) h))
    | inr h ↦ clash true (elem q (deletes cs)) (elem_in m) (not-true _ (and_right (elem q ms) _ h))
  ])
    where
      not-true : (x : Bool) → not x ≡ true → x ≡ false
      not-true true e = sym e
      not-true false e = refl

  pub new-move : {q : ℕ} → q ∈ edited cs ms → elem q ms ≡ false → q ∈ inserts cs
  new-move {q} m n = elim (or-out (elem q (inserts cs)) _ (sym (edited-members q ms cs) ∙ elem_in m)) [
    | inl h ↦ elem_out q (inserts cs) h
    | inr h ↦ absurd (clash true (elem q ms) (and_left (elem q ms) _ h) n)
  ]

  pub gone-move : {q : ℕ} → q ∈ ms → elem q (edited cs ms) ≡ false → q ∈ deletes cs
  gone-move {q} m n = elim (tell true (elem q (deletes cs))) [
    | inl h ↦ elem_out q (deletes cs) h
    | inr h ↦ absurd (clash true (elem q (edited cs ms)) (edited-members q ms cs ∙ or_right (elem q (inserts cs)) (and_in (elem_in m) (ap not h))) n)
  ]

-- A step's pair leans on the pair of a target exactly where the state has such a move.
module _ (m : Model) (s : State) (k : Bool) (a : Action) (x : Variable) where
  pub leans-on : {q : ℕ} → q ∈ m.moves → own s a q ≡ true → pair m.sizes (state (target q)) x ∈ leanings_by m s (step k a x)
  leans-on {q} h o = Memᴰ.map (λ t. pair m.sizes (state t) x) (targets-in s a q h o)

  pub leans-by : (r : ℕ) → r ∈ leanings_by m s (step k a x) → (q : ℕ) × q ∈ m.moves × (own s a q ≡ true) × (r ≡ pair m.sizes (state (target q)) x)
  leans-by r h =
      let t = Memᴰ.of_map (λ t. pair m.sizes (state t) x) (targets s a m.moves) h in
      let q = targets-out s a t.0 m.moves t.1 in
      (q.0, q.1, q.2, sym t.2 ∙ ap (λ (y : ℕ). pair m.sizes (state y) x) (sym q.3))

  pub not-leaning : (q : ℕ) → elem q m.moves ≡ false → own s a q ≡ true → elem (pair m.sizes (state (target q)) x) (leanings_by m s (step k a x)) ≡ false
  not-leaning q n o = no_way _ (λ e.
      let r = leans-by (pair m.sizes (state (target q)) x) (elem_out _ _ e) in
      let f = r.3 in
      let h : q ≡ r.0 = same_move s a q r.0 o r.2 (omega arith) in
      clash true (elem q m.moves) (ap (λ (y : ℕ). elem y m.moves) h ∙ elem_in r.1) n)

module _ (m : Model) (ok : Sound m) (cs : List Change) (j : Judged m.moves cs) (old was : Values) (b : Bool) (p : ℕ) (lt : p < pairs_of m.sizes)
    (near : (q : ℕ) (x : Variable) → q ∈ deletes cs → x.0 < m.sizes.variables → was (pair m.sizes (state (target q)) x) ≡ old (pair m.sizes (state (target q)) x)) where
  s : State
  s = state_of m.sizes p

  m' : Model
  m' = changed cs m

  -- The pair's leanings before and after the batch, by its equation.
  before_at : (t : Term) → term_at m p ≡ t → leanings m p ≡ leanings_by m s t
  unfolding s
  before_at t e = leanings-at m p lt ∙ ap (leanings_by m s) e

  after-at : (t : Term) → term_at m p ≡ t → leanings m' p ≡ leanings_by m' s t
  unfolding s m' term_at
  after-at t e = leanings-at (changed cs m) p lt ∙ ap (leanings_by (changed cs m) s) e

  Starts : Type 0
  Starts = Seeds (leanings m) (leanings m') was b (kind_by m.labels s (term_at m p)) p

  gain-in : (t : Term) → term_at m p ≡ t → gains b (inserts cs) s t ≡ true → Starts
  unfolding Starts m'
  gain-in (constant c) e h = absurd (true≢false (sym h))
  gain-in (proposition c q) e h = absurd (true≢false (sym h))
  gain-in (join k x y) e h = absurd (true≢false (sym h))
  gain-in (step k a x) e h =
      let g = any_out (own s a) (inserts cs) (and_right (is (not b) k) _ h) in
      Sys.gains (pair m.sizes (state (target g.0)) x)
      (ap (kind_by m.labels s) e ∙ is-out (not b) k (and_left (is (not b) k) _ h))
      (subst (λ (l : List ℕ). pair m.sizes (state (target g.0)) x ∈ l) (sym (after-at (step k a x) e))
      (leans-on (changed cs m) s k a x (insert-new m.moves cs j g.1) g.2))
      (ap (elem (pair m.sizes (state (target g.0)) x)) (before_at (step k a x) e)
      ∙ not-leaning m s k a x g.0 (insert-old m.moves cs j g.1) g.2)

  lose-in : (t : Term) → term_at m p ≡ t → loses b m' (deletes cs) old s t ≡ true → Starts
  unfolding Starts m'
  lose-in (constant c) e h = absurd (true≢false (sym h))
  lose-in (proposition c q) e h = absurd (true≢false (sym h))
  lose-in (join k x y) e h = absurd (true≢false (sym h))
  lose-in (step k a x) e h =
      let f : ℕ → Bool = λ q. own s a q && is (not b) (old (pair m.sizes (state (target q)) x)) in
      let g = any_out f (deletes cs) (and_right (is b k) _ h) in
      let o = and_left (own s a g.0) _ g.2 in
      Sys.loses (pair m.sizes (state (target g.0)) x)
      (ap (kind_by m.labels s) e ∙ is-out b k (and_left (is b k) _ h))
      (subst (λ (l : List ℕ). pair m.sizes (state (target g.0)) x ∈ l) (sym (before_at (step k a x) e))
      (leans-on m s k a x (delete-old m.moves cs j g.1) o))
      (ap (elem (pair m.sizes (state (target g.0)) x)) (after-at (step k a x) e)
      ∙ not-leaning (changed cs m) s k a x g.0 (delete-new m.moves cs j g.1) o)
      (near g.0 x g.1 (named-below m ok p x.0 lt (subst (λ (t : Term). NamedBy t x.0) (sym e) refl)) ∙ is-out (not b) _ (and_right (own s a g.0) _ g.2))

  -- Only a diamond or a box leans on other pairs than before: where it leans on one more, it gains, on one less, it loses.
  gain-out : (t : Term) (r : ℕ) → kind_by m.labels s t ≡ not b → r ∈ leanings_by m' s t → elem r (leanings_by m s t) ≡ false → gains b (inserts cs) s t ≡ true
  unfolding m'
  gain-out (constant c) r e h n = absurd (clash true _ (elem_in h) n)
  gain-out (proposition c q) r e h n = absurd (clash true _ (elem_in h) n)
  gain-out (join k x y) r e h n = absurd (clash true _ (elem_in h) n)
  gain-out (step k a x) r e h n =
      let q = leans-by (changed cs m) s k a x r h in
      let z : elem q.0 m.moves ≡ false = no_way _ (λ y. clash true (elem r (leanings_by m s (step k a x)))
      (elem_in (Memᴰ.cast q.3 (leans-on m s k a x (elem_out q.0 m.moves y) q.2))) n) in
      and_in (is-in (not b) k e) (any-in (own s a) (new-move m.moves cs j q.1 z) q.2)

  lose-out : (t : Term) (r : ℕ) → term_at m p ≡ t → kind_by m.labels s t ≡ b → r ∈ leanings_by m s t → elem r (leanings_by m' s t) ≡ false → was r ≡ not b
      → loses b m' (deletes cs) old s t ≡ true
  unfolding m'
  lose-out (constant c) r f e h n w = absurd (clash true _ (elem_in h) n)
  lose-out (proposition c q) r f e h n w = absurd (clash true _ (elem_in h) n)
  lose-out (join k x y) r f e h n w = absurd (clash true _ (elem_in h) n)
  lose-out (step k a x) r f e h n w =
      let q = leans-by m s k a x r h in
      let z : elem q.0 (edited cs m.moves) ≡ false = no_way _ (λ y. clash true (elem r (leanings_by (changed cs m) s (step k a x)))
      (elem_in (Memᴰ.cast q.3 (leans-on (changed cs m) s k a x (elem_out q.0 (edited cs m.moves) y) q.2))) n) in
      let d = gone-move m.moves cs j q.1 z in
      and_in (is-in b k e)
      (any-in (λ q. own s a q && is (not b) (old (pair m.sizes (state (target q)) x))) d
      (and_in q.2 (is-in (not b) _ (sym (near q.0 x d (named-below m ok p x.0 lt (subst (λ (t : Term). NamedBy t x.0) (sym f) refl))) ∙ ap was (sym q.3) ∙ w))))

  starts-out : Starts → (gains b (inserts cs) s (term_at m p) || loses b m' (deletes cs) old s (term_at m p)) ≡ true
  unfolding Starts m'
  starts-out (Sys.gains r c h n) =
      or_left _ (gain-out (term_at m p) r c (subst (λ (l : List ℕ). r ∈ l) (after-at (term_at m p) refl) h) (ap (elem r) (sym (before_at (term_at m p) refl)) ∙ n))
  starts-out (Sys.loses r c h n w) =
      or_right (gains b (inserts cs) s (term_at m p))
      (lose-out (term_at m p) r refl c (subst (λ (l : List ℕ). r ∈ l) (before_at (term_at m p) refl) h) (ap (elem r) (sym (after-at (term_at m p) refl)) ∙ n) w)

  starts-in : (gains b (inserts cs) s (term_at m p) || loses b m' (deletes cs) old s (term_at m p)) ≡ true → Starts
  starts-in h =
      elim (or-out (gains b (inserts cs) s (term_at m p)) (loses b m' (deletes cs) old s (term_at m p)) h) [
        | inl g ↦ gain-in (term_at m p) refl g
        | inr g ↦ lose-in (term_at m p) refl g
      ]

  -- The rule's seeds and the system's are the same.
  pub seeds-same : (gains b (inserts cs) (state_of m.sizes p) (term_at m p) || loses b (changed cs m) (deletes cs) old (state_of m.sizes p) (term_at m p))
      ≡ seeds (leanings m) (leanings (changed cs m)) was b (is b ((frame m).kind p)) p
  unfolding s m' Starts
  seeds-same =
      same_test _ _
      (λ h. seeds-in (leanings m) (leanings (changed cs m)) was b (kind_by m.labels (state_of m.sizes p) (term_at m p)) p (starts-in h))
      (λ h. starts-out (seeds-out (leanings m) (leanings (changed cs m)) was b (kind_by m.labels (state_of m.sizes p) (term_at m p)) p h))
