-- Visits along a chain, whatever is visited at each of its words. Assumes nothing.
use Rattle.std.specs.Prelude.{◌≡◌, Bool, List, [], ◌++◌, ℕ, suc, ◌+◌, ◌≤◌, ◌<◌, length, get_or}
use Rattle.std.proofs.Math.Path.{refl}
use Rattle.std.proofs.Common.{sym, ap, ◌∙◌, subst, zero-add, arith, length-append}
use Rattle.lists.specs.Tests.{eqb-in, eqb_no}
use Rattle.engine_table.specs.Table.{Table}
use Rattle.engine_index.specs.Chains.{last_to}
use Rattle.engine_index.specs.ChainWalks.{last-le, last-at, last-again, last-skips}
use Rattle.engine_index.specs.Indexed.{key_of, heads_of, Indexed}
use Rattle.engine_turn.specs.Scene.{Scene, Line, visit_all, along, Bounded, Room}
use Rattle.engine_turn.specs.VisitLaws.{visit-append, visit-none, visit-grows}

-- The walk stands at k with v: what is left from here is what was to do at the beginning.
pub record OnChain (c : Scene) (ph : Bool) (key : ℕ → ℕ) (ws : List ℕ) (n t : ℕ) (here : ℕ → List ℕ) (start : Line) (k : ℕ) (v : Line) : Type 0 where
  pub stands : last_to key ws t k ≡ k
  pub below : k ≤ n
  pub same : visit_all c ph (along key ws t here k) v ≡ visit_all c ph (along key ws t here n) start
  pub high : v.tail + length (along key ws t here k) ≤ start.tail + length (along key ws t here n)
  pub many : v.visits + length (along key ws t here k) ≤ start.visits + length (along key ws t here n)
  pub long_marks : length v.marks ≡ length start.marks
  pub long_queue : length v.queue ≡ length start.queue

module _ (key : ℕ → ℕ) (ws : List ℕ) (t : ℕ) (here : ℕ → List ℕ) where
  abbrev todo : ℕ → List ℕ
  todo k = along key ws t here k

  -- A word with another number adds nothing, one with the number what is visited at it.
  along-skip : (j : ℕ) → (key (get_or ws j 0) ≡ t → ⊥) → todo j ≡ todo (suc j)
  unfolding along
  along-skip j h = rw ((eqb_no (key (get_or ws j 0)) t).1 h) refl

  along-at : (j : ℕ) → key (get_or ws j 0) ≡ t → todo (suc j) ≡ here j ++ todo j
  unfolding along
  along-at j e = rw (eqb-in (key (get_or ws j 0)) t e) refl

  along-none : todo 0 ≡ []
  unfolding along
  along-none = refl

  skipped : (k : ℕ) → todo (last_to key ws t k) ≡ todo k
  skipped k = last-skips key ws t todo k (λ j l e. along-skip j e) k (omega arith)

  -- A step along a chain goes down.
  pub falls : (k j next x : ℕ) → k ≡ suc j → next ≡ last_to key ws x j → next < k
  falls k j next x e f = let l = last-le key ws x j in omega arith

  module _ (c : Scene) (ph : Bool) (n : ℕ) where
    abbrev Walk : Line → ℕ → Line → Type 0
    Walk start k v = OnChain c ph key ws n t here start k v

    pub chain-begins : (start : Line) (k : ℕ) → k ≡ last_to key ws t n → Walk start k start
    chain-begins start k e = subst (λ (x : ℕ). Walk start x start) (sym e) (record {
      stands = last-again key ws t n;
      below = last-le key ws t n;
      same = ap (λ (l : List ℕ). visit_all c ph l start) (skipped n);
      high = let f = ap length (skipped n) in omega arith;
      many = let f = ap length (skipped n) in omega arith;
      long_marks = refl;
      long_queue = refl;
    })

    -- The word at which the walk stands has the number.
    pub chain-at : (start : Line) (k j : ℕ) (v : Line) → Walk start k v → k ≡ suc j → key (get_or ws j 0) ≡ t
    chain-at start k j v o e = last-at key ws t j (ap (last_to key ws t) (sym e) ∙ o.stands ∙ e)

    -- What is visited there stays inside what was to visit.
    pub chain-room : (start : Line) (k j : ℕ) (v : Line) → Walk start k v → k ≡ suc j → Bounded start.tail start.visits (todo n) → Bounded v.tail v.visits (here j)
    chain-room start k j v o e b =
        let f = ap length (ap todo e ∙ along-at j (chain-at start k j v o e)) in
        let g = length-append (here j) (todo j) in
        let h = o.high in
        let m = o.many in
        (omega arith, omega arith)

    -- And the queue has places for it.
    pub chain_fits : (start : Line) (k j : ℕ) (v : Line) → Walk start k v → k ≡ suc j → Room c ph (todo n) start → Room c ph (here j) v
    chain_fits start k j v o e r =
        let more = ap todo e ∙ along-at j (chain-at start k j v o e) in
        let apart = sym (visit-append c ph (here j) (todo j) v) ∙ ap (λ (l : List ℕ). visit_all c ph l v) (sym more) ∙ o.same in
        let t = ap (λ (x : Line). x.tail) apart in
        let g = (visit-grows c ph (todo j) (visit_all c ph (here j) v)).low in
        let q = o.long_queue in
        omega arith

    -- One word further along the chain.
    pub chain-goes : (start : Line) (k j : ℕ) (v w : Line) (next : ℕ) → Walk start k v → k ≡ suc j → w ≡ visit_all c ph (here j) v
        → next ≡ last_to key ws (key (get_or ws j 0)) j → Walk start next w
    chain-goes start k j v w next o e f g =
        let at = chain-at start k j v o e in
        let is : next ≡ last_to key ws t j = g ∙ ap (λ (x : ℕ). last_to key ws x j) at in
        let low = last-le key ws t j in
        let b = o.below in
        let more = ap todo e ∙ along-at j at in
        let long = ap length more in
        let both = length-append (here j) (todo j) in
        let rest = ap length (skipped j) in
        let grows = visit-grows c ph (here j) v in
        let tl = ap (λ (x : Line). x.tail) f in
        let vs = ap (λ (x : Line). x.visits) f in
        let hi = o.high in
        let mn = o.many in
        let gh = grows.high in
        let gm = grows.many in
        subst (λ (x : ℕ). Walk start x w) (sym is) (record {
          stands = last-again key ws t j;
          below = omega arith;
          same =
              ap (λ (l : List ℕ). visit_all c ph l w) (skipped j) ∙ ap (visit_all c ph (todo j)) f
              ∙ sym (visit-append c ph (here j) (todo j) v)
              ∙ ap (λ (l : List ℕ). visit_all c ph l v) (sym more) ∙ o.same;
          high = omega arith;
          many = omega arith;
          long_marks = ap (λ (x : Line). length x.marks) f ∙ grows.long_marks ∙ o.long_marks;
          long_queue = ap (λ (x : Line). length x.queue) f ∙ grows.long_queue ∙ o.long_queue;
        })

    -- At its end all is done.
    pub chain-ends : (start : Line) (k : ℕ) (v : Line) → Walk start k v → k ≡ 0 → v ≡ visit_all c ph (todo n) start
    chain-ends start k v o e =
        sym (visit-none c ph v) ∙ ap (λ (l : List ℕ). visit_all c ph l v) (sym (ap todo e ∙ along-none)) ∙ o.same

-- The heads and the links of the index of the moves.
module _ {t : Table} {index : List ℕ} (i : Indexed t index) where
  pub head_at : (k : ℕ) → k < heads_of t.sizes → get_or index k 0 ≡ last_to (key_of t.sizes) t.moves k (length t.moves)
  head_at k h = ap (λ (j : ℕ). get_or index j 0) (sym (zero-add k)) ∙ i.chained.ends k (omega arith)

  pub link_at : (j : ℕ) → j < length t.moves
      → get_or index (heads_of t.sizes + j) 0 ≡ last_to (key_of t.sizes) t.moves (key_of t.sizes (get_or t.moves j 0)) j
  link_at j h = i.chained.steps j h
