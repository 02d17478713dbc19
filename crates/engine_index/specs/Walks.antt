-- A walk along the chain of an action and a target, which sets the places of the sources of its moves. Assumes nothing.
use Rattle.std.specs.Prelude.{◌≡◌, refl, Bool, true, false, cond, ◌&&◌, ◌||◌, List, ℕ, suc, ◌+◌, ◌-◌, ◌*◌, ◌≤◌, ◌<◌, length, get_or, set, take, drop, eqb}
use Rattle.std.proofs.Common.{sym, ap, ◌∙◌, subst, zero-add, arith, length-set, length-drop, take-suc, take_all, length-take-le, get_or-take, get_or-drop, get_or-set_same, get_or-set_other}
use Rattle.std.proofs.Math.Decide.{ℕ_discrete}
use Rattle.std.proofs.Math.Seq.{take-length}
use Rattle.lists.specs.Lists.{any}
use Rattle.lists.specs.Tests.{no_way, and_left, eqb_no, eqb-out, eqb-in, any_snoc}
use Rattle.rules.specs.Moves.{source, action, target}
use Rattle.engine_table.specs.Table.{Table, Drawn}
use Rattle.engine_table.specs.Limits.{move-inside}
use Rattle.engine_index.specs.Chains.{last_to}
use Rattle.engine_index.specs.Indexed.{Indexed, heads_of}
use Rattle.engine_index.specs.ChainWalks.{last-le, last-at, last-again, last-skips}

-- The places are v where the test holds of their state, and else as they were.
abbrev pub SetWhere : (ℕ → Bool) → ℕ → List ℕ → List ℕ → Type 0
SetWhere g v before bad = (s : ℕ) → s < length before → get_or bad s 0 ≡ cond (g s) v (get_or before s 0)

-- Has the word q the number t, and does it come from the state s?
abbrev pub comes : (ℕ → ℕ) → ℕ → ℕ → ℕ → Bool
comes key t s q = eqb (key q) t && eqb (source q) s

-- Does one of the words with the number t come from the state s?
abbrev pub one_comes : (ℕ → ℕ) → ℕ → List ℕ → ℕ → Bool
one_comes key t ws s = any (comes key t s) ws

-- The number by which a move is chained where there are n states: its target, among those of its action.
abbrev pub key_by : ℕ → ℕ → ℕ
key_by n w = action w * n + target w

-- The moves lead from and to n states, and chains of them by this number have these heads and links.
pub record Linked (n : ℕ) (moves heads links : List ℕ) : Type 0 where
  pub from : (j : ℕ) → j < length moves → source (get_or moves j 0) < n
  pub into : (j : ℕ) → j < length moves → target (get_or moves j 0) < n
  pub long : length moves ≤ length links
  pub ends : (t : ℕ) → t < length heads → get_or heads t 0 ≡ last_to (key_by n) moves t (length moves)
  pub steps : (j : ℕ) → j < length moves → get_or links j 0 ≡ last_to (key_by n) moves (key_by n (get_or moves j 0)) j

-- The index of a table's moves, cut into its heads and its links.
pub linked : {t : Table} → Drawn t → (k : ℕ) (index : List ℕ) → k ≡ heads_of t.sizes → Indexed t index
    → Linked t.sizes.states t.moves (take k index) (take (length index - k) (drop k index))
linked {t} d k index e i =
    let room = i.long in
    let cut = length-drop k index in
    let rest : take (length index - k) (drop k index) ≡ drop k index = take_all (length index - k) (drop k index) (omega arith) in
    let h = length-take-le k index (omega arith) in
    record {
      from = λ j h. (move-inside d j h).0;
      into = λ j h. (move-inside d j h).1.1;
      long = rw rest (omega arith);
      ends = λ u l.
          get_or-take k index u 0 (omega arith) ∙ ap (λ (x : ℕ). get_or index x 0) (sym (zero-add u)) ∙ i.chained.ends u (omega arith);
      steps = λ j l. rw rest (get_or-drop k index j 0 ∙ ap (λ (x : ℕ). get_or index (x + j) 0) e ∙ i.chained.steps j l);
    }

-- The walk stands at k: what is left of it makes of the places as they are what the whole of it makes of them as they were.
pub record Telling (key : ℕ → ℕ) (ws : List ℕ) (t x : ℕ) (before : List ℕ) (k : ℕ) (bad : List ℕ) : Type 0 where
  pub stands : last_to key ws t k ≡ k
  pub below : k ≤ length ws
  pub long : length bad ≡ length before
  pub same : (s : ℕ) → s < length before → cond (one_comes key t (take k ws) s) x (get_or bad s 0) ≡ cond (one_comes key t ws s) x (get_or before s 0)

module _ (key : ℕ → ℕ) (ws : List ℕ) (t x : ℕ) (before : List ℕ) where
  -- One word more.
  one_more : (s j : ℕ) → j < length ws → any (comes key t s) (take (suc j) ws) ≡ (comes key t s (get_or ws j 0) || any (comes key t s) (take j ws))
  one_more s j h = ap (any (comes key t s)) (take-suc ws j 0 h) ∙ any_snoc (comes key t s) (get_or ws j 0) (take j ws)

  -- Words with other numbers set nothing.
  skipped : (s k : ℕ) → k ≤ length ws → any (comes key t s) (take (last_to key ws t k) ws) ≡ any (comes key t s) (take k ws)
  skipped s k h =
      last-skips key ws t (λ (i : ℕ). any (comes key t s) (take i ws)) (length ws)
      (λ j l e. sym (one_more s j l ∙ ap (λ (b : Bool). b || any (comes key t s) (take j ws))
      (no_way (comes key t s (get_or ws j 0)) (λ y. e (eqb-out _ _ (and_left (eqb (key (get_or ws j 0)) t) (eqb (source (get_or ws j 0)) s) y)))))) k h

  -- It begins at the head.
  pub telling-begins : (k : ℕ) → k ≡ last_to key ws t (length ws) → Telling key ws t x before k before
  telling-begins k e = subst (λ (i : ℕ). Telling key ws t x before i before) (sym e) (record {
    stands = last-again key ws t (length ws);
    below = last-le key ws t (length ws);
    long = refl;
    same = λ s h. ap (λ (b : Bool). cond b x (get_or before s 0)) (skipped s (length ws) (omega arith) ∙ ap (any (comes key t s)) (take-length ws));
  })

  -- One word: the place of its source is set.
  told-one : (s r : ℕ) (bad : List ℕ) (b : Bool) → s < length bad → cond (eqb r s || b) x (get_or bad s 0) ≡ cond b x (get_or (set bad r x) s 0)
  told-one s r bad b h =
      elim (ℕ_discrete s r) [
        | yes e ↦
            ap (λ (c : Bool). cond (c || b) x (get_or bad s 0)) (eqb-in r s (sym e))
            ∙ sym (ap (λ (y : ℕ). cond b x y) (ap (λ (i : ℕ). get_or (set bad r x) i 0) e ∙ get_or-set_same bad r x 0 (subst (λ (i : ℕ). i < length bad) e h)) ∙ both b)
        | no e ↦
            ap (λ (c : Bool). cond (c || b) x (get_or bad s 0)) ((eqb_no r s).1 (λ q. e (sym q))) ∙ sym (ap (λ (y : ℕ). cond b x y) (get_or-set_other bad r s x 0 e))
      ]
    where
      both : (b : Bool) → cond b x x ≡ x
      both true = refl
      both false = refl

  -- It goes on along the link, once the place of the word's source is set.
  pub telling-goes : (k j next : ℕ) (bad after : List ℕ) → Telling key ws t x before k bad → k ≡ suc j → after ≡ set bad (source (get_or ws j 0)) x
      → next ≡ last_to key ws (key (get_or ws j 0)) j → Telling key ws t x before next after
  telling-goes k j next bad after o e a g =
      let b = o.below in
      let here = last-at key ws t j (ap (last_to key ws t) (sym e) ∙ o.stands ∙ e) in
      let is : next ≡ last_to key ws t j = g ∙ ap (λ (y : ℕ). last_to key ws y j) here in
      let low = last-le key ws t j in
      let l = o.long in
      subst (λ (i : ℕ). Telling key ws t x before i after) (sym is) (record {
        stands = last-again key ws t j;
        below = omega arith;
        long = ap length a ∙ length-set bad (source (get_or ws j 0)) x ∙ l;
        same = λ s h.
            ap (λ (b : Bool). cond b x (get_or after s 0)) (skipped s j (omega arith))
            ∙ ap (λ (m : List ℕ). cond (any (comes key t s) (take j ws)) x (get_or m s 0)) a
            ∙ sym (told-one s (source (get_or ws j 0)) bad (any (comes key t s) (take j ws)) (omega arith))
            ∙ ap (λ (b : Bool). cond ((b && eqb (source (get_or ws j 0)) s) || any (comes key t s) (take j ws)) x (get_or bad s 0)) (sym (eqb-in _ _ here))
            ∙ ap (λ (b : Bool). cond b x (get_or bad s 0)) (sym (one_more s j (omega arith)))
            ∙ ap (λ (i : ℕ). cond (any (comes key t s) (take i ws)) x (get_or bad s 0)) (sym e) ∙ o.same s h;
      })

  -- Where it ends, each source of a word with the number has its place set.
  pub telling-ends : (k : ℕ) (bad : List ℕ) → Telling key ws t x before k bad → k ≡ 0 → SetWhere (one_comes key t ws) x before bad
  telling-ends k bad o e s h = ap (λ (i : ℕ). cond (any (comes key t s) (take i ws)) x (get_or bad s 0)) (sym e) ∙ o.same s h
