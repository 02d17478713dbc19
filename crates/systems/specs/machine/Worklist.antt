-- A worklist: pairs are marked and put in a queue, where they wait to be turned; and what is kept while that goes on, for
-- any rule that asks for pairs. Definitions only.
use Rattle.std.specs.Prelude.{◌≡◌, ◌⊎◌, Bool, true, false, not, cond, ◌&&◌, List, [], ◌∷◌, ◌++◌, ℕ, eqb}
use Rattle.lists.specs.Lists.{bit}
use Rattle.lists.specs.Smallest.{at, Rule, smallest}
use Rattle.lists.specs.Tests.{◌∈◌}
use Rattle.lists.specs.Sets.{Sub, none}
use Rattle.lists.specs.Counts.{times}

-- The marks, and the pairs that wait, the next one first.
pub record Waiting : Type 0 where
  pub marks : ℕ → ℕ
  pub queue : List ℕ

-- The function f, but x at p.
abbrev pub upd {ℓ} : {A : Type ℓ} → (ℕ → A) → ℕ → A → ℕ → A
upd f p x q = cond (eqb q p) x (f q)

-- The pair r gets its next mark, and waits behind the others.
abbrev pub wait : (ℕ → ℕ) → ℕ → Waiting → Waiting
wait next r w = record { marks = upd w.marks r (next (w.marks r)); queue = w.queue ++ (r ∷ []) }

-- The pair r waits, if its mark leaves it free and the test asks for it.
abbrev pub push : (ℕ → Bool) → (ℕ → ℕ) → (ℕ → Bool) → ℕ → Waiting → Waiting
push free next ask r w = cond (free (w.marks r) && ask r) (wait next r w) w

-- Each pair of a list, in turn, waits if its mark leaves it free and the test asks for it.
abbrev pub spread : (ℕ → Bool) → (ℕ → ℕ) → (ℕ → Bool) → List ℕ → Waiting → Waiting
spread free next ask [] w = w
spread free next ask (r ∷ l) w = spread free next ask l (push free next ask r w)

-- What a worklist goes by: the rule, which asks for pairs below a bound; the marks that leave a pair free, the mark that
-- a pair gets when it is asked for, and the marks before the first one is.
pub record Plan : Type 0 where
  pub bound : ℕ
  pub rule : Rule
  pub free : ℕ → Bool
  pub next : ℕ → ℕ
  pub before : ℕ → ℕ

module _ (k : Plan) where
  open k use {bound, rule, free, next, before}

  -- The pairs of x have been marked; of these t have turned, and the others wait. All are pairs that the rule asks for.
  pub record Stage (x t : ℕ → Bool) (w : Waiting) : Type 0 where
    pub within : Sub t x
    pub asked : Sub x (at (smallest bound rule))
    pub marked : (p : ℕ) → w.marks p ≡ cond (x p) (next (before p)) (before p)
    pub queued : (p : ℕ) → times p w.queue ≡ bit (x p && not (t p))

  -- Such a stage, with the pairs of rest still to be looked at: what the rule asks for of itself is marked or among them,
  -- and what it asks for because of those that have turned is marked.
  pub record Work (x t : ℕ → Bool) (w : Waiting) (rest : List ℕ) : Type 0 where
    pub stage : Stage x t w
    pub first : (p : ℕ) → rule none p ≡ true → (x p ≡ true) ⊎ p ∈ rest
    pub later : (p : ℕ) → rule t p ≡ true → rule none p ≡ false → x p ≡ true

  -- What the test of a pair r has to do, where t has turned: r is free before it is marked and not after; the test asks
  -- for nothing but what the rule does, and for all that g does.
  pub record Good (t ask g : ℕ → Bool) (r : ℕ) : Type 0 where
    pub open-before : free (before r) ≡ true
    pub shut-after : free (next (before r)) ≡ false
    pub sound : t r ≡ false → ask r ≡ true → rule t r ≡ true
    pub whole : t r ≡ false → g r ≡ true → ask r ≡ true
