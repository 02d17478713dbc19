-- The course of an update: where the machine is after some units, and what it has counted by then. Definitions only.
use Rattle.std.specs.Prelude.{◌≡◌, Bool, true, false, ◌||◌, List, [], ◌∷◌, ◌++◌, ℕ, suc, ◌+◌, ◌≤◌, length}
use Rattle.lists.specs.Sets.{none, weight}
use Rattle.systems.specs.solution.System.{move_to}
use Rattle.systems.specs.moving.Marks.{shift_of, settle_of}
use Rattle.systems.specs.moving.UpTo.{up_to}
use Rattle.systems.specs.machine.Machine.{turns, State, looks_at, todo_from, after, sights}
use Rattle.systems.specs.machine.Phases.{Update, marks_to, Doing}

module _ (u : Update) where
  open u use {F, L, M, old}

  -- The pairs that have shifted once the blocks before i have been moved.
  abbrev pub shift_to : ℕ → ℕ → Bool
  shift_to i = up_to F (shift_of F L M old) i

  -- The pairs that have settled by then.
  abbrev pub settle_to : ℕ → ℕ → Bool
  settle_to i = up_to F (settle_of F L M old) i

  -- The pairs that have shifted in the midst of a phase of block i, where t have turned in it.
  unfoldable pub have_shifted : Bool → ℕ → (ℕ → Bool) → ℕ → Bool
  have_shifted false i t p = shift_to i p || t p
  have_shifted true i t p = shift_to (suc i) p

  -- The pairs that have settled by then.
  unfoldable pub have_settled : Bool → ℕ → (ℕ → Bool) → ℕ → Bool
  have_settled false i t p = settle_to i p
  have_settled true i t p = settle_to i p || t p

module _ (u : Update) (on : ℕ → List ℕ) where
  open u use {F, L, M, old}

  -- What has been counted after n units, where the pairs of `shifts` have shifted and those of `settles` have settled:
  -- the leanings on them, and one unit for each look and for each turn.
  pub record Counted (n : ℕ) (s : State) (shifts settles : ℕ → Bool) : Type 0 where
    pub shift_visits : s.shift_visits ≡ weight F.pairs (λ q. length (on q)) shifts
    pub settle_visits : s.settle_visits ≡ weight F.pairs (λ q. length (on q)) settles
    pub spent : n + sights s.todo ≡ sights (todo_from F 0 F.blocks) + weight F.pairs (λ p. 1) shifts + weight F.pairs (λ p. 1) settles

  -- Between two blocks: those before i have been moved, and k are left.
  pub record Rest (n i k : ℕ) (s : State) : Type 0 where
    pub place : i + k ≡ F.blocks
    pub vals : (p : ℕ) → s.val p ≡ move_to F L M old i p
    pub marks : (p : ℕ) → s.held.marks p ≡ marks_to u i p
    pub empty : s.held.queue ≡ []
    pub gone : s.gone ≡ 0
    pub todo : s.todo ≡ todo_from F i k
    pub counted : Counted n s (shift_to u i) (settle_to u i)

  -- In the midst of a phase of block i, after which k are left.
  pub record Going (n : ℕ) (ph : Bool) (i k : ℕ) (x t : ℕ → Bool) (rest : List ℕ) (s : State) : Type 0 where
    pub place : suc (i + k) ≡ F.blocks
    pub doing : Doing u ph i x t rest s.val s.held
    pub gone : s.gone ≤ weight F.pairs (λ p. 1) t
    pub todo : s.todo ≡ looks_at ph rest ++ (turns ph i ∷ after F ph i k)
    pub counted : Counted n s (have_shifted u ph i t) (have_settled u ph i t)

  -- Where the machine is after n units: before a look, and nothing has turned in the phase; before a turn, and all of the
  -- phase has been looked at; or done.
  pub data At (n : ℕ) (s : State) : Type 0 where
    to-look : (ph : Bool) (i k : ℕ) (x : ℕ → Bool) (p : ℕ) (rest : List ℕ) → Going n ph i k x none (p ∷ rest) s → At n s
    to-turn : (ph : Bool) (i k : ℕ) (x t : ℕ → Bool) (q : ℕ) (queue : List ℕ) → Going n ph i k x t [] s → s.held.queue ≡ q ∷ queue → At n s
    done : Rest n F.blocks 0 s → At n s
