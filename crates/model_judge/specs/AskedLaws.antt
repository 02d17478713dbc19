-- A turn and its question, from what code has in hand. Assumes nothing.
use Rattle.std.specs.Prelude.{◌≡◌, refl, true, false, List, ℕ, ◌-◌, ◌*◌, ◌≤◌, ◌<◌, ltb, length}
use Rattle.std.proofs.Common.{ap, ◌∙◌, inl, inr}
use Rattle.lists.specs.Lists.{lowest}
use Rattle.lists.specs.Tests.{tell, and_in, and_no, eqb_is, eqb_no, ltb-in, ltb_no}
use Rattle.model_chains.specs.Stored.{held}
use Rattle.rules.specs.Load.{inside}
use Rattle.rules.specs.Limits.{most_variables}
use Rattle.rules.specs.Model.{guilty}
use Rattle.rules.specs.declared.Equation.{Equation}
use Rattle.rules.specs.Rooms.{Lengths}
use Rattle.rules.specs.declared.Refusal.TheVariants as Why
use Rattle.bytes_read.specs.Places.{Read}
use Rattle.model_judge.specs.Asking.{Spelled, is_signed, asks_after, lowest_to, answered_turn, asked_turn, Askable, Ready, Asked}
use Rattle.model_judge.specs.Going.{Follows, InsideTurn}
use Rattle.model_judge.specs.GoingLaws.{turned-inside, askable-next}
use Rattle.model_judge.specs.Passing.{Forwarded}
use Rattle.model_judge.specs.Progress.{sofar_of}
use Rattle.model_judge.specs.SignsRead.{Words, words-held}
use Rattle.model_judge.specs.Turning.{OneTurn, stop}
use Rattle.model_judge.specs.declared.HalfRead.{HalfRead}
use Rattle.std.specs.declared.ops.ControlFlow.TheVariants.{Continue, Break}

-- The question, asked of words that hold the equations: a guilty one, and none.
module _ (s : List ℕ) (h : HalfRead) (ws : List ℕ) (low : ℕ) (few : h.so_far.sizes.variables ≤ most_variables)
    (w : Words s h.at h.so_far.sizes.variables h.so_far.sizes.variables ws) (l : low ≡ lowest h.so_far.sizes.variables (guilty (held h.so_far.sizes.variables ws))) where
  low-is : low ≡ lowest_to s h.at h.so_far.sizes.variables
  low-is =
      let k = h.so_far.sizes.variables in
      l ∙ ap (λ (es : List Equation). lowest k (guilty es)) (words-held s h.at k ws few w)

  pub some-guilty : low < h.so_far.sizes.variables → stop Why.Tangled (h.at - 5 * (h.so_far.sizes.variables - low)) ≡ answered_turn s h
  some-guilty f = rw (← low-is, ltb-in low h.so_far.sizes.variables f) refl

  pub none-guilty : h.so_far.sizes.variables ≤ low → Continue h ≡ answered_turn s h
  none-guilty f = rw (← low-is, (ltb_no low h.so_far.sizes.variables).1 f) refl

-- Where nothing is asked, and where the question is.
module _ (s : List ℕ) (h : HalfRead) where
  pub after-other : is_signed h.last ≡ false → Continue h ≡ asked_turn s (Continue h)
  after-other e = rw e refl

  pub after-some : (h.so_far.blocks.equations ≡ h.so_far.sizes.variables → ⊥) → Continue h ≡ asked_turn s (Continue h)
  after-some f =
      let e : asks_after h.last h.so_far ≡ false = and_no (is_signed h.last) ((eqb_no h.so_far.blocks.equations h.so_far.sizes.variables).1 f) in
      rw e refl

  module _ (c : is_signed h.last ≡ true) (e : h.so_far.blocks.equations ≡ h.so_far.sizes.variables) where
    asks-here : asks_after h.last h.so_far ≡ true
    asks-here = and_in c ((eqb_is h.so_far.blocks.equations h.so_far.sizes.variables).1 e)

    pub askable-here : Askable s (Continue h) → (h.so_far.sizes.variables ≤ most_variables) × (h.at ≤ length s) × Spelled s h.at h.so_far.sizes.variables
    askable-here a = (a.0, a.1, a.2 asks-here)

    pub after_last : (u : OneTurn) → u ≡ answered_turn s h → u ≡ asked_turn s (Continue h)
    after_last u f = f ∙ rw asks-here refl

-- What a turn with its question is handed, and what it answers.
pub ready-askable : (l : Lengths) (s : List ℕ) (read : Read) (t u : OneTurn) → Ready s read t → Follows l read t (length s) u → Askable s u
ready-askable l s read (Break a) u d f = rw f tt
ready-askable l s read (Continue h) u d f = askable-next l s h.so_far h.at u d.spelled (f s d.read_there refl)

-- The question keeps the turn inside the limits and in the bytes.
asked-inside : (s : List ℕ) (u : OneTurn) → InsideTurn s u → InsideTurn s (asked_turn s u)
asked-inside s (Break a) g = tt
asked-inside s (Continue h) g =
    let y = h.so_far in
    elim (tell true (asks_after h.last y)) [
      | inr e ↦ rw e g
      | inl e ↦ rw e (elim (tell true (ltb (lowest_to s h.at y.sizes.variables) y.sizes.variables)) [
        | inr f ↦ rw f g
        | inl f ↦ rw f tt
      ])
    ]

pub ready-inside : (l : Lengths) (s : List ℕ) (read : Read) (t u v : OneTurn) → Ready s read t → Follows l read t (length s) u → v ≡ asked_turn s u → InsideTurn s v
ready-inside l s read (Break a) u v d f e = rw (e, f) tt
ready-inside l s read (Continue h) u v d f e = rw e (asked-inside s u (turned-inside l s (inside (sofar_of h.so_far)) h.at u (f s d.read_there refl)))

pub ready-asked : (l : Lengths) (s : List ℕ) (read : Read) (t u v w : OneTurn) → Ready s read t → Follows l read t (length s) u → v ≡ asked_turn s u → Forwarded l s v w → Asked l s t w
ready-asked l s read (Break a) u v w d f e g = let h : v ≡ Break a = e ∙ ap (asked_turn s) f in rw h at g
ready-asked l s read (Continue h) u v w d f e g = (u, f s d.read_there refl, rw e at g)
