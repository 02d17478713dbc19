-- Values that have been set at the pairs of a set.
-- Assumes nothing.
use Rattle.std.specs.Prelude.{◌≡◌, Bool, true, false, ℕ}
use Rattle.std.proofs.Common.{sym, ◌∙◌, inl, inr}
use Rattle.lists.specs.Marks.{put}
use Rattle.lists.specs.Tests.{tell, cond_yes, cond_no}
use Rattle.lists.specs.Sets.{Sub}
use Rattle.systems.specs.solution.System.{Values}

-- A pair of the set has the value that was set.
pub put_in : (c : Bool) (v : Values) (s : ℕ → Bool) (p : ℕ) → s p ≡ true → put c v s p ≡ c
put_in c v s p e = cond_yes c (v p) e

-- A pair that is not in the set has its value still.
pub put-off : (c : Bool) (v : Values) (s : ℕ → Bool) (p : ℕ) → s p ≡ false → put c v s p ≡ v p
put-off c v s p e = cond_no c (v p) e

-- A pair that had the value has it still.
pub put-keep : (c : Bool) (v : Values) (s : ℕ → Bool) (p : ℕ) → v p ≡ c → put c v s p ≡ c
put-keep c v s p e =
    elim (tell true (s p)) [
      | inl h ↦ put_in c v s p h
      | inr h ↦ put-off c v s p h ∙ e
    ]

-- What has the value where a set is set, has it where a larger set is.
pub put_mono : (c : Bool) (v : Values) (s t : ℕ → Bool) → Sub s t → (p : ℕ) → put c v s p ≡ c → put c v t p ≡ c
put_mono c v s t f p e =
    elim (tell true (s p)) [
      | inl h ↦ put_in c v t p (f p h)
      | inr h ↦ put-keep c v t p (sym (put-off c v s p h) ∙ e)
    ]
