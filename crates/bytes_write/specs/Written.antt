-- A label's record, and bytes stored in two runs. Assumes nothing.
use Rattle.std.specs.Prelude.{◌≡◌, refl, List, [], ◌∷◌, ◌++◌, ℕ, suc, ◌+◌, length}
use Rattle.std.proofs.Common.{add-zero, arith}
use Rattle.std.proofs.lemmas.List.Edits.{sets}
use Rattle.rules.specs.Records.{Rec}

-- The record of the label v of state s.
abbrev pub label_rec : ℕ → ℕ → Rec
label_rec s v = record { kind = 2; body = s ∷ v ∷ [] }

-- Two runs of stores, one after the other, are one.
pub sets-append : (vs ws l : List ℕ) (i : ℕ) → sets l i (vs ++ ws) ≡ sets (sets l i vs) (i + length vs) ws
sets-append [] ws l i = rw add-zero refl
sets-append (v ∷ vs) ws l i = let e : suc i + length vs ≡ i + suc (length vs) = omega arith in rw (← e) (sets-append vs ws _ (suc i))
