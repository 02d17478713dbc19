-- A text copied byte by byte. Assumes nothing.
use Rattle.std.specs.Prelude.{◌≡◌, refl, List, [], ◌∷◌, ℕ, suc, ◌+◌, ◌≤◌, ◌<◌, length, get_or, set, take}
use Rattle.std.proofs.Common.{ap, ◌∙◌, arith, take-suc, take_all, length-take-le}
use Rattle.std.proofs.lemmas.List.Edits.{sets}
use Rattle.bytes_write.specs.Written.{sets-append}

-- After its first i bytes, one more.
pub copied_more : (text before out after : List ℕ) (at i : ℕ) → i < length text → out ≡ sets before at (take i text)
    → after ≡ set out (at + i) (get_or text i 0) → after ≡ sets before at (take (i + 1) text)
copied_more text before out after at i h f g =
    let j : i + 1 ≡ suc i = omega arith in
    let l = length-take-le i text (omega arith) in
    g ∙ rw (f, j, take-suc text i 0 h, sets-append (take i text) (get_or text i 0 ∷ []) before at, l) refl

-- After all of its bytes, the whole text.
pub copied_all : (text before out : List ℕ) (at i : ℕ) → length text ≤ i → out ≡ sets before at (take i text) → out ≡ sets before at text
copied_all text before out at i h f = f ∙ ap (sets before at) (take_all i text h)
