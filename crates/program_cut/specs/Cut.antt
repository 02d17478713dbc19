-- How the program's input is cut into parts. Definitions only.
use Rattle.std.specs.Prelude.{cond, List, [], ◌∷◌, ℕ, zero, suc, eqb, length, take, drop}
use Rattle.rules.specs.Records.{Parts, ends, broken, part, parts}

-- The place after the first end record, or n where none is reached.
unfoldable pub end_after : ℕ → Parts → ℕ
end_after n (ends p) = n
end_after n (broken p) = n
end_after n (part p r t) = cond (eqb r.kind 6) (suc p) (end_after n t)

-- The length of the first part of the bytes: by kinds and lengths up to the first kind 6 and with it, or all of them where
-- none is reached.
unfoldable pub cut : List ℕ → ℕ
cut s = end_after (length s) (parts s)

-- The first n parts of the bytes, fewer where the bytes end before.
unfoldable pub pieces : ℕ → List ℕ → List (List ℕ)
pieces zero s = []
pieces (suc n) [] = []
pieces (suc n) (b ∷ s) = take (cut (b ∷ s)) (b ∷ s) ∷ pieces n (drop (cut (b ∷ s)) (b ∷ s))

-- All parts of the bytes. There are never more of them than bytes.
unfoldable pub all_pieces : List ℕ → List (List ℕ)
all_pieces s = pieces (length s) s
