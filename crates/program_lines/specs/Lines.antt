-- The lines that the program prints, as bytes of text. Definitions only.
use Rattle.std.specs.Prelude.{cond, List, [], ◌∷◌, ◌++◌, ℕ, zero, suc, ◌+◌, ◌/◌, ◌%◌, ltb, ℤ, pos, negsuc}

-- The decimal digits of n as text, the highest first, where at most `most` of them are needed.
abbrev pub digits_by : ℕ → ℕ → List ℕ
digits_by zero n = []
digits_by (suc most) n = cond (ltb n 10) ((48 + n) ∷ []) (digits_by most (n / 10) ++ ((48 + n % 10) ∷ []))

-- A number in decimal. It never has more digits than one more than itself.
unfoldable pub decimal : ℕ → List ℕ
decimal n = digits_by (suc n) n

-- A number that may lie below zero: a minus sign, where it does, before its size.
abbrev pub signed : ℤ → List ℕ
signed (pos n) = decimal n
signed (negsuc n) = 45 ∷ decimal (suc n)

-- The words of the lines.
-- "loaded "
abbrev pub loaded_text : List ℕ
loaded_text = 108 ∷ 111 ∷ 97 ∷ 100 ∷ 101 ∷ 100 ∷ 32 ∷ []

-- "true "
abbrev pub true_text : List ℕ
true_text = 116 ∷ 114 ∷ 117 ∷ 101 ∷ 32 ∷ []

-- " of "
abbrev pub of_text : List ℕ
of_text = 32 ∷ 111 ∷ 102 ∷ 32 ∷ []

-- " stamp "
abbrev pub stamp_text : List ℕ
stamp_text = 32 ∷ 115 ∷ 116 ∷ 97 ∷ 109 ∷ 112 ∷ 32 ∷ []

-- "batch net "
abbrev pub net_text : List ℕ
net_text = 98 ∷ 97 ∷ 116 ∷ 99 ∷ 104 ∷ 32 ∷ 110 ∷ 101 ∷ 116 ∷ 32 ∷ []

-- " visits "
abbrev pub visits_text : List ℕ
visits_text = 32 ∷ 118 ∷ 105 ∷ 115 ∷ 105 ∷ 116 ∷ 115 ∷ 32 ∷ []

-- " "
abbrev pub space_text : List ℕ
space_text = 32 ∷ []

-- "refused "
abbrev pub refused_text : List ℕ
refused_text = 114 ∷ 101 ∷ 102 ∷ 117 ∷ 115 ∷ 101 ∷ 100 ∷ 32 ∷ []

-- " at "
abbrev pub at_text : List ℕ
at_text = 32 ∷ 97 ∷ 116 ∷ 32 ∷ []

-- The line feed.
abbrev pub feed_text : List ℕ
feed_text = 10 ∷ []

-- "true T of N stamp S": the end of a line.
unfoldable pub totals : ℕ → ℕ → ℕ → List ℕ
totals t n s = (true_text ++ decimal t) ++ ((of_text ++ decimal n) ++ ((stamp_text ++ decimal s) ++ feed_text))

-- "loaded true T of N stamp S".
unfoldable pub loaded_line : ℕ → ℕ → ℕ → List ℕ
loaded_line t n s = loaded_text ++ totals t n s

-- "batch net D visits A B true T of N stamp S".
unfoldable pub batch_line : ℤ → ℕ → ℕ → ℕ → ℕ → ℕ → List ℕ
batch_line d a b t n s =
    (net_text ++ signed d) ++ ((visits_text ++ decimal a) ++ ((space_text ++ decimal b) ++ (space_text ++ totals t n s)))

-- "refused R at P".
unfoldable pub refused_line : ℕ → ℕ → List ℕ
refused_line r p = (refused_text ++ decimal r) ++ ((at_text ++ decimal p) ++ feed_text)
