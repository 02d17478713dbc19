-- Questions about lists, and sums: the words that the rules are written in. Definitions only.
use Rattle.std.specs.Prelude.{Bool, true, false, not, cond, ◌&&◌, ◌||◌, List, [], ◌∷◌, ◌++◌, ℕ, zero, suc, ◌+◌, ◌^◌, length, drop, eqb}

-- Is x the value b?
abbrev pub is : Bool → Bool → Bool
is true x = x
is false x = not x

-- Some entry passes the test.
abbrev pub any : (ℕ → Bool) → List ℕ → Bool
any f [] = false
any f (q ∷ l) = f q || any f l

-- Each entry passes the test.
abbrev pub all : (ℕ → Bool) → List ℕ → Bool
all f [] = true
all f (q ∷ l) = f q && all f l

-- Does q stand in the list?
abbrev pub elem : ℕ → List ℕ → Bool
elem q l = any (eqb q) l

-- 1 for true, 0 for false.
abbrev pub bit : Bool → ℕ
bit true = 1
bit false = 0

-- How many entries pass the test.
abbrev pub count : (ℕ → Bool) → List ℕ → ℕ
count f [] = 0
count f (q ∷ l) = bit (f q) + count f l

-- The sum of f at 0, .., n - 1.
abbrev pub sum : ℕ → (ℕ → ℕ) → ℕ
sum zero f = 0
sum (suc n) f = sum n f + f n

-- The sum of f over a list.
abbrev pub sum_of : (ℕ → ℕ) → List ℕ → ℕ
sum_of f [] = 0
sum_of f (q ∷ l) = f q + sum_of f l

-- The numbers f i, f (i + 1), .., n of them.
abbrev pub listed : ℕ → ℕ → (ℕ → ℕ) → List ℕ
listed i zero f = []
listed i (suc n) f = f i ∷ listed (suc i) n f

-- The room with its first places filled; the places past these are as they were.
abbrev pub fill : List ℕ → List ℕ → List ℕ
fill new room = new ++ drop (length new) room

-- The numbers below n that pass the test, as one number: bit p for number p.
abbrev pub mask : ℕ → (ℕ → Bool) → ℕ
mask n f = sum n (λ p. cond (f p) (2 ^ p) 0)

-- Some number below n passes the test; each does; the lowest that does, or n where none does.
abbrev pub some_below : ℕ → (ℕ → Bool) → Bool
some_below zero f = false
some_below (suc n) f = some_below n f || f n

abbrev pub each_below : ℕ → (ℕ → Bool) → Bool
each_below zero f = true
each_below (suc n) f = each_below n f && f n

abbrev pub lowest : ℕ → (ℕ → Bool) → ℕ
lowest zero f = 0
lowest (suc n) f = cond (some_below n f) (lowest n f) (cond (f n) n (suc n))
