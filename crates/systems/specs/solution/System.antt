-- Systems of Boolean equations in blocks. A pair is a number; it is an and or an or of the pairs that it leans on, and it
-- belongs to a block, which is least or greatest. Here stand what the solution is, how it is computed, and how values are
-- moved when the leanings change. Definitions only.
use Rattle.std.specs.Prelude.{◌≡◌, Bool, true, false, not, cond, ◌&&◌, ◌||◌, List, [], ◌∷◌, ℕ, zero, suc, ◌≤◌, ◌<◌, eqb, ltb}
use Rattle.lists.specs.Marks.{put}
use Rattle.lists.specs.Lists.{is, any, elem}
use Rattle.lists.specs.Smallest.{at, smallest}
use Rattle.lists.specs.Tests.{◌∈◌}

-- A system without its leanings: how many pairs there are; of each pair, its operator (true: and, false: or) and its
-- block; how many blocks there are; of each block, its kind (true: greatest, false: least). The kind is the block's own
-- value: the one that its pairs shift towards. A number that is no pair has a block past the last.
pub record Frame : Type 0 where
  pub pairs : ℕ
  pub kind : ℕ → Bool
  pub block : ℕ → ℕ
  pub blocks : ℕ
  pub great : ℕ → Bool

-- The operands that each pair leans on, with repeats.
abbrev pub Leans : Type 0
Leans = ℕ → List ℕ

-- A value for each pair.
abbrev pub Values : Type 0
Values = ℕ → Bool

-- What is in a block is a pair, and a pair leans on pairs of its own block or an earlier one.
pub record Fits (F : Frame) (L : Leans) : Type 0 where
  pub inside : (p : ℕ) → F.block p < F.blocks → p < F.pairs
  pub earlier : (p q : ℕ) → q ∈ L p → F.block q ≤ F.block p

-- Each pair is in a block.
abbrev pub Full : Frame → Type 0
Full F = (p : ℕ) → p < F.pairs → F.block p < F.blocks

-- x and y, or x or y.
abbrev pub op : Bool → Bool → Bool → Bool
op true x y = x && y
op false x y = x || y

-- The and of the values of all operands in the list, or the or of them. The and of none is true, the or of none is false.
unfoldable pub ev : Bool → Values → List ℕ → Bool
ev k v [] = k
ev k v (q ∷ l) = op k (v q) (ev k v l)

-- What the equation of p gives.
abbrev pub eval : Frame → Leans → Values → ℕ → Bool
eval F L v p = ev (F.kind p) v (L p)

-- v solves the equations of block i.
abbrev pub Solves : Frame → Leans → ℕ → Values → Type 0
Solves F L i v = (p : ℕ) → F.block p ≡ i → v p ≡ eval F L v p

-- u and v agree on the blocks before i.
abbrev pub Agree : Frame → ℕ → Values → Values → Type 0
Agree F i u v = (p : ℕ) → F.block p < i → u p ≡ v p

-- The solution: with earlier blocks fixed, a least block has the smallest assignment that solves its equations, a
-- greatest block the largest. Both at once: where another assignment that solves the block has the block's own value, so
-- has v.
pub record Solution (F : Frame) (L : Leans) (v : Values) : Type 0 where
  pub solves : (i : ℕ) → i < F.blocks → Solves F L i v
  pub extreme : (i : ℕ) → i < F.blocks → (u : Values) → Agree F i u v → Solves F L i u
      → (p : ℕ) → F.block p ≡ i → u p ≡ F.great i → v p ≡ F.great i

-- The rule of settling, in block i from the values v, where the pairs of s have turned already: a pair turns that had the
-- block's own value, though its equation gives the other.
unfoldable pub drops : Frame → Leans → ℕ → Values → (ℕ → Bool) → ℕ → Bool
unfolding ev
drops F L i v s p = eqb (F.block p) i && (is (F.great i) (v p) && is (not (F.great i)) (eval F L (put (not (F.great i)) v s) p))

-- The pairs of block i that settle from the values v.
unfoldable pub settled : Frame → Leans → ℕ → Values → ℕ → Bool
unfolding drops smallest
settled F L i v p = at (smallest F.pairs (drops F L i v)) p

-- The values v, but the block's own value at all pairs of block i.
abbrev pub fresh : Frame → ℕ → Values → Values
fresh F i v p = cond (eqb (F.block p) i) (F.great i) (v p)

-- The solution of the blocks before i: in each block in turn all pairs have the block's own value, and settle from there.
unfoldable pub solve_to : Frame → Leans → ℕ → Values
unfolding settled
solve_to F L zero = λ p. false
solve_to F L (suc i) = let v : Values = fresh F i (solve_to F L i) in put (not (F.great i)) v (settled F L i v)

-- The solution of all blocks.
unfoldable pub solve : Frame → Leans → Values
unfolding solve_to
solve F L = solve_to F L F.blocks

-- The pairs that shift of themselves when the leanings L become M, in a block whose own value is b: a pair whose operator
-- needs b at all operands (true) and loses one that had the other value, or one that needs b at one operand (false) and
-- gains one.
unfoldable pub seeds : Leans → Leans → Values → Bool → Bool → ℕ → Bool
seeds L M old b true p = any (λ q. is (not b) (old q) && not (elem q (M p))) (L p)
seeds L M old b false p = any (λ q. not (elem q (L p))) (M p)

-- q lies in a block before i, and has turned to the own value of block i.
abbrev pub rose : Frame → ℕ → Values → Values → ℕ → Bool
rose F i old v q = ltb (F.block q) i && (is (not (F.great i)) (old q) && is (F.great i) (v q))

-- The rule of shifting, in block i, where v has the new values of the earlier blocks and the pairs of s have shifted
-- already: a pair shifts that had the other value, and is a seed or leans, by M, on a shifted pair or on one that rose.
unfoldable pub shifts : Frame → Leans → Leans → ℕ → Values → Values → (ℕ → Bool) → ℕ → Bool
unfolding seeds
shifts F L M i old v s p =
    eqb (F.block p) i && (is (not (F.great i)) (old p)
    && (seeds L M old (F.great i) (is (F.great i) (F.kind p)) p || any (λ q. s q || rose F i old v q) (M p)))

-- The pairs of block i that shift.
unfoldable pub shifted : Frame → Leans → Leans → ℕ → Values → Values → ℕ → Bool
unfolding shifts smallest
shifted F L M i old v p = at (smallest F.pairs (shifts F L M i old v)) p

-- The values once the blocks before i have been moved: in each block in turn the shifted pairs get the block's own value,
-- and then pairs settle.
unfoldable pub move_to : Frame → Leans → Leans → Values → ℕ → Values
unfolding shifted settled
move_to F L M old zero = old
move_to F L M old (suc i) =
    let v : Values = move_to F L M old i in
    let w : Values = put (F.great i) v (shifted F L M i old v) in
    put (not (F.great i)) w (settled F M i w)

-- The values from which block i settles: the blocks before it have been moved, and its shifted pairs have its own value.
abbrev pub lifted : Frame → Leans → Leans → Values → ℕ → Values
lifted F L M old i = let v : Values = move_to F L M old i in put (F.great i) v (shifted F L M i old v)

-- The values once all blocks have been moved.
unfoldable pub move : Frame → Leans → Leans → Values → Values
unfolding move_to
move F L M old = move_to F L M old F.blocks
