-- How long a line can be, by the sizes of its numbers. Assumes nothing.
use Rattle.std.specs.Prelude.{List, ◌++◌, ℕ, suc, ◌+◌, ◌^◌, ◌≤◌, ◌<◌, length, ℤ, pos, negsuc}
use Rattle.std.proofs.Common.{arith, length-append}
use Rattle.std.specs.Int.Signed.{mag}
use Rattle.program_lines.specs.Lines.{decimal, signed, loaded_text, true_text, of_text, stamp_text, net_text, visits_text, space_text, refused_text, at_text, feed_text, totals, loaded_line, batch_line, refused_line}
use Rattle.program_lines.specs.DecimalLaws.{decimal-few}

-- Two runs of bytes, each with its bound.
both : (bs cs : List ℕ) (m n : ℕ) → length bs ≤ m → length cs ≤ n → length (bs ++ cs) ≤ m + n
both bs cs m n f g = let e = length-append bs cs in omega arith

-- A number of at most k digits after a text of m bytes.
after_text : (text : List ℕ) (m k n : ℕ) → length text ≤ m → 0 < k → n < 10 ^ k → length (text ++ decimal n) ≤ m + k
after_text text m k n f g h = both text (decimal n) m k f (decimal-few k n g h)

-- A number of 32 bits with its sign.
signed-few : (z : ℤ) → mag z < 2147483648 → length (signed z) ≤ 11
signed-few (pos n) h = let e = decimal-few 10 n (omega arith) (omega arith) in omega arith
signed-few (negsuc n) h = let e = decimal-few 10 (suc n) (omega arith) (omega arith) in omega arith

-- The end of a line: pairs of eight digits, a stamp of ten.
totals-few : (t n s : ℕ) → t < 10 ^ 8 → n < 10 ^ 8 → s < 10 ^ 10 → length (totals t n s) ≤ 43
unfolding totals
totals-few t n s f g h =
    both (true_text ++ decimal t) ((of_text ++ decimal n) ++ ((stamp_text ++ decimal s) ++ feed_text)) 13 30
    (after_text true_text 5 8 t (omega arith) (omega arith) f)
    (both (of_text ++ decimal n) ((stamp_text ++ decimal s) ++ feed_text) 12 18
    (after_text of_text 4 8 n (omega arith) (omega arith) g)
    (both (stamp_text ++ decimal s) feed_text 17 1 (after_text stamp_text 7 10 s (omega arith) (omega arith) h) (omega arith)))

-- The line of a load.
pub loaded-few : (t n s : ℕ) → t < 10 ^ 8 → n < 10 ^ 8 → s < 10 ^ 10 → length (loaded_line t n s) ≤ 50
unfolding loaded_line
loaded-few t n s f g h = both loaded_text (totals t n s) 7 43 (omega arith) (totals-few t n s f g h)

-- The line of a batch.
pub batch-few : (d : ℤ) (a b t n s : ℕ) → mag d < 2147483648 → a < 10 ^ 10 → b < 10 ^ 10 → t < 10 ^ 8 → n < 10 ^ 8 → s < 10 ^ 10
    → length (batch_line d a b t n s) ≤ 94
unfolding batch_line
batch-few d a b t n s e i j f g h =
    let x = totals t n s in
    both (net_text ++ signed d) ((visits_text ++ decimal a) ++ ((space_text ++ decimal b) ++ (space_text ++ x))) 21 73
    (both net_text (signed d) 10 11 (omega arith) (signed-few d e))
    (both (visits_text ++ decimal a) ((space_text ++ decimal b) ++ (space_text ++ x)) 18 55
    (after_text visits_text 8 10 a (omega arith) (omega arith) i)
    (both (space_text ++ decimal b) (space_text ++ x) 11 44
    (after_text space_text 1 10 b (omega arith) (omega arith) j)
    (both space_text x 1 43 (omega arith) (totals-few t n s f g h))))

-- A refusal whose number has at most two digits, and whose place at most k.
pub refused-few : (r p k : ℕ) → r < 10 ^ 2 → 0 < k → p < 10 ^ k → length (refused_line r p) ≤ 15 + k
unfolding refused_line
refused-few r p k f g h =
    let e = both (refused_text ++ decimal r) ((at_text ++ decimal p) ++ feed_text) 10 (4 + k + 1)
    (after_text refused_text 8 2 r (omega arith) (omega arith) f)
    (both (at_text ++ decimal p) feed_text (4 + k) 1 (after_text at_text 4 k p (omega arith) g h) (omega arith)) in
    omega arith
