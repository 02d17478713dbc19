-- The refusals by the table of their numbers (`number_of`, rules/specs/Answers): each has one, no two have the same, and a refusal
-- is known by its number. One computed test shows it of the whole table. Assumes nothing.
use Rattle.std.specs.Prelude.{◌≡◌, refl, Bool, true, ◌&&◌, List, map, ℕ, ◌<◌, ltb}
use Rattle.lists.specs.Cases.{bare, cases, distinct, numbered, numbered_is, numbered-back, case-told}
use Rattle.lists.specs.Lists.{elem}
use Rattle.lists.specs.Tests.{all-at, ltb-is}
use Rattle.rules.specs.Answers.{number_of}
use Rattle.rules.specs.declared.Refusal.{Refusal}
use Rattle.rules.specs.declared.Refusal.TheVariants as Why
use Rattle.rules.specs.contracts.Refusal.{enum}

-- All refusals, and the paper's numbers.
abbrev pub refusals : List Refusal
refusals = cases enum.parts enum.make

abbrev pub numbers : List ℕ
numbers = map number_of refusals

abbrev pub paper : ℕ → Bool
paper n = elem n numbers

-- The test of the table: a refusal holds nothing but its case, and no two have one number.
table : (bare enum.parts && distinct numbers) ≡ true
table = refl

-- The refusal of a number; any where no refusal has it.
abbrev pub refusal_of : ℕ → Refusal
refusal_of n = numbered number_of n Why.Broken refusals

-- A refusal is that of its number, and each of the paper's numbers is that of its refusal.
pub refusal-back : (r : Refusal) → refusal_of (number_of r) ≡ r
refusal-back r = numbered-back enum number_of table Why.Broken r

pub number-back : (n : ℕ) → paper n ≡ true → number_of (refusal_of n) ≡ n
number-back n h = numbered_is number_of n Why.Broken refusals h

-- Each of the paper's numbers, and so the number of each refusal, has at most two digits.
pub paper-few : (n : ℕ) → paper n ≡ true → n < 100
paper-few n h = (ltb-is n 100).0 (all-at (λ k. ltb k 100) numbers n refl h)

pub number-few : (r : Refusal) → number_of r < 100
number-few r = paper-few (number_of r) (case-told enum number_of table r)
