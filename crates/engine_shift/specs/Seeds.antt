-- What seeds a shift, in the words that lie in the rooms. Definitions only.
use Rattle.std.specs.Prelude.{◌≡◌, Bool, true, false, not, cond, ◌&&◌, ◌||◌, List, ℕ, ◌+◌, ◌*◌, ◌/◌, ◌%◌, ◌<◌, length, get_or, eqb, ltb}
use Rattle.lists.specs.Lists.{is, any}
use Rattle.rules.specs.Moves.{source, action, target}
use Rattle.rules.specs.Session.{unword}
use Rattle.rules.specs.declared.Sizes.{Sizes}
use Rattle.engine_rows.specs.Rooms.{Bits}

-- Is the mark of the pair q odd?
abbrev pub odd_at : List ℕ → ℕ → Bool
odd_at marks q = eqb (get_or marks q 0 % 2) 1

-- Is it odd, and has the pair the value k?
abbrev pub gone_to : List ℕ → List ℕ → ℕ → ℕ → Bool
gone_to values marks k q = odd_at marks q && eqb (get_or values q 0) k

-- Is the old value of the pair q not k? It is the value, turned round where the mark is odd if the pair is of an earlier block.
unfoldable pub was_not : List ℕ → List ℕ → Bool → ℕ → ℕ → Bool
was_not values marks earlier k q = cond (earlier && odd_at marks q) (eqb (get_or values q 0) k) (not (eqb (get_or values q 0) k))

-- Is the change w one of a move with the action a: an insert where gaining counts, a delete where losing does?
abbrev pub of_kind : Bool → ℕ → ℕ → Bool
of_kind gaining a w = eqb (action (w / 2)) a && is gaining (eqb (w % 2) 1)

-- And if it is a delete, is the old value of the pair that its move leads to, in the row that begins at `from`, not k?
unfoldable pub touches : List ℕ → List ℕ → Bool → Bool → ℕ → ℕ → ℕ → ℕ → Bool
unfolding was_not
touches values marks earlier gaining k a from w = of_kind gaining a w && (gaining || was_not values marks earlier k (from + target (w / 2)))

-- Is the variable x of a block before i, as its word says?
abbrev pub earlier_in : List ℕ → ℕ → ℕ → Bool
earlier_in equations x i = ltb (unword (get_or equations x 0)).block i

-- The states that an "or" or an "and" of the variables x and y, in the block i with the own value k, seeds: one of the two is of an
-- earlier block, and its pair went to k.
unfoldable pub join_seeds : Sizes → List ℕ → List ℕ → List ℕ → ℕ → ℕ → ℕ → ℕ → ℕ → Bool
join_seeds z equations values marks x y i k s =
    (earlier_in equations x i && gone_to values marks k (x * z.states + s)) || (earlier_in equations y i && gone_to values marks k (y * z.states + s))

-- Does a move of the state s with the action a lead to a pair, in the row that begins at `from`, that went?
unfoldable pub leads_gone : List ℕ → List ℕ → List ℕ → ℕ → ℕ → ℕ → ℕ → Bool
leads_gone moves values marks k a from s = any (λ q. (eqb (source q) s && eqb (action q) a) && gone_to values marks k (from + target q)) moves

-- Does a change at the state s touch so?
unfoldable pub touches_at : List ℕ → List ℕ → List ℕ → Bool → Bool → ℕ → ℕ → ℕ → ℕ → Bool
unfolding touches
touches_at changes values marks earlier gaining k a from s = any (λ w. touches values marks earlier gaining k a from w && eqb (source (w / 2)) s) changes

-- The states that a diamond or a box of the action a and the variable x, in the block i with the own value k, seeds.
unfoldable pub step_seeds : Sizes → List ℕ → List ℕ → List ℕ → List ℕ → List ℕ → Bool → ℕ → ℕ → ℕ → ℕ → ℕ → Bool
unfolding touches_at leads_gone
step_seeds z equations moves changes values marks gaining a x i k s =
    touches_at changes values marks (earlier_in equations x i) gaining k a (x * z.states) s
    || (earlier_in equations x i && leads_gone moves values marks k a (x * z.states) s)

-- What `bad` and an answer r tell of a row of n places, where f is the test: `bad` is 1 where it is passed; and where the answer is no,
-- none passes it.
pub record Shows (n : ℕ) (f : ℕ → Bool) (bad : List ℕ) (r : Bool) : Type 0 where
  pub long : length bad ≡ n
  pub bits : r ≡ true → Bits bad
  pub yes : r ≡ true → (s : ℕ) → s < n → f s ≡ eqb (get_or bad s 0) 1
  pub no : r ≡ false → (s : ℕ) → s < n → f s ≡ false
