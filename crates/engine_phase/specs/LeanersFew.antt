-- How many pairs lean on one pair at most: for each variable two, or one for each move. Assumes nothing.
use Rattle.std.specs.Prelude.{Bool, true, false, ◌&&◌, cond, List, [], ◌∷◌, map, ℕ, zero, suc, ◌+◌, ◌*◌, ◌≤◌, eqb, length}
use Rattle.std.proofs.Common.{mul-le-mul_right, arith, length-append}
use Rattle.std.proofs.lemmas.List.{length-map}
use Rattle.rules.specs.Moves.{action, target, source}
use Rattle.rules.specs.Model.{Model}
use Rattle.rules.specs.Limits.{most_variables, most_moves}
use Rattle.rules.specs.Values.{Term, constant, proposition, join, step, pair, state, variable, variable_of, state_of, term_of, equation_at}
use Rattle.rules.specs.declared.State.{State}
use Rattle.rules.specs.declared.Action.{Action}
use Rattle.rules.specs.declared.Variable.{Variable}
use Rattle.laws.specs.model.ModelLeaners.{sources, leaners_via, leaners_on, leaners_to, leaners_of}

one_at_most : (b : Bool) (r : ℕ) → length (cond b (r ∷ []) []) ≤ 1
one_at_most true r = omega arith
one_at_most false r = omega arith

none_or : (b : Bool) (l : List ℕ) (k : ℕ) → length l ≤ k → length (cond b l []) ≤ k
none_or true l k h = h
none_or false l k h = omega arith

sources-few : (a : Action) (t : State) (l : List ℕ) → length (sources a t l) ≤ length l
sources-few a t [] = omega arith
sources-few a t (q ∷ l) =
    let h = sources-few a t l in
    let e = length-append (sources a t l) (cond (eqb (action q) a.0 && eqb (target q) t.0) (source q ∷ []) []) in
    let k = one_at_most (eqb (action q) a.0 && eqb (target q) t.0) (source q) in
    omega arith

via-few : (m : Model) (y x : Variable) (t : State) (e : Term) → length (leaners_via m y x t e) ≤ 2 + length m.moves
via-few m y x t (constant c) = omega arith
via-few m y x t (proposition c q) = omega arith
via-few m y x t (join k u w) =
    let r = pair m.sizes t y in
    let a = one_at_most (eqb u.0 x.0) r in
    let b = one_at_most (eqb w.0 x.0) r in
    let e = length-append (cond (eqb u.0 x.0) (r ∷ []) []) (cond (eqb w.0 x.0) (r ∷ []) []) in
    omega arith
via-few m y x t (step k a u) =
    let l = map (λ s. pair m.sizes (state s) y) (sources a t m.moves) in
    let e = length-map (sources a t m.moves) (λ (s : ℕ). pair m.sizes (state s) y) in
    let h = sources-few a t m.moves in
    none_or (eqb u.0 x.0) l (2 + length m.moves) (omega arith)

to-few : (m : Model) (x : Variable) (t : State) (n : ℕ) → length (leaners_to m x t n) ≤ n * (2 + length m.moves)
to-few m x t zero = omega arith
to-few m x t (suc n) =
    let h = to-few m x t n in
    let e = length-append (leaners_on m x t (variable n)) (leaners_to m x t n) in
    let k = none_or (eqb (equation_at m (variable n)).block (equation_at m x).block) (leaners_via m (variable n) x t (term_of (equation_at m (variable n)))) (2 + length m.moves)
    (via-few m (variable n) x t (term_of (equation_at m (variable n)))) in
    omega arith

-- The most that lean on one pair.
abbrev pub most_leaners : ℕ
most_leaners = most_variables * (2 + most_moves)

pub leaners-few : (m : Model) (q : ℕ) → m.sizes.variables ≤ most_variables → length m.moves ≤ most_moves → length (leaners_of m q) ≤ most_leaners
unfolding leaners_of
leaners-few m q h k =
    let a = to-few m (variable_of m.sizes q) (state_of m.sizes q) m.sizes.variables in
    let b = mul-le-mul_right {m = m.sizes.variables} {n = most_variables} (2 + length m.moves) h in
    omega arith
