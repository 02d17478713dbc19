-- The equations that stored words hold, and what is asked of their chains and numbers: the code's test is the rules'.
-- Assumes nothing.
use Rattle.std.specs.Prelude.{◌≡◌, refl, Bool, cond, not, ◌&&◌, List, [], ◌∷◌, map, ℕ, suc, ◌+◌, ◌≤◌, length, get_or, take, eqb}
use Rattle.std.specs.List.{prefix_len}
use Rattle.std.proofs.Common.{sym, ap, ap₂, ◌∙◌, add-one, arith, length-take}
use Rattle.std.proofs.lemmas.List.{length-map}
use Rattle.std.proofs.Math.ListN.{get_or-map}
use Rattle.lists.specs.Lists.{some_below, each_below, lowest}
use Rattle.lists.specs.Ranges.{some_same, lowest-same, each_same, none-lowest}
use Rattle.rules.specs.Model.{equation_in, run_of, guilty, component_in}
use Rattle.rules.specs.declared.Equation.{Equation}
use Rattle.rules.specs.Session.{unword}
use Rattle.model_chains.specs.Reaching.{Reaches}
use Rattle.model_chains.specs.Numbering.{guilty_by, lowest_by, number_by, numbers_by, component-is, guilty-is}

-- The equations of the first n words.
abbrev pub held : ℕ → List ℕ → List Equation
held n ws = map unword (take n ws)

-- What the rules ask of equations with signs, besides numbers in range.
unfoldable pub chains_ok : List Equation → Bool
chains_ok es = not (some_below (length es) (guilty es)) && each_below (length es) (λ x. eqb (equation_in es x).block (component_in es x))

-- The equation of each variable is its word's, past the last too: a word that is 0 names nothing.
pub told_at : (ws : List ℕ) (x : ℕ) → equation_in (map unword ws) x ≡ unword (get_or ws x 0)
told_at ws x = get_or-map unword ws x 0

-- There are n, where there are as many words.
pub held-length : (n : ℕ) (ws : List ℕ) → n ≤ length ws → length (held n ws) ≡ n
held-length n ws h = let a = length-map (take n ws) unword in let b = length-take n ws in omega arith

-- The code's test is the rules', from what code has in hand: n is the number of equations.
pub chains-by : (es : List Equation) (l : List ℕ) (n low : ℕ) (ok : Bool) → Reaches es l → length l ≡ length es → n ≡ length l → low ≡ lowest_by es l
    → ok ≡ numbers_by es l (length l) → (eqb low n && ok) ≡ chains_ok es
unfolding chains_ok lowest_by numbers_by number_by
chains-by es l n low ok r long c e f =
    ap₂ (λ (x : ℕ) (y : Bool). eqb x n && y) e f
    ∙ ap (λ (k : ℕ). eqb (lowest (length l) (guilty_by es l)) k && each_below (length l) (number_by es l)) c
    ∙ ap (λ (k : ℕ). eqb (lowest k (guilty_by es l)) k && each_below k (number_by es l)) long
    ∙ ap₂ (λ (x y : Bool). x && y)
    (none-lowest (length es) (guilty_by es l) ∙ ap not (some_same (length es) (guilty_by es l) (guilty es) (guilty-is es l r long)))
    (each_same (length es) (number_by es l) (λ x. eqb (equation_in es x).block (component_in es x)) (λ x h. ap (eqb (equation_in es x).block) (component-is es l r long x)))

-- And so is the lowest guilty equation.
pub lowest_by_lem : (es : List Equation) (l : List ℕ) (n low : ℕ) → Reaches es l → length l ≡ length es → n ≡ length es → low ≡ lowest_by es l → low ≡ lowest n (guilty es)
unfolding lowest_by
lowest_by_lem es l n low r long c e =
    e ∙ ap (λ (k : ℕ). lowest k (guilty_by es l)) long ∙ lowest-same (length es) (guilty_by es l) (guilty es) (guilty-is es l r long)
    ∙ ap (λ (k : ℕ). lowest k (guilty es)) (sym c)

-- A run of words whose equations stand in the block with number b - 1 is a run of those equations.
pub run_is : (b : ℕ) (ws : List ℕ) → prefix_len (λ w. eqb ((unword w).block + 1) b) ws ≡ run_of b (map unword ws)
run_is b [] = refl
run_is b (w ∷ ws) =
    ap₂ (λ (k r : ℕ). cond (eqb k b) r 0) (add-one (unword w).block) (ap (λ (r : ℕ). 1 + r) (run_is b ws) ∙ one-add (run_of b (map unword ws)))
  where
    one-add : (n : ℕ) → 1 + n ≡ suc n
    one-add n = omega arith
