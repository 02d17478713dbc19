-- The index of a table's moves is built from empty heads, one move after the other. Assumes nothing.
use Rattle.std.specs.Prelude.{◌≡◌, List, ℕ, ◌+◌, ◌*◌, ◌≤◌, ◌<◌, length, get_or}
use Rattle.std.proofs.Common.{sym, ap, ◌∙◌, subst, mul-le-mul_right, zero-add, arith}
use Rattle.rules.specs.Limits.{most_moves}
use Rattle.rules.specs.Moves.{action, target}
use Rattle.rules.specs.declared.Sizes.{Sizes}
use Rattle.engine_table.specs.Table.{Table, Drawn}
use Rattle.engine_table.specs.Limits.{limits, move-inside}
use Rattle.engine_index.specs.Chains.{linked}
use Rattle.engine_index.specs.ChainLaws.{chained, linked_long}
use Rattle.engine_index.specs.Indexed.{key_of, heads_of, Indexed}

-- Moves that an index can hold: there are not too many, and each has a head.
pub record Headed (z : Sizes) (moves : List ℕ) : Type 0 where
  pub few : length moves ≤ most_moves
  pub inside : (j : ℕ) → j < length moves → key_of z (get_or moves j 0) < heads_of z

-- An action and a target inside the limits have a head.
pub key-inside : (z : Sizes) (a t : ℕ) → a < z.actions → t < z.states → a * z.states + t < heads_of z
key-inside z a t h k = let p = mul-le-mul_right z.states h in omega arith

-- The moves of a model inside the limits are such.
pub drawn-headed : {t : Table} → Drawn t → Headed t.sizes t.moves
drawn-headed {t} d = record {
  few = (limits d).1.1.1;
  inside = λ j h. let i = move-inside d j h in key-inside t.sizes (action (get_or t.moves j 0)) (target (get_or t.moves j 0)) i.1.0 i.1.1;
}

-- Moves chained in a room whose heads were empty are indexed.
pub indexed : (t : Table) (r q : List ℕ) → Headed t.sizes t.moves → heads_of t.sizes + length t.moves ≤ length r
    → ((i : ℕ) → i < heads_of t.sizes → get_or r i 0 ≡ 0)
    → q ≡ linked (key_of t.sizes) 0 (heads_of t.sizes) t.moves (length t.moves) r → Indexed t q
indexed t r q d long none e =
    let z = t.sizes in
    let n = length t.moves in
    subst (Indexed t) (sym e) (record {
      long = let l = linked_long (key_of z) 0 (heads_of z) t.moves n r in omega arith;
      chained = chained (key_of z) 0 (heads_of z) t.moves r (λ i h. ap (λ (j : ℕ). get_or r j 0) (zero-add i) ∙ none i (omega arith)) n long (λ j h. let k = d.inside j h in omega arith);
    })
