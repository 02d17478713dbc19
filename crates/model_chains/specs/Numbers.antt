-- Words of equations with the numbers of their components: what is stored is what placing gives. Assumes nothing.
use Rattle.std.specs.Prelude.{◌≡◌, List, map, ◌++◌, ℕ, ◌+◌, ◌≤◌, ◌<◌, length, get_or, drop, set}
use Rattle.std.proofs.Common.{sym, ap, ap₂, ◌∙◌, arith}
use Rattle.std.proofs.lemmas.List.{length-map}
use Rattle.std.proofs.Math.ListN.{get_or-map}
use Rattle.lists.specs.Lists.{fill}
use Rattle.rules.specs.Model.{nothing, component_in, placed}
use Rattle.laws.specs.chains.Placed.{with_block, numbered-length, numbered_is}
use Rattle.rules.specs.Session.{word, unword}
use Rattle.model_chains.specs.Filled.{Filled, filled-past, filled_next, filled-whole}
use Rattle.model_chains.specs.Reaching.{Reaches}
use Rattle.model_chains.specs.Numbering.{component_by, component-is}
use Rattle.model_chains.specs.Stored.{held, held-length, told_at}

-- The word that place x is to hold.
unfoldable pub numbered_at : List ℕ → ℕ → ℕ
numbered_at ws x = word (with_block (component_in (map unword ws) x) (unword (get_or ws x 0)))

-- The words below k have their components' numbers; the others are as they were.
abbrev pub Numbered : List ℕ → ℕ → List ℕ → Type 0
Numbered ws k out = Filled (numbered_at ws) ws k out

-- One word more, from what code has in hand.
pub numbered_next : (ws l : List ℕ) (k : ℕ) (out last : List ℕ) (c v : ℕ) → Reaches (map unword ws) l → length l ≡ length ws → Numbered ws k out → k < length ws
    → c ≡ component_by l k → v ≡ word (with_block c (unword (get_or out k 0))) → last ≡ set out k v → Numbered ws (k + 1) last
unfolding numbered_at
numbered_next ws l k out last c v r long d lt f g s =
    let a : get_or out k 0 ≡ get_or ws k 0 = filled-past (numbered_at ws) ws d k (omega arith) in
    let b : v ≡ numbered_at ws k = g ∙ ap₂ (λ (x y : ℕ). word (with_block x (unword y))) (f ∙ component-is (map unword ws) l r (long ∙ sym (length-map ws unword)) k) a in
    filled_next (numbered_at ws) ws k out last v d lt b s

-- In the end they are the words of the equations with their components for blocks.
pub numbered-list : (ws out : List ℕ) → Numbered ws (length ws) out → out ≡ map word (placed (map unword ws))
unfolding placed numbered_at
numbered-list ws out d =
    let es = map unword ws in
    let long : length (placed es) ≡ length ws = numbered-length (component_in es) 0 es ∙ length-map ws unword in
    filled-whole (numbered_at ws) ws (map word (placed es)) out (length-map (placed es) word ∙ long) d
    (λ x l. sym (get_or-map word (placed es) x nothing
    ∙ ap word (numbered_is (component_in es) es x (let c = length-map ws unword in omega arith) ∙ ap (with_block (component_in es x)) (told_at ws x))))

-- A room whose first n words are so numbered.
pub numbered-front : (n : ℕ) (ws part : List ℕ) → n ≤ length ws → part ≡ map word (placed (held n ws)) → part ++ drop n ws ≡ fill (map word (placed (held n ws))) ws
unfolding placed
numbered-front n ws part h e =
    let es = held n ws in
    let long : length (map word (placed es)) ≡ n = length-map (placed es) word ∙ numbered-length (component_in es) 0 es ∙ held-length n ws h in
    ap₂ (λ (l : List ℕ) (k : ℕ). l ++ drop k ws) e (sym long)
