-- The walk along the words of a variable's operands: at each word the pairs that lean by it are visited, and at the end all who lean on
-- the pair of x and s inside its block are. Assumes nothing.
use Rattle.std.specs.Prelude.{◌≡◌, refl, Bool, List, ℕ, suc, ◌*◌, ◌/◌, ◌-◌, ◌<◌, get_or}
use Rattle.std.proofs.Common.{sym, ap, ◌∙◌, arith}
use Rattle.std.proofs.Math.Path.{subst}
use Rattle.std.proofs.Math.ListN.{length}
use Rattle.engine_index.specs.Operands.{name_at, names_of, last_named, word_before, link_in, owner_in, Named}
use Rattle.engine_index.specs.OperandLaws.{name-at, word-before, word_some}
use Rattle.engine_turn.specs.Scene.{Scene, Standing, Line, visit_all, pairs_by, leaners_in, OperandOf, Bounded, Room}
use Rattle.engine_table.specs.Sketch.{sketch}
use Rattle.engine_turn.specs.ChainVisits.{OnChain, chain-begins, chain-at, chain-room, chain_fits, chain-goes, chain-ends}
use Rattle.engine_turn.specs.OperandWords.{slot-owner, slot-operand, slot-last, slot-inside, slot-before, slot_next, slot-falls}

-- The pairs that lean by the operands of the variable y on the state s.
abbrev pub pairs_on : Scene → ℕ → ℕ → List ℕ
pairs_on c s y = pairs_by c.sizes c.equations c.moves s y

-- The walk along the chain of x began with a line, and has come to the word o with another.
pub record AtWord (c : Scene) (ph : Bool) (x s : ℕ) (start : Line) (o : ℕ) (v : Line) : Type 0 where
  pub place : ℕ
  pub on : OnChain c ph (λ (w : ℕ). w) (names_of c.equations) (2 * length c.equations) x (λ (j : ℕ). pairs_on c s (j / 2)) start place v
  pub some : 0 < place
  pub word : o ≡ word_before c.sizes c.equations place

module _ {c : Scene} (g : Standing c) {operand : List ℕ} (d : Named (sketch c.sizes c.equations c.moves) operand) (ph : Bool)
    (x s : ℕ) (inside : x < length c.equations) (start : Line) where
  abbrev Walk : ℕ → Line → Type 0
  Walk k v = OnChain c ph (λ (w : ℕ). w) (names_of c.equations) (2 * length c.equations) x (λ (j : ℕ). pairs_on c s (j / 2)) start k v

  abbrev first : ℕ
  first = last_named c.equations x (2 * length c.equations)

  -- It begins at the word at x's own number; where that is 0, nobody leans on the pair.
  begun : Walk first start
  begun = chain-begins (λ (w : ℕ). w) (names_of c.equations) x (λ (j : ℕ). pairs_on c s (j / 2)) c ph (2 * length c.equations) start first refl

  pub walk_begins : (get_or operand x 0 ≡ 0 → ⊥) → AtWord c ph x s start (get_or operand x 0) start
  walk_begins h = record {
    place = first;
    on = begun;
    some = word-before c.sizes c.equations first (get_or operand x 0) (d.heads x inside) (omega (arith, h));
    word = d.heads x inside;
  }

  pub walk_none : get_or operand x 0 ≡ 0 → start ≡ visit_all c ph (leaners_in c.sizes c.equations c.moves x s) start
  unfolding leaners_in
  walk_none e =
      chain-ends (λ (w : ℕ). w) (names_of c.equations) x (λ (j : ℕ). pairs_on c s (j / 2)) c ph (2 * length c.equations) start first start begun
      (word_some c.sizes c.equations first (sym (d.heads x inside) ∙ e))

  module _ {o : ℕ} {v : Line} (w : AtWord c ph x s start o v) where
    -- The slot whose word it is, which names x.
    abbrev j : ℕ
    j = w.place - 1

    up : w.place ≡ suc j
    up = omega (arith, w.some)

    low : j < 2 * length c.equations
    low = omega (arith, w.on.below, w.some)

    at : get_or (names_of c.equations) j 0 ≡ x
    at = chain-at (λ (w : ℕ). w) (names_of c.equations) x (λ (j : ℕ). pairs_on c s (j / 2)) c ph (2 * length c.equations) start w.place j v w.on up

    is : name_at c.equations j ≡ x
    is = sym (name-at c.equations j low) ∙ at

    own : o ≡ word_before c.sizes c.equations (suc j)
    own = w.word ∙ ap (word_before c.sizes c.equations) up

    owner : owner_in o ≡ j / 2
    owner = slot-owner g d x j o low is inside own

    -- It is that of an operand, and there is room for the visits by it.
    pub walk-operand : OperandOf c o
    walk-operand = slot-operand g d x j o low is inside own

    pub walk-bounded : Bounded start.tail start.visits (leaners_in c.sizes c.equations c.moves x s) → Bounded v.tail v.visits (pairs_on c s (owner_in o))
    unfolding leaners_in
    walk-bounded b =
        subst (λ (y : ℕ). Bounded v.tail v.visits (pairs_on c s y)) (sym owner)
        (chain-room (λ (w : ℕ). w) (names_of c.equations) x (λ (j : ℕ). pairs_on c s (j / 2)) c ph (2 * length c.equations) start w.place j v w.on up b)

    pub walk-room : Room c ph (leaners_in c.sizes c.equations c.moves x s) start → Room c ph (pairs_on c s (owner_in o)) v
    unfolding leaners_in
    walk-room r =
        subst (λ (y : ℕ). Room c ph (pairs_on c s y) v) (sym owner)
        (chain_fits (λ (w : ℕ). w) (names_of c.equations) x (λ (j : ℕ). pairs_on c s (j / 2)) c ph (2 * length c.equations) start w.place j v w.on up r)

    -- After them the walk is done where the link is 0, and else goes on at the word that the link leads to.
    module _ {u : Line} (made : u ≡ visit_all c ph (pairs_on c s (owner_in o)) v) where
      abbrev last : ℕ
      last = last_named c.equations x j

      gone : Walk last u
      gone =
          chain-goes (λ (w : ℕ). w) (names_of c.equations) x (λ (j : ℕ). pairs_on c s (j / 2)) c ph (2 * length c.equations) start w.place j v u last w.on up
          (made ∙ ap (λ (y : ℕ). visit_all c ph (pairs_on c s y) v) owner) (ap (λ (t : ℕ). last_named c.equations t j) (sym at))

      pub walk-marks : length u.marks ≡ length start.marks
      walk-marks = gone.long_marks

      pub walk-queue : length u.queue ≡ length start.queue
      walk-queue = gone.long_queue

      pub walk_ends : (next : ℕ) → next ≡ link_in o → next ≡ 0 → u ≡ visit_all c ph (leaners_in c.sizes c.equations c.moves x s) start
      unfolding leaners_in
      walk_ends next is-next e =
          chain-ends (λ (w : ℕ). w) (names_of c.equations) x (λ (j : ℕ). pairs_on c s (j / 2)) c ph (2 * length c.equations) start last u gone
          (slot-last g d x j o low is inside own (sym is-next ∙ e))

      pub walk-goes : (next : ℕ) → next ≡ link_in o → (next ≡ 0 → ⊥) → AtWord c ph x s start (get_or operand next 0) u
      walk-goes next is-next h = record {
        place = last;
        on = gone;
        some = slot-before g d x j o low is inside own (λ e. h (is-next ∙ e));
        word = ap (λ (n : ℕ). get_or operand n 0) is-next ∙ slot_next g d x j o low is inside own (λ e. h (is-next ∙ e));
      }

    -- The link lies inside, and falls.
    module _ (next : ℕ) (is-next : next ≡ link_in o) (h : next ≡ 0 → ⊥) where
      pub walk_inside : next < length operand
      walk_inside = let k = slot-inside g d x j o low is inside own (λ e. h (is-next ∙ e)) in omega arith

      pub walk-falls : link_in (get_or operand next 0) < link_in o
      walk-falls =
          subst (λ (n : ℕ). link_in (get_or operand n 0) < link_in o) (sym is-next) (slot-falls g d x j o low is inside own (λ e. h (is-next ∙ e)))
