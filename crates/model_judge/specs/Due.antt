-- Which records are due where, and that any other is refusal 2. Assumes nothing.
use Rattle.std.specs.Prelude.{◌≡◌, refl, Bool, true, false, cond, not, ◌&&◌, [], ◌∷◌, ℕ, ◌<◌, eqb, ltb}
use Rattle.std.proofs.Common.{ap, arith, lt-ltb, le-ltb, eq-eqb, ne_eqb}
use Rattle.lists.specs.Tests.{and_is, and_in, and_no, eqb_is, eqb_no, or_no}
use Rattle.rules.specs.Load.{Sofar, inside, moves_due, label_demands, block_demands, equation_demands, signed_demands, move_demands, end_demands, live_demands, signed_of}
use Rattle.rules.specs.Model.{signed}
use Rattle.rules.specs.Records.{no, numbers_of, Rec, field}
use Rattle.rules.specs.Rooms.{Lengths}
use Rattle.rules.specs.declared.Record.{Record}
use Rattle.rules.specs.declared.Sizes.{Sizes}
use Rattle.model_judge.specs.Demands.{fails}
use Rattle.model_judge.specs.Plain.{plain}
use Rattle.model_judge.specs.Progress.{sofar_of, Kept, KeptIn, LabelsDue, BlockDue, MovesDue}
use Rattle.model_judge.specs.declared.progress.Progress.{Progress}
use Rattle.laws.specs.bytes.Kinds.{Other, other-kinds}

-- Whether a record is due after the sizes, by its kind k.
abbrev due_at : Sofar → ℕ → Bool
due_at x k =
    cond (eqb k 2) (eqb x.blocks.count 0 && eqb x.blocks.equations 0)
    (cond (eqb k 3) (eqb x.blocks.due 0 && ltb x.blocks.count x.sizes.blocks)
    (cond (eqb k 4) (ltb 0 x.blocks.due)
    (cond (eqb k 5) (moves_due x)
    (cond (eqb k 6) (moves_due x)
    (cond (eqb k 10) (eqb x.labels 0 && eqb x.live 0)
    (cond (eqb k 11) (signed x.sizes && ltb x.blocks.equations x.sizes.variables)
    false))))))

-- What a choice between two comes to, by the one that is taken.
among : {A : Type 0} (b x y : Bool) (t u v : A) → cond b x y ≡ false → (x ≡ false → v ≡ t) → (y ≡ false → v ≡ u) → v ≡ cond b t u
among true x y t u v e f g = f e
among false x y t u v e f g = g e

-- A record that is not due is refused.
not-due : (l : Lengths) (x : Sofar) (r : Rec) → due_at x r.kind ≡ false → no 2 ≡ plain l (inside x) r
unfolding plain
not-due l x r e =
    let k = r.kind in
    let a = field r 0 in
    let b = field r 1 in
    let c = field r 2 in
    let d = field r 3 in
    among (eqb k 2) _ _ _ _ _ e (λ e. fails 0 (label_demands x a b) _ (ap not e))
    (λ e. among (eqb k 3) _ _ _ _ _ e (λ e. fails 0 (block_demands x a b) _ (ap not e))
    (λ e. among (eqb k 4) _ _ _ _ _ e (λ e. fails 0 (equation_demands x a b c) _ (ap not e))
    (λ e. among (eqb k 5) _ _ _ _ _ e (λ e. fails 0 (move_demands l x a b c) _ (ap not e))
    (λ e. among (eqb k 6) _ _ _ _ _ e (λ e. fails 0 (end_demands x) _ (ap not e))
    (λ e. among (eqb k 10) _ _ _ _ _ e (λ e. fails 0 (live_demands x) _ (ap not e))
    (λ e. among (eqb k 11) _ _ _ _ _ e (λ e. fails 0 (signed_demands x (signed_of a b c d)) _ (ap not e)) (λ e. refl)))))))

-- Where neither of two is due, none is.
neither : (b : Bool) → cond b false false ≡ false
neither true = refl
neither false = refl

-- Sizes with signs have no block; others have some.
pub no_blocks : (z : Sizes) → signed z ≡ true → z.blocks ≡ 0
no_blocks z h = (eqb_is z.blocks 0).0 h

some-blocks : (z : Sizes) → signed z ≡ false → 0 < z.blocks
some-blocks z h = let f = (eqb_no z.blocks 0).0 h in omega arith

-- Inside a block nothing but an equation is due.
pub equation-only : (l : Lengths) (x : Sofar) (r : Record) → Kept x → 0 < x.blocks.due → signed x.sizes ≡ false → Other (4 ∷ []) r
    → no 2 ≡ plain l (inside x) (numbers_of r)
equation-only l x r k h b m =
    let o = simp or_no at (other-kinds (4 ∷ []) r m) in
    not-due l x (numbers_of r) (simp (ne_eqb x.labels 0 (λ e. omega arith), ne_eqb x.blocks.count 0 (λ e. omega arith), ne_eqb x.blocks.due 0 (λ e. omega arith), b, o.0, neither))

-- Between two blocks nothing but a block is due.
pub block-only : (l : Lengths) (x : Sofar) (r : Record) → Kept x → x.blocks.due ≡ 0 → 0 < x.blocks.count → x.blocks.count < x.sizes.blocks
    → Other (3 ∷ []) r → no 2 ≡ plain l (inside x) (numbers_of r)
block-only l x r k d f h m =
    let o = simp or_no at (other-kinds (3 ∷ []) r m) in
    not-due l x (numbers_of r) (simp (d, ne_eqb x.labels 0 (λ e. omega arith), ne_eqb x.blocks.count 0 (λ e. omega arith), ne_eqb x.blocks.count x.sizes.blocks (λ e. omega arith), ne_eqb x.sizes.blocks 0 (λ e. omega arith), o.0, neither))

-- Before the first block nothing but a label, a block or the record of a live model is due.
pub label-or-block : (l : Lengths) (x : Sofar) (r : Record) → Kept x → x.blocks.count ≡ 0 → signed x.sizes ≡ false → Other (2 ∷ 3 ∷ 10 ∷ []) r
    → no 2 ≡ plain l (inside x) (numbers_of r)
label-or-block l x r k h b m =
    let some = some-blocks x.sizes b in
    let d : x.blocks.due ≡ 0 = omega arith in
    let o = simp or_no at (other-kinds (2 ∷ 3 ∷ 10 ∷ []) r m) in
    not-due l x (numbers_of r) (simp (d, ne_eqb x.blocks.count x.sizes.blocks (λ e. omega arith), b, o.0, o.1.0, o.1.1.0, neither))

-- Between two equations with signs nothing but such an equation is due.
pub signed-only : (l : Lengths) (x : Sofar) (r : Record) → Kept x → signed x.sizes ≡ true → 0 < x.blocks.equations → x.blocks.equations < x.sizes.variables
    → Other (11 ∷ []) r → no 2 ≡ plain l (inside x) (numbers_of r)
signed-only l x r k b f h m =
    let none = no_blocks x.sizes b in
    let d : x.blocks.due ≡ 0 = omega arith in
    let c : x.blocks.count ≡ 0 = omega arith in
    let o = simp or_no at (other-kinds (11 ∷ []) r m) in
    not-due l x (numbers_of r) (simp (d, c, none, ne_eqb x.labels 0 (λ e. omega arith), ne_eqb x.blocks.equations 0 (λ e. omega arith), ne_eqb x.blocks.equations x.sizes.variables (λ e. omega arith), o.0, neither))

-- Before the first of them nothing but a label, such an equation or the record of a live model is due.
pub label-or-signed : (l : Lengths) (x : Sofar) (r : Record) → Kept x → signed x.sizes ≡ true → x.blocks.equations ≡ 0
    → Other (2 ∷ 10 ∷ 11 ∷ []) r → no 2 ≡ plain l (inside x) (numbers_of r)
label-or-signed l x r k b f m =
    let none = no_blocks x.sizes b in
    let d : x.blocks.due ≡ 0 = omega arith in
    let c : x.blocks.count ≡ 0 = omega arith in
    let o = simp or_no at (other-kinds (2 ∷ 10 ∷ 11 ∷ []) r m) in
    not-due l x (numbers_of r) (simp (d, c, none, ne_eqb x.blocks.equations x.sizes.variables (λ e. omega arith), o.0, o.1.0, o.1.1.0, neither))

-- Where moves are due, no equation is, all blocks have begun, and all equations have been read.
pub all_read : (x : Sofar) → moves_due x ≡ true → (x.blocks.due ≡ 0) × (x.blocks.count ≡ x.sizes.blocks) × (x.blocks.equations ≡ x.sizes.variables)
all_read x h = let k = simp and_is at h in ((eqb_is _ _).0 k.0.0, (eqb_is _ _).0 k.0.1, (eqb_is _ _).0 k.1)

-- There nothing but a move or the end is due.
pub move-or-end : (l : Lengths) (x : Sofar) (r : Record) → Kept x → moves_due x ≡ true → Other (5 ∷ 6 ∷ []) r
    → no 2 ≡ plain l (inside x) (numbers_of r)
move-or-end l x r k h m =
    let e = all_read x h in
    let o = simp or_no at (other-kinds (5 ∷ 6 ∷ []) r m) in
    not-due l x (numbers_of r) (simp (e.0, ne_eqb x.labels 0 (λ z. omega arith), ne_eqb x.blocks.equations 0 (λ z. omega arith), le-ltb x.blocks.count x.sizes.blocks (omega arith), le-ltb x.blocks.equations x.sizes.variables (omega arith), and_no (eqb x.blocks.count 0) {y = false} refl, and_no (eqb x.sizes.blocks 0) {y = false} refl, o.0, o.1.0, neither))

-- The first demands of a label, of a block, of an equation, of one with a sign and of a move, each where it is due.
pub label-due : (x : Sofar) → (x.blocks.count ≡ 0) × (x.blocks.equations ≡ 0) → not (eqb x.blocks.count 0 && eqb x.blocks.equations 0) ≡ false
label-due x h = ap not (and_in (eq-eqb x.blocks.count 0 h.0) (eq-eqb x.blocks.equations 0 h.1))

pub block-due : (x : Sofar) → (x.blocks.due ≡ 0) × (x.blocks.count < x.sizes.blocks) → not (eqb x.blocks.due 0 && ltb x.blocks.count x.sizes.blocks) ≡ false
block-due x h = ap not (and_in (eq-eqb x.blocks.due 0 h.0) (lt-ltb x.blocks.count x.sizes.blocks h.1))

pub equation-due : (x : Sofar) → 0 < x.blocks.due → not (ltb 0 x.blocks.due) ≡ false
equation-due x h = ap not (lt-ltb 0 x.blocks.due h)

pub signed-due : (x : Sofar) → (signed x.sizes ≡ true) × (x.blocks.equations < x.sizes.variables)
    → not (signed x.sizes && ltb x.blocks.equations x.sizes.variables) ≡ false
signed-due x h = ap not (and_in h.0 (lt-ltb x.blocks.equations x.sizes.variables h.1))

-- What is due in a model half read: labels before the first equation with a sign or the first block, the first block, and moves
-- after the last equation of either style.
moves-due : (x : Sofar) → x.blocks.due ≡ 0 → x.blocks.count ≡ x.sizes.blocks → x.blocks.equations ≡ x.sizes.variables → moves_due x ≡ true
moves-due x d c e =
    and_in (and_in (eq-eqb x.blocks.due 0 d) (eq-eqb x.blocks.count x.sizes.blocks c)) (eq-eqb x.blocks.equations x.sizes.variables e)

pub labels-told : (x : Progress) → (eqb x.blocks.count 0 && eqb x.blocks.equations 0) ≡ true → LabelsDue x
labels-told x h = let k = (and_is (eqb x.blocks.count 0) (eqb x.blocks.equations 0)).0 h in ((eqb_is x.blocks.count 0).0 k.0, (eqb_is x.blocks.equations 0).0 k.1)

pub labels-before-signs : (x : Progress) → KeptIn x → signed x.sizes ≡ true → x.blocks.equations ≡ 0 → LabelsDue x
labels-before-signs x k b e = let none = no_blocks x.sizes b in (omega arith, e)

pub labels-before-blocks : (x : Progress) → KeptIn x → signed x.sizes ≡ false → x.blocks.count ≡ 0 → LabelsDue x
labels-before-blocks x k b e = let some = some-blocks x.sizes b in (e, omega arith)

pub first_block : (x : Progress) → KeptIn x → signed x.sizes ≡ false → x.blocks.count ≡ 0 → BlockDue x
first_block x k b e = let some = some-blocks x.sizes b in (omega arith, omega arith)

pub moves-after-signs : (x : Progress) → KeptIn x → signed x.sizes ≡ true → x.blocks.equations ≡ x.sizes.variables → MovesDue x
moves-after-signs x k b e = let none = no_blocks x.sizes b in moves-due (sofar_of x) (omega arith) (omega arith) e

pub moves-after-blocks : (x : Progress) → KeptIn x → signed x.sizes ≡ false → x.blocks.due ≡ 0 → x.blocks.count ≡ x.sizes.blocks → MovesDue x
moves-after-blocks x k b d e = let some = some-blocks x.sizes b in moves-due (sofar_of x) d e (omega arith)
