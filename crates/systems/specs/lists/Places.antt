-- From place to place, as loops over variables, phases and blocks go: what seeking finds from a place is what it finds from the
-- next one, where there is nothing to do in between.
-- Assumes nothing.
use Rattle.std.specs.Prelude.{◌≡◌, Bool, true, false, not, cond, ℕ, zero, suc, ◌+◌, ◌-◌, ◌≤◌, ◌<◌, ltb}
use Rattle.std.proofs.Common.{sym, ap, ap₂, ◌∙◌, inl, inr, add-zero, add-suc, arith}
use Rattle.lists.specs.Tests.{tell, ltb-in, ltb_no, eqb-in, eqb_no, cond_yes, cond_no}
use Rattle.systems.specs.solution.System.{Frame}
use Rattle.systems.specs.lists.ListMachine.{Job, Place, next_pair, pair_from, next_block, seek, phases, moved, emptied, seek_l}

-- In a block that is not past the last, some phase is left.
some-phase : (F : Frame) (i : ℕ) → i < F.blocks → (ph : Bool) → phases (F.blocks - i) ph ≡ suc (phases (F.blocks - next_block ph i) (not ph))
some-phase F i b false = omega arith
some-phase F i b true = omega arith

-- At a pair of the block nothing is sought.
pub seek-stays : (F : Frame) (d : Job) → d.block < F.blocks → d.place < F.pairs → F.block d.place ≡ d.block
    → (d.pile.tail ≤ d.pile.from → (d.pile.from ≡ 0) × (d.pile.tail ≡ 0)) → seek_l F d ≡ d
unfolding seek_l
seek-stays F d b l h z =
    elim (tell true (ltb d.pile.from d.pile.tail)) [
      | inl e ↦
          cond_yes (moved here d.pile d) (moved there (emptied d.pile) d) e
          ∙ ap (λ (r : ℕ). moved (record { block = d.block; settling = d.settling; place = r }) d.pile d) same
      | inr e ↦
          let y = z ((ltb_no d.pile.from d.pile.tail).0 e) in
          cond_no (moved here d.pile d) (moved there (emptied d.pile) d) e
          ∙ ap (λ (s : Place). moved s (emptied d.pile) d) (found d.settling)
          ∙ ap₂ (λ (m : ℕ) (n : ℕ). moved (record { block = d.block; settling = d.settling; place = d.place })
          (record { marks = d.pile.marks; queue = d.pile.queue; from = m; tail = n }) d) (sym y.0) (sym y.1)
    ]
  where
    here : Place
    here = record { block = d.block; settling = d.settling; place = pair_from F d.block d.place }

    there : Place
    there = seek F (phases (F.blocks - d.block) d.settling) d.block d.settling d.place

    same : pair_from F d.block d.place ≡ d.place
    same =
        ap (next_pair F d.block d.place) (let e : F.pairs - d.place ≡ suc (F.pairs - suc d.place) = omega arith in e)
        ∙ cond_yes d.place (next_pair F d.block (suc d.place) (F.pairs - suc d.place)) (eqb-in (F.block d.place) d.block h)

    found : (ph : Bool) → seek F (phases (F.blocks - d.block) ph) d.block ph d.place ≡ record { block = d.block; settling = ph; place = d.place }
    found ph =
        let r = pair_from F d.block d.place in
        ap (λ (n : ℕ). seek F n d.block ph d.place) (some-phase F d.block b ph)
        ∙ cond_yes (record { block = d.block; settling = ph; place = r }) (seek F (phases (F.blocks - next_block ph d.block) (not ph)) (next_block ph d.block) (not ph) 0)
        (ltb-in r F.pairs (let e = same in omega arith))
        ∙ ap {B = Place} (λ (y : ℕ). record { block = d.block; settling = ph; place = y }) same

-- The place k pairs further.
abbrev pub onward : ℕ → Job → Job
onward k d = moved (record { block = d.block; settling = d.settling; place = d.place + k }) d.pile d

-- The first pair of the next phase, with nothing in the queue.
abbrev pub next_phase : Job → Job
next_phase d = moved (record { block = next_block d.settling d.block; settling = not d.settling; place = 0 }) (emptied d.pile) d

-- Pairs of other blocks are passed by.
pair-passes : (F : Frame) (i p : ℕ) (k : ℕ) → p + k ≤ F.pairs → ((j : ℕ) → j < k → F.block (p + j) ≡ i → ⊥) → pair_from F i p ≡ pair_from F i (p + k)
pair-passes F i p zero h n = ap (pair_from F i) (sym (add-zero p))
pair-passes F i p (suc k) h n =
    let a = add-suc p k in
    let r = F.pairs - suc (p + k) in
    pair-passes F i p k (omega arith) (λ j l. n j (omega arith))
    ∙ ap (next_pair F i (p + k)) (let e : F.pairs - (p + k) ≡ suc r = omega arith in e)
    ∙ cond_no (p + k) (next_pair F i (suc (p + k)) r) ((eqb_no (F.block (p + k)) i).1 (n k (omega arith)))
    ∙ ap (pair_from F i) (sym a)

-- Pairs of other blocks are passed by.
pub seek-passes : (F : Frame) (d : Job) (k : ℕ) → d.block < F.blocks → d.place + k ≤ F.pairs → ((j : ℕ) → j < k → F.block (d.place + j) ≡ d.block → ⊥)
    → seek_l F d ≡ seek_l F (onward k d)
unfolding seek_l
seek-passes F d k b h n =
    let i = d.block in
    let ph = d.settling in
    let e = some-phase F i b ph in
    let m = phases (F.blocks - next_block ph i) (not ph) in
    let at : ℕ → Place = λ r. record { block = i; settling = ph; place = r } in
    let found : ℕ → Place = λ r. cond (ltb r F.pairs) (at r) (seek F m (next_block ph i) (not ph) 0) in
    let to : ℕ → Job = λ r. cond (ltb d.pile.from d.pile.tail) (moved (at r) d.pile d) (moved (found r) (emptied d.pile) d) in
    ap (λ (y : ℕ). cond (ltb d.pile.from d.pile.tail) (moved (at (pair_from F i d.place)) d.pile d) (moved (seek F y i ph d.place) (emptied d.pile) d)) e
    ∙ ap to (pair-passes F i d.place k h n)
    ∙ sym (ap (λ (y : ℕ). cond (ltb d.pile.from d.pile.tail) (moved (at (pair_from F i (d.place + k))) d.pile d) (moved (seek F y i ph (d.place + k)) (emptied d.pile) d)) e)

-- Past all pairs, where some wait, they turn.
pub seek-turn : (F : Frame) (d : Job) → F.pairs ≤ d.place → d.pile.from < d.pile.tail → seek_l F d ≡ d
unfolding seek_l
seek-turn F d h l =
    cond_yes (moved (record { block = d.block; settling = d.settling; place = pair_from F d.block d.place }) d.pile d)
    (moved (seek F (phases (F.blocks - d.block) d.settling) d.block d.settling d.place) (emptied d.pile) d) (ltb-in d.pile.from d.pile.tail l)
    ∙ ap (λ (n : ℕ). moved (record { block = d.block; settling = d.settling; place = next_pair F d.block d.place n }) d.pile d)
    (let e : F.pairs - d.place ≡ 0 = omega arith in e)

-- Past all pairs, where none waits, the next phase is entered.
pub seek-over : (F : Frame) (d : Job) → d.block < F.blocks → F.pairs ≤ d.place → d.pile.tail ≤ d.pile.from → seek_l F d ≡ seek_l F (next_phase d)
unfolding seek_l
seek-over F d b h l =
    let i = d.block in
    let ph = d.settling in
    let m = phases (F.blocks - next_block ph i) (not ph) in
    let r = pair_from F i d.place in
    let z : r ≡ d.place = ap (next_pair F i d.place) (let e : F.pairs - d.place ≡ 0 = omega arith in e) in
    cond_no (moved (record { block = i; settling = ph; place = r }) d.pile d) (moved (seek F (phases (F.blocks - i) ph) i ph d.place) (emptied d.pile) d)
    ((ltb_no d.pile.from d.pile.tail).1 l)
    ∙ ap (λ (y : ℕ). moved (seek F y i ph d.place) (emptied d.pile) d) (some-phase F i b ph)
    ∙ ap (λ (s : Place). moved s (emptied d.pile) d)
    (cond_no (record { block = i; settling = ph; place = r }) (seek F m (next_block ph i) (not ph) 0) ((ltb_no r F.pairs).1 (omega arith)))

-- Past the last block nothing is sought.
pub seek-done : (F : Frame) (d : Job) → F.blocks ≤ d.block → d.pile.from ≡ 0 → d.pile.tail ≡ 0 → seek_l F d ≡ d
unfolding seek_l
seek-done F d b f t =
    cond_no (moved (record { block = d.block; settling = d.settling; place = pair_from F d.block d.place }) d.pile d)
    (moved (seek F (phases (F.blocks - d.block) d.settling) d.block d.settling d.place) (emptied d.pile) d)
    ((ltb_no d.pile.from d.pile.tail).1 (omega arith))
    ∙ ap (λ (y : ℕ). moved (seek F y d.block d.settling d.place) (emptied d.pile) d) (none d.settling)
    ∙ ap₂ (λ (m : ℕ) (n : ℕ). moved (record { block = d.block; settling = d.settling; place = d.place })
    (record { marks = d.pile.marks; queue = d.pile.queue; from = m; tail = n }) d) (sym f) (sym t)
  where
    none : (ph : Bool) → phases (F.blocks - d.block) ph ≡ 0
    none false = omega arith
    none true = omega arith
