-- Demand 3, of an accepted batch: the pairs shifted and settled are exactly the rule's, the marks tell which and how each
-- value turned, each turned pair is touched or leads to a touched one, and the visits are counted as the rule says.
-- Assumes nothing.
use Rattle.std.specs.Prelude.{◌≡◌, refl, Bool, true, false, not, cond, ◌||◌, List, [], ◌∷◌, map, ℕ, ◌+◌, ◌*◌, ◌≤◌, ◌<◌, get_or, eqb, ltb}
use Rattle.std.proofs.Common.{sym, ◌∙◌, subst, inl, inr, arith}
use Rattle.std.proofs.Math.Path.{ap, ap₂}
use Rattle.lists.specs.Marks.{mark_of}
use Rattle.lists.specs.Lists.{any, fill}
use Rattle.lists.specs.Smallest.{Rule, at, table, smallest}
use Rattle.lists.specs.Sets.{Sub}
use Rattle.lists.specs.SmallestLaws.{smallest-closed, smallest-least}
use Rattle.lists.specs.Tests.{◌∈◌, tell, or_no, eqb-out}
use Rattle.lists.specs.TableLaws.{table_at, listed-is, listed-length}
use Rattle.systems.specs.solution.System as S
use Rattle.systems.specs.moving.Marks.{mark}
use Rattle.systems.specs.moving.Marks as K
use Rattle.systems.specs.moving.MarkTurns.{flip, odd, mark-turns}
use Rattle.systems.specs.moving.TurnsLead.{shift-leads, settle-leads}
use Rattle.systems.specs.moving.TurnsLead as T
use Rattle.systems.specs.moving.Visits.{visits-le}
use Rattle.systems.specs.moving.ShiftRule.{shifts-monotone}
use Rattle.systems.specs.moving.SettleRule.{drops-monotone}
use Rattle.rules.specs.Moves.{target}
use Rattle.rules.specs.Model.{Model, blocks_of}
use Rattle.rules.specs.Records.{accepted}
use Rattle.rules.specs.Rooms.{Rooms, pairs_of}
use Rattle.rules.specs.Batch.{Change, Batch, inserts, deletes, remove, insert, remove_all, insert_all, edited}
use Rattle.rules.specs.Values.{Values, Term, constant, proposition, join, step, pair, state, state_of, term_at, block_of, own, targets, leanings_by, leanings, settles, settled_set, solve}
use Rattle.rules.specs.Update.{changed, touches, shifts, shifted_set, Turned, turn_all, visits_on, leanings_in}
use Rattle.rules.specs.Session.{held}
use Rattle.rules.specs.Calls.{Left, value_at, marks_of, report_of, batch}
use Rattle.rules.specs.declared.State.{State}
use Rattle.rules.specs.declared.Action.{Action}
use Rattle.rules.specs.declared.Session.{Session}
use Rattle.rules.specs.declared.Report.{Report}
use Rattle.laws.specs.model.ModelSystem.{frame, Sound, sound, pairs-full}
use Rattle.laws.specs.demands.ValuesSolve.{settles-drops}
use Rattle.laws.specs.model.UpdateMoves.{begun, shifted_in, raised, settled_in, shifted-own, settled-own, fits-old, fits-new, shifts-same, update-values, update-shifted, update-settled, visits-agree}
use Rattle.laws.specs.moves.Edits.{Judged}
use Rattle.laws.specs.session.SessionHolds.{session-holds}
use Rattle.laws.specs.session.Accepted.{WasBatch, filled_at, values-held}
use Rattle.laws.specs.session.BatchSolved.{held-values, old-solution}
use Rattle.laws.specs.demands.BatchReload.{Reached, reached-solved}

-- A list's targets for a state and an action are the same without a move of another state or action.
module _ (s : State) (a : Action) where
  targets-insert : (q : ℕ) (l : List ℕ) → own s a q ≡ false → targets s a (insert q l) ≡ targets s a l
  targets-insert q [] e = rw e refl
  targets-insert q (r ∷ l) e =
      elim (tell true (ltb q r)) [
        | inl t ↦ rw (t, e) refl
        | inr t ↦ rw t (ap (λ (x : List ℕ). cond (own s a r) (target r ∷ x) x) (targets-insert q l e))
      ]

  targets-remove : (q : ℕ) (l : List ℕ) → own s a q ≡ false → targets s a (remove q l) ≡ targets s a l
  targets-remove q [] e = refl
  targets-remove q (r ∷ l) e =
      elim (tell true (eqb q r)) [
        | inl t ↦
            let f : own s a r ≡ false = ap (own s a) (sym (eqb-out q r t)) ∙ e in
            rw (t, f) (targets-remove q l e)
        | inr t ↦ rw t (ap (λ (x : List ℕ). cond (own s a r) (target r ∷ x) x) (targets-remove q l e))
      ]

  targets-inserts : (qs l : List ℕ) → any (own s a) qs ≡ false → targets s a (insert_all qs l) ≡ targets s a l
  targets-inserts [] l e = refl
  targets-inserts (q ∷ qs) l e =
      let k = (or_no (own s a q) (any (own s a) qs)).0 e in targets-insert q (insert_all qs l) k.0 ∙ targets-inserts qs l k.1

  targets-removes : (qs l : List ℕ) → any (own s a) qs ≡ false → targets s a (remove_all qs l) ≡ targets s a l
  targets-removes [] l e = refl
  targets-removes (q ∷ qs) l e =
      let k = (or_no (own s a q) (any (own s a) qs)).0 e in targets-remove q (remove_all qs l) k.0 ∙ targets-removes qs l k.1

  targets-kept : (cs : List Change) (l : List ℕ) → (any (own s a) (inserts cs) || any (own s a) (deletes cs)) ≡ false → targets s a (edited cs l) ≡ targets s a l
  unfolding edited
  targets-kept cs l e =
      let k = (or_no (any (own s a) (inserts cs)) (any (own s a) (deletes cs))).0 e in
      targets-inserts (inserts cs) (remove_all (deletes cs) l) k.0 ∙ targets-removes (deletes cs) l k.1

-- A pair that a batch does not touch leans on the same pairs as before.
untouched : (m : Model) (cs : List Change) (p : ℕ) → touches cs (state_of m.sizes p) (term_at m p) ≡ false → leanings m p ≡ leanings (changed cs m) p
unfolding leanings term_at
untouched m cs p e = ap (λ (l : List ℕ). cond (ltb p (pairs_of m.sizes)) l []) (by (term_at m p) e)
  where
    by : (t : Term) → touches cs (state_of m.sizes p) t ≡ false → leanings_by m (state_of m.sizes p) t ≡ leanings_by (changed cs m) (state_of m.sizes p) t
    by (constant c) e = refl
    by (proposition c q) e = refl
    by (join k x y) e = refl
    by (step k a x) e = ap (map (λ t. pair m.sizes (state t) x)) (sym (targets-kept (state_of m.sizes p) a cs m.moves e))

-- A pair that is touched, or leads to a touched one by a chain of leanings of the new moves.
pub data Leads (m : Model) (cs : List Change) : ℕ → Type 0 where
  touched : {p : ℕ} → touches cs (state_of m.sizes p) (term_at m p) ≡ true → Leads m cs p
  leads : {p q : ℕ} → q ∈ leanings m p → Leads m cs q → Leads m cs p

lead : (m : Model) (cs : List Change) {p : ℕ} → T.Leads (leanings m) (leanings (changed cs m)) p → Leads (changed cs m) cs p
unfolding term_at
lead m cs (T.touched {p = p} n) =
    elim (tell true (touches cs (state_of m.sizes p) (term_at m p))) [
      | inl e ↦ touched e
      | inr e ↦ absurd (n (untouched m cs p e))
    ]
lead m cs (T.leads {p = p} {q = q} h k) = leads h (lead m cs k)

-- A set holds all that a rule asks for, and is part of every set that does.
pub record Smallest (rule : Rule) (s : ℕ → Bool) : Type 0 where
  pub holds : Sub (rule s) s
  pub least : (t : ℕ → Bool) → Sub (rule t) t → Sub s t

module _ (m : Model) (cs : List Change) (j : Judged m.moves cs) (ok : Sound m) (ok' : Sound (changed cs m)) (old : Values) where
  abbrev F : S.Frame
  F = frame (changed cs m)

  abbrev L : S.Leans
  L = leanings m

  abbrev M : S.Leans
  M = leanings (changed cs m)

  -- The shifted set of a block is the smallest that the rule of shifting asks for, whatever the values of earlier blocks.
  shifted-smallest : (i : ℕ) → i < blocks_of m → (v : Values) → Smallest (shifts (changed cs m) cs i old v) (at (shifted_set (changed cs m) cs i old v))
  shifted-smallest i h v =
      let n = pairs_of m.sizes in
      let w : Values = at (table n old) in
      let fits = fits-old m cs j ok ok' old in
      subst (λ (r : Rule). Smallest r (at (smallest n r))) (sym (shifts-same m cs j ok ok' old i h v)) (record {
        holds = smallest-closed (shifts-monotone fits M h w v);
        least = smallest-least (shifts-monotone fits M h w v);
      })

  -- The settled set of a block is the smallest that the rule of settling asks for, from any values.
  settled-smallest : (i : ℕ) → i < blocks_of m → (v : Values) → Smallest (settles (changed cs m) i v) (at (settled_set (changed cs m) i v))
  settled-smallest i h v =
      let n = pairs_of m.sizes in
      let fits = fits-new m cs j ok ok' old in
      subst (λ (r : Rule). Smallest r (at (smallest n r))) (sym (settles-drops (changed cs m) i h v)) (record {
        holds = smallest-closed (drops-monotone fits h v);
        least = smallest-least (drops-monotone fits h v);
      })

  -- The value after the update is the one before, turned where the mark is 1 or 3.
  value-turned : (p : ℕ) → p < pairs_of m.sizes
      → at (turn_all (changed cs m) cs old).values p ≡ flip (odd (mark_of (at (turn_all (changed cs m) cs old).shifted p) (at (turn_all (changed cs m) cs old).settled p))) (old p)
  unfolding mark
  value-turned p h =
      let n = pairs_of m.sizes in
      let w : Values = at (table n old) in
      let up = at (turn_all (changed cs m) cs old).shifted p in
      let down = at (turn_all (changed cs m) cs old).settled p in
      ap (λ (f : Values). f p) (update-values m cs j ok ok' old)
      ∙ mark-turns F L M (fits-old m cs j ok ok' old) (fits-new m cs j ok ok' old) w p (pairs-full (changed cs m) ok' p h)
      ∙ ap₂ (λ (a b : Bool). flip (odd (mark_of a b)) (w p)) (sym (update-shifted m cs j ok ok' old p h)) (sym (update-settled m cs j ok ok' old p h))
      ∙ ap (flip (odd (mark_of up down))) (table_at n old p h)

-- What a batch with the changes cs turns, in the model m with its new moves, from the values old. In each block, from the
-- values it begins with, the shifted set is the smallest that the rule of shifting asks for; once these pairs have turned,
-- the settled set is the smallest that the rule of settling asks for. The marks say which, and the values turn by them.
pub record Turns (m : Model) (cs : List Change) (old : Values) (values marks : List ℕ) : Type 0 where
  pub shifted : (i : ℕ) → i < blocks_of m → Smallest (shifts m cs i old (begun m cs old i)) (at (shifted_in m cs old i))
  pub settled : (i : ℕ) → i < blocks_of m → Smallest (settles m i (raised m cs old i)) (at (settled_in m cs old i))
  pub mark : (p : ℕ) → p < pairs_of m.sizes
      → get_or marks p 0 ≡ mark_of (at (shifted_in m cs old (block_of m p)) p) (at (settled_in m cs old (block_of m p)) p)
  pub value : (p : ℕ) → p < pairs_of m.sizes → value_at values p ≡ flip (odd (get_or marks p 0)) (old p)

-- The mark that a batch leaves at a pair.
marked-at : (n : ℕ) (t : Turned) (room : List ℕ) (p : ℕ) → p < n → get_or (fill (marks_of n t) room) p 0 ≡ mark_of (at t.shifted p) (at t.settled p)
marked-at n t room p h =
    let l = listed-length 0 n (λ p. mark_of (at t.shifted p) (at t.settled p)) in
    filled_at (marks_of n t) room p (omega arith) ∙ listed-is n (λ p. mark_of (at t.shifted p) (at t.settled p)) p h

-- An accepted batch turns exactly the pairs that the rule says, whatever the values were before it.
pub batch-turns : (s : Session) (l : Rooms) (bytes : List ℕ) (b : Batch) → WasBatch s l bytes b
    → Turns (changed b.changes (held s l)) b.changes (value_at l.values) (batch s l bytes).rooms.values (batch s l bytes).rooms.marks
batch-turns s l bytes b w =
    let m = held s l in
    let cs = b.changes in
    let n = pairs_of s.sizes in
    let old = value_at l.values in
    let ok = sound m (session-holds s l w.session).0 in
    let ok' = sound (changed cs m) w.model in
    let t = turn_all (changed cs m) cs old in
    subst (λ (c : Left Report Rooms). Turns (changed cs m) cs old c.rooms.values c.rooms.marks) (sym w.is) (record {
      shifted = λ i h. shifted-smallest m cs w.good ok ok' old i h (begun (changed cs m) cs old i);
      settled = λ i h. settled-smallest m cs w.good ok ok' old i h (raised (changed cs m) cs old i);
      mark = λ p h. marked-at n t l.marks p h ∙ ap₂ mark_of (shifted-own m cs w.good ok ok' old p h) (settled-own m cs w.good ok ok' old p h);
      value = λ p h.
          values-held n (at t.values) l.values p h ∙ value-turned m cs w.good ok ok' old p h
          ∙ ap (λ (k : ℕ). flip (odd k) (old p)) (sym (marked-at n t l.marks p h));
    })

-- In a session reached from a load, each pair that a batch turns is touched, or leads to a touched pair by a chain of
-- leanings of the new moves.
pub batch-leads : (s : Session) (l : Rooms) (bytes : List ℕ) (b : Batch) → Reached s l → WasBatch s l bytes b → (p : ℕ) → p < pairs_of s.sizes
    → (get_or (batch s l bytes).rooms.marks p 0 ≡ 0 → ⊥) → Leads (changed b.changes (held s l)) b.changes p
batch-leads s l bytes b r w p h n = go (at t.shifted p) (at t.settled p) refl refl
  where
    m : Model
    m = held s l

    cs : List Change
    cs = b.changes

    old : Values
    old = value_at l.values

    t : Turned
    t = turn_all (changed cs m) cs old

    ok : Sound m
    ok = sound m (session-holds s l w.session).0

    ok' : Sound (changed cs m)
    ok' = sound (changed cs m) w.model

    sol : S.Solution (frame (changed cs m)) (leanings m) (at (table (pairs_of m.sizes) old))
    sol = old-solution m cs old ok (held-values (pairs_of s.sizes) (at (solve m)) l.values (reached-solved r).values)

    lt : block_of (changed cs m) p < blocks_of m
    lt = pairs-full (changed cs m) ok' p h

    fits : S.Fits (frame (changed cs m)) (leanings m)
    fits = fits-old m cs w.good ok ok' old

    fits' : S.Fits (frame (changed cs m)) (leanings (changed cs m))
    fits' = fits-new m cs w.good ok ok' old

    go : (a c : Bool) → at t.shifted p ≡ a → at t.settled p ≡ c → Leads (changed cs m) cs p
    go true c e f =
        lead m cs (shift-leads (frame (changed cs m)) (leanings m) (leanings (changed cs m)) fits fits' _ sol p lt (sym (update-shifted m cs w.good ok ok' old p h) ∙ e))
    go false true e f =
        lead m cs (settle-leads (frame (changed cs m)) (leanings m) (leanings (changed cs m)) fits fits' _ sol p lt (sym (update-settled m cs w.good ok ok' old p h) ∙ f))
    go false false e f =
        absurd (n (ap (λ (c : Left Report Rooms). get_or c.rooms.marks p 0) w.is ∙ marked-at (pairs_of s.sizes) t l.marks p h ∙ ap₂ mark_of e f))

-- A mark of 1 or 2 says that the pair shifted, 2 or 3 that it settled.
abbrev pub has_shifted : ℕ → Bool
has_shifted k = eqb k 1 || eqb k 2

abbrev pub has_settled : ℕ → Bool
has_settled k = eqb k 2 || eqb k 3

-- Visits are at most the leanings of the table.
visits-most : (m : Model) (s : ℕ → Bool) → visits_on m s ≤ leanings_in m
unfolding visits_on leanings_in K.visits K.leanings
visits-most m s = visits-le (frame m) (leanings m) s

-- The visits of an accepted batch: the leanings of the new moves, inside one block, on the pairs whose marks say that they
-- shifted, and on those whose marks say that they settled; together at most twice the leanings of the table.
pub record Visited (m : Model) (marks : List ℕ) (r : Report) : Type 0 where
  pub shift : r.visits.shift ≡ visits_on m (λ p. has_shifted (get_or marks p 0))
  pub settle : r.visits.settle ≡ visits_on m (λ p. has_settled (get_or marks p 0))
  pub most : r.visits.shift + r.visits.settle ≤ 2 * leanings_in m

pub batch-visits : (s : Session) (l : Rooms) (bytes : List ℕ) (b : Batch) (r : Report) → WasBatch s l bytes b → (batch s l bytes).answer ≡ accepted r
    → Visited (changed b.changes (held s l)) (batch s l bytes).rooms.marks r
batch-visits s l bytes b r w e =
    let n = changed b.changes (held s l) in
    let t = turn_all n b.changes (value_at l.values) in
    let ok = sound n w.model in
    let q : r ≡ report_of n (value_at l.values) t = said (sym e ∙ ap (λ (c : Left Report Rooms). c.answer) w.is) in
    let mark : (p : ℕ) → p < pairs_of s.sizes → get_or (batch s l bytes).rooms.marks p 0 ≡ mark_of (at t.shifted p) (at t.settled p) =
    λ p h. ap (λ (c : Left Report Rooms). get_or c.rooms.marks p 0) w.is ∙ marked-at (pairs_of s.sizes) t l.marks p h in
    let a = ap (λ (x : Report). x.visits.shift) q in
    let c = ap (λ (x : Report). x.visits.settle) q in
    let u = visits-most n (at t.shifted) in
    let v = visits-most n (at t.settled) in
    record {
      shift = a ∙ visits-agree n ok (at t.shifted) _ (λ p h. sym (shift-told (at t.shifted p) (at t.settled p)) ∙ ap has_shifted (sym (mark p h)));
      settle = c ∙ visits-agree n ok (at t.settled) _ (λ p h. sym (settle-told (at t.shifted p) (at t.settled p)) ∙ ap has_settled (sym (mark p h)));
      most = omega arith;
    }
  where
    said : {a b : Report} → accepted a ≡ accepted b → a ≡ b
    said e = cc

    shift-told : (a b : Bool) → has_shifted (mark_of a b) ≡ a
    shift-told true true = refl
    shift-told true false = refl
    shift-told false true = refl
    shift-told false false = refl

    settle-told : (a b : Bool) → has_settled (mark_of a b) ≡ b
    settle-told true true = refl
    settle-told true false = refl
    settle-told false true = refl
    settle-told false false = refl
