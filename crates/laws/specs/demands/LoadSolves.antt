-- Demand 2, of a load: the values it leaves are the model's, every model inside the limits is accepted where the rooms
-- suffice, and every byte string gets an answer. Assumes nothing.
use Rattle.std.specs.Prelude.{◌≡◌, true, List, ℕ, ◌≤◌, ◌<◌, length}
use Rattle.std.proofs.Common.{sym, ap, ◌∙◌, subst}
use Rattle.lists.specs.Smallest.{at}
use Rattle.rules.specs.Model.{Model, WellFormed}
use Rattle.rules.specs.Records.{accepted}
use Rattle.rules.specs.Rooms.{Rooms, lengths_of, pairs_of, lent_ok}
use Rattle.rules.specs.Spelling.{encode}
use Rattle.rules.specs.Values.{Values, Solution, solve}
use Rattle.rules.specs.Session.{held}
use Rattle.rules.specs.Calls.{value_at, load_by, load}
use Rattle.rules.specs.declared.Session.{Session}
use Rattle.laws.specs.bytes.RecordLaws.{AreBytes}
use Rattle.laws.specs.bytes.ReadAccepts.{read-accepts}
use Rattle.laws.specs.session.SessionHolds.{holds-session}
use Rattle.laws.specs.model.ModelSystem.{sound}
use Rattle.laws.specs.demands.ValuesSolve.{solve-solves, solution-agree, solution-one}
use Rattle.laws.specs.session.Accepted.{Solved, load-out, load-solved}
use Rattle.laws.specs.session.BatchSolved.{held-values}

-- A session whose values are its model's: block by block the least and greatest fixpoints, and there are no others.
pub record Solves (s : Session) (l : Rooms) : Type 0 where
  pub model : WellFormed (held s l)
  pub solution : Solution (held s l) (value_at l.values)
  pub only : (v : Values) → Solution (held s l) v → (p : ℕ) → p < pairs_of s.sizes → value_at l.values p ≡ v p

pub solved-solves : (s : Session) (l : Rooms) → Solved s l (held s l) → Solves s l
solved-solves s l h =
    let m = held s l in
    let ok = sound m h.model in
    let e = held-values (pairs_of s.sizes) (at (solve m)) l.values h.values in
    let sol = solution-agree m ok (at (solve m)) (value_at l.values) (λ p k. sym (e p k)) (solve-solves m ok) in
    record { model = h.model; solution = sol; only = λ v t p k. solution-one m ok (value_at l.values) v sol t p k }

-- The rooms after an accepted load hold the model of the bytes.
pub loaded-solved : (l : Rooms) (bytes : List ℕ) (s : Session) → AreBytes bytes → (load l bytes).answer ≡ accepted s
    → Solved s (load l bytes).rooms (held s (load l bytes).rooms) × (encode (held s (load l bytes).rooms) ≡ bytes)
loaded-solved l bytes s y e =
    let k = load-out l bytes s y e in
    let m = k.0 in
    let w = k.1 in
    let h : Solved s (load l bytes).rooms m =
    subst (λ (r : Rooms). Solved s r m) (ap (λ (c : _). c.rooms) (sym w.is)) (subst (λ (t : Session). Solved t (load_by l (accepted m)).rooms m) (sym k.2) (load-solved l m w.model w.rooms w.room)) in
    let q = sym (holds-session s (load l bytes).rooms m h.model h.holds).0 in
    (subst (Solved s (load l bytes).rooms) q h, ap encode (sym q) ∙ w.spelled)

-- After a load each pair has the value of the block-by-block least and greatest fixpoints.
pub load-solves : (l : Rooms) (bytes : List ℕ) (s : Session) → AreBytes bytes → (load l bytes).answer ≡ accepted s
    → Solves s (load l bytes).rooms × (encode (held s (load l bytes).rooms) ≡ bytes)
load-solves l bytes s y e =
    let k = loaded-solved l bytes s y e in (solved-solves s (load l bytes).rooms k.0, k.1)

-- Every model inside the limits is accepted where the rooms suffice.
pub load-accepts : (l : Rooms) (m : Model) → WellFormed m → lent_ok (lengths_of l) m.sizes ≡ true → length m.moves ≤ length l.moves
    → load l (encode m) ≡ load_by l (accepted m)
unfolding load
load-accepts l m w r c = ap (load_by l) (read-accepts (lengths_of l) m w r c)
