-- Demands 2 and 3, of a question: in every session that a load and batches lead to, it is answered with the value that the
-- block-by-block least and greatest fixpoints give the pair. Assumes nothing.
use Rattle.std.specs.Prelude.{◌≡◌, refl, true, cond, ◌&&◌, length, get_or, ltb, leb}
use Rattle.std.proofs.Common.{sym, ap, ◌∙◌, inl, inr, get_or-take}
use Rattle.lists.specs.Lists.{bit}
use Rattle.lists.specs.Smallest.{at}
use Rattle.lists.specs.Tests.{tests, tell, and_is, leb-is}
use Rattle.lists.specs.TableLaws.{listed-is}
use Rattle.rules.specs.Model.{well_formed}
use Rattle.rules.specs.Records.{refused, accepted}
use Rattle.rules.specs.Rooms.{Rooms, pairs_of, rooms_ok}
use Rattle.rules.specs.Values.{Values, Solution, pair, solve}
use Rattle.rules.specs.Session.{held}
use Rattle.rules.specs.Calls.{value_at, ask}
use Rattle.rules.specs.declared.State.{State}
use Rattle.rules.specs.declared.Variable.{Variable}
use Rattle.rules.specs.declared.Session.{Session}
use Rattle.laws.specs.model.ModelSystem.{pair-below}
use Rattle.laws.specs.session.Accepted.{bit-small}
use Rattle.laws.specs.demands.BatchReload.{Reached, reached-solved, reached-solves}

-- Whatever solves the model, the answer is its value of the pair; a state or a variable not below its count is refused 4.
pub ask-solves : (s : Session) (l : Rooms) → Reached s l → (v : Values) → Solution (held s l) v → (here : State) (x : Variable)
    → ask s l.values here x ≡ cond (ltb here.0 s.sizes.states && ltb x.0 s.sizes.variables) (accepted (v (pair s.sizes here x))) (refused 4 0)
unfolding ask well_formed rooms_ok
ask-solves s l h v sol here x =
    let t = reached-solved h in
    let z = simp and_is at t.model in
    let r = simp tests at t.holds.rooms in
    let p = pair s.sizes here x in
    let room : leb (pairs_of s.sizes) (length l.values) ≡ true = (leb-is (pairs_of s.sizes) (length l.values)).1 r.0.1 in
    elim (tell true (ltb here.0 s.sizes.states && ltb x.0 s.sizes.variables)) [
      | inl n ↦
          let k = simp tests at n in
          let below = pair-below (held s l) here x k.0 k.1 in
          let byte : get_or l.values p 0 ≡ bit (at (solve (held s l)) p) =
          sym (get_or-take (pairs_of s.sizes) l.values p 0 below) ∙ ap (λ (vs : _). get_or vs p 0) t.values ∙ listed-is (pairs_of s.sizes) (λ q. bit (at (solve (held s l)) q)) p below in
          let small : leb (get_or l.values p 0) 1 ≡ true = (leb-is (get_or l.values p 0) 1).1 (rw byte (bit-small (at (solve (held s l)) p))) in
          let value : value_at l.values p ≡ v p = (reached-solves h).only v sol p below in
          rw (z.0.0.0.0.0, room, n, small) (ap accepted value)
      | inr n ↦ rw (z.0.0.0.0.0, room, n) refl
    ]
