-- The states that have a move, counted in one walk over the moves, and what is asked of a live session. Assumes nothing.
use Rattle.std.specs.Prelude.{◌≡◌, refl, Bool, true, cond, ◌&&◌, List, [], ◌∷◌, map, ℕ, length, eqb}
use Rattle.std.specs.List.{fold}
use Rattle.std.proofs.Common.{ap, inl, inr}
use Rattle.lists.specs.Lists.{all}
use Rattle.lists.specs.Tests.{tell, and_no, eqb-in, leb-is}
use Rattle.rules.specs.Limits.{most_moves}
use Rattle.rules.specs.Model.{label_ok, style_ok, moves_ok, live_ok, well_formed}
use Rattle.rules.specs.Moves.{source}
use Rattle.rules.specs.Load.{moving_with}
use Rattle.rules.specs.declared.Session.{Session}
use Rattle.laws.specs.moves.Hanging.{moving_over, all-moving}
use Rattle.rules.specs.Session.{unword}
use Rattle.session_check.specs.Tested.{model_in}
use Rattle.session_check.specs.Fitting.{Sized}

-- To count the states over the moves is to count them over one move after the other.
pub moving_fold : (r : ℕ) (l : List ℕ) → fold (λ n q. moving_with n (source q)) r l ≡ moving_over r l
moving_fold r [] = refl
moving_fold r (q ∷ l) = moving_fold (moving_with r (source q)) l

-- In a live session all states are counted.
unfoldable pub live_by : Session → List ℕ → Bool
live_by s ms = cond (eqb s.live 1) (eqb (moving_over 0 ms) s.sizes.states) true

-- Of moves in order, whatever else is asked, that is that each state of a live session has a move.
live-asked : (s : Session) (ms : List ℕ) (x : Bool) → let ok = moves_ok s.sizes 0 ms in
    (x && ok && live_by s ms) ≡ (x && ok && live_ok s.live s.sizes.states ms)
unfolding live_by
live-asked s ms x =
    let ok = moves_ok s.sizes 0 ms in
    elim (tell true ok) [
      | inl t ↦ ap (λ (b : Bool). x && ok && b) (all-moving s.sizes s.live ms t)
      | inr t ↦ rw (and_no x t) refl
    ]

-- So the tests of the code are what is asked of the model that a session holds, once its counts are good and its rooms are cut.
pub formed-by : (s : Session) (labels equations moves : List ℕ) → Sized s labels equations moves
    → (all (label_ok s.sizes) labels && style_ok s.sizes (map unword equations) && moves_ok s.sizes 0 moves && live_by s moves)
    ≡ well_formed (model_in s labels equations moves)
unfolding well_formed
formed-by s labels equations moves f =
    rw (f.sizes, eqb-in (length labels) s.sizes.states f.states, (leb-is (length moves) most_moves).1 f.few, (leb-is s.live 1).1 f.live)
    (live-asked s moves (all (label_ok s.sizes) labels && style_ok s.sizes (map unword equations)))
