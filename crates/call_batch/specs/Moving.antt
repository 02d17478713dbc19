-- A session that was checked and a batch with which nothing is wrong: the table that the changes make. Assumes nothing.
use Rattle.std.specs.Prelude.{◌≡◌, refl, true, List, [], ◌∷◌, ◌++◌, ℕ, zero, suc, ◌-◌, ◌≤◌, min, length, get_or, take, drop, replicate, leb}
use Rattle.std.proofs.Common.{sym, ap, ◌∙◌, subst, append_assoc, arith, length-append, take_at, length-take-le}
use Rattle.lists.specs.Lists.{all}
use Rattle.lists.specs.Tests.{tests, and_is, leb-is}
use Rattle.rules.specs.Limits.{most_moves, most_changes, sizes_ok}
use Rattle.rules.specs.Model.{live_ok, well_formed, WellFormed}
use Rattle.rules.specs.Records.{accepted}
use Rattle.rules.specs.Rooms.{Rooms, lengths_of, pairs_of, index_needs, queue_needs, work_ok}
use Rattle.rules.specs.Batch.{Change, Batch, changes_ok, judge, edited}
use Rattle.rules.specs.Session.{held}
use Rattle.rules.specs.Update.{changed}
use Rattle.rules.specs.declared.Session.{Session}
use Rattle.laws.specs.moves.Edits.{Judged, judge-out, edited-well_formed, all-ok}
use Rattle.laws.specs.model.LiveApart.{still, still-good}
use Rattle.laws.specs.model.ModelSystem.{Sound, sound}
use Rattle.session_check.specs.CheckedMoves as Moves
use Rattle.batch_apply.specs.Kept.{Kept, kept, moves_in, applied_to, Ready}
use Rattle.batch_apply.specs.Struck.{below-mark}
use Rattle.batch_apply.specs.Applied.{laid, applied-edits}
use Rattle.session_judge.specs.Checks.{check_of, checked_says}
use Rattle.session_check.specs.Fitting.{Fits}
use Rattle.session_judge.specs.Passed.{passed-work, passed-fits, passed-holds, passed-moves}
use Rattle.std.specs.Prelude.{Result, Ok}
use Rattle.rules.specs.declared.Refusal.{Refusal}
use Rattle.engine_table.specs.Lent.{table_of, Drawn}
use Rattle.batch_judge.specs.Fits.{Held}
use Rattle.engine_phase.specs.Started.{Started, with_moves}

-- What a session that was checked is known to be.
pub record Sane (s : Session) (l : Rooms) : Type 0 where
  pub fits : Fits s l
  pub model : WellFormed (held s l)
  pub moves : Moves.Checked s l
  pub values : all (λ v. leb v 1) (take (pairs_of s.sizes) l.values) ≡ true
  pub index_room : index_needs s.sizes (length l.moves) ≤ length l.index
  pub queue_room : queue_needs s.sizes ≤ length l.queue

-- The check says so.
pub sane : (s : Session) (l : Rooms) (k : Result (Unit {0}) Refusal) → checked_says k ≡ check_of (work_ok (lengths_of l) s.sizes) s l → k ≡ Ok tt → Sane s l
unfolding work_ok
sane s l k h g =
    let work = work_ok (lengths_of l) s.sizes in
    let p = passed-holds work s l k h g in
    let w = simp tests at (passed-work work s l k h g) in
    record {
      fits = passed-fits work s l k h g;
      model = p.0;
      moves = passed-moves work s l k h g;
      values = p.1.values;
      index_room = w.0;
      queue_room = w.1;
    }

-- Its sizes are inside the limits.
pub sane-sizes : (s : Session) (l : Rooms) → Sane s l → sizes_ok s.sizes ≡ true
unfolding well_formed
sane-sizes s l p = let k = simp and_is at p.model in k.0.0.0.0.0

-- What a batch may rely on when it is judged.
pub sane-held : (s : Session) (l : Rooms) → Sane s l → Held s (held s l).moves
unfolding well_formed
sane-held s l p = let k = simp and_is at p.model in record { stamp = p.moves.stamp; in_range = p.moves.in_range; lively = k.1.1.1 }

-- Changes with which nothing is wrong in such a session.
pub record Able (s : Session) (l : Rooms) (cs : List Change) : Type 0 where
  pub is_sane : Sane s l
  pub short : length cs ≤ most_changes
  pub judged : Judged (held s l).moves cs
  pub in_range : changes_ok s.sizes cs ≡ true
  pub few : length (edited cs (held s l).moves) ≤ min most_moves (length l.moves)
  pub lives : live_ok s.live s.sizes.states (edited cs (held s l).moves) ≡ true

-- The judgement says so.
pub able : (s : Session) (l : Rooms) (b b' : Batch) → Sane s l → length b.changes ≤ most_changes → changes_ok s.sizes b.changes ≡ true → judge s (length l.moves) (held s l).moves b ≡ accepted b' → Able s l b.changes
able s l b b' p n r j = let k = judge-out s (length l.moves) (held s l).moves b b' j in record { is_sane = p; short = n; judged = k.1; in_range = r; few = k.2; lives = k.4 }

-- They can be made in the room of the moves.
pub able-ready : (s : Session) (l : Rooms) (cs : List Change) → Able s l cs → Ready cs (kept l.moves s.moves)
able-ready s l cs a =
    let f = a.few in
    record {
      start = record { fits = a.is_sane.fits.moves_room; ascend = a.is_sane.moves.ascend };
      short = a.short;
      judged = a.judged;
      few = omega arith;
      most = a.is_sane.fits.moves;
      small = below-mark s.sizes 0 (held s l).moves (sane-sizes s l a.is_sane) a.is_sane.moves.in_range;
    }

-- Where no number of a list is over 1, none is.
each-small : (l : List ℕ) → all (λ v. leb v 1) l ≡ true → (p : ℕ) → get_or l p 0 ≤ 1
each-small [] h p = omega arith
each-small (v ∷ l) h zero = (leb-is v 1).0 ((and_is (leb v 1) (all (λ v. leb v 1) l)).0 h).0
each-small (v ∷ l) h (suc p) = each-small l ((and_is (leb v 1) (all (λ v. leb v 1) l)).0 h).1 p

-- The changes were made in the room of the moves: it holds ms now, of which n are moves.
module _ (s : Session) (l : Rooms) (cs : List Change) (a : Able s l cs) (ms : List ℕ) (n : ℕ)
    (e : kept ms n ≡ applied_to cs (kept l.moves s.moves)) where
  -- The room holds the edited moves.
  pub made : kept ms n ≡ laid s.moves l.moves (edited cs (held s l).moves)
  made =
      let f = a.few in
      e ∙ applied-edits s.moves l.moves cs a.is_sane.fits.moves_room a.is_sane.moves.ascend a.judged (omega arith)

  made-moves : take n ms ≡ edited cs (held s l).moves
  made-moves =
      let es = edited cs (held s l).moves in
      let zs : List ℕ = replicate (s.moves - length es) 0 in
      ap moves_in made
      ∙ ap (take (length es)) (append_assoc es zs (drop (length (es ++ zs)) l.moves)) ∙ take_at es _ (length es) refl

  -- There are few of them.
  pub made-few : n ≤ most_moves
  made-few = let f = a.few in let k = ap (λ (k : Kept). k.count) made in omega arith

  made-long : n ≤ length ms
  made-long =
      let es = edited cs (held s l).moves in
      let zs : List ℕ = replicate (s.moves - length es) 0 in
      let c = ap (λ (k : Kept). k.count) made in
      let k = ap (λ (k : Kept). length k.moves) made in
      let g = length-append (es ++ zs) (drop (length (es ++ zs)) l.moves) in
      let h = length-append es zs in omega arith

  -- The table in the rooms is the changed model, but for the flag.
  pub made_table : table_of s.sizes l.labels l.equations ms n ≡ still (changed cs (held s l))
  made_table = ap (λ (k : List ℕ). with_moves k (still (held s l))) made-moves

  made-model : WellFormed (changed cs (held s l))
  made-model = let f = a.few in edited-well_formed (held s l) cs a.is_sane.model a.judged (all-ok s.sizes cs a.in_range) (omega arith) a.lives

  -- It is one that a load accepts.
  pub made-drawn : Drawn s.sizes l.labels l.equations ms n
  made-drawn = record {
    long_labels = a.is_sane.fits.labels_room;
    long_equations = a.is_sane.fits.equations_room;
    long_moves = made-long;
    model = subst WellFormed (sym made_table) (still-good (changed cs (held s l)) made-model);
  }

  -- And the machine can start on it.
  pub made-started : Started (table_of s.sizes l.labels l.equations ms n) cs (take (pairs_of s.sizes) l.values)
  made-started = record {
    old = (held s l).moves;
    made = sym made-moves;
    judged = a.judged;
    was_sound = sound (still (held s l)) (still-good (held s l) a.is_sane.model);
    is_sound = subst Sound (sym made_table) (sound (still (changed cs (held s l))) (still-good (changed cs (held s l)) made-model));
    long = length-take-le (pairs_of s.sizes) l.values a.is_sane.fits.values_room;
    small = each-small (take (pairs_of s.sizes) l.values) a.is_sane.values;
  }
