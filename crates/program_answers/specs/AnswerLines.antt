-- The line that each answer of a load and of a batch prints. Definitions only.
use Rattle.std.specs.Prelude.{◌≡◌, ◌≤◌, List, ℕ}
use Rattle.rules.specs.Calls.{value_at}
use Rattle.rules.specs.Records.{Outcome, refused, accepted}
use Rattle.rules.specs.Rooms.{pairs_of}
use Rattle.rules.specs.Update.{trues}
use Rattle.rules.specs.declared.Report.{Report}
use Rattle.rules.specs.declared.Session.{Session}
use Rattle.program_lines.specs.declared.Totals.{Totals}
use Rattle.program_lines.specs.Lines.{loaded_line, batch_line, refused_line}

-- How many pairs of a session are true by the room of the values.
abbrev pub true_in : Session → List ℕ → ℕ
true_in s values = trues (pairs_of s.sizes) (value_at values)

-- The numbers at the end of a line about a session, by the room of its values.
pub record TotalsOf (s : Session) (values : List ℕ) (end : Totals) : Type 0 where
  pub trues : end.trues ≡ true_in s values
  pub pairs : end.pairs ≡ pairs_of s.sizes
  pub stamp : end.stamp ≡ s.stamp
  pub few : end.trues ≤ end.pairs

-- A load's line, with the room of the values as the load left it.
abbrev pub load_prints : Outcome Session → List ℕ → List ℕ
load_prints (refused n p) values = refused_line n p
load_prints (accepted s) values = loaded_line (true_in s values) (pairs_of s.sizes) s.stamp

-- A batch's line, with the room of the values as the batch left it.
abbrev pub batch_prints : Outcome Report → List ℕ → List ℕ
batch_prints (refused n p) values = refused_line n p
batch_prints (accepted r) values =
    batch_line r.net r.visits.shift r.visits.settle (true_in r.session values) (pairs_of r.session.sizes) r.session.stamp
