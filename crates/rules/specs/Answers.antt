-- The paper's number for each refusal, and the outcome that each case of an answer stands for. Definitions only.
use Rattle.std.specs.Prelude.{ℕ, Result, Ok, Err}
use Rattle.rules.specs.Records.{Outcome, refused, accepted}
use Rattle.rules.specs.declared.Refusal.{Refusal}
use Rattle.rules.specs.declared.Refusal.TheVariants as Why
use Rattle.rules.specs.declared.Refused.{Refused}

-- The refusals: of each its name, the paper's number, and what it says. All that lists refusals or their numbers follows from this
-- table.
abbrev pub number_of : Refusal → ℕ
number_of Why.Broken = 1  -- an unknown kind of record, or the bytes end inside a record or before the end record
number_of Why.NotDue = 2  -- a known kind where it is not due; any byte after the end record
number_of Why.BadSize = 3  -- a size outside its limits, a block with a wrong number of variables, a 65th change
number_of Why.BadNumber = 4  -- a number not below its count, an unknown operator or sign, an unused byte not 0, an empty or too high set
number_of Why.Tangled = 5  -- an equation names a variable of a later block, or lies on a closed chain that holds both signs
number_of Why.OutOfOrder = 6  -- a label or a move not strictly after the one before
number_of Why.Present = 7  -- insert of a move that is present
number_of Why.Absent = 8  -- delete of a move that is absent
number_of Why.NamedTwice = 9  -- a batch names one move twice
number_of Why.Full = 10  -- more moves than 1,024 or than the move room holds
number_of Why.WrongStamp = 11  -- the batch's stamp is not the table's
number_of Why.NotAModel = 12  -- the session is no model that load accepts, or holds a value over 1, a mark over 3 or a wrong stamp
number_of Why.ShortRoom = 13  -- a room is shorter than the sizes need
number_of Why.Hangs = 16  -- a live model in which some state has no move

-- What an answer says.
abbrev pub says : {B : Type 0} → Result B Refused → Outcome B
says (Err r) = refused (number_of r.why) r.place
says (Ok b) = accepted b
