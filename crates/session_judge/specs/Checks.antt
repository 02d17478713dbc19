-- The check of a session, as an outcome, and what the calls that begin with it come to. Assumes nothing.
use Rattle.std.specs.Prelude.{◌≡◌, refl, Bool, true, ◌&&◌, List, [], ◌∷◌, ℕ, length, Result, Ok, Err}
use Rattle.std.proofs.Common.{sym, ap, ◌∙◌, inl, inr}
use Rattle.lists.specs.Tests.{tell, and-true, and_is}
use Rattle.rules.specs.Records.{Outcome, refused, accepted}
use Rattle.rules.specs.Rooms.{Rooms, rooms_ok, lengths_of}
use Rattle.rules.specs.Session.{counts_ok, rest_ok, session_demands}
use Rattle.rules.specs.Calls.{asked, and_then}
use Rattle.rules.specs.Answers.{number_of}
use Rattle.rules.specs.declared.Refusal.{Refusal}
use Rattle.rules.specs.declared.Session.{Session}
use Rattle.session_check.specs.Tested.{counts_by, counts-by}
use Rattle.session_check.specs.Fitting.{Fits, fits}

-- The outcome where nothing is refused and nothing more is answered.
abbrev pub all_well : Outcome (Unit {0})
all_well = accepted tt

-- What is asked of a session, where `work` says whether the rooms to work in are long enough; and the same with nothing after
-- it. A call that has no such rooms says yes.
abbrev pub demands_with : Bool → Session → Rooms → List (ℕ × Bool)
demands_with work s l = session_demands (λ n z. rooms_ok n z && work) s l

abbrev pub check_of : Bool → Session → Rooms → Outcome (Unit {0})
check_of work s l = asked (demands_with work s l) all_well

-- So a writing asks what is asked with yes.
pub work-unasked : {B : Type 0} (s : Session) (l : Rooms) (o : Outcome B) → asked (session_demands rooms_ok s l) o ≡ asked (demands_with true s l) o
work-unasked s l o =
    ap (λ (b : Bool). asked ((12, counts_ok s l) ∷ (13, b) ∷ (12, rest_ok s l) ∷ []) o) (sym (and-true (rooms_ok (lengths_of l) s.sizes)))

-- What a check says: its refusal, at place 0, or that all is well.
abbrev pub checked_says : Result (Unit {0}) Refusal → Outcome (Unit {0})
checked_says (Err r) = refused (number_of r) 0
checked_says (Ok u) = all_well

-- Whatever follows the questions comes after their outcome.
pub asked-then : {B : Type 0} (ds : List (ℕ × Bool)) (o : Outcome B) → asked ds o ≡ and_then (asked ds all_well) (λ _. o)
asked-then [] o = refl
asked-then (d ∷ ds) o = elim (tell true d.1) [ inl t ↦ rw t (asked-then ds o) | inr t ↦ rw t refl ]

-- Where the counts are inside the limits and no room is too short, all that is known of counts and rooms holds.
pub check-fits : (work : Bool) (s : Session) (l : Rooms) → counts_by s (length l.moves) ≡ true → (rooms_ok (lengths_of l) s.sizes && work) ≡ true → Fits s l
check-fits work s l a b = fits s l (counts-by s l ∙ a) ((and_is _ work).0 b).0

-- A session that was checked: k is what the check found.
module _ (work : Bool) (s : Session) (l : Rooms) (k : Result (Unit {0}) Refusal) (h : checked_says k ≡ check_of work s l) where
  -- What follows the check comes after what it says.
  pub checked-then : {B : Type 0} (o : Outcome B) → asked (demands_with work s l) o ≡ and_then (checked_says k) (λ _. o)
  checked-then o = asked-then (demands_with work s l) o ∙ ap (λ (w : Outcome (Unit {0})). and_then w (λ _. o)) (sym h)

  -- A refusal of the check is the whole answer.
  pub checked-stops : {B : Type 0} (o : Outcome B) (why : Refusal) → k ≡ Err why → asked (demands_with work s l) o ≡ refused (number_of why) 0
  checked-stops o why g = checked-then o ∙ ap (λ (c : Result (Unit {0}) Refusal). and_then (checked_says c) (λ _. o)) g

  -- Where the check finds nothing wrong, the answer is what follows.
  pub checked-goes : {B : Type 0} (o : Outcome B) → k ≡ Ok tt → asked (demands_with work s l) o ≡ o
  checked-goes o g = checked-then o ∙ ap (λ (c : Result (Unit {0}) Refusal). and_then (checked_says c) (λ _. o)) g
