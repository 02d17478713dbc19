-- Exactly one outcome fits the promise of each call: for any input there is an answer of the code's type that says what the
-- definition says, and no two answers, nor two contents of a room, do. Assumes nothing.
use Rattle.std.specs.Prelude.{◌≡◌, refl, Bool, List, ℕ, Result, Ok, Err}
use Rattle.std.proofs.Common.{sym, ◌∙◌}
use Rattle.std.proofs.Math.Path.{ap}
use Rattle.rules.specs.Records.{Outcome, refused, accepted}
use Rattle.rules.specs.Rooms.{Rooms}
use Rattle.rules.specs.Answers.{number_of, says}
use Rattle.rules.specs.Calls.{Left, load, batch, write, ask}
use Rattle.rules.specs.declared.Refusal.{Refusal}
use Rattle.rules.specs.declared.Refused.{Refused}
use Rattle.rules.specs.declared.State.{State}
use Rattle.rules.specs.declared.Variable.{Variable}
use Rattle.rules.specs.declared.Session.{Session}
use Rattle.rules.specs.declared.Report.{Report}
use Rattle.laws.specs.refusals.Numbered.{refusal_of, refusal-back, number-back}
use Rattle.laws.specs.demands.Refusals.{Told, load_told, batch-told, write-told, ask-told}

-- The answer that says an outcome.
tells : {B : Type 0} → Outcome B → Result B Refused
tells (refused n p) = Err (record { why = refusal_of n; place = p })
tells (accepted b) = Ok b

answer : {B : Type 0} (o : Outcome B) → Told o → (e : Result B Refused) × (says e ≡ o)
answer (refused n p) h = (Err (record { why = refusal_of n; place = p }), ap (λ (k : ℕ). refused k p) (number-back n h))
answer (accepted b) h = (Ok b, refl)

back : {B : Type 0} (e : Result B Refused) → tells (says e) ≡ e
unfolding tells
back (Err r) = ap (λ (q : Refusal). Err (record { why = q; place = r.place })) (refusal-back r.why)
back (Ok b) = refl

one : {B : Type 0} (a b : Result B Refused) (o : Outcome B) → says a ≡ o → says b ≡ o → a ≡ b
one a b o e f = sym (back a) ∙ ap tells (e ∙ sym f) ∙ back b

-- Of the answer type E, read by `says`, and the rooms R: one answer and one content of the rooms fit what is left.
pub record One {E B R : Type 0} (says : E → Outcome B) (left : Left B R) : Type 0 where
  pub some : (e : E) × (says e ≡ left.answer)
  pub only : (a b : E) (x y : R) → record { answer = says a; rooms = x } ≡ left → record { answer = says b; rooms = y } ≡ left → (a ≡ b) × (x ≡ y)

one_left : {E B R : Type 0} (says : E → Outcome B) (left : Left B R) → ((e : E) × (says e ≡ left.answer))
    → ((a b : E) (o : Outcome B) → says a ≡ o → says b ≡ o → a ≡ b) → One says left
one_left {E} {B} {R} says left some uniq = record {
  some = some;
  only = λ a b x y e f. (
    uniq a b left.answer (ap (λ (c : Left B R). c.answer) e) (ap (λ (c : Left B R). c.answer) f),
    ap (λ (c : Left B R). c.rooms) e ∙ sym (ap (λ (c : Left B R). c.rooms) f),
  );
}

-- What is left of a call has one answer, and one content of the rooms.
one_of : {B R : Type 0} (left : Left B R) → Told left.answer → One says left
one_of left told = one_left says left (answer left.answer told) one

-- For every input of each call there is one answer that fits its promise, and one content of every room.
pub record Outcomes : Type 0 where
  pub load : (l : Rooms) (bytes : List ℕ) → One says (load l bytes)
  pub batch : (s : Session) (l : Rooms) (bytes : List ℕ) → One says (batch s l bytes)
  pub write : (s : Session) (l : Rooms) (out : List ℕ) → One says (write s l out)
  pub ask : (s : Session) (values : List ℕ) (here : State) (x : Variable)
      → ((e : Result Bool Refused) × (says e ≡ ask s values here x))
      × ((a b : Result Bool Refused) → says a ≡ ask s values here x → says b ≡ ask s values here x → a ≡ b)

pub one-outcome : Outcomes
one-outcome = record {
  load = λ l bytes. one_of (load l bytes) (load_told l bytes);
  batch = λ s l bytes. one_of (batch s l bytes) (batch-told s l bytes);
  write = λ s l out. one_of (write s l out) (write-told s l out);
  ask = λ s values here x. (answer (ask s values here x) (ask-told s values here x), λ a b. one a b (ask s values here x));
}
