-- Each way out of a call, in the words of the code. Assumes nothing.
use Rattle.std.specs.Prelude.{◌≡◌, true, false, ◌||◌, List, ℕ, ◌≤◌, ◌<◌, ℤ, length, ltb, Bool, Result}
use Rattle.std.proofs.Math.Path.{refl, ap}
use Rattle.std.proofs.Common.{◌∙◌}
use Rattle.lists.specs.Lists.{bit}
use Rattle.lists.specs.Tests.{ltb-is, ltb_no, or_no}
use Rattle.rules.specs.Rooms.{Rooms}
use Rattle.rules.specs.Values.{state, variable}
use Rattle.rules.specs.Calls.{load, batch, write, ask, leaves}
use Rattle.rules.specs.Answers.{says}
use Rattle.rules.specs.declared.Session.{Session}
use Rattle.rules.specs.declared.Report.{Report}
use Rattle.rules.specs.declared.Refused.{Refused}
use Rattle.boundary_numbers.specs.Numbers.{session_in, session_after, moved_to, report_after, told}
use Rattle.boundary.specs.Boundary.{loaded_to, load_left, load_call, batched_to, batch_left, batch_call, wrote_to, write_left, write_call, ask_call}

-- A question about one pair.
module _ (session values : List ℕ) (here x : ℕ) where
  -- The room of the session is too short.
  pub ask-short : length session < 8 → 13 ≡ ask_call session values here x
  unfolding ask_call
  ask-short h = rw ((ltb-is (length session) 8).1 h) refl

  -- A session s was read, the call answered k, and r is told of it.
  pub ask-comes : (s : Session) (k : Result Bool Refused) (r : ℕ) → 8 ≤ length session → s ≡ session_in session → says k ≡ ask s values (state here) (variable x)
      → r ≡ told bit (says k) → r ≡ ask_call session values here x
  unfolding ask_call
  ask-comes s k r h i e b = rw ((ltb_no (length session) 8).1 h) (b ∙ ap (told bit) (rw i at e))

-- A writing.
module _ (session : List ℕ) (l : Rooms) (out : List ℕ) where
  -- The room of the session is too short.
  pub write-short : length session < 8 → wrote_to 13 out ≡ write_call session l out
  unfolding write_call
  write-short h = rw ((ltb-is (length session) 8).1 h) refl

  -- A session s was read, the call answered k and left the output so, and r is told of it.
  pub write-comes : (s : Session) (k : Result ℕ Refused) (after : List ℕ) (r : ℕ) → 8 ≤ length session → s ≡ session_in session
      → leaves (says k) after ≡ write s l out → r ≡ told (λ n. n) (says k) → wrote_to r after ≡ write_call session l out
  unfolding write_call
  write-comes s k after r h i e b = rw (b, (ltb_no (length session) 8).1 h) (ap write_left (rw i at e))

-- A load.
module _ (session : List ℕ) (l : Rooms) (bytes : List ℕ) where
  -- The room of the session is too short.
  pub load-short : length session < 8 → loaded_to 13 session l ≡ load_call session l bytes
  unfolding load_call
  load-short h = rw ((ltb-is (length session) 8).1 h) refl

  -- The call answered k and left the rooms so, r is told of it, and its session was kept.
  pub load-comes : (k : Result Session Refused) (after : Rooms) (r : ℕ) (kept : List ℕ) → 8 ≤ length session → leaves (says k) after ≡ load l bytes
      → r ≡ told (λ _. 0) (says k) → kept ≡ session_after session (says k) → loaded_to r kept after ≡ load_call session l bytes
  unfolding load_call
  load-comes k after r kept h e b d = rw (b, d, (ltb_no (length session) 8).1 h) (ap (load_left session) e)

-- A batch.
module _ (session : List ℕ) (l : Rooms) (report : List ℤ) (bytes : List ℕ) where
  -- The room of the session or of the report is too short.
  pub batch-short : (ltb (length session) 8 || ltb (length report) 3) ≡ true → batched_to 13 session l report ≡ batch_call session l report bytes
  unfolding batch_call
  batch-short h = rw h refl

  -- Where neither is, both are long enough.
  module _ (h : (ltb (length session) 8 || ltb (length report) 3) ≡ false) where
    pub long-session : 8 ≤ length session
    long-session = (ltb_no (length session) 8).0 ((or_no (ltb (length session) 8) (ltb (length report) 3)).0 h).0

    pub long-report : 3 ≤ length report
    long-report = (ltb_no (length report) 3).0 ((or_no (ltb (length session) 8) (ltb (length report) 3)).0 h).1

    -- A session s was read, the call answered k and left the rooms so, r is told of it, and its session and its report
    -- were kept.
    pub batch-comes : (s : Session) (k : Result Report Refused) (after : Rooms) (r : ℕ) (kept : List ℕ) (told_of : List ℤ) → s ≡ session_in session
        → leaves (says k) after ≡ batch s l bytes → r ≡ told (λ _. 0) (says k)
        → kept ≡ session_after session (moved_to (says k)) → told_of ≡ report_after report (says k)
        → batched_to r kept after told_of ≡ batch_call session l report bytes
    unfolding batch_call
    batch-comes s k after r kept told_of i e b d f = rw (b, d, f, h) (ap (batch_left session report) (rw i at e))
