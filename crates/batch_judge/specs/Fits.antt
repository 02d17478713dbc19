-- The length after a batch, by counts; and the whole judgement from what the code finds. Assumes nothing.
use Rattle.std.specs.Prelude.{◌≡◌, refl, Bool, true, List, [], ◌∷◌, ℕ, ◌+◌, ◌≤◌, min, length, eqb, leb}
use Rattle.std.proofs.Common.{sym, ap, ap₂, ◌∙◌, arith}
use Rattle.std.proofs.Math.Option.{Option, none, some}
use Rattle.std.proofs.Math.Decide.{dec_le}
use Rattle.lists.specs.Lists.{sum_of}
use Rattle.lists.specs.Tests.{leb-is, no_way}
use Rattle.rules.specs.Limits.{most_moves}
use Rattle.rules.specs.Model.{moves_ok, live_ok}
use Rattle.rules.specs.Moves.{stamp_of}
use Rattle.rules.specs.Batch.{Change, Batch, inserts, deletes, edited, repeated, misplaced, unless, first_of, judge}
use Rattle.rules.specs.declared.Session.{Session}
use Rattle.laws.specs.moves.Edits.{Judged, edited-sum, wrong-in, repeated-in}
use Rattle.laws.specs.moves.Emptied.{lives_by, lives-edited}
use Rattle.moves.specs.Ascending.{ascends, some-sizes, moves-ascend}
use Rattle.batch_judge.specs.Judging.{fault_of, verdict_says, or_else}
use Rattle.rules.specs.declared.Refused.{Refused}
use Rattle.std.specs.Prelude.{Result, Ok, Err}
use Rattle.std.specs.Result.{result_and}

-- A list has as many entries as ones.
ones : (l : List ℕ) → sum_of (λ q. 1) l ≡ length l
ones [] = refl
ones (q ∷ l) = let h = ones l in omega arith

-- The length after a judged batch: deletes go, inserts come.
pub edited-length : (ms : List ℕ) (cs : List Change) → ascends 0 ms ≡ true → Judged ms cs → length (edited cs ms) + length (deletes cs) ≡ length ms + length (inserts cs)
edited-length ms cs h j =
    let z = some-sizes 0 ms h in
    let s = edited-sum (λ q. 1) z.0 ms cs j z.1 in
    let a = ones (edited cs ms) in
    let b = ones (deletes cs) in
    let c = ones ms in
    let d = ones (inserts cs) in omega arith

-- Both sides of a test raised by the same number.
same_test : (a b k d : ℕ) → a + d ≡ b → leb b (k + d) ≡ leb a k
same_test a b k d e =
    elim (dec_le a k) [
      | yes y ↦ let x : b ≤ k + d = omega arith in (leb-is b (k + d)).1 x ∙ sym ((leb-is a k).1 y)
      | no y ↦ no_way (leb b (k + d)) (λ x. let w = (leb-is b (k + d)).0 x in omega arith) ∙ sym (no_way (leb a k) (λ x. y ((leb-is a k).0 x)))
    ]

-- Whether the moves still fit, by counts alone.
abbrev pub fits_by : ℕ → ℕ → List Change → Bool
fits_by room n cs = leb (n + length (inserts cs)) (min most_moves room + length (deletes cs))

-- A verdict says what its fault says.
first_one : (b : Batch) (v : Result (Unit {0}) Refused) → verdict_says b v ≡ first_of (fault_of v ∷ []) b
first_one b (Err r) = refl
first_one b (Ok u) = refl

-- The first of five verdicts that refuses decides.
pub first-five : (d n p s l : Result (Unit {0}) Refused)
    → fault_of (result_and (result_and (result_and (result_and d n) p) s) l) ≡ or_else (fault_of d) (or_else (fault_of n) (or_else (fault_of p) (or_else (fault_of s) (fault_of l))))
first-five (Err r) n p s l = refl
first-five (Ok u) (Err r) p s l = refl
first-five (Ok u) (Ok v) (Err r) s l = refl
first-five (Ok u) (Ok v) (Ok w) (Err r) l = refl
first-five (Ok u) (Ok v) (Ok w) (Ok x) l = refl

-- The first of two faults decides.
first_two : (b : Batch) (x o : Option (ℕ × ℕ)) → first_of (or_else x o ∷ []) b ≡ first_of (x ∷ o ∷ []) b
first_two b none o = refl
first_two b (some r) o = refl

-- In front of the same fault, the rest may be told in other words.
in-front : (b : Batch) (x : Option (ℕ × ℕ)) (l m : List (Option (ℕ × ℕ))) → (x ≡ none → first_of l b ≡ first_of m b) → first_of (x ∷ l) b ≡ first_of (x ∷ m) b
in-front b none l m h = h refl
in-front b (some r) l m h = refl

-- What a batch may rely on: the session's stamp is that of its moves, which are in range and in order, and each state of a live
-- session has one.
pub record Held (s : Session) (ms : List ℕ) : Type 0 where
  pub stamp : s.stamp ≡ stamp_of ms
  pub in_range : moves_ok s.sizes 0 ms ≡ true
  pub lively : live_ok s.live s.sizes.states ms ≡ true

pub held-ascends : (s : Session) (ms : List ℕ) → Held s ms → ascends 0 ms ≡ true
held-ascends s ms h = moves-ascend s.sizes 0 ms h.in_range

-- What the code finds is what the judgement says.
pub verdict-judges : (s : Session) (room : ℕ) (ms : List ℕ) (b : Batch) (v : Result (Unit {0}) Refused) → Held s ms → fault_of v
    ≡ or_else (unless 11 (eqb b.stamp s.stamp)) (or_else (repeated [] 5 b.changes) (or_else (misplaced ms 5 b.changes)
    (or_else (unless 10 (fits_by room (length ms) b.changes)) (unless 16 (lives_by s.live ms b.changes)))))
    → verdict_says b v ≡ judge s room ms b
unfolding judge
verdict-judges s room ms b v g f =
    let n = repeated [] 5 b.changes in
    let m = misplaced ms 5 b.changes in
    let u = unless 10 (fits_by room (length ms) b.changes) in
    let x = unless 16 (lives_by s.live ms b.changes) in
    let w = unless 11 (eqb b.stamp s.stamp) in
    let u' = unless 10 (leb (length (edited b.changes ms)) (min most_moves room)) in
    let x' = unless 16 (live_ok s.live s.sizes.states (edited b.changes ms)) in
    first_one b v ∙ ap (λ (o : Option (ℕ × ℕ)). first_of (o ∷ []) b) f ∙ first_two b w (or_else n (or_else m (or_else u x)))
    ∙ in-front b w (or_else n (or_else m (or_else u x)) ∷ []) (n ∷ m ∷ u' ∷ x' ∷ [])
    (λ a. first_two b n (or_else m (or_else u x)) ∙ in-front b n (or_else m (or_else u x) ∷ []) (m ∷ u' ∷ x' ∷ [])
    (λ p. first_two b m (or_else u x) ∙ in-front b m (or_else u x ∷ []) (u' ∷ x' ∷ [])
    (λ q. let r = repeated-in [] 5 b.changes p in
    let k = wrong-in ms 5 b.changes q in
    let j : Judged ms b.changes = (r.0, r.1, k.0, k.1) in
    let d = edited-length ms b.changes (held-ascends s ms g) j in
    first_two b u x ∙ ap₂ (λ (c d : Bool). first_of (unless 10 c ∷ unless 16 d ∷ []) b)
    (same_test (length (edited b.changes ms)) (length ms + length (inserts b.changes)) (min most_moves room) (length (deletes b.changes)) d)
    (sym (lives-edited s.sizes ms b.changes j g.in_range s.live g.lively)))))
    ∙ ap (λ (k : ℕ). first_of (unless 11 (eqb b.stamp k) ∷ n ∷ m ∷ u' ∷ x' ∷ []) b) g.stamp
