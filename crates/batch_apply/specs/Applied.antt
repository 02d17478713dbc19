-- What the code does to the room is what the batch makes of the moves. Assumes nothing.
use Rattle.std.specs.Prelude.{◌≡◌, refl, true, false, List, [], ◌∷◌, ◌++◌, ℕ, suc, ◌+◌, ◌-◌, ◌≤◌, ◌<◌, length, get_or, take, drop, replicate}
use Rattle.std.proofs.Common.{sym, ap, ◌∙◌, inl, inr, append_assoc, arith, length-append, take-append-drop, drop-cons, length-take-le}
use Rattle.std.proofs.Math.Decide.{dec_lt}
use Rattle.std.proofs.lemmas.List.{length-replicate}
use Rattle.lists.specs.Lists.{elem, fill}
use Rattle.lists.specs.Tests.{tell}
use Rattle.rules.specs.Records.{accepted}
use Rattle.rules.specs.Batch.{Change, Batch, judge, remove, insert, remove_all, insert_all, inserts, deletes, edited}
use Rattle.rules.specs.declared.Session.{Session}
use Rattle.laws.specs.moves.Edits.{judge-out, AllAre, Distinct, Judged, remove_all-elem, remove_all-ok, insert_all-elem}
use Rattle.moves.specs.Ascending.{ascends, some-sizes, moves-ascend}
use Rattle.batch_apply.specs.Kept.{Kept, kept, removed_from, inserted_into, changed_all, applied_to}
use Rattle.batch_apply.specs.OneMove.{Found, Due, found, due, taken_out, put_in, out-length, in-length}

-- What stands behind the first m places, where n places were moves: zeros up to n, and the room past that.
unfoldable pub tail_of : ℕ → List ℕ → ℕ → List ℕ
tail_of n room m = replicate (n - m) 0 ++ drop (m + (n - m)) room

-- A room that holds a list of moves, where n places were moves before.
abbrev pub laid : ℕ → List ℕ → List ℕ → Kept
laid n room ms = kept (fill (ms ++ replicate (n - length ms) 0) room) (length ms)

-- The same, with the moves apart from what stands behind them.
abbrev pub apart : ℕ → List ℕ → List ℕ → Kept
apart n room ms = kept (ms ++ tail_of n room (length ms)) (length ms)

-- The two say the same.
laid-apart : (n : ℕ) (room ms : List ℕ) → laid n room ms ≡ apart n room ms
unfolding tail_of
laid-apart n room ms =
    let e : length (ms ++ replicate {A = ℕ} (n - length ms) 0) ≡ length ms + (n - length ms) = length-append ms (replicate (n - length ms) 0) ∙ ap (λ (x : ℕ). length ms + x) (length-replicate (n - length ms) 0) in
    let m : fill (ms ++ replicate (n - length ms) 0) room ≡ ms ++ tail_of n room (length ms) = rw e (append_assoc ms (replicate (n - length ms) 0) _) in
    λ i. record { moves = m i; count = length ms }

-- A room before any change.
pub start-apart : (n : ℕ) (room ms : List ℕ) → length ms ≡ n → room ≡ ms ++ drop n room → kept room n ≡ apart n room ms
unfolding tail_of
start-apart n room ms s w =
    let d : n - length ms ≡ 0 = omega arith in
    let e : length ms + (n - length ms) ≡ n = omega arith in
    let t : tail_of n room (length ms) ≡ drop n room = rw (e, d) refl in
    let m : room ≡ ms ++ tail_of n room (length ms) = w ∙ ap (λ (x : List ℕ). ms ++ x) (sym t) in
    λ i. record { moves = m i; count = sym s i }

-- Before n, a zero comes next.
tail-less : (n m : ℕ) (room : List ℕ) → m < n → tail_of n room m ≡ 0 ∷ tail_of n room (suc m)
unfolding tail_of
tail-less n m room h =
    let e : m + (n - m) ≡ suc m + (n - suc m) = omega arith in
    let d : n - m ≡ suc (n - suc m) = omega arith in
    rw (e, d) refl

-- From n on, an entry of the room comes next.
tail_more : (n m : ℕ) (room : List ℕ) → n ≤ m → m < length room → tail_of n room m ≡ get_or room m 0 ∷ tail_of n room (suc m)
unfolding tail_of
tail_more n m room h k =
    let e : m + (n - m) ≡ m = omega arith in
    let d : n - m ≡ 0 = omega arith in
    let e' : suc m + (n - suc m) ≡ suc m = omega arith in
    let d' : n - suc m ≡ 0 = omega arith in
    rw (e, d, e', d') (drop-cons room m 0 k)

-- Inside the room something comes next.
tail-cons : (n m : ℕ) (room : List ℕ) → m < length room → (r : ℕ) × (tail_of n room m ≡ r ∷ tail_of n room (suc m))
tail-cons n m room k =
    elim (dec_lt m n) [
      | yes h ↦ (0, tail-less n m room h)
      | no h ↦ (get_or room m 0, tail_more n m room (omega arith) k)
    ]

-- One move out, and one in.
one_out : (n p : ℕ) (room l : List ℕ) → Found p l → length l ≤ n → removed_from p (apart n room l) ≡ apart n room (remove p l)
one_out n p room l f h =
    let s = out-length p l f in
    let t : 0 ∷ tail_of n room (length l) ≡ tail_of n room (length (remove p l)) =
    ap (λ (m : ℕ). 0 ∷ tail_of n room m) (sym s) ∙ sym (tail-less n (length (remove p l)) room (omega arith)) in
    taken_out p l (tail_of n room (length l)) f ∙ ap (λ (x : List ℕ). kept (remove p l ++ x) (length (remove p l))) t

one_in : (n p : ℕ) (room l : List ℕ) → Due p l → length l < length room → inserted_into p (apart n room l) ≡ apart n room (insert p l)
one_in n p room l f h =
    let s = in-length p l f in
    let t = tail-cons n (length l) room h in
    ap (λ (x : List ℕ). inserted_into p (kept (l ++ x) (length l))) t.1
    ∙ put_in p t.0 l (tail_of n room (suc (length l))) f
    ∙ ap (λ (m : ℕ). kept (insert p l ++ tail_of n room m) (length (insert p l))) (sym s)

-- Deletes keep the order.
pub remove_all-ascends : (ps l : List ℕ) → ascends 0 l ≡ true → ascends 0 (remove_all ps l) ≡ true
remove_all-ascends ps l h = let z = some-sizes 0 l h in moves-ascend z.0 0 (remove_all ps l) (remove_all-ok z.0 ps l z.1)

module _ (n : ℕ) (room ms : List ℕ) where
  -- A delete after others.
  out_step : (p : ℕ) (k : Kept) (l : List ℕ) → Found p l → length l ≤ n → k ≡ apart n room l
      → (removed_from p k ≡ apart n room (remove p l)) × (length (remove p l) ≤ n)
  out_step p k l f h e = let s = out-length p l f in (ap (removed_from p) e ∙ one_out n p room l f h, omega arith)

  -- All deletes.
  pub all-out : (cs : List Change) → ascends 0 ms ≡ true → Distinct (deletes cs) → AllAre true (deletes cs) ms → length ms ≤ n
      → (changed_all false cs (apart n room ms) ≡ apart n room (remove_all (deletes cs) ms)) × (length (remove_all (deletes cs) ms) ≤ n)
  all-out [] h d a k = (refl, k)
  all-out (c ∷ cs) h d a k =
      elim (tell true c.insert) [
        | inl t ↦ rw t (all-out cs h (rw t at d) (rw t at a) k)
        | inr t ↦
            let d' = rw t at d in
            let a' = rw t at a in
            let ih = all-out cs h d'.1 a'.1 k in
            let o : elem c.move (remove_all (deletes cs) ms) ≡ true = remove_all-elem c.move (deletes cs) ms ∙ rw (a'.0, d'.0) refl in
            let f = found c.move 0 (remove_all (deletes cs) ms) (remove_all-ascends (deletes cs) ms h) o in
            rw t (out_step c.move (changed_all false cs (apart n room ms)) (remove_all (deletes cs) ms) f ih.1 ih.0)
      ]

  -- An insert after others.
  in_step : (p : ℕ) (k : Kept) (l : List ℕ) → elem p l ≡ false → length (insert p l) ≤ length room → (length l ≤ length room → k ≡ apart n room l)
      → inserted_into p k ≡ apart n room (insert p l)
  in_step p k l o h e =
      let f = due p l o in
      let s = in-length p l f in ap (inserted_into p) (e (omega arith)) ∙ one_in n p room l f (omega arith)

  -- All inserts.
  pub all_in : (cs : List Change) → Distinct (inserts cs) → AllAre false (inserts cs) ms → length (insert_all (inserts cs) ms) ≤ length room
      → changed_all true cs (apart n room ms) ≡ apart n room (insert_all (inserts cs) ms)
  all_in [] d a k = refl
  all_in (c ∷ cs) d a k =
      elim (tell true c.insert) [
        | inr t ↦ rw t (all_in cs (rw t at d) (rw t at a) (rw t at k))
        | inl t ↦
            let d' = rw t at d in
            let a' = rw t at a in
            let o : elem c.move (insert_all (inserts cs) ms) ≡ false = insert_all-elem c.move (inserts cs) ms ∙ rw (d'.0, a'.0) refl in
            rw t (in_step c.move (changed_all true cs (apart n room ms)) (insert_all (inserts cs) ms) o (rw t at k) (λ h. all_in cs d'.1 a'.1 h))
      ]

-- What was absent is absent after the deletes.
pub outside : (ps ds ms : List ℕ) → AllAre false ps ms → AllAre false ps (remove_all ds ms)
outside [] ds ms a = tt
outside (p ∷ ps) ds ms a = (remove_all-elem p ds ms ∙ rw a.0 refl, outside ps ds ms a.1)

-- The changes of a judged batch that fits, made in the room: it holds the old moves less the deletes plus the inserts, and
-- the places that they free are 0.
pub applied-edits : (n : ℕ) (room : List ℕ) (cs : List Change) → n ≤ length room → ascends 0 (take n room) ≡ true → Judged (take n room) cs
    → length (edited cs (take n room)) ≤ length room → applied_to cs (kept room n) ≡ laid n room (edited cs (take n room))
unfolding edited
applied-edits n room cs h o j k =
    let ms = take n room in
    let s : length ms ≡ n = length-take-le n room h in
    let base = remove_all (deletes cs) ms in
    let e : kept room n ≡ apart n room ms = start-apart n room ms s (sym (take-append-drop n room)) in
    let out = all-out n room ms cs o j.1 j.3 (omega arith) in
    ap (λ (x : Kept). changed_all true cs (changed_all false cs x)) e ∙ ap (changed_all true cs) out.0
    ∙ all_in n room base cs j.0 (outside (inserts cs) (deletes cs) ms j.2) k ∙ sym (laid-apart n room (insert_all (inserts cs) base))

-- So it is for a batch that the judgement accepts.
pub accepted-edits : (s : Session) (n : ℕ) (room : List ℕ) (b b' : Batch) → n ≤ length room → ascends 0 (take n room) ≡ true
    → judge s (length room) (take n room) b ≡ accepted b'
    → applied_to b.changes (kept room n) ≡ laid n room (edited b.changes (take n room))
accepted-edits s n room b b' h o e =
    let j = judge-out s (length room) (take n room) b b' e in
    let k = j.2 in applied-edits n room b.changes h o j.1 (omega arith)
