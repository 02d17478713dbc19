-- The moves stay in order while the changes of a judged batch are made. Assumes nothing.
use Rattle.std.specs.Prelude.{◌≡◌, refl, Bool, List, [], ◌∷◌, ℕ, zero, suc, ◌≤◌, length, take, drop, eqb, ltb}
use Rattle.std.proofs.Common.{sym, ◌∙◌, inl, inr, arith, length-append, take-append-drop, take_at}
use Rattle.std.proofs.Math.Path.{ap, subst}
use Rattle.std.proofs.Math.Bool.{true, false}
use Rattle.std.proofs.Math.Seq.{length-take-le}
use Rattle.lists.specs.Lists.{elem}
use Rattle.lists.specs.Counts.{count-le}
use Rattle.lists.specs.Tests.{tell, and_is, leb-is, eqb_no, ltb-is, ltb_no, or_no}
use Rattle.rules.specs.Batch.{Change, insert, remove_all, insert_all, inserts, deletes, edited}
use Rattle.laws.specs.moves.Edits.{AllAre, Distinct, insert_all-elem}
use Rattle.words.specs.Words.{changes_of}
use Rattle.moves.specs.Ascending.{ascends, below, leading, leading-below}
use Rattle.batch_apply.specs.Kept.{Kept, kept, moves_in, changed_all, Orderly, AllOrderly, Ready}
use Rattle.batch_apply.specs.OneMove.{due, in-length}
use Rattle.batch_apply.specs.Applied.{tail_of, apart, start-apart, remove_all-ascends, all-out, all_in, outside}

-- A move that is not there is put into an ascending list, which still ascends.
insert-ascends : (n p : ℕ) (l : List ℕ) → n ≤ p → elem p l ≡ false → ascends n l ≡ true → ascends n (insert p l) ≡ true
insert-ascends n p [] k e h = simp and_is ((leb-is _ _).1 k, refl)
insert-ascends n p (q ∷ l) k e h =
    let f = simp and_is at h in
    let d = (or_no (eqb p q) (elem p l)).0 e in
    let ne = (eqb_no p q).0 d.0 in
    elim (tell true (ltb p q)) [
      | inl t ↦ let y = (ltb-is p q).0 t in rw t (simp and_is ((leb-is _ _).1 k, ((leb-is (suc p) q).1 y, f.1)))
      | inr t ↦ let y = (ltb_no p q).0 t in rw t (simp and_is (f.0, insert-ascends (suc q) p l (omega arith) d.1 f.1))
    ]

insert_all-ascends : (ps l : List ℕ) → Distinct ps → AllAre false ps l → ascends 0 l ≡ true → ascends 0 (insert_all ps l) ≡ true
insert_all-ascends [] l d a h = h
insert_all-ascends (p ∷ ps) l d a h =
    insert-ascends 0 p (insert_all ps l) (omega arith) (insert_all-elem p ps l ∙ rw (d.0, a.0) refl) (insert_all-ascends ps l d.1 a.1 h)

-- A room whose moves ascend.
apart-orderly : (n : ℕ) (room l : List ℕ) → ascends 0 l ≡ true → Orderly (apart n room l)
apart-orderly n room l h =
    let s = length-append l (tail_of n room (length l)) in
    record { fits = omega arith; ascend = rw (take_at l (tail_of n room (length l)) (length l) refl) h }

module _ (n : ℕ) (room ms : List ℕ) (h : ascends 0 ms ≡ true) where
  -- After each delete.
  out-orderly : (cs : List Change) → Distinct (deletes cs) → AllAre true (deletes cs) ms → length ms ≤ n → AllOrderly false cs (apart n room ms)
  out-orderly [] d a k = apart-orderly n room ms h
  out-orderly (c ∷ cs) d a k = (
    subst Orderly (sym (all-out n room ms (c ∷ cs) h d a k).0) (apart-orderly n room (remove_all (deletes (c ∷ cs)) ms) (remove_all-ascends (deletes (c ∷ cs)) ms h)),
    elim (tell true c.insert) [
      | inl t ↦ out-orderly cs (rw t at d) (rw t at a) k
      | inr t ↦ let d' = rw t at d in let a' = rw t at a in out-orderly cs d'.1 a'.1 k
    ],
  )

  -- After each insert.
  in-orderly : (cs : List Change) → Distinct (inserts cs) → AllAre false (inserts cs) ms → length (insert_all (inserts cs) ms) ≤ length room → AllOrderly true cs (apart n room ms)
  in-orderly [] d a k = apart-orderly n room ms h
  in-orderly (c ∷ cs) d a k = (
    subst Orderly (sym (all_in n room ms (c ∷ cs) d a k)) (apart-orderly n room (insert_all (inserts (c ∷ cs)) ms) (insert_all-ascends (inserts (c ∷ cs)) ms d a h)),
    elim (tell true c.insert) [
      | inr t ↦ in-orderly cs (rw t at d) (rw t at a) (rw t at k)
      | inl t ↦
          let d' = rw t at d in
          let a' = rw t at a in
          let k' = rw t at k in
          let o : elem c.move (insert_all (inserts cs) ms) ≡ false = insert_all-elem c.move (inserts cs) ms ∙ rw (d'.0, a'.0) refl in
          let s = in-length c.move (insert_all (inserts cs) ms) (due c.move (insert_all (inserts cs) ms) o) in
          in-orderly cs d'.1 a'.1 (omega arith)
    ],
  )

-- What is ready stays in order through the deletes, and then through the inserts.
module _ (cs : List Change) (n : ℕ) (room : List ℕ) (r : Ready cs (kept room n)) where
  pub as-apart : kept room n ≡ apart n room (take n room)
  as-apart = start-apart n room (take n room) (length-take-le n room r.start.fits) (sym (take-append-drop n room))

  pub ready-out : AllOrderly false cs (kept room n)
  ready-out =
      let s = length-take-le n room r.start.fits in
      subst (AllOrderly false cs) (sym as-apart) (out-orderly n room (take n room) r.start.ascend cs r.judged.1 r.judged.3 (omega arith))

  pub ready-in : AllOrderly true cs (changed_all false cs (kept room n))
  unfolding edited
  ready-in =
      let s = length-take-le n room r.start.fits in
      let out = all-out n room (take n room) cs r.start.ascend r.judged.1 r.judged.3 (omega arith) in
      let e : changed_all false cs (kept room n) ≡ apart n room (remove_all (deletes cs) (take n room)) = ap (changed_all false cs) as-apart ∙ out.0 in
      subst (AllOrderly true cs) (sym e) (in-orderly n room (remove_all (deletes cs) (take n room)) (remove_all-ascends (deletes cs) (take n room) r.start.ascend) cs r.judged.0 (outside (inserts cs) (deletes cs) (take n room) r.judged.2) r.few)

-- In order before the changes from any place on, in a walk from the last to the first.
orderly-first : (b : Bool) (cs : List Change) (k : Kept) → AllOrderly b cs k → Orderly (changed_all b cs k)
orderly-first b [] k h = h
orderly-first b (c ∷ cs) k h = h.0

orderly-drop : (b : Bool) (i : ℕ) (l : List ℕ) (k : Kept) → AllOrderly b (changes_of l) k → AllOrderly b (changes_of (drop i l)) k
orderly-drop b zero l k h = h
orderly-drop b (suc i) [] k h = h
orderly-drop b (suc i) (w ∷ l) k h = orderly-drop b i l k h.1

pub orderly_from : (b : Bool) (i : ℕ) (l : List ℕ) (k : Kept) → AllOrderly b (changes_of l) k → Orderly (changed_all b (changes_of (drop i l)) k)
orderly_from b i l k h = orderly-first b (changes_of (drop i l)) k (orderly-drop b i l k h)

-- The place that a search finds is the one that a walk comes to, and it is none past the moves.
pub place-leads : (p : ℕ) (k : Kept) → Orderly k → below p (moves_in k) ≡ leading p (moves_in k)
place-leads p k o = sym (leading-below p 0 (moves_in k) o.ascend)

pub place_inside : (p : ℕ) (k : Kept) → Orderly k → below p (moves_in k) ≤ k.count
place_inside p k o =
    let c = count-le (λ q. ltb q p) (moves_in k) in
    let s = length-take-le k.count k.moves o.fits in
    omega arith
