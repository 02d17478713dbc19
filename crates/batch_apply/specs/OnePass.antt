-- All deleted moves taken out of the room in one pass. Assumes nothing.
use Rattle.std.specs.Prelude.{◌≡◌, true, false, not, List, ◌++◌, ℕ, zero, suc, ◌+◌, ◌-◌, ◌≤◌, ◌<◌, get_or, set, eqb}
use Rattle.std.proofs.Math.Path.{refl, sym, ap}
use Rattle.std.proofs.Common.{◌∙◌, subst, inl, inr, append_assoc, append-nil, add-zero, add-one, length-set, take-append-drop, drop-cons, take_at, take-suc-set, drop-set-lt, length-take-le}
use native.Mathlib.Omega.{arith}
use Rattle.std.proofs.Math.ListN.{length, take, drop, length-append}
use Rattle.std.proofs.lemmas.List.{length-map, take-set-le}
use Rattle.std.proofs.Math.Seq.{drop_at}
use Rattle.lists.specs.Lists.{bit}
use Rattle.lists.specs.Sums.{bit_le}
use Rattle.lists.specs.Tests.{tell, eqb_is, eqb_no}
use Rattle.rules.specs.Batch.{Change, remove, remove_all, deletes}
use Rattle.batch_apply.specs.Kept.{Kept, kept, changed_all, mark, Ready}
use Rattle.batch_apply.specs.Striking.{places_in, struck_at, closing, cleared_in}
use Rattle.batch_apply.specs.Struck.{struck, struck-all, struck-out}
use Rattle.batch_apply.specs.Applied.{tail_of, apart, all-out}
use Rattle.batch_apply.specs.Orders.{as-apart}

-- One word is copied, and the closing goes on behind it.
pub closing-on : (n to i : ℕ) (l : List ℕ) → i < n
    → closing (n - (i + 1)) (to + bit (not (eqb (get_or l i 0) mark))) (i + 1) (set l to (get_or l i 0)) ≡ closing (n - i) to i l
unfolding closing
closing-on n to i l h = let m : n - i ≡ suc (n - (i + 1)) = omega arith in rw m refl

-- At the end the closing is done.
pub closing-over : (n to i : ℕ) (l : List ℕ) → n ≤ i → closing (n - i) to i l ≡ kept l to
unfolding closing
closing-over n to i l h = let m : n - i ≡ 0 = omega arith in rw m refl

-- What closing up m words from place i to place `end` gives: those that stay, behind what stood in front; from `end` on
-- the room is as it was.
record Closed (m end to i : ℕ) (l : List ℕ) (k : Kept) : Type 0 where
  front : take k.count k.moves ≡ take to l ++ remove mark (take m (drop i l))
  back : drop end k.moves ≡ drop end l
  inside : k.count ≤ end
  long : length k.moves ≡ length l

-- One word copied.
close-on : (m to i : ℕ) (l : List ℕ) → to ≤ i → i < length l
    → take (to + bit (not (eqb (get_or l i 0) mark))) (set l to (get_or l i 0)) ++ remove mark (take m (drop (i + 1) (set l to (get_or l i 0))))
    ≡ take to l ++ remove mark (take (suc m) (drop i l))
close-on m to i l h k =
    let w = get_or l i 0 in
    elim (tell true (eqb w mark)) [
      | inl t ↦
          let u = (eqb_is mark w).1 (sym ((eqb_is w mark).0 t)) in
          rw (drop-cons l i 0 k, t, u, add-zero to, add-one i, drop-set-lt (suc i) l to w (omega arith), take-set-le to l to w (omega arith)) refl
      | inr t ↦
          let u = (eqb_no mark w).1 (λ y. (eqb_no w mark).0 t (sym y)) in
          rw (drop-cons l i 0 k, t, u, add-one to, add-one i, drop-set-lt (suc i) l to w (omega arith), take-suc-set l to w (omega arith), append_assoc) refl
    ]

-- All words copied.
closed : (m end to i : ℕ) (l : List ℕ) → i + m ≡ end → to ≤ i → end ≤ length l → Closed m end to i l (closing m to i l)
unfolding closing
closed zero end to i l e h k = record { front = sym (append-nil (take to l)); back = refl; inside = omega arith; long = refl }
closed (suc m) end to i l e h k =
    let w = get_or l i 0 in
    let b = bit_le (not (eqb w mark)) in
    let s = length-set l to w in
    let ih = closed m end (to + bit (not (eqb w mark))) (i + 1) (set l to w) (omega arith) (omega arith) (omega arith) in
    record {
      front = ih.front ∙ close-on m to i l h (omega arith);
      back = ih.back ∙ drop-set-lt end l to w (omega arith);
      inside = ih.inside;
      long = ih.long ∙ s;
    }

-- No more words stay than there were.
pub closing-inside : (n : ℕ) (l : List ℕ) (k : Kept) → n ≤ length l → k ≡ closing n 0 0 l → k.count ≤ n
closing-inside n l k h e =
    let c = closed n n 0 0 l (omega arith) (omega arith) h in
    subst (λ (j : Kept). j.count ≤ n) (sym e) c.inside

-- What is ready: the deleted moves struck, the others closed up and the rest cleared is what the deletes make of the room.
module _ (cs : List Change) (n : ℕ) (room : List ℕ) (r : Ready cs (kept room n)) where
  -- The room with the deleted moves struck.
  struck-room : struck_at (places_in (take n room) (deletes cs)) room ≡ struck (deletes cs) (take n room) ++ drop n room
  struck-room =
      ap (struck_at (places_in (take n room) (deletes cs))) (sym (take-append-drop n room))
      ∙ struck-all (deletes cs) (take n room) (drop n room) r.start.ascend r.judged.3

  struck-long : length (struck (deletes cs) (take n room)) ≡ n
  struck-long = length-map (take n room) _ ∙ length-take-le n room r.start.fits

  -- The other moves closed up, and the places that are free then cleared.
  cleared-room : (k : Kept) → Closed n n 0 0 (struck (deletes cs) (take n room) ++ drop n room) k
      → kept (cleared_in k.count n k.moves) k.count ≡ apart n room (remove_all (deletes cs) (take n room))
  unfolding cleared_in tail_of
  cleared-room k c =
      let x = struck (deletes cs) (take n room) in
      let stay = remove_all (deletes cs) (take n room) in
      let s = struck-long in
      let a = length-append x (drop n room) in
      let l = c.long in
      let h = c.inside in
      let f : take k.count k.moves ≡ stay = c.front ∙ ap (remove mark) (take_at x (drop n room) n s) ∙ struck-out (deletes cs) (take n room) r.small in
      let b : drop n k.moves ≡ drop n room = c.back ∙ drop_at x (drop n room) n s in
      let g : k.count ≡ length stay = sym (length-take-le k.count k.moves (omega arith)) ∙ ap length f in
      let m : length stay + (n - length stay) ≡ n = omega arith in
      let e : cleared_in k.count n k.moves ≡ stay ++ tail_of n room (length stay) = rw (m, f, b, g) refl in
      λ i. record { moves = e i; count = g i }

  -- This is what the deletes make of the room one by one.
  pub one-pass : (k : Kept) → k ≡ closing n 0 0 (struck_at (places_in (take n room) (deletes cs)) room)
      → kept (cleared_in k.count n k.moves) k.count ≡ changed_all false cs (kept room n)
  one-pass k e =
      let x = struck (deletes cs) (take n room) in
      let s = struck-long in
      let t = length-take-le n room r.start.fits in
      let a = length-append x (drop n room) in
      let c = closed n n 0 0 (x ++ drop n room) (omega arith) (omega arith) (omega arith) in
      let d = subst (Closed n n 0 0 (x ++ drop n room)) (sym (e ∙ ap (closing n 0 0) struck-room)) c in
      let out = all-out n room (take n room) cs r.start.ascend r.judged.1 r.judged.3 (omega arith) in
      cleared-room k d ∙ sym (ap (changed_all false cs) (as-apart cs n room r) ∙ out.0)
