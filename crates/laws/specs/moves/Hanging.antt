-- Which states have a move: what a reading counts, in one pass over the ascending moves, tells whether each state has one.
-- Assumes nothing.
use Rattle.std.specs.Prelude.{◌≡◌, refl, ◌≢◌, Bool, true, false, cond, List, [], ◌∷◌, ℕ, suc, ◌≤◌, ◌<◌, eqb, ltb}
use Rattle.std.proofs.Common.{sym, ap, ◌∙◌, subst, inl, inr, arith}
use Rattle.std.proofs.lemmas.Bool.{false≢true}
use Rattle.lists.specs.Ranges.{same_truth, each_in, each-out}
use Rattle.lists.specs.Tests.{tests, tell, eqb_is, eqb_no, ltb-is, ltb_no, and_is, leb-is, or-in, or-other, or_no}
use Rattle.rules.specs.Moves.{source}
use Rattle.rules.specs.Model.{move_ok, moves_ok, has_move, none_hangs, live_ok}
use Rattle.rules.specs.Load.{Sofar, started, moving_with}
use Rattle.rules.specs.declared.Sizes.{Sizes}

-- What has been read once the sizes have, and the record of a live model where n is 1.
abbrev pub opened : Sizes → ℕ → Sofar
opened z n = record { sizes = z; live = n; labels = 0; blocks = (started z).blocks; signs = []; moves = (started z).moves }

-- How many states, from the first on, have a move each, where n have one before the moves.
abbrev pub moving_over : ℕ → List ℕ → ℕ
moving_over n [] = n
moving_over n (q ∷ ms) = moving_over (moving_with n (source q)) ms

-- What is counted has a move.
counted : (ms : List ℕ) (n k s : ℕ) → moving_over n ms ≡ k → n ≤ s → s < k → has_move ms s ≡ true
counted [] n k s e h l = absurd (omega arith)
counted (q ∷ ms) n k s e h l =
    elim (tell true (eqb (source q) n)) [
      | inr t ↦ or-in (eqb (source q) s) (has_move ms s) (λ f. counted ms n k s (rw t at e) h l)
      | inl t ↦ elim (tell true (eqb (source q) s)) [
        | inl u ↦ rw u refl
        | inr u ↦
            let a = (eqb_is (source q) n).0 t in
            let b = (eqb_no (source q) s).0 u in
            let c : n ≢ s = λ i. b (a ∙ i) in
            rw u (counted ms (suc n) k s (rw t at e) (omega arith) l)
      ]
    ]

-- No move before a number has a higher source than the moves from that number on.
none_before : (z : Sizes) (ms : List ℕ) (least s : ℕ) → moves_ok z least ms ≡ true → s < source least → has_move ms s ≡ false
none_before z [] least s h l = refl
none_before z (q ∷ ms) least s h l =
    let f = simp and_is at h in
    let g = (leb-is least q).0 f.0.0 in
    let m : source least ≤ source q = omega arith in
    let d : source q ≢ s = λ i. omega arith in
    let n : source q ≤ source (suc q) = omega arith in
    rw ((eqb_no (source q) s).1 d) (none_before z ms (suc q) s f.1 (omega arith))

-- Where each state from n on has a move, all are counted: a state that is passed over has none.
all-counted : (z : Sizes) (ms : List ℕ) (least n : ℕ) → moves_ok z least ms ≡ true → n ≤ z.states
    → ((s : ℕ) → n ≤ s → s < z.states → has_move ms s ≡ true) → moving_over n ms ≡ z.states
unfolding move_ok
all-counted z [] least n h l g =
    elim (tell true (ltb n z.states)) [
      | inl t ↦ absurd (false≢true (g n (omega arith) ((ltb-is n z.states).0 t)))
      | inr t ↦ let c = (ltb_no n z.states).0 t in omega arith
    ]
all-counted z (q ∷ ms) least n h l g =
    let f = simp and_is at h in
    let k = simp tests at f.0.1 in
    let others : (s : ℕ) → source q ≢ s → has_move (q ∷ ms) s ≡ true → has_move ms s ≡ true = λ s d e. or-other (eqb (source q) s) (has_move ms s) e ((eqb_no (source q) s).1 d) in
    elim (tell true (eqb (source q) n)) [
      | inl t ↦
          let a = (eqb_is (source q) n).0 t in
          rw t (all-counted z ms (suc q) (suc n) f.1 (omega arith) (λ s b c. others s (λ i. omega arith) (g s (omega arith) c)))
      | inr t ↦
          let d = (eqb_no (source q) n).0 t in
          rw t (elim (tell true (ltb (source q) n)) [
            | inl u ↦
                let a = (ltb-is (source q) n).0 u in
                all-counted z ms (suc q) n f.1 l (λ s b c. others s (λ i. omega arith) (g s b c))
            | inr u ↦
                let a = (ltb_no (source q) n).0 u in
                let b : n < source q = omega arith in
                let c : source q ≤ source (suc q) = omega arith in
                absurd (false≢true (sym (none_before z ms (suc q) n f.1 (omega arith)) ∙ others n d (g n (omega arith) (omega arith))))
          ])
    ]

-- The count only grows, and where the moves have passed a state it stops there.
grows : (ms : List ℕ) (n : ℕ) → n ≤ moving_over n ms
grows [] n = omega arith
grows (q ∷ ms) n =
    elim (tell true (eqb (source q) n)) [
      | inl t ↦ let h = grows ms (suc n) in rw t (omega arith)
      | inr t ↦ rw t (grows ms n)
    ]

stays : (z : Sizes) (ms : List ℕ) (least n : ℕ) → moves_ok z least ms ≡ true → n < source least → moving_over n ms ≡ n
stays z [] least n h l = refl
stays z (q ∷ ms) least n h l =
    let f = simp and_is at h in
    let g = (leb-is least q).0 f.0.0 in
    let m : source least ≤ source q = omega arith in
    let s : source q ≤ source (suc q) = omega arith in
    let d : source q ≢ n = λ i. omega arith in
    rw ((eqb_no (source q) n).1 d) (stays z ms (suc q) n f.1 (omega arith))

-- The state at which it stops has no move.
stops : (z : Sizes) (ms : List ℕ) (least n : ℕ) → moves_ok z least ms ≡ true → has_move ms (moving_over n ms) ≡ false
stops z [] least n h = refl
stops z (q ∷ ms) least n h =
    let f = simp and_is at h in
    elim (tell true (eqb (source q) n)) [
      | inl t ↦
          let a = (eqb_is (source q) n).0 t in
          let g = grows ms (suc n) in
          let e : moving_over (suc n) ms ≡ moving_over n (q ∷ ms) = rw t refl in
          subst (λ (s : ℕ). has_move (q ∷ ms) s ≡ false) e ((or_no (eqb (source q) (moving_over (suc n) ms)) (has_move ms (moving_over (suc n) ms))).1 ((eqb_no (source q) _).1 (λ i. omega arith), stops z ms (suc q) (suc n) f.1))
      | inr t ↦
          let d = (eqb_no (source q) n).0 t in
          let g = grows ms n in
          let off : source q ≢ moving_over n ms = elim (tell true (ltb (source q) n)) [
            | inl u ↦ λ i. (let a = (ltb-is (source q) n).0 u in omega arith)
            | inr u ↦ λ i. (let a = (ltb_no (source q) n).0 u in let b : source q ≤ source (suc q) = omega arith in let c = stays z ms (suc q) n f.1 (omega arith) in omega arith)
          ] in
          let e : moving_over n ms ≡ moving_over n (q ∷ ms) = rw t refl in
          subst (λ (s : ℕ). has_move (q ∷ ms) s ≡ false) e ((or_no (eqb (source q) (moving_over n ms)) (has_move ms (moving_over n ms))).1 ((eqb_no (source q) _).1 off, stops z ms (suc q) n f.1))
    ]

-- Counted over moves in order, it is the first state that has no move: those below it have one each.
pub first-hanging : (z : Sizes) (ms : List ℕ) → moves_ok z 0 ms ≡ true
    → (has_move ms (moving_over 0 ms) ≡ false) × ((s : ℕ) → s < moving_over 0 ms → has_move ms s ≡ true)
first-hanging z ms h = (stops z ms 0 0 h, λ s l. counted ms 0 (moving_over 0 ms) s refl (omega arith) l)

-- All states are counted exactly where each has a move.
pub moving-is : (z : Sizes) (ms : List ℕ) → moves_ok z 0 ms ≡ true → eqb (moving_over 0 ms) z.states ≡ none_hangs z.states ms
unfolding none_hangs
moving-is z ms h =
    same_truth
    (λ e. each_in z.states (has_move ms) (λ s l. counted ms 0 z.states s ((eqb_is (moving_over 0 ms) z.states).0 e) (omega arith) l))
    (λ e. (eqb_is (moving_over 0 ms) z.states).1 (all-counted z ms 0 0 h (omega arith) (λ s a b. each-out z.states (has_move ms) e s b)))

-- So what is asked at the end of a live model is that each state has a move.
pub all-moving : (z : Sizes) (live : ℕ) (ms : List ℕ) → moves_ok z 0 ms ≡ true
    → cond (eqb live 1) (eqb (moving_over 0 ms) z.states) true ≡ live_ok live z.states ms
unfolding live_ok
all-moving z live ms h = ap (λ (b : Bool). cond (eqb live 1) b true) (moving-is z ms h)
