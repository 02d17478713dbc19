-- A row's pairs put at the end of the queue, and its marks put back among all marks, as the machine has them. Assumes nothing.
use Rattle.std.specs.Prelude.{◌≡◌, refl, Bool, true, false, cond, List, [], ◌∷◌, ◌++◌, map, ℕ, zero, suc, ◌+◌, ◌-◌, ◌*◌, ◌≤◌, ◌<◌, length, get_or, set, take, drop, eqb}
use Rattle.std.proofs.Common.{sym, ap, ◌∙◌, subst, inl, inr, append-nil, append_assoc, add-zero, zero-add, add-one, arith, length-set, length-append, length-drop, take-suc, take-suc-set, length-take-le, drop-drop, get_or-take, get_or-drop, get_or-append-add, ext_get_or}
use Rattle.std.proofs.Math.Decide.{dec_lt}
use Rattle.std.proofs.lemmas.List.{length-map, take-set-le}
use Rattle.std.proofs.Math.ListN.{get_or-append, get_or-eq_default}
use Rattle.lists.specs.Lists.{listed, some_below}
use Rattle.lists.specs.TableLaws.{listed-is, listed-length}
use Rattle.lists.specs.Ranges.{some-no, some_same}
use Rattle.lists.specs.Tests.{tell, eqb_is, eqb_no}
use Rattle.systems.specs.machine.Machine.{next_mark}
use Rattle.systems.specs.lists.ListMachine.{between}
use Rattle.systems.specs.slices.Fair.{between_split}
use Rattle.systems.specs.lists.Rows.{hits, row_marks}
use Rattle.systems.specs.lists.RowLaws.{row-marks-long, row-marks-past, row-marks-before, row-marks-at}
use Rattle.rules.specs.declared.Sizes.{Sizes}
use Rattle.laws.specs.model.ModelLeaners.{map-append}
use Rattle.words.specs.Words.{waiting_of, variable_in, state_in}
use Rattle.engine_table.specs.Table.{waiter}
use Rattle.engine_table.specs.EquationWords.{waiter-at}
use Rattle.engine_rows.specs.Rooms.{Packed, Bits}
use Rattle.engine_rows.specs.RowLoops.{mark_at, bad_at, bad_from, Queued}

-- One place more, that must turn or not.
hits-yes : (f : ℕ → Bool) (p n : ℕ) → f (p + n) ≡ true → hits f p (suc n) ≡ hits f p n ++ ((p + n) ∷ [])
hits-yes f p n y = ap (λ (b : Bool). hits f p n ++ cond b ((p + n) ∷ []) []) y

hits-no : (f : ℕ → Bool) (p n : ℕ) → f (p + n) ≡ false → hits f p (suc n) ≡ hits f p n
hits-no f p n y = ap (λ (b : Bool). hits f p n ++ cond b ((p + n) ∷ []) []) y ∙ append-nil (hits f p n)

-- Tests that agree on the places have the same hits.
hits-same : (f g : ℕ → Bool) (p n : ℕ) → ((i : ℕ) → i < n → f (p + i) ≡ g (p + i)) → hits f p n ≡ hits g p n
hits-same f g p zero h = refl
hits-same f g p (suc n) h =
    ap (λ (l : List ℕ). l ++ cond (f (p + n)) ((p + n) ∷ []) []) (hits-same f g p n (λ i l. h i (omega arith)))
    ∙ ap (λ (b : Bool). hits g p n ++ cond b ((p + n) ∷ []) []) (h n (omega arith))

-- Fewer places have no more hits.
pub hits_few : (f : ℕ → Bool) (p s n : ℕ) → s ≤ n → length (hits f p s) ≤ length (hits f p n)
hits_few f p s zero h = let e : s ≡ 0 = omega arith in let q = ap (λ (k : ℕ). length (hits f p k)) e in omega arith
hits_few f p s (suc n) h =
    let a = length-append (hits f p n) (cond (f (p + n)) ((p + n) ∷ []) []) in
    elim (dec_lt n s) [
      | yes g ↦ let e : s ≡ suc n = omega arith in let q = ap (λ (k : ℕ). length (hits f p k)) e in omega arith
      | no g ↦ let q = hits_few f p s n (omega arith) in omega arith
    ]

-- Places that follow one another.
hits-on : (f : ℕ → Bool) (p a q b n : ℕ) → q ≡ p + a → n ≡ a + b → hits f p n ≡ hits f p a ++ hits f q b
hits-on f p a q zero n eq en = let e : n ≡ a = omega arith in ap (hits f p) e ∙ sym (append-nil (hits f p a))
hits-on f p a q (suc b) zero eq en = absurd (omega arith)
hits-on f p a q (suc b) (suc n) eq en =
    let e : p + n ≡ q + b = omega arith in
    ap (λ (l : List ℕ). l ++ cond (f (p + n)) ((p + n) ∷ []) []) (hits-on f p a q b n eq (omega arith))
    ∙ ap (λ (k : ℕ). (hits f p a ++ hits f q b) ++ cond (f k) (k ∷ []) []) e
    ∙ append_assoc (hits f p a) (hits f q b) (cond (f (q + b)) ((q + b) ∷ []) [])

-- Places of which none must turn.
pub hits-none : (f : ℕ → Bool) (p n : ℕ) → ((s : ℕ) → s < n → f (p + s) ≡ false) → hits f p n ≡ []
hits-none f p zero h = refl
hits-none f p (suc n) h = hits-no f p n (h n (omega arith)) ∙ hits-none f p n (λ s l. h s (omega arith))

-- Places of which none must turn are passed over.
pub queued-over : (y : ℕ) (g : ℕ → Bool) (before : List ℕ) (tail p n : ℕ) → some_below n (λ i. g (p + i)) ≡ false → Queued y g before tail p n tail before
queued-over y g before tail p n none =
    let miss = hits-none g p n (some-no n (λ i. g (p + i)) none) in
    record {
      long = refl;
      reaches = rw miss (sym (add-zero tail));
      front = rw miss (sym (append-nil (take tail before)));
    }

-- The place i of a part of a row.
pub bad-from-at : (p : ℕ) (part : List ℕ) (i : ℕ) → bad_from p part (p + i) ≡ bad_at part i
bad-from-at p part i = let e : p + i - p ≡ i = omega arith in ap (bad_at part) e

-- Where none of a part is bad, it is passed over.
pub part-over : (y : ℕ) (part before : List ℕ) (tail p : ℕ) → some_below (length part) (bad_at part) ≡ false
    → Queued y (bad_from p part) before tail p (length part) tail before
part-over y part before tail p none =
    queued-over y (bad_from p part) before tail p (length part) (some_same (length part) _ (bad_at part) (λ i h. bad-from-at p part i) ∙ none)

-- A part of a row, and what comes after it, from the place p on.
module _ (p : ℕ) (bad part rest : List ℕ) (e : part ++ rest ≡ drop p bad) where
  part-is : (i : ℕ) → i < length part → get_or part i 0 ≡ get_or bad (p + i) 0
  part-is i h = sym (get_or-append part rest 0 i h) ∙ ap (λ (l : List ℕ). get_or l i 0) e ∙ get_or-drop p bad i 0

  part-hits : hits (bad_from p part) p (length part) ≡ hits (bad_at bad) p (length part)
  part-hits =
      hits-same (bad_from p part) (bad_at bad) p (length part) (λ i h. bad-from-at p part i ∙ ap (λ (b : ℕ). eqb b 1) (part-is i h))

  pub part-bits : Bits bad → Bits part
  part-bits bits i = elim (dec_lt i (length part)) [
    | yes h ↦ let one = part-is i h in let two = bits (p + i) in omega arith
    | no h ↦ let one = get_or-eq_default part 0 {n = i} (omega (arith, h)) in omega arith
  ]

  pub part-room : (tail room : ℕ) → tail + length (hits (bad_at bad) p (length part)) < room → tail + length (hits (bad_from p part) p (length part)) < room
  part-room tail room h = let same = ap length part-hits in omega (arith, h)

  pub part-queued : (y : ℕ) (before queue : List ℕ) (tail top : ℕ) → Queued y (bad_from p part) before tail p (length part) top queue
      → Queued y (bad_at bad) before tail p (length part) top queue
  part-queued y before queue tail top q = record {
    long = q.long;
    reaches = q.reaches ∙ ap (λ (l : List ℕ). tail + length l) part-hits;
    front = q.front ∙ ap (λ (l : List ℕ). take tail before ++ map (waiting_of y) l) part-hits;
  }

-- One place more: its pair is put at the end, which goes on where it must turn.
pub queued-more : (y : ℕ) (g : ℕ → Bool) (before : List ℕ) (tail p n s m top b w : ℕ) (queue after : List ℕ) → s ≡ p + n → m ≡ suc n → top < length queue
    → Queued y g before tail p n top queue → b ≤ 1 → g s ≡ eqb b 1 → w ≡ waiting_of y s → after ≡ set queue top w → Queued y g before tail p m (top + b) after
queued-more y g before tail p n s m top b w queue after here next h q small e v f =
    elim (tell true (eqb b 1)) [
      | inl t ↦
          let one = (eqb_is b 1).0 t in
          let up : top + b ≡ suc top = omega arith in
          let hit = ap (hits g p) next ∙ hits-yes g p n (ap g (sym here) ∙ e ∙ t) ∙ ap (λ (k : ℕ). hits g p n ++ (k ∷ [])) (sym here) in
          let a = length-append (hits g p n) (s ∷ []) in
          let l = ap length hit in
          let r = q.reaches in
          record {
            long = ap length f ∙ length-set queue top w ∙ q.long;
            reaches = omega arith;
            front = ap (λ (k : ℕ). take k after) up ∙ ap (take (suc top)) f ∙ take-suc-set queue top w h
                ∙ ap (λ (l : List ℕ). l ++ (w ∷ [])) q.front ∙ append_assoc (take tail before) (map (waiting_of y) (hits g p n)) (w ∷ [])
                ∙ ap (λ (k : ℕ). take tail before ++ (map (waiting_of y) (hits g p n) ++ (k ∷ []))) v
                ∙ ap (λ (l : List ℕ). take tail before ++ l) (sym (map-append (waiting_of y) (hits g p n) (s ∷ [])) ∙ ap (map (waiting_of y)) (sym hit));
          }
      | inr t ↦
          let off = (eqb_no b 1).0 t in
          let up : top + b ≡ top = omega (arith, off) in
          let miss = ap (hits g p) next ∙ hits-no g p n (ap g (sym here) ∙ e ∙ t) in
          let l = ap length miss in
          let r = q.reaches in
          record {
            long = ap length f ∙ length-set queue top w ∙ q.long;
            reaches = omega arith;
            front = ap (λ (k : ℕ). take k after) up ∙ ap (take top) f ∙ take-set-le top queue top w (omega arith) ∙ q.front
                ∙ ap (λ (l : List ℕ). take tail before ++ map (waiting_of y) l) (sym miss);
          }
    ]

-- Places that follow one another, those of the second part put behind those of the first.
pub queued-on : (y : ℕ) (g : ℕ → Bool) (before : List ℕ) (tail p a q b n top r : ℕ) (queue after : List ℕ) → q ≡ p + a → n ≡ a + b
    → Queued y g before tail p a top queue → Queued y g queue top q b r after → Queued y g before tail p n r after
queued-on y g before tail p a q b n top r queue after eq en v w =
    let cut = hits-on g p a q b n eq en in
    let long = ap length cut ∙ length-append (hits g p a) (hits g q b) in
    let t = v.reaches in
    let u = w.reaches in
    record {
      long = w.long ∙ v.long;
      reaches = omega arith;
      front = w.front ∙ ap (λ (l : List ℕ). l ++ map (waiting_of y) (hits g q b)) v.front
          ∙ append_assoc (take tail before) (map (waiting_of y) (hits g p a)) (map (waiting_of y) (hits g q b))
          ∙ ap (λ (l : List ℕ). take tail before ++ l) (sym (map-append (waiting_of y) (hits g p a) (hits g q b)) ∙ ap (map (waiting_of y)) (sym cut));
    }

-- Where there is room for the pairs of all places, there is room for those of the next ones.
pub queued-room : (y : ℕ) (g : ℕ → Bool) (before : List ℕ) (tail p a q b n top : ℕ) (queue : List ℕ) → q ≡ p + a → a + b ≤ n
    → Queued y g before tail p a top queue → tail + length (hits g p n) < length before → top + length (hits g q b) < length queue
queued-room y g before tail p a q b n top queue eq en v room =
    let cut = ap length (hits-on g p a q b (a + b) eq refl) ∙ length-append (hits g p a) (hits g q b) in
    let few = hits_few g p (a + b) n en in
    let t = v.reaches in
    let l = v.long in
    omega arith

-- The states of a row that wait stand for the pairs of the row.
pub waiting-hits : (z : Sizes) (y : ℕ) (f g : ℕ → Bool) (n : ℕ) → n ≤ 1024 → ((s : ℕ) → s < n → g s ≡ f (y * z.states + s))
    → map (waiter z) (map (waiting_of y) (hits g 0 n)) ≡ hits f (y * z.states) n
waiting-hits z y f g zero l e = refl
waiting-hits z y f g (suc n) l e =
    let ih = waiting-hits z y f g n (omega arith) (λ s h. e s (omega arith)) in
    elim (tell true (g n)) [
      | inl t ↦
          ap (λ (k : List ℕ). map (waiter z) (map (waiting_of y) k)) (hits-yes g 0 n (ap g (zero-add n) ∙ t) ∙ ap (λ (k : ℕ). hits g 0 n ++ (k ∷ [])) (zero-add n))
          ∙ ap (map (waiter z)) (map-append (waiting_of y) (hits g 0 n) (n ∷ [])) ∙ map-append (waiter z) (map (waiting_of y) (hits g 0 n)) (waiting_of y n ∷ [])
          ∙ ap (λ (k : List ℕ). k ++ (waiter z (waiting_of y n) ∷ [])) ih
          ∙ ap (λ (k : ℕ). hits f (y * z.states) n ++ (k ∷ [])) (waiter-at z y n (omega arith))
          ∙ sym (hits-yes f (y * z.states) n (sym (e n (omega arith)) ∙ t))
      | inr t ↦
          ap (λ (k : List ℕ). map (waiter z) (map (waiting_of y) k)) (hits-no g 0 n (ap g (zero-add n) ∙ t)) ∙ ih
          ∙ sym (hits-no f (y * z.states) n (sym (e n (omega arith)) ∙ t))
    ]

-- The first entries of a list that was mapped.
take-map : (f : ℕ → ℕ) (k : ℕ) (l : List ℕ) → take k (map f l) ≡ map f (take k l)
take-map f zero l = refl
take-map f (suc k) [] = refl
take-map f (suc k) (q ∷ l) = ap (λ (m : List ℕ). f q ∷ m) (take-map f k l)

-- Each hit is a place of the row.
hit-below : (g : ℕ → Bool) (n i : ℕ) → i < length (hits g 0 n) → get_or (hits g 0 n) i 0 < n
hit-below g zero i h = absurd (omega arith)
hit-below g (suc n) i h =
    let a = length-append (hits g 0 n) (cond (g (0 + n)) ((0 + n) ∷ []) []) in
    elim (dec_lt i (length (hits g 0 n))) [
      | yes k ↦
          let ih = hit-below g n i k in
          let e = get_or-append (hits g 0 n) (cond (g (0 + n)) ((0 + n) ∷ []) []) 0 i k in
          omega arith
      | no k ↦ go (g (0 + n)) refl k h
    ]
  where
    go : (b : Bool) → g (0 + n) ≡ b → (i < length (hits g 0 n) → ⊥) → i < length (hits g 0 (suc n)) → get_or (hits g 0 (suc n)) i 0 < suc n
    go true y k h =
        let hit = hits-yes g 0 n y in
        let a = ap length hit ∙ length-append (hits g 0 n) ((0 + n) ∷ []) in
        let j : i ≡ length (hits g 0 n) + 0 = omega (arith, k) in
        let e = ap (λ (l : List ℕ). get_or l i 0) hit ∙ ap (λ (x : ℕ). get_or (hits g 0 n ++ ((0 + n) ∷ [])) x 0) j ∙ get_or-append-add (hits g 0 n) ((0 + n) ∷ []) 0 0 in
        omega arith
    go false y k h = let a = ap length (hits-no g 0 n y) in absurd (omega (arith, k))

-- What waits are pairs still where the pairs of a row have been put at the end.
pub packed_more : (z : Sizes) (y : ℕ) (g : ℕ → Bool) (before queue : List ℕ) (tail n r : ℕ) → y < z.variables → n ≤ z.states → n ≤ 1024 → tail ≤ length before
    → r ≡ tail + length (hits g 0 n) → take r queue ≡ take tail before ++ map (waiting_of y) (hits g 0 n) → Packed z before tail → Packed z queue r
packed_more z y g before queue tail n r hy hn hk ht reach front p i h =
    let t = length-take-le tail before ht in
    let at = sym (get_or-take r queue i 0 h) ∙ ap (λ (l : List ℕ). get_or l i 0) front in
    elim (dec_lt i tail) [
      | yes k ↦
          let e = at ∙ get_or-append (take tail before) (map (waiting_of y) (hits g 0 n)) 0 i (omega arith) ∙ get_or-take tail before i 0 k in
          subst (λ (w : ℕ). (variable_in w < z.variables) × (state_in w < z.states)) (sym e) (p i k)
      | no k ↦
          let j : i ≡ length (take tail before) + (i - tail) = omega (arith, k) in
          let b = hit-below g n (i - tail) (omega (arith, k)) in
          let m = length-map (hits g 0 n) (waiting_of y) in
          let e = at ∙ ap (λ (x : ℕ). get_or (take tail before ++ map (waiting_of y) (hits g 0 n)) x 0) j
          ∙ get_or-append-add (take tail before) (map (waiting_of y) (hits g 0 n)) (i - tail) 0 in
          let v = mapped (hits g 0 n) (i - tail) (omega (arith, k)) in
          let w : get_or queue i 0 ≡ 1024 * y + get_or (hits g 0 n) (i - tail) 0 = e ∙ v in
          (omega arith, omega arith)
    ]
  where
    mapped : (l : List ℕ) (i : ℕ) → i < length l → get_or (map (waiting_of y) l) i 0 ≡ waiting_of y (get_or l i 0)
    mapped [] i h = absurd (omega arith)
    mapped (x ∷ l) zero h = refl
    mapped (x ∷ l) (suc i) h = mapped l i (omega arith)

-- A row's marks, once each pair of the row that must turn has its next mark, put back where they lay among all marks.
pub marks-back : (f : ℕ → Bool) (next : ℕ → ℕ) (p n : ℕ) (marks row : List ℕ) → p + n ≤ length marks → length row ≡ n
    → ((s : ℕ) → s < n → get_or row s 0 ≡ cond (f (p + s)) (next (get_or marks (p + s) 0)) (get_or marks (p + s) 0))
    → take p marks ++ (row ++ drop (p + n) marks) ≡ row_marks f next p n marks
marks-back f next p n marks row h k e =
    let a = length-take-le p marks (omega arith) in
    let b = length-append row (drop (p + n) marks) in
    let d = length-drop (p + n) marks in
    let g = length-append (take p marks) (row ++ drop (p + n) marks) in
    let m = row-marks-long f next p n marks in
    ext_get_or 0 (take p marks ++ (row ++ drop (p + n) marks)) (row_marks f next p n marks) (omega arith) (λ i l. elim (dec_lt i p) [
      | yes u ↦
          get_or-append (take p marks) (row ++ drop (p + n) marks) 0 i (omega arith) ∙ get_or-take p marks i 0 u ∙ sym (row-marks-before f next p n marks i u)
      | no u ↦
          let j : i ≡ length (take p marks) + (i - p) = omega (arith, u) in
          ap (λ (x : ℕ). get_or (take p marks ++ (row ++ drop (p + n) marks)) x 0) j ∙ get_or-append-add (take p marks) (row ++ drop (p + n) marks) (i - p) 0
          ∙ elim (dec_lt (i - p) n) [
            | yes v ↦
                let w : p + (i - p) ≡ i = omega (arith, u) in
                get_or-append row (drop (p + n) marks) 0 (i - p) (omega arith) ∙ e (i - p) v
                ∙ ap (λ (x : ℕ). cond (f x) (next (get_or marks x 0)) (get_or marks x 0)) w
                ∙ sym (row-marks-at f next p n marks i (omega (arith, u)) (omega (arith, u, v)) (omega arith))
            | no v ↦
                let w : i - p ≡ length row + (i - p - n) = omega (arith, v) in
                let o : p + n + (i - p - n) ≡ i = omega (arith, u, v) in
                ap (λ (x : ℕ). get_or (row ++ drop (p + n) marks) x 0) w ∙ get_or-append-add row (drop (p + n) marks) (i - p - n) 0
                ∙ get_or-drop (p + n) marks (i - p - n) 0 ∙ ap (λ (x : ℕ). get_or marks x 0) o ∙ sym (row-marks-past f next p n marks i (omega (arith, u, v)))
          ]
    ])

-- An entry of a part.
pub part_at : (p n : ℕ) (l : List ℕ) (s : ℕ) → s < n → get_or (take n (drop p l)) s 0 ≡ get_or l (p + s) 0
part_at p n l s h = get_or-take n (drop p l) s 0 h ∙ get_or-drop p l s 0

-- The same for the marks that `row_marks` leaves of the part that it was lent, as they come back.
pub marked-back : (f : ℕ → Bool) (settling : Bool) (p n : ℕ) (bad marks row : List ℕ) → p + n ≤ length marks
    → ((s : ℕ) → s < n → eqb (get_or bad s 0) 1 ≡ f (p + s)) → row ≡ listed 0 (length (take n (drop p marks))) (mark_at bad settling (take n (drop p marks)))
    → take p marks ++ (row ++ drop n (drop p marks)) ≡ row_marks f (next_mark settling) p n marks
marked-back f settling p n bad marks row h e r =
    let part = take n (drop p marks) in
    let d = length-drop p marks in
    let long = length-take-le n (drop p marks) (omega arith) in
    let k = ap length r ∙ listed-length 0 (length part) (mark_at bad settling part) ∙ long in
    ap (λ (l : List ℕ). take p marks ++ (row ++ l)) (drop-drop n p marks)
    ∙ marks-back f (next_mark settling) p n marks row h k (λ s l.
    ap (λ (x : List ℕ). get_or x s 0) r ∙ listed-is (length part) (mark_at bad settling part) s (omega arith)
    ∙ ap (λ (b : Bool). cond b (next_mark settling (get_or part s 0)) (get_or part s 0)) (e s l)
    ∙ ap (λ (m : ℕ). cond (f (p + s)) (next_mark settling m) m) (part_at p n marks s l))

-- The first entries of a list.
between-front : (l : List ℕ) (k : ℕ) → k ≤ length l → between l 0 k ≡ take k l
between-front l zero h = refl
between-front l (suc k) h =
    let one : k + 1 ≡ suc k = add-one k in
    ap (between l 0) (sym one) ∙ between_split l k 1 0 ∙ ap (λ (i : ℕ). between l 0 k ++ (get_or l i 0 ∷ [])) (zero-add k)
    ∙ ap (λ (m : List ℕ). m ++ (get_or l k 0 ∷ [])) (between-front l k (omega arith)) ∙ sym (take-suc l k 0 h)
