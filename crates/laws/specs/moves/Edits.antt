-- What a judged batch makes of the moves and of the stamp. Assumes nothing.
use Rattle.std.specs.Prelude.{◌≡◌, refl, ◌≢◌, Bool, true, false, cond, not, ◌&&◌, ◌||◌, List, [], ◌∷◌, ℕ, suc, ◌+◌, ◌-◌, ◌≤◌, ◌<◌, min, length, eqb, ltb, leb}
use Rattle.std.proofs.Common.{sym, ap, ◌∙◌, inl, inr, true≢false, arith}
use Rattle.std.proofs.lemmas.Bool.{false≢true}
use Rattle.std.proofs.Math.Option.{Option, none, some}
use Rattle.lists.specs.Lists.{sum_of, elem, is}
use Rattle.lists.specs.Tests.{tell, ltb-is, leb-is, eqb_is, and_is, ltb_no, or-in, or-other, or_no, eqb_no}
use Rattle.rules.specs.Limits.{most_moves}
use Rattle.rules.specs.Moves.{source, action, target, weight, wrap, stamp_of}
use Rattle.rules.specs.Model.{Model, move_ok, moves_ok, live_ok, well_formed, WellFormed}
use Rattle.rules.specs.Records.{accepted}
use Rattle.rules.specs.Batch.{Change, Batch, read_batch, remove, insert, remove_all, insert_all, inserts, deletes, edited, repeated, misplaced, unless, first_of, judgements, judge, changes_ok}
use Rattle.rules.specs.declared.Sizes.{Sizes}
use Rattle.rules.specs.declared.Session.{Session}
use Rattle.rules.specs.Update.{changed}
use Rattle.laws.specs.bytes.RecordLaws.{AreBytes}
use Rattle.laws.specs.bytes.BatchReads.{read-batch-spelling}

-- The stamp carried over the changes by wrapping add and subtract.
abbrev pub carry : ℕ → List Change → ℕ
carry x [] = x
carry x (c ∷ cs) =
    carry (cond c.insert (wrap (x + weight c.move)) (wrap (x + (4294967296 - wrap (weight c.move))))) cs

-- Wrapping.
wrap-cancel : (c d s : ℕ) → c < 4294967296 → wrap (c + d) ≡ wrap (s + d) → c ≡ wrap s
wrap-cancel c d s h e = omega arith

wrap-more : (a b w : ℕ) → wrap a ≡ wrap b → wrap (a + w) ≡ wrap (b + w)
wrap-more a b w e = omega arith

wrap-back : (x w : ℕ) → wrap (wrap (x + (4294967296 - wrap w)) + w) ≡ wrap x
wrap-back x w = omega arith

wrap-once : (a b : ℕ) → wrap (wrap a + b) ≡ wrap (a + b)
wrap-once a b = omega arith

wrap-small : (x : ℕ) → wrap x < 4294967296
wrap-small x = omega arith

wrap-add : (x w c d i : ℕ) → wrap (c + d) ≡ wrap (wrap (x + w) + i) → wrap (c + d) ≡ wrap (x + (w + i))
wrap-add x w c d i e = omega arith

wrap-sub : (x w c d i y : ℕ) → y ≡ wrap (x + (4294967296 - wrap w)) → wrap (c + d) ≡ wrap (y + i) → wrap (c + (w + d)) ≡ wrap (x + i)
wrap-sub x w c d i y q e =
    let l : c + (w + d) ≡ c + d + w = omega arith in
    let r : y + i + w ≡ y + w + i = omega arith in
    ap wrap l ∙ wrap-more (c + d) (y + i) w e ∙ ap wrap r ∙ wrap-more (y + w) x i (rw q (wrap-back x w))

-- The carried stamp counts inserts up and deletes down.
Carried : ℕ → List Change → Type 0
Carried x cs = (carry x cs < 4294967296) × (wrap (carry x cs + sum_of weight (deletes cs)) ≡ wrap (x + sum_of weight (inserts cs)))

carried : (x : ℕ) (cs : List Change) → x < 4294967296 → Carried x cs
unfolding Carried
carried x [] h = (h, refl)
carried x (c ∷ cs) h =
    elim (tell true c.insert) [
      | inl t ↦ let k = carried (wrap (x + weight c.move)) cs (wrap-small _) in
          rw t (k.0, wrap-add x (weight c.move) _ _ (sum_of weight (inserts cs)) k.1)
      | inr t ↦ let k = carried (wrap (x + (4294967296 - wrap (weight c.move)))) cs (wrap-small _) in
          rw t (k.0, wrap-sub x (weight c.move) _ _ (sum_of weight (inserts cs)) _ refl k.1)
    ]

-- Lists of moves.
none_below : (z : Sizes) (n p : ℕ) (l : List ℕ) → moves_ok z n l ≡ true → p < n → elem p l ≡ false
none_below z n p [] h k = refl
none_below z n p (q ∷ l) h k =
    let f = simp and_is at h in
    let g = (leb-is n q).0 f.0.0 in
    let d : p ≢ q = omega arith in
    (or_no _ _).1 ((eqb_no p q).1 d, none_below z (suc q) p l f.1 (omega arith))

lower : (z : Sizes) (n k : ℕ) (l : List ℕ) → n ≤ k → moves_ok z k l ≡ true → moves_ok z n l ≡ true
lower z n k [] h o = refl
lower z n k (p ∷ l) h o =
    let f = simp and_is at o in
    let g = (leb-is k p).0 f.0.0 in
    let q : n ≤ p = omega arith in
    simp and_is (((leb-is _ _).1 q, f.0.1), f.1)

-- Removing.
remove-ok : (z : Sizes) (n p : ℕ) (l : List ℕ) → moves_ok z n l ≡ true → moves_ok z n (remove p l) ≡ true
remove-ok z n p [] h = refl
remove-ok z n p (q ∷ l) h =
    let f = simp and_is at h in
    let g = (leb-is n q).0 f.0.0 in
    let ih = remove-ok z (suc q) p l f.1 in
    elim (tell true (eqb p q)) [
      | inl t ↦ rw t (lower z n (suc q) (remove p l) (omega arith) ih)
      | inr t ↦ rw t (simp and_is ((f.0.0, f.0.1), ih))
    ]

remove-same : (p : ℕ) (l : List ℕ) → elem p l ≡ false → remove p l ≡ l
remove-same p [] h = refl
remove-same p (q ∷ l) h =
    let k = (or_no (eqb p q) (elem p l)).0 h in rw k.0 (ap (λ (t : List ℕ). q ∷ t) (remove-same p l k.1))

remove-elem : (x p : ℕ) (l : List ℕ) → elem x (remove p l) ≡ (elem x l && not (eqb x p))
remove-elem x p [] = refl
remove-elem x p (q ∷ l) =
    let ih = remove-elem x p l in
    elim (tell true (eqb p q)) [
      | inl t ↦ rw (t, ih) (there (eqb x q) (elem x l) (eqb x p) (λ e. (eqb_is x p).1 ((eqb_is x q).0 e ∙ sym ((eqb_is p q).0 t))))
      | inr t ↦ rw (t, ih) (apart (eqb x q) (elem x l) (eqb x p) (λ e. (eqb_no x p).1 (λ y. (eqb_no p q).0 t (sym y ∙ (eqb_is x q).0 e))))
    ]
  where
    there : (a b c : Bool) → (a ≡ true → c ≡ true) → (b && not c) ≡ ((a || b) && not c)
    there true true c f = refl
    there true false c f = ap not (sym (f refl))
    there false b c f = refl

    apart : (a b c : Bool) → (a ≡ true → c ≡ false) → (a || (b && not c)) ≡ ((a || b) && not c)
    apart true b c f = ap not (sym (f refl))
    apart false b c f = refl

remove-sum : (f : ℕ → ℕ) (z : Sizes) (n p : ℕ) (l : List ℕ) → moves_ok z n l ≡ true → elem p l ≡ true → sum_of f (remove p l) + f p ≡ sum_of f l
remove-sum f z n p [] h e = absurd (false≢true e)
remove-sum f z n p (q ∷ l) h e =
    let g = simp and_is at h in
    elim (tell true (eqb p q)) [
      | inl t ↦
          let c = (eqb_is p q).0 t in
          let a = none_below z (suc q) p l g.1 (omega arith) in
          rw (t, remove-same p l a, c) (omega arith)
      | inr t ↦ let ih = remove-sum f z (suc q) p l g.1 (or-other (eqb p q) (elem p l) e t) in rw t (omega arith)
    ]

-- Inserting.
insert-ok : (z : Sizes) (n p : ℕ) (l : List ℕ) → n ≤ p → move_ok z (source p) (action p) (target p) ≡ true → elem p l ≡ false → moves_ok z n l ≡ true → moves_ok z n (insert p l) ≡ true
insert-ok z n p [] k o e h = simp and_is (((leb-is _ _).1 k, o), refl)
insert-ok z n p (q ∷ l) k o e h =
    let f = simp and_is at h in
    let d = (or_no (eqb p q) (elem p l)).0 e in
    let ne = (eqb_no p q).0 d.0 in
    elim (tell true (ltb p q)) [
      | inl t ↦ let y = (ltb-is p q).0 t in rw t (simp and_is (((leb-is _ _).1 k, o), (((leb-is (suc p) q).1 y, f.0.1), f.1)))
      | inr t ↦
          let y = (ltb_no p q).0 t in
          rw t (simp and_is ((f.0.0, f.0.1), insert-ok z (suc q) p l (omega arith) o d.1 f.1))
    ]

insert-elem : (x p : ℕ) (l : List ℕ) → elem x (insert p l) ≡ (eqb x p || elem x l)
insert-elem x p [] = refl
insert-elem x p (q ∷ l) =
    let ih = insert-elem x p l in
    elim (tell true (ltb p q)) [
      | inl t ↦ rw t refl
      | inr t ↦ rw (t, ih) (swap (eqb x q) (eqb x p) (elem x l))
    ]
  where
    swap : (a b c : Bool) → (a || (b || c)) ≡ (b || (a || c))
    swap true true c = refl
    swap true false c = refl
    swap false b c = refl

insert-sum : (f : ℕ → ℕ) (p : ℕ) (l : List ℕ) → sum_of f (insert p l) ≡ f p + sum_of f l
insert-sum f p [] = refl
insert-sum f p (q ∷ l) =
    let ih = insert-sum f p l in
    elim (tell true (ltb p q)) [
      | inl t ↦ rw t refl
      | inr t ↦ rw t (omega arith)
    ]

-- Several at once.
abbrev pub AllAre : Bool → List ℕ → List ℕ → Type 0
AllAre b [] l = Unit {0}
AllAre b (p ∷ ps) l = (elem p l ≡ b) × AllAre b ps l

abbrev pub Distinct : List ℕ → Type 0
Distinct [] = Unit {0}
Distinct (p ∷ ps) = (elem p ps ≡ false) × Distinct ps

abbrev pub AllOk : Sizes → List ℕ → Type 0
AllOk z [] = Unit {0}
AllOk z (p ∷ ps) = (move_ok z (source p) (action p) (target p) ≡ true) × AllOk z ps

pub remove_all-ok : (z : Sizes) (ps l : List ℕ) → moves_ok z 0 l ≡ true → moves_ok z 0 (remove_all ps l) ≡ true
remove_all-ok z [] l h = h
remove_all-ok z (p ∷ ps) l h = remove-ok z 0 p (remove_all ps l) (remove_all-ok z ps l h)

pub remove_all-elem : (x : ℕ) (ps l : List ℕ) → elem x (remove_all ps l) ≡ (elem x l && not (elem x ps))
remove_all-elem x [] l = go (elem x l)
  where
    go : (a : Bool) → a ≡ (a && true)
    go true = refl
    go false = refl
remove_all-elem x (p ∷ ps) l = remove-elem x p (remove_all ps l) ∙ rw (remove_all-elem x ps l) (go (elem x l) (elem x ps) (eqb x p))
  where
    go : (a b c : Bool) → (a && not b && not c) ≡ (a && not (c || b))
    go true true true = refl
    go true true false = refl
    go true false true = refl
    go true false false = refl
    go false b c = refl

remove_all-sum : (f : ℕ → ℕ) (z : Sizes) (ps l : List ℕ) → moves_ok z 0 l ≡ true → Distinct ps → AllAre true ps l → sum_of f (remove_all ps l) + sum_of f ps ≡ sum_of f l
remove_all-sum f z [] l h d a = omega arith
remove_all-sum f z (p ∷ ps) l h d a =
    let e : elem p (remove_all ps l) ≡ true = remove_all-elem p ps l ∙ rw (a.0, d.0) refl in
    let s = remove-sum f z 0 p (remove_all ps l) (remove_all-ok z ps l h) e in
    let ih = remove_all-sum f z ps l h d.1 a.1 in omega arith

pub insert_all-elem : (x : ℕ) (ps l : List ℕ) → elem x (insert_all ps l) ≡ (elem x ps || elem x l)
insert_all-elem x [] l = refl
insert_all-elem x (p ∷ ps) l = insert-elem x p (insert_all ps l) ∙ rw (insert_all-elem x ps l) (go (eqb x p))
  where
    go : (a : Bool) → (a || (elem x ps || elem x l)) ≡ (a || elem x ps || elem x l)
    go true = refl
    go false = refl

insert_all-sum : (f : ℕ → ℕ) (ps l : List ℕ) → sum_of f (insert_all ps l) ≡ sum_of f ps + sum_of f l
insert_all-sum f [] l = omega arith
insert_all-sum f (p ∷ ps) l = let s = insert-sum f p (insert_all ps l) in let ih = insert_all-sum f ps l in omega arith

insert_all-ok : (z : Sizes) (ps l : List ℕ) → AllOk z ps → Distinct ps → AllAre false ps l → moves_ok z 0 l ≡ true → moves_ok z 0 (insert_all ps l) ≡ true
insert_all-ok z [] l o d a h = h
insert_all-ok z (p ∷ ps) l o d a h =
    insert-ok z 0 p (insert_all ps l) (omega arith) o.0 (insert_all-elem p ps l ∙ rw (d.0, a.0) refl) (insert_all-ok z ps l o.1 d.1 a.1 h)

-- What the judgement says.
abbrev pub Judged : List ℕ → List Change → Type 0
Judged ms cs = Distinct (inserts cs) × Distinct (deletes cs) × AllAre false (inserts cs) ms × AllAre true (deletes cs) ms

passed : (x : Bool) (r : ℕ × ℕ) (o : Option (ℕ × ℕ)) → cond x (some r) o ≡ none → (x ≡ false) × (o ≡ none)
passed true r o e = let z : ◌≡◌ {A = ℕ} 0 1 = cc in absurd (omega arith)
passed false r o e = (refl, e)

pub wrong-in : (ms : List ℕ) (at : ℕ) (cs : List Change) → misplaced ms at cs ≡ none → AllAre false (inserts cs) ms × AllAre true (deletes cs) ms
wrong-in ms at [] e = (tt, tt)
wrong-in ms at (c ∷ cs) e =
    let u = passed (is c.insert (elem c.move ms)) _ (misplaced ms (at + 6) cs) e in
    let ih = wrong-in ms (at + 6) cs u.1 in
    elim (tell true c.insert) [
      | inl t ↦ rw t ((rw t at u.0, ih.0), ih.1)
      | inr t ↦ rw t (ih.0, (there (elem c.move ms) (rw t at u.0), ih.1))
    ]
  where
    there : (x : Bool) → not x ≡ false → x ≡ true
    there true e = refl
    there false e = absurd (true≢false e)

pub repeated-in : (seen : List ℕ) (at : ℕ) (cs : List Change) → repeated seen at cs ≡ none
    → Distinct (inserts cs) × Distinct (deletes cs) × ((p : ℕ) → elem p seen ≡ true → (elem p (inserts cs) ≡ false) × (elem p (deletes cs) ≡ false))
repeated-in seen at [] e = (tt, tt, λ p h. (refl, refl))
repeated-in seen at (c ∷ cs) e =
    let u = passed (elem c.move seen) (9, at) (repeated (c.move ∷ seen) (at + 6) cs) e in
    let ih = repeated-in (c.move ∷ seen) (at + 6) cs u.1 in
    let here = ih.2 c.move (or-in _ _ (λ e. absurd ((eqb_no c.move c.move).0 e refl))) in
    let off : (p : ℕ) → elem p seen ≡ true → eqb p c.move ≡ false =
    λ p h. (eqb_no p c.move).1 (λ q. true≢false (sym h ∙ ap (λ (x : ℕ). elem x seen) q ∙ u.0)) in
    let old : (p : ℕ) → elem p seen ≡ true → (elem p (inserts cs) ≡ false) × (elem p (deletes cs) ≡ false) =
    λ p h. ih.2 p (or-in (eqb p c.move) (elem p seen) (λ e. h)) in
    elim (tell true c.insert) [
      | inl t ↦ rw t ((here.0, ih.0), ih.1, λ p h. ((or_no _ _).1 (off p h, (old p h).0), (old p h).1))
      | inr t ↦ rw t (ih.0, (here.1, ih.1), λ p h. ((old p h).0, (or_no _ _).1 (off p h, (old p h).1)))
    ]

AllNone : List (Option (ℕ × ℕ)) → Type 0
AllNone [] = Unit {0}
AllNone (o ∷ l) = (o ≡ none) × AllNone l

all_none : {B : Type 0} (l : List (Option (ℕ × ℕ))) (b x : B) → first_of l b ≡ accepted x → AllNone l × (x ≡ b)
unfolding AllNone
all_none [] b x e = (tt, cc)
all_none (none ∷ l) b x e = let h = all_none l b x e in ((refl, h.0), h.1)
all_none (some r ∷ l) b x e = let z : ◌≡◌ {A = ℕ} 0 1 = cc in absurd (omega arith)

at_out : (n : ℕ) (x : Bool) → unless n x ≡ none → x ≡ true
at_out n true e = refl
at_out n false e = let z : ◌≡◌ {A = ℕ} 0 1 = cc in absurd (omega arith)

-- A batch that is judged good is the batch, and nothing is wrong with it.
pub judge-out : (s : Session) (room : ℕ) (ms : List ℕ) (b b' : Batch) → judge s room ms b ≡ accepted b'
    → (b.stamp ≡ stamp_of ms) × Judged ms b.changes × (length (edited b.changes ms) ≤ min most_moves room) × (b' ≡ b)
    × (live_ok s.live s.sizes.states (edited b.changes ms) ≡ true)
unfolding judge AllNone
judge-out s room ms b b' e =
    let a = all_none (judgements s room ms b) b b' e in
    let r = repeated-in [] 5 b.changes a.0.1.0 in
    let w = wrong-in ms 5 b.changes a.0.1.1.0 in
    let n = at_out 10 (leb (length (edited b.changes ms)) (min most_moves room)) a.0.1.1.1.0 in
    let v = at_out 16 (live_ok s.live s.sizes.states (edited b.changes ms)) a.0.1.1.1.1.0 in
    ((eqb_is _ _).0 (at_out 11 (eqb b.stamp (stamp_of ms)) a.0.0), (r.0, r.1, w.0, w.1), (leb-is _ _).0 n, a.1, v)

-- Moves become old less deletes plus inserts, still ascending and in range, with the stamp so carried.
pub edited-ok : (z : Sizes) (ms : List ℕ) (cs : List Change) → Judged ms cs → AllOk z (inserts cs) → moves_ok z 0 ms ≡ true → moves_ok z 0 (edited cs ms) ≡ true
unfolding edited
edited-ok z ms cs j o h =
    insert_all-ok z (inserts cs) (remove_all (deletes cs) ms) o j.0 (outside (inserts cs) j.2) (remove_all-ok z (deletes cs) ms h)
  where
    outside : (ps : List ℕ) → AllAre false ps ms → AllAre false ps (remove_all (deletes cs) ms)
    outside [] a = tt
    outside (p ∷ ps) a = (remove_all-elem p (deletes cs) ms ∙ rw a.0 refl, outside ps a.1)

pub edited-members : (x : ℕ) (ms : List ℕ) (cs : List Change) → elem x (edited cs ms) ≡ (elem x (inserts cs) || (elem x ms && not (elem x (deletes cs))))
unfolding edited
edited-members x ms cs = insert_all-elem x (inserts cs) (remove_all (deletes cs) ms) ∙ rw (remove_all-elem x (deletes cs) ms) refl

pub edited-sum : (f : ℕ → ℕ) (z : Sizes) (ms : List ℕ) (cs : List Change) → Judged ms cs → moves_ok z 0 ms ≡ true
    → sum_of f (edited cs ms) + sum_of f (deletes cs) ≡ sum_of f ms + sum_of f (inserts cs)
unfolding edited
edited-sum f z ms cs j h =
    let i = insert_all-sum f (inserts cs) (remove_all (deletes cs) ms) in
    let r = remove_all-sum f z (deletes cs) ms h j.1 j.3 in omega arith

pub edited-stamp : (z : Sizes) (ms : List ℕ) (cs : List Change) → Judged ms cs → moves_ok z 0 ms ≡ true → carry (stamp_of ms) cs ≡ stamp_of (edited cs ms)
unfolding stamp_of Carried
edited-stamp z ms cs j h =
    let c = carried (wrap (sum_of weight ms)) cs (wrap-small _) in
    let s = edited-sum weight z ms cs j h in
    wrap-cancel _ (sum_of weight (deletes cs)) _ c.0 (c.1 ∙ wrap-once (sum_of weight ms) (sum_of weight (inserts cs)) ∙ ap wrap (sym s))

pub edited-well_formed : (m : Model) (cs : List Change) → WellFormed m → Judged m.moves cs → AllOk m.sizes (inserts cs) → length (edited cs m.moves) ≤ most_moves
    → live_ok m.live m.sizes.states (edited cs m.moves) ≡ true → WellFormed (changed cs m)
unfolding well_formed
edited-well_formed m cs h j o n v =
    let k = simp and_is at h in
    simp and_is (((((k.0.0.0.0.0, k.0.0.0.0.1), k.0.0.0.1), k.0.0.1), edited-ok m.sizes m.moves cs j o k.0.1), ((leb-is _ _).1 n, (k.1.1.0, v)))

-- Inserts of changes in range are in range.
pub all-ok : (z : Sizes) (cs : List Change) → changes_ok z cs ≡ true → AllOk z (inserts cs)
all-ok z [] h = tt
all-ok z (c ∷ cs) h =
    let k = simp and_is at h in
    elim (tell true c.insert) [
      | inl t ↦ rw t (k.0, all-ok z cs k.1)
      | inr t ↦ rw t (all-ok z cs k.1)
    ]

-- The judgement passes exactly where the stamp is the table's, no move is named twice, inserts are absent, deletes are
-- present, the room suffices, and no state of a live model is left without a move.
right-in : (ms : List ℕ) (at : ℕ) (cs : List Change) → AllAre false (inserts cs) ms → AllAre true (deletes cs) ms → misplaced ms at cs ≡ none
right-in ms at [] a d = refl
right-in ms at (c ∷ cs) a d =
    elim (tell true c.insert) [
      | inl t ↦ let a' = rw t at a in let d' = rw t at d in rw (t, a'.0) (right-in ms (at + 6) cs a'.1 d')
      | inr t ↦ let a' = rw t at a in let d' = rw t at d in rw (t, d'.0) (right-in ms (at + 6) cs a' d'.1)
    ]

apart : (b : Bool) (p : ℕ) (ps ms : List ℕ) → AllAre b ps ms → elem p ms ≡ not b → elem p ps ≡ false
apart b p [] ms a e = refl
apart b p (q ∷ ps) ms a e =
    (or_no (eqb p q) (elem p ps)).1 ((eqb_no p q).1 (λ k. clash b (sym a.0 ∙ ap (λ (x : ℕ). elem x ms) (sym k) ∙ e)), apart b p ps ms a.1 e)
  where
    clash : (b : Bool) → b ≡ not b → ⊥
    clash true e = true≢false e
    clash false e = false≢true e

once-in : (ms seen : List ℕ) (at : ℕ) (cs : List Change) → Judged ms cs
    → ((p : ℕ) → elem p seen ≡ true → (elem p (inserts cs) ≡ false) × (elem p (deletes cs) ≡ false)) → repeated seen at cs ≡ none
once-in ms seen at [] j f = refl
once-in ms seen at (c ∷ cs) j f =
    let p = c.move in
    elim (tell true c.insert) [
      | inl t ↦
          let i = rw t at j in
          let g : (q : ℕ) → elem q seen ≡ true → (elem q (p ∷ inserts cs) ≡ false) × (elem q (deletes cs) ≡ false) = rw t at f in
          let fresh : elem p seen ≡ false = unseen p seen (λ h. ((or_no (eqb p p) (elem p (inserts cs))).0 (g p h).0).0) in
          rw fresh (once-in ms (p ∷ seen) (at + 6) cs (i.0.1, i.1, i.2.1, i.3) (λ q h. both_ways p q seen (inserts cs) (deletes cs) h
          (i.0.0, apart true p (deletes cs) ms i.3 i.2.0) (λ k. (((or_no (eqb q p) (elem q (inserts cs))).0 (g q k).0).1, (g q k).1))))
      | inr t ↦
          let i = rw t at j in
          let g : (q : ℕ) → elem q seen ≡ true → (elem q (inserts cs) ≡ false) × (elem q (p ∷ deletes cs) ≡ false) = rw t at f in
          let fresh : elem p seen ≡ false = unseen p seen (λ h. ((or_no (eqb p p) (elem p (deletes cs))).0 (g p h).1).0) in
          rw fresh (once-in ms (p ∷ seen) (at + 6) cs (i.0, i.1.1, i.2, i.3.1) (λ q h. both_ways p q seen (inserts cs) (deletes cs) h
          (apart false p (inserts cs) ms i.2 i.3.0, i.1.0) (λ k. ((g q k).0, ((or_no (eqb q p) (elem q (deletes cs))).0 (g q k).1).1))))
    ]
  where
    unseen : (p : ℕ) (seen : List ℕ) → (elem p seen ≡ true → eqb p p ≡ false) → elem p seen ≡ false
    unseen p seen h = elim (tell true (elem p seen)) [ inl t ↦ absurd ((eqb_no p p).0 (h t) refl) | inr t ↦ t ]

    both_ways : (p q : ℕ) (seen is ds : List ℕ) → (eqb q p || elem q seen) ≡ true → (elem p is ≡ false) × (elem p ds ≡ false)
        → (elem q seen ≡ true → (elem q is ≡ false) × (elem q ds ≡ false)) → (elem q is ≡ false) × (elem q ds ≡ false)
    both_ways p q seen is ds h a f =
        elim (tell true (eqb q p)) [
          | inl t ↦ rw ((eqb_is q p).0 t) a
          | inr t ↦ f (or-other (eqb q p) (elem q seen) h t)
        ]

pub judge-in : (s : Session) (room : ℕ) (ms : List ℕ) (b : Batch) → b.stamp ≡ stamp_of ms → Judged ms b.changes
    → length (edited b.changes ms) ≤ min most_moves room → live_ok s.live s.sizes.states (edited b.changes ms) ≡ true → judge s room ms b ≡ accepted b
unfolding judge
judge-in s room ms b e j n v =
    rw ((eqb_is _ _).1 e, once-in ms [] 5 b.changes j (λ p h. absurd (false≢true h)), right-in ms 5 b.changes j.2 j.3, (leb-is _ _).1 n, v) refl

-- A batch that is read and judged leaves a model inside the limits, whose stamp is the one carried.
pub batch-keeps : (held : Session) (m : Model) → held.sizes ≡ m.sizes → held.live ≡ m.live → (room : ℕ) (s : List ℕ) (b b' : Batch) → WellFormed m → AreBytes s
    → read_batch m.sizes s ≡ accepted b → judge held room m.moves b ≡ accepted b'
    → WellFormed (changed b.changes m) × (length (edited b.changes m.moves) ≤ room) × (stamp_of (edited b.changes m.moves) ≡ carry b.stamp b.changes)
unfolding well_formed
batch-keeps held m z i room s b b' w y e f =
    let k = simp and_is at w in
    let g = read-batch-spelling m.sizes k.0.0.0.0.0 s b y e in
    let c = simp and_is at g.0 in
    let j = judge-out held room m.moves b b' f in
    let n = j.2 in
    let v = edited-well_formed m b.changes w j.1 (all-ok m.sizes b.changes c.1) (omega arith) (rw (z, i) at j.4) in
    let t = edited-stamp m.sizes m.moves b.changes j.1 k.0.1 in
    (v, omega arith, rw j.0 (sym t))
