-- Bytes and records: what is written is accepted back, and what is accepted, written again, is what was there. Assumes nothing.
use Rattle.std.specs.Prelude.{◌≡◌, ◌⊎◌, Bool, not, cond, ◌&&◌, length, get_or, drop, eqb}
use Rattle.std.proofs.Math.Path.{refl, subst}
use Rattle.std.proofs.Common.{sym, ap, ap₂, ◌∙◌, add-zero, not-suc-le-zero, le_of_suc-le-suc, suc-add, add-suc, arith, length-append, length-drop, drop_at, drop-drop}
use Rattle.std.proofs.Math.Logic.{inl, inr}
use Rattle.std.proofs.Math.Bool.{true, false}
use mathlib.Core.List.{List, [], ◌∷◌, ◌++◌, append_assoc}
use Prim.Native.Nat.{ℕ, zero, suc, ◌+◌, ◌*◌, ◌/◌, ◌%◌, ◌^◌, ◌≤◌, ◌<◌}
use Rattle.std.proofs.Math.Nat.{pow-succ', pow-zero}
use Rattle.std.proofs.Math.Dec.{leb}
use Rattle.lists.specs.Tests.{tell, not-out, and_in, leb-is, and_is, eqb_no}
use Rattle.rules.specs.Records.{widths, known, body_of, digits, number, writes, reads, Rec, bytes, bytes_of, Parts, ends, broken, part, parts_from, Turn, no, back, next, demand, Outcome, refused, accepted, onto, at_end, on_turn, run, over}

-- A body's numbers fit their widths; and bytes are below 256.
abbrev pub Fits : List ℕ → List ℕ → Type 0
Fits [] [] = Unit {0}
Fits [] (f ∷ fs) = ⊥
Fits (w ∷ ws) [] = ⊥
Fits (w ∷ ws) (f ∷ fs) = (f < 256 ^ w) × Fits ws fs

abbrev pub AreBytes : List ℕ → Type 0
AreBytes [] = Unit {0}
AreBytes (b ∷ s) = (b < 256) × AreBytes s

-- Bytes, one by one.
pub are-bytes : (s : List ℕ) → ((i : ℕ) → get_or s i 0 < 256) → AreBytes s
are-bytes [] h = tt
are-bytes (b ∷ s) h = (h 0, are-bytes s (λ i. h (suc i)))

abbrev pub Writable : Rec → Type 0
Writable r = (known r.kind ≡ true) × Fits (widths r.kind) r.body

abbrev pub AllWritable : List Rec → Type 0
AllWritable [] = Unit {0}
AllWritable (r ∷ rs) = Writable r × AllWritable rs

-- One number.
len-digits : (w n : ℕ) → length (digits w n) ≡ w
len-digits zero n = refl
len-digits (suc w) n = ap suc (len-digits w (n / 256))

number_digits : (w n : ℕ) (s : List ℕ) → n < 256 ^ w → number w (digits w n ++ s) ≡ n
number_digits zero n s h = let k = rw pow-zero at h in omega arith
number_digits (suc w) n s h =
    let k : n < 256 * 256 ^ w = rw pow-succ' at h in
    let e = number_digits w (n / 256) s (omega arith) in omega arith

number_small : (w : ℕ) (s : List ℕ) → AreBytes s → number w s < 256 ^ w
number_small zero s h = rw pow-zero (omega arith)
number_small (suc w) [] h = rw pow-succ' (let k = number_small w [] tt in omega arith)
number_small (suc w) (b ∷ s) h = rw pow-succ' (let k = number_small w s h.1 in omega arith)

digits_number : (w : ℕ) (s : List ℕ) → AreBytes s → w ≤ length s → digits w (number w s) ++ drop w s ≡ s
digits_number zero s h l = refl
digits_number (suc w) [] h l = absurd (not-suc-le-zero l)
digits_number (suc w) (b ∷ s) h l =
    let q : (b + 256 * number w s) / 256 ≡ number w s = omega arith in
    let r : (b + 256 * number w s) % 256 ≡ b = omega arith in
    ap₂ (λ (x : ℕ) (t : List ℕ). x ∷ t) r (rw q (digits_number w s h.1 (le_of_suc-le-suc l)))

pub bytes_drop : (n : ℕ) (s : List ℕ) → AreBytes s → AreBytes (drop n s)
bytes_drop zero s h = h
bytes_drop (suc n) [] h = tt
bytes_drop (suc n) (b ∷ s) h = bytes_drop n s h.1

-- One body.
pub len-writes : (ws fs : List ℕ) → Fits ws fs → length (writes ws fs) ≡ body_of ws
len-writes [] fs h = refl
len-writes (w ∷ ws) [] h = absurd h
len-writes (w ∷ ws) (f ∷ fs) h = length-append (digits w f) (writes ws fs) ∙ ap₂ ◌+◌ (len-digits w f) (len-writes ws fs h.1)

reads-writes : (ws fs s : List ℕ) → Fits ws fs → reads ws (writes ws fs ++ s) ≡ fs
reads-writes [] [] s h = refl
reads-writes [] (f ∷ fs) s h = absurd h
reads-writes (w ∷ ws) [] s h = absurd h
reads-writes (w ∷ ws) (f ∷ fs) s h =
    rw append_assoc (ap₂ (λ (x : ℕ) (t : List ℕ). x ∷ t) (number_digits w f (writes ws fs ++ s) h.0)
    (rw (drop_at (digits w f) (writes ws fs ++ s) w (len-digits w f)) (reads-writes ws fs s h.1)))

pub fits-reads : (ws s : List ℕ) → AreBytes s → Fits ws (reads ws s)
fits-reads [] s h = tt
fits-reads (w ∷ ws) s h = (number_small w s h, fits-reads ws (drop w s) (bytes_drop w s h))

pub writes_reads : (ws s : List ℕ) → AreBytes s → body_of ws ≤ length s → writes ws (reads ws s) ++ drop (body_of ws) s ≡ s
writes_reads [] s h l = refl
writes_reads (w ∷ ws) s h l =
    rw (append_assoc, ← drop-drop) (rw (writes_reads ws (drop w s) (bytes_drop w s h) (rw length-drop (omega arith))) (digits_number w s h (omega arith)))

-- One record.
pub skipped : (n p : ℕ) (s : List ℕ) → n ≤ length s → parts_from n p s ≡ parts_from 0 (p + n) (drop n s)
unfolding parts_from
skipped zero p s h = rw add-zero refl
skipped (suc n) p [] h = absurd (not-suc-le-zero h)
skipped (suc n) p (b ∷ s) h = skipped n (suc p) s (le_of_suc-le-suc h) ∙ rw (suc-add p n, add-suc p n) refl

unfoldable pub size : Rec → ℕ
size r = suc (body_of (widths r.kind))

pub part-written : (r : Rec) (p : ℕ) (s : List ℕ) → Writable r → parts_from 0 p (bytes r ++ s) ≡ part p r (parts_from 0 (p + size r) s)
unfolding parts_from size
part-written r p s h =
    let l = len-writes (widths r.kind) r.body h.1 in
    let n : body_of (widths r.kind) ≤ length (writes (widths r.kind) r.body ++ s) = rw length-append (omega arith) in
    let t : (known r.kind && leb (body_of (widths r.kind)) (length (writes (widths r.kind) r.body ++ s))) ≡ true = and_in h.0 ((leb-is _ _).1 n) in
    let e : suc p + body_of (widths r.kind) ≡ p + suc (body_of (widths r.kind)) = omega arith in
    rw (
      t,
      reads-writes (widths r.kind) r.body s h.1,
      skipped (body_of (widths r.kind)) (suc p) (writes (widths r.kind) r.body ++ s) n,
      drop_at (writes (widths r.kind) r.body) s (body_of (widths r.kind)) l,
      e,
    ) refl

-- A refusal accepts nothing.
pub never : {B : Type 0} {n p : ℕ} {b : B} → refused n p ≡ accepted b → ⊥
never e = let z : ◌≡◌ {A = ℕ} 0 1 = cc in omega arith

-- A run of records.
module _ {S B : Type 0} (step : S → Rec → Turn S) (put : S → Rec → B → B) (last : S → B) where
  pub data Walks : S → List Rec → B → Type 0 where
    done : {st : S} {r : Rec} {b : B} → step st r ≡ over → b ≡ last st → Walks st (r ∷ []) b
    more : {st st' : S} (r : Rec) {rs : List Rec} {b b' : B} → step st r ≡ next st' → Walks st' rs b' → b ≡ put st r b' → Walks st (r ∷ rs) b

  -- what was written is accepted
  pub run-written : {st : S} {rs : List Rec} {b : B} (p : ℕ) → Walks st rs b → AllWritable rs → run step put last st (parts_from 0 p (bytes_of rs)) ≡ accepted b
  unfolding run parts_from
  run-written p (done {r = r} e q) w = rw (part-written r p [] w.0) (rw (e, q) refl)
  run-written p (more r {rs = rs} e t q) w =
      rw (part-written r p (bytes_of rs) w.0) (rw (e, run-written (p + size r) t w.1, q) refl)

  -- what was accepted is what was written
  abbrev pub Spelled : S → List ℕ → B → Type 0
  Spelled st s b = (rs : List Rec) × (bytes_of rs ≡ s) × AllWritable rs × Walks st rs b

  pub un-onto : (f : B → B) (o : Outcome B) (b : B) → onto f o ≡ accepted b → (b' : B) × (o ≡ accepted b') × (b ≡ f b')
  un-onto f (refused n p) b e = absurd (never e)
  un-onto f (accepted b') b e = (b', refl, cc)

  un-end : (st : S) (p : ℕ) (s : List ℕ) (b : B) → at_end step put last st (parts_from 0 p s) ≡ accepted b → (s ≡ []) × (b ≡ last st)
  unfolding parts_from
  un-end st p [] b e = (refl, cc)
  un-end st p (k ∷ s) b e = absurd (go (known k && leb (body_of (widths k)) (length s)) e)
    where
      go : (x : Bool) → at_end step put last st (cond x (part p (record { kind = k; body = reads (widths k) s }) (parts_from (body_of (widths k)) (suc p) s)) (broken p)) ≡ accepted b → ⊥
      go true e = never e
      go false e = never e

  abbrev pub Reads : ℕ → Type 0
  Reads f = (p : ℕ) (s : List ℕ) (st : S) (b : B) → length s ≤ f → AreBytes s → run step put last st (parts_from 0 p s) ≡ accepted b → Spelled st s b

  run-turn : (f p k : ℕ) (s : List ℕ) (st : S) (b : B) → Reads f → length s ≤ f → AreBytes s → (known k ≡ true) × (body_of (widths k) ≤ length s)
      → (t : Turn S) → step st (record { kind = k; body = reads (widths k) s }) ≡ t
      → on_turn step put last (λ st'. run step put last st' (parts_from 0 (suc p + body_of (widths k)) (drop (body_of (widths k)) s))) st p (record { kind = k; body = reads (widths k) s }) (parts_from 0 (suc p + body_of (widths k)) (drop (body_of (widths k)) s)) t ≡ accepted b
      → Spelled st (k ∷ s) b
  run-turn f p k s st b ih l h w (no n) q e = absurd (never e)
  run-turn f p k s st b ih l h w (back n d) q e = absurd (never e)
  run-turn f p k s st b ih l h w (next st') q e =
      let u = un-onto (put st (record { kind = k; body = reads (widths k) s })) _ b e in
      let v = ih _ (drop (body_of (widths k)) s) st' u.0 (rw length-drop (omega arith)) (bytes_drop (body_of (widths k)) s h) u.1 in (
        record { kind = k; body = reads (widths k) s } ∷ v.0,
        ap (λ (t : List ℕ). k ∷ t) (rw v.1 (writes_reads (widths k) s h w.1)),
        ((w.0, fits-reads (widths k) s h), v.2),
        more _ q v.3 u.2,
      )
  run-turn f p k s st b ih l h w over q e =
      let u = un-end st _ (drop (body_of (widths k)) s) b e in (
        record { kind = k; body = reads (widths k) s } ∷ [],
        ap (λ (t : List ℕ). k ∷ t) (rw (← u.0) (writes_reads (widths k) s h w.1)),
        ((w.0, fits-reads (widths k) s h), tt),
        done q u.1,
      )

  pub run-read : (f : ℕ) → Reads f
  unfolding run parts_from
  run-read zero p [] st b l h e = absurd (never e)
  run-read (suc f) p [] st b l h e = absurd (never e)
  run-read zero p (k ∷ s) st b l h e = absurd (not-suc-le-zero l)
  run-read (suc f) p (k ∷ s) st b l h e =
      elim (tell true (known k && leb (body_of (widths k)) (length s))) [
        | inr x ↦ absurd (never (rw x at e))
        | inl x ↦
            let w = (and_is (known k) (leb (body_of (widths k)) (length s))).0 x in
            let n = (leb-is (body_of (widths k)) (length s)).0 w.1 in
            run-turn f p k s st b (run-read f) (le_of_suc-le-suc l) h.1 (w.0, n) _ refl (rw (x, skipped (body_of (widths k)) (suc p) s n) at e)
      ]

-- Demands that are met.
abbrev pub Met : List (ℕ × Bool) → Type 0
Met [] = Unit {0}
Met (d ∷ ds) = (d.1 ≡ true) × Met ds

pub met : {S : Type 0} (ds : List (ℕ × Bool)) (t : Turn S) → Met ds → demand ds t ≡ t
met [] t m = refl
met (d ∷ ds) t m = rw m.0 (met ds t m.1)

pub judged : {S : Type 0} (ds : List (ℕ × Bool)) (t : Turn S) → (Met ds × (demand ds t ≡ t)) ⊎ ((n : ℕ) × (demand ds t ≡ no n))
judged [] t = inl (tt, refl)
judged (d ∷ ds) t =
    elim (tell true d.1) [
      | inr e ↦ inr (d.0, rw e refl)
      | inl e ↦ elim (judged ds t) [
        | inl m ↦ inl ((e, m.0), rw e m.1)
        | inr m ↦ inr (m.0, rw e m.1)
      ]
    ]

-- A body that fits is the list of its fields.
abbrev pub tab : List ℕ → (ℕ → ℕ) → List ℕ
tab [] g = []
tab (w ∷ ws) g = g 0 ∷ tab ws (λ i. g (suc i))

pub shape : (ws fs : List ℕ) (g : ℕ → ℕ) → Fits ws fs → ((i : ℕ) → get_or fs i 0 ≡ g i) → fs ≡ tab ws g
shape [] [] g h e = refl
shape [] (f ∷ fs) g h e = absurd h
shape (w ∷ ws) [] g h e = absurd h
shape (w ∷ ws) (f ∷ fs) g h e = ap₂ (λ (x : ℕ) (t : List ℕ). x ∷ t) (e 0) (shape ws fs (λ i. g (suc i)) h.1 (λ i. e (suc i)))

-- A whole record that stands at the head of bytes, and the bytes after it.
pub record Head (s : List ℕ) : Type 0 where
  pub rec : Rec
  pub after : List ℕ
  pub fits : Writable rec
  pub spelled : s ≡ bytes rec ++ after
  pub bytes_after : AreBytes after
  pub shorter : length after < length s

-- Bytes have such a head, or are at an end, or are broken.
pub headed : (p : ℕ) (s : List ℕ) → AreBytes s → Head s ⊎ ((parts_from 0 p s ≡ ends p) ⊎ (parts_from 0 p s ≡ broken p))
unfolding parts_from
headed p [] h = inr (inl refl)
headed p (k ∷ s) h =
    elim (tell true (known k && leb (body_of (widths k)) (length s))) [
      | inr x ↦ inr (inr (rw x refl))
      | inl x ↦
          let w = (and_is (known k) (leb (body_of (widths k)) (length s))).0 x in
          let n = (leb-is (body_of (widths k)) (length s)).0 w.1 in
          inl (record {
            rec = record { kind = k; body = reads (widths k) s };
            after = drop (body_of (widths k)) s;
            fits = (w.0, fits-reads (widths k) s h.1);
            spelled = ap (λ (t : List ℕ). k ∷ t) (sym (writes_reads (widths k) s h.1 n));
            bytes_after = bytes_drop (body_of (widths k)) s h.1;
            shorter = rw length-drop (omega arith);
          })
    ]

-- No demand of the list has the number k; and what comes of such a list.
abbrev pub others : ℕ → List (ℕ × Bool) → Bool
others k [] = true
others k (d ∷ ds) = not (eqb d.0 k) && others k ds

pub demanded : {S : Type 0} (k : ℕ) (ds : List (ℕ × Bool)) (t : Turn S) → others k ds ≡ true → (demand ds t ≡ t) ⊎ ((n : ℕ) × (n ≡ k → ⊥) × (demand ds t ≡ no n))
demanded k [] t h = inl refl
demanded k (d ∷ ds) t h =
    let f = (and_is (not (eqb d.0 k)) (others k ds)).0 h in
    elim (tell true d.1) [
      | inr e ↦ inr (d.0, (eqb_no d.0 k).0 (not-out _ f.0), rw e refl)
      | inl e ↦ rw e (demanded k ds t f.1)
    ]

-- The number and the place of a refusal.
pub told-number : {B : Type 0} (n p m q : ℕ) → ◌≡◌ {A = Outcome B} (refused n p) (refused m q) → (n ≡ m) × (p ≡ q)
told-number {B} n p m q e = (ap number e, ap at e)
  where
    number : Outcome B → ℕ
    number (refused n p) = n
    number (accepted b) = 0

    at : Outcome B → ℕ
    at (refused n p) = p
    at (accepted b) = 0

pub un-told : {B : Type 0} (f : B → B) (o : Outcome B) (n p : ℕ) → onto f o ≡ refused n p → o ≡ refused n p
un-told f (refused m q) n p e = e
un-told f (accepted b) n p e = absurd (never (sym e))

-- A refusal n at the place q, n other than 1, is told of bytes by their records: what holds of bytes with a record at their head,
-- where it holds of the bytes after it, holds of all bytes that are so refused.
module _ {S B : Type 0} (step : S → Rec → Turn S) (put : S → Rec → B → B) (last : S → B) (n q : ℕ) (other : n ≡ 1 → ⊥) (Q : S → ℕ → List ℕ → Type 0)
    (turn : (st : S) (p : ℕ) (r : Rec) (s : List ℕ) → Writable r → AreBytes s
    → ((st' : S) → run step put last st' (parts_from 0 (p + size r) s) ≡ refused n q → Q st' (p + size r) s)
    → on_turn step put last (λ st'. run step put last st' (parts_from 0 (p + size r) s)) st p r (parts_from 0 (p + size r) s) (step st r) ≡ refused n q
    → Q st p (bytes r ++ s)) where
  abbrev Told : List ℕ → Type 0
  Told s = (st : S) (p : ℕ) → run step put last st (parts_from 0 p s) ≡ refused n q → Q st p s

  by-head : (s : List ℕ) → AreBytes s → ((k : Head s) → Told k.after) → Told s
  unfolding run
  by-head s b ih st p e =
      elim (headed p s b) [
        | inl k ↦
            let r = k.rec in
            let u : run step put last st (part p r (parts_from 0 (p + size r) k.after)) ≡ refused n q =
            subst (λ (t : Parts). run step put last st t ≡ refused n q) (ap (parts_from 0 p) k.spelled ∙ part-written r p k.after k.fits) e in
            subst (Q st p) (sym k.spelled) (turn st p r k.after k.fits k.bytes_after (λ st' f. ih k st' (p + size r) f) u)
        | inr k ↦ elim k [
          | inl i ↦ absurd (other (sym (told-number 1 p n q (rw i at e)).0))
          | inr i ↦ absurd (other (sym (told-number 1 p n q (rw i at e)).0))
        ]
      ]

  by_length : (m : ℕ) (s : List ℕ) → length s ≤ m → AreBytes s → Told s
  by_length zero s h b = by-head s b (λ k. let c = k.shorter in absurd (omega arith))
  by_length (suc m) s h b = by-head s b (λ k. by_length m k.after (let c = k.shorter in omega arith) k.bytes_after)

  pub by-records : (s : List ℕ) → AreBytes s → Told s
  by-records s b = by_length (length s) s (omega arith) b
