-- Reading by places of the byte list is reading record by record. Assumes nothing.
use Rattle.std.specs.Prelude.{Some, None, ◌≡◌, refl, true, false, cond, List, [], ◌∷◌, ℕ, zero, suc, ◌+◌, ◌-◌, ◌*◌, ◌≤◌, ◌<◌, length, get_or, drop, ltb, leb}
use Rattle.std.proofs.Common.{sym, ap, ◌∙◌, inl, inr, add_assoc, arith, length-drop, drop_of_length-le, drop-cons, drop-drop}
use Rattle.std.proofs.lemmas.Option.{none-some, some_pair_parts}
use Rattle.lists.specs.Cases.{same_at}
use Rattle.lists.specs.Tests.{all-at, tell, leb-is, ltb-is, ltb_no}
use Rattle.rules.specs.Records.{kinds, widths, known, body_of, number, reads, Rec, Parts, ends, broken, part, parts_from, numbers_of}
use Rattle.rules.specs.declared.Record.{Record}
use Rattle.laws.specs.bytes.RecordLaws.{skipped}
use Rattle.bytes_read.specs.Places.{le16, le32, body_len, record_of, Read, record_at}

-- What stands from a place on.
abbrev pub parts_at : List ℕ → ℕ → Parts
parts_at s p = parts_from 0 p (drop p s)

number-nil : (w : ℕ) → number w [] ≡ 0
number-nil zero = refl
number-nil (suc w) = refl

-- A number at a place, byte by byte.
number_at : (w p : ℕ) (s : List ℕ) → number (suc w) (drop p s) ≡ get_or s p 0 + 256 * number w (drop (suc p) s)
number_at w zero [] = rw (number-nil w) refl
number_at w zero (b ∷ s) = refl
number_at w (suc p) [] = rw (number-nil w) refl
number_at w (suc p) (b ∷ s) = number_at w p s

number1 : (s : List ℕ) (p : ℕ) → number 1 (drop p s) ≡ get_or s p 0
number1 s p = number_at 0 p s ∙ omega arith

number2 : (s : List ℕ) (p : ℕ) → number 2 (drop p s) ≡ le16 s p
number2 s p = let e : suc p ≡ p + 1 = omega arith in number_at 1 p s ∙ rw (number1 s (suc p), e) refl

number4 : (s : List ℕ) (p : ℕ) → number 4 (drop p s) ≡ le32 s p
number4 s p =
    let e : suc p ≡ p + 1 = omega arith in
    let f : suc (suc p) ≡ p + 2 = omega arith in
    let a = number_at 3 p s in
    let b = number_at 2 (suc p) s in
    let c = number2 s (suc (suc p)) in
    a ∙ rw (b, c, f, e) (omega arith)

-- The enum's kind and numbers are those of the record's bytes.
enum-numbers : (k : ℕ) (s : List ℕ) (b : ℕ) → known k ≡ true → numbers_of (record_of k s b) ≡ record { kind = k; body = reads (widths k) (drop b s) }
unfolding record_of widths
enum-numbers k s b h = same_at (λ i. numbers_of (record_of i s b)) (λ i. record { kind = i; body = reads (widths i) (drop b s) }) kinds k (simp (drop-drop, number1, number2, number4, add_assoc)) h

-- The length of a known kind's body is the sum of its widths; an unknown kind's is 255.
body-known : (k : ℕ) → known k ≡ true → (body_len k ≡ body_of (widths k)) × (body_len k ≤ 254)
unfolding body_len widths
body-known k h = let b = (leb-is (body_of (widths k)) 254).0 (all-at (λ i. leb (body_of (widths i)) 254) kinds k refl h) in (rw h refl, rw h b)

body-unknown : (k : ℕ) → known k ≡ false → body_len k ≡ 255
unfolding body_len
body-unknown k h = rw h refl

-- What a read record, or the lack of one, says of the parts.
abbrev pub PartsBy : List ℕ → ℕ → Read → Type 0
PartsBy s p (Some (r, n)) = (p < n) × (n ≤ length s) × (parts_at s p ≡ part p (numbers_of r) (parts_at s n))
PartsBy s p None = parts_at s p ≡ cond (ltb p (length s)) (broken p) (ends p)

-- Past the end nothing is left.
parts-end : (s : List ℕ) (p : ℕ) → length s ≤ p → parts_at s p ≡ ends p
unfolding parts_from
parts-end s p h = rw (drop_of_length-le s {i = p} h) refl

-- One record of the run, in the code's words.
pub parts-at : (s : List ℕ) (p : ℕ) → PartsBy s p (record_at s p)
unfolding record_at parts_from
parts-at s p =
    elim (tell true (ltb p (length s))) [
      | inr t ↦ rw (t, t) (parts-end s p ((ltb_no p (length s)).0 t))
      | inl t ↦
          let h = (ltb-is p (length s)).0 t in
          let k = get_or s p 0 in
          let d : drop p s ≡ k ∷ drop (suc p) s = drop-cons s p 0 h in
          let n : length (drop (suc p) s) ≡ length s - (p + 1) = length-drop (suc p) s ∙ omega arith in
          elim (tell true (known k)) [
            | inr u ↦ rw (t, u) (rw (t, d, u) refl)
            | inl u ↦
                let b = body-known k u in
                elim (tell true (leb (body_len k) (length s - (p + 1)))) [
                  | inr v ↦ rw (t, u, v) (rw (t, d, n, u, ← b.0, v) refl)
                  | inl v ↦
                      let w = (leb-is (body_len k) (length s - (p + 1))).0 v in
                      let q : suc p ≡ p + 1 = omega arith in
                      let z = skipped (body_of (widths k)) (suc p) (drop (suc p) s) (rw (n, ← b.0) w) in
                      rw (t, u, v) (
                        omega arith,
                        omega arith,
                        rw (d, n, u, ← b.0, v) (rw (b.0, z, drop-drop, q, enum-numbers k s (p + 1) u) refl),
                      )
                ]
          ]
    ]

-- A kind is known where its body is short.
known_short : (k : ℕ) → body_len k ≤ 254 → known k ≡ true
known_short k h = elim (tell true (known k)) [ inl u ↦ u | inr u ↦ let e = body-unknown k u in absurd (omega arith) ]

-- A record that is whole in the bytes is read, by its kind and the length of its body.
pub stands_at : (s : List ℕ) (p k w : ℕ) → get_or s p 0 ≡ k → body_len k ≡ w → w ≤ 254 → p + 1 + w ≤ length s → record_at s p ≡ Some (record_of k s (p + 1), p + 1 + w)
unfolding record_at
stands_at s p k w e f g h =
    let u = known_short k (omega (arith, f)) in
    rw (e, u, f, (ltb-is p (length s)).1 (omega arith), (leb-is w (length s - (p + 1))).1 (omega arith)) refl

-- What is read where a record stands: its kind is the byte there, and its body is what follows.
pub record There (s : List ℕ) (p : ℕ) (r : Record) (n : ℕ) : Type 0 where
  pub kind : get_or s p 0 ≡ (numbers_of r).kind
  pub is : r ≡ record_of (numbers_of r).kind s (p + 1)
  pub next : n ≡ p + 1 + body_len (numbers_of r).kind

by-body : (s : List ℕ) (p k n : ℕ) (r : Record) → get_or s p 0 ≡ k → known k ≡ true → ◌≡◌ {A = Read} (Some (record_of k s (p + 1), p + 1 + body_len k)) (Some (r, n)) → There s p r n
by-body s p k n r e u g =
    let (a, b) = some_pair_parts _ _ _ _ g in
    let c : k ≡ (numbers_of r).kind = sym (ap (λ (q : Rec). q.kind) (enum-numbers k s (p + 1) u)) ∙ ap (λ (q : Record). (numbers_of q).kind) a in
    record { kind = e ∙ c; is = sym a ∙ ap (λ (i : ℕ). record_of i s (p + 1)) c; next = sym b ∙ ap (λ (i : ℕ). p + 1 + body_len i) c }

pub read_there : (s : List ℕ) (p n : ℕ) (r : Record) → record_at s p ≡ Some (r, n) → There s p r n
unfolding record_at
read_there s p n r got =
    elim (tell true (ltb p (length s))) [
      | inr e ↦ absurd (none-some (r, n) (rw e at got))
      | inl e ↦
          let a = rw e at got in
          elim (tell true (known (get_or s p 0))) [
            | inr f ↦ absurd (none-some (r, n) (rw f at a))
            | inl f ↦
                let b = rw f at a in
                elim (tell true (leb (body_len (get_or s p 0)) (length s - (p + 1)))) [
                  | inr h ↦ absurd (none-some (r, n) (rw h at b))
                  | inl h ↦ by-body s p (get_or s p 0) n r refl f (rw h at b)
                ]
          ]
    ]
