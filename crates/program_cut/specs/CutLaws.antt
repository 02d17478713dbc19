-- The cut, record by record, and what is left after it. Assumes nothing.
use Rattle.std.specs.Prelude.{◌≡◌, refl, true, false, ◌&&◌, List, [], ◌∷◌, ℕ, zero, suc, ◌+◌, ◌≤◌, ◌<◌, eqb, ltb, leb, length, take, drop, Some, None}
use Rattle.std.proofs.Common.{sym, ap, ◌∙◌, inl, inr, arith, length-drop}
use Rattle.lists.specs.Tests.{tell}
use Rattle.rules.specs.Records.{parts_from, numbers_of, known, body_of, widths}
use Rattle.rules.specs.declared.Record.{Record}
use Rattle.bytes_read.specs.PartsAt.{parts_at, PartsBy, parts-at}
use Rattle.bytes_read.specs.Places.{Read, record_at}
use Rattle.program_cut.specs.Cut.{end_after, cut, pieces, all_pieces}

-- Where the part ends that is being read at a place.
unfoldable pub end_from : List ℕ → ℕ → ℕ
end_from s at = end_after (length s) (parts_at s at)

-- A place within the bytes, from which the part ends where the whole does.
abbrev pub Along : List ℕ → ℕ → Type 0
Along s at = (at ≤ length s) × (end_from s at ≡ cut s)

-- The walk begins at the front.
pub along-front : (s : List ℕ) → Along s 0
unfolding end_from cut
along-front s = (omega arith, refl)

-- What was read at a place of the walk, by whether it is the end record.
module _ (s t : List ℕ) (at : ℕ) (same : t ≡ s) (a : Along s at) where
  -- What is read there is read there of the same bytes, and says so much of the parts.
  by-read : (d : Read) → d ≡ record_at t at → PartsBy s at d
  by-read d e = rw (e ∙ ap (λ (l : List ℕ). record_at l at) same) (parts-at s at)

  module _ (r : Record) (n : ℕ) (e : Some (r, n) ≡ record_at t at) where
    -- After another record the walk goes on, further along the part.
    pub goes_on_lem : false ≡ eqb (numbers_of r).kind 6 → (at < n) × Along s n
    unfolding end_from end_after
    goes_on_lem k = let h = by-read (Some (r, n)) e in (h.0, (h.1, rw (h.2, sym k) at a.1))

    -- The end record is the last of its part, and within the bytes.
    pub ends_there : true ≡ eqb (numbers_of r).kind 6 → (at < length s) × (at + 1 ≡ cut s)
    unfolding end_from end_after
    ends_there k =
        let h = by-read (Some (r, n)) e in
        let i : at + 1 ≡ suc at = omega arith in
        (omega arith, i ∙ rw (h.2, sym k) at a.1)

  -- Where no record can be read, the part is all that is left.
  pub ends_open : None ≡ record_at t at → length s ≡ cut s
  unfolding end_from end_after
  ends_open e =
      let h = by-read None e in
      elim (tell true (ltb at (length s))) [ inl k ↦ rw (h, k) at a.1 | inr k ↦ rw (h, k) at a.1 ]

-- The end of a part lies within the bytes, and past the place where the part is read, where a byte stands there.
record Inside (n p e : ℕ) (s : List ℕ) : Type 0 where
  most : e ≤ n
  least : p ≤ e
  more : 0 < length s → p < e

-- The walk never leaves the bytes.
end-inside : (n skip p : ℕ) (s : List ℕ) → p + length s ≡ n → Inside n p (end_after n (parts_from skip p s)) s
unfolding end_after parts_from
end-inside n zero p [] h = record { most = omega arith; least = omega arith; more = λ l. absurd (omega arith) }
end-inside n (suc k) p [] h = record { most = omega arith; least = omega arith; more = λ l. absurd (omega arith) }
end-inside n (suc k) p (b ∷ s) h =
    let i = end-inside n k (suc p) s (omega arith) in
    let a = i.least in
    record { most = i.most; least = omega arith; more = λ l. omega arith }
end-inside n zero p (k ∷ s) h =
    let i = end-inside n (body_of (widths k)) (suc p) s (omega arith) in
    let a = i.least in
    elim (tell true (known k && leb (body_of (widths k)) (length s))) [
      | inr t ↦ rw t (record { most = omega arith; least = omega arith; more = λ l. omega arith })
      | inl t ↦ elim (tell true (eqb k 6)) [
        | inl u ↦ rw (t, u) (record { most = omega arith; least = omega arith; more = λ l. omega arith })
        | inr u ↦ rw (t, u) (record { most = i.most; least = omega arith; more = λ l. omega arith })
      ]
    ]

-- A part has no more bytes than there are.
pub cut_most : (s : List ℕ) → cut s ≤ length s
unfolding cut
cut_most s = (end-inside (length s) 0 0 s (omega arith)).most

-- Where there is a byte, the part has one.
pub cut-more : (s : List ℕ) → 0 < length s → 0 < cut s
unfolding cut
cut-more s h = (end-inside (length s) 0 0 s (omega arith)).more h

-- Enough is enough: more parts than bytes are never found.
enough : (n m : ℕ) (s : List ℕ) → length s ≤ n → length s ≤ m → pieces n s ≡ pieces m s
unfolding pieces
enough zero zero [] h g = refl
enough zero (suc m) [] h g = refl
enough (suc n) zero [] h g = refl
enough (suc n) (suc m) [] h g = refl
enough zero m (b ∷ s) h g = absurd (omega arith)
enough (suc n) zero (b ∷ s) h g = absurd (omega arith)
enough (suc n) (suc m) (b ∷ s) h g =
    let w = b ∷ s in
    let c = cut-more w (omega arith) in
    let d = length-drop (cut w) w in
    ap (λ (l : List (List ℕ)). take (cut w) w ∷ l) (enough n m (drop (cut w) w) (omega arith) (omega arith))

-- The parts of bytes: the first, and those of what is left.
pub pieces_more : (s : List ℕ) → 0 < length s → all_pieces s ≡ take (cut s) s ∷ all_pieces (drop (cut s) s)
unfolding all_pieces pieces
pieces_more [] h = absurd (omega arith)
pieces_more (b ∷ s) h =
    let w = b ∷ s in
    let c = cut-more w (omega arith) in
    let d = length-drop (cut w) w in
    ap (λ (l : List (List ℕ)). take (cut w) w ∷ l) (enough (length s) (length (drop (cut w) w)) (drop (cut w) w) (omega arith) (omega arith))

-- No bytes, no parts.
pub pieces_none : (s : List ℕ) → length s ≡ 0 → all_pieces s ≡ []
unfolding all_pieces pieces
pieces_none [] h = refl
pieces_none (b ∷ s) h = absurd (omega arith)
