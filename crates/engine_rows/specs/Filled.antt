-- A room whose places are written one after the other, from the front. Assumes nothing.
use Rattle.std.specs.Prelude.{◌≡◌, refl, Bool, true, false, List, ℕ, ◌+◌, ◌≤◌, ◌<◌, length, get_or, set}
use Rattle.std.proofs.Common.{sym, ap, ◌∙◌, arith, length-set, get_or-set_same, get_or-set_other, ext_get_or}
use Rattle.std.proofs.Math.Decide.{ℕ_discrete, dec_lt}
use Rattle.std.proofs.Math.ListN.{get_or-eq_default}
use mir.Val.{bool_byte}
use Rattle.lists.specs.Ranges.{some-no}
use Rattle.words.specs.WordLaws.{byte-bit}
use Rattle.lists.specs.Lists.{bit, listed, some_below}
use Rattle.lists.specs.TableLaws.{listed-is, listed-length}
use Rattle.engine_rows.specs.Rooms.{Bits}

-- The room l is `room` with f 0, f 1, .., f (n - 1) in its first n places.
pub record Filled (n : ℕ) (f : ℕ → ℕ) (room l : List ℕ) : Type 0 where
  pub long : length l ≡ length room
  pub done : (p : ℕ) → p < n → get_or l p 0 ≡ f p
  pub rest : (p : ℕ) → n ≤ p → get_or l p 0 ≡ get_or room p 0

-- Nothing is written at the start.
pub filled_none : (f : ℕ → ℕ) (room : List ℕ) → Filled 0 f room room
filled_none f room = record { long = refl; done = λ p h. absurd (omega arith); rest = λ p h. refl }

-- One place more.
pub filled_more : (n : ℕ) (f : ℕ → ℕ) (room l k : List ℕ) (x : ℕ) → n < length room → Filled n f room l → x ≡ f n → k ≡ set l n x → Filled (n + 1) f room k
filled_more n f room l k x h w v s = record {
  long = ap length s ∙ length-set l n x ∙ w.long;
  done = λ p g. elim (ℕ_discrete p n) [
    | yes e ↦
        let o = w.long in
        ap (λ (q : List ℕ). get_or q p 0) s ∙ ap (λ (i : ℕ). get_or (set l n x) i 0) e ∙ get_or-set_same l n x 0 (omega arith) ∙ v ∙ ap f (sym e)
    | no e ↦ ap (λ (q : List ℕ). get_or q p 0) s ∙ get_or-set_other l n p x 0 e ∙ w.done p (omega arith)
  ];
  rest = λ p g. ap (λ (q : List ℕ). get_or q p 0) s ∙ get_or-set_other l n p x 0 (λ e. omega arith) ∙ w.rest p (omega arith);
}

-- One place more, of truth values.
pub filled-bit : (n : ℕ) (g : ℕ → Bool) (room l k : List ℕ) (x : Bool) → n < length room → Filled n (λ p. bit (g p)) room l → x ≡ g n → k ≡ set l n (bool_byte x)
    → Filled (n + 1) (λ p. bit (g p)) room k
filled-bit n g room l k x h w v s = filled_more n (λ p. bit (g p)) room l k (bool_byte x) h w (byte-bit x ∙ ap bit v) s

-- A room that is written to its end is the list of what was written.
pub filled-all : (n : ℕ) (f : ℕ → ℕ) (room l : List ℕ) → n ≡ length room → Filled n f room l → l ≡ listed 0 (length room) f
filled-all n f room l e w =
    let o = w.long in
    let k = listed-length 0 (length room) f in
    ext_get_or 0 l (listed 0 (length room) f) (omega arith) (λ i h. w.done i (omega arith) ∙ sym (listed-is (length room) f i (omega arith)))

-- The bit of a truth value is at most 1, and so are those of a list of them.
pub bit-small : (b : Bool) → bit b ≤ 1
bit-small true = omega arith
bit-small false = omega arith

pub listed-bits : (n : ℕ) (g : ℕ → Bool) → Bits (listed 0 n (λ s. bit (g s)))
listed-bits n g p =
    let l = listed 0 n (λ s. bit (g s)) in
    let k = listed-length 0 n (λ s. bit (g s)) in
    elim (dec_lt p n) [
      | yes h ↦ let e = listed-is n (λ s. bit (g s)) p h in let b = bit-small (g p) in omega arith
      | no h ↦ let e = get_or-eq_default l 0 {n = p} (omega arith) in omega arith
    ]

-- And then each bit is 0.
pub none-listed : (n : ℕ) (g : ℕ → Bool) → some_below n g ≡ false → (s : ℕ) → get_or (listed 0 n (λ s. bit (g s))) s 0 ≡ 0
none-listed n g e s =
    let l = listed 0 n (λ s. bit (g s)) in
    let k = listed-length 0 n (λ s. bit (g s)) in
    elim (dec_lt s n) [
      | yes h ↦ listed-is n (λ s. bit (g s)) s h ∙ ap bit (some-no n g e s h)
      | no h ↦ get_or-eq_default l 0 {n = s} (omega arith)
    ]
