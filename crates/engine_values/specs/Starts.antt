-- Rooms filled from the front, one place after the other, what then lies in them, and true pairs counted. Assumes nothing.
use Rattle.std.specs.Prelude.{◌≡◌, refl, List, ◌∷◌, ◌++◌, ℕ, zero, suc, ◌+◌, ◌-◌, ◌*◌, ◌/◌, ◌%◌, ◌≤◌, ◌<◌, min, ℤ, pos, ◌-ℤ◌, length, get_or, take, drop, replicate, eqb}
use Rattle.std.proofs.Common.{sym, ap, ◌∙◌, append_assoc, add_assoc, add-mul, one-mul, add-zero, add-suc, suc-add, zero-add, arith, length-take, length-drop, length-append, length-take-le, get_or-append-add, get_or-take, mul-le-mul_right, drop-drop, take_at, drop_at}
use Rattle.std.proofs.Math.Decide.{dec_le}
use Rattle.std.proofs.Math.Arith.{digits_div}
use Rattle.std.proofs.lemmas.Grind.{div_ceil_times}
use Rattle.std.proofs.Math.ListN.{get_or-eq_default, get_or-append}
use Rattle.lists.specs.Lists.{bit, listed, fill}
use Rattle.lists.specs.Sums.{bit_le, sum-ext}
use Rattle.lists.specs.TableLaws.{listed-length, listed_same}
use Rattle.systems.specs.machine.Machine.{own}
use Rattle.rules.specs.Rooms.{pairs_of}
use Rattle.rules.specs.Calls.{bits, value_at}
use Rattle.rules.specs.Session.{unword}
use Rattle.rules.specs.Update.{trues, net_of}
use Rattle.rules.specs.Values.{Values}
use Rattle.rules.specs.declared.Sizes.{Sizes}
use Rattle.laws.specs.model.ModelSystem.{frame}
use Rattle.laws.specs.session.SessionHolds.{fill-length}
use Rattle.engine_table.specs.Lent.{table_of, Drawn, kind_in, own-kind}

-- A list of numbers, so many longer.
listed-add : (i n m : ℕ) (f : ℕ → ℕ) → listed i (n + m) f ≡ listed i n f ++ listed (i + n) m f
listed-add i zero m f = ap (λ (k : ℕ). listed i k f) (zero-add m) ∙ ap (λ (k : ℕ). listed k m f) (sym (add-zero i))
listed-add i (suc n) m f =
    ap (λ (k : ℕ). listed i k f) (suc-add n m) ∙ ap (λ (l : List ℕ). f i ∷ l) (listed-add (suc i) n m f)
    ∙ ap (λ (x : ℕ). f i ∷ (listed (suc i) n f ++ listed x m f)) (suc-add i n ∙ sym (add-suc i n))

-- The room whose first n places hold f 0, f 1, .., f (n - 1).
unfoldable pub filled : ℕ → (ℕ → ℕ) → List ℕ → List ℕ
filled n f room = fill (listed 0 n f) room

-- Nothing is filled at the start.
pub filled_none : (f : ℕ → ℕ) (room : List ℕ) → room ≡ filled 0 f room
unfolding filled
filled_none f room = refl

-- A filled room has its length still.
pub filled-long : (n : ℕ) (f : ℕ → ℕ) (room : List ℕ) → n ≤ length room → length (filled n f room) ≡ length room
unfolding filled
filled-long n f room h = let l = listed-length 0 n f in fill-length (listed 0 n f) room (omega arith)

-- A list of one number again and again.
listed-one : (i n : ℕ) (f : ℕ → ℕ) (v : ℕ) → ((p : ℕ) → i ≤ p → p < i + n → f p ≡ v) → listed i n f ≡ replicate n v
listed-one i zero f v h = refl
listed-one i (suc n) f v h =
    ap (λ (x : ℕ). x ∷ listed (suc i) n f) (h i (omega arith) (omega arith))
    ∙ ap (λ (l : List ℕ). v ∷ l) (listed-one (suc i) n f v (λ p a b. h p (omega arith) (omega arith)))

-- A part that was changed as a whole.
pub part-changed : (n : ℕ) (part room : List ℕ) → length part ≡ n → part ++ drop n room ≡ fill part room
part-changed n part room e = ap (λ (k : ℕ). part ++ drop k room) (sym e)

-- The next k places filled at once, all with one number.
filled_next : (p k v : ℕ) (f : ℕ → ℕ) (room l : List ℕ) → l ≡ filled p f room → ((q : ℕ) → p ≤ q → q < p + k → f q ≡ v)
    → take p l ++ (replicate k v ++ drop k (drop p l)) ≡ filled (p + k) f room
unfolding filled
filled_next p k v f room l e h =
    let long = listed-length 0 p f in
    let front : filled p f room ≡ listed 0 p f ++ drop p room = ap (λ (j : ℕ). listed 0 p f ++ drop j room) long in
    let same = e ∙ front in
    let rest : drop k (drop p l) ≡ drop (p + k) room =
    ap (λ (x : List ℕ). drop k (drop p x)) same ∙ ap (drop k) (drop_at (listed 0 p f) (drop p room) p long) ∙ drop-drop k p room in
    let whole : listed 0 (p + k) f ≡ listed 0 p f ++ replicate k v =
    listed-add 0 p k f ∙ ap (λ (i : ℕ). listed 0 p f ++ listed i k f) (zero-add p) ∙ ap (λ (x : List ℕ). listed 0 p f ++ x) (listed-one p k f v h) in
    ap (λ (x : List ℕ). x ++ (replicate k v ++ drop k (drop p l))) (ap (take p) same ∙ take_at (listed 0 p f) (drop p room) p long)
    ∙ ap (λ (x : List ℕ). listed 0 p f ++ (replicate k v ++ x)) rest
    ∙ sym (append_assoc (listed 0 p f) (replicate k v) (drop (p + k) room))
    ∙ sym (ap (λ (j : ℕ). listed 0 (p + k) f ++ drop j room) (listed-length 0 (p + k) f) ∙ ap (λ (x : List ℕ). x ++ drop (p + k) room) whole)

-- The same where these places were lent as a part, and each place of it was set.
pub filled_row : (p k v : ℕ) (f : ℕ → ℕ) (room l part : List ℕ) → p + k ≤ length room → l ≡ filled p f room
    → ((q : ℕ) → p ≤ q → q < p + k → f q ≡ v) → part ≡ replicate (length (take k (drop p l))) v
    → take p l ++ (part ++ drop k (drop p l)) ≡ filled (p + k) f room
filled_row p k v f room l part h e g r =
    let a = ap length e ∙ filled-long p f room (omega arith) in
    let b = length-drop p l in
    let long : length (take k (drop p l)) ≡ k = length-take k (drop p l) ∙ omega arith in
    ap (λ (x : List ℕ). take p l ++ (x ++ drop k (drop p l))) (r ∙ ap (λ (m : ℕ). replicate m v) long) ∙ filled_next p k v f room l e g

-- What a room filled with values is.
pub filled-bits : (n : ℕ) (v : Values) (room : List ℕ) → filled n (λ p. bit (v p)) room ≡ fill (bits n v) room
unfolding filled
filled-bits n v room = refl

-- The own value of the block of a pair, as its word says, in a room of so many states.
abbrev pub own_byte : ℕ → List ℕ → ℕ → ℕ
own_byte states equations p = bit (eqb (unword (get_or equations (p / states) 0)).kind 1)

-- Which row a place is in.
row_of : (s x q : ℕ) → x * s ≤ q → q < x * s + s → q / s ≡ x
row_of s x q a b = let f : q ≡ x * s + (q - x * s) = omega arith in ap (λ (k : ℕ). k / s) f ∙ digits_div x (omega arith)

-- A row that is not past the last one begins below n.
pub row-begins : (n s x : ℕ) → 0 < s → x < n / s + min 1 (n % s) → x * s < n
row-begins n s x p h =
    let t = (div_ceil_times n s p).1 in
    let m = mul-le-mul_right {m = x + 1} {n = n / s + min 1 (n % s)} s (omega arith) in
    let k : (x + 1) * s ≡ x * s + s = rw (add-mul, one-mul) in
    omega arith

-- The rows up to the last one go up to n.
pub rows-end : (n s : ℕ) → 0 < s → min n ((n / s + min 1 (n % s)) * s) ≡ n
rows-end n s p = let t = (div_ceil_times n s p).0 in omega arith

-- One more row of s places, or what there is of it below n, that ends at e.
pub row_set : (n s x e v : ℕ) (f : ℕ → ℕ) (room l part : List ℕ) → n ≤ length room → x * s < n → e ≡ min n (x * s + s)
    → l ≡ filled (min n (x * s)) f room → ((q : ℕ) → q / s ≡ x → f q ≡ v) → part ≡ replicate (length (take (e - x * s) (drop (x * s) l))) v
    → take (x * s) l ++ (part ++ drop (e - x * s) (drop (x * s) l)) ≡ filled (min n ((x + 1) * s)) f room
row_set n s x e v f room l part long h here done same r =
    let k : (x + 1) * s ≡ x * s + s = rw (add-mul, one-mul) in
    let a : min n (x * s) ≡ x * s = omega arith in
    let b : x * s + (e - x * s) ≡ min n ((x + 1) * s) = omega arith in
    filled_row (x * s) (e - x * s) v f room l part (omega arith) (done ∙ ap (λ (p : ℕ). filled p f room) a)
    (λ q i j. same q (row_of s x q i (omega arith))) r
    ∙ ap (λ (p : ℕ). filled p f room) b

-- The kinds in the words are the own values of the blocks.
pub own-filled : (z : Sizes) (labels equations moves : List ℕ) (n : ℕ) → Drawn z labels equations moves n → (room : List ℕ)
    → fill (bits (pairs_of z) (λ p. eqb (kind_in z equations p) 1)) room ≡ fill (bits (pairs_of z) (own (frame (table_of z labels equations moves n)))) room
own-filled z labels equations moves n d room =
    let m = table_of z labels equations moves n in
    ap (λ (l : List ℕ). fill l room)
    (listed_same 0 (pairs_of z) (λ p. bit (eqb (kind_in z equations p) 1)) (λ p. bit (own (frame m) p))
    (λ p h. ap bit (sym (own-kind z labels equations moves n d p (omega arith)))))

-- The pairs of a part and of what comes after it.
trues-on : (n m : ℕ) (v : Values) → trues (n + m) v ≡ trues n v + trues m (λ p. v (n + p))
trues-on n zero v = ap (λ (k : ℕ). trues k v) (add-zero n) ∙ sym (add-zero (trues n v))
trues-on n (suc m) v =
    ap (λ (k : ℕ). trues k v) (add-suc n m) ∙ ap (λ (k : ℕ). k + bit (v (n + m))) (trues-on n m v)
    ∙ add_assoc (trues n v) (trues m (λ p. v (n + p))) (bit (v (n + m)))

-- How many of the pairs of a room are true.
abbrev pub trues_in : List ℕ → ℕ
trues_in l = trues (length l) (value_at l)

pub trues-append : (a b : List ℕ) → trues_in (a ++ b) ≡ trues_in a + trues_in b
trues-append a b =
    ap (λ (k : ℕ). trues k (value_at (a ++ b))) (length-append a b) ∙ trues-on (length a) (length b) (value_at (a ++ b))
    ∙ ap (λ (k : ℕ). k + trues (length b) (λ p. value_at (a ++ b) (length a + p)))
    (sum-ext (length a) (λ p. bit (value_at (a ++ b) p)) (λ p. bit (value_at a p)) (λ p h. ap (λ (x : ℕ). bit (eqb x 1)) (get_or-append a b 0 p h)))
    ∙ ap (λ (k : ℕ). trues_in a + k)
    (sum-ext (length b) (λ p. bit (value_at (a ++ b) (length a + p))) (λ p. bit (value_at b p)) (λ p h. ap (λ (x : ℕ). bit (eqb x 1)) (get_or-append-add a b p 0)))

-- A room has no more true pairs than pairs.
pub trues_few : (n : ℕ) (v : Values) → trues n v ≤ n
trues_few zero v = omega arith
trues_few (suc n) v = let b = bit_le (v n) in let t = trues_few n v in omega arith

-- Past the end of a room no pair is true.
none-past : (l : List ℕ) (k : ℕ) → trues (length l + k) (value_at l) ≡ trues (length l) (value_at l)
none-past l zero = ap (λ (j : ℕ). trues j (value_at l)) (add-zero (length l))
none-past l (suc k) =
    let e = get_or-eq_default l 0 {n = length l + k} (omega arith) in
    ap (λ (j : ℕ). trues j (value_at l)) (add-suc (length l) k)
    ∙ ap (λ (x : ℕ). trues (length l + k) (value_at l) + bit (eqb x 1)) e ∙ add-zero _ ∙ none-past l k

pub trues-within : (l : List ℕ) (n : ℕ) → trues (min n (length l)) (value_at l) ≡ trues n (value_at l)
trues-within l n =
    elim (dec_le n (length l)) [
      | yes h ↦ let e : min n (length l) ≡ n = omega arith in ap (λ (j : ℕ). trues j (value_at l)) e
      | no h ↦
          let e : min n (length l) ≡ length l = omega arith in
          let g : length l + (n - length l) ≡ n = omega arith in
          ap (λ (j : ℕ). trues j (value_at l)) e ∙ sym (none-past l (n - length l)) ∙ ap (λ (j : ℕ). trues j (value_at l)) g
    ]

-- The true pairs of the first n places, where a room that is shorter ends earlier.
pub trues-front : (l : List ℕ) (n : ℕ) → trues_in (take (min n (length l)) l) ≡ trues n (value_at l)
trues-front l n =
    let k = min n (length l) in
    ap (λ (j : ℕ). trues j (value_at (take k l))) (length-take-le k l (omega arith))
    ∙ sum-ext k (λ p. bit (value_at (take k l) p)) (λ p. bit (value_at l p)) (λ p h. ap (λ (x : ℕ). bit (eqb x 1)) (get_or-take k l p 0 h))
    ∙ trues-within l n

-- The change from one count to the other is the net change.
pub net-counted : (n : ℕ) (old new : Values) (a b : ℕ) (r : ℤ) → a ≡ trues n old → b ≡ trues n new → r ≡ pos b -ℤ pos a → r ≡ net_of n old new
net-counted n old new a b r e f g = g ∙ ap (λ (x : ℕ). pos x -ℤ pos a) f ∙ ap (λ (x : ℕ). pos (trues n new) -ℤ pos x) e
