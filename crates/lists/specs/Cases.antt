-- Cases by their numbers: what is the same at each number of a list, and enums whose variants hold nothing,
-- with all their cases and a number for each. Assumes nothing.
use Rattle.std.specs.Prelude.{◌≡◌, refl, Bool, true, false, not, cond, ◌&&◌, List, [], ◌∷◌, map, ℕ, eqb}
use Rattle.std.proofs.Common.{sym, ap, ◌∙◌, inl, inr}
use Rattle.std.proofs.lemmas.Bool.{false≢true}
use types.Run.{OneOf}
use denote.Struct.Field.{Field}
use denote.Enum.Declared.{Record, Choice}
use Rattle.lists.specs.Lists.{elem}
use Rattle.lists.specs.Tests.{tell, not-out, and_is, and_left, and_right, or_left, or_right, or-other, eqb_is, eqb-in}

-- Two functions that list the same at the numbers of a list are the same at each of them.
pub same_at : {A : Type 0} (f g : ℕ → A) (l : List ℕ) (k : ℕ) → map f l ≡ map g l → elem k l ≡ true → f k ≡ g k
same_at f g [] k h e = absurd (false≢true e)
same_at f g (i ∷ l) k h e =
    elim (tell true (eqb k i)) [
      | inl t ↦ let q : f i ≡ g i = cc in rw ((eqb_is k i).0 t) q
      | inr t ↦ let q : map f l ≡ map g l = cc in same_at f g l k q (or-other (eqb k i) (elem k l) e t)
    ]

-- What is one of some numbers stands in their list.
pub one_of : (l : List ℕ) (k : ℕ) → OneOf l k → elem k l ≡ true
one_of [] k m = absurd m
one_of (i ∷ []) k m = or_left {x = eqb k i} false (eqb-in k i m)
one_of (i ∷ j ∷ l) k (inl e) = or_left {x = eqb k i} (elem k (j ∷ l)) (eqb-in k i e)
one_of (i ∷ j ∷ l) k (inr m) = or_right (eqb k i) (one_of (j ∷ l) k m)

-- No variant has a field.
abbrev pub bare : List (List Field) → Bool
bare [] = true
bare ([] ∷ Fss) = bare Fss
bare ((F ∷ Fs) ∷ Fss) = false

-- The cases of such an enum, in the order in which they are declared; g makes a value of a choice.
abbrev pub cases : {D : Type 0} (Fss : List (List Field)) → (Choice Fss → D) → List D
cases [] g = []
cases ([] ∷ Fss) g = g (inl tt) ∷ cases Fss (λ c. g (inr c))
cases ((F ∷ Fs) ∷ Fss) g = cases Fss (λ c. g (inr c))

-- No number stands twice in a list.
abbrev pub distinct : List ℕ → Bool
distinct [] = true
distinct (n ∷ l) = not (elem n l) && distinct l

-- The first entry of a list with the number n, or z where there is none.
abbrev pub numbered : {D : Type 0} → (D → ℕ) → ℕ → D → List D → D
numbered number n z [] = z
numbered number n z (d ∷ l) = cond (eqb n (number d)) d (numbered number n z l)

-- The entry found has the number looked for, where some entry has it.
pub numbered_is : {D : Type 0} (number : D → ℕ) (n : ℕ) (z : D) (l : List D) → elem n (map number l) ≡ true → number (numbered number n z l) ≡ n
numbered_is number n z [] h = absurd (false≢true h)
numbered_is number n z (d ∷ l) h =
    elim (tell true (eqb n (number d))) [
      | inl t ↦ rw t (sym ((eqb_is n (number d)).0 t))
      | inr t ↦ rw t (numbered_is number n z l (or-other (eqb n (number d)) (elem n (map number l)) h t))
    ]

-- The number of each choice stands among the numbers of the cases.
choice-told : {D : Type 0} (number : D → ℕ) (Fss : List (List Field)) (g : Choice Fss → D) → bare Fss ≡ true → (c : Choice Fss)
    → elem (number (g c)) (map number (cases Fss g)) ≡ true
choice-told number [] g b c = absurd c
choice-told number ([] ∷ Fss) g b (inl v) = or_left _ (eqb-in (number (g (inl v))) (number (g (inl tt))) refl)
choice-told number ([] ∷ Fss) g b (inr c) = or_right (eqb (number (g (inr c))) (number (g (inl tt)))) (choice-told number Fss (λ c. g (inr c)) b c)
choice-told number ((F ∷ Fs) ∷ Fss) g b c = absurd (false≢true b)

-- Where no number stands twice among them, that of the first stands at none of the others.
apart : {D : Type 0} (number : D → ℕ) (Fss : List (List Field)) (g : Choice ([] ∷ Fss) → D) → bare Fss ≡ true
    → distinct (map number (cases ([] ∷ Fss) g)) ≡ true → (c : Choice Fss) → number (g (inl tt)) ≡ number (g (inr c)) → ⊥
apart number Fss g b h c q =
    let k : elem (number (g (inl tt))) (map number (cases Fss (λ c. g (inr c)))) ≡ true = rw q (choice-told number Fss (λ c. g (inr c)) b c) in
    false≢true (sym (not-out _ (and_left (not (elem (number (g (inl tt))) (map number (cases Fss (λ c. g (inr c)))))) _ h)) ∙ k)

-- So two choices with one number are one.
one_choice : {D : Type 0} (number : D → ℕ) (Fss : List (List Field)) (g : Choice Fss → D) → bare Fss ≡ true → distinct (map number (cases Fss g)) ≡ true
    → (c e : Choice Fss) → number (g c) ≡ number (g e) → c ≡ e
one_choice number [] g b h c e q = absurd c
one_choice number ((F ∷ Fs) ∷ Fss) g b h c e q = absurd (false≢true b)
one_choice number ([] ∷ Fss) g b h (inl v) (inl w) q = refl
one_choice number ([] ∷ Fss) g b h (inr c) (inr e) q =
    ap inr (one_choice number Fss (λ c. g (inr c)) b (and_right (not (elem (number (g (inl tt))) (map number (cases Fss (λ c. g (inr c)))))) _ h) c e q)
one_choice number ([] ∷ Fss) g b h (inl v) (inr e) q = absurd (apart number Fss g b h e q)
one_choice number ([] ∷ Fss) g b h (inr c) (inl w) q = absurd (apart number Fss g b h c (sym q))

-- An enum whose variants hold nothing, with a number for each case, no two of them the same: a value is known by its number.
module _ (N : Record) (number : N.D → ℕ) (table : (bare N.parts && distinct (map number (cases N.parts N.make))) ≡ true) where
  test : (bare N.parts ≡ true) × (distinct (map number (cases N.parts N.make)) ≡ true)
  test = (and_is (bare N.parts) (distinct (map number (cases N.parts N.make)))).0 table

  -- Its number stands among the numbers of the cases.
  pub case-told : (d : N.D) → elem (number d) (map number (cases N.parts N.make)) ≡ true
  case-told d = rw (N.eta d) at (choice-told number N.parts N.make test.0 (N.as_values d))

  -- Two values with one number are one.
  pub one-case : (d e : N.D) → number d ≡ number e → d ≡ e
  one-case d e q =
      sym (N.eta d) ∙ ap N.make (one_choice number N.parts N.make test.0 test.1 (N.as_values d) (N.as_values e)
      (ap number (N.eta d) ∙ q ∙ sym (ap number (N.eta e)))) ∙ N.eta e

  -- It is the one that is found by its number.
  pub numbered-back : (z d : N.D) → numbered number (number d) z (cases N.parts N.make) ≡ d
  numbered-back z d = one-case _ d (numbered_is number (number d) z (cases N.parts N.make) (case-told d))
