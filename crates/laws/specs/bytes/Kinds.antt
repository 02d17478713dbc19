-- The cases of the code's enum of records, by the table of kinds (`bodies`, rules/specs/Records). What code knows of a record that is
-- of none of the cases it asked for is that its case is one of the others; they are computed from the table. Assumes nothing.
use Rattle.std.specs.Prelude.{◌≡◌, refl, true, false, cond, List, [], ◌∷◌, ℕ, suc, ◌-◌, eqb, ltb}
use Rattle.std.proofs.Common.{inl, inr, arith}
use Rattle.std.proofs.lemmas.Bool.{false≢true}
use types.Run.{OneOf}
use denote.Enum.Declared.{tag_of}
use Rattle.lists.specs.Cases.{one_of}
use Rattle.lists.specs.Lists.{all, elem}
use Rattle.lists.specs.Tests.{tell, and_is, eqb_is, ltb-is, or-out, or_no}
use Rattle.rules.specs.Records.{kinds, numbers_of}
use Rattle.rules.specs.declared.Record.{Record}
use Rattle.rules.specs.declared.Record.TheVariants as R
use Rattle.rules.specs.contracts.Record.{the_type}

-- The cases of the enum stand in the order of the kinds, which begin with 1.
pub case-kind : (r : Record) → (numbers_of r).kind ≡ suc (tag_of the_type r)
case-kind (R.Sizes z) = refl
case-kind (R.Label s v) = refl
case-kind (R.Block k n) = refl
case-kind (R.Equation o a b) = refl
case-kind (R.Move m) = refl
case-kind R.End = refl
case-kind (R.Stamp n) = refl
case-kind (R.Insert m) = refl
case-kind (R.Delete m) = refl
case-kind R.Live = refl
case-kind (R.Signed k o a b) = refl

-- The cases of the kinds in a list, without some.
abbrev pub cases_but : List ℕ → List ℕ → List ℕ
cases_but ks [] = []
cases_but ks (k ∷ l) = cond (elem k ks) (cases_but ks l) ((k - 1) ∷ cases_but ks l)

-- A record is of none of some kinds, as code knows it: its case is one of the others.
abbrev pub Other : List ℕ → Record → Type 0
Other ks r = OneOf (cases_but ks kinds) (tag_of the_type r)

-- A case of the others is of none of the kinds left out.
but_out : (ks l : List ℕ) (t : ℕ) → all (ltb 0) l ≡ true → elem t (cases_but ks l) ≡ true → elem (suc t) ks ≡ false
but_out ks [] t h m = absurd (false≢true m)
but_out ks (k ∷ l) t h m =
    let g = (and_is (ltb 0 k) (all (ltb 0) l)).0 h in
    elim (tell true (elem k ks)) [
      | inl e ↦ but_out ks l t g.1 (rw e at m)
      | inr e ↦ elim (or-out (eqb t (k - 1)) (elem t (cases_but ks l)) (rw e at m)) [
        | inr n ↦ but_out ks l t g.1 n
        | inl n ↦
            let a = (eqb_is t (k - 1)).0 n in
            let b = (ltb-is 0 k).0 g.0 in
            let c : suc t ≡ k = omega arith in
            rw c e
      ]
    ]

-- So its kind is none of them.
pub other-kinds : (ks : List ℕ) (r : Record) → Other ks r → elem (numbers_of r).kind ks ≡ false
other-kinds ks r m = rw (case-kind r) (but_out ks kinds (tag_of the_type r) refl (one_of (cases_but ks kinds) (tag_of the_type r) m))

pub other-kind : (k : ℕ) (r : Record) → Other (k ∷ []) r → eqb (numbers_of r).kind k ≡ false
other-kind k r m = ((or_no (eqb (numbers_of r).kind k) false).0 (other-kinds (k ∷ []) r m)).0
