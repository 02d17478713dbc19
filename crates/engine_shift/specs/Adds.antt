-- A row of places in which some become 1: what is added by one store after the other. Assumes nothing.
use Rattle.std.specs.Prelude.{◌≡◌, refl, Bool, true, false, cond, ◌&&◌, ◌||◌, List, ℕ, ◌+◌, ◌≤◌, ◌<◌, length, get_or, set, take, replicate, eqb, ltb}
use Rattle.std.proofs.Common.{sym, ap, ◌∙◌, subst, inl, inr, arith, length-set, get_or-set_same, get_or-set_other}
use Rattle.std.proofs.Math.Decide.{ℕ_discrete, dec_lt}
use Rattle.std.proofs.Math.ListN.{get_or-eq_default}
use Rattle.engine_index.specs.Walks.{SetWhere}
use mir.Val.{bool_byte}
use Rattle.lists.specs.Lists.{any, bit}
use Rattle.lists.specs.Tests.{tell, eqb_same, eqb_no, and_no, and-true, or-false, ltb-in, ltb-out, ltb_no}
use Rattle.lists.specs.TableLaws.{bit-back}
use Rattle.lists.specs.Entries.{set-le, zeros-at}
use Rattle.engine_rows.specs.Rooms.{Bits}
use Rattle.words.specs.WordLaws.{byte-bit}
use Rattle.engine_rows.specs.Filled.{bit-small}
use Rattle.engine_shift.specs.Anys.{or-both, any-more}

-- The row `new` is `old` with 1 at the places that pass the test as well.
pub record Adds (test : ℕ → Bool) (old new : List ℕ) : Type 0 where
  pub long : length new ≡ length old
  pub bits : Bits old → Bits new
  pub says : (s : ℕ) → s < length old → eqb (get_or new s 0) 1 ≡ (eqb (get_or old s 0) 1 || test s)

-- Nothing is added.
pub adds_none : (test : ℕ → Bool) (old : List ℕ) → ((s : ℕ) → s < length old → test s ≡ false) → Adds test old old
adds_none test old none = record {
  long = refl;
  bits = λ b. b;
  says = λ s h. sym (ap (λ (x : Bool). eqb (get_or old s 0) 1 || x) (none s h) ∙ or-false (eqb (get_or old s 0) 1));
}

-- The same is added, told by another test.
pub adds_same : (f g : ℕ → Bool) (old new : List ℕ) → ((s : ℕ) → s < length old → f s ≡ g s) → Adds f old new → Adds g old new
adds_same f g old new e a = record {
  long = a.long;
  bits = a.bits;
  says = λ s h. a.says s h ∙ ap (λ (x : Bool). eqb (get_or old s 0) 1 || x) (e s h);
}

-- What is added only where b says so.
pub adds-if : (f : ℕ → Bool) (b : Bool) (old new : List ℕ) → b ≡ true → Adds f old new → Adds (λ s. b && f s) old new
adds-if f b old new e = adds_same f (λ s. b && f s) old new (λ s h. ap (λ (x : Bool). x && f s) (sym e))

pub adds-not : (f : ℕ → Bool) (b : Bool) (old : List ℕ) → b ≡ false → Adds (λ s. b && f s) old old
adds-not f b old e = adds_none (λ s. b && f s) old (λ s h. ap (λ (x : Bool). x && f s) e)

-- First some are added, then others.
pub adds_then : (f g : ℕ → Bool) (a b c : List ℕ) → Adds f a b → Adds g b c → Adds (λ s. f s || g s) a c
adds_then f g a b c p q = record {
  long = q.long ∙ p.long;
  bits = λ o. q.bits (p.bits o);
  says = λ s h. let l = p.long in
      q.says s (omega arith) ∙ ap (λ (x : Bool). x || g s) (p.says s h) ∙ or-both (eqb (get_or a s 0) 1) (f s) (g s);
}

-- One place is added, where b says so.
pub adds-at : (l : List ℕ) (r : ℕ) (b : Bool) (k : List ℕ) (x : ℕ) → r < length l → x ≡ bit (eqb (get_or l r 0) 1 || b) → k ≡ set l r x
    → Adds (λ s. b && eqb r s) l k
adds-at l r b k x h v e = subst (λ (q : List ℕ). Adds (λ s. b && eqb r s) l q) (sym e) (record {
  long = length-set l r x;
  bits = λ o. let m = bit-small (eqb (get_or l r 0) 1 || b) in set-le 1 l r x (omega arith) o;
  says = λ s g. elim (ℕ_discrete s r) [
    | yes i ↦ subst (λ (q : ℕ). eqb (get_or (set l r x) q 0) 1 ≡ (eqb (get_or l q 0) 1 || (b && eqb r q))) (sym i)
        (ap (λ (y : ℕ). eqb y 1) (get_or-set_same l r x 0 h ∙ v) ∙ bit-back (eqb (get_or l r 0) 1 || b)
        ∙ ap (λ (y : Bool). eqb (get_or l r 0) 1 || y) (sym (ap (λ (y : Bool). b && y) (eqb_same r) ∙ and-true b)))
    | no i ↦
        ap (λ (y : ℕ). eqb y 1) (get_or-set_other l r s x 0 i)
        ∙ sym (ap (λ (y : Bool). eqb (get_or l s 0) 1 || y) (and_no b ((eqb_no r s).1 (λ j. i (sym j)))) ∙ or-false (eqb (get_or l s 0) 1))
  ];
})

-- Places that become 1 where a test holds are added by it.
pub adds-set : (f : ℕ → Bool) (old new : List ℕ) → length new ≡ length old → SetWhere f 1 old new → Adds f old new
adds-set f old new l w = record {
  long = l;
  bits = λ o p. elim (dec_lt p (length old)) [
    | yes h ↦ let x = w p h in let y = o p in let z = small (f p) (get_or old p 0) y in omega arith
    | no h ↦ let x = get_or-eq_default new 0 {n = p} (omega arith) in omega arith
  ];
  says = λ s h. ap (λ (x : ℕ). eqb x 1) (w s h) ∙ either (f s) (get_or old s 0);
}
  where
    small : (b : Bool) (x : ℕ) → x ≤ 1 → cond b 1 x ≤ 1
    small true x h = omega arith
    small false x h = h

    either : (b : Bool) (x : ℕ) → eqb (cond b 1 x) 1 ≡ (eqb x 1 || b)
    either true x = sym (last (eqb x 1))
      where
        last : (y : Bool) → (y || true) ≡ true
        last true = refl
        last false = refl
    either false x = sym (or-false (eqb x 1))

-- What a place becomes, where its number and what is asked were found so.
pub byte-found : (l : List ℕ) (r p : ℕ) (x y : Bool) → r ≡ p → x ≡ y → bool_byte (eqb (get_or l r 0) 1 || x) ≡ bit (eqb (get_or l p 0) 1 || y)
byte-found l r p x y e f =
    byte-bit (eqb (get_or l r 0) 1 || x) ∙ ap (λ (n : ℕ). bit (eqb (get_or l n 0) 1 || x)) e ∙ ap (λ (z : Bool). bit (eqb (get_or l p 0) 1 || z)) f

-- A list that is gone through word by word: each word adds its place where it passes the test f, and the words before i have been asked.
pub adds-word : (f : ℕ → Bool) (place : ℕ → ℕ) (l a b : List ℕ) (i : ℕ) (c : List ℕ) (x : ℕ) → i < length l → place (get_or l i 0) < length a
    → Adds (λ s. any (λ w. f w && eqb (place w) s) (take i l)) a b → x ≡ bit (eqb (get_or b (place (get_or l i 0)) 0) 1 || f (get_or l i 0))
    → c ≡ set b (place (get_or l i 0)) x → Adds (λ s. any (λ w. f w && eqb (place w) s) (take (i + 1) l)) a c
adds-word f place l a b i c x h k p v e =
    let w = get_or l i 0 in
    let n = p.long in
    adds_same (λ s. any (λ w. f w && eqb (place w) s) (take i l) || (f w && eqb (place w) s)) (λ s. any (λ w. f w && eqb (place w) s) (take (i + 1) l)) a c
    (λ s g. sym (any-more (λ w. f w && eqb (place w) s) l i h))
    (adds_then (λ s. any (λ w. f w && eqb (place w) s) (take i l)) (λ s. f w && eqb (place w) s) a b c p (adds-at b (place w) (f w) c x (omega arith) v e))

-- Of a number that is not s, whether it is below s or below s + 1 is the same.
pub below_other : (q s : ℕ) → (q ≡ s → ⊥) → ltb q s ≡ ltb q (s + 1)
below_other q s i =
    elim (tell true (ltb q s)) [
      | inl t ↦ let u = ltb-out q s t in t ∙ sym (ltb-in q (s + 1) (omega arith))
      | inr t ↦ let u = (ltb_no q s).0 t in t ∙ sym ((ltb_no q (s + 1)).1 (omega arith))
    ]

-- A row that is gone through place by place: the places before s have been asked.
pub adds-next : (f : ℕ → Bool) (a b : List ℕ) (s : ℕ) (c : List ℕ) (x : ℕ) → s < length a → Adds (λ q. ltb q s && f q) a b
    → x ≡ bit (eqb (get_or b s 0) 1 || f s) → c ≡ set b s x → Adds (λ q. ltb q (s + 1) && f q) a c
adds-next f a b s c x h p v e =
    let l = p.long in
    adds_same (λ q. (ltb q s && f q) || (f s && eqb s q)) (λ q. ltb q (s + 1) && f q) a c (λ q g. either q)
    (adds_then (λ q. ltb q s && f q) (λ q. f s && eqb s q) a b c p (adds-at b s (f s) c x (omega arith) v e))
  where
    at : (u : Bool) → ((false && u) || (u && true)) ≡ (true && u)
    at true = refl
    at false = refl

    off : (y u w : Bool) → ((y && u) || (w && false)) ≡ (y && u)
    off true true w = refl
    off true false true = refl
    off true false false = refl
    off false u true = refl
    off false u false = refl

    either : (q : ℕ) → ((ltb q s && f q) || (f s && eqb s q)) ≡ (ltb q (s + 1) && f q)
    either q =
        elim (ℕ_discrete q s) [
          | yes i ↦ subst (λ (j : ℕ). ((ltb j s && f j) || (f s && eqb s j)) ≡ (ltb j (s + 1) && f j)) (sym i)
              (ap (λ (y : Bool). (y && f s) || (f s && eqb s s)) ((ltb_no s s).1 (omega arith)) ∙ ap (λ (y : Bool). (false && f s) || (f s && y)) (eqb_same s)
              ∙ at (f s) ∙ ap (λ (y : Bool). y && f s) (sym (ltb-in s (s + 1) (omega arith))))
          | no i ↦
              ap (λ (y : Bool). (ltb q s && f q) || (f s && y)) ((eqb_no s q).1 (λ j. i (sym j))) ∙ off (ltb q s) (f q) (f s)
              ∙ ap (λ (y : Bool). y && f q) (below_other q s i)
        ]

-- At first no place has been asked, and in the end all have.
pub adds-first : (f : ℕ → Bool) (a : List ℕ) → Adds (λ q. ltb q 0 && f q) a a
adds-first f a = adds_none (λ q. ltb q 0 && f q) a (λ s h. ap (λ (x : Bool). x && f s) ((ltb_no s 0).1 (omega arith)))

pub adds-all : (f : ℕ → Bool) (a b : List ℕ) (s : ℕ) → length a ≤ s → Adds (λ q. ltb q s && f q) a b → Adds f a b
adds-all f a b s h = adds_same (λ q. ltb q s && f q) f a b (λ q g. ap (λ (x : Bool). x && f q) (ltb-in q s (omega arith)))

-- A row of zeros.
pub zeros-bits : (n : ℕ) → Bits (replicate n 0)
zeros-bits n p = let e = zeros-at n p in omega arith
