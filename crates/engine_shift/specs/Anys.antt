-- Some entry of a list passes a test: by parts of the list, by parts of the test, and by what holds of each entry. Assumes nothing.
use Rattle.std.specs.Prelude.{◌≡◌, refl, Bool, true, false, not, cond, ◌&&◌, ◌||◌, List, [], ◌∷◌, ◌++◌, map, ℕ, suc, ◌+◌, ◌/◌, ◌%◌, ◌<◌, length, get_or, take, eqb, ltb}
use Rattle.std.proofs.Common.{sym, ap, ◌∙◌, add-one, take-suc}
use Rattle.lists.specs.Lists.{any, all}
use Rattle.lists.specs.Tests.{and_in, and_is, and_no, or-false}
use Rattle.rules.specs.Moves.{target}
use Rattle.rules.specs.Model.{move_ok, moves_ok}
use Rattle.rules.specs.Batch.{changes_ok, inserts, deletes}
use Rattle.rules.specs.Values.{own, targets}
use Rattle.rules.specs.declared.Sizes.{Sizes}
use Rattle.rules.specs.declared.State.{State}
use Rattle.rules.specs.declared.Action.{Action}
use Rattle.words.specs.Words.{changes_of}

-- "Or" of three.
pub or-both : (x y z : Bool) → ((x || y) || z) ≡ (x || (y || z))
or-both true y z = refl
or-both false y z = refl

-- Some entry of a list that is one longer.
any_snoc : (f : ℕ → Bool) (w : ℕ) (l : List ℕ) → any f (l ++ (w ∷ [])) ≡ (any f l || f w)
any_snoc f w [] = or-false (f w)
any_snoc f w (x ∷ l) = ap (λ (b : Bool). f x || b) (any_snoc f w l) ∙ sym (or-both (f x) (any f l) (f w))

pub any-more : (f : ℕ → Bool) (l : List ℕ) (k : ℕ) → k < length l → any f (take (k + 1) l) ≡ (any f (take k l) || f (get_or l k 0))
any-more f l k h =
    ap (λ (j : ℕ). any f (take j l)) (add-one k) ∙ ap (any f) (take-suc l k 0 h) ∙ any_snoc f (get_or l k 0) (take k l)

-- A test that comes to another one, of each entry, and so of some entry.
pub any-alike : (p f g : ℕ → Bool) (l : List ℕ) → all p l ≡ true → ((q : ℕ) → p q ≡ true → f q ≡ g q) → any f l ≡ any g l
any-alike p f g [] a e = refl
any-alike p f g (q ∷ l) a e =
    let k = simp and_is at a in
    ap (λ (x : Bool). x || any f l) (e q k.0) ∙ ap (λ (x : Bool). g q || x) (any-alike p f g l k.1 e)

-- What is asked of each entry besides can be asked once.
pub any-once : (c : Bool) (f g : ℕ → Bool) (l : List ℕ) → any (λ q. f q && (c && g q)) l ≡ (c && any (λ q. f q && g q) l)
any-once true f g l = refl
any-once false f g [] = refl
any-once false f g (q ∷ l) = ap (λ (x : Bool). x || any (λ q. f q && (false && g q)) l) (and_no (f q) refl) ∙ any-once false f g l

-- Each move leads to a state.
pub targets-in : (z : Sizes) (least : ℕ) (l : List ℕ) → moves_ok z least l ≡ true → all (λ q. ltb (target q) z.states) l ≡ true
unfolding move_ok
targets-in z least [] h = refl
targets-in z least (q ∷ l) h = let g = simp and_is at h in and_in g.0.1.1 (targets-in z (suc q) l g.1)

-- Each change is of a move to a state.
pub changes-in : (z : Sizes) (l : List ℕ) → changes_ok z (changes_of l) ≡ true → all (λ w. ltb (target (w / 2)) z.states) l ≡ true
unfolding move_ok
changes-in z [] h = refl
changes-in z (w ∷ l) h = let g = simp and_is at h in and_in g.0.1 (changes-in z l g.1)

-- A test on where the moves of a state with an action lead, as a test on the moves.
pub targets-any : (s : State) (a : Action) (f : ℕ → Bool) (g : ℕ → ℕ) (l : List ℕ) → any f (map g (targets s a l)) ≡ any (λ q. own s a q && f (g (target q))) l
targets-any s a f g [] = refl
targets-any s a f g (q ∷ l) = go (own s a q) (targets-any s a f g l)
  where
    go : (b : Bool) → any f (map g (targets s a l)) ≡ any (λ q. own s a q && f (g (target q))) l
        → any f (map g (cond b (target q ∷ targets s a l) (targets s a l))) ≡ ((b && f (g (target q))) || any (λ q. own s a q && f (g (target q))) l)
    go true e = ap (λ (x : Bool). f (g (target q)) || x) e
    go false e = e

-- A test on the inserted moves, and one on the deleted ones, as tests on the changes.
pub inserts-any : (f : ℕ → Bool) (l : List ℕ) → any f (inserts (changes_of l)) ≡ any (λ w. eqb (w % 2) 1 && f (w / 2)) l
inserts-any f [] = refl
inserts-any f (w ∷ l) = go (eqb (w % 2) 1) (inserts-any f l)
  where
    go : (b : Bool) → any f (inserts (changes_of l)) ≡ any (λ w. eqb (w % 2) 1 && f (w / 2)) l
        → any f (cond b (w / 2 ∷ inserts (changes_of l)) (inserts (changes_of l))) ≡ ((b && f (w / 2)) || any (λ w. eqb (w % 2) 1 && f (w / 2)) l)
    go true e = ap (λ (x : Bool). f (w / 2) || x) e
    go false e = e

pub deletes-any : (f : ℕ → Bool) (l : List ℕ) → any f (deletes (changes_of l)) ≡ any (λ w. not (eqb (w % 2) 1) && f (w / 2)) l
deletes-any f [] = refl
deletes-any f (w ∷ l) = go (eqb (w % 2) 1) (deletes-any f l)
  where
    go : (b : Bool) → any f (deletes (changes_of l)) ≡ any (λ w. not (eqb (w % 2) 1) && f (w / 2)) l
        → any f (cond b (deletes (changes_of l)) (w / 2 ∷ deletes (changes_of l))) ≡ ((not b && f (w / 2)) || any (λ w. not (eqb (w % 2) 1) && f (w / 2)) l)
    go true e = e
    go false e = ap (λ (x : Bool). f (w / 2) || x) e
