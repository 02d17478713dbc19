-- Chains of variables. A chain goes from variable to variable by the names in equations; it is closed where it ends at its
-- start; repeats are allowed. The tests of the rules decide exactly what is said of chains here. Assumes nothing.
use Rattle.std.specs.Prelude.{◌≡◌, refl, ◌⊎◌, false, ◌&&◌, ◌||◌, List, [], ◌∷◌, ℕ, zero, suc, ◌≤◌, ◌<◌, eqb, ltb}
use Rattle.std.proofs.Math.Path.{sym, ap, subst}
use Rattle.std.proofs.Common.{◌∙◌, true≢false, arith}
use Rattle.std.proofs.Math.Logic.{inl, inr}
use Rattle.std.proofs.Math.Bool.{true, not}
use mathlib.Core.List.Memᴰ
use Rattle.lists.specs.Lists.{any, some_below, lowest}
use Rattle.lists.specs.Smallest.{at, smallest}
use Rattle.lists.specs.Tests.{◌∈◌, tell, not-out, any-in, any_out, and_in, and_left, and_right, or_left, or_right, or-out, eqb-in, eqb-out, eqb_no, ltb-in, ltb-out}
use Rattle.lists.specs.SmallestLaws.{Monotone, smallest-closed, smallest-ind}
use Rattle.lists.specs.Ranges.{some_in, some_out, some-no, lowest-some}
use Rattle.rules.specs.Chains.{Names, lead_rule, leads, together, mixed}

-- x leads to y, in any number of steps.
pub data Leadsto (names : Names) : ℕ → ℕ → Type 0 where
  stop : {x : ℕ} → Leadsto names x x
  go : {x y z : ℕ} → y ∈ names x → Leadsto names y z → Leadsto names x z

-- A chain from x to y through equations: each variable is named by the equation of the one before. It holds the variables
-- of the list.
pub data Chain (names : Names) : ℕ → ℕ → List ℕ → Type 0 where
  end : {x : ℕ} → Chain names x x (x ∷ [])
  on : {x y z : ℕ} {l : List ℕ} → y ∈ names x → Chain names y z l → Chain names x z (x ∷ l)

-- The chain holds a variable with this sign.
abbrev pub Holds : (ℕ → ℕ) → ℕ → List ℕ → Type 0
Holds sign k chain = (y : ℕ) × y ∈ chain × (sign y ≡ k)

-- Some closed chain through x holds both signs.
pub record Mixed (names : Names) (sign : ℕ → ℕ) (x : ℕ) : Type 0 where
  pub start : ℕ
  pub chain : List ℕ
  pub closed : Chain names start start chain
  pub on : x ∈ chain
  pub least : Holds sign 0 chain
  pub greatest : Holds sign 1 chain

-- The lowest of n variables that lies on a closed chain with both signs.
pub record Guilty (n : ℕ) (names : Names) (sign : ℕ → ℕ) (x : ℕ) : Type 0 where
  pub below : x < n
  pub on : Mixed names sign x
  pub first : (y : ℕ) → y < n → Mixed names sign y → x ≤ y

-- Leading there goes on: from x to y, and from y to z.
pub follow : {names : Names} {x y z : ℕ} → Leadsto names x y → Leadsto names y z → Leadsto names x z
follow stop k = k
follow (go m h) k = go m (follow h k)

-- A chain leads from its start to each of its places, and from there to its end.
chain-to : {names : Names} {x z : ℕ} {l : List ℕ} → Chain names x z l → {w : ℕ} → w ∈ l → Leadsto names x w × Leadsto names w z
chain-to {names} {x} end {w} m =
    elim (Memᴰ.cases_cons m) [
      | inl e ↦ (subst (λ (y : ℕ). Leadsto names x y) (sym e) stop, subst (λ (y : ℕ). Leadsto names y x) (sym e) stop)
      | inr k ↦ absurd (Memᴰ.not-nil k)
    ]
chain-to {names} {x} {z} (on {y = y} {l = l} h r) {w} m =
    elim (Memᴰ.cases_cons m) [
      | inl e ↦ (subst (λ (y : ℕ). Leadsto names x y) (sym e) stop, subst (λ (y : ℕ). Leadsto names y z) (sym e) (go h (whole r)))
      | inr k ↦ let t = chain-to r k in (go h t.0, t.1)
    ]
  where
    whole : {y : ℕ} {k : List ℕ} → Chain names y z k → Leadsto names y z
    whole end = stop
    whole (on h r) = go h (whole r)

-- On a closed chain each place leads to each.
round : {names : Names} {x : ℕ} {l : List ℕ} → Chain names x x l → {a b : ℕ} → a ∈ l → b ∈ l → Leadsto names a b
round r m k = follow (chain-to r m).1 (chain-to r k).0

-- Leading there, as a chain.
chain-of : {names : Names} {x y : ℕ} → Leadsto names x y → (l : List ℕ) × Chain names x y l × x ∈ l × y ∈ l
chain-of {x = x} stop = (x ∷ [], end, Memᴰ.head refl, Memᴰ.head refl)
chain-of {x = x} (go m h) = let t = chain-of h in (x ∷ t.0, on m t.1, Memᴰ.head refl, Memᴰ.tail t.3)

-- Two chains, one after the other.
join-chains : {names : Names} {x y z : ℕ} {l : List ℕ} → Chain names x y l → {k : List ℕ} → Chain names y z k
    → (j : List ℕ) × Chain names x z j × ((w : ℕ) → w ∈ l → w ∈ j) × ((w : ℕ) → w ∈ k → w ∈ j)
join-chains {x = x} end {k} r =
    (k, r, (λ w m. elim (Memᴰ.cases_cons m) [ inl e ↦ start r e | inr n ↦ absurd (Memᴰ.not-nil n) ]), λ w m. m)
  where
    start : {names : Names} {x z : ℕ} {k : List ℕ} → Chain names x z k → {w : ℕ} → w ≡ x → w ∈ k
    start end e = Memᴰ.head e
    start (on m r) e = Memᴰ.head e
join-chains {x = x} (on m h) r =
    let t = join-chains h r in (
      x ∷ t.0,
      on m t.1,
      (λ w n. elim (Memᴰ.cases_cons n) [ inl e ↦ Memᴰ.head e | inr k ↦ Memᴰ.tail (t.2 w k) ]),
      λ w n. Memᴰ.tail (t.3 w n),
    )

-- A number up to 1 that is not 0 is 1.
one : (k : ℕ) → (k ≡ 0 → ⊥) → k ≤ 1 → k ≡ 1
one zero f h = absurd (f refl)
one (suc k) f h = omega arith

-- The variables that the equations of the first n name are among these.
abbrev pub Inside : ℕ → Names → Type 0
Inside n names = (x y : ℕ) → x < n → y ∈ names x → y < n

module _ (n : ℕ) (names : Names) where
  -- The rule asks for more where the set has more, and only for the first n.
  lead-rule : (y : ℕ) → Monotone n (lead_rule n names y)
  lead-rule y = record {
    more = λ s t f x e.
        and_in (and_left (ltb x n) (eqb x y || any s (names x)) e)
        (elim (or-out (eqb x y) (any s (names x)) (and_right (ltb x n) (eqb x y || any s (names x)) e)) [
          | inl h ↦ or_left (any t (names x)) h
          | inr h ↦ let q = any_out s (names x) h in or_right (eqb x y) (any-in t q.1 (f q.0 q.2))
        ]);
    inside = λ s x e. ltb-out x n (and_left (ltb x n) (eqb x y || any s (names x)) e);
  }

  -- What the test on leading finds is so, and it begins among the first n.
  pub leads-out : (x y : ℕ) → leads n names x y ≡ true → Leadsto names x y
  unfolding leads
  leads-out x y =
      smallest-ind (lead-rule y) (λ z. Leadsto names z y)
      (λ s f z e. elim (or-out (eqb z y) (any s (names z)) (and_right (ltb z n) (eqb z y || any s (names z)) e)) [
        | inl h ↦ subst (λ (w : ℕ). Leadsto names z w) (eqb-out z y h) stop
        | inr h ↦ let q = any_out s (names z) h in go q.1 (f q.0 q.2)
      ]) x

  pub leads-from : (x y : ℕ) → leads n names x y ≡ true → x < n
  unfolding leads
  leads-from x y =
      smallest-ind (lead-rule y) (λ z. z < n) (λ s f z e. (lead-rule y).inside s z e) x

  -- A variable leads to itself; to what one leads to that it names; and to what one leads to that it leads to.
  pub leads-own : (x : ℕ) → x < n → leads n names x x ≡ true
  unfolding leads
  leads-own x h =
      smallest-closed (lead-rule x) x
      (and_in (ltb-in x n h) (or_left (any (at (smallest n (lead_rule n names x))) (names x)) (eqb-in x x refl)))

  leads-step : (x y z : ℕ) → x < n → y ∈ names x → leads n names y z ≡ true → leads n names x z ≡ true
  unfolding leads
  leads-step x y z h m e =
      smallest-closed (lead-rule z) x
      (and_in (ltb-in x n h) (or_right (eqb x z) (any-in (at (smallest n (lead_rule n names z))) m e)))

  pub leads-on : (x y z : ℕ) → leads n names x y ≡ true → leads n names y z ≡ true → leads n names x z ≡ true
  unfolding leads
  leads-on x y z e f =
      smallest-ind (lead-rule y) (λ w. leads n names w z ≡ true)
      (λ s g w q. elim (or-out (eqb w y) (any s (names w)) (and_right (ltb w n) (eqb w y || any s (names w)) q)) [
        | inl h ↦ ap (λ (v : ℕ). leads n names v z) (eqb-out w y h) ∙ f
        | inr h ↦ let t = any_out s (names w) h in leads-step w t.0 z ((lead-rule y).inside s w q) t.1 (g t.0 t.2)
      ]) x e

  module _ (inside : Inside n names) where
    -- From the first n one comes to these only; the tests on leading and on one component find all that is so, and
    -- nothing else.
    leadsto-inside : {x y : ℕ} → Leadsto names x y → x < n → y < n
    leadsto-inside stop h = h
    leadsto-inside {x} (go {y = y} m r) h = leadsto-inside r (inside x y h m)

    pub leads-in : {x y : ℕ} → Leadsto names x y → x < n → leads n names x y ≡ true
    leads-in {x} stop h = leads-own x h
    leads-in {x} {y} (go {y = z} m r) h = leads-step x z y h m (leads-in r (inside x z h m))

    pub together-in : {x y : ℕ} → x < n → Leadsto names x y → Leadsto names y x → together n names x y ≡ true
    unfolding together
    together-in {x} {y} h a b = and_in (leads-in a h) (leads-in b (leadsto-inside a h))

    pub together-out : (x y : ℕ) → together n names x y ≡ true → Leadsto names x y × Leadsto names y x
    unfolding together
    together-out x y e =
        (leads-out x y (and_left (leads n names x y) (leads n names y x) e), leads-out y x (and_right (leads n names x y) (leads n names y x) e))

    -- The test on x is passed exactly where some closed chain through x holds both signs.
    pub mixed-in : (sign : ℕ → ℕ) (x : ℕ) → x < n → Mixed names sign x → mixed n names sign x ≡ true
    unfolding mixed
    mixed-in sign x h c = pick (tell true (eqb (sign x) 0))
      where
        found : (y : ℕ) → y ∈ c.chain → (sign x ≡ sign y → ⊥) → mixed n names sign x ≡ true
        found y m e =
            let a = round c.closed c.on m in
            some_in n (λ z. together n names x z && not (eqb (sign x) (sign z))) y (leadsto-inside a h)
            (and_in (together-in h a (round c.closed m c.on)) (ap not ((eqb_no (sign x) (sign y)).1 e)))

        pick : (eqb (sign x) 0 ≡ true) ⊎ (eqb (sign x) 0 ≡ false) → mixed n names sign x ≡ true
        pick (inl e) =
            let t = c.greatest in
            let k = t.2 in
            let z = eqb-out (sign x) 0 e in
            found t.0 t.1 (λ q. absurd (omega arith))
        pick (inr e) = let t = c.least in let k = t.2 in found t.0 t.1 (λ q. (eqb_no (sign x) 0).0 e (q ∙ k))

    pub mixed-out : (sign : ℕ → ℕ) → ((y : ℕ) → sign y ≤ 1) → (x : ℕ) → mixed n names sign x ≡ true → Mixed names sign x
    unfolding mixed
    mixed-out sign small x e =
        let t = some_out n (λ z. together n names x z && not (eqb (sign x) (sign z))) e in
        let y = t.0 in
        let r = together-out x y (and_left (together n names x y) (not (eqb (sign x) (sign y))) t.2) in
        let d = (eqb_no (sign x) (sign y)).0 (not-out (eqb (sign x) (sign y)) (and_right (together n names x y) (not (eqb (sign x) (sign y))) t.2)) in
        let a = chain-of r.0 in
        let b = chain-of r.1 in
        let j = join-chains a.1 b.1 in
        let u = small x in
        let w = small y in
        record {
          start = x;
          chain = j.0;
          closed = j.1;
          on = j.2 x a.2;
          least = elim (tell true (eqb (sign x) 0)) [
            | inl k ↦ (x, j.2 x a.2, eqb-out (sign x) 0 k)
            | inr k ↦ (y, j.2 y a.3, other ((eqb_no (sign x) 0).0 k) d u w)
          ];
          greatest = elim (tell true (eqb (sign x) 0)) [
            | inl k ↦ (y, j.2 y a.3, another (eqb-out (sign x) 0 k) d w)
            | inr k ↦ (x, j.2 x a.2, one (sign x) ((eqb_no (sign x) 0).0 k) u)
          ];
        }
      where
        other : {j k : ℕ} → (j ≡ 0 → ⊥) → (j ≡ k → ⊥) → j ≤ 1 → k ≤ 1 → k ≡ 0
        other {j} {k} f g h l =
            elim (tell true (eqb k 0)) [
              | inl e ↦ eqb-out k 0 e
              | inr e ↦ absurd (g (one j f h ∙ sym (one k ((eqb_no k 0).0 e) l)))
            ]

        another : {j k : ℕ} → j ≡ 0 → (j ≡ k → ⊥) → k ≤ 1 → k ≡ 1
        another {j} {k} e g l = one k (λ z. g (e ∙ sym z)) l

    -- Where the test finds some variable, the lowest is the guilty one.
    pub guilty-lowest : (sign : ℕ → ℕ) → ((y : ℕ) → sign y ≤ 1) → some_below n (mixed n names sign) ≡ true
        → Guilty n names sign (lowest n (mixed n names sign))
    guilty-lowest sign small e =
        let l = lowest-some n (mixed n names sign) e in
        record {
          below = l.below;
          on = mixed-out sign small (lowest n (mixed n names sign)) l.passes;
          first = λ y h c. l.first y (mixed-in sign y h c);
        }

    -- Where it finds none, there is no such chain.
    pub no-guilty : (sign : ℕ → ℕ) → some_below n (mixed n names sign) ≡ false → (x : ℕ) → x < n → Mixed names sign x → ⊥
    no-guilty sign e x h c = true≢false (sym (mixed-in sign x h c) ∙ some-no n (mixed n names sign) e x h)
