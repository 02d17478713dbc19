-- The moves of a state with an action stand together in an ascending list. Assumes nothing.
use Rattle.std.specs.Prelude.{◌≡◌, ℕ, suc, ◌+◌, ◌-◌, ◌<◌, ◌≤◌, true, List, [], ◌∷◌, map, take, drop, nat_lt, refl}
use Rattle.std.proofs.Common.{ap, inl, inr, one-add, arith}
use Rattle.std.proofs.Math.Nat.{sub-zero}
use Rattle.lists.specs.Tests.{tell, and_is, and_in, leb-is, ltb-is, ltb_no, eqb_is, no_way}
use Rattle.rules.specs.Moves.{pack, source, action, target}
use Rattle.rules.specs.Model.{moves_ok}
use Rattle.rules.specs.Values.{own, targets}
use Rattle.rules.specs.declared.State.{State}
use Rattle.rules.specs.declared.Action.{Action}
use Rattle.rules.specs.declared.Sizes.{Sizes}
use Rattle.moves.specs.Ascending.{ascends, below, moves-ascend, none_below}
use Rattle.moves.specs.declared.Part.{Part}

-- Where the moves of a state with an action begin, and where they end, in an ascending list.
abbrev pub part_of : ℕ → ℕ → List ℕ → Part
part_of s a ms = record { from = below (pack s a 0) ms; end = below (pack s (a + 1) 0) ms }

-- What lies in a part of a list.
abbrev pub within : Part → List ℕ → List ℕ
within p l = take (p.end - p.from) (drop p.from l)

-- The state's moves with the action are the numbers between two keys.
own-between : (s : State) (a : Action) (q : ℕ) → a.0 < 64 → pack s.0 a.0 0 ≤ q → q < pack s.0 (a.0 + 1) 0 → own s a q ≡ true
own-between s a q h l u =
    let e : source q ≡ s.0 = omega arith in
    let f : action q ≡ a.0 = omega arith in and_in ((eqb_is _ _).1 e) ((eqb_is _ _).1 f)

-- And no others are.
own_back : (s : State) (a : Action) (q : ℕ) → own s a q ≡ true → (pack s.0 a.0 0 ≤ q) × (q < pack s.0 (a.0 + 1) 0)
own_back s a q e =
    let f = simp and_is at e in
    let g = (eqb_is (source q) s.0).0 f.0 in
    let k = (eqb_is (action q) a.0).0 f.1 in (omega arith, omega arith)

module _ (s : State) (a : Action) (low : a.0 < 64) where
  -- The two keys.
  abbrev first : ℕ
  first = pack s.0 a.0 0

  abbrev last : ℕ
  last = pack s.0 (a.0 + 1) 0

  -- Past the last there are none.
  none_after : (n : ℕ) (l : List ℕ) → ascends n l ≡ true → last ≤ n → targets s a l ≡ []
  none_after n [] h k = refl
  none_after n (q ∷ l) h k =
      let f = simp and_is at h in
      let g = (leb-is n q).0 f.0 in
      let e = no_way (own s a q) (λ y. let b = own_back s a q y in omega arith) in
      rw e (none_after (suc q) l f.1 (omega arith))

  -- From the first on, they stand in front.
  in-front : (n : ℕ) (l : List ℕ) → ascends n l ≡ true → first ≤ n → targets s a l ≡ map target (take (below last l) l)
  in-front n [] h k = refl
  in-front n (q ∷ l) h k =
      let f = simp and_is at h in
      let g = (leb-is n q).0 f.0 in
      elim (tell true (nat_lt q last)) [
        | inl t ↦
            let e = own-between s a q low (omega arith) ((ltb-is q last).0 t) in
            rw (e, t, one-add) (ap (λ (x : List ℕ). target q ∷ x) (in-front (suc q) l f.1 (omega arith)))
        | inr t ↦
            let y = (ltb_no q last).0 t in
            rw (none_after q (q ∷ l) (and_in ((leb-is q q).1 (omega arith)) f.1) y, t, none_below last (suc q) l f.1 (omega arith)) refl
      ]

  -- Where these moves go is where the moves of the part go.
  pub part-targets : (n : ℕ) (l : List ℕ) → ascends n l ≡ true → targets s a l ≡ map target (within (part_of s.0 a.0 l) l)
  part-targets n [] h = refl
  part-targets n (q ∷ l) h =
      let f = simp and_is at h in
      elim (tell true (nat_lt q first)) [
        | inl t ↦
            let x = (ltb-is q first).0 t in
            let e = no_way (own s a q) (λ y. let b = own_back s a q y in omega arith) in
            let u = (ltb-is q last).1 (omega arith) in
            let d : 1 + below last l - (1 + below first l) ≡ below last l - below first l = omega arith in
            rw (e, t, u, d, one-add) (part-targets (suc q) l f.1)
        | inr t ↦
            let y = (ltb_no q first).0 t in
            rw (none_below first q (q ∷ l) (and_in ((leb-is q q).1 (omega arith)) f.1) y, sub-zero) (in-front q (q ∷ l) (and_in ((leb-is q q).1 (omega arith)) f.1) y)
      ]

-- So it is for the moves of a model.
pub model-targets : (z : Sizes) (s : State) (a : Action) (ms : List ℕ) → a.0 < 64 → moves_ok z 0 ms ≡ true
    → targets s a ms ≡ map target (within (part_of s.0 a.0 ms) ms)
model-targets z s a ms low h = part-targets s a low 0 ms (moves-ascend z 0 ms h)
