-- What an update leaves in the rooms, and what a load does. Assumes nothing.
use Rattle.std.specs.Prelude.{◌≡◌, refl, true, false, ℕ, ◌+◌, ◌≤◌, ◌<◌, length, get_or, take, drop, replicate, eqb, ℤ, pos, ◌-ℤ◌}
use Rattle.std.proofs.Math.Path.{sym, ap, fun_ext}
use Rattle.std.proofs.Common.{ap₂, ◌∙◌, subst, inl, inr, arith, length-append, get_or-take, take_at, mul_comm}
use mathlib.Core.List.{List, [], ◌++◌}
use Rattle.std.proofs.Math.Decide.{dec_lt}
use Rattle.std.proofs.lemmas.List.{length-replicate}
use Rattle.std.proofs.Math.ListN.{get_or-eq_default}
use Rattle.std.proofs.Math.Seq.{drop-append_seam}
use Rattle.lists.specs.Marks.{mark_of}
use Rattle.lists.specs.Lists.{bit, listed, fill}
use Rattle.lists.specs.Sums.{bit_le, sum-ext}
use Rattle.lists.specs.Smallest.{at, table}
use Rattle.lists.specs.TableLaws.{table_at, table-past, listed-is, listed-length, listed_same, bit-back}
use Rattle.lists.specs.Tests.{tell}
use Rattle.systems.specs.solution.System as S
use Rattle.systems.specs.moving.Marks.{shift_of, settle_of}
use Rattle.systems.specs.machine.Machine.{own}
use Rattle.systems.specs.machine.LoadSolves.{load-solve}
use Rattle.rules.specs.Model.{Model, blocks_of}
use Rattle.rules.specs.Rooms.{pairs_of, index_needs}
use Rattle.rules.specs.Batch.{Change, edited}
use Rattle.rules.specs.Values.{Values, leanings, greatest_in, greatest, solve}
use Rattle.rules.specs.Update.{changed, Turned, turn_all, visits_on, trues, net_of}
use Rattle.rules.specs.Calls.{value_at, bits, marks_of}
use Rattle.laws.specs.moves.Edits.{Judged}
use Rattle.laws.specs.model.ModelSystem.{frame, block-past, Sound, pairs-full, model-fits}
use Rattle.laws.specs.chains.Named.{variable-block}
use Rattle.laws.specs.chains.OneKind.{greatest-out}
use Rattle.laws.specs.session.Accepted.{values-held}
use Rattle.laws.specs.demands.ValuesSolve.{solve-same}
use Rattle.laws.specs.model.UpdateMoves.{update-values, update-shifted, update-settled, visits-agree}
use Rattle.rules.specs.Limits.{most_moves}
use Rattle.rules.specs.declared.Sizes.{Sizes}
use Rattle.engine_index.specs.Indexed.{heads_of}
use Rattle.engine_values.specs.Starts.{part-changed, net-counted}
use Rattle.engine_values.specs.Differences.{sub_same}
use Rattle.engine_phase.specs.Started.{Started, with_moves}
use Rattle.engine_phase.specs.Levels.{Levelled}

-- The values, the marks and the visits that an update ends with, as the rule says.
pub record Follows (m : Model) (t : Turned) (values marks : List ℕ) (shift settle : ℕ) : Type 0 where
  pub values_are : values ≡ bits (pairs_of m.sizes) (at t.values)
  pub marks_are : marks ≡ marks_of (pairs_of m.sizes) t
  pub shift_is : shift ≡ visits_on m (at t.shifted)
  pub settle_is : settle ≡ visits_on m (at t.settled)

-- The update of the table with the model m by the changes cs, from the values vs, as the rule says.
abbrev pub Moved : Model → List Change → List ℕ → List ℕ → List ℕ → ℕ → ℕ → Type 0
Moved m cs vs values marks shift settle = Follows m (turn_all m cs (value_at vs)) values marks shift settle

-- The same in rooms that may be longer.
pub record MovedIn (m : Model) (cs : List Change) (values₀ marks₀ values marks : List ℕ) (shift settle level : ℕ) : Type 0 where
  pub part : List ℕ
  pub part_marks : List ℕ
  pub moved : Moved m cs (take (pairs_of m.sizes) values₀) part part_marks shift settle
  pub values_are : values ≡ part ++ drop (pairs_of m.sizes) values₀
  pub marks_are : marks ≡ part_marks ++ drop (pairs_of m.sizes) marks₀
  pub levelled : Levelled m.sizes (pairs_of m.sizes) values₀ level values

-- Old values that agree on the pairs lead to the same answer.
module _ (m : Model) (cs : List Change) (j : Judged m.moves cs) (ok : Sound m) (ok' : Sound (changed cs m)) (v w : Values)
    (same : (p : ℕ) → p < pairs_of m.sizes → v p ≡ w p) (values marks : List ℕ) (shift settle : ℕ) where
  same-table : ◌≡◌ {A = Values} (at (table (pairs_of m.sizes) v)) (at (table (pairs_of m.sizes) w))
  same-table = fun_ext (λ p. elim (dec_lt p (pairs_of m.sizes)) [
    | yes h ↦ table_at (pairs_of m.sizes) v p h ∙ same p h ∙ sym (table_at (pairs_of m.sizes) w p h)
    | no h ↦ table-past (pairs_of m.sizes) v p (omega arith) ∙ sym (table-past (pairs_of m.sizes) w p (omega arith))
  ])

  abbrev F : S.Frame
  F = frame (changed cs m)

  abbrev before : Turned
  before = turn_all (changed cs m) cs v

  abbrev after : Turned
  after = turn_all (changed cs m) cs w

  same-values : ◌≡◌ {A = Values} (at before.values) (at after.values)
  same-values =
      update-values m cs j ok ok' v ∙ ap (S.move F (leanings m) (leanings (changed cs m))) same-table ∙ sym (update-values m cs j ok ok' w)

  same-shifted : (p : ℕ) → p < pairs_of m.sizes → at before.shifted p ≡ at after.shifted p
  same-shifted p h =
      update-shifted m cs j ok ok' v p h ∙ ap (λ (u : Values). shift_of F (leanings m) (leanings (changed cs m)) u p) same-table
      ∙ sym (update-shifted m cs j ok ok' w p h)

  same-settled : (p : ℕ) → p < pairs_of m.sizes → at before.settled p ≡ at after.settled p
  same-settled p h =
      update-settled m cs j ok ok' v p h ∙ ap (λ (u : Values). settle_of F (leanings m) (leanings (changed cs m)) u p) same-table
      ∙ sym (update-settled m cs j ok ok' w p h)

  follows_same : Follows (changed cs m) before values marks shift settle → Follows (changed cs m) after values marks shift settle
  follows_same f = record {
    values_are = f.values_are ∙ ap (bits (pairs_of m.sizes)) same-values;
    marks_are =
        f.marks_are
        ∙ listed_same 0 (pairs_of m.sizes) (λ p. mark_of (at before.shifted p) (at before.settled p)) (λ p. mark_of (at after.shifted p) (at after.settled p))
        (λ p h. ap₂ mark_of (same-shifted p (omega arith)) (same-settled p (omega arith)));
    shift_is = f.shift_is ∙ visits-agree (changed cs m) ok' (at before.shifted) (at after.shifted) same-shifted;
    settle_is = f.settle_is ∙ visits-agree (changed cs m) ok' (at before.settled) (at after.settled) same-settled;
  }

-- An update of the first places of a room, by the values of the whole room.
pub moved-follows : (m : Model) (cs : List Change) (l values marks : List ℕ) (shift settle : ℕ) → Started m cs (take (pairs_of m.sizes) l)
    → Moved m cs (take (pairs_of m.sizes) l) values marks shift settle → Follows m (turn_all m cs (value_at l)) values marks shift settle
moved-follows m cs l values marks shift settle s d = subst
    (λ (x : Model). Sound x → Follows x (turn_all x cs (value_at part)) values marks shift settle → Follows x (turn_all x cs (value_at l)) values marks shift settle)
    (ap (λ (k : List ℕ). with_moves k m) s.made)
    (λ ok'. follows_same (with_moves s.old m) cs s.judged s.was_sound ok' (value_at part) (value_at l) (λ p h. ap (λ (x : ℕ). eqb x 1) (get_or-take (pairs_of m.sizes) l p 0 h)) values marks shift settle)
    s.is_sound d
  where
    part : List ℕ
    part = take (pairs_of m.sizes) l

-- With no change, everything is as at the start.
pub started_none : (m : Model) (vs : List ℕ) → Sound m → length vs ≡ pairs_of m.sizes → ((p : ℕ) → get_or vs p 0 ≤ 1) → Started m [] vs
unfolding edited
started_none m vs ok long small = record { old = m.moves; made = refl; judged = (tt, tt, tt, tt); was_sound = ok; is_sound = ok; long = long; small = small }

-- From each block's own value, with no change, the update ends in the values of the model.
module _ (m : Model) (ok : Sound m) (vs : List ℕ) (long : length vs ≡ pairs_of m.sizes) (start : (p : ℕ) → value_at vs p ≡ own (frame m) p) where
  from-own : ◌≡◌ {A = Values} (at (table (pairs_of m.sizes) (value_at vs))) (own (frame m))
  from-own = fun_ext (λ p. elim (dec_lt p (pairs_of m.sizes)) [
    | yes h ↦ table_at (pairs_of m.sizes) (value_at vs) p h ∙ start p
    | no h ↦
        table-past (pairs_of m.sizes) (value_at vs) p (omega arith) ∙ sym (ap (λ (x : ℕ). eqb x 1) (get_or-eq_default vs 0 {n = p} (omega arith))) ∙ start p
  ])

  turn-loads : (p : ℕ) → p < pairs_of m.sizes → at (turn_all m [] (value_at vs)).values p ≡ at (solve m) p
  unfolding edited
  turn-loads p h =
      ap (λ (f : Values). f p) (update-values m [] (tt, tt, tt, tt) ok ok (value_at vs))
      ∙ ap (λ (v : Values). S.move (frame m) (leanings m) (leanings m) v p) from-own
      ∙ load-solve (frame m) (leanings m) (model-fits m ok) p (pairs-full m ok p h) ∙ sym (ap (λ (f : Values). f p) (solve-same m))

  pub moved-loads : (values marks : List ℕ) (shift settle : ℕ) → Moved m [] vs values marks shift settle → values ≡ bits (pairs_of m.sizes) (at (solve m))
  moved-loads values marks shift settle d =
      d.values_are
      ∙ listed_same 0 (pairs_of m.sizes) (λ p. bit (at (turn_all m [] (value_at vs)).values p)) (λ p. bit (at (solve m) p)) (λ p h. ap bit (turn-loads p (omega arith)))

-- The first p places of a room that was cleared so far, and the places past them.
module _ (p : ℕ) (room cleared : List ℕ) (e : cleared ≡ fill (replicate p 0) room) where
  abbrev zs : List ℕ
  zs = replicate p 0

  pub cleared-part : take p cleared ≡ replicate p 0
  cleared-part = ap (take p) e ∙ take_at zs (drop (length zs) room) p (length-replicate p 0)

  pub cleared-rest : drop p cleared ≡ drop p room
  cleared-rest =
      ap (drop p) e ∙ ap (λ (k : ℕ). drop k (fill zs room)) (sym (length-replicate p 0)) ∙ drop-append_seam zs (drop (length zs) room)
      ∙ ap (λ (k : ℕ). drop k room) (length-replicate p 0)

-- As many of the first n pairs are true as of a room that is cut there, or goes on past them.
trues-cut : (n : ℕ) (l : List ℕ) → trues n (value_at (take n l)) ≡ trues n (value_at l)
trues-cut n l = sum-ext n _ _ (λ q h. ap (λ (x : ℕ). bit (eqb x 1)) (get_or-take n l q 0 h))

trues-front : (n : ℕ) (part rest : List ℕ) → length part ≡ n → trues n (value_at (part ++ rest)) ≡ trues n (value_at part)
trues-front n part rest e = sym (trues-cut n (part ++ rest)) ∙ ap (λ (l : List ℕ). trues n (value_at l)) (take_at part rest n e)

-- An update of the first places, cut out of their rooms.
pub moved_in : (m : Model) (cs : List Change) (values₀ marks₀ cleared : List ℕ) (p : ℕ) (values marks : List ℕ) (shift settle level : ℕ) → p ≡ pairs_of m.sizes
    → cleared ≡ fill (replicate p 0) marks₀ → Moved m cs (take p values₀) values marks shift settle × Levelled m.sizes (pairs_of m.sizes) (take p values₀) level values
    → MovedIn m cs values₀ marks₀ (values ++ drop p values₀) (marks ++ drop p cleared) shift settle level
moved_in m cs values₀ marks₀ cleared p values marks shift settle level is_p e (d, l) = record {
  part = values;
  part_marks = marks;
  moved = subst (λ (q : ℕ). Moved m cs (take q values₀) values marks shift settle) is_p d;
  values_are = ap (λ (q : ℕ). values ++ drop q values₀) is_p;
  marks_are = ap (λ (l : List ℕ). marks ++ l) (cleared-rest p marks₀ cleared e ∙ ap (λ (q : ℕ). drop q marks₀) is_p);
  levelled =
      let long = ap length d.values_are ∙ listed-length 0 (pairs_of m.sizes) _ in
      let one = ap (λ (q : ℕ). trues (pairs_of m.sizes) (value_at (take q values₀))) is_p ∙ trues-cut (pairs_of m.sizes) values₀ in
      let two = trues-front (pairs_of m.sizes) values (drop p values₀) long in
      omega arith;
}

-- What an update leaves in the rooms and what it reports, as the rule says.
pub record Leaves (m : Model) (t : Turned) (values₀ marks₀ values marks : List ℕ) (shift settle : ℕ) (net : ℤ) : Type 0 where
  pub values_are : values ≡ fill (bits (pairs_of m.sizes) (at t.values)) values₀
  pub marks_are : marks ≡ fill (marks_of (pairs_of m.sizes) t) marks₀
  pub shift_is : shift ≡ visits_on m (at t.shifted)
  pub settle_is : settle ≡ visits_on m (at t.settled)
  pub net_is : net ≡ net_of (pairs_of m.sizes) (value_at values₀) (at t.values)

-- The part with what lies past it is the room filled.
joined : (n : ℕ) (f : ℕ → ℕ) (part room : List ℕ) → part ≡ listed 0 n f → part ++ drop n room ≡ fill (listed 0 n f) room
joined n f part room e = part-changed n part room (ap length e ∙ listed-length 0 n f) ∙ ap (λ (l : List ℕ). fill l room) e

pub update-leaves : (m : Model) (cs : List Change) (values₀ marks₀ values marks : List ℕ) (shift settle level p : ℕ) (net : ℤ) → Started m cs (take (pairs_of m.sizes) values₀)
    → MovedIn m cs values₀ marks₀ values marks shift settle level → p ≡ pairs_of m.sizes → net ≡ pos level -ℤ pos p
    → Leaves m (turn_all m cs (value_at values₀)) values₀ marks₀ values marks shift settle net
update-leaves m cs values₀ marks₀ values marks shift settle level p net s d is_p is-net = record {
  values_are = filled;
  marks_are = d.marks_are ∙ joined N (λ p. mark_of (at t.shifted p) (at t.settled p)) d.part_marks marks₀ f.marks_are;
  shift_is = f.shift_is;
  settle_is = f.settle_is;
  net_is =
      net-counted N (value_at values₀) (at t.values) (trues N (value_at values₀)) (trues N (value_at values)) net refl
      (ap (λ (l : List ℕ). trues N (value_at l)) filled ∙ sum-ext N _ (λ q. bit (at t.values q)) (λ q h. ap bit (values-held N (at t.values) values₀ q h)))
      (is-net ∙ sub_same level p (trues N (value_at values)) (trues N (value_at values₀)) (let l = d.levelled in omega arith));
}
  where
    N : ℕ
    N = pairs_of m.sizes

    t : Turned
    t = turn_all m cs (value_at values₀)

    f : Follows m (turn_all m cs (value_at values₀)) d.part d.part_marks shift settle
    f = moved-follows m cs values₀ d.part d.part_marks shift settle s d.moved

    filled : values ≡ fill (bits (pairs_of m.sizes) (at (turn_all m cs (value_at values₀)).values)) values₀
    filled = d.values_are ∙ joined (pairs_of m.sizes) (λ p. bit (at (turn_all m cs (value_at values₀)).values p)) d.part values₀ f.values_are

-- No block lies past the last.
none-past : (m : Model) → greatest m (blocks_of m) ≡ false
unfolding greatest
none-past m = elim (tell true (greatest_in (blocks_of m) m.equations)) [
  | inl t ↦
      let g = greatest-out (blocks_of m) m.equations t in
      let h = variable-block m.equations g.0 g.1 in
      absurd (omega (arith, g.2))
  | inr t ↦ t
]

-- What is filled again holds what it is filled with.
fill-again : (n : ℕ) (new old room room₀ : List ℕ) → length new ≡ n → length old ≡ n → room ≡ fill old room₀ → fill new room ≡ fill new room₀
fill-again n new old room room₀ e f g =
    ap (λ (l : List ℕ). new ++ drop (length new) l) g
    ∙ ap (λ (k : ℕ). new ++ drop k (old ++ drop (length old) room₀)) (e ∙ sym f)
    ∙ ap (λ (l : List ℕ). new ++ l) (drop-append_seam old (drop (length old) room₀) ∙ ap (λ (k : ℕ). drop k room₀) (f ∙ sym e))

-- A load: the values start as each block's own, and end as the model's.
module _ (m : Model) (ok : Sound m) (values₀ Own-room : List ℕ) (room : pairs_of m.sizes ≤ length values₀) (is-own : Own-room ≡ fill (bits (pairs_of m.sizes) (own (frame m))) values₀) where
  abbrev N : ℕ
  N = pairs_of m.sizes

  part-is : take N Own-room ≡ bits N (own (frame m))
  part-is = ap (take N) is-own ∙ take_at (bits N (own (frame m))) (drop (length (bits N (own (frame m)))) values₀) N (listed-length 0 N (λ p. bit (own (frame m) p)))

  own_at : (p : ℕ) → get_or (take N Own-room) p 0 ≡ bit (own (frame m) p)
  own_at p = ap (λ (l : List ℕ). get_or l p 0) part-is ∙ elim (dec_lt p N) [
    | yes h ↦ listed-is N (λ p. bit (own (frame m) p)) p h
    | no h ↦
        get_or-eq_default (bits N (own (frame m))) 0 (let l = listed-length 0 N (λ p. bit (own (frame m) p)) in omega arith)
        ∙ sym (ap bit (ap (greatest m) (block-past m p (omega arith)) ∙ none-past m))
  ]

  pub load-starts : Started m [] (take N Own-room)
  load-starts = started_none m (take N Own-room) ok (ap length part-is ∙ listed-length 0 N (λ p. bit (own (frame m) p))) (λ p. let e = own_at p in let h = bit_le (own (frame m) p) in omega arith)

  pub load-leaves : (marks₀ values marks : List ℕ) (shift settle level : ℕ) → MovedIn m [] Own-room marks₀ values marks shift settle level → values ≡ fill (bits N (at (solve m))) values₀
  load-leaves marks₀ values marks shift settle level d =
      d.values_are
      ∙ joined N (λ p. bit (at (solve m) p)) d.part Own-room
      (moved-loads m ok (take N Own-room) load-starts.long (λ p. ap (λ (x : ℕ). eqb x 1) (own_at p) ∙ bit-back (own (frame m) p)) d.part d.part_marks shift settle d.moved)
      ∙ fill-again N (bits N (at (solve m))) (bits N (own (frame m))) Own-room values₀ (listed-length 0 N (λ p. bit (at (solve m) p)))
      (listed-length 0 N (λ p. bit (own (frame m) p))) is-own

  -- The marks that the machine left are cleared.
  pub load-clears : (marks₀ values marks cleared : List ℕ) (shift settle level p : ℕ) → MovedIn m [] Own-room marks₀ values marks shift settle level → p ≡ N
      → cleared ≡ fill (replicate p 0) marks → cleared ≡ fill (replicate N 0) marks₀
  load-clears marks₀ values marks cleared shift settle level p d is_p e =
      e ∙ ap (λ (q : ℕ). fill (replicate q 0) marks) is_p
      ∙ fill-again N (replicate N 0) d.part_marks marks marks₀ (length-replicate N 0) long (d.marks_are ∙ part-changed N d.part_marks marks₀ long)
    where
      long : length d.part_marks ≡ pairs_of m.sizes
      long = ap length d.moved.marks_are ∙ listed-length 0 (pairs_of m.sizes) _

-- A room in which a part was changed, cleared so far.
pub fill-over : (n : ℕ) (room part : List ℕ) → length part ≡ n → fill (replicate n 0) (part ++ drop n room) ≡ fill (replicate n 0) room
fill-over n room part l = fill-again n (replicate n 0) part (part ++ drop n room) room (length-replicate n 0) l (part-changed n part room l)

-- Such a room is as long as the part at least.
pub joined-long : (n : ℕ) (part room : List ℕ) → length part ≡ n → n ≤ length (part ++ drop n room)
joined-long n part room l = let e = length-append part (drop n room) in omega arith

-- A room that was cleared, worked in as far as it was cut, and cleared again so far.
pub cleared-again : (n : ℕ) (room cleared part again : List ℕ) → cleared ≡ fill (replicate n 0) room → length part ≡ n → again ≡ fill (replicate n 0) (part ++ drop n cleared)
    → again ≡ fill (replicate n 0) room
cleared-again n room cleared part again e l f =
    f ∙ fill-over n cleared part l
    ∙ fill-again n (replicate n 0) (replicate n 0) cleared room (length-replicate n 0) (length-replicate n 0) e

-- The index has a head for each action and target, and a link for each move.
pub links-fit : (z : Sizes) (room n : ℕ) → n ≤ room → n ≤ most_moves → heads_of z + n ≤ index_needs z room
links-fit z room n h k = let e = mul_comm z.actions z.states in omega arith
