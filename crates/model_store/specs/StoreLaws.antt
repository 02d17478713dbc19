-- Storing record by record leaves the model that the reading accepts. Assumes nothing.
use Rattle.std.proofs.Math.Path.{◌≡◌, refl, sym, ap}
use Rattle.std.proofs.Common.{ap₂, ◌∙◌, subst, true≢false, append_assoc, zero-add, arith, take_at, drop_at}
use Rattle.std.proofs.Math.Logic.{inl, inr}
use Rattle.std.specs.Prelude.{Bool, true, false, cond, ◌&&◌, List, [], ◌∷◌, ◌++◌, map, ℕ, suc, ◌+◌, ◌-◌, ◌≤◌, ◌<◌, eqb, length, drop, set, replicate, Result, Ok, Err}
use Rattle.std.proofs.lemmas.List.{length-replicate, length-map}
use Rattle.std.proofs.lemmas.List.Edits.{sets, sets-eq}
use Rattle.lists.specs.Lists.{fill}
use Rattle.lists.specs.Tests.{tests, tell, and_is, and_no, leb-is, eqb_is, eqb_no, or_no}
use Rattle.rules.specs.Load.{Sofar, State, before, inside, started, put, last, sizes_demands, sizes_of, settle_style, signed_of, moves_due, read_model}
use Rattle.rules.specs.Limits.{most_variables, sizes_ok}
use Rattle.rules.specs.Model.{Model, equation_in, component_in, placed, signed, sign_ok, style_ok, move_ok, well_formed}
use Rattle.rules.specs.declared.Equation.{Equation}
use Rattle.rules.specs.Moves.{wrap}
use Rattle.words.specs.Words.{pack_of}
use Rattle.rules.specs.Records.{Parts, ends, broken, part, Turn, no, back, next, over, Outcome, refused, accepted, onto, on_turn, at_end, run, numbers_of}
use Rattle.rules.specs.Rooms.{Lengths, rooms_ok, lent_ok}
use Rattle.rules.specs.Session.{word, unword}
use Rattle.model_chains.specs.Stored.{held}
use Rattle.laws.specs.chains.Named.{names-well}
use Rattle.laws.specs.chains.Placed.{Signs, signs-out, numbered-length, numbered_is}
use Rattle.laws.specs.session.SessionHolds.{signs-unwords}
use Rattle.laws.specs.bytes.Walks.{small}
use Rattle.model_judge.specs.Beside.{plain-accepts}
use Rattle.rules.specs.declared.Record.{Record}
use Rattle.rules.specs.declared.Record.TheVariants as R
use Rattle.laws.specs.bytes.Kinds.{Other, other-kinds}
use Rattle.laws.specs.bytes.RecordLaws.{AreBytes, judged, un-onto, never}
use Rattle.laws.specs.bytes.ReadSpells.{read-spelling}
use Rattle.bytes_read.specs.PartsAt.{parts_at}
use Rattle.bytes_read.specs.Places.{record_at, Read}
use Rattle.bytes_write.specs.Written.{sets-append}
use Rattle.model_judge.specs.Plain.{plain, read_plain}
use Rattle.model_judge.specs.Progress.{sofar_of, Kept, KeptIn, moves_due_in}
use Rattle.model_judge.specs.Going.{place_of, Follows, InsideTurn, left}
use Rattle.model_judge.specs.GoingLaws.{turned-inside, nearer-on}
use Rattle.model_judge.specs.Turning.{read_on, read_says, summary, Goes, Stops, Turned, OneTurn, go}
use Rattle.model_judge.specs.declared.Summary.{Summary}
use Rattle.std.specs.declared.ops.ControlFlow.TheVariants.{Continue, Break}
use Rattle.rules.specs.declared.Refused.{Refused}
use Rattle.rules.specs.Answers.{number_of}
use Rattle.rules.specs.declared.Sizes.{Sizes}
use Rattle.model_judge.specs.RecordTurns.{Stepped, label, block, equation, move, lives, sign, stepped, first-is}
use Rattle.model_judge.specs.declared.progress.Progress.{Progress}
use Rattle.model_store.specs.Stored.{Stored, Here, Holds, Reached, NoMoves, Storing, Storable, StorableTurn, StoredWhole, put_rooms, put_turn, laid, with_components, stored_by, Spans, ReadInto}

-- One zero of a run of zeros.
pub zeros-step : (room : List ℕ) (i to : ℕ) → i < to → sets room i (replicate (to - i) 0) ≡ sets (set room i 0) (i + 1) (replicate (to - (i + 1)) 0)
zeros-step room i to h =
    let e : to - i ≡ suc (to - (i + 1)) = omega arith in
    let f : i + 1 ≡ suc i = omega arith in
    rw (e, f) refl

pub zeros-end : (room : List ℕ) (i to : ℕ) → to ≤ i → sets room i (replicate (to - i) 0) ≡ room
zeros-end room i to h = let e : to - i ≡ 0 = omega arith in rw e refl

-- One record, stored in front of what is still to come.
laid_by : (l : Lengths) (x y : Sofar) (r : Record) (m : Model) (t : Stored) → Kept x → Stepped l x r (next (inside y))
    → laid y m (put_rooms x r t) ≡ laid x (put (inside x) (numbers_of r) m) t
unfolding laid put_rooms put move_ok
laid_by l x y r m t k (label s v d) =
    let h = (leb-is x.labels s.0).0 d.1.1.0 in
    let z : List ℕ = replicate (s.0 - x.labels) 0 in
    let e : x.labels + length z ≡ s.0 = rw length-replicate (omega arith) in
    rw (append_assoc, sets-append z (v ∷ m.labels) t.labels x.labels, e) refl
laid_by l x y r m t k (block a n d) =
    let z : List ℕ = replicate (x.sizes.states - x.labels) 0 in
    let e : x.labels + length z ≡ x.sizes.states = rw length-replicate (omega arith) in
    rw (sets-append z m.labels t.labels x.labels, e) refl
laid_by l x y r m t k (equation o a b d) = refl
laid_by l x y r m t k (lives d) = refl
laid_by l x y r m t k (sign c o a b d) =
    let z : List ℕ = replicate (x.sizes.states - x.labels) 0 in
    let e : x.labels + length z ≡ x.sizes.states = rw length-replicate (omega arith) in
    rw (sets-append z m.labels t.labels x.labels, e) refl
laid_by l x y r m t k (move v d) =
    let q = simp tests at d.1.0 in
    let e : wrap (pack_of v) ≡ pack_of v = omega arith in
    rw e refl

-- Where no record goes on, nothing is left to store.
last-by : (l : Lengths) (st : State) (q : Parts) (n : Model) → Stops l st q → run (plain l) put last st q ≡ accepted n → n ≡ last st
unfolding run
last-by l st (ends p) n f e = absurd (never e)
last-by l st (broken p) n f e = absurd (never e)
last-by l st (part p r q) n f e = go (plain l st r) refl e
  where
    at : (q : Parts) → at_end (plain l) put last st q ≡ accepted n → n ≡ last st
    at (ends k) e = cc
    at (broken k) e = absurd (never e)
    at (part k r q) e = absurd (never e)

    go : (t : Turn State) → plain l st r ≡ t → on_turn (plain l) put last (λ st'. run (plain l) put last st' q) st p r q t ≡ accepted n → n ≡ last st
    go (no k) w e = absurd (never e)
    go (back k d) w e = absurd (never e)
    go (next st') w e = absurd (f p r q st' refl w)
    go over w e = at q e

-- Before the first equation no move is due.
pub no-moves-yet : (x : Progress) → KeptIn x → x.blocks.equations ≡ 0 → moves_due_in x ≡ false
no-moves-yet x k e = let some = k.some in and_no (eqb x.blocks.due 0 && eqb x.blocks.count x.sizes.blocks) ((eqb_no x.blocks.equations x.sizes.variables).1 (λ f. omega arith))

module _ (l : Lengths) (s : List ℕ) (t₀ : Stored) where
  -- After the sizes.
  here-first : (y : Progress) (n : ℕ) (r : Record) → Goes l s before 0 r y n → Here l s t₀ (sofar_of y) n t₀
  unfolding read_plain read_on run put laid plain
  here-first y n r g m e =
      let c : onto (λ (b : Model). b) (run (plain l) put last (inside (sofar_of y)) (parts_at s n)) ≡ accepted m = rw (g.stands, g.steps) at e in
      let d = un-onto (plain l) put last (λ (b : Model). b) (run (plain l) put last (inside (sofar_of y)) (parts_at s n)) m c in
      elim (judged (sizes_demands l (numbers_of r)) (next (inside (started (sizes_of (numbers_of r)))))) [
        | inl k ↦
            let w : sofar_of y ≡ started (sizes_of (numbers_of r)) = cc in
            (m, rw d.2 d.1, ap (λ (x : Sofar). laid x m t₀) w)
        | inr k ↦ let z : ◌≡◌ {A = ℕ} 0 1 = cc in absurd (omega arith)
      ]

  -- One record further.
  pub here-goes : (p y : Progress) (at n : ℕ) (r : Record) (t : Stored) → Here l s t₀ (sofar_of p) at t → KeptIn p
      → Goes l s (inside (sofar_of p)) at r y n → Here l s t₀ (sofar_of y) n (put_rooms (sofar_of p) r t)
  unfolding read_on run
  here-goes p y at n r t h k g m a =
      let b = h m a in
      let c : onto (put (inside (sofar_of p)) (numbers_of r)) (run (plain l) put last (inside (sofar_of y)) (parts_at s n)) ≡ accepted b.0 = rw (g.stands, g.steps) at b.1 in
      let d = un-onto (plain l) put last (put (inside (sofar_of p)) (numbers_of r)) _ b.0 c in
      let w = laid_by l (sofar_of p) (sofar_of y) r d.0 t k (rw g.steps at (stepped l (sofar_of p) r)) in
      (d.0, d.1, w ∙ ap (λ (v : Model). laid (sofar_of p) v t) (sym d.2) ∙ b.2)

  -- Where the reading stops.
  here-stops : (x : Sofar) (at : ℕ) (t : Stored) → Here l s t₀ x at t → Stops l (inside x) (parts_at s at)
      → StoredWhole l s t₀ t
  unfolding read_on laid last
  here-stops x at t h f m a =
      let b = h m a in
      let e = last-by l (inside x) (parts_at s at) b.0 f b.1 in
      sym (ap (λ (v : Model). laid x v t) e) ∙ b.2

  here-none : Stops l before (parts_at s 0) → StoredWhole l s t₀ t₀
  unfolding read_plain last laid
  here-none f m e = let w = last-by l before (parts_at s 0) m f e in rw w refl

  -- After the sizes no move is due.
  first-undue : (u : OneTurn) → Turned l s before 0 u → NoMoves u
  first-undue (Break a) w = tt
  first-undue (Continue h) w = no-moves-yet h.so_far w.kept (ap (λ (x : Sofar). x.blocks.equations) (first-is l (numbers_of h.last) (sofar_of h.so_far) w.steps))

  -- The first turn, which stores nothing.
  holds-first : (u : OneTurn) → Turned l s before 0 u → Holds l s t₀ u t₀
  holds-first (Break a) w = here-none w.1
  holds-first (Continue h) w = here-first h.so_far h.at h.last w

  pub storing-first : (u : OneTurn) → Turned l s before 0 u → Storing l s t₀ u t₀
  storing-first u w = record { going = (turned-inside l s before 0 u w, first-undue u w); holds = holds-first u w }

  -- A turn that follows one that goes on.
  holds_on : (r : Record) (x : Progress) (n : ℕ) (u : OneTurn) (t : Stored) → KeptIn x → Here l s t₀ (sofar_of x) n t → Turned l s (inside (sofar_of x)) n u → Holds l s t₀ u (put_turn (go r x n) u t)
  holds_on r x n (Break a) t k h w = here-stops (sofar_of x) n t h w.1
  holds_on r x n (Continue u) t k h w = here-goes x u.so_far n u.at u.last t h k w

  holds-next : (x u : OneTurn) (t : Stored) (read : Read) → Storing l s t₀ x t → (place_of x ≡ 0 → ⊥) → read ≡ record_at s (place_of x) → Follows l read x (length s) u → Holds l s t₀ u (put_turn x u t)
  holds-next (Break a) u t read g f e w = absurd (f refl)
  holds-next (Continue h) u t read g f e w = holds_on h.last h.so_far h.at u t g.going.0.kept g.holds (w s e refl)

  -- A turn that is not over has a place, and one follows it, nearer to the end.
  pub storing-next : (x u : OneTurn) (t : Stored) (read : Read) → Storing l s t₀ x t → (place_of x ≡ 0 → ⊥) → read ≡ record_at s (place_of x) → Follows l read x (length s) u
      → Reached l s t₀ u (put_turn x u t) × (left s u < left s x)
  storing-next (Break a) u t read g f e w = absurd (f refl)
  storing-next (Continue h) u t read g f e w =
      let d = w s e refl in
      (record { inside = turned-inside l s (inside (sofar_of h.so_far)) h.at u d; holds = holds-next (Continue h) u t read g f e w }, nearer-on l s h.last h.so_far h.at u d)

  -- Where it is over, the whole is stored.
  over_by : (x : OneTurn) (t : Stored) → InsideTurn s x → Holds l s t₀ x t → place_of x ≡ 0 → StoredWhole l s t₀ t
  over_by (Break a) t g h e = h
  over_by (Continue u) t g h e = let k = g.begun in absurd (omega arith)

  pub storing-over : (x : OneTurn) (t : Stored) → Storing l s t₀ x t → place_of x ≡ 0 → StoredWhole l s t₀ t
  storing-over x t g e = over_by x t g.going.0 g.holds e

-- Other records store nothing.
pub puts-nothing : (x : Sofar) (r : Record) (t : Stored) → Storable r → Other (2 ∷ 3 ∷ 4 ∷ 11 ∷ []) r → t ≡ put_rooms x r t
unfolding put_rooms
puts-nothing x r t f m =
    let o = simp or_no at (other-kinds (2 ∷ 3 ∷ 4 ∷ 11 ∷ []) r m) in rw (o.0, o.1.0, o.1.1.0, (eqb_no (numbers_of r).kind 5).1 f.0, o.1.1.1.0) refl

-- What is read where no move is due is stored by itself.
storable-by : (l : Lengths) (x y : Sofar) (r : Record) → moves_due x ≡ false → Stepped l x r (next (inside y)) → Storable r
storable-by l x y r u (label s v m) = (λ e. omega arith, λ e. absurd (omega arith))
storable-by l x y r u (block a n m) = (λ e. omega arith, λ e. absurd (omega arith))
storable-by l x y r u (equation o a b m) = (λ e. omega arith, λ e. absurd (omega arith))
storable-by l x y r u (lives m) = (λ e. omega arith, λ e. absurd (omega arith))
storable-by l x y r u (move v m) = (λ e. true≢false (sym m.0 ∙ u), λ e. absurd (omega arith))
storable-by l x y r u (sign c o a b m) = (λ e. omega arith, λ e. (leb-is c 1).0 (simp and_is at m.1.0).0)

pub storable-next : (l : Lengths) (s : List ℕ) (x : Progress) (n : ℕ) (u : OneTurn) → moves_due_in x ≡ false → Turned l s (inside (sofar_of x)) n u → StorableTurn u
storable-next l s x n (Break a) h t = tt
storable-next l s x n (Continue u) h t = storable-by l (sofar_of x) (sofar_of u.so_far) u.last h (rw t.steps at (stepped l (sofar_of x) u.last))

-- The numbers of an equation with a sign that is stored by itself fit its word.
pub sign_fits : (r : Record) (k o a b : ℕ) (e : Equation) → r ≡ R.Signed k o a b → Storable r → e ≡ signed_of k o a b → (e.block < 128) × (e.kind ≤ 1)
sign_fits r k o a b e g h f = let w : Storable (R.Signed k o a b) = rw g at h in rw f (omega arith, w.1 refl)

-- Stored from the front on, where there is room, is the room filled.
sets-fill : (new room : List ℕ) → length new ≤ length room → sets room 0 new ≡ fill new room
sets-fill new room h = sets-eq new room 0 (rw zero-add h) ∙ rw zero-add refl

-- Entries put over as many others.
fill-twice : (new old room : List ℕ) → length new ≡ length old → fill new (fill old room) ≡ fill new room
fill-twice new old room e = ap (λ (t : List ℕ). new ++ t) (drop_at old (drop (length old) room) (length new) (sym e) ∙ ap (λ (n : ℕ). drop n room) (sym e))

-- Equations with signs, stored, hold what they were, and get their components.
signs-stored : (z : Sizes) (es : List Equation) (room : List ℕ) → sizes_ok z ≡ true → Signs z (placed es) → fill (map word (placed (held z.variables (fill (map word es) room)))) (fill (map word es) room) ≡ fill (map word (placed es)) room
unfolding placed
signs-stored z es room ok g =
    let at = component_in es in
    let n : length es ≡ z.variables = sym (numbered-length at 0 es) ∙ g.count in
    let w : length (map word es) ≡ z.variables = length-map es word ∙ n in
    let own : (x : ℕ) → x < length es → sign_ok z (equation_in es x) ≡ true =
    λ x h. sym (ap (sign_ok z) (numbered_is at es x h)) ∙ g.good x (subst (λ (j : ℕ). x < j) (sym (numbered-length at 0 es)) h) in
    let back : held z.variables (fill (map word es) room) ≡ es = ap (map unword) (take_at (map word es) (drop (length (map word es)) room) z.variables w) ∙ signs-unwords z ok es own in
    ap (λ (fs : List Equation). fill (map word (placed fs)) (fill (map word es) room)) back
    ∙ fill-twice (map word (placed es)) (map word es) room (length-map (placed es) word ∙ numbered-length at 0 es ∙ sym (length-map es word))

-- A model that was accepted fits the rooms, and storing it, with its components put in, fills them.
abbrev completed : Sizes → Stored → Stored
completed z h = record { labels = h.labels; equations = with_components z h.equations; moves = h.moves }

completed-by : (n : Model) (t : Stored) → sizes_ok n.sizes ≡ true → style_ok n.sizes (settle_style n).equations ≡ true → length n.labels ≤ length t.labels
    → n.sizes.variables ≤ length t.equations → length n.moves ≤ length t.moves → completed n.sizes (laid (started n.sizes) n t) ≡ stored_by (accepted (settle_style n)) t
unfolding laid with_components style_ok placed
completed-by n t ok style hl he hm =
    let z = n.sizes in
    let es = n.equations in
    let k = length-map es word in
    elim (tell true (signed z)) [
      | inl e ↦
          let g = signs-out z (placed es) (rw e at style) in
          let c : length es ≡ z.variables = sym (numbered-length (component_in es) 0 es) ∙ g.count in
          rw (sets-fill n.labels t.labels hl, sets-fill (map word es) t.equations (omega arith), sets-fill n.moves t.moves hm, e, signs-stored z es t.equations ok g) refl
      | inr e ↦
          let g : style_ok z es ≡ true = sym (ap (λ (b : Bool). style_ok z (cond b (placed es) es)) e) ∙ style in
          let c = (names-well z es g).count in
          rw (sets-fill n.labels t.labels hl, sets-fill (map word es) t.equations (omega arith), sets-fill n.moves t.moves hm, e) refl
    ]

-- What is known of the sizes of a model that was accepted.
pub record Fitting (z : Sizes) (t : Stored) : Type 0 where
  pub few : z.variables ≤ most_variables
  pub room : z.variables ≤ length t.equations

pub accepted-fits : (s : List ℕ) (l : Lengths) (t : Stored) (m : Model) → AreBytes s → Spans l t → read_model l s ≡ accepted m → Fitting m.sizes t
unfolding well_formed rooms_ok lent_ok
accepted-fits s l t m b sp e =
    let w = read-spelling l s m b e in
    let k = simp and_is at w.0 in
    let j = simp tests at w.2 in
    let q = small m.sizes k.0.0.0.0.0 in
    let p = sp.equations in
    record { few = omega arith; room = omega arith }

pub stored-whole : (s : List ℕ) (l : Lengths) (t : Stored) (m n : Model) → AreBytes s → Spans l t → read_model l s ≡ accepted m → m ≡ settle_style n
    → completed m.sizes (laid (started n.sizes) n t) ≡ stored_by (accepted m) t
unfolding well_formed rooms_ok lent_ok
stored-whole s l t m n b sp e f =
    let w = read-spelling l s m b e in
    let v = rw f at w in
    let k = simp and_is at v.0 in
    let j = simp tests at v.2 in
    let all = (eqb_is (length n.labels) n.sizes.states).0 k.0.0.0.0.1 in
    let p = sp.labels in
    let q = sp.equations in
    let o = sp.moves in
    let few = v.3 in
    rw f (completed-by n t k.0.0.0.0.0 k.0.0.1 (omega arith) (omega arith) (omega arith))

-- A reading that refuses leaves the rooms, and one that accepts fills them.
refused-stores : (o : Outcome Model) (n p : ℕ) (t : Stored) → refused n p ≡ summary o → t ≡ stored_by o t
refused-stores (refused k q) n p t h = refl
refused-stores (accepted m) n p t h = absurd (never h)

good-stores : (o : Outcome Model) (b : Summary) (t u : Stored) → accepted b ≡ summary o → ((m : Model) → o ≡ accepted m → b.sizes ≡ m.sizes → u ≡ stored_by (accepted m) t) → u ≡ stored_by o t
good-stores (refused k q) b t u h f = absurd (never (sym h))
good-stores (accepted m) b t u h f = f m refl cc

pub read-refused : (s : List ℕ) (l : Lengths) (t : Stored) (r : Result Summary Refused) (e : Refused) → r ≡ Err e
    → read_says r ≡ summary (read_model l s) → ReadInto s l t (Err e) t
read-refused s l t r e q h =
    let w : refused (number_of e.why) e.place ≡ summary (read_model l s) = rw q at h in
    record { says = w; stores = refused-stores (read_model l s) (number_of e.why) e.place t w }

pub read-good : (s : List ℕ) (l : Lengths) (t u : Stored) (out : List ℕ) (r : Result Summary Refused) (b : Summary) → AreBytes s → Spans l t → r ≡ Ok b
    → read_says r ≡ summary (read_model l s)
    → StoredWhole l s t u → out ≡ with_components b.sizes u.equations
    → ReadInto s l t (Ok b) (record { labels = u.labels; equations = out; moves = u.moves })
read-good s l t u out r k b sp q h f c =
    let w : accepted k ≡ summary (read_model l s) = rw q at h in
    record {
      says = w;
      stores = good-stores (read_model l s) k t _ w (λ m e g.
          let d = plain-accepts l s m e in
          ap (λ (ws : List ℕ). record { labels = u.labels; equations = ws; moves = u.moves }) c
          ∙ ap₂ completed g (f d.0 d.1) ∙ stored-whole s l t m d.0 b sp e d.2);
    }

-- What a good answer tells of the sizes.
good-fits : (o : Outcome Model) (b : Summary) (t : Stored) → accepted b ≡ summary o → ((m : Model) → o ≡ accepted m → Fitting m.sizes t) → Fitting b.sizes t
good-fits (refused k q) b t h f = absurd (never (sym h))
good-fits (accepted m) b t h f = let e : b.sizes ≡ m.sizes = cc in rw e (f m refl)

pub read_fits : (s : List ℕ) (l : Lengths) (t : Stored) (r : Result Summary Refused) (b : Summary) → AreBytes s → Spans l t → r ≡ Ok b → read_says r ≡ summary (read_model l s)
    → Fitting b.sizes t
read_fits s l t r k b sp q h =
    let w : accepted k ≡ summary (read_model l s) = rw q at h in
    good-fits (read_model l s) k t w (λ m e. accepted-fits s l t m b sp e)
