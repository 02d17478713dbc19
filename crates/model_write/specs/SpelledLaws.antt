-- Writing place by place writes the spelling. Assumes nothing.
use Rattle.std.specs.Prelude.{◌≡◌, refl, Bool, true, false, List, [], ◌∷◌, ◌++◌, map, ℕ, zero, suc, ◌+◌, ◌≤◌, ◌<◌, eqb, get_or, drop}
use Rattle.std.proofs.Common.{sym, ◌∙◌, inl, inr, append_assoc, append-nil, add-zero, zero-add, add-one, arith, drop_of_length-le, length-append, drop-cons}
use Rattle.std.proofs.Math.Path.{ap}
use Rattle.std.proofs.Math.ListN.{length, length-map, get_or-map}
use Rattle.std.proofs.lemmas.List.{drop-map}
use Rattle.std.proofs.lemmas.List.Edits.{sets-eq}
use Rattle.std.proofs.Math.Seq.{length-sets}
use Rattle.lists.specs.Lists.{fill}
use Rattle.lists.specs.Tests.{tell, eqb_is}
use Rattle.rules.specs.Model.{nothing, equation_in, run_of, signed}
use Rattle.rules.specs.declared.Equation.{Equation}
use Rattle.rules.specs.Records.{Rec, bytes, bytes_of, widths}
use Rattle.rules.specs.Session.{unword}
use Rattle.rules.specs.Spelling.{live_recs, label_recs, block_rec, equation_rec, equation_recs, signed_rec, style_recs, move_rec, move_recs, end_rec, sizes_rec, records, encode}
use Rattle.rules.specs.declared.Session.{Session}
use Rattle.bytes_write.specs.Written.{label_rec, sets-append}
use Rattle.model_write.specs.Spelled.{HasRoom, Wrote, Writing, live_bytes, one_label, label_bytes, in_block, equation_bytes, move_bytes, held_in}

-- What is left from place i on is the entry there, and what is left after it.
left-more : {A : Type 0} (l : List A) (i : ℕ) (d : A) → i < length l → drop i l ≡ get_or l i d ∷ drop (i + 1) l
left-more l i d h = rw add-one (drop-cons l i d h)

-- Two runs of bytes, one after the other.
pub wrote-more : (bs cs out mid after : List ℕ) (at k next : ℕ) → Wrote out at bs mid k → Wrote mid k cs after next → Wrote out at (bs ++ cs) after next
wrote-more bs cs out mid after at k next f g =
    let l = length-append bs cs in
    let a = f.1 in
    let b = g.1 in
    (g.0 ∙ rw (f.0, f.1) (sym (sets-append bs cs out at)), omega arith)

-- A room that holds both runs holds the first, and once that is written, the second.
room-first : (bs cs out : List ℕ) (at : ℕ) → HasRoom out at (bs ++ cs) → HasRoom out at bs
room-first bs cs out at h = let l = length-append bs cs in omega arith

room_after : (bs cs out mid : List ℕ) (at k : ℕ) → HasRoom out at (bs ++ cs) → Wrote out at bs mid k → HasRoom mid k cs
room_after bs cs out mid at k h f =
    let l = length-append bs cs in
    let a = f.1 in
    let s = ap length f.0 ∙ length-sets out at bs in
    omega arith

pub wrote_none : (out : List ℕ) (at : ℕ) → Wrote out at [] out at
wrote_none out at = (refl, sym (add-zero at))

-- A writing begins with the whole left. The next bytes fit, and once they are written the others are left; where none are left it is over.
pub writing-starts : (out : List ℕ) (start : ℕ) (whole : List ℕ) → HasRoom out start whole → Writing out start whole out start whole
writing-starts out start whole h = record { size = refl; room = h; leads = λ after next w. w }

module _ {out₀ : List ℕ} {start : ℕ} {whole out : List ℕ} {at : ℕ} {left : List ℕ} (w : Writing out₀ start whole out at left) where
  pub writing-fits : (bs cs : List ℕ) → left ≡ bs ++ cs → HasRoom out at bs
  writing-fits bs cs e = room-first bs cs out at (rw e at w.room)

  pub writing_more : (bs cs after : List ℕ) (next : ℕ) → left ≡ bs ++ cs → Wrote out at bs after next → Writing out₀ start whole after next cs
  writing_more bs cs after next e f =
      record {
        size = ap length f.0 ∙ length-sets out at bs ∙ w.size;
        room = room_after bs cs out after at next (rw e at w.room) f;
        leads = λ o k g. w.leads o k (rw e (wrote-more bs cs out after o at next k f g));
      }

  pub writing-ends : left ≡ [] → Wrote out₀ start whole out at
  writing-ends e = w.leads out at (rw e (wrote_none out at))

bytes-append : (rs ts : List Rec) → bytes_of (rs ++ ts) ≡ bytes_of rs ++ bytes_of ts
bytes-append [] ts = refl
bytes-append (r ∷ rs) ts = rw (bytes-append rs ts) (sym (append_assoc (bytes r) (bytes_of rs) (bytes_of ts)))

-- One label, and the labels after it.
pub no_label : (s v : ℕ) → v ≡ 0 → one_label s v ≡ []
no_label s v e = rw e refl

pub a-label : (s v : ℕ) → (v ≡ 0 → ⊥) → one_label s v ≡ bytes (label_rec s v)
a-label s zero h = absurd (h refl)
a-label s (suc v) h = append-nil (bytes (label_rec s (suc v)))

label-split : (s v : ℕ) (l : List ℕ) → bytes_of (label_recs s (v ∷ l)) ≡ one_label s v ++ bytes_of (label_recs (suc s) l)
label-split s zero l = refl
label-split s (suc v) l = bytes-append (label_rec s (suc v) ∷ []) (label_recs (suc s) l)

pub label-step : (l : List ℕ) (i : ℕ) → i < length l → label_bytes l i ≡ one_label i (get_or l i 0) ++ label_bytes l (i + 1)
unfolding label_bytes
label-step l i h = rw (left-more l i 0 h, add-one) (label-split i (get_or l i 0) (drop (suc i) l))

pub label-end : (l : List ℕ) (i : ℕ) → length l ≤ i → label_bytes l i ≡ []
unfolding label_bytes
label-end l i h = rw (drop_of_length-le l h) refl

pub label-length : (s v : ℕ) → length (bytes (label_rec s v)) ≡ 7
unfolding widths
label-length s v = refl

-- What put_label is found to do by.
pub ruleset label_laws = (no_label, a-label, label-length)

-- One equation, and the equations after it.
block-split : (b : ℕ) (e : Equation) (l : List Equation) → bytes_of (equation_recs b (e ∷ l)) ≡ in_block b e l ++ bytes_of (equation_recs (suc e.block) l)
unfolding in_block
block-split b e l =
    elim (tell true (eqb (suc e.block) b)) [
      | inl t ↦ let c = (eqb_is (suc e.block) b).0 t in rw (t, ← c) (bytes-append (equation_rec e ∷ []) (equation_recs (suc e.block) l))
      | inr t ↦ rw t (bytes-append (block_rec e.kind (suc (run_of (suc e.block) l)) ∷ equation_rec e ∷ []) (equation_recs (suc e.block) l))
    ]

-- Equations that words hold: one with its sign, and one in its block, and those after it.
module _ (ws : List ℕ) (i : ℕ) (e : Equation) (h : i < length ws) (d : e ≡ unword (get_or ws i 0)) where
  there : e ≡ equation_in (map unword ws) i
  there = d ∙ sym (get_or-map unword ws i 0)

  inside : i < length (map unword ws)
  inside = let long = length-map ws unword in omega arith

  pub signed-step : equation_bytes true 0 (map unword ws) i ≡ bytes (signed_rec e) ++ equation_bytes true 0 (map unword ws) (i + 1)
  unfolding equation_bytes
  signed-step = rw (left-more (map unword ws) i nothing inside, there) refl

  pub block-step : (b : ℕ)
      → equation_bytes false b (map unword ws) i ≡ in_block b e (map unword (drop (i + 1) ws)) ++ equation_bytes false (e.block + 1) (map unword ws) (i + 1)
  unfolding equation_bytes
  block-step b =
      let es = map unword ws in
      rw (left-more es i nothing inside, ← there, add-one e.block, ← (drop-map unword (i + 1) ws)) (block-split b e (drop (i + 1) es))

pub equation-end : (signs : Bool) (b : ℕ) (es : List Equation) (i : ℕ) → length es ≤ i → equation_bytes signs b es i ≡ []
unfolding equation_bytes
equation-end true b es i h = rw (drop_of_length-le es h) refl
equation-end false b es i h = rw (drop_of_length-le es h) refl

-- One move, and the moves after it.
pub move_step_lem : (l : List ℕ) (i : ℕ) → i < length l → move_bytes l i ≡ bytes (move_rec (get_or l i 0)) ++ move_bytes l (i + 1)
unfolding move_bytes
move_step_lem l i h = rw (left-more l i 0 h) refl

pub move-end : (l : List ℕ) (i : ℕ) → length l ≤ i → move_bytes l i ≡ bytes end_rec
unfolding move_bytes widths
move-end l i h = rw (drop_of_length-le l h) refl

pub end-length : (l : List ℕ) (i : ℕ) → length l ≤ i → length (move_bytes l i) ≡ 1
unfolding widths
end-length l i h = ap length (move-end l i h)

-- The spelling is the sizes, whether the model is live, the labels, the equations, and the moves with the end.
pub spelled : (s : Session) (labels equations moves : List ℕ)
    → encode (held_in s labels equations moves)
    ≡ bytes (sizes_rec s.sizes) ++ (live_bytes s.live ++ (label_bytes labels 0 ++ (equation_bytes (signed s.sizes) 0 (map unword equations) 0 ++ move_bytes moves 0)))
unfolding records live_bytes label_bytes equation_bytes move_bytes
spelled s labels equations moves =
    let vs = live_recs s.live in
    let ls = label_recs 0 labels in
    let es = style_recs s.sizes (map unword equations) in
    let ms = move_recs moves in
    ap (λ (l : List ℕ). bytes (sizes_rec s.sizes) ++ l)
    (bytes-append vs (ls ++ (es ++ ms))
    ∙ ap (λ (l : List ℕ). bytes_of vs ++ l) (bytes-append ls (es ++ ms) ∙ ap (λ (l : List ℕ). bytes_of ls ++ l) (bytes-append es ms)))

-- Bytes written from the front on, where they fit, fill the room.
pub wrote-fills : (bs out after : List ℕ) (next : ℕ) → Wrote out 0 bs after next → length bs ≤ length out → (after ≡ fill bs out) × (next ≡ length bs)
wrote-fills bs out after next w h = (w.0 ∙ sets-eq bs out 0 (omega arith) ∙ rw zero-add refl, omega arith)
