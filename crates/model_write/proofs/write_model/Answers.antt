-- The five parts of the spelling, one after the other, each in the room that the ones before it leave. Assumes nothing.
use Rattle.std.proofs.Common.{refl, List, map, ◌++◌, ℕ}
use Rattle.rules.specs.Model.{signed}
use Rattle.rules.specs.Records.{bytes, widths}
use Rattle.rules.specs.Session.{unword}
use Rattle.rules.specs.Spelling.{sizes_rec, encode}
use Rattle.rules.specs.declared.Session.{Session}
use Rattle.model_write.specs.Spelled.{HasRoom, Wrote, Writing, live_bytes, label_bytes, equation_bytes, move_bytes, held_in}
use Rattle.model_write.specs.SpelledLaws.{spelled, writing-starts, writing-fits, writing_more}
use Rattle.model_write.proofs.write_model.Goals.{After-write_equations-b}
use Rattle.model_write.proofs.write_model.Goals as goal

module _ (s : Session) (ls es ms out : List ℕ) (room : HasRoom out 0 (encode (held_in s ls es ms))) where
  -- The bytes of the parts.
  abbrev sizes_part : List ℕ
  sizes_part = bytes (sizes_rec s.sizes)

  abbrev live_part : List ℕ
  live_part = live_bytes s.live

  abbrev labels_part : List ℕ
  labels_part = label_bytes ls 0

  abbrev equations_part : List ℕ
  equations_part = equation_bytes (signed s.sizes) 0 (map unword es) 0

  abbrev moves_part : List ℕ
  moves_part = move_bytes ms 0

  -- The writing of the whole, come to a room and a place with some bytes left.
  abbrev Left : List ℕ → ℕ → List ℕ → Type 0
  Left o at left = Writing out 0 (encode (held_in s ls es ms)) o at left

  begun : Left out 0 (encode (held_in s ls es ms))
  begun = writing-starts _ _ _ room

  sizes-fit : HasRoom out 0 sizes_part
  sizes-fit = writing-fits begun sizes_part (live_part ++ (labels_part ++ (equations_part ++ moves_part))) (spelled s ls es ms)

  -- What is left after each part.
  module _ (o₁ : List ℕ) (w₁ : Wrote out 0 sizes_part o₁ 7) where
    after-sizes : Left o₁ 7 (live_part ++ (labels_part ++ (equations_part ++ moves_part)))
    after-sizes = writing_more begun sizes_part (live_part ++ (labels_part ++ (equations_part ++ moves_part))) o₁ 7 (spelled s ls es ms) w₁

    module _ (o₂ : List ℕ) (n₂ : ℕ) (w₂ : Wrote o₁ 7 live_part o₂ n₂) where
      after-live : Left o₂ n₂ (labels_part ++ (equations_part ++ moves_part))
      after-live = writing_more after-sizes live_part (labels_part ++ (equations_part ++ moves_part)) o₂ n₂ refl w₂

      module _ (o₃ : List ℕ) (n₃ : ℕ) (w₃ : Wrote o₂ n₂ labels_part o₃ n₃) where
        after-labels : Left o₃ n₃ (equations_part ++ moves_part)
        after-labels = writing_more after-live labels_part (equations_part ++ moves_part) o₃ n₃ refl w₃

        after-equations : (o₄ : List ℕ) (n₄ : ℕ) → Wrote o₃ n₃ equations_part o₄ n₄ → Left o₄ n₄ moves_part
        after-equations o₄ n₄ w₄ = writing_more after-labels equations_part moves_part o₄ n₄ refl w₄

-- What is left before the moves.
before-moves : (c : After-write_equations-b) →
    let a = c.args in
    Writing a.out.now 0 (encode (held_in a.session a.labels.now a.equations.now a.moves.now)) c.write_equations-b.new.out c.write_equations-b.result (move_bytes a.moves.now 0)
unfolding widths
before-moves c =
    let a = c.args in
    after-equations a.session a.labels.now a.equations.now a.moves.now a.out.now c.requires.has_room _ (c.write_sizes.ensures, refl) _ _ c.put_live-start.ensures _ _ c.write_labels-a.ensures _ _ c.write_equations-b.ensures

pub write_sizes-requires : goal.write_sizes-requires
unfolding widths
write_sizes-requires c = let a = c.args in sizes-fit a.session a.labels.now a.equations.now a.moves.now a.out.now c.requires.has_room

pub put_live-start-requires : goal.put_live-start-requires
unfolding widths
put_live-start-requires c =
    let a = c.args in
    writing-fits (after-sizes a.session a.labels.now a.equations.now a.moves.now a.out.now c.requires.has_room _ (c.write_sizes.ensures, refl)) _ _ refl

pub write_labels-a-requires : goal.write_labels-a-requires
unfolding widths
write_labels-a-requires c =
    let a = c.args in
    (writing-fits (after-live a.session a.labels.now a.equations.now a.moves.now a.out.now c.requires.has_room _ (c.write_sizes.ensures, refl) _ _ c.put_live-start.ensures) _ _ refl, c.requires.labels_len_bound.0)

pub write_equations-b-requires : goal.write_equations-b-requires
unfolding widths
write_equations-b-requires c =
    let a = c.args in
    (writing-fits (after-labels a.session a.labels.now a.equations.now a.moves.now a.out.now c.requires.has_room _ (c.write_sizes.ensures, refl) _ _ c.put_live-start.ensures _ _ c.write_labels-a.ensures) (equation_bytes (signed a.session.sizes) 0 (map unword a.equations.now) 0) (move_bytes a.moves.now 0) refl, c.requires.labels_len_bound.1)

pub write_moves-requires : goal.write_moves-requires
write_moves-requires c = (before-moves (goal.at.write_moves-requires c).After-write_equations-b).room

pub returns : goal.returns
returns c = (before-moves (goal.at.returns c).After-write_equations-b).leads _ _ c.write_moves.ensures
