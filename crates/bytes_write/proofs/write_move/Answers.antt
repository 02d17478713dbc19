-- The bytes of the source, the action and the target, each told apart. Assumes nothing.
use Rattle.std.proofs.Common.{◌≡◌, refl, ◌∙◌, ap, ℕ, [], ◌∷◌, ◌/◌, ◌%◌, arith}
use Rattle.rules.specs.Moves.{source, action, target}
use Rattle.rules.specs.Records.{widths}
use Rattle.bytes_write.proofs.write_move.Goals as goal

pub returns : goal.returns
unfolding widths
returns c =
    let q = c.args.q in
    let m = c.unpacked-m in
    let from : c.to_le_bytes.result ≡ source q % 256 ∷ source q / 256 % 256 ∷ [] = c.to_le_bytes.ensures ∙ ap (λ (t : ℕ). t % 256 ∷ t / 256 % 256 ∷ []) m.ensures.0 in
    let by : m.result.action.0 ≡ action q % 256 = omega arith in
    let to : c.to_le_bytes-2.result ≡ target q % 256 ∷ target q / 256 % 256 ∷ [] = c.to_le_bytes-2.ensures ∙ ap (λ (t : ℕ). t % 256 ∷ t / 256 % 256 ∷ []) m.ensures.1.1 in
    c.put.ensures ∙ rw (from, by, to) refl
