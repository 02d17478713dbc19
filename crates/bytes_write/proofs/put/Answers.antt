-- The part that is copied over, with what stands before and after it. Assumes nothing.
use Rattle.std.proofs.Common.{rules, ◌≡◌, sym, ap, ◌∙◌, ◌+◌, ◌≤◌, length, ℕ, List, ◌++◌, take, drop, append_assoc, drop-drop, arith}
use Rattle.std.proofs.lemmas.List.Edits.{sets, sets-eq}
use borrow.Rule.Slice.PartMut.{put_mid}
use Rattle.bytes_write.proofs.put.Goals as goal

-- A part of a list put in its place is a run of stores.
part-sets : (l part run : List ℕ) (at k : ℕ) → part ≡ run → k ≡ length run → at + length run ≤ length l → put_mid at k l part ≡ sets l at run
part-sets l part run at k e f h =
    ap (λ s. take at l ++ (s ++ drop k (drop at l))) e
    ∙ ap (λ s. take at l ++ (run ++ s)) (drop-drop k at l ∙ ap (λ m. drop (at + m) l) f)
    ∙ sym (append_assoc (take at l) run _)
    ∙ sym (sets-eq run l at h)

pub returns : goal.returns
returns g c =
    let a = c.args in
    let long : length a.run ≡ g.row.N = search rules in
    part-sets a.out.now _ a.run a.at _ c.copy_from_slice.ensures.after (omega arith) (omega (arith, c.requires))
