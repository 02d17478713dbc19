-- The whole run: the model's part, and then the batches. Assumes nothing.
use Rattle.std.proofs.Common.{arith, ◌*◌, ◌+◌, ◌≤◌}
use Rattle.laws.specs.bytes.RecordLaws.{are-bytes}
use Rattle.program_cut.specs.CutLaws.{cut_most}
use Rattle.program.specs.Steps.{rooms_in}
use Rattle.program.specs.Whole.{short-load, refused-run, accepted-run}
use Rattle.program.proofs.print_all.Goals.{After-put_load}
use Rattle.program.proofs.print_all.Goals as goal

-- The line of the load has at most 16 bytes and 16 for each byte of the model's part.
load_line : (c : After-put_load) → c.put_load.new.pen.at ≤ 16 + 16 * c.first_part.result
load_line c =
    short-load (rooms_in c.args.rooms.now) c.args.input.now (are-bytes c.args.input.now (λ i. omega (arith, c.type_inv.input i))) _ c.first_part.ensures _ c.split_at.ensures.front c.load-said.result _ c.load-said.ensures c.args.pen.now _ c.requires.1 c.put_load.ensures.0 c.put_load.ensures.1

pub split_at-requires : goal.split_at-requires
split_at-requires c = rw c.first_part.ensures (cut_most c.args.input.now)

pub put_load-requires : goal.put_load-requires
put_load-requires c = omega (arith, c.requires.1)

pub print_batches-requires : goal.print_batches-requires
print_batches-requires c = omega (arith, load_line (goal.at.print_batches-requires c).After-put_load, c.split_at.ensures.back_len, c.requires.0)

pub returns-in-Ok : goal.returns-in-Ok
returns-in-Ok c = let batches = c.print_batches.ensures in (
  accepted-run (rooms_in c.args.rooms.now) c.args.input.now (are-bytes c.args.input.now (λ i. omega (arith, c.type_inv.input i))) _ c.first_part.ensures _ c.split_at.ensures.front c.load-said.result _ c.load-said.ensures c.args.pen.now _ c.requires.1 c.put_load.ensures.0 c.put_load.ensures.1 c.in-Ok.session c.in-Ok.is _ (rw c.split_at.ensures.back at batches.0),
  omega (arith, batches.1, load_line (goal.at.returns-in-Ok c).After-put_load, c.split_at.ensures.back_len),
)

pub returns-in_default : goal.returns-in_default
returns-in_default c = let most = cut_most c.args.input.now in
    let cuts = c.first_part.ensures in (
      refused-run (rooms_in c.args.rooms.now) c.args.input.now (are-bytes c.args.input.now (λ i. omega (arith, c.type_inv.input i))) _ c.first_part.ensures _ c.split_at.ensures.front c.load-said.result _ c.load-said.ensures c.args.pen.now _ c.requires.1 c.put_load.ensures.0 c.put_load.ensures.1 c.in_default.field-0 c.in_default.is,
      omega (arith, load_line (goal.at.returns-in_default c).After-put_load, cuts, most),
    )
