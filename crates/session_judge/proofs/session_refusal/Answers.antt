-- Where the rest is asked, counts and rooms are known to fit. Assumes nothing.
use Rattle.std.proofs.Common.{ap, ◌∙◌, Bool, ◌&&◌}
use Rattle.std.specs.Prelude.{not}
use Rattle.rules.specs.Rooms.{Lengths, rooms_ok}
use Rattle.session_check.specs.Lodged.{rooms_in}
use Rattle.lists.specs.Tests.{passed}
use Rattle.session_judge.specs.Checks.{check-fits}
use Rattle.session_judge.proofs.session_refusal.Goals as goal

pub rest_ok-requires : goal.rest_ok-requires
rest_ok-requires c = let a = c.args in
    let long = c.rooms_ok.ensures ∙ ap (λ (n : Lengths). rooms_ok n a.session.sizes) c.lengths_of.ensures in
    check-fits a.work a.session (rooms_in a.rooms.now) (passed c.counts_ok.ensures (ap not c.if-not-counts_ok.false)) (passed (ap (λ (b : Bool). b && a.work) long) (ap not c.if-not-rooms_ok-work.false))
