-- The journal tells what the fields tell.
use Rattle.std.proofs.Common.{◌∙◌, sym}
use Rattle.nk_child.proofs.Ends.{ending_told}
use Rattle.nk_child.proofs.child.Child.ending.Goals as goal

pub returns : goal.returns
returns c =
    c.standing.ensures.standing
    ∙ sym (ending_told c.args.self.now.plan c.args.self.now.state c.journal_law.ensures.counts c.state_law.ensures c.standing.ensures.child)
