-- As many messages were ready as frames.
use Rattle.std.proofs.Common.{ap, length, arith}
use Rattle.nk_lane.proofs.Messages.{messages-length}
use Rattle.nk_lane.proofs.frame_out.FrameOutOut.drop_staged.Goals as goal

pub returns-clause-room : goal.returns-clause-room
returns-clause-room g c =
    let count = messages-length g.M.Framed.read (λ r. r.frame) (λ r. r.spelled) c.args.self.now.staged.items in
    let none = ap length c.clear.ensures.items in
    omega (arith, c.args.self.now.fits)
