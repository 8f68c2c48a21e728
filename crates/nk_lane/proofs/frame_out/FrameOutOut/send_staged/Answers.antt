-- What was ready was sent behind what was sent before.
use Rattle.std.proofs.Common.{◌∙◌, ap, length, map, arith, length-append}
use Rattle.nk_lane.specs.Ends.{sent_on}
use Rattle.nk_lane.proofs.Messages.{messages-append, map-length}
use Rattle.nk_lane.specs.Spelling.{messages}
use Rattle.nk_lane.proofs.frame_out.FrameOutOut.send_staged.Goals as goal

pub returns-clause-held : goal.returns-clause-held
returns-clause-held g c =
    let staged = c.args.self.now.staged.items in
    ap (messages g.M.Framed.read) c.send_all.ensures.sent ∙ messages-append g.M.Framed.read (sent_on c.args.self.now.end) (map (λ r. r.frame) staged)

pub returns-clause-room : goal.returns-clause-room
returns-clause-room g c =
    let staged = c.args.self.now.staged.items in
    let more = ap length c.send_all.ensures.sent ∙ length-append (sent_on c.args.self.now.end) (map (λ r. r.frame) staged) in
    let as_many = map-length (λ r. r.frame) staged in
    let none = ap length c.send_all.ensures.staged in
    let same = c.send_all.ensures.same.1 in
    omega arith
