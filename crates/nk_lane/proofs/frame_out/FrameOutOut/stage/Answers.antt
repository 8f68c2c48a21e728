-- The frame that was made ready spells the message.
use Rattle.std.proofs.Common.{◌≡◌, ◌∙◌, ap, Some, ◌++◌, ◌∷◌, [], length, arith, length-append}
use Rattle.nk_lane.proofs.Messages.{messages-last}
use Rattle.nk_lane.proofs.frame_out.FrameOutOut.stage.Goals as goal

pub returns-in-Ok-clause-staged : goal.returns-in-Ok-clause-staged
returns-in-Ok-clause-staged g c =
    let items : c.push_back.new.self.items ≡ c.args.self.now.staged.items ++ c.new.result ∷ [] = c.in-Ok.ensures.items in
    let spelled : g.M.Framed.read c.new.result.frame ≡ Some c.args.m = ap g.M.Framed.read c.new.ensures ∙ c.in_ok-frame.ensures in
    messages-last g.M.Framed.read (λ r. r.frame) c.args.self.now.staged.items c.push_back.new.self.items c.new.result c.args.m items spelled

pub returns-in-Ok-clause-room : goal.returns-in-Ok-clause-room
returns-in-Ok-clause-room g c =
    let items : c.push_back.new.self.items ≡ c.args.self.now.staged.items ++ c.new.result ∷ [] = c.in-Ok.ensures.items in
    let more = ap length items ∙ length-append c.args.self.now.staged.items (c.new.result ∷ []) in
    omega (arith, c.requires.room)
