use Rattle.nk_lane.proofs.Messages.{messages-one}
use Rattle.nk_lane.proofs.laws.frames_grow.Goals as goal

pub returns : goal.returns
returns g c = λ frames frame m spelled. messages-one g.M.Framed.read frames frame m spelled
