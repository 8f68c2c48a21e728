use Rattle.nk_wire.proofs.OneFrames.{main-read, main-framed, back-read, back-framed, up-read, up-framed}
use Rattle.nk_wire.proofs.laws.each_lane_is_read.Goals as goal

pub returns-clause-main : goal.returns-clause-main
returns-clause-main c = main-read

pub returns-clause-main_only : goal.returns-clause-main_only
returns-clause-main_only c = main-framed

pub returns-clause-back : goal.returns-clause-back
returns-clause-back c = back-read

pub returns-clause-back_only : goal.returns-clause-back_only
returns-clause-back_only c = back-framed

pub returns-clause-up : goal.returns-clause-up
returns-clause-up c = up-read

pub returns-clause-up_only : goal.returns-clause-up_only
returns-clause-up_only c = up-framed
