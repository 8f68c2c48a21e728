use Rattle.nk_wire.proofs.Runs.{are-read, are-frames}
use Rattle.nk_wire.proofs.laws.frames_are_read.Goals as goal

pub returns-clause-read : goal.returns-clause-read
returns-clause-read c = are-read

pub returns-clause-only : goal.returns-clause-only
returns-clause-only c = are-frames
