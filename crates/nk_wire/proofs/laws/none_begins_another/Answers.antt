use Rattle.nk_wire.proofs.AnyWire.{none_begins}
use Rattle.nk_wire.proofs.Facts.{no_frame_begins}
use Rattle.nk_wire.proofs.laws.none_begins_another.Goals as goal

pub returns-clause-rests : goal.returns-clause-rests
returns-clause-rests c = none_begins

pub returns-clause-frames : goal.returns-clause-frames
returns-clause-frames c = no_frame_begins
