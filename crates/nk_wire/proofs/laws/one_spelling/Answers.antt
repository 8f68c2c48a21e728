use Rattle.nk_wire.proofs.Facts.{any-spelled, any-one, any-long}
use Rattle.nk_wire.proofs.laws.one_spelling.Goals as goal

pub returns-clause-spelled : goal.returns-clause-spelled
returns-clause-spelled c = any-spelled

pub returns-clause-only : goal.returns-clause-only
returns-clause-only c = any-one

pub returns-clause-length : goal.returns-clause-length
returns-clause-length c = any-long
