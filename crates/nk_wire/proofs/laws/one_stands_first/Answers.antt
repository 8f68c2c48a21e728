use Rattle.nk_wire.proofs.FirstLaws.{first-is, first-only}
use Rattle.nk_wire.proofs.laws.one_stands_first.Goals as goal

pub returns-clause-is : goal.returns-clause-is
returns-clause-is c = first-is

pub returns-clause-only : goal.returns-clause-only
returns-clause-only c = first-only
