use Rattle.nk_half_laws.proofs.RangeJournals.{in_range, taken_in_range}
use Rattle.nk_half_laws.proofs.ranges.child_range_law.Goals as goal

pub returns : goal.returns
returns c = record { steps = in_range; journal = taken_in_range }
