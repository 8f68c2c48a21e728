use Rattle.nk_half_laws.proofs.ChildRoom.{ups, shown, with_left}
use Rattle.nk_half_laws.proofs.capacity.child_sends_law.Goals as goal

pub returns : goal.returns
returns c = record { sends = ups; shows = shown; left = with_left }
