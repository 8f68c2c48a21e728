use Rattle.nk_half_laws.proofs.ChildRoom.{room}
use Rattle.nk_half_laws.proofs.capacity.child_room_law.Goals as goal

pub returns : goal.returns
returns c = room
