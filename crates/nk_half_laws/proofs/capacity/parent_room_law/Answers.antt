use Rattle.nk_half_laws.proofs.ParentRoom.{room, half_room}
use Rattle.nk_half_laws.proofs.capacity.parent_room_law.Goals as goal

pub returns : goal.returns
returns c = record { parent = room; half = half_room }
