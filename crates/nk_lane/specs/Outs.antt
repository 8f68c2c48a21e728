-- What a contract sees of the places where a part sends on a lane. This project's own.
use Rattle.std.specs.Prelude.{ℕ, ◌+◌, ◌-◌, List, length, map, Option}
use Rattle.nk_base.specs.declared.message.Entry.{Entry}
use Rattle.nk_lane.specs.Ends.{sent_on, send_capacity}
use Rattle.nk_lane.specs.Spelling.{messages}
use Rattle.nk_lane.specs.declared.frame_out.FrameOut.{FrameOut}
use Rattle.nk_lane.specs.declared.entry_out.EntryOut.{EntryOut}

module _ {M : Type 0} {f : _} {r : _} where
  abbrev pub frames_held : (List ℕ → Option M) → FrameOut M f r → List M
  frames_held read o = messages read (sent_on o.end)

  abbrev pub frames_staged : (List ℕ → Option M) → FrameOut M f r → List M
  frames_staged read o = messages read (map (λ r. r.frame) o.staged.items)

  -- the capacity, less what was sent and what is staged
  abbrev pub frames_room : FrameOut M f r → ℕ
  frames_room o = send_capacity o.end - (length (sent_on o.end) + length o.staged.items)

abbrev pub entries_staged : EntryOut → List Entry
entries_staged o = o.staged.items

abbrev pub entries_room : EntryOut → ℕ
entries_room o = send_capacity o.end - (length (sent_on o.end) + length o.staged.items)
