-- What the type of a child's book keeps, and its value. No public clause cites this module.
use Rattle.std.specs.Prelude.{◌≡◌, ◌+◌, ◌≤◌, [], length}
use Rattle.nk_wire.specs.OneFrame.{main_of_frame, back_of_frame, up_of_frame}
use Rattle.nk_lane.specs.Ends.{taken_from, left_known, take_capacity, sent_on}
use Rattle.nk_lane.specs.Spelling.{messages}
use Rattle.nk_lane.specs.Outs.{frames_staged, frames_room, entries_staged, entries_room}
use Rattle.nk_plan.specs.Accepted.{Accepted}
use Rattle.nk_plan.specs.Capacity.{main_capacity, back_capacity, up_capacity, delivery_capacity}
use Rattle.nk_plan.specs.Journal.{mains_taken, backs_taken}
use Rattle.nk_plan.specs.Run.{IsChildState}
use Rattle.nk_cell.specs.Books.{BookState}
use Rattle.nk_cell.specs.declared.book.ChildBook.TheInside.{Inside}

abbrev pub book_of : Inside → BookState
book_of b = record {
  number = b.number;
  child = b.child;
  main_taken = messages main_of_frame (taken_from b.main);
  main_left = messages main_of_frame (left_known b.main);
  back_taken = messages back_of_frame (taken_from b.back);
  back_left = messages back_of_frame (left_known b.back);
  up_sent = messages up_of_frame (sent_on b.up.end);
  delivered = sent_on b.delivery.end;
}

-- what the journal took was taken, frame by frame, and what the child sent and showed was sent and delivered; and the rings
-- have the capacities for the plan, that of a sending end told as what was sent and its room
pub record Agrees (b : Inside) : Type 0 where
  pub accepted : Accepted b.child.plan
  pub run : IsChildState b.child.plan b.child.state
  pub mains : messages main_of_frame (taken_from b.main) ≡ mains_taken b.child.state.journal
  pub backs : messages back_of_frame (taken_from b.back) ≡ backs_taken b.child.state.journal
  pub mains_count : length (taken_from b.main) ≡ length (mains_taken b.child.state.journal)
  pub backs_count : length (taken_from b.back) ≡ length (backs_taken b.child.state.journal)
  pub sends : messages up_of_frame (sent_on b.up.end) ≡ b.child.state.sent
  pub trace : sent_on b.delivery.end ≡ b.child.state.trace
  pub main_capacity_is : take_capacity b.main ≡ main_capacity b.child.plan
  pub back_capacity_is : take_capacity b.back ≡ back_capacity b.child.plan
  pub up_capacity_is : length b.child.state.sent + frames_room b.up ≡ up_capacity b.child.plan
  pub delivery_capacity_is : length b.child.state.trace + entries_room b.delivery ≡ delivery_capacity b.child.plan
  pub up_staged : frames_staged up_of_frame b.up ≡ []
  pub delivery_staged : entries_staged b.delivery ≡ []

-- so the next step has its room, whatever message it takes
pub record BookOk (b : Inside) : Type 0 where
  pub agrees : Agrees b
  pub up_room : 4 ≤ frames_room b.up
  pub delivery_room : 1 ≤ entries_room b.delivery
