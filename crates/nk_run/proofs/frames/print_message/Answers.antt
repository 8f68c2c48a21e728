-- A message is of one of the lanes.
use Rattle.nk_run.proofs.frames.print_message.Goals as goal

pub returns-in-Main : goal.returns-in-Main
returns-in-Main c = rw c.in-Main.is c.main_message.ensures

pub returns-in-Back : goal.returns-in-Back
returns-in-Back c = rw c.in-Back.is c.back_message.ensures

pub returns-in-Up : goal.returns-in-Up
returns-in-Up c = rw c.in-Up.is c.up_message.ensures
