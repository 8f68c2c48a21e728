-- How a listener stands for the model. No public clause cites this module.
use Rattle.std.specs.Prelude.{◌≡◌, ◌*◌, ◌≤◌, ◌^◌, List, [], length, Option, Some, None}
use Rattle.nk_base.specs.declared.message.Entry.{Entry}
use Rattle.nk_plan.specs.declared.plan.ListenerKind.{ListenerKind}
use Rattle.nk_plan.specs.declared.ends.ReaderEnd.{ReaderEnd}
use Rattle.nk_sink.specs.declared.feed.Feed.{Feed}
use Rattle.nk_sink.specs.Listener.{Piped, Listener, ends_by}
use Rattle.nk_plan.specs.Readers.{body_of, stop_of}
use Rattle.nk_sink.specs.Reached.{OfPiped, IsReached}
use Rattle.nk_sink.specs.Held.{IsPiped}
use Rattle.nk_sink.specs.Fed.{piped_with, IsAt}

abbrev pub piped_in : List Entry → Option Feed → Option Piped
piped_in es None = None
piped_in es (Some f) = Some (piped_with es f.writer.pipe f.pumps.items)

abbrev pub listener_of : ListenerKind → List Entry → Option Feed → Listener
listener_of k es f = record { kind = k; entries = es; piped = piped_in es f }

-- what the pumps of a pipe have shown
abbrev pub ends_in : Option Feed → List ReaderEnd
ends_in None = []
ends_in (Some f) = ends_by f.pumps.items

-- the entries are in the pipe as far as it says, and a read takes one segment
pub record IsFed (es : List Entry) (f : Feed) : Type 0 where
  pub at : IsAt es f.writer.pipe f.writer.place f.writer.offset
  pub buffer : length f.buffer.items ≡ f.writer.pipe.segment
  pub short : length f.buffer.items ≤ 65536

abbrev pub IsFedIn : List Entry → Option Feed → Type 0
IsFedIn es None = Unit {0}
IsFedIn es (Some f) = IsFed es f

-- the pipe is as it has to be
abbrev pub IsPipedIn : List Entry → Option Piped → Type 0
IsPipedIn es o = OfPiped (IsPiped (body_of es) (stop_of es)) o

-- a listener that has not failed
pub record IsListening (k : ListenerKind) (es : List Entry) (f : Option Feed) : Type 0 where
  pub reached : IsReached (listener_of k es f)
  pub fed : IsFedIn es f
  pub few : length es ≤ 2 ^ 32
  pub bounded : length (body_of es) ≤ 131072 * length es
