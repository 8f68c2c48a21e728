-- What fits the text: statuses of 32 bits, other numbers of 64 bits, bytes, and trailers that can be told from what stands
-- beside them. Every number of the program fits, and so does a good field. This project's own.
use Rattle.std.specs.Prelude.{ℕ, ◌≡◌, ◌<◌, ◌^◌, Bool, true, ◌&&◌, List, length, nat_lt, Option, Some, None, All}
use Rattle.std.specs.List.{list_all}
use Rattle.nk_base.specs.declared.status.Status.{Status}
use Rattle.nk_base.specs.declared.status.Target.{Target}
use Rattle.nk_base.specs.declared.status.Target.TheVariants as place
use Rattle.nk_base.specs.declared.status.RetargetError.{RetargetError}
use Rattle.nk_base.specs.declared.status.RetargetError.TheVariants as refusal
use Rattle.nk_base.specs.declared.message.MainMsg.{MainMsg}
use Rattle.nk_base.specs.declared.message.MainMsg.TheVariants as main
use Rattle.nk_base.specs.declared.message.BackMsg.{BackMsg}
use Rattle.nk_base.specs.declared.message.BackMsg.TheVariants as back
use Rattle.nk_base.specs.declared.message.UpMsg.{UpMsg}
use Rattle.nk_base.specs.declared.message.UpMsg.TheVariants as up
use Rattle.nk_base.specs.declared.field.Field.{Field}
use Rattle.nk_base.specs.declared.message.Entry.{Entry}
use Rattle.nk_base.specs.declared.message.Entry.TheVariants as entry
use Rattle.nk_plan.specs.declared.ends.ReaderEnd.{ReaderEnd}
use Rattle.nk_plan.specs.declared.ends.ChannelEnd.{ChannelEnd}
use Rattle.nk_plan.specs.declared.journal.ParentEntry.{ParentEntry}
use Rattle.nk_plan.specs.declared.journal.ParentEntry.TheVariants as parent
use Rattle.nk_plan.specs.declared.journal.ChildEntry.{ChildEntry}
use Rattle.nk_plan.specs.declared.journal.ChildEntry.TheVariants as child
use Rattle.nk_trace_law.specs.Lines.{is_line, is_word}

-- a number that is printed in decimal
abbrev pub NumberFits : ℕ → Type 0
NumberFits number = number < 2 ^ 64

-- bytes, each of which is printed in two hexadecimal digits
abbrev pub BytesFit : List ℕ → Type 0
BytesFit bytes = list_all (λ byte. nat_lt byte 256) bytes ≡ true

-- a status, which is printed in eight hexadecimal digits
abbrev pub StatusFits : Status → Type 0
StatusFits status = status.0 < 2 ^ 32

-- MESSAGES AND JOURNALS

abbrev pub MainFits : MainMsg → Type 0
MainFits (main.Start hop status head) = NumberFits hop × StatusFits status × NumberFits head.code × NumberFits (length head.fields)
MainFits (main.FailedOpen hop status) = NumberFits hop × StatusFits status
MainFits (main.Redirect1 hop code) = NumberFits hop × NumberFits code
MainFits (main.Redirect3 hop) = NumberFits hop

abbrev pub BackFits : BackMsg → Type 0
BackFits (back.Start hop status head) = NumberFits hop × StatusFits status × NumberFits head.code × NumberFits (length head.fields)
BackFits (back.StartSent hop) = NumberFits hop
BackFits (back.Bytes hop status offset piece) = NumberFits hop × StatusFits status × NumberFits offset × NumberFits (length piece)
BackFits (back.Stop hop status trailers) = NumberFits hop × StatusFits status × NumberFits (length trailers)

abbrev pub UpFits : UpMsg → Type 0
UpFits up.Open = Unit {0}
UpFits up.Suspend = Unit {0}
UpFits up.Resume = Unit {0}
UpFits (up.Cancel status) = StatusFits status
UpFits (up.Verify hop status) = NumberFits hop × StatusFits status
UpFits (up.BytesRead count) = NumberFits count
UpFits up.Deleting = Unit {0}

abbrev pub ParentFits : ParentEntry → Type 0
ParentFits (parent.Took message) = UpFits message
ParentFits (parent.SentMain message) = MainFits message
ParentFits (parent.SentBack message) = BackFits message

abbrev pub TargetFits : Target → Type 0
TargetFits place.Main = Unit {0}
TargetFits (place.Worker worker) = NumberFits worker
TargetFits place.Back = Unit {0}

abbrev pub RefusalFits : RetargetError → Type 0
RefusalFits refusal.NotOpened = Unit {0}
RefusalFits refusal.Stopped = Unit {0}
RefusalFits (refusal.Failed status) = StatusFits status
RefusalFits refusal.NotRetargetable = Unit {0}
RefusalFits (refusal.AlreadyRetargeted worker) = NumberFits worker

abbrev pub ChildFits : ChildEntry → Type 0
ChildFits child.Open = Unit {0}
ChildFits child.Suspend = Unit {0}
ChildFits child.Resume = Unit {0}
ChildFits (child.Cancel status) = StatusFits status
ChildFits (child.Break status) = StatusFits status
ChildFits (child.Retarget worker) = NumberFits worker
ChildFits (child.NoRetarget error) = RefusalFits error
ChildFits child.NoEffect = Unit {0}
ChildFits (child.Verdict hop status) = NumberFits hop × StatusFits status
ChildFits (child.TookMain message) = MainFits message
ChildFits (child.TookBack message) = BackFits message
ChildFits (child.Release count) = NumberFits count
ChildFits (child.RunStart target code status) = TargetFits target × NumberFits code × StatusFits status
ChildFits (child.RunBytes target offset size) = TargetFits target × NumberFits offset × NumberFits size
ChildFits (child.RunDrop target offset status) = TargetFits target × NumberFits offset × StatusFits status
ChildFits (child.RunStop target status) = TargetFits target × StatusFits status
ChildFits (child.RunRedirect1 target hop) = TargetFits target × NumberFits hop
ChildFits (child.RunRedirect3 target hop) = TargetFits target × NumberFits hop
ChildFits (child.RunCancel target status) = TargetFits target × StatusFits status
ChildFits (child.HandOver from to) = TargetFits from × TargetFits to
ChildFits (child.Ended target) = TargetFits target
ChildFits (child.Complete target) = TargetFits target
ChildFits (child.Finish target) = TargetFits target
ChildFits (child.Prepend status) = StatusFits status

pub record LogFits (end : ChannelEnd) : Type 0 where
  pub parent : All ParentFits end.parent
  pub forwarded : NumberFits end.forwarded
  pub child : All ChildFits end.child

-- WHAT WAS SEEN

-- a trailer whose name is a word, and whose value has no line feed
abbrev pub is_parted_trailer : Field → Bool
is_parted_trailer trailer = is_word trailer.name && is_line trailer.value

abbrev pub EntryFits : Entry → Type 0
EntryFits (entry.Start code status) = NumberFits code × StatusFits status
EntryFits (entry.Bytes offset piece) = NumberFits offset × BytesFit piece
EntryFits (entry.Stop status trailers) = StatusFits status × (list_all is_parted_trailer trailers ≡ true)

abbrev pub StopFits : Option Status → Type 0
StopFits None = Unit {0}
StopFits (Some status) = StatusFits status

abbrev pub ReaderFits : ReaderEnd → Type 0
ReaderFits reader = BytesFit reader.bytes × StopFits reader.status

pub record SeenFits (end : ChannelEnd) : Type 0 where
  pub trace : All EntryFits end.trace
  pub readers : All ReaderFits end.readers
