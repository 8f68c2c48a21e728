-- Messages in range fit the text. This project's own.
use Rattle.nk_base.specs.declared.message.MainMsg.{MainMsg}
use Rattle.nk_base.specs.declared.message.MainMsg.TheVariants as main
use Rattle.nk_base.specs.declared.message.BackMsg.{BackMsg}
use Rattle.nk_base.specs.declared.message.BackMsg.TheVariants as back
use Rattle.nk_base.specs.declared.message.UpMsg.{UpMsg}
use Rattle.nk_base.specs.declared.message.UpMsg.TheVariants as up
use Rattle.nk_base.specs.Ranges.{IsMainInRange, IsBackInRange, IsUpInRange}
use Rattle.nk_trace_law.specs.Fits.{NumberFits, StatusFits, MainFits, BackFits, UpFits}

-- the message's status fits, if it has one: a legal status may be of any size
abbrev pub MainStatusFits : MainMsg → Type 0
MainStatusFits (main.Start hop status head) = StatusFits status
MainStatusFits (main.FailedOpen hop status) = StatusFits status
MainStatusFits (main.Redirect1 hop code) = Unit {0}
MainStatusFits (main.Redirect3 hop) = Unit {0}

-- so does its offset, which may be any, too
abbrev pub BackStatusFits : BackMsg → Type 0
BackStatusFits (back.Start hop status head) = StatusFits status
BackStatusFits (back.StartSent hop) = Unit {0}
BackStatusFits (back.Bytes hop status offset piece) = StatusFits status × NumberFits offset
BackStatusFits (back.Stop hop status trailers) = StatusFits status

abbrev pub UpStatusFits : UpMsg → Type 0
UpStatusFits up.Open = Unit {0}
UpStatusFits up.Suspend = Unit {0}
UpStatusFits up.Resume = Unit {0}
UpStatusFits (up.Cancel status) = StatusFits status
UpStatusFits (up.Verify hop status) = StatusFits status
UpStatusFits (up.BytesRead count) = Unit {0}
UpStatusFits up.Deleting = Unit {0}

-- a message in range fits where these do
abbrev pub MainRangeLaw : Type 0
MainRangeLaw = (m : MainMsg) → IsMainInRange m → MainStatusFits m → MainFits m

abbrev pub BackRangeLaw : Type 0
BackRangeLaw = (m : BackMsg) → IsBackInRange m → BackStatusFits m → BackFits m

abbrev pub UpRangeLaw : Type 0
UpRangeLaw = (m : UpMsg) → IsUpInRange m → UpStatusFits m → UpFits m
