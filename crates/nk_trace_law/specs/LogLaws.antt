-- The lines of journals tell them, but for what is not shown. This project's own.
use Rattle.std.specs.Prelude.{◌≡◌, true, false, List, map, All}
use Rattle.std.specs.List.{list_all, flat_map, AllZip}
use Rattle.nk_plan.specs.declared.journal.ParentEntry.{ParentEntry}
use Rattle.nk_plan.specs.declared.journal.ChildEntry.{ChildEntry}
use Rattle.nk_plan.specs.declared.ends.ChannelEnd.{ChannelEnd}
use Rattle.nk_trace.specs.Journals.{parent_line, child_line}
use Rattle.nk_trace.specs.Report.{log_lines, text}
use Rattle.nk_trace_law.specs.Shown.{parent_shown, child_shown}
use Rattle.nk_trace_law.specs.Fits.{ParentFits, ChildFits, LogFits}
use Rattle.nk_trace_law.specs.LineLaws.{saw_plain_trailers}
use Rattle.nk_trace_law.specs.PartLaws.{SeemsAs}

-- the lines of a block, or of a whole journal, tell its entries
abbrev pub ParentBlockLaw : Type 0
ParentBlockLaw = (ds es : List ParentEntry) → All ParentFits ds → All ParentFits es → flat_map parent_line ds ≡ flat_map parent_line es
    → map parent_shown ds ≡ map parent_shown es

abbrev pub ChildBlockLaw : Type 0
ChildBlockLaw = (ds es : List ChildEntry) → All ChildFits ds → All ChildFits es → flat_map child_line ds ≡ flat_map child_line es
    → map child_shown ds ≡ map child_shown es

-- what is printed of a channel's journals
pub record LogsAs (d e : ChannelEnd) : Type 0 where
  pub parent : map parent_shown d.parent ≡ map parent_shown e.parent
  pub forwarded : d.forwarded ≡ e.forwarded
  pub child : map child_shown d.child ≡ map child_shown e.child

-- the log of a channel tells that
abbrev pub LogLaw : Type 0
LogLaw = (d e : ChannelEnd) → LogFits d → LogFits e → log_lines d ≡ log_lines e → LogsAs d e

-- so does the report with the log, of each channel
abbrev pub LogReportLaw : Type 0
LogReportLaw = (ds es : List ChannelEnd) → list_all saw_plain_trailers ds ≡ true → list_all saw_plain_trailers es ≡ true
    → All LogFits ds → All LogFits es → text ds true ≡ text es true → AllZip LogsAs ds es

-- and the report without it
abbrev pub WithoutLogLaw : Type 0
WithoutLogLaw = (ds es : List ChannelEnd) → list_all saw_plain_trailers ds ≡ true → list_all saw_plain_trailers es ≡ true
    → text ds true ≡ text es true → text ds false ≡ text es false

-- it depends on no more
abbrev pub LogTextLaw : Type 0
LogTextLaw = (ds es : List ChannelEnd) → AllZip SeemsAs ds es → AllZip LogsAs ds es → text ds true ≡ text es true
