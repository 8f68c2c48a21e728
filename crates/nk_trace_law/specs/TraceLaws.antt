-- The lines of a trace and of readers tell them. This project's own.
use Rattle.std.specs.Prelude.{ℕ, ◌≡◌, Bool, true, List, ◌++◌, All}
use Rattle.std.specs.List.{list_all, AllZip}
use Rattle.nk_base.specs.declared.field.Field.{Field}
use Rattle.nk_base.specs.declared.message.Entry.{Entry}
use Rattle.nk_base.specs.Fields.{are_good_fields}
use Rattle.nk_plan.specs.declared.ends.ReaderEnd.{ReaderEnd}
use Rattle.nk_plan.specs.declared.ends.ChannelEnd.{ChannelEnd}
use Rattle.nk_trace.specs.Report.{entry_lines, reader_line, text}
use Rattle.nk_trace_law.specs.Fits.{is_parted_trailer, EntryFits, ReaderFits, SeenFits}
use Rattle.nk_trace_law.specs.PartLaws.{SeemsAs}

-- good fields are trailers that fit
abbrev pub GoodPartedLaw : Type 0
GoodPartedLaw = (trailers : List Field) → are_good_fields trailers ≡ true → list_all is_parted_trailer trailers ≡ true

-- whatever follows, the lines of an entry tell the entry, and what follows them
abbrev pub EntryLinesLaw : Type 0
EntryLinesLaw = (d e : Entry) (more other : List ℕ) → EntryFits d → EntryFits e → entry_lines d ++ more ≡ entry_lines e ++ other
    → (d ≡ e) × (more ≡ other)

-- the line of a reader tells what it was given and how it stopped
abbrev pub ReaderLineLaw : Type 0
ReaderLineLaw = (m n : ℕ) (q r : ReaderEnd) → ReaderFits q → ReaderFits r → reader_line m q ≡ reader_line n r → q ≡ r

-- the report tells, with a log or without, what each listener saw, what its readers were given, and how each channel ended
abbrev pub ReportLaw : Type 0
ReportLaw = (ds es : List ChannelEnd) (here there : Bool) → All SeenFits ds → All SeenFits es → text ds here ≡ text es there
    → AllZip SeemsAs ds es
