-- The report is lines, and the lines of the journals are words. This project's own.
use Rattle.std.specs.Prelude.{ℕ, ◌+◌, ◌≡◌, ◌≢◌, length, Bool, true, ◌&&◌, List, ◌∷◌, ◌++◌}
use Rattle.std.specs.List.{list_all}
use Rattle.nk_base.specs.declared.field.Field.{Field}
use Rattle.nk_base.specs.declared.message.Entry.{Entry}
use Rattle.nk_base.specs.declared.message.Entry.TheVariants as entry
use Rattle.nk_base.specs.Fields.{are_good_fields}
use Rattle.nk_plan.specs.declared.ends.Ending.{Ending}
use Rattle.nk_plan.specs.declared.ends.Ending.TheVariants as ending
use Rattle.nk_plan.specs.declared.ends.ReaderEnd.{ReaderEnd}
use Rattle.nk_plan.specs.declared.ends.ChannelEnd.{ChannelEnd}
use Rattle.nk_plan.specs.declared.journal.ParentEntry.{ParentEntry}
use Rattle.nk_plan.specs.declared.journal.ChildEntry.{ChildEntry}
use Rattle.nk_trace.specs.Words.{line}
use Rattle.nk_trace.specs.Journals.{parent_line, forwarded_line, child_line}
use Rattle.nk_trace.specs.Report.{text, channel_line, trailer_line, entry_lines, reader_line, end_line}
use Rattle.nk_trace_law.specs.Lines.{is_line, is_word, ended, AreLines, IsLines, IsOneLine}
use Rattle.nk_trace_law.specs.Spelled.{parent_words, child_words}

-- no line feed stands in a trailer's name or value
abbrev pub is_plain_trailer : Field → Bool
is_plain_trailer trailer = is_line trailer.name && is_line trailer.value

-- nor in the trailers that an entry shows
abbrev pub has_plain_trailers : Entry → Bool
has_plain_trailers (entry.Start code status) = true
has_plain_trailers (entry.Bytes offset piece) = true
has_plain_trailers (entry.Stop status trailers) = list_all is_plain_trailer trailers

-- nor in those that a listener saw
abbrev pub saw_plain_trailers : ChannelEnd → Bool
saw_plain_trailers end = list_all has_plain_trailers end.trace

-- good fields are such trailers
abbrev pub GoodTrailersLaw : Type 0
GoodTrailersLaw = (trailers : List Field) → are_good_fields trailers ≡ true → list_all is_plain_trailer trailers ≡ true

-- the report is lines, whatever was seen, sent and taken
abbrev pub LinesLaw : Type 0
LinesLaw = (ends : List ChannelEnd) (log : Bool) → IsLines (text ends log)

-- a text is the lines of one list at most
abbrev pub OneListLaw : Type 0
OneListLaw = (text : List ℕ) (ls ms : List (List ℕ)) → AreLines text ls → AreLines text ms → ls ≡ ms

-- a text tells its first line, and what follows it
abbrev pub FirstLineLaw : Type 0
FirstLineLaw = (l m more other : List ℕ) → is_line l ≡ true → is_line m ≡ true → ended l ++ more ≡ ended m ++ other
    → (l ≡ m) × (more ≡ other)

-- lines behind lines are lines
abbrev pub JoinedLinesLaw : Type 0
JoinedLinesLaw = (s t : List ℕ) (ls ms : List (List ℕ)) → AreLines s ls → AreLines t ms → AreLines (s ++ t) (ls ++ ms)

-- each of these is one line; a trailer has to be one itself, since it is printed as it is
pub record OneLineLaws : Type 0 where
  pub channel : (number : ℕ) → IsOneLine (channel_line number)
  pub trailer : (trailer : Field) → is_plain_trailer trailer ≡ true → IsOneLine (trailer_line trailer)
  pub reader : (number : ℕ) (reader : ReaderEnd) → IsOneLine (reader_line number reader)
  pub ending : (end : Ending) → end ≢ ending.Going → IsOneLine (end_line end)
  pub parent : (entry : ParentEntry) → IsOneLine (parent_line entry)
  pub forwarded : (count : ℕ) → IsOneLine (forwarded_line count)
  pub child : (entry : ChildEntry) → IsOneLine (child_line entry)

-- how many lines an entry of a trace is
abbrev pub line_count : Entry → ℕ
line_count (entry.Start code status) = 1
line_count (entry.Bytes offset piece) = 1
line_count (entry.Stop status trailers) = length trailers + 1

abbrev pub EntryCountLaw : Type 0
EntryCountLaw = (e : Entry) → has_plain_trailers e ≡ true
    → (lines : List (List ℕ)) × AreLines (entry_lines e) lines × (length lines ≡ line_count e)

-- a line tells its words
abbrev pub OneWordsLaw : Type 0
OneWordsLaw = (v w : List ℕ) (vs ws : List (List ℕ)) → list_all is_word (v ∷ vs) ≡ true → list_all is_word (w ∷ ws) ≡ true
    → line (v ∷ vs) ≡ line (w ∷ ws) → v ∷ vs ≡ w ∷ ws

-- a line of a parent's journal is these words, with a space between each two, and neither a space nor a line feed in one
abbrev pub ParentWordsLaw : Type 0
ParentWordsLaw = (entry : ParentEntry) → (parent_line entry ≡ line (parent_words entry)) × (list_all is_word (parent_words entry) ≡ true)

-- and so is a line of a child's
abbrev pub ChildWordsLaw : Type 0
ChildWordsLaw = (entry : ChildEntry) → (child_line entry ≡ line (child_words entry)) × (list_all is_word (child_words entry) ≡ true)
