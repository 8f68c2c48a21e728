-- The report is the parts of its channels, and shows nothing more of them without the log. This project's own.
use Rattle.std.specs.Prelude.{ℕ, ◌+◌, ◌≡◌, Bool, true, false, not, List, [], ◌∷◌, ◌++◌}
use Rattle.std.specs.List.{list_all, flat_map, AllZip, concat}
use Rattle.nk_plan.specs.declared.ends.ChannelEnd.{ChannelEnd}
use Rattle.nk_trace.specs.Report.{text, channel_line, channel_text}
use Rattle.nk_trace_law.specs.Lines.{ended, is_line, is_channel_line}
use Rattle.nk_trace_law.specs.LineLaws.{saw_plain_trailers}

-- the parts of channels, the first of which has this number
abbrev pub parts : Bool → ℕ → List ChannelEnd → List (List ℕ)
parts log number [] = []
parts log number (end ∷ ends) = channel_text log number end ∷ parts log (number + 1) ends

-- the report is the parts of its channels, one behind the other
abbrev pub JoinedLaw : Type 0
JoinedLaw = (ends : List ChannelEnd) (log : Bool) → text ends log ≡ concat (parts log 1 ends)

-- a part is the line of its channel, and lines that do not begin with the word `channel`
abbrev pub BeginsLaw : Type 0
BeginsLaw = (log : Bool) (number : ℕ) (end : ChannelEnd) → saw_plain_trailers end ≡ true
    → (lines : List (List ℕ)) × (channel_text log number end ≡ channel_line number ++ flat_map ended lines)
    × (list_all is_line lines ≡ true) × (list_all (λ line. not (is_channel_line line)) lines ≡ true)

-- so equal reports have equal parts, with a log or without
abbrev pub PartsLaw : Type 0
PartsLaw = (ds es : List ChannelEnd) (here there : Bool) → list_all saw_plain_trailers ds ≡ true → list_all saw_plain_trailers es ≡ true
    → text ds here ≡ text es there → parts here 1 ds ≡ parts there 1 es

-- what is printed of a channel without the log
pub record SeemsAs (d e : ChannelEnd) : Type 0 where
  pub trace : d.trace ≡ e.trace
  pub readers : d.readers ≡ e.readers
  pub ending : d.ending ≡ e.ending

-- the report without the log depends on no more
abbrev pub PlainTextLaw : Type 0
PlainTextLaw = (ds es : List ChannelEnd) → AllZip SeemsAs ds es → text ds false ≡ text es false
