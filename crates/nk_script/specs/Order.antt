-- In which order the lines of a script stand (this project's own).
use Rattle.std.specs.Prelude.{◌≡◌, true, false, Bool, ℕ, List, codes}
use Rattle.nk_plan.specs.declared.plan.Finish.TheVariants as finish
use Rattle.nk_script.specs.declared.line.HopLine.TheVariants as hop
use Rattle.nk_script.specs.declared.line.Line.{Line}
use Rattle.nk_script.specs.declared.line.Line.TheVariants as line
use Rattle.nk_script.specs.declared.line.Keyword.{Keyword}
use Rattle.nk_script.specs.declared.line.Keyword.TheVariants as key
use Rattle.nk_script.specs.declared.line.Place.{Place}
use Rattle.nk_script.specs.declared.line.Place.TheVariants as place
use Rattle.nk_script.specs.Numbers.{IsCount}
use Rattle.nk_script.specs.Texts.{first_word}

-- the word that a keyword stands for
abbrev pub IsKeyword : List ℕ → Keyword → Type 0
IsKeyword word key.Script = word ≡ codes "script"
IsKeyword word key.Channel = word ≡ codes "channel"
IsKeyword word key.Hop = word ≡ codes "hop"
IsKeyword word key.Field = word ≡ codes "field"
IsKeyword word key.Piece = word ≡ codes "piece"
IsKeyword word key.Hex = word ≡ codes "hex"
IsKeyword word key.Fill = word ≡ codes "fill"
IsKeyword word key.End = word ≡ codes "end"
IsKeyword word key.Trailer = word ≡ codes "trailer"
IsKeyword word key.Listener = word ≡ codes "listener"
IsKeyword word key.Retargetable = word ≡ codes "retargetable"
IsKeyword word key.Window = word ≡ codes "window"
IsKeyword word key.Start = word ≡ codes "start"
IsKeyword word key.Closed = word ≡ codes "closed"
IsKeyword word key.At = word ≡ codes "at"
IsKeyword word key.When = word ≡ codes "when"
IsKeyword word key.Schedule = word ≡ codes "schedule"
IsKeyword word key.Number = IsCount word

-- behind a channel's controls
abbrev pub ends : Keyword → Bool
ends key.Channel = true
ends key.Schedule = true
ends _ = false

-- from the place of the controls on
abbrev pub from_control : Keyword → Bool
from_control key.When = true
from_control k = ends k

-- from the place of the reactions on; a closed channel has no controls
abbrev pub from_reaction : Keyword → Bool
from_reaction key.At = true
from_reaction k = from_control k

abbrev pub from_closed_reaction : Keyword → Bool
from_closed_reaction key.At = true
from_closed_reaction k = ends k

-- from the place of each option on
abbrev pub from_closed : Keyword → Bool
from_closed key.Closed = true
from_closed k = from_reaction k

abbrev pub from_start_lane : Keyword → Bool
from_start_lane key.Start = true
from_start_lane k = from_closed k

abbrev pub from_window : Keyword → Bool
from_window key.Window = true
from_window k = from_start_lane k

abbrev pub from_retargetable : Keyword → Bool
from_retargetable key.Retargetable = true
from_retargetable k = from_window k

abbrev pub from_listener : Keyword → Bool
from_listener key.Listener = true
from_listener k = from_retargetable k

abbrev pub from_trailer : Keyword → Bool
from_trailer key.Trailer = true
from_trailer k = from_listener k

-- behind the fields of a response
abbrev pub from_piece : Keyword → Bool
from_piece key.Piece = true
from_piece key.Hex = true
from_piece key.Fill = true
from_piece key.End = true
from_piece _ = false

abbrev pub from_field : Keyword → Bool
from_field key.Field = true
from_field k = from_piece k

abbrev pub is_script : Keyword → Bool
is_script key.Script = true
is_script _ = false

abbrev pub is_channel : Keyword → Bool
is_channel key.Channel = true
is_channel _ = false

abbrev pub is_hop : Keyword → Bool
is_hop key.Hop = true
is_hop _ = false

abbrev pub is_number : Keyword → Bool
is_number key.Number = true
is_number _ = false

-- whether a line that begins so may stand at a place
abbrev pub allows : Place → Keyword → Bool
allows place.Start k = is_script k
allows place.Channels k = is_channel k
allows place.Hop k = is_hop k
allows place.Fields k = from_field k
allows place.Pieces k = from_piece k
allows place.Trailers k = from_trailer k
allows place.Listener k = from_listener k
allows place.Retargetable k = from_retargetable k
allows place.Window k = from_window k
allows place.StartLane k = from_start_lane k
allows place.Closed k = from_closed k
allows place.Reactions k = from_reaction k
allows place.ClosedReactions k = from_closed_reaction k
allows place.Controls k = from_control k
allows place.Steps k = is_number k

-- whether a script may end at a place: where a channel or `schedule` may come, and among the steps
abbrev pub may_end : Place → Bool
may_end place.Start = false
may_end place.Channels = false
may_end place.Hop = false
may_end place.Fields = false
may_end place.Pieces = false
may_end place.Trailers = true
may_end place.Listener = true
may_end place.Retargetable = true
may_end place.Window = true
may_end place.StartLane = true
may_end place.Closed = true
may_end place.Reactions = true
may_end place.ClosedReactions = true
may_end place.Controls = true
may_end place.Steps = true

-- a reaction leaves a closed channel closed
abbrev pub behind_reaction : Place → Place
behind_reaction place.ClosedReactions = place.ClosedReactions
behind_reaction _ = place.Reactions

-- the place behind a line
abbrev pub behind : Place → Line → Place
behind p line.Script = place.Channels
behind p line.Channel = place.Hop
behind p (line.Hop (hop.Fail s)) = place.Listener
behind p (line.Hop (hop.Redirect code own)) = place.Hop
behind p (line.Hop (hop.Response code)) = place.Fields
behind p (line.Field f) = place.Fields
behind p (line.Piece bytes) = place.Pieces
behind p (line.End finish.Good) = place.Trailers
behind p (line.End (finish.Fail s)) = place.Listener
behind p (line.Trailer f) = place.Trailers
behind p (line.Listener kind) = place.Retargetable
behind p line.NotRetargetable = place.Window
behind p (line.Window n) = place.StartLane
behind p line.StartBack = place.Closed
behind p line.Closed = place.ClosedReactions
behind p (line.Reaction r) = behind_reaction p
behind p (line.Control c) = place.Controls
behind p line.Schedule = place.Steps
behind p (line.Step item) = place.Steps

-- the line's first word is that of a line that may stand at the place
abbrev pub IsExpected : Place → List ℕ → Type 0
IsExpected p text = (k : Keyword) × IsKeyword (first_word text) k × (allows p k ≡ true)
