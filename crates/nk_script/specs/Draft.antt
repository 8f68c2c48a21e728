-- What the lines of a script say so far, and what each line adds (this project's own).
use Rattle.std.specs.Prelude.{◌≡◌, true, false, Bool, ◌&&◌, nat_le, nat_lt, ℕ, ◌≤◌, ◌+◌, ◌*◌, List, [], ◌∷◌, ◌++◌, length, Option, Some, None, option_to_list}
use Rattle.std.specs.Option.{option_map, option_map_or}
use Rattle.nk_base.specs.Fields.{is_good_field}
use Rattle.nk_plan.specs.declared.plan.Hop.{Hop}
use Rattle.nk_plan.specs.declared.plan.Hop.TheVariants as plan
use Rattle.nk_plan.specs.declared.plan.ChannelPlan.{ChannelPlan}
use Rattle.nk_plan.specs.declared.plan.Finish.TheVariants as finish
use Rattle.nk_plan.specs.declared.plan.ListenerKind.{ListenerKind}
use Rattle.nk_plan.specs.declared.plan.ListenerKind.TheVariants as listener
use Rattle.nk_plan.specs.declared.plan.StartLane.TheVariants as lane
use Rattle.nk_plan.specs.Accepted.{Accepted, rounded_up}
use Rattle.nk_script.specs.declared.line.HopLine.{HopLine}
use Rattle.nk_script.specs.declared.line.HopLine.TheVariants as hop
use Rattle.nk_script.specs.declared.line.Line.{Line}
use Rattle.nk_script.specs.declared.line.Line.TheVariants as line
use Rattle.nk_script.specs.declared.line.Place.TheVariants as place
use Rattle.nk_script.specs.Responses.{ResponseParts}
use Rattle.nk_script.specs.declared.draft.Draft.{Draft}
use Rattle.nk_script.specs.declared.reader.Reader.{Reader}
use Rattle.nk_script.specs.Order.{behind}

-- THE PLAN OF A CHANNEL

abbrev pub hop_of : ResponseParts → Hop
hop_of r = plan.Response (record { code = r.code; fields = r.fields }) r.pieces r.finish r.trailers

abbrev pub plan_of : Draft → ChannelPlan
plan_of d = record {
  hops = d.hops ++ option_to_list (option_map hop_of d.response);
  listener = d.listener;
  retargetable = d.retargetable;
  reactions = d.reactions;
  controls = d.controls;
  window = d.window;
  closed = d.closed;
  start = d.start;
}

-- the plans of all channels, the last one as far as it has come
abbrev pub plans_of : Reader → List ChannelPlan
plans_of r = r.plans ++ option_to_list (option_map plan_of r.draft)

-- a channel without option lines
abbrev pub new_draft : Draft
new_draft = record {
  hops = [];
  response = None;
  listener = listener.Plain;
  retargetable = true;
  reactions = [];
  controls = [];
  window = 1048576;
  closed = false;
  start = lane.Main;
}

abbrev pub new_response : ℕ → ResponseParts
new_response code = record { code = code; fields = []; pieces = []; size = 0; finish = finish.Good; trailers = [] }

abbrev pub start : Reader
start = record { place = place.Start; plans = []; draft = None; schedule = []; pieces = 0; bytes = 0; read = 0 }

-- the channel that is not complete yet, where there is one, has come so far that a plan with its parts is accepted
abbrev pub IsPlan : Option Draft → Type 0
IsPlan None = Unit {0}
IsPlan (Some d) = Accepted (plan_of d)

abbrev pub IsComplete : Reader → Type 0
IsComplete r = IsPlan r.draft

-- where the line ends a channel, that channel has come so far
abbrev pub EndsComplete : Reader → Line → Type 0
EndsComplete r line.Channel = IsComplete r
EndsComplete r line.Schedule = IsComplete r
EndsComplete r _ = Unit {0}

-- WHAT A LINE ADDS

abbrev pub in_draft : (Draft → Draft) → Reader → Reader
in_draft f r = record r { draft = option_map f r.draft }

abbrev pub with_response : (ResponseParts → ResponseParts) → Draft → Draft
with_response f d = record d { response = option_map f d.response }

abbrev pub in_response : (ResponseParts → ResponseParts) → Reader → Reader
in_response f r = in_draft (with_response f) r

-- a response's code has three digits
abbrev pub IsGoodCode : HopLine → Type 0
IsGoodCode (hop.Fail s) = Unit {0}
IsGoodCode (hop.Redirect code own) = Unit {0}
IsGoodCode (hop.Response code) = (100 ≤ code) × (code ≤ 999)

abbrev pub with_hop : HopLine → Draft → Draft
with_hop (hop.Fail s) d = record d { hops = d.hops ++ plan.Fail s ∷ [] }
with_hop (hop.Redirect code own) d = record d { hops = d.hops ++ plan.Redirect code own ∷ [] }
with_hop (hop.Response code) d = record d { response = Some (new_response code) }

-- a count of the response, where there is one
abbrev pub response_count : (ResponseParts → ℕ) → Draft → ℕ
response_count f d = option_map_or f d.response 0

-- a count of the channel, where there is one
abbrev pub channel_count : (Draft → ℕ) → Reader → ℕ
channel_count f r = option_map_or f r.draft 0

-- the body bytes of the channel
abbrev pub size_of : Reader → ℕ
size_of r = channel_count (response_count (λ s. s.size)) r

-- the bytes that the readers of a listener read of a body of this size
abbrev pub read_of : ListenerKind → ℕ → ℕ
read_of listener.Plain size = 0
read_of (listener.Pipe segment limit readers) size = readers * size

abbrev pub told : Reader → Line → Reader
told r line.Script = r
told r line.Channel = record r { plans = plans_of r; draft = Some new_draft }
told r (line.Hop h) = in_draft (with_hop h) r
told r (line.Field f) = in_response (λ s. record s { fields = s.fields ++ f ∷ [] }) r
told r (line.Piece bytes) =
    record (in_response (λ s. record s { pieces = s.pieces ++ bytes ∷ []; size = s.size + length bytes }) r) { pieces = r.pieces + 1; bytes = r.bytes + length bytes }
told r (line.End f) = in_response (λ s. record s { finish = f }) r
told r (line.Trailer f) = in_response (λ s. record s { trailers = s.trailers ++ f ∷ [] }) r
told r (line.Listener kind) = record (in_draft (λ d. record d { listener = kind }) r) { read = r.read + read_of kind (size_of r) }
told r line.NotRetargetable = in_draft (λ d. record d { retargetable = false }) r
told r (line.Window n) = in_draft (λ d. record d { window = n }) r
told r line.StartBack = in_draft (λ d. record d { start = lane.Back }) r
told r line.Closed = in_draft (λ d. record d { closed = true }) r
told r (line.Reaction reaction) = in_draft (λ d. record d { reactions = d.reactions ++ reaction ∷ [] }) r
told r (line.Control control) = in_draft (λ d. record d { controls = d.controls ++ control ∷ [] }) r
told r line.Schedule = record r { plans = plans_of r; draft = None }
told r (line.Step item) = record r { schedule = r.schedule ++ item ∷ [] }

-- the reading behind a line
abbrev pub after : Reader → Line → Reader
after r line = record (told r line) { place = behind r.place line }

-- THE LIMITS

abbrev pub is_hop_within : Reader → HopLine → Bool
is_hop_within r (hop.Fail s) = true
is_hop_within r (hop.Redirect code own) = nat_lt (channel_count (λ d. length d.hops) r) 31
is_hop_within r (hop.Response code) = true

abbrev pub is_listener_within : Reader → ListenerKind → Bool
is_listener_within r listener.Plain = true
is_listener_within r (listener.Pipe segment limit readers) =
    nat_le (rounded_up (readers * size_of r) segment) 1000000 && nat_le (r.read + readers * size_of r) 134217728

abbrev pub is_piece_within : Reader → List ℕ → Bool
is_piece_within r bytes =
    nat_lt (channel_count (response_count (λ s. length s.pieces)) r) 65536 && nat_lt r.pieces 262144 && nat_le (r.bytes + length bytes) 67108864

-- the line is not one too many, and makes no body and no listener too large
abbrev pub is_within : Reader → Line → Bool
is_within r line.Script = true
is_within r line.Channel = nat_lt (length (plans_of r)) 1024
is_within r (line.Hop h) = is_hop_within r h
is_within r (line.Field f) = nat_lt (channel_count (response_count (λ s. length s.fields)) r) 64
is_within r (line.Piece bytes) = is_piece_within r bytes
is_within r (line.End f) = true
is_within r (line.Trailer f) = nat_lt (channel_count (response_count (λ s. length s.trailers)) r) 64
is_within r (line.Listener kind) = is_listener_within r kind
is_within r line.NotRetargetable = true
is_within r (line.Window n) = true
is_within r line.StartBack = true
is_within r line.Closed = true
is_within r (line.Reaction reaction) = nat_lt (channel_count (λ d. length d.reactions) r) 64
is_within r (line.Control control) = nat_lt (channel_count (λ d. length d.controls) r) 64
is_within r line.Schedule = true
is_within r (line.Step item) = nat_lt (length r.schedule) 1000000

abbrev pub IsSoundListener : ListenerKind → Type 0
IsSoundListener listener.Plain = Unit {0}
IsSoundListener (listener.Pipe segment limit readers) = (4 ≤ segment) × (readers ≤ 8)

-- what the form of a line says of its values, as far as the reading needs it
abbrev pub IsSound : Line → Type 0
IsSound line.Script = Unit {0}
IsSound line.Channel = Unit {0}
IsSound (line.Hop h) = IsGoodCode h
IsSound (line.Field f) = is_good_field f ≡ true
IsSound (line.Piece bytes) = Unit {0}
IsSound (line.End f) = Unit {0}
IsSound (line.Trailer f) = Unit {0}
IsSound (line.Listener kind) = IsSoundListener kind
IsSound line.NotRetargetable = Unit {0}
IsSound (line.Window n) = Unit {0}
IsSound line.StartBack = Unit {0}
IsSound line.Closed = Unit {0}
IsSound (line.Reaction reaction) = Unit {0}
IsSound (line.Control control) = Unit {0}
IsSound line.Schedule = Unit {0}
IsSound (line.Step item) = Unit {0}
