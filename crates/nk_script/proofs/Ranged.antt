-- What the form of a line says of its values, and where the line may stand.
use Rattle.std.proofs.Common.{◌≡◌, ◌≤◌, ℕ, true, List, sym, subst, refl, ◌∙◌}
use Rattle.nk_base.specs.Fields.{is_good_field}
use Rattle.nk_base.specs.Ranges.{IsRedirectCode}
use Rattle.nk_base.specs.Status.{is_failure}
use Rattle.nk_plan.specs.declared.plan.Verdict.TheVariants as verdict
use Rattle.nk_plan.specs.declared.plan.Finish.{Finish}
use Rattle.nk_plan.specs.declared.plan.Finish.TheVariants as finish
use Rattle.nk_plan.specs.declared.plan.ListenerKind.{ListenerKind}
use Rattle.nk_plan.specs.declared.plan.ListenerKind.TheVariants as listener
use Rattle.nk_plan.specs.declared.plan.Reaction.{Reaction}
use Rattle.nk_plan.specs.declared.plan.Reaction.TheVariants as reaction
use Rattle.nk_plan.specs.declared.plan.Act.{Act}
use Rattle.nk_plan.specs.declared.plan.Act.TheVariants as act
use Rattle.nk_plan.specs.Accepted.{IsGoodVerdict, IsGoodReaction, IsGoodAct, IsGoodWindow}
use Rattle.nk_script.specs.declared.line.HopLine.{HopLine}
use Rattle.nk_script.specs.declared.line.HopLine.TheVariants as hop
use Rattle.nk_script.specs.declared.line.Line.{Line}
use Rattle.nk_script.specs.declared.line.Line.TheVariants as line
use Rattle.nk_script.specs.declared.line.Keyword.{Keyword}
use Rattle.nk_script.specs.declared.line.Keyword.TheVariants as key
use Rattle.nk_script.specs.declared.line.Place.{Place}
use Rattle.nk_script.specs.declared.line.Place.TheVariants as place
use Rattle.nk_script.specs.Lines.{IsHop, IsEnd, IsListener, IsReaction, IsAct, IsLineOf}
use Rattle.nk_script.specs.Order.{allows}

-- VALUES

abbrev pub IsGoodHopLine : HopLine → Type 0
IsGoodHopLine (hop.Fail s) = is_failure s ≡ true
IsGoodHopLine (hop.Redirect code own) = IsRedirectCode code × IsGoodVerdict own
IsGoodHopLine (hop.Response code) = Unit {0}

abbrev pub IsGoodEnd : Finish → Type 0
IsGoodEnd finish.Good = Unit {0}
IsGoodEnd (finish.Fail s) = is_failure s ≡ true

abbrev pub IsListenerInRange : ListenerKind → Type 0
IsListenerInRange listener.Plain = Unit {0}
IsListenerInRange (listener.Pipe segment limit readers) =
    (4 ≤ segment) × (segment ≤ 65536) × (1 ≤ limit) × (limit ≤ 1024) × (1 ≤ readers) × (readers ≤ 8)

-- the values of a line of a script with this many channels are in range
abbrev pub IsRanged : ℕ → Line → Type 0
IsRanged channels line.Script = Unit {0}
IsRanged channels line.Channel = Unit {0}
IsRanged channels (line.Hop h) = IsGoodHopLine h
IsRanged channels (line.Field f) = Unit {0}
IsRanged channels (line.Piece bytes) = Unit {0}
IsRanged channels (line.End f) = IsGoodEnd f
IsRanged channels (line.Trailer f) = is_good_field f ≡ true
IsRanged channels (line.Listener kind) = IsListenerInRange kind
IsRanged channels line.NotRetargetable = Unit {0}
IsRanged channels (line.Window n) = IsGoodWindow n
IsRanged channels line.StartBack = Unit {0}
IsRanged channels line.Closed = Unit {0}
IsRanged channels (line.Reaction r) = IsGoodReaction r
IsRanged channels (line.Control c) = (c.after ≤ 100000) × IsGoodAct c.act
IsRanged channels line.Schedule = Unit {0}
IsRanged channels (line.Step item) = (1 ≤ item.channel) × (item.channel ≤ channels)

hop_ranged : (ws : List (List ℕ)) (h : HopLine) → IsHop ws h → IsGoodHopLine h
hop_ranged ws (hop.Fail s) (w, e, is) = is.failure
hop_ranged ws (hop.Redirect code verdict.Allow) (w, e, is) = ((is.at_least, is.at_most), tt)
hop_ranged ws (hop.Redirect code (verdict.Veto s)) (w, v, e, is, st) = ((is.at_least, is.at_most), st.failure)
hop_ranged ws (hop.Response code) is = tt

end_ranged : (ws : List (List ℕ)) (f : Finish) → IsEnd ws f → IsGoodEnd f
end_ranged ws finish.Good is = tt
end_ranged ws (finish.Fail s) (w, e, is) = is.failure

listener_ranged : (ws : List (List ℕ)) (kind : ListenerKind) → IsListener ws kind → IsListenerInRange kind
listener_ranged ws listener.Plain is = tt
listener_ranged ws (listener.Pipe segment limit readers) (u, v, w, e, s, l, r) =
    (s.at_least, s.at_most, l.at_least, l.at_most, r.at_least, r.at_most)

reaction_ranged : (ws : List (List ℕ)) (r : Reaction) → IsReaction ws r → IsGoodReaction r
reaction_ranged ws (reaction.StartRetarget n) (w, e, is) = (is.0, is.1)
reaction_ranged ws reaction.StartSuspend is = tt
reaction_ranged ws (reaction.StartCancel s) (w, e, is) = is.failure
reaction_ranged ws (reaction.StartFail s) (w, e, is) = is.failure
reaction_ranged ws (reaction.BytesFail nth s) (u, w, e, n, is) = (n.at_least, n.at_most, is.failure)

act_ranged : (ws : List (List ℕ)) (a : Act) → IsAct ws a → IsGoodAct a
act_ranged ws act.Suspend is = tt
act_ranged ws act.Resume is = tt
act_ranged ws (act.Cancel s) (w, e, is) = is.failure
act_ranged ws (act.Retarget n) (w, e, is) = (is.0, is.1)
act_ranged ws (act.Break s) (w, e, is) = is.failure

pub line_ranged : (k : Keyword) (channels : ℕ) (text : List ℕ) (l : Line) → IsLineOf k channels text l → IsRanged channels l
line_ranged key.Script channels text l (t, e) = subst (IsRanged channels) (sym e) tt
line_ranged key.Channel channels text l (t, e) = subst (IsRanged channels) (sym e) tt
line_ranged key.Hop channels text l (ws, h, t, is, e) = subst (IsRanged channels) (sym e) (hop_ranged ws h is)
line_ranged key.Field channels text l (rest, f, t, is, e) = subst (IsRanged channels) (sym e) tt
line_ranged key.Piece channels text l (bytes, t, is, e) = subst (IsRanged channels) (sym e) tt
line_ranged key.Hex channels text l (digits, bytes, t, are, is, e) = subst (IsRanged channels) (sym e) tt
line_ranged key.Fill channels text l (v, w, byte, count, t, b, n, e) = subst (IsRanged channels) (sym e) tt
line_ranged key.End channels text l (ws, f, t, is, e) = subst (IsRanged channels) (sym e) (end_ranged ws f is)
line_ranged key.Trailer channels text l (rest, f, t, is, e) = subst (IsRanged channels) (sym e) is.0
line_ranged key.Listener channels text l (ws, kind, t, is, e) = subst (IsRanged channels) (sym e) (listener_ranged ws kind is)
line_ranged key.Retargetable channels text l (t, e) = subst (IsRanged channels) (sym e) tt
line_ranged key.Window channels text l (w, n, t, is, e) = subst (IsRanged channels) (sym e) (is.at_least, is.at_most)
line_ranged key.Start channels text l (t, e) = subst (IsRanged channels) (sym e) tt
line_ranged key.Closed channels text l (t, e) = subst (IsRanged channels) (sym e) tt
line_ranged key.At channels text l (ws, r, t, is, e) = subst (IsRanged channels) (sym e) (reaction_ranged ws r is)
line_ranged key.When channels text l (ws, c, t, is, e) = subst (IsRanged channels) (sym e) (is.after.at_most, act_ranged is.call c.act is.performed)
line_ranged key.Schedule channels text l (t, e) = subst (IsRanged channels) (sym e) tt
line_ranged key.Number channels text l (w, ws, item, t, is, st, e) = subst (IsRanged channels) (sym e) (is.at_least, is.at_most)

-- PLACES

-- a keyword that this line may begin with
abbrev pub keyword_of : Line → Keyword
keyword_of line.Script = key.Script
keyword_of line.Channel = key.Channel
keyword_of (line.Hop h) = key.Hop
keyword_of (line.Field f) = key.Field
keyword_of (line.Piece bytes) = key.Piece
keyword_of (line.End f) = key.End
keyword_of (line.Trailer f) = key.Trailer
keyword_of (line.Listener kind) = key.Listener
keyword_of line.NotRetargetable = key.Retargetable
keyword_of (line.Window n) = key.Window
keyword_of line.StartBack = key.Start
keyword_of line.Closed = key.Closed
keyword_of (line.Reaction r) = key.At
keyword_of (line.Control c) = key.When
keyword_of line.Schedule = key.Schedule
keyword_of (line.Step item) = key.Number

-- the three spellings of a piece stand in the same places
hex_stands : (p : Place) → allows p key.Hex ≡ allows p key.Piece
hex_stands place.Start = refl
hex_stands place.Channels = refl
hex_stands place.Hop = refl
hex_stands place.Fields = refl
hex_stands place.Pieces = refl
hex_stands place.Trailers = refl
hex_stands place.Listener = refl
hex_stands place.Retargetable = refl
hex_stands place.Window = refl
hex_stands place.StartLane = refl
hex_stands place.Closed = refl
hex_stands place.Reactions = refl
hex_stands place.ClosedReactions = refl
hex_stands place.Controls = refl
hex_stands place.Steps = refl

fill_stands : (p : Place) → allows p key.Fill ≡ allows p key.Piece
fill_stands place.Start = refl
fill_stands place.Channels = refl
fill_stands place.Hop = refl
fill_stands place.Fields = refl
fill_stands place.Pieces = refl
fill_stands place.Trailers = refl
fill_stands place.Listener = refl
fill_stands place.Retargetable = refl
fill_stands place.Window = refl
fill_stands place.StartLane = refl
fill_stands place.Closed = refl
fill_stands place.Reactions = refl
fill_stands place.ClosedReactions = refl
fill_stands place.Controls = refl
fill_stands place.Steps = refl

at_line : (p : Place) (l m : Line) → l ≡ m → allows p (keyword_of m) ≡ true → allows p (keyword_of l) ≡ true
at_line p l m e h = subst (λ (n : Line). allows p (keyword_of n) ≡ true) (sym e) h

pub line_stands : (k : Keyword) (channels : ℕ) (text : List ℕ) (l : Line) (p : Place) → IsLineOf k channels text l → allows p k ≡ true → allows p (keyword_of l) ≡ true
line_stands key.Script channels text l p (t, e) h = at_line p l _ e h
line_stands key.Channel channels text l p (t, e) h = at_line p l _ e h
line_stands key.Hop channels text l p (ws, says, t, is, e) h = at_line p l _ e h
line_stands key.Field channels text l p (rest, f, t, is, e) h = at_line p l _ e h
line_stands key.Piece channels text l p (bytes, t, is, e) h = at_line p l _ e h
line_stands key.Hex channels text l p (digits, bytes, t, are, is, e) h = at_line p l _ e (sym (hex_stands p) ∙ h)
line_stands key.Fill channels text l p (v, w, byte, count, t, b, n, e) h = at_line p l _ e (sym (fill_stands p) ∙ h)
line_stands key.End channels text l p (ws, f, t, is, e) h = at_line p l _ e h
line_stands key.Trailer channels text l p (rest, f, t, is, e) h = at_line p l _ e h
line_stands key.Listener channels text l p (ws, kind, t, is, e) h = at_line p l _ e h
line_stands key.Retargetable channels text l p (t, e) h = at_line p l _ e h
line_stands key.Window channels text l p (w, n, t, is, e) h = at_line p l _ e h
line_stands key.Start channels text l p (t, e) h = at_line p l _ e h
line_stands key.Closed channels text l p (t, e) h = at_line p l _ e h
line_stands key.At channels text l p (ws, r, t, is, e) h = at_line p l _ e h
line_stands key.When channels text l p (ws, c, t, is, e) h = at_line p l _ e h
line_stands key.Schedule channels text l p (t, e) h = at_line p l _ e h
line_stands key.Number channels text l p (w, ws, item, t, is, st, e) h = at_line p l _ e h
