-- The forms of a script's lines, and the ranges of what they say (this project's own).
use Rattle.std.specs.Prelude.{◌≡◌, true, ℕ, ◌≤◌, List, [], ◌∷◌, ◌++◌, replicate, codes}
use Rattle.std.specs.Fmt.{decimal}
use Rattle.nk_base.specs.Fields.{is_good_field}
use Rattle.nk_base.specs.Pieces.{IsPiece}
use Rattle.nk_base.specs.declared.field.Field.{Field}
use Rattle.nk_base.specs.declared.status.Target.{Target}
use Rattle.nk_base.specs.declared.status.Target.TheVariants as target
use Rattle.nk_plan.specs.declared.plan.Verdict.TheVariants as verdict
use Rattle.nk_plan.specs.declared.plan.Finish.{Finish}
use Rattle.nk_plan.specs.declared.plan.Finish.TheVariants as finish
use Rattle.nk_plan.specs.declared.plan.ListenerKind.{ListenerKind}
use Rattle.nk_plan.specs.declared.plan.ListenerKind.TheVariants as listener
use Rattle.nk_plan.specs.declared.plan.Reaction.{Reaction}
use Rattle.nk_plan.specs.declared.plan.Reaction.TheVariants as reaction
use Rattle.nk_plan.specs.declared.plan.Act.{Act}
use Rattle.nk_plan.specs.declared.plan.Act.TheVariants as act
use Rattle.nk_plan.specs.declared.plan.Control.{Control}
use Rattle.nk_plan.specs.declared.step.Step.{Step}
use Rattle.nk_plan.specs.declared.step.Step.TheVariants as step
use Rattle.nk_script.specs.declared.line.HopLine.{HopLine}
use Rattle.nk_script.specs.declared.line.HopLine.TheVariants as hop
use Rattle.nk_script.specs.declared.script.ScheduleItem.{ScheduleItem}
use Rattle.nk_script.specs.declared.line.Keyword.{Keyword}
use Rattle.nk_script.specs.declared.line.Keyword.TheVariants as key
use Rattle.nk_script.specs.declared.line.Line.{Line}
use Rattle.nk_script.specs.declared.line.Line.TheVariants as line
use Rattle.nk_script.specs.Texts.{words}
use Rattle.nk_script.specs.Numbers.{IsDecimal, IsStatus, IsByte, IsBytes}

-- W: `w1` to `w16`
abbrev pub IsWorkerWord : List ℕ → ℕ → Type 0
IsWorkerWord word w = (1 ≤ w) × (w ≤ 16) × (word ≡ 119 ∷ decimal w)

-- T: `main` or a W
abbrev pub IsTargetWord : List ℕ → Target → Type 0
IsTargetWord word target.Main = word ≡ codes "main"
IsTargetWord word (target.Worker w) = IsWorkerWord word w
IsTargetWord word target.Back = ⊥

-- the words behind `hop`
abbrev pub IsHop : List (List ℕ) → HopLine → Type 0
IsHop ws (hop.Fail s) = (w : List ℕ) × (ws ≡ codes "fail" ∷ w ∷ []) × IsStatus w s
IsHop ws (hop.Redirect code verdict.Allow) = (w : List ℕ) × (ws ≡ codes "redirect" ∷ w ∷ codes "allow" ∷ []) × IsDecimal 300 399 w code
IsHop ws (hop.Redirect code (verdict.Veto s)) =
    (w : List ℕ) × (v : List ℕ) × (ws ≡ codes "redirect" ∷ w ∷ codes "veto" ∷ v ∷ []) × IsDecimal 300 399 w code × IsStatus v s
IsHop ws (hop.Response code) = (w : List ℕ) × (ws ≡ codes "response" ∷ w ∷ []) × IsDecimal 100 999 w code

-- the words behind `end`
abbrev pub IsEnd : List (List ℕ) → Finish → Type 0
IsEnd ws finish.Good = ws ≡ codes "ok" ∷ []
IsEnd ws (finish.Fail s) = (w : List ℕ) × (ws ≡ codes "fail" ∷ w ∷ []) × IsStatus w s

-- the words behind `listener`
abbrev pub IsListener : List (List ℕ) → ListenerKind → Type 0
IsListener ws listener.Plain = ws ≡ codes "plain" ∷ []
IsListener ws (listener.Pipe segment limit readers) =
    (u : List ℕ) × (v : List ℕ) × (w : List ℕ)
    × (ws ≡ codes "pipe" ∷ u ∷ v ∷ w ∷ [])
    × IsDecimal 4 65536 u segment
    × IsDecimal 1 1024 v limit
    × IsDecimal 1 8 w readers

-- the words behind `at`
abbrev pub IsReaction : List (List ℕ) → Reaction → Type 0
IsReaction ws (reaction.StartRetarget n) = (w : List ℕ) × (ws ≡ codes "start" ∷ codes "retarget" ∷ w ∷ []) × IsWorkerWord w n
IsReaction ws reaction.StartSuspend = ws ≡ codes "start" ∷ codes "suspend" ∷ []
IsReaction ws (reaction.StartCancel s) = (w : List ℕ) × (ws ≡ codes "start" ∷ codes "cancel" ∷ w ∷ []) × IsStatus w s
IsReaction ws (reaction.StartFail s) = (w : List ℕ) × (ws ≡ codes "start" ∷ codes "fail" ∷ w ∷ []) × IsStatus w s
IsReaction ws (reaction.BytesFail nth s) =
    (u : List ℕ) × (w : List ℕ) × (ws ≡ codes "data" ∷ u ∷ codes "fail" ∷ w ∷ []) × IsDecimal 1 65536 u nth × IsStatus w s

-- the words of a call of the page
abbrev pub IsAct : List (List ℕ) → Act → Type 0
IsAct ws act.Suspend = ws ≡ codes "suspend" ∷ []
IsAct ws act.Resume = ws ≡ codes "resume" ∷ []
IsAct ws (act.Cancel s) = (w : List ℕ) × (ws ≡ codes "cancel" ∷ w ∷ []) × IsStatus w s
IsAct ws (act.Retarget n) = (w : List ℕ) × (ws ≡ codes "retarget" ∷ w ∷ []) × IsWorkerWord w n
IsAct ws (act.Break s) = (w : List ℕ) × (ws ≡ codes "break" ∷ w ∷ []) × IsStatus w s

-- the words behind `when`
pub record IsControl (ws : List (List ℕ)) (control : Control) : Type 0 where
  pub count : List ℕ
  pub call : List (List ℕ)
  pub spelled : ws ≡ count ∷ call
  pub after : IsDecimal 0 100000 count control.after
  pub performed : IsAct call control.act

-- the words of a step
abbrev pub IsStep : List (List ℕ) → Step → Type 0
IsStep ws step.Act = ws ≡ codes "act" ∷ []
IsStep ws step.Verdict = ws ≡ codes "verdict" ∷ []
IsStep ws step.Fetch = ws ≡ codes "fetch" ∷ []
IsStep ws step.Up = ws ≡ codes "up" ∷ []
IsStep ws step.Forward = ws ≡ codes "forward" ∷ []
IsStep ws step.Main = ws ≡ codes "main" ∷ []
IsStep ws step.Back = ws ≡ codes "back" ∷ []
IsStep ws step.Release = ws ≡ codes "release" ∷ []
IsStep ws (step.Begin t) = (w : List ℕ) × (ws ≡ codes "begin" ∷ w ∷ []) × IsTargetWord w t
IsStep ws (step.Finish t) = (w : List ℕ) × (ws ≡ codes "finish" ∷ w ∷ []) × IsTargetWord w t
IsStep ws (step.Read r) = (w : List ℕ) × (ws ≡ codes "read" ∷ w ∷ []) × IsDecimal 1 8 w r

-- NAME VALUE, both good; VALUE is the rest of the line
abbrev pub IsField : List ℕ → Field → Type 0
IsField rest f = (is_good_field f ≡ true) × (rest ≡ f.name ++ 32 ∷ f.value)

-- lines whose last part is the rest of the line

abbrev pub IsFieldLine : List ℕ → Line → Type 0
IsFieldLine text l = (rest : List ℕ) × (f : Field) × (text ≡ codes "field " ++ rest) × IsField rest f × (l ≡ line.Field f)

abbrev pub IsTrailerLine : List ℕ → Line → Type 0
IsTrailerLine text l = (rest : List ℕ) × (f : Field) × (text ≡ codes "trailer " ++ rest) × IsField rest f × (l ≡ line.Trailer f)

abbrev pub IsPieceLine : List ℕ → Line → Type 0
IsPieceLine text l = (bytes : List ℕ) × (text ≡ codes "piece " ++ bytes) × IsPiece bytes × (l ≡ line.Piece bytes)

abbrev pub IsHexLine : List ℕ → Line → Type 0
IsHexLine text l =
    (digits : List ℕ) × (bytes : List ℕ) × (text ≡ codes "hex " ++ digits) × IsBytes digits bytes × IsPiece bytes × (l ≡ line.Piece bytes)

-- lines that are read word by word

abbrev pub IsHopLine : List (List ℕ) → Line → Type 0
IsHopLine all l = (ws : List (List ℕ)) × (h : HopLine) × (all ≡ codes "hop" ∷ ws) × IsHop ws h × (l ≡ line.Hop h)

abbrev pub IsFillLine : List (List ℕ) → Line → Type 0
IsFillLine all l =
    (v : List ℕ) × (w : List ℕ) × (byte : ℕ) × (count : ℕ)
    × (all ≡ codes "fill" ∷ v ∷ w ∷ [])
    × IsByte v byte
    × IsDecimal 1 131072 w count
    × (l ≡ line.Piece (replicate count byte))

abbrev pub IsEndLine : List (List ℕ) → Line → Type 0
IsEndLine all l = (ws : List (List ℕ)) × (f : Finish) × (all ≡ codes "end" ∷ ws) × IsEnd ws f × (l ≡ line.End f)

abbrev pub IsListenerLine : List (List ℕ) → Line → Type 0
IsListenerLine all l =
    (ws : List (List ℕ)) × (kind : ListenerKind) × (all ≡ codes "listener" ∷ ws) × IsListener ws kind × (l ≡ line.Listener kind)

abbrev pub IsWindowLine : List (List ℕ) → Line → Type 0
IsWindowLine all l = (w : List ℕ) × (n : ℕ) × (all ≡ codes "window" ∷ w ∷ []) × IsDecimal 1 16777216 w n × (l ≡ line.Window n)

abbrev pub IsReactionLine : List (List ℕ) → Line → Type 0
IsReactionLine all l = (ws : List (List ℕ)) × (r : Reaction) × (all ≡ codes "at" ∷ ws) × IsReaction ws r × (l ≡ line.Reaction r)

abbrev pub IsControlLine : List (List ℕ) → Line → Type 0
IsControlLine all l = (ws : List (List ℕ)) × (c : Control) × (all ≡ codes "when" ∷ ws) × IsControl ws c × (l ≡ line.Control c)

-- CHANNEL STEP, of a script with this many channels
abbrev pub IsStepLine : ℕ → List (List ℕ) → Line → Type 0
IsStepLine channels all l =
    (w : List ℕ) × (ws : List (List ℕ)) × (item : ScheduleItem)
    × (all ≡ w ∷ ws)
    × IsDecimal 1 channels w item.channel
    × IsStep ws item.step
    × (l ≡ line.Step item)

-- the line begins with this keyword and has one of its forms; of a script with this many channels
abbrev pub IsLineOf : Keyword → ℕ → List ℕ → Line → Type 0
IsLineOf key.Script channels text l = (text ≡ codes "script 1") × (l ≡ line.Script)
IsLineOf key.Channel channels text l = (text ≡ codes "channel") × (l ≡ line.Channel)
IsLineOf key.Hop channels text l = IsHopLine (words text) l
IsLineOf key.Field channels text l = IsFieldLine text l
IsLineOf key.Piece channels text l = IsPieceLine text l
IsLineOf key.Hex channels text l = IsHexLine text l
IsLineOf key.Fill channels text l = IsFillLine (words text) l
IsLineOf key.End channels text l = IsEndLine (words text) l
IsLineOf key.Trailer channels text l = IsTrailerLine text l
IsLineOf key.Listener channels text l = IsListenerLine (words text) l
IsLineOf key.Retargetable channels text l = (text ≡ codes "retargetable no") × (l ≡ line.NotRetargetable)
IsLineOf key.Window channels text l = IsWindowLine (words text) l
IsLineOf key.Start channels text l = (text ≡ codes "start back") × (l ≡ line.StartBack)
IsLineOf key.Closed channels text l = (text ≡ codes "closed") × (l ≡ line.Closed)
IsLineOf key.At channels text l = IsReactionLine (words text) l
IsLineOf key.When channels text l = IsControlLine (words text) l
IsLineOf key.Schedule channels text l = (text ≡ codes "schedule") × (l ≡ line.Schedule)
IsLineOf key.Number channels text l = IsStepLine channels (words text) l
