-- The lines that are read word by word have at most five words, all of them UTF-8.
use Rattle.std.proofs.Common.{◌≡◌, ℕ, ◌^◌, ◌<◌, ◌≤◌, true, ◌+◌, List, [], ◌∷◌, length, All, refl, sym, subst, arith}
use Rattle.std.specs.Prelude.{codes}
use Rattle.std.specs.List.{list_all}
use Rattle.std.specs.Fmt.{decimal}
use Rattle.std.specs.Str.{IsUtf8}
use Rattle.std.proofs.lemmas.List.Elements.{All-nil, All-cons}
use Rattle.std.proofs.lemmas.Str.{IsUtf8-from_ascii}
use Rattle.std.proofs.lemmas.Str.Ascii.{IsAscii-cons}
use Rattle.std.proofs.lemmas.Fmt.{IsAscii-decimal}
use Rattle.nk_base.specs.declared.status.Status.{Status}
use Rattle.nk_base.specs.declared.status.Target.{Target}
use Rattle.nk_base.specs.declared.status.Target.TheVariants as target
use Rattle.nk_plan.specs.declared.plan.Verdict.TheVariants as verdict
use Rattle.nk_plan.specs.declared.plan.Finish.{Finish}
use Rattle.nk_plan.specs.declared.plan.Finish.TheVariants as finish
use Rattle.nk_plan.specs.declared.plan.ListenerKind.{ListenerKind}
use Rattle.nk_plan.specs.declared.plan.ListenerKind.TheVariants as listener
use Rattle.nk_plan.specs.declared.plan.Reaction.{Reaction}
use Rattle.nk_plan.specs.declared.plan.Reaction.TheVariants as reaction
use Rattle.nk_plan.specs.declared.plan.Act.{Act}
use Rattle.nk_plan.specs.declared.plan.Act.TheVariants as act
use Rattle.nk_plan.specs.declared.step.Step.{Step}
use Rattle.nk_plan.specs.declared.step.Step.TheVariants as step
use Rattle.nk_script.specs.declared.line.HopLine.{HopLine}
use Rattle.nk_script.specs.declared.line.HopLine.TheVariants as hop
use Rattle.nk_script.specs.declared.line.Line.{Line}
use Rattle.nk_script.specs.Numbers.{IsDecimal, IsStatus}
use Rattle.nk_script.specs.Lines.{IsWorkerWord, IsTargetWord, IsHop, IsEnd, IsListener, IsReaction, IsAct, IsStep, IsHopLine, IsFillLine, IsEndLine, IsListenerLine, IsWindowLine, IsReactionLine, IsControlLine, IsStepLine}
use Rattle.nk_script.proofs.Ascii.{is_ascii_byte, hex_utf8, utf8_ascii}

-- so many words at most, all of them UTF-8
pub record IsShort (most : ℕ) (all : List (List ℕ)) : Type 0 where
  pub few : length all ≤ most
  pub utf8 : All IsUtf8 all

none : IsShort 0 []
none = record { few = omega arith; utf8 = All-nil IsUtf8 }

one_more : (most : ℕ) (word : List ℕ) (all : List (List ℕ)) → IsUtf8 word → IsShort most all → IsShort (most + 1) (word ∷ all)
one_more most word all u s = record { few = omega (arith, s.few); utf8 = All-cons IsUtf8 word all u s.utf8 }

more_room : (most n : ℕ) (all : List (List ℕ)) → most ≤ n → IsShort most all → IsShort n all
more_room most n all le s = record { few = omega (arith, s.few); utf8 = s.utf8 }

-- a word of the form's own
fixed : (most : ℕ) (word : List ℕ) (all : List (List ℕ)) → list_all is_ascii_byte word ≡ true → IsShort most all → IsShort (most + 1) (word ∷ all)
fixed most word all h s = one_more most word all (utf8_ascii word h) s

decimal_utf8 : (least most : ℕ) (w : List ℕ) (n : ℕ) → most < 2 ^ 64 → IsDecimal least most w n → IsUtf8 w
decimal_utf8 least most w n h is = subst IsUtf8 (sym is.spelled) (IsUtf8-from_ascii (decimal n) (IsAscii-decimal n (omega (arith, is.at_most))))

worker_utf8 : (w : List ℕ) (n : ℕ) → IsWorkerWord w n → IsUtf8 w
worker_utf8 w n (low, high, e) = subst IsUtf8 (sym e) (IsUtf8-from_ascii (119 ∷ decimal n) (IsAscii-cons 119 (decimal n) (omega arith) (IsAscii-decimal n (omega (arith, high)))))

target_utf8 : (w : List ℕ) (t : Target) → IsTargetWord w t → IsUtf8 w
target_utf8 w target.Main e = subst IsUtf8 (sym e) (utf8_ascii (codes "main") refl)
target_utf8 w (target.Worker n) is = worker_utf8 w n is
target_utf8 w target.Back is = absurd is

status_utf8 : (w : List ℕ) (s : Status) → IsStatus w s → IsUtf8 w
status_utf8 w s is = hex_utf8 w is.digits

-- one word of the form's own, and two
single : (all : List (List ℕ)) (word : List ℕ) → all ≡ word ∷ [] → list_all is_ascii_byte word ≡ true → IsShort 1 all
single all word e h = subst (IsShort 1) (sym e) (fixed 0 word [] h none)

named : (all : List (List ℕ)) (word w : List ℕ) → all ≡ word ∷ w ∷ [] → list_all is_ascii_byte word ≡ true → IsUtf8 w → IsShort 2 all
named all word w e h u = subst (IsShort 2) (sym e) (fixed 1 word (w ∷ []) h (one_more 0 w [] u none))

act_short : (ws : List (List ℕ)) (a : Act) → IsAct ws a → IsShort 2 ws
act_short ws act.Suspend e = more_room 1 2 ws (omega arith) (single ws (codes "suspend") e refl)
act_short ws act.Resume e = more_room 1 2 ws (omega arith) (single ws (codes "resume") e refl)
act_short ws (act.Cancel s) (w, e, is) = named ws (codes "cancel") w e refl (status_utf8 w s is)
act_short ws (act.Retarget n) (w, e, is) = named ws (codes "retarget") w e refl (worker_utf8 w n is)
act_short ws (act.Break s) (w, e, is) = named ws (codes "break") w e refl (status_utf8 w s is)

end_short : (ws : List (List ℕ)) (f : Finish) → IsEnd ws f → IsShort 2 ws
end_short ws finish.Good e = more_room 1 2 ws (omega arith) (single ws (codes "ok") e refl)
end_short ws (finish.Fail s) (w, e, is) = named ws (codes "fail") w e refl (status_utf8 w s is)

step_short : (ws : List (List ℕ)) (s : Step) → IsStep ws s → IsShort 2 ws
step_short ws step.Act e = more_room 1 2 ws (omega arith) (single ws (codes "act") e refl)
step_short ws step.Verdict e = more_room 1 2 ws (omega arith) (single ws (codes "verdict") e refl)
step_short ws step.Fetch e = more_room 1 2 ws (omega arith) (single ws (codes "fetch") e refl)
step_short ws step.Up e = more_room 1 2 ws (omega arith) (single ws (codes "up") e refl)
step_short ws step.Forward e = more_room 1 2 ws (omega arith) (single ws (codes "forward") e refl)
step_short ws step.Main e = more_room 1 2 ws (omega arith) (single ws (codes "main") e refl)
step_short ws step.Back e = more_room 1 2 ws (omega arith) (single ws (codes "back") e refl)
step_short ws step.Release e = more_room 1 2 ws (omega arith) (single ws (codes "release") e refl)
step_short ws (step.Begin t) (w, e, is) = named ws (codes "begin") w e refl (target_utf8 w t is)
step_short ws (step.Finish t) (w, e, is) = named ws (codes "finish") w e refl (target_utf8 w t is)
step_short ws (step.Read r) (w, e, is) = named ws (codes "read") w e refl (decimal_utf8 1 8 w r (omega arith) is)

hop_short : (ws : List (List ℕ)) (h : HopLine) → IsHop ws h → IsShort 4 ws
hop_short ws (hop.Fail s) (w, e, is) = more_room 2 4 ws (omega arith) (named ws (codes "fail") w e refl (status_utf8 w s is))
hop_short ws (hop.Redirect code verdict.Allow) (w, e, is) = more_room 3 4 ws (omega arith) (subst (IsShort 3) (sym e)
    (fixed 2 (codes "redirect") (w ∷ codes "allow" ∷ []) refl (one_more 1 w (codes "allow" ∷ []) (decimal_utf8 300 399 w code (omega arith) is) (fixed 0 (codes "allow") [] refl none))))
hop_short ws (hop.Redirect code (verdict.Veto s)) (w, v, e, is, failing) = subst (IsShort 4) (sym e)
    (fixed 3 (codes "redirect") (w ∷ codes "veto" ∷ v ∷ []) refl (one_more 2 w (codes "veto" ∷ v ∷ []) (decimal_utf8 300 399 w code (omega arith) is) (fixed 1 (codes "veto") (v ∷ []) refl (one_more 0 v [] (status_utf8 v s failing) none))))
hop_short ws (hop.Response code) (w, e, is) = more_room 2 4 ws (omega arith) (named ws (codes "response") w e refl (decimal_utf8 100 999 w code (omega arith) is))

listener_short : (ws : List (List ℕ)) (k : ListenerKind) → IsListener ws k → IsShort 4 ws
listener_short ws listener.Plain e = more_room 1 4 ws (omega arith) (single ws (codes "plain") e refl)
listener_short ws (listener.Pipe segment limit readers) (u, v, w, e, a, b, c) = subst (IsShort 4) (sym e)
    (fixed 3 (codes "pipe") (u ∷ v ∷ w ∷ []) refl (one_more 2 u (v ∷ w ∷ []) (decimal_utf8 4 65536 u segment (omega arith) a) (one_more 1 v (w ∷ []) (decimal_utf8 1 1024 v limit (omega arith) b) (one_more 0 w [] (decimal_utf8 1 8 w readers (omega arith) c) none))))

reaction_short : (ws : List (List ℕ)) (r : Reaction) → IsReaction ws r → IsShort 4 ws
reaction_short ws (reaction.StartRetarget n) (w, e, is) = more_room 3 4 ws (omega arith) (subst (IsShort 3) (sym e) (fixed 2 (codes "start") (codes "retarget" ∷ w ∷ []) refl (fixed 1 (codes "retarget") (w ∷ []) refl (one_more 0 w [] (worker_utf8 w n is) none))))
reaction_short ws reaction.StartSuspend e = more_room 2 4 ws (omega arith) (subst (IsShort 2) (sym e) (fixed 1 (codes "start") (codes "suspend" ∷ []) refl (fixed 0 (codes "suspend") [] refl none)))
reaction_short ws (reaction.StartCancel s) (w, e, is) = more_room 3 4 ws (omega arith) (subst (IsShort 3) (sym e) (fixed 2 (codes "start") (codes "cancel" ∷ w ∷ []) refl (fixed 1 (codes "cancel") (w ∷ []) refl (one_more 0 w [] (status_utf8 w s is) none))))
reaction_short ws (reaction.StartFail s) (w, e, is) = more_room 3 4 ws (omega arith) (subst (IsShort 3) (sym e) (fixed 2 (codes "start") (codes "fail" ∷ w ∷ []) refl (fixed 1 (codes "fail") (w ∷ []) refl (one_more 0 w [] (status_utf8 w s is) none))))
reaction_short ws (reaction.BytesFail nth s) (u, w, e, is, failing) = subst (IsShort 4) (sym e)
    (fixed 3 (codes "data") (u ∷ codes "fail" ∷ w ∷ []) refl (one_more 2 u (codes "fail" ∷ w ∷ []) (decimal_utf8 1 65536 u nth (omega arith) is) (fixed 1 (codes "fail") (w ∷ []) refl (one_more 0 w [] (status_utf8 w s failing) none))))

-- a keyword in front
led : (most : ℕ) (all : List (List ℕ)) (word : List ℕ) (ws : List (List ℕ)) → all ≡ word ∷ ws → list_all is_ascii_byte word ≡ true → most + 1 ≤ 5 → IsShort most ws → IsShort 5 all
led most all word ws e h le s = more_room (most + 1) 5 all le (subst (IsShort (most + 1)) (sym e) (fixed most word ws h s))

pub hop_line_short : (all : List (List ℕ)) (l : Line) → IsHopLine all l → IsShort 5 all
hop_line_short all l (ws, h, e, is, same) = led 4 all (codes "hop") ws e refl (omega arith) (hop_short ws h is)

pub end_line_short : (all : List (List ℕ)) (l : Line) → IsEndLine all l → IsShort 5 all
end_line_short all l (ws, f, e, is, same) = led 2 all (codes "end") ws e refl (omega arith) (end_short ws f is)

pub listener_line_short : (all : List (List ℕ)) (l : Line) → IsListenerLine all l → IsShort 5 all
listener_line_short all l (ws, k, e, is, same) = led 4 all (codes "listener") ws e refl (omega arith) (listener_short ws k is)

pub window_line_short : (all : List (List ℕ)) (l : Line) → IsWindowLine all l → IsShort 5 all
window_line_short all l (w, n, e, is, same) = more_room 2 5 all (omega arith) (named all (codes "window") w e refl (decimal_utf8 1 16777216 w n (omega arith) is))

pub reaction_line_short : (all : List (List ℕ)) (l : Line) → IsReactionLine all l → IsShort 5 all
reaction_line_short all l (ws, r, e, is, same) = led 4 all (codes "at") ws e refl (omega arith) (reaction_short ws r is)

pub control_line_short : (all : List (List ℕ)) (l : Line) → IsControlLine all l → IsShort 5 all
control_line_short all l (ws, c, e, is, same) =
    led 3 all (codes "when") ws e refl (omega arith) (subst (IsShort 3) (sym is.spelled) (one_more 2 is.count is.call (decimal_utf8 0 100000 is.count c.after (omega arith) is.after) (act_short is.call c.act is.performed)))

pub fill_line_short : (all : List (List ℕ)) (l : Line) → IsFillLine all l → IsShort 5 all
fill_line_short all l (v, w, byte, count, e, b, n, same) =
    more_room 3 5 all (omega arith) (subst (IsShort 3) (sym e) (fixed 2 (codes "fill") (v ∷ w ∷ []) refl (one_more 1 v (w ∷ []) (hex_utf8 v b.digits) (one_more 0 w [] (decimal_utf8 1 131072 w count (omega arith) n) none))))

pub step_line_short : (channels : ℕ) (all : List (List ℕ)) (l : Line) → channels < 2 ^ 64 → IsStepLine channels all l → IsShort 5 all
step_line_short channels all l h (w, ws, item, e, n, is, same) =
    more_room 3 5 all (omega arith) (subst (IsShort 3) (sym e) (one_more 2 w ws (decimal_utf8 1 channels w item.channel h n) (step_short ws item.step is)))
