-- A line of a text, with a given keyword, has at most one meaning.
use Rattle.std.proofs.Common.{◌≡◌, ℕ, ◌==◌, if◌then◌else◌, ◌+◌, ◌^◌, ◌<◌, List, [], ◌∷◌, Some, codes, replicate, refl, sym, ap, subst, arith, ◌∙◌}
use Rattle.std.specs.Fmt.{decimal}
use Rattle.std.proofs.lemmas.Fmt.{decimal_injective}
use Rattle.nk_base.specs.declared.field.Field.{Field}
use Rattle.nk_base.specs.declared.status.Status.{Status}
use Rattle.nk_base.specs.declared.status.Target.{Target}
use Rattle.nk_base.specs.declared.status.Target.TheVariants as target
use Rattle.nk_plan.specs.declared.plan.Verdict.TheVariants as verdict
use Rattle.nk_plan.specs.declared.plan.Finish.{Finish}
use Rattle.nk_plan.specs.declared.plan.Finish.TheVariants as finish
use Rattle.nk_plan.specs.declared.plan.ListenerKind.{ListenerKind}
use Rattle.nk_plan.specs.declared.plan.ListenerKind.TheVariants as listener
use Rattle.nk_plan.specs.declared.plan.Reaction.{Reaction}
use Rattle.nk_plan.specs.declared.plan.Reaction.TheVariants as reaction
use Rattle.nk_plan.specs.declared.plan.Act.{Act}
use Rattle.nk_plan.specs.declared.plan.Act.TheVariants as act
use Rattle.nk_plan.specs.declared.plan.Control.{Control}
use Rattle.nk_plan.specs.declared.step.Step.{Step}
use Rattle.nk_plan.specs.declared.step.Step.TheVariants as step
use Rattle.nk_script.specs.declared.line.HopLine.{HopLine}
use Rattle.nk_script.specs.declared.line.HopLine.TheVariants as hop
use Rattle.nk_script.specs.declared.script.ScheduleItem.{ScheduleItem}
use Rattle.nk_script.specs.declared.line.Keyword.{Keyword}
use Rattle.nk_script.specs.declared.line.Keyword.TheVariants as key
use Rattle.nk_script.specs.declared.line.Line.{Line}
use Rattle.nk_script.specs.declared.line.Line.TheVariants as line
use Rattle.nk_script.specs.Numbers.{IsDecimal, IsStatus, IsByte, IsBytes}
use Rattle.nk_script.specs.Lines.{IsWorkerWord, IsTargetWord, IsHop, IsEnd, IsListener, IsReaction, IsAct, IsControl, IsStep, IsField, IsLineOf}
use Rattle.nk_script.specs.LineLaws.{LineLaws}

-- MARKS, which tell the forms apart

abbrev front : List ℕ → ℕ
front [] = 0
front (b ∷ bs) = b

abbrev total : List ℕ → ℕ
total [] = 0
total (b ∷ bs) = b + total bs

abbrev first : List (List ℕ) → ℕ
first [] = 0
first (w ∷ ws) = total w

abbrev second : List (List ℕ) → ℕ
second [] = 0
second (w ∷ ws) = first ws

-- the last word of a form tells redirects apart
abbrev hop_words : List (List ℕ) → ℕ
hop_words [] = 0
hop_words (w ∷ ws) = if total w == 850 then second ws else total w

-- what is done at the start
abbrev reaction_words : List (List ℕ) → ℕ
reaction_words [] = 0
reaction_words (w ∷ ws) = if total w == 410 then 0 else first ws

abbrev hop_mark : HopLine → ℕ
hop_mark (hop.Fail s) = 412
hop_mark (hop.Redirect code verdict.Allow) = 543
hop_mark (hop.Redirect code (verdict.Veto s)) = 446
hop_mark (hop.Response code) = 879

hop_marked : (ws : List (List ℕ)) (g : HopLine) → IsHop ws g → hop_words ws ≡ hop_mark g
hop_marked ws (hop.Fail s) (w, e, x) = ap hop_words e
hop_marked ws (hop.Redirect code verdict.Allow) (w, e, x) = ap hop_words e
hop_marked ws (hop.Redirect code (verdict.Veto s)) (v, w, e, x, y) = ap hop_words e
hop_marked ws (hop.Response code) (w, e, x) = ap hop_words e

abbrev end_mark : Finish → ℕ
end_mark finish.Good = 218
end_mark (finish.Fail s) = 412

end_marked : (ws : List (List ℕ)) (g : Finish) → IsEnd ws g → first ws ≡ end_mark g
end_marked ws finish.Good e = ap first e
end_marked ws (finish.Fail s) (w, e, x) = ap first e

abbrev listener_mark : ListenerKind → ℕ
listener_mark listener.Plain = 532
listener_mark (listener.Pipe s l r) = 430

listener_marked : (ws : List (List ℕ)) (g : ListenerKind) → IsListener ws g → first ws ≡ listener_mark g
listener_marked ws listener.Plain e = ap first e
listener_marked ws (listener.Pipe s l r) (u, v, w, e, x, y, z) = ap first e

abbrev reaction_mark : Reaction → ℕ
reaction_mark (reaction.StartRetarget n) = 862
reaction_mark reaction.StartSuspend = 770
reaction_mark (reaction.StartCancel s) = 614
reaction_mark (reaction.StartFail s) = 412
reaction_mark (reaction.BytesFail n s) = 0

reaction_marked : (ws : List (List ℕ)) (g : Reaction) → IsReaction ws g → reaction_words ws ≡ reaction_mark g
reaction_marked ws (reaction.StartRetarget n) (w, e, x) = ap reaction_words e
reaction_marked ws reaction.StartSuspend e = ap reaction_words e
reaction_marked ws (reaction.StartCancel s) (w, e, x) = ap reaction_words e
reaction_marked ws (reaction.StartFail s) (w, e, x) = ap reaction_words e
reaction_marked ws (reaction.BytesFail n s) (v, w, e, x, y) = ap reaction_words e

abbrev act_mark : Act → ℕ
act_mark act.Suspend = 770
act_mark act.Resume = 657
act_mark (act.Cancel s) = 614
act_mark (act.Retarget n) = 862
act_mark (act.Break s) = 517

act_marked : (ws : List (List ℕ)) (g : Act) → IsAct ws g → first ws ≡ act_mark g
act_marked ws act.Suspend e = ap first e
act_marked ws act.Resume e = ap first e
act_marked ws (act.Cancel s) (w, e, x) = ap first e
act_marked ws (act.Retarget n) (w, e, x) = ap first e
act_marked ws (act.Break s) (w, e, x) = ap first e

abbrev step_mark : Step → ℕ
step_mark step.Act = 312
step_mark step.Verdict = 753
step_mark step.Fetch = 522
step_mark step.Up = 229
step_mark step.Forward = 757
step_mark step.Main = 421
step_mark step.Back = 401
step_mark step.Release = 737
step_mark (step.Begin t) = 517
step_mark (step.Finish t) = 641
step_mark (step.Read t) = 412

step_marked : (ws : List (List ℕ)) (g : Step) → IsStep ws g → first ws ≡ step_mark g
step_marked ws step.Act e = ap first e
step_marked ws step.Verdict e = ap first e
step_marked ws step.Fetch e = ap first e
step_marked ws step.Up e = ap first e
step_marked ws step.Forward e = ap first e
step_marked ws step.Main e = ap first e
step_marked ws step.Back e = ap first e
step_marked ws step.Release e = ap first e
step_marked ws (step.Begin t) (w, e, x) = ap first e
step_marked ws (step.Finish t) (w, e, x) = ap first e
step_marked ws (step.Read t) (w, e, x) = ap first e

-- NUMBERS AND WORDS

one_decimal : (least most : ℕ) (v w : List ℕ) (m n : ℕ) → most < 2 ^ 64 → v ≡ w → IsDecimal least most v m → IsDecimal least most w n → m ≡ n
one_decimal least most v w m n small e a b =
    decimal_injective m n (omega (arith, a.at_most)) (omega (arith, b.at_most)) (sym a.spelled ∙ (e ∙ b.spelled))

one_status : (v w : List ℕ) (s t : Status) → v ≡ w → IsStatus v s → IsStatus w t → s ≡ t
one_status v w s t e a b =
    let f : ℕ → Status = λ n. record { 0 = n } in
    let same : s.0 ≡ t.0 = let x = a.value in let y = b.value in (cc) in
    ap f same

one_byte : (v w : List ℕ) (m n : ℕ) → v ≡ w → IsByte v m → IsByte w n → m ≡ n
one_byte v w m n e a b = let x = a.value in let y = b.value in cc

pub one_bytes : (digits xs ys : List ℕ) → IsBytes digits xs → IsBytes digits ys → xs ≡ ys
one_bytes [] [] [] a b = refl
one_bytes [] [] (y ∷ ys) a b = absurd b
one_bytes [] (x ∷ xs) ys a b = absurd a
one_bytes (d ∷ []) xs ys a b = absurd a
one_bytes (d ∷ (e ∷ ds)) [] ys a b = absurd a
one_bytes (d ∷ (e ∷ ds)) (x ∷ xs) [] a b = absurd b
one_bytes (d ∷ (e ∷ ds)) (x ∷ xs) (y ∷ ys) (a, more) (b, rest) =
    let first : x ≡ y = one_byte _ _ x y refl a b in
    let others : xs ≡ ys = one_bytes ds xs ys more rest in
    cc

one_worker : (v w : List ℕ) (m n : ℕ) → v ≡ w → IsWorkerWord v m → IsWorkerWord w n → m ≡ n
one_worker v w m n same (a, b, d) (x, y, e) =
    let both : decimal m ≡ decimal n = cc in decimal_injective m n (omega arith) (omega arith) both

main_worker : (v w : List ℕ) (n : ℕ) → v ≡ w → v ≡ codes "main" → IsWorkerWord w n → ⊥
main_worker v w n same m (x, y, e) =
    let one : front v ≡ 109 = ap front m in
    let other : front w ≡ 119 = ap front e in
    let equal : front v ≡ front w = ap front same in
    omega arith

one_target : (v w : List ℕ) (s t : Target) → v ≡ w → IsTargetWord v s → IsTargetWord w t → s ≡ t
one_target v w target.Main target.Main same a b = refl
one_target v w target.Main (target.Worker n) same a b = absurd (main_worker v w n same a b)
one_target v w (target.Worker n) target.Main same a b = absurd (main_worker w v n (sym same) b a)
one_target v w (target.Worker m) (target.Worker n) same a b = ap target.Worker (one_worker v w m n same a b)
one_target v w target.Back t same a b = absurd a
one_target v w s target.Back same a b = absurd b

-- FORMS

apart_by_mark : (vs ws : List (List ℕ)) (g h : HopLine) → vs ≡ ws → IsHop vs g → IsHop ws h → ¬ (hop_mark g ≡ hop_mark h) → ⊥
apart_by_mark vs ws g h same a b differ = differ (sym (hop_marked vs g a) ∙ (ap hop_words same ∙ hop_marked ws h b))

one_hop : (vs ws : List (List ℕ)) (g h : HopLine) → vs ≡ ws → IsHop vs g → IsHop ws h → g ≡ h
one_hop vs ws (hop.Fail s) (hop.Fail t) same (v, d, x) (w, e, y) = ap hop.Fail (one_status v w s t (cc) x y)
one_hop vs ws (hop.Redirect m verdict.Allow) (hop.Redirect n verdict.Allow) same (v, d, x) (w, e, y) =
    let equal : m ≡ n = one_decimal 300 399 v w m n (omega arith) (cc) x y in cc
one_hop vs ws (hop.Redirect m (verdict.Veto s)) (hop.Redirect n (verdict.Veto t)) same (v, i, d, x, f) (w, j, e, y, g) =
    let equal : m ≡ n = one_decimal 300 399 v w m n (omega arith) (cc) x y in
    let failed : s ≡ t = one_status i j s t (cc) f g in cc
one_hop vs ws (hop.Response m) (hop.Response n) same (v, d, x) (w, e, y) = ap hop.Response (one_decimal 100 999 v w m n (omega arith) (cc) x y)
one_hop vs ws (hop.Fail s1) (hop.Redirect n2 verdict.Allow) same a b = absurd (apart_by_mark vs ws (hop.Fail s1) (hop.Redirect n2 verdict.Allow) same a b (omega arith))
one_hop vs ws (hop.Fail s1) (hop.Redirect n2 (verdict.Veto s2)) same a b = absurd (apart_by_mark vs ws (hop.Fail s1) (hop.Redirect n2 (verdict.Veto s2)) same a b (omega arith))
one_hop vs ws (hop.Fail s1) (hop.Response n2) same a b = absurd (apart_by_mark vs ws (hop.Fail s1) (hop.Response n2) same a b (omega arith))
one_hop vs ws (hop.Redirect n1 verdict.Allow) (hop.Fail s2) same a b = absurd (apart_by_mark vs ws (hop.Redirect n1 verdict.Allow) (hop.Fail s2) same a b (omega arith))
one_hop vs ws (hop.Redirect n1 verdict.Allow) (hop.Redirect n2 (verdict.Veto s2)) same a b = absurd (apart_by_mark vs ws (hop.Redirect n1 verdict.Allow) (hop.Redirect n2 (verdict.Veto s2)) same a b (omega arith))
one_hop vs ws (hop.Redirect n1 verdict.Allow) (hop.Response n2) same a b = absurd (apart_by_mark vs ws (hop.Redirect n1 verdict.Allow) (hop.Response n2) same a b (omega arith))
one_hop vs ws (hop.Redirect n1 (verdict.Veto s1)) (hop.Fail s2) same a b = absurd (apart_by_mark vs ws (hop.Redirect n1 (verdict.Veto s1)) (hop.Fail s2) same a b (omega arith))
one_hop vs ws (hop.Redirect n1 (verdict.Veto s1)) (hop.Redirect n2 verdict.Allow) same a b = absurd (apart_by_mark vs ws (hop.Redirect n1 (verdict.Veto s1)) (hop.Redirect n2 verdict.Allow) same a b (omega arith))
one_hop vs ws (hop.Redirect n1 (verdict.Veto s1)) (hop.Response n2) same a b = absurd (apart_by_mark vs ws (hop.Redirect n1 (verdict.Veto s1)) (hop.Response n2) same a b (omega arith))
one_hop vs ws (hop.Response n1) (hop.Fail s2) same a b = absurd (apart_by_mark vs ws (hop.Response n1) (hop.Fail s2) same a b (omega arith))
one_hop vs ws (hop.Response n1) (hop.Redirect n2 verdict.Allow) same a b = absurd (apart_by_mark vs ws (hop.Response n1) (hop.Redirect n2 verdict.Allow) same a b (omega arith))
one_hop vs ws (hop.Response n1) (hop.Redirect n2 (verdict.Veto s2)) same a b = absurd (apart_by_mark vs ws (hop.Response n1) (hop.Redirect n2 (verdict.Veto s2)) same a b (omega arith))

one_end : (vs ws : List (List ℕ)) (g h : Finish) → vs ≡ ws → IsEnd vs g → IsEnd ws h → g ≡ h
one_end vs ws finish.Good finish.Good same a b = refl
one_end vs ws (finish.Fail s) (finish.Fail t) same (v, d, x) (w, e, y) = ap finish.Fail (one_status v w s t (cc) x y)
one_end vs ws g h same a b = absurd (omega (arith, end_marked vs g a, end_marked ws h b, ap first same))

one_listener : (vs ws : List (List ℕ)) (g h : ListenerKind) → vs ≡ ws → IsListener vs g → IsListener ws h → g ≡ h
one_listener vs ws listener.Plain listener.Plain same a b = refl
one_listener vs ws (listener.Pipe s l r) (listener.Pipe t m q) same (u, v, w, d, x, y, z) (i, j, k, e, f, g, h) =
    let segments : s ≡ t = one_decimal 4 65536 u i s t (omega arith) (cc) x f in
    let limits : l ≡ m = one_decimal 1 1024 v j l m (omega arith) (cc) y g in
    let readers : r ≡ q = one_decimal 1 8 w k r q (omega arith) (cc) z h in cc
one_listener vs ws g h same a b = absurd (omega (arith, listener_marked vs g a, listener_marked ws h b, ap first same))

one_reaction : (vs ws : List (List ℕ)) (g h : Reaction) → vs ≡ ws → IsReaction vs g → IsReaction ws h → g ≡ h
one_reaction vs ws (reaction.StartRetarget m) (reaction.StartRetarget n) same (v, d, x) (w, e, y) = ap reaction.StartRetarget (one_worker v w m n (cc) x y)
one_reaction vs ws reaction.StartSuspend reaction.StartSuspend same a b = refl
one_reaction vs ws (reaction.StartCancel s) (reaction.StartCancel t) same (v, d, x) (w, e, y) = ap reaction.StartCancel (one_status v w s t (cc) x y)
one_reaction vs ws (reaction.StartFail s) (reaction.StartFail t) same (v, d, x) (w, e, y) = ap reaction.StartFail (one_status v w s t (cc) x y)
one_reaction vs ws (reaction.BytesFail m s) (reaction.BytesFail n t) same (u, v, d, x, f) (i, w, e, y, g) =
    let equal : m ≡ n = one_decimal 1 65536 u i m n (omega arith) (cc) x y in
    let failed : s ≡ t = one_status v w s t (cc) f g in cc
one_reaction vs ws g h same a b = absurd (omega (arith, reaction_marked vs g a, reaction_marked ws h b, ap reaction_words same))

one_act : (vs ws : List (List ℕ)) (g h : Act) → vs ≡ ws → IsAct vs g → IsAct ws h → g ≡ h
one_act vs ws act.Suspend act.Suspend same a b = refl
one_act vs ws act.Resume act.Resume same a b = refl
one_act vs ws (act.Cancel s) (act.Cancel t) same (v, d, x) (w, e, y) = ap act.Cancel (one_status v w s t (cc) x y)
one_act vs ws (act.Retarget m) (act.Retarget n) same (v, d, x) (w, e, y) = ap act.Retarget (one_worker v w m n (cc) x y)
one_act vs ws (act.Break s) (act.Break t) same (v, d, x) (w, e, y) = ap act.Break (one_status v w s t (cc) x y)
one_act vs ws g h same a b = absurd (omega (arith, act_marked vs g a, act_marked ws h b, ap first same))

one_control : (vs ws : List (List ℕ)) (g h : Control) → vs ≡ ws → IsControl vs g → IsControl ws h → g ≡ h
one_control vs ws g h same a b =
    let f : ℕ → Act → Control = λ n x. record { after = n; act = x } in
    let d = a.spelled in
    let e = b.spelled in
    let counts : a.count ≡ b.count = cc in
    let calls : a.call ≡ b.call = cc in
    let afters : g.after ≡ h.after = one_decimal 0 100000 a.count b.count g.after h.after (omega arith) counts a.after b.after in
    let acts : g.act ≡ h.act = one_act a.call b.call g.act h.act calls a.performed b.performed in
    ap (λ (n : ℕ). f n g.act) afters ∙ ap (λ (x : Act). f h.after x) acts

one_step : (vs ws : List (List ℕ)) (g h : Step) → vs ≡ ws → IsStep vs g → IsStep ws h → g ≡ h
one_step vs ws step.Act step.Act same a b = refl
one_step vs ws step.Verdict step.Verdict same a b = refl
one_step vs ws step.Fetch step.Fetch same a b = refl
one_step vs ws step.Up step.Up same a b = refl
one_step vs ws step.Forward step.Forward same a b = refl
one_step vs ws step.Main step.Main same a b = refl
one_step vs ws step.Back step.Back same a b = refl
one_step vs ws step.Release step.Release same a b = refl
one_step vs ws (step.Begin s) (step.Begin t) same (v, d, x) (w, e, y) = ap step.Begin (one_target v w s t (cc) x y)
one_step vs ws (step.Finish s) (step.Finish t) same (v, d, x) (w, e, y) = ap step.Finish (one_target v w s t (cc) x y)
one_step vs ws (step.Read m) (step.Read n) same (v, d, x) (w, e, y) = ap step.Read (one_decimal 1 8 v w m n (omega arith) (cc) x y)
one_step vs ws g h same a b = absurd (omega (arith, step_marked vs g a, step_marked ws h b, ap first same))

module _ (laws : LineLaws) where
  one_field : (xs ys : List ℕ) (f g : Field) → xs ≡ ys → IsField xs f → IsField ys g → f ≡ g
  one_field xs ys f g same a b =
      let make : List ℕ → List ℕ → Field = λ n v. record { name = n; value = v } in
      let c = laws.field xs f a in
      let d = laws.field xs g (subst (λ (zs : List ℕ). IsField zs g) (sym same) b) in
      let names : f.name ≡ g.name = sym c.0 ∙ d.0 in
      let somes : Some f.value ≡ Some g.value = sym c.1 ∙ d.1 in
      let values : f.value ≡ g.value = cc in
      ap (λ (n : List ℕ). make n f.value) names ∙ ap (λ (v : List ℕ). make g.name v) values

  -- LINES

  pub one_line : (k : Keyword) (channels : ℕ) (text : List ℕ) (l m : Line) → channels < 2 ^ 64 → IsLineOf k channels text l → IsLineOf k channels text m → l ≡ m
  one_line key.Script channels text l m few (s, d) (t, e) = d ∙ sym e
  one_line key.Channel channels text l m few (s, d) (t, e) = d ∙ sym e
  one_line key.Hop channels text l m few (vs, g, s, x, d) (ws, h, t, y, e) = d ∙ (ap line.Hop (one_hop vs ws g h (cc) x y) ∙ sym e)
  one_line key.Field channels text l m few (xs, f, s, x, d) (ys, g, t, y, e) = d ∙ (ap line.Field (one_field xs ys f g (cc) x y) ∙ sym e)
  one_line key.Piece channels text l m few (xs, s, x, d) (ys, t, y, e) = let same : xs ≡ ys = cc in d ∙ (ap line.Piece same ∙ sym e)
  one_line key.Hex channels text l m few (xs, bs, s, x, p, d) (ys, cs, t, y, q, e) =
      let same : xs ≡ ys = cc in
      d ∙ (ap line.Piece (one_bytes xs bs cs x (subst (λ (zs : List ℕ). IsBytes zs cs) (sym same) y)) ∙ sym e)
  one_line key.Fill channels text l m few (u, v, b, n, s, x, p, d) (i, j, c, o, t, y, q, e) =
      let bytes : b ≡ c = one_byte u i b c (cc) x y in
      let counts : n ≡ o = one_decimal 1 131072 v j n o (omega arith) (cc) p q in
      d ∙ (ap (λ (z : ℕ). line.Piece (replicate n z)) bytes ∙ (ap (λ (z : ℕ). line.Piece (replicate z c)) counts ∙ sym e))
  one_line key.End channels text l m few (vs, g, s, x, d) (ws, h, t, y, e) = d ∙ (ap line.End (one_end vs ws g h (cc) x y) ∙ sym e)
  one_line key.Trailer channels text l m few (xs, f, s, x, d) (ys, g, t, y, e) = d ∙ (ap line.Trailer (one_field xs ys f g (cc) x y) ∙ sym e)
  one_line key.Listener channels text l m few (vs, g, s, x, d) (ws, h, t, y, e) = d ∙ (ap line.Listener (one_listener vs ws g h (cc) x y) ∙ sym e)
  one_line key.Retargetable channels text l m few (s, d) (t, e) = d ∙ sym e
  one_line key.Window channels text l m few (v, n, s, x, d) (w, o, t, y, e) = d ∙ (ap line.Window (one_decimal 1 16777216 v w n o (omega arith) (cc) x y) ∙ sym e)
  one_line key.Start channels text l m few (s, d) (t, e) = d ∙ sym e
  one_line key.Closed channels text l m few (s, d) (t, e) = d ∙ sym e
  one_line key.At channels text l m few (vs, g, s, x, d) (ws, h, t, y, e) = d ∙ (ap line.Reaction (one_reaction vs ws g h (cc) x y) ∙ sym e)
  one_line key.When channels text l m few (vs, g, s, x, d) (ws, h, t, y, e) = d ∙ (ap line.Control (one_control vs ws g h (cc) x y) ∙ sym e)
  one_line key.Schedule channels text l m few (s, d) (t, e) = d ∙ sym e
  one_line key.Number channels text l m few (v, vs, i, s, x, a, d) (w, ws, j, t, y, b, e) =
      let make : ℕ → Step → ScheduleItem = λ n z. record { channel = n; step = z } in
      let channel_same : i.channel ≡ j.channel = one_decimal 1 channels v w i.channel j.channel few (cc) x y in
      let step_same : i.step ≡ j.step = one_step vs ws i.step j.step (cc) a b in
      d ∙ (ap line.Step (ap (λ (n : ℕ). make n i.step) channel_same ∙ ap (λ (z : Step). make j.channel z) step_same) ∙ sym e)
