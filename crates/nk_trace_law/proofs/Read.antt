-- The words of a journal's line, read back.
use Rattle.std.proofs.Common.{◌≡◌, ℕ, ◌+◌, ◌*◌, ◌<◌, ◌^◌, Bool, true, false, ◌==◌, if◌then◌else◌, List, [], ◌∷◌, codes, length, refl, sym, ap, ◌∙◌, eqb-true}
use Rattle.std.specs.Fmt.{decimal}
use Rattle.nk_base.specs.Heads.{HeadParts}
use Rattle.nk_base.specs.declared.status.Status.{Status}
use Rattle.nk_base.specs.declared.status.Target.{Target}
use Rattle.nk_base.specs.declared.status.Target.TheVariants as place
use Rattle.nk_base.specs.declared.status.RetargetError.{RetargetError}
use Rattle.nk_base.specs.declared.status.RetargetError.TheVariants as refusal
use Rattle.nk_base.specs.declared.message.MainMsg.{MainMsg}
use Rattle.nk_base.specs.declared.message.MainMsg.TheVariants as main
use Rattle.nk_base.specs.declared.message.BackMsg.{BackMsg}
use Rattle.nk_base.specs.declared.message.BackMsg.TheVariants as back
use Rattle.nk_base.specs.declared.message.UpMsg.{UpMsg}
use Rattle.nk_base.specs.declared.message.UpMsg.TheVariants as up
use Rattle.nk_plan.specs.declared.journal.ParentEntry.{ParentEntry}
use Rattle.nk_plan.specs.declared.journal.ParentEntry.TheVariants as parent
use Rattle.nk_plan.specs.declared.journal.ChildEntry.{ChildEntry}
use Rattle.nk_plan.specs.declared.journal.ChildEntry.TheVariants as child
use Rattle.nk_plan.specs.Run.{step_of, parent_step_of}
use Rattle.nk_trace.specs.Words.{words, code_text, status_text}
use Rattle.nk_trace.specs.Journals.{target_text}
use Rattle.nk_trace_law.specs.Shown.{some_bytes, some_fields, some_head, main_shown, back_shown, parent_shown, child_shown}
use Rattle.nk_trace_law.specs.Fits.{MainFits, BackFits, UpFits, ParentFits, TargetFits, RefusalFits, ChildFits}
use Rattle.nk_trace_law.specs.Spelled.{main_words, back_words, up_words, parent_words, refusal_words, child_words}
use Rattle.nk_trace_law.specs.StepLaws.{parent_step_text, child_step_text}
use Rattle.nk_trace_law.proofs.Tests.{first_byte}
use Rattle.nk_trace_law.proofs.Digits.{number, decimal_number, code_number, status, status_status}

-- WORDS AND THEIR PLACES

-- a number that tells the words of the journals apart
abbrev mark : List ℕ → ℕ
mark [] = 0
mark (b ∷ bs) = b + 3 * mark bs

abbrev is : List ℕ → List ℕ → Bool
is name word = mark word == mark name

abbrev pub at0 : List (List ℕ) → List ℕ
at0 [] = []
at0 (w ∷ ws) = w

abbrev pub rest : List (List ℕ) → List (List ℕ)
rest [] = []
rest (w ∷ ws) = ws

abbrev pub at1 : List (List ℕ) → List ℕ
at1 ws = at0 (rest ws)

abbrev pub at2 : List (List ℕ) → List ℕ
at2 ws = at1 (rest ws)

abbrev pub at3 : List (List ℕ) → List ℕ
at3 ws = at2 (rest ws)

abbrev pub at4 : List (List ℕ) → List ℕ
at4 ws = at3 (rest ws)

abbrev behind_byte : List ℕ → List ℕ
behind_byte [] = []
behind_byte (b ∷ bs) = bs

-- TARGETS

abbrev read_worker : List ℕ → ℕ
read_worker word = number (behind_byte word)

abbrev read_target : List ℕ → Target
read_target word = if first_byte word == 109 then place.Main else (if first_byte word == 98 then place.Back else place.Worker (read_worker word))

target_read : (t : Target) → TargetFits t → read_target (target_text t) ≡ t
target_read place.Main h = refl
target_read (place.Worker w) h = ap place.Worker (decimal_number w h)
target_read place.Back h = refl

abbrev read_refusal : List (List ℕ) → RetargetError
read_refusal ws =
    if is (codes "notopened") (at0 ws) then refusal.NotOpened
    else (if is (codes "stopped") (at0 ws) then refusal.Stopped
    else (if is (codes "failed") (at0 ws) then refusal.Failed (status (at1 ws))
    else (if is (codes "notretargetable") (at0 ws) then refusal.NotRetargetable
    else refusal.AlreadyRetargeted (read_worker (at1 ws)))))

refusal_read : (e : RetargetError) → RefusalFits e → read_refusal (refusal_words e) ≡ e
refusal_read refusal.NotOpened h = refl
refusal_read refusal.Stopped h = refl
refusal_read (refusal.Failed s) h = ap refusal.Failed (status_status s h)
refusal_read refusal.NotRetargetable h = refl
refusal_read (refusal.AlreadyRetargeted w) h = ap refusal.AlreadyRetargeted (decimal_number w h)

-- MESSAGES

abbrev read_head : List ℕ → List ℕ → HeadParts
read_head code count = some_head (number code) (number count)

head_read : (code count : ℕ) → code < 2 ^ 64 → count < 2 ^ 64 → read_head (code_text code) (decimal count) ≡ some_head code count
head_read code count p q =
    ap (λ (n : ℕ). some_head n (number (decimal count))) (code_number code p) ∙ ap (λ (n : ℕ). some_head code n) (decimal_number count q)

abbrev is_main : List ℕ → Bool
is_main word = if is (codes "start") word then true else (if is (codes "failed") word then true else (if is (codes "redirect1") word then true else is (codes "redirect3") word))

abbrev pub read_main : List (List ℕ) → MainMsg
read_main ws =
    if is (codes "start") (at0 ws) then main.Start (number (at1 ws)) (status (at2 ws)) (read_head (at3 ws) (at4 ws))
    else (if is (codes "failed") (at0 ws) then main.FailedOpen (number (at1 ws)) (status (at2 ws))
    else (if is (codes "redirect1") (at0 ws) then main.Redirect1 (number (at1 ws)) (number (at2 ws))
    else main.Redirect3 (number (at1 ws))))

pub main_read : (m : MainMsg) → MainFits m → read_main (main_words m) ≡ main_shown m
main_read (main.Start h s head) (p, q, r, c) =
    let hop = decimal_number h p in let state = status_status s q in let parts = head_read head.code (length head.fields) r c in
    ap (λ (x : ℕ). main.Start x (status (status_text s)) (read_head (code_text head.code) (decimal (length head.fields)))) hop
    ∙ (ap (λ (x : Status). main.Start h x (read_head (code_text head.code) (decimal (length head.fields)))) state ∙ ap (λ (x : HeadParts). main.Start h s x) parts)
main_read (main.FailedOpen h s) (p, q) = ap (λ (x : ℕ). main.FailedOpen x (status (status_text s))) (decimal_number h p) ∙ ap (λ (x : Status). main.FailedOpen h x) (status_status s q)
main_read (main.Redirect1 h c) (p, q) = ap (λ (x : ℕ). main.Redirect1 x (number (code_text c))) (decimal_number h p) ∙ ap (λ (x : ℕ). main.Redirect1 h x) (code_number c q)
main_read (main.Redirect3 h) p = ap main.Redirect3 (decimal_number h p)

-- the number of trailers, or none
abbrev read_count : List (List ℕ) → ℕ
read_count [] = 0
read_count (w ∷ ws) = number w

abbrev pub read_back : List (List ℕ) → BackMsg
read_back ws =
    if is (codes "sent") (at0 ws) then back.StartSent (number (at1 ws))
    else (if is (codes "bstart") (at0 ws) then back.Start (number (at1 ws)) (status (at2 ws)) (read_head (at3 ws) (at4 ws))
    else (if is (codes "bytes") (at0 ws) then back.Bytes (number (at1 ws)) (status (at2 ws)) (number (at3 ws)) (some_bytes (number (at4 ws)))
    else back.Stop (number (at1 ws)) (status (at2 ws)) (some_fields (read_count (rest (rest (rest ws)))))))

count_by : (n : ℕ) (none : Bool) → (n == 0) ≡ none → n < 2 ^ 64 → read_count (if none then [] else decimal n ∷ []) ≡ n
count_by n true e h = sym (eqb-true n 0 e)
count_by n false e h = decimal_number n h

pub back_read : (m : BackMsg) → BackFits m → read_back (back_words m) ≡ back_shown m
back_read (back.StartSent h) p = ap back.StartSent (decimal_number h p)
back_read (back.Start h s head) (p, q, r, c) =
    let hop = decimal_number h p in let state = status_status s q in let parts = head_read head.code (length head.fields) r c in
    ap (λ (x : ℕ). back.Start x (status (status_text s)) (read_head (code_text head.code) (decimal (length head.fields)))) hop
    ∙ (ap (λ (x : Status). back.Start h x (read_head (code_text head.code) (decimal (length head.fields)))) state ∙ ap (λ (x : HeadParts). back.Start h s x) parts)
back_read (back.Bytes h s o piece) (p, q, r, c) =
    ap (λ (x : ℕ). back.Bytes x (status (status_text s)) (number (decimal o)) (some_bytes (number (decimal (length piece))))) (decimal_number h p)
    ∙ (ap (λ (x : Status). back.Bytes h x (number (decimal o)) (some_bytes (number (decimal (length piece))))) (status_status s q)
    ∙ (ap (λ (x : ℕ). back.Bytes h s x (some_bytes (number (decimal (length piece))))) (decimal_number o r)
    ∙ ap (λ (x : ℕ). back.Bytes h s o (some_bytes x)) (decimal_number (length piece) c)))
back_read (back.Stop h s ts) (p, q, c) =
    let count = if length ts == 0 then [] else decimal (length ts) ∷ [] in
    ap (λ (x : ℕ). back.Stop x (status (status_text s)) (some_fields (read_count count))) (decimal_number h p)
    ∙ (ap (λ (x : Status). back.Stop h x (some_fields (read_count count))) (status_status s q)
    ∙ ap (λ (x : ℕ). back.Stop h s (some_fields x)) (count_by (length ts) (length ts == 0) refl c))

abbrev pub read_up : List (List ℕ) → UpMsg
read_up ws =
    if is (codes "open") (at0 ws) then up.Open
    else (if is (codes "suspend") (at0 ws) then up.Suspend
    else (if is (codes "resume") (at0 ws) then up.Resume
    else (if is (codes "cancel") (at0 ws) then up.Cancel (status (at1 ws))
    else (if is (codes "verify") (at0 ws) then up.Verify (number (at1 ws)) (status (at2 ws))
    else (if is (codes "read") (at0 ws) then up.BytesRead (number (at1 ws))
    else up.Deleting)))))

pub up_read : (m : UpMsg) → UpFits m → read_up (up_words m) ≡ m
up_read up.Open h = refl
up_read up.Suspend h = refl
up_read up.Resume h = refl
up_read (up.Cancel s) h = ap up.Cancel (status_status s h)
up_read (up.Verify h s) (p, q) = ap (λ (x : ℕ). up.Verify x (status (status_text s))) (decimal_number h p) ∙ ap (λ (x : Status). up.Verify h x) (status_status s q)
up_read (up.BytesRead n) h = ap up.BytesRead (decimal_number n h)
up_read up.Deleting h = refl

-- THE PARENT'S JOURNAL

abbrev read_sent : List (List ℕ) → ParentEntry
read_sent ws = if is_main (at0 ws) then parent.SentMain (read_main ws) else parent.SentBack (read_back ws)

abbrev pub read_parent : List (List ℕ) → ParentEntry
read_parent ws = if is (codes "send") (at1 ws) then read_sent (rest (rest ws)) else parent.Took (read_up (rest ws))

sent_main : (m : MainMsg) → read_sent (main_words m) ≡ parent.SentMain (read_main (main_words m))
sent_main (main.Start h s head) = refl
sent_main (main.FailedOpen h s) = refl
sent_main (main.Redirect1 h c) = refl
sent_main (main.Redirect3 h) = refl

sent_back : (m : BackMsg) → read_sent (back_words m) ≡ parent.SentBack (read_back (back_words m))
sent_back (back.StartSent h) = refl
sent_back (back.Start h s head) = refl
sent_back (back.Bytes h s o piece) = refl
sent_back (back.Stop h s ts) = refl

took : (m : UpMsg) → read_parent (codes "p" ∷ up_words m) ≡ parent.Took (read_up (up_words m))
took up.Open = refl
took up.Suspend = refl
took up.Resume = refl
took (up.Cancel s) = refl
took (up.Verify h s) = refl
took (up.BytesRead n) = refl
took up.Deleting = refl

pub parent_read : (e : ParentEntry) → ParentFits e → read_parent (parent_words e) ≡ parent_shown e
parent_read (parent.Took m) h = took m ∙ ap parent.Took (up_read m h)
parent_read (parent.SentMain m) h = sent_main m ∙ ap parent.SentMain (main_read m h)
parent_read (parent.SentBack m) h = sent_back m ∙ ap parent.SentBack (back_read m h)

-- the step of a line
abbrev pub parent_step_words : List (List ℕ) → List ℕ
parent_step_words ws = if is (codes "send") (at1 ws) then codes "fetch" else codes "up"

took_step : (m : UpMsg) → parent_step_words (codes "p" ∷ up_words m) ≡ codes "up"
took_step up.Open = refl
took_step up.Suspend = refl
took_step up.Resume = refl
took_step (up.Cancel s) = refl
took_step (up.Verify h s) = refl
took_step (up.BytesRead n) = refl
took_step up.Deleting = refl

pub parent_step_read : (e : ParentEntry) → parent_step_words (parent_words e) ≡ parent_step_text (parent_step_of e)
parent_step_read (parent.Took m) = took_step m
parent_step_read (parent.SentMain m) = refl
parent_step_read (parent.SentBack m) = refl

-- THE CHILD'S JOURNAL

-- what ran on a target
abbrev read_run : Target → List (List ℕ) → ChildEntry
read_run target ws =
    if is (codes "start") (at0 ws) then child.RunStart target (number (at1 ws)) (status (at2 ws))
    else (if is (codes "bytes") (at0 ws) then child.RunBytes target (number (at1 ws)) (number (at2 ws))
    else (if is (codes "drop") (at0 ws) then child.RunDrop target (number (at1 ws)) (status (at2 ws))
    else (if is (codes "stop") (at0 ws) then child.RunStop target (status (at1 ws))
    else (if is (codes "redirect1") (at0 ws) then child.RunRedirect1 target (number (at1 ws))
    else (if is (codes "redirect3") (at0 ws) then child.RunRedirect3 target (number (at1 ws))
    else child.RunCancel target (status (at1 ws)))))))

-- the words behind the first
abbrev read_behind : List (List ℕ) → ChildEntry
read_behind ws =
    if is (codes "run") (at0 ws) then read_run (read_target (at1 ws)) (rest (rest ws))
    else (if is (codes "open") (at0 ws) then child.Open
    else (if is (codes "suspend") (at0 ws) then child.Suspend
    else (if is (codes "resume") (at0 ws) then child.Resume
    else (if is (codes "cancel") (at0 ws) then child.Cancel (status (at1 ws))
    else (if is (codes "break") (at0 ws) then child.Break (status (at1 ws))
    else (if is (codes "retarget") (at0 ws) then child.Retarget (read_worker (at1 ws))
    else (if is (codes "refused") (at0 ws) then child.NoRetarget (read_refusal (rest ws))
    else (if is (codes "none") (at0 ws) then child.NoEffect
    else (if is (codes "verdict") (at0 ws) then child.Verdict (number (at1 ws)) (status (at2 ws))
    else (if is (codes "main") (at0 ws) then child.TookMain (read_main (rest ws))
    else (if is (codes "back") (at0 ws) then child.TookBack (read_back (rest ws))
    else (if is (codes "release") (at0 ws) then child.Release (number (at1 ws))
    else (if is (codes "over") (at0 ws) then child.HandOver (read_target (at1 ws)) (read_target (at2 ws))
    else (if is (codes "ended") (at0 ws) then child.Ended (read_target (at1 ws))
    else (if is (codes "complete") (at0 ws) then child.Complete (read_target (at1 ws))
    else (if is (codes "finish") (at0 ws) then child.Finish (read_target (at1 ws))
    else child.Prepend (status (at1 ws))))))))))))))))))

abbrev pub read_child : List (List ℕ) → ChildEntry
read_child ws = read_behind (rest ws)

pub child_read : (e : ChildEntry) → ChildFits e → read_child (child_words e) ≡ child_shown e
child_read child.Open h = refl
child_read child.Suspend h = refl
child_read child.Resume h = refl
child_read (child.Cancel s) h = ap child.Cancel (status_status s h)
child_read (child.Break s) h = ap child.Break (status_status s h)
child_read (child.Retarget w) h = ap child.Retarget (decimal_number w h)
child_read (child.NoRetarget e) h = ap child.NoRetarget (refusal_read e h)
child_read child.NoEffect h = refl
child_read (child.Verdict h s) (p, q) = ap (λ (x : ℕ). child.Verdict x (status (status_text s))) (decimal_number h p) ∙ ap (λ (x : Status). child.Verdict h x) (status_status s q)
child_read (child.TookMain m) h = ap child.TookMain (main_read m h)
child_read (child.TookBack m) h = ap child.TookBack (back_read m h)
child_read (child.Release n) h = ap child.Release (decimal_number n h)
child_read (child.RunStart t c s) (p, q, r) =
    ap (λ (x : Target). child.RunStart x (number (code_text c)) (status (status_text s))) (target_read t p)
    ∙ (ap (λ (x : ℕ). child.RunStart t x (status (status_text s))) (code_number c q) ∙ ap (λ (x : Status). child.RunStart t c x) (status_status s r))
child_read (child.RunBytes t o n) (p, q, r) =
    ap (λ (x : Target). child.RunBytes x (number (decimal o)) (number (decimal n))) (target_read t p)
    ∙ (ap (λ (x : ℕ). child.RunBytes t x (number (decimal n))) (decimal_number o q) ∙ ap (λ (x : ℕ). child.RunBytes t o x) (decimal_number n r))
child_read (child.RunDrop t o s) (p, q, r) =
    ap (λ (x : Target). child.RunDrop x (number (decimal o)) (status (status_text s))) (target_read t p)
    ∙ (ap (λ (x : ℕ). child.RunDrop t x (status (status_text s))) (decimal_number o q) ∙ ap (λ (x : Status). child.RunDrop t o x) (status_status s r))
child_read (child.RunStop t s) (p, q) = ap (λ (x : Target). child.RunStop x (status (status_text s))) (target_read t p) ∙ ap (λ (x : Status). child.RunStop t x) (status_status s q)
child_read (child.RunRedirect1 t h) (p, q) = ap (λ (x : Target). child.RunRedirect1 x (number (decimal h))) (target_read t p) ∙ ap (λ (x : ℕ). child.RunRedirect1 t x) (decimal_number h q)
child_read (child.RunRedirect3 t h) (p, q) = ap (λ (x : Target). child.RunRedirect3 x (number (decimal h))) (target_read t p) ∙ ap (λ (x : ℕ). child.RunRedirect3 t x) (decimal_number h q)
child_read (child.RunCancel t s) (p, q) = ap (λ (x : Target). child.RunCancel x (status (status_text s))) (target_read t p) ∙ ap (λ (x : Status). child.RunCancel t x) (status_status s q)
child_read (child.HandOver t u) (p, q) = ap (λ (x : Target). child.HandOver x (read_target (target_text u))) (target_read t p) ∙ ap (λ (x : Target). child.HandOver t x) (target_read u q)
child_read (child.Ended t) h = ap child.Ended (target_read t h)
child_read (child.Complete t) h = ap child.Complete (target_read t h)
child_read (child.Finish t) h = ap child.Finish (target_read t h)
child_read (child.Prepend s) h = ap child.Prepend (status_status s h)

-- the step of a line: of a target's, the target's text stays as it is
abbrev step_behind : List (List ℕ) → List ℕ
step_behind ws =
    if is (codes "verdict") (at0 ws) then codes "verdict"
    else (if is (codes "main") (at0 ws) then codes "main"
    else (if is (codes "back") (at0 ws) then codes "back"
    else (if is (codes "release") (at0 ws) then codes "release"
    else (if is (codes "finish") (at0 ws) then words (codes "finish" ∷ at1 ws ∷ [])
    else (if is (codes "run") (at0 ws) then words (codes "begin" ∷ at1 ws ∷ [])
    else (if is (codes "over") (at0 ws) then words (codes "begin" ∷ at1 ws ∷ [])
    else (if is (codes "ended") (at0 ws) then words (codes "begin" ∷ at1 ws ∷ [])
    else (if is (codes "complete") (at0 ws) then words (codes "begin" ∷ at1 ws ∷ [])
    else codes "act"))))))))

abbrev pub child_step_words : List (List ℕ) → List ℕ
child_step_words ws = step_behind (rest ws)

pub child_step_read : (e : ChildEntry) → child_step_words (child_words e) ≡ child_step_text (step_of e)
child_step_read child.Open = refl
child_step_read child.Suspend = refl
child_step_read child.Resume = refl
child_step_read (child.Cancel s) = refl
child_step_read (child.Break s) = refl
child_step_read (child.Retarget w) = refl
child_step_read (child.NoRetarget e) = refl
child_step_read child.NoEffect = refl
child_step_read (child.Verdict h s) = refl
child_step_read (child.TookMain m) = refl
child_step_read (child.TookBack m) = refl
child_step_read (child.Release n) = refl
child_step_read (child.RunStart t c s) = refl
child_step_read (child.RunBytes t o n) = refl
child_step_read (child.RunDrop t o s) = refl
child_step_read (child.RunStop t s) = refl
child_step_read (child.RunRedirect1 t h) = refl
child_step_read (child.RunRedirect3 t h) = refl
child_step_read (child.RunCancel t s) = refl
child_step_read (child.HandOver t u) = refl
child_step_read (child.Ended t) = refl
child_step_read (child.Complete t) = refl
child_step_read (child.Finish t) = refl
child_step_read (child.Prepend s) = refl
