-- The words of each line of the journals. This project's own.
use Rattle.std.specs.Prelude.{ℕ, List, [], ◌∷◌, ◌==◌, if◌then◌else◌, length, codes, decimal}
use Rattle.nk_base.specs.declared.status.RetargetError.{RetargetError}
use Rattle.nk_base.specs.declared.status.RetargetError.TheVariants as refusal
use Rattle.nk_base.specs.declared.message.MainMsg.{MainMsg}
use Rattle.nk_base.specs.declared.message.MainMsg.TheVariants as main
use Rattle.nk_base.specs.declared.message.BackMsg.{BackMsg}
use Rattle.nk_base.specs.declared.message.BackMsg.TheVariants as back
use Rattle.nk_base.specs.declared.message.UpMsg.{UpMsg}
use Rattle.nk_base.specs.declared.message.UpMsg.TheVariants as up
use Rattle.nk_plan.specs.declared.journal.ParentEntry.{ParentEntry}
use Rattle.nk_plan.specs.declared.journal.ParentEntry.TheVariants as parent
use Rattle.nk_plan.specs.declared.journal.ChildEntry.{ChildEntry}
use Rattle.nk_plan.specs.declared.journal.ChildEntry.TheVariants as child
use Rattle.nk_trace.specs.Words.{code_text, status_text}
use Rattle.nk_trace.specs.Journals.{target_text, worker_text}

-- a message of the main lane
abbrev pub main_words : MainMsg → List (List ℕ)
main_words (main.Start hop status head) =
    codes "start" ∷ decimal hop ∷ status_text status ∷ code_text head.code ∷ decimal (length head.fields) ∷ []
main_words (main.FailedOpen hop status) = codes "failed" ∷ decimal hop ∷ status_text status ∷ []
main_words (main.Redirect1 hop code) = codes "redirect1" ∷ decimal hop ∷ code_text code ∷ []
main_words (main.Redirect3 hop) = codes "redirect3" ∷ decimal hop ∷ []

-- the number of a stop's trailers, where there are any
abbrev pub count_words : ℕ → List (List ℕ)
count_words count = if count == 0 then [] else decimal count ∷ []

-- a message of the background lane
abbrev pub back_words : BackMsg → List (List ℕ)
back_words (back.StartSent hop) = codes "sent" ∷ decimal hop ∷ []
back_words (back.Start hop status head) =
    codes "bstart" ∷ decimal hop ∷ status_text status ∷ code_text head.code ∷ decimal (length head.fields) ∷ []
back_words (back.Bytes hop status offset piece) =
    codes "bytes" ∷ decimal hop ∷ status_text status ∷ decimal offset ∷ decimal (length piece) ∷ []
back_words (back.Stop hop status trailers) = codes "stop" ∷ decimal hop ∷ status_text status ∷ count_words (length trailers)

-- a message of the up lane
abbrev pub up_words : UpMsg → List (List ℕ)
up_words up.Open = codes "open" ∷ []
up_words up.Suspend = codes "suspend" ∷ []
up_words up.Resume = codes "resume" ∷ []
up_words (up.Cancel status) = codes "cancel" ∷ status_text status ∷ []
up_words (up.Verify hop status) = codes "verify" ∷ decimal hop ∷ status_text status ∷ []
up_words (up.BytesRead count) = codes "read" ∷ decimal count ∷ []
up_words up.Deleting = codes "deleting" ∷ []

-- an entry of a parent's journal
abbrev pub parent_words : ParentEntry → List (List ℕ)
parent_words (parent.Took message) = codes "p" ∷ up_words message
parent_words (parent.SentMain message) = codes "p" ∷ codes "send" ∷ main_words message
parent_words (parent.SentBack message) = codes "p" ∷ codes "send" ∷ back_words message

-- why a channel was not retargeted
abbrev pub refusal_words : RetargetError → List (List ℕ)
refusal_words refusal.NotOpened = codes "notopened" ∷ []
refusal_words refusal.Stopped = codes "stopped" ∷ []
refusal_words (refusal.Failed status) = codes "failed" ∷ status_text status ∷ []
refusal_words refusal.NotRetargetable = codes "notretargetable" ∷ []
refusal_words (refusal.AlreadyRetargeted worker) = codes "already" ∷ worker_text worker ∷ []

-- an entry of a child's journal, behind the first word
abbrev pub child_behind : ChildEntry → List (List ℕ)
child_behind child.Open = codes "open" ∷ []
child_behind child.Suspend = codes "suspend" ∷ []
child_behind child.Resume = codes "resume" ∷ []
child_behind (child.Cancel status) = codes "cancel" ∷ status_text status ∷ []
child_behind (child.Break status) = codes "break" ∷ status_text status ∷ []
child_behind (child.Retarget worker) = codes "retarget" ∷ worker_text worker ∷ []
child_behind (child.NoRetarget error) = codes "refused" ∷ refusal_words error
child_behind child.NoEffect = codes "none" ∷ []
child_behind (child.Verdict hop status) = codes "verdict" ∷ decimal hop ∷ status_text status ∷ []
child_behind (child.TookMain message) = codes "main" ∷ main_words message
child_behind (child.TookBack message) = codes "back" ∷ back_words message
child_behind (child.Release count) = codes "release" ∷ decimal count ∷ []
child_behind (child.RunStart target code status) =
    codes "run" ∷ target_text target ∷ codes "start" ∷ code_text code ∷ status_text status ∷ []
child_behind (child.RunBytes target offset size) =
    codes "run" ∷ target_text target ∷ codes "bytes" ∷ decimal offset ∷ decimal size ∷ []
child_behind (child.RunDrop target offset status) =
    codes "run" ∷ target_text target ∷ codes "drop" ∷ decimal offset ∷ status_text status ∷ []
child_behind (child.RunStop target status) = codes "run" ∷ target_text target ∷ codes "stop" ∷ status_text status ∷ []
child_behind (child.RunRedirect1 target hop) = codes "run" ∷ target_text target ∷ codes "redirect1" ∷ decimal hop ∷ []
child_behind (child.RunRedirect3 target hop) = codes "run" ∷ target_text target ∷ codes "redirect3" ∷ decimal hop ∷ []
child_behind (child.RunCancel target status) = codes "run" ∷ target_text target ∷ codes "cancel" ∷ status_text status ∷ []
child_behind (child.HandOver from to) = codes "over" ∷ target_text from ∷ target_text to ∷ []
child_behind (child.Ended target) = codes "ended" ∷ target_text target ∷ []
child_behind (child.Complete target) = codes "complete" ∷ target_text target ∷ []
child_behind (child.Finish target) = codes "finish" ∷ target_text target ∷ []
child_behind (child.Prepend status) = codes "prepend" ∷ status_text status ∷ []

-- an entry of a child's journal
abbrev pub child_words : ChildEntry → List (List ℕ)
child_words entry = codes "c" ∷ child_behind entry
