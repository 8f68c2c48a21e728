-- The lines of the journals, one for each entry. This project's own.
use Rattle.std.specs.Prelude.{ℕ, List, [], ◌∷◌, ◌++◌, codes, decimal}
use Rattle.nk_base.specs.declared.status.Target.{Target}
use Rattle.nk_base.specs.declared.status.Target.TheVariants as place
use Rattle.nk_base.specs.declared.status.RetargetError.{RetargetError}
use Rattle.nk_base.specs.declared.status.RetargetError.TheVariants as refusal
use Rattle.nk_plan.specs.declared.journal.ParentEntry.{ParentEntry}
use Rattle.nk_plan.specs.declared.journal.ParentEntry.TheVariants as parent
use Rattle.nk_plan.specs.declared.journal.ChildEntry.{ChildEntry}
use Rattle.nk_plan.specs.declared.journal.ChildEntry.TheVariants as child
use Rattle.nk_trace.specs.Words.{words, line, code_text, status_text}
use Rattle.nk_trace.specs.Messages.{main_text, back_text, up_text}

-- an entry of a parent's journal
abbrev pub parent_line : ParentEntry → List ℕ
parent_line (parent.Took message) = line (codes "p" ∷ up_text message ∷ [])
parent_line (parent.SentMain message) = line (codes "p send" ∷ main_text message ∷ [])
parent_line (parent.SentBack message) = line (codes "p send" ∷ back_text message ∷ [])

-- how many messages the parent's background half has moved on
abbrev pub forwarded_line : ℕ → List ℕ
forwarded_line count = line (codes "forwarded" ∷ decimal count ∷ [])

-- a worker
abbrev pub worker_text : ℕ → List ℕ
worker_text worker = codes "w" ++ decimal worker

-- where an event runs; no event runs on the thread of the background lane
abbrev pub target_text : Target → List ℕ
target_text place.Main = codes "main"
target_text (place.Worker worker) = worker_text worker
target_text place.Back = codes "back"

-- why a channel was not retargeted
abbrev pub refusal_text : RetargetError → List ℕ
refusal_text refusal.NotOpened = codes "notopened"
refusal_text refusal.Stopped = codes "stopped"
refusal_text (refusal.Failed status) = words (codes "failed" ∷ status_text status ∷ [])
refusal_text refusal.NotRetargetable = codes "notretargetable"
refusal_text (refusal.AlreadyRetargeted worker) = words (codes "already" ∷ worker_text worker ∷ [])

-- an entry of a child's journal
abbrev pub child_line : ChildEntry → List ℕ
child_line child.Open = line (codes "c open" ∷ [])
child_line child.Suspend = line (codes "c suspend" ∷ [])
child_line child.Resume = line (codes "c resume" ∷ [])
child_line (child.Cancel status) = line (codes "c cancel" ∷ status_text status ∷ [])
child_line (child.Break status) = line (codes "c break" ∷ status_text status ∷ [])
child_line (child.Retarget worker) = line (codes "c retarget" ∷ worker_text worker ∷ [])
child_line (child.NoRetarget error) = line (codes "c refused" ∷ refusal_text error ∷ [])
child_line child.NoEffect = line (codes "c none" ∷ [])
child_line (child.Verdict hop status) = line (codes "c verdict" ∷ decimal hop ∷ status_text status ∷ [])
child_line (child.TookMain message) = line (codes "c main" ∷ main_text message ∷ [])
child_line (child.TookBack message) = line (codes "c back" ∷ back_text message ∷ [])
child_line (child.Release count) = line (codes "c release" ∷ decimal count ∷ [])
child_line (child.RunStart target code status) =
    line (codes "c run" ∷ target_text target ∷ codes "start" ∷ code_text code ∷ status_text status ∷ [])
child_line (child.RunBytes target offset size) =
    line (codes "c run" ∷ target_text target ∷ codes "bytes" ∷ decimal offset ∷ decimal size ∷ [])
child_line (child.RunDrop target offset status) =
    line (codes "c run" ∷ target_text target ∷ codes "drop" ∷ decimal offset ∷ status_text status ∷ [])
child_line (child.RunStop target status) = line (codes "c run" ∷ target_text target ∷ codes "stop" ∷ status_text status ∷ [])
child_line (child.RunRedirect1 target hop) = line (codes "c run" ∷ target_text target ∷ codes "redirect1" ∷ decimal hop ∷ [])
child_line (child.RunRedirect3 target hop) = line (codes "c run" ∷ target_text target ∷ codes "redirect3" ∷ decimal hop ∷ [])
child_line (child.RunCancel target status) = line (codes "c run" ∷ target_text target ∷ codes "cancel" ∷ status_text status ∷ [])
child_line (child.HandOver from to) = line (codes "c over" ∷ target_text from ∷ target_text to ∷ [])
child_line (child.Ended target) = line (codes "c ended" ∷ target_text target ∷ [])
child_line (child.Complete target) = line (codes "c complete" ∷ target_text target ∷ [])
child_line (child.Finish target) = line (codes "c finish" ∷ target_text target ∷ [])
child_line (child.Prepend status) = line (codes "c prepend" ∷ status_text status ∷ [])
