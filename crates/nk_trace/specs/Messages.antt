-- The text of the messages of the three lanes. This project's own.
use Rattle.std.specs.Prelude.{ℕ, List, [], ◌∷◌, ◌++◌, ◌==◌, if◌then◌else◌, length, codes, decimal}
use Rattle.nk_base.specs.declared.field.Field.{Field}
use Rattle.nk_base.specs.declared.message.MainMsg.{MainMsg}
use Rattle.nk_base.specs.declared.message.MainMsg.TheVariants as main
use Rattle.nk_base.specs.declared.message.BackMsg.{BackMsg}
use Rattle.nk_base.specs.declared.message.BackMsg.TheVariants as back
use Rattle.nk_base.specs.declared.message.UpMsg.{UpMsg}
use Rattle.nk_base.specs.declared.message.UpMsg.TheVariants as up
use Rattle.nk_trace.specs.Words.{words, code_text, status_text}

-- a message of the main lane
abbrev pub main_text : MainMsg → List ℕ
main_text (main.Start hop status head) =
    words (codes "start" ∷ decimal hop ∷ status_text status ∷ code_text head.code ∷ decimal (length head.fields) ∷ [])
main_text (main.FailedOpen hop status) = words (codes "failed" ∷ decimal hop ∷ status_text status ∷ [])
main_text (main.Redirect1 hop code) = words (codes "redirect1" ∷ decimal hop ∷ code_text code ∷ [])
main_text (main.Redirect3 hop) = words (codes "redirect3" ∷ decimal hop ∷ [])

-- behind a stop: a space and the number of its trailers, where there are any
abbrev pub trailer_count : List Field → List ℕ
trailer_count trailers = if length trailers == 0 then [] else 32 ∷ decimal (length trailers)

-- a message of the background lane
abbrev pub back_text : BackMsg → List ℕ
back_text (back.StartSent hop) = words (codes "sent" ∷ decimal hop ∷ [])
back_text (back.Start hop status head) =
    words (codes "bstart" ∷ decimal hop ∷ status_text status ∷ code_text head.code ∷ decimal (length head.fields) ∷ [])
back_text (back.Bytes hop status offset piece) =
    words (codes "bytes" ∷ decimal hop ∷ status_text status ∷ decimal offset ∷ decimal (length piece) ∷ [])
back_text (back.Stop hop status trailers) =
    words (codes "stop" ∷ decimal hop ∷ status_text status ∷ []) ++ trailer_count trailers

-- a message of the up lane
abbrev pub up_text : UpMsg → List ℕ
up_text up.Open = codes "open"
up_text up.Suspend = codes "suspend"
up_text up.Resume = codes "resume"
up_text (up.Cancel status) = words (codes "cancel" ∷ status_text status ∷ [])
up_text (up.Verify hop status) = words (codes "verify" ∷ decimal hop ∷ status_text status ∷ [])
up_text (up.BytesRead count) = words (codes "read" ∷ decimal count ∷ [])
up_text up.Deleting = codes "deleting"
