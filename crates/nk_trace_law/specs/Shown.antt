-- What the text of a message leaves out, made blank: the fields of a head, the bytes of a piece and the trailers of a stop. How
-- many they are is printed, and stays. This project's own.
use Rattle.std.specs.Prelude.{ℕ, List, [], length, replicate}
use Rattle.nk_base.specs.Heads.{HeadParts}
use Rattle.nk_base.specs.declared.field.Field.{Field}
use Rattle.nk_base.specs.declared.message.MainMsg.{MainMsg}
use Rattle.nk_base.specs.declared.message.MainMsg.TheVariants as main
use Rattle.nk_base.specs.declared.message.BackMsg.{BackMsg}
use Rattle.nk_base.specs.declared.message.BackMsg.TheVariants as back
use Rattle.nk_plan.specs.declared.journal.ParentEntry.{ParentEntry}
use Rattle.nk_plan.specs.declared.journal.ParentEntry.TheVariants as parent
use Rattle.nk_plan.specs.declared.journal.ChildEntry.{ChildEntry}
use Rattle.nk_plan.specs.declared.journal.ChildEntry.TheVariants as child

-- so many bytes
abbrev pub some_bytes : ℕ → List ℕ
some_bytes count = replicate count 0

-- so many fields
abbrev pub some_fields : ℕ → List Field
some_fields count = replicate count (record { name = []; value = [] })

-- a head of this code, with so many fields
abbrev pub some_head : ℕ → ℕ → HeadParts
some_head code count = record { code = code; fields = some_fields count }

abbrev pub main_shown : MainMsg → MainMsg
main_shown (main.Start hop status head) = main.Start hop status (some_head head.code (length head.fields))
main_shown (main.FailedOpen hop status) = main.FailedOpen hop status
main_shown (main.Redirect1 hop code) = main.Redirect1 hop code
main_shown (main.Redirect3 hop) = main.Redirect3 hop

abbrev pub back_shown : BackMsg → BackMsg
back_shown (back.Start hop status head) = back.Start hop status (some_head head.code (length head.fields))
back_shown (back.StartSent hop) = back.StartSent hop
back_shown (back.Bytes hop status offset piece) = back.Bytes hop status offset (some_bytes (length piece))
back_shown (back.Stop hop status trailers) = back.Stop hop status (some_fields (length trailers))

-- of a message of the up lane all is printed
abbrev pub parent_shown : ParentEntry → ParentEntry
parent_shown (parent.Took message) = parent.Took message
parent_shown (parent.SentMain message) = parent.SentMain (main_shown message)
parent_shown (parent.SentBack message) = parent.SentBack (back_shown message)

-- so it is of each entry of a child that took no message
abbrev pub child_shown : ChildEntry → ChildEntry
child_shown (child.TookMain message) = child.TookMain (main_shown message)
child_shown (child.TookBack message) = child.TookBack (back_shown message)
child_shown entry = entry
