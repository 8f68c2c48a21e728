-- What a printed text tells. This project's own.
use Rattle.std.specs.Prelude.{◌≡◌}
use Rattle.nk_base.specs.declared.message.MainMsg.{MainMsg}
use Rattle.nk_base.specs.declared.message.BackMsg.{BackMsg}
use Rattle.nk_base.specs.declared.message.UpMsg.{UpMsg}
use Rattle.nk_plan.specs.declared.journal.ParentEntry.{ParentEntry}
use Rattle.nk_plan.specs.declared.journal.ChildEntry.{ChildEntry}
use Rattle.nk_trace.specs.Messages.{main_text, back_text, up_text}
use Rattle.nk_trace.specs.Journals.{parent_line, child_line}
use Rattle.nk_trace_law.specs.Shown.{main_shown, back_shown, parent_shown, child_shown}
use Rattle.nk_trace_law.specs.Fits.{MainFits, BackFits, UpFits, ParentFits, ChildFits}

-- MESSAGES

-- the text of a message is that of the same message with all blank that is not shown
pub record BlankLaws : Type 0 where
  pub main : (m : MainMsg) → main_text (main_shown m) ≡ main_text m
  pub back : (m : BackMsg) → back_text (back_shown m) ≡ back_text m
  pub parent : (e : ParentEntry) → parent_line (parent_shown e) ≡ parent_line e
  pub child : (e : ChildEntry) → child_line (child_shown e) ≡ child_line e

-- and it tells all that is shown, where the numbers fit
abbrev pub MainTextLaw : Type 0
MainTextLaw = (m n : MainMsg) → MainFits m → MainFits n → main_text m ≡ main_text n → main_shown m ≡ main_shown n

abbrev pub BackTextLaw : Type 0
BackTextLaw = (m n : BackMsg) → BackFits m → BackFits n → back_text m ≡ back_text n → back_shown m ≡ back_shown n

abbrev pub UpTextLaw : Type 0
UpTextLaw = (m n : UpMsg) → UpFits m → UpFits n → up_text m ≡ up_text n → m ≡ n

-- JOURNALS

abbrev pub ParentLineLaw : Type 0
ParentLineLaw = (d e : ParentEntry) → ParentFits d → ParentFits e → parent_line d ≡ parent_line e → parent_shown d ≡ parent_shown e

abbrev pub ChildLineLaw : Type 0
ChildLineLaw = (d e : ChildEntry) → ChildFits d → ChildFits e → child_line d ≡ child_line e → child_shown d ≡ child_shown e
