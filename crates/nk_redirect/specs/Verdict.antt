-- What a child answers on a redirect. After Firefox's HttpChannelChild in outline.
use Rattle.std.specs.Prelude.{ℕ, if◌then◌else◌, Option, Some, None}
use Rattle.nk_base.specs.declared.status.Status.{Status}
use Rattle.nk_base.specs.Status.{ok, is_failure}
use Rattle.nk_plan.specs.declared.plan.Verdict.{Verdict}
use Rattle.nk_plan.specs.declared.plan.Verdict.TheVariants as verdict
use Rattle.nk_redirect.specs.declared.child_half.Answer.{Answer}
use Rattle.nk_redirect.specs.declared.child_half.Answer.TheVariants as answer

-- the veto, or 0 where the redirect is allowed
abbrev pub veto_of : Verdict → Status
veto_of verdict.Allow = ok
veto_of (verdict.Veto s) = s

-- the failure that is kept goes before the veto
abbrev pub verdict_status : Status → Verdict → Status
verdict_status kept v = if is_failure kept then kept else veto_of v

-- the answer on the hop of the open question
abbrev pub verdict_answer : Option ℕ → Status → Verdict → Answer
verdict_answer None kept v = answer.Idle
verdict_answer (Some hop) kept v = answer.Verify hop (verdict_status kept v)
