-- What a parent asks on redirects. After Firefox's HttpChannelParentListener in outline; that at most 20 redirects are
-- followed is after nsHttpHandler.
use Rattle.std.specs.Prelude.{ℕ, Bool, false, if◌then◌else◌, ◌==◌, Option, Some, None}
use Rattle.nk_base.specs.declared.status.Status.{Status}
use Rattle.nk_base.specs.Status.{is_failure}
use Rattle.nk_redirect.specs.declared.parent_half.Begin.{Begin}
use Rattle.nk_redirect.specs.declared.parent_half.Begin.TheVariants as begin
use Rattle.nk_redirect.specs.declared.parent_half.Verified.{Verified}
use Rattle.nk_redirect.specs.declared.parent_half.Verified.TheVariants as answer

-- the hop of the open question, and the number of redirects that were followed
pub record Asking : Type 0 where
  pub question : Option ℕ
  pub followed : ℕ

-- nothing was asked or followed yet
abbrev pub never_asked : Asking
never_asked = record { question = None; followed = 0 }

-- a redirect is asked about, unless 20 were followed
abbrev pub begin_answer : Asking → Begin
begin_answer a = if a.followed == 20 then begin.Loop else begin.Ask

-- the question on the hop of a redirect that is asked about is open
abbrev pub begun : ℕ → Asking → Asking
begun hop a = if a.followed == 20 then a else record a { question = Some hop }

-- whether the question on this hop is open
abbrev pub is_asked : ℕ → Option ℕ → Bool
is_asked hop None = false
is_asked hop (Some asked) = asked == hop

-- an answer on a hop that was not asked about is astray; of the others a failure refuses the redirect
abbrev pub verified_answer : ℕ → Status → Asking → Verified
verified_answer hop status a =
    if is_asked hop a.question
    then (if is_failure status then answer.Refuse status else answer.Follow)
    else answer.Stray

-- an answer closes the question on its hop
abbrev pub verified : ℕ → Asking → Asking
verified hop a = if is_asked hop a.question then record a { question = None } else a
