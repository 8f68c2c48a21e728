-- What the two journals of a channel say. This project's own.
use Rattle.std.specs.Prelude.{ℕ, suc, ◌≡◌, Bool, true, false, ◌||◌, if◌then◌else◌, List, [], ◌∷◌, ◌++◌, Option, Some, None}
use Rattle.nk_base.specs.declared.status.Status.{Status}
use Rattle.nk_base.specs.declared.message.MainMsg.{MainMsg}
use Rattle.nk_base.specs.declared.message.BackMsg.{BackMsg}
use Rattle.nk_base.specs.declared.message.UpMsg.{UpMsg}
use Rattle.nk_plan.specs.declared.journal.ParentEntry.{ParentEntry}
use Rattle.nk_plan.specs.declared.journal.ChildEntry.{ChildEntry}
use Rattle.nk_base.specs.Status.{failure, or_else}
use Rattle.nk_plan.specs.declared.journal.ParentEntry.TheVariants as parent
use Rattle.nk_plan.specs.declared.journal.ChildEntry.TheVariants as child

-- The failure of a load: the first that an entry of the child's journal brings

abbrev pub failure_in : ChildEntry → Option Status
failure_in (child.Cancel s) = failure s
failure_in (child.Break s) = failure s
failure_in (child.RunStart t code s) = failure s
failure_in (child.RunDrop t o s) = failure s
failure_in (child.RunStop t s) = failure s
failure_in (child.RunCancel t s) = failure s
failure_in _ = None

abbrev pub first : List ChildEntry → Option Status
first [] = None
first (e ∷ j) = or_else (failure_in e) (first j)

-- no entry is the run of a piece behind an entry that brings a failure; q is the failure of the entries before, if any
abbrev pub is_data : ChildEntry → Bool
is_data (child.RunBytes t o n) = true
is_data _ = false

abbrev pub NoDataBehind : Option Status → List ChildEntry → Type 0
NoDataBehind q [] = Unit {0}
NoDataBehind q (e ∷ j) = (is_data e ≡ true → q ≡ None) × NoDataBehind (or_else q (failure_in e)) j

-- how many entries of a journal are of a kind
abbrev pub count_of : (ChildEntry → Bool) → List ChildEntry → ℕ
count_of is [] = 0
count_of is (e ∷ j) = if is e then suc (count_of is j) else count_of is j

-- The hop at which the load ends: the number of redirects that were completed

abbrev pub is_redirect3 : ChildEntry → Bool
is_redirect3 (child.RunRedirect3 t h) = true
is_redirect3 _ = false

abbrev pub final : List ChildEntry → ℕ
final j = count_of is_redirect3 j

-- Whether the load was cut before its start: a break stands in the journal, and no run of a start before it

-- what an entry says: a break has come (true), the start has run (false), or neither
abbrev pub opening_in : ChildEntry → Option Bool
opening_in (child.Break s) = Some true
opening_in (child.RunStart t code s) = Some false
opening_in _ = None

-- what the first entry says that says one of the two
abbrev pub opening : List ChildEntry → Option Bool
opening [] = None
opening (e ∷ j) = or_else (opening_in e) (opening j)

abbrev pub is_true : Option Bool → Bool
is_true None = false
is_true (Some b) = b

abbrev pub cut : List ChildEntry → Bool
cut j = is_true (opening j)

-- The calls of the page, and the callbacks that have returned

abbrev pub is_open : ChildEntry → Bool
is_open child.Open = true
is_open _ = false

abbrev pub has_open : List ChildEntry → Bool
has_open [] = false
has_open (e ∷ j) = is_open e || has_open j

abbrev pub is_suspend : ChildEntry → Bool
is_suspend child.Suspend = true
is_suspend _ = false

abbrev pub is_resume : ChildEntry → Bool
is_resume child.Resume = true
is_resume _ = false

abbrev pub is_finish : ChildEntry → Bool
is_finish (child.Finish t) = true
is_finish _ = false

-- The messages that a child took, lane by lane

abbrev pub main_in : ChildEntry → List MainMsg
main_in (child.TookMain m) = m ∷ []
main_in _ = []

abbrev pub mains_taken : List ChildEntry → List MainMsg
mains_taken [] = []
mains_taken (e ∷ j) = main_in e ++ mains_taken j

abbrev pub back_in : ChildEntry → List BackMsg
back_in (child.TookBack m) = m ∷ []
back_in _ = []

abbrev pub backs_taken : List ChildEntry → List BackMsg
backs_taken [] = []
backs_taken (e ∷ j) = back_in e ++ backs_taken j

-- The messages that a parent took, and those that it sent, lane by lane

abbrev pub ups_taken : List ParentEntry → List UpMsg
ups_taken [] = []
ups_taken (parent.Took m ∷ p) = m ∷ ups_taken p
ups_taken (parent.SentMain m ∷ p) = ups_taken p
ups_taken (parent.SentBack m ∷ p) = ups_taken p

abbrev pub mains_sent : List ParentEntry → List MainMsg
mains_sent [] = []
mains_sent (parent.Took m ∷ p) = mains_sent p
mains_sent (parent.SentMain m ∷ p) = m ∷ mains_sent p
mains_sent (parent.SentBack m ∷ p) = mains_sent p

abbrev pub backs_sent : List ParentEntry → List BackMsg
backs_sent [] = []
backs_sent (parent.Took m ∷ p) = backs_sent p
backs_sent (parent.SentMain m ∷ p) = backs_sent p
backs_sent (parent.SentBack m ∷ p) = m ∷ backs_sent p
