-- How a load stands, told by what a child keeps.
use Rattle.std.proofs.Common.{ℕ, suc, ◌≡◌, ◌+◌, ◌-◌, length, refl, sym, ◌∙◌, ap, List, [], ◌∷◌, Bool, if◌then◌else◌, nat_lt, is_some, slice_get, Option, Some, None, arith}
use Rattle.std.proofs.lemmas.Bool.Decides.{nat_tests}
use Rattle.nk_base.specs.declared.message.Entry.{Entry}
use Rattle.nk_base.specs.declared.message.Entry.TheVariants as shown
use Rattle.nk_plan.specs.declared.plan.ChannelPlan.{ChannelPlan}
use Rattle.nk_plan.specs.declared.plan.Control.{Control}
use Rattle.nk_plan.specs.declared.ends.Ending.{Ending}
use Rattle.nk_plan.specs.declared.ends.Ending.TheVariants.{Stopped, Suspended, Unopened, Going}
use Rattle.nk_plan.specs.Journal.{count_of, has_open, is_suspend, is_resume, is_finish}
use Rattle.nk_plan.specs.Ending.{ending_of, ending_by, ends_in_stop, is_left_suspended, comes_at}
use Rattle.nk_plan.specs.Child.{ChildState, is_due}
use Rattle.nk_plan.specs.Run.{IsChildState}
use Rattle.nk_laws.specs.Laws.{CountsLaw, StateLaw}
use Rattle.nk_child.specs.Endings.{standing, is_stop}
use Rattle.nk_child.proofs.Counts.{of_child, told}

due_is : (s : ChildState) (n : ℕ) (o : Option Control) → s.finished ≡ n → comes_at n o ≡ is_due s o
due_is s n None h = refl
due_is s n (Some control) h = ap (λ m. comes_at m (Some control)) (sym h)

more_suspends : (n r s : ℕ) → n + r ≡ s → nat_lt r s ≡ nat_lt 0 n
more_suspends n r s h = grind (arith, nat_tests)

pub ending_told : (c : ChannelPlan) (s : ChildState) → CountsLaw → StateLaw → IsChildState c s → ending_of c s.journal ≡ standing c s
ending_told c s counts states h =
    let tally = of_child (λ (v : ChildState). (v.opened ≡ has_open v.journal) × (v.suspends + count_of is_resume v.journal ≡ count_of is_suspend v.journal) × (v.finished ≡ count_of is_finish v.journal)) c s h (counts c) in
    let ends : Bool → Bool → Bool → Ending = λ a b d. if c.closed then Unopened else (if ends_in_stop s.trace then Stopped else (if is_left_suspended a b (is_some s.running) d then Suspended else Going)) in
    ap (λ (v : ChildState). ending_by c s.journal v.trace v) (told c s states h)
    ∙ (ap (λ a. ends a (nat_lt (count_of is_resume s.journal) (count_of is_suspend s.journal)) (comes_at (count_of is_finish s.journal) (slice_get c.controls s.next))) (sym tally.0)
    ∙ (ap (λ b. ends s.opened b (comes_at (count_of is_finish s.journal) (slice_get c.controls s.next))) (more_suspends s.suspends (count_of is_resume s.journal) (count_of is_suspend s.journal) tally.1)
    ∙ ap (λ d. ends s.opened (nat_lt 0 s.suspends) d) (due_is s (count_of is_finish s.journal) (slice_get c.controls s.next) tally.2)))

-- the last entry tells whether a trace ends in a stop
one_tells : (e : Entry) → is_stop (Some e) ≡ ends_in_stop (e ∷ [])
one_tells (shown.Start code s) = refl
one_tells (shown.Bytes o p) = refl
one_tells (shown.Stop s trailers) = refl

last_found : (t : List Entry) → is_stop (slice_get t (length t - 1)) ≡ ends_in_stop t
last_found [] = refl
last_found (e ∷ []) = one_tells e
last_found (e ∷ d ∷ t) =
    let first : length (e ∷ d ∷ t) - 1 ≡ suc (length t) = omega arith in
    let second : length (d ∷ t) - 1 ≡ length t = omega arith in
    ap (λ k. is_stop (slice_get (e ∷ d ∷ t) k)) first ∙ (ap (λ k. is_stop (slice_get (d ∷ t) k)) (sym second) ∙ last_found (d ∷ t))

pub last_tells : (t : List Entry) (o : Option Entry) → o ≡ slice_get t (length t - 1) → is_stop o ≡ ends_in_stop t
last_tells t o h = ap is_stop h ∙ last_found t
