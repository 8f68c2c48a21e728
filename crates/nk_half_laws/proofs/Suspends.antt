-- Which suspend of a child is in force: what the last suspend or resume says that it sent. Its journal tells both.
use Rattle.std.proofs.Common.{ℕ, ◌≡◌, ◌+◌, ◌-◌, ◌∙◌, inl, inr, refl, sym, ap, List, [], ◌∷◌, ◌++◌, append_assoc, Bool, true, false, if◌then◌else◌, Option, Some, None, nat_lt, ◌==◌, arith}
use Rattle.std.proofs.lemmas.Bool.{eqb-true, lt-ltb}
use Rattle.std.proofs.lemmas.Bool.Decides.{eqb_tells}
use borrow.Author.Tests.{ltb-true}
use Rattle.nk_base.specs.declared.status.Status.{Status}
use Rattle.nk_base.specs.declared.status.Target.{Target}
use Rattle.nk_base.specs.declared.message.UpMsg.{UpMsg}
use Rattle.nk_base.specs.declared.message.UpMsg.TheVariants as up
use Rattle.nk_plan.specs.declared.plan.ChannelPlan.{ChannelPlan}
use Rattle.nk_plan.specs.declared.event.ChildEvent.{ChildEvent}
use Rattle.nk_plan.specs.declared.event.ChildEvent.TheVariants.{Start, Bytes, Stop, Redirect1, Redirect3, Cancel}
use Rattle.nk_plan.specs.declared.journal.ChildEntry.{ChildEntry}
use Rattle.nk_plan.specs.declared.journal.ChildEntry.TheVariants as child
use Rattle.nk_plan.specs.declared.step.ChildStep.{ChildStep}
use Rattle.nk_base.specs.Status.{or_else}
use Rattle.nk_plan.specs.Journal.{is_true}
use Rattle.nk_plan.specs.Telling.{Telling, sends_at, telling_after, sends_from}
use Rattle.nk_plan.specs.Child.{ChildState, child_step, child_after}
use Rattle.nk_half_laws.specs.Growth.{owed_by, telling_of, telling_at, Adds}
use Rattle.nk_half_laws.specs.Settled.{says, last_said, ends_suspended, ChildSuspendLaw}
use Rattle.nk_half_laws.proofs.GrowthRows.{growth}

-- Messages behind others

none_last : (o : Option Bool) → or_else o None ≡ o
none_last None = refl
none_last (Some b) = refl

or_else_assoc : (a b d : Option Bool) → or_else (or_else a b) d ≡ or_else a (or_else b d)
or_else_assoc None b d = refl
or_else_assoc (Some x) b d = refl

-- the later of what two lists say stands first
pub last-append : (xs ys : List UpMsg) → last_said (xs ++ ys) ≡ or_else (last_said ys) (last_said xs)
last-append [] ys = sym (none_last (last_said ys))
last-append (x ∷ xs) ys =
    ap (λ (o : Option Bool). or_else o (says x)) (last-append xs ys) ∙ or_else_assoc (last_said ys) (last_said xs) (says x)

-- what says neither changes nothing
silent : (xs ys : List UpMsg) → last_said ys ≡ None → ends_suspended (xs ++ ys) ≡ ends_suspended xs
silent xs ys e = ap is_true (last-append xs ys ∙ ap (λ (o : Option Bool). or_else o (last_said xs)) e)

spoken : (xs ys : List UpMsg) (b : Bool) → last_said ys ≡ Some b → ends_suspended (xs ++ ys) ≡ b
spoken xs ys b e = ap is_true (last-append xs ys ∙ ap (λ (o : Option Bool). or_else o (last_said xs)) e)

-- The first suspend is sent, and the last resume

abbrev Says : List UpMsg → ℕ → Type 0
Says sent n = ends_suspended sent ≡ nat_lt 0 n

suspend_said : (n : ℕ) (b : Bool) (sent : List UpMsg) → (n == 0) ≡ b → Says sent n
    → Says (sent ++ (if b then up.Suspend ∷ [] else [])) (n + 1)
suspend_said n true sent e h = spoken sent (up.Suspend ∷ []) true refl ∙ sym (lt-ltb 0 (n + 1) (omega arith))
suspend_said n false sent e h = elim (eqb_tells n 0) [
  | inl x ↦ let y : (n == 0) ≡ true = x.0 in absurd (cc)
  | inr x ↦
      let ne : n ≡ 0 → ⊥ = x.1 in silent sent [] refl ∙ (h ∙ (lt-ltb 0 n (omega arith) ∙ sym (lt-ltb 0 (n + 1) (omega arith))))
]

not_above : (n : ℕ) → n ≡ 0 → nat_lt 0 n ≡ false
not_above n e = rw e refl

resume_said : (n : ℕ) (b : Bool) (sent : List UpMsg) → (n == 1) ≡ b → Says sent n
    → Says (sent ++ (if b then up.Resume ∷ [] else [])) (n - 1)
resume_said n true sent e h =
    let o : n ≡ 1 = eqb-true n 1 e in spoken sent (up.Resume ∷ []) false refl ∙ sym (not_above (n - 1) (omega arith))
resume_said n false sent e h = elim (eqb_tells n 1) [
  | inl x ↦ let y : (n == 1) ≡ true = x.0 in absurd (cc)
  | inr x ↦ elim (eqb_tells n 0) [
    | inl v ↦ let z : n ≡ 0 = eqb-true n 0 v.0 in silent sent [] refl ∙ (h ∙ (not_above n z ∙ sym (not_above (n - 1) (omega arith))))
    | inr v ↦
        let ne : n ≡ 1 → ⊥ = x.1 in
        let nz : n ≡ 0 → ⊥ = v.1 in
        silent sent [] refl ∙ (h ∙ (lt-ltb 0 n (omega arith) ∙ sym (lt-ltb 0 (n - 1) (omega arith))))
  ]
]

-- An entry, and what the callback that runs is still to send, which says neither

abbrev Silent : List UpMsg → Type 0
Silent ms = last_said ms ≡ None

owed_silent : (o : Option (Target × ChildEvent)) → Silent (owed_by o)
owed_silent None = refl
owed_silent (Some (t, Start code s)) = refl
owed_silent (Some (t, Bytes o p s)) = refl
owed_silent (Some (t, Stop s)) = refl
owed_silent (Some (t, Redirect1 h)) = refl
owed_silent (Some (t, Redirect3 h)) = refl
owed_silent (Some (t, Cancel s)) = refl

still_silent : (t : Telling) (e : ChildEntry) → Silent t.owed → Silent (telling_after t e).owed
still_silent t (child.RunStart target code s) h = refl
still_silent t (child.RunBytes target o n) h = refl
still_silent t (child.RunStop target s) h = refl
still_silent t (child.Finish target) h = refl
still_silent t _ h = h

cancel_silent : (failed : Bool) (s : Status) → Silent (if failed then [] else up.Cancel s ∷ [])
cancel_silent true s = refl
cancel_silent false s = refl

entry_said : (t : Telling) (e : ChildEntry) (sent : List UpMsg) → Silent t.owed → Says sent t.suspends
    → Says (sent ++ sends_at t e) (telling_after t e).suspends
entry_said t child.Suspend sent o h = suspend_said t.suspends (t.suspends == 0) sent refl h
entry_said t child.Resume sent o h = resume_said t.suspends (t.suspends == 1) sent refl h
entry_said t child.Open sent o h = silent sent (up.Open ∷ []) refl ∙ h
entry_said t (child.Cancel s) sent o h = silent sent (up.Cancel s ∷ []) refl ∙ h
entry_said t (child.Verdict i s) sent o h = silent sent (up.Verify i s ∷ []) refl ∙ h
entry_said t (child.RunCancel target s) sent o h =
    silent sent (if t.failed then [] else up.Cancel s ∷ []) (cancel_silent t.failed s) ∙ h
entry_said t (child.Finish target) sent o h = silent sent t.owed o ∙ h
entry_said t _ sent o h = silent sent [] refl ∙ h

entries_said : (t : Telling) (j : List ChildEntry) (sent : List UpMsg) → Silent t.owed → Says sent t.suspends
    → Says (sent ++ sends_from t j) (telling_at t j).suspends
entries_said t [] sent o h = silent sent [] refl ∙ h
entries_said t (e ∷ j) sent o h =
    ap ends_suspended (sym (append_assoc sent (sends_at t e) (sends_from (telling_after t e) j)))
    ∙ entries_said (telling_after t e) j (sent ++ sends_at t e) (still_silent t e o) (entry_said t e sent o h)

-- The law

all_said : (c : ChannelPlan) (steps : List ChildStep) → let s = child_after c steps in Says s.sent s.suspends
all_said c [] = refl
all_said c (x ∷ xs) =
    let s : ChildState = child_after c xs in
    let a : Adds c x s (child_step c x s) = growth c x s in
    ap ends_suspended a.sent
    ∙ (entries_said (telling_of s) a.entries s.sent (owed_silent s.running) (all_said c xs)
    ∙ sym (ap (λ (t : Telling). nat_lt 0 t.suspends) a.telling))

pub said : ChildSuspendLaw
said c steps =
    let s : ChildState = child_after c steps in
    let h : ends_suspended s.sent ≡ nat_lt 0 s.suspends = all_said c steps in
    ((λ l. h ∙ lt-ltb 0 s.suspends l), (λ e. ltb-true 0 s.suspends (sym h ∙ e)))
