-- What a child told its parent: that it was opened, and that it is done only where its stop was shown. Its journal tells both.
use Rattle.std.proofs.Common.{ℕ, ◌≡◌, refl, sym, ◌∙◌, ap, subst, List, [], ◌∷◌, ◌++◌, Bool, true, false, ◌⊎◌, inl, inr, ◌==◌}
use Rattle.nk_base.specs.declared.message.UpMsg.{UpMsg}
use Rattle.nk_base.specs.declared.message.UpMsg.TheVariants as up
use Rattle.nk_base.specs.declared.message.Entry.{Entry}
use Rattle.nk_base.specs.declared.message.Entry.TheVariants as shown
use Rattle.nk_plan.specs.declared.plan.ChannelPlan.{ChannelPlan}
use Rattle.nk_plan.specs.declared.journal.ChildEntry.{ChildEntry}
use Rattle.nk_plan.specs.declared.journal.ChildEntry.TheVariants as child
use Rattle.nk_plan.specs.declared.step.ChildStep.{ChildStep}
use Rattle.nk_plan.specs.Journal.{is_open, has_open}
use Rattle.nk_plan.specs.Lanes.{Among}
use Rattle.nk_plan.specs.Telling.{Telling, new_telling, sends_at, telling_after, sends_from}
use Rattle.nk_plan.specs.Child.{ChildState, child_after}
use Rattle.nk_half_laws.specs.Growth.{GrowthLaw, ToldLaw, Shape, Began, Piece, Closed, shapes, told_by, hop_by, told}
use Rattle.nk_laws.proofs.Tally.{Tallied, child_tally, has_stop}
use Rattle.nk_laws.proofs.Tells.{child_named}
use Rattle.nk_laws.proofs.Tools.{keeps_if, by_bool, among_more}

among_behind : {A : Type 0} (x : A) (xs ys : List A) → Among x ys → Among x (xs ++ ys)
among_behind x [] ys h = h
among_behind x (y ∷ xs) ys h = inr (among_behind x xs ys h)

among_either : {A : Type 0} (x : A) (xs ys : List A) → Among x (xs ++ ys) → Among x xs ⊎ Among x ys
among_either x [] ys h = inr h
among_either x (y ∷ xs) ys (inl e) = inl (inl e)
among_either x (y ∷ xs) ys (inr h) = elim (among_either x xs ys h) [ inl a ↦ inl (inr a) | inr a ↦ inr a ]

-- The opening

open_sent : (t : Telling) (e : ChildEntry) → is_open e ≡ true → Among up.Open (sends_at t e)
open_sent t child.Open h = inl refl
open_sent t _ h = cc

opens : (t : Telling) (j : List ChildEntry) → has_open j ≡ true → Among up.Open (sends_from t j)
opens t [] h = cc
opens t (e ∷ j) h =
    by_bool (is_open e) (λ o. among_more up.Open (sends_at t e) (sends_from (telling_after t e) j) (open_sent t e o))
    (λ o. among_behind up.Open (sends_at t e) (sends_from (telling_after t e) j) (opens (telling_after t e) j (rw o at h)))

-- The end

abbrev closes : List Shape → Bool
closes [] = false
closes (Began code s ∷ t) = closes t
closes (Piece o n ∷ t) = closes t
closes (Closed s trailers ∷ t) = true

closes_first : (t u : List Shape) → closes t ≡ true → closes (t ++ u) ≡ true
closes_first [] u h = cc
closes_first (Began code s ∷ t) u h = closes_first t u h
closes_first (Piece o n ∷ t) u h = closes_first t u h
closes_first (Closed s trailers ∷ t) u h = refl

closes_last : (t u : List Shape) → closes u ≡ true → closes (t ++ u) ≡ true
closes_last [] u h = h
closes_last (Began code s ∷ t) u h = closes_last t u h
closes_last (Piece o n ∷ t) u h = closes_last t u h
closes_last (Closed s trailers ∷ t) u h = refl

stop_closes : (t : List Entry) → has_stop t ≡ closes (shapes t)
stop_closes [] = refl
stop_closes (shown.Start code s ∷ t) = stop_closes t
stop_closes (shown.Bytes o p ∷ t) = stop_closes t
stop_closes (shown.Stop s trailers ∷ t) = refl

abbrev Deletes : List UpMsg → Type 0
Deletes u = Among up.Deleting u

-- it is said by the callback that returns alone
said_owed : (t : Telling) (e : ChildEntry) → Deletes (sends_at t e) → Deletes t.owed
said_owed t child.Open (inl e) = cc
said_owed t child.Open (inr a) = absurd a
said_owed t child.Suspend a =
    keeps_if (λ (u : List UpMsg). Deletes u → Deletes t.owed) (t.suspends == 0) (up.Suspend ∷ []) []
    (λ r b. elim b [ inl e ↦ cc | inr x ↦ absurd x ]) (λ r b. absurd b) a
said_owed t child.Resume a =
    keeps_if (λ (u : List UpMsg). Deletes u → Deletes t.owed) (t.suspends == 1) (up.Resume ∷ []) []
    (λ r b. elim b [ inl e ↦ cc | inr x ↦ absurd x ]) (λ r b. absurd b) a
said_owed t (child.Cancel s) (inl e) = cc
said_owed t (child.Cancel s) (inr a) = absurd a
said_owed t (child.Verdict h s) (inl e) = cc
said_owed t (child.Verdict h s) (inr a) = absurd a
said_owed t (child.RunCancel target s) a =
    keeps_if (λ (u : List UpMsg). Deletes u → Deletes t.owed) t.failed [] (up.Cancel s ∷ []) (λ r b. absurd b)
    (λ r b. elim b [ inl e ↦ cc | inr x ↦ absurd x ]) a
said_owed t (child.Finish target) a = a
said_owed t _ a = absurd a

-- and owed by the callback of the stop
owed_closes : (c : ChannelPlan) (h : ℕ) (t : Telling) (e : ChildEntry) → Deletes (telling_after t e).owed
    → Deletes t.owed ⊎ (closes (told_by c h e) ≡ true)
owed_closes c h t (child.RunStart target code s) a = absurd a
owed_closes c h t (child.RunBytes target o n) (inl e) = cc
owed_closes c h t (child.RunBytes target o n) (inr a) = absurd a
owed_closes c h t (child.RunStop target s) a = inr refl
owed_closes c h t (child.Finish target) a = absurd a
owed_closes c h t _ a = inl a

said_closes : (c : ChannelPlan) (h : ℕ) (t : Telling) (j : List ChildEntry) → Deletes (sends_from t j)
    → Deletes t.owed ⊎ (closes (told c h j) ≡ true)
said_closes c h t [] a = absurd a
said_closes c h t (e ∷ j) a = elim (among_either up.Deleting (sends_at t e) (sends_from (telling_after t e) j) a) [
  | inl x ↦ inl (said_owed t e x)
  | inr x ↦ elim (said_closes c (hop_by h e) (telling_after t e) j x) [
    | inl y ↦ elim (owed_closes c h t e y) [ inl z ↦ inl z | inr z ↦ inr (closes_first (told_by c h e) (told c (hop_by h e) j) z) ]
    | inr y ↦ inr (closes_last (told_by c h e) (told c (hop_by h e) j) y)
  ]
]

pub record IsTold (s : ChildState) : Type 0 where
  pub open_said : s.opened ≡ true → Among up.Open s.sent
  pub deleting_said : Among up.Deleting s.sent → s.stopped ≡ true

pub child_told : GrowthLaw → ToldLaw → (c : ChannelPlan) (steps : List ChildStep) → IsTold (child_after c steps)
child_told growth law c steps =
    let s : ChildState = child_after c steps in
    let k : Tallied s = child_tally c steps in
    let n : sends_from new_telling s.journal ≡ s.sent = (child_named growth c steps).sends in
    let shows : has_stop s.trace ≡ closes (told c 0 s.journal) = stop_closes s.trace ∙ ap closes (law c steps) in
    record {
      open_said = λ o. rw n at (opens new_telling s.journal (k.open_is ∙ o));
      deleting_said = λ a. elim (said_closes c 0 new_telling s.journal (subst Deletes (sym n) a)) [
        | inl x ↦ absurd x
        | inr x ↦ sym k.stop_is ∙ (shows ∙ x)
      ];
    }
