-- The page's next call is performed where it is due.
use Rattle.std.proofs.Common.{suc, ◌≡◌, ◌∙◌, refl, Bool, true, false, not, ◌&&◌, ◌||◌, if◌then◌else◌, nat_le, slice_get, Option, Some, None, is_some}
use Rattle.nk_plan.specs.declared.plan.ChannelPlan.{ChannelPlan}
use Rattle.nk_plan.specs.declared.plan.Act.{Act}
use Rattle.nk_plan.specs.declared.plan.Control.{Control}
use Rattle.nk_plan.specs.declared.step.ChildStep.TheVariants as step
use Rattle.nk_plan.specs.Child.{ChildState, perform_call, perform_control, child_step, is_due}
use Rattle.nk_plan.specs.Enabled.{child_enabled}
use Rattle.nk_child.specs.Reactions.{due_act}

second : {A : Type 0} (a b : Bool) (x y z : A) → a ≡ false → b ≡ true → (if a then x else (if b then y else z)) ≡ y
second true b x y z p q = cc
second false true x y z p q = refl
second false false x y z p q = cc

second_enabled : (a b d : Bool) → a ≡ false → b ≡ true → (not a && (not b || d)) ≡ d
second_enabled true b d p q = cc
second_enabled false true d p q = refl
second_enabled false false d p q = cc

-- the row of a channel that is open
opened_act : (c : ChannelPlan) (s : ChildState) → c.closed ≡ false → s.opened ≡ true
    → (child_step c step.Act s ≡ perform_control c (slice_get c.controls s.next) s) × (child_enabled c step.Act s ≡ is_due s (slice_get c.controls s.next))
opened_act c s p q =
    (second c.closed s.opened s (perform_control c (slice_get c.controls s.next) s) _ p q, second_enabled c.closed s.opened (is_due s (slice_get c.controls s.next)) p q)

none_due_if : (b : Bool) (c : ChannelPlan) (a : Act) (s x : ChildState) → (if b then Some a else None) ≡ None → ((if b then x else s) ≡ s) × (b ≡ false)
none_due_if true c a s x e = cc
none_due_if false c a s x e = (refl, refl)

none_due_of : (c : ChannelPlan) (o : Option Control) (s : ChildState) → due_act s o ≡ None → (perform_control c o s ≡ s) × (is_due s o ≡ false)
none_due_of c None s e = (refl, refl)
none_due_of c (Some control) s e =
    none_due_if (nat_le control.after s.finished) c control.act s (perform_call c control.act (record s { next = suc s.next })) e

pub none_due : (c : ChannelPlan) (s : ChildState) → c.closed ≡ false → s.opened ≡ true → due_act s (slice_get c.controls s.next) ≡ None
    → (child_step c step.Act s ≡ s) × (child_enabled c step.Act s ≡ false)
none_due c s a b e =
    let n = none_due_of c (slice_get c.controls s.next) s e in
    ((opened_act c s a b).0 ∙ n.0, (opened_act c s a b).1 ∙ n.1)

one_due_if : (b : Bool) (a d : Act) (c : ChannelPlan) (s : ChildState) → (if b then Some d else None) ≡ Some a
    → ((if b then perform_call c d (record s { next = suc s.next }) else s) ≡ perform_call c a (record s { next = suc s.next })) × (b ≡ true)
one_due_if true a d c s e = let same : d ≡ a = cc in (rw same refl, refl)
one_due_if false a d c s e = cc

one_due_of : (c : ChannelPlan) (o : Option Control) (s : ChildState) (a : Act) → due_act s o ≡ Some a
    → (perform_control c o s ≡ perform_call c a (record s { next = suc s.next })) × (is_due s o ≡ true)
one_due_of c None s a e = cc
one_due_of c (Some control) s a e = one_due_if (nat_le control.after s.finished) a control.act c s e

pub one_due : (c : ChannelPlan) (s : ChildState) (a : Act) → c.closed ≡ false → s.opened ≡ true → due_act s (slice_get c.controls s.next) ≡ Some a
    → (child_step c step.Act s ≡ perform_call c a (record s { next = suc s.next })) × (child_enabled c step.Act s ≡ true)
one_due c s a p q e =
    let n = one_due_of c (slice_get c.controls s.next) s a e in
    ((opened_act c s p q).0 ∙ n.0, (opened_act c s p q).1 ∙ n.1)

due_if : (b : Bool) (a : Act) → b ≡ is_some (if b then Some a else None)
due_if true a = refl
due_if false a = refl

pub due_told : (s : ChildState) (o : Option Control) → is_due s o ≡ is_some (due_act s o)
due_told s None = refl
due_told s (Some control) = due_if (nat_le control.after s.finished) control.act
