-- The journal tells the state, and so the trace.
use Rattle.std.proofs.Common.{◌≡◌, sym, ap, subst}
use Rattle.nk_plan.specs.Child.{ChildState}
use Rattle.nk_plan.specs.Run.{trace_of}
use Rattle.nk_child.specs.Views.{ChildView}
use Rattle.nk_child.specs.contracts.child.Child.{the_view}
use Rattle.nk_child.proofs.Counts.{told}
use Rattle.nk_child.proofs.child.Child.into_parts.Goals as goal

pub returns-clause-told : goal.returns-clause-told
returns-clause-told c =
    subst (λ (v : ChildView). c.self.inside.trace ≡ trace_of v.plan v.state.journal) c.self.view_is
    (sym (ap (λ (s : ChildState). s.trace) (told (the_view c.self.inside).plan (the_view c.self.inside).state c.state_law.ensures c.self.invariant)))
