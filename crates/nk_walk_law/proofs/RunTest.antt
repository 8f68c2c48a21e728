-- Whether two journals are a run is told by them alone.
use Rattle.std.proofs.Common.{ℕ, ◌≡◌, sym, ◌∙◌, ap, subst, List}
use Rattle.nk_plan.specs.declared.plan.ChannelPlan.{ChannelPlan}
use Rattle.nk_plan.specs.declared.journal.ParentEntry.{ParentEntry}
use Rattle.nk_plan.specs.declared.journal.ChildEntry.{ChildEntry}
use Rattle.nk_plan.specs.Child.{ChildState}
use Rattle.nk_plan.specs.Journal.{ups_taken}
use Rattle.nk_plan.specs.Lanes.{IsPrefix}
use Rattle.nk_plan.specs.Run.{IsChildRun, sends_of}
use Rattle.nk_plan.specs.Telling.{new_telling, sends_from, parent_entries, child_entries}
use Rattle.nk_plan.specs.Walk.{walk_start, places_all}
use Rattle.nk_laws.specs.Laws.{SendsLaw, StateLaw, EntriesLaw}
use Rattle.nk_walk_law.specs.Laws.{RunLaw}

-- what a child's run sent is what its journal tells
sends_are : SendsLaw → StateLaw → (c : ChannelPlan) (j : List ChildEntry) → IsChildRun c j → sends_of c j ≡ sends_from new_telling j
sends_are sends states c j (ys, e) =
    subst (λ k. sends_of c k ≡ sends_from new_telling k) e (ap (λ (s : ChildState). s.sent) ((states c).0 ys) ∙ sends c ys)

-- the walk over the entries of two runs, where their journals are these
walk_is : (p q : List ParentEntry) (j k : List ChildEntry) (n : ℕ) → q ≡ p → k ≡ j →
    places_all (walk_start (parent_entries q) n (child_entries new_telling k)) ≡ places_all (walk_start (parent_entries p) n (child_entries new_telling j))
walk_is p q j k n e f =
    ap (λ t. places_all (walk_start (parent_entries t) n (child_entries new_telling k))) e
    ∙ ap (λ t. places_all (walk_start (parent_entries p) n (child_entries new_telling t))) f

pub run_exact : SendsLaw → StateLaw → EntriesLaw → RunLaw
run_exact sends states entries c p j n d = (
  λ h.
      let e = entries c d.parent_run.0 d.child_run.0 n in
      record {
        down = d;
        ups = subst (λ u. IsPrefix (ups_taken p) u) (sym (sends_are sends states c j d.child_run)) h.0;
        placed = e.0 (walk_is p _ j _ n d.parent_run.1 d.child_run.1 ∙ h.1);
      },
  λ r.
      let e = entries c r.down.parent_run.0 r.down.child_run.0 n in (
        subst (λ u. IsPrefix (ups_taken p) u) (sends_are sends states c j d.child_run) r.ups,
        sym (walk_is p _ j _ n r.down.parent_run.1 r.down.child_run.1) ∙ e.1 r.placed,
      ),
)
