-- A parent that takes a step of its table is still in a state that the table leads to.
use Rattle.std.proofs.Common.{◌≡◌, ◌++◌, ◌∷◌, [], refl, sym, ◌∙◌, ap, subst, List, Result, Ok, Err, OnOk, OnErr}
use Rattle.nk_base.specs.declared.status.Moved.{Moved}
use Rattle.nk_base.specs.declared.status.Memory.{Memory}
use Rattle.nk_base.specs.declared.message.UpMsg.{UpMsg}
use Rattle.nk_base.specs.declared.message.UpMsg.TheVariants as up
use Rattle.nk_plan.specs.declared.plan.ChannelPlan.{ChannelPlan}
use Rattle.nk_plan.specs.declared.journal.ParentEntry.{ParentEntry}
use Rattle.nk_plan.specs.declared.journal.ParentEntry.TheVariants as entry
use Rattle.nk_plan.specs.declared.step.ParentStep.TheVariants as step
use Rattle.nk_plan.specs.Parent.{ParentState, take_up, parent_step}
use Rattle.nk_plan.specs.Run.{IsParentState}

-- a message changes nothing of the journal but that it is entered
took : (c : ChannelPlan) (s : ParentState) (j : List ParentEntry) (m : UpMsg)
    → record (take_up c s m) { journal = j ++ entry.Took m ∷ [] } ≡ parent_step c (step.Up m) (record s { journal = j })
took c s j up.Open = refl
took c s j up.Suspend = refl
took c s j up.Resume = refl
took c s j (up.Cancel st) = refl
took c s j (up.Verify h st) = refl
took c s j (up.BytesRead n) = refl
took c s j up.Deleting = refl

pub up_stays : (c d : ChannelPlan) (s t : ParentState) (j k : List ParentEntry) (m : UpMsg) → IsParentState c (record s { journal = j }) → d ≡ c → t ≡ take_up c s m
    → k ≡ j ++ entry.Took m ∷ [] → IsParentState d (record t { journal = k })
up_stays c d s t j k m (steps, e) plan state journal =
    subst (λ x. IsParentState x (record t { journal = k })) (sym plan) (
      step.Up m ∷ steps,
      ap (parent_step c (step.Up m)) e ∙ (sym (took c s j m) ∙ (ap (λ (x : ParentState). record x { journal = j ++ entry.Took m ∷ [] }) (sym state) ∙ ap (λ x. record t { journal = x }) (sym journal))),
    )

stays : (r : Result Moved Memory) (c : ChannelPlan) (s t : ParentState) → IsParentState c s → OnOk r (t ≡ parent_step c step.Fetch s) → OnErr r (t ≡ s)
    → IsParentState c t
stays (Ok m) c s t (steps, e) done kept = (step.Fetch ∷ steps, ap (parent_step c step.Fetch) e ∙ sym done)
stays (Err x) c s t (steps, e) done kept = (steps, e ∙ sym kept)

-- also while a load has its journal
pub fetch_stays : (r : Result Moved Memory) (c lent turned left : ChannelPlan) (s lent_state turned_state left_state : ParentState) (j given k : List ParentEntry)
    → IsParentState c (record s { journal = j }) → given ≡ j → lent ≡ c → lent_state ≡ record s { journal = given } → turned ≡ lent
    → OnOk r (turned_state ≡ parent_step lent step.Fetch lent_state) → OnErr r (turned_state ≡ lent_state) → k ≡ turned_state.journal → left ≡ turned
    → left_state ≡ record turned_state { journal = [] } → IsParentState left (record left_state { journal = k })
fetch_stays r c lent turned left s lent_state turned_state left_state j given k h give lend put turn done kept took_back leave empty =
    let before : IsParentState lent lent_state =
    subst (λ x. IsParentState x lent_state) (sym lend) (subst (λ x. IsParentState c x) (sym (put ∙ ap (λ y. record s { journal = y }) give)) h) in
    let after : IsParentState lent turned_state = stays r lent lent_state turned_state before done kept in
    let same : record left_state { journal = k } ≡ turned_state =
    ap (λ (x : ParentState). record x { journal = k }) empty ∙ ap (λ y. record turned_state { journal = y }) took_back in
    subst (λ x. IsParentState x (record left_state { journal = k })) (sym (leave ∙ turn)) (subst (λ x. IsParentState lent x) (sym same) after)
