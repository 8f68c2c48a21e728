-- Once a start has run, and no break came before it, the final hop is the hop of the start that the parent sent.
use Rattle.std.proofs.Common.{ℕ, zero, suc, ◌≡◌, ◌+◌, refl, sym, ◌∙◌, subst, Bool, true, false, List, [], ◌∷◌, ◌++◌, take, length, Option, Some, None, inl, inr}
use Rattle.nk_base.specs.declared.status.Status.{Status}
use Rattle.nk_base.specs.declared.field.Head.{Head}
use Rattle.nk_base.specs.declared.message.MainMsg.{MainMsg}
use Rattle.nk_base.specs.declared.message.MainMsg.TheVariants as main
use Rattle.nk_base.specs.declared.message.BackMsg.{BackMsg}
use Rattle.nk_base.specs.declared.message.BackMsg.TheVariants as back
use Rattle.nk_base.specs.declared.message.UpMsg.{UpMsg}
use Rattle.nk_plan.specs.declared.plan.ChannelPlan.{ChannelPlan}
use Rattle.nk_plan.specs.declared.plan.StartLane.{StartLane}
use Rattle.nk_plan.specs.declared.plan.StartLane.TheVariants as lane
use Rattle.nk_plan.specs.declared.event.ChildEvent.{ChildEvent}
use Rattle.nk_plan.specs.declared.journal.ParentEntry.{ParentEntry}
use Rattle.nk_plan.specs.declared.step.ChildStep.{ChildStep}
use Rattle.nk_plan.specs.Plan.{pieces_at}
use Rattle.nk_plan.specs.Journal.{final, opening, ups_taken, mains_sent, backs_sent, backs_taken}
use Rattle.nk_plan.specs.Lanes.{redirects_to, question, main_start, back_start, piece_messages, stop_message, Unstarted, MainsStart, BacksStart}
use Rattle.nk_plan.specs.Child.{ChildState, new_child, child_after}
use Rattle.nk_plan.specs.Run.{IsParentRun}
use Rattle.nk_laws.proofs.Tools.{append_nil}
use Rattle.nk_laws.proofs.Premises.{PlanOk}
use Rattle.nk_laws.proofs.Sent.{Begun, SentLaw}
use Rattle.nk_laws.proofs.ParentLaw.{lane_law}
use Rattle.nk_laws.proofs.Order.{AtHop, InBody, AtEnd, Around, Holds, opening_at}
use Rattle.nk_laws.proofs.Merge.{final_there, start_redirects, fed, start_inv, run_inv, prefix_of_take, TakesDown}
use Rattle.nk_laws.proofs.Taking.{redirects, Inv}

mains_start-append : (f : ℕ) (xs ys : List MainMsg) → MainsStart f xs → MainsStart f ys → MainsStart f (xs ++ ys)
mains_start-append f [] ys a b = b
mains_start-append f (main.Start h s head ∷ xs) ys a b = (a.0, mains_start-append f xs ys a.1 b)
mains_start-append f (main.FailedOpen h s ∷ xs) ys a b = (a.0, mains_start-append f xs ys a.1 b)
mains_start-append f (main.Redirect1 h code ∷ xs) ys a b = mains_start-append f xs ys a b
mains_start-append f (main.Redirect3 h ∷ xs) ys a b = mains_start-append f xs ys a b

backs_start-append : (f : ℕ) (xs ys : List BackMsg) → BacksStart f xs → BacksStart f ys → BacksStart f (xs ++ ys)
backs_start-append f [] ys a b = b
backs_start-append f (back.Start h s head ∷ xs) ys a b = (a.0, backs_start-append f xs ys a.1 b)
backs_start-append f (back.StartSent h ∷ xs) ys a b = (a.0, backs_start-append f xs ys a.1 b)
backs_start-append f (back.Bytes h s o p ∷ xs) ys a b = backs_start-append f xs ys a b
backs_start-append f (back.Stop h s trailers ∷ xs) ys a b = backs_start-append f xs ys a b

redirects_start : (c : ChannelPlan) (f k : ℕ) → MainsStart f (redirects_to c k)
redirects_start c f zero = tt
redirects_start c f (suc k) = mains_start-append f (redirects_to c k) _ (redirects_start c f k) tt

question_start : (c : ChannelPlan) (f k : ℕ) (b : Bool) → MainsStart f (question c k b)
question_start c f k true = tt
question_start c f k false = tt

main_start_at : (l : StartLane) (f : ℕ) (s : Status) (head : Head) → MainsStart f (main_start l f s head)
main_start_at lane.Main f s head = (refl, tt)
main_start_at lane.Back f s head = tt

back_start_at : (l : StartLane) (f : ℕ) (s : Status) (head : Head) → BacksStart f (back_start l f s head)
back_start_at lane.Main f s head = (refl, tt)
back_start_at lane.Back f s head = (refl, tt)

pieces_start : (f k : ℕ) (ps : List (List ℕ)) (o : ℕ) → BacksStart f (piece_messages k o ps)
pieces_start f k [] o = tt
pieces_start f k (p ∷ ps) o = pieces_start f k ps (o + length p)

stop_start : (c : ChannelPlan) (f k : ℕ) (s : Option Status) → BacksStart f (stop_message c k s)
stop_start c f k None = tt
stop_start c f k (Some s) = tt

-- every start that was sent is of the hop behind the redirects that were sent
abbrev StartsThere : List MainMsg → List BackMsg → Type 0
StartsThere md bd = MainsStart (redirects md) md × BacksStart (redirects md) bd

starts_at : (md : List MainMsg) (bd : List BackMsg) (f : ℕ) → f ≡ redirects md → MainsStart f md → BacksStart f bd → StartsThere md bd
starts_at md bd f e a b = (subst (λ k. MainsStart k md) e a, subst (λ k. BacksStart k bd) e b)

begun_starts : (c : ChannelPlan) (u : List UpMsg) (f : ℕ) (md : List MainMsg) (bd : List BackMsg) → Begun c u f md bd → StartsThere md bd
begun_starts c u f md bd b =
    starts_at md bd f (final_there c f md _ b.mains (start_redirects c f b.asked c.start b.status b.head))
    (subst (λ t. MainsStart f t) (sym b.mains)
    (mains_start-append f (redirects_to c f) _ (redirects_start c f f)
    (mains_start-append f (question c f b.asked) _ (question_start c f f b.asked) (main_start_at c.start f b.status b.head))))
    (subst (λ t. BacksStart f t) (sym b.backs)
    (backs_start-append f (back_start c.start f b.status b.head) _ (back_start_at c.start f b.status b.head)
    (backs_start-append f (piece_messages f 0 (take b.pieces (pieces_at c f))) _ (pieces_start f f (take b.pieces (pieces_at c f)) 0) (stop_start c f f b.stop))))

unstarted_starts : (c : ChannelPlan) (f : ℕ) (md : List MainMsg) (bd : List BackMsg) → Unstarted c f md bd → StartsThere md bd
unstarted_starts c f md bd (b, inl m) =
    starts_at md bd f (final_there c f md [] (m ∙ sym (append_nil (redirects_to c f))) refl)
    (subst (λ t. MainsStart f t) (sym m) (redirects_start c f f)) (subst (λ t. BacksStart f t) (sym b) tt)
unstarted_starts c f md bd (b, inr (inl (m, r))) =
    starts_at md bd f (final_there c f md (question c f true) m refl)
    (subst (λ t. MainsStart f t) (sym m) (mains_start-append f (redirects_to c f) _ (redirects_start c f f) tt)) (subst (λ t. BacksStart f t) (sym b) tt)
unstarted_starts c f md bd (b, inr (inr (s, m, e))) =
    starts_at md bd f (final_there c f md (main.FailedOpen f s ∷ []) m refl)
    (subst (λ t. MainsStart f t) (sym m) (mains_start-append f (redirects_to c f) _ (redirects_start c f f) (refl, tt))) (subst (λ t. BacksStart f t) (sym b) tt)

sent_starts : (c : ChannelPlan) (u : List UpMsg) (md : List MainMsg) (bd : List BackMsg) → SentLaw c u md bd → StartsThere md bd
sent_starts c u md bd (f, all, inl x) = unstarted_starts c f md bd x
sent_starts c u md bd (f, all, inr x) = begun_starts c u f md bd x

-- The place of a child whose start has run

at_hop : (i : ℕ) (b : Bool) → opening_at (AtHop i) b ≡ Some false → ⊥
at_hop i true e = cc
at_hop i false e = cc

holds_final : (c : ChannelPlan) (a : Around) (pend w : List ChildEvent) (s : ChildState) → Holds c a pend w s → opening s.journal ≡ Some false → (a.cut ≡ false) × (final s.journal ≡ a.final)
holds_final c a pend w s (AtHop i, l, n, f, j, h, b, z) e = absurd (at_hop i a.cut (sym j.opening_is ∙ e))
holds_final c a pend w s (InBody o ps, l, n, f, j, h, b, z) e = let d : Some a.cut ≡ Some false = sym j.opening_is ∙ e in (cc, j.final_is ∙ f.0.at_hop)
holds_final c a pend w s (AtEnd, l, n, f, j, h, b, z) e = let d : Some a.cut ≡ Some false = sym j.opening_is ∙ e in (cc, j.final_is ∙ f.1)

inv_final : (c : ChannelPlan) (md : List MainMsg) (bd : List BackMsg) (s : ChildState) → Inv c md bd s → opening s.journal ≡ Some false → redirects md ≡ final s.journal
inv_final c md bd s (inl i) e = let h = holds_final c i.around _ _ s i.keeps e in sym i.final_at ∙ sym h.1
inv_final c md bd s (inr i) e = let h = holds_final c i.around _ _ s i.keeps e in sym (i.final_at h.0) ∙ sym h.1

pub start_hop : (c : ChannelPlan) (p : List ParentEntry) (n : ℕ) (steps : List ChildStep) → PlanOk c → IsParentRun c p → TakesDown p (child_after c steps).journal n
    → opening (child_after c steps).journal ≡ Some false
    → MainsStart (final (child_after c steps).journal) (mains_sent p) × BacksStart (final (child_after c steps).journal) (backs_sent p)
start_hop c p n steps v (es, e) (m, le, b) o =
    let md : List MainMsg = mains_sent p in
    let bd : List BackMsg = backs_sent p in
    let l : SentLaw c (ups_taken p) md bd = rw e at (lane_law c es v) in
    let i : Inv c md bd (new_child c) = start_inv c md bd (fed c (ups_taken p) md bd v l) in
    let k : Inv c md bd (child_after c steps) = run_inv c md bd steps v i (m, prefix_of_take n (backs_taken (child_after c steps).journal) bd b) in
    let r : redirects md ≡ final (child_after c steps).journal = inv_final c md bd (child_after c steps) k o in
    let t = sent_starts c (ups_taken p) md bd l in
    (subst (λ f. MainsStart f md) r t.0, subst (λ f. BacksStart f bd) r t.1)
