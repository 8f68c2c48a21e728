-- Where the lists hold what the journals say, each step of the parts is the step of the channel.
use Rattle.std.proofs.Common.{ℕ, suc, ◌≡◌, refl, sym, ◌∙◌, ap, Bool, true, false, nat_lt, List, [], ◌∷◌, ◌++◌, length, take, drop, if◌then◌else◌, append-nil}
use Rattle.std.proofs.Math.Seq.{drop-append_seam}
use Rattle.nk_base.specs.declared.message.MainMsg.{MainMsg}
use Rattle.nk_base.specs.declared.message.BackMsg.{BackMsg}
use Rattle.nk_base.specs.declared.message.UpMsg.{UpMsg}
use Rattle.nk_base.specs.declared.message.UpMsg.TheVariants as up
use Rattle.nk_base.specs.Queue.{has_some}
use Rattle.nk_plan.specs.declared.plan.ChannelPlan.{ChannelPlan}
use Rattle.nk_plan.specs.declared.step.Step.{Step}
use Rattle.nk_plan.specs.declared.step.Step.TheVariants.{Act, Verdict, Fetch, Up, Forward, Main, Back, Release, Begin, Finish, Read}
use Rattle.nk_plan.specs.declared.step.ParentStep.TheVariants as parent
use Rattle.nk_plan.specs.declared.step.ChildStep.{ChildStep}
use Rattle.nk_plan.specs.declared.step.ChildStep.TheVariants as child
use Rattle.nk_plan.specs.declared.journal.ParentEntry.{ParentEntry}
use Rattle.nk_plan.specs.declared.journal.ParentEntry.TheVariants as entry
use Rattle.nk_plan.specs.Journal.{mains_sent, backs_sent}
use Rattle.nk_plan.specs.Parent.{ParentState, parent_step, take_up}
use Rattle.nk_plan.specs.Child.{ChildState, child_step, step_main, step_back, with_entry}
use Rattle.nk_plan.specs.declared.journal.ChildEntry.TheVariants as entered
use Rattle.nk_plan.specs.Channel.{Channel, main_lane, back_lane, up_lane, up_step, main_step, back_step, forward_step, channel_step, half_lane}
use Rattle.nk_parent.specs.Views.{added}
use Rattle.nk_laws.specs.Moves.{mains_of, backs_of, Moves, ParentMoves, ChildMoves, HalfMoves}
use Rattle.nk_channel.specs.Parts.{Parts, parts_of, turned, fetched, up_taken, moved_on, main_taken, back_taken, parts_step}
use Rattle.nk_channel.proofs.Lists.{some_behind}

-- parts with the same lists are the same

abbrev put : ChannelPlan → ParentState → ℕ → ChildState → List MainMsg → List BackMsg → List BackMsg → List UpMsg → Parts
put c s n k main inner back up = record { plan = c; parent = s; forwarded = n; child = k; main = main; inner = inner; back = back; up = up }

same_lists : (c : ChannelPlan) (s : ParentState) (n : ℕ) (k : ChildState) (m m' : List MainMsg) (i i' b b' : List BackMsg) (u u' : List UpMsg)
    → m ≡ m' → i ≡ i' → b ≡ b' → u ≡ u' → put c s n k m i b u ≡ put c s n k m' i' b' u'
same_lists c s n k m m' i i' b b' u u' em ei eb eu =
    ap (λ x. put c s n k x i b u) em
    ∙ (ap (λ x. put c s n k m' x b u) ei
    ∙ (ap (λ x. put c s n k m' i' x u) eb
    ∙ ap (λ x. put c s n k m' i' b' x) eu))

-- A FETCH

fetch_parts : (c : ChannelPlan) (w : Channel) → Moves c w
    → (let s : ParentState = parent_step c parent.Fetch w.parent in fetched s (parts_of c w) ≡ parts_of c (record w { parent = s }))
fetch_parts c w moves =
    let s : ParentState = parent_step c parent.Fetch w.parent in
    let k : ParentMoves w parent.Fetch s = moves.parent parent.Fetch in
    same_lists c s w.forwarded w.child _ _ _ _ _ _ _ _ k.main k.inner k.back k.up

-- A MESSAGE OF THE UP LANE IS TAKEN

-- the message itself enters nothing
up_journal : (c : ChannelPlan) (m : UpMsg) (s : ParentState) → (take_up c s m).journal ≡ s.journal
up_journal c up.Open s = refl
up_journal c up.Suspend s = refl
up_journal c up.Resume s = refl
up_journal c (up.Cancel q) s = refl
up_journal c (up.Verify h q) s = refl
up_journal c (up.BytesRead n) s = refl
up_journal c up.Deleting s = refl

-- so what the parent enters is that it took the message
took : (c : ChannelPlan) (m : UpMsg) (s : ParentState) → added s (parent_step c (parent.Up m) s) ≡ entry.Took m ∷ []
took c m s =
    ap (λ (j : List ParentEntry). drop (length s.journal) (j ++ entry.Took m ∷ [])) (up_journal c m s)
    ∙ drop-append_seam s.journal (entry.Took m ∷ [])

up_parts : (c : ChannelPlan) (w : Channel) → Moves c w → (l : List UpMsg) → up_lane w ≡ l → up_taken l (parts_of c w) ≡ parts_of c (up_step c l w)
up_parts c w moves [] e = refl
up_parts c w moves (m ∷ ms) e =
    let s : ParentState = parent_step c (parent.Up m) w.parent in
    let k : ParentMoves w (parent.Up m) s = moves.parent (parent.Up m) in
    same_lists c s w.forwarded w.child _ _ _ _ _ _ _ _
    (sym (append-nil (main_lane w)) ∙ (ap (λ t. main_lane w ++ mains_sent t) (sym (took c m w.parent)) ∙ k.main))
    (sym (append-nil (half_lane w)) ∙ (ap (λ t. half_lane w ++ backs_sent t) (sym (took c m w.parent)) ∙ k.inner))
    k.back
    (ap (λ l. drop 1 l) (sym e) ∙ k.up)

-- A FORWARD

forward_parts : (c : ChannelPlan) (w : Channel) → Moves c w → (l : List BackMsg) → half_lane w ≡ l → moved_on l (parts_of c w) ≡ parts_of c (forward_step w)
forward_parts c w moves [] e =
    let v : Channel = record w { forwarded = suc w.forwarded } in
    let none : false ≡ nat_lt w.forwarded (length (backs_sent w.parent.journal)) =
    ap (λ l. has_some l) (sym e) ∙ some_behind w.forwarded (backs_sent w.parent.journal) in
    ap (λ b. parts_of c (if b then v else w)) none
forward_parts c w moves (m ∷ ms) e =
    let v : Channel = record w { forwarded = suc w.forwarded } in
    let k : HalfMoves w v = moves.half in
    let some : true ≡ nat_lt w.forwarded (length (backs_sent w.parent.journal)) =
    ap (λ l. has_some l) (sym e) ∙ some_behind w.forwarded (backs_sent w.parent.journal) in
    same_lists c w.parent (suc w.forwarded) w.child _ _ _ _ _ _ _ _ refl
    (ap (λ l. drop 1 l) (sym e) ∙ k.inner)
    (ap (λ l. back_lane w ++ take 1 l) (sym e) ∙ k.back)
    refl
    ∙ ap (λ b. parts_of c (if b then v else w)) some

-- A STEP OF THE CHILD

child_parts : (c : ChannelPlan) (w : Channel) → Moves c w → (x : ChildStep) (main : List MainMsg) (back : List BackMsg)
    → main ≡ drop (length (mains_of x w.child.broken)) (main_lane w) → back ≡ drop (length (backs_of x w.child.broken)) (back_lane w)
    → turned x (record (parts_of c w) { main = main; back = back }) ≡ parts_of c (record w { child = child_step c x w.child })
child_parts c w moves x main back em eb =
    let s : ChildState = child_step c x w.child in
    let k : ChildMoves w x s = moves.child x in
    same_lists c w.parent w.forwarded s _ _ _ _ _ _ _ _ (em ∙ k.main) refl (eb ∙ k.back) k.up

-- a step that takes nothing of a lane
plain : (c : ChannelPlan) (w : Channel) → Moves c w → (x : ChildStep) → mains_of x w.child.broken ≡ [] → backs_of x w.child.broken ≡ []
    → turned x (parts_of c w) ≡ parts_of c (record w { child = child_step c x w.child })
plain c w moves x m b =
    child_parts c w moves x (main_lane w) (back_lane w)
    (ap (λ t. drop (length t) (main_lane w)) (sym m)) (ap (λ t. drop (length t) (back_lane w)) (sym b))

-- a broken child takes nothing

stays_main : (c : ChannelPlan) (w : Channel) (m : MainMsg) → w.child.broken ≡ true → parts_of c w ≡ parts_of c (record w { child = child_step c (child.Main m) w.child })
stays_main c w m broken =
    let taken : ChildState = step_main c m (with_entry (entered.TookMain m) w.child) in
    ap (λ b. parts_of c (record w { child = if b then w.child else taken })) (sym broken)

stays_back : (c : ChannelPlan) (w : Channel) (m : BackMsg) → w.child.broken ≡ true → parts_of c w ≡ parts_of c (record w { child = child_step c (child.Back m) w.child })
stays_back c w m broken =
    let taken : ChildState = step_back c m (with_entry (entered.TookBack m) w.child) in
    ap (λ b. parts_of c (record w { child = if b then w.child else taken })) (sym broken)

main_parts : (c : ChannelPlan) (w : Channel) → Moves c w → (b : Bool) (l : List MainMsg) → w.child.broken ≡ b → main_lane w ≡ l
    → main_taken b l (parts_of c w) ≡ parts_of c (main_step c l w)
main_parts c w moves true [] broken e = refl
main_parts c w moves true (m ∷ ms) broken e = stays_main c w m broken
main_parts c w moves false [] broken e = refl
main_parts c w moves false (m ∷ ms) broken e =
    child_parts c w moves (child.Main m) ms (back_lane w)
    (ap (λ l. drop 1 l) (sym e) ∙ ap (λ b. drop (length (mains_of (child.Main m) b)) (main_lane w)) (sym broken)) refl

back_parts : (c : ChannelPlan) (w : Channel) → Moves c w → (b : Bool) (l : List BackMsg) → w.child.broken ≡ b → back_lane w ≡ l
    → back_taken b l (parts_of c w) ≡ parts_of c (back_step c l w)
back_parts c w moves true [] broken e = refl
back_parts c w moves true (m ∷ ms) broken e = stays_back c w m broken
back_parts c w moves false [] broken e = refl
back_parts c w moves false (m ∷ ms) broken e =
    child_parts c w moves (child.Back m) (main_lane w) ms refl
    (ap (λ l. drop 1 l) (sym e) ∙ ap (λ b. drop (length (backs_of (child.Back m) b)) (back_lane w)) (sym broken))

pub step_parts : (c : ChannelPlan) (w : Channel) → Moves c w → (x : Step) → parts_step x (parts_of c w) ≡ parts_of c (channel_step c x w)
step_parts c w moves Act = plain c w moves child.Act refl refl
step_parts c w moves Verdict = plain c w moves child.Verdict refl refl
step_parts c w moves Fetch = fetch_parts c w moves
step_parts c w moves Up = up_parts c w moves (up_lane w) refl
step_parts c w moves Forward = forward_parts c w moves (half_lane w) refl
step_parts c w moves Main = main_parts c w moves w.child.broken (main_lane w) refl refl
step_parts c w moves Back = back_parts c w moves w.child.broken (back_lane w) refl refl
step_parts c w moves Release = plain c w moves child.Release refl refl
step_parts c w moves (Begin t) = plain c w moves (child.Begin t) refl refl
step_parts c w moves (Finish t) = plain c w moves (child.Finish t) refl refl
step_parts c w moves (Read reader) = refl
