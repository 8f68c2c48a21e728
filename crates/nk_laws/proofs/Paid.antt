-- A parent's credit: the window, less what was sent, and what the page acknowledged.
use Rattle.std.proofs.Common.{ℕ, zero, suc, ◌≡◌, ◌+◌, ◌≤◌, refl, sym, ◌∙◌, ap, subst, List, [], ◌∷◌, ◌++◌, length, Bool, true, false, nat_lt, take, arith, Option, Some, None, slice_get, ◌==◌, ℤ, pos, int_lt, is_some, not, add-zero, ◌+ℤ◌, ◌-ℤ◌, ◌≤ℤ◌}
use Rattle.nk_base.specs.declared.message.MainMsg.{MainMsg}
use Rattle.nk_base.specs.declared.message.BackMsg.{BackMsg}
use Rattle.nk_base.specs.declared.message.UpMsg.{UpMsg}
use Rattle.nk_plan.specs.declared.plan.ChannelPlan.{ChannelPlan}
use Rattle.nk_plan.specs.declared.journal.ParentEntry.{ParentEntry}
use Rattle.nk_laws.proofs.Premises.{Known}
use Rattle.nk_plan.specs.Parent.{ParentState, parent_step, start_entries, give_start, bare_head, fetch_finish, fetch_piece, fetch_body, fetch_redirect, fetch_hop, fetch_follow, fetch_in, take_up, offset_of}
use Rattle.nk_plan.specs.Journal.{mains_sent, backs_sent, ups_taken, backs_taken}
use Rattle.nk_plan.specs.Child.{ChildState}
use Rattle.nk_plan.specs.Lanes.{IsPrefix, piece_messages, back_start, main_start, question, redirects_to}
use Rattle.nk_plan.specs.Channel.{Channel, main_lane, back_lane, up_lane, up_step, main_step, back_step, channel_step, channel_after}
use Rattle.nk_plan.specs.declared.step.Step.{Step}
use Rattle.nk_plan.specs.declared.step.Step.TheVariants.{Act, Verdict, Fetch, Up, Forward, Main, Back, Release, Begin, Finish, Read}
use Rattle.nk_plan.specs.declared.plan.StartLane.{StartLane}
use Rattle.nk_plan.specs.declared.plan.Hop.{Hop}
use Rattle.nk_plan.specs.declared.plan.Finish.{Finish as End}
use Rattle.nk_base.specs.declared.status.Status.{Status}
use Rattle.nk_base.specs.declared.field.Head.{Head}
use Rattle.nk_base.specs.Status.{redirect_loop, is_failure, ok}
use Rattle.nk_plan.specs.Plan.{hop_at, hop_pieces}
use Rattle.nk_plan.specs.declared.step.Phase.{Phase}
use Rattle.nk_plan.specs.declared.step.Phase.TheVariants.{Closed, Ready, Asking, Follow, Body, Done}
use Rattle.nk_laws.proofs.ParentLaw.{ups-append, backs-append, Keeps, InBody}
use Rattle.nk_laws.proofs.Tools.{keeps_if, append_nil, by_bool, or_zero}
use Rattle.nk_laws.proofs.Merge.{prefix_of_take}
use Rattle.nk_laws.specs.Moves.{Joined}
use Rattle.nk_laws.proofs.Joined.{Adds, fetch_step_adds, up_journal, joined}
use Rattle.std.proofs.lemmas.Int.{ints}
use Rattle.nk_plan.specs.Enabled.{body_enabled}
use Rattle.nk_laws.proofs.Credit.{read_of, read-append, backs_size, backs_size-append, GoodMains, GoodBacks, read_most}
use Rattle.nk_base.specs.declared.message.UpMsg.TheVariants as up
use Rattle.nk_plan.specs.declared.step.ParentStep.TheVariants as parent
use Rattle.nk_plan.specs.declared.journal.ParentEntry.TheVariants as entry
use Rattle.nk_plan.specs.declared.plan.StartLane.TheVariants as lane
use Rattle.nk_plan.specs.declared.plan.Hop.TheVariants as hop
use Rattle.nk_plan.specs.declared.plan.Finish.TheVariants as finish
use Rattle.nk_base.specs.declared.message.BackMsg.TheVariants as back

-- A parent's credit covers what was read

-- what is lent does not change: the credit and all that was sent
abbrev Lent : ParentState → ParentState → Type 0
Lent s s' = s'.credit +ℤ pos (backs_size (backs_sent s'.journal)) ≡ s.credit +ℤ pos (backs_size (backs_sent s.journal))

sent_size : (j k : List ParentEntry) → backs_size (backs_sent (j ++ k)) ≡ backs_size (backs_sent j) + backs_size (backs_sent k)
sent_size j k = ap backs_size (backs-append j k) ∙ backs_size-append (backs_sent j) (backs_sent k)

free_lent : (cr : ℤ) (j k : List ParentEntry) → backs_size (backs_sent k) ≡ 0 → cr +ℤ pos (backs_size (backs_sent (j ++ k))) ≡ cr +ℤ pos (backs_size (backs_sent j))
free_lent cr j k z = ap (λ n. cr +ℤ pos n) (sent_size j k ∙ (ap (λ n. backs_size (backs_sent j) + n) z ∙ add-zero (backs_size (backs_sent j))))

given_lent : (l : StartLane) (cr : ℤ) (j : List ParentEntry) (h : ℕ) (st : Status) (head : Head) → cr +ℤ pos (backs_size (backs_sent (j ++ start_entries l h st head))) ≡ cr +ℤ pos (backs_size (backs_sent j))
given_lent lane.Main cr j h st head = free_lent cr j (start_entries lane.Main h st head) refl
given_lent lane.Back cr j h st head = free_lent cr j (start_entries lane.Back h st head) refl

finished_lent : (c : ChannelPlan) (s : ParentState) (end : End) → Lent s (fetch_finish c s end)
finished_lent c s finish.Good = free_lent s.credit s.journal _ refl
finished_lent c s (finish.Fail st) = free_lent s.credit s.journal _ refl

paid : (cr : ℤ) (n m k : ℕ) → m ≡ n + k → (cr -ℤ pos k) +ℤ pos m ≡ cr +ℤ pos n
paid cr n m k e = omega (arith, ints)

piece_lent : (c : ChannelPlan) (s : ParentState) (pieces : List (List ℕ)) (end : End) (o : Option (List ℕ)) → Lent s (fetch_piece c s pieces end o)
piece_lent c s pieces end None = finished_lent c s end
piece_lent c s pieces end (Some p) =
    let k : List ParentEntry = entry.SentBack (back.Bytes s.hop ok (offset_of pieces s.piece) p) ∷ [] in
    keeps_if (Lent s) (int_lt (pos 0) s.credit) _ s
    (λ r. paid s.credit (backs_size (backs_sent s.journal)) (backs_size (backs_sent (s.journal ++ k))) (length p) (sent_size s.journal k ∙ ap (λ n. backs_size (backs_sent s.journal) + n) (add-zero (length p))))
    (λ r. refl)

body_lent : (c : ChannelPlan) (s : ParentState) (q : Option Status) (o : Option Hop) → Lent s (fetch_body c s q o)
body_lent c s (Some q) o = free_lent s.credit s.journal _ refl
body_lent c s None None = refl
body_lent c s None (Some (hop.Fail st)) = refl
body_lent c s None (Some (hop.Redirect code verdict)) = refl
body_lent c s None (Some (hop.Response head pieces end trailers)) = piece_lent c s pieces end (slice_get pieces s.piece)

redirect_lent : (c : ChannelPlan) (s : ParentState) (code : ℕ) (q : Option Status) → Lent s (fetch_redirect c s code q)
redirect_lent c s code (Some q) = given_lent c.start s.credit s.journal s.hop _ _
redirect_lent c s code None =
    keeps_if (Lent s) (s.followed == 20) (give_start c s (Some redirect_loop) (bare_head code)) _ (λ r. given_lent c.start s.credit s.journal s.hop _ _) (λ r. free_lent s.credit s.journal _ refl)

ready_lent : (c : ChannelPlan) (s : ParentState) (o : Option Hop) → Lent s (fetch_hop c s o)
ready_lent c s None = refl
ready_lent c s (Some (hop.Fail st)) = free_lent s.credit s.journal _ refl
ready_lent c s (Some (hop.Redirect code verdict)) = redirect_lent c s code s.kept
ready_lent c s (Some (hop.Response head pieces end trailers)) = given_lent c.start s.credit s.journal s.hop _ _

follow_lent : (c : ChannelPlan) (s : ParentState) (q : Option Status) (o : Option Hop) → Lent s (fetch_follow c s q o)
follow_lent c s (Some q) (Some (hop.Redirect code verdict)) = given_lent c.start s.credit s.journal s.hop _ _
follow_lent c s _ o = free_lent s.credit s.journal _ refl

fetch_lent : (c : ChannelPlan) (s : ParentState) (ph : Phase) → Lent s (fetch_in c s ph)
fetch_lent c s Closed = refl
fetch_lent c s Asking = refl
fetch_lent c s Done = refl
fetch_lent c s Ready = ready_lent c s (hop_at c s.hop)
fetch_lent c s Follow = follow_lent c s s.kept (hop_at c s.hop)
fetch_lent c s Body = body_lent c s s.kept (hop_at c s.hop)

fetch_step_lent : (c : ChannelPlan) (s : ParentState) → Lent s (parent_step c parent.Fetch s)
fetch_step_lent c s = keeps_if (Lent s) s.suspended s (fetch_in c s s.phase) (λ r. refl) (λ r. fetch_lent c s s.phase)

-- the window is covered by the credit and what is under way
abbrev pub Covered : ChannelPlan → ParentState → Type 0
Covered c s = pos (c.window + read_of (ups_taken s.journal)) ≤ℤ (s.credit +ℤ pos (backs_size (backs_sent s.journal)))

fetch_covered : (c : ChannelPlan) (s : ParentState) → Covered c s → Covered c (parent_step c parent.Fetch s)
fetch_covered c s h =
    let s' = parent_step c parent.Fetch s in
    let a : Adds s.journal s'.journal = fetch_step_adds c s in
    let eu : ups_taken s'.journal ≡ ups_taken s.journal = ap ups_taken a.journal_is ∙ (ups-append s.journal a.entries ∙ (ap (λ t. ups_taken s.journal ++ t) a.no_up ∙ append_nil (ups_taken s.journal))) in
    rw (eu, fetch_step_lent c s) h

window_covers : (w r b : ℕ) → r ≤ b → pos (w + r) ≤ℤ (pos w +ℤ pos b)
window_covers w r b h = omega (arith, ints)

more_covers : (w r n : ℕ) (cr : ℤ) (b : ℕ) → pos (w + r) ≤ℤ (cr +ℤ pos b) → pos (w + (r + (n + 0))) ≤ℤ ((cr +ℤ pos n) +ℤ pos b)
more_covers w r n cr b h = omega (arith, ints)

-- the credit after a message
credit_after : (c : ChannelPlan) (m : UpMsg) (s : ParentState) → pos (c.window + read_of (ups_taken s.journal)) ≤ℤ (s.credit +ℤ pos (backs_size (backs_sent s.journal)))
    → read_of (ups_taken s.journal) + read_of (m ∷ []) ≤ backs_size (backs_sent s.journal)
    → pos (c.window + (read_of (ups_taken s.journal) + read_of (m ∷ []))) ≤ℤ ((take_up c s m).credit +ℤ pos (backs_size (backs_sent s.journal)))
credit_after c up.Open s h w = rw (add-zero (read_of (ups_taken s.journal))) h
credit_after c up.Suspend s h w = rw (add-zero (read_of (ups_taken s.journal))) h
credit_after c up.Resume s h w = rw (add-zero (read_of (ups_taken s.journal))) h
credit_after c (up.Cancel st) s h w = rw (add-zero (read_of (ups_taken s.journal))) h
credit_after c (up.Verify i st) s h w = rw (add-zero (read_of (ups_taken s.journal))) h
credit_after c (up.BytesRead n) s h w =
    keeps_if (λ (x : ℤ). pos (c.window + (read_of (ups_taken s.journal) + (n + 0))) ≤ℤ (x +ℤ pos (backs_size (backs_sent s.journal))))
    (int_lt (pos c.window) (s.credit +ℤ pos n)) (pos c.window) (s.credit +ℤ pos n)
    (λ r. window_covers c.window (read_of (ups_taken s.journal) + (n + 0)) (backs_size (backs_sent s.journal)) w)
    (λ r. more_covers c.window (read_of (ups_taken s.journal)) n s.credit (backs_size (backs_sent s.journal)) h)
credit_after c up.Deleting s h w = rw (add-zero (read_of (ups_taken s.journal))) h

up_covered : (c : ChannelPlan) (m : UpMsg) (s : ParentState) → read_of (ups_taken (parent_step c (parent.Up m) s).journal) ≤ backs_size (backs_sent (parent_step c (parent.Up m) s).journal) → Covered c s → Covered c (parent_step c (parent.Up m) s)
up_covered c m s w h =
    let j : List ParentEntry = (take_up c s m).journal ++ entry.Took m ∷ [] in
    let eu : read_of (ups_taken j) ≡ read_of (ups_taken s.journal) + read_of (m ∷ []) = rw (up_journal c m s, ups-append s.journal (entry.Took m ∷ [])) (read-append (ups_taken s.journal) (m ∷ [])) in
    let eb : backs_sent j ≡ backs_sent s.journal = rw (up_journal c m s) (backs-append s.journal (entry.Took m ∷ []) ∙ append_nil (backs_sent s.journal)) in
    rw (eu, eb) (credit_after c m s h (rw (eu, eb) at w))

-- no more was read than was sent
read_within : (c : ChannelPlan) (w : Channel) → Joined c w → Known c → read_of (ups_taken w.parent.journal) ≤ backs_size (backs_sent w.parent.journal)
read_within c w j v =
    let s = w.child in
    let h : read_of s.sent ≤ backs_size (backs_taken s.journal) =
    subst (λ (x : ChildState). read_of x.sent ≤ backs_size (backs_taken x.journal)) j.child_is (read_most c j.child_steps v) in
    let b : IsPrefix (backs_taken s.journal) (backs_sent w.parent.journal) = prefix_of_take w.forwarded (backs_taken s.journal) (backs_sent w.parent.journal) j.backs in
    let eb : backs_size (backs_sent w.parent.journal) ≡ backs_size (backs_taken s.journal) + backs_size b.0 = ap backs_size (sym b.1) ∙ backs_size-append (backs_taken s.journal) b.0 in
    let eu : read_of s.sent ≡ read_of (ups_taken w.parent.journal) + read_of j.ups.0 = ap read_of (sym j.ups.1) ∙ read-append (ups_taken w.parent.journal) j.ups.0 in
    omega arith

up_done_covered : (c : ChannelPlan) (l : List UpMsg) (w : Channel) → read_of (ups_taken (up_step c l w).parent.journal) ≤ backs_size (backs_sent (up_step c l w).parent.journal) → Covered c w.parent → Covered c (up_step c l w).parent
up_done_covered c [] w r h = h
up_done_covered c (m ∷ ms) w r h = up_covered c m w.parent r h

main_done_covered : (c : ChannelPlan) (l : List MainMsg) (w : Channel) → Covered c w.parent → Covered c (main_step c l w).parent
main_done_covered c [] w h = h
main_done_covered c (m ∷ ms) w h = h

back_done_covered : (c : ChannelPlan) (l : List BackMsg) (w : Channel) → Covered c w.parent → Covered c (back_step c l w).parent
back_done_covered c [] w h = h
back_done_covered c (m ∷ ms) w h = h

step_covered : (c : ChannelPlan) (x : Step) (w : Channel) → read_of (ups_taken (channel_step c x w).parent.journal) ≤ backs_size (backs_sent (channel_step c x w).parent.journal) → Covered c w.parent → Covered c (channel_step c x w).parent
step_covered c Act w r h = h
step_covered c Verdict w r h = h
step_covered c Fetch w r h = fetch_covered c w.parent h
step_covered c Up w r h = up_done_covered c (up_lane w) w r h
step_covered c Forward w r h = keeps_if (λ (y : Channel). Covered c y.parent) (nat_lt w.forwarded (length (backs_sent w.parent.journal))) (record w { forwarded = suc w.forwarded }) w (λ q. h) (λ q. h)
step_covered c Main w r h = main_done_covered c (main_lane w) w h
step_covered c Back w r h = back_done_covered c (back_lane w) w h
step_covered c Release w r h = h
step_covered c (Begin t) w r h = h
step_covered c (Finish t) w r h = h
step_covered c (Read reader) w r h = h

start_covers : (n : ℕ) → pos (n + 0) ≤ℤ (pos n +ℤ pos 0)
start_covers n = omega (arith, ints)

pub covered : (c : ChannelPlan) (steps : List Step) → Known c → Covered c (channel_after c steps).parent
covered c [] v = start_covers c.window
covered c (x ∷ xs) v = step_covered c x (channel_after c xs) (read_within c (channel_after c (x ∷ xs)) (joined c (x ∷ xs)) v) (covered c xs v)

-- all that a parent in its body without a failure has sent is good

ok_good : is_failure ok ≡ false
ok_good = refl

pieces_good : (h o : ℕ) (ps : List (List ℕ)) → GoodBacks (piece_messages h o ps ++ [])
pieces_good h o [] = tt
pieces_good h o (p ∷ ps) = (ok_good, pieces_good h (o + length p) ps)

start_good : (l : StartLane) (h : ℕ) (st : Status) (head : Head) (rest : List BackMsg) → is_failure st ≡ false → GoodBacks rest → GoodBacks (back_start l h st head ++ rest)
start_good lane.Main h st head rest f g = (tt, g)
start_good lane.Back h st head rest f g = (f, g)

main_start_good : (l : StartLane) (h : ℕ) (st : Status) (head : Head) → is_failure st ≡ false → GoodMains (main_start l h st head)
main_start_good lane.Main h st head f = (f, tt)
main_start_good lane.Back h st head f = tt

good_mains_join : (xs ys : List MainMsg) → GoodMains xs → GoodMains ys → GoodMains (xs ++ ys)
good_mains_join [] ys a b = b
good_mains_join (m ∷ xs) ys a b = (a.0, good_mains_join xs ys a.1 b)

followed_good : (c : ChannelPlan) (f : ℕ) → GoodMains (redirects_to c f)
followed_good c zero = tt
followed_good c (suc f) = good_mains_join (redirects_to c f) _ (followed_good c f) (tt, (tt, tt))

question_good : (c : ChannelPlan) (f : ℕ) (b : Bool) → GoodMains (question c f b)
question_good c f false = tt
question_good c f true = (tt, tt)

pub not_failing : (st : Status) (q : Option Status) → q ≡ None → (is_failure st ≡ true → q ≡ Some st) → is_failure st ≡ false
not_failing st q e f = by_bool (is_failure st) (λ b. let x : q ≡ Some st = f b in absurd (cc)) (λ b. b)

pub body_good : (c : ChannelPlan) (h k : ℕ) (q : Option Status) (u : List UpMsg) (md : List MainMsg) (bd : List BackMsg) → q ≡ None → InBody c h k q u md bd → GoodMains md × GoodBacks bd
body_good c h k q u md bd e b =
    let f : is_failure b.started.status ≡ false = not_failing b.started.status q e b.failed in (
      rw b.started.mains (good_mains_join (redirects_to c h) _ (followed_good c h) (good_mains_join (question c h b.started.asked) _ (question_good c h b.started.asked) (main_start_good c.start h b.started.status b.started.head f))),
      rw (b.started.backs, b.open_ended) (start_good c.start h b.started.status b.started.head _ f (pieces_good h 0 (take b.started.pieces (hop_pieces (hop_at c h))))),
    )

pub keeps_body : (c : ChannelPlan) (s : ParentState) (ph : Phase) → s.phase ≡ ph → ph ≡ Body → Keeps c s → InBody c s.hop s.piece s.kept (ups_taken s.journal) (mains_sent s.journal) (backs_sent s.journal)
keeps_body c s ph e b k = rw (e ∙ b) at k

-- where a body waits it is for credit
pub body_waits : (s : ParentState) (q : Option Status) (pieces : List (List ℕ)) → body_enabled s q pieces ≡ false → (q ≡ None) × (int_lt (pos 0) s.credit ≡ false)
body_waits s (Some q) pieces b = cc
body_waits s None pieces b = (refl, or_zero (not (is_some (slice_get pieces s.piece))) (int_lt (pos 0) s.credit) b)
