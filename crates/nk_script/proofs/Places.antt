-- What is known of the channel that is not complete, at each place of a script.
use Rattle.std.proofs.Common.{◌≡◌, ◌≤◌, ◌<◌, ℕ, true, false, Bool, List, [], length, Option, Some, None, refl, sym, ap, subst, ◌∙◌}
use Rattle.std.specs.Option.{option_map_or}
use Rattle.nk_plan.specs.declared.plan.ChannelPlan.{ChannelPlan}
use Rattle.nk_plan.specs.declared.plan.Finish.{Finish}
use Rattle.nk_plan.specs.Accepted.{Accepted, IsGoodFinish}
use Rattle.nk_script.specs.declared.draft.Draft.{Draft}
use Rattle.nk_script.specs.declared.line.Keyword.{Keyword}
use Rattle.nk_script.specs.declared.line.Keyword.TheVariants as key
use Rattle.nk_script.specs.declared.line.Place.{Place}
use Rattle.nk_script.specs.declared.line.Place.TheVariants as place
use Rattle.nk_script.specs.Responses.{ResponseParts}
use Rattle.nk_script.specs.Order.{allows, behind_reaction, may_end, is_script, is_channel, is_number}
use Rattle.nk_script.specs.Draft.{plan_of, response_count}
use Rattle.nk_script.proofs.Drafts.{IsOpening, IsResponding, IsWhole, IsCalled, response_whole}

-- THE CHANNEL THAT IS NOT COMPLETE

-- a response's body may come
abbrev pub IsAtBody : Draft → Type 0
IsAtBody d = (p : ResponseParts) × IsResponding d p × (p.trailers ≡ [])

-- what is known of it at a place
abbrev pub IsDraftAt : Place → Draft → Type 0
IsDraftAt place.Start d = ⊥
IsDraftAt place.Channels d = ⊥
IsDraftAt place.Hop d = IsOpening d
IsDraftAt place.Fields d = IsAtBody d
IsDraftAt place.Pieces d = IsAtBody d
IsDraftAt place.Trailers d = (p : ResponseParts) × IsResponding d p
IsDraftAt place.Listener d = IsCalled d
IsDraftAt place.Retargetable d = IsCalled d
IsDraftAt place.Window d = IsCalled d
IsDraftAt place.StartLane d = IsCalled d
IsDraftAt place.Closed d = IsCalled d
IsDraftAt place.Reactions d = IsWhole d × (d.closed ≡ false)
IsDraftAt place.ClosedReactions d = IsWhole d
IsDraftAt place.Controls d = IsWhole d × (d.closed ≡ false)
IsDraftAt place.Steps d = ⊥

-- there is none only before the first channel and behind the last one
abbrev pub IsDoneAt : Place → List ChannelPlan → Type 0
IsDoneAt place.Start plans = Unit {0}
IsDoneAt place.Channels plans = Unit {0}
IsDoneAt place.Hop plans = ⊥
IsDoneAt place.Fields plans = ⊥
IsDoneAt place.Pieces plans = ⊥
IsDoneAt place.Trailers plans = ⊥
IsDoneAt place.Listener plans = ⊥
IsDoneAt place.Retargetable plans = ⊥
IsDoneAt place.Window plans = ⊥
IsDoneAt place.StartLane plans = ⊥
IsDoneAt place.Closed plans = ⊥
IsDoneAt place.Reactions plans = ⊥
IsDoneAt place.ClosedReactions plans = ⊥
IsDoneAt place.Controls plans = ⊥
IsDoneAt place.Steps plans = 0 < length plans

abbrev pub IsAtPlace : Place → List ChannelPlan → Option Draft → Type 0
IsAtPlace p plans None = IsDoneAt p plans
IsAtPlace p plans (Some d) = IsDraftAt p d

pub size_responding : (d : Draft) (p : ResponseParts) → IsResponding d p → response_count (λ s. s.size) d ≡ p.size
size_responding d p is = ap (λ (o : Option ResponseParts). option_map_or (λ (s : ResponseParts). s.size) o 0) is.response

-- a channel of which all hops have come
pub whole_responding : (d : Draft) (p : ResponseParts) → IsResponding d p → response_count (λ s. s.size) d ≤ 67108864 → IsCalled d
whole_responding d p is small =
    response_whole d p is.bare is.leads is.response (subst (λ (f : Finish). IsGoodFinish f p.trailers) (sym is.finish) tt) is.few_pieces is.size
    (subst (λ (n : ℕ). n ≤ 67108864) (size_responding d p is) small) is.few_trailers is.trailers

-- THE PLACES

-- among the hops of a channel
abbrev pub is_inside : Place → Bool
is_inside place.Start = false
is_inside place.Channels = false
is_inside place.Hop = true
is_inside place.Fields = true
is_inside place.Pieces = true
is_inside place.Trailers = false
is_inside place.Listener = false
is_inside place.Retargetable = false
is_inside place.Window = false
is_inside place.StartLane = false
is_inside place.Closed = false
is_inside place.Reactions = false
is_inside place.ClosedReactions = false
is_inside place.Controls = false
is_inside place.Steps = false

pub complete_at : (p : Place) (d : Draft) → IsDraftAt p d → response_count (λ s. s.size) d ≤ 67108864 → is_inside p ≡ false → Accepted (plan_of d)
complete_at place.Start d i small h = absurd i
complete_at place.Channels d i small h = absurd i
complete_at place.Hop d i small h = absurd (cc)
complete_at place.Fields d i small h = absurd (cc)
complete_at place.Pieces d i small h = absurd (cc)
complete_at place.Trailers d i small h = (whole_responding d i.0 i.1 small).whole.accepted
complete_at place.Listener d i small h = i.whole.accepted
complete_at place.Retargetable d i small h = i.whole.accepted
complete_at place.Window d i small h = i.whole.accepted
complete_at place.StartLane d i small h = i.whole.accepted
complete_at place.Closed d i small h = i.whole.accepted
complete_at place.Reactions d i small h = i.0.accepted
complete_at place.ClosedReactions d i small h = i.accepted
complete_at place.Controls d i small h = i.0.accepted
complete_at place.Steps d i small h = absurd i

-- a channel whose options may come
pub called_at : (p : Place) (d : Draft) → IsDraftAt p d → response_count (λ s. s.size) d ≤ 67108864 → allows p key.Closed ≡ true → IsCalled d
called_at place.Start d i small h = absurd i
called_at place.Channels d i small h = absurd i
called_at place.Hop d i small h = absurd (cc)
called_at place.Fields d i small h = absurd (cc)
called_at place.Pieces d i small h = absurd (cc)
called_at place.Trailers d i small h = whole_responding d i.0 i.1 small
called_at place.Listener d i small h = i
called_at place.Retargetable d i small h = i
called_at place.Window d i small h = i
called_at place.StartLane d i small h = i
called_at place.Closed d i small h = i
called_at place.Reactions d i small h = absurd (cc)
called_at place.ClosedReactions d i small h = absurd (cc)
called_at place.Controls d i small h = absurd (cc)
called_at place.Steps d i small h = absurd i

-- a channel whose reactions may come
pub whole_at : (p : Place) (d : Draft) → IsDraftAt p d → response_count (λ s. s.size) d ≤ 67108864 → allows p key.At ≡ true → IsWhole d
whole_at place.Start d i small h = absurd i
whole_at place.Channels d i small h = absurd i
whole_at place.Hop d i small h = absurd (cc)
whole_at place.Fields d i small h = absurd (cc)
whole_at place.Pieces d i small h = absurd (cc)
whole_at place.Trailers d i small h = (whole_responding d i.0 i.1 small).whole
whole_at place.Listener d i small h = i.whole
whole_at place.Retargetable d i small h = i.whole
whole_at place.Window d i small h = i.whole
whole_at place.StartLane d i small h = i.whole
whole_at place.Closed d i small h = i.whole
whole_at place.Reactions d i small h = i.0
whole_at place.ClosedReactions d i small h = i
whole_at place.Controls d i small h = absurd (cc)
whole_at place.Steps d i small h = absurd i

-- a channel whose page may call
pub open_at : (p : Place) (d : Draft) → IsDraftAt p d → response_count (λ s. s.size) d ≤ 67108864 → allows p key.When ≡ true → IsWhole d × (d.closed ≡ false)
open_at place.Start d i small h = absurd i
open_at place.Channels d i small h = absurd i
open_at place.Hop d i small h = absurd (cc)
open_at place.Fields d i small h = absurd (cc)
open_at place.Pieces d i small h = absurd (cc)
open_at place.Trailers d i small h = let k = whole_responding d i.0 i.1 small in (k.whole, k.opened)
open_at place.Listener d i small h = (i.whole, i.opened)
open_at place.Retargetable d i small h = (i.whole, i.opened)
open_at place.Window d i small h = (i.whole, i.opened)
open_at place.StartLane d i small h = (i.whole, i.opened)
open_at place.Closed d i small h = (i.whole, i.opened)
open_at place.Reactions d i small h = i
open_at place.ClosedReactions d i small h = absurd (cc)
open_at place.Controls d i small h = i
open_at place.Steps d i small h = absurd i

-- behind a reaction
pub reacted_at : (p : Place) (d e : Draft) → IsDraftAt p d → response_count (λ s. s.size) d ≤ 67108864 → allows p key.At ≡ true → IsWhole e → e.closed ≡ d.closed → IsDraftAt (behind_reaction p) e
reacted_at place.Start d e i small h w same = absurd i
reacted_at place.Channels d e i small h w same = absurd i
reacted_at place.Hop d e i small h w same = absurd (cc)
reacted_at place.Fields d e i small h w same = absurd (cc)
reacted_at place.Pieces d e i small h w same = absurd (cc)
reacted_at place.Trailers d e i small h w same = (w, same ∙ (whole_responding d i.0 i.1 small).opened)
reacted_at place.Listener d e i small h w same = (w, same ∙ i.opened)
reacted_at place.Retargetable d e i small h w same = (w, same ∙ i.opened)
reacted_at place.Window d e i small h w same = (w, same ∙ i.opened)
reacted_at place.StartLane d e i small h w same = (w, same ∙ i.opened)
reacted_at place.Closed d e i small h w same = (w, same ∙ i.opened)
reacted_at place.Reactions d e i small h w same = (w, same ∙ i.1)
reacted_at place.ClosedReactions d e i small h w same = w
reacted_at place.Controls d e i small h w same = absurd (cc)
reacted_at place.Steps d e i small h w same = absurd i

pub from_listener : (p : Place) → allows p key.Listener ≡ true → allows p key.Closed ≡ true
from_listener place.Start h = h
from_listener place.Channels h = h
from_listener place.Hop h = h
from_listener place.Fields h = h
from_listener place.Pieces h = h
from_listener place.Trailers h = refl
from_listener place.Listener h = refl
from_listener place.Retargetable h = refl
from_listener place.Window h = refl
from_listener place.StartLane h = refl
from_listener place.Closed h = refl
from_listener place.Reactions h = h
from_listener place.ClosedReactions h = h
from_listener place.Controls h = h
from_listener place.Steps h = h

pub from_retargetable : (p : Place) → allows p key.Retargetable ≡ true → allows p key.Closed ≡ true
from_retargetable place.Start h = h
from_retargetable place.Channels h = h
from_retargetable place.Hop h = h
from_retargetable place.Fields h = h
from_retargetable place.Pieces h = h
from_retargetable place.Trailers h = refl
from_retargetable place.Listener h = refl
from_retargetable place.Retargetable h = refl
from_retargetable place.Window h = refl
from_retargetable place.StartLane h = refl
from_retargetable place.Closed h = refl
from_retargetable place.Reactions h = h
from_retargetable place.ClosedReactions h = h
from_retargetable place.Controls h = h
from_retargetable place.Steps h = h

pub from_window : (p : Place) → allows p key.Window ≡ true → allows p key.Closed ≡ true
from_window place.Start h = h
from_window place.Channels h = h
from_window place.Hop h = h
from_window place.Fields h = h
from_window place.Pieces h = h
from_window place.Trailers h = refl
from_window place.Listener h = refl
from_window place.Retargetable h = refl
from_window place.Window h = refl
from_window place.StartLane h = refl
from_window place.Closed h = refl
from_window place.Reactions h = h
from_window place.ClosedReactions h = h
from_window place.Controls h = h
from_window place.Steps h = h

pub from_start : (p : Place) → allows p key.Start ≡ true → allows p key.Closed ≡ true
from_start place.Start h = h
from_start place.Channels h = h
from_start place.Hop h = h
from_start place.Fields h = h
from_start place.Pieces h = h
from_start place.Trailers h = refl
from_start place.Listener h = refl
from_start place.Retargetable h = refl
from_start place.Window h = refl
from_start place.StartLane h = refl
from_start place.Closed h = refl
from_start place.Reactions h = h
from_start place.ClosedReactions h = h
from_start place.Controls h = h
from_start place.Steps h = h

pub from_channel : (p : Place) → allows p key.Channel ≡ true → is_inside p ≡ false
from_channel place.Start h = refl
from_channel place.Channels h = refl
from_channel place.Hop h = absurd (cc)
from_channel place.Fields h = absurd (cc)
from_channel place.Pieces h = absurd (cc)
from_channel place.Trailers h = refl
from_channel place.Listener h = refl
from_channel place.Retargetable h = refl
from_channel place.Window h = refl
from_channel place.StartLane h = refl
from_channel place.Closed h = refl
from_channel place.Reactions h = refl
from_channel place.ClosedReactions h = refl
from_channel place.Controls h = refl
from_channel place.Steps h = refl

pub from_schedule : (p : Place) → allows p key.Schedule ≡ true → is_inside p ≡ false
from_schedule place.Start h = refl
from_schedule place.Channels h = refl
from_schedule place.Hop h = absurd (cc)
from_schedule place.Fields h = absurd (cc)
from_schedule place.Pieces h = absurd (cc)
from_schedule place.Trailers h = refl
from_schedule place.Listener h = refl
from_schedule place.Retargetable h = refl
from_schedule place.Window h = refl
from_schedule place.StartLane h = refl
from_schedule place.Closed h = refl
from_schedule place.Reactions h = refl
from_schedule place.ClosedReactions h = refl
from_schedule place.Controls h = refl
from_schedule place.Steps h = refl

pub from_end : (p : Place) → may_end p ≡ true → is_inside p ≡ false
from_end place.Start h = refl
from_end place.Channels h = refl
from_end place.Hop h = absurd (cc)
from_end place.Fields h = absurd (cc)
from_end place.Pieces h = absurd (cc)
from_end place.Trailers h = refl
from_end place.Listener h = refl
from_end place.Retargetable h = refl
from_end place.Window h = refl
from_end place.StartLane h = refl
from_end place.Closed h = refl
from_end place.Reactions h = refl
from_end place.ClosedReactions h = refl
from_end place.Controls h = refl
from_end place.Steps h = refl

pub schedule_ends : (p : Place) → allows p key.Schedule ≡ true → may_end p ≡ true
schedule_ends place.Start h = h
schedule_ends place.Channels h = h
schedule_ends place.Hop h = h
schedule_ends place.Fields h = h
schedule_ends place.Pieces h = h
schedule_ends place.Trailers h = refl
schedule_ends place.Listener h = refl
schedule_ends place.Retargetable h = refl
schedule_ends place.Window h = refl
schedule_ends place.StartLane h = refl
schedule_ends place.Closed h = refl
schedule_ends place.Reactions h = refl
schedule_ends place.ClosedReactions h = refl
schedule_ends place.Controls h = refl
schedule_ends place.Steps h = refl

-- a line of a channel stands only where there is one
pub no_draft : (p : Place) (plans : List ChannelPlan) (k : Keyword) → is_script k ≡ false → is_channel k ≡ false → is_number k ≡ false → allows p k ≡ true → IsDoneAt p plans → ⊥
no_draft place.Start plans k a b e h i = cc
no_draft place.Channels plans k a b e h i = cc
no_draft place.Hop plans k a b e h i = i
no_draft place.Fields plans k a b e h i = i
no_draft place.Pieces plans k a b e h i = i
no_draft place.Trailers plans k a b e h i = i
no_draft place.Listener plans k a b e h i = i
no_draft place.Retargetable plans k a b e h i = i
no_draft place.Window plans k a b e h i = i
no_draft place.StartLane plans k a b e h i = i
no_draft place.Closed plans k a b e h i = i
no_draft place.Reactions plans k a b e h i = i
no_draft place.ClosedReactions plans k a b e h i = i
no_draft place.Controls plans k a b e h i = i
no_draft place.Steps plans k a b e h i = cc
