-- Every order of steps of a whole channel is a run: its steps, side by side, can be placed in the order in which they came.
use Rattle.std.proofs.Common.{ℕ, zero, suc, ◌≡◌, ◌+◌, ◌<◌, ◌≤◌, refl, sym, ◌∙◌, ap, subst, Bool, true, false, nat_lt, List, [], ◌∷◌, length, drop, take, arith}
use borrow.Author.Tests.{ltb-true, lt-ltb}
use Rattle.nk_base.specs.declared.message.MainMsg.{MainMsg}
use Rattle.nk_base.specs.declared.message.BackMsg.{BackMsg}
use Rattle.nk_base.specs.declared.message.UpMsg.{UpMsg}
use Rattle.nk_base.specs.Queue.{has_some}
use Rattle.nk_plan.specs.declared.plan.ChannelPlan.{ChannelPlan}
use Rattle.nk_plan.specs.declared.step.Step.{Step}
use Rattle.nk_plan.specs.declared.step.Step.TheVariants.{Act, Verdict, Fetch, Up, Forward, Main, Back, Release, Begin, Finish, Read}
use Rattle.nk_plan.specs.declared.step.ParentStep.{ParentStep}
use Rattle.nk_plan.specs.declared.step.ParentStep.TheVariants as parent
use Rattle.nk_plan.specs.declared.step.ChildStep.{ChildStep}
use Rattle.nk_plan.specs.declared.step.ChildStep.TheVariants as child
use Rattle.nk_plan.specs.Journal.{ups_taken, mains_sent, backs_sent, mains_taken, backs_taken}
use Rattle.nk_plan.specs.Parent.{ParentState, parent_step, parent_after}
use Rattle.nk_plan.specs.Child.{ChildState, child_step, child_after}
use Rattle.nk_plan.specs.Channel.{Channel, main_lane, back_lane, up_lane, up_step, main_step, back_step, forward_step, channel_step, channel_after}
use Rattle.nk_plan.specs.Run.{parent_blocks, child_blocks, sends_of, Run}
use Rattle.nk_plan.specs.Walk.{ParentBlock, ChildBlock, walk_start, may, CanPlace}
use Rattle.nk_plan.specs.Lanes.{IsPrefix}
use Rattle.nk_laws.proofs.Tools.{keeps_if}
use Rattle.nk_laws.proofs.Grows.{NoLane}
use Rattle.nk_laws.specs.Moves.{Joined, ups_of, mains_of, backs_of}
use Rattle.nk_laws.proofs.Joined.{joined}
use Rattle.nk_laws.proofs.Replay.{child_replayed}
use Rattle.nk_laws.proofs.Blocks.{parent_enters, child_enters, parent_block_at, child_block_at, parent_block_is, child_block_is, parent_sums, child_sums}
use Rattle.nk_laws.proofs.More.{parent_more, forward_more_at_end, child_more, all_up, all_mains, all_backs, all_main, all_back, all_ups}

-- the steps of the two sides of a channel, and an order of their blocks
pub record Ordered (c : ChannelPlan) (w : Channel) : Type 0 where
  pub parent_steps : List ParentStep
  pub child_steps : List ChildStep
  pub parent_is : parent_after c parent_steps ≡ w.parent
  pub child_is : child_after c child_steps ≡ w.child
  pub placed : CanPlace (walk_start (parent_blocks c parent_steps) w.forwarded (child_blocks c child_steps))

-- whether a block takes a message

pub takes_up_is : (c : ChannelPlan) (x : ParentStep) (s : ParentState) → (parent_block_at c x s).takes_up ≡ has_some (ups_of x)
takes_up_is c x s = let e = parent_enters c x s in ap (λ (b : ParentBlock). b.takes_up) (parent_block_is c x s e) ∙ ap has_some e.ups

pub takes_main_is : (c : ChannelPlan) (x : ChildStep) (s : ChildState) → (child_block_at c x s).takes_main ≡ has_some (mains_of x s.broken)
takes_main_is c x s = let e = child_enters c x s in ap (λ (b : ChildBlock). b.takes_main) (child_block_is c x s e) ∙ ap has_some e.mains

pub takes_back_is : (c : ChannelPlan) (x : ChildStep) (s : ChildState) → (child_block_at c x s).takes_back ≡ has_some (backs_of x s.broken)
takes_back_is c x s = let e = child_enters c x s in ap (λ (b : ChildBlock). b.takes_back) (child_block_is c x s e) ∙ ap has_some e.backs

no_mains : (x : ChildStep) (b : Bool) → NoLane x → mains_of x b ≡ []
no_mains child.Act b n = refl
no_mains child.Verdict b n = refl
no_mains (child.Main m) b n = absurd n
no_mains (child.Back m) b n = absurd n
no_mains child.Release b n = refl
no_mains (child.Begin t) b n = refl
no_mains (child.Finish t) b n = refl

no_backs : (x : ChildStep) (b : Bool) → NoLane x → backs_of x b ≡ []
no_backs child.Act b n = refl
no_backs child.Verdict b n = refl
no_backs (child.Main m) b n = absurd n
no_backs (child.Back m) b n = absurd n
no_backs child.Release b n = refl
no_backs (child.Begin t) b n = refl
no_backs (child.Finish t) b n = refl

may_none : (t : Bool) (a b : ℕ) → t ≡ false → may t a b ≡ true
may_none t a b e = rw e refl

may_next : (t : Bool) (a b : ℕ) → a < b → may t a b ≡ true
may_next true a b l = lt-ltb a b l
may_next false a b l = refl

pub more_there : {A : Type 0} (n : ℕ) (xs ms : List A) (m : A) → drop n xs ≡ m ∷ ms → n < length xs
more_there zero [] ms m e = cc
more_there zero (x ∷ xs) ms m e = omega arith
more_there (suc n) [] ms m e = cc
more_there (suc n) (x ∷ xs) ms m e = let l : n < length xs = more_there n xs ms m e in omega arith

-- The steps

plain_ordered : (c : ChannelPlan) (x : ChildStep) (w : Channel) → NoLane x → Ordered c w → Ordered c (record w { child = child_step c x w.child })
plain_ordered c x w n o =
    let s : ChildState = child_after c o.child_steps in
    record {
      parent_steps = o.parent_steps;
      child_steps = x ∷ o.child_steps;
      parent_is = o.parent_is;
      child_is = ap (λ (y : ChildState). child_step c x y) o.child_is;
      placed =
          child_more (walk_start (parent_blocks c o.parent_steps) w.forwarded (child_blocks c o.child_steps)) (child_block_at c x s) o.placed
          (may_none _ _ _ (takes_main_is c x s ∙ ap has_some (no_mains x s.broken n)))
          (may_none _ _ _ (takes_back_is c x s ∙ ap has_some (no_backs x s.broken n)));
    }

fetch_ordered : (c : ChannelPlan) (w : Channel) → Ordered c w → Ordered c (record w { parent = parent_step c parent.Fetch w.parent })
fetch_ordered c w o =
    let s : ParentState = parent_after c o.parent_steps in
    record {
      parent_steps = parent.Fetch ∷ o.parent_steps;
      child_steps = o.child_steps;
      parent_is = ap (λ (y : ParentState). parent_step c parent.Fetch y) o.parent_is;
      child_is = o.child_is;
      placed =
          parent_more (walk_start (parent_blocks c o.parent_steps) w.forwarded (child_blocks c o.child_steps)) (parent_block_at c parent.Fetch s) o.placed
          (may_none _ _ _ (takes_up_is c parent.Fetch s));
    }

up_ordered : (c : ChannelPlan) (w : Channel) (l : List UpMsg) → up_lane w ≡ l → Ordered c w → Ordered c (up_step c l w)
up_ordered c w [] e o = o
up_ordered c w (m ∷ ms) e o =
    let s : ParentState = parent_after c o.parent_steps in
    let ps = parent_sums c o.parent_steps in
    let cs = child_sums c o.child_steps in
    let l : length (ups_taken w.parent.journal) < length w.child.sent = more_there (length (ups_taken w.parent.journal)) w.child.sent ms m e in
    let a : all_up (parent_blocks c o.parent_steps) ≡ length (ups_taken w.parent.journal) = ps.ups ∙ ap (λ (y : ParentState). length (ups_taken y.journal)) o.parent_is in
    let b : all_ups (child_blocks c o.child_steps) ≡ length w.child.sent = cs.ups ∙ ap (λ (y : ChildState). length y.sent) o.child_is in
    record {
      parent_steps = parent.Up m ∷ o.parent_steps;
      child_steps = o.child_steps;
      parent_is = ap (λ (y : ParentState). parent_step c (parent.Up m) y) o.parent_is;
      child_is = o.child_is;
      placed =
          parent_more (walk_start (parent_blocks c o.parent_steps) w.forwarded (child_blocks c o.child_steps)) (parent_block_at c (parent.Up m) s) o.placed
          (may_next _ (0 + all_up (parent_blocks c o.parent_steps)) (0 + all_ups (child_blocks c o.child_steps)) (omega arith));
    }

main_ordered : (c : ChannelPlan) (w : Channel) (l : List MainMsg) → main_lane w ≡ l → Ordered c w → Ordered c (main_step c l w)
main_ordered c w [] e o = o
main_ordered c w (m ∷ ms) e o =
    let s : ChildState = child_after c o.child_steps in
    let ps = parent_sums c o.parent_steps in
    let cs = child_sums c o.child_steps in
    let l : length (mains_taken w.child.journal) < length (mains_sent w.parent.journal) = more_there (length (mains_taken w.child.journal)) (mains_sent w.parent.journal) ms m e in
    let a : all_mains (parent_blocks c o.parent_steps) ≡ length (mains_sent w.parent.journal) = ps.mains ∙ ap (λ (y : ParentState). length (mains_sent y.journal)) o.parent_is in
    let b : all_main (child_blocks c o.child_steps) ≡ length (mains_taken w.child.journal) = cs.mains ∙ ap (λ (y : ChildState). length (mains_taken y.journal)) o.child_is in
    record {
      parent_steps = o.parent_steps;
      child_steps = child.Main m ∷ o.child_steps;
      parent_is = o.parent_is;
      child_is = ap (λ (y : ChildState). child_step c (child.Main m) y) o.child_is;
      placed =
          child_more (walk_start (parent_blocks c o.parent_steps) w.forwarded (child_blocks c o.child_steps)) (child_block_at c (child.Main m) s) o.placed
          (may_next _ (0 + all_main (child_blocks c o.child_steps)) (0 + all_mains (parent_blocks c o.parent_steps)) (omega arith))
          (may_none _ _ _ (takes_back_is c (child.Main m) s));
    }

take_length : {A : Type 0} (n : ℕ) (xs : List A) → length (take n xs) ≤ n
take_length zero xs = omega arith
take_length (suc n) [] = omega arith
take_length (suc n) (x ∷ xs) = let l : length (take n xs) ≤ n = take_length n xs in omega arith

back_ordered : (c : ChannelPlan) (w : Channel) (l : List BackMsg) → back_lane w ≡ l → Ordered c w → Ordered c (back_step c l w)
back_ordered c w [] e o = o
back_ordered c w (m ∷ ms) e o =
    let s : ChildState = child_after c o.child_steps in
    let cs = child_sums c o.child_steps in
    let l : length (backs_taken w.child.journal) < length (take w.forwarded (backs_sent w.parent.journal)) = more_there (length (backs_taken w.child.journal)) (take w.forwarded (backs_sent w.parent.journal)) ms m e in
    let k : length (take w.forwarded (backs_sent w.parent.journal)) ≤ w.forwarded = take_length w.forwarded (backs_sent w.parent.journal) in
    let b : all_back (child_blocks c o.child_steps) ≡ length (backs_taken w.child.journal) = cs.backs ∙ ap (λ (y : ChildState). length (backs_taken y.journal)) o.child_is in
    record {
      parent_steps = o.parent_steps;
      child_steps = child.Back m ∷ o.child_steps;
      parent_is = o.parent_is;
      child_is = ap (λ (y : ChildState). child_step c (child.Back m) y) o.child_is;
      placed =
          child_more (walk_start (parent_blocks c o.parent_steps) w.forwarded (child_blocks c o.child_steps)) (child_block_at c (child.Back m) s) o.placed
          (may_none _ _ _ (takes_main_is c (child.Back m) s))
          (may_next _ (0 + all_back (child_blocks c o.child_steps)) (0 + w.forwarded) (omega arith));
    }

forward_ordered : (c : ChannelPlan) (w : Channel) → Ordered c w → Ordered c (forward_step w)
forward_ordered c w o =
    keeps_if (Ordered c) (nat_lt w.forwarded (length (backs_sent w.parent.journal))) (record w { forwarded = suc w.forwarded }) w
    (λ r.
    let ps = parent_sums c o.parent_steps in
    let l : w.forwarded < length (backs_sent w.parent.journal) = ltb-true w.forwarded (length (backs_sent w.parent.journal)) r in
    let a : all_backs (parent_blocks c o.parent_steps) ≡ length (backs_sent w.parent.journal) = ps.backs ∙ ap (λ (y : ParentState). length (backs_sent y.journal)) o.parent_is in
    record {
      parent_steps = o.parent_steps;
      child_steps = o.child_steps;
      parent_is = o.parent_is;
      child_is = o.child_is;
      placed =
          forward_more_at_end (walk_start (parent_blocks c o.parent_steps) w.forwarded (child_blocks c o.child_steps)) o.placed
          (lt-ltb (0 + w.forwarded) (0 + all_backs (parent_blocks c o.parent_steps)) (omega arith));
    })
    (λ r. o)

step_ordered : (c : ChannelPlan) (x : Step) (w : Channel) → Ordered c w → Ordered c (channel_step c x w)
step_ordered c Act w o = plain_ordered c child.Act w tt o
step_ordered c Verdict w o = plain_ordered c child.Verdict w tt o
step_ordered c Fetch w o = fetch_ordered c w o
step_ordered c Up w o = up_ordered c w (up_lane w) refl o
step_ordered c Forward w o = forward_ordered c w o
step_ordered c Main w o = main_ordered c w (main_lane w) refl o
step_ordered c Back w o = back_ordered c w (back_lane w) refl o
step_ordered c Release w o = plain_ordered c child.Release w tt o
step_ordered c (Begin t) w o = plain_ordered c (child.Begin t) w tt o
step_ordered c (Finish t) w o = plain_ordered c (child.Finish t) w tt o
step_ordered c (Read reader) w o = o

pub ordered : (c : ChannelPlan) (steps : List Step) → Ordered c (channel_after c steps)
ordered c [] = record { parent_steps = []; child_steps = []; parent_is = refl; child_is = refl; placed = ([], refl) }
ordered c (x ∷ xs) = step_ordered c x (channel_after c xs) (ordered c xs)

pub order_is_run : (c : ChannelPlan) (steps : List Step)
    → Run c (channel_after c steps).parent.journal (channel_after c steps).child.journal (channel_after c steps).forwarded
order_is_run c steps =
    let w = channel_after c steps in
    let o : Ordered c w = ordered c steps in
    let j : Joined c w = joined c steps in
    let told : sends_of c w.child.journal ≡ w.child.sent =
    ap (λ (y : ChildState). y.sent) (child_replayed c o.child_steps w.child.journal (ap (λ (y : ChildState). y.journal) o.child_is) ∙ o.child_is) in
    record {
      down = record {
        parent_run = (o.parent_steps, ap (λ (y : ParentState). y.journal) o.parent_is);
        child_run = (o.child_steps, ap (λ (y : ChildState). y.journal) o.child_is);
        mains = j.mains;
        forwards = j.within;
        backs = j.backs;
      };
      ups = subst (λ t. IsPrefix (ups_taken w.parent.journal) t) (sym told) j.ups;
      placed = o.placed;
    }
