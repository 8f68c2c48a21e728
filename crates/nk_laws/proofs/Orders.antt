-- Every run comes from an order of steps of a whole channel: the order in which its blocks are placed.
use Rattle.std.proofs.Common.{ℕ, zero, suc, ◌≡◌, ◌+◌, ◌-◌, ◌<◌, ◌≤◌, refl, sym, ◌∙◌, ap, subst, Bool, true, false, if◌then◌else◌, nat_lt, List, [], ◌∷◌, ◌++◌, length, drop, take, arith, append_assoc}
use Rattle.std.proofs.lemmas.List.{take-append-drop}
use borrow.Author.Tests.{ltb-true}
use Rattle.nk_base.specs.declared.message.MainMsg.{MainMsg}
use Rattle.nk_base.specs.declared.message.BackMsg.{BackMsg}
use Rattle.nk_base.specs.declared.message.UpMsg.{UpMsg}
use Rattle.nk_base.specs.Queue.{has_some}
use Rattle.nk_plan.specs.declared.plan.ChannelPlan.{ChannelPlan}
use Rattle.nk_plan.specs.declared.journal.ParentEntry.{ParentEntry}
use Rattle.nk_plan.specs.declared.journal.ChildEntry.{ChildEntry}
use Rattle.nk_plan.specs.declared.step.Step.{Step}
use Rattle.nk_plan.specs.declared.step.Step.TheVariants.{Act, Verdict, Fetch, Up, Forward, Main, Back, Release, Begin, Finish}
use Rattle.nk_plan.specs.declared.step.ParentStep.{ParentStep}
use Rattle.nk_plan.specs.declared.step.ParentStep.TheVariants as parent
use Rattle.nk_plan.specs.declared.step.ChildStep.{ChildStep}
use Rattle.nk_plan.specs.declared.step.ChildStep.TheVariants as child
use Rattle.nk_plan.specs.Journal.{ups_taken, mains_sent, backs_sent, mains_taken, backs_taken}
use Rattle.nk_plan.specs.Parent.{ParentState, new_parent, parent_step, parent_after}
use Rattle.nk_plan.specs.Child.{ChildState, new_child, child_step, child_after}
use Rattle.nk_plan.specs.Channel.{Channel, main_lane, back_lane, up_lane, up_step, main_step, back_step, channel_step, new_channel, channel_after}
use Rattle.nk_plan.specs.Run.{parent_blocks, child_blocks, sends_of, Run}
use Rattle.nk_plan.specs.Walk.{ParentBlock, ChildBlock, Walk, Turn, Parent, Child, walk_start, counted, may, placed, Places}
use Rattle.nk_plan.specs.Walk.{Forward as Onward}
use Rattle.nk_plan.specs.Lanes.{IsPrefix}
use Rattle.nk_laws.proofs.Tools.{append_nil, by_bool, one, other}
use Rattle.nk_laws.proofs.ParentLaw.{ups-append, mains-append, backs-append}
use Rattle.nk_laws.proofs.Grows as child_side
use Rattle.nk_laws.proofs.Replay.{child_replayed}
use Rattle.nk_laws.proofs.Merge.{prefix_of_take}
use Rattle.nk_laws.specs.Moves.{mains_of, backs_of}
use Rattle.nk_laws.proofs.Blocks.{parent_enters, child_enters, parent_block_at, child_block_at, parent_counts, child_counts}
use Rattle.nk_laws.proofs.Ordered.{takes_up_is, takes_main_is, takes_back_is}
use Rattle.nk_laws.proofs.More.{standing}

-- The steps of a side in the order in which they came, and their blocks

reversed : {A : Type 0} → List A → List A
reversed [] = []
reversed (x ∷ xs) = reversed xs ++ x ∷ []

abbrev parent_run : ChannelPlan → ParentState → List ParentStep → ParentState
parent_run c s [] = s
parent_run c s (x ∷ xs) = parent_run c (parent_step c x s) xs

abbrev parent_line : ChannelPlan → ParentState → List ParentStep → List ParentBlock
parent_line c s [] = []
parent_line c s (x ∷ xs) = parent_block_at c x s ∷ parent_line c (parent_step c x s) xs

parent_run_then : (c : ChannelPlan) (s : ParentState) (xs : List ParentStep) (x : ParentStep) → parent_run c s (xs ++ x ∷ []) ≡ parent_step c x (parent_run c s xs)
parent_run_then c s [] x = refl
parent_run_then c s (y ∷ ys) x = parent_run_then c (parent_step c y s) ys x

parent_line_then : (c : ChannelPlan) (s : ParentState) (xs : List ParentStep) (x : ParentStep) → parent_line c s (xs ++ x ∷ []) ≡ parent_line c s xs ++ parent_block_at c x (parent_run c s xs) ∷ []
parent_line_then c s [] x = refl
parent_line_then c s (y ∷ ys) x = ap (λ t. parent_block_at c y s ∷ t) (parent_line_then c (parent_step c y s) ys x)

parent_run_is : (c : ChannelPlan) (xs : List ParentStep) → parent_run c (new_parent c) (reversed xs) ≡ parent_after c xs
unfolding reversed
parent_run_is c [] = refl
parent_run_is c (x ∷ xs) = parent_run_then c (new_parent c) (reversed xs) x ∙ ap (λ (y : ParentState). parent_step c x y) (parent_run_is c xs)

parent_line_is : (c : ChannelPlan) (xs : List ParentStep) → parent_line c (new_parent c) (reversed xs) ≡ parent_blocks c xs
unfolding reversed
parent_line_is c [] = refl
parent_line_is c (x ∷ xs) =
    parent_line_then c (new_parent c) (reversed xs) x
    ∙ (ap (λ (y : ParentState). parent_line c (new_parent c) (reversed xs) ++ parent_block_at c x y ∷ []) (parent_run_is c xs)
    ∙ ap (λ t. t ++ parent_block_at c x (parent_after c xs) ∷ []) (parent_line_is c xs))

abbrev child_run : ChannelPlan → ChildState → List ChildStep → ChildState
child_run c s [] = s
child_run c s (x ∷ xs) = child_run c (child_step c x s) xs

abbrev child_line : ChannelPlan → ChildState → List ChildStep → List ChildBlock
child_line c s [] = []
child_line c s (x ∷ xs) = child_block_at c x s ∷ child_line c (child_step c x s) xs

child_run_then : (c : ChannelPlan) (s : ChildState) (xs : List ChildStep) (x : ChildStep) → child_run c s (xs ++ x ∷ []) ≡ child_step c x (child_run c s xs)
child_run_then c s [] x = refl
child_run_then c s (y ∷ ys) x = child_run_then c (child_step c y s) ys x

child_line_then : (c : ChannelPlan) (s : ChildState) (xs : List ChildStep) (x : ChildStep) → child_line c s (xs ++ x ∷ []) ≡ child_line c s xs ++ child_block_at c x (child_run c s xs) ∷ []
child_line_then c s [] x = refl
child_line_then c s (y ∷ ys) x = ap (λ t. child_block_at c y s ∷ t) (child_line_then c (child_step c y s) ys x)

child_run_is : (c : ChannelPlan) (xs : List ChildStep) → child_run c (new_child c) (reversed xs) ≡ child_after c xs
unfolding reversed
child_run_is c [] = refl
child_run_is c (x ∷ xs) = child_run_then c (new_child c) (reversed xs) x ∙ ap (λ (y : ChildState). child_step c x y) (child_run_is c xs)

child_line_is : (c : ChannelPlan) (xs : List ChildStep) → child_line c (new_child c) (reversed xs) ≡ child_blocks c xs
unfolding reversed
child_line_is c [] = refl
child_line_is c (x ∷ xs) =
    child_line_then c (new_child c) (reversed xs) x
    ∙ (ap (λ (y : ChildState). child_line c (new_child c) (reversed xs) ++ child_block_at c x y ∷ []) (child_run_is c xs)
    ∙ ap (λ t. t ++ child_block_at c x (child_after c xs) ∷ []) (child_line_is c xs))

-- What a side enters from a state on

parent_adds : (c : ChannelPlan) (s : ParentState) (xs : List ParentStep) → (e : List ParentEntry) × ((parent_run c s xs).journal ≡ s.journal ++ e)
parent_adds c s [] = ([], sym (append_nil s.journal))
parent_adds c s (x ∷ xs) =
    let n = parent_enters c x s in
    let r : (e : List ParentEntry) × ((parent_run c (parent_step c x s) xs).journal ≡ (parent_step c x s).journal ++ e) = parent_adds c (parent_step c x s) xs in
    (n.entries ++ r.0, r.1 ∙ (ap (λ t. t ++ r.0) n.journal_is ∙ append_assoc s.journal n.entries r.0))

child_adds : (c : ChannelPlan) (s : ChildState) (xs : List ChildStep)
    → (e : List ChildEntry) × (u : List UpMsg) × ((child_run c s xs).journal ≡ s.journal ++ e) × ((child_run c s xs).sent ≡ s.sent ++ u)
child_adds c s [] = ([], [], sym (append_nil s.journal), sym (append_nil s.sent))
child_adds c s (x ∷ xs) =
    let n = child_enters c x s in
    let r : (e : List ChildEntry) × (u : List UpMsg) × ((child_run c (child_step c x s) xs).journal ≡ (child_step c x s).journal ++ e) × ((child_run c (child_step c x s) xs).sent ≡ (child_step c x s).sent ++ u) = child_adds c (child_step c x s) xs in (
      n.entries ++ r.0,
      n.messages ++ r.1,
      r.2 ∙ (ap (λ t. t ++ r.0) n.journal_is ∙ append_assoc s.journal n.entries r.0),
      r.3 ∙ (ap (λ t. t ++ r.1) n.sent_is ∙ append_assoc s.sent n.messages r.1),
    )

-- The steps of a channel in the order in which they came

abbrev channel_run : ChannelPlan → Channel → List Step → Channel
channel_run c w [] = w
channel_run c w (z ∷ zs) = channel_run c (channel_step c z w) zs

abbrev Moves : ChannelPlan → Channel → Channel → Type 0
Moves c w v = (steps : List Step) × (channel_run c w steps ≡ v)

channel_run-append : (c : ChannelPlan) (w : Channel) (xs ys : List Step) → channel_run c w (xs ++ ys) ≡ channel_run c (channel_run c w xs) ys
channel_run-append c w [] ys = refl
channel_run-append c w (x ∷ xs) ys = channel_run-append c (channel_step c x w) xs ys

moves_then : (c : ChannelPlan) (w v u : Channel) → Moves c w v → Moves c v u → Moves c w u
moves_then c w v u (xs, e) (ys, f) = (xs ++ ys, channel_run-append c w xs ys ∙ (ap (λ (y : Channel). channel_run c y ys) e ∙ f))

-- What is taken next on a lane stands first there

next_there : {A : Type 0} (xs ys zs more r : List A) (m : A) → (xs ++ m ∷ zs) ++ r ≡ ys ++ more → length xs < length ys → (rest : List A) × (drop (length xs) ys ≡ m ∷ rest)
next_there [] [] zs more r m e l = absurd (omega arith)
next_there [] (y ∷ ys) zs more r m e l = let f : y ≡ m = cc in (ys, ap (λ t. t ∷ ys) f)
next_there (x ∷ xs) [] zs more r m e l = absurd (omega arith)
next_there (x ∷ xs) (y ∷ ys) zs more r m e l = let f : (xs ++ m ∷ zs) ++ r ≡ ys ++ more = cc in next_there xs ys zs more r m f (omega arith)

-- a message that a block takes was sent
taken_sent : (t : Bool) (a b : ℕ) → t ≡ true → may t a b ≡ true → a < b
taken_sent t a b e h = let f : nat_lt a b ≡ true = rw e at h in ltb-true a b f

-- one step of the parent is one of the channel

parent_moves : (c : ChannelPlan) (x : ParentStep) (px : List ParentStep) (cx : List ChildStep) (w : Channel)
    → may (parent_block_at c x w.parent).takes_up (length (ups_taken w.parent.journal)) (length w.child.sent) ≡ true
    → IsPrefix (ups_taken (parent_run c w.parent (x ∷ px)).journal) (child_run c w.child cx).sent
    → Moves c w (record w { parent = parent_step c x w.parent })
parent_moves c parent.Fetch px cx w h p = (Fetch ∷ [], refl)
parent_moves c (parent.Up m) px cx w h (r, p) =
    let l : length (ups_taken w.parent.journal) < length w.child.sent = taken_sent _ (length (ups_taken w.parent.journal)) (length w.child.sent) (takes_up_is c (parent.Up m) w.parent) h in
    let s : ParentState = parent_step c (parent.Up m) w.parent in
    let n = parent_enters c (parent.Up m) w.parent in
    let a : (e : List ParentEntry) × ((parent_run c s px).journal ≡ s.journal ++ e) = parent_adds c s px in
    let k = child_adds c w.child cx in
    let ups : ups_taken (parent_run c s px).journal ≡ ups_taken w.parent.journal ++ m ∷ ups_taken a.0 =
    ap ups_taken a.1
    ∙ (ups-append s.journal a.0
    ∙ (ap (λ t. ups_taken t ++ ups_taken a.0) n.journal_is
    ∙ (ap (λ t. t ++ ups_taken a.0) (ups-append w.parent.journal n.entries ∙ ap (λ t. ups_taken w.parent.journal ++ t) n.ups) ∙ append_assoc (ups_taken w.parent.journal) (m ∷ []) (ups_taken a.0)))) in
    let both : (ups_taken w.parent.journal ++ m ∷ ups_taken a.0) ++ r ≡ w.child.sent ++ k.1 = ap (λ t. t ++ r) (sym ups) ∙ (p ∙ k.3) in
    let next : (rest : List UpMsg) × (up_lane w ≡ m ∷ rest) = next_there (ups_taken w.parent.journal) w.child.sent (ups_taken a.0) k.1 r m both l in
    (Up ∷ [], ap (λ t. up_step c t w) next.1)

-- one step of the child is one of the channel, or none where the child is broken

skips : (b : Bool) (s t : ChildState) → b ≡ true → s ≡ (if b then s else t)
skips true s t e = refl
skips false s t e = cc

take_length : {A : Type 0} (n : ℕ) (xs : List A) → n ≤ length xs → length (take n xs) ≡ n
take_length zero xs l = refl
take_length (suc n) [] l = absurd (omega arith)
take_length (suc n) (x ∷ xs) l = let e : length (take n xs) ≡ n = take_length n xs (omega arith) in omega arith

mains_are : (c : ChannelPlan) (m : MainMsg) (cx : List ChildStep) (s : ChildState) → s.broken ≡ false
    → (z : List MainMsg) × (mains_taken (child_run c s (child.Main m ∷ cx)).journal ≡ mains_taken s.journal ++ m ∷ z)
mains_are c m cx s nb =
    let t : ChildState = child_step c (child.Main m) s in
    let n = child_enters c (child.Main m) s in
    let k = child_adds c t cx in
    let em : mains_taken n.entries ≡ m ∷ [] = n.mains ∙ ap (λ b. mains_of (child.Main m) b) nb in (
      mains_taken k.0,
      ap mains_taken k.2
          ∙ (child_side.mains-append t.journal k.0
          ∙ (ap (λ y. mains_taken y ++ mains_taken k.0) n.journal_is
          ∙ (ap (λ y. y ++ mains_taken k.0) (child_side.mains-append s.journal n.entries ∙ ap (λ y. mains_taken s.journal ++ y) em) ∙ append_assoc (mains_taken s.journal) (m ∷ []) (mains_taken k.0)))),
    )

backs_are : (c : ChannelPlan) (m : BackMsg) (cx : List ChildStep) (s : ChildState) → s.broken ≡ false
    → (z : List BackMsg) × (backs_taken (child_run c s (child.Back m ∷ cx)).journal ≡ backs_taken s.journal ++ m ∷ z)
backs_are c m cx s nb =
    let t : ChildState = child_step c (child.Back m) s in
    let n = child_enters c (child.Back m) s in
    let k = child_adds c t cx in
    let em : backs_taken n.entries ≡ m ∷ [] = n.backs ∙ ap (λ b. backs_of (child.Back m) b) nb in (
      backs_taken k.0,
      ap backs_taken k.2
          ∙ (child_side.backs-append t.journal k.0
          ∙ (ap (λ y. backs_taken y ++ backs_taken k.0) n.journal_is
          ∙ (ap (λ y. y ++ backs_taken k.0) (child_side.backs-append s.journal n.entries ∙ ap (λ y. backs_taken s.journal ++ y) em) ∙ append_assoc (backs_taken s.journal) (m ∷ []) (backs_taken k.0)))),
    )

child_moves : (c : ChannelPlan) (x : ChildStep) (px : List ParentStep) (cx : List ChildStep) (w : Channel)
    → may (child_block_at c x w.child).takes_main (length (mains_taken w.child.journal)) (length (mains_sent w.parent.journal)) ≡ true
    → may (child_block_at c x w.child).takes_back (length (backs_taken w.child.journal)) w.forwarded ≡ true
    → w.forwarded ≤ length (backs_sent w.parent.journal)
    → IsPrefix (mains_taken (child_run c w.child (x ∷ cx)).journal) (mains_sent (parent_run c w.parent px).journal)
    → IsPrefix (backs_taken (child_run c w.child (x ∷ cx)).journal) (backs_sent (parent_run c w.parent px).journal)
    → Moves c w (record w { child = child_step c x w.child })
child_moves c child.Act px cx w h k f p q = (Act ∷ [], refl)
child_moves c child.Verdict px cx w h k f p q = (Verdict ∷ [], refl)
child_moves c child.Release px cx w h k f p q = (Release ∷ [], refl)
child_moves c (child.Begin t) px cx w h k f p q = (Begin t ∷ [], refl)
child_moves c (child.Finish t) px cx w h k f p q = (Finish t ∷ [], refl)
child_moves c (child.Main m) px cx w h k f (r, p) q =
    by_bool w.child.broken
    (λ b. ([], ap (λ (y : ChildState). record w { child = y }) (skips w.child.broken w.child _ b)))
    (λ b.
    let l : length (mains_taken w.child.journal) < length (mains_sent w.parent.journal) = taken_sent _ (length (mains_taken w.child.journal)) (length (mains_sent w.parent.journal)) (takes_main_is c (child.Main m) w.child ∙ ap (λ y. has_some (mains_of (child.Main m) y)) b) h in
    let a : (e : List ParentEntry) × ((parent_run c w.parent px).journal ≡ w.parent.journal ++ e) = parent_adds c w.parent px in
    let ms : (z : List MainMsg) × (mains_taken (child_run c w.child (child.Main m ∷ cx)).journal ≡ mains_taken w.child.journal ++ m ∷ z) = mains_are c m cx w.child b in
    let both : (mains_taken w.child.journal ++ m ∷ ms.0) ++ r ≡ mains_sent w.parent.journal ++ mains_sent a.0 = ap (λ t. t ++ r) (sym ms.1) ∙ (p ∙ (ap mains_sent a.1 ∙ mains-append w.parent.journal a.0)) in
    let next : (rest : List MainMsg) × (main_lane w ≡ m ∷ rest) = next_there (mains_taken w.child.journal) (mains_sent w.parent.journal) ms.0 (mains_sent a.0) r m both l in
    (Main ∷ [], ap (λ t. main_step c t w) next.1))
child_moves c (child.Back m) px cx w h k f p (r, q) =
    by_bool w.child.broken
    (λ b. ([], ap (λ (y : ChildState). record w { child = y }) (skips w.child.broken w.child _ b)))
    (λ b.
    let bs : List BackMsg = backs_sent w.parent.journal in
    let l0 : length (backs_taken w.child.journal) < w.forwarded = taken_sent _ (length (backs_taken w.child.journal)) w.forwarded (takes_back_is c (child.Back m) w.child ∙ ap (λ y. has_some (backs_of (child.Back m) y)) b) k in
    let tl : length (take w.forwarded bs) ≡ w.forwarded = take_length w.forwarded bs f in
    let l : length (backs_taken w.child.journal) < length (take w.forwarded bs) = omega arith in
    let a : (e : List ParentEntry) × ((parent_run c w.parent px).journal ≡ w.parent.journal ++ e) = parent_adds c w.parent px in
    let ms : (z : List BackMsg) × (backs_taken (child_run c w.child (child.Back m ∷ cx)).journal ≡ backs_taken w.child.journal ++ m ∷ z) = backs_are c m cx w.child b in
    let both : (backs_taken w.child.journal ++ m ∷ ms.0) ++ r ≡ take w.forwarded bs ++ (drop w.forwarded bs ++ backs_sent a.0) =
    ap (λ t. t ++ r) (sym ms.1)
    ∙ (q ∙ (ap backs_sent a.1 ∙ (backs-append w.parent.journal a.0
    ∙ (ap (λ t. t ++ backs_sent a.0) (sym (take-append-drop w.forwarded bs)) ∙ append_assoc (take w.forwarded bs) (drop w.forwarded bs) (backs_sent a.0))))) in
    let next : (rest : List BackMsg) × (back_lane w ≡ m ∷ rest) = next_there (backs_taken w.child.journal) (take w.forwarded bs) ms.0 (drop w.forwarded bs ++ backs_sent a.0) r m both l in
    (Back ∷ [], ap (λ t. back_step c t w) next.1))

forward_moves : (c : ChannelPlan) (w : Channel) → nat_lt w.forwarded (length (backs_sent w.parent.journal)) ≡ true → Moves c w (record w { forwarded = suc w.forwarded })
forward_moves c w h = (Forward ∷ [], rw h refl)

-- The walk, where the channel stands at w and these steps and forwards are still to come

abbrev stand : ChannelPlan → Channel → List ParentStep → ℕ → List ChildStep → Walk
stand c w px n cx =
    standing (parent_line c w.parent px) n (child_line c w.child cx)
    (length (ups_taken w.parent.journal)) (length w.child.sent) (length (mains_taken w.child.journal)) (length (mains_sent w.parent.journal))
    (length (backs_taken w.child.journal)) w.forwarded (length (backs_sent w.parent.journal))

parent_stands : (c : ChannelPlan) (x : ParentStep) (w : Channel) (px : List ParentStep) (n : ℕ) (cx : List ChildStep)
    → placed Parent (stand c w (x ∷ px) n cx) ≡ stand c (record w { parent = parent_step c x w.parent }) px n cx
parent_stands c x w px n cx =
    let k = parent_counts c x w.parent in
    let s : ParentState = parent_step c x w.parent in
    let F : ℕ → ℕ → ℕ → Walk = λ a b d.
    standing (parent_line c s px) n (child_line c w.child cx) a (length w.child.sent) (length (mains_taken w.child.journal)) b (length (backs_taken w.child.journal)) w.forwarded d in
    ap (λ a. F a (length (mains_sent w.parent.journal) + (parent_block_at c x w.parent).mains) (length (backs_sent w.parent.journal) + (parent_block_at c x w.parent).backs)) (sym k.ups)
    ∙ (ap (λ b. F (length (ups_taken s.journal)) b (length (backs_sent w.parent.journal) + (parent_block_at c x w.parent).backs)) (sym k.mains)
    ∙ ap (λ d. F (length (ups_taken s.journal)) (length (mains_sent s.journal)) d) (sym k.backs))

child_stands : (c : ChannelPlan) (x : ChildStep) (w : Channel) (px : List ParentStep) (n : ℕ) (cx : List ChildStep)
    → placed Child (stand c w px n (x ∷ cx)) ≡ stand c (record w { child = child_step c x w.child }) px n cx
child_stands c x w px n cx =
    let k = child_counts c x w.child in
    let s : ChildState = child_step c x w.child in
    let F : ℕ → ℕ → ℕ → Walk = λ a b d.
    standing (parent_line c w.parent px) n (child_line c s cx) (length (ups_taken w.parent.journal)) a b (length (mains_sent w.parent.journal)) d w.forwarded (length (backs_sent w.parent.journal)) in
    ap (λ a. F a (length (mains_taken w.child.journal) + counted (child_block_at c x w.child).takes_main) (length (backs_taken w.child.journal) + counted (child_block_at c x w.child).takes_back)) (sym k.ups)
    ∙ (ap (λ b. F (length s.sent) b (length (backs_taken w.child.journal) + counted (child_block_at c x w.child).takes_back)) (sym k.mains)
    ∙ ap (λ d. F (length s.sent) (length (mains_taken s.journal)) d) (sym k.backs))

forward_stands : (c : ChannelPlan) (w : Channel) (px : List ParentStep) (n : ℕ) (cx : List ChildStep)
    → placed Onward (stand c w px (suc n) cx) ≡ stand c (record w { forwarded = suc w.forwarded }) px n cx
forward_stands c w px n cx =
    let e : suc n - 1 ≡ n = omega arith in
    let f : w.forwarded + 1 ≡ suc w.forwarded = omega arith in
    let F : ℕ → ℕ → Walk = λ a b.
    standing (parent_line c w.parent px) a (child_line c w.child cx) (length (ups_taken w.parent.journal)) (length w.child.sent) (length (mains_taken w.child.journal)) (length (mains_sent w.parent.journal)) (length (backs_taken w.child.journal)) b (length (backs_sent w.parent.journal)) in
    ap (λ a. F a (w.forwarded + 1)) e ∙ ap (λ b. F n b) f

abbrev ends_at : ChannelPlan → Channel → List ParentStep → ℕ → List ChildStep → Channel
ends_at c w px n cx = record { parent = parent_run c w.parent px; forwarded = w.forwarded + n; child = child_run c w.child cx }

order_moves : (c : ChannelPlan) (order : List Turn) (px : List ParentStep) (n : ℕ) (cx : List ChildStep) (w : Channel)
    → Places (stand c w px n cx) order
    → w.forwarded ≤ length (backs_sent w.parent.journal)
    → IsPrefix (mains_taken (child_run c w.child cx).journal) (mains_sent (parent_run c w.parent px).journal)
    → IsPrefix (backs_taken (child_run c w.child cx).journal) (backs_sent (parent_run c w.parent px).journal)
    → IsPrefix (ups_taken (parent_run c w.parent px).journal) (child_run c w.child cx).sent
    → Moves c w (ends_at c w px n cx)
order_moves c [] [] zero [] w h f p q u = ([], let e : w.forwarded ≡ w.forwarded + 0 = omega arith in ap (λ k. record w { forwarded = k }) e)
order_moves c [] [] zero (y ∷ cx) w h f p q u = cc
order_moves c [] [] (suc n) cx w h f p q u = cc
order_moves c [] (x ∷ px) n cx w h f p q u = cc
order_moves c (Parent ∷ ts) [] n cx w h f p q u = let no = h.0 in cc
order_moves c (Parent ∷ ts) (x ∷ px) n cx w h f p q u =
    let v : Channel = record w { parent = parent_step c x w.parent } in
    let k = parent_counts c x w.parent in
    let k1 : length (backs_sent (parent_step c x w.parent).journal) ≡ length (backs_sent w.parent.journal) + (parent_block_at c x w.parent).backs = k.backs in
    let P : Walk → Type 0 = λ y. Places y ts in
    moves_then c w v (ends_at c w (x ∷ px) n cx) (parent_moves c x px cx w h.0 u)
    (order_moves c ts px n cx v (subst P (parent_stands c x w px n cx) h.1) (omega arith) p q u)
order_moves c (Onward ∷ ts) px zero cx w h f p q u = let no = h.0 in cc
order_moves c (Onward ∷ ts) px (suc n) cx w h f p q u =
    let v : Channel = record w { forwarded = suc w.forwarded } in
    let l : w.forwarded < length (backs_sent w.parent.journal) = ltb-true w.forwarded (length (backs_sent w.parent.journal)) h.0 in
    let P : Walk → Type 0 = λ y. Places y ts in
    let e : suc w.forwarded + n ≡ w.forwarded + suc n = omega arith in
    let Q : ℕ → Type 0 = λ y. Moves c v (record { parent = parent_run c w.parent px; forwarded = y; child = child_run c w.child cx }) in
    moves_then c w v (ends_at c w px (suc n) cx) (forward_moves c w h.0)
    (subst Q e (order_moves c ts px n cx v (subst P (forward_stands c w px n cx) h.1) (omega arith) p q u))
order_moves c (Child ∷ ts) px n [] w h f p q u = let no = h.0 in cc
order_moves c (Child ∷ ts) px n (x ∷ cx) w h f p q u =
    let v : Channel = record w { child = child_step c x w.child } in
    let P : Walk → Type 0 = λ y. Places y ts in
    moves_then c w v (ends_at c w px n (x ∷ cx))
    (child_moves c x px cx w (one _ _ h.0) (other (may (child_block_at c x w.child).takes_main (length (mains_taken w.child.journal)) (length (mains_sent w.parent.journal))) _ h.0) f p q)
    (order_moves c ts px n cx v (subst P (child_stands c x w px n cx) h.1) f p q u)

-- A run is where some steps of a whole channel lead

abbrev onto : List Step → List Step → List Step
onto [] ys = ys
onto (z ∷ zs) ys = onto zs (z ∷ ys)

run_after : (c : ChannelPlan) (zs ys : List Step) → channel_run c (channel_after c ys) zs ≡ channel_after c (onto zs ys)
run_after c [] ys = refl
run_after c (z ∷ zs) ys = run_after c zs (z ∷ ys)

pub run_is_order : (c : ChannelPlan) (p : List ParentEntry) (j : List ChildEntry) (n : ℕ) → Run c p j n
    → (steps : List Step) × ((channel_after c steps).parent.journal ≡ p) × ((channel_after c steps).child.journal ≡ j) × ((channel_after c steps).forwarded ≡ n)
run_is_order c p j n r =
    let px : List ParentStep = reversed r.down.parent_run.0 in
    let cx : List ChildStep = reversed r.down.child_run.0 in
    let w : Channel = new_channel c in
    let ep : (parent_run c w.parent px).journal ≡ p = ap (λ (y : ParentState). y.journal) (parent_run_is c r.down.parent_run.0) ∙ r.down.parent_run.1 in
    let ej : (child_run c w.child cx).journal ≡ j = ap (λ (y : ChildState). y.journal) (child_run_is c r.down.child_run.0) ∙ r.down.child_run.1 in
    let es : sends_of c j ≡ (child_run c w.child cx).sent = ap (λ (y : ChildState). y.sent) (child_replayed c r.down.child_run.0 j r.down.child_run.1 ∙ sym (child_run_is c r.down.child_run.0)) in
    let B : List ParentBlock → List ChildBlock → Type 0 = λ a b. Places (walk_start a n b) r.placed.0 in
    let placing : Places (stand c w px n cx) r.placed.0 =
    subst (λ b. B (parent_line c w.parent px) b) (sym (child_line_is c r.down.child_run.0)) (subst (λ a. B a (child_blocks c r.down.child_run.0)) (sym (parent_line_is c r.down.parent_run.0)) r.placed.1) in
    let ms : IsPrefix (mains_taken (child_run c w.child cx).journal) (mains_sent (parent_run c w.parent px).journal) =
    subst (λ t. IsPrefix (mains_taken t) (mains_sent (parent_run c w.parent px).journal)) (sym ej) (subst (λ t. IsPrefix (mains_taken j) (mains_sent t)) (sym ep) r.down.mains) in
    let bs : IsPrefix (backs_taken (child_run c w.child cx).journal) (backs_sent (parent_run c w.parent px).journal) =
    subst (λ t. IsPrefix (backs_taken t) (backs_sent (parent_run c w.parent px).journal)) (sym ej) (subst (λ t. IsPrefix (backs_taken j) (backs_sent t)) (sym ep) (prefix_of_take n (backs_taken j) (backs_sent p) r.down.backs)) in
    let us : IsPrefix (ups_taken (parent_run c w.parent px).journal) (child_run c w.child cx).sent =
    subst (λ t. IsPrefix (ups_taken (parent_run c w.parent px).journal) t) es (subst (λ t. IsPrefix (ups_taken t) (sends_of c j)) (sym ep) r.ups) in
    let m : Moves c w (ends_at c w px n cx) = order_moves c r.placed.0 px n cx w placing (omega arith) ms bs us in
    let e : channel_after c (onto m.0 []) ≡ ends_at c w px n cx = sym (run_after c m.0 []) ∙ m.1 in (
      onto m.0 [],
      ap (λ (y : Channel). y.parent.journal) e ∙ ep,
      ap (λ (y : Channel). y.child.journal) e ∙ ej,
      ap (λ (y : Channel). y.forwarded) e ∙ (let z : 0 + n ≡ n = omega arith in z),
    )
