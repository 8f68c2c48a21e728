-- What each step leaves of the lanes of a channel that some steps led to.
use Rattle.std.proofs.Common.{ℕ, zero, suc, ◌≡◌, ◌+◌, ◌≤◌, refl, sym, ◌∙◌, ap, List, [], ◌∷◌, ◌++◌, length, take, drop, arith, length-append}
use Rattle.std.proofs.lemmas.List.{drop-append-le, drop-drop, take-append-le}
use Rattle.nk_base.specs.declared.message.BackMsg.{BackMsg}
use Rattle.nk_plan.specs.declared.plan.ChannelPlan.{ChannelPlan}
use Rattle.nk_plan.specs.declared.journal.ParentEntry.{ParentEntry}
use Rattle.nk_plan.specs.declared.step.ParentStep.{ParentStep}
use Rattle.nk_plan.specs.declared.step.ChildStep.{ChildStep}
use Rattle.nk_plan.specs.declared.step.Step.{Step}
use Rattle.nk_plan.specs.Journal.{mains_taken, backs_taken, ups_taken, mains_sent, backs_sent}
use Rattle.nk_plan.specs.Parent.{ParentState, parent_step}
use Rattle.nk_plan.specs.Child.{ChildState, child_step}
use Rattle.nk_plan.specs.Channel.{Channel, main_lane, up_lane, channel_after, half_lane}
use Rattle.nk_laws.specs.Moves.{Joined, ups_of, mains_of, backs_of, ParentMoves, ChildMoves, HalfMoves, Moves}
use Rattle.nk_laws.proofs.ParentLaw.{ups-append, mains-append, backs-append}
use Rattle.nk_laws.proofs.Grows as child_side
use Rattle.nk_laws.proofs.Blocks.{ParentEnters, parent_enters, ChildEnters, child_enters, added}
use Rattle.nk_laws.proofs.Joined.{joined}

-- one more is taken
drop_next : {A : Type 0} (n : ℕ) (xs : List A) → drop (suc n) xs ≡ drop 1 (drop n xs)
drop_next zero xs = refl
drop_next (suc n) [] = refl
drop_next (suc n) (x ∷ xs) = drop_next n xs

-- one more is moved on: the first of what was left
one_further : {A : Type 0} (n : ℕ) (xs : List A) → take (suc n) xs ≡ take n xs ++ take 1 (drop n xs)
one_further zero [] = refl
one_further zero (x ∷ xs) = refl
one_further (suc n) [] = refl
one_further (suc n) (x ∷ xs) = ap (λ t. x ∷ t) (one_further n xs)

-- a list that begins another is no longer
prefix_length : {A : Type 0} (xs ys zs : List A) → xs ++ ys ≡ zs → length xs ≤ length zs
prefix_length xs ys zs e = let h : length (xs ++ ys) ≡ length zs = ap length e in let k : length (xs ++ ys) ≡ length xs + length ys = length-append xs ys in omega arith

dropped : {A : Type 0} (n : ℕ) (m xs : List A) → drop (length m) (drop n xs) ≡ drop (n + length m) xs
dropped n m xs = drop-drop (length m) n xs

parent_moves : (c : ChannelPlan) (w : Channel) (x : ParentStep) → Joined c w → ParentMoves w x (parent_step c x w.parent)
parent_moves c w x j =
    let p : List ParentEntry = w.parent.journal in
    let s : ParentState = parent_step c x w.parent in
    let n : ParentEnters x w.parent s = parent_enters c x w.parent in
    let a : drop (length p) s.journal ≡ n.entries = added p n.entries s.journal n.journal_is in
    let ms : mains_sent s.journal ≡ mains_sent p ++ mains_sent n.entries = ap mains_sent n.journal_is ∙ mains-append p n.entries in
    let bs : backs_sent s.journal ≡ backs_sent p ++ backs_sent n.entries = ap backs_sent n.journal_is ∙ backs-append p n.entries in
    let us : ups_taken s.journal ≡ ups_taken p ++ ups_of x = ap ups_taken n.journal_is ∙ (ups-append p n.entries ∙ ap (λ t. ups_taken p ++ t) n.ups) in
    let l : length (mains_taken w.child.journal) ≤ length (mains_sent p) = prefix_length (mains_taken w.child.journal) j.mains.0 (mains_sent p) j.mains.1 in
    record {
      main =
          ap (λ t. main_lane w ++ mains_sent t) a
          ∙ (sym (drop-append-le (length (mains_taken w.child.journal)) (mains_sent p) (mains_sent n.entries) l) ∙ ap (λ t. drop (length (mains_taken w.child.journal)) t) (sym ms));
      inner =
          ap (λ t. half_lane w ++ backs_sent t) a
          ∙ (sym (drop-append-le w.forwarded (backs_sent p) (backs_sent n.entries) j.within) ∙ ap (λ t. drop w.forwarded t) (sym bs));
      back =
          ap (λ t. drop (length (backs_taken w.child.journal)) t)
          (sym (take-append-le w.forwarded (backs_sent p) (backs_sent n.entries) j.within) ∙ ap (λ t. take w.forwarded t) (sym bs));
      up =
          dropped (length (ups_taken p)) (ups_of x) w.child.sent
          ∙ ap (λ k. drop k w.child.sent) (sym (length-append (ups_taken p) (ups_of x)) ∙ ap length (sym us));
    }

child_moves : (c : ChannelPlan) (w : Channel) (x : ChildStep) → Joined c w → ChildMoves w x (child_step c x w.child)
child_moves c w x j =
    let s : ChildState = child_step c x w.child in
    let n : ChildEnters x w.child.broken w.child s = child_enters c x w.child in
    let mt : mains_taken s.journal ≡ mains_taken w.child.journal ++ mains_of x w.child.broken =
    ap mains_taken n.journal_is ∙ (child_side.mains-append w.child.journal n.entries ∙ ap (λ t. mains_taken w.child.journal ++ t) n.mains) in
    let bt : backs_taken s.journal ≡ backs_taken w.child.journal ++ backs_of x w.child.broken =
    ap backs_taken n.journal_is ∙ (child_side.backs-append w.child.journal n.entries ∙ ap (λ t. backs_taken w.child.journal ++ t) n.backs) in
    let l : length (ups_taken w.parent.journal) ≤ length w.child.sent = prefix_length (ups_taken w.parent.journal) j.ups.0 w.child.sent j.ups.1 in
    record {
      main =
          dropped (length (mains_taken w.child.journal)) (mains_of x w.child.broken) (mains_sent w.parent.journal)
          ∙ ap (λ k. drop k (mains_sent w.parent.journal)) (sym (length-append (mains_taken w.child.journal) (mains_of x w.child.broken)) ∙ ap length (sym mt));
      back =
          dropped (length (backs_taken w.child.journal)) (backs_of x w.child.broken) (take w.forwarded (backs_sent w.parent.journal))
          ∙ ap (λ k. drop k (take w.forwarded (backs_sent w.parent.journal))) (sym (length-append (backs_taken w.child.journal) (backs_of x w.child.broken)) ∙ ap length (sym bt));
      up =
          ap (λ t. up_lane w ++ t) (added w.child.sent n.messages s.sent n.sent_is)
          ∙ (sym (drop-append-le (length (ups_taken w.parent.journal)) w.child.sent n.messages l) ∙ ap (λ t. drop (length (ups_taken w.parent.journal)) t) (sym n.sent_is));
    }

half_moves : (c : ChannelPlan) (w : Channel) → Joined c w → HalfMoves w (record w { forwarded = suc w.forwarded })
half_moves c w j =
    let bs : List BackMsg = backs_sent w.parent.journal in
    let l : length (backs_taken w.child.journal) ≤ length (take w.forwarded bs) = prefix_length (backs_taken w.child.journal) j.backs.0 (take w.forwarded bs) j.backs.1 in
    record {
      inner = sym (drop_next w.forwarded bs);
      back =
          sym (drop-append-le (length (backs_taken w.child.journal)) (take w.forwarded bs) (take 1 (drop w.forwarded bs)) l)
          ∙ ap (λ t. drop (length (backs_taken w.child.journal)) t) (sym (one_further w.forwarded bs));
    }

pub moved : (c : ChannelPlan) (steps : List Step) → Moves c (channel_after c steps)
moved c steps =
    let w : Channel = channel_after c steps in
    let j = joined c steps in
    record { parent = λ x. parent_moves c w x j; child = λ x. child_moves c w x j; half = half_moves c w j }
