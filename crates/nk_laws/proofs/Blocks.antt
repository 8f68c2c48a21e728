-- What the block of one step takes and sends, and what all blocks of a run take and send together.
use Rattle.std.proofs.Common.{◌≡◌, ◌+◌, refl, sym, ◌∙◌, ap, subst, Bool, true, false, if◌then◌else◌, List, [], ◌∷◌, ◌++◌, length, drop, arith, append_assoc, length-append}
use Rattle.nk_base.specs.declared.message.MainMsg.{MainMsg}
use Rattle.nk_base.specs.declared.message.BackMsg.{BackMsg}
use Rattle.nk_base.specs.declared.message.UpMsg.{UpMsg}
use Rattle.nk_base.specs.Queue.{has_some}
use Rattle.nk_plan.specs.declared.plan.ChannelPlan.{ChannelPlan}
use Rattle.nk_plan.specs.declared.journal.ParentEntry.{ParentEntry}
use Rattle.nk_plan.specs.declared.journal.ParentEntry.TheVariants as parent_entry
use Rattle.nk_plan.specs.declared.journal.ChildEntry.{ChildEntry}
use Rattle.nk_plan.specs.declared.journal.ChildEntry.TheVariants as child_entry
use Rattle.nk_plan.specs.declared.step.ParentStep.{ParentStep}
use Rattle.nk_plan.specs.declared.step.ParentStep.TheVariants as parent
use Rattle.nk_plan.specs.declared.step.ChildStep.{ChildStep}
use Rattle.nk_plan.specs.declared.step.ChildStep.TheVariants as child
use Rattle.nk_plan.specs.Journal.{ups_taken, mains_sent, backs_sent, main_in, back_in, mains_taken, backs_taken}
use Rattle.nk_plan.specs.Parent.{ParentState, parent_step, parent_after}
use Rattle.nk_plan.specs.Child.{ChildState, with_entry, step_main, step_back, child_step, child_after}
use Rattle.nk_plan.specs.Run.{parent_block, child_block, parent_blocks, child_blocks}
use Rattle.nk_plan.specs.Walk.{ParentBlock, ChildBlock, counted}
use Rattle.nk_laws.specs.Moves.{ups_of, mains_of, backs_of}
use Rattle.nk_laws.proofs.Tools.{append_nil, last_empty}
use Rattle.nk_laws.proofs.ParentLaw.{ups-append, mains-append, backs-append}
use Rattle.nk_laws.proofs.Grows as child_side
use Rattle.nk_laws.proofs.Grows.{Grown, Grows, plain_grows, main_grows, back_grows, noted_grows}
use Rattle.nk_laws.proofs.Joined.{fetch_step_adds, up_journal, rest_after}
use Rattle.nk_laws.proofs.More.{all_up, all_mains, all_backs, all_main, all_back, all_ups}

-- The parent

-- the entries behind the first take nothing
abbrev pub ParentTakesFirst : List ParentEntry → Type 0
ParentTakesFirst [] = Unit {0}
ParentTakesFirst (e ∷ p) = ups_taken p ≡ []

takes_none : (p : List ParentEntry) → ups_taken p ≡ [] → ParentTakesFirst p
takes_none [] h = tt
takes_none (parent_entry.Took m ∷ p) h = cc
takes_none (parent_entry.SentMain m ∷ p) h = h
takes_none (parent_entry.SentBack m ∷ p) h = h

pub record ParentEnters (x : ParentStep) (s s' : ParentState) : Type 0 where
  pub entries : List ParentEntry
  pub journal_is : s'.journal ≡ s.journal ++ entries
  pub ups : ups_taken entries ≡ ups_of x
  pub takes_first : ParentTakesFirst entries

pub parent_enters : (c : ChannelPlan) (x : ParentStep) (s : ParentState) → ParentEnters x s (parent_step c x s)
parent_enters c (parent.Up m) s = record {
  entries = parent_entry.Took m ∷ [];
  journal_is = ap (λ (t : List ParentEntry). t ++ parent_entry.Took m ∷ []) (up_journal c m s);
  ups = refl;
  takes_first = refl;
}
parent_enters c parent.Fetch s =
    let a = fetch_step_adds c s in
    record { entries = a.entries; journal_is = a.journal_is; ups = a.no_up; takes_first = takes_none a.entries a.no_up }

-- The child

-- the entries behind the first take nothing
abbrev pub ChildTakesFirst : List ChildEntry → Type 0
ChildTakesFirst [] = Unit {0}
ChildTakesFirst (e ∷ j) = (mains_taken j ≡ []) × (backs_taken j ≡ [])

child_takes_none : (j : List ChildEntry) → mains_taken j ≡ [] → backs_taken j ≡ [] → ChildTakesFirst j
child_takes_none [] m b = tt
child_takes_none (e ∷ j) m b = (last_empty (main_in e) (mains_taken j) m, last_empty (back_in e) (backs_taken j) b)

pub record ChildEnters (x : ChildStep) (broken : Bool) (s s' : ChildState) : Type 0 where
  pub entries : List ChildEntry
  pub messages : List UpMsg
  pub journal_is : s'.journal ≡ s.journal ++ entries
  pub sent_is : s'.sent ≡ s.sent ++ messages
  pub mains : mains_taken entries ≡ mains_of x broken
  pub backs : backs_taken entries ≡ backs_of x broken
  pub takes_first : ChildTakesFirst entries

enters_none : (x : ChildStep) (broken : Bool) (s : ChildState) → mains_of x broken ≡ [] → backs_of x broken ≡ [] → ChildEnters x broken s s
enters_none x broken s m b = record {
  entries = [];
  messages = [];
  journal_is = sym (append_nil s.journal);
  sent_is = sym (append_nil s.sent);
  mains = sym m;
  backs = sym b;
  takes_first = tt;
}

enters_plain : (x : ChildStep) (broken : Bool) (s s' : ChildState) → mains_of x broken ≡ [] → backs_of x broken ≡ [] → Grows s.journal s.sent s' → ChildEnters x broken s s'
enters_plain x broken s s' m b g = record {
  entries = g.entries;
  messages = g.messages;
  journal_is = g.journal_is;
  sent_is = g.sent_is;
  mains = g.no_main ∙ sym m;
  backs = g.no_back ∙ sym b;
  takes_first = child_takes_none g.entries g.no_main g.no_back;
}

main_enters : (c : ChannelPlan) (m : MainMsg) (broken : Bool) (s : ChildState)
    → ChildEnters (child.Main m) broken s (if broken then s else step_main c m (with_entry (child_entry.TookMain m) s))
main_enters c m true s = enters_none (child.Main m) true s refl refl
main_enters c m false s =
    let g = main_grows c (s.journal ++ child_entry.TookMain m ∷ []) s.sent m (with_entry (child_entry.TookMain m) s) (noted_grows (child_entry.TookMain m) s) in
    record {
      entries = child_entry.TookMain m ∷ g.entries;
      messages = g.messages;
      journal_is = g.journal_is ∙ append_assoc s.journal (child_entry.TookMain m ∷ []) g.entries;
      sent_is = g.sent_is;
      mains = ap (λ t. m ∷ t) g.no_main;
      backs = g.no_back;
      takes_first = (g.no_main, g.no_back);
    }

back_enters : (c : ChannelPlan) (m : BackMsg) (broken : Bool) (s : ChildState)
    → ChildEnters (child.Back m) broken s (if broken then s else step_back c m (with_entry (child_entry.TookBack m) s))
back_enters c m true s = enters_none (child.Back m) true s refl refl
back_enters c m false s =
    let g = back_grows c (s.journal ++ child_entry.TookBack m ∷ []) s.sent m (with_entry (child_entry.TookBack m) s) (noted_grows (child_entry.TookBack m) s) in
    record {
      entries = child_entry.TookBack m ∷ g.entries;
      messages = g.messages;
      journal_is = g.journal_is ∙ append_assoc s.journal (child_entry.TookBack m ∷ []) g.entries;
      sent_is = g.sent_is;
      mains = g.no_main;
      backs = ap (λ t. m ∷ t) g.no_back;
      takes_first = (g.no_main, g.no_back);
    }

pub child_enters : (c : ChannelPlan) (x : ChildStep) (s : ChildState) → ChildEnters x s.broken s (child_step c x s)
child_enters c child.Act s = enters_plain child.Act s.broken s (child_step c child.Act s) refl refl (plain_grows c child.Act s tt)
child_enters c child.Verdict s = enters_plain child.Verdict s.broken s (child_step c child.Verdict s) refl refl (plain_grows c child.Verdict s tt)
child_enters c (child.Main m) s = main_enters c m s.broken s
child_enters c (child.Back m) s = back_enters c m s.broken s
child_enters c child.Release s = enters_plain child.Release s.broken s (child_step c child.Release s) refl refl (plain_grows c child.Release s tt)
child_enters c (child.Begin t) s = enters_plain (child.Begin t) s.broken s (child_step c (child.Begin t) s) refl refl (plain_grows c (child.Begin t) s tt)
child_enters c (child.Finish t) s = enters_plain (child.Finish t) s.broken s (child_step c (child.Finish t) s) refl refl (plain_grows c (child.Finish t) s tt)

-- The block of a step

abbrev pub parent_block_at : ChannelPlan → ParentStep → ParentState → ParentBlock
parent_block_at c x s = parent_block (drop (length s.journal) (parent_step c x s).journal)

abbrev pub child_block_at : ChannelPlan → ChildStep → ChildState → ChildBlock
child_block_at c x s =
    child_block (drop (length s.journal) (child_step c x s).journal) (drop (length s.sent) (child_step c x s).sent)

pub added : {A : Type 0} (xs ys zs : List A) → zs ≡ xs ++ ys → drop (length xs) zs ≡ ys
added xs ys zs e = rest_after xs ys zs (sym e)

pub parent_block_is : (c : ChannelPlan) (x : ParentStep) (s : ParentState) (e : ParentEnters x s (parent_step c x s)) → parent_block_at c x s ≡ parent_block e.entries
parent_block_is c x s e = ap parent_block (added s.journal e.entries (parent_step c x s).journal e.journal_is)

pub child_block_is : (c : ChannelPlan) (x : ChildStep) (s : ChildState) (e : ChildEnters x s.broken s (child_step c x s)) → child_block_at c x s ≡ child_block e.entries e.messages
child_block_is c x s e =
    ap (λ t. child_block t (drop (length s.sent) (child_step c x s).sent)) (added s.journal e.entries (child_step c x s).journal e.journal_is)
    ∙ ap (λ t. child_block e.entries t) (added s.sent e.messages (child_step c x s).sent e.sent_is)

-- a block takes at most one message of a lane

pub ups_counted : (x : ParentStep) → counted (has_some (ups_of x)) ≡ length (ups_of x)
ups_counted (parent.Up m) = refl
ups_counted parent.Fetch = refl

pub mains_counted : (x : ChildStep) (broken : Bool) → counted (has_some (mains_of x broken)) ≡ length (mains_of x broken)
mains_counted child.Act broken = refl
mains_counted child.Verdict broken = refl
mains_counted (child.Main m) true = refl
mains_counted (child.Main m) false = refl
mains_counted (child.Back m) broken = refl
mains_counted child.Release broken = refl
mains_counted (child.Begin t) broken = refl
mains_counted (child.Finish t) broken = refl

pub backs_counted : (x : ChildStep) (broken : Bool) → counted (has_some (backs_of x broken)) ≡ length (backs_of x broken)
backs_counted child.Act broken = refl
backs_counted child.Verdict broken = refl
backs_counted (child.Main m) broken = refl
backs_counted (child.Back m) true = refl
backs_counted (child.Back m) false = refl
backs_counted child.Release broken = refl
backs_counted (child.Begin t) broken = refl
backs_counted (child.Finish t) broken = refl

-- What a step adds to the counts of its side

pub record ParentCounts (b : ParentBlock) (s s' : ParentState) : Type 0 where
  pub ups : length (ups_taken s'.journal) ≡ length (ups_taken s.journal) + counted b.takes_up
  pub mains : length (mains_sent s'.journal) ≡ length (mains_sent s.journal) + b.mains
  pub backs : length (backs_sent s'.journal) ≡ length (backs_sent s.journal) + b.backs

pub parent_counts : (c : ChannelPlan) (x : ParentStep) (s : ParentState) → ParentCounts (parent_block_at c x s) s (parent_step c x s)
parent_counts c x s =
    let e = parent_enters c x s in
    let u : counted (has_some (ups_taken e.entries)) ≡ length (ups_taken e.entries) = rw e.ups (ups_counted x) in
    subst (λ b. ParentCounts b s (parent_step c x s)) (sym (parent_block_is c x s e)) (record {
      ups = rw (e.journal_is, ups-append s.journal e.entries, u) (length-append (ups_taken s.journal) (ups_taken e.entries));
      mains = rw (e.journal_is, mains-append s.journal e.entries) (length-append (mains_sent s.journal) (mains_sent e.entries));
      backs = rw (e.journal_is, backs-append s.journal e.entries) (length-append (backs_sent s.journal) (backs_sent e.entries));
    })

pub record ChildCounts (b : ChildBlock) (s s' : ChildState) : Type 0 where
  pub mains : length (mains_taken s'.journal) ≡ length (mains_taken s.journal) + counted b.takes_main
  pub backs : length (backs_taken s'.journal) ≡ length (backs_taken s.journal) + counted b.takes_back
  pub ups : length s'.sent ≡ length s.sent + b.ups

pub child_counts : (c : ChannelPlan) (x : ChildStep) (s : ChildState) → ChildCounts (child_block_at c x s) s (child_step c x s)
child_counts c x s =
    let e = child_enters c x s in
    let m : counted (has_some (mains_taken e.entries)) ≡ length (mains_taken e.entries) = rw e.mains (mains_counted x s.broken) in
    let b : counted (has_some (backs_taken e.entries)) ≡ length (backs_taken e.entries) = rw e.backs (backs_counted x s.broken) in
    subst (λ y. ChildCounts y s (child_step c x s)) (sym (child_block_is c x s e)) (record {
      mains = rw (e.journal_is, child_side.mains-append s.journal e.entries, m) (length-append (mains_taken s.journal) (mains_taken e.entries));
      backs = rw (e.journal_is, child_side.backs-append s.journal e.entries, b) (length-append (backs_taken s.journal) (backs_taken e.entries));
      ups = rw e.sent_is (length-append s.sent e.messages);
    })

-- What all blocks of a run take and send

pub up-append : (xs ys : List ParentBlock) → all_up (xs ++ ys) ≡ all_up xs + all_up ys
up-append [] ys = omega arith
up-append (x ∷ xs) ys = omega (arith, up-append xs ys)

pub mains-sum : (xs ys : List ParentBlock) → all_mains (xs ++ ys) ≡ all_mains xs + all_mains ys
mains-sum [] ys = omega arith
mains-sum (x ∷ xs) ys = omega (arith, mains-sum xs ys)

pub backs-sum : (xs ys : List ParentBlock) → all_backs (xs ++ ys) ≡ all_backs xs + all_backs ys
backs-sum [] ys = omega arith
backs-sum (x ∷ xs) ys = omega (arith, backs-sum xs ys)

pub main-sum : (xs ys : List ChildBlock) → all_main (xs ++ ys) ≡ all_main xs + all_main ys
main-sum [] ys = omega arith
main-sum (x ∷ xs) ys = omega (arith, main-sum xs ys)

pub back-sum : (xs ys : List ChildBlock) → all_back (xs ++ ys) ≡ all_back xs + all_back ys
back-sum [] ys = omega arith
back-sum (x ∷ xs) ys = omega (arith, back-sum xs ys)

pub ups-sum : (xs ys : List ChildBlock) → all_ups (xs ++ ys) ≡ all_ups xs + all_ups ys
ups-sum [] ys = omega arith
ups-sum (x ∷ xs) ys = omega (arith, ups-sum xs ys)

pub record ParentSums (bs : List ParentBlock) (s : ParentState) : Type 0 where
  pub ups : all_up bs ≡ length (ups_taken s.journal)
  pub mains : all_mains bs ≡ length (mains_sent s.journal)
  pub backs : all_backs bs ≡ length (backs_sent s.journal)

pub parent_sums : (c : ChannelPlan) (steps : List ParentStep) → ParentSums (parent_blocks c steps) (parent_after c steps)
parent_sums c [] = record { ups = refl; mains = refl; backs = refl }
parent_sums c (x ∷ xs) =
    let i = parent_sums c xs in
    let n = parent_counts c x (parent_after c xs) in
    let b : ParentBlock = parent_block_at c x (parent_after c xs) in
    record {
      ups = (let e = up-append (parent_blocks c xs) (b ∷ []) in omega (arith, i.ups, n.ups));
      mains = (let e = mains-sum (parent_blocks c xs) (b ∷ []) in omega (arith, i.mains, n.mains));
      backs = (let e = backs-sum (parent_blocks c xs) (b ∷ []) in omega (arith, i.backs, n.backs));
    }

pub record ChildSums (bs : List ChildBlock) (s : ChildState) : Type 0 where
  pub mains : all_main bs ≡ length (mains_taken s.journal)
  pub backs : all_back bs ≡ length (backs_taken s.journal)
  pub ups : all_ups bs ≡ length s.sent

pub child_sums : (c : ChannelPlan) (steps : List ChildStep) → ChildSums (child_blocks c steps) (child_after c steps)
child_sums c [] = record { mains = refl; backs = refl; ups = refl }
child_sums c (x ∷ xs) =
    let i = child_sums c xs in
    let n = child_counts c x (child_after c xs) in
    let b : ChildBlock = child_block_at c x (child_after c xs) in
    record {
      mains = (let e = main-sum (child_blocks c xs) (b ∷ []) in omega (arith, i.mains, n.mains));
      backs = (let e = back-sum (child_blocks c xs) (b ∷ []) in omega (arith, i.backs, n.backs));
      ups = (let e = ups-sum (child_blocks c xs) (b ∷ []) in omega (arith, i.ups, n.ups));
    }
