-- What a child has sent and shown, with what it may still send and show, stays within what it took and its plan.
use Rattle.std.proofs.Common.{ℕ, ◌≡◌, ◌+◌, ◌*◌, ◌≤◌, refl, subst, sym, List, [], ◌∷◌, ◌++◌, length, true, arith}
use Rattle.nk_base.specs.Status.{is_failure}
use Rattle.nk_plan.specs.declared.plan.ChannelPlan.{ChannelPlan}
use Rattle.nk_plan.specs.declared.event.ChildEvent.{ChildEvent}
use Rattle.nk_plan.specs.declared.event.ChildEvent.TheVariants.{Start, Bytes, Stop, Redirect1, Redirect3, Cancel}
use Rattle.nk_plan.specs.declared.journal.ChildEntry.{ChildEntry}
use Rattle.nk_plan.specs.Journal.{mains_taken, backs_taken}
use Rattle.nk_plan.specs.Child.{ChildState, with_entry}
use Rattle.nk_half_laws.specs.Capacity.{ups_left, shown_left}
use Rattle.nk_half_laws.proofs.Journals.{length-mains_taken, length-backs_taken}

-- a cancel that waits is a failure, so that it stays the one cancel
abbrev pub GoodEvent : ChildEvent → Type 0
GoodEvent (Start code s) = Unit {0}
GoodEvent (Bytes o p s) = Unit {0}
GoodEvent (Stop s) = Unit {0}
GoodEvent (Redirect1 h) = Unit {0}
GoodEvent (Redirect3 h) = Unit {0}
GoodEvent (Cancel s) = is_failure s ≡ true

abbrev pub GoodEvents : List ChildEvent → Type 0
GoodEvents [] = Unit {0}
GoodEvents (e ∷ es) = GoodEvent e × GoodEvents es

pub good_more : (w : List ChildEvent) (e : ChildEvent) → GoodEvents w → GoodEvent e → GoodEvents (w ++ e ∷ [])
good_more [] e g h = (h, tt)
good_more (x ∷ w) e g h = (g.0, good_more w e g.1 h)

-- x and y are what was sent and shown, with what is left; u of the one and v of the other are spare, where m messages at
-- least of the main lane and n of the background lane were taken
pub record Within (c : ChannelPlan) (u v m n x y : ℕ) (j : List ChildEntry) (w : List ChildEvent) : Type 0 where
  pub ups : u + x ≤ m + n + 2 * length c.controls + 4
  pub shown : v + y ≤ 2 * m + n + 2
  pub mains : m ≤ length (mains_taken j)
  pub backs : n ≤ length (backs_taken j)
  pub good : GoodEvents w

abbrev pub all_ups : ChannelPlan → ChildState → ℕ
all_ups c s = ups_left c s + length s.sent

abbrev pub all_shown : ChildState → ℕ
all_shown s = shown_left s + length s.trace

abbrev pub Holds : ChannelPlan → ℕ → ℕ → ℕ → ℕ → ChildState → Type 0
Holds c u v m n s = Within c u v m n (all_ups c s) (all_shown s) s.journal s.queue.waiting

over : (u u' x x' k : ℕ) → u + x ≤ k → u' + x' ≤ u + x → u' + x' ≤ k
over u u' x x' k a b = omega arith

-- spare is given up
pub less : (c : ChannelPlan) (u v u' v' m n : ℕ) (s : ChildState) → u' ≤ u → v' ≤ v → Holds c u v m n s → Holds c u' v' m n s
less c u v u' v' m n s p q h = record {
  ups = over u u' (all_ups c s) (all_ups c s) (m + n + 2 * length c.controls + 4) h.ups (omega arith);
  shown = over v v' (all_shown s) (all_shown s) (2 * m + n + 2) h.shown (omega arith);
  mains = h.mains;
  backs = h.backs;
  good = h.good;
}

-- the journal stays
pub still : (c : ChannelPlan) (u v u' v' m n : ℕ) (s s' : ChildState) → s'.journal ≡ s.journal → u' + all_ups c s' ≤ u + all_ups c s
    → v' + all_shown s' ≤ v + all_shown s
    → GoodEvents s'.queue.waiting → Holds c u v m n s → Holds c u' v' m n s'
still c u v u' v' m n s s' j p q g h = record {
  ups = over u u' (all_ups c s) (all_ups c s') (m + n + 2 * length c.controls + 4) h.ups p;
  shown = over v v' (all_shown s) (all_shown s') (2 * m + n + 2) h.shown q;
  mains = subst (λ (t : List ChildEntry). m ≤ length (mains_taken t)) (sym j) h.mains;
  backs = subst (λ (t : List ChildEntry). n ≤ length (backs_taken t)) (sym j) h.backs;
  good = g;
}

enough : (m k l : ℕ) → m ≤ k → m ≤ k + l
enough m k l a = omega arith

-- an entry is added
pub moved : (c : ChannelPlan) (u v u' v' m n : ℕ) (s s' : ChildState) (e : ChildEntry) → s'.journal ≡ s.journal ++ e ∷ []
    → u' + all_ups c s' ≤ u + all_ups c s
    → v' + all_shown s' ≤ v + all_shown s → GoodEvents s'.queue.waiting → Holds c u v m n s → Holds c u' v' m n s'
moved c u v u' v' m n s s' e j p q g h = record {
  ups = over u u' (all_ups c s) (all_ups c s') (m + n + 2 * length c.controls + 4) h.ups p;
  shown = over v v' (all_shown s) (all_shown s') (2 * m + n + 2) h.shown q;
  mains = subst (λ (t : List ChildEntry). m ≤ length (mains_taken t)) (sym j)
      (subst (λ (k : ℕ). m ≤ k) (sym (length-mains_taken s.journal (e ∷ [])))
      (enough m (length (mains_taken s.journal)) (length (mains_taken (e ∷ []))) h.mains));
  backs = subst (λ (t : List ChildEntry). n ≤ length (backs_taken t)) (sym j)
      (subst (λ (k : ℕ). n ≤ k) (sym (length-backs_taken s.journal (e ∷ [])))
      (enough n (length (backs_taken s.journal)) (length (backs_taken (e ∷ []))) h.backs));
  good = g;
}

pub noted : (c : ChannelPlan) (u v m n : ℕ) (s : ChildState) (e : ChildEntry) → Holds c u v m n s → Holds c u v m n (with_entry e s)
noted c u v m n s e h = moved c u v u v m n s (with_entry e s) e refl (omega arith) (omega arith) h.good h
