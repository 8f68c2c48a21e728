-- What is known of each half that steps lead to, and so the falls of each half.
use Rattle.std.proofs.Common.{ℕ, suc, ◌≡◌, ◌+◌, ◌*◌, ◌<◌, ◌≤◌, ◌∙◌, inl, inr, refl, ap, List, [], ◌∷◌, ◌++◌, length, length-append, Bool, true, false, if◌then◌else◌, not, arith}
use Rattle.nk_plan.specs.declared.plan.ChannelPlan.{ChannelPlan}
use Rattle.nk_plan.specs.declared.step.ChildStep.{ChildStep}
use Rattle.nk_plan.specs.declared.step.ChildStep.TheVariants as child
use Rattle.nk_plan.specs.declared.step.ParentStep.{ParentStep}
use Rattle.nk_plan.specs.declared.step.ParentStep.TheVariants as parent
use Rattle.nk_plan.specs.declared.journal.ChildEntry.TheVariants as entry
use Rattle.nk_plan.specs.Accepted.{Accepted}
use Rattle.nk_plan.specs.Journal.{mains_sent, backs_sent}
use Rattle.nk_plan.specs.Parent.{ParentState, parent_step, parent_after}
use Rattle.nk_plan.specs.Child.{ChildState, with_entry, step_main, step_back, child_step, child_after}
use Rattle.nk_plan.specs.Enabled.{child_enabled, parent_enabled}
use Rattle.nk_half_laws.specs.Work.{taken_weight, child_work, spent, fetches_left}
use Rattle.nk_half_laws.specs.Falls.{ChildFalls, ChildFallsLaw, ChildKeepsLaw, FetchFalls, FetchFallsLaw, UpFallsLaw}
use Rattle.nk_half_laws.proofs.Tools.{keeps_if, by_bool, less_or_same}
use Rattle.nk_half_laws.proofs.IdleSteps.{child_idle}
use Rattle.nk_half_laws.proofs.FallRows.{Row, main_row, back_row}
use Rattle.nk_half_laws.proofs.ChildFalls.{Sinks, TakesNone, child_sinks}
use Rattle.nk_half_laws.proofs.ParentFalls.{Placed, AddsOne, Fetched, first_there, step_placed, fetch_falls, Heard, up_heard}
use Rattle.nk_plan.specs.Telling.{sends_from}
use Rattle.nk_half_laws.specs.Growth.{telling_of, Adds}
use Rattle.nk_half_laws.proofs.GrowthRows.{growth}

-- The child

-- what was sent and shown stays
longer : {A : Type 0} (xs ys zs : List A) → zs ≡ xs ++ ys → length xs ≤ length zs
longer xs ys zs e = let n : length (xs ++ ys) ≡ length xs + length ys = length-append xs ys in omega (arith, ap length e)

abbrev pub Longer : ChildState → ChildState → Type 0
Longer s s' = (length s.sent ≤ length s'.sent) × (length s.trace ≤ length s'.trace)

pub child_keeps : ChildKeepsLaw
child_keeps c x s =
    let a : Adds c x s (child_step c x s) = growth c x s in (
      longer s.sent (sends_from (telling_of s) a.entries) (child_step c x s).sent a.sent,
      longer s.trace a.showing (child_step c x s).trace a.trace,
    )

-- and the queue of each child has its 18 numbers

abbrev SamePosts : ChildState → ChildState → Type 0
SamePosts s s' = length s'.queue.posted ≡ length s.queue.posted

posts_sink : (c : ChannelPlan) (s s' : ChildState) → Sinks c s s' → SamePosts s s'
posts_sink c s s' (inl r) = r.posted
posts_sink c s s' (inr (r, n, t, q)) = r.posted

posts_plain : (c : ChannelPlan) (x : ChildStep) (s : ChildState) → TakesNone x → Accepted c → length s.queue.posted ≡ 18
    → SamePosts s (child_step c x s)
posts_plain c x s n a l =
    by_bool (child_enabled c x s) (λ e. posts_sink c s (child_step c x s) (child_sinks c x s n a.few_reactions l e))
    (λ e. ap (λ (y : ChildState). length y.queue.posted) (child_idle c x s e))

pub posts_kept : (c : ChannelPlan) (x : ChildStep) (s : ChildState) → Accepted c → length s.queue.posted ≡ 18
    → SamePosts s (child_step c x s)
posts_kept c child.Act s a l = posts_plain c child.Act s tt a l
posts_kept c child.Verdict s a l = posts_plain c child.Verdict s tt a l
posts_kept c (child.Main m) s a l =
    let s1 : ChildState = with_entry (entry.TookMain m) s in
    keeps_if (SamePosts s) s.broken s (step_main c m s1) (λ e. refl) (λ e. (main_row c m s1).posted)
posts_kept c (child.Back m) s a l =
    let s1 : ChildState = with_entry (entry.TookBack m) s in
    keeps_if (SamePosts s) s.broken s (step_back c m s1) (λ e. refl) (λ e. (back_row c m s1).posted)
posts_kept c child.Release s a l = posts_plain c child.Release s tt a l
posts_kept c (child.Begin t) s a l = posts_plain c (child.Begin t) s tt a l
posts_kept c (child.Finish t) s a l = posts_plain c (child.Finish t) s tt a l

pub posted_there : (c : ChannelPlan) (steps : List ChildStep) → Accepted c → length (child_after c steps).queue.posted ≡ 18
posted_there c [] a = refl
posted_there c (x ∷ xs) a =
    let l : length (child_after c xs).queue.posted ≡ 18 = posted_there c xs a in posts_kept c x (child_after c xs) a l ∙ l

-- the numbers: what was spent before and after

one_less : (m n : ℕ) → m + 1 ≤ n + 0 → m < n + 0
one_less m n l = omega arith

taken_less : (m n d : ℕ) → m + 0 ≤ n + d → m < n + (d + 1)
taken_less m n d l = omega arith

plain_most : (m n : ℕ) → m + 0 ≤ n + 0 → m ≤ n
plain_most m n l = omega arith

plain_less : (m n : ℕ) → m < n → m < n + 0
plain_less m n l = omega arith

-- k, n and t are the child's work, and how much was sent and shown
same_work : (k' k n' n t' t : ℕ) → k' + 2 * n' + 2 * t' ≡ k + 2 * n + 2 * t → n' ≡ n → t' ≡ t → k' ≡ k
same_work k' k n' n t' t e x y = omega arith

-- a child that is not broken takes the message
unbroken : (broken : Bool) (P : ChildState → Type 0) (s x : ChildState) → not broken ≡ true → P x → P (if broken then s else x)
unbroken true P s x e p = cc
unbroken false P s x e p = p

sunk : (c : ChannelPlan) (x : ChildStep) (s s' : ChildState) → taken_weight x ≡ 0 → Sinks c s s' → ChildFalls c x s s'
sunk c x s s' z (inl r) = inl (rw z (one_less (spent c s') (spent c s) r.less))
sunk c x s s' z (inr (r, n, t, q)) =
    elim (less_or_same (spent c s') (spent c s) (plain_most (spent c s') (spent c s) r.less)) [
      | inl a ↦ inl (rw z (plain_less (spent c s') (spent c s) a))
      | inr a ↦ inr (
        z,
        n,
        t,
        same_work (child_work c s') (child_work c s) (length s'.sent) (length s.sent) (length s'.trace)
            (length s.trace) a (ap length n) (ap length t),
        q,
      )
    ]

pub child_falls_from : (c : ChannelPlan) (x : ChildStep) (s : ChildState) → Accepted c → length s.queue.posted ≡ 18
    → child_enabled c x s ≡ true → ChildFalls c x s (child_step c x s)
child_falls_from c child.Act s a l e = sunk c child.Act s _ refl (child_sinks c child.Act s tt a.few_reactions l e)
child_falls_from c child.Verdict s a l e = sunk c child.Verdict s _ refl (child_sinks c child.Verdict s tt a.few_reactions l e)
child_falls_from c (child.Main m) s a l e =
    let s1 : ChildState = with_entry (entry.TookMain m) s in
    let r : Row c 0 268 s1 (step_main c m s1) = main_row c m s1 in
    unbroken s.broken (ChildFalls c (child.Main m) s) s (step_main c m s1) e
    (inl (taken_less (spent c (step_main c m s1)) (spent c s) 268 r.less))
child_falls_from c (child.Back m) s a l e =
    let s1 : ChildState = with_entry (entry.TookBack m) s in
    let r : Row c 0 134 s1 (step_back c m s1) = back_row c m s1 in
    unbroken s.broken (ChildFalls c (child.Back m) s) s (step_back c m s1) e
    (inl (taken_less (spent c (step_back c m s1)) (spent c s) 134 r.less))
child_falls_from c child.Release s a l e = sunk c child.Release s _ refl (child_sinks c child.Release s tt a.few_reactions l e)
child_falls_from c (child.Begin t) s a l e = sunk c (child.Begin t) s _ refl (child_sinks c (child.Begin t) s tt a.few_reactions l e)
child_falls_from c (child.Finish t) s a l e = sunk c (child.Finish t) s _ refl (child_sinks c (child.Finish t) s tt a.few_reactions l e)

pub child_falls : ChildFallsLaw
child_falls c steps x a e = child_falls_from c x (child_after c steps) a (posted_there c steps a) e

-- The parent

pub placed_there : (c : ChannelPlan) (steps : List ParentStep) → Accepted c → Placed c (parent_after c steps)
placed_there c [] a = first_there c a
placed_there c (x ∷ xs) a = step_placed c x (parent_after c xs) a (placed_there c xs a)

given_less : (f f' m m' b b' : ℕ) → f' < f → m' ≤ suc m → b' ≤ suc b → 406 * f' + 269 * m' + 136 * b' < 406 * f + 269 * m + 136 * b
given_less f f' m m' b b' x y z = omega arith

pub fetch_lowers : (c : ChannelPlan) (p : ParentState) → Accepted c → Placed c p → parent_enabled c parent.Fetch p ≡ true
    → FetchFalls c p (parent_step c parent.Fetch p)
fetch_lowers c p a l e =
    let p' : ParentState = parent_step c parent.Fetch p in
    let f : Fetched c p p' = fetch_falls c p a l e in
    let s : AddsOne p.journal p'.journal = f.sends in (
      given_less (fetches_left c p) (fetches_left c p') (length (mains_sent p.journal)) (length (mains_sent p'.journal))
          (length (backs_sent p.journal)) (length (backs_sent p'.journal)) f.fewer s.mains_most s.backs_most,
      s.mains_least,
      s.backs_least,
      s.ups_least,
    )

pub fetch_there : FetchFallsLaw
fetch_there c steps a e = fetch_lowers c (parent_after c steps) a (placed_there c steps a) e

times : (m n : ℕ) → m ≤ n → 406 * m ≤ 406 * n
times m n l = omega arith

pub up_keeps : UpFallsLaw
up_keeps c m p =
    let p' : ParentState = parent_step c (parent.Up m) p in
    let h : Heard c p p' = up_heard c m p in
    (times (fetches_left c p') (fetches_left c p) h.no_more, h.mains_same, h.backs_same, h.ups_more)
