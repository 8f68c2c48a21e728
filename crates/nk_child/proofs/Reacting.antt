-- What the reactions of a start do and send, one after the other.
use Rattle.std.proofs.Common.{ℕ, zero, suc, ◌≡◌, ◌+◌, ◌≤◌, refl, sym, ◌∙◌, ap, add-one, List, [], ◌∷◌, ◌++◌, length, drop, slice_get, Bool, true, false, not, ◌||◌, ◌==◌, nat_lt, if◌then◌else◌, Option, Some, None, is_some, append_assoc, append-nil, arith, All, inl, inr}
use Rattle.std.proofs.Math.ListN.{drop_of_length-le}
use Rattle.std.proofs.lemmas.Bool.{eqb-true}
use Rattle.std.proofs.lemmas.Bool.Decides.{nat_tests, eqb_tells}
use Rattle.std.proofs.lemmas.List.Elements.{All-head, All-tail}
use Rattle.nk_base.specs.declared.status.Status.{Status}
use Rattle.nk_base.specs.declared.status.RetargetError.{RetargetError}
use Rattle.nk_base.specs.declared.message.UpMsg.{UpMsg}
use Rattle.nk_base.specs.declared.message.UpMsg.TheVariants as up
use Rattle.nk_base.specs.Status.{is_failure, merged, or_else}
use Rattle.nk_plan.specs.declared.plan.ChannelPlan.{ChannelPlan}
use Rattle.nk_plan.specs.declared.plan.Reaction.{Reaction}
use Rattle.nk_plan.specs.declared.plan.Reaction.TheVariants as reaction
use Rattle.nk_plan.specs.declared.journal.ChildEntry.TheVariants as child
use Rattle.nk_plan.specs.Accepted.{IsGoodReaction}
use Rattle.nk_plan.specs.Child.{ChildState, with_entry, call_suspend, call_cancel, call_retarget, refusal, react, react_all, bytes_failure}
use Rattle.nk_child.specs.Reactions.{reaction_sends, suspended_by, failed_by, reactions_send, start_sends, failure_of}

-- the items from the one at i on
drop_from : {A : Type 0} (xs : List A) (i : ℕ) (x : A) → slice_get xs i ≡ Some x → drop i xs ≡ x ∷ drop (suc i) xs
drop_from [] i x e = cc
drop_from (y ∷ ys) zero x e = let d : y ≡ x = cc in ap (λ t. t ∷ ys) d
drop_from (y ∷ ys) (suc i) x e = drop_from ys i x e

pub drop_at : {A : Type 0} (xs : List A) (i : ℕ) (x : A) → slice_get xs i ≡ Some x → drop i xs ≡ x ∷ drop (i + 1) xs
drop_at xs i x e = rw add-one (drop_from xs i x e)

pub none_left : {A : Type 0} (xs : List A) (i : ℕ) → length xs ≤ i → drop i xs ≡ []
none_left xs i h = drop_of_length-le xs h

-- one reaction more is staged
pub staged_next : (before after all_of_it : List UpMsg) (b f b' f' : Bool) (r : Reaction) (rest all : List Reaction)
    → after ≡ before ++ reaction_sends b f r → b' ≡ suspended_by b r → f' ≡ failed_by f r → all ≡ r ∷ rest
    → before ++ reactions_send b f all ≡ all_of_it → after ++ reactions_send b' f' rest ≡ all_of_it
staged_next before after all_of_it b f b' f' r rest all s eb ef ea h =
    ap (λ xs. xs ++ reactions_send b' f' rest) s
    ∙ (append_assoc before (reaction_sends b f r) (reactions_send b' f' rest)
    ∙ (ap (λ x. before ++ (reaction_sends b f r ++ reactions_send x f' rest)) eb
    ∙ (ap (λ x. before ++ (reaction_sends b f r ++ reactions_send (suspended_by b r) x rest)) ef
    ∙ (sym (ap (λ (rs : List Reaction). before ++ reactions_send b f rs) ea) ∙ h))))

-- the first reaction that names a callback, if this one does
named_if : (b : Bool) (st : Status) (o : Option Status) → (if b then Some st else o) ≡ or_else (if b then Some st else None) o
named_if true st o = refl
named_if false st o = refl

named : (r : Reaction) (rs : List Reaction) (n : ℕ) → bytes_failure (r ∷ rs) n ≡ or_else (failure_of r n) (bytes_failure rs n)
named (reaction.StartRetarget w) rs n = refl
named reaction.StartSuspend rs n = refl
named (reaction.StartCancel st) rs n = refl
named (reaction.StartFail st) rs n = refl
named (reaction.BytesFail k st) rs n = named_if (k == n) st (bytes_failure rs n)

pub named_at : (rs : List Reaction) (i n : ℕ) (r : Reaction) (st : Status) → slice_get rs i ≡ Some r → failure_of r n ≡ Some st → bytes_failure (drop i rs) n ≡ Some st
named_at rs i n r st g e = ap (λ (xs : List Reaction). bytes_failure xs n) (drop_at rs i r g) ∙ (named r (drop (i + 1) rs) n ∙ ap (λ (o : Option Status). or_else o (bytes_failure (drop (i + 1) rs) n)) e)

pub not_named_at : (rs : List Reaction) (i n : ℕ) (r : Reaction) → slice_get rs i ≡ Some r → failure_of r n ≡ None → bytes_failure (drop (i + 1) rs) n ≡ bytes_failure (drop i rs) n
not_named_at rs i n r g e = sym (ap (λ (xs : List Reaction). bytes_failure xs n) (drop_at rs i r g) ∙ (named r (drop (i + 1) rs) n ∙ ap (λ (o : Option Status). or_else o (bytes_failure (drop (i + 1) rs) n)) e))

-- one reaction more is performed
pub reacted_next : (c : ChannelPlan) (all rest : List Reaction) (r : Reaction) (s new end : ChildState) → all ≡ r ∷ rest → new ≡ react c r s
    → react_all c all s ≡ end → react_all c rest new ≡ end
reacted_next c all rest r s new end e n h = ap (λ (x : ChildState). react_all c rest x) n ∙ (sym (ap (λ (rs : List Reaction). react_all c rs s) e) ∙ h)

-- WHAT THEY SEND

abbrev Rest : ChildState → Reaction → List Reaction → ChildState → Type 0
Rest s r rs new = new.sent ++ start_sends new rs ≡ s.sent ++ start_sends s (r ∷ rs)

by_if : (P : ChildState → Type 0) (b : Bool) (x y : ChildState) → (b ≡ true → P x) → (b ≡ false → P y) → P (if b then x else y)
by_if P true x y p q = p refl
by_if P false x y p q = q refl

above : (n : ℕ) → nat_lt 0 (n + 1) ≡ true
above n = grind (arith, nat_tests)

zero_or_above : (n : ℕ) → (n == 0) ≡ not (nat_lt 0 n)
zero_or_above n = elim (eqb_tells n 0) [
  | inl x ↦ let e : (n == 0) ≡ true = x.0 in let z : n ≡ 0 = eqb-true n 0 e in let l : nat_lt 0 n ≡ false = rw z refl in e ∙ sym (ap not l)
  | inr x ↦ let ne : n ≡ 0 → ⊥ = x.1 in let l : nat_lt 0 n ≡ true = grind (arith, nat_tests) in x.0 ∙ sym (ap not l)
]

first_suspend : (b : Bool) (sent more : List UpMsg) → (sent ++ (if not b then up.Suspend ∷ [] else [])) ++ more ≡ sent ++ ((if b then [] else up.Suspend ∷ []) ++ more)
first_suspend true sent more = append_assoc sent [] more
first_suspend false sent more = append_assoc sent (up.Suspend ∷ []) more

-- after the stop a call enters that it had no effect
no_effect : (r : Reaction) (rs : List Reaction) (s : ChildState) → s.stopped ≡ true → Rest s r rs (with_entry child.NoEffect s)
no_effect r rs s e =
    ap (λ (b : Bool). s.sent ++ (if b then [] else reactions_send (nat_lt 0 s.suspends) (is_some s.kept) rs)) e
    ∙ sym (ap (λ (b : Bool). s.sent ++ (if b then [] else reactions_send (nat_lt 0 s.suspends) (is_some s.kept) (r ∷ rs))) e)

suspend_rest : (rs : List Reaction) (s : ChildState) → s.stopped ≡ false → Rest s reaction.StartSuspend rs (call_suspend s)
suspend_rest rs s e =
    ap (λ (b : Bool). (s.sent ++ (if s.suspends == 0 then up.Suspend ∷ [] else [])) ++ (if b then [] else reactions_send (nat_lt 0 (s.suspends + 1)) (is_some s.kept) rs)) e
    ∙ (ap (λ (b : Bool). (s.sent ++ (if s.suspends == 0 then up.Suspend ∷ [] else [])) ++ reactions_send b (is_some s.kept) rs) (above s.suspends)
    ∙ (ap (λ (b : Bool). (s.sent ++ (if b then up.Suspend ∷ [] else [])) ++ reactions_send true (is_some s.kept) rs) (zero_or_above s.suspends)
    ∙ (first_suspend (nat_lt 0 s.suspends) s.sent (reactions_send true (is_some s.kept) rs)
    ∙ sym (ap (λ (b : Bool). s.sent ++ (if b then [] else reactions_send (nat_lt 0 s.suspends) (is_some s.kept) (reaction.StartSuspend ∷ rs))) e))))

first_failure : (b : Bool) (st : Status) → is_failure st ≡ b → b ≡ true → (if b then Some st else None) ≡ Some st
first_failure true st h e = refl
first_failure false st h e = cc

-- a cancel, of a channel with this failure kept
cancel_kept : (kept : Option Status) (st : Status) (stopped : Bool) (rs : List Reaction) (s : ChildState) → s.kept ≡ kept → s.stopped ≡ stopped → is_failure st ≡ true
    → Rest s (reaction.StartCancel st) rs (if stopped || is_some kept then with_entry child.NoEffect s else call_cancel st s)
cancel_kept kept st true rs s k e f = no_effect (reaction.StartCancel st) rs s e
cancel_kept (Some q) st false rs s k e f =
    ap (λ (b : Bool). s.sent ++ (if b then [] else reactions_send (nat_lt 0 s.suspends) (is_some s.kept) rs)) e
    ∙ (ap (λ (o : Option Status). s.sent ++ reactions_send (nat_lt 0 s.suspends) (is_some o) rs) k
    ∙ sym (ap (λ (b : Bool). s.sent ++ (if b then [] else reactions_send (nat_lt 0 s.suspends) (is_some s.kept) (reaction.StartCancel st ∷ rs))) e
    ∙ ap (λ (o : Option Status). s.sent ++ reactions_send (nat_lt 0 s.suspends) (is_some o) (reaction.StartCancel st ∷ rs)) k))
cancel_kept None st false rs s k e f =
    ap (λ (b : Bool). (s.sent ++ up.Cancel st ∷ []) ++ (if b then [] else reactions_send (nat_lt 0 s.suspends) (is_some (merged s.kept st)) rs)) e
    ∙ (ap (λ (o : Option Status). (s.sent ++ up.Cancel st ∷ []) ++ reactions_send (nat_lt 0 s.suspends) (is_some (merged o st)) rs) k
    ∙ (ap (λ (o : Option Status). (s.sent ++ up.Cancel st ∷ []) ++ reactions_send (nat_lt 0 s.suspends) (is_some o) rs) (first_failure (is_failure st) st refl f)
    ∙ (append_assoc s.sent (up.Cancel st ∷ []) (reactions_send (nat_lt 0 s.suspends) true rs)
    ∙ sym (ap (λ (b : Bool). s.sent ++ (if b then [] else reactions_send (nat_lt 0 s.suspends) (is_some s.kept) (reaction.StartCancel st ∷ rs))) e
    ∙ ap (λ (o : Option Status). s.sent ++ reactions_send (nat_lt 0 s.suspends) (is_some o) (reaction.StartCancel st ∷ rs)) k))))

retarget_rest : (o : Option RetargetError) (w : ℕ) (rs : List Reaction) (s : ChildState) → Rest s (reaction.StartRetarget w) rs (call_retarget o w s)
retarget_rest (Some e) w rs s = refl
retarget_rest None w rs s = refl

rest : (c : ChannelPlan) (r : Reaction) (rs : List Reaction) (s : ChildState) → IsGoodReaction r → Rest s r rs (react c r s)
rest c (reaction.StartRetarget w) rs s g = retarget_rest (refusal c s) w rs s
rest c reaction.StartSuspend rs s g =
    by_if (Rest s reaction.StartSuspend rs) s.stopped (with_entry child.NoEffect s) (call_suspend s) (no_effect reaction.StartSuspend rs s) (suspend_rest rs s)
rest c (reaction.StartCancel st) rs s g = cancel_kept s.kept st s.stopped rs s refl refl g
rest c (reaction.StartFail st) rs s g = cancel_kept s.kept st s.stopped rs s refl refl g
rest c (reaction.BytesFail n st) rs s g = refl

stopped_nothing : (b : Bool) (xs : List UpMsg) → xs ≡ xs ++ (if b then [] else [])
stopped_nothing true xs = sym (append-nil xs)
stopped_nothing false xs = sym (append-nil xs)

pub reactions_sent : (c : ChannelPlan) (rs : List Reaction) (s : ChildState) → All IsGoodReaction rs → (react_all c rs s).sent ≡ s.sent ++ start_sends s rs
reactions_sent c [] s g = stopped_nothing s.stopped s.sent
reactions_sent c (r ∷ rs) s g =
    reactions_sent c rs (react c r s) (All-tail IsGoodReaction r rs g) ∙ rest c r rs s (All-head IsGoodReaction r rs g)
