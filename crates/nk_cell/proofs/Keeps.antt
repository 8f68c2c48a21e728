-- What a step leaves of what a book keeps.
use Rattle.std.proofs.Common.{ℕ, ◌≡◌, ◌+◌, ◌≤◌, refl, sym, ◌∙◌, ap, subst, Bool, false, List, [], ◌∷◌, ◌++◌, length, drop, append_assoc, length-append, arith, Option, None, Some, MatchOption}
use Rattle.nk_wire.specs.OneFrame.{main_of_frame, back_of_frame, up_of_frame}
use Rattle.nk_lane.specs.Ends.{taken_from, left_known, take_capacity, sent_on}
use Rattle.nk_lane.specs.Spelling.{messages}
use Rattle.nk_lane.specs.Outs.{frames_staged, frames_room, entries_staged, entries_room}
use Rattle.nk_plan.specs.declared.plan.ChannelPlan.{ChannelPlan}
use Rattle.nk_plan.specs.declared.journal.ChildEntry.{ChildEntry}
use Rattle.nk_plan.specs.declared.step.ChildStep.{ChildStep}
use Rattle.nk_plan.specs.Accepted.{Accepted}
use Rattle.nk_plan.specs.Capacity.{main_capacity, back_capacity, up_capacity, delivery_capacity}
use Rattle.nk_plan.specs.Journal.{mains_taken, backs_taken, main_in, back_in}
use Rattle.nk_plan.specs.Child.{ChildState, child_step}
use Rattle.nk_plan.specs.Run.{IsChildState, state_of}
use Rattle.nk_child.specs.Views.{ChildView}
use Rattle.nk_laws.specs.Laws.{StateLaw}
use Rattle.nk_half_laws.specs.Capacity.{ChildRoomLaw}
use Rattle.nk_half_laws.specs.Growth.{GrowthLaw, Adds, mains_of, backs_of}
use Rattle.nk_base.specs.declared.message.MainMsg.{MainMsg}
use Rattle.nk_base.specs.declared.message.BackMsg.{BackMsg}
use Rattle.nk_base.specs.declared.message.UpMsg.{UpMsg}
use Rattle.nk_base.specs.declared.message.Entry.{Entry}
use Rattle.nk_base.specs.declared.status.Moved.TheVariants.{Did}
use Rattle.nk_plan.specs.declared.step.ChildStep.TheVariants as step
use Rattle.nk_cell.specs.Books.{BookState, IsKept, IsMain, IsBack, TakesNone, turned}
use Rattle.nk_cell.specs.BookOk.{book_of, Agrees, BookOk}
use Rattle.nk_cell.specs.declared.book.ChildBook.TheInside.{Inside}

pub append_nil : {A : Type 0} (xs : List A) → xs ++ [] ≡ xs
append_nil [] = refl
append_nil (x ∷ xs) = ap (λ t. x ∷ t) (append_nil xs)

mains_append : (i j : List ChildEntry) → mains_taken (i ++ j) ≡ mains_taken i ++ mains_taken j
mains_append [] j = refl
mains_append (e ∷ i) j = ap (λ l. main_in e ++ l) (mains_append i j) ∙ sym (append_assoc (main_in e) (mains_taken i) (mains_taken j))

backs_append : (i j : List ChildEntry) → backs_taken (i ++ j) ≡ backs_taken i ++ backs_taken j
backs_append [] j = refl
backs_append (e ∷ i) j = ap (λ l. back_in e ++ l) (backs_append i j) ∙ sym (append_assoc (back_in e) (backs_taken i) (backs_taken j))

drop_front : {A : Type 0} (xs more : List A) → drop (length xs) (xs ++ more) ≡ more
drop_front [] more = refl
drop_front (x ∷ xs) more = drop_front xs more

-- a list that grew at its end
grown : {A : Type 0} (xs ys more : List A) → ys ≡ xs ++ more → xs ++ drop (length xs) ys ≡ ys
grown xs ys more is = ap (λ l. xs ++ drop (length xs) l) is ∙ (ap (λ l. xs ++ l) (drop_front xs more) ∙ sym is)

-- ROOM

abbrev Fits : ChannelPlan → ChildState → Type 0
Fits c s =
    length (mains_taken s.journal) ≤ main_capacity c → length (backs_taken s.journal) ≤ back_capacity c →
    (length s.sent + 4 ≤ up_capacity c) × (length s.trace + 1 ≤ delivery_capacity c)

fits : ChildRoomLaw → (c : ChannelPlan) (s : ChildState) → Accepted c → IsChildState c s → Fits c s
fits law c s accepted run = subst (λ (v : ChildState). Fits c v) run.1 (law c run.0 accepted)

pub book_ok : ChildRoomLaw → (b : Inside) → Agrees b → length (taken_from b.main) ≤ take_capacity b.main → length (taken_from b.back) ≤ take_capacity b.back → BookOk b
book_ok law b k mains_most backs_most =
    let m = k.mains_count in
    let n = k.backs_count in
    let cm = k.main_capacity_is in
    let cn = k.back_capacity_is in
    let room = fits law b.child.plan b.child.state k.accepted k.run (omega arith) (omega arith) in
    let cu = k.up_capacity_is in
    let cd = k.delivery_capacity_is in record {
      agrees = k;
      up_room = (let r = room.0 in omega arith);
      delivery_room = (let r = room.1 in omega arith);
    }

-- A STEP

-- what the call of the child answers for
pub record Stepped (x : ChildStep) (b b' : Inside) : Type 0 where
  pub child : b'.child ≡ record b.child { state = child_step b.child.plan x b.child.state }
  pub sent : messages up_of_frame (sent_on b'.up.end) ≡ messages up_of_frame (sent_on b.up.end) ++ drop (length b.child.state.sent) b'.child.state.sent
  pub delivered : sent_on b'.delivery.end ≡ sent_on b.delivery.end ++ drop (length b.child.state.trace) b'.child.state.trace
  pub up_room : frames_room b'.up + length (drop (length b.child.state.sent) b'.child.state.sent) ≡ frames_room b.up
  pub delivery_room : entries_room b'.delivery + length (drop (length b.child.state.trace) b'.child.state.trace) ≡ entries_room b.delivery
  pub up_staged : frames_staged up_of_frame b'.up ≡ []
  pub delivery_staged : entries_staged b'.delivery ≡ []

-- what the two taking ends gave in it
pub record Took (x : ChildStep) (b b' : Inside) : Type 0 where
  pub mains : messages main_of_frame (taken_from b'.main) ≡ messages main_of_frame (taken_from b.main) ++ mains_of x b.child.state.broken
  pub backs : messages back_of_frame (taken_from b'.back) ≡ messages back_of_frame (taken_from b.back) ++ backs_of x b.child.state.broken
  pub mains_count : length (taken_from b'.main) ≡ length (taken_from b.main) + length (mains_of x b.child.state.broken)
  pub backs_count : length (taken_from b'.back) ≡ length (taken_from b.back) + length (backs_of x b.child.state.broken)
  pub main_capacity_is : take_capacity b'.main ≡ take_capacity b.main
  pub back_capacity_is : take_capacity b'.back ≡ take_capacity b.back

step_agrees : GrowthLaw → (x : ChildStep) (b b' : Inside) → Agrees b → Stepped x b b' → Took x b b' → Agrees b'
step_agrees growth x b b' k s t =
    let c : ChannelPlan = b.child.plan in
    let old : ChildState = b.child.state in
    let new : ChildState = b'.child.state in
    let adds : Adds c x old (child_step c x old) = growth c x old in
    let plan : b'.child.plan ≡ c = ap (λ (v : ChildView). v.plan) s.child in
    let state : new ≡ child_step c x old = ap (λ (v : ChildView). v.state) s.child in
    let journal = ap (λ (v : ChildState). v.journal) state ∙ adds.journal in
    let m : mains_taken new.journal ≡ mains_taken old.journal ++ mains_of x old.broken =
    ap mains_taken journal ∙ (mains_append old.journal adds.entries ∙ ap (λ l. mains_taken old.journal ++ l) adds.main) in
    let n : backs_taken new.journal ≡ backs_taken old.journal ++ backs_of x old.broken =
    ap backs_taken journal ∙ (backs_append old.journal adds.entries ∙ ap (λ l. backs_taken old.journal ++ l) adds.back) in
    let u = grown old.sent new.sent _ (ap (λ (v : ChildState). v.sent) state ∙ adds.sent) in
    let d = grown old.trace new.trace _ (ap (λ (v : ChildState). v.trace) state ∙ adds.trace) in
    let lm = ap length m ∙ length-append (mains_taken old.journal) (mains_of x old.broken) in
    let ln = ap length n ∙ length-append (backs_taken old.journal) (backs_of x old.broken) in
    let lu = ap length (sym u) ∙ length-append old.sent (drop (length old.sent) new.sent) in
    let ld = ap length (sym d) ∙ length-append old.trace (drop (length old.trace) new.trace) in record {
      accepted = subst (λ (v : ChannelPlan). Accepted v) (sym plan) k.accepted;
      run = subst (λ (v : ChildView). IsChildState v.plan v.state) (sym s.child) (x ∷ k.run.0, ap (λ (v : ChildState). child_step c x v) k.run.1);
      mains = t.mains ∙ (ap (λ l. l ++ mains_of x old.broken) k.mains ∙ sym m);
      backs = t.backs ∙ (ap (λ l. l ++ backs_of x old.broken) k.backs ∙ sym n);
      mains_count = (let a = t.mains_count in let e = k.mains_count in omega arith);
      backs_count = (let a = t.backs_count in let e = k.backs_count in omega arith);
      sends = s.sent ∙ (ap (λ l. l ++ drop (length old.sent) new.sent) k.sends ∙ u);
      trace = s.delivered ∙ (ap (λ l. l ++ drop (length old.trace) new.trace) k.trace ∙ d);
      main_capacity_is = t.main_capacity_is ∙ (k.main_capacity_is ∙ sym (ap main_capacity plan));
      back_capacity_is = t.back_capacity_is ∙ (k.back_capacity_is ∙ sym (ap back_capacity plan));
      up_capacity_is = (let a = s.up_room in let e = k.up_capacity_is in let g = ap up_capacity plan in omega arith);
      delivery_capacity_is = (let a = s.delivery_room in let e = k.delivery_capacity_is in let g = ap delivery_capacity plan in omega arith);
      up_staged = s.up_staged;
      delivery_staged = s.delivery_staged;
    }

pub step_keeps : ChildRoomLaw → GrowthLaw → (x : ChildStep) (b b' : Inside) → BookOk b → Stepped x b b' → Took x b b'
    → length (taken_from b'.main) ≤ take_capacity b'.main → length (taken_from b'.back) ≤ take_capacity b'.back → BookOk b'
step_keeps room growth x b b' k s t = book_ok room b' (step_agrees growth x b b' k.agrees s t)

-- a step that takes no message
none_main : (x : ChildStep) (broken : Bool) → TakesNone x → mains_of x broken ≡ []
none_main step.Act b h = refl
none_main step.Verdict b h = refl
none_main (step.Main m) b h = absurd h
none_main (step.Back m) b h = refl
none_main step.Release b h = refl
none_main (step.Begin t) b h = refl
none_main (step.Finish t) b h = refl

none_back : (x : ChildStep) (broken : Bool) → TakesNone x → backs_of x broken ≡ []
none_back step.Act b h = refl
none_back step.Verdict b h = refl
none_back (step.Main m) b h = refl
none_back (step.Back m) b h = absurd h
none_back step.Release b h = refl
none_back (step.Begin t) b h = refl
none_back (step.Finish t) b h = refl

with_none : {A : Type 0} (xs more : List A) → more ≡ [] → xs ≡ xs ++ more
with_none xs more none = sym (ap (λ l. xs ++ l) none ∙ append_nil xs)

pub took_none : (x : ChildStep) (b b' : Inside) → TakesNone x → b'.main ≡ b.main → b'.back ≡ b.back → Took x b b'
took_none x b b' h m n =
    let broken : Bool = b.child.state.broken in
    let lm = ap length (none_main x broken h) in
    let ln = ap length (none_back x broken h) in
    let tm = ap (λ t. length (taken_from t)) m in
    let tn = ap (λ t. length (taken_from t)) n in record {
      mains = ap (λ t. messages main_of_frame (taken_from t)) m ∙ with_none _ _ (none_main x broken h);
      backs = ap (λ t. messages back_of_frame (taken_from t)) n ∙ with_none _ _ (none_back x broken h);
      mains_count = omega arith;
      backs_count = omega arith;
      main_capacity_is = ap (λ t. take_capacity t) m;
      back_capacity_is = ap (λ t. take_capacity t) n;
    }

-- a step that took a message of a lane

pub took_main : (m : MainMsg) (frame : List ℕ) (b b' : Inside) → b.child.state.broken ≡ false → b'.back ≡ b.back
    → take_capacity b'.main ≡ take_capacity b.main → taken_from b'.main ≡ taken_from b.main ++ frame ∷ []
    → messages main_of_frame (taken_from b.main ++ frame ∷ []) ≡ messages main_of_frame (taken_from b.main) ++ m ∷ [] → Took (step.Main m) b b'
took_main m frame b b' whole n capacity taken spelled =
    let one : mains_of (step.Main m) b.child.state.broken ≡ m ∷ [] = ap (λ broken. mains_of (step.Main m) broken) whole in
    let lm = ap length taken ∙ length-append (taken_from b.main) (frame ∷ []) in
    let lo = ap length one in
    let tn = ap (λ t. length (taken_from t)) n in record {
      mains = ap (λ l. messages main_of_frame l) taken ∙ (spelled ∙ ap (λ l. messages main_of_frame (taken_from b.main) ++ l) (sym one));
      backs = ap (λ t. messages back_of_frame (taken_from t)) n ∙ sym (append_nil _);
      mains_count = omega arith;
      backs_count = omega arith;
      main_capacity_is = capacity;
      back_capacity_is = ap (λ t. take_capacity t) n;
    }

pub took_back : (m : BackMsg) (frame : List ℕ) (b b' : Inside) → b.child.state.broken ≡ false → b'.main ≡ b.main
    → take_capacity b'.back ≡ take_capacity b.back → taken_from b'.back ≡ taken_from b.back ++ frame ∷ []
    → messages back_of_frame (taken_from b.back ++ frame ∷ []) ≡ messages back_of_frame (taken_from b.back) ++ m ∷ [] → Took (step.Back m) b b'
took_back m frame b b' whole n capacity taken spelled =
    let one : backs_of (step.Back m) b.child.state.broken ≡ m ∷ [] = ap (λ broken. backs_of (step.Back m) broken) whole in
    let lm = ap length taken ∙ length-append (taken_from b.back) (frame ∷ []) in
    let lo = ap length one in
    let tn = ap (λ t. length (taken_from t)) n in record {
      mains = ap (λ t. messages main_of_frame (taken_from t)) n ∙ sym (append_nil _);
      backs = ap (λ l. messages back_of_frame l) taken ∙ (spelled ∙ ap (λ l. messages back_of_frame (taken_from b.back) ++ l) (sym one));
      mains_count = omega arith;
      backs_count = omega arith;
      main_capacity_is = ap (λ t. take_capacity t) n;
      back_capacity_is = capacity;
    }

-- THE VALUE BEHIND A STEP

changed : (b : BookState) (v : ChildView) (u : List UpMsg) (d : List Entry) → b.child ≡ v → b.up_sent ≡ u → b.delivered ≡ d
    → b ≡ record b { child = v; up_sent = u; delivered = d }
changed b v u d ev eu ed =
    ap (λ w. record b { child = w }) ev
    ∙ (ap (λ w. record b { child = v; up_sent = w }) eu ∙ ap (λ w. record b { child = v; up_sent = u; delivered = w }) ed)

-- but for what its taking ends tell, the value is that of the table's step
value_is : (x : ChildStep) (b b' : Inside) → Stepped x b b' → b'.number ≡ b.number
    → book_of b' ≡ record (turned x (book_of b)) { main_taken = (book_of b').main_taken; main_left = (book_of b').main_left; back_taken = (book_of b').back_taken; back_left = (book_of b').back_left }
value_is x b b' s number =
    let old : ChildState = b.child.state in
    let state : b'.child.state ≡ child_step b.child.plan x old = ap (λ (v : ChildView). v.state) s.child in
    let v = (turned x (book_of b)).child in
    let u = (turned x (book_of b)).up_sent in
    let d = (turned x (book_of b)).delivered in
    changed (book_of b') _ _ _ s.child
    (s.sent ∙ ap (λ (v : ChildState). messages up_of_frame (sent_on b.up.end) ++ drop (length old.sent) v.sent) state)
    (s.delivered ∙ ap (λ (v : ChildState). sent_on b.delivery.end ++ drop (length old.trace) v.trace) state)
    ∙ ap (λ n. record (book_of b') { number = n; child = v; up_sent = u; delivered = d }) number

pub main_did : (m : MainMsg) (b b' : Inside) (a : BookState) → book_of b ≡ a → b.child.state.broken ≡ false → Stepped (step.Main m) b b'
    → b'.number ≡ b.number → b'.back ≡ b.back
    → messages main_of_frame (taken_from b'.main) ≡ messages main_of_frame (taken_from b.main) ++ m ∷ [] → IsMain Did a (book_of b')
main_did m b b' a is whole s number n taken =
    let t : BookState = turned (step.Main m) (book_of b) in
    let given = (book_of b').main_taken in
    let left = (book_of b').main_left in
    let other = ap (λ w. record t { main_taken = given; main_left = left; back_taken = messages back_of_frame (taken_from w); back_left = messages back_of_frame (left_known w) }) n in
    let one = ap (λ w. record t { main_taken = w; main_left = left }) taken in
    subst (λ (v : BookState). IsMain Did v (book_of b')) is (m, whole, value_is (step.Main m) b b' s number ∙ (other ∙ one))

pub back_did : (m : BackMsg) (b b' : Inside) (a : BookState) → book_of b ≡ a → b.child.state.broken ≡ false → Stepped (step.Back m) b b'
    → b'.number ≡ b.number → b'.main ≡ b.main
    → messages back_of_frame (taken_from b'.back) ≡ messages back_of_frame (taken_from b.back) ++ m ∷ [] → IsBack Did a (book_of b')
back_did m b b' a is whole s number n taken =
    let t : BookState = turned (step.Back m) (book_of b) in
    let given = (book_of b').back_taken in
    let left = (book_of b').back_left in
    let other = ap (λ w. record t { main_taken = messages main_of_frame (taken_from w); main_left = messages main_of_frame (left_known w); back_taken = given; back_left = left }) n in
    let one = ap (λ w. record t { back_taken = w; back_left = left }) taken in
    subst (λ (v : BookState). IsBack Did v (book_of b')) is (m, whole, value_is (step.Back m) b b' s number ∙ (other ∙ one))

-- WHAT A BOOK KEEPS, BY ITS VALUE

told : StateLaw → (c : ChannelPlan) (s : ChildState) → IsChildState c s → state_of c s.journal ≡ s
told law c s run = subst (λ (v : ChildState). state_of c v.journal ≡ v) run.1 ((law c).0 run.0)

pub kept : StateLaw → (b : Inside) (a : BookState) → book_of b ≡ a → BookOk b → IsKept a
kept law b a is k =
    let t = told law b.child.plan b.child.state k.agrees.run in
    let here : IsKept (book_of b) = record {
      accepted = k.agrees.accepted;
      run = (k.agrees.run.0, ap (λ (v : ChildState). v.journal) k.agrees.run.1);
      state = sym t;
      mains = k.agrees.mains;
      backs = k.agrees.backs;
      sends = k.agrees.sends ∙ sym (ap (λ (v : ChildState). v.sent) t);
      trace = k.agrees.trace ∙ sym (ap (λ (v : ChildState). v.trace) t);
    } in subst (λ (v : BookState). IsKept v) is here

-- what a look that found something tells
pub peeked : {A : Type 0} (o : Option A) (P : Type 0) (Q : A → Type 0) (x : A) → o ≡ Some x → MatchOption o P Q → Q x
peeked None P Q x e h = cc
peeked (Some y) P Q x e h = let d : y ≡ x = cc in subst Q d h
