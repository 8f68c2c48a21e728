-- What a parent has sent keeps to its phase: of the main lane at most two messages for each hop that it has left, of the
-- background lane one for each piece, one start and one stop. All of them are in range.
use Rattle.std.proofs.Common.{ℕ, suc, ◌≡◌, ◌+◌, ◌*◌, ◌<◌, ◌≤◌, refl, sym, ap, subst, List, [], ◌∷◌, ◌++◌, length, length-append, All, Bool, true, if◌then◌else◌, Option, Some, None, ◌==◌, slice_get, pos, int_lt, ◌-ℤ◌, arith}
use Rattle.std.proofs.lemmas.Option.{slice_get_within}
use Rattle.std.proofs.lemmas.List.Elements.{All-nil, All-append}
use Rattle.nk_base.specs.declared.status.Status.{Status}
use Rattle.nk_base.specs.declared.field.Field.{Field}
use Rattle.nk_base.specs.declared.field.Head.{Head}
use Rattle.nk_base.specs.declared.message.MainMsg.{MainMsg}
use Rattle.nk_base.specs.declared.message.MainMsg.TheVariants as main
use Rattle.nk_base.specs.declared.message.BackMsg.{BackMsg}
use Rattle.nk_base.specs.declared.message.BackMsg.TheVariants as back
use Rattle.nk_base.specs.declared.message.UpMsg.{UpMsg}
use Rattle.nk_base.specs.declared.message.UpMsg.TheVariants as up
use Rattle.nk_base.specs.Heads.{IsGoodHead}
use Rattle.nk_base.specs.Pieces.{IsPiece}
use Rattle.nk_base.specs.Ranges.{IsHop, IsRedirectCode, IsMainInRange, IsBackInRange, AreTrailers}
use Rattle.nk_base.specs.Status.{ok, redirect_loop, is_legal_status, merged, kept_status}
use Rattle.nk_plan.specs.declared.plan.ChannelPlan.{ChannelPlan}
use Rattle.nk_plan.specs.declared.plan.StartLane.{StartLane}
use Rattle.nk_plan.specs.declared.plan.StartLane.TheVariants as lane
use Rattle.nk_plan.specs.declared.plan.Hop.{Hop}
use Rattle.nk_plan.specs.declared.plan.Hop.TheVariants as hop
use Rattle.nk_plan.specs.declared.plan.Finish.{Finish}
use Rattle.nk_plan.specs.declared.plan.Finish.TheVariants as finish
use Rattle.nk_plan.specs.declared.journal.ParentEntry.{ParentEntry}
use Rattle.nk_plan.specs.declared.journal.ParentEntry.TheVariants as entry
use Rattle.nk_plan.specs.declared.step.Phase.{Phase}
use Rattle.nk_plan.specs.declared.step.Phase.TheVariants.{Closed, Ready, Asking, Follow, Body, Done}
use Rattle.nk_plan.specs.declared.step.ParentStep.{ParentStep}
use Rattle.nk_plan.specs.declared.step.ParentStep.TheVariants as step
use Rattle.nk_plan.specs.Accepted.{Accepted, IsGoodHop, IsGoodFinish, body_of}
use Rattle.nk_plan.specs.Journal.{mains_sent, backs_sent}
use Rattle.nk_plan.specs.Plan.{hop_at, hop_pieces, pieces_at, stop_trailers}
use Rattle.nk_plan.specs.Parent.{ParentState, opened_phase, kept_after_cancel, awaits_verdict, take_up, with_taken, start_entries, give_start, bare_head, stop_entry, offset_of, fetch_finish, fetch_piece, fetch_body, fetch_redirect, fetch_hop, complete_redirect, fetch_follow, fetch_in, parent_step, parent_after}
use Rattle.nk_half_laws.specs.Ranges.{HasGoodParts, AreGoodParts}
use Rattle.nk_half_laws.proofs.Tools.{keeps_if, item_of, only}
use Rattle.nk_half_laws.proofs.Failures.{IsKept, merged_kept, failure_legal, kept_legal}
use Rattle.nk_half_laws.proofs.Plans.{good_hop, AsRedirect, redirect_leads, few_pieces, good_stop, failed_stop}
use Rattle.nk_half_laws.proofs.Journals.{mains_sent-append, backs_sent-append}

-- Where a parent is, with so many messages sent on the lanes

-- a hop is met, and x messages were sent on it
pub record Meets (c : ChannelPlan) (h k m b x : ℕ) : Type 0 where
  pub in_plan : h < length c.hops
  pub mains : m ≤ 2 * h + x
  pub backs : b ≡ 0
  pub first : k ≡ 0

pub record Asks (c : ChannelPlan) (h k m b : ℕ) : Type 0 where
  pub meets : Meets c h k m b 1
  pub redirect : AsRedirect (hop_at c h)

-- the start was sent, and k pieces
pub record Sends (c : ChannelPlan) (h k m b : ℕ) : Type 0 where
  pub in_plan : h < length c.hops
  pub mains : m < 2 * length c.hops
  pub backs : b ≤ k + 1
  pub pieces : k ≤ length (pieces_at c h)

pub record Ended (c : ChannelPlan) (m b : ℕ) : Type 0 where
  pub mains : m < 2 * length c.hops
  pub backs : b ≤ length (body_of c) + 2

abbrev pub At : ChannelPlan → Phase → ℕ → ℕ → ℕ → ℕ → Type 0
At c Closed h k m b = Meets c h k m b 0
At c Ready h k m b = Meets c h k m b 0
At c Asking h k m b = Asks c h k m b
At c Follow h k m b = Asks c h k m b
At c Body h k m b = Sends c h k m b
At c Done h k m b = Ended c m b

meets_ended : (c : ChannelPlan) (h k m b x : ℕ) → x ≤ 1 → Meets c h k m b x → Ended c m b
meets_ended c h k m b x l p = record { mains = omega arith; backs = omega arith }

sends_ended : (c : ChannelPlan) → Accepted c → (h k m b : ℕ) → Sends c h k m b → Ended c m b
sends_ended c a h k m b p =
    let f : length (pieces_at c h) ≤ length (body_of c) = few_pieces c h a in
    record { mains = omega arith; backs = omega arith }

at_ended : (c : ChannelPlan) → Accepted c → (p : Phase) (h k m b : ℕ) → At c p h k m b → Ended c m b
at_ended c a Closed h k m b p = meets_ended c h k m b 0 (omega arith) p
at_ended c a Ready h k m b p = meets_ended c h k m b 0 (omega arith) p
at_ended c a Asking h k m b p = meets_ended c h k m b 1 (omega arith) p.meets
at_ended c a Follow h k m b p = meets_ended c h k m b 1 (omega arith) p.meets
at_ended c a Body h k m b p = sends_ended c a h k m b p
at_ended c a Done h k m b p = p

-- Messages that are in range

pub record InRange (ms : List MainMsg) (bs : List BackMsg) : Type 0 where
  pub mains : All IsMainInRange ms
  pub backs : All IsBackInRange bs

more_range : (ms ms' : List MainMsg) (bs bs' : List BackMsg) → InRange ms bs → InRange ms' bs' → InRange (ms ++ ms') (bs ++ bs')
more_range ms ms' bs bs' p q = record {
  mains = All-append IsMainInRange ms ms' p.mains q.mains;
  backs = All-append IsBackInRange bs bs' p.backs q.backs;
}

no_range : InRange [] []
no_range = record { mains = All-nil IsMainInRange; backs = All-nil IsBackInRange }

main_range : (m : MainMsg) → IsMainInRange m → InRange (m ∷ []) []
main_range m r = record { mains = only IsMainInRange m r; backs = All-nil IsBackInRange }

back_range : (m : BackMsg) → IsBackInRange m → InRange [] (m ∷ [])
back_range m r = record { mains = All-nil IsMainInRange; backs = only IsBackInRange m r }

-- The invariant

pub record Within (c : ChannelPlan) (p : Phase) (h k : ℕ) (q : Option Status) (ms : List MainMsg) (bs : List BackMsg) : Type 0 where
  pub place : At c p h k (length ms) (length bs)
  pub kept : IsKept q
  pub ranged : AreGoodParts c → InRange ms bs

abbrev pub Holds : ChannelPlan → ParentState → Type 0
Holds c s = Within c s.phase s.hop s.piece s.kept (mains_sent s.journal) (backs_sent s.journal)

-- entries are added
moved : (c : ChannelPlan) (p p' : Phase) (h k h' k' : ℕ) (q q' : Option Status) (j es : List ParentEntry)
    → Within c p h k q (mains_sent j) (backs_sent j)
    → At c p' h' k' (length (mains_sent j) + length (mains_sent es)) (length (backs_sent j) + length (backs_sent es))
    → IsKept q' → (AreGoodParts c → InRange (mains_sent es) (backs_sent es))
    → Within c p' h' k' q' (mains_sent (j ++ es)) (backs_sent (j ++ es))
moved c p p' h k h' k' q q' j es w a i r =
    subst (λ (ms : List MainMsg). Within c p' h' k' q' ms (backs_sent (j ++ es))) (sym (mains_sent-append j es))
    (subst (λ (bs : List BackMsg). Within c p' h' k' q' (mains_sent j ++ mains_sent es) bs) (sym (backs_sent-append j es))
    (record {
      place =
          subst (λ (m : ℕ). At c p' h' k' m (length (backs_sent j ++ backs_sent es))) (sym (length-append (mains_sent j) (mains_sent es)))
          (subst (λ (b : ℕ). At c p' h' k' (length (mains_sent j) + length (mains_sent es)) b)
          (sym (length-append (backs_sent j) (backs_sent es))) a);
      kept = i;
      ranged = λ g. more_range (mains_sent j) (mains_sent es) (backs_sent j) (backs_sent es) (w.ranged g) (r g);
    }))

-- A message of the up lane

opened_at : (c : ChannelPlan) (p : Phase) (h k m b : ℕ) → At c p h k m b → At c (opened_phase p) h k m b
opened_at c Closed h k m b p = p
opened_at c Ready h k m b p = p
opened_at c Asking h k m b p = p
opened_at c Follow h k m b p = p
opened_at c Body h k m b p = p
opened_at c Done h k m b p = p

cancel_kept : (p : Phase) (q : Option Status) (st : Status) → IsKept q → IsKept (kept_after_cancel p q st)
cancel_kept Done q st i = i
cancel_kept Closed q st i = merged_kept q st i
cancel_kept Ready q st i = merged_kept q st i
cancel_kept Asking q st i = merged_kept q st i
cancel_kept Follow q st i = merged_kept q st i
cancel_kept Body q st i = merged_kept q st i

answered_at : (c : ChannelPlan) (p : Phase) (h k m b v : ℕ) → At c p h k m b → At c (if awaits_verdict p h v then Follow else p) h k m b
answered_at c Closed h k m b v p = p
answered_at c Ready h k m b v p = p
answered_at c Asking h k m b v p = keeps_if (λ (x : Phase). At c x h k m b) (h == v) Follow Asking (λ r. p) (λ r. p)
answered_at c Follow h k m b v p = p
answered_at c Body h k m b v p = p
answered_at c Done h k m b v p = p

-- nothing is sent
heard : (c : ChannelPlan) (p p' : Phase) (h k : ℕ) (q q' : Option Status) (j : List ParentEntry) (m : UpMsg)
    → Within c p h k q (mains_sent j) (backs_sent j)
    → At c p' h k (length (mains_sent j)) (length (backs_sent j)) → IsKept q'
    → Within c p' h k q' (mains_sent (j ++ entry.Took m ∷ [])) (backs_sent (j ++ entry.Took m ∷ []))
heard c p p' h k q q' j m w a i =
    let x : length (mains_sent j) ≡ length (mains_sent j) + 0 = omega arith in
    let y : length (backs_sent j) ≡ length (backs_sent j) + 0 = omega arith in
    moved c p p' h k h k q q' j (entry.Took m ∷ []) w
    (subst (λ (n : ℕ). At c p' h k n (length (backs_sent j) + 0)) x (subst (λ (n : ℕ). At c p' h k (length (mains_sent j)) n) y a)) i
    (λ g. no_range)

up_taken : (c : ChannelPlan) → Accepted c → (s : ParentState) (m : UpMsg) → Holds c s → Holds c (with_taken (take_up c s m) m)
up_taken c a s up.Open w =
    heard c s.phase (opened_phase s.phase) s.hop s.piece s.kept s.kept s.journal up.Open w
    (opened_at c s.phase s.hop s.piece (length (mains_sent s.journal)) (length (backs_sent s.journal)) w.place) w.kept
up_taken c a s up.Suspend w = heard c s.phase s.phase s.hop s.piece s.kept s.kept s.journal up.Suspend w w.place w.kept
up_taken c a s up.Resume w = heard c s.phase s.phase s.hop s.piece s.kept s.kept s.journal up.Resume w w.place w.kept
up_taken c a s (up.Cancel st) w =
    heard c s.phase s.phase s.hop s.piece s.kept (kept_after_cancel s.phase s.kept st) s.journal (up.Cancel st) w w.place
    (cancel_kept s.phase s.kept st w.kept)
up_taken c a s (up.Verify v st) w =
    let b : Bool = awaits_verdict s.phase s.hop v in
    heard c s.phase (if b then Follow else s.phase) s.hop s.piece s.kept (if b then merged s.kept st else s.kept) s.journal
    (up.Verify v st) w
    (answered_at c s.phase s.hop s.piece (length (mains_sent s.journal)) (length (backs_sent s.journal)) v w.place)
    (keeps_if IsKept b (merged s.kept st) s.kept (λ r. merged_kept s.kept st w.kept) (λ r. w.kept))
up_taken c a s (up.BytesRead n) w = heard c s.phase s.phase s.hop s.piece s.kept s.kept s.journal (up.BytesRead n) w w.place w.kept
up_taken c a s up.Deleting w =
    heard c s.phase Done s.hop s.piece s.kept s.kept s.journal up.Deleting w
    (at_ended c a s.phase s.hop s.piece (length (mains_sent s.journal)) (length (backs_sent s.journal)) w.place) w.kept

-- The start

in_range_hop : (c : ChannelPlan) → Accepted c → (h : ℕ) → h < length c.hops → IsHop h
in_range_hop c a h l = omega (arith, a.few_hops)

start_range : (c : ChannelPlan) → Accepted c → (l : StartLane) (h : ℕ) (q : Option Status) (head : Head) → h < length c.hops → IsKept q
    → IsGoodHead head
    → InRange (mains_sent (start_entries l h (kept_status q) head)) (backs_sent (start_entries l h (kept_status q) head))
start_range c a lane.Main h q head l k g = record {
  mains = only IsMainInRange (main.Start h (kept_status q) head) (in_range_hop c a h l, kept_legal q k, g);
  backs = only IsBackInRange (back.StartSent h) (in_range_hop c a h l);
}
start_range c a lane.Back h q head l k g = back_range (back.Start h (kept_status q) head) (in_range_hop c a h l, kept_legal q k, g)

start_at : (c : ChannelPlan) (l : StartLane) (h k m b : ℕ) (st : Status) (head : Head) → Meets c h k m b 1 → m + 1 < 2 * length c.hops
    → Sends c h k (m + length (mains_sent (start_entries l h st head))) (b + length (backs_sent (start_entries l h st head)))
start_at c lane.Main h k m b st head p n = record { in_plan = p.in_plan; mains = omega arith; backs = omega arith; pieces = omega arith }
start_at c lane.Back h k m b st head p n = record { in_plan = p.in_plan; mains = omega arith; backs = omega arith; pieces = omega arith }

started : (c : ChannelPlan) → Accepted c → (s : ParentState) (q : Option Status) (head : Head) → Holds c s
    → Meets c s.hop s.piece (length (mains_sent s.journal)) (length (backs_sent s.journal)) 1
    → length (mains_sent s.journal) + 1 < 2 * length c.hops → IsKept q → (AreGoodParts c → IsGoodHead head)
    → Holds c (give_start c s q head)
started c a s q head w p n k g =
    moved c s.phase Body s.hop s.piece s.hop s.piece s.kept q s.journal (start_entries c.start s.hop (kept_status q) head) w
    (start_at c c.start s.hop s.piece (length (mains_sent s.journal)) (length (backs_sent s.journal)) (kept_status q) head p n) k
    (λ y. start_range c a c.start s.hop q head p.in_plan k (g y))

bare_good : (code : ℕ) → IsRedirectCode code → IsGoodHead (bare_head code)
bare_good code r = record { least = omega arith; most = omega arith; count = omega arith; good = refl }

one_at : (c : ChannelPlan) (h k m b : ℕ) → Meets c h k m b 0 → Meets c h k m b 1
one_at c h k m b p = record { in_plan = p.in_plan; mains = omega arith; backs = p.backs; first = p.first }

-- The body

stopped : (c : ChannelPlan) → Accepted c → (s : ParentState) (q : Option Status) (st : Status) → Holds c s
    → Sends c s.hop s.piece (length (mains_sent s.journal)) (length (backs_sent s.journal)) → IsKept q
    → is_legal_status st ≡ true → AreTrailers st (stop_trailers c s.hop st)
    → Holds c (record s { phase = Done; kept = q; journal = s.journal ++ stop_entry c s.hop st ∷ [] })
stopped c a s q st w p k l t =
    let f : length (pieces_at c s.hop) ≤ length (body_of c) = few_pieces c s.hop a in
    let e : Ended c (length (mains_sent s.journal) + 0) (length (backs_sent s.journal) + 1) =
    record { mains = omega (arith, p.mains, p.in_plan); backs = omega (arith, p.backs, p.pieces, f) } in
    moved c s.phase Done s.hop s.piece s.hop s.piece s.kept q s.journal (stop_entry c s.hop st ∷ []) w e k
    (λ y. back_range (back.Stop s.hop st (stop_trailers c s.hop st)) (in_range_hop c a s.hop p.in_plan, l, t))

body_ended : (c : ChannelPlan) → Accepted c → (s : ParentState) (end : Finish) (trailers : List Field) → IsGoodFinish end trailers
    → Holds c s
    → Sends c s.hop s.piece (length (mains_sent s.journal)) (length (backs_sent s.journal)) → Holds c (fetch_finish c s end)
body_ended c a s finish.Good trailers g w p = stopped c a s s.kept ok w p w.kept refl (good_stop c a s.hop)
body_ended c a s (finish.Fail st) trailers g w p = stopped c a s (Some st) st w p g.0 (failure_legal st g.0) (failed_stop c s.hop st g.0)

piece_sent : (c : ChannelPlan) → Accepted c → (s : ParentState) (pieces : List (List ℕ)) (p : List ℕ) → pieces_at c s.hop ≡ pieces
    → slice_get pieces s.piece ≡ Some p
    → (AreGoodParts c → IsPiece p) → Holds c s → Sends c s.hop s.piece (length (mains_sent s.journal)) (length (backs_sent s.journal))
    → Holds c (record s {
      phase = Body;
      credit = s.credit -ℤ pos (length p);
      piece = suc s.piece;
      journal = s.journal ++ entry.SentBack (back.Bytes s.hop ok (offset_of pieces s.piece) p) ∷ [];
    })
piece_sent c a s pieces p e x g w at =
    let l : s.piece < length pieces = slice_get_within pieces s.piece p x in
    let f : length (pieces_at c s.hop) ≡ length pieces = ap length e in
    let n : Sends c s.hop (suc s.piece) (length (mains_sent s.journal) + 0) (length (backs_sent s.journal) + 1) =
    record { in_plan = at.in_plan; mains = omega (arith, at.mains); backs = omega (arith, at.backs); pieces = omega (arith, l, f) } in
    moved c s.phase Body s.hop s.piece s.hop (suc s.piece) s.kept s.kept s.journal
    (entry.SentBack (back.Bytes s.hop ok (offset_of pieces s.piece) p) ∷ []) w n w.kept
    (λ y. back_range (back.Bytes s.hop ok (offset_of pieces s.piece) p) (in_range_hop c a s.hop at.in_plan, refl, g y))

piece_fetched : (c : ChannelPlan) → Accepted c
    → (s : ParentState) (pieces : List (List ℕ)) (end : Finish) (trailers : List Field) (o : Option (List ℕ))
    → pieces_at c s.hop ≡ pieces → slice_get pieces s.piece ≡ o → IsGoodFinish end trailers → (AreGoodParts c → All IsPiece pieces)
    → Holds c s
    → Sends c s.hop s.piece (length (mains_sent s.journal)) (length (backs_sent s.journal)) → Holds c (fetch_piece c s pieces end o)
piece_fetched c a s pieces end trailers None e x f g w p = body_ended c a s end trailers f w p
piece_fetched c a s pieces end trailers (Some b) e x f g w p =
    keeps_if (Holds c) (int_lt (pos 0) s.credit)
    (record s {
      phase = Body;
      credit = s.credit -ℤ pos (length b);
      piece = suc s.piece;
      journal = s.journal ++ entry.SentBack (back.Bytes s.hop ok (offset_of pieces s.piece) b) ∷ [];
    })
    s (λ r. piece_sent c a s pieces b e x (λ y. item_of IsPiece pieces (g y) s.piece b x) w p) (λ r. w)

body_fetched : (c : ChannelPlan) → Accepted c → (s : ParentState) (q : Option Status) (o : Option Hop) → s.kept ≡ q → hop_at c s.hop ≡ o
    → Holds c s
    → Sends c s.hop s.piece (length (mains_sent s.journal)) (length (backs_sent s.journal)) → Holds c (fetch_body c s q o)
body_fetched c a s (Some q) o k e w p =
    let i : IsKept (Some q) = subst IsKept k w.kept in
    stopped c a s s.kept q w p w.kept (failure_legal q i) (failed_stop c s.hop q i)
body_fetched c a s None None k e w p = w
body_fetched c a s None (Some (hop.Fail st)) k e w p = w
body_fetched c a s None (Some (hop.Redirect code verdict)) k e w p = w
body_fetched c a s None (Some (hop.Response head pieces end trailers)) k e w p =
    let g : IsGoodHop (hop.Response head pieces end trailers) = good_hop c a s.hop (hop.Response head pieces end trailers) e in
    piece_fetched c a s pieces end trailers (slice_get pieces s.piece) (ap hop_pieces e) refl g.2
    (λ y. (item_of HasGoodParts c.hops y s.hop (hop.Response head pieces end trailers) e).1) w p

-- A hop is met

redirect_fetched : (c : ChannelPlan) → Accepted c → (s : ParentState) (code : ℕ) (q : Option Status) → s.kept ≡ q → IsRedirectCode code
    → AsRedirect (hop_at c s.hop) → Holds c s
    → Meets c s.hop s.piece (length (mains_sent s.journal)) (length (backs_sent s.journal)) 0 → Holds c (fetch_redirect c s code q)
redirect_fetched c a s code (Some q) k r e w p =
    started c a s (Some q) (bare_head code) w (one_at c s.hop s.piece (length (mains_sent s.journal)) (length (backs_sent s.journal)) p)
    (omega (arith, p.mains, p.in_plan)) (subst IsKept k w.kept) (λ y. bare_good code r)
redirect_fetched c a s code None k r e w p =
    let s1 : ParentState = record s { phase = Asking; journal = s.journal ++ entry.SentMain (main.Redirect1 s.hop code) ∷ [] } in
    let n : Meets c s.hop s.piece (length (mains_sent s.journal) + 1) (length (backs_sent s.journal) + 0) 1 =
    record { in_plan = p.in_plan; mains = omega (arith, p.mains); backs = omega (arith, p.backs); first = p.first } in
    keeps_if (Holds c) (s.followed == 20) (give_start c s (Some redirect_loop) (bare_head code)) s1
    (λ x. started c a s (Some redirect_loop) (bare_head code) w
    (one_at c s.hop s.piece (length (mains_sent s.journal)) (length (backs_sent s.journal)) p) (omega (arith, p.mains, p.in_plan)) refl
    (λ y. bare_good code r))
    (λ x. moved c s.phase Asking s.hop s.piece s.hop s.piece s.kept s.kept s.journal (entry.SentMain (main.Redirect1 s.hop code) ∷ []) w
    (record { meets = n; redirect = e }) w.kept
    (λ y. main_range (main.Redirect1 s.hop code) (in_range_hop c a s.hop p.in_plan, r)))

hop_fetched : (c : ChannelPlan) → Accepted c → (s : ParentState) (o : Option Hop) → hop_at c s.hop ≡ o → Holds c s
    → Meets c s.hop s.piece (length (mains_sent s.journal)) (length (backs_sent s.journal)) 0 → Holds c (fetch_hop c s o)
hop_fetched c a s None e w p = w
hop_fetched c a s (Some (hop.Fail st)) e w p =
    let g : IsGoodHop (hop.Fail st) = good_hop c a s.hop (hop.Fail st) e in
    let n : Ended c (length (mains_sent s.journal) + 1) (length (backs_sent s.journal) + 0) =
    record { mains = omega (arith, p.mains, p.in_plan); backs = omega (arith, p.backs) } in
    moved c s.phase Done s.hop s.piece s.hop s.piece s.kept s.kept s.journal (entry.SentMain (main.FailedOpen s.hop st) ∷ []) w n w.kept
    (λ y. main_range (main.FailedOpen s.hop st) (in_range_hop c a s.hop p.in_plan, g))
hop_fetched c a s (Some (hop.Redirect code verdict)) e w p =
    let g : IsGoodHop (hop.Redirect code verdict) = good_hop c a s.hop (hop.Redirect code verdict) e in
    redirect_fetched c a s code s.kept refl g.0 (subst AsRedirect (sym e) tt) w p
hop_fetched c a s (Some (hop.Response head pieces end trailers)) e w p =
    started c a s s.kept head w (one_at c s.hop s.piece (length (mains_sent s.journal)) (length (backs_sent s.journal)) p)
    (omega (arith, p.mains, p.in_plan)) w.kept
    (λ y. (item_of HasGoodParts c.hops y s.hop (hop.Response head pieces end trailers) e).0)

-- A redirect is followed

followed : (c : ChannelPlan) → Accepted c → (s : ParentState) (o : Option Hop) → hop_at c s.hop ≡ o → Holds c s
    → Asks c s.hop s.piece (length (mains_sent s.journal)) (length (backs_sent s.journal)) → Holds c (complete_redirect s)
followed c a s None e w p = absurd (subst AsRedirect e p.redirect)
followed c a s (Some x) e w p =
    let q : Meets c s.hop s.piece (length (mains_sent s.journal)) (length (backs_sent s.journal)) 1 = p.meets in
    let l : suc s.hop < length c.hops = redirect_leads c a s.hop x e (subst AsRedirect e p.redirect) in
    let n : Meets c (suc s.hop) s.piece (length (mains_sent s.journal) + 1) (length (backs_sent s.journal) + 0) 0 =
    record { in_plan = l; mains = omega (arith, q.mains); backs = omega (arith, q.backs); first = q.first } in
    moved c s.phase Ready s.hop s.piece (suc s.hop) s.piece s.kept s.kept s.journal (entry.SentMain (main.Redirect3 s.hop) ∷ []) w n w.kept
    (λ y. main_range (main.Redirect3 s.hop) (in_range_hop c a s.hop q.in_plan))

follow_fetched : (c : ChannelPlan) → Accepted c → (s : ParentState) (q : Option Status) (o : Option Hop) → s.kept ≡ q → hop_at c s.hop ≡ o
    → Holds c s
    → Asks c s.hop s.piece (length (mains_sent s.journal)) (length (backs_sent s.journal)) → Holds c (fetch_follow c s q o)
follow_fetched c a s (Some q) (Some (hop.Redirect code verdict)) k e w p =
    let g : IsGoodHop (hop.Redirect code verdict) = good_hop c a s.hop (hop.Redirect code verdict) e in
    let m : Meets c s.hop s.piece (length (mains_sent s.journal)) (length (backs_sent s.journal)) 1 = p.meets in
    let l : suc s.hop < length c.hops = redirect_leads c a s.hop (hop.Redirect code verdict) e tt in
    started c a s (Some q) (bare_head code) w m (omega (arith, m.mains, l)) (subst IsKept k w.kept) (λ y. bare_good code g.0)
follow_fetched c a s (Some q) (Some (hop.Fail st)) k e w p = followed c a s (Some (hop.Fail st)) e w p
follow_fetched c a s (Some q) (Some (hop.Response head pieces end trailers)) k e w p =
    followed c a s (Some (hop.Response head pieces end trailers)) e w p
follow_fetched c a s (Some q) None k e w p = followed c a s None e w p
follow_fetched c a s None o k e w p = followed c a s o e w p

fetched : (c : ChannelPlan) → Accepted c → (s : ParentState) (p : Phase) → Holds c s
    → At c p s.hop s.piece (length (mains_sent s.journal)) (length (backs_sent s.journal))
    → Holds c (fetch_in c s p)
fetched c a s Closed w at = w
fetched c a s Asking w at = w
fetched c a s Done w at = w
fetched c a s Ready w at = hop_fetched c a s (hop_at c s.hop) refl w at
fetched c a s Follow w at = follow_fetched c a s s.kept (hop_at c s.hop) refl refl w at
fetched c a s Body w at = body_fetched c a s s.kept (hop_at c s.hop) refl refl w at

-- All steps

pub step_kept : (c : ChannelPlan) → Accepted c → (x : ParentStep) (s : ParentState) → Holds c s → Holds c (parent_step c x s)
step_kept c a (step.Up m) s w = up_taken c a s m w
step_kept c a step.Fetch s w = keeps_if (Holds c) s.suspended s (fetch_in c s s.phase) (λ r. w) (λ r. fetched c a s s.phase w w.place)

pub all_kept : (c : ChannelPlan) → Accepted c → (steps : List ParentStep) → Holds c (parent_after c steps)
all_kept c a [] =
    record { place = record { in_plan = a.some_hop; mains = omega arith; backs = refl; first = refl }; kept = tt; ranged = λ g. no_range }
all_kept c a (x ∷ xs) = step_kept c a x (parent_after c xs) (all_kept c a xs)

pub all_ended : (c : ChannelPlan) → Accepted c → (s : ParentState) → Holds c s
    → (length (mains_sent s.journal) < 2 * length c.hops) × (length (backs_sent s.journal) ≤ length (body_of c) + 2)
all_ended c a s w =
    let e : Ended c (length (mains_sent s.journal)) (length (backs_sent s.journal)) =
    at_ended c a s.phase s.hop s.piece (length (mains_sent s.journal)) (length (backs_sent s.journal)) w.place in
    (e.mains, e.backs)

pub all_ranged : (c : ChannelPlan) → AreGoodParts c → (s : ParentState) → Holds c s
    → All IsMainInRange (mains_sent s.journal) × All IsBackInRange (backs_sent s.journal)
all_ranged c g s w = let r : InRange (mains_sent s.journal) (backs_sent s.journal) = w.ranged g in (r.mains, r.backs)
