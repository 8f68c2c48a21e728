-- What a script's plans and steps are, as its lines come.
use Rattle.std.proofs.Common.{◌≡◌, ◌≤◌, ◌<◌, ◌+◌, ◌*◌, ℕ, true, false, Bool, ◌&&◌, nat_le, nat_lt, List, [], ◌∷◌, ◌++◌, length, All, Option, Some, None, refl, sym, ap, subst, arith, length-append, option_to_list}
use Rattle.std.specs.Option.{option_map, option_map_or}
use Rattle.std.proofs.lemmas.Bool.Decides.{nat_tests}
use Rattle.std.proofs.lemmas.List.Elements.{All-append, All-nil, All-cons, All-head, All-tail}
use Rattle.nk_base.specs.declared.field.Field.{Field}
use Rattle.nk_base.specs.Fields.{is_good_field}
use Rattle.nk_plan.specs.declared.plan.ChannelPlan.{ChannelPlan}
use Rattle.nk_plan.specs.declared.plan.Finish.{Finish}
use Rattle.nk_plan.specs.declared.plan.Finish.TheVariants as finish
use Rattle.nk_plan.specs.declared.plan.ListenerKind.{ListenerKind}
use Rattle.nk_plan.specs.declared.plan.ListenerKind.TheVariants as listener
use Rattle.nk_plan.specs.declared.plan.Reaction.{Reaction}
use Rattle.nk_plan.specs.declared.plan.Control.{Control}
use Rattle.nk_plan.specs.declared.plan.StartLane.{StartLane}
use Rattle.nk_plan.specs.declared.plan.StartLane.TheVariants as lane
use Rattle.nk_plan.specs.Accepted.{Accepted, IsRedirect, IsGoodHop, IsGoodListener, IsGoodReaction, IsGoodControl, IsGoodAct, IsGoodWindow, rounded_up}
use Rattle.nk_script.specs.declared.draft.Draft.{Draft}
use Rattle.nk_script.specs.declared.line.HopLine.{HopLine}
use Rattle.nk_script.specs.declared.line.HopLine.TheVariants as hop
use Rattle.nk_script.specs.declared.line.Line.{Line}
use Rattle.nk_script.specs.declared.line.Line.TheVariants as line
use Rattle.nk_script.specs.declared.line.Keyword.{Keyword}
use Rattle.nk_script.specs.declared.line.Keyword.TheVariants as key
use Rattle.nk_script.specs.declared.line.Place.{Place}
use Rattle.nk_script.specs.declared.line.Place.TheVariants as place
use Rattle.nk_script.specs.declared.reader.Reader.{Reader}
use Rattle.nk_script.specs.declared.script.ScheduleItem.{ScheduleItem}
use Rattle.nk_script.specs.declared.script.Script.{Script}
use Rattle.nk_script.specs.Responses.{ResponseParts}
use Rattle.nk_script.specs.Texts.{first_word, lines}
use Rattle.nk_script.specs.Order.{allows, behind, behind_reaction, may_end}
use Rattle.nk_script.specs.Draft.{plan_of, plans_of, IsPlan, IsComplete, EndsComplete, new_draft, new_response, start, after, is_within, is_listener_within, size_of, with_hop, with_response, response_count}
use Rattle.nk_script.specs.Grammar.{Stands, Ends, IsTextOf}
use Rattle.nk_script.specs.Answers.{IsPlayable, IsOfChannel, IsTaken}
use Rattle.nk_script.proofs.Keywords.{one_keyword}
use Rattle.nk_script.proofs.Ranged.{IsRanged, IsGoodEnd, IsGoodHopLine, IsListenerInRange, line_ranged, line_stands, keyword_of}
use Rattle.nk_script.proofs.Drafts.{IsOpening, IsResponding, IsWhole, IsCalled, all_more, options_accepted, response_whole, fail_whole, redirect_opening, response_responding, responding_with, one_more_piece, one_more_trailer}
use Rattle.nk_script.proofs.Reading.{count_after}
use Rattle.nk_script.proofs.Places.{IsAtBody, IsDraftAt, IsAtPlace, is_inside, complete_at, called_at, whole_at, open_at, reacted_at, from_listener, from_retargetable, from_window, from_start, from_channel, from_schedule, from_end, schedule_ends, no_draft}

-- THE PLANS SO FAR

-- the body bytes of the channel that is not complete
abbrev size_in : Option Draft → ℕ
size_in o = option_map_or (response_count (λ s. s.size)) o 0

plans_accepted : (p : Place) (plans : List ChannelPlan) (o : Option Draft) → All Accepted plans → IsAtPlace p plans o → size_in o ≤ 67108864 → is_inside p ≡ false → All Accepted (plans ++ option_to_list (option_map plan_of o))
plans_accepted p plans None all i small h = All-append Accepted plans [] all (All-nil Accepted)
plans_accepted p plans (Some d) all i small h = all_more Accepted plans (plan_of d) all (complete_at p d i small h)

some_plans : (p : Place) (plans : List ChannelPlan) (o : Option Draft) → IsAtPlace p plans o → may_end p ≡ true → 0 < length (plans ++ option_to_list (option_map plan_of o))
some_plans p plans (Some d) i h = omega (arith, length-append plans (plan_of d ∷ []))
some_plans place.Steps plans None i h = omega (arith, length-append plans [])
some_plans place.Start plans None i h = absurd (cc)
some_plans place.Channels plans None i h = absurd (cc)
some_plans place.Hop plans None i h = absurd i
some_plans place.Fields plans None i h = absurd i
some_plans place.Pieces plans None i h = absurd i
some_plans place.Trailers plans None i h = absurd i
some_plans place.Listener plans None i h = absurd i
some_plans place.Retargetable plans None i h = absurd i
some_plans place.Window plans None i h = absurd i
some_plans place.StartLane plans None i h = absurd i
some_plans place.Closed plans None i h = absurd i
some_plans place.Reactions plans None i h = absurd i
some_plans place.ClosedReactions plans None i h = absurd i
some_plans place.Controls plans None i h = absurd i

no_fewer : (plans : List ChannelPlan) (o : Option Draft) → length plans ≤ length (plans ++ option_to_list (option_map plan_of o))
no_fewer plans o = omega (arith, length-append plans (option_to_list (option_map plan_of o)))

-- a step of one of so many channels is one of more
of_more : (n m : ℕ) (items : List ScheduleItem) → n ≤ m → All (IsOfChannel n) items → All (IsOfChannel m) items
of_more n m [] h all = All-nil (IsOfChannel m)
of_more n m (item ∷ items) h all =
    let first = All-head (IsOfChannel n) item items all in
    All-cons (IsOfChannel m) item items (first.0, omega (arith, first.1, h)) (of_more n m items h (All-tail (IsOfChannel n) item items all))

-- THE OPTIONS

le_of : (n m : ℕ) → nat_le n m ≡ true → n ≤ m
le_of n m h = grind (arith, nat_tests)

lt_of : (n m : ℕ) → nat_lt n m ≡ true → n < m
lt_of n m h = grind (arith, nat_tests)

tests_both : (a b : Bool) → (a && b) ≡ true → (a ≡ true) × (b ≡ true)
tests_both true b h = (refl, h)
tests_both false b h = absurd (cc)

good_listener : (r : Reader) (kind : ListenerKind) → IsListenerInRange kind → is_listener_within r kind ≡ true → IsGoodListener kind (size_of r)
good_listener r listener.Plain is within = tt
good_listener r (listener.Pipe segment limit readers) is within =
    let t = tests_both (nat_le (rounded_up (readers * size_of r) segment) 1000000) (nat_le (r.read + readers * size_of r) 134217728) within in
    record {
      segment_least = is.0;
      segment_most = is.1;
      limit_least = is.2;
      limit_most = is.3;
      readers_least = is.4;
      readers_most = is.5;
      segments_read = le_of (rounded_up (readers * size_of r) segment) 1000000 t.0;
      bytes_read = omega (arith, le_of (r.read + readers * size_of r) 134217728 t.1);
    }

with_listener : (d : Draft) (kind : ListenerKind) → IsCalled d → IsGoodListener kind (response_count (λ s. s.size) d) → IsCalled (record d { listener = kind })
with_listener d kind is good = record {
  whole = record {
    accepted = let a = is.whole.accepted in options_accepted (plan_of d) kind d.retargetable d.reactions d.controls d.window d.closed d.start a (subst (IsGoodListener kind) is.whole.size good) a.few_reactions a.reactions a.few_controls a.controls a.window;
    size = is.whole.size;
  };
  controls = is.controls;
  opened = is.opened;
}

with_retargetable : (d : Draft) (own : Bool) → IsCalled d → IsCalled (record d { retargetable = own })
with_retargetable d own is = record {
  whole = record {
    accepted = let a = is.whole.accepted in options_accepted (plan_of d) d.listener own d.reactions d.controls d.window d.closed d.start a a.listener a.few_reactions a.reactions a.few_controls a.controls a.window;
    size = is.whole.size;
  };
  controls = is.controls;
  opened = is.opened;
}

with_window : (d : Draft) (n : ℕ) → IsCalled d → IsGoodWindow n → IsCalled (record d { window = n })
with_window d n is good = record {
  whole = record {
    accepted = let a = is.whole.accepted in options_accepted (plan_of d) d.listener d.retargetable d.reactions d.controls n d.closed d.start a a.listener a.few_reactions a.reactions a.few_controls a.controls good;
    size = is.whole.size;
  };
  controls = is.controls;
  opened = is.opened;
}

with_start : (d : Draft) (lane : StartLane) → IsCalled d → IsCalled (record d { start = lane })
with_start d lane is = record {
  whole = record {
    accepted = let a = is.whole.accepted in options_accepted (plan_of d) d.listener d.retargetable d.reactions d.controls d.window d.closed lane a a.listener a.few_reactions a.reactions a.few_controls a.controls a.window;
    size = is.whole.size;
  };
  controls = is.controls;
  opened = is.opened;
}

with_closed : (d : Draft) → IsCalled d → IsWhole (record d { closed = true })
with_closed d is = record {
  accepted = let a = is.whole.accepted in options_accepted (plan_of d) d.listener d.retargetable d.reactions d.controls d.window true d.start a a.listener a.few_reactions a.reactions a.few_controls (subst (All (IsGoodControl true)) (sym is.controls) (All-nil (IsGoodControl true))) a.window;
  size = is.whole.size;
}

with_reaction : (d : Draft) (r : Reaction) → IsWhole d → IsGoodReaction r → length d.reactions < 64 → IsWhole (record d { reactions = d.reactions ++ r ∷ [] })
with_reaction d r is good room = record {
  accepted = let a = is.accepted in options_accepted (plan_of d) d.listener d.retargetable (d.reactions ++ r ∷ []) d.controls d.window d.closed d.start a a.listener (omega (arith, length-append d.reactions (r ∷ []), room)) (all_more IsGoodReaction d.reactions r a.reactions good) a.few_controls a.controls a.window;
  size = is.size;
}

with_control : (d : Draft) (c : Control) → IsWhole d × (d.closed ≡ false) → (c.after ≤ 100000) × IsGoodAct c.act → length d.controls < 64 → IsWhole (record d { controls = d.controls ++ c ∷ [] })
with_control d c (is, opened) good room = record {
  accepted = let a = is.accepted in options_accepted (plan_of d) d.listener d.retargetable d.reactions (d.controls ++ c ∷ []) d.window d.closed d.start a a.listener a.few_reactions a.reactions (omega (arith, length-append d.controls (c ∷ []), room)) (all_more (IsGoodControl d.closed) d.controls c a.controls (record { opened = opened; after = good.0; act = good.1 })) a.window;
  size = is.size;
}

-- WHAT WAS READ

pub record IsSoFar (r : Reader) : Type 0 where
  pub plans : All Accepted r.plans
  pub here : IsAtPlace r.place r.plans r.draft
  pub size : size_in r.draft ≤ r.bytes
  pub bytes : r.bytes ≤ 67108864
  pub schedule : All (IsOfChannel (length r.plans)) r.schedule

small_in : (r : Reader) → IsSoFar r → size_in r.draft ≤ 67108864
small_in r is = omega (arith, is.size, is.bytes)

-- where one line adds to the channel that is not complete
added : (r : Reader) (p : Place) (f : Draft → Draft) → IsSoFar r → IsAtPlace p r.plans (option_map f r.draft) → size_in (option_map f r.draft) ≤ r.bytes → IsSoFar (record r { place = p; draft = option_map f r.draft })
added r p f is here size = record { plans = is.plans; here = here; size = size; bytes = is.bytes; schedule = is.schedule }

same_size : (o : Option Draft) (f : Draft → Draft) → ((d : Draft) → response_count (λ s. s.size) (f d) ≡ response_count (λ s. s.size) d) → size_in (option_map f o) ≡ size_in o
same_size None f e = refl
same_size (Some d) f e = e d

same_in_response : (o : Option ResponseParts) (f : ResponseParts → ResponseParts) → ((p : ResponseParts) → (f p).size ≡ p.size) → option_map_or (λ (s : ResponseParts). s.size) (option_map f o) 0 ≡ option_map_or (λ (s : ResponseParts). s.size) o 0
same_in_response None f e = refl
same_in_response (Some p) f e = e p

-- A LINE EACH

-- whether one more such hop may come
abbrev is_room : HopLine → ℕ → Bool
is_room (hop.Fail s) n = true
is_room (hop.Redirect code own) n = nat_lt n 31
is_room (hop.Response code) n = true

hop_opening : (d : Draft) (h : HopLine) (plans : List ChannelPlan) → IsOpening d → IsGoodHopLine h → is_room h (length d.hops) ≡ true → IsAtPlace (behind place.Hop (line.Hop h)) plans (Some (with_hop h d))
hop_opening d (hop.Fail s) plans i good room = fail_whole d s i good
hop_opening d (hop.Redirect code own) plans i good room = redirect_opening d code own i good (lt_of (length d.hops) 31 room)
hop_opening d (hop.Response code) plans i good room = (new_response code, response_responding d code i, refl)

hop_at : (p : Place) (plans : List ChannelPlan) (o : Option Draft) (l : HopLine) → IsAtPlace p plans o → allows p key.Hop ≡ true → IsGoodHopLine l → is_room l (option_map_or (λ (d : Draft). length d.hops) o 0) ≡ true → IsAtPlace (behind p (line.Hop l)) plans (option_map (with_hop l) o)
hop_at p plans None l i h good room = absurd (no_draft p plans key.Hop refl refl refl h i)
hop_at place.Start plans (Some d) l i h good room = absurd (cc)
hop_at place.Channels plans (Some d) l i h good room = absurd (cc)
hop_at place.Hop plans (Some d) l i h good room = hop_opening d l plans i good room
hop_at place.Fields plans (Some d) l i h good room = absurd (cc)
hop_at place.Pieces plans (Some d) l i h good room = absurd (cc)
hop_at place.Trailers plans (Some d) l i h good room = absurd (cc)
hop_at place.Listener plans (Some d) l i h good room = absurd (cc)
hop_at place.Retargetable plans (Some d) l i h good room = absurd (cc)
hop_at place.Window plans (Some d) l i h good room = absurd (cc)
hop_at place.StartLane plans (Some d) l i h good room = absurd (cc)
hop_at place.Closed plans (Some d) l i h good room = absurd (cc)
hop_at place.Reactions plans (Some d) l i h good room = absurd (cc)
hop_at place.ClosedReactions plans (Some d) l i h good room = absurd (cc)
hop_at place.Controls plans (Some d) l i h good room = absurd (cc)
hop_at place.Steps plans (Some d) l i h good room = absurd (cc)

abbrev add_field : Field → Draft → Draft
add_field f d = with_response (λ s. record s { fields = s.fields ++ f ∷ [] }) d

field_at : (p : Place) (plans : List ChannelPlan) (o : Option Draft) (f : Field) → IsAtPlace p plans o → allows p key.Field ≡ true → IsAtPlace place.Fields plans (option_map (add_field f) o)
field_at p plans None f i h = absurd (no_draft p plans key.Field refl refl refl h i)
field_at place.Start plans (Some d) f i h = absurd (cc)
field_at place.Channels plans (Some d) f i h = absurd (cc)
field_at place.Hop plans (Some d) f i h = absurd (cc)
field_at place.Fields plans (Some d) f i h = (record i.0 { fields = i.0.fields ++ f ∷ [] }, responding_with d i.0 _ (λ s. record s { fields = s.fields ++ f ∷ [] }) i.1 refl i.1.finish i.1.few_pieces i.1.size i.1.few_trailers i.1.trailers, i.2)
field_at place.Pieces plans (Some d) f i h = absurd (cc)
field_at place.Trailers plans (Some d) f i h = absurd (cc)
field_at place.Listener plans (Some d) f i h = absurd (cc)
field_at place.Retargetable plans (Some d) f i h = absurd (cc)
field_at place.Window plans (Some d) f i h = absurd (cc)
field_at place.StartLane plans (Some d) f i h = absurd (cc)
field_at place.Closed plans (Some d) f i h = absurd (cc)
field_at place.Reactions plans (Some d) f i h = absurd (cc)
field_at place.ClosedReactions plans (Some d) f i h = absurd (cc)
field_at place.Controls plans (Some d) f i h = absurd (cc)
field_at place.Steps plans (Some d) f i h = absurd (cc)

abbrev add_piece : List ℕ → Draft → Draft
add_piece bytes d = with_response (λ s. record s { pieces = s.pieces ++ bytes ∷ []; size = s.size + length bytes }) d

abbrev count_in : (ResponseParts → ℕ) → Option Draft → ℕ
count_in f o = option_map_or (response_count f) o 0

count_of : (f : ResponseParts → ℕ) (d : Draft) (p : ResponseParts) → d.response ≡ Some p → response_count f d ≡ f p
count_of f d p e = ap (λ (o : Option ResponseParts). option_map_or f o 0) e

piece_responding : (d : Draft) (bytes : List ℕ) → IsAtBody d → response_count (λ s. length s.pieces) d < 65536 → IsAtBody (add_piece bytes d)
piece_responding d bytes (p, is, none) room =
    let q : ResponseParts = record p { pieces = p.pieces ++ bytes ∷ []; size = p.size + length bytes } in
    let few : length p.pieces < 65536 = subst (λ (n : ℕ). n < 65536) (count_of (λ s. length s.pieces) d p is.response) room in (
      q,
      responding_with d p q (λ s. record s { pieces = s.pieces ++ bytes ∷ []; size = s.size + length bytes }) is refl is.finish (omega (arith, length-append p.pieces (bytes ∷ []), few)) (one_more_piece p.pieces bytes p.size is.size) is.few_trailers is.trailers,
      none,
    )

piece_at : (p : Place) (plans : List ChannelPlan) (o : Option Draft) (bytes : List ℕ) → IsAtPlace p plans o → allows p key.Piece ≡ true → count_in (λ s. length s.pieces) o < 65536 → IsAtPlace place.Pieces plans (option_map (add_piece bytes) o)
piece_at p plans None bytes i h room = absurd (no_draft p plans key.Piece refl refl refl h i)
piece_at place.Start plans (Some d) bytes i h room = absurd (cc)
piece_at place.Channels plans (Some d) bytes i h room = absurd (cc)
piece_at place.Hop plans (Some d) bytes i h room = absurd (cc)
piece_at place.Fields plans (Some d) bytes i h room = piece_responding d bytes i room
piece_at place.Pieces plans (Some d) bytes i h room = piece_responding d bytes i room
piece_at place.Trailers plans (Some d) bytes i h room = absurd (cc)
piece_at place.Listener plans (Some d) bytes i h room = absurd (cc)
piece_at place.Retargetable plans (Some d) bytes i h room = absurd (cc)
piece_at place.Window plans (Some d) bytes i h room = absurd (cc)
piece_at place.StartLane plans (Some d) bytes i h room = absurd (cc)
piece_at place.Closed plans (Some d) bytes i h room = absurd (cc)
piece_at place.Reactions plans (Some d) bytes i h room = absurd (cc)
piece_at place.ClosedReactions plans (Some d) bytes i h room = absurd (cc)
piece_at place.Controls plans (Some d) bytes i h room = absurd (cc)
piece_at place.Steps plans (Some d) bytes i h room = absurd (cc)

abbrev set_finish : Finish → Draft → Draft
set_finish f d = with_response (λ s. record s { finish = f }) d

finish_responding : (p : Place) (d : Draft) (f : Finish) (plans : List ChannelPlan) → IsAtBody d → response_count (λ s. s.size) d ≤ 67108864 → IsGoodEnd f → IsDraftAt (behind p (line.End f)) (set_finish f d)
finish_responding at d finish.Good plans (p, is, none) small good =
    (record p { finish = finish.Good }, responding_with d p _ (λ s. record s { finish = finish.Good }) is refl refl is.few_pieces is.size is.few_trailers is.trailers)
finish_responding at d (finish.Fail s) plans (p, is, none) small good =
    response_whole (set_finish (finish.Fail s) d) (record p { finish = finish.Fail s })
    (record { listener = is.bare.listener; reactions = is.bare.reactions; controls = is.bare.controls; window = is.bare.window; closed = is.bare.closed })
    is.leads (ap (option_map (λ (t : ResponseParts). record t { finish = finish.Fail s })) is.response) (good, none) is.few_pieces is.size
    (subst (λ (n : ℕ). n ≤ 67108864) (count_of (λ t. t.size) d p is.response) small) is.few_trailers is.trailers

end_at : (p : Place) (plans : List ChannelPlan) (o : Option Draft) (f : Finish) → IsAtPlace p plans o → allows p key.End ≡ true → size_in o ≤ 67108864 → IsGoodEnd f → IsAtPlace (behind p (line.End f)) plans (option_map (set_finish f) o)
end_at p plans None f i h small good = absurd (no_draft p plans key.End refl refl refl h i)
end_at place.Start plans (Some d) f i h small good = absurd (cc)
end_at place.Channels plans (Some d) f i h small good = absurd (cc)
end_at place.Hop plans (Some d) f i h small good = absurd (cc)
end_at place.Fields plans (Some d) f i h small good = finish_responding place.Fields d f plans i small good
end_at place.Pieces plans (Some d) f i h small good = finish_responding place.Pieces d f plans i small good
end_at place.Trailers plans (Some d) f i h small good = absurd (cc)
end_at place.Listener plans (Some d) f i h small good = absurd (cc)
end_at place.Retargetable plans (Some d) f i h small good = absurd (cc)
end_at place.Window plans (Some d) f i h small good = absurd (cc)
end_at place.StartLane plans (Some d) f i h small good = absurd (cc)
end_at place.Closed plans (Some d) f i h small good = absurd (cc)
end_at place.Reactions plans (Some d) f i h small good = absurd (cc)
end_at place.ClosedReactions plans (Some d) f i h small good = absurd (cc)
end_at place.Controls plans (Some d) f i h small good = absurd (cc)
end_at place.Steps plans (Some d) f i h small good = absurd (cc)

abbrev add_trailer : Field → Draft → Draft
add_trailer f d = with_response (λ s. record s { trailers = s.trailers ++ f ∷ [] }) d

trailer_responding : (d : Draft) (f : Field) (p : ResponseParts) → IsResponding d p → response_count (λ s. length s.trailers) d < 64 → is_good_field f ≡ true → (q : ResponseParts) × IsResponding (add_trailer f d) q
trailer_responding d f p is room good =
    let few : length p.trailers < 64 = subst (λ (n : ℕ). n < 64) (count_of (λ s. length s.trailers) d p is.response) room in
    (record p { trailers = p.trailers ++ f ∷ [] }, responding_with d p _ (λ s. record s { trailers = s.trailers ++ f ∷ [] }) is refl is.finish is.few_pieces is.size (omega (arith, length-append p.trailers (f ∷ []), few)) (one_more_trailer p.trailers f is.trailers good))

trailer_at : (p : Place) (plans : List ChannelPlan) (o : Option Draft) (f : Field) → IsAtPlace p plans o → allows p key.Trailer ≡ true → count_in (λ s. length s.trailers) o < 64 → is_good_field f ≡ true → IsAtPlace place.Trailers plans (option_map (add_trailer f) o)
trailer_at p plans None f i h room good = absurd (no_draft p plans key.Trailer refl refl refl h i)
trailer_at place.Start plans (Some d) f i h room good = absurd (cc)
trailer_at place.Channels plans (Some d) f i h room good = absurd (cc)
trailer_at place.Hop plans (Some d) f i h room good = absurd (cc)
trailer_at place.Fields plans (Some d) f i h room good = absurd (cc)
trailer_at place.Pieces plans (Some d) f i h room good = absurd (cc)
trailer_at place.Trailers plans (Some d) f i h room good = trailer_responding d f i.0 i.1 room good
trailer_at place.Listener plans (Some d) f i h room good = absurd (cc)
trailer_at place.Retargetable plans (Some d) f i h room good = absurd (cc)
trailer_at place.Window plans (Some d) f i h room good = absurd (cc)
trailer_at place.StartLane plans (Some d) f i h room good = absurd (cc)
trailer_at place.Closed plans (Some d) f i h room good = absurd (cc)
trailer_at place.Reactions plans (Some d) f i h room good = absurd (cc)
trailer_at place.ClosedReactions plans (Some d) f i h room good = absurd (cc)
trailer_at place.Controls plans (Some d) f i h room good = absurd (cc)
trailer_at place.Steps plans (Some d) f i h room good = absurd (cc)

listener_at : (p : Place) (plans : List ChannelPlan) (o : Option Draft) (kind : ListenerKind) → IsAtPlace p plans o → allows p key.Listener ≡ true → size_in o ≤ 67108864 → IsGoodListener kind (size_in o) → IsAtPlace place.Retargetable plans (option_map (λ (d : Draft). record d { listener = kind }) o)
listener_at p plans None kind i h small good = absurd (no_draft p plans key.Listener refl refl refl h i)
listener_at p plans (Some d) kind i h small good = with_listener d kind (called_at p d i small (from_listener p h)) good

retargetable_at : (p : Place) (plans : List ChannelPlan) (o : Option Draft) → IsAtPlace p plans o → allows p key.Retargetable ≡ true → size_in o ≤ 67108864 → IsAtPlace place.Window plans (option_map (λ (d : Draft). record d { retargetable = false }) o)
retargetable_at p plans None i h small = absurd (no_draft p plans key.Retargetable refl refl refl h i)
retargetable_at p plans (Some d) i h small = with_retargetable d false (called_at p d i small (from_retargetable p h))

window_at : (p : Place) (plans : List ChannelPlan) (o : Option Draft) (n : ℕ) → IsAtPlace p plans o → allows p key.Window ≡ true → size_in o ≤ 67108864 → IsGoodWindow n → IsAtPlace place.StartLane plans (option_map (λ (d : Draft). record d { window = n }) o)
window_at p plans None n i h small good = absurd (no_draft p plans key.Window refl refl refl h i)
window_at p plans (Some d) n i h small good = with_window d n (called_at p d i small (from_window p h)) good

start_at : (p : Place) (plans : List ChannelPlan) (o : Option Draft) → IsAtPlace p plans o → allows p key.Start ≡ true → size_in o ≤ 67108864 → IsAtPlace place.Closed plans (option_map (λ (d : Draft). record d { start = lane.Back }) o)
start_at p plans None i h small = absurd (no_draft p plans key.Start refl refl refl h i)
start_at p plans (Some d) i h small = with_start d lane.Back (called_at p d i small (from_start p h))

closed_at : (p : Place) (plans : List ChannelPlan) (o : Option Draft) → IsAtPlace p plans o → allows p key.Closed ≡ true → size_in o ≤ 67108864 → IsAtPlace place.ClosedReactions plans (option_map (λ (d : Draft). record d { closed = true }) o)
closed_at p plans None i h small = absurd (no_draft p plans key.Closed refl refl refl h i)
closed_at p plans (Some d) i h small = with_closed d (called_at p d i small h)

abbrev calls_in : (Draft → ℕ) → Option Draft → ℕ
calls_in f o = option_map_or f o 0

reaction_at : (p : Place) (plans : List ChannelPlan) (o : Option Draft) (r : Reaction) → IsAtPlace p plans o → allows p key.At ≡ true → size_in o ≤ 67108864 → IsGoodReaction r → calls_in (λ d. length d.reactions) o < 64 → IsAtPlace (behind p (line.Reaction r)) plans (option_map (λ (d : Draft). record d { reactions = d.reactions ++ r ∷ [] }) o)
reaction_at p plans None r i h small good room = absurd (no_draft p plans key.At refl refl refl h i)
reaction_at p plans (Some d) r i h small good room = reacted_at p d (record d { reactions = d.reactions ++ r ∷ [] }) i small h (with_reaction d r (whole_at p d i small h) good room) refl

control_at : (p : Place) (plans : List ChannelPlan) (o : Option Draft) (c : Control) → IsAtPlace p plans o → allows p key.When ≡ true → size_in o ≤ 67108864 → (c.after ≤ 100000) × IsGoodAct c.act → calls_in (λ d. length d.controls) o < 64 → IsAtPlace place.Controls plans (option_map (λ (d : Draft). record d { controls = d.controls ++ c ∷ [] }) o)
control_at p plans None c i h small good room = absurd (no_draft p plans key.When refl refl refl h i)
control_at p plans (Some d) c i h small good room = let k = open_at p d i small h in (with_control d c k good room, k.1)

script_at : (p : Place) (plans : List ChannelPlan) (o : Option Draft) → IsAtPlace p plans o → allows p key.Script ≡ true → IsAtPlace place.Channels plans o
script_at p plans None i h = tt
script_at place.Start plans (Some d) i h = absurd i
script_at place.Channels plans (Some d) i h = absurd (cc)
script_at place.Hop plans (Some d) i h = absurd (cc)
script_at place.Fields plans (Some d) i h = absurd (cc)
script_at place.Pieces plans (Some d) i h = absurd (cc)
script_at place.Trailers plans (Some d) i h = absurd (cc)
script_at place.Listener plans (Some d) i h = absurd (cc)
script_at place.Retargetable plans (Some d) i h = absurd (cc)
script_at place.Window plans (Some d) i h = absurd (cc)
script_at place.StartLane plans (Some d) i h = absurd (cc)
script_at place.Closed plans (Some d) i h = absurd (cc)
script_at place.Reactions plans (Some d) i h = absurd (cc)
script_at place.ClosedReactions plans (Some d) i h = absurd (cc)
script_at place.Controls plans (Some d) i h = absurd (cc)
script_at place.Steps plans (Some d) i h = absurd (cc)

step_at : (p : Place) (plans : List ChannelPlan) (o : Option Draft) → IsAtPlace p plans o → allows p key.Number ≡ true → IsAtPlace place.Steps plans o
step_at place.Start plans o i h = absurd (cc)
step_at place.Channels plans o i h = absurd (cc)
step_at place.Hop plans o i h = absurd (cc)
step_at place.Fields plans o i h = absurd (cc)
step_at place.Pieces plans o i h = absurd (cc)
step_at place.Trailers plans o i h = absurd (cc)
step_at place.Listener plans o i h = absurd (cc)
step_at place.Retargetable plans o i h = absurd (cc)
step_at place.Window plans o i h = absurd (cc)
step_at place.StartLane plans o i h = absurd (cc)
step_at place.Closed plans o i h = absurd (cc)
step_at place.Reactions plans o i h = absurd (cc)
step_at place.ClosedReactions plans o i h = absurd (cc)
step_at place.Controls plans o i h = absurd (cc)
step_at place.Steps plans o i h = i

hop_size : (h : HopLine) (o : Option Draft) → size_in (option_map (with_hop h) o) ≤ size_in o
hop_size h None = omega arith
hop_size (hop.Fail s) (Some d) = omega arith
hop_size (hop.Redirect code own) (Some d) = omega arith
hop_size (hop.Response code) (Some d) = omega arith

piece_size_in : (bytes : List ℕ) (o : Option ResponseParts) → option_map_or (λ (s : ResponseParts). s.size) (option_map (λ (s : ResponseParts). record s { pieces = s.pieces ++ bytes ∷ []; size = s.size + length bytes }) o) 0 ≤ option_map_or (λ (s : ResponseParts). s.size) o 0 + length bytes
piece_size_in bytes None = omega arith
piece_size_in bytes (Some p) = omega arith

piece_size : (bytes : List ℕ) (o : Option Draft) → size_in (option_map (add_piece bytes) o) ≤ size_in o + length bytes
piece_size bytes None = omega arith
piece_size bytes (Some d) = piece_size_in bytes d.response

hop_room : (h : HopLine) (r : Reader) → is_within r (line.Hop h) ≡ true → is_room h (option_map_or (λ (d : Draft). length d.hops) r.draft 0) ≡ true
hop_room (hop.Fail s) r w = refl
hop_room (hop.Redirect code own) r w = w
hop_room (hop.Response code) r w = refl

new_opening : IsOpening new_draft
new_opening = record {
  bare = record { listener = refl; reactions = refl; controls = refl; window = refl; closed = refl };
  leads = record { redirects = All-nil IsRedirect; good = All-nil IsGoodHop; few = omega arith };
  response = refl;
}

-- one more line
so_far_after : (r : Reader) (l : Line) → IsSoFar r → allows r.place (keyword_of l) ≡ true → IsRanged (length r.plans) l → is_within r l ≡ true → IsSoFar (after r l)
so_far_after r line.Script is h good w = record { plans = is.plans; here = script_at r.place r.plans r.draft is.here h; size = is.size; bytes = is.bytes; schedule = is.schedule }
so_far_after r line.Channel is h good w = record {
  plans = plans_accepted r.place r.plans r.draft is.plans is.here (small_in r is) (from_channel r.place h);
  here = new_opening;
  size = omega arith;
  bytes = is.bytes;
  schedule = of_more (length r.plans) (length (plans_of r)) r.schedule (no_fewer r.plans r.draft) is.schedule;
}
so_far_after r (line.Hop l) is h good w = added r (behind r.place (line.Hop l)) (with_hop l) is (hop_at r.place r.plans r.draft l is.here h good (hop_room l r w)) (omega (arith, hop_size l r.draft, is.size))
so_far_after r (line.Field f) is h good w = added r place.Fields (add_field f) is (field_at r.place r.plans r.draft f is.here h) (subst (λ (n : ℕ). n ≤ r.bytes) (sym (same_size r.draft (add_field f) (λ d. same_in_response d.response _ (λ p. refl)))) is.size)
so_far_after r (line.Piece bytes) is h good w =
    let all = tests_both _ (nat_le (r.bytes + length bytes) 67108864) w in
    let some = tests_both (nat_lt (count_in (λ s. length s.pieces) r.draft) 65536) (nat_lt r.pieces 262144) all.0 in
    record {
      plans = is.plans;
      here = piece_at r.place r.plans r.draft bytes is.here h (lt_of (count_in (λ s. length s.pieces) r.draft) 65536 some.0);
      size = omega (arith, piece_size bytes r.draft, is.size);
      bytes = le_of (r.bytes + length bytes) 67108864 all.1;
      schedule = is.schedule;
    }
so_far_after r (line.End f) is h good w = added r (behind r.place (line.End f)) (set_finish f) is (end_at r.place r.plans r.draft f is.here h (small_in r is) good) (subst (λ (n : ℕ). n ≤ r.bytes) (sym (same_size r.draft (set_finish f) (λ d. same_in_response d.response _ (λ p. refl)))) is.size)
so_far_after r (line.Trailer f) is h good w = added r place.Trailers (add_trailer f) is (trailer_at r.place r.plans r.draft f is.here h (lt_of (count_in (λ s. length s.trailers) r.draft) 64 w) good) (subst (λ (n : ℕ). n ≤ r.bytes) (sym (same_size r.draft (add_trailer f) (λ d. same_in_response d.response _ (λ p. refl)))) is.size)
so_far_after r (line.Listener kind) is h good w =
    let i = listener_at r.place r.plans r.draft kind is.here h (small_in r is) (good_listener r kind good w) in
    record { plans = is.plans; here = i; size = subst (λ (n : ℕ). n ≤ r.bytes) (sym (same_size r.draft (λ d. record d { listener = kind }) (λ d. refl))) is.size; bytes = is.bytes; schedule = is.schedule }
so_far_after r line.NotRetargetable is h good w = added r place.Window (λ d. record d { retargetable = false }) is (retargetable_at r.place r.plans r.draft is.here h (small_in r is)) (subst (λ (n : ℕ). n ≤ r.bytes) (sym (same_size r.draft (λ d. record d { retargetable = false }) (λ d. refl))) is.size)
so_far_after r (line.Window n) is h good w = added r place.StartLane (λ d. record d { window = n }) is (window_at r.place r.plans r.draft n is.here h (small_in r is) good) (subst (λ (n : ℕ). n ≤ r.bytes) (sym (same_size r.draft (λ d. record d { window = n }) (λ d. refl))) is.size)
so_far_after r line.StartBack is h good w = added r place.Closed (λ d. record d { start = lane.Back }) is (start_at r.place r.plans r.draft is.here h (small_in r is)) (subst (λ (n : ℕ). n ≤ r.bytes) (sym (same_size r.draft (λ d. record d { start = lane.Back }) (λ d. refl))) is.size)
so_far_after r line.Closed is h good w = added r place.ClosedReactions (λ d. record d { closed = true }) is (closed_at r.place r.plans r.draft is.here h (small_in r is)) (subst (λ (n : ℕ). n ≤ r.bytes) (sym (same_size r.draft (λ d. record d { closed = true }) (λ d. refl))) is.size)
so_far_after r (line.Reaction a) is h good w = added r (behind_reaction r.place) (λ d. record d { reactions = d.reactions ++ a ∷ [] }) is (reaction_at r.place r.plans r.draft a is.here h (small_in r is) good (lt_of (calls_in (λ d. length d.reactions) r.draft) 64 w)) (subst (λ (n : ℕ). n ≤ r.bytes) (sym (same_size r.draft (λ d. record d { reactions = d.reactions ++ a ∷ [] }) (λ d. refl))) is.size)
so_far_after r (line.Control c) is h good w = added r place.Controls (λ d. record d { controls = d.controls ++ c ∷ [] }) is (control_at r.place r.plans r.draft c is.here h (small_in r is) good (lt_of (calls_in (λ d. length d.controls) r.draft) 64 w)) (subst (λ (n : ℕ). n ≤ r.bytes) (sym (same_size r.draft (λ d. record d { controls = d.controls ++ c ∷ [] }) (λ d. refl))) is.size)
so_far_after r line.Schedule is h good w = record {
  plans = plans_accepted r.place r.plans r.draft is.plans is.here (small_in r is) (from_schedule r.place h);
  here = some_plans r.place r.plans r.draft is.here (schedule_ends r.place h);
  size = omega arith;
  bytes = is.bytes;
  schedule = of_more (length r.plans) (length (plans_of r)) r.schedule (no_fewer r.plans r.draft) is.schedule;
}
so_far_after r (line.Step item) is h good w = record {
  plans = is.plans;
  here = step_at r.place r.plans r.draft is.here h;
  size = is.size;
  bytes = is.bytes;
  schedule = all_more (IsOfChannel (length r.plans)) r.schedule item is.schedule good;
}

-- a line that stands
stands_allowed : (r : Reader) (text : List ℕ) (l : Line) → Stands r text l → allows r.place (keyword_of l) ≡ true
stands_allowed r text l is =
    let same = one_keyword (first_word text) is.expected.0 is.form.keyword is.expected.1 is.form.begins in
    line_stands is.form.keyword (length r.plans) text l r.place is.form.form (subst (λ (k : Keyword). allows r.place k ≡ true) same is.expected.2)

so_far_stands : (r : Reader) (text : List ℕ) (l : Line) → IsSoFar r → Stands r text l → IsSoFar (after r l)
so_far_stands r text l is stands =
    so_far_after r l is (stands_allowed r text l stands) (line_ranged stands.form.keyword (length r.plans) text l stands.form.form) stands.within

pub so_far_taken : (r new : Reader) (text : List ℕ) → IsSoFar r → IsTaken r text new → IsSoFar new
so_far_taken r new text is taken = subst IsSoFar (sym taken.taken) (so_far_stands r text taken.line is taken.stands)

pub so_far_start : IsSoFar start
so_far_start = record { plans = All-nil Accepted; here = tt; size = omega arith; bytes = omega arith; schedule = All-nil (IsOfChannel 0) }

-- where a channel may end, it has come as far as a plan

plan_at : (p : Place) (plans : List ChannelPlan) (o : Option Draft) → IsAtPlace p plans o → size_in o ≤ 67108864 → is_inside p ≡ false → IsPlan o
plan_at p plans None i small h = tt
plan_at p plans (Some d) i small h = complete_at p d i small h

pub end_complete : (r : Reader) → IsSoFar r → may_end r.place ≡ true → IsComplete r
end_complete r is end = plan_at r.place r.plans r.draft is.here (small_in r is) (from_end r.place end)

ends_complete : (r : Reader) (l : Line) → IsSoFar r → allows r.place (keyword_of l) ≡ true → EndsComplete r l
ends_complete r line.Script is h = tt
ends_complete r line.Channel is h = plan_at r.place r.plans r.draft is.here (small_in r is) (from_channel r.place h)
ends_complete r (line.Hop hop) is h = tt
ends_complete r (line.Field f) is h = tt
ends_complete r (line.Piece bytes) is h = tt
ends_complete r (line.End f) is h = tt
ends_complete r (line.Trailer f) is h = tt
ends_complete r (line.Listener kind) is h = tt
ends_complete r line.NotRetargetable is h = tt
ends_complete r (line.Window n) is h = tt
ends_complete r line.StartBack is h = tt
ends_complete r line.Closed is h = tt
ends_complete r (line.Reaction a) is h = tt
ends_complete r (line.Control c) is h = tt
ends_complete r line.Schedule is h = plan_at r.place r.plans r.draft is.here (small_in r is) (from_schedule r.place h)
ends_complete r (line.Step item) is h = tt

pub stands_complete : (r : Reader) (text : List ℕ) → IsSoFar r → (l : Line) → Stands r text l → EndsComplete r l
stands_complete r text is l stands = ends_complete r l is (stands_allowed r text l stands)

so_far_ends : (r : Reader) (texts : List (List ℕ)) (s : Script) → IsSoFar r → length (plans_of r) ≤ 1024 → Ends r texts s → IsPlayable s
so_far_ends r [] s is few (end, same) = subst IsPlayable (sym same) (record {
  plans = plans_accepted r.place r.plans r.draft is.plans is.here (small_in r is) (from_end r.place end);
  some = some_plans r.place r.plans r.draft is.here end;
  few = few;
  schedule = of_more (length r.plans) (length (plans_of r)) r.schedule (no_fewer r.plans r.draft) is.schedule;
})
so_far_ends r (text ∷ texts) s is few (l, stands, more) =
    so_far_ends (after r l) texts s (so_far_stands r text l is stands) (count_after r l stands.within few) more

-- what a text stands for can be played
pub text_playable : (s : Script) (text : List ℕ) → IsTextOf s text → IsPlayable s
text_playable s text is = so_far_ends start (lines text) s so_far_start (omega arith) is
