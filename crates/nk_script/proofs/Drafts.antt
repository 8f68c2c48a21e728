-- The plans of channels, as their lines come.
use Rattle.std.proofs.Common.{◌≡◌, ◌≤◌, ◌<◌, ◌+◌, ◌-◌, ℕ, true, false, Bool, List, [], ◌∷◌, ◌++◌, length, take, slice_get, All, Option, Some, None, IsSomeAnd, refl, sym, ap, subst, ◌∙◌, arith, length-append, option_to_list, ◌&&◌}
use Rattle.std.specs.List.{sum_by}
use Rattle.std.specs.Option.{option_map}
use Rattle.std.proofs.Math.Seq.{take-append_seam}
use Rattle.std.proofs.lemmas.List.Elements.{All-append, All-cons, All-nil}
use Rattle.std.proofs.lemmas.List.Folds.{list_all-append}
use Rattle.std.proofs.lemmas.List.Sums.{sum_by-append, sum_by-cons}
use Rattle.nk_base.specs.declared.field.Field.{Field}
use Rattle.nk_base.specs.declared.status.Status.{Status}
use Rattle.nk_base.specs.Status.{is_failure}
use Rattle.nk_base.specs.Ranges.{IsRedirectCode}
use Rattle.nk_base.specs.Fields.{is_good_field, are_good_fields}
use Rattle.nk_plan.specs.declared.plan.Hop.{Hop}
use Rattle.nk_plan.specs.declared.plan.Hop.TheVariants as plan
use Rattle.nk_plan.specs.declared.plan.ChannelPlan.{ChannelPlan}
use Rattle.nk_plan.specs.declared.plan.Verdict.{Verdict}
use Rattle.nk_plan.specs.declared.plan.Finish.TheVariants as finish
use Rattle.nk_plan.specs.declared.plan.ListenerKind.{ListenerKind}
use Rattle.nk_plan.specs.declared.plan.ListenerKind.TheVariants as listener
use Rattle.nk_plan.specs.declared.plan.Reaction.{Reaction}
use Rattle.nk_plan.specs.declared.plan.Control.{Control}
use Rattle.nk_plan.specs.declared.plan.StartLane.{StartLane}
use Rattle.nk_plan.specs.Accepted.{Accepted, IsRedirect, IsGoodHop, IsGoodVerdict, IsGoodFinish, IsGoodListener, IsGoodReaction, IsGoodControl, IsGoodWindow, last_of, pieces_of, body_of, body_size}
use Rattle.nk_script.specs.Responses.{ResponseParts}
use Rattle.nk_script.specs.declared.draft.Draft.{Draft}
use Rattle.nk_script.specs.Draft.{hop_of, plan_of, with_hop, with_response, new_response, response_count}
use Rattle.nk_script.specs.declared.line.HopLine.TheVariants as hop

-- LISTS

at_last : {A : Type 0} (xs : List A) (x : A) → slice_get (xs ++ x ∷ []) (length xs) ≡ Some x
at_last [] x = refl
at_last (y ∷ ys) x = at_last ys x

one_more : {A : Type 0} (xs : List A) (x : A) → length (xs ++ x ∷ []) - 1 ≡ length xs
one_more xs x = omega (arith, length-append xs (x ∷ []))

last_is : {A : Type 0} (xs : List A) (x : A) → last_of (xs ++ x ∷ []) ≡ Some x
last_is xs x = ap (slice_get (xs ++ x ∷ [])) (one_more xs x) ∙ at_last xs x

all_before : {A : Type 0} (xs : List A) (x : A) → take (length (xs ++ x ∷ []) - 1) (xs ++ x ∷ []) ≡ xs
all_before xs x = ap (λ (n : ℕ). take n (xs ++ x ∷ [])) (one_more xs x) ∙ take-append_seam xs (x ∷ [])

all_one : {A : Type 0} (P : A → Type 0) (x : A) → P x → All P (x ∷ [])
all_one P x p = All-cons P x [] p (All-nil P)

pub all_more : {A : Type 0} (P : A → Type 0) (xs : List A) (x : A) → All P xs → P x → All P (xs ++ x ∷ [])
all_more P xs x all p = All-append P xs (x ∷ []) all (all_one P x p)

both : (a b : Bool) → a ≡ true → b ≡ true → (a && (b && true)) ≡ true
both true b e f = ap (λ (c : Bool). c && true) f
both false b e f = cc

-- THE LAST HOP

-- a plan whose last hop is this one, and all else as it is at first
pub record IsFirst (c : ChannelPlan) (leads : List Hop) (last : Hop) : Type 0 where
  pub hops : c.hops ≡ leads ++ last ∷ []
  pub listener : c.listener ≡ listener.Plain
  pub reactions : c.reactions ≡ []
  pub controls : c.controls ≡ []
  pub window : c.window ≡ 1048576

-- redirects that lead to the last hop
pub record AreLeads (leads : List Hop) : Type 0 where
  pub redirects : All IsRedirect leads
  pub good : All IsGoodHop leads
  pub few : length leads ≤ 31

body_is : (c : ChannelPlan) (leads : List Hop) (last : Hop) → c.hops ≡ leads ++ last ∷ [] → body_of c ≡ pieces_of (Some last)
body_is c leads last e = ap (λ (hops : List Hop). pieces_of (last_of hops)) e ∙ ap pieces_of (last_is leads last)

first_window : IsGoodWindow 1048576
first_window = (omega arith, omega arith)

pub first_accepted : (c : ChannelPlan) (leads : List Hop) (last : Hop) → IsFirst c leads last → AreLeads leads → IsGoodHop last → ¬ IsRedirect last → length (pieces_of (Some last)) ≤ 65536 → sum_by length (pieces_of (Some last)) ≤ 67108864 → Accepted c
first_accepted c leads last first are good ends few small =
    let body = body_is c leads last first.hops in
    record {
      some_hop = subst (λ (hops : List Hop). 0 < length hops) (sym first.hops) (omega (arith, length-append leads (last ∷ [])));
      few_hops = subst (λ (hops : List Hop). length hops ≤ 32) (sym first.hops) (omega (arith, length-append leads (last ∷ []), are.few));
      ends = subst (λ (hops : List Hop). IsSomeAnd (last_of hops) (λ h. ¬ IsRedirect h)) (sym first.hops) (subst (λ (o : Option Hop). IsSomeAnd o (λ h. ¬ IsRedirect h)) (sym (last_is leads last)) ends);
      leads = subst (λ (hops : List Hop). All IsRedirect (take (length hops - 1) hops)) (sym first.hops) (subst (All IsRedirect) (sym (all_before leads last)) are.redirects);
      hops = subst (All IsGoodHop) (sym first.hops) (all_more IsGoodHop leads last are.good good);
      few_pieces = subst (λ (pieces : List (List ℕ)). length pieces ≤ 65536) (sym body) few;
      few_bytes = subst (λ (pieces : List (List ℕ)). sum_by length pieces ≤ 67108864) (sym body) small;
      listener = subst (λ (kind : ListenerKind). IsGoodListener kind (body_size c)) (sym first.listener) tt;
      few_reactions = subst (λ (rs : List Reaction). length rs ≤ 64) (sym first.reactions) (omega arith);
      reactions = subst (All IsGoodReaction) (sym first.reactions) (All-nil IsGoodReaction);
      few_controls = subst (λ (cs : List Control). length cs ≤ 64) (sym first.controls) (omega arith);
      controls = subst (All (IsGoodControl c.closed)) (sym first.controls) (All-nil (IsGoodControl c.closed));
      window = subst IsGoodWindow (sym first.window) first_window;
    }

-- THE OPTIONS

-- a plan with other options over the same hops
pub options_accepted : (c : ChannelPlan) (kind : ListenerKind) (own : Bool) (rs : List Reaction) (cs : List Control) (window : ℕ) (closed : Bool) (start : StartLane) → Accepted c → IsGoodListener kind (body_size c) → length rs ≤ 64 → All IsGoodReaction rs → length cs ≤ 64 → All (IsGoodControl closed) cs → IsGoodWindow window → Accepted (record { hops = c.hops; listener = kind; retargetable = own; reactions = rs; controls = cs; window = window; closed = closed; start = start })
options_accepted c kind own rs cs window closed start a listens few are calls good fits = record {
  some_hop = a.some_hop;
  few_hops = a.few_hops;
  ends = a.ends;
  leads = a.leads;
  hops = a.hops;
  few_pieces = a.few_pieces;
  few_bytes = a.few_bytes;
  listener = listens;
  few_reactions = few;
  reactions = are;
  few_controls = calls;
  controls = good;
  window = fits;
}

-- DRAFTS

-- its options are as they are at first
pub record IsBare (d : Draft) : Type 0 where
  pub listener : d.listener ≡ listener.Plain
  pub reactions : d.reactions ≡ []
  pub controls : d.controls ≡ []
  pub window : d.window ≡ 1048576
  pub closed : d.closed ≡ false

-- only redirects have come
pub record IsOpening (d : Draft) : Type 0 where
  pub bare : IsBare d
  pub leads : AreLeads d.hops
  pub response : d.response ≡ None

-- a response has come, and its body has not failed
pub record IsResponding (d : Draft) (p : ResponseParts) : Type 0 where
  pub bare : IsBare d
  pub leads : AreLeads d.hops
  pub response : d.response ≡ Some p
  pub finish : p.finish ≡ finish.Good
  pub few_pieces : length p.pieces ≤ 65536
  pub size : p.size ≡ sum_by length p.pieces
  pub few_trailers : length p.trailers ≤ 64
  pub trailers : are_good_fields p.trailers ≡ true

-- all hops have come
pub record IsWhole (d : Draft) : Type 0 where
  pub accepted : Accepted (plan_of d)
  pub size : response_count (λ s. s.size) d ≡ body_size (plan_of d)

-- and neither calls of the page, nor that it is closed
pub record IsCalled (d : Draft) : Type 0 where
  pub whole : IsWhole d
  pub controls : d.controls ≡ []
  pub opened : d.closed ≡ false

first_of : (d : Draft) (last : Hop) → IsBare d → (plan_of d).hops ≡ d.hops ++ last ∷ [] → IsFirst (plan_of d) d.hops last
first_of d last bare e = record { hops = e; listener = bare.listener; reactions = bare.reactions; controls = bare.controls; window = bare.window }

response_hops : (d : Draft) (p : ResponseParts) → d.response ≡ Some p → (plan_of d).hops ≡ d.hops ++ hop_of p ∷ []
response_hops d p e = ap (λ (o : Option ResponseParts). d.hops ++ option_to_list (option_map hop_of o)) e

count_of_response : (d : Draft) (p : ResponseParts) → d.response ≡ Some p → response_count (λ s. s.size) d ≡ p.size
count_of_response d p e = ap (λ (o : Option ResponseParts). response_count (λ s. s.size) (record d { response = o })) e

-- a response whose body ends so
pub response_whole : (d : Draft) (p : ResponseParts) → IsBare d → AreLeads d.hops → d.response ≡ Some p → IsGoodFinish p.finish p.trailers → length p.pieces ≤ 65536 → p.size ≡ sum_by length p.pieces → p.size ≤ 67108864 → length p.trailers ≤ 64 → are_good_fields p.trailers ≡ true → IsCalled d
response_whole d p bare leads e ends few size small few_trailers trailers =
    let hops = response_hops d p e in
    record {
      whole = record {
        accepted = first_accepted (plan_of d) d.hops (hop_of p) (first_of d (hop_of p) bare hops) leads (trailers, few_trailers, ends) (λ r. r) few (subst (λ (n : ℕ). n ≤ 67108864) size small);
        size = count_of_response d p e ∙ (size ∙ sym (ap (sum_by length) (body_is (plan_of d) d.hops (hop_of p) hops)));
      };
      controls = bare.controls;
      opened = bare.closed;
    }

none_behind : (xs : List Hop) → xs ++ [] ≡ xs
none_behind [] = refl
none_behind (x ∷ xs) = ap (λ (ys : List Hop). x ∷ ys) (none_behind xs)

no_response : (hops : List Hop) (o : Option ResponseParts) → o ≡ None → hops ++ option_to_list (option_map hop_of o) ≡ hops
no_response hops o e = ap (λ (r : Option ResponseParts). hops ++ option_to_list (option_map hop_of r)) e ∙ none_behind hops

-- a load that fails
pub fail_whole : (d : Draft) (s : Status) → IsOpening d → is_failure s ≡ true → IsCalled (with_hop (hop.Fail s) d)
fail_whole d s opening failure =
    let hops = no_response (d.hops ++ plan.Fail s ∷ []) d.response opening.response in
    let first : IsFirst (plan_of (with_hop (hop.Fail s) d)) d.hops (plan.Fail s) = record { hops = hops; listener = opening.bare.listener; reactions = opening.bare.reactions; controls = opening.bare.controls; window = opening.bare.window } in
    let body = body_is (plan_of (with_hop (hop.Fail s) d)) d.hops (plan.Fail s) hops in
    record {
      whole = record {
        accepted = first_accepted (plan_of (with_hop (hop.Fail s) d)) d.hops (plan.Fail s) first opening.leads failure (λ r. r) (omega arith) (omega arith);
        size = ap (λ (o : Option ResponseParts). response_count (λ s. s.size) (record d { response = o })) opening.response ∙ sym (ap (sum_by length) body);
      };
      controls = opening.bare.controls;
      opened = opening.bare.closed;
    }

-- one more redirect
pub redirect_opening : (d : Draft) (code : ℕ) (own : Verdict) → IsOpening d → IsRedirectCode code × IsGoodVerdict own → length d.hops < 31 → IsOpening (with_hop (hop.Redirect code own) d)
redirect_opening d code own opening good room = record {
  bare = record { listener = opening.bare.listener; reactions = opening.bare.reactions; controls = opening.bare.controls; window = opening.bare.window; closed = opening.bare.closed };
  leads = record {
    redirects = all_more IsRedirect d.hops (plan.Redirect code own) opening.leads.redirects tt;
    good = all_more IsGoodHop d.hops (plan.Redirect code own) opening.leads.good good;
    few = omega (arith, length-append d.hops (plan.Redirect code own ∷ []));
  };
  response = opening.response;
}

-- a response of which nothing has come
pub response_responding : (d : Draft) (code : ℕ) → IsOpening d → IsResponding (with_hop (hop.Response code) d) (new_response code)
response_responding d code opening = record {
  bare = record { listener = opening.bare.listener; reactions = opening.bare.reactions; controls = opening.bare.controls; window = opening.bare.window; closed = opening.bare.closed };
  leads = opening.leads;
  response = refl;
  finish = refl;
  few_pieces = omega arith;
  size = refl;
  few_trailers = omega arith;
  trailers = refl;
}

-- the response with other parts
pub responding_with : (d : Draft) (p q : ResponseParts) (f : ResponseParts → ResponseParts) → IsResponding d p → f p ≡ q → q.finish ≡ finish.Good → length q.pieces ≤ 65536 → q.size ≡ sum_by length q.pieces → length q.trailers ≤ 64 → are_good_fields q.trailers ≡ true → IsResponding (with_response f d) q
responding_with d p q f was e good few size few_trailers trailers = record {
  bare = record { listener = was.bare.listener; reactions = was.bare.reactions; controls = was.bare.controls; window = was.bare.window; closed = was.bare.closed };
  leads = was.leads;
  response = ap (option_map f) was.response ∙ ap Some e;
  finish = good;
  few_pieces = few;
  size = size;
  few_trailers = few_trailers;
  trailers = trailers;
}

no_size : sum_by (length {A = ℕ}) [] ≡ 0
no_size = refl

one_size : (bytes : List ℕ) → sum_by length (bytes ∷ []) ≡ length bytes
one_size bytes = omega (arith, sum_by-cons length bytes [], no_size)

pub one_more_piece : (pieces : List (List ℕ)) (bytes : List ℕ) (size : ℕ) → size ≡ sum_by length pieces → size + length bytes ≡ sum_by length (pieces ++ bytes ∷ [])
one_more_piece pieces bytes size e = ap (λ (n : ℕ). n + length bytes) e ∙ sym (sum_by-append length pieces (bytes ∷ []) ∙ ap (λ (n : ℕ). sum_by length pieces + n) (one_size bytes))

pub one_more_trailer : (trailers : List Field) (f : Field) → are_good_fields trailers ≡ true → is_good_field f ≡ true → are_good_fields (trailers ++ f ∷ []) ≡ true
one_more_trailer trailers f good one = list_all-append is_good_field trailers (f ∷ []) ∙ both (are_good_fields trailers) (is_good_field f) good one
