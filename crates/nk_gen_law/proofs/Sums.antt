-- What the ends of channels sum up to is small: a sequential trace has no more data than the body of its plan.
use Rattle.std.proofs.Common.{◌≡◌, ℕ, Bool, ◌+◌, ◌-◌, ◌*◌, ◌<◌, ◌≤◌, ◌⊎◌, inl, inr, refl, sym, ap, subst, ◌∙◌, List, [], ◌∷◌, length, take, get_or, slice_get, sum_by, All, Option, Some, None, arith}
use Rattle.std.specs.List.{AllZip}
use Rattle.std.proofs.lemmas.Bool.{cases_lt}
use Rattle.std.proofs.lemmas.Option.{slice_get_within, get_or_from_slice_get}
use Rattle.std.proofs.lemmas.List.{get_or-take, length-take}
use Rattle.std.proofs.lemmas.List.Elements.{All-get_or, All-head, All-tail}
use Rattle.std.proofs.lemmas.List.Sums.{sum_by-cons, sum_by-le}
use Rattle.nk_base.specs.declared.status.Status.{Status}
use Rattle.nk_base.specs.declared.field.Field.{Field}
use Rattle.nk_base.specs.declared.message.Entry.{Entry}
use Rattle.nk_base.specs.declared.message.Entry.TheVariants as entry
use Rattle.nk_plan.specs.declared.plan.ChannelPlan.{ChannelPlan}
use Rattle.nk_plan.specs.declared.plan.Hop.{Hop}
use Rattle.nk_plan.specs.declared.plan.Hop.TheVariants as hop
use Rattle.nk_plan.specs.declared.ends.ChannelEnd.{ChannelEnd}
use Rattle.nk_plan.specs.declared.ends.ReaderEnd.{ReaderEnd}
use Rattle.nk_plan.specs.declared.ends.Ending.{Ending}
use Rattle.nk_plan.specs.declared.ends.Ending.TheVariants as ending
use Rattle.nk_plan.specs.Accepted.{Accepted, IsRedirect, pieces_of, body_of}
use Rattle.nk_plan.specs.Journal.{first, final, cut}
use Rattle.nk_plan.specs.Plan.{hop_at, hop_pieces, pieces_at}
use Rattle.nk_plan.specs.Trace.{SeqTrace, Follows}
use Rattle.nk_gen.specs.Summing.{counts_stopped, stopped_in, counts_piece, size_of, pieces_in, bytes_in, readers_in, read_in}
use Rattle.nk_gen_law.specs.Laws.{Fits, SumsLaw}

-- WHAT IS COUNTED OF A TRACE

-- a count of entries: nothing for a start or a stop, and for data what its piece is worth
record Counts (count : Entry → ℕ) (worth : List ℕ → ℕ) : Type 0 where
  start : (code : ℕ) (s : Status) → count (entry.Start code s) ≡ 0
  bytes : (offset : ℕ) (piece : List ℕ) → count (entry.Bytes offset piece) ≡ worth piece
  stop : (s : Status) (trailers : List Field) → count (entry.Stop s trailers) ≡ 0

-- a piece is worth 1
abbrev one : List ℕ → ℕ
one piece = 1

counts_pieces : Counts counts_piece one
counts_pieces = record { start = λ code s. refl; bytes = λ offset piece. refl; stop = λ s trailers. refl }

counts_sizes : Counts size_of length
counts_sizes = record { start = λ code s. refl; bytes = λ offset piece. refl; stop = λ s trailers. refl }

module _ (count : Entry → ℕ) (worth : List ℕ → ℕ) (k : Counts count worth) where
  -- the data behind a start is of the pieces that are still to come
  behind_start : (c : ChannelPlan) (f : ℕ) (q : Option Status) (offset : ℕ) (pieces : List (List ℕ)) (t : List Entry)
      → Follows c f q offset pieces t → sum_by count t ≤ sum_by worth pieces
  behind_start c f q offset pieces [] h = omega arith
  behind_start c f q offset pieces (entry.Start code s ∷ t) h = absurd h
  behind_start c f q offset [] (entry.Bytes o p ∷ t) h = absurd h
  behind_start c f q offset (next ∷ pieces) (entry.Bytes o p ∷ t) (at, same, rest) =
      let here : count (entry.Bytes o p) ≡ worth next = k.bytes o p ∙ ap worth same in
      omega (
        arith,
        here,
        sum_by-cons count (entry.Bytes o p) t,
        sum_by-cons worth next pieces,
        behind_start c f q (offset + length next) pieces t rest,
      )
  behind_start c f q offset pieces (entry.Stop s trailers ∷ t) h =
      omega (arith, k.stop s trailers, sum_by-cons count (entry.Stop s trailers) t, ap (sum_by count) h.0)

  -- a sequential trace has no more data than its final hop
  of_trace : (c : ChannelPlan) (f : ℕ) (q : Option Status) (x : Bool) (t : List Entry)
      → SeqTrace c f q x t → sum_by count t ≤ sum_by worth (pieces_at c f)
  of_trace c f q x [] h = omega arith
  of_trace c f q x (entry.Bytes o p ∷ t) h = absurd h
  of_trace c f q x (entry.Stop s trailers ∷ t) h = absurd h
  of_trace c f q x (entry.Start code s ∷ t) (same, status, rest) =
      omega (arith, k.start code s, sum_by-cons count (entry.Start code s) t, behind_start c f q 0 (pieces_at c f) t rest)

-- THE BODY

-- each hop before the last is a redirect
leads : (c : ChannelPlan) (f : ℕ) (x : Hop) → Accepted c → hop_at c f ≡ Some x → f + 1 < length c.hops → IsRedirect x
leads c f x a e early =
    let n : ℕ = length c.hops - 1 in
    let within : f < length (take n c.hops) = omega (arith, length-take n c.hops) in
    let before : f < n = omega arith in
    let same : get_or (take n c.hops) f x ≡ x = get_or-take n c.hops f x before ∙ get_or_from_slice_get c.hops f x x e in
    subst IsRedirect same (All-get_or IsRedirect (take n c.hops) f x within a.leads)

-- a response is the last hop
at_last : (c : ChannelPlan) (f : ℕ) (o : Option Hop) → Accepted c → hop_at c f ≡ o → (hop_pieces o ≡ []) ⊎ (hop_pieces o ≡ body_of c)
at_last c f None a e = inl refl
at_last c f (Some (hop.Fail s)) a e = inl refl
at_last c f (Some (hop.Redirect code verdict)) a e = inl refl
at_last c f (Some (hop.Response head pieces end trailers)) a e =
    let within = slice_get_within c.hops f (hop.Response head pieces end trailers) e in
    elim (cases_lt (f + 1) (length c.hops)) [
      | inl early ↦ absurd (leads c f (hop.Response head pieces end trailers) a e early)
      | inr late ↦
          let last : length c.hops - 1 ≡ f = omega (arith, within, late) in
          inr (sym (ap (λ n. pieces_of (slice_get c.hops n)) last ∙ ap pieces_of e))
    ]

-- no hop has more pieces than the body
of_hop : (worth : List ℕ → ℕ) (c : ChannelPlan) (f : ℕ) → Accepted c → sum_by worth (pieces_at c f) ≤ sum_by worth (body_of c)
of_hop worth c f a = elim (at_last c f (hop_at c f) a refl) [
  | inl none ↦ omega (arith, ap (sum_by worth) none)
  | inr all ↦ omega (arith, ap (sum_by worth) all)
]

ones : (pieces : List (List ℕ)) → sum_by one pieces ≡ length pieces
ones [] = refl
ones (p ∷ ps) = omega (arith, sum_by-cons one p ps, ones ps)

-- THE END OF ONE CHANNEL

few_stopped : (e : Ending) → counts_stopped e ≤ 1
few_stopped ending.Stopped = omega arith
few_stopped ending.Suspended = omega arith
few_stopped ending.Unopened = omega arith
few_stopped ending.Going = omega arith

few_pieces : (c : ChannelPlan) (e : ChannelEnd) → Accepted c → Fits c e → pieces_in e ≤ 65536
few_pieces c e a h =
    omega (
      arith,
      of_trace counts_piece one counts_pieces c (final e.child) (first e.child) (cut e.child) e.trace h.sequential,
      of_hop one c (final e.child) a,
      ones (body_of c),
      a.few_pieces,
    )

few_bytes : (c : ChannelPlan) (e : ChannelEnd) → Accepted c → Fits c e → bytes_in e ≤ 67108864
few_bytes c e a h =
    omega (
      arith,
      of_trace size_of length counts_sizes c (final e.child) (first e.child) (cut e.child) e.trace h.sequential,
      of_hop length c (final e.child) a,
      a.few_bytes,
    )

few_read : (c : ChannelPlan) (e : ChannelEnd) → Accepted c → Fits c e → read_in e ≤ 536870912
few_read c e a h =
    let each : All (λ (reader : ReaderEnd). length reader.bytes ≤ 67108864) e.readers =
    λ i d within. omega (arith, h.readers i d within, few_bytes c e a h) in
    omega (arith, sum_by-le (λ (reader : ReaderEnd). length reader.bytes) 67108864 e.readers each, h.few_readers)

-- ALL CHANNELS

sum_most : (count : ChannelEnd → ℕ) (most : ℕ) → ((c : ChannelPlan) (e : ChannelEnd) → Accepted c → Fits c e → count e ≤ most)
    → (cs : List ChannelPlan) (es : List ChannelEnd) → All Accepted cs → AllZip Fits cs es → sum_by count es ≤ length cs * most
sum_most count most each [] [] accepted fit = omega arith
sum_most count most each [] (e ∷ es) accepted fit = absurd fit
sum_most count most each (c ∷ cs) [] accepted fit = absurd fit
sum_most count most each (c ∷ cs) (e ∷ es) accepted (fits, fit) =
    omega (
      arith,
      sum_by-cons count e es,
      each c e (All-head Accepted c cs accepted) fits,
      sum_most count most each cs es (All-tail Accepted c cs accepted) fit,
    )

pub sums_small : SumsLaw
sums_small cs es few accepted fit = record {
  stopped = omega (arith, sum_most stopped_in 1 (λ c e a h. few_stopped e.ending) cs es accepted fit);
  pieces = omega (arith, sum_most pieces_in 65536 few_pieces cs es accepted fit);
  bytes = omega (arith, sum_most bytes_in 67108864 few_bytes cs es accepted fit);
  readers = omega (arith, sum_most readers_in 8 (λ c e a h. h.few_readers) cs es accepted fit);
  read = omega (arith, sum_most read_in 536870912 few_read cs es accepted fit);
}
