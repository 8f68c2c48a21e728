-- The sequential channel: what a listener may be shown of one load. One start, the pieces of one hop in order, one stop.
-- The order of the three and the offsets are after Firefox's nsIStreamListener; the rest is this project's own.
use Rattle.std.specs.Prelude.{ℕ, ◌≡◌, ◌+◌, Bool, false, if◌then◌else◌, List, [], ◌∷◌, length, Option, Some, ◌⊎◌}
use Rattle.nk_base.specs.declared.status.Status.{Status}
use Rattle.nk_base.specs.declared.message.Entry.{Entry}
use Rattle.nk_base.specs.Status.{ok, kept_status}
use Rattle.nk_plan.specs.declared.plan.ChannelPlan.{ChannelPlan}
use Rattle.nk_plan.specs.Plan.{hop_at, code_at, pieces_at, EndsWell, stop_trailers}
use Rattle.nk_base.specs.declared.message.Entry.TheVariants as entry

-- no entry of the trace is data
abbrev pub HasNoData : List Entry → Type 0
HasNoData [] = Unit {0}
HasNoData (entry.Start code s ∷ t) = HasNoData t
HasNoData (entry.Bytes o p ∷ t) = ⊥
HasNoData (entry.Stop s trailers ∷ t) = HasNoData t

-- What may stand behind the start of hop f, with these pieces still to come, the first of them at this offset:
-- the next piece at that offset, or the stop, and nothing behind it.
-- The stop has the failure q, or 0 where there is none; 0 comes only with the whole body of a response that ends well.
abbrev pub Follows : ChannelPlan → ℕ → Option Status → ℕ → List (List ℕ) → List Entry → Type 0
Follows c f q offset pieces [] = Unit {0}
Follows c f q offset pieces (entry.Start code s ∷ t) = ⊥
Follows c f q offset [] (entry.Bytes o p ∷ t) = ⊥
Follows c f q offset (next ∷ pieces) (entry.Bytes o p ∷ t) =
    (o ≡ offset) × (p ≡ next) × Follows c f q (offset + length next) pieces t
Follows c f q offset pieces (entry.Stop s trailers ∷ t) =
    (t ≡ [])
    × (s ≡ kept_status q)
    × (s ≡ ok → (pieces ≡ []) × EndsWell (hop_at c f))
    × (trailers ≡ stop_trailers c f s)

-- The trace t of one sequential channel: f is its final hop, q its failure if it has one, and x says that the load was
-- cut before its start.
-- The start has the hop's code, or 0 where the load was cut. Its status is 0 where the load was not cut, or it is the
-- failure q, and then no data follows.
abbrev pub SeqTrace : ChannelPlan → ℕ → Option Status → Bool → List Entry → Type 0
SeqTrace c f q x [] = Unit {0}
SeqTrace c f q x (entry.Bytes o p ∷ t) = ⊥
SeqTrace c f q x (entry.Stop s trailers ∷ t) = ⊥
SeqTrace c f q x (entry.Start code s ∷ t) =
    (code ≡ (if x then 0 else code_at c f))
    × (((s ≡ ok) × (x ≡ false)) ⊎ ((Some s ≡ q) × HasNoData t))
    × Follows c f q 0 (pieces_at c f) t
