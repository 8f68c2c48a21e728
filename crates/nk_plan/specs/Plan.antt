-- What a plan says of its hops. The hops, their codes and bodies are HTTP's; the rest is this project's own.
use Rattle.std.specs.Prelude.{ℕ, ◌≡◌, if◌then◌else◌, List, [], ◌∷◌, ◌++◌, slice_get, Option, Some, None}
use Rattle.nk_base.specs.declared.status.Status.{Status}
use Rattle.nk_base.specs.declared.field.Field.{Field}
use Rattle.nk_base.specs.Status.{is_failure}
use Rattle.nk_plan.specs.declared.plan.ChannelPlan.{ChannelPlan}
use Rattle.nk_plan.specs.declared.plan.Hop.{Hop}
use Rattle.nk_plan.specs.declared.plan.Hop.TheVariants as hop
use Rattle.nk_plan.specs.declared.plan.Finish.TheVariants as finish

-- hop f of a plan, counted from 0
abbrev pub hop_at : ChannelPlan → ℕ → Option Hop
hop_at c f = slice_get c.hops f

-- the code of a redirect or of a response; a failed opening has 0
abbrev pub hop_code : Option Hop → ℕ
hop_code None = 0
hop_code (Some (hop.Fail s)) = 0
hop_code (Some (hop.Redirect code verdict)) = code
hop_code (Some (hop.Response head pieces end trailers)) = head.code

-- the pieces of a response's body; any other hop has none
abbrev pub hop_pieces : Option Hop → List (List ℕ)
hop_pieces None = []
hop_pieces (Some (hop.Fail s)) = []
hop_pieces (Some (hop.Redirect code verdict)) = []
hop_pieces (Some (hop.Response head pieces end trailers)) = pieces

-- the trailers of a response; any other hop has none
abbrev pub hop_trailers : Option Hop → List Field
hop_trailers None = []
hop_trailers (Some (hop.Fail s)) = []
hop_trailers (Some (hop.Redirect code verdict)) = []
hop_trailers (Some (hop.Response head pieces end trailers)) = trailers

-- the hop is a response whose body ends well
abbrev pub EndsWell : Option Hop → Type 0
EndsWell None = ⊥
EndsWell (Some (hop.Fail s)) = ⊥
EndsWell (Some (hop.Redirect code verdict)) = ⊥
EndsWell (Some (hop.Response head pieces end trailers)) = end ≡ finish.Good

abbrev pub code_at : ChannelPlan → ℕ → ℕ
code_at c f = hop_code (hop_at c f)

abbrev pub pieces_at : ChannelPlan → ℕ → List (List ℕ)
pieces_at c f = hop_pieces (hop_at c f)

abbrev pub trailers_at : ChannelPlan → ℕ → List Field
trailers_at c f = hop_trailers (hop_at c f)

-- pieces, one behind the other
abbrev pub joined : List (List ℕ) → List ℕ
joined [] = []
joined (p ∷ ps) = p ++ joined ps

-- the body of hop f
abbrev pub body_at : ChannelPlan → ℕ → List ℕ
body_at c f = joined (pieces_at c f)

-- what a stop of hop f carries: the hop's trailers where its status is 0, and none where it is a failure
abbrev pub stop_trailers : ChannelPlan → ℕ → Status → List Field
stop_trailers c f s = if is_failure s then [] else trailers_at c f
