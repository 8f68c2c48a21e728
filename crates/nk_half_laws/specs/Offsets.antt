-- How far the data of a trace reaches: no piece ends behind the end of its body. This project's own.
use Rattle.std.specs.Prelude.{ℕ, ◌+◌, ◌≤◌, Bool, List, length, All, Option}
use Rattle.nk_base.specs.declared.status.Status.{Status}
use Rattle.nk_base.specs.declared.message.Entry.{Entry}
use Rattle.nk_base.specs.declared.message.Entry.TheVariants as shown
use Rattle.nk_plan.specs.declared.plan.ChannelPlan.{ChannelPlan}
use Rattle.nk_plan.specs.Accepted.{Accepted, body_size}
use Rattle.nk_plan.specs.Trace.{SeqTrace}

-- the offset behind the last byte of an entry's data; 0 where it has none
abbrev pub data_end : Entry → ℕ
data_end (shown.Start code s) = 0
data_end (shown.Bytes offset piece) = offset + length piece
data_end (shown.Stop s trailers) = 0

-- a sequential trace shows no byte behind the end of its plan's body
abbrev pub OffsetsLaw : Type 0
OffsetsLaw = (c : ChannelPlan) (hop : ℕ) (failure : Option Status) (is_cut : Bool) (t : List Entry) → Accepted c
    → SeqTrace c hop failure is_cut t → All (λ e. data_end e ≤ body_size c) t

-- and the body of an accepted plan has at most 64 MiB, so no offset comes near what a u64 holds
abbrev pub BodyLaw : Type 0
BodyLaw = (c : ChannelPlan) (hop : ℕ) (failure : Option Status) (is_cut : Bool) (t : List Entry) → Accepted c
    → SeqTrace c hop failure is_cut t → All (λ e. data_end e ≤ 67108864) t
