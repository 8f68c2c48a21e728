-- The place of the furthest reader is within the written bytes.
use Rattle.std.proofs.Common.{◌≡◌, ◌+◌, ◌-◌, ◌*◌, ◌/◌, refl, arith, ◌∙◌}
use Rattle.nk_pipe.specs.Pipe.{greatest}
use Rattle.nk_pipe.specs.Laid.{all_seen, past}
use Rattle.nk_pipe.proofs.PipeLemmas.{count_is}
use Rattle.nk_pipe.proofs.WriteLemmas.{greatest_within, room_fits, room_small}
use Rattle.nk_pipe.proofs.pipe.Pipe.room.Goals as goal

pub overflow_mul-taken : goal.overflow_mul-taken
overflow_mul-taken c =
    let within = greatest_within c.self.inside.segment (past c.self.inside.segments.segments c.self.inside.written c.self.inside.ahead) c.self.inside.written c.self.inside.segments.segments c.self.inside.readers.items (λ opens. (c.self.invariant.laid opens).placed) in
    let few = rw (← c.self.view_is) at c.requires in
    let fits = room_fits (greatest (all_seen c.self.inside.readers.items)) c.self.inside.segment c.self.inside.limit c.self.inside.written within (omega (arith, few, count_is c.self.inside.written c.self.inside.ahead c.self.inside.segments.segments c.self.invariant.fits)) c.self.invariant.most c.self.invariant.most_limit in
    rw (c.furthest.ensures, c.deref.ensures.value, c.from-segment.ensures, c.from-limit.ensures) (omega (arith, fits))

pub returns-clause-few : goal.returns-clause-few
returns-clause-few c =
    let within = greatest_within c.self.inside.segment (past c.self.inside.segments.segments c.self.inside.written c.self.inside.ahead) c.self.inside.written c.self.inside.segments.segments c.self.inside.readers.items (λ opens. (c.self.invariant.laid opens).placed) in
    let few = room_small (greatest (all_seen c.self.inside.readers.items)) c.self.inside.segment c.self.inside.limit c.self.inside.written within c.self.invariant.most c.self.invariant.most_limit in
    let same : c.saturating_sub.result ≡ (greatest (all_seen c.self.inside.readers.items) / c.self.inside.segment + c.self.inside.limit) * c.self.inside.segment - c.self.inside.written =
    c.saturating_sub.ensures ∙ rw (c.furthest.ensures, c.deref.ensures.value, c.from-segment.ensures, c.from-limit.ensures) refl in
    rw same few
