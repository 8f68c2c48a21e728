-- A line that failed has failed for what was fed before.
use Rattle.std.proofs.Common.{◌++◌}
use Rattle.nk_run.specs.Listing.{Stops}
use Rattle.nk_run.proofs.Listings.{front, failed}
use Rattle.nk_run.proofs.frames.Listing.lines.Goals as goal

pub returns-in_err-line-clause-stops : goal.returns-in_err-line-clause-stops
returns-in_err-line-clause-stops c = λ fed more are h.
    failed c.from_residual.result c.in_err-line.field-0.0 (λ e. Stops e (fed ++ more)) c.from_residual.ensures.1
    (c.in_err-line.ensures.stops fed more are (c.loop.invariant.listed fed (front fed more are) h))
