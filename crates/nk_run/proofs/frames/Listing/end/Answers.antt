-- The last frame is cut.
use Rattle.std.proofs.Common.{sym, subst}
use Rattle.nk_run.specs.declared.failure.Failure.{Failure}
use Rattle.nk_run.specs.Listing.{Stops}
use Rattle.nk_run.proofs.Listings.{stops_end}
use Rattle.nk_run.proofs.frames.Listing.end.Goals as goal

pub returns-in-Err-clause-stops : goal.returns-in-Err-clause-stops
returns-in-Err-clause-stops c = λ fed are h.
    subst (λ (f : Failure). Stops f fed) (sym c.of_frame.ensures)
    (stops_end c.one_stands_first.ensures.is fed _ c.args.self.frames c.in-Err.error are h c.requires (sym c.in-Err.ensures))
