use Rattle.std.proofs.Common.{refl}
use Rattle.nk_run.proofs.frames.Listing.feed.Goals as goal
use Rattle.nk_run.proofs.Listings.{listed_fed}

pub returns-in-Ok-clause-listed : goal.returns-in-Ok-clause-listed
returns-in-Ok-clause-listed c = λ fed h. listed_fed fed c.args.piece.now _ _ _ _ h c.in-Ok.ensures.ok refl
