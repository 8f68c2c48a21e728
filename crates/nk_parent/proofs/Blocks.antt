-- What a step added to the journal.
use Rattle.std.proofs.Common.{◌≡◌, List, [], ◌++◌, length, drop}
use Rattle.std.proofs.Math.Seq.{drop-append_seam, drop-length}
use Rattle.nk_plan.specs.declared.journal.ParentEntry.{ParentEntry}

pub added_more : (j b : List ParentEntry) → drop (length j) (j ++ b) ≡ b
added_more j b = drop-append_seam j b

pub added_none : (j : List ParentEntry) → drop (length j) j ≡ []
added_none j = drop-length j
