-- The bytes so far are listed, but for a part frame; no byte is lost.
use Rattle.std.proofs.Common.{◌≡◌, ◌+◌, ◌++◌, ℕ, List, length}
use Rattle.nk_wire.specs.Streams.{first, Part}
use Rattle.nk_run.specs.Listing.{Listed}
use Rattle.nk_run.proofs.frames.list.Given as goal

abbrev pub invariant-loop-rest : goal.invariant-loop-rest
invariant-loop-rest l = record {
  listed : (fed : List ℕ) × (l.bytes ≡ fed ++ l.rest) × Listed fed l.listing.frames l.listing.printer;
  part : first l.listing.frames.unused ≡ Part;
  total : l.listing.frames.offset + length l.listing.frames.unused + length l.rest ≡ length l.bytes;
}

abbrev pub decreases-loop-rest : goal.decreases-loop-rest
decreases-loop-rest l = length l.rest
