-- Readers are numbered from 1.
use Rattle.std.proofs.Common.{arith}
use Rattle.nk_pipe.specs.Laid.{all_seen}
use Rattle.nk_pipe.proofs.ReaderLemmas.{numbered_past, length_seen}
use Rattle.nk_pipe.proofs.pipe.Pipe.index.Goals as goal
use Rattle.nk_pipe.proofs.pipe.Pipe.index.Goals.{else-n-gt0-via-then-n-gt0+else-n-len, else-n-gt0-via-else-n-gt0}

pub returns-then-n-len : goal.returns-then-n-len
returns-then-n-len c =
    rw (← c.self.view_is) (omega arith, omega (arith, length_seen c.self.inside.readers.items, c.self.inside.readers.ok.0))

pub returns-else-n-gt0 : goal.returns-else-n-gt0
returns-else-n-gt0 c =
    rw (← c.self.view_is) (numbered_past (all_seen c.self.inside.readers.items) c.args.reader (λ some. elim c.else-n-gt0.branch [
      | else-n-gt0-via-then-n-gt0+else-n-len w ↦ omega (arith, length_seen c.self.inside.readers.items, c.self.inside.readers.ok.0)
      | else-n-gt0-via-else-n-gt0 w ↦ absurd (omega arith)
    ]))
