-- A reader without a closing status is open.
use Rattle.std.proofs.Common.{◌<◌, length, arith}
use Rattle.nk_pipe.proofs.ReaderLemmas.{read_get, seen_get, length_seen}
use Rattle.nk_pipe.proofs.StandsLemmas.{none_open}
use Rattle.nk_pipe.proofs.pipe.Pipe.is_open.Goals as goal

pub index-requires : goal.index-requires
index-requires c =
    let below = rw (← c.self.view_is) at c.requires in
    omega (arith, below, length_seen c.self.inside.readers.items, c.self.inside.readers.ok.0)

pub returns : goal.returns
returns c =
    let below = rw (← c.self.view_is) at c.requires in
    let within : c.args.i < length c.self.inside.readers.items = omega (arith, below, length_seen c.self.inside.readers.items) in
    let get = read_get c.self.inside.readers.items c.args.i c.index.result.now within c.index.ensures in
    rw (← c.self.view_is, seen_get c.self.inside.readers.items c.args.i c.index.result.now get) (none_open c.index.result.now.closed c.is_none.result c.is_none.ensures)
