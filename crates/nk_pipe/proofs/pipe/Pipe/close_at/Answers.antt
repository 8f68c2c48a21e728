-- A close of a reader gives back what it alone needed.
use Rattle.std.proofs.Common.{◌≡◌, ℕ, get_or, refl, arith}
use Rattle.std.specs.Prelude.{slice_set}
use Rattle.nk_base.specs.declared.status.Status.{Status}
use Rattle.nk_pipe.specs.declared.pipe.Pipe.TheInside.{Inside}
use Rattle.nk_pipe.specs.declared.reader.Reader.{Reader as Tracked}
use Rattle.nk_pipe.specs.Kept.{OpenAt}
use Rattle.nk_pipe.specs.Pipe.{has_open}
use Rattle.nk_pipe.specs.Laid.{IsPipe, all_seen, past, released_at}
use Rattle.nk_pipe.proofs.ReaderLemmas.{read_get, seen_get, seen-set}
use Rattle.nk_pipe.proofs.LaidLemmas.{Loses}
use Rattle.nk_pipe.proofs.PipeLemmas.{Reading, reading, pipe_after, forgotten, open_below, length-slice_set}
use Rattle.nk_pipe.proofs.CloseLemmas.{closed_reader, closed, may_release, told_by}
use Rattle.nk_pipe.proofs.pipe.Pipe.close_at.Goals as goal

facts : (s : Inside) (i : ℕ) (r : Tracked) → IsPipe s.segment s.limit s.segments s.readers.items s.writer s.written s.ahead s.closed → OpenAt (all_seen s.readers.items) i → r ≡ get_or s.readers.items i r
    → Reading s.segment (past s.segments.segments s.written s.ahead) s.written s.ahead s.segments.segments s.readers.items s.writer i r
facts s i r is opens read =
    reading s.segment s.limit s.written s.ahead s.segments s.readers.items s.writer s.closed i r is opens (read_get s.readers.items i r (open_below s.readers.items i opens) read)

pub index-reader-requires : goal.index-reader-requires
index-reader-requires c =
    omega (arith, open_below c.self.inside.readers.items c.args.i (rw (← c.self.view_is) at c.requires), c.self.inside.readers.ok.0)

pub index_mut-requires : goal.index_mut-requires
index_mut-requires c =
    omega (arith, open_below c.self.inside.readers.items c.args.i (rw (← c.self.view_is) at c.requires), c.self.inside.readers.ok.0)

pub release-requires : goal.release-requires
release-requires c =
    may_release c.self.inside.segment _ c.self.inside.written c.self.inside.ahead c.self.inside.segments.segments c.self.inside.readers.items c.self.inside.writer c.args.i c.index-reader.result.now c.self.invariant.are
    (facts c.self.inside c.args.i c.index-reader.result.now c.self.invariant (rw (← c.self.view_is) at c.requires) c.index-reader.ensures)

lost : (s : Inside) (i : ℕ) (r : Tracked) (status : Status) → IsPipe s.segment s.limit s.segments s.readers.items s.writer s.written s.ahead s.closed
    → Reading s.segment (past s.segments.segments s.written s.ahead) s.written s.ahead s.segments.segments s.readers.items s.writer i r
    → Loses s.segment (past s.segments.segments s.written s.ahead) s.segments.segments (released_at s.segments.segments r.cursor.place) (slice_set s.readers.items i (closed_reader r status)) s.writer s.written s.ahead
lost s i r status is reading =
    closed s.segment (past s.segments.segments s.written s.ahead) s.written s.ahead s.segments.segments s.readers.items s.writer i r status is.are reading

pub invariant_of-self : goal.invariant_of-self
invariant_of-self c =
    let f = facts c.self.inside c.args.i c.index-reader.result.now c.self.invariant (rw (← c.self.view_is) at c.requires) c.index-reader.ensures in
    let l = lost c.self.inside c.args.i c.index-reader.result.now c.kept_status.result c.self.invariant f in
    let r' : Tracked = closed_reader c.index-reader.result.now c.kept_status.result in
    let are = rw c.release.ensures.released at (c.release.ensures.told (rw c.self.invariant.sized c.self.invariant.are)) in
    rw (c.release.ensures.released, c.close_of_reader-self-inside.ensures, c.any_open.ensures, c.deref.ensures.value)
    (pipe_after c.self.inside.segment c.self.inside.limit c.self.inside.written c.self.inside.ahead c.self.inside.segments _ c.self.inside.readers.items _ c.self.inside.writer c.self.inside.closed _ c.self.invariant are l (omega (arith, c.self.invariant.few, length-slice_set c.self.inside.readers.items c.args.i r'))
    (told_by (has_open (all_seen (slice_set c.self.inside.readers.items c.args.i r'))) c.self.inside.closed c.args.status))

pub returns : goal.returns
returns c =
    let f = facts c.self.inside c.args.i c.index-reader.result.now c.self.invariant (rw (← c.self.view_is) at c.requires) c.index-reader.ensures in
    let l = lost c.self.inside c.args.i c.index-reader.result.now c.kept_status.result c.self.invariant f in
    let g = forgotten c.self.inside.written c.self.inside.ahead l.lost c.self.inside.segments.segments (released_at c.self.inside.segments.segments c.index-reader.result.now.cursor.place) c.self.invariant.fits l.joined in
    rw (← c.self.view_is, seen_get c.self.inside.readers.items c.args.i c.index-reader.result.now f.get) (
      g.count,
      g.within,
      rw (c.release.ensures.released, c.close_of_reader-self-inside.ensures, c.any_open.ensures, c.deref.ensures.value, seen-set, g.past, g.bytes, c.kept_status.ensures) refl,
    )
