-- An open reader with bytes left stands in a segment, and moves on in it or to the next.
use Rattle.std.proofs.Common.{◌≡◌, ℕ, ◌+◌, ◌-◌, ◌≤◌, ◌++◌, length, drop, get_or, Some, refl, ap, ◌∙◌, arith}
use Rattle.std.specs.Prelude.{slice_get, slice_set, IfSome}
use Rattle.std.proofs.lemmas.List.{length-take}
use Rattle.nk_segments.specs.Places.{Place}
use Rattle.nk_pipe.specs.declared.pipe.Pipe.TheInside.{Inside}
use Rattle.nk_pipe.specs.declared.reader.Reader.{Reader as Tracked}
use Rattle.nk_pipe.specs.Kept.{OpenAt, count}
use Rattle.nk_pipe.specs.Laid.{IsPipe, all_seen, past, joined, filled, left_at}
use Rattle.nk_pipe.specs.contracts.pipe.Pipe.{the_view}
use Rattle.nk_pipe.proofs.ReaderLemmas.{read_get, seen_get, seen-set}
use Rattle.nk_pipe.proofs.CursorLemmas.{IsAt, at_small, at_live, at_bytes}
use Rattle.nk_pipe.proofs.LaidLemmas.{Loses, stepped, taken, reader_at_place, has_open-set}
use Rattle.nk_pipe.proofs.PipeLemmas.{if_item, live_item, take_kept, Reading, reading, stands, held, count_is, pipe_after, forgotten, open_below, length-slice_set}
use Rattle.nk_pipe.proofs.pipe.Pipe.take.Goals as goal

-- what is known of the reader before its bytes are taken
record Facts (s : Inside) (i size : ℕ) (r : Tracked) : Type 0 where
  reading : Reading s.segment (past s.segments.segments s.written s.ahead) s.written s.ahead s.segments.segments s.readers.items s.writer i r
  left : r.position + size ≤ s.written

facts : (s : Inside) (i size : ℕ) (r : Tracked) → IsPipe s.segment s.limit s.segments s.readers.items s.writer s.written s.ahead s.closed → OpenAt (all_seen s.readers.items) i
    → IfSome (slice_get (all_seen s.readers.items) i) (λ r. r.position + size ≤ count (the_view s)) → r ≡ get_or s.readers.items i r → Facts s i size r
facts s i size r is opens fits read =
    let get = read_get s.readers.items i r (open_below s.readers.items i opens) read in
    let left : r.position + size ≤ count (the_view s) = rw (seen_get s.readers.items i r get) at fits in
    record {
      reading = reading s.segment s.limit s.written s.ahead s.segments s.readers.items s.writer s.closed i r is opens get;
      left = omega (arith, left, count_is s.written s.ahead s.segments.segments is.fits);
    }

at_place : (s : Inside) (i size : ℕ) (r : Tracked) (place : Place) → Facts s i size r → r.cursor.place ≡ Some place → IsAt s.segment (past s.segments.segments s.written s.ahead) s.segments.segments r.position place r.cursor.offset
at_place s i size r place facts stands =
    reader_at_place s.segment (past s.segments.segments s.written s.ahead) s.written s.segments.segments r place facts.reading.placed stands

pub index-reader-requires : goal.index-reader-requires
index-reader-requires c =
    omega (arith, open_below c.self.inside.readers.items c.args.i (rw (← c.self.view_is) at c.requires.opens), c.self.inside.readers.ok.0)

pub index_mut-requires : goal.index_mut-requires
index_mut-requires c =
    omega (arith, open_below c.self.inside.readers.items c.args.i (rw (← c.self.view_is) at c.requires.opens), c.self.inside.readers.ok.0)

pub returns-in_default : goal.returns-in_default
returns-in_default c =
    let f = facts c.self.inside c.args.i (length c.args.buffer.now) c.index-reader.result.now c.self.invariant (rw (← c.self.view_is) at c.requires.opens) (rw (← c.self.view_is) at c.requires.fits) c.index-reader.ensures in
    absurd (stands _ _ _ _ _ _ _ _ _ f.reading c.self.invariant.are (omega (arith, f.left, c.requires.some)) c.in_default.is)

pub copy_out-n-requires-clause-live : goal.copy_out-n-requires-clause-live
copy_out-n-requires-clause-live c =
    let f = facts c.self.inside c.args.i (length c.args.buffer.now) c.index-reader.result.now c.self.invariant (rw (← c.self.view_is) at c.requires.opens) (rw (← c.self.view_is) at c.requires.fits) c.index-reader.ensures in
    at_live _ _ _ _ _ _ (at_place c.self.inside c.args.i _ c.index-reader.result.now c.in-Some.place f c.in-Some.is)

pub copy_out-n-requires-clause-within : goal.copy_out-n-requires-clause-within
copy_out-n-requires-clause-within c =
    let f = facts c.self.inside c.args.i (length c.args.buffer.now) c.index-reader.result.now c.self.invariant (rw (← c.self.view_is) at c.requires.opens) (rw (← c.self.view_is) at c.requires.fits) c.index-reader.ensures in
    rw c.self.invariant.sized (at_small _ _ _ _ _ _ (at_place c.self.inside c.args.i _ c.index-reader.result.now c.in-Some.place f c.in-Some.is))

pub passing-cursor-requires-clause-live : goal.passing-cursor-requires-clause-live
passing-cursor-requires-clause-live c =
    let f = facts c.self.inside c.args.i (length c.args.buffer.now) c.index-reader.result.now c.self.invariant (rw (← c.self.view_is) at c.requires.opens) (rw (← c.self.view_is) at c.requires.fits) c.index-reader.ensures in
    at_live _ _ _ _ _ _ (at_place c.self.inside c.args.i _ c.index-reader.result.now c.in-Some.place f c.in-Some.is)

pub passing-cursor-requires-clause-held : goal.passing-cursor-requires-clause-held
passing-cursor-requires-clause-held c =
    let f = facts c.self.inside c.args.i (length c.args.buffer.now) c.index-reader.result.now c.self.invariant (rw (← c.self.view_is) at c.requires.opens) (rw (← c.self.view_is) at c.requires.fits) c.index-reader.ensures in
    if_item c.self.inside.segments.segments c.in-Some.place (held _ _ _ _ _ _ _ _ _ c.in-Some.place f.reading c.self.invariant.are c.in-Some.is)

pub overflow_add-reader : goal.overflow_add-reader
overflow_add-reader c =
    let f = facts c.self.inside c.args.i (length c.args.buffer.now) c.index-reader.result.now c.self.invariant (rw (← c.self.view_is) at c.requires.opens) (rw (← c.self.view_is) at c.requires.fits) c.index-reader.ensures in
    omega (arith, f.left, c.copy_out-n.ensures.most, c.self.ranges)

-- the reader has moved, and what no reader needs is gone
lost : (s : Inside) (i size : ℕ) (r : Tracked) (place : Place) (n : ℕ) → IsPipe s.segment s.limit s.segments s.readers.items s.writer s.written s.ahead s.closed → Facts s i size r → r.cursor.place ≡ Some place
    → r.cursor.offset + n ≤ s.segments.size → n ≤ size
    → Loses s.segment (past s.segments.segments s.written s.ahead) s.segments.segments (left_at s.segment s.segments.segments place (r.cursor.offset + n)) (slice_set s.readers.items i (stepped s.segment s.segments.segments r place n)) s.writer s.written s.ahead
lost s i size r place n is facts stands fits few =
    taken s.segment (past s.segments.segments s.written s.ahead) s.written s.ahead s.segments.segments s.readers.items s.writer i r place n (omega (arith, is.least)) is.are facts.reading.laid facts.reading.get facts.reading.opens stands (omega (arith, fits, is.sized)) (omega (arith, facts.left, few))

pub invariant_of-self : goal.invariant_of-self
invariant_of-self c =
    let s : Inside = c.self.inside in
    let r : Tracked = c.index-reader.result.now in
    let f = facts c.self.inside c.args.i (length c.args.buffer.now) c.index-reader.result.now c.self.invariant (rw (← c.self.view_is) at c.requires.opens) (rw (← c.self.view_is) at c.requires.fits) c.index-reader.ensures in
    let l = lost c.self.inside c.args.i (length c.args.buffer.now) c.index-reader.result.now c.in-Some.place c.copy_out-n.result c.self.invariant f c.in-Some.is c.copy_out-n.ensures.fits c.copy_out-n.ensures.most in
    let r' : Tracked = stepped c.self.inside.segment c.self.inside.segments.segments c.index-reader.result.now c.in-Some.place c.copy_out-n.result in
    let are = rw c.passing-cursor.ensures.segments at (c.passing-cursor.ensures.told (rw c.self.invariant.sized c.self.invariant.are)) in
    rw (c.passing-cursor.ensures.segments, c.passing-cursor.ensures.cursor)
    (pipe_after c.self.inside.segment c.self.inside.limit c.self.inside.written c.self.inside.ahead c.self.inside.segments _ c.self.inside.readers.items _ c.self.inside.writer c.self.inside.closed c.self.inside.closed c.self.invariant are l (omega (arith, c.self.invariant.few, length-slice_set c.self.inside.readers.items c.args.i r'))
    (λ _. has_open-set c.self.inside.readers.items c.args.i c.index-reader.result.now r' f.reading.get (rw f.reading.opens refl)))

pub returns-clause-handed : goal.returns-clause-handed
returns-clause-handed c =
    let f = facts c.self.inside c.args.i (length c.args.buffer.now) c.index-reader.result.now c.self.invariant (rw (← c.self.view_is) at c.requires.opens) (rw (← c.self.view_is) at c.requires.fits) c.index-reader.ensures in
    let at = at_place c.self.inside c.args.i (length c.args.buffer.now) c.index-reader.result.now c.in-Some.place f c.in-Some.is in
    let item = live_item c.self.inside.segments.segments c.in-Some.place (at_live _ _ _ _ _ _ at) in
    let copied = rw item.1 at c.copy_out-n.ensures.copied in
    let bytes = at_bytes _ _ _ _ _ _ c.copy_out-n.result item.0 (omega (arith, c.copy_out-n.ensures.fits, c.self.invariant.sized)) c.self.invariant.are item.1 at in
    let kept = count_is c.self.inside.written c.self.inside.ahead c.self.inside.segments.segments c.self.invariant.fits in
    let short = length-take (filled c.self.inside.segments.segments c.self.inside.ahead) (joined c.self.inside.segments.segments) in
    let same = take_kept c.self.inside.ahead (c.index-reader.result.now.position - past c.self.inside.segments.segments c.self.inside.written c.self.inside.ahead) c.copy_out-n.result c.self.inside.segments.segments (omega (arith, f.left, f.reading.placed.0, kept, short, c.copy_out-n.ensures.most)) in
    rw (← c.self.view_is, seen_get c.self.inside.readers.items c.args.i c.index-reader.result.now f.reading.get)
    (copied ∙ ap (λ xs. xs ++ drop c.copy_out-n.result c.args.buffer.now) (bytes ∙ same))

pub returns-clause-moved : goal.returns-clause-moved
returns-clause-moved c =
    let f = facts c.self.inside c.args.i (length c.args.buffer.now) c.index-reader.result.now c.self.invariant (rw (← c.self.view_is) at c.requires.opens) (rw (← c.self.view_is) at c.requires.fits) c.index-reader.ensures in
    let l = lost c.self.inside c.args.i (length c.args.buffer.now) c.index-reader.result.now c.in-Some.place c.copy_out-n.result c.self.invariant f c.in-Some.is c.copy_out-n.ensures.fits c.copy_out-n.ensures.most in
    let g = forgotten c.self.inside.written c.self.inside.ahead l.lost c.self.inside.segments.segments (left_at c.self.inside.segment c.self.inside.segments.segments c.in-Some.place (c.index-reader.result.now.cursor.offset + c.copy_out-n.result)) c.self.invariant.fits l.joined in
    rw (← c.self.view_is, seen_get c.self.inside.readers.items c.args.i c.index-reader.result.now f.reading.get) (
      g.count,
      g.within,
      rw (c.passing-cursor.ensures.segments, c.passing-cursor.ensures.cursor, seen-set, g.past, g.bytes) refl,
    )

pub returns-clause-within : goal.returns-clause-within
returns-clause-within c =
    let f = facts c.self.inside c.args.i (length c.args.buffer.now) c.index-reader.result.now c.self.invariant (rw (← c.self.view_is) at c.requires.opens) (rw (← c.self.view_is) at c.requires.fits) c.index-reader.ensures in
    rw (← c.self.view_is, seen_get c.self.inside.readers.items c.args.i c.index-reader.result.now f.reading.get) f.reading.placed.0
