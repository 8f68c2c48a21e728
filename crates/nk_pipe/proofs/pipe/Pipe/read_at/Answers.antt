-- A closed reader has its status; an open one has what is left, or the end.
use Rattle.std.proofs.Common.{◌≡◌, ℕ, ◌-◌, ◌<◌, ◌++◌, length, take, drop, Some, None, ◌∙◌, arith}
use Rattle.std.specs.Prelude.{slice_get}
use Rattle.std.proofs.lemmas.List.{length-take}
use Rattle.nk_pipe.specs.declared.pipe.Pipe.TheInside.{Inside}
use Rattle.nk_pipe.specs.declared.reader.Reader.{Reader as Tracked}
use Rattle.nk_pipe.specs.Kept.{count}
use Rattle.nk_pipe.specs.Laid.{IsPipe, all_seen, past, seen}
use Rattle.nk_pipe.specs.contracts.pipe.Pipe.{the_view}
use Rattle.nk_pipe.proofs.ReaderLemmas.{read_get, seen_get, length_seen, open_get}
use Rattle.nk_pipe.proofs.PipeLemmas.{Reading, reading, count_is}
use Rattle.nk_pipe.proofs.KeptLemmas.{reads_none, reads_some, reads_closed, reads_open, answer_closed, answer_end, answer_read}
use Rattle.nk_pipe.proofs.pipe.Pipe.read_at.Goals as goal

below : (s : Inside) (i : ℕ) → i < length (all_seen s.readers.items) → i < length s.readers.items
below s i b = omega (arith, b, length_seen s.readers.items)

facts : (s : Inside) (i : ℕ) (r : Tracked) → IsPipe s.segment s.limit s.segments s.readers.items s.writer s.written s.ahead s.closed → slice_get s.readers.items i ≡ Some r → r.closed ≡ None
    → Reading s.segment (past s.segments.segments s.written s.ahead) s.written s.ahead s.segments.segments s.readers.items s.writer i r
facts s i r is get opens =
    reading s.segment s.limit s.written s.ahead s.segments s.readers.items s.writer s.closed i r is (open_get s.readers.items i r get opens) get

counted : (s : Inside) → IsPipe s.segment s.limit s.segments s.readers.items s.writer s.written s.ahead s.closed → count (the_view s) ≡ s.written
counted s is = count_is s.written s.ahead s.segments.segments is.fits

pub index-reader-requires : goal.index-reader-requires
index-reader-requires c =
    omega (arith, below c.self.inside c.args.i (rw (← c.self.view_is) at c.requires.index), c.self.inside.readers.ok.0)

pub returns-in-Some-clause-answer : goal.returns-in-Some-clause-answer
returns-in-Some-clause-answer c =
    let get = read_get c.self.inside.readers.items c.args.i c.index-reader.result.now (below c.self.inside c.args.i (rw (← c.self.view_is) at c.requires.index)) c.index-reader.ensures in
    rw (← c.self.view_is, seen_get c.self.inside.readers.items c.args.i c.index-reader.result.now get)
    (answer_closed c.index-reader.result.now.closed c.in-Some.status _ (length c.args.buffer.now) c.self.inside.closed c.in-Some.is)

pub returns-in-Some-clause-reads : goal.returns-in-Some-clause-reads
returns-in-Some-clause-reads c =
    let get = read_get c.self.inside.readers.items c.args.i c.index-reader.result.now (below c.self.inside c.args.i (rw (← c.self.view_is) at c.requires.index)) c.index-reader.ensures in
    rw (← c.self.view_is, seen_get c.self.inside.readers.items c.args.i c.index-reader.result.now get)
    (reads_closed (the_view c.self.inside) c.args.i (seen c.index-reader.result.now) c.args.buffer.now c.index-reader.result.now.closed c.in-Some.status c.in-Some.is)

pub overflow_sub-left : goal.overflow_sub-left
overflow_sub-left c =
    let get = read_get c.self.inside.readers.items c.args.i c.index-reader.result.now (below c.self.inside c.args.i (rw (← c.self.view_is) at c.requires.index)) c.index-reader.ensures in
    (facts c.self.inside c.args.i c.index-reader.result.now c.self.invariant get c.in_default.is).placed.1

pub returns-then-left-eq0-clause-answer : goal.returns-then-left-eq0-clause-answer
returns-then-left-eq0-clause-answer c =
    let get = read_get c.self.inside.readers.items c.args.i c.index-reader.result.now (below c.self.inside c.args.i (rw (← c.self.view_is) at c.requires.index)) c.index-reader.ensures in
    let f = facts c.self.inside c.args.i c.index-reader.result.now c.self.invariant get c.in_default.is in
    let all = counted c.self.inside c.self.invariant in
    let end = rw (← c.self.view_is) at c.at_end.ensures in
    rw (← c.self.view_is, seen_get c.self.inside.readers.items c.args.i c.index-reader.result.now get)
    (end ∙ answer_end c.index-reader.result.now.closed (count (the_view c.self.inside) - c.index-reader.result.now.position) (length c.args.buffer.now) c.self.inside.closed c.in_default.is (omega (arith, all, c.if-left-eq0.true)))

pub returns-then-left-eq0-clause-reads : goal.returns-then-left-eq0-clause-reads
returns-then-left-eq0-clause-reads c =
    let get = read_get c.self.inside.readers.items c.args.i c.index-reader.result.now (below c.self.inside c.args.i (rw (← c.self.view_is) at c.requires.index)) c.index-reader.ensures in
    let f = facts c.self.inside c.args.i c.index-reader.result.now c.self.invariant get c.in_default.is in
    let all = counted c.self.inside c.self.invariant in
    rw (← c.self.view_is, seen_get c.self.inside.readers.items c.args.i c.index-reader.result.now get)
    (reads_open (the_view c.self.inside) (the_view c.self.inside) c.args.i (seen c.index-reader.result.now) c.args.buffer.now c.args.buffer.now c.index-reader.result.now.closed c.in_default.is
    (reads_none (the_view c.self.inside) c.args.i (seen c.index-reader.result.now) c.args.buffer.now (seen_get c.self.inside.readers.items c.args.i c.index-reader.result.now get) f.placed.0 (omega (arith, all, f.placed.1)) (omega (arith, all, c.if-left-eq0.true))))

pub hand_out-requires-clause-opens : goal.hand_out-requires-clause-opens
hand_out-requires-clause-opens c =
    let get = read_get c.self.inside.readers.items c.args.i c.index-reader.result.now (below c.self.inside c.args.i (rw (← c.self.view_is) at c.requires.index)) c.index-reader.ensures in
    rw (← c.self.view_is) (open_get c.self.inside.readers.items c.args.i c.index-reader.result.now get c.in_default.is)

pub hand_out-requires-clause-within : goal.hand_out-requires-clause-within
hand_out-requires-clause-within c =
    let get = read_get c.self.inside.readers.items c.args.i c.index-reader.result.now (below c.self.inside c.args.i (rw (← c.self.view_is) at c.requires.index)) c.index-reader.ensures in
    let f = facts c.self.inside c.args.i c.index-reader.result.now c.self.invariant get c.in_default.is in
    rw (← c.self.view_is, seen_get c.self.inside.readers.items c.args.i c.index-reader.result.now get) f.placed.0

pub hand_out-requires-clause-fits : goal.hand_out-requires-clause-fits
hand_out-requires-clause-fits c =
    let get = read_get c.self.inside.readers.items c.args.i c.index-reader.result.now (below c.self.inside c.args.i (rw (← c.self.view_is) at c.requires.index)) c.index-reader.ensures in
    let f = facts c.self.inside c.args.i c.index-reader.result.now c.self.invariant get c.in_default.is in
    let all = counted c.self.inside c.self.invariant in
    rw (← c.self.view_is, seen_get c.self.inside.readers.items c.args.i c.index-reader.result.now get)
    (omega (arith, all, f.placed.1, c.min-n.ensures, length-take c.min-n.result c.args.buffer.now))

pub returns-clause-answer : goal.returns-clause-answer
returns-clause-answer c =
    let get = read_get c.self.inside.readers.items c.args.i c.index-reader.result.now (below c.self.inside c.args.i (rw (← c.self.view_is) at c.requires.index)) c.index-reader.ensures in
    let f = facts c.self.inside c.args.i c.index-reader.result.now c.self.invariant get c.in_default.is in
    let all = counted c.self.inside c.self.invariant in
    rw (← c.self.view_is, seen_get c.self.inside.readers.items c.args.i c.index-reader.result.now get)
    (answer_read c.index-reader.result.now.closed (count (the_view c.self.inside) - c.index-reader.result.now.position) (length c.args.buffer.now) c.min-n.result c.self.inside.closed c.in_default.is (omega (arith, all, c.if-left-eq0.false)) (omega (arith, all, c.min-n.ensures)))

pub returns-clause-reads : goal.returns-clause-reads
returns-clause-reads c =
    let get = read_get c.self.inside.readers.items c.args.i c.index-reader.result.now (below c.self.inside c.args.i (rw (← c.self.view_is) at c.requires.index)) c.index-reader.ensures in
    let f = facts c.self.inside c.args.i c.index-reader.result.now c.self.invariant get c.in_default.is in
    let all = counted c.self.inside c.self.invariant in
    let size : length (take c.min-n.result c.args.buffer.now) ≡ c.min-n.result = omega (arith, c.min-n.ensures, length-take c.min-n.result c.args.buffer.now) in
    let handed = rw (← c.self.view_is, seen_get c.self.inside.readers.items c.args.i c.index-reader.result.now get, size) at c.hand_out.ensures.handed in
    let forgets = rw (← c.self.view_is, seen_get c.self.inside.readers.items c.args.i c.index-reader.result.now get, size) at c.hand_out.ensures.moved in
    rw (← c.self.view_is, seen_get c.self.inside.readers.items c.args.i c.index-reader.result.now get)
    (reads_open (the_view c.self.inside) c.hand_out.new.self c.args.i (seen c.index-reader.result.now) c.args.buffer.now (c.hand_out.new.buffer ++ drop c.min-n.result c.args.buffer.now) c.index-reader.result.now.closed c.in_default.is
    (reads_some (the_view c.self.inside) c.hand_out.new.self c.args.i c.min-n.result (seen c.index-reader.result.now) c.args.buffer.now c.hand_out.new.buffer f.placed.0 (omega (arith, all, f.placed.1)) (omega (arith, all, c.min-n.ensures)) handed forgets))
