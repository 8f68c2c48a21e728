-- The writer stands in a segment where there is room ahead, and moves on in it or behind it.
use Rattle.std.proofs.Common.{◌≡◌, ℕ, ◌+◌, ◌≤◌, List, length, take, true, Some, Option, refl, sym, ap, ◌∙◌, arith}
use Rattle.std.proofs.lemmas.List.{length-take}
use Rattle.nk_segments.specs.Places.{Place}
use Rattle.nk_segments.specs.Segments.{with_bytes, changed_at, AreSegments}
use Rattle.nk_pipe.specs.declared.pipe.Pipe.TheInside.{Inside}
use Rattle.nk_pipe.specs.declared.cursor.Cursor.{Cursor}
use Rattle.nk_pipe.specs.Pipe.{has_open}
use Rattle.nk_pipe.specs.Laid.{IsPipe, IsLaid, all_seen, past}
use Rattle.nk_pipe.proofs.CursorLemmas.{IsAt, at_small, at_live, cursor_at, cursor_end, end_behind}
use Rattle.nk_pipe.proofs.PipeLemmas.{live-at}
use Rattle.nk_pipe.proofs.WholeLemmas.{Puts, puts}
use Rattle.nk_pipe.proofs.pipe.Pipe.fill.Goals as goal

abbrev from : Inside → ℕ
from s = past s.segments.segments s.written s.ahead

Laid : Inside → Type 0
Laid s = IsLaid s.segment (past s.segments.segments s.written s.ahead) s.segments.segments s.readers.items s.writer s.written s.ahead

at_place : (s : Inside) (place : Place) → IsLaid s.segment (from s) s.segments.segments s.readers.items s.writer s.written s.ahead → s.writer.place ≡ Some place → IsAt s.segment (from s) s.segments.segments s.written place s.writer.offset
at_place s place laid stands =
    cursor_at s.segment (from s) s.segments.segments s.written place s.writer.offset laid.starts (sym laid.writes ∙ ap (λ (p : Option Place). let c : Cursor = record { place = p; offset = s.writer.offset } in c) stands)

pub returns-in_default : goal.returns-in_default
returns-in_default c =
    let laid = c.self.invariant.laid (rw (← c.self.view_is) at c.requires.opens) in
    let e = cursor_end c.self.inside.segment (from c.self.inside) c.self.inside.segments.segments c.self.inside.written c.self.inside.writer.offset (sym laid.writes ∙ ap (λ (p : Option Place). let w : Cursor = record { place = p; offset = c.self.inside.writer.offset } in w) c.in_default.is) in
    let some : length c.args.bytes.now ≤ c.self.inside.ahead = rw (← c.self.view_is) at c.requires.fits in
    absurd (omega (arith, end_behind c.self.inside.segment (from c.self.inside) c.self.inside.segments.segments c.self.inside.written laid.starts c.self.invariant.are e, laid.ends, some, c.requires.some))

pub put_in-n-requires-clause-live : goal.put_in-n-requires-clause-live
put_in-n-requires-clause-live c =
    at_live _ _ _ _ _ _ (at_place c.self.inside c.in-Some.place (c.self.invariant.laid (rw (← c.self.view_is) at c.requires.opens)) c.in-Some.is)

pub put_in-n-requires-clause-within : goal.put_in-n-requires-clause-within
put_in-n-requires-clause-within c =
    at_small _ _ _ _ _ _ (at_place c.self.inside c.in-Some.place (c.self.invariant.laid (rw (← c.self.view_is) at c.requires.opens)) c.in-Some.is)

pub within-self-inside-requires : goal.within-self-inside-requires
within-self-inside-requires c =
    let live = at_live _ _ _ _ _ _ (at_place c.self.inside c.in-Some.place (c.self.invariant.laid (rw (← c.self.view_is) at c.requires.opens)) c.in-Some.is) in
    rw c.put_in-n.ensures.put (live-at (with_bytes c.self.inside.writer.offset (take c.put_in-n.result c.args.bytes.now)) c.self.inside.segments.segments c.in-Some.place c.in-Some.place live)

taken : (n : ℕ) (bytes : List ℕ) → n ≤ length bytes → length (take n bytes) ≡ n
taken n bytes few = omega (arith, few, length-take n bytes)

put_there : (s : Inside) (place : Place) (n : ℕ) (bytes : List ℕ) → IsPipe s.segment s.limit s.segments s.readers.items s.writer s.written s.ahead s.closed → AreSegments s.segments.size (changed_at (with_bytes s.writer.offset (take n bytes)) s.segments.segments place)
    → has_open (all_seen s.readers.items) ≡ true → s.writer.place ≡ Some place → s.writer.offset + n ≤ s.segment → n ≤ length bytes → length bytes ≤ s.ahead → Puts s.segment s.limit s.written s.ahead s.segments place s.writer.offset n (take n bytes) s.readers.items s.closed
put_there s place n bytes is are opens stands fits few room =
    puts s.segment s.limit s.written s.ahead s.segments place s.writer.offset n (take n bytes) s.readers.items s.writer s.closed is are opens (at_place s place (is.laid opens) stands) fits (taken n bytes few) (omega (arith, few, room))

pub invariant_of-self : goal.invariant_of-self
invariant_of-self c =
    let p = put_there c.self.inside c.in-Some.place c.put_in-n.result c.args.bytes.now c.self.invariant (rw c.put_in-n.ensures.put at c.put_in-n.ensures.told) (rw (← c.self.view_is) at c.requires.opens) c.in-Some.is c.put_in-n.ensures.fits c.put_in-n.ensures.most (rw (← c.self.view_is) at c.requires.fits) in
    rw (c.within-self-inside.ensures, c.put_in-n.ensures.put) p.pipe

pub returns-clause-filled : goal.returns-clause-filled
returns-clause-filled c =
    let p = put_there c.self.inside c.in-Some.place c.put_in-n.result c.args.bytes.now c.self.invariant (rw c.put_in-n.ensures.put at c.put_in-n.ensures.told) (rw (← c.self.view_is) at c.requires.opens) c.in-Some.is c.put_in-n.ensures.fits c.put_in-n.ensures.most (rw (← c.self.view_is) at c.requires.fits) in
    rw (← c.self.view_is, c.put_in-n.ensures.put, p.past, p.bytes) refl
