-- A new segment changes nothing of what is kept.
use Rattle.std.proofs.Common.{◌≡◌, ℕ, ◌++◌, List, [], ◌∷◌, length, replicate, true, refl, ap, ◌∙◌, arith}
use Rattle.nk_segments.specs.Places.{Place}
use Rattle.nk_segments.specs.Segments.{AreSegments}
use Rattle.nk_pipe.specs.declared.reader.Reader.{Reader as Tracked}
use Rattle.nk_pipe.specs.Pipe.{has_open}
use Rattle.std.specs.Vec.{with_items}
use Rattle.std.proofs.lemmas.List.{with_items_is, length-replicate}
use Rattle.nk_pipe.specs.declared.pipe.Pipe.TheInside.{Inside}
use Rattle.nk_pipe.specs.Laid.{IsPipe, all_seen, open_count, all_reaching}
use Rattle.nk_pipe.proofs.ReaderLemmas.{length_seen, seen_reaching}
use Rattle.nk_pipe.proofs.WriteLemmas.{few_open, length_reaching}
use Rattle.nk_pipe.proofs.WholeLemmas.{Adds, adds}
use Rattle.nk_pipe.proofs.pipe.Pipe.add_segment.Goals as goal

pub add_back-requires : goal.add_back-requires
add_back-requires c =
    rw (c.count_open-readers.ensures, c.deref.ensures.value) (omega (arith, few_open (all_seen c.self.inside.readers.items), length_seen c.self.inside.readers.items, c.self.invariant.few))

-- the new segment stands behind the others, and the readers and the writer have reached it
added : (s : Inside) (place : Place) (n : ℕ) → IsPipe s.segment s.limit s.segments s.readers.items s.writer s.written s.ahead s.closed → has_open (all_seen s.readers.items) ≡ true
    → AreSegments s.segments.size (s.segments.segments ++ (place, record { bytes = replicate s.segments.size 0; readers = n }) ∷ []) → n ≡ open_count (all_seen s.readers.items) → Adds s.segment s.limit s.written s.ahead s.segments (s.segments.segments ++ (place, record { bytes = replicate s.segments.size 0; readers = n }) ∷ []) place s.readers.items s.writer s.closed
added s place n is opens are counts =
    adds s.segment s.limit s.written s.ahead s.segments place (record { bytes = replicate s.segments.size 0; readers = n }) s.readers.items s.writer s.closed is opens are (length-replicate s.segments.size 0 ∙ is.sized) counts

all_moved : (s : Inside) (place : Place) (ws : List Tracked) → ws ≡ all_reaching place s.readers.items → (with_items s.readers ws).items ≡ all_reaching place s.readers.items
all_moved s place ws is =
    with_items_is s.readers ws (omega (arith, ap (λ (xs : List Tracked). length xs) is, length_reaching place s.readers.items, s.readers.ok.0)) ∙ is

pub invariant_of-self-2 : goal.invariant_of-self-2
invariant_of-self-2 c =
    let counts = c.count_open-readers.ensures ∙ ap (λ (xs : List Tracked). open_count (all_seen xs)) c.deref.ensures.value in
    let a = added c.self.inside c.in_ok-place.place c.count_open-readers.result c.self.invariant (rw (← c.self.view_is) at c.requires.opens) (rw c.in_ok-place.ensures.added at c.in_ok-place.ensures.told) counts in
    let readers = all_moved c.self.inside c.in_ok-place.place c.all_reach.new.readers (c.all_reach.ensures ∙ ap (all_reaching c.in_ok-place.place) c.deref_mut.ensures.value) in
    rw (readers, c.in_ok-place.ensures.added, c.reaching-self-inside.ensures, c.from.ensures) a.pipe

pub returns-clause-ok : goal.returns-clause-ok
returns-clause-ok c =
    let counts = c.count_open-readers.ensures ∙ ap (λ (xs : List Tracked). open_count (all_seen xs)) c.deref.ensures.value in
    let a = added c.self.inside c.in_ok-place.place c.count_open-readers.result c.self.invariant (rw (← c.self.view_is) at c.requires.opens) (rw c.in_ok-place.ensures.added at c.in_ok-place.ensures.told) counts in
    let readers = all_moved c.self.inside c.in_ok-place.place c.all_reach.new.readers (c.all_reach.ensures ∙ ap (all_reaching c.in_ok-place.place) c.deref_mut.ensures.value) in
    rw (← c.self.view_is, readers, seen_reaching, c.in_ok-place.ensures.added, c.from.ensures, a.past, a.bytes) refl
