-- A clone stands where the original stands.
use Rattle.std.proofs.Common.{◌≡◌, ℕ, ◌<◌, [], ◌∷◌, ◌++◌, length, Some, None, inl, refl, sym, arith}
use Rattle.std.specs.Prelude.{slice_get}
use Rattle.std.proofs.lemmas.Grind.{common_steps}
use Rattle.std.proofs.lemmas.List.{length_push}
use Rattle.nk_pipe.specs.declared.pipe.Pipe.TheInside.{Inside}
use Rattle.nk_pipe.specs.declared.reader.Reader.{Reader as Tracked}
use Rattle.nk_pipe.specs.Laid.{IsPipe, all_seen, past}
use Rattle.nk_pipe.proofs.ReaderLemmas.{read_get, seen_get, seen-append, length_seen, open_get}
use Rattle.nk_pipe.proofs.PipeLemmas.{Reading, reading, pipe_after}
use Rattle.nk_pipe.proofs.CloseLemmas.{refused, too_many, may_clone, clone_reader, cloned_reader, may_hold, joined-held, has_open-append}
use Rattle.nk_pipe.proofs.pipe.Pipe.clone_at.Goals as goal

below : (s : Inside) (i : ℕ) → i < length (all_seen s.readers.items) → i < length s.readers.items
below s i b = omega (arith, b, length_seen s.readers.items)

facts : (s : Inside) (i : ℕ) (r : Tracked) → IsPipe s.segment s.limit s.segments s.readers.items s.writer s.written s.ahead s.closed → slice_get s.readers.items i ≡ Some r → r.closed ≡ None
    → Reading s.segment (past s.segments.segments s.written s.ahead) s.written s.ahead s.segments.segments s.readers.items s.writer i r
facts s i r is get opens =
    reading s.segment s.limit s.written s.ahead s.segments s.readers.items s.writer s.closed i r is (open_get s.readers.items i r get opens) get

pub index-reader-requires : goal.index-reader-requires
index-reader-requires c =
    omega (arith, below c.self.inside c.args.i (rw (← c.self.view_is) at c.requires), c.self.inside.readers.ok.0)

pub returns-in-Some : goal.returns-in-Some
returns-in-Some c =
    let get = read_get c.self.inside.readers.items c.args.i c.index-reader.result.now (below c.self.inside c.args.i (rw (← c.self.view_is) at c.requires)) c.index-reader.ensures in
    rw (← c.self.view_is, seen_get c.self.inside.readers.items c.args.i c.index-reader.result.now get) (refl, inl (sym (refused c.index-reader.result.now.closed (length (all_seen c.self.inside.readers.items)) c.in-Some.status c.in-Some.is)))

pub returns-then-made-ge8 : goal.returns-then-made-ge8
returns-then-made-ge8 c =
    let get = read_get c.self.inside.readers.items c.args.i c.index-reader.result.now (below c.self.inside c.args.i (rw (← c.self.view_is) at c.requires)) c.index-reader.ensures in
    rw (← c.self.view_is, seen_get c.self.inside.readers.items c.args.i c.index-reader.result.now get)
    (refl, inl (sym (too_many c.index-reader.result.now.closed (length (all_seen c.self.inside.readers.items)) c.in_default.is (omega (arith, length_seen c.self.inside.readers.items, c.self.inside.readers.ok.0)))))

pub hold-requires : goal.hold-requires
hold-requires c =
    let get = read_get c.self.inside.readers.items c.args.i c.index-reader.result.now (below c.self.inside c.args.i (rw (← c.self.view_is) at c.requires)) c.index-reader.ensures in
    let f = facts c.self.inside c.args.i c.index-reader.result.now c.self.invariant get c.in_default.is in
    may_hold c.self.inside.segment _ c.self.inside.written c.self.inside.ahead c.self.inside.segments.segments c.self.inside.readers.items c.self.inside.writer c.args.i c.index-reader.result.now f (omega (arith, c.self.inside.readers.ok.0))

pushed : (c : goal.After-hold) → c.push.new.self.items ≡ c.self.inside.readers.items ++ clone_reader c.index-reader.result.now ∷ []
pushed c = grind (arith, common_steps, c.push.ensures.items, c.is_err.ensures.value, c.is_err.ensures.negation, c.if-is_err.false)

pub invariant_of-self-2 : goal.invariant_of-self-2
invariant_of-self-2 c =
    let get = read_get c.self.inside.readers.items c.args.i c.index-reader.result.now (below c.self.inside c.args.i (rw (← c.self.view_is) at c.requires)) c.index-reader.ensures in
    let f = facts c.self.inside c.args.i c.index-reader.result.now c.self.invariant get c.in_default.is in
    let few : length c.self.inside.readers.items < 8 = omega (arith, c.self.inside.readers.ok.0) in
    let l = cloned_reader c.self.inside.segment _ c.self.inside.written c.self.inside.ahead c.self.inside.segments.segments c.self.inside.readers.items c.self.inside.writer c.args.i c.index-reader.result.now c.self.invariant.are f few in
    let are = rw c.hold.ensures.held at (c.hold.ensures.told (rw c.self.invariant.sized c.self.invariant.are)) in
    rw (c.hold.ensures.held, pushed c)
    (pipe_after c.self.inside.segment c.self.inside.limit c.self.inside.written c.self.inside.ahead c.self.inside.segments _ c.self.inside.readers.items _ c.self.inside.writer c.self.inside.closed c.self.inside.closed c.self.invariant are l (omega (arith, few, length_push c.self.inside.readers.items (clone_reader c.index-reader.result.now)))
    (λ _. has_open-append c.self.inside.readers.items (clone_reader c.index-reader.result.now) refl))

pub returns : goal.returns
returns c =
    let get = read_get c.self.inside.readers.items c.args.i c.index-reader.result.now (below c.self.inside c.args.i (rw (← c.self.view_is) at c.requires)) c.index-reader.ensures in
    let few : length c.self.inside.readers.items < 8 = omega (arith, c.self.inside.readers.ok.0) in
    let made : c.len-made.result ≡ length (all_seen c.self.inside.readers.items) = omega (arith, c.len-made.ensures, length_seen c.self.inside.readers.items, c.self.inside.readers.ok.0) in
    rw (← c.self.view_is, seen_get c.self.inside.readers.items c.args.i c.index-reader.result.now get) (
      rw (c.hold.ensures.held, pushed c, seen-append, joined-held) refl,
      rw made (sym (may_clone c.index-reader.result.now.closed (length (all_seen c.self.inside.readers.items)) c.in_default.is (omega (arith, few, length_seen c.self.inside.readers.items)))),
    )
