-- The next frame is listed, or is wrong.
use Rattle.std.proofs.Common.{◌≡◌, ◌++◌, ℕ, ap, sym, subst, ◌∙◌, arith}
use Rattle.nk_run.specs.declared.failure.Failure.{Failure}
use Rattle.nk_run.specs.Frames.{frame_line}
use Rattle.nk_run.specs.Listing.{Stops}
use Rattle.nk_run.proofs.Listings.{listed_next, listed_stays, stops_next}
use Rattle.nk_run.proofs.frames.Listing.line.Goals as goal

pub returns-in-Ok-None-clause-listed : goal.returns-in-Ok-None-clause-listed
returns-in-Ok-None-clause-listed c = λ fed are h.
    let next = rw c.in-Ok-None.field-0-is at c.in-Ok-None.ensures.next in
    listed_stays fed _ c.args.self.now.frames c.next.new.self (next h.no_error) h

pub returns-in-Ok-None-clause-part : goal.returns-in-Ok-None-clause-part
returns-in-Ok-None-clause-part c = λ e. rw c.in-Ok-None.field-0-is at c.in-Ok-None.ensures.part

pub returns-in-Ok-clause-listed : goal.returns-in-Ok-clause-listed
returns-in-Ok-clause-listed c = λ fed are h.
    let next = rw c.in-Ok-Some.field-0-is at c.in-Ok-Some.ensures.next in
    let m = c.in-Ok-Some.message in
    let printed : c.print_line.new.printer ≡ c.args.self.now.printer ++ frame_line c.args.self.now.frames.offset m =
    c.in-Ok.ensures ∙ ap (λ (k : ℕ). c.args.self.now.printer ++ frame_line k m) c.offset-offset.ensures in
    listed_next c.one_spelling.ensures.only c.frames_are_read.ensures.only fed c.args.self.now.frames c.next.new.self m _ _ are h
    (next h.no_error) c.next.ensures.total printed

pub returns-clause-stops : goal.returns-clause-stops
returns-clause-stops c = λ fed more are h.
    subst (λ (f : Failure). Stops f (fed ++ more)) (sym c.of_frame.ensures)
    (stops_next c.one_stands_first.ensures.is fed more _ c.args.self.now.frames c.next.new.self c.in-Err.error are h (c.in-Err.ensures.next h.no_error))

pub returns-in-Ok-clause-part : goal.returns-in-Ok-clause-part
returns-in-Ok-clause-part c = λ e. absurd (cc)

pub returns-in-Ok-clause-shrinks : goal.returns-in-Ok-clause-shrinks
returns-in-Ok-clause-shrinks c = λ e.
    let further = rw c.in-Ok-Some.field-0-is at c.in-Ok-Some.ensures.shrinks in
    omega (arith, further, c.next.ensures.total)

pub returns-in-Ok-clause-total : goal.returns-in-Ok-clause-total
returns-in-Ok-clause-total c = c.next.ensures.total

pub returns-in-Ok-clause-stops : goal.returns-in-Ok-clause-stops
returns-in-Ok-clause-stops c = λ fed more are h. tt

pub returns-in-Ok-Some-clause-total : goal.returns-in-Ok-Some-clause-total
returns-in-Ok-Some-clause-total c = c.next.ensures.total

pub returns-in-Ok-Some-clause-stops : goal.returns-in-Ok-Some-clause-stops
returns-in-Ok-Some-clause-stops c = λ fed more are h. tt
