-- The look told a message: its frame is used.
use Rattle.std.proofs.Common.{◌≡◌, ◌+◌, None, drop, ap, subst, Ok, Err, Some}
use Rattle.nk_wire.specs.Streams.{Stream, first, IsNext, Looks}
use Rattle.nk_wire.proofs.Firsts.{made, all_from, next-from_view, none_next, fail_next}
use Rattle.nk_wire.proofs.frames.Frames.next.Goals as goal

pub returns-in-Ok-Some-clause-next : goal.returns-in-Ok-Some-clause-next
returns-in-Ok-Some-clause-next c =
    let told = rw c.in-Ok-Some.field-0-is at c.in-Ok-Some.ensures in
    let i = c.self.inside in
    let m = c.in-Ok-Some.message in
    let size = c.in-Ok-Some.size in
    let look : Looks (first (drop i.used i.bytes.items)) (Ok (Some (m, size))) =
    subst (λ bytes. Looks (first bytes) (Ok (Some (m, size)))) (all_from c.deref.result.now i.bytes.items i.used c.deref.ensures.value) told in
    subst (λ (s : Stream). s.error ≡ None → IsNext s (first s.unused) (Ok (Some m)) (made (drop (i.used + size) i.bytes.items) (i.offset + size) i.error)) c.self.view_is
    (λ none. next-from_view i.bytes.items i.used i.offset i.error m size look)

pub returns-in-Ok-None-clause-next : goal.returns-in-Ok-None-clause-next
returns-in-Ok-None-clause-next c =
    let told = rw c.in-Ok-None.field-0-is at c.in-Ok-None.ensures in
    let i = c.self.inside in
    let look : Looks (first (drop i.used i.bytes.items)) (Ok None) =
    subst (λ bytes. Looks (first bytes) (Ok None)) (all_from c.deref.result.now i.bytes.items i.used c.deref.ensures.value) told in
    subst (λ (s : Stream). s.error ≡ None → IsNext s (first s.unused) (Ok None) s) c.self.view_is
    (λ none. none_next (made (drop i.used i.bytes.items) i.offset i.error) (first (drop i.used i.bytes.items)) look)

pub returns-in-Err-clause-next : goal.returns-in-Err-clause-next
returns-in-Err-clause-next c = λ none.
    let i = c.self.inside in
    let look : Looks (first (drop i.used i.bytes.items)) (Err c.in-Err.cause) =
    subst (λ bytes. Looks (first bytes) (Err c.in-Err.cause)) (all_from c.deref.result.now i.bytes.items i.used c.deref.ensures.value) c.in-Err.ensures in
    let unused = ap (λ (s : Stream). s.unused) c.self.view_is in
    fail_next c.args.self.now c.fail.new.self (first c.args.self.now.unused) c.in-Err.cause c.fail.result
    (subst (λ bytes. Looks (first bytes) (Err c.in-Err.cause)) unused look) c.fail.ensures.answer c.fail.ensures.stands
