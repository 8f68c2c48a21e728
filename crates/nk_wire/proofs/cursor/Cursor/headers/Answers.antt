-- Each turn reads the next field, or ends with what is wrong with it.
use Rattle.std.proofs.Common.{sym, ◌∙◌, ◌-◌, ◌+◌, arith, length-append}
use Rattle.std.proofs.lemmas.Result.{err_from_is_err_and}
use Rattle.nk_base.specs.declared.field.Field.{Field}
use Rattle.nk_wire.proofs.HeaderLoop.{with_front-step, with_front-fails, with_front-done, are_good_fields-push}
use Rattle.nk_wire.proofs.cursor.Cursor.headers.Goals as goal

pub returns-in_err-field-clause-value : goal.returns-in_err-field-clause-value
returns-in_err-field-clause-value c =
    let p = err_from_is_err_and c.from_residual.result c.from_residual.ensures.1 in
    let n = c.args.count - c.loop.counter in
    let fails = with_front-fails c.in_err-field.field-0.0 c.loop.fields n (c.args.count - (c.loop.counter + 1)) c.loop.self (omega arith) c.in_err-field.ensures.value in
    rw (p.1, p.2, ← c.loop.invariant.value) fails

pub loop-preserved : goal.loop-preserved
loop-preserved c =
    let f = c.in_ok-field.field in
    let n = c.args.count - c.loop.counter in
    rw c.in_ok-push.ensures.ok (record {
      value = sym (with_front-step c.loop.fields n (c.args.count - (c.loop.counter + 1)) c.loop.self c.header.new.self f (omega arith) c.in_ok-field.ensures.value) ∙ c.loop.invariant.value;
      count = omega (arith, length-append {A = Field});
      good = are_good_fields-push c.loop.fields f c.loop.invariant.good c.in_ok-field.ensures.good;
    })

pub returns-clause-value : goal.returns-clause-value
returns-clause-value c = sym c.loop.invariant.value ∙ with_front-done c.loop.fields (c.args.count - c.loop.counter) c.loop.self (omega arith)
