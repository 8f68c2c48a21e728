use Rattle.std.proofs.Common.{◌≡◌, ◌++◌, ◌∷◌, Some, true, false, sym, ap, subst, ◌∙◌}
use Rattle.std.specs.Option.{option_copied}
use Rattle.nk_base.specs.declared.field.Field.{Field}
use Rattle.nk_base.specs.Fields.{is_good_field}
use Rattle.nk_script.proofs.Fields.{joined, same_field, no_field}
use Rattle.nk_script.proofs.field.read_field.Goals as goal

pub returns-in_default-clause-each : goal.returns-in_default-clause-each
returns-in_default-clause-each c f is = absurd (no_field c.args.rest.now f is (sym c.cut.ensures.rest ∙ ap option_copied c.in_default.is))

pub returns-then-is_good-clause-field : goal.returns-then-is_good-clause-field
returns-then-is_good-clause-field c =
    let more = sym c.cut.ensures.rest ∙ ap option_copied c.in-Some.is in
    let parts = joined c.args.rest.now c.cut.result.0.now c.in-Some.value.now c.cut.ensures.front more in
    (sym c.is_good.ensures ∙ c.if-is_good.true, subst (λ (f : Field). c.args.rest.now ≡ f.name ++ 32 ∷ f.value) (sym c.in_ok-field.ensures) parts)

pub returns-then-is_good-clause-each : goal.returns-then-is_good-clause-each
returns-then-is_good-clause-each c f is =
    let more = sym c.cut.ensures.rest ∙ ap option_copied c.in-Some.is in
    ap Some (c.in_ok-field.ensures ∙ same_field c.args.rest.now c.cut.result.0.now c.in-Some.value.now f is c.cut.ensures.front more)

pub returns-else-is_good-clause-each : goal.returns-else-is_good-clause-each
returns-else-is_good-clause-each c f is =
    let more = sym c.cut.ensures.rest ∙ ap option_copied c.in-Some.is in
    let same = c.in_ok-field.ensures ∙ same_field c.args.rest.now c.cut.result.0.now c.in-Some.value.now f is c.cut.ensures.front more in
    let good : is_good_field c.in_ok-field.field ≡ true = subst (λ (g : Field). is_good_field g ≡ true) (sym same) is.0 in
    let bad : is_good_field c.in_ok-field.field ≡ false = sym c.is_good.ensures ∙ c.if-is_good.false in
    cc
