-- The entry stands behind the others, and what then flows is the model's.
use Rattle.std.proofs.Common.{◌≡◌, ◌∷◌, [], ◌∙◌, sym, ap, subst, List, length, arith}
use Rattle.nk_base.specs.declared.message.Entry.{Entry}
use Rattle.nk_sink.specs.Listener.{if_piped, flowed}
use Rattle.nk_plan.specs.Readers.{body_of}
use Rattle.nk_sink.specs.Sunk.{piped_in, IsFedIn}
use Rattle.nk_sink.proofs.Showing.{fed_append, shows, more_is}
use Rattle.nk_sink.proofs.listener.show.Goals as goal

pub flow-requires-clause-fed : goal.flow-requires-clause-fed
flow-requires-clause-fed c =
    let same = c.as_slice.ensures ∙ c.in_ok-push.ensures.ok in
    subst (λ (es : List Entry). IsFedIn es c.args.feed.now) (sym same) (fed_append c.args.entries.now (c.args.e ∷ []) c.args.feed.now c.requires.fed)

pub flow-requires-clause-few : goal.flow-requires-clause-few
flow-requires-clause-few c =
    let same = c.as_slice.ensures ∙ c.in_ok-push.ensures.ok in
    omega (arith, ap (λ es. length (body_of es)) same, more_is c.args.entries.now c.args.e, c.check_size.ensures, c.requires.few)

pub returns-clause-shown : goal.returns-clause-shown
returns-clause-shown c =
    let same = c.as_slice.ensures ∙ c.in_ok-push.ensures.ok in
    ap (λ es. piped_in es c.flow.new.feed) c.in_ok-push.ensures.ok
    ∙ subst (λ es. piped_in es c.flow.new.feed ≡ if_piped (λ w. flowed w) (piped_in es c.args.feed.now)) same c.in-Ok.ensures.flowed
    ∙ shows c.args.entries.now c.args.e c.args.feed.now c.requires.fed c.requires.piped

pub returns-clause-grown : goal.returns-clause-grown
returns-clause-grown c =
    omega (arith, ap (λ es. length (body_of es)) c.in_ok-push.ensures.ok, more_is c.args.entries.now c.args.e, c.check_size.ensures)
