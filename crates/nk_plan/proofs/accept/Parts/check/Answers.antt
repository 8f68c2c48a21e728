use Rattle.nk_plan.specs.Rows.{parts_of}
use Rattle.nk_plan.proofs.Refusals.{passes_joined, passes_none, refused_answer, last_refused}
use Rattle.nk_plan.proofs.accept.Parts.check.Goals as goal

pub returns-in_err-check_hop_count-clause-err : goal.returns-in_err-check_hop_count-clause-err
returns-in_err-check_hop_count-clause-err c =
    let self = parts_of c.args.self.now in
    refused_answer self 0 c.in_err-check_hop_count.field-0.0 c.from_residual.result c.from_residual.ensures.1 (passes_none self) c.in_err-check_hop_count.ensures.err

pub returns-in_err-check_hop_order-clause-err : goal.returns-in_err-check_hop_order-clause-err
returns-in_err-check_hop_order-clause-err c =
    let self = parts_of c.args.self.now in
    let before-2 = c.in_ok-check_hop_count.ensures.ok in
    refused_answer self 2 c.in_err-check_hop_order.field-0.0 c.from_residual-in_err-check_hop_order.result c.from_residual-in_err-check_hop_order.ensures.1 before-2 c.in_err-check_hop_order.ensures.err

pub returns-in_err-check_hops-clause-err : goal.returns-in_err-check_hops-clause-err
returns-in_err-check_hops-clause-err c =
    let self = parts_of c.args.self.now in
    let before-2 = c.in_ok-check_hop_count.ensures.ok in
    let before-4 = passes_joined self 0 2 4 before-2 c.in_ok-check_hop_order.ensures.ok in
    refused_answer self 4 c.in_err-check_hops.field-0.0 c.from_residual-in_err-check_hops.result c.from_residual-in_err-check_hops.ensures.1 before-4 c.in_err-check_hops.ensures.err

pub returns-in_err-size-clause-err : goal.returns-in_err-size-clause-err
returns-in_err-size-clause-err c =
    let self = parts_of c.args.self.now in
    let before-2 = c.in_ok-check_hop_count.ensures.ok in
    let before-4 = passes_joined self 0 2 4 before-2 c.in_ok-check_hop_order.ensures.ok in
    let before-5 = passes_joined self 0 4 5 before-4 c.in_ok-check_hops.ensures.ok in
    refused_answer self 5 c.in_err-size.field-0.0 c.from_residual-in_err-size.result c.from_residual-in_err-size.ensures.1 before-5 c.in_err-size.ensures.err

pub returns-in_err-check_listener-clause-err : goal.returns-in_err-check_listener-clause-err
returns-in_err-check_listener-clause-err c =
    let self = parts_of c.args.self.now in
    let before-2 = c.in_ok-check_hop_count.ensures.ok in
    let before-4 = passes_joined self 0 2 4 before-2 c.in_ok-check_hop_order.ensures.ok in
    let before-5 = passes_joined self 0 4 5 before-4 c.in_ok-check_hops.ensures.ok in
    let before-7 = passes_joined self 0 5 7 before-5 c.in_ok-size.ensures.ok in
    refused_answer self 7 c.in_err-check_listener.field-0.0 c.from_residual-in_err-check_listener.result c.from_residual-in_err-check_listener.ensures.1 before-7 c.in_err-check_listener.ensures.err

pub returns-in_err-check_reactions-clause-err : goal.returns-in_err-check_reactions-clause-err
returns-in_err-check_reactions-clause-err c =
    let self = parts_of c.args.self.now in
    let before-2 = c.in_ok-check_hop_count.ensures.ok in
    let before-4 = passes_joined self 0 2 4 before-2 c.in_ok-check_hop_order.ensures.ok in
    let before-5 = passes_joined self 0 4 5 before-4 c.in_ok-check_hops.ensures.ok in
    let before-7 = passes_joined self 0 5 7 before-5 c.in_ok-size.ensures.ok in
    let before-8 = passes_joined self 0 7 8 before-7 c.in_ok-check_listener.ensures.ok in
    refused_answer self 8 c.in_err-check_reactions.field-0.0 c.from_residual-in_err-check_reactions.result c.from_residual-in_err-check_reactions.ensures.1 before-8 c.in_err-check_reactions.ensures.err

pub returns-in_err-check_controls-clause-err : goal.returns-in_err-check_controls-clause-err
returns-in_err-check_controls-clause-err c =
    let self = parts_of c.args.self.now in
    let before-2 = c.in_ok-check_hop_count.ensures.ok in
    let before-4 = passes_joined self 0 2 4 before-2 c.in_ok-check_hop_order.ensures.ok in
    let before-5 = passes_joined self 0 4 5 before-4 c.in_ok-check_hops.ensures.ok in
    let before-7 = passes_joined self 0 5 7 before-5 c.in_ok-size.ensures.ok in
    let before-8 = passes_joined self 0 7 8 before-7 c.in_ok-check_listener.ensures.ok in
    let before-9 = passes_joined self 0 8 9 before-8 c.in_ok-check_reactions.ensures.ok in
    refused_answer self 9 c.in_err-check_controls.field-0.0 c.from_residual-in_err-check_controls.result c.from_residual-in_err-check_controls.ensures.1 before-9 c.in_err-check_controls.ensures.err

pub returns-clause-err : goal.returns-clause-err
returns-clause-err c =
    let self = parts_of c.args.self.now in
    let before-2 = c.in_ok-check_hop_count.ensures.ok in
    let before-4 = passes_joined self 0 2 4 before-2 c.in_ok-check_hop_order.ensures.ok in
    let before-5 = passes_joined self 0 4 5 before-4 c.in_ok-check_hops.ensures.ok in
    let before-7 = passes_joined self 0 5 7 before-5 c.in_ok-size.ensures.ok in
    let before-8 = passes_joined self 0 7 8 before-7 c.in_ok-check_listener.ensures.ok in
    let before-9 = passes_joined self 0 8 9 before-8 c.in_ok-check_reactions.ensures.ok in
    let before-10 = passes_joined self 0 9 10 before-9 c.in_ok-check_controls.ensures.ok in
    last_refused self 10 c.check_window.result before-10 c.check_window.ensures.err
