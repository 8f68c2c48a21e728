-- What the source of the body gives next is the row of the table.
use Rattle.std.proofs.Common.{◌≡◌, ◌∙◌, ap, sym, refl, Some, None, Option, true}
use Rattle.nk_base.specs.Status.{is_failure, merged}
use Rattle.nk_base.specs.declared.status.Status.{Status}
use Rattle.nk_plan.specs.Parent.{ParentState}
use Rattle.nk_parent.specs.Views.{LoadView}
use Rattle.nk_parent.proofs.Bodies.{Here, here_of}
use Rattle.nk_parent.proofs.Sends.{piece_row, end_row, fail_row, failing_end, credit_left}
use Rattle.nk_parent.proofs.load.Load.send_body.Goals as goal

merged_none : (k : Option Status) (s : Status) → k ≡ None → is_failure s ≡ true → merged k s ≡ Some s
merged_none k s e f = rw (e, f) refl

pub returns-in_ok-send_piece-in-Piece-clause-state :
    goal.returns-in_ok-send_piece-in-Piece-clause-state
returns-in_ok-send_piece-in-Piece-clause-state g c =
    let v : LoadView = c.args.self.now in
    let h : Here v.plan v.state c.self.inside.body = here_of v _ _ _ _ c.self.inside.redirects c.self.inside.window c.self.inside.body c.self.view_is c.self.invariant refl c.requires.phase c.requires.kept in
    let gives = sym c.in_ok-offset.ensures ∙ c.in-Piece.is in
    c.in_ok-send_piece-in-Piece.ensures.state
    ∙ piece_row v.plan v.state c.self.inside.body c.in-Piece.offset c.in-Piece.piece h c.requires.phase
    (credit_left v.plan v.state c.self.inside.body c.in-Piece.offset c.in-Piece.piece c.waits.result h gives c.waits.ensures c.if-waits.false) gives

pub returns-in_ok-stop-in-EndOk-clause-state : goal.returns-in_ok-stop-in-EndOk-clause-state
returns-in_ok-stop-in-EndOk-clause-state g c =
    let v : LoadView = c.args.self.now in
    let h : Here v.plan v.state c.self.inside.body = here_of v _ _ _ _ c.self.inside.redirects c.self.inside.window c.self.inside.body c.self.view_is c.self.invariant refl c.requires.phase c.requires.kept in
    c.in_ok-stop-in-EndOk.ensures.state ∙ end_row v.plan v.state c.self.inside.body c.in_ok-trailers-in-EndOk.trailers h (sym c.in_ok-offset.ensures ∙ c.in-EndOk.is) c.in_ok-trailers-in-EndOk.ensures.trailers

pub returns-in_ok-stop-in-EndFail-clause-state : goal.returns-in_ok-stop-in-EndFail-clause-state
returns-in_ok-stop-in-EndFail-clause-state g c =
    let v : LoadView = c.args.self.now in
    let h : Here v.plan v.state c.self.inside.body = here_of v _ _ _ _ c.self.inside.redirects c.self.inside.window c.self.inside.body c.self.view_is c.self.invariant refl c.requires.phase c.requires.kept in
    let gives = sym c.in_ok-offset.ensures ∙ c.in-EndFail.is in
    let bad : is_failure c.in-EndFail.status ≡ true = failing_end v.plan v.state c.self.inside.body c.in-EndFail.status h gives in
    let state = ap (λ (x : LoadView). x.state) c.self-in-EndFail.view_is ∙ c.in_ok-stop-in-EndFail.ensures.state in
    let before : c.self-in-EndFail.inside.failure ≡ None = ap (λ (x : ParentState). x.kept) state ∙ c.requires.kept in
    let kept : c.merge.new.self ≡ Some c.in-EndFail.status = c.merge.ensures.kept ∙ merged_none c.self-in-EndFail.inside.failure c.in-EndFail.status before bad in
    rw kept (ap (λ (x : ParentState). record x { kept = Some c.in-EndFail.status }) state ∙ fail_row v.plan v.state c.self.inside.body c.in-EndFail.status c.new.result h gives c.new.ensures)
