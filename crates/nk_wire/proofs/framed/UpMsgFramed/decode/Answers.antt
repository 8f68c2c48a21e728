-- The frame is a message's, so its rest is read as this message.
use Rattle.std.proofs.Common.{◌≡◌, ◌≤◌, ℕ, List, length, Ok, sym, subst}
use Rattle.nk_wire.specs.Reading.{up_answer}
use Rattle.nk_wire.proofs.OneFrames.{read-allowed, read-again, only-memory}
use Rattle.nk_wire.proofs.framed.UpMsgFramed.decode.Goals as goal
use Rattle.nk_wire.specs.Kinds.{longest_rest}

pub decode_up-requires : goal.decode_up-requires
decode_up-requires c =
    let was = read-allowed up_answer c.args.frame.now c.requires in
    subst (λ (l : List ℕ). length l ≤ longest_rest) (sym c.rest.ensures) was.1.most

pub wanting-requires : goal.wanting-requires
wanting-requires c =
    let was = read-allowed up_answer c.args.frame.now c.requires in
    only-memory c.in-Err.error (up_answer c.rest.result.now) was.0 (subst (λ (l : List ℕ). up_answer l ≡ Ok was.0) (sym c.rest.ensures) was.1.answered) c.in-Err.ensures.exact

pub returns-in-Ok-clause-found : goal.returns-in-Ok-clause-found
returns-in-Ok-clause-found c =
    read-again up_answer c.args.frame.now c.in-Ok.message c.requires (subst (λ (l : List ℕ). up_answer l ≡ Ok c.in-Ok.message) c.rest.ensures c.in-Ok.ensures.exact)
