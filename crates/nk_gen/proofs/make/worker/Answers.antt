use Rattle.std.proofs.Common.{ℕ, ◌++◌, ◌∷◌, [], codes, decimal, ◌∙◌, ap}
use Rattle.nk_gen.proofs.Lines.{on_ok, grow}
use Rattle.nk_gen.proofs.make.worker.Goals as goal

pub returns : goal.returns
returns c =
    on_ok c.line_feed.result
    (λ e. grow c.args.printer.now c.word.new.self c.line_feed.new.self (codes "at start retarget w") (decimal c.args.worker ++ 10 ∷ []) c.in_ok-word.ensures.ok
    (grow c.word.new.self c.decimal.new.self c.line_feed.new.self (decimal c.args.worker) (10 ∷ []) (c.in_ok-decimal.ensures.ok ∙ ap (λ (n : ℕ). c.word.new.self ++ decimal n) c.from.ensures) e))
    c.line_feed.ensures.ok
