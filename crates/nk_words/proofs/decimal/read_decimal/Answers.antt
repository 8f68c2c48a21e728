use Rattle.std.proofs.Common.{subst, sym, refl}
use Rattle.nk_words.specs.Decimal.{HasPlainStart}
use Rattle.nk_words.proofs.DecimalLemmas.{read_plain, reads_none}
use Rattle.nk_words.proofs.decimal.read_decimal.Goals as goal

pub returns-then-has_plain_start : goal.returns-then-has_plain_start
returns-then-has_plain_start c =
    let start = subst HasPlainStart c.as_bytes.ensures.value (c.if-has_plain_start.ensures.0 refl) in
    read_plain c.args.text.now c.parse.result c.ok.result start c.parse.ensures.value.0 c.ok.ensures.value

pub returns-else-has_plain_start : goal.returns-else-has_plain_start
returns-else-has_plain_start c n h =
    let other : ¬ HasPlainStart c.args.text.now = λ start. let is_true = c.if-has_plain_start.ensures.1 (subst HasPlainStart (sym c.as_bytes.ensures.value) start) in cc in
    (λ e. cc, λ e. absurd (reads_none c.args.text.now other n h e))
