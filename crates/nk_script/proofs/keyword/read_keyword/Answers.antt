use Rattle.std.proofs.Common.{◌≡◌, ℕ, List, subst}
use Rattle.std.specs.Prelude.{MatchOption}
use Rattle.nk_script.specs.declared.line.Keyword.{Keyword}
use Rattle.nk_script.specs.declared.line.Keyword.TheVariants as key
use Rattle.nk_script.specs.Numbers.{IsCount}
use Rattle.nk_script.specs.Order.{IsKeyword}
use Rattle.nk_script.proofs.Ascii.{keyword_utf8}
use Rattle.nk_script.proofs.Keywords.{found_named}
use Rattle.nk_script.proofs.keyword.read_keyword.Goals as goal

pub returns-in-Ok-clause-each : goal.returns-in-Ok-clause-each
returns-in-Ok-clause-each c k is =
    let not_count : ¬ IsCount c.args.word.now = λ count. let is_true = c.if-is_count.ensures.1 count in cc in
    let named = subst (λ (w : List ℕ). MatchOption c.read_named.result ((k : Keyword) → IsKeyword w k → k ≡ key.Number) (IsKeyword w)) c.in-Ok.ensures.cases.0 c.read_named.ensures in
    found_named c.args.word.now c.read_named.result named not_count k is

pub returns-in-Err-clause-each : goal.returns-in-Err-clause-each
returns-in-Err-clause-each c k is = absurd (c.in-Err.ensures.cases.0 (keyword_utf8 c.args.word.now k is))
