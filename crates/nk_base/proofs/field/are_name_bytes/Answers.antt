-- The iterator gives the bytes, and its closure is the test.
use Rattle.std.proofs.Common.{rules}
use Rattle.std.proofs.lemmas.Iterator.{YieldsList-from_slice}
use Rattle.std.proofs.lemmas.Iterator.Search.{all_from_yields_List}
use borrow.Author.Tests.{tests}
use Rattle.nk_base.specs.Fields.{is_name_byte}
use Rattle.nk_base.proofs.field.are_name_bytes.Goals as goal

pub returns : goal.returns
returns c = all_from_yields_List is_name_byte _ _ _ c.all.ensures.ran (YieldsList-from_slice c.args.bytes.now cc) (λ x b q k. search (rules, tests))
