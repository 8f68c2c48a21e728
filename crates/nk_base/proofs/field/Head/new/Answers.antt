-- The code passed `http`'s test, there are few enough fields, and none was found that is not good.
use Rattle.std.proofs.Common.{rules}
use Rattle.nk_base.proofs.HeadFields.{are_good_fields-from_none}
use Rattle.nk_base.proofs.field.Head.new.Goals as goal

pub invariant_of-result : goal.invariant_of-result
invariant_of-result c =
    record { least = search rules; most = search rules; count = search rules; good = are_good_fields-from_none 0 c.args.fields (search rules) }
