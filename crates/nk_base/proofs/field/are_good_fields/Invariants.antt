-- Whether all fields are good is whether those are that are left.
use Rattle.std.proofs.Common.{◌≡◌, drop}
use Rattle.nk_base.specs.Fields.{are_good_fields}
use Rattle.nk_base.proofs.field.are_good_fields.Given as goal

abbrev pub invariant-loop-field : goal.invariant-loop-field
invariant-loop-field l = are_good_fields l.fields ≡ are_good_fields (drop l.field-index l.fields)
