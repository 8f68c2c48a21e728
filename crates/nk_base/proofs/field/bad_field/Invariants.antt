-- The first field that is not good is the first of those that are left.
use Rattle.std.proofs.Common.{◌≡◌, drop}
use Rattle.nk_base.specs.HeadAnswers.{bad_field}
use Rattle.nk_base.proofs.field.bad_field.Given as goal

abbrev pub invariant-loop-i : goal.invariant-loop-i
invariant-loop-i l = bad_field 0 l.fields ≡ bad_field l.i (drop l.i l.fields)
