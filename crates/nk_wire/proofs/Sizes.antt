-- How long the rests are.
use Rattle.std.proofs.Common.{◌≡◌, ◌≤◌, ◌+◌, ◌*◌, true, List, [], ◌∷◌, ◌++◌, length, ap, ◌∙◌, arith}
use Rattle.std.specs.List.{flat_map}
use Rattle.std.proofs.lemmas.List.{length-append}
use Rattle.std.proofs.lemmas.List.Concat.{flat_map-cons}
use Rattle.nk_base.specs.declared.field.Field.{Field}
use Rattle.nk_base.specs.declared.message.MainMsg.{MainMsg}
use Rattle.nk_base.specs.declared.message.MainMsg.TheVariants as main
use Rattle.nk_base.specs.declared.message.BackMsg.{BackMsg}
use Rattle.nk_base.specs.declared.message.BackMsg.TheVariants as back
use Rattle.nk_base.specs.declared.message.UpMsg.{UpMsg}
use Rattle.nk_base.specs.declared.message.UpMsg.TheVariants as up
use Rattle.nk_base.specs.Fields.{is_good_name, is_good_value, is_good_field, are_good_fields}
use Rattle.nk_base.specs.Ranges.{IsMainInRange, IsBackInRange, IsUpInRange}
use Rattle.nk_wire.specs.declared.message.AnyMsg.{AnyMsg}
use Rattle.nk_wire.specs.declared.message.AnyMsg.TheVariants as any
use Rattle.nk_wire.specs.Layouts.{little, U16}
use Rattle.nk_wire.specs.Spelling.{field, main_rest, back_rest, up_rest, any_rest, IsAnyInRange}
use Rattle.nk_wire.specs.Streams.{IsRest}
use Rattle.nk_wire.proofs.Steps.{left_of, right_of, within-bounds}
use Rattle.nk_wire.proofs.Spells.{name_length-good, value_length-good}

field-sized : (f : Field) → is_good_field f ≡ true → length (field f) ≤ 8260
field-sized f good =
    let name = within-bounds 1 64 (length f.name) (name_length-good f.name (left_of (is_good_name f.name) (is_good_value f.value) good)) in
    let value = within-bounds 1 8192 (length f.value) (value_length-good f.value (right_of (is_good_name f.name) (is_good_value f.value) good)) in
    let l1 = length-append (little U16 (length f.name) ++ f.name ++ little U16 (length f.value)) f.value in
    let l2 = length-append (little U16 (length f.name) ++ f.name) (little U16 (length f.value)) in
    let l3 = length-append (little U16 (length f.name)) f.name in
    omega (arith, name.1, value.1, l1, l2, l3)

pub headers-sized : (fs : List Field) → are_good_fields fs ≡ true → length (flat_map field fs) ≤ 8260 * length fs
headers-sized [] good = omega arith
headers-sized (f ∷ fs) good =
    let first = field-sized f (left_of (is_good_field f) (are_good_fields fs) good) in
    let others = headers-sized fs (right_of (is_good_field f) (are_good_fields fs) good) in
    let both : length (flat_map field (f ∷ fs)) ≡ length (field f) + length (flat_map field fs) = ap length (flat_map-cons field f fs) ∙ length-append (field f) (flat_map field fs) in
    omega (arith, first, others, both)

main-sized : (m : MainMsg) → IsMainInRange m → IsRest (main_rest m)
main-sized (main.Start hop status head) r =
    let most = headers-sized head.fields r.2.good in
    let few = r.2.count in
    (omega arith, omega (arith, most, few))
main-sized (main.FailedOpen hop status) r = (omega arith, omega arith)
main-sized (main.Redirect1 hop code) r = (omega arith, omega arith)
main-sized (main.Redirect3 hop) r = (omega arith, omega arith)

back-sized : (m : BackMsg) → IsBackInRange m → IsRest (back_rest m)
back-sized (back.Start hop status head) r =
    let most = headers-sized head.fields r.2.good in
    let few = r.2.count in
    (omega arith, omega (arith, most, few))
back-sized (back.StartSent hop) r = (omega arith, omega arith)
back-sized (back.Bytes hop status offset piece) r = (omega arith, omega (arith, r.2.1))
back-sized (back.Stop hop status []) r = (omega arith, omega arith)
back-sized (back.Stop hop status (f ∷ fs)) r =
    let most = headers-sized (f ∷ fs) r.2.good in
    let few = r.2.count in
    (omega arith, omega (arith, most, few))

up-sized : (m : UpMsg) → IsUpInRange m → IsRest (up_rest m)
up-sized up.Open r = (omega arith, omega arith)
up-sized up.Suspend r = (omega arith, omega arith)
up-sized up.Resume r = (omega arith, omega arith)
up-sized (up.Cancel status) r = (omega arith, omega arith)
up-sized (up.Verify hop status) r = (omega arith, omega arith)
up-sized (up.BytesRead count) r = (omega arith, omega arith)
up-sized up.Deleting r = (omega arith, omega arith)

-- the rest of a message in range is of a length that a frame may have
pub any-sized : (m : AnyMsg) → IsAnyInRange m → IsRest (any_rest m)
any-sized (any.Main m) r = main-sized m r
any-sized (any.Back m) r = back-sized m r
any-sized (any.Up m) r = up-sized m r
