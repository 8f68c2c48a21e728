use Rattle.std.proofs.Common.{◌≡◌, ℕ, ◌<◌, ◌^◌, List, length, true, Option, Some, IfSome, ap, subst, sym, ◌∙◌}
use Rattle.std.specs.Result.{result_ok}
use Rattle.std.specs.Str.Parse.{ParsesUnsigned, digits_value}
use Rattle.std.specs.List.{list_all}
use Rattle.nk_script.specs.Numbers.{is_hex_digit}
use Rattle.nk_script.proofs.Ascii.{hex_utf8}
use Rattle.nk_script.proofs.Hex.{read_digits, hex_below}
use Rattle.nk_script.proofs.number.read_hex.Goals as goal

digits : (c : goal.After-ok) → list_all is_hex_digit c.args.word.now ≡ true
digits c = sym c.are_hex_digits.ensures ∙ c.if-not-are_hex_digits.false

-- the number was read
read : (c : goal.After-ok) → c.ok.result ≡ Some (digits_value 16 c.args.word.now)
read c =
    let parsed = subst (λ (bs : List ℕ). ParsesUnsigned 32 16 bs c.from_str_radix.result) c.in-Ok.ensures.cases.0 c.from_str_radix.ensures.value in
    c.ok.ensures.value ∙ ap result_ok (read_digits c.args.word.now c.from_str_radix.result parsed c.requires.some c.requires.few (digits c))

pub returns-in-Ok-clause-bound : goal.returns-in-Ok-clause-bound
returns-in-Ok-clause-bound c =
    let P : Option ℕ → Type 0 = λ o. IfSome o (λ n. n < 16 ^ length c.args.word.now) in
    subst P (sym (read c)) (hex_below c.args.word.now (digits c))

pub returns-in-Ok-clause-each : goal.returns-in-Ok-clause-each
returns-in-Ok-clause-each c h = read c

pub returns-in-Err-clause-each : goal.returns-in-Err-clause-each
returns-in-Err-clause-each c h = absurd (c.in-Err.ensures.cases.0 (hex_utf8 c.args.word.now h))
