-- Texts of ASCII bytes are UTF-8.
use Rattle.std.proofs.Common.{◌≡◌, ℕ, ◌<◌, Bool, true, false, ◌&&◌, List, [], ◌∷◌, refl, sym, subst, nat_lt, arith}
use Rattle.std.specs.Prelude.{codes}
use Rattle.nk_script.specs.Order.{IsKeyword}
use Rattle.nk_script.specs.declared.line.Keyword.{Keyword}
use Rattle.nk_script.specs.declared.line.Keyword.TheVariants as key
use Rattle.std.proofs.lemmas.Bool.Decides.{nat_tests}
use Rattle.std.specs.List.{list_all}
use Rattle.std.specs.Str.{IsAscii, IsUtf8}
use Rattle.std.proofs.lemmas.Str.Ascii.{IsAscii-nil, IsAscii-cons}
use Rattle.std.proofs.lemmas.Str.{IsUtf8-from_ascii}
use Rattle.nk_script.specs.Numbers.{is_digit, is_hex_digit}

pub both : (a b : Bool) → (a && b) ≡ true → (a ≡ true) × (b ≡ true)
both true b h = (refl, h)
both false b h = cc

-- where each byte passes a test that only ASCII passes
pub ascii_all : (p : ℕ → Bool) → ((b : ℕ) → p b ≡ true → b < 128) → (text : List ℕ) → list_all p text ≡ true → IsAscii text
ascii_all p small [] h = IsAscii-nil
ascii_all p small (b ∷ bs) h = let hs = both (p b) (list_all p bs) h in IsAscii-cons b bs (small b hs.0) (ascii_all p small bs hs.1)

hex_small : (b : ℕ) → is_hex_digit b ≡ true → b < 128
hex_small b h = grind (arith, nat_tests)

pub hex_ascii : (word : List ℕ) → list_all is_hex_digit word ≡ true → IsAscii word
hex_ascii word h = ascii_all is_hex_digit hex_small word h

pub hex_utf8 : (word : List ℕ) → list_all is_hex_digit word ≡ true → IsUtf8 word
hex_utf8 word h = IsUtf8-from_ascii word (hex_ascii word h)

-- a text of ASCII, as the check computes it
abbrev pub is_ascii_byte : ℕ → Bool
is_ascii_byte b = nat_lt b 128

pub utf8_ascii : (text : List ℕ) → list_all is_ascii_byte text ≡ true → IsUtf8 text
utf8_ascii text h = IsUtf8-from_ascii text (ascii_all is_ascii_byte (λ b e. grind (arith, nat_tests)) text h)

digit_small : (b : ℕ) → is_digit b ≡ true → b < 128
digit_small b h = grind (arith, nat_tests)

pub digits_utf8 : (word : List ℕ) → list_all is_digit word ≡ true → IsUtf8 word
digits_utf8 word h = IsUtf8-from_ascii word (ascii_all is_digit digit_small word h)

-- keywords are ASCII
pub keyword_utf8 : (word : List ℕ) (k : Keyword) → IsKeyword word k → IsUtf8 word
keyword_utf8 word key.Script e = subst IsUtf8 (sym e) (utf8_ascii (codes "script") refl)
keyword_utf8 word key.Channel e = subst IsUtf8 (sym e) (utf8_ascii (codes "channel") refl)
keyword_utf8 word key.Hop e = subst IsUtf8 (sym e) (utf8_ascii (codes "hop") refl)
keyword_utf8 word key.Field e = subst IsUtf8 (sym e) (utf8_ascii (codes "field") refl)
keyword_utf8 word key.Piece e = subst IsUtf8 (sym e) (utf8_ascii (codes "piece") refl)
keyword_utf8 word key.Hex e = subst IsUtf8 (sym e) (utf8_ascii (codes "hex") refl)
keyword_utf8 word key.Fill e = subst IsUtf8 (sym e) (utf8_ascii (codes "fill") refl)
keyword_utf8 word key.End e = subst IsUtf8 (sym e) (utf8_ascii (codes "end") refl)
keyword_utf8 word key.Trailer e = subst IsUtf8 (sym e) (utf8_ascii (codes "trailer") refl)
keyword_utf8 word key.Listener e = subst IsUtf8 (sym e) (utf8_ascii (codes "listener") refl)
keyword_utf8 word key.Retargetable e = subst IsUtf8 (sym e) (utf8_ascii (codes "retargetable") refl)
keyword_utf8 word key.Window e = subst IsUtf8 (sym e) (utf8_ascii (codes "window") refl)
keyword_utf8 word key.Start e = subst IsUtf8 (sym e) (utf8_ascii (codes "start") refl)
keyword_utf8 word key.Closed e = subst IsUtf8 (sym e) (utf8_ascii (codes "closed") refl)
keyword_utf8 word key.At e = subst IsUtf8 (sym e) (utf8_ascii (codes "at") refl)
keyword_utf8 word key.When e = subst IsUtf8 (sym e) (utf8_ascii (codes "when") refl)
keyword_utf8 word key.Schedule e = subst IsUtf8 (sym e) (utf8_ascii (codes "schedule") refl)
keyword_utf8 word key.Number count = digits_utf8 word count.digits
