-- Lines that are printed one behind the other.
use Rattle.std.proofs.Common.{◌≡◌, ℕ, suc, ◌+◌, ◌-◌, ◌*◌, ◌<◌, List, [], ◌++◌, codes, ap, sym, ◌∙◌, append_assoc, arith, Result, Ok, Err, OnOk}
use Rattle.nk_gen.specs.Draws.{next, behind, first_draw, second_draw}
use Rattle.nk_gen.specs.Made.{redirect_lines, fill_line, fill_lines, channels, channel_lines, behind_channel}

-- what follows from a success
pub on_ok : {T E : Type 0} (r : Result T E) {A B : Type 0} → (A → B) → OnOk r A → OnOk r B
on_ok (Ok t) f h = f h
on_ok (Err e) f h = h

-- one text behind another
pub grow : (p q r a b : List ℕ) → q ≡ p ++ a → r ≡ q ++ b → r ≡ p ++ (a ++ b)
grow p q r a b e f = f ∙ ap (λ (t : List ℕ). t ++ b) e ∙ append_assoc p a b

-- what is left, less the next text, is left once that is printed
pub shifted : (p q all next rest left : List ℕ) → p ++ left ≡ all → left ≡ next ++ rest → q ≡ p ++ next → q ++ rest ≡ all
shifted p q all next rest left was is e =
    ap (λ (t : List ℕ). t ++ rest) e ∙ append_assoc p next rest ∙ ap (λ (t : List ℕ). p ++ t) (sym is) ∙ was

one_less : (count counter : ℕ) → counter < count → count - counter ≡ suc (count - (counter + 1))
one_less count counter h = omega arith

two_less : (count counter : ℕ) → counter < count → 2 * (count - counter) ≡ suc (suc (2 * (count - (counter + 1))))
two_less count counter h = omega arith

pub none_left : (count : ℕ) → count - count ≡ 0
none_left count = omega arith

pub redirect_left : (count counter : ℕ) → counter < count → redirect_lines (count - counter) ≡ codes "hop redirect 302 allow\n" ++ redirect_lines (count - (counter + 1))
redirect_left count counter h = ap redirect_lines (one_less count counter h)

pub fill_left : (count counter x byte size y : ℕ) → counter < count → byte ≡ first_draw 256 x → size ≡ second_draw 8192 x → y ≡ next (next x) → fill_lines (count - counter) x ≡ fill_line byte (1 + size) ++ fill_lines (count - (counter + 1)) y
fill_left count counter x byte size y h b s e =
    ap (λ (n : ℕ). fill_lines n x) (one_less count counter h)
    ∙ ap (λ (v : ℕ). fill_line v (1 + second_draw 8192 x) ++ fill_lines (count - (counter + 1)) (next (next x))) (sym b)
    ∙ ap (λ (v : ℕ). fill_line byte (1 + v) ++ fill_lines (count - (counter + 1)) (next (next x))) (sym s)
    ∙ ap (λ (v : ℕ). fill_line byte (1 + size) ++ fill_lines (count - (counter + 1)) v) (sym e)

pub behind_left : (count counter x y : ℕ) → counter < count → y ≡ next (next x) → behind (2 * (count - (counter + 1))) y ≡ behind (2 * (count - counter)) x
behind_left count counter x y h e =
    ap (λ (v : ℕ). behind (2 * (count - (counter + 1))) v) e ∙ sym (ap (λ (n : ℕ). behind n x) (two_less count counter h))

pub channel_left : (count counter x y : ℕ) → counter < count → y ≡ behind_channel x → channels (count - counter) x ≡ channel_lines x ++ channels (count - (counter + 1)) y
channel_left count counter x y h e =
    ap (λ (n : ℕ). channels n x) (one_less count counter h) ∙ ap (λ (v : ℕ). channel_lines x ++ channels (count - (counter + 1)) v) (sym e)
