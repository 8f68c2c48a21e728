-- A line begins with one keyword.
use Rattle.std.proofs.Common.{◌≡◌, ℕ, ◌+◌, ◌==◌, if◌then◌else◌, ◌⊎◌, inl, inr, false, List, [], ◌∷◌, Option, Some, None, codes, refl, sym, ap, subst, ◌∙◌}
use Rattle.std.specs.Prelude.{MatchOption}
use Rattle.std.specs.List.{list_all}
use Rattle.nk_script.specs.declared.line.Keyword.{Keyword}
use Rattle.nk_script.specs.declared.line.Keyword.TheVariants as key
use Rattle.nk_script.specs.Numbers.{IsCount, is_digit}
use Rattle.nk_script.specs.Order.{IsKeyword}

total : List ℕ → ℕ
total [] = 0
total (b ∷ bs) = b + total bs

-- the sum of the bytes tells the names of the keywords apart
by_total : ℕ → Keyword
by_total n =
    if n == 661 then key.Script else (
    if n == 729 then key.Channel else (
    if n == 327 then key.Hop else (
    if n == 516 then key.Field else (
    if n == 518 then key.Piece else (
    if n == 325 then key.Hex else (
    if n == 423 then key.Fill else (
    if n == 311 then key.End else (
    if n == 755 then key.Trailer else (
    if n == 870 then key.Listener else (
    if n == 1266 then key.Retargetable else (
    if n == 664 then key.Window else (
    if n == 558 then key.Start else (
    if n == 634 then key.Closed else (
    if n == 213 then key.At else (
    if n == 434 then key.When else (key.Schedule))))))))))))))))

not_counted : (word name : List ℕ) → word ≡ name → list_all is_digit name ≡ false → IsCount word → ⊥
not_counted word name e f counted = cc (sym (ap (list_all is_digit) e) ∙ counted.digits, f)

-- a name is no number
named_or_counted : (word : List ℕ) (k : Keyword) → IsKeyword word k → IsCount word → (k ≡ key.Number)
named_or_counted word key.Script is counted = absurd (not_counted word (codes "script") is refl counted)
named_or_counted word key.Channel is counted = absurd (not_counted word (codes "channel") is refl counted)
named_or_counted word key.Hop is counted = absurd (not_counted word (codes "hop") is refl counted)
named_or_counted word key.Field is counted = absurd (not_counted word (codes "field") is refl counted)
named_or_counted word key.Piece is counted = absurd (not_counted word (codes "piece") is refl counted)
named_or_counted word key.Hex is counted = absurd (not_counted word (codes "hex") is refl counted)
named_or_counted word key.Fill is counted = absurd (not_counted word (codes "fill") is refl counted)
named_or_counted word key.End is counted = absurd (not_counted word (codes "end") is refl counted)
named_or_counted word key.Trailer is counted = absurd (not_counted word (codes "trailer") is refl counted)
named_or_counted word key.Listener is counted = absurd (not_counted word (codes "listener") is refl counted)
named_or_counted word key.Retargetable is counted = absurd (not_counted word (codes "retargetable") is refl counted)
named_or_counted word key.Window is counted = absurd (not_counted word (codes "window") is refl counted)
named_or_counted word key.Start is counted = absurd (not_counted word (codes "start") is refl counted)
named_or_counted word key.Closed is counted = absurd (not_counted word (codes "closed") is refl counted)
named_or_counted word key.At is counted = absurd (not_counted word (codes "at") is refl counted)
named_or_counted word key.When is counted = absurd (not_counted word (codes "when") is refl counted)
named_or_counted word key.Schedule is counted = absurd (not_counted word (codes "schedule") is refl counted)
named_or_counted word key.Number is counted = refl

told : (word : List ℕ) (k : Keyword) → IsKeyword word k → (k ≡ by_total (total word)) ⊎ (k ≡ key.Number)
unfolding by_total total
told word key.Script is = inl (sym (ap (λ (name : List ℕ). by_total (total name)) is))
told word key.Channel is = inl (sym (ap (λ (name : List ℕ). by_total (total name)) is))
told word key.Hop is = inl (sym (ap (λ (name : List ℕ). by_total (total name)) is))
told word key.Field is = inl (sym (ap (λ (name : List ℕ). by_total (total name)) is))
told word key.Piece is = inl (sym (ap (λ (name : List ℕ). by_total (total name)) is))
told word key.Hex is = inl (sym (ap (λ (name : List ℕ). by_total (total name)) is))
told word key.Fill is = inl (sym (ap (λ (name : List ℕ). by_total (total name)) is))
told word key.End is = inl (sym (ap (λ (name : List ℕ). by_total (total name)) is))
told word key.Trailer is = inl (sym (ap (λ (name : List ℕ). by_total (total name)) is))
told word key.Listener is = inl (sym (ap (λ (name : List ℕ). by_total (total name)) is))
told word key.Retargetable is = inl (sym (ap (λ (name : List ℕ). by_total (total name)) is))
told word key.Window is = inl (sym (ap (λ (name : List ℕ). by_total (total name)) is))
told word key.Start is = inl (sym (ap (λ (name : List ℕ). by_total (total name)) is))
told word key.Closed is = inl (sym (ap (λ (name : List ℕ). by_total (total name)) is))
told word key.At is = inl (sym (ap (λ (name : List ℕ). by_total (total name)) is))
told word key.When is = inl (sym (ap (λ (name : List ℕ). by_total (total name)) is))
told word key.Schedule is = inl (sym (ap (λ (name : List ℕ). by_total (total name)) is))
told word key.Number is = inr refl

counted : (word : List ℕ) (k : Keyword) → k ≡ key.Number → IsKeyword word k → IsCount word
counted word k e is = subst (IsKeyword word) e is

both : (word : List ℕ) (j k : Keyword) → IsKeyword word j → IsKeyword word k → (j ≡ by_total (total word)) ⊎ (j ≡ key.Number) → (k ≡ by_total (total word)) ⊎ (k ≡ key.Number) → j ≡ k
both word j k a b (inl d) (inl e) = d ∙ sym e
both word j k a b (inl d) (inr e) = named_or_counted word j a (counted word k e b) ∙ sym e
both word j k a b (inr d) e = d ∙ sym (named_or_counted word k b (counted word j d a))

pub one_keyword : (word : List ℕ) (j k : Keyword) → IsKeyword word j → IsKeyword word k → j ≡ k
one_keyword word j k a b = both word j k a b (told word j a) (told word k b)

-- a word that is no number has one keyword at most, and it was found
pub found_named : (word : List ℕ) (found : Option Keyword) → MatchOption found ((k : Keyword) → IsKeyword word k → k ≡ key.Number) (IsKeyword word) → ¬ IsCount word → (k : Keyword) → IsKeyword word k → found ≡ Some k
found_named word None none not_count k is = absurd (not_count (counted word k (none k is) is))
found_named word (Some j) named not_count k is = ap Some (one_keyword word j k named is)
