-- A list in memory of which the first message is taken, or that gets one more.
use Rattle.std.proofs.Common.{ℕ, ◌≡◌, refl, sym, ap, ◌+◌, Result, Ok, Err, is_ok, if◌then◌else◌, ◌∙◌, subst, ◌≤◌, ◌-◌, zero, suc, List, [], ◌∷◌, ◌++◌, length, take, drop, slice_get, option_to_list, Option, Some, None, IfSome, arith}
use Rattle.std.proofs.lemmas.List.Elements.{All-drop, All-push}
use Rattle.std.proofs.lemmas.List.{length-append, take-append-le}
use Rattle.nk_base.specs.Outs.{OutParts, IsOutList}

-- of these items so many were sent
abbrev pub parts : {M : Type 0} → ℕ → List M → OutParts M
parts n items = record { held = take n items; staged = drop n items }

-- what is left when the first is taken
abbrev pub without_first : {M : Type 0} → OutParts M → OutParts M
without_first v = record { held = drop 1 v.held; staged = v.staged }

module _ {M : Type 0} (P : M → Type 0) where
  -- nothing is sent
  pub none_sent : (n : ℕ) (items : List M) → n ≡ 0 → None ≡ slice_get (take n items) 0
  none_sent n items z = subst (λ (k : ℕ). None ≡ slice_get (take k items) 0) (sym z) refl

  pub none_left : (n : ℕ) (items : List M) → n ≡ 0 → parts n items ≡ without_first (parts n items)
  none_left n items z = subst (λ (k : ℕ). parts k items ≡ without_first (parts k items)) (sym z) refl

  -- the first that is sent
  first_item : (x : Option M) (y : M) (ys rest : List M) → y ∷ ys ≡ option_to_list x ++ rest → rest ≡ ys → x ≡ Some y
  first_item None y ys rest e r = absurd (omega (arith, ap (λ (xs : List M). length xs) e, ap (λ (xs : List M). length xs) r))
  first_item (Some z) y ys rest e r = sym (ap (λ (xs : List M). slice_get xs 0) e)

  pub first_sent : (x : Option M) (n : ℕ) (items rest : List M) → 1 ≤ n → IsOutList P n items → items ≡ option_to_list x ++ rest → rest ≡ drop 1 items
      → x ≡ slice_get (take n items) 0
  first_sent x zero items rest some is e r = absurd (omega (arith, some))
  first_sent x (suc n) [] rest some is e r = absurd (omega (arith, is.sent_first))
  first_sent x (suc n) (y ∷ ys) rest some is e r = first_item x y ys rest e r

  pub first_ranged : (x : Option M) (n : ℕ) (items rest : List M) → 1 ≤ n → IsOutList P n items → items ≡ option_to_list x ++ rest → rest ≡ drop 1 items
      → IfSome x P
  first_ranged x n [] rest some is e r = absurd (omega (arith, some, is.sent_first))
  first_ranged x n (y ∷ ys) rest some is e r = subst (λ (o : Option M). IfSome o P) (sym (first_item x y ys rest e r)) (is.ranged 0 y (omega arith))

  -- and what is left behind it
  pub rest_ranged : (n : ℕ) (items rest : List M) → 1 ≤ n → IsOutList P n items → rest ≡ drop 1 items → IsOutList P (n - 1) rest
  rest_ranged n [] rest some is e = absurd (omega (arith, some, is.sent_first))
  rest_ranged n (y ∷ ys) rest some is e =
      subst (λ (xs : List M). IsOutList P (n - 1) xs) (sym e) (record { sent_first = omega (arith, is.sent_first, some); ranged = All-drop P 1 (y ∷ ys) is.ranged })

  pub rest_sent : (n : ℕ) (items rest : List M) → 1 ≤ n → IsOutList P n items → rest ≡ drop 1 items → parts (n - 1) rest ≡ without_first (parts n items)
  rest_sent zero items rest some is e = absurd (omega (arith, some))
  rest_sent (suc n) [] rest some is e = absurd (omega (arith, is.sent_first))
  rest_sent (suc n) (y ∷ ys) rest some is e =
      subst (λ (k : ℕ). parts k rest ≡ parts n ys) (let less : n ≡ suc n - 1 = omega arith in less) (ap (λ (xs : List M). parts n xs) e)

  -- one more is put behind the items, where there is memory for it
  pub put_ranged : {E : Type 0} (r : Result (Unit {0}) E) (n : ℕ) (items new : List M) (m : M) → P m → IsOutList P n items
      → new ≡ (if is_ok r then items ++ m ∷ [] else items) → IsOutList P n new
  put_ranged (Ok u) n items new m good is e = subst (λ (xs : List M). IsOutList P n xs) (sym e) (record {
    sent_first = let longer : length (items ++ m ∷ []) ≡ length items + 1 = length-append items (m ∷ []) in omega (arith, is.sent_first, longer);
    ranged = All-push P items m is.ranged good;
  })
  put_ranged (Err f) n items new m good is e = subst (λ (xs : List M). IsOutList P n xs) (sym e) is

  pub put_held : {E : Type 0} (r : Result (Unit {0}) E) (n : ℕ) (items new : List M) (m : M) → IsOutList P n items
      → new ≡ (if is_ok r then items ++ m ∷ [] else items) → take n new ≡ take n items
  put_held (Ok u) n items new m is e = ap (λ (xs : List M). take n xs) e ∙ take-append-le n items (m ∷ []) is.sent_first
  put_held (Err f) n items new m is e = ap (λ (xs : List M). take n xs) e
