-- Small lemmas on tests, numbers and lists.
use Rattle.std.proofs.Common.{ℕ, zero, suc, ◌≡◌, ◌+◌, ◌<◌, ◌≤◌, ◌⊎◌, inl, inr, ◌||◌, refl, subst, List, [], ◌∷◌, ◌++◌, length, length-append, take, All, Bool, true, false, if◌then◌else◌, Option, Some, None, is_some, slice_get, arith}
use Rattle.std.proofs.lemmas.List.{get_or-take, length-take-le}
use Rattle.std.proofs.lemmas.Option.{slice_get_within, get_or_from_slice_get}
use Rattle.std.proofs.lemmas.List.Elements.{All-get_or, All-nil, All-cons, All-head, All-tail}

-- Tests

pub keeps_if : {A : Type 0} (P : A → Type 0) (b : Bool) (x y : A) → (b ≡ true → P x) → (b ≡ false → P y) → P (if b then x else y)
keeps_if P true x y p q = p refl
keeps_if P false x y p q = q refl

pub by_bool : {P : Type 0} (b : Bool) → (b ≡ true → P) → (b ≡ false → P) → P
by_bool true p q = p refl
by_bool false p q = q refl

pub first_false : (a b : Bool) → (a || b) ≡ false → a ≡ false
first_false true b h = cc
first_false false b h = refl

pub second_false : (a b : Bool) → (a || b) ≡ false → b ≡ false
second_false true b h = cc
second_false false b h = h

pub none_of : {A : Type 0} (o : Option A) → is_some o ≡ false → o ≡ None
none_of None e = refl
none_of (Some x) e = cc

-- Numbers

pub under_or_over : (k n : ℕ) → (k < n) ⊎ (n ≤ k)
under_or_over zero zero = inr (omega arith)
under_or_over zero (suc n) = inl (omega arith)
under_or_over (suc k) zero = inr (omega arith)
under_or_over (suc k) (suc n) = elim (under_or_over k n) [ inl x ↦ inl (omega arith) | inr x ↦ inr (omega arith) ]

pub less_or_same : (n m : ℕ) → n ≤ m → (n < m) ⊎ (n ≡ m)
less_or_same n m l = elim (under_or_over n m) [ inl x ↦ inl x | inr x ↦ inr (omega arith) ]

-- Places in a list

pub past_end : {A : Type 0} (xs : List A) (k : ℕ) → slice_get xs k ≡ None → length xs ≤ k
past_end [] k e = omega arith
past_end (y ∷ ys) zero e = cc
past_end (y ∷ ys) (suc k) e = let h : length ys ≤ k = past_end ys k e in omega arith

pub before_end : {A : Type 0} (xs : List A) (k : ℕ) (x : A) → slice_get xs k ≡ Some x → suc k ≤ length xs
before_end [] k x e = cc
before_end (y ∷ ys) zero x e = omega arith
before_end (y ∷ ys) (suc k) x e = let h : suc k ≤ length ys = before_end ys k x e in omega arith

pub one_more : {A : Type 0} (xs : List A) (x : A) → length (xs ++ x ∷ []) ≡ length xs + 1
one_more xs x = length-append xs (x ∷ [])

pub one_or_none : {A : Type 0} (b : Bool) (x : A) → length (if b then x ∷ [] else []) ≤ 1
one_or_none true x = omega arith
one_or_none false x = omega arith

pub take_most : {A : Type 0} (n : ℕ) (xs : List A) → length (take n xs) ≤ length xs
take_most zero xs = omega arith
take_most (suc n) [] = omega arith
take_most (suc n) (x ∷ xs) = let h : length (take n xs) ≤ length xs = take_most n xs in omega arith

-- Lists whose items all have a property

pub item_of : {A : Type 0} (P : A → Type 0) (xs : List A) → All P xs → (i : ℕ) (x : A) → slice_get xs i ≡ Some x → P x
item_of P xs all i x e = subst P (get_or_from_slice_get xs i x x e) (All-get_or P xs i x (slice_get_within xs i x e) all)

pub item_before : {A : Type 0} (P : A → Type 0) (n : ℕ) (xs : List A) → All P (take n xs) → n ≤ length xs
    → (i : ℕ) (x : A) → i < n → slice_get xs i ≡ Some x → P x
item_before P n xs all l i x k e =
    let w : length (take n xs) ≡ n = length-take-le n xs l in
    let m : i < length (take n xs) = omega arith in
    subst P (get_or_from_slice_get xs i x x e) (subst P (get_or-take n xs i x k) (All-get_or P (take n xs) i x m all))

pub front : {A : Type 0} (P : A → Type 0) (xs ys : List A) → All P (xs ++ ys) → All P xs
front P [] ys h = All-nil P
front P (x ∷ xs) ys h = All-cons P x xs (All-head P x (xs ++ ys) h) (front P xs ys (All-tail P x (xs ++ ys) h))

pub behind : {A : Type 0} (P : A → Type 0) (xs ys : List A) → All P (xs ++ ys) → All P ys
behind P [] ys h = h
behind P (x ∷ xs) ys h = behind P xs ys (All-tail P x (xs ++ ys) h)

pub only : {A : Type 0} (P : A → Type 0) (x : A) → P x → All P (x ∷ [])
only P x p = All-cons P x [] p (All-nil P)
