-- Lists whose elements are printed one behind the other.
use Rattle.std.proofs.Common.{◌≡◌, ℕ, zero, suc, List, [], ◌∷◌, ◌++◌, map, refl, sym, ap, ◌∙◌, append_assoc, arith}
use Rattle.std.specs.Prelude.{All}
use Rattle.std.specs.List.{flat_map}

-- each of some is the first, and each of the others
pub first_of_all : {A : Type 0} (P : A → Type 0) (x : A) (xs : List A) → All P (x ∷ xs) → P x
first_of_all P x xs h = h zero x (omega arith)

pub others_of_all : {A : Type 0} (P : A → Type 0) (x : A) (xs : List A) → All P (x ∷ xs) → All P xs
others_of_all P x xs h = λ k d l. h (suc k) d (omega (arith, l))

-- what each is printed as tells what follows it, and what is shown of it
module _ {A B : Type 0} (print : A → List ℕ) (shown : A → B) (P : A → Type 0) (one : (x y : A) (r s : List ℕ) → P x → P y → print x ++ r ≡ print y ++ s → (shown x ≡ shown y) × (r ≡ s)) where
  -- no other stands here
  abbrev pub Ends : List ℕ → Type 0
  Ends r = (x : A) (more : List ℕ) → ¬ (r ≡ print x ++ more)

  pub each_told : (xs ys : List A) (r s : List ℕ) → All P xs → All P ys → Ends r → Ends s → flat_map print xs ++ r ≡ flat_map print ys ++ s → (map shown xs ≡ map shown ys) × (r ≡ s)
  each_told [] [] r s p q f g e = (refl, e)
  each_told [] (y ∷ ys) r s p q f g e = absurd (f y (flat_map print ys ++ s) (e ∙ append_assoc (print y) (flat_map print ys) s))
  each_told (x ∷ xs) [] r s p q f g e = absurd (g x (flat_map print xs ++ r) (sym e ∙ append_assoc (print x) (flat_map print xs) r))
  each_told (x ∷ xs) (y ∷ ys) r s p q f g e =
      let same = one x y (flat_map print xs ++ r) (flat_map print ys ++ s) (first_of_all P x xs p) (first_of_all P y ys q)
      (sym (append_assoc (print x) (flat_map print xs) r) ∙ (e ∙ append_assoc (print y) (flat_map print ys) s)) in
      let rest = each_told xs ys r s (others_of_all P x xs p) (others_of_all P y ys q) f g same.1 in
      (ap (λ (b : B). b ∷ map shown xs) same.0 ∙ ap (λ (bs : List B). shown y ∷ bs) rest.0, rest.1)
