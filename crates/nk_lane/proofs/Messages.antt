-- The messages that frames spell, as frames are made ready and sent.
use Rattle.std.proofs.Common.{ℕ, suc, ◌≡◌, refl, sym, ◌∙◌, ap, List, [], ◌∷◌, ◌++◌, length, map, Option, Some, None, is_some, true, append_assoc, length-append, arith}
use Rattle.nk_lane.specs.Spelling.{listed, messages}

pub messages-append : {M : Type 0} (read : List ℕ → Option M) (xs ys : List (List ℕ)) → messages read (xs ++ ys) ≡ messages read xs ++ messages read ys
messages-append read [] ys = refl
messages-append read (x ∷ xs) ys = ap (λ t. listed (read x) ++ t) (messages-append read xs ys) ∙ sym (append_assoc (listed (read x)) (messages read xs) (messages read ys))

map-last : {R S : Type 0} (f : R → S) (xs : List R) (r : R) → map f (xs ++ r ∷ []) ≡ map f xs ++ f r ∷ []
map-last f [] r = refl
map-last f (x ∷ xs) r = ap (λ t. f x ∷ t) (map-last f xs r)

listed-one : {M : Type 0} (o : Option M) (m : M) → o ≡ Some m → listed o ++ [] ≡ m ∷ []
listed-one None m e = cc
listed-one (Some x) m e = let same : x ≡ m = cc in ap (λ t. t ∷ []) same

-- one more, at the end
pub messages-last : {M R : Type 0} (read : List ℕ → Option M) (f : R → List ℕ) (xs ys : List R) (r : R) (m : M)
    → ys ≡ xs ++ r ∷ [] → read (f r) ≡ Some m → messages read (map f ys) ≡ messages read (map f xs) ++ m ∷ []
messages-last read f xs ys r m is e =
    ap (λ t. messages read (map f t)) is ∙ (ap (messages read) (map-last f xs r)
    ∙ (messages-append read (map f xs) (f r ∷ []) ∙ ap (λ t. messages read (map f xs) ++ t) (listed-one (read (f r)) m e)))

pub map-length : {R S : Type 0} (f : R → S) (xs : List R) → length (map f xs) ≡ length xs
map-length f [] = refl
map-length f (x ∷ xs) = ap (λ n. suc n) (map-length f xs)

listed-length : {M : Type 0} (o : Option M) → is_some o ≡ true → length (listed o) ≡ 1
listed-length None e = cc
listed-length (Some m) e = refl

-- where each frame spells one, there are as many messages as frames
pub messages-length : {M R : Type 0} (read : List ℕ → Option M) (f : R → List ℕ) → ((r : R) → is_some (read (f r)) ≡ true) → (rs : List R)
    → length (messages read (map f rs)) ≡ length rs
messages-length read f each [] = refl
messages-length read f each (r ∷ rs) =
    let one = listed-length (read (f r)) (each r) in
    let more = length-append (listed (read (f r))) (messages read (map f rs)) in
    let rest = messages-length read f each rs in omega arith

-- a frame of a message is one message more
pub messages-one : {M : Type 0} (read : List ℕ → Option M) (frames : List (List ℕ)) (frame : List ℕ) (m : M)
    → read frame ≡ Some m → messages read (frames ++ frame ∷ []) ≡ messages read frames ++ m ∷ []
messages-one read frames frame m e =
    messages-append read frames (frame ∷ []) ∙ ap (λ t. messages read frames ++ t) (listed-one (read frame) m e)
