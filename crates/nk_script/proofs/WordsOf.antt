-- The words of a line, read one by one.
use Rattle.std.proofs.Common.{suc, All, ◌≡◌, ℕ, ◌≤◌, ◌-◌, take, drop, Bool, true, false, ◌==◌, List, [], ◌∷◌, ◌++◌, length, map, Option, Some, None, Bor, refl, sym, ap, subst, arith, ◌∙◌, cond, length-append}
use Rattle.std.proofs.lemmas.List.{take_rest}
use Rattle.std.specs.Str.{IsUtf8}
use Rattle.std.proofs.lemmas.List.Elements.{All-head, All-tail}
use Rattle.nk_script.specs.Texts.{onto_first, before, behind, words}

-- the words of what stands behind a space, where there is one
abbrev pub more_words : Option (List ℕ) → List (List ℕ)
more_words None = []
more_words (Some rest) = words rest

step : (here : Bool) (b : ℕ) (bs : List ℕ) → words bs ≡ before 32 bs ∷ more_words (behind 32 bs) → cond here ([] ∷ words bs) (onto_first b (words bs)) ≡ cond here [] (b ∷ before 32 bs) ∷ more_words (cond here (Some bs) (behind 32 bs))
step true b bs e = refl
step false b bs e = ap (onto_first b) e

-- the first word, and the words of the rest
pub words_cut : (text : List ℕ) → words text ≡ before 32 text ∷ more_words (behind 32 text)
words_cut [] = refl
words_cut (b ∷ bs) = step (b == 32) b bs (words_cut bs)

abbrev pub nows : List (Bor (List ℕ)) → List (List ℕ)
nows all = map (λ (word : Bor (List ℕ)). word.now) all

nows_push : (all : List (Bor (List ℕ))) (w : Bor (List ℕ)) (more : List (List ℕ)) → nows (all ++ w ∷ []) ++ more ≡ nows all ++ (w.now ∷ more)
nows_push [] w more = refl
nows_push (x ∷ xs) w more = ap (λ ws. x.now ∷ ws) (nows_push xs w more)

-- one more word was read, and there are more
pub read_on : (all : List (Bor (List ℕ))) (w : Bor (List ℕ)) (line rest : List ℕ) → nows all ++ words rest ≡ words line → w.now ≡ before 32 rest → nows (all ++ w ∷ []) ++ more_words (behind 32 rest) ≡ words line
read_on all w line rest e front = nows_push all w (more_words (behind 32 rest)) ∙ (ap (λ (v : List ℕ). nows all ++ (v ∷ more_words (behind 32 rest))) front ∙ (ap (λ (ws : List (List ℕ)). nows all ++ ws) (sym (words_cut rest)) ∙ e))

pub append_nil : {A : Type 0} (xs : List A) → xs ++ [] ≡ xs
append_nil [] = refl
append_nil (x ∷ xs) = ap (λ ys. x ∷ ys) (append_nil xs)

-- the last word was read
pub read_last : (all : List (Bor (List ℕ))) (w : Bor (List ℕ)) (line rest : List ℕ) → nows all ++ words rest ≡ words line → w.now ≡ before 32 rest → behind 32 rest ≡ None → nows (all ++ w ∷ []) ≡ words line
read_last all w line rest e front last = sym (append_nil (nows (all ++ w ∷ []))) ∙ subst (λ (o : Option (List ℕ)). nows (all ++ w ∷ []) ++ more_words o ≡ words line) last (read_on all w line rest e front)

length-nows : (all : List (Bor (List ℕ))) → length (nows all) ≡ length all
length-nows [] = refl
length-nows (x ∷ xs) = ap suc (length-nows xs)

-- five words were read, and words are left
pub too_many : (all : List (Bor (List ℕ))) (line rest : List ℕ) → nows all ++ words rest ≡ words line → 5 ≤ length all → length (words line) ≤ 5 → ⊥
too_many all line rest e five few =
    let total = ap length e in
    let cut = ap length (words_cut rest) in
    omega (arith, length-append (nows all) (words rest), length-nows all, total, cut)

utf8_last : (xs ys : List (List ℕ)) → All IsUtf8 (xs ++ ys) → All IsUtf8 ys
utf8_last [] ys all = all
utf8_last (x ∷ xs) ys all = utf8_last xs ys (All-tail IsUtf8 x (xs ++ ys) all)

-- a word is no UTF-8
pub has_bad : (all : List (Bor (List ℕ))) (line rest : List ℕ) → nows all ++ words rest ≡ words line → ¬ IsUtf8 (before 32 rest) → All IsUtf8 (words line) → ⊥
has_bad all line rest e bad good =
    let left = utf8_last (nows all) (words rest) (subst (All IsUtf8) (sym e) good) in
    bad (All-head IsUtf8 (before 32 rest) (more_words (behind 32 rest)) (subst (All IsUtf8) (words_cut rest) left))

-- the words behind the first
pub behind_first : (all : List (Bor (List ℕ))) (w : List ℕ) (ws : List (List ℕ)) → nows all ≡ w ∷ ws → nows (take (length all - 1) (drop 1 all)) ≡ ws
behind_first [] w ws e = cc
behind_first (x ∷ xs) w ws e = let tail : nows xs ≡ ws = cc in ap nows (take_rest (x ∷ xs) 1) ∙ tail
