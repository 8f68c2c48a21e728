-- Tests that each element of a list passes, and where two texts are cut.
use Rattle.std.proofs.Common.{◌≡◌, ℕ, Bool, true, false, ◌&&◌, ◌==◌, not, List, [], ◌∷◌, ◌++◌, refl, sym, ap, ◌∙◌, append_assoc, arith}
use Rattle.std.specs.List.{list_all, flat_map}
use Rattle.nk_trace.specs.Words.{words, line}
use Rattle.nk_trace_law.specs.Lines.{is_line, is_word, ended}

pub both : (a b : Bool) → (a && b) ≡ true → (a ≡ true) × (b ≡ true)
both true b h = (refl, h)
both false b h = cc

pub join : (a b : Bool) → a ≡ true → b ≡ true → (a && b) ≡ true
join true b p q = q
join false b p q = p

pub more : {a b : Bool} → a ≡ true → b ≡ true → (a && b) ≡ true
more {a} {b} p q = join a b p q

pub unless : (b : Bool) → not b ≡ true → b ≡ false
unless true h = sym h
unless false h = refl

pub differ : {P : Type 0} (b : Bool) → b ≡ true → b ≡ false → P
differ b p q = absurd (let e : true ≡ false = sym p ∙ q in cc)

pub all_join : {A : Type 0} (test : A → Bool) (xs ys : List A) → list_all test xs ≡ true → list_all test ys ≡ true → list_all test (xs ++ ys) ≡ true
all_join test [] ys p q = q
all_join test (x ∷ xs) ys p q =
    let ps = both (test x) (list_all test xs) p in
    join (test x) (list_all test (xs ++ ys)) ps.0 (all_join test xs ys ps.1 q)

-- what passes one test of bytes passes a weaker one
pub weaker : {A : Type 0} (p q : A → Bool) → ((x : A) → p x ≡ true → q x ≡ true) → (xs : List A) → list_all p xs ≡ true → list_all q xs ≡ true
weaker p q f [] h = refl
weaker p q f (x ∷ xs) h =
    let hs = both (p x) (list_all p xs) h in
    join (q x) (list_all q xs) (f x hs.0) (weaker p q f xs hs.1)

-- where two texts begin with bytes that pass, and the next byte does not, they begin with the same bytes
pub cut : (p : ℕ → Bool) (xs ys : List ℕ) (a b : ℕ) (r s : List ℕ) → list_all p xs ≡ true → list_all p ys ≡ true → p a ≡ false → p b ≡ false
    → xs ++ a ∷ r ≡ ys ++ b ∷ s → (xs ≡ ys) × (a ≡ b) × (r ≡ s)
cut p [] [] a b r s px py pa pb e =
    let h : a ≡ b = cc in let t : r ≡ s = cc in (refl, h, t)
cut p [] (y ∷ ys) a b r s px py pa pb e =
    let h : a ≡ y = cc in
    differ (p y) (both (p y) (list_all p ys) py).0 (sym (ap p h) ∙ pa)
cut p (x ∷ xs) [] a b r s px py pa pb e =
    let h : x ≡ b = cc in
    differ (p x) (both (p x) (list_all p xs) px).0 (ap p h ∙ pb)
cut p (x ∷ xs) (y ∷ ys) a b r s px py pa pb e =
    let first : x ≡ y = cc in
    let rest : xs ++ a ∷ r ≡ ys ++ b ∷ s = cc in
    let same = cut p xs ys a b r s (both (p x) (list_all p xs) px).1 (both (p y) (list_all p ys) py).1 pa pb rest in
    let tails : xs ≡ ys = same.0 in
    ((cc), same.1, same.2)

-- WORDS

-- a byte that may stand in a word, and one that may stand in a line
abbrev pub in_word : ℕ → Bool
in_word b = not (b == 32) && not (b == 10)

abbrev pub in_line : ℕ → Bool
in_line b = not (b == 10)

-- the first byte of a text
abbrev pub first_byte : List ℕ → ℕ
first_byte [] = 0
first_byte (b ∷ bs) = b

word_byte : (b : ℕ) → in_word b ≡ true → in_line b ≡ true
word_byte b h = (both (not (b == 32)) (not (b == 10)) h).1

-- a word is a line
pub line_of_word : (w : List ℕ) → is_word w ≡ true → is_line w ≡ true
line_of_word w h = weaker in_word in_line word_byte w h

-- words with a space between each two are a line
pub line_of_words : (ws : List (List ℕ)) → list_all is_line ws ≡ true → is_line (words ws) ≡ true
line_of_words [] h = refl
line_of_words (w ∷ []) h = (both (is_line w) true h).0
line_of_words (w ∷ v ∷ ws) h =
    let hs = both (is_line w) (list_all is_line (v ∷ ws)) h in
    all_join in_line w (32 ∷ words (v ∷ ws)) hs.0 (line_of_words (v ∷ ws) hs.1)

pub lines_of_words : (ws : List (List ℕ)) → list_all is_word ws ≡ true → list_all is_line ws ≡ true
lines_of_words ws h = weaker is_word is_line line_of_word ws h

-- a word and the words behind it, and a line feed
abbrev spelled : List ℕ → List (List ℕ) → List ℕ
spelled w [] = w ++ 10 ∷ []
spelled w (v ∷ vs) = w ++ 32 ∷ spelled v vs

spelled_line : (w : List ℕ) (vs : List (List ℕ)) → line (w ∷ vs) ≡ spelled w vs
spelled_line w [] = refl
spelled_line w (v ∷ vs) = append_assoc w (32 ∷ words (v ∷ vs)) (10 ∷ []) ∙ ap (λ (t : List ℕ). w ++ 32 ∷ t) (spelled_line v vs)

space_feed : {P : Type 0} → ◌≡◌ {A = ℕ} 10 32 → P
space_feed e = absurd (omega arith)

same_spelled : (v w : List ℕ) (vs ws : List (List ℕ)) → is_word v ≡ true → list_all is_word vs ≡ true → is_word w ≡ true → list_all is_word ws ≡ true
    → spelled v vs ≡ spelled w ws → v ∷ vs ≡ w ∷ ws
same_spelled v w [] [] pv ps pw qs e =
    let same = (cut in_word v w 10 10 [] [] pv pw refl refl e).0 in ap (λ (u : List ℕ). u ∷ []) same
same_spelled v w [] (x ∷ ws) pv ps pw qs e =
    space_feed ((cut in_word v w 10 32 [] (spelled x ws) pv pw refl refl e).1)
same_spelled v w (x ∷ vs) [] pv ps pw qs e =
    space_feed (sym (cut in_word v w 32 10 (spelled x vs) [] pv pw refl refl e).1)
same_spelled v w (x ∷ vs) (y ∷ ws) pv ps pw qs e =
    let same = cut in_word v w 32 32 (spelled x vs) (spelled y ws) pv pw refl refl e in
    let xs = both (is_word x) (list_all is_word vs) ps in
    let ys = both (is_word y) (list_all is_word ws) qs in
    let first : v ≡ w = same.0 in
    let rest : x ∷ vs ≡ y ∷ ws = same_spelled x y vs ws xs.0 xs.1 ys.0 ys.1 same.2 in
    cc

-- the words of a line are told by the line
pub same_words : (v w : List ℕ) (vs ws : List (List ℕ)) → list_all is_word (v ∷ vs) ≡ true → list_all is_word (w ∷ ws) ≡ true
    → line (v ∷ vs) ≡ line (w ∷ ws) → v ∷ vs ≡ w ∷ ws
same_words v w vs ws p q e =
    let ps = both (is_word v) (list_all is_word vs) p in
    let qs = both (is_word w) (list_all is_word ws) q in
    same_spelled v w vs ws ps.0 ps.1 qs.0 qs.1 (sym (spelled_line v vs) ∙ e ∙ spelled_line w ws)

-- LINES

-- the first line of a text is told by the text
pub first_line : (l m r s : List ℕ) → is_line l ≡ true → is_line m ≡ true → ended l ++ r ≡ ended m ++ s → (l ≡ m) × (r ≡ s)
first_line l m r s p q e =
    let same = cut in_line l m 10 10 r s p q refl refl (sym (append_assoc l (10 ∷ []) r) ∙ e ∙ append_assoc m (10 ∷ []) s) in
    (same.0, same.2)

-- no text begins with a line and is empty
pub not_empty : {P : Type 0} (l r : List ℕ) → ended l ++ r ≡ [] → P
not_empty [] r e = absurd (let h : 10 ∷ r ≡ [] = e in cc)
not_empty (b ∷ l) r e = absurd (let h : b ∷ (ended l ++ r) ≡ [] = e in cc)

pub one_list : (ls ms : List (List ℕ)) → list_all is_line ls ≡ true → list_all is_line ms ≡ true → flat_map ended ls ≡ flat_map ended ms → ls ≡ ms
one_list [] [] p q e = refl
one_list [] (m ∷ ms) p q e = not_empty m (flat_map ended ms) (sym e)
one_list (l ∷ ls) [] p q e = not_empty l (flat_map ended ls) e
one_list (l ∷ ls) (m ∷ ms) p q e =
    let ps = both (is_line l) (list_all is_line ls) p in
    let qs = both (is_line m) (list_all is_line ms) q in
    let same = first_line l m (flat_map ended ls) (flat_map ended ms) ps.0 qs.0 e in
    let first : l ≡ m = same.0 in
    let rest : ls ≡ ms = one_list ls ms ps.1 qs.1 same.1 in
    cc

flat : (ls ms : List (List ℕ)) → flat_map ended ls ++ flat_map ended ms ≡ flat_map ended (ls ++ ms)
flat [] ms = refl
flat (l ∷ ls) ms = append_assoc (ended l) (flat_map ended ls) (flat_map ended ms) ∙ ap (λ (t : List ℕ). ended l ++ t) (flat ls ms)

-- lines behind lines
pub flat_lines : (s t : List ℕ) (ls ms : List (List ℕ)) → s ≡ flat_map ended ls → t ≡ flat_map ended ms → s ++ t ≡ flat_map ended (ls ++ ms)
flat_lines s t ls ms a b = ap (λ (u : List ℕ). u ++ t) a ∙ (ap (λ (u : List ℕ). flat_map ended ls ++ u) b ∙ flat ls ms)
