-- How a text that is put together is parted into lines and words.
use Rattle.std.proofs.Common.{◌≡◌, ℕ, Bool, true, false, ◌&&◌, ◌==◌, not, cond, List, [], ◌∷◌, ◌++◌, refl, ap}
use Rattle.nk_script.specs.Texts.{onto_first, lines, words}

-- the text has no such byte
abbrev pub lacks : ℕ → List ℕ → Bool
lacks mark [] = true
lacks mark (b ∷ bs) = not (b == mark) && lacks mark bs

pub both : (a b : Bool) → (a && b) ≡ true → (a ≡ true) × (b ≡ true)
both true b h = (refl, h)
both false b h = cc

pub join : (a b : Bool) → a ≡ true → b ≡ true → (a && b) ≡ true
join true b p q = q
join false b p q = p

pub lacks-append : (mark : ℕ) (v w : List ℕ) → lacks mark v ≡ true → lacks mark w ≡ true → lacks mark (v ++ w) ≡ true
lacks-append mark [] w p q = q
lacks-append mark (b ∷ bs) w p q =
    let ps = both (not (b == mark)) (lacks mark bs) p in
    join (not (b == mark)) (lacks mark (bs ++ w)) ps.0 (lacks-append mark bs w ps.1 q)

cut_step : (here : Bool) (b : ℕ) (w : List ℕ) (parts more : List (List ℕ)) → not here ≡ true → parts ≡ w ∷ more → cond here ([] ∷ parts) (onto_first b parts) ≡ (b ∷ w) ∷ more
cut_step true b w parts more h e = cc
cut_step false b w parts more h e = ap (onto_first b) e

-- a line feed ends a line
pub line_cut : (w rest : List ℕ) → lacks 10 w ≡ true → lines (w ++ 10 ∷ rest) ≡ w ∷ lines rest
line_cut [] rest h = refl
line_cut (b ∷ bs) rest h =
    let hs = both (not (b == 10)) (lacks 10 bs) h in
    cut_step (b == 10) b bs (lines (bs ++ 10 ∷ rest)) (lines rest) hs.0 (line_cut bs rest hs.1)

-- a space ends a word
pub word_cut : (w rest : List ℕ) → lacks 32 w ≡ true → words (w ++ 32 ∷ rest) ≡ w ∷ words rest
word_cut [] rest h = refl
word_cut (b ∷ bs) rest h =
    let hs = both (not (b == 32)) (lacks 32 bs) h in
    cut_step (b == 32) b bs (words (bs ++ 32 ∷ rest)) (words rest) hs.0 (word_cut bs rest hs.1)

-- a text without a space is one word
pub word_last : (w : List ℕ) → lacks 32 w ≡ true → words w ≡ w ∷ []
word_last [] h = refl
word_last (b ∷ bs) h =
    let hs = both (not (b == 32)) (lacks 32 bs) h in
    cut_step (b == 32) b bs (words bs) [] hs.0 (word_last bs hs.1)
