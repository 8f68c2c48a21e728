-- How a text is parted into lines, and a line into words (this project's own).
use Rattle.std.specs.Prelude.{ℕ, ◌==◌, Bool, true, ◌&&◌, if◌then◌else◌, List, [], ◌∷◌, Option, Some, None, bytes_eq, codes}

-- the byte in front of the first of these texts; alone, where there is none
abbrev pub onto_first : ℕ → List (List ℕ) → List (List ℕ)
onto_first b [] = (b ∷ []) ∷ []
onto_first b (text ∷ texts) = (b ∷ text) ∷ texts

-- the lines of a text: each ends with a line feed, which the last one may lack; no bytes are no lines
abbrev pub lines : List ℕ → List (List ℕ)
lines [] = []
lines (b ∷ bs) = if b == 10 then [] ∷ lines bs else onto_first b (lines bs)

-- the words of a line, which are parted by one space each
abbrev pub words : List ℕ → List (List ℕ)
words [] = [] ∷ []
words (b ∷ bs) = if b == 32 then [] ∷ words bs else onto_first b (words bs)

-- what stands before the first such byte, or the whole text
abbrev pub before : ℕ → List ℕ → List ℕ
before mark [] = []
before mark (b ∷ bs) = if b == mark then [] else b ∷ before mark bs

-- what stands behind it, where there is one
abbrev pub behind : ℕ → List ℕ → Option (List ℕ)
behind mark [] = None
behind mark (b ∷ bs) = if b == mark then Some bs else behind mark bs

-- what stands before a line's first space, or the whole line
abbrev pub first_word : List ℕ → List ℕ
first_word = before 32

-- what is to come, where something may
abbrev pub or_nothing : Option (List ℕ) → List ℕ
or_nothing None = []
or_nothing (Some rest) = rest

-- the text behind its first line
abbrev pub behind_line : List ℕ → List ℕ
behind_line text = or_nothing (behind 10 text)

-- A script and a log in one text: the first line that is `log` parts them. Where there is none, all of the text is the script.

-- the first line is `log`
abbrev pub begins_log : List ℕ → Bool
begins_log text = bytes_eq (before 10 text) (codes "log")

-- what stands before that line, in a text that begins with a line or inside one
abbrev pub script_part_of : Bool → List ℕ → List ℕ
script_part_of begins [] = []
script_part_of begins (b ∷ bs) = if begins && begins_log (b ∷ bs) then [] else b ∷ script_part_of (b == 10) bs

-- what stands behind it
abbrev pub log_part_of : Bool → List ℕ → List ℕ
log_part_of begins [] = []
log_part_of begins (b ∷ bs) = if begins && begins_log (b ∷ bs) then behind_line (b ∷ bs) else log_part_of (b == 10) bs

abbrev pub script_part : List ℕ → List ℕ
script_part = script_part_of true

abbrev pub log_part : List ℕ → List ℕ
log_part = log_part_of true
