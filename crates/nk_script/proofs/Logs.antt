-- A text is parted at its first line that is `log`, worked on small texts.
use Rattle.std.proofs.Common.{◌≡◌, ℕ, List, [], ◌∷◌, ◌++◌, codes, refl}
use Rattle.nk_script.specs.Texts.{script_part, log_part}

abbrev line : List ℕ → List ℕ
line text = text ++ 10 ∷ []

-- a line that begins or ends otherwise does not part it, and neither does a second line `log`
abbrev front : List ℕ
front = line (codes "a") ++ line (codes "logs") ++ line (codes " log") ++ line (codes "log ")

abbrev back : List ℕ
back = line (codes "b") ++ line (codes "log") ++ codes "c"

script_is : script_part (front ++ line (codes "log") ++ back) ≡ front
script_is = refl

log_is : log_part (front ++ line (codes "log") ++ back) ≡ back
log_is = refl

-- without that line all is the script
all_script : script_part (front ++ codes "lo") ≡ front ++ codes "lo"
all_script = refl

no_log : log_part (front ++ codes "lo") ≡ []
no_log = refl

-- the last line may lack its line feed, and the first may be the one
bare_script : script_part (codes "log") ≡ []
bare_script = refl

bare_log : log_part (front ++ codes "log") ≡ []
bare_log = refl

whole_log : log_part (line (codes "log") ++ back) ≡ back
whole_log = refl

blank_script : script_part (front ++ codes "log") ≡ front
blank_script = refl
