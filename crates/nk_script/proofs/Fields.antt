-- Where a field's name ends, and what stands behind a prefix.
use Rattle.std.proofs.Common.{◌≡◌, ◌≢◌, ℕ, Bool, true, false, ◌==◌, ◌&&◌, List, [], ◌∷◌, ◌++◌, Option, Some, None, refl, sym, ap, subst, cond, ◌∙◌}
use Rattle.std.specs.List.{list_all}
use Rattle.std.proofs.lemmas.Bool.{eqb-true}
use Rattle.nk_base.specs.Fields.{is_name_byte, is_good_name, is_good_value}
use Rattle.nk_base.specs.declared.field.Field.{Field}
use Rattle.nk_script.specs.Lines.{IsField}
use Rattle.nk_script.specs.Texts.{before, behind}
use Rattle.nk_script.proofs.Ascii.{both}

-- the byte again, and what stands behind it
abbrev pub rest_of : ℕ → Option (List ℕ) → List ℕ
rest_of mark None = []
rest_of mark (Some rest) = mark ∷ rest

join_step : (mark b : ℕ) (bs : List ℕ) (here : Bool) → (here ≡ true → b ≡ mark) → bs ≡ before mark bs ++ rest_of mark (behind mark bs) → b ∷ bs ≡ cond here [] (b ∷ before mark bs) ++ rest_of mark (cond here (Some bs) (behind mark bs))
join_step mark b bs true is e = ap (λ x. x ∷ bs) (is refl)
join_step mark b bs false is e = ap (λ xs. b ∷ xs) e

-- a text is what stands before the byte, and the rest
pub rejoined : (mark : ℕ) (text : List ℕ) → text ≡ before mark text ++ rest_of mark (behind mark text)
rejoined mark [] = refl
rejoined mark (b ∷ bs) = join_step mark b bs (b == mark) (eqb-true b mark) (rejoined mark bs)

apart : (b c : ℕ) (here : Bool) → (b == c) ≡ here → b ≢ c → (b == c) ≡ false
apart b c true e differ = absurd (differ (eqb-true b c e))
apart b c false e differ = e

no_space : (b : ℕ) → is_name_byte b ≡ true → (b == 32) ≡ false
no_space b h = apart b 32 (b == 32) refl (λ e. let z : is_name_byte 32 ≡ true = subst (λ n. is_name_byte n ≡ true) e h in cc)

-- a name ends at the first space
pub before_value : (name value : List ℕ) → list_all is_name_byte name ≡ true → (before 32 (name ++ 32 ∷ value) ≡ name) × (behind 32 (name ++ 32 ∷ value) ≡ Some value)
before_value [] value h = (refl, refl)
before_value (b ∷ bs) value h =
    let hs = both (is_name_byte b) (list_all is_name_byte bs) h in
    let no = no_space b hs.0 in
    let rest = before_value bs value hs.1 in
    (rw no (ap (λ xs. b ∷ xs) rest.0), rw no rest.1)

name_of : (name value : List ℕ) → (is_good_name name && is_good_value value) ≡ true → list_all is_name_byte name ≡ true
name_of name value good = (both _ _ (both _ _ good).0).1

-- a field's text is cut behind its name
pub field_cut : (rest : List ℕ) (f : Field) → IsField rest f → (before 32 rest ≡ f.name) × (behind 32 rest ≡ Some f.value)
field_cut rest f (good, e) = rw e (before_value f.name f.value (name_of f.name f.value good))

-- a text that was cut behind a name
pub joined : (rest name value : List ℕ) → name ≡ before 32 rest → behind 32 rest ≡ Some value → rest ≡ name ++ 32 ∷ value
joined rest name value front more = rejoined 32 rest ∙ (ap (λ (xs : List ℕ). xs ++ rest_of 32 (behind 32 rest)) (sym front) ∙ ap (λ (o : Option (List ℕ)). name ++ rest_of 32 o) more)

pub same_field : (rest name value : List ℕ) (f : Field) → IsField rest f → name ≡ before 32 rest → behind 32 rest ≡ Some value → record { name = name; value = value } ≡ f
same_field rest name value f is front more =
    let cut = field_cut rest f is in
    let names : name ≡ f.name = front ∙ cut.0 in
    let values : value ≡ f.value = let both_some : Some value ≡ Some f.value = sym more ∙ cut.1 in cc in
    subst (λ (n : List ℕ). record { name = n; value = value } ≡ f) (sym names) (subst (λ (v : List ℕ). record { name = f.name; value = v } ≡ f) (sym values) refl)

pub no_field : (rest : List ℕ) (f : Field) → IsField rest f → behind 32 rest ≡ None → ⊥
no_field rest f is none = let both_are : Some f.value ≡ None = sym (field_cut rest f is).1 ∙ none in cc
