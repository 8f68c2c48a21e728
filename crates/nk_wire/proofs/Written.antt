-- Header fields written one after the other: the fields that are left, from a place on.
use Rattle.std.proofs.Common.{◌≡◌, ◌+◌, ℕ, true, List, ◌∷◌, ◌++◌, length, drop, Some, sym, ap, subst, ◌∙◌, add-one, append_assoc, suc}
use Rattle.std.specs.Prelude.{slice_get}
use Rattle.std.specs.List.{flat_map}
use Rattle.std.proofs.Math.Seq.{drop-cons}
use Rattle.std.proofs.lemmas.List.{length-append}
use Rattle.std.proofs.lemmas.Option.{slice_get_within, get_or_from_slice_get}
use Rattle.std.proofs.lemmas.List.Concat.{flat_map-cons}
use Rattle.nk_base.specs.declared.field.Field.{Field}
use Rattle.nk_base.specs.Fields.{is_good_field, are_good_fields}
use Rattle.nk_wire.specs.Spelling.{field}
use Rattle.nk_wire.proofs.Steps.{left_of, right_of}

pub next_is : (fs : List Field) (i : ℕ) (f : Field) → slice_get fs i ≡ Some f → drop i fs ≡ f ∷ drop (i + 1) fs
next_is fs i f h =
    drop-cons fs i f (slice_get_within fs i f h) ∙ ap (λ (g : Field). g ∷ drop (suc i) fs) (get_or_from_slice_get fs i f f h) ∙ ap (λ (k : ℕ). f ∷ drop k fs) (sym (add-one i))

pub next-good : (fs : List Field) (i : ℕ) (f : Field) → slice_get fs i ≡ Some f → are_good_fields (drop i fs) ≡ true → is_good_field f ≡ true
next-good fs i f h good = left_of (is_good_field f) (are_good_fields (drop (i + 1) fs)) (subst (λ (l : List Field). are_good_fields l ≡ true) (next_is fs i f h) good)

pub left-good : (fs : List Field) (i : ℕ) (f : Field) → slice_get fs i ≡ Some f → are_good_fields (drop i fs) ≡ true → are_good_fields (drop (i + 1) fs) ≡ true
left-good fs i f h good = right_of (is_good_field f) (are_good_fields (drop (i + 1) fs)) (subst (λ (l : List Field). are_good_fields l ≡ true) (next_is fs i f h) good)

pub next-spelled : (fs : List Field) (i : ℕ) (f : Field) → slice_get fs i ≡ Some f → flat_map field (drop i fs) ≡ field f ++ flat_map field (drop (i + 1) fs)
next-spelled fs i f h = ap (flat_map field) (next_is fs i f h) ∙ flat_map-cons field f (drop (i + 1) fs)

-- the next is written behind those before it
pub with_next : (front : List ℕ) (fs : List Field) (i : ℕ) (f : Field) → slice_get fs i ≡ Some f → (front ++ field f) ++ flat_map field (drop (i + 1) fs) ≡ front ++ flat_map field (drop i fs)
with_next front fs i f h = append_assoc front (field f) (flat_map field (drop (i + 1) fs)) ∙ ap (λ (l : List ℕ). front ++ l) (sym (next-spelled fs i f h))

pub next-sized : (fs : List Field) (i : ℕ) (f : Field) → slice_get fs i ≡ Some f → length (flat_map field (drop i fs)) ≡ length (field f) + length (flat_map field (drop (i + 1) fs))
next-sized fs i f h = ap length (next-spelled fs i f h) ∙ length-append (field f) (flat_map field (drop (i + 1) fs))
