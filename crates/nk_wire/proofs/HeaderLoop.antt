-- Header fields that a loop reads one after the other.
use Rattle.std.proofs.Common.{◌≡◌, ℕ, suc, List, [], ◌∷◌, ◌++◌, Result, Ok, Err, refl, ap, append_assoc, true, ◌∙◌}
use Rattle.std.proofs.lemmas.List.{append-nil}
use Rattle.std.proofs.lemmas.List.Folds.{list_all-append}
use Rattle.nk_base.specs.Fields.{is_good_field, are_good_fields}
use Rattle.nk_wire.proofs.Steps.{both}
use Rattle.nk_base.specs.declared.field.Field.{Field}
use Rattle.nk_wire.specs.declared.error.DecodeError.{DecodeError}
use Rattle.nk_wire.specs.declared.error.DecodeError.TheVariants as error
use Rattle.nk_wire.specs.Reading.{◌>>=◌, Fails, Place, header_at, headers_at}

-- the fields that were read, and those that the answer has
abbrev pub with_front : List Field → Result (List Field × Place) DecodeError → Result (List Field × Place) DecodeError
with_front front answer = answer >>= λ x. Ok (front ++ x.0, x.1)

one_more : (front : List Field) (f : Field) (answer : Result (List Field × Place) DecodeError) → with_front front (answer >>= λ x. Ok (f ∷ x.0, x.1)) ≡ with_front (front ++ f ∷ []) answer
one_more front f (Ok x) = ap (λ (fs : List Field). Ok (fs, x.1)) (simp append_assoc)
one_more front f (Err e) = refl

-- a field that is read joins those before it
pub with_front-step : (front : List Field) (n k : ℕ) (p q : Place) (f : Field) → n ≡ suc k → header_at p ≡ Ok (f, q) → with_front front (headers_at n p) ≡ with_front (front ++ f ∷ []) (headers_at k q)
unfolding headers_at
with_front-step front n k p q f count h = rw (count, h) (one_more front f (headers_at k q))

-- a field that cannot be read ends it
pub with_front-fails : (e : DecodeError) (front : List Field) (n k : ℕ) (p : Place) → n ≡ suc k → Fails e (header_at p) → Fails e (with_front front (headers_at n p))
unfolding headers_at
with_front-fails error.Memory front n k p count h = tt
with_front-fails (error.Short have need) front n k p count h = rw (count, h) refl
with_front-fails (error.Kind kind) front n k p count h = rw (count, h) refl
with_front-fails (error.BadField place) front n k p count h = rw (count, h) refl
with_front-fails (error.Long extra) front n k p count h = rw (count, h) refl

-- where no more are to be read, those that were read are all
pub with_front-done : (front : List Field) (n : ℕ) (p : Place) → n ≡ 0 → with_front front (headers_at n p) ≡ Ok (front, p)
unfolding headers_at
with_front-done front n p count = rw count (ap (λ (fs : List Field). Ok (fs, p)) (append-nil front))

-- with one more good field all are good
pub are_good_fields-push : (fs : List Field) (f : Field) → are_good_fields fs ≡ true → is_good_field f ≡ true → are_good_fields (fs ++ f ∷ []) ≡ true
are_good_fields-push fs f h k =
    list_all-append is_good_field fs (f ∷ []) ∙ both (are_good_fields fs) (are_good_fields (f ∷ [])) h (both (is_good_field f) true k refl)
