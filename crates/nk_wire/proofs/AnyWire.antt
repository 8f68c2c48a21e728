-- Any lane: what a rest is read as is what it spells; and no spelling begins another.
use Rattle.std.proofs.Common.{◌≡◌, ℕ, ◌==◌, Bool, true, false, List, [], ◌∷◌, ◌++◌, length, Result, Ok, Err, refl, sym, ap, subst, ◌∙◌, if◌then◌else◌, inl, inr}
use Rattle.std.specs.Prelude.{IfOk}
use Rattle.std.proofs.lemmas.List.{append-nil}
use Rattle.nk_base.specs.declared.message.MainMsg.{MainMsg}
use Rattle.nk_base.specs.declared.message.MainMsg.TheVariants as main
use Rattle.nk_base.specs.declared.message.BackMsg.{BackMsg}
use Rattle.nk_base.specs.declared.message.BackMsg.TheVariants as back
use Rattle.nk_base.specs.declared.message.UpMsg.{UpMsg}
use Rattle.nk_base.specs.declared.message.UpMsg.TheVariants as up
use Rattle.nk_wire.specs.declared.error.DecodeError.{DecodeError}
use Rattle.nk_wire.specs.declared.error.DecodeError.TheVariants as error
use Rattle.nk_wire.specs.declared.message.AnyMsg.{AnyMsg}
use Rattle.nk_wire.specs.declared.message.AnyMsg.TheVariants as any
use Rattle.nk_wire.specs.Kinds.{main_kinds, up_kinds}
use Rattle.nk_wire.specs.Spelling.{SpellsMain, SpellsBack, SpellsUp, SpellsAny, main_rest, back_rest, up_rest}
use Rattle.nk_wire.specs.Reading.{◌>>=◌, Gives, Place, at_end, has_kind, main_answer, back_answer, up_answer, any_answer}
use Rattle.nk_wire.proofs.Steps.{both_ok, equal_values}
use Rattle.nk_wire.proofs.Numbers.{AreBytes}
use Rattle.nk_wire.proofs.Rows.{chosen, at_end-takes}
use Rattle.nk_wire.proofs.MainWire.{main-found, main-again}
use Rattle.nk_wire.proofs.BackWire.{back-found, back-again}
use Rattle.nk_wire.proofs.UpWire.{up-found, up-again}

-- what is read of any lane is spelled so

as_main : (rest : List ℕ) (m : AnyMsg) → AreBytes rest → (main_answer rest >>= λ x. Ok (any.Main x)) ≡ Ok m → SpellsAny m rest
as_main rest m are h =
    let a = both_ok (main_answer rest) (λ x. Ok (any.Main x)) m h in
    subst (λ (n : AnyMsg). SpellsAny n rest) (equal_values (any.Main a.0) m a.2) (main-found rest a.0 are a.1)

as_up : (rest : List ℕ) (m : AnyMsg) → AreBytes rest → (up_answer rest >>= λ x. Ok (any.Up x)) ≡ Ok m → SpellsAny m rest
as_up rest m are h =
    let a = both_ok (up_answer rest) (λ x. Ok (any.Up x)) m h in
    subst (λ (n : AnyMsg). SpellsAny n rest) (equal_values (any.Up a.0) m a.2) (up-found rest a.0 are a.1)

as_back : (rest : List ℕ) (m : AnyMsg) → AreBytes rest → (back_answer rest >>= λ x. Ok (any.Back x)) ≡ Ok m → SpellsAny m rest
as_back rest m are h =
    let a = both_ok (back_answer rest) (λ x. Ok (any.Back x)) m h in
    subst (λ (n : AnyMsg). SpellsAny n rest) (equal_values (any.Back a.0) m a.2) (back-found rest a.0 are a.1)

pub any-found : (rest : List ℕ) (m : AnyMsg) → AreBytes rest → any_answer rest ≡ Ok m → SpellsAny m rest
any-found [] m are h = absurd cc
any-found (kind ∷ text) m are h =
    let rest = kind ∷ text in
    elim (chosen (has_kind main_kinds kind) (main_answer rest >>= λ x. Ok (any.Main x)) (if has_kind up_kinds kind then (up_answer rest >>= λ x. Ok (any.Up x)) else (back_answer rest >>= λ x. Ok (any.Back x))) (Ok m) h) [
      | inl in_main ↦ as_main rest m are in_main.1
      | inr other ↦ elim (chosen (has_kind up_kinds kind) (up_answer rest >>= λ x. Ok (any.Up x)) (back_answer rest >>= λ x. Ok (any.Back x)) (Ok m) other.1) [
        | inl in_up ↦ as_up rest m are in_up.1
        | inr in_back ↦ as_back rest m are in_back.1
      ]
    ]

-- what spells a message is read as it, where nothing follows

abbrev ended_by : {M : Type 0} → Bool → ℕ → M → Result M DecodeError
ended_by b extra m = if b then Ok m else Err (error.Long extra)

main-kind : (m : MainMsg) (x : List ℕ) → any_answer (main_rest m ++ x) ≡ (main_answer (main_rest m ++ x) >>= λ n. Ok (any.Main n))
main-kind (main.Start hop status head) x = refl
main-kind (main.FailedOpen hop status) x = refl
main-kind (main.Redirect1 hop code) x = refl
main-kind (main.Redirect3 hop) x = refl

back-kind : (m : BackMsg) (x : List ℕ) → any_answer (back_rest m ++ x) ≡ (back_answer (back_rest m ++ x) >>= λ n. Ok (any.Back n))
back-kind (back.Start hop status head) x = refl
back-kind (back.StartSent hop) x = refl
back-kind (back.Bytes hop status offset piece) x = refl
back-kind (back.Stop hop status []) x = refl
back-kind (back.Stop hop status (t ∷ ts)) x = refl

up-kind : (m : UpMsg) (x : List ℕ) → any_answer (up_rest m ++ x) ≡ (up_answer (up_rest m ++ x) >>= λ n. Ok (any.Up n))
up-kind up.Open x = refl
up-kind up.Suspend x = refl
up-kind up.Resume x = refl
up-kind (up.Cancel status) x = refl
up-kind (up.Verify hop status) x = refl
up-kind (up.BytesRead count) x = refl
up-kind up.Deleting x = refl

moved : {M : Type 0} (b : Bool) (extra : ℕ) (make : M → AnyMsg) (m : M) → (ended_by b extra m >>= λ n. Ok (make n)) ≡ ended_by b extra (make m)
moved true extra make m = refl
moved false extra make m = refl

-- the answer of a lane is the answer of any, made into a message of any lane
ended : {M : Type 0} (make : M → AnyMsg) (m : M) (p : Place) → (at_end (m, p) >>= λ n. Ok (make n)) ≡ at_end (make m, p)
ended make m p = moved (length p.left == 0) (length p.left) make m

pub any-again : (m : AnyMsg) (a x : List ℕ) → SpellsAny m a → (to : ℕ) × (any_answer (a ++ x) ≡ at_end (m, record { at = to; left = x }))
any-again (any.Main m) a x s =
    let t = main-again m a x s in (
      t.0,
      subst (λ (l : List ℕ). any_answer (l ++ x) ≡ (main_answer (l ++ x) >>= λ n. Ok (any.Main n))) (sym s.spelled) (main-kind m x)
          ∙ ap (λ (r : Result MainMsg DecodeError). r >>= λ n. Ok (any.Main n)) t.1 ∙ ended any.Main m (record { at = t.0; left = x }),
    )
any-again (any.Back m) a x s =
    let t = back-again m a x s in (
      t.0,
      subst (λ (l : List ℕ). any_answer (l ++ x) ≡ (back_answer (l ++ x) >>= λ n. Ok (any.Back n))) (sym s.spelled) (back-kind m x)
          ∙ ap (λ (r : Result BackMsg DecodeError). r >>= λ n. Ok (any.Back n)) t.1 ∙ ended any.Back m (record { at = t.0; left = x }),
    )
any-again (any.Up m) a x s =
    let t = up-again m a x s in (
      t.0,
      subst (λ (l : List ℕ). any_answer (l ++ x) ≡ (up_answer (l ++ x) >>= λ n. Ok (any.Up n))) (sym s.spelled) (up-kind m x)
          ∙ ap (λ (r : Result UpMsg DecodeError). r >>= λ n. Ok (any.Up n)) t.1 ∙ ended any.Up m (record { at = t.0; left = x }),
    )

-- each lane: what is spelled so is read

pub main-only : (m : MainMsg) (rest : List ℕ) → SpellsMain m rest → main_answer rest ≡ Ok m
main-only m rest s = let t = main-again m rest [] s in ap main_answer (sym (append-nil rest)) ∙ t.1

pub back-only : (m : BackMsg) (rest : List ℕ) → SpellsBack m rest → back_answer rest ≡ Ok m
back-only m rest s = let t = back-again m rest [] s in ap back_answer (sym (append-nil rest)) ∙ t.1

pub up-only : (m : UpMsg) (rest : List ℕ) → SpellsUp m rest → up_answer rest ≡ Ok m
up-only m rest s = let t = up-again m rest [] s in ap up_answer (sym (append-nil rest)) ∙ t.1

pub any-only : (m : AnyMsg) (rest : List ℕ) → SpellsAny m rest → any_answer rest ≡ Ok m
any-only m rest s = let t = any-again m rest [] s in ap any_answer (sym (append-nil rest)) ∙ t.1

-- no spelling begins another
pub none_begins : (m n : AnyMsg) (a b x : List ℕ) → SpellsAny m a → SpellsAny n b → a ++ x ≡ b → (x ≡ []) × (m ≡ n)
none_begins m n a b x s t h =
    let u = any-again m a x s in
    let e = at_end-takes (m, record { at = u.0; left = x }) n (sym u.1 ∙ ap any_answer h ∙ any-only n b t) in
    (e.1, e.0)

-- a call that answers what the bytes say

pub given-found : {M : Type 0} (spells : M → List ℕ → Type 0) (answer : Result M DecodeError) (rest : List ℕ) (r : Result M DecodeError) → ((m : M) → answer ≡ Ok m → spells m rest) → Gives (λ m. m) r answer → IfOk r (λ m. spells m rest)
given-found spells answer rest (Ok m) found h = found m h
given-found spells answer rest (Err e) found h = tt
