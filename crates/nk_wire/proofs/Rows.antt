-- A rest by its kind: what a lane's kinds spell.
use Rattle.std.proofs.Common.{◌≡◌, ℕ, ◌==◌, Bool, true, false, List, [], ◌∷◌, ◌++◌, length, Result, Ok, Err, refl, sym, ap, subst, ◌∙◌, if◌then◌else◌, inl, inr}
use Rattle.std.specs.Prelude.{◌⊎◌}
use Rattle.std.proofs.lemmas.Bool.{eqb-true}
use Rattle.std.proofs.lemmas.List.{append-nil, nil_from_length}
use Rattle.nk_wire.specs.declared.error.DecodeError.{DecodeError}
use Rattle.nk_wire.specs.declared.error.DecodeError.TheVariants as error
use Rattle.nk_wire.specs.Kinds.{Row}
use Rattle.nk_wire.specs.Reading.{◌>>=◌, Place, read, at_end, read_kind}
use Rattle.nk_wire.proofs.Steps.{both_ok, equal_values}
use Rattle.nk_wire.proofs.Numbers.{AreBytes}
use Rattle.nk_wire.proofs.Spells.{Spells, read-takes}

-- one of these kinds, and its fields spell the message
abbrev pub SpellsKind : {M : Type 0} → List (Row M) → ℕ → M → List ℕ → Type 0
SpellsKind [] kind m text = ⊥
SpellsKind (row ∷ rows) kind m text = ((kind ≡ row.kind) × Spells row.layout m text) ⊎ SpellsKind rows kind m text

abbrev too_long : {M : Type 0} → ℕ → Result M DecodeError
too_long extra = Err (error.Long extra)

pub chosen : {A : Type 0} (b : Bool) (x y z : A) → (if b then x else y) ≡ z → ((b ≡ true) × (x ≡ z)) ⊎ ((b ≡ false) × (y ≡ z))
chosen true x y z h = inl (refl, h)
chosen false x y z h = inr (refl, h)

pub read_kind-takes : {M : Type 0} (rows : List (Row M)) (kind : ℕ) (p q : Place) (m : M) → AreBytes p.left → read_kind rows kind p ≡ Ok (m, q) → (text : List ℕ) × SpellsKind rows kind m text × (p.left ≡ text ++ q.left)
read_kind-takes [] kind p q m are h = absurd cc
read_kind-takes (row ∷ rows) kind p q m are h =
    elim (chosen (kind == row.kind) (read row.layout p) (read_kind rows kind p) (Ok (m, q)) h) [
      | inl here ↦ let t = read-takes row.layout p q m are here.1 in (t.0, inl (eqb-true kind row.kind here.0, t.1), t.2)
      | inr there ↦ let t = read_kind-takes rows kind p q m are there.1 in (t.0, inr t.1, t.2)
    ]

long_is_no_answer : {M : Type 0} (extra : ℕ) (m : M) → too_long extra ≡ Ok m → ⊥
long_is_no_answer extra m h = absurd cc

-- nothing was left
pub at_end-takes : {M : Type 0} (x : M × Place) (m : M) → at_end x ≡ Ok m → (x.0 ≡ m) × (x.1.left ≡ [])
at_end-takes x m h =
    elim (chosen (length x.1.left == 0) (Ok x.0) (Err (error.Long (length x.1.left))) (Ok m) h) [
      | inl ended ↦ (equal_values x.0 m ended.1, nil_from_length x.1.left (eqb-true (length x.1.left) 0 ended.0))
      | inr long ↦ absurd (long_is_no_answer (length x.1.left) m long.1)
    ]

-- all that stands behind the kind was read
pub whole-takes : {M : Type 0} (rows : List (Row M)) (kind : ℕ) (p : Place) (m : M) → AreBytes p.left → (read_kind rows kind p >>= at_end) ≡ Ok m → SpellsKind rows kind m p.left
whole-takes rows kind p m are h =
    let a = both_ok (read_kind rows kind p) at_end m h in
    let e = at_end-takes a.0 m a.2 in
    let t = read_kind-takes rows kind p a.0.1 a.0.0 are a.1 in
    let text : t.0 ≡ p.left = sym (append-nil t.0) ∙ ap (λ (l : List ℕ). t.0 ++ l) (sym e.1) ∙ sym t.2 in
    let spelled : SpellsKind rows kind m t.0 = subst (λ n. SpellsKind rows kind n t.0) e.0 t.1 in
    subst (λ (l : List ℕ). SpellsKind rows kind m l) text spelled
