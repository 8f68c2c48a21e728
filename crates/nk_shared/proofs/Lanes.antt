use Rattle.std.proofs.Common.{ℕ, ◌≡◌, ◌≢◌, ◌<◌, ◌⊎◌, inl, inr, refl, sym, ◌∙◌, ap, List, [], ◌∷◌, ◌++◌, length, Some, slice_get, option_map, map, ◌≤◌, set, arith, subst, length-append, length-set}
use Rattle.std.proofs.lemmas.Bool.{cases_eq}
use Rattle.std.proofs.lemmas.Option.{slice_get_within, get_or_from_slice_get}
use Rattle.std.proofs.lemmas.List.Sums.{sum_by-append, sum_by-set, sum_by-cons}
use Rattle.std.specs.List.{sum_by, sum}
use Rattle.nk_lane.specs.declared.ends.SendEnd.{SendEnd}
use Rattle.nk_lane.specs.declared.ends.TakeEnd.{TakeEnd}
use Rattle.nk_lane.specs.Ends.{sent_on, taken_from, take_capacity}
use Rattle.nk_shared.specs.declared.tagged.Tagged.{Tagged}
use Rattle.nk_shared.specs.declared.tagged.Tags.{Tags}
use Rattle.nk_base.specs.declared.status.Moved.{Moved}
use Rattle.nk_base.specs.declared.status.Moved.TheVariants.{Did, Idle}
use Rattle.nk_shared.specs.Moves.{MovedBy}
use Rattle.nk_shared.specs.Of.{of}
use Rattle.nk_shared.proofs.Frames.{of-here, of-other}
use Rattle.nk_shared.proofs.Places.{get-last, get-front, get-set_same, get-set_other, mapped-same}

-- no two places have one id
abbrev pub Apart : List ℕ → Type 0
Apart ids = (i j id : ℕ) → slice_get ids i ≡ Some id → slice_get ids j ≡ Some id → i ≡ j

-- an id that has no place was not sent
abbrev pub Unknown : List ℕ → List Tagged → Type 0
Unknown ids ts = (id : ℕ) → ((i : ℕ) → slice_get ids i ≢ Some id) → of id ts ≡ []

-- *Projection* of a mux, over what each end's items are
abbrev pub Projected : {E : Type 0} → (E → List (List ℕ)) → List ℕ → List E → List Tagged → Type 0
Projected taken ids ends ts = (i : ℕ) → option_map taken (slice_get ends i) ≡ option_map (λ id. of id ts) (slice_get ids i)

-- all that a mux keeps
pub record Muxed {E : Type 0} (taken : E → List (List ℕ)) (ids : List ℕ) (ends : List E) (ts : List Tagged) : Type 0 where
  pub paired : length ids ≡ length ends
  pub projected : Projected taken ids ends ts
  pub apart : Apart ids
  pub unknown : Unknown ids ts
  pub counted : length ts ≡ sum_by (λ e. length (taken e)) ends

-- one frame went over under this id, or none
abbrev pub Went : {E : Type 0} → (E → List (List ℕ)) → ℕ → E → E → List Tagged → List Tagged → Type 0
Went taken id e e' ts ts' =
    ((frame : List ℕ) × (taken e' ≡ taken e ++ frame ∷ []) × (ts' ≡ ts ++ (record { id = id; frame = frame }) ∷ [])) ⊎ ((taken e' ≡ taken e) × (ts' ≡ ts))

pub went : {P : Type 0} {b : _} (m : Moved) (id : ℕ) (e e' : TakeEnd (List ℕ) P b) (out out' : SendEnd Tagged (Tags P)) → MovedBy m id e e' out out' → Went taken_from id e e' (sent_on out) (sent_on out')
went Did id e e' out out' h = inl (h.0, h.1.taken, h.1.sent)
went Idle id e e' out out' h = inr (h.taken, h.sent)

module _ (ids : List ℕ) (id : ℕ) (new : (i : ℕ) → slice_get ids i ≢ Some id) where
  pub added_apart : Apart ids → Apart (ids ++ id ∷ [])
  added_apart apart i j k at at' = elim (cases_eq i (length ids)) [
    | inl a ↦ elim (cases_eq j (length ids)) [
      | inl b ↦ a ∙ sym b
      | inr b ↦
          let x : slice_get (ids ++ id ∷ []) i ≡ Some id = ap (slice_get (ids ++ id ∷ [])) a ∙ get-last ids id in
          let y = get-front ids id j b in
          absurd (new j cc)
    ]
    | inr a ↦ elim (cases_eq j (length ids)) [
      | inl b ↦
          let x : slice_get (ids ++ id ∷ []) j ≡ Some id = ap (slice_get (ids ++ id ∷ [])) b ∙ get-last ids id in
          let y = get-front ids id i a in
          absurd (new i cc)
      | inr b ↦ apart i j k (sym (get-front ids id i a) ∙ at) (sym (get-front ids id j b) ∙ at')
    ]
  ]

  pub added_unknown : (ts : List Tagged) → Unknown ids ts → Unknown (ids ++ id ∷ []) ts
  added_unknown ts unknown k none = unknown k (λ i h. none i (
      let inside = slice_get_within ids i k h in
      let ne : i ≢ length ids = (λ e. omega arith) in get-front ids id i ne ∙ h))

  pub added_projected : {E : Type 0} (taken : E → List (List ℕ)) (ends : List E) (e : E) (ts : List Tagged) → length ids ≡ length ends → taken e ≡ []
      → Unknown ids ts → Projected taken ids ends ts → Projected taken (ids ++ id ∷ []) (ends ++ e ∷ []) ts
  added_projected taken ends e ts paired untouched unknown projected i = elim (cases_eq i (length ids)) [
    | inl a ↦
        let x : slice_get (ids ++ id ∷ []) i ≡ Some id = ap (slice_get (ids ++ id ∷ [])) a ∙ get-last ids id in
        let y : slice_get (ends ++ e ∷ []) i ≡ Some e = ap (slice_get (ends ++ e ∷ [])) (a ∙ paired) ∙ get-last ends e in
        ap (option_map taken) y ∙ (ap (λ l. Some l) (untouched ∙ sym (unknown id new)) ∙ sym (ap (option_map (λ k. of k ts)) x))
    | inr a ↦
        ap (option_map taken) (get-front ends e i (λ h. a (h ∙ sym paired))) ∙ (projected i ∙ sym (ap (option_map (λ k. of k ts)) (get-front ids id i a)))
  ]

module _ {E : Type 0} (taken : E → List (List ℕ)) (ids : List ℕ) (ends : List E) (ts ts' : List Tagged) (i id : ℕ) (e e' : E)
    (went_over : Went taken id e e' ts ts') (id_at : slice_get ids i ≡ Some id) where
  pub turned_unknown : Unknown ids ts → Unknown ids ts'
  turned_unknown unknown k none = elim went_over [
    | inl h ↦
        let ne : id ≢ k = (λ x. none i (id_at ∙ ap (λ y. Some y) x)) in
        ap (of k) h.2 ∙ (of-other k ts (record { id = id; frame = h.0 }) ne ∙ unknown k none)
    | inr h ↦ ap (of k) h.1 ∙ unknown k none
  ]

  of_same : Apart ids → (j : ℕ) → j ≢ i → option_map (λ k. of k ts') (slice_get ids j) ≡ option_map (λ k. of k ts) (slice_get ids j)
  of_same apart j ne = mapped-same (λ k. of k ts') (λ k. of k ts) (slice_get ids j) (λ k at. elim went_over [
    | inl h ↦
        let other : id ≢ k = (λ x. ne (apart j i k at (id_at ∙ ap (λ y. Some y) x))) in
        ap (of k) h.2 ∙ of-other k ts (record { id = id; frame = h.0 }) other
    | inr h ↦ ap (of k) h.1
  ])

  of_here : taken e ≡ of id ts → taken e' ≡ of id ts'
  of_here same = elim went_over [
    | inl h ↦ h.1 ∙ (ap (λ l. l ++ h.0 ∷ []) same ∙ (sym (of-here id ts (record { id = id; frame = h.0 }) refl) ∙ sym (ap (of id) h.2)))
    | inr h ↦ h.0 ∙ (same ∙ sym (ap (of id) h.1))
  ]

  pub turned_projected : i < length ends → slice_get ends i ≡ Some e → Apart ids → Projected taken ids ends ts → Projected taken ids (set ends i e') ts'
  turned_projected inside was apart projected j = elim (cases_eq j i) [
    | inl a ↦
        let x : slice_get ids j ≡ Some id = ap (slice_get ids) a ∙ id_at in
        let y : slice_get (set ends i e') j ≡ Some e' = ap (slice_get (set ends i e')) a ∙ get-set_same ends i e' inside in
        let both : Some (taken e) ≡ Some (of id ts) = sym (ap (option_map taken) was) ∙ (projected i ∙ ap (option_map (λ k. of k ts)) id_at) in
        let same : taken e ≡ of id ts = cc in
        ap (option_map taken) y ∙ (ap (λ l. Some l) (of_here same) ∙ sym (ap (option_map (λ k. of k ts')) x))
    | inr ne ↦ ap (option_map taken) (get-set_other ends i j e' ne) ∙ (projected j ∙ sym (of_same apart j ne))
  ]

pub added : {E : Type 0} (taken : E → List (List ℕ)) (ids ids' : List ℕ) (id : ℕ) (ends ends' : List E) (e : E) (ts : List Tagged)
    → ((i : ℕ) → slice_get ids i ≢ Some id) → taken e ≡ [] → ids' ≡ ids ++ id ∷ [] → ends' ≡ ends ++ e ∷ [] → Muxed taken ids ends ts → Muxed taken ids' ends' ts
added taken ids ids' id ends ends' e ts new untouched more more' kept =
    let a = length-append ids (id ∷ []) in
    let b = length-append ends (e ∷ []) in
    let p = kept.paired in
    let k = kept.counted in
    let z = ap length untouched in
    let s = sum_by-append (λ e. length (taken e)) ends (e ∷ []) in
    subst (λ l. Muxed taken l ends' ts) (sym more) (subst (λ m. Muxed taken (ids ++ id ∷ []) m ts) (sym more') (record {
      paired = omega arith;
      projected = added_projected ids id new taken ends e ts kept.paired untouched kept.unknown kept.projected;
      apart = added_apart ids id new kept.apart;
      unknown = added_unknown ids id new ts kept.unknown;
      counted = omega arith;
    }))

turned_counted : {E : Type 0} (taken : E → List (List ℕ)) (ends : List E) (ts ts' : List Tagged) (i id : ℕ) (e e' : E)
    → Went taken id e e' ts ts' → i < length ends → slice_get ends i ≡ Some e → length ts ≡ sum_by (λ x. length (taken x)) ends
    → length ts' ≡ sum_by (λ x. length (taken x)) (set ends i e')
turned_counted taken ends ts ts' i id e e' over inside was counted =
    let s = sum_by-set (λ x. length (taken x)) ends i e' e inside in
    let g = ap (λ x. length (taken x)) (get_or_from_slice_get ends i e e was) in
    elim over [
      | inl h ↦
          let a = ap length h.1 ∙ length-append (taken e) (h.0 ∷ []) in
          let b = ap length h.2 ∙ length-append ts ((record { id = id; frame = h.0 }) ∷ []) in omega arith
      | inr h ↦ let a = ap length h.0 in let b = ap length h.1 in omega arith
    ]

pub turned : {E : Type 0} (taken : E → List (List ℕ)) (ids : List ℕ) (ends : List E) (ts ts' : List Tagged) (i id : ℕ) (e e' : E)
    → Went taken id e e' ts ts' → i < length ends → slice_get ids i ≡ Some id → slice_get ends i ≡ Some e → Muxed taken ids ends ts → Muxed taken ids (set ends i e') ts'
turned taken ids ends ts ts' i id e e' over inside id_at was kept =
    let p = kept.paired in
    let n = length-set ends i e' in
    record {
      paired = omega arith;
      projected = turned_projected taken ids ends ts ts' i id e e' over id_at inside was kept.apart kept.projected;
      apart = kept.apart;
      unknown = turned_unknown taken ids ends ts ts' i id e e' over id_at kept.unknown;
      counted = turned_counted taken ends ts ts' i id e e' over inside was kept.counted;
    }

-- no end gave more than its capacity
pub taken_fits : {P : Type 0} {b : _} (ends : List (TakeEnd (List ℕ) P b)) → sum_by (λ e. length (taken_from e)) ends ≤ sum (map take_capacity ends)
taken_fits [] = omega arith
taken_fits (e ∷ ends) =
    let rest = taken_fits ends in
    let x = sum_by-cons (λ (t : TakeEnd (List ℕ) _ _). length (taken_from t)) e ends in
    let y = sum_by-cons (λ (n : ℕ). n) (take_capacity e) (map take_capacity ends) in
    let n = e.counts in omega arith
