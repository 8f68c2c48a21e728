-- How a release parts the kept messages, one after another.
use Rattle.std.proofs.Common.{◌≡◌, ◌++◌, ◌<◌, ◌≤◌, ◌+◌, ℕ, zero, suc, Bool, true, false, List, [], ◌∷◌, length, take, drop, if◌then◌else◌, ◌==◌, refl, sym, ap, ◌∙◌, arith}
use Rattle.std.proofs.lemmas.List.{append_assoc}
use Rattle.std.proofs.lemmas.Grind.{common_steps}
use Rattle.nk_base.specs.declared.message.BackMsg.{BackMsg}
use Rattle.nk_base.specs.Hold.{back_hop, of_hop, not_of_hop}

-- the next message to be looked at is the first of the list that is turned round
pub next_taken : (K S : List BackMsg) (i : ℕ) (m : BackMsg) (rest : List BackMsg) → i < length K → drop i K ++ S ≡ m ∷ rest → (take (i + 1) K ≡ take i K ++ m ∷ []) × (rest ≡ drop (i + 1) K ++ S)
next_taken [] S i m rest l e = absurd (grind arith)
next_taken (k ∷ K) S zero m rest l e = (grind (arith, common_steps), grind (arith, common_steps))
next_taken (k ∷ K) S (suc i) m rest l e =
    let r : (take (i + 1) K ≡ take i K ++ m ∷ []) × (rest ≡ drop (i + 1) K ++ S) = next_taken K S i m rest (omega (arith, l)) e in
    let n : suc i + 1 ≡ suc (i + 1) = omega arith in
    rw n (ap (λ (xs : List BackMsg). k ∷ xs) r.0, r.1)

pub of_hop-append : (h : ℕ) (xs ys : List BackMsg) → of_hop h (xs ++ ys) ≡ of_hop h xs ++ of_hop h ys
of_hop-append h [] ys = refl
of_hop-append h (x ∷ xs) ys = grind (arith, common_steps, of_hop-append h xs ys)

pub not_of_hop-append : (h : ℕ) (xs ys : List BackMsg) → not_of_hop h (xs ++ ys) ≡ not_of_hop h xs ++ not_of_hop h ys
not_of_hop-append h [] ys = refl
not_of_hop-append h (x ∷ xs) ys = grind (arith, common_steps, not_of_hop-append h xs ys)

-- one more message is parted
pub parted_next : (h : ℕ) (K : List BackMsg) (i : ℕ) (m : BackMsg) (kept rest leaving kept' leaving' : List BackMsg)
    → i < length K
    → kept ≡ drop i K ++ not_of_hop h (take i K) → leaving ≡ of_hop h (take i K)
    → kept ≡ m ∷ rest → kept' ≡ rest ++ not_of_hop h (m ∷ []) → leaving' ≡ leaving ++ of_hop h (m ∷ [])
    → (kept' ≡ drop (i + 1) K ++ not_of_hop h (take (i + 1) K)) × (leaving' ≡ of_hop h (take (i + 1) K))
parted_next h K i m kept rest leaving kept' leaving' l k g e k' g' =
    let n : (take (i + 1) K ≡ take i K ++ m ∷ []) × (rest ≡ drop (i + 1) K ++ not_of_hop h (take i K)) = next_taken K (not_of_hop h (take i K)) i m rest l (sym k ∙ e) in (
      rw (n.0, not_of_hop-append h (take i K) (m ∷ []))
          (k' ∙ ap (λ (xs : List BackMsg). xs ++ not_of_hop h (m ∷ [])) n.1 ∙ append_assoc (drop (i + 1) K) (not_of_hop h (take i K)) (not_of_hop h (m ∷ []))),
      rw (n.0, of_hop-append h (take i K) (m ∷ [])) (g' ∙ ap (λ (xs : List BackMsg). xs ++ of_hop h (m ∷ [])) g),
    )

-- while messages are left to look at, the list is not empty
pub some_left : (K S xs : List BackMsg) (i : ℕ) → i < length K → xs ≡ drop i K ++ S → xs ≡ drop 1 xs → ⊥
some_left K S [] i l e d = grind (arith, common_steps, ap (λ (ys : List BackMsg). length ys) e)
some_left K S (x ∷ xs) i l e d = grind (arith, common_steps, ap (λ (ys : List BackMsg). length ys) d)
