-- Hops up to 32, each there once, are at most 33.
use Rattle.std.proofs.Common.{◌≡◌, ℕ, suc, Bool, true, false, ◌&&◌, ◌||◌, ◌++◌, ◌+◌, ◌<◌, ◌≤◌, ◌==◌, eqb, List, [], ◌∷◌, length, take, refl, arith}
use Rattle.std.specs.Prelude.{nat_le}
use Rattle.std.specs.List.{IsDistinct, AllByRecursion, list_all, list_any}
use Rattle.std.proofs.lemmas.Map.Steps.{length-le_from_distinct_below}
use Rattle.std.proofs.lemmas.Grind.{common_steps}
use Rattle.nk_base.specs.Hold.{is_among}
use Rattle.std.proofs.lemmas.List.Folds.{list_all-append}
use Rattle.nk_hold.specs.Hops.{AreApart, AreHops}

-- a hop is among hops where one of them equals it
pub list_any-is_among : (h : ℕ) (hops : List ℕ) → list_any (λ x. x == h) hops ≡ is_among hops h
list_any-is_among h [] = refl
list_any-is_among h (x ∷ xs) = grind (arith, list_any-is_among h xs)

-- a hop is among more hops where it is among either
is_among-append : (hops more : List ℕ) (g : ℕ) → is_among (hops ++ more) g ≡ (is_among hops g || is_among more g)
is_among-append [] more g = refl
is_among-append (x ∷ xs) more g = grind (arith, is_among-append xs more g)

-- a hop that is not among hops differs from each
differs : (h : ℕ) (hops : List ℕ) → is_among hops h ≡ false → AllByRecursion (λ y. eqb h y ≡ false) hops
differs h [] n = tt
differs h (x ∷ xs) n = (grind arith, differs h xs (grind arith))

distinct : (hops : List ℕ) → AreApart hops → IsDistinct eqb hops
unfolding IsDistinct
distinct [] a = tt
distinct (x ∷ xs) a = (differs x xs a.0, distinct xs a.1)

at_head : (q x : ℕ) (b : Bool) → eqb q x ≡ b → nat_le x 32 ≡ true → (b ≡ false → q < 33) → q < 33
at_head q x true r s t = grind arith
at_head q x false r s t = t refl

below : (hops : List ℕ) → list_all (λ h. nat_le h 32) hops ≡ true → (q : ℕ) → list_any (eqb q) hops ≡ true → q < 33
below [] s q e = grind arith
below (x ∷ xs) s q e = at_head q x (eqb q x) refl (grind arith) (λ r. below xs (grind arith) q (grind arith))

-- where a hop up to 32 is not among them, there is room for it
pub room_for : (h : ℕ) (hops : List ℕ) → h ≤ 32 → AreApart hops → is_among hops h ≡ false → list_all (λ x. nat_le x 32) hops ≡ true → length hops < 33
room_for h hops small apart fresh all =
    let most : length (h ∷ hops) ≤ 33 = length-le_from_distinct_below (h ∷ hops) 33 (distinct (h ∷ hops) (fresh, apart)) (below (h ∷ hops) (grind arith)) in
    grind arith

-- it may be added behind them
pub apart_with : (h : ℕ) (hops : List ℕ) → AreApart hops → is_among hops h ≡ false → AreApart (hops ++ h ∷ [])
apart_with h [] a n = (refl, tt)
apart_with h (x ∷ xs) a n = (grind (arith, is_among-append xs (h ∷ []) x, a.0), apart_with h xs a.1 (grind arith))

-- the place behind the hops is free
pub place_for : (h n : ℕ) (places : List ℕ) → length places ≡ 33 → h ≤ 32 → is_among (take n places) h ≡ false → AreHops n (take n places) → n < 33
place_for h n places full small fresh are =
    let room : length (take n places) < 33 = room_for h (take n places) small are.apart fresh are.small in
    grind (arith, common_steps, full, are.fits)

-- with it the hops are as the type keeps them
pub with_new : (h n : ℕ) (hops : List ℕ) → n < 33 → h ≤ 32 → is_among hops h ≡ false → AreHops n hops → AreHops (n + 1) (hops ++ h ∷ [])
with_new h n hops place small fresh are =
    record {
      fits = omega (arith, place);
      apart = apart_with h hops are.apart fresh;
      small = rw (list_all-append (λ x. nat_le x 32) hops (h ∷ []), are.small) (grind (arith, small));
    }
