-- Lemmas on a walk over the segments from one on, which changes each.
use Rattle.std.proofs.Common.{◌≡◌, ◌≢◌, ◌<◌, ◌==◌, Bool, true, false, List, [], ◌∷◌, length, drop, Option, Some, None, refl, sym, ap, ◌∙◌, arith}
use Rattle.std.proofs.lemmas.Bool.Decides.{nat_tests}
use Rattle.nk_chain.specs.declared.Place.{Place}
use Rattle.nk_chain.specs.Chain.{first_place, item_at, place_after, IsLive, PlacesDiffer}
use Rattle.nk_segments.specs.Segments.{Segment, changed_all, changed_at, changed_from, since, AreBelowEight, AreHeld}
use Rattle.nk_segments.proofs.SegmentLemmas.{item_at-changed_absent}

-- the change from the place that the walk has come to
abbrev pub onward : (Segment → Segment) → List (Place × Segment) → Option Place → List (Place × Segment)
onward f items None = items
onward f items (Some place) = changed_from f items place

-- the segments from there on
abbrev pub since_at : List (Place × Segment) → Option Place → List (Place × Segment)
since_at items None = []
since_at items (Some place) = since items place

-- the place is live, where there is one
abbrev pub HasPlace : List (Place × Segment) → Option Place → Type 0
HasPlace items None = Unit {0}
HasPlace items (Some place) = IsLive items place

abbrev IsAway : Place → Option Place → Type 0
IsAway place None = Unit {0}
IsAway place (Some q) = place.0 ≢ q.0

live_later : (e : Place × Segment) (rest : List (Place × Segment)) (q : Place) → IsLive rest q → IsLive (e ∷ rest) q
live_later e rest q live = grind (arith, nat_tests)

-- a live place and one with no item differ
live_differs : (items : List (Place × Segment)) (live absent : Place) → IsLive items live → item_at items absent ≡ None → live.0 ≢ absent.0
live_differs [] live absent is none = absurd (cc)
live_differs (e ∷ rest) live absent is none = grind (arith, nat_tests, is, none, live_differs rest live absent)

since-own : (e : Place × Segment) (rest : List (Place × Segment)) → since (e ∷ rest) e.0 ≡ e ∷ rest
since-own e rest = grind (arith, nat_tests)

since-other : (e : Place × Segment) (rest : List (Place × Segment)) (q : Place) → e.0.0 ≢ q.0 → since (e ∷ rest) q ≡ since rest q
since-other e rest q differs = grind (arith, nat_tests)

from-own : (f : Segment → Segment) (e : Place × Segment) (rest : List (Place × Segment)) → changed_from f (e ∷ rest) e.0 ≡ changed_all f (e ∷ rest)
from-own f e rest = grind (arith, nat_tests)

from-other : (f : Segment → Segment) (e : Place × Segment) (rest : List (Place × Segment)) (q : Place) → e.0.0 ≢ q.0 → changed_from f (e ∷ rest) q ≡ e ∷ changed_from f rest q
from-other f e rest q differs = grind (arith, nat_tests)

first_live : (items : List (Place × Segment)) (q : Place) → first_place items ≡ Some q → IsLive items q
first_live [] q is = absurd (cc)
first_live (e ∷ rest) q is = let same : e.0 ≡ q = cc in rw (← same) (grind (arith, nat_tests))

pub after_live : (items : List (Place × Segment)) (p q : Place) → place_after items p ≡ Some q → IsLive items q
after_live [] p q is = absurd (cc)
after_live (e ∷ rest) p q is = grind (arith, nat_tests, after_live rest p q, first_live rest q, live_later e rest q)

away : (e : Place × Segment) (rest : List (Place × Segment)) (at : Option Place) → item_at rest e.0 ≡ None → HasPlace rest at → IsAway e.0 at
away e rest None absent has = tt
away e rest (Some q) absent has = λ same. live_differs rest q e.0 has absent (sym same)

has_first : (items : List (Place × Segment)) (at : Option Place) → first_place items ≡ at → HasPlace items at
has_first items None is = tt
has_first items (Some q) is = first_live items q is

has_after : (items : List (Place × Segment)) (p : Place) (at : Option Place) → place_after items p ≡ at → HasPlace items at
has_after items p None is = tt
has_after items p (Some q) is = after_live items p q is

onward_later : (f : Segment → Segment) (e : Place × Segment) (rest : List (Place × Segment)) (at : Option Place) → IsAway e.0 at → onward f (e ∷ rest) at ≡ e ∷ onward f rest at
onward_later f e rest None is = refl
onward_later f e rest (Some q) is = from-other f e rest q is

since_later : (e : Place × Segment) (rest : List (Place × Segment)) (at : Option Place) → IsAway e.0 at → since_at (e ∷ rest) at ≡ since_at rest at
since_later e rest None is = refl
since_later e rest (Some q) is = since-other e rest q is

onward_first : (f : Segment → Segment) (rest : List (Place × Segment)) → onward f rest (first_place rest) ≡ changed_all f rest
onward_first f [] = refl
onward_first f (e ∷ rest) = from-own f e rest

since_first : (rest : List (Place × Segment)) → since_at rest (first_place rest) ≡ rest
since_first [] = refl
since_first (e ∷ rest) = since-own e rest

-- what one step of the walk leaves to do
pub record Steps (f : Segment → Segment) (items : List (Place × Segment)) (place : Place) : Type 0 where
  pub onward : onward f (changed_at f items place) (place_after items place) ≡ changed_from f items place
  pub since : since_at (changed_at f items place) (place_after items place) ≡ drop 1 (since items place)
  pub distinct : PlacesDiffer (changed_at f items place)
  pub live : HasPlace (changed_at f items place) (place_after items place)

steps_here : (f : Segment → Segment) (e : Place × Segment) (rest : List (Place × Segment)) → item_at rest e.0 ≡ None → PlacesDiffer rest
    → (onward f ((e.0, f e.1) ∷ rest) (first_place rest) ≡ (e.0, f e.1) ∷ changed_all f rest) × (since_at ((e.0, f e.1) ∷ rest) (first_place rest) ≡ rest)
steps_here f e rest absent distinct =
    let far = away (e.0, f e.1) rest (first_place rest) absent (has_first rest (first_place rest) refl) in (
      onward_later f (e.0, f e.1) rest (first_place rest) far ∙ ap (λ xs. (e.0, f e.1) ∷ xs) (onward_first f rest),
      since_later (e.0, f e.1) rest (first_place rest) far ∙ since_first rest,
    )

has_later : (e : Place × Segment) (rest : List (Place × Segment)) (at : Option Place) → HasPlace rest at → HasPlace (e ∷ rest) at
has_later e rest None has = tt
has_later e rest (Some q) has = live_later e rest q has

by_test : (f : Segment → Segment) (e : Place × Segment) (rest : List (Place × Segment)) (place : Place) (b : Bool) → (e.0.0 == place.0) ≡ b → PlacesDiffer (e ∷ rest) → Steps f rest place → Steps f (e ∷ rest) place
by_test f e rest place true is distinct later =
    let here = steps_here f e rest distinct.0 distinct.1 in
    record {
      onward = rw is here.0;
      since = rw is here.1;
      distinct = rw is (distinct.0, distinct.1);
      live = rw is (has_later (e.0, f e.1) rest (first_place rest) (has_first rest (first_place rest) refl));
    }
by_test f e rest place false is distinct later =
    let far = away e rest (place_after rest place) distinct.0 (has_after rest place (place_after rest place) refl) in
    record {
      onward = rw is (onward_later f e (changed_at f rest place) (place_after rest place) far ∙ ap (λ xs. e ∷ xs) later.onward);
      since = rw is (since_later e (changed_at f rest place) (place_after rest place) far ∙ later.since);
      distinct = rw is (item_at-changed_absent f rest place e.0 distinct.0, later.distinct);
      live = rw is (has_later e (changed_at f rest place) (place_after rest place) later.live);
    }

pub steps : (f : Segment → Segment) (items : List (Place × Segment)) (place : Place) → PlacesDiffer items → Steps f items place
steps f [] place distinct = record { onward = refl; since = refl; distinct = tt; live = tt }
steps f (e ∷ rest) place distinct = by_test f e rest place (e.0.0 == place.0) refl distinct (steps f rest place distinct.1)

pub below_rest : (items : List (Place × Segment)) → AreBelowEight items → AreBelowEight (drop 1 items)
below_rest [] below = tt
below_rest (e ∷ rest) below = below.1

pub held_rest : (items : List (Place × Segment)) → AreHeld items → AreHeld (drop 1 items)
held_rest [] held = tt
held_rest (e ∷ rest) held = held.1

-- the segment at a place is the first of those from it on
pub below_here : (items : List (Place × Segment)) (place : Place) (s : Segment) → item_at items place ≡ Some s → AreBelowEight (since items place) → s.readers < 8
below_here [] place s at below = absurd (cc)
below_here (e ∷ rest) place s at below = grind (arith, nat_tests, at, below, below_here rest place s)

pub held_here : (items : List (Place × Segment)) (place : Place) (s : Segment) → item_at items place ≡ Some s → AreHeld (since items place) → 0 < s.readers
held_here [] place s at held = absurd (cc)
held_here (e ∷ rest) place s at held = grind (arith, nat_tests, at, held, held_here rest place s)

-- from a live place on there is one at least
pub since_some : (items : List (Place × Segment)) (place : Place) → IsLive items place → 0 < length (since items place)
since_some [] place live = absurd (cc)
since_some (e ∷ rest) place live = grind (arith, nat_tests, live, since_some rest place)
