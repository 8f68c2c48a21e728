-- Lemmas on the places of segments: what the first of them says, and what the others do.
use Rattle.std.proofs.Common.{◌≡◌, ◌≢◌, List, [], ◌∷◌, Some, None, arith}
use Rattle.std.proofs.lemmas.Bool.Decides.{nat_tests}
use Rattle.nk_segments.specs.Places.{Place, first_place, item_at, place_after, IsLive}
use Rattle.nk_segments.specs.Segments.{Segment}

pub item_at-own : (e : Place × Segment) (rest : List (Place × Segment)) → item_at (e ∷ rest) e.0 ≡ Some e.1
item_at-own e rest = grind (arith, nat_tests)

pub item_at-other : (e : Place × Segment) (rest : List (Place × Segment)) (place : Place) → e.0.0 ≢ place.0 → item_at (e ∷ rest) place ≡ item_at rest place
item_at-other e rest place differs = grind (arith, nat_tests)

pub place_after-own : (e : Place × Segment) (rest : List (Place × Segment)) → place_after (e ∷ rest) e.0 ≡ first_place rest
place_after-own e rest = grind (arith, nat_tests)

pub place_after-other : (e : Place × Segment) (rest : List (Place × Segment)) (place : Place) → e.0.0 ≢ place.0 → place_after (e ∷ rest) place ≡ place_after rest place
place_after-other e rest place differs = grind (arith, nat_tests)

pub live_later : (e : Place × Segment) (rest : List (Place × Segment)) (place : Place) → IsLive rest place → IsLive (e ∷ rest) place
live_later e rest place live = grind (arith, nat_tests)

-- a live place and one with no item differ
pub live_differs : (items : List (Place × Segment)) (live absent : Place) → IsLive items live → item_at items absent ≡ None → live.0 ≢ absent.0
live_differs [] live absent is none = absurd (cc)
live_differs (e ∷ rest) live absent is none = grind (arith, nat_tests, is, none, live_differs rest live absent)
