-- The laws of the drain, put together.
use Rattle.std.proofs.Common.{ℕ, ◌≡◌, ◌-◌, refl, List, [], ◌∷◌, map, slice_get, Option, Some, None}
use Rattle.std.specs.List.{All, AllZip}
use Rattle.std.proofs.lemmas.List.Elements.{All-nil, All-cons, All-head, All-tail, All-set}
use Rattle.std.proofs.lemmas.Option.{slice_get_within, get_or_from_slice_get}
use Rattle.nk_plan.specs.declared.step.Step.{Step}
use Rattle.nk_plan.specs.Accepted.{Accepted}
use Rattle.nk_world.specs.Play.{Play, new_play, play_step, rounds, IsReached, IsDrained}
use Rattle.nk_world.specs.World.{step_in, AreDrained}
use Rattle.nk_world.specs.Laws.{PlayLaws, NewLaw, StepLaw}
use Rattle.nk_world.proofs.Plays.{reached_new, reached_step}
use Rattle.nk_world.proofs.Falls.{FallLaws}
use Rattle.nk_world.proofs.Left.{enough, enough_is}
use Rattle.nk_world.proofs.Worlds.{drained_apart}

pub new_law : NewLaw
new_law [] a = All-nil IsReached
new_law (c ∷ cs) a = All-cons IsReached (new_play c) (map new_play cs) (reached_new c (All-head Accepted c cs a)) (new_law cs (All-tail Accepted c cs a))

reached_in : (i : ℕ) (x : Step) (ps : List Play) (o : Option Play) → slice_get ps i ≡ o → All IsReached ps → PlayLaws → All IsReached (step_in i x ps o)
reached_in i x ps None e a law = a
reached_in i x ps (Some p) e a law =
    let r : IsReached p = rw (← (get_or_from_slice_get ps i p p e)) (a i p (slice_get_within ps i p e)) in
    All-set IsReached ps i (play_step x p) (reached_step x p r law) a

pub step_law : PlayLaws → StepLaw
step_law law channel x ps a = reached_in (channel - 1) x ps (slice_get ps (channel - 1)) refl a law

-- the channels after enough rounds of each
enough_of : List Play → List Play
enough_of [] = []
enough_of (p ∷ ps) = rounds (enough p) p ∷ enough_of ps

drained_each : (ps : List Play) → All IsReached ps → PlayLaws → FallLaws → AllZip IsDrained ps (enough_of ps)
unfolding enough_of
drained_each [] a idle law = tt
drained_each (p ∷ ps) a idle law =
    let r : IsReached p = All-head IsReached p ps a in
    ((enough p, refl, enough_is p r idle law), drained_each ps (All-tail IsReached p ps a) idle law)

pub ends_law : (ps : List Play) → All IsReached ps → PlayLaws → FallLaws → (qs : List Play) × AreDrained ps qs
ends_law ps a idle law = (enough_of ps, drained_apart ps (enough_of ps) a idle (drained_each ps a idle law))
