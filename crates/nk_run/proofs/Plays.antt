use Rattle.std.proofs.Common.{List, [], ◌∷◌, map, All, ◌∙◌, refl, ap, subst}
use Rattle.nk_script.specs.declared.script.Script.{Script}
use Rattle.nk_script.specs.declared.script.ScheduleItem.{ScheduleItem}
use Rattle.nk_script_law.specs.Laws.{ScriptLaw}
use Rattle.nk_world.specs.End.{end_of}
use Rattle.nk_world.specs.Laws.{NewLaw, StepLaw, EndsLaw, OneLaw}
use Rattle.nk_world.specs.Play.{Play, IsReached}
use Rattle.nk_run.specs.Ends.{scheduled, plays_of, AreEndsOf}
use Rattle.nk_run.specs.Laws.{PlayLaw}

-- the schedule leads to channels that steps lead to
scheduled_reached : StepLaw → (items : List ScheduleItem) (ps : List Play) → All IsReached ps → All IsReached (scheduled items ps)
scheduled_reached step [] ps h = h
scheduled_reached step (item ∷ items) ps h = scheduled_reached step items _ (step item.channel item.step ps h)

pub one_play : ScriptLaw → NewLaw → StepLaw → EndsLaw → OneLaw → PlayLaw
one_play scripts new step ends one text script is playable =
    let reached : All IsReached (plays_of script) = scheduled_reached step script.schedule _ (new script.plans playable.plans) in
    let drained = ends (plays_of script) reached in (
      map end_of drained.0,
      record { drained = drained.0; drain = drained.1; left = refl },
      λ same others is_text led.
          let led_here : AreEndsOf script others = subst (λ (s : Script). AreEndsOf s others) (scripts text same script is_text is) led in
          led_here.left ∙ ap (map end_of) (one (plays_of script) led_here.drained drained.0 reached led_here.drain drained.1),
    )
