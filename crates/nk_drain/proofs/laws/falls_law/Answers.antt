use Rattle.nk_drain.specs.Laws.{FallsLaw}
use Rattle.nk_drain.proofs.Falls.{falls}
use Rattle.nk_drain.proofs.Rounds.{StepLaws, left, round}
use Rattle.nk_drain.proofs.laws.falls_law.Goals as goal

pub returns : goal.returns
returns c =
    let step : FallsLaw = falls (record {
      joined = c.moves_law.ensures.joined;
      moves = c.moves_law.ensures.moves;
      keeps = c.child_falls_law.ensures.keeps;
      fetched = c.parent_falls_law.ensures.fetch;
      heard = c.parent_falls_law.ensures.up;
      child = c.combined_falls_law.ensures.child;
      fetch = c.combined_falls_law.ensures.fetch;
      up = c.combined_falls_law.ensures.up;
    }) in
    let known : StepLaws = record {
      falls = step;
      idle = c.idle_law.ensures;
      number = c.combined_falls_law.ensures.number;
      queue = c.combined_falls_law.ensures.queue;
    } in
    record { step = step; left = left known; round = round known }
