-- A slice contains a hop where one of its hops equals it.
use Rattle.std.proofs.Common.{◌≡◌, ◌∙◌, rules, take}
use Rattle.nk_base.specs.Hold.{is_among}
use Rattle.nk_hold.proofs.Counted.{list_any-is_among}
use Rattle.nk_hold.proofs.hops.Hops.contains.Goals as goal

pub returns : goal.returns
returns c = rw (← c.self.view_is) (c.contains.ensures.value ∙ list_any-is_among c.args.hop (take c.self.inside.count c.self.inside.places))
