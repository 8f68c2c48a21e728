-- The laws, put together.
use Rattle.nk_laws.specs.Laws.{MovesLaw}
use Rattle.nk_half_laws.specs.Growth.{GrowthLaw}
use Rattle.nk_half_laws.specs.Falls.{ChildIdleLaw, FetchIdleLaw}
use Rattle.nk_plan.specs.Channel.{channel_after}
use Rattle.nk_channel.specs.Laws.{StepLaw, EnabledLaw, IdleLaw, GrowsLaw, RoomyLaw, ShownLaw}
use Rattle.nk_channel.proofs.Enabled.{enabled_is, idle_step, shown_completes}
use Rattle.nk_channel.proofs.Little.{SendLaws, roomy, shown_few}
use Rattle.nk_channel.proofs.Steps.{step_parts}

pub step_law : MovesLaw → StepLaw
step_law law c steps x = step_parts c (channel_after c steps) (law c steps) x

pub enabled_law : EnabledLaw
enabled_law c x w = enabled_is c x w

pub idle_law : ChildIdleLaw → FetchIdleLaw → IdleLaw
idle_law law fetch x p e = idle_step law fetch x p e

pub grows_law : GrowthLaw → GrowsLaw
grows_law law x p = shown_completes law x p

pub roomy_law : SendLaws → RoomyLaw
roomy_law law c steps a = roomy c steps a law

pub shown_law : SendLaws → ShownLaw
shown_law law c steps a = shown_few c steps a law
