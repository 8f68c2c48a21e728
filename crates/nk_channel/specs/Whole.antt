-- What the type of a channel keeps, and its value. No public clause cites this module.
use Rattle.std.specs.Prelude.{◌≡◌, []}
use Rattle.nk_channel.specs.declared.channel.Channel.TheInside.{Inside}
use Rattle.nk_channel.specs.Parts.{Parts}

-- the parts that the fields are
abbrev pub parts_in : Inside → Parts
parts_in s = record {
  plan = s.parent.plan;
  parent = s.parent.state;
  forwarded = s.half;
  child = s.child.state;
  main = s.main.held;
  inner = s.inner.held;
  back = s.back.held;
  up = s.up.held;
}

-- both halves have one plan, and nothing is only ready to be sent
pub record IsWhole (s : Inside) : Type 0 where
  pub plans : s.child.plan ≡ s.parent.plan
  pub main : s.main.staged ≡ []
  pub inner : s.inner.staged ≡ []
  pub back : s.back.staged ≡ []
  pub up : s.up.staged ≡ []
