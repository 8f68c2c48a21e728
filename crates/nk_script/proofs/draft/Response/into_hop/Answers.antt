use Rattle.std.proofs.Common.{◌≡◌, Result, Ok, Err, ◌∙◌}
use Rattle.nk_base.specs.declared.field.HeadError.{HeadError}
use Rattle.nk_base.specs.Heads.{HeadParts}
use Rattle.nk_script.proofs.Heads.{head_made}
use Rattle.nk_script.proofs.draft.Response.into_hop.Goals as goal

ok_is : (x : HeadParts) (e : HeadError) (r : Result HeadParts HeadError) → r ≡ Ok x → r ≡ Err e → ⊥
ok_is x e r a b = cc

pub unreachable-requires : goal.unreachable-requires
unreachable-requires c =
    ok_is _ c.in-Err.field-0 c.new.result (c.new.ensures ∙ head_made c.self.inside.code c.self.inside.fields c.self.invariant.head) c.in-Err.is
