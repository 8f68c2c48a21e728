-- A listener that was shown an entry is one that a new one comes to.
use Rattle.std.proofs.Common.{◌≡◌, false, length, sym, ap, ◌∙◌, arith}
use Rattle.std.specs.Result.{is_err}
use Rattle.nk_sink.specs.Reached.{ListenerView}
use Rattle.nk_sink.proofs.Showing.{on_ok, piped_is, enters}
use Rattle.nk_sink.proofs.listener.Listener.entry.Goals as goal

pub show-shown-requires-clause-piped : goal.show-shown-requires-clause-piped
show-shown-requires-clause-piped c =
    piped_is c.self.inside.kind c.self.inside.entries c.self.inside.feed (c.self.invariant c.if-self.false).reached

pub invariant_of-self : goal.invariant_of-self
invariant_of-self c = λ works.
    let no : is_err c.show-shown.result ≡ false = sym c.is_err-self-inside.ensures.value ∙ works in
    enters c.self.inside.kind c.self.inside.entries c.show-shown.new.entries c.args.e c.self.inside.feed c.show-shown.new.feed (c.self.invariant c.if-self.false)
    (on_ok c.show-shown.result _ no c.show-shown.ensures.entries) (on_ok c.show-shown.result _ no c.show-shown.ensures.shown) (on_ok c.show-shown.result _ no c.show-shown.ensures.fed) (on_ok c.show-shown.result _ no c.show-shown.ensures.grown)
    (omega (arith, ap (λ (v : ListenerView). length v.listener.entries) c.self.view_is, c.requires))
