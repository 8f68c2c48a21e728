-- A listener of which one pump had its turn is one that a new one comes to.
use Rattle.std.proofs.Common.{◌≡◌, false, List, sym, ap, subst, ◌∙◌}
use Rattle.std.specs.Result.{is_err}
use Rattle.nk_base.specs.declared.message.Entry.{Entry}
use Rattle.nk_sink.specs.Reached.{ListenerView}
use Rattle.nk_sink.specs.Sunk.{piped_in, listener_of, IsPipedIn, IsListening}
use Rattle.nk_sink.proofs.Showing.{on_ok, piped_is, turns, turn_stays}
use Rattle.nk_sink.proofs.listener.Listener.read.Goals as goal

pub read-moved-requires-clause-piped : goal.read-moved-requires-clause-piped
read-moved-requires-clause-piped c =
    subst (λ (es : List Entry). IsPipedIn es (piped_in es c.self.inside.feed)) (sym c.as_slice.ensures) (piped_is c.self.inside.kind c.self.inside.entries c.self.inside.feed (c.self.invariant c.if-self.false).reached)

pub invariant_of-self : goal.invariant_of-self
invariant_of-self c = λ works.
    let no : is_err c.read-moved.result ≡ false = sym c.is_err-self-inside.ensures.value ∙ works in
    let same = c.as_slice.ensures in
    let before = subst (λ (es : List Entry). IsListening c.self.inside.kind es c.self.inside.feed) (sym same) (c.self.invariant c.if-self.false) in
    subst (λ (es : List Entry). IsListening c.self.inside.kind es c.read-moved.new.feed) same
    (turns c.self.inside.kind c.as_slice.result.now c.args.reader c.self.inside.feed c.read-moved.new.feed before (on_ok c.read-moved.result _ no c.read-moved.ensures.read) (on_ok c.read-moved.result _ no c.read-moved.ensures.fed))

pub returns-clause-idle : goal.returns-clause-idle
returns-clause-idle c =
    let works = ap (λ b. let v : ListenerView = record { listener = listener_of c.self.inside.kind c.self.inside.entries c.self.inside.feed; failed = b } in v) (sym c.if-self.false) in
    turn_stays c.read-moved.result c.self.inside.kind c.self.inside.entries c.as_slice.result.now c.args.reader c.self.inside.feed c.read-moved.new.feed c.is_err-self-inside.result c.args.self.now
    c.as_slice.ensures (c.self.invariant c.if-self.false) (works ∙ c.self.view_is) c.is_err-self-inside.ensures.value c.read-moved.ensures.read c.read-moved.ensures.answer
