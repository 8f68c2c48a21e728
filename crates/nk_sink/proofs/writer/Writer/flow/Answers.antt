-- Each entry passes, and what then flows is the same.
use Rattle.std.proofs.Common.{◌≡◌, ℕ, suc, ◌+◌, Bool, sym, subst, ◌∙◌, arith}
use Rattle.nk_sink.specs.Fed.{Passes, IsAt}
use Rattle.nk_sink.proofs.Passing.{passes_on, passes_out, at_end, read_get}
use Rattle.nk_sink.proofs.writer.Writer.flow.Goals as goal

pub returns-then-not-branch-clause-at : goal.returns-then-not-branch-clause-at
returns-then-not-branch-clause-at c =
    let get = read_get c.args.entries.now c.loop-self.self.place c.index-entries-self.result c.loop-self-test.true c.index-entries-self.is in
    let passes = subst (λ (b : Bool). Passes c.index-entries-self.result c.loop-self.self.pipe c.loop-self.self.offset c.pass.new.self.pipe c.pass.new.self.offset b) c.if-not-branch.true c.in_ok-pass.ensures.passes in
    subst (λ (n : ℕ). IsAt c.args.entries.now c.pass.new.self.pipe n c.pass.new.self.offset) (sym c.in_ok-pass.ensures.place)
    (passes_out c.args.entries.now c.loop-self.self.pipe c.pass.new.self.pipe c.loop-self.self.place c.loop-self.self.offset c.pass.new.self.offset c.index-entries-self.result get c.loop-self.invariant.at passes).0

pub returns-then-not-branch-clause-flowed : goal.returns-then-not-branch-clause-flowed
returns-then-not-branch-clause-flowed c = λ pumps.
    let get = read_get c.args.entries.now c.loop-self.self.place c.index-entries-self.result c.loop-self-test.true c.index-entries-self.is in
    let passes = subst (λ (b : Bool). Passes c.index-entries-self.result c.loop-self.self.pipe c.loop-self.self.offset c.pass.new.self.pipe c.pass.new.self.offset b) c.if-not-branch.true c.in_ok-pass.ensures.passes in
    (passes_out c.args.entries.now c.loop-self.self.pipe c.pass.new.self.pipe c.loop-self.self.place c.loop-self.self.offset c.pass.new.self.offset c.index-entries-self.result get c.loop-self.invariant.at passes).1 pumps
    ∙ c.loop-self.invariant.flowed pumps

pub loop-self-preserved : goal.loop-self-preserved
loop-self-preserved c =
    let get = read_get c.args.entries.now c.loop-self.self.place c.index-entries-self.result c.loop-self-test.true c.index-entries-self.is in
    let passes = subst (λ (b : Bool). Passes c.index-entries-self.result c.loop-self.self.pipe c.loop-self.self.offset c.pass.new.self.pipe c.pass.new.self.offset b) c.if-not-branch.false c.in_ok-pass.ensures.passes in
    let next : c.pass.new.self.place + 1 ≡ suc c.loop-self.self.place = omega (arith, c.in_ok-pass.ensures.place) in
    let on = passes_on c.args.entries.now c.loop-self.self.pipe c.pass.new.self.pipe c.loop-self.self.place (c.pass.new.self.place + 1) c.loop-self.self.offset c.pass.new.self.offset c.index-entries-self.result next get c.loop-self.invariant.at passes in
    record { at = on.0; flowed = λ pumps. on.1 pumps ∙ c.loop-self.invariant.flowed pumps }

pub returns-clause-flowed : goal.returns-clause-flowed
returns-clause-flowed c = λ pumps.
    at_end c.args.entries.now c.loop-self.self.pipe c.loop-self.self.place c.loop-self.self.offset c.loop-self-test.false c.loop-self.invariant.at pumps ∙ c.loop-self.invariant.flowed pumps
