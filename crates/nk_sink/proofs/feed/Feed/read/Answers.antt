-- The turn and what flows behind it are those of the model.
use Rattle.std.proofs.Common.{◌≡◌, ◌-◌, length, ◌∙◌, sym, ap, arith}
use Rattle.std.specs.Prelude.{slice_set}
use Rattle.std.specs.Vec.{with_items}
use Rattle.std.proofs.lemmas.List.{with_items_is}
use Rattle.nk_sink.specs.Listener.{Piped, turn_enabled}
use Rattle.nk_plan.specs.Readers.{body_of}
use Rattle.nk_base.specs.Status.{moved_if}
use Rattle.nk_sink.specs.Fed.{pipe_in, piped_with}
use Rattle.nk_sink.proofs.Moving.{pump_is, get_is, pump_fits, turned_at, read_result, flow_segment}
use Rattle.nk_sink.proofs.feed.Feed.read.Goals as goal

pub turn-requires-clause-size : goal.turn-requires-clause-size
turn-requires-clause-size c =
    let get = get_is c.args.self.now.pumps.items (c.args.reader - 1) c.index_mut.result.now (omega (arith, c.if-number-eq0.false, c.if-len-number.false, c.len.ensures)) c.index_mut.ensures.value in
    let fits = pump_fits c.args.entries.now c.args.self.now.writer.pipe c.args.self.now.pumps.items (c.args.reader - 1) c.index_mut.result.now c.requires.piped get in
    fits.size ∙ sym c.requires.fed.buffer ∙ sym (ap (λ xs. length xs) c.deref_mut.ensures.value)

pub turn-requires-clause-free : goal.turn-requires-clause-free
turn-requires-clause-free c =
    let get = get_is c.args.self.now.pumps.items (c.args.reader - 1) c.index_mut.result.now (omega (arith, c.if-number-eq0.false, c.if-len-number.false, c.len.ensures)) c.index_mut.ensures.value in
    (pump_fits c.args.entries.now c.args.self.now.writer.pipe c.args.self.now.pumps.items (c.args.reader - 1) c.index_mut.result.now c.requires.piped get).free

pub flow-requires-clause-at : goal.flow-requires-clause-at
flow-requires-clause-at c =
    let get = get_is c.args.self.now.pumps.items (c.args.reader - 1) c.index_mut.result.now (omega (arith, c.if-number-eq0.false, c.if-len-number.false, c.len.ensures)) c.index_mut.ensures.value in
    let fits = pump_fits c.args.entries.now c.args.self.now.writer.pipe c.args.self.now.pumps.items (c.args.reader - 1) c.index_mut.result.now c.requires.piped get in
    (turned_at c.args.entries.now c.args.self.now.writer.pipe c.turn.new.pipe c.args.self.now.writer.place c.args.self.now.writer.offset c.args.reader c.index_mut.result.now c.requires.fed.at fits.free c.in_ok-moved.ensures.count c.in_ok-moved.ensures.pipe).at

pub returns-clause-fed : goal.returns-clause-fed
returns-clause-fed c =
    let get = get_is c.args.self.now.pumps.items (c.args.reader - 1) c.index_mut.result.now (omega (arith, c.if-number-eq0.false, c.if-len-number.false, c.len.ensures)) c.index_mut.ensures.value in
    let fits = pump_fits c.args.entries.now c.args.self.now.writer.pipe c.args.self.now.pumps.items (c.args.reader - 1) c.index_mut.result.now c.requires.piped get in
    let turned = turned_at c.args.entries.now c.args.self.now.writer.pipe c.turn.new.pipe c.args.self.now.writer.place c.args.self.now.writer.offset c.args.reader c.index_mut.result.now c.requires.fed.at fits.free c.in_ok-moved.ensures.count c.in_ok-moved.ensures.pipe in
    let segment : c.flow.new.self.pipe.segment ≡ c.args.self.now.writer.pipe.segment = ap (λ (w : Piped). w.pipe.segment) (c.in_ok-flow.ensures.flowed c.args.self.now.pumps.items) ∙ flow_segment (piped_with c.args.entries.now c.turn.new.pipe c.args.self.now.pumps.items) ∙ turned.segment in
    let long : length c.turn.new.buffer ≡ length c.args.self.now.buffer.items = c.turn.auto.buffer ∙ ap (λ xs. length xs) c.deref_mut.ensures.value in
    let same : length (with_items c.args.self.now.buffer c.turn.new.buffer).items ≡ length c.args.self.now.buffer.items = ap (λ xs. length xs) (with_items_is c.args.self.now.buffer c.turn.new.buffer (omega (arith, long, c.args.self.now.buffer.ok.0))) ∙ long in
    record {
      at = c.in_ok-flow.ensures.at;
      buffer = same ∙ c.requires.fed.buffer ∙ sym segment;
      short = omega (arith, same, c.requires.fed.short);
    }

pub returns-clause-read : goal.returns-clause-read
returns-clause-read c =
    let get = get_is c.args.self.now.pumps.items (c.args.reader - 1) c.index_mut.result.now (omega (arith, c.if-number-eq0.false, c.if-len-number.false, c.len.ensures)) c.index_mut.ensures.value in
    let fits = pump_fits c.args.entries.now c.args.self.now.writer.pipe c.args.self.now.pumps.items (c.args.reader - 1) c.index_mut.result.now c.requires.piped get in
    let turned = turned_at c.args.entries.now c.args.self.now.writer.pipe c.turn.new.pipe c.args.self.now.writer.place c.args.self.now.writer.offset c.args.reader c.index_mut.result.now c.requires.fed.at fits.free c.in_ok-moved.ensures.count c.in_ok-moved.ensures.pipe in
    let pump = pump_is c.args.self.now.pumps.items c.args.reader c.index_mut.result.now c.if-number-eq0.false get in
    read_result c.args.entries.now c.args.self.now.writer.pipe c.turn.new.pipe c.flow.new.self.pipe c.args.self.now.pumps.items c.args.self.now.writer.place c.args.self.now.writer.offset c.args.reader c.index_mut.result.now c.turn.new.pump pump c.in_ok-moved.ensures.count turned
    (c.in_ok-moved.ensures.pump (pipe_in (body_of c.args.entries.now) c.args.self.now.writer.pipe) c.requires.fed.at.stands) (c.in_ok-flow.ensures.flowed (slice_set c.args.self.now.pumps.items (c.args.reader - 1) c.turn.new.pump))

pub returns-clause-answer : goal.returns-clause-answer
returns-clause-answer c =
    let get = get_is c.args.self.now.pumps.items (c.args.reader - 1) c.index_mut.result.now (omega (arith, c.if-number-eq0.false, c.if-len-number.false, c.len.ensures)) c.index_mut.ensures.value in
    let pump = pump_is c.args.self.now.pumps.items c.args.reader c.index_mut.result.now c.if-number-eq0.false get in
    c.in_ok-moved.ensures.answer (pipe_in (body_of c.args.entries.now) c.args.self.now.writer.pipe) c.requires.fed.at.stands
    ∙ sym (ap (λ o. moved_if (turn_enabled o c.args.reader (pipe_in (body_of c.args.entries.now) c.args.self.now.writer.pipe))) pump)
