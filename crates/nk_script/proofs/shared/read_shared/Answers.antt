use Rattle.std.proofs.Common.{◌<◌, ◌+◌, ◌-◌, ℕ, List, length, Err, sym, subst, ◌∙◌}
use Rattle.nk_script.specs.declared.script.ScriptError.{ScriptError}
use Rattle.nk_script.specs.Texts.{before}
use Rattle.nk_script.specs.Answers.{IsLineAnswer, IsTaken, Blames, IsScriptOrMemory, IsErrorOrMemory}
use Rattle.nk_script.proofs.Playable.{text_playable, so_far_start, so_far_taken, stands_complete, end_complete}
use Rattle.nk_script.proofs.Reading.{IsAt, at_start, at_next, refused_error, refused_only, refused_script, rest_shorter, length_some, text_read}
use Rattle.nk_script.specs.Placed.{IsPlaced}
use Rattle.nk_script.proofs.Placing.{EndsIn, ends_whole, ends_next, line_placed}
use Rattle.nk_script.proofs.shared.read_shared.Goals as goal

pub returns-in-Err-clause-every : goal.returns-in-Err-clause-every
returns-in-Err-clause-every c s h =
    let some = length_some c.loop-rest.rest.now (sym c.loop-rest-test.ensures) in
    let answer = subst (λ (t : List ℕ). IsLineAnswer c.loop-rest.reader t (Err c.in-Err.refusal) c.read_next.new.self) (c.new.ensures ∙ c.first_line.ensures.line) c.in-Err.ensures in
    subst (λ (e : ScriptError). IsScriptOrMemory (Err e) s) (sym c.at_line.ensures)
    (refused_script c.args.input.now c.loop-rest.reader c.read_next.new.self c.loop-rest.number c.loop-rest.rest.now c.in-Err.refusal c.loop-rest.invariant.at some answer s h)

pub returns-in-Err-clause-line : goal.returns-in-Err-clause-line
returns-in-Err-clause-line c =
    let some = length_some c.loop-rest.rest.now (sym c.loop-rest-test.ensures) in
    let answer = subst (λ (t : List ℕ). IsLineAnswer c.loop-rest.reader t (Err c.in-Err.refusal) c.read_next.new.self) (c.new.ensures ∙ c.first_line.ensures.line) c.in-Err.ensures in
    subst (Blames c.args.input.now) (sym c.at_line.ensures)
    (refused_error c.args.input.now c.loop-rest.reader c.read_next.new.self c.loop-rest.number c.loop-rest.rest.now c.in-Err.refusal c.loop-rest.invariant.at some answer)

pub returns-in-Ok-into_script-clause-playable : goal.returns-in-Ok-into_script-clause-playable
returns-in-Ok-into_script-clause-playable c =
    text_playable c.in-Ok-into_script.script c.args.input.now
    (text_read c.args.input.now c.loop-rest.reader c.loop-rest.number c.loop-rest.rest.now c.in-Ok-into_script.script c.loop-rest.invariant.at (sym c.loop-rest-test.ensures) (sym c.if-not-may_end.ensures) c.in-Ok-into_script.ensures)

pub returns-in-Err-clause-only : goal.returns-in-Err-clause-only
returns-in-Err-clause-only c number cause h =
    let some = length_some c.loop-rest.rest.now (sym c.loop-rest-test.ensures) in
    let answer = subst (λ (t : List ℕ). IsLineAnswer c.loop-rest.reader t (Err c.in-Err.refusal) c.read_next.new.self) (c.new.ensures ∙ c.first_line.ensures.line) c.in-Err.ensures in
    subst (λ (e : ScriptError). IsErrorOrMemory (Err e) number cause) (sym c.at_line.ensures)
    (refused_only c.args.input.now c.loop-rest.reader c.read_next.new.self c.loop-rest.number c.loop-rest.rest.now c.in-Err.refusal c.loop-rest.invariant.at some answer number cause h)

pub loop-rest-smaller : goal.loop-rest-smaller
loop-rest-smaller c =
    subst (λ (rest : List ℕ). length rest < length c.loop-rest.rest.now) (sym c.first_line.ensures.rest)
    (rest_shorter c.loop-rest.rest.now (length_some c.loop-rest.rest.now (sym c.loop-rest-test.ensures)))

pub loop-rest-preserved : goal.loop-rest-preserved
loop-rest-preserved c =
    let some = length_some c.loop-rest.rest.now (sym c.loop-rest-test.ensures) in
    let taken = subst (λ (t : List ℕ). IsTaken c.loop-rest.reader t c.read_next.new.self) (c.new.ensures ∙ c.first_line.ensures.line) c.in-Ok.ensures in
    record {
      at = subst (λ (rest : List ℕ). IsAt c.args.input.now c.read_next.new.self (c.loop-rest.number + 1) rest) (sym c.first_line.ensures.rest)
          (at_next c.args.input.now c.loop-rest.reader c.read_next.new.self c.loop-rest.number c.loop-rest.rest.now c.loop-rest.invariant.at some taken);
      so_far = so_far_taken c.loop-rest.reader c.read_next.new.self (before 10 c.loop-rest.rest.now) c.loop-rest.invariant.so_far taken;
      ends = subst (EndsIn c.args.input.now) (sym c.first_line.ensures.rest) (ends_next c.args.input.now c.loop-rest.rest.now c.loop-rest.invariant.ends);
      block = c.in_ok-block-2.ensures;
    }

-- the line stands in the block where the rest begins
pub new-requires : goal.new-requires
new-requires c =
    let rest = c.loop-rest.rest.now in
    let placed = line_placed c.args.input.now rest c.loop-rest.invariant.ends c.requires in
    subst (λ (b : List ℕ). IsPlaced b (c.len.result - length rest) c.first_line.result.0.now) (sym c.in_ok-block-2.ensures)
    (subst (λ (n : ℕ). IsPlaced c.args.input.now (n - length rest) c.first_line.result.0.now) (sym c.len.ensures.value)
    (subst (λ (t : List ℕ). IsPlaced c.args.input.now (length c.args.input.now - length rest) t) (sym c.first_line.ensures.line) placed))

pub loop-rest-init : goal.loop-rest-init
loop-rest-init c =
    rw c.new-reader.ensures (rw c.as_slice-rest.ensures (record {
      at = at_start c.args.input.now;
      so_far = so_far_start;
      ends = ends_whole c.args.input.now;
      block = c.in_ok-block.ensures;
    }))

pub read_next-requires-clause-complete : goal.read_next-requires-clause-complete
read_next-requires-clause-complete c = λ line stands. stands_complete c.loop-rest.reader _ c.loop-rest.invariant.so_far line stands

pub into_script-requires : goal.into_script-requires
into_script-requires c = end_complete c.loop-rest.reader c.loop-rest.invariant.so_far (sym c.if-not-may_end.ensures)
