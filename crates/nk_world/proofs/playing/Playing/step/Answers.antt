-- The channel, or its listener, has made its step.
use Rattle.nk_world.proofs.Moves.{has_room, stepped, turned}
use Rattle.nk_world.proofs.playing.Playing.step.Goals as goal

pub advance-requires : goal.advance-requires
advance-requires c = has_room c.args.step c.args.self.now c.requires c.play_law.ensures

pub returns-in-Read-clause-sound : goal.returns-in-Read-clause-sound
returns-in-Read-clause-sound c =
    (turned c.read.result c.in-Read.reader c.args.self.now c.read.new.self c.requires c.play_law.ensures c.read.ensures.ok c.read.ensures.answer).sound

pub returns-in-Read-clause-state : goal.returns-in-Read-clause-state
returns-in-Read-clause-state c =
    rw c.in-Read.is (turned c.read.result c.in-Read.reader c.args.self.now c.read.new.self c.requires c.play_law.ensures c.read.ensures.ok c.read.ensures.answer).state

pub returns-in-Read-clause-answer : goal.returns-in-Read-clause-answer
returns-in-Read-clause-answer c =
    rw c.in-Read.is (turned c.read.result c.in-Read.reader c.args.self.now c.read.new.self c.requires c.play_law.ensures c.read.ensures.ok c.read.ensures.answer).answer

pub returns-in_default : goal.returns-in_default
returns-in_default c =
    let k = stepped c.advance.result c.args.step c.args.self.now c.advance.new.self c.in_default.not-Read c.requires c.play_law.ensures c.advance.ensures.state c.advance.ensures.answer in
    record { sound = k.sound; state = k.state; answer = k.answer }
