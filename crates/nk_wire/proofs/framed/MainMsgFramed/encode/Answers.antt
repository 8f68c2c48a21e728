-- The frame of the message is read as it.
use Rattle.std.proofs.lemmas.Result.{IfOk-weaker}
use Rattle.nk_wire.proofs.OneFrames.{main-read}
use Rattle.nk_wire.proofs.framed.MainMsgFramed.encode.Goals as goal

pub returns : goal.returns
returns c = IfOk-weaker c.encode_main.result _ _ (λ f spelled. main-read c.args.self.now f spelled) c.encode_main.ensures
