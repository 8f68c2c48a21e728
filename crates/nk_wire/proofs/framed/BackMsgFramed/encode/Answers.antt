-- The frame of the message is read as it.
use Rattle.std.proofs.lemmas.Result.{IfOk-weaker}
use Rattle.nk_wire.proofs.OneFrames.{back-read}
use Rattle.nk_wire.proofs.framed.BackMsgFramed.encode.Goals as goal

pub returns : goal.returns
returns c = IfOk-weaker c.encode_back.result _ _ (λ f spelled. back-read c.args.self.now f spelled) c.encode_back.ensures
