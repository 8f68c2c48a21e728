-- The frame of the message is read as it.
use Rattle.std.proofs.lemmas.Result.{IfOk-weaker}
use Rattle.nk_wire.proofs.OneFrames.{up-read}
use Rattle.nk_wire.proofs.framed.UpMsgFramed.encode.Goals as goal

pub returns : goal.returns
returns c = IfOk-weaker c.encode_up.result _ _ (λ f spelled. up-read c.args.self.now f spelled) c.encode_up.ensures
