-- Whole streams: frames are read as their messages, and what is read are frames.
use Rattle.std.proofs.Common.{ℕ, List, [], ◌∷◌, length, ap, subst, ◌∙◌}
use Rattle.nk_wire.specs.declared.message.AnyMsg.{AnyMsg}
use Rattle.nk_wire.specs.Layouts.{little, U32}
use Rattle.nk_wire.specs.Spelling.{frame}
use Rattle.nk_wire.specs.Streams.{First, Whole, IsFirst, first, AreFrames, AreRead}
use Rattle.nk_wire.proofs.Numbers.{AreBytes, AreBytes-front, AreBytes-behind}
use Rattle.nk_wire.proofs.AnyWire.{any-found, any-only}
use Rattle.nk_wire.proofs.Facts.{any-long}
use Rattle.nk_wire.proofs.FirstLaws.{first-is, frame-first}

pub are-read : (ms : List AnyMsg) (bytes left : List ℕ) → AreFrames ms bytes left → AreRead ms bytes left
are-read [] bytes left f = f
are-read (m ∷ ms) bytes left f =
    (f.0, f.1, ap first f.3 ∙ frame-first f.0 f.1 (any-long m f.0 f.2), any-only m f.0 f.2, are-read ms f.1 left f.4)

pub are-frames : (ms : List AnyMsg) (bytes left : List ℕ) → AreBytes bytes → AreRead ms bytes left → AreFrames ms bytes left
are-frames [] bytes left are r = r
are-frames (m ∷ ms) bytes left are r =
    let whole : IsFirst bytes (Whole r.0 r.1) = subst (λ (f : First). IsFirst bytes f) r.2 (first-is bytes are) in
    let parts = subst AreBytes whole.0 are in
    let in_frame = AreBytes-front (frame r.0) r.1 parts in
    let spelled = any-found r.0 m (AreBytes-behind (little U32 (length r.0)) r.0 in_frame) r.3 in
    (r.0, r.1, spelled, whole.0, are-frames ms r.1 left (AreBytes-behind (frame r.0) r.1 parts) r.4)
