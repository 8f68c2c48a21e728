-- What the laws say, from the lemmas on the lanes.
use Rattle.std.proofs.Common.{◌≡◌, ℕ, List, [], ◌++◌, length, drop, refl, sym, ap, subst, ◌∙◌, append_assoc}
use Rattle.std.proofs.lemmas.List.{drop_at}
use Rattle.nk_wire.specs.declared.message.AnyMsg.{AnyMsg}
use Rattle.nk_wire.specs.declared.message.AnyMsg.TheVariants as any
use Rattle.nk_wire.specs.Layouts.{little, U32}
use Rattle.nk_wire.specs.Spelling.{IsAnyInRange, AnyFits, SpellsAny, any_rest, frame}
use Rattle.nk_wire.specs.Streams.{IsRest}
use Rattle.nk_wire.proofs.Sizes.{any-sized}
use Rattle.nk_wire.proofs.AnyWire.{none_begins}

pub any-spelled : (m : AnyMsg) → IsAnyInRange m → AnyFits m → SpellsAny m (any_rest m)
any-spelled (any.Main m) r f = record { in_range = r; fits = f; spelled = refl }
any-spelled (any.Back m) r f = record { in_range = r; fits = f; spelled = refl }
any-spelled (any.Up m) r f = record { in_range = r; fits = f; spelled = refl }

pub any-one : (m : AnyMsg) (rest : List ℕ) → SpellsAny m rest → rest ≡ any_rest m
any-one (any.Main m) rest s = s.spelled
any-one (any.Back m) rest s = s.spelled
any-one (any.Up m) rest s = s.spelled

any-in_range : (m : AnyMsg) (rest : List ℕ) → SpellsAny m rest → IsAnyInRange m
any-in_range (any.Main m) rest s = s.in_range
any-in_range (any.Back m) rest s = s.in_range
any-in_range (any.Up m) rest s = s.in_range

pub any-long : (m : AnyMsg) (rest : List ℕ) → SpellsAny m rest → IsRest rest
any-long m rest s = subst IsRest (sym (any-one m rest s)) (any-sized m (any-in_range m rest s))

-- behind its length a frame is its rest
behind-length : (n : ℕ) (rest : List ℕ) → drop 4 (little U32 n ++ rest) ≡ rest
behind-length n rest = drop_at (little U32 n) rest 4 refl

pub no_frame_begins : (m n : AnyMsg) (a b more : List ℕ) → SpellsAny m a → SpellsAny n b → frame a ++ more ≡ frame b → (more ≡ []) × (m ≡ n)
no_frame_begins m n a b more s t h =
    let rests : a ++ more ≡ b = sym (behind-length (length a) (a ++ more)) ∙ ap (drop 4) (sym (append_assoc (little U32 (length a)) a more) ∙ h) ∙ behind-length (length b) b in
    none_begins m n a b more s t rests
