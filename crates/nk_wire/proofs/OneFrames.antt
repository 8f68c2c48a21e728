-- One frame on one lane: what is spelled is read, and real bytes that are read are spelled.
use Rattle.std.proofs.Common.{◌≡◌, ◌≤◌, ℕ, true, List, [], ◌∷◌, ◌++◌, length, take, drop, Option, Some, None, is_some, Result, Ok, Err, refl, sym, ap, subst, ◌∙◌}
use Rattle.std.proofs.lemmas.List.{append-nil, take-append-drop, length-take-le}
use Rattle.nk_base.specs.declared.message.MainMsg.{MainMsg}
use Rattle.nk_base.specs.declared.message.BackMsg.{BackMsg}
use Rattle.nk_base.specs.declared.message.UpMsg.{UpMsg}
use Rattle.nk_wire.specs.declared.error.DecodeError.{DecodeError}
use Rattle.nk_wire.specs.declared.error.DecodeError.TheVariants as error
use Rattle.nk_wire.specs.declared.message.AnyMsg.TheVariants as any
use Rattle.nk_wire.specs.Layouts.{little, U32}
use Rattle.nk_wire.specs.Spelling.{SpellsMain, SpellsBack, SpellsUp, IsFrameOf, frame}
use Rattle.nk_wire.specs.Reading.{Fails, main_answer, back_answer, up_answer}
use Rattle.nk_wire.specs.Streams.{First, Part, BadLength, Whole, IsFirst, IsRest, first, length_of}
use Rattle.nk_wire.specs.OneFrame.{only_rest, answered_message, message_of_rest, message_of_frame, main_of_frame, back_of_frame, up_of_frame}
use Rattle.nk_wire.proofs.Steps.{within-bounds}
use Rattle.nk_wire.proofs.Numbers.{AreBytes, AreBytes-behind}
use Rattle.nk_wire.proofs.MainWire.{main-found}
use Rattle.nk_wire.proofs.BackWire.{back-found}
use Rattle.nk_wire.proofs.UpWire.{up-found}
use Rattle.nk_wire.proofs.AnyWire.{main-only, back-only, up-only}
use Rattle.nk_wire.proofs.Facts.{any-long}
use Rattle.nk_wire.proofs.Firsts.{whole-from_first}
use Rattle.nk_wire.proofs.FirstLaws.{first-is, frame-first}
use Rattle.nk_wire.specs.Kinds.{longest_rest}

-- from a spelling to what is read

first-frame : (rest : List ℕ) → IsRest rest → first (frame rest) ≡ Whole rest []
first-frame rest r = ap first (sym (append-nil (frame rest))) ∙ frame-first rest [] r

pub frame-read : {M : Type 0} (answer : List ℕ → Result M DecodeError) (f rest : List ℕ) (m : M) → f ≡ frame rest → IsRest rest → answer rest ≡ Ok m → message_of_frame answer f ≡ Some m
frame-read answer f rest m is r h =
    ap (λ (bytes : List ℕ). message_of_frame answer bytes) is ∙ (ap (λ (w : First). message_of_rest answer (only_rest w)) (first-frame rest r) ∙ ap answered_message h)

pub main-read : (m : MainMsg) (f : List ℕ) → IsFrameOf SpellsMain m f → main_of_frame f ≡ Some m
main-read m f s = frame-read main_answer f s.0 m s.2 (any-long (any.Main m) s.0 s.1) (main-only m s.0 s.1)

pub back-read : (m : BackMsg) (f : List ℕ) → IsFrameOf SpellsBack m f → back_of_frame f ≡ Some m
back-read m f s = frame-read back_answer f s.0 m s.2 (any-long (any.Back m) s.0 s.1) (back-only m s.0 s.1)

pub up-read : (m : UpMsg) (f : List ℕ) → IsFrameOf SpellsUp m f → up_of_frame f ≡ Some m
up-read m f s = frame-read up_answer f s.0 m s.2 (any-long (any.Up m) s.0 s.1) (up-only m s.0 s.1)

-- from what is read to the frame

same-message : {M : Type 0} (x m : M) → Some x ≡ Some m → x ≡ m
same-message x m h = cc

abbrev answers : {M : Type 0} → M → Result M DecodeError
answers m = Ok m

was-answered : {M : Type 0} (r : Result M DecodeError) (m : M) → answered_message r ≡ Some m → r ≡ Ok m
was-answered (Ok x) m h = ap answers (same-message x m h)
was-answered (Err e) m h = absurd cc

was-whole : {M : Type 0} (answer : List ℕ → Result M DecodeError) (w : First) (m : M) → message_of_rest answer (only_rest w) ≡ Some m → (rest : List ℕ) × (w ≡ Whole rest []) × (answer rest ≡ Ok m)
was-whole answer Part m h = absurd cc
was-whole answer (BadLength n) m h = absurd cc
was-whole answer (Whole rest []) m h = (rest, refl, was-answered (answer rest) m h)
was-whole answer (Whole rest (b ∷ more)) m h = absurd cc

-- Bytes that are read as a message: the decoder answers it to what stands behind the length.
pub record WasRead {M : Type 0} (answer : List ℕ → Result M DecodeError) (f : List ℕ) (m : M) : Type 0 where
  pub answered : answer (drop 4 f) ≡ Ok m
  pub most : length (drop 4 f) ≤ longest_rest
  pub stands : first f ≡ Whole (drop 4 f) []

pub read-told : {M : Type 0} (answer : List ℕ → Result M DecodeError) (f : List ℕ) (m : M) → message_of_frame answer f ≡ Some m → WasRead answer f m
read-told answer f m h =
    let t = was-whole answer (first f) m h in
    let w = whole-from_first f t.0 [] t.1 in
    let n = length_of f in
    let all : take n (drop 4 f) ≡ drop 4 f = sym (append-nil (take n (drop 4 f))) ∙ ap (λ (l : List ℕ). take n (drop 4 f) ++ l) (sym w.more_is) ∙ take-append-drop n (drop 4 f) in
    let rest : t.0 ≡ drop 4 f = sym w.rest_is ∙ all in
    let size : length (drop 4 f) ≡ n = ap length (sym all) ∙ length-take-le n (drop 4 f) w.all in
    record {
      answered = subst (λ (l : List ℕ). answer l ≡ Ok m) rest t.2;
      most = subst (λ (k : ℕ). k ≤ longest_rest) (sym size) (within-bounds 1 longest_rest n w.in_range).1;
      stands = subst (λ (l : List ℕ). first f ≡ Whole l []) rest t.1;
    }

-- a message is read where one is allowed
pub some-read : {M : Type 0} (o : Option M) → is_some o ≡ true → (m : M) × (o ≡ Some m)
some-read None h = absurd cc
some-read (Some m) h = (m, refl)

pub read-allowed : {M : Type 0} (answer : List ℕ → Result M DecodeError) (f : List ℕ) → is_some (message_of_frame answer f) ≡ true → (m : M) × WasRead answer f m
read-allowed answer f h =
    let s = some-read (message_of_frame answer f) h in
    (s.0, read-told answer f s.0 s.1)

-- what the decoder answered to an allowed frame is what the frame is read as
pub read-again : {M : Type 0} (answer : List ℕ → Result M DecodeError) (f : List ℕ) (m : M) → is_some (message_of_frame answer f) ≡ true → answer (drop 4 f) ≡ Ok m → message_of_frame answer f ≡ Some m
read-again answer f m h is =
    let w = read-allowed answer f h in
    ap (λ (x : First). message_of_rest answer (only_rest x)) w.1.stands ∙ ap answered_message is

no-answer : {M : Type 0} (answer : Result M DecodeError) (e : DecodeError) (m : M) → answer ≡ Ok m → answer ≡ Err e → ⊥
no-answer answer e m is wrong = absurd cc

-- where there is an answer, nothing but memory can have been wanting
pub only-memory : {M : Type 0} (e : DecodeError) (answer : Result M DecodeError) (m : M) → answer ≡ Ok m → Fails e answer → e ≡ error.Memory
only-memory error.Memory answer m is h = refl
only-memory (error.Short have need) answer m is h = absurd (no-answer answer (error.Short have need) m is h)
only-memory (error.Kind kind) answer m is h = absurd (no-answer answer (error.Kind kind) m is h)
only-memory (error.BadField place) answer m is h = absurd (no-answer answer (error.BadField place) m is h)
only-memory (error.Long extra) answer m is h = absurd (no-answer answer (error.Long extra) m is h)

-- and in real bytes the rest is spelled so
framed : {M : Type 0} (answer : List ℕ → Result M DecodeError) (spells : M → List ℕ → Type 0) (f : List ℕ) (m : M) → ((rest : List ℕ) → AreBytes rest → answer rest ≡ Ok m → spells m rest) → AreBytes f → message_of_frame answer f ≡ Some m → IsFrameOf spells m f
framed answer spells f m found are h =
    let r = read-told answer f m h in
    let rest = drop 4 f in
    let whole : IsFirst f (Whole rest []) = subst (λ (w : First). IsFirst f w) r.stands (first-is f are) in
    let is : f ≡ frame rest = whole.0 ∙ append-nil (frame rest) in
    (rest, found rest (AreBytes-behind (little U32 (length rest)) rest (subst AreBytes is are)) r.answered, is)

pub main-framed : (m : MainMsg) (f : List ℕ) → AreBytes f → main_of_frame f ≡ Some m → IsFrameOf SpellsMain m f
main-framed m f are h = framed main_answer SpellsMain f m (λ rest bytes answer. main-found rest m bytes answer) are h

pub back-framed : (m : BackMsg) (f : List ℕ) → AreBytes f → back_of_frame f ≡ Some m → IsFrameOf SpellsBack m f
back-framed m f are h = framed back_answer SpellsBack f m (λ rest bytes answer. back-found rest m bytes answer) are h

pub up-framed : (m : UpMsg) (f : List ℕ) → AreBytes f → up_of_frame f ≡ Some m → IsFrameOf SpellsUp m f
up-framed m f are h = framed up_answer SpellsUp f m (λ rest bytes answer. up-found rest m bytes answer) are h
