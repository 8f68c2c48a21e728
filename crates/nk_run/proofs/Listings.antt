use Rattle.std.proofs.Common.{◌≡◌, ◌<◌, ◌+◌, ◌==◌, ℕ, suc, List, [], ◌∷◌, ◌++◌, length, true, Ok, Err, Some, None, Option, Result, IsErrAnd, IfErr, Vec, Global, ◌∙◌, refl, sym, ap, subst, append_assoc, append-nil, arith, inl, inr}
use Rattle.std.proofs.lemmas.Bool.{cases_lt, eqb-true}
use Rattle.std.proofs.lemmas.List.{get_or-append-add, get_or_append_left, get_or_past, length-append}
use Rattle.nk_wire.specs.declared.error.DecodeError.{DecodeError}
use Rattle.nk_wire.specs.declared.error.DecodeError.TheVariants as error
use Rattle.nk_wire.specs.declared.error.FrameCause.{FrameCause}
use Rattle.nk_wire.specs.declared.error.FrameCause.TheVariants as cause
use Rattle.nk_wire.specs.declared.error.FrameError.{FrameError}
use Rattle.nk_wire.specs.declared.message.AnyMsg.{AnyMsg}
use Rattle.nk_wire.specs.Layouts.{little, U32}
use Rattle.nk_wire.specs.Reading.{any_answer, Fails}
use Rattle.nk_wire.specs.Spelling.{SpellsAny, any_rest, frame}
use Rattle.nk_wire.specs.Streams.{Stream, First, Part, BadLength, Whole, IsFirst, IsNext, AreFrames, AreRead, first, fed, error_at, end_answer, needed}
use Rattle.nk_run.specs.declared.failure.Failure.{Failure}
use Rattle.nk_run.specs.declared.failure.Failure.TheVariants as failure
use Rattle.nk_run.specs.Failures.{failure_of}
use Rattle.nk_run.specs.Frames.{size_of, sizes, frame_line, frame_lines, AreNoFrames, AreLines, IsWrong, IsBadFrame}
use Rattle.nk_run.specs.Listing.{AreBytes, Listed, Stops, RefusesFrames}

-- What is known of the bytes that were fed, call by call.

-- What the wire's laws say.

abbrev pub Spelled : Type 0
Spelled = (m : AnyMsg) (rest : List ℕ) → SpellsAny m rest → rest ≡ any_rest m

abbrev pub FirstIs : Type 0
FirstIs = (bytes : List ℕ) → AreBytes bytes → IsFirst bytes (first bytes)

abbrev pub FirstOnly : Type 0
FirstOnly = (bytes : List ℕ) (f : First) → IsFirst bytes f → first bytes ≡ f

abbrev pub Reads : Type 0
Reads = (ms : List AnyMsg) (bytes left : List ℕ) → AreFrames ms bytes left → AreRead ms bytes left

abbrev pub ReadsOnly : Type 0
ReadsOnly = (ms : List AnyMsg) (bytes left : List ℕ) → AreBytes bytes → AreRead ms bytes left → AreFrames ms bytes left

-- Bytes.

behind : (front bytes : List ℕ) → AreBytes (front ++ bytes) → AreBytes bytes
behind front bytes h i = subst (λ (n : ℕ). n < 256) (get_or-append-add front bytes i 0) (h (length front + i))

pub front : (begun bytes : List ℕ) → AreBytes (begun ++ bytes) → AreBytes begun
front begun bytes h i =
    elim (cases_lt i (length begun)) [
      | inl lt ↦ subst (λ (n : ℕ). n < 256) (get_or_append_left begun bytes 0 i lt) (h i)
      | inr le ↦ rw (get_or_past begun i 0 le) (omega arith)
    ]

left_bytes : (ms : List AnyMsg) (all left : List ℕ) → AreBytes all → AreFrames ms all left → AreBytes left
left_bytes [] all left are f = subst AreBytes f are
left_bytes (m ∷ ms) all left are f = left_bytes ms f.1 left (behind (frame f.0) f.1 (subst AreBytes f.3 are)) f.4

-- Frames.

-- bytes behind
frames_more : (ms : List AnyMsg) (all left more : List ℕ) → AreFrames ms all left → AreFrames ms (all ++ more) (left ++ more)
frames_more [] all left more f = ap (λ (l : List ℕ). l ++ more) f
frames_more (m ∷ ms) all left more f =
    (f.0, f.1 ++ more, f.2, ap (λ (l : List ℕ). l ++ more) f.3 ∙ append_assoc (frame f.0) f.1 more, frames_more ms f.1 left more f.4)

-- one more frame
frames_then : (ms : List AnyMsg) (m : AnyMsg) (all left more : List ℕ) → AreFrames ms all left → AreFrames (m ∷ []) left more → AreFrames (ms ++ m ∷ []) all more
frames_then [] m all left more f g = subst (λ (l : List ℕ). AreFrames (m ∷ []) l more) (sym f) g
frames_then (n ∷ ms) m all left more f g = (f.0, f.1, f.2, f.3, frames_then ms m f.1 left more f.4 g)

sizes_then : (ms : List AnyMsg) (m : AnyMsg) → sizes (ms ++ m ∷ []) ≡ sizes ms + size_of m
sizes_then [] m = omega arith
sizes_then (n ∷ ms) m = omega (arith, sizes_then ms m)

lines_then : (offset : ℕ) (ms : List AnyMsg) (m : AnyMsg) → frame_lines offset (ms ++ m ∷ []) ≡ frame_lines offset ms ++ frame_line (offset + sizes ms) m
lines_then offset [] m =
    append-nil (frame_line offset m) ∙ ap (λ (n : ℕ). frame_line n m) (omega arith)
lines_then offset (n ∷ ms) m =
    let same : (offset + size_of n) + sizes ms ≡ offset + (size_of n + sizes ms) = omega arith in
    ap (λ (l : List ℕ). frame_line offset n ++ l) (lines_then (offset + size_of n) ms m ∙ ap (λ (k : ℕ). frame_lines (offset + size_of n) ms ++ frame_line k m) same)
    ∙ sym (append_assoc (frame_line offset n) (frame_lines (offset + size_of n) ms) (frame_line (offset + (size_of n + sizes ms)) m))

-- The calls.

pub listed_fed : (all piece : List ℕ) (s new : Stream) (text new_text : List ℕ) → Listed all s text → new ≡ fed s piece → new_text ≡ text → Listed (all ++ piece) new new_text
listed_fed all piece s new text new_text h is same =
    let unused : new.unused ≡ s.unused ++ piece = ap (λ (x : Stream). x.unused) is ∙ rw h.no_error refl in
    record {
      messages = h.messages;
      frames = subst (AreFrames h.messages (all ++ piece)) (sym unused) (frames_more h.messages all s.unused piece h.frames);
      offset = ap (λ (x : Stream). x.offset) is ∙ h.offset;
      lines = same ∙ h.lines;
      no_error = ap (λ (x : Stream). x.error) is ∙ h.no_error;
    }

pub fed_total : (all piece : List ℕ) (s new : Stream) (text : List ℕ) → Listed all s text → new ≡ fed s piece → new.offset + length new.unused ≡ s.offset + length s.unused + length piece
fed_total all piece s new text h is =
    let unused : new.unused ≡ s.unused ++ piece = ap (λ (x : Stream). x.unused) is ∙ rw h.no_error refl in
    let offset : new.offset ≡ s.offset = ap (λ (x : Stream). x.offset) is in
    let size : length new.unused ≡ length s.unused + length piece = ap length unused ∙ length-append s.unused piece in
    omega (arith, offset, size)

-- a frame was given
record Given (s new : Stream) (m : AnyMsg) : Type 0 where
  pub read : AreRead (m ∷ []) s.unused new.unused
  pub error : new.error ≡ s.error

given_first : (f : First) (s new : Stream) (m : AnyMsg) → first s.unused ≡ f → IsNext s f (Ok (Some m)) new → Given s new m
given_first Part s new m at next = absurd (cc (next.0))
given_first (BadLength n) s new m at next = absurd (cc (next.0))
given_first (Whole rest more) s new m at next =
    let unused : new.unused ≡ more = ap (λ (x : Stream). x.unused) next.1 in
    record { read = (rest, more, at, next.0, sym unused); error = ap (λ (x : Stream). x.error) next.1 }

pub listed_next : Spelled → ReadsOnly → (all : List ℕ) (s new : Stream) (m : AnyMsg) (text new_text : List ℕ) → AreBytes all → Listed all s text
    → IsNext s (first s.unused) (Ok (Some m)) new → new.offset + length new.unused ≡ s.offset + length s.unused
    → new_text ≡ text ++ frame_line s.offset m → Listed all new new_text
listed_next spelled only all s new m text new_text are h next total printed =
    let given : Given s new m = given_first (first s.unused) s new m refl next in
    let one : AreFrames (m ∷ []) s.unused new.unused = only (m ∷ []) s.unused new.unused (left_bytes h.messages all s.unused are h.frames) given.read in
    let rest : one.0 ≡ any_rest m = spelled m one.0 one.2 in
    let whole : s.unused ≡ frame (any_rest m) ++ new.unused = one.3 ∙ ap (λ (l : List ℕ). frame l ++ one.1) rest ∙ ap (λ (l : List ℕ). frame (any_rest m) ++ l) one.4 in
    let size : length s.unused ≡ size_of m + length new.unused = ap length whole ∙ length-append (frame (any_rest m)) new.unused in
    let offset : new.offset ≡ s.offset + size_of m = omega (arith, total, size) in
    let before : s.offset ≡ 0 + sizes h.messages = omega (arith, h.offset) in
    record {
      messages = h.messages ++ m ∷ [];
      frames = frames_then h.messages m all s.unused new.unused h.frames one;
      offset = omega (arith, offset, h.offset, sizes_then h.messages m);
      lines = printed ∙ ap (λ (l : List ℕ). l ++ frame_line s.offset m) h.lines ∙ ap (λ (k : ℕ). frame_lines 0 h.messages ++ frame_line k m) before ∙ sym (lines_then 0 h.messages m);
      no_error = given.error ∙ h.no_error;
    }

-- What is wrong.

wrong_length : (bytes more : List ℕ) (n : ℕ) → IsFirst bytes (BadLength n) → IsFirst (bytes ++ more) (BadLength n)
wrong_length bytes more n h = (h.0 ++ more, ap (λ (l : List ℕ). l ++ more) h.1 ∙ append_assoc (little U32 n) h.0 more, h.2, h.3)

whole_more : (bytes rest left more : List ℕ) → IsFirst bytes (Whole rest left) → IsFirst (bytes ++ more) (Whole rest (left ++ more))
whole_more bytes rest left more h = (ap (λ (l : List ℕ). l ++ more) h.0 ∙ append_assoc (frame rest) left more, h.1)

bad_decode : (all : List ℕ) (before : List AnyMsg) (left rest more : List ℕ) (offset : ℕ) (c : DecodeError) → AreFrames before all left → offset ≡ sizes before
    → IsFirst left (Whole rest more) → any_answer rest ≡ Err c → IsBadFrame all (record { offset = offset; cause = cause.Decode c })
bad_decode all before left rest more offset c f at is answer =
    record { before = before; left = left; frames = f; offset = at; wrong = (rest, more, is, answer) }

stop_decode : (all : List ℕ) (before : List AnyMsg) (left rest more : List ℕ) (offset : ℕ) (c : DecodeError) → AreFrames before all left → offset ≡ sizes before
    → IsFirst left (Whole rest more) → Fails c (any_answer rest) → Stops (failure_of (record { offset = offset; cause = cause.Decode c })) all
stop_decode all before left rest more offset error.Memory f at is fails = tt
stop_decode all before left rest more offset (error.Short have need) f at is fails = bad_decode all before left rest more offset (error.Short have need) f at is fails
stop_decode all before left rest more offset (error.Kind kind) f at is fails = bad_decode all before left rest more offset (error.Kind kind) f at is fails
stop_decode all before left rest more offset (error.BadField place) f at is fails = bad_decode all before left rest more offset (error.BadField place) f at is fails
stop_decode all before left rest more offset (error.Long extra) f at is fails = bad_decode all before left rest more offset (error.Long extra) f at is fails

stops_first : (f : First) (s new : Stream) (e : FrameError) (all more : List ℕ) (ms : List AnyMsg) → IsFirst s.unused f → IsNext s f (Err e) new
    → AreFrames ms all s.unused → s.offset ≡ sizes ms → Stops (failure_of e) (all ++ more)
stops_first Part s new e all more ms is next f at = absurd (cc (next.0))
stops_first (BadLength n) s new e all more ms is next f at =
    let same : e ≡ error_at s (cause.Length n) = cc (next.0) in
    subst (λ (x : FrameError). Stops (failure_of x) (all ++ more)) (sym same)
    (record { before = ms; left = s.unused ++ more; frames = frames_more ms all s.unused more f; offset = at; wrong = wrong_length s.unused more n is })
stops_first (Whole rest left) s new e all more ms is next f at =
    subst (λ (x : FrameError). Stops (failure_of x) (all ++ more)) (sym next.1)
    (stop_decode (all ++ more) ms (s.unused ++ more) rest (left ++ more) s.offset next.0 (frames_more ms all s.unused more f) at (whole_more s.unused rest left more is) next.2)

-- where nothing whole stands first, the list stays
none_next : (s new : Stream) (f : First) → IsNext s f (Ok None) new → new ≡ s
none_next s new Part next = next.1
none_next s new (BadLength n) next = absurd (let e = next.0 in cc)
none_next s new (Whole rest more) next = absurd next

pub listed_stays : (all text : List ℕ) (s new : Stream) → IsNext s (first s.unused) (Ok None) new → Listed all s text → Listed all new text
listed_stays all text s new next h = subst (λ (t : Stream). Listed all t text) (sym (none_next s new (first s.unused) next)) h

-- an error that next told
pub stops_next : FirstIs → (all more text : List ℕ) (s new : Stream) (e : FrameError) → AreBytes (all ++ more) → Listed all s text
    → IsNext s (first s.unused) (Err e) new → Stops (failure_of e) (all ++ more)
stops_next is all more text s new e are h next =
    stops_first (first s.unused) s new e all more h.messages (is s.unused (left_bytes h.messages all s.unused (front all more are) h.frames)) next h.frames h.offset

-- The end.

no_end : (s : Stream) (o : Option FrameError) (bytes : List ℕ) → o ≡ None → end_answer s o bytes ≡ Ok tt → bytes ≡ []
no_end s (Some e) bytes none h = absurd cc
no_end s None [] none h = refl
no_end s None (b ∷ bytes) none h = absurd cc

cut_end : (s : Stream) (o : Option FrameError) (bytes : List ℕ) (e : FrameError) → o ≡ None → end_answer s o bytes ≡ Err e
    → (0 < length bytes) × (e ≡ error_at s (cause.Cut (length bytes) (needed bytes)))
cut_end s (Some e') bytes e none h = absurd cc
cut_end s None [] e none h = absurd cc
cut_end s None (b ∷ bytes) e none h = (omega arith, cc)

pub ended : (all : List ℕ) (s : Stream) (text items : List ℕ) → Listed all s text → end_answer s s.error s.unused ≡ Ok tt → items ≡ text → AreLines all items
ended all s text items h end same =
    (h.messages, subst (AreFrames h.messages all) (no_end s s.error s.unused h.no_error end) h.frames, same ∙ h.lines)

pub stops_end : FirstIs → (all text : List ℕ) (s : Stream) (e : FrameError) → AreBytes all → Listed all s text → first s.unused ≡ Part
    → end_answer s s.error s.unused ≡ Err e → Stops (failure_of e) all
stops_end is all text s e are h part end =
    let cut = cut_end s s.error s.unused e h.no_error end in
    let first_part : IsFirst s.unused Part = subst (IsFirst s.unused) part (is s.unused (left_bytes h.messages all s.unused are h.frames)) in
    subst (λ (x : FrameError). Stops (failure_of x) all) (sym cut.1)
    (record { before = h.messages; left = s.unused; frames = h.frames; offset = h.offset; wrong = (first_part, cut.0, refl, refl) })

-- Bytes whose frame is wrong are no sequence of frames.

abbrev a_whole : List ℕ → List ℕ → First
a_whole rest more = Whole rest more

no_part : (rest more : List ℕ) → Part ≡ a_whole rest more → ⊥
no_part rest more h = absurd cc

no_length : (n : ℕ) (rest more : List ℕ) → BadLength n ≡ a_whole rest more → ⊥
no_length n rest more h = absurd cc

part_no_length : (n : ℕ) → Part ≡ BadLength n → ⊥
part_no_length n h = absurd cc

same_rest : (r m rest more : List ℕ) → a_whole r m ≡ a_whole rest more → r ≡ rest
same_rest r m rest more h = cc

same_more : (r m rest more : List ℕ) → a_whole r m ≡ a_whole rest more → m ≡ more
same_more r m rest more h = cc

nothing_first : (bytes : List ℕ) → bytes ≡ [] → first bytes ≡ Part
nothing_first bytes h = ap first h

reads_on : (ms ns : List AnyMsg) (all left : List ℕ) → AreRead ms all left → AreRead ns all [] → (ks : List AnyMsg) × AreRead ks left []
reads_on [] ns all left r q = (ns, subst (λ (l : List ℕ). AreRead ns l []) r q)
reads_on (m ∷ ms) [] all left r q = absurd (no_part r.0 r.1 (sym (nothing_first all q) ∙ r.2))
reads_on (m ∷ ms) (n ∷ ns) all left r q =
    let same : r.1 ≡ q.1 = same_more r.0 r.1 q.0 q.1 (sym r.2 ∙ q.2) in
    reads_on ms ns r.1 left r.4 (subst (λ (l : List ℕ). AreRead ns l []) (sym same) q.4)

other_answer : (rest rest' : List ℕ) (e : DecodeError) (m : AnyMsg) → rest ≡ rest' → any_answer rest ≡ Err e → any_answer rest' ≡ Ok m → ⊥
other_answer rest rest' e m same failed read = absurd (cc (ap any_answer same, failed, read))

wrong_ends : FirstOnly → (left : List ℕ) (c : FrameCause) (ks : List AnyMsg) → IsWrong left c → AreRead ks left [] → ⊥
wrong_ends only left (cause.Length n) [] w r = part_no_length n (sym (nothing_first left r) ∙ only left (BadLength n) w)
wrong_ends only left (cause.Length n) (k ∷ ks) w r = no_length n r.0 r.1 (sym (only left (BadLength n) w) ∙ r.2)
wrong_ends only left (cause.Decode e) [] w r = no_part w.0 w.1 (sym (nothing_first left r) ∙ only left (Whole w.0 w.1) w.2)
wrong_ends only left (cause.Decode e) (k ∷ ks) w r =
    other_answer w.0 r.0 e k (same_rest w.0 w.1 r.0 r.1 (sym (only left (Whole w.0 w.1) w.2) ∙ r.2)) w.3 r.3
wrong_ends only left (cause.Cut have need) [] w r =
    let size : length left ≡ 0 = ap length r in absurd (omega (arith, w.1, w.2, size))
wrong_ends only left (cause.Cut have need) (k ∷ ks) w r = no_part r.0 r.1 (sym (only left Part w.0) ∙ r.2)

pub bad_is_none : Reads → FirstOnly → (all : List ℕ) (e : FrameError) → IsBadFrame all e → AreNoFrames all
bad_is_none reads only all e b = λ ns f.
    let on = reads_on b.before ns all b.left (reads b.before all b.left b.frames) (reads ns all [] f) in
    wrong_ends only b.left e.cause on.0 b.wrong on.1

pub refuses : Reads → FirstOnly → (f : Failure) (all : List ℕ) → Stops f all → RefusesFrames f all
refuses reads only (failure.Line number c) all h = h
refuses reads only (failure.Frame e) all h = (h, bad_is_none reads only all e h)
refuses reads only (failure.Log number) all h = h
refuses reads only failure.TooLarge all h = h
refuses reads only failure.Usage all h = h
refuses reads only failure.Read all h = h
refuses reads only failure.Write all h = h
refuses reads only failure.Memory all h = h

pub refuses_all : Reads → FirstOnly → (r : Result (Vec ℕ Global) Failure) (all : List ℕ) → IfErr r (λ e. Stops e all) → IfErr r (λ e. RefusesFrames e all)
refuses_all reads only (Ok text) all h = tt
refuses_all reads only (Err e) all h = refuses reads only e all h

-- Steps of the loop.

-- an error that is passed on
pub failed : {T : Type 0} (r : Result T Failure) (e : Failure) (P : Failure → Type 0) → IsErrAnd r (λ x. x ≡ e) → P e → IfErr r P
failed (Ok x) e P is h = absurd is
failed (Err x) e P is h = subst P (sym is) h

pub split_more : (all fed rest piece left : List ℕ) → all ≡ fed ++ rest → rest ≡ piece ++ left → all ≡ (fed ++ piece) ++ left
split_more all fed rest piece left is split = is ∙ ap (λ (l : List ℕ). fed ++ l) split ∙ sym (append_assoc fed piece left)

nothing_is : {A : Type 0} (xs : List A) → (length xs == 0) ≡ true → xs ≡ []
nothing_is [] e = refl
nothing_is (x ∷ xs) e = let zero_long : suc (length xs) ≡ 0 = eqb-true _ _ e in absurd (omega arith)

pub all_fed : (all fed rest : List ℕ) → all ≡ fed ++ rest → (length rest == 0) ≡ true → fed ≡ all
all_fed all fed rest is none = sym (append-nil fed) ∙ ap (λ (l : List ℕ). fed ++ l) (sym (nothing_is rest none)) ∙ sym is
