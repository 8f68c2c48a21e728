-- A further entry: it stands behind the others, and what then flows is the model's.
use Rattle.std.proofs.Common.{false, ◌≡◌, ℕ, ◌+◌, ◌<◌, ◌≤◌, ◌^◌, List, [], ◌∷◌, ◌++◌, length, take, drop, Option, Some, None, Result, Ok, Err, refl, sym, ap, subst, ◌∙◌, arith}
use Rattle.std.specs.Prelude.{IfOk, OnOk, Bool, true}
use Rattle.std.specs.Result.{is_err}
use Rattle.std.proofs.lemmas.List.{length-append, length-take, append_assoc, append-nil, take-append-le, drop-append-le}
use Rattle.nk_base.specs.declared.status.Status.{Status}
use Rattle.nk_base.specs.declared.status.Memory.{Memory}
use Rattle.nk_base.specs.declared.status.Moved.{Moved}
use Rattle.nk_base.specs.declared.status.Moved.TheVariants.{Idle}
use Rattle.nk_base.specs.declared.message.Entry.{Entry}
use Rattle.nk_base.specs.declared.message.Entry.TheVariants as entry
use Rattle.nk_plan.specs.declared.plan.ListenerKind.{ListenerKind}
use Rattle.nk_plan.specs.declared.ends.ReaderEnd.{ReaderEnd}
use Rattle.nk_pipe.specs.Pipe.{Pipe}
use Rattle.nk_pipe.specs.Kept.{Kept, Stands, count}
use Rattle.nk_pump.specs.Shown.{Shown}
use Rattle.nk_sink.specs.declared.feed.Feed.{Feed}
use Rattle.nk_sink.specs.declared.writer.Writer.{Writer}
use Rattle.nk_sink.specs.Listener.{Piped, Listener, flowed, fed, if_piped, entered, read_turn, piped_enabled, pump_of, read_by, ends_by}
use Rattle.nk_plan.specs.Readers.{body_of, stop_of}
use Rattle.nk_base.specs.Status.{moved_if}
use Rattle.nk_sink.specs.Reached.{IsReached, ListenerView, Enter, Turn}
use Rattle.nk_sink.specs.Held.{IsPiped}
use Rattle.nk_sink.specs.Fed.{pipe_in, piped_with, IsWithin, IsOpenAt, IsAt}
use Rattle.nk_sink.specs.Sunk.{piped_in, listener_of, IsFed, IsFedIn, IsPipedIn, IsListening}
use Rattle.nk_sink.proofs.Flowing.{flowed_same}
use Rattle.nk_sink.proofs.Feeding.{body_behind, stop_behind, body_append, stop_append}
use Rattle.nk_sink.proofs.Pouring.{stands_count}
use Rattle.nk_sink.proofs.Passing.{within_zero, open_none}
use Rattle.nk_sink.proofs.Moving.{flow_segment}
use Rattle.nk_sink.proofs.Proved as laws

-- what holds of an answer that is no refusal
pub on_ok : {X : Type 0} (r : Result X Memory) (P : Type 0) → is_err r ≡ false → OnOk r P → P
on_ok (Ok x) P works holds = holds
on_ok (Err e) P works holds = absurd (cc (works))

-- THE SIZE OF A READ

pub fed_after : (es : List Entry) (r : Result (Unit {0}) Memory) (f : Feed) (w : Writer) → IsFed es f → OnOk r (IsAt es w.pipe w.place w.offset) → OnOk r (piped_with es w.pipe f.pumps.items ≡ flowed (piped_with es f.writer.pipe f.pumps.items))
    → OnOk r (IsFed es (record f { writer = w }))
fed_after es (Err e) f w is at flows = tt
fed_after es (Ok u) f w is at flows = record {
  at = at;
  buffer = is.buffer ∙ sym (ap (λ (v : Piped). v.pipe.segment) flows ∙ flow_segment (piped_with es f.writer.pipe f.pumps.items));
  short = is.short;
}

-- ONE ENTRY MORE

within_append : (es more : List Entry) (offset : ℕ) → IsWithin es offset → IsWithin (es ++ more) offset
within_append [] more offset is = subst (λ n. IsWithin more n) (sym is) (within_zero more)
within_append (entry.Start code status ∷ es) more offset is = is
within_append (entry.Bytes o piece ∷ es) more offset is = is
within_append (entry.Stop status trailers ∷ es) more offset is = is

open_append : (es more : List Entry) (closed : Option Status) → IsOpenAt es closed → IsOpenAt (es ++ more) closed
open_append [] more closed is = open_none more closed is
open_append (entry.Start code status ∷ es) more closed is = is
open_append (entry.Bytes o piece ∷ es) more closed is = is
open_append (entry.Stop status trailers ∷ es) more closed is = tt

-- the first bytes of the body stay
body_starts : (es more : List Entry) (n : ℕ) (o : Option Status) → stop_of es ≡ o → n ≤ length (body_of es) → take n (body_of (es ++ more)) ≡ take n (body_of es)
body_starts es more n (Some s) stop fits = ap (λ xs. take n xs) (body_behind es more s stop)
body_starts es more n None stop fits =
    ap (λ xs. take n xs) (body_append es more stop) ∙ take-append-le n (body_of es) (body_of more) fits

in_body : (es : List Entry) (k : Kept) → Stands k (pipe_in (body_of es) k) → count k ≤ length (body_of es)
in_body es k stands = omega (arith, stands_count k (pipe_in (body_of es) k) stands, length-take (count k) (body_of es))

at_append : (es more : List Entry) (k : Kept) (place offset : ℕ) → IsAt es k place offset → IsAt (es ++ more) k place offset
at_append es more k place offset is =
    let same : pipe_in (body_of (es ++ more)) k ≡ pipe_in (body_of es) k = ap (λ xs. let p : Pipe = record { segment = k.segment; limit = k.limit; written = xs; readers = k.readers; closed = k.closed } in p) (body_starts es more (count k) (stop_of es) refl (in_body es k is.stands)) in
    let front : take place (es ++ more) ≡ take place es = take-append-le place es more is.below in
    let rest : drop place (es ++ more) ≡ drop place es ++ more = drop-append-le place es more is.below in
    record {
      stands = subst (λ (p : Pipe). Stands k p) (sym same) is.stands;
      below = omega (arith, is.below, length-append es more);
      before = ap stop_of front ∙ is.before;
      counted = is.counted ∙ ap (λ xs. length (body_of xs) + offset) (sym front);
      within = subst (λ xs. IsWithin xs offset) (sym rest) (within_append (drop place es) more offset is.within);
      opens = subst (λ xs. IsOpenAt xs k.closed) (sym rest) (open_append (drop place es) more k.closed is.opens);
    }

pub fed_append : (es more : List Entry) (f : Option Feed) → IsFedIn es f → IsFedIn (es ++ more) f
fed_append es more None is = tt
fed_append es more (Some f) is =
    record { at = at_append es more f.writer.pipe f.writer.place f.writer.offset is.at; buffer = is.buffer; short = is.short }

-- what stands for the model before it flows, by the body and the stop
abbrev piped_by : Kept → List Shown → List ℕ → Option Status → Piped
piped_by k pumps body stop = record {
  pipe = pipe_in body k;
  kept = drop (count k) body;
  stop = stop;
  pumps = pumps;
}

grown : (k : Kept) (pumps : List Shown) (body more : List ℕ) (stop : Option Status) → count k ≤ length body
    → piped_by k pumps (body ++ more) stop ≡ record (piped_by k pumps body stop) { kept = drop (count k) body ++ more }
grown k pumps body more stop fits =
    ap (λ xs. let w : Piped = record { pipe = record { segment = k.segment; limit = k.limit; written = xs; readers = k.readers; closed = k.closed }; kept = drop (count k) (body ++ more); stop = stop; pumps = pumps } in w) (take-append-le (count k) body more fits)
    ∙ ap (λ xs. record (piped_by k pumps body stop) { kept = xs }) (drop-append-le (count k) body more fits)

flows_by : (es : List Entry) (e : Entry) (k : Kept) (pumps : List Shown) (o : Option Status) → stop_of es ≡ o → count k ≤ length (body_of es) → IsPiped (body_of es) (stop_of es) (piped_with es k pumps)
    → flowed (piped_with (es ++ e ∷ []) k pumps) ≡ fed o e (piped_with es k pumps)
flows_by es e k pumps (Some s) at fits is =
    ap (λ xs. flowed (piped_by k pumps xs (stop_of (es ++ e ∷ [])))) (body_behind es (e ∷ []) s at)
    ∙ ap (λ o. flowed (piped_by k pumps (body_of es) o)) (stop_behind es (e ∷ []) s at)
    ∙ flowed_same (body_of es) (stop_of es) (piped_with es k pumps) is
flows_by es (entry.Start code status) k pumps None at fits is =
    ap (λ xs. flowed (piped_by k pumps xs (stop_of (es ++ entry.Start code status ∷ [])))) (body_append es (entry.Start code status ∷ []) at ∙ append-nil (body_of es))
    ∙ ap (λ o. flowed (piped_by k pumps (body_of es) o)) (stop_append es (entry.Start code status ∷ []) at ∙ sym at)
    ∙ flowed_same (body_of es) (stop_of es) (piped_with es k pumps) is
flows_by es (entry.Bytes offset piece) k pumps None at fits is =
    ap (λ xs. flowed (piped_by k pumps xs (stop_of (es ++ entry.Bytes offset piece ∷ [])))) (body_append es (entry.Bytes offset piece ∷ []) at ∙ ap (λ xs. body_of es ++ xs) (append-nil piece))
    ∙ ap (λ o. flowed (piped_by k pumps (body_of es ++ piece) o)) (stop_append es (entry.Bytes offset piece ∷ []) at ∙ sym at)
    ∙ ap flowed (grown k pumps (body_of es) piece (stop_of es) fits)
flows_by es (entry.Stop status trailers) k pumps None at fits is =
    ap (λ xs. flowed (piped_by k pumps xs (stop_of (es ++ entry.Stop status trailers ∷ [])))) (body_append es (entry.Stop status trailers ∷ []) at ∙ append-nil (body_of es))
    ∙ ap (λ o. flowed (piped_by k pumps (body_of es) o)) (stop_append es (entry.Stop status trailers ∷ []) at)

pub shows : (es : List Entry) (e : Entry) (f : Option Feed) → IsFedIn es f → IsPipedIn es (piped_in es f)
    → if_piped (λ w. flowed w) (piped_in (es ++ e ∷ []) f) ≡ if_piped (λ w. fed w.stop e w) (piped_in es f)
shows es e None is piped = refl
shows es e (Some f) is piped =
    ap (λ (w : Piped). Some w) (flows_by es e f.writer.pipe f.pumps.items (stop_of es) refl (in_body es f.writer.pipe is.at.stands) piped)

-- by how much the body grows
more_by : (es : List Entry) (e : Entry) (o : Option Status) → stop_of es ≡ o → length (body_of (es ++ e ∷ [])) ≤ length (body_of es) + length (body_of (e ∷ []))
more_by es e (Some s) at = let same = body_behind es (e ∷ []) s at in rw same (omega arith)
more_by es e None at =
    let same = body_append es (e ∷ []) at in rw same (omega (arith, length-append (body_of es) (body_of (e ∷ []))))

pub more_is : (es : List Entry) (e : Entry) → length (body_of (es ++ e ∷ [])) ≤ length (body_of es) + length (body_of (e ∷ []))
more_is es e = more_by es e (stop_of es) refl

-- A LISTENER THAT HAS NOT FAILED

pub piped_is : (k : ListenerKind) (es : List Entry) (f : Option Feed) → IsReached (listener_of k es f) → IsPipedIn es (piped_in es f)
piped_is k es f is =
    subst (λ (l : Listener). IsPipedIn l.entries l.piped) (sym is.is) (laws.piped_in k is.steps is.good)

pub entered_is : (k : ListenerKind) (es es' : List Entry) (e : Entry) (f f' : Option Feed) → es' ≡ es ++ e ∷ [] → piped_in es' f' ≡ if_piped (λ w. fed w.stop e w) (piped_in es f) → listener_of k es' f' ≡ entered e (listener_of k es f)
entered_is k es es' e f f' entries piped =
    ap (λ o. let l : Listener = record { kind = k; entries = es'; piped = o } in l) piped
    ∙ ap (λ xs. let l : Listener = record { kind = k; entries = xs; piped = if_piped (λ w. fed w.stop e w) (piped_in es f) } in l) entries

pub enters : (k : ListenerKind) (es es' : List Entry) (e : Entry) (f f' : Option Feed) → IsListening k es f → es' ≡ es ++ e ∷ [] → piped_in es' f' ≡ if_piped (λ w. fed w.stop e w) (piped_in es f) → IsFedIn es' f'
    → length (body_of es') ≤ length (body_of es) + 131072 → length es < 2 ^ 32 → IsListening k es' f'
enters k es es' e f f' is entries piped fed_is more few =
    let long : length es' ≡ length es + 1 = ap (λ xs. length xs) entries ∙ length-append es (e ∷ []) in
    record {
      reached = record {
        good = is.reached.good;
        steps = Enter e ∷ is.reached.steps;
        is = entered_is k es es' e f f' entries piped ∙ ap (entered e) is.reached.is;
      };
      fed = fed_is;
      few = omega (arith, long, few);
      bounded = omega (arith, long, more, is.bounded);
    }

pub turned_is : (k : ListenerKind) (es : List Entry) (reader : ℕ) (f f' : Option Feed) → piped_in es f' ≡ if_piped (λ w. read_by (pump_of w.pumps reader) reader w) (piped_in es f) → listener_of k es f' ≡ read_turn reader (listener_of k es f)
turned_is k es reader f f' piped = ap (λ o. let l : Listener = record { kind = k; entries = es; piped = o } in l) piped

pub turns : (k : ListenerKind) (es : List Entry) (reader : ℕ) (f f' : Option Feed) → IsListening k es f → piped_in es f' ≡ if_piped (λ w. read_by (pump_of w.pumps reader) reader w) (piped_in es f) → IsFedIn es f' → IsListening k es f'
turns k es reader f f' is piped fed_is = record {
  reached = record {
    good = is.reached.good;
    steps = Turn reader ∷ is.reached.steps;
    is = turned_is k es reader f f' piped ∙ ap (read_turn reader) is.reached.is;
  };
  fed = fed_is;
  few = is.few;
  bounded = is.bounded;
}

not_moved : (b : Bool) → moved_if b ≡ Idle → b ≡ false
not_moved true e = cc
not_moved false e = refl

-- a turn that was idle changes nothing
pub turn_stays : (r : Result Moved Memory) (k : ListenerKind) (es es' : List Entry) (reader : ℕ) (f f' : Option Feed) (failed : Bool) (old : ListenerView) → es' ≡ es → IsListening k es f
    → (let v : ListenerView = record { listener = listener_of k es f; failed = false } in v) ≡ old → failed ≡ is_err r
    → OnOk r (piped_in es' f' ≡ if_piped (λ w. read_by (pump_of w.pumps reader) reader w) (piped_in es' f)) → IfOk r (λ m. m ≡ moved_if (piped_enabled reader (piped_in es' f)))
    → IfOk r (λ m. m ≡ Idle → (let v : ListenerView = record { listener = listener_of k es f'; failed = failed } in v) ≡ old)
turn_stays (Err x) k es es' reader f f' failed old same is view works read answer = answer
turn_stays (Ok m) k es es' reader f f' failed old same is view works read answer = λ idle.
    let not_enabled : piped_enabled reader (piped_in es f) ≡ false =
    subst (λ xs. piped_enabled reader (piped_in xs f) ≡ false) same (not_moved (piped_enabled reader (piped_in es' f)) (sym answer ∙ idle)) in
    let stays : piped_in es f' ≡ piped_in es f =
    subst (λ xs. piped_in xs f' ≡ if_piped (λ w. read_by (pump_of w.pumps reader) reader w) (piped_in xs f)) same read
    ∙ laws.idle_by es reader (piped_in es f) (piped_is k es f is.reached) not_enabled in
    let V : Option Piped → Bool → ListenerView = λ o b. record { listener = record { kind = k; entries = es; piped = o }; failed = b } in
    ap (λ o. V o failed) stays ∙ (ap (λ b. V (piped_in es f) b) works ∙ view)

-- the body fits a machine number
pub few_bytes : (k : ListenerKind) (es : List Entry) (f : Option Feed) → IsListening k es f → length (body_of es) < 2 ^ 61
few_bytes k es f is = omega (arith, is.bounded, is.few)

-- WHAT THE READERS HAVE

ends_more : (ss : List Shown) (s : Shown) → ends_by (ss ++ s ∷ []) ≡ ends_by ss ++ (record { bytes = s.bytes; status = s.stop }) ∷ []
ends_more [] s = refl
ends_more (t ∷ ss) s = ap (λ es. (record { bytes = t.bytes; status = t.stop }) ∷ es) (ends_more ss s)

pub ends_push : (before now after : List ReaderEnd) (ss : List Shown) (s : Shown) (bytes : List ℕ) (status : Option Status) → bytes ≡ s.bytes → status ≡ s.stop → now ≡ before ++ ends_by ss → after ≡ now ++ (record { bytes = bytes; status = status }) ∷ []
    → after ≡ before ++ ends_by (ss ++ s ∷ [])
ends_push before now after ss s bytes status b t is pushed =
    pushed
    ∙ ap (λ xs. now ++ (record { bytes = xs; status = status }) ∷ []) b
    ∙ ap (λ o. now ++ (record { bytes = s.bytes; status = o }) ∷ []) t
    ∙ ap (λ es. es ++ (record { bytes = s.bytes; status = s.stop }) ∷ []) is
    ∙ append_assoc before (ends_by ss) ((record { bytes = s.bytes; status = s.stop }) ∷ [])
    ∙ ap (λ es. before ++ es) (sym (ends_more ss s))
