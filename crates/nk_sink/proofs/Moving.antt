-- A turn of one reader's pump, and what then flows, are the model's.
use Rattle.std.proofs.Common.{◌≡◌, ◌≢◌, ℕ, zero, suc, ◌+◌, ◌-◌, ◌<◌, ◌≤◌, ◌==◌, Bool, true, false, List, [], ◌∷◌, length, take, drop, replicate, get_or, Option, Some, None, refl, sym, ap, subst, ◌∙◌, arith}
use Rattle.std.specs.Prelude.{slice_get, slice_set}
use Rattle.std.proofs.lemmas.Bool.Decides.{nat_tests}
use Rattle.std.proofs.lemmas.List.{replicate_more}
use Rattle.nk_base.specs.declared.status.Status.{Status}
use Rattle.nk_base.specs.declared.message.Entry.{Entry}
use Rattle.nk_pipe.specs.Pipe.{Pipe, Reader, reader_at, new_pipe, numbered, cloned, read_from, written_to}
use Rattle.nk_pipe.specs.Kept.{Kept, Stands, count}
use Rattle.nk_pump.specs.Shown.{Shown, turned}
use Rattle.nk_sink.specs.Listener.{Piped, closed_behind, flowed, stream_of, pipe_by, pipe_behind, pump_of, read_by}
use Rattle.nk_plan.specs.Readers.{body_of, stop_of}
use Rattle.nk_sink.specs.Held.{IsPiped}
use Rattle.nk_sink.specs.Fed.{pipe_in, piped_with, IsOpenAt, IsAt}
use Rattle.nk_sink.proofs.Turning.{reader_of}

-- the pump of a reader
pub pump_is : (ss : List Shown) (reader : ℕ) (s : Shown) → reader ≢ 0 → slice_get ss (reader - 1) ≡ Some s → pump_of ss reader ≡ Some s
pump_is ss zero s some get = absurd (some refl)
pump_is ss (suc i) s some get =
    let not_zero : suc i == 0 ≡ false = grind (arith, nat_tests) in rw not_zero get

pub get_is : (ss : List Shown) (i : ℕ) (s : Shown) → i < length ss → s ≡ get_or ss i s → slice_get ss i ≡ Some s
get_is [] i s below is = absurd (omega (arith, below))
get_is (t ∷ ss) zero s below is = let same : s ≡ t = is in rw same refl
get_is (t ∷ ss) (suc i) s below is = get_is ss i s (omega (arith, below)) is

pub record PumpFits (k : Kept) (s : Shown) : Type 0 where
  pub size : s.size ≡ k.segment
  pub free : s.cancelled ≡ None

pub pump_fits : (es : List Entry) (k : Kept) (pumps : List Shown) (i : ℕ) (s : Shown) → IsPiped (body_of es) (stop_of es) (piped_with es k pumps) → slice_get pumps i ≡ Some s → PumpFits k s
pump_fits es k pumps i s is get =
    let of = reader_of k.segment (take (count k) (body_of es)) k.closed k.readers pumps i s is.poured.read get in
    record { size = of.read.size; free = of.read.free }

-- a turn writes nothing and, without a cancel, closes nothing
read_same : (o : Option Reader) (id size : ℕ) (p : Pipe) → ((read_from o id size p).written ≡ p.written) × ((read_from o id size p).closed ≡ p.closed) × ((read_from o id size p).segment ≡ p.segment)
read_same None id size p = (refl, refl, refl)
read_same (Some r) id size p = (refl, refl, refl)

behind_same : (stop : Option Status) (started : Bool) (cancelled : Option Status) (size reader : ℕ) (p : Pipe) → cancelled ≡ None
    → ((pipe_by stop started cancelled size reader p).written ≡ p.written) × ((pipe_by stop started cancelled size reader p).closed ≡ p.closed) × ((pipe_by stop started cancelled size reader p).segment ≡ p.segment)
behind_same (Some s) started cancelled size reader p free = (refl, refl, refl)
behind_same None false cancelled size reader p free = (refl, refl, refl)
behind_same None true (Some q) size reader p free = absurd (cc (free))
behind_same None true None size reader p free = read_same (numbered p.readers reader) reader size p

-- the pipe once a pump has had its turn
pub record Turned (es : List Entry) (k k' : Kept) (place offset reader : ℕ) (s : Shown) : Type 0 where
  pub at : IsAt es k' place offset
  pub pipe : (pipe_in (body_of es) k') ≡ pipe_behind s reader (pipe_in (body_of es) k)
  pub segment : k'.segment ≡ k.segment

pub turned_at : (es : List Entry) (k k' : Kept) (place offset reader : ℕ) (s : Shown) → IsAt es k place offset → s.cancelled ≡ None → count k' ≡ count k → ((p : Pipe) → Stands k p → Stands k' (pipe_behind s reader p))
    → Turned es k k' place offset reader s
turned_at es k k' place offset reader s is free counted each =
    let body : List ℕ = body_of es in
    let after = each (pipe_in (body_of es) k) is.stands in
    let same = behind_same s.stop s.started s.cancelled s.size reader (pipe_in (body_of es) k) free in
    let q : Pipe = pipe_behind s reader (pipe_in (body_of es) k) in
    let written : take (count k') (body_of es) ≡ (pipe_behind s reader (pipe_in (body_of es) k)).written = ap (λ n. take n (body_of es)) counted ∙ sym same.0 in
    let pipe : (pipe_in (body_of es) k') ≡ pipe_behind s reader (pipe_in (body_of es) k) =
    ap (λ (v : Pipe). let u : Pipe = record { segment = v.segment; limit = v.limit; written = take (count k') (body_of es); readers = v.readers; closed = v.closed } in u) (sym after.2)
    ∙ ap (λ xs. record (pipe_behind s reader (pipe_in (body_of es) k)) { written = xs }) written in
    record {
      at = record {
        stands = subst (λ (v : Pipe). Stands k' v) (sym pipe) after;
        below = is.below;
        before = is.before;
        counted = counted ∙ is.counted;
        within = is.within;
        opens = subst (λ o. IsOpenAt (drop place es) o) (sym (ap (λ (v : Pipe). v.closed) pipe ∙ same.1)) is.opens;
      };
      pipe = pipe;
      segment = ap (λ (v : Pipe). v.segment) pipe ∙ same.2;
    }

pub read_result : (es : List Entry) (k k' kf : Kept) (pumps : List Shown) (place offset reader : ℕ) (s t : Shown) → pump_of pumps reader ≡ Some s → count k' ≡ count k → Turned es k k' place offset reader s → t ≡ turned s (stream_of reader (pipe_in (body_of es) k))
    → piped_with es kf (slice_set pumps (reader - 1) t) ≡ flowed (piped_with es k' (slice_set pumps (reader - 1) t))
    → piped_with es kf (slice_set pumps (reader - 1) t) ≡ read_by (pump_of pumps reader) reader (piped_with es k pumps)
read_result es k k' kf pumps place offset reader s t get counted turned_is shown flows =
    flows
    ∙ ap (λ (p : Pipe). flowed (let w : Piped = record { pipe = p; kept = drop (count k') (body_of es); stop = stop_of es; pumps = slice_set pumps (reader - 1) t } in w)) turned_is.pipe
    ∙ ap (λ n. flowed (let w : Piped = record { pipe = pipe_behind s reader (pipe_in (body_of es) k); kept = drop n (body_of es); stop = stop_of es; pumps = slice_set pumps (reader - 1) t } in w)) counted
    ∙ ap (λ u. flowed (let w : Piped = record { pipe = pipe_behind s reader (pipe_in (body_of es) k); kept = drop (count k) (body_of es); stop = stop_of es; pumps = slice_set pumps (reader - 1) u } in w)) shown
    ∙ sym (ap (λ o. read_by o reader (piped_with es k pumps)) get)

-- the size of a segment stays
write_segment : (o : Option Status) (bytes : List ℕ) (p : Pipe) → (written_to o bytes p).segment ≡ p.segment
write_segment None bytes p = refl
write_segment (Some s) bytes p = refl

close_segment : (kept : List ℕ) (stop : Option Status) (p : Pipe) → (closed_behind kept stop p).segment ≡ p.segment
close_segment (b ∷ bs) stop p = refl
close_segment [] None p = refl
close_segment [] (Some s) p = refl

pub flow_segment : (w : Piped) → (flowed w).pipe.segment ≡ w.pipe.segment
flow_segment w = close_segment _ w.stop _ ∙ write_segment w.pipe.closed w.kept w.pipe

-- CLONES

first_of_all : (n : ℕ) → 1 ≤ n → numbered (replicate n (reader_at 0)) 1 ≡ Some (reader_at 0)
first_of_all zero some = absurd (omega (arith, some))
first_of_all (suc n) some = refl

abbrev pub pipe_with : ℕ → ℕ → ℕ → Pipe
pipe_with segment limit n = record (new_pipe segment limit) { readers = replicate n (reader_at 0) }

pub cloned_is : (segment limit n : ℕ) → 1 ≤ n → cloned (numbered (replicate n (reader_at 0)) 1) (pipe_with segment limit n) ≡ pipe_with segment limit (n + 1)
cloned_is segment limit n some =
    ap (λ o. cloned o (pipe_with segment limit n)) (first_of_all n some) ∙ ap (λ rs. record (new_pipe segment limit) { readers = rs }) (replicate_more n (reader_at 0))
