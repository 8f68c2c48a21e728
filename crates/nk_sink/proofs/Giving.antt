-- What one read gives is what the stream has next.
use Rattle.std.proofs.Common.{zero, suc, ◌≡◌, ◌≢◌, ◌⊎◌, inl, inr, ℕ, ◌-◌, ◌≤◌, ◌==◌, Bool, true, false, List, [], ◌∷◌, ◌++◌, length, take, drop, min, replicate, Option, Some, None, Result, refl, sym, ap, ◌∙◌, arith, if◌then◌else◌}
use Rattle.std.proofs.lemmas.List.{length-take, length-drop, length-replicate, take_at, take_all}
use Rattle.std.proofs.lemmas.Bool.Decides.{nat_tests}
use Rattle.nk_base.specs.declared.status.Status.{Status}
use Rattle.nk_base.specs.Status.{stream_closed}
use Rattle.nk_pipe.specs.declared.answer.Read.{Read}
use Rattle.nk_pipe.specs.declared.answer.Read.TheVariants as read
use Rattle.nk_pipe.specs.declared.answer.NoReader.{NoReader}
use Rattle.nk_pipe.specs.Pipe.{Pipe, Reader, numbered, handed, end_answer, read_answer, read_from}
use Rattle.nk_pipe.specs.Kept.{Kept, Stands, whole}
use Rattle.nk_pump.specs.Stream.{Stream, StreamEnd, Good, Failed}
use Rattle.nk_pump.specs.Shown.{Shown, shown_of, read_turn, turned, turned_by, turn_answer, answer_by}
use Rattle.nk_sink.specs.Listener.{end_of, stream_at, stream_of, pipe_by, pipe_behind}
use Rattle.nk_sink.specs.Given.{end_behind, bytes_in, answered, IsGiven, ReadsNone}

-- each pipe stands for some model
pub some_model : (k : Kept) → (p : Pipe) × Stands k p
some_model k = (whole (replicate k.past 0) k, (replicate k.past 0, length-replicate k.past 0, refl))

end_by : (s : Status) (b : Bool) → end_behind (if b then read.End else read.Failed s) ≡ (if b then Good else Failed s)
end_by s true = refl
end_by s false = refl

end_is : (closed : Option Status) → end_behind (end_answer closed) ≡ end_of closed
end_is None = refl
end_is (Some s) = end_by s (s.0 == stream_closed.0)

none_by : (s : Status) (b : Bool) → bytes_in (if b then read.End else read.Failed s) ≡ 0
none_by s true = refl
none_by s false = refl

none_in : (closed : Option Status) → bytes_in (end_answer closed) ≡ 0
none_in None = refl
none_in (Some s) = none_by s (s.0 == stream_closed.0)

nothing : (n : ℕ) (xs : List ℕ) → length xs ≡ 0 → xs ≡ take n (let ys : List ℕ = [] in ys)
nothing n [] is = sym (take_all n (let ys : List ℕ = [] in ys) (omega arith))
nothing n (x ∷ xs) is = absurd (omega (arith, is))

empty : (xs : List ℕ) → length xs ≡ 0 → xs ≡ []
empty [] is = refl
empty (x ∷ xs) is = absurd (omega (arith, is))

-- an open reader
open_by : (size position : ℕ) (written rest : List ℕ) (closed : Option Status) (b : Bool) → ((length written - position) == 0) ≡ b
    → IsGiven size (record { left = drop position written; end = end_of closed; closed = false }) (take (bytes_in (if b then end_answer closed else read.Read (min (length written - position) size))) (take size (drop position written) ++ rest)) (end_behind (if b then end_answer closed else read.Read (min (length written - position) size)))
open_by size position written rest closed true is =
    let zero : length (drop position written) ≡ 0 = grind (arith, nat_tests, is, length-drop position written) in
    let none : drop position written ≡ [] = empty (drop position written) zero in
    rw (none_in closed) record { bytes_are = sym (ap (λ xs. take size xs) none ∙ take_all size (let ys : List ℕ = [] in ys) (omega arith)); end_is = λ _. end_is closed }
open_by size position written rest closed false is =
    let some : length (drop position written) ≡ 0 → ⊥ = λ h. absurd (grind (arith, nat_tests, is, h, length-drop position written)) in
    let long : length (take size (drop position written)) ≡ min (length written - position) size = omega (arith, length-take size (drop position written), length-drop position written) in
    record {
      bytes_are = take_at (take size (drop position written)) rest _ long;
      end_is = λ e. absurd (some (ap (λ (xs : List ℕ). length xs) e));
    }

reader_by : (size id start position : ℕ) (o : Option Status) (rest : List ℕ) (p : Pipe)
    → IsGiven size (stream_at (Some (record { start = start; position = position; closed = o })) p) (take (bytes_in (answered (read_answer (Some (record { start = start; position = position; closed = o })) id size p))) (handed (Some (record { start = start; position = position; closed = o })) size p.written ++ rest)) (end_behind (answered (read_answer (Some (record { start = start; position = position; closed = o })) id size p)))
reader_by size id start position (Some s) rest p =
    record { bytes_are = sym (take_all size (let ys : List ℕ = [] in ys) (omega arith)); end_is = λ _. refl }
reader_by size id start position None rest p =
    open_by size position p.written rest p.closed ((length p.written - position) == 0) refl

given_at : (size id : ℕ) (o : Option Reader) (rest : List ℕ) (p : Pipe) → IsGiven size (stream_at o p) (take (bytes_in (answered (read_answer o id size p))) (handed o size p.written ++ rest)) (end_behind (answered (read_answer o id size p)))
given_at size id None rest p =
    record { bytes_are = sym (take_all size (let ys : List ℕ = [] in ys) (omega arith)); end_is = λ _. refl }
given_at size id (Some r) rest p = reader_by size id r.start r.position r.closed rest p

pub given_is : (size id : ℕ) (p : Pipe) (old new : List ℕ) (result : Result Read NoReader) → result ≡ read_answer (numbered p.readers id) id size p → new ≡ handed (numbered p.readers id) size p.written ++ drop (length (handed (numbered p.readers id) size p.written)) old
    → IsGiven size (stream_of id p) (take (bytes_in (answered result)) new) (end_behind (answered result))
given_is size id p old new result is buffer =
    rw (is, buffer) (given_at size id (numbered p.readers id) (drop (length (handed (numbered p.readers id) size p.written)) old) p)

-- so many bytes are in the buffer
few_by : (n : ℕ) (written position size : ℕ) (closed : Option Status) (b : Bool) → bytes_in (if b then end_answer closed else read.Read (min (written - position) size)) ≤ size
few_by n written position size closed true = omega (arith, none_in closed)
few_by n written position size closed false = omega arith

few_at : (size id start position : ℕ) (o : Option Status) (p : Pipe) → bytes_in (answered (read_answer (Some (record { start = start; position = position; closed = o })) id size p)) ≤ size
few_at size id start position (Some s) p = omega arith
few_at size id start position None p =
    few_by 0 (length p.written) position size p.closed ((length p.written - position) == 0)

few_of : (size id : ℕ) (o : Option Reader) (p : Pipe) → bytes_in (answered (read_answer o id size p)) ≤ size
few_of size id None p = omega arith
few_of size id (Some r) p = few_at size id r.start r.position r.closed p

pub few_in : (size id : ℕ) (k : Kept) (result : Result Read NoReader) → ((p : Pipe) → Stands k p → result ≡ read_answer (numbered p.readers id) id size p) → bytes_in (answered result) ≤ size
few_in size id k result each =
    let m = some_model k in
    let is = each m.0 m.1 in
    rw is (few_of size id (numbered m.0.readers id) m.0)

-- a pump that reads shows of what it is given what it shows of the stream
some_by : (s : Shown) (from : Stream) (b : ℕ) (bs bytes : List ℕ) (end : StreamEnd) (n : ℕ) → s.size ≡ n → 1 ≤ s.size → bytes ≡ take s.size (b ∷ bs) → (shown_of bytes end s ≡ shown_of (b ∷ bs) from.end s) × (read_turn bytes end ≡ read_turn (b ∷ bs) from.end)
some_by s from b bs bytes end zero is least gives = absurd (omega (arith, is, least))
some_by s from b bs bytes end (suc n) is least gives =
    let some : bytes ≡ b ∷ take n bs = gives ∙ ap (λ m. take m (b ∷ bs)) is in
    let again : take s.size (b ∷ take n bs) ≡ take s.size (b ∷ bs) = ap (λ m. take m (b ∷ take n bs)) is ∙ ap (λ xs. b ∷ xs) (take_all n (take n bs) (omega (arith, length-take n bs))) ∙ sym (ap (λ m. take m (b ∷ bs)) is) in
    (rw some (ap (λ xs. record s { bytes = s.bytes ++ xs }) again), rw some refl)

shows_by : (s : Shown) (from : Stream) (left bytes : List ℕ) (end : StreamEnd) (size : ℕ) → from.left ≡ left → 1 ≤ s.size → bytes ≡ take s.size left → (left ≡ [] → end ≡ from.end) → (shown_of bytes end s ≡ shown_of left from.end s) × (read_turn bytes end ≡ read_turn left from.end)
shows_by s from [] bytes end size is least gives ends =
    let none : bytes ≡ [] = gives ∙ take_all s.size (let ys : List ℕ = [] in ys) (omega arith) in
    (rw (none, ends refl) refl, rw (none, ends refl) refl)
shows_by s from (b ∷ bs) bytes end size is least gives ends = some_by s from b bs bytes end s.size refl least gives

turned_reads : (s : Shown) (from : Stream) → s.stop ≡ None → s.started ≡ true → s.cancelled ≡ None → turned s from ≡ shown_of from.left from.end s
turned_reads s from stop started free =
    ap (λ o. turned_by o s.started s.cancelled s from) stop ∙ ap (λ b. turned_by None b s.cancelled s from) started ∙ ap (λ o. turned_by None true o s from) free

answer_reads : (s : Shown) (from : Stream) → s.stop ≡ None → s.started ≡ true → s.cancelled ≡ None → turn_answer s from ≡ read_turn from.left from.end
answer_reads s from stop started free =
    ap (λ o. answer_by o s.started s.cancelled from) stop ∙ ap (λ b. answer_by None b s.cancelled from) started ∙ ap (λ o. answer_by None true o from) free

pub given_turn : (s : Shown) (from : Stream) (bytes : List ℕ) (end : StreamEnd) (closed : Bool) → s.stop ≡ None → s.started ≡ true → s.cancelled ≡ None → 1 ≤ s.size → IsGiven s.size from bytes end
    → (turned s (record { left = bytes; end = end; closed = closed }) ≡ turned s from) × (turn_answer s (record { left = bytes; end = end; closed = closed }) ≡ turn_answer s from)
given_turn s from bytes end closed stop started free least given =
    let both = shows_by s from from.left bytes end 0 refl least given.bytes_are given.end_is in (
      turned_reads s (record { left = bytes; end = end; closed = closed }) stop started free ∙ both.0 ∙ sym (turned_reads s from stop started free),
      answer_reads s (record { left = bytes; end = end; closed = closed }) stop started free ∙ both.1 ∙ sym (answer_reads s from stop started free),
    )

pub behind_read : (s : Shown) (reader : ℕ) (p : Pipe) → s.stop ≡ None → s.started ≡ true → s.cancelled ≡ None → pipe_behind s reader p ≡ read_from (numbered p.readers reader) reader s.size p
behind_read s reader p stop started free =
    ap (λ o. pipe_by o s.started s.cancelled s.size reader p) stop ∙ ap (λ b. pipe_by None b s.cancelled s.size reader p) started ∙ ap (λ o. pipe_by None true o s.size reader p) free

-- a pump that reads nothing leaves the pipe, and does the same over every stream
alone_by : (s : Shown) (from other : Stream) (reader : ℕ) (p : Pipe) (stop : Option Status) (started : Bool) (cancelled : Option Status) → (stop ≢ None) ⊎ ((stop ≡ None) × (started ≡ false))
    → (turned_by stop started cancelled s from ≡ turned_by stop started cancelled s other) × (answer_by stop started cancelled from ≡ answer_by stop started cancelled other) × (pipe_by stop started cancelled s.size reader p ≡ p)
alone_by s from other reader p (Some t) started cancelled none = (refl, refl, refl)
alone_by s from other reader p None false cancelled none = (refl, refl, refl)
alone_by s from other reader p None true cancelled (inl some) = absurd (some refl)
alone_by s from other reader p None true cancelled (inr is) = absurd (cc (is.1))

pub alone : (s : Shown) (from other : Stream) (reader : ℕ) (p : Pipe) → ReadsNone s → (turned s from ≡ turned s other) × (turn_answer s from ≡ turn_answer s other) × (pipe_behind s reader p ≡ p)
alone s from other reader p none = alone_by s from other reader p s.stop s.started s.cancelled none
