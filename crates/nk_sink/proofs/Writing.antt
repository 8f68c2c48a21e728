-- What a write answers, and what it leaves.
use Rattle.std.proofs.Common.{◌≡◌, ◌⊎◌, inl, inr, ℕ, ◌==◌, ◌&&◌, Bool, true, false, List, length, min, None, Result, Ok, Err, refl, sym, ap, ◌∙◌, arith, if◌then◌else◌}
use Rattle.std.specs.Prelude.{nat_lt, IfOk, OnOk}
use Rattle.std.proofs.lemmas.Bool.Decides.{nat_tests}
use Rattle.nk_base.specs.declared.status.Status.{Status}
use Rattle.nk_base.specs.declared.status.Memory.{Memory}
use Rattle.nk_pipe.specs.declared.answer.Write.{Write}
use Rattle.nk_pipe.specs.declared.answer.Write.TheVariants as write
use Rattle.nk_pipe.specs.Pipe.{Pipe, room_for, write_count, write_answer, written_to}
use Rattle.nk_pipe.specs.Kept.{Kept, Stands}
use Rattle.nk_sink.specs.Fed.{room_in, HasPassed}
use Rattle.nk_sink.proofs.Giving.{some_model}
use Rattle.nk_sink.proofs.Pouring.{stands_count}

count_is : (k : Kept) (p : Pipe) (bytes : List ℕ) → Stands k p → write_count p bytes ≡ min (room_in k) (length bytes)
count_is k p bytes stands =
    ap (λ (q : Pipe). min (room_for q.segment q.limit q.readers (length p.written)) (length bytes)) stands.2 ∙ ap (λ n. min (room_for k.segment k.limit k.readers n) (length bytes)) (stands_count k p stands)

wrote_by : (n c : ℕ) (b : Bool) → write.Wrote n ≡ (if b then write.WouldBlock else write.Wrote c) → n ≡ c
wrote_by n c true is = absurd (cc (is))
wrote_by n c false is = cc (is)

blocked_by : (c : ℕ) (a b : Bool) → (c == 0) ≡ a → write.WouldBlock ≡ (if a && b then write.WouldBlock else write.Wrote c) → 0 ≡ c
blocked_by c true true zero is = grind (arith, nat_tests, zero)
blocked_by c true false zero is = absurd (cc (is))
blocked_by c false b zero is = absurd (cc (is))

pub wrote_is : (k : Kept) (bytes : List ℕ) (n : ℕ) → k.closed ≡ None → ((p : Pipe) → Stands k p → write.Wrote n ≡ write_answer p.closed (write_count p bytes) (length bytes)) → n ≡ min (room_in k) (length bytes)
wrote_is k bytes n opens each =
    let m = some_model k in
    let is = each m.0 m.1 ∙ ap (λ (q : Pipe). write_answer q.closed (write_count m.0 bytes) (length bytes)) m.1.2 ∙ ap (λ o. write_answer o (write_count m.0 bytes) (length bytes)) opens in
    wrote_by n (write_count m.0 bytes) ((write_count m.0 bytes == 0) && nat_lt 0 (length bytes)) is ∙ count_is k m.0 bytes m.1

refused_by : (w : Write) (c : ℕ) (a b : Bool) → (c == 0) ≡ a → (w ≡ write.WouldBlock) ⊎ ((s : Status) × (w ≡ write.Closed s)) → w ≡ (if a && b then write.WouldBlock else write.Wrote c) → 0 ≡ c
refused_by w c a b zero (inl blocks) is = blocked_by c a b zero (sym blocks ∙ is)
refused_by w c true true zero (inr closes) is = absurd (cc (closes.1, is))
refused_by w c true false zero (inr closes) is = absurd (cc (closes.1, is))
refused_by w c false b zero (inr closes) is = absurd (cc (closes.1, is))

pub refused_is : (k : Kept) (bytes : List ℕ) (w : Write) → k.closed ≡ None → (w ≡ write.WouldBlock) ⊎ ((s : Status) × (w ≡ write.Closed s)) → ((p : Pipe) → Stands k p → w ≡ write_answer p.closed (write_count p bytes) (length bytes)) → 0 ≡ min (room_in k) (length bytes)
refused_is k bytes w opens refused each =
    let m = some_model k in
    let is = each m.0 m.1 ∙ ap (λ (q : Pipe). write_answer q.closed (write_count m.0 bytes) (length bytes)) m.1.2 ∙ ap (λ o. write_answer o (write_count m.0 bytes) (length bytes)) opens in
    refused_by w (write_count m.0 bytes) (write_count m.0 bytes == 0) (nat_lt 0 (length bytes)) refl refused is ∙ count_is k m.0 bytes m.1

pub passes_bytes : (r : Result Bool Memory) (k k' : Kept) (o o' : ℕ) (bytes : List ℕ) → ((p : Pipe) → Stands k p → OnOk r (Stands k' (written_to p.closed bytes p))) → IfOk r (λ all. HasPassed all k o o' bytes)
    → IfOk r (λ all. ((p : Pipe) → Stands k p → Stands k' (written_to p.closed bytes p)) × HasPassed all k o o' bytes)
passes_bytes (Ok all) k k' o o' bytes wrote passed = (wrote, passed)
passes_bytes (Err e) k k' o o' bytes wrote passed = tt
