-- Worked rows: what listeners come to. Each row is a computation.
use Rattle.std.proofs.Common.{◌≡◌, ℕ, zero, suc, false, List, [], ◌∷◌, ◌++◌, length, replicate, Option, Some, None, refl}
use Rattle.nk_base.specs.declared.status.Status.{Status}
use Rattle.nk_base.specs.declared.message.Entry.{Entry}
use Rattle.nk_base.specs.declared.message.Entry.TheVariants as entry
use Rattle.nk_base.specs.Status.{ok}
use Rattle.nk_plan.specs.declared.plan.ListenerKind.TheVariants as kind
use Rattle.nk_plan.specs.declared.ends.ReaderEnd.{ReaderEnd}
use Rattle.nk_sink.specs.Listener.{Piped, Listener, new_listener, entered_all, read_turn, read_enabled, ends_of, reads_left}

abbrev body : List ℕ
body = replicate 20 0x61

abbrev aborted : Status
aborted = record { 0 = 0x804b0002 }

abbrev whole : List Entry
whole = entry.Start 200 ok ∷ entry.Bytes 0 body ∷ entry.Stop ok [] ∷ []

-- so many reads of this reader
abbrev reads : ℕ → ℕ → Listener → Listener
reads reader zero l = l
reads reader (suc n) l = reads reader n (read_turn reader l)

abbrev kept_of : Option Piped → ℕ
kept_of None = 0
kept_of (Some w) = length w.kept

abbrev end_of : Status → ReaderEnd
end_of s = record { bytes = body; status = Some s }

abbrev two : Listener
two = entered_all whole (new_listener (kind.Pipe 4 2 2))

-- two readers of a pipe that takes 8 of the 20 bytes at first: each gets all of them, in four-byte reads
two_readers_keep : kept_of two.piped ≡ 12
two_readers_keep = refl

two_readers_have_all : ends_of (reads 2 7 (reads 1 7 two)) ≡ end_of ok ∷ end_of ok ∷ []
two_readers_have_all = refl

two_readers_are_drained : read_enabled 1 (reads 2 7 (reads 1 7 two)) ≡ false
two_readers_are_drained = refl

-- the second reader alone may drain the pipe: what the first has not read stands for it
second_goes_first : ends_of (reads 1 7 (reads 2 7 two)) ≡ end_of ok ∷ end_of ok ∷ []
second_goes_first = refl

-- what is left: 2 starts, 40 bytes and 2 stops
left_of_two : reads_left two ≡ 44
left_of_two = refl

-- no reader 3, and none of a plain listener
no_third : read_enabled 3 two ≡ false
no_third = refl

plain_reads_none : read_enabled 1 (entered_all whole (new_listener kind.Plain)) ≡ false
plain_reads_none = refl

plain_keeps_all : (entered_all whole (new_listener kind.Plain)).entries ≡ whole
plain_keeps_all = refl

-- behind a stop nothing goes into the pipe
behind_a_stop : ends_of (reads 1 7 (entered_all (whole ++ entry.Bytes 20 body ∷ entry.Stop aborted [] ∷ []) (new_listener (kind.Pipe 4 2 1)))) ≡ end_of ok ∷ []
behind_a_stop = refl

-- a failure is the reader's status once all that was shown before it was read
failing_body : ends_of (reads 1 7 (entered_all (entry.Start 200 ok ∷ entry.Bytes 0 body ∷ entry.Stop aborted [] ∷ []) (new_listener (kind.Pipe 4 1 1)))) ≡ end_of aborted ∷ []
failing_body = refl
