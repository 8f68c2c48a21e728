-- The laws over every listener that entries and reads come to.
use Rattle.std.proofs.Common.{◌≡◌, ℕ, ◌<◌, ◌≤◌, true, false, List, [], ◌∷◌, ◌++◌, length, replicate, zero, suc, Option, Some, None, refl, ap, ◌∙◌, arith}
use Rattle.std.specs.Prelude.{slice_set}
use Rattle.std.proofs.lemmas.List.{length-replicate}
use Rattle.nk_base.specs.declared.status.Status.{Status}
use Rattle.nk_base.specs.declared.message.Entry.{Entry}
use Rattle.nk_base.specs.declared.message.Entry.TheVariants as entry
use Rattle.nk_plan.specs.declared.plan.ListenerKind.{ListenerKind}
use Rattle.nk_plan.specs.declared.plan.ListenerKind.TheVariants as kind
use Rattle.nk_plan.specs.declared.ends.ReaderEnd.{ReaderEnd}
use Rattle.nk_pipe.specs.Pipe.{Pipe, room}
use Rattle.nk_pump.specs.Shown.{Shown, nothing_shown}
use Rattle.nk_sink.specs.Listener.{Piped, piped_of, fed, if_piped, pump_of, read_by, piped_enabled, ends_at, left_at}
use Rattle.nk_plan.specs.Readers.{body_of, stop_of, status_behind, readers_of}
use Rattle.nk_sink.specs.Reached.{IsGoodKind, ListenerStep, Enter, Turn, listener_after, OfPiped, KeepsAll, KeptLaw, LowersLaw, IdleLaw, ReadersLaw}
use Rattle.nk_sink.specs.Held.{IsFull}
use Rattle.nk_sink.specs.Sunk.{IsPipedIn}
use Rattle.nk_sink.proofs.Flowing.{new_is}
use Rattle.nk_sink.proofs.Feeding.{fed_is}
use Rattle.nk_sink.proofs.Turning.{read_is}
use Rattle.nk_sink.proofs.Lowering.{read_idle, read_lowers}
use Rattle.nk_sink.proofs.Draining.{drained_is}

-- WHAT HOLDS AFTER EACH STEP

new_in : (k : ListenerKind) → IsGoodKind k → IsPipedIn [] (piped_of k)
new_in kind.Plain good = tt
new_in (kind.Pipe segment limit readers) good =
    new_is segment limit readers (omega (arith, good.segment_least)) good.limit_least good.readers_least

enter_in : (es : List Entry) (e : Entry) (o : Option Piped) → IsPipedIn es o → IsPipedIn (es ++ e ∷ []) (if_piped (λ w. fed w.stop e w) o)
enter_in es e None is = tt
enter_in es e (Some w) is = fed_is es e w is

turn_in : (es : List Entry) (reader : ℕ) (o : Option Piped) → IsPipedIn es o → IsPipedIn es (if_piped (λ w. read_by (pump_of w.pumps reader) reader w) o)
turn_in es reader None is = tt
turn_in es reader (Some w) is = read_is (body_of es) (stop_of es) w reader is

pub piped_in : (k : ListenerKind) (xs : List ListenerStep) → IsGoodKind k → IsPipedIn (listener_after k xs).entries (listener_after k xs).piped
piped_in k [] good = new_in k good
piped_in k (Enter e ∷ xs) good =
    enter_in (listener_after k xs).entries e (listener_after k xs).piped (piped_in k xs good)
piped_in k (Turn reader ∷ xs) good =
    turn_in (listener_after k xs).entries reader (listener_after k xs).piped (piped_in k xs good)

-- HOW MANY PUMPS THERE ARE

abbrev pub CountIs : ℕ → Option Piped → Type 0
CountIs n None = n ≡ 0
CountIs n (Some w) = length w.pumps ≡ n

new_count : (k : ListenerKind) → CountIs (readers_of k) (piped_of k)
new_count kind.Plain = refl
new_count (kind.Pipe segment limit readers) = length-replicate readers (nothing_shown segment)

fed_pumps : (o : Option Status) (e : Entry) (w : Piped) → (fed o e w).pumps ≡ w.pumps
fed_pumps (Some s) e w = refl
fed_pumps None (entry.Start code status) w = refl
fed_pumps None (entry.Bytes offset piece) w = refl
fed_pumps None (entry.Stop status trailers) w = refl

enter_count : (n : ℕ) (e : Entry) (o : Option Piped) → CountIs n o → CountIs n (if_piped (λ w. fed w.stop e w) o)
enter_count n e None is = is
enter_count n e (Some w) is = ap (λ (ss : List Shown). length ss) (fed_pumps w.stop e w) ∙ is

length_set : (ss : List Shown) (i : ℕ) (s : Shown) → length (slice_set ss i s) ≡ length ss
length_set [] i s = refl
length_set (t ∷ ss) zero s = refl
length_set (t ∷ ss) (suc i) s = omega (arith, length_set ss i s)

read_count : (n reader : ℕ) (p : Option Shown) (w : Piped) → length w.pumps ≡ n → length (read_by p reader w).pumps ≡ n
read_count n reader None w is = is
read_count n reader (Some s) w is = length_set w.pumps _ _ ∙ is

turn_count : (n reader : ℕ) (o : Option Piped) → CountIs n o → CountIs n (if_piped (λ w. read_by (pump_of w.pumps reader) reader w) o)
turn_count n reader None is = is
turn_count n reader (Some w) is = read_count n reader (pump_of w.pumps reader) w is

pub counted : (k : ListenerKind) (xs : List ListenerStep) → CountIs (readers_of k) (listener_after k xs).piped
counted k [] = new_count k
counted k (Enter e ∷ xs) = enter_count (readers_of k) e (listener_after k xs).piped (counted k xs)
counted k (Turn reader ∷ xs) = turn_count (readers_of k) reader (listener_after k xs).piped (counted k xs)

-- THE LAWS

full_by : (kept : List ℕ) (p : Pipe) → IsFull kept p → 0 < length kept → room p ≡ 0
full_by [] p is some = absurd (omega (arith, some))
full_by (b ∷ bs) p is some = is

kept_by : (es : List Entry) (o : Option Piped) → IsPipedIn es o → OfPiped (KeepsAll es) o
kept_by es None is = tt
kept_by es (Some w) is = record { all = is.poured.all; full = full_by w.kept w.pipe is.full }

pub kept_law : KeptLaw
kept_law k xs good = kept_by (listener_after k xs).entries (listener_after k xs).piped (piped_in k xs good)

lowers_by : (es : List Entry) (reader : ℕ) (o : Option Piped) → IsPipedIn es o → piped_enabled reader o ≡ true → left_at (if_piped (λ w. read_by (pump_of w.pumps reader) reader w) o) < left_at o
lowers_by es reader None is done = absurd (cc (done))
lowers_by es reader (Some w) is done = read_lowers (body_of es) (stop_of es) w reader is done

pub lowers_law : LowersLaw
lowers_law k xs reader good done =
    lowers_by (listener_after k xs).entries reader (listener_after k xs).piped (piped_in k xs good) done

pub idle_by : (es : List Entry) (reader : ℕ) (o : Option Piped) → IsPipedIn es o → piped_enabled reader o ≡ false → if_piped (λ w. read_by (pump_of w.pumps reader) reader w) o ≡ o
idle_by es reader None is idle = refl
idle_by es reader (Some w) is idle =
    ap (λ (v : Piped). Some v) (read_idle (body_of es) (stop_of es) w reader is idle)

pub idle_law : IdleLaw
idle_law k xs reader good idle =
    ap (λ (o : Option Piped). record (listener_after k xs) { piped = o }) (idle_by (listener_after k xs).entries reader (listener_after k xs).piped (piped_in k xs good) idle)

few_readers : (k : ListenerKind) → IsGoodKind k → readers_of k ≤ 8
few_readers kind.Plain good = omega arith
few_readers (kind.Pipe segment limit readers) good = good.readers_most

ends_by_kind : (n : ℕ) (es : List Entry) (o : Option Piped) → n ≤ 8 → CountIs n o → IsPipedIn es o → ((reader : ℕ) → 1 ≤ reader → reader ≤ 8 → piped_enabled reader o ≡ false)
    → ends_at o ≡ replicate n (record { bytes = body_of es; status = status_behind (stop_of es) })
ends_by_kind n es None few count is idle = rw count refl
ends_by_kind n es (Some w) few count is idle =
    drained_is (body_of es) (stop_of es) w is (omega (arith, count, few)) idle
    ∙ ap (λ m. replicate m (let end : ReaderEnd = record { bytes = body_of es; status = status_behind (stop_of es) } in end)) count

pub readers_law : ReadersLaw
readers_law k xs good idle =
    ends_by_kind (readers_of k) (listener_after k xs).entries (listener_after k xs).piped (few_readers k good) (counted k xs) (piped_in k xs good) idle
