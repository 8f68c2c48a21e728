use Rattle.std.proofs.Common.{◌≡◌, ◌≢◌, ◌≤◌, ◌<◌, ◌+◌, ◌*◌, ℕ, sym, ap, subst, ◌∙◌, List, [], ◌∷◌, length, map, drop, get_or, sum_by, All, Result, Ok, Err, IfOk, Vec, Global, arith}
use Rattle.std.specs.List.{AllZip}
use Rattle.std.proofs.lemmas.List.{drop_more, length-append, length-replicate}
use Rattle.std.proofs.lemmas.List.Elements.{All-nil, All-cons, All-head, All-tail, All-replicate}
use Rattle.std.proofs.lemmas.List.Sums.{sum_by-cons}
use Rattle.nk_base.specs.declared.message.Entry.{Entry}
use Rattle.nk_base.specs.declared.message.Entry.TheVariants as entry
use Rattle.nk_plan.specs.declared.plan.ChannelPlan.{ChannelPlan}
use Rattle.nk_plan.specs.declared.plan.ListenerKind.{ListenerKind}
use Rattle.nk_plan.specs.declared.plan.ListenerKind.TheVariants as listener
use Rattle.nk_plan.specs.declared.ends.ChannelEnd.{ChannelEnd}
use Rattle.nk_plan.specs.declared.ends.ReaderEnd.{ReaderEnd}
use Rattle.nk_plan.specs.declared.ends.Ending.TheVariants as ending
use Rattle.nk_plan.specs.Accepted.{Accepted, IsGoodListener, body_size}
use Rattle.nk_script.specs.declared.script.Script.{Script}
use Rattle.nk_script.specs.declared.script.ScheduleItem.{ScheduleItem}
use Rattle.nk_script.specs.Answers.{IsPlayable}
use Rattle.nk_script.specs.Grammar.{IsTextOf}
use Rattle.nk_plan.specs.Readers.{body_of, readers_of, whole_end}
use Rattle.nk_gen.specs.Summing.{size_of, bytes_in, AreSumsSmall}
use Rattle.nk_gen_law.specs.Laws.{Fits, SumsLaw}
use Rattle.nk_world.specs.Play.{Play, IsQuiet}
use Rattle.nk_world.specs.World.{plan_of, world_step}
use Rattle.nk_world.specs.End.{IsEnd}
use Rattle.nk_run.specs.Ends.{scheduled, AreEndsOf, AreEnds, IsBounded, IsPlayed, IsOutput}

-- THE SCHEDULE

-- the next step of a schedule leads where all that are left lead
pub scheduled_next : (items : List ScheduleItem) (i : ℕ) (d : ScheduleItem) (ps : List Play) → i < length items
    → scheduled (drop (i + 1) items) (world_step (get_or items i d).channel (get_or items i d).step ps) ≡ scheduled (drop i items) ps
scheduled_next items i d ps within = ap (λ (xs : List ScheduleItem). scheduled xs ps) (sym (drop_more items i d within))

-- THE ENDS

pub promised_are : {E : Type 0} (r : Result (List ChannelEnd) E) (plans : List ChannelPlan) (drained : List Play) → All IsQuiet drained → map plan_of drained ≡ plans
    → IfOk r (λ ends. All IsQuiet drained → AreEnds (map plan_of drained) ends) → IfOk r (λ ends. AreEnds plans ends)
promised_are (Ok ends) plans drained q same h = subst (λ (cs : List ChannelPlan). AreEnds cs ends) same (h q)
promised_are (Err x) plans drained q same h = tt

-- no channel is still going
pub none_going : (plans : List ChannelPlan) (ends : List ChannelEnd) → AreEnds plans ends → All (λ (e : ChannelEnd). e.ending ≢ ending.Going) ends
none_going [] [] h = All-nil (λ (x : ChannelEnd). x.ending ≢ ending.Going)
none_going [] (e ∷ ends) h = absurd h
none_going (c ∷ plans) [] h = absurd h
none_going (c ∷ plans) (e ∷ ends) (here, rest) = All-cons (λ (x : ChannelEnd). x.ending ≢ ending.Going) e ends here.over (none_going plans ends rest)

-- THE BOUNDS

-- what is not a pipe has no readers
few_read : (k : ListenerKind) (size : ℕ) → IsGoodListener k size → readers_of k * size ≤ 134217728
few_read listener.Plain size h = omega arith
few_read (listener.Pipe segment limit readers) size h = h.bytes_read

bounded : (c : ChannelPlan) (e : ChannelEnd) → Accepted c → IsEnd c e → IsBounded c e
bounded c e a h = record { body = a.few_bytes; pieces = a.few_pieces; read = few_read c.listener (body_size c) a.listener; shown = h.bounded }

pub all_bounded : (plans : List ChannelPlan) (ends : List ChannelEnd) → All Accepted plans → AreEnds plans ends → AllZip IsBounded plans ends
all_bounded [] [] a h = tt
all_bounded [] (e ∷ ends) a h = absurd h
all_bounded (c ∷ plans) [] a h = absurd h
all_bounded (c ∷ plans) (e ∷ ends) a (here, rest) =
    (bounded c e (All-head Accepted c plans a) here, all_bounded plans ends (All-tail Accepted c plans a) rest)

-- THE SUMS

few_readers : (k : ListenerKind) (size : ℕ) → IsGoodListener k size → readers_of k ≤ 8
few_readers listener.Plain size h = omega arith
few_readers (listener.Pipe segment limit readers) size h = h.readers_most

-- the bytes before the first stop are some of all
body_small : (t : List Entry) → length (body_of t) ≤ sum_by size_of t
body_small [] = omega arith
body_small (entry.Start code s ∷ t) = omega (arith, sum_by-cons size_of (entry.Start code s) t, body_small t)
body_small (entry.Bytes offset piece ∷ t) =
    omega (arith, sum_by-cons size_of (entry.Bytes offset piece) t, length-append piece (body_of t), body_small t)
body_small (entry.Stop s trailers ∷ t) = omega arith

fits : (c : ChannelPlan) (e : ChannelEnd) → Accepted c → IsEnd c e → Fits c e
fits c e a h =
    let many : length e.readers ≡ readers_of c.listener = ap length h.readers ∙ length-replicate (readers_of c.listener) (whole_end e.trace) in
    record {
      sequential = h.sequential;
      few_readers = omega (arith, many, few_readers c.listener (body_size c) a.listener);
      readers = subst (All (λ (reader : ReaderEnd). length reader.bytes ≤ bytes_in e)) (sym h.readers)
          (All-replicate (λ (reader : ReaderEnd). length reader.bytes ≤ bytes_in e) (readers_of c.listener) (whole_end e.trace) (body_small e.trace));
    }

each_fits : (plans : List ChannelPlan) (ends : List ChannelEnd) → All Accepted plans → AreEnds plans ends → AllZip Fits plans ends
each_fits [] [] a h = tt
each_fits [] (e ∷ ends) a h = absurd h
each_fits (c ∷ plans) [] a h = absurd h
each_fits (c ∷ plans) (e ∷ ends) a (here, rest) =
    (fits c e (All-head Accepted c plans a) here, each_fits plans ends (All-tail Accepted c plans a) rest)

-- the sums over the ends can be counted
pub sums_small : SumsLaw → (plans : List ChannelPlan) (ends : List ChannelEnd) → length plans ≤ 1024 → All Accepted plans → AreEnds plans ends → AreSumsSmall ends
sums_small law plans ends few a h = law plans ends few a (each_fits plans ends a h)

-- WHAT IS PRINTED

pub played : (text : List ℕ) (script : Script) (ends : List ChannelEnd) → IsTextOf script text → IsPlayable script → AreEndsOf script ends → AreEnds script.plans ends → IsPlayed AreEndsOf text script ends
played text script ends is playable came promised =
    record { read = is; played = came; promised = promised; bounded = all_bounded script.plans ends playable.plans promised }

pub printed : {E : Type 0} (print : List ChannelEnd → List ℕ) (text : List ℕ) (script : Script) (ends : List ChannelEnd) (r : Result (Vec ℕ Global) E)
    → IsPlayed AreEndsOf text script ends → IfOk r (λ t. t.items ≡ print ends) → IfOk r (λ t. IsOutput AreEndsOf print text t.items)
printed print text script ends (Ok t) h is = (script, ends, h, is)
printed print text script ends (Err e) h is = tt
