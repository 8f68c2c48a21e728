use Rattle.std.proofs.Common.{◌≡◌, ◌≢◌, ◌≤◌, ◌<◌, ◌+◌, ◌++◌, ◌⊎◌, ℕ, List, [], length, Option, Some, None, ◌∙◌, refl, sym, ap, subst, append-nil, arith, inl, inr}
use Rattle.std.proofs.lemmas.List.{length-append}
use Rattle.nk_io.specs.Faults.{Rose, Quiet, one_more}
use Rattle.nk_io.specs.Given.{GivesAll, GivesCount, GivesAtMost, Exceeds}
use Rattle.nk_io.specs.Got.{Gains, GainsPart}
use Rattle.nk_script.specs.declared.script.Cause.{Cause}
use Rattle.nk_wire.specs.declared.error.FrameError.{FrameError}
use Rattle.nk_run.specs.declared.failure.Failure.{Failure}
use Rattle.nk_run.specs.declared.failure.Failure.TheVariants as failure
use Rattle.nk_run.specs.Failures.{line_of, bad_line, TellsAny}
use Rattle.nk_run.specs.Frames.{AreAllFrames, AreNoFrames, AreLines, bad_frame}
use Rattle.nk_run.specs.Listing.{RefusesFrames, IsBadInput, FramesFail, FramesRun}
use Rattle.nk_run.specs.Making.{IsSummary, GenRun}
use Rattle.nk_run.specs.Playing.{Refuses, IsBadAt, Fails, ScriptRun}
use Rattle.nk_run.specs.Reading.{IsUnread}
use Rattle.nk_run.specs.Runs.{Outcome, IsRun, Tells, IsInput, IsRead, IsScript, IsNoScript, most_input, too_large, told_of}
use Rattle.nk_run.specs.Taking.{TakesAll, Takes}

-- WHAT WAS READ

-- of the bytes that were given, what is known of them
pub read_bytes : (left left' : Option (List ℕ)) (bytes : List ℕ) (P : List ℕ → Type 0) → GivesAll left left' bytes → length bytes ≤ most_input → P bytes → IsRead left left' P
read_bytes None left' bytes P gives few h = tt
read_bytes (Some all) left' bytes P gives few h = (gives.1, subst (λ (b : List ℕ). length b ≤ most_input) gives.0 few, subst P gives.0 h)

pub read_more : (left left' : Option (List ℕ)) (P Q : List ℕ → Type 0) → IsRead left left' P → ((all : List ℕ) → P all → Q all) → IsRead left left' Q
read_more None left' P Q r more = tt
read_more (Some all) left' P Q r more = (r.0, r.1, more all r.2)

-- what was read whole was taken
all_taken : (left left' : Option (List ℕ)) (P : List ℕ → Type 0) → IsRead left left' P → TakesAll left left'
all_taken None left' P r = tt
all_taken (Some all) left' P r = (r.0, r.1)

most_taken : (left left' : Option (List ℕ)) → TakesAll left left' → GivesAtMost left left' most_input
most_taken None left' t = ([], omega arith, tt)
most_taken (Some all) None t = absurd (cc t.0)
most_taken (Some all) (Some rest) t =
    let none : rest ≡ [] = cc t.0 in
    (all, t.1, sym (ap (λ (l : List ℕ). all ++ l) none ∙ append-nil all))

pub read_most : (left left' : Option (List ℕ)) (P : List ℕ → Type 0) → IsRead left left' P → GivesAtMost left left' most_input
read_most left left' P r = most_taken left left' (all_taken left left' P r)

given_one_more : (left left' : Option (List ℕ)) → GivesAtMost left left' most_input → GivesAtMost left left' (most_input + 1)
given_one_more left left' g = (g.0, omega (arith, g.1), g.2)

given_count : (left left' : Option (List ℕ)) (n : ℕ) → GivesCount left left' n → GivesAtMost left left' n
given_count left left' n g = (g.0, omega (arith, g.1), g.2)

-- an input is one thing
not_both : (left left' : Option (List ℕ)) (P Q : List ℕ → Type 0) → IsRead left left' P → IsInput left Q → ((all : List ℕ) → P all → Q all → ⊥) → ⊥
not_both None left' P Q r i never = i
not_both (Some all) left' P Q r i never = never all r.2 i.1

not_long : (left left' : Option (List ℕ)) (P : List ℕ → Type 0) → IsRead left left' P → Exceeds most_input left → ⊥
not_long None left' P r long = long
not_long (Some all) left' P r long = omega (arith, r.1, long)

not_short : (left left' : Option (List ℕ)) (Q : List ℕ → Type 0) → GivesCount left left' (most_input + 1) → IsInput left Q → ⊥
not_short None left' Q g i = i
not_short (Some all) None Q g i = g.2
not_short (Some all) (Some rest) Q g i =
    let size : length all ≡ length g.0 + length rest = ap length g.2 ∙ length-append g.0 rest in
    omega (arith, size, g.1, i.0)

no_gap : (a b : ℕ) → a ≤ b → b < a → ⊥
no_gap a b le lt = omega (arith, le, lt)

-- what rose was not quiet
not_quiet : (old new : ℕ) → Rose old new → Quiet old new → ⊥
not_quiet old new rose quiet = no_gap (one_more old) new rose quiet

-- WHY THERE IS NO OUTPUT

pub script_unread : (e : Failure) (left left' : Option (List ℕ)) (faults faults' : ℕ) → IsUnread e left left' faults faults' → Fails e left left' faults faults'
script_unread (failure.Line number c) left left' faults faults' u = absurd u
script_unread (failure.Frame e) left left' faults faults' u = u
script_unread (failure.Log number) left left' faults faults' u = u
script_unread failure.TooLarge left left' faults faults' u = u
script_unread failure.Usage left left' faults faults' u = u
script_unread failure.Read left left' faults faults' u = u
script_unread failure.Write left left' faults faults' u = u
script_unread failure.Memory left left' faults faults' u = u

pub script_refuses : (e : Failure) (left left' : Option (List ℕ)) (faults faults' : ℕ) (bytes : List ℕ) → GivesAll left left' bytes → length bytes ≤ most_input → Refuses e bytes → Fails e left left' faults faults'
script_refuses (failure.Line number c) left left' faults faults' bytes gives few r = read_bytes left left' bytes (Refuses (failure.Line number c)) gives few r
script_refuses (failure.Frame e) left left' faults faults' bytes gives few r = absurd r
script_refuses (failure.Log number) left left' faults faults' bytes gives few r = absurd r
script_refuses failure.TooLarge left left' faults faults' bytes gives few r = absurd r
script_refuses failure.Usage left left' faults faults' bytes gives few r = absurd r
script_refuses failure.Read left left' faults faults' bytes gives few r = absurd r
script_refuses failure.Write left left' faults faults' bytes gives few r = absurd r
script_refuses failure.Memory left left' faults faults' bytes gives few r = read_most left left' (λ _. Unit {0}) (read_bytes left left' bytes (λ _. Unit {0}) gives few tt)

pub frames_unread : (e : Failure) (left left' : Option (List ℕ)) (faults faults' : ℕ) → IsUnread e left left' faults faults' → FramesFail e left left' faults faults'
frames_unread (failure.Line number c) left left' faults faults' u = u
frames_unread (failure.Frame e) left left' faults faults' u = absurd u
frames_unread (failure.Log number) left left' faults faults' u = u
frames_unread failure.TooLarge left left' faults faults' u = u
frames_unread failure.Usage left left' faults faults' u = u
frames_unread failure.Read left left' faults faults' u = u
frames_unread failure.Write left left' faults faults' u = u
frames_unread failure.Memory left left' faults faults' u = u

pub frames_refuses : (e : Failure) (left left' : Option (List ℕ)) (faults faults' : ℕ) (bytes : List ℕ) → GivesAll left left' bytes → length bytes ≤ most_input → RefusesFrames e bytes → FramesFail e left left' faults faults'
frames_refuses (failure.Line number c) left left' faults faults' bytes gives few r = absurd r
frames_refuses (failure.Frame e) left left' faults faults' bytes gives few r = read_bytes left left' bytes (RefusesFrames (failure.Frame e)) gives few r
frames_refuses (failure.Log number) left left' faults faults' bytes gives few r = absurd r
frames_refuses failure.TooLarge left left' faults faults' bytes gives few r = absurd r
frames_refuses failure.Usage left left' faults faults' bytes gives few r = absurd r
frames_refuses failure.Read left left' faults faults' bytes gives few r = absurd r
frames_refuses failure.Write left left' faults faults' bytes gives few r = absurd r
frames_refuses failure.Memory left left' faults faults' bytes gives few r = read_most left left' (λ _. Unit {0}) (read_bytes left left' bytes (λ _. Unit {0}) gives few tt)

-- HOW MUCH WAS TAKEN

neither : (n k a b : ℕ) → n ≡ k → k ≢ a → k ≢ b → (n ≡ a) ⊎ (n ≡ b) → ⊥
neither n k a b is no_a no_b (inl e) = no_a (sym is ∙ e)
neither n k a b is no_a no_b (inr e) = no_b (sym is ∙ e)

takes_all : (o : Outcome) → TakesAll o.left o.left' → Takes o
takes_all o t = record {
  written = λ _. t;
  wrong = λ _. t;
  refused = λ _. inl t;
  stopped = λ _. most_taken o.left o.left' t;
}

takes_one_more : (o : Outcome) → o.status ≡ 1 → GivesCount o.left o.left' (most_input + 1) → Takes o
takes_one_more o s g = record {
  written = λ z. absurd (neither o.status 1 0 4 s (λ e. cc) (λ e. cc) z);
  wrong = λ z. absurd (neither o.status 1 6 7 s (λ e. cc) (λ e. cc) z);
  refused = λ _. inr g;
  stopped = λ z. absurd (neither o.status 1 3 5 s (λ e. cc) (λ e. cc) z);
}

takes_most : (o : Outcome) (k : ℕ) → o.status ≡ k → k ≢ 0 → k ≢ 4 → k ≢ 6 → k ≢ 7 → k ≢ 1 → GivesAtMost o.left o.left' most_input → Takes o
takes_most o k s no_0 no_4 no_6 no_7 no_1 g = record {
  written = λ z. absurd (neither o.status k 0 4 s no_0 no_4 z);
  wrong = λ z. absurd (neither o.status k 6 7 s no_6 no_7 z);
  refused = λ e. absurd (no_1 (sym s ∙ e));
  stopped = λ _. g;
}

-- HOW A RUN STOPPED before there was an output, for a reason that every command has

abbrev pub Stopped : Outcome → Type 0
Stopped o =
    ((o.status ≡ 1) × GivesCount o.left o.left' (most_input + 1) × Tells o too_large)
    ⊎ (((o.status ≡ 3) × Rose o.read_faults o.read_faults' × GivesAtMost o.left o.left' most_input × Tells o (line_of failure.Read))
    ⊎ ((o.status ≡ 5) × GivesAtMost o.left o.left' most_input × Tells o (line_of failure.Memory)))

stopped : (o : Outcome) (e : Failure) → IsUnread e o.left o.left' o.read_faults o.read_faults' → TellsAny e o.status (Tells o) → Stopped o
stopped o (failure.Line number c) u t = absurd u
stopped o (failure.Frame e) u t = absurd u
stopped o (failure.Log number) u t = absurd u
stopped o failure.TooLarge u t = inl (t.0, u, t.1)
stopped o failure.Usage u t = absurd u
stopped o failure.Read u t = inr (inl (t.0, u.0, u.1, t.1))
stopped o failure.Write u t = absurd u
stopped o failure.Memory u t = inr (inr (t.0, u, t.1))

-- what holds of every run
pub run_stopped : (o : Outcome) → Stopped o → IsRun o
run_stopped o (inl (s, g, t)) = record {
  statuses = omega (arith, s);
  read = λ e. absurd (cc (s, e));
  write = λ e. absurd (cc (s, e));
  told = λ no_1 no_6 no_7. absurd (no_1 s);
  taken = given_count o.left o.left' (most_input + 1) g;
}
run_stopped o (inr (inl (s, rose, g, t))) = record {
  statuses = omega (arith, s);
  read = λ _. rose;
  write = λ e. absurd (cc (s, e));
  told = λ no_1 no_6 no_7. subst (λ (n : ℕ). Tells o (told_of n)) (sym s) t;
  taken = given_one_more o.left o.left' g;
}
run_stopped o (inr (inr (s, g, t))) = record {
  statuses = omega (arith, s);
  read = λ e. absurd (cc (s, e));
  write = λ e. absurd (cc (s, e));
  told = λ no_1 no_6 no_7. subst (λ (n : ℕ). Tells o (told_of n)) (sym s) t;
  taken = given_one_more o.left o.left' g;
}

run_refused : (o : Outcome) (k : ℕ) → o.status ≡ k → (k ≡ 1) ⊎ (k ≡ 7) → TakesAll o.left o.left' → IsRun o
run_refused o k s (inl one) all = record {
  statuses = omega (arith, s, one);
  read = λ e. absurd (cc (s, one, e));
  write = λ e. absurd (cc (s, one, e));
  told = λ no_1 no_6 no_7. absurd (no_1 (s ∙ one));
  taken = given_one_more o.left o.left' (most_taken o.left o.left' all);
}
run_refused o k s (inr seven) all = record {
  statuses = omega (arith, s, seven);
  read = λ e. absurd (cc (s, seven, e));
  write = λ e. absurd (cc (s, seven, e));
  told = λ no_1 no_6 no_7. absurd (no_7 (s ∙ seven));
  taken = given_one_more o.left o.left' (most_taken o.left o.left' all);
}

pub run_written : (o : Outcome) → GivesAtMost o.left o.left' most_input → (o.status ≡ 0) ⊎ (o.status ≡ 4) → (o.status ≡ 4 → Rose o.write_faults o.write_faults') → Tells o (told_of o.status) → IsRun o
run_written o g (inl s) rose t = record {
  statuses = omega (arith, s);
  read = λ e. absurd (cc (s, e));
  write = rose;
  told = λ no_1 no_6 no_7. t;
  taken = given_one_more o.left o.left' g;
}
run_written o g (inr s) rose t = record {
  statuses = omega (arith, s);
  read = λ e. absurd (cc (s, e));
  write = rose;
  told = λ no_1 no_6 no_7. t;
  taken = given_one_more o.left o.left' g;
}

-- words without a meaning, and want of memory of a command that reads nothing
pub run_unread : (o : Outcome) (k : ℕ) → o.status ≡ k → (k ≡ 2) ⊎ (k ≡ 5) → GivesAtMost o.left o.left' most_input → Tells o (told_of k) → IsRun o
run_unread o k s (inl two) g t = record {
  statuses = omega (arith, s, two);
  read = λ e. absurd (cc (s, two, e));
  write = λ e. absurd (cc (s, two, e));
  told = λ no_1 no_6 no_7. subst (λ (n : ℕ). Tells o (told_of n)) (sym s) t;
  taken = given_one_more o.left o.left' g;
}
run_unread o k s (inr five) g t = record {
  statuses = omega (arith, s, five);
  read = λ e. absurd (cc (s, five, e));
  write = λ e. absurd (cc (s, five, e));
  told = λ no_1 no_6 no_7. subst (λ (n : ℕ). Tells o (told_of n)) (sym s) t;
  taken = given_one_more o.left o.left' g;
}

-- nothing is taken of an input that is as it was
pub nothing_taken : (left : Option (List ℕ)) → GivesAtMost left left most_input
nothing_taken None = ([], omega arith, tt)
nothing_taken (Some all) = ([], omega arith, refl)

-- A SCRIPT

pub script_written : (IsOutput : List ℕ → List ℕ → Type 0) (o : Outcome) (output : List ℕ) → ((all : List ℕ) → IsOutput all output → IsScript all)
    → IsRead o.left o.left' (λ all. IsOutput all output) → (o.status ≡ 0) ⊎ (o.status ≡ 4)
    → (o.status ≡ 0 → Gains o.got o.got' output) → (o.status ≡ 4 → GainsPart o.got o.got' output) → (o.status ≡ 4 → Rose o.write_faults o.write_faults') → ScriptRun IsOutput o
script_written IsOutput o output scripts r s whole part rose = record {
  written = λ e. read_more o.left o.left' _ _ r (λ all h. (output, h, whole e));
  cut = λ e. read_more o.left o.left' _ _ r (λ all h. (output, h, part e));
  refused = λ e. absurd (neither 1 1 0 4 refl (λ e. cc) (λ e. cc) (elim s [ inl z ↦ inl (sym e ∙ z) | inr z ↦ inr (sym e ∙ z) ]));
  others = (
    elim s [ inl z ↦ omega (arith, z) | inr z ↦ omega (arith, z) ],
    λ e. neither 2 2 0 4 refl (λ e. cc) (λ e. cc) (elim s [ inl z ↦ inl (sym e ∙ z) | inr z ↦ inr (sym e ∙ z) ]),
  );
  takes = takes_all o (all_taken o.left o.left' _ r);
  whole = λ input quiet_in quiet_out. elim s [ inl z ↦ inl z | inr z ↦ absurd (not_quiet o.write_faults o.write_faults' (rose z) quiet_out) ];
  none = λ input quiet. absurd (not_both o.left o.left' _ IsNoScript r input (λ all h never. let is = scripts all h in never is.0 is.1));
  overlong = λ long quiet. absurd (not_long o.left o.left' _ r long);
}

script_stopped : (IsOutput : List ℕ → List ℕ → Type 0) (o : Outcome) → Stopped o → ScriptRun IsOutput o
script_stopped IsOutput o (inl (s, g, t)) = record {
  written = λ e. absurd (cc (s, e));
  cut = λ e. absurd (cc (s, e));
  refused = λ _. inr (g, t);
  others = (omega (arith, s), λ e. cc (s, e));
  takes = takes_one_more o s g;
  whole = λ input quiet_in quiet_out. absurd (not_short o.left o.left' IsScript g input);
  none = λ input quiet. inl s;
  overlong = λ long quiet. inl s;
}
script_stopped IsOutput o (inr (inl (s, rose, g, t))) = record {
  written = λ e. absurd (cc (s, e));
  cut = λ e. absurd (cc (s, e));
  refused = λ e. absurd (cc (s, e));
  others = (omega (arith, s), λ e. cc (s, e));
  takes = takes_most o 3 s (λ e. cc) (λ e. cc) (λ e. cc) (λ e. cc) (λ e. cc) g;
  whole = λ input quiet quiet_out. absurd (not_quiet o.read_faults o.read_faults' rose quiet);
  none = λ input quiet. absurd (not_quiet o.read_faults o.read_faults' rose quiet);
  overlong = λ long quiet. absurd (not_quiet o.read_faults o.read_faults' rose quiet);
}
script_stopped IsOutput o (inr (inr (s, g, t))) = record {
  written = λ e. absurd (cc (s, e));
  cut = λ e. absurd (cc (s, e));
  refused = λ e. absurd (cc (s, e));
  others = (omega (arith, s), λ e. cc (s, e));
  takes = takes_most o 5 s (λ e. cc) (λ e. cc) (λ e. cc) (λ e. cc) (λ e. cc) g;
  whole = λ input quiet_in quiet_out. inr s;
  none = λ input quiet. inr s;
  overlong = λ long quiet. inr s;
}

script_refused : (IsOutput : List ℕ → List ℕ → Type 0) (o : Outcome) (number : ℕ) (c : Cause) → IsBadAt number c o.left o.left' → o.status ≡ 1 → Tells o (bad_line number c) → ScriptRun IsOutput o
script_refused IsOutput o number c bad s t = record {
  written = λ e. absurd (cc (s, e));
  cut = λ e. absurd (cc (s, e));
  refused = λ _. inl (number, (c, bad, t));
  others = (omega (arith, s), λ e. cc (s, e));
  takes = takes_all o (all_taken o.left o.left' _ bad);
  whole = λ input quiet_in quiet_out. absurd (not_both o.left o.left' _ IsScript bad input (λ all h is. h.1 is.0 is.1));
  none = λ input quiet. inl s;
  overlong = λ long quiet. inl s;
}

script_failed : (IsOutput : List ℕ → List ℕ → Type 0) (o : Outcome) (e : Failure) → Fails e o.left o.left' o.read_faults o.read_faults' → TellsAny e o.status (Tells o) → ScriptRun IsOutput o × IsRun o
script_failed IsOutput o (failure.Line number c) f (inl (s, t)) =
    (script_refused IsOutput o number c f s t, run_refused o 1 s (inl refl) (all_taken o.left o.left' _ f))
script_failed IsOutput o (failure.Line number c) f (inr (s, t)) =
    let wanting : Stopped o = inr (inr (s, read_most o.left o.left' _ f, t)) in (script_stopped IsOutput o wanting, run_stopped o wanting)
script_failed IsOutput o (failure.Frame e) f t = absurd f
script_failed IsOutput o (failure.Log number) f t = absurd f
script_failed IsOutput o failure.TooLarge f t = let s = stopped o failure.TooLarge f t in (script_stopped IsOutput o s, run_stopped o s)
script_failed IsOutput o failure.Usage f t = absurd f
script_failed IsOutput o failure.Read f t = let s = stopped o failure.Read f t in (script_stopped IsOutput o s, run_stopped o s)
script_failed IsOutput o failure.Write f t = absurd f
script_failed IsOutput o failure.Memory f t = let s = stopped o failure.Memory f t in (script_stopped IsOutput o s, run_stopped o s)

pub script_failed_answer : (IsOutput : List ℕ → List ℕ → Type 0) (o : Outcome) (e : Failure) → Fails e o.left o.left' o.read_faults o.read_faults' → TellsAny e o.status (Tells o) → ScriptRun IsOutput o
script_failed_answer IsOutput o e f t = (script_failed IsOutput o e f t).0

pub script_failed_run : (o : Outcome) (e : Failure) → Fails e o.left o.left' o.read_faults o.read_faults' → TellsAny e o.status (Tells o) → IsRun o
script_failed_run o e f t = (script_failed (λ all output. ⊥) o e f t).1

-- FRAMES

pub frames_written : (o : Outcome) (output : List ℕ) → IsRead o.left o.left' (λ all. AreLines all output) → (o.status ≡ 0) ⊎ (o.status ≡ 4)
    → (o.status ≡ 0 → Gains o.got o.got' output) → (o.status ≡ 4 → GainsPart o.got o.got' output) → (o.status ≡ 4 → Rose o.write_faults o.write_faults') → FramesRun o
frames_written o output r s whole part rose =
    let only : (k : ℕ) → o.status ≡ k → (k ≡ 0) ⊎ (k ≡ 4) = λ k e. elim s [ inl z ↦ inl (sym e ∙ z) | inr z ↦ inr (sym e ∙ z) ] in
    record {
      written = λ e. read_more o.left o.left' _ _ r (λ all h. (output, h, whole e));
      cut = λ e. read_more o.left o.left' _ _ r (λ all h. (output, h, part e));
      wrong = λ e. absurd (neither 7 7 0 4 refl (λ e. cc) (λ e. cc) (only 7 e));
      too_large = λ e. absurd (neither 1 1 0 4 refl (λ e. cc) (λ e. cc) (only 1 e));
      others = inl (
        elim s [ inl z ↦ omega (arith, z) | inr z ↦ omega (arith, z) ],
        λ e. neither 2 2 0 4 refl (λ e. cc) (λ e. cc) (only 2 e),
      );
      takes = takes_all o (all_taken o.left o.left' _ r);
      whole = λ input quiet_in quiet_out. elim s [ inl z ↦ inl z | inr z ↦ absurd (not_quiet o.write_faults o.write_faults' (rose z) quiet_out) ];
      none = λ input quiet. absurd (not_both o.left o.left' _ AreNoFrames r input (λ all h never. never h.0 h.1));
      overlong = λ long quiet. absurd (not_long o.left o.left' _ r long);
    }

frames_stopped : (o : Outcome) → Stopped o → FramesRun o
frames_stopped o (inl (s, g, t)) = record {
  written = λ e. absurd (cc (s, e));
  cut = λ e. absurd (cc (s, e));
  wrong = λ e. absurd (cc (s, e));
  too_large = λ _. (g, t);
  others = inl (omega (arith, s), λ e. cc (s, e));
  takes = takes_one_more o s g;
  whole = λ input quiet_in quiet_out. absurd (not_short o.left o.left' AreAllFrames g input);
  none = λ input quiet. absurd (not_short o.left o.left' AreNoFrames g input);
  overlong = λ long quiet. inl s;
}
frames_stopped o (inr (inl (s, rose, g, t))) = record {
  written = λ e. absurd (cc (s, e));
  cut = λ e. absurd (cc (s, e));
  wrong = λ e. absurd (cc (s, e));
  too_large = λ e. absurd (cc (s, e));
  others = inl (omega (arith, s), λ e. cc (s, e));
  takes = takes_most o 3 s (λ e. cc) (λ e. cc) (λ e. cc) (λ e. cc) (λ e. cc) g;
  whole = λ input quiet quiet_out. absurd (not_quiet o.read_faults o.read_faults' rose quiet);
  none = λ input quiet. absurd (not_quiet o.read_faults o.read_faults' rose quiet);
  overlong = λ long quiet. absurd (not_quiet o.read_faults o.read_faults' rose quiet);
}
frames_stopped o (inr (inr (s, g, t))) = record {
  written = λ e. absurd (cc (s, e));
  cut = λ e. absurd (cc (s, e));
  wrong = λ e. absurd (cc (s, e));
  too_large = λ e. absurd (cc (s, e));
  others = inl (omega (arith, s), λ e. cc (s, e));
  takes = takes_most o 5 s (λ e. cc) (λ e. cc) (λ e. cc) (λ e. cc) (λ e. cc) g;
  whole = λ input quiet_in quiet_out. inr s;
  none = λ input quiet. inr s;
  overlong = λ long quiet. inr s;
}

frames_refused : (o : Outcome) (e : FrameError) → IsBadInput e o.left o.left' → o.status ≡ 7 → Tells o (bad_frame e) → FramesRun o
frames_refused o e bad s t = record {
  written = λ z. absurd (cc (s, z));
  cut = λ z. absurd (cc (s, z));
  wrong = λ _. (e, bad, t);
  too_large = λ z. absurd (cc (s, z));
  others = inr s;
  takes = takes_all o (all_taken o.left o.left' _ bad);
  whole = λ input quiet_in quiet_out. absurd (not_both o.left o.left' _ AreAllFrames bad input (λ all h is. h.1 is.0 is.1));
  none = λ input quiet. inl s;
  overlong = λ long quiet. absurd (not_long o.left o.left' _ bad long);
}

frames_failed : (o : Outcome) (e : Failure) → FramesFail e o.left o.left' o.read_faults o.read_faults' → TellsAny e o.status (Tells o) → FramesRun o × IsRun o
frames_failed o (failure.Line number c) f t = absurd f
frames_failed o (failure.Frame e) f (inl (s, t)) =
    (frames_refused o e f s t, run_refused o 7 s (inr refl) (all_taken o.left o.left' _ f))
frames_failed o (failure.Frame e) f (inr (s, t)) =
    let wanting : Stopped o = inr (inr (s, read_most o.left o.left' _ f, t)) in (frames_stopped o wanting, run_stopped o wanting)
frames_failed o (failure.Log number) f t = absurd f
frames_failed o failure.TooLarge f t = let s = stopped o failure.TooLarge f t in (frames_stopped o s, run_stopped o s)
frames_failed o failure.Usage f t = absurd f
frames_failed o failure.Read f t = let s = stopped o failure.Read f t in (frames_stopped o s, run_stopped o s)
frames_failed o failure.Write f t = absurd f
frames_failed o failure.Memory f t = let s = stopped o failure.Memory f t in (frames_stopped o s, run_stopped o s)

pub frames_failed_answer : (o : Outcome) (e : Failure) → FramesFail e o.left o.left' o.read_faults o.read_faults' → TellsAny e o.status (Tells o) → FramesRun o
frames_failed_answer o e f t = (frames_failed o e f t).0

pub frames_failed_run : (o : Outcome) (e : Failure) → FramesFail e o.left o.left' o.read_faults o.read_faults' → TellsAny e o.status (Tells o) → IsRun o
frames_failed_run o e f t = (frames_failed o e f t).1

-- A MADE SCRIPT

pub gen_written : (n : ℕ) (o : Outcome) (output : List ℕ) → IsSummary n output → o.left' ≡ o.left → (o.status ≡ 0) ⊎ (o.status ≡ 4)
    → (o.status ≡ 0 → Gains o.got o.got' output) → (o.status ≡ 4 → GainsPart o.got o.got' output) → (o.status ≡ 4 → Rose o.write_faults o.write_faults') → GenRun n o
gen_written n o output is same s whole part rose = record {
  written = λ e. (output, is, whole e);
  cut = λ e. (output, is, part e);
  others = elim s [ inl z ↦ inl z | inr z ↦ inr (inl z) ];
  takes = same;
  whole = λ quiet. elim s [ inl z ↦ inl z | inr z ↦ absurd (not_quiet o.write_faults o.write_faults' (rose z) quiet) ];
}

pub gen_failed : (n : ℕ) (o : Outcome) → o.left' ≡ o.left → o.status ≡ 5 → GenRun n o
gen_failed n o same s = record {
  written = λ e. absurd (cc (s, e));
  cut = λ e. absurd (cc (s, e));
  others = inr (inr s);
  takes = same;
  whole = λ quiet. inr s;
}
