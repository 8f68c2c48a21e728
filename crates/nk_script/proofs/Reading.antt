-- How far the reading of a text has come.
use Rattle.std.proofs.Common.{◌≡◌, inl, inr, ℕ, ◌+◌, ◌<◌, ◌≤◌, Bool, true, false, cond, ◌==◌, List, [], ◌∷◌, ◌++◌, length, Option, Some, None, Err, refl, sym, ap, subst, arith, length-append}
use Rattle.std.specs.Option.{option_map}
use Rattle.std.specs.Prelude.{option_to_list}
use Rattle.std.proofs.lemmas.Bool.Decides.{nat_tests}
use Rattle.nk_script.specs.declared.line.Line.{Line}
use Rattle.nk_script.specs.declared.line.Line.TheVariants as line
use Rattle.nk_script.specs.declared.draft.Draft.{Draft}
use Rattle.nk_script.specs.declared.reader.Reader.{Reader}
use Rattle.nk_script.specs.declared.script.Script.{Script}
use Rattle.nk_script.specs.declared.script.Cause.{Cause}
use Rattle.nk_script.specs.declared.script.Cause.TheVariants as cause
use Rattle.nk_script.specs.Texts.{onto_first, lines, before, behind, or_nothing}
use Rattle.nk_script.specs.Draft.{start, after, plans_of, plan_of, is_within}
use Rattle.nk_script.specs.Grammar.{Stands, Ends, IsTextOf, Breaks, IsRefused, script_of}
use Rattle.nk_script.specs.Order.{may_end}
use Rattle.nk_script.specs.Answers.{IsTaken, IsLineAnswer, Blames, IsScriptOrMemory, IsErrorOrMemory, error_at}
use Rattle.nk_script.specs.declared.read.Refusal.{Refusal}
use Rattle.nk_script.specs.declared.read.Refusal.TheVariants as refusal

-- THE LINES OF A TEXT

cut_step : (here : Bool) (b : ℕ) (bs : List ℕ) → (0 < length bs → lines bs ≡ before 10 bs ∷ lines (or_nothing (behind 10 bs))) → cond here ([] ∷ lines bs) (onto_first b (lines bs)) ≡ cond here [] (b ∷ before 10 bs) ∷ lines (or_nothing (cond here (Some bs) (behind 10 bs)))
cut_step true b bs e = refl
cut_step false b [] e = refl
cut_step false b (x ∷ xs) e = ap (onto_first b) (e (omega arith))

-- the first line, and the lines of the rest
pub lines_cut : (text : List ℕ) → 0 < length text → lines text ≡ before 10 text ∷ lines (or_nothing (behind 10 text))
lines_cut [] h = absurd (omega arith)
lines_cut (b ∷ bs) h = cut_step (b == 10) b bs (lines_cut bs)

shorter_step : (here : Bool) (bs : List ℕ) → length (or_nothing (behind 10 bs)) ≤ length bs → length (or_nothing (cond here (Some bs) (behind 10 bs))) ≤ length bs
shorter_step true bs h = omega arith
shorter_step false bs h = h

rest_short : (text : List ℕ) → length (or_nothing (behind 10 text)) ≤ length text
rest_short [] = omega arith
rest_short (b ∷ bs) = omega (arith, shorter_step (b == 10) bs (rest_short bs))

-- the rest is shorter
pub rest_shorter : (text : List ℕ) → 0 < length text → length (or_nothing (behind 10 text)) < length text
rest_shorter [] h = absurd (omega arith)
rest_shorter (b ∷ bs) h = omega (arith, shorter_step (b == 10) bs (rest_short bs))

-- THE NUMBER OF CHANNELS

same_count : (o : Option Draft) (f : Draft → Draft) → length (option_to_list (option_map plan_of (option_map f o))) ≡ length (option_to_list (option_map plan_of o))
same_count None f = refl
same_count (Some d) f = refl

pub kept_count : (r : Reader) (f : Draft → Draft) → length (plans_of r) ≤ 1024 → length (r.plans ++ option_to_list (option_map plan_of (option_map f r.draft))) ≤ 1024
kept_count r f h = omega (arith, length-append r.plans (option_to_list (option_map plan_of (option_map f r.draft))), length-append r.plans (option_to_list (option_map plan_of r.draft)), same_count r.draft f, h)

pub count_after : (r : Reader) (l : Line) → is_within r l ≡ true → length (plans_of r) ≤ 1024 → length (plans_of (after r l)) ≤ 1024
count_after r line.Script w h = h
count_after r line.Channel w h = grind (arith, nat_tests, length-append)
count_after r (line.Hop hop) w h = kept_count r _ h
count_after r (line.Field f) w h = kept_count r _ h
count_after r (line.Piece bytes) w h = kept_count r _ h
count_after r (line.End f) w h = kept_count r _ h
count_after r (line.Trailer f) w h = kept_count r _ h
count_after r (line.Listener kind) w h = kept_count r _ h
count_after r line.NotRetargetable w h = kept_count r _ h
count_after r (line.Window n) w h = kept_count r _ h
count_after r line.StartBack w h = kept_count r _ h
count_after r line.Closed w h = kept_count r _ h
count_after r (line.Reaction reaction) w h = kept_count r _ h
count_after r (line.Control control) w h = kept_count r _ h
count_after r line.Schedule w h = omega (arith, length-append (plans_of r) [], h)
count_after r (line.Step item) w h = h

-- THE READING

-- what was read of a text, up to the line of this number, and the rest are the text's
pub record IsAt (text : List ℕ) (r : Reader) (number : ℕ) (rest : List ℕ) : Type 0 where
  pub ends : (s : Script) → Ends start (lines text) s → Ends r (lines rest) s
  pub begins : (s : Script) → Ends r (lines rest) s → Ends start (lines text) s
  pub breaks : (n : ℕ) (c : Cause) → Breaks r number (lines rest) n c → Breaks start 1 (lines text) n c
  pub broken : (n : ℕ) (c : Cause) → Breaks start 1 (lines text) n c → Breaks r number (lines rest) n c
  pub count : number + length rest ≤ length text + 1
  pub channels : length (plans_of r) ≤ 1024

pub at_start : (text : List ℕ) → IsAt text start 1 text
at_start text = record { ends = λ s h. h; begins = λ s h. h; breaks = λ n c h. h; broken = λ n c h. h; count = omega arith; channels = omega arith }

taken_ends : (old new : Reader) (text : List ℕ) (texts : List (List ℕ)) (s : Script) → IsTaken old text new → Ends old (text ∷ texts) s → Ends new texts s
taken_ends old new text texts s taken (l, stands, more) =
    let same = taken.only l stands.form in
    subst (λ (r : Reader). Ends r texts s) (sym (taken.taken)) (subst (λ (k : Line). Ends (after old k) texts s) same more)

-- a line that was taken is not refused
over_and_within : (r : Reader) (k l : Line) → k ≡ l → is_within r k ≡ false → is_within r l ≡ true → ⊥
over_and_within r k l e over within = cc (subst (λ (m : Line). is_within r m ≡ false) e over, within)

taken_or_refused : (old new : Reader) (text : List ℕ) (c : Cause) → IsTaken old text new → IsRefused old text c → ⊥
taken_or_refused old new text cause.Unexpected taken bad = bad taken.stands.expected
taken_or_refused old new text cause.Malformed taken bad = bad.1 taken.line taken.stands.form
taken_or_refused old new text cause.Limit taken bad = over_and_within old bad.1.0 taken.line (taken.only bad.1.0 bad.1.1) bad.1.2 taken.stands.within
taken_or_refused old new text cause.EndsEarly taken bad = bad

taken_breaks : (old new : Reader) (number : ℕ) (text : List ℕ) (texts : List (List ℕ)) (n : ℕ) (c : Cause) → IsTaken old text new → Breaks old number (text ∷ texts) n c → Breaks new (number + 1) texts n c
taken_breaks old new number text texts n c taken (inl (l, stands, more)) =
    let same = taken.only l stands.form in
    subst (λ (r : Reader). Breaks r (number + 1) texts n c) (sym (taken.taken)) (subst (λ (k : Line). Breaks (after old k) (number + 1) texts n c) same more)
taken_breaks old new number text texts n c taken (inr (here, bad)) = absurd (taken_or_refused old new text c taken bad)

-- one more line was taken
pub at_next : (text : List ℕ) (old new : Reader) (number : ℕ) (rest : List ℕ) → IsAt text old number rest → 0 < length rest → IsTaken old (before 10 rest) new → IsAt text new (number + 1) (or_nothing (behind 10 rest))
at_next text old new number rest was some taken =
    let first = before 10 rest in
    let more = or_nothing (behind 10 rest) in
    let cut = lines_cut rest some in
    let shorter = rest_shorter rest some in
    record {
      ends = λ s h. taken_ends old new first (lines more) s taken (subst (λ (ls : List (List ℕ)). Ends old ls s) cut (was.ends s h));
      begins = λ s h. was.begins s (subst (λ (ls : List (List ℕ)). Ends old ls s) (sym cut) (taken.line, taken.stands, subst (λ (r : Reader). Ends r (lines more) s) taken.taken h));
      breaks = λ n c h. was.breaks n c (subst (λ (ls : List (List ℕ)). Breaks old number ls n c) (sym cut) (inl (taken.line, taken.stands, subst (λ (r : Reader). Breaks r (number + 1) (lines more) n c) taken.taken h)));
      broken = λ n c h. taken_breaks old new number first (lines more) n c taken (subst (λ (ls : List (List ℕ)). Breaks old number ls n c) cut (was.broken n c h));
      count = omega (arith, was.count, shorter);
      channels = subst (λ (r : Reader). length (plans_of r) ≤ 1024) (sym taken.taken) (count_after old taken.line taken.stands.within was.channels);
    }

-- the line was refused
pub refused_break : (text : List ℕ) (r : Reader) (number : ℕ) (rest : List ℕ) (c : Cause) → IsAt text r number rest → 0 < length rest → IsRefused r (before 10 rest) c → Breaks start 1 (lines text) number c
refused_break text r number rest c was some bad =
    was.breaks number c (subst (λ (ls : List (List ℕ)). Breaks r number ls number c) (sym (lines_cut rest some)) (inr (refl, bad)))

pub refused_end : (text : List ℕ) (r : Reader) (number : ℕ) (rest : List ℕ) → IsAt text r number rest → 0 < length rest → ((l : Line) → ¬ Stands r (before 10 rest) l) → (s : Script) → Ends start (lines text) s → ⊥
refused_end text r number rest was some bad s h =
    let found = subst (λ (ls : List (List ℕ)). Ends r ls s) (lines_cut rest some) (was.ends s h) in
    bad found.0 found.1

-- the error of a line that was not taken
pub refused_error : (text : List ℕ) (r new : Reader) (number : ℕ) (rest : List ℕ) (e : Refusal) → IsAt text r number rest → 0 < length rest → IsLineAnswer r (before 10 rest) (Err e) new → Blames text (error_at number e)
refused_error text r new number rest (refusal.Line c) was some (bad, none) = refused_break text r number rest c was some bad
refused_error text r new number rest refusal.Memory was some answer = tt

pub refused_script : (text : List ℕ) (r new : Reader) (number : ℕ) (rest : List ℕ) (e : Refusal) → IsAt text r number rest → 0 < length rest → IsLineAnswer r (before 10 rest) (Err e) new → (s : Script) → Ends start (lines text) s → IsScriptOrMemory (Err (error_at number e)) s
refused_script text r new number rest (refusal.Line c) was some (bad, none) s h = refused_end text r number rest was some none s h
refused_script text r new number rest refusal.Memory was some answer s h = tt

empty_rest : (xs : List ℕ) → (length xs == 0) ≡ true → xs ≡ []
empty_rest [] e = refl
empty_rest (x ∷ xs) e = let n : length (x ∷ xs) ≡ 0 = grind (arith, nat_tests) in absurd (omega arith)

-- the whole text was read
pub text_read : (text : List ℕ) (r : Reader) (number : ℕ) (rest : List ℕ) (s : Script) → IsAt text r number rest → (length rest == 0) ≡ true → may_end r.place ≡ true → s ≡ script_of r → IsTextOf s text
text_read text r number rest s was none end same = was.begins s (subst (λ (t : List ℕ). Ends r (lines t) s) (sym (empty_rest rest none)) (end, same))

-- a line is refused for one cause
one_cause : (r : Reader) (text : List ℕ) (c d : Cause) → IsRefused r text c → IsRefused r text d → c ≡ d
one_cause r text cause.Unexpected cause.Unexpected a b = refl
one_cause r text cause.Unexpected cause.Malformed a b = absurd (a b.0)
one_cause r text cause.Unexpected cause.Limit a b = absurd (a b.0)
one_cause r text cause.Malformed cause.Unexpected a b = absurd (b a.0)
one_cause r text cause.Malformed cause.Malformed a b = refl
one_cause r text cause.Malformed cause.Limit a b = absurd (a.1 b.1.0 b.1.1)
one_cause r text cause.Limit cause.Unexpected a b = absurd (b a.0)
one_cause r text cause.Limit cause.Malformed a b = absurd (b.1 a.1.0 a.1.1)
one_cause r text cause.Limit cause.Limit a b = refl
one_cause r text cause.EndsEarly d a b = absurd a
one_cause r text c cause.EndsEarly a b = absurd b

one_break : (r : Reader) (number : ℕ) (text : List ℕ) (texts : List (List ℕ)) (c : Cause) (n : ℕ) (d : Cause) → IsRefused r text c → ((l : Line) → ¬ Stands r text l) → Breaks r number (text ∷ texts) n d → (number ≡ n) × (c ≡ d)
one_break r number text texts c n d bad none (inl (l, stands, more)) = absurd (none l stands)
one_break r number text texts c n d bad none (inr (here, why)) = (sym here, one_cause r text c d bad why)

-- no other line is the first bad one
pub refused_only : (text : List ℕ) (r new : Reader) (number : ℕ) (rest : List ℕ) (e : Refusal) → IsAt text r number rest → 0 < length rest → IsLineAnswer r (before 10 rest) (Err e) new → (n : ℕ) (c : Cause) → Breaks start 1 (lines text) n c → IsErrorOrMemory (Err (error_at number e)) n c
refused_only text r new number rest (refusal.Line c) was some (bad, none) n d h =
    one_break r number (before 10 rest) (lines (or_nothing (behind 10 rest))) c n d bad none
    (subst (λ (ls : List (List ℕ)). Breaks r number ls n d) (lines_cut rest some) (was.broken n d h))
refused_only text r new number rest refusal.Memory was some answer n d h = tt

-- a text that is not empty
pub length_some : (xs : List ℕ) → (length xs == 0) ≡ false → 0 < length xs
length_some [] e = cc
length_some (x ∷ xs) e = omega arith
