use Rattle.std.proofs.Common.{◌≡◌, ◌≢◌, ◌↔◌, ℕ, Bool, List, Result, Ok, subst, inl, inr}
use Rattle.nk_words.specs.declared.command.Command.{Command}
use Rattle.nk_words.specs.declared.command.Command.TheVariants.{Play, Frames, Gen}
use Rattle.nk_words.specs.declared.command.Usage.{Usage}
use Rattle.nk_words.specs.Words.{IsCallOf}
use Rattle.nk_run.specs.Commands.{answer_of, HasMeaning}
use Rattle.nk_run.specs.Runs.{Outcome}

-- which command words call, and whether they have a meaning

-- words call no command but the one that was read
abbrev Each : List (List ℕ) → Result Command Usage → Type 0
Each words r = (command : Command) → IsCallOf command words → r ≡ Ok command

same : (a b : Command) (r : Result Command Usage) → r ≡ Ok a → r ≡ Ok b → a ≡ b
same a b r is_a is_b = cc (is_a, is_b)

pub answered : (words : List (List ℕ)) (r : Result Command Usage) (called : Command) (o : Outcome) → Each words r → r ≡ Ok called → answer_of called o
    → (command : Command) → IsCallOf command words → answer_of command o
answered words r called o each is h = λ command call. subst (λ (k : Command). answer_of k o) (same called command r is (each command call)) h

-- the command is never refused
abbrev IsMeant : Command → Type 0
IsMeant command = (o : Outcome) → answer_of command o → o.status ≢ 2

pub play_meant : (log : Bool) → IsMeant (Play log)
play_meant log o h = h.others.1

pub frames_meant : IsMeant Frames
frames_meant o h = λ two. elim h.others [ inl low ↦ low.1 two | inr seven ↦ cc (seven, two) ]

pub gen_meant : (n : ℕ) → IsMeant (Gen n)
gen_meant n o h = λ two. elim h.others [ inl zero ↦ cc (zero, two) | inr more ↦ elim more [ inl four ↦ cc (four, two) | inr five ↦ cc (five, two) ] ]

pub meant : (words : List (List ℕ)) (called : Command) (o : Outcome) → IsCallOf called words → IsMeant called → answer_of called o → (o.status ≡ 2) ↔ (¬ HasMeaning words)
meant words called o call never h = ((λ two. absurd (never o h two)), (λ none. absurd (none (called, call, never))))

pub unmeant : (words : List (List ℕ)) (o : Outcome) → o.status ≡ 2 → ((command : Command) → IsCallOf command words → answer_of command o) → (o.status ≡ 2) ↔ (¬ HasMeaning words)
unmeant words o s answers = ((λ two meaning. meaning.2 o (answers meaning.0 meaning.1) two), (λ none. s))
