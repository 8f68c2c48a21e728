-- The options of a made channel.
use Rattle.std.proofs.Common.{◌≡◌, ℕ, ◌<◌, ◌≤◌, ◌+◌, ◌*◌, ◌==◌, Bool, true, false, cond, List, [], ◌∷◌, ◌++◌, length, codes, refl, sym, subst, ap, append_assoc, arith}
use Rattle.std.specs.Fmt.{decimal}
use Rattle.std.proofs.lemmas.Bool.Decides.{nat_tests}
use Rattle.nk_plan.specs.declared.plan.Reaction.TheVariants as reaction
use Rattle.nk_script.specs.declared.draft.Draft.{Draft}
use Rattle.nk_script.specs.declared.line.Keyword.TheVariants as key
use Rattle.nk_script.specs.declared.line.Line.TheVariants as line
use Rattle.nk_script.specs.declared.line.Place.{Place}
use Rattle.nk_script.specs.declared.line.Place.TheVariants as place
use Rattle.nk_script.specs.declared.reader.Reader.{Reader}
use Rattle.nk_script.specs.Responses.{ResponseParts}
use Rattle.nk_script.specs.Texts.{words}
use Rattle.nk_script.specs.Lines.{IsReactionLine}
use Rattle.nk_script.specs.Order.{behind_reaction}
use Rattle.nk_gen.specs.Draws.{next, first_draw, second_draw}
use Rattle.nk_gen.specs.Made.{listener_line, worker_line, retarget_line, option_lines}
use Rattle.nk_gen_law.proofs.Cuts.{word_last}
use Rattle.nk_gen_law.proofs.Spellings.{decimal_lacks}
use Rattle.nk_gen_law.proofs.Draws.{draw_below}
use Rattle.nk_gen_law.proofs.States.{Reads, reads_join, take_line, lt_test, reading, replying, IsDone, IsOption}
use Rattle.nk_gen_law.proofs.Standing.{pipe, pipe_taken}

-- a line that may be left out
by_test : (P : List ℕ → Type 0) (test : Bool) (v w : List ℕ) → (test ≡ true → P v) → (test ≡ false → P w) → P (cond test v w)
by_test P true v w stands lacking = stands refl
by_test P false v w stands lacking = lacking refl

-- THE LISTENER

-- what is owed behind the listener
abbrev BehindListener : Reader → ℕ → ℕ → ℕ → List ℕ → Type 0
BehindListener r a b most_read rest =
    (p : Place) (d : Draft) (c : ℕ) → IsOption p → length d.reactions ≤ 0 → c ≤ most_read → Reads (reading r p d a b c) rest

listener_read : (r : Reader) (d : Draft) (s : ResponseParts) (a b c draw : ℕ) (rest : List ℕ)
    → length d.reactions ≤ 0 → s.size ≤ 524288 → c + 1048576 ≤ 134217728 → BehindListener r a b (c + 1048576) rest
    → Reads (reading r place.Trailers (replying d s) a b c) (listener_line draw ++ rest)
listener_read r d s a b c draw rest fresh small read behind =
    let done : IsDone place.Reactions = record { channel = refl; last = refl } in
    let behind_pipe : IsOption place.Retargetable = record { reaction = refl; done = record { channel = refl; last = refl }; behind = done } in
    let behind_none : IsOption place.Trailers = record { reaction = refl; done = record { channel = refl; last = refl }; behind = done } in
    by_test (λ text. Reads (reading r place.Trailers (replying d s) a b c) (text ++ rest)) (draw == 1) (codes "listener pipe 4096 16 2\n") []
    (λ _. pipe_taken r d s a b c rest small (omega arith)
    (behind place.Retargetable (record (replying d s) { listener = pipe }) (c + 2 * s.size) behind_pipe fresh (omega arith)))
    (λ _. behind place.Trailers (replying d s) c behind_none fresh (omega arith))

-- WHERE THE DATA GOES

-- the line, without its line feed
abbrev worker_text : ℕ → List ℕ
worker_text worker = codes "at start retarget w" ++ decimal worker

worker_words : (worker : ℕ) → worker ≤ 16 → words (worker_text worker) ≡ codes "at" ∷ codes "start" ∷ codes "retarget" ∷ (119 ∷ decimal worker) ∷ []
worker_words worker few =
    let digits = decimal_lacks 32 worker (omega arith) (omega arith) in
    ap (λ (ws : List (List ℕ)). codes "at" ∷ codes "start" ∷ codes "retarget" ∷ ws) (word_last (119 ∷ decimal worker) digits)

worker_form : (worker : ℕ) → 1 ≤ worker → worker ≤ 16 → IsReactionLine (words (worker_text worker)) (line.Reaction (reaction.StartRetarget worker))
worker_form worker some few = (
  codes "start" ∷ codes "retarget" ∷ (119 ∷ decimal worker) ∷ [],
  reaction.StartRetarget worker,
  worker_words worker few,
  (119 ∷ decimal worker, refl, (some, few, refl)),
  refl,
)

worker_apart : (worker : ℕ) (rest : List ℕ) → worker_line worker ++ rest ≡ worker_text worker ++ 10 ∷ rest
worker_apart worker rest = append_assoc (worker_text worker) (10 ∷ []) rest

-- what is owed behind a channel
abbrev BehindOptions : Reader → ℕ → ℕ → ℕ → List ℕ → Type 0
BehindOptions r a b c rest = (p : Place) (d : Draft) → IsDone p → Reads (reading r p d a b c) rest

abbrev with_worker : ℕ → Draft → Draft
with_worker worker d = record d { reactions = d.reactions ++ reaction.StartRetarget worker ∷ [] }

worker_read : (r : Reader) (p : Place) (d : Draft) (a b c worker : ℕ) (rest : List ℕ)
    → IsOption p → length d.reactions ≤ 0 → 1 ≤ worker → worker ≤ 16 → BehindOptions r a b c rest
    → Reads (reading r p d a b c) (worker_line worker ++ rest)
worker_read r p d a b c worker rest option fresh some few behind =
    let digits = decimal_lacks 10 worker (omega arith) (omega arith) in
    let within = lt_test (length d.reactions) 64 (omega arith) in
    subst (Reads (reading r p d a b c)) (sym (worker_apart worker rest))
    (take_line (reading r p d a b c) (worker_text worker) rest key.At (line.Reaction (reaction.StartRetarget worker))
    digits refl option.reaction (worker_form worker some few) within
    (behind (behind_reaction p) (with_worker worker d) option.behind))

some_worker : (n : ℕ) → (n == 0) ≡ false → 1 ≤ n
some_worker n h = grind (arith, nat_tests)

retarget_read : (r : Reader) (p : Place) (d : Draft) (a b c draw : ℕ) (rest : List ℕ)
    → IsOption p → length d.reactions ≤ 0 → draw < 5 → BehindOptions r a b c rest
    → Reads (reading r p d a b c) (retarget_line draw ++ rest)
retarget_read r p d a b c draw rest option fresh few behind =
    by_test (λ text. Reads (reading r p d a b c) (text ++ rest)) (draw == 0) [] (worker_line draw)
    (λ _. behind p d option.done)
    (λ e. worker_read r p d a b c draw rest option fresh (some_worker draw e) (omega arith) behind)

-- THE OPTIONS

-- what is owed behind a channel whose readers read no more than this
abbrev pub BehindChannel : Reader → ℕ → ℕ → ℕ → List ℕ → Type 0
BehindChannel r a b most_read rest = (p : Place) (d : Draft) (c : ℕ) → IsDone p → c ≤ most_read → Reads (reading r p d a b c) rest

pub options_read : (r : Reader) (d : Draft) (s : ResponseParts) (a b c x : ℕ) (rest : List ℕ)
    → length d.reactions ≤ 0 → s.size ≤ 524288 → c + 1048576 ≤ 134217728 → BehindChannel r a b (c + 1048576) rest
    → Reads (reading r place.Trailers (replying d s) a b c) (option_lines x ++ rest)
unfolding option_lines
options_read r d s a b c x rest fresh small read behind =
    let few = draw_below 5 (next (next x)) (omega arith) in
    reads_join (reading r place.Trailers (replying d s) a b c) (listener_line (first_draw 2 x)) (retarget_line (second_draw 5 x)) rest
    (listener_read r d s a b c (first_draw 2 x) (retarget_line (second_draw 5 x) ++ rest) fresh small read
    (λ p e sum option none most.
    retarget_read r p e a b sum (second_draw 5 x) rest option none few (λ q f done. behind q f sum done most)))
