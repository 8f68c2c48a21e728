-- The channels of a made script, and the script.
use Rattle.std.proofs.Common.{◌≡◌, ℕ, suc, zero, ◌<◌, ◌≤◌, ◌+◌, true, List, ◌++◌, length, refl, subst, arith}
use Rattle.std.proofs.lemmas.List.{length_push}
use Rattle.nk_script.specs.declared.draft.Draft.{Draft}
use Rattle.nk_script.specs.declared.line.Line.TheVariants as line
use Rattle.nk_script.specs.declared.line.Place.{Place}
use Rattle.nk_script.specs.declared.line.Place.TheVariants as place
use Rattle.nk_script.specs.declared.reader.Reader.{Reader}
use Rattle.nk_script.specs.Order.{may_end}
use Rattle.nk_script.specs.Draft.{start, after, new_draft, plan_of, plans_of}
use Rattle.nk_script.specs.Grammar.{script_of}
use Rattle.nk_gen.specs.Draws.{next, first_draw}
use Rattle.nk_gen.specs.Made.{redirect_lines, head_lines, body_lines, behind_body, option_lines, channel_lines, behind_channel, channels}
use Rattle.nk_gen_law.specs.Laws.{MadeScriptLaw}
use Rattle.nk_gen_law.proofs.Draws.{draw_below}
use Rattle.nk_gen_law.proofs.States.{Reads, reads_join, reading, IsDone, Reached}
use Rattle.nk_gen_law.proofs.Standing.{script_taken, channel_taken, redirects_read}
use Rattle.nk_gen_law.proofs.Bodies.{body_read}
use Rattle.nk_gen_law.proofs.Options.{options_read}

-- A CHANNEL

-- the channels before, with the one that was complete
abbrev opened : Reader → Reader
opened r = record r { plans = plans_of r }

-- what is owed behind the head
abbrev BehindHead : Reader → List ℕ → Type 0
BehindHead r rest = (d : Draft) → length d.reactions ≤ 0 → Reads (reading (opened r) place.Hop d r.pieces r.bytes r.read) rest

head_read : (k x : ℕ) (r : Reader) (rest : List ℕ) → Reached k r → k < 32 → BehindHead r rest → Reads r (head_lines x ++ rest)
unfolding head_lines
head_read k x r rest reached few behind =
    let hops : first_draw 4 x < 4 = draw_below 4 (next x) (omega arith) in
    let plans = reached.plans in
    channel_taken r (redirect_lines (first_draw 4 x) ++ rest) reached.channel (omega arith)
    (redirects_read (first_draw 4 x) 0 (opened r) new_draft r.pieces r.bytes r.read rest (omega arith) (omega arith) (omega arith) behind)

more_plans : (r : Reader) (p : Place) (d : Draft) (a b c k : ℕ) → length (plans_of r) ≤ k
    → length (plans_of (reading (opened r) p d a b c)) ≤ suc k
more_plans r p d a b c k h = omega (arith, length_push (plans_of r) (plan_of d))

-- what is owed behind a channel
abbrev BehindOne : ℕ → List ℕ → Type 0
BehindOne k rest = (r : Reader) → Reached k r → may_end r.place ≡ true → Reads r rest

one_reached : (k : ℕ) (r : Reader) (p : Place) (d : Draft) (a b c : ℕ) → Reached k r → IsDone p
    → a ≤ r.pieces + 64 → b ≤ r.bytes + 524288 → c ≤ r.read + 1048576 → Reached (suc k) (reading (opened r) p d a b c)
one_reached k r p d a b c reached done pieces bytes read = record {
  channel = done.channel;
  plans = more_plans r p d a b c k reached.plans;
  pieces = omega (arith, reached.pieces);
  bytes = omega (arith, reached.bytes);
  read = omega (arith, reached.read);
}

channel_read : (k x : ℕ) (r : Reader) (rest : List ℕ) → Reached k r → k < 32 → BehindOne (suc k) rest → Reads r (channel_lines x ++ rest)
channel_read k x r rest reached few behind =
    let options = option_lines (behind_body (next x)) in
    let pieces : r.pieces + 64 ≤ 262144 = omega (arith, reached.pieces) in
    let bytes : r.bytes + 524288 ≤ 67108864 = omega (arith, reached.bytes) in
    let read : r.read + 1048576 ≤ 134217728 = omega (arith, reached.read) in
    reads_join r (head_lines x ++ body_lines (next x)) options rest
    (reads_join r (head_lines x) (body_lines (next x)) (options ++ rest)
    (head_read k x r (body_lines (next x) ++ (options ++ rest)) reached few
    (λ d fresh. body_read (opened r) d r.pieces r.bytes r.read (next x) (options ++ rest) pieces bytes
    (λ s a b small most_pieces most_bytes. options_read (opened r) d s a b r.read (behind_body (next x)) rest fresh small read
    (λ p e c done most_read. behind (reading (opened r) p e a b c)
    (one_reached k r p e a b c reached done most_pieces most_bytes most_read) done.last)))))

-- THE SCRIPT

channels_read : (n k x : ℕ) (r : Reader) → Reached k r → may_end r.place ≡ true → n + k ≤ 32 → Reads r (channels n x)
channels_read zero k x r reached last few = (script_of r, (last, refl))
channels_read (suc n) k x r reached last few =
    channel_read k x r (channels n (behind_channel x)) reached (omega arith)
    (λ s more ends. channels_read n (suc k) (behind_channel x) s more ends (omega arith))

-- behind the first line
begun : Reached 0 (after start line.Script)
begun = record { channel = refl; plans = omega arith; pieces = omega arith; bytes = omega arith; read = omega arith }

some_read : (n x : ℕ) → suc n ≤ 32 → Reads (after start line.Script) (channels (suc n) x)
some_read n x few =
    channel_read 0 x (after start line.Script) (channels n (behind_channel x)) begun (omega arith)
    (λ s more ends. channels_read n 1 (behind_channel x) s more ends (omega arith))

one_more : (n : ℕ) → suc (15 + n) ≡ 16 + n
one_more n = omega arith

pub made_reads : MadeScriptLaw
made_reads n =
    let extra = first_draw 17 n in
    let few : first_draw 17 n < 17 = draw_below 17 (next n) (omega arith) in
    let some = some_read (15 + extra) (next n) (omega arith) in
    script_taken (channels (16 + extra) (next n))
    (subst (λ (count : ℕ). Reads (after start line.Script) (channels count (next n))) (one_more extra) some)
