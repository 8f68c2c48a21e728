-- What is read while a made channel comes. Each lemma on a part of the text takes what is owed behind it: from each
-- reading that the part may leave, the rest is read. So of what a part adds only bounds are kept.
use Rattle.std.proofs.Common.{◌≡◌, ℕ, ◌<◌, ◌≤◌, ◌*◌, true, List, ◌∷◌, ◌++◌, length, Some, nat_lt, nat_le, sym, subst, append_assoc, arith}
use Rattle.std.proofs.lemmas.Bool.Decides.{nat_tests}
use Rattle.nk_script.specs.declared.draft.Draft.{Draft}
use Rattle.nk_script.specs.declared.line.Keyword.{Keyword}
use Rattle.nk_script.specs.declared.line.Keyword.TheVariants as key
use Rattle.nk_script.specs.declared.line.Line.{Line}
use Rattle.nk_script.specs.declared.line.Place.{Place}
use Rattle.nk_script.specs.declared.reader.Reader.{Reader}
use Rattle.nk_script.specs.declared.script.Script.{Script}
use Rattle.nk_script.specs.Responses.{ResponseParts}
use Rattle.nk_script.specs.Texts.{lines, first_word}
use Rattle.nk_script.specs.Lines.{IsLineOf}
use Rattle.nk_script.specs.Order.{IsKeyword, allows, may_end, behind_reaction}
use Rattle.nk_script.specs.Draft.{after, is_within, plans_of}
use Rattle.nk_script.specs.Grammar.{Stands, Ends}
use Rattle.nk_gen_law.proofs.Cuts.{lacks, line_cut}

-- the text, behind what was read, ends some script
abbrev pub Reads : Reader → List ℕ → Type 0
Reads r text = (s : Script) × Ends r (lines text) s

pub reads_join : (r : Reader) (a b c : List ℕ) → Reads r (a ++ (b ++ c)) → Reads r ((a ++ b) ++ c)
reads_join r a b c reads = subst (Reads r) (sym (append_assoc a b c)) reads

-- a line that stands is taken: what it begins with, that this may come, what it says, and that it is within the limits
pub take_line : (r : Reader) (text rest : List ℕ) (k : Keyword) (l : Line) → lacks 10 text ≡ true
    → IsKeyword (first_word text) k → allows r.place k ≡ true → IsLineOf k (length r.plans) text l → is_within r l ≡ true
    → Reads (after r l) rest → Reads r (text ++ 10 ∷ rest)
take_line r text rest k l lack begins may form within (s, ends) =
    let stands : Stands r text l =
    record { expected = (k, begins, may); form = record { keyword = k; begins = begins; form = form }; within = within } in
    (s, subst (λ (texts : List (List ℕ)). Ends r texts s) (sym (line_cut text rest lack)) (l, stands, ends))

pub lt_test : (m n : ℕ) → m < n → nat_lt m n ≡ true
lt_test m n h = grind (arith, nat_tests)

pub le_test : (m n : ℕ) → m ≤ n → nat_le m n ≡ true
le_test m n h = grind (arith, nat_tests)

-- the reading at a place of a channel, with so many pieces, body bytes and bytes that readers read
abbrev pub reading : Reader → Place → Draft → ℕ → ℕ → ℕ → Reader
reading r p d pieces bytes read = record r { place = p; draft = Some d; pieces = pieces; bytes = bytes; read = read }

-- a channel with a response
abbrev pub replying : Draft → ResponseParts → Draft
replying d s = record d { response = Some s }

-- among the pieces
pub record IsBody (p : Place) : Type 0 where
  pub fill : allows p key.Fill ≡ true
  pub end : allows p key.End ≡ true

-- where a channel is complete
pub record IsDone (p : Place) : Type 0 where
  pub channel : allows p key.Channel ≡ true
  pub last : may_end p ≡ true

-- where a channel is complete, and may have a reaction
pub record IsOption (p : Place) : Type 0 where
  pub reaction : allows p key.At ≡ true
  pub done : IsDone p
  pub behind : IsDone (behind_reaction p)

-- so many channels were read
pub record Reached (k : ℕ) (r : Reader) : Type 0 where
  pub channel : allows r.place key.Channel ≡ true
  pub plans : length (plans_of r) ≤ k
  pub pieces : r.pieces ≤ 64 * k
  pub bytes : r.bytes ≤ 524288 * k
  pub read : r.read ≤ 1048576 * k
