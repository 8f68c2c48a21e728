-- The report is the parts of its channels.
use Rattle.std.proofs.Common.{◌≡◌, ℕ, ◌+◌, Bool, true, false, not, List, [], ◌∷◌, ◌++◌, inl, inr, codes, refl, sym, ap, ◌∙◌, append_assoc}
use Rattle.std.specs.List.{list_all, flat_map, concat, AllZip}
use Rattle.std.specs.Fmt.{decimal}
use Rattle.nk_base.specs.declared.message.Entry.{Entry}
use Rattle.nk_plan.specs.declared.ends.Ending.{Ending}
use Rattle.nk_plan.specs.declared.ends.ReaderEnd.{ReaderEnd}
use Rattle.nk_plan.specs.declared.ends.ChannelEnd.{ChannelEnd}
use Rattle.nk_trace.specs.Words.{words}
use Rattle.nk_trace.specs.Report.{channel_line, entry_lines, reader_lines, end_line, channel_text, channel_texts}
use Rattle.nk_trace_law.specs.Lines.{is_line, ended, is_channel_line}
use Rattle.nk_trace_law.specs.LineLaws.{saw_plain_trailers}
use Rattle.nk_trace_law.specs.PartLaws.{parts, JoinedLaw, BeginsLaw, PartsLaw, SeemsAs, PlainTextLaw}
use Rattle.nk_trace_law.proofs.Tests.{both, weaker, first_line, not_empty}
use Rattle.nk_trace_law.proofs.Fronts.{Follows, same_front}
use Rattle.nk_trace_law.proofs.Lined.{in_part, behind_first, part_made, channel_is}

joined : (log : Bool) (n : ℕ) (es : List ChannelEnd) → channel_texts log n es ≡ concat (parts log n es)
joined log n [] = refl
joined log n (e ∷ es) = ap (λ (t : List ℕ). channel_text log n e ++ t) (joined log (n + 1) es)

pub joined_law : JoinedLaw
joined_law es log = joined log 1 es

line_test : (l : List ℕ) → in_part l ≡ true → is_line l ≡ true
line_test l h = (both (is_line l) (not (is_channel_line l)) h).0

other_test : (l : List ℕ) → in_part l ≡ true → not (is_channel_line l) ≡ true
other_test l h = (both (is_line l) (not (is_channel_line l)) h).1

pub begins_law : BeginsLaw
begins_law log n e h =
    let a = part_made log e h in
    (a.lines, ap (λ (t : List ℕ). channel_line n ++ t) a.joined, weaker in_part is_line line_test a.lines a.pass, weaker in_part (λ l. not (is_channel_line l)) other_test a.lines a.pass)

-- WHERE A PART ENDS

abbrev first_words : ℕ → List ℕ
first_words n = words (codes "channel" ∷ decimal n ∷ [])

-- it is no line behind the first
name_is : (n : ℕ) → in_part (first_words n) ≡ false
name_is n = rw (channel_is n) refl

follows : (log : Bool) (n : ℕ) (es : List ChannelEnd) → Follows in_part (channel_texts log n es)
follows log n [] = inl refl
follows log n (e ∷ es) = inr (record {
  line = first_words n;
  rest = behind_first log e ++ channel_texts log (n + 1) es;
  begins = append_assoc (channel_line n) (behind_first log e) (channel_texts log (n + 1) es);
  is = channel_is n;
  other = name_is n;
})

same_parts : (here there : Bool) (n : ℕ) (ds es : List ChannelEnd) → list_all saw_plain_trailers ds ≡ true → list_all saw_plain_trailers es ≡ true
    → channel_texts here n ds ≡ channel_texts there n es → parts here n ds ≡ parts there n es
same_parts here there n [] [] p q e = refl
same_parts here there n [] (x ∷ es) p q e =
    not_empty (first_words n) (behind_first there x ++ channel_texts there (n + 1) es) (sym (append_assoc (channel_line n) (behind_first there x) (channel_texts there (n + 1) es)) ∙ sym e)
same_parts here there n (x ∷ ds) [] p q e =
    not_empty (first_words n) (behind_first here x ++ channel_texts here (n + 1) ds) (sym (append_assoc (channel_line n) (behind_first here x) (channel_texts here (n + 1) ds)) ∙ e)
same_parts here there n (d ∷ ds) (x ∷ es) p q e =
    let ps = both (saw_plain_trailers d) (list_all saw_plain_trailers ds) p in
    let qs = both (saw_plain_trailers x) (list_all saw_plain_trailers es) q in
    let a = part_made here d ps.0 in
    let b = part_made there x qs.0 in
    let r = channel_texts here (n + 1) ds in
    let s = channel_texts there (n + 1) es in
    let lines = first_line (first_words n) (first_words n) (behind_first here d ++ r) (behind_first there x ++ s) (channel_is n) (channel_is n)
    (sym (append_assoc (channel_line n) (behind_first here d) r) ∙ (e ∙ append_assoc (channel_line n) (behind_first there x) s)) in
    let same = same_front in_part line_test a.lines b.lines r s a.pass b.pass (follows here (n + 1) ds) (follows there (n + 1) es)
    (sym (ap (λ (t : List ℕ). t ++ r) a.joined) ∙ (lines.1 ∙ ap (λ (t : List ℕ). t ++ s) b.joined)) in
    let body : behind_first here d ≡ behind_first there x = a.joined ∙ (ap (flat_map ended) same.0 ∙ sym b.joined) in
    let first : channel_text here n d ≡ channel_text there n x = ap (λ (t : List ℕ). channel_line n ++ t) body in
    let rest : parts here (n + 1) ds ≡ parts there (n + 1) es = same_parts here there (n + 1) ds es ps.1 qs.1 same.1 in
    ap (λ (t : List ℕ). t ∷ parts here (n + 1) ds) first ∙ ap (λ (ts : List (List ℕ)). channel_text there n x ∷ ts) rest

pub parts_law : PartsLaw
parts_law ds es here there p q e = same_parts here there 1 ds es p q e

-- WITHOUT THE LOG

plain_same : (n : ℕ) (d e : ChannelEnd) → SeemsAs d e → channel_text false n d ≡ channel_text false n e
plain_same n d e h =
    let f : List Entry → List ReaderEnd → Ending → List ℕ = λ t r x. channel_line n ++ (flat_map entry_lines t ++ (reader_lines 1 r ++ (end_line x ++ []))) in
    ap (λ (t : List Entry). f t d.readers d.ending) h.trace
    ∙ (ap (λ (r : List ReaderEnd). f e.trace r d.ending) h.readers ∙ ap (λ (x : Ending). f e.trace e.readers x) h.ending)

plain_texts : (n : ℕ) (ds es : List ChannelEnd) → AllZip SeemsAs ds es → channel_texts false n ds ≡ channel_texts false n es
plain_texts n [] [] h = refl
plain_texts n [] (e ∷ es) h = absurd h
plain_texts n (d ∷ ds) [] h = absurd h
plain_texts n (d ∷ ds) (e ∷ es) h =
    ap (λ (t : List ℕ). t ++ channel_texts false (n + 1) ds) (plain_same n d e h.0)
    ∙ ap (λ (t : List ℕ). channel_text false n e ++ t) (plain_texts (n + 1) ds es h.1)

pub plain_text_law : PlainTextLaw
plain_text_law ds es h = plain_texts 1 ds es h
