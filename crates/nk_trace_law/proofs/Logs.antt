-- The report tells what was seen, and the log the journals.
use Rattle.std.proofs.Common.{append_assoc, ◌≡◌, ℕ, ◌+◌, Bool, true, false, List, [], ◌∷◌, ◌++◌, map, codes, refl, sym, ap, ◌∙◌, arith, inl, inr}
use Rattle.std.specs.Prelude.{All}
use Rattle.std.specs.List.{list_all, flat_map, AllZip}
use Rattle.std.specs.Fmt.{decimal}
use Rattle.nk_base.specs.declared.field.Field.{Field}
use Rattle.nk_base.specs.declared.message.Entry.{Entry}
use Rattle.nk_base.specs.declared.message.Entry.TheVariants as entry
use Rattle.nk_plan.specs.declared.ends.Ending.{Ending}
use Rattle.nk_plan.specs.declared.ends.Ending.TheVariants as ending
use Rattle.nk_plan.specs.declared.ends.ReaderEnd.{ReaderEnd}
use Rattle.nk_plan.specs.declared.ends.ChannelEnd.{ChannelEnd}
use Rattle.nk_plan.specs.declared.journal.ParentEntry.{ParentEntry}
use Rattle.nk_plan.specs.declared.journal.ParentEntry.TheVariants as parent
use Rattle.nk_plan.specs.declared.journal.ChildEntry.{ChildEntry}
use Rattle.nk_trace.specs.Words.{words}
use Rattle.nk_trace.specs.Journals.{parent_line, forwarded_line, child_line}
use Rattle.nk_trace.specs.Report.{reader_lines, end_line, log_lines, channel_text, channel_line, channel_texts}
use Rattle.nk_trace_law.specs.Lines.{is_line, is_word, ended}
use Rattle.nk_trace_law.specs.Shown.{parent_shown, child_shown}
use Rattle.nk_trace_law.specs.Fits.{ParentFits, ChildFits, LogFits, is_parted_trailer, EntryFits, SeenFits}
use Rattle.nk_trace_law.specs.LineLaws.{is_plain_trailer, has_plain_trailers, saw_plain_trailers}
use Rattle.nk_trace_law.specs.PartLaws.{parts, SeemsAs}
use Rattle.nk_trace_law.specs.TraceLaws.{ReportLaw}
use Rattle.nk_trace_law.specs.LogLaws.{ParentBlockLaw, ChildBlockLaw, LogsAs, LogLaw, LogReportLaw, WithoutLogLaw}
use Rattle.nk_trace_law.proofs.Tests.{first_byte, both, join, weaker, line_of_word, first_line, line_of_words}
use Rattle.nk_trace_law.proofs.Digits.{number, decimal_number, decimal_word}
use Rattle.nk_trace_law.proofs.Read.{at1}
use Rattle.nk_trace_law.proofs.Lined.{behind_first, channel_is, seen_byte, in_seen, seen_text, seen_made, seen_behind, log_of}
use Rattle.nk_trace_law.proofs.Fronts.{Follows, same_front}
use Rattle.nk_trace_law.proofs.Parts.{parts_law}
use Rattle.nk_trace_law.specs.Spelled.{main_words, back_words, up_words, parent_words}
use Rattle.nk_trace_law.proofs.Spelling.{parent_spelled}
use Rattle.nk_trace_law.proofs.Told.{parent_line_law, child_line_law, parent_first, child_first, parent_body, parent_byte, child_byte}
use Rattle.nk_trace_law.proofs.Each.{each_told, first_of_all, others_of_all}
use Rattle.nk_trace_law.proofs.Traces.{trace_told, in_trace, readers_told, in_readers, same_line}

-- JOURNALS

one_parent : (d e : ParentEntry) (r s : List ℕ) → ParentFits d → ParentFits e → parent_line d ++ r ≡ parent_line e ++ s → (parent_shown d ≡ parent_shown e) × (r ≡ s)
one_parent d e r s p q h = let same = parent_first d e r s h in (parent_line_law d e p q same.0, same.1)

one_child : (d e : ChildEntry) (r s : List ℕ) → ChildFits d → ChildFits e → child_line d ++ r ≡ child_line e ++ s → (child_shown d ≡ child_shown e) × (r ≡ s)
one_child d e r s p q h = let same = child_first d e r s h in (child_line_law d e p q same.0, same.1)

-- no line of a parent's journal stands where the text begins with another byte
no_parent : (r : List ℕ) → ¬ (first_byte r ≡ 112) → (e : ParentEntry) (more : List ℕ) → ¬ (r ≡ parent_line e ++ more)
no_parent r h e more x = h (ap first_byte x ∙ parent_byte e more)

no_child : (r : List ℕ) → ¬ (first_byte r ≡ 99) → (e : ChildEntry) (more : List ℕ) → ¬ (r ≡ child_line e ++ more)
no_child r h e more x = h (ap first_byte x ∙ child_byte e more)

parent_told : (ds es : List ParentEntry) (r s : List ℕ) → All ParentFits ds → All ParentFits es → ¬ (first_byte r ≡ 112) → ¬ (first_byte s ≡ 112)
    → flat_map parent_line ds ++ r ≡ flat_map parent_line es ++ s → (map parent_shown ds ≡ map parent_shown es) × (r ≡ s)
parent_told ds es r s p q f g h = each_told parent_line parent_shown ParentFits one_parent ds es r s p q (no_parent r f) (no_parent s g) h

child_told : (ds es : List ChildEntry) (r s : List ℕ) → All ChildFits ds → All ChildFits es → ¬ (first_byte r ≡ 99) → ¬ (first_byte s ≡ 99)
    → flat_map child_line ds ++ r ≡ flat_map child_line es ++ s → (map child_shown ds ≡ map child_shown es) × (r ≡ s)
child_told ds es r s p q f g h = each_told child_line child_shown ChildFits one_child ds es r s p q (no_child r f) (no_child s g) h

pub parent_block_law : ParentBlockLaw
parent_block_law ds es p q h = (parent_told ds es [] [] p q (λ e. omega (arith, e)) (λ e. omega (arith, e)) (ap (λ (t : List ℕ). t ++ []) h)).0

pub child_block_law : ChildBlockLaw
child_block_law ds es p q h = (child_told ds es [] [] p q (λ e. omega (arith, e)) (λ e. omega (arith, e)) (ap (λ (t : List ℕ). t ++ []) h)).0

-- LOGS

one_word : (w : List ℕ) → is_word w ≡ true → list_all is_word (w ∷ []) ≡ true
one_word w h = join (is_word w) true h refl

pub log_law : LogLaw
log_law d e f g h =
    let forward = flat_map child_line d.child in
    let onward = flat_map child_line e.child in
    let parents = parent_told d.parent e.parent (forwarded_line d.forwarded ++ forward) (forwarded_line e.forwarded ++ onward) f.parent g.parent
    (λ x. omega (arith, x)) (λ x. omega (arith, x)) h in
    let middle = same_line (codes "forwarded") (codes "forwarded") (decimal d.forwarded ∷ []) (decimal e.forwarded ∷ []) forward onward
    (one_word (decimal d.forwarded) (decimal_word d.forwarded)) (one_word (decimal e.forwarded) (decimal_word e.forwarded)) parents.1 in
    record {
      parent = parents.0;
      forwarded = sym (decimal_number d.forwarded f.forwarded) ∙ (ap (λ (ws : List (List ℕ)). number (at1 ws)) middle.0 ∙ decimal_number e.forwarded g.forwarded);
      child = child_block_law d.child e.child f.child g.child middle.1;
    }

-- WHERE THE PARTS OF A CHANNEL END

-- how a log begins: with the parent's journal, or with the number of forwards
log_begins : (ps : List ParentEntry) (n : ℕ) (more : List ℕ) → (in_trace (flat_map parent_line ps ++ (forwarded_line n ++ more)) ≡ false) × (in_readers (flat_map parent_line ps ++ (forwarded_line n ++ more)) ≡ false) × ¬ (first_byte (flat_map parent_line ps ++ (forwarded_line n ++ more)) ≡ 101)
log_begins [] n more = (refl, refl, λ e. omega (arith, e))
log_begins (parent.Took m ∷ ps) n more = (refl, refl, λ e. omega (arith, e))
log_begins (parent.SentMain m ∷ ps) n more = (refl, refl, λ e. omega (arith, e))
log_begins (parent.SentBack m ∷ ps) n more = (refl, refl, λ e. omega (arith, e))

record Behind (t : List ℕ) : Type 0 where
  trace : in_trace t ≡ false
  readers : in_readers t ≡ false

log_is : (log : Bool) (e : ChannelEnd) → (in_trace (log_of log e) ≡ false) × (in_readers (log_of log e) ≡ false) × ¬ (first_byte (log_of log e) ≡ 101)
log_is true e = log_begins e.parent e.forwarded (flat_map child_line e.child)
log_is false e = (refl, refl, λ x. omega (arith, x))

end_is : (x : Ending) (more : List ℕ) → in_trace more ≡ false → in_readers more ≡ false → Behind (end_line x ++ more)
end_is ending.Stopped more p q = record { trace = refl; readers = refl }
end_is ending.Suspended more p q = record { trace = refl; readers = refl }
end_is ending.Unopened more p q = record { trace = refl; readers = refl }
end_is ending.Going more p q = record { trace = p; readers = q }

readers_are : (n : ℕ) (rs : List ReaderEnd) (more : List ℕ) → in_trace more ≡ false → in_trace (reader_lines n rs ++ more) ≡ false
readers_are n [] more p = p
readers_are n (r ∷ rs) more p = refl

-- which ending it is, by a byte of its line
abbrev sixth : List ℕ → ℕ
sixth (a ∷ b ∷ c ∷ d ∷ e ∷ f ∷ more) = f + e
sixth more = 0

not_ending : {P : Type 0} (m : List ℕ) (t : List ℕ) → ¬ (first_byte m ≡ 101) → first_byte t ≡ 101 → m ≡ t → P
not_ending m t h b e = absurd (h (ap first_byte e ∙ b))

same_ending : (x y : Ending) (r s : List ℕ) → ¬ (first_byte r ≡ 101) → ¬ (first_byte s ≡ 101) → end_line x ++ r ≡ end_line y ++ s → (x ≡ y) × (r ≡ s)
same_ending ending.Stopped ending.Stopped r s p q e = (refl, (cc))
same_ending ending.Suspended ending.Suspended r s p q e = (refl, (cc))
same_ending ending.Unopened ending.Unopened r s p q e = (refl, (cc))
same_ending ending.Going ending.Going r s p q e = (refl, e)
same_ending ending.Stopped ending.Suspended r s p q e = absurd (omega (arith, ap sixth e))
same_ending ending.Stopped ending.Unopened r s p q e = absurd (omega (arith, ap sixth e))
same_ending ending.Suspended ending.Stopped r s p q e = absurd (omega (arith, ap sixth e))
same_ending ending.Suspended ending.Unopened r s p q e = absurd (omega (arith, ap sixth e))
same_ending ending.Unopened ending.Stopped r s p q e = absurd (omega (arith, ap sixth e))
same_ending ending.Unopened ending.Suspended r s p q e = absurd (omega (arith, ap sixth e))
same_ending ending.Going ending.Stopped r s p q e = not_ending r (end_line ending.Stopped ++ s) p refl e
same_ending ending.Going ending.Suspended r s p q e = not_ending r (end_line ending.Suspended ++ s) p refl e
same_ending ending.Going ending.Unopened r s p q e = not_ending r (end_line ending.Unopened ++ s) p refl e
same_ending ending.Stopped ending.Going r s p q e = not_ending s (end_line ending.Stopped ++ r) q refl (sym e)
same_ending ending.Suspended ending.Going r s p q e = not_ending s (end_line ending.Suspended ++ r) q refl (sym e)
same_ending ending.Unopened ending.Going r s p q e = not_ending s (end_line ending.Unopened ++ r) q refl (sym e)

-- CHANNELS

-- a channel's part tells what was seen, and its log
channel_told : (here there : Bool) (d e : ChannelEnd) → SeenFits d → SeenFits e → behind_first here d ≡ behind_first there e → SeemsAs d e × (log_of here d ≡ log_of there e)
channel_told here there d e f g h =
    let x = log_is here d in
    let y = log_is there e in
    let end_here = end_is d.ending (log_of here d) x.0 x.1 in
    let end_there = end_is e.ending (log_of there e) y.0 y.1 in
    let traces = trace_told d.trace e.trace (reader_lines 1 d.readers ++ (end_line d.ending ++ log_of here d)) (reader_lines 1 e.readers ++ (end_line e.ending ++ log_of there e))
    f.trace g.trace (readers_are 1 d.readers (end_line d.ending ++ log_of here d) end_here.trace) (readers_are 1 e.readers (end_line e.ending ++ log_of there e) end_there.trace) h in
    let readers = readers_told 1 d.readers e.readers (end_line d.ending ++ log_of here d) (end_line e.ending ++ log_of there e) f.readers g.readers end_here.readers end_there.readers traces.1 in
    let endings = same_ending d.ending e.ending (log_of here d) (log_of there e) x.2 y.2 readers.1 in
    (record { trace = traces.0; readers = readers.0; ending = endings.0 }, endings.1)

part_told : (here there : Bool) (n : ℕ) (d e : ChannelEnd) → SeenFits d → SeenFits e → channel_text here n d ≡ channel_text there n e → SeemsAs d e × (log_of here d ≡ log_of there e)
part_told here there n d e f g h =
    let name = words (codes "channel" ∷ decimal n ∷ []) in
    channel_told here there d e f g (first_line name name (behind_first here d) (behind_first there e) (channel_is n) (channel_is n) h).1

-- trailers that are parted are plain
parted_plain : (t : Field) → is_parted_trailer t ≡ true → is_plain_trailer t ≡ true
parted_plain t h =
    let hs = both (is_word t.name) (is_line t.value) h in
    join (is_line t.name) (is_line t.value) (line_of_word t.name hs.0) hs.1

entry_plain : (e : Entry) → EntryFits e → has_plain_trailers e ≡ true
entry_plain (entry.Start c s) h = refl
entry_plain (entry.Bytes o x) h = refl
entry_plain (entry.Stop s ts) (p, q) = weaker is_parted_trailer is_plain_trailer parted_plain ts q

trace_plain : (es : List Entry) → All EntryFits es → list_all has_plain_trailers es ≡ true
trace_plain [] h = refl
trace_plain (e ∷ es) h =
    join (has_plain_trailers e) (list_all has_plain_trailers es) (entry_plain e (first_of_all EntryFits e es h)) (trace_plain es (others_of_all EntryFits e es h))

all_plain : (es : List ChannelEnd) → All SeenFits es → list_all saw_plain_trailers es ≡ true
all_plain [] h = refl
all_plain (e ∷ es) h =
    join (saw_plain_trailers e) (list_all saw_plain_trailers es) (trace_plain e.trace (first_of_all SeenFits e es h).trace) (all_plain es (others_of_all SeenFits e es h))

-- PARTS

no_part : {P : Type 0} (t : List ℕ) (ts : List (List ℕ)) → ◌≡◌ {A = List (List ℕ)} (t ∷ ts) [] → P
no_part t ts e = absurd (cc)

parts_told : (here there : Bool) (n : ℕ) (ds es : List ChannelEnd) → All SeenFits ds → All SeenFits es → parts here n ds ≡ parts there n es → AllZip SeemsAs ds es
parts_told here there n [] [] f g h = tt
parts_told here there n [] (e ∷ es) f g h = no_part (channel_text there n e) (parts there (n + 1) es) (sym h)
parts_told here there n (d ∷ ds) [] f g h = no_part (channel_text here n d) (parts here (n + 1) ds) h
parts_told here there n (d ∷ ds) (e ∷ es) f g h =
    let first : channel_text here n d ≡ channel_text there n e = cc in
    let rest : parts here (n + 1) ds ≡ parts there (n + 1) es = cc in (
      (part_told here there n d e (first_of_all SeenFits d ds f) (first_of_all SeenFits e es g) first).0,
      parts_told here there (n + 1) ds es (others_of_all SeenFits d ds f) (others_of_all SeenFits e es g) rest,
    )

pub report_law : ReportLaw
report_law ds es here there f g h = parts_told here there 1 ds es f g (parts_law ds es here there (all_plain ds f) (all_plain es g) h)

-- WITHOUT WHAT WAS SEEN

forwarded_body : (n : ℕ) → is_line (words (codes "forwarded" ∷ decimal n ∷ [])) ≡ true
forwarded_body n = line_of_words (codes "forwarded" ∷ decimal n ∷ []) (join (is_line (decimal n)) true (line_of_word (decimal n) (decimal_word n)) refl)

-- a line that begins as those of a log is none of what was seen
not_seen : (l : List ℕ) → is_line l ≡ true → seen_byte (first_byte l) ≡ false → in_seen l ≡ false
not_seen l p q = rw p q

p_not_seen : (ws : List (List ℕ)) → seen_byte (first_byte (words (codes "p" ∷ ws))) ≡ false
p_not_seen [] = refl
p_not_seen (w ∷ ws) = refl

parent_not_seen : (e : ParentEntry) → in_seen (words (parent_words e)) ≡ false
parent_not_seen (parent.Took m) = not_seen (words (codes "p" ∷ up_words m)) (parent_body (parent.Took m)) (p_not_seen (up_words m))
parent_not_seen (parent.SentMain m) = not_seen (words (codes "p" ∷ codes "send" ∷ main_words m)) (parent_body (parent.SentMain m)) refl
parent_not_seen (parent.SentBack m) = not_seen (words (codes "p" ∷ codes "send" ∷ back_words m)) (parent_body (parent.SentBack m)) refl

-- the line that a log begins with, which is no line of what was seen
log_opens : (ps : List ParentEntry) (n : ℕ) (more : List ℕ) → Follows in_seen (flat_map parent_line ps ++ (forwarded_line n ++ more))
log_opens [] n more = inr (record {
  line = words (codes "forwarded" ∷ decimal n ∷ []);
  rest = more;
  begins = refl;
  is = forwarded_body n;
  other = not_seen (words (codes "forwarded" ∷ decimal n ∷ [])) (forwarded_body n) refl;
})
log_opens (e ∷ ps) n more = inr (record {
  line = words (parent_words e);
  rest = flat_map parent_line ps ++ (forwarded_line n ++ more);
  begins = append_assoc (parent_line e) (flat_map parent_line ps) (forwarded_line n ++ more) ∙ ap (λ (t : List ℕ). t ++ (flat_map parent_line ps ++ (forwarded_line n ++ more))) (parent_spelled e);
  is = parent_body e;
  other = parent_not_seen e;
})

log_follows : (log : Bool) (e : ChannelEnd) → Follows in_seen (log_of log e)
log_follows true e = log_opens e.parent e.forwarded (flat_map child_line e.child)
log_follows false e = inl refl

seen_line : (l : List ℕ) → in_seen l ≡ true → is_line l ≡ true
seen_line l h = (both (is_line l) _ h).0

-- a channel's part with the log tells what was seen, as a text, and the log
log_parted : (n : ℕ) (d e : ChannelEnd) → saw_plain_trailers d ≡ true → saw_plain_trailers e ≡ true → channel_text true n d ≡ channel_text true n e
    → (seen_text d ≡ seen_text e) × (log_lines d ≡ log_lines e)
log_parted n d e p q h =
    let name = words (codes "channel" ∷ decimal n ∷ []) in
    let body = (first_line name name (behind_first true d) (behind_first true e) (channel_is n) (channel_is n) h).1 in
    let a = seen_made d p in
    let b = seen_made e q in
    let same = same_front in_seen seen_line a.lines b.lines (log_lines d) (log_lines e) a.pass b.pass (log_follows true d) (log_follows true e)
    (sym (ap (λ (t : List ℕ). t ++ log_lines d) a.joined) ∙ (sym (seen_behind true d) ∙ (body ∙ (seen_behind true e ∙ ap (λ (t : List ℕ). t ++ log_lines e) b.joined)))) in
    (a.joined ∙ (ap (flat_map ended) same.0 ∙ sym b.joined), same.1)

without : (n : ℕ) (d e : ChannelEnd) → seen_text d ≡ seen_text e → channel_text false n d ≡ channel_text false n e
without n d e h =
    ap (λ (t : List ℕ). channel_line n ++ t) (seen_behind false d ∙ (ap (λ (t : List ℕ). t ++ []) h ∙ sym (seen_behind false e)))

logs_told : (n : ℕ) (ds es : List ChannelEnd) → list_all saw_plain_trailers ds ≡ true → list_all saw_plain_trailers es ≡ true → All LogFits ds → All LogFits es → parts true n ds ≡ parts true n es → AllZip LogsAs ds es
logs_told n [] [] f g p q h = tt
logs_told n [] (e ∷ es) f g p q h = no_part (channel_text true n e) (parts true (n + 1) es) (sym h)
logs_told n (d ∷ ds) [] f g p q h = no_part (channel_text true n d) (parts true (n + 1) ds) h
logs_told n (d ∷ ds) (e ∷ es) f g p q h =
    let first : channel_text true n d ≡ channel_text true n e = cc in
    let rest : parts true (n + 1) ds ≡ parts true (n + 1) es = cc in
    let fs = both (saw_plain_trailers d) (list_all saw_plain_trailers ds) f in
    let gs = both (saw_plain_trailers e) (list_all saw_plain_trailers es) g in (
      log_law d e (first_of_all LogFits d ds p) (first_of_all LogFits e es q) (log_parted n d e fs.0 gs.0 first).1,
      logs_told (n + 1) ds es fs.1 gs.1 (others_of_all LogFits d ds p) (others_of_all LogFits e es q) rest,
    )

pub log_report_law : LogReportLaw
log_report_law ds es f g p q h = logs_told 1 ds es f g p q (parts_law ds es true true f g h)

texts_without : (n : ℕ) (ds es : List ChannelEnd) → list_all saw_plain_trailers ds ≡ true → list_all saw_plain_trailers es ≡ true → parts true n ds ≡ parts true n es → channel_texts false n ds ≡ channel_texts false n es
texts_without n [] [] f g h = refl
texts_without n [] (e ∷ es) f g h = no_part (channel_text true n e) (parts true (n + 1) es) (sym h)
texts_without n (d ∷ ds) [] f g h = no_part (channel_text true n d) (parts true (n + 1) ds) h
texts_without n (d ∷ ds) (e ∷ es) f g h =
    let first : channel_text true n d ≡ channel_text true n e = cc in
    let rest : parts true (n + 1) ds ≡ parts true (n + 1) es = cc in
    let fs = both (saw_plain_trailers d) (list_all saw_plain_trailers ds) f in
    let gs = both (saw_plain_trailers e) (list_all saw_plain_trailers es) g in
    ap (λ (t : List ℕ). t ++ channel_texts false (n + 1) ds) (without n d e (log_parted n d e fs.0 gs.0 first).0)
    ∙ ap (λ (t : List ℕ). channel_text false n e ++ t) (texts_without (n + 1) ds es fs.1 gs.1 rest)

pub without_log_law : WithoutLogLaw
without_log_law ds es f g h = texts_without 1 ds es f g (parts_law ds es true true f g h)
