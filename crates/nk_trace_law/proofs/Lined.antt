-- The report is lines: each text is lines, and which.
use Rattle.std.proofs.Common.{◌≢◌, map, length-append, ◌≡◌, ℕ, ◌+◌, Bool, true, false, ◌&&◌, ◌==◌, not, if◌then◌else◌, List, [], ◌∷◌, ◌++◌, Option, Some, None, codes, length, refl, sym, ap, ◌∙◌, append-nil, eqb-true, eq-eqb, append_assoc}
use Rattle.std.specs.List.{list_all, flat_map}
use Rattle.std.proofs.lemmas.List.{length-map}
use Rattle.std.specs.Fmt.{decimal}
use Rattle.nk_base.specs.declared.status.Status.{Status}
use Rattle.nk_base.specs.declared.field.Field.{Field}
use Rattle.nk_base.specs.declared.message.Entry.{Entry}
use Rattle.nk_base.specs.declared.message.Entry.TheVariants as entry
use Rattle.nk_base.specs.Fields.{is_name_byte, is_value_byte, is_good_name, is_good_value, is_good_field}
use Rattle.nk_plan.specs.declared.ends.Ending.{Ending}
use Rattle.nk_plan.specs.declared.ends.Ending.TheVariants as ending
use Rattle.nk_plan.specs.declared.ends.ReaderEnd.{ReaderEnd}
use Rattle.nk_plan.specs.declared.ends.ChannelEnd.{ChannelEnd}
use Rattle.nk_plan.specs.declared.journal.ParentEntry.{ParentEntry}
use Rattle.nk_plan.specs.declared.journal.ParentEntry.TheVariants as parent
use Rattle.nk_plan.specs.declared.journal.ChildEntry.{ChildEntry}
use Rattle.nk_trace.specs.Words.{words, line, code_text, status_text, hex_text}
use Rattle.nk_trace.specs.Journals.{parent_line, forwarded_line, child_line}
use Rattle.nk_trace.specs.Report.{channel_line, trailer_line, entry_lines, bytes_text, stop_text, reader_line, reader_lines, end_line, log_lines, channel_text, channel_texts}
use Rattle.nk_trace_law.specs.Lines.{is_line, is_word, ended, IsOneLine, is_channel_line}
use Rattle.nk_trace_law.specs.Spelled.{main_words, back_words, up_words, parent_words, child_words, child_behind}
use Rattle.nk_trace_law.specs.LineLaws.{is_plain_trailer, has_plain_trailers, saw_plain_trailers, ParentWordsLaw, ChildWordsLaw, OneWordsLaw, FirstLineLaw, JoinedLinesLaw, OneListLaw, OneLineLaws, EntryCountLaw, LinesLaw, GoodTrailersLaw}
use Rattle.nk_trace_law.proofs.Tests.{unless, first_byte, not_empty, in_word, in_line, both, join, more, flat_lines, first_line, same_words, weaker, differ, all_join, line_of_word, line_of_words, lines_of_words, one_list}
use Rattle.nk_trace_law.proofs.Digits.{decimal_word, code_word, status_word, hex_text_word}
use Rattle.nk_trace_law.proofs.Spelling.{parent_words_are, parent_spelled, child_words_are, child_spelled}

pub parent_words_law : ParentWordsLaw
parent_words_law e = (parent_spelled e, parent_words_are e)

pub child_words_law : ChildWordsLaw
child_words_law e = (child_spelled e, child_words_are e)

pub one_words_law : OneWordsLaw
one_words_law v w vs ws p q e = same_words v w vs ws p q e

pub first_line_law : FirstLineLaw
first_line_law l m r s p q e = first_line l m r s p q e

pub joined_lines_law : JoinedLinesLaw
joined_lines_law s t ls ms a b = record {
  joined = flat_lines s t ls ms a.joined b.joined;
  apart = all_join is_line ls ms a.apart b.apart;
}

pub one_list_law : OneListLaw
one_list_law text ls ms a b = one_list ls ms a.apart b.apart (sym a.joined ∙ b.joined)

-- a text is lines that pass a test
pub record Made (q : List ℕ → Bool) (text : List ℕ) : Type 0 where
  pub lines : List (List ℕ)
  pub joined : text ≡ flat_map ended lines
  pub pass : list_all q lines ≡ true

module _ (q : List ℕ → Bool) where
  none : Made q []
  none = record { lines = []; joined = refl; pass = refl }

  one : (l : List ℕ) → q l ≡ true → Made q (ended l)
  one l h = record { lines = l ∷ []; joined = sym (append-nil (ended l)); pass = join (q l) true h refl }

  pub behind : (s t : List ℕ) → Made q s → Made q t → Made q (s ++ t)
  behind s t a b = record {
    lines = a.lines ++ b.lines;
    joined = flat_lines s t a.lines b.lines a.joined b.joined;
    pass = all_join q a.lines b.lines a.pass b.pass;
  }

  each : {A : Type 0} (f : A → List ℕ) (test : A → Bool) → ((x : A) → test x ≡ true → Made q (f x)) → (xs : List A) → list_all test xs ≡ true → Made q (flat_map f xs)
  each f test g [] h = none
  each f test g (x ∷ xs) h =
      let hs = both (test x) (list_all test xs) h in
      behind (f x) (flat_map f xs) (g x hs.0) (each f test g xs hs.1)

  every : {A : Type 0} (f : A → List ℕ) → ((x : A) → Made q (f x)) → (xs : List A) → Made q (flat_map f xs)
  every f g [] = none
  every f g (x ∷ xs) = behind (f x) (flat_map f xs) (g x) (every f g xs)

-- a line of a channel's part behind the first
abbrev pub in_part : List ℕ → Bool
in_part l = is_line l && not (is_channel_line l)

-- a line of words
worded : (ws : List (List ℕ)) → list_all is_line ws ≡ true → not (is_channel_line (words ws)) ≡ true → Made in_part (line ws)
worded ws h n = one in_part (words ws) (join (is_line (words ws)) (not (is_channel_line (words ws))) (line_of_words ws h) n)

-- a line that is none of a log begins with another byte than those
abbrev pub seen_byte : ℕ → Bool
seen_byte b = not (b == 112) && (not (b == 102) && not (b == 99))

abbrev pub in_seen : List ℕ → Bool
in_seen l = is_line l && seen_byte (first_byte l)

seen_worded : (ws : List (List ℕ)) → list_all is_line ws ≡ true → seen_byte (first_byte (words ws)) ≡ true → Made in_seen (line ws)
seen_worded ws h n = one in_seen (words ws) (more (line_of_words ws h) n)

no_name : (b : ℕ) (bs : List ℕ) (here : Bool) → (99 == b) ≡ here → not (b == 99) ≡ true → is_channel_line (b ∷ bs) ≡ false
no_name b bs true e h = differ (b == 99) (eq-eqb b 99 (sym (eqb-true 99 b e))) (unless (b == 99) h)
no_name b bs false e h = rw e refl

not_named : (l : List ℕ) → not (first_byte l == 99) ≡ true → not (is_channel_line l) ≡ true
not_named [] h = refl
not_named (b ∷ bs) h = ap not (no_name b bs (99 == b) refl h)

-- it begins no channel
seen_in_part : (l : List ℕ) → in_seen l ≡ true → in_part l ≡ true
seen_in_part l h =
    let hs = both (is_line l) _ h in
    let gs = both (not (first_byte l == 112)) _ hs.1 in
    let fs = both (not (first_byte l == 102)) (not (first_byte l == 99)) gs.1 in
    more hs.0 (not_named l fs.1)

as_part : (t : List ℕ) → Made in_seen t → Made in_part t
as_part t a = record { lines = a.lines; joined = a.joined; pass = weaker in_seen in_part seen_in_part a.lines a.pass }

decimal_is : (n : ℕ) → is_line (decimal n) ≡ true
decimal_is n = line_of_word (decimal n) (decimal_word n)

code_is : (n : ℕ) → is_line (code_text n) ≡ true
code_is n = line_of_word (code_text n) (code_word n)

status_is : (s : Status) → is_line (status_text s) ≡ true
status_is s = line_of_word (status_text s) (status_word s)

hex_is : (bytes : List ℕ) → is_line (hex_text bytes) ≡ true
hex_is bytes = line_of_word (hex_text bytes) (hex_text_word bytes)

-- THE LINES

trailer_made : (t : Field) → is_plain_trailer t ≡ true → Made in_seen (trailer_line t)
trailer_made t h =
    let hs = both (is_line t.name) (is_line t.value) h in
    seen_worded (codes "trailer" ∷ t.name ∷ t.value ∷ []) (more hs.0 (more hs.1 refl)) refl

entry_made : (e : Entry) → has_plain_trailers e ≡ true → Made in_seen (entry_lines e)
entry_made (entry.Start code s) h = seen_worded (codes "start" ∷ code_text code ∷ status_text s ∷ []) (more (code_is code) (more (status_is s) refl)) refl
entry_made (entry.Bytes o piece) h = seen_worded (codes "data" ∷ decimal o ∷ hex_text piece ∷ []) (more (decimal_is o) (more (hex_is piece) refl)) refl
entry_made (entry.Stop s ts) h =
    behind in_seen (flat_map trailer_line ts) (line (codes "stop" ∷ status_text s ∷ []))
    (each in_seen trailer_line is_plain_trailer trailer_made ts h)
    (seen_worded (codes "stop" ∷ status_text s ∷ []) (more (status_is s) refl) refl)

given_by : (bytes : List ℕ) (none : Bool) → is_line (if none then codes "-" else hex_text bytes) ≡ true
given_by bytes true = refl
given_by bytes false = hex_is bytes

stop_is : (s : Option Status) → is_line (stop_text s) ≡ true
stop_is None = refl
stop_is (Some s) = status_is s

reader_made : (n : ℕ) (r : ReaderEnd) → Made in_seen (reader_line n r)
reader_made n r =
    seen_worded (codes "reader" ∷ decimal n ∷ decimal (length r.bytes) ∷ bytes_text r.bytes ∷ stop_text r.status ∷ [])
    (more (decimal_is n) (more (decimal_is (length r.bytes)) (more (given_by r.bytes (length r.bytes == 0)) (more (stop_is r.status) refl)))) refl

readers_made : (n : ℕ) (rs : List ReaderEnd) → Made in_seen (reader_lines n rs)
readers_made n [] = none in_seen
readers_made n (r ∷ rs) = behind in_seen (reader_line n r) (reader_lines (n + 1) rs) (reader_made n r) (readers_made (n + 1) rs)

end_made : (e : Ending) → Made in_seen (end_line e)
end_made ending.Stopped = seen_worded (codes "end stopped" ∷ []) refl refl
end_made ending.Suspended = seen_worded (codes "end suspended" ∷ []) refl refl
end_made ending.Unopened = seen_worded (codes "end unopened" ∷ []) refl refl
end_made ending.Going = none in_seen

behind_p : (ws : List (List ℕ)) → not (is_channel_line (words (codes "p" ∷ ws))) ≡ true
behind_p [] = refl
behind_p (w ∷ ws) = refl

behind_c : (ws : List (List ℕ)) → not (is_channel_line (words (codes "c" ∷ ws))) ≡ true
behind_c [] = refl
behind_c (w ∷ ws) = refl

turned : (q : List ℕ → Bool) (s t : List ℕ) → s ≡ t → Made q t → Made q s
turned q s t e a = record { lines = a.lines; joined = e ∙ a.joined; pass = a.pass }

parent_starts : (e : ParentEntry) → not (is_channel_line (words (parent_words e))) ≡ true
parent_starts (parent.Took m) = behind_p (up_words m)
parent_starts (parent.SentMain m) = behind_p (codes "send" ∷ main_words m)
parent_starts (parent.SentBack m) = behind_p (codes "send" ∷ back_words m)

parent_made : (e : ParentEntry) → Made in_part (parent_line e)
parent_made e = turned in_part (parent_line e) (line (parent_words e)) (parent_spelled e) (worded (parent_words e) (lines_of_words (parent_words e) (parent_words_are e)) (parent_starts e))

child_made : (e : ChildEntry) → Made in_part (child_line e)
child_made e = turned in_part (child_line e) (line (child_words e)) (child_spelled e) (worded (child_words e) (lines_of_words (child_words e) (child_words_are e)) (behind_c (child_behind e)))

forwarded_made : (n : ℕ) → Made in_part (forwarded_line n)
forwarded_made n = worded (codes "forwarded" ∷ decimal n ∷ []) (more (decimal_is n) refl) refl

log_made : (e : ChannelEnd) → Made in_part (log_lines e)
log_made e =
    behind in_part (flat_map parent_line e.parent) (forwarded_line e.forwarded ++ flat_map child_line e.child)
    (every in_part parent_line parent_made e.parent)
    (behind in_part (forwarded_line e.forwarded) (flat_map child_line e.child) (forwarded_made e.forwarded) (every in_part child_line child_made e.child))

log_by : (e : ChannelEnd) (log : Bool) → Made in_part (if log then log_lines e else [])
log_by e true = log_made e
log_by e false = none in_part

-- a channel's part behind its first line
abbrev pub behind_first : Bool → ChannelEnd → List ℕ
behind_first log e = flat_map entry_lines e.trace ++ (reader_lines 1 e.readers ++ (end_line e.ending ++ (if log then log_lines e else [])))

-- what of it does not depend on the log
abbrev pub seen_text : ChannelEnd → List ℕ
seen_text e = flat_map entry_lines e.trace ++ (reader_lines 1 e.readers ++ end_line e.ending)

abbrev pub log_of : Bool → ChannelEnd → List ℕ
log_of log e = if log then log_lines e else []

pub seen_behind : (log : Bool) (e : ChannelEnd) → behind_first log e ≡ seen_text e ++ log_of log e
seen_behind log e =
    ap (λ (t : List ℕ). flat_map entry_lines e.trace ++ t) (sym (append_assoc (reader_lines 1 e.readers) (end_line e.ending) (log_of log e)))
    ∙ sym (append_assoc (flat_map entry_lines e.trace) (reader_lines 1 e.readers ++ end_line e.ending) (log_of log e))

pub seen_made : (e : ChannelEnd) → saw_plain_trailers e ≡ true → Made in_seen (seen_text e)
seen_made e h =
    behind in_seen (flat_map entry_lines e.trace) (reader_lines 1 e.readers ++ end_line e.ending)
    (each in_seen entry_lines has_plain_trailers entry_made e.trace h)
    (behind in_seen (reader_lines 1 e.readers) (end_line e.ending) (readers_made 1 e.readers) (end_made e.ending))

pub part_made : (log : Bool) (e : ChannelEnd) → saw_plain_trailers e ≡ true → Made in_part (behind_first log e)
part_made log e h =
    turned in_part (behind_first log e) (seen_text e ++ log_of log e) (seen_behind log e)
    (behind in_part (seen_text e) (log_of log e) (as_part (seen_text e) (seen_made e h)) (log_by e log))

-- THE REPORT

pub channel_is : (n : ℕ) → is_line (words (codes "channel" ∷ decimal n ∷ [])) ≡ true
channel_is n = line_of_words (codes "channel" ∷ decimal n ∷ []) (more (decimal_is n) refl)

-- a byte in front of lines
in_front : (b : ℕ) (t : List ℕ) (ls : List (List ℕ)) → not (b == 10) ≡ true → t ++ 10 ∷ [] ≡ flat_map ended ls → list_all is_line ls ≡ true
    → Made is_line (b ∷ (t ++ 10 ∷ []))
in_front b t [] h e p = not_empty t [] (append-nil (ended t) ∙ e)
in_front b t (l ∷ ls) h e p =
    let ps = both (is_line l) (list_all is_line ls) p in
    record { lines = (b ∷ l) ∷ ls; joined = ap (λ (u : List ℕ). b ∷ u) e; pass = more (more h ps.0) ps.1 }

any_by : (b : ℕ) (t : List ℕ) (here : Bool) → (b == 10) ≡ here → Made is_line (t ++ 10 ∷ []) → Made is_line (b ∷ (t ++ 10 ∷ []))
any_by b t true e a = record {
  lines = [] ∷ a.lines;
  joined = ap (λ (c : ℕ). c ∷ (t ++ 10 ∷ [])) (eqb-true b 10 e) ∙ ap (λ (u : List ℕ). 10 ∷ u) a.joined;
  pass = a.pass;
}
any_by b t false e a = in_front b t a.lines (ap not e) a.joined a.pass

-- whatever ends with a line feed is lines
any_lines : (t : List ℕ) → Made is_line (t ++ 10 ∷ [])
any_lines [] = one is_line [] refl
any_lines (b ∷ t) = any_by b t (b == 10) refl (any_lines t)

any_entry : (e : Entry) → Made is_line (entry_lines e)
any_entry (entry.Start code s) = any_lines (words (codes "start" ∷ code_text code ∷ status_text s ∷ []))
any_entry (entry.Bytes o piece) = any_lines (words (codes "data" ∷ decimal o ∷ hex_text piece ∷ []))
any_entry (entry.Stop s ts) =
    behind is_line (flat_map trailer_line ts) (line (codes "stop" ∷ status_text s ∷ []))
    (every is_line trailer_line (λ t. any_lines (words (codes "trailer" ∷ t.name ∷ t.value ∷ []))) ts)
    (any_lines (words (codes "stop" ∷ status_text s ∷ [])))

in_part_is : (l : List ℕ) → in_part l ≡ true → is_line l ≡ true
in_part_is l h = (both (is_line l) (not (is_channel_line l)) h).0

as_lines : (t : List ℕ) → Made in_part t → Made is_line t
as_lines t a = record { lines = a.lines; joined = a.joined; pass = weaker in_part is_line in_part_is a.lines a.pass }

any_part : (log : Bool) (n : ℕ) (e : ChannelEnd) → Made is_line (channel_text log n e)
any_part log n e =
    let rest = if log then log_lines e else [] in
    behind is_line (channel_line n) (behind_first log e) (any_lines (words (codes "channel" ∷ decimal n ∷ [])))
    (behind is_line (flat_map entry_lines e.trace) (reader_lines 1 e.readers ++ (end_line e.ending ++ rest)) (every is_line entry_lines any_entry e.trace)
    (behind is_line (reader_lines 1 e.readers) (end_line e.ending ++ rest) (as_lines (reader_lines 1 e.readers) (as_part (reader_lines 1 e.readers) (readers_made 1 e.readers)))
    (behind is_line (end_line e.ending) rest (as_lines (end_line e.ending) (as_part (end_line e.ending) (end_made e.ending))) (as_lines rest (log_by e log)))))

texts_made : (log : Bool) (n : ℕ) (es : List ChannelEnd) → Made is_line (channel_texts log n es)
texts_made log n [] = none is_line
texts_made log n (e ∷ es) = behind is_line (channel_text log n e) (channel_texts log (n + 1) es) (any_part log n e) (texts_made log (n + 1) es)

pub lines_law : LinesLaw
lines_law es log = let a = texts_made log 1 es in (a.lines, record { joined = a.joined; apart = a.pass })

one_line : (l : List ℕ) → is_line l ≡ true → IsOneLine (ended l)
one_line l h = (l, record { joined = sym (append-nil (ended l)); apart = join (is_line l) true h refl })

line_at : (text : List ℕ) (ws : List (List ℕ)) → text ≡ line ws → list_all is_line ws ≡ true → IsOneLine text
line_at text ws e h = (words ws, record { joined = e ∙ sym (append-nil (ended (words ws))); apart = join (is_line (words ws)) true (line_of_words ws h) refl })

end_one : (e : Ending) → e ≢ ending.Going → IsOneLine (end_line e)
end_one ending.Stopped h = one_line (codes "end stopped") refl
end_one ending.Suspended h = one_line (codes "end suspended") refl
end_one ending.Unopened h = one_line (codes "end unopened") refl
end_one ending.Going h = absurd (h refl)

pub one_line_laws : OneLineLaws
one_line_laws = record {
  channel = λ n. one_line (words (codes "channel" ∷ decimal n ∷ [])) (channel_is n);
  trailer = λ t h.
      let hs = both (is_line t.name) (is_line t.value) h in
      line_at (trailer_line t) (codes "trailer" ∷ t.name ∷ t.value ∷ []) refl (more hs.0 (more hs.1 refl));
  ending = end_one;
  reader = λ n r. line_at (reader_line n r) (codes "reader" ∷ decimal n ∷ decimal (length r.bytes) ∷ bytes_text r.bytes ∷ stop_text r.status ∷ []) refl
      (more (decimal_is n) (more (decimal_is (length r.bytes)) (more (given_by r.bytes (length r.bytes == 0)) (more (stop_is r.status) refl))));
  parent = λ e. line_at (parent_line e) (parent_words e) (parent_spelled e) (lines_of_words (parent_words e) (parent_words_are e));
  forwarded = λ n. line_at (forwarded_line n) (codes "forwarded" ∷ decimal n ∷ []) refl (more (decimal_is n) refl);
  child = λ e. line_at (child_line e) (child_words e) (child_spelled e) (lines_of_words (child_words e) (child_words_are e));
}

-- LINES OF AN ENTRY

trailer_bodies : (ts : List Field) → list_all is_plain_trailer ts ≡ true → list_all is_line (map (λ t. words (codes "trailer" ∷ t.name ∷ t.value ∷ [])) ts) ≡ true
trailer_bodies [] h = refl
trailer_bodies (t ∷ ts) h =
    let hs = both (is_plain_trailer t) (list_all is_plain_trailer ts) h in
    let gs = both (is_line t.name) (is_line t.value) hs.0 in
    more (line_of_words (codes "trailer" ∷ t.name ∷ t.value ∷ []) (more gs.0 (more gs.1 refl))) (trailer_bodies ts hs.1)

trailers_joined : (ts : List Field) → flat_map trailer_line ts ≡ flat_map ended (map (λ t. words (codes "trailer" ∷ t.name ∷ t.value ∷ [])) ts)
trailers_joined [] = refl
trailers_joined (t ∷ ts) = ap (λ (u : List ℕ). trailer_line t ++ u) (trailers_joined ts)

pub entry_count_law : EntryCountLaw
entry_count_law (entry.Start c s) h =
    let a = line_at (entry_lines (entry.Start c s)) (codes "start" ∷ code_text c ∷ status_text s ∷ []) refl (more (code_is c) (more (status_is s) refl)) in
    (a.0 ∷ [], a.1, refl)
entry_count_law (entry.Bytes o x) h =
    let a = line_at (entry_lines (entry.Bytes o x)) (codes "data" ∷ decimal o ∷ hex_text x ∷ []) refl (more (decimal_is o) (more (hex_is x) refl)) in
    (a.0 ∷ [], a.1, refl)
entry_count_law (entry.Stop s ts) h =
    let body : Field → List ℕ = λ t. words (codes "trailer" ∷ t.name ∷ t.value ∷ []) in
    let last = words (codes "stop" ∷ status_text s ∷ []) in (
      map body ts ++ last ∷ [],
      record {
        joined = flat_lines (flat_map trailer_line ts) (ended last) (map body ts) (last ∷ []) (trailers_joined ts) (sym (append-nil (ended last)));
        apart = all_join is_line (map body ts) (last ∷ []) (trailer_bodies ts h) (more (line_of_words (codes "stop" ∷ status_text s ∷ []) (more (status_is s) refl)) refl);
      },
      length-append (map body ts) (last ∷ []) ∙ ap (λ (n : ℕ). n + 1) (length-map ts body),
    )

-- GOOD FIELDS

apart_by : (p : ℕ → Bool) (mark b : ℕ) (here : Bool) → (b == mark) ≡ here → p mark ≡ false → p b ≡ true → not here ≡ true
apart_by p mark b false e f h = refl
apart_by p mark b true e f h = differ (p b) h (ap p (eqb-true b mark e) ∙ f)

-- a byte that passes a test is none that does not
pub not_mark : (p : ℕ → Bool) (mark b : ℕ) → p mark ≡ false → p b ≡ true → not (b == mark) ≡ true
not_mark p mark b f h = apart_by p mark b (b == mark) refl f h

name_bytes : (name : List ℕ) → is_good_name name ≡ true → list_all is_name_byte name ≡ true
name_bytes name h = (both _ (list_all is_name_byte name) h).1

pub good_name_word : (name : List ℕ) → is_good_name name ≡ true → is_word name ≡ true
good_name_word name h = weaker is_name_byte in_word (λ b p. join (not (b == 32)) (not (b == 10)) (not_mark is_name_byte 32 b refl p) (not_mark is_name_byte 10 b refl p)) name (name_bytes name h)

pub good_value_line : (value : List ℕ) → is_good_value value ≡ true → is_line value ≡ true
good_value_line value h =
    let bytes : list_all is_value_byte value ≡ true = (both _ (list_all is_value_byte value) (both _ _ (both _ _ h).0).0).1 in
    weaker is_value_byte in_line (λ b p. not_mark is_value_byte 10 b refl p) value bytes

good_trailer : (f : Field) → is_good_field f ≡ true → is_plain_trailer f ≡ true
good_trailer f h =
    let hs = both (is_good_name f.name) (is_good_value f.value) h in
    join (is_line f.name) (is_line f.value) (line_of_word f.name (good_name_word f.name hs.0)) (good_value_line f.value hs.1)

pub good_trailers_law : GoodTrailersLaw
good_trailers_law ts h = weaker is_good_field is_plain_trailer good_trailer ts h
