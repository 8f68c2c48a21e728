-- The lines of a trace and of readers tell them.
use Rattle.std.proofs.Common.{◌≡◌, ℕ, ◌+◌, ◌/◌, zero, suc, Bool, true, false, ◌||◌, ◌==◌, if◌then◌else◌, List, [], ◌∷◌, ◌++◌, Option, Some, None, codes, length, refl, sym, ap, ◌∙◌, append_assoc, map-id, eqb-true, arith}
use Rattle.std.specs.Prelude.{All}
use Rattle.std.specs.List.{list_all, flat_map}
use Rattle.std.specs.Fmt.{decimal}
use Rattle.nk_base.specs.declared.status.Status.{Status}
use Rattle.nk_base.specs.declared.field.Field.{Field}
use Rattle.nk_base.specs.declared.message.Entry.{Entry}
use Rattle.nk_base.specs.declared.message.Entry.TheVariants as entry
use Rattle.nk_base.specs.Fields.{is_good_name, is_good_value, is_good_field}
use Rattle.nk_plan.specs.declared.ends.ReaderEnd.{ReaderEnd}
use Rattle.nk_trace.specs.Words.{words, line, code_text, status_text, hex_text}
use Rattle.nk_trace.specs.Report.{trailer_line, entry_lines, bytes_text, stop_text, reader_line, reader_lines}
use Rattle.nk_trace_law.specs.Lines.{is_line, is_word, ended}
use Rattle.nk_trace_law.specs.Fits.{is_parted_trailer, EntryFits, BytesFit, StopFits, ReaderFits}
use Rattle.nk_trace_law.specs.TraceLaws.{GoodPartedLaw, EntryLinesLaw, ReaderLineLaw}
use Rattle.nk_trace_law.proofs.Tests.{in_word, in_line, first_byte, both, join, more, weaker, differ, cut, same_words, first_line, line_of_words, lines_of_words}
use Rattle.nk_trace_law.proofs.Digits.{number, decimal_number, code_number, status, status_status, status_long, bytes_of, hex_text_bytes, not_sign, decimal_word, code_word, status_word, hex_text_word}
use Rattle.nk_trace_law.proofs.Read.{at1, at2, at3, at4}
use Rattle.nk_trace_law.proofs.Lined.{good_name_word, good_value_line}
use Rattle.nk_trace_law.proofs.Each.{each_told, first_of_all, others_of_all}

-- TRAILERS

parted : (f : Field) → is_good_field f ≡ true → is_parted_trailer f ≡ true
parted f h =
    let hs = both (is_good_name f.name) (is_good_value f.value) h in
    join (is_word f.name) (is_line f.value) (good_name_word f.name hs.0) (good_value_line f.value hs.1)

pub good_parted_law : GoodPartedLaw
good_parted_law ts h = weaker is_good_field is_parted_trailer parted ts h

abbrev Parted : Field → Type 0
Parted t = is_parted_trailer t ≡ true

-- a name, a space, a value and a line feed
trailer_is : (t : Field) (more : List ℕ) → trailer_line t ++ more ≡ codes "trailer" ++ 32 ∷ (t.name ++ 32 ∷ (t.value ++ 10 ∷ more))
trailer_is t more =
    ap (λ (x : List ℕ). codes "trailer" ++ 32 ∷ (x ++ more)) (append_assoc t.name (32 ∷ t.value) (10 ∷ []))
    ∙ (ap (λ (x : List ℕ). codes "trailer" ++ 32 ∷ x) (append_assoc t.name (32 ∷ (t.value ++ 10 ∷ [])) more)
    ∙ ap (λ (x : List ℕ). codes "trailer" ++ 32 ∷ (t.name ++ 32 ∷ x)) (append_assoc t.value (10 ∷ []) more))

behind : (xs ys : List ℕ) → codes "trailer" ++ 32 ∷ xs ≡ codes "trailer" ++ 32 ∷ ys → xs ≡ ys
behind xs ys e = cc

same_trailer : (t u : Field) (r s : List ℕ) → Parted t → Parted u → trailer_line t ++ r ≡ trailer_line u ++ s → (t ≡ u) × (r ≡ s)
same_trailer t u r s p q e =
    let ps = both (is_word t.name) (is_line t.value) p in
    let qs = both (is_word u.name) (is_line u.value) q in
    let texts = behind (t.name ++ 32 ∷ (t.value ++ 10 ∷ r)) (u.name ++ 32 ∷ (u.value ++ 10 ∷ s)) (sym (trailer_is t r) ∙ (e ∙ trailer_is u s)) in
    let names = cut in_word t.name u.name 32 32 (t.value ++ 10 ∷ r) (u.value ++ 10 ∷ s) ps.0 qs.0 refl refl texts in
    let values = cut in_line t.value u.value 10 10 r s ps.1 qs.1 refl refl names.2 in
    let make : List ℕ → List ℕ → Field = λ n v. record { name = n; value = v } in
    (ap (λ (n : List ℕ). make n t.value) names.0 ∙ ap (λ (v : List ℕ). make u.name v) values.0, values.2)

at_place : (t : Field) (ts : List Field) → Parted t → All Parted ts → All Parted (t ∷ ts)
at_place t ts p h zero d l = p
at_place t ts p h (suc k) d l = h k d (omega (arith, l))

-- a test that each passes, of each
all_of : (ts : List Field) → list_all is_parted_trailer ts ≡ true → All Parted ts
all_of [] h = λ k d l. absurd (omega (arith, l))
all_of (t ∷ ts) h =
    let hs = both (is_parted_trailer t) (list_all is_parted_trailer ts) h in
    λ k d l. at_place t ts hs.0 (all_of ts hs.1) k d l

-- WHERE A TRACE ENDS

abbrev rest_of : List ℕ → List ℕ
rest_of [] = []
rest_of (b ∷ bs) = bs

-- what the lines of a report begin with, told apart
abbrev tag : List ℕ → ℕ
tag text = if first_byte text == 115 then first_byte (rest_of (rest_of text)) else first_byte text

abbrev pub in_trace : List ℕ → Bool
in_trace text = (tag text == 97) || (tag text == 100) || (tag text == 111) || (tag text == 116)

stop_tag : (s : Status) (ts : List Field) (more : List ℕ) → ¬ (tag (entry_lines (entry.Stop s ts) ++ more) ≡ 97) × ¬ (tag (entry_lines (entry.Stop s ts) ++ more) ≡ 100)
stop_tag s [] more = (λ e. omega (arith, e), λ e. omega (arith, e))
stop_tag s (t ∷ ts) more = (λ e. omega (arith, e), λ e. omega (arith, e))

pub entry_in_trace : (e : Entry) (more : List ℕ) → in_trace (entry_lines e ++ more) ≡ true
entry_in_trace (entry.Start code s) more = refl
entry_in_trace (entry.Bytes o piece) more = refl
entry_in_trace (entry.Stop s []) more = refl
entry_in_trace (entry.Stop s (t ∷ ts)) more = refl

-- ENTRIES

-- two lines of words, whatever follows
pub same_line : (v w : List ℕ) (vs ws : List (List ℕ)) (r s : List ℕ) → list_all is_word (v ∷ vs) ≡ true → list_all is_word (w ∷ ws) ≡ true
    → line (v ∷ vs) ++ r ≡ line (w ∷ ws) ++ s → (v ∷ vs ≡ w ∷ ws) × (r ≡ s)
same_line v w vs ws r s p q e =
    let same = first_line (words (v ∷ vs)) (words (w ∷ ws)) r s (line_of_words (v ∷ vs) (lines_of_words (v ∷ vs) p)) (line_of_words (w ∷ ws) (lines_of_words (w ∷ ws) q)) e in
    (same_words v w vs ws p q (ap ended same.0), same.1)

pub entry_lines_law : EntryLinesLaw
entry_lines_law (entry.Start c s) (entry.Start d t) r u (p, a) (q, b) e =
    let same = same_line (codes "start") (codes "start") (code_text c ∷ status_text s ∷ []) (code_text d ∷ status_text t ∷ []) r u
    (more (code_word c) (more (status_word s) refl)) (more (code_word d) (more (status_word t) refl)) e in
    let codes_same : c ≡ d = sym (code_number c p) ∙ (ap (λ (ws : List (List ℕ)). number (at1 ws)) same.0 ∙ code_number d q) in
    let state_same : s ≡ t = sym (status_status s a) ∙ (ap (λ (ws : List (List ℕ)). status (at2 ws)) same.0 ∙ status_status t b) in
    (ap (λ (x : ℕ). entry.Start x s) codes_same ∙ ap (λ (x : Status). entry.Start d x) state_same, same.1)
entry_lines_law (entry.Bytes o x) (entry.Bytes k y) r u (p, a) (q, b) e =
    let same = same_line (codes "data") (codes "data") (decimal o ∷ hex_text x ∷ []) (decimal k ∷ hex_text y ∷ []) r u
    (more (decimal_word o) (more (hex_text_word x) refl)) (more (decimal_word k) (more (hex_text_word y) refl)) e in
    let places : o ≡ k = sym (decimal_number o p) ∙ (ap (λ (ws : List (List ℕ)). number (at1 ws)) same.0 ∙ decimal_number k q) in
    let pieces : x ≡ y = sym (hex_text_bytes x a) ∙ (ap (λ (ws : List (List ℕ)). bytes_of (at2 ws)) same.0 ∙ hex_text_bytes y b) in
    (ap (λ (z : ℕ). entry.Bytes z x) places ∙ ap (λ (z : List ℕ). entry.Bytes k z) pieces, same.1)
entry_lines_law (entry.Stop s ts) (entry.Stop t us) r u (p, a) (q, b) e =
    let last = line (codes "stop" ∷ status_text s ∷ []) in
    let final = line (codes "stop" ∷ status_text t ∷ []) in
    let same = each_told trailer_line (λ (x : Field). x) Parted same_trailer ts us (last ++ r) (final ++ u) (all_of ts a) (all_of us b)
    (λ x more h. omega (arith, ap first_byte h)) (λ x more h. omega (arith, ap first_byte h))
    (sym (append_assoc (flat_map trailer_line ts) last r) ∙ (e ∙ append_assoc (flat_map trailer_line us) final u)) in
    let lines = same_line (codes "stop") (codes "stop") (status_text s ∷ []) (status_text t ∷ []) r u (more (status_word s) refl) (more (status_word t) refl) same.1 in
    let state_same : s ≡ t = sym (status_status s p) ∙ (ap (λ (ws : List (List ℕ)). status (at1 ws)) lines.0 ∙ status_status t q) in
    let trailers : ts ≡ us = sym (map-id ts) ∙ (same.0 ∙ map-id us) in
    (ap (λ (x : Status). entry.Stop x ts) state_same ∙ ap (λ (x : List Field). entry.Stop t x) trailers, lines.1)
entry_lines_law (entry.Start c s) (entry.Bytes k y) r u p q e = absurd (omega (arith, ap tag e))
entry_lines_law (entry.Bytes k y) (entry.Start c s) r u p q e = absurd (omega (arith, ap tag e))
entry_lines_law (entry.Start c s) (entry.Stop t us) r u p q e = absurd ((stop_tag t us u).0 (sym (ap tag e)))
entry_lines_law (entry.Stop t us) (entry.Start c s) r u p q e = absurd ((stop_tag t us r).0 (ap tag e))
entry_lines_law (entry.Bytes k y) (entry.Stop t us) r u p q e = absurd ((stop_tag t us u).1 (sym (ap tag e)))
entry_lines_law (entry.Stop t us) (entry.Bytes k y) r u p q e = absurd ((stop_tag t us r).1 (ap tag e))

no_entry : (r : List ℕ) → in_trace r ≡ false → (e : Entry) (more : List ℕ) → ¬ (r ≡ entry_lines e ++ more)
no_entry r h e more x = differ (in_trace r) (ap in_trace x ∙ entry_in_trace e more) h

pub trace_told : (xs ys : List Entry) (r s : List ℕ) → All EntryFits xs → All EntryFits ys → in_trace r ≡ false → in_trace s ≡ false
    → flat_map entry_lines xs ++ r ≡ flat_map entry_lines ys ++ s → (xs ≡ ys) × (r ≡ s)
trace_told xs ys r s p q f g e =
    let same = each_told entry_lines (λ (x : Entry). x) EntryFits entry_lines_law xs ys r s p q (no_entry r f) (no_entry s g) e in
    (sym (map-id xs) ∙ (same.0 ∙ map-id ys), same.1)

-- READERS

abbrev read_given : List ℕ → List ℕ
read_given word = if first_byte word == 45 then [] else bytes_of word

not_none : {P : Type 0} (b : ℕ) (bs : List ℕ) → (length (b ∷ bs) == 0) ≡ true → P
not_none b bs e = absurd (omega (arith, eqb-true (length (b ∷ bs)) 0 e))

given_read_by : (bytes : List ℕ) (none : Bool) → (length bytes == 0) ≡ none → BytesFit bytes → read_given (if none then codes "-" else hex_text bytes) ≡ bytes
given_read_by [] true e h = refl
given_read_by [] false e h = refl
given_read_by (b ∷ bs) true e h = not_none b bs e
given_read_by (b ∷ bs) false e h =
    ap (λ (x : Bool). if x then [] else bytes_of (hex_text (b ∷ bs))) (not_sign (b / 16)) ∙ hex_text_bytes (b ∷ bs) h

given_read : (bytes : List ℕ) → BytesFit bytes → read_given (bytes_text bytes) ≡ bytes
given_read bytes h = given_read_by bytes (length bytes == 0) refl h

given_by : (bytes : List ℕ) (none : Bool) → is_word (if none then codes "-" else hex_text bytes) ≡ true
given_by bytes true = refl
given_by bytes false = hex_text_word bytes

given_word : (bytes : List ℕ) → is_word (bytes_text bytes) ≡ true
given_word bytes = given_by bytes (length bytes == 0)

abbrev read_stop : List ℕ → Option Status
read_stop word = if length word == 4 then None else Some (status word)

stop_read : (s : Option Status) → StopFits s → read_stop (stop_text s) ≡ s
stop_read None h = refl
stop_read (Some s) h = ap (λ (n : ℕ). if n == 4 then None else Some (status (status_text s))) (status_long s) ∙ ap Some (status_status s h)

stop_word : (s : Option Status) → is_word (stop_text s) ≡ true
stop_word None = refl
stop_word (Some s) = status_word s

abbrev reader_behind : ℕ → ReaderEnd → List (List ℕ)
reader_behind n r = decimal n ∷ decimal (length r.bytes) ∷ bytes_text r.bytes ∷ stop_text r.status ∷ []

reader_words_are : (n : ℕ) (r : ReaderEnd) → list_all is_word (codes "reader" ∷ reader_behind n r) ≡ true
reader_words_are n r = more (decimal_word n) (more (decimal_word (length r.bytes)) (more (given_word r.bytes) (more (stop_word r.status) refl)))

pub same_reader : (m n : ℕ) (q r : ReaderEnd) (more other : List ℕ) → ReaderFits q → ReaderFits r → reader_line m q ++ more ≡ reader_line n r ++ other → (q ≡ r) × (more ≡ other)
same_reader m n q r more other (p, a) (x, b) e =
    let same = same_line (codes "reader") (codes "reader") (reader_behind m q) (reader_behind n r) more other (reader_words_are m q) (reader_words_are n r) e in
    let given : q.bytes ≡ r.bytes = sym (given_read q.bytes p) ∙ (ap (λ (ws : List (List ℕ)). read_given (at3 ws)) same.0 ∙ given_read r.bytes x) in
    let stops : q.status ≡ r.status = sym (stop_read q.status a) ∙ (ap (λ (ws : List (List ℕ)). read_stop (at4 ws)) same.0 ∙ stop_read r.status b) in
    let make : List ℕ → Option Status → ReaderEnd = λ y z. record { bytes = y; status = z } in
    (ap (λ (y : List ℕ). make y q.status) given ∙ ap (λ (z : Option Status). make r.bytes z) stops, same.1)

pub reader_line_law : ReaderLineLaw
reader_line_law m n q r a b e = (same_reader m n q r [] [] a b (ap (λ (t : List ℕ). t ++ []) e)).0

abbrev pub in_readers : List ℕ → Bool
in_readers text = first_byte text == 114

pub readers_told : (n : ℕ) (qs rs : List ReaderEnd) (more other : List ℕ) → All ReaderFits qs → All ReaderFits rs → in_readers more ≡ false → in_readers other ≡ false
    → reader_lines n qs ++ more ≡ reader_lines n rs ++ other → (qs ≡ rs) × (more ≡ other)
readers_told n [] [] more other p q f g e = (refl, e)
readers_told n [] (r ∷ rs) more other p q f g e = differ (in_readers more) (ap in_readers e) f
readers_told n (r ∷ rs) [] more other p q f g e = differ (in_readers other) (sym (ap in_readers e)) g
readers_told n (x ∷ qs) (y ∷ rs) more other p q f g e =
    let same = same_reader n n x y (reader_lines (n + 1) qs ++ more) (reader_lines (n + 1) rs ++ other) (first_of_all ReaderFits x qs p) (first_of_all ReaderFits y rs q)
    (sym (append_assoc (reader_line n x) (reader_lines (n + 1) qs) more) ∙ (e ∙ append_assoc (reader_line n y) (reader_lines (n + 1) rs) other)) in
    let others = readers_told (n + 1) qs rs more other (others_of_all ReaderFits x qs p) (others_of_all ReaderFits y rs q) f g same.1 in
    (ap (λ (z : ReaderEnd). z ∷ qs) same.0 ∙ ap (λ (zs : List ReaderEnd). y ∷ zs) others.0, others.1)
