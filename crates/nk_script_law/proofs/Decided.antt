-- Whether a line of a text has a meaning is decided, and so whether the text is one of a script.
use Rattle.std.proofs.Common.{◌≡◌, ℕ, ◌+◌, ◌≤◌, Bool, true, false, ◌⊎◌, inl, inr, List, [], ◌∷◌, ◌++◌, length, drop, Option, Some, None, slice_index, codes, replicate, refl, sym, ap, subst, ◌∙◌}
use Rattle.std.specs.List.{list_all}
use Rattle.nk_base.specs.Fields.{is_good_field}
use Rattle.nk_base.specs.Pieces.{IsPiece}
use Rattle.nk_script.specs.Texts.{words, first_word, before, behind}
use Rattle.nk_script.specs.Order.{IsKeyword}
use Rattle.nk_script.specs.Numbers.{IsDecimal, IsByte, IsBytes, IsCount, is_digit}
use Rattle.nk_script.specs.Lines.{IsHop, IsEnd, IsListener, IsReaction, IsAct, IsControl, IsStep, IsField, IsLineOf}
use Rattle.nk_script_law.proofs.OneLine.{one_bytes}
use Rattle.nk_script_law.proofs.Found.{Known, Search, pick, test, both, pair, shape, flag, number, at_most, text_same, words_same, find_decimal, find_byte, find_bytes}
use Rattle.nk_base.specs.declared.field.Field.{Field}
use Rattle.nk_plan.specs.declared.plan.Finish.{Finish}
use Rattle.nk_plan.specs.declared.plan.ListenerKind.{ListenerKind}
use Rattle.nk_plan.specs.declared.plan.ListenerKind.TheVariants as listener
use Rattle.nk_plan.specs.declared.plan.Reaction.{Reaction}
use Rattle.nk_plan.specs.declared.plan.Act.{Act}
use Rattle.nk_plan.specs.declared.plan.Control.{Control}
use Rattle.nk_plan.specs.declared.step.Step.{Step}
use Rattle.nk_script.specs.declared.line.HopLine.{HopLine}
use Rattle.nk_script.specs.declared.line.Keyword.{Keyword}
use Rattle.nk_script.specs.declared.line.Keyword.TheVariants as key
use Rattle.nk_script.specs.declared.line.Line.{Line}
use Rattle.nk_script.specs.declared.line.Line.TheVariants as line
use Rattle.nk_script.specs.declared.script.Script.{Script}
use Rattle.nk_script.specs.declared.script.Cause.{Cause}
use Rattle.nk_script.specs.declared.script.Cause.TheVariants as cause
use Rattle.nk_script.specs.declared.reader.Reader.{Reader}
use Rattle.nk_script.specs.Texts.{lines}
use Rattle.nk_script.specs.Order.{IsExpected, allows, may_end}
use Rattle.nk_script.specs.Draft.{start, after, is_within}
use Rattle.nk_script.specs.Grammar.{IsForm, Stands, Ends, Breaks, script_of}
use Rattle.nk_script.specs.LineLaws.{LineLaws}
use Rattle.nk_script_law.specs.Laws.{DecisionLaw}
use Rattle.nk_script_law.proofs.Forms.{at0, at1, at2, at3, rest_of, named, find_hop, find_end, find_reaction, find_act, find_step}

line_by : (T W A : Type 0) (P : W → A → Type 0) (F : W → T) (make : A → Line) (t : T) → Search A (λ x. (w : W) × (t ≡ F w) × P w x) → Search Line (λ l. (w : W) × (x : A) × (t ≡ F w) × P w x × (l ≡ make x))
line_by T W A P F make t (inl (x, h)) = inl (make x, (h.0, x, h.1, h.2, refl))
line_by T W A P F make t (inr n) = inr (λ l h. n h.1 (h.0, h.2, h.3))

headed : (A : Type 0) (P : List (List ℕ) → A → Type 0) → ((ws : List (List ℕ)) → Search A (P ws)) → (make : A → Line) (name : List ℕ) (all : List (List ℕ)) → Search Line (λ l. (ws : List (List ℕ)) × (x : A) × (all ≡ name ∷ ws) × P ws x × (l ≡ make x))
headed A P find make name all = line_by (List (List ℕ)) (List (List ℕ)) A P (λ ws. name ∷ ws) make all (shape (List (List ℕ)) (List (List ℕ)) A P (λ ws. name ∷ ws) rest_of (λ ws. refl) all (words_same all (name ∷ rest_of all)) (find (rest_of all)))

fixed : (text name : List ℕ) (x : Line) → Known (text ≡ name) → Search Line (λ l. (text ≡ name) × (l ≡ x))
fixed text name x (inl e) = inl (x, (e, refl))
fixed text name x (inr n) = inr (λ l h. n h.0)

no_listener : (ws : List (List ℕ)) → ¬ IsListener ws listener.Plain → ((b : ℕ × ℕ × ℕ) → ¬ IsListener ws (listener.Pipe b.0 b.1 b.2)) → (k : ListenerKind) → ¬ IsListener ws k
no_listener ws a b listener.Plain h = a h
no_listener ws a b (listener.Pipe m n o) h = b (m, n, o) h

pipe_by : (ws : List (List ℕ)) → Known (ws ≡ codes "pipe" ∷ at1 ws ∷ at2 ws ∷ at3 ws ∷ []) → Search ℕ (IsDecimal 4 65536 (at1 ws)) → Search ℕ (IsDecimal 1 1024 (at2 ws)) → Search ℕ (IsDecimal 1 8 (at3 ws)) → Search (ℕ × ℕ × ℕ) (λ b. IsListener ws (listener.Pipe b.0 b.1 b.2))
pipe_by ws (inl e) (inl (m, a)) (inl (n, b)) (inl (o, c)) = inl ((m, n, o), (at1 ws, at2 ws, at3 ws, e, a, b, c))
pipe_by ws (inl e) (inr n) b c = inr (λ x h. n x.0 (subst (λ (w : List ℕ). IsDecimal 4 65536 w x.0) (sym (ap at1 h.3)) h.4))
pipe_by ws (inl e) a (inr n) c = inr (λ x h. n x.1 (subst (λ (w : List ℕ). IsDecimal 1 1024 w x.1) (sym (ap at2 h.3)) h.5))
pipe_by ws (inl e) a b (inr n) = inr (λ x h. n x.2 (subst (λ (w : List ℕ). IsDecimal 1 8 w x.2) (sym (ap at3 h.3)) h.6))
pipe_by ws (inr n) a b c = inr (λ x h. n (h.3 ∙ sym (ap (λ (vs : List (List ℕ)). codes "pipe" ∷ at1 vs ∷ at2 vs ∷ at3 vs ∷ []) h.3)))

find_listener : (ws : List (List ℕ)) → Search ListenerKind (IsListener ws)
find_listener ws = test ListenerKind listener.Plain (IsListener ws) (words_same ws (codes "plain" ∷ [])) (λ a.
    pick ListenerKind (ℕ × ℕ × ℕ) (λ b. listener.Pipe b.0 b.1 b.2) (IsListener ws) (pipe_by ws (words_same ws (codes "pipe" ∷ at1 ws ∷ at2 ws ∷ at3 ws ∷ [])) (find_decimal 4 65536 (at1 ws)) (find_decimal 1 1024 (at2 ws)) (find_decimal 1 8 (at3 ws))) (λ b. inr (no_listener ws a b)))

abbrev Split : List (List ℕ) → (A : Type 0) → (List ℕ × List (List ℕ) → A → Type 0) → A → Type 0
Split ws A P x = (u : List ℕ × List (List ℕ)) × (ws ≡ u.0 ∷ u.1) × P u x

split : (A B : Type 0) (P : List ℕ → A → Type 0) (Q : List (List ℕ) → B → Type 0) (ws : List (List ℕ)) → Search A (P (at0 ws)) → Search B (Q (rest_of ws)) → Search (A × B) (Split ws (A × B) (λ u x. P u.0 x.0 × Q u.1 x.1))
split A B P Q ws a b = shape (List (List ℕ)) (List ℕ × List (List ℕ)) (A × B) (λ u x. P u.0 x.0 × Q u.1 x.1) (λ u. u.0 ∷ u.1) (λ vs. (at0 vs, rest_of vs)) (λ u. refl) ws (words_same ws (at0 ws ∷ rest_of ws)) (pair A B (P (at0 ws)) (Q (rest_of ws)) a b)

control_by : (ws : List (List ℕ)) → Search (ℕ × Act) (Split ws (ℕ × Act) (λ u x. IsDecimal 0 100000 u.0 x.0 × IsAct u.1 x.1)) → Search Control (IsControl ws)
control_by ws (inl (x, h)) = inl (record { after = x.0; act = x.1 }, record { count = h.0.0; call = h.0.1; spelled = h.1; after = h.2.0; performed = h.2.1 })
control_by ws (inr n) = inr (λ c h. n (c.after, c.act) ((h.count, h.call), h.spelled, (h.after, h.performed)))

find_control : (ws : List (List ℕ)) → Search Control (IsControl ws)
find_control ws = control_by ws (split ℕ Act (IsDecimal 0 100000) IsAct ws (find_decimal 0 100000 (at0 ws)) (find_act (rest_of ws)))

step_by : (n : ℕ) (text : List ℕ) → Search (ℕ × Step) (Split (words text) (ℕ × Step) (λ u x. IsDecimal 1 n u.0 x.0 × IsStep u.1 x.1)) → Search Line (IsLineOf key.Number n text)
step_by n text (inl (x, h)) = inl (line.Step (record { channel = x.0; step = x.1 }), (h.0.0, h.0.1, record { channel = x.0; step = x.1 }, h.1, h.2.0, h.2.1, refl))
step_by n text (inr none) = inr (λ l h. none (h.2.channel, h.2.step) ((h.0, h.1), h.3, (h.4, h.5)))

fill_by : (n : ℕ) (text : List ℕ) → Known (words text ≡ codes "fill" ∷ at1 (words text) ∷ at2 (words text) ∷ []) → Search ℕ (IsByte (at1 (words text))) → Search ℕ (IsDecimal 1 131072 (at2 (words text))) → Search Line (IsLineOf key.Fill n text)
fill_by n text (inl e) (inl (b, x)) (inl (c, y)) = inl (line.Piece (replicate c b), (at1 (words text), at2 (words text), b, c, e, x, y, refl))
fill_by n text (inl e) (inr none) c = inr (λ l h. none h.2 (subst (λ (w : List ℕ). IsByte w h.2) (sym (ap at1 h.4)) h.5))
fill_by n text (inl e) b (inr none) = inr (λ l h. none h.3 (subst (λ (w : List ℕ). IsDecimal 1 131072 w h.3) (sym (ap at2 h.4)) h.6))
fill_by n text (inr none) b c = inr (λ l h. none (h.4 ∙ sym (ap (λ (vs : List (List ℕ)). codes "fill" ∷ at1 vs ∷ at2 vs ∷ []) h.4)))

is_piece : (bytes : List ℕ) → Known (IsPiece bytes)
is_piece bytes = both (1 ≤ length bytes) (length bytes ≤ 131072) (at_most 1 (length bytes)) (at_most (length bytes) 131072)

piece_by : (n : ℕ) (text : List ℕ) → Known (text ≡ codes "piece " ++ drop 6 text) → Known (IsPiece (drop 6 text)) → Search Line (IsLineOf key.Piece n text)
piece_by n text (inl e) (inl p) = inl (line.Piece (drop 6 text), (drop 6 text, e, p, refl))
piece_by n text (inl e) (inr none) = inr (λ l h. none (subst IsPiece (sym (ap (drop 6) h.1)) h.2))
piece_by n text (inr none) p = inr (λ l h. none (h.1 ∙ sym (ap (λ (xs : List ℕ). codes "piece " ++ drop 6 xs) h.1)))

hex_bytes : (digits bytes : List ℕ) → IsBytes digits bytes → Known (IsPiece bytes) → Search (List ℕ) (λ bs. IsBytes digits bs × IsPiece bs)
hex_bytes digits bytes x (inl p) = inl (bytes, (x, p))
hex_bytes digits bytes x (inr none) = inr (λ bs h. none (subst IsPiece (one_bytes digits bs bytes h.0 x) h.1))

hex_piece : (digits : List ℕ) → Search (List ℕ) (IsBytes digits) → Search (List ℕ) (λ bs. IsBytes digits bs × IsPiece bs)
hex_piece digits (inl (bytes, x)) = hex_bytes digits bytes x (is_piece bytes)
hex_piece digits (inr none) = inr (λ bs h. none bs h.0)

hex_by : (n : ℕ) (text : List ℕ) → Search (List ℕ) (λ bs. (w : List ℕ) × (text ≡ codes "hex " ++ w) × (IsBytes w bs × IsPiece bs)) → Search Line (IsLineOf key.Hex n text)
hex_by n text (inl (bs, h)) = inl (line.Piece bs, (h.0, bs, h.1, h.2.0, h.2.1, refl))
hex_by n text (inr none) = inr (λ l h. none h.1 (h.0, h.2, (h.3, h.4)))

count_by : (word : List ℕ) → Known (1 ≤ length word) → Known (list_all is_digit word ≡ true) → Known (slice_index word 0 ≡ 48) → Known (IsCount word)
count_by word (inl a) (inl b) (inr c) = inl (record { nonempty = a; digits = b; no_leading_zero = c })
count_by word (inl a) (inl b) (inl c) = inr (λ h. h.no_leading_zero c)
count_by word (inl a) (inr n) c = inr (λ h. n h.digits)
count_by word (inr n) b c = inr (λ h. n h.nonempty)

no_keyword : (w : List ℕ) → ¬ IsKeyword w key.Script → ¬ IsKeyword w key.Channel → ¬ IsKeyword w key.Hop → ¬ IsKeyword w key.Field → ¬ IsKeyword w key.Piece → ¬ IsKeyword w key.Hex → ¬ IsKeyword w key.Fill → ¬ IsKeyword w key.End → ¬ IsKeyword w key.Trailer → ¬ IsKeyword w key.Listener → ¬ IsKeyword w key.Retargetable → ¬ IsKeyword w key.Window → ¬ IsKeyword w key.Start → ¬ IsKeyword w key.Closed → ¬ IsKeyword w key.At → ¬ IsKeyword w key.When → ¬ IsKeyword w key.Schedule → ¬ IsKeyword w key.Number → (k : Keyword) → ¬ IsKeyword w k
no_keyword w n0 n1 n2 n3 n4 n5 n6 n7 n8 n9 n10 n11 n12 n13 n14 n15 n16 n17 key.Script h = n0 h
no_keyword w n0 n1 n2 n3 n4 n5 n6 n7 n8 n9 n10 n11 n12 n13 n14 n15 n16 n17 key.Channel h = n1 h
no_keyword w n0 n1 n2 n3 n4 n5 n6 n7 n8 n9 n10 n11 n12 n13 n14 n15 n16 n17 key.Hop h = n2 h
no_keyword w n0 n1 n2 n3 n4 n5 n6 n7 n8 n9 n10 n11 n12 n13 n14 n15 n16 n17 key.Field h = n3 h
no_keyword w n0 n1 n2 n3 n4 n5 n6 n7 n8 n9 n10 n11 n12 n13 n14 n15 n16 n17 key.Piece h = n4 h
no_keyword w n0 n1 n2 n3 n4 n5 n6 n7 n8 n9 n10 n11 n12 n13 n14 n15 n16 n17 key.Hex h = n5 h
no_keyword w n0 n1 n2 n3 n4 n5 n6 n7 n8 n9 n10 n11 n12 n13 n14 n15 n16 n17 key.Fill h = n6 h
no_keyword w n0 n1 n2 n3 n4 n5 n6 n7 n8 n9 n10 n11 n12 n13 n14 n15 n16 n17 key.End h = n7 h
no_keyword w n0 n1 n2 n3 n4 n5 n6 n7 n8 n9 n10 n11 n12 n13 n14 n15 n16 n17 key.Trailer h = n8 h
no_keyword w n0 n1 n2 n3 n4 n5 n6 n7 n8 n9 n10 n11 n12 n13 n14 n15 n16 n17 key.Listener h = n9 h
no_keyword w n0 n1 n2 n3 n4 n5 n6 n7 n8 n9 n10 n11 n12 n13 n14 n15 n16 n17 key.Retargetable h = n10 h
no_keyword w n0 n1 n2 n3 n4 n5 n6 n7 n8 n9 n10 n11 n12 n13 n14 n15 n16 n17 key.Window h = n11 h
no_keyword w n0 n1 n2 n3 n4 n5 n6 n7 n8 n9 n10 n11 n12 n13 n14 n15 n16 n17 key.Start h = n12 h
no_keyword w n0 n1 n2 n3 n4 n5 n6 n7 n8 n9 n10 n11 n12 n13 n14 n15 n16 n17 key.Closed h = n13 h
no_keyword w n0 n1 n2 n3 n4 n5 n6 n7 n8 n9 n10 n11 n12 n13 n14 n15 n16 n17 key.At h = n14 h
no_keyword w n0 n1 n2 n3 n4 n5 n6 n7 n8 n9 n10 n11 n12 n13 n14 n15 n16 n17 key.When h = n15 h
no_keyword w n0 n1 n2 n3 n4 n5 n6 n7 n8 n9 n10 n11 n12 n13 n14 n15 n16 n17 key.Schedule h = n16 h
no_keyword w n0 n1 n2 n3 n4 n5 n6 n7 n8 n9 n10 n11 n12 n13 n14 n15 n16 n17 key.Number h = n17 h

find_keyword : (w : List ℕ) → Search Keyword (IsKeyword w)
find_keyword w =
    test Keyword key.Script (IsKeyword w) (text_same w (codes "script")) (λ n0.
    test Keyword key.Channel (IsKeyword w) (text_same w (codes "channel")) (λ n1.
    test Keyword key.Hop (IsKeyword w) (text_same w (codes "hop")) (λ n2.
    test Keyword key.Field (IsKeyword w) (text_same w (codes "field")) (λ n3.
    test Keyword key.Piece (IsKeyword w) (text_same w (codes "piece")) (λ n4.
    test Keyword key.Hex (IsKeyword w) (text_same w (codes "hex")) (λ n5.
    test Keyword key.Fill (IsKeyword w) (text_same w (codes "fill")) (λ n6.
    test Keyword key.End (IsKeyword w) (text_same w (codes "end")) (λ n7.
    test Keyword key.Trailer (IsKeyword w) (text_same w (codes "trailer")) (λ n8.
    test Keyword key.Listener (IsKeyword w) (text_same w (codes "listener")) (λ n9.
    test Keyword key.Retargetable (IsKeyword w) (text_same w (codes "retargetable")) (λ n10.
    test Keyword key.Window (IsKeyword w) (text_same w (codes "window")) (λ n11.
    test Keyword key.Start (IsKeyword w) (text_same w (codes "start")) (λ n12.
    test Keyword key.Closed (IsKeyword w) (text_same w (codes "closed")) (λ n13.
    test Keyword key.At (IsKeyword w) (text_same w (codes "at")) (λ n14.
    test Keyword key.When (IsKeyword w) (text_same w (codes "when")) (λ n15.
    test Keyword key.Schedule (IsKeyword w) (text_same w (codes "schedule")) (λ n16.
    test Keyword key.Number (IsKeyword w) (count_by w (at_most 1 (length w)) (flag (list_all is_digit w)) (number (slice_index w 0) 48)) (λ n17.
    inr (no_keyword w n0 n1 n2 n3 n4 n5 n6 n7 n8 n9 n10 n11 n12 n13 n14 n15 n16 n17)))))))))))))))))))

-- a text is one of a script, or has a bad line
abbrev Answer : Reader → ℕ → List (List ℕ) → Type 0
Answer r next texts = ((s : Script) × Ends r texts s) ⊎ ((n : ℕ) × (c : Cause) × Breaks r next texts n c)

at_end : (r : Reader) (next : ℕ) (b : Bool) → may_end r.place ≡ b → Answer r next []
at_end r next true e = inl (script_of r, (e, refl))
at_end r next false e = inr (next, cause.EndsEarly, (e, refl, refl))

onward : (r : Reader) (next : ℕ) (text : List ℕ) (texts : List (List ℕ)) (l : Line) → Stands r text l → Answer (after r l) (next + 1) texts → Answer r next (text ∷ texts)
onward r next text texts l a (inl (s, x)) = inl (s, (l, a, x))
onward r next text texts l a (inr (n, c, x)) = inr (n, c, inl (l, a, x))

limited : (r : Reader) (next : ℕ) (text : List ℕ) (texts : List (List ℕ)) (l : Line) → IsExpected r.place text → IsForm r text l → ((m : Line) → Answer (after r m) (next + 1) texts) → (b : Bool) → is_within r l ≡ b → Answer r next (text ∷ texts)
limited r next text texts l x f more true e = onward r next text texts l (record { expected = x; form = f; within = e }) (more l)
limited r next text texts l x f more false e = inr (next, cause.Limit, inr (refl, (x, (l, f, e))))

module _ (laws : LineLaws) where
  same_field : (rest value : List ℕ) (f : Field) → IsField rest f → behind 32 rest ≡ Some value → record { name = before 32 rest; value = value } ≡ f
  same_field rest value f is more =
      let cut = laws.field rest f is in
      let values : value ≡ f.value = let both_some : Some value ≡ Some f.value = sym more ∙ cut.1 in cc in
      ap (λ (n : List ℕ). record { name = n; value = value }) cut.0 ∙ ap (λ (v : List ℕ). record { name = f.name; value = v }) values

  no_field : (rest : List ℕ) (f : Field) → IsField rest f → behind 32 rest ≡ None → ⊥
  no_field rest f is none = let both_are : Some f.value ≡ None = sym (laws.field rest f is).1 ∙ none in cc

  field_with : (rest v : List ℕ) → behind 32 rest ≡ Some v → Known (is_good_field (record { name = before 32 rest; value = v }) ≡ true) → Search Field (IsField rest)
  field_with rest v e (inl good) = inl (record { name = before 32 rest; value = v }, (good, laws.cut rest v e))
  field_with rest v e (inr bad) = inr (λ f h. bad (subst (λ (g : Field). is_good_field g ≡ true) (sym (same_field rest v f h e)) h.0))

  field_by : (rest : List ℕ) (o : Option (List ℕ)) → behind 32 rest ≡ o → Search Field (IsField rest)
  field_by rest None e = inr (λ f h. no_field rest f h e)
  field_by rest (Some v) e = field_with rest v e (flag (is_good_field (record { name = before 32 rest; value = v })))

  find_field : (rest : List ℕ) → Search Field (IsField rest)
  find_field rest = field_by rest (behind 32 rest) refl

  find_line : (k : Keyword) (n : ℕ) (text : List ℕ) → Search Line (IsLineOf k n text)
  find_line key.Script n text = fixed text (codes "script 1") line.Script (text_same text (codes "script 1"))
  find_line key.Channel n text = fixed text (codes "channel") line.Channel (text_same text (codes "channel"))
  find_line key.Hop n text = headed HopLine IsHop find_hop line.Hop (codes "hop") (words text)
  find_line key.Field n text = line_by (List ℕ) (List ℕ) Field IsField (λ w. codes "field " ++ w) line.Field text (shape (List ℕ) (List ℕ) Field IsField (λ w. codes "field " ++ w) (drop 6) (λ w. refl) text (text_same text (codes "field " ++ drop 6 text)) (find_field (drop 6 text)))
  find_line key.Piece n text = piece_by n text (text_same text (codes "piece " ++ drop 6 text)) (is_piece (drop 6 text))
  find_line key.Hex n text = hex_by n text (shape (List ℕ) (List ℕ) (List ℕ) (λ w bs. IsBytes w bs × IsPiece bs) (λ w. codes "hex " ++ w) (drop 4) (λ w. refl) text (text_same text (codes "hex " ++ drop 4 text)) (hex_piece (drop 4 text) (find_bytes (drop 4 text))))
  find_line key.Fill n text = fill_by n text (words_same (words text) (codes "fill" ∷ at1 (words text) ∷ at2 (words text) ∷ [])) (find_byte (at1 (words text))) (find_decimal 1 131072 (at2 (words text)))
  find_line key.End n text = headed Finish IsEnd find_end line.End (codes "end") (words text)
  find_line key.Trailer n text = line_by (List ℕ) (List ℕ) Field IsField (λ w. codes "trailer " ++ w) line.Trailer text (shape (List ℕ) (List ℕ) Field IsField (λ w. codes "trailer " ++ w) (drop 8) (λ w. refl) text (text_same text (codes "trailer " ++ drop 8 text)) (find_field (drop 8 text)))
  find_line key.Listener n text = headed ListenerKind IsListener find_listener line.Listener (codes "listener") (words text)
  find_line key.Retargetable n text = fixed text (codes "retargetable no") line.NotRetargetable (text_same text (codes "retargetable no"))
  find_line key.Window n text = line_by (List (List ℕ)) (List ℕ) ℕ (IsDecimal 1 16777216) (λ w. codes "window" ∷ w ∷ []) line.Window (words text) (named ℕ (IsDecimal 1 16777216) (find_decimal 1 16777216) (codes "window") (words text))
  find_line key.Start n text = fixed text (codes "start back") line.StartBack (text_same text (codes "start back"))
  find_line key.Closed n text = fixed text (codes "closed") line.Closed (text_same text (codes "closed"))
  find_line key.At n text = headed Reaction IsReaction find_reaction line.Reaction (codes "at") (words text)
  find_line key.When n text = headed Control IsControl find_control line.Control (codes "when") (words text)
  find_line key.Schedule n text = fixed text (codes "schedule") line.Schedule (text_same text (codes "schedule"))
  find_line key.Number n text = step_by n text (split ℕ Step (IsDecimal 1 n) IsStep (words text) (find_decimal 1 n (at0 (words text))) (find_step (rest_of (words text))))

  formed : (r : Reader) (next : ℕ) (text : List ℕ) (texts : List (List ℕ)) (k : Keyword) → IsKeyword (first_word text) k → allows r.place k ≡ true → ((m : Line) → Answer (after r m) (next + 1) texts) → Search Line (IsLineOf k (length r.plans) text) → Answer r next (text ∷ texts)
  formed r next text texts k begins e more (inl (l, f)) = limited r next text texts l (k, begins, e) (record { keyword = k; begins = begins; form = f }) more (is_within r l) refl
  formed r next text texts k begins e more (inr none) = inr (next, cause.Malformed, inr (refl, ((k, begins, e), λ l f. none l (subst (λ (j : Keyword). IsLineOf j (length r.plans) text l) (laws.keyword (first_word text) f.keyword k f.begins begins) f.form))))

  allowed : (r : Reader) (next : ℕ) (text : List ℕ) (texts : List (List ℕ)) (k : Keyword) → IsKeyword (first_word text) k → ((m : Line) → Answer (after r m) (next + 1) texts) → Known (allows r.place k ≡ true) → Answer r next (text ∷ texts)
  allowed r next text texts k begins more (inl e) = formed r next text texts k begins e more (find_line k (length r.plans) text)
  allowed r next text texts k begins more (inr bad) = inr (next, cause.Unexpected, inr (refl, λ x. bad (subst (λ (j : Keyword). allows r.place j ≡ true) (laws.keyword (first_word text) x.0 k x.1 begins) x.2)))

  begun : (r : Reader) (next : ℕ) (text : List ℕ) (texts : List (List ℕ)) → ((m : Line) → Answer (after r m) (next + 1) texts) → Search Keyword (IsKeyword (first_word text)) → Answer r next (text ∷ texts)
  begun r next text texts more (inl (k, begins)) = allowed r next text texts k begins more (flag (allows r.place k))
  begun r next text texts more (inr none) = inr (next, cause.Unexpected, inr (refl, λ x. none x.0 x.1))

  answer : (r : Reader) (next : ℕ) (texts : List (List ℕ)) → Answer r next texts
  answer r next [] = at_end r next (may_end r.place) refl
  answer r next (text ∷ texts) = begun r next text texts (λ m. answer (after r m) (next + 1) texts) (find_keyword (first_word text))

  pub decided : DecisionLaw
  decided text = answer start 1 (lines text)
