-- A text is the text of at most one script, or has one first bad line.
use Rattle.std.proofs.Common.{◌≡◌, ℕ, ◌+◌, ◌≤◌, false, List, [], ◌∷◌, inl, inr, length, refl, sym, ap, subst, arith, ◌∙◌, length-append}
use Rattle.std.specs.Option.{option_map}
use Rattle.std.specs.Prelude.{option_to_list}
use Rattle.nk_script.specs.declared.line.Line.{Line}
use Rattle.nk_script.specs.declared.line.Keyword.{Keyword}
use Rattle.nk_script.specs.declared.script.Script.{Script}
use Rattle.nk_script.specs.declared.script.Cause.{Cause}
use Rattle.nk_script.specs.declared.script.Cause.TheVariants as cause
use Rattle.nk_script.specs.declared.reader.Reader.{Reader}
use Rattle.nk_script.specs.Texts.{lines, first_word}
use Rattle.nk_script.specs.Lines.{IsLineOf}
use Rattle.nk_script.specs.Draft.{start, after, is_within, plans_of, plan_of}
use Rattle.nk_script.specs.Grammar.{IsForm, Stands, Ends, IsRefused, Breaks}
use Rattle.nk_script.specs.LineLaws.{LineLaws}
use Rattle.nk_script_law.specs.Laws.{ScriptLaw, RefusalLaw, AnswerLaw}
use Rattle.nk_script_law.proofs.OneLine.{one_line}

-- a reading that has no more channels than a script may have
abbrev Few : Reader → Type 0
Few r = length (plans_of r) ≤ 1024

plans_few : (r : Reader) → length (plans_of r) ≤ 1024 → length r.plans ≤ 1024
plans_few r h = omega (arith, length-append r.plans (option_to_list (option_map plan_of r.draft)), h)

few_at_start : Few start
few_at_start = omega arith

module _ (laws : LineLaws) where
  one_form : (r : Reader) (text : List ℕ) (l m : Line) → Few r → IsForm r text l → IsForm r text m → l ≡ m
  one_form r text l m few a b =
      let same : a.keyword ≡ b.keyword = laws.keyword (first_word text) a.keyword b.keyword a.begins b.begins in
      let short = plans_few r few in
      one_line laws a.keyword (length r.plans) text l m (omega (arith, short)) a.form (subst (λ (k : Keyword). IsLineOf k (length r.plans) text m) (sym same) b.form)

  one_end : (r : Reader) (texts : List (List ℕ)) (s t : Script) → Few r → Ends r texts s → Ends r texts t → s ≡ t
  one_end r [] s t few (a, d) (b, e) = d ∙ sym e
  one_end r (text ∷ texts) s t few (l, a, x) (m, b, y) =
      let same = one_form r text l m few a.form b.form in
      one_end (after r l) texts s t (laws.channels r l a.within few) x (subst (λ (n : Line). Ends (after r n) texts t) (sym same) y)

  -- a line that stands is not refused
  stands : (r : Reader) (text : List ℕ) (l : Line) (c : Cause) → Few r → Stands r text l → IsRefused r text c → ⊥
  stands r text l cause.Unexpected few a bad = bad a.expected
  stands r text l cause.Malformed few a (x, bad) = bad l a.form
  stands r text l cause.Limit few a (x, (m, f, over)) =
      let same = one_form r text l m few a.form f in
      let within = a.within in
      let over_l : is_within r l ≡ false = ap (is_within r) same ∙ over in
      cc
  stands r text l cause.EndsEarly few a bad = bad

  one_cause : (r : Reader) (text : List ℕ) (c d : Cause) → IsRefused r text c → IsRefused r text d → c ≡ d
  one_cause r text cause.Unexpected cause.Unexpected a b = refl
  one_cause r text cause.Unexpected cause.Malformed a b = absurd (a b.0)
  one_cause r text cause.Unexpected cause.Limit a b = absurd (a b.0)
  one_cause r text cause.Malformed cause.Unexpected a b = absurd (b a.0)
  one_cause r text cause.Malformed cause.Malformed a b = refl
  one_cause r text cause.Malformed cause.Limit (x, bad) (y, (m, f, over)) = absurd (bad m f)
  one_cause r text cause.Limit cause.Unexpected a b = absurd (b a.0)
  one_cause r text cause.Limit cause.Malformed (y, (m, f, over)) (x, bad) = absurd (bad m f)
  one_cause r text cause.Limit cause.Limit a b = refl
  one_cause r text cause.EndsEarly d a b = absurd a
  one_cause r text c cause.EndsEarly a b = absurd b

  one_break : (r : Reader) (next : ℕ) (texts : List (List ℕ)) (m n : ℕ) (c d : Cause) → Few r → Breaks r next texts m c → Breaks r next texts n d → (m ≡ n) × (c ≡ d)
  one_break r next [] m n c d few (a, x, f) (b, y, g) = (x ∙ sym y, f ∙ sym g)
  one_break r next (text ∷ texts) m n c d few (inl (k, a, x)) (inl (l, b, y)) =
      let same = one_form r text k l few a.form b.form in
      one_break (after r k) (next + 1) texts m n c d (laws.channels r k a.within few) x (subst (λ (z : Line). Breaks (after r z) (next + 1) texts n d) (sym same) y)
  one_break r next (text ∷ texts) m n c d few (inl (k, a, x)) (inr (f, b)) = absurd (stands r text k d few a b)
  one_break r next (text ∷ texts) m n c d few (inr (e, a)) (inl (l, b, y)) = absurd (stands r text l c few b a)
  one_break r next (text ∷ texts) m n c d few (inr (e, a)) (inr (f, b)) = (e ∙ sym f, one_cause r text c d a b)

  not_both : (r : Reader) (next : ℕ) (texts : List (List ℕ)) (s : Script) (n : ℕ) (c : Cause) → Few r → Ends r texts s → Breaks r next texts n c → ⊥
  not_both r next [] s n c few (a, d) (b, y, g) = cc
  not_both r next (text ∷ texts) s n c few (l, a, x) (inl (k, b, y)) =
      let same = one_form r text l k few a.form b.form in
      not_both (after r l) (next + 1) texts s n c (laws.channels r l a.within few) x (subst (λ (z : Line). Breaks (after r z) (next + 1) texts n c) (sym same) y)
  not_both r next (text ∷ texts) s n c few (l, a, x) (inr (f, b)) = stands r text l c few a b

  pub one_script : ScriptLaw
  one_script text s t a b = one_end start (lines text) s t few_at_start a b

  pub one_refusal : RefusalLaw
  one_refusal text m n c d a b = one_break start 1 (lines text) m n c d few_at_start a b

  pub one_answer : AnswerLaw
  one_answer text s n c a b = not_both start 1 (lines text) s n c few_at_start a b
