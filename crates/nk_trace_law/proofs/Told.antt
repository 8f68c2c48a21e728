-- What a printed text tells.
use Rattle.std.proofs.Common.{◌≡◌, ℕ, true, List, [], ◌∷◌, ◌++◌, codes, refl, sym, ap, ◌∙◌, arith}
use Rattle.std.specs.List.{list_all}
use Rattle.nk_plan.specs.declared.journal.ParentEntry.{ParentEntry}
use Rattle.nk_plan.specs.declared.journal.ParentEntry.TheVariants as parent
use Rattle.nk_plan.specs.declared.journal.ChildEntry.{ChildEntry}
use Rattle.nk_trace.specs.Words.{words, line}
use Rattle.nk_trace.specs.Messages.{main_text, back_text, up_text}
use Rattle.nk_trace.specs.Journals.{parent_line, child_line}
use Rattle.nk_trace_law.specs.Lines.{is_line, is_word, ended}
use Rattle.nk_trace_law.specs.Spelled.{main_words, back_words, up_words, parent_words, child_behind, child_words}
use Rattle.nk_trace_law.specs.StepLaws.{ParentStepLaw, ChildStepLaw, HalfLaw}
use Rattle.nk_trace_law.specs.TextLaws.{MainTextLaw, BackTextLaw, UpTextLaw, ParentLineLaw, ChildLineLaw}
use Rattle.nk_trace_law.proofs.Tests.{first_byte, same_words, line_of_words, lines_of_words, first_line}
use Rattle.nk_trace_law.proofs.Spelling.{feed, main_words_are, main_spelled, back_words_are, back_spelled, up_words_are, up_spelled, parent_words_are, parent_spelled, child_words_are, child_spelled, main_some, back_some, up_some, some}
use Rattle.nk_trace_law.proofs.Read.{read_main, main_read, read_back, back_read, read_up, up_read, read_parent, parent_read, parent_step_words, parent_step_read, read_child, child_read, child_step_words, child_step_read}

-- equal lines are of equal words
told : (vs ws : List (List ℕ)) → some vs ≡ true → some ws ≡ true → list_all is_word vs ≡ true → list_all is_word ws ≡ true → line vs ≡ line ws → vs ≡ ws
told [] ws a b p q e = cc
told (v ∷ vs) [] a b p q e = cc
told (v ∷ vs) (w ∷ ws) a b p q e = same_words v w vs ws p q e

-- so are equal texts
told_words : (s t : List ℕ) (vs ws : List (List ℕ)) → s ≡ words vs → t ≡ words ws → some vs ≡ true → some ws ≡ true → list_all is_word vs ≡ true → list_all is_word ws ≡ true → s ≡ t → vs ≡ ws
told_words s t vs ws x y a b p q e = told vs ws a b p q (feed (words vs) (words ws) (sym x ∙ (e ∙ y)))

pub main_text_law : MainTextLaw
main_text_law m n p q e =
    let same = told_words (main_text m) (main_text n) (main_words m) (main_words n) (main_spelled m) (main_spelled n) (main_some m) (main_some n) (main_words_are m) (main_words_are n) e in
    sym (main_read m p) ∙ (ap read_main same ∙ main_read n q)

pub back_text_law : BackTextLaw
back_text_law m n p q e =
    let same = told_words (back_text m) (back_text n) (back_words m) (back_words n) (back_spelled m) (back_spelled n) (back_some m) (back_some n) (back_words_are m) (back_words_are n) e in
    sym (back_read m p) ∙ (ap read_back same ∙ back_read n q)

pub up_text_law : UpTextLaw
up_text_law m n p q e =
    let same = told_words (up_text m) (up_text n) (up_words m) (up_words n) (up_spelled m) (up_spelled n) (up_some m) (up_some n) (up_words_are m) (up_words_are n) e in
    sym (up_read m p) ∙ (ap read_up same ∙ up_read n q)

parent_some : (e : ParentEntry) → some (parent_words e) ≡ true
parent_some (parent.Took m) = refl
parent_some (parent.SentMain m) = refl
parent_some (parent.SentBack m) = refl

parent_told : (d e : ParentEntry) → parent_line d ≡ parent_line e → parent_words d ≡ parent_words e
parent_told d e h = told (parent_words d) (parent_words e) (parent_some d) (parent_some e) (parent_words_are d) (parent_words_are e) (sym (parent_spelled d) ∙ (h ∙ parent_spelled e))

child_told : (d e : ChildEntry) → child_line d ≡ child_line e → child_words d ≡ child_words e
child_told d e h = told (child_words d) (child_words e) refl refl (child_words_are d) (child_words_are e) (sym (child_spelled d) ∙ (h ∙ child_spelled e))

pub parent_line_law : ParentLineLaw
parent_line_law d e p q h = sym (parent_read d p) ∙ (ap read_parent (parent_told d e h) ∙ parent_read e q)

pub child_line_law : ChildLineLaw
child_line_law d e p q h = sym (child_read d p) ∙ (ap read_child (child_told d e h) ∙ child_read e q)

-- FIRST LINES

pub parent_body : (e : ParentEntry) → is_line (words (parent_words e)) ≡ true
parent_body e = line_of_words (parent_words e) (lines_of_words (parent_words e) (parent_words_are e))

pub child_body : (e : ChildEntry) → is_line (words (child_words e)) ≡ true
child_body e = line_of_words (child_words e) (lines_of_words (child_words e) (child_words_are e))

-- the line, and what follows, of two texts
pub first_same : (v w a b more other : List ℕ) → a ≡ ended v → b ≡ ended w → is_line v ≡ true → is_line w ≡ true → a ++ more ≡ b ++ other → (a ≡ b) × (more ≡ other)
first_same v w a b more other x y p q e =
    let same = first_line v w more other p q (sym (ap (λ (t : List ℕ). t ++ more) x) ∙ (e ∙ ap (λ (t : List ℕ). t ++ other) y)) in
    (x ∙ (ap ended same.0 ∙ sym y), same.1)

pub parent_first : (d e : ParentEntry) (more other : List ℕ) → parent_line d ++ more ≡ parent_line e ++ other → (parent_line d ≡ parent_line e) × (more ≡ other)
parent_first d e more other h =
    first_same (words (parent_words d)) (words (parent_words e)) (parent_line d) (parent_line e) more other (parent_spelled d) (parent_spelled e) (parent_body d) (parent_body e) h

pub child_first : (d e : ChildEntry) (more other : List ℕ) → child_line d ++ more ≡ child_line e ++ other → (child_line d ≡ child_line e) × (more ≡ other)
child_first d e more other h =
    first_same (words (child_words d)) (words (child_words e)) (child_line d) (child_line e) more other (child_spelled d) (child_spelled e) (child_body d) (child_body e) h

pub parent_step_law : ParentStepLaw
parent_step_law d e more other h =
    sym (parent_step_read d) ∙ (ap parent_step_words (parent_told d e (parent_first d e more other h).0) ∙ parent_step_read e)

pub child_step_law : ChildStepLaw
child_step_law d e more other h =
    sym (child_step_read d) ∙ (ap child_step_words (child_told d e (child_first d e more other h).0) ∙ child_step_read e)

begins_p : (vs : List (List ℕ)) (more : List ℕ) → first_byte (line (codes "p" ∷ vs) ++ more) ≡ 112
begins_p [] more = refl
begins_p (v ∷ vs) more = refl

begins_c : (vs : List (List ℕ)) (more : List ℕ) → first_byte (line (codes "c" ∷ vs) ++ more) ≡ 99
begins_c [] more = refl
begins_c (v ∷ vs) more = refl

parent_begins : (e : ParentEntry) (more : List ℕ) → first_byte (line (parent_words e) ++ more) ≡ 112
parent_begins (parent.Took m) more = begins_p (up_words m) more
parent_begins (parent.SentMain m) more = begins_p (codes "send" ∷ main_words m) more
parent_begins (parent.SentBack m) more = begins_p (codes "send" ∷ back_words m) more

pub parent_byte : (e : ParentEntry) (more : List ℕ) → first_byte (parent_line e ++ more) ≡ 112
parent_byte e more = ap (λ (t : List ℕ). first_byte (t ++ more)) (parent_spelled e) ∙ parent_begins e more

pub child_byte : (e : ChildEntry) (more : List ℕ) → first_byte (child_line e ++ more) ≡ 99
child_byte e more = ap (λ (t : List ℕ). first_byte (t ++ more)) (child_spelled e) ∙ begins_c (child_behind e) more

pub half_law : HalfLaw
half_law d e more other h = omega (arith, parent_byte d more, child_byte e other, ap first_byte h)
