-- What is not shown is not printed.
use Rattle.std.proofs.Common.{◌≡◌, ℕ, ◌+◌, true, ◌==◌, if◌then◌else◌, List, [], ◌∷◌, ◌++◌, map, codes, length, refl, sym, ap, ◌∙◌}
use Rattle.std.specs.List.{flat_map, AllZip}
use Rattle.std.specs.Fmt.{decimal}
use Rattle.std.proofs.lemmas.List.{length-replicate}
use Rattle.nk_base.specs.declared.message.MainMsg.{MainMsg}
use Rattle.nk_base.specs.declared.message.MainMsg.TheVariants as main
use Rattle.nk_base.specs.declared.message.BackMsg.{BackMsg}
use Rattle.nk_base.specs.declared.message.BackMsg.TheVariants as back
use Rattle.nk_base.specs.declared.message.Entry.{Entry}
use Rattle.nk_plan.specs.declared.ends.Ending.{Ending}
use Rattle.nk_plan.specs.declared.ends.ReaderEnd.{ReaderEnd}
use Rattle.nk_plan.specs.declared.ends.ChannelEnd.{ChannelEnd}
use Rattle.nk_plan.specs.declared.journal.ParentEntry.{ParentEntry}
use Rattle.nk_plan.specs.declared.journal.ParentEntry.TheVariants as parent
use Rattle.nk_plan.specs.declared.journal.ChildEntry.{ChildEntry}
use Rattle.nk_plan.specs.declared.journal.ChildEntry.TheVariants as child
use Rattle.nk_trace.specs.Words.{words, line, code_text, status_text}
use Rattle.nk_trace.specs.Messages.{main_text, back_text}
use Rattle.nk_trace.specs.Journals.{parent_line, forwarded_line, child_line}
use Rattle.nk_trace.specs.Report.{channel_line, entry_lines, reader_lines, end_line, log_lines, channel_text, channel_texts}
use Rattle.nk_trace_law.specs.Shown.{some_bytes, some_fields, main_shown, back_shown, parent_shown, child_shown}
use Rattle.nk_trace_law.specs.PartLaws.{SeemsAs}
use Rattle.nk_trace_law.specs.TextLaws.{BlankLaws}
use Rattle.nk_trace_law.specs.LogLaws.{LogsAs, LogTextLaw}

fields_long : (n : ℕ) → length (some_fields n) ≡ n
fields_long n = length-replicate n (record { name = []; value = [] })

bytes_long : (n : ℕ) → length (some_bytes n) ≡ n
bytes_long n = length-replicate n 0

main_blank : (m : MainMsg) → main_text (main_shown m) ≡ main_text m
main_blank (main.Start h s head) =
    ap (λ (n : ℕ). words (codes "start" ∷ decimal h ∷ status_text s ∷ code_text head.code ∷ decimal n ∷ [])) (fields_long (length head.fields))
main_blank (main.FailedOpen h s) = refl
main_blank (main.Redirect1 h c) = refl
main_blank (main.Redirect3 h) = refl

back_blank : (m : BackMsg) → back_text (back_shown m) ≡ back_text m
back_blank (back.StartSent h) = refl
back_blank (back.Start h s head) =
    ap (λ (n : ℕ). words (codes "bstart" ∷ decimal h ∷ status_text s ∷ code_text head.code ∷ decimal n ∷ [])) (fields_long (length head.fields))
back_blank (back.Bytes h s o piece) =
    ap (λ (n : ℕ). words (codes "bytes" ∷ decimal h ∷ status_text s ∷ decimal o ∷ decimal n ∷ [])) (bytes_long (length piece))
back_blank (back.Stop h s ts) =
    ap (λ (n : ℕ). words (codes "stop" ∷ decimal h ∷ status_text s ∷ []) ++ (if n == 0 then [] else 32 ∷ decimal n)) (fields_long (length ts))

parent_blank : (e : ParentEntry) → parent_line (parent_shown e) ≡ parent_line e
parent_blank (parent.Took m) = refl
parent_blank (parent.SentMain m) = ap (λ (t : List ℕ). line (codes "p send" ∷ t ∷ [])) (main_blank m)
parent_blank (parent.SentBack m) = ap (λ (t : List ℕ). line (codes "p send" ∷ t ∷ [])) (back_blank m)

child_blank : (e : ChildEntry) → child_line (child_shown e) ≡ child_line e
child_blank child.Open = refl
child_blank child.Suspend = refl
child_blank child.Resume = refl
child_blank (child.Cancel s) = refl
child_blank (child.Break s) = refl
child_blank (child.Retarget w) = refl
child_blank (child.NoRetarget e) = refl
child_blank child.NoEffect = refl
child_blank (child.Verdict h s) = refl
child_blank (child.TookMain m) = ap (λ (t : List ℕ). line (codes "c main" ∷ t ∷ [])) (main_blank m)
child_blank (child.TookBack m) = ap (λ (t : List ℕ). line (codes "c back" ∷ t ∷ [])) (back_blank m)
child_blank (child.Release n) = refl
child_blank (child.RunStart t c s) = refl
child_blank (child.RunBytes t o n) = refl
child_blank (child.RunDrop t o s) = refl
child_blank (child.RunStop t s) = refl
child_blank (child.RunRedirect1 t h) = refl
child_blank (child.RunRedirect3 t h) = refl
child_blank (child.RunCancel t s) = refl
child_blank (child.HandOver t u) = refl
child_blank (child.Ended t) = refl
child_blank (child.Complete t) = refl
child_blank (child.Finish t) = refl
child_blank (child.Prepend s) = refl

pub blank_laws : BlankLaws
blank_laws = record { main = main_blank; back = back_blank; parent = parent_blank; child = child_blank }

-- JOURNALS

module _ {A : Type 0} (print : A → List ℕ) (shown : A → A) (blank : (x : A) → print (shown x) ≡ print x) where
  shown_printed : (xs : List A) → flat_map print (map shown xs) ≡ flat_map print xs
  shown_printed [] = refl
  shown_printed (x ∷ xs) = ap (λ (t : List ℕ). t ++ flat_map print (map shown xs)) (blank x) ∙ ap (λ (t : List ℕ). print x ++ t) (shown_printed xs)

  printed : (xs ys : List A) → map shown xs ≡ map shown ys → flat_map print xs ≡ flat_map print ys
  printed xs ys e = sym (shown_printed xs) ∙ (ap (flat_map print) e ∙ shown_printed ys)

log_same : (d e : ChannelEnd) → LogsAs d e → log_lines d ≡ log_lines e
log_same d e h =
    let f : List ℕ → ℕ → List ℕ → List ℕ = λ p n c. p ++ (forwarded_line n ++ c) in
    ap (λ (p : List ℕ). f p d.forwarded (flat_map child_line d.child)) (printed parent_line parent_shown parent_blank d.parent e.parent h.parent)
    ∙ (ap (λ (n : ℕ). f (flat_map parent_line e.parent) n (flat_map child_line d.child)) h.forwarded
    ∙ ap (λ (c : List ℕ). f (flat_map parent_line e.parent) e.forwarded c) (printed child_line child_shown child_blank d.child e.child h.child))

part_same : (n : ℕ) (d e : ChannelEnd) → SeemsAs d e → LogsAs d e → channel_text true n d ≡ channel_text true n e
part_same n d e h l =
    let f : List Entry → List ReaderEnd → Ending → List ℕ → List ℕ = λ t r x g. channel_line n ++ (flat_map entry_lines t ++ (reader_lines 1 r ++ (end_line x ++ g))) in
    ap (λ (t : List Entry). f t d.readers d.ending (log_lines d)) h.trace
    ∙ (ap (λ (r : List ReaderEnd). f e.trace r d.ending (log_lines d)) h.readers
    ∙ (ap (λ (x : Ending). f e.trace e.readers x (log_lines d)) h.ending ∙ ap (λ (g : List ℕ). f e.trace e.readers e.ending g) (log_same d e l)))

texts_same : (n : ℕ) (ds es : List ChannelEnd) → AllZip SeemsAs ds es → AllZip LogsAs ds es → channel_texts true n ds ≡ channel_texts true n es
texts_same n [] [] h l = refl
texts_same n [] (e ∷ es) h l = absurd h
texts_same n (d ∷ ds) [] h l = absurd h
texts_same n (d ∷ ds) (e ∷ es) h l =
    ap (λ (t : List ℕ). t ++ channel_texts true (n + 1) ds) (part_same n d e h.0 l.0)
    ∙ ap (λ (t : List ℕ). channel_text true n e ++ t) (texts_same (n + 1) ds es h.1 l.1)

pub log_text_law : LogTextLaw
log_text_law ds es h l = texts_same 1 ds es h l
