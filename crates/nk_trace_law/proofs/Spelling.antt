-- The lines of the journals are words.
use Rattle.std.proofs.Common.{◌≡◌, ℕ, Bool, true, false, ◌&&◌, ◌==◌, if◌then◌else◌, List, [], ◌∷◌, ◌++◌, codes, length, refl, ap, ◌∙◌, append_assoc, append-nil}
use Rattle.std.specs.List.{list_all}
use Rattle.std.specs.Fmt.{decimal}
use Rattle.nk_base.specs.declared.status.Target.{Target}
use Rattle.nk_base.specs.declared.status.Target.TheVariants as place
use Rattle.nk_base.specs.declared.status.RetargetError.{RetargetError}
use Rattle.nk_base.specs.declared.status.RetargetError.TheVariants as refusal
use Rattle.nk_base.specs.declared.message.MainMsg.{MainMsg}
use Rattle.nk_base.specs.declared.message.MainMsg.TheVariants as main
use Rattle.nk_base.specs.declared.message.BackMsg.{BackMsg}
use Rattle.nk_base.specs.declared.message.BackMsg.TheVariants as back
use Rattle.nk_base.specs.declared.message.UpMsg.{UpMsg}
use Rattle.nk_base.specs.declared.message.UpMsg.TheVariants as up
use Rattle.nk_plan.specs.declared.journal.ParentEntry.{ParentEntry}
use Rattle.nk_plan.specs.declared.journal.ParentEntry.TheVariants as parent
use Rattle.nk_plan.specs.declared.journal.ChildEntry.{ChildEntry}
use Rattle.nk_plan.specs.declared.journal.ChildEntry.TheVariants as child
use Rattle.nk_trace.specs.Words.{words, line, status_text}
use Rattle.nk_trace.specs.Messages.{main_text, back_text, up_text}
use Rattle.nk_trace.specs.Journals.{parent_line, child_line, target_text, refusal_text}
use Rattle.nk_trace_law.specs.Lines.{is_word}
use Rattle.nk_trace_law.specs.Spelled.{main_words, back_words, up_words, parent_words, refusal_words, child_words}
use Rattle.nk_trace_law.proofs.Tests.{join, more}
use Rattle.nk_trace_law.proofs.Digits.{decimal_word, code_word, status_word}

-- ALL OF THEM ARE WORDS

one : {a : Bool} → a ≡ true → (a && true) ≡ true
one {a} p = join a true p refl

pub target_word : (t : Target) → is_word (target_text t) ≡ true
target_word place.Main = refl
target_word (place.Worker w) = decimal_word w
target_word place.Back = refl

pub main_words_are : (m : MainMsg) → list_all is_word (main_words m) ≡ true
main_words_are (main.Start h s head) =
    more (decimal_word h) (more (status_word s) (more (code_word head.code) (one (decimal_word (length head.fields)))))
main_words_are (main.FailedOpen h s) = more (decimal_word h) (one (status_word s))
main_words_are (main.Redirect1 h c) = more (decimal_word h) (one (code_word c))
main_words_are (main.Redirect3 h) = one (decimal_word h)

count_by : (n : ℕ) (none : Bool) → list_all is_word (if none then [] else decimal n ∷ []) ≡ true
count_by n true = refl
count_by n false = one (decimal_word n)

pub back_words_are : (m : BackMsg) → list_all is_word (back_words m) ≡ true
back_words_are (back.StartSent h) = one (decimal_word h)
back_words_are (back.Start h s head) =
    more (decimal_word h) (more (status_word s) (more (code_word head.code) (one (decimal_word (length head.fields)))))
back_words_are (back.Bytes h s o piece) =
    more (decimal_word h) (more (status_word s) (more (decimal_word o) (one (decimal_word (length piece)))))
back_words_are (back.Stop h s ts) =
    more (decimal_word h) (more (status_word s) (count_by (length ts) (length ts == 0)))

pub up_words_are : (m : UpMsg) → list_all is_word (up_words m) ≡ true
up_words_are up.Open = refl
up_words_are up.Suspend = refl
up_words_are up.Resume = refl
up_words_are (up.Cancel s) = one (status_word s)
up_words_are (up.Verify h s) = more (decimal_word h) (one (status_word s))
up_words_are (up.BytesRead n) = one (decimal_word n)
up_words_are up.Deleting = refl

pub parent_words_are : (e : ParentEntry) → list_all is_word (parent_words e) ≡ true
parent_words_are (parent.Took m) = up_words_are m
parent_words_are (parent.SentMain m) = main_words_are m
parent_words_are (parent.SentBack m) = back_words_are m

refusal_words_are : (e : RetargetError) → list_all is_word (refusal_words e) ≡ true
refusal_words_are refusal.NotOpened = refl
refusal_words_are refusal.Stopped = refl
refusal_words_are (refusal.Failed s) = one (status_word s)
refusal_words_are refusal.NotRetargetable = refl
refusal_words_are (refusal.AlreadyRetargeted w) = one (decimal_word w)

pub child_words_are : (e : ChildEntry) → list_all is_word (child_words e) ≡ true
child_words_are child.Open = refl
child_words_are child.Suspend = refl
child_words_are child.Resume = refl
child_words_are (child.Cancel s) = one (status_word s)
child_words_are (child.Break s) = one (status_word s)
child_words_are (child.Retarget w) = one (decimal_word w)
child_words_are (child.NoRetarget e) = refusal_words_are e
child_words_are child.NoEffect = refl
child_words_are (child.Verdict h s) = more (decimal_word h) (one (status_word s))
child_words_are (child.TookMain m) = main_words_are m
child_words_are (child.TookBack m) = back_words_are m
child_words_are (child.Release n) = one (decimal_word n)
child_words_are (child.RunStart t c s) = more (target_word t) (more (code_word c) (one (status_word s)))
child_words_are (child.RunBytes t o n) = more (target_word t) (more (decimal_word o) (one (decimal_word n)))
child_words_are (child.RunDrop t o s) = more (target_word t) (more (decimal_word o) (one (status_word s)))
child_words_are (child.RunStop t s) = more (target_word t) (one (status_word s))
child_words_are (child.RunRedirect1 t h) = more (target_word t) (one (decimal_word h))
child_words_are (child.RunRedirect3 t h) = more (target_word t) (one (decimal_word h))
child_words_are (child.RunCancel t s) = more (target_word t) (one (status_word s))
child_words_are (child.HandOver t u) = more (target_word t) (one (target_word u))
child_words_are (child.Ended t) = one (target_word t)
child_words_are (child.Complete t) = one (target_word t)
child_words_are (child.Finish t) = one (target_word t)
child_words_are (child.Prepend s) = one (status_word s)

-- THEY SPELL THE TEXT

pub main_spelled : (m : MainMsg) → main_text m ≡ words (main_words m)
main_spelled (main.Start h s head) = refl
main_spelled (main.FailedOpen h s) = refl
main_spelled (main.Redirect1 h c) = refl
main_spelled (main.Redirect3 h) = refl

counted : (a b : List ℕ) (n : ℕ) (none : Bool) → (a ++ 32 ∷ b) ++ (if none then [] else 32 ∷ decimal n) ≡ words (a ∷ b ∷ (if none then [] else decimal n ∷ []))
counted a b n true = append-nil (a ++ 32 ∷ b)
counted a b n false = append_assoc a (32 ∷ b) (32 ∷ decimal n)

pub back_spelled : (m : BackMsg) → back_text m ≡ words (back_words m)
back_spelled (back.StartSent h) = refl
back_spelled (back.Start h s head) = refl
back_spelled (back.Bytes h s o piece) = refl
back_spelled (back.Stop h s ts) = ap (λ (t : List ℕ). codes "stop" ++ 32 ∷ t) (counted (decimal h) (status_text s) (length ts) (length ts == 0))

pub up_spelled : (m : UpMsg) → up_text m ≡ words (up_words m)
up_spelled up.Open = refl
up_spelled up.Suspend = refl
up_spelled up.Resume = refl
up_spelled (up.Cancel s) = refl
up_spelled (up.Verify h s) = refl
up_spelled (up.BytesRead n) = refl
up_spelled up.Deleting = refl

refusal_spelled : (e : RetargetError) → refusal_text e ≡ words (refusal_words e)
refusal_spelled refusal.NotOpened = refl
refusal_spelled refusal.Stopped = refl
refusal_spelled (refusal.Failed s) = refl
refusal_spelled refusal.NotRetargetable = refl
refusal_spelled (refusal.AlreadyRetargeted w) = refl

-- words behind a word are words
abbrev pub some : List (List ℕ) → Bool
some [] = false
some (w ∷ ws) = true

behind : (v : List ℕ) (ws : List (List ℕ)) → some ws ≡ true → v ++ 32 ∷ words ws ≡ words (v ∷ ws)
behind v [] h = cc
behind v (w ∷ ws) h = refl

pub main_some : (m : MainMsg) → some (main_words m) ≡ true
main_some (main.Start h s head) = refl
main_some (main.FailedOpen h s) = refl
main_some (main.Redirect1 h c) = refl
main_some (main.Redirect3 h) = refl

pub back_some : (m : BackMsg) → some (back_words m) ≡ true
back_some (back.StartSent h) = refl
back_some (back.Start h s head) = refl
back_some (back.Bytes h s o piece) = refl
back_some (back.Stop h s ts) = refl

pub up_some : (m : UpMsg) → some (up_words m) ≡ true
up_some up.Open = refl
up_some up.Suspend = refl
up_some up.Resume = refl
up_some (up.Cancel s) = refl
up_some (up.Verify h s) = refl
up_some (up.BytesRead n) = refl
up_some up.Deleting = refl

refusal_some : (e : RetargetError) → some (refusal_words e) ≡ true
refusal_some refusal.NotOpened = refl
refusal_some refusal.Stopped = refl
refusal_some (refusal.Failed s) = refl
refusal_some refusal.NotRetargetable = refl
refusal_some (refusal.AlreadyRetargeted w) = refl

-- two words before the words of a text
labelled : (u v text : List ℕ) (ws : List (List ℕ)) → some ws ≡ true → text ≡ words ws → u ++ 32 ∷ (v ++ 32 ∷ text) ≡ words (u ∷ v ∷ ws)
labelled u v text ws h e = ap (λ (t : List ℕ). u ++ 32 ∷ (v ++ 32 ∷ t)) e ∙ ap (λ (t : List ℕ). u ++ 32 ∷ t) (behind v ws h)

pub feed : (s t : List ℕ) → s ≡ t → s ++ 10 ∷ [] ≡ t ++ 10 ∷ []
feed s t e = ap (λ (u : List ℕ). u ++ 10 ∷ []) e

pub parent_spelled : (e : ParentEntry) → parent_line e ≡ line (parent_words e)
parent_spelled (parent.Took m) = feed (codes "p" ++ 32 ∷ up_text m) (words (codes "p" ∷ up_words m)) (ap (λ (t : List ℕ). codes "p" ++ 32 ∷ t) (up_spelled m) ∙ behind (codes "p") (up_words m) (up_some m))
parent_spelled (parent.SentMain m) = feed (codes "p send" ++ 32 ∷ main_text m) (words (codes "p" ∷ codes "send" ∷ main_words m)) (labelled (codes "p") (codes "send") (main_text m) (main_words m) (main_some m) (main_spelled m))
parent_spelled (parent.SentBack m) = feed (codes "p send" ++ 32 ∷ back_text m) (words (codes "p" ∷ codes "send" ∷ back_words m)) (labelled (codes "p") (codes "send") (back_text m) (back_words m) (back_some m) (back_spelled m))

pub child_spelled : (e : ChildEntry) → child_line e ≡ line (child_words e)
child_spelled child.Open = refl
child_spelled child.Suspend = refl
child_spelled child.Resume = refl
child_spelled (child.Cancel s) = refl
child_spelled (child.Break s) = refl
child_spelled (child.Retarget w) = refl
child_spelled (child.NoRetarget e) = feed (codes "c refused" ++ 32 ∷ refusal_text e) (words (codes "c" ∷ codes "refused" ∷ refusal_words e)) (labelled (codes "c") (codes "refused") (refusal_text e) (refusal_words e) (refusal_some e) (refusal_spelled e))
child_spelled child.NoEffect = refl
child_spelled (child.Verdict h s) = refl
child_spelled (child.TookMain m) = feed (codes "c main" ++ 32 ∷ main_text m) (words (codes "c" ∷ codes "main" ∷ main_words m)) (labelled (codes "c") (codes "main") (main_text m) (main_words m) (main_some m) (main_spelled m))
child_spelled (child.TookBack m) = feed (codes "c back" ++ 32 ∷ back_text m) (words (codes "c" ∷ codes "back" ∷ back_words m)) (labelled (codes "c") (codes "back") (back_text m) (back_words m) (back_some m) (back_spelled m))
child_spelled (child.Release n) = refl
child_spelled (child.RunStart t c s) = refl
child_spelled (child.RunBytes t o n) = refl
child_spelled (child.RunDrop t o s) = refl
child_spelled (child.RunStop t s) = refl
child_spelled (child.RunRedirect1 t h) = refl
child_spelled (child.RunRedirect3 t h) = refl
child_spelled (child.RunCancel t s) = refl
child_spelled (child.HandOver t u) = refl
child_spelled (child.Ended t) = refl
child_spelled (child.Complete t) = refl
child_spelled (child.Finish t) = refl
child_spelled (child.Prepend s) = refl
