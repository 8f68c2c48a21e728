-- What the two journals say that was sent and taken, when entries are added.
use Rattle.std.proofs.Common.{◌≡◌, ◌+◌, ◌∙◌, refl, sym, ap, List, [], ◌∷◌, ◌++◌, length, length-append, append_assoc}
use Rattle.nk_plan.specs.declared.journal.ParentEntry.{ParentEntry}
use Rattle.nk_plan.specs.declared.journal.ParentEntry.TheVariants as parent
use Rattle.nk_plan.specs.declared.journal.ChildEntry.{ChildEntry}
use Rattle.nk_plan.specs.Journal.{main_in, back_in, mains_taken, backs_taken, ups_taken, mains_sent, backs_sent}

-- A child's

pub mains_taken-append : (j k : List ChildEntry) → mains_taken (j ++ k) ≡ mains_taken j ++ mains_taken k
mains_taken-append [] k = refl
mains_taken-append (e ∷ j) k =
    ap (λ t. main_in e ++ t) (mains_taken-append j k) ∙ sym (append_assoc (main_in e) (mains_taken j) (mains_taken k))

pub backs_taken-append : (j k : List ChildEntry) → backs_taken (j ++ k) ≡ backs_taken j ++ backs_taken k
backs_taken-append [] k = refl
backs_taken-append (e ∷ j) k =
    ap (λ t. back_in e ++ t) (backs_taken-append j k) ∙ sym (append_assoc (back_in e) (backs_taken j) (backs_taken k))

pub length-mains_taken : (j k : List ChildEntry) → length (mains_taken (j ++ k)) ≡ length (mains_taken j) + length (mains_taken k)
length-mains_taken j k = ap length (mains_taken-append j k) ∙ length-append (mains_taken j) (mains_taken k)

pub length-backs_taken : (j k : List ChildEntry) → length (backs_taken (j ++ k)) ≡ length (backs_taken j) + length (backs_taken k)
length-backs_taken j k = ap length (backs_taken-append j k) ∙ length-append (backs_taken j) (backs_taken k)

-- A parent's

pub mains_sent-append : (p q : List ParentEntry) → mains_sent (p ++ q) ≡ mains_sent p ++ mains_sent q
mains_sent-append [] q = refl
mains_sent-append (parent.Took m ∷ p) q = mains_sent-append p q
mains_sent-append (parent.SentMain m ∷ p) q = ap (λ t. m ∷ t) (mains_sent-append p q)
mains_sent-append (parent.SentBack m ∷ p) q = mains_sent-append p q

pub backs_sent-append : (p q : List ParentEntry) → backs_sent (p ++ q) ≡ backs_sent p ++ backs_sent q
backs_sent-append [] q = refl
backs_sent-append (parent.Took m ∷ p) q = backs_sent-append p q
backs_sent-append (parent.SentMain m ∷ p) q = backs_sent-append p q
backs_sent-append (parent.SentBack m ∷ p) q = ap (λ t. m ∷ t) (backs_sent-append p q)

pub ups_taken-append : (p q : List ParentEntry) → ups_taken (p ++ q) ≡ ups_taken p ++ ups_taken q
ups_taken-append [] q = refl
ups_taken-append (parent.Took m ∷ p) q = ap (λ t. m ∷ t) (ups_taken-append p q)
ups_taken-append (parent.SentMain m ∷ p) q = ups_taken-append p q
ups_taken-append (parent.SentBack m ∷ p) q = ups_taken-append p q

pub length-mains_sent : (p q : List ParentEntry) → length (mains_sent (p ++ q)) ≡ length (mains_sent p) + length (mains_sent q)
length-mains_sent p q = ap length (mains_sent-append p q) ∙ length-append (mains_sent p) (mains_sent q)

pub length-backs_sent : (p q : List ParentEntry) → length (backs_sent (p ++ q)) ≡ length (backs_sent p) + length (backs_sent q)
length-backs_sent p q = ap length (backs_sent-append p q) ∙ length-append (backs_sent p) (backs_sent q)

pub length-ups_taken : (p q : List ParentEntry) → length (ups_taken (p ++ q)) ≡ length (ups_taken p) + length (ups_taken q)
length-ups_taken p q = ap length (ups_taken-append p q) ∙ length-append (ups_taken p) (ups_taken q)
