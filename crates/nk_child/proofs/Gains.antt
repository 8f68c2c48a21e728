-- What was made ready is what a list has gained.
use Rattle.std.proofs.Common.{◌≡◌, ◌++◌, sym, ◌∙◌, ap, List, [], ◌∷◌, length, drop, append_assoc, append-nil, Option, Some, None}
use Rattle.std.proofs.Math.Seq.{drop-append_seam, drop-length}
use Rattle.nk_child.specs.Shown.{with_shown}
use Rattle.nk_child.specs.Views.{Gains}

-- these items
pub gains : {A : Type 0} (old new before after more : List A) → new ≡ old ++ more → after ≡ before ++ more → Gains old new before after
gains old new before after more n a = a ∙ sym (ap (λ xs. before ++ xs) (ap (drop (length old)) n ∙ drop-append_seam old more))

-- nothing
pub gains_none : {A : Type 0} (old new before after : List A) → new ≡ old → after ≡ before → Gains old new before after
gains_none old new before after n a =
    a ∙ sym (ap (λ xs. before ++ xs) (ap (drop (length old)) n ∙ drop-length old) ∙ append-nil before)

-- one item, or none
pub gains_shown : {A : Type 0} (old new before after : List A) (x : Option A) → new ≡ with_shown old x → after ≡ with_shown before x → Gains old new before after
gains_shown old new before after None n a = gains_none old new before after n a
gains_shown old new before after (Some x) n a = gains old new before after (x ∷ []) n a

-- nothing more
pub gains_then : {A : Type 0} (old mid new before after : List A) → Gains old mid before after → new ≡ mid → Gains old new before after
gains_then old mid new before after g n = g ∙ sym (ap (λ xs. before ++ drop (length old) xs) n)

pub nothing_behind : {A : Type 0} (xs : List A) → xs ++ [] ≡ xs
nothing_behind xs = append-nil xs

-- these items, and then those
pub gains_two : {A : Type 0} (old new before after some more : List A) → new ≡ (old ++ some) ++ more → after ≡ (before ++ some) ++ more → Gains old new before after
gains_two old new before after some more n a =
    gains old new before after (some ++ more) (n ∙ append_assoc old some more) (a ∙ append_assoc before some more)

-- of a list to which nothing was ready before, all that is ready now
pub whole : {A : Type 0} (old new before after : List A) → before ≡ [] → Gains old new before after → after ≡ drop (length old) new
whole old new before after b g = g ∙ ap (λ xs. xs ++ drop (length old) new) b
