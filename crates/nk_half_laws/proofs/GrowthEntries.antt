-- What a step has added so far, entry by entry.
use Rattle.std.proofs.Common.{ℕ, ◌≡◌, ◌∙◌, refl, sym, ap, List, [], ◌∷◌, ◌++◌, append_assoc, Bool, true, false, ◌||◌, if◌then◌else◌, Option, Some, None, is_some}
use Rattle.nk_base.specs.declared.status.Status.{Status}
use Rattle.nk_base.specs.declared.message.MainMsg.{MainMsg}
use Rattle.nk_base.specs.declared.message.BackMsg.{BackMsg}
use Rattle.nk_base.specs.declared.message.UpMsg.{UpMsg}
use Rattle.nk_base.specs.declared.message.UpMsg.TheVariants as up
use Rattle.nk_base.specs.declared.message.Entry.{Entry}
use Rattle.nk_base.specs.Status.{is_failure, merged, kept_status}
use Rattle.nk_plan.specs.declared.plan.ChannelPlan.{ChannelPlan}
use Rattle.nk_plan.specs.declared.journal.ChildEntry.{ChildEntry}
use Rattle.nk_plan.specs.Journal.{main_in, mains_taken, back_in, backs_taken}
use Rattle.nk_plan.specs.Telling.{Telling, sends_at, telling_after, sends_from}
use Rattle.nk_plan.specs.Child.{ChildState, cancel_messages}
use Rattle.nk_half_laws.proofs.Journals.{mains_taken-append, backs_taken-append}
use Rattle.nk_half_laws.specs.Growth.{shape_of, shapes, told_by, hop_by, told, hop_after, telling_of, telling_at}
use Rattle.std.proofs.lemmas.List.{append-nil}

-- One more entry, or several

telling_then : (t : Telling) (j : List ChildEntry) (e : ChildEntry) → telling_at t (j ++ e ∷ []) ≡ telling_after (telling_at t j) e
telling_then t [] e = refl
telling_then t (d ∷ j) e = telling_then (telling_after t d) j e

sends_then : (t : Telling) (j : List ChildEntry) (e : ChildEntry)
    → sends_from t (j ++ e ∷ []) ≡ sends_from t j ++ sends_at (telling_at t j) e
sends_then t [] e = append-nil (sends_at t e)
sends_then t (d ∷ j) e =
    ap (λ u. sends_at t d ++ u) (sends_then (telling_after t d) j e)
    ∙ sym (append_assoc (sends_at t d) (sends_from (telling_after t d) j) (sends_at (telling_at (telling_after t d) j) e))

hop_then : (h : ℕ) (j : List ChildEntry) (e : ChildEntry) → hop_after h (j ++ e ∷ []) ≡ hop_by (hop_after h j) e
hop_then h [] e = refl
hop_then h (d ∷ j) e = hop_then (hop_by h d) j e

pub hops_then : (h : ℕ) (j k : List ChildEntry) → hop_after h (j ++ k) ≡ hop_after (hop_after h j) k
hops_then h [] k = refl
hops_then h (d ∷ j) k = hops_then (hop_by h d) j k

pub tolds_then : (c : ChannelPlan) (h : ℕ) (j k : List ChildEntry) → told c h (j ++ k) ≡ told c h j ++ told c (hop_after h j) k
tolds_then c h [] k = refl
tolds_then c h (d ∷ j) k =
    ap (λ u. told_by c h d ++ u) (tolds_then c (hop_by h d) j k)
    ∙ sym (append_assoc (told_by c h d) (told c (hop_by h d) j) (told c (hop_after (hop_by h d) j) k))

told_then : (c : ChannelPlan) (h : ℕ) (j : List ChildEntry) (e : ChildEntry)
    → told c h (j ++ e ∷ []) ≡ told c h j ++ told_by c (hop_after h j) e
told_then c h j e = tolds_then c h j (e ∷ []) ∙ ap (λ u. told c h j ++ u) (append-nil (told_by c (hop_after h j) e))

pub shapes_then : (t y : List Entry) → shapes (t ++ y) ≡ shapes t ++ shapes y
shapes_then [] y = refl
shapes_then (x ∷ t) y = ap (λ u. shape_of x ∷ u) (shapes_then t y)

mains_then : (j : List ChildEntry) (e : ChildEntry) → main_in e ≡ [] → mains_taken (j ++ e ∷ []) ≡ mains_taken j
mains_then j e n =
    mains_taken-append j (e ∷ []) ∙ (ap (λ u. mains_taken j ++ (u ++ [])) n ∙ append-nil (mains_taken j))

backs_then : (j : List ChildEntry) (e : ChildEntry) → back_in e ≡ [] → backs_taken (j ++ e ∷ []) ≡ backs_taken j
backs_then j e n =
    backs_taken-append j (e ∷ []) ∙ (ap (λ u. backs_taken j ++ (u ++ [])) n ∙ append-nil (backs_taken j))

-- from the state z: the entries that came, what was shown with them, and what they tell
pub record Grown (c : ChannelPlan) (z : ChildState) (m : List MainMsg) (b : List BackMsg) (l : Telling) (h : ℕ) (j : List ChildEntry)
    (u : List UpMsg) (t : List Entry) : Type 0 where
  pub entries : List ChildEntry
  pub showing : List Entry
  pub journal : j ≡ z.journal ++ entries
  pub sent : u ≡ z.sent ++ sends_from (telling_of z) entries
  pub trace : t ≡ z.trace ++ showing
  pub shows : shapes showing ≡ told c z.hop entries
  pub telling : telling_at (telling_of z) entries ≡ l
  pub hop : hop_after z.hop entries ≡ h
  pub mains : mains_taken entries ≡ m
  pub backs : backs_taken entries ≡ b

abbrev pub Grows : ChannelPlan → ChildState → List MainMsg → List BackMsg → ChildState → Type 0
Grows c z m b s = Grown c z m b (telling_of s) s.hop s.journal s.sent s.trace

pub next : {c : ChannelPlan} {z : ChildState} {m : List MainMsg} {b : List BackMsg} {l : Telling} {h : ℕ} {j : List ChildEntry}
    {u : List UpMsg} {t : List Entry} → Grown c z m b l h j u t
    → (e : ChildEntry) (l' : Telling) (h' : ℕ) (u' : List UpMsg) (t' more : List Entry)
    → u' ≡ u ++ sends_at l e → t' ≡ t ++ more → shapes more ≡ told_by c h e → telling_after l e ≡ l' → hop_by h e ≡ h' → main_in e ≡ []
    → back_in e ≡ []
    → Grown c z m b l' h' (j ++ e ∷ []) u' t'
next {c} {z} {m} {b} {l} {h} {j} {u} {t} g e l' h' u' t' more us ts sh te ho mn bn = record {
  entries = g.entries ++ e ∷ [];
  showing = g.showing ++ more;
  journal = ap (λ x. x ++ e ∷ []) g.journal ∙ append_assoc z.journal g.entries (e ∷ []);
  sent =
      us
      ∙ (ap (λ x. x ++ sends_at l e) g.sent
      ∙ (append_assoc z.sent (sends_from (telling_of z) g.entries) (sends_at l e)
      ∙ ap (λ x. z.sent ++ x) (ap (λ x. sends_from (telling_of z) g.entries ++ sends_at x e) (sym g.telling)
      ∙ sym (sends_then (telling_of z) g.entries e))));
  trace = ts ∙ (ap (λ x. x ++ more) g.trace ∙ append_assoc z.trace g.showing more);
  shows =
      shapes_then g.showing more
      ∙ (ap (λ x. x ++ shapes more) g.shows
      ∙ (ap (λ x. told c z.hop g.entries ++ x) (sh ∙ ap (λ x. told_by c x e) (sym g.hop)) ∙ sym (told_then c z.hop g.entries e)));
  telling = telling_then (telling_of z) g.entries e ∙ (ap (λ x. telling_after x e) g.telling ∙ te);
  hop = hop_then z.hop g.entries e ∙ (ap (λ x. hop_by x e) g.hop ∙ ho);
  mains = mains_then g.entries e mn ∙ g.mains;
  backs = backs_then g.entries e bn ∙ g.backs;
}

-- an entry with which nothing is sent or shown
pub plain : {c : ChannelPlan} {z : ChildState} {m : List MainMsg} {b : List BackMsg} {l : Telling} {h : ℕ} {j : List ChildEntry}
    {u : List UpMsg} {t : List Entry} → Grown c z m b l h j u t
    → (e : ChildEntry) (l' : Telling) (h' : ℕ) → sends_at l e ≡ [] → [] ≡ told_by c h e → telling_after l e ≡ l' → hop_by h e ≡ h'
    → main_in e ≡ [] → back_in e ≡ []
    → Grown c z m b l' h' (j ++ e ∷ []) u t
plain {c} {z} {m} {b} {l} {h} {j} {u} {t} g e l' h' us sh te ho mn bn =
    next g e l' h' u t [] (sym (ap (λ x. u ++ x) us ∙ append-nil u)) (sym (append-nil t)) sh te ho mn bn

-- one with which this is sent
pub sends : {c : ChannelPlan} {z : ChildState} {m : List MainMsg} {b : List BackMsg} {l : Telling} {h : ℕ} {j : List ChildEntry}
    {u : List UpMsg} {t : List Entry} → Grown c z m b l h j u t
    → (e : ChildEntry) (l' : Telling) (h' : ℕ) (us : List UpMsg) → sends_at l e ≡ us → [] ≡ told_by c h e → telling_after l e ≡ l'
    → hop_by h e ≡ h' → main_in e ≡ [] → back_in e ≡ []
    → Grown c z m b l' h' (j ++ e ∷ []) (u ++ us) t
sends {c} {z} {m} {b} {l} {h} {j} {u} {t} g e l' h' us q sh te ho mn bn =
    next g e l' h' (u ++ us) t [] (ap (λ x. u ++ x) (sym q)) (sym (append-nil t)) sh te ho mn bn

-- one with which this is shown
pub displays : {c : ChannelPlan} {z : ChildState} {m : List MainMsg} {b : List BackMsg} {l : Telling} {h : ℕ} {j : List ChildEntry}
    {u : List UpMsg} {t : List Entry} → Grown c z m b l h j u t
    → (e : ChildEntry) (l' : Telling) (h' : ℕ) (y : Entry) → sends_at l e ≡ [] → shape_of y ∷ [] ≡ told_by c h e → telling_after l e ≡ l'
    → hop_by h e ≡ h' → main_in e ≡ [] → back_in e ≡ []
    → Grown c z m b l' h' (j ++ e ∷ []) u (t ++ y ∷ [])
displays {c} {z} {m} {b} {l} {h} {j} {u} {t} g e l' h' y us sh te ho mn bn =
    next g e l' h' u (t ++ y ∷ []) (y ∷ []) (sym (ap (λ x. u ++ x) us ∙ append-nil u)) refl sh te ho mn bn

-- Whether a failure is kept, once a status was merged

failed_test : (b : Bool) (st : Status) → is_failure st ≡ b → is_failure st ≡ is_some (if b then Some st else None)
failed_test true st e = e
failed_test false st e = e

pub failed_merged : (k : Option Status) (st : Status) → (is_some k || is_failure st) ≡ is_some (merged k st)
failed_merged None st = failed_test (is_failure st) st refl
failed_merged (Some q) st = refl

shown_test : (b : Bool) (st : Status) → is_failure st ≡ b
    → is_failure (kept_status (if b then Some st else None)) ≡ is_some (if b then Some st else None)
shown_test true st e = e
shown_test false st e = refl

pub failed_shown : (k : Option Status) (st : Status) → (is_some k || is_failure (kept_status (merged k st))) ≡ is_some (merged k st)
failed_shown None st = shown_test (is_failure st) st refl
failed_shown (Some q) st = refl

pub cancel_same : (k : Option Status) (st : Status) → (if is_some k then [] else up.Cancel st ∷ []) ≡ cancel_messages k st
cancel_same None st = refl
cancel_same (Some q) st = refl

abbrev pub with_failed : ChildState → List UpMsg → Bool → Telling
with_failed s owed b = record { suspends = s.suspends; failed = b; owed = owed }
