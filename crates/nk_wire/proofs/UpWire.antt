-- The up lane: what a rest is read as is what it spells.
use Rattle.std.proofs.Common.{◌≡◌, ℕ, List, [], ◌∷◌, ◌++◌, Result, Ok, refl, sym, ap, subst, ◌∙◌, arith, inl, inr}
use Rattle.nk_base.specs.declared.message.UpMsg.{UpMsg}
use Rattle.nk_base.specs.declared.message.UpMsg.TheVariants as up
use Rattle.nk_wire.specs.declared.error.DecodeError.{DecodeError}
use Rattle.nk_wire.specs.Layouts.{little, U32, Done}
use Rattle.nk_wire.specs.Kinds.{cancel, verify, bytes_read, up_kinds}
use Rattle.nk_wire.specs.Spelling.{SpellsUp}
use Rattle.nk_wire.specs.Reading.{◌>>=◌, Place, at_end, up_answer}
use Rattle.nk_wire.proofs.Steps.{within-bounds}
use Rattle.nk_wire.proofs.Ranges.{within-from, hop-below, hop-fits}
use Rattle.nk_wire.proofs.Numbers.{AreBytes, AreBytes-behind}
use Rattle.nk_wire.proofs.Spells.{Spells, read-again}
use Rattle.nk_wire.proofs.Rows.{SpellsKind, whole-takes}

-- what the fields of each kind spell is in the wire

open-found : (m : UpMsg) (text : List ℕ) → Spells (Done up.Open) m text → SpellsUp m (0x21 ∷ text)
open-found m text s = subst (λ (n : UpMsg). SpellsUp n (0x21 ∷ text)) s.0 (record { in_range = tt; fits = tt; spelled = ap (λ (l : List ℕ). 0x21 ∷ l) s.1 })

suspend-found : (m : UpMsg) (text : List ℕ) → Spells (Done up.Suspend) m text → SpellsUp m (0x22 ∷ text)
suspend-found m text s = subst (λ (n : UpMsg). SpellsUp n (0x22 ∷ text)) s.0 (record { in_range = tt; fits = tt; spelled = ap (λ (l : List ℕ). 0x22 ∷ l) s.1 })

resume-found : (m : UpMsg) (text : List ℕ) → Spells (Done up.Resume) m text → SpellsUp m (0x23 ∷ text)
resume-found m text s = subst (λ (n : UpMsg). SpellsUp n (0x23 ∷ text)) s.0 (record { in_range = tt; fits = tt; spelled = ap (λ (l : List ℕ). 0x23 ∷ l) s.1 })

cancel-found : (m : UpMsg) (text : List ℕ) → Spells cancel m text → SpellsUp m (0x24 ∷ text)
cancel-found m text s =
    subst (λ (n : UpMsg). SpellsUp n (0x24 ∷ text)) s.5.0 (record { in_range = s.4; fits = s.3; spelled = ap (λ (l : List ℕ). 0x24 ∷ l) (s.2 ∙ ap (λ (l : List ℕ). little U32 s.0 ++ l) s.5.1) })

verify-found : (m : UpMsg) (text : List ℕ) → Spells verify m text → SpellsUp m (0x25 ∷ text)
verify-found m text s =
    let st = s.5 in
    subst (λ (n : UpMsg). SpellsUp n (0x25 ∷ text)) st.5.0 (record { in_range = (hop-below s.0 s.4, st.4); fits = st.3; spelled = ap (λ (l : List ℕ). 0x25 ∷ l) (s.2 ∙ ap (λ (l : List ℕ). little U32 s.0 ++ l) (st.2 ∙ ap (λ (l : List ℕ). little U32 st.0 ++ l) st.5.1)) })

bytes_read-found : (m : UpMsg) (text : List ℕ) → Spells bytes_read m text → SpellsUp m (0x26 ∷ text)
bytes_read-found m text s =
    subst (λ (n : UpMsg). SpellsUp n (0x26 ∷ text)) s.5.0 (record { in_range = within-bounds 1 131072 s.0 s.4; fits = tt; spelled = ap (λ (l : List ℕ). 0x26 ∷ l) (s.2 ∙ ap (λ (l : List ℕ). little U32 s.0 ++ l) s.5.1) })

deleting-found : (m : UpMsg) (text : List ℕ) → Spells (Done up.Deleting) m text → SpellsUp m (0x27 ∷ text)
deleting-found m text s = subst (λ (n : UpMsg). SpellsUp n (0x27 ∷ text)) s.0 (record { in_range = tt; fits = tt; spelled = ap (λ (l : List ℕ). 0x27 ∷ l) s.1 })

kind-found : (kind : ℕ) (text : List ℕ) (m : UpMsg) → SpellsKind up_kinds kind m text → SpellsUp m (kind ∷ text)
kind-found kind text m (inl s) = subst (λ (k : ℕ). SpellsUp m (k ∷ text)) (sym s.0) (open-found m text s.1)
kind-found kind text m (inr (inl s)) = subst (λ (k : ℕ). SpellsUp m (k ∷ text)) (sym s.0) (suspend-found m text s.1)
kind-found kind text m (inr (inr (inl s))) = subst (λ (k : ℕ). SpellsUp m (k ∷ text)) (sym s.0) (resume-found m text s.1)
kind-found kind text m (inr (inr (inr (inl s)))) = subst (λ (k : ℕ). SpellsUp m (k ∷ text)) (sym s.0) (cancel-found m text s.1)
kind-found kind text m (inr (inr (inr (inr (inl s))))) = subst (λ (k : ℕ). SpellsUp m (k ∷ text)) (sym s.0) (verify-found m text s.1)
kind-found kind text m (inr (inr (inr (inr (inr (inl s)))))) = subst (λ (k : ℕ). SpellsUp m (k ∷ text)) (sym s.0) (bytes_read-found m text s.1)
kind-found kind text m (inr (inr (inr (inr (inr (inr (inl s))))))) = subst (λ (k : ℕ). SpellsUp m (k ∷ text)) (sym s.0) (deleting-found m text s.1)
kind-found kind text m (inr (inr (inr (inr (inr (inr (inr s))))))) = elim s [ ]

-- a message that is read is what the rest spells
pub up-found : (rest : List ℕ) (m : UpMsg) → AreBytes rest → up_answer rest ≡ Ok m → SpellsUp m rest
up-found [] m are h = absurd cc
up-found (kind ∷ text) m are h =
    kind-found kind text m (whole-takes up_kinds kind (record { at = 1; left = text }) m (AreBytes-behind (kind ∷ []) text are) h)

-- what spells a message is read as it, where nothing follows
pub up-again : (m : UpMsg) (a x : List ℕ) → SpellsUp m a → (to : ℕ) × (up_answer (a ++ x) ≡ at_end (m, record { at = to; left = x }))
up-again up.Open a x s = (1, ap (λ (l : List ℕ). up_answer (l ++ x)) s.spelled)
up-again up.Suspend a x s = (1, ap (λ (l : List ℕ). up_answer (l ++ x)) s.spelled)
up-again up.Resume a x s = (1, ap (λ (l : List ℕ). up_answer (l ++ x)) s.spelled)
up-again (up.Cancel status) a x s =
    let t = read-again cancel (up.Cancel status) (little U32 status.0) x 1 (status.0, [], refl, s.fits, s.in_range, (refl, refl)) in
    (t.0, ap (λ (l : List ℕ). up_answer (l ++ x)) s.spelled ∙ ap (λ (r : Result (UpMsg × Place) DecodeError). r >>= at_end) t.1)
up-again (up.Verify hop status) a x s =
    let below = s.in_range.0 in
    let t = read-again verify (up.Verify hop status) (little U32 hop ++ little U32 status.0) x 1 (hop, little U32 status.0, refl, omega arith, hop-fits hop below, (status.0, [], refl, s.fits, s.in_range.1, (refl, refl))) in
    (t.0, ap (λ (l : List ℕ). up_answer (l ++ x)) s.spelled ∙ ap (λ (r : Result (UpMsg × Place) DecodeError). r >>= at_end) t.1)
up-again (up.BytesRead count) a x s =
    let most = s.in_range.1 in
    let t = read-again bytes_read (up.BytesRead count) (little U32 count) x 1 (count, [], refl, omega arith, within-from 1 131072 count s.in_range.0 most, (refl, refl)) in
    (t.0, ap (λ (l : List ℕ). up_answer (l ++ x)) s.spelled ∙ ap (λ (r : Result (UpMsg × Place) DecodeError). r >>= at_end) t.1)
up-again up.Deleting a x s = (1, ap (λ (l : List ℕ). up_answer (l ++ x)) s.spelled)
