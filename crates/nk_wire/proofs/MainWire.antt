-- The main lane: what a rest is read as is what it spells.
use Rattle.std.proofs.Common.{◌≡◌, ℕ, List, [], ◌∷◌, ◌++◌, Result, Ok, refl, sym, ap, subst, ◌∙◌, arith, inl, inr}
use Rattle.nk_base.specs.declared.message.MainMsg.{MainMsg}
use Rattle.nk_base.specs.declared.message.MainMsg.TheVariants as main
use Rattle.nk_wire.specs.declared.error.DecodeError.{DecodeError}
use Rattle.nk_wire.specs.Layouts.{little, U16, U32}
use Rattle.nk_wire.specs.Kinds.{main_start, failed_open, redirect1, redirect3, main_kinds}
use Rattle.nk_wire.specs.Spelling.{SpellsMain}
use Rattle.nk_wire.specs.Reading.{◌>>=◌, Place, at_end, main_answer}
use Rattle.nk_wire.proofs.Steps.{within-bounds}
use Rattle.nk_wire.proofs.Ranges.{within-from, hop-below, hop-fits}
use Rattle.nk_wire.proofs.Numbers.{AreBytes, AreBytes-behind}
use Rattle.nk_wire.proofs.Spells.{Spells, read-again}
use Rattle.nk_wire.proofs.Rows.{SpellsKind, whole-takes}
use Rattle.nk_wire.proofs.Openings.{opening-found, opening-spells}

-- what the fields of each kind spell is in the wire

start-found : (m : MainMsg) (text : List ℕ) → Spells main_start m text → SpellsMain m (0x01 ∷ text)
start-found m text s =
    let o = opening-found main.Start m text s in
    let is = o.3 in
    subst (λ (n : MainMsg). SpellsMain n (0x01 ∷ text)) is.is (record { in_range = (is.hop_below, is.legal, is.good); fits = is.four; spelled = ap (λ (l : List ℕ). 0x01 ∷ l) is.spelled })

failed_open-found : (m : MainMsg) (text : List ℕ) → Spells failed_open m text → SpellsMain m (0x02 ∷ text)
failed_open-found m text s =
    let st = s.5 in
    subst (λ (n : MainMsg). SpellsMain n (0x02 ∷ text)) st.5.0 (record { in_range = (hop-below s.0 s.4, st.4); fits = st.3; spelled = ap (λ (l : List ℕ). 0x02 ∷ l) (s.2 ∙ ap (λ (l : List ℕ). little U32 s.0 ++ l) (st.2 ∙ ap (λ (l : List ℕ). little U32 st.0 ++ l) st.5.1)) })

redirect1-found : (m : MainMsg) (text : List ℕ) → Spells redirect1 m text → SpellsMain m (0x03 ∷ text)
redirect1-found m text s =
    let co = s.5 in
    subst (λ (n : MainMsg). SpellsMain n (0x03 ∷ text)) co.5.0 (record { in_range = (hop-below s.0 s.4, within-bounds 300 399 co.0 co.4); fits = tt; spelled = ap (λ (l : List ℕ). 0x03 ∷ l) (s.2 ∙ ap (λ (l : List ℕ). little U32 s.0 ++ l) (co.2 ∙ ap (λ (l : List ℕ). little U16 co.0 ++ l) co.5.1)) })

redirect3-found : (m : MainMsg) (text : List ℕ) → Spells redirect3 m text → SpellsMain m (0x04 ∷ text)
redirect3-found m text s =
    subst (λ (n : MainMsg). SpellsMain n (0x04 ∷ text)) s.5.0 (record { in_range = hop-below s.0 s.4; fits = tt; spelled = ap (λ (l : List ℕ). 0x04 ∷ l) (s.2 ∙ ap (λ (l : List ℕ). little U32 s.0 ++ l) s.5.1) })

kind-found : (kind : ℕ) (text : List ℕ) (m : MainMsg) → SpellsKind main_kinds kind m text → SpellsMain m (kind ∷ text)
kind-found kind text m (inl s) = subst (λ (k : ℕ). SpellsMain m (k ∷ text)) (sym s.0) (start-found m text s.1)
kind-found kind text m (inr (inl s)) = subst (λ (k : ℕ). SpellsMain m (k ∷ text)) (sym s.0) (failed_open-found m text s.1)
kind-found kind text m (inr (inr (inl s))) = subst (λ (k : ℕ). SpellsMain m (k ∷ text)) (sym s.0) (redirect1-found m text s.1)
kind-found kind text m (inr (inr (inr (inl s)))) = subst (λ (k : ℕ). SpellsMain m (k ∷ text)) (sym s.0) (redirect3-found m text s.1)
kind-found kind text m (inr (inr (inr (inr s)))) = elim s [ ]

-- a message that is read is what the rest spells
pub main-found : (rest : List ℕ) (m : MainMsg) → AreBytes rest → main_answer rest ≡ Ok m → SpellsMain m rest
main-found [] m are h = absurd cc
main-found (kind ∷ text) m are h =
    kind-found kind text m (whole-takes main_kinds kind (record { at = 1; left = text }) m (AreBytes-behind (kind ∷ []) text are) h)

-- what spells a message is read as it, where nothing follows

pub main-again : (m : MainMsg) (a x : List ℕ) → SpellsMain m a → (to : ℕ) × (main_answer (a ++ x) ≡ at_end (m, record { at = to; left = x }))
main-again (main.Start hop status head) a x s =
    let t = read-again main_start (main.Start hop status head) _ x 1 (opening-spells main.Start hop status head s.in_range.0 s.in_range.1 s.fits s.in_range.2) in
    (t.0, ap (λ (l : List ℕ). main_answer (l ++ x)) s.spelled ∙ ap (λ (r : Result (MainMsg × Place) DecodeError). r >>= at_end) t.1)
main-again (main.FailedOpen hop status) a x s =
    let below = s.in_range.0 in
    let t = read-again failed_open (main.FailedOpen hop status) (little U32 hop ++ little U32 status.0) x 1 (hop, little U32 status.0, refl, omega arith, hop-fits hop below, (status.0, [], refl, s.fits, s.in_range.1, (refl, refl))) in
    (t.0, ap (λ (l : List ℕ). main_answer (l ++ x)) s.spelled ∙ ap (λ (r : Result (MainMsg × Place) DecodeError). r >>= at_end) t.1)
main-again (main.Redirect1 hop code) a x s =
    let below = s.in_range.0 in
    let most = s.in_range.1.1 in
    let t = read-again redirect1 (main.Redirect1 hop code) (little U32 hop ++ little U16 code) x 1 (hop, little U16 code, refl, omega arith, hop-fits hop below, (code, [], refl, omega arith, within-from 300 399 code s.in_range.1.0 most, (refl, refl))) in
    (t.0, ap (λ (l : List ℕ). main_answer (l ++ x)) s.spelled ∙ ap (λ (r : Result (MainMsg × Place) DecodeError). r >>= at_end) t.1)
main-again (main.Redirect3 hop) a x s =
    let below = s.in_range in
    let t = read-again redirect3 (main.Redirect3 hop) (little U32 hop) x 1 (hop, [], refl, omega arith, hop-fits hop below, (refl, refl)) in
    (t.0, ap (λ (l : List ℕ). main_answer (l ++ x)) s.spelled ∙ ap (λ (r : Result (MainMsg × Place) DecodeError). r >>= at_end) t.1)
