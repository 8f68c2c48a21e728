-- The background lane: what a rest is read as is what it spells.
use Rattle.std.proofs.Common.{◌≡◌, ◌≤◌, ◌<◌, ℕ, ◌==◌, if◌then◌else◌, Bool, true, false, List, [], ◌∷◌, ◌++◌, length, Result, Ok, refl, sym, ap, subst, ◌∙◌, append_assoc, arith, inl, inr}
use Rattle.std.specs.List.{flat_map}
use Rattle.std.proofs.lemmas.Bool.{eqb-true}
use Rattle.std.proofs.lemmas.List.{append-nil}
use Rattle.nk_base.specs.declared.status.Status.{Status}
use Rattle.nk_base.specs.declared.field.Field.{Field}
use Rattle.nk_base.specs.declared.message.BackMsg.{BackMsg}
use Rattle.nk_base.specs.declared.message.BackMsg.TheVariants as back
use Rattle.nk_base.specs.Status.{is_legal_status, ok}
use Rattle.nk_base.specs.Ranges.{AreTrailers}
use Rattle.nk_wire.specs.declared.error.DecodeError.{DecodeError}
use Rattle.nk_wire.specs.Layouts.{little, U16, U32, U64}
use Rattle.nk_wire.specs.Kinds.{status_of, back_start, start_sent, bytes, stop, stop_with_trailers, back_kinds, second_kinds}
use Rattle.nk_wire.specs.Spelling.{SpellsBack, field, fields, HasFourBytes}
use Rattle.nk_wire.specs.Spelling as spelling
use Rattle.nk_wire.specs.Reading.{◌>>=◌, Place, at_end, read_kind, second_message, back_answer}
use Rattle.nk_wire.proofs.Steps.{within-bounds}
use Rattle.nk_wire.proofs.Ranges.{within-from, hop-below, hop-fits, ok-from}
use Rattle.nk_wire.proofs.Numbers.{AreBytes, AreBytes-behind}
use Rattle.nk_wire.proofs.Spells.{Spells, read-again}
use Rattle.nk_wire.proofs.Rows.{SpellsKind, whole-takes, chosen}
use Rattle.nk_wire.proofs.Openings.{opening-found, opening-spells}

-- what the fields of each kind spell is in the wire

start-found : (m : BackMsg) (text : List ℕ) → Spells back_start m text → SpellsBack m (0x14 ∷ text)
start-found m text s =
    let o = opening-found back.Start m text s in
    let is = o.3 in
    subst (λ (n : BackMsg). SpellsBack n (0x14 ∷ text)) is.is (record { in_range = (is.hop_below, is.legal, is.good); fits = is.four; spelled = ap (λ (l : List ℕ). 0x14 ∷ l) is.spelled })

start_sent-found : (m : BackMsg) (text : List ℕ) → Spells start_sent m text → SpellsBack m (0x11 ∷ text)
start_sent-found m text s =
    subst (λ (n : BackMsg). SpellsBack n (0x11 ∷ text)) s.5.0 (record { in_range = hop-below s.0 s.4; fits = tt; spelled = ap (λ (l : List ℕ). 0x11 ∷ l) (s.2 ∙ ap (λ (l : List ℕ). little U32 s.0 ++ l) s.5.1) })

bytes_joined : (a b c d e t1 t2 t3 t4 t5 text : List ℕ) → text ≡ a ++ t1 → t1 ≡ b ++ t2 → t2 ≡ c ++ t3 → t3 ≡ d ++ t4 → t4 ≡ e ++ t5 → t5 ≡ [] → text ≡ a ++ b ++ c ++ d ++ e
bytes_joined a b c d e t1 t2 t3 t4 t5 text x y z v w u = rw (x, y, z, v, w, u) (simp (append_assoc, append-nil))

bytes-found : (m : BackMsg) (text : List ℕ) → Spells bytes m text → SpellsBack m (0x12 ∷ text)
bytes-found m text s =
    let st = s.5 in let of = st.5 in let le = of.5 in let pi = le.5 in
    let size : little U32 le.0 ++ le.1 ≡ little U32 (length pi.0) ++ le.1 = ap (λ (n : ℕ). little U32 n ++ le.1) (sym pi.3) in
    let is_size = within-bounds 1 131072 le.0 le.4 in
    let joined = bytes_joined (little U32 s.0) (little U32 st.0) (little U64 of.0) (little U32 (length pi.0)) pi.0 s.1 st.1 of.1 le.1 pi.1 text s.2 st.2 of.2 (le.2 ∙ size) pi.2 pi.5.1 in
    subst (λ (n : BackMsg). SpellsBack n (0x12 ∷ text)) pi.5.0 (record { in_range = (hop-below s.0 s.4, st.4, (omega (arith, is_size.0, pi.3), omega (arith, is_size.1, pi.3))); fits = (st.3, of.3); spelled = ap (λ (l : List ℕ). 0x12 ∷ l) joined })

no_trailers : (status : Status) → AreTrailers status []
no_trailers status = record { count = omega arith; good = refl; after_success = λ h. absurd (omega arith) }

stop-found : (m : BackMsg) (text : List ℕ) → Spells stop m text → SpellsBack m (0x13 ∷ text)
stop-found m text s =
    let st = s.5 in
    subst (λ (n : BackMsg). SpellsBack n (0x13 ∷ text)) st.5.0 (record { in_range = (hop-below s.0 s.4, st.4, no_trailers (status_of st.0)); fits = st.3; spelled = ap (λ (l : List ℕ). 0x13 ∷ l) (s.2 ∙ ap (λ (l : List ℕ). little U32 s.0 ++ l) (st.2 ∙ ap (λ (l : List ℕ). little U32 st.0 ++ l) st.5.1)) })

-- a stop with trailers

pub some_spelled : (hop : ℕ) (status : Status) (fs : List Field) → 0 < length fs → spelling.stop hop status fs ≡ 0xf2 ∷ 0x13 ∷ (little U32 hop ++ little U32 status.0 ++ fields fs)
some_spelled hop status [] some = absurd (omega arith)
some_spelled hop status (f ∷ fs) some = refl

four_joined : (a b c d t1 t2 t3 t4 text : List ℕ) → text ≡ a ++ t1 → t1 ≡ b ++ t2 → t2 ≡ c ++ t3 → t3 ≡ d ++ t4 → t4 ≡ [] → text ≡ a ++ b ++ (c ++ d)
four_joined a b c d t1 t2 t3 t4 text x y z v u = rw (x, y, z, v, u) (simp (append_assoc, append-nil))

trailers-found : (m : BackMsg) (text : List ℕ) → Spells stop_with_trailers m text → SpellsBack m (0xf2 ∷ 0x13 ∷ text)
trailers-found m text s =
    let st = s.5 in let cn = st.5 in let fs = cn.5 in
    let status : Status = status_of st.0 in
    let is_ok : status ≡ ok = ok-from st.0 st.4 in
    let counts = within-bounds 1 64 cn.0 cn.4 in
    let some : 0 < length fs.0 = omega (arith, counts.0, fs.3) in
    let few : length fs.0 ≤ 64 = omega (arith, counts.1, fs.3) in
    let count : little U16 cn.0 ++ cn.1 ≡ little U16 (length fs.0) ++ cn.1 = ap (λ (n : ℕ). little U16 n ++ cn.1) (sym fs.3) in
    let joined = four_joined (little U32 s.0) (little U32 st.0) (little U16 (length fs.0)) (flat_map field fs.0) s.1 st.1 cn.1 fs.1 text s.2 st.2 (cn.2 ∙ count) fs.2 fs.5.1 in
    let legal : is_legal_status status ≡ true = subst (λ (x : Status). is_legal_status x ≡ true) (sym is_ok) refl in
    subst (λ (n : BackMsg). SpellsBack n (0xf2 ∷ 0x13 ∷ text)) fs.5.0 (record {
      in_range = (hop-below s.0 s.4, legal, record { count = few; good = fs.4; after_success = λ h. is_ok });
      fits = st.3;
      spelled = ap (λ (l : List ℕ). 0xf2 ∷ 0x13 ∷ l) joined ∙ sym (some_spelled s.0 status fs.0 some);
    })

kind-found : (kind : ℕ) (text : List ℕ) (m : BackMsg) → SpellsKind back_kinds kind m text → SpellsBack m (kind ∷ text)
kind-found kind text m (inl s) = subst (λ (k : ℕ). SpellsBack m (k ∷ text)) (sym s.0) (start_sent-found m text s.1)
kind-found kind text m (inr (inl s)) = subst (λ (k : ℕ). SpellsBack m (k ∷ text)) (sym s.0) (bytes-found m text s.1)
kind-found kind text m (inr (inr (inl s))) = subst (λ (k : ℕ). SpellsBack m (k ∷ text)) (sym s.0) (stop-found m text s.1)
kind-found kind text m (inr (inr (inr (inl s)))) = subst (λ (k : ℕ). SpellsBack m (k ∷ text)) (sym s.0) (start-found m text s.1)
kind-found kind text m (inr (inr (inr (inr s)))) = elim s [ ]

second-found : (kind : ℕ) (text : List ℕ) (m : BackMsg) → SpellsKind second_kinds kind m text → SpellsBack m (0xf2 ∷ kind ∷ text)
second-found kind text m (inl s) = subst (λ (k : ℕ). SpellsBack m (0xf2 ∷ k ∷ text)) (sym s.0) (trailers-found m text s.1)
second-found kind text m (inr s) = elim s [ ]

-- a message that is read is what the rest spells

version-found : (text : List ℕ) (m : BackMsg) → AreBytes text → (second_message (record { at = 1; left = text }) >>= at_end) ≡ Ok m → SpellsBack m (0xf2 ∷ text)
version-found [] m are h = absurd cc
version-found (kind ∷ text) m are h =
    second-found kind text m (whole-takes second_kinds kind (record { at = 2; left = text }) m (AreBytes-behind (kind ∷ []) text are) h)

split : (b : Bool) (x y : Result (BackMsg × Place) DecodeError) → (if b then (x >>= at_end) else (y >>= at_end)) ≡ ((if b then x else y) >>= at_end)
split true x y = refl
split false x y = refl

pub back-found : (rest : List ℕ) (m : BackMsg) → AreBytes rest → back_answer rest ≡ Ok m → SpellsBack m rest
back-found [] m are h = absurd cc
back-found (kind ∷ text) m are h =
    let p : Place = record { at = 1; left = text } in
    let behind = AreBytes-behind (kind ∷ []) text are in
    elim (chosen (kind == 0xf2) (second_message p >>= at_end) (read_kind back_kinds kind p >>= at_end) (Ok m) (split (kind == 0xf2) (second_message p) (read_kind back_kinds kind p) ∙ h)) [
      | inl second ↦ subst (λ (k : ℕ). SpellsBack m (k ∷ text)) (sym (eqb-true kind 0xf2 second.0)) (version-found text m behind second.1)
      | inr first ↦ kind-found kind text m (whole-takes back_kinds kind p m behind first.1)
    ]

-- what spells a message is read as it, where nothing follows

bytes_parted : (a b c d e : List ℕ) → a ++ b ++ c ++ d ++ e ≡ a ++ (b ++ (c ++ (d ++ e)))
bytes_parted a b c d e = simp append_assoc

trailers-again : (hop : ℕ) (status : Status) (fs : List Field) (a x : List ℕ) → 0 < length fs → SpellsBack (back.Stop hop status fs) a → (to : ℕ) × (back_answer (a ++ x) ≡ at_end (back.Stop hop status fs, record { at = to; left = x }))
trailers-again hop status fs a x some s =
    let below = s.in_range.0 in
    let trailers = s.in_range.2 in
    let few = trailers.count in
    let is_ok = trailers.after_success some in
    let zero_status : status.0 ≡ 0 = ap (λ (x : Status). x.0) is_ok in
    let text = little U32 hop ++ little U32 status.0 ++ fields fs in
    let t = read-again stop_with_trailers (back.Stop hop status fs) text x 2 (
      hop,
      little U32 status.0 ++ fields fs,
      append_assoc (little U32 hop) (little U32 status.0) (fields fs),
      omega arith,
      hop-fits hop below,
      (
        status.0,
        fields fs,
        refl,
        s.fits,
        rw zero_status refl,
        (
          length fs,
          flat_map field fs,
          refl,
          omega arith,
          within-from 1 64 (length fs) some few,
          (fs, [], sym (append-nil (flat_map field fs)), refl, trailers.good, (refl, refl)),
        ),
      ),
    ) in
    (t.0, ap (λ (l : List ℕ). back_answer (l ++ x)) (s.spelled ∙ some_spelled hop status fs some) ∙ ap (λ (r : Result (BackMsg × Place) DecodeError). r >>= at_end) t.1)

pub back-again : (m : BackMsg) (a x : List ℕ) → SpellsBack m a → (to : ℕ) × (back_answer (a ++ x) ≡ at_end (m, record { at = to; left = x }))
back-again (back.Start hop status head) a x s =
    let t = read-again back_start (back.Start hop status head) _ x 1 (opening-spells back.Start hop status head s.in_range.0 s.in_range.1 s.fits s.in_range.2) in
    (t.0, ap (λ (l : List ℕ). back_answer (l ++ x)) s.spelled ∙ ap (λ (r : Result (BackMsg × Place) DecodeError). r >>= at_end) t.1)
back-again (back.StartSent hop) a x s =
    let below = s.in_range in
    let t = read-again start_sent (back.StartSent hop) (little U32 hop) x 1 (hop, [], refl, omega arith, hop-fits hop below, (refl, refl)) in
    (t.0, ap (λ (l : List ℕ). back_answer (l ++ x)) s.spelled ∙ ap (λ (r : Result (BackMsg × Place) DecodeError). r >>= at_end) t.1)
back-again (back.Bytes hop status offset piece) a x s =
    let below = s.in_range.0 in
    let most = s.in_range.2.1 in
    let t = read-again bytes (back.Bytes hop status offset piece) (little U32 hop ++ little U32 status.0 ++ little U64 offset ++ little U32 (length piece) ++ piece) x 1 (
      hop,
      little U32 status.0 ++ (little U64 offset ++ (little U32 (length piece) ++ piece)),
      bytes_parted (little U32 hop) (little U32 status.0) (little U64 offset) (little U32 (length piece)) piece,
      omega arith,
      hop-fits hop below,
      (
        status.0,
        little U64 offset ++ (little U32 (length piece) ++ piece),
        refl,
        s.fits.0,
        s.in_range.1,
        (
          offset,
          little U32 (length piece) ++ piece,
          refl,
          s.fits.1,
          refl,
          (
            length piece,
            piece,
            refl,
            omega arith,
            within-from 1 131072 (length piece) s.in_range.2.0 most,
            (piece, [], sym (append-nil piece), refl, refl, (refl, refl)),
          ),
        ),
      ),
    ) in
    (t.0, ap (λ (l : List ℕ). back_answer (l ++ x)) s.spelled ∙ ap (λ (r : Result (BackMsg × Place) DecodeError). r >>= at_end) t.1)
back-again (back.Stop hop status []) a x s =
    let below = s.in_range.0 in
    let t = read-again stop (back.Stop hop status []) (little U32 hop ++ little U32 status.0) x 1 (hop, little U32 status.0, refl, omega arith, hop-fits hop below, (status.0, [], refl, s.fits, s.in_range.1, (refl, refl))) in
    (t.0, ap (λ (l : List ℕ). back_answer (l ++ x)) s.spelled ∙ ap (λ (r : Result (BackMsg × Place) DecodeError). r >>= at_end) t.1)
back-again (back.Stop hop status (f ∷ fs)) a x s = trailers-again hop status (f ∷ fs) a x (omega arith) s
