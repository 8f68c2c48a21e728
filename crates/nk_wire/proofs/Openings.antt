-- The fields of a start, on either lane, and what they spell.
use Rattle.std.proofs.Common.{◌≡◌, ◌≤◌, ◌<◌, ℕ, true, List, [], ◌++◌, length, refl, sym, subst, append_assoc, arith}
use Rattle.std.specs.List.{flat_map}
use Rattle.std.proofs.lemmas.List.{append-nil}
use Rattle.nk_base.specs.declared.status.Status.{Status}
use Rattle.nk_base.specs.Status.{is_legal_status}
use Rattle.nk_base.specs.Heads.{HeadParts, IsGoodHead}
use Rattle.nk_wire.specs.Layouts.{little, U16, U32}
use Rattle.nk_wire.specs.Kinds.{start, status_of}
use Rattle.nk_wire.specs.Spelling.{field, fields, HasFourBytes}
use Rattle.nk_wire.specs.Spelling as spelling
use Rattle.nk_wire.proofs.Steps.{within-bounds}
use Rattle.nk_wire.proofs.Ranges.{within-from, hop-below, hop-fits, head-good, code-fits}
use Rattle.nk_wire.proofs.Spells.{Spells}

-- the parts of a start
pub record IsOpening {M : Type 0} (make : ℕ → Status → HeadParts → M) (m : M) (text : List ℕ) (hop : ℕ) (status : Status) (head : HeadParts) : Type 0 where
  pub is : make hop status head ≡ m
  pub hop_below : hop < 32
  pub legal : is_legal_status status ≡ true
  pub four : HasFourBytes status
  pub good : IsGoodHead head
  pub spelled : text ≡ spelling.start hop status head

five_joined : (a b c d e t1 t2 t3 t4 t5 text : List ℕ) → text ≡ a ++ t1 → t1 ≡ b ++ t2 → t2 ≡ c ++ t3 → t3 ≡ d ++ t4 → t4 ≡ e ++ t5 → t5 ≡ [] → text ≡ a ++ b ++ c ++ (d ++ e)
five_joined a b c d e t1 t2 t3 t4 t5 text x y z v w u = rw (x, y, z, v, w, u) (simp (append_assoc, append-nil))

pub opening-found : {M : Type 0} (make : ℕ → Status → HeadParts → M) (m : M) (text : List ℕ) → Spells (start make) m text
    → (hop : ℕ) × (status : Status) × (head : HeadParts) × IsOpening make m text hop status head
opening-found make m text s =
    let st = s.5 in let co = st.5 in let cn = co.5 in let fs = cn.5 in
    let status : Status = status_of st.0 in
    let head : HeadParts = record { code = co.0; fields = fs.0 } in
    let few = (within-bounds 0 64 cn.0 cn.4).1 in
    let few_fields : length fs.0 ≤ 64 = omega arith in
    let counted : cn.1 ≡ flat_map field fs.0 ++ fs.1 = fs.2 in
    let count : co.1 ≡ little U16 (length fs.0) ++ cn.1 = subst (λ (n : ℕ). co.1 ≡ little U16 n ++ cn.1) (sym fs.3) cn.2 in (
      s.0,
      status,
      head,
      record {
        is = fs.5.0;
        hop_below = hop-below s.0 s.4;
        legal = st.4;
        four = st.3;
        good = head-good co.0 fs.0 co.4 few_fields fs.4;
        spelled = five_joined (little U32 s.0) (little U32 st.0) (little U16 co.0) (little U16 (length fs.0)) (flat_map field fs.0) s.1 st.1 co.1 cn.1 fs.1 text s.2 st.2 co.2 count counted fs.5.1;
      },
    )

five_parted : (a b c d e : List ℕ) → a ++ b ++ c ++ (d ++ e) ≡ a ++ (b ++ (c ++ (d ++ e)))
five_parted a b c d e = simp append_assoc

pub opening-spells : {M : Type 0} (make : ℕ → Status → HeadParts → M) (hop : ℕ) (status : Status) (head : HeadParts) → hop < 32 → is_legal_status status ≡ true → HasFourBytes status → IsGoodHead head
    → Spells (start make) (make hop status head) (spelling.start hop status head)
opening-spells make hop status head below legal four good =
    let code_most = good.most in
    let few = good.count in (
      hop,
      little U32 status.0 ++ (little U16 head.code ++ fields head.fields),
      five_parted (little U32 hop) (little U32 status.0) (little U16 head.code) (little U16 (length head.fields)) (flat_map field head.fields),
      omega arith,
      hop-fits hop below,
      (
        status.0,
        little U16 head.code ++ fields head.fields,
        refl,
        four,
        legal,
        (
          head.code,
          fields head.fields,
          refl,
          omega arith,
          code-fits head good,
          (
            length head.fields,
            flat_map field head.fields,
            refl,
            omega arith,
            within-from 0 64 (length head.fields) (omega arith) few,
            (head.fields, [], sym (append-nil (flat_map field head.fields)), refl, good.good, (refl, refl)),
          ),
        ),
      ),
    )
