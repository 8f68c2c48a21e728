-- What a layout spells: a message is read exactly from what spells it.
use Rattle.std.proofs.Common.{◌≡◌, ℕ, zero, suc, ◌+◌, ◌<◌, true, List, [], ◌∷◌, ◌++◌, ◌&&◌, length, Ok, refl, sym, ap, subst, ◌∙◌, append_assoc, arith, ◌-◌}
use Rattle.std.specs.Prelude.{slice_get, not}
use Rattle.std.specs.List.{flat_map, list_all}
use Rattle.std.proofs.lemmas.List.Concat.{flat_map-cons}
use Rattle.nk_base.specs.declared.field.Field.{Field}
use Rattle.nk_base.specs.Fields.{is_name_byte, is_value_byte, is_space, is_good_name, is_good_value, is_good_field, are_good_fields}
use Rattle.nk_wire.specs.Layouts.{U16, bytes_of, limit, little, Layout, Number, Bytes, Headers, Done}
use Rattle.nk_wire.specs.Kinds.{is_name_length, is_value_length}
use Rattle.nk_wire.specs.Spelling.{field}
use Rattle.nk_wire.specs.Reading.{◌>>=◌, Place, number_at, text_at, header_at, headers_at, read}
use Rattle.nk_wire.proofs.Steps.{both_ok, equal_values, both, left_of, right_of, within-bounds}
use Rattle.nk_wire.proofs.Numbers.{AreBytes, AreBytes-behind, number_at-takes, number_at-again, text_at-takes, text_at-again}

-- header fields

header_joined : (a name b value rest p q r : List ℕ) → p ≡ a ++ q → q ≡ name ++ r → r ≡ b ++ (value ++ rest) → p ≡ (a ++ name ++ b ++ value) ++ rest
header_joined a name b value rest p q r x y z = rw (x, y, z) (simp append_assoc)

pub header_at-takes : (p q : Place) (f : Field) → AreBytes p.left → header_at p ≡ Ok (f, q) → (p.left ≡ field f ++ q.left) × (is_good_field f ≡ true)
unfolding header_at
header_at-takes p q f are h =
    let a = both_ok (number_at U16 is_name_length p) (λ x. text_at x.0 is_good_name x.1 >>= λ y. number_at U16 is_value_length y.1 >>= λ z. text_at z.0 is_good_value z.1 >>= λ v. Ok (record { name = y.0; value = v.0 }, v.1)) (f, q) h in
    let b = both_ok (text_at a.0.0 is_good_name a.0.1) (λ y. number_at U16 is_value_length y.1 >>= λ z. text_at z.0 is_good_value z.1 >>= λ v. Ok (record { name = y.0; value = v.0 }, v.1)) (f, q) a.2 in
    let c = both_ok (number_at U16 is_value_length b.0.1) (λ z. text_at z.0 is_good_value z.1 >>= λ v. Ok (record { name = b.0.0; value = v.0 }, v.1)) (f, q) b.2 in
    let d = both_ok (text_at c.0.0 is_good_value c.0.1) (λ v. Ok (record { name = b.0.0; value = v.0 }, v.1)) (f, q) c.2 in
    let x = number_at-takes U16 is_name_length p a.0.1 a.0.0 are a.1 in
    let y = text_at-takes a.0.0 is_good_name a.0.1 b.0.1 b.0.0 b.1 in
    let are_b = AreBytes-behind b.0.0 b.0.1.left (subst AreBytes y.0 (AreBytes-behind (little U16 a.0.0) a.0.1.left (subst AreBytes x.0 are))) in
    let z = number_at-takes U16 is_value_length b.0.1 c.0.1 c.0.0 are_b c.1 in
    let v = text_at-takes c.0.0 is_good_value c.0.1 d.0.1 d.0.0 d.1 in
    let made : Field = record { name = b.0.0; value = d.0.0 } in
    let name_length : p.left ≡ little U16 (length b.0.0) ++ a.0.1.left = subst (λ (n : ℕ). p.left ≡ little U16 n ++ a.0.1.left) (sym y.1) x.0 in
    let value_length : b.0.1.left ≡ little U16 (length d.0.0) ++ c.0.1.left = subst (λ (n : ℕ). b.0.1.left ≡ little U16 n ++ c.0.1.left) (sym v.1) z.0 in
    let joined = header_joined (little U16 (length b.0.0)) b.0.0 (little U16 (length d.0.0)) d.0.0 d.0.1.left p.left a.0.1.left b.0.1.left name_length y.0 (value_length ∙ ap (λ (l : List ℕ). little U16 (length d.0.0) ++ l) v.0) in
    let family : Field × Place → Type 0 = λ t. (p.left ≡ field t.0 ++ t.1.left) × (is_good_field t.0 ≡ true) in
    subst family (equal_values (made, d.0.1) (f, q) d.2) (joined, both (is_good_name b.0.0) (is_good_value d.0.0) y.2 v.2)

-- the lengths of a good header field

pub name_length-good : (name : List ℕ) → is_good_name name ≡ true → is_name_length (length name) ≡ true
name_length-good name h = left_of (is_name_length (length name)) (list_all is_name_byte name) h

pub value_length-good : (value : List ℕ) → is_good_value value ≡ true → is_value_length (length value) ≡ true
value_length-good value h =
    let a = left_of (is_value_length (length value) && list_all is_value_byte value && not (is_space (slice_get value 0))) (not (is_space (slice_get value (length value - 1)))) h in
    left_of (is_value_length (length value)) (list_all is_value_byte value) (left_of (is_value_length (length value) && list_all is_value_byte value) (not (is_space (slice_get value 0))) a)

header_parted : (a name b value rest : List ℕ) → (a ++ name ++ b ++ value) ++ rest ≡ a ++ (name ++ (b ++ (value ++ rest)))
header_parted a name b value rest = simp append_assoc

pub header_at-again : (at : ℕ) (f : Field) (rest : List ℕ) → is_good_field f ≡ true → header_at (record { at = at; left = field f ++ rest }) ≡ Ok (f, record { at = at + 2 + length f.name + 2 + length f.value; left = rest })
unfolding header_at
header_at-again at f rest good =
    let good_name = left_of (is_good_name f.name) (is_good_value f.value) good in
    let good_value = right_of (is_good_name f.name) (is_good_value f.value) good in
    let name_fine = name_length-good f.name good_name in
    let value_fine = value_length-good f.value good_value in
    let name_most = (within-bounds 1 64 (length f.name) name_fine).1 in
    let value_most = (within-bounds 1 8192 (length f.value) value_fine).1 in
    let parted = header_parted (little U16 (length f.name)) f.name (little U16 (length f.value)) f.value rest in
    let value_at = at + 2 + length f.name in
    ap (λ (l : List ℕ). header_at (record { at = at; left = l })) parted
    ∙ rw (
      number_at-again U16 is_name_length at (length f.name) (f.name ++ (little U16 (length f.value) ++ (f.value ++ rest))) (omega arith) name_fine,
      text_at-again (length f.name) (at + 2) is_good_name f.name (little U16 (length f.value) ++ (f.value ++ rest)) refl good_name,
      number_at-again U16 is_value_length value_at (length f.value) (f.value ++ rest) (omega arith) value_fine,
      text_at-again (length f.value) (value_at + 2) is_good_value f.value rest refl good_value,
    ) refl

-- lists of header fields

more_joined : (f : Field) (fs : List Field) (p q r : List ℕ) → p ≡ field f ++ q → q ≡ flat_map field fs ++ r → p ≡ flat_map field (f ∷ fs) ++ r
more_joined f fs p q r x y = x ∙ ap (λ (l : List ℕ). field f ++ l) y ∙ sym (append_assoc (field f) (flat_map field fs) r) ∙ ap (λ (l : List ℕ). l ++ r) (sym (flat_map-cons field f fs))

more_parted : (f : Field) (fs : List Field) (rest : List ℕ) → flat_map field (f ∷ fs) ++ rest ≡ field f ++ (flat_map field fs ++ rest)
more_parted f fs rest = ap (λ (l : List ℕ). l ++ rest) (flat_map-cons field f fs) ∙ append_assoc (field f) (flat_map field fs) rest

parted : (text a more rest : List ℕ) → text ≡ a ++ more → text ++ rest ≡ a ++ (more ++ rest)
parted text a more rest h = ap (λ (l : List ℕ). l ++ rest) h ∙ append_assoc a more rest

pub headers_at-takes : (n : ℕ) (p q : Place) (fs : List Field) → AreBytes p.left → headers_at n p ≡ Ok (fs, q) → (p.left ≡ flat_map field fs ++ q.left) × (length fs ≡ n) × (are_good_fields fs ≡ true)
unfolding headers_at
headers_at-takes zero p q fs are h =
    let family : List Field × Place → Type 0 = λ t. (p.left ≡ flat_map field t.0 ++ t.1.left) × (length t.0 ≡ 0) × (are_good_fields t.0 ≡ true) in
    subst family (equal_values ([], p) (fs, q) h) (refl, refl, refl)
headers_at-takes (suc n) p q fs are h =
    let a = both_ok (header_at p) (λ x. headers_at n x.1 >>= λ others. Ok (x.0 ∷ others.0, others.1)) (fs, q) h in
    let b = both_ok (headers_at n a.0.1) (λ others. Ok (a.0.0 ∷ others.0, others.1)) (fs, q) a.2 in
    let x = header_at-takes p a.0.1 a.0.0 are a.1 in
    let y = headers_at-takes n a.0.1 b.0.1 b.0.0 (AreBytes-behind (field a.0.0) a.0.1.left (subst AreBytes x.0 are)) b.1 in
    let family : List Field × Place → Type 0 = λ t. (p.left ≡ flat_map field t.0 ++ t.1.left) × (length t.0 ≡ suc n) × (are_good_fields t.0 ≡ true) in
    let joined : p.left ≡ flat_map field (a.0.0 ∷ b.0.0) ++ b.0.1.left = more_joined a.0.0 b.0.0 p.left a.0.1.left b.0.1.left x.0 y.0 in
    subst family (equal_values (a.0.0 ∷ b.0.0, b.0.1) (fs, q) b.2) (joined, ap suc y.1, both (is_good_field a.0.0) (are_good_fields b.0.0) x.1 y.2)

pub headers_at-again : (fs : List Field) (at : ℕ) (rest : List ℕ) → are_good_fields fs ≡ true → (to : ℕ) × (headers_at (length fs) (record { at = at; left = flat_map field fs ++ rest }) ≡ Ok (fs, record { at = to; left = rest }))
unfolding headers_at
headers_at-again [] at rest good = (at, refl)
headers_at-again (f ∷ fs) at rest good =
    let next = at + 2 + length f.name + 2 + length f.value in
    let others = headers_at-again fs next rest (right_of (is_good_field f) (are_good_fields fs) good) in (
      others.0,
      ap (λ (l : List ℕ). headers_at (suc (length fs)) (record { at = at; left = l })) (more_parted f fs rest)
          ∙ rw (header_at-again at f (flat_map field fs ++ rest) (left_of (is_good_field f) (are_good_fields fs) good), others.1) refl,
    )

-- Layouts.

-- the bytes spell this message by this layout: the fields one after the other, all in range
abbrev pub Spells : {M : Type 0} → Layout M → M → List ℕ → Type 0
Spells (Number size in_range next) m text =
    (n : ℕ) × (more : List ℕ) × (text ≡ little size n ++ more) × (n < limit size) × (in_range n ≡ true) × Spells (next n) m more
Spells (Bytes count good next) m text =
    (bytes : List ℕ) × (more : List ℕ) × (text ≡ bytes ++ more) × (length bytes ≡ count) × (good bytes ≡ true) × Spells (next bytes) m more
Spells (Headers count next) m text =
    (fs : List Field) × (more : List ℕ) × (text ≡ flat_map field fs ++ more) × (length fs ≡ count) × (are_good_fields fs ≡ true) × Spells (next fs) m more
Spells (Done message) m text = (message ≡ m) × (text ≡ [])

then_more : (a b p q r : List ℕ) → p ≡ a ++ q → q ≡ b ++ r → p ≡ (a ++ b) ++ r
then_more a b p q r x y = rw (x, y) (sym (append_assoc a b r))

-- what is read is spelled so
pub read-takes : {M : Type 0} (layout : Layout M) (p q : Place) (m : M) → AreBytes p.left → read layout p ≡ Ok (m, q) → (text : List ℕ) × Spells layout m text × (p.left ≡ text ++ q.left)
read-takes (Number size in_range next) p q m are h =
    let a = both_ok (number_at size in_range p) (λ n. read (next n.0) n.1) (m, q) h in
    let x = number_at-takes size in_range p a.0.1 a.0.0 are a.1 in
    let y = read-takes (next a.0.0) a.0.1 q m (AreBytes-behind (little size a.0.0) a.0.1.left (subst AreBytes x.0 are)) a.2 in
    (little size a.0.0 ++ y.0, (a.0.0, y.0, refl, x.1, x.2, y.1), then_more (little size a.0.0) y.0 p.left a.0.1.left q.left x.0 y.2)
read-takes (Bytes count good next) p q m are h =
    let a = both_ok (text_at count good p) (λ n. read (next n.0) n.1) (m, q) h in
    let x = text_at-takes count good p a.0.1 a.0.0 a.1 in
    let y = read-takes (next a.0.0) a.0.1 q m (AreBytes-behind a.0.0 a.0.1.left (subst AreBytes x.0 are)) a.2 in
    (a.0.0 ++ y.0, (a.0.0, y.0, refl, x.1, x.2, y.1), then_more a.0.0 y.0 p.left a.0.1.left q.left x.0 y.2)
read-takes (Headers count next) p q m are h =
    let a = both_ok (headers_at count p) (λ n. read (next n.0) n.1) (m, q) h in
    let x = headers_at-takes count p a.0.1 a.0.0 are a.1 in
    let y = read-takes (next a.0.0) a.0.1 q m (AreBytes-behind (flat_map field a.0.0) a.0.1.left (subst AreBytes x.0 are)) a.2 in
    (flat_map field a.0.0 ++ y.0, (a.0.0, y.0, refl, x.1, x.2, y.1), then_more (flat_map field a.0.0) y.0 p.left a.0.1.left q.left x.0 y.2)
read-takes {M = M} (Done message) p q m are h =
    let e = equal_values (message, p) (m, q) h in
    ([], (ap (λ (t : M × Place). t.0) e, refl), ap (λ (t : M × Place). t.1.left) e)

-- what is spelled so is read, whatever follows
pub read-again : {M : Type 0} (layout : Layout M) (m : M) (text rest : List ℕ) (at : ℕ) → Spells layout m text → (to : ℕ) × (read layout (record { at = at; left = text ++ rest }) ≡ Ok (m, record { at = to; left = rest }))
read-again (Number size in_range next) m text rest at s =
    let x = read-again (next s.0) m s.1 rest (at + bytes_of size) s.5 in (
      x.0,
      ap (λ (l : List ℕ). read (Number size in_range next) (record { at = at; left = l })) (parted text (little size s.0) s.1 rest s.2)
          ∙ rw (number_at-again size in_range at s.0 (s.1 ++ rest) s.3 s.4) x.1,
    )
read-again (Bytes count good next) m text rest at s =
    let x = read-again (next s.0) m s.1 rest (at + count) s.5 in (
      x.0,
      ap (λ (l : List ℕ). read (Bytes count good next) (record { at = at; left = l })) (parted text s.0 s.1 rest s.2)
          ∙ rw (text_at-again count at good s.0 (s.1 ++ rest) s.3 s.4) x.1,
    )
read-again (Headers count next) m text rest at s =
    let y = headers_at-again s.0 at (s.1 ++ rest) s.4 in
    let y_is : headers_at count (record { at = at; left = flat_map field s.0 ++ (s.1 ++ rest) }) ≡ Ok (s.0, record { at = y.0; left = s.1 ++ rest }) = subst (λ (n : ℕ). headers_at n (record { at = at; left = flat_map field s.0 ++ (s.1 ++ rest) }) ≡ Ok (s.0, record { at = y.0; left = s.1 ++ rest })) s.3 y.1 in
    let x = read-again (next s.0) m s.1 rest y.0 s.5 in (
      x.0,
      ap (λ (l : List ℕ). read (Headers count next) (record { at = at; left = l })) (parted text (flat_map field s.0) s.1 rest s.2)
          ∙ rw y_is x.1,
    )
read-again (Done message) m text rest at s =
    (at, rw (s.1, s.0) refl)
