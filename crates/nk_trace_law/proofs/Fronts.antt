-- Where lines that pass a test end.
use Rattle.std.proofs.Common.{◌≡◌, ℕ, Bool, true, false, List, [], ◌∷◌, ◌++◌, ◌⊎◌, inl, inr, sym, ap, refl, ◌∙◌, append_assoc}
use Rattle.std.specs.List.{list_all, flat_map}
use Rattle.nk_trace_law.specs.Lines.{is_line, ended}
use Rattle.nk_trace_law.proofs.Tests.{both, differ, first_line, not_empty}

-- the text begins with a line that does not pass
pub record Opens (q : List ℕ → Bool) (text : List ℕ) : Type 0 where
  pub line : List ℕ
  pub rest : List ℕ
  pub begins : text ≡ ended line ++ rest
  pub is : is_line line ≡ true
  pub other : q line ≡ false

-- or is empty
abbrev pub Follows : (List ℕ → Bool) → List ℕ → Type 0
Follows q text = (text ≡ []) ⊎ Opens q text

-- of a test that lines alone pass
module _ (q : List ℕ → Bool) (of_lines : (l : List ℕ) → q l ≡ true → is_line l ≡ true) where
  no_more : {P : Type 0} (m more text : List ℕ) → q m ≡ true → Follows q text → text ≡ ended m ++ more → P
  no_more m more text h (inl empty) e = not_empty m more (sym e ∙ empty)
  no_more m more text h (inr o) e =
      let same = first_line o.line m o.rest more o.is (of_lines m h) (sym o.begins ∙ e) in
      differ (q m) h (sym (ap q same.0) ∙ o.other)

  -- lines that pass, and what follows them, are told by the text
  pub same_front : (ls ms : List (List ℕ)) (r s : List ℕ) → list_all q ls ≡ true → list_all q ms ≡ true → Follows q r → Follows q s
      → flat_map ended ls ++ r ≡ flat_map ended ms ++ s → (ls ≡ ms) × (r ≡ s)
  same_front [] [] r s x y f g e = (refl, e)
  same_front [] (m ∷ ms) r s x y f g e =
      no_more m (flat_map ended ms ++ s) r (both (q m) (list_all q ms) y).0 f (e ∙ append_assoc (ended m) (flat_map ended ms) s)
  same_front (l ∷ ls) [] r s x y f g e =
      no_more l (flat_map ended ls ++ r) s (both (q l) (list_all q ls) x).0 g (sym e ∙ append_assoc (ended l) (flat_map ended ls) r)
  same_front (l ∷ ls) (m ∷ ms) r s x y f g e =
      let ps = both (q l) (list_all q ls) x in
      let qs = both (q m) (list_all q ms) y in
      let same = first_line l m (flat_map ended ls ++ r) (flat_map ended ms ++ s) (of_lines l ps.0) (of_lines m qs.0)
      (sym (append_assoc (ended l) (flat_map ended ls) r) ∙ (e ∙ append_assoc (ended m) (flat_map ended ms) s)) in
      let rest = same_front ls ms r s ps.1 qs.1 f g same.1 in
      let first : l ≡ m = same.0 in
      let others : ls ≡ ms = rest.0 in
      (cc, rest.1)
