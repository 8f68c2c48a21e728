-- What a step keeps: the data that was shown, dropped and is left is the data that was taken, with a part of it spare while
-- a step is under way; a drop has the failure that is kept.
use Rattle.std.proofs.Common.{ℕ, ◌≡◌, ◌+◌, ◌≤◌, ◌∙◌, refl, ap, List, [], ◌∷◌, ◌++◌, Bool, true, false, Option, Some, None, arith}
use Rattle.nk_base.specs.declared.status.Status.{Status}
use Rattle.nk_base.specs.declared.status.Target.{Target}
use Rattle.nk_base.specs.declared.message.Entry.{Entry}
use Rattle.nk_plan.specs.declared.journal.ChildEntry.{ChildEntry}
use Rattle.nk_plan.specs.declared.journal.ChildEntry.TheVariants as child
use Rattle.nk_base.specs.Status.{merged}
use Rattle.nk_plan.specs.Journal.{back_in, backs_taken}
use Rattle.nk_plan.specs.Child.{ChildState}
use Rattle.nk_half_laws.specs.Pieces.{shown_weight, message_weight, drop_weight, data_left}
use Rattle.std.proofs.lemmas.List.{append-nil}
use Rattle.nk_half_laws.proofs.Sums.{sum_of-append, sum_of-more}
use Rattle.nk_half_laws.proofs.Failures.{IsKept, merged_kept, merged_none}
use Rattle.nk_half_laws.proofs.Journals.{backs_taken-append}
use Rattle.nk_half_laws.specs.Sums.{sum_of}

-- the status of a drop is what is kept
abbrev pub DropOf : Option Status → ChildEntry → Type 0
DropOf k (child.RunDrop t o q) = k ≡ Some q
DropOf k _ = Unit {0}

abbrev pub DropsOf : Option Status → List ChildEntry → Type 0
DropsOf k [] = Unit {0}
DropsOf k (e ∷ j) = DropOf k e × DropsOf k j

-- u is spare, and l is left; pieces weigh w, and drops d, which is no more
pub record Sound (w : ℕ → List ℕ → ℕ) (d : ℕ → ℕ) (u : ℕ) (b : Bool) (k : Option Status) (l : ℕ) (t : List Entry)
    (j : List ChildEntry) : Type 0 where
  pub less : (o : ℕ) (p : List ℕ) → d o ≤ w o p
  pub within : u + l + sum_of (shown_weight w) t + sum_of (drop_weight d) j ≤ sum_of (message_weight w) (backs_taken j)
  pub whole : b ≡ false → ((o : ℕ) (p : List ℕ) → d o ≡ w o p)
      → u + l + sum_of (shown_weight w) t + sum_of (drop_weight d) j ≡ sum_of (message_weight w) (backs_taken j)
  pub clean : b ≡ false → k ≡ None
      → u + l + sum_of (shown_weight w) t + sum_of (drop_weight d) j ≡ sum_of (message_weight w) (backs_taken j)
  pub drops : DropsOf k j
  pub fails : IsKept k

abbrev pub Holds : (ℕ → List ℕ → ℕ) → (ℕ → ℕ) → ℕ → ChildState → Type 0
Holds w d u s = Sound w d u s.broken s.kept (data_left w s) s.trace s.journal

-- what is spare becomes what is left, or the other way
pub still : {w : ℕ → List ℕ → ℕ} {d : ℕ → ℕ} {u : ℕ} {b : Bool} {k : Option Status} {l : ℕ} {t : List Entry} {j : List ChildEntry}
    → Sound w d u b k l t j
    → (u' l' : ℕ) → u' + l' ≡ u + l → Sound w d u' b k l' t j
still {w} {d} {u} {b} {k} {l} {t} {j} h u' l' n = record {
  less = h.less;
  within = let x : u + l + sum_of (shown_weight w) t + sum_of (drop_weight d) j
      ≤ sum_of (message_weight w) (backs_taken j) = h.within in omega arith;
  whole = λ f e. let x : u + l + sum_of (shown_weight w) t + sum_of (drop_weight d) j
      ≡ sum_of (message_weight w) (backs_taken j) = h.whole f e in omega arith;
  clean = λ f e. let x : u + l + sum_of (shown_weight w) t + sum_of (drop_weight d) j
      ≡ sum_of (message_weight w) (backs_taken j) = h.clean f e in omega arith;
  drops = h.drops;
  fails = h.fails;
}

-- The failure that is kept

drop_merged : (k : Option Status) (st : Status) (e : ChildEntry) → DropOf k e → DropOf (merged k st) e
drop_merged None st (child.RunDrop t o q) h = cc
drop_merged (Some x) st (child.RunDrop t o q) h = h
drop_merged k st _ h = tt

drops_merged : (k : Option Status) (st : Status) (j : List ChildEntry) → DropsOf k j → DropsOf (merged k st) j
drops_merged k st [] h = tt
drops_merged k st (e ∷ j) h = (drop_merged k st e h.0, drops_merged k st j h.1)

pub merging : {w : ℕ → List ℕ → ℕ} {d : ℕ → ℕ} {u : ℕ} {b : Bool} {k : Option Status} {l : ℕ} {t : List Entry} {j : List ChildEntry}
    → Sound w d u b k l t j
    → (st : Status) → Sound w d u b (merged k st) l t j
merging {w} {d} {u} {b} {k} {l} {t} {j} h st = record {
  less = h.less;
  within = h.within;
  whole = h.whole;
  clean = λ f e. h.clean f (merged_none k st e);
  drops = drops_merged k st j h.drops;
  fails = merged_kept k st h.fails;
}

-- a break gives up what it likes
pub given_up : {w : ℕ → List ℕ → ℕ} {d : ℕ → ℕ} {u : ℕ} {b : Bool} {k : Option Status} {l : ℕ} {t : List Entry} {j : List ChildEntry}
    → Sound w d u b k l t j
    → (u' l' : ℕ) → u' + l' ≤ u + l → Sound w d u' true k l' t j
given_up {w} {d} {u} {b} {k} {l} {t} {j} h u' l' n = record {
  less = h.less;
  within = let x : u + l + sum_of (shown_weight w) t + sum_of (drop_weight d) j
      ≤ sum_of (message_weight w) (backs_taken j) = h.within in omega arith;
  whole = λ f e. cc;
  clean = λ f e. cc;
  drops = h.drops;
  fails = h.fails;
}

-- One more entry

taken_more : (w : ℕ → List ℕ → ℕ) (j : List ChildEntry) (x : ChildEntry)
    → sum_of (message_weight w) (backs_taken (j ++ x ∷ [])) ≡ sum_of (message_weight w) (backs_taken j) + sum_of (message_weight w)
    (back_in x)
taken_more w j x =
    ap (sum_of (message_weight w)) (backs_taken-append j (x ∷ []) ∙ ap (λ t. backs_taken j ++ t) (append-nil (back_in x)))
    ∙ sum_of-append (message_weight w) (backs_taken j) (back_in x)

drops_with : (k : Option Status) (j : List ChildEntry) (e : ChildEntry) → DropsOf k j → DropOf k e → DropsOf k (j ++ e ∷ [])
drops_with k [] e g h = (h, tt)
drops_with k (x ∷ j) e g h = (g.0, drops_with k j e g.1 h)

-- of the journal alone, and no run of a piece
pub noted : {w : ℕ → List ℕ → ℕ} {d : ℕ → ℕ} {u : ℕ} {b : Bool} {k : Option Status} {l : ℕ} {t : List Entry} {j : List ChildEntry}
    → Sound w d u b k l t j
    → (e : ChildEntry) (u' l' : ℕ) → DropOf k e → u' + l' + drop_weight d e ≡ u + l + sum_of (message_weight w) (back_in e)
    → Sound w d u' b k l' t (j ++ e ∷ [])
noted {w} {d} {u} {b} {k} {l} {t} {j} h e u' l' g n =
    let a : sum_of (drop_weight d) (j ++ e ∷ []) ≡ sum_of (drop_weight d) j + drop_weight d e = sum_of-more (drop_weight d) j e in
    let m : sum_of (message_weight w) (backs_taken (j ++ e ∷ []))
    ≡ sum_of (message_weight w) (backs_taken j) + sum_of (message_weight w) (back_in e) = taken_more w j e in
    record {
      less = h.less;
      within = let x : u + l + sum_of (shown_weight w) t + sum_of (drop_weight d) j
          ≤ sum_of (message_weight w) (backs_taken j) = h.within in omega arith;
      whole = λ f i. let x : u + l + sum_of (shown_weight w) t + sum_of (drop_weight d) j
          ≡ sum_of (message_weight w) (backs_taken j) = h.whole f i in omega arith;
      clean = λ f i. let x : u + l + sum_of (shown_weight w) t + sum_of (drop_weight d) j
          ≡ sum_of (message_weight w) (backs_taken j) = h.clean f i in omega arith;
      drops = drops_with k j e h.drops g;
      fails = h.fails;
    }

-- of the journal and the trace
pub shows : {w : ℕ → List ℕ → ℕ} {d : ℕ → ℕ} {u : ℕ} {b : Bool} {k : Option Status} {l : ℕ} {t : List Entry} {j : List ChildEntry}
    → Sound w d u b k l t j
    → (e : ChildEntry) (y : Entry) (u' l' : ℕ) → DropOf k e
    → u' + l' + shown_weight w y + drop_weight d e ≡ u + l + sum_of (message_weight w) (back_in e)
    → Sound w d u' b k l' (t ++ y ∷ []) (j ++ e ∷ [])
shows {w} {d} {u} {b} {k} {l} {t} {j} h e y u' l' g n =
    let a : sum_of (drop_weight d) (j ++ e ∷ []) ≡ sum_of (drop_weight d) j + drop_weight d e = sum_of-more (drop_weight d) j e in
    let m : sum_of (message_weight w) (backs_taken (j ++ e ∷ []))
    ≡ sum_of (message_weight w) (backs_taken j) + sum_of (message_weight w) (back_in e) = taken_more w j e in
    let v : sum_of (shown_weight w) (t ++ y ∷ []) ≡ sum_of (shown_weight w) t + shown_weight w y = sum_of-more (shown_weight w) t y in
    record {
      less = h.less;
      within = let x : u + l + sum_of (shown_weight w) t + sum_of (drop_weight d) j
          ≤ sum_of (message_weight w) (backs_taken j) = h.within in omega arith;
      whole = λ f i. let x : u + l + sum_of (shown_weight w) t + sum_of (drop_weight d) j
          ≡ sum_of (message_weight w) (backs_taken j) = h.whole f i in omega arith;
      clean = λ f i. let x : u + l + sum_of (shown_weight w) t + sum_of (drop_weight d) j
          ≡ sum_of (message_weight w) (backs_taken j) = h.clean f i in omega arith;
      drops = drops_with k j e h.drops g;
      fails = h.fails;
    }

-- a piece that is dropped, which weighs no more than what was taken
pub dropped : {w : ℕ → List ℕ → ℕ} {d : ℕ → ℕ} {b : Bool} {l : ℕ} {t : List Entry} {j : List ChildEntry} (u o : ℕ) (p : List ℕ)
    (to : Target) (q : Status)
    → Sound w d (w o p + u) b (Some q) l t j → Sound w d u b (Some q) l t (j ++ child.RunDrop to o q ∷ [])
dropped {w} {d} {b} {l} {t} {j} u o p to q h =
    let e : ChildEntry = child.RunDrop to o q in
    let a : sum_of (drop_weight d) (j ++ e ∷ []) ≡ sum_of (drop_weight d) j + d o = sum_of-more (drop_weight d) j e in
    let m : sum_of (message_weight w) (backs_taken (j ++ e ∷ [])) ≡ sum_of (message_weight w) (backs_taken j) + 0 = taken_more w j e in
    record {
      less = h.less;
      within =
          let x : w o p + u + l + sum_of (shown_weight w) t + sum_of (drop_weight d) j ≤ sum_of (message_weight w) (backs_taken j) =
          h.within in
          let z : d o ≤ w o p = h.less o p in
          omega arith;
      whole = λ f i.
          let x : w o p + u + l + sum_of (shown_weight w) t + sum_of (drop_weight d) j ≡ sum_of (message_weight w) (backs_taken j) =
          h.whole f i in
          let z : d o ≡ w o p = i o p in
          omega arith;
      clean = λ f i. cc;
      drops = drops_with (Some q) j e h.drops refl;
      fails = h.fails;
    }
