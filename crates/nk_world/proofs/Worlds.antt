-- Channels do not touch each other: to drain one after another is to drain them all by rounds.
use Rattle.std.proofs.Common.{ℕ, zero, suc, ◌≡◌, ◌+◌, ◌≤◌, refl, sym, ◌∙◌, ap, subst, List, [], ◌∷◌, arith}
use Rattle.std.specs.List.{All, AllZip}
use Rattle.std.proofs.lemmas.List.Elements.{All-nil, All-cons, All-head, All-tail}
use Rattle.nk_world.specs.Play.{Play, round, rounds, IsReached, IsQuiet, IsDrained}
use Rattle.nk_world.specs.World.{world_round, world_rounds, AreDrained}
use Rattle.nk_world.specs.Laws.{PlayLaws}
use Rattle.nk_world.proofs.Idle.{enough_rounds}

rounds_apart : (n : ℕ) (p : Play) (ps : List Play) → world_rounds n (p ∷ ps) ≡ rounds n p ∷ world_rounds n ps
rounds_apart zero p ps = refl
rounds_apart (suc n) p ps = rounds_apart n (round p) (world_round ps)

no_rounds : (n : ℕ) → world_rounds n [] ≡ []
no_rounds zero = refl
no_rounds (suc n) = no_rounds n

-- from so many rounds on all channels are drained
record Settles (ps qs : List Play) : Type 0 where
  count : ℕ
  led : (k : ℕ) → count ≤ k → world_rounds k ps ≡ qs
  quiet : All IsQuiet qs

settles : (ps qs : List Play) → All IsReached ps → PlayLaws → AllZip IsDrained ps qs → Settles ps qs
settles [] [] r law d = record { count = 0; led = λ k l. no_rounds k; quiet = All-nil IsQuiet }
settles [] (q ∷ qs) r law d = absurd d
settles (p ∷ ps) [] r law d = absurd d
settles (p ∷ ps) (q ∷ qs) r law (d, ds) =
    let here : IsReached p = All-head IsReached p ps r in
    let s : Settles ps qs = settles ps qs (All-tail IsReached p ps r) law ds in
    let h : IsQuiet (rounds d.0 p) = subst IsQuiet (sym d.1) d.2 in
    record {
      count = d.0 + s.count;
      led = λ k l.
          rounds_apart k p ps
          ∙ (ap (λ (x : Play). x ∷ world_rounds k ps) (enough_rounds d.0 k p here law h (omega arith) ∙ d.1)
          ∙ ap (λ (xs : List Play). q ∷ xs) (s.led k (omega arith)));
      quiet = All-cons IsQuiet q qs d.2 s.quiet;
    }

pub drained_apart : (ps qs : List Play) → All IsReached ps → PlayLaws → AllZip IsDrained ps qs → AreDrained ps qs
drained_apart ps qs r law d =
    let s : Settles ps qs = settles ps qs r law d in
    record { count = s.count; led = s.led s.count (omega arith); quiet = s.quiet }

-- what the drain of a world leaves is one

together : (n : ℕ) (ps qs : List Play) → world_rounds n ps ≡ qs → All IsQuiet qs → AllZip IsDrained ps qs
together n [] [] e h = tt
together n [] (q ∷ qs) e h = let d = sym (no_rounds n) ∙ e in cc
together n (p ∷ ps) [] e h = let d = sym (rounds_apart n p ps) ∙ e in cc
together n (p ∷ ps) (q ∷ qs) e h =
    let d : rounds n p ∷ world_rounds n ps ≡ q ∷ qs = sym (rounds_apart n p ps) ∙ e in
    let here : rounds n p ≡ q = cc in
    let there : world_rounds n ps ≡ qs = cc in
    ((n, here, All-head IsQuiet q qs h), together n ps qs there (All-tail IsQuiet q qs h))

pub one_world : (ps qs qs' : List Play) → All IsReached ps → PlayLaws → AreDrained ps qs → AreDrained ps qs' → qs ≡ qs'
one_world ps qs qs' r law d d' =
    let s : Settles ps qs = settles ps qs r law (together d.count ps qs d.led d.quiet) in
    let s' : Settles ps qs' = settles ps qs' r law (together d'.count ps qs' d'.led d'.quiet) in
    sym (s.led (s.count + s'.count) (omega arith)) ∙ s'.led (s.count + s'.count) (omega arith)
