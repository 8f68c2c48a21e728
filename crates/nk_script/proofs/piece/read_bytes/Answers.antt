use Rattle.std.proofs.Common.{◌≡◌, ℕ, ◌∷◌, ◌++◌, [], List, Some, None, take, sym, subst, arith}
use Rattle.std.proofs.lemmas.Bool.Decides.{nat_tests}
use Rattle.nk_script.specs.Numbers.{IsByte}
use Rattle.nk_script.proofs.Pairs.{HasRead, no_bytes, read_none, read_one, read_bad, read_half, read_all}
use Rattle.nk_script.proofs.piece.read_bytes.Goals as goal

some_is : (x y : ℕ) → Some x ≡ Some y → x ≡ y
some_is x y e = cc

none_is : (x : ℕ) → None ≡ Some x → ⊥
none_is x e = cc

pub loop-rest-init : goal.loop-rest-init
loop-rest-init c = subst (λ (all : List ℕ). HasRead c.args.digits.now all c.args.digits.now) (sym c.in-Ok.ensures.items) (read_none c.args.digits.now)

pub returns-in_default-read_byte : goal.returns-in_default-read_byte
returns-in_default-read_byte c =
    let bad = λ (b : ℕ) (is : IsByte (take 2 c.loop-rest.rest.now) b). none_is b (c.in_default-read_byte.ensures.each b (subst (λ (w : List ℕ). IsByte w b) (sym c.split_at.ensures.front) is)) in
    read_bad c.args.digits.now c.loop-rest.all.items c.loop-rest.rest.now c.loop-rest-test.true bad c.loop-rest.invariant

pub loop-rest-preserved : goal.loop-rest-preserved
loop-rest-preserved c =
    let byte = subst (λ (w : List ℕ). IsByte w c.in-Some.byte) c.split_at.ensures.front c.in-Some.ensures.byte in
    let only = λ (b : ℕ) (is : IsByte (take 2 c.loop-rest.rest.now) b). sym (some_is c.in-Some.byte b (c.in-Some.ensures.each b (subst (λ (w : List ℕ). IsByte w b) (sym c.split_at.ensures.front) is))) in
    let one = read_one c.args.digits.now c.loop-rest.all.items c.loop-rest.rest.now c.in-Some.byte c.loop-rest-test.true byte only c.loop-rest.invariant in
    subst (λ (all : List ℕ). HasRead c.args.digits.now all c.split_at.result.1.now) (sym c.in-Ok-push.ensures.items)
    (subst (λ (rest : List ℕ). HasRead c.args.digits.now (c.loop-rest.all.items ++ c.in-Some.byte ∷ []) rest) (sym c.split_at.ensures.back) one)

pub returns-then-is_empty : goal.returns-then-is_empty
returns-then-is_empty c =
    let nothing = no_bytes c.loop-rest.rest.now (grind arith) in
    read_all c.args.digits.now c.loop-rest.all.items (subst (λ (rest : List ℕ). HasRead c.args.digits.now c.loop-rest.all.items rest) nothing c.loop-rest.invariant)

pub returns-else-is_empty : goal.returns-else-is_empty
returns-else-is_empty c = read_half c.args.digits.now c.loop-rest.all.items c.loop-rest.rest.now (omega arith) (grind (arith, nat_tests)) c.loop-rest.invariant
