use Rattle.std.proofs.Common.{◌≡◌, ℕ, ◌-◌, ◌≤◌, List, length, drop, sym, subst, ◌∙◌, arith}
use Rattle.std.proofs.lemmas.Bool.Decides.{nat_tests}
use Rattle.nk_base.specs.Pieces.{IsPiece}
use Rattle.nk_script.proofs.Placing.{part_behind, behind_is_part, behind_size}
use Rattle.nk_script.proofs.placed.PlacedText.piece_behind.Goals as goal

pub of_block-requires : goal.of_block-requires
of_block-requires c =
    let text : List ℕ = c.self.inside.text.now in
    let fits = subst (λ (t : List ℕ). c.args.count ≤ length t) (sym c.self.view_is) c.requires in
    let some : 1 ≤ length text - c.args.count = grind (arith, nat_tests) in
    let few : length text - c.args.count ≤ 131072 = grind (arith, nat_tests) in
    behind_is_part c.self.inside.block.now.value c.self.inside.from text c.args.count c.self.invariant fits some few

pub returns : goal.returns
returns c =
    let text : List ℕ = c.self.inside.text.now in
    let fits = subst (λ (t : List ℕ). c.args.count ≤ length t) (sym c.self.view_is) c.requires in
    let part = part_behind c.self.inside.block.now.value c.self.inside.from text c.args.count c.self.invariant fits in
    let size = behind_size text c.args.count in
    let some : 1 ≤ length text - c.args.count = grind (arith, nat_tests) in
    let few : length text - c.args.count ≤ 131072 = grind (arith, nat_tests) in
    subst (λ (t : List ℕ). (c.in_ok-piece.piece ≡ drop c.args.count t) × IsPiece (drop c.args.count t)) c.self.view_is
    (c.in_ok-piece.ensures ∙ sym part, (subst (λ (n : ℕ). 1 ≤ n) (sym size) some, subst (λ (n : ℕ). n ≤ 131072) (sym size) few))
