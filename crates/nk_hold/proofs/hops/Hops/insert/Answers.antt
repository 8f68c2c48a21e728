-- A new hop finds room, and is there once.
use Rattle.std.proofs.Common.{◌≡◌, ◌∙◌, ◌<◌, ◌++◌, ◌+◌, ◌∷◌, [], List, ℕ, Bool, true, false, rules, take, length, sym, arith, refl}
use Rattle.std.specs.Prelude.{nat_le, slice_set}
use Rattle.std.specs.List.{list_all}
use Rattle.std.proofs.lemmas.Grind.{common_steps}
use Rattle.std.proofs.lemmas.List.{take_more_set}
use Rattle.std.proofs.lemmas.List.Folds.{list_all-append}
use Rattle.nk_base.specs.Hold.{is_among, with_hop}
use Rattle.nk_hold.specs.Hops.{AreHops}
use Rattle.nk_hold.proofs.Counted.{place_for, with_new}
use Rattle.nk_hold.proofs.hops.Hops.insert.Goals as goal

pub bounds-self-inside-self-inside : goal.bounds-self-inside-self-inside
bounds-self-inside-self-inside c =
    let fresh : is_among (take c.self.inside.count c.self.inside.places) c.args.hop ≡ false = rw c.self.view_is (sym c.contains.ensures ∙ c.if-contains.false) in
    place_for c.args.hop _ _ c.self.told c.requires fresh c.self.invariant

pub invariant_of-self : goal.invariant_of-self
invariant_of-self c =
    let fresh : is_among (take c.self.inside.count c.self.inside.places) c.args.hop ≡ false = rw c.self.view_is (sym c.contains.ensures ∙ c.if-contains.false) in
    let place : c.self.inside.count < 33 = place_for c.args.hop _ _ c.self.told c.requires fresh c.self.invariant in
    let added : take (c.self.inside.count + 1) (slice_set c.self.inside.places c.self.inside.count c.args.hop) ≡ take c.self.inside.count c.self.inside.places ++ c.args.hop ∷ [] = take_more_set _ _ _ (rw c.self.told place) in
    rw added (with_new c.args.hop c.self.inside.count _ place c.requires fresh c.self.invariant)

pub returns : goal.returns
returns c =
    let fresh : is_among (take c.self.inside.count c.self.inside.places) c.args.hop ≡ false = rw c.self.view_is (sym c.contains.ensures ∙ c.if-contains.false) in
    let known : is_among c.args.self.now c.args.hop ≡ false = sym c.contains.ensures ∙ c.if-contains.false in
    let place : c.self.inside.count < 33 = place_for c.args.hop _ _ c.self.told c.requires fresh c.self.invariant in
    let added : take (c.self.inside.count + 1) (slice_set c.self.inside.places c.self.inside.count c.args.hop) ≡ take c.self.inside.count c.self.inside.places ++ c.args.hop ∷ [] = take_more_set _ _ _ (rw c.self.told place) in
    rw (known, ← c.self.view_is) added
