-- The entries that were delivered are handed over one by one.
use Rattle.std.proofs.Common.{◌≡◌, sym, ◌∙◌, ap, Bool, false, List, [], drop, slice_get, None}
use Rattle.nk_base.specs.Outs.{OutParts}
use Rattle.nk_base.specs.declared.message.Entry.{Entry}
use Rattle.nk_sink.specs.Listener.{Listener, entered_all}
use Rattle.nk_sink.specs.Reached.{ListenerView}
use Rattle.nk_world.specs.declared.playing.Playing.{Playing}
use Rattle.nk_world.specs.Parts.{lane, heard}
use Rattle.nk_world.proofs.Lists.{none_there}

-- all was handed over
pub all_handed : (s now : Playing) (d : OutParts Entry)
    → s ≡ record now { delivery = lane s.delivery.held; listener = s.listener } → s.listener.failed ≡ false
    → entered_all s.delivery.held s.listener.listener ≡ entered_all now.delivery.held now.listener.listener
    → None ≡ slice_get s.delivery.held 0 → d ≡ record s.delivery { held = drop 1 s.delivery.held }
    → record s { delivery = d } ≡ record now { delivery = lane []; listener = heard (entered_all now.delivery.held now.listener.listener) }
all_handed s now d parts works handed none rest =
    let e : s.delivery.held ≡ [] = none_there s.delivery.held none in
    let staged : s.delivery.staged ≡ [] = ap (λ (x : Playing). x.delivery.staged) parts in
    let empty : d ≡ lane [] =
    rest ∙ (ap (λ (xs : List Entry). record s.delivery { held = drop 1 xs }) e ∙ ap (λ (ys : List Entry). let o : OutParts Entry = record { held = []; staged = ys } in o) staged) in
    let all : s.listener.listener ≡ entered_all now.delivery.held now.listener.listener = ap (λ (xs : List Entry). entered_all xs s.listener.listener) (sym e) ∙ handed in
    let view : s.listener ≡ heard (entered_all now.delivery.held now.listener.listener) =
    ap (λ (b : Bool). let v : ListenerView = record s.listener { failed = b } in v) works ∙ ap (λ (l : Listener). heard l) all in
    ap (λ (x : Playing). record x { delivery = d }) parts
    ∙ (ap (λ (o : OutParts Entry). record now { delivery = o; listener = s.listener }) empty
    ∙ ap (λ (v : ListenerView). record now { delivery = lane []; listener = v }) view)
