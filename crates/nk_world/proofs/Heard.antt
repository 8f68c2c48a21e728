-- A listener that is shown entries, or of which a pump has a turn, is one that its own calls lead to.
use Rattle.std.proofs.Common.{ℕ, ◌≡◌, refl, sym, ◌∙◌, ap, List, [], ◌∷◌, ◌++◌, append-nil, append_assoc}
use Rattle.nk_base.specs.declared.message.Entry.{Entry}
use Rattle.nk_plan.specs.declared.plan.ChannelPlan.{ChannelPlan}
use Rattle.nk_plan.specs.declared.plan.ListenerKind.{ListenerKind}
use Rattle.nk_plan.specs.declared.plan.ListenerKind.TheVariants as kind
use Rattle.nk_plan.specs.Accepted.{Accepted, IsGoodListener, body_size}
use Rattle.nk_sink.specs.Listener.{Listener, new_listener, entered, entered_all, read_turn}
use Rattle.nk_sink.specs.Reached.{IsGoodKind, IsReached, Enter, Turn}

pub kind_all : (es : List Entry) (l : Listener) → (entered_all es l).kind ≡ l.kind
kind_all [] l = refl
kind_all (e ∷ es) l = kind_all es (entered e l)

pub entries_all : (es : List Entry) (l : Listener) → (entered_all es l).entries ≡ l.entries ++ es
entries_all [] l = sym (append-nil l.entries)
entries_all (e ∷ es) l = entries_all es (entered e l) ∙ append_assoc l.entries (e ∷ []) es

pub heard_all : (es : List Entry) (l : Listener) → IsReached l → IsReached (entered_all es l)
heard_all [] l h = h
heard_all (e ∷ es) l h =
    heard_all es (entered e l) (record { good = h.good; steps = Enter e ∷ h.steps; is = ap (λ (m : Listener). entered e m) h.is })

pub heard_turn : (reader : ℕ) (l : Listener) → IsReached l → IsReached (read_turn reader l)
heard_turn reader l h = record { good = h.good; steps = Turn reader ∷ h.steps; is = ap (λ (m : Listener). read_turn reader m) h.is }

-- the listener of an accepted plan is in its ranges

good : (k : ListenerKind) (size : ℕ) → IsGoodListener k size → IsGoodKind k
good kind.Plain size g = tt
good (kind.Pipe segment limit readers) size g = record {
  segment_least = g.segment_least;
  segment_most = g.segment_most;
  limit_least = g.limit_least;
  limit_most = g.limit_most;
  readers_least = g.readers_least;
  readers_most = g.readers_most;
}

pub good_kind : (c : ChannelPlan) → Accepted c → IsGoodKind c.listener
good_kind c a = good c.listener (body_size c) a.listener

pub heard_new : (c : ChannelPlan) → Accepted c → IsReached (new_listener c.listener)
heard_new c a = record { good = good_kind c a; steps = []; is = refl }
