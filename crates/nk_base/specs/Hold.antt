-- The hold: what the background half of a child holds back until the start of its hop is in the child's queue.
-- After Firefox's HttpBackgroundChannelChild, which queues data and stop until OnStartRequest was received, in outline.
use Rattle.std.specs.Prelude.{ℕ, Bool, true, false, ◌||◌, if◌then◌else◌, ◌==◌, List, [], ◌∷◌, ◌++◌, Option, Some, None}
use Rattle.nk_base.specs.declared.message.BackMsg.{BackMsg}
use Rattle.nk_base.specs.declared.message.BackMsg.TheVariants as back

-- the hops that were released, each once and in this order; the hop that the next release is for; and the messages that
-- are kept, in the order they came
pub record Hold : Type 0 where
  pub released : List ℕ
  pub report : Option ℕ
  pub kept : List BackMsg

-- the hop of a message
abbrev pub back_hop : BackMsg → ℕ
back_hop (back.StartSent h) = h
back_hop (back.Start h st head) = h
back_hop (back.Bytes h st o p) = h
back_hop (back.Stop h st trailers) = h

-- whether a message says that its start was sent
abbrev pub is_start_sent : BackMsg → Bool
is_start_sent (back.StartSent h) = true
is_start_sent (back.Start h st head) = false
is_start_sent (back.Bytes h st o p) = false
is_start_sent (back.Stop h st trailers) = false

-- whether a hop is one of these
abbrev pub is_among : List ℕ → ℕ → Bool
is_among [] h = false
is_among (x ∷ xs) h = (x == h) || is_among xs h

-- these hops and this one, each once
abbrev pub with_hop : ℕ → List ℕ → List ℕ
with_hop h hops = if is_among hops h then hops else hops ++ h ∷ []

-- a hold in which these hops count as released: none, or hop 0 where starts travel on the background lane
abbrev pub hold_with : List ℕ → Hold
hold_with hops = record { released = hops; report = None; kept = [] }

-- a message is kept behind the others
abbrev pub keeping : BackMsg → Hold → Hold
keeping m hold = record hold { kept = hold.kept ++ m ∷ [] }

-- a report on a hop takes the place of an earlier one
abbrev pub reporting : ℕ → Hold → Hold
reporting h hold = record hold { report = Some h }

-- the messages of a hop, in order
abbrev pub of_hop : ℕ → List BackMsg → List BackMsg
of_hop h [] = []
of_hop h (m ∷ ms) = if h == back_hop m then m ∷ of_hop h ms else of_hop h ms

-- the messages of all other hops, in order
abbrev pub not_of_hop : ℕ → List BackMsg → List BackMsg
not_of_hop h [] = []
not_of_hop h (m ∷ ms) = if h == back_hop m then not_of_hop h ms else m ∷ not_of_hop h ms

-- a hop is released: its messages are kept no more, and no report is noted
abbrev pub released_hold : ℕ → Hold → Hold
released_hold h hold = record { released = with_hop h hold.released; report = None; kept = not_of_hop h hold.kept }
