-- Lemmas on the links of a `Chain`: what a write of one node does to the list that they lead to.
use Rattle.std.proofs.Common.{◌≡◌, ◌≢◌, ℕ, ◌+◌, ◌-◌, ◌<◌, ◌≤◌, ◌^◌, ◌==◌, true, false, List, [], ◌∷◌, ◌++◌, length, Option, Some, None, is_some, cond, inl, inr, refl, sym, ap, subst, ◌∙◌, arith, length-append}
use Rattle.std.proofs.lemmas.Bool.Decides.{nat_tests}
use Rattle.std.proofs.lemmas.Bool.{cases_eq}
use Rattle.std.proofs.lemmas.List.Sums.{sum_by-set}
use Rattle.slab.specs.Slab.{Slab, get, slab_len, ContainsKey, Updates, with_value}
use Rattle.slab.proofs.SlabLemmas.{ContainsKey-within, Updates-with_value}
use Rattle.nk_chain.specs.declared.Place.{Place}
use Rattle.nk_chain.specs.declared.Node.{Node}
use Rattle.nk_chain.specs.Chain.{first_place, item_at, place_after, with_item, IsLive, PlacesDiffer}
use Rattle.nk_chain.specs.Links.{walk, listed, IsLinked, IsChain}
use Rattle.nk_chain.proofs.PlaceLemmas.{place_of_key, item_at-own, item_at-other, place_after-own, place_after-other, absent_differs, absent_later, live_later, live_differs, absent_behind, item_at-with_item_elsewhere, first_place-with_item, length-with_item}

module _ {T : Type 0} where
  -- the links lead to the items
  walk-linked : (nodes : Slab (Node T)) (before last : Option Place) (items : List (Place × T)) → IsLinked nodes before items last → walk nodes (length items) (first_place items) ≡ items
  walk-linked nodes before last [] linked = refl
  walk-linked nodes before last (e ∷ rest) linked = rw linked.1 (ap (λ xs. e ∷ xs) (walk-linked nodes (Some e.0) last rest linked.2))

  pub listed-chain : {nodes : Slab (Node T)} {first last : Option Place} {spare : ℕ} {items : List (Place × T)} → IsChain nodes first last spare items → listed nodes first ≡ items
  listed-chain {nodes} {first} {last} {spare} {items} chain = rw (chain.counted, chain.starts) (walk-linked nodes None last items chain.linked)

  -- the invariant of a `Chain`, from any list that its links lead to
  pub chain_listed : {nodes : Slab (Node T)} {first last : Option Place} {spare : ℕ} {items : List (Place × T)} → IsChain nodes first last spare items → IsChain nodes first last spare (listed nodes first)
  chain_listed chain = rw (listed-chain chain) chain

  places_differ : (nodes : Slab (Node T)) (before last : Option Place) (items : List (Place × T)) → IsLinked nodes before items last → PlacesDiffer items
  places_differ nodes before last [] linked = tt
  places_differ nodes before last (e ∷ rest) linked = (linked.0, places_differ nodes (Some e.0) last rest linked.2)

  pub chain_places_differ : {nodes : Slab (Node T)} {first last : Option Place} {spare : ℕ} {items : List (Place × T)} → IsChain nodes first last spare items → PlacesDiffer items
  chain_places_differ {nodes} {first} {last} {spare} {items} chain = places_differ nodes None last items chain.linked

  -- a vacant key is no item's place
  vacant_absent : (nodes : Slab (Node T)) (before last : Option Place) (items : List (Place × T)) (place : Place) → IsLinked nodes before items last → get nodes place.0 ≡ None → item_at items place ≡ None
  vacant_absent nodes before last [] place linked vacant = refl
  vacant_absent nodes before last (e ∷ rest) place linked vacant =
      let differs : e.0.0 ≢ place.0 = λ same. let there = rw same at linked.1 in cc in
      item_at-other e rest place differs ∙ vacant_absent nodes (Some e.0) last rest place linked.2 vacant

  pub chain_vacant : {nodes : Slab (Node T)} {first last : Option Place} {spare : ℕ} {items : List (Place × T)} (place : Place) → IsChain nodes first last spare items → get nodes place.0 ≡ None → item_at items place ≡ None
  chain_vacant {nodes} {first} {last} {spare} {items} place chain vacant = vacant_absent nodes None last items place chain.linked vacant

  -- the place has a node, whose item is live there, and which names the place behind it
  pub record HasNode (nodes : Slab (Node T)) (items : List (Place × T)) (place : Place) (node : Node T) : Type 0 where
    pub found : get nodes place.0 ≡ Some node
    pub item : item_at items place ≡ Some node.item
    pub after : node.after ≡ place_after items place

  node_here : (nodes : Slab (Node T)) (before : Option Place) (e : Place × T) (rest : List (Place × T)) (place : Place) → e.0 ≡ place
      → get nodes e.0.0 ≡ Some (record { before = before; after = first_place rest; item = e.1 })
      → HasNode nodes (e ∷ rest) place (record { before = before; after = first_place rest; item = e.1 })
  node_here nodes before e rest place same found = record {
    found = rw same at found;
    item = ap (item_at (e ∷ rest)) (sym same) ∙ item_at-own e rest;
    after = sym (place_after-own e rest) ∙ ap (place_after (e ∷ rest)) same;
  }

  live_node : (nodes : Slab (Node T)) (before last : Option Place) (items : List (Place × T)) (place : Place) → IsLinked nodes before items last → IsLive items place
      → (node : Node T) × HasNode nodes items place node
  live_node nodes before last [] place linked live = absurd (cc)
  live_node nodes before last (e ∷ rest) place linked live = elim (cases_eq e.0.0 place.0) [
    | inl same ↦ (_, node_here nodes before e rest place (place_of_key e.0 place same) linked.1)
    | inr differs ↦
        let later = live_node nodes (Some e.0) last rest place linked.2 (rw (item_at-other e rest place differs) at live) in (
          later.0,
          record {
            found = later.1.found;
            item = item_at-other e rest place differs ∙ later.1.item;
            after = later.1.after ∙ sym (place_after-other e rest place differs);
          },
        )
  ]

  -- a live place has a node
  pub chain_contains : {nodes : Slab (Node T)} {first last : Option Place} {spare : ℕ} {items : List (Place × T)} (place : Place) → IsChain nodes first last spare items → IsLive items place → ContainsKey nodes place.0
  chain_contains {nodes} {first} {last} {spare} {items} place chain live =
      let node = live_node nodes None last items place chain.linked live in rw node.1.found refl

  -- the node at a live place says what the list says
  pub chain_node : {nodes : Slab (Node T)} {first last : Option Place} {spare : ℕ} {items : List (Place × T)} {node : Node T} (place : Place)
      → IsChain nodes first last spare items → IsLive items place → get nodes place.0 ≡ Some node → HasNode nodes items place node
  chain_node {nodes} {first} {last} {spare} {items} {node} place chain live found =
      let has = live_node nodes None last items place chain.linked live in
      let is : Some has.0 ≡ Some node = sym has.1.found ∙ found in
      let same : has.0 ≡ node = cc in
      subst (HasNode nodes items place) same has.1

  -- a write elsewhere leaves the links
  linked_elsewhere : (nodes written : Slab (Node T)) (place : Place) (slot : Option (Node T)) (before last : Option Place) (items : List (Place × T))
      → Updates nodes written place.0 slot → item_at items place ≡ None → IsLinked nodes before items last → IsLinked written before items last
  linked_elsewhere nodes written place slot before last [] updates absent linked = linked
  linked_elsewhere nodes written place slot before last (e ∷ rest) updates absent linked = (
    linked.0,
    updates.others e.0.0 (absent_differs e rest place absent) ∙ linked.1,
    linked_elsewhere nodes written place slot (Some e.0) last rest updates (absent_later e rest place absent) linked.2,
  )

  -- a write of the first node's link backwards
  linked_after : (nodes written : Slab (Node T)) (before now : Option Place) (e : Place × T) (rest : List (Place × T)) (last : Option Place) (node : Node T)
      → IsLinked nodes before (e ∷ rest) last → get nodes e.0.0 ≡ Some node → Updates nodes written e.0.0 (Some (record node { before = now }))
      → IsLinked written now (e ∷ rest) last
  linked_after nodes written before now e rest last node linked found updates =
      let is : Some node ≡ Some (record { before = before; after = first_place rest; item = e.1 }) = sym found ∙ linked.1 in
      let same : node ≡ record { before = before; after = first_place rest; item = e.1 } = cc in (
        linked.0,
        updates.changed ∙ ap (λ (n : Node T). Some (record n { before = now })) same,
        linked_elsewhere nodes written e.0 _ (Some e.0) last rest updates linked.0 linked.2,
      )

  -- the last item is live
  last_live : (nodes : Slab (Node T)) (before : Option Place) (last : Place) (e : Place × T) (rest : List (Place × T)) → IsLinked nodes before (e ∷ rest) (Some last) → IsLive (e ∷ rest) last
  last_live nodes before last e [] linked =
      let same : last ≡ e.0 = cc in
      rw (same, item_at-own e []) refl
  last_live nodes before last e (next ∷ rest) linked =
      live_later e (next ∷ rest) last (last_live nodes (Some e.0) last next rest linked.2)

  -- a list with no last place is empty
  no_last : (nodes : Slab (Node T)) (before : Option Place) (e : Place × T) (rest : List (Place × T)) → IsLinked nodes before (e ∷ rest) None → ⊥
  no_last nodes before e [] linked = cc
  no_last nodes before e (next ∷ rest) linked = no_last nodes (Some e.0) next rest linked.2

  -- one more node behind the last one, which is linked to it
  linked_behind : (nodes written : Slab (Node T)) (before : Option Place) (e : Place × T) (rest : List (Place × T)) (last place : Place) (item : T) (node : Node T)
      → IsLinked nodes before (e ∷ rest) (Some last) → get nodes last.0 ≡ Some node → Updates nodes written last.0 (Some (record node { after = Some place }))
      → get nodes place.0 ≡ Some (record { before = Some last; after = None; item = item }) → item_at (e ∷ rest) place ≡ None
      → IsLinked written before ((e ∷ rest) ++ (place, item) ∷ []) (Some place)
  linked_behind nodes written before e [] last place item node linked found updates new absent =
      let same : last ≡ e.0 = cc in
      let there = rw same at found in
      let is : Some node ≡ Some (record { before = before; after = None; item = e.1 }) = sym there ∙ linked.1 in
      let fields : node ≡ record { before = before; after = None; item = e.1 } = cc in
      let differs = absent_differs e [] place absent in
      let apart : place.0 ≢ last.0 = λ equal. differs (ap (λ (p : Place). p.0) (sym same) ∙ sym equal) in
      let changed = rw same at updates.changed in (
        item_at-other (place, item) [] e.0 (λ equal. differs (sym equal)),
        changed ∙ ap (λ (n : Node T). Some (record n { after = Some place })) fields,
        (refl, updates.others place.0 apart ∙ new ∙ ap (λ p. Some (record { before = Some p; after = None; item = item })) same, refl),
      )
  linked_behind nodes written before e (next ∷ rest) last place item node linked found updates new absent =
      let live = last_live nodes (Some e.0) last next rest linked.2 in
      let apart : last.0 ≢ e.0.0 = live_differs (next ∷ rest) last e.0 live linked.0 in (
        absent_behind (next ∷ rest) (place, item) e.0 linked.0 (absent_differs e (next ∷ rest) place absent),
        updates.others e.0.0 (λ same. apart (sym same)) ∙ linked.1,
        linked_behind nodes written (Some e.0) next rest last place item node linked.2 found updates new (absent_later e (next ∷ rest) place absent),
      )

  -- a write of a node leaves their number
  slab_len-with_value : (nodes : Slab (Node T)) (key : ℕ) (node now : Node T) → get nodes key ≡ Some node → slab_len (with_value nodes key now) ≡ slab_len nodes
  slab_len-with_value nodes key node now found =
      let contains : ContainsKey nodes key = rw found refl in
      let sums = sum_by-set (λ o. cond (is_some o) 1 0) nodes.slots key (Some now) None (ContainsKey-within nodes key contains) in
      omega (arith, rw found at sums)

  -- the links are those of the slab's values alone
  linked_roomier : (nodes : Slab (Node T)) (capacity : ℕ) (before last : Option Place) (items : List (Place × T)) → IsLinked nodes before items last → IsLinked (record nodes { capacity = capacity }) before items last
  linked_roomier nodes capacity before last [] linked = linked
  linked_roomier nodes capacity before last (e ∷ rest) linked = (linked.0, linked.1, linked_roomier nodes capacity (Some e.0) last rest linked.2)

  -- a slab with room for more nodes
  pub chain_roomier : {nodes roomier : Slab (Node T)} {first last : Option Place} {spare : ℕ} {items : List (Place × T)}
      → IsChain nodes first last spare items → roomier ≡ record nodes { capacity = roomier.capacity } → nodes.capacity ≤ roomier.capacity
      → IsChain roomier first last spare items
  chain_roomier {nodes} {roomier} {first} {last} {spare} {items} chain kept more =
      let len : slab_len roomier ≡ slab_len nodes = ap slab_len kept in
      record {
        starts = chain.starts;
        linked = subst (λ (n : Slab (Node T)). IsLinked n None items last) (sym kept) (linked_roomier nodes roomier.capacity None last items chain.linked);
        counted = len ∙ chain.counted;
        room = omega (arith, len, chain.room);
        fits = chain.fits;
      }

  -- as many spare ones as the slab has room for
  pub chain_spared : {nodes : Slab (Node T)} {first last : Option Place} {spare : ℕ} {items : List (Place × T)} (more : ℕ)
      → IsChain nodes first last spare items → slab_len nodes + more ≤ nodes.capacity → nodes.capacity < 2 ^ 64 → IsChain nodes first last more items
  chain_spared {nodes} {first} {last} {spare} {items} more chain room fits =
      record { starts = chain.starts; linked = chain.linked; counted = chain.counted; room = room; fits = omega (arith, chain.counted) }

  -- the slab has a node more, at this place, which was vacant
  pub record Inserts (nodes inserted : Slab (Node T)) (place : Place) (node : Node T) : Type 0 where
    pub vacant : get nodes place.0 ≡ None
    pub updates : Updates nodes inserted place.0 (Some node)
    pub len : slab_len inserted ≡ slab_len nodes + 1
    pub capacity : inserted.capacity ≡ nodes.capacity

  -- the first node of a chain
  chain_of_one : (nodes inserted : Slab (Node T)) (first last : Option Place) (spare : ℕ) (place : Place) (item : T)
      → IsChain nodes first last spare [] → Inserts nodes inserted place (record { before = None; after = None; item = item }) → 0 < spare
      → IsChain inserted (Some place) (Some place) (spare - 1) ((place, item) ∷ [])
  chain_of_one nodes inserted first last spare place item chain inserts some = record {
    starts = refl;
    linked = (refl, inserts.updates.changed, refl);
    counted = omega (arith, inserts.len, chain.counted);
    room = omega (arith, inserts.len, inserts.capacity, chain.room);
    fits = omega (arith, chain.fits);
  }

  -- the first node of a chain that has no last
  pub one_behind : {nodes inserted : Slab (Node T)} {first last : Option Place} {spare : ℕ} {items : List (Place × T)} {place : Place} {item : T}
      → IsChain nodes first last spare items → last ≡ None → Inserts nodes inserted place (record { before = last; after = None; item = item }) → 0 < spare
      → IsChain inserted (Some place) (Some place) (spare - 1) (items ++ (place, item) ∷ [])
  one_behind {nodes} {inserted} {first} {last} {spare} {items = []} {place} {item} chain is_none inserts some =
      chain_of_one nodes inserted first last spare place item chain (rw is_none at inserts) some
  one_behind {nodes = nodes} {items = e ∷ rest} chain is_none inserts some = absurd (no_last nodes None e rest (rw is_none at chain.linked))

  -- the first node of a chain that has no first
  pub one_before : {nodes inserted : Slab (Node T)} {first last : Option Place} {spare : ℕ} {items : List (Place × T)} {place : Place} {item : T}
      → IsChain nodes first last spare items → first ≡ None → Inserts nodes inserted place (record { before = None; after = first; item = item }) → 0 < spare
      → IsChain inserted (Some place) (Some place) (spare - 1) ((place, item) ∷ items)
  one_before {nodes} {inserted} {first} {last} {spare} {items = []} {place} {item} chain is_none inserts some =
      chain_of_one nodes inserted first last spare place item chain (rw is_none at inserts) some
  one_before {items = e ∷ rest} chain is_none inserts some = absurd (let starts = chain.starts in cc)

  -- one more node behind the last
  chain_behind : {nodes inserted : Slab (Node T)} {first : Option Place} {last : Place} {spare : ℕ} {items : List (Place × T)} {place : Place} {item : T} {node : Node T}
      → IsChain nodes first (Some last) spare items → Inserts nodes inserted place (record { before = Some last; after = None; item = item }) → 0 < spare
      → get inserted last.0 ≡ Some node
      → IsChain (with_value inserted last.0 (record node { after = Some place })) first (Some place) (spare - 1) (items ++ (place, item) ∷ [])
  chain_behind {items = []} chain inserts some found = absurd (let e = chain.linked in cc)
  chain_behind {nodes} {inserted} {first} {last} {spare} {items = e ∷ rest} {place} {item} {node} chain inserts some found =
      let absent = vacant_absent nodes None (Some last) (e ∷ rest) place chain.linked inserts.vacant in
      let linked = linked_elsewhere nodes inserted place _ None (Some last) (e ∷ rest) inserts.updates absent chain.linked in
      let contains : ContainsKey inserted last.0 = rw found refl in
      let len = slab_len-with_value inserted last.0 node (record node { after = Some place }) found in
      let longer = length-append (e ∷ rest) ((place, item) ∷ []) in
      record {
        starts = chain.starts;
        linked = linked_behind inserted _ None e rest last place item node linked found (Updates-with_value inserted last.0 _ contains) inserts.updates.changed absent;
        counted = omega (arith, len, inserts.len, chain.counted, longer);
        room = omega (arith, len, inserts.len, inserts.capacity, chain.room);
        fits = omega (arith, chain.fits, longer);
      }

  pub more_behind : {nodes inserted : Slab (Node T)} {first last : Option Place} {spare : ℕ} {items : List (Place × T)} {place final : Place} {item : T} {node : Node T}
      → IsChain nodes first last spare items → last ≡ Some final → Inserts nodes inserted place (record { before = last; after = None; item = item }) → 0 < spare
      → get inserted final.0 ≡ Some node
      → IsChain (with_value inserted final.0 (record node { after = Some place })) first (Some place) (spare - 1) (items ++ (place, item) ∷ [])
  more_behind chain is_final inserts some found = chain_behind (rw is_final at chain) (rw is_final at inserts) some found

  -- one more node before the first
  chain_before : {nodes inserted : Slab (Node T)} {first : Place} {last : Option Place} {spare : ℕ} {items : List (Place × T)} {place : Place} {item : T} {node : Node T}
      → IsChain nodes (Some first) last spare items → Inserts nodes inserted place (record { before = None; after = Some first; item = item }) → 0 < spare
      → get inserted first.0 ≡ Some node
      → IsChain (with_value inserted first.0 (record node { before = Some place })) (Some place) last (spare - 1) ((place, item) ∷ items)
  chain_before {items = []} chain inserts some found = absurd (let e = chain.starts in cc)
  chain_before {nodes} {inserted} {first} {last} {spare} {items = e ∷ rest} {place} {item} {node} chain inserts some found =
      let starts = chain.starts in
      let same : first ≡ e.0 = cc in
      let absent = vacant_absent nodes None last (e ∷ rest) place chain.linked inserts.vacant in
      let differs = absent_differs e rest place absent in
      let apart : place.0 ≢ first.0 = λ equal. differs (ap (λ (p : Place). p.0) (sym same) ∙ sym equal) in
      let linked = linked_elsewhere nodes inserted place _ None last (e ∷ rest) inserts.updates absent chain.linked in
      let contains : ContainsKey inserted first.0 = rw found refl in
      let written = with_value inserted first.0 (record node { before = Some place }) in
      let updates = Updates-with_value inserted first.0 (record node { before = Some place }) contains in
      let at_first = subst (λ (p : Place). Updates inserted written p.0 (Some (record node { before = Some place }))) same updates in
      let len = slab_len-with_value inserted first.0 node (record node { before = Some place }) found in
      record {
        starts = refl;
        linked = (
          absent,
          updates.others place.0 apart ∙ inserts.updates.changed ∙ ap (λ p. Some (record { before = None; after = Some p; item = item })) same,
          linked_after inserted written None (Some place) e rest last node linked (rw same at found) at_first,
        );
        counted = omega (arith, len, inserts.len, chain.counted);
        room = omega (arith, len, inserts.len, inserts.capacity, chain.room);
        fits = omega (arith, chain.fits);
      }

  pub more_before : {nodes inserted : Slab (Node T)} {first last : Option Place} {spare : ℕ} {items : List (Place × T)} {place foremost : Place} {item : T} {node : Node T}
      → IsChain nodes first last spare items → first ≡ Some foremost → Inserts nodes inserted place (record { before = None; after = first; item = item }) → 0 < spare
      → get inserted foremost.0 ≡ Some node
      → IsChain (with_value inserted foremost.0 (record node { before = Some place })) (Some place) last (spare - 1) ((place, item) ∷ items)
  more_before chain is_foremost inserts some found = chain_before (rw is_foremost at chain) (rw is_foremost at inserts) some found

  -- the last place of a chain has a node
  pub last_contained : {nodes inserted : Slab (Node T)} {first last : Option Place} {spare : ℕ} {items : List (Place × T)} {place final : Place} {node : Node T}
      → IsChain nodes first last spare items → last ≡ Some final → Inserts nodes inserted place node → ContainsKey inserted final.0
  last_contained {items = []} chain is_final inserts = absurd (let linked = chain.linked in cc)
  last_contained {nodes} {inserted} {first} {last} {spare} {items = e ∷ rest} {place} {final} {node} chain is_final inserts =
      let linked = rw is_final at chain.linked in
      let has = live_node nodes None (Some final) (e ∷ rest) final linked (last_live nodes None final e rest linked) in
      let differs : final.0 ≢ place.0 = λ same.
      let there : Some has.0 ≡ None = sym has.1.found ∙ ap (get nodes) same ∙ inserts.vacant in cc in
      rw (inserts.updates.others final.0 differs, has.1.found) refl

  -- the slab has lost the node at this place
  pub record Removes (nodes removed : Slab (Node T)) (place : Place) (node : Node T) : Type 0 where
    pub found : get nodes place.0 ≡ Some node
    pub updates : Updates nodes removed place.0 None
    pub len : slab_len removed + 1 ≡ slab_len nodes
    pub capacity : removed.capacity ≡ nodes.capacity

  -- the first item is gone from the list, and its node from the chain
  pub record Pops (items : List (Place × T)) (item : T) (nodes : Slab (Node T)) (first last : Option Place) (spare : ℕ) : Type 0 where
    pub place : Place
    pub rest : List (Place × T)
    pub was : items ≡ (place, item) ∷ rest
    pub chain : IsChain nodes first last spare rest

  -- the node of the first item
  record IsFirst (e : Place × T) (next : Option Place) (place : Place) (node : Node T) : Type 0 where
    pub at : place ≡ e.0
    pub item : e.1 ≡ node.item
    pub after : node.after ≡ next

  is_first : (nodes : Slab (Node T)) (first : Option Place) (e : Place × T) (next : Option Place) (place : Place) (node : Node T) → first ≡ Some place → first ≡ Some e.0
      → get nodes e.0.0 ≡ Some (record { before = None; after = next; item = e.1 }) → get nodes place.0 ≡ Some node → IsFirst e next place node
  is_first nodes first e next place node is starts linked found =
      let place_is : place ≡ e.0 = cc in
      let there = rw place_is at found in
      let both : Some (record { before = None; after = next; item = e.1 }) ≡ Some node = sym linked ∙ there in
      let same : record { before = None; after = next; item = e.1 } ≡ node = cc in
      record { at = place_is; item = ap (λ (n : Node T). n.item) same; after = ap (λ (n : Node T). n.after) (sym same) }

  -- the only node is gone
  pub pops_last : {nodes removed : Slab (Node T)} {first last : Option Place} {spare : ℕ} {items : List (Place × T)} {place : Place} {node : Node T}
      → IsChain nodes first last spare items → first ≡ Some place → Removes nodes removed place node → node.after ≡ None
      → Pops items node.item removed node.after None (spare + 1)
  pops_last {items = []} chain is_place removes ends = absurd (let e = chain.starts in cc)
  pops_last {nodes} {removed} {first} {last} {spare} {items = e ∷ []} {place} {node} chain is_place removes ends =
      let is = is_first nodes first e None place node is_place chain.starts chain.linked.1 removes.found in
      record {
        place = e.0;
        rest = [];
        was = ap (λ x. (e.0, x) ∷ []) is.item;
        chain = record {
          starts = is.after;
          linked = refl;
          counted = omega (arith, removes.len, chain.counted);
          room = omega (arith, removes.len, removes.capacity, chain.room);
          fits = omega (arith, chain.fits);
        };
      }
  pops_last {nodes} {removed} {first} {last} {spare} {items = e ∷ next ∷ rest} {place} {node} chain is_place removes ends =
      let is = is_first nodes first e (Some next.0) place node is_place chain.starts chain.linked.1 removes.found in
      let after = is.after in absurd (cc)

  -- the first node is gone, and the next is not linked back to it
  pub pops_first : {nodes removed : Slab (Node T)} {first last : Option Place} {spare : ℕ} {items : List (Place × T)} {place next : Place} {node later : Node T}
      → IsChain nodes first last spare items → first ≡ Some place → Removes nodes removed place node → node.after ≡ Some next → get removed next.0 ≡ Some later
      → Pops items node.item (with_value removed next.0 (record later { before = None })) (Some next) last (spare + 1)
  pops_first {items = []} chain is_place removes after found = absurd (let e = chain.starts in cc)
  pops_first {nodes} {removed} {first} {last} {spare} {items = e ∷ []} {place} {next} {node} {later} chain is_place removes after found =
      let is = is_first nodes first e None place node is_place chain.starts chain.linked.1 removes.found in
      let ends = is.after in absurd (cc)
  pops_first {nodes} {removed} {first} {last} {spare} {items = e ∷ d ∷ rest} {place} {next} {node} {later} chain is_place removes after found =
      let is = is_first nodes first e (Some d.0) place node is_place chain.starts chain.linked.1 removes.found in
      let both : Some next ≡ Some d.0 = sym after ∙ is.after in
      let same : next ≡ d.0 = cc in
      let gone = subst (λ (p : Place). Updates nodes removed p.0 None) is.at removes.updates in
      let linked = linked_elsewhere nodes removed e.0 _ (Some e.0) last (d ∷ rest) gone chain.linked.0 chain.linked.2 in
      let contains : ContainsKey removed next.0 = rw found refl in
      let written = with_value removed next.0 (record later { before = None }) in
      let updates = Updates-with_value removed next.0 (record later { before = None }) contains in
      let at_next = subst (λ (p : Place). Updates removed written p.0 (Some (record later { before = None }))) same updates in
      let len = slab_len-with_value removed next.0 later (record later { before = None }) found in
      record {
        place = e.0;
        rest = d ∷ rest;
        was = ap (λ x. (e.0, x) ∷ d ∷ rest) is.item;
        chain = record {
          starts = ap (λ p. Some p) same;
          linked = linked_after removed written (Some e.0) None d rest last later linked (rw same at found) at_next;
          counted = omega (arith, len, removes.len, chain.counted);
          room = omega (arith, len, removes.len, removes.capacity, chain.room);
          fits = omega (arith, chain.fits);
        };
      }

  linked_with_item : (nodes written : Slab (Node T)) (before last : Option Place) (items : List (Place × T)) (place : Place) (node : Node T) (item : T)
      → IsLinked nodes before items last → get nodes place.0 ≡ Some node → Updates nodes written place.0 (Some (record node { item = item }))
      → IsLinked written before (with_item items place item) last
  linked_with_item nodes written before last [] place node item linked found updates = linked
  linked_with_item nodes written before last (e ∷ rest) place node item linked found updates = elim (cases_eq e.0.0 place.0) [
    | inl same ↦
        let test : (e.0.0 == place.0) ≡ true = grind (arith, nat_tests) in
        let there = rw (← same) at found in
        let is : Some node ≡ Some (record { before = before; after = first_place rest; item = e.1 }) = sym there ∙ linked.1 in
        let fields : node ≡ record { before = before; after = first_place rest; item = e.1 } = cc in
        let own = rw (← same) at updates in
        rw test (
          linked.0,
          own.changed ∙ ap (λ (n : Node T). Some (record n { item = item })) fields,
          linked_elsewhere nodes written e.0 _ (Some e.0) last rest own linked.0 linked.2,
        )
    | inr differs ↦
        let test : (e.0.0 == place.0) ≡ false = grind (arith, nat_tests) in
        rw (test, first_place-with_item rest place item) (
          item_at-with_item_elsewhere rest place e.0 item (λ same. differs (sym same)) ∙ linked.0,
          updates.others e.0.0 differs ∙ linked.1,
          linked_with_item nodes written (Some e.0) last rest place node item linked.2 found updates,
        )
  ]

  -- another item at a live place
  pub chain_with_item : {nodes : Slab (Node T)} {first last : Option Place} {spare : ℕ} {items : List (Place × T)} {node : Node T} (place : Place) (item : T)
      → IsChain nodes first last spare items → get nodes place.0 ≡ Some node
      → IsChain (with_value nodes place.0 (record node { item = item })) first last spare (with_item items place item)
  chain_with_item {nodes} {first} {last} {spare} {items} {node} place item chain found =
      let contains : ContainsKey nodes place.0 = rw found refl in
      let len = slab_len-with_value nodes place.0 node (record node { item = item }) found in
      let same = length-with_item items place item in
      record {
        starts = chain.starts ∙ sym (first_place-with_item items place item);
        linked = linked_with_item nodes _ None last items place node item chain.linked found (Updates-with_value nodes place.0 _ contains);
        counted = omega (arith, len, chain.counted, same);
        room = omega (arith, len, chain.room);
        fits = omega (arith, chain.fits, same);
      }
