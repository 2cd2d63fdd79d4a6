-- What the code holds, as plain data. The proofs alone rest on it.
use Rattle.std.specs.Prelude.{◌≡◌, List, map}
use Rattle.std.specs.Borrow.{Bor}
use Rattle.dg_base.specs.Tree.{Parts, Item}
use Rattle.dg_base.specs.TreeView.{head_view, item_view}
use Rattle.dg_base.specs.declared.tree.Head.{Head}
use Rattle.dg_names.specs.Named.{Named}
use Rattle.dg_names.specs.State.{names_view}
use Rattle.dg_core.specs.Places.{placed_of}
use Rattle.dg_core.specs.inside.View.{places_view}
use Rattle.dg_lower.specs.declared.places.Around.{Around}

-- Heads that are lent.
abbrev pub heads_view : List (Bor Head) → List Parts
heads_view hs = map (λ (h : Bor Head). head_view h.now) hs

-- The names and the items of a tree.
abbrev pub names_in : Around → Named
names_in around = names_view around.names.now

abbrev pub items_in : Around → List Item
items_in around = map item_view around.items.now

-- These are its places.
abbrev pub HasItsPlaces : Around → Type 0
HasItsPlaces around = places_view around.places.now ≡ placed_of (items_in around)
