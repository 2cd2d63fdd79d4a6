-- Access rules that loop or are repeated: hold them against docs/REFUSALS.md, "access rule loops or is repeated".
use Rattle.std.specs.Prelude.{ℕ, ◌||◌, ◌&&◌, List, [], ◌∷◌, ◌++◌, Bool, false, Option, Some, None, if◌then◌else◌}
use Rattle.std.specs.List.{list_any}
use Rattle.std.specs.Str.{bytes_eq}
use Rattle.dg_base.specs.Heads.{name_of}
use Rattle.dg_base.specs.Tree as tree
use Rattle.dg_base.specs.Tree.{Item}
use Rattle.dg_base.specs.Mentions.{Thing, query, things_in}
use Rattle.dg_base.specs.declared.mentions.Role.{Role}
use Rattle.dg_base.specs.declared.mentions.Role.TheVariants as role
use Rattle.dg_put.specs.Put.{Access}
use Rattle.dg_items.specs.Expanded.{access_in}

-- A query or a change of a predicate, but no access rule's own head.
abbrev pub asks : Role → List ℕ → List ℕ → Bool
asks role.Access name asked = false
asks r name asked = bytes_eq name asked

abbrev pub asks_for : List ℕ → Thing → Bool
asks_for name (query r ps) = asks r name (name_of ps)
asks_for name t = false

-- An access rule's body mentions a predicate, at any depth.
abbrev pub mentions : Access → List ℕ → Bool
mentions r name = list_any (asks_for name) (things_in (tree.access r.head r.body))

-- An access rule reaches a predicate, with these access rules in between: without the first of them, or up to it and on from it.
abbrev pub reaches : List Access → Access → List ℕ → Bool
reaches [] r name = mentions r name
reaches (k ∷ ks) r name = reaches ks r name || (reaches ks r k.name && reaches ks k name)

-- An access rule is the second of its predicate, or reaches it.
abbrev pub loops : List Access → List Access → Access → Bool
loops rules before r = list_any (λ (other : Access). bytes_eq other.name r.name) before || reaches rules r r.name

-- The first item whose access rule loops or is repeated.
abbrev pub first_looping : List Access → List Access → List Item → Option Item
first_looping rules before [] = None
first_looping rules before (i ∷ is) = if list_any (loops rules before) (access_in i.said) then Some i else first_looping rules (before ++ access_in i.said) is
