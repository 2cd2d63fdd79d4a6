-- What an arena keeps, and what that stands for. Hold it against dg_unify/specs/Slots.antt.
use Rattle.std.specs.Prelude.{false, List}
use Rattle.dg_unify.specs.Store.{Store, Saved}
use Rattle.dg_unify.specs.Linked.{log_of, vars_of}
use Rattle.dg_unify.specs.Slots.{Fields, store_of, Stand}
use Rattle.dg_arena.specs.declared.arena.Arena.{Arena}
use Rattle.dg_arena.specs.Room.{WereCounted}

abbrev pub fields_of : Arena → Fields
fields_of s = record {
  slots = s.cells.items;
  log = log_of s.links;
  vars = vars_of s.links;
  since = s.since;
  heap = s.heap;
  trail = s.trail;
  heap_limit = s.heap_limit;
  trail_limit = s.trail_limit;
}

-- It is a store that doesn't grow.
abbrev pub meaning_of : Arena → Store
meaning_of s = store_of false (fields_of s)

-- These marks stand, the newest first, and each kept no more cells than it counted.
abbrev pub saves_of : Arena → List Saved → Type 0
saves_of s ms = Stand false (fields_of s) ms × WereCounted ms
