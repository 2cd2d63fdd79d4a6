-- What a list of bindings keeps, and what its private calls do.
use Rattle.dg_unify.specs.Linked.{log_of, vars_of}
use Rattle.dg_unify.specs.Slots.{Fields}
use Rattle.dg_unify.specs.declared.list.ListBindings.{ListBindings}

-- All that it keeps.
abbrev pub fields_of : ListBindings → Fields
fields_of s = record {
  slots = s.slots.items;
  log = log_of s.links;
  vars = vars_of s.links;
  since = s.since;
  heap = s.heap;
  trail = s.trail;
  heap_limit = s.heap_limit;
  trail_limit = s.trail_limit;
}
