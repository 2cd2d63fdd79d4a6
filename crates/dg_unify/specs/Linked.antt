-- What a list of bindings keeps.
use Rattle.std.specs.Prelude.{ℕ, ◌≤◌, List, vec_capacity}
use Rattle.dg_unify.specs.declared.slots.Link.{Link}
use Rattle.dg_unify.specs.declared.links.Links.{Links}

-- All bindings, the oldest first.
abbrev pub log_of : Links → List Link
log_of links = links.log.items

-- How many variables there are.
abbrev pub vars_of : Links → ℕ
vars_of links = links.vars

-- How many variables, and how many bindings, there is room for.
abbrev pub var_room : Links → ℕ
var_room links = vec_capacity links.to

abbrev pub link_room : Links → ℕ
link_room links = vec_capacity links.log

-- No room is given back.
pub record KeepsRoom (old new : Links) : Type 0 where
  pub vars : var_room old ≤ var_room new
  pub links : link_room old ≤ link_room new
