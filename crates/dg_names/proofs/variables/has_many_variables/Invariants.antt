use Rattle.std.proofs.Common.{◌≡◌, [], false, drop}
use Rattle.dg_base.specs.Walk.{seen}
use Rattle.dg_names.specs.Scopes.{no_variables, is_over, passes}
use Rattle.dg_names.specs.State.{scope_view, stack_of}
use Rattle.dg_names.proofs.variables.has_many_variables.Given as goal

abbrev pub invariant-loop-mention : goal.invariant-loop-mention
invariant-loop-mention l = record {
  passes : passes (seen (drop l.mention-index l.mentions)) (scope_view l.scopes.inner) (stack_of l.scopes.outer.items) ≡ passes (seen l.mentions) no_variables [];
  kept : is_over (scope_view l.scopes.inner) ≡ false;
}
