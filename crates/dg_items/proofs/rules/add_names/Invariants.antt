use Rattle.std.proofs.Common.{◌≡◌, ◌++◌, drop}
use Rattle.dg_base.specs.Mentions.{names_in, variable_in}
use Rattle.dg_base.specs.Walk.{seen, things_at}
use Rattle.dg_put.specs.inside.Putting.{names_seen}
use Rattle.dg_items.proofs.rules.add_names.Given as goal

abbrev pub invariant-loop-mention : goal.invariant-loop-mention
invariant-loop-mention l = names_seen l.names.items ++ names_in variable_in (things_at (seen (drop l.mention-index l.mentions))) ≡ names_seen l.initial.names.items ++ names_in variable_in (things_at (seen l.mentions))
