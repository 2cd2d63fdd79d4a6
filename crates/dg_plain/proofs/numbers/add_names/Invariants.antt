use Rattle.std.proofs.Common.{◌≡◌, ◌++◌, drop}
use Rattle.dg_base.specs.Mentions.{names_in, variable_in}
use Rattle.dg_base.specs.Walk as walk
use Rattle.dg_base.specs.Walk.{things_at}
use Rattle.dg_plain.specs.State.{seen}
use Rattle.dg_plain.proofs.numbers.add_names.Given as goal

abbrev pub invariant-loop-mention : goal.invariant-loop-mention
invariant-loop-mention l = seen l.names.items ++ names_in variable_in (things_at (walk.seen (drop l.mention-index l.mentions))) ≡ seen l.initial.names.items ++ names_in variable_in (things_at (walk.seen l.mentions))
