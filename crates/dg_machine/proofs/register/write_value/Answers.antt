use Rattle.dg_machine.proofs.TableLemmas.{no_pair}
use Rattle.dg_machine.proofs.register.write_value.Goals as goal

pub leaf_value-requires-clause-leaf : goal.leaf_value-requires-clause-leaf
leaf_value-requires-clause-leaf c = no_pair c.args.term.now c.in_default.not-Pair
