use Rattle.dg_base.specs.Names.{prelude_names}
use Rattle.dg_names.specs.State.{listed}
use Rattle.dg_compile.proofs.PreludeLemmas.{few_listed, four}
use Rattle.dg_compile.proofs.behind.with_prelude_names.Goals as goal

pub invariant_of-result : goal.invariant_of-result
invariant_of-result c = record { numbered = few_listed c.add_names.new.preds.keys (listed c.args.names.preds) prelude_names c.in_ok-add_names.ensures four c.requires }
