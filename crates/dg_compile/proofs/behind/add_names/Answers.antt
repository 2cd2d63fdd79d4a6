use Rattle.std.proofs.Common.{◌∙◌}
use Rattle.dg_compile.proofs.PreludeLemmas.{name_next}
use Rattle.dg_compile.proofs.behind.add_names.Goals as goal

pub loop-name-preserved : goal.loop-name-preserved
loop-name-preserved c = name_next _ _ c.args.names.now c.loop-name.name-index _ c.as_bytes.result.now c.loop-name-test.true c.as_bytes.ensures.value c.in_ok-add_name.ensures ∙ c.loop-name.invariant
