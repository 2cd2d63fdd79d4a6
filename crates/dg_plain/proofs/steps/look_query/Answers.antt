use Rattle.std.proofs.Common.{refl}
use Rattle.dg_plain.proofs.StepLemmas.{on_ok, query_off}
use Rattle.dg_plain.proofs.steps.look_query.Goals as goal

pub returns : goal.returns
returns c = on_ok c.put_off.result _ _ c.put_off.ensures (query_off c.args.asking c.args.head.now _ _ c.args.left.now.items _ c.as_slice-parts.ensures refl)
