use Rattle.dg_trace.proofs.Erasures.{to_text, without_input, without_memory}
use Rattle.dg_trace.proofs.laws.traces_erase_to_runs.Goals as goal

pub returns : goal.returns
returns c = record { text = to_text; input = without_input; memory = without_memory }
