use Rattle.std.proofs.Common.{arith}
use Rattle.std.proofs.lemmas.List.{append_assoc, append-nil, map-append, drop_more, drop_all}
use Rattle.dg_base.proofs.Views.{part_word_seen, value_seen, head_seen, body_seen, arm_seen, values_seen, stmts_seen}
use Rattle.dg_core.proofs.terms.values_in.Goals as goal

ruleset steps = (append_assoc, append-nil, map-append, drop_more, drop_all, part_word_seen, value_seen, body_seen, arm_seen)

ruleset forms = (append_assoc, append-nil, map-append, part_word_seen, value_seen, head_seen, body_seen, values_seen, stmts_seen)

pub loop-part-init : goal.loop-part-init
loop-part-init c = grind (arith, steps)

pub loop-part-preserved : goal.loop-part-preserved
loop-part-preserved c = grind (arith, steps)

pub returns : goal.returns
returns c = grind (arith, steps)
