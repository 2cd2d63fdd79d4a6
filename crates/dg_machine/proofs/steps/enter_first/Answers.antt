use Rattle.std.proofs.Common.{ap, subst, sym}
use Rattle.dg_mid.specs.Step.{setting}
use Rattle.dg_mid.specs.Runs.{after}
use Rattle.dg_machine.specs.inside.Running.{rests, IsQuick}
use Rattle.dg_machine.specs.inside.Reading.{IsEnd}
use Rattle.dg_machine.proofs.Runs.{settled_on, settled_nowhere}
use Rattle.dg_machine.proofs.steps.enter_first.Goals as goal

pub quick_mark-requires-clause-some : goal.quick_mark-requires-clause-some
quick_mark-requires-clause-some c = let s = c.requires.some.1.somewhere in record { limits = s.limits; status = (after (setting s.game c.args.code.now s.limits) s.typed s.steps).now; stands = s.stands }

pub quick_mark-requires-clause-mark : goal.quick_mark-requires-clause-mark
quick_mark-requires-clause-mark c = ap rests c.in-Enters.is

pub quick_mark-requires-clause-quick : goal.quick_mark-requires-clause-quick
quick_mark-requires-clause-quick c = subst IsQuick (sym c.in-Enters.is) tt

pub returns-in-Enters-clause-comes : goal.returns-in-Enters-clause-comes
returns-in-Enters-clause-comes c out g is_of l typed steps h w =
    settled_on c.args.code.now g l typed c.requires.built c.args.tables.now is_of c.args.memory.now c.quick_mark.new.memory out out c.args.now c.quick_mark.result steps (ap rests c.in-Enters.is) (c.quick_mark.ensures out) (settled_nowhere c.args.code.now g l typed c.args.memory.now out c.args.now steps h w)

pub returns-in-Enters-clause-stays : goal.returns-in-Enters-clause-stays
returns-in-Enters-clause-stays c end = absurd (subst IsEnd c.in-Enters.is end)

pub returns-in_default-clause-comes : goal.returns-in_default-clause-comes
returns-in_default-clause-comes c out g is_of l typed steps h w = settled_nowhere c.args.code.now g l typed c.args.memory.now out c.args.now steps h w
