use Rattle.std.proofs.Common.{sym, ◌∙◌, arith, drop}
use Rattle.std.proofs.Math.ListN.{drop_of_length-le}
use Rattle.dg_base.proofs.Places.{place_here, place_later, place_none}
use Rattle.dg_base.proofs.typing.find_place.Goals as goal

pub returns-then-entry-value-clause-place : goal.returns-then-entry-value-clause-place
returns-then-entry-value-clause-place c = sym (place_here c.args.value c.args.table.now c.loop-place.place c.loop-place-test.true c.if-entry-value.true) ∙ c.loop-place.invariant

pub loop-place-preserved : goal.loop-place-preserved
loop-place-preserved c = sym (place_later c.args.value c.args.table.now c.loop-place.place c.loop-place-test.true c.if-entry-value.false) ∙ c.loop-place.invariant

pub returns-clause-place : goal.returns-clause-place
returns-clause-place c = sym (place_none c.args.value (drop c.loop-place.place c.args.table.now) c.loop-place.place (drop_of_length-le c.args.table.now (omega arith))) ∙ c.loop-place.invariant
