use Rattle.std.proofs.Common.{Option, Ok, sym, ap, ◌∙◌, arith}
use Rattle.z_model.specs.declared.property.Property.{Property}
use Rattle.z_full.proofs.Steps.{property_failed, property_ends, property_here, property_later, property_over}
use Rattle.z_full.proofs.properties.find.Goals as goal

pub returns-in-Err : goal.returns-in-Err
returns-in-Err g c = sym (c.loop-more.invariant ∙ property_failed (g.B.Bytes.memory c.args.mem.now) c.args.number c.loop-more.more c.loop-more.limit c.loop-more.place c.in-Err.fault c.loop-more-test.true (sym c.in-Err.ensures))

pub returns-in-None : goal.returns-in-None
returns-in-None g c = sym (c.loop-more.invariant ∙ property_ends (g.B.Bytes.memory c.args.mem.now) c.args.number c.loop-more.more c.loop-more.limit c.loop-more.place c.loop-more-test.true (sym c.in-Ok.ensures ∙ ap (λ (o : Option Property). Ok o) c.in-None.is))

pub returns-then-p-number : goal.returns-then-p-number
returns-then-p-number g c =
    sym (c.loop-more.invariant ∙ property_here (g.B.Bytes.memory c.args.mem.now) c.args.number c.loop-more.more c.loop-more.limit c.loop-more.place c.in-Some.p c.loop-more-test.true (sym c.in-Ok.ensures ∙ ap (λ (o : Option Property). Ok o) c.in-Some.is) c.if-p-number.true)

pub loop-more-preserved : goal.loop-more-preserved
loop-more-preserved g c =
    c.loop-more.invariant
    ∙ property_later (g.B.Bytes.memory c.args.mem.now) c.args.number c.loop-more.more c.loop-more.limit c.loop-more.place c.behind-place.result c.in-Some.p c.loop-more-test.true (sym c.in-Ok.ensures ∙ ap (λ (o : Option Property). Ok o) c.in-Some.is) c.if-p-number.false c.behind-place.ensures

pub returns : goal.returns
returns g c = sym (c.loop-more.invariant ∙ property_over (g.B.Bytes.memory c.args.mem.now) c.args.number c.loop-more.more c.loop-more.limit c.loop-more.place (omega (arith, c.loop-more-test.false)))
