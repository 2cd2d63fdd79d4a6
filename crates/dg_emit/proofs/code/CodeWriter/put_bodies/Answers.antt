use Rattle.std.proofs.Common.{◌++◌, ◌∙◌, List, ap, sym, arith}
use Rattle.z_lang.specs.declared.act.Routine.{Routine}
use Rattle.dg_emit.specs.inside.Parts.{parts_routines, parts_weight}
use Rattle.dg_emit.proofs.Halving.{pushed_routines, pushed_weight, next_part}
use Rattle.dg_emit.proofs.code.CodeWriter.put_bodies.Goals as goal

pub put_part-requires : goal.put_part-requires
put_part-requires c = record { fits = (next_part c.loop-part.left c.pop.new.self c.in-Some.part c.in-Some.ensures c.loop-part.invariant.1).fits }

pub loop-part-smaller : goal.loop-part-smaller
loop-part-smaller c =
    let w = ap parts_weight c.in-Some.ensures ∙ pushed_weight c.pop.new.self c.in-Some.part in
    let less = c.in_ok-put_part.ensures.less in
    omega (arith, w, less)

pub loop-part-preserved : goal.loop-part-preserved
loop-part-preserved c =
    let ns = c.args.self.now.numbers.now in
    let made = c.in_ok-put_part.ensures in
    let n = next_part c.loop-part.left c.pop.new.self c.in-Some.part c.in-Some.ensures c.loop-part.invariant.1 in
    let before = ap (parts_routines ns) c.in-Some.ensures ∙ pushed_routines ns c.pop.new.self c.in-Some.part in
    (made.same ∙ ap (λ (rs : List Routine). c.loop-part.all ++ rs) (sym before) ∙ c.loop-part.invariant.0, made.fit n.others)
