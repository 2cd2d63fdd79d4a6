use Rattle.std.proofs.Common.{[], ◌∷◌}
use Rattle.dg_rt.specs.declared.closures.TheConstants.{CLOSURE_ACTS, IF_BODY_ACTS, ENTER_BODY_ACTS}
use Rattle.dg_rt.specs.RunTime.{routine_of}
use Rattle.dg_rt.proofs.Puts.{one_more}
use Rattle.dg_rt.proofs.routines.Writer.put_closures.Goals as goal

pub returns : goal.returns
returns c =
    let old = c.args.self.now.all in
    let r0 = routine_of 3 CLOSURE_ACTS in
    let r1 = routine_of 3 IF_BODY_ACTS in
    let r2 = routine_of 0 ENTER_BODY_ACTS in
    let e0 = c.in_ok-put.ensures in
    let e1 = one_more old (r0 ∷ []) c.put.new.self.all c.put-2.new.self.all r1 e0 c.in_ok-put-2.ensures in
    one_more old (r0 ∷ r1 ∷ []) c.put-2.new.self.all c.put-3.new.self.all r2 e1 c.in_ok-put-3.ensures
