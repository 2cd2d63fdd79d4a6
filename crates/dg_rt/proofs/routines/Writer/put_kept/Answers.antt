use Rattle.std.proofs.Common.{[], ◌∷◌}
use Rattle.dg_rt.specs.declared.kept.TheConstants.{DROP_KEPT_ACTS, KEEP_ACTS, CLEAR_KEPT_ACTS, READ_KEPT_ACTS}
use Rattle.dg_rt.specs.RunTime.{routine_of}
use Rattle.dg_rt.proofs.Puts.{one_more}
use Rattle.dg_rt.proofs.routines.Writer.put_kept.Goals as goal

pub returns : goal.returns
returns c =
    let old = c.args.self.now.all in
    let r0 = routine_of 4 DROP_KEPT_ACTS in
    let r1 = routine_of 4 KEEP_ACTS in
    let r2 = routine_of 3 CLEAR_KEPT_ACTS in
    let r3 = routine_of 3 READ_KEPT_ACTS in
    let e0 = c.in_ok-put.ensures in
    let e1 = one_more old (r0 ∷ []) c.put.new.self.all c.put-2.new.self.all r1 e0 c.in_ok-put-2.ensures in
    let e2 = one_more old (r0 ∷ r1 ∷ []) c.put-2.new.self.all c.put-3.new.self.all r2 e1 c.in_ok-put-3.ensures in
    one_more old (r0 ∷ r1 ∷ r2 ∷ []) c.put-3.new.self.all c.put-4.new.self.all r3 e2 c.in_ok-put-4.ensures
