use Rattle.std.proofs.Common.{[], ◌∷◌}
use Rattle.dg_rt.specs.declared.arithmetic.TheConstants.{PLUS_ACTS, MINUS_ACTS, TIMES_ACTS, DIVIDE_ACTS, MODULO_ACTS, THROW_ACTS}
use Rattle.dg_rt.specs.RunTime.{routine_of}
use Rattle.dg_rt.proofs.Puts.{one_more}
use Rattle.dg_rt.proofs.routines.Writer.put_arithmetic.Goals as goal

pub returns : goal.returns
returns c =
    let old = c.args.self.now.all in
    let r0 = routine_of 3 PLUS_ACTS in
    let r1 = routine_of 3 MINUS_ACTS in
    let r2 = routine_of 3 TIMES_ACTS in
    let r3 = routine_of 3 DIVIDE_ACTS in
    let r4 = routine_of 3 MODULO_ACTS in
    let r5 = routine_of 3 THROW_ACTS in
    let e0 = c.in_ok-put.ensures in
    let e1 = one_more old (r0 ∷ []) c.put.new.self.all c.put-2.new.self.all r1 e0 c.in_ok-put-2.ensures in
    let e2 = one_more old (r0 ∷ r1 ∷ []) c.put-2.new.self.all c.put-3.new.self.all r2 e1 c.in_ok-put-3.ensures in
    let e3 = one_more old (r0 ∷ r1 ∷ r2 ∷ []) c.put-3.new.self.all c.put-4.new.self.all r3 e2 c.in_ok-put-4.ensures in
    let e4 = one_more old (r0 ∷ r1 ∷ r2 ∷ r3 ∷ []) c.put-4.new.self.all c.put-5.new.self.all r4 e3 c.in_ok-put-5.ensures in
    one_more old (r0 ∷ r1 ∷ r2 ∷ r3 ∷ r4 ∷ []) c.put-5.new.self.all c.put-6.new.self.all r5 e4 c.in_ok-put-6.ensures
