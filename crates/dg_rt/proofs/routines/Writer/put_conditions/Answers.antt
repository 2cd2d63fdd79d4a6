use Rattle.std.proofs.Common.{[], ◌∷◌}
use Rattle.dg_rt.specs.declared.conditions.TheConstants.{IF_NUMBER_ACTS, IF_WORD_ACTS, IF_UNKNOWN_ACTS, IF_LIST_ACTS, IF_EMPTY_ACTS, IF_NON_EMPTY_ACTS, IF_BOUND_ACTS, IF_FULL_ACTS, IF_UNBOUND_ACTS, IF_LESS_ACTS}
use Rattle.dg_rt.specs.RunTime.{routine_of}
use Rattle.dg_rt.proofs.Puts.{one_more}
use Rattle.dg_rt.proofs.routines.Writer.put_conditions.Goals as goal

pub returns : goal.returns
returns c =
    let old = c.args.self.now.all in
    let r0 = routine_of 2 IF_NUMBER_ACTS in
    let r1 = routine_of 2 IF_WORD_ACTS in
    let r2 = routine_of 2 IF_UNKNOWN_ACTS in
    let r3 = routine_of 2 IF_LIST_ACTS in
    let r4 = routine_of 2 IF_EMPTY_ACTS in
    let r5 = routine_of 2 IF_NON_EMPTY_ACTS in
    let r6 = routine_of 2 IF_BOUND_ACTS in
    let r7 = routine_of 2 IF_FULL_ACTS in
    let r8 = routine_of 2 IF_UNBOUND_ACTS in
    let r9 = routine_of 3 IF_LESS_ACTS in
    let e0 = c.in_ok-put.ensures in
    let e1 = one_more old (r0 ∷ []) c.put.new.self.all c.put-2.new.self.all r1 e0 c.in_ok-put-2.ensures in
    let e2 = one_more old (r0 ∷ r1 ∷ []) c.put-2.new.self.all c.put-3.new.self.all r2 e1 c.in_ok-put-3.ensures in
    let e3 = one_more old (r0 ∷ r1 ∷ r2 ∷ []) c.put-3.new.self.all c.put-4.new.self.all r3 e2 c.in_ok-put-4.ensures in
    let e4 = one_more old (r0 ∷ r1 ∷ r2 ∷ r3 ∷ []) c.put-4.new.self.all c.put-5.new.self.all r4 e3 c.in_ok-put-5.ensures in
    let e5 = one_more old (r0 ∷ r1 ∷ r2 ∷ r3 ∷ r4 ∷ []) c.put-5.new.self.all c.put-6.new.self.all r5 e4 c.in_ok-put-6.ensures in
    let e6 = one_more old (r0 ∷ r1 ∷ r2 ∷ r3 ∷ r4 ∷ r5 ∷ []) c.put-6.new.self.all c.put-7.new.self.all r6 e5 c.in_ok-put-7.ensures in
    let e7 = one_more old (r0 ∷ r1 ∷ r2 ∷ r3 ∷ r4 ∷ r5 ∷ r6 ∷ []) c.put-7.new.self.all c.put-8.new.self.all r7 e6 c.in_ok-put-8.ensures in
    let e8 = one_more old (r0 ∷ r1 ∷ r2 ∷ r3 ∷ r4 ∷ r5 ∷ r6 ∷ r7 ∷ []) c.put-8.new.self.all c.put-9.new.self.all r8 e7 c.in_ok-put-9.ensures in
    one_more old (r0 ∷ r1 ∷ r2 ∷ r3 ∷ r4 ∷ r5 ∷ r6 ∷ r7 ∷ r8 ∷ []) c.put-9.new.self.all c.put-10.new.self.all r9 e8 c.in_ok-put-10.ensures
