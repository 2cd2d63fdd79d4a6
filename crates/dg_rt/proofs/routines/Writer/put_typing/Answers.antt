use Rattle.std.proofs.Common.{[], ◌∷◌}
use Rattle.dg_rt.specs.declared.typing.TheConstants.{UNICODE_ACTS, READ_LINE_ACTS, SPELLED_NUMBER_ACTS, SPELLED_ACTS, LETTER_KIND_ACTS, ELEMENT_ACTS, LINE_CELLS_ACTS, WRITTEN_VALUE_ACTS, BREAK_LINE_ACTS}
use Rattle.dg_rt.specs.RunTime.{routine_of}
use Rattle.dg_rt.proofs.Puts.{one_more}
use Rattle.dg_rt.proofs.routines.Writer.put_typing.Goals as goal

pub returns : goal.returns
returns c =
    let old = c.args.self.now.all in
    let r0 = routine_of 1 UNICODE_ACTS in
    let r1 = routine_of 4 READ_LINE_ACTS in
    let r2 = routine_of 4 SPELLED_NUMBER_ACTS in
    let r3 = routine_of 4 SPELLED_ACTS in
    let r4 = routine_of 1 LETTER_KIND_ACTS in
    let r5 = routine_of 3 ELEMENT_ACTS in
    let r6 = routine_of 5 LINE_CELLS_ACTS in
    let r7 = routine_of 2 WRITTEN_VALUE_ACTS in
    let r8 = routine_of 0 BREAK_LINE_ACTS in
    let e0 = c.in_ok-put.ensures in
    let e1 = one_more old (r0 ∷ []) c.put.new.self.all c.put-2.new.self.all r1 e0 c.in_ok-put-2.ensures in
    let e2 = one_more old (r0 ∷ r1 ∷ []) c.put-2.new.self.all c.put-3.new.self.all r2 e1 c.in_ok-put-3.ensures in
    let e3 = one_more old (r0 ∷ r1 ∷ r2 ∷ []) c.put-3.new.self.all c.put-4.new.self.all r3 e2 c.in_ok-put-4.ensures in
    let e4 = one_more old (r0 ∷ r1 ∷ r2 ∷ r3 ∷ []) c.put-4.new.self.all c.put-5.new.self.all r4 e3 c.in_ok-put-5.ensures in
    let e5 = one_more old (r0 ∷ r1 ∷ r2 ∷ r3 ∷ r4 ∷ []) c.put-5.new.self.all c.put-6.new.self.all r5 e4 c.in_ok-put-6.ensures in
    let e6 = one_more old (r0 ∷ r1 ∷ r2 ∷ r3 ∷ r4 ∷ r5 ∷ []) c.put-6.new.self.all c.put-7.new.self.all r6 e5 c.in_ok-put-7.ensures in
    let e7 = one_more old (r0 ∷ r1 ∷ r2 ∷ r3 ∷ r4 ∷ r5 ∷ r6 ∷ []) c.put-7.new.self.all c.put-8.new.self.all r7 e6 c.in_ok-put-8.ensures in
    one_more old (r0 ∷ r1 ∷ r2 ∷ r3 ∷ r4 ∷ r5 ∷ r6 ∷ r7 ∷ []) c.put-8.new.self.all c.put-9.new.self.all r8 e7 c.in_ok-put-9.ensures
