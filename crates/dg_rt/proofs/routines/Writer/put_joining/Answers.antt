use Rattle.std.proofs.Common.{[], ◌∷◌}
use Rattle.dg_rt.specs.declared.joining.TheConstants.{DIGITS_ACTS, WORD_LETTERS_ACTS, BOX_LETTERS_ACTS, VALUE_LETTERS_ACTS, LIST_LETTERS_ACTS, JOIN_ACTS}
use Rattle.dg_rt.specs.RunTime.{routine_of}
use Rattle.dg_rt.proofs.Puts.{one_more}
use Rattle.dg_rt.proofs.routines.Writer.put_joining.Goals as goal

pub returns : goal.returns
returns c =
    let old = c.args.self.now.all in
    let r0 = routine_of 3 DIGITS_ACTS in
    let r1 = routine_of 6 WORD_LETTERS_ACTS in
    let r2 = routine_of 4 BOX_LETTERS_ACTS in
    let r3 = routine_of 3 VALUE_LETTERS_ACTS in
    let r4 = routine_of 3 LIST_LETTERS_ACTS in
    let r5 = routine_of 2 JOIN_ACTS in
    let e0 = c.in_ok-put.ensures in
    let e1 = one_more old (r0 ∷ []) c.put.new.self.all c.put-2.new.self.all r1 e0 c.in_ok-put-2.ensures in
    let e2 = one_more old (r0 ∷ r1 ∷ []) c.put-2.new.self.all c.put-3.new.self.all r2 e1 c.in_ok-put-3.ensures in
    let e3 = one_more old (r0 ∷ r1 ∷ r2 ∷ []) c.put-3.new.self.all c.put-4.new.self.all r3 e2 c.in_ok-put-4.ensures in
    let e4 = one_more old (r0 ∷ r1 ∷ r2 ∷ r3 ∷ []) c.put-4.new.self.all c.put-5.new.self.all r4 e3 c.in_ok-put-5.ensures in
    one_more old (r0 ∷ r1 ∷ r2 ∷ r3 ∷ r4 ∷ []) c.put-5.new.self.all c.put-6.new.self.all r5 e4 c.in_ok-put-6.ensures
