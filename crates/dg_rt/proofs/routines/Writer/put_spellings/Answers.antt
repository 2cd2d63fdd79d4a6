use Rattle.std.proofs.Common.{[], ◌∷◌}
use Rattle.dg_rt.specs.declared.spelling.TheConstants.{CHARACTER_ACTS, SPELL_ACTS}
use Rattle.dg_rt.specs.RunTime.{routine_of}
use Rattle.dg_rt.proofs.Puts.{one_more}
use Rattle.dg_rt.proofs.routines.Writer.put_spellings.Goals as goal

pub returns : goal.returns
returns c =
    let old = c.args.self.now.all in
    let r0 = routine_of 3 CHARACTER_ACTS in
    let r1 = routine_of 3 SPELL_ACTS in
    one_more old (r0 ∷ []) c.put.new.self.all c.put-2.new.self.all r1 c.in_ok-put.ensures c.in_ok-put-2.ensures
