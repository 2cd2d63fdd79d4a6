use Rattle.std.proofs.Common.{◌∙◌, ◌∷◌, [], refl, ap, arith, length}
use Rattle.std.proofs.Math.Seq.{take-length}
use Rattle.std.proofs.lemmas.List.{length-append}
use Rattle.dg_machine.proofs.TableLemmas.{vars_before}
use Rattle.dg_machine.proofs.copies.fill.Goals as goal

pub refs-init : goal.refs-init
refs-init c = record { before = take-length c.args.to.now.items; count = omega arith; capacity = refl }

pub refs-preserved : goal.refs-preserved
refs-preserved c = record {
  before = vars_before (length c.args.to.now.items) c.refs.to.items c.push_reserved.new.self.items (record { 0 = 0 }) (omega (arith, c.refs.invariant.count)) c.push_reserved.ensures.items ∙ c.refs.invariant.before;
  count = ap length c.push_reserved.ensures.items ∙ length-append c.refs.to.items (record { 0 = 0 } ∷ []) ∙ omega (arith, c.refs.invariant.count);
  capacity = c.push_reserved.ensures.capacity ∙ c.refs.invariant.capacity;
}
