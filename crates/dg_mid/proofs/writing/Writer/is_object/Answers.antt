use Rattle.std.proofs.Common.{List, [], ◌∷◌, ◌++◌, ◌≡◌, None, refl, ap, ◌∙◌}
use Rattle.dg_base.specs.declared.program.Goal.TheVariants as goals
use Rattle.dg_base.specs.declared.program.Term.{Term}
use Rattle.dg_mid.specs.declared.code.Op.TheVariants as op
use Rattle.dg_meaning.proofs.OneRun.{begins_on}
use Rattle.dg_mid.specs.Codes.{objects}
use Rattle.dg_mid.proofs.Opening.{puts_moves, puts_find}
use Rattle.dg_mid.proofs.Weights.{weight_is_object}
use Rattle.dg_mid.proofs.writing.Writer.is_object.Goals as goal

pub returns : goal.returns
returns c =
    let alone : c.push.new.self ≡ c.args.term ∷ [] = c.in_ok-push.ensures.ok ∙ ap (λ (l : List Term). l ++ c.args.term ∷ []) c.new-terms.ensures in
    puts_moves c.args.self.now.blocks c.found_block.new.self.blocks c.args.work (record { ops = c.in_ok-ops-2.ops; goals = c.args.work.goals; levels = c.args.work.levels }) (goals.IsObject c.args.term c.args.many) refl refl
    (begins_on c.args.self.now.blocks c.finish.new.self.blocks c.found_block.new.self.blocks c.in_ok-behind.ensures.blocks c.in_ok-found.ensures.blocks)
    (puts_find c.args.self.now.blocks c.finish.new.self.blocks c.found_block.new.self.blocks c.args.work.ops.items c.in_ok-ops.ops.items c.in_ok-ops-2.ops.items None (c.args.term ∷ [])
    (goals.IsObject c.args.term c.args.many) c.in_ok-behind.behind c.in_ok-found.found c.args.many (λ code xs rest end s o. objects c.args.term c.args.many c.in_ok-found.found xs rest end s o)
    (λ w. weight_is_object w c.args.term c.args.many)
    c.in_ok-behind.ensures.lands c.in_ok-found.ensures c.in_ok-ops.ensures (c.in_ok-ops-2.ensures ∙ ap (λ (l : List Term). c.in_ok-ops.ops.items ++ op.Find None l c.args.many c.in_ok-found.found ∷ []) alone))
