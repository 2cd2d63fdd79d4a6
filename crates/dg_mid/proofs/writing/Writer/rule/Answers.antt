use Rattle.std.proofs.Common.{◌++◌, ◌∷◌, [], ◌∙◌, ap}
use Rattle.dg_mid.specs.declared.code.Op.TheVariants as op
use Rattle.dg_mid.specs.Code.{first_label}
use Rattle.dg_mid.proofs.Rules.{rule_stands, rule_neat, rule_light}
use Rattle.dg_mid.proofs.writing.Writer.rule.Goals as goal

pub returns-clause-stands : goal.returns-clause-stands
returns-clause-stands c =
    rule_stands c.args.self.now.blocks c.write.new.self.blocks c.block.new.self.blocks c.args.rule (record { key = c.key_of-key.result; block = c.in_ok-block.block }) c.in_ok-end.end.items c.in_ok-ops.ops.items c.in_ok-ops-2.ops.items c.in_ok-end.ensures c.in_ok-ops.ensures.first (c.in_ok-ops-2.ensures ∙ ap (λ h. c.in_ok-ops.ops.items ++ op.Enter c.args.rule.vars h ∷ []) c.new.ensures)
    c.in_ok-block.ensures.made c.in_ok-block.ensures.number (c.key_of-key.ensures ∙ ap first_label c.as_slice.ensures)

pub returns-clause-neat : goal.returns-clause-neat
returns-clause-neat c = rule_neat c.args.self.now.blocks c.write.new.self.blocks c.block.new.self.blocks c.args.rule c.in_ok-end.end.items c.in_ok-ops.ops.items c.in_ok-ops-2.ops.items c.in_ok-end.ensures c.in_ok-ops.ensures.first (c.in_ok-ops-2.ensures ∙ ap (λ h. c.in_ok-ops.ops.items ++ op.Enter c.args.rule.vars h ∷ []) c.new.ensures) c.in_ok-block.ensures.made

pub returns-clause-light : goal.returns-clause-light
returns-clause-light c = rule_light c.args.self.now.blocks c.write.new.self.blocks c.block.new.self.blocks c.args.rule c.in_ok-end.end.items c.in_ok-ops.ops.items c.in_ok-ops-2.ops.items c.in_ok-end.ensures c.in_ok-ops.ensures.first (c.in_ok-ops-2.ensures ∙ ap (λ h. c.in_ok-ops.ops.items ++ op.Enter c.args.rule.vars h ∷ []) c.new.ensures) c.in_ok-block.ensures.made
