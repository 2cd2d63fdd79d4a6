use Rattle.dg_mid.proofs.Rules.{body_stands, body_neat, body_light}
use Rattle.dg_mid.proofs.writing.Writer.body.Goals as goal

pub returns-clause-stands : goal.returns-clause-stands
returns-clause-stands c =
    body_stands c.args.self.now.blocks c.write.new.self.blocks c.finish.new.self.blocks c.args.closure c.in_ok-block.block c.in_ok-end.end.items c.in_ok-ops.ops.items c.in_ok-end.ensures c.in_ok-ops.ensures.first c.in_ok-block.ensures.lands

pub returns-clause-neat : goal.returns-clause-neat
returns-clause-neat c =
    body_neat c.args.self.now.blocks c.write.new.self.blocks c.finish.new.self.blocks c.args.closure c.in_ok-block.block c.in_ok-end.end.items c.in_ok-ops.ops.items c.in_ok-end.ensures c.in_ok-ops.ensures.first c.in_ok-block.ensures.lands

pub returns-clause-light : goal.returns-clause-light
returns-clause-light c =
    body_light c.args.self.now.blocks c.write.new.self.blocks c.finish.new.self.blocks c.args.closure c.in_ok-block.block c.in_ok-end.end.items c.in_ok-ops.ops.items c.in_ok-end.ensures c.in_ok-ops.ensures.first c.in_ok-block.ensures.lands
