use Rattle.dg_mid.specs.declared.branches.Branching.{Branching}
use Rattle.dg_mid.proofs.Selecting.{closes_branch}
use Rattle.dg_mid.proofs.writing.Writer.next_branch.Goals as goal

pub returns : goal.returns
returns c none =
    let t : Branching = record c.args.select { blocks = c.push.new.self } in
    closes_branch c.args.self.now.blocks c.finish.new.self.blocks c.args.work c.in_ok-at_branch.field-0 c.args.select t c.args.others c.in_ok-b.b none c.in_ok-b.ensures.blocks c.in_ok-b.ensures.lands c.in_ok-push.ensures.items
    (c.in_ok-at_branch.ensures.comes c.finish.new.self.blocks) (c.in_ok-at_branch.ensures.neat c.finish.new.self.blocks) c.in_ok-at_branch.ensures.light
