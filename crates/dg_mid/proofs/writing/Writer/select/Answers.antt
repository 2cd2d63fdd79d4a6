use Rattle.dg_mid.specs.declared.branches.Branching.{Branching}
use Rattle.dg_mid.proofs.Selecting.{opens_select}
use Rattle.dg_mid.proofs.writing.Writer.select.Goals as goal

pub returns : goal.returns
returns c =
    let s : Branching = record { site = c.args.site; mode = c.args.mode; left = c.args.lists; blocks = c.new.result; tail = c.in_ok-tail.tail; behind = c.in_ok-behind.behind } in
    opens_select c.args.self.now.blocks c.shared.new.self.blocks c.tail_block.new.self.blocks c.args.work c.in_ok-at_branch.field-0 s c.new.ensures.items c.in_ok-tail.ensures.blocks c.in_ok-behind.ensures.blocks c.in_ok-tail.ensures.shares
    c.in_ok-behind.ensures.lands (c.in_ok-at_branch.ensures.comes c.tail_block.new.self.blocks) (c.in_ok-at_branch.ensures.neat c.tail_block.new.self.blocks) c.in_ok-at_branch.ensures.light
