use Rattle.std.proofs.Common.{subst, take, drop, length, ◌-◌, sym}
use Rattle.dg_mid.specs.Step.{setting, entered}
use Rattle.dg_machine.specs.declared.now.Now.TheVariants.{Enters}
use Rattle.dg_machine.specs.Standing.{comes_to, Falls}
use Rattle.dg_machine.proofs.Leaving.{split_list, entering_is, rule_entered}
use Rattle.dg_machine.proofs.memory.Memory.enter_rule.Goals as goal

pub returns-in-Enter : goal.returns-in-Enter
returns-in-Enter c code g is_of l m call at k h =
    let all = c.args.ops.now in
    let rest = take (length all - 1) (drop 1 all) in
    let split = split_list all c.op-item.result c.in-len1-up.len_at_least c.op-item.is in
    subst (λ n. Falls code l c.args.self.now (Enters c.args.ops) c.enter-did.new.self n (entered (setting g code l) call m.ops m)) (sym c.behind.ensures)
    (rule_entered c.args.tables.now code g is_of l m c.args.self.now.call call c.in-Enter.vars c.in-Enter.head c.args.self.now c.enter-did.new.self (comes_to c.enter-did.result _) c.args.ops rest
    (entering_is all c.op-item.result rest c.in-Enter.vars c.in-Enter.head split c.in-Enter.is at.1) at.0 k h (c.enter-did.ensures code _))
