use Rattle.std.proofs.Common.{ap, take, drop, length, ◌-◌, get_or}
use Rattle.dg_mid.specs.declared.code.RuleCode.{RuleCode}
use Rattle.dg_mid.specs.declared.code.Key.TheVariants.{Any}
use Rattle.dg_machine.proofs.Leaving.{split_first, further_in, further_begins}
use Rattle.dg_machine.proofs.memory.Memory.call_first.Goals as goal

pub returns-in-len1-up : goal.returns-in-len1-up
returns-in-len1-up c g l m call rules h at =
    let code = c.args.code.now in
    let k = c.args.call in
    let r = c.args.self.now in
    let xs = c.args.rules.now in
    let none : RuleCode = record { key = Any; block = 0 } in
    let rule = get_or xs 0 none in
    let others = take (length xs - 1) (drop 1 xs) in
    let split = split_first xs none c.in-len1-up.len_at_least in
    let n = length c.pass-further.result.now in
    let further = further_in code l m r c.args.first call k c.args.pred (length xs) n rules xs others rule h c.requires.first at c.requires.rules split (ap length c.pass-further.ensures) in
    further_begins code g l m r c.enter_with.new.self call k c.args.pred (length xs) n rules rule c.enter_with.result h at.call further c.enter_with.ensures
