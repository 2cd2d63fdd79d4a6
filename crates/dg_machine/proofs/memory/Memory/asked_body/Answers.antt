use Rattle.dg_machine.proofs.Bodies.{asked_some, asked_gone, asked_none}
use Rattle.dg_machine.proofs.memory.Memory.asked_body.Goals as goal

pub returns-in-None : goal.returns-in-None
returns-in-None c l m v vs h refs = asked_none c.args.code.now _ (c.in-None.ensures c.args.code.now l m v vs h refs)

pub returns-in-None-body_of : goal.returns-in-None-body_of
returns-in-None-body_of c l m v vs h refs =
    let x = c.in-Some.ensures c.args.code.now l m v vs h refs in
    asked_gone c.args.code.now _ c.in-Some.place x.0 x.1 c.in-None-body_of.ensures

pub returns-in-Some-body_of : goal.returns-in-Some-body_of
returns-in-Some-body_of c l m v vs h refs =
    let x = c.in-Some.ensures c.args.code.now l m v vs h refs in
    (c.in-Some.place, x.0, asked_some c.args.code.now _ c.in-Some.place x.0 c.in-Some-body_of.body x.1 c.in-Some-body_of.ensures, x.2)
