use Rattle.std.proofs.Common.{false, ap, reverse}
use Rattle.dg_unify.specs.Slots.{store_of}
use Rattle.dg_arena.specs.Held.{fields_of}
use Rattle.dg_unify.proofs.Stores.{bind_links, bind_var, bind_is_var, bind_made}
use Rattle.dg_arena.proofs.arena.ArenaBindings.bind.Goals as goal

pub link-requires : goal.link-requires
link-requires c = bind_links false (fields_of c.args.self.now) c.args.var c.args.to c.end_of-end.result c.args.self.now.sound c.requires c.end_of-end.ensures c.index.result.now c.index.ensures c.in-Var.number c.in-Var.is

pub returns-in-Var-clause-made : goal.returns-in-Var-clause-made
returns-in-Var-clause-made c = λ x hx.
    bind_made false (fields_of c.args.self.now) (store_of false (fields_of c.link.new.self)) c.in-Var.number c.args.to c.end_of-end.result c.end_of-end.ensures x (bind_var false (fields_of c.args.self.now) c.args.var x hx c.index.result.now c.index.ensures c.in-Var.number c.in-Var.is) c.link.result c.link.ensures.made

pub returns-in_default : goal.returns-in_default
returns-in_default c = absurd (bind_is_var false (fields_of c.args.self.now) c.args.var c.args.to c.requires c.index.result.now c.index.ensures c.in_default.not-Var)

pub returns-in-Var-clause-waits : goal.returns-in-Var-clause-waits
returns-in-Var-clause-waits c = ap (λ v. reverse v.items) c.link.ensures.waits
