use Rattle.std.proofs.Common.{arith, true}
use Rattle.dg_unify.specs.Linked.{log_of, vars_of}
use Rattle.dg_unify.specs.Listed.{fields_of}
use Rattle.dg_unify.proofs.Stores.{back_at, back_is, undone_sound, undone_back, undone_stand}
use Rattle.dg_unify.proofs.FenceLemmas.{fence_undone}
use Rattle.dg_unify.proofs.list.ListBindingsBindings.undo.Goals as goal

pub returns-clause-saved : goal.returns-clause-saved
returns-clause-saved c = λ s ms h.
    let f = fields_of c.args.self.now in
    let f' = back_at f c.args.to c.truncate.new.self.items (log_of c.undo.new.self) (vars_of c.undo.new.self) in
    undone_stand true f f' c.args.to s ms (back_is f c.args.to c.truncate.new.self.items (log_of c.undo.new.self) (vars_of c.undo.new.self) c.truncate.ensures.items c.undo.ensures.log c.undo.ensures.vars) h

pub invariant_of-self : goal.invariant_of-self
invariant_of-self c =
    let f = fields_of c.args.self.now in
    let f' = back_at f c.args.to c.truncate.new.self.items (log_of c.undo.new.self) (vars_of c.undo.new.self) in
    let e = back_is f c.args.to c.truncate.new.self.items (log_of c.undo.new.self) (vars_of c.undo.new.self) c.truncate.ensures.items c.undo.ensures.log c.undo.ensures.vars in
    let sound = undone_sound true f f' c.args.to c.requires.0 c.requires.1 e c.requires.2 in
    record { sound = sound; spacious = omega (arith, c.truncate.ensures.len, c.args.self.now.spacious); fenced = fence_undone f f' c.args.to c.requires.0 c.requires.1 e c.requires.2 }

pub returns-clause-back : goal.returns-clause-back
returns-clause-back c = λ s ms h.
    let f = fields_of c.args.self.now in
    let f' = back_at f c.args.to c.truncate.new.self.items (log_of c.undo.new.self) (vars_of c.undo.new.self) in
    undone_back true f f' c.args.to s ms (back_is f c.args.to c.truncate.new.self.items (log_of c.undo.new.self) (vars_of c.undo.new.self) c.truncate.ensures.items c.undo.ensures.log c.undo.ensures.vars) h
