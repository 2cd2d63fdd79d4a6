use Rattle.std.proofs.Common.{sym, subst}
use Rattle.dg_meaning.specs.Values.{value_of}
use Rattle.dg_meaning.specs.inside.Unify.{unify}
use Rattle.dg_meaning.specs.Cells.{cells}
use Rattle.std.specs.Prelude.{◌∷◌, []}
use Rattle.dg_base.specs.declared.run.Ending.TheVariants.{TrailLimit}
use Rattle.dg_mid.specs.declared.code.Action.TheVariants as action
use Rattle.dg_mid.specs.State.{vars_of}
use Rattle.dg_mid.specs.Step.{setting, more}
use Rattle.dg_machine.specs.declared.now.Now.TheVariants.{Runs, Fails, Ended}
use Rattle.dg_machine.specs.Standing.{Stands}
use Rattle.dg_machine.proofs.Unifying.{agreed_stands, clash_stands, unmatched_stands, equal_is}
use Rattle.dg_machine.proofs.Compares.{act_full, act_led}
use Rattle.dg_machine.proofs.TableLemmas.{a_program, a_program_is}
use Rattle.dg_machine.proofs.memory.Memory.equal.Goals as goal

pub unify_args-requires : goal.unify_args-requires
unify_args-requires c =
    let some = c.requires in
    let x = c.in-Ok.ensures some.0 some.1 some.2 (a_program c.args.tables.now) (a_program_is c.args.tables.now) some.3 in
    (value_of (a_program c.args.tables.now) (vars_of some.2.frames) c.args.a.now, value_of (a_program c.args.tables.now) (vars_of some.2.frames) c.args.b.now, x.args)

pub returns-in-Err : goal.returns-in-Err
returns-in-Err c code g is_of l m o b at h = act_full code g l (action.Equal c.args.a.now c.args.b.now) m c.args.self.now c.put_both.new.self h (c.in-Err.ensures code l m g.program is_of h)

pub returns-in-Err-unify_args : goal.returns-in-Err-unify_args
returns-in-Err-unify_args c code g is_of l m o b at h =
    let n = cells g.program (c.args.a.now ∷ c.args.b.now ∷ []) in
    let v = value_of g.program (vars_of m.frames) c.args.a.now in
    let w = value_of g.program (vars_of m.frames) c.args.b.now in
    let x = c.in-Ok.ensures code l m g.program is_of h in
    let new = c.unify_args.new.self in
    act_led code g l (action.Equal c.args.a.now c.args.b.now) m c.put_both.new.self new (Ended TrailLimit) x.held
    (subst (Stands code l new (Ended TrailLimit)) (sym (equal_is g (setting g code l) c.args.a.now c.args.b.now (more n m)))
    (unmatched_stands code g l (unify m.state.subst v w) (more n m) new (c.in-Err-unify_args.ensures code l (more n m) v w x.held x.args)))

pub returns-in-Ok-false : goal.returns-in-Ok-false
returns-in-Ok-false c code g is_of l m o b at h =
    let n = cells g.program (c.args.a.now ∷ c.args.b.now ∷ []) in
    let v = value_of g.program (vars_of m.frames) c.args.a.now in
    let w = value_of g.program (vars_of m.frames) c.args.b.now in
    let x = c.in-Ok.ensures code l m g.program is_of h in
    let new = c.unify_args.new.self in
    act_led code g l (action.Equal c.args.a.now c.args.b.now) m c.put_both.new.self new Fails x.held
    (subst (Stands code l new Fails) (sym (equal_is g (setting g code l) c.args.a.now c.args.b.now (more n m)))
    (clash_stands code g l (unify m.state.subst v w) (more n m) new c.in-Ok-false.field-0 c.in-Ok-false.field-0-test (c.in-Ok-false.ensures code l (more n m) v w x.held x.args)))

pub returns-in-Ok-true : goal.returns-in-Ok-true
returns-in-Ok-true c code g is_of l m o b at h =
    let n = cells g.program (c.args.a.now ∷ c.args.b.now ∷ []) in
    let v = value_of g.program (vars_of m.frames) c.args.a.now in
    let w = value_of g.program (vars_of m.frames) c.args.b.now in
    let x = c.in-Ok.ensures code l m g.program is_of h in
    let new = c.unify_args.new.self in
    act_led code g l (action.Equal c.args.a.now c.args.b.now) m c.put_both.new.self new (Runs c.args.rest) x.held
    (subst (Stands code l new (Runs c.args.rest)) (sym (equal_is g (setting g code l) c.args.a.now c.args.b.now (more n m)))
    (agreed_stands code g l (unify m.state.subst v w) (more n m) new c.args.rest c.in-Ok-true.field-0 c.in-Ok-true.field-0-test at (c.in-Ok-true.ensures code l (more n m) v w x.held x.args)))
