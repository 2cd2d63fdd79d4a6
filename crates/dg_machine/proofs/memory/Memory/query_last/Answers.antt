use Rattle.std.proofs.Common.{◌∷◌, map, refl}
use Rattle.dg_base.specs.Goals.{option_terms}
use Rattle.dg_meaning.specs.Values.{value_of}
use Rattle.dg_meaning.specs.Cells.{cells}
use Rattle.dg_meaning.specs.Substitutions.{walk}
use Rattle.dg_mid.specs.State.{vars_of}
use Rattle.dg_mid.specs.Step.{setting, more, queries_last, closure_at}
use Rattle.dg_machine.proofs.TableLemmas.{a_program, a_program_is}
use Rattle.dg_machine.proofs.Leads.{full_stands, charged_led}
use Rattle.dg_machine.proofs.memory.Memory.query_last.Goals as goal

pub query_last_first-now-requires-clause-some : goal.query_last_first-now-requires-clause-some
query_last_first-now-requires-clause-some c =
    let some = c.requires.some in
    let p = a_program c.args.tables.now in
    let x = c.in-Ok.ensures c.args.code.now some.0 some.1 p (a_program_is c.args.tables.now) some.2 in
    (some.0, more (cells p (c.args.a.now ∷ option_terms c.args.b.now)) some.1, x.held)

pub query_last_first-now-requires-clause-args : goal.query_last_first-now-requires-clause-args
query_last_first-now-requires-clause-args c =
    let some = c.requires.some in
    let p = a_program c.args.tables.now in
    let f = value_of p (vars_of some.1.frames) in
    let x = c.in-Ok.ensures c.args.code.now some.0 some.1 p (a_program_is c.args.tables.now) some.2 in
    (f c.args.a.now, map f (option_terms c.args.b.now), x.args)

pub returns-in-Err : goal.returns-in-Err
returns-in-Err c rest g is_of l m o b at h =
    let terms = c.args.a.now ∷ option_terms c.args.b.now in
    let n = cells g.program terms in
    let f = value_of g.program (vars_of m.frames) in
    full_stands c.args.code.now g l n m (queries_last (setting g c.args.code.now l) (closure_at c.args.code.now (walk m.state.subst (f c.args.a.now))) (map f (option_terms c.args.b.now)) c.args.many (more n m)) c.args.self.now c.put_query.new.self h (c.in-Err.ensures c.args.code.now l m g.program is_of h)

pub returns-in-Ok : goal.returns-in-Ok
returns-in-Ok c rest g is_of l m o b at h =
    let terms = c.args.a.now ∷ option_terms c.args.b.now in
    let n = cells g.program terms in
    let f = value_of g.program (vars_of m.frames) in
    let x = c.in-Ok.ensures c.args.code.now l m g.program is_of h in
    charged_led c.args.code.now g l n m (more n m) (queries_last (setting g c.args.code.now l) (closure_at c.args.code.now (walk m.state.subst (f c.args.a.now))) (map f (option_terms c.args.b.now)) c.args.many (more n m)) c.put_query.new.self c.query_last_first-now.new.self c.query_last_first-now.result x.held refl
    (c.query_last_first-now.ensures g l (more n m) (f c.args.a.now) (map f (option_terms c.args.b.now)) x.held x.args)
