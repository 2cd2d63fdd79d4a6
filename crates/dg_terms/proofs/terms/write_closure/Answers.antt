use Rattle.std.proofs.Common.{rules, List, ap, ◌∙◌, ◌-◌, map, length}
use Rattle.std.specs.Prelude.{slice_get, take, drop}
use Rattle.dg_base.specs.declared.program.CoreProgram.{CoreProgram}
use Rattle.dg_unify.specs.Store.{told}
use Rattle.dg_unify.specs.declared.bindings.Ref.{Ref}
use Rattle.dg_terms.specs.Terms.{captured_in}
use Rattle.dg_terms.proofs.TermLemmas.{closure_written, closure_full}
use Rattle.dg_terms.proofs.terms.write_closure.Goals as goal

pub returns-in-Err-closure-clause-written : goal.returns-in-Err-closure-clause-written
returns-in-Err-closure-clause-written g c = λ program e.
    let old = g.B.Bindings.meaning c.args.store.now in
    let now = g.B.Bindings.meaning c.write_vars.new.store in
    closure_full program (map (told old) c.args.env.now) c.args.place c.captured-vars.result.now old now (g.B.Bindings.meaning c.closure.new.self) c.args.stack.now.items c.write_vars.new.to.items _ c.len-height.result
    (c.captured-vars.ensures ∙ ap (λ (p : CoreProgram). captured_in (slice_get p.closures c.args.place)) e) c.in-Ok.ensures.kept c.in-Ok.ensures.written (search rules) (ap (λ (l : List Ref). take (length l - c.len-height.result) (drop c.len-height.result l)) c.deref.ensures.value) c.in-Err-closure.e c.in-Err-closure.ensures.made

pub returns-in-Ok-closure-clause-written : goal.returns-in-Ok-closure-clause-written
returns-in-Ok-closure-clause-written g c = λ program e.
    let old = g.B.Bindings.meaning c.args.store.now in
    let now = g.B.Bindings.meaning c.write_vars.new.store in
    closure_written program (map (told old) c.args.env.now) c.args.place c.captured-vars.result.now old now (g.B.Bindings.meaning c.closure.new.self) c.args.stack.now.items c.write_vars.new.to.items _ c.len-height.result c.in-Ok-closure.closure
    (c.captured-vars.ensures ∙ ap (λ (p : CoreProgram). captured_in (slice_get p.closures c.args.place)) e) c.in-Ok.ensures.kept c.in-Ok.ensures.written (search rules) (ap (λ (l : List Ref). take (length l - c.len-height.result) (drop c.len-height.result l)) c.deref.ensures.value) c.in-Ok-closure.ensures.made
