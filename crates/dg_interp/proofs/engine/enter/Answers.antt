use Rattle.std.proofs.Common.{rules, refl, sym, ap, subst, ◌∙◌, List, arith, ◌≤◌, length}
use Rattle.std.specs.List.{All}
use Rattle.dg_unify.specs.Store.{Holds}
use Rattle.dg_unify.specs.declared.bindings.Ref.{Ref}
use Rattle.dg_interp.specs.inside.Engine.{store_in}
use Rattle.dg_interp.specs.inside.Frames.{stretch}
use Rattle.dg_unify.proofs.StoreLemmas.{kept_on}
use Rattle.dg_interp.proofs.Entering.{args_hold, head_hold, rule_does, head_full, vars_hold, vars_more}
use Rattle.dg_interp.proofs.engine.enter.Goals as goal

pub returns-in-Err-clause-entered : goal.returns-in-Err-clause-entered
returns-in-Err-clause-entered c = λ program e.
    head_full program c.args.rule.now _ c.args.refs.now.items c.new_variables.new.to.items (store_in c.args.store.now) (store_in c.charge.new.self) (store_in c.new_variables.new.store) c.in-Err.e
    c.in_ok-charge.ensures.made c.charge.ensures.kept c.in_ok-new_variables.ensures.made c.new_variables.ensures.kept (rw c.as_slice.ensures at (c.in-Err.ensures.written program e))

pub unify_all-requires-clause-args : goal.unify_all-requires-clause-args
unify_all-requires-clause-args c =
    subst (λ (l : List Ref). All (Holds (store_in c.write_terms.new.store)) l) (sym (c.stretch.ensures ∙ ap (λ l. stretch l c.args.args) c.deref-2.ensures.value))
    (args_hold c.args.program.now c.args.rule.now c.args.refs.now.items c.new_variables.new.to.items _ _ c.write_terms.new.to.items c.args.args (store_in c.args.store.now) (store_in c.charge.new.self) (store_in c.new_variables.new.store) (store_in c.write_terms.new.store)
    c.requires.hold c.requires.args c.in_ok-charge.ensures.made c.charge.ensures.kept c.in_ok-new_variables.ensures.made c.new_variables.ensures.kept (search rules) (rw c.as_slice.ensures at (c.in_default.ensures.written c.args.program.now refl)) c.clear.ensures.items c.write_terms.ensures.kept)

pub unify_all-requires-clause-head : goal.unify_all-requires-clause-head
unify_all-requires-clause-head c =
    subst (λ (l : List Ref). All (Holds (store_in c.write_terms.new.store)) l) (sym c.as_slice-2.ensures.value)
    (head_hold c.args.program.now c.args.rule.now c.args.refs.now.items c.new_variables.new.to.items _ _ c.write_terms.new.to.items c.args.args (store_in c.args.store.now) (store_in c.charge.new.self) (store_in c.new_variables.new.store) (store_in c.write_terms.new.store)
    c.requires.hold c.requires.args c.in_ok-charge.ensures.made c.charge.ensures.kept c.in_ok-new_variables.ensures.made c.new_variables.ensures.kept (search rules) (rw c.as_slice.ensures at (c.in_default.ensures.written c.args.program.now refl)) c.clear.ensures.items c.write_terms.ensures.kept)

pub returns-clause-entered : goal.returns-clause-entered
returns-clause-entered c = λ program e.
    rule_does program c.args.rule.now c.args.refs.now.items c.new_variables.new.to.items _ _ c.write_terms.new.to.items c.args.args (store_in c.args.store.now) (store_in c.charge.new.self) (store_in c.new_variables.new.store) (store_in c.write_terms.new.store)
    c.requires.hold c.requires.args c.in_ok-charge.ensures.made c.charge.ensures.kept c.in_ok-new_variables.ensures.made c.new_variables.ensures.kept (search rules) (rw c.as_slice.ensures at (c.in_default.ensures.written program e)) c.clear.ensures.items c.write_terms.ensures.kept
    (store_in c.unify_all.new.store) c.unify_all.result c.unify_all.ensures.kept (rw (c.stretch.ensures ∙ ap (λ l. stretch l c.args.args) c.deref-2.ensures.value) at (rw c.as_slice-2.ensures.value at c.unify_all.ensures.unified))

pub offset_bounds-deref-from : goal.offset_bounds-deref-from
offset_bounds-deref-from c =
    let more : length c.args.refs.now.items ≤ length c.new_variables.new.to.items = vars_more c.args.rule.now.vars c.args.refs.now.items c.new_variables.new.to.items (store_in c.charge.new.self) (store_in c.new_variables.new.store) c.in_ok-new_variables.ensures.made in
    search rules

pub slice_bounds-write_terms-count : goal.slice_bounds-write_terms-count
slice_bounds-write_terms-count c =
    let more : length c.args.refs.now.items ≤ length c.new_variables.new.to.items = vars_more c.args.rule.now.vars c.args.refs.now.items c.new_variables.new.to.items (store_in c.charge.new.self) (store_in c.new_variables.new.store) c.in_ok-new_variables.ensures.made in
    omega (arith, ap length c.deref.ensures.value)

pub slice_bounds-write_terms-start : goal.slice_bounds-write_terms-start
slice_bounds-write_terms-start c =
    let more : length c.args.refs.now.items ≤ length c.new_variables.new.to.items = vars_more c.args.rule.now.vars c.args.refs.now.items c.new_variables.new.to.items (store_in c.charge.new.self) (store_in c.new_variables.new.store) c.in_ok-new_variables.ensures.made in
    search rules

pub write_terms-requires : goal.write_terms-requires
write_terms-requires c = record { env = vars_hold c.args.rule.now.vars c.args.refs.now.items c.new_variables.new.to.items _ (store_in c.charge.new.self) (store_in c.new_variables.new.store) c.in_ok-new_variables.ensures.made (search rules) }

pub stretch-requires : goal.stretch-requires
stretch-requires c =
    let more : length c.args.refs.now.items ≤ length c.new_variables.new.to.items = vars_more c.args.rule.now.vars c.args.refs.now.items c.new_variables.new.to.items (store_in c.charge.new.self) (store_in c.new_variables.new.store) c.in_ok-new_variables.ensures.made in
    omega (arith, ap length c.deref-2.ensures.value)

pub returns-in_err-new_variables-clause-kept : goal.returns-in_err-new_variables-clause-kept
returns-in_err-new_variables-clause-kept c = kept_on (store_in c.args.store.now) (store_in c.charge.new.self) (store_in c.new_variables.new.store) c.charge.ensures.kept c.new_variables.ensures.kept

pub returns-in_err-new_variables-clause-saved : goal.returns-in_err-new_variables-clause-saved
returns-in_err-new_variables-clause-saved c = λ ms h. c.new_variables.ensures.saved ms (c.charge.ensures.saved ms h)

pub returns-in-Err-clause-kept : goal.returns-in-Err-clause-kept
returns-in-Err-clause-kept c =
    kept_on (store_in c.args.store.now) (store_in c.charge.new.self) (store_in c.write_terms.new.store) c.charge.ensures.kept
    (kept_on (store_in c.charge.new.self) (store_in c.new_variables.new.store) (store_in c.write_terms.new.store) c.new_variables.ensures.kept c.write_terms.ensures.kept)

pub returns-in-Err-clause-saved : goal.returns-in-Err-clause-saved
returns-in-Err-clause-saved c = λ ms h. c.write_terms.ensures.saved ms (c.new_variables.ensures.saved ms (c.charge.ensures.saved ms h))

pub returns-clause-kept : goal.returns-clause-kept
returns-clause-kept c =
    kept_on (store_in c.args.store.now) (store_in c.charge.new.self) (store_in c.unify_all.new.store) c.charge.ensures.kept
    (kept_on (store_in c.charge.new.self) (store_in c.new_variables.new.store) (store_in c.unify_all.new.store) c.new_variables.ensures.kept
    (kept_on (store_in c.new_variables.new.store) (store_in c.write_terms.new.store) (store_in c.unify_all.new.store) c.write_terms.ensures.kept c.unify_all.ensures.kept))

pub returns-clause-saved : goal.returns-clause-saved
returns-clause-saved c = λ ms h. c.unify_all.ensures.saved ms (c.write_terms.ensures.saved ms (c.new_variables.ensures.saved ms (c.charge.ensures.saved ms h)))
