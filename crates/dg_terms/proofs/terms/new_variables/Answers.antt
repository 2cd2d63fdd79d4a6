use Rattle.std.proofs.Common.{rules, ◌≡◌, ◌∷◌, [], ◌++◌, refl, arith, subst}
use Rattle.dg_unify.proofs.StoreLemmas.{kept_on, kept_same}
use Rattle.dg_terms.specs.Terms.{MadeVars}
use Rattle.dg_terms.proofs.TermLemmas.{vars_on, vars_none, vars_full}
use Rattle.dg_terms.proofs.terms.new_variables.Goals as goal

pub variables-preserved : goal.variables-preserved
variables-preserved g c =
    let old = g.B.Bindings.meaning c.args.store.now in
    let now = g.B.Bindings.meaning c.variables.store in
    let new = g.B.Bindings.meaning c.fresh.new.self in
    let items : c.push.new.self.items ≡ c.variables.to.items ++ c.in-Ok.var ∷ [] = search rules in
    record {
      kept = kept_on old now new c.variables.invariant.kept c.in-Ok.ensures.kept;
      saved = λ ms h. c.in-Ok.ensures.saved ms (c.variables.invariant.saved ms h);
      made = vars_on c.variables.counter _ old now new c.args.to.now.items c.variables.to.items c.push.new.self.items c.in-Ok.var refl c.variables.invariant.kept c.in-Ok.ensures.kept c.variables.invariant.made c.in-Ok.ensures.made items;
      within = omega arith;
    }

pub variables-init : goal.variables-init
variables-init g c = record {
  kept = kept_same (g.B.Bindings.meaning c.args.store.now);
  saved = λ ms h. h;
  made = vars_none (g.B.Bindings.meaning c.args.store.now) c.args.to.now.items (g.met.B.Bindings.within c.args.store.now);
  within = omega arith;
}

pub returns-in-Err-clause-kept : goal.returns-in-Err-clause-kept
returns-in-Err-clause-kept g c = kept_on (g.B.Bindings.meaning c.args.store.now) (g.B.Bindings.meaning c.variables.store) (g.B.Bindings.meaning c.fresh.new.self) c.variables.invariant.kept c.in-Err.ensures.kept

pub returns-in-Err-clause-saved : goal.returns-in-Err-clause-saved
returns-in-Err-clause-saved g c = λ ms h. c.in-Err.ensures.saved ms (c.variables.invariant.saved ms h)

pub returns-in-Err-clause-made : goal.returns-in-Err-clause-made
returns-in-Err-clause-made g c =
    vars_full c.variables.counter c.args.count (g.B.Bindings.meaning c.args.store.now) (g.B.Bindings.meaning c.variables.store) (g.B.Bindings.meaning c.fresh.new.self) c.args.to.now.items c.variables.to.items c.in-Err.e (omega arith) c.variables.invariant.kept c.variables.invariant.made c.in-Err.ensures.made

pub returns-then-is_err-clause-kept : goal.returns-then-is_err-clause-kept
returns-then-is_err-clause-kept g c = kept_on (g.B.Bindings.meaning c.args.store.now) (g.B.Bindings.meaning c.variables.store) (g.B.Bindings.meaning c.fresh.new.self) c.variables.invariant.kept c.in-Ok.ensures.kept

pub returns-then-is_err-clause-saved : goal.returns-then-is_err-clause-saved
returns-then-is_err-clause-saved g c = λ ms h. c.in-Ok.ensures.saved ms (c.variables.invariant.saved ms h)

pub returns-then-is_err-clause-made : goal.returns-then-is_err-clause-made
returns-then-is_err-clause-made g c = tt

pub returns-clause-kept : goal.returns-clause-kept
returns-clause-kept g c = c.variables.invariant.kept

pub returns-clause-saved : goal.returns-clause-saved
returns-clause-saved g c = c.variables.invariant.saved

pub returns-clause-made : goal.returns-clause-made
returns-clause-made g c =
    let e : c.variables.counter ≡ c.args.count = omega arith in
    subst (λ n. MadeVars n (g.B.Bindings.meaning c.args.store.now) (g.B.Bindings.meaning c.variables.store) c.args.to.now.items c.variables.to.items) e c.variables.invariant.made
