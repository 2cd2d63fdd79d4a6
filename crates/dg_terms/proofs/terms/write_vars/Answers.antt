use Rattle.std.proofs.Common.{rules, arith, ◌≡◌, ◌∷◌, [], ◌++◌, map, refl}
use Rattle.dg_unify.specs.Store.{told}
use Rattle.dg_unify.proofs.StoreLemmas.{kept_on, kept_same}
use Rattle.dg_terms.proofs.TermLemmas.{all_kept, map_kept, vars_step, vars_end, overflows_later, charged_none, appended_none}
use Rattle.dg_terms.proofs.terms.write_vars.Goals as goal

pub returns-in-Err-clause-written : goal.returns-in-Err-clause-written
returns-in-Err-clause-written g c =
    overflows_later 0 0 0 (g.B.Bindings.meaning c.args.store.now) (g.B.Bindings.meaning c.vars.store) (omega arith) c.vars.invariant.kept c.vars.invariant.written.charged c.in-Err.e c.in-Err.ensures.written

pub vars-preserved : goal.vars-preserved
vars-preserved g c =
    let old = g.B.Bindings.meaning c.args.store.now in
    let now = g.B.Bindings.meaning c.vars.store in
    let new = g.B.Bindings.meaning c.write_var.new.store in
    let items : c.push.new.self.items ≡ c.vars.to.items ++ c.in-Ok.value ∷ [] = search rules in
    record {
      kept = kept_on old now new c.vars.invariant.kept c.in-Ok.ensures.kept;
      saved = λ ms h. c.in-Ok.ensures.saved ms (c.vars.invariant.saved ms h);
      written = vars_step (map (told old) c.args.env.now) (map (told now) c.args.env.now) c.args.vars.now c.vars.var-index _ old now new c.args.to.now.items c.vars.to.items c.push.new.self.items c.in-Ok.value
          refl c.vars-test.true c.vars.invariant.kept c.in-Ok.ensures.kept c.vars.invariant.written (map_kept old now c.args.env.now c.vars.invariant.kept c.requires) c.in-Ok.ensures.written items;
    }

pub returns-clause-written : goal.returns-clause-written
returns-clause-written g c =
    let old = g.B.Bindings.meaning c.args.store.now in
    vars_end (map (told old) c.args.env.now) c.args.vars.now c.vars.var-index old (g.B.Bindings.meaning c.vars.store) c.args.to.now.items c.vars.to.items c.vars-test.false c.vars.invariant.written

pub vars-init : goal.vars-init
vars-init g c = record {
  kept = kept_same (g.B.Bindings.meaning c.args.store.now);
  saved = λ ms h. h;
  written = record {
    charged = charged_none (g.B.Bindings.meaning c.args.store.now) (g.B.Bindings.meaning c.args.store.now) (g.met.B.Bindings.within c.args.store.now) refl;
    appended = appended_none (g.B.Bindings.meaning c.args.store.now) c.args.to.now.items;
  };
}

pub write_var-requires : goal.write_var-requires
write_var-requires g c = all_kept (g.B.Bindings.meaning c.args.store.now) (g.B.Bindings.meaning c.vars.store) c.args.env.now c.vars.invariant.kept c.requires

pub returns-in-Err-clause-kept : goal.returns-in-Err-clause-kept
returns-in-Err-clause-kept g c = kept_on (g.B.Bindings.meaning c.args.store.now) (g.B.Bindings.meaning c.vars.store) (g.B.Bindings.meaning c.write_var.new.store) c.vars.invariant.kept c.in-Err.ensures.kept

pub returns-in-Err-clause-saved : goal.returns-in-Err-clause-saved
returns-in-Err-clause-saved g c = λ ms h. c.in-Err.ensures.saved ms (c.vars.invariant.saved ms h)

pub returns-then-is_err-clause-kept : goal.returns-then-is_err-clause-kept
returns-then-is_err-clause-kept g c = kept_on (g.B.Bindings.meaning c.args.store.now) (g.B.Bindings.meaning c.vars.store) (g.B.Bindings.meaning c.write_var.new.store) c.vars.invariant.kept c.in-Ok.ensures.kept

pub returns-then-is_err-clause-saved : goal.returns-then-is_err-clause-saved
returns-then-is_err-clause-saved g c = λ ms h. c.in-Ok.ensures.saved ms (c.vars.invariant.saved ms h)

pub returns-then-is_err-clause-written : goal.returns-then-is_err-clause-written
returns-then-is_err-clause-written g c = tt

pub returns-clause-kept : goal.returns-clause-kept
returns-clause-kept g c = c.vars.invariant.kept

pub returns-clause-saved : goal.returns-clause-saved
returns-clause-saved g c = c.vars.invariant.saved
