use Rattle.std.proofs.Common.{rules, ◌≡◌, ◌∷◌, [], ◌++◌, map, refl}
use Rattle.dg_unify.specs.Store.{told}
use Rattle.dg_unify.proofs.StoreLemmas.{kept_on, kept_same}
use Rattle.dg_terms.proofs.TermLemmas.{all_kept, map_kept, terms_full, terms_step, terms_end, charged_none, appended_none}
use Rattle.dg_terms.proofs.terms.write_terms.Goals as goal

pub returns-in-Err-clause-written : goal.returns-in-Err-clause-written
returns-in-Err-clause-written g c = λ program e.
    let old = g.B.Bindings.meaning c.args.store.now in
    let now = g.B.Bindings.meaning c.terms.store in
    terms_full program _ c.args.terms.now c.terms.term-index c.term-item.result old now c.args.to.now.items c.terms.to.items c.term-item.is c.terms-test.true c.terms.invariant.kept (c.terms.invariant.written program e) c.in-Err.e (c.in-Err.ensures.written program e)

pub terms-preserved : goal.terms-preserved
terms-preserved g c =
    let old = g.B.Bindings.meaning c.args.store.now in
    let now = g.B.Bindings.meaning c.terms.store in
    let new = g.B.Bindings.meaning c.write_term.new.store in
    let items : c.push.new.self.items ≡ c.terms.to.items ++ c.in-Ok.value ∷ [] = search rules in
    record {
      kept = kept_on old now new c.terms.invariant.kept c.in-Ok.ensures.kept;
      saved = λ ms h. c.in-Ok.ensures.saved ms (c.terms.invariant.saved ms h);
      written = λ program e.
          terms_step program (map (told old) c.args.env.now) (map (told now) c.args.env.now) c.args.terms.now c.terms.term-index c.term-item.result old now new c.args.to.now.items c.terms.to.items c.push.new.self.items c.in-Ok.value
          c.term-item.is c.terms-test.true c.terms.invariant.kept c.in-Ok.ensures.kept (c.terms.invariant.written program e) (map_kept old now c.args.env.now c.terms.invariant.kept c.requires.env) (c.in-Ok.ensures.written program e) items;
    }

pub returns-clause-written : goal.returns-clause-written
returns-clause-written g c = λ program e.
    let old = g.B.Bindings.meaning c.args.store.now in
    terms_end program (map (told old) c.args.env.now) c.args.terms.now c.terms.term-index old (g.B.Bindings.meaning c.terms.store) c.args.to.now.items c.terms.to.items c.terms-test.false (c.terms.invariant.written program e)

pub terms-init : goal.terms-init
terms-init g c = record {
  kept = kept_same (g.B.Bindings.meaning c.args.store.now);
  saved = λ ms h. h;
  written = λ program e. record {
    charged = charged_none (g.B.Bindings.meaning c.args.store.now) (g.B.Bindings.meaning c.args.store.now) (g.met.B.Bindings.within c.args.store.now) refl;
    appended = appended_none (g.B.Bindings.meaning c.args.store.now) c.args.to.now.items;
  };
}

pub write_term-requires : goal.write_term-requires
write_term-requires g c = record { env = all_kept (g.B.Bindings.meaning c.args.store.now) (g.B.Bindings.meaning c.terms.store) c.args.env.now c.terms.invariant.kept c.requires.env }

pub returns-in-Err-clause-kept : goal.returns-in-Err-clause-kept
returns-in-Err-clause-kept g c = kept_on (g.B.Bindings.meaning c.args.store.now) (g.B.Bindings.meaning c.terms.store) (g.B.Bindings.meaning c.write_term.new.store) c.terms.invariant.kept c.in-Err.ensures.kept

pub returns-in-Err-clause-saved : goal.returns-in-Err-clause-saved
returns-in-Err-clause-saved g c = λ ms h. c.in-Err.ensures.saved ms (c.terms.invariant.saved ms h)

pub returns-then-is_err-clause-kept : goal.returns-then-is_err-clause-kept
returns-then-is_err-clause-kept g c = kept_on (g.B.Bindings.meaning c.args.store.now) (g.B.Bindings.meaning c.terms.store) (g.B.Bindings.meaning c.write_term.new.store) c.terms.invariant.kept c.in-Ok.ensures.kept

pub returns-then-is_err-clause-saved : goal.returns-then-is_err-clause-saved
returns-then-is_err-clause-saved g c = λ ms h. c.in-Ok.ensures.saved ms (c.terms.invariant.saved ms h)

pub returns-then-is_err-clause-written : goal.returns-then-is_err-clause-written
returns-then-is_err-clause-written g c = λ program e. tt

pub returns-clause-kept : goal.returns-clause-kept
returns-clause-kept g c = c.terms.invariant.kept

pub returns-clause-saved : goal.returns-clause-saved
returns-clause-saved g c = c.terms.invariant.saved
