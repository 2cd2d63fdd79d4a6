use Rattle.std.proofs.Common.{rules, ◌≡◌, ◌∷◌, [], ◌++◌, ap, arith, length, map, refl}
use Rattle.dg_base.specs.Terms.{nodes}
use Rattle.dg_base.specs.declared.program.Term.{Term}
use Rattle.dg_unify.specs.Store.{told}
use Rattle.dg_unify.proofs.StoreLemmas.{kept_on, kept_same}
use Rattle.dg_terms.proofs.TermLemmas.{all_kept, map_kept, pair_nodes, heads_full, heads_step, charged_none, appended_none}
use Rattle.dg_terms.proofs.terms.write_heads.Goals as goal

pub returns-in-Err-clause-written : goal.returns-in-Err-clause-written
returns-in-Err-clause-written g c = λ program e.
    let old = g.B.Bindings.meaning c.args.store.now in
    let now = g.B.Bindings.meaning c.heads.store in
    heads_full program (map (told old) c.args.env.now) c.args.term.now c.heads.term.now c.in-Pair.head c.in-Pair.tail c.get-head.result.now old now c.args.to.now.items c.heads.to.items c.heads.invariant.kept (c.heads.invariant.written program e) c.in-Pair.is c.get-head.ensures c.in-Err.e (c.in-Err.ensures.written program e)

pub heads-smaller : goal.heads-smaller
heads-smaller g c =
    omega (arith, pair_nodes c.heads.term.now c.in-Pair.head c.in-Pair.tail c.in-Pair.is, ap (λ (x : Term). length (nodes x)) c.get-term.ensures)

pub heads-preserved : goal.heads-preserved
heads-preserved g c =
    let old = g.B.Bindings.meaning c.args.store.now in
    let now = g.B.Bindings.meaning c.heads.store in
    let new = g.B.Bindings.meaning c.write_leaf.new.store in
    let items : c.push.new.self.items ≡ c.heads.to.items ++ c.in-Ok.value ∷ [] = search rules in
    record {
      kept = kept_on old now new c.heads.invariant.kept c.in-Ok.ensures.kept;
      saved = λ ms h. c.in-Ok.ensures.saved ms (c.heads.invariant.saved ms h);
      written = λ program e.
          heads_step program (map (told old) c.args.env.now) (map (told now) c.args.env.now) c.args.term.now c.heads.term.now c.in-Pair.head c.in-Pair.tail c.get-head.result.now c.get-term.result.now old now new c.args.to.now.items c.heads.to.items c.push.new.self.items c.in-Ok.value
          c.heads.invariant.kept c.in-Ok.ensures.kept (c.heads.invariant.written program e) c.in-Pair.is c.get-head.ensures c.get-term.ensures (map_kept old now c.args.env.now c.heads.invariant.kept c.requires.env) (c.in-Ok.ensures.written program e) items;
      no_more = omega (arith, pair_nodes c.heads.term.now c.in-Pair.head c.in-Pair.tail c.in-Pair.is, ap (λ (x : Term). length (nodes x)) c.get-term.ensures, c.heads.invariant.no_more);
    }

pub heads-init : goal.heads-init
heads-init g c = record {
  kept = kept_same (g.B.Bindings.meaning c.args.store.now);
  saved = λ ms h. h;
  written = λ program e. record {
    count = 0;
    heads = [];
    written = record {
      charged = charged_none (g.B.Bindings.meaning c.args.store.now) (g.B.Bindings.meaning c.args.store.now) (g.met.B.Bindings.within c.args.store.now) refl;
      appended = appended_none (g.B.Bindings.meaning c.args.store.now) c.args.to.now.items;
    };
    value = refl;
    cells_are = omega arith;
  };
  no_more = omega arith;
}

pub write_leaf-requires-clause-env : goal.write_leaf-requires-clause-env
write_leaf-requires-clause-env g c = all_kept (g.B.Bindings.meaning c.args.store.now) (g.B.Bindings.meaning c.heads.store) c.args.env.now c.heads.invariant.kept c.requires.env

pub returns-in-Err-clause-kept : goal.returns-in-Err-clause-kept
returns-in-Err-clause-kept g c = kept_on (g.B.Bindings.meaning c.args.store.now) (g.B.Bindings.meaning c.heads.store) (g.B.Bindings.meaning c.write_leaf.new.store) c.heads.invariant.kept c.in-Err.ensures.kept

pub returns-in-Err-clause-saved : goal.returns-in-Err-clause-saved
returns-in-Err-clause-saved g c = λ ms h. c.in-Err.ensures.saved ms (c.heads.invariant.saved ms h)

pub returns-then-is_err-clause-kept : goal.returns-then-is_err-clause-kept
returns-then-is_err-clause-kept g c = kept_on (g.B.Bindings.meaning c.args.store.now) (g.B.Bindings.meaning c.heads.store) (g.B.Bindings.meaning c.write_leaf.new.store) c.heads.invariant.kept c.in-Ok.ensures.kept

pub returns-then-is_err-clause-saved : goal.returns-then-is_err-clause-saved
returns-then-is_err-clause-saved g c = λ ms h. c.in-Ok.ensures.saved ms (c.heads.invariant.saved ms h)

pub returns-then-is_err-clause-written : goal.returns-then-is_err-clause-written
returns-then-is_err-clause-written g c = λ program e. tt
