use Rattle.std.proofs.Common.{rules, ◌≡◌, ◌+◌, ◌≤◌, ◌∷◌, [], ◌++◌, arith}
use Rattle.dg_interp.proofs.BodyLemmas.{next_part, parts_counted, captured_on, captured_all}
use Rattle.dg_terms.proofs.TermLemmas.{appended_none}
use Rattle.dg_interp.proofs.bodies.put_captured.Goals as goal

pub values-preserved : goal.values-preserved
values-preserved g c = λ place parts is.
    let items : c.push.new.self.items ≡ c.values.to.items ++ c.in-Some.value ∷ [] = search rules in
    captured_on (g.B.Bindings.meaning c.args.store.now) c.values.at parts c.args.to.now.items c.values.to.items c.push.new.self.items c.in-Some.value (c.in-Some.ensures place parts is) (c.values.invariant place parts is) items

pub values-init : goal.values-init
values-init g c = λ place parts is. appended_none (g.B.Bindings.meaning c.args.store.now) c.args.to.now.items

pub returns-clause-appended : goal.returns-clause-appended
returns-clause-appended g c = λ place parts is.
    captured_all (g.B.Bindings.meaning c.args.store.now) c.values.at parts c.args.to.now.items c.values.to.items (c.in_default.ensures place parts is) (c.values.invariant place parts is)

pub overflow_add-at : goal.overflow_add-at
overflow_add-at g c =
    let parts = c.requires.1 in
    let next = next_part c.values.at parts (c.in-Some.ensures c.requires.0 parts c.requires.2).0 in
    let few : c.values.at + 1 ≤ 65535 = omega (arith, next.below, parts_counted parts, c.requires.2.few) in
    search rules
