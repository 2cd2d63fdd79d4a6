use Rattle.std.proofs.Common.{arith, rules, ◌≡◌, ◌≤◌, ◌∷◌, [], ◌++◌, ap, ◌∙◌, length, append_assoc, ◌+◌, ◌*◌, ◌-◌}
use Rattle.dg_unify.specs.Store.{told}
use Rattle.dg_unify.proofs.StoreLemmas.{kept_on, kept_holds}
use Rattle.dg_terms.proofs.TermLemmas.{popped_holds, pairs_on, pairs_left, pairs_full, pairs_end, taken_end}
use Rattle.dg_terms.proofs.terms.write_pairs.Goals as goal

pub pair-requires-clause-head_in : goal.pair-requires-clause-head_in
pair-requires-clause-head_in g c =
    let old = g.B.Bindings.meaning c.args.store.now in
    let now = g.B.Bindings.meaning c.heads.store in
    let items : c.heads.from.items ≡ c.pop.new.self.items ++ c.in-Some.head ∷ [] = search rules in
    let le : c.args.height ≤ length c.pop.new.self.items = search rules in
    kept_holds old now c.in-Some.head c.heads.invariant.kept (popped_holds old c.args.height c.heads.from.items c.pop.new.self.items c.in-Some.head items le c.heads.invariant.hold).1

pub heads-preserved : goal.heads-preserved
heads-preserved g c =
    let old = g.B.Bindings.meaning c.args.store.now in
    let now = g.B.Bindings.meaning c.heads.store in
    let new = g.B.Bindings.meaning c.pair.new.self in
    let items : c.heads.from.items ≡ c.pop.new.self.items ++ c.in-Some.head ∷ [] = search rules in
    let le : c.args.height ≤ length c.pop.new.self.items = search rules in
    let holds = popped_holds old c.args.height c.heads.from.items c.pop.new.self.items c.in-Some.head items le c.heads.invariant.hold in
    record {
      kept = kept_on old now new c.heads.invariant.kept c.in-Ok.ensures.kept;
      saved = λ ms h. c.in-Ok.ensures.saved ms (c.heads.invariant.saved ms h);
      rest = c.in-Some.head ∷ c.heads.invariant.rest;
      is = c.heads.invariant.is ∙ ap (λ l. l ++ c.heads.invariant.rest) items ∙ append_assoc c.pop.new.self.items (c.in-Some.head ∷ []) c.heads.invariant.rest;
      height = le;
      hold = holds.0;
      made = pairs_on old now new c.heads.invariant.rest c.in-Some.head c.heads.list c.in-Ok.longer (told old c.args.tail) c.heads.invariant.kept holds.1 c.heads.invariant.made c.in-Ok.ensures.made;
    }

pub returns-in-Err-clause-written : goal.returns-in-Err-clause-written
returns-in-Err-clause-written g c =
    let old = g.B.Bindings.meaning c.args.store.now in
    let now = g.B.Bindings.meaning c.heads.store in
    let items : c.heads.from.items ≡ c.pop.new.self.items ++ c.in-Some.head ∷ [] = search rules in
    let le : c.args.height ≤ length c.pop.new.self.items = search rules in
    let more : 3 * length c.heads.invariant.rest + 3 ≤ 3 * (length c.args.from.now.items - c.args.height) = pairs_left c.args.from.now.items c.heads.from.items c.pop.new.self.items c.heads.invariant.rest c.in-Some.head c.args.height c.heads.invariant.is items le in
    pairs_full old now (g.B.Bindings.meaning c.pair.new.self) (3 * length c.heads.invariant.rest) (3 * (length c.args.from.now.items - c.args.height)) c.heads.list _ more c.heads.invariant.kept c.heads.invariant.made c.in-Err.e c.in-Err.ensures.made

pub returns-clause-written : goal.returns-clause-written
returns-clause-written g c =
    let e : c.args.height ≡ length c.heads.from.items = omega arith in
    pairs_end (g.B.Bindings.meaning c.args.store.now) (g.B.Bindings.meaning c.heads.store) c.args.from.now.items c.heads.from.items c.heads.invariant.rest c.args.height c.heads.list _ c.heads.invariant.is e c.heads.invariant.made

pub returns-clause-taken : goal.returns-clause-taken
returns-clause-taken g c =
    let e : c.args.height ≡ length c.heads.from.items = omega arith in
    taken_end c.args.from.now.items c.heads.from.items c.heads.invariant.rest c.args.height c.heads.invariant.is e
