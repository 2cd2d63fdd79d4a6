use Rattle.std.proofs.Common.{◌∙◌, ◌+◌, ◌-◌, ◌∷◌, sym, subst, ap, arith, drop}
use Rattle.dg_unify.proofs.StoreLemmas.{kept_holds}
use Rattle.dg_lists.specs.Reading.{ListMade}
use Rattle.dg_lists.proofs.MakeLemmas.{list_on, element_holds, back_one}
use Rattle.dg_lists.proofs.reading.make_list.Goals as goal

pub pair-requires-clause-head_in : goal.pair-requires-clause-head_in
pair-requires-clause-head_in g c =
    let s = g.B.Bindings.meaning c.args.store.now in
    let es = c.args.elements.now in
    kept_holds s (g.B.Bindings.meaning c.elements.store) c.ref_at.result c.elements.invariant.made.kept (element_holds s (c.elements.at - 1) es (drop (c.elements.at - 1 + 1) es) c.ref_at.result c.requires c.ref_at.ensures)

pub elements-preserved : goal.elements-preserved
elements-preserved g c =
    let s = g.B.Bindings.meaning c.args.store.now in
    let es = c.args.elements.now in
    let t = g.B.Bindings.meaning c.elements.store in
    let u = g.B.Bindings.meaning c.pair.new.self in
    let whole = c.ref_at.ensures ∙ ap (λ l. c.ref_at.result ∷ l) (back_one c.elements.at es c.elements-test.true) in
    let hold = element_holds s (c.elements.at - 1) es (drop (c.elements.at - 1 + 1) es) c.ref_at.result c.requires c.ref_at.ensures in
    record {
      within = omega (arith, c.elements.invariant.within);
      saved = λ ms k. c.in-Ok-pair.ensures.saved ms (c.elements.invariant.saved ms k);
      made = subst (λ l. ListMade s u l c.in-Ok-pair.longer) (sym whole) (list_on c.ref_at.result (drop c.elements.at es) s t u c.elements.list c.in-Ok-pair.longer hold c.elements.invariant.made c.in-Ok-pair.ensures.kept c.in-Ok-pair.ensures.made);
    }
