use Rattle.std.proofs.Common.{◌≡◌, ℕ, Some, None, Option, Result, sym, ◌∙◌, subst}
use Rattle.dg_base.specs.declared.refusal.Kind.{Kind}
use Rattle.dg_lower.specs.Starts as spec
use Rattle.dg_lower.specs.inside.Adding.{Adds}
use Rattle.dg_lower.proofs.AddLemmas.{add_none, ruleless_starts, ruled_below}
use Rattle.dg_lower.proofs.searches.add_searched.Goals as goal

pub returns-then-not-has_rules-clause-starts : goal.returns-then-not-has_rules-clause-starts
returns-then-not-has_rules-clause-starts c =
    let p = c.args.program.now in
    let kind = c.args.kind in
    let none = ruleless_starts p kind c.in-Some.pred 0 (spec.asked_of p kind) (sym c.has_rules.ensures ∙ c.if-not-has_rules.true) in
    subst (λ (o : Option ℕ). Adds (spec.searched p kind o) c.args.starts.now None c.args.starts.now) (sym c.in-Some.is)
    (subst (λ (r : Result spec.Starts Kind). Adds r c.args.starts.now None c.args.starts.now) (sym none) (add_none c.args.starts.now))

pub overflow_cast-pred : goal.overflow_cast-pred
overflow_cast-pred c = ruled_below c.args.program.now c.in-Some.pred c.requires.sound (sym c.has_rules.ensures ∙ c.if-not-has_rules.false)
