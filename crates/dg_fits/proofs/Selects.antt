-- A select counts 200, and a closure 100.
use Rattle.std.proofs.Common.{◌≡◌, ℕ, ◌+◌, ◌*◌, ◌≤◌, List, [], ◌∷◌, ◌++◌, length, arith}
use Rattle.std.specs.List.{All, flat_map}
use Rattle.std.proofs.lemmas.List.Elements.{All-head, All-tail}
use Rattle.dg_base.specs.declared.program.ClosureBody.{ClosureBody}
use Rattle.dg_base.specs.declared.program.CoreProgram.{CoreProgram}
use Rattle.dg_base.specs.declared.program.Goal.{Goal, out-Goal}
use Rattle.dg_base.specs.declared.program.Goal.TheOpen as form
use Rattle.dg_base.specs.declared.program.Pred.{Pred}
use Rattle.dg_base.specs.declared.program.Rule.{Rule}
use Rattle.dg_base.specs.Goals.{all_goals_of}
use Rattle.dg_base.specs.Sound.{IsSound, FitsProgram, IsGoalOf, IsRuleOf, IsClosureOf, IsPredOf, all_goals, closure_vars}
use Rattle.dg_fits.specs.Sizes.{select_count, selects, goal_size, goals_size, rules_size, preds_size, closures_size, story_size}

pub selects_append : (xs ys : List Goal) → selects (xs ++ ys) ≡ selects xs + selects ys
selects_append [] ys = omega arith
selects_append (x ∷ xs) ys = omega (arith, selects_append xs ys)

one_counts : (p : CoreProgram) (layer : form.Goal-F Goal) → FitsProgram p layer → 200 * select_count layer ≤ goal_size layer
one_counts p (form.Select site mode lists) fits = let some = fits.1 in omega arith
one_counts p layer fits = omega arith

goals_count : (p : CoreProgram) (vars : ℕ) (gs : List Goal) → All (IsGoalOf p vars) gs → 200 * selects gs ≤ goals_size gs
goals_count p vars [] all = omega arith
goals_count p vars (g ∷ gs) all =
    omega (arith, one_counts p (out-Goal g) (All-head (IsGoalOf p vars) g gs all).fits, goals_count p vars gs (All-tail (IsGoalOf p vars) g gs all))

abbrev pub of_rules : List Rule → List Goal
of_rules rs = flat_map (λ (rule : Rule). all_goals_of rule.body) rs

rules_count : (p : CoreProgram) (rs : List Rule) → All (IsRuleOf p) rs → 200 * selects (of_rules rs) ≤ rules_size rs
rules_count p [] all = omega arith
rules_count p (rule ∷ rs) all =
    let h = All-head (IsRuleOf p) rule rs all in
    omega (arith, selects_append (all_goals_of rule.body) (of_rules rs), goals_count p rule.vars (all_goals_of rule.body) h.body, rules_count p rs (All-tail (IsRuleOf p) rule rs all))

abbrev pub of_preds : List Pred → List Goal
of_preds ps = flat_map (λ (pred : Pred). of_rules pred.rules) ps

preds_count : (p : CoreProgram) (ps : List Pred) → All (IsPredOf p) ps → 200 * selects (of_preds ps) ≤ preds_size ps
preds_count p [] all = omega arith
preds_count p (pred ∷ ps) all =
    let h = All-head (IsPredOf p) pred ps all in
    omega (arith, selects_append (of_rules pred.rules) (of_preds ps), rules_count p pred.rules h.rules, preds_count p ps (All-tail (IsPredOf p) pred ps all))

abbrev pub of_closures : List ClosureBody → List Goal
of_closures cs = flat_map (λ (closure : ClosureBody). all_goals_of closure.body) cs

closures_count : (p : CoreProgram) (cs : List ClosureBody) → All (IsClosureOf p) cs → 200 * selects (of_closures cs) + 100 * length cs ≤ closures_size cs
closures_count p [] all = omega arith
closures_count p (c ∷ cs) all =
    let h = All-head (IsClosureOf p) c cs all in
    omega (arith, selects_append (all_goals_of c.body) (of_closures cs), goals_count p (closure_vars c) (all_goals_of c.body) h.body, closures_count p cs (All-tail (IsClosureOf p) c cs all))

pub selects_count : (p : CoreProgram) → IsSound p → 200 * selects (all_goals p) + 100 * length p.closures ≤ story_size p
selects_count p sound =
    omega (arith, selects_append (of_preds p.preds) (of_closures p.closures), preds_count p p.preds sound.preds, closures_count p p.closures sound.closures)
