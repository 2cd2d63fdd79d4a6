-- A predicate without rules answers nothing.
use Rattle.std.proofs.Common.{◌≡◌, ◌+◌, ℕ, zero, suc, List, [], ◌∷◌, ◌++◌, Bool, true, false, ◌||◌, Option, Some, None, map, max, nat_lt, refl, sym, ◌∙◌, ap, arith}
use Rattle.std.specs.Prelude.{if◌then◌else◌, slice_get}
use Rattle.dg_base.specs.Goals.{has_rule}
use Rattle.dg_base.specs.declared.program.CoreProgram.{CoreProgram as Core}
use Rattle.dg_base.specs.declared.program.Goal.{Goal, Goal-F, out-Goal}
use Rattle.dg_base.specs.declared.program.Goal.TheOpen as form
use Rattle.dg_base.specs.declared.program.Goal.TheVariants as goal
use Rattle.dg_base.specs.declared.program.Rule.{Rule}
use Rattle.dg_base.specs.declared.program.Term.{Term, out-Term}
use Rattle.dg_base.specs.declared.program.Term.TheOpen as top
use Rattle.dg_base.specs.declared.program.Term.TheVariants as term
use Rattle.dg_meaning.specs.Cells.{cells, node_cells, writing}
use Rattle.dg_meaning.specs.Moves.{goals_at, new_vars, rules_of, move, outcome_of as moved, behind_terms, begun, rule_branches, first_looks}
use Rattle.dg_meaning.specs.Path.{Path, Registers, Failing, Answer, Offers, Rules}
use Rattle.dg_meaning.specs.Search.{Search, answer, go, search_to, search, after_goal}
use Rattle.dg_meaning.specs.Transcript.{Run, run_of, start_world, asking_path}
use Rattle.dg_meaning.specs.Values.{Value, value_of}
use Rattle.dg_meaning.specs.World.{Game, World, Asked, noted, worked}
use Rattle.dg_meaning.specs.Initial.{Question, object_terms, value_terms, terms_in, new_in, asked, asking_game, first_run, Initial, TooLong, Unset}
use Rattle.dg_lower.specs.Outcome.{outcome_by, outcome_of}

-- ---- what is asked takes no cells

node_none : (p : Core) (x : Term) (layer : top.Term-F Term) → out-Term x ≡ layer → node_cells p layer ≡ 0 → node_cells p (out-Term x) ≡ 0
node_none p x layer is e = ap (node_cells p) is ∙ e

object_none : (p : Core) (o : ℕ) → node_cells p (out-Term (term.Object o)) ≡ 0
object_none p o = node_none p (term.Object o) (top.Object o) (term.outs-Object o) refl

var_none : (p : Core) (v : ℕ) → node_cells p (out-Term (term.Var v)) ≡ 0
var_none p v = node_none p (term.Var v) (top.Var v) (term.outs-Var v) refl

terms_none : (p : Core) (o : Option ℕ) (b : Bool) → cells p (object_terms o ++ value_terms b) ≡ 0
terms_none p None false = refl
terms_none p None true = omega (arith, var_none p 0)
terms_none p (Some o) false = omega (arith, object_none p o)
terms_none p (Some o) true = omega (arith, object_none p o, var_none p 0)

-- ---- the search

search_at : (g : Game) (n : ℕ) (path : Path) (w : World) → search g (suc n) path w ≡ go g (search_to g n) (suc n) path.steps path.registers w
unfolding search
search_at g n path w = refl

-- the run of a question whose predicate has these rules
abbrev ran : Core → Question → List Rule → Answer
ran p q rules =
    let g = asking_game p in
    let path = asking_path (asked q ∷ []) (new_in q) in
    let env = new_vars (new_in q) 0 in
    let x : Goal-F Goal = form.Ask q.pred (terms_in q) false in
    let r = behind_terms g x path.registers in
    let w = begun r (writing (terms_in q)) (worked 1 (start_world g [])) in
    let args = map (value_of g.program env) (terms_in q) in
    after_goal (search_to g 9999) 9999 (moved [] r (Offers (Rules q.pred) (rule_branches g q.pred args false [] r rules) (noted (Asked q.pred) (worked (first_looks r args) w))))

first_ran : (p : Core) (q : Question) → first_run p q ≡ run_of (ran p q (rules_of (slice_get p.preds q.pred)))
first_ran p q =
    let g = asking_game p in
    let path = asking_path (asked q ∷ []) (new_in q) in
    let w = start_world g [] in
    ap run_of (search_at g 9999 path w)
    ∙ ap (λ (x : Goal-F Goal). run_of (after_goal (search_to g 9999) 9999 (move g x (new_vars (new_in q) 0) 0 [] path.registers (worked 1 w)))) (goal.outs-Ask q.pred (terms_in q) false)

nothing : (rules : List Rule) → has_rule rules ≡ false → rules ≡ []
nothing [] e = refl
nothing (r ∷ rules) e = cc

pub ruleless_unset : (p : Core) (q : Question) → has_rule (rules_of (slice_get p.preds q.pred)) ≡ false → outcome_of p q ≡ Unset
unfolding outcome_of
ruleless_unset p q e =
    ap (outcome_by p q) (first_ran p q ∙ ap (λ (rules : List Rule). run_of (ran p q rules)) (nothing (rules_of (slice_get p.preds q.pred)) e))
    ∙ ap (λ (heap : ℕ). if◌then◌else◌ {A = Initial} (false || nat_lt 1000000 (max 0 (0 + heap))) TooLong Unset) (terms_none p q.object q.value)
