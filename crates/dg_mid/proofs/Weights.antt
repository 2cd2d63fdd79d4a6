-- What code and goals weigh, by their parts.
use Rattle.std.proofs.Common.{◌≡◌, ℕ, ◌+◌, ◌*◌, ◌≤◌, List, [], ◌∷◌, ◌++◌, length, refl, ap, arith}
use Rattle.std.specs.Prelude.{reverse, Option, Bool}
use Rattle.std.specs.List.{flat_map}
use Rattle.std.proofs.lemmas.List.{reverse-append}
use Rattle.dg_base.specs.declared.program.Goal.{Goal, out-Goal}
use Rattle.dg_base.specs.declared.program.Goal.TheVariants as goal
use Rattle.dg_base.specs.declared.program.Goal.TheOpen as form
use Rattle.dg_base.specs.declared.program.Term.{Term}
use Rattle.dg_base.specs.declared.program.Mode.{Mode}
use Rattle.dg_base.specs.declared.program.Rule.{Rule}
use Rattle.dg_base.specs.declared.program.Pred.{Pred}
use Rattle.dg_base.specs.declared.program.ClosureBody.{ClosureBody}
use Rattle.dg_base.specs.Goals.{goals_within, all_goals_of, option_terms}
use Rattle.dg_base.proofs.NodeLemmas.{inside, within_out}
use Rattle.dg_mid.specs.declared.code.Action.{Action}
use Rattle.dg_mid.specs.declared.code.Action.TheVariants as action
use Rattle.dg_mid.specs.declared.code.Op.{Op}
use Rattle.dg_mid.specs.declared.code.Op.TheVariants as op
use Rattle.dg_mid.specs.declared.code.Block.{Block}
use Rattle.dg_mid.specs.declared.code.Gathered.{Gathered}
use Rattle.dg_mid.specs.declared.code.Gathered.TheVariants as gathered
use Rattle.dg_mid.specs.declared.writing.Level.{Level}
use Rattle.dg_mid.specs.Actions.{form_of, goal_of}
use Rattle.dg_mid.specs.Writing.{gathers}
use Rattle.dg_mid.proofs.Acts.{outs}
use Rattle.dg_mid.specs.Weights.{Weights, chooses, terms_weight, op_weight, ops_weight, blocks_weight, lists_in, own_weight, ways_weight, goals_weight, body_weight, lists_weight, whole_weight, levels_weight, rules_weight, preds_weight, closures_weight}

-- ## Code

pub ops_append : (w : Weights) (xs ys : List Op) → ops_weight w (xs ++ ys) ≡ ops_weight w xs + ops_weight w ys
ops_append w [] ys = omega arith
ops_append w (x ∷ xs) ys = omega (arith, ops_append w xs ys)

pub ops_reverse : (w : Weights) (xs : List Op) → ops_weight w (reverse xs) ≡ ops_weight w xs
ops_reverse w [] = refl
ops_reverse w (x ∷ xs) = omega (arith, ap (ops_weight w) (reverse-append (x ∷ []) xs), ops_append w (reverse xs) (x ∷ []), ops_reverse w xs)

pub blocks_append : (w : Weights) (xs ys : List Block) → blocks_weight w (xs ++ ys) ≡ blocks_weight w xs + blocks_weight w ys
blocks_append w [] ys = omega arith
blocks_append w (x ∷ xs) ys = omega (arith, blocks_append w xs ys)

-- a block of instructions, which stood in reverse order
pub block_added : (w : Weights) (old now : List Block) (ops : List Op) → now ≡ old ++ record { ops = reverse ops } ∷ [] → blocks_weight w now ≡ blocks_weight w old + w.block + ops_weight w ops
block_added w old now ops made = omega (arith, ap (blocks_weight w) made, blocks_append w old (record { ops = reverse ops } ∷ []), ops_reverse w ops)

-- one instruction more
pub op_added : (w : Weights) (ops put : List Op) (x : Op) → put ≡ ops ++ x ∷ [] → ops_weight w put ≡ ops_weight w ops + op_weight w x
op_added w ops put x e = omega (arith, ap (ops_weight w) e, ops_append w ops (x ∷ []))

-- one instruction alone
pub op_alone : (w : Weights) (put : List Op) (x : Op) → put ≡ x ∷ [] → ops_weight w put ≡ op_weight w x
op_alone w put x e = omega (arith, ap (ops_weight w) e)

-- ## Goals

goals_append : (w : Weights) (xs ys : List Goal) → goals_weight w (xs ++ ys) ≡ goals_weight w xs + goals_weight w ys
goals_append w [] ys = omega arith
goals_append w (x ∷ xs) ys = omega (arith, goals_append w xs ys)

lists_inside : (w : Weights) (lists : List (List Goal)) → goals_weight w (flat_map all_goals_of lists) + ways_weight w lists ≡ lists_weight w lists
lists_inside w [] = refl
lists_inside w (gs ∷ lists) = omega (arith, goals_append w (all_goals_of gs) (flat_map all_goals_of lists), lists_inside w lists)

alone : (w : Weights) (gs : List Goal) → goals_weight w (all_goals_of gs) + ways_weight w (gs ∷ []) ≡ lists_weight w (gs ∷ [])
alone w gs = omega arith

three : (w : Weights) (a b c : List Goal) → goals_weight w (all_goals_of a ++ all_goals_of b ++ all_goals_of c) + ways_weight w (a ∷ b ∷ c ∷ []) ≡ lists_weight w (a ∷ b ∷ c ∷ [])
three w a b c = omega (arith, goals_append w (all_goals_of a ++ all_goals_of b) (all_goals_of c), goals_append w (all_goals_of a) (all_goals_of b))

inside_weight : (w : Weights) (layer : form.Goal-F Goal) → goals_weight w (inside layer) + ways_weight w (lists_in layer) ≡ lists_weight w (lists_in layer)
inside_weight w (form.Either lists) = lists_inside w lists
inside_weight w (form.Once goals) = alone w goals
inside_weight w (form.Not goals) = alone w goals
inside_weight w (form.If a b c) = three w a b c
inside_weight w (form.Exhaust goals) = alone w goals
inside_weight w (form.Collect x goals y) = alone w goals
inside_weight w (form.Accumulate x goals y) = alone w goals
inside_weight w (form.Stoppable goals) = alone w goals
inside_weight w (form.Select site mode lists) = lists_inside w lists
inside_weight w layer = refl

whole_is : (w : Weights) (x : Goal) → goals_weight w (goals_within x) ≡ whole_weight w x
whole_is w x = omega (arith, ap (goals_weight w) (within_out x), inside_weight w (out-Goal x))

pub body_append : (w : Weights) (gs hs : List Goal) → body_weight w (gs ++ hs) ≡ body_weight w gs + body_weight w hs
body_append w [] hs = omega arith
body_append w (g ∷ gs) hs =
    let a = goals_append w (goals_within g) (all_goals_of (gs ++ hs)) in
    let b = goals_append w (goals_within g) (all_goals_of gs) in
    omega (arith, a, b, body_append w gs hs)

pub body_one : (w : Weights) (x : Goal) → body_weight w (x ∷ []) ≡ whole_weight w x
body_one w x = omega (arith, goals_append w (goals_within x) [], whole_is w x)

-- one goal more
pub goal_added : (w : Weights) (gs : List Goal) (x : Goal) → body_weight w (gs ++ x ∷ []) ≡ body_weight w gs + whole_weight w x
goal_added w gs x = omega (arith, body_append w gs (x ∷ []), body_one w x)

pub lists_append : (w : Weights) (xs ys : List (List Goal)) → lists_weight w (xs ++ ys) ≡ lists_weight w xs + lists_weight w ys
lists_append w [] ys = omega arith
lists_append w (x ∷ xs) ys = omega (arith, lists_append w xs ys)

pub levels_append : (w : Weights) (xs ys : List Level) → levels_weight w (xs ++ ys) ≡ levels_weight w xs + levels_weight w ys
levels_append w [] ys = omega arith
levels_append w (x ∷ xs) ys = omega (arith, levels_append w xs ys)

pub rules_append : (w : Weights) (xs ys : List Rule) → rules_weight w (xs ++ ys) ≡ rules_weight w xs + rules_weight w ys
rules_append w [] ys = omega arith
rules_append w (x ∷ xs) ys = omega (arith, rules_append w xs ys)

pub preds_append : (w : Weights) (xs ys : List Pred) → preds_weight w (xs ++ ys) ≡ preds_weight w xs + preds_weight w ys
preds_append w [] ys = omega arith
preds_append w (x ∷ xs) ys = omega (arith, preds_append w xs ys)

pub closures_append : (w : Weights) (xs ys : List ClosureBody) → closures_weight w (xs ++ ys) ≡ closures_weight w xs + closures_weight w ys
closures_append w [] ys = omega arith
closures_append w (x ∷ xs) ys = omega (arith, closures_append w xs ys)

-- one level more
pub level_added : (w : Weights) (levels more : List Level) (l : Level) → more ≡ levels ++ l ∷ [] → levels_weight w more ≡ levels_weight w levels + levels_weight w (l ∷ [])
level_added w levels more l e = omega (arith, ap (levels_weight w) e, levels_append w levels (l ∷ []))

-- ## Whole goals

-- by the layer of a goal
by_layer : (w : Weights) (x : Goal) (layer : form.Goal-F Goal) → out-Goal x ≡ layer → whole_weight w x ≡ own_weight w layer + lists_weight w (lists_in layer)
by_layer w x layer e = ap (λ (f : form.Goal-F Goal). own_weight w f + lists_weight w (lists_in f)) e

-- what a goal that only holds lists has for one of them
abbrev pub way_weight : Weights → ℕ
way_weight w = w.opening + 2 * w.small + 2 * w.block

pub weight_not : (w : Weights) (inner : List Goal) → whole_weight w (goal.Not inner) ≡ way_weight w + body_weight w inner
weight_not w inner = omega (arith, by_layer w (goal.Not inner) (form.Not inner) (goal.outs-Not inner))

pub weight_exhaust : (w : Weights) (inner : List Goal) → whole_weight w (goal.Exhaust inner) ≡ way_weight w + body_weight w inner
weight_exhaust w inner = omega (arith, by_layer w (goal.Exhaust inner) (form.Exhaust inner) (goal.outs-Exhaust inner))

pub weight_once : (w : Weights) (inner : List Goal) → whole_weight w (goal.Once inner) ≡ way_weight w + body_weight w inner
weight_once w inner = omega (arith, by_layer w (goal.Once inner) (form.Once inner) (goal.outs-Once inner))

pub weight_stoppable : (w : Weights) (inner : List Goal) → whole_weight w (goal.Stoppable inner) ≡ w.opening + w.small + w.leaving + 2 * w.block + body_weight w inner
weight_stoppable w inner = omega (arith, by_layer w (goal.Stoppable inner) (form.Stoppable inner) (goal.outs-Stoppable inner))

pub weight_if : (w : Weights) (test first other : List Goal) → whole_weight w (goal.If test first other) ≡ 3 * w.opening + 4 * w.small + 4 * w.block + body_weight w test + body_weight w first + body_weight w other
weight_if w test first other = omega (arith, by_layer w (goal.If test first other) (form.If test first other) (goal.outs-If test first other))

pub weight_either : (w : Weights) (lists : List (List Goal)) → whole_weight w (goal.Either lists) ≡ w.small + w.block + lists_weight w lists
weight_either w lists = omega (arith, by_layer w (goal.Either lists) (form.Either lists) (goal.outs-Either lists))

pub weight_forever : (w : Weights) → whole_weight w goal.Forever ≡ w.opening + w.small + w.block
weight_forever w = omega (arith, by_layer w goal.Forever form.Forever goal.outs-Forever)

-- what any other goal has by itself, apart from its terms
abbrev pub asking_weight : Weights → form.Goal-F Goal → ℕ
asking_weight w g = w.own g + 3 * w.small + 2 * w.block

pub weight_select : (w : Weights) (site : ℕ) (mode : Mode) (lists : List (List Goal)) → whole_weight w (goal.Select site mode lists) ≡ asking_weight w (chooses site mode (length lists)) + lists_weight w lists
weight_select w site mode lists = omega (arith, by_layer w (goal.Select site mode lists) (form.Select site mode lists) (goal.outs-Select site mode lists))

pub weight_ask : (w : Weights) (pred : ℕ) (terms : List Term) (many : Bool) → whole_weight w (goal.Ask pred terms many) ≡ asking_weight w (form.Ask pred terms many) + terms_weight w terms
weight_ask w pred terms many = omega (arith, by_layer w (goal.Ask pred terms many) (form.Ask pred terms many) (goal.outs-Ask pred terms many))

pub weight_query : (w : Weights) (a : Term) (b : Option Term) (many : Bool) → whole_weight w (goal.Query a b many) ≡ asking_weight w (form.Query a b many) + terms_weight w (a ∷ option_terms b)
weight_query w a b many = omega (arith, by_layer w (goal.Query a b many) (form.Query a b many) (goal.outs-Query a b many))

pub weight_holds : (w : Weights) (place : ℕ) (terms : List Term) (many : Bool) → whole_weight w (goal.Holds place terms many) ≡ asking_weight w (form.Holds place terms many) + terms_weight w terms
weight_holds w place terms many = omega (arith, by_layer w (goal.Holds place terms many) (form.Holds place terms many) (goal.outs-Holds place terms many))

pub weight_is_object : (w : Weights) (term : Term) (many : Bool) → whole_weight w (goal.IsObject term many) ≡ asking_weight w (form.IsObject term many) + terms_weight w (term ∷ [])
weight_is_object w term many = omega (arith, by_layer w (goal.IsObject term many) (form.IsObject term many) (goal.outs-IsObject term many))

pub weight_gathers : (w : Weights) (whole : Gathered) (a : Term) (inner : List Goal) (b : Term) →
    whole_weight w (gathers whole a inner b) ≡ asking_weight w (form.Collect a [] b) + 2 * w.gathers + terms_weight w (a ∷ b ∷ []) + (w.opening + w.small + w.block) + body_weight w inner
weight_gathers w gathered.List a inner b = omega (arith, by_layer w (goal.Collect a inner b) (form.Collect a inner b) (goal.outs-Collect a inner b))
weight_gathers w gathered.Sum a inner b = omega (arith, by_layer w (goal.Accumulate a inner b) (form.Accumulate a inner b) (goal.outs-Accumulate a inner b))

-- ## Actions

op_within : (w : Weights) (a : Action) → op_weight w (op.Do a) ≤ own_weight w (form_of a) + lists_weight w (lists_in (form_of a))
op_within w (action.Text text) = omega arith
op_within w a = omega arith

-- an action's instruction weighs no more than its goal
pub action_light : (w : Weights) (a : Action) → op_weight w (op.Do a) ≤ whole_weight w (goal_of a)
action_light w a = omega (arith, by_layer w (goal_of a) (form_of a) (outs a), op_within w a)
