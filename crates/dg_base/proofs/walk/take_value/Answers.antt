use Rattle.std.proofs.Common.{◌∷◌, [], ℕ, List, refl, ◌∙◌, ap, arith}
use Rattle.dg_base.specs.TreeView.{value_view}
use Rattle.dg_base.specs.Mentions.{word, object, variable, word_choice}
use Rattle.dg_base.specs.Walk.{met}
use Rattle.dg_base.proofs.Views.{num_seen, dict_word_seen, object_seen, topic_seen, any_seen, var_seen, closure_seen, query_seen, words_seen}
use Rattle.dg_base.proofs.WalkLemmas.{one, two, three, value_is, nested_then, put_next}
use Rattle.dg_base.proofs.walk.take_value.Goals as goal

pub returns-in-Num : goal.returns-in-Num
returns-in-Num c = put_next _ _ (one _) _ _ c.put_one.ensures (value_is c.args.twice c.args.value.now _ _ (ap value_view c.in-Num.is ∙ num_seen _) (record { walk = refl; size = omega arith }))

pub returns-in-Word : goal.returns-in-Word
returns-in-Word c = put_next _ _ (one _) _ _ c.put_one-in-Word.ensures (value_is c.args.twice c.args.value.now _ _ (ap value_view c.in-Word.is ∙ dict_word_seen _) (record { walk = ap (λ (n : List ℕ). met (word n) ∷ []) c.as_slice.ensures; size = omega arith }))

pub returns-in-Object : goal.returns-in-Object
returns-in-Object c = put_next _ _ (one _) _ _ c.put_one-in-Object.ensures (value_is c.args.twice c.args.value.now _ _ (ap value_view c.in-Object.is ∙ object_seen _) (record { walk = ap (λ (n : List ℕ). met (object n) ∷ []) c.as_slice-in-Object.ensures; size = omega arith }))

pub returns-in-Topic : goal.returns-in-Topic
returns-in-Topic c = put_next _ _ (one _) _ _ c.put_one-in-Topic.ensures (value_is c.args.twice c.args.value.now _ _ (ap value_view c.in-Topic.is ∙ topic_seen) (record { walk = refl; size = omega arith }))

pub returns-in-Any : goal.returns-in-Any
returns-in-Any c = put_next _ _ (one _) _ _ c.put_one-in-Any.ensures (value_is c.args.twice c.args.value.now _ _ (ap value_view c.in-Any.is ∙ any_seen) (record { walk = refl; size = omega arith }))

pub returns-in-Var : goal.returns-in-Var
returns-in-Var c = put_next _ _ (one _) _ _ c.put_one-in-Var.ensures (value_is c.args.twice c.args.value.now _ _ (ap value_view c.in-Var.is ∙ var_seen _) (record { walk = ap (λ (n : List ℕ). met (variable n) ∷ []) c.as_slice-in-Var.ensures; size = omega arith }))

pub returns-in-Closure : goal.returns-in-Closure
returns-in-Closure c = put_next _ _ (three _ _ _) _ _ c.put_three.ensures (value_is c.args.twice c.args.value.now _ _ (ap value_view c.in-Closure.is ∙ closure_seen _) (record { walk = refl; size = omega arith }))

pub returns-in-Query : goal.returns-in-Query
returns-in-Query c = put_next _ _ (two _ _) _ _ c.put_two.ensures (value_is c.args.twice c.args.value.now _ _ (ap value_view c.in-Query.is ∙ query_seen _) (nested_then c.args.twice _ _ c.as_slice-in-Query.ensures))

pub returns-in-Words : goal.returns-in-Words
returns-in-Words c = put_next _ _ (one _) _ _ c.put_one-in-Words.ensures (value_is c.args.twice c.args.value.now _ _ (ap value_view c.in-Words.is ∙ words_seen _) (record { walk = ap (λ (ws : List (List ℕ)). met (word_choice ws) ∷ []) c.as_slice-in-Words.ensures; size = omega arith }))
