-- The queries of a core program have few arguments where the names of its predicates have few places.
use Rattle.std.proofs.Common.{◌≡◌, ◌≤◌, ℕ, List, [], ◌∷◌, Option, Some, None, length, map, get_or, refl, sym, ◌∙◌, subst, arith}
use Rattle.std.specs.Prelude.{slice_get}
use Rattle.std.specs.List.{All}
use Rattle.std.proofs.lemmas.List.Elements.{All-nil, All-cons, All-head, All-tail, All-weaker}
use Rattle.std.proofs.lemmas.Option.{slice_get-get_or, slice_get_within}
use Rattle.dg_base.specs.Goals.{all_goals_of}
use Rattle.dg_base.specs.Tree.{Item}
use Rattle.dg_base.specs.declared.program.ClosureBody.{ClosureBody}
use Rattle.dg_base.specs.declared.program.CoreProgram.{CoreProgram as Core}
use Rattle.dg_base.specs.declared.program.Goal.{Goal, out-Goal}
use Rattle.dg_base.specs.declared.program.Goal.TheOpen as form
use Rattle.dg_base.specs.declared.program.Pred.{Pred}
use Rattle.dg_base.specs.declared.program.Rule.{Rule}
use Rattle.dg_base.specs.declared.program.Term.{Term}
use Rattle.dg_meaning.specs.Few.{FormAsksFew, AsksFew, AllAskFew, HeadsAreFew}
use Rattle.dg_names.specs.Named.{Named}
use Rattle.dg_core.specs.Core.{outer_scope, pred_of, with_rules}
use Rattle.dg_core.specs.Given.{IsGiven}
use Rattle.dg_core.specs.Places.{values_named}
use Rattle.dg_core.proofs.AskLemmas.{HasPlaces, heads_few}
use Rattle.dg_core.proofs.ClosureLemmas.{IsRowByName, closures_made}
use Rattle.dg_core.proofs.GoalLemmas.{FormNamed, IsByName}
use Rattle.dg_core.proofs.SoundLemmas.{IsRuleByName, IsPredByName, preds_named}

-- the name of a predicate has at most so many places
abbrev HasFew : ℕ → Pred → Type 0
HasFew n q = values_named q.name ≤ n

names_few : (names : Named) (items : List Item) (n : ℕ) (ns : List (List ℕ)) → All (λ (m : List ℕ). values_named m ≤ n) ns → All (HasFew n) (map (pred_of (outer_scope names items) items) ns)
names_few names items n [] h = All-nil (HasFew n)
names_few names items n (m ∷ ns) h =
    All-cons (HasFew n) (pred_of (outer_scope names items) items m) (map (pred_of (outer_scope names items) items) ns)
    (All-head (λ (k : List ℕ). values_named k ≤ n) m ns h) (names_few names items n ns (All-tail (λ (k : List ℕ). values_named k ≤ n) m ns h))

module _ (p : Core) (n : ℕ) (few : All (HasFew n) p.preds) where
  args_few : (args : List Term) (pred : ℕ) (o : Option Pred) → slice_get p.preds pred ≡ o → HasPlaces (length args) o → length args ≤ n
  args_few args pred None e h = absurd h
  args_few args pred (Some q) e h =
      let lt = slice_get_within p.preds pred q e in
      let same : Some (get_or p.preds pred q) ≡ Some q = sym (slice_get-get_or p.preds pred q lt) ∙ e in
      let is : get_or p.preds pred q ≡ q = cc in
      let small = subst (HasFew n) is (few pred q lt) in
      omega (arith, h, small)

  form_few : (layer : form.Goal-F Goal) → FormNamed p layer → FormAsksFew n layer
  form_few (form.Ask pred args many) h = args_few args pred (slice_get p.preds pred) refl h
  form_few layer h = tt

  goals_few : (gs : List Goal) → All (IsByName p) gs → All (AsksFew n) gs
  goals_few gs h = All-weaker (IsByName p) (AsksFew n) (λ g. form_few (out-Goal g)) gs h

  rules_few : (rules : List Rule) → All (IsRuleByName p) rules → All (λ (r : Rule). All (AsksFew n) (all_goals_of r.body)) rules
  rules_few rules h = All-weaker (IsRuleByName p) (λ (r : Rule). All (AsksFew n) (all_goals_of r.body)) (λ r. goals_few (all_goals_of r.body)) rules h

pub rules_ask_few : (names : Named) (items : List Item) (n : ℕ) → IsGiven names items → All (λ (m : List ℕ). values_named m ≤ n) names.preds → AllAskFew n (with_rules names items)
rules_ask_few names items n g h =
    let p = with_rules names items in
    let few : All (HasFew n) p.preds = names_few names items n names.preds h in
    record {
      preds = All-weaker (IsPredByName p) (λ (q : Pred). All (λ (r : Rule). All (AsksFew n) (all_goals_of r.body)) q.rules) (λ q. rules_few p n few q.rules) p.preds (preds_named names items names.preds g);
      closures = All-weaker (IsRowByName p) (λ (r : ClosureBody). All (AsksFew n) (all_goals_of r.body)) (λ r. goals_few p n few (all_goals_of r.body)) p.closures (closures_made names items g).named;
    }

pub rules_heads_few : (names : Named) (items : List Item) (n : ℕ) → All (λ (m : List ℕ). values_named m ≤ n) names.preds → HeadsAreFew n (with_rules names items)
rules_heads_few names items n h = heads_few names items n names.preds h
