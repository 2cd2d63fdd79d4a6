-- The core program of a tree that is given is sound.
use Rattle.std.proofs.Common.{◌≡◌, ◌+◌, ◌≤◌, ℕ, zero, suc, List, [], ◌∷◌, ◌++◌, Bool, true, false, not, Option, Some, None, length, length-append, map, get_or, refl, sym, ◌∙◌, ap, subst, arith}
use Rattle.std.specs.Prelude.{◌≢◌, filter, if◌then◌else◌, min, nat_eq, slice_get}
use Rattle.std.specs.List.{All, Contains, IsDistinct, flat_map}
use Rattle.std.specs.Str.{bytes_eq}
use Rattle.std.specs.Cmp.Lexicographic.{bytes_decides}
use Rattle.std.proofs.lemmas.List.{append-nil, length-map}
use Rattle.std.proofs.lemmas.List.Concat.{flat_map-append}
use Rattle.std.proofs.lemmas.List.Elements.{All-nil, All-cons, All-append, All-head, All-tail, All-weaker, All-contains}
use Rattle.dg_base.specs.Goals.{all_goals_of}
use Rattle.dg_base.specs.Heads.{name_of}
use Rattle.dg_base.specs.Mentions.{of_said, of_rule, of_parts, of_body, things_in, mentioned, names_in}
use Rattle.dg_base.specs.Sound.{IsSound, IsName, FitsPlace, IsPredOf, IsRuleOf, IsGoalOf, IsTermOf, IsPlaceOf, IsStartOf, SameSite, all_goals}
use Rattle.dg_base.specs.Tree as tree
use Rattle.dg_base.specs.Tree.{Parts, Value, Body, Said, Item}
use Rattle.dg_base.specs.declared.mentions.Role.TheVariants as role
use Rattle.dg_base.specs.declared.program.CoreProgram.{CoreProgram as Core}
use Rattle.dg_base.specs.declared.program.Goal.{Goal, out-Goal}
use Rattle.dg_base.specs.declared.program.Goal.TheVariants as goal
use Rattle.dg_base.specs.declared.program.Goal.TheOpen as form
use Rattle.dg_base.specs.declared.program.Place.{Place}
use Rattle.dg_base.specs.declared.program.PlaceKind.{PlaceKind}
use Rattle.dg_base.specs.declared.program.PlaceKind.TheVariants.{ObjectVar, Parent, Global}
use Rattle.dg_base.specs.declared.program.Pred.{Pred}
use Rattle.dg_base.specs.declared.program.Rule.{Rule}
use Rattle.dg_base.specs.declared.program.Term.{Term}
use Rattle.dg_names.specs.Among.{IsAmong}
use Rattle.dg_names.specs.Named.{Named, firsts}
use Rattle.dg_scopes.proofs.VariableLemmas.{all_held, rule_small}
use Rattle.dg_core.specs.Core.{Before, outer_scope, scope_of, rule_of, failing, rules_of_item, behind_item, none_before, rules_from, selects_of, all_selects, inner_selects, pred_of, bare, entry_name, with_rules, initial_core}
use Rattle.dg_core.specs.Given.{IsGiven, IsDeclarable, is_unset}
use Rattle.dg_core.specs.Bodies.{in_parts}
use Rattle.dg_core.specs.Goals.{Scope, past, unit, lists, count_selects, term_of}
use Rattle.dg_core.specs.Places.{is_among, parent_name, place_names, declaration_in, declarations, declared_names, changed_in, kind_by, kind_of, values_named, head_values}
use Rattle.dg_core.specs.Rows.{names_of, AreCaught}
use Rattle.dg_core.specs.Variables.{layouts_in, rule_variables}
use Rattle.dg_core.specs.inside.Fewer.{Replace}
use Rattle.dg_core.proofs.AskLemmas.{query_fits, query_named, place_fits, parents_fit, entry_fits}
use Rattle.dg_core.proofs.ClosureLemmas.{known_out, few_closures, IsRuleKnown, IsItemKnown, AreItemsKnown, items_known, ground, row_goals, closures_made}
use Rattle.dg_core.proofs.DeclaredLemmas.{value_begins}
use Rattle.dg_core.proofs.FitLemmas.{all_declarable, declared_other}
use Rattle.dg_core.proofs.GoalLemmas.{IsByName, AreMade, made_none, made_join, body_made, goal_made}
use Rattle.dg_core.proofs.HoldLemmas.{Hold, front, back, from_all, all_front, all_behind}
use Rattle.dg_core.proofs.LostLemmas.{none_lost, stays_sound, Has, all_had, had_behind, had_before, all_there, rule_goals}
use Rattle.dg_core.proofs.MemberLemmas.{nowhere}
use Rattle.dg_core.proofs.RowLemmas.{at_most}
use Rattle.dg_core.proofs.SiteLemmas.{AreSited, sited_none, sited_join, sited_wider}
use Rattle.dg_core.proofs.TermLemmas.{number_below, IsGround, ground_past, IsKnown, parts_sound}

-- ---- rules

few_vars : (n : ℕ) → n ≤ 65 → min n 65535 ≤ 65
few_vars n h = omega arith

abbrev vars_of : Parts → Body → ℕ
vars_of ps b = min (length (rule_variables ps b)) 65535

rule_few : (names : Named) (items : List Item) (first : ℕ) (ps : Parts) (b : Body) → IsRuleKnown names items first ps b → length (rule_variables ps b) ≤ 65
rule_few names items first ps b h = rule_small (names_of ps b) (of_rule role.Rule ps b) h.fit.few.0

rule_ground : (names : Named) (items : List Item) (first : ℕ) (ps : Parts) (b : Body) → IsGiven names items → IsRuleKnown names items first ps b → IsGround (with_rules names items) (vars_of ps b) (scope_of (outer_scope names items) first ps b)
rule_ground names items first ps b g h =
    let few = rule_few names items first ps b h in
    let vars = rule_variables ps b in
    let ms = of_rule role.Rule ps b in
    subst (λ (v : ℕ). IsGround (with_rules names items) v (scope_of (outer_scope names items) first ps b)) (sym (at_most (length vars) few))
    (ground names items (layouts_in ps b).closures (names_of ps b) vars first 0 ms g (omega (arith, few)) (subst (λ (k : ℕ). AreCaught (with_rules names items).closures (names_of ps b) vars k ms) (omega arith) h.caught))

known_rule : (names : Named) (items : List Item) (first : ℕ) (ps : Parts) (b : Body) → IsRuleKnown names items first ps b → Hold (IsKnown (scope_of (outer_scope names items) first ps b)) (of_rule role.Rule ps b)
known_rule names items first ps b h = known_out (scope_of (outer_scope names items) first ps b) (names_of ps b) (of_rule role.Rule ps b) (all_held (names_of ps b) (of_rule role.Rule ps b)) h.asked

-- the sites of rules are below those of closures
below_all : (names : Named) (items : List Item) (n : ℕ) → n ≤ all_selects items → n ≤ (with_rules names items).sites
below_all names items n e = omega (arith, e)

rule_made : (names : Named) (items : List Item) (n : Before) (ps : Parts) (b : Body) (behind : List Goal) → IsGiven names items → IsRuleKnown names items n.closures ps b → n.selects + count_selects (of_body false b) ≤ all_selects items → AreMade (with_rules names items) (vars_of ps b) (n.selects + count_selects (of_body false b)) (n.selects + count_selects (of_body false b)) behind → AreMade (with_rules names items) (vars_of ps b) n.selects (n.selects + count_selects (of_body false b)) (rule_of (outer_scope names items) n ps b behind).body
rule_made names items n ps b behind g h e k =
    let p = with_rules names items in
    let s = scope_of (outer_scope names items) n.closures ps b in
    let t = past s (in_parts ps) in
    let m = n.selects + count_selects (of_body false b) in
    made_join p (vars_of ps b) n.selects m m (unit (lists t n.selects b)) behind
    (body_made p (vars_of ps b) t n.selects b (ground_past p (vars_of ps b) s (in_parts ps) (rule_ground names items n.closures ps b g h)) (back (IsKnown s) (of_parts false ps) (of_body false b) (known_rule names items n.closures ps b h).1) (below_all names items m e)) k

-- a rule is sound, and its queries have as many terms as the names of their predicates have places
abbrev pub IsRuleByName : Core → Rule → Type 0
IsRuleByName p r = All (IsByName p) (all_goals_of r.body)

abbrev IsRuleMade : Core → Rule → Type 0
IsRuleMade p r = IsRuleOf p r × IsRuleByName p r

rule_sound : (names : Named) (items : List Item) (n : Before) (ps : Parts) (b : Body) (behind : List Goal) → IsGiven names items → IsRuleKnown names items n.closures ps b → n.selects + count_selects (of_body false b) ≤ all_selects items → AreMade (with_rules names items) (vars_of ps b) (n.selects + count_selects (of_body false b)) (n.selects + count_selects (of_body false b)) behind → IsRuleMade (with_rules names items) (rule_of (outer_scope names items) n ps b behind)
rule_sound names items n ps b behind g h e k =
    let s = scope_of (outer_scope names items) n.closures ps b in
    let made = rule_made names items n ps b behind g h e k in
    let sound : IsRuleOf (with_rules names items) (rule_of (outer_scope names items) n ps b behind) = record {
      few = few_vars (length (rule_variables ps b)) (rule_few names items n.closures ps b h);
      head = parts_sound (with_rules names items) (vars_of ps b) s false ps (rule_ground names items n.closures ps b g h) (front (IsKnown s) (of_parts false ps) (of_body false b) (known_rule names items n.closures ps b h).1);
      body = made.sound;
    } in
    (sound, made.named)

failing_made : (p : Core) (vars n : ℕ) → AreMade p vars n n failing
failing_made p vars n =
    made_join p vars n n n (goal.Just ∷ []) (goal.Fail ∷ [])
    (goal_made p vars n n goal.Just form.Just goal.outs-Just tt (All-nil (IsTermOf p vars)) tt (All-nil (IsGoalOf p vars)) (sited_none n n (omega arith)) (All-nil (IsByName p)))
    (goal_made p vars n n goal.Fail form.Fail goal.outs-Fail tt (All-nil (IsTermOf p vars)) tt (All-nil (IsGoalOf p vars)) (sited_none n n (omega arith)) (All-nil (IsByName p)))

given : (p : Core) (same : Bool) (r : Rule) → IsRuleMade p r → All (IsRuleMade p) (if same then r ∷ [] else [])
given p true r h = All-cons (IsRuleMade p) r [] h (All-nil (IsRuleMade p))
given p false r h = All-nil (IsRuleMade p)

item_sound : (names : Named) (items : List Item) (n : Before) (name : List ℕ) (said : Said) → IsGiven names items → IsItemKnown names items n.closures said → n.selects + selects_of said ≤ all_selects items → All (IsRuleMade (with_rules names items)) (rules_of_item (outer_scope names items) n name said)
item_sound names items n name (tree.topic w) g h e = All-nil (IsRuleMade (with_rules names items))
item_sound names items n name (tree.rule ps b) g h e =
    given (with_rules names items) (bytes_eq (name_of ps) name) (rule_of (outer_scope names items) n ps b []) (rule_sound names items n ps b [] g h e (made_none (with_rules names items) (vars_of ps b) _ _ (omega arith)))
item_sound names items n name (tree.deny ps b) g h e =
    given (with_rules names items) (bytes_eq (name_of ps) name) (rule_of (outer_scope names items) n ps b failing) (rule_sound names items n ps b failing g h e (failing_made (with_rules names items) (vars_of ps b) _))
item_sound names items n name (tree.access ps b) g h e = All-nil (IsRuleMade (with_rules names items))
item_sound names items n name (tree.global_variable ps) g h e = All-nil (IsRuleMade (with_rules names items))

items_sound : (names : Named) (items : List Item) (n : Before) (name : List ℕ) (is : List Item) → IsGiven names items → AreItemsKnown names items n.closures is → n.selects + all_selects is ≤ all_selects items → All (IsRuleMade (with_rules names items)) (rules_from (outer_scope names items) n name is)
items_sound names items n name [] g h e = All-nil (IsRuleMade (with_rules names items))
items_sound names items n name (i ∷ is) g h e =
    All-append (IsRuleMade (with_rules names items)) (rules_of_item (outer_scope names items) n name i.said) (rules_from (outer_scope names items) (behind_item n i.said) name is)
    (item_sound names items n name i.said g h.0 (omega (arith, e)))
    (items_sound names items (behind_item n i.said) name is g h.1 (omega (arith, e)))

-- the rules of a predicate with this name
named_sound : (names : Named) (items : List Item) (name : List ℕ) → IsGiven names items → All (IsRuleMade (with_rules names items)) (pred_of (outer_scope names items) items name).rules
named_sound names items name g =
    items_sound names items none_before name items g (items_known names items g) (omega arith)

preds_sound : (names : Named) (items : List Item) (ns : List (List ℕ)) → IsGiven names items → All IsName ns → All (IsPredOf (with_rules names items)) (map (pred_of (outer_scope names items) items) ns)
preds_sound names items [] g m = All-nil (IsPredOf (with_rules names items))
preds_sound names items (n ∷ ns) g m =
    let q = pred_of (outer_scope names items) items n in
    let here : IsPredOf (with_rules names items) q = record {
      name = All-head IsName n ns m;
      rules = All-weaker (IsRuleMade (with_rules names items)) (IsRuleOf (with_rules names items)) (λ r h. h.0) q.rules (named_sound names items n g);
    } in
    All-cons (IsPredOf (with_rules names items)) q (map (pred_of (outer_scope names items) items) ns) here (preds_sound names items ns g (All-tail IsName n ns m))

-- the queries of each rule have as many terms as the names of their predicates have places
abbrev pub IsPredByName : Core → Pred → Type 0
IsPredByName p q = All (IsRuleByName p) q.rules

pub preds_named : (names : Named) (items : List Item) (ns : List (List ℕ)) → IsGiven names items → All (IsPredByName (with_rules names items)) (map (pred_of (outer_scope names items) items) ns)
preds_named names items [] g = All-nil (IsPredByName (with_rules names items))
preds_named names items (n ∷ ns) g =
    let p = with_rules names items in
    let q = pred_of (outer_scope names items) items n in
    All-cons (IsPredByName p) q (map (pred_of (outer_scope names items) items) ns)
    (All-weaker (IsRuleMade p) (IsRuleByName p) (λ r h. h.1) q.rules (named_sound names items n g)) (preds_named names items ns g)

-- ---- sites

-- the goals that an item gives
abbrev body_in : Scope → Before → Said → List Goal
body_in around n (tree.rule ps b) = (rule_of around n ps b []).body
body_in around n (tree.deny ps b) = (rule_of around n ps b failing).body
body_in around n said = []

abbrev goals_from : Scope → Before → List Item → List Goal
goals_from around n [] = []
goals_from around n (i ∷ is) = all_goals_of (body_in around n i.said) ++ goals_from around (behind_item n i.said) is

item_sited : (names : Named) (items : List Item) (n : Before) (said : Said) → IsGiven names items → IsItemKnown names items n.closures said → n.selects + selects_of said ≤ all_selects items → AreSited n.selects (n.selects + selects_of said) (all_goals_of (body_in (outer_scope names items) n said))
item_sited names items n (tree.topic w) g h e = sited_none n.selects _ (omega arith)
item_sited names items n (tree.rule ps b) g h e = (rule_made names items n ps b [] g h e (made_none (with_rules names items) (vars_of ps b) _ _ (omega arith))).sited
item_sited names items n (tree.deny ps b) g h e = (rule_made names items n ps b failing g h e (failing_made (with_rules names items) (vars_of ps b) _)).sited
item_sited names items n (tree.access ps b) g h e = sited_none n.selects _ (omega arith)
item_sited names items n (tree.global_variable ps) g h e = sited_none n.selects _ (omega arith)

items_sited : (names : Named) (items : List Item) (n : Before) (is : List Item) → IsGiven names items → AreItemsKnown names items n.closures is → n.selects + all_selects is ≤ all_selects items → AreSited n.selects (n.selects + all_selects is) (goals_from (outer_scope names items) n is)
items_sited names items n [] g h e = sited_none n.selects _ (omega arith)
items_sited names items n (i ∷ is) g h e =
    let next = behind_item n i.said in
    sited_wider n.selects (next.selects + all_selects is) n.selects _ _ (omega arith) (omega arith)
    (sited_join n.selects next.selects (next.selects + all_selects is) (all_goals_of (body_in (outer_scope names items) n i.said)) (goals_from (outer_scope names items) next is)
    (item_sited names items n i.said g h.0 (omega (arith, e)))
    (items_sited names items next is g h.1 (omega (arith, e))))

-- ---- each goal of the program is one of these

one_rule_had : (b : Bool) (r : Rule) (hs : List Goal) → All (Has (all_goals_of r.body ++ hs)) (rule_goals (if b then r ∷ [] else []))
one_rule_had true r hs = All-append (Has (all_goals_of r.body ++ hs)) (all_goals_of r.body) [] (all_had (all_goals_of r.body) hs) (All-nil (Has (all_goals_of r.body ++ hs)))
one_rule_had false r hs = All-nil (Has (all_goals_of r.body ++ hs))

item_had : (around : Scope) (n : Before) (name : List ℕ) (said : Said) (hs : List Goal) → All (Has (all_goals_of (body_in around n said) ++ hs)) (rule_goals (rules_of_item around n name said))
item_had around n name (tree.topic w) hs = All-nil (Has hs)
item_had around n name (tree.rule ps b) hs = one_rule_had (bytes_eq (name_of ps) name) (rule_of around n ps b []) hs
item_had around n name (tree.deny ps b) hs = one_rule_had (bytes_eq (name_of ps) name) (rule_of around n ps b failing) hs
item_had around n name (tree.access ps b) hs = All-nil (Has hs)
item_had around n name (tree.global_variable ps) hs = All-nil (Has hs)

rules_had : (around : Scope) (n : Before) (name : List ℕ) (is : List Item) → All (Has (goals_from around n is)) (rule_goals (rules_from around n name is))
rules_had around n name [] = All-nil (Has [])
rules_had around n name (i ∷ is) =
    let k = behind_item n i.said in
    let all = goals_from around n (i ∷ is) in
    subst (All (Has all)) (sym (flat_map-append (λ (r : Rule). all_goals_of r.body) (rules_of_item around n name i.said) (rules_from around k name is)))
    (All-append (Has all) (rule_goals (rules_of_item around n name i.said)) (rule_goals (rules_from around k name is)) (item_had around n name i.said (goals_from around k is))
    (had_behind (all_goals_of (body_in around n i.said)) (goals_from around k is) (rule_goals (rules_from around k name is)) (rules_had around k name is)))

preds_had : (names : Named) (items : List Item) (ns : List (List ℕ)) → All (Has (goals_from (outer_scope names items) none_before items)) (flat_map (λ (q : Pred). rule_goals q.rules) (map (pred_of (outer_scope names items) items) ns))
preds_had names items [] = All-nil (Has (goals_from (outer_scope names items) none_before items))
preds_had names items (n ∷ ns) =
    let all = goals_from (outer_scope names items) none_before items in
    let rules = rules_from (outer_scope names items) none_before n items in
    All-append (Has all) (rule_goals (pred_of (outer_scope names items) items n).rules) (flat_map (λ (q : Pred). rule_goals q.rules) (map (pred_of (outer_scope names items) items) ns))
    (rules_had (outer_scope names items) none_before n items) (preds_had names items ns)

program_sites : (names : Named) (items : List Item) → IsGiven names items → (a b : Goal) → Contains (all_goals (with_rules names items)) a → Contains (all_goals (with_rules names items)) b → SameSite (out-Goal a) (out-Goal b)
program_sites names items g a b there other =
    let p = with_rules names items in
    let of_rules = goals_from (outer_scope names items) none_before items in
    let of_closures = row_goals p.closures in
    let all = of_rules ++ of_closures in
    let first = sited_wider 0 (0 + all_selects items) 0 (all_selects items) of_rules (omega arith) (omega arith) (items_sited names items none_before items g (items_known names items g) (omega arith)) in
    let sited = sited_join 0 (all_selects items) (all_selects items + inner_selects items) of_rules of_closures first (closures_made names items g).sited in
    let rules = flat_map (λ (q : Pred). rule_goals q.rules) p.preds in
    let has : All (Has all) (all_goals p) = All-append (Has all) rules of_closures (had_before of_rules of_closures rules (preds_had names items names.preds)) (all_there of_rules of_closures) in
    sited.same a b (All-contains (Has all) (all_goals p) a has there) (All-contains (Has all) (all_goals p) b has other)

-- ---- places

outside_ground : (names : Named) (items : List Item) → IsGiven names items → IsGround (with_rules names items) 0 (outer_scope names items)
outside_ground names items g = record {
  words = λ w there. number_below w names.words there g.few_words;
  objects = λ n there. number_below n names.objects there g.few_objects;
  variables = λ n there. absurd (nowhere n there);
  preds = λ s qs there. query_fits names items s qs there g.few_preds;
  named = λ s qs there. query_named names items s qs there g.few_preds;
  places = λ s qs there. place_fits names items s qs g there;
  parents = parents_fit names items;
  closures = λ k c e. absurd (let no : None ≡ Some c = e in cc);
}

heads_hold : (names : Named) (is : List Item) → All (IsAmong names) (mentioned is) → All (λ (ps : Parts). Hold (IsAmong names) (of_parts false ps)) (declarations is)
heads_hold names [] h = All-nil (λ (ps : Parts). Hold (IsAmong names) (of_parts false ps))
heads_hold names (i ∷ is) h =
    All-append (λ (ps : Parts). Hold (IsAmong names) (of_parts false ps)) (declaration_in i.said) (declarations is) (one i.said (all_front (IsAmong names) (things_in i.said) (mentioned is) h)) (heads_hold names is (all_behind (IsAmong names) (things_in i.said) (mentioned is) h))
  where
    one : (said : Said) → All (IsAmong names) (things_in said) → All (λ (ps : Parts). Hold (IsAmong names) (of_parts false ps)) (declaration_in said)
    one (tree.global_variable ps) k = All-cons (λ (qs : Parts). Hold (IsAmong names) (of_parts false qs)) ps [] (from_all (IsAmong names) (of_said (tree.global_variable ps)) k).1 (All-nil (λ (qs : Parts). Hold (IsAmong names) (of_parts false qs)))
    one (tree.topic n) k = All-nil (λ (qs : Parts). Hold (IsAmong names) (of_parts false qs))
    one (tree.rule ps b) k = All-nil (λ (qs : Parts). Hold (IsAmong names) (of_parts false qs))
    one (tree.deny ps b) k = All-nil (λ (qs : Parts). Hold (IsAmong names) (of_parts false qs))
    one (tree.access ps b) k = All-nil (λ (qs : Parts). Hold (IsAmong names) (of_parts false qs))

none_distinct : IsDistinct nat_eq (map (λ (s : ℕ × Term). s.0) [])
unfolding IsDistinct
none_distinct = tt

-- a place is bare
place_sound : (p : Core) (items : List Item) (n : List ℕ) → IsPlaceOf p (bare items n)
place_sound p items n = record { starts = All-nil (IsStartOf p (kind_of (declared_names items) n)); once = none_distinct }

places_sound : (p : Core) (items : List Item) (ns : List (List ℕ)) → All (IsPlaceOf p) (map (bare items) ns)
places_sound p items [] = All-nil (IsPlaceOf p)
places_sound p items (n ∷ ns) = All-cons (IsPlaceOf p) (bare items n) (map (bare items) ns) (place_sound p items n) (places_sound p items ns)

no_parent_by : (k : ℕ) → kind_by k ≡ Parent → ⊥
no_parent_by zero e = cc
no_parent_by (suc zero) e = cc
no_parent_by (suc (suc k)) e = cc

no_parent : (declared : List (List ℕ)) (n : List ℕ) → not (bytes_eq n parent_name) ≡ true → kind_of declared n ≡ Parent → ⊥
no_parent declared n h = here (bytes_eq parent_name n) refl (is_among n declared)
  where
    here : (b : Bool) → bytes_eq parent_name n ≡ b → (d : Bool) → (if b then Parent else (if d then Global else kind_by (values_named n))) ≡ Parent → ⊥
    here true q d e = let no : false ≡ true = sym (ap not ((bytes_decides n parent_name).1 (sym ((bytes_decides parent_name n).0 q)))) ∙ h in cc
    here false q true e = cc
    here false q false e = no_parent_by (values_named n) e

others_kept : (items : List Item) (ns : List (List ℕ)) → All (λ (place : Place). place.kind ≢ Parent) (map (bare items) (filter (λ (m : List ℕ). not (bytes_eq m parent_name)) ns))
others_kept items [] = All-nil (λ (place : Place). place.kind ≢ Parent)
others_kept items (n ∷ ns) = here (not (bytes_eq n parent_name)) refl (others_kept items ns)
  where
    here : (b : Bool) → not (bytes_eq n parent_name) ≡ b → All (λ (place : Place). place.kind ≢ Parent) (map (bare items) (filter (λ (m : List ℕ). not (bytes_eq m parent_name)) ns)) → All (λ (place : Place). place.kind ≢ Parent) (map (bare items) (if b then n ∷ filter (λ (m : List ℕ). not (bytes_eq m parent_name)) ns else filter (λ (m : List ℕ). not (bytes_eq m parent_name)) ns))
    here true q rest = All-cons (λ (place : Place). place.kind ≢ Parent) (bare items n) (map (bare items) (filter (λ (m : List ℕ). not (bytes_eq m parent_name)) ns)) (no_parent (declared_names items) n q) rest
    here false q rest = rest

-- ---- the whole program

-- every rule stands in it
pub rules_sound : (names : Named) (items : List Item) → IsGiven names items → Contains names.preds entry_name → IsSound (with_rules names items)
rules_sound names items g entry = record {
  preds = preds_sound names items names.preds g g.preds;
  closures = (closures_made names items g).sound;
  places = places_sound (with_rules names items) items (place_names items);
  parent = (refl, others_kept items (firsts (map name_of (declarations items) ++ names_in changed_in (mentioned items))));
  objects = g.objects;
  words = g.words;
  words_differ = g.words_differ;
  sites = program_sites names items g;
  entry = entry_fits names items entry g.few_preds;
  few_preds = let few : length (map (pred_of (outer_scope names items) items) names.preds) ≤ 65535 = rw length-map g.few_preds in few;
  few_closures = few_closures names items g;
  few_places = let few : length (map (bare items) (place_names items)) ≤ 65535 = rw length-map (omega (arith, g.few_places)) in few;
  few_objects = g.few_objects;
  few_words = g.few_words;
}

-- ---- with the place for answers

abbrev answers : Place
answers = record { kind = ObjectVar; start = [] }

answers_fit : (args k : ℕ) (ps : List Place) → FitsPlace args (slice_get ps k) → FitsPlace args (slice_get (ps ++ answers ∷ []) k)
answers_fit args k [] h = absurd h
answers_fit args zero (p ∷ ps) h = h
answers_fit args (suc k) (p ∷ ps) h = answers_fit args k ps h

-- the program that is searched
pub initial_sound : (names : Named) (items : List Item) → IsGiven names items → Contains names.preds entry_name → IsSound (initial_core names items)
initial_sound names items g entry =
    let p = with_rules names items in
    let q = initial_core names items in
    let others = firsts (map name_of (declarations items) ++ names_in changed_in (mentioned items)) in
    let Other = λ (place : Place). place.kind ≢ Parent in
    let answers_sound : IsPlaceOf q answers = record { starts = All-nil (IsStartOf q ObjectVar); once = none_distinct } in
    let new : Replace p p.preds q.places = record {
      fit = λ k args h. answers_fit args k p.places h;
      sound = All-append (IsPlaceOf q) p.places (answers ∷ []) (places_sound q items (place_names items)) (All-cons (IsPlaceOf q) answers [] answers_sound (All-nil (IsPlaceOf q)));
      parent = (refl, All-append Other (map (bare items) (filter (λ (m : List ℕ). not (bytes_eq m parent_name)) others)) (answers ∷ []) (others_kept items others) (All-cons Other answers [] (λ e. cc) (All-nil Other)));
      few = omega (arith, length-append p.places (answers ∷ []), length-map (place_names items) (bare items), g.few_places);
    } in
    stays_sound p p.preds q.places (none_lost p.preds) new (rules_sound names items g entry)

-- ---- places

-- the value of a declaration
pub declared_starts : (names : Named) (items : List Item) (ps : Parts) (v : Value) (vs : List Value) → IsGiven names items → Contains (declarations items) ps → head_values ps ≡ v ∷ vs → is_unset v ≡ false → IsStartOf (with_rules names items) Global (0, term_of (outer_scope names items) v)
declared_starts names items ps v vs g there e set =
    value_begins (with_rules names items) (outer_scope names items) ps v vs
    (All-contains IsDeclarable (declarations items) ps (all_declarable items g.items) there)
    (All-contains (λ (qs : Parts). Hold (IsAmong names) (of_parts false qs)) (declarations items) ps (heads_hold names items g.things) there)
    (outside_ground names items g) e set

-- the place of a declared name
pub declared_kind : (names : Named) (items : List Item) (n : List ℕ) → IsGiven names items → is_among n (declared_names items) ≡ true → kind_of (declared_names items) n ≡ Global
declared_kind names items n g e =
    ap (λ (b : Bool). if b then Parent else (if is_among n (declared_names items) then Global else kind_by (values_named n))) (declared_other items names n g e)
    ∙ ap (λ (b : Bool). if b then Global else kind_by (values_named n)) e
