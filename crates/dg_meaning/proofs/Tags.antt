-- The tags that a path names stay those of choices around it.
use Rattle.std.proofs.Common.{◌≡◌, ℕ, ◌+◌, ◌≤◌, inl, inr, List, [], ◌∷◌, ◌++◌, Option, Some, None, Bool, true, false, refl, sym, subst, arith, map, length}
use Rattle.std.specs.Prelude.{slice_get, get_or}
use Rattle.dg_base.specs.declared.program.Term.{Term}
use Rattle.dg_base.specs.declared.program.ClosureBody.{ClosureBody}
use Rattle.dg_base.specs.declared.program.PlaceKind.{PlaceKind}
use Rattle.dg_base.specs.declared.program.PlaceKind.TheVariants.{Flag, Global}
use Rattle.dg_base.specs.declared.program.Goal.{Goal, Goal-F, out-Goal}
use Rattle.dg_base.specs.declared.program.Goal.TheOpen.{Text, Print as Print-Form, Gap, GapN, Equal, Ask, Holds as HoldsAt, Now, Query, Either, Once, Not, If, Just, Forever, Exhaust, Collect, Accumulate, Stoppable, Select, Arith, Random, IsObject, Input, SplitWord, JoinWords}
use Rattle.dg_base.specs.declared.program.Goal.TheVariants.{Forever as Forever-Goal}
use Rattle.dg_base.specs.declared.program.Rule.{Rule}
use Rattle.dg_base.specs.Goals.{terms_held, option_terms}
use Rattle.dg_meaning.specs.Values.{Object, Closure, Value, Var, Node, Values, value_of}
use Rattle.dg_meaning.specs.Substitutions.{walk, resolved}
use Rattle.dg_meaning.specs.Numbers.{of_numbers, calculated, thrown}
use Rattle.dg_meaning.specs.Words.{letters_in_word, joined_letters}
use Rattle.dg_meaning.specs.Choosing.{die}
use Rattle.dg_meaning.specs.Facts.{value_at, kinds_of}
use Rattle.dg_meaning.specs.Changes.{found}
use Rattle.dg_meaning.specs.World.{Game, World, worked}
use Rattle.dg_meaning.specs.Cells.{writing}
use Rattle.dg_meaning.specs.Path.{Step, Do, Answers, Cut, Refuse, Back, Keep, Leave, Registers, Path, Whole, AsList, AsSum, Branch, Enter, Clash, TakeOut, Finds, ChoiceKind, Plain, Rules, Shield, Gathers, Move, GoesOn, FailsAt, EndsAt, StopsAt, Outcome, Moves, Chooses, Act, Goes, Tests, Unifies, Ends, Fails, Stops, Effect, Acts, Offers}
use Rattle.dg_meaning.specs.Moves.{path_of, begun, goals_at, inside, enter, enter_if, choice_cells, is_excluded, call_cells, unless_excluded, list_branches, first_alone, vars_of, rule_branch, rule_branches, rules_of, choice, goes_on_if, stop, move_of, effect, outcome_of, behind_terms, move, closure_vars, closure_branch, numbers, object_branches, reads_if_set, beginning, begins, spaces, ask_object, ask_objects, ask_place, change_place, ask_body, ask_closure, looked_up, whole_looks, selects, gathers, gives_number, throws, splits, joins, takes_line}
use Rattle.dg_meaning.specs.inside.Bindings.{top_of_values, IsBound, IsBoundBehind, BranchBinds, BranchesBind, MoveBinds, OutcomeBinds}
use Rattle.dg_meaning.proofs.Bindings.{term_below, terms_below, ActMade, number_made, throws_made, set_made, spaces_made, place_made, splits_made, joins_made, line_made, beginning_made, binds_along}
use Rattle.dg_meaning.specs.inside.Context.{Around, InBranch, InCut, Holds, Older, Shielded, StopIn, StepsIn, PathIn, BranchIn, BranchesIn, KeepsGathering, KeepGatherings, TakesOut}

-- ## Tags alone

-- the tags that a path names are those of choices around it, and its next choice is the newest
record TagsIn (ctx : List Around) (path : Path) : Type 0 where
  pub steps : StepsIn ctx path.steps
  pub stop : StopIn ctx path.registers.stoppable
  pub newer : Older path.registers.next_tag ctx

abbrev BranchTags : List Around → Branch → Type 0
BranchTags ctx (Enter path work) = TagsIn ctx path
BranchTags ctx (Clash r work) = Unit {0}
BranchTags ctx (TakeOut t whole into path) = TagsIn ctx path
BranchTags ctx (Finds place o args path) = TagsIn ctx path

abbrev BranchesTags : List Around → List Branch → Type 0
BranchesTags ctx [] = Unit {0}
BranchesTags ctx (b ∷ bs) = BranchTags ctx b × BranchesTags ctx bs

-- ## More around a path

shielded_push : (k : ChoiceKind) (t : ℕ) (bs : List Branch) (ctx : List Around) (s : ℕ) → Shielded ctx s → Shielded (InBranch k t bs ∷ ctx) s
shielded_push Shield t bs ctx s h = inr h
shielded_push _ t bs ctx s h = h

stop_push : (k : ChoiceKind) (t : ℕ) (bs : List Branch) (ctx : List Around) (o : Option ℕ) → StopIn ctx o → StopIn (InBranch k t bs ∷ ctx) o
stop_push k t bs ctx None h = tt
stop_push k t bs ctx (Some s) h = shielded_push k t bs ctx s h

steps_push : (k : ChoiceKind) (t : ℕ) (bs : List Branch) (ctx : List Around) (steps : List Step) → StepsIn ctx steps → StepsIn (InBranch k t bs ∷ ctx) steps
steps_push k t bs ctx [] h = tt
steps_push k t bs ctx (Do g env u ∷ steps) h = (inr h.0, steps_push k t bs ctx steps h.1)
steps_push k t bs ctx (Answers q ∷ steps) h = steps_push k t bs ctx steps h
steps_push k t bs ctx (Cut u ∷ steps) h = (inr h.0, steps_push k t bs ctx steps h.1)
steps_push k t bs ctx (Refuse u ∷ steps) h = (inr h.0, steps_push k t bs ctx steps h.1)
steps_push k t bs ctx (Back ∷ steps) h = steps_push k t bs ctx steps h
steps_push k t bs ctx (Keep u x env ∷ steps) h = steps_push k t bs ctx steps h
steps_push k t bs ctx (Leave u o ∷ steps) h = (inr h.0, (stop_push k t bs ctx o h.1.0, steps_push k t bs ctx steps h.1.1))

-- behind a mark nothing changes
pub stop_mark : (t : ℕ) (ctx : List Around) (o : Option ℕ) → StopIn ctx o → StopIn (InCut t ∷ ctx) o
stop_mark t ctx None h = tt
stop_mark t ctx (Some s) h = h

pub steps_mark : (t : ℕ) (ctx : List Around) (steps : List Step) → StepsIn ctx steps → StepsIn (InCut t ∷ ctx) steps
steps_mark t ctx [] h = tt
steps_mark t ctx (Do g env u ∷ steps) h = (h.0, steps_mark t ctx steps h.1)
steps_mark t ctx (Answers q ∷ steps) h = steps_mark t ctx steps h
steps_mark t ctx (Cut u ∷ steps) h = (h.0, steps_mark t ctx steps h.1)
steps_mark t ctx (Refuse u ∷ steps) h = (h.0, steps_mark t ctx steps h.1)
steps_mark t ctx (Back ∷ steps) h = steps_mark t ctx steps h
steps_mark t ctx (Keep u x env ∷ steps) h = steps_mark t ctx steps h
steps_mark t ctx (Leave u o ∷ steps) h = (h.0, (stop_mark t ctx o h.1.0, steps_mark t ctx steps h.1.1))

-- a branch that isn't stoppable is as good as a plain one
shielded_plain : (k : ChoiceKind) (t : ℕ) (bs cs : List Branch) (ctx : List Around) (s : ℕ) → Shielded (InBranch Plain t bs ∷ ctx) s → Shielded (InBranch k t cs ∷ ctx) s
shielded_plain Shield t bs cs ctx s h = inr h
shielded_plain _ t bs cs ctx s h = h

stop_others : (k : ChoiceKind) (t : ℕ) (bs cs : List Branch) (ctx : List Around) (o : Option ℕ) → StopIn (InBranch Plain t bs ∷ ctx) o → StopIn (InBranch k t cs ∷ ctx) o
stop_others k t bs cs ctx None h = tt
stop_others k t bs cs ctx (Some s) h = shielded_plain k t bs cs ctx s h

steps_others : (k : ChoiceKind) (t : ℕ) (bs cs : List Branch) (ctx : List Around) (steps : List Step) → StepsIn (InBranch Plain t bs ∷ ctx) steps → StepsIn (InBranch k t cs ∷ ctx) steps
steps_others k t bs cs ctx [] h = tt
steps_others k t bs cs ctx (Do g env u ∷ steps) h = (h.0, steps_others k t bs cs ctx steps h.1)
steps_others k t bs cs ctx (Answers q ∷ steps) h = steps_others k t bs cs ctx steps h
steps_others k t bs cs ctx (Cut u ∷ steps) h = (h.0, steps_others k t bs cs ctx steps h.1)
steps_others k t bs cs ctx (Refuse u ∷ steps) h = (h.0, steps_others k t bs cs ctx steps h.1)
steps_others k t bs cs ctx (Back ∷ steps) h = steps_others k t bs cs ctx steps h
steps_others k t bs cs ctx (Keep u x env ∷ steps) h = steps_others k t bs cs ctx steps h
steps_others k t bs cs ctx (Leave u o ∷ steps) h = (h.0, (stop_others k t bs cs ctx o h.1.0, steps_others k t bs cs ctx steps h.1.1))

path_others : (k : ChoiceKind) (t : ℕ) (bs cs : List Branch) (ctx : List Around) (path : Path) → TagsIn (InBranch Plain t bs ∷ ctx) path → TagsIn (InBranch k t cs ∷ ctx) path
path_others k t bs cs ctx path h = record { steps = steps_others k t bs cs ctx path.steps h.steps; stop = stop_others k t bs cs ctx path.registers.stoppable h.stop; newer = h.newer }

branch_others : (k : ChoiceKind) (t : ℕ) (bs cs : List Branch) (ctx : List Around) (b : Branch) → BranchTags (InBranch Plain t bs ∷ ctx) b → BranchTags (InBranch k t cs ∷ ctx) b
branch_others k t bs cs ctx (Enter path work) h = path_others k t bs cs ctx path h
branch_others k t bs cs ctx (Clash r work) h = tt
branch_others k t bs cs ctx (TakeOut u whole into path) h = path_others k t bs cs ctx path h
branch_others k t bs cs ctx (Finds place o args path) h = path_others k t bs cs ctx path h

steps_append : (ctx : List Around) (a b : List Step) → StepsIn ctx a → StepsIn ctx b → StepsIn ctx (a ++ b)
steps_append ctx [] b ha hb = hb
steps_append ctx (Do g env t ∷ a) b ha hb = (ha.0, steps_append ctx a b ha.1 hb)
steps_append ctx (Answers q ∷ a) b ha hb = steps_append ctx a b ha hb
steps_append ctx (Cut t ∷ a) b ha hb = (ha.0, steps_append ctx a b ha.1 hb)
steps_append ctx (Refuse t ∷ a) b ha hb = (ha.0, steps_append ctx a b ha.1 hb)
steps_append ctx (Back ∷ a) b ha hb = steps_append ctx a b ha hb
steps_append ctx (Keep t x env ∷ a) b ha hb = steps_append ctx a b ha hb
steps_append ctx (Leave t o ∷ a) b ha hb = (ha.0, (ha.1.0, steps_append ctx a b ha.1.1 hb))

goals_in : (ctx : List Around) (env : List Value) (t : ℕ) → Holds ctx t → (gs : List Goal) → StepsIn ctx (goals_at env t gs)
goals_in ctx env t h [] = tt
goals_in ctx env t h (g ∷ gs) = (h, goals_in ctx env t h gs)

older_raise : (t u : ℕ) (ctx : List Around) → t ≤ u → Older t ctx → Older u ctx
older_raise t u [] le h = tt
older_raise t u (InBranch k v bs ∷ ctx) le h = (omega (arith, h.0), older_raise t u ctx le h.1)
older_raise t u (InCut v ∷ ctx) le h = older_raise t u ctx le h

-- ## A move

-- the tags of a move stay inside, and it takes no gathering out before its time
abbrev MoveTags : List Around → Move → Type 0
MoveTags ctx (GoesOn path w) = TagsIn ctx path
MoveTags ctx (FailsAt w) = Unit {0}
MoveTags ctx (EndsAt e w) = Unit {0}
MoveTags ctx (StopsAt s w) = Shielded ctx s

abbrev OutcomeTags : List Around → Outcome → Type 0
OutcomeTags ctx (Moves m) = MoveTags ctx m
OutcomeTags ctx (Chooses k t b bs w) = Older t ctx × BranchTags (InBranch k t bs ∷ ctx) b × BranchesTags (InBranch Plain t [] ∷ ctx) bs × KeepsGathering b × TakesOut k t bs

if_keeps : (b : Bool) (path : Path) (work : ℕ) → KeepsGathering (enter_if b path work)
if_keeps true path work = tt
if_keeps false path work = tt

unless_keeps : (b : Bool) (r : Registers) (work : ℕ) (x : Branch) → KeepsGathering x → KeepsGathering (unless_excluded b r work x)
unless_keeps true r work x h = tt
unless_keeps false r work x h = h

rules_keep : (g : Game) (pred : ℕ) (args : List Value) (many : Bool) (steps : List Step) (r : Registers) (rules : List Rule) → KeepGatherings (rule_branches g pred args many steps r rules)
rules_keep g pred args many steps r [] = tt
rules_keep g pred args many steps r (rule ∷ rules) = (unless_keeps (is_excluded args r rule) r _ _ (if_keeps _ _ _), rules_keep g pred args many steps r rules)

objects_keep : (place : Option ℕ) (args : List Value) (many : Bool) (steps : List Step) (r : Registers) (os : List ℕ) → KeepGatherings (object_branches place args many steps r os)
objects_keep place args many steps r [] = tt
objects_keep place args many steps r (o ∷ os) = (tt, objects_keep place args many steps r os)

lists_keep : (env : List Value) (t : ℕ) (steps : List Step) (r : Registers) (lists : List (List Goal)) → KeepGatherings (list_branches env t steps r lists)
lists_keep env t steps r [] = tt
lists_keep env t steps r (goals ∷ lists) = (tt, lists_keep env t steps r lists)

if_in : (ctx : List Around) (b : Bool) (path : Path) (work : ℕ) → TagsIn ctx path → BranchTags ctx (enter_if b path work)
if_in ctx true path work h = h
if_in ctx false path work h = tt

unless_in : (ctx : List Around) (b : Bool) (r : Registers) (work : ℕ) (x : Branch) → BranchTags ctx x → BranchTags ctx (unless_excluded b r work x)
unless_in ctx true r work x h = tt
unless_in ctx false r work x h = h

module _ (ctx : List Around) (env : List Value) (t : ℕ) (steps : List Step) (r : Registers) (holds : Holds ctx t) (rest : StepsIn ctx steps) (stopping : StopIn ctx r.stoppable) (older : Older r.next_tag ctx) (here : top_of_values env ≤ r.next_var) where
  -- steps in a branch of the new choice
  abbrev In : List Step → Type 0
  In l = StepsIn (InBranch Plain r.next_tag [] ∷ ctx) l

  -- registers there
  pub record Inner (s : Registers) : Type 0 where
    pub stoppable : s.stoppable ≡ r.stoppable
    pub next_tag : s.next_tag ≡ r.next_tag + 1

  outside : In steps
  outside = steps_push Plain r.next_tag [] ctx steps rest

  goals : (gs : List Goal) (l : List Step) → In l → In (goals_at env t gs ++ l)
  goals gs l h = steps_append (InBranch Plain r.next_tag [] ∷ ctx) (goals_at env t gs) l (goals_in (InBranch Plain r.next_tag [] ∷ ctx) env t (inr holds) gs) h

  path : (s : Registers) (l : List Step) → Inner s → In l → TagsIn (InBranch Plain r.next_tag [] ∷ ctx) (path_of l s)
  path s l i h = record {
    steps = h;
    stop = subst (StopIn (InBranch Plain r.next_tag [] ∷ ctx)) (sym i.stoppable) (stop_push Plain r.next_tag [] ctx r.stoppable stopping);
    newer = subst (λ u. Older u (InBranch Plain r.next_tag [] ∷ ctx)) (sym i.next_tag) (omega arith, older_raise r.next_tag (r.next_tag + 1) ctx (omega arith) older);
  }

  one : (heap work : ℕ) (l : List Step) → In l → BranchTags (InBranch Plain r.next_tag [] ∷ ctx) (enter heap work r l)
  one heap work l h = path (inside heap r) l (record { stoppable = refl; next_tag = refl }) h

  first_in : (many : Bool) → In (first_alone many r.next_tag steps)
  first_in true = outside
  first_in false = (inl refl, outside)

  rule_in : (g : Game) (pred : ℕ) (args : List Value) (many : Bool) (heap : ℕ) (rule : Rule) → BranchTags (InBranch Plain r.next_tag [] ∷ ctx) (rule_branch g pred args many steps r heap rule)
  rule_in g pred args many heap rule =
      let here = InBranch Plain r.next_tag [] ∷ ctx in
      unless_in here (is_excluded args r rule) r _ _ (if_in here _ _ _ (path _ _ (record { stoppable = refl; next_tag = refl })
      (steps_append here (goals_at (vars_of rule r) r.next_tag rule.body) (Answers pred ∷ first_alone many r.next_tag steps) (goals_in here (vars_of rule r) r.next_tag (inl refl) rule.body) (first_in many))))

  rules_in : (g : Game) (pred : ℕ) (args : List Value) (many : Bool) (rules : List Rule) → BranchesTags (InBranch Plain r.next_tag [] ∷ ctx) (rule_branches g pred args many steps r rules)
  rules_in g pred args many [] = tt
  rules_in g pred args many (rule ∷ rules) = (rule_in g pred args many (call_cells args r rules) rule, rules_in g pred args many rules)

  objects_in : (place : Option ℕ) (args : List Value) (many : Bool) (os : List ℕ) → BranchesTags (InBranch Plain r.next_tag [] ∷ ctx) (object_branches place args many steps r os)
  objects_in place args many [] = tt
  objects_in place args many (o ∷ os) = (path _ _ (record { stoppable = refl; next_tag = refl }) (first_in many), objects_in place args many os)

  closure_in : (g : Game) (parts : Values) (closure : ClosureBody) (args : List Value) (many : Bool) → BranchTags (InBranch Plain r.next_tag [] ∷ ctx) (closure_branch g parts closure args many steps r)
  closure_in g parts closure args many =
      let here = InBranch Plain r.next_tag [] ∷ ctx in
      let env' = closure_vars parts closure r in
      if_in here _ _ _ (path _ _ (record { stoppable = refl; next_tag = refl })
      (steps_append here (goals_at env' r.next_tag closure.body) (first_alone many r.next_tag steps) (goals_in here env' r.next_tag (inl refl) closure.body) (first_in many)))

  lists_in : (lists : List (List Goal)) → BranchesTags (InBranch Plain r.next_tag [] ∷ ctx) (list_branches env t steps r lists)
  lists_in [] = tt
  lists_in (gs ∷ lists) = (one (choice_cells 0 lists) 1 _ (goals gs steps outside), lists_in lists)

  abbrev Here : List Around
  Here = InBranch Plain r.next_tag [] ∷ ctx

  -- a choice of branches that fit its kind
  abbrev Fit : ChoiceKind → List Branch → Type 0
  Fit k [] = Unit {0}
  Fit k (b ∷ bs) = BranchTags (InBranch k r.next_tag bs ∷ ctx) b × BranchesTags Here bs × KeepsGathering b × TakesOut k r.next_tag bs

  choice_tags : (k : ChoiceKind) (bs : List Branch) (w : World) → Fit k bs → OutcomeTags ctx (choice k r.next_tag bs w)
  choice_tags k [] w h = tt
  choice_tags k (b ∷ bs) w h = (older, h.0, h.1, h.2, h.3)

  fit_plain : (bs : List Branch) → BranchesTags Here bs → KeepGatherings bs → Fit Plain bs
  fit_plain [] h k = tt
  fit_plain (b ∷ bs) h k = (branch_others Plain r.next_tag [] bs ctx b h.0, h.1, k.0, k.1)

  fit_rules : (pred : ℕ) (bs : List Branch) → BranchesTags Here bs → KeepGatherings bs → Fit (Rules pred) bs
  fit_rules pred [] h k = tt
  fit_rules pred (b ∷ bs) h k = (branch_others (Rules pred) r.next_tag [] bs ctx b h.0, h.1, k.0, k.1)

  stop_in : (o : Option ℕ) (w : World) → StopIn ctx o → MoveTags ctx (stop o w)
  stop_in None w h = tt
  stop_in (Some s) w h = h

  fit_stoppable : (gs : List Goal) → Fit Shield (Enter (path_of (goals_at env t gs ++ Leave r.next_tag r.stoppable ∷ steps) (record (inside 10 r) { stoppable = Some r.next_tag })) 0 ∷ enter 0 0 r steps ∷ [])
  fit_stoppable gs =
      let others = enter 0 0 r steps ∷ [] in
      let here = InBranch Shield r.next_tag others ∷ ctx in
      let branch : TagsIn here (path_of (goals_at env t gs ++ Leave r.next_tag r.stoppable ∷ steps) (record (inside 10 r) { stoppable = Some r.next_tag })) = record {
        steps = steps_append here (goals_at env t gs) (Leave r.next_tag r.stoppable ∷ steps) (goals_in here env t (inr holds) gs) (inl refl, (stop_push Shield r.next_tag others ctx r.stoppable stopping, steps_push Shield r.next_tag others ctx steps rest));
        stop = inl refl;
        newer = (omega arith, older_raise r.next_tag (r.next_tag + 1) ctx (omega arith) older);
      } in
      (branch, (one 0 0 steps outside, tt), tt, (tt, tt))

  -- the search goes on with registers of the same tags
  on : (s : Registers) (b : Bool) (w : World) → s.stoppable ≡ r.stoppable → s.next_tag ≡ r.next_tag → MoveTags ctx (goes_on_if b steps s w)
  on s true w e f = record { steps = rest; stop = subst (StopIn ctx) (sym e) stopping; newer = subst (λ u. Older u ctx) (sym f) older }
  on s false w e f = tt

  abbrev ActTags : Act → Type 0
  ActTags (Goes next w) = StepsIn ctx next
  ActTags (Unifies made es w) = (made.stoppable ≡ r.stoppable) × (made.next_tag ≡ r.next_tag)
  ActTags act = Unit {0}

  act_tags : (a : Act) → ActTags a → MoveTags ctx (move_of steps r a)
  act_tags (Goes next w) h = record { steps = h; stop = stopping; newer = older }
  act_tags (Tests passed w) h = on r passed w refl refl
  act_tags (Unifies made es w) h = on _ _ _ h.0 h.1
  act_tags (Ends e w) h = tt
  act_tags (Fails w) h = tt
  act_tags (Stops w) h = stop_in r.stoppable w stopping

  made_tags : (a : Act) → ActMade steps r a → ActTags a
  made_tags (Goes next w) h = subst (StepsIn ctx) (sym h) rest
  made_tags (Tests passed w) h = tt
  made_tags (Unifies made es w) h = (h.0.stoppable, h.0.next_tag)
  made_tags (Ends e w) h = tt
  made_tags (Fails w) h = tt
  made_tags (Stops w) h = tt

  abbrev EffectTags : Effect → Type 0
  EffectTags (Acts a) = ActTags a
  EffectTags (Offers k bs w) = Fit k bs

  outcome_tags : (e : Effect) → EffectTags e → OutcomeTags ctx (outcome_of steps r e)
  outcome_tags (Acts a) h = act_tags a h
  outcome_tags (Offers k bs w) h = choice_tags k bs w h

  plain_two : (heap : ℕ) (l m : List Step) → In l → In m → Fit Plain (enter heap 0 r l ∷ enter 0 0 r m ∷ [])
  plain_two heap l m h k = fit_plain (enter heap 0 r l ∷ enter 0 0 r m ∷ []) (one heap 0 l h, (one 0 0 m k, tt)) (tt, (tt, tt))

  object_tags : (g : Game) (place : Option ℕ) (u v : Value) (args : List Value) (many : Bool) (w : World) → top_of_values args ≤ r.next_var → EffectTags (ask_object g place u v args many steps r w)
  object_tags g place (Var x) v args many w h = let os = numbers 0 g.program.objects in fit_plain (object_branches place (v ∷ args) many steps r os) (objects_in place (v ∷ args) many os) (objects_keep place (v ∷ args) many steps r os)
  object_tags g place (Node (Object o) vs) v args many w h = made_tags (reads_if_set args r (found w.facts place o) w) (set_made steps args r (found w.facts place o) w h)
  object_tags g place u v args many w h = tt

  objects_tags : (g : Game) (place : Option ℕ) (args : List Value) (many : Bool) (w : World) → top_of_values args ≤ r.next_var → EffectTags (ask_objects g place args many steps r w)
  objects_tags g place [] many w h = tt
  objects_tags g place (v ∷ args) many w h = object_tags g place (walk r.bound v) v args many (worked (looked_up r v) w) (omega (arith, h))

  place_tags : (g : Game) (place : ℕ) (kind : Option PlaceKind) (args : List Value) (many : Bool) (w : World) → top_of_values args ≤ r.next_var → EffectTags (ask_place g place kind args many steps r w)
  place_tags g place None args many w h = tt
  place_tags g place (Some Flag) args many w h = tt
  place_tags g place (Some Global) args many w h = made_tags (reads_if_set args r (value_at w.facts place 0) w) (set_made steps args r (value_at w.facts place 0) w h)
  place_tags g place (Some kind) args many w h = objects_tags g (Some place) args many w h

  body_tags : (g : Game) (parts : Values) (closure : Option ClosureBody) (args : List Value) (many : Bool) (w : World) → EffectTags (ask_body g parts closure args many steps r w)
  body_tags g parts None args many w = tt
  body_tags g parts (Some closure) args many w = fit_plain (closure_branch g parts closure args many steps r ∷ []) (closure_in g parts closure args many, tt) (if_keeps _ _ _, tt)

  closure_tags : (g : Game) (v : Value) (args : List Value) (many : Bool) (w : World) → EffectTags (ask_closure g v args many steps r w)
  closure_tags g (Node (Closure place) parts) args many w = body_tags g parts (slice_get g.program.closures place) args many w
  closure_tags g v args many w = tt

  gathers_tags : (g : Game) (whole : Whole) (term : Term) (gs : List Goal) (into : Term) (w : World) → EffectTags (gathers g whole term gs into env t steps r w)
  gathers_tags g whole term gs into w =
      let others = TakeOut r.next_tag whole (value_of g.program env into) (path_of steps (inside 0 r)) ∷ [] in
      (branch_others Gathers r.next_tag [] others ctx (enter 10 0 r (goals_at env t gs ++ Keep r.next_tag term env ∷ [])) (one 10 0 _ (goals gs (Keep r.next_tag term env ∷ []) tt)), (one 0 0 steps outside, tt), tt, refl)

  effect_tags : (g : Game) (x : Goal-F Goal) (w : World) → EffectTags (effect g x env t steps r w)
  effect_tags g (Text name) w = rest
  effect_tags g (Print-Form a) w = rest
  effect_tags g (Gap kind) w = rest
  effect_tags g (GapN a) w = let v = walk r.bound (value_of g.program env a) in made_tags (spaces v steps _) (spaces_made steps r v _)
  effect_tags g (Equal a b) w = (refl, refl)
  effect_tags g (Ask pred args many) w =
      let values = map (value_of g.program env) args in
      let rules = rules_of (slice_get g.program.preds pred) in
      fit_rules pred (rule_branches g pred values many steps r rules) (rules_in g pred values many rules) (rules_keep g pred values many steps r rules)
  effect_tags g (Either lists) w = fit_plain (list_branches env t steps r lists) (lists_in lists) (lists_keep env t steps r lists)
  effect_tags g (Once gs) w = let l = goals_at env t gs ++ Cut r.next_tag ∷ steps in fit_plain (enter 10 0 r l ∷ []) (one 10 0 l (goals gs (Cut r.next_tag ∷ steps) (inl refl, outside)), tt) (tt, tt)
  effect_tags g (Not gs) w = plain_two 10 (goals_at env t gs ++ Refuse r.next_tag ∷ []) steps (goals gs (Refuse r.next_tag ∷ []) (inl refl, tt)) outside
  effect_tags g (If test first other) w =
      plain_two 10 (goals_at env t test ++ Cut r.next_tag ∷ (goals_at env t first ++ steps)) (goals_at env t other ++ steps)
      (goals test (Cut r.next_tag ∷ (goals_at env t first ++ steps)) (inl refl, goals first steps outside)) (goals other steps outside)
  effect_tags g Just w = (holds, rest)
  effect_tags g Forever w = plain_two 10 steps (Do Forever-Goal env t ∷ steps) outside (inr holds, outside)
  effect_tags g (Exhaust gs) w = plain_two 10 (goals_at env t gs ++ Back ∷ []) steps (goals gs (Back ∷ []) tt) outside
  effect_tags g (Stoppable gs) w = fit_stoppable gs
  effect_tags g (HoldsAt place args many) w = place_tags g place (slice_get (kinds_of g.program) place) (map (value_of g.program env) args) many w (terms_below r.next_var g.program env args here)
  effect_tags g (IsObject a many) w = objects_tags g None (value_of g.program env a ∷ []) many w (omega (arith, term_below r.next_var g.program env a here))
  effect_tags g (Now place args sets) w =
      let kind = slice_get (kinds_of g.program) place in
      made_tags (change_place g place kind (map (value_of g.program env) args) sets steps r w) (place_made steps r r g place kind (map (value_of g.program env) args) sets w)
  effect_tags g (Query a b many) w = closure_tags g (walk r.bound (value_of g.program env a)) (map (value_of g.program env) (option_terms b)) many _
  effect_tags g (Select site mode lists) w = let gs = get_or lists (selects g site mode (length lists) w).branch [] in steps_append ctx (goals_at env t gs) steps (goals_in ctx env t holds gs) rest
  effect_tags g (Collect term gs into) w = gathers_tags g AsList term gs into w
  effect_tags g (Accumulate term gs into) w = gathers_tags g AsSum term gs into w
  effect_tags g (Arith op a b c) w =
      let v = value_of g.program env a in
      let u = value_of g.program env b in
      let n = of_numbers (calculated op) (walk r.bound v) (walk r.bound u) in
      let w' = worked (looked_up r v + looked_up r u) w in
      made_tags (gives_number n (value_of g.program env c) r w') (number_made steps r n (value_of g.program env c) w' (term_below r.next_var g.program env c here))
  effect_tags g (Random a b c) w =
      let v = value_of g.program env a in
      let u = value_of g.program env b in
      let n = of_numbers (thrown (die g.dice w.dice)) (walk r.bound v) (walk r.bound u) in
      let w' = worked (looked_up r v + looked_up r u) w in
      made_tags (throws n (value_of g.program env c) r w') (throws_made steps r n (value_of g.program env c) w' (term_below r.next_var g.program env c here))
  effect_tags g (SplitWord a b) w =
      let letters = letters_in_word g.program.words (walk r.bound (value_of g.program env a)) in
      let w' = worked (looked_up r (value_of g.program env a)) w in
      made_tags (splits g letters (value_of g.program env b) r w') (splits_made steps r g letters (value_of g.program env b) w' (term_below r.next_var g.program env b here))
  effect_tags g (JoinWords a b) w =
      let letters = joined_letters g.program.words (resolved r.bound (value_of g.program env a)) in
      let w' = worked (whole_looks r (value_of g.program env a)) w in
      made_tags (joins g letters (value_of g.program env b) r w') (joins_made steps r g letters (value_of g.program env b) w' (term_below r.next_var g.program env b here))
  effect_tags g (Input a) w = made_tags (takes_line g w.typed (value_of g.program env a) r w) (line_made steps r g w.typed (value_of g.program env a) w (term_below r.next_var g.program env a here))
  effect_tags g _ w = tt

move_tags : (g : Game) (x : Goal-F Goal) (ctx : List Around) (env : List Value) (t : ℕ) (steps : List Step) (r : Registers) (w : World) → Holds ctx t → StepsIn ctx steps → StopIn ctx r.stoppable → Older r.next_tag ctx → top_of_values env ≤ r.next_var → OutcomeTags ctx (move g x env t steps r w)
move_tags g x ctx env t steps r w holds rest stopping older here =
    let s = behind_terms g x r in
    let v = begun s (writing (terms_held x)) w in
    outcome_tags ctx env t steps s holds rest stopping older here (effect g x env t steps s v) (effect_tags ctx env t steps s holds rest stopping older here g x v)

-- ## With bindings

-- what a move names stays inside, its bindings are a substitution, and it takes no gathering out before its time
abbrev pub MoveIn : List Around → Move → Type 0
MoveIn ctx (GoesOn path w) = PathIn ctx path
MoveIn ctx (FailsAt w) = Unit {0}
MoveIn ctx (EndsAt e w) = Unit {0}
MoveIn ctx (StopsAt s w) = Shielded ctx s

abbrev pub OutcomeIn : List Around → Outcome → Type 0
OutcomeIn ctx (Moves m) = MoveIn ctx m
OutcomeIn ctx (Chooses k t b bs w) = Older t ctx × BranchIn (InBranch k t bs ∷ ctx) b × BranchesIn (InBranch Plain t [] ∷ ctx) bs × KeepsGathering b × TakesOut k t bs

path_with : (ctx : List Around) (path : Path) → TagsIn ctx path → IsBound path → PathIn ctx path
path_with ctx path h bound = record { steps = h.steps; stop = h.stop; newer = h.newer; bound = bound }

branch_with : (ctx : List Around) (r : Registers) (b : Branch) → BranchTags ctx b → BranchBinds r b → BranchIn ctx b
branch_with ctx r (Enter path work) h k = path_with ctx path h k.is
branch_with ctx r (Clash s work) h k = tt
branch_with ctx r (TakeOut u whole into path) h k = (path_with ctx path h k.0.is, k.1)
branch_with ctx r (Finds place o args path) h k = (path_with ctx path h k.0.is, k.1)

branches_with : (ctx : List Around) (r : Registers) (bs : List Branch) → BranchesTags ctx bs → BranchesBind r bs → BranchesIn ctx bs
branches_with ctx r [] h k = tt
branches_with ctx r (b ∷ bs) h k = (branch_with ctx r b h.0 k.0, branches_with ctx r bs h.1 k.1)

move_with : (ctx : List Around) (r : Registers) (m : Move) → MoveTags ctx m → MoveBinds r m → MoveIn ctx m
move_with ctx r (GoesOn path w) h k = path_with ctx path h k.is
move_with ctx r (FailsAt w) h k = tt
move_with ctx r (EndsAt e w) h k = tt
move_with ctx r (StopsAt s w) h k = h

outcome_with : (ctx : List Around) (r : Registers) (m : Outcome) → OutcomeTags ctx m → OutcomeBinds r m → OutcomeIn ctx m
outcome_with ctx r (Moves m) h k = move_with ctx r m h k
outcome_with ctx r (Chooses kind t b bs w) h k = (h.0, branch_with (InBranch kind t bs ∷ ctx) r b h.1 k.0, branches_with (InBranch Plain t [] ∷ ctx) r bs h.2 k.1, h.3, h.4)

pub move_in : (g : Game) (x : Goal) (ctx : List Around) (env : List Value) (t : ℕ) (steps : List Step) (r : Registers) (w : World) → PathIn ctx (path_of (Do x env t ∷ steps) r) → OutcomeIn ctx (move g (out-Goal x) env t steps r w)
move_in g x ctx env t steps r w h =
    outcome_with ctx r (move g (out-Goal x) env t steps r w) (move_tags g (out-Goal x) ctx env t steps r w h.steps.0 h.steps.1 h.stop h.newer (omega (arith, h.bound.steps))) (binds_along.takes g x env t steps r w h.bound)

-- a branch that isn't stoppable is as good as a plain one
pub others_in : (k : ChoiceKind) (t : ℕ) (bs cs : List Branch) (ctx : List Around) (b : Branch) → BranchIn (InBranch Plain t bs ∷ ctx) b → BranchIn (InBranch k t cs ∷ ctx) b
others_in k t bs cs ctx (Enter path work) h = path_with (InBranch k t cs ∷ ctx) path (path_others k t bs cs ctx path (record { steps = h.steps; stop = h.stop; newer = h.newer })) h.bound
others_in k t bs cs ctx (Clash r work) h = tt
others_in k t bs cs ctx (TakeOut u whole into path) h = (path_with (InBranch k t cs ∷ ctx) path (path_others k t bs cs ctx path (record { steps = h.0.steps; stop = h.0.stop; newer = h.0.newer })) h.0.bound, h.1)
others_in k t bs cs ctx (Finds place o args path) h = (path_with (InBranch k t cs ∷ ctx) path (path_others k t bs cs ctx path (record { steps = h.0.steps; stop = h.0.stop; newer = h.0.newer })) h.0.bound, h.1)

-- ## The beginning of a branch

-- it goes on with its path, or with registers in which values were made
begins_if : (ctx : List Around) (path : Path) (s : Registers) (b : Bool) (w : World) → PathIn ctx path → s.stoppable ≡ path.registers.stoppable → s.next_tag ≡ path.registers.next_tag → MoveTags ctx (goes_on_if b path.steps s w)
begins_if ctx path s true w h e f = record { steps = h.steps; stop = subst (StopIn ctx) (sym e) h.stop; newer = subst (λ u. Older u ctx) (sym f) h.newer }
begins_if ctx path s false w h e f = tt

stops_in : (ctx : List Around) (o : Option ℕ) (w : World) → StopIn ctx o → MoveTags ctx (stop o w)
stops_in ctx None w h = tt
stops_in ctx (Some s) w h = h

path_begins_in : (ctx : List Around) (path : Path) (a : Act) → PathIn ctx path → ActMade path.steps path.registers a → MoveTags ctx (move_of path.steps path.registers a)
path_begins_in ctx path (Goes next w) h made = record { steps = subst (StepsIn ctx) (sym made) h.steps; stop = h.stop; newer = h.newer }
path_begins_in ctx path (Tests passed w) h made = begins_if ctx path path.registers passed w h refl refl
path_begins_in ctx path (Unifies s es w) h made = begins_if ctx path _ _ _ h made.0.stoppable made.0.next_tag
path_begins_in ctx path (Ends e w) h made = tt
path_begins_in ctx path (Fails w) h made = tt
path_begins_in ctx path (Stops w) h made = stops_in ctx path.registers.stoppable w h.stop

-- the registers of a branch, to which its own path has only added
behind_itself : (path : Path) → IsBound path → IsBoundBehind path.registers path
behind_itself path h = record { binds = record { bindings = record { made = []; is = refl; sound = h.sound }; variables = omega arith }; is = h }

pub begin_in : (ctx : List Around) (b : Branch) (w : World) → BranchIn ctx b → MoveIn ctx (begins b w)
begin_in ctx (Enter path work) w h = h
begin_in ctx (Clash r work) w h = tt
begin_in ctx (TakeOut t whole into path) w h =
    let b = TakeOut t whole into path in
    let binds : BranchBinds path.registers b = (behind_itself path h.0.bound, h.1) in
    move_with ctx path.registers (begins b w) (path_begins_in ctx path (beginning b w) h.0 (beginning_made path.registers b w binds)) (binds_along.begins_on path.registers b w binds)
begin_in ctx (Finds place o args path) w h =
    let b = Finds place o args path in
    let binds : BranchBinds path.registers b = (behind_itself path h.0.bound, h.1) in
    move_with ctx path.registers (begins b w) (path_begins_in ctx path (beginning b w) h.0 (beginning_made path.registers b w binds)) (binds_along.begins_on path.registers b w binds)
