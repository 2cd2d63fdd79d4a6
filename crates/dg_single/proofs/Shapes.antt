-- What the steps are that goals lead to, where the steps behind them are of some kind.
use Rattle.std.proofs.Common.{◌≡◌, ◌≢◌, ℕ, ◌+◌, ◌⊎◌, inl, inr, List, [], ◌∷◌, ◌++◌, Option, Some, None, Bool, true, false, refl, sym, ap, ◌∙◌, subst, length, map}
use Rattle.std.specs.Prelude.{slice_get, get_or}
use Rattle.dg_base.specs.declared.program.ClosureBody.{ClosureBody}
use Rattle.dg_base.specs.declared.program.Goal.{Goal, Goal-F}
use Rattle.dg_base.specs.declared.program.Goal.TheOpen.{Text, Print as Print-Form, Gap, GapN, Equal, Ask, Holds, Now, Query, Either, Once, Not, If, Just, Fail, Stop, Quit, Forever, Exhaust, Collect, Accumulate, Stoppable, Select, Arith, Compare, Random, Test, IsObject, Input, SplitWord, JoinWords}
use Rattle.dg_base.specs.declared.program.Goal.TheVariants.{Forever as Forever-Goal}
use Rattle.dg_base.specs.declared.program.Rule.{Rule}
use Rattle.dg_base.specs.declared.program.Pred.{Pred}
use Rattle.dg_base.specs.declared.program.PlaceKind.{PlaceKind}
use Rattle.dg_base.specs.declared.program.PlaceKind.TheVariants.{Flag, Global}
use Rattle.dg_base.specs.Goals.{option_terms}
use Rattle.dg_meaning.specs.Values.{Num, Object, Closure, Value, Var, Node, Values, value_of}
use Rattle.dg_meaning.specs.Substitutions.{walk, resolved}
use Rattle.dg_meaning.specs.Facts.{Alteration, value_at, kinds_of}
use Rattle.dg_meaning.specs.Changes.{found, change_of}
use Rattle.dg_meaning.specs.Numbers.{of_numbers, calculated, thrown, total}
use Rattle.dg_meaning.specs.Words.{letters_in_word, joined_letters}
use Rattle.dg_meaning.specs.Choosing.{die}
use Rattle.dg_meaning.specs.World.{Game, World, worked, gathered_at}
use Rattle.dg_meaning.specs.Path.{Step, Do, Answers, Cut, Refuse, Back, Keep, Leave, Registers, Path, Whole, AsList, AsSum, Branch, Enter, Clash, TakeOut, Finds, Act, Goes, Tests, Unifies, Ends, Fails, Stops, Effect, Acts, Offers}
use Rattle.dg_meaning.specs.Moves.{goals_at, enter_if, call_cells, is_excluded, unless_excluded, list_branches, first_alone, vars_of, rule_branch, rule_branches, rules_of, closure_vars, closure_branch, numbers, object_branches, gives_number, reads, reads_if_set, finds, finds_if_set, takes_out, path_at, beginning, spaces, ask_object, ask_objects, ask_place, changes, change_place, ask_body, ask_closure, looked_up, whole_looks, selects, throws, splits, joins, takes_line, effect}
use Rattle.dg_meaning.specs.inside.OneAnswer.{IsFree}

-- ## Acts that name no steps of their own

-- what is done goes on with the steps behind, if it goes on at all, and the innermost stoppable part stays
abbrev pub IsQuiet : List Step → Registers → Act → Type 0
IsQuiet steps r (Goes next w) = next ≡ steps
IsQuiet steps r (Unifies made es w) = made.stoppable ≡ r.stoppable
IsQuiet steps r act = Unit {0}

pub number_quiet : (steps : List Step) (r : Registers) (n : Option ℕ) (into : Value) (w : World) → IsQuiet steps r (gives_number n into r w)
number_quiet steps r None into w = tt
number_quiet steps r (Some n) into w = refl

pub throws_quiet : (steps : List Step) (r : Registers) (n : Option ℕ) (into : Value) (w : World) → IsQuiet steps r (throws n into r w)
throws_quiet steps r None into w = tt
throws_quiet steps r (Some n) into w = refl

reads_quiet : (steps : List Step) (args : List Value) (r : Registers) (v : Value) (w : World) → IsQuiet steps r (reads args r v w)
reads_quiet steps [] r v w = tt
reads_quiet steps (arg ∷ args) r v w = refl

set_quiet : (steps : List Step) (args : List Value) (r : Registers) (v : Option Value) (w : World) → IsQuiet steps r (reads_if_set args r v w)
set_quiet steps args r None w = tt
set_quiet steps args r (Some v) w = reads_quiet steps args r v w

finds_quiet : (steps : List Step) (args : List Value) (o : ℕ) (r : Registers) (v : Value) (w : World) → IsQuiet steps r (finds args o r v w)
finds_quiet steps [] o r v w = tt
finds_quiet steps (a ∷ []) o r v w = refl
finds_quiet steps (a ∷ b ∷ args) o r v w = refl

finds_set_quiet : (steps : List Step) (args : List Value) (o : ℕ) (r : Registers) (v : Option Value) (w : World) → IsQuiet steps r (finds_if_set args o r v w)
finds_set_quiet steps args o r None w = tt
finds_set_quiet steps args o r (Some v) w = finds_quiet steps args o r v w

takes_out_quiet : (steps : List Step) (whole : Whole) (into : Value) (vs : List Value) (r : Registers) (w : World) → IsQuiet steps r (takes_out whole into vs r w)
takes_out_quiet steps AsList into vs r w = refl
takes_out_quiet steps AsSum into vs r w = number_quiet steps r (total vs) into _

pub spaces_quiet : (steps : List Step) (r : Registers) (v : Value) (w : World) → IsQuiet steps r (spaces v steps w)
spaces_quiet steps r (Node (Num n) vs) w = refl
spaces_quiet steps r v w = tt

changes_quiet : (steps : List Step) (r : Registers) (g : Game) (kind : PlaceKind) (a : Option Alteration) (w : World) → IsQuiet steps r (changes g kind a steps w)
changes_quiet steps r g kind None w = tt
changes_quiet steps r g kind (Some a) w = refl

pub place_quiet : (steps : List Step) (r : Registers) (g : Game) (place : ℕ) (kind : Option PlaceKind) (args : List Value) (sets : Bool) (w : World) → IsQuiet steps r (change_place g place kind args sets steps r w)
place_quiet steps r g place None args sets w = tt
place_quiet steps r g place (Some kind) args sets w = changes_quiet steps r g kind (change_of (length g.program.objects) kind place sets (map (resolved r.bound) args)) _

pub splits_quiet : (steps : List Step) (r : Registers) (g : Game) (letters : Option (List ℕ)) (into : Value) (w : World) → IsQuiet steps r (splits g letters into r w)
splits_quiet steps r g None into w = tt
splits_quiet steps r g (Some letters) into w = refl

pub joins_quiet : (steps : List Step) (r : Registers) (g : Game) (letters : Option (List ℕ)) (into : Value) (w : World) → IsQuiet steps r (joins g letters into r w)
joins_quiet steps r g None into w = tt
joins_quiet steps r g (Some letters) into w = refl

pub line_quiet : (steps : List Step) (r : Registers) (g : Game) (typed : List ℕ) (into : Value) (w : World) → IsQuiet steps r (takes_line g typed into r w)
line_quiet steps r g [] into w = tt
line_quiet steps r g (b ∷ bytes) into w = refl

pub beginning_quiet : (b : Branch) (w : World) → IsQuiet (path_at b).steps (path_at b).registers (beginning b w)
beginning_quiet (Enter path work) w = refl
beginning_quiet (Clash r work) w = tt
beginning_quiet (TakeOut t whole into path) w = takes_out_quiet path.steps whole into (gathered_at t w.gathered) path.registers _
beginning_quiet (Finds place o args path) w = finds_set_quiet path.steps args o path.registers (found w.facts place o) _

-- ## Steps of some kind

-- a kind of steps, where this is the innermost stoppable part, that has more steps in front
pub record Grown (q : ℕ) (P : Option ℕ → List Step → Type 0) : Type 0 where
  pub does : (o : Option ℕ) (x : Goal) (env : List Value) (t : ℕ) (s : List Step) → P o s → P o (Do x env t ∷ s)
  pub tells : (o : Option ℕ) (p : ℕ) (s : List Step) → p ≢ q → P o s → P o (Answers p ∷ s)
  pub cuts : (o : Option ℕ) (t : ℕ) (s : List Step) → P o s → P o (Cut t ∷ s)
  pub leaves : (o : Option ℕ) (t : ℕ) (s : List Step) → P o s → P (Some t) (Leave t o ∷ s)

-- the steps of a path are of that kind, or none of them tells an answer of q
abbrev pub PathFits : ℕ → (Option ℕ → List Step → Type 0) → Path → Type 0
PathFits q P path = IsFree q path.steps ⊎ P path.registers.stoppable path.steps

abbrev pub Fits : ℕ → (Option ℕ → List Step → Type 0) → Branch → Type 0
Fits q P b = PathFits q P (path_at b)

abbrev pub AllFit : ℕ → (Option ℕ → List Step → Type 0) → List Branch → Type 0
AllFit q P [] = Unit {0}
AllFit q P (b ∷ bs) = Fits q P b × AllFit q P bs

abbrev pub ActFits : (Option ℕ → List Step → Type 0) → Registers → Act → Type 0
ActFits P r (Goes next w) = P r.stoppable next
ActFits P r (Unifies made es w) = made.stoppable ≡ r.stoppable
ActFits P r act = Unit {0}

abbrev pub EffectFits : ℕ → (Option ℕ → List Step → Type 0) → Registers → Effect → Type 0
EffectFits q P r (Acts a) = ActFits P r a
EffectFits q P r (Offers k bs w) = AllFit q P bs

pub quiet_fits : (P : Option ℕ → List Step → Type 0) (steps : List Step) (r : Registers) → P r.stoppable steps → (a : Act) → IsQuiet steps r a → ActFits P r a
quiet_fits P steps r here (Goes next w) h = subst (P r.stoppable) (sym h) here
quiet_fits P steps r here (Tests passed w) h = tt
quiet_fits P steps r here (Unifies made es w) h = h
quiet_fits P steps r here (Ends e w) h = tt
quiet_fits P steps r here (Fails w) h = tt
quiet_fits P steps r here (Stops w) h = tt

pub free_goals : (q : ℕ) (env : List Value) (t : ℕ) (gs : List Goal) (l : List Step) → IsFree q l → IsFree q (goals_at env t gs ++ l)
free_goals q env t [] l h = h
free_goals q env t (x ∷ gs) l h = free_goals q env t gs l h

pub if_fits : (q : ℕ) (P : Option ℕ → List Step → Type 0) (b : Bool) (path : Path) (work : ℕ) → PathFits q P path → Fits q P (enter_if b path work)
if_fits q P true path work h = h
if_fits q P false path work h = inl tt

pub unless_fits : (q : ℕ) (P : Option ℕ → List Step → Type 0) (b : Bool) (r : Registers) (work : ℕ) (x : Branch) → Fits q P x → Fits q P (unless_excluded b r work x)
unless_fits q P true r work x h = inl tt
unless_fits q P false r work x h = h

-- what is read goes on with no steps of its own
reads_fit : (P : Option ℕ → List Step → Type 0) (args : List Value) (r : Registers) (v : Value) (w : World) → ActFits P r (reads args r v w)
reads_fit P [] r v w = tt
reads_fit P (arg ∷ args) r v w = refl

set_fits : (P : Option ℕ → List Step → Type 0) (args : List Value) (r : Registers) (v : Option Value) (w : World) → ActFits P r (reads_if_set args r v w)
set_fits P args r None w = tt
set_fits P args r (Some v) w = reads_fit P args r v w

module _ (g : Game) (q : ℕ) (none : slice_get g.program.preds q ≡ None) (P : Option ℕ → List Step → Type 0) (grown : Grown q P) (steps : List Step) (r : Registers) where
  goals : (o : Option ℕ) (e : List Value) (u : ℕ) (gs : List Goal) (l : List Step) → P o l → P o (goals_at e u gs ++ l)
  goals o e u [] l h = h
  goals o e u (x ∷ gs) l h = grown.does o x e u (goals_at e u gs ++ l) (goals o e u gs l h)

  rule_fits : (pred : ℕ) → pred ≢ q → (args : List Value) (many : Bool) (heap : ℕ) (rule : Rule) → P r.stoppable (first_alone many r.next_tag steps) → Fits q P (rule_branch g pred args many steps r heap rule)
  rule_fits pred ne args many heap rule f =
      unless_fits q P (is_excluded args r rule) r _ _ (if_fits q P _ _ _ (inr (goals r.stoppable (vars_of rule r) r.next_tag rule.body (Answers pred ∷ first_alone many r.next_tag steps) (grown.tells r.stoppable pred _ ne f))))

  rules_fit : (pred : ℕ) → pred ≢ q → (args : List Value) (many : Bool) (rules : List Rule) → P r.stoppable (first_alone many r.next_tag steps) → AllFit q P (rule_branches g pred args many steps r rules)
  rules_fit pred ne args many [] f = tt
  rules_fit pred ne args many (rule ∷ rules) f = (rule_fits pred ne args many (call_cells args r rules) rule f, rules_fit pred ne args many rules f)

  pub preds_fit : (pred : ℕ) (o : Option Pred) → slice_get g.program.preds pred ≡ o → (args : List Value) (many : Bool) → P r.stoppable (first_alone many r.next_tag steps) → AllFit q P (rule_branches g pred args many steps r (rules_of o))
  preds_fit pred None e args many f = tt
  preds_fit pred (Some p) e args many f = rules_fit pred (λ is. let s : Some p ≡ None = sym e ∙ ap (slice_get g.program.preds) is ∙ none in absurd (cc (s))) args many p.rules f

  objects_fit : (place : Option ℕ) (args : List Value) (many : Bool) (os : List ℕ) → P r.stoppable (first_alone many r.next_tag steps) → AllFit q P (object_branches place args many steps r os)
  objects_fit place args many [] f = tt
  objects_fit place args many (o ∷ os) f = (inr f, objects_fit place args many os f)

  object_fits : (place : Option ℕ) (u v : Value) (args : List Value) (many : Bool) (w : World) → P r.stoppable (first_alone many r.next_tag steps) → EffectFits q P r (ask_object g place u v args many steps r w)
  object_fits place (Var x) v args many w f = objects_fit place (v ∷ args) many (numbers 0 g.program.objects) f
  object_fits place (Node (Object o) vs) v args many w f = set_fits P args r (found w.facts place o) w
  object_fits place u v args many w f = tt

  pub asked_fits : (place : Option ℕ) (args : List Value) (many : Bool) (w : World) → P r.stoppable (first_alone many r.next_tag steps) → EffectFits q P r (ask_objects g place args many steps r w)
  asked_fits place [] many w f = tt
  asked_fits place (v ∷ args) many w f = object_fits place (walk r.bound v) v args many (worked (looked_up r v) w) f

  pub place_fits : (place : ℕ) (kind : Option PlaceKind) (args : List Value) (many : Bool) (w : World) → P r.stoppable (first_alone many r.next_tag steps) → EffectFits q P r (ask_place g place kind args many steps r w)
  place_fits place None args many w f = tt
  place_fits place (Some Flag) args many w f = tt
  place_fits place (Some Global) args many w f = set_fits P args r (value_at w.facts place 0) w
  place_fits place (Some kind) args many w f = asked_fits (Some place) args many w f

  closure_fits : (parts : Values) (closure : ClosureBody) (args : List Value) (many : Bool) → P r.stoppable (first_alone many r.next_tag steps) → Fits q P (closure_branch g parts closure args many steps r)
  closure_fits parts closure args many f = if_fits q P _ _ _ (inr (goals r.stoppable (closure_vars parts closure r) r.next_tag closure.body (first_alone many r.next_tag steps) f))

  body_fits : (parts : Values) (closure : Option ClosureBody) (args : List Value) (many : Bool) (w : World) → P r.stoppable (first_alone many r.next_tag steps) → EffectFits q P r (ask_body g parts closure args many steps r w)
  body_fits parts None args many w f = tt
  body_fits parts (Some closure) args many w f = (closure_fits parts closure args many f, tt)

  pub query_fits : (v : Value) (args : List Value) (many : Bool) (w : World) → P r.stoppable (first_alone many r.next_tag steps) → EffectFits q P r (ask_closure g v args many steps r w)
  query_fits (Node (Closure place) parts) args many w f = body_fits parts (slice_get g.program.closures place) args many w f
  query_fits v args many w f = tt

module _ (g : Game) (q : ℕ) (none : slice_get g.program.preds q ≡ None) (P : Option ℕ → List Step → Type 0) (grown : Grown q P) (env : List Value) (t : ℕ) (steps : List Step) (r : Registers) (here : P r.stoppable steps) where
  goals_of : (o : Option ℕ) (e : List Value) (u : ℕ) (gs : List Goal) (l : List Step) → P o l → P o (goals_at e u gs ++ l)
  goals_of o e u gs l h = goals g q none P grown steps r o e u gs l h

  first : (many : Bool) → P r.stoppable (first_alone many r.next_tag steps)
  first true = here
  first false = grown.cuts r.stoppable r.next_tag steps here

  lists_fit : (lists : List (List Goal)) → AllFit q P (list_branches env t steps r lists)
  lists_fit [] = tt
  lists_fit (gs ∷ lists) = (inr (goals_of r.stoppable env t gs steps here), lists_fit lists)

  quiet : (a : Act) → IsQuiet steps r a → ActFits P r a
  quiet a h = quiet_fits P steps r here a h

  pub effect_fits : (x : Goal-F Goal) (w : World) → EffectFits q P r (effect g x env t steps r w)
  effect_fits (Text name) w = here
  effect_fits (Print-Form a) w = here
  effect_fits (Gap kind) w = here
  effect_fits (GapN a) w = quiet (spaces (walk r.bound (value_of g.program env a)) steps _) (spaces_quiet steps r (walk r.bound (value_of g.program env a)) _)
  effect_fits (Equal a b) w = refl
  effect_fits (Ask pred args many) w = preds_fit g q none P grown steps r pred (slice_get g.program.preds pred) refl (map (value_of g.program env) args) many (first many)
  effect_fits (Holds place args many) w = place_fits g q none P grown steps r place (slice_get (kinds_of g.program) place) (map (value_of g.program env) args) many w (first many)
  effect_fits (IsObject a many) w = asked_fits g q none P grown steps r None (value_of g.program env a ∷ []) many w (first many)
  effect_fits (Now place args sets) w =
      let kind = slice_get (kinds_of g.program) place in
      quiet (change_place g place kind (map (value_of g.program env) args) sets steps r w) (place_quiet steps r g place kind (map (value_of g.program env) args) sets w)
  effect_fits (Query a b many) w = query_fits g q none P grown steps r (walk r.bound (value_of g.program env a)) (map (value_of g.program env) (option_terms b)) many _ (first many)
  effect_fits (Either lists) w = lists_fit lists
  effect_fits (Select site mode lists) w = goals_of r.stoppable env t (get_or lists (selects g site mode (length lists) w).branch []) steps here
  effect_fits (Once gs) w = (inr (goals_of r.stoppable env t gs (Cut r.next_tag ∷ steps) (grown.cuts r.stoppable r.next_tag steps here)), tt)
  effect_fits (Not gs) w = (inl (free_goals q env t gs (Refuse r.next_tag ∷ []) tt), (inr here, tt))
  effect_fits (If test first' other) w =
      (inr (goals_of r.stoppable env t test (Cut r.next_tag ∷ (goals_at env t first' ++ steps)) (grown.cuts r.stoppable r.next_tag _ (goals_of r.stoppable env t first' steps here))), (inr (goals_of r.stoppable env t other steps here), tt))
  effect_fits Just w = grown.cuts r.stoppable t steps here
  effect_fits Forever w = (inr here, (inr (grown.does r.stoppable Forever-Goal env t steps here), tt))
  effect_fits (Exhaust gs) w = (inl (free_goals q env t gs (Back ∷ []) tt), (inr here, tt))
  effect_fits (Collect x gs into) w = (inl (free_goals q env t gs (Keep r.next_tag x env ∷ []) tt), (inr here, tt))
  effect_fits (Accumulate x gs into) w = (inl (free_goals q env t gs (Keep r.next_tag x env ∷ []) tt), (inr here, tt))
  effect_fits (Stoppable gs) w = (inr (goals_of (Some r.next_tag) env t gs (Leave r.next_tag r.stoppable ∷ steps) (grown.leaves r.stoppable r.next_tag steps here)), (inr here, tt))
  effect_fits (Arith op a b c) w =
      let v = value_of g.program env a in
      let u = value_of g.program env b in
      let n = of_numbers (calculated op) (walk r.bound v) (walk r.bound u) in
      let w' = worked (looked_up r v + looked_up r u) w in
      quiet (gives_number n (value_of g.program env c) r w') (number_quiet steps r n (value_of g.program env c) w')
  effect_fits (Compare op a b) w = tt
  effect_fits (Random a b c) w =
      let v = value_of g.program env a in
      let u = value_of g.program env b in
      let n = of_numbers (thrown (die g.dice w.dice)) (walk r.bound v) (walk r.bound u) in
      let w' = worked (looked_up r v + looked_up r u) w in
      quiet (throws n (value_of g.program env c) r w') (throws_quiet steps r n (value_of g.program env c) w')
  effect_fits (SplitWord a b) w =
      let letters = letters_in_word g.program.words (walk r.bound (value_of g.program env a)) in
      let w' = worked (looked_up r (value_of g.program env a)) w in
      quiet (splits g letters (value_of g.program env b) r w') (splits_quiet steps r g letters (value_of g.program env b) w')
  effect_fits (JoinWords a b) w =
      let letters = joined_letters g.program.words (resolved r.bound (value_of g.program env a)) in
      let w' = worked (whole_looks r (value_of g.program env a)) w in
      quiet (joins g letters (value_of g.program env b) r w') (joins_quiet steps r g letters (value_of g.program env b) w')
  effect_fits (Input a) w = quiet (takes_line g w.typed (value_of g.program env a) r w) (line_quiet steps r g w.typed (value_of g.program env a) w)
  effect_fits (Test kind a) w = tt
  effect_fits Fail w = tt
  effect_fits Stop w = tt
  effect_fits Quit w = tt
