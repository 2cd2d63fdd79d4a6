-- What comes of a goal in front of two lists of steps that are related: the same, in front of lists that are related.
use Rattle.std.proofs.Common.{ℕ, List, [], ◌∷◌, ◌++◌, Option, Some, None, Bool, true, false, map, length}
use Rattle.std.specs.Prelude.{slice_get, get_or, if◌then◌else◌}
use Rattle.dg_base.specs.declared.program.Term.{Term}
use Rattle.dg_base.specs.declared.program.ClosureBody.{ClosureBody}
use Rattle.dg_base.specs.declared.program.PlaceKind.{PlaceKind}
use Rattle.dg_base.specs.declared.program.PlaceKind.TheVariants.{Flag, Global}
use Rattle.dg_base.specs.declared.program.Goal.{Goal, Goal-F}
use Rattle.dg_base.specs.declared.program.Goal.TheOpen.{Text, Print as Print-Form, Gap, GapN, Equal, Ask, Holds as HoldsAt, Now, Query, Either, Once, Not, If, Just, Fail, Stop, Quit, Forever, Exhaust, Collect, Accumulate, Stoppable, Select, Arith, Compare, Random, Test, IsObject, Input, SplitWord, JoinWords}
use Rattle.dg_base.specs.declared.program.Goal.TheVariants.{Forever as Forever-Goal}
use Rattle.dg_base.specs.declared.program.Rule.{Rule}
use Rattle.dg_base.specs.Goals.{terms_held, option_terms}
use Rattle.dg_base.specs.declared.run.Ending.TheVariants.{Stopped}
use Rattle.dg_meaning.specs.Values.{Num, Object, Closure, Value, Var, Node, Values, value_of}
use Rattle.dg_meaning.specs.Substitutions.{walk, resolved}
use Rattle.dg_meaning.specs.Unify.{solve}
use Rattle.dg_meaning.specs.Numbers.{of_numbers, calculated, thrown, total}
use Rattle.dg_meaning.specs.Words.{letters_in_word, joined_letters}
use Rattle.dg_meaning.specs.Choosing.{die}
use Rattle.dg_meaning.specs.Facts.{value_at, Alteration, kinds_of}
use Rattle.dg_meaning.specs.Changes.{found}
use Rattle.dg_meaning.specs.World.{Game, World, worked}
use Rattle.dg_meaning.specs.Cells.{writing}
use Rattle.dg_meaning.specs.Path.{Step, Do, Answers, Cut, Refuse, Back, Keep, Leave, Registers, Whole, AsList, AsSum, Branch, Enter, Clash, TakeOut, Finds, ChoiceKind, Plain, Rules, Shield, Gathers, Move, GoesOn, FailsAt, EndsAt, StopsAt, Outcome, Moves, Chooses, Act, Goes, Tests, Unifies, Ends, Fails, Stops, Effect, Acts, Offers}
use Rattle.dg_meaning.specs.Moves.{path_of, exhausted, begun, bound_by, made_since, goals_at, inside, enter, enter_if, choice_cells, is_excluded, call_cells, unless_excluded, entering, unifying, list_branches, first_alone, vars_of, match, matched, entered, rule_steps, rule_branch, rule_branches, rules_of, goes_on_if, stop, move_of, effect, outcome_of, behind_terms, move, closure_vars, closure_head, closure_steps, closure_branch, entered_with, entering_with, head_equations, numbers, object_branches, reads_if_set, takes_out, finds_if_set, beginning, begins, spaces, ask_object, ask_objects, ask_place, changes, change_place, ask_body, ask_closure, looked_up, selects, selected, gives_number, throws, splits, joins, takes_line}
use Rattle.dg_meaning.specs.Search.{cut_first}

-- ## What is related

-- a relation of lists of steps that holds in front of what is related too
pub record Front (R : List Step → List Step → Type 0) : Type 0 where
  pub does : (x : Goal) (env : List Value) (t : ℕ) (l m : List Step) → R l m → R (Do x env t ∷ l) (Do x env t ∷ m)
  pub answers : (q : ℕ) (l m : List Step) → R l m → R (Answers q ∷ l) (Answers q ∷ m)
  pub cuts : (t : ℕ) (l m : List Step) → R l m → R (Cut t ∷ l) (Cut t ∷ m)
  pub leaves : (t : ℕ) (o : Option ℕ) (l m : List Step) → R l m → R (Leave t o ∷ l) (Leave t o ∷ m)
  pub refuses : (t : ℕ) → R (Refuse t ∷ []) (Refuse t ∷ [])
  pub backs : R (Back ∷ []) (Back ∷ [])

-- an act that leads to no steps of its own
abbrev pub IsStill : Act → Type 0
IsStill (Goes next w) = ⊥
IsStill a = Unit {0}

-- a choice that opens no gathering
abbrev pub IsNoGathering : ChoiceKind → Type 0
IsNoGathering Gathers = ⊥
IsNoGathering k = Unit {0}

pub data BranchAlike (R : List Step → List Step → Type 0) : Branch → Branch → Type 0 where
  enters : (l m : List Step) (r : Registers) (work : ℕ) → R l m → BranchAlike R (Enter (path_of l r) work) (Enter (path_of m r) work)
  clashes : (r : Registers) (work : ℕ) → BranchAlike R (Clash r work) (Clash r work)
  takes : (t : ℕ) (whole : Whole) (into : Value) (l m : List Step) (r : Registers) → R l m → BranchAlike R (TakeOut t whole into (path_of l r)) (TakeOut t whole into (path_of m r))
  tries : (place : Option ℕ) (o : ℕ) (args : List Value) (l m : List Step) (r : Registers) → R l m → BranchAlike R (Finds place o args (path_of l r)) (Finds place o args (path_of m r))

pub data BranchesAlike (R : List Step → List Step → Type 0) : List Branch → List Branch → Type 0 where
  none : BranchesAlike R [] []
  more : (b c : Branch) (bs cs : List Branch) → BranchAlike R b c → BranchesAlike R bs cs → BranchesAlike R (b ∷ bs) (c ∷ cs)

pub data MoveAlike (R : List Step → List Step → Type 0) : Move → Move → Type 0 where
  goes : (l m : List Step) (r : Registers) (w : World) → R l m → MoveAlike R (GoesOn (path_of l r) w) (GoesOn (path_of m r) w)
  fails : (w : World) → MoveAlike R (FailsAt w) (FailsAt w)
  ends : (e : _) (w : World) → MoveAlike R (EndsAt e w) (EndsAt e w)
  stops : (t : ℕ) (w : World) → MoveAlike R (StopsAt t w) (StopsAt t w)

pub data ActAlike (R : List Step → List Step → Type 0) : Act → Act → Type 0 where
  leads : (l m : List Step) (w : World) → R l m → ActAlike R (Goes l w) (Goes m w)
  still : (a : Act) → IsStill a → ActAlike R a a

-- the first branch of a choice that gathers
abbrev pub first_gathered : List Value → ℕ → List Goal → ℕ → Term → Registers → Branch
first_gathered env t gs u x r = enter 10 0 r (goals_at env t gs ++ Keep u x env ∷ [])

pub data EffectAlike (R : List Step → List Step → Type 0) (u : ℕ) : Effect → Effect → Type 0 where
  acts : (a b : Act) → ActAlike R a b → EffectAlike R u (Acts a) (Acts b)
  offers : (k : ChoiceKind) (bs cs : List Branch) (w : World) → IsNoGathering k → BranchesAlike R bs cs → EffectAlike R u (Offers k bs w) (Offers k cs w)
  opens : (env : List Value) (t : ℕ) (gs : List Goal) (x : Term) (r : Registers) (bs cs : List Branch) (w : World) → BranchesAlike R bs cs →
      EffectAlike R u (Offers Gathers (first_gathered env t gs u x r ∷ bs) w) (Offers Gathers (first_gathered env t gs u x r ∷ cs) w)

pub data OutcomeAlike (R : List Step → List Step → Type 0) : Outcome → Outcome → Type 0 where
  moves : (a b : Move) → MoveAlike R a b → OutcomeAlike R (Moves a) (Moves b)
  chooses : (k : ChoiceKind) (t : ℕ) (b c : Branch) (bs cs : List Branch) (w : World) → IsNoGathering k → BranchAlike R b c → BranchesAlike R bs cs →
      OutcomeAlike R (Chooses k t b bs w) (Chooses k t c cs w)
  gathering : (env : List Value) (t : ℕ) (gs : List Goal) (u : ℕ) (x : Term) (r : Registers) (bs cs : List Branch) (w : World) → BranchesAlike R bs cs →
      OutcomeAlike R (Chooses Gathers u (first_gathered env t gs u x r) bs w) (Chooses Gathers u (first_gathered env t gs u x r) cs w)

-- ## Acts that are still

number_still : (o : Option ℕ) (into : Value) (r : Registers) (w : World) → IsStill (gives_number o into r w)
number_still None into r w = tt
number_still (Some n) into r w = tt

throws_still : (o : Option ℕ) (into : Value) (r : Registers) (w : World) → IsStill (throws o into r w)
throws_still None into r w = tt
throws_still (Some n) into r w = tt

splits_still : (g : Game) (o : Option (List ℕ)) (into : Value) (r : Registers) (w : World) → IsStill (splits g o into r w)
splits_still g None into r w = tt
splits_still g (Some letters) into r w = tt

joins_still : (g : Game) (o : Option (List ℕ)) (into : Value) (r : Registers) (w : World) → IsStill (joins g o into r w)
joins_still g None into r w = tt
joins_still g (Some letters) into r w = tt

line_still : (g : Game) (bytes : List ℕ) (into : Value) (r : Registers) (w : World) → IsStill (takes_line g bytes into r w)
line_still g [] into r w = tt
line_still g (b ∷ bytes) into r w = tt

reads_still : (args : List Value) (r : Registers) (o : Option Value) (w : World) → IsStill (reads_if_set args r o w)
reads_still args r None w = tt
reads_still [] r (Some v) w = tt
reads_still (a ∷ args) r (Some v) w = tt

taken_still : (whole : Whole) (into : Value) (vs : List Value) (r : Registers) (w : World) → IsStill (takes_out whole into vs r w)
taken_still AsList into vs r w = tt
taken_still AsSum into vs r w = number_still (total vs) into r (begun r (length vs) w)

finds_still : (args : List Value) (o : ℕ) (r : Registers) (v : Option Value) (w : World) → IsStill (finds_if_set args o r v w)
finds_still args o r None w = tt
finds_still [] o r (Some v) w = tt
finds_still (a ∷ []) o r (Some v) w = tt
finds_still (a ∷ b ∷ args) o r (Some v) w = tt

-- ## In front of related steps

module _ (R : List Step → List Step → Type 0) (front : Front R) where
  goals : (env : List Value) (t : ℕ) (gs : List Goal) (l m : List Step) → R l m → R (goals_at env t gs ++ l) (goals_at env t gs ++ m)
  goals env t [] l m h = h
  goals env t (x ∷ gs) l m h = front.does x env t _ _ (goals env t gs l m h)

  pub in_front : (env : List Value) (t : ℕ) (gs : List Goal) (l m : List Step) → R l m → R (goals_at env t gs ++ l) (goals_at env t gs ++ m)
  in_front = goals

  alone : (many : Bool) (t : ℕ) (l m : List Step) → R l m → R (first_alone many t l) (first_alone many t m)
  alone true t l m h = h
  alone false t l m h = front.cuts t l m h

  goes_on : (b : Bool) (l m : List Step) (r : Registers) (w : World) → R l m → MoveAlike R (goes_on_if b l r w) (goes_on_if b m r w)
  goes_on true l m r w h = goes l m r w h
  goes_on false l m r w h = fails w

  stopped : (o : Option ℕ) (w : World) → MoveAlike R (stop o w) (stop o w)
  stopped None w = ends Stopped w
  stopped (Some s) w = stops s w

  moved : (l m : List Step) (r : Registers) → R l m → (a b : Act) → ActAlike R a b → MoveAlike R (move_of l r a) (move_of m r b)
  moved l m r h _ _ (leads next other w e) = goes next other r w e
  moved l m r h _ _ (still (Goes next w) e) = absurd e
  moved l m r h _ _ (still (Tests passed w) e) = goes_on passed l m r w h
  moved l m r h _ _ (still (Unifies made es w) e) =
      let u = solve made.bound es in
      let s = bound_by u (length (made_since made.bound u.subst)) made in
      goes_on u.agrees l m s (begun s (unifying made.bound es) w) h
  moved l m r h _ _ (still (Ends x w) e) = ends x w
  moved l m r h _ _ (still (Fails w) e) = fails w
  moved l m r h _ _ (still (Stops w) e) = stopped r.stoppable w

  -- the beginning of a branch
  pub begins_alike : (b c : Branch) (w : World) → BranchAlike R b c → MoveAlike R (begins b w) (begins c w)
  begins_alike _ _ w (enters l m r work h) = goes l m r (begun r work w) h
  begins_alike _ _ w (clashes r work) = fails (begun r work w)
  begins_alike _ _ w (takes t whole into l m r h) = moved l m r h _ _ (still (beginning (TakeOut t whole into (path_of l r)) w) (taken_still whole into _ r _))
  begins_alike _ _ w (tries place o args l m r h) = moved l m r h _ _ (still (beginning (Finds place o args (path_of l r)) w) (finds_still args o r _ _))

  -- a cut in front of branches
  cut_alike : (t : ℕ) (c : Option ℕ) (l m : List Step) → R l m → R (cut_first t c l) (cut_first t c m)
  cut_alike t None l m h = h
  cut_alike t (Some c) l m h = cut_by _ c l m h
    where
      cut_by : (b : Bool) (c : ℕ) (l m : List Step) → R l m → R (if b then Cut c ∷ l else l) (if b then Cut c ∷ m else m)
      cut_by true c l m h = front.cuts c l m h
      cut_by false c l m h = h

  pub cut_in_front : (t : ℕ) (c : Option ℕ) (l m : List Step) → R l m → R (cut_first t c l) (cut_first t c m)
  cut_in_front = cut_alike

  module _ (l m : List Step) (h : R l m) where
    one : (heap work : ℕ) (r : Registers) (a b : List Step) → R a b → BranchAlike R (enter heap work r a) (enter heap work r b)
    one heap work r a b e = enters a b (inside heap r) work e

    two : (heap : ℕ) (r : Registers) (a b c d : List Step) → R a b → R c d → BranchesAlike R (enter heap 0 r a ∷ enter 0 0 r c ∷ []) (enter heap 0 r b ∷ enter 0 0 r d ∷ [])
    two heap r a b c d e f = more _ _ _ _ (one heap 0 r a b e) (more _ _ _ _ (one 0 0 r c d f) none)

    lists : (env : List Value) (t : ℕ) (r : Registers) (gss : List (List Goal)) → BranchesAlike R (list_branches env t l r gss) (list_branches env t m r gss)
    lists env t r [] = none
    lists env t r (gs ∷ gss) = more _ _ _ _ (one (choice_cells 0 gss) 1 r _ _ (goals env t gs l m h)) (lists env t r gss)

    entered_if : (b : Bool) (a c : List Step) (r : Registers) (work : ℕ) → R a c → BranchAlike R (enter_if b (path_of a r) work) (enter_if b (path_of c r) work)
    entered_if true a c r work e = enters a c r work e
    entered_if false a c r work e = clashes r work

    unless : (b : Bool) (r : Registers) (work : ℕ) (x y : Branch) → BranchAlike R x y → BranchAlike R (unless_excluded b r work x) (unless_excluded b r work y)
    unless true r work x y e = clashes (inside 0 r) work
    unless false r work x y e = e

    rule_alike : (g : Game) (pred : ℕ) (args : List Value) (many : Bool) (r : Registers) (heap : ℕ) (rule : Rule) → BranchAlike R (rule_branch g pred args many l r heap rule) (rule_branch g pred args many m r heap rule)
    rule_alike g pred args many r heap rule =
        let u = match g args rule r in
        unless (is_excluded args r rule) r (entering g args rule r) _ _
        (entered_if u.agrees (rule_steps pred many (vars_of rule r) r.next_tag rule l) (rule_steps pred many (vars_of rule r) r.next_tag rule m) (matched u r (entered g heap rule r)) (entering g args rule r)
        (goals (vars_of rule r) r.next_tag rule.body _ _ (front.answers pred _ _ (alone many r.next_tag l m h))))

    rules_alike : (g : Game) (pred : ℕ) (args : List Value) (many : Bool) (r : Registers) (rules : List Rule) → BranchesAlike R (rule_branches g pred args many l r rules) (rule_branches g pred args many m r rules)
    rules_alike g pred args many r [] = none
    rules_alike g pred args many r (rule ∷ rules) = more _ _ _ _ (rule_alike g pred args many r (call_cells args r rules) rule) (rules_alike g pred args many r rules)

    closure_alike : (g : Game) (parts : Values) (closure : ClosureBody) (args : List Value) (many : Bool) (r : Registers) → BranchAlike R (closure_branch g parts closure args many l r) (closure_branch g parts closure args many m r)
    closure_alike g parts closure args many r =
        let env = closure_vars parts closure r in
        let head = closure_head parts args in
        let u = solve r.bound (head_equations g args env head) in
        entered_if u.agrees (closure_steps many env r.next_tag closure l) (closure_steps many env r.next_tag closure m) (matched u r (entered_with g 0 closure.own head r)) (entering_with g args env head r)
        (goals env r.next_tag closure.body _ _ (alone many r.next_tag l m h))

    objects_alike : (place : Option ℕ) (args : List Value) (many : Bool) (r : Registers) (os : List ℕ) → BranchesAlike R (object_branches place args many l r os) (object_branches place args many m r os)
    objects_alike place args many r [] = none
    objects_alike place args many r (o ∷ os) = more _ _ _ _ (tries place o args _ _ (inside (choice_cells (length args) os) r) (alone many r.next_tag l m h)) (objects_alike place args many r os)

    spaces_alike : (v : Value) (w : World) → ActAlike R (spaces v l w) (spaces v m w)
    spaces_alike (Node (Num n) vs) w = leads l m _ h
    spaces_alike v w = still (Fails w) tt

    changes_alike : (g : Game) (kind : PlaceKind) (a : Option Alteration) (w : World) → ActAlike R (changes g kind a l w) (changes g kind a m w)
    changes_alike g kind None w = still (Fails w) tt
    changes_alike g kind (Some a) w = leads l m _ h

    place_changed : (g : Game) (place : ℕ) (kind : Option PlaceKind) (args : List Value) (sets : Bool) (r : Registers) (w : World) → ActAlike R (change_place g place kind args sets l r w) (change_place g place kind args sets m r w)
    place_changed g place None args sets r w = still (Fails w) tt
    place_changed g place (Some kind) args sets r w = changes_alike g kind _ _

    module _ (u : ℕ) where
      is_still : (a : Act) → IsStill a → EffectAlike R u (Acts a) (Acts a)
      is_still a e = acts a a (still a e)

      on : (a b : List Step) (w : World) → R a b → EffectAlike R u (Acts (Goes a w)) (Acts (Goes b w))
      on a b w e = acts _ _ (leads a b w e)

      object_asked : (g : Game) (place : Option ℕ) (walked v : Value) (args : List Value) (many : Bool) (r : Registers) (w : World) → EffectAlike R u (ask_object g place walked v args many l r w) (ask_object g place walked v args many m r w)
      object_asked g place (Var x) v args many r w = offers Plain _ _ w tt (objects_alike place (v ∷ args) many r (numbers 0 g.program.objects))
      object_asked g place (Node (Object o) vs) v args many r w = is_still _ (reads_still args r (found w.facts place o) w)
      object_asked g place walked v args many r w = is_still (Fails w) tt

      objects_asked : (g : Game) (place : Option ℕ) (args : List Value) (many : Bool) (r : Registers) (w : World) → EffectAlike R u (ask_objects g place args many l r w) (ask_objects g place args many m r w)
      objects_asked g place [] many r w = is_still (Fails w) tt
      objects_asked g place (v ∷ args) many r w = object_asked g place (walk r.bound v) v args many r (worked (looked_up r v) w)

      place_asked : (g : Game) (place : ℕ) (kind : Option PlaceKind) (args : List Value) (many : Bool) (r : Registers) (w : World) → EffectAlike R u (ask_place g place kind args many l r w) (ask_place g place kind args many m r w)
      place_asked g place None args many r w = is_still (Fails w) tt
      place_asked g place (Some Flag) args many r w = is_still _ tt
      place_asked g place (Some Global) args many r w = is_still _ (reads_still args r (value_at w.facts place 0) w)
      place_asked g place (Some kind) args many r w = objects_asked g (Some place) args many r w

      body_asked : (g : Game) (parts : Values) (closure : Option ClosureBody) (args : List Value) (many : Bool) (r : Registers) (w : World) → EffectAlike R u (ask_body g parts closure args many l r w) (ask_body g parts closure args many m r w)
      body_asked g parts None args many r w = is_still (Fails w) tt
      body_asked g parts (Some closure) args many r w = offers Plain _ _ w tt (more _ _ _ _ (closure_alike g parts closure args many r) none)

      closure_asked : (g : Game) (v : Value) (args : List Value) (many : Bool) (r : Registers) (w : World) → EffectAlike R u (ask_closure g v args many l r w) (ask_closure g v args many m r w)
      closure_asked g (Node (Closure place) parts) args many r w = body_asked g parts (slice_get g.program.closures place) args many r w
      closure_asked g v args many r w = is_still (Fails w) tt

    effects : (g : Game) (x : Goal-F Goal) (env : List Value) (t : ℕ) (r : Registers) (w : World) → EffectAlike R r.next_tag (effect g x env t l r w) (effect g x env t m r w)
    effects g (Text name) env t r w = on r.next_tag l m _ h
    effects g (Print-Form a) env t r w = on r.next_tag l m _ h
    effects g (Gap kind) env t r w = on r.next_tag l m _ h
    effects g (GapN a) env t r w = acts _ _ (spaces_alike (walk r.bound (value_of g.program env a)) _)
    effects g (Equal a b) env t r w = is_still r.next_tag _ tt
    effects g (Test kind a) env t r w = is_still r.next_tag _ tt
    effects g (Ask pred args many) env t r w = offers (Rules pred) _ _ _ tt (rules_alike g pred (map (value_of g.program env) args) many r (rules_of (slice_get g.program.preds pred)))
    effects g (HoldsAt place args many) env t r w = place_asked r.next_tag g place (slice_get (kinds_of g.program) place) (map (value_of g.program env) args) many r w
    effects g (IsObject a many) env t r w = objects_asked r.next_tag g None (value_of g.program env a ∷ []) many r w
    effects g (Now place args sets) env t r w = acts _ _ (place_changed g place (slice_get (kinds_of g.program) place) (map (value_of g.program env) args) sets r w)
    effects g (Query a b many) env t r w =
        closure_asked r.next_tag g (walk r.bound (value_of g.program env a)) (map (value_of g.program env) (option_terms b)) many r (worked (looked_up r (value_of g.program env a)) w)
    effects g (Either gss) env t r w = offers Plain _ _ w tt (lists env t r gss)
    effects g (Select site mode gss) env t r w =
        let c = selects g site mode (length gss) w in
        on r.next_tag _ _ (selected site c w) (goals env t (get_or gss c.branch []) l m h)
    effects g (Once gs) env t r w = offers Plain _ _ w tt (more _ _ _ _ (one 10 0 r _ _ (goals env t gs _ _ (front.cuts r.next_tag l m h))) none)
    effects g (Not gs) env t r w = offers Plain _ _ w tt (two 10 r _ _ _ _ (goals env t gs _ _ (front.refuses r.next_tag)) h)
    effects g (If test first other) env t r w =
        offers Plain _ _ w tt (two 10 r _ _ _ _ (goals env t test _ _ (front.cuts r.next_tag _ _ (goals env t first l m h))) (goals env t other l m h))
    effects g Forever env t r w = offers Plain _ _ w tt (two 10 r _ _ _ _ h (front.does Forever-Goal env t l m h))
    effects g (Exhaust gs) env t r w = offers Plain _ _ w tt (two 10 r _ _ _ _ (goals env t gs _ _ front.backs) h)
    effects g (Collect x gs into) env t r w = opens env t gs x r _ _ _ (more _ _ _ _ (takes r.next_tag AsList (value_of g.program env into) l m (inside 0 r) h) none)
    effects g (Accumulate x gs into) env t r w = opens env t gs x r _ _ _ (more _ _ _ _ (takes r.next_tag AsSum (value_of g.program env into) l m (inside 0 r) h) none)
    effects g (Stoppable gs) env t r w =
        offers Shield _ _ w tt (more _ _ _ _ (enters _ _ (record (inside 10 r) { stoppable = Some r.next_tag }) 0 (goals env t gs _ _ (front.leaves r.next_tag r.stoppable l m h)))
        (more _ _ _ _ (one 0 0 r l m h) none))
    effects g (Arith op a b c) env t r w =
        let v = value_of g.program env a in
        let z = value_of g.program env b in
        is_still r.next_tag _ (number_still (of_numbers (calculated op) (walk r.bound v) (walk r.bound z)) (value_of g.program env c) r _)
    effects g (Compare op a b) env t r w = is_still r.next_tag _ tt
    effects g (Random a b c) env t r w =
        let v = value_of g.program env a in
        let z = value_of g.program env b in
        is_still r.next_tag _ (throws_still (of_numbers (thrown (die g.dice w.dice)) (walk r.bound v) (walk r.bound z)) (value_of g.program env c) r _)
    effects g (SplitWord a b) env t r w =
        is_still r.next_tag _ (splits_still g (letters_in_word g.program.words (walk r.bound (value_of g.program env a))) (value_of g.program env b) r _)
    effects g (JoinWords a b) env t r w =
        is_still r.next_tag _ (joins_still g (joined_letters g.program.words (resolved r.bound (value_of g.program env a))) (value_of g.program env b) r _)
    effects g (Input a) env t r w = is_still r.next_tag _ (line_still g w.typed (value_of g.program env a) r w)
    effects g Just env t r w = on r.next_tag _ _ w (front.cuts t l m h)
    effects g Fail env t r w = is_still r.next_tag (Fails w) tt
    effects g Stop env t r w = is_still r.next_tag (Stops w) tt
    effects g Quit env t r w = is_still r.next_tag _ tt

    offered : (r : Registers) (a b : Effect) → EffectAlike R r.next_tag a b → OutcomeAlike R (outcome_of l r a) (outcome_of m r b)
    offered r _ _ (acts a b e) = moves _ _ (moved l m r h a b e)
    offered r _ _ (offers k _ _ w e none) = moves _ _ (fails (exhausted k w))
    offered r _ _ (offers k _ _ w e (more b c bs cs f others)) = chooses k r.next_tag b c bs cs w e f others
    offered r _ _ (opens env t gs x s bs cs w others) = gathering env t gs r.next_tag x s bs cs w others

    -- a goal in front of related steps
    pub taken : (g : Game) (x : Goal-F Goal) (env : List Value) (t : ℕ) (r : Registers) (w : World) → OutcomeAlike R (move g x env t l r w) (move g x env t m r w)
    taken g x env t r w =
        let s = behind_terms g x r in
        offered s _ _ (effects g x env t s (begun s (writing (terms_held x)) w))
