-- A search whose steps tell no answer of q tells none.
use Rattle.std.proofs.Common.{◌≡◌, ◌≢◌, ℕ, zero, suc, ◌+◌, ◌⊎◌, inl, inr, List, [], ◌∷◌, Option, Some, None, Bool, true, false, refl, sym, ◌∙◌, subst, arith, length}
use Rattle.std.specs.Prelude.{slice_get, nat_lt, eqb}
use Rattle.std.proofs.lemmas.Bool.{cond_both, eqb-true}
use Rattle.dg_base.specs.declared.program.Goal.{Goal, out-Goal}
use Rattle.dg_base.specs.Goals.{terms_held}
use Rattle.dg_meaning.specs.Values.{Value}
use Rattle.dg_meaning.specs.World.{Game, World, Event, Answered, Retried, HasFailed, noted, worked}
use Rattle.dg_meaning.specs.Cells.{writing}
use Rattle.dg_meaning.specs.Path.{Step, Do, Answers, Cut, Refuse, Back, Keep, Leave, Registers, Path, Result, Failing, CutFail, StopTo, End, Answer, Branch, Enter, Clash, TakeOut, Finds, ChoiceKind, Plain, Rules, Shield, Gathers, Move, GoesOn, FailsAt, EndsAt, StopsAt, Outcome, Moves, Chooses, Act, Goes, Tests, Unifies, Ends, Fails, Stops, Effect, Acts, Offers}
use Rattle.dg_meaning.specs.Unify.{solve}
use Rattle.dg_meaning.specs.Moves.{begun, bound_by, made_since, unifying, exhausted, goes_on_if, stop, move_of, path_at, beginning, begins, choice, effect, outcome_of, behind_terms, move}
use Rattle.dg_meaning.specs.Search.{Search, answer, cut_first, branch_cut, branches_cut, later, retried, leave, catches, after_branch, after_move, begin, choose, choose_first, after_goal, take_goal, go, nowhere, search_to}
use Rattle.dg_meaning.specs.inside.Keeps.{world_at, world_of}
use Rattle.dg_meaning.specs.inside.OneAnswer.{passes, IsFree}
use Rattle.dg_meaning.proofs.Stays.{passes_append, world_in, world_for, EffectStays, effect_stays, beginning_stays, before_answers}
use Rattle.dg_single.proofs.Shapes.{beginning_quiet, Grown, ActFits, EffectFits, AllFit, quiet_fits, effect_fits}

-- as many answers of q were told
abbrev pub Same : ℕ → World → World → Type 0
Same q w v = passes q v.events ≡ passes q w.events

pub noted_same : (q : ℕ) (e : Event) (w : World) → passes q (e ∷ []) ≡ 0 → Same q w (noted e w)
noted_same q e w h = omega (arith, passes_append q w.events (e ∷ []), h)

pub exhausted_same : (q : ℕ) (k : ChoiceKind) (w : World) → Same q w (exhausted k w)
exhausted_same q (Rules p) w = noted_same q (HasFailed p) w refl
exhausted_same q Plain w = refl
exhausted_same q Shield w = refl
exhausted_same q Gathers w = refl

pub retried_same : (q : ℕ) (k : ChoiceKind) (w : World) → Same q w (retried k w)
retried_same q (Rules p) w = noted_same q (Retried p) w refl
retried_same q Plain w = refl
retried_same q Shield w = refl
retried_same q Gathers w = refl

pub leave_same : (q : ℕ) (k : ChoiceKind) (t : ℕ) (w : World) → Same q w (leave k t w)
leave_same q Gathers t w = refl
leave_same q Plain t w = refl
leave_same q (Rules p) t w = refl
leave_same q Shield t w = refl

goes_on_same : (q : ℕ) (b : Bool) (steps : List Step) (r : Registers) (w : World) → Same q w (world_at (goes_on_if b steps r w))
goes_on_same q true steps r w = refl
goes_on_same q false steps r w = refl

stop_same : (q : ℕ) (o : Option ℕ) (w : World) → Same q w (world_at (stop o w))
stop_same q None w = refl
stop_same q (Some s) w = refl

move_same : (q : ℕ) (steps : List Step) (r : Registers) (a : Act) → Same q (world_in a) (world_at (move_of steps r a))
move_same q steps r (Goes next w) = refl
move_same q steps r (Tests passed w) = goes_on_same q passed steps r w
move_same q steps r (Unifies made es w) =
    let u = solve made.bound es in
    let r' = bound_by u (length (made_since made.bound u.subst)) made in
    goes_on_same q u.agrees steps r' (begun r' (unifying made.bound es) w)
move_same q steps r (Ends e w) = refl
move_same q steps r (Fails w) = refl
move_same q steps r (Stops w) = stop_same q r.stoppable w

pub begins_same : (q : ℕ) (b : Branch) (w : World) → Same q w (world_at (begins b w))
begins_same q b w = move_same q (path_at b).steps (path_at b).registers (beginning b w) ∙ (beginning_stays b w).answers q ∙ before_answers b w q

effect_same : (q t : ℕ) (w : World) (e : Effect) → EffectStays t w e → Same q w (world_for e)
effect_same q t w (Acts a) h = h.answers q
effect_same q t w (Offers Gathers [] v) h = absurd h
effect_same q t w (Offers Gathers (b ∷ bs) v) h = h.2 q
effect_same q t w (Offers Plain bs v) h = h.answers q
effect_same q t w (Offers (Rules p) bs v) h = h.answers q
effect_same q t w (Offers Shield bs v) h = h.answers q

choice_same : (q : ℕ) (k : ChoiceKind) (t : ℕ) (bs : List Branch) (w : World) → Same q w (world_of (choice k t bs w))
choice_same q k t [] w = exhausted_same q k w
choice_same q k t (b ∷ bs) w = refl

outcome_same : (q : ℕ) (steps : List Step) (r : Registers) (e : Effect) → Same q (world_for e) (world_of (outcome_of steps r e))
outcome_same q steps r (Acts a) = move_same q steps r a
outcome_same q steps r (Offers k bs w) = choice_same q k r.next_tag bs w

pub taken_same : (q : ℕ) (g : Game) (x : Goal) (env : List Value) (t : ℕ) (steps : List Step) (r : Registers) (w : World) → Same q w (world_of (move g (out-Goal x) env t steps r (worked 1 w)))
taken_same q g x env t steps r w =
    let s = behind_terms g (out-Goal x) r in
    let v = begun s (writing (terms_held (out-Goal x))) (worked 1 w) in
    let e = effect g (out-Goal x) env t steps s v in
    outcome_same q steps s e ∙ effect_same q s.next_tag v e (effect_stays g (out-Goal x) env t steps s v)

-- ## What goes on

abbrev pub MoveFits : (Option ℕ → List Step → Type 0) → Move → Type 0
MoveFits P (GoesOn path w) = P path.registers.stoppable path.steps
MoveFits P m = Unit {0}

on_if : (P : Option ℕ → List Step → Type 0) (b : Bool) (steps : List Step) (r : Registers) (w : World) → P r.stoppable steps → MoveFits P (goes_on_if b steps r w)
on_if P true steps r w h = h
on_if P false steps r w h = tt

stop_fits : (P : Option ℕ → List Step → Type 0) (o : Option ℕ) (w : World) → MoveFits P (stop o w)
stop_fits P None w = tt
stop_fits P (Some s) w = tt

pub act_fits : (P : Option ℕ → List Step → Type 0) (steps : List Step) (r : Registers) → P r.stoppable steps → (a : Act) → ActFits P r a → MoveFits P (move_of steps r a)
act_fits P steps r here (Goes next w) h = h
act_fits P steps r here (Tests passed w) h = on_if P passed steps r w here
act_fits P steps r here (Unifies made es w) h = on_if P _ steps _ _ (subst (λ o. P o steps) (sym h) here)
act_fits P steps r here (Ends e w) h = tt
act_fits P steps r here (Fails w) h = tt
act_fits P steps r here (Stops w) h = stop_fits P r.stoppable w

pub begins_fits : (P : Option ℕ → List Step → Type 0) (b : Branch) (w : World) → P (path_at b).registers.stoppable (path_at b).steps → MoveFits P (begins b w)
begins_fits P b w h =
    act_fits P (path_at b).steps (path_at b).registers h (beginning b w) (quiet_fits P (path_at b).steps (path_at b).registers h (beginning b w) (beginning_quiet b w))

abbrev pub Frees : ℕ → Option ℕ → List Step → Type 0
Frees q o steps = IsFree q steps

free_grown : (q : ℕ) → Grown q (Frees q)
free_grown q = record { does = λ o x env t s h. h; tells = λ o p s ne h. (ne, h); cuts = λ o t s h. h; leaves = λ o t s h. h }

abbrev pub AllFree : ℕ → List Branch → Type 0
AllFree q [] = Unit {0}
AllFree q (b ∷ bs) = IsFree q (path_at b).steps × AllFree q bs

either_free : (q : ℕ) (steps : List Step) → (IsFree q steps ⊎ IsFree q steps) → IsFree q steps
either_free q steps (inl h) = h
either_free q steps (inr h) = h

all_free : (q : ℕ) (bs : List Branch) → AllFit q (Frees q) bs → AllFree q bs
all_free q [] h = tt
all_free q (b ∷ bs) h = (either_free q (path_at b).steps h.0, all_free q bs h.1)

abbrev OutcomeFree : ℕ → Outcome → Type 0
OutcomeFree q (Moves m) = MoveFits (Frees q) m
OutcomeFree q (Chooses k t b bs w) = AllFree q (b ∷ bs)

choice_free : (q : ℕ) (k : ChoiceKind) (t : ℕ) (bs : List Branch) (w : World) → AllFree q bs → OutcomeFree q (choice k t bs w)
choice_free q k t [] w h = tt
choice_free q k t (b ∷ bs) w h = h

outcome_free : (q : ℕ) (steps : List Step) (r : Registers) → IsFree q steps → (e : Effect) → EffectFits q (Frees q) r e → OutcomeFree q (outcome_of steps r e)
outcome_free q steps r here (Acts a) h = act_fits (Frees q) steps r here a h
outcome_free q steps r here (Offers k bs w) h = choice_free q k r.next_tag bs w (all_free q bs h)

-- ## The search

abbrev pub IsCold : ℕ → Search → Type 0
IsCold q s = (n : ℕ) (path : Path) (w : World) → IsFree q path.steps → Same q w (s n path w).world

module _ (q : ℕ) (s : Search) (cold : IsCold q s) where
  pub after_move_cold : (n : ℕ) (m : Move) → MoveFits (Frees q) m → Same q (world_at m) (after_move s n m).world
  after_move_cold n (GoesOn path w) h = cold n path w h
  after_move_cold n (FailsAt w) h = refl
  after_move_cold n (EndsAt e w) h = refl
  after_move_cold n (StopsAt t w) h = refl

  pub begin_cold : (b : Branch) (n : ℕ) (w : World) → IsFree q (path_at b).steps → Same q w (begin s b n w).world
  begin_cold b n w h = after_move_cold n (begins b w) (begins_fits (Frees q) b w h) ∙ begins_same q b w

  after_branch_cold : (k : ChoiceKind) (t n : ℕ) (w : World) (r : Result) (next : ℕ → World → Answer) (stopped : Option ℕ → ℕ → World → Answer) → Same q w (next n w).world → ((c : Option ℕ) → Same q w (stopped c n w).world) → Same q w (after_branch k t n w r next stopped).world
  after_branch_cold k t n w Failing next stopped h hs = h
  after_branch_cold k t n w (CutFail u) next stopped h hs = leave_same q k t w
  after_branch_cold k t n w (StopTo u c) next stopped h hs =
      cond_both (catches k t u) (stopped c n w) (answer n (leave k t w) (StopTo u c)) (λ (a : Answer). Same q w a.world) (λ e. hs c) (λ e. leave_same q k t w)
  after_branch_cold k t n w (End e) next stopped h hs = leave_same q k t w

  pub choose_cold : (k : ChoiceKind) (t : ℕ) (bs : List Branch) (n : ℕ) (w : World) → AllFree q bs → Same q w (choose s k t bs n w).world
  choose_cold k t [] n w h = exhausted_same q k w
  choose_cold k t (b ∷ bs) n w h =
      let a = begin s b n (retried k w) in
      let rest = choose_cold k t bs a.left a.world h.1 in
      after_branch_cold k t a.left a.world a.result (choose s k t bs) (λ c. choose s k t bs) rest (λ c. rest) ∙ begin_cold b n (retried k w) h.0 ∙ retried_same q k w

  first_free : (t : ℕ) (c : Option ℕ) (steps : List Step) → IsFree q steps → IsFree q (cut_first t c steps)
  first_free t None steps h = h
  first_free t (Some c) steps h = cond_both (nat_lt c t) (Cut c ∷ steps) steps (IsFree q) (λ e. h) (λ e. h)

  pub cut_free : (t : ℕ) (c : Option ℕ) (b : Branch) → IsFree q (path_at b).steps → IsFree q (path_at (branch_cut t c b)).steps
  cut_free t c (Enter path work) h = first_free t c path.steps h
  cut_free t c (Clash r work) h = tt
  cut_free t c (TakeOut u whole into path) h = first_free t c path.steps h
  cut_free t c (Finds place o args path) h = first_free t c path.steps h

  all_cut_free : (t : ℕ) (c : Option ℕ) (bs : List Branch) → AllFree q bs → AllFree q (branches_cut t c bs)
  all_cut_free t c [] h = tt
  all_cut_free t c (b ∷ bs) h = (cut_free t c b h.0, all_cut_free t c bs h.1)

  choose_first_cold : (k : ChoiceKind) (t : ℕ) (b : Branch) (bs : List Branch) (n : ℕ) (w : World) → AllFree q (b ∷ bs) → Same q w (choose_first s k t b bs n w).world
  choose_first_cold k t b bs n w h =
      let a = begin s b n w in
      after_branch_cold k t a.left a.world a.result (choose s (later k) t bs) (λ c. choose s (later k) t (branches_cut t c bs)) (choose_cold (later k) t bs a.left a.world h.1)
      (λ c. choose_cold (later k) t (branches_cut t c bs) a.left a.world (all_cut_free t c bs h.1))
      ∙ begin_cold b n w h.0

  after_goal_cold : (n : ℕ) (m : Outcome) → OutcomeFree q m → Same q (world_of m) (after_goal s n m).world
  after_goal_cold n (Moves m) h = after_move_cold n m h
  after_goal_cold n (Chooses k t b bs w) h = choose_first_cold k t b bs n w h

  take_cold : (n : ℕ) (m : Outcome) (w : World) → Same q w (world_of m) → OutcomeFree q m → Same q w (take_goal s n m w).world
  take_cold zero m w e h = refl
  take_cold (suc n) m w e h = after_goal_cold n m h ∙ e

pub answered_same : (q p : ℕ) (w : World) → p ≢ q → Same q w (noted (Answered p) w)
answered_same q p w ne = noted_same q (Answered p) w (cond_both (eqb p q) 1 0 (λ k. k + 0 ≡ 0) (λ e. absurd (ne (eqb-true p q e))) (λ e. refl))

pub go_cold : (g : Game) (q : ℕ) → slice_get g.program.preds q ≡ None → (s : Search) → IsCold q s → (n : ℕ) (steps : List Step) (r : Registers) (w : World) → IsFree q steps → Same q w (go g s n steps r w).world
go_cold g q none s cold n [] r w h = refl
go_cold g q none s cold n (Do x env t ∷ steps) r w h =
    let b = behind_terms g (out-Goal x) r in
    take_cold q s cold n (move g (out-Goal x) env t steps r (worked 1 w)) w (taken_same q g x env t steps r w)
    (outcome_free q steps b h (effect g (out-Goal x) env t steps b _) (effect_fits g q none (Frees q) (free_grown q) env t steps b h (out-Goal x) _))
go_cold g q none s cold n (Answers p ∷ steps) r w h = go_cold g q none s cold n steps r (noted (Answered p) w) h.1 ∙ answered_same q p w h.0
go_cold g q none s cold n (Cut t ∷ steps) r w h = go_cold g q none s cold n steps r w h
go_cold g q none s cold n (Refuse t ∷ steps) r w h = refl
go_cold g q none s cold n (Back ∷ steps) r w h = refl
go_cold g q none s cold n (Keep t x env ∷ steps) r w h = refl
go_cold g q none s cold n (Leave t outer ∷ steps) r w h = go_cold g q none s cold n steps (record r { stoppable = outer }) w h

nowhere_cold : (q : ℕ) → IsCold q nowhere
nowhere_cold q n path w h = refl

pub search_cold : (g : Game) (q : ℕ) → slice_get g.program.preds q ≡ None → (b : ℕ) → IsCold q (search_to g b)
search_cold g q none zero n path w h = go_cold g q none nowhere (nowhere_cold q) n path.steps path.registers w h
search_cold g q none (suc b) n path w h = go_cold g q none (search_to g b) (search_cold g q none b) n path.steps path.registers w h
