-- A search whose goals leave the world as it is, in some sense in which counting and the telling of calls do, leaves it so.
use Rattle.std.proofs.Common.{ℕ, zero, suc, List, [], ◌∷◌, Option, Some, None, Bool, true, false, length}
use Rattle.dg_base.specs.declared.program.Goal.{Goal, out-Goal}
use Rattle.dg_base.specs.Goals.{terms_held}
use Rattle.dg_meaning.specs.Values.{Value}
use Rattle.dg_meaning.specs.Letters.{copied}
use Rattle.dg_meaning.specs.Cells.{writing}
use Rattle.dg_meaning.specs.Unify.{solve}
use Rattle.dg_meaning.specs.Changes.{found}
use Rattle.dg_meaning.specs.World.{Game, World, Event, Prints, Asked, Answered, Retried, HasFailed, noted, worked, reached}
use Rattle.dg_meaning.specs.Path.{Step, Do, Answers, Cut, Refuse, Back, Keep, Leave, Registers, Path, Result, Failing, CutFail, StopTo, End, Answer, Branch, Enter, Clash, TakeOut, Finds, ChoiceKind, Plain, Rules, Shield, Gathers, Move, GoesOn, FailsAt, EndsAt, StopsAt, Outcome, Moves, Chooses, Act, Goes, Tests, Unifies, Ends, Fails, Stops, Effect, Acts, Offers}
use Rattle.dg_meaning.specs.Moves.{begun, bound_by, made_since, unifying, exhausted, finds, finds_if_set, goes_on_if, stop, move_of, begins, effect, outcome_of, behind_terms, move}
use Rattle.dg_meaning.specs.Search.{Search, branches_cut, later, retried, leave, after_branch, after_move, begin, choose, choose_first, after_goal, take_goal, go, nowhere, search_to, search}

-- an event that tells of a call
abbrev pub IsCall : Event → Type 0
IsCall (Prints e) = ⊥
IsCall (Asked q) = Unit {0}
IsCall (Answered q) = Unit {0}
IsCall (Retried q) = Unit {0}
IsCall (HasFailed q) = Unit {0}

-- a sense in which worlds are the same, whatever is counted and which calls are told
pub record IsSense (Same : World → World → Type 0) : Type 0 where
  pub here : (w : World) → Same w w
  pub on : (w v u : World) → Same w v → Same v u → Same w u
  pub works : (n : ℕ) (w : World) → Same w (worked n w)
  pub reaches : (heap trail : ℕ) (w : World) → Same w (reached heap trail w)
  pub tells : (e : Event) (w : World) → IsCall e → Same w (noted e w)

-- each goal of these steps may be done, and none gathers
abbrev pub AreStill : (Goal → Type 0) → List Step → Type 0
AreStill May [] = Unit {0}
AreStill May (Do x env t ∷ steps) = May x × AreStill May steps
AreStill May (Answers p ∷ steps) = AreStill May steps
AreStill May (Cut t ∷ steps) = AreStill May steps
AreStill May (Refuse t ∷ steps) = AreStill May steps
AreStill May (Back ∷ steps) = AreStill May steps
AreStill May (Keep t x env ∷ steps) = ⊥
AreStill May (Leave t outer ∷ steps) = AreStill May steps

-- the choices that goals open which neither gather nor may be stopped
abbrev pub IsOpen : ChoiceKind → Type 0
IsOpen Plain = Unit {0}
IsOpen (Rules p) = Unit {0}
IsOpen Shield = ⊥
IsOpen Gathers = ⊥

abbrev pub BranchStill : (Goal → Type 0) → Branch → Type 0
BranchStill May (Enter path work) = AreStill May path.steps
BranchStill May (Clash r work) = Unit {0}
BranchStill May (TakeOut t whole into path) = ⊥
BranchStill May (Finds place o args path) = AreStill May path.steps

abbrev pub AllStill : (Goal → Type 0) → List Branch → Type 0
AllStill May [] = Unit {0}
AllStill May (b ∷ bs) = BranchStill May b × AllStill May bs

module _ (Same : World → World → Type 0) (May : Goal → Type 0) where
  -- what is done at once leaves the world w as it is, and goes on with such steps
  abbrev pub ActStill : World → Act → Type 0
  ActStill w (Goes steps v) = Same w v × AreStill May steps
  ActStill w (Tests passed v) = Same w v
  ActStill w (Unifies made es v) = Same w v
  ActStill w (Ends e v) = Same w v
  ActStill w (Fails v) = Same w v
  ActStill w (Stops v) = Same w v

  abbrev pub EffectStill : World → Effect → Type 0
  EffectStill w (Acts a) = ActStill w a
  EffectStill w (Offers k bs v) = IsOpen k × Same w v × AllStill May bs

  abbrev pub MoveStill : World → Move → Type 0
  MoveStill w (GoesOn path v) = Same w v × AreStill May path.steps
  MoveStill w (FailsAt v) = Same w v
  MoveStill w (EndsAt e v) = Same w v
  MoveStill w (StopsAt t v) = Same w v

  abbrev pub OutcomeStill : World → Outcome → Type 0
  OutcomeStill w (Moves m) = MoveStill w m
  OutcomeStill w (Chooses k t b bs v) = IsOpen k × Same w v × BranchStill May b × AllStill May bs

  -- goals that may be done are still
  abbrev pub GoalsStill : Game → Type 0
  GoalsStill g = (x : Goal) → May x → (env : List Value) (t : ℕ) (steps : List Step) (r : Registers) (w : World) → AreStill May steps → EffectStill w (effect g (out-Goal x) env t steps r w)

  module _ (sense : IsSense Same) where
    begun_same : (r : Registers) (n : ℕ) (w : World) → Same w (begun r n w)
    begun_same r n w = sense.on w (reached r.heap r.trail w) _ (sense.reaches r.heap r.trail w) (sense.works n (reached r.heap r.trail w))

    retried_same : (k : ChoiceKind) (w : World) → Same w (retried k w)
    retried_same (Rules p) w = sense.tells (Retried p) w tt
    retried_same Plain w = sense.here w
    retried_same Shield w = sense.here w
    retried_same Gathers w = sense.here w

    exhausted_same : (k : ChoiceKind) (w : World) → Same w (exhausted k w)
    exhausted_same (Rules p) w = sense.tells (HasFailed p) w tt
    exhausted_same Plain w = sense.here w
    exhausted_same Shield w = sense.here w
    exhausted_same Gathers w = sense.here w

    leave_same : (k : ChoiceKind) (t : ℕ) (w : World) → IsOpen k → Same w (leave k t w)
    leave_same Plain t w o = sense.here w
    leave_same (Rules p) t w o = sense.here w
    leave_same Shield t w o = absurd o
    leave_same Gathers t w o = absurd o

    later_open : (k : ChoiceKind) → IsOpen k → IsOpen (later k)
    later_open Plain o = tt
    later_open (Rules p) o = tt
    later_open Shield o = tt
    later_open Gathers o = tt

    -- ## What goes on

    on_if : (b : Bool) (steps : List Step) (r : Registers) (w v : World) → AreStill May steps → Same w v → MoveStill w (goes_on_if b steps r v)
    on_if true steps r w v h s = (s, h)
    on_if false steps r w v h s = s

    stop_still : (o : Option ℕ) (w v : World) → Same w v → MoveStill w (stop o v)
    stop_still None w v s = s
    stop_still (Some t) w v s = s

    act_moves : (steps : List Step) (r : Registers) (w : World) → AreStill May steps → (a : Act) → ActStill w a → MoveStill w (move_of steps r a)
    act_moves steps r w h (Goes next v) s = s
    act_moves steps r w h (Tests passed v) s = on_if passed steps r w v h s
    act_moves steps r w h (Unifies made es v) s =
        let u = solve made.bound es in
        let r' = bound_by u (length (made_since made.bound u.subst)) made in
        on_if u.agrees steps r' w (begun r' (unifying made.bound es) v) h (sense.on w v _ s (begun_same r' (unifying made.bound es) v))
    act_moves steps r w h (Ends e v) s = s
    act_moves steps r w h (Fails v) s = s
    act_moves steps r w h (Stops v) s = stop_still r.stoppable w v s

    finds_still : (args : List Value) (o : ℕ) (r : Registers) (x : Value) (w v : World) → Same w v → ActStill w (finds args o r x v)
    finds_still [] o r x w v s = s
    finds_still (a ∷ []) o r x w v s = s
    finds_still (a ∷ b ∷ args) o r x w v s = sense.on w v _ s (sense.works (copied x) v)

    finds_set_still : (args : List Value) (o : ℕ) (r : Registers) (x : Option Value) (w v : World) → Same w v → ActStill w (finds_if_set args o r x v)
    finds_set_still args o r None w v s = s
    finds_set_still args o r (Some x) w v s = finds_still args o r x w v s

    begins_still : (b : Branch) (w : World) → BranchStill May b → MoveStill w (begins b w)
    begins_still (Enter path work) w h = (begun_same path.registers work w, h)
    begins_still (Clash r work) w h = begun_same r work w
    begins_still (TakeOut t whole into path) w h = absurd h
    begins_still (Finds place o args path) w h =
        let v = begun path.registers 1 w in
        act_moves path.steps path.registers w h (finds_if_set args o path.registers (found w.facts place o) v) (finds_set_still args o path.registers (found w.facts place o) w v (begun_same path.registers 1 w))

    outcome_still : (steps : List Step) (r : Registers) (w : World) → AreStill May steps → (e : Effect) → EffectStill w e → OutcomeStill w (outcome_of steps r e)
    outcome_still steps r w h (Acts a) s = act_moves steps r w h a s
    outcome_still steps r w h (Offers k [] v) s = sense.on w v _ s.1 (exhausted_same k v)
    outcome_still steps r w h (Offers k (b ∷ bs) v) s = (s.0, s.1, s.2.0, s.2.1)

    -- ## The search

    abbrev pub IsStill : Search → Type 0
    IsStill s = (n : ℕ) (path : Path) (w : World) → AreStill May path.steps → Same w (s n path w).world

    after_branch_still : (k : ChoiceKind) (t n : ℕ) (w : World) (r : Result) (next : ℕ → World → Answer) (stopped : Option ℕ → ℕ → World → Answer) → IsOpen k → Same w (next n w).world → Same w (after_branch k t n w r next stopped).world
    after_branch_still k t n w Failing next stopped o h = h
    after_branch_still k t n w (CutFail u) next stopped o h = leave_same k t w o
    after_branch_still k t n w (End e) next stopped o h = leave_same k t w o
    after_branch_still Plain t n w (StopTo u c) next stopped o h = sense.here w
    after_branch_still (Rules p) t n w (StopTo u c) next stopped o h = sense.here w
    after_branch_still Shield t n w (StopTo u c) next stopped o h = absurd o
    after_branch_still Gathers t n w (StopTo u c) next stopped o h = absurd o

    module _ (s : Search) (still : IsStill s) where
      after_move_still : (n : ℕ) (w : World) (m : Move) → MoveStill w m → Same w (after_move s n m).world
      after_move_still n w (GoesOn path v) h = sense.on w v _ h.0 (still n path v h.1)
      after_move_still n w (FailsAt v) h = h
      after_move_still n w (EndsAt e v) h = h
      after_move_still n w (StopsAt t v) h = h

      begin_still : (b : Branch) (n : ℕ) (w : World) → BranchStill May b → Same w (begin s b n w).world
      begin_still b n w h = after_move_still n w (begins b w) (begins_still b w h)

      choose_still : (k : ChoiceKind) (t : ℕ) (bs : List Branch) (n : ℕ) (w : World) → IsOpen k → AllStill May bs → Same w (choose s k t bs n w).world
      choose_still k t [] n w o h = exhausted_same k w
      choose_still k t (b ∷ bs) n w o h =
          let v = retried k w in
          let a = begin s b n v in
          let rest = choose_still k t bs a.left a.world o h.1 in
          let behind = after_branch_still k t a.left a.world a.result (choose s k t bs) (λ c. choose s k t bs) o rest in
          sense.on w v _ (retried_same k w) (sense.on v a.world _ (begin_still b n v h.0) behind)

      choose_first_still : (k : ChoiceKind) (t : ℕ) (b : Branch) (bs : List Branch) (n : ℕ) (w : World) → IsOpen k → BranchStill May b → AllStill May bs → Same w (choose_first s k t b bs n w).world
      choose_first_still k t b bs n w o hb h =
          let a = begin s b n w in
          let rest = choose_still (later k) t bs a.left a.world (later_open k o) h in
          sense.on w a.world _ (begin_still b n w hb) (after_branch_still k t a.left a.world a.result (choose s (later k) t bs) (λ c. choose s (later k) t (branches_cut t c bs)) o rest)

      after_goal_still : (n : ℕ) (w : World) (m : Outcome) → OutcomeStill w m → Same w (after_goal s n m).world
      after_goal_still n w (Moves m) h = after_move_still n w m h
      after_goal_still n w (Chooses k t b bs v) h = sense.on w v _ h.1 (choose_first_still k t b bs n v h.0 h.2 h.3)

      -- a goal that is taken is work, and so are its terms
      take_still : (n : ℕ) (w v : World) (m : Outcome) → Same w v → OutcomeStill v m → Same w (take_goal s n m w).world
      take_still zero w v m b h = sense.here w
      take_still (suc n) w v m b h = sense.on w v _ b (after_goal_still n v m h)

      go_still : (g : Game) → GoalsStill g → (n : ℕ) (steps : List Step) (r : Registers) (w : World) → AreStill May steps → Same w (go g s n steps r w).world
      go_still g goals n [] r w h = sense.here w
      go_still g goals n (Do x env t ∷ steps) r w h =
          let r' = behind_terms g (out-Goal x) r in
          let v = begun r' (writing (terms_held (out-Goal x))) (worked 1 w) in
          take_still n w v (move g (out-Goal x) env t steps r (worked 1 w)) (sense.on w (worked 1 w) v (sense.works 1 w) (begun_same r' (writing (terms_held (out-Goal x))) (worked 1 w)))
          (outcome_still steps r' v h.1 (effect g (out-Goal x) env t steps r' v) (goals x h.0 env t steps r' v h.1))
      go_still g goals n (Answers p ∷ steps) r w h = sense.on w (noted (Answered p) w) _ (sense.tells (Answered p) w tt) (go_still g goals n steps r (noted (Answered p) w) h)
      go_still g goals n (Cut t ∷ steps) r w h = go_still g goals n steps r w h
      go_still g goals n (Refuse t ∷ steps) r w h = sense.here w
      go_still g goals n (Back ∷ steps) r w h = sense.here w
      go_still g goals n (Keep t x env ∷ steps) r w h = absurd h
      go_still g goals n (Leave t outer ∷ steps) r w h = go_still g goals n steps (record r { stoppable = outer }) w h

    nowhere_still : IsStill nowhere
    nowhere_still n path w h = sense.here w

    search_to_still : (g : Game) → GoalsStill g → (b : ℕ) → IsStill (search_to g b)
    search_to_still g goals zero n path w h = go_still nowhere nowhere_still g goals n path.steps path.registers w h
    search_to_still g goals (suc b) n path w h = go_still (search_to g b) (search_to_still g goals b) g goals n path.steps path.registers w h

    pub search_still : (g : Game) → GoalsStill g → IsStill (search g)
    unfolding search
    search_still g goals n path w h = search_to_still g goals n n path w h
