-- The laws of the search: what it adds to the world, its equation, and that a larger budget goes on with the same run.
use Rattle.std.proofs.Common.{◌≡◌, ℕ, zero, suc, ◌+◌, ◌<◌, ◌≤◌, ◌⊎◌, inl, inr, List, [], ◌∷◌, Option, Some, None, Bool, true, false, refl, sym, ap, ◌∙◌, subst, arith, length}
use Rattle.std.specs.Prelude.{if◌then◌else◌}
use Rattle.dg_base.specs.declared.program.Goal.{Goal, Goal-F, out-Goal}
use Rattle.dg_base.specs.declared.run.Ending.TheVariants.{StepLimit}
use Rattle.dg_base.specs.Goals.{terms_held}
use Rattle.dg_meaning.specs.Values.{Value, value_of}
use Rattle.dg_meaning.specs.Substitutions.{resolved}
use Rattle.dg_meaning.specs.Unify.{solve}
use Rattle.dg_meaning.specs.World.{Game, World, Answered, noted, worked, kept}
use Rattle.dg_meaning.specs.Cells.{writing}
use Rattle.dg_meaning.specs.Path.{Step, Do, Answers, Cut, Refuse, Back, Keep, Leave, Registers, Path, Result, Failing, CutFail, StopTo, End, Answer, Branch, ChoiceKind, Plain, Rules, Shield, Gathers, Move, GoesOn, FailsAt, EndsAt, StopsAt, Outcome, Moves, Chooses, Act, Goes, Tests, Unifies, Ends, Fails, Stops, Effect, Acts, Offers}
use Rattle.dg_meaning.specs.Moves.{exhausted, begun, bound_by, made_since, choice, goes_on_if, unifying, stop, move_of, path_at, beginning, begins, keeping, effect, outcome_of, outcome, behind_terms, move}
use Rattle.dg_meaning.specs.Search.{Search, answer, cut_result, cut, later, retried, leave, catches, after_branch, begin, branches_cut, choose, choose_first, after_move, after_goal, take_goal, go, nowhere, search_to, search}
use Rattle.dg_meaning.specs.Transcript.{ending_of, run_of, start_world, start_path, run}
use Rattle.dg_meaning.specs.inside.OneRun.{Grows, GoesOnFrom}
use Rattle.dg_meaning.specs.inside.Keeps.{world_at, world_of}
use Rattle.dg_meaning.proofs.OneRun.{grows_same, grows_on, noted_grows, worked_grows, begun_grows, kept_grows, exhausted_grows, retried_grows, leave_grows}
use Rattle.dg_meaning.proofs.Stays.{world_in, world_for, EffectStays, effect_stays, world_before, beginning_stays, before_grows}

-- ## Worlds only grow, and budgets only fall

pub record Good (n : ℕ) (w : World) (a : Answer) : Type 0 where
  pub left : a.left ≤ n
  pub grows : Grows w a.world

abbrev pub IsGood : Search → Type 0
IsGood s = (n : ℕ) (path : Path) (w : World) → Good n w (s n path w)

good_at : (n : ℕ) (w v : World) (r : Result) → Grows w v → Good n w (answer n v r)
good_at n w v r g = record { left = omega arith; grows = g }

good_here : (n : ℕ) (w : World) (r : Result) → Good n w (answer n w r)
good_here n w r = good_at n w w r (grows_same w)

good_on : (n m : ℕ) (w v : World) (a : Answer) → m ≤ n → Grows w v → Good m v a → Good n w a
good_on n m w v a le b g = record { left = omega (arith, g.left); grows = grows_on w v a.world b g.grows }

abbrev IsGoodNext : (ℕ → World → Answer) → Type 0
IsGoodNext next = (m : ℕ) (v : World) → Good m v (next m v)

pub after_branch_good : (k : ChoiceKind) (t n : ℕ) (w : World) (r : Result) (next : ℕ → World → Answer) (stopped : Option ℕ → ℕ → World → Answer) → IsGoodNext next → ((c : Option ℕ) → IsGoodNext (stopped c)) → Good n w (after_branch k t n w r next stopped)
after_branch_good k t n w Failing next stopped g h = g n w
after_branch_good k t n w (CutFail u) next stopped g h = good_at n w (leave k t w) _ (leave_grows k t w)
after_branch_good k t n w (StopTo s c) next stopped g h =
    elim (catches k t s) as (λ b. Good n w (if b then stopped c n w else answer n (leave k t w) (StopTo s c))) [ true ↦ h c n w | false ↦ good_at n w (leave k t w) _ (leave_grows k t w) ]
after_branch_good k t n w (End e) next stopped g h = good_at n w (leave k t w) _ (leave_grows k t w)

-- ## What comes of an act

goes_on_grows : (b : Bool) (steps : List Step) (r : Registers) (w v : World) → Grows w v → Grows w (world_at (goes_on_if b steps r v))
goes_on_grows true steps r w v h = h
goes_on_grows false steps r w v h = h

stop_grows : (o : Option ℕ) (w v : World) → Grows w v → Grows w (world_at (stop o v))
stop_grows None w v h = h
stop_grows (Some s) w v h = h

act_grows : (steps : List Step) (r : Registers) (a : Act) (w : World) → Grows w (world_in a) → Grows w (world_at (move_of steps r a))
act_grows steps r (Goes next v) w h = h
act_grows steps r (Tests passed v) w h = goes_on_grows passed steps r w v h
act_grows steps r (Unifies made es v) w h =
    let u = solve made.bound es in
    let r' = bound_by u (length (made_since made.bound u.subst)) made in
    goes_on_grows u.agrees steps r' w _ (grows_on w v _ h (begun_grows r' (unifying made.bound es) v))
act_grows steps r (Ends e v) w h = h
act_grows steps r (Fails v) w h = h
act_grows steps r (Stops v) w h = stop_grows r.stoppable w v h

pub beginning_grows : (b : Branch) (w : World) → Grows w (world_at (begins b w))
beginning_grows b w =
    act_grows (path_at b).steps (path_at b).registers (beginning b w) w
    (grows_on w (world_before b w) _ (before_grows b w) (beginning_stays b w).grows)

after_move_good : (s : Search) → IsGood s → (n : ℕ) (m : Move) → Good n (world_at m) (after_move s n m)
after_move_good s g n (GoesOn path w) = g n path w
after_move_good s g n (FailsAt w) = good_here n w _
after_move_good s g n (EndsAt e w) = good_here n w _
after_move_good s g n (StopsAt t w) = good_here n w _

pub begin_good : (s : Search) → IsGood s → (b : Branch) (n : ℕ) (w : World) → Good n w (begin s b n w)
begin_good s g b n w = good_on n n w (world_at (begins b w)) _ (omega arith) (beginning_grows b w) (after_move_good s g n (begins b w))

pub choose_good : (s : Search) → IsGood s → (k : ChoiceKind) (t : ℕ) (bs : List Branch) (n : ℕ) (w : World) → Good n w (choose s k t bs n w)
choose_good s g k t [] n w = good_at n w (exhausted k w) _ (exhausted_grows k w)
choose_good s g k t (b ∷ bs) n w =
    let a = begin s b n (retried k w) in
    let h = begin_good s g b n (retried k w) in
    good_on n a.left w a.world _ h.left (grows_on w (retried k w) a.world (retried_grows k w) h.grows)
    (after_branch_good k t a.left a.world a.result (choose s k t bs) (λ c. choose s k t bs) (λ m v. choose_good s g k t bs m v) (λ c m v. choose_good s g k t bs m v))

choose_first_good : (s : Search) → IsGood s → (k : ChoiceKind) (t : ℕ) (b : Branch) (bs : List Branch) (n : ℕ) (w : World) → Good n w (choose_first s k t b bs n w)
choose_first_good s g k t b bs n w =
    let a = begin s b n w in
    let h = begin_good s g b n w in
    good_on n a.left w a.world _ h.left h.grows
    (after_branch_good k t a.left a.world a.result (choose s (later k) t bs) (λ c. choose s (later k) t (branches_cut t c bs)) (λ m v. choose_good s g (later k) t bs m v) (λ c m v. choose_good s g (later k) t (branches_cut t c bs) m v))

-- ## What comes of a goal

choice_grows : (k : ChoiceKind) (t : ℕ) (bs : List Branch) (w v : World) → Grows w v → Grows w (world_of (choice k t bs v))
choice_grows k t [] w v h = grows_on w v _ h (exhausted_grows k v)
choice_grows k t (b ∷ bs) w v h = h

outcome_of_grows : (steps : List Step) (r : Registers) (e : Effect) (w : World) → Grows w (world_for e) → Grows w (world_of (outcome_of steps r e))
outcome_of_grows steps r (Acts a) w h = act_grows steps r a w h
outcome_of_grows steps r (Offers k bs v) w h = choice_grows k r.next_tag bs w v h

effect_grows : (t : ℕ) (w : World) (e : Effect) → EffectStays t w e → Grows w (world_for e)
effect_grows t w (Acts a) h = h.grows
effect_grows t w (Offers Gathers [] v) h = absurd h
effect_grows t w (Offers Gathers (b ∷ bs) v) h = h.0
effect_grows t w (Offers Plain bs v) h = h.grows
effect_grows t w (Offers (Rules q) bs v) h = h.grows
effect_grows t w (Offers Shield bs v) h = h.grows

pub outcome_grows : (g : Game) (x : Goal-F Goal) (env : List Value) (t : ℕ) (steps : List Step) (r : Registers) (w : World) → Grows w (world_of (outcome g x env t steps r w))
outcome_grows g x env t steps r w = outcome_of_grows steps r (effect g x env t steps r w) w (effect_grows r.next_tag w (effect g x env t steps r w) (effect_stays g x env t steps r w))

pub move_grows : (g : Game) (x : Goal-F Goal) (env : List Value) (t : ℕ) (steps : List Step) (r : Registers) (w : World) → Grows w (world_of (move g x env t steps r w))
move_grows g x env t steps r w =
    let r' = behind_terms g x r in
    let v = begun r' (writing (terms_held x)) w in
    grows_on w v _ (begun_grows r' (writing (terms_held x)) w) (outcome_grows g x env t steps r' v)

after_goal_good : (s : Search) → IsGood s → (n : ℕ) (m : Outcome) → Good n (world_of m) (after_goal s n m)
after_goal_good s g n (Moves m) = after_move_good s g n m
after_goal_good s g n (Chooses k t b bs w) = choose_first_good s g k t b bs n w

take_goal_good : (s : Search) → IsGood s → (n : ℕ) (m : Outcome) (w : World) → Grows w (world_of m) → Good n w (take_goal s n m w)
take_goal_good s g zero m w b = good_here zero w _
take_goal_good s g (suc n) m w b = good_on (suc n) n w (world_of m) _ (omega arith) b (after_goal_good s g n m)

-- a goal that is taken is work
taken_grows : (g : Game) (x : Goal) (env : List Value) (t : ℕ) (steps : List Step) (r : Registers) (w : World) → Grows w (world_of (move g (out-Goal x) env t steps r (worked 1 w)))
taken_grows g x env t steps r w = grows_on w (worked 1 w) _ (worked_grows 1 w) (move_grows g (out-Goal x) env t steps r (worked 1 w))

cut_good : (t n : ℕ) (w : World) (a : Answer) → Good n w a → Good n w (cut t a)
cut_good t n w a h = record { left = h.left; grows = h.grows }

go_good : (g : Game) (s : Search) → IsGood s → (n : ℕ) (steps : List Step) (r : Registers) (w : World) → Good n w (go g s n steps r w)
go_good g s h n [] r w = good_here n w _
go_good g s h n (Do x env t ∷ steps) r w = take_goal_good s h n _ w (taken_grows g x env t steps r w)
go_good g s h n (Answers q ∷ steps) r w = good_on n n w (noted (Answered q) w) _ (omega arith) (noted_grows (Answered q) w) (go_good g s h n steps r (noted (Answered q) w))
go_good g s h n (Cut t ∷ steps) r w = cut_good t n w _ (go_good g s h n steps r w)
go_good g s h n (Refuse t ∷ steps) r w = good_here n w _
go_good g s h n (Back ∷ steps) r w = good_here n w _
go_good g s h n (Keep t x env ∷ steps) r w = let v = value_of g.program env x in let u = worked (keeping r v) w in good_at n w (kept t (resolved r.bound v) u) _ (grows_on w u _ (worked_grows (keeping r v) w) (kept_grows t (resolved r.bound v) u))
go_good g s h n (Leave t outer ∷ steps) r w = cut_good t n w _ (go_good g s h n steps (record r { stoppable = outer }) w)

nowhere_good : IsGood nowhere
nowhere_good n path w = good_here n w _

search_to_good : (g : Game) (b : ℕ) → IsGood (search_to g b)
search_to_good g zero n path w = go_good g nowhere nowhere_good n path.steps path.registers w
search_to_good g (suc b) n path w = go_good g (search_to g b) (search_to_good g b) n path.steps path.registers w

-- ## The bound doesn't matter

pub after_branch_same : (k : ChoiceKind) (t n : ℕ) (w : World) (r : Result) (next next' : ℕ → World → Answer) (stopped stopped' : Option ℕ → ℕ → World → Answer) → next n w ≡ next' n w → ((c : Option ℕ) → stopped c n w ≡ stopped' c n w) → after_branch k t n w r next stopped ≡ after_branch k t n w r next' stopped'
after_branch_same k t n w Failing next next' stopped stopped' e h = e
after_branch_same k t n w (CutFail u) next next' stopped stopped' e h = refl
after_branch_same k t n w (StopTo s c) next next' stopped stopped' e h = ap (λ a. if catches k t s then a else answer n (leave k t w) (StopTo s c)) (h c)
after_branch_same k t n w (End x) next next' stopped stopped' e h = refl

abbrev AgreeTo : Search → Search → ℕ → Type 0
AgreeTo s z k = (m : ℕ) (path : Path) (w : World) → m ≤ k → s m path w ≡ z m path w

after_move_same : (s z : Search) (k : ℕ) → AgreeTo s z k → (n : ℕ) (m : Move) → n ≤ k → after_move s n m ≡ after_move z n m
after_move_same s z k h n (GoesOn path w) le = h n path w le
after_move_same s z k h n (FailsAt w) le = refl
after_move_same s z k h n (EndsAt e w) le = refl
after_move_same s z k h n (StopsAt t w) le = refl

begin_same : (s z : Search) (k : ℕ) → AgreeTo s z k → (b : Branch) (n : ℕ) (w : World) → n ≤ k → begin s b n w ≡ begin z b n w
begin_same s z k h b n w le = after_move_same s z k h n (begins b w) le

choose_same : (s z : Search) (k : ℕ) → IsGood s → AgreeTo s z k → (kind : ChoiceKind) (t : ℕ) (bs : List Branch) (n : ℕ) (w : World) → n ≤ k → choose s kind t bs n w ≡ choose z kind t bs n w
choose_same s z k g h kind t [] n w le = refl
choose_same s z k g h kind t (b ∷ bs) n w le =
    let a = begin s b n (retried kind w) in
    let good = begin_good s g b n (retried kind w) in
    let rest = choose_same s z k g h kind t bs a.left a.world (omega (arith, good.left)) in
    after_branch_same kind t a.left a.world a.result (choose s kind t bs) (choose z kind t bs) (λ c. choose s kind t bs) (λ c. choose z kind t bs) rest (λ c. rest)
    ∙ ap (λ (x : Answer). after_branch kind t x.left x.world x.result (choose z kind t bs) (λ c. choose z kind t bs)) (begin_same s z k h b n (retried kind w) le)

choose_first_same : (s z : Search) (k : ℕ) → IsGood s → AgreeTo s z k → (kind : ChoiceKind) (t : ℕ) (b : Branch) (bs : List Branch) (n : ℕ) (w : World) → n ≤ k → choose_first s kind t b bs n w ≡ choose_first z kind t b bs n w
choose_first_same s z k g h kind t b bs n w le =
    let a = begin s b n w in
    let good = begin_good s g b n w in
    let le' : a.left ≤ k = omega (arith, good.left) in
    after_branch_same kind t a.left a.world a.result (choose s (later kind) t bs) (choose z (later kind) t bs) (λ c. choose s (later kind) t (branches_cut t c bs)) (λ c. choose z (later kind) t (branches_cut t c bs))
    (choose_same s z k g h (later kind) t bs a.left a.world le') (λ c. choose_same s z k g h (later kind) t (branches_cut t c bs) a.left a.world le')
    ∙ ap (λ (x : Answer). after_branch kind t x.left x.world x.result (choose z (later kind) t bs) (λ c. choose z (later kind) t (branches_cut t c bs))) (begin_same s z k h b n w le)

after_goal_same : (s z : Search) (k : ℕ) → IsGood s → AgreeTo s z k → (n : ℕ) (m : Outcome) → n ≤ k → after_goal s n m ≡ after_goal z n m
after_goal_same s z k g h n (Moves m) le = after_move_same s z k h n m le
after_goal_same s z k g h n (Chooses kind t b bs w) le = choose_first_same s z k g h kind t b bs n w le

abbrev AgreeBelow : Search → Search → ℕ → Type 0
AgreeBelow s z k = (m : ℕ) (path : Path) (w : World) → m < k → s m path w ≡ z m path w

take_goal_same : (s z : Search) (n : ℕ) → IsGood s → AgreeBelow s z n → (m : Outcome) (w : World) → take_goal s n m w ≡ take_goal z n m w
take_goal_same s z zero g h m w = refl
take_goal_same s z (suc n) g h m w = after_goal_same s z n g (λ i path v le. h i path v (omega arith)) n m (omega arith)

go_same : (g : Game) (s z : Search) (n : ℕ) → IsGood s → AgreeBelow s z n → (steps : List Step) (r : Registers) (w : World) → go g s n steps r w ≡ go g z n steps r w
go_same g s z n i h [] r w = refl
go_same g s z n i h (Do x env t ∷ steps) r w = take_goal_same s z n i h _ w
go_same g s z n i h (Answers q ∷ steps) r w = go_same g s z n i h steps r (noted (Answered q) w)
go_same g s z n i h (Cut t ∷ steps) r w = ap (cut t) (go_same g s z n i h steps r w)
go_same g s z n i h (Refuse t ∷ steps) r w = refl
go_same g s z n i h (Back ∷ steps) r w = refl
go_same g s z n i h (Keep t x env ∷ steps) r w = refl
go_same g s z n i h (Leave t outer ∷ steps) r w = ap (cut t) (go_same g s z n i h steps (record r { stoppable = outer }) w)

search_to_same : (g : Game) (b c n : ℕ) (path : Path) (w : World) → n ≤ b → n ≤ c → search_to g b n path w ≡ search_to g c n path w
search_to_same g zero zero n path w hb hc = refl
search_to_same g zero (suc c) n path w hb hc = go_same g nowhere (search_to g c) n nowhere_good (λ m q v lt. absurd (omega arith)) path.steps path.registers w
search_to_same g (suc b) zero n path w hb hc = go_same g (search_to g b) nowhere n (search_to_good g b) (λ m q v lt. absurd (omega arith)) path.steps path.registers w
search_to_same g (suc b) (suc c) n path w hb hc =
    go_same g (search_to g b) (search_to g c) n (search_to_good g b) (λ m q v lt. search_to_same g b c m q v (omega arith) (omega arith)) path.steps path.registers w

-- the search is what its steps say, where the search itself goes on
pub search_steps : (g : Game) (n : ℕ) (path : Path) (w : World) → search g n path w ≡ go g (search g) n path.steps path.registers w
unfolding search
search_steps g zero path w = go_same g nowhere (search g) zero nowhere_good (λ m q v lt. absurd (omega arith)) path.steps path.registers w
search_steps g (suc b) path w =
    go_same g (search_to g b) (search g) (suc b) (search_to_good g b) (λ m q v lt. search_to_same g b m m q v (omega arith) (omega arith)) path.steps path.registers w

pub search_good : (g : Game) (n : ℕ) (path : Path) (w : World) → Good n w (search g n path w)
unfolding search
search_good g n path w = search_to_good g n n path w

-- ## A larger budget goes on with the same run

abbrev Follows : ℕ → Answer → Answer → Type 0
Follows d a b = (b ≡ answer (a.left + d) a.world a.result) ⊎ ((a.result ≡ End StepLimit) × Grows a.world b.world)

abbrev FollowsOn : ℕ → Search → Search → Type 0
FollowsOn d s z = (n k : ℕ) (path : Path) (w : World) → k ≡ n + d → Follows d (s n path w) (z k path w)

follows_here : (d n k : ℕ) (w : World) (r : Result) → k ≡ n + d → Follows d (answer n w r) (answer k w r)
follows_here d n k w r e = inl (ap (λ i. answer i w r) e)

after_branch_follows : (d : ℕ) (kind : ChoiceKind) (t n k : ℕ) (w : World) (r : Result) (next next' : ℕ → World → Answer) (stopped stopped' : Option ℕ → ℕ → World → Answer) → k ≡ n + d → Follows d (next n w) (next' k w) → ((c : Option ℕ) → Follows d (stopped c n w) (stopped' c k w)) → Follows d (after_branch kind t n w r next stopped) (after_branch kind t k w r next' stopped')
after_branch_follows d kind t n k w Failing next next' stopped stopped' e h hs = h
after_branch_follows d kind t n k w (CutFail u) next next' stopped stopped' e h hs = follows_here d n k (leave kind t w) _ e
after_branch_follows d kind t n k w (StopTo s c) next next' stopped stopped' e h hs =
    elim (catches kind t s) as (λ b. Follows d (if b then stopped c n w else answer n (leave kind t w) (StopTo s c)) (if b then stopped' c k w else answer k (leave kind t w) (StopTo s c))) [ true ↦ hs c | false ↦ follows_here d n k (leave kind t w) _ e ]
after_branch_follows d kind t n k w (End x) next next' stopped stopped' e h hs = follows_here d n k (leave kind t w) _ e

-- behind the limit the longer run only adds
after_limit : (d : ℕ) (kind : ChoiceKind) (t n : ℕ) (w : World) (r : Result) (next : ℕ → World → Answer) (stopped : Option ℕ → ℕ → World → Answer) (b : Answer) → r ≡ End StepLimit → Grows w b.world → Follows d (after_branch kind t n w r next stopped) b
after_limit d kind t n w Failing next stopped b e g = absurd (cc)
after_limit d kind t n w (CutFail u) next stopped b e g = absurd (cc)
after_limit d kind t n w (StopTo s c) next stopped b e g = absurd (cc)
after_limit d Plain t n w (End x) next stopped b e g = inr (e, g)
after_limit d (Rules q) t n w (End x) next stopped b e g = inr (e, g)
after_limit d Shield t n w (End x) next stopped b e g = inr (e, g)
after_limit d Gathers t n w (End x) next stopped b e g = inr (e, record { events = g.events; meters = g.meters; typed = g.typed; dice = g.dice })

after_move_follows : (d : ℕ) (s z : Search) → FollowsOn d s z → (n k : ℕ) (m : Move) → k ≡ n + d → Follows d (after_move s n m) (after_move z k m)
after_move_follows d s z f n k (GoesOn path w) e = f n k path w e
after_move_follows d s z f n k (FailsAt w) e = follows_here d n k w _ e
after_move_follows d s z f n k (EndsAt x w) e = follows_here d n k w _ e
after_move_follows d s z f n k (StopsAt t w) e = follows_here d n k w _ e

begin_follows : (d : ℕ) (s z : Search) → FollowsOn d s z → (b : Branch) (n k : ℕ) (w : World) → k ≡ n + d → Follows d (begin s b n w) (begin z b k w)
begin_follows d s z f b n k w e = after_move_follows d s z f n k (begins b w) e

choose_follows : (d : ℕ) (s z : Search) → IsGood z → FollowsOn d s z → (kind : ChoiceKind) (t : ℕ) (bs : List Branch) (n k : ℕ) (w : World) → k ≡ n + d → Follows d (choose s kind t bs n w) (choose z kind t bs k w)
choose_follows d s z g f kind t [] n k w e = follows_here d n k (exhausted kind w) _ e
choose_follows d s z g f kind t (b ∷ bs) n k w e =
    let a = begin s b n (retried kind w) in
    let c = begin z b k (retried kind w) in
    elim (begin_follows d s z f b n k (retried kind w) e) as (λ _. Follows d (choose s kind t (b ∷ bs) n w) (choose z kind t (b ∷ bs) k w)) [
      | inl same ↦ subst (λ (x : Answer). Follows d (choose s kind t (b ∷ bs) n w) (after_branch kind t x.left x.world x.result (choose z kind t bs) (λ _. choose z kind t bs))) (sym same)
          (after_branch_follows d kind t a.left (a.left + d) a.world a.result (choose s kind t bs) (choose z kind t bs) (λ _. choose s kind t bs) (λ _. choose z kind t bs) refl (choose_follows d s z g f kind t bs a.left (a.left + d) a.world refl) (λ _. choose_follows d s z g f kind t bs a.left (a.left + d) a.world refl))
      | inr limit ↦ after_limit d kind t a.left a.world a.result (choose s kind t bs) (λ _. choose s kind t bs) _ limit.0
          (grows_on a.world c.world _ limit.1 (after_branch_good kind t c.left c.world c.result (choose z kind t bs) (λ _. choose z kind t bs) (λ m v. choose_good z g kind t bs m v) (λ _ m v. choose_good z g kind t bs m v)).grows)
    ]

choose_first_follows : (d : ℕ) (s z : Search) → IsGood z → FollowsOn d s z → (kind : ChoiceKind) (t : ℕ) (b : Branch) (bs : List Branch) (n k : ℕ) (w : World) → k ≡ n + d → Follows d (choose_first s kind t b bs n w) (choose_first z kind t b bs k w)
choose_first_follows d s z g f kind t b bs n k w e =
    let a = begin s b n w in
    let c = begin z b k w in
    let l = later kind in
    elim (begin_follows d s z f b n k w e) as (λ _. Follows d (choose_first s kind t b bs n w) (choose_first z kind t b bs k w)) [
      | inl same ↦ subst (λ (x : Answer). Follows d (choose_first s kind t b bs n w) (after_branch kind t x.left x.world x.result (choose z (later kind) t bs) (λ o. choose z (later kind) t (branches_cut t o bs)))) (sym same)
          (after_branch_follows d kind t a.left (a.left + d) a.world a.result (choose s l t bs) (choose z l t bs) (λ o. choose s l t (branches_cut t o bs)) (λ o. choose z l t (branches_cut t o bs)) refl (choose_follows d s z g f l t bs a.left (a.left + d) a.world refl) (λ o. choose_follows d s z g f l t (branches_cut t o bs) a.left (a.left + d) a.world refl))
      | inr limit ↦ after_limit d kind t a.left a.world a.result (choose s l t bs) (λ o. choose s l t (branches_cut t o bs)) _ limit.0
          (grows_on a.world c.world _ limit.1 (after_branch_good kind t c.left c.world c.result (choose z l t bs) (λ o. choose z l t (branches_cut t o bs)) (λ m v. choose_good z g l t bs m v) (λ o m v. choose_good z g l t (branches_cut t o bs) m v)).grows)
    ]

after_goal_follows : (d : ℕ) (s z : Search) → IsGood z → FollowsOn d s z → (n k : ℕ) (m : Outcome) → k ≡ n + d → Follows d (after_goal s n m) (after_goal z k m)
after_goal_follows d s z g f n k (Moves m) e = after_move_follows d s z f n k m e
after_goal_follows d s z g f n k (Chooses kind t b bs w) e = choose_first_follows d s z g f kind t b bs n k w e

take_goal_follows : (d : ℕ) (s z : Search) → IsGood z → FollowsOn d s z → (n k : ℕ) (m : Outcome) (w : World) → Grows w (world_of m) → k ≡ n + d → Follows d (take_goal s n m w) (take_goal z k m w)
take_goal_follows d s z g f zero k m w b e = inr (refl, (take_goal_good z g k m w b).grows)
take_goal_follows d s z g f (suc n) zero m w b e = absurd (omega arith)
take_goal_follows d s z g f (suc n) (suc k) m w b e = after_goal_follows d s z g f n k m (omega arith)

cut_follows : (d t : ℕ) (a b : Answer) → Follows d a b → Follows d (cut t a) (cut t b)
cut_follows d t a b (inl e) = inl (ap (cut t) e)
cut_follows d t a b (inr h) = inr (ap (cut_result t) h.0, h.1)

go_follows : (g : Game) (d : ℕ) (s z : Search) → IsGood z → FollowsOn d s z → (n k : ℕ) (steps : List Step) (r : Registers) (w : World) → k ≡ n + d → Follows d (go g s n steps r w) (go g z k steps r w)
go_follows g d s z i f n k [] r w e = follows_here d n k w _ e
go_follows g d s z i f n k (Do x env t ∷ steps) r w e = take_goal_follows d s z i f n k _ w (taken_grows g x env t steps r w) e
go_follows g d s z i f n k (Answers q ∷ steps) r w e = go_follows g d s z i f n k steps r (noted (Answered q) w) e
go_follows g d s z i f n k (Cut t ∷ steps) r w e = cut_follows d t _ _ (go_follows g d s z i f n k steps r w e)
go_follows g d s z i f n k (Refuse t ∷ steps) r w e = follows_here d n k w _ e
go_follows g d s z i f n k (Back ∷ steps) r w e = follows_here d n k w _ e
go_follows g d s z i f n k (Keep t x env ∷ steps) r w e = let v = value_of g.program env x in follows_here d n k (kept t (resolved r.bound v) (worked (keeping r v) w)) _ e
go_follows g d s z i f n k (Leave t outer ∷ steps) r w e = cut_follows d t _ _ (go_follows g d s z i f n k steps (record r { stoppable = outer }) w e)

search_to_follows : (g : Game) (d b : ℕ) → FollowsOn d (search_to g b) (search_to g b)
search_to_follows g d zero n k path w e = go_follows g d nowhere nowhere nowhere_good (λ i j q v h. inr (refl, grows_same v)) n k path.steps path.registers w e
search_to_follows g d (suc b) n k path w e = go_follows g d (search_to g b) (search_to g b) (search_to_good g b) (search_to_follows g d b) n k path.steps path.registers w e

search_follows : (g : Game) (d n k : ℕ) (path : Path) (w : World) → k ≡ n + d → Follows d (search g n path w) (search g k path w)
unfolding search
search_follows g d n k path w e =
    subst (λ a. Follows d a (search_to g k k path w)) (search_to_same g k n n path w (omega arith) (omega arith)) (search_to_follows g d k n k path w e)

follows_run : (d : ℕ) (a b : Answer) → Follows d a b → GoesOnFrom (run_of a) (run_of b) d
follows_run d a b (inl e) = record {
  grows = subst (λ (x : Answer). Grows a.world x.world) (sym e) (grows_same a.world);
  same = λ _. ap run_of e;
}
follows_run d a b (inr h) = record { grows = h.1; same = λ no. absurd (no (ap ending_of h.0)) }

pub run_goes_on : (g : Game) (typed : List ℕ) (m more : ℕ) → GoesOnFrom (run g typed m) (run g typed (m + more)) more
unfolding run
run_goes_on g typed m more = follows_run more _ _ (search_follows g more m (m + more) (start_path g) (start_world g typed) refl)

-- no more is left of a run's budget than there was
pub run_within : (g : Game) (typed : List ℕ) (n : ℕ) → (run g typed n).left ≤ n
unfolding run
run_within g typed n = (search_good g n (start_path g) (start_world g typed)).left
