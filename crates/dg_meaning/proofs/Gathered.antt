-- What is kept goes to the newest gathering, and may be told by its value alone.
use Rattle.std.proofs.Common.{◌≡◌, ℕ, zero, suc, ◌≤◌, List, [], ◌∷◌, ◌++◌, Option, refl, sym, ap, ◌∙◌, subst, arith}
use Rattle.dg_base.specs.declared.program.Term.{Term, out-Term}
use Rattle.dg_base.specs.declared.program.Term.TheVariants.{Var as Var-Term}
use Rattle.dg_base.specs.declared.program.Goal.{Goal, Goal-F, out-Goal}
use Rattle.dg_meaning.specs.Values.{Value, value_of}
use Rattle.dg_meaning.specs.Substitutions.{resolved}
use Rattle.dg_meaning.specs.World.{Game, World, Answered, noted, worked, kept}
use Rattle.dg_meaning.specs.Path.{Step, Do, Answers, Cut, Keep, Leave, Registers, Failing, Answer, Branch, ChoiceKind, Plain, Rules, Shield, Gathers, Move, GoesOn, Outcome, Moves, Chooses}
use Rattle.dg_meaning.specs.Moves.{path_of, path_at, goals_at, begins, keeping, move}
use Rattle.dg_meaning.specs.Search.{search, answer, cut, cut_first, later, retried, after_branch, choose, choose_first, branch_cut, branches_cut, after_move, after_goal, go, begin}
use Rattle.dg_meaning.specs.inside.Context.{Around, InBranch, gathers, KeepIn, BranchesKeepIn}
use Rattle.dg_meaning.proofs.Search.{begin_good, after_branch_same, search_good, search_steps}
use Rattle.dg_meaning.proofs.Fronts.{Front, IsNoGathering, BranchAlike, BranchesAlike, MoveAlike, OutcomeAlike, first_gathered, taken, begins_alike, cut_in_front, in_front}

-- ## The newest gathering

-- what the first list keeps is kept in the newest of these
abbrev Keeping : List ℕ → List Step → List Step → Type 0
Keeping tags l m = KeepIn tags l

keeping_front : (tags : List ℕ) → Front (Keeping tags)
keeping_front tags = record {
  does = λ x env t l m h. h;
  answers = λ q l m h. h;
  cuts = λ t l m h. h;
  leaves = λ t o l m h. h;
  refuses = λ t. tt;
  backs = tt;
}

pub goals_keep : (tags : List ℕ) (env : List Value) (t : ℕ) (gs : List Goal) (l : List Step) → KeepIn tags l → KeepIn tags (goals_at env t gs ++ l)
goals_keep tags env t gs l h = in_front (Keeping tags) (keeping_front tags) env t gs l l h

pub cut_keeps : (tags : List ℕ) (t : ℕ) (c : Option ℕ) (l : List Step) → KeepIn tags l → KeepIn tags (cut_first t c l)
cut_keeps tags t c l h = cut_in_front (Keeping tags) (keeping_front tags) t c l l h

branch_keeps : (tags : List ℕ) (b c : Branch) → BranchAlike (Keeping tags) b c → KeepIn tags (path_at b).steps
branch_keeps tags _ _ (BranchAlike.enters l m r work h) = h
branch_keeps tags _ _ (BranchAlike.clashes r work) = tt
branch_keeps tags _ _ (BranchAlike.takes t whole into l m r h) = h
branch_keeps tags _ _ (BranchAlike.tries place o args l m r h) = h

branches_keep : (tags : List ℕ) (bs cs : List Branch) → BranchesAlike (Keeping tags) bs cs → BranchesKeepIn tags bs
branches_keep tags _ _ BranchesAlike.none = tt
branches_keep tags _ _ (BranchesAlike.more b c bs cs h others) = (branch_keeps tags b c h, branches_keep tags bs cs others)

-- what a move keeps is kept in the newest of these gatherings
abbrev pub MoveKeeps : List ℕ → Move → Type 0
MoveKeeps tags (GoesOn path w) = KeepIn tags path.steps
MoveKeeps tags m = Unit {0}

abbrev pub OutcomeKeeps : List Around → Outcome → Type 0
OutcomeKeeps ctx (Moves m) = MoveKeeps (gathers ctx) m
OutcomeKeeps ctx (Chooses k t b bs w) = KeepIn (gathers (InBranch k t bs ∷ ctx)) (path_at b).steps × BranchesKeepIn (gathers ctx) bs

move_keeps : (tags : List ℕ) (a b : Move) → MoveAlike (Keeping tags) a b → MoveKeeps tags a
move_keeps tags _ _ (MoveAlike.goes l m r w h) = h
move_keeps tags _ _ (MoveAlike.fails w) = tt
move_keeps tags _ _ (MoveAlike.ends e w) = tt
move_keeps tags _ _ (MoveAlike.stops t w) = tt

-- but for a gathering, no more is open in a choice
in_choice : (k : ChoiceKind) (t : ℕ) (bs : List Branch) (ctx : List Around) (l : List Step) → IsNoGathering k → KeepIn (gathers ctx) l → KeepIn (gathers (InBranch k t bs ∷ ctx)) l
in_choice Plain t bs ctx l e h = h
in_choice (Rules q) t bs ctx l e h = h
in_choice Shield t bs ctx l e h = h
in_choice Gathers t bs ctx l e h = absurd e

outcome_keeps : (ctx : List Around) (a b : Outcome) → OutcomeAlike (Keeping (gathers ctx)) a b → OutcomeKeeps ctx a
outcome_keeps ctx _ _ (OutcomeAlike.moves a b h) = move_keeps (gathers ctx) a b h
outcome_keeps ctx _ _ (OutcomeAlike.chooses k t b c bs cs w e h others) =
    (in_choice k t bs ctx (path_at b).steps e (branch_keeps (gathers ctx) b c h), branches_keep (gathers ctx) bs cs others)
outcome_keeps ctx _ _ (OutcomeAlike.gathering env t gs u x r bs cs w others) =
    (goals_keep (u ∷ gathers ctx) env t gs (Keep u x env ∷ []) (refl, tt), branches_keep (gathers ctx) bs cs others)

pub goal_keeps : (g : Game) (ctx : List Around) (x : Goal-F Goal) (env : List Value) (t : ℕ) (steps : List Step) (r : Registers) (w : World) → KeepIn (gathers ctx) steps → OutcomeKeeps ctx (move g x env t steps r w)
goal_keeps g ctx x env t steps r w h = outcome_keeps ctx _ _ (taken (Keeping (gathers ctx)) (keeping_front (gathers ctx)) steps steps h g x env t r w)

-- where a branch begins that was not begun
begun_keeps : (tags : List ℕ) (b : Branch) (w : World) → KeepIn tags (path_at b).steps → MoveKeeps tags (begins b w)
begun_keeps tags b w h = move_keeps tags _ _ (begins_alike (Keeping tags) (keeping_front tags) b b w (itself tags b h))
  where
    itself : (tags : List ℕ) (b : Branch) → KeepIn tags (path_at b).steps → BranchAlike (Keeping tags) b b
    itself tags (Branch.Enter path work) h = BranchAlike.enters path.steps path.steps path.registers work h
    itself tags (Branch.Clash r work) h = BranchAlike.clashes r work
    itself tags (Branch.TakeOut t whole into path) h = BranchAlike.takes t whole into path.steps path.steps path.registers h
    itself tags (Branch.Finds place o args path) h = BranchAlike.tries place o args path.steps path.steps path.registers h

pub branch_begins_keeping : (tags : List ℕ) (b : Branch) (w : World) → KeepIn tags (path_at b).steps → MoveKeeps tags (begins b w)
branch_begins_keeping = begun_keeps

-- ## By its value alone

-- where no more goals than these are left, the search is the same
abbrev Same : Game → ℕ → List Step → List Step → Type 0
Same g k l m = (n : ℕ) (r : Registers) (w : World) → n ≤ k → search g n (path_of l r) w ≡ search g n (path_of m r) w

module _ (g : Game) (k : ℕ) (front : Front (Same g k)) where
  move_same : (n : ℕ) → n ≤ k → (a b : Move) → MoveAlike (Same g k) a b → after_move (search g) n a ≡ after_move (search g) n b
  move_same n le _ _ (MoveAlike.goes l m r w h) = h n r w le
  move_same n le _ _ (MoveAlike.fails w) = refl
  move_same n le _ _ (MoveAlike.ends e w) = refl
  move_same n le _ _ (MoveAlike.stops t w) = refl

  begin_same : (n : ℕ) → n ≤ k → (b c : Branch) (w : World) → BranchAlike (Same g k) b c → begin (search g) b n w ≡ begin (search g) c n w
  begin_same n le b c w h = move_same n le _ _ (begins_alike (Same g k) front b c w h)

  choose_same : (kind : ChoiceKind) (t : ℕ) (bs cs : List Branch) → BranchesAlike (Same g k) bs cs → (n : ℕ) (w : World) → n ≤ k → choose (search g) kind t bs n w ≡ choose (search g) kind t cs n w
  choose_same kind t _ _ BranchesAlike.none n w le = refl
  choose_same kind t _ _ (BranchesAlike.more b c bs cs h others) n w le =
      let s = search g in
      let a = begin s b n (retried kind w) in
      let good = begin_good s (search_good g) b n (retried kind w) in
      let rest = choose_same kind t bs cs others a.left a.world (omega (arith, good.left)) in
      after_branch_same kind t a.left a.world a.result (choose s kind t bs) (choose s kind t cs) (λ o. choose s kind t bs) (λ o. choose s kind t cs) rest (λ o. rest)
      ∙ ap (λ (x : Answer). after_branch kind t x.left x.world x.result (choose s kind t cs) (λ o. choose s kind t cs)) (begin_same n le b c (retried kind w) h)

  cut_branch : (t : ℕ) (o : Option ℕ) (b c : Branch) → BranchAlike (Same g k) b c → BranchAlike (Same g k) (branch_cut t o b) (branch_cut t o c)
  cut_branch t o _ _ (BranchAlike.enters l m r work h) = BranchAlike.enters _ _ r work (cut_in_front (Same g k) front t o l m h)
  cut_branch t o _ _ (BranchAlike.clashes r work) = BranchAlike.clashes r work
  cut_branch t o _ _ (BranchAlike.takes u whole into l m r h) = BranchAlike.takes u whole into _ _ r (cut_in_front (Same g k) front t o l m h)
  cut_branch t o _ _ (BranchAlike.tries place x args l m r h) = BranchAlike.tries place x args _ _ r (cut_in_front (Same g k) front t o l m h)

  cut_branches : (t : ℕ) (o : Option ℕ) (bs cs : List Branch) → BranchesAlike (Same g k) bs cs → BranchesAlike (Same g k) (branches_cut t o bs) (branches_cut t o cs)
  cut_branches t o _ _ BranchesAlike.none = BranchesAlike.none
  cut_branches t o _ _ (BranchesAlike.more b c bs cs h others) = BranchesAlike.more _ _ _ _ (cut_branch t o b c h) (cut_branches t o bs cs others)

  first_same : (kind : ChoiceKind) (t : ℕ) (b c : Branch) (bs cs : List Branch) (n : ℕ) (w : World) → n ≤ k → begin (search g) b n w ≡ begin (search g) c n w → BranchesAlike (Same g k) bs cs → choose_first (search g) kind t b bs n w ≡ choose_first (search g) kind t c cs n w
  first_same kind t b c bs cs n w le e others =
      let s = search g in
      let i = later kind in
      let a = begin s b n w in
      let good = begin_good s (search_good g) b n w in
      let le' : a.left ≤ k = omega (arith, good.left) in
      after_branch_same kind t a.left a.world a.result (choose s i t bs) (choose s i t cs) (λ o. choose s i t (branches_cut t o bs)) (λ o. choose s i t (branches_cut t o cs))
      (choose_same i t bs cs others a.left a.world le') (λ o. choose_same i t _ _ (cut_branches t o bs cs others) a.left a.world le')
      ∙ ap (λ (x : Answer). after_branch kind t x.left x.world x.result (choose s i t cs) (λ o. choose s i t (branches_cut t o cs))) e

  goal_same : (n : ℕ) → n ≤ k → (a b : Outcome) → OutcomeAlike (Same g k) a b → after_goal (search g) n a ≡ after_goal (search g) n b
  goal_same n le _ _ (OutcomeAlike.moves a b h) = move_same n le a b h
  goal_same n le _ _ (OutcomeAlike.chooses kind t b c bs cs w e h others) = first_same kind t b c bs cs n w le (begin_same n le b c w h) others
  goal_same n le _ _ (OutcomeAlike.gathering env t gs u x r bs cs w others) = first_same Gathers u (first_gathered env t gs u x r) (first_gathered env t gs u x r) bs cs n w le refl others

-- steps in front of what is searched alike
over : (g : Game) (l m : List Step) (n : ℕ) (r : Registers) (w : World) → go g (search g) n l r w ≡ go g (search g) n m r w → search g n (path_of l r) w ≡ search g n (path_of m r) w
over g l m n r w e = search_steps g n (path_of l r) w ∙ e ∙ sym (search_steps g n (path_of m r) w)

under : (g : Game) (l m : List Step) (n : ℕ) (r : Registers) (w : World) → search g n (path_of l r) w ≡ search g n (path_of m r) w → go g (search g) n l r w ≡ go g (search g) n m r w
under g l m n r w e = sym (search_steps g n (path_of l r) w) ∙ e ∙ search_steps g n (path_of m r) w

-- it is the same where a goal is taken, if it is behind that
goals_same : (g : Game) (k : ℕ) → ((j : ℕ) → k ≡ suc j → Front (Same g j)) → (x : Goal) (env : List Value) (t : ℕ) (l m : List Step) → Same g k l m → (n : ℕ) (r : Registers) (w : World) → n ≤ k → search g n (path_of (Do x env t ∷ l) r) w ≡ search g n (path_of (Do x env t ∷ m) r) w
goals_same g k below x env t l m h zero r w le = over g (Do x env t ∷ l) (Do x env t ∷ m) zero r w refl
goals_same g zero below x env t l m h (suc n) r w le = absurd (omega arith)
goals_same g (suc j) below x env t l m h (suc n) r w le =
    let same : Same g j l m = λ i q v i_le. h i q v (omega (arith, i_le)) in
    over g (Do x env t ∷ l) (Do x env t ∷ m) (suc n) r w
    (goal_same g j (below j refl) n (omega (arith, le)) _ _ (taken (Same g j) (below j refl) l m same g (out-Goal x) env t r (worked 1 w)))

front_of : (g : Game) (k : ℕ) → ((j : ℕ) → k ≡ suc j → Front (Same g j)) → Front (Same g k)
front_of g k below = record {
  does = goals_same g k below;
  answers = λ q l m h n r w le. over g (Answers q ∷ l) (Answers q ∷ m) n r w (under g l m n r (noted (Answered q) w) (h n r (noted (Answered q) w) le));
  cuts = λ t l m h n r w le. over g (Cut t ∷ l) (Cut t ∷ m) n r w (ap (cut t) (under g l m n r w (h n r w le)));
  leaves = λ t o l m h n r w le. over g (Leave t o ∷ l) (Leave t o ∷ m) n r w (ap (cut t) (under g l m n (record r { stoppable = o }) w (h n (record r { stoppable = o }) w le)));
  refuses = λ t n r w le. refl;
  backs = λ n r w le. refl;
}

fronts : (g : Game) (k : ℕ) → Front (Same g k)
fronts g zero = front_of g zero (λ j e. absurd (omega (arith, e)))
fronts g (suc k) = front_of g (suc k) (λ j e. subst (λ i. Front (Same g i)) (omega (arith, e)) (fronts g k))

-- one value for another
kept_same : (g : Game) (k u : ℕ) (x y : Term) (env among : List Value) → value_of g.program env x ≡ value_of g.program among y → Same g k (Keep u x env ∷ []) (Keep u y among ∷ [])
kept_same g k u x y env among e n r w le =
    over g (Keep u x env ∷ []) (Keep u y among ∷ []) n r w (ap (λ v. answer n (kept u (resolved r.bound v) (worked (keeping r v) w)) Failing) e)

value_alone : (g : Game) (v : Value) → v ≡ value_of g.program (v ∷ []) (Var-Term 0)
unfolding out-Term denote.Hole.Carrier.out
value_alone g v = refl

pub told_by_value : (g : Game) (goals : List Goal) (env : List Value) (t u : ℕ) (x : Term) (among : List Value) (n : ℕ) (r : Registers) (w : World) →
    search g n (path_of (goals_at env t goals ++ Keep u x among ∷ []) r) w
    ≡ search g n (path_of (goals_at env t goals ++ Keep u (Var-Term 0) (value_of g.program among x ∷ []) ∷ []) r) w
told_by_value g goals env t u x among n r w =
    let v = value_of g.program among x in
    in_front (Same g n) (fronts g n) env t goals _ _ (kept_same g n u x (Var-Term 0) among (v ∷ []) (value_alone g v)) n r w (omega arith)
