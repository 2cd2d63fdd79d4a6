-- A search stops to parts around it alone.
use Rattle.std.proofs.Common.{◌≡◌, ℕ, zero, suc, inl, inr, List, [], ◌∷◌, Option, Some, None, true, false, refl, subst}
use Rattle.std.specs.Prelude.{eqb}
use Rattle.std.proofs.lemmas.Bool.{cond_both, eqb-true, eq-eqb}
use Rattle.dg_base.specs.declared.program.Goal.{out-Goal}
use Rattle.dg_meaning.specs.World.{Game, World, Answered, noted, worked}
use Rattle.dg_meaning.specs.Path.{Step, Do, Answers, Cut, Refuse, Back, Keep, Leave, Registers, Path, Result, Failing, CutFail, StopTo, End, Answer, Branch, Enter, Clash, TakeOut, Finds, ChoiceKind, Plain, Rules, Shield, Gathers, Move, GoesOn, FailsAt, EndsAt, StopsAt, Outcome, Moves, Chooses}
use Rattle.dg_meaning.specs.Moves.{path_of, begins, move}
use Rattle.dg_meaning.specs.Search.{Search, answer, cut_result, cut_first, branches_cut, later, retried, leave, catches, after_branch, after_move, begin, choose, choose_first, after_goal, take_goal, go, nowhere, search_to}
use Rattle.dg_meaning.specs.inside.Context.{Around, InBranch, Holds, Older, Shielded, PathIn, BranchIn, BranchesIn}
use Rattle.dg_meaning.proofs.Bindings.{binds_along}
use Rattle.dg_meaning.proofs.Context.{Held, held_min, held_outside, held_plain, shield_older}
use Rattle.dg_meaning.proofs.Keeps.{cut_in, cut_bound}
use Rattle.dg_meaning.proofs.Tags.{MoveIn, OutcomeIn, move_in, begin_in}

abbrev pub ResultIn : List Around → Result → Type 0
ResultIn ctx (StopTo s c) = Shielded ctx s × Held ctx s c
ResultIn ctx r = Unit {0}

abbrev pub IsScoped : Search → Type 0
IsScoped s = (ctx : List Around) (n : ℕ) (path : Path) (w : World) → PathIn ctx path → ResultIn ctx (s n path w).result

-- what goes out of a branch that doesn't catch it
pub passes_out : (k : ChoiceKind) (t : ℕ) (others : List Branch) (ctx : List Around) (u : ℕ) (c : Option ℕ) → Older t ctx → catches k t u ≡ false → ResultIn (InBranch k t others ∷ ctx) (StopTo u c) → ResultIn ctx (StopTo u c)
passes_out Plain t others ctx u c older e h = (h.0, held_outside Plain t others ctx u c (shield_older u t ctx older h.0) h.1)
passes_out (Rules p) t others ctx u c older e h = (h.0, held_outside (Rules p) t others ctx u c (shield_older u t ctx older h.0) h.1)
passes_out Gathers t others ctx u c older e h = (h.0, held_outside Gathers t others ctx u c (shield_older u t ctx older h.0) h.1)
passes_out Shield t others ctx u c older e (inl is, held) = let yes' : eqb u t ≡ true = eq-eqb u t is in absurd (cc (yes', e))
passes_out Shield t others ctx u c older e (inr h, held) = (h, held_outside Shield t others ctx u c (shield_older u t ctx older h) held)

-- what is caught was cut to choices around
pub caught_held : (k : ChoiceKind) (t : ℕ) (others : List Branch) (ctx : List Around) (u : ℕ) (c : Option ℕ) → catches k t u ≡ true → ResultIn (InBranch k t others ∷ ctx) (StopTo u c) → Held (InBranch Plain t [] ∷ ctx) t c
caught_held Plain t others ctx u c e h = absurd (cc (e))
caught_held (Rules p) t others ctx u c e h = absurd (cc (e))
caught_held Gathers t others ctx u c e h = absurd (cc (e))
caught_held Shield t others ctx u c e h = subst (λ x. Held (InBranch Plain t [] ∷ ctx) x c) (eqb-true u t e) (held_plain t others ctx u c h.1)

pub branch_cut_in : (ctx : List Around) (t : ℕ) (c : Option ℕ) (path : Path) → Held ctx t c → PathIn ctx path → PathIn ctx (record path { steps = cut_first t c path.steps })
branch_cut_in ctx t c path held h = record { steps = cut_in ctx t c path.steps held h.steps; stop = h.stop; newer = h.newer; bound = cut_bound t c path h.bound }

pub branches_cut_in : (ctx : List Around) (t : ℕ) (c : Option ℕ) (bs : List Branch) → Held ctx t c → BranchesIn ctx bs → BranchesIn ctx (branches_cut t c bs)
branches_cut_in ctx t c [] held h = tt
branches_cut_in ctx t c (Enter path work ∷ bs) held h = (branch_cut_in ctx t c path held h.0, branches_cut_in ctx t c bs held h.1)
branches_cut_in ctx t c (Clash r work ∷ bs) held h = (tt, branches_cut_in ctx t c bs held h.1)
branches_cut_in ctx t c (TakeOut u whole into path ∷ bs) held h = ((branch_cut_in ctx t c path held h.0.0, h.0.1), branches_cut_in ctx t c bs held h.1)
branches_cut_in ctx t c (Finds place o args path ∷ bs) held h = ((branch_cut_in ctx t c path held h.0.0, h.0.1), branches_cut_in ctx t c bs held h.1)

pub later_never : (k : ChoiceKind) (t u : ℕ) → catches (later k) t u ≡ false
later_never Plain t u = refl
later_never (Rules p) t u = refl
later_never Shield t u = refl
later_never Gathers t u = refl

pub cut_in_scope : (ctx : List Around) (t : ℕ) (r : Result) → Holds ctx t → ResultIn ctx r → ResultIn ctx (cut_result t r)
cut_in_scope ctx t Failing holds h = tt
cut_in_scope ctx t (CutFail u) holds h = tt
cut_in_scope ctx t (StopTo s None) holds h = (h.0, inr holds)
cut_in_scope ctx t (StopTo s (Some c)) holds h = (h.0, held_min ctx s c t holds h.1)
cut_in_scope ctx t (End e) holds h = tt

module _ (s : Search) (scoped : IsScoped s) where
  pub after_move_scoped : (ctx : List Around) (n : ℕ) (m : Move) → MoveIn ctx m → ResultIn ctx (after_move s n m).result
  after_move_scoped ctx n (GoesOn path w) h = scoped ctx n path w h
  after_move_scoped ctx n (FailsAt w) h = tt
  after_move_scoped ctx n (EndsAt e w) h = tt
  after_move_scoped ctx n (StopsAt t w) h = (h, tt)

  pub begin_scoped : (ctx : List Around) (b : Branch) (n : ℕ) (w : World) → BranchIn ctx b → ResultIn ctx (begin s b n w).result
  begin_scoped ctx b n w h = after_move_scoped ctx n (begins b w) (begin_in ctx b w h)

  after_branch_scoped : (k : ChoiceKind) (t : ℕ) (others : List Branch) (ctx : List Around) (n : ℕ) (w : World) (r : Result) (next : ℕ → World → Answer) (stopped : Option ℕ → ℕ → World → Answer) → Older t ctx → ResultIn (InBranch k t others ∷ ctx) r → ResultIn ctx (next n w).result → ((c : Option ℕ) → Held (InBranch Plain t [] ∷ ctx) t c → ResultIn ctx (stopped c n w).result) → ResultIn ctx (after_branch k t n w r next stopped).result
  after_branch_scoped k t others ctx n w Failing next stopped older h hn hs = hn
  after_branch_scoped k t others ctx n w (CutFail u) next stopped older h hn hs = cond_both (eqb u t) Failing (CutFail u) (ResultIn ctx) (λ e. tt) (λ e. tt)
  after_branch_scoped k t others ctx n w (StopTo u c) next stopped older h hn hs =
      cond_both (catches k t u) (stopped c n w) (answer n (leave k t w) (StopTo u c)) (λ (a : Answer). ResultIn ctx a.result) (λ e. hs c (caught_held k t others ctx u c e h)) (λ e. passes_out k t others ctx u c older e h)
  after_branch_scoped k t others ctx n w (End e) next stopped older h hn hs = tt

  choose_scoped : (j : ChoiceKind) (t : ℕ) (ctx : List Around) (bs : List Branch) (n : ℕ) (w : World) → ((u : ℕ) → catches j t u ≡ false) → Older t ctx → BranchesIn (InBranch Plain t [] ∷ ctx) bs → ResultIn ctx (choose s j t bs n w).result
  choose_scoped j t ctx [] n w never older h = tt
  choose_scoped j t ctx (b ∷ bs) n w never older h =
      let a = begin s b n (retried j w) in
      let rest = choose_scoped j t ctx bs a.left a.world never older h.1 in
      later_scoped j t ctx a.left a.world a.result (choose s j t bs) (λ c. choose s j t bs) never older (begin_scoped (InBranch Plain t [] ∷ ctx) b n (retried j w) h.0) rest
    where
      later_scoped : (j : ChoiceKind) (t : ℕ) (ctx : List Around) (n : ℕ) (w : World) (r : Result) (next : ℕ → World → Answer) (stopped : Option ℕ → ℕ → World → Answer) → ((u : ℕ) → catches j t u ≡ false) → Older t ctx → ResultIn (InBranch Plain t [] ∷ ctx) r → ResultIn ctx (next n w).result → ResultIn ctx (after_branch j t n w r next stopped).result
      later_scoped j t ctx n w Failing next stopped never older h hn = hn
      later_scoped j t ctx n w (CutFail u) next stopped never older h hn = cond_both (eqb u t) Failing (CutFail u) (ResultIn ctx) (λ e. tt) (λ e. tt)
      later_scoped j t ctx n w (StopTo u c) next stopped never older h hn =
          cond_both (catches j t u) (stopped c n w) (answer n (leave j t w) (StopTo u c)) (λ (a : Answer). ResultIn ctx a.result) (λ e. let no' = never u in absurd (cc (e, no'))) (λ e. passes_out Plain t [] ctx u c older refl h)
      later_scoped j t ctx n w (End e) next stopped never older h hn = tt

  choose_first_scoped : (k : ChoiceKind) (t : ℕ) (ctx : List Around) (b : Branch) (bs : List Branch) (n : ℕ) (w : World) → Older t ctx → BranchIn (InBranch k t bs ∷ ctx) b → BranchesIn (InBranch Plain t [] ∷ ctx) bs → ResultIn ctx (choose_first s k t b bs n w).result
  choose_first_scoped k t ctx b bs n w older hb h =
      let a = begin s b n w in
      after_branch_scoped k t bs ctx a.left a.world a.result (choose s (later k) t bs) (λ c. choose s (later k) t (branches_cut t c bs)) older (begin_scoped (InBranch k t bs ∷ ctx) b n w hb)
      (choose_scoped (later k) t ctx bs a.left a.world (later_never k t) older h)
      (λ c held. choose_scoped (later k) t ctx (branches_cut t c bs) a.left a.world (later_never k t) older (branches_cut_in (InBranch Plain t [] ∷ ctx) t c bs held h))

  after_goal_scoped : (ctx : List Around) (n : ℕ) (m : Outcome) → OutcomeIn ctx m → ResultIn ctx (after_goal s n m).result
  after_goal_scoped ctx n (Moves m) h = after_move_scoped ctx n m h
  after_goal_scoped ctx n (Chooses k t b bs w) h = choose_first_scoped k t ctx b bs n w h.0 h.1 h.2

  take_scoped : (ctx : List Around) (n : ℕ) (m : Outcome) (w : World) → OutcomeIn ctx m → ResultIn ctx (take_goal s n m w).result
  take_scoped ctx zero m w h = tt
  take_scoped ctx (suc n) m w h = after_goal_scoped ctx n m h

  pub go_scoped : (g : Game) (ctx : List Around) (n : ℕ) (steps : List Step) (r : Registers) (w : World) → PathIn ctx (path_of steps r) → ResultIn ctx (go g s n steps r w).result
  go_scoped g ctx n [] r w h = tt
  go_scoped g ctx n (Do x env t ∷ steps) r w h = take_scoped ctx n (move g (out-Goal x) env t steps r (worked 1 w)) w (move_in g x ctx env t steps r (worked 1 w) h)
  go_scoped g ctx n (Answers p ∷ steps) r w h = go_scoped g ctx n steps r (noted (Answered p) w) (record { steps = h.steps; stop = h.stop; newer = h.newer; bound = binds_along.passes (Answers p) steps r r.stoppable h.bound })
  go_scoped g ctx n (Cut t ∷ steps) r w h =
      cut_in_scope ctx t (go g s n steps r w).result h.steps.0 (go_scoped g ctx n steps r w (record { steps = h.steps.1; stop = h.stop; newer = h.newer; bound = binds_along.passes (Cut t) steps r r.stoppable h.bound }))
  go_scoped g ctx n (Refuse t ∷ steps) r w h = tt
  go_scoped g ctx n (Back ∷ steps) r w h = tt
  go_scoped g ctx n (Keep t x env ∷ steps) r w h = tt
  go_scoped g ctx n (Leave t outer ∷ steps) r w h =
      cut_in_scope ctx t (go g s n steps (record r { stoppable = outer }) w).result h.steps.0
      (go_scoped g ctx n steps (record r { stoppable = outer }) w (record { steps = h.steps.1.1; stop = h.steps.1.0; newer = h.newer; bound = binds_along.passes (Leave t outer) steps r outer h.bound }))

nowhere_scoped : IsScoped nowhere
nowhere_scoped ctx n path w h = tt

pub search_scoped : (g : Game) (b : ℕ) → IsScoped (search_to g b)
search_scoped g zero ctx n path w h = go_scoped nowhere nowhere_scoped g ctx n path.steps path.registers w h
search_scoped g (suc b) ctx n path w h = go_scoped (search_to g b) (search_scoped g b) g ctx n path.steps path.registers w h
