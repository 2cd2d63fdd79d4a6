-- Code that stands for goals that fit their program, and machines that go on at such code.
use Rattle.std.proofs.Common.{◌≡◌, ℕ, suc, ◌≤◌, ◌⊎◌, List, [], ◌∷◌, Option, Some, None, arith, length}
use Rattle.std.specs.List.{All}
use Rattle.std.proofs.lemmas.Bool.{cond_both}
use Rattle.dg_base.specs.Sound.{FitsHeads, FitsProgram}
use Rattle.dg_base.specs.declared.program.Goal.{Goal, out-Goal}
use Rattle.dg_base.specs.declared.program.Pred.{Pred}
use Rattle.dg_base.specs.declared.program.Rule.{Rule}
use Rattle.dg_base.specs.declared.program.Term.{Term}
use Rattle.dg_meaning.specs.Few.{HoldsFew}
use Rattle.dg_meaning.specs.Moves.{rules_of}
use Rattle.dg_meaning.specs.Values.{Value}
use Rattle.dg_meaning.specs.World.{Game}
use Rattle.dg_mid.specs.declared.code.Op.{Op}
use Rattle.dg_mid.specs.declared.code.Op.TheVariants as op
use Rattle.dg_mid.specs.declared.code.Gathered.{Gathered}
use Rattle.dg_mid.specs.declared.code.RuleCode.{RuleCode}
use Rattle.dg_mid.specs.declared.code.Code.{Code}
use Rattle.dg_mid.specs.Calls.{EntersWith, AllEnterWith, WayFits, ChoicesFit}
use Rattle.dg_mid.specs.Code.{block_at, excluded, selected}
use Rattle.dg_mid.specs.Codes.{End, Returns, Commits, Refuses, Backs, Leaves, Keeps, Finishes, Stands, Others, RulesStand}
use Rattle.dg_mid.specs.State.{Frame, Call, Way, Goes, Takes, Calls, Tries, Stop, Choice, Mid, Status, Runs, Enters, Resumes, Fails, Ended}
use Rattle.dg_mid.proofs.Deep.{Deep, DeepIn}

-- ## Goals

module _ (g : Game) (n : ℕ) (code : Code) where
  -- a goal fits the program, with few terms
  abbrev pub GoalFits : Goal → Type 0
  GoalFits x = FitsProgram g.program (out-Goal x) × HoldsFew n x

  -- so do goals at every depth
  abbrev pub AreFit : List Goal → Type 0
  AreFit gs = Deep GoalFits gs

  -- so do those of what comes behind goals
  abbrev pub EndFits : End → Type 0
  EndFits Returns = Unit {0}
  EndFits (Commits goals end) = AreFit goals × EndFits end
  EndFits Refuses = Unit {0}
  EndFits Backs = Unit {0}
  EndFits (Leaves goals end) = AreFit goals × EndFits end
  EndFits (Keeps term) = Unit {0}
  EndFits Finishes = Unit {0}

  -- ## Code

  -- code stands for such goals
  pub record CodeFits (ops : List Op) : Type 0 where
    pub goals : List Goal
    pub end : End
    pub stands : Stands code ops goals end
    pub fit : AreFit goals
    pub ends : EndFits end

  -- it stands for lists of such goals from a block on
  pub record ListsFit (b : ℕ) : Type 0 where
    pub lists : List (List Goal)
    pub goals : List Goal
    pub end : End
    pub others : Others code b lists goals end
    pub are : DeepIn GoalFits lists
    pub fit : AreFit goals
    pub ends : EndFits end

  -- a rule begins with so many terms in its head, and then stands for such goals
  pub record RuleFits (k : ℕ) (ops : List Op) : Type 0 where
    pub vars : ℕ
    pub head : List Term
    pub rest : List Op
    pub is : ops ≡ op.Enter vars head ∷ rest
    pub fits : length head ≡ k
    pub body : CodeFits rest

  abbrev pub RulesFit : ℕ → List RuleCode → Type 0
  RulesFit k [] = Unit {0}
  RulesFit k (r ∷ rs) = RuleFits k (block_at code r.block) × RulesFit k rs

  -- a block takes a gathering out, and then stands for such goals
  pub record OutFits (ops : List Op) : Type 0 where
    pub whole : Gathered
    pub into : Term
    pub rest : List Op
    pub is : ops ≡ op.TakeOut whole into ∷ rest
    pub behind : CodeFits rest

  -- ## Machines

  abbrev pub FramesFit : List Frame → Type 0
  FramesFit [] = Unit {0}
  FramesFit (x ∷ xs) = CodeFits (block_at code x.next) × FramesFit xs

  abbrev pub StopsFit : List Stop → Type 0
  StopsFit [] = Unit {0}
  StopsFit (s ∷ ss) = CodeFits (block_at code s.block) × FramesFit s.frames × StopsFit ss

  -- a call has few arguments, and goes on at such code
  abbrev pub CallFits : Call → Type 0
  CallFits c = (length c.args ≤ n) × CodeFits (block_at code c.next)

  abbrev pub WayIs : Way → Type 0
  WayIs (Goes b) = CodeFits (block_at code b) ⊎ ListsFit b
  WayIs (Takes b into) = OutFits (block_at code b)
  WayIs (Calls call rules) = CallFits call × RulesFit (length call.args) rules
  WayIs (Tries f os) = (length f.args ≤ n) × CodeFits (block_at code f.next)

  abbrev pub ChoicesAre : List Choice → Type 0
  ChoicesAre [] = Unit {0}
  ChoicesAre (c ∷ cs) = WayIs c.way × FramesFit c.frames × StopsFit c.stops × ChoicesAre cs

  abbrev pub F : Mid → Type 0
  F m = FramesFit m.frames × StopsFit m.stops × ChoicesAre m.choices

  abbrev pub S : Status → Type 0
  S (Runs m) = CodeFits m.ops × F m
  S (Enters call m) = CallFits call × RuleFits (length call.args) m.ops × F m
  S (Resumes way m) = WayIs way × F m
  S (Fails m) = F m
  S (Ended e) = Unit {0}

  -- ## Rules

  -- a query fits the heads of the rules of its predicate
  pub heads_fit : (k : ℕ) (pred : Option Pred) → FitsHeads k pred → All (λ (rule : Rule). length rule.head ≡ k) (rules_of pred)
  heads_fit k None h = absurd h
  heads_fit k (Some pred) h = h

  pub tail : {A : Type 0} (P : A → Type 0) (x : A) (xs : List A) → All P (x ∷ xs) → All P xs
  tail P x xs h k d lt = h (suc k) d (omega (arith, lt))

  pub rules_fit : (k : ℕ) (cs : List RuleCode) (rules : List Rule) → RulesStand code cs rules → All (λ (rule : Rule). length rule.head ≡ k) rules → All (λ (rule : Rule). AreFit rule.body) rules → RulesFit k cs
  rules_fit k [] [] s h b = tt
  rules_fit k [] (rule ∷ rules) s h b = absurd s
  rules_fit k (c ∷ cs) [] s h b = absurd s
  rules_fit k (c ∷ cs) (rule ∷ rules) s h b =
      let first = s.0 in (
        record {
          vars = rule.vars;
          head = rule.head;
          rest = first.ops;
          is = first.block;
          fits = h 0 rule (omega arith);
          body = record { goals = rule.body; end = Returns; stands = first.body; fit = b 0 rule (omega arith); ends = tt };
        },
        rules_fit k cs rules s.1 (tail (λ (x : Rule). length x.head ≡ k) rule rules h) (tail (λ (x : Rule). AreFit x.body) rule rules b),
      )

  pub selected_fit : (k : ℕ) (first : Option Value) (rules : List RuleCode) → RulesFit k rules → RulesFit k (selected first rules)
  selected_fit k first [] h = tt
  selected_fit k first (r ∷ rs) h = cond_both (excluded first r.key) (selected first rs) (r ∷ rs) (RulesFit k) (λ e. selected_fit k first rs h.1) (λ e. h)

  -- ## What is said of them

  pub enters_with : (k : ℕ) (ops : List Op) → RuleFits k ops → EntersWith k ops
  enters_with k ops h = record { vars = h.vars; head = h.head; rest = h.rest; is = h.is; fits = h.fits }

  pub all_enter : (k : ℕ) (rules : List RuleCode) → RulesFit k rules → AllEnterWith k code rules
  all_enter k [] h = tt
  all_enter k (r ∷ rs) h = (enters_with k (block_at code r.block) h.0, all_enter k rs h.1)

  pub way_fits : (way : Way) → WayIs way → WayFits n code way
  way_fits (Goes b) h = tt
  way_fits (Takes b into) h = tt
  way_fits (Calls call rules) h = (h.0.0, all_enter (length call.args) rules h.1)
  way_fits (Tries f os) h = h.0

  pub choices_fit : (cs : List Choice) → ChoicesAre cs → ChoicesFit n code cs
  choices_fit [] h = tt
  choices_fit (c ∷ cs) h = (way_fits c.way h.0, choices_fit cs h.3)
