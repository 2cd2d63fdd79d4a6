-- Each instruction of a story's code leads on, and so does the rest.
use Rattle.std.proofs.Common.{◌≡◌, ℕ, List, [], ◌∷◌, Some, None, Option, Bool, ◌⊎◌, ⊎_elim, inl, inr, refl, sym, ap, ◌∙◌, subst}
use Rattle.std.specs.List.{slice_get}
use Rattle.dg_base.specs.declared.program.PlaceKind.{PlaceKind}
use Rattle.dg_base.specs.declared.program.PlaceKind.TheVariants.{Flag, ObjectFlag, ObjectVar, Parent, Global}
use Rattle.dg_base.specs.declared.program.Term.{Term}
use Rattle.dg_meaning.specs.Facts.{kinds_of}
use Rattle.dg_mid.specs.declared.code.Action.{Action}
use Rattle.dg_mid.specs.declared.code.Action.TheVariants as action
use Rattle.dg_mid.specs.declared.code.Code.{Code}
use Rattle.dg_mid.specs.declared.code.Op.{Op}
use Rattle.dg_mid.specs.declared.code.Op.TheVariants as op
use Rattle.dg_meaning.specs.World.{Print}
use Rattle.dg_mid.specs.State.{Call, Way, Mid, Enters, Resumes, Fails}
use Rattle.dg_mid.specs.Step.{entered, goes_on, goes_back}
use Rattle.z_model.specs.Run.{ZState}
use Rattle.dg_turn.specs.Told.{Telling}
use Rattle.dg_turn.specs.Plays.{Playing}
use Rattle.dg_chain.specs.Always.{MayRun, Always}
use Rattle.dg_turn.specs.Tries.{sought_by}
use Rattle.dg_chain.specs.Routines.{BlocksAt, FindsObjects, FindsGlobal}
use Rattle.dg_chain.specs.Stands.{Meant}
use Rattle.dg_chain.specs.Steps.{step_cost}
use Rattle.dg_chain.specs.Whole.{OpLeads, OthersMean, CodeLeads, story_setting}
use Rattle.dg_chain.proofs.Landing.{Leads, leads_meant, op_means}
use Rattle.dg_chain.proofs.Choosing.{branch_leads, try_leads, shield_leads, once_leads, commit_leads, refuse_leads, leave_leads}
use Rattle.dg_chain.proofs.Jumping.{take_leads, goto_leads, back_leads, fail_leads, stop_leads, done_leads}
use Rattle.dg_chain.proofs.Printing.{text_leads, gap_leads, gap_n_leads, quit_leads}
use Rattle.dg_chain.proofs.PrintingValues.{print_leads}
use Rattle.dg_chain.proofs.Answering.{just_leads, return_leads}
use Rattle.dg_chain.proofs.Asking.{ask_leads, last_leads}
use Rattle.dg_chain.proofs.Unifying.{equal_leads, enters_lead}
use Rattle.dg_chain.proofs.Operating.{test_leads, compare_leads, arith_leads, random_leads}
use Rattle.dg_chain.proofs.Changing.{now_leads}
use Rattle.dg_chain.proofs.Finding.{flag_leads}
use Rattle.dg_chain.proofs.GlobalFinding.{find_global_leads}
use Rattle.dg_chain.proofs.Picking.{select_leads}
use Rattle.dg_chain.proofs.TypingLeads.{input_leads}
use Rattle.dg_chain.proofs.WordingLeads.{split_leads, join_leads}
use Rattle.dg_chain.proofs.Querying.{query_leads, last_query_leads}
use Rattle.dg_chain.proofs.Gathering.{collect_leads, keep_leads}
use Rattle.dg_chain.proofs.Trying.{find_leads}
use Rattle.dg_chain.proofs.Going.{resumes_lead, fails_lead}

module _ (t : Telling) (plays : Playing t) (code : Code) (blocks : BlocksAt t code) (dice : List ℕ) (same : t.p.world.dice ≡ dice) where
  -- an instruction that isn't run never comes
  never_leads : (x : Op) → ((rest : List Op) → MayRun (x ∷ rest) → ⊥) → OpLeads t code dice x
  never_leads x never ps m rest z e always s = absurd (never rest (subst MayRun e always.begins.0))

  act_leads : (a : Action) → OpLeads t code dice (op.Do a)
  act_leads (action.Text name) = text_leads t plays code dice name
  act_leads (action.Print x) = print_leads t plays code dice x
  act_leads (action.Gap kind) = gap_leads t plays code dice kind
  act_leads (action.GapN x) = gap_n_leads t plays code dice x
  act_leads (action.Equal a b) = equal_leads t plays code dice a b
  act_leads (action.Test kind x) = test_leads t plays code dice kind x
  act_leads (action.Now place args sets) = now_leads t plays code dice place args sets
  act_leads (action.Arith f a b c) = arith_leads t plays code dice f a b c
  act_leads (action.Compare f a b) = compare_leads t plays code dice f a b
  act_leads (action.Random a b c) = random_leads t plays code dice same a b c
  act_leads (action.Input x) = input_leads t plays code dice x
  act_leads (action.SplitWord a b) = split_leads t plays code dice a b
  act_leads (action.JoinWords a b) = join_leads t plays code dice a b
  act_leads action.Just = just_leads t plays code blocks dice
  act_leads action.Fail = fail_leads t plays code blocks dice
  act_leads action.Stop = stop_leads t plays code blocks dice
  act_leads action.Quit = quit_leads t plays code dice

  -- A query of one term is of objects or of a global variable, by the kind of its place.
  abbrev One : (ℕ → Type 0) → ℕ → ℕ → Term → Bool → ℕ → Type 0
  One b y place a many next = FindsObjects b t y (Some place) (a ∷ []) many next ⊎ FindsGlobal b t y place a

  of_objects : (place : ℕ) (a : Term) (many : Bool) (next : ℕ) → (slice_get (kinds_of t.program) place ≡ Some Global → ⊥) → (b : ℕ → Type 0) (y : ℕ) → One b y place a many next → FindsObjects b t y (Some place) (a ∷ []) many next
  of_objects place a many next not b y h = ⊎_elim (λ o. o) (λ g. absurd (not g.kind_is)) h

  of_global : (place : ℕ) (a : Term) (many : Bool) (next : ℕ) → slice_get (kinds_of t.program) place ≡ Some Global → (b : ℕ → Type 0) (y : ℕ) → One b y place a many next → FindsGlobal b t y place a
  of_global place a many next is b y h = ⊎_elim (λ o. absurd (let none = ap (λ (k : Option PlaceKind). sought_by place k) is in let some = o.sought_is in cc)) (λ g. g) h

  one_leads : (place : ℕ) (a : Term) (many : Bool) (next : ℕ) (k : Option PlaceKind) → slice_get (kinds_of t.program) place ≡ k → OpLeads t code dice (op.Find (Some place) (a ∷ []) many next)
  one_leads place a many next (Some Global) is = find_global_leads t plays code dice place a many next (of_global place a many next is)
  one_leads place a many next (Some Flag) is = find_leads t plays code dice (Some place) (a ∷ []) many next (of_objects place a many next (λ e. let q = sym is ∙ e in cc))
  one_leads place a many next (Some ObjectFlag) is = find_leads t plays code dice (Some place) (a ∷ []) many next (of_objects place a many next (λ e. let q = sym is ∙ e in cc))
  one_leads place a many next (Some ObjectVar) is = find_leads t plays code dice (Some place) (a ∷ []) many next (of_objects place a many next (λ e. let q = sym is ∙ e in cc))
  one_leads place a many next (Some Parent) is = find_leads t plays code dice (Some place) (a ∷ []) many next (of_objects place a many next (λ e. let q = sym is ∙ e in cc))
  one_leads place a many next None is = find_leads t plays code dice (Some place) (a ∷ []) many next (of_objects place a many next (λ e. let q = sym is ∙ e in cc))

  op_leads : (x : Op) → OpLeads t code dice x
  op_leads (op.Do a) = act_leads a
  op_leads (op.Ask pred terms many next) = ask_leads t plays code blocks dice pred terms many next
  op_leads (op.LastAsk pred terms many) = last_leads t plays code blocks dice pred terms many
  op_leads (op.Query a b many next) = query_leads t plays code blocks dice a b many next
  op_leads (op.LastQuery a b many) = last_query_leads t plays code blocks dice a b many
  op_leads (op.Find None ts many next) = find_leads t plays code dice None ts many next (λ b y h. h)
  op_leads (op.Find (Some place) [] many next) = flag_leads t plays code dice place many next
  op_leads (op.Find (Some place) (a ∷ []) many next) = one_leads place a many next (slice_get (kinds_of t.program) place) refl
  op_leads (op.Find (Some place) (a ∷ b ∷ ts) many next) = find_leads t plays code dice (Some place) (a ∷ b ∷ ts) many next (λ b y h. h)
  op_leads op.Take = take_leads t plays code blocks dice
  op_leads (op.Branch alt) = branch_leads t plays code dice alt
  op_leads (op.Select site mode bs behind) = select_leads t plays code blocks dice same site mode bs behind
  op_leads op.Once = once_leads t plays code dice
  op_leads (op.Try alt) = try_leads t plays code dice alt
  op_leads (op.Shield alt) = shield_leads t plays code dice alt
  op_leads (op.Collect term into alt) = collect_leads t plays code dice term into alt
  op_leads (op.Retry alt) = never_leads (op.Retry alt) (λ rest h. h)
  op_leads (op.TakeOut whole into) = never_leads (op.TakeOut whole into) (λ rest h. h)
  op_leads op.Commit = commit_leads t plays code dice
  op_leads op.Refuse = refuse_leads t plays code dice
  op_leads op.Leave = leave_leads t plays code dice
  op_leads (op.Keep term) = keep_leads t plays code dice term
  op_leads op.Back = back_leads t plays code blocks dice
  op_leads op.Return = return_leads t plays code blocks dice
  op_leads (op.Goto b) = goto_leads t plays code blocks dice b
  op_leads (op.Enter vars head) = never_leads (op.Enter vars head) (λ rest h. h)
  op_leads op.Done = done_leads t plays code blocks dice

  others_mean : OthersMean t code dice
  others_mean = record {
    ends = λ ps m z e always h. absurd (subst MayRun e always.begins.0);
    enters = λ ps call m z always h. enters_by ps call m z always h;
    resumes = λ ps way m z always h. resumes_by ps way m z always h;
    fails = λ ps m z always h. fails_by ps m z always h;
  }
    where
      enters_by : (ps : List Print) (call : Call) (m : Mid) (z : ZState) → Always code (Enters call m) → Meant t code ps (Enters call m) z → Leads t code dice 1 ps (entered (story_setting t code dice) call m.ops m) (step_cost (story_setting t code dice) ps (Enters call m)) z
      enters_by ps call m z always (inl s) = leads_meant t code dice 1 ps _ _ z (enters_lead t plays code dice ps call m z always s)
      enters_by ps call m z always (inr l) = absurd l

      resumes_by : (ps : List Print) (way : Way) (m : Mid) (z : ZState) → Always code (Resumes way m) → Meant t code ps (Resumes way m) z → Leads t code dice 0 ps (goes_on (story_setting t code dice) way m) (step_cost (story_setting t code dice) ps (Resumes way m)) z
      resumes_by ps way m z always (inl s) = resumes_lead t plays code blocks dice ps way m z always s
      resumes_by ps way m z always (inr l) = absurd l

      fails_by : (ps : List Print) (m : Mid) (z : ZState) → Always code (Fails m) → Meant t code ps (Fails m) z → Leads t code dice 1 ps (goes_back m.choices m) (step_cost (story_setting t code dice) ps (Fails m)) z
      fails_by ps m z always (inl s) = leads_meant t code dice 1 ps _ _ z (fails_lead t plays code blocks dice ps m z always s)
      fails_by ps m z always (inr l) = absurd l

pub code_leads : CodeLeads
code_leads = record {
  ops = λ t plays code blocks x. op_means t code t.p.world.dice plays x (op_leads t plays code blocks t.p.world.dice refl x);
  others = λ t plays code blocks. others_mean t plays code blocks t.p.world.dice refl;
}
