-- Whole runs of a story whose routines stand.
use Rattle.std.proofs.Common.{◌≡◌, ℕ, List, inl, inr, ap, ◌∙◌}
use Rattle.dg_meaning.specs.World.{Game, Print}
use Rattle.dg_meaning.specs.Render.{render}
use Rattle.dg_mid.specs.declared.code.Code.{Code}
use Rattle.dg_mid.proofs.Charge.{affords}
use Rattle.dg_mid.specs.Runs.{after}
use Rattle.dg_mid.proofs.Seeks.{all_seek}
use Rattle.dg_mid.specs.Seeking.{WaySeeks, StatusSeeks}
use Rattle.dg_mid.specs.Step.{Setting}
use Rattle.dg_mid.specs.State.{Mid, Way, Goes, Takes, Calls, Tries, Status, Runs, Enters, Resumes, Fails, Ended}
use Rattle.z_model.specs.Run.{ZState}
use Rattle.dg_turn.specs.Told.{Telling}
use Rattle.dg_turn.specs.Plays.{Playing, Outside, Represented}
use Rattle.dg_chain.specs.Agrees.{story_limits}
use Rattle.dg_chain.specs.Steps.{Starts, StepsAreTurns}
use Rattle.dg_chain.specs.Routines.{BlocksAt}
use Rattle.dg_chain.specs.Always.{WayLeaves, StatusLeaves, Always}
use Rattle.dg_chain.specs.Stands.{StandsFor, Stands, Lands, Meant}
use Rattle.dg_chain.specs.Whole.{story_setting, CodeFits}
use Rattle.dg_chain.proofs.Beginning.{begins_at}
use Rattle.dg_chain.proofs.InRules.{all_stand}
use Rattle.dg_chain.proofs.Coded.{code_leads}
use Rattle.dg_chain.proofs.Ops.{steps_by}
use Rattle.dg_chain.proofs.Telling.{fits_by}

module _ (t : Telling) (code : Code) where
  written_in : (out : Outside) (next : ℕ) (m : Mid) (z : ZState) → Represented t out next m z → z.output ≡ out.output
  written_in out next m z r = ap (λ (y : ZState). y.output) r.is

  written_for : (out : Outside) (now : Status) (z : ZState) → StandsFor t code out now z → z.output ≡ out.output
  written_for out (Runs m) z s = written_in out s.x m z s.rep
  written_for out (Enters call m) z s = written_in out s.x m z s.rep
  written_for out (Resumes (Goes b) m) z s = written_in out (t.at_block b) m z s
  written_for out (Resumes (Takes b into) m) z s = written_in out (t.at_block b) m z s.rep
  written_for out (Resumes (Calls call rules) m) z s = written_in out _ m z s.looks.rep
  written_for out (Resumes (Tries f objects) m) z s = written_in out s.x m z s.rep
  written_for out (Fails m) z s = written_in out _ _ z s.rep
  written_for out (Ended e) z s = absurd s

  written : (ps : List Print) (now : Status) (z : ZState) → Stands t code ps now z → z.output ≡ render ps
  written ps now z s = written_for s.printed.out now z s.at ∙ s.printed.written

  written_landed : (ps : List Print) (now : Status) (z : ZState) → Lands t code ps now z → z.output ≡ render ps
  written_landed ps (Runs m) z l = ap (λ (y : ZState). y.output) l.landed.is ∙ l.printed.written
  written_landed ps (Enters call m) z l = absurd l
  written_landed ps (Resumes way m) z l = absurd l
  written_landed ps (Fails m) z l = absurd l
  written_landed ps (Ended e) z l = absurd l

  written_meant : (ps : List Print) (now : Status) (z : ZState) → Meant t code ps now z → z.output ≡ render ps
  written_meant ps now z (inl s) = written ps now z s
  written_meant ps now z (inr l) = written_landed ps now z l

steps_stand : (t : Telling) → Playing t → (code : Code) → BlocksAt t code → StepsAreTurns t.p.world (story_setting t code t.p.world.dice) (Always code) (Meant t code)
steps_stand t plays code blocks = steps_by t.p.world (story_setting t code t.p.world.dice) (Always code) (Meant t code) (code_leads.ops t plays code blocks) (code_leads.others t plays code blocks) (λ ps now z s. written_meant t code ps now z s)

-- what a choice goes on with leaves an inner construct first
way_leaves : (g : Game) (code : Code) (way : Way) → WaySeeks g code way → WayLeaves code way
way_leaves g code (Goes b) h = tt
way_leaves g code (Takes b into) h = tt
way_leaves g code (Calls call rules) h = tt
way_leaves g code (Tries f objects) h = h.1

leaves_by : (g : Game) (code : Code) (now : Status) → StatusSeeks g code now → StatusLeaves code now
leaves_by g code (Runs m) h = tt
leaves_by g code (Enters call m) h = tt
leaves_by g code (Resumes way m) h = way_leaves g code way h.0
leaves_by g code (Fails m) h = tt
leaves_by g code (Ended e) h = tt

-- it starts in one of the two ways
starts_meant : (t : Telling) (code : Code) (set : Setting) (typed : List ℕ) (z : ZState) → Starts t.p.world set (Stands t code) typed z → Starts t.p.world set (Meant t code) typed z
starts_meant t code set typed z s = record { count = s.count; few = s.few; there = s.there; leads = s.leads; stands = inl s.stands; printed = s.printed }

pub code_fits : CodeFits
code_fits searched costs looks moves heights trails cuts fits_calls never t code typed plays blocks codes tidy leave sound few z starts =
    let set = story_setting t code t.p.world.dice in
    let g = set.game in
    let always : (k : ℕ) → Always code (after set typed k).now = λ k. record {
      ordered = heights set typed k;
      trailed = trails set typed k;
      cuts = cuts set typed k;
      fits = fits_calls g code story_limits codes sound 12 few typed k;
      begins = (let c = (searched g code story_limits codes typed k).comes 0 in begins_at set g (after set typed k).now (after set typed k).prints 0 c.world _ (affords set t.program codes tidy typed k).1 c.at);
      stands = all_stand t.program set codes blocks.few typed k;
      leaves = leaves_by g code (after set typed k).now (all_seek set leave typed k);
    } in
    fits_by searched costs looks moves never g code typed codes tidy t.p.world (Always code) (Meant t code) (steps_stand t plays code blocks) always z (starts_meant t code set typed z starts)
