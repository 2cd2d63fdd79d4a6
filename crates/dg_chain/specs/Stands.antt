-- What memory stands for in each status of a machine, and what is outside. Hold it against dg_mid/specs/State.antt, and docs/STORIES.md, where it says with
-- which line a story ends.
use Rattle.std.specs.Prelude.{◌⊎◌, ◌≡◌, ℕ, ◌%◌, ◌≤◌, List, [], ◌∷◌, length}
use Rattle.dg_meaning.specs.Facts.{kinds_of, kept_size}
use Rattle.dg_meaning.specs.Values.{Value}
use Rattle.dg_meaning.specs.World.{Print}
use Rattle.dg_meaning.specs.Render.{nothing_met, met_from, render}
use Rattle.dg_mid.specs.declared.code.Code.{Code}
use Rattle.dg_mid.specs.declared.code.Op.{Op}
use Rattle.dg_mid.specs.declared.code.Op.TheVariants as op
use Rattle.dg_mid.specs.declared.code.RuleCode.{RuleCode}
use Rattle.dg_mid.specs.State.{Place, Frame, Call, Way, Goes, Takes, Calls, Tries, Mid, Lasting, Status, Runs, Enters, Resumes, Fails, Ended}
use Rattle.dg_mid.specs.Step.{first_of}
use Rattle.z_model.specs.Run.{ZState}
use Rattle.dg_rt.specs.declared.numbers.TheConstants.{FAIL}
use Rattle.dg_rt.specs.Areas.{back_reg}
use Rattle.dg_rt.specs.Gaps.{Meets}
use Rattle.dg_rt.specs.Shapes.{Shows}
use Rattle.dg_turn.specs.Told.{Telling, FirstIs, RulesAt}
use Rattle.dg_turn.specs.Lies.{OpensFewer, StopsFewer}
use Rattle.dg_turn.specs.Plays.{Outside, Represented, CallAt}
use Rattle.dg_turn.specs.Rules.{LooksAt}
use Rattle.dg_turn.specs.Seeking.{TriesAt, Landed}
use Rattle.dg_turn.specs.Sites.{SitesIn}
use Rattle.dg_turn.specs.World.{FactsIn}
use Rattle.dg_chain.specs.Routines.{OpsAt}

-- ## One case a status

-- It runs code: the routine of the first instruction comes next.
pub record RunsAt (t : Telling) (code : Code) (out : Outside) (m : Mid) (z : ZState) : Type 0 where
  pub x : ℕ
  pub rep : Represented t out x m z
  pub ops_are : OpsAt t code x m.ops

-- It enters a rule: the same, with the call in registers.
pub record EntersAt (t : Telling) (code : Code) (out : Outside) (call : Call) (m : Mid) (z : ZState) : Type 0 where
  pub x : ℕ
  pub rep : Represented t out x m z
  pub ops_are : OpsAt t code x m.ops
  pub call_is : CallAt t rep.sh rep.cells call

-- It looks at further rules of a query: the routine of the first of them comes next, and the call and its key are in registers.
pub record LooksOn (t : Telling) (out : Outside) (call : Call) (rules : List RuleCode) (m : Mid) (z : ZState) : Type 0 where
  pub number : ℕ
  pub key : ℕ
  pub rules_are : RulesAt t (length call.args) number rules
  pub key_is : FirstIs (first_of m.state.subst call) key
  pub looks : LooksAt t out number call key 0 m z

-- It takes out a gathering for a value, whose word is in the register of what comes behind a query; the choices and stoppable parts that are left were
-- opened where fewer gatherings were open.
pub record TakesOut (t : Telling) (out : Outside) (block : ℕ) (into : Value) (m : Mid) (z : ZState) : Type 0 where
  pub rep : Represented t out (t.at_block block) m z
  pub into_is : Shows rep.sh (rep.cells back_reg) into
  pub fewer : OpensFewer (length m.gathered) m.choices × StopsFewer (length m.gathered) m.stops

-- A choice goes on: with a block, whose routine comes next, with a gathering, with further rules, or with further objects.
abbrev pub ResumesAt : Telling → Outside → Way → Mid → ZState → Type 0
ResumesAt t out (Goes b) m z = Represented t out (t.at_block b) m z
ResumesAt t out (Takes b into) m z = TakesOut t out b into m z
ResumesAt t out (Calls call rules) m z = LooksOn t out call rules m z
ResumesAt t out (Tries f objects) m z = TriesAt t out f objects m z

-- It fails: the routine that goes back comes next. What the frames and inner constructs are doesn't matter there, since a choice gives its own back.
pub record FailsIn (t : Telling) (out : Outside) (m : Mid) (z : ZState) : Type 0 where
  pub frames : List Frame
  pub inner : List Place
  pub rep : Represented t out (t.p.names.routine FAIL) (record m { frames = frames; inner = inner }) z

-- Memory stands for a status, with this outside. Of a run that has ended it stands for nothing.
abbrev pub StandsFor : Telling → Code → Outside → Status → ZState → Type 0
StandsFor t code out (Runs m) z = RunsAt t code out m z
StandsFor t code out (Enters call m) z = EntersAt t code out call m z
StandsFor t code out (Resumes way m) z = ResumesAt t out way m z
StandsFor t code out (Fails m) z = FailsIn t out m z
StandsFor t code out (Ended e) z = ⊥

-- ## What is outside

-- What lasts of a status: nothing of a run that has ended.
abbrev pub lasting_of : Status → Lasting
lasting_of (Runs m) = m.lasting
lasting_of (Enters call m) = m.lasting
lasting_of (Resumes way m) = m.lasting
lasting_of (Fails m) = m.lasting
lasting_of (Ended e) = record { typed = []; dice = 0; facts = []; sites = [] }

-- What lasts of a machine is outside: as many of the player's dice words were drawn, in a circle, the typed bytes are left,
-- the words of the world stand for what is set, and those behind it for what is kept of selects. What global variables hold
-- is within its limit.
pub record Lasts (t : Telling) (l : Lasting) (out : Outside) : Type 0 where
  pub drawn : out.drawn ≡ l.dice % length t.p.world.dice
  pub typed : out.typed ≡ l.typed
  pub facts : FactsIn t.program l.facts out.words
  pub keeps : kept_size (kinds_of t.program) l.facts ≤ 500
  pub sites : SitesIn t l.sites out.words

-- Outside is what was printed and what lasts: it was written, and the registers say what the next piece meets.
pub record Printed (t : Telling) (ps : List Print) (l : Lasting) : Type 0 where
  pub out : Outside
  pub written : out.output ≡ render ps
  pub meets : Meets out.words (met_from nothing_met ps)
  pub lasts : Lasts t l out

-- Memory stands for a status where so much was printed.
pub record Stands (t : Telling) (code : Code) (ps : List Print) (now : Status) (z : ZState) : Type 0 where
  pub printed : Printed t ps (lasting_of now)
  pub at : StandsFor t code printed.out now z

-- ## Inner constructs without cells

-- It runs code that leaves its newest inner construct first, which has no cells.
pub record LandsAt (t : Telling) (code : Code) (ps : List Print) (m : Mid) (z : ZState) : Type 0 where
  pub printed : Printed t ps m.lasting
  pub x : ℕ
  pub landed : Landed t printed.out x m z
  pub rest : List Op
  pub leaves : m.ops ≡ op.Commit ∷ rest
  pub ops_are : OpsAt t code x m.ops

abbrev pub Lands : Telling → Code → List Print → Status → ZState → Type 0
Lands t code ps (Runs m) z = LandsAt t code ps m z
Lands t code ps now z = ⊥

-- Memory stands for a status in one of the two ways.
abbrev pub Meant : Telling → Code → List Print → Status → ZState → Type 0
Meant t code ps now z = Stands t code ps now z ⊎ Lands t code ps now z
