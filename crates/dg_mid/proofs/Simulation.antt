-- A step of register code is what the search does.
use Rattle.std.proofs.Common.{ℕ, ◌+◌, ◌≤◌, List, [], refl, sym, ap, ◌∙◌, subst, arith}
use Rattle.dg_base.specs.declared.program.Goal.{Goal}
use Rattle.dg_base.specs.declared.run.Limits.{Limits}
use Rattle.dg_meaning.specs.World.{Game, World, Print}
use Rattle.dg_meaning.specs.Path.{Step, Rules, ChoiceKind}
use Rattle.dg_meaning.specs.Moves.{call_cells}
use Rattle.dg_meaning.specs.Transcript.{Run}
use Rattle.dg_meaning.specs.inside.Keeps.{Tried, open_at}
use Rattle.dg_mid.specs.declared.code.Op.{Op}
use Rattle.dg_mid.specs.declared.code.Code.{Code}
use Rattle.dg_mid.specs.Code.{block_at, selected}
use Rattle.dg_mid.specs.State.{Way, Goes, Calls, Tries, Mid, Status, Runs, Enters, Resumes, Fails, Ended, Takes, vars_of}
use Rattle.dg_mid.specs.Step.{Setting, setting, runs, first_of, begins, goes_on as way_goes_on, at_goal, said_in, said_to, followed}
use Rattle.dg_mid.specs.Units.{earned_of, earned_by}
use Rattle.dg_mid.specs.Codes.{End, Stands, jumps, returns, commits, refuses, backs, leaves, keeps, finishes, acts, ask, last_ask, query, last_query, holds, objects, only, either, selects, once, negates, branch, exhausts, shields, collects, accumulates, forever, Codes}
use Rattle.dg_mid.specs.Reads.{silents, Behind, RunsAt, ResumesAt, Comes, before, Simulates, GathersAt}
use Rattle.dg_mid.proofs.Here.{Here, steps_of, answers}
use Rattle.dg_mid.proofs.Marks as marks
use Rattle.dg_mid.proofs.Acts as acts_on
use Rattle.dg_mid.proofs.Choices as choices
use Rattle.dg_mid.proofs.Parts as parts
use Rattle.dg_mid.proofs.Chosen as selects_on
use Rattle.dg_mid.proofs.Backs as backs_on
use Rattle.dg_mid.proofs.Calls.{rules_begin, enters_at, rule_open}
use Rattle.dg_mid.proofs.Asks as asks_on
use Rattle.dg_mid.proofs.Bodies as bodies
use Rattle.dg_mid.proofs.Finding as finding

-- what an instruction comes to
abbrev Does : (least : ℕ) (ps : List Print) (set : Setting) (ops : List Op) (m : Mid) (g : Game) (n : ℕ) (run : Run) → Type 0
Does least ps set ops m g n run = Comes least (followed ps (said_to (said_in set m ops) (runs set ops m))) set (runs set ops m) g n run

module _ (code : Code) (limits : Limits) (m : Mid) (ps : List Print) (rest : List Step) (g : Game) (n : ℕ) (w : World) (run : Run) (codes : Codes g.program code) (below : Behind g code m.frames rest) where
  abbrev set : Setting
  set = setting g code limits

  -- an instruction
  pub runs_one : {least : ℕ} → (ops : List Op) (goals : List Goal) (end : End) → Stands code ops goals end → GathersAt g end (vars_of m.frames) m.inner → Here code m ps (steps_of m goals end rest) g (before (at_goal ops) n) w run → least ≤ w.meters.work + earned_of set ps ops m → Does least ps set ops m g n run
  runs_one {least = least} ops goals end (jumps b others goals' end' s) valued h le = marks.goes_on set (record m { ops = block_at code b }) (steps_of m goals end rest) [] g n w run (record { goals = goals; end = end; rest = rest; stands = s; below = below; gathers = valued; is = refl }) h (omega (arith, le))
  runs_one {least = least} ops goals end (returns others) valued h le = marks.return set m others m.frames rest g n w run below h (omega (arith, le))
  runs_one {least = least} ops goals end (commits others goals' end' s) valued h le = marks.commit set m others goals' end' rest m.inner g n w run s below valued h (omega (arith, le))
  runs_one {least = least} ops goals end (refuses others) valued h le = marks.refuse set m others rest m.inner g n w run h (omega (arith, le))
  runs_one {least = least} ops goals end (backs others) valued h le = marks.fails_back set (record m { ops = others }) [] g n w run h (omega (arith, le))
  runs_one {least = least} ops goals end (leaves others goals' end' s) valued h le = marks.leave set m others goals' end' rest m.inner g n w run s below valued h (omega (arith, le))
  runs_one {least = least} ops goals end (keeps term others) valued h le = marks.keep code limits m others term rest m.inner g n w run valued h (omega (arith, le))
  runs_one {least = least} ops goals end (finishes others) valued h le = marks.finish set m g n w run h (omega (arith, le))
  runs_one {least = least} ops goals end (acts a others goals' end' s) valued h le = acts_on.acts code limits m a others goals' end' rest g n w run s below valued h le
  runs_one {least = least} ops goals end (ask pred terms many next others goals' end' s) valued h le = asks_on.ask code limits m ps others g n w run codes pred terms many (steps_of m goals' end' rest) h next goals' end' rest s below valued refl le
  runs_one {least = least} ops goals end (last_ask pred terms many others) valued h le = asks_on.last_ask code limits m ps others g n w run codes pred terms many rest h below le
  runs_one {least = least} ops goals end (query a b many next others goals' end' s) valued h le = bodies.query_on code limits m ps others g n w run codes a b many (steps_of m goals' end' rest) h next goals' end' rest s below valued refl le
  runs_one {least = least} ops goals end (last_query a b many others) valued h le = bodies.last_query_on code limits m ps others g n w run codes a b many rest h below le
  runs_one {least = least} ops goals end (holds place terms many next others goals' end' s o) valued h le = finding.holds_so code limits m others goals' end' rest g n w run s below valued place terms many next o h le
  runs_one {least = least} ops goals end (objects term many next others goals' end' s o) valued h le = finding.objects_so code limits m others goals' end' rest g n w run s below valued term many next o h le
  runs_one {least = least} ops goals end (only list others goals' end' s) valued h le = choices.only code limits m others goals' end' rest g n w run below valued list s h (omega (arith, le))
  runs_one {least = least} ops goals end (either alt list second lists others goals' end' s o) valued h le = choices.either code limits m others goals' end' rest g n w run below valued alt list second lists s o h (omega (arith, le))
  runs_one {least = least} ops goals end (selects site mode blocks lists behind others goals' end' bs s) valued h le = selects_on.selects_so code limits m others goals' end' rest g n w run below valued site mode blocks lists behind bs s h (omega (arith, le))
  runs_one {least = least} ops goals end (once inner others goals' end' s) valued h le = choices.once code limits m others goals' end' rest g n w run below valued inner s h (omega (arith, le))
  runs_one {least = least} ops goals end (negates alt inner others goals' end' s o) valued h le = choices.negates code limits m others goals' end' rest g n w run below valued alt inner s o h (omega (arith, le))
  runs_one {least = least} ops goals end (branch alt tested first other others goals' end' s o) valued h le = choices.branch code limits m others goals' end' rest g n w run below valued alt tested first other s o h (omega (arith, le))
  runs_one {least = least} ops goals end (exhausts alt inner others goals' end' s o) valued h le = choices.exhausts code limits m others goals' end' rest g n w run below valued alt inner s o h (omega (arith, le))
  runs_one {least = least} ops goals end (shields alt inner others goals' end' s o) valued h le = parts.shields code limits m others goals' end' rest g n w run below valued alt inner s o h (omega (arith, le))
  runs_one {least = least} ops goals end (collects term into alt inner others behind goals' end' s e o) valued h le = parts.collects code limits m others goals' end' rest g n w run below valued term into alt inner behind s e o h (omega (arith, le))
  runs_one {least = least} ops goals end (accumulates term into alt inner others behind goals' end' s e o) valued h le = parts.accumulates code limits m others goals' end' rest g n w run below valued term into alt inner behind s e o h (omega (arith, le))
  runs_one {least = least} ops goals end (forever b others goals' end' e s) valued h le = choices.endless code limits m others goals' end' rest g n w run below valued b e s h (omega (arith, le))

-- the code at hand
runs_at : {least : ℕ} → {ps : List Print} → (code : Code) (limits : Limits) (m : Mid) (g : Game) (n : ℕ) (w : World) (run : Run) → Codes g.program code → RunsAt code m ps g (before (at_goal m.ops) n) w run → least ≤ w.meters.work + earned_of (setting g code limits) ps m.ops m →
    Does least ps (setting g code limits) m.ops m g n run
runs_at {least = least} {ps = ps} code limits m g n w run codes h le =
    let layer = h.reads in
    let k = before (at_goal m.ops) n in
    let a = answers code m ps h.answered h.steps g k w run (record { lives = h.lives; ways = h.ways; registers = h.registers; mirrors = h.mirrors; stands = h.stands }) in
    runs_one code limits m ps layer.rest g n a.world run codes layer.below m.ops layer.goals layer.end layer.stands layer.gathers (subst (λ l. Here code m ps l g k a.world run) layer.is a.here) (let z = a.work in omega (arith, le, z))

-- a choice goes on
resumes_at : {least : ℕ} → {ps : List Print} → (code : Code) (limits : Limits) (way : Way) (m : Mid) (g : Game) (n : ℕ) (w : World) (run : Run) → ResumesAt code way m ps g n w run → least ≤ w.meters.work + earned_by (setting g code limits) ps way m → Comes least ps (setting g code limits) (way_goes_on (setting g code limits) way m) g n run
resumes_at {least = least} {ps = ps} code limits (Goes b) m g n w run h le = backs_on.resumes code limits b m ps h.live h.lives h.registers g n w run h.mirrors h.tag h.way_is.0 h.height h.tried h.live.others refl h.way_is.1 le
resumes_at {least = least} {ps = ps} code limits (Takes b into) m g n w run h le = parts.takes_out code limits b into m h.live h.lives h.registers g n w run h.mirrors h.way_is.0 h.tried h.way_is.1 h.newest le
resumes_at {least = least} {ps = ps} code limits (Calls call rules) m g n w run h le =
    let c = h.way_is in
    let i = h.mirrors in
    let q = h.registers in
    let set = setting g code limits in
    let height = sym (rule_open g c.pred call.args call.many (silents c.answered c.after) q (call_cells call.args q c.left) c.rule _ h.live.height) ∙ ap (λ l. open_at l h.live.height) (sym c.others_are) ∙ h.height in
    let tried = subst (λ l. Tried g (Rules c.pred) q.next_tag h.live.height h.live.ways_on h.lives l n w run) c.others_are
    (subst (λ t. Tried g (Rules c.pred) t h.live.height h.live.ways_on h.lives h.live.others n w run) (h.tag ∙ sym i.tag)
    (subst (λ (k : ChoiceKind). Tried g k h.live.tag h.live.height h.live.ways_on h.lives h.live.others n w run) c.kind_is h.tried)) in
    subst (λ l. Comes least ps set (begins set call l m) g n run) (ap (λ S. selected (first_of S call) c.codes) i.agrees.bound ∙ sym c.rules_are)
    (rules_begin g code limits call c.pred c.answered c.after q c.sound m ps h.lives h.live.ways_on n run h.live.height c.reads c.cut height c.codes c.rule c.left w c.stand i tried (omega (arith, le)))
resumes_at {least = least} {ps = ps} code limits (Tries f os) m g n w run h le =
    finding.tries_on code limits g n w run f os m h.live h.lives h.registers h.mirrors h.tag h.way_is.0 h.height h.tried h.way_is.1 le

pub simulates : (code : Code) (limits : Limits) (now : Status) (g : Game) → Codes g.program code → Simulates (setting g code limits) now g
simulates code limits (Runs m) g codes least n ps w run h le = runs_at code limits m g n w run codes h le
simulates code limits (Enters call m) g codes least n ps w run h le = enters_at g code limits call m n w run h le
simulates code limits (Resumes way m) g codes least n ps w run h le = resumes_at code limits way m g n w run h le
simulates code limits (Fails m) g codes least n ps w run h le = backs_on.back (setting g code limits) m g m.choices h.lives n w run 0 h.choices h.gathered h.lasting h.printed h.failed (omega (arith, le))
simulates code limits (Ended e) g codes least n ps w run h le = record { world = w; at = h; worked = omega (arith, le) }
