-- What the turns cost is within what code is paid for: 800 instructions a unit, and 9,000 where rules are looked at. Hold it against
-- dg_mid/specs/Units.antt.
use Rattle.std.specs.Prelude.{◌≡◌, ◌≢◌, ℕ, ◌+◌, ◌*◌, ◌≤◌, List, [], ◌∷◌, length, Option, Some, Bool, All, encode_utf8_all}
use Rattle.std.specs.List.{slice_get}
use Rattle.dg_base.specs.declared.program.ArithOp.{ArithOp}
use Rattle.dg_base.specs.declared.program.CompareOp.{CompareOp}
use Rattle.dg_base.specs.declared.program.GapKind.{GapKind}
use Rattle.dg_base.specs.declared.program.PlaceKind.{PlaceKind}
use Rattle.dg_base.specs.declared.program.PlaceKind.TheVariants.{ObjectFlag, Global}
use Rattle.dg_base.specs.declared.program.Term.{Term}
use Rattle.dg_base.specs.declared.program.TestKind.{TestKind}
use Rattle.dg_base.specs.Goals.{option_terms}
use Rattle.dg_base.specs.Sound.{IsPrintable}
use Rattle.dg_meaning.specs.Values.{Value}
use Rattle.dg_meaning.specs.Facts.{kinds_of, value_at}
use Rattle.dg_meaning.specs.Numbers.{calculated, thrown}
use Rattle.dg_meaning.specs.Choosing.{die}
use Rattle.dg_meaning.specs.World.{Print}
use Rattle.dg_meaning.specs.Render.{spaces_from, nothing_met, met_from}
use Rattle.dg_meaning.specs.Cells.{nodes_of}
use Rattle.dg_mid.specs.declared.code.Action.TheVariants as action
use Rattle.dg_mid.specs.declared.code.BodyCode.{BodyCode}
use Rattle.dg_mid.specs.declared.code.Op.{Op}
use Rattle.dg_mid.specs.declared.code.Op.TheVariants as op
use Rattle.dg_mid.specs.declared.code.RuleCode.{RuleCode}
use Rattle.dg_mid.specs.State.{Place, Frame, Call, ToBody, Calls, Mid, Status, Runs, Enters, Resumes, Fails}
use Rattle.dg_mid.specs.Step.{Setting, values, asked_by}
use Rattle.dg_mid.specs.Units.{units, selects, dropped, dropped_once, undone, unwound}
use Rattle.dg_rt.specs.Changes.{SetIn}
use Rattle.dg_turn.specs.Terms.{AreNodes, written_in}
use Rattle.dg_turn.specs.Turns.{entering_most, equal_most}
use Rattle.dg_turn.specs.Prints.{print_most}
use Rattle.dg_turn.specs.Operating.{term_links, test_most, compare_most, made_of, making_paid}
use Rattle.dg_turn.specs.Rules.{keyed}
use Rattle.dg_turn.specs.Queries.{asking_most}
use Rattle.dg_turn.specs.Bodies.{querying_most, body_most}
use Rattle.dg_turn.specs.Texts.{gap_n_most}
use Rattle.dg_turn.specs.World.{now_most, set_in, reading_most, answering_most, HasValues, change_in}
use Rattle.dg_turn.specs.Globals.{kept_behind, global_most, global_read_most, global_copied_most}

-- What a step may cost.
abbrev pub paid : Setting → List Print → Status → ℕ
paid g ps now = 800 * units g ps now + 9000 * selects now

-- The costs of a rule of at most 300 variables and 12 parameters, of an equation, of a query of at most 2,200 rules that have a key, of going on with as
-- many, of going back, of leaving an inner construct or a stoppable part, of opening a choice with or without one, of stopping, of answering a rule, and
-- of a query of a closure or of what is none, as the turns have them, are paid for.
pub record TurnsArePaid : Type 0 where
  pub enter : (g : Setting) (ps : List Print) (call : Call) (m : Mid) (vars : ℕ) (head : List Term) (ops : List Op) →
      m.ops ≡ op.Enter vars head ∷ ops → AreNodes g.game.program (nodes_of head) → vars ≤ 300 → length head ≤ 12 →
      entering_most g.game.program call vars head m ≤ paid g ps (Enters call m)
  pub equal : (g : Setting) (ps : List Print) (m : Mid) (a b : Term) (ops : List Op) → m.ops ≡ op.Do (action.Equal a b) ∷ ops →
      AreNodes g.game.program (nodes_of (a ∷ b ∷ [])) → equal_most g.game.program a b m ≤ paid g ps (Runs m)
  pub ask : (g : Setting) (ps : List Print) (m : Mid) (pred : ℕ) (ts : List Term) (many : Bool) (next : ℕ) (rules : List RuleCode) (ops : List Op) →
      m.ops ≡ op.Ask pred ts many next ∷ ops → AreNodes g.game.program (nodes_of ts) → keyed rules ≤ 2200 →
      asking_most g.game.program ts m + 4 * keyed rules + 70 ≤ paid g ps (Runs m)
  pub last_ask : (g : Setting) (ps : List Print) (m : Mid) (pred : ℕ) (ts : List Term) (many : Bool) (rules : List RuleCode) (ops : List Op) →
      m.ops ≡ op.LastAsk pred ts many ∷ ops → AreNodes g.game.program (nodes_of ts) → keyed rules ≤ 2200 →
      asking_most g.game.program ts m + 4 * keyed rules + 70 ≤ paid g ps (Runs m)
  pub begin : (g : Setting) (ps : List Print) (m : Mid) (call : Call) (rules : List RuleCode) → keyed rules ≤ 2200 →
      4 * keyed rules + 70 ≤ paid g ps (Resumes (Calls call rules) m)
  pub fail : (g : Setting) (ps : List Print) (m : Mid) → 6 * undone m.choices m + 34 ≤ paid g ps (Fails m)
  pub commit : (g : Setting) (ps : List Print) (m : Mid) (place : Place) (places : List Place) (ops : List Op) → m.ops ≡ op.Commit ∷ ops →
      m.inner ≡ place ∷ places → 4 * dropped place m.choices + 15 ≤ paid g ps (Runs m)
  pub returned : (g : Setting) (ps : List Print) (m : Mid) (ops : List Op) → m.ops ≡ op.Return ∷ ops →
      4 * dropped_once m.frames m.choices + 20 ≤ paid g ps (Runs m)
  pub branch : (g : Setting) (ps : List Print) (m : Mid) (alt : ℕ) (ops : List Op) → m.ops ≡ op.Branch alt ∷ ops → 30 ≤ paid g ps (Runs m)
  pub try : (g : Setting) (ps : List Print) (m : Mid) (alt : ℕ) (ops : List Op) → m.ops ≡ op.Try alt ∷ ops → 30 ≤ paid g ps (Runs m)
  pub shield : (g : Setting) (ps : List Print) (m : Mid) (alt : ℕ) (ops : List Op) → m.ops ≡ op.Shield alt ∷ ops → 30 ≤ paid g ps (Runs m)
  pub once : (g : Setting) (ps : List Print) (m : Mid) (ops : List Op) → m.ops ≡ op.Once ∷ ops → 20 ≤ paid g ps (Runs m)
  pub leave : (g : Setting) (ps : List Print) (m : Mid) (place : Place) (places : List Place) (ops : List Op) → m.ops ≡ op.Leave ∷ ops →
      m.inner ≡ place ∷ places → 4 * dropped place m.choices + 16 ≤ paid g ps (Runs m)
  pub refuse : (g : Setting) (ps : List Print) (m : Mid) (place : Place) (places : List Place) (ops : List Op) → m.ops ≡ op.Refuse ∷ ops →
      m.inner ≡ place ∷ places → 4 * dropped place m.choices + 15 ≤ paid g ps (Runs m)
  pub stop : (g : Setting) (ps : List Print) (m : Mid) (ops : List Op) → m.ops ≡ op.Do action.Stop ∷ ops →
      3 + (6 * unwound m.stop m + 20) ≤ paid g ps (Runs m)
  pub just : (g : Setting) (ps : List Print) (m : Mid) (f : Frame) (fs : List Frame) (ops : List Op) → m.ops ≡ op.Do action.Just ∷ ops →
      m.frames ≡ f ∷ fs → 4 * dropped f.cut m.choices + 10 ≤ paid g ps (Runs m)
  pub query : (g : Setting) (ps : List Print) (m : Mid) (a : Term) (b : Option Term) (many : Bool) (next : ℕ) (ops : List Op) (c : BodyCode)
      (captured : List Value) (call : Call) (depth : ℕ) → m.ops ≡ op.Query a b many next ∷ ops → asked_by g a m ≡ Some (ToBody c captured) →
      call.args ≡ values g m (option_terms b) → AreNodes g.game.program (nodes_of (a ∷ option_terms b)) → c.own ≤ 300 → depth ≤ 14 →
      querying_most g.game.program a b m + 4 * depth + body_most g.game.program captured c.own call m ≤ paid g ps (Runs m)
  pub last_query : (g : Setting) (ps : List Print) (m : Mid) (a : Term) (b : Option Term) (many : Bool) (ops : List Op) (c : BodyCode)
      (captured : List Value) (call : Call) (depth : ℕ) → m.ops ≡ op.LastQuery a b many ∷ ops → asked_by g a m ≡ Some (ToBody c captured) →
      call.args ≡ values g m (option_terms b) → AreNodes g.game.program (nodes_of (a ∷ option_terms b)) → c.own ≤ 300 → depth ≤ 14 →
      querying_most g.game.program a b m + 4 * depth + body_most g.game.program captured c.own call m ≤ paid g ps (Runs m)
  pub unasked : (g : Setting) (ps : List Print) (m : Mid) (a : Term) (b : Option Term) (many : Bool) (next : ℕ) (ops : List Op) (depth : ℕ) →
      m.ops ≡ op.Query a b many next ∷ ops → AreNodes g.game.program (nodes_of (a ∷ option_terms b)) → depth ≤ 14 →
      querying_most g.game.program a b m + 4 * depth + 30 ≤ paid g ps (Runs m)
  pub last_unasked : (g : Setting) (ps : List Print) (m : Mid) (a : Term) (b : Option Term) (many : Bool) (ops : List Op) (depth : ℕ) →
      m.ops ≡ op.LastQuery a b many ∷ ops → AreNodes g.game.program (nodes_of (a ∷ option_terms b)) → depth ≤ 14 →
      querying_most g.game.program a b m + 4 * depth + 30 ≤ paid g ps (Runs m)

-- So are those of a text behind what was printed, of a gap, of as many spaces as a term says, and of a value behind what was printed.
pub record TextsArePaid : Type 0 where
  pub text : (g : Setting) (ps : List Print) (m : Mid) (cs : List ℕ) (ops : List Op) → m.ops ≡ op.Do (action.Text (encode_utf8_all cs)) ∷ ops →
      All IsPrintable cs → 3 * spaces_from 0 (met_from nothing_met ps).gap + length cs + 30 ≤ paid g ps (Runs m)
  pub gap : (g : Setting) (ps : List Print) (m : Mid) (kind : GapKind) (ops : List Op) → m.ops ≡ op.Do (action.Gap kind) ∷ ops →
      6 ≤ paid g ps (Runs m)
  pub gap_n : (g : Setting) (ps : List Print) (m : Mid) (a : Term) (ops : List Op) → m.ops ≡ op.Do (action.GapN a) ∷ ops →
      AreNodes g.game.program (nodes_of (a ∷ [])) → gap_n_most g.game.program a m ≤ paid g ps (Runs m)
  pub print : (g : Setting) (ps : List Print) (m : Mid) (a : Term) (ops : List Op) → m.ops ≡ op.Do (action.Print a) ∷ ops →
      AreNodes g.game.program (nodes_of (a ∷ [])) → print_most g.game.program (met_from nothing_met ps) a m ≤ paid g ps (Runs m)

-- So are those of a test, a comparison, arithmetic and a throw.
pub record OperationsArePaid : Type 0 where
  pub test : (g : Setting) (ps : List Print) (m : Mid) (kind : TestKind) (a : Term) (ops : List Op) → m.ops ≡ op.Do (action.Test kind a) ∷ ops →
      AreNodes g.game.program (nodes_of (a ∷ [])) → test_most g.game.program kind a m ≤ paid g ps (Runs m)
  pub compare : (g : Setting) (ps : List Print) (m : Mid) (f : CompareOp) (a b : Term) (ops : List Op) →
      m.ops ≡ op.Do (action.Compare f a b) ∷ ops → AreNodes g.game.program (nodes_of (a ∷ b ∷ [])) →
      compare_most g.game.program a b m ≤ paid g ps (Runs m)
  pub arith : (g : Setting) (ps : List Print) (m : Mid) (f : ArithOp) (a b c : Term) (ops : List Op) →
      m.ops ≡ op.Do (action.Arith f a b c) ∷ ops → AreNodes g.game.program (nodes_of (a ∷ b ∷ c ∷ [])) →
      making_paid g.game.program a b c (made_of g.game.program (calculated f) a b m) m ≤ paid g ps (Runs m)
  pub random : (g : Setting) (ps : List Print) (m : Mid) (a b c : Term) (ops : List Op) →
      m.ops ≡ op.Do (action.Random a b c) ∷ ops → AreNodes g.game.program (nodes_of (a ∷ b ∷ c ∷ [])) →
      making_paid g.game.program a b c (made_of g.game.program (thrown (die g.game.dice m.lasting.dice)) a b m) m ≤ paid g ps (Runs m)

-- So are those of a change of a place that is no global variable, of a query of a flag of no object, of one of a flag or a value of an object, and of
-- unifying what is set of it.
pub record WorldIsPaid : Type 0 where
  pub now : (g : Setting) (ps : List Print) (m : Mid) (place : ℕ) (kind : PlaceKind) (ts : List Term) (sets : Bool) (ops : List Op) →
      m.ops ≡ op.Do (action.Now place ts sets) ∷ ops → slice_get (kinds_of g.game.program) place ≡ Some kind → kind ≢ Global →
      AreNodes g.game.program (nodes_of ts) → now_most g.game.program kind place ts sets m ≤ paid g ps (Runs m)
  pub holds : (g : Setting) (ps : List Print) (m : Mid) (place : ℕ) (many : Bool) (next : ℕ) (ops : List Op) →
      m.ops ≡ op.Find (Some place) [] many next ∷ ops → 20 ≤ paid g ps (Runs m)
  pub flag : (g : Setting) (ps : List Print) (m : Mid) (place : ℕ) (a : Term) (many : Bool) (next : ℕ) (ops : List Op) →
      m.ops ≡ op.Find (Some place) (a ∷ []) many next ∷ ops → slice_get (kinds_of g.game.program) place ≡ Some ObjectFlag →
      AreNodes g.game.program (nodes_of (a ∷ [])) →
      written_in g.game.program (a ∷ []) + 5 * term_links g.game.program m a + 60 ≤ paid g ps (Runs m)
  pub read : (g : Setting) (ps : List Print) (m : Mid) (place : ℕ) (kind : PlaceKind) (a c : Term) (many : Bool) (next : ℕ) (ops : List Op) →
      m.ops ≡ op.Find (Some place) (a ∷ c ∷ []) many next ∷ ops → slice_get (kinds_of g.game.program) place ≡ Some kind → HasValues kind →
      AreNodes g.game.program (nodes_of (a ∷ c ∷ [])) → reading_most g.game.program a c m ≤ paid g ps (Runs m)
  pub answer : (g : Setting) (ps : List Print) (m : Mid) (place : ℕ) (kind : PlaceKind) (a c : Term) (many : Bool) (next : ℕ) (ops : List Op)
      (word : ℕ) (v : Value) → m.ops ≡ op.Find (Some place) (a ∷ c ∷ []) many next ∷ ops →
      slice_get (kinds_of g.game.program) place ≡ Some kind → HasValues kind → AreNodes g.game.program (nodes_of (a ∷ c ∷ [])) →
      set_in g.game.program m.lasting.facts place a m ≡ Some v → SetIn word (Some v) → answering_most g.game.program a c v m ≤ paid g ps (Runs m)

-- So are those of a change and of a query of a global variable, and of unifying a copy of what is set.
pub record GlobalsArePaid : Type 0 where
  pub now : (g : Setting) (ps : List Print) (m : Mid) (place : ℕ) (a : Term) (sets : Bool) (ops : List Op) →
      m.ops ≡ op.Do (action.Now place (a ∷ []) sets) ∷ ops → slice_get (kinds_of g.game.program) place ≡ Some Global →
      AreNodes g.game.program (nodes_of (a ∷ [])) →
      let change = change_in g.game.program Global place (a ∷ []) sets m in
      global_most g.game.program a (kept_behind g.game.program change m.lasting.facts) m ≤ paid g ps (Runs m)
  pub read : (g : Setting) (ps : List Print) (m : Mid) (place : ℕ) (a : Term) (many : Bool) (next : ℕ) (ops : List Op) →
      m.ops ≡ op.Find (Some place) (a ∷ []) many next ∷ ops → AreNodes g.game.program (nodes_of (a ∷ [])) →
      global_read_most g.game.program a ≤ paid g ps (Runs m)
  pub copy : (g : Setting) (ps : List Print) (m : Mid) (place : ℕ) (a : Term) (v : Value) (many : Bool) (next : ℕ) (ops : List Op) →
      m.ops ≡ op.Find (Some place) (a ∷ []) many next ∷ ops → slice_get (kinds_of g.game.program) place ≡ Some Global →
      AreNodes g.game.program (nodes_of (a ∷ [])) → value_at m.lasting.facts place 0 ≡ Some v →
      global_copied_most g.game.program a v m ≤ paid g ps (Runs m)
