-- What a machine with its memory stands for. Hold it against the Dialog manual, chapter "Choice points".
use Rattle.std.specs.Prelude.{ℕ, suc, ◌≡◌, ◌+◌, ◌<◌, ◌≤◌, List, [], ◌∷◌, Option, Some, None, Bool, length, slice_get}
use Rattle.std.specs.Borrow.{Bor}
use Rattle.dg_base.specs.declared.program.Term.{Term}
use Rattle.dg_base.specs.declared.run.Limits.{Limits}
use Rattle.dg_meaning.specs.World.{Game, worked}
use Rattle.dg_meaning.specs.Numbers.{of_numbers, calculated, thrown}
use Rattle.dg_meaning.specs.Choosing.{die}
use Rattle.dg_meaning.specs.Substitutions.{walk}
use Rattle.dg_meaning.specs.Moves.{gives_number, throws, looked_up, change_place}
use Rattle.dg_meaning.specs.Facts.{kinds_of}
use Rattle.dg_lasting.specs.Lasting.{InWorld, MayPick, picks_in}
use Rattle.dg_lasting.specs.declared.lasting.Lasting.{Lasting}
use Rattle.dg_base.specs.declared.program.ArithOp.{ArithOp}
use Rattle.dg_mid.specs.Actions.{registers_of, world_of}
use Rattle.dg_meaning.specs.Values.{Value, Values}
use Rattle.dg_arena.specs.Held.{meaning_of}
use Rattle.dg_mid.specs.declared.code.Op.{Op}
use Rattle.dg_mid.specs.declared.code.Op.TheVariants as op
use Rattle.dg_mid.specs.declared.code.Action.TheVariants as action
use Rattle.dg_mid.specs.declared.code.Code.{Code}
use Rattle.dg_mid.specs.declared.code.Gathered.{Gathered}
use Rattle.dg_mid.specs.declared.code.RuleCode.{RuleCode}
use Rattle.dg_mid.specs.declared.code.BodyCode.{BodyCode}
use Rattle.dg_meaning.specs.Copies.{values_of}
use Rattle.dg_unify.specs.Store.{Store, IsClosureAt}
use Rattle.dg_unify.specs.declared.bindings.Ref.{Ref}
use Rattle.dg_mid.specs.Code.{block_at, rules_at}
use Rattle.dg_mid.specs.declared.code.Op.TheVariants as op
use Rattle.dg_mid.specs.State.{Mid, Place, Call as CallOf, Way as WayOf, Goes as GoesOf, Takes as TakesOf, ToPred, ToBody}
use Rattle.dg_mid.specs.State.{Status, Runs as RunsOf, Enters as EntersOf, Resumes as ResumesOf, Fails as FailsOf, Ended as EndedOf}
use Rattle.dg_mid.specs.Heights.{MidOrdered, StatusOrdered}
use Rattle.dg_mid.specs.Potential.{Tidy}
use Rattle.dg_mid.specs.Step.{setting, call_of, begins, enters, asks, last, does, done, enters_body, closure_at, queries}
use Rattle.dg_mid.specs.Step.{queries_last, enter, entered, goes_on, goes_back, step, charged, gathering, gathers, keeps, takes, takes_newest}
use Rattle.dg_machine.specs.declared.now.Call.{Call}
use Rattle.dg_machine.specs.declared.now.Way.{Way}
use Rattle.dg_machine.specs.declared.now.Way.TheVariants.{Goes, Takes, Calls, Tries}
use Rattle.dg_machine.specs.declared.now.Did.{Did}
use Rattle.dg_machine.specs.declared.now.Did.TheVariants as did
use Rattle.dg_machine.specs.declared.now.Now.{Now}
use Rattle.dg_machine.specs.declared.now.Now.TheVariants.{Runs, Enters, Resumes, Leaves, Misses, Fails, Ended}
use Rattle.dg_machine.specs.declared.memory.Memory.{Memory}
use Rattle.dg_machine.specs.Refs.{RefsAt, AreRefs}
use Rattle.dg_machine.specs.Layout.{CallAt, RulesAt, WayAt, Roomy, Holds}
use Rattle.dg_machine.specs.Measure.{left_of, with_way}
use Rattle.dg_machine.specs.declared.tables.Tables.{Tables}
use Rattle.dg_machine.specs.Tables.{IsOf}
use Rattle.dg_machine.specs.Built.{OpBuilt, OpsBuilt, IsBuilt}
use Rattle.dg_mid.specs.Seeking.{WaySeeks}

-- What is done next, where an instruction with this code behind it comes to that.
abbrev pub comes_to : Did → Bor (List Op) → Now
comes_to did.GoesOn rest = Runs rest
comes_to did.Fails rest = Fails
comes_to (did.Ends e) rest = Ended e

-- The code at hand is that of a machine, and all of it is built.
abbrev pub CodeIs : List Op → Mid → Type 0
CodeIs ops m = (m.ops ≡ ops) × OpsBuilt ops

-- Memory holds what is around the innermost construct.
pub record HoldsAround (code : Code) (l : Limits) (r : Memory) (m : Mid) : Type 0 where
  pub innermost : Place
  pub around : List Place
  pub is : m.inner ≡ innermost ∷ around
  pub held : Holds code l r (record m { inner = around })

-- The code at hand leaves an inner construct, and then goes on so.
abbrev pub LeadsOut : List Op → Mid → Type 0
LeadsOut ops m = (m.ops ≡ op.Commit ∷ ops) × OpsBuilt ops

-- What is done next is what a status is in, and memory holds it; where the run has ended it has room still.
abbrev pub Stands : Code → Limits → Memory → Now → Status → Type 0
Stands code l r (Runs ops) (RunsOf m) = CodeIs ops.now m × Holds code l r m
Stands code l r (Enters ops) (EntersOf c m) = CodeIs ops.now m × CallAt (meaning_of r.arena) r.args.items r.call c × Holds code l r m
Stands code l r Resumes (ResumesOf way' m) = WayAt code (meaning_of r.arena) r.args.items r.way way' × Holds code l r m
Stands code l r (Leaves height ops) (RunsOf m) = LeadsOut ops.now m × (x : HoldsAround code l r m) × (x.innermost.height ≡ height)
Stands code l r Misses (FailsOf m) = HoldsAround code l r m
Stands code l r Fails (FailsOf m) = Holds code l r m
Stands code l r (Ended e) (EndedOf e') = (e' ≡ e) × Roomy l r
Stands code l r now s = ⊥

-- What lasts stands for what a machine has of the world, and as much may be kept and gathered there as the limits say.
abbrev pub Around : Lasting → Game → Limits → Mid → Type 0
Around out g l m = InWorld out g (world_of [] m) × (out.world.area.keep ≡ l.keep) × (out.gathered.aux ≡ l.aux)

-- What lasts stands for what a status has of the world.
abbrev pub HasLasting : Lasting → Game → Limits → Status → Type 0
HasLasting out g l (RunsOf m) = Around out g l m
HasLasting out g l (EntersOf c m) = Around out g l m
HasLasting out g l (ResumesOf way m) = Around out g l m
HasLasting out g l (FailsOf m) = Around out g l m
HasLasting out g l (EndedOf e) = Unit {0}

-- The machine stands for a status, and what lasts for what that has of the world.
pub record StandsWith (code : Code) (g : Game) (l : Limits) (r : Memory) (now : Now) (out : Lasting) (s : Status) : Type 0 where
  pub stands : Stands code l r now s
  pub lasting : HasLasting out g l s

-- Whatever the machine stands for before, it stands behind it for the step of that, in every game.
abbrev pub Steps : Code → Memory → Now → Memory → Now → Type 0
Steps code old before new after =
    (g : Game) (l : Limits) (s : Status) → StatusOrdered s → Stands code l old before s → Stands code l new after (step (setting g code l) s)

-- An instruction that is built, with these behind it, is done: whatever memory held, it stands for what the instruction leads to, in every game whose
-- program has these tables.
abbrev pub DoesOp : Tables → Code → Memory → Op → List Op → Memory → Now → Type 0
DoesOp t code old x rest new after = (g : Game) → IsOf g.program t → (l : Limits) (m : Mid) →
    MidOrdered m → OpBuilt x → CodeIs rest m → Holds code l old m →
    Stands code l new after (does (setting g code l) x m)

-- The same of an instruction that changes what lasts.
abbrev pub DoesWith : Tables → Code → Memory → Lasting → Op → List Op → Memory → Now → Lasting → Type 0
DoesWith t code old out x rest new after out' = (g : Game) → IsOf g.program t → (l : Limits) (m : Mid) →
    OpBuilt x → CodeIs rest m → Holds code l old m →
    Around out g l m → StandsWith code g l new after out' (does (setting g code l) x m)

-- A (stop) is done: it goes on behind the stoppable part that is open, without what was gathered inside it, or the run ends.
abbrev pub DoesStop : Code → Memory → Lasting → Memory → Now → Lasting → Type 0
DoesStop code old out new after out' = (g : Game) (l : Limits) (m : Mid) → MidOrdered m → Holds code l old m → Around out g l m →
    StandsWith code g l new after out' (does (setting g code l) (op.Do action.Stop) m)

-- Behind it each site may pick once less at most.
abbrev pub PicksOnce : Lasting → Lasting → Type 0
PicksOnce old new = (times : ℕ) → MayPick (times + 1) (picks_in old) → MayPick times (picks_in new)

-- A step was done, and the number that falls between goals has fallen.
pub record Falls (code : Code) (l : Limits) (old : Memory) (before : Now) (new : Memory) (after : Now) (s : Status) : Type 0 where
  pub stands : Stands code l new after s
  pub falls : left_of new after < left_of old before

-- A step that takes no goal was done, and what lasts stands for what it leads to.
pub record FallsWith (code : Code) (g : Game) (l : Limits) (old : Memory) (before : Now) (new : Memory) (after : Now) (out' : Lasting) (s : Status)
    : Type 0 where
  pub done : Falls code l old before new after s
  pub lasting : HasLasting out' g l s

-- An instruction that takes no goal is done so.
abbrev pub DoesMark : Code → Memory → Bor (List Op) → Op → List Op → Memory → Now → Type 0
DoesMark code old ops x rest new after = (g : Game) (l : Limits) (m : Mid) → MidOrdered m → OpBuilt x → CodeIs rest m → Holds code l old m →
    Falls code l old (Runs ops) new after (does (setting g code l) x m)

-- A call with the last so many rules of a predicate begins: memory stands for what that leads to, and where it goes on with a choice that is gone, the
-- number that falls has fallen.
pub record CallBegins (code : Code) (l : Limits) (old : Memory) (k : Call) (pred left : ℕ) (new : Memory) (after : Now) (s : Status) : Type 0 where
  pub stands : Stands code l new after s
  pub falls : left_of new after < left_of (with_way old (Calls k pred left)) Resumes

abbrev pub CallsRules : Code → Memory → Call → ℕ → ℕ → Memory → Now → Type 0
CallsRules code old k pred left new after = (g : Game) (l : Limits) (m : Mid) (c : CallOf) (rules : List RuleCode) → Holds code l old m →
    RulesAt code (meaning_of old.arena) old.args.items k pred left c rules → CallBegins code l old k pred left new after (begins (setting g code l) c rules m)

-- A call enters a rule of this block, with the last so many rules of a predicate left.
abbrev pub EntersWith : Code → Memory → Call → ℕ → ℕ → ℕ → Memory → Now → Type 0
EntersWith code old k block pred left new after = (g : Game) (l : Limits) (m : Mid) (c : CallOf) (rule : RuleCode) (rules : List RuleCode) →
    Holds code l old m → rule.block ≡ block → RulesAt code (meaning_of old.arena) old.args.items k pred left c rules →
    CallBegins code l old k pred (suc left) new after (enters (setting g code l) c rule rules m)

-- A predicate is asked with the arguments at hand by a call that goes on at a block.
abbrev pub Asks : Code → Memory → ℕ → Bool → ℕ → Memory → Now → Type 0
Asks code old pred many next new after = (g : Game) (l : Limits) (m : Mid) (vs : List Value) → Holds code l old m →
    RefsAt (meaning_of old.arena) old.args.items vs → Stands code l new after (asks (setting g code l) pred (call_of vs many next m) m)

-- The same of the last query of a rule.
abbrev pub AsksLast : Code → Memory → ℕ → Bool → Memory → Now → Type 0
AsksLast code old pred many new after = (g : Game) (l : Limits) (m : Mid) (vs : List Value) → Holds code l old m →
    RefsAt (meaning_of old.arena) old.args.items vs → Stands code l new after (last (setting g code l) (ToPred pred) vs many m.frames m)

-- A call enters a rule.
abbrev pub EntersRule : Tables → Code → Memory → Call → Bor (List Op) → Memory → Now → Type 0
EntersRule t code old k ops new after = (g : Game) → IsOf g.program t → (l : Limits) (m : Mid) (c : CallOf) → CodeIs ops.now m →
    CallAt (meaning_of old.arena) old.args.items k c → Holds code l old m → Falls code l old (Enters ops) new after (entered (setting g code l) c m.ops m)

-- A call enters a rule of so many variables and this head, with these instructions behind it.
abbrev pub EntersIn : Tables → Code → Memory → Call → ℕ → List Term → List Op → Memory → Now → Type 0
EntersIn t code old k vars head rest new after = (g : Game) → IsOf g.program t → (l : Limits) (m : Mid) (c : CallOf) (ops : Bor (List Op)) →
    CodeIs rest m → CallAt (meaning_of old.arena) old.args.items k c → Holds code l old m →
    Falls code l old (Enters ops) new after (enter (setting g code l) c vars head m)

-- The rules that a choice goes on with are there, and the arguments at hand.
abbrev pub IsThere : Code → Memory → Way → Type 0
IsThere code r (Goes b) = Unit {0}
IsThere code r (Takes b) = (v into : Value) × RefsAt (meaning_of r.arena) r.args.items (v ∷ into ∷ [])
IsThere code r (Calls k pred left) = (left ≤ length (rules_at code pred)) × AreRefs (meaning_of r.arena) r.args.items
IsThere code r (Tries k from end) = AreRefs (meaning_of r.arena) r.args.items

-- A choice goes on at a block, with a number of an earlier block where that begins with it.
abbrev pub GoesOnAt : Code → ℕ → Memory → Bor (List Op) → Memory → Now → Type 0
GoesOnAt code b old ops new after = (g : Game) (l : Limits) (m : Mid) → Tidy code → IsBuilt code → ops.now ≡ block_at code b → Holds code l old m →
    Falls code l (with_way old (Goes b)) Resumes new after (goes_on (setting g code l) (GoesOf b) m)

-- The newest gathering is taken out so, for the second value at hand.
abbrev pub TakesNewest : Code → Gathered → ℕ → Memory → Lasting → List Op → Memory → Now → Lasting → Type 0
TakesNewest code whole b old out rest new after out' = (g : Game) (l : Limits) (m : Mid) (v into : Value) → CodeIs rest m → Holds code l old m →
    RefsAt (meaning_of old.arena) old.args.items (v ∷ into ∷ []) → Around out g l m →
    FallsWith code g l (with_way old (Takes b)) Resumes new after out' (takes_newest (setting g code l) whole into m.gathered m)

-- A gathering is taken out at these instructions.
abbrev pub TakesOut : Code → ℕ → Memory → Lasting → List Op → Memory → Now → Lasting → Type 0
TakesOut code b old out ops new after out' = (g : Game) (l : Limits) (m : Mid) (into : Value) → IsBuilt code → ops ≡ block_at code b →
    WayAt code (meaning_of old.arena) old.args.items (Takes b) (TakesOf b into) → Holds code l old m → Around out g l m →
    FallsWith code g l (with_way old (Takes b)) Resumes new after out' (takes (setting g code l) into ops m)

-- A choice goes on.
abbrev pub GoesOn : Code → Memory → Lasting → Way → Memory → Now → Lasting → Type 0
GoesOn code old out way new after out' = (g : Game) (l : Limits) (m : Mid) (on : WayOf) → WaySeeks g code on →
    WayAt code (meaning_of old.arena) old.args.items way on → Holds code l old m → Around out g l m →
    FallsWith code g l (with_way old way) Resumes new after out' (goes_on (setting g code l) on m)

-- A choice opens inside which the first value at hand is gathered, to be taken out for the second.
abbrev pub GathersFor : Code → Memory → Lasting → ℕ → List Op → Memory → Now → Lasting → Type 0
GathersFor code old out alt rest new after out' = (g : Game) (l : Limits) (m : Mid) (v into : Value) → CodeIs rest m → Holds code l old m →
    RefsAt (meaning_of old.arena) old.args.items (v ∷ into ∷ []) → Around out g l m →
    let m' = gathering v into alt m in
    StandsWith code g l new after out' (charged (setting g code l) 10 m (gathers (setting g code l) m'.gathered (RunsOf m')))

-- What the innermost construct gathers is gathered, and it fails.
abbrev pub KeepsOne : Code → Memory → Lasting → Bor (List Op) → Memory → Now → Lasting → Type 0
KeepsOne code old out ops new after out' = (g : Game) (l : Limits) (m : Mid) → Holds code l old m → Around out g l m →
    FallsWith code g l old (Runs ops) new after out' (keeps (setting g code l) m.inner m)

-- What is calculated of two values at hand is unified with a third.
abbrev pub Calculates : Code → ArithOp → Memory → List Op → Memory → Now → Type 0
Calculates code by old rest new after = (g : Game) (l : Limits) (m : Mid) (u v w : Value) → CodeIs rest m → Holds code l old m →
    RefsAt (meaning_of old.arena) old.args.items (u ∷ v ∷ w ∷ []) → Stands code l new after (done (setting g code l)
    (gives_number (of_numbers (calculated by) (walk m.state.subst u) (walk m.state.subst v)) w (registers_of m)
    (worked (looked_up (registers_of m) u + looked_up (registers_of m) v) (world_of [] m))) m)

-- A random number between two values at hand is unified with a third, and a dice word was drawn for it.
abbrev pub ThrowsDie : Code → Memory → Lasting → List Op → Memory → Now → Lasting → Type 0
ThrowsDie code old out rest new after out' = (g : Game) (l : Limits) (m : Mid) (u v w : Value) → CodeIs rest m → Holds code l old m →
    RefsAt (meaning_of old.arena) old.args.items (u ∷ v ∷ w ∷ []) → Around out g l m → StandsWith code g l new after out' (done (setting g code l)
    (throws (of_numbers (thrown (die g.dice m.lasting.dice)) (walk m.state.subst u) (walk m.state.subst v)) w (registers_of m)
    (worked (looked_up (registers_of m) u + looked_up (registers_of m) v) (world_of [] m))) m)

-- A place is changed with the values at hand.
abbrev pub ChangesPlace : Tables → Code → Memory → Lasting → ℕ → Bool → List Op → Memory → Now → Lasting → Type 0
ChangesPlace t code old out place sets rest new after out' = (g : Game) → IsOf g.program t → (l : Limits) (m : Mid) (vs : List Value) → CodeIs rest m →
    Holds code l old m → RefsAt (meaning_of old.arena) old.args.items vs → Around out g l m → StandsWith code g l new after out' (done (setting g code l)
    (change_place g place (slice_get (kinds_of g.program) place) vs sets [] (registers_of m) (world_of [] m)) m)

-- The body of a closure is entered by a call whose arguments stand behind the first at hand.
abbrev pub EntersBody : Code → Memory → Call → BodyCode → Ref → Memory → Now → Type 0
EntersBody code old k body closure new after = (g : Game) (l : Limits) (m : Mid) (c : CallOf) (v : Value) (place : ℕ) (parts : Values) →
    Holds code l old m → RefsAt (meaning_of old.arena) old.args.items (v ∷ c.args) → c.next ≡ k.next → c.many ≡ k.many →
    c.cut.height ≡ k.cut → IsClosureAt (meaning_of old.arena) closure place parts →
    Stands code l new after (enters_body (setting g code l) body (values_of parts) c m)

-- What a value asks is the body of this closure, or nothing.
abbrev pub IsAsked : Code → Store → Value → Option (BodyCode × Ref) → Type 0
IsAsked code s w None = closure_at code w ≡ None
IsAsked code s w (Some found) = (place : ℕ) × (parts : Values) × (closure_at code w ≡ Some (ToBody found.0 (values_of parts))) ×
    IsClosureAt s found.1 place parts

-- The first argument is asked with the others.
abbrev pub QueriesFirst : Code → Memory → Bool → ℕ → Memory → Now → Type 0
QueriesFirst code old many next new after = (g : Game) (l : Limits) (m : Mid) (v : Value) (us : List Value) → Holds code l old m →
    RefsAt (meaning_of old.arena) old.args.items (v ∷ us) →
    Stands code l new after (queries (setting g code l) (closure_at code (walk m.state.subst v)) us many next m)

-- The body of a closure is entered by the last query of a rule.
abbrev pub EntersLastBody : Code → Memory → Bool → BodyCode → Ref → Memory → Now → Type 0
EntersLastBody code old many body closure new after = (g : Game) (l : Limits) (m : Mid) (v : Value) (us : List Value) (place : ℕ) (parts : Values) →
    Holds code l old m → RefsAt (meaning_of old.arena) old.args.items (v ∷ us) → IsClosureAt (meaning_of old.arena) closure place parts →
    Stands code l new after (last (setting g code l) (ToBody body (values_of parts)) us many m.frames m)

-- The first argument is asked with the others in the last query of a rule.
abbrev pub QueriesLast : Code → Memory → Bool → Memory → Now → Type 0
QueriesLast code old many new after = (g : Game) (l : Limits) (m : Mid) (v : Value) (us : List Value) → Holds code l old m →
    RefsAt (meaning_of old.arena) old.args.items (v ∷ us) →
    Stands code l new after (queries_last (setting g code l) (closure_at code (walk m.state.subst v)) us many m)

-- It fails.
abbrev pub FailsTo : Code → Memory → Lasting → Memory → Now → Lasting → Type 0
FailsTo code old out new after out' = (g : Game) (l : Limits) (m : Mid) → Holds code l old m → Around out g l m →
    FallsWith code g l old Fails new after out' (goes_back m.choices m)

-- An inner construct that isn't kept is left.
abbrev pub LeavesAround : Code → Memory → ℕ → Bor (List Op) → Memory → Now → Type 0
LeavesAround code old height ops new after = (g : Game) (l : Limits) (m : Mid) → MidOrdered m → Stands code l old (Leaves height ops) (RunsOf m) →
    Falls code l old (Leaves height ops) new after (step (setting g code l) (RunsOf m))

-- A machine stands for some status.
pub record HasStatus (code : Code) (r : Memory) (now : Now) : Type 0 where
  pub limits : Limits
  pub status : Status
  pub stands : Stands code limits r now status
