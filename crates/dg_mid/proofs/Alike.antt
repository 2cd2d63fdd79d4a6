-- A goal that is done at once does the same where the search is and where a machine is.
use Rattle.std.proofs.Common.{◌≡◌, ℕ, ◌+◌, ◌≤◌, List, [], ◌∷◌, ◌++◌, Bool, true, Option, Some, None, refl, sym, ap, ◌∙◌, subst, arith, append_assoc, length, map}
use Rattle.std.specs.Prelude.{slice_get}
use Rattle.std.proofs.lemmas.List.{append-nil}
use Rattle.dg_base.specs.declared.program.GapKind.TheVariants.{Line}
use Rattle.dg_base.specs.declared.program.PlaceKind.{PlaceKind}
use Rattle.dg_base.specs.declared.program.PlaceKind.TheVariants as place
use Rattle.dg_base.specs.declared.program.TestKind.{TestKind}
use Rattle.dg_base.specs.declared.program.TestKind.TheVariants as kind
use Rattle.dg_base.specs.declared.run.Ending.TheVariants.{Quit as Quit-Ending, InputEnded}
use Rattle.dg_base.specs.declared.program.CoreProgram.{CoreProgram}
use Rattle.dg_meaning.specs.Values.{Num, Object, Value, Var, Node, value_of}
use Rattle.dg_meaning.specs.Substitutions.{Substitution, walk, resolved}
use Rattle.dg_meaning.specs.Unify.{Equations}
use Rattle.dg_meaning.specs.Facts.{Fact, Alteration, value_at, kinds_of, kept_size, altered}
use Rattle.dg_meaning.specs.Choosing.{Picks}
use Rattle.dg_meaning.specs.World.{Game, World, Gathering, Meters, Event, Print, Piece, GapOf, SpacesOf, Prints, prints, worked, drew}
use Rattle.dg_meaning.specs.Changes.{found, changed, changing, change_of}
use Rattle.dg_meaning.specs.Pieces.{pieces}
use Rattle.dg_meaning.specs.Path.{Step, Cut, Registers, Act, Goes, Tests, Unifies, Ends, Fails as FailsNow, Stops, Effect, Acts, Offers, Plain, Whole, AsList, AsSum}
use Rattle.dg_meaning.specs.Moves.{begun, behind_copy, object_branches, numbers, looked_up, reads, reads_if_set, finds, finds_if_set, ask_object, ask_objects, ask_place, printed, all_printed, gives, gives_number, spaces, changes, change_place, change_looks, throws, splits, joins, takes_line, takes_out, effect, whole_looks, test_looks}
use Rattle.dg_meaning.specs.Numbers.{total}
use Rattle.dg_meaning.specs.Words.{behind_first}
use Rattle.dg_meaning.specs.Render.{nothing_met, met_from, written, characters}
use Rattle.dg_meaning.specs.Letters.{copied}
use Rattle.dg_meaning.specs.inside.OneRun.{Grows}
use Rattle.dg_meaning.proofs.OneRun.{grows_same, grows_on, worked_grows, begun_grows}
use Rattle.dg_meaning.proofs.Dropping.{prints_append}
use Rattle.dg_mid.specs.declared.code.Action.{Action}
use Rattle.dg_mid.specs.declared.code.Action.TheVariants as action
use Rattle.dg_mid.specs.Actions.{form_of, asked, world_by, said_by}
use Rattle.dg_mid.specs.State.{Lasting}
use Rattle.dg_mid.specs.Reads.{lasting_of}

-- ## Worlds

-- what is done from one world to another is done from a second one to a third
pub record Did (v v1 w w1 : World) : Type 0 where
  pub gathered : v1.gathered ≡ v.gathered
  pub lasting : lasting_of v1 ≡ lasting_of w1
  pub new : List Print
  pub said : prints v1.events ≡ prints v.events ++ new
  pub said_here : prints w1.events ≡ prints w.events ++ new
  pub work : prints v.events ≡ prints w.events → v1.meters.work + w.meters.work ≡ w1.meters.work + v.meters.work
  pub keep : w.meters.keep ≤ v.meters.keep → w1.meters.keep ≤ v1.meters.keep

pub did_nothing : (v w : World) → lasting_of v ≡ lasting_of w → Did v v w w
did_nothing v w e = record { gathered = refl; lasting = e; new = []; said = sym (append-nil (prints v.events)); said_here = sym (append-nil (prints w.events)); work = λ h. omega arith; keep = λ le. le }

did_worked : (n : ℕ) (v v1 w w1 : World) → Did v v1 w w1 → Did v (worked n v1) w (worked n w1)
did_worked n v v1 w w1 d = record { gathered = d.gathered; lasting = d.lasting; new = d.new; said = d.said; said_here = d.said_here; work = λ h. let x = d.work h in omega (arith, x); keep = λ le. d.keep le }

did_drew : (n : ℕ) (v v1 w w1 : World) → Did v v1 w w1 → Did v (drew n v1) w (drew n w1)
did_drew n v v1 w w1 d = record { gathered = d.gathered; lasting = ap (λ (o : Lasting). record o { dice = o.dice + n }) d.lasting; new = d.new; said = d.said; said_here = d.said_here; work = λ h. let x = d.work h in omega (arith, x); keep = λ le. d.keep le }

did_typed : (typed : List ℕ) (v v1 w w1 : World) → Did v v1 w w1 → Did v (record v1 { typed = typed }) w (record w1 { typed = typed })
did_typed typed v v1 w w1 d = record { gathered = d.gathered; lasting = ap (λ (o : Lasting). record o { typed = typed }) d.lasting; new = d.new; said = d.said; said_here = d.said_here; work = λ h. let x = d.work h in omega (arith, x); keep = λ le. d.keep le }

more_printed : (p : Print) (v v1 : World) (new : List Print) → prints v1.events ≡ prints v.events ++ new → prints (printed p v1).events ≡ prints v.events ++ (new ++ p ∷ [])
more_printed p v v1 new h = prints_append v1.events (Prints p ∷ []) ∙ ap (λ l. l ++ p ∷ []) h ∙ append_assoc (prints v.events) new (p ∷ [])

did_printed : (p : Print) (v v1 w w1 : World) → Did v v1 w w1 → Did v (printed p v1) w (printed p w1)
did_printed p v v1 w w1 d = record {
  gathered = d.gathered;
  lasting = d.lasting;
  new = d.new ++ p ∷ [];
  said = more_printed p v v1 d.new d.said;
  said_here = more_printed p w w1 d.new d.said_here;
  work = λ h.
      let same : prints v1.events ≡ prints w1.events = d.said ∙ ap (λ l. l ++ d.new) h ∙ sym d.said_here in
      let x = d.work h in let y = ap (λ l. characters (written (met_from nothing_met l) p)) same in omega (arith, x, y);
  keep = λ le. d.keep le;
}

did_pieces : (ps : List (List ℕ)) (v v1 w w1 : World) → Did v v1 w w1 → Did v (all_printed ps v1) w (all_printed ps w1)
did_pieces [] v v1 w w1 d = d
did_pieces (p ∷ ps) v v1 w w1 d = did_pieces ps v (printed (Piece p) v1) w (printed (Piece p) w1) (did_printed (Piece p) v v1 w w1 d)

did_changed : (program : CoreProgram) (a : Alteration) (v v1 w w1 : World) → Did v v1 w w1 → Did v (changed program a v1) w (changed program a w1)
did_changed program a v v1 w w1 d =
    let facts : v1.facts ≡ w1.facts = ap (λ (o : Lasting). o.facts) d.lasting in
    let sizes = ap (λ F. kept_size (kinds_of program) (altered a F)) facts in
    record { gathered = d.gathered; lasting = ap (λ (o : Lasting). record o { facts = altered a o.facts }) d.lasting; new = d.new; said = d.said; said_here = d.said_here; work = λ h. let x = d.work h in omega (arith, x); keep = λ le. let x = d.keep le in omega (arith, x, sizes) }

did_begun : (q r : Registers) (n : ℕ) (v v1 w w1 : World) → Did v v1 w w1 → Did v (begun q n v1) w (begun r n w1)
did_begun q r n v v1 w w1 d = record { gathered = d.gathered; lasting = d.lasting; new = d.new; said = d.said; said_here = d.said_here; work = λ h. let x = d.work h in omega (arith, x); keep = λ le. d.keep le }

-- ## Acts

-- values were made in the same way in both registers
pub record MadeAlike (q r made here : Registers) : Type 0 where
  pub tag : made.next_tag ≡ q.next_tag
  pub stop : made.stoppable ≡ q.stoppable
  pub bound : made.bound ≡ q.bound
  pub trail : made.trail ≡ q.trail
  pub here_bound : here.bound ≡ r.bound
  pub vars : made.next_var ≡ here.next_var
  pub older : r.next_var ≤ here.next_var
  pub heap : here.heap + q.heap ≡ made.heap + r.heap
  pub higher : r.heap ≤ here.heap

-- an act in front of these steps is a machine's act
pub data Alike (q r : Registers) (t : ℕ) (steps : List Step) (v w : World) : Act → Act → Type 0 where
  goes : (v1 w1 : World) → Did v v1 w w1 → Alike q r t steps v w (Goes steps v1) (Goes [] w1)
  cuts : Alike q r t steps v w (Goes (Cut t ∷ steps) v) (Goes (Cut t ∷ []) w)
  tests : (b : Bool) (v1 w1 : World) → Did v v1 w w1 → Alike q r t steps v w (Tests b v1) (Tests b w1)
  unifies : (made here : Registers) (es : Equations) (v1 w1 : World) → MadeAlike q r made here → Did v v1 w w1 → Alike q r t steps v w (Unifies made es v1) (Unifies here es w1)
  quits : Alike q r t steps v w (Ends Quit-Ending v) (Ends Quit-Ending w)
  lacks_input : Alike q r t steps v w (Ends InputEnded v) (Ends InputEnded w)
  fails : (v1 w1 : World) → Did v v1 w w1 → Alike q r t steps v w (FailsNow v1) (FailsNow w1)
  stops : Alike q r t steps v w (Stops v) (Stops w)

-- the same of effects
pub data AlikeEffects (q r : Registers) (t : ℕ) (steps : List Step) (v w : World) : Effect → Effect → Type 0 where
  alike : (a b : Act) → Alike q r t steps v w a b → AlikeEffects q r t steps v w (Acts a) (Acts b)

-- the same of an act that prints nothing
pub record AtOnce (q r : Registers) (t : ℕ) (steps : List Step) (v w : World) (a b : Act) : Type 0 where
  pub alike : Alike q r t steps v w a b
  pub silent : said_by b ≡ prints w.events
  pub grows : Grows v (world_by a)

-- the same of a query of a place or of all objects
pub data AlikeAsked (q r : Registers) (t : ℕ) (steps : List Step) (v w : World) (place : Option ℕ) (args : List Value) (many : Bool) (objects : List ℕ) : Effect → Effect → Type 0 where
  at_once : (a b : Act) → AtOnce q r t steps v w a b → AlikeAsked q r t steps v w place args many objects (Acts a) (Acts b)
  in_turn : (i : ℕ) → AlikeAsked q r t steps v w place args many objects (Offers Plain (object_branches place args many steps q objects) (worked i v)) (Offers Plain (object_branches place args true [] r objects) (worked i w))

abbrev pub regs : ℕ → Option ℕ → Substitution → ℕ → ℕ → ℕ → Registers
regs n s S x h k = record { next_tag = n; stoppable = s; bound = S; next_var = x; heap = h; trail = k }

abbrev pub world_with : List Event → List Gathering → Meters → List ℕ → ℕ → List Fact → List Picks → World
world_with es gs m typed dice facts sites = record { events = es; gathered = gs; meters = m; typed = typed; dice = dice; facts = facts; sites = sites }

module _ (n : ℕ) (s : Option ℕ) (S : Substitution) (x h k h' k' : ℕ) (es es' : List Event) (gs : List Gathering) (m m' : Meters) (typed : List ℕ) (dice : ℕ) (facts : List Fact) (sites : List Picks) (t : ℕ) (steps : List Step) where
  abbrev q : Registers
  q = regs n s S x h k

  abbrev r : Registers
  r = regs n s S x h' k'

  abbrev v : World
  v = world_with es gs m typed dice facts sites

  abbrev w : World
  w = world_with es' gs m' typed dice facts sites

  abbrev Same : Act → Act → Type 0
  Same a b = Alike q r t steps v w a b

  nothing : Did v v w w
  nothing = did_nothing v w refl

  looked : (i : ℕ) → Did v (worked i v) w (worked i w)
  looked i = did_worked i v v w w nothing

  made_here : MadeAlike q r q r
  made_here = record { tag = refl; stop = refl; bound = refl; trail = refl; here_bound = refl; vars = refl; older = omega arith; heap = omega arith; higher = omega arith }

  gives_alike : (into y : Value) (v1 w1 : World) → Did v v1 w w1 → Same (gives into y q v1) (gives into y r w1)
  gives_alike into y v1 w1 d = unifies _ _ _ v1 w1 (record { tag = refl; stop = refl; bound = refl; trail = refl; here_bound = refl; vars = refl; older = omega arith; heap = omega arith; higher = omega arith }) d

  number_alike : (o : Option ℕ) (into : Value) (v1 w1 : World) → Did v v1 w w1 → Same (gives_number o into q v1) (gives_number o into r w1)
  number_alike None into v1 w1 d = fails v1 w1 d
  number_alike (Some i) into v1 w1 d = unifies _ _ _ v1 w1 made_here d

  throws_alike : (o : Option ℕ) (into : Value) (v1 w1 : World) → Did v v1 w w1 → Same (throws o into q v1) (throws o into r w1)
  throws_alike None into v1 w1 d = fails v1 w1 d
  throws_alike (Some i) into v1 w1 d = number_alike (Some i) into (drew 1 v1) (drew 1 w1) (did_drew 1 v v1 w w1 d)

  splits_alike : (g : Game) (o : Option (List ℕ)) (into : Value) (v1 w1 : World) → Did v v1 w w1 → Same (splits g o into q v1) (splits g o into r w1)
  splits_alike g None into v1 w1 d = fails v1 w1 d
  splits_alike g (Some letters) into v1 w1 d = gives_alike into _ _ _ (did_worked _ v v1 w w1 d)

  joins_alike : (g : Game) (o : Option (List ℕ)) (into : Value) (v1 w1 : World) → Did v v1 w w1 → Same (joins g o into q v1) (joins g o into r w1)
  joins_alike g None into v1 w1 d = fails v1 w1 d
  joins_alike g (Some letters) into v1 w1 d = gives_alike into _ _ _ (did_worked _ v v1 w w1 d)

  line_alike : (g : Game) (bytes : List ℕ) (into : Value) → Same (takes_line g bytes into q v) (takes_line g bytes into r w)
  line_alike g [] into = lacks_input
  line_alike g (b ∷ bytes) into =
      let typed_on = did_typed (behind_first (b ∷ bytes)) v v w w nothing in
      let gap = did_printed (GapOf Line) v (record v { typed = behind_first (b ∷ bytes) }) w (record w { typed = behind_first (b ∷ bytes) }) typed_on in
      gives_alike into _ _ _ (did_worked _ v (printed (GapOf Line) (record v { typed = behind_first (b ∷ bytes) })) w (printed (GapOf Line) (record w { typed = behind_first (b ∷ bytes) })) gap)

  spaces_alike : (y : Value) (v1 w1 : World) → Did v v1 w w1 → Same (spaces y steps v1) (spaces y [] w1)
  spaces_alike (Var i) v1 w1 d = fails v1 w1 d
  spaces_alike (Node (Num i) vs) v1 w1 d = goes _ _ (did_printed (SpacesOf i) v v1 w w1 d)
  spaces_alike (Node f vs) v1 w1 d = fails v1 w1 d

  looks_same : (kind : TestKind) (y : Value) → test_looks kind y r ≡ test_looks kind y q
  looks_same kind.FullyBound y = refl
  looks_same kind y = refl

  tested : (kind : TestKind) (y : Value) → Did v (worked (test_looks kind y q) v) w (worked (test_looks kind y r) w)
  tested kind y = subst (λ i. Did v (worked (test_looks kind y q) v) w (worked i w)) (sym (looks_same kind y)) (looked (test_looks kind y q))

  change_same : (kind : PlaceKind) (args : List Value) → change_looks kind r args ≡ change_looks kind q args
  change_same place.Global args = refl
  change_same kind args = refl

  changes_alike : (g : Game) (kind : PlaceKind) (o : Option Alteration) (i : ℕ) → Same (changes g kind o steps (worked i v)) (changes g kind o [] (worked i w))
  changes_alike g kind None i = fails _ _ (looked i)
  changes_alike g kind (Some a) i = goes _ _ (did_worked (changing g.program kind a facts) v (changed g.program a (worked i v)) w (changed g.program a (worked i w)) (did_changed g.program a v (worked i v) w (worked i w) (looked i)))

  place_alike : (g : Game) (place : ℕ) (kind : Option PlaceKind) (args : List Value) (sets : Bool) → Same (change_place g place kind args sets steps q v) (change_place g place kind args sets [] r w)
  place_alike g place None args sets = fails v w nothing
  place_alike g place (Some kind) args sets = subst (λ i. Same (change_place g place (Some kind) args sets steps q v) (changes g kind (change_of (length g.program.objects) kind place sets (map (resolved S) args)) [] (worked i w))) (sym (change_same kind args)) (changes_alike g kind (change_of (length g.program.objects) kind place sets (map (resolved S) args)) (change_looks kind q args))

  -- ## Goals

  pub action_alike : (g : Game) (a : Action) (env : List Value) → AlikeEffects q r t steps v w (effect g (form_of a) env t steps q v) (effect g (form_of a) env t [] r w)
  action_alike g (action.Text name) env = alike _ _ (goes _ _ (did_printed (Piece name) v v w w nothing))
  action_alike g (action.Print y) env = alike _ _ (goes _ _ (did_pieces (pieces g.program (resolved S (value_of g.program env y))) v (worked (whole_looks q (value_of g.program env y)) v) w (worked (whole_looks r (value_of g.program env y)) w) (looked _)))
  action_alike g (action.Gap kind) env = alike _ _ (goes _ _ (did_printed (GapOf kind) v v w w nothing))
  action_alike g (action.GapN y) env = alike _ _ (spaces_alike (walk S (value_of g.program env y)) _ _ (looked _))
  action_alike g (action.Equal a b) env = alike _ _ (unifies _ _ _ v w made_here nothing)
  action_alike g (action.Test kind y) env = alike _ _ (tests _ _ _ (tested kind (value_of g.program env y)))
  action_alike g (action.Now place args sets) env = alike _ _ (place_alike g place _ _ sets)
  action_alike g (action.Arith f a b c) env = alike _ _ (number_alike _ _ _ _ (looked _))
  action_alike g (action.Compare f a b) env = alike _ _ (tests _ _ _ (looked _))
  action_alike g (action.Random a b c) env = alike _ _ (throws_alike _ _ _ _ (looked _))
  action_alike g (action.Input y) env = alike _ _ (line_alike g typed _)
  action_alike g (action.SplitWord a b) env = alike _ _ (splits_alike g _ _ _ _ (looked _))
  action_alike g (action.JoinWords a b) env = alike _ _ (joins_alike g _ _ _ _ (looked _))
  action_alike g action.Just env = alike _ _ cuts
  action_alike g action.Fail env = alike _ _ (fails v w nothing)
  action_alike g action.Stop env = alike _ _ stops
  action_alike g action.Quit env = alike _ _ quits

  -- what was gathered is taken out
  pub takes_alike : (whole : Whole) (into : Value) (vs : List Value) → Same (takes_out whole into vs q v) (takes_out whole into vs r w)
  takes_alike AsList into vs = unifies _ _ _ _ _ (record { tag = refl; stop = refl; bound = refl; trail = refl; here_bound = refl; vars = refl; older = omega arith; heap = omega arith; higher = omega arith }) (did_begun q r _ v v w w nothing)
  takes_alike AsSum into vs = number_alike (total vs) into _ _ (did_begun q r _ v v w w nothing)

  -- ## Places and objects

  abbrev Once : Act → Act → Type 0
  Once a b = AtOnce q r t steps v w a b

  copied_here : (y : Value) → MadeAlike q r (behind_copy y q) (behind_copy y r)
  copied_here y = record { tag = refl; stop = refl; bound = refl; trail = refl; here_bound = refl; vars = refl; older = omega arith; heap = omega arith; higher = omega arith }

  reads_alike : (args : List Value) (y : Value) (i : ℕ) → Once (reads args q y (worked i v)) (reads args r y (worked i w))
  reads_alike [] y i = record { alike = tests true _ _ (looked i); silent = refl; grows = worked_grows i v }
  reads_alike (a ∷ args) y i = record {
    alike = unifies _ _ _ _ _ (copied_here y) (did_worked (copied y) v (worked i v) w (worked i w) (looked i));
    silent = refl;
    grows = grows_on v (worked i v) _ (worked_grows i v) (worked_grows (copied y) (worked i v));
  }

  fails_once : (i : ℕ) → Once (FailsNow (worked i v)) (FailsNow (worked i w))
  fails_once i = record { alike = fails _ _ (looked i); silent = refl; grows = worked_grows i v }

  set_alike : (args : List Value) (o : Option Value) (i : ℕ) → Once (reads_if_set args q o (worked i v)) (reads_if_set args r o (worked i w))
  set_alike args None i = fails_once i
  set_alike args (Some y) i = reads_alike args y i

  reads_now : (args : List Value) (y : Value) → Once (reads args q y v) (reads args r y w)
  reads_now [] y = record { alike = tests true v w nothing; silent = refl; grows = grows_same v }
  reads_now (a ∷ args) y = record { alike = unifies _ _ _ _ _ (copied_here y) (looked (copied y)); silent = refl; grows = worked_grows (copied y) v }

  set_now : (args : List Value) (o : Option Value) → Once (reads_if_set args q o v) (reads_if_set args r o w)
  set_now args None = record { alike = fails v w nothing; silent = refl; grows = grows_same v }
  set_now args (Some y) = reads_now args y

  abbrev Asks : Game → Option ℕ → List Value → Bool → Effect → Effect → Type 0
  Asks g p args many a b = AlikeAsked q r t steps v w p args many (numbers 0 g.program.objects) a b

  object_alike : (g : Game) (p : Option ℕ) (u y : Value) (args : List Value) (many : Bool) (i : ℕ) → Asks g p (y ∷ args) many (ask_object g p u y args many steps q (worked i v)) (ask_object g p u y args true [] r (worked i w))
  object_alike g p (Var z) y args many i = in_turn i
  object_alike g p (Node (Object o) vs) y args many i = at_once _ _ (set_alike args (found facts p o) i)
  object_alike g p u y args many i = at_once _ _ (fails_once i)

  objects_alike : (g : Game) (p : Option ℕ) (args : List Value) (many : Bool) → Asks g p args many (ask_objects g p args many steps q v) (ask_objects g p args true [] r w)
  objects_alike g p [] many = at_once _ _ (record { alike = fails v w nothing; silent = refl; grows = grows_same v })
  objects_alike g p (y ∷ args) many = object_alike g p (walk S y) y args many (looked_up q y)

  place_asked : (g : Game) (p : ℕ) (kind : Option PlaceKind) (args : List Value) (many : Bool) → Asks g (Some p) args many (ask_place g p kind args many steps q v) (ask_place g p kind args true [] r w)
  place_asked g p None args many = at_once _ _ (record { alike = fails v w nothing; silent = refl; grows = grows_same v })
  place_asked g p (Some place.Flag) args many = at_once _ _ (record { alike = tests _ v w nothing; silent = refl; grows = grows_same v })
  place_asked g p (Some place.Global) args many = at_once _ _ (set_now args (value_at facts p 0))
  place_asked g p (Some kind) args many = objects_alike g (Some p) args many

  pub asked_alike : (g : Game) (p : Option ℕ) (args : List Value) (many : Bool) → Asks g p args many (asked g p args many steps q v) (asked g p args true [] r w)
  asked_alike g (Some p) args many = place_asked g p (slice_get (kinds_of g.program) p) args many
  asked_alike g None args many = objects_alike g None args many

  finds_alike : (args : List Value) (o : ℕ) (y : Value) → Once (finds args o q y (begun q 1 v)) (finds args o r y (begun r 1 w))
  finds_alike [] o y = record { alike = fails _ _ (did_begun q r 1 v v w w nothing); silent = refl; grows = begun_grows q 1 v }
  finds_alike (a ∷ []) o y = record { alike = unifies _ _ _ _ _ made_here (did_begun q r 1 v v w w nothing); silent = refl; grows = begun_grows q 1 v }
  finds_alike (a ∷ b ∷ args) o y = record {
    alike = unifies _ _ _ _ _ (copied_here y) (did_worked (copied y) v (begun q 1 v) w (begun r 1 w) (did_begun q r 1 v v w w nothing));
    silent = refl;
    grows = grows_on v (begun q 1 v) _ (begun_grows q 1 v) (worked_grows (copied y) (begun q 1 v));
  }

  -- an object is tried
  pub found_alike : (args : List Value) (o : ℕ) (y : Option Value) → Once (finds_if_set args o q y (begun q 1 v)) (finds_if_set args o r y (begun r 1 w))
  found_alike args o None = record { alike = fails _ _ (did_begun q r 1 v v w w nothing); silent = refl; grows = begun_grows q 1 v }
  found_alike args o (Some y) = finds_alike args o y
