-- What changes of the world cost is paid for.
use Rattle.std.proofs.Common.{◌≡◌, ◌≢◌, ℕ, ◌+◌, ◌*◌, ◌≤◌, Bool, true, List, [], ◌∷◌, length, map, Option, Some, None, refl, ap, ◌∙◌, arith}
use Rattle.std.specs.List.{slice_get, sum_by}
use Rattle.std.proofs.lemmas.List.Sums.{sum_by-cons}
use Rattle.dg_base.specs.declared.program.PlaceKind.{PlaceKind}
use Rattle.dg_base.specs.declared.program.PlaceKind.TheVariants.{Flag, ObjectFlag, ObjectVar, Parent, Global}
use Rattle.dg_base.specs.declared.program.Term.{Term}
use Rattle.dg_meaning.specs.Cells.{nodes_of, writing, cells as cells_of}
use Rattle.dg_meaning.specs.Changes.{change_of}
use Rattle.dg_meaning.specs.Facts.{value_at, Alteration, Sets, Clears, ClearsAll, kinds_of}
use Rattle.dg_meaning.specs.Copies.{copy_from}
use Rattle.dg_meaning.specs.Moves.{unifying, looked_up, reads_if_set, ask_object, ask_objects, ask_place, change_looks, changes, change_place}
use Rattle.dg_meaning.specs.Path.{Registers}
use Rattle.dg_meaning.specs.Substitutions.{walk, resolved}
use Rattle.dg_meaning.specs.Values.{Num, Word, Unknown, Object, Nil, Pair, Closure, Value, Var, Node}
use Rattle.dg_meaning.specs.World.{Print, World, worked}
use Rattle.dg_mid.specs.declared.code.Action.TheVariants as action
use Rattle.dg_mid.specs.declared.code.Op.{Op}
use Rattle.dg_mid.specs.declared.code.Op.TheVariants as op
use Rattle.dg_mid.specs.Actions.{registers_of, world_of, act_at}
use Rattle.dg_mid.specs.State.{Mid, Runs}
use Rattle.dg_mid.specs.Step.{Setting, more}
use Rattle.dg_mid.specs.Units.{units_of, act_work, effect_work}
use Rattle.dg_rt.specs.Changes.{SetIn, cleared, set_of}
use Rattle.dg_rt.specs.Shapes.{Shape, Shows, number, dict, object, nil, variable, boxed}
use Rattle.dg_turn.specs.Terms.{AreNodes, written_in}
use Rattle.dg_turn.specs.Operating.{term_value, term_links}
use Rattle.dg_turn.specs.Paid.{paid, WorldIsPaid}
use Rattle.dg_turn.specs.World.{now_most, set_in, reading_most, answering_most, HasValues}
use Rattle.dg_turn.proofs.Paid.{all_few}

module _ (g : Setting) (ps : List Print) (m : Mid) (ts : List Term) where
  abbrev m' : Mid
  m' = more (cells_of g.game.program ts) m

  abbrev r : Registers
  r = registers_of m'

  abbrev n : ℕ
  n = length g.game.program.objects

  abbrev args : List Value
  args = map (term_value g.game.program m) ts

  -- the links of all terms are looked at
  looks_are : (us : List Term) → sum_by (term_links g.game.program m) us ≤ sum_by (looked_up r) (map (term_value g.game.program m) us)
  looks_are [] = omega arith
  looks_are (u ∷ us) =
      let q = looks_are us in
      let f = term_links g.game.program m in
      let one = sum_by-cons f u us in
      let two = sum_by-cons (looked_up r) (term_value g.game.program m u) (map (term_value g.game.program m) us) in
      omega arith

  abbrev looked : PlaceKind → World
  looked kind = worked (change_looks kind r args) (world_of ps m')

  -- so is each object that is cleared
  change_is_work : (kind : PlaceKind) (change : Option Alteration) → kind ≢ Global → sum_by (looked_up r) args + cleared n change ≤ act_work (changes g.game kind change [] (looked kind))
  change_is_work Flag None other = omega arith
  change_is_work Flag (Some (Sets p o v)) other = omega arith
  change_is_work Flag (Some (Clears p o)) other = omega arith
  change_is_work Flag (Some (ClearsAll p)) other = omega arith
  change_is_work ObjectFlag None other = omega arith
  change_is_work ObjectFlag (Some (Sets p o v)) other = omega arith
  change_is_work ObjectFlag (Some (Clears p o)) other = omega arith
  change_is_work ObjectFlag (Some (ClearsAll p)) other = omega arith
  change_is_work ObjectVar None other = omega arith
  change_is_work ObjectVar (Some (Sets p o v)) other = omega arith
  change_is_work ObjectVar (Some (Clears p o)) other = omega arith
  change_is_work ObjectVar (Some (ClearsAll p)) other = omega arith
  change_is_work Parent None other = omega arith
  change_is_work Parent (Some (Sets p o v)) other = omega arith
  change_is_work Parent (Some (Clears p o)) other = omega arith
  change_is_work Parent (Some (ClearsAll p)) other = omega arith
  change_is_work Global change other = absurd (other refl)

  now_is_paid : (place : ℕ) (kind : PlaceKind) (sets : Bool) (ops : List Op) → m.ops ≡ op.Do (action.Now place ts sets) ∷ ops → slice_get (kinds_of g.game.program) place ≡ Some kind → kind ≢ Global → AreNodes g.game.program (nodes_of ts) → now_most g.game.program kind place ts sets m ≤ paid g ps (Runs m)
  now_is_paid place kind sets ops e is other nodes =
      let k = ap (λ (l : List Op). units_of g ps l m) e in
      let change = change_of n kind place sets (map (resolved m.state.subst) args) in
      let q : act_at g.game ps (action.Now place ts sets) m' ≡ changes g.game kind change [] (looked kind) = ap (λ (o : Option PlaceKind). change_place g.game place o args sets [] r (world_of ps m')) is in
      let a = ap act_work q in
      let c = change_is_work kind change other in
      let s = looks_are ts in
      let few = all_few g.game.program (nodes_of ts) nodes in
      omega arith

-- ## Queries

-- What is set of an object is its own copy.
copied_in : (sh : Shape) → sh.vars ≡ 0 → ((k : ℕ) → sh.box k ≡ None) → (x i : ℕ) (v : Value) → Shows sh x v → copy_from i v ≡ v
copied_in sh none boxes x i v (number k lt) = refl
copied_in sh none boxes x i v (dict k lt) = refl
copied_in sh none boxes x i v (object k lt) = refl
copied_in sh none boxes x i v nil = refl
copied_in sh none boxes x i v (variable k lt) = absurd (omega arith)
copied_in sh none boxes x i v (boxed k header lt box cell filled) = let e = boxes k in absurd (cc)

pub set_copied : (x i : ℕ) (v : Value) → SetIn x (Some v) → copy_from i v ≡ v
set_copied x i v is = let sh : Shape = record { top = 0; vars = 0; place = λ k. 0; fixed = λ k. 0; box = λ k. None; captures = λ k. 0 } in copied_in sh refl (λ k. refl) x i v (is sh)

module _ (g : Setting) (ps : List Print) (m : Mid) (place : ℕ) where
  -- a value that is read is looked at, and what is read is unified
  read_work : (us : List Value) (r : Registers) (s : Option Value) (w : World) → w.meters.work ≤ act_work (reads_if_set us r s w)
  read_work us r None w = omega arith
  read_work [] r (Some v) w = omega arith
  read_work (c ∷ us) r (Some v) w = omega arith

  object_work : (u v : Value) (us : List Value) (r : Registers) (w : World) → w.meters.work ≤ effect_work (ask_object g.game (Some place) u v us true [] r w)
  object_work (Var x) v us r w = omega arith
  object_work (Node (Num i) vs) v us r w = omega arith
  object_work (Node (Word i) vs) v us r w = omega arith
  object_work (Node (Unknown spelling) vs) v us r w = omega arith
  object_work (Node (Object o) vs) v us r w = read_work us r (value_at w.facts place o) w
  object_work (Node Nil vs) v us r w = omega arith
  object_work (Node Pair vs) v us r w = omega arith
  object_work (Node (Closure c) vs) v us r w = omega arith

  pub answer_work : (word : ℕ) (v : Value) → SetIn word (Some v) → (u va vc : Value) (r : Registers) (w : World) → set_of w.facts place u ≡ Some v → w.meters.work + unifying r.bound ((vc, v) ∷ []) ≤ effect_work (ask_object g.game (Some place) u va (vc ∷ []) true [] r w)
  answer_work word v is (Var x) va vc r w e = absurd (cc)
  answer_work word v is (Node (Num i) vs) va vc r w e = absurd (cc)
  answer_work word v is (Node (Word i) vs) va vc r w e = absurd (cc)
  answer_work word v is (Node (Unknown spelling) vs) va vc r w e = absurd (cc)
  answer_work word v is (Node (Object o) vs) va vc r w e =
      let q = ap (λ (s : Option Value). act_work (reads_if_set (vc ∷ []) r s w)) e in
      let c = ap (λ (x : Value). unifying r.bound ((vc, x) ∷ [])) (set_copied word r.next_var v is) in
      omega arith
  answer_work word v is (Node Nil vs) va vc r w e = absurd (cc)
  answer_work word v is (Node Pair vs) va vc r w e = absurd (cc)
  answer_work word v is (Node (Closure c) vs) va vc r w e = absurd (cc)

  holds_paid : (many : Bool) (next : ℕ) (ops : List Op) → m.ops ≡ op.Find (Some place) [] many next ∷ ops → 20 ≤ paid g ps (Runs m)
  holds_paid many next ops e = let k = ap (λ (l : List Op). units_of g ps l m) e in omega arith

  -- of an object
  module _ (a : Term) (others : List Term) (many : Bool) (next : ℕ) (ops : List Op) (e : m.ops ≡ op.Find (Some place) (a ∷ others) many next ∷ ops) where
    abbrev pub now : Mid
    now = more (cells_of g.game.program (a ∷ others)) m

    abbrev pub first : Value
    first = term_value g.game.program m a

    abbrev pub given : List Value
    given = map (term_value g.game.program m) others

    abbrev pub looked_at : World
    looked_at = worked (looked_up (registers_of now) first) (world_of ps now)

    abbrev pub asked_work : ℕ
    asked_work = effect_work (ask_object g.game (Some place) (walk m.state.subst first) first given true [] (registers_of now) looked_at)

    pub asks_by : (kind : PlaceKind) → slice_get (kinds_of g.game.program) place ≡ Some kind → ask_place g.game place (Some kind) (first ∷ given) true [] (registers_of now) (world_of ps now) ≡ ask_objects g.game (Some place) (first ∷ given) true [] (registers_of now) (world_of ps now) → effect_work (ask_place g.game place (slice_get (kinds_of g.game.program) place) (first ∷ given) true [] (registers_of now) (world_of ps now)) ≡ asked_work
    asks_by kind is objects = ap (λ (k : Option PlaceKind). effect_work (ask_place g.game place k (first ∷ given) true [] (registers_of now) (world_of ps now))) is ∙ ap effect_work objects

    pub pays : (all : ℕ) → effect_work (ask_place g.game place (slice_get (kinds_of g.game.program) place) (first ∷ given) true [] (registers_of now) (world_of ps now)) ≡ asked_work → all ≤ 800 * (1 + (writing (a ∷ others) + asked_work)) → all ≤ paid g ps (Runs m)
    pays all is le = let k = ap (λ (l : List Op). units_of g ps l m) e in omega arith

  flag_paid : (a : Term) (many : Bool) (next : ℕ) (ops : List Op) → m.ops ≡ op.Find (Some place) (a ∷ []) many next ∷ ops → slice_get (kinds_of g.game.program) place ≡ Some ObjectFlag → AreNodes g.game.program (nodes_of (a ∷ [])) → written_in g.game.program (a ∷ []) + 5 * term_links g.game.program m a + 60 ≤ paid g ps (Runs m)
  flag_paid a many next ops e is nodes =
      let few = all_few g.game.program (nodes_of (a ∷ [])) nodes in
      let w = object_work (walk m.state.subst (term_value g.game.program m a)) (term_value g.game.program m a) [] (registers_of (now a [] many next ops e)) (looked_at a [] many next ops e) in
      pays a [] many next ops e (written_in g.game.program (a ∷ []) + 5 * term_links g.game.program m a + 60) (asks_by a [] many next ops e ObjectFlag is refl) (omega arith)

  pub objects_of : (kind : PlaceKind) → HasValues kind → (us : List Value) (r : Registers) (w : World) → ask_place g.game place (Some kind) us true [] r w ≡ ask_objects g.game (Some place) us true [] r w
  objects_of Flag has us r w = absurd has
  objects_of ObjectFlag has us r w = absurd has
  objects_of ObjectVar has us r w = refl
  objects_of Parent has us r w = refl
  objects_of Global has us r w = absurd has

  module _ (kind : PlaceKind) (a c : Term) (many : Bool) (next : ℕ) (ops : List Op) (e : m.ops ≡ op.Find (Some place) (a ∷ c ∷ []) many next ∷ ops) (is : slice_get (kinds_of g.game.program) place ≡ Some kind) (has : HasValues kind) (nodes : AreNodes g.game.program (nodes_of (a ∷ c ∷ []))) where
    abbrev va : Value
    va = term_value g.game.program m a

    abbrev vc : Value
    vc = term_value g.game.program m c

    abbrev reg : Registers
    reg = registers_of (now a (c ∷ []) many next ops e)

    abbrev wld : World
    wld = looked_at a (c ∷ []) many next ops e

    pub asked_so : effect_work (ask_place g.game place (slice_get (kinds_of g.game.program) place) (va ∷ vc ∷ []) true [] reg (world_of ps (now a (c ∷ []) many next ops e))) ≡ asked_work a (c ∷ []) many next ops e
    asked_so = asks_by a (c ∷ []) many next ops e kind is (objects_of kind has (va ∷ vc ∷ []) reg (world_of ps (now a (c ∷ []) many next ops e)))

    read_paid : reading_most g.game.program a c m ≤ paid g ps (Runs m)
    read_paid =
        let few = all_few g.game.program (nodes_of (a ∷ c ∷ [])) nodes in
        let w = object_work (walk m.state.subst va) va (vc ∷ []) reg wld in
        pays a (c ∷ []) many next ops e (reading_most g.game.program a c m) asked_so (omega arith)

    answer_paid : (word : ℕ) (v : Value) → set_in g.game.program m.lasting.facts place a m ≡ Some v → SetIn word (Some v) → answering_most g.game.program a c v m ≤ paid g ps (Runs m)
    answer_paid word v there stands =
        let few = all_few g.game.program (nodes_of (a ∷ c ∷ [])) nodes in
        let w = answer_work word v stands (walk m.state.subst va) va vc reg wld there in
        pays a (c ∷ []) many next ops e (answering_most g.game.program a c v m) asked_so (omega arith)

pub world_is_paid : WorldIsPaid
world_is_paid = record {
  now = λ g ps m place kind ts sets ops e is other nodes. now_is_paid g ps m ts place kind sets ops e is other nodes;
  holds = λ g ps m place many next ops e. holds_paid g ps m place many next ops e;
  flag = λ g ps m place a many next ops e is nodes. flag_paid g ps m place a many next ops e is nodes;
  read = λ g ps m place kind a c many next ops e is has nodes. read_paid g ps m place kind a c many next ops e is has nodes;
  answer = λ g ps m place kind a c many next ops word v e is has nodes there stands. answer_paid g ps m place kind a c many next ops e is has nodes word v there stands;
}
