-- What changes and queries of global variables cost is paid for.
use Rattle.std.proofs.Common.{◌≡◌, ℕ, ◌+◌, ◌≤◌, Bool, true, List, [], ◌∷◌, Option, Some, None, ap, ◌∙◌, arith}
use Rattle.std.specs.List.{slice_get}
use Rattle.std.proofs.lemmas.List.Sums.{sum_by-cons}
use Rattle.dg_base.specs.declared.program.PlaceKind.{PlaceKind}
use Rattle.dg_base.specs.declared.program.PlaceKind.TheVariants.{Global}
use Rattle.dg_base.specs.declared.program.Term.{Term}
use Rattle.dg_meaning.specs.Cells.{nodes_of, cells as cells_of}
use Rattle.dg_meaning.specs.Facts.{value_at, Alteration, Sets, Clears, ClearsAll, kinds_of}
use Rattle.dg_meaning.specs.Letters.{copied}
use Rattle.dg_meaning.specs.Moves.{unifying, keeping, reads_if_set, ask_place, change_looks, changes, change_place}
use Rattle.dg_meaning.specs.Path.{Registers}
use Rattle.dg_meaning.specs.Values.{Value}
use Rattle.dg_meaning.specs.World.{Print, World, worked}
use Rattle.dg_mid.specs.declared.code.Action.TheVariants as action
use Rattle.dg_mid.specs.declared.code.Op.{Op}
use Rattle.dg_mid.specs.declared.code.Op.TheVariants as op
use Rattle.dg_mid.specs.Actions.{registers_of, world_of, act_at}
use Rattle.dg_mid.specs.State.{Mid, Runs}
use Rattle.dg_mid.specs.Step.{Setting, more}
use Rattle.dg_mid.specs.Units.{units_of, act_work, effect_work}
use Rattle.dg_turn.specs.Terms.{AreNodes}
use Rattle.dg_turn.specs.Operating.{term_value}
use Rattle.dg_turn.specs.World.{change_in}
use Rattle.dg_turn.specs.Globals.{kept_behind, global_most, global_read_most, copy_equation, global_copied_most}
use Rattle.dg_turn.specs.Paid.{paid, GlobalsArePaid}
use Rattle.dg_turn.proofs.Paid.{all_few}

module _ (g : Setting) (ps : List Print) (m : Mid) (place : ℕ) (a : Term) where
  abbrev m' : Mid
  m' = more (cells_of g.game.program (a ∷ [])) m

  abbrev r : Registers
  r = registers_of m'

  abbrev v : Value
  v = term_value g.game.program m a

  abbrev looked : World
  looked = worked (change_looks Global r (v ∷ [])) (world_of ps m')

  -- a value is looked through and copied, and what is kept is moved
  change_is_work : (change : Option Alteration) → keeping r v + kept_behind g.game.program change m.lasting.facts ≤ act_work (changes g.game Global change [] looked)
  change_is_work None = let s = sum_by-cons (keeping r) v [] in omega arith
  change_is_work (Some (Sets p o u)) = let s = sum_by-cons (keeping r) v [] in omega arith
  change_is_work (Some (Clears p o)) = let s = sum_by-cons (keeping r) v [] in omega arith
  change_is_work (Some (ClearsAll p)) = let s = sum_by-cons (keeping r) v [] in omega arith

  now_paid : (sets : Bool) (ops : List Op) → m.ops ≡ op.Do (action.Now place (a ∷ []) sets) ∷ ops → slice_get (kinds_of g.game.program) place ≡ Some Global → AreNodes g.game.program (nodes_of (a ∷ [])) → global_most g.game.program a (kept_behind g.game.program (change_in g.game.program Global place (a ∷ []) sets m) m.lasting.facts) m ≤ paid g ps (Runs m)
  now_paid sets ops e is nodes =
      let k = ap (λ (l : List Op). units_of g ps l m) e in
      let change = change_in g.game.program Global place (a ∷ []) sets m in
      let q : act_at g.game ps (action.Now place (a ∷ []) sets) m' ≡ changes g.game Global change [] looked = ap (λ (o : Option PlaceKind). change_place g.game place o (v ∷ []) sets [] r (world_of ps m')) is in
      let w = ap act_work q in
      let c = change_is_work change in
      let few = all_few g.game.program (nodes_of (a ∷ [])) nodes in
      omega arith

  abbrev asked_work : ℕ
  asked_work = effect_work (ask_place g.game place (slice_get (kinds_of g.game.program) place) (v ∷ []) true [] r (world_of ps m'))

  read_paid : (many : Bool) (next : ℕ) (ops : List Op) → m.ops ≡ op.Find (Some place) (a ∷ []) many next ∷ ops → AreNodes g.game.program (nodes_of (a ∷ [])) → global_read_most g.game.program a ≤ paid g ps (Runs m)
  read_paid many next ops e nodes =
      let k = ap (λ (l : List Op). units_of g ps l m) e in
      let few = all_few g.game.program (nodes_of (a ∷ [])) nodes in
      omega arith

  copy_paid : (u : Value) (many : Bool) (next : ℕ) (ops : List Op) → m.ops ≡ op.Find (Some place) (a ∷ []) many next ∷ ops → slice_get (kinds_of g.game.program) place ≡ Some Global → AreNodes g.game.program (nodes_of (a ∷ [])) → value_at m.lasting.facts place 0 ≡ Some u → global_copied_most g.game.program a u m ≤ paid g ps (Runs m)
  copy_paid u many next ops e is nodes set =
      let k = ap (λ (l : List Op). units_of g ps l m) e in
      let few = all_few g.game.program (nodes_of (a ∷ [])) nodes in
      let q : asked_work ≡ act_work (reads_if_set (v ∷ []) r (value_at m.lasting.facts place 0) (world_of ps m')) = ap (λ (o : Option PlaceKind). effect_work (ask_place g.game place o (v ∷ []) true [] r (world_of ps m'))) is in
      let s : act_work (reads_if_set (v ∷ []) r (value_at m.lasting.facts place 0) (world_of ps m')) ≡ copied u + unifying m.state.subst (copy_equation g.game.program a u m) = ap (λ (o : Option Value). act_work (reads_if_set (v ∷ []) r o (world_of ps m'))) set ∙ omega arith in
      omega arith

pub globals_are_paid : GlobalsArePaid
globals_are_paid = record {
  now = λ g ps m place a sets ops e is nodes. now_paid g ps m place a sets ops e is nodes;
  read = λ g ps m place a many next ops e nodes. read_paid g ps m place a many next ops e nodes;
  copy = λ g ps m place a v many next ops e is nodes set. copy_paid g ps m place a v many next ops e is nodes set;
}
