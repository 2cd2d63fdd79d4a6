-- What text costs is paid for.
use Rattle.std.proofs.Common.{◌≡◌, ℕ, ◌+◌, ◌*◌, ◌≤◌, List, [], ◌∷◌, ◌++◌, length, ap, ◌∙◌, arith}
use Rattle.std.specs.Prelude.{All, encode_utf8_all}
use Rattle.dg_base.specs.declared.program.Term.{Term}
use Rattle.dg_base.specs.Sound.{IsPrintable}
use Rattle.dg_meaning.specs.Cells.{nodes_of, cells as cells_of}
use Rattle.dg_meaning.specs.Moves.{looked_up, spaces, all_printed, printed}
use Rattle.dg_meaning.specs.Pieces.{pieces}
use Rattle.dg_meaning.specs.Render.{spaces_from, nothing_met, met_from, met_behind, render_from, written, growth, characters}
use Rattle.dg_meaning.specs.Substitutions.{walk, resolved}
use Rattle.dg_meaning.specs.Unify.{looks}
use Rattle.dg_meaning.specs.Values.{Num, Word, Unknown, Object, Nil, Pair, Closure, Value, Var, Node, value_of}
use Rattle.dg_meaning.specs.World.{World, Print, Piece, Prints, prints, worked}
use Rattle.dg_meaning.proofs.Dropping.{prints_append}
use Rattle.dg_mid.specs.declared.code.Action.TheVariants as action
use Rattle.dg_mid.specs.declared.code.Op.{Op}
use Rattle.dg_mid.specs.declared.code.Op.TheVariants as op
use Rattle.dg_mid.specs.Actions.{registers_of, world_of}
use Rattle.dg_mid.specs.State.{Mid, Runs, vars_of}
use Rattle.dg_mid.specs.Step.{Setting, more}
use Rattle.dg_mid.specs.Units.{act_work, units_of}
use Rattle.dg_mid.proofs.Acts.{nothing_first}
use Rattle.dg_rt.specs.Prints.{all_pieces}
use Rattle.dg_rt.proofs.Counted.{characters_on, text_counted, written_counted, met_on}
use Rattle.dg_turn.specs.Terms.{AreNodes}
use Rattle.dg_turn.specs.Texts.{gap_n_most}
use Rattle.dg_turn.specs.Operating.{term_value}
use Rattle.dg_turn.specs.Prints.{print_most}
use Rattle.dg_turn.specs.Paid.{paid, TextsArePaid}
use Rattle.dg_turn.proofs.Paid.{all_few, step_is_paid}
use Rattle.dg_turn.proofs.TextPrinted.{all_small}

-- ## Costs

text_is_paid : (g : Setting) (ps : List Print) (m : Mid) (cs : List ℕ) (ops : List Op) → m.ops ≡ op.Do (action.Text (encode_utf8_all cs)) ∷ ops → All IsPrintable cs → 3 * spaces_from 0 (met_from nothing_met ps).gap + length cs + 30 ≤ paid g ps (Runs m)
text_is_paid g ps m cs ops e all =
    let k = ap (λ (l : List Op). units_of g ps l m) e in
    let p = ap (λ (l : List Print). characters (growth l (Piece (encode_utf8_all cs)))) (nothing_first ps) in
    let many = written_counted (met_from nothing_met ps) (encode_utf8_all cs) in
    let own = text_counted cs (all_small cs all) in
    omega arith

-- looking a number up is work, whatever comes of it
spaces_work : (u : Value) (w : World) → w.meters.work ≤ act_work (spaces u [] w)
spaces_work (Var x) w = omega arith
spaces_work (Node (Num n) parts) w = omega arith
spaces_work (Node (Word n) parts) w = omega arith
spaces_work (Node (Unknown letters) parts) w = omega arith
spaces_work (Node (Object n) parts) w = omega arith
spaces_work (Node Nil parts) w = omega arith
spaces_work (Node Pair parts) w = omega arith
spaces_work (Node (Closure place) parts) w = omega arith

gap_n_is_paid : (g : Setting) (ps : List Print) (m : Mid) (a : Term) (ops : List Op) → m.ops ≡ op.Do (action.GapN a) ∷ ops → AreNodes g.game.program (nodes_of (a ∷ [])) → gap_n_most g.game.program a m ≤ paid g ps (Runs m)
gap_n_is_paid g ps m a ops e nodes =
    let k = ap (λ (l : List Op). units_of g ps l m) e in
    let c = all_few g.game.program (nodes_of (a ∷ [])) nodes in
    let m' = more (cells_of g.game.program (a ∷ [])) m in
    let v = value_of g.game.program (vars_of m.frames) a in
    let w = spaces_work (walk m.state.subst v) (worked (looked_up (registers_of m') v) (world_of ps m')) in
    omega arith

-- ## Values

-- The characters that appear with pieces are work.
pieces_work : (ps : List (List ℕ)) (w : World) → (all_printed ps w).meters.work ≡ w.meters.work + characters (render_from (met_from nothing_met (prints w.events)) (all_pieces ps))
pieces_work [] w = omega arith
pieces_work (b ∷ ps) w =
    let e = Piece b in
    let m = met_from nothing_met (prints w.events) in
    let later = pieces_work ps (printed e w) in
    let more_is : met_from nothing_met (prints (w.events ++ Prints e ∷ [])) ≡ met_behind m e = ap (met_from nothing_met) (prints_append w.events (Prints e ∷ [])) ∙ met_on nothing_met (prints w.events) (e ∷ []) in
    let same = ap (λ m'. characters (render_from m' (all_pieces ps))) more_is in
    let both = characters_on (written m e) (render_from (met_behind m e) (all_pieces ps)) in
    omega arith

print_is_paid : (g : Setting) (ps : List Print) (m : Mid) (a : Term) (ops : List Op) → m.ops ≡ op.Do (action.Print a) ∷ ops → AreNodes g.game.program (nodes_of (a ∷ [])) → print_most g.game.program (met_from nothing_met ps) a m ≤ paid g ps (Runs m)
print_is_paid g ps m a ops e nodes =
    let k = ap (λ (l : List Op). units_of g ps l m) e in
    let c = all_few g.game.program (nodes_of (a ∷ [])) nodes in
    let m' = more (cells_of g.game.program (a ∷ [])) m in
    let v = term_value g.game.program m a in
    let bytes = pieces g.game.program (resolved m.state.subst v) in
    let w = pieces_work bytes (worked (looks m.state.subst m.state.vars v) (world_of ps m')) in
    let first = ap (λ (l : List Print). characters (render_from (met_from nothing_met l) (all_pieces bytes))) (nothing_first ps) in
    omega arith

pub texts_are_paid : TextsArePaid
texts_are_paid = record {
  text = λ g ps m cs ops e all. text_is_paid g ps m cs ops e all;
  gap = λ g ps m kind ops e. (let k = step_is_paid g ps m (op.Do (action.Gap kind)) ops e in omega arith);
  gap_n = λ g ps m a ops e nodes. gap_n_is_paid g ps m a ops e nodes;
  print = λ g ps m a ops e nodes. print_is_paid g ps m a ops e nodes;
}
