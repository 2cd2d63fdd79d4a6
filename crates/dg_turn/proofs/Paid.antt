-- What the turns cost is paid for.
use Rattle.std.proofs.Common.{◌≡◌, ℕ, ◌+◌, ◌*◌, ◌≤◌, Bool, List, [], ◌∷◌, ◌++◌, length, map, Option, Some, None, refl, ap, arith}
use Rattle.dg_base.specs.declared.program.CoreProgram.{CoreProgram}
use Rattle.std.specs.List.{zip}
use Rattle.dg_base.specs.declared.program.Term.{Term, out-Term}
use Rattle.dg_base.specs.Goals.{option_terms}
use Rattle.dg_base.specs.declared.program.Term.TheOpen as term
use Rattle.dg_meaning.specs.Cells.{nodes_of}
use Rattle.dg_meaning.specs.Moves.{new_vars}
use Rattle.dg_meaning.specs.Values.{Value, value_of}
use Rattle.dg_meaning.specs.World.{Print}
use Rattle.dg_mid.specs.declared.code.Action.TheVariants as action
use Rattle.dg_mid.specs.declared.code.BodyCode.{BodyCode}
use Rattle.dg_mid.specs.declared.code.Op.{Op}
use Rattle.dg_mid.specs.declared.code.Op.TheVariants as op
use Rattle.dg_mid.specs.declared.code.RuleCode.{RuleCode}
use Rattle.dg_mid.specs.State.{Place, Frame, Stop, Call, Target, ToBody, Calls, Mid, cut_of, stop_to, Enters, Runs, Resumes, Fails}
use Rattle.dg_mid.specs.Step.{Setting, more, values, parameter, asked_by}
use Rattle.dg_mid.specs.Units.{units_of, query_work, selects_at, entering, dropped_in, dropped, dropped_once, undone, unwound, unwound_to}
use Rattle.dg_turn.specs.Terms.{IsNode, AreNodes, capturing, all_capturing}
use Rattle.dg_turn.specs.Turns.{entering_most, equal_most}
use Rattle.dg_rt.specs.Unifies.{price}
use Rattle.dg_turn.specs.Rules.{keyed}
use Rattle.dg_turn.specs.Queries.{asking_most}
use Rattle.dg_turn.specs.Bodies.{querying_most, body_most}
use Rattle.dg_turn.specs.Paid.{paid, TurnsArePaid}

-- a node costs less than 600 beside the others
one_few : (program : CoreProgram) (x : term.Term-F Term) → IsNode program x → capturing program x ≤ 600
one_few program (term.Closure c) is = let few = is.1 in omega arith
one_few program (term.Num n) is = omega arith
one_few program (term.Word n) is = omega arith
one_few program (term.Object n) is = omega arith
one_few program (term.Var n) is = omega arith
one_few program term.Nil is = omega arith
one_few program (term.Pair head tail) is = omega arith

pub all_few : (program : CoreProgram) (xs : List Term) → AreNodes program xs → all_capturing program xs ≤ 600 * length xs
all_few program [] are = omega arith
all_few program (x ∷ xs) are = let a = one_few program (out-Term x) are.0 in let b = all_few program xs are.1 in omega arith

enter_is_paid : (g : Setting) (ps : List Print) (call : Call) (m : Mid) (vars : ℕ) (head : List Term) (ops : List Op) → m.ops ≡ op.Enter vars head ∷ ops → AreNodes g.game.program (nodes_of head) → vars ≤ 300 → length head ≤ 12 → entering_most g.game.program call vars head m ≤ paid g ps (Enters call m)
enter_is_paid g ps call m vars head ops e nodes few short = let k = ap (λ (l : List Op). entering g call l m) e in let c = all_few g.game.program (nodes_of head) nodes in omega arith

equal_is_paid : (g : Setting) (ps : List Print) (m : Mid) (a b : Term) (ops : List Op) → m.ops ≡ op.Do (action.Equal a b) ∷ ops → AreNodes g.game.program (nodes_of (a ∷ b ∷ [])) → equal_most g.game.program a b m ≤ paid g ps (Runs m)
equal_is_paid g ps m a b ops e nodes = let k = ap (λ (l : List Op). units_of g ps l m) e in let c = all_few g.game.program (nodes_of (a ∷ b ∷ [])) nodes in omega arith

ask_is_paid : (g : Setting) (ps : List Print) (m : Mid) (pred : ℕ) (ts : List Term) (many : Bool) (next : ℕ) (rules : List RuleCode) (ops : List Op) → m.ops ≡ op.Ask pred ts many next ∷ ops → AreNodes g.game.program (nodes_of ts) → keyed rules ≤ 2200 → asking_most g.game.program ts m + 4 * keyed rules + 70 ≤ paid g ps (Runs m)
ask_is_paid g ps m pred ts many next rules ops e nodes few = let k = ap (λ (l : List Op). units_of g ps l m) e in let s = ap selects_at e in let c = all_few g.game.program (nodes_of ts) nodes in omega arith

last_is_paid : (g : Setting) (ps : List Print) (m : Mid) (pred : ℕ) (ts : List Term) (many : Bool) (rules : List RuleCode) (ops : List Op) → m.ops ≡ op.LastAsk pred ts many ∷ ops → AreNodes g.game.program (nodes_of ts) → keyed rules ≤ 2200 → asking_most g.game.program ts m + 4 * keyed rules + 70 ≤ paid g ps (Runs m)
last_is_paid g ps m pred ts many rules ops e nodes few = let k = ap (λ (l : List Op). units_of g ps l m) e in let s = ap selects_at e in let c = all_few g.game.program (nodes_of ts) nodes in omega arith

begin_is_paid : (g : Setting) (ps : List Print) (m : Mid) (call : Call) (rules : List RuleCode) → keyed rules ≤ 2200 → 4 * keyed rules + 70 ≤ paid g ps (Resumes (Calls call rules) m)
begin_is_paid g ps m call [] few = omega arith
begin_is_paid g ps m call (r ∷ rs) few = omega arith

fail_is_paid : (g : Setting) (ps : List Print) (m : Mid) → 6 * undone m.choices m + 34 ≤ paid g ps (Fails m)
fail_is_paid g ps m = omega arith

commit_is_paid : (g : Setting) (ps : List Print) (m : Mid) (place : Place) (places : List Place) (ops : List Op) → m.ops ≡ op.Commit ∷ ops → m.inner ≡ place ∷ places → 4 * dropped place m.choices + 15 ≤ paid g ps (Runs m)
commit_is_paid g ps m place places ops e i = let k = ap (λ (l : List Op). units_of g ps l m) e in let d = ap (λ (l : List Place). dropped_in l m.choices) i in omega arith

return_is_paid : (g : Setting) (ps : List Print) (m : Mid) (ops : List Op) → m.ops ≡ op.Return ∷ ops → 4 * dropped_once m.frames m.choices + 20 ≤ paid g ps (Runs m)
return_is_paid g ps m ops e = let k = ap (λ (l : List Op). units_of g ps l m) e in omega arith

-- a step is paid for by 800 at least
pub step_is_paid : (g : Setting) (ps : List Print) (m : Mid) (x : Op) (ops : List Op) → m.ops ≡ x ∷ ops → 800 ≤ paid g ps (Runs m)
step_is_paid g ps m x ops e = let k = ap (λ (l : List Op). units_of g ps l m) e in omega arith

leave_is_paid : (g : Setting) (ps : List Print) (m : Mid) (place : Place) (places : List Place) (ops : List Op) → m.ops ≡ op.Leave ∷ ops → m.inner ≡ place ∷ places → 4 * dropped place m.choices + 16 ≤ paid g ps (Runs m)
leave_is_paid g ps m place places ops e i = let k = ap (λ (l : List Op). units_of g ps l m) e in let d = ap (λ (l : List Place). dropped_in l m.choices) i in omega arith

refuse_is_paid : (g : Setting) (ps : List Print) (m : Mid) (place : Place) (places : List Place) (ops : List Op) → m.ops ≡ op.Refuse ∷ ops → m.inner ≡ place ∷ places → 4 * dropped place m.choices + 15 ≤ paid g ps (Runs m)
refuse_is_paid g ps m place places ops e i = let k = ap (λ (l : List Op). units_of g ps l m) e in let d = ap (λ (l : List Place). dropped_in l m.choices) i in omega arith

-- nothing is written for a stop, and it stops where it is
stop_unwinds : (m : Mid) → unwound m.stop (more 0 m) ≡ unwound m.stop m
stop_unwinds m = by_tag m.stop
  where
    by_part : (o : Option (Stop × List Stop)) → unwound_to o (more 0 m) ≡ unwound_to o m
    by_part None = refl
    by_part (Some found) = refl

    by_tag : (o : Option ℕ) → unwound o (more 0 m) ≡ unwound o m
    by_tag None = refl
    by_tag (Some tag) = by_part (stop_to tag m.stops)

stop_is_paid : (g : Setting) (ps : List Print) (m : Mid) (ops : List Op) → m.ops ≡ op.Do action.Stop ∷ ops → 3 + (6 * unwound m.stop m + 20) ≤ paid g ps (Runs m)
stop_is_paid g ps m ops e = let k = ap (λ (l : List Op). units_of g ps l m) e in let u = stop_unwinds m in omega arith

just_is_paid : (g : Setting) (ps : List Print) (m : Mid) (f : Frame) (fs : List Frame) (ops : List Op) → m.ops ≡ op.Do action.Just ∷ ops → m.frames ≡ f ∷ fs → 4 * dropped f.cut m.choices + 10 ≤ paid g ps (Runs m)
just_is_paid g ps m f fs ops e i = let k = ap (λ (l : List Op). units_of g ps l m) e in let d = ap (λ (l : List Frame). dropped (cut_of l) m.choices) i in omega arith

query_is_paid : (g : Setting) (ps : List Print) (m : Mid) (a : Term) (b : Option Term) (many : Bool) (next : ℕ) (ops : List Op) (c : BodyCode) (captured : List Value) (call : Call) (depth : ℕ) → m.ops ≡ op.Query a b many next ∷ ops → asked_by g a m ≡ Some (ToBody c captured) → call.args ≡ values g m (option_terms b) →
    AreNodes g.game.program (nodes_of (a ∷ option_terms b)) → c.own ≤ 300 → depth ≤ 14 → querying_most g.game.program a b m + 4 * depth + body_most g.game.program captured c.own call m ≤ paid g ps (Runs m)
query_is_paid g ps m a b many next ops c captured call depth e asked args nodes own few =
    let k = ap (λ (l : List Op). units_of g ps l m) e in
    let q = ap (λ (o : Option Target). query_work g o (values g m (option_terms b)) m.state.subst m.state.vars) asked in
    let p = ap (λ (xs : List Value). price m.state.subst (zip xs (map (value_of g.game.program (captured ++ new_vars c.own m.state.vars)) (parameter captured xs)))) args in
    let n = all_few g.game.program (nodes_of (a ∷ option_terms b)) nodes in
    omega arith

last_query_is_paid : (g : Setting) (ps : List Print) (m : Mid) (a : Term) (b : Option Term) (many : Bool) (ops : List Op) (c : BodyCode) (captured : List Value) (call : Call) (depth : ℕ) → m.ops ≡ op.LastQuery a b many ∷ ops → asked_by g a m ≡ Some (ToBody c captured) → call.args ≡ values g m (option_terms b) →
    AreNodes g.game.program (nodes_of (a ∷ option_terms b)) → c.own ≤ 300 → depth ≤ 14 → querying_most g.game.program a b m + 4 * depth + body_most g.game.program captured c.own call m ≤ paid g ps (Runs m)
last_query_is_paid g ps m a b many ops c captured call depth e asked args nodes own few =
    let k = ap (λ (l : List Op). units_of g ps l m) e in
    let q = ap (λ (o : Option Target). query_work g o (values g m (option_terms b)) m.state.subst m.state.vars) asked in
    let p = ap (λ (xs : List Value). price m.state.subst (zip xs (map (value_of g.game.program (captured ++ new_vars c.own m.state.vars)) (parameter captured xs)))) args in
    let n = all_few g.game.program (nodes_of (a ∷ option_terms b)) nodes in
    omega arith

unasked_is_paid : (g : Setting) (ps : List Print) (m : Mid) (a : Term) (b : Option Term) (many : Bool) (next : ℕ) (ops : List Op) (depth : ℕ) → m.ops ≡ op.Query a b many next ∷ ops → AreNodes g.game.program (nodes_of (a ∷ option_terms b)) → depth ≤ 14 → querying_most g.game.program a b m + 4 * depth + 30 ≤ paid g ps (Runs m)
unasked_is_paid g ps m a b many next ops depth e nodes few = let k = ap (λ (l : List Op). units_of g ps l m) e in let n = all_few g.game.program (nodes_of (a ∷ option_terms b)) nodes in omega arith

last_unasked_is_paid : (g : Setting) (ps : List Print) (m : Mid) (a : Term) (b : Option Term) (many : Bool) (ops : List Op) (depth : ℕ) → m.ops ≡ op.LastQuery a b many ∷ ops → AreNodes g.game.program (nodes_of (a ∷ option_terms b)) → depth ≤ 14 → querying_most g.game.program a b m + 4 * depth + 30 ≤ paid g ps (Runs m)
last_unasked_is_paid g ps m a b many ops depth e nodes few = let k = ap (λ (l : List Op). units_of g ps l m) e in let n = all_few g.game.program (nodes_of (a ∷ option_terms b)) nodes in omega arith

pub turns_are_paid : TurnsArePaid
turns_are_paid = record {
  enter = λ g ps call m vars head ops e nodes few short. enter_is_paid g ps call m vars head ops e nodes few short;
  equal = λ g ps m a b ops e nodes. equal_is_paid g ps m a b ops e nodes;
  ask = λ g ps m pred ts many next rules ops e nodes few. ask_is_paid g ps m pred ts many next rules ops e nodes few;
  last_ask = λ g ps m pred ts many rules ops e nodes few. last_is_paid g ps m pred ts many rules ops e nodes few;
  begin = λ g ps m call rules few. begin_is_paid g ps m call rules few;
  fail = λ g ps m. fail_is_paid g ps m;
  commit = λ g ps m place places ops e i. commit_is_paid g ps m place places ops e i;
  returned = λ g ps m ops e. return_is_paid g ps m ops e;
  branch = λ g ps m alt ops e. (let k = step_is_paid g ps m (op.Branch alt) ops e in omega arith);
  try = λ g ps m alt ops e. (let k = step_is_paid g ps m (op.Try alt) ops e in omega arith);
  shield = λ g ps m alt ops e. (let k = step_is_paid g ps m (op.Shield alt) ops e in omega arith);
  once = λ g ps m ops e. (let k = step_is_paid g ps m op.Once ops e in omega arith);
  leave = λ g ps m place places ops e i. leave_is_paid g ps m place places ops e i;
  refuse = λ g ps m place places ops e i. refuse_is_paid g ps m place places ops e i;
  stop = λ g ps m ops e. stop_is_paid g ps m ops e;
  just = λ g ps m f fs ops e i. just_is_paid g ps m f fs ops e i;
  query = λ g ps m a b many next ops c captured call depth e asked args nodes own few. query_is_paid g ps m a b many next ops c captured call depth e asked args nodes own few;
  last_query = λ g ps m a b many ops c captured call depth e asked args nodes own few. last_query_is_paid g ps m a b many ops c captured call depth e asked args nodes own few;
  unasked = λ g ps m a b many next ops depth e nodes few. unasked_is_paid g ps m a b many next ops depth e nodes few;
  last_unasked = λ g ps m a b many ops depth e nodes few. last_unasked_is_paid g ps m a b many ops depth e nodes few;
}
