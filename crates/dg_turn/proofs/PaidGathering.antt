-- What gatherings cost is paid for.
use Rattle.std.proofs.Common.{◌≡◌, ℕ, ◌+◌, ◌*◌, ◌≤◌, List, [], ◌∷◌, length, Option, Some, None, ap, arith}
use Rattle.std.specs.List.{sum_by}
use Rattle.std.proofs.lemmas.List.Sums.{sum_by-cons}
use Rattle.dg_base.specs.declared.program.Term.{Term}
use Rattle.dg_meaning.specs.Cells.{nodes_of}
use Rattle.dg_meaning.specs.Letters.{letters_in, copied}
use Rattle.dg_meaning.specs.Moves.{gives_number, begun}
use Rattle.dg_meaning.specs.Numbers.{total}
use Rattle.dg_meaning.specs.Unify.{size}
use Rattle.dg_meaning.specs.Values.{Value}
use Rattle.dg_meaning.specs.World.{Print, Gathering}
use Rattle.dg_mid.specs.declared.code.Gathered.TheVariants as gathered
use Rattle.dg_mid.specs.declared.code.Op.{Op}
use Rattle.dg_mid.specs.declared.code.Op.TheVariants as op
use Rattle.dg_mid.specs.Actions.{registers_of, world_of}
use Rattle.dg_mid.specs.Code.{block_at}
use Rattle.dg_mid.specs.State.{Place, Takes, Mid, Runs, Resumes}
use Rattle.dg_mid.specs.Step.{Setting, passed}
use Rattle.dg_mid.specs.Units.{units_of, act_work, gathering_work, keeping_work, taking, taking_newest}
use Rattle.dg_rt.specs.Gatherings.{keep_most}
use Rattle.dg_turn.specs.Terms.{AreNodes, written_in}
use Rattle.dg_turn.specs.Gatherings.{gathered_by, taking_most, adding_most, summing_most}
use Rattle.dg_turn.specs.Paid.{paid}
use Rattle.dg_turn.specs.GatheringsPaid.{GatheringsArePaid}
use Rattle.dg_turn.proofs.Paid.{all_few}

collect_is_paid : (g : Setting) (ps : List Print) (m : Mid) (a b : Term) (alt : ℕ) (ops : List Op) → m.ops ≡ op.Collect a b alt ∷ ops → AreNodes g.game.program (nodes_of (a ∷ b ∷ [])) → written_in g.game.program (a ∷ b ∷ []) + 60 ≤ paid g ps (Runs m)
collect_is_paid g ps m a b alt ops e nodes = let k = ap (λ (l : List Op). units_of g ps l m) e in let c = all_few g.game.program (nodes_of (a ∷ b ∷ [])) nodes in omega arith

-- the value that is gathered
work_of : (ps : List Place) (v : Value) (m : Mid) → gathered_by ps ≡ Some v → gathering_work ps m.state ≡ keeping_work (Some v) m.state
work_of [] v m e = absurd (cc e)
work_of (p ∷ ps) v m e = ap (λ (o : Option Value). keeping_work o m.state) e

keep_is_paid : (g : Setting) (ps : List Print) (m : Mid) (a : Term) (v : Value) (ops : List Op) → m.ops ≡ op.Keep a ∷ ops → gathered_by m.inner ≡ Some v → keep_most m.state.subst m.state.vars v + 2 ≤ paid g ps (Runs m)
keep_is_paid g ps m a v ops e i = let k = ap (λ (l : List Op). units_of g ps l m) e in let w = work_of m.inner v m i in omega arith

abbrev list_work : Value → ℕ
list_work v = size v + copied v

abbrev list_cost : Value → ℕ
list_cost v = 60 * size v + 8 * letters_in v

-- what is looked through and copied
lists_paid : (vs : List Value) → sum_by list_cost vs ≤ 60 * sum_by list_work vs
lists_paid [] = omega arith
lists_paid (v ∷ vs) =
    let k = lists_paid vs in
    let a = sum_by-cons list_cost v vs in
    let b = sum_by-cons list_work v vs in
    omega arith

module _ (g : Setting) (ps : List Print) (m : Mid) (block : ℕ) (into : Value) (term : Term) (ops : List Op) (x : Gathering) (xs : List Gathering) (here : m.gathered ≡ x ∷ xs) where
  abbrev m' : Mid
  m' = passed (record m { ops = ops; gathered = xs })

  list_is_paid : block_at g.code block ≡ op.TakeOut gathered.List term ∷ ops → taking_most into x.values m ≤ paid g ps (Resumes (Takes block into) m)
  list_is_paid e =
      let k = ap (λ (l : List Op). taking ps into l m) e in
      let q = ap (λ (gs : List Gathering). taking_newest ps gathered.List into gs (record m { ops = ops })) here in
      let l = lists_paid x.values in
      omega arith

  abbrev summed : Option ℕ → ℕ
  summed o = act_work (gives_number o into (registers_of m') (begun (registers_of m') (length x.values) (world_of ps m')))

  sum_is_paid : (n : ℕ) → block_at g.code block ≡ op.TakeOut gathered.Sum term ∷ ops → total x.values ≡ Some n → summing_most into x.values n m ≤ paid g ps (Resumes (Takes block into) m)
  sum_is_paid n e is =
      let k = ap (λ (l : List Op). taking ps into l m) e in
      let q = ap (λ (gs : List Gathering). taking_newest ps gathered.Sum into gs (record m { ops = ops })) here in
      let s = ap summed is in
      omega arith

  no_sum_is_paid : block_at g.code block ≡ op.TakeOut gathered.Sum term ∷ ops → total x.values ≡ None → adding_most x.values ≤ paid g ps (Resumes (Takes block into) m)
  no_sum_is_paid e is =
      let k = ap (λ (l : List Op). taking ps into l m) e in
      let q = ap (λ (gs : List Gathering). taking_newest ps gathered.Sum into gs (record m { ops = ops })) here in
      let s = ap summed is in
      omega arith

pub gatherings_are_paid : GatheringsArePaid
gatherings_are_paid = record {
  collect = λ g ps m a b alt ops e nodes. collect_is_paid g ps m a b alt ops e nodes;
  keep = λ g ps m a v ops e i. keep_is_paid g ps m a v ops e i;
  list = λ g ps m block into term ops x xs e here. list_is_paid g ps m block into term ops x xs here e;
  sum = λ g ps m block into term ops x xs n e here is. sum_is_paid g ps m block into term ops x xs here n e is;
  no_sum = λ g ps m block into term ops x xs e here is. no_sum_is_paid g ps m block into term ops x xs here e is;
}
