-- What turns of gatherings cost is within what code is paid for. Hold it against dg_mid/specs/Units.antt.
use Rattle.std.specs.Prelude.{◌≡◌, ℕ, ◌+◌, ◌≤◌, List, [], ◌∷◌, Some, None}
use Rattle.dg_base.specs.declared.program.Term.{Term}
use Rattle.dg_meaning.specs.Cells.{nodes_of}
use Rattle.dg_meaning.specs.Numbers.{total}
use Rattle.dg_meaning.specs.Values.{Value}
use Rattle.dg_meaning.specs.World.{Print, Gathering}
use Rattle.dg_mid.specs.declared.code.Gathered.TheVariants as gathered
use Rattle.dg_mid.specs.declared.code.Op.{Op}
use Rattle.dg_mid.specs.declared.code.Op.TheVariants as op
use Rattle.dg_mid.specs.Code.{block_at}
use Rattle.dg_mid.specs.State.{Takes, Mid, Runs, Resumes}
use Rattle.dg_mid.specs.Step.{Setting}
use Rattle.dg_rt.specs.Gatherings.{keep_most}
use Rattle.dg_turn.specs.Terms.{AreNodes, written_in}
use Rattle.dg_turn.specs.Gatherings.{gathered_by, taking_most, adding_most, summing_most}
use Rattle.dg_turn.specs.Paid.{paid}

-- The costs of a gathering that is opened, of a value that is gathered, and of a gathering that is taken out as a list or as a sum, are paid for.
pub record GatheringsArePaid : Type 0 where
  pub collect : (g : Setting) (ps : List Print) (m : Mid) (a b : Term) (alt : ℕ) (ops : List Op) → m.ops ≡ op.Collect a b alt ∷ ops →
      AreNodes g.game.program (nodes_of (a ∷ b ∷ [])) → written_in g.game.program (a ∷ b ∷ []) + 60 ≤ paid g ps (Runs m)
  pub keep : (g : Setting) (ps : List Print) (m : Mid) (a : Term) (v : Value) (ops : List Op) → m.ops ≡ op.Keep a ∷ ops →
      gathered_by m.inner ≡ Some v → keep_most m.state.subst m.state.vars v + 2 ≤ paid g ps (Runs m)
  pub list : (g : Setting) (ps : List Print) (m : Mid) (block : ℕ) (into : Value) (term : Term) (ops : List Op) (x : Gathering) (xs : List Gathering) →
      block_at g.code block ≡ op.TakeOut gathered.List term ∷ ops → m.gathered ≡ x ∷ xs →
      taking_most into x.values m ≤ paid g ps (Resumes (Takes block into) m)
  pub sum : (g : Setting) (ps : List Print) (m : Mid) (block : ℕ) (into : Value) (term : Term) (ops : List Op) (x : Gathering) (xs : List Gathering)
      (n : ℕ) → block_at g.code block ≡ op.TakeOut gathered.Sum term ∷ ops → m.gathered ≡ x ∷ xs → total x.values ≡ Some n →
      summing_most into x.values n m ≤ paid g ps (Resumes (Takes block into) m)
  pub no_sum : (g : Setting) (ps : List Print) (m : Mid) (block : ℕ) (into : Value) (term : Term) (ops : List Op) (x : Gathering)
      (xs : List Gathering) → block_at g.code block ≡ op.TakeOut gathered.Sum term ∷ ops → m.gathered ≡ x ∷ xs → total x.values ≡ None →
      adding_most x.values ≤ paid g ps (Resumes (Takes block into) m)
