-- A select, and the branch that it chooses.
use Rattle.std.specs.Prelude.{get_or}
use Rattle.std.proofs.Common.{◌≡◌, ℕ, zero, suc, ◌+◌, ◌≤◌, List, [], ◌∷◌, ◌++◌, refl, ap, subst, arith, length}
use Rattle.dg_base.specs.declared.program.Goal.{Goal}
use Rattle.dg_base.specs.declared.program.Goal.TheVariants as goal
use Rattle.dg_base.specs.declared.program.Goal.TheVariants.{outs-Select}
use Rattle.dg_base.specs.declared.program.Goal.TheOpen as form
use Rattle.dg_base.specs.declared.program.Mode.{Mode}
use Rattle.dg_base.specs.declared.run.Limits.{Limits}
use Rattle.dg_meaning.specs.Values.{Value}
use Rattle.dg_meaning.specs.Choosing.{Choice}
use Rattle.dg_meaning.specs.World.{Game, World, Print}
use Rattle.dg_meaning.specs.Path.{Step, Do}
use Rattle.dg_meaning.specs.Moves.{path_of, goals_at, selects as selecting, selected as picked}
use Rattle.dg_meaning.specs.Transcript.{Run}
use Rattle.dg_meaning.specs.inside.Keeps.{Stands as StandsIn}
use Rattle.dg_mid.specs.declared.code.Op.{Op}
use Rattle.dg_mid.specs.declared.code.Op.TheVariants as op
use Rattle.dg_mid.specs.declared.code.Code.{Code}
use Rattle.dg_mid.specs.Code.{block_at}
use Rattle.dg_mid.specs.State.{Mid, vars_of, cut_of}
use Rattle.dg_mid.specs.Actions.{world_of}
use Rattle.dg_mid.specs.Step.{Setting, setting, does, at_choice}
use Rattle.dg_mid.specs.Codes.{End, Stands, Branches, no_branch, a_branch}
use Rattle.dg_mid.specs.Reads.{Behind, Comes, GathersAt}
use Rattle.dg_mid.proofs.Here.{Here, steps_of}
use Rattle.dg_mid.proofs.Marks.{goes_on}
use Rattle.dg_mid.proofs.Taking.{behind, taken_in, comes}
use Rattle.dg_mid.proofs.Acts.{world_is}
use Rattle.dg_mid.proofs.Alike.{world_with}
use Rattle.dg_mid.proofs.Choices.{layered}

-- the block of a number stands for the branch of that number
pub branch_stands : (code : Code) (blocks : List ℕ) (lists : List (List Goal)) (other i : ℕ) (goals : List Goal) (end : End) → Branches code blocks lists goals end → Stands code (block_at code other) goals end → Stands code (block_at code (get_or blocks i other)) (get_or lists i [] ++ goals) end
branch_stands code blocks lists other i goals end (no_branch goals' end') s = s
branch_stands code blocks lists other zero goals end (a_branch b others list lists' goals' end' here more) s = here
branch_stands code blocks lists other (suc i) goals end (a_branch b others list lists' goals' end' here more) s = branch_stands code others lists' other i goals end more s

-- there are as many blocks as branches
as_many : (code : Code) (blocks : List ℕ) (lists : List (List Goal)) (goals : List Goal) (end : End) → Branches code blocks lists goals end → length lists ≡ length blocks
as_many code blocks lists goals end (no_branch goals' end') = refl
as_many code blocks lists goals end (a_branch b others list lists' goals' end' here more) = ap suc (as_many code others lists' goals end more)

module _ (code : Code) (limits : Limits) (m : Mid) (ops : List Op) (goals : List Goal) (end : End) (rest : List Step) (g : Game) (n : ℕ) (w : World) (run : Run) (below : Behind g code m.frames rest) (valued : GathersAt g end (vars_of m.frames) m.inner) where
  abbrev set : Setting
  set = setting g code limits

  abbrev vars : List Value
  vars = vars_of m.frames

  abbrev tag : ℕ
  tag = (cut_of m.frames).tag

  pub selects_so : {least : ℕ} → {ps : List Print} → (site : ℕ) (mode : Mode) (blocks : List ℕ) (lists : List (List Goal)) (other : ℕ) → Branches code blocks lists goals end → Stands code (block_at code other) goals end →
      Here code m ps (Do (goal.Select site mode lists) vars tag ∷ steps_of m goals end rest) g (suc n) w run → least ≤ w.meters.work + 1 → Comes least ps set (does set (op.Select site mode blocks other) (record m { ops = ops })) g n run
  selects_so {least = least} {ps = ps} site mode blocks lists other bs s h le =
      let i = h.mirrors in
      let steps = steps_of m goals end rest in
      let x = goal.Select site mode lists in
      let f = form.Select site mode lists in
      let q = behind code m ps steps g n w run x f (outs-Select site mode lists) h in
      let v = taken_in code m ps steps g n w run x f (outs-Select site mode lists) h in
      let v0 = world_with v.events m.gathered v.meters m.lasting.typed m.lasting.dice m.lasting.facts m.lasting.sites in
      let m' : Mid = record m { ops = ops } in
      let c : Choice = selecting g site mode (length blocks) (world_of [] m') in
      let st = subst (λ k. StandsIn g h.lives h.ways (path_of (goals_at vars tag (get_or lists (selecting g site mode k v0).branch []) ++ steps) q) n (picked site (selecting g site mode k v0) v0) run) (as_many code blocks lists goals end bs)
      (subst (λ y. StandsIn g h.lives h.ways (path_of (goals_at vars tag (get_or lists (selecting g site mode (length lists) y).branch []) ++ steps) q) n (picked site (selecting g site mode (length lists) y) y) run) (world_is v m.gathered m.lasting i.gathered_is i.lasting_is)
      (comes code m ps steps g n w run x f (outs-Select site mode lists) h)) in
      goes_on set (at_choice set c site blocks other m') (goals_at vars tag (get_or lists c.branch []) ++ steps) [] g n (picked site c v0) run
      (layered g code m.frames m.inner rest end below valued (block_at code (get_or blocks c.branch other)) (get_or lists c.branch []) goals (branch_stands code blocks lists other c.branch goals end bs s))
      (record {
        lives = h.lives;
        ways = h.ways;
        registers = q;
        mirrors = record {
          agrees = record { bound = i.agrees.bound; vars = i.agrees.vars; heap = omega (arith, i.agrees.heap); trail = i.agrees.trail; since = i.agrees.since };
          tag = i.tag;
          choices_are = i.choices_are;
          below = i.below;
          stops_are = i.stops_are;
          stop_is = i.stop_is;
          gathered_is = refl;
          lasting_is = refl;
          printed_is = i.printed_is;
        };
        stands = st;
      }) (omega (arith, le))
