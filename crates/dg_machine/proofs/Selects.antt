-- What a select comes to, and how often sites may pick.
use Rattle.std.proofs.Common.{◌≡◌, ℕ, ◌+◌, List, [], length, map, get_or, sym, ap, ◌∙◌, subst, arith}
use Rattle.std.specs.Borrow.{Bor}
use Rattle.std.specs.declared.vec.Vec.{Vec}
use Rattle.std.specs.declared.alloc.Global.{Global}
use Rattle.dg_base.specs.declared.program.Mode.{Mode}
use Rattle.dg_base.specs.declared.run.Limits.{Limits}
use Rattle.dg_choose.specs.Site.{picks_of}
use Rattle.dg_choose.specs.declared.site.Site.{Site}
use Rattle.dg_meaning.specs.Moves.{selects}
use Rattle.dg_meaning.specs.World.{Game}
use Rattle.dg_mid.specs.declared.code.Op.{Op}
use Rattle.dg_mid.specs.declared.code.Code.{Code}
use Rattle.dg_mid.specs.Actions.{world_of}
use Rattle.dg_mid.specs.Code.{block_at}
use Rattle.dg_mid.specs.State.{Mid, Runs as RunsOf}
use Rattle.dg_mid.specs.Step.{setting, at_choice}
use Rattle.dg_lasting.specs.Lasting.{MayPick, PicksOne, picks_in}
use Rattle.dg_lasting.proofs.Picks.{may_fewer}
use Rattle.dg_lasting.specs.declared.lasting.Lasting.{Lasting}
use Rattle.dg_world.specs.declared.world.World.{World as FactsWorld}
use Rattle.dg_lists.specs.Gathered.{Gathered}
use Rattle.dg_machine.specs.Built.{OpsBuilt, IsBuilt}
use Rattle.dg_machine.specs.declared.memory.Memory.{Memory}
use Rattle.dg_machine.specs.declared.now.Now.TheVariants.{Runs}
use Rattle.dg_machine.specs.Layout.{Holds}
use Rattle.dg_machine.specs.Standing.{Around, StandsWith, PicksOnce}

-- where no site has picked, each may pick as often
pub may_on : (times : ℕ) (old new : Lasting) → new.sites ≡ old.sites → MayPick times (picks_in old) → MayPick times (picks_in new)
may_on times old new same may = subst (MayPick times) (ap (λ (s : Vec Site Global). map picks_of s.items) (sym same)) may

-- and once less
pub keeps_sites : (old new : Lasting) → new.sites ≡ old.sites → PicksOnce old new
keeps_sites old new same times may = may_on times old new same (may_fewer times (times + 1) (picks_in old) (omega arith) may)

-- it goes on at the block of the branch that was picked
pub picked_stands : (code : Code) (g : Game) (l : Limits) (m : Mid) (r : Memory) (out out' : Lasting) (site : ℕ) (mode : Mode) (blocks : List ℕ) (behind branch : ℕ) (ops : Bor (List Op)) → IsBuilt code → PicksOne site mode (length blocks) branch out out' → ops.now ≡ block_at code (get_or blocks branch behind) → Holds code l r m → Around out g l m →
    StandsWith code g l r (Runs ops) out' (RunsOf (at_choice (setting g code l) (selects g site mode (length blocks) (world_of [] m)) site blocks behind m))
picked_stands code g l m r out out' site mode blocks behind branch ops built one is h w = record {
  stands = ((sym (is ∙ ap (λ b. block_at code (get_or blocks b behind)) (one.chosen g (world_of [] m) w.0)), subst OpsBuilt (sym is) (built.blocks (get_or blocks branch behind))), h);
  lasting = (one.stands g (world_of [] m) w.0, ap (λ (x : FactsWorld). x.area.keep) one.world ∙ w.1, ap (λ (x : Gathered). x.aux) one.gathered ∙ w.2);
}
