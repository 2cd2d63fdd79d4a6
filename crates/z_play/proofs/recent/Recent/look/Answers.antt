use Rattle.std.proofs.Common.{◌≤◌, ℕ, List, sym, arith}
use Rattle.z_model.specs.Table.{player_rows}
use Rattle.z_model.specs.declared.op.Found.{Found}
use Rattle.z_play.specs.inside.Recent.{Recalls}
use Rattle.z_play.proofs.CodeStays.{right_of}
use Rattle.z_play.proofs.recent.Recent.look.Goals as goal

-- no address has the last place
not_last : (base : ℕ) (bytes : List ℕ) (found : Found) → Recalls base bytes 4096 (record { at = 0; found = found })
not_last base bytes found there = cc

pub returns-then-pc-base-clause-recent : goal.returns-then-pc-base-clause-recent
returns-then-pc-base-clause-recent c = c.put.ensures.recent c.args.base c.args.bytes.now c.requires.recent (not_last c.args.base c.args.bytes.now c.in_ok-found.found)

pub returns-else-pc-base-clause-recent : goal.returns-else-pc-base-clause-recent
returns-else-pc-base-clause-recent c =
    let law = c.instructions_again.ensures player_rows c.args.bytes.now c.args.pc in
    let from : c.args.base ≤ c.args.pc = omega (arith, c.if-pc-base.false) in
    c.put-else-pc-base.ensures.recent c.args.base c.args.bytes.now c.requires.recent
    (λ _. right_of c.args.base c.args.bytes.now c.args.pc c.in_ok-found.found law c.type_inv.bytes from (sym c.in_ok-found.ensures.op) c.in_ok-found.ensures.within)
