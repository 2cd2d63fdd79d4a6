use Rattle.dg_lasting.proofs.Beginning.{within_so, rests_at_first}
use Rattle.dg_lasting.proofs.resting.Resting.new.Goals as goal

pub returns : goal.returns
returns c p h =
    rests_at_first p c.args.limits.now c.args.places.now c.args.objects c.args.sites h (record { world = c.in_ok-world.world; start = c.in_ok-start.start; gathered = c.in_ok-gathered.gathered; sites = c.in_ok-sites.sites; row = c.in_ok-row.row })
    (within_so _ _ c.in_ok-within.within c.in_ok-within.ensures c.if-not-within.false) c.in_ok-world.ensures c.in_ok-start.ensures c.in_ok-gathered.ensures c.in_ok-sites.ensures c.in_ok-row.ensures
