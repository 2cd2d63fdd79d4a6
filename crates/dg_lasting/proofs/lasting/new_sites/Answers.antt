use Rattle.dg_lasting.proofs.Starting.{site_more}
use Rattle.dg_lasting.proofs.lasting.new_sites.Goals as goal

pub loop-preserved : goal.loop-preserved
loop-preserved c = site_more _ c.loop.sites.items c.push.new.self.items c.new.result c.in_ok-push.ensures.items c.loop.invariant c.new.ensures.none
