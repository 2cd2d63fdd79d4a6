use Rattle.std.proofs.Common.{refl}
use Rattle.dg_choose.proofs.site.pick.Goals as goal

pub returns-clause-chose : goal.returns-clause-chose
returns-clause-chose c picks words n site dice = record {
  branch = c.choose-branch.ensures.branch picks words n site dice;
  kept = record { turn = c.one_more-site.ensures.turned _ picks.count site.turn; last = refl };
  left = c.choose-branch.ensures.drawn picks words n site dice;
}
