use Rattle.dg_story.proofs.Agreeing.{agrees}
use Rattle.dg_story.proofs.Fitting.{suits, small}
use Rattle.dg_story.proofs.Begun.{starts_so}
use Rattle.dg_story.proofs.laws.stories_agree.Goals as goal

pub returns : goal.returns
returns c = λ program code written story is.
    let fit = suits c.stories_fit.ensures c.codes_suit.ensures c.routines_fit.ensures program code written in
    agrees c.code_runs_as_searched.ensures c.code_costs_its_work.ensures.cost c.code_costs_its_work.ensures.looks c.code_moves_on.ensures c.heights_order_places.ensures
    c.trails_order_places.ensures c.calls_cut_where_they_go_on.ensures c.calls_fit_their_rules.ensures c.runs_meet_no_step_limit.ensures c.code_fits.ensures
    c.blocks_stand.ensures c.sites_suit.ensures program (starts_so program written.sound written.fits) code written fit.fits (c.goals_suit.ensures.blocks program code written.sound written.codes written.light)
    (c.goals_suit.ensures.bodies program code written.sound written.codes) fit.keyed_few
    (small c.stories_fit.ensures c.codes_suit.ensures c.routines_fit.ensures program code written) story is
