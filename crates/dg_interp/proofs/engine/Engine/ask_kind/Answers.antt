use Rattle.std.proofs.Common.{List, Bool, Some, refl, ap, ◌∙◌}
use Rattle.std.specs.Prelude.{is_some}
use Rattle.dg_meaning.specs.Facts.{Fact, value_at}
use Rattle.dg_meaning.specs.Path.{Tests}
use Rattle.dg_interp.specs.inside.Giving.{ActsAt}
use Rattle.dg_interp.specs.inside.Finding.{made_values, AsksPlaceAt, AsksObjectsAt, ReadsAt}
use Rattle.dg_interp.specs.inside.Engine.{Point, store_in, FailsAt}
use Rattle.dg_interp.proofs.Places.{leads_on, limits_here}
use Rattle.dg_interp.proofs.Giving.{branches_made}
use Rattle.dg_interp.proofs.Branches.{went_on_from, full_made, back_made}
use Rattle.dg_interp.proofs.Findings.{flag_each, asks_flag, asks_global, asks_of_objects, test_on, test_not}
use Rattle.dg_interp.proofs.engine.Engine.ask_kind.Goals as goal

pub returns-in-Global-clause-asked : goal.returns-in-Global-clause-asked
returns-in-Global-clause-asked c =
    let old = c.args.self.now in
    branches_made (AsksPlaceAt c.args.place c.args.many old) (ReadsAt (λ facts. value_at facts c.args.place 0) (made_values old) old) old old c.read_global.new.self refl (limits_here old) (asks_global c.args.place c.args.many old (c.requires.kind ∙ ap Some c.in-Global.is)) c.read_global.result c.read_global.ensures.read

pub returns-in-Global-clause-full : goal.returns-in-Global-clause-full
returns-in-Global-clause-full c =
    let old = c.args.self.now in
    full_made (AsksPlaceAt c.args.place c.args.many old) (ReadsAt (λ facts. value_at facts c.args.place 0) (made_values old) old) (store_in old.store) (store_in old.store) c.read_global.result refl refl (asks_global c.args.place c.args.many old (c.requires.kind ∙ ap Some c.in-Global.is)) c.read_global.ensures.full

pub returns-in_default-clause-asked : goal.returns-in_default-clause-asked
returns-in_default-clause-asked c =
    let old = c.args.self.now in
    branches_made (AsksPlaceAt c.args.place c.args.many old) (AsksObjectsAt (Some c.args.place) c.args.many old) old old c.ask_objects.new.self refl (limits_here old) (asks_of_objects c.args.place c.args.many old c.args.kind c.in_default.not-Flag c.in_default.not-Global c.requires.kind) c.ask_objects.result c.ask_objects.ensures.asked

pub returns-in_default-clause-full : goal.returns-in_default-clause-full
returns-in_default-clause-full c =
    let old = c.args.self.now in
    full_made (AsksPlaceAt c.args.place c.args.many old) (AsksObjectsAt (Some c.args.place) c.args.many old) (store_in old.store) (store_in old.store) c.ask_objects.result refl refl (asks_of_objects c.args.place c.args.many old c.args.kind c.in_default.not-Flag c.in_default.not-Global c.requires.kind) c.ask_objects.ensures.full

pub returns-then-holds-clause-asked : goal.returns-then-holds-clause-asked
returns-then-holds-clause-asked c =
    let old = c.args.self.now in
    let flag = c.requires.kind ∙ ap Some c.in-Flag.is in
    let test : List Fact → Bool = λ facts. is_some (value_at facts c.args.place 0) in
    let asked : Point = ActsAt (λ r w. Tests (test w.facts) w) old in
    went_on_from (AsksPlaceAt c.args.place c.args.many old) asked old old old refl (limits_here old) (asks_flag c.args.place c.args.many old flag)
    (test_on test old c.requires.ready (λ g w same world. flag_each c.args.place old c.holds.result c.holds.ensures.flag flag g w same world ∙ c.if-holds.true))

pub returns-else-holds-clause-asked : goal.returns-else-holds-clause-asked
returns-else-holds-clause-asked c =
    let old = c.args.self.now in
    let flag = c.requires.kind ∙ ap Some c.in-Flag.is in
    let test : List Fact → Bool = λ facts. is_some (value_at facts c.args.place 0) in
    let asked : Point = ActsAt (λ r w. Tests (test w.facts) w) old in
    back_made (AsksPlaceAt c.args.place c.args.many old) (FailsAt old) old old c.back.new.self refl (limits_here old) (leads_on (AsksPlaceAt c.args.place c.args.many old) asked (FailsAt old) (asks_flag c.args.place c.args.many old flag) (test_not test old (λ g w same world. flag_each c.args.place old c.holds.result c.holds.ensures.flag flag g w same world ∙ c.if-holds.false))) c.back.result c.back.ensures.back

pub returns-else-holds-clause-full : goal.returns-else-holds-clause-full
returns-else-holds-clause-full c =
    let old = c.args.self.now in
    let flag = c.requires.kind ∙ ap Some c.in-Flag.is in
    let test : List Fact → Bool = λ facts. is_some (value_at facts c.args.place 0) in
    let asked : Point = ActsAt (λ r w. Tests (test w.facts) w) old in
    full_made (AsksPlaceAt c.args.place c.args.many old) (FailsAt old) (store_in old.store) (store_in old.store) c.back.result refl refl (leads_on (AsksPlaceAt c.args.place c.args.many old) asked (FailsAt old) (asks_flag c.args.place c.args.many old flag) (test_not test old (λ g w same world. flag_each c.args.place old c.holds.result c.holds.ensures.flag flag g w same world ∙ c.if-holds.false))) c.back.ensures.full
