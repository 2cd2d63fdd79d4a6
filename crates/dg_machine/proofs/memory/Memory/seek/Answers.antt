use Rattle.std.proofs.Common.{◌≡◌, Some, sym, ap, ◌∙◌}
use Rattle.std.specs.Prelude.{slice_get}
use Rattle.dg_base.specs.declared.program.PlaceKind.TheVariants.{Flag, Global}
use Rattle.dg_machine.specs.declared.now.Now.TheVariants.{Fails}
use Rattle.dg_machine.proofs.Answered.{seeks_all, asks_nowhere, asks_set, asks_clear, asks_global, asks_objects}
use Rattle.dg_machine.proofs.memory.Memory.seek.Goals as goal

pub returns-in_default : goal.returns-in_default
returns-in_default c code = seeks_all c.args.tables.now code c.args.lasting.now c.args.self.now c.seek_objects.new.self c.seek_objects.result c.args.search c.args.rest.now c.in_default.is (c.seek_objects.ensures code)

pub returns-then-holds : goal.returns-then-holds
returns-then-holds c code g is_of l m vs at h refs w =
    let r = c.args.self.now in
    let t = c.args.tables.now in
    let k = c.in-Some-kind_of in
    let place = c.in-Some.place in
    let kind : Some Flag ≡ slice_get t.kinds.items place = ap Some (sym c.in-Flag.is) ∙ k.ensures in
    asks_set t code c.args.lasting.now r r Fails c.args.search c.args.rest.now place c.in-Some.is g is_of l m vs c.args.rest c.holds.result c.if-holds.true kind c.holds.ensures.flag at h w

pub returns-else-holds : goal.returns-else-holds
returns-else-holds c code g is_of l m vs at h refs w =
    let r = c.args.self.now in
    let t = c.args.tables.now in
    let k = c.in-Some-kind_of in
    let place = c.in-Some.place in
    let kind : Some Flag ≡ slice_get t.kinds.items place = ap Some (sym c.in-Flag.is) ∙ k.ensures in
    asks_clear t code c.args.lasting.now r r Fails c.args.search c.args.rest.now place c.in-Some.is g is_of l m vs c.holds.result c.if-holds.false kind c.holds.ensures.flag h w

pub returns-in_default-kind_of : goal.returns-in_default-kind_of
returns-in_default-kind_of c code g is_of l m vs at h refs w =
    let r = c.args.self.now in
    asks_nowhere c.args.tables.now code c.args.lasting.now r r Fails c.args.search c.args.rest.now c.in-Some.place c.in-Some.is g is_of l m vs c.in_default-kind_of.ensures h

pub returns-in-Global : goal.returns-in-Global
returns-in-Global c code g is_of l m vs at h refs w =
    let t = c.args.tables.now in
    let k = c.in-Some-kind_of in
    let place = c.in-Some.place in
    let kind : Some Global ≡ slice_get t.kinds.items place = ap Some (sym c.in-Global.is) ∙ k.ensures in
    asks_global t code c.args.lasting.now c.args.self.now c.read_global.new.self c.read_global.result c.args.search c.args.rest.now place c.in-Some.is g is_of l m vs (c.read_global.ensures code) kind at h refs w

pub returns-in_default-kind : goal.returns-in_default-kind
returns-in_default-kind c code g is_of l m vs at h refs w =
    let t = c.args.tables.now in
    let k = c.in-Some-kind_of in
    let d = c.in_default-kind in
    asks_objects t code c.args.lasting.now c.args.self.now c.seek_objects-in_default-kind.new.self c.seek_objects-in_default-kind.result c.args.search c.args.rest.now c.in-Some.place c.in-Some.is g is_of l m vs k.kind d.not-Flag d.not-Global (c.seek_objects-in_default-kind.ensures code) k.ensures at h refs w
