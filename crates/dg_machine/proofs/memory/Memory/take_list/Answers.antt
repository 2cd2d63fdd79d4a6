use Rattle.std.proofs.Common.{◌∷◌, [], ◌-◌, ◌∙◌, ap}
use Rattle.dg_base.specs.declared.run.Ending.TheVariants.{TrailLimit}
use Rattle.dg_meaning.specs.Copies.{list_of, copy_from}
use Rattle.dg_meaning.specs.inside.Unify.{unify}
use Rattle.dg_unify.proofs.StoreLemmas.{holds_some, kept_holds}
use Rattle.dg_arena.specs.Held.{meaning_of}
use Rattle.dg_mid.specs.declared.code.Gathered.TheVariants.{List as InList}
use Rattle.dg_machine.specs.declared.now.Now.TheVariants.{Runs, Fails, Ended}
use Rattle.dg_machine.specs.Finding.{copied_in}
use Rattle.dg_machine.specs.Measure.{choices_left}
use Rattle.dg_machine.proofs.Unifying.{agreed_stands, clash_stands, unmatched_stands}
use Rattle.dg_machine.proofs.Takings.{takes_none}
use Rattle.dg_machine.proofs.Listings.{newest, rest_m, list_none, list_held, list_some}
use Rattle.dg_lasting.specs.Resting.{extent_of}
use Rattle.dg_machine.proofs.memory.Memory.take_list.Goals as goal

pub returns-in_default-clause-takes : goal.returns-in_default-clause-takes
returns-in_default-clause-takes c code block g l m v into at h refs w = takes_none code g l m InList into block c.args.self.now c.args.lasting.now c.in_default.ensures h w

pub meet-requires : goal.meet-requires
meet-requires c =
    let some = c.requires in
    let old = meaning_of c.args.self.now.arena in
    let new = meaning_of c.make_list.new.self.arena in
    (kept_holds old new c.arg-into.result c.make_list.ensures.kept (holds_some old c.arg-into.result some.1 (c.arg-into.ensures (some.0 ∷ some.1 ∷ []) some.2)), c.in-Ok.ensures.holds)

pub returns-in-Err-clause-takes : goal.returns-in-Err-clause-takes
returns-in-Err-clause-takes c code block g l m v into at h refs w =
    let r = c.args.self.now in
    let out = c.args.lasting.now in
    let cells = c.in-Some.cells.now in
    let x = newest code g l m r out cells c.in-Some.ensures h w in
    list_none code g l m r out cells c.in-Some.ensures h w block into c.make_list.new.self out (c.in-Err.ensures.made code l m x.newest.values h x.cells_are x.formed)

pub returns-in-Err-meet-clause-takes : goal.returns-in-Err-meet-clause-takes
returns-in-Err-meet-clause-takes c code block g l m v into at h refs w =
    let r = c.args.self.now in
    let out = c.args.lasting.now in
    let cells = c.in-Some.cells.now in
    let height = c.height-height.result.0 - 1 in
    let count = ap (λ n. n - 1) c.height-height.ensures in
    let x = newest code g l m r out cells c.in-Some.ensures h w in
    let made = c.in-Ok.ensures.made code l m x.newest.values h x.cells_are x.formed in
    let held = list_held code g l m r out cells c.in-Some.ensures h w c.close_to.new.self height count c.close_to.ensures c.make_list.new.self c.in-Ok.list made in
    let left = c.make_list.ensures.kept.values c.arg-into.result into (c.arg-into.ensures (v ∷ into ∷ []) refs) in
    let m1 = copied_in (list_of x.newest.values) (rest_m code g l m r out cells c.in-Some.ensures h w) in
    let copy = copy_from m.state.vars (list_of x.newest.values) in
    let new = c.meet.new.self in
    let found = c.in-Err-meet.ensures.met code l m1 into copy held left made.value in
    let same = ap (λ xs. choices_left xs.items) (c.in-Err-meet.ensures.choices ∙ c.in-Ok.ensures.choices) in
    list_some code g l m r out cells c.in-Some.ensures h w c.close_to.new.self height count c.close_to.ensures block into (record c.make_list.new.self { gathered = height }) new (Ended TrailLimit) held tt same
    (unmatched_stands code g l (unify m1.state.subst into copy) m1 new found)

pub returns-in-Ok-false-clause-takes : goal.returns-in-Ok-false-clause-takes
returns-in-Ok-false-clause-takes c code block g l m v into at h refs w =
    let r = c.args.self.now in
    let out = c.args.lasting.now in
    let cells = c.in-Some.cells.now in
    let height = c.height-height.result.0 - 1 in
    let count = ap (λ n. n - 1) c.height-height.ensures in
    let x = newest code g l m r out cells c.in-Some.ensures h w in
    let made = c.in-Ok.ensures.made code l m x.newest.values h x.cells_are x.formed in
    let held = list_held code g l m r out cells c.in-Some.ensures h w c.close_to.new.self height count c.close_to.ensures c.make_list.new.self c.in-Ok.list made in
    let left = c.make_list.ensures.kept.values c.arg-into.result into (c.arg-into.ensures (v ∷ into ∷ []) refs) in
    let m1 = copied_in (list_of x.newest.values) (rest_m code g l m r out cells c.in-Some.ensures h w) in
    let copy = copy_from m.state.vars (list_of x.newest.values) in
    let new = c.meet.new.self in
    let found = c.in-Ok-false.ensures.met code l m1 into copy held left made.value in
    let same = ap (λ xs. choices_left xs.items) (c.in-Ok-false.ensures.choices ∙ c.in-Ok.ensures.choices) in
    list_some code g l m r out cells c.in-Some.ensures h w c.close_to.new.self height count c.close_to.ensures block into (record c.make_list.new.self { gathered = height }) new Fails held tt same
    (clash_stands code g l (unify m1.state.subst into copy) m1 new c.in-Ok-false.field-0 c.in-Ok-false.field-0-test found)

pub returns-in-Ok-true-clause-takes : goal.returns-in-Ok-true-clause-takes
returns-in-Ok-true-clause-takes c code block g l m v into at h refs w =
    let r = c.args.self.now in
    let out = c.args.lasting.now in
    let cells = c.in-Some.cells.now in
    let height = c.height-height.result.0 - 1 in
    let count = ap (λ n. n - 1) c.height-height.ensures in
    let x = newest code g l m r out cells c.in-Some.ensures h w in
    let made = c.in-Ok.ensures.made code l m x.newest.values h x.cells_are x.formed in
    let held = list_held code g l m r out cells c.in-Some.ensures h w c.close_to.new.self height count c.close_to.ensures c.make_list.new.self c.in-Ok.list made in
    let left = c.make_list.ensures.kept.values c.arg-into.result into (c.arg-into.ensures (v ∷ into ∷ []) refs) in
    let m1 = copied_in (list_of x.newest.values) (rest_m code g l m r out cells c.in-Some.ensures h w) in
    let copy = copy_from m.state.vars (list_of x.newest.values) in
    let new = c.meet.new.self in
    let found = c.in-Ok-true.ensures.met code l m1 into copy held left made.value in
    let same = ap (λ xs. choices_left xs.items) (c.in-Ok-true.ensures.choices ∙ c.in-Ok.ensures.choices) in
    list_some code g l m r out cells c.in-Some.ensures h w c.close_to.new.self height count c.close_to.ensures block into (record c.make_list.new.self { gathered = height }) new (Runs c.args.rest) held tt same
    (agreed_stands code g l (unify m1.state.subst into copy) m1 new c.args.rest c.in-Ok-true.field-0 c.in-Ok-true.field-0-test at found)

pub returns-in-Err-meet-clause-extent : goal.returns-in-Err-meet-clause-extent
returns-in-Err-meet-clause-extent c = ap extent_of c.close_to.ensures.is

pub returns-in-Ok-false-clause-extent : goal.returns-in-Ok-false-clause-extent
returns-in-Ok-false-clause-extent c = ap extent_of c.close_to.ensures.is

pub returns-in-Ok-true-clause-extent : goal.returns-in-Ok-true-clause-extent
returns-in-Ok-true-clause-extent c = ap extent_of c.close_to.ensures.is
