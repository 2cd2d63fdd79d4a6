use Rattle.std.proofs.Common.{ℕ, ◌≤◌, map, refl, sym, ap, ◌∙◌, subst, arith, length, List}
use Rattle.std.proofs.lemmas.List.{take_all}
use Rattle.std.proofs.lemmas.Option.{slice_get_read}
use Rattle.dg_base.specs.declared.cells.Cell.{Cell}
use Rattle.dg_meaning.specs.Facts.{start_facts}
use Rattle.dg_world.specs.Lists.{joined}
use Rattle.dg_world.specs.Tables.{Table, outline_of, AreTables}
use Rattle.dg_world.specs.Starts.{starting_table, starting_cells}
use Rattle.dg_world.proofs.StartedLemmas.{next_fits, started}
use Rattle.dg_world.proofs.world.World.new.Goals as goal

pub push-requires-in-loop-place : goal.push-requires-in-loop-place
push-requires-in-loop-place c =
    let i = c.loop-place.place-index in
    let here = slice_get_read c.args.places.now _ i c.place-item.result refl c.loop-place-test.true c.place-item.is in
    let fits = next_fits c.args.places.now c.args.objects c.args.keep i c.place-item.result c.requires.starts c.requires.room here in
    omega (arith, fits, ap (λ l. length (joined l)) c.loop-place.invariant.lists, ap length (c.deref.ensures.value ∙ c.in_ok-cells.ensures), c.loop-place.invariant.keep)

pub returns : goal.returns
returns c =
    let places = c.args.places.now in
    let o = outline_of places c.args.objects c.args.keep in
    let inv = c.loop-place.invariant in
    let done : length places ≤ c.loop-place.place-index = omega arith in
    let all = take_all c.loop-place.place-index places done in
    let tables = inv.tables ∙ ap (map (starting_table c.args.objects)) all in
    let lists = inv.lists ∙ ap (map starting_cells) all in
    let start = started places c.args.objects c.args.keep c.requires.starts c.requires.room in
    let first = subst (λ (x : List Table). AreTables o (start_facts places) x (map starting_cells places) c.args.keep) (sym tables) start in
    let second = subst (λ (x : List (List Cell)). AreTables o (start_facts places) c.loop-place.tables.items x c.args.keep) (sym lists) first in
    subst (λ (x : ℕ). AreTables o (start_facts places) c.loop-place.tables.items c.loop-place.area.lists x) (sym inv.keep) second
