use Rattle.std.proofs.Common.{Some, length, option_map, sym, ap, ◌∙◌, subst}
use Rattle.dg_base.specs.declared.program.PlaceKind.{PlaceKind}
use Rattle.dg_meaning.specs.ValueCells.{cells_of}
use Rattle.dg_world.specs.Tables.{outline_of}
use Rattle.dg_story.specs.Kept.{kept_facts}
use Rattle.dg_story.specs.inside.Keeping.{kept_value, HoldsStart}
use Rattle.dg_story.proofs.kept.cells_kept.Goals as goal

pub returns-in-Global-Some : goal.returns-in-Global-Some
returns-in-Global-Some c =
    let p = c.args.program.now in
    let facts = kept_facts p in
    let holds = subst (λ w. HoldsStart w p) c.in-Global-Some.is-1 c.requires.holds in
    let is = c.requires.is ∙ ap (λ (k : PlaceKind). Some k) c.in-Global-Some.is-0 in
    c.kept.ensures (outline_of p.places (length p.objects) 500) facts holds is
    ∙ ap (λ (k : PlaceKind). option_map cells_of (kept_value facts c.args.place k)) (sym c.in-Global-Some.is-0)
