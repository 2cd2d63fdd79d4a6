use Rattle.std.proofs.Common.{List, ◌++◌, ℕ, sym, ap, ◌∙◌}
use Rattle.std.specs.Option.{option_copied}
use Rattle.dg_story.specs.Built.{word_bytes}
use Rattle.dg_story.specs.Kept.{kept_facts}
use Rattle.dg_story.specs.inside.Keeping.{kept_value}
use Rattle.dg_story.proofs.KeptBytes.{some_kept, some_owner, some_words}
use Rattle.dg_story.proofs.kept.Kept.add.Goals as goal

pub put_cells-requires : goal.put_cells-requires
put_cells-requires c = some_words c.args.program.now c.requires.words c.args.place c.args.kind c.requires.is c.in-Some.cells.now (option_copied c.cells_kept.result) (ap option_copied c.in-Some.is) c.cells_kept.ensures

pub returns-clause-words : goal.returns-clause-words
returns-clause-words c =
    let s = kept_value (kept_facts c.args.program.now) c.args.place c.args.kind in
    let e = some_kept s c.args.entry c.in-Some.cells.now (option_copied c.cells_kept.result) (ap option_copied c.in-Some.is) c.cells_kept.ensures in
    c.in_ok-put_cells.ensures ∙ ap (λ (l : List ℕ). c.args.self.now.words ++ word_bytes l) (sym e)

pub returns-clause-owners : goal.returns-clause-owners
returns-clause-owners c =
    let s = kept_value (kept_facts c.args.program.now) c.args.place c.args.kind in
    let e = some_owner s c.args.entry c.in-Some.cells.now (option_copied c.cells_kept.result) (ap option_copied c.in-Some.is) c.cells_kept.ensures in
    c.in_ok-put_owner.ensures ∙ ap (λ (l : List ℕ). c.args.self.now.owners ++ word_bytes l) (sym e)
