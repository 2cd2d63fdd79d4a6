use Rattle.std.proofs.Common.{sym, ◌∙◌, length, eq-eqb}
use Rattle.std.proofs.lemmas.Bool.{eqb-true, false≢true}
use Rattle.dg_meaning.specs.Facts.{value_at}
use Rattle.dg_world.proofs.ChangeLemmas.{kept_cells, none_kept, some_kept}
use Rattle.dg_world.proofs.world.World.kept.Goals as goal

pub returns-then-is_empty : goal.returns-then-is_empty
returns-then-is_empty c o facts st is =
    none_kept (value_at facts c.args.place 0) c.get-cells.result.now (c.get-cells.ensures ∙ kept_cells o facts c.args.self.now c.args.place st is) (eqb-true (length c.get-cells.result.now) 0 (sym c.is_empty.ensures ∙ c.if-is_empty.true))

pub returns-else-is_empty : goal.returns-else-is_empty
returns-else-is_empty c o facts st is =
    some_kept (value_at facts c.args.place 0) c.get-cells.result.now (c.get-cells.ensures ∙ kept_cells o facts c.args.self.now c.args.place st is)
    (λ z. false≢true (sym c.if-is_empty.false ∙ c.is_empty.ensures ∙ eq-eqb (length c.get-cells.result.now) 0 z))
