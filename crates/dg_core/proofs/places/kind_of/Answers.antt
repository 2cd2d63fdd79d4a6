use Rattle.std.proofs.Common.{◌∙◌, ap, sym}
use Rattle.dg_names.specs.State.{listed}
use Rattle.dg_core.specs.Places.{kind_by}
use Rattle.dg_core.proofs.PlaceLemmas.{kind_else}
use Rattle.dg_core.proofs.places.kind_of.Goals as goal

pub returns-else-has : goal.returns-else-has
returns-else-has c = c.kind_by.ensures ∙ ap kind_by c.values_named.ensures ∙ sym (kind_else (listed c.args.places.now.declared) c.args.name.now (sym c.eq.ensures ∙ c.if-eq.false) (sym c.has.ensures ∙ c.if-has.false))
