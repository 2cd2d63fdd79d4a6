use Rattle.std.proofs.Common.{map, arith}
use Rattle.dg_base.specs.TreeView.{part_view}
use Rattle.std.proofs.lemmas.List.{length-map}
use Rattle.dg_reader.proofs.Keys.{lengths_differ}
use Rattle.dg_reader.proofs.keyword.are_named.Goals as goal

pub returns-then-parts-words : goal.returns-then-parts-words
returns-then-parts-words c = lengths_differ (map part_view c.args.parts.now) (map (λ w. w.now) c.args.words.now) (λ e. c.if-parts-words.true (grind (arith, length-map)))
