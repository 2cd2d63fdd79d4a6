use Rattle.std.proofs.Common.{refl, sym, ◌∙◌, arith}
use Rattle.std.proofs.lemmas.Bool.{le-ltb}
use Rattle.z_model.specs.Decode.{count_in_row}
use Rattle.z_code.proofs.decoding.count_operands.Goals as goal

pub returns : goal.returns
unfolding count_in_row
returns c = rw (sym c.count_types.ensures ∙ c.in_ok-count.was, le-ltb c.in_ok-count.count c.args.row.fewest (omega arith), le-ltb c.args.row.most c.in_ok-count.count (omega arith)) refl
