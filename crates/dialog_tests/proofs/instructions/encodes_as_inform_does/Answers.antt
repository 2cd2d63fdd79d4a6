use Rattle.std.proofs.Common.{true, false, refl, lit<}
use Rattle.z_model.specs.declared.table.Instr.TheVariants as instrs
use Rattle.z_model.specs.declared.table.Two.TheVariants as two
use Rattle.z_model.specs.Decode.{count_in_row, operand_count}
use Rattle.dialog_tests.proofs.instructions.encodes_as_inform_does.Goals as goal

pub encode_op-requires : goal.encode_op-requires
unfolding count_in_row operand_count
encode_op-requires g c = record {
  row = record { instr = instrs.Two two.Add; fewest = 2; most = 2; store = true; branch = false; text = false };
  is = record {
    known = refl;
    form = (lit< tt, tt, tt, refl, refl);
    count = refl;
    first = lit< tt;
    second = lit< tt;
    third = refl;
    fourth = refl;
    store = lit< tt;
    branch = tt;
  };
  text = refl;
}
