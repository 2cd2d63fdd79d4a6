use Rattle.dg_rt.proofs.Flags as flags
use Rattle.dg_rt.proofs.Tables as tables
use Rattle.dg_rt.proofs.laws.world_works.Goals as goal

pub returns : goal.returns
returns c = record {
  value = tables.value_works;
  set = tables.set_works;
  clear = tables.clear_works;
  clear_all = tables.clear_all_works;
  flag = flags.flag_works;
  set_flag = flags.set_flag_works;
  clear_flags = flags.clear_flags_works;
}
