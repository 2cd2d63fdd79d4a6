use Rattle.std.proofs.Common.{◌≡◌}
use Rattle.dg_open.specs.declared.frames.Asking.TheVariants.{ForOne}
use Rattle.dg_reader.proofs.close.keyword_asked.Goals as goal

pub returns-in-ForOne : goal.returns-in-ForOne
returns-in-ForOne c =
    let one : c.args.asking ≡ ForOne = cc in
    rw one c.put_keyword.ensures
