use Rattle.z_play.proofs.Lines.{print_cut}
use Rattle.z_play.proofs.Written.{broke_whole}
use Rattle.z_play.proofs.laws.fronts_are_written.Goals as goal

pub returns-clause-prints : goal.returns-clause-prints
returns-clause-prints c w s n left old new h = print_cut w s n left old new h

pub returns-clause-rests : goal.returns-clause-rests
returns-clause-rests c old new begins text h = broke_whole old new begins text h
