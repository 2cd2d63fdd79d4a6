use Rattle.std.proofs.Common.{refl}
use Rattle.dg_spacing.specs.Gaps.{print_of}
use Rattle.dg_spacing.proofs.GapLemmas.{stands_on, nothing_written, no_piece}
use Rattle.dg_spacing.proofs.spacer.Spacer.event.Goals as goal

pub returns : goal.returns
returns g c =
    let is = no_piece c.args.event c.in_default.not-Piece in
    record {
      stands = λ es h. stands_on c.args.self.now _ es (print_of c.args.event) is refl (λ ds k. c.gap_with-self.ensures ds is k) h;
      ok = λ es h. nothing_written es (print_of c.args.event) (g.K.Sink.view c.args.sink.now) is;
      err = tt;
    }
