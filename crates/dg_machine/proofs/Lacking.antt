-- What a run shows of whose program more starts kept than may be.
use Rattle.std.proofs.Common.{◌≡◌, ◌<◌, ℕ, inr, List, [], refl, sym, subst}
use Rattle.dg_base.specs.Streams.{SourceView}
use Rattle.dg_base.specs.Written.{SinkView, Wrote, BrokeOff}
use Rattle.dg_base.specs.declared.program.CoreProgram.{CoreProgram}
use Rattle.dg_base.specs.declared.run.Ending.TheVariants.{KeepLimit}
use Rattle.dg_base.specs.declared.run.Limits.{Limits}
use Rattle.dg_meaning.specs.Engines.{game, left_told, HasShown}
use Rattle.dg_meaning.specs.inside.Engines.{ForTyped}
use Rattle.dg_machine.specs.Program.{HasLostText, to_the_end}
use Rattle.dg_meaning.specs.Facts.{kinds_of, kept_size, start_facts}
use Rattle.dg_meaning.specs.Render.{render}
use Rattle.dg_meaning.specs.Transcript.{closed, line_of}
use Rattle.dg_meaning.proofs.Engines.{as_told, for_typed, start_shows}

-- before the first goal the line is the text
line_alone : closed [] (line_of KeepLimit) ≡ line_of KeepLimit
unfolding render
line_alone = refl

module _ (p : CoreProgram) (dice : List ℕ) (l : Limits) (over : l.keep < kept_size (kinds_of p) (start_facts p.places)) (i : SourceView) (k k' : SinkView) where
  pub lack_shown : Wrote k k' (line_of KeepLimit) → ForTyped i.left (λ typed. HasShown (game p dice) typed l (record { ending = KeepLimit; goals = 0 }) (left_told i i) k k')
  lack_shown wrote =
      for_typed i.left (λ typed. HasShown (game p dice) typed l (record { ending = KeepLimit; goals = 0 }) (left_told i i) k k') (λ typed is.
      record {
        bytes = closed [] (line_of KeepLimit);
        shows = inr (start_shows p l dice typed (left_told i i) (as_told i i typed is) over);
        wrote = subst (Wrote k k') (sym line_alone) wrote;
      })

  pub lack_lost : BrokeOff k k' (line_of KeepLimit) → ForTyped i.left (λ typed. HasLostText (game p dice) typed l i i k k')
  lack_lost broke =
      for_typed i.left (λ typed. HasLostText (game p dice) typed l i i k k') (λ typed is.
      record {
        bytes = closed [] (line_of KeepLimit);
        writing = to_the_end (record { ending = KeepLimit; goals = 0 }) (inr (start_shows p l dice typed (left_told i i) (as_told i i typed is) over));
        broke = subst (BrokeOff k k') (sym line_alone) broke;
      })
