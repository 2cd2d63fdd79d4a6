-- What a spacer keeps of the things that were printed. Hold it against the Dialog manual, chapter "Output", on automatic spacing.
use Rattle.std.specs.Prelude.{◌≡◌, List}
use Rattle.dg_meaning.specs.World.{Print}
use Rattle.dg_meaning.specs.Render.{nothing_met, met_from}
use Rattle.dg_spacing.specs.Gaps.{IsGap}
use Rattle.dg_spacing.specs.declared.spacer.Spacer.{Spacer}

-- It keeps what the next piece meets behind these things: the last character that was printed, and what the gap since comes to.
pub record StandsFor (s : Spacer) (es : List Print) : Type 0 where
  pub last : s.last ≡ (met_from nothing_met es).last
  pub gap : IsGap s.gap (met_from nothing_met es).gap
