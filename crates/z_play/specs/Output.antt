-- A text that broke off behind its beginning.
use Rattle.std.specs.Prelude.{◌≡◌, ℕ, List, ◌++◌}
use Rattle.dg_base.specs.Written.{SinkView, Wrote, BrokeOff}

-- The sink took the beginning of a text whole, and failed in the rest.
pub record BrokeBehind (old new : SinkView) (begins text : List ℕ) : Type 0 where
  pub mid : SinkView
  pub rest : List ℕ
  pub is : text ≡ begins ++ rest
  pub wrote : Wrote old mid begins
  pub broke : BrokeOff mid new rest
