-- That the code of a sound program suits. Hold it against dg_mid/specs/Codes.antt.
use Rattle.std.specs.Prelude.{ℕ}
use Rattle.dg_base.specs.declared.program.CoreProgram.{CoreProgram}
use Rattle.dg_base.specs.Sound.{IsSound}
use Rattle.dg_mid.specs.declared.code.Code.{Code}
use Rattle.dg_mid.specs.Codes.{Codes}
use Rattle.dg_mid.specs.Weights.{Weights, IsLight}
use Rattle.dg_turn.specs.Sites.{sites_of, AreSites}
use Rattle.dg_laid.specs.Laid.{BlockSuits, BodiesAreFew}

-- Code that stands for a sound program and takes no more room than its goals have suits, block by block.
abbrev pub GoalsSuit : Type 0
GoalsSuit = (program : CoreProgram) (code : Code) → IsSound program → Codes program code → ((w : Weights) → IsLight w program code) → (b : ℕ) →
    BlockSuits code b

-- Its selects are those of the program.
abbrev pub SitesSuit : Type 0
SitesSuit = (program : CoreProgram) (code : Code) → IsSound program → ((w : Weights) → IsLight w program code) → AreSites program (sites_of code.blocks)

-- The bodies of its closures have few variables.
abbrev pub BodiesSuit : Type 0
BodiesSuit = (program : CoreProgram) (code : Code) → IsSound program → Codes program code → BodiesAreFew code.closures
