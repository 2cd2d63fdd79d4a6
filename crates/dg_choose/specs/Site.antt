-- What a site keeps of its picks. Hold it against docs/LANGUAGE.md, "Choosing".
use Rattle.std.specs.Prelude.{ℕ, ◌≡◌, ◌+◌, ◌%◌, List, min}
use Rattle.dg_base.specs.declared.program.Mode.{Mode}
use Rattle.dg_base.specs.declared.program.Mode.TheVariants.{Cycling}
use Rattle.dg_meaning.specs.Choosing.{die, Picks, picked, choice_by}
use Rattle.dg_choose.specs.declared.dice.Dice.{Dice}
use Rattle.dg_choose.specs.declared.site.Site.{Site}
use Rattle.dg_choose.specs.Dice.{HasDrawn}

-- How far a mode has gone through its k branches in n picks: in a circle, or to their end.
abbrev pub turn_of : Mode → ℕ → ℕ → ℕ
turn_of Cycling k n = n % k
turn_of mode k n = min n k

-- The picks that a site has counted.
abbrev pub picks_of : Site → Picks
picks_of site = record { count = site.count; last = site.last }

-- The site stands for these picks, under a mode and a number of branches.
pub record HasPicked (site : Site) (mode : Mode) (branches : ℕ) (picks : Picks) : Type 0 where
  pub turn : turn_of mode branches site.count ≡ turn_of mode branches picks.count
  pub last : site.last ≡ picks.last

-- A branch was picked after these picks, with n words drawn before: it is the one that is chosen, and the site and the dice stand behind it.
pub record Chose (mode : Mode) (branches : ℕ) (picks : Picks) (words : List ℕ) (n : ℕ) (result : ℕ) (site : Site) (dice : Dice) : Type 0 where
  pub branch : result ≡ (choice_by mode branches picks (die words n)).branch
  pub kept : HasPicked site mode branches (picked result picks)
  pub left : HasDrawn dice words (n + (choice_by mode branches picks (die words n)).drawn)
