use Rattle.std.proofs.Common.{List, ℕ, subst}
use Rattle.z_list.specs.inside.Read.{Stands}
use Rattle.z_list.proofs.Bad.{stuck_is_bad, whole_is_listing}
use Rattle.z_list.proofs.lines_decide.Goals as goal

pub returns : goal.returns
returns c = λ count text ls w at left rest s. record {
  whole = λ none outside no_left. whole_is_listing count text ls w at
      (subst (λ (r : List ℕ). Stands count text ls w at 0 r) none (subst (λ (n : ℕ). Stands count text ls w at n rest) no_left s)) outside;
  bad = stuck_is_bad count text ls w at left rest s;
}
