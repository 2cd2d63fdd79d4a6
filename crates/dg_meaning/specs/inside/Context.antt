-- What stands around a search, and what of it an engine has to keep. Hold it against the Dialog manual, chapter "Choice points".
use Rattle.std.specs.Prelude.{ℕ, ◌<◌, ◌≤◌, ◌≡◌, ◌⊎◌, nat_lt, eqb, List, [], ◌∷◌, Option, Some, None, Bool, true, false, length, drop, if◌then◌else◌}
use Rattle.dg_meaning.specs.World.{World, Gathering}
use Rattle.dg_meaning.specs.Path.{Step, Do, Answers, Cut, Refuse, Back, Keep, Leave, Path, Result, Branch, Enter, Clash, TakeOut, Finds, ChoiceKind, Plain, Rules, Shield, Gathers}
use Rattle.dg_meaning.specs.Moves.{path_at}
use Rattle.dg_meaning.specs.Search.{Search, answer, cut_result, later, after_branch, branches_cut, choose}
use Rattle.dg_meaning.specs.Transcript.{Run, run_of}
use Rattle.dg_meaning.specs.Unify.{top}
use Rattle.dg_meaning.specs.inside.Bindings.{top_of_values, IsBound}

-- ## Around a search

-- A search is in a branch of the choice t with these others behind it, or behind a mark that cuts to t.
pub data Around : Type 0 where
  InBranch : (kind : ChoiceKind) → (tag : ℕ) → (others : List Branch) → Around
  InCut : (tag : ℕ) → Around

-- What the run comes to, where a search with this around it, the innermost first, gives a result.
abbrev pub unwind : Search → List Around → ℕ → World → Result → Run
unwind s [] n w r = run_of (answer n w r)
unwind s (InBranch k t others ∷ ctx) n w r =
    let a = after_branch k t n w r (choose s (later k) t others) (λ c. choose s (later k) t (branches_cut t c others)) in
    unwind s ctx a.left a.world a.result
unwind s (InCut t ∷ ctx) n w r = unwind s ctx n w (cut_result t r)

-- The tags of the gatherings that are open there, the newest first.
abbrev pub gathers : List Around → List ℕ
gathers [] = []
gathers (InBranch Gathers t others ∷ ctx) = t ∷ gathers ctx
gathers (InBranch k t others ∷ ctx) = gathers ctx
gathers (InCut t ∷ ctx) = gathers ctx

-- The tags of gatherings.
abbrev pub tags_of : List Gathering → List ℕ
tags_of [] = []
tags_of (g ∷ gs) = g.tag ∷ tags_of gs

-- The gatherings that are open in the world are those around the search.
abbrev pub Opens : World → List Around → Type 0
Opens w ctx = tags_of w.gathered ≡ gathers ctx

-- ## What an engine keeps

-- Where it goes on behind a stoppable part: its tag, the branches behind the part, and how many gatherings are open outside it.
pub record Way : Type 0 where
  pub tag : ℕ
  pub others : List Branch
  pub height : ℕ

-- The ways on behind the stoppable parts that it is in, the innermost first.
abbrev pub ways : List Around → List Way
ways [] = []
ways (InBranch Shield t others ∷ ctx) = record { tag = t; others = others; height = length (gathers ctx) } ∷ ways ctx
ways (InBranch k t others ∷ ctx) = ways ctx
ways (InCut t ∷ ctx) = ways ctx

-- A choice that was not cut: its kind, its tag, the branches that were not begun, how many gatherings are open in it, and the ways on behind the
-- stoppable parts around it.
pub record Live : Type 0 where
  pub kind : ChoiceKind
  pub tag : ℕ
  pub others : List Branch
  pub height : ℕ
  pub ways_on : List Way

-- The choices that a cut to t leaves are those older than t.
abbrev pub cut_to : ℕ → List Live → List Live
cut_to t [] = []
cut_to t (c ∷ cs) = if nat_lt c.tag t then c ∷ cs else cut_to t cs

-- A choice between rules is kept as long as it is around, since it is told where it fails; any other as long as it has a branch that was not begun.
abbrev pub stays : ChoiceKind → List Branch → Bool
stays (Rules q) others = true
stays k [] = false
stays k (b ∷ bs) = true

-- Choices with one more in front, where it is kept.
abbrev pub pushed : Live → List Live → List Live
pushed c cs = if stays c.kind c.others then c ∷ cs else cs

-- The choices that were not cut and are kept, the newest first.
abbrev pub live : List Around → List Live
live [] = []
live (InBranch k t others ∷ ctx) = pushed (record { kind = later k; tag = t; others = others; height = length (gathers ctx); ways_on = ways ctx }) (live ctx)
live (InCut t ∷ ctx) = cut_to t (live ctx)

-- The way on of t, and the ways outside it.
abbrev pub way_to : ℕ → List Way → Option (Way × List Way)
way_to t [] = None
way_to t (x ∷ xs) = if eqb x.tag t then Some (x, xs) else way_to t xs

-- ## Tags

-- The choice t is around.
abbrev pub Holds : List Around → ℕ → Type 0
Holds [] t = ⊥
Holds (InBranch k u others ∷ ctx) t = (t ≡ u) ⊎ Holds ctx t
Holds (InCut u ∷ ctx) t = Holds ctx t

-- Each choice around is older than t.
abbrev pub Older : ℕ → List Around → Type 0
Older t [] = Unit {0}
Older t (InBranch k u others ∷ ctx) = (u < t) × Older t ctx
Older t (InCut u ∷ ctx) = Older t ctx

-- A stoppable part t is around.
abbrev pub Shielded : List Around → ℕ → Type 0
Shielded [] t = ⊥
Shielded (InBranch Shield u others ∷ ctx) t = (t ≡ u) ⊎ Shielded ctx t
Shielded (InBranch k u others ∷ ctx) t = Shielded ctx t
Shielded (InCut u ∷ ctx) t = Shielded ctx t

-- The stoppable part, where there is one, is around.
abbrev pub StopIn : List Around → Option ℕ → Type 0
StopIn ctx None = Unit {0}
StopIn ctx (Some s) = Shielded ctx s

-- The tags that the steps name are those of choices around.
abbrev pub StepsIn : List Around → List Step → Type 0
StepsIn ctx [] = Unit {0}
StepsIn ctx (Do g env t ∷ steps) = Holds ctx t × StepsIn ctx steps
StepsIn ctx (Answers q ∷ steps) = StepsIn ctx steps
StepsIn ctx (Cut t ∷ steps) = Holds ctx t × StepsIn ctx steps
StepsIn ctx (Refuse t ∷ steps) = Holds ctx t × StepsIn ctx steps
StepsIn ctx (Back ∷ steps) = StepsIn ctx steps
StepsIn ctx (Keep t x env ∷ steps) = StepsIn ctx steps
StepsIn ctx (Leave t outer ∷ steps) = Holds ctx t × (StopIn ctx outer × StepsIn ctx steps)

-- What the path names is around it, its next choice is the newest, and its bindings are a substitution of variables that have been made.
pub record PathIn (ctx : List Around) (path : Path) : Type 0 where
  pub steps : StepsIn ctx path.steps
  pub stop : StopIn ctx path.registers.stoppable
  pub newer : Older path.registers.next_tag ctx
  pub bound : IsBound path

-- What a branch names is around it, and its values have variables that have been made.
abbrev pub BranchIn : List Around → Branch → Type 0
BranchIn ctx (Enter path work) = PathIn ctx path
BranchIn ctx (Clash r work) = Unit {0}
BranchIn ctx (TakeOut t whole into path) = PathIn ctx path × (top into ≤ path.registers.next_var)
BranchIn ctx (Finds place o args path) = PathIn ctx path × (top_of_values args ≤ path.registers.next_var)

-- So it is for each of these branches.
abbrev pub BranchesIn : List Around → List Branch → Type 0
BranchesIn ctx [] = Unit {0}
BranchesIn ctx (b ∷ bs) = BranchIn ctx b × BranchesIn ctx bs

-- A branch takes no gathering out.
abbrev pub KeepsGathering : Branch → Type 0
KeepsGathering (TakeOut t whole into path) = ⊥
KeepsGathering b = Unit {0}

-- None of these branches takes a gathering out.
abbrev pub KeepGatherings : List Branch → Type 0
KeepGatherings [] = Unit {0}
KeepGatherings (b ∷ bs) = KeepsGathering b × KeepGatherings bs

-- Behind a first branch that gathers, one branch takes the gathering out; no other branch takes one out.
abbrev pub TakesOut : ChoiceKind → ℕ → List Branch → Type 0
TakesOut Gathers t [] = ⊥
TakesOut Gathers t (TakeOut u whole into path ∷ []) = u ≡ t
TakesOut Gathers t (b ∷ bs) = ⊥
TakesOut k t others = KeepGatherings others

-- Of these gatherings the newest has this tag.
abbrev pub IsNewest : ℕ → List ℕ → Type 0
IsNewest t [] = ⊥
IsNewest t (u ∷ us) = t ≡ u

-- What steps keep is kept in the newest of these gatherings.
abbrev pub KeepIn : List ℕ → List Step → Type 0
KeepIn tags [] = Unit {0}
KeepIn tags (Keep t x env ∷ steps) = IsNewest t tags × KeepIn tags steps
KeepIn tags (s ∷ steps) = KeepIn tags steps

-- So it is in each of these branches.
abbrev pub BranchesKeepIn : List ℕ → List Branch → Type 0
BranchesKeepIn tags [] = Unit {0}
BranchesKeepIn tags (b ∷ bs) = KeepIn tags (path_at b).steps × BranchesKeepIn tags bs

-- Tags fall outwards, each mark names a choice around it, and so do the branches that were not begun, of which those behind a gathering take it out;
-- what these keep is kept in the newest gathering outside.
abbrev pub Sound : List Around → Type 0
Sound [] = Unit {0}
Sound (InBranch k t others ∷ ctx) = Older t ctx × Sound ctx × BranchesIn (InBranch Plain t [] ∷ ctx) others × TakesOut k t others ×
    BranchesKeepIn (gathers ctx) others
Sound (InCut t ∷ ctx) = Holds ctx t × Sound ctx

-- Between two worlds gatherings were dropped, the newest first, and nothing else has happened.
pub record Drops (old new : World) : Type 0 where
  pub count : ℕ
  pub is : new ≡ record old { gathered = drop count old.gathered }
