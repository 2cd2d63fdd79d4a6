-- Selects: where what is kept of their sites lies, and choosing a branch as a turn. Hold it against docs/LANGUAGE.md, "Choosing",
-- dg_meaning/specs/Choosing.antt, and `at_choice` of dg_mid/specs/Step.antt.
use Rattle.std.specs.Prelude.{◌≡◌, ℕ, suc, ◌+◌, ◌<◌, ◌≤◌, List, [], ◌∷◌, ◌++◌, Contains, length, map, get_or, Some, false, slice_set, ◌==◌, if◌then◌else◌}
use Rattle.dg_base.specs.declared.program.CoreProgram.{CoreProgram}
use Rattle.dg_base.specs.declared.program.Mode.{Mode}
use Rattle.dg_meaning.specs.Choosing.{Picks, picked, picks_at, Choice, choice_by}
use Rattle.dg_mid.specs.declared.code.Block.{Block}
use Rattle.dg_mid.specs.declared.code.Op.{Op}
use Rattle.dg_mid.specs.declared.code.Op.TheVariants as op
use Rattle.dg_mid.specs.State.{Mid}
use Rattle.z_model.specs.Run.{ZState, word_at}
use Rattle.z_lang.specs.declared.act.Act.{Act}
use Rattle.z_lang.specs.declared.act.Act.TheVariants as acts
use Rattle.z_lang.specs.declared.act.Args.TheVariants as args
use Rattle.z_lang.specs.declared.act.Atom.TheVariants as atoms
use Rattle.z_lang.specs.declared.act.Comparison.TheVariants as comparisons
use Rattle.z_lang.specs.declared.act.Routine.{Routine}
use Rattle.z_lang.specs.declared.act.Test.{Test}
use Rattle.dg_rt.specs.Cells.{at_cell}
use Rattle.dg_rt.specs.Picks.{SiteIn, pick_number, drawn_more}
use Rattle.dg_rt.specs.RunTime.{routine_of}
use Rattle.dg_turn.specs.Told.{Site, Telling}
use Rattle.dg_turn.specs.Plays.{Playing, Outside, Represented, Comes}
use Rattle.dg_turn.specs.Turns.{goto_routine}
use Rattle.dg_turn.specs.World.{world_end}

-- ## Selects of code

-- The select of an instruction.
abbrev pub select_of : ℕ → Mode → List ℕ → Site
select_of site mode blocks = record { number = site; mode = mode; branches = length blocks }

-- Those of instructions, and of blocks, in order.
abbrev pub sites_of_op : Op → List Site
sites_of_op (op.Select site mode blocks behind) = select_of site mode blocks ∷ []
sites_of_op x = []

abbrev pub sites_of_ops : List Op → List Site
sites_of_ops [] = []
sites_of_ops (x ∷ ops) = sites_of_op x ++ sites_of_ops ops

abbrev pub sites_of : List Block → List Site
sites_of [] = []
sites_of (block ∷ blocks) = sites_of_ops block.ops ++ sites_of blocks

-- ## Where they lie

-- The place of a number among others: that of the first that is the same.
abbrev pub place_of : ℕ → List ℕ → ℕ
place_of n [] = 0
place_of n (k ∷ ks) = if k == n then 0 else suc (place_of n ks)

-- The numbers of sites, in order.
abbrev pub numbers_of : List Site → List ℕ
numbers_of sites = map (λ (s : Site). s.number) sites

-- The word of a site, behind the world: there is one for each select, and a site has that of its first.
abbrev pub site_at : CoreProgram → List ℕ → ℕ → ℕ
site_at program numbers n = world_end program + place_of n numbers

-- Words stand for what is kept of the sites of a story; of one branch alone nothing matters.
pub record SitesIn (t : Telling) (kept : List Picks) (words : ℕ → ℕ) : Type 0 where
  pub all : length kept ≡ t.program.sites
  pub each : (s : Site) → Contains t.sites s → 2 ≤ s.branches →
      SiteIn s.mode s.branches (picks_at kept s.number) (words (site_at t.program (numbers_of t.sites) s.number))

-- Selects of a program: those of one site are alike, each site is one of the program, and each has at least one branch and at most 500.
pub record AreSites (program : CoreProgram) (sites : List Site) : Type 0 where
  pub alike : (a b : Site) → Contains sites a → Contains sites b → a.number ≡ b.number → (a.mode ≡ b.mode) × (a.branches ≡ b.branches)
  pub known : (s : Site) → Contains sites s → s.number < program.sites
  pub some : (s : Site) → Contains sites s → 1 ≤ s.branches
  pub few : (s : Site) → Contains sites s → s.branches ≤ 500

-- The selects of a story are those of its program, and what is kept of them may be written, and has addresses.
pub record HasSites (t : Telling) : Type 0 where
  pub are : AreSites t.program t.sites
  pub room : at_cell (world_end t.program + length t.sites) ≤ t.p.world.layout.base
  pub near : at_cell (world_end t.program + length t.sites) ≤ 65536

-- ## Routines

-- Another branch than this one was chosen.
abbrev pub is_other : ℕ → Test
is_other i = record { comparison = comparisons.Equal; first = atoms.Var 1; second = atoms.Num i; answer = false }

-- The routine of the branch whose number local 1 has, of branches from a number on, or another one behind them.
abbrev pub branch_acts : ℕ → List ℕ → ℕ → List Act
branch_acts i [] behind = acts.Return (atoms.Routine behind) ∷ []
branch_acts i (b ∷ bs) behind = acts.When (is_other i) i ∷ acts.Return (atoms.Routine b) ∷ acts.Label i ∷ branch_acts (suc i) bs behind

-- The routine that chooses one of two branches or more, by the word at an address.
abbrev pub choosing_routine : (address : ℕ) → Mode → (branches : List ℕ) → (behind : ℕ) → Routine
choosing_routine address mode branches behind =
    routine_of 1 (acts.Call (Some 1) (atoms.Routine (pick_number mode)) (args.Two (atoms.Num address) (atoms.Num (length branches)))
    ∷ branch_acts 0 branches behind)

-- The routine of a select: without a choice it goes on at its only branch.
abbrev pub select_routine : (address : ℕ) → Mode → (branches : List ℕ) → (behind : ℕ) → Routine
select_routine address mode [] behind = goto_routine behind
select_routine address mode (b ∷ []) behind = goto_routine b
select_routine address mode branches behind = choosing_routine address mode branches behind

-- ## A turn

-- The player is in front of the routine of a select of a story.
pub record Selecting (t : Telling) (out : Outside) (s : Site) (branches : List ℕ) (behind : ℕ) (m : Mid) (z : ZState) : Type 0 where
  pub x : ℕ
  pub rep : Represented t out x m z
  pub there : t.p.routine_at x ≡ Some (select_routine (at_cell (site_at t.program (numbers_of t.sites) s.number)) s.mode branches behind)
  pub known : Contains t.sites s
  pub all : length branches ≡ s.branches

-- Words outside that stand for other sites; those that aren't the sites' are the same.
pub record OuterSites (t : Telling) (kept : List Picks) (words : ℕ → ℕ) : Type 0 where
  pub words' : ℕ → ℕ
  pub others : (k : ℕ) → (world_end t.program ≤ k → world_end t.program + length t.sites ≤ k) → words' k ≡ words k
  pub sites_in : SitesIn t kept words'

-- In one turn the routine of the branch that is chosen comes next, its pick is kept, and its dice word is drawn.
pub record Selects (t : Telling) (out : Outside) (s : Site) (branches : List ℕ) (behind : ℕ) (kept : List Picks) (choice : Choice) (m : Mid)
    (z : ZState) : Type 0 where
  pub outer : OuterSites t (slice_set kept s.number (picked choice.branch (picks_at kept s.number))) out.words
  pub comes : Comes t (record out { drawn = drawn_more t.p out.drawn choice.drawn; words = outer.words' })
      (t.p.names.routine (get_or branches choice.branch behind)) m (s.branches + 20) z

-- So it is by the mode and the next dice word: `selects` of dg_meaning/specs/Moves.antt.
abbrev pub PickTurns : Type 0
PickTurns = (t : Telling) → Playing t → HasSites t → (out : Outside) (s : Site) (branches : List ℕ) (behind : ℕ) (kept : List Picks) (m : Mid)
    (z : ZState) → SitesIn t kept out.words → Selecting t out s branches behind m z →
    Selects t out s branches behind kept (choice_by s.mode s.branches (picks_at kept s.number) (word_at t.p.world out.drawn)) m z
