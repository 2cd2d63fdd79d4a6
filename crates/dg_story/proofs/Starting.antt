-- A story is played, and comes to the start of its code.
use Rattle.std.proofs.Common.{◌≡◌, ℕ, ◌<◌, List, [], length, true, Option, Some, None, refl, sym, ◌∙◌, arith}
use Rattle.std.proofs.Math.Nat.{zero-mod}
use Rattle.std.proofs.lemmas.Bool.{leb-true}
use Rattle.dg_base.specs.declared.program.CoreProgram.{CoreProgram}
use Rattle.dg_meaning.specs.Values.{Value}
use Rattle.dg_meaning.specs.Facts.{start_facts, kinds_of, kept_size}
use Rattle.dg_meaning.specs.Render.{render}
use Rattle.dg_meaning.specs.Transcript.{start_world}
use Rattle.dg_mid.specs.declared.code.Code.{Code}
use Rattle.dg_mid.specs.Code.{block_at}
use Rattle.dg_mid.specs.State.{Mid}
use Rattle.dg_mid.specs.Reads.{lasting_of}
use Rattle.z_model.specs.Story.{start_state}
use Rattle.z_lang.specs.Standing.{state_at}
use Rattle.dg_rt.specs.Areas.{state}
use Rattle.dg_rt.specs.Cells.{replaced}
use Rattle.dg_rt.specs.Shapes.{Shape, IsShape}
use Rattle.dg_rt.proofs.Cells.{other_cell}
use Rattle.dg_turn.specs.Told.{Telling, told_count}
use Rattle.dg_turn.specs.Lies.{MidIn, StateIn}
use Rattle.dg_turn.specs.Plays.{Playing, Outside, Represented}
use Rattle.dg_turn.specs.Sites.{sites_of, SitesIn, AreSites, HasSites}
use Rattle.dg_turn.specs.World.{FactsIn, HasWorld}
use Rattle.dg_turn.proofs.Places.{facts_same}
use Rattle.dg_turn.proofs.Sites.{sites_start}
use Rattle.dg_chain.specs.Steps.{Starts}
use Rattle.dg_chain.specs.Routines.{BlocksAt}
use Rattle.dg_chain.specs.Stands.{Lasts, Printed, Stands}
use Rattle.dg_chain.specs.Whole.{story_setting}
use Rattle.dg_emit.specs.Numbers.{numbers_from, block_number}
use Rattle.dg_emit.specs.Story.{first_number}
use Rattle.dg_story.specs.Built.{site_words, story_parts, keeps_within, IsStoryOf}
use Rattle.dg_story.proofs.Mapped.{p, has, base_is}
use Rattle.dg_story.proofs.Memory.{near}
use Rattle.dg_story.proofs.Rows.{start_words, from_kept_long, zeros_behind, StartsFit, facts_start}
use Rattle.dg_story.proofs.Opening as opening

module _ (program : CoreProgram) (starts : StartsFit program) (code : Code) (story : List ℕ) (is : IsStoryOf (story_parts program code true) story) (dice typed : List ℕ) (words : (k : ℕ) → (p program code true story is dice).names.routine k < 65536) (kept : keeps_within program ≡ true) where
  -- What stays the same while the story is played.
  abbrev pub t : Telling
  t = record {
    program = program;
    sites = sites_of code.blocks;
    p = p program code true story is dice;
    at_block = λ b. (p program code true story is dice).names.routine (block_number (numbers_from first_number code) b);
    story = story;
    context = opening.c program starts code true story is dice typed;
    pc = opening.pc program starts code story is dice typed words;
  }

  pub plays : Playing t
  plays = record {
    labels = opening.labels program starts code true story is dice typed;
    stands = is.does.stands dice;
    placed = opening.placed program starts code story is dice typed words;
    from = opening.from program starts code story is dice typed words;
    room = opening.room program starts code true story is dice typed;
    has = has program code true story is dice;
    words = words;
  }

  -- ## The start

  -- nothing is taken yet
  abbrev none : Shape
  none = record { top = 0; vars = 0; place = λ n. 0; fixed = λ k. 0; box = λ k. None; captures = told_count program }

  no_box : (v : Value) → ◌≡◌ {A = Option Value} None (Some v) → ⊥
  no_box v e = cc

  none_is : IsShape none
  none_is = record {
    within = λ n lt. omega arith;
    order = λ m n lt lt'. omega arith;
    apart = λ j k v w e f lt. absurd (no_box v e);
    ends = λ k v e. absurd (no_box v e);
    room = omega arith;
  }

  abbrev machine : Mid
  machine = record {
    ops = block_at code 1;
    frames = [];
    inner = [];
    choices = [];
    stops = [];
    stop = None;
    gathered = [];
    next_tag = 1;
    state = record { vars = 0; subst = []; since = 0; heap = 0; trail = 0 };
    lasting = lasting_of (start_world (story_setting t code t.p.world.dice).game typed);
  }

  abbrev cells : ℕ → ℕ
  cells = opening.begun_words program starts code story is dice typed words

  state_in : StateIn t none cells [] machine.state
  state_in = record {
    shape = none_is;
    low = λ n lt. omega arith;
    stands = record { sound = tt; fixed = λ k lt f. absurd (let l = f.0 in omega arith); unbound = λ n lt e. absurd (omega arith); bound = λ n v lt e. absurd (omega arith) };
    known = λ n le. refl;
    heap = refl;
    vars = refl;
    trail_len = refl;
    few = omega arith;
    few_trail = omega arith;
    told = λ place. refl;
  }

  machine_in : MidIn t cells none cells [] machine
  machine_in = record {
    heap = refl;
    height = refl;
    state = state_in;
    on_trail = tt;
    frames = refl;
    choices = refl;
    hb = 0;
    mark = refl;
    marked = record { low = omega arith; high = omega arith; old = omega arith; older = λ n lt. absurd (omega arith) };
    under = tt;
    inner = refl;
    stop = refl;
    stops = tt;
    stops_under = tt;
    apart = tt;
    rest = record { gather = refl; gatherings = tt; outside = record { registers = λ k a b c. refl; areas = λ k a. refl } };
  }

  abbrev out : Outside
  out = record { output = []; typed = typed; drawn = 0; words = cells }

  -- the world lies in memory as it starts
  facts_here : FactsIn program (start_facts program.places) cells
  facts_here =
      let asked = opening.asked program starts code story is dice typed words in
      let first = start_words program (site_words code) in
      let marked = replaced first 2 32768 in
      facts_same program (start_facts program.places) first cells
      (λ k le. other_cell marked 0 asked k (λ (q : k ≡ 0). (omega arith)) ∙ other_cell first 2 32768 k (λ (q : k ≡ 2). (omega arith)))
      (facts_start program starts (site_words code) kept)

  -- nothing is kept of selects
  sites_here : SitesIn t machine.lasting.sites cells
  sites_here =
      let asked = opening.asked program starts code story is dice typed words in
      let first = start_words program (site_words code) in
      let marked = replaced first 2 32768 in
      sites_start t cells (λ k le. other_cell marked 0 asked k (λ (q : k ≡ 0). (omega arith)) ∙ other_cell first 2 32768 k (λ (q : k ≡ 2). (omega arith)) ∙ zeros_behind program (site_words code) k le)

  lasts : Lasts t machine.lasting out
  lasts = record { drawn = sym (zero-mod (length dice)); typed = refl; facts = facts_here; keeps = leb-true (kept_size (kinds_of program) (start_facts program.places)) 500 kept; sites = sites_here }

  printed : Printed t [] machine.lasting
  unfolding render
  printed = record { out = out; written = refl; meets = record { last = refl; lines = refl; spaces = refl; asked = refl; upper = refl }; lasts = lasts }

  -- The world may be written.
  pub world : HasWorld t
  world = record { few = starts.few; room = (let base = base_is program code true story is dice in omega (arith, from_kept_long program (site_words code))) }

  -- So may what is kept of selects.
  pub has_sites : AreSites program (sites_of code.blocks) → HasSites t
  has_sites are =
      let base = base_is program code true story is dice in
      let long = from_kept_long program (site_words code) in
      let near = near program starts code true story is dice in
      record { are = are; room = omega arith; near = omega arith }

  represents : Represented t out (opening.asked program starts code story is dice typed words) machine (state_at (state (opening.begun program starts code story is dice typed words) [] typed 0 []) t.context t.pc)
  represents = record {
    memory = opening.begun program starts code story is dice typed words;
    is = refl;
    kept = (opening.follows program starts code story is dice typed words).kept;
    cells = cells;
    holds = opening.holding program starts code story is dice typed words;
    next_is = refl;
    sh = none;
    trail = [];
    mid = machine_in;
  }

  -- The story comes to the start of its code.
  pub started : BlocksAt t code → Starts t.p.world (story_setting t code t.p.world.dice) (Stands t code) typed (start_state story typed)
  unfolding printed
  started blocks = record {
    count = 3;
    few = omega arith;
    there = state_at (state (opening.begun program starts code story is dice typed words) [] typed 0 []) t.context t.pc;
    leads = opening.opens program starts code story is dice typed words;
    stands = record { printed = printed; at = record { x = opening.asked program starts code story is dice typed words; rep = represents; ops_are = blocks.each 1 } };
    printed = refl;
  }
