-- The beginning of a story's run: its first three instructions set two registers and come to where one routine after another is called.
use Rattle.std.proofs.Common.{◌≡◌, ℕ, ◌+◌, ◌*◌, ◌<◌, ◌≤◌, List, [], drop, Bool, true, Some, refl, sym, ap, subst, arith}
use Rattle.dg_base.specs.declared.program.CoreProgram.{CoreProgram}
use Rattle.dg_mid.specs.declared.code.Code.{Code}
use Rattle.z_model.specs.Run.{ZState, zstep}
use Rattle.z_model.specs.Story.{start_state, memory_of}
use Rattle.z_code.specs.Targets.{OpsAt, label_from}
use Rattle.z_lang.specs.declared.act.Act.{Act}
use Rattle.z_lang.specs.declared.act.Atom.TheVariants as atoms
use Rattle.z_lang.specs.declared.act.Routine.{Routine}
use Rattle.z_lang.specs.State.{State, Program}
use Rattle.z_lang.specs.Runs.{ActsOutcome, Rests, ActsRun, rests, done}
use Rattle.z_lang.specs.Code.{ops_of_acts as code_of}
use Rattle.z_lang.specs.Leads.{Leads}
use Rattle.z_lang.specs.Standing.{IsKept, Context, HasRoom, Follows, state_at}
use Rattle.z_lang.proofs.Stretches.{leads_step}
use Rattle.z_lang.proofs.Follows.{end_at, on}
use Rattle.z_lang.proofs.Start.{opening, start_of_play, from_opening, begins}
use Rattle.z_asm.specs.Story.{code_start, first_ops, call_first}
use Rattle.z_story.specs.Parts.{image_of}
use Rattle.dg_rt.specs.Cells.{with_cell, replaced, Holds}
use Rattle.dg_rt.specs.Areas.{state}
use Rattle.dg_rt.specs.RunTime.{routine_of}
use Rattle.dg_rt.proofs.Following.{copies, puts}
use Rattle.dg_emit.specs.Numbers.{numbers_from, block_number}
use Rattle.dg_rt.specs.Start.{start_acts, turn_acts}
use Rattle.dg_emit.specs.Story.{first_number}
use Rattle.dg_story.specs.Built.{site_words, story_parts, IsStoryOf}
use Rattle.dg_story.proofs.Mapped.{p, routine_is, base_is}
use Rattle.dg_story.proofs.Memory.{memory_is, starts_holding}
use Rattle.dg_story.proofs.Rows.{start_words, StartsFit}

module _ (program : CoreProgram) (starts : StartsFit program) (code : Code) (keeps : Bool) (story : List ℕ) (is : IsStoryOf (story_parts program code keeps) story) (dice typed : List ℕ) where
  abbrev q : Program
  q = p program code keeps story is dice

  abbrev image_first : ℕ
  image_first = code_start (image_of (story_parts program code keeps))

  -- the routine that asks the entry
  abbrev pub entry : ℕ
  entry = block_number (numbers_from first_number code) 1

  abbrev pub first : Routine
  first = routine_of 0 (start_acts keeps entry)

  -- where it is called from
  abbrev pub c : Context
  c = from_opening (end_at image_first call_first)

  first_there : q.routine_at (q.names.routine 0) ≡ Some first
  first_there = routine_is program code keeps story is dice 0 first refl

  pub starts_kept : IsKept q.world.layout.base story (memory_of story)
  starts_kept = ap (λ (l : List ℕ). drop q.world.layout.base l) (memory_is program starts code keeps story is dice)

  abbrev pub at_first : ZState
  at_first = state_at (state (memory_of story) [] typed 0 []) c (8 * q.names.routine 0 + 1)

  pub first_step : zstep q.world (start_state story typed) ≡ on at_first
  first_step =
      let base = is.assembled.header.base in
      subst (λ (pc : ℕ). zstep q.world (state_at (start_of_play (memory_of story) typed) opening pc) ≡ on at_first) (sym is.assembled.header.start)
      (begins q story (is.does.stands dice) (label_from image_first first_ops) (memory_of story) typed image_first 0 first is.assembled.first.0 starts_kept (omega arith) first_there)

  -- there is room for the routines that are called
  pub room : (m t o : List ℕ) (d : ℕ) → HasRoom c (state m [] t d o) 3600 20000
  room m t o d = record { frames = omega arith; words = omega arith }

  abbrev pub labels : ℕ → ℕ
  labels = label_from (8 * q.names.routine 0 + 1) (code_of first.body)

  -- The first routine does what its acts mean.
  pub first_follows : (f w n : ℕ) → f ≤ 3600 → w ≤ 20000 → (o : ActsOutcome) (s' : State) → ActsRun q f w first.body first.body (state (memory_of story) [] typed 0 []) o s' n → Follows q story labels c o s' n at_first
  first_follows f w n lt le o s' runs =
      let few : HasRoom c (state (memory_of story) [] typed 0 []) f w = record { frames = omega arith; words = omega arith } in
      (is.does.does dice 0 first refl).comes c f w n (state (memory_of story) [] typed 0 []) s' o starts_kept few runs

-- ## Where it goes on

module _ (program : CoreProgram) (starts : StartsFit program) (code : Code) (story : List ℕ) (is : IsStoryOf (story_parts program code true) story) (dice typed : List ℕ) (words : (k : ℕ) → (p program code true story is dice).names.routine k < 65536) where
  abbrev r : Program
  r = p program code true story is dice

  -- the address of the routine that asks the entry
  abbrev pub asked : ℕ
  asked = r.names.routine (entry program starts code true story is dice typed)

  abbrev marked : List ℕ
  marked = with_cell (memory_of story) 2 32768

  -- memory behind the first instructions, and its words
  abbrev pub begun : List ℕ
  begun = with_cell marked 0 asked

  abbrev pub begun_words : ℕ → ℕ
  begun_words = replaced (replaced (start_words program (site_words code)) 2 32768) 0 asked

  abbrev before : State
  before = state (memory_of story) [] typed 0 []

  abbrev between : State
  between = state marked [] typed 0 []

  abbrev behind : State
  behind = state begun [] typed 0 []

  abbrev acts : List Act
  acts = (first program starts code true story is dice typed).body

  record Begins : Type 0 where
    sets : ActsRun r 8 100 acts acts before (Rests turn_acts) behind 2
    holds : Holds r.world.layout begun begun_words

  begins_so : Begins
  begins_so =
      let base = base_is program code true story is dice in
      let mark = puts r before (start_words program (site_words code)) 18 32768 (starts_holding program starts code true story is dice) (omega arith) (omega arith) (omega arith) (omega arith) in
      let next = puts r between (replaced (start_words program (site_words code)) 2 32768) 16 asked mark.holds (omega arith) (omega arith) (omega arith) (words (entry program starts code true story is dice typed)) in
      record {
        sets =
            done (copies r before between 18 (atoms.Num 32768) 32768 refl mark.put_is)
            (done (copies r between behind 16 (atoms.Routine (entry program starts code true story is dice typed)) asked refl next.put_is)
            rests);
        holds = next.holds;
      }

  pub holding : Holds r.world.layout begun begun_words
  holding = begins_so.holds

  pub follows : Follows r story (labels program starts code true story is dice typed) (c program starts code true story is dice typed) (Rests turn_acts) behind 2 (at_first program starts code true story is dice typed)
  follows = first_follows program starts code true story is dice typed 8 100 2 (omega arith) (omega arith) (Rests turn_acts) behind begins_so.sets

  -- where one routine after another is called
  abbrev pub pc : ℕ
  pc = follows.comes.pc

  pub placed : OpsAt story r.names (labels program starts code true story is dice typed) pc (code_of turn_acts)
  placed = follows.comes.placed

  pub from : r.world.layout.base ≤ pc
  from = follows.comes.from

  -- The run comes to it with three instructions, and the entry is asked next.
  pub opens : Leads r.world 3 (start_state story typed) (state_at behind (c program starts code true story is dice typed) pc)
  opens =
      leads_step r.world 2 (start_state story typed) (at_first program starts code true story is dice typed) (state_at behind (c program starts code true story is dice typed) pc) (first_step program starts code true story is dice typed) follows.comes.leads
