-- What a goal that reads a line comes to.
use Rattle.std.proofs.Common.{◌≡◌, ℕ, zero, suc, ◌+◌, ◌<◌, ◌≤◌, ◌≢◌, List, [], ◌∷◌, ◌++◌, Bool, true, false, Option, Some, None, refl, sym, ap, ◌∙◌, subst, arith, length, get_or, map, inr, Result, Ok, Err, IfOk, IfErr, OnErr}
use Rattle.std.specs.Prelude.{not, encode_utf8_all, if◌then◌else◌}
use Rattle.std.specs.Io.KnownBytes.{IsAtEnd, Keeps}
use Rattle.std.proofs.lemmas.Bool.{lt-ltb, le-ltb}
use Rattle.dg_base.specs.Causes.{Rose}
use Rattle.dg_base.specs.Streams.{SourceView}
use Rattle.dg_base.specs.Units.{units_of}
use Rattle.dg_base.specs.Written.{SinkView, BrokeOff}
use Rattle.dg_base.specs.declared.program.GapKind.TheVariants.{Line}
use Rattle.dg_base.specs.declared.program.CoreProgram.{CoreProgram}
use Rattle.dg_base.specs.declared.program.Term.{Term}
use Rattle.dg_base.specs.declared.run.Ending.{Ending}
use Rattle.dg_base.specs.declared.run.Ending.TheVariants.{HeapLimit, InputEnded}
use Rattle.dg_base.specs.declared.run.Fault.{Fault}
use Rattle.dg_base.specs.declared.run.Fault.TheVariants.{Write}
use Rattle.dg_base.specs.declared.run.Limits.{Limits}
use Rattle.dg_meaning.specs.Cells.{cells}
use Rattle.dg_meaning.specs.Copies.{copy_cells}
use Rattle.dg_meaning.specs.Engines.{told_behind}
use Rattle.dg_meaning.proofs.Engines.{as_told}
use Rattle.dg_meaning.specs.Moves.{more_heap, gives, takes_line, printed, spelled}
use Rattle.dg_meaning.specs.Path.{Registers}
use Rattle.dg_meaning.specs.Render.{render}
use Rattle.dg_meaning.specs.Shows.{IsLeft}
use Rattle.dg_meaning.specs.Values.{Value, Nil, leaf, value_of}
use Rattle.dg_meaning.specs.Words.{first_line, behind_first, letters_of, spellings_of, spelled_list, line_value}
use Rattle.dg_meaning.specs.World.{Game, World, Print, GapOf}
use Rattle.dg_words.specs.Letters.{IsLine}
use Rattle.dg_words.specs.Lines.{Took, IsOver}
use Rattle.dg_texts.specs.Spelling.{IsShort, SpellsSome}
use Rattle.dg_texts.proofs.TypedLetters.{line_short}
use Rattle.dg_arena.specs.Held.{meaning_of}
use Rattle.dg_unify.specs.declared.bindings.Ref.{Ref}
use Rattle.dg_mid.specs.declared.code.Code.{Code}
use Rattle.dg_mid.specs.declared.code.Op.{Op}
use Rattle.dg_mid.specs.declared.code.Op.TheVariants as op
use Rattle.dg_mid.specs.declared.code.Action.TheVariants as action
use Rattle.dg_mid.specs.Actions.{act_at, registers_of, world_of, said_by}
use Rattle.dg_mid.specs.Left.{overfills, reads_in, reads, left_behind}
use Rattle.dg_mid.specs.Reads.{lasting_of}
use Rattle.dg_mid.specs.State.{Mid, Status, vars_of, Runs as RunsOf, Enters as EntersOf, Resumes as ResumesOf, Fails as FailsOf, Ended as EndedOf}
use Rattle.dg_mid.specs.Step.{Setting, setting, charged, more, done, does, runs, step, said, said_in, said_to, followed}
use Rattle.dg_lasting.specs.declared.lasting.Lasting.{Lasting}
use Rattle.dg_spacing.specs.declared.spacer.Spacer.{Spacer}
use Rattle.dg_machine.specs.declared.memory.Memory.{Memory}
use Rattle.dg_machine.specs.declared.now.Now.{Now}
use Rattle.dg_machine.specs.declared.now.Now.TheVariants.{Runs, Enters, Resumes, Leaves, Misses, Fails, Ended}
use Rattle.dg_machine.specs.declared.tables.Tables.{Tables}
use Rattle.dg_machine.specs.Built.{OpsBuilt}
use Rattle.dg_machine.specs.Layout.{Holds, HasPut, Lacks, Roomy}
use Rattle.dg_machine.specs.inside.Reading.{line_behind}
use Rattle.dg_machine.specs.Refs.{RefsAt}
use Rattle.dg_machine.specs.inside.Running.{HasText, ReadsGoal, LosesLine, LosesText, BreaksGoal}
use Rattle.dg_machine.specs.Standing.{CodeIs, Stands, HasLasting}
use Rattle.dg_machine.specs.Tables.{IsOf}
use Rattle.dg_machine.specs.Wording.{Gives}
use Rattle.dg_machine.proofs.Compares.{act_led}
use Rattle.dg_machine.proofs.Goals.{ended_done}
use Rattle.dg_machine.proofs.Leads.{charged_on, charged_off}
use Rattle.dg_machine.proofs.Opens.{fits, roomy}
use Rattle.dg_machine.proofs.Lasting.{Has, has_charged, has_unifies, has_lasting}
use Rattle.dg_machine.proofs.Readings.{gave_nothing}

pub line_on : (now : Now) → ((e : Ending) → now ≡ Ended e → ⊥) → line_behind now ≡ GapOf Line ∷ []
line_on (Ended e) goes = absurd (goes e refl)
line_on (Runs ops) goes = refl
line_on (Enters ops) goes = refl
line_on Resumes goes = refl
line_on (Leaves height ops) goes = refl
line_on Misses goes = refl
line_on Fails goes = refl

room_over : (s : Setting) (heap n : ℕ) → heap ≤ s.limits.heap → s.limits.heap < heap + n → overfills s heap n ≡ true
room_over s heap zero fit lt = absurd (omega (arith, fit, lt))
room_over s heap (suc n) fit lt = lt-ltb s.limits.heap (heap + suc n) lt

room_for : (s : Setting) (heap n : ℕ) → heap + n ≤ s.limits.heap → overfills s heap n ≡ false
room_for s heap zero fit = refl
room_for s heap (suc n) fit = le-ltb s.limits.heap (heap + suc n) fit

nothing_left : (b : Bool) → (if b then behind_first [] else []) ≡ []
nothing_left true = refl
nothing_left false = refl

-- what stands behind a line that was read
said_line : (code : Code) (l : Limits) (r : Memory) (now : Now) (s : Status) → Stands code l r now s → said_to (GapOf Line ∷ []) s ≡ line_behind now
said_line code l r (Runs ops) (RunsOf m) h = refl
said_line code l r (Enters ops) (EntersOf c m) h = refl
said_line code l r Resumes (ResumesOf on m) h = refl
said_line code l r (Leaves height ops) (RunsOf m) h = refl
said_line code l r Misses (FailsOf m) h = refl
said_line code l r Fails (FailsOf m) h = refl
said_line code l r (Ended e) (EndedOf x) h = refl
said_line code l r now s h = absurd h

abbrev line_world : Game → List ℕ → World → World
line_world g typed w = spelled g (length (units_of (first_line typed))) (line_value g.program.words (first_line typed)) (printed (GapOf Line) (record w { typed = behind_first typed }))

takes_some : (g : Game) (typed : List ℕ) (v : Value) (r : Registers) (w : World) → typed ≢ [] → takes_line g typed v r w ≡ gives v (line_value g.program.words (first_line typed)) r (line_world g typed w)
takes_some g [] v r w some = absurd (some refl)
takes_some g (b ∷ bytes) v r w some = refl

at_end : (told : Option (List ℕ)) → IsAtEnd told → (rest : List ℕ) → rest ≡ [] → IsLeft told rest
at_end None h rest none = tt
at_end (Some xs) h rest none = h ∙ sym none

told_none : (old new : Option (List ℕ)) → IsAtEnd old → Keeps old new → (typed : List ℕ) → typed ≡ [] → IsLeft (told_behind old new) typed
told_none None new h k typed none = tt
told_none (Some xs) None h k typed none = absurd k
told_none (Some xs) (Some ys) h k typed none = k ∙ h ∙ sym none

module _ (tb : Tables) (code : Code) (old : Memory) (ops : List Op) (t : Term) (rest : List Op) (split : ops ≡ op.Do (action.Input t) ∷ rest) where
  abbrev term_cells : Game → ℕ
  term_cells g = cells g.program (t ∷ [])

  abbrev reader : Mid → Mid
  reader m = record m { ops = rest }

  reads_is : (g : Game) (l : Limits) (m : Mid) (b : Bool) → CodeIs ops m → overfills (setting g code l) m.state.heap (term_cells g) ≡ b → reads (setting g code l) (RunsOf m) ≡ not b
  reads_is g l m b at e = ap (reads_in (setting g code l) m) (at.0 ∙ split) ∙ ap not e

  -- the heap has no room for the term
  pub over_goal : (out : Lasting) (new : Memory) (s : Spacer) (k : SinkView) (i : SourceView) → ((l : Limits) (m : Mid) (p : CoreProgram) → IsOf p tb → Holds code l old m → Lacks (cells p (t ∷ [])) l m.state.heap new) → ReadsGoal tb code old out ops new out (Ended HeapLimit) s s k k i i
  unfolding gave_nothing
  over_goal out new s k i lacks = record {
    gave = gave_nothing i (Ended HeapLimit);
    does = λ bytes h g is_of l m o e at held w typed.
        let set = setting g code l in
        let n = term_cells g in
        let x = lacks l m g.program is_of held in
        let over = charged_off set n (reader m) (done set (act_at g [] (action.Input t) (more n (reader m))) (more n (reader m))) (fits code l m old held) x.over in
        let read = reads_is g l m true at (room_over set m.state.heap n (fits code l m old held) x.over) in
        (ended_done code g l m new out HeapLimit ops (op.Do (action.Input t)) rest s k split at over x.roomy, ap (λ b. if b then behind_first m.lasting.typed else m.lasting.typed) read ∙ typed);
  }

  module _ (mid : Memory) (put : (l : Limits) (m : Mid) (p : CoreProgram) → IsOf p tb → Holds code l old m → HasPut code l (cells p (t ∷ [])) (map (value_of p (vars_of m.frames)) (t ∷ [])) m mid) where
    within : (g : Game) → IsOf g.program tb → (l : Limits) (m : Mid) → Holds code l old m → m.state.heap + term_cells g ≤ l.heap
    within g is_of l m held = fits code l (more (term_cells g) m) mid (put l m g.program is_of held).held

    will_read : (g : Game) → IsOf g.program tb → (l : Limits) (m : Mid) → CodeIs ops m → Holds code l old m → reads (setting g code l) (RunsOf m) ≡ true
    will_read g is_of l m at held = reads_is g l m false at (room_for (setting g code l) m.state.heap (term_cells g) (within g is_of l m held))

    -- no byte is left
    pub end_goal : (out : Lasting) (s : Spacer) (k : SinkView) (i i' : SourceView) → IsOver i.left i'.left → i.faults ≤ i'.faults → ReadsGoal tb code old out ops mid out (Ended InputEnded) s s k k i i'
    end_goal out s k i i' over later = record {
      gave = record { taken = []; ended = true; over = λ e. tt; left = λ bytes none. at_end i.left over.0 bytes none; told = λ bytes none. told_none i.left i'.left over.0 over.1 bytes none; later = later };
      does = λ bytes none g is_of l m o e at held w typed.
          let set = setting g code l in
          let n = term_cells g in
          let m' = more n (reader m) in
          let empty : m.lasting.typed ≡ [] = typed ∙ none in
          let here = put l m g.program is_of held in
          let ends = charged_on set n (reader m) (done set (act_at g [] (action.Input t) m') m') (within g is_of l m held) ∙ ap (λ b. done set (takes_line g b (value_of g.program (vars_of m.frames) t) (registers_of m') (world_of [] m')) m') empty in
          (ended_done code g l m mid out InputEnded ops (op.Do (action.Input t)) rest s k split at ends (roomy code l (more n m) mid here.held), ap (left_behind set (RunsOf m)) empty ∙ nothing_left (reads set (RunsOf m)) ∙ sym none);
    }

    -- the source failed
    pub line_lost : (s : Spacer) (k : SinkView) (i i' : SourceView) → Took i.left i'.left (λ typed rest. length (behind_first typed) ≤ length rest) → i.faults ≤ i'.faults → Rose i.faults i'.faults → LosesLine tb code old ops s s k k i i'
    line_lost s k i i' took later rose = record {
      failed = record { taken = took.taken; left = took.gave; short = took.holds; later = later; rose = rose };
      reading = λ g is_of l m at held. will_read g is_of l m at held;
      text = λ start ps text. text;
    }

    -- the sink failed at its newline
    newline_lost : (s : Spacer) (k k' : SinkView) (i i' : SourceView) (spelling : List ℕ) → Took i.left i'.left (IsLine spelling) → i.faults ≤ i'.faults → ((start : SinkView) (ps : List Print) → HasText s start k ps → BrokeOff start k' (render ps)) → LosesText tb code old ops s k k' i i'
    newline_lost s k k' i i' spelling took later broke = record {
      taken = took.taken;
      left = took.gave;
      later = later;
      loses = λ bytes is g is_of l m at held typed start ps text.
          let line : IsLine spelling m.lasting.typed bytes = subst (λ b. IsLine spelling b bytes) (sym typed) (took.holds bytes is) in
          (inr (broke start ps text), ap (λ b. if b then behind_first m.lasting.typed else m.lasting.typed) (will_read g is_of l m at held) ∙ line.behind);
    }

    pub line_breaks : (s s' : Spacer) (k k' : SinkView) (i i' : SourceView) (spelling : List ℕ) (r : Result Now Fault) → Took i.left i'.left (IsLine spelling) → i.faults ≤ i'.faults → IfErr r (λ fault. (fault ≡ Write) × ((start : SinkView) (ps : List Print) → HasText s start k ps → BrokeOff start k' (render ps))) → IfErr r (λ fault. BreaksGoal fault tb code old ops s s' k k' i i')
    line_breaks s s' k k' i i' spelling (Ok now) took later h = tt
    line_breaks s s' k k' i i' spelling (Err fault) took later h = subst (λ f. BreaksGoal f tb code old ops s s' k k' i i') (sym h.0) (newline_lost s k k' i i' spelling took later h.1)

    -- a line is read
    module _ (new : Memory) (now : Now) (into : Ref) (spelling : List ℕ) (arg : (vs : List Value) → RefsAt (meaning_of mid.arena) mid.args.items vs → (meaning_of mid.arena).value into ≡ Some (get_or vs 0 (leaf Nil)))
        (given : (letters : List ℕ) → IsShort letters → spelling ≡ encode_utf8_all letters → Gives code (spelled_list tb.words (spellings_of letters)) mid into rest new now) where
      pub line_goal : (out : Lasting) (s s' : Spacer) (k k' : SinkView) (i i' : SourceView) → Took i.left i'.left (IsLine spelling) → i.faults ≤ i'.faults → ((start : SinkView) (ps : List Print) → HasText s start k ps → HasText s' start k' (followed ps (line_behind now))) → ReadsGoal tb code old out ops new out now s s' k k' i i'
      line_goal out s s' k k' i i' took later text = record {
        gave = record { taken = took.taken; ended = false; over = λ e. absurd (cc (e)); left = took.gave; told = λ bytes h. as_told i i' bytes h; later = later };
        does = λ bytes is g is_of l m o e at held w typed.
            let set = setting g code l in
            let n = term_cells g in
            let m' = more n (reader m) in
            let line : IsLine spelling m.lasting.typed bytes = subst (λ b. IsLine spelling b bytes) (sym typed) (took.holds bytes is) in
            let v = value_of g.program (vars_of m.frames) t in
            let here = put l m g.program is_of held in
            let built : OpsBuilt (op.Do (action.Input t) ∷ rest) = subst OpsBuilt split at.1 in
            let u = line_value g.program.words (first_line m.lasting.typed) in
            let world = line_world g m.lasting.typed (world_of [] m') in
            let gave = given (letters_of (first_line m.lasting.typed)) (line_short (first_line m.lasting.typed)) line.spelled g l m' v world (refl, built.1) here.held (arg (v ∷ []) here.args) in
            let gives_it : Stands code l new now (done set (gives v u (registers_of m') world) m') = subst (λ ws. Stands code l new now (done set (gives v (spelled_list ws (spellings_of (letters_of (first_line m.lasting.typed)))) (registers_of m') world) m')) is_of.words gave in
            let act_is : act_at g [] (action.Input t) m' ≡ gives v u (registers_of m') world = takes_some g m.lasting.typed v (registers_of m') (world_of [] m') line.some in
            let stands = act_led code g l (action.Input t) (reader m) mid new now here.held (subst (λ a. Stands code l new now (done set a m')) (sym act_is) gives_it) in
            let first : m.ops ≡ op.Do (action.Input t) ∷ rest = at.0 ∙ split in
            let there : Stands code l new now (step set (RunsOf m)) = subst (λ xs. Stands code l new now (runs set xs m)) (sym first) stands in
            let says : said set (RunsOf m) ≡ line_behind now = ap (λ ps. said_to ps (step set (RunsOf m))) (ap (said_in set m) first ∙ ap said_by act_is) ∙ said_line code l new now (step set (RunsOf m)) there in
            let m1 : Mid = record m { lasting = lasting_of world } in
            let has = has_charged m1.lasting m1.gathered set n (reader m) (done set (gives v u (registers_of m') world) m') (has_unifies m1.lasting m1.gathered set (more_heap (copy_cells u) (registers_of m')) ((v, u) ∷ []) world m' refl refl) in
            let lasting = has_lasting out g l m1 (does set (op.Do (action.Input t)) (reader m)) (subst (λ a. Has m1.lasting m1.gathered (charged set n (reader m) (done set a m'))) (sym act_is) has) w in (
              record {
                stands = there;
                lasting = subst (λ xs. HasLasting out g l (runs set xs m)) (sym first) lasting;
                writes = λ start ps before. subst (λ qs. HasText s' start k' (followed ps qs)) (sym says) (text start ps before);
              },
              ap (λ b. if b then behind_first m.lasting.typed else m.lasting.typed) (will_read g is_of l m at held) ∙ line.behind,
            );
      }

-- what holds of what was given holds of what comes of it
pub line_same : (P : Now → Type 0) (Q : Type 0) (now : Now) (r : Result Now Fault) → IfOk r (λ after. after ≡ now) → IfOk r (λ after. Q) → (Q → P now) → IfOk r P
line_same P Q now (Ok after) same text f = subst P (sym same) (f text)
line_same P Q now (Err fault) same text f = tt

-- a line that was read is short
pub short_line : (spelling : List ℕ) (old new : Option (List ℕ)) → Took old new (IsLine spelling) → SpellsSome IsShort spelling
short_line spelling old new took = by_left new (λ rest is. took.holds rest is) where
  from_line : (typed rest : List ℕ) → IsLine spelling typed rest → SpellsSome IsShort spelling
  from_line typed rest line = record { letters = letters_of (first_line typed); hold = line_short (first_line typed); is = line.spelled }

  by_left : (told : Option (List ℕ)) → ((rest : List ℕ) → IsLeft told rest → IsLine spelling (took.taken ++ rest) rest) → SpellsSome IsShort spelling
  by_left None f = from_line (took.taken ++ []) [] (f [] tt)
  by_left (Some rest) f = from_line (took.taken ++ rest) rest (f rest refl)

-- a machine that stands for something has room
pub stands_roomy : (code : Code) (l : Limits) (r : Memory) (now : Now) (s : Status) → Stands code l r now s → Roomy l r
stands_roomy code l r (Runs ops) (RunsOf m) h = roomy code l m r h.1
stands_roomy code l r (Enters ops) (EntersOf c m) h = roomy code l m r h.2
stands_roomy code l r Resumes (ResumesOf on m) h = roomy code l m r h.1
stands_roomy code l r (Leaves height ops) (RunsOf m) h = roomy code l (record m { inner = h.1.around }) r h.1.held
stands_roomy code l r Misses (FailsOf m) h = roomy code l (record m { inner = h.around }) r h.held
stands_roomy code l r Fails (FailsOf m) h = roomy code l m r h
stands_roomy code l r (Ended e) (EndedOf x) h = h.1
stands_roomy code l r now s h = absurd h

pub on_err : (X : Type 0) (r : Result Now Fault) → X → OnErr r X
on_err X (Ok now) x = tt
on_err X (Err fault) x = x

pub err_at : {A : Type 0} (P : A → Type 0) (a : A) (r : Result Now Fault) → OnErr r ((x : A) → P x) → OnErr r (P a)
err_at P a (Ok now) h = tt
err_at P a (Err fault) h = h a
