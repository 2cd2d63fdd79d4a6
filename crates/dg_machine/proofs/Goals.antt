-- What steps come to.
use Rattle.std.proofs.Common.{◌+◌, Option, Some, None, ◌≡◌, ℕ, ◌<◌, List, [], ◌∷◌, ◌++◌, Bool, true, false, refl, sym, ap, ◌∙◌, subst, arith, length, nat_lt}
use Rattle.std.specs.Borrow.{Bor}
use Rattle.std.proofs.lemmas.Bool.{cond-false, le-ltb}
use Rattle.dg_base.specs.declared.program.Term.{Term}
use Rattle.dg_base.specs.declared.program.CompareOp.{CompareOp}
use Rattle.dg_base.specs.declared.program.ArithOp.{ArithOp}
use Rattle.dg_base.specs.declared.program.TestKind.{TestKind}
use Rattle.dg_meaning.specs.Values.{Value}
use Rattle.dg_meaning.specs.Cells.{cells}
use Rattle.dg_meaning.specs.Substitutions.{walk, resolved}
use Rattle.dg_meaning.specs.Numbers.{of_numbers, calculated, thrown}
use Rattle.dg_meaning.specs.Choosing.{die}
use Rattle.dg_meaning.specs.Words.{letters_in_word, joined_letters}
use Rattle.dg_meaning.specs.Path.{Registers}
use Rattle.dg_meaning.specs.World.{World, prints, worked}
use Rattle.dg_meaning.specs.Moves.{gives_number, splits, joins, throws, looked_up, whole_looks, changes, change_place, change_looks}
use Rattle.dg_meaning.specs.Changes.{change_of}
use Rattle.dg_meaning.specs.Facts.{Alteration, kinds_of}
use Rattle.dg_base.specs.declared.program.PlaceKind.{PlaceKind}
use Rattle.dg_base.specs.declared.program.Mode.{Mode}
use Rattle.std.specs.Prelude.{slice_get}
use Rattle.dg_lasting.specs.declared.lasting.Lasting.{Lasting}
use Rattle.dg_mid.specs.Actions.{terms_of, registers_of, world_of, said_by}
use Rattle.dg_base.specs.declared.run.Limits.{Limits}
use Rattle.dg_base.specs.declared.run.Ending.{Ending}
use Rattle.dg_base.specs.declared.run.Ending.TheVariants as ending
use Rattle.dg_base.specs.Written.{SinkView, Wrote, BrokeOff}
use Rattle.dg_base.proofs.WrittenLemmas.{wrote_on, broke_later}
use Rattle.dg_meaning.specs.World.{Game, Print}
use Rattle.dg_meaning.specs.Render.{render, growth}
use Rattle.dg_mid.specs.declared.code.Op.{Op}
use Rattle.dg_mid.specs.declared.code.Op.TheVariants as op
use Rattle.dg_mid.specs.declared.code.Action.{Action}
use Rattle.dg_mid.specs.declared.code.Action.TheVariants as action
use Rattle.dg_mid.specs.declared.code.Code.{Code}
use Rattle.dg_mid.specs.Code.{block_at}
use Rattle.dg_mid.specs.State.{Mid, Place, Takes as TakesOf, Calls as CallsOf, Tries as TriesOf, Choice as ChoiceOf, Status, Runs as RunsOf, Enters as EntersOf, Resumes as ResumesOf, Fails as FailsOf, Ended as EndedOf}
use Rattle.dg_mid.specs.Step.{Setting, setting, more, does, runs, step, said, said_in, said_to, followed, is_goal, at_goal, keeps_within, goes_back}
use Rattle.dg_mid.specs.Heights.{MidOrdered}
use Rattle.dg_mid.specs.Falling.{jumping}
use Rattle.dg_mid.specs.Potential.{Tidy, begins_goto}
use Rattle.dg_spacing.specs.declared.spacer.Spacer.{Spacer}
use Rattle.dg_spacing.specs.Spacer.{StandsFor}
use Rattle.dg_machine.specs.declared.now.Call.{Call}
use Rattle.dg_machine.specs.declared.now.Way.{Way}
use Rattle.dg_machine.specs.declared.now.Way.TheVariants.{Goes, Takes, Calls, Tries}
use Rattle.dg_machine.specs.declared.now.Search.{Search}
use Rattle.dg_machine.specs.declared.now.Now.{Now}
use Rattle.dg_machine.specs.declared.now.Now.TheVariants.{Runs, Enters, Resumes, Leaves, Misses, Fails, Ended}
use Rattle.dg_machine.specs.declared.memory.Memory.{Memory}
use Rattle.dg_machine.specs.declared.tables.Tables.{Tables}
use Rattle.dg_machine.specs.Tables.{IsOf}
use Rattle.dg_machine.specs.Built.{OpBuilt, OpsBuilt, IsBuilt, IsQuiet, IsQuietOp}
use Rattle.dg_machine.specs.Layout.{HasRoom, HasPut, Holds, Roomy}
use Rattle.dg_machine.specs.Measure.{with_way}
use Rattle.dg_machine.specs.Standing.{CodeIs, Stands, Falls, DoesOp, DoesMark, Asks, AsksLast, EntersRule, IsThere, GoesOn, KeepsOne, FailsTo, LeavesAround, HasStatus, Around, HasLasting, StandsWith}
use Rattle.dg_machine.specs.inside.Reading.{ReadsNone}
use Rattle.dg_machine.specs.inside.Running.{rests, DoesMarks, HasText, GoalDone, GoalLost}
use Rattle.std.proofs.Common.{map}
use Rattle.dg_base.specs.declared.program.CoreProgram.{CoreProgram}
use Rattle.dg_meaning.specs.Values.{value_of}
use Rattle.dg_arena.specs.Held.{meaning_of}
use Rattle.dg_mid.specs.State.{ToPred, vars_of}
use Rattle.dg_mid.specs.Step.{asks, last, call_of}
use Rattle.dg_machine.specs.Refs.{AreRefs}
use Rattle.dg_machine.proofs.Opens.{roomy}
use Rattle.dg_machine.proofs.Hands.{nothing_more, no_jump}
use Rattle.dg_machine.proofs.Leads.{charged_led}
use Rattle.dg_machine.proofs.Lasting.{DrawsNone, quiet_draws, run_lasting, enter_lasting}
use Rattle.dg_machine.proofs.Leaving.{block_is}
use Rattle.dg_texts.proofs.Texts.{render_grows}
use Rattle.dg_machine.proofs.Prints.{said_done, said_lost}

empty_list : {A : Type 0} (xs : List A) → length xs < 1 → xs ≡ []
empty_list [] lt = refl
empty_list (x ∷ xs) lt = absurd (omega (arith, lt))

-- ## Instructions that take no goal

pub goes_to : (code : Code) (b : ℕ) (r : Memory) (ops block : Bor (List Op)) (rest : List Op) → IsBuilt code → Tidy code → ops.now ≡ op.Goto b ∷ rest → block.now ≡ block_at code b → DoesMark code r ops (op.Goto b) rest r (Runs block)
goes_to code b r ops block rest built tidy whole is g l m o x at h =
    let none = no_jump block.now (subst (λ xs. begins_goto xs ≡ false) (sym is) (tidy.no_jumps b)) in
    let one : jumping ops.now ≡ 1 = ap jumping whole in
    record { stands = (block_is code b block.now (record m { ops = block_at code b }) built is refl, h); falls = omega (arith, none, one) }

pub is_done : (code : Code) (r : Memory) (ops : Bor (List Op)) (rest : List Op) → DoesMark code r ops op.Done rest r (Ended ending.Done)
is_done code r ops rest g l m o x at h = record { stands = (refl, roomy code l m r h); falls = omega arith }

other_fails : (g : Setting) (x : Op) (m : Mid) → is_goal x ≡ false → OpBuilt x → IsQuietOp x → (x ≡ op.Commit → ⊥) → (x ≡ op.Refuse → ⊥) → (x ≡ op.Leave → ⊥) → (x ≡ op.Return → ⊥) → ((b : ℕ) → x ≡ op.Goto b → ⊥) → (x ≡ op.Done → ⊥) → does g x m ≡ FailsOf m
other_fails g op.Commit m e b q c f v r t d = absurd (c refl)
other_fails g op.Refuse m e b q c f v r t d = absurd (f refl)
other_fails g op.Return m e b q c f v r t d = absurd (r refl)
other_fails g (op.Goto k) m e b q c f v r t d = absurd (t k refl)
other_fails g op.Done m e b q c f v r t d = absurd (d refl)
other_fails g (op.Retry alt) m e b q c f v r t d = refl
other_fails g (op.Enter vars head) m e b q c f v r t d = refl
other_fails g op.Back m e b q c f v r t d = refl
other_fails g op.Leave m e b q c f v r t d = absurd (v refl)
other_fails g (op.Keep term) m e b q c f v r t d = absurd q
other_fails g (op.TakeOut whole into) m e b q c f v r t d = refl
other_fails g x m e b q c f v r t d = absurd (cc)

pub fails_else : (code : Code) (r : Memory) (ops : Bor (List Op)) (x : Op) (rest : List Op) → is_goal x ≡ false → IsQuietOp x → (x ≡ op.Commit → ⊥) → (x ≡ op.Refuse → ⊥) → (x ≡ op.Leave → ⊥) → (x ≡ op.Return → ⊥) → ((b : ℕ) → x ≡ op.Goto b → ⊥) → (x ≡ op.Done → ⊥) → DoesMark code r ops x rest r Fails
fails_else code r ops x rest e q c f v t j d g l m o b at h = subst (Falls code l r (Runs ops) r Fails) (sym (other_fails (setting g code l) x m e b q c f v t j d)) (record { stands = h; falls = omega arith })

-- ## Steps that take no goal

-- an instruction that takes no goal and keeps nothing
pub quiet_mark_op : (x : Op) → is_goal x ≡ false → ((t : Term) → x ≡ op.Keep t → ⊥) → IsQuietOp x
quiet_mark_op (op.Do a) e k = absurd (cc)
quiet_mark_op (op.Select site mode blocks behind) e k = absurd (cc)
quiet_mark_op (op.Collect term into alt) e k = absurd (cc)
quiet_mark_op (op.Keep term) e k = absurd (k term refl)
quiet_mark_op (op.Find place terms many next) e k = absurd (cc)
quiet_mark_op x e k = tt

quiet_mark : (g : Setting) (m : Mid) (x : Op) (rest : List Op) → is_goal x ≡ false → said_in g m (x ∷ rest) ≡ []
quiet_mark g m (op.Do a) rest e = absurd (cc)
quiet_mark g m x rest e = refl

pub marks_run : (tb : Tables) (code : Code) (old new : Memory) (out : Lasting) (now : Now) (ops : Bor (List Op)) (x : Op) (rest : List Op) → ops.now ≡ x ∷ rest → is_goal x ≡ false → IsQuietOp x → DoesMark code old ops x rest new now → DoesMarks tb code old out (Runs ops) new out now
marks_run tb code old new out now ops x rest split e quiet does g is_of l (RunsOf m) o sk t h w =
    let is : m.ops ≡ x ∷ rest = h.0.0 ∙ split in
    let built : OpsBuilt (x ∷ rest) = subst OpsBuilt split h.0.1 in
    let done = does g l (record m { ops = rest }) o built.0 (refl, built.1) h.1 in
    record {
      stands = subst (λ xs. Stands code l new now (runs (setting g code l) xs m)) (sym is) done.stands;
      lasting = subst (λ xs. HasLasting out g l (runs (setting g code l) xs m)) (sym is) (run_lasting out g l code x (record m { ops = rest }) built.0 (quiet_draws x quiet) w);
      falls = λ over. done.falls;
      quiet = ap (λ ps. said_to ps (step (setting g code l) (RunsOf m))) (ap (said_in (setting g code l) m) is ∙ quiet_mark (setting g code l) m x rest e);
    }
marks_run tb code old new out now ops x rest split e quiet does g is_of l s o sk t h w = absurd h

-- what is gathered is kept
pub marks_keep : (tb : Tables) (code : Code) (old new : Memory) (out out' : Lasting) (now : Now) (ops : Bor (List Op)) (t : Term) (rest : List Op) → ops.now ≡ op.Keep t ∷ rest → KeepsOne code old out ops new now out' → DoesMarks tb code old out (Runs ops) new out' now
marks_keep tb code old new out out' now ops t rest split keeps g is_of l (RunsOf m) o sk e h w =
    let is : m.ops ≡ op.Keep t ∷ rest = h.0.0 ∙ split in
    let kept = keeps g l (record m { ops = rest }) h.1 w in
    record {
      stands = subst (λ xs. Stands code l new now (runs (setting g code l) xs m)) (sym is) kept.done.stands;
      lasting = subst (λ xs. HasLasting out' g l (runs (setting g code l) xs m)) (sym is) kept.lasting;
      falls = λ over. kept.done.falls;
      quiet = ap (λ ps. said_to ps (step (setting g code l) (RunsOf m))) (ap (said_in (setting g code l) m) is);
    }
marks_keep tb code old new out out' now ops t rest split keeps g is_of l s o sk e h w = absurd h

pub marks_none : (tb : Tables) (code : Code) (r : Memory) (out : Lasting) (ops : Bor (List Op)) → length ops.now < 1 → DoesMarks tb code r out (Runs ops) r out Fails
marks_none tb code r out ops lt g is_of l (RunsOf m) o sk t h w =
    let none : m.ops ≡ [] = h.0.0 ∙ empty_list ops.now lt in
    record {
      stands = subst (λ xs. Stands code l r Fails (runs (setting g code l) xs m)) (sym none) h.1;
      lasting = subst (λ xs. HasLasting out g l (runs (setting g code l) xs m)) (sym none) w;
      falls = λ over. omega arith;
      quiet = ap (λ ps. said_to ps (step (setting g code l) (RunsOf m))) (ap (said_in (setting g code l) m) none);
    }
marks_none tb code r out ops lt g is_of l s o sk t h w = absurd h

pub marks_enter : (tb : Tables) (code : Code) (old new : Memory) (out : Lasting) (now : Now) (ops : Bor (List Op)) → EntersRule tb code old old.call ops new now → DoesMarks tb code old out (Enters ops) new out now
marks_enter tb code old new out now ops enters g is_of l (EntersOf c m) o sk t h w = let done = enters g is_of l m c h.0 h.1 h.2 in record { stands = done.stands; lasting = enter_lasting out g l code c m w; falls = λ over. done.falls; quiet = refl }
marks_enter tb code old new out now ops enters g is_of l s o sk t h w = absurd h

pub marks_resume : (tb : Tables) (code : Code) (old new : Memory) (out out' : Lasting) (now : Now) → GoesOn code old out old.way new now out' → DoesMarks tb code old out Resumes new out' now
marks_resume tb code old new out out' now goes g is_of l (ResumesOf on m) o sk t h w = let gone = goes g l m on sk.0 h.0 h.1 w in record { stands = gone.done.stands; lasting = gone.lasting; falls = λ over. gone.done.falls; quiet = refl }
marks_resume tb code old new out out' now goes g is_of l s o sk t h w = absurd h

pub marks_fail : (tb : Tables) (code : Code) (old new : Memory) (out out' : Lasting) (now : Now) → FailsTo code old out new now out' → DoesMarks tb code old out Fails new out' now
marks_fail tb code old new out out' now fails g is_of l (FailsOf m) o sk t h w = let failed = fails g l m h w in record { stands = failed.done.stands; lasting = failed.lasting; falls = λ over. failed.done.falls; quiet = refl }
marks_fail tb code old new out out' now fails g is_of l s o sk t h w = absurd h

pub marks_leave : (tb : Tables) (code : Code) (old new : Memory) (out : Lasting) (now : Now) (height : ℕ) (ops : Bor (List Op)) → LeavesAround code old height ops new now → DoesMarks tb code old out (Leaves height ops) new out now
marks_leave tb code old new out now height ops leaves g is_of l (RunsOf m) o sk t h w =
    let done = leaves g l m o h in
    record {
      stands = done.stands;
      lasting = subst (λ xs. HasLasting out g l (runs (setting g code l) xs m)) (sym h.0.0) (run_lasting out g l code op.Commit (record m { ops = ops.now }) tt tt w);
      falls = λ over. done.falls;
      quiet = ap (λ ps. said_to ps (step (setting g code l) (RunsOf m))) (ap (said_in (setting g code l) m) h.0.0);
    }
marks_leave tb code old new out now height ops leaves g is_of l s o sk t h w = absurd h

-- in which inner construct it fails doesn't matter
back_within : (cs : List ChoiceOf) (ps : List Place) (m : Mid) → goes_back cs (record m { inner = ps }) ≡ goes_back cs m
back_within [] ps m = refl
back_within (c ∷ cs) ps m = refl

pub marks_miss : (tb : Tables) (code : Code) (old new : Memory) (out out' : Lasting) (now : Now) → FailsTo code old out new now out' → DoesMarks tb code old out Misses new out' now
marks_miss tb code old new out out' now fails g is_of l (FailsOf m) o sk t h w =
    let failed = fails g l (record m { inner = h.around }) h.held w in
    let same = back_within m.choices h.around m in
    record { stands = subst (Stands code l new now) same failed.done.stands; lasting = subst (HasLasting out' g l) same failed.lasting; falls = λ over. failed.done.falls; quiet = refl }
marks_miss tb code old new out out' now fails g is_of l s o sk t h w = absurd h

-- ## What memory holds before a step

pub record IsHeld (code : Code) (r : Memory) : Type 0 where
  pub limits : Limits
  pub mid : Mid
  pub held : Holds code limits r mid

held_in : (code : Code) (l : Limits) (r : Memory) (now : Now) (s : Status) → rests now ≡ false → Stands code l r now s → IsHeld code r
held_in code l r (Runs ops) (RunsOf m) e h = record { limits = l; mid = m; held = h.1 }
held_in code l r (Enters ops) (EntersOf c m) e h = record { limits = l; mid = m; held = h.2 }
held_in code l r Resumes (ResumesOf on m) e h = record { limits = l; mid = m; held = h.1 }
held_in code l r (Leaves height ops) (RunsOf m) e h = record { limits = l; mid = record m { inner = h.1.around }; held = h.1.held }
held_in code l r Misses (FailsOf m) e h = record { limits = l; mid = record m { inner = h.around }; held = h.held }
held_in code l r Fails (FailsOf m) e h = record { limits = l; mid = m; held = h }
held_in code l r (Ended x) s e h = absurd (cc)
held_in code l r now s e h = absurd h

pub held_of : (code : Code) (r : Memory) (now : Now) → HasStatus code r now → rests now ≡ false → IsHeld code r
held_of code r now s e = held_in code s.limits r now s.status e s.stands

pub room_of : (code : Code) (r : Memory) (now : Now) → HasStatus code r now → rests now ≡ false → HasRoom r
room_of code r now s e = (held_of code r now s e).held.0.room

pub there_in : (code : Code) (l : Limits) (r : Memory) (way : Way) (s : Status) → Stands code l (with_way r way) Resumes s → IsThere code r way
there_in code l r (Goes b) s h = tt
there_in code l r (Takes b) (ResumesOf (TakesOf b' into) m) h = (h.0.1, into, h.0.2)
there_in code l r (Takes b) (ResumesOf on m) h = absurd h.0
there_in code l r (Takes b) s h = absurd h
there_in code l r (Calls k pred left) (ResumesOf (CallsOf c rules) m) h = (h.0.there, (c.args, h.0.call.args))
there_in code l r (Calls k pred left) (ResumesOf on m) h = absurd h.0
there_in code l r (Tries k from end) (ResumesOf (TriesOf f objects) m) h = (f.args, h.0.0.args)
there_in code l r (Tries k from end) (ResumesOf on m) h = absurd h.0
there_in code l r (Tries k from end) s h = absurd h
there_in code l r (Calls k pred left) s h = absurd h

pub there_of : (code : Code) (r : Memory) (now : Now) → HasStatus code r now → now ≡ Resumes → IsThere code r r.way
there_of code r now s is = there_in code s.limits r r.way s.status (subst (λ n. Stands code s.limits r n s.status) is s.stands)

pub are_there : (code : Code) (r : Memory) (way : Way) (k : Search) (from end : ℕ) → way ≡ Tries k from end → IsThere code r way → AreRefs (meaning_of r.arena) r.args.items
are_there code r way k from end is h = subst (IsThere code r) is h

pub is_there : (code : Code) (r : Memory) (way : Way) (k : Call) (pred left : ℕ) → way ≡ Calls k pred left → IsThere code r way → IsThere code r (Calls k pred left)
is_there code r way k pred left is h = subst (IsThere code r) is h

-- a rule that is entered is built, and its arguments are there
pub record MayEnter (r : Memory) (ops : List Op) : Type 0 where
  pub built : OpsBuilt ops
  pub args : AreRefs (meaning_of r.arena) r.args.items

entering_in : (code : Code) (l : Limits) (r : Memory) (ops : Bor (List Op)) (s : Status) → Stands code l r (Enters ops) s → MayEnter r ops.now
entering_in code l r ops (EntersOf c m) h = record { built = h.0.1; args = (c.args, h.1.args) }
entering_in code l r ops s h = absurd h

pub entering_of : (code : Code) (r : Memory) (now : Now) (ops : Bor (List Op)) → HasStatus code r now → now ≡ Enters ops → MayEnter r ops.now
entering_of code r now ops s is = entering_in code s.limits r ops s.status (subst (λ n. Stands code s.limits r n s.status) is s.stands)

pub built_first : (all : List Op) (x : Op) (rest : List Op) → all ≡ x ∷ rest → OpsBuilt all → OpBuilt x
built_first all x rest is h = let parts : OpsBuilt (x ∷ rest) = subst OpsBuilt is h in parts.0

-- ## Instructions that take a goal

module _ (tb : Tables) (code : Code) (old mid new : Memory) (now : Now) (pred : ℕ) (terms : List Term) (many : Bool) (rest : List Op)
    (put : (l : Limits) (m : Mid) (p : CoreProgram) → IsOf p tb → Holds code l old m → HasPut code l (cells p terms) (map (value_of p (vars_of m.frames)) terms) m mid) where
  pub asks_op : (next : ℕ) → Asks code mid pred many next new now → DoesOp tb code old (op.Ask pred terms many next) rest new now
  asks_op next asked g is_of l m o b at h =
      let n = cells g.program terms in
      let vs = map (value_of g.program (vars_of m.frames)) terms in
      let x = put l m g.program is_of h in
      charged_led code g l n m (more n m) (asks (setting g code l) pred (call_of vs many next (more n m)) (more n m)) mid new now x.held refl (asked g l (more n m) vs x.held x.args)

  pub asks_last_op : AsksLast code mid pred many new now → DoesOp tb code old (op.LastAsk pred terms many) rest new now
  asks_last_op asked g is_of l m o b at h =
      let n = cells g.program terms in
      let vs = map (value_of g.program (vars_of m.frames)) terms in
      let x = put l m g.program is_of h in
      charged_led code g l n m (more n m) (last (setting g code l) (ToPred pred) vs many m.frames (more n m)) mid new now x.held refl (asked g l (more n m) vs x.held x.args)

pub takes_op : (tb : Tables) (code : Code) (r : Memory) (rest : Bor (List Op)) → DoesOp tb code r op.Take rest.now r (Runs rest)
takes_op tb code r rest g is_of l m o b at h = (at, h)

pub quits_op : (tb : Tables) (code : Code) (r : Memory) (rest : List Op) → DoesOp tb code r (op.Do action.Quit) rest r (Ended ending.Quit)
quits_op tb code r rest g is_of l m o b at h = (refl, roomy code l m r h)

pub fails_act : (tb : Tables) (code : Code) (r : Memory) (a : Action) (rest : List Op) → IsQuiet a → (a ≡ action.Just → ⊥) → (a ≡ action.Quit → ⊥) → ((x y : Term) → a ≡ action.Equal x y → ⊥) → ((f : CompareOp) (x y : Term) → a ≡ action.Compare f x y → ⊥) → ((f : ArithOp) (x y z : Term) → a ≡ action.Arith f x y z → ⊥) → ((f : TestKind) (x : Term) → a ≡ action.Test f x → ⊥) → ((x y : Term) → a ≡ action.SplitWord x y → ⊥) → ((x y : Term) → a ≡ action.JoinWords x y → ⊥) → DoesOp tb code r (op.Do a) rest r Fails
fails_act tb code r action.Fail rest q j u k d v t sw jw g is_of l m o b at h = nothing_more code l r m h
fails_act tb code r action.Just rest q j u k d v t sw jw g is_of l m o b at h = absurd (j refl)
fails_act tb code r action.Quit rest q j u k d v t sw jw g is_of l m o b at h = absurd (u refl)
fails_act tb code r (action.Input x) rest q j u k d v t sw jw g is_of l m o b at h = absurd q
fails_act tb code r action.Stop rest q j u k d v t sw jw g is_of l m o b at h = absurd q
fails_act tb code r (action.Text name) rest q j u k d v t sw jw g is_of l m o b at h = absurd q
fails_act tb code r (action.Gap kind) rest q j u k d v t sw jw g is_of l m o b at h = absurd q
fails_act tb code r (action.GapN x) rest q j u k d v t sw jw g is_of l m o b at h = absurd q
fails_act tb code r (action.Print x) rest q j u k d v t sw jw g is_of l m o b at h = absurd q
fails_act tb code r (action.Random x y z) rest q j u k d v t sw jw g is_of l m o b at h = absurd q
fails_act tb code r (action.Now place xs sets) rest q j u k d v t sw jw g is_of l m o b at h = absurd q
fails_act tb code r (action.Arith f x y z) rest q j u k d v t sw jw g is_of l m o b at h = absurd (v f x y z refl)
fails_act tb code r (action.Test f x) rest q j u k d v t sw jw g is_of l m o b at h = absurd (t f x refl)
fails_act tb code r (action.Compare f x y) rest q j u k d v t sw jw g is_of l m o b at h = absurd (d f x y refl)
fails_act tb code r (action.Equal x y) rest q j u k d v t sw jw g is_of l m o b at h = absurd (k x y refl)
fails_act tb code r (action.SplitWord x y) rest q j u k d v t sw jw g is_of l m o b at h = absurd (sw x y refl)
fails_act tb code r (action.JoinWords x y) rest q j u k d v t sw jw g is_of l m o b at h = absurd (jw x y refl)

pub other_goal : (x : Op) → is_goal x ≡ true → OpBuilt x → IsQuietOp x → ((a : Action) → x ≡ op.Do a → ⊥) → ((pred : ℕ) (ts : List Term) (many : Bool) (next : ℕ) → x ≡ op.Ask pred ts many next → ⊥) → ((pred : ℕ) (ts : List Term) (many : Bool) → x ≡ op.LastAsk pred ts many → ⊥) →
    (x ≡ op.Take → ⊥) → ((alt : ℕ) → x ≡ op.Branch alt → ⊥) → (x ≡ op.Once → ⊥) → ((alt : ℕ) → x ≡ op.Try alt → ⊥) → ((alt : ℕ) → x ≡ op.Shield alt → ⊥) → ((a : Term) (o : Option Term) (many : Bool) (next : ℕ) → x ≡ op.Query a o many next → ⊥) → ((a : Term) (o : Option Term) (many : Bool) → x ≡ op.LastQuery a o many → ⊥) → ⊥
other_goal (op.Do a) e b q d k la t br on tr sh qu lq = d a refl
other_goal (op.Ask pred ts many next) e b q d k la t br on tr sh qu lq = k pred ts many next refl
other_goal (op.LastAsk pred ts many) e b q d k la t br on tr sh qu lq = la pred ts many refl
other_goal op.Take e b q d k la t br on tr sh qu lq = t refl
other_goal (op.Branch alt) e b q d k la t br on tr sh qu lq = br alt refl
other_goal op.Once e b q d k la t br on tr sh qu lq = on refl
other_goal (op.Try alt) e b q d k la t br on tr sh qu lq = tr alt refl
other_goal (op.Query x y many next) e b q d k la t br on tr sh qu lq = qu x y many next refl
other_goal (op.LastQuery x y many) e b q d k la t br on tr sh qu lq = lq x y many refl
other_goal (op.Find place ts many next) e b q d k la t br on tr sh qu lq = q
other_goal (op.Select site mode bs behind) e b q d k la t br on tr sh qu lq = q
other_goal (op.Shield alt) e b q d k la t br on tr sh qu lq = sh alt refl
other_goal (op.Collect x y alt) e b q d k la t br on tr sh qu lq = q
other_goal x e b q d k la t br on tr sh qu lq = absurd (cc)

pub quiet_else : (a : Action) → ((name : _) → a ≡ action.Text name → ⊥) → ((kind : _) → a ≡ action.Gap kind → ⊥) → ((x : Term) → a ≡ action.GapN x → ⊥) → ((x : Term) → a ≡ action.Print x → ⊥) → ((x y z : Term) → a ≡ action.Random x y z → ⊥) → ((place : ℕ) (xs : List Term) (sets : Bool) → a ≡ action.Now place xs sets → ⊥) → (a ≡ action.Stop → ⊥) → ReadsNone (op.Do a) → IsQuiet a
quiet_else (action.Text name) t g n p d w v r = t name refl
quiet_else (action.Gap kind) t g n p d w v r = g kind refl
quiet_else (action.GapN x) t g n p d w v r = n x refl
quiet_else (action.Print x) t g n p d w v r = p x refl
quiet_else (action.Random x y z) t g n p d w v r = d x y z refl
quiet_else (action.Now place xs sets) t g n p d w v r = w place xs sets refl
quiet_else (action.Input x) t g n p d w v r = absurd r
quiet_else action.Stop t g n p d w v r = absurd (v refl)
quiet_else a t g n p d w v r = tt

pub first_goal : (all : List Op) (x : Op) (rest : List Op) → all ≡ x ∷ rest → at_goal all ≡ true → is_goal x ≡ true
first_goal all x rest is e = sym (ap at_goal is) ∙ e

pub quiet_op : (x : Op) → is_goal x ≡ true → ((a : Action) → x ≡ op.Do a → ⊥) → ((site : ℕ) (mode : Mode) (blocks : List ℕ) (behind : ℕ) → x ≡ op.Select site mode blocks behind → ⊥) → ((term into : Term) (alt : ℕ) → x ≡ op.Collect term into alt → ⊥) → ((place : Option ℕ) (terms : List Term) (many : Bool) (next : ℕ) → x ≡ op.Find place terms many next → ⊥) → IsQuietOp x
quiet_op (op.Do a) e d s c f = absurd (d a refl)
quiet_op (op.Select site mode blocks behind) e d s c f = absurd (s site mode blocks behind refl)
quiet_op (op.Collect term into alt) e d s c f = absurd (c term into alt refl)
quiet_op (op.Keep term) e d s c f = absurd (cc)
quiet_op (op.Find place terms many next) e d s c f = absurd (f place terms many next refl)
quiet_op x e d s c f = tt

quiet_gives : (o : Option ℕ) (v : Value) (r : Registers) (w : World) → said_by (gives_number o v r w) ≡ prints w.events
quiet_gives None v r w = refl
quiet_gives (Some n) v r w = refl

quiet_throws : (o : Option ℕ) (v : Value) (r : Registers) (w : World) → said_by (throws o v r w) ≡ prints w.events
quiet_throws None v r w = refl
quiet_throws (Some n) v r w = refl

-- a random number prints nothing
pub quiet_random : (g : Setting) (m : Mid) (a b into : Term) (rest : List Op) → said_in g m (op.Do (action.Random a b into) ∷ rest) ≡ []
quiet_random g m a b into rest =
    let m' = more (cells g.game.program (terms_of (action.Random a b into))) m in
    let v = value_of g.game.program (vars_of m.frames) a in
    let u = value_of g.game.program (vars_of m.frames) b in
    quiet_throws (of_numbers (thrown (die g.game.dice m.lasting.dice)) (walk m.state.subst v) (walk m.state.subst u)) (value_of g.game.program (vars_of m.frames) into) (registers_of m') (worked (looked_up (registers_of m') v + looked_up (registers_of m') u) (world_of [] m'))

quiet_alters : (g : Game) (k : PlaceKind) (a : Option Alteration) (w : World) → said_by (changes g k a [] w) ≡ prints w.events
quiet_alters g k None w = refl
quiet_alters g k (Some a) w = refl

quiet_places : (g : Game) (place : ℕ) (k : Option PlaceKind) (vs : List Value) (sets : Bool) (r : Registers) (w : World) → said_by (change_place g place k vs sets [] r w) ≡ prints w.events
quiet_places g place None vs sets r w = refl
quiet_places g place (Some k) vs sets r w = quiet_alters g k (change_of (length g.program.objects) k place sets (map (resolved r.bound) vs)) (worked (change_looks k r vs) w)

-- nor does a change
pub quiet_change : (g : Setting) (m : Mid) (place : ℕ) (terms : List Term) (sets : Bool) (rest : List Op) → said_in g m (op.Do (action.Now place terms sets) ∷ rest) ≡ []
quiet_change g m place terms sets rest =
    let m' = more (cells g.game.program terms) m in
    quiet_places g.game place (slice_get (kinds_of g.game.program) place) (map (value_of g.game.program (vars_of m.frames)) terms) sets (registers_of m') (world_of [] m')

quiet_splits : (g : Game) (o : Option (List ℕ)) (v : Value) (r : Registers) (w : World) → said_by (splits g o v r w) ≡ prints w.events
quiet_splits g None v r w = refl
quiet_splits g (Some letters) v r w = refl

quiet_joins : (g : Game) (o : Option (List ℕ)) (v : Value) (r : Registers) (w : World) → said_by (joins g o v r w) ≡ prints w.events
quiet_joins g None v r w = refl
quiet_joins g (Some letters) v r w = refl

quiet_goal : (g : Setting) (m : Mid) (x : Op) (rest : List Op) → IsQuietOp x → OpBuilt x → said_in g m (x ∷ rest) ≡ []
quiet_goal g m (op.Do action.Just) rest q b = refl
quiet_goal g m (op.Do (action.Equal x y)) rest q b = refl
quiet_goal g m (op.Do (action.Arith f x y z)) rest q b =
    let m' = more (cells g.game.program (terms_of (action.Arith f x y z))) m in
    let v = value_of g.game.program (vars_of m.frames) x in
    let u = value_of g.game.program (vars_of m.frames) y in
    quiet_gives (of_numbers (calculated f) (walk m.state.subst v) (walk m.state.subst u)) (value_of g.game.program (vars_of m.frames) z) (registers_of m') (worked (looked_up (registers_of m') v + looked_up (registers_of m') u) (world_of [] m'))
quiet_goal g m (op.Do (action.SplitWord x y)) rest q b =
    let m' = more (cells g.game.program (terms_of (action.SplitWord x y))) m in
    let v = value_of g.game.program (vars_of m.frames) x in
    quiet_splits g.game (letters_in_word g.game.program.words (walk m.state.subst v)) (value_of g.game.program (vars_of m.frames) y) (registers_of m') (worked (looked_up (registers_of m') v) (world_of [] m'))
quiet_goal g m (op.Do (action.JoinWords x y)) rest q b =
    let m' = more (cells g.game.program (terms_of (action.JoinWords x y))) m in
    let v = value_of g.game.program (vars_of m.frames) x in
    quiet_joins g.game (joined_letters g.game.program.words (resolved m.state.subst v)) (value_of g.game.program (vars_of m.frames) y) (registers_of m') (worked (whole_looks (registers_of m') v) (world_of [] m'))
quiet_goal g m (op.Do (action.Test f x)) rest q b = refl
quiet_goal g m (op.Do (action.Compare f x y)) rest q b = refl
quiet_goal g m (op.Do action.Fail) rest q b = refl
quiet_goal g m (op.Do action.Quit) rest q b = refl
quiet_goal g m (op.Do (action.Input x)) rest q b = absurd q
quiet_goal g m (op.Do action.Stop) rest q b = absurd q
quiet_goal g m (op.Do (action.Text name)) rest q b = absurd q
quiet_goal g m (op.Do (action.Gap kind)) rest q b = absurd q
quiet_goal g m (op.Do (action.GapN x)) rest q b = absurd q
quiet_goal g m (op.Do (action.Print x)) rest q b = absurd q
quiet_goal g m (op.Do (action.Random x y z)) rest q b = absurd q
quiet_goal g m (op.Do (action.Now place xs sets)) rest q b = absurd q
quiet_goal g m x rest q b = refl

module _ (tb : Tables) (code : Code) (g : Game) (is_of : IsOf g.program tb) (l : Limits) (m : Mid) (old new : Memory) (now : Now) (ops : List Op) (x : Op) (rest : List Op) (split : ops ≡ x ∷ rest) (at : CodeIs ops m) (h : Holds code l old m) where
  abbrev set : Setting
  set = setting g code l

  is_first : m.ops ≡ x ∷ rest
  is_first = at.0 ∙ split

  built_here : OpsBuilt (x ∷ rest)
  built_here = subst OpsBuilt split at.1

  -- an instruction that prints nothing here, with what lasts behind it
  pub silent_with : (s : Spacer) (k : SinkView) (out : Lasting) → said_in set m (x ∷ rest) ≡ [] → StandsWith code g l new now out (does set x (record m { ops = rest })) → GoalDone code g l new out now s s k k m
  silent_with s k out silent with_it =
      let none : said set (RunsOf m) ≡ [] = ap (λ ps. said_to ps (step set (RunsOf m))) (ap (said_in set m) is_first ∙ silent) in
      record {
        stands = subst (λ xs. Stands code l new now (runs set xs m)) (sym is_first) with_it.stands;
        lasting = subst (λ xs. HasLasting out g l (runs set xs m)) (sym is_first) with_it.lasting;
        writes = λ start ps text. subst (λ qs. HasText s start k (followed ps qs)) (sym none) text;
      }

  -- the same of one that leaves what lasts
  pub silent_done : (s : Spacer) (k : SinkView) (out : Lasting) → MidOrdered m → Around out g l m → said_in set m (x ∷ rest) ≡ [] → DrawsNone x → DoesOp tb code old x rest new now → GoalDone code g l new out now s s k k m
  silent_done s k out o w silent draws led =
      let stands = led g is_of l (record m { ops = rest }) o built_here.0 (refl, built_here.1) h in
      silent_with s k out silent (record { stands = stands; lasting = run_lasting out g l code x (record m { ops = rest }) built_here.0 draws w })

  pub quiet_done : (s : Spacer) (k : SinkView) (out : Lasting) → MidOrdered m → Around out g l m → IsQuietOp x → DoesOp tb code old x rest new now → GoalDone code g l new out now s s k k m
  quiet_done s k out o w quiet led = silent_done s k out o w (quiet_goal set m x rest quiet built_here.0) (quiet_draws x quiet) led

said_ended : (ps : List Print) (e : Ending) → said_to ps (EndedOf e) ≡ []
said_ended [] e = refl
said_ended (p ∷ ps) e = refl

-- an instruction at which the run ends prints nothing
pub ended_done : (code : Code) (g : Game) (l : Limits) (m : Mid) (new : Memory) (out : Lasting) (e : Ending) (ops : List Op) (x : Op) (rest : List Op) (s : Spacer) (k : SinkView) → ops ≡ x ∷ rest → CodeIs ops m → does (setting g code l) x (record m { ops = rest }) ≡ EndedOf e → Roomy l new → GoalDone code g l new out (Ended e) s s k k m
ended_done code g l m new out e ops x rest s k split at is room =
    let set = setting g code l in
    let ends : step set (RunsOf m) ≡ EndedOf e = ap (λ xs. runs set xs m) (at.0 ∙ split) ∙ is in
    let none : said set (RunsOf m) ≡ [] = ap (said_to (said_in set m m.ops)) ends ∙ said_ended (said_in set m m.ops) e in
    record {
      stands = subst (Stands code l new (Ended e)) (sym ends) (refl, room);
      lasting = subst (HasLasting out g l) (sym ends) tt;
      writes = λ start ps text. subst (λ qs. HasText s start k (followed ps qs)) (sym none) text;
    }

-- nothing is kept that is too much
pub keeps_none : (g : Game) (code : Code) (l : Limits) (next : Status) → keeps_within (setting g code l) 0 next ≡ next
keeps_none g code l next = cond-false (nat_lt l.keep 0) (EndedOf ending.KeepLimit) next (le-ltb l.keep 0 (omega arith))

-- ## What is printed

-- an action has taken so many cells, and goes on with what it prints
module _ (code : Code) (g : Game) (l : Limits) (m : Mid) (r : Memory) (n : ℕ) (ops : List Op) (a : Action) (p : Print) (rest : Bor (List Op)) (split : ops ≡ op.Do a ∷ rest.now) (at : CodeIs ops m) (h : Holds code l r (more n m))
    (done_is : does (setting g code l) (op.Do a) (record m { ops = rest.now }) ≡ RunsOf (more n (record m { ops = rest.now }))) (said_is : said_in (setting g code l) m (op.Do a ∷ rest.now) ≡ p ∷ []) where
  pub printed_done : (s s' : Spacer) (k k' : SinkView) (out : Lasting) → Around out g l m → ((ps : List Print) → StandsFor s ps → StandsFor s' (ps ++ p ∷ [])) → ((ps : List Print) → StandsFor s ps → Wrote k k' (growth ps p)) → GoalDone code g l r out (Runs rest) s s' k k' m
  printed_done s s' k k' out w stands wrote =
      said_done code g l m r n ops a (p ∷ []) rest split at h done_is said_is s s' k k' out w
      (λ start ps text. record { stands = stands ps text.stands; wrote = subst (Wrote start k') (sym (render_grows ps p)) (wrote_on start k k' (render ps) (growth ps p) text.wrote (wrote ps text.stands)) })

  pub printed_lost : (s : Spacer) (k k' : SinkView) (start : SinkView) (ps : List Print) → ((ps : List Print) → StandsFor s ps → BrokeOff k k' (growth ps p)) → HasText s start k ps → GoalLost g code l k k' m start ps
  printed_lost s k k' start ps broke text =
      said_lost code g l m r n ops a (p ∷ []) rest split at h done_is said_is k k' start ps
      (subst (BrokeOff start k') (sym (render_grows ps p)) (broke_later start k k' (render ps) (growth ps p) text.wrote (broke ps text.stands)))
