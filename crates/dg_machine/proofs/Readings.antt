-- What is taken of typed bytes.
use Rattle.std.proofs.Common.{◌≡◌, ℕ, List, [], ◌∷◌, ◌++◌, Bool, true, false, Option, Some, None, refl, sym, ap, ◌∙◌, subst, arith, inl, length, append_assoc, length-append}
use Rattle.std.specs.Prelude.{if◌then◌else◌}
use Rattle.dg_base.specs.Streams.{SourceView}
use Rattle.dg_base.specs.Written.{SinkView}
use Rattle.dg_meaning.specs.Words.{behind_first}
use Rattle.dg_meaning.specs.Shows.{IsLeft}
use Rattle.dg_meaning.specs.Engines.{told_behind}
use Rattle.dg_meaning.proofs.Engines.{as_told, some_left}
use Rattle.dg_mid.specs.declared.code.Op.{Op}
use Rattle.dg_mid.specs.declared.code.Op.TheVariants as op
use Rattle.dg_mid.specs.declared.code.Action.TheVariants as action
use Rattle.dg_mid.specs.declared.code.Code.{Code}
use Rattle.dg_mid.specs.Left.{reads_in, reads, left_behind}
use Rattle.dg_mid.specs.State.{Mid, Status, Runs as RunsOf, Enters as EntersOf, Resumes as ResumesOf, Fails as FailsOf, Ended as EndedOf}
use Rattle.dg_mid.specs.Step.{Setting, setting, at_goal, takes_goal}
use Rattle.dg_lasting.specs.declared.lasting.Lasting.{Lasting}
use Rattle.dg_spacing.specs.declared.spacer.Spacer.{Spacer}
use Rattle.dg_machine.specs.declared.now.Now.{Now}
use Rattle.dg_machine.specs.declared.memory.Memory.{Memory}
use Rattle.dg_machine.specs.declared.tables.Tables.{Tables}
use Rattle.dg_machine.specs.inside.Reading.{IsEnd, LeftBehind, Gave, ReadsNone, NoLine}
use Rattle.dg_machine.specs.inside.Running.{DoesGoal, LosesGoal, LosesText, ReadsGoal}

-- ## Steps that read nothing

mark_reads : (s : Setting) (m : Mid) (ops : List Op) → at_goal ops ≡ false → reads_in s m ops ≡ false
mark_reads s m [] e = refl
mark_reads s m (op.Do a ∷ ops) e = absurd (cc (e))
mark_reads s m (x ∷ ops) e = refl

unread : (s : Setting) (now : Status) → takes_goal now ≡ false → reads s now ≡ false
unread s (RunsOf m) e = mark_reads s m m.ops e
unread s (EntersOf c m) e = refl
unread s (ResumesOf on m) e = refl
unread s (FailsOf m) e = refl
unread s (EndedOf x) e = refl

left_as : (s : Setting) (now : Status) (rest : List ℕ) → reads s now ≡ false → left_behind s now rest ≡ rest
left_as s now rest e = ap (λ b. if b then behind_first rest else rest) e

-- a step that takes no goal leaves the typed bytes
pub mark_leaves : (s : Setting) (now : Status) (rest : List ℕ) → takes_goal now ≡ false → left_behind s now rest ≡ rest
mark_leaves s now rest e = left_as s now rest (unread s now e)

-- so does code whose first instruction reads no line
line_reads : (s : Setting) (m : Mid) (ops : List Op) → NoLine ops → reads_in s m ops ≡ false
line_reads s m [] b = refl
line_reads s m (op.Do (action.Input t) ∷ ops) b = absurd b
line_reads s m (x ∷ ops) b = refl

-- ## What a source gave

unfoldable pub gave_nothing : (i : SourceView) (now : Now) → Gave i i now
gave_nothing i now = record { taken = []; ended = false; over = λ e. absurd (cc (e)); left = λ rest h. h; told = λ rest h. as_told i i rest h; later = omega arith }

pub goes_unread : (t : Tables) (code : Code) (old : Memory) (out : Lasting) (ops : List Op) (new : Memory) (out' : Lasting) (after : Now) (s s' : Spacer) (k k' : SinkView) (i : SourceView) → NoLine ops → DoesGoal t code old out ops new out' after s s' k k' → ReadsGoal t code old out ops new out' after s s' k k' i i
unfolding gave_nothing
goes_unread t code old out ops new out' after s s' k k' i none does = record {
  gave = gave_nothing i after;
  does = λ rest h g is_of l m o e at held w typed. (does g is_of l m o e at held w, left_as (setting g code l) (RunsOf m) m.lasting.typed (line_reads (setting g code l) m m.ops (subst NoLine (sym at.0) none)) ∙ typed);
}

pub loses_unread : (t : Tables) (code : Code) (old : Memory) (ops : List Op) (s : Spacer) (k k' : SinkView) (i : SourceView) → NoLine ops → LosesGoal t code old ops s k k' → LosesText t code old ops s k k' i i
loses_unread t code old ops s k k' i none loses = record {
  taken = [];
  left = λ rest h. h;
  later = omega arith;
  loses = λ rest h g is_of l m at held typed start ps text. (inl (loses g is_of l m at held start ps text), left_as (setting g code l) (RunsOf m) m.lasting.typed (line_reads (setting g code l) m m.ops (subst NoLine (sym at.0) none)) ∙ typed);
}

-- bytes that may be left
pub some_behind : (ended : Bool) (i : SourceView) → (rest : List ℕ) × LeftBehind ended i rest
some_behind true i = ([], refl)
some_behind false i = some_left i.left

-- where the run goes on, what is left is what the source has left
pub left_still : (ended : Bool) (i : SourceView) (rest : List ℕ) → (ended ≡ true → ⊥) → IsLeft i.left rest → LeftBehind ended i rest
left_still true i rest goes h = absurd (goes refl)
left_still false i rest goes h = h

-- a source that told what it had left tells it still
pub told_on : (first mid last : Option (List ℕ)) (taken rest : List ℕ) → ((bytes : List ℕ) → IsLeft mid bytes → IsLeft first (taken ++ bytes)) → IsLeft (told_behind mid last) rest → IsLeft (told_behind first last) rest
told_on None mid last taken rest f h = tt
told_on (Some xs) (Some ys) last taken rest f h = h
told_on (Some xs) None last taken rest f h = absurd (omega (arith, ap length (f [] tt), ap length (f (0 ∷ []) tt), length-append taken [], length-append taken (0 ∷ [])))

-- one stretch behind another
unfoldable pub gave_on : (i mid i' : SourceView) (now next : Now) → (IsEnd now → ⊥) → Gave i mid now → Gave mid i' next → Gave i i' next
gave_on i mid i' now next goes first second =
    let still = λ (rest : List ℕ) (h : IsLeft mid.left rest). left_still first.ended mid rest (λ e. goes (first.over e)) h in
    record {
      taken = first.taken ++ second.taken;
      ended = second.ended;
      over = second.over;
      left = λ rest h. subst (IsLeft i.left) (sym (append_assoc first.taken second.taken rest)) (first.left (second.taken ++ rest) (still (second.taken ++ rest) (second.left rest h)));
      told = λ rest h. told_on i.left mid.left i'.left first.taken rest (λ bytes is. first.left bytes (still bytes is)) (second.told rest h);
      later = let x = first.later in let y = second.later in omega (arith, x, y);
    }

pub unread_first : (all : List Op) (x : Op) (rest : List Op) → all ≡ x ∷ rest → NoLine all → ReadsNone x
unread_first all x rest is none = subst NoLine is none

pub none_first : (all : List Op) (x : Op) (rest : List Op) → all ≡ x ∷ rest → ReadsNone x → NoLine all
none_first all x rest is none = subst NoLine (sym is) none
