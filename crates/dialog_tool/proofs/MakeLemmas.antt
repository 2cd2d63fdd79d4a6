-- From what a made source comes to, to the answer of the call.
use Rattle.std.proofs.Common.{◌≡◌, ◌<◌, ◌≤◌, ◌+◌, ◌-◌, ℕ, List, [], ◌++◌, length, length-append, Option, Some, None, Result, Ok, Err, inl, refl, sym, ◌∙◌, ap, subst, arith}
use Rattle.std.specs.Prelude.{IfOk}
use Rattle.dg_base.specs.Causes.{Rose}
use Rattle.dg_base.specs.Shelves.{ShelfView}
use Rattle.dg_base.specs.Streams.{SourceView}
use Rattle.dg_base.specs.Written.{SinkView}
use Rattle.dg_base.specs.declared.program.CoreProgram.{CoreProgram as Core}
use Rattle.dg_base.specs.declared.run.Limits.{Limits}
use Rattle.dg_base.specs.declared.run.Outcome.{Outcome}
use Rattle.dg_machine.specs.Program.{HasLostText, MayWriteText, up_to_goal, to_the_end, up_to_fault}
use Rattle.dg_meaning.specs.Engines.{game, HasShown}
use Rattle.dg_make.specs.Made.{made_source}
use Rattle.dg_meaning.specs.Shows.{MayBegin, Shows}
use Rattle.dg_meaning.specs.Transcript.{run, text_of, ending_line, line_of, transcript, no_memory_line}
use Rattle.dg_meaning.specs.World.{Game, prints as all_prints}
use Rattle.dg_meaning.proofs.Limits.{later_run}
use Rattle.dg_meaning.proofs.Search.{run_within}
use Rattle.dg_chain.proofs.Happened.{text_grows}
use Rattle.dialog_tool.specs.Promise
use Rattle.dialog_tool.specs.Promise.{Makes, reports, overflows}
use Rattle.dialog_tool.specs.Call.{Call, Outside}
use Rattle.dialog_tool.specs.inside.Calls.{call}
use Rattle.dialog_tool.specs.Command.{make}
use Rattle.dialog_tool.specs.Lines.{Says, said, unsaid}
use Rattle.dialog_tool.specs.Making.{made_limits, most_output, made_report, too_long_line}
use Rattle.dg_compile.specs.Source.{Compiles}
use Rattle.dialog_tool.proofs.AnswerLemmas.{answers, by_words, prints, keeps_same, nothing_here, no_room_first}

-- a whole text is written, or out failed within it
pub says_made : (n : ℕ) (dice : List ℕ) (shelf : ShelfView) (input : SourceView) (old new : SinkView) (status result : ℕ) (text : List ℕ) → Makes dice n status text → Says status text old new result → Promise.Answers (call (Some (make n)) dice shelf shelf input input old new) result
says_made n dice shelf input old new status result text makes says =
    let c = call (Some (make n)) dice shelf shelf input input old new in
    let here = nothing_here c in
    answers c here.0 result here.1 (by_words c here.0 result (Some (make n)) refl (keeps_same shelf.contents)
    (record { status = status; text = text; makes = makes; prints = prints c status text result refl says }))

-- no memory was found
pub lacks_made : (n : ℕ) (dice : List ℕ) (shelf : ShelfView) (input : SourceView) (old new : SinkView) (result : ℕ) → Says 6 no_memory_line old new result → Promise.Answers (call (Some (make n)) dice shelf shelf input input old new) result
lacks_made n dice shelf input old new result says = no_room_first (call (Some (make n)) dice shelf shelf input input old new) result refl refl says

-- what two clauses say of a value
pub if_both : {A E : Type 0} (P Q R : A → Type 0) (r : Result A E) → ((x : A) → P x → Q x → R x) → IfOk r P → IfOk r Q → IfOk r R
if_both P Q R (Ok x) both p q = both x p q
if_both P Q R (Err e) both p q = tt

-- what a sink tells that tells all
abbrev pub telling : List ℕ → ℕ → ℕ → SinkView
telling taken room faults = record { taken = Some taken; room = Some room; faults = faults }

-- a run that ended wrote all that its sink holds
pub made_whole : (n : ℕ) (p : Core) (dice source before output text : List ℕ) (outcome : Outcome) (left : Option (List ℕ)) (room faults room' faults' status : ℕ) → Compiles (made_source n) (Ok p)
    → source ≡ made_source n → before ≡ [] → HasShown (game p dice) [] made_limits outcome left (telling before room faults) (telling output room' faults')
    → text ≡ made_report source output outcome → status ≡ Promise.status_of outcome.ending → Makes dice n status text
made_whole n p dice source before output text outcome left room faults room' faults' status is same empty shown e s =
    let bytes : output ≡ shown.bytes = shown.wrote.taken ∙ ap (λ (l : List ℕ). l ++ shown.bytes) empty in
    reports p is shown.bytes outcome left shown.shows s
    (e ∙ ap (λ (l : List ℕ). made_report l output outcome) same ∙ ap (λ (l : List ℕ). made_report (made_source n) l outcome) bytes)

-- what a source tells that never fails
abbrev pub sure : List ℕ → SourceView
sure left = record { left = Some left; faults = 0 }

none_rose : {A : Type 0} → Rose 0 0 → A
none_rose rose = absurd (omega (arith, rose))

-- the whole run of a game
abbrev ended : Game → List ℕ → Limits → Outcome
ended g typed limits = let r = run g typed limits.steps in record { ending = r.ending; goals = limits.steps - r.left }

whole_shows : (g : Game) (typed : List ℕ) (limits : Limits) → MayBegin g limits → Shows g typed limits (transcript g typed limits.steps) (ended g typed limits) None
whole_shows g typed limits begins = inl (record { begins = begins; text = refl; ending = refl; goals = omega (arith, run_within g typed limits.steps); left_is = tt })

-- it writes no less than a part of it
whole_longer : (g : Game) (typed : List ℕ) (m n : ℕ) → m ≤ n → length (text_of (run g typed m).world.events) ≤ length (transcript g typed n)
whole_longer g typed m n le =
    let r = run g typed n in
    let b = text_grows (run g typed m).world.events r.world.events (later_run g typed m n le).events in
    omega (arith, ap length b.is, length-append (text_of (run g typed m).world.events) b.behind, length-append (text_of r.world.events) (ending_line (all_prints r.world.events) (line_of r.ending)))

-- a run that its sink broke off writes more than there is room for
pub made_long : (n : ℕ) (p : Core) (dice before text left left' : List ℕ) (room faults status : ℕ) (new : SinkView) → Compiles (made_source n) (Ok p) → room ≡ most_output
    → HasLostText (game p dice) [] made_limits (sure left) (sure left') (telling before room faults) new → text ≡ too_long_line → status ≡ 3 → Makes dice n status text
made_long n p dice before text left left' room faults status new is all lost e s = here lost.writing
  where
    over : most_output < length lost.bytes
    over = subst (λ (r : ℕ). r < length lost.bytes) all lost.broke.over

    here : MayWriteText (game p dice) [] made_limits (sure left) (sure left') lost.bytes → Makes dice n status text
    here (up_to_goal w) =
        let more = whole_longer (game p dice) [] (w.goals + 1) made_limits.steps (omega (arith, w.below)) in
        overflows p is (transcript (game p dice) [] made_limits.steps) (ended (game p dice) [] made_limits) None (whole_shows (game p dice) [] made_limits w.begins)
        (omega (arith, over, ap length w.text, more)) s e
    here (to_the_end outcome shows) = overflows p is lost.bytes outcome _ shows over s e
    here (up_to_fault rose shows) = none_rose rose
