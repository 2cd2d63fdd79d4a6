-- A run, instruction by instruction.
use Rattle.std.proofs.Common.{◌≡◌, ◌<◌, ◌≤◌, ◌⊎◌, ℕ, suc, ◌+◌, List, [], ◌++◌, length, Bool, Option, Some, None, Result, Ok, Err, inl, inr, refl, sym, ◌∙◌, ap, subst, arith}
use Rattle.std.proofs.lemmas.List.{append-nil}
use Rattle.z_model.specs.declared.fault.ZFault.{ZFault}
use Rattle.z_model.specs.declared.end.Effect.{Effect}
use Rattle.z_model.specs.declared.end.Halt.{Halt}
use Rattle.z_model.specs.declared.end.Halt.TheVariants.{AtQuit, AtInput, AtFault}
use Rattle.z_model.specs.declared.end.ZEnd.TheVariants as ends
use Rattle.z_model.specs.Machine.{Machine}
use Rattle.z_model.specs.Step.{machine_step}
use Rattle.z_model.specs.Run.{ZState, ZGiven, ZRun, Next, word_at, zstep, zrun, go_on, halt_ending}
use Rattle.z_model.specs.Closing.{is_open}
use Rattle.z_play.specs.inside.Effects.{CanFinish}
use Rattle.dg_base.specs.Written.{SinkView, Wrote, BrokeOff}
use Rattle.z_play.specs.Output.{BrokeBehind}
use Rattle.z_play.specs.inside.Scene.{Scene, scene, state, next_of, IsBeyond, Came, CutOff, Unread}
use Rattle.z_play.specs.inside.Acting.{text_of, Finished, Unfinished, MayBeLeft}
use Rattle.z_play.specs.inside.Advancing.{next_from, Advances, RanTo, RanUnread, RunsOn}
use Rattle.z_play.specs.Played.{HasCauses, PrintUnwritten}
use Rattle.dg_base.specs.declared.run.Fault.{Fault}
use Rattle.dg_base.specs.declared.run.Fault.TheVariants.{Read, Write}
use Rattle.dg_base.specs.Causes.{Rose}
use Rattle.dg_base.specs.Streams.{SourceView}
use Rattle.z_play.proofs.Finishing.{finishes}
use Rattle.z_play.proofs.Texts.{open_both}
use Rattle.dg_base.proofs.WrittenLemmas.{wrote_nothing, wrote_on}
use Rattle.z_play.proofs.Written.{broke_after}

-- ---- one instruction

pub halted_by : (w : ZGiven) (old new : Scene) (typed : List ℕ) (fault : ZFault) → machine_step w.rows w.layout (word_at w old.drawn) old.machine ≡ Err fault → new.left ≡ Some typed → new.drawn ≡ old.drawn → new.begun ≡ old.begun → Wrote old.seen new.seen [] → Came (next_from w old typed) (Some (AtFault fault old.machine.pc)) old new
unfolding zstep
halted_by w old new typed fault e left drawn begun wrote = record { printed = []; wrote = wrote; begins = begun; typed = typed; left = left; last = old.machine; same = tt; is = λ output. rw (e, drawn, append-nil output) refl }

pub came_by : (w : ZGiven) (old new : Scene) (typed : List ℕ) (effect : Effect) (mid : Machine) (halt : Option Halt) → machine_step w.rows w.layout (word_at w old.drawn) old.machine ≡ Ok (effect, mid) → Wrote old.seen new.seen (text_of effect mid) → new.begun ≡ is_open old.begun (text_of effect mid) → Finished w effect mid typed old.drawn halt new.machine new.left new.drawn → Came (next_from w old typed) halt old new
unfolding zstep
came_by w old new typed effect mid halt e wrote begun f = record { printed = text_of effect mid; wrote = wrote; begins = begun; typed = f.behind; left = f.left_is; last = f.last; same = f.same; is = λ output. rw e (f.is old.machine output) }

pub unread_by : (w : ZGiven) (old new : Scene) (typed : List ℕ) (effect : Effect) (mid : Machine) → machine_step w.rows w.layout (word_at w old.drawn) old.machine ≡ Ok (effect, mid) → Wrote old.seen new.seen (text_of effect mid) → new.begun ≡ is_open old.begun (text_of effect mid) → Unfinished w effect mid typed old.drawn new.left → Unread (next_from w old typed) typed old new
unfolding zstep
unread_by w old new typed effect mid e wrote begun f = record {
  wrote = subst (λ (text : List ℕ). Wrote old.seen new.seen text) f.prints_none wrote;
  begins = begun ∙ ap (λ (text : List ℕ). is_open old.begun text) f.prints_none;
  rest = f.rest;
  left = f.left_is;
  most = f.most;
  halt = f.halt;
  last = f.last;
  behind = f.behind;
  drawn = old.drawn;
  beyond = f.beyond;
  is = λ output. rw e (f.is old.machine output);
}

cut_at : (w : ZGiven) (old new : Scene) (typed : List ℕ) (effect : Effect) (mid : Machine) (halt : Option Halt) (last : Machine) (left : Option (List ℕ)) (drawn : ℕ) → machine_step w.rows w.layout (word_at w old.drawn) old.machine ≡ Ok (effect, mid) → new.left ≡ Some typed → BrokeOff old.seen new.seen (text_of effect mid) → Finished w effect mid typed old.drawn halt last left drawn → CutOff (next_from w old typed) typed old new
unfolding zstep
cut_at w old new typed effect mid halt last left drawn e told cut f = record { left = told; text = text_of effect mid; cut = cut; halt = halt; last = f.last; typed = f.behind; drawn = drawn; is = λ output. rw e (f.is old.machine output) }

pub cut_by : (w : ZGiven) (old new : Scene) (typed : List ℕ) (effect : Effect) (mid : Machine) → machine_step w.rows w.layout (word_at w old.drawn) old.machine ≡ Ok (effect, mid) → CanFinish effect w.layout mid → new.left ≡ Some typed → BrokeOff old.seen new.seen (text_of effect mid) → CutOff (next_from w old typed) typed old new
cut_by w old new typed effect mid e can told cut = finishes w effect mid typed old.drawn can (λ halt last left drawn f. cut_at w old new typed effect mid halt last left drawn e told cut f)

-- ---- a run

-- So many instructions are left, and those until here were done.
pub record Going (w : ZGiven) (start : ZState) (n left : ℕ) (old here : Scene) : Type 0 where
  pub done : ℕ
  pub count : done + left ≡ n
  pub typed : List ℕ
  pub output : List ℕ
  pub left_is : here.left ≡ Some typed
  pub is : (j : ℕ) → zrun w (done + j) start ≡ zrun w j (state here.machine typed here.drawn output)
  pub wrote : Wrote old.seen here.seen output
  pub begins : here.begun ≡ is_open old.begun output

opens : (old here new : Scene) (xs ys : List ℕ) → here.begun ≡ is_open old.begun xs → new.begun ≡ is_open here.begun ys → new.begun ≡ is_open old.begun (xs ++ ys)
opens old here new xs ys h k = k ∙ ap (λ (b : Bool). is_open b ys) h ∙ sym (open_both old.begun xs ys)

one_step : (w : ZGiven) (j : ℕ) (s : ZState) (next : Next) → zstep w s ≡ next → zrun w (suc j) s ≡ go_on (zrun w j) next
unfolding zrun
one_step w j s next e = rw e refl

no_step : (w : ZGiven) (s : ZState) → zrun w 0 s ≡ record { end = ends.StepLimit; state = s }
unfolding zrun
no_step w s = refl

-- the run, with one more instruction done
over : (w : ZGiven) (start : ZState) (n left : ℕ) (old here : Scene) (g : Going w start n (left + 1) old here) (next : Next) → next_from w here g.typed g.output ≡ next → (j : ℕ) → zrun w (g.done + 1 + j) start ≡ go_on (zrun w j) next
over w start n left old here g next e j =
    let more : g.done + 1 + j ≡ g.done + suc j = omega arith in
    ap (λ (k : ℕ). zrun w k start) more ∙ g.is (suc j) ∙ one_step w j (state here.machine g.typed here.drawn g.output) next e

-- the same for all that are left
over_all : (w : ZGiven) (start : ZState) (n left : ℕ) (old here : Scene) (g : Going w start n (left + 1) old here) (next : Next) → next_from w here g.typed g.output ≡ next → zrun w n start ≡ go_on (zrun w left) next
over_all w start n left old here g next e =
    let all : n ≡ g.done + 1 + left = omega (arith, g.count) in
    ap (λ (k : ℕ). zrun w k start) all ∙ over w start n left old here g next e left

pub going_on : (w : ZGiven) (start : ZState) (n left : ℕ) (old here new : Scene) (g : Going w start n (left + 1) old here) → Came (next_from w here g.typed) None here new → Going w start n left old new
going_on w start n left old here new g c = record {
  done = g.done + 1;
  count = omega (arith, g.count);
  typed = c.typed;
  output = g.output ++ c.printed;
  left_is = c.left;
  is = λ j. over w start n left old here g _ (c.is g.output) j ∙ ap (λ (k : Machine). zrun w j (state k c.typed new.drawn (g.output ++ c.printed))) c.same;
  wrote = wrote_on old.seen here.seen new.seen g.output c.printed g.wrote c.wrote;
  begins = opens old here new g.output c.printed g.begins c.begins;
}

pub run_ended : (w : ZGiven) (start : ZState) (n left : ℕ) (old here new : Scene) (drawn : ℕ) (halt : Halt) (g : Going w start n (left + 1) old here) → Came (next_from w here g.typed) (Some halt) here new → RanTo (zrun w n start) (halt_ending halt) old (scene new.machine drawn new.begun new.left new.seen)
run_ended w start n left old here new drawn halt g c =
    let all : zrun w n start ≡ record { end = halt_ending halt; state = state c.last c.typed new.drawn (g.output ++ c.printed) } = over_all w start n left old here g _ (c.is g.output) in
    record {
      ends = sym (ap (λ (r : ZRun). r.end) all);
      left = c.left ∙ ap (λ (r : ZRun). Some r.state.typed) (sym all);
      wrote = subst (λ (r : ZRun). Wrote old.seen new.seen r.state.output) (sym all) (wrote_on old.seen here.seen new.seen g.output c.printed g.wrote c.wrote);
      begins = opens old here new g.output c.printed g.begins c.begins ∙ ap (λ (r : ZRun). is_open old.begun r.state.output) (sym all);
    }

here_is : (w : ZGiven) (start : ZState) (n left : ℕ) (old here : Scene) (g : Going w start n left old here) → zrun w g.done start ≡ record { end = ends.StepLimit; state = state here.machine g.typed here.drawn g.output }
here_is w start n left old here g =
    let same : g.done ≡ g.done + 0 = omega arith in
    ap (λ (k : ℕ). zrun w k start) same ∙ g.is 0 ∙ no_step w (state here.machine g.typed here.drawn g.output)

pub run_limit : (w : ZGiven) (start : ZState) (n : ℕ) (old new : Scene) (drawn : ℕ) → Going w start n 0 old new → RanTo (zrun w n start) ends.StepLimit old (scene new.machine drawn new.begun new.left new.seen)
run_limit w start n old new drawn g =
    let last : n ≡ g.done = omega (arith, g.count) in
    let all = ap (λ (k : ℕ). zrun w k start) last ∙ here_is w start n 0 old new g in
    record {
      ends = sym (ap (λ (r : ZRun). r.end) all);
      left = g.left_is ∙ ap (λ (r : ZRun). Some r.state.typed) (sym all);
      wrote = subst (λ (r : ZRun). Wrote old.seen new.seen r.state.output) (sym all) g.wrote;
      begins = g.begins ∙ ap (λ (r : ZRun). is_open old.begun r.state.output) (sym all);
    }

-- the state behind an instruction
last_output : (w : ZGiven) (halt : Option Halt) (s : ZState) → (go_on (zrun w 0) (next_of halt s)).state.output ≡ s.output
last_output w None s = ap (λ (r : ZRun). r.state.output) (no_step w s)
last_output w (Some halt) s = refl

pub run_cut : (w : ZGiven) (start : ZState) (n left : ℕ) (old here new : Scene) → (g : Going w start n (left + 1) old here) → CutOff (next_from w here g.typed) g.typed here new → PrintUnwritten w start n new.left old.seen new.seen
run_cut w start n left old here new g c =
    let now = here_is w start n (left + 1) old here g in
    let typed : (zrun w g.done start).state.typed ≡ g.typed = ap (λ (r : ZRun). r.state.typed) now in
    let output : (zrun w g.done start).state.output ≡ g.output = ap (λ (r : ZRun). r.state.output) now in
    let one : g.done + 1 ≡ g.done + 1 + 0 = omega arith in
    let next = ap (λ (k : ℕ). zrun w k start) one ∙ over w start n left old here g _ (c.is g.output) 0 in
    let text : (zrun w (g.done + 1) start).state.output ≡ g.output ++ c.text = ap (λ (r : ZRun). r.state.output) next ∙ last_output w c.halt (state c.last c.typed c.drawn (g.output ++ c.text)) in
    record {
      m = g.done;
      below = omega (arith, g.count);
      limit = ap (λ (r : ZRun). r.end) now;
      left_is = c.left ∙ ap (λ (l : List ℕ). Some l) (sym typed);
      cut = subst (λ (l : List ℕ). BrokeBehind old.seen new.seen l (zrun w (g.done + 1) start).state.output) (sym output) (subst (λ (l : List ℕ). BrokeBehind old.seen new.seen g.output l) (sym text) (broke_after old.seen here.seen new.seen g.output c.text g.wrote c.cut));
    }

-- an instruction that takes more than was taken
beyond_by : (w : ZGiven) (halt : Option Halt) (last : Machine) (typed rest behind : List ℕ) (drawn : ℕ) (output : List ℕ) (r : ZRun) → IsBeyond halt typed rest behind → r ≡ go_on (zrun w 0) (next_of halt (state last behind drawn output)) → (r.end ≡ ends.InputEnded) ⊎ ((length r.state.typed ≤ length rest) × (length r.state.typed < length typed))
beyond_by w None last typed rest behind drawn output r h e =
    let same : r.state.typed ≡ behind = ap (λ (r : ZRun). r.state.typed) (e ∙ no_step w (state last behind drawn output)) in
    inr (rw same h)
beyond_by w (Some AtQuit) last typed rest behind drawn output r h e = absurd h
beyond_by w (Some AtInput) last typed rest behind drawn output r h e = inl (ap (λ (r : ZRun). r.end) e)
beyond_by w (Some (AtFault fault at)) last typed rest behind drawn output r h e = absurd h

pub run_unread : (w : ZGiven) (start : ZState) (n left : ℕ) (old here new : Scene) (drawn : ℕ) (g : Going w start n (left + 1) old here) → Unread (next_from w here g.typed) g.typed here new → RanUnread w start n old (scene new.machine drawn new.begun new.left new.seen)
run_unread w start n left old here new drawn g u =
    let now = here_is w start n (left + 1) old here g in
    let typed : (zrun w g.done start).state.typed ≡ g.typed = ap (λ (r : ZRun). r.state.typed) now in
    let output : (zrun w g.done start).state.output ≡ g.output = ap (λ (r : ZRun). r.state.output) now in
    let one : g.done + 1 ≡ g.done + 1 + 0 = omega arith in
    let next = ap (λ (k : ℕ). zrun w k start) one ∙ over w start n left old here g _ (u.is g.output) 0 in
    let nothing : g.output ++ [] ≡ g.output = append-nil g.output in
    record {
      m = g.done;
      rest = u.rest;
      left = u.left;
      stopped = record {
        below = omega (arith, g.count);
        limit = ap (λ (r : ZRun). r.end) now;
        within = rw typed u.most;
        beyond = rw typed (beyond_by w u.halt u.last g.typed u.rest u.behind u.drawn g.output (zrun w (g.done + 1) start) u.beyond next);
      };
      wrote = subst (λ (l : List ℕ). Wrote old.seen new.seen l) (nothing ∙ sym output) (wrote_on old.seen here.seen new.seen g.output [] g.wrote u.wrote);
      begins = u.begins ∙ g.begins ∙ ap (λ (l : List ℕ). is_open old.begun l) (sym output);
    }

pub run_failed : (w : ZGiven) (start : ZState) (n left : ℕ) (old here new : Scene) (drawn : ℕ) (fault : Fault) → (g : Going w start n (left + 1) old here) → Advances (Err fault) w g.typed here new → RunsOn (Err fault) w start n old (scene new.machine drawn new.begun new.left new.seen)
run_failed w start n left old here new drawn Read g a = run_unread w start n left old here new drawn g a
run_failed w start n left old here new drawn Write g a = run_cut w start n left old here new g a

pub going_first : (w : ZGiven) (m : Machine) (n : ℕ) (typed : List ℕ) (begun : Bool) (left : Option (List ℕ)) (now : SinkView) → left ≡ Some typed → Going w (state m typed 0 []) n n (scene m 0 begun left now) (scene m 0 begun left now)
going_first w m n typed begun left now told = record {
  done = 0;
  count = omega arith;
  typed = typed;
  output = [];
  left_is = told;
  is = λ j. let none : 0 + j ≡ j = omega arith in ap (λ (k : ℕ). zrun w k (state m typed 0 [])) none;
  wrote = wrote_nothing now;
  begins = refl;
}

pub less_left : (w : ZGiven) (start : ZState) (n left less : ℕ) (old here : Scene) → left ≡ less + 1 → Going w start n left old here → Going w start n (less + 1) old here
less_left w start n left less old here e g = subst (λ (k : ℕ). Going w start n k old here) e g

-- ---- where the source tells nothing

pub typed_is : (w : ZGiven) (start : ZState) (n left : ℕ) (old : Scene) (m : Machine) (drawn : ℕ) (begun : Bool) (typed : List ℕ) (now : SinkView) →
    (g : Going w start n left old (scene m drawn begun (Some typed) now)) → typed ≡ g.typed
typed_is w start n left old m drawn begun typed now g = let is = g.left_is in cc

-- nothing may always be left
pub nothing_left : {E : Type 0} (result : Result (Option Halt) E) → MayBeLeft result []
nothing_left (Ok None) = tt
nothing_left (Ok (Some AtQuit)) = tt
nothing_left (Ok (Some AtInput)) = refl
nothing_left (Ok (Some (AtFault fault at))) = tt
nothing_left (Err e) = tt

-- ---- causes

rose_later : (a b c : ℕ) → a ≤ b → Rose b c → Rose a c
rose_later a b c le rose = omega arith

pub causes_ok : {T U : Type 0} (a b c : SourceView) (d e f : SinkView) (x : T) (y : U) → a.faults ≤ b.faults → d.faults ≤ e.faults → HasCauses b c e f (Ok x) → HasCauses a c d f (Ok y)
causes_ok a b c d e f x y reads writes h = record { reads = omega (arith, h.reads); writes = omega (arith, h.writes); read_failed = λ e. absurd cc; write_failed = λ e. absurd cc }

pub causes_err : {T U : Type 0} (a b c : SourceView) (d e f : SinkView) (fault : Fault) → a.faults ≤ b.faults → d.faults ≤ e.faults → HasCauses {T = T} b c e f (Err fault) → HasCauses {T = U} a c d f (Err fault)
causes_err a b c d e f Read reads writes h = record { reads = omega (arith, h.reads); writes = omega (arith, h.writes); read_failed = λ i. rose_later a.faults b.faults c.faults reads (h.read_failed refl); write_failed = λ i. absurd cc }
causes_err a b c d e f Write reads writes h = record { reads = omega (arith, h.reads); writes = omega (arith, h.writes); read_failed = λ i. absurd cc; write_failed = λ i. rose_later d.faults e.faults f.faults writes (h.write_failed refl) }
