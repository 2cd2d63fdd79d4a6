-- Failures, behind which the newest choice goes on.
use Rattle.std.proofs.Common.{◌≡◌, ◌<◌, ℕ, List, false, refl, ◌∙◌, subst, arith}
use Rattle.std.specs.Borrow.{Bor}
use Rattle.dg_base.specs.declared.run.Limits.{Limits}
use Rattle.dg_mid.specs.declared.code.Op.{Op}
use Rattle.dg_mid.specs.declared.code.Code.{Code}
use Rattle.dg_mid.specs.State.{Mid}
use Rattle.dg_mid.specs.Step.{setting}
use Rattle.dg_mid.specs.Runs.{after}
use Rattle.dg_lasting.specs.declared.lasting.Lasting.{Lasting}
use Rattle.dg_machine.specs.declared.now.Now.{Now}
use Rattle.dg_machine.specs.declared.now.Now.TheVariants.{Runs, Enters, Resumes, Leaves, Misses, Fails, Ended}
use Rattle.dg_machine.specs.declared.now.Way.{Way}
use Rattle.dg_machine.specs.declared.memory.Memory.{Memory}
use Rattle.dg_machine.specs.declared.tables.Tables.{Tables}
use Rattle.dg_machine.specs.Built.{IsBuilt}
use Rattle.dg_machine.specs.Layout.{HasRoom, Holds}
use Rattle.dg_machine.specs.Measure.{left_of, with_way}
use Rattle.dg_machine.specs.Standing.{GoesOn, FailsTo, IsThere}
use Rattle.dg_machine.specs.inside.Running.{rests, IsFailing, DoesMarks, Settles, IsSomewhereWith}
use Rattle.dg_machine.proofs.Goals.{IsHeld, held_of, marks_fail, marks_miss, marks_resume, there_in}
use Rattle.dg_machine.proofs.Leads.{way_held}
use Rattle.dg_machine.proofs.Runs.{settled_nowhere, settled_on, mark_falls}
use Rattle.dg_machine.proofs.Turns.{somewhere_marked}

pub failing_goes : (now : Now) → IsFailing now → rests now ≡ false
failing_goes Misses f = refl
failing_goes Fails f = refl
failing_goes now f = absurd f

-- nothing else is done next
pub not_failing : (now : Now) → rests now ≡ false → (IsFailing now → ⊥) → ((ops : Bor (List Op)) → now ≡ Runs ops → ⊥) → ((ops : Bor (List Op)) → now ≡ Enters ops → ⊥) → (now ≡ Resumes → ⊥) → ((height : ℕ) (ops : Bor (List Op)) → now ≡ Leaves height ops → ⊥) → ⊥
not_failing (Runs ops) e on r en re le = r ops refl
not_failing (Enters ops) e on r en re le = en ops refl
not_failing Resumes e on r en re le = re refl
not_failing (Leaves height ops) e on r en re le = le height ops refl
not_failing Misses e on r en re le = on tt
not_failing Fails e on r en re le = on tt
not_failing (Ended x) e on r en re le = absurd (cc)

pub failing_left : (r : Memory) (now : Now) → IsFailing now → left_of r now ≡ left_of r Fails
failing_left r Misses f = refl
failing_left r Fails f = refl
failing_left r now f = absurd f

marks_failing : (tb : Tables) (code : Code) (old new : Memory) (out out' : Lasting) (behind now : Now) → FailsTo code old out new behind out' → IsFailing now → DoesMarks tb code old out now new out' behind
marks_failing tb code old new out out' behind Misses fails f = marks_miss tb code old new out out' behind fails
marks_failing tb code old new out out' behind Fails fails f = marks_fail tb code old new out out' behind fails
marks_failing tb code old new out out' behind now fails f = absurd f

-- memory holds the same without the way
without_way : (code : Code) (l : Limits) (r : Memory) (m : Mid) (way : Way) → Holds code l (with_way r way) m → Holds code l r m
without_way code l r m way h = way_held code l (with_way r way) m r.way h

goes_with : (code : Code) (mid new : Memory) (out out' : Lasting) (way : Way) (behind : Now) → GoesOn code mid out way new behind out' → GoesOn code (with_way mid way) out way new behind out'
goes_with code mid new out out' way behind goes g l m on seeks at h w = goes g l m on seeks at (without_way code l mid m way h) w

-- memory holds something where it fails
pub held_failing : (tb : Tables) (code : Code) (r : Memory) (out : Lasting) (now : Now) → IsFailing now → IsSomewhereWith tb code r out now → IsHeld code r
held_failing tb code r out now f found =
    let s = found.somewhere in
    held_of code r now (record { limits = s.limits; status = (after (setting s.game code s.limits) s.typed s.steps).now; stands = s.stands }) (failing_goes now f)

-- steps that take no goal, one after another
pub settled_then : (tb : Tables) (code : Code) (old mid new : Memory) (out out' out'' : Lasting) (before now behind : Now) → Settles tb code old out before mid out' now → Settles tb code mid out' now new out'' behind → Settles tb code old out before new out'' behind
settled_then tb code old mid new out out' out'' before now behind first then g is_of l typed steps h w =
    let x = first g is_of l typed steps h w in
    let y = then g is_of l typed x.further x.stands x.lasting in
    record { further = y.further; stands = y.stands; lasting = y.lasting; goals = y.goals ∙ x.goals; prints = y.prints ∙ x.prints; left = y.left ∙ x.left }

module _ (code : Code) (built : IsBuilt code) (old : Memory) (out : Lasting) where
  -- no choice was left
  module _ (new : Memory) (out' : Lasting) (behind : Now) (fails : FailsTo code old out new behind out') where
    pub failed_once : (tb : Tables) (now : Now) → IsFailing now → Settles tb code old out now new out' behind
    failed_once tb now f g is_of l typed steps h w =
        settled_on code g l typed built tb is_of old new out out' now behind steps (failing_goes now f) (marks_failing tb code old new out out' behind now fails f) (settled_nowhere code g l typed old out now steps h w)

    pub somewhere_failed : (tb : Tables) (now : Now) → IsFailing now → IsSomewhereWith tb code old out now → IsSomewhereWith tb code new out' behind
    somewhere_failed tb now f found = somewhere_marked tb code built old new out out' now behind (failing_goes now f) (marks_failing tb code old new out out' behind now fails f) found

    pub falls_once : (tb : Tables) (now : Now) → IsFailing now → IsSomewhereWith tb code old out now → left_of new behind < left_of old Fails
    falls_once tb now f found =
        let s = found.somewhere in
        let less = mark_falls code s.game s.limits s.typed built tb s.tabled old new out out' now behind s.steps (failing_goes now f) (marks_failing tb code old new out out' behind now fails f) s.stands found.lasting in
        subst (λ n. left_of new behind < n) (failing_left old now f) less

  -- a choice goes on
  module _ (mid : Memory) (out' : Lasting) (way : Way) (fails : FailsTo code old out (with_way mid way) Resumes out') where
    pub room_behind : (tb : Tables) (now : Now) → IsFailing now → IsSomewhereWith tb code old out now → HasRoom mid
    room_behind tb now f found =
        let x = somewhere_failed (with_way mid way) out' Resumes fails tb now f found in
        let s = x.somewhere in
        let held = held_of code (with_way mid way) Resumes (record { limits = s.limits; status = (after (setting s.game code s.limits) s.typed s.steps).now; stands = s.stands }) refl in
        (without_way code held.limits mid held.mid way held.held).0.room

    pub there_behind : (tb : Tables) (now : Now) → IsFailing now → IsSomewhereWith tb code old out now → IsThere code mid way
    there_behind tb now f found =
        let x = somewhere_failed (with_way mid way) out' Resumes fails tb now f found in
        let s = x.somewhere in
        there_in code s.limits mid way (after (setting s.game code s.limits) s.typed s.steps).now s.stands

    module _ (new : Memory) (out'' : Lasting) (behind : Now) (goes : GoesOn code mid out' way new behind out'') where
      resumes : (tb : Tables) → DoesMarks tb code (with_way mid way) out' Resumes new out'' behind
      resumes tb = marks_resume tb code (with_way mid way) new out' out'' behind (goes_with code mid new out' out'' way behind goes)

      pub failed_on : (tb : Tables) (now : Now) → IsFailing now → Settles tb code old out now new out'' behind
      failed_on tb now f g is_of l typed steps h w =
          settled_on code g l typed built tb is_of (with_way mid way) new out' out'' Resumes behind steps refl (resumes tb) (failed_once (with_way mid way) out' Resumes fails tb now f g is_of l typed steps h w)

      pub falls_on : (tb : Tables) (now : Now) → IsFailing now → IsSomewhereWith tb code old out now → left_of new behind < left_of old Fails
      falls_on tb now f found =
          let once = falls_once (with_way mid way) out' Resumes fails tb now f found in
          let x = somewhere_failed (with_way mid way) out' Resumes fails tb now f found in
          let s = x.somewhere in
          let again = mark_falls code s.game s.limits s.typed built tb s.tabled (with_way mid way) new out' out'' Resumes behind s.steps refl (resumes tb) s.stands x.lasting in
          omega (arith, once, again)
