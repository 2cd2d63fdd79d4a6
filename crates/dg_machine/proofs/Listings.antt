-- What the taking out of a list comes to.
use Rattle.std.proofs.Common.{◌≡◌, ℕ, ◌+◌, ◌-◌, List, [], ◌∷◌, Some, refl, sym, ap, ◌∙◌, subst, arith, length}
use Rattle.std.specs.Prelude.{slice_get, sum_by}
use Rattle.dg_base.specs.declared.cells.Cell.{Cell}
use Rattle.dg_base.specs.declared.run.Limits.{Limits}
use Rattle.dg_base.specs.declared.run.Ending.TheVariants.{HeapLimit}
use Rattle.dg_meaning.specs.Copies.{list_of, copy_cells, copy_from}
use Rattle.dg_meaning.specs.Letters.{copied}
use Rattle.dg_meaning.specs.Moves.{begun, behind_copy, copy_of}
use Rattle.dg_meaning.specs.Path.{Unifies}
use Rattle.dg_meaning.specs.Unify.{Unified, size}
use Rattle.dg_meaning.specs.inside.Unify.{unify}
use Rattle.dg_meaning.specs.Values.{Value}
use Rattle.dg_meaning.specs.World.{Game, World}
use Rattle.dg_lasting.specs.Lasting.{Closes}
use Rattle.dg_lasting.specs.declared.lasting.Lasting.{Lasting}
use Rattle.dg_unify.specs.declared.bindings.Ref.{Ref}
use Rattle.dg_mid.specs.declared.code.Code.{Code}
use Rattle.dg_mid.specs.declared.code.Gathered.TheVariants.{List as InList}
use Rattle.dg_mid.specs.Actions.{registers_of, world_of}
use Rattle.dg_mid.specs.State.{Mid, Status, Runs as RunsOf}
use Rattle.dg_mid.specs.Step.{setting, charged, bound, done, unified, passed, takes_newest}
use Rattle.dg_machine.specs.declared.memory.Memory.{Memory}
use Rattle.dg_machine.specs.declared.now.Now.{Now}
use Rattle.dg_machine.specs.declared.now.Now.TheVariants.{Ended, Resumes}
use Rattle.dg_machine.specs.declared.now.Way.TheVariants.{Takes}
use Rattle.dg_machine.specs.Layout.{Holds, Lacks}
use Rattle.dg_machine.specs.Finding.{copied_in, HasCopied}
use Rattle.dg_machine.specs.Measure.{choices_left, with_way}
use Rattle.dg_machine.specs.Standing.{Around, Stands, FallsWith}
use Rattle.dg_machine.proofs.Gatherings.{gathered_held}
use Rattle.dg_machine.proofs.Leads.{charged_led, charged_off}
use Rattle.dg_machine.proofs.Opens.{fits}
use Rattle.dg_machine.proofs.Answered.{done_copies}
use Rattle.dg_machine.proofs.Lasting.{has_lasting, has_unifies}
use Rattle.dg_machine.proofs.Takings.{GoesLate, late_falls, NewestIs, newest_in, many, left_around}

-- ## The newest gathering as a list

module _ (code : Code) (g : Game) (l : Limits) (m : Mid) (r : Memory) (out : Lasting) (cells : List Cell) (first : slice_get out.gathered.rows 0 ≡ Some cells) (h : Holds code l r m) (w : Around out g l m) where
  abbrev pub newest : NewestIs out.gathered.rows cells m.gathered
  newest = newest_in out g l m cells first w

  abbrev pub listed : Value
  listed = list_of newest.newest.values

  abbrev pub rest_m : Mid
  rest_m = passed (record m { gathered = newest.others })

  abbrev pub looked : World
  looked = begun (registers_of rest_m) (sum_by (λ v. size v + copied v) newest.newest.values) (world_of [] rest_m)

  abbrev pub took_list : Value → Status
  took_list into = done (setting g code l) (Unifies (behind_copy listed (registers_of rest_m)) ((into, copy_of listed (registers_of rest_m)) ∷ []) looked) rest_m

  takes_list : (into : Value) → takes_newest (setting g code l) InList into m.gathered m ≡ took_list into
  takes_list into = ap (λ gs. takes_newest (setting g code l) InList into gs m) newest.is

  abbrev pub met : Value → Unified
  met into = unify m.state.subst into (copy_from m.state.vars listed)

  abbrev pub next : Value → Status
  next into = unified (setting g code l) (met into) (copied_in listed rest_m) (RunsOf (bound (met into) (copied_in listed rest_m)))

  takes_cells : (into : Value) → took_list into ≡ charged (setting g code l) (copy_cells listed) rest_m (next into)
  takes_cells into = done_copies code g l into listed rest_m looked refl

  -- the heap has too little room for it
  pub list_none : (b : ℕ) (into : Value) (new : Memory) (out' : Lasting) → Lacks (copy_cells listed) l m.state.heap new → FallsWith code g l (with_way r (Takes b)) Resumes new (Ended HeapLimit) out' (takes_newest (setting g code l) InList into m.gathered m)
  list_none b into new out' lacks =
      let over = charged_off (setting g code l) (copy_cells listed) rest_m (next into) (fits code l m r h) lacks.over in
      subst (FallsWith code g l (with_way r (Takes b)) Resumes new (Ended HeapLimit) out') (sym (takes_list into ∙ takes_cells into ∙ over))
      (record { done = record { stands = (refl, lacks.roomy); falls = omega arith }; lasting = tt })

  -- it is unified, where the gathering was dropped
  module _ (out' : Lasting) (height : ℕ) (count : height ≡ length out.gathered.rows - 1) (closes : Closes height out out') where
    pub list_held : (mid : Memory) (list : Ref) → HasCopied code l listed m mid list → Holds code l (record mid { gathered = height }) (copied_in listed rest_m)
    list_held mid list made = gathered_held code l (copied_in listed m) newest.others mid height made.held (many code g l m r out out' cells height first count closes h w)

    pub list_some : (b : ℕ) (into : Value) (mid new : Memory) (now : Now) → Holds code l mid (copied_in listed rest_m) → GoesLate now → choices_left new.choices.items ≡ choices_left r.choices.items → Stands code l new now (next into) →
        FallsWith code g l (with_way r (Takes b)) Resumes new now out' (takes_newest (setting g code l) InList into m.gathered m)
    list_some b into mid new now held late same stands =
        let set = setting g code l in
        let led = charged_led code g l (copy_cells listed) rest_m (copied_in listed rest_m) (next into) mid new now held refl stands in
        let there : Stands code l new now (took_list into) = subst (Stands code l new now) (sym (takes_cells into)) led in
        subst (FallsWith code g l (with_way r (Takes b)) Resumes new now out') (sym (takes_list into)) (record {
          done = record { stands = there; falls = late_falls code l b r new now (took_list into) late there same };
          lasting = has_lasting out' g l rest_m (took_list into) (has_unifies rest_m.lasting rest_m.gathered set (behind_copy listed (registers_of rest_m)) ((into, copy_of listed (registers_of rest_m)) ∷ []) looked rest_m refl refl) (left_around code g l m r out out' cells height first count closes h w);
        })
