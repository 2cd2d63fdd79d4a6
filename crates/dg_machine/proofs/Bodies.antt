-- How the body of a closure is entered.
use Rattle.std.proofs.Common.{◌≡◌, ℕ, ◌+◌, ◌<◌, ◌≤◌, List, [], ◌∷◌, ◌++◌, Some, None, Bool, true, false, refl, sym, ap, ◌∙◌, subst, arith, length, get_or, map, drop}
use Rattle.std.specs.Prelude.{Result, Ok, slice_get}
use Rattle.std.specs.List.{zip}
use Rattle.std.specs.Borrow.{Bor}
use Rattle.dg_base.specs.declared.program.Term.TheVariants.{Var as Var-Term, outs-Var}
use Rattle.dg_base.specs.declared.program.CoreProgram.{CoreProgram}
use Rattle.dg_base.specs.declared.run.Limits.{Limits}
use Rattle.dg_base.specs.declared.run.Ending.TheVariants.{HeapLimit, TrailLimit}
use Rattle.dg_meaning.specs.Values.{Value, Values, Num, Word, Unknown, Object, Nil, Pair, Closure, Var, Node, leaf, value_of, value_of_var}
use Rattle.dg_meaning.specs.Copies.{values_of}
use Rattle.dg_meaning.specs.Cells.{cells}
use Rattle.dg_meaning.specs.Moves.{new_vars}
use Rattle.dg_meaning.specs.World.{Game}
use Rattle.dg_meaning.specs.Unify.{Unified, solve, agreed}
use Rattle.dg_meaning.specs.inside.Unify.{unify}
use Rattle.dg_meaning.proofs.UnifyLaws.{solve_none}
use Rattle.dg_unify.specs.Store.{Store, told, Follows}
use Rattle.dg_unify.specs.declared.bindings.Ref.{Ref}
use Rattle.dg_unify.specs.declared.bindings.Full.{Full}
use Rattle.dg_unify.proofs.Meets.{more_same}
use Rattle.dg_arena.specs.declared.arena.Arena.{Arena}
use Rattle.dg_arena.specs.Held.{meaning_of}
use Rattle.dg_mid.specs.declared.code.Op.{Op}
use Rattle.dg_mid.specs.declared.code.BodyCode.{BodyCode}
use Rattle.dg_mid.specs.declared.code.Code.{Code}
use Rattle.dg_mid.specs.Code.{block_at}
use Rattle.dg_mid.specs.State.{Mid, Call as CallOf, Status, Runs as RunsOf, ToBody}
use Rattle.dg_mid.specs.Step.{Setting, setting, passed, bound, charged, unified, if_agreed, parameter, body_equations, enters_body, body_of, closure_at}
use Rattle.dg_mid.proofs.FlatLemmas.{plain_cell}
use Rattle.dg_machine.specs.declared.now.Now.{Now}
use Rattle.dg_machine.specs.declared.now.Now.TheVariants.{Runs, Fails, Ended}
use Rattle.dg_machine.specs.declared.memory.Memory.{Memory}
use Rattle.dg_machine.specs.Built.{IsBuilt}
use Rattle.dg_mid.specs.Heads.{IsPlain}
use Rattle.dg_machine.specs.Refs.{RefsAt, Stays}
use Rattle.dg_machine.specs.Layout.{Holds, Lacks, Matched, Unmatched, made_state, in_frame, parameter_equations}
use Rattle.dg_machine.specs.Standing.{Stands}
use Rattle.dg_machine.proofs.TermLemmas.{var_value}
use Rattle.dg_machine.proofs.HeadLemmas.{follows_back}
use Rattle.dg_machine.proofs.Leads.{charged_led, full_stands}
use Rattle.dg_machine.proofs.Leaving.{unified_on, unified_off, block_is}

-- ## The parameter

pub parameter_some : (old mid after : Arena) (v : Value) (us vs : List Value) (n : ℕ) (arg par : Ref) (result : Result Bool Full) → 2 ≤ length (v ∷ us) → Stays old mid → (meaning_of old).value arg ≡ Some (get_or (v ∷ us) 1 (leaf Nil)) → (meaning_of mid).value par ≡ Some (value_of_var vs n) →
    Follows (meaning_of mid) (meaning_of after) (unify (meaning_of mid).state.subst (told (meaning_of mid) arg) (told (meaning_of mid) par)) result → Follows (meaning_of old) (meaning_of after) (solve (meaning_of old).state.subst (parameter_equations us vs n)) result
parameter_some old mid after v [] vs n arg par result le stays ha hp f = absurd (omega (arith, le))
parameter_some old mid after v (w ∷ ws) vs n arg par result le stays ha hp f = follows_back old mid after w (value_of_var vs n) arg par result stays (stays.keeps.kept.values arg w ha) hp f

pub parameter_none : (old : Arena) (v : Value) (us vs : List Value) (n : ℕ) → length (v ∷ us) < 2 → Follows (meaning_of old) (meaning_of old) (solve (meaning_of old).state.subst (parameter_equations us vs n)) (Ok true)
parameter_none old v [] vs n lt =
    let e : solve (meaning_of old).state.subst [] ≡ agreed (meaning_of old).state.subst = solve_none (meaning_of old).state.subst old.sound.fits.sound in
    rw e (record { agrees = refl; subst = refl; binds = more_same (meaning_of old).state })
parameter_none old v (w ∷ ws) vs n lt = absurd (omega (arith, lt))

-- ## Entering

zip_none : {A B : Type 0} (xs : List A) → zip {K = A} {X = B} xs [] ≡ []
zip_none [] = refl
zip_none (x ∷ xs) = refl

parameter_cells : (p : CoreProgram) (captured args : List Value) → cells p (parameter captured args) ≡ 0
parameter_cells p captured [] = refl
parameter_cells p captured (v ∷ vs) = plain_cell p (Var-Term (length captured)) (subst IsPlain (sym (outs-Var (length captured))) tt)

equations_are : (p : CoreProgram) (captured args vs : List Value) → zip args (map (value_of p vs) (parameter captured args)) ≡ parameter_equations args vs (length captured)
equations_are p captured [] vs = refl
equations_are p captured (w ∷ ws) vs =
    let rest : zip ws [] ≡ [] = zip_none ws in
    ap (λ l. (w, value_of p vs (Var-Term (length captured))) ∷ l) rest ∙ ap (λ x. (w, x) ∷ []) (var_value p vs (Var-Term (length captured)) (length captured) refl)

pub tail_refs : (s : Store) (rs : List Ref) (v : Value) (us : List Value) → RefsAt s rs (v ∷ us) → RefsAt s (drop 1 rs) us
tail_refs s [] v us h = absurd h
tail_refs s (r ∷ rs) v us h = h.1

module _ (code : Code) (g : Game) (l : Limits) (m : Mid) (c : CallOf) (body : BodyCode) (captured : List Value) (r new : Memory) (h : Holds code l r m) where
  abbrev set_b : Setting
  set_b = setting g code l

  abbrev vs_b : List Value
  vs_b = captured ++ new_vars body.own m.state.vars

  abbrev made_b : Mid
  made_b = record (passed m) { ops = block_at code body.block; state = made_state body.own m.state }

  abbrev u_b : Unified
  u_b = solve m.state.subst (parameter_equations c.args vs_b (length captured))

  abbrev next_b : Status
  next_b = RunsOf (in_frame c vs_b (bound u_b made_b))

  enters_is : enters_body set_b body captured c m ≡ charged set_b (6 + body.own) m (unified set_b u_b made_b next_b)
  enters_is =
      let none : 6 + body.own + cells g.program (parameter captured c.args) ≡ 6 + body.own = omega (arith, parameter_cells g.program captured c.args) in
      let es = body_equations set_b captured body.own c.args m.state.vars in
      ap (λ n. let m' = record (passed m) { ops = block_at code body.block; state = record m.state { vars = m.state.vars + body.own; heap = m.state.heap + n } } in let u = solve m.state.subst es in charged set_b n m (unified set_b u m' (RunsOf (in_frame c vs_b (bound u m'))))) none
      ∙ ap (λ q. charged set_b (6 + body.own) m (unified set_b (solve m.state.subst q) made_b (RunsOf (in_frame c vs_b (bound (solve m.state.subst q) made_b))))) (equations_are g.program captured c.args vs_b)

  pub body_full : Lacks (6 + body.own) l m.state.heap new → Stands code l new (Ended HeapLimit) (enters_body set_b body captured c m)
  body_full over = subst (Stands code l new (Ended HeapLimit)) (sym enters_is) (full_stands code g l (6 + body.own) m (unified set_b u_b made_b next_b) r new h over)

  module _ (mid : Memory) (held : Holds code l mid made_b) where
    led : (now : Now) → Stands code l new now (unified set_b u_b made_b next_b) → Stands code l new now (enters_body set_b body captured c m)
    led now stands = subst (Stands code l new now) (sym enters_is) (charged_led code g l (6 + body.own) m made_b (unified set_b u_b made_b next_b) mid new now held refl stands)

    pub body_unmatched : Unmatched l u_b made_b new → Stands code l new (Ended TrailLimit) (enters_body set_b body captured c m)
    body_unmatched x = led (Ended TrailLimit) (subst (Stands code l new (Ended TrailLimit)) (sym (unified_off set_b u_b made_b next_b x.over)) (refl, x.roomy))

    pub body_clash : (b : Bool) → b ≡ false → Matched code l u_b made_b new b → Stands code l new Fails (enters_body set_b body captured c m)
    body_clash b e x = led Fails (subst (Stands code l new Fails) (sym (unified_on set_b u_b made_b next_b x.fits ∙ ap (λ a. if_agreed a (bound u_b made_b) next_b) (sym x.agrees ∙ e))) x.held)

    pub body_entered : (last : Memory) (b : Bool) (block : Bor (List Op)) → b ≡ true → IsBuilt code → block.now ≡ block_at code body.block → Matched code l u_b made_b last b → Holds code l new (in_frame c vs_b (bound u_b made_b)) → Stands code l new (Runs block) (enters_body set_b body captured c m)
    body_entered last b block e built is x here =
        led (Runs block) (subst (Stands code l new (Runs block)) (sym (unified_on set_b u_b made_b next_b x.fits ∙ ap (λ a. if_agreed a (bound u_b made_b) next_b) (sym x.agrees ∙ e)))
        (block_is code body.block block.now (in_frame c vs_b (bound u_b made_b)) built is refl, here))

-- ## What a value asks

pub asked_some : (code : Code) (w : Value) (place : ℕ) (parts : Values) (body : BodyCode) → w ≡ Node (Closure place) parts → Some body ≡ slice_get code.closures place → closure_at code w ≡ Some (ToBody body (values_of parts))
asked_some code w place parts body is found = ap (closure_at code) is ∙ ap (λ o. body_of o parts) (sym found)

pub asked_gone : (code : Code) (w : Value) (place : ℕ) (parts : Values) → w ≡ Node (Closure place) parts → None ≡ slice_get code.closures place → closure_at code w ≡ None
asked_gone code w place parts is found = ap (closure_at code) is ∙ ap (λ o. body_of o parts) (sym found)

pub asked_none : (code : Code) (w : Value) → ((place : ℕ) (parts : Values) → w ≡ Node (Closure place) parts → ⊥) → closure_at code w ≡ None
asked_none code (Var x) other = refl
asked_none code (Node (Num n) vs) other = refl
asked_none code (Node (Word n) vs) other = refl
asked_none code (Node (Unknown n) vs) other = refl
asked_none code (Node (Object n) vs) other = refl
asked_none code (Node Nil vs) other = refl
asked_none code (Node Pair vs) other = refl
asked_none code (Node (Closure place) vs) other = absurd (other place vs refl)
