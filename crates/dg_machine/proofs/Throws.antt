-- What the throw of a die leads to.
use Rattle.std.proofs.Common.{◌≡◌, ℕ, ◌+◌, List, [], ◌∷◌, Option, Some, None, refl, sym, subst, arith}
use Rattle.dg_base.specs.declared.run.Limits.{Limits}
use Rattle.dg_base.specs.declared.run.Ending.{Ending}
use Rattle.dg_choose.specs.Dice.{HasDrawn}
use Rattle.dg_choose.specs.declared.dice.Dice.{Dice}
use Rattle.dg_meaning.specs.Cells.{cells}
use Rattle.dg_meaning.specs.Moves.{throws}
use Rattle.dg_meaning.specs.inside.Unify.{unify}
use Rattle.dg_meaning.specs.Values.{Value, Num, leaf}
use Rattle.dg_meaning.specs.World.{Game, World, drew}
use Rattle.dg_lasting.specs.declared.lasting.Lasting.{Lasting}
use Rattle.dg_terms.specs.Throwing.{Throws}
use Rattle.dg_mid.specs.declared.code.Code.{Code}
use Rattle.dg_mid.specs.declared.code.Op.TheVariants as op
use Rattle.dg_mid.specs.declared.code.Action.{Action}
use Rattle.dg_mid.specs.Actions.{terms_of, act_at, registers_of}
use Rattle.dg_mid.specs.Reads.{lasting_of}
use Rattle.dg_mid.specs.State.{Mid, Status, Runs as RunsOf, Ended as EndedOf}
use Rattle.dg_mid.specs.Step.{setting, more, charged, bound, does, done, unified}
use Rattle.dg_machine.specs.declared.now.Now.{Now}
use Rattle.dg_machine.specs.declared.now.Now.TheVariants.{Ended}
use Rattle.dg_machine.specs.declared.memory.Memory.{Memory}
use Rattle.dg_machine.specs.Layout.{Holds}
use Rattle.dg_machine.specs.Standing.{Stands, Around, HasLasting, StandsWith}
use Rattle.dg_machine.proofs.Opens.{fits}
use Rattle.dg_machine.proofs.Leads.{charged_on}
use Rattle.dg_machine.proofs.Lasting.{has_lasting, has_unifies}
use Rattle.dg_machine.proofs.Unifying.{done_unifies_in}

abbrev IsNone : Option ℕ → Type 0
IsNone None = Unit {0}
IsNone (Some n) = ⊥

-- what was meant is what came, and what was drawn for it
pub record ThrewNone (meant : Option ℕ) (words : List ℕ) (n : ℕ) (dice : Dice) : Type 0 where
  pub is : meant ≡ None
  pub drawn : HasDrawn dice words n

pub threw_none : (o : Option ℕ) (words : List ℕ) (n : ℕ) (dice : Dice) → Throws o words n None dice → ThrewNone o words n dice
threw_none None words n dice h = record { is = refl; drawn = h.0 }
threw_none (Some k) words n dice h = absurd (subst IsNone h.1 tt)

pub record ThrewSome (meant : Option ℕ) (words : List ℕ) (n k : ℕ) (dice : Dice) : Type 0 where
  pub is : meant ≡ Some k
  pub drawn : HasDrawn dice words (n + 1)

pub threw_some : (o : Option ℕ) (words : List ℕ) (n k : ℕ) (dice : Dice) → Throws o words n (Some k) dice → ThrewSome o words n k dice
threw_some None words n k dice h = absurd (subst IsNone (sym h.1) tt)
threw_some (Some j) words n k dice h = record { is = sym h.1; drawn = h.0 }

-- a machine with so many dice words drawn
abbrev pub with_drawn : ℕ → Mid → Mid
with_drawn n m = record m { lasting = record m.lasting { dice = n } }

-- what lasts stands for the world in which so many were drawn
pub drawn_world : (out new : Lasting) (g : Game) (l : Limits) (m : Mid) (n : ℕ) → new ≡ record out { dice = new.dice } → Around out g l m → HasDrawn new.dice g.dice n → Around new g l (with_drawn n m)
drawn_world out new g l m n others w drawn = let v = w.0 in subst (λ x. Around x g l (with_drawn n m)) (sym others) ((v.0, v.1, drawn, v.3), w.1, w.2)

-- the number is unified with the value
module _ (code : Code) (g : Game) (l : Limits) (m : Mid) (v : Value) (k n : ℕ) (world : World) (is : lasting_of (drew 1 world) ≡ (with_drawn n m).lasting) where
  pub threw_stands : (new : Memory) (now : Now) (out : Lasting) → Around out g l (with_drawn n m) →
      Stands code l new now (unified (setting g code l) (unify m.state.subst v (leaf (Num k))) (with_drawn n m) (RunsOf (bound (unify m.state.subst v (leaf (Num k))) (with_drawn n m)))) →
      StandsWith code g l new now out (done (setting g code l) (throws (Some k) v (registers_of m) world) m)
  threw_stands new now out w h =
      let set = setting g code l in
      let es = (v, leaf (Num k)) ∷ [] in
      let s = done set (throws (Some k) v (registers_of m) world) m in
      let stands : Stands code l new now s = subst (Stands code l new now) (sym (done_unifies_in set es m (with_drawn n m).lasting (drew 1 world) is)) h in
      record { stands = stands; lasting = has_lasting out g l (with_drawn n m) s (has_unifies (with_drawn n m).lasting m.gathered set (registers_of m) es (drew 1 world) m is refl) w }

-- ## Behind cells that were taken

-- where the run has ended, what lasts stands for nothing
pub ended_lasting : (code : Code) (g : Game) (l : Limits) (r : Memory) (e : Ending) (s : Status) (out : Lasting) → Stands code l r (Ended e) s → HasLasting out g l s
ended_lasting code g l r e (EndedOf x) out h = tt
ended_lasting code g l r e s out h = absurd h

-- an instruction is done behind its cells
pub led_with : (code : Code) (g : Game) (l : Limits) (n : ℕ) (m : Mid) (next : Status) (mid new : Memory) (now : Now) (out : Lasting) → Holds code l mid (more n m) → StandsWith code g l new now out next → StandsWith code g l new now out (charged (setting g code l) n m next)
led_with code g l n m next mid new now out held y =
    let within = fits code l (more n m) mid held in
    subst (StandsWith code g l new now out) (sym (charged_on (setting g code l) n m next (omega (arith, within)))) y

-- so is an action
pub act_led_with : (code : Code) (g : Game) (l : Limits) (a : Action) (m : Mid) (mid new : Memory) (now : Now) (out : Lasting) → let n = cells g.program (terms_of a) in
    Holds code l mid (more n m) → StandsWith code g l new now out (done (setting g code l) (act_at g [] a (more n m)) (more n m)) → StandsWith code g l new now out (does (setting g code l) (op.Do a) m)
act_led_with code g l a m mid new now out held y =
    let n = cells g.program (terms_of a) in
    led_with code g l n m (done (setting g code l) (act_at g [] a (more n m)) (more n m)) mid new now out held y
