-- What a change of the world comes to.
use Rattle.std.proofs.Common.{◌≡◌, ℕ, ◌<◌, ◌≤◌, List, [], ◌∷◌, Bool, true, false, Option, Some, None, cond, map, refl, sym, ap, ◌∙◌, subst, arith, length, nat_lt}
use Rattle.std.specs.Prelude.{Ok, Err, not, filter, nat_eq, max}
use Rattle.std.specs.Prelude.{Result as Answer}
use Rattle.std.specs.Borrow.{Bor}
use Rattle.std.specs.List.{All}
use Rattle.std.proofs.lemmas.List.Elements.{All-cons, All-head, All-tail}
use Rattle.std.proofs.lemmas.Bool.{cond-true, cond-false, lt-ltb, le-ltb}
use Rattle.dg_base.specs.declared.program.PlaceKind.{PlaceKind}
use Rattle.dg_base.specs.declared.run.Limits.{Limits}
use Rattle.dg_base.specs.declared.run.Ending.TheVariants as ending
use Rattle.dg_meaning.specs.Values.{Value}
use Rattle.dg_meaning.specs.Substitutions.{Substitution, resolved}
use Rattle.dg_meaning.specs.Facts.{Fact, is_at, Alteration, Sets, Clears, ClearsAll, altered, kinds_of, kept_size}
use Rattle.dg_meaning.specs.World.{Game, worked}
use Rattle.dg_meaning.specs.Moves.{changes}
use Rattle.dg_meaning.specs.Changes.{change_of}
use Rattle.dg_world.specs.Tables.{Outline}
use Rattle.dg_world.specs.Worlds.{StandsFor}
use Rattle.dg_world.specs.declared.change.KeepFull.{KeepFull}
use Rattle.dg_world.specs.declared.world.World.{World as FactsWorld}
use Rattle.dg_lists.specs.Formed.{IsFormed}
use Rattle.dg_lasting.specs.Lasting.{outline}
use Rattle.dg_lasting.specs.Changing.{all_in_store, SetsFormed, Became}
use Rattle.dg_lasting.specs.declared.lasting.Lasting.{Lasting}
use Rattle.dg_unify.specs.Store.{State, Store, told}
use Rattle.dg_unify.specs.declared.bindings.Ref.{Ref}
use Rattle.dg_unify.proofs.StoreLemmas.{told_is}
use Rattle.dg_mid.specs.declared.code.Op.{Op}
use Rattle.dg_mid.specs.declared.code.Code.{Code}
use Rattle.dg_mid.specs.Actions.{world_of}
use Rattle.dg_mid.specs.State.{Mid, Status, Runs as RunsOf, Ended as EndedOf}
use Rattle.dg_mid.specs.Step.{setting, done}
use Rattle.dg_machine.specs.declared.now.Now.TheVariants.{Runs, Fails, Ended}
use Rattle.dg_machine.specs.declared.memory.Memory.{Memory}
use Rattle.dg_machine.specs.Layout.{Holds, Roomy}
use Rattle.dg_machine.specs.Refs.{RefsAt}
use Rattle.dg_machine.specs.Standing.{CodeIs, Around, StandsWith}

abbrev FactFormed : Fact → Type 0
FactFormed fact = IsFormed fact.value

kept_formed : (b : Bool) (f : Fact) (fs : List Fact) → FactFormed f → All FactFormed fs → All FactFormed (cond b (f ∷ fs) fs)
kept_formed true f fs h k = All-cons FactFormed f fs h k
kept_formed false f fs h k = k

filter_formed : (keeps : Fact → Bool) (facts : List Fact) → All FactFormed facts → All FactFormed (filter keeps facts)
filter_formed keeps [] h = h
filter_formed keeps (f ∷ fs) h = kept_formed (keeps f) f (filter keeps fs) (All-head FactFormed f fs h) (filter_formed keeps fs (All-tail FactFormed f fs h))

altered_formed : (a : Alteration) (facts : List Fact) → SetsFormed a → All FactFormed facts → All FactFormed (altered a facts)
altered_formed (Sets p n v) facts h k = All-cons FactFormed _ facts h k
altered_formed (Clears p n) facts h k = filter_formed (λ fact. not (is_at p n fact)) facts k
altered_formed (ClearsAll p) facts h k = filter_formed (λ fact. not (nat_eq fact.place p)) facts k

-- the values of Refs, resolved
pub all_told : (S : Substitution) (s : Store) (rs : List Ref) (vs : List Value) → RefsAt s rs vs → map (λ r. resolved S (told s r)) rs ≡ map (resolved S) vs
all_told S s [] [] h = refl
all_told S s (r ∷ rs) (v ∷ vs) h = ap (λ x. resolved S x ∷ map (λ q. resolved S (told s q)) rs) (told_is s r v h.0) ∙ ap (λ l. resolved S v ∷ l) (all_told S s rs vs h.1)
all_told S s [] (v ∷ vs) h = absurd h
all_told S s (r ∷ rs) [] h = absurd h

-- a machine in which these are set
abbrev pub with_facts : List Fact → Mid → Mid
with_facts facts m = record m { lasting = record m.lasting { facts = facts } }

module _ (code : Code) (g : Game) (l : Limits) (m : Mid) (out out' : Lasting) (others : out' ≡ record out { world = out'.world; row = out'.row }) (row_is : length out'.row.items ≡ length out.row.items) (limit : out'.world.area.keep ≡ out.world.area.keep) (w : Around out g l m) where
  abbrev kept_o : ℕ
  kept_o = out.world.area.keep

  pub same_around : out'.world ≡ out.world → Around out' g l m
  same_around e =
      let v = w.0 in
      subst (λ x. Around x g l m) (sym others)
      ((record { stands = subst (λ (f : FactsWorld). StandsFor f (outline g.program f.area.keep) m.lasting.facts) (sym e) v.0.stands; formed = v.0.formed; room = row_is ∙ v.0.room ∙ sym limit }, v.1, v.2, v.3), limit ∙ w.1, w.2)

  changed_around : (a : Alteration) → StandsFor out'.world (outline g.program kept_o) (altered a m.lasting.facts) → SetsFormed a → Around out' g l (with_facts (altered a m.lasting.facts) m)
  changed_around a stands formed =
      let v = w.0 in
      subst (λ x. Around x g l (with_facts (altered a m.lasting.facts) m)) (sym others)
      ((record { stands = subst (λ k. StandsFor out'.world (outline g.program k) (altered a m.lasting.facts)) (sym limit) stands; formed = altered_formed a m.lasting.facts formed v.0.formed; room = row_is ∙ v.0.room ∙ sym limit }, v.1, v.2, v.3), limit ∙ w.1, w.2)

  abbrev size_of : Alteration → ℕ
  size_of a = max 0 (kept_size (kinds_of g.program) (altered a m.lasting.facts))

  abbrev act_of : PlaceKind → ℕ → Option Alteration → Status
  act_of k looks a = done (setting g code l) (changes g k a [] (worked looks (world_of [] m))) m

  pub change_on : (new : Memory) (rest : Bor (List Op)) (k : PlaceKind) (looks : ℕ) (a : Option Alteration) → CodeIs rest.now m → Holds code l new m → Became (outline g.program kept_o) m.lasting.facts a out.world out'.world (Ok true) → StandsWith code g l new (Runs rest) out' (act_of k looks a)
  change_on new rest k looks None at held h = absurd h
  change_on new rest k looks (Some a) at held h =
      let within = h.0.within in
      let keep = w.1 in
      let le : size_of a ≤ l.keep = omega (arith, within, keep) in
      subst (StandsWith code g l new (Runs rest) out') (sym (cond-false (nat_lt l.keep (size_of a)) (EndedOf ending.KeepLimit) (RunsOf (with_facts (altered a m.lasting.facts) m)) (le-ltb l.keep (size_of a) le)))
      (record { stands = (at, held); lasting = changed_around a h.0 h.1 })

  pub change_not : (new : Memory) (k : PlaceKind) (looks : ℕ) (a : Option Alteration) → Holds code l new m → Became (outline g.program kept_o) m.lasting.facts a out.world out'.world (Ok false) → StandsWith code g l new Fails out' (act_of k looks a)
  change_not new k looks None held h = record { stands = held; lasting = same_around h }
  change_not new k looks (Some a) held h = absurd h

  pub change_full : (new : Memory) (k : PlaceKind) (looks : ℕ) (a : Option Alteration) (e : KeepFull) → Roomy l new → Became (outline g.program kept_o) m.lasting.facts a out.world out'.world (Err e) → StandsWith code g l new (Ended ending.KeepLimit) out' (act_of k looks a)
  change_full new k looks None e room h = absurd h
  change_full new k looks (Some a) e room h =
      let over = h.0 in
      let keep = w.1 in
      let lt : l.keep < size_of a = omega (arith, over, keep) in
      subst (StandsWith code g l new (Ended ending.KeepLimit) out') (sym (cond-true (nat_lt l.keep (size_of a)) (EndedOf ending.KeepLimit) (RunsOf (with_facts (altered a m.lasting.facts) m)) (lt-ltb l.keep (size_of a) lt)))
      (record { stands = (refl, room); lasting = tt })

-- what became of a change with the values of Refs
pub became_in : (g : Game) (n : ℕ) (k : PlaceKind) (place : ℕ) (sets : Bool) (s : Store) (args refs : List Ref) (vs : List Value) (m : Mid) (o : Outline) (facts : List Fact) (before after : FactsWorld) (b b' : Answer Bool KeepFull) → n ≡ length g.program.objects → args ≡ refs → RefsAt s refs vs → s.state ≡ m.state → b ≡ b' →
    Became o facts (change_of n k place sets (all_in_store s args)) before after b → Became o facts (change_of (length g.program.objects) k place sets (map (resolved m.state.subst) vs)) before after b'
became_in g n k place sets s args refs vs m o facts before after b b' count same at state e h =
    let values : all_in_store s args ≡ map (resolved m.state.subst) vs = ap (all_in_store s) same ∙ all_told s.state.subst s refs vs at ∙ ap (λ (x : State). map (resolved x.subst) vs) state in
    subst (Became o facts (change_of (length g.program.objects) k place sets (map (resolved m.state.subst) vs)) before after) e
    (subst (λ l. Became o facts (change_of (length g.program.objects) k place sets l) before after b) values
    (subst (λ i. Became o facts (change_of i k place sets (all_in_store s args)) before after b) count h))
