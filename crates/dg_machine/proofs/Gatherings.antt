-- What the opening of a gathering and what is gathered come to.
use Rattle.std.proofs.Common.{◌≡◌, ℕ, zero, suc, Bool, true, false, ◌+◌, ◌<◌, ◌≤◌, List, [], ◌∷◌, Option, Some, None, refl, sym, ap, ◌∙◌, subst, arith, length, take, nat_lt}
use Rattle.std.specs.Prelude.{eqb, if◌then◌else◌}
use Rattle.std.specs.Borrow.{Bor}
use Rattle.std.proofs.lemmas.Bool.{cond-true, cond-false, eq-eqb, lt-ltb, le-ltb}
use Rattle.std.proofs.lemmas.List.{length-map}
use Rattle.dg_base.specs.declared.run.Limits.{Limits}
use Rattle.dg_base.specs.declared.run.Ending.{Ending}
use Rattle.dg_base.specs.declared.run.Ending.TheVariants as ending
use Rattle.dg_meaning.specs.Substitutions.{resolved}
use Rattle.dg_meaning.specs.Values.{Value}
use Rattle.dg_meaning.specs.ValueCells.{cells_of}
use Rattle.dg_meaning.specs.World.{Game, Gathering, gathered_with, gathered_size}
use Rattle.dg_lists.specs.Gathered.{added}
use Rattle.dg_lists.specs.Writing.{value_at}
use Rattle.dg_unify.specs.Store.{Store, State, Saved, Kept, told}
use Rattle.dg_unify.specs.declared.bindings.Ref.{Ref}
use Rattle.dg_unify.proofs.StoreLemmas.{kept_same, told_is}
use Rattle.dg_arena.specs.declared.arena.Arena.{Arena}
use Rattle.dg_arena.specs.Held.{meaning_of, saves_of}
use Rattle.dg_lasting.specs.Lasting.{InWorld, row_of, OpensOne, OpensTooMuch, Gathers, GathersTooMuch}
use Rattle.dg_lasting.specs.declared.lasting.Lasting.{Lasting}
use Rattle.dg_mid.specs.declared.code.Code.{Code}
use Rattle.dg_mid.specs.declared.code.Op.{Op}
use Rattle.dg_mid.specs.Actions.{world_of}
use Rattle.dg_mid.specs.State.{Mid, Place, Status, Fails as FailsOf, Ended as EndedOf}
use Rattle.dg_mid.specs.Step.{setting, charged, gathers, with_gathering, newest_with, keeps, keeps_value}
use Rattle.dg_machine.specs.declared.now.Inner.{Inner}
use Rattle.dg_machine.specs.declared.now.Now.TheVariants.{Runs, Fails, Ended}
use Rattle.dg_machine.specs.declared.memory.Memory.{Memory}
use Rattle.dg_machine.specs.Links.{named}
use Rattle.dg_machine.specs.Refs.{RefsAt}
use Rattle.dg_machine.specs.Stops.{tags_of}
use Rattle.dg_machine.specs.Layout.{KeptAt, InnersAt, HasRoom, Holds}
use Rattle.dg_machine.specs.Standing.{Around, HasLasting, FallsWith}
use Rattle.dg_machine.proofs.Hands.{some_inner, no_inner}
use Rattle.dg_machine.proofs.Opens.{on_arena, roomy}

-- ## One more gathering

pub gathered_room : (r : Memory) (n : ℕ) → HasRoom r → HasRoom (record r { gathered = n })
gathered_room r n h = record { frames_fit = h.frames_fit; inners_fit = h.inners_fit; choices_fit = h.choices_fit; stops_fit = h.stops_fit; frames_few = h.frames_few; inners_few = h.inners_few; choices_few = h.choices_few; stops_few = h.stops_few; refs = h.refs }

-- other gatherings are open, and memory knows how many
pub gathered_held : (code : Code) (l : Limits) (m : Mid) (gs : List Gathering) (r : Memory) (n : ℕ) → Holds code l r m → length gs ≡ n → Holds code l (record r { gathered = n }) (record m { gathered = gs })
gathered_held code l m gs r n h e = (
  record { saves = h.0.saves; stand = h.0.stand; state_is = h.0.state_is; limits = h.0.limits; frames_are = h.0.frames_are; inner_are = h.0.inner_are; stop_is = h.0.stop_is; choices_are = h.0.choices_are; room = gathered_room r n h.0.room },
  e,
)

-- as many rows are there as gatherings are open
pub rows_are : (out : Lasting) (g : Game) (l : Limits) (m : Mid) → Around out g l m → length out.gathered.rows ≡ length m.gathered
rows_are out g l m w = ap length w.0.1.0 ∙ length-map m.gathered row_of

pub both_taken : (s : Store) (refs : List Ref) (v into : Value) → RefsAt s refs (v ∷ into ∷ []) → RefsAt s (take 2 refs) (v ∷ into ∷ [])
both_taken s [] v into h = absurd h
both_taken s (a ∷ []) v into h = absurd h.1
both_taken s (a ∷ b ∷ []) v into h = h
both_taken s (a ∷ b ∷ c ∷ refs) v into h = absurd h.1.1

pub two_refs : (s : Store) (refs : List Ref) (v into : Value) → RefsAt s refs (v ∷ into ∷ []) → length refs ≡ 2
two_refs s [] v into h = absurd h
two_refs s (a ∷ []) v into h = absurd h.1
two_refs s (a ∷ b ∷ []) v into h = refl
two_refs s (a ∷ b ∷ c ∷ refs) v into h = absurd h.1.1

module _ (code : Code) (g : Game) (l : Limits) (m : Mid) (out out' : Lasting) (w : Around out g l m) where
  pub opened_fits : OpensOne out out' → (next : Status) → gathers (setting g code l) (with_gathering m).gathered next ≡ next
  opened_fits one next =
      let fits = one.fits g (world_of [] m) m.next_tag w.0 in
      let aux = w.2 in
      cond-false (nat_lt l.aux (gathered_size (with_gathering m).gathered)) (EndedOf ending.AuxLimit) next (le-ltb l.aux (gathered_size (with_gathering m).gathered) (omega (arith, fits, aux)))

  pub opened_over : OpensTooMuch out → (next : Status) → gathers (setting g code l) (with_gathering m).gathered next ≡ EndedOf ending.AuxLimit
  opened_over full next =
      let over = full.stands g (world_of [] m) m.next_tag w.0 in
      let aux = w.2 in
      cond-true (nat_lt l.aux (gathered_size (with_gathering m).gathered)) (EndedOf ending.AuxLimit) next (lt-ltb l.aux (gathered_size (with_gathering m).gathered) (omega (arith, over, aux)))

  pub opened_around : OpensOne out out' → Around out' g l (with_gathering m)
  opened_around one = (one.stands g (world_of [] m) m.next_tag w.0, ap (λ (o : Lasting). o.world.area.keep) one.is ∙ w.1, ap (λ (o : Lasting). o.gathered.aux) one.is ∙ w.2)

module _ (out : Lasting) (g : Game) (l : Limits) where
  if_lasting : (b : Bool) (e : Ending) (s : Status) → HasLasting out g l s → HasLasting out g l (if b then EndedOf e else s)
  if_lasting true e s h = tt
  if_lasting false e s h = h

  -- what lasts stands for what is behind cells
  pub charged_lasting : (code : Code) (n : ℕ) (m : Mid) (s : Status) → HasLasting out g l s → HasLasting out g l (charged (setting g code l) n m s)
  charged_lasting code zero m s h = h
  charged_lasting code (suc n) m s h = if_lasting (nat_lt l.heap (m.state.heap + suc n)) ending.HeapLimit s h

-- ## A value more

newest_is : (v : Value) (x : Gathering) (xs : List Gathering) → gathered_with x.tag v (x ∷ xs) ≡ newest_with v (x ∷ xs)
newest_is v x xs = cond-true (eqb x.tag x.tag) (newest_with v (x ∷ xs)) (x ∷ gathered_with x.tag v xs) (eq-eqb x.tag x.tag refl)

pub as_many : (v : Value) (gs : List Gathering) → length (newest_with v gs) ≡ length gs
as_many v [] = refl
as_many v (x ∷ xs) = refl

module _ (g : Game) (l : Limits) (m : Mid) (v : Value) (out out' : Lasting) where
  abbrev with_open : List Gathering → Mid
  with_open gs = record m { gathered = gs }

  kept_in : (gs : List Gathering) → Gathers v out out' → Around out g l (with_open gs) → InWorld out' g (world_of [] (with_open (newest_with v gs)))
  kept_in [] one w = subst (λ o. InWorld o g (world_of [] (with_open []))) (sym one.is) (w.0.0, (ap (added (cells_of v)) w.0.1.0, w.0.1.1), w.0.2, w.0.3)
  kept_in (x ∷ xs) one w = subst (λ gs. InWorld out' g (world_of [] (with_open gs))) (newest_is v x xs) (one.stands g (world_of [] (with_open (x ∷ xs))) x.tag w.0 refl)

  pub kept_around : Gathers v out out' → Around out g l m → Around out' g l (with_open (newest_with v m.gathered))
  kept_around one w = (kept_in m.gathered one w, ap (λ (o : Lasting). o.world.area.keep) one.is ∙ w.1, ap (λ (o : Lasting). o.gathered.aux) one.is ∙ w.2)

  fits_in : (gs : List Gathering) → Gathers v out out' → Around out g l (with_open gs) → gathered_size (newest_with v gs) ≤ out.gathered.aux
  fits_in [] one w = omega arith
  fits_in (x ∷ xs) one w = subst (λ gs. gathered_size gs ≤ out.gathered.aux) (newest_is v x xs) (one.fits g (world_of [] (with_open (x ∷ xs))) x.tag w.0 refl)

  over_in : (gs : List Gathering) → GathersTooMuch v out → Around out g l (with_open gs) → out.gathered.aux < gathered_size (newest_with v gs)
  over_in [] full w = let none = ap length w.0.1.0 in absurd (no_rows out.gathered.rows none full.is)
    where
      no_rows : (rows : _) → length rows ≡ 0 → out.gathered.aux < Rattle.dg_lists.specs.Gathered.gathered_size (added (cells_of v) rows) → ⊥
      no_rows [] e lt = omega (arith, lt)
      no_rows (r ∷ rows) e lt = omega (arith, e)
  over_in (x ∷ xs) full w = subst (λ gs. out.gathered.aux < gathered_size gs) (newest_is v x xs) (full.stands g (world_of [] (with_open (x ∷ xs))) x.tag w.0 refl)

  module _ (code : Code) (w : Around out g l m) (next : Status) where
    abbrev size_then : ℕ
    size_then = gathered_size (newest_with v m.gathered)

    pub kept_fits : Gathers v out out' → gathers (setting g code l) (newest_with v m.gathered) next ≡ next
    kept_fits one =
        let fits = fits_in m.gathered one w in
        let aux = w.2 in
        cond-false (nat_lt l.aux size_then) (EndedOf ending.AuxLimit) next (le-ltb l.aux size_then (omega (arith, fits, aux)))

    pub kept_over : GathersTooMuch v out → gathers (setting g code l) (newest_with v m.gathered) next ≡ EndedOf ending.AuxLimit
    kept_over full =
        let over = over_in m.gathered full w in
        let aux = w.2 in
        cond-true (nat_lt l.aux size_then) (EndedOf ending.AuxLimit) next (lt-ltb l.aux size_then (omega (arith, over, aux)))

-- ## What the innermost construct gathers

-- the innermost construct is left
pub inner_left : (code : Code) (l : Limits) (m : Mid) (r : Memory) (inner : Inner) (ps : List Place) → Holds code l r m → InnersAt (meaning_of r.arena) (tags_of m.stops) r.inners.items inner.around ps → Holds code l (record r { inner = inner.around }) (record m { inner = ps })
inner_left code l m r inner ps h at = (
  record {
    saves = h.0.saves;
    stand = h.0.stand;
    state_is = h.0.state_is;
    limits = h.0.limits;
    frames_are = h.0.frames_are;
    inner_are = at;
    stop_is = h.0.stop_is;
    choices_are = h.0.choices_are;
    room = let y = h.0.room in record { frames_fit = y.frames_fit; inners_fit = y.inners_fit; choices_fit = y.choices_fit; stops_fit = y.stops_fit; frames_few = y.frames_few; inners_few = y.inners_few; choices_few = y.choices_few; stops_few = y.stops_few; refs = y.refs };
  },
  h.1,
)

-- it gathers nothing, or a value
is_none : (s : Store) (o : Option Value) → KeptAt s None o → o ≡ None
is_none s None h = refl
is_none s (Some v) h = absurd h

pub record IsKept (s : Store) (r : Ref) (o : Option Value) : Type 0 where
  pub value : Value
  pub is : o ≡ Some value
  pub kept : s.value r ≡ Some value

is_some : (s : Store) (r : Ref) (o : Option Value) → KeptAt s (Some r) o → IsKept s r o
is_some s r None h = absurd h
is_some s r (Some v) h = record { value = v; is = refl; kept = h }

-- the value that is gathered
pub kept_at : (code : Code) (l : Limits) (m : Mid) (r : Memory) (h : Holds code l r m) (inner : Inner) (there : named r.inners.items r.inner ≡ Some inner) (value : Ref) → inner.kept ≡ Some value → IsKept (meaning_of r.arena) value (some_inner (meaning_of r.arena) (tags_of m.stops) r.inners.items r.inner inner m.inner there h.0.inner_are).innermost.gathers
kept_at code l m r h inner there value some =
    let x = some_inner (meaning_of r.arena) (tags_of m.stops) r.inners.items r.inner inner m.inner there h.0.inner_are in
    is_some (meaning_of r.arena) value x.innermost.gathers (subst (λ o. KeptAt (meaning_of r.arena) o x.innermost.gathers) some x.kept)

module _ (code : Code) (g : Game) (l : Limits) (m : Mid) (out : Lasting) (r : Memory) (ops : Bor (List Op)) (h : Holds code l r m) (w : Around out g l m) where
  pub kept_nowhere : named r.inners.items r.inner ≡ None → FallsWith code g l r (Runs ops) r Fails out (keeps (setting g code l) m.inner m)
  kept_nowhere none = subst (λ ps. FallsWith code g l r (Runs ops) r Fails out (keeps (setting g code l) ps m)) (sym (no_inner (meaning_of r.arena) (tags_of m.stops) r.inners.items r.inner m.inner none h.0.inner_are))
      (record { done = record { stands = h; falls = omega arith }; lasting = w })

  module _ (inner : Inner) (there : named r.inners.items r.inner ≡ Some inner) where
    pub kept_nothing : inner.kept ≡ None → FallsWith code g l r (Runs ops) (record r { inner = inner.around }) Fails out (keeps (setting g code l) m.inner m)
    kept_nothing none =
        let x = some_inner (meaning_of r.arena) (tags_of m.stops) r.inners.items r.inner inner m.inner there h.0.inner_are in
        let nothing : x.innermost.gathers ≡ None = is_none (meaning_of r.arena) x.innermost.gathers (subst (λ o. KeptAt (meaning_of r.arena) o x.innermost.gathers) none x.kept) in
        subst (λ ps. FallsWith code g l r (Runs ops) (record r { inner = inner.around }) Fails out (keeps (setting g code l) ps m)) (sym x.is)
        (subst (λ o. FallsWith code g l r (Runs ops) (record r { inner = inner.around }) Fails out (keeps_value (setting g code l) o (record m { inner = x.around }))) (sym nothing)
        (record { done = record { stands = inner_left code l m r inner x.around h x.around_is; falls = omega arith }; lasting = w }))

    module _ (value : Ref) (some : inner.kept ≡ Some value) (out' : Lasting) (a : Arena) (same : meaning_of a ≡ meaning_of r.arena) (saved : (ms : List Saved) → saves_of r.arena ms → saves_of a ms) where
      abbrev kept_v : Value
      kept_v = resolved m.state.subst (kept_at code l m r h inner there value some).value

      same_value : value_at (meaning_of r.arena) value ≡ kept_v
      same_value =
          let x = kept_at code l m r h inner there value some in
          ap (λ (s : State). resolved s.subst (told (meaning_of r.arena) value)) h.0.state_is ∙ ap (resolved m.state.subst) (told_is (meaning_of r.arena) value x.value x.kept)

      abbrev r_kept : Memory
      r_kept = record r { arena = a; inner = inner.around }

      abbrev m_left : Mid
      m_left = record m { inner = (some_inner (meaning_of r.arena) (tags_of m.stops) r.inners.items r.inner inner m.inner there h.0.inner_are).around }

      left_held : Holds code l r_kept m_left
      left_held =
          let x = some_inner (meaning_of r.arena) (tags_of m.stops) r.inners.items r.inner inner m.inner there h.0.inner_are in
          on_arena code l m_left m.state (record r { inner = inner.around }) a (inner_left code l m r inner x.around h x.around_is) (subst (Kept (meaning_of r.arena)) (sym same) (kept_same (meaning_of r.arena))) saved (ap (λ (t : Store). t.state) same ∙ h.0.state_is) (omega arith)

      keeps_is : keeps (setting g code l) m.inner m ≡ gathers (setting g code l) (newest_with kept_v m.gathered) (FailsOf (record m_left { gathered = newest_with kept_v m.gathered }))
      keeps_is =
          let x = some_inner (meaning_of r.arena) (tags_of m.stops) r.inners.items r.inner inner m.inner there h.0.inner_are in
          ap (λ ps. keeps (setting g code l) ps m) x.is ∙ ap (λ o. keeps_value (setting g code l) o m_left) (kept_at code l m r h inner there value some).is

      pub kept_one : Gathers (value_at (meaning_of r.arena) value) out out' → FallsWith code g l r (Runs ops) r_kept Fails out' (keeps (setting g code l) m.inner m)
      kept_one gathered =
          let one = subst (λ v. Gathers v out out') same_value gathered in
          let gs = newest_with kept_v m.gathered in
          let count = as_many kept_v m.gathered in
          let held : Holds code l r_kept (record m_left { gathered = gs }) = (left_held.0, count ∙ h.1) in
          subst (FallsWith code g l r (Runs ops) r_kept Fails out') (sym (keeps_is ∙ kept_fits g l m kept_v out out' code w (FailsOf (record m_left { gathered = gs })) one))
          (record { done = record { stands = held; falls = omega arith }; lasting = kept_around g l m kept_v out out' one w })

      pub kept_too_much : GathersTooMuch (value_at (meaning_of r.arena) value) out → FallsWith code g l r (Runs ops) r_kept (Ended ending.AuxLimit) out' (keeps (setting g code l) m.inner m)
      kept_too_much over =
          let full = subst (λ v. GathersTooMuch v out) same_value over in
          let gs = newest_with kept_v m.gathered in
          subst (FallsWith code g l r (Runs ops) r_kept (Ended ending.AuxLimit) out') (sym (keeps_is ∙ kept_over g l m kept_v out out' code w (FailsOf (record m_left { gathered = gs })) full))
          (record { done = record { stands = (refl, roomy code l m_left r_kept left_held); falls = omega arith }; lasting = tt })
