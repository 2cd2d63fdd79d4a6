-- What is kept stands for what is set at the places of global variables, and still does behind a change.
use Rattle.std.proofs.Common.{◌≡◌, ◌≢◌, ℕ, zero, suc, ◌+◌, ◌<◌, ◌≤◌, ◌⊎◌, inl, inr, Bool, true, false, List, [], ◌∷◌, ◌++◌, length, Option, Some, None, refl, sym, ap, ◌∙◌, subst, arith}
use Rattle.std.specs.Prelude.{◌==◌, if◌then◌else◌}
use Rattle.std.specs.List.{slice_get}
use Rattle.std.proofs.lemmas.Bool.{cases_order, cases_eq, eqb-true, eq-eqb, ne_eqb, cond-true, cond-false}
use Rattle.dg_base.specs.declared.program.CoreProgram.{CoreProgram}
use Rattle.dg_base.specs.declared.program.PlaceKind.{PlaceKind}
use Rattle.dg_base.specs.declared.program.PlaceKind.TheVariants.{Flag, ObjectFlag, ObjectVar, Parent, Global}
use Rattle.dg_meaning.specs.Values.{Label, Num, Word, Object, Nil, Pair, Closure, Unknown, Value, Var, Node, Values, NoMore, More}
use Rattle.dg_meaning.specs.ValueCells.{cells_of}
use Rattle.dg_meaning.specs.Facts.{Fact, value_at, size_of, kept_at, kept_from, kept_size, kinds_of}
use Rattle.dg_rt.specs.Laying.{FormedAs, Formed, AllFormed}
use Rattle.dg_rt.specs.Copies.{words_of}
use Rattle.dg_rt.specs.Kept.{Block, block, total, value_in, without, IsEntry, IsApart, IsBeside, HaveEntries, KeptIn, IsVariable, NoEntry}
use Rattle.dg_rt.proofs.Blocks.{EntriesSame, blocks_keep, total_on, words_long, Located, located, none_there, none_without, without_none, without_one, have_back, beside_first, apart_first, apart_second, apart_turned}
use Rattle.dg_turn.specs.Told.{told_count}
use Rattle.dg_turn.specs.World.{world_at, place_words, words_at, words_end, world_end, IsGlobal, AreGlobal, KeptFacts}
use Rattle.dg_turn.proofs.Sums.{before_all, before_later}

-- ## The kept size

one_same : (facts facts' : List Fact) (place : ℕ) (kind : PlaceKind) → (kind ≡ Global → value_at facts' place 0 ≡ value_at facts place 0) → kept_at facts' place kind ≡ kept_at facts place kind
one_same facts facts' place Flag same = refl
one_same facts facts' place ObjectFlag same = refl
one_same facts facts' place ObjectVar same = refl
one_same facts facts' place Parent same = refl
one_same facts facts' place Global same = ap size_of (same refl)

kept_same : (place : ℕ) (kinds : List PlaceKind) (facts facts' : List Fact) → ((i : ℕ) → slice_get kinds i ≡ Some Global → value_at facts' (place + i) 0 ≡ value_at facts (place + i) 0) → kept_from place kinds facts' ≡ kept_from place kinds facts
kept_same place [] facts facts' same = refl
kept_same place (kind ∷ kinds) facts facts' same =
    let here : place + 0 ≡ place = omega arith in
    let first = one_same facts facts' place kind (λ e. subst (λ (i : ℕ). value_at facts' i 0 ≡ value_at facts i 0) here (same 0 (ap (λ (x : PlaceKind). Some x) e))) in
    let rest = kept_same (place + 1) kinds facts facts' (λ i e. (let q : place + suc i ≡ place + 1 + i = omega arith in subst (λ (j : ℕ). value_at facts' j 0 ≡ value_at facts j 0) q (same (suc i) e))) in
    omega arith

kept_with : (place : ℕ) (kinds : List PlaceKind) (facts facts' : List Fact) (i : ℕ) → slice_get kinds i ≡ Some Global → ((j : ℕ) → j ≢ i → value_at facts' (place + j) 0 ≡ value_at facts (place + j) 0) → kept_from place kinds facts' + size_of (value_at facts (place + i) 0) ≡ kept_from place kinds facts + size_of (value_at facts' (place + i) 0)
kept_with place [] facts facts' i is same = absurd (cc)
kept_with place (kind ∷ kinds) facts facts' zero is same =
    let global : kind ≡ Global = cc in
    let here : place ≡ place + 0 = omega arith in
    let new : kept_at facts' place kind ≡ size_of (value_at facts' (place + 0) 0) = ap (kept_at facts' place) global ∙ ap (λ (k : ℕ). size_of (value_at facts' k 0)) here in
    let old : kept_at facts place kind ≡ size_of (value_at facts (place + 0) 0) = ap (kept_at facts place) global ∙ ap (λ (k : ℕ). size_of (value_at facts k 0)) here in
    let rest = kept_same (place + 1) kinds facts facts' (λ j e. (let q : place + suc j ≡ place + 1 + j = omega arith in subst (λ (k : ℕ). value_at facts' k 0 ≡ value_at facts k 0) q (same (suc j) (λ z. omega arith)))) in
    omega arith
kept_with place (kind ∷ kinds) facts facts' (suc i) is same =
    let here : place + 0 ≡ place = omega arith in
    let first = one_same facts facts' place kind (λ e. subst (λ (k : ℕ). value_at facts' k 0 ≡ value_at facts k 0) here (same 0 (λ z. omega arith))) in
    let q : place + suc i ≡ place + 1 + i = omega arith in
    let rest = kept_with (place + 1) kinds facts facts' i is (λ j ne. (let q' : place + suc j ≡ place + 1 + j = omega arith in subst (λ (k : ℕ). value_at facts' k 0 ≡ value_at facts k 0) q' (same (suc j) (λ z. ne (omega arith))))) in
    let a : size_of (value_at facts (place + suc i) 0) ≡ size_of (value_at facts (place + 1 + i) 0) = ap (λ (k : ℕ). size_of (value_at facts k 0)) q in
    let b : size_of (value_at facts' (place + suc i) 0) ≡ size_of (value_at facts' (place + 1 + i) 0) = ap (λ (k : ℕ). size_of (value_at facts' k 0)) q in
    omega arith

-- ## Values that are formed

formed_as : (c c' : ℕ → ℕ) → ((k : ℕ) → c k ≡ c' k) → (f : Label) (vs : Values) → FormedAs c f vs → FormedAs c' f vs
formed_as c c' same (Num n) NoMore h = h
formed_as c c' same (Word n) NoMore h = h
formed_as c c' same (Object n) NoMore h = h
formed_as c c' same Nil NoMore h = h
formed_as c c' same (Unknown xs) NoMore h = h
formed_as c c' same Pair (More x (More y NoMore)) h = h
formed_as c c' same (Closure place) vs h = (h.0, h.1 ∙ same place, subst (λ (i : ℕ). i < 256) (same place) h.2)
formed_as c c' same f vs h = absurd h

mutual
  pub formed_by : (c c' : ℕ → ℕ) → ((k : ℕ) → c k ≡ c' k) → (v : Value) → Formed c v → Formed c' v
  formed_by c c' same (Var x) h = tt
  formed_by c c' same (Node f vs) h = (formed_as c c' same f vs h.0, all_formed_by c c' same vs h.1)

  all_formed_by : (c c' : ℕ → ℕ) → ((k : ℕ) → c k ≡ c' k) → (vs : Values) → AllFormed c vs → AllFormed c' vs
  all_formed_by c c' same NoMore h = tt
  all_formed_by c c' same (More v vs) h = (formed_by c c' same v h.0, all_formed_by c c' same vs h.1)

-- ## Values in a list

pub value_none : (h : ℕ) (bs : List Block) → NoEntry h bs → value_in bs h ≡ None
value_none h [] a = refl
value_none h (b ∷ bs) a = cond-false (b.entry == h) (Some b.value) (value_in bs h) (ne_eqb b.entry h (λ (q : b.entry ≡ h). a.0 (sym q))) ∙ value_none h bs a.1

value_without : (h i : ℕ) (bs : List Block) → i ≢ h → value_in (without h bs) i ≡ value_in bs i
value_without h i [] ne = refl
value_without h i (b ∷ bs) ne = by (value_without h i bs ne) (b.entry == h) refl
  where
    by : value_in (without h bs) i ≡ value_in bs i → (t : Bool) → (b.entry == h) ≡ t → value_in (without h (b ∷ bs)) i ≡ value_in (b ∷ bs) i
    by rest true q =
        let same = eqb-true b.entry h q in
        ap (λ (xs : List Block). value_in xs i) (cond-true (b.entry == h) (without h bs) (b ∷ without h bs) q) ∙ rest ∙ sym (cond-false (b.entry == i) (Some b.value) (value_in bs i) (ne_eqb b.entry i (λ (e : b.entry ≡ i). ne (sym e ∙ same))))
    by rest false q = ap (λ (xs : List Block). value_in xs i) (cond-false (b.entry == h) (without h bs) (b ∷ without h bs) q) ∙ ap (λ (x : Option Value). if b.entry == i then Some b.value else x) rest

value_else : (h i : ℕ) (v : Value) (bs : List Block) → i ≢ h → value_in (bs ++ block h v ∷ []) i ≡ value_in bs i
value_else h i v [] ne = cond-false (h == i) (Some v) None (ne_eqb h i (λ (e : h ≡ i). ne (sym e)))
value_else h i v (b ∷ bs) ne = ap (λ (x : Option Value). if b.entry == i then Some b.value else x) (value_else h i v bs ne)

value_here : (h : ℕ) (v : Value) (bs : List Block) → NoEntry h bs → value_in (bs ++ block h v ∷ []) h ≡ Some v
value_here h v [] a = cond-true (h == h) (Some v) None (eq-eqb h h refl)
value_here h v (b ∷ bs) a = cond-false (b.entry == h) (Some b.value) (value_in (bs ++ block h v ∷ []) h) (ne_eqb b.entry h (λ (q : b.entry ≡ h). a.0 (sym q))) ∙ value_here h v bs a.1

-- what is left takes less by one of them
total_without : (last h : ℕ) (bs : List Block) → HaveEntries last bs → total (without h bs) + size_of (value_in bs h) ≡ total bs
total_without last h bs own = by (value_in bs h) refl
  where
    of_one : (v : Value) → value_in bs h ≡ Some v → Located bs h v → total (without h bs) + length (cells_of v) ≡ total bs
    of_one v e l =
        let behind = have_back last l.front (l.one ∷ l.back) (subst (HaveEntries last) l.is own) in
        let absent : NoEntry h l.back = beside_first l.one.entry h l.back behind.1.0 (sym l.entry) in
        let is : without h bs ≡ l.front ++ l.back = ap (without h) l.is ∙ without_one h l.front l.back l.one l.before l.entry absent in
        let a : total (without h bs) ≡ total (l.front ++ l.back) = ap total is in
        let b : total bs ≡ total (l.front ++ l.one ∷ l.back) = ap total l.is in
        let c = total_on l.front l.back in
        let d = total_on l.front (l.one ∷ l.back) in
        let f : length (words_of l.one.value) ≡ length (words_of v) = ap (λ (x : Value). length (words_of x)) l.value in
        let g = words_long v in
        omega arith

    by : (set : Option Value) → value_in bs h ≡ set → total (without h bs) + size_of (value_in bs h) ≡ total bs
    by None e =
        let a : total (without h bs) ≡ total bs = ap total (without_none h bs (none_there bs h e)) in
        let b : size_of (value_in bs h) ≡ 0 = ap size_of e in
        omega arith
    by (Some v) e =
        let a : size_of (value_in bs h) ≡ length (cells_of v) = ap size_of e in
        let b = of_one v e (located bs h v e) in
        omega arith

-- ## Global variables

module _ (program : CoreProgram) where
  abbrev ks : List PlaceKind
  ks = kinds_of program

  abbrev n : ℕ
  n = length program.objects

  -- words of one lie within those of all places
  pub global_entry : (place : ℕ) → slice_get ks place ≡ Some Global → IsEntry (words_end program) (words_at program place)
  global_entry place e = let b = before_all (place_words n) ks place Global e in record { from = omega arith; within = omega arith }

  pub globals_apart : (q place : ℕ) → slice_get ks q ≡ Some Global → slice_get ks place ≡ Some Global → q ≢ place → IsApart (words_at program q) (words_at program place)
  globals_apart q place e e' ne = elim (cases_order q place) [
    | inl same ↦ absurd (ne same)
    | inr (inl before) ↦ (let b = before_later (place_words n) ks q place Global e before in inl (omega arith))
    | inr (inr behind) ↦ (let b = before_later (place_words n) ks place q Global e' behind in inr (omega arith))
  ]

  -- the words of places are apart from those of others
  beside_global : (place : ℕ) → slice_get ks place ≡ Some Global → (bs : List Block) → AreGlobal program bs → NoEntry (words_at program place) bs → IsBeside (words_at program place) bs
  beside_global place e [] a b = tt
  beside_global place e (x ∷ bs) a b =
      let g = a.0 in
      let ne : place ≢ g.place = λ (q : place ≡ g.place). b.0 (ap (words_at program) q ∙ sym g.at) in
      (subst (IsApart (words_at program place)) (sym g.at) (globals_apart place g.place e g.is ne), beside_global place e bs a.1 b.1)

  global_without : (h : ℕ) (bs : List Block) → AreGlobal program bs → AreGlobal program (without h bs)
  global_without h [] a = tt
  global_without h (b ∷ bs) a = by (global_without h bs a.1) (b.entry == h) refl
    where
      by : AreGlobal program (without h bs) → (t : Bool) → (b.entry == h) ≡ t → AreGlobal program (without h (b ∷ bs))
      by rest true q = subst (AreGlobal program) (sym (cond-true (b.entry == h) (without h bs) (b ∷ without h bs) q)) rest
      by rest false q = subst (AreGlobal program) (sym (cond-false (b.entry == h) (without h bs) (b ∷ without h bs) q)) (a.0, rest)

  global_on : (h : ℕ) (v : Value) (bs : List Block) → AreGlobal program bs → IsGlobal program h → AreGlobal program (bs ++ block h v ∷ [])
  global_on h v [] a g = (g, tt)
  global_on h v (b ∷ bs) a g = (a.0, global_on h v bs a.1 g)

  -- what is kept lets one be changed
  pub variable_in : (facts : List Fact) (words : ℕ → ℕ) (k : KeptFacts program facts words) (place : ℕ) → slice_get ks place ≡ Some Global → IsVariable (words_end program) words k.blocks (words_at program place)
  variable_in facts words k place e =
      let h = words_at program place in
      record {
        entry = global_entry place e;
        beside = beside_global place e (without h k.blocks) (global_without h k.blocks k.of_places) (none_without h k.blocks);
        unset = λ none. k.unset place e (sym (k.values place e) ∙ none);
      }

  -- no words of one lie outside the world, or among those of another place
  pub none_outside : (bs : List Block) → AreGlobal program bs → (i : ℕ) → (world_at ≤ i → world_end program ≤ i) → NoEntry i bs
  none_outside [] a i far = tt
  none_outside (b ∷ bs) a i far =
      let g = a.0 in
      let en = global_entry g.place g.is in
      let from = en.from in
      let within = en.within in
      let at = g.at in
      ((λ (q : i ≡ b.entry). (let le : world_end program ≤ i = far (omega arith) in omega arith)), none_outside bs a.1 i far)

  pub none_behind : (bs : List Block) → AreGlobal program bs → (i : ℕ) → words_end program ≤ i → NoEntry i bs
  none_behind [] a i le = tt
  none_behind (b ∷ bs) a i le =
      let g = a.0 in
      let en = global_entry g.place g.is in
      let within = en.within in
      let at = g.at in
      ((λ (q : i ≡ b.entry). omega arith), none_behind bs a.1 i le)

  pub none_among : (bs : List Block) → AreGlobal program bs → (q : ℕ) (kind : PlaceKind) → slice_get ks q ≡ Some kind → kind ≢ Global → (i : ℕ) → words_at program q ≤ i → i < words_at program q + place_words n kind → NoEntry i bs
  none_among [] a q kind e other i lo hi = tt
  none_among (b ∷ bs) a q kind e other i lo hi =
      let g = a.0 in
      let at = g.at in
      let ne : q ≢ g.place = λ (same : q ≡ g.place). (let found : Some kind ≡ Some Global = sym e ∙ ap (slice_get ks) same ∙ g.is in other (cc)) in (
        elim (cases_order q g.place) [
          | inl same ↦ absurd (ne same)
          | inr (inl before) ↦ (let c = before_later (place_words n) ks q g.place kind e before in λ (x : i ≡ b.entry). omega arith)
          | inr (inr behind) ↦ (let c = before_later (place_words n) ks g.place q Global g.is behind in λ (x : i ≡ b.entry). omega arith)
        ],
        none_among bs a.1 q kind e other i lo hi,
      )

  -- ## Words that stay

  entries_stay : (words words' : ℕ → ℕ) → ((place : ℕ) → slice_get ks place ≡ Some Global → (words' (words_at program place) ≡ words (words_at program place)) × (words' (words_at program place + 1) ≡ words (words_at program place + 1))) → (bs : List Block) → AreGlobal program bs → EntriesSame words words' bs
  entries_stay words words' same [] a = tt
  entries_stay words words' same (b ∷ bs) a =
      let g = a.0 in
      let s = same g.place g.is in
      (subst (λ (i : ℕ). words' i ≡ words i) (sym g.at) s.0, (subst (λ (i : ℕ). words' (i + 1) ≡ words (i + 1)) (sym g.at) s.1, entries_stay words words' same bs a.1))

  -- What is kept stands for other facts that say the same of global variables.
  pub kept_stay : (facts facts' : List Fact) (words words' : ℕ → ℕ) → ((place : ℕ) → slice_get ks place ≡ Some Global → value_at facts' place 0 ≡ value_at facts place 0) → ((k : ℕ) → 14315 ≤ k → k < 15315 → words' k ≡ words k) → ((place : ℕ) → slice_get ks place ≡ Some Global → (words' (words_at program place) ≡ words (words_at program place)) × (words' (words_at program place + 1) ≡ words (words_at program place + 1))) → KeptFacts program facts words → KeptFacts program facts' words'
  kept_stay facts facts' words words' values areas own k =
      let few = k.lie.few in
      record {
        blocks = k.blocks;
        lie = record {
          lie = blocks_keep words words' 14315 k.blocks (λ i lo hi. areas i (omega arith) (omega arith)) (λ i lo hi. areas i (omega arith) (omega arith)) (entries_stay words words' own k.blocks k.of_places) k.lie.lie;
          end = λ lt. areas (14815 + total k.blocks) (omega arith) (omega arith) ∙ k.lie.end lt;
          few = few;
          entries = k.lie.entries;
        };
        of_places = k.of_places;
        values = λ place e. k.values place e ∙ sym (values place e);
        unset = λ place e none. (own place e).0 ∙ k.unset place e (sym (values place e) ∙ none);
        size = k.size ∙ sym (kept_same 0 ks facts facts' (λ i e. (let q : i ≡ 0 + i = omega arith in subst (λ (j : ℕ). value_at facts' j 0 ≡ value_at facts j 0) q (values i e))));
        formed = k.formed;
      }

  -- what the others take is no more than all take
  pub size_left : (facts : List Fact) (words : ℕ → ℕ) (k : KeptFacts program facts words) (place : ℕ) → slice_get ks place ≡ Some Global → total (without (words_at program place) k.blocks) ≤ total k.blocks
  size_left facts words k place e = let a = total_without (words_end program) (words_at program place) k.blocks k.lie.entries in omega arith

  -- ## One of them changes

  module _ (facts facts' : List Fact) (words : ℕ → ℕ) (k : KeptFacts program facts words) (place : ℕ) (is : slice_get ks place ≡ Some Global) (elsewhere : (q : ℕ) → q ≢ place → value_at facts' q 0 ≡ value_at facts q 0) where
    abbrev h : ℕ
    h = words_at program place

    abbrev left : List Block
    left = without h k.blocks

    -- what is then kept
    pub size_after : kept_size ks facts' ≡ total left + size_of (value_at facts' place 0)
    size_after =
        let a = kept_with 0 ks facts facts' place is (λ j ne. (let q : j ≡ 0 + j = omega arith in subst (λ (i : ℕ). value_at facts' i 0 ≡ value_at facts i 0) q (elsewhere j ne))) in
        let here : 0 + place ≡ place = omega arith in
        let new : size_of (value_at facts' (0 + place) 0) ≡ size_of (value_at facts' place 0) = ap (λ (i : ℕ). size_of (value_at facts' i 0)) here in
        let old : size_of (value_at facts (0 + place) 0) ≡ size_of (value_in k.blocks h) = ap (λ (i : ℕ). size_of (value_at facts i 0)) here ∙ ap size_of (sym (k.values place is)) in
        let b = total_without (words_end program) h k.blocks k.lie.entries in
        let c = k.size in
        omega arith

    -- the others stay
    kept_behind : (words' : ℕ → ℕ) (bs : List Block) → KeptIn (words_end program) words' bs → AreGlobal program bs → value_in bs h ≡ value_at facts' place 0 → ((i : ℕ) → i ≢ h → value_in bs i ≡ value_in k.blocks i) → ((v : Value) → value_in bs h ≡ Some v → Formed (told_count program) v) → total bs ≡ kept_size ks facts' → (value_in bs h ≡ None → words' h ≡ 0) → ((i : ℕ) → 15945 ≤ i → i ≢ h → i ≢ h + 1 → NoEntry i k.blocks → words' i ≡ words i) → KeptFacts program facts' words'
    kept_behind words' bs lie of_places here others formed size unset same = record {
      blocks = bs;
      lie = lie;
      of_places = of_places;
      values = λ q e. value_of_place q e (cases_eq q place);
      unset = λ q e none. unset_place q e none (cases_eq q place);
      size = size;
      formed = λ i v e. formed_at i v e (cases_eq i h);
    }
      where
        other_entry : (q : ℕ) → slice_get ks q ≡ Some Global → (q ≡ place → ⊥) → words_at program q ≢ h
        other_entry q e ne = apart_first (words_at program q) h (words_at program q) (globals_apart q place e is ne) refl

        not_second : (q : ℕ) → slice_get ks q ≡ Some Global → (q ≡ place → ⊥) → words_at program q ≢ h + 1
        not_second q e ne = λ (z : words_at program q ≡ h + 1). apart_second h (words_at program q) (h + 1) (apart_turned (words_at program q) h (globals_apart q place e is ne)) refl (sym z)

        value_of_place : (q : ℕ) → slice_get ks q ≡ Some Global → (q ≡ place) ⊎ (q ≡ place → ⊥) → value_in bs (words_at program q) ≡ value_at facts' q 0
        value_of_place q e (inl same') = subst (λ (i : ℕ). value_in bs (words_at program i) ≡ value_at facts' i 0) (sym same') here
        value_of_place q e (inr ne) = others (words_at program q) (other_entry q e ne) ∙ k.values q e ∙ sym (elsewhere q ne)

        unset_place : (q : ℕ) → slice_get ks q ≡ Some Global → value_at facts' q 0 ≡ None → (q ≡ place) ⊎ (q ≡ place → ⊥) → words' (words_at program q) ≡ 0
        unset_place q e none (inl same') = ap (λ (i : ℕ). words' (words_at program i)) same' ∙ unset (here ∙ ap (λ (i : ℕ). value_at facts' i 0) (sym same') ∙ none)
        unset_place q e none (inr ne) =
            let none' : value_at facts q 0 ≡ None = sym (elsewhere q ne) ∙ none in
            let from = (global_entry q e).from in
            same (words_at program q) from (other_entry q e ne) (not_second q e ne) (none_there k.blocks (words_at program q) (k.values q e ∙ none')) ∙ k.unset q e none'

        formed_at : (i : ℕ) (v : Value) → value_in bs i ≡ Some v → (i ≡ h) ⊎ (i ≡ h → ⊥) → Formed (told_count program) v
        formed_at i v e (inl same') = formed v (subst (λ (j : ℕ). value_in bs j ≡ Some v) same' e)
        formed_at i v e (inr ne) = k.formed i v (sym (others i ne) ∙ e)

    -- it is set
    pub kept_set : (words' : ℕ → ℕ) (v : Value) → value_at facts' place 0 ≡ Some v → Formed (told_count program) v → KeptIn (words_end program) words' (left ++ block h v ∷ []) → ((i : ℕ) → 15945 ≤ i → i ≢ h → i ≢ h + 1 → NoEntry i k.blocks → words' i ≡ words i) → KeptFacts program facts' words'
    kept_set words' v new fine lie same =
        let here = value_here h v left (none_without h k.blocks) in
        let a = size_after in
        let b : size_of (value_at facts' place 0) ≡ length (cells_of v) = ap size_of new in
        let c = total_on left (block h v ∷ []) in
        let d : total (block h v ∷ []) ≡ length (words_of v) + 0 = refl in
        let f = words_long v in
        kept_behind words' (left ++ block h v ∷ []) lie (global_on h v left (global_without h k.blocks k.of_places) (record { place = place; is = is; at = refl })) (here ∙ sym new)
        (λ i ne. value_else h i v left ne ∙ value_without h i k.blocks ne)
        (λ u e. (let q : Some v ≡ Some u = sym here ∙ e in let q' : v ≡ u = cc in subst (Formed (told_count program)) q' fine))
        (omega arith) (λ none. (let q : Some v ≡ None = sym here ∙ none in absurd (cc))) same

    -- it is cleared
    pub kept_cleared : (words' : ℕ → ℕ) → value_at facts' place 0 ≡ None → KeptIn (words_end program) words' left → words' h ≡ 0 → ((i : ℕ) → 15945 ≤ i → i ≢ h → i ≢ h + 1 → NoEntry i k.blocks → words' i ≡ words i) → KeptFacts program facts' words'
    kept_cleared words' new lie zero_is same =
        let here = value_none h left (none_without h k.blocks) in
        let a = size_after in
        let b : size_of (value_at facts' place 0) ≡ 0 = ap size_of new in
        kept_behind words' left lie (global_without h k.blocks k.of_places) (here ∙ sym new) (λ i ne. value_without h i k.blocks ne)
        (λ u e. (let q : None ≡ Some u = sym here ∙ e in absurd (cc)))
        (omega arith) (λ none. zero_is) same
