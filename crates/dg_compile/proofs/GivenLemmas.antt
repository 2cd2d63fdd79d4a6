-- The tree of a source and its names are given, and its program is sound.
use Rattle.std.proofs.Common.{◌≡◌, ◌≤◌, ◌⊎◌, inl, inr, ℕ, List, [], ◌∷◌, ◌++◌, length, length-append, map, get_or, false, Option, Some, None, Ok, refl, sym, subst, arith}
use Rattle.std.specs.List.{All, Contains}
use Rattle.std.proofs.lemmas.List.Elements.{All-nil, All-cons, All-append, All-contains, Contains-append_left, Contains-append_right, Contains-append_cases}
use Rattle.dg_base.specs.Mentions.{Thing, query, mentioned, names_in, weight_of}
use Rattle.dg_base.specs.Names.{prelude_names, builtin_named}
use Rattle.dg_base.specs.Readable.{IsReadable}
use Rattle.dg_base.specs.Sound.{IsName, IsSound}
use Rattle.dg_base.specs.declared.names.Builtin.{Builtin}
use Rattle.dg_base.specs.Heads.{name_of}
use Rattle.dg_base.specs.Tree.{Item}
use Rattle.dg_base.specs.declared.program.CoreProgram.{CoreProgram as Core}
use Rattle.dg_plain.specs.Comes.{MentionsComeFrom}
use Rattle.dg_scopes.specs.Few.{HasFewVariables, SmallAreFew}
use Rattle.dg_plain.specs.Items.{plain_items}
use Rattle.dg_plain.specs.Left.{IsPlain}
use Rattle.dg_lower.specs.Lowered.{IsLowered}
use Rattle.dg_core.specs.Given.{IsGiven}
use Rattle.dg_core.specs.Places.{values_named}
use Rattle.dg_meaning.specs.Few.{AllAskFew, AllHoldFew, HeadsAreFew}
use Rattle.dg_access.specs.Answer.{IsRewritten}
use Rattle.dg_access.specs.Comes.{MentionsArePut}
use Rattle.dg_items.specs.Expanded.{access_rules, is_misplaced, put_items}
use Rattle.dg_lex.specs.Bad as lexing
use Rattle.dg_lex.specs.Spelled.{IsSpelledToken}
use Rattle.dg_lex.specs.Tokens.{IsLexed, Seen, seen}
use Rattle.dg_lex.specs.declared.token.Token.{Token}
use Rattle.dg_names.specs.Among.{HasPred, IsAmong, IsSmall, ArePrintable, AreFew}
use Rattle.dg_names.specs.Counts.{closures_at, IsNamed}
use Rattle.dg_names.specs.Named.{Named, firsts, predicate_in, thing_words, names_of}
use Rattle.dg_reader.specs.Declarations.{AreDeclarations}
use Rattle.dg_reader.specs.Read.{IsRead}
use Rattle.dg_compile.specs.Source.{refused, given, all_names, with_prelude, Reads, AreOfSource, Compiles}
use Rattle.dg_compile.proofs.ComeLemmas.{select_fit, IsKnown, all_come, all_put}
use Rattle.dg_compile.proofs.DeclareLemmas.{IsDeclared, AreDeclared, KeepsNames, all_declared, heads_plain}
use Rattle.dg_compile.proofs.FewLemmas.{FirstsAreNames, IsReady, all_ready, things_fit, items_fit, few_closures, closures_append, few_places}
use Rattle.dg_compile.proofs.NarrowLemmas.{PlacesAreTold, IsNarrow, all_narrow, prelude_narrow}
use Rattle.dg_compile.proofs.PreludeLemmas.{four_names, prelude_items, prelude_ready, prelude_few, no_closures, prelude_declares, all_mentioned}

-- ---- what is read is given

-- what the layers say of the tokens, the items and the names of a source, and of its program
pub record Laws : Type 0 where
  pub spelled : (source : List ℕ) (ts : List Token) → lexing.lex_refusal source ≡ None → IsLexed source ts → All IsSpelledToken (map seen ts)
  pub readable : (ts : List Seen) (is : List Item) → All IsSpelledToken ts → IsRead ts (Ok is) → All IsReadable (mentioned is)
  pub printable : (is : List Item) → All IsReadable (mentioned is) → ArePrintable (names_of is)
  pub among : (is : List Item) → All IsReadable (mentioned is) → All (IsAmong (names_of is)) (mentioned is)
  pub few : (is : List Item) (names : Named) → IsNamed is (Ok names) → AreFew names
  pub small : (is : List Item) (names : Named) → IsNamed is (Ok names) → All IsSmall (mentioned is)
  pub firsts : FirstsAreNames
  pub come : (is : List Item) → MentionsComeFrom is
  pub plain : (is : List Item) → IsPlain (plain_items None is)
  pub small_few : (is : List Item) → SmallAreFew is
  pub put : (is : List Item) → MentionsArePut is
  pub keeps : KeepsNames
  pub declared : (ts : List Seen) (is : List Item) → IsRead ts (Ok is) → AreDeclarations false is
  pub changes : (is new : List Item) → IsRewritten is (Ok new) → All (λ t. is_misplaced (access_rules (plain_items None is)) t ≡ false) (mentioned new)
  pub variables : (is new : List Item) → IsRewritten is (Ok new) → All (λ (i : Item). HasFewVariables i.said) new
  pub closures : (is new : List Item) → IsRewritten is (Ok new) → weight_of closures_at (mentioned new) ≤ 16000
  pub places : PlacesAreTold
  pub prelude : All IsName prelude_names

-- names that a source has are among those of the program too
grown_pred : (laws : Laws) (is : List Item) (n : List ℕ) (o : Option Builtin) → HasPred (names_of is) n o → HasPred (all_names is) n o
grown_pred laws is n (Some b) h = tt
grown_pred laws is n None h =
    let own = names_in predicate_in (mentioned is) in
    (laws.firsts (own ++ prelude_names)).all n (Contains-append_left own prelude_names n ((laws.firsts own).none_else n h))

grown_thing : (laws : Laws) (is : List Item) (t : Thing) → IsAmong (names_of is) t → IsAmong (all_names is) t
grown_thing laws is (query r ps) h = grown_pred laws is (name_of ps) (builtin_named (name_of ps)) h
grown_thing laws is t h = h

-- the rewritten tree of a source
abbrev pub put_in : List Item → List Item
put_in is = put_items (access_rules (plain_items None is)) (plain_items None is)

-- what a source was read and counted to be, and that its tree is rewritten
record IsTaken (is : List Item) : Type 0 where
  readable : All IsReadable (mentioned is)
  named : IsNamed is (Ok (names_of is))
  declared : AreDeclarations false is
  rewritten : IsRewritten is (Ok (put_in is))

things_ready : Laws → (is : List Item) → IsTaken is → All (IsReady (all_names is)) (mentioned (with_prelude (put_in is)))
things_ready laws is taken =
    let d = all_names is in
    let heads = plain_items None is in
    let own = names_in predicate_in (mentioned is) in
    let small = laws.small is (names_of is) taken.named in
    let among = laws.among is taken.readable in
    let source : All (IsKnown d) (mentioned is) = λ k e lt. (grown_thing laws is (get_or (mentioned is) k e) (among k e lt), select_fit _ (taken.readable k e lt) (small k e lt)) in
    let known = all_come d (mentioned is) (mentioned heads) source (laws.come is) in
    let plain = heads_plain is taken.declared (laws.plain is) in
    let put = all_put d (mentioned heads) (mentioned (put_in is)) (λ k e lt. ((known k e lt).0, (known k e lt).1, plain k e lt)) (laws.put heads) in
    all_mentioned (IsReady d) (put_in is) prelude_items
    (all_ready d (access_rules heads) (mentioned (put_in is)) put (laws.changes is (put_in is) taken.rewritten))
    (prelude_ready d (λ n h. (laws.firsts (own ++ prelude_names)).all n (Contains-append_right own prelude_names n h)))

all_if : (P : List ℕ → Type 0) (ns : List (List ℕ)) → ((n : List ℕ) → Contains ns n → P n) → All P ns
all_if P [] h = All-nil P
all_if P (n ∷ ns) h = All-cons P n ns (h n (0, omega arith, refl)) (all_if P ns (λ m k. h m (Contains-append_right (n ∷ []) ns m k)))

preds_given : (laws : Laws) (is : List Item) → All IsName (names_of is).preds → All IsName (all_names is).preds
preds_given laws is h =
    let own = names_in predicate_in (mentioned is) in
    all_if IsName (all_names is).preds (λ n k. which n (Contains-append_cases own prelude_names n ((laws.firsts (own ++ prelude_names)).none_else n k)))
  where
    which : (n : List ℕ) → Contains (names_in predicate_in (mentioned is)) n ⊎ Contains prelude_names n → IsName n
    which n (inl j) = All-contains IsName (names_of is).preds n h ((laws.firsts (names_in predicate_in (mentioned is))).all n j)
    which n (inr j) = All-contains IsName prelude_names n laws.prelude j

preds_narrow : (laws : Laws) (is : List Item) → All IsSmall (mentioned is) → All IsNarrow (all_names is).preds
preds_narrow laws is small =
    let own = names_in predicate_in (mentioned is) in
    all_if IsNarrow (all_names is).preds (λ n k. which n (Contains-append_cases own prelude_names n ((laws.firsts (own ++ prelude_names)).none_else n k)))
  where
    which : (n : List ℕ) → Contains (names_in predicate_in (mentioned is)) n ⊎ Contains prelude_names n → IsNarrow n
    which n (inl j) = All-contains IsNarrow (names_in predicate_in (mentioned is)) n (all_narrow laws.places (mentioned is) small) j
    which n (inr j) = All-contains IsNarrow prelude_names n prelude_narrow j

few_given : (laws : Laws) (is : List Item) → length (names_of is).preds ≤ 4000 → length (all_names is).preds ≤ 65533
few_given laws is few =
    let own = names_in predicate_in (mentioned is) in
    let most = (laws.firsts (own ++ prelude_names)).fewest (firsts own ++ prelude_names) (λ n h. which n (Contains-append_cases own prelude_names n h)) in
    omega (arith, few, most, length-append (firsts own) prelude_names, four_names)
  where
    which : (n : List ℕ) → Contains (names_in predicate_in (mentioned is)) n ⊎ Contains prelude_names n → Contains (firsts (names_in predicate_in (mentioned is)) ++ prelude_names) n
    which n (inl j) = Contains-append_left (firsts (names_in predicate_in (mentioned is))) prelude_names n ((laws.firsts (names_in predicate_in (mentioned is))).all n j)
    which n (inr j) = Contains-append_right (firsts (names_in predicate_in (mentioned is))) prelude_names n j

-- the tree of a program and its names are given where its source is taken
taken_given : Laws → (is : List Item) → IsTaken is → IsGiven (all_names is) (with_prelude (put_in is))
taken_given laws is taken =
    let d = all_names is in
    let all = with_prelude (put_in is) in
    let names = laws.printable is taken.readable in
    let few = laws.few is (names_of is) taken.named in
    let few_preds = few_given laws is few.preds in
    let ready = things_ready laws is taken in
    let each : (t : Thing) → Contains (mentioned all) t → IsReady d t = λ t c. All-contains (IsReady d) (mentioned all) t ready c in
    let variables = All-append (λ (i : Item). HasFewVariables i.said) (put_in is) prelude_items (laws.variables is (put_in is) taken.rewritten) (prelude_few laws.small_few) in
    let declared : AreDeclared all = All-append (λ (i : Item). IsDeclared i.said) (put_in is) prelude_items
    (all_declared laws.keeps (access_rules (plain_items None is)) is taken.declared) prelude_declares in
    record {
      things = λ k e lt. (ready k e lt).among;
      fit = things_fit d (mentioned all) ready;
      items = items_fit d all variables declared each;
      few_closures = omega (arith, closures_append (put_in is) prelude_items, no_closures, few_closures (put_in is), laws.closures is (put_in is) taken.rewritten);
      few_places = few_places laws.firsts d all each declared few_preds;
      preds = preds_given laws is names.preds;
      objects = names.objects;
      words = names.words;
      words_differ = (laws.firsts (names_in thing_words (mentioned is))).differ;
      few_preds = omega (arith, few_preds);
      few_objects = omega (arith, few.objects);
      few_words = omega (arith, few.words);
    }

-- ---- what the law says

-- what was read of a source
record WasRead (is : List Item) : Type 0 where
  readable : All IsReadable (mentioned is)
  declared : AreDeclarations false is

lexed_read : Laws → (is : List Item) (source : List ℕ) (ts : List Seen) → lexing.lex_refusal source ≡ None → (tokens : List Token) → IsLexed source tokens → ts ≡ map seen tokens → IsRead ts (Ok is) → WasRead is
lexed_read laws is source ts accepted tokens lexed e read =
    let same = subst (λ (s : List Seen). IsRead s (Ok is)) e read in
    record { readable = laws.readable (map seen tokens) is (laws.spelled source tokens accepted lexed) same; declared = laws.declared (map seen tokens) is same }

was_read : Laws → (is : List Item) (source : List ℕ) → Reads source (Ok is) → WasRead is
was_read laws is source (refused r h e) = cc
was_read laws is source (given ts l read) = lexed_read laws is source ts l.0 l.1 l.2 l.3 read

pub tree_given : Laws → (is new : List Item) (named : Named) → AreOfSource is → IsNamed is (Ok named) → IsRewritten is (Ok new) → IsGiven (all_names is) (with_prelude new)
tree_given laws is new named from n w =
    let read = was_read laws is from.0 from.1 in
    subst (λ (l : List Item). IsGiven (all_names is) (with_prelude l)) (sym w.1.1)
    (taken_given laws is (record {
      readable = read.readable;
      named = subst (λ (d : Named). IsNamed is (Ok d)) n.1 n;
      declared = read.declared;
      rewritten = subst (λ (l : List Item). IsRewritten is (Ok l)) w.1.1 w;
    }))

pub names_room : Laws → (is : List Item) (named : Named) → IsNamed is (Ok named) → length (all_names is).preds ≤ 65534
names_room laws is named n =
    let few = laws.few is named n in
    let most = few_given laws is (subst (λ (d : Named). length d.preds ≤ 4000) n.1 few.preds) in
    omega (arith, most)

pub names_narrow : Laws → (is : List Item) (named : Named) → IsNamed is (Ok named) → All IsNarrow (all_names is).preds
names_narrow laws is named n = preds_narrow laws is (laws.small is named n)

-- ---- the program

-- what is known of what is lowered
pub record Lowers : Type 0 where
  pub given : (is new : List Item) (named : Named) → AreOfSource is → IsNamed is (Ok named) → IsRewritten is (Ok new) → IsGiven (all_names is) (with_prelude new)
  pub room : (is : List Item) (named : Named) → IsNamed is (Ok named) → length (all_names is).preds ≤ 65534
  pub narrow : (is : List Item) (named : Named) → IsNamed is (Ok named) → All IsNarrow (all_names is).preds
  pub sound : (names : Named) (is : List Item) (core : Core) → IsGiven names is → length names.preds ≤ 65534 → IsLowered names is (Ok core) → IsSound core
  pub asks : (names : Named) (is : List Item) (core : Core) (n : ℕ) → IsGiven names is → length names.preds ≤ 65534 → All (λ m. values_named m ≤ n) names.preds → IsLowered names is (Ok core) → AllAskFew n core
  pub heads : (names : Named) (is : List Item) (core : Core) (n : ℕ) → All (λ m. values_named m ≤ n) names.preds → IsLowered names is (Ok core) → HeadsAreFew n core
  pub holds : (p : Core) → IsSound p → (n : ℕ) → 3 ≤ n → AllAskFew n p → AllHoldFew n p

-- a program is sound, and its goals and heads hold few terms
abbrev IsMade : Core → Type 0
IsMade p = IsSound p × AllHoldFew 12 p × HeadsAreFew 12 p

core_made : (laws : Lowers) (names : Named) (is : List Item) (core : Core) → IsGiven names is → length names.preds ≤ 65534 → All IsNarrow names.preds → IsLowered names is (Ok core) → IsMade core
core_made laws names is core g room narrow l =
    let sound = laws.sound names is core g room l in
    (sound, laws.holds core sound 12 (omega arith) (laws.asks names is core 12 g room narrow l), laws.heads names is core 12 narrow l)

pub compiled_made : Lowers → (source : List ℕ) (p : Core) → Compiles source (Ok p) → IsMade p
compiled_made laws source p (refused r h e) = cc
compiled_made laws source p (given ts l (refused r h e)) = cc
compiled_made laws source p (given ts l (given is read (refused r h e))) = cc
compiled_made laws source p (given ts l (given is read (given n h (refused r k e)))) = cc
compiled_made laws source p (given ts l (given is read (given n h (given new w lowered)))) =
    core_made laws (all_names is) (with_prelude new) p (laws.given is new n (source, given ts l read) h w) (laws.room is n h) (laws.narrow is n h) lowered
