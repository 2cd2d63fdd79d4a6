-- What is kept of sites lies in memory behind a pick.
use Rattle.std.proofs.Common.{◌≡◌, ◌≢◌, ℕ, zero, suc, ◌+◌, ◌/◌, ◌<◌, ◌≤◌, inl, inr, List, [], ◌∷◌, length, Some, refl, sym, ap, ◌∙◌, subst, arith, length-set, get_or}
use Rattle.std.specs.Prelude.{Contains, nat_lt, replicate, slice_set, ◌==◌}
use Rattle.std.specs.List.{slice_get}
use Rattle.std.proofs.lemmas.Bool.{cases_eq, eq-eqb, ne_eqb, lt-ltb, cond-true, cond-false}
use Rattle.std.proofs.lemmas.List.{get_or-set_same, get_or-set_other, length-replicate}
use Rattle.dg_base.specs.declared.program.CoreProgram.{CoreProgram}
use Rattle.dg_base.specs.declared.program.Mode.{Mode}
use Rattle.dg_base.specs.declared.program.Mode.TheVariants.{Stopping, Cycling, PurelyAtRandom, AtRandom, ThenAtRandom, ThenPurelyAtRandom}
use Rattle.dg_base.specs.declared.program.PlaceKind.{PlaceKind}
use Rattle.dg_base.specs.declared.program.PlaceKind.TheVariants.{Flag, ObjectFlag, ObjectVar, Parent, Global}
use Rattle.dg_meaning.specs.Choosing.{Picks, no_picks, picks_at}
use Rattle.dg_meaning.specs.Facts.{Fact, kinds_of}
use Rattle.dg_rt.specs.Picks.{site_word, SiteIn}
use Rattle.dg_rt.specs.Tables.{byte_at}
use Rattle.dg_rt.proofs.Altered.{table_stays, flags_stay}
use Rattle.dg_turn.specs.Told.{Site, Telling}
use Rattle.dg_turn.specs.Sites.{place_of, numbers_of, site_at, SitesIn, HasSites}
use Rattle.dg_turn.specs.World.{place_words, place_bytes, world_end, words_at, bytes_at, PlaceIn, FactsIn}
use Rattle.dg_turn.proofs.Sums.{before_all}
use Rattle.dg_turn.proofs.GlobalFacts.{kept_stay}

-- ## Places

-- a number stands at its place
pub record Placed (n : ℕ) (ks : List ℕ) : Type 0 where
  pub few : place_of n ks < length ks
  pub any : (d : ℕ) → get_or ks (place_of n ks) d ≡ n

-- one that isn't the first stands behind it
behind : (n k : ℕ) (ks : List ℕ) → k ≢ n → Contains (k ∷ ks) n → Contains ks n
behind n k ks ne (zero, lt, is) = absurd (ne is)
behind n k ks ne (suc i, lt, is) = (i, (omega arith), is)

placed : (n : ℕ) (ks : List ℕ) → Contains ks n → Placed n ks
placed n [] c = absurd (let lt = c.1 in omega arith)
placed n (k ∷ ks) c = elim (cases_eq k n) [
  | inl e ↦
      let here : place_of n (k ∷ ks) ≡ 0 = cond-true (k == n) 0 (suc (place_of n ks)) (eq-eqb k n e) in
      record { few = omega (arith, here); any = λ d. ap (λ (i : ℕ). get_or (k ∷ ks) i d) here ∙ e }
  | inr ne ↦
      let p = placed n ks (behind n k ks ne c) in
      let few = p.few in
      let here : place_of n (k ∷ ks) ≡ suc (place_of n ks) = cond-false (k == n) 0 (suc (place_of n ks)) (ne_eqb k n ne) in
      record { few = omega (arith, here); any = λ d. ap (λ (i : ℕ). get_or (k ∷ ks) i d) here ∙ p.any d }
]

-- so does that of a site
site_number : (sites : List Site) (s : Site) → Contains sites s → Contains (numbers_of sites) s.number
site_number [] s c = absurd (let lt = c.1 in omega arith)
site_number (x ∷ sites) s (zero, lt, is) = (0, (omega arith), ap (λ (y : Site). y.number) is)
site_number (x ∷ sites) s (suc i, lt, is) = let r = site_number sites s (i, (omega arith), is) in let few = r.1 in (suc r.0, (omega arith), r.2)

pub numbers_long : (sites : List Site) → length (numbers_of sites) ≡ length sites
numbers_long [] = refl
numbers_long (s ∷ sites) = ap suc (numbers_long sites)

pub site_placed : (sites : List Site) (s : Site) → Contains sites s → Placed s.number (numbers_of sites)
site_placed sites s c = placed s.number (numbers_of sites) (site_number sites s c)

-- other sites have other places
places_differ : (sites : List Site) (a b : Site) → Contains sites a → Contains sites b → a.number ≢ b.number → place_of a.number (numbers_of sites) ≢ place_of b.number (numbers_of sites)
places_differ sites a b ca cb ne e =
    let p = site_placed sites a ca in
    let q = site_placed sites b cb in
    ne (sym (p.any 0) ∙ ap (λ (i : ℕ). get_or (numbers_of sites) i 0) e ∙ q.any 0)

-- ## What is kept

pub picks_here : (kept : List Picks) (n : ℕ) (p : Picks) → n < length kept → picks_at (slice_set kept n p) n ≡ p
picks_here kept n p lt = get_or-set_same kept n p no_picks lt

pub picks_there : (kept : List Picks) (n j : ℕ) (p : Picks) → j ≢ n → picks_at (slice_set kept n p) j ≡ picks_at kept j
picks_there kept n j p ne = get_or-set_other kept n j p no_picks ne

-- Behind a pick words stand for what is kept where that of its site does, and the others are the same.
pub sites_behind : (t : Telling) → HasSites t → (kept : List Picks) (words words' : ℕ → ℕ) (s : Site) (p : Picks) → Contains t.sites s → SitesIn t kept words →
    (2 ≤ s.branches → SiteIn s.mode s.branches p (words' (site_at t.program (numbers_of t.sites) s.number))) →
    ((k : ℕ) → k ≢ site_at t.program (numbers_of t.sites) s.number → words' k ≡ words k) → SitesIn t (slice_set kept s.number p) words'
sites_behind t has kept words words' s p known h here others = record {
  all = length-set kept s.number p ∙ h.all;
  each = λ x c two. elim (cases_eq x.number s.number) [ inl e ↦ same x c two e | inr ne ↦ other x c two ne ];
}
  where
    at : ℕ → ℕ
    at n = site_at t.program (numbers_of t.sites) n

    same : (x : Site) → Contains t.sites x → 2 ≤ x.branches → x.number ≡ s.number → SiteIn x.mode x.branches (picks_at (slice_set kept s.number p) x.number) (words' (at x.number))
    same x c two e =
        let a = has.are.alike x s c known e in
        let lt : s.number < length kept = (let k = has.are.known s known in let l = h.all in omega arith) in
        let site = here (subst (λ (k : ℕ). 2 ≤ k) a.1 two) in
        rw (e, a.0, a.1, picks_here kept s.number p lt) site

    other : (x : Site) → Contains t.sites x → 2 ≤ x.branches → x.number ≢ s.number → SiteIn x.mode x.branches (picks_at (slice_set kept s.number p) x.number) (words' (at x.number))
    other x c two ne =
        let differ = places_differ t.sites x s c known ne in
        rw (picks_there kept s.number x.number p ne, others (at x.number) (λ (e : at x.number ≡ at s.number). differ (omega arith))) (h.each x c two)

-- Words stand for the same where those behind the world are the same.
pub sites_same : (t : Telling) (kept : List Picks) (words words' : ℕ → ℕ) → ((k : ℕ) → world_end t.program ≤ k → words' k ≡ words k) → SitesIn t kept words → SitesIn t kept words'
sites_same t kept words words' same h = record {
  all = h.all;
  each = λ s c two. rw (same (site_at t.program (numbers_of t.sites) s.number) (omega arith)) (h.each s c two);
}

-- ## The start

-- the word of a site from which nothing was picked
first_word : (mode : Mode) (k : ℕ) → 2 ≤ k → site_word mode k no_picks ≡ 0
first_word Stopping k two = omega arith
first_word Cycling k two = omega arith
first_word PurelyAtRandom k two = refl
first_word AtRandom k two = refl
first_word ThenAtRandom k two = cond-true (nat_lt 0 k) 0 (k + 0) (lt-ltb 0 k (omega arith))
first_word ThenPurelyAtRandom k two = omega arith

none_picked : (n k : ℕ) (p : Picks) → get_or (replicate n p) k p ≡ p
none_picked zero k p = refl
none_picked (suc n) zero p = refl
none_picked (suc n) (suc k) p = none_picked n k p

-- Words of zero stand for sites from which nothing was picked.
pub sites_start : (t : Telling) (words : ℕ → ℕ) → ((k : ℕ) → world_end t.program ≤ k → words k ≡ 0) → SitesIn t (replicate t.program.sites no_picks) words
sites_start t words none = record {
  all = length-replicate t.program.sites no_picks;
  each = λ s c two.
      let site = site_at t.program (numbers_of t.sites) s.number in
      let picks : picks_at (replicate t.program.sites no_picks) s.number ≡ no_picks = none_picked t.program.sites s.number no_picks in
      subst (λ (p : Picks). SiteIn s.mode s.branches p (words site)) (sym picks) (record { last = omega arith; is = none site (omega arith) ∙ sym (first_word s.mode s.branches two) });
}

-- ## The world in front

-- The facts are those that the words in front of the sites say.
pub facts_within : (program : CoreProgram) (facts : List Fact) (words words' : ℕ → ℕ) → ((k : ℕ) → k < world_end program → words' k ≡ words k) → FactsIn program facts words → FactsIn program facts words'
facts_within program facts words words' same h = record {
  each = λ place kind e. by_kind place kind e (h.each place kind e);
  kept = kept_stay program facts facts words words' (λ place e. refl) (λ k lo hi. same k (omega arith)) (λ place e. (first_is place e, word_is place 2 Global e refl 1 (omega arith))) h.kept;
}
  where
    n : ℕ
    n = length program.objects

    kinds : List PlaceKind
    kinds = kinds_of program

    word_is : (place k : ℕ) (kind : PlaceKind) → slice_get kinds place ≡ Some kind → place_words n kind ≡ k → (o : ℕ) → o < k → words' (words_at program place + o) ≡ words (words_at program place + o)
    word_is place k kind e size o lt = same (words_at program place + o) (let b = before_all (place_words n) kinds place kind e in omega arith)

    first_is : (place : ℕ) → slice_get kinds place ≡ Some Global → words' (words_at program place) ≡ words (words_at program place)
    first_is place e = same (words_at program place) (let b = before_all (place_words n) kinds place Global e in let two : place_words n Global ≡ 2 = refl in omega arith)

    byte_is : (place o : ℕ) → slice_get kinds place ≡ Some ObjectFlag → o < n → byte_at words' (bytes_at program place + o) ≡ byte_at words (bytes_at program place + o)
    byte_is place o e lt =
        let b = before_all (place_bytes n) kinds place ObjectFlag e in
        let q = same ((bytes_at program place + o) / 2) (omega arith) in
        rw q refl

    by_kind : (place : ℕ) (kind : PlaceKind) → slice_get kinds place ≡ Some kind → PlaceIn program facts words place kind → PlaceIn program facts words' place kind
    by_kind place Flag e old = table_stays words words' (words_at program place) 1 place facts facts (λ o. refl) (word_is place 1 Flag e refl) old
    by_kind place ObjectFlag e old = flags_stay words words' (bytes_at program place) n place facts facts (λ o. refl) (λ o lt. byte_is place o e lt) old
    by_kind place ObjectVar e old = table_stays words words' (words_at program place) n place facts facts (λ o. refl) (word_is place n ObjectVar e refl) old
    by_kind place Parent e old = table_stays words words' (words_at program place) n place facts facts (λ o. refl) (word_is place n Parent e refl) old
    by_kind place Global e old = tt
