-- What is known of all that a source mentions is known of what is mentioned once its heads are plain and its access rules are put in.
use Rattle.std.proofs.Common.{◌≡◌, ◌≤◌, ℕ, List, true, sym, subst}
use Rattle.std.specs.List.{All, Contains}
use Rattle.std.proofs.lemmas.List.Elements.{All-contains}
use Rattle.dg_plain.specs.Comes.{is_free, ComesFrom, free, same, topic, again, asked, left, chosen, equation}
use Rattle.dg_base.specs.Mentions.{Thing, topic_line, query, variable, word_choice, other, branches, select}
use Rattle.dg_base.specs.Names.{builtin_named}
use Rattle.dg_base.specs.Readable.{IsReadable}
use Rattle.dg_base.specs.Tree.{Parts}
use Rattle.dg_base.specs.declared.mentions.Role.{Role}
use Rattle.dg_base.specs.declared.mentions.Role.TheVariants as role
use Rattle.dg_core.specs.Matches.{IsPlain}
use Rattle.dg_access.specs.Comes as put
use Rattle.dg_access.specs.Comes.{is_made, PutFrom}
use Rattle.dg_names.specs.Among.{HasPred, IsAmong, IsSmall}
use Rattle.dg_names.specs.Named.{Named}
use Rattle.dg_compile.proofs.Never.{never}

-- a select has a branch, and few of them
abbrev pub IsSelectFit : Thing → Type 0
IsSelectFit (select n) = (1 ≤ n) × (n ≤ 500)
IsSelectFit t = Unit {0}

pub select_fit : (t : Thing) → IsReadable t → IsSmall t → IsSelectFit t
select_fit (select n) r s = (r, s)
select_fit t r s = tt

-- its names are among these, and it is no such select
abbrev pub IsKnown : Named → Thing → Type 0
IsKnown d t = IsAmong d t × IsSelectFit t

-- a predicate of this name is among the names, or built in
abbrev Asks : Named → List ℕ → Type 0
Asks d name = HasPred d name (builtin_named name)

-- ---- plain heads

free_known : (d : Named) (t : Thing) → is_free t ≡ true → IsKnown d t
free_known d (variable n) e = (tt, tt)
free_known d (other form) e = (tt, tt)
free_known d (branches n) e = (tt, tt)
free_known d t e = never e

come_known : (d : Named) (ts : List Thing) → All (IsKnown d) ts → (t : Thing) → ComesFrom ts t → IsKnown d t
come_known d ts h t (free u e) = free_known d u e
come_known d ts h t (same u c) = All-contains (IsKnown d) ts u h c
come_known d ts h t (topic n c) = ((All-contains (IsKnown d) ts (topic_line n) h c).0, tt)
come_known d ts h t (again r ps qs e c) = (subst (Asks d) e (All-contains (IsKnown d) ts (query r ps) h c).0, tt)
come_known d ts h t (asked ps qs e c) = (subst (Asks d) e (All-contains (IsKnown d) ts (query role.Nested ps) h c).0, tt)
come_known d ts h t (left a b c) = (tt, tt)
come_known d ts h t (chosen ws w c k) = (All-contains (Contains d.words) ws w (All-contains (IsKnown d) ts (word_choice ws) h c).0 k, tt)
come_known d ts h t (equation ps e) = (subst (Asks d) (sym e) tt, tt)

pub all_come : (d : Named) (ts us : List Thing) → All (IsKnown d) ts → All (ComesFrom ts) us → All (IsKnown d) us
all_come d ts us h come = λ k e lt. come_known d ts h _ (come k e lt)

-- ---- access rules

-- it is known, and no query that stands as a value
abbrev pub IsPlainKnown : Named → Thing → Type 0
IsPlainKnown d t = IsAmong d t × IsSelectFit t × IsPlain t

made_known : (d : Named) (t : Thing) → is_made t ≡ true → IsPlainKnown d t
made_known d (variable n) e = (tt, tt, tt)
made_known d (other form) e = (tt, tt, tt)
made_known d (branches n) e = (tt, tt, tt)
made_known d t e = never e

same_role : (r : Role) (ps qs : Parts) → IsPlain (query r ps) → IsPlain (query r qs)
same_role role.Nested ps qs h = h
same_role r ps qs h = tt

put_known : (d : Named) (ts : List Thing) → All (IsPlainKnown d) ts → (t : Thing) → PutFrom ts t → IsPlainKnown d t
put_known d ts h t (put.made u e) = made_known d u e
put_known d ts h t (put.same u c) = All-contains (IsPlainKnown d) ts u h c
put_known d ts h t (put.again r ps qs e c) =
    let known = All-contains (IsPlainKnown d) ts (query r ps) h c in
    (subst (Asks d) e known.0, tt, same_role r ps qs known.2)
put_known d ts h t (put.left a b c) = (tt, tt, tt)
put_known d ts h t (put.changed s set r ks ps qs c turned e k) = (subst (Asks d) e (All-contains (IsPlainKnown d) ts (query r ps) h k).0, tt, tt)
put_known d ts h t (put.headed r ps qs turned e c) = (subst (Asks d) e (All-contains (IsPlainKnown d) ts (query r ps) h c).0, tt, tt)

pub all_put : (d : Named) (ts us : List Thing) → All (IsPlainKnown d) ts → All (PutFrom ts) us → All (IsPlainKnown d) us
all_put d ts us h come = λ k e lt. put_known d ts h _ (come k e lt)
